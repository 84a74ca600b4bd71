-- Calls that wait when a step has given up those that are too old.
use Rattle.std.proofs.Common.{◌≡◌, ℕ, zero, suc, ◌+◌, ◌<◌, ◌≤◌, Bool, true, false, List, [], ◌∷◌, refl, sym, ap, ◌∙◌, arith, inl, inr, Option, Some, None}
use Rattle.std.specs.Prelude.{max, ◌-◌, ◌==◌, nat_le, if◌then◌else◌}
use Rattle.std.specs.List.{range_with_len}
use Rattle.std.proofs.lemmas.Bool.Decides.{eqb_tells, leb_tells}
use Rattle.raft_core.specs.Handled.{moves_of_expire}
use Rattle.raft_core.specs.Times.{HandedIn, Sending, Times, given_at, is_overdue, overdue, times_after_all}
use Rattle.raft_model.specs.Handlers.{server_after_all}
use Rattle.raft_model.specs.Lists.{In, at}
use Rattle.raft_model.specs.Messages.{Request}
use Rattle.raft_model.specs.Server.{Memory, RaftServer}
use Rattle.alloc_spec.specs.Step.{all_nodes, at_moment, begin_phase}
use Rattle.alloc_spec.specs.AllocatorState.{AllocatorState, members_of}
use Rattle.bus_agreement.proofs.Lists.{never, tell}

-- the plain server and the times after calls are given up
pub record IsLeft (before after : Memory) (times later : Times) (nodes : List ℕ) (peer : ℕ) (request : Request) : Type 0 where
  pub pending : before.pending peer ≡ Some request
  pub sending : later.sending peer ≡ times.sending peer
  pub kept : In peer nodes → ⊥

left_one : (pending : ℕ → Option Request) (node peer : ℕ) (request : Request) → at pending node None peer ≡ Some request
    → ((peer == node) ≡ false) × (pending peer ≡ Some request)
left_one pending node peer request e = elim (tell (peer == node)) [
  | inl b ↦ absurd (cc (rw b at e))
  | inr b ↦ (b, rw b at e)
]

other_sends : (sending : ℕ → Option Sending) (node peer : ℕ) → (peer == node) ≡ false → at sending node None peer ≡ sending peer
other_sends sending node peer e = ap (λ (b : Bool). if b then None else sending peer) e

apart : (a b : ℕ) → (a == b) ≡ false → a ≡ b → ⊥
apart a b e same = elim (eqb_tells a b) [ inl is ↦ never (sym e ∙ is.0) | inr differ ↦ differ.1 same ]

module _ (members : List ℕ) (me number : ℕ) (given : HandedIn) (peer : ℕ) (request : Request) where
  left : (nodes : List ℕ) (raft_server : RaftServer) (times : Times)
      → (server_after_all members me number raft_server (moves_of_expire nodes)).memory.pending peer ≡ Some request
      → IsLeft raft_server.memory (server_after_all members me number raft_server (moves_of_expire nodes)).memory times
      (times_after_all members me number given raft_server (moves_of_expire nodes) times) nodes peer request
  left [] raft_server times e = record { pending = e; sending = refl; kept = λ i. i }
  left (node ∷ nodes) raft_server times e =
      let raft_server_then = record raft_server { memory = record raft_server.memory { pending = at raft_server.memory.pending node None } } in
      let times_then = record times { sending = at times.sending node None } in
      let later = left nodes raft_server_then times_then e in
      let one = left_one raft_server.memory.pending node peer request later.pending in record {
        pending = one.1;
        sending = later.sending ∙ other_sends times.sending node peer one.0;
        kept = λ i. elim i [ inl same ↦ apart peer node one.0 same | inr j ↦ later.kept j ];
      }

-- whoever gives up calls stores nothing
pub store_stays : (members : List ℕ) (me number : ℕ) (nodes : List ℕ) (raft_server : RaftServer)
    → (server_after_all members me number raft_server (moves_of_expire nodes)).store ≡ raft_server.store
store_stays members me number [] raft_server = refl
store_stays members me number (node ∷ nodes) raft_server =
    store_stays members me number nodes (record raft_server { memory = record raft_server.memory { pending = at raft_server.memory.pending node None } })

-- ---- which calls are given up

in_range : (from count x : ℕ) → from ≤ x → x < from + count → In x (range_with_len from count)
in_range from zero x low high = absurd (omega (arith, low, high))
in_range from (suc count) x low high = elim (eqb_tells x from) [
  | inl same ↦ inl same.1
  | inr differ ↦ inr (in_range (from + 1) count x (omega (arith, low, differ.1)) (omega (arith, high)))
]

a_node : (peer : ℕ) → peer < 128 → In peer all_nodes
unfolding all_nodes
a_node peer small = in_range 0 128 peer (omega arith) (omega (arith, small))

is_given_up : (times : Times) (now peer : ℕ) (nodes : List ℕ) → In peer nodes → is_overdue (times.sending peer) now ≡ true → In peer (overdue times now nodes)
is_given_up times now peer [] i old = absurd i
is_given_up times now peer (node ∷ nodes) (inl e) old = by (is_overdue (times.sending node) now) (ap (λ (n : ℕ). is_overdue (times.sending n) now) (sym e) ∙ old) where
  by : (b : Bool) → b ≡ true → In peer (if b then node ∷ overdue times now nodes else overdue times now nodes)
  by true is = inl e
  by false is = never is
is_given_up times now peer (node ∷ nodes) (inr j) old = by (is_overdue (times.sending node) now) (is_given_up times now peer nodes j old) where
  by : (b : Bool) → In peer (overdue times now nodes) → In peer (if b then node ∷ overdue times now nodes else overdue times now nodes)
  by true k = inr k
  by false k = k

-- a call that waits when the step has begun waited before, for less than 1,000 ms
pub record Waits (t : AllocatorState) (now peer : ℕ) (request : Request) (sending : Sending) : Type 0 where
  pub pending : t.raft_server.memory.pending peer ≡ Some request
  pub sent : t.times.sending peer ≡ Some sending
  pub young : now - sending.moment < 1000

young_from : (a b : ℕ) → nat_le a b ≡ false → b < a
young_from a b e = elim (leb_tells a b) [ inl is ↦ never (sym e ∙ is.0) | inr not_so ↦ not_so.1 ]

pub waited : (t : AllocatorState) (number moment peer : ℕ) → peer < 128 → (request : Request) (sending : Sending)
    → (begin_phase number moment t).allocator.raft_server.memory.pending peer ≡ Some request
    → (begin_phase number moment t).allocator.times.sending peer ≡ Some sending → Waits t (max t.now moment) peer request sending
waited t number moment peer small request sending pending sent = record {
  pending = is.pending;
  sent = same;
  young = elim (tell (is_overdue (t.times.sending peer) now)) [
    | inl old ↦ absurd (is.kept (is_given_up t.times now peer all_nodes (a_node peer small) old))
    | inr old ↦ young_from 1000 (now - sending.moment) (sym (ap (λ (o : Option Sending). is_overdue o now) same) ∙ old)
  ];
}
  where
    now : ℕ
    now = max t.now moment

    is : IsLeft t.raft_server.memory (begin_phase number moment t).allocator.raft_server.memory t.times (begin_phase number moment t).allocator.times (overdue t.times now all_nodes) peer request
    is = left (members_of (at_moment now t)) t.me number (given_at now) peer request (overdue t.times now all_nodes) t.raft_server t.times pending

    same : t.times.sending peer ≡ Some sending
    same = sym is.sending ∙ sent
