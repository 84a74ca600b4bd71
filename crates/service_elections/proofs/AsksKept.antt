-- What a step leaves of a server's call to one peer, until it makes its calls; and that no pending call is later than
-- the server's clock.
use Rattle.std.proofs.Common.{◌≡◌, ℕ, ◌≤◌, arith, Bool, true, false, List, drop, refl, sym, ◌∙◌, inl, inr, max, Option, None, Some}
use Rattle.std.specs.Prelude.{◌⊎◌}
use Rattle.std.proofs.lemmas.Bool.Decides.{eqb_tells}
use Rattle.can_frame.specs.declared.step.What.TheVariants.{AppQ, VoteQ}
use Rattle.raft_core.specs.Times.{Sending}
use Rattle.raft_model.specs.Lists.{at, at_here, at_other}
use Rattle.raft_model.specs.Messages.{Request}
use Rattle.raft_model.specs.Moves.{puts}
use Rattle.raft_model.specs.Moves.Leading.{append_request, vote_request}
use Rattle.raft_model.specs.Moves.Move.{CallForVote, CallToAppend}
use Rattle.raft_model.specs.Server.Role.{Candidate}
use Rattle.bus_rows.specs.declared.row.Row.{Row}
use Rattle.alloc_spec.specs.AllocatorState.{AllocatorState, members_of}
use Rattle.alloc_spec.specs.Step.{Event, moment_of, step}
use Rattle.alloc_spec.specs.StepState.{StepState}
use Rattle.alloc_spec.specs.Transfers.{id_of}
use Rattle.alloc_spec_laws.specs.Phases.{when_told}
use Rattle.service_leader.proofs.TermsSaid.{puts_rise, risen}
use Rattle.service_calm.proofs.CallsOffered.{all_keep, called, same_after}
use Rattle.service_calm.proofs.Counting.{now_after}
use Rattle.service_calm.proofs.EachServer.{in_each}
use Rattle.service_calm.proofs.PeerMoves.{HoldsOf, IsKeptByMoves, OfPeer, TermsGo, until_calls}
use Rattle.bus_spec.specs.Cluster.{world_of}
use Rattle.bus_spec.specs.Members.MemberStatus.{Up}

-- terms do not fall
abbrev Rises : ℕ → ℕ → Type 0
Rises low high = low ≤ high

terms_rise : TermsGo Rises
terms_rise members me number server move = risen (puts members me server move) server.store (puts_rise members me server move)

-- ---- no pending call is later than the clock

-- a pending call to the peer was made by this moment
abbrev pub CalledBy : ℕ → Option Request → Option Sending → Type 0
CalledBy moment p s = (request : Request) → p ≡ Some request → (call : Sending) × (s ≡ Some call) × (call.moment ≤ moment)

abbrev IsBy : ℕ → OfPeer
IsBy moment r term p s a l = CalledBy moment p s

by_kept : (moment : ℕ) → IsKeptByMoves Rises (IsBy moment)
by_kept moment = record {
  ended = λ r term p s a l h request e. absurd (cc e);
  voted = λ r term p s a l h request e. absurd (cc e);
  won = λ r term p s a b l h request e. absurd (cc e);
  stood = λ r term p s a l h request e. absurd (cc e);
  follows = λ r term p s a l h. h;
  rises = λ r term more p s a l up h. h;
}

-- a call to a peer is made by its moment
called_at : (m q moment : ℕ) (pending : ℕ → Option Request) (sending : ℕ → Option Sending) (request : Request) (call : Sending) → call.moment ≤ moment
    → CalledBy moment (pending m) (sending m) → CalledBy moment (at pending q (Some request) m) (at sending q (Some call) m)
called_at m q moment pending sending request call low h asked e = elim (eqb_tells m q) [
  | inl z ↦ (call, at_here sending q m (Some call) z.1, low)
  | inr z ↦ let k = h asked (sym (at_other pending q m (Some request) z.1) ∙ e) in (k.0, at_other sending q m (Some call) z.1 ∙ k.1, k.2)
]

abbrev AreBy : (m moment : ℕ) → StepState → Type 0
AreBy m moment g = (g.allocator.now ≤ moment) × CalledBy moment (g.allocator.raft_server.memory.pending m) (g.allocator.times.sending m)

by_votes : (number m moment q : ℕ) (request : Request) (payload : List ℕ) (fits : Bool) (g : StepState) → g.allocator.raft_server.memory.role ≡ Candidate
    → AreBy m moment g → AreBy m moment (called number VoteQ q (CallForVote q) request payload fits g)
by_votes number m moment q request payload true g role h = (
  h.0,
  called_at m q moment g.allocator.raft_server.memory.pending g.allocator.times.sending
      (vote_request g.allocator.me number g.allocator.raft_server.store q) (record { id = id_of g.allocator.ids VoteQ q; moment = g.allocator.now }) h.0 h.1,
)
by_votes number m moment q request payload false g role h = h

by_appends : (number m moment q previous : ℕ) (request : Request) (payload : List ℕ) (fits : Bool) (g : StepState)
    → AreBy m moment g → AreBy m moment (called number AppQ q (CallToAppend q previous true) request payload fits g)
by_appends number m moment q previous request payload true g h = (
  h.0,
  called_at m q moment g.allocator.raft_server.memory.pending g.allocator.times.sending
      (append_request g.allocator.me number g.allocator.raft_server.store q previous true) (record { id = id_of g.allocator.ids AppQ q; moment = g.allocator.now }) h.0 h.1,
)
by_appends number m moment q previous request payload false g h = h

-- so it is by the server's own clock
abbrev pub IsPast : ℕ → AllocatorState → Type 0
IsPast m t = CalledBy t.now (t.raft_server.memory.pending m) (t.times.sending m)

pub by_later : (low high : ℕ) (p : Option Request) (s : Option Sending) → low ≤ high → CalledBy low p s → CalledBy high p s
by_later low high p s le h request e = let k = h request e in (k.0, k.1, let b = k.2 in omega (arith, b, le))

past_stays : (m : ℕ) (t : AllocatorState) (number : ℕ) (event : Event) → IsPast m t → IsPast m (step t number event).step_state.allocator
unfolding step
past_stays m t number event h =
    by_later then_now (step t number event).step_state.allocator.now _ _ (let after = now_after t number event in omega (arith, after))
    (all_keep number (AreBy m then_now) (by_votes number m then_now) (by_appends number m then_now) (drop 1 (members_of told.allocator)) told (told_now, told_by)).1
  where
    then_now : ℕ
    then_now = max t.now (moment_of event)

    told : StepState
    told = when_told t number event

    told_now : told.allocator.now ≤ then_now
    told_now = let same = (same_after t number event).1 in let after = now_after t number event in omega (arith, same, after)

    told_by : CalledBy then_now (told.allocator.raft_server.memory.pending m) (told.allocator.times.sending m)
    told_by = until_calls m Rises (IsBy then_now) (by_kept then_now) terms_rise number t event (by_later t.now then_now _ _ (omega arith) h)

-- so it is in each world that rows reach
pub past_in : (ids : List ℕ) (list : List Row) (p : ℕ) (t : AllocatorState) → ((world_of ids list).member p).status ≡ Up t → (m : ℕ) → IsPast m t
past_in ids list p t e m = in_each (IsPast m) (λ n rules store moment word request f. absurd (cc f)) (past_stays m) (λ u h. h) ids list p t e

-- ---- a candidate in the term that it had

-- Of a candidate in this term: the peer has answered; or it has as before, and no call to it is pending, or the one that
-- was.
abbrev pub Settled : (top : ℕ) → Option Request → Option Sending → Bool → OfPeer
Settled top p0 s0 a0 r term p s a l = (top ≤ term) × (r ≡ Candidate → term ≡ top → (a ≡ true) ⊎ ((a ≡ a0) × ((p ≡ None) ⊎ ((p ≡ p0) × (s ≡ s0)))))

pub settled_kept : (top : ℕ) (p0 : Option Request) (s0 : Option Sending) (a0 : Bool) → IsKeptByMoves Rises (Settled top p0 s0 a0)
settled_kept top p0 s0 a0 = record {
  ended = λ r term p s a l h. (h.0, λ role same. elim (h.1 role same) [ inl x ↦ inl x | inr x ↦ inr (x.0, inl refl) ]);
  voted = λ r term p s a l h. (h.0, λ role same. inl refl);
  won = λ r term p s a b l h. (h.0, λ role same. absurd (cc role));
  stood = λ r term p s a l h. (let low = h.0 in omega (arith, low), λ role same. absurd (let low = h.0 in omega (arith, low, same)));
  follows = λ r term p s a l h. (h.0, λ role same. absurd (cc role));
  rises = λ r term more p s a l up h. (let low = h.0 in omega (arith, low, up), λ role same. h.1 role (let low = h.0 in omega (arith, low, up, same)));
}

-- so it is when the step makes its calls
pub settled_then : (m : ℕ) (t : AllocatorState) (number : ℕ) (event : Event)
    → HoldsOf m (Settled t.raft_server.store.term (t.raft_server.memory.pending m) (t.times.sending m) (t.times.answered m)) (when_told t number event).allocator
settled_then m t number event = until_calls m Rises (Settled t.raft_server.store.term (t.raft_server.memory.pending m) (t.times.sending m) (t.times.answered m))
    (settled_kept t.raft_server.store.term (t.raft_server.memory.pending m) (t.times.sending m) (t.times.answered m)) terms_rise number t event
    (omega arith, λ role same. inr (refl, inr (refl, refl)))
