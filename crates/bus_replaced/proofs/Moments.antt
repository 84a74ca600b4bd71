-- The headline of two moments of a run with replacements.
use Rattle.std.proofs.Common.{◌≡◌, ℕ, ◌≤◌, Bool, true, List, [], ◌∷◌, length, take, refl, sym, ap, subst, ◌∙◌, arith, inl, inr}
use Rattle.std.proofs.lemmas.Bool.Decides.{eqb_tells}
use Rattle.can_frame.specs.declared.entry.Entry.{Entry}
use Rattle.can_frame.specs.Log.{IsPrefix}
use Rattle.raft_model.specs.Invariants.{Invariants, IsSettled, StaysSettled}
use Rattle.raft_model.specs.Lists.{In}
use Rattle.raft_model.specs.Runs.{World}
use Rattle.raft_model.specs.Safety.{IsSafe, Lasts}
use Rattle.raft_model.specs.Server as raft
use Rattle.raft_model.specs.Server.{RaftServer, Store}
use Rattle.raft_model.specs.Server.Role.{Leader}
use Rattle.alloc_spec.specs.AllocatorState.{AllocatorState}
use Rattle.bus_spec.specs.Cluster.{Cluster}
use Rattle.bus_spec.specs.Logs.{committed, stored}
use Rattle.bus_spec.specs.Members.MemberStatus.{Up}
use Rattle.bus_agreement.specs.Headline.{Headline, the_list}
use Rattle.bus_agreement.specs.Mirrors.{Mirrors}
use Rattle.bus_agreement.proofs.HeadlineOfRuns.{are_formed, are_proper, is_injective, is_offered, is_shown, longest_is, of_list, same_log}
use Rattle.bus_agreement.proofs.Prefixes.{prefix_joined}

whole : (l : List Entry) → take (length l) l ≡ l
whole [] = refl
whole (e ∷ l) = ap (λ (r : List Entry). e ∷ r) (whole l)

module _ (choice : ℕ → Bool) (now later : Cluster) (early late : World) (ids : later.ids ≡ now.ids) (mirrors : Mirrors choice now early)
    (mirrored : Mirrors choice later late) (safe : IsSafe early) (sound : Invariants early) (still_safe : IsSafe late) (still_sound : Invariants late)
    (lasts : Lasts early late) (stays : StaysSettled early late) where
  there_too : (n : ℕ) → In n now.ids → In n later.ids
  there_too n listed = subst (λ (ns : List ℕ). In n ns) (sym ids) listed

  kept : (n : ℕ) → In n now.ids → IsPrefix (committed choice now n) (committed choice later n)
  kept n listed = subst (λ (l : List Entry). IsPrefix l (committed choice later n)) (same_log choice now early mirrors safe sound n listed)
      (subst (λ (l : List Entry). IsPrefix (raft.committed (early.server n).store) l) (same_log choice later late mirrored still_safe still_sound n (there_too n listed))
      (lasts.committed_here n))

  grows : IsPrefix (the_list choice now) (the_list choice later)
  grows = elim (longest_is choice now now.ids) [
    | inl none ↦ subst (λ (l : List Entry). IsPrefix l (the_list choice later)) (sym none) refl
    | inr some ↦ subst (λ (l : List Entry). IsPrefix l (the_list choice later)) (sym some.2)
        (prefix_joined (committed choice now some.0) (committed choice later some.0) (the_list choice later) (kept some.0 some.1)
        (of_list choice later late mirrored still_safe still_sound some.0 (there_too some.0 some.1)))
  ]

  -- what was settled by a term of at most this one begins the list of this one, which has a leader by now
  begins : (log : List Entry) (term top : ℕ) → IsSettled early log term → term ≤ top → late.history.led top ≡ true → IsPrefix log (late.history.list top)
  begins log term top settled h led = let still : IsSettled late log term = stays log term settled in
      elim (eqb_tells term top) [
        | inl same ↦ subst (λ (t : ℕ). IsPrefix log (late.history.list t)) same.1 (sym still.3 ∙ whole log)
        | inr apart ↦ still_sound.complete log term top still (omega (arith, h, apart.1)) led
      ]

  leader_has : (n leader : ℕ) (server : AllocatorState) → In n now.ids → In leader now.ids → (later.member leader).status ≡ Up server
      → server.raft_server.memory.role ≡ Leader → (stored choice now n).term ≤ server.raft_server.store.term
      → IsPrefix (committed choice now n) server.raft_server.store.log
  leader_has n leader server listed led_by runs leads h =
      let same : late.server leader ≡ server.raft_server = mirrored.serves leader server (there_too leader led_by) runs in
      let role : (late.server leader).memory.role ≡ Leader = ap (λ (p : RaftServer). p.memory.role) same ∙ leads in
      let leading = still_sound.leaders.leading leader role in
      let term : (early.server n).store.term ≤ (late.server leader).store.term
      = omega (arith, h, ap (λ (s : Store). s.term) (mirrors.stored n listed), ap (λ (p : RaftServer). p.store.term) same) in
      let held : IsPrefix (raft.committed (early.server n).store) (late.server leader).store.log = subst (λ (l : List Entry). IsPrefix (raft.committed (early.server n).store) l) (sym leading.2)
      (elim (sound.commits.servers n) [
        | inl none ↦ subst (λ (l : List Entry). IsPrefix l (late.history.list (late.server leader).store.term)) (sym (ap (λ (k : ℕ). take k (early.server n).store.log) none)) refl
        | inr some ↦ begins (raft.committed (early.server n).store) some.0 (late.server leader).store.term some.2 (omega (arith, some.1, term)) leading.0
      ]) in
      subst (λ (l : List Entry). IsPrefix l server.raft_server.store.log) (same_log choice now early mirrors safe sound n listed)
      (subst (λ (p : RaftServer). IsPrefix (raft.committed (early.server n).store) p.store.log) same held)

  pub headline : Headline choice now later
  headline = record {
    prefix = of_list choice now early mirrors safe sound;
    kept = kept;
    shown = is_shown choice now early mirrors safe sound;
    found = mirrors.found;
    formed = are_formed choice now early mirrors safe sound;
    entries = λ place h. (are_proper choice now early mirrors safe sound place h).fits;
    injective = is_injective choice now early mirrors safe sound;
    grows = grows;
    outside = λ place n h listed e. (are_proper choice now early mirrors safe sound place h).outside (subst (λ (m : ℕ). In m now.ids) (sym e) listed);
    offered = is_offered choice now early mirrors safe sound;
    leaders = λ n leader server listed led_by leads h. leader_has n leader server listed led_by leads.runs leads.role h;
  }
