-- What holds of a leader and another member at each moment of a run.
use Rattle.std.proofs.Common.{◌≡◌, ◌≢◌, ℕ, zero, suc, ◌+◌, ◌<◌, ◌≤◌, true, List, inl, inr, refl, sym, ◌∙◌, ap, subst, arith, length, length-take, take}
use Rattle.std.proofs.lemmas.List.{take-take}
use Rattle.can_frame.specs.declared.entry.Entry.{Entry}
use Rattle.can_frame.specs.Log.{IsPrefix}
use Rattle.raft_model.specs.Fit.{IsFit, IsWithin}
use Rattle.raft_model.specs.History.{History}
use Rattle.raft_model.specs.Invariants.{HasKept, Invariants, IsMatching, IsSettled}
use Rattle.raft_model.specs.Log.{Same, term_at}
use Rattle.raft_model.specs.Runs.{World}
use Rattle.raft_model.specs.Server.{committed}
use Rattle.raft_model.specs.Server.Role.{Leader}
use Rattle.raft_model.proofs.Lists.{same_length}
use Rattle.alloc_spec_laws.proofs.Choices.{lt_tells}
use Rattle.service_steps.specs.CatchingUp.{AreJoined, two_of}

-- logs that match the same lists agree where their terms do
agree_by : (history : History) (l m : List Entry) → IsMatching history l → IsMatching history m → (place : ℕ)
    → place ≤ length l → place ≤ length m → term_at l place ≡ term_at m place → Same place l m
agree_by history l m left right zero in_left in_right e = refl
agree_by history l m left right (suc i) in_left in_right e =
    let one : i + 1 ≡ suc i = omega arith in
    subst (λ (n : ℕ). Same n l m) one
    ((left i (omega (arith, in_left))).2
    ∙ sym (subst (λ (t : ℕ). Same (i + 1) m (history.list t)) (sym e) (right i (omega (arith, in_right))).2))

-- what is committed, as a beginning of a list that it is a prefix of
as_prefix : (commit : ℕ) (log list : List Entry) → commit ≤ length log → IsPrefix (take commit log) list → Same commit list log
as_prefix commit log list inside prefix =
    subst (λ (n : ℕ). take n list ≡ take commit log) (omega (arith, length-take commit log, inside)) prefix

pub joined_in : (world : World) → Invariants world → (me you : ℕ) → IsFit me (world.server me) → you ≢ me
    → (world.server me).memory.role ≡ Leader → (world.server you).store.term ≤ (world.server me).store.term
    → AreJoined world.members me you (two_of world me you)
joined_in world inv me you fit other leads low = record {
  leads = leads;
  sound = inv.stores me;
  term = low;
  alone = alone;
  least = within.least;
  next = within.most;
  agree = agree_by world.history log peer (inv.logs.logs me) (inv.logs.logs you);
  commit = (inv.stores you).commit;
  commit_here = same_length commit log peer (inv.stores you).commit has_committed;
  committed = has_committed;
  within = same_length matched peer log matched_here (sym has_matched);
  matched = has_matched;
}
  where
    log : List Entry
    log = (world.server me).store.log

    peer : List Entry
    peer = (world.server you).store.log

    term : ℕ
    term = (world.server me).store.term

    commit : ℕ
    commit = (world.server you).store.commit

    matched : ℕ
    matched = (world.server me).memory.matched you

    within : IsWithin (length log) ((world.server me).memory.next you) matched ((world.server me).memory.pending you)
    within = fit.peers leads you

    leading : (world.history.led term ≡ true) × (world.history.leader term ≡ me) × (log ≡ world.history.list term)
    leading = inv.leaders.leading me leads

    alone : (world.server you).memory.role ≡ Leader → (world.server you).store.term < term
    alone leads_too = elim (lt_tells (world.server you).store.term term) [
      | inl z ↦ z.1
      | inr z ↦
          let same : (world.server you).store.term ≡ term = omega (arith, z.1, low) in
          absurd (other (sym (inv.leaders.leading you leads_too).1 ∙ (ap world.history.leader same ∙ leading.1)))
    ]

    on_list : Same commit (world.history.list term) peer → Same commit log peer
    on_list same = ap (take commit) leading.2 ∙ same

    by_settled : (its : ℕ) → its ≤ (world.server you).store.term → IsSettled world (committed (world.server you).store) its
        → Same commit (world.history.list term) peer
    by_settled its high settled = elim (lt_tells its term) [
      | inl z ↦ as_prefix commit peer (world.history.list term) (inv.stores you).commit
          (inv.complete (committed (world.server you).store) its term settled z.1 leading.0)
      | inr z ↦
          let same : its ≡ term = omega (arith, z.1, high, low) in
          let whole : length (committed (world.server you).store) ≡ commit = omega (arith, length-take commit peer, (inv.stores you).commit) in
          subst (λ (t : ℕ). Same commit (world.history.list t) peer) same
          (sym (subst (λ (n : ℕ). take n (take commit peer) ≡ take n (world.history.list its)) whole settled.3)
          ∙ take-take commit commit peer (omega arith))
    ]

    has_committed : Same commit log peer
    has_committed = elim (inv.commits.servers you) [
      | inl none ↦ subst (λ (n : ℕ). Same n log peer) (sym none) refl
      | inr some ↦ on_list (by_settled some.0 some.1 some.2)
    ]

    by_kept : HasKept world you term matched → Same matched log peer
    by_kept kept = ap (take matched) leading.2 ∙ elim kept.1 [
      | inl same ↦ sym same
      | inr diverges ↦ absurd (omega (arith, diverges.1, diverges.2, low))
    ]

    has_matched : Same matched log peer
    has_matched = elim (inv.calls.matched me you leads) [
      | inl none ↦ subst (λ (n : ℕ). Same n log peer) (sym none) refl
      | inr a ↦ by_kept (inv.kept you term matched (inr (a.0, a.1, a.2, a.3, a.4, a.5, omega (arith, a.6))))
    ]

    matched_here : matched ≤ length log
    matched_here = within.acknowledged
