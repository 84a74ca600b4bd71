-- A request has one verdict.
use Rattle.std.proofs.Common.{◌≡◌, refl, arith, sym, ◌∙◌, ap, subst, inl, inr}
use Rattle.can_frame.specs.declared.entry.Entry.{Entry}
use Rattle.raft_model.specs.Messages.{Request}
use Rattle.raft_model.specs.Server.{Store, RaftServer}
use Rattle.raft_model.specs.Moves.{Verdict, Holds, Adds, IsThere, IsBadEntry, IsRefused, IsCurrent, IsOutdated, IsJudged, with_term}
use Rattle.raft_model.specs.Moves.Verdict.{Outdated, Refused, Held, Added}
use Rattle.raft_model.specs.Decisions.{verdict_on}
use Rattle.raft_model.proofs.Apart.{none_some, some_same}
use Rattle.raft_model.proofs.Decisions.{judged}

not_both : (p : RaftServer) (r : Request) → IsOutdated p r → IsCurrent p r → ⊥
not_both p r o c = elim o [
  | inl a ↦ elim c [ inl b ↦ omega (arith, a, b) | inr b ↦ omega (arith, a, b.0) ]
  | inr a ↦ elim c [ inl b ↦ omega (arith, a.0, b) | inr b ↦ b.1 a.1 ]
]

refused_held : (s : Store) (r : Request) → IsRefused s r → Holds s r → ⊥
refused_held s r x h = elim x [
  | inl n ↦ n h.fits
  | inr b ↦ elim h.has [
    | inl none ↦ none_some b.0 (sym none ∙ b.1)
    | inr y ↦
        let e : b.0 ≡ y.0 = some_same b.0 y.0 (sym b.1 ∙ y.1) in
        elim b.2 [ inl l ↦ omega (arith, l, y.2) | inr q ↦ q.0 (subst (IsThere s r) (sym e) y.3) ]
  ]
]

refused_added : (s : Store) (r : Request) (e : Entry) → IsRefused s r → Adds s r e → ⊥
refused_added s r e x h = elim x [
  | inl n ↦ n h.fits
  | inr b ↦
      let q : b.0 ≡ e = some_same b.0 e (sym b.1 ∙ h.carried) in
      let bad : IsBadEntry s r e = subst (IsBadEntry s r) q b.2 in
      elim bad [
        | inl l ↦ omega (arith, l, h.room)
        | inr c ↦ elim c.1 [
          | inl a ↦ omega (arith, a, h.after_commit)
          | inr c2 ↦ elim c2 [
            | inl a ↦ a h.well_formed
            | inr c3 ↦ elim c3 [
              | inl a ↦ omega (arith, a, h.rises)
              | inr c4 ↦ elim c4 [ inl a ↦ omega (arith, a, h.below) | inr a ↦ a h.injective ]
            ]
          ]
        ]
      ]
]

held_added : (s : Store) (r : Request) (e : Entry) → Holds s r → Adds s r e → ⊥
held_added s r e h a = elim h.has [
  | inl none ↦ none_some e (sym none ∙ a.carried)
  | inr y ↦ a.not_there (subst (IsThere s r) (some_same y.0 e (sym y.1 ∙ a.carried)) y.3)
]

two_verdicts : (p : RaftServer) (r : Request) (u v : Verdict) → IsJudged p r u → IsJudged p r v → u ≡ v
two_verdicts p r Outdated Outdated x y = refl
two_verdicts p r Outdated Refused x y = absurd (not_both p r x y.0)
two_verdicts p r Outdated Held x y = absurd (not_both p r x y.0)
two_verdicts p r Outdated (Added e) x y = absurd (not_both p r x y.0)
two_verdicts p r Refused Outdated x y = absurd (not_both p r y x.0)
two_verdicts p r Refused Refused x y = refl
two_verdicts p r Refused Held x y = absurd (refused_held (with_term p.store r.term) r x.1 y.1)
two_verdicts p r Refused (Added e) x y = absurd (refused_added (with_term p.store r.term) r e x.1 y.1)
two_verdicts p r Held Outdated x y = absurd (not_both p r y x.0)
two_verdicts p r Held Refused x y = absurd (refused_held (with_term p.store r.term) r y.1 x.1)
two_verdicts p r Held Held x y = refl
two_verdicts p r Held (Added e) x y = absurd (held_added (with_term p.store r.term) r e x.1 y.1)
two_verdicts p r (Added e) Outdated x y = absurd (not_both p r y x.0)
two_verdicts p r (Added e) Refused x y = absurd (refused_added (with_term p.store r.term) r e y.1 x.1)
two_verdicts p r (Added e) Held x y = absurd (held_added (with_term p.store r.term) r e y.1 x.1)
two_verdicts p r (Added e) (Added d) x y = ap (λ (z : Entry). Added z) (some_same e d (sym x.1.carried ∙ y.1.carried))

pub one_verdict : (server : RaftServer) (request : Request) (verdict : Verdict) → IsJudged server request verdict
    → verdict ≡ verdict_on server request
one_verdict server request verdict is = two_verdicts server request verdict (verdict_on server request) is (judged server request)
