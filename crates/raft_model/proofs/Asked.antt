-- Requests last through every micro move.
use Rattle.std.proofs.Common.{◌≡◌, ◌≢◌, ℕ, zero, suc, ◌+◌, ◌<◌, ◌≤◌, Bool, true, false, List, [], ◌∷◌, ◌++◌, length, refl, arith, sym, ◌∙◌, ap, subst, inl, inr, get_or, Some, None, length-append, if◌then◌else◌}
use Rattle.std.specs.Prelude.{nat_lt}
use Rattle.std.proofs.lemmas.Bool.{leb-true}
use Rattle.can_frame.specs.declared.entry.Entry.{Entry}
use Rattle.can_frame.specs.Log.{blank, last_term}
use Rattle.raft_model.specs.Log.{term_at}
use Rattle.raft_model.specs.Messages.{Request}
use Rattle.raft_model.specs.Lists.{In, at, at_other}
use Rattle.raft_model.specs.History.{Candidacy}
use Rattle.raft_model.specs.Moves.{entry_after}
use Rattle.raft_model.proofs.Micro.{State, Micro, did, May}
use Rattle.raft_model.proofs.Micro.Micro.{Stand, Win, Propose, CallVote, CallAppend}
use Rattle.raft_model.proofs.Facts.{Facts, Asked}
use Rattle.raft_model.proofs.Quorum.{tell}
use Rattle.raft_model.proofs.Lists.{same_get, same_append}
use Rattle.raft_model.proofs.At.{at_each}
use Rattle.raft_model.proofs.Apart.{clash}
use Rattle.raft_model.proofs.Votes.{led_more}
use Rattle.raft_model.proofs.Led.{not_first}

pub entry_is : (l : List Entry) (p : ℕ) (w : Bool) (e : Entry) → entry_after l p w ≡ Some e → (p < length l) × (get_or l p (blank 0) ≡ e)
entry_is l p false e h = absurd (cc)
entry_is l p true e h = elim (tell (nat_lt p (length l))) [
  | inl a ↦ (
    leb-true (suc p) (length l) a,
    same (get_or l p (blank 0)) e (sym (ap (λ (b : Bool). if b then Some (get_or l p (blank 0)) else None) a) ∙ h),
  )
  | inr a ↦ absurd (none e (sym (ap (λ (b : Bool). if b then Some (get_or l p (blank 0)) else None) a) ∙ h))
]
  where
    same : (x y : Entry) → Some x ≡ Some y → x ≡ y
    same x y e = cc

    none : (x : Entry) → None ≡ Some x → ⊥
    none x e = cc

pub asked_keeps : (s : State) (e : Micro) → May s e → Facts s
    → Asked (did s e).requests (did s e).led (did s e).leader (did s e).list (did s e).candidacies
asked_keeps s (Stand m) may f = record {
  other = f.asked.other;
  append = f.asked.append;
  entry = f.asked.entry;
  vote = λ r i k. let c = f.asked.vote r i k in (c.0, inr c.1, c.2, c.3, c.4, c.5);
}
asked_keeps s (Win m) may f = record {
  other = f.asked.other;
  vote = f.asked.vote;
  append = λ r i k. let q = f.asked.append r i k in let n = not_first s f m may r.term q.0 in
      let same : s.list r.term ≡ at s.list (s.term m) (s.log m) r.term = sym (at_other s.list (s.term m) r.term (s.log m) n) in (
        led_more s (s.term m) r.term q.0,
        at_other s.leader (s.term m) r.term m n
            ∙ q.1,
        subst (λ (x : List Entry). r.previous ≤ length x) same q.2,
        subst (λ (x : List Entry). term_at x r.previous ≡ r.previous_term) same q.3,
      );
  entry = λ r e i k h. let q = f.asked.append r i k in let n = not_first s f m may r.term q.0 in
      subst (λ (x : List Entry). (r.previous < length x) × (get_or x r.previous (blank 0) ≡ e))
      (sym (at_other s.list (s.term m) r.term (s.log m) n)) (f.asked.entry r e i k h);
}
asked_keeps s (Propose m e) may f = record {
  other = f.asked.other;
  vote = f.asked.vote;
  append = λ r i k. let q = f.asked.append r i k in (
    q.0,
    q.1,
    at_each (λ t x. r.previous ≤ length (s.list t) → r.previous ≤ length x) s.list (s.term m) (s.list (s.term m) ++ (e ∷ []))
        (λ h. omega (arith, h, length-append (s.list (s.term m)) (e ∷ []))) (λ t n h. h) r.term q.2,
    at_each
        (λ t x. r.previous ≤ length (s.list t) → term_at (s.list t) r.previous ≡ r.previous_term → term_at x r.previous ≡ r.previous_term)
        s.list (s.term m) (s.list (s.term m) ++ (e ∷ [])) (λ h g. term_more (s.list (s.term m)) e r.previous h ∙ g) (λ t n h g. g) r.term
        q.2 q.3,
  );
  entry = λ r e2 i k h. let q = f.asked.entry r e2 i k h in
      at_each
      (λ t x. (r.previous < length (s.list t)) × (get_or (s.list t) r.previous (blank 0) ≡ e2)
      → (r.previous < length x) × (get_or x r.previous (blank 0) ≡ e2))
      s.list (s.term m) (s.list (s.term m) ++ (e ∷ []))
      (λ g. (
        omega (arith, g.0, length-append (s.list (s.term m)) (e ∷ [])),
        same_get (r.previous + 1) r.previous (s.list (s.term m) ++ (e ∷ [])) (s.list (s.term m)) (omega arith)
            (same_append (r.previous + 1) (s.list (s.term m)) (e ∷ []) (omega (arith, g.0)))
            ∙ g.1,
      ))
      (λ t n g. g) r.term q;
}
  where
    term_more : (l : List Entry) (x : Entry) (p : ℕ) → p ≤ length l → term_at (l ++ (x ∷ [])) p ≡ term_at l p
    term_more l x zero h = refl
    term_more l x (suc k) h = ap (λ (z : Entry). z.term)
        (same_get (suc k) k (l ++ (x ∷ [])) l (omega arith) (same_append (suc k) l (x ∷ []) h))
asked_keeps s (CallVote m n q) may f = record {
  other = λ r i. elim i [ inl e ↦ subst (λ (z : Request). z.to ≢ z.from) (sym e) may.other | inr j ↦ f.asked.other r j ];
  vote = λ r i k. elim i [
    | inl e ↦ let c = f.running.stands m may.role in
        subst
        (λ (z : Request). (c : Candidacy) × In c s.candidacies × (c.candidate ≡ z.from) × (c.term ≡ z.term)
        × (last_term c.log ≡ z.previous_term) × (length c.log ≡ z.previous))
        (sym e) (c.0, c.1, c.2, c.3, ap last_term c.4, ap length c.4)
    | inr j ↦ f.asked.vote r j k
  ];
  append = λ r i k. elim i [ inl e ↦ absurd (clash r.append k (ap (λ (z : Request). z.append) e)) | inr j ↦ f.asked.append r j k ];
  entry = λ r x i k h. elim i [ inl e ↦ absurd (clash r.append k (ap (λ (z : Request). z.append) e)) | inr j ↦ f.asked.entry r x j k h ];
}
asked_keeps s (CallAppend m n q p w) may f = record {
  other = λ r i. elim i [ inl e ↦ subst (λ (z : Request). z.to ≢ z.from) (sym e) may.0.other | inr j ↦ f.asked.other r j ];
  vote = λ r i k. elim i [ inl e ↦ absurd (clash r.append (ap (λ (z : Request). z.append) e) k) | inr j ↦ f.asked.vote r j k ];
  append = λ r i k. elim i [
    | inl e ↦ let l = f.running.leads m may.0.role in
        subst
        (λ (z : Request). (s.led z.term ≡ true) × (s.leader z.term ≡ z.from) × (z.previous ≤ length (s.list z.term))
        × (term_at (s.list z.term) z.previous ≡ z.previous_term))
        (sym e)
        (l.0, l.1, subst (λ (x : List Entry). p ≤ length x) l.2 may.1, ap (λ (x : List Entry). term_at x p) (sym l.2))
    | inr j ↦ f.asked.append r j k
  ];
  entry = λ r x i k h. elim i [
    | inl e ↦ let l = f.running.leads m may.0.role in
        let g = entry_is (s.log m) p w x (ap (λ (z : Request). z.entry) (sym e) ∙ h) in
        subst (λ (z : Request). (z.previous < length (s.list z.term)) × (get_or (s.list z.term) z.previous (blank 0) ≡ x)) (sym e)
        (subst (λ (y : List Entry). (p < length y) × (get_or y p (blank 0) ≡ x)) l.2 g)
    | inr j ↦ f.asked.entry r x j k h
  ];
}
asked_keeps s _ may f = f.asked
