-- Kept votes last through every micro move.
use Rattle.std.proofs.Common.{◌≡◌, ℕ, true, length, refl, arith, sym, ◌∙◌, ap, subst, inl, inr}
use Rattle.can_frame.specs.Log.{last_term}
use Rattle.raft_model.specs.Log.{IsRising, NotAbove}
use Rattle.raft_model.specs.Lists.{In, at}
use Rattle.raft_model.specs.History.{KeptVote, Candidacy}
use Rattle.raft_model.proofs.Micro.{State, Micro, did, May}
use Rattle.raft_model.proofs.Micro.Micro.{Stand, Grant, Win}
use Rattle.raft_model.proofs.Facts.{Facts, IsBound, Votes}
use Rattle.raft_model.proofs.At.{at_each}
use Rattle.raft_model.proofs.Apart.{some_none, some_same}

pub led_more : (s : State) (t w : ℕ) → s.led w ≡ true → at s.led t true w ≡ true
led_more s t w h = at_each (λ i b. s.led i ≡ true → b ≡ true) s.led t true (λ e. refl) (λ i n e. e) w h

pub votes_keeps : (s : State) (e : Micro) → May s e → Facts s → Votes (did s e).kept (did s e).candidacies (did s e).led
votes_keeps s (Stand m) may f = record {
  one = λ x y i j v t. elim i [
    | inl a ↦ elim j [
      | inl b ↦ ap (λ (z : KeptVote). z.candidate) (a ∙ sym b)
      | inr j2 ↦ absurd (old y j2 (sym v ∙ ap (λ (z : KeptVote). z.voter) a) (sym t ∙ ap (λ (z : KeptVote). z.term) a))
    ]
    | inr i2 ↦ elim j [
      | inl b ↦ absurd (old x i2 (v ∙ ap (λ (z : KeptVote). z.voter) b) (t ∙ ap (λ (z : KeptVote). z.term) b))
      | inr j2 ↦ f.votes.one x y i2 j2 v t
    ]
  ];
  candidacy = λ k i. elim i [
    | inl e ↦
        subst
        (λ (z : KeptVote). (c : Candidacy) × In c (did s (Stand m)).candidacies × (c.candidate ≡ z.candidate) × (c.term ≡ z.term)
        × NotAbove (last_term z.log) (length z.log) (last_term c.log) (length c.log))
        (sym e) (record { candidate = m; term = s.term m; log = s.log m }, inl refl, refl, refl, inr (refl, omega arith))
    | inr j ↦ let c = f.votes.candidacy k j in (c.0, inr c.1, c.2, c.3, c.4)
  ];
  flagged = λ k i h. elim i
      [ inl e ↦ ap s.led (ap (λ (z : KeptVote). z.term) e) ∙ (sym (ap (λ (z : KeptVote). z.led) e) ∙ h) | inr j ↦ f.votes.flagged k j h ];
  rising = λ k i. elim i
      [ inl e ↦ subst (λ (z : KeptVote). IsRising z.log z.term) (sym e) (f.stored.rising m) | inr j ↦ f.votes.rising k j ];
}
  where
    old : (y : KeptVote) → In y s.kept → y.voter ≡ m → y.term ≡ s.term m → ⊥
    old y i v t = let x = f.fresh.votes m y may.0 i v in omega (arith, x, t)
votes_keeps s (Grant m n r) may f = record {
  one = λ x y i j v t. elim i [
    | inl a ↦ elim j [
      | inl b ↦ ap (λ (z : KeptVote). z.candidate) (a ∙ sym b)
      | inr j2 ↦
          ap (λ (z : KeptVote). z.candidate) a
          ∙ sym (old y j2 (sym v ∙ ap (λ (z : KeptVote). z.voter) a) (sym t ∙ ap (λ (z : KeptVote). z.term) a))
    ]
    | inr i2 ↦ elim j [
      | inl b ↦
          old x i2 (v ∙ ap (λ (z : KeptVote). z.voter) b) (t ∙ ap (λ (z : KeptVote). z.term) b) ∙ sym (ap (λ (z : KeptVote). z.candidate) b)
      | inr j2 ↦ f.votes.one x y i2 j2 v t
    ]
  ];
  candidacy = λ k i. elim i [
    | inl e ↦
        let c = f.asked.vote r (f.posted.request r may.in_bag) may.kind in
        let na : NotAbove (last_term (s.log m)) (length (s.log m)) (last_term c.0.log) (length c.0.log)
        = subst (λ (z : ℕ). NotAbove (last_term (s.log m)) (length (s.log m)) z (length c.0.log)) (sym c.4)
        (subst (λ (z : ℕ). NotAbove (last_term (s.log m)) (length (s.log m)) r.previous_term z) (sym c.5) may.not_above) in
        subst
        (λ (z : KeptVote). (c : Candidacy) × In c s.candidacies × (c.candidate ≡ z.candidate) × (c.term ≡ z.term)
        × NotAbove (last_term z.log) (length z.log) (last_term c.log) (length c.log))
        (sym e) (c.0, c.1, c.2, c.3, na)
    | inr j ↦ f.votes.candidacy k j
  ];
  flagged = λ k i h. elim i
      [ inl e ↦ ap s.led (ap (λ (z : KeptVote). z.term) e) ∙ (sym (ap (λ (z : KeptVote). z.led) e) ∙ h) | inr j ↦ f.votes.flagged k j h ];
  rising = λ k i. elim i [
    | inl e ↦
        subst (λ (z : KeptVote). IsRising z.log z.term) (sym e)
        (subst (λ (t : ℕ). IsRising (s.log m) t) (sym may.own_term) (f.stored.rising m))
    | inr j ↦
        f.votes.rising k j
  ];
}
  where
    old : (y : KeptVote) → In y s.kept → y.voter ≡ m → y.term ≡ r.term → y.candidate ≡ r.from
    old y i v t = elim (subst (λ (z : ℕ). IsBound s.term s.vote z y.candidate y.term) v (f.bound.votes y i)) [
      | inl x ↦ absurd (omega (arith, x, t, may.own_term))
      | inr x ↦
          elim may.free [ inl z ↦ absurd (some_none (s.vote m) y.candidate z x.1) | inr z ↦ some_same y.candidate r.from (sym x.1 ∙ z) ]
    ]
votes_keeps s (Win m) may f = record {
  one = f.votes.one;
  candidacy = f.votes.candidacy;
  rising = f.votes.rising;
  flagged = λ k i h. led_more s (s.term m) k.term (f.votes.flagged k i h);
}
votes_keeps s _ may f = f.votes
