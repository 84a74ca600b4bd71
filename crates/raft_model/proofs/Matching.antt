-- Logs match through every micro move.
use Rattle.std.proofs.Common.{◌≡◌, ◌≢◌, ℕ, ◌+◌, ◌<◌, Bool, true, false, List, [], ◌∷◌, ◌++◌, length, arith, sym, ◌∙◌, ap, subst, inl, inr, take, get_or, length-append, length-take, get_or-take}
use Rattle.std.proofs.lemmas.List.{take-take, get_or_append_left, take_more, take_all}
use Rattle.std.proofs.Math.Seq.{get_or-append_seam}
use Rattle.can_frame.specs.declared.entry.Entry.{Entry}
use Rattle.can_frame.specs.Log.{blank}
use Rattle.raft_model.specs.Log.{Same}
use Rattle.raft_model.specs.Messages.{Request}
use Rattle.raft_model.specs.Lists.{at, at_here, at_other}
use Rattle.raft_model.specs.History.{KeptVote, Candidacy}
use Rattle.raft_model.proofs.Micro.{State, Micro, did, May, MayGrow, MayWin, MayPropose}
use Rattle.raft_model.proofs.Micro.Micro.{Stand, Grant, Win, Cut, Grow, Propose}
use Rattle.raft_model.proofs.Facts.{Facts, Matching, IsMatching}
use Rattle.raft_model.proofs.Lists.{same_append, list_more, longer}
use Rattle.raft_model.proofs.At.{at_each}
use Rattle.raft_model.proofs.Alone.{alone}
use Rattle.raft_model.proofs.Agree.{fits_same}
use Rattle.raft_model.proofs.Complete.{less_or}

-- one more entry, which the longer list has at that place
pub same_grow : (p : ℕ) (l m : List Entry) (e : Entry) → p ≡ length l → p < length m → Same p l m → get_or m p (blank 0) ≡ e
    → Same (p + 1) (l ++ (e ∷ [])) m
same_grow p l m e n b s g =
    let a : take (p + 1) (l ++ (e ∷ [])) ≡ l ++ (e ∷ []) = take_all (p + 1) (l ++ (e ∷ [])) (omega (arith, length-append l (e ∷ []), n)) in
    let c : take p l ≡ l = take_all p l (omega (arith, n)) in
    a ∙ (ap (λ (x : List Entry). x ++ (e ∷ [])) (sym c ∙ s)
    ∙ (ap (λ (y : Entry). take p m ++ (y ∷ [])) (sym g) ∙ sym (take_more m p (blank 0) b)))

pub matching_take : (led : ℕ → Bool) (list : ℕ → List Entry) (l : List Entry) (p : ℕ) → IsMatching led list l
    → IsMatching led list (take p l)
matching_take led list l p h i b =
    let short : i < p = omega (arith, b, length-take p l) in
    let inside : i < length l = omega (arith, b, length-take p l) in
    let e : get_or l i (blank 0) ≡ get_or (take p l) i (blank 0) = sym (get_or-take p l i (blank 0) short) in
    let k = h i inside in
    let r : (led (get_or l i (blank 0)).term ≡ true) × (i < length (list (get_or l i (blank 0)).term))
    × Same (i + 1) (take p l) (list (get_or l i (blank 0)).term)
    = (k.0, k.1, take-take (i + 1) p l (omega (arith, short)) ∙ k.2) in
    subst (λ (x : Entry). (led x.term ≡ true) × (i < length (list x.term)) × Same (i + 1) (take p l) (list x.term)) e r

pub matching_snoc : (led : ℕ → Bool) (list : ℕ → List Entry) (l : List Entry) (e : Entry) → IsMatching led list l → led e.term ≡ true
    → length l < length (list e.term) → Same (length l + 1) (l ++ (e ∷ [])) (list e.term) → IsMatching led list (l ++ (e ∷ []))
matching_snoc led list l e h there inside same i b =
    elim (less_or (length l) i) [
      | inr old ↦
          let k = h i old in
          let g : get_or l i (blank 0) ≡ get_or (l ++ (e ∷ [])) i (blank 0) = sym (get_or_append_left l (e ∷ []) (blank 0) i old) in
          let r : (led (get_or l i (blank 0)).term ≡ true) × (i < length (list (get_or l i (blank 0)).term))
          × Same (i + 1) (l ++ (e ∷ [])) (list (get_or l i (blank 0)).term)
          = (k.0, k.1, same_append (i + 1) l (e ∷ []) (omega (arith, old)) ∙ k.2) in
          subst (λ (x : Entry). (led x.term ≡ true) × (i < length (list x.term)) × Same (i + 1) (l ++ (e ∷ [])) (list x.term)) g r
      | inl new ↦
          let n : length l ≡ i = omega (arith, new, b, length-append l (e ∷ [])) in
          let g : e ≡ get_or (l ++ (e ∷ [])) (length l) (blank 0) = sym (get_or-append_seam l e [] (blank 0)) in
          let r : (led (get_or (l ++ (e ∷ [])) (length l) (blank 0)).term ≡ true)
          × (length l < length (list (get_or (l ++ (e ∷ [])) (length l) (blank 0)).term))
          × Same (length l + 1) (l ++ (e ∷ [])) (list (get_or (l ++ (e ∷ [])) (length l) (blank 0)).term) =
          subst (λ (x : Entry). (led x.term ≡ true) × (length l < length (list x.term)) × Same (length l + 1) (l ++ (e ∷ [])) (list x.term))
          g (there, inside, same) in
          subst
          (λ (j : ℕ). (led (get_or (l ++ (e ∷ [])) j (blank 0)).term ≡ true)
          × (j < length (list (get_or (l ++ (e ∷ [])) j (blank 0)).term))
          × Same (j + 1) (l ++ (e ∷ [])) (list (get_or (l ++ (e ∷ [])) j (blank 0)).term))
          n r
    ]

pub matching_win : (s : State) (m : ℕ) → MayWin s m → Facts s
    → Matching (at s.led (s.term m) true) (at s.list (s.term m) (s.log m)) s.log s.candidacies s.kept
matching_win s m h f = record {
  logs = λ i. more (s.log i) (f.matching.logs i);
  lists = at_each (λ i l. IsMatching (at s.led (s.term m) true) (at s.list (s.term m) (s.log m)) l) s.list (s.term m) (s.log m)
      (more (s.log m) (f.matching.logs m)) (λ i n. more (s.list i) (f.matching.lists i));
  stood = λ c i. more c.log (f.matching.stood c i);
  voted = λ k i. more k.log (f.matching.voted k i);
}
  where
    two : true ≡ false → ⊥
    two e = cc

    more : (l : List Entry) → IsMatching s.led s.list l → IsMatching (at s.led (s.term m) true) (at s.list (s.term m) (s.log m)) l
    more l g i c =
        let k = g i c in
        let n : (get_or l i (blank 0)).term ≢ s.term m = λ e. two (sym k.0 ∙ (ap s.led e ∙ alone s f m h.role h.votes)) in
        let q = at_other s.list (s.term m) (get_or l i (blank 0)).term (s.log m) n in (
          at_other s.led (s.term m) (get_or l i (blank 0)).term true n ∙ k.0,
          subst (λ (x : List Entry). i < length x) (sym q) k.1,
          k.2
              ∙ sym (ap (take (i + 1)) q),
        )

pub matching_propose : (s : State) (m : ℕ) (e : Entry) → MayPropose s m e → Facts s
    → Matching s.led (at s.list (s.term m) (s.list (s.term m) ++ (e ∷ []))) (at s.log m (s.log m ++ (e ∷ []))) s.candidacies s.kept
matching_propose s m e h f = record {
  logs = at_each (λ i l. IsMatching s.led (at s.list (s.term m) (s.list (s.term m) ++ (e ∷ []))) l) s.log m (s.log m ++ (e ∷ []))
      (subst (λ (x : List Entry). IsMatching s.led (at s.list (s.term m)
      (s.list (s.term m) ++ (e ∷ []))) (x ++ (e ∷ []))) (sym leads.2) grown)
      (λ i n. more (s.log i) (f.matching.logs i));
  lists = at_each (λ i l. IsMatching s.led (at s.list (s.term m) (s.list (s.term m) ++ (e ∷ []))) l) s.list (s.term m)
      (s.list (s.term m) ++ (e ∷ [])) grown (λ i n. more (s.list i) (f.matching.lists i));
  stood = λ c i. more c.log (f.matching.stood c i);
  voted = λ k i. more k.log (f.matching.voted k i);
}
  where
    leads : (s.led (s.term m) ≡ true) × (s.leader (s.term m) ≡ m) × (s.log m ≡ s.list (s.term m))
    leads = f.running.leads m h.role

    more : (l : List Entry) → IsMatching s.led s.list l → IsMatching s.led (at s.list (s.term m) (s.list (s.term m) ++ (e ∷ []))) l
    more l g i c = let k = g i c in (
      k.0,
      omega (arith, k.1, longer s.list (s.term m) e (get_or l i (blank 0)).term),
      k.2
          ∙ sym (list_more s.list (s.term m) e (get_or l i (blank 0)).term (i + 1) (omega (arith, k.1))),
    )

    grown : IsMatching s.led (at s.list (s.term m) (s.list (s.term m) ++ (e ∷ []))) (s.list (s.term m) ++ (e ∷ []))
    grown =
        let q : at s.list (s.term m) (s.list (s.term m) ++ (e ∷ [])) e.term ≡ s.list (s.term m) ++ (e ∷ [])
        = at_here s.list (s.term m) e.term (s.list (s.term m) ++ (e ∷ [])) h.own_term in
        matching_snoc s.led (at s.list (s.term m) (s.list (s.term m) ++ (e ∷ []))) (s.list (s.term m)) e
        (more (s.list (s.term m)) (f.matching.lists (s.term m))) (ap s.led h.own_term ∙ leads.0)
        (subst (λ (x : List Entry). length (s.list (s.term m)) < length x) (sym q) (omega
        (arith, length-append (s.list (s.term m)) (e ∷ []))))
        (ap (take (length (s.list (s.term m)) + 1)) (sym q))

pub matching_grow : (s : State) (m : ℕ) (r : Request) (e : Entry) → MayGrow s m r e → Facts s
    → IsMatching s.led s.list (s.log m ++ (e ∷ []))
matching_grow s m r e h f =
    let en = f.asked.entry r e (f.posted.request r h.fits.in_bag) h.fits.kind h.entry in
    let k = f.matching.lists r.term r.previous en.0 in
    let k2 : (s.led e.term ≡ true) × (r.previous < length (s.list e.term)) × Same (r.previous + 1) (s.list r.term) (s.list e.term)
    = subst
    (λ (x : Entry). (s.led x.term ≡ true) × (r.previous < length (s.list x.term))
    × Same (r.previous + 1) (s.list r.term) (s.list x.term))
    en.1 k in
    let g : Same (r.previous + 1) (s.log m ++ (e ∷ [])) (s.list r.term)
    = same_grow r.previous (s.log m) (s.list r.term) e h.at_end en.0 (fits_same s f m r h.fits) en.1 in
    let all : Same (r.previous + 1) (s.log m ++ (e ∷ [])) (s.list e.term) = g ∙ k2.2 in
    matching_snoc s.led s.list (s.log m) e (f.matching.logs m) k2.0 (omega (arith, k2.1, h.at_end))
    (subst (λ (j : ℕ). Same (j + 1) (s.log m ++ (e ∷ [])) (s.list e.term)) h.at_end all)

pub matching_keeps : (s : State) (e : Micro) → May s e → Facts s
    → Matching (did s e).led (did s e).list (did s e).log (did s e).candidacies (did s e).kept
matching_keeps s (Stand m) may f = record {
  logs = f.matching.logs;
  lists = f.matching.lists;
  stood = λ c i. elim i
      [ inl e ↦ subst (λ (z : Candidacy). IsMatching s.led s.list z.log) (sym e) (f.matching.logs m) | inr j ↦ f.matching.stood c j ];
  voted = λ k i. elim i
      [ inl e ↦ subst (λ (z : KeptVote). IsMatching s.led s.list z.log) (sym e) (f.matching.logs m) | inr j ↦ f.matching.voted k j ];
}
matching_keeps s (Grant m n r) may f = record {
  logs = f.matching.logs;
  lists = f.matching.lists;
  stood = f.matching.stood;
  voted = λ k i. elim i
      [ inl e ↦ subst (λ (z : KeptVote). IsMatching s.led s.list z.log) (sym e) (f.matching.logs m) | inr j ↦ f.matching.voted k j ];
}
matching_keeps s (Win m) may f = matching_win s m may f
matching_keeps s (Propose m e) may f = matching_propose s m e may f
matching_keeps s (Cut m r e) may f = record {
  logs = at_each (λ i l. IsMatching s.led s.list l) s.log m (take r.previous (s.log m))
      (matching_take s.led s.list (s.log m) r.previous (f.matching.logs m)) (λ i n. f.matching.logs i);
  lists = f.matching.lists;
  stood = f.matching.stood;
  voted = f.matching.voted;
}
matching_keeps s (Grow m r e) may f = record {
  logs = at_each (λ i l. IsMatching s.led s.list l) s.log m (s.log m ++ (e ∷ [])) (matching_grow s m r e may f) (λ i n. f.matching.logs i);
  lists = f.matching.lists;
  stood = f.matching.stood;
  voted = f.matching.voted;
}
matching_keeps s _ may f = f.matching
