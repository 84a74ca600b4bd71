-- Where the leader of a term stands lasts through every micro move.
use Rattle.std.proofs.Common.{◌≡◌, ◌≢◌, ℕ, ◌≤◌, Bool, true, List, [], ◌∷◌, ◌++◌, refl, arith, sym, ◌∙◌, ap, subst, inl, inr, take}
use Rattle.std.proofs.lemmas.Bool.Decides.{eqb_tells}
use Rattle.can_frame.specs.declared.entry.Entry.{Entry}
use Rattle.raft_model.specs.Messages.{Request}
use Rattle.raft_model.specs.Lists.{at, at_here, at_other}
use Rattle.raft_model.specs.Server.{Role}
use Rattle.raft_model.specs.Server.Role.{Follower, Candidate, Leader}
use Rattle.raft_model.proofs.Micro.{State, Micro, did, May, HasPrevious}
use Rattle.raft_model.proofs.Micro.Micro.{Open, Halt, Raise, Stand, Win, Yield, Cut, Grow, Propose}
use Rattle.raft_model.proofs.Facts.{Facts, Place}
use Rattle.raft_model.proofs.At.{at_each, at2_each}

-- the place of one leader
abbrev pub Stands : (list : ℕ → List Entry) → ℕ → ℕ → Role → List Entry → Type 0
Stands list t v r l = (t ≤ v) × (v ≡ t → (r ≢ Candidate) × (l ≡ list t))

pub place_all : (led : ℕ → Bool) (leader : ℕ → ℕ) (list : ℕ → List Entry) (term : ℕ → ℕ) (role : ℕ → Role) (log : ℕ → List Entry)
    → ((i t : ℕ) → led t ≡ true → leader t ≡ i → Stands list t (term i) (role i) (log i)) → Place led leader list term role log
place_all led leader list term role log h = record {
  above = λ t l. (h (leader t) t l refl).0;
  no_candidate = λ t l e. ((h (leader t) t l refl).1 e).0;
  same_log = λ t l e. ((h (leader t) t l refl).1 e).1;
}

pub place_one : (s : State) → Facts s → (i t : ℕ) → s.led t ≡ true → s.leader t ≡ i → Stands s.list t (s.term i) (s.role i) (s.log i)
place_one s f i t l e = subst (λ (z : ℕ). Stands s.list t (s.term z) (s.role z) (s.log z)) e
    (f.place.above t l, λ g. (f.place.no_candidate t l g, f.place.same_log t l g))

pub follower_no_candidate : Follower ≢ Candidate
follower_no_candidate e = cc

-- no append request comes to the leader of its own term
pub not_own : (s : State) → Facts s → (m : ℕ) (r : Request) → HasPrevious s m r → (t : ℕ) → s.term m ≡ t → s.leader t ≡ m → ⊥
not_own s f m r h t e l =
    let i = f.posted.request r h.in_bag in
    let q = f.asked.append r i h.kind in
    f.asked.other r i (h.mine ∙ (sym l ∙ (ap s.leader (sym e ∙ sym h.own_term) ∙ q.1)))

pub place_role : (s : State) → Facts s → (m : ℕ) → (i t : ℕ) → s.led t ≡ true → s.leader t ≡ i
    → Stands s.list t (s.term i) (at s.role m Follower i) (s.log i)
place_role s f m i t l e = at_each (λ i r. s.leader t ≡ i → Stands s.list t (s.term i) r (s.log i)) s.role m Follower
    (λ g. let o = place_one s f m t l g in (o.0, λ c. (follower_no_candidate, (o.1 c).1))) (λ i n g. place_one s f i t l g) i e

pub place_log : (s : State) → Facts s → (m : ℕ) (r : Request) (x : List Entry) → HasPrevious s m r → (i t : ℕ) → s.led t ≡ true
    → s.leader t ≡ i → Stands s.list t (s.term i) (s.role i) (at s.log m x i)
place_log s f m r x h i t l e = at_each (λ i y. s.leader t ≡ i → Stands s.list t (s.term i) (s.role i) y) s.log m x
    (λ g. ((place_one s f m t l g).0, λ c. absurd (not_own s f m r h t c g))) (λ i n g. place_one s f i t l g) i e

pub place_keeps : (s : State) (e : Micro) → May s e → Facts s
    → Place (did s e).led (did s e).leader (did s e).list (did s e).term (did s e).role (did s e).log
place_keeps s (Open m) may f = place_all s.led s.leader s.list s.term (at s.role m Follower) s.log (place_role s f m)
place_keeps s (Halt m) may f = place_all s.led s.leader s.list s.term (at s.role m Follower) s.log (place_role s f m)
place_keeps s (Yield m) may f = place_all s.led s.leader s.list s.term (at s.role m Follower) s.log (place_role s f m)
place_keeps s (Raise m u) may f = place_all s.led s.leader s.list (at s.term m u) (at s.role m Follower) s.log
    (λ i t l e. at2_each (λ i v r. s.leader t ≡ i → Stands s.list t v r (s.log i)) s.term s.role m u Follower
    (λ g. let o = place_one s f m t l g in (omega (arith, o.0, may.1), λ c. absurd (omega (arith, o.0, may.1, c))))
    (λ i n g. place_one s f i t l g) i e)
place_keeps s (Stand m) may f = place_all s.led s.leader s.list s.term (at s.role m Candidate) s.log
    (λ i t l e. at_each (λ i r. s.leader t ≡ i → Stands s.list t (s.term i) r (s.log i)) s.role m Candidate (λ g. (
      (place_one s f m t l g).0,
      λ c. absurd (let d = f.led.candidacy t l in let x = f.fresh.stood m d.0 may.0 d.2 (d.3 ∙ g) in omega (arith, x, d.4, c)),
    )) (λ i n g. place_one s f i t l g) i e)
place_keeps s (Cut m r e) may f = place_all s.led s.leader s.list s.term s.role (at s.log m (take r.previous (s.log m)))
    (place_log s f m r (take r.previous (s.log m)) may.fits)
place_keeps s (Grow m r e) may f = place_all s.led s.leader s.list s.term s.role (at s.log m (s.log m ++ (e ∷ [])))
    (place_log s f m r (s.log m ++ (e ∷ [])) may.fits)
place_keeps s (Propose m e) may f = place_all s.led s.leader (at s.list (s.term m) (s.list (s.term m) ++ (e ∷ []))) s.term s.role
    (at s.log m (s.log m ++ (e ∷ [])))
    (λ i t l g. at_each
    (λ i y. s.leader t ≡ i → Stands (at s.list (s.term m) (s.list (s.term m) ++ (e ∷ []))) t (s.term i) (s.role i) y)
    s.log m (s.log m ++ (e ∷ [])) (here t l) (there t l) i g)
  where
    here : (t : ℕ) → s.led t ≡ true → s.leader t ≡ m
        → Stands (at s.list (s.term m) (s.list (s.term m) ++ (e ∷ []))) t (s.term m) (s.role m) (s.log m ++ (e ∷ []))
    here t l g =
        let o = place_one s f m t l g in
        let grown = ap (λ (x : List Entry). x ++ (e ∷ [])) (f.running.leads m may.role).2 in
        (o.0, λ c. ((o.1 c).0, grown ∙ sym (at_here s.list (s.term m) t (s.list (s.term m) ++ (e ∷ [])) (sym c))))

    there : (t : ℕ) → s.led t ≡ true → (i : ℕ) → i ≢ m → s.leader t ≡ i
        → Stands (at s.list (s.term m) (s.list (s.term m) ++ (e ∷ []))) t (s.term i) (s.role i) (s.log i)
    there t l i n g =
        let o = place_one s f i t l g in
        let other : t ≢ s.term m = λ z. n (sym g ∙ (ap s.leader z ∙ (f.running.leads m may.role).1)) in
        (o.0, λ c. ((o.1 c).0, (o.1 c).1 ∙ sym (at_other s.list (s.term m) t (s.list (s.term m) ++ (e ∷ [])) other)))
place_keeps s (Win m) may f = place_all (at s.led (s.term m) true) (at s.leader (s.term m) m) (at s.list (s.term m) (s.log m))
    s.term (at s.role m Leader) s.log each
  where
    leader_no_candidate : Leader ≢ Candidate
    leader_no_candidate e = cc

    each : (i t : ℕ) → at s.led (s.term m) true t ≡ true → at s.leader (s.term m) m t ≡ i
        → Stands (at s.list (s.term m) (s.log m)) t (s.term i) (at s.role m Leader i) (s.log i)
    each i t l g = elim (eqb_tells t (s.term m)) [
      | inl z ↦
          let im : i ≡ m = sym g ∙ at_here s.leader (s.term m) t m z.1 in (
            omega (arith, z.1, ap s.term im),
            λ c. (
              λ d. leader_no_candidate (sym (at_here s.role m i Leader im) ∙ d),
              ap s.log im
                  ∙ sym (at_here s.list (s.term m) t (s.log m) z.1),
            ),
          )
      | inr z ↦
          let l2 : s.led t ≡ true = sym (at_other s.led (s.term m) t true z.1) ∙ l in
          let g2 : s.leader t ≡ i = sym (at_other s.leader (s.term m) t m z.1) ∙ g in
          let o = place_one s f i t l2 g2 in (
            o.0,
            λ c.
                let im : i ≢ m = λ d. z.1 (sym c ∙ ap s.term d) in (
                  λ d. (o.1 c).0 (sym (at_other s.role m i Leader im) ∙ d),
                  (o.1 c).1 ∙ sym (at_other s.list (s.term m) t (s.log m) z.1),
                ),
          )
    ]
place_keeps s _ may f = f.place
