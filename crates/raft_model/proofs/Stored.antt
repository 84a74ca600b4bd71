-- What is stored stays sound through every micro move.
use Rattle.std.proofs.Common.{◌≡◌, ◌≢◌, ℕ, ◌-◌, ◌<◌, ◌≤◌, List, [], ◌∷◌, ◌++◌, length, refl, arith, sym, ◌∙◌, ap, subst, inl, inr, take, get_or, length-append, length-take, get_or-take, min}
use Rattle.std.proofs.lemmas.List.{get_or_append_left}
use Rattle.std.proofs.Math.Seq.{get_or-append_seam}
use Rattle.std.proofs.Math.Nat.{min-le_right}
use Rattle.can_frame.specs.declared.entry.Entry.{Entry}
use Rattle.can_frame.specs.Log.{AreDistinct, IsBlank, IsInjective, IsWellFormed, blank, last_term, log_limit}
use Rattle.raft_model.specs.Log.{IsRising}
use Rattle.raft_model.specs.Messages.{reach}
use Rattle.raft_model.specs.Lists.{at}
use Rattle.raft_model.specs.Server.Role.{Follower, Leader}
use Rattle.raft_model.proofs.Micro.{State, Micro, did, May}
use Rattle.raft_model.proofs.Micro.Micro.{Raise, Cut, Grow, Advance, Propose, Commit}
use Rattle.raft_model.proofs.Facts.{Facts, Stored}
use Rattle.raft_model.proofs.Lists.{term_at_less}
use Rattle.raft_model.proofs.At.{at_each}
use Rattle.raft_model.proofs.Agree.{agree}
use Rattle.raft_model.proofs.Complete.{less_or}

pub each_snoc : (P : Entry → Type 0) (l : List Entry) (e : Entry) → ((i : ℕ) → i < length l → P (get_or l i (blank 0))) → P e → (i : ℕ)
    → i < length (l ++ (e ∷ [])) → P (get_or (l ++ (e ∷ [])) i (blank 0))
each_snoc P l e h here i b = elim (less_or (length l) i) [
  | inr old ↦ subst P (sym (get_or_append_left l (e ∷ []) (blank 0) i old)) (h i old)
  | inl new ↦
      let n : length l ≡ i = omega (arith, new, b, length-append l (e ∷ [])) in
      subst (λ (j : ℕ). P (get_or (l ++ (e ∷ [])) j (blank 0))) n (subst P (sym (get_or-append_seam l e [] (blank 0))) here)
]

pub each_take : (P : Entry → Type 0) (l : List Entry) (p : ℕ) → ((i : ℕ) → i < length l → P (get_or l i (blank 0))) → (i : ℕ)
    → i < length (take p l) → P (get_or (take p l) i (blank 0))
each_take P l p h i b = subst P (sym (get_or-take p l i (blank 0) (omega (arith, b, length-take p l))))
    (h i (omega (arith, b, length-take p l)))

pub rising_up : (l : List Entry) (a b : ℕ) → a ≤ b → IsRising l a → IsRising l b
rising_up l a b h r = record
    { low = r.low; high = λ i c. let x : (get_or l i (blank 0)).term ≤ a = r.high i c in omega (arith, x, h); rises = r.rises }

pub rising_take : (l : List Entry) (a p : ℕ) → IsRising l a → IsRising (take p l) a
rising_take l a p r = record {
  low = each_take (λ e. 1 ≤ e.term) l p r.low;
  high = each_take (λ e. e.term ≤ a) l p r.high;
  rises = λ i j h b.
      let si : get_or (take p l) i (blank 0) ≡ get_or l i (blank 0) = get_or-take p l i (blank 0) (omega (arith, h, b, length-take p l)) in
      let sj : get_or (take p l) j (blank 0) ≡ get_or l j (blank 0) = get_or-take p l j (blank 0) (omega (arith, b, length-take p l)) in
      let x : (get_or l i (blank 0)).term ≤ (get_or l j (blank 0)).term = r.rises i j h (omega (arith, b, length-take p l)) in
      subst (λ (e : Entry). e.term ≤ (get_or (take p l) j (blank 0)).term) (sym si)
      (subst (λ (e : Entry). (get_or l i (blank 0)).term ≤ e.term) (sym sj) x);
}

pub below_last : (l : List Entry) (a i : ℕ) → IsRising l a → i < length l → (get_or l i (blank 0)).term ≤ last_term l
below_last l a i r b =
    let e : last_term l ≡ (get_or l (length l - 1) (blank 0)).term = term_at_less l (length l) (omega (arith, b)) in
    let x : (get_or l i (blank 0)).term ≤ (get_or l (length l - 1) (blank 0)).term
    = r.rises i (length l - 1) (omega (arith, b)) (omega (arith, b)) in
    omega (arith, x, e)

pub last_below : (l : List Entry) (a : ℕ) → IsRising l a → last_term l ≤ a
last_below [] a r = omega arith
last_below (x ∷ xs) a r =
    let e : last_term (x ∷ xs) ≡ (get_or (x ∷ xs) (length (x ∷ xs) - 1) (blank 0)).term
    = term_at_less (x ∷ xs) (length (x ∷ xs)) (omega arith) in
    let y : (get_or (x ∷ xs) (length (x ∷ xs) - 1) (blank 0)).term ≤ a = r.high (length (x ∷ xs) - 1) (omega arith) in
    omega (arith, e, y)

pub rising_snoc : (l : List Entry) (e : Entry) (a : ℕ) → IsRising l a → last_term l ≤ e.term → 1 ≤ e.term → e.term ≤ a
    → IsRising (l ++ (e ∷ [])) a
rising_snoc l e a r up low high = record {
  low = each_snoc (λ x. 1 ≤ x.term) l e r.low low;
  high = each_snoc (λ x. x.term ≤ a) l e r.high high;
  rises = λ i j h b. elim (less_or (length l) j) [
    | inr old ↦
        let si : get_or (l ++ (e ∷ [])) i (blank 0) ≡ get_or l i (blank 0)
        = get_or_append_left l (e ∷ []) (blank 0) i (omega (arith, h, old)) in
        let sj : get_or (l ++ (e ∷ [])) j (blank 0) ≡ get_or l j (blank 0) = get_or_append_left l (e ∷ []) (blank 0) j old in
        subst (λ (x : Entry). x.term ≤ (get_or (l ++ (e ∷ [])) j (blank 0)).term) (sym si)
        (subst (λ (x : Entry). (get_or l i (blank 0)).term ≤ x.term) (sym sj) (r.rises i j h old))
    | inl new ↦
        let n : length l ≡ j = omega (arith, new, b, length-append l (e ∷ [])) in
        let sj : get_or (l ++ (e ∷ [])) j (blank 0) ≡ e
        = ap (λ (k : ℕ). get_or (l ++ (e ∷ [])) k (blank 0)) (sym n) ∙ get_or-append_seam l e [] (blank 0) in
        let all : (get_or (l ++ (e ∷ [])) i (blank 0)).term ≤ e.term
        = each_snoc (λ x. x.term ≤ e.term) l e
        (λ k c. let y : (get_or l k (blank 0)).term ≤ last_term l = below_last l a k r c in omega (arith, y, up)) (omega arith) i
        (omega (arith, h, b)) in
        subst (λ (x : Entry). (get_or (l ++ (e ∷ [])) i (blank 0)).term ≤ x.term) (sym sj) all
  ];
}

-- equal entries are as distinct
distinct_by : {a b c d : Entry} → a ≡ c → b ≡ d → AreDistinct a b → AreDistinct c d
distinct_by {a} {b} {c} {d} left right h = subst (λ (x : Entry). AreDistinct x d) left (subst (λ (x : Entry). AreDistinct a x) right h)

-- an injective list whose entries are those of another at the same places
pub inj_by : (l k : List Entry) → ((i : ℕ) → i < length k → get_or k i (blank 0) ≡ get_or l i (blank 0)) → length k ≤ length l
    → IsInjective l → IsInjective k
inj_by l k same short h = λ i j b c. distinct_by (sym (same i (omega (arith, b, c)))) (sym (same j c)) (h i j b (omega (arith, c, short)))

pub inj_take : (l : List Entry) (p : ℕ) → IsInjective l → IsInjective (take p l)
inj_take l p h = inj_by l (take p l) (λ i b. get_or-take p l i (blank 0) (omega (arith, b, length-take p l)))
    (omega (arith, length-take p l)) h

pub inj_blank : (l : List Entry) (t : ℕ) → IsInjective l → IsInjective (l ++ (blank t ∷ []))
inj_blank l t h = λ i j b c. elim (less_or (length l) j) [
  | inl new ↦ record { nodes = λ ni nj. absurd (nj (last j new c)); uids = λ ni nj. absurd (nj (last j new c)) }
  | inr old ↦ distinct_by (sym (left i (omega (arith, b, old)))) (sym (left j old)) (h i j b old)
]
  where
    left : (i : ℕ) → i < length l → get_or (l ++ (blank t ∷ [])) i (blank 0) ≡ get_or l i (blank 0)
    left i b = get_or_append_left l (blank t ∷ []) (blank 0) i b

    last : (j : ℕ) → length l ≤ j → j < length (l ++ (blank t ∷ [])) → IsBlank (get_or (l ++ (blank t ∷ [])) j (blank 0))
    last j new b =
        let n : length l ≡ j = omega (arith, new, b, length-append l (blank t ∷ [])) in
        subst (λ (k : ℕ). IsBlank (get_or (l ++ (blank t ∷ [])) k (blank 0))) n
        (subst IsBlank (sym (get_or-append_seam l (blank t) [] (blank 0))) (refl, refl))

-- all that is asked of one log
pub record Good (l : List Entry) (t c : ℕ) : Type 0 where
  pub within : c ≤ length l
  pub log_limit : length l ≤ log_limit
  pub well_formed : (i : ℕ) → i < length l → IsWellFormed (get_or l i (blank 0))
  pub rising : IsRising l t
  pub injective : IsInjective l

pub good : (s : State) → Facts s → (m : ℕ) → Good (s.log m) (s.term m) (s.commit m)
good s f m = record {
  within = f.stored.within m;
  log_limit = f.stored.log_limit m;
  well_formed = f.stored.well_formed m;
  rising = f.stored.rising m;
  injective = f.stored.injective m;
}

pub stored_all : (log : ℕ → List Entry) (term commit : ℕ → ℕ) → ((m : ℕ) → Good (log m) (term m) (commit m)) → Stored log term commit
stored_all log term commit h = record {
  within = λ m. (h m).within;
  log_limit = λ m. (h m).log_limit;
  well_formed = λ m. (h m).well_formed;
  rising = λ m. (h m).rising;
  injective = λ m. (h m).injective;
}

pub good_snoc : (l : List Entry) (e : Entry) (t c : ℕ) → Good l t c → length l < log_limit → IsWellFormed e → last_term l ≤ e.term
    → 1 ≤ e.term → e.term ≤ t → IsInjective (l ++ (e ∷ [])) → Good (l ++ (e ∷ [])) t c
good_snoc l e t c g room w up low high inj = record {
  within = omega (arith, g.within, length-append l (e ∷ []));
  log_limit = omega (arith, room, length-append l (e ∷ []));
  well_formed = each_snoc IsWellFormed l e g.well_formed w;
  rising = rising_snoc l e t g.rising up low high;
  injective = inj;
}

pub no_follower : (s : State) (m : ℕ) → s.role m ≡ Leader → s.role m ≢ Follower
no_follower s m h e = cc

pub stored_keeps : (s : State) (e : Micro) → May s e → Facts s → Stored (did s e).log (did s e).term (did s e).commit
stored_keeps s (Raise m t) may f = stored_all s.log (at s.term m t) s.commit
    (at_each (λ i v. Good (s.log i) v (s.commit i)) s.term m t
    (let g = good s f m in
    record {
      within = g.within;
      log_limit = g.log_limit;
      well_formed = g.well_formed;
      injective = g.injective;
      rising = rising_up (s.log m) (s.term m) t (omega (arith, may.1)) g.rising;
    })
    (λ i n. good s f i))
stored_keeps s (Cut m r e) may f = stored_all (at s.log m (take r.previous (s.log m))) s.term s.commit
    (at_each (λ i l. Good l (s.term i) (s.commit i)) s.log m (take r.previous (s.log m))
    (let g = good s f m in
    record {
      within = omega (arith, may.after_commit, may.inside, length-take r.previous (s.log m));
      log_limit = omega (arith, g.log_limit, length-take r.previous (s.log m));
      well_formed = each_take IsWellFormed (s.log m) r.previous g.well_formed;
      rising = rising_take (s.log m) (s.term m) r.previous g.rising;
      injective = inj_take (s.log m) r.previous g.injective;
    })
    (λ i n. good s f i))
stored_keeps s (Grow m r e) may f = stored_all (at s.log m (s.log m ++ (e ∷ []))) s.term s.commit
    (at_each (λ i l. Good l (s.term i) (s.commit i)) s.log m (s.log m ++ (e ∷ []))
    (good_snoc (s.log m) e (s.term m) (s.commit m) (good s f m) may.room may.well_formed may.rises low
    (omega (arith, may.below, may.fits.own_term)) may.injective)
    (λ i n. good s f i))
  where
    low : 1 ≤ e.term
    low =
        let en = f.asked.entry r e (f.posted.request r may.fits.in_bag) may.fits.kind may.entry in
        subst (λ (x : Entry). 1 ≤ x.term) en.1 ((f.led.rising r.term).low r.previous en.0)
stored_keeps s (Advance m r) may f = stored_all s.log s.term (at s.commit m (min r.commit (reach r)))
    (at_each (λ i c. Good (s.log i) (s.term i) c) s.commit m (min r.commit (reach r))
    (let g = good s f m in
    let a = agree s f m r may.holds in
    record {
      within = omega (arith, min-le_right r.commit (reach r), a.0);
      log_limit = g.log_limit;
      well_formed = g.well_formed;
      rising = g.rising;
      injective = g.injective;
    })
    (λ i n. good s f i))
stored_keeps s (Propose m e) may f = stored_all (at s.log m (s.log m ++ (e ∷ []))) s.term s.commit
    (at_each (λ i l. Good l (s.term i) (s.commit i)) s.log m (s.log m ++ (e ∷ []))
    (good_snoc (s.log m) e (s.term m) (s.commit m) (good s f m) may.room may.well_formed
    (let x = last_below (s.log m) (s.term m) (f.stored.rising m) in omega (arith, x, may.own_term))
    (let x = f.roles.terms m (no_follower s m may.role) in omega (arith, x, may.own_term)) (omega (arith, may.own_term))
    may.injective)
    (λ i n. good s f i))
stored_keeps s (Commit m k) may f = stored_all s.log s.term (at s.commit m k)
    (at_each (λ i c. Good (s.log i) (s.term i) c) s.commit m k
    (let g = good s f m in
    record { within = may.inside; log_limit = g.log_limit; well_formed = g.well_formed; rising = g.rising; injective = g.injective })
    (λ i n. good s f i))
stored_keeps s _ may f = f.stored
