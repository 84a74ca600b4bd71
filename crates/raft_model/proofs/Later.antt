-- What lasts from one moment of a run to every later one.
use Rattle.std.proofs.Common.{◌≡◌, ℕ, suc, ◌+◌, ◌-◌, ◌<◌, ◌≤◌, Bool, true, List, [], ◌∷◌, ◌++◌, length, refl, arith, sym, ◌∙◌, ap, subst, inl, inr, take, get_or, length-append, if◌then◌else◌, min}
use Rattle.std.proofs.lemmas.Bool.{le-leb}
use Rattle.std.proofs.Math.Nat.{min-le_left}
use Rattle.std.proofs.Math.Seq.{get_or-append_seam}
use Rattle.std.proofs.lemmas.List.{take-take, take_all, length-take-le}
use Rattle.can_frame.specs.declared.entry.Entry.{Entry}
use Rattle.can_frame.specs.Log.{blank}
use Rattle.raft_model.specs.Lists.{at, at_other}
use Rattle.raft_model.specs.Log.{Same}
use Rattle.raft_model.specs.Messages.{reach}
use Rattle.raft_model.proofs.Micro.{State, Micro, did, May, MayCommit, run, Lawful}
use Rattle.raft_model.specs.Ledger.{ledger_after}
use Rattle.raft_model.proofs.Micro.Micro.{Win, Cut, Grow, Advance, Propose, Commit}
use Rattle.raft_model.proofs.Facts.{Facts, IsSettled, Later}
use Rattle.raft_model.proofs.Lists.{same_less, same_get, list_more, longer}
use Rattle.raft_model.proofs.Complete.{less_or}
use Rattle.raft_model.proofs.At.{at_each}
use Rattle.raft_model.proofs.Votes.{led_more}
use Rattle.raft_model.proofs.Led.{not_first}
use Rattle.raft_model.proofs.Keeps.{keeps}
use Rattle.raft_model.proofs.Firm.{settled_same}
use Rattle.raft_model.proofs.Committed.{ledger_stays, firm_commit}

pub led_later : (s : State) (e : Micro) → May s e → Facts s → (t : ℕ) → s.led t ≡ true → (did s e).led t ≡ true
led_later s (Win m) may f t h = led_more s (s.term m) t h
led_later s _ may f t h = h

pub leader_later : (s : State) (e : Micro) → May s e → Facts s → (t : ℕ) → s.led t ≡ true → (did s e).leader t ≡ s.leader t
leader_later s (Win m) may f t h = at_other s.leader (s.term m) t m (not_first s f m may t h)
leader_later s _ may f t h = refl

pub list_later : (s : State) (e : Micro) → May s e → Facts s → (t : ℕ) → s.led t ≡ true
    → (length (s.list t) ≤ length ((did s e).list t)) × Same (length (s.list t)) ((did s e).list t) (s.list t)
list_later s (Win m) may f t h = let q = at_other s.list (s.term m) t (s.log m) (not_first s f m may t h) in
    (subst (λ (x : List Entry). length (s.list t) ≤ length x) (sym q) (omega arith), ap (take (length (s.list t))) q)
list_later s (Propose m e) may f t h =
    (longer s.list (s.term m) e t, list_more s.list (s.term m) e t (length (s.list t)) (omega arith))
list_later s _ may f t h = (omega arith, refl)

-- an entry that a list gains has its term
pub gains_later : (s : State) (e : Micro) → May s e → Facts s → (t i : ℕ) → s.led t ≡ true → length (s.list t) ≤ i
    → i < length ((did s e).list t) → (get_or ((did s e).list t) i (blank 0)).term ≡ t
gains_later s (Win m) may f t i h above below =
    let q = at_other s.list (s.term m) t (s.log m) (not_first s f m may t h) in
    let n : length (at s.list (s.term m) (s.log m) t) ≡ length (s.list t) = ap length q in
    absurd (omega (arith, above, below, n))
gains_later s (Propose m e) may f t i h above below = at_each
    (λ u l. length (s.list u) ≤ i → i < length l → (get_or l i (blank 0)).term ≡ u) s.list (s.term m) (s.list (s.term m) ++ (e ∷ []))
    (λ a b.
    let n : length (s.list (s.term m)) ≡ i = omega (arith, a, b, length-append (s.list (s.term m)) (e ∷ [])) in
    ap (λ (j : ℕ). (get_or (s.list (s.term m) ++ (e ∷ [])) j (blank 0)).term) (sym n)
    ∙ (ap (λ (x : Entry). x.term) (get_or-append_seam (s.list (s.term m)) e [] (blank 0)) ∙ may.own_term))
    (λ u n a b. absurd (omega (arith, a, b))) t above below
gains_later s _ may f t i h above below = absurd (omega (arith, above, below))

pub commit_later : (s : State) (e : Micro) → May s e → Facts s → (m : ℕ) → s.commit m ≤ (did s e).commit m
commit_later s (Advance m r) may f = at_each (λ i c. s.commit i ≤ c) s.commit m (min r.commit (reach r)) (omega (arith, may.above))
    (λ i n. omega arith)
commit_later s (Commit m k) may f = at_each (λ i c. s.commit i ≤ c) s.commit m k (omega (arith, may.above)) (λ i n. omega arith)
commit_later s _ may f = λ i. omega arith

pub log_later : (s : State) (e : Micro) → May s e → Facts s → (m : ℕ) → Same (s.commit m) ((did s e).log m) (s.log m)
log_later s (Cut m r e) may f = at_each (λ i x. Same (s.commit i) x (s.log i)) s.log m (take r.previous (s.log m))
    (take-take (s.commit m) r.previous (s.log m) may.after_commit) (λ i n. refl)
log_later s (Grow m r e) may f = λ i. list_more s.log m e i (s.commit i) (f.stored.within i)
log_later s (Propose m e) may f = λ i. list_more s.log m e i (s.commit i) (f.stored.within i)
log_later s _ may f = λ i. refl

pub ledger_commit : (s : State) (m k : ℕ) → MayCommit s m k → Facts s
    → (length s.ledger ≤ length (ledger_after s.ledger (s.log m) k)) × Same (length s.ledger) (ledger_after s.ledger (s.log m) k) s.ledger
ledger_commit s m k h f = elim (less_or k (length s.ledger)) [
  | inl short ↦
      subst (λ (x : List Entry). (length s.ledger ≤ length x) × Same (length s.ledger) x s.ledger) (sym (ledger_stays s (s.log m) k short))
      (omega arith, refl)
  | inr long ↦
      let le : ledger_after s.ledger (s.log m) k ≡ take k (s.log m)
      = ap (λ (b : Bool). if b then take k (s.log m) else s.ledger) (le-leb (suc (length s.ledger)) k (omega (arith, long))) in
      subst (λ (x : List Entry). (length s.ledger ≤ length x) × Same (length s.ledger) x s.ledger) (sym le) (
        omega (arith, n, long),
        elim (less_or 1 (length s.ledger)) [
          | inl some ↦ sym (old some long)
          | inr none ↦ let z : length s.ledger ≡ 0 = omega (arith, none) in
              subst (λ (j : ℕ). Same j (take k (s.log m)) s.ledger) (sym z) refl
        ],
      )
]
  where
    n : length (take k (s.log m)) ≡ k
    n = length-take-le k (s.log m) h.inside

    whole : IsSettled s.members s.led s.leader s.list s.bag (take k (s.log m)) (s.term m)
    whole = (
      k,
      omega (arith, n),
      firm_commit s m k h f,
      ap (λ (j : ℕ). take j (take k (s.log m))) n
          ∙ (take-take k k (s.log m) (omega arith)
          ∙ (ap (take k) (f.running.leads m h.role).2 ∙ ap (λ (j : ℕ). take j (s.list (s.term m))) (sym n))),
    )

    old : 1 ≤ length s.ledger → length s.ledger < k → Same (length s.ledger) s.ledger (take k (s.log m))
    old some long =
        let nn : (length s.ledger - 1) + 1 ≡ length s.ledger = omega (arith, some) in
        let w0 = f.committed.place (length s.ledger - 1) (omega (arith, some)) in
        let w1 : IsSettled s.members s.led s.leader s.list s.bag (take (length s.ledger) s.ledger) (get_or s.stamps (length s.ledger - 1) 0)
        = subst (λ (j : ℕ). IsSettled s.members s.led s.leader s.list s.bag (take j s.ledger) (get_or s.stamps (length s.ledger - 1) 0))
        nn w0 in
        let w2 : IsSettled s.members s.led s.leader s.list s.bag s.ledger (get_or s.stamps (length s.ledger - 1) 0)
        = subst (λ (x : List Entry). IsSettled s.members s.led s.leader s.list s.bag x (get_or s.stamps (length s.ledger - 1) 0))
        (take_all (length s.ledger) s.ledger (omega arith)) w1 in
        settled_same s f s.ledger (take k (s.log m)) (get_or s.stamps (length s.ledger - 1) 0) (s.term m) w2 whole (omega (arith, n, long))

pub ledger_later : (s : State) (e : Micro) → May s e → Facts s
    → (length s.ledger ≤ length (did s e).ledger) × Same (length s.ledger) (did s e).ledger s.ledger
ledger_later s (Advance m r) may f =
    let q = f.committed.request r (f.posted.request r may.holds.fits.in_bag) may.holds.fits.kind in
    subst (λ (x : List Entry). (length s.ledger ≤ length x) × Same (length s.ledger) x s.ledger)
    (sym (ledger_stays s (s.log m) (min r.commit (reach r)) (omega (arith, q.0, min-le_left r.commit (reach r))))) (omega arith, refl)
ledger_later s (Commit m k) may f = ledger_commit s m k may f
ledger_later s _ may f = (omega arith, refl)

pub step_later : (s : State) (e : Micro) → May s e → Facts s → Later s (did s e)
step_later s e may f = record {
  led = led_later s e may f;
  leader = leader_later s e may f;
  list = list_later s e may f;
  gains = gains_later s e may f;
  commit = commit_later s e may f;
  committed = log_later s e may f;
  ledger = ledger_later s e may f;
}

pub later_joined : (s u v : State) → Later s u → Later u v → Later s v
later_joined s u v a b = record {
  led = λ t h. b.led t (a.led t h);
  leader = λ t h. b.leader t (a.led t h) ∙ a.leader t h;
  list = λ t h. let x = a.list t h in
      let y = b.list t (a.led t h) in
      (omega (arith, x.0, y.0), same_less (length (s.list t)) (length (u.list t)) (v.list t) (u.list t) x.0 y.1 ∙ x.1);
  gains = λ t i h above below. elim (less_or (length (u.list t)) i) [
    | inl high ↦ b.gains t i (a.led t h) high below
    | inr low ↦
        ap (λ (x : Entry). x.term) (same_get (length (u.list t)) i (v.list t) (u.list t) low (b.list t (a.led t h)).1)
        ∙ a.gains t i h above low
  ];
  commit = λ m. let x = a.commit m in let y = b.commit m in omega (arith, x, y);
  committed = λ m. same_less (s.commit m) (u.commit m) (v.log m) (u.log m) (a.commit m) (b.committed m) ∙ a.committed m;
  ledger = let x = a.ledger in
      let y = b.ledger in
      (omega (arith, x.0, y.0), same_less (length s.ledger) (length u.ledger) v.ledger u.ledger x.0 y.1 ∙ x.1);
}

pub later_same : (s : State) → Later s s
later_same s = record {
  led = λ t h. h;
  leader = λ t h. refl;
  list = λ t h. (omega arith, refl);
  gains = λ t i h above below. absurd (omega (arith, above, below));
  commit = λ m. omega arith;
  committed = λ m. refl;
  ledger = (omega arith, refl);
}

pub run_later : (es : List Micro) (s : State) → Lawful s es → Facts s → Later s (run s es)
run_later [] s l f = later_same s
run_later (e ∷ es) s l f = later_joined s (did s e) (run s (e ∷ es)) (step_later s e l.0 f) (run_later es (did s e) l.1 (keeps s e l.0 f))
