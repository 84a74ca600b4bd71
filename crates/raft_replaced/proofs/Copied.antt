-- The facts hold also where a lost member has the store of the leader of the highest term that was led.
use Rattle.std.proofs.Common.{◌≡◌, ◌≢◌, ℕ, zero, suc, ◌+◌, ◌-◌, ◌<◌, ◌≤◌, Bool, true, false, List, length, refl, arith, sym, ◌∙◌, ap, subst, inl, inr, ◌⊎◌, take, get_or, Option, Some}
use Rattle.std.proofs.lemmas.Bool.Decides.{eqb_tells}
use Rattle.can_frame.specs.declared.entry.Entry.{Entry}
use Rattle.can_frame.specs.Log.{IsInjective, IsWellFormed, blank, log_limit}
use Rattle.can_frame.specs.Zeros.{zeros}
use Rattle.raft_model.specs.History.{Candidacy, KeptVote}
use Rattle.raft_model.specs.Lists.{In}
use Rattle.raft_model.specs.Log.{IsRising, Same, term_at}
use Rattle.raft_model.specs.Messages.{Answer, Pair}
use Rattle.raft_model.specs.Server.{Role, memory_when_down}
use Rattle.raft_model.specs.Server.Role.{Follower}
use Rattle.raft_model.proofs.Agree.{same_prev}
use Rattle.raft_model.proofs.Apart.{candidate_no_follower, clash, leader_no_follower}
use Rattle.raft_model.proofs.At.{at_each, at2_each, at3_each}
use Rattle.raft_model.proofs.Complete.{less_or}
use Rattle.raft_model.proofs.Facts.{Facts, Acked, IsBound, IsMatching, IsSettled, Later, Off, Safe}
use Rattle.raft_model.proofs.Focus.{Focus, at_focus}
use Rattle.raft_model.proofs.Lists.{same_get, same_length, same_less}
use Rattle.raft_model.proofs.Micro.{State}
use Rattle.raft_model.proofs.Place.{Stands, place_all, place_one}
use Rattle.raft_model.proofs.Quorum.{tell}
use Rattle.raft_model.proofs.Safe.{safe}
use Rattle.raft_replaced.proofs.Backing.{stores_in}
use Rattle.raft_replaced.proofs.Remembered.{AreDown, history_of}

-- the lost member with the store of the leader
abbrev pub focus_copied : State → ℕ → Focus
focus_copied s l = record {
  raft_server = record { store = stores_in s l; memory = memory_when_down };
  fresh = false;
  requests = s.requests;
  answers = s.answers;
  pairs = s.pairs;
  bag = s.bag;
  history = history_of s;
  ledger = record { entries = s.ledger; stamps = s.stamps };
}

abbrev pub copied : State → ℕ → ℕ → State
copied s n l = at_focus s n (focus_copied s l)

same_term : (j : ℕ) (x y : List Entry) → Same j x y → term_at x j ≡ term_at y j
same_term zero x y s = refl
same_term (suc i) x y s = ap (λ (e : Entry). e.term) (same_get (suc i) i x y (omega arith) s)

-- whether two matching logs begin alike is told by one term
pub same_or_not : (led : ℕ → Bool) (list : ℕ → List Entry) (x y : List Entry) (j : ℕ) → IsMatching led list x → IsMatching led list y → j ≤ length y
    → Same j x y ⊎ (Same j x y → ⊥)
same_or_not led list x y j hx hy inside = elim (less_or j (length x)) [
  | inr short ↦ inr (λ s. let long = same_length j x y inside s in omega (arith, short, long))
  | inl long ↦ elim (eqb_tells (term_at x j) (term_at y j)) [
    | inl e ↦ inl (same_prev led list x y j hx hy long inside e.1)
    | inr e ↦ inr (λ s. e.1 (same_term j x y s))
  ]
]

module _ (s : State) (n l : ℕ) (f : Facts s) (down : AreDown s)
    (led : s.led (s.term l) ≡ true) (own : s.leader (s.term l) ≡ l) (bounded : (t : ℕ) → s.led t ≡ true → t ≤ s.term l)
    (votes_left : (k : KeptVote) → In k s.kept → (k.term < s.term l) ⊎ ((k.term ≡ s.term l) × (k.candidate ≡ l)))
    (stood_left : (c : Candidacy) → In c s.candidacies → (c.term < s.term l) ⊎ ((c.term ≡ s.term l) × (c.candidate ≡ l)))
    (other : l ≢ n) (vote : s.vote l ≡ Some l) (all : s.commit l ≡ length (s.log l)) where
  abbrev z : State
  z = copied s n l

  was_follower : (m : ℕ) → s.role m ≡ Follower
  was_follower m = (f.roles.down m (down m)).0

  is_follower : (m : ℕ) → z.role m ≡ Follower
  is_follower = at_each (λ i (r : Role). r ≡ Follower) s.role n Follower refl (λ i _. was_follower i)

  not_fresh : (m : ℕ) → z.fresh m ≡ false
  not_fresh = at_each (λ i (b : Bool). b ≡ false) s.fresh n false refl (λ i _. (f.roles.down i (down i)).1)

  -- the leader's log is the list of its term
  is_list : s.log l ≡ s.list (s.term l)
  is_list = subst (λ (m : ℕ). s.term m ≡ s.term l → s.log m ≡ s.list (s.term l)) own (f.place.same_log (s.term l) led) refl

  -- the ledger is no longer than this log, and begins it
  pub ledger_in : (length s.ledger ≤ length (s.log l)) × Same (length s.ledger) (s.log l) s.ledger
  ledger_in = elim (less_or 1 (length s.ledger)) [
    | inr none ↦
        let e : length s.ledger ≡ 0 = omega (arith, none) in
        (omega (arith, e), subst (λ (k : ℕ). Same k (s.log l) s.ledger) (sym e) refl)
    | inl some ↦
        let i : length s.ledger - 1 < length s.ledger = omega (arith, some) in
        let e : (length s.ledger - 1) + 1 ≡ length s.ledger = omega (arith, some) in
        let stamp = bounded (get_or s.stamps (length s.ledger - 1) 0) (f.committed.place (length s.ledger - 1) i).2.there in
        let whole : Safe s = safe s f in
        let same : Same (length s.ledger) (s.list (s.term l)) s.ledger
        = subst (λ (k : ℕ). Same k (s.list (s.term l)) s.ledger) e (whole.later (length s.ledger - 1) (s.term l) i stamp led) in
        let mine : Same (length s.ledger) (s.log l) s.ledger = ap (take (length s.ledger)) is_list ∙ same in
        (same_length (length s.ledger) (s.log l) s.ledger (omega arith) mine, mine)
  ]

  -- what any member has committed begins this log
  begins : (m : ℕ) → (s.commit m ≤ s.commit l) × Same (s.commit m) (s.log l) (s.log m)
  begins m =
      let whole : Safe s = safe s f in
      let c = whole.committed m in
      let g = ledger_in in
      (omega (arith, c.0, g.0, all), same_less (s.commit m) (length s.ledger) (s.log l) s.ledger c.0 g.1 ∙ sym c.1)

  -- a vote and a candidacy of the lost member bind it still
  bound_then : (m c t : ℕ) → (t < s.term l) ⊎ ((t ≡ s.term l) × (c ≡ l)) → IsBound s.term s.vote m c t → IsBound z.term z.vote m c t
  bound_then m c t left was = at2_each (λ i (x : ℕ) (o : Option ℕ). m ≡ i → (t < x) ⊎ ((t ≡ x) × (o ≡ Some c))) s.term s.vote n (s.term l) (s.vote l)
      (λ e. elim left [ inl x ↦ inl x | inr x ↦ inr (x.0, vote ∙ ap (λ (y : ℕ). Some y) (sym x.1)) ])
      (λ i _ e. subst (λ (y : ℕ). IsBound s.term s.vote y c t) e was) m refl

  stands_there : (i t : ℕ) → s.led t ≡ true → s.leader t ≡ i → Stands s.list t (z.term i) (z.role i) (z.log i)
  stands_there i t is_led e = at3_each (λ i (x : ℕ) (r : Role) (g : List Entry). s.leader t ≡ i → Stands s.list t x r g) s.term s.role s.log n (s.term l) Follower (s.log l)
      (λ e. (bounded t is_led, λ (same : s.term l ≡ t). absurd (other (sym own ∙ (ap s.leader same ∙ e)))))
      (λ i _ e. place_one s f i t is_led e) i e

  -- what a member said yes to is of no higher term
  accepted : (a : Answer) → In a s.answers → a.success ≡ true → a.request.term ≤ s.term l
  accepted a i agreed = elim (tell a.request.append) [
    | inl append ↦ bounded a.request.term (f.acks.own_log a.from a.request.term 0 (inr (a, i, refl, agreed, append, refl, omega arith))).0
    | inr no_append ↦
        let k = f.answered.voted a i agreed no_append in
        elim (votes_left k.0 k.1) [ inl x ↦ omega (arith, x, k.4) | inr x ↦ omega (arith, x.0, k.4) ]
  ]

  -- the copy has what the lost member acknowledged, or the leader's term diverges
  has_kept : (t j : ℕ) → s.led t ≡ true → j ≤ length (s.list t) → Same j (s.log l) (s.list t) ⊎ Off s.led s.list t j (s.term l + 1)
  has_kept t j is_led inside = elim (less_or (s.term l) t) [
    | inl high ↦
        let e : s.term l ≡ t = let low = bounded t is_led in omega (arith, high, low) in
        inl (ap (take j) (is_list ∙ ap s.list e))
    | inr low ↦ elim (same_or_not s.led s.list (s.log l) (s.list t) j (f.matching.logs l) (f.matching.lists t) inside) [
      | inl same ↦ inl same
      | inr differs ↦ inr (s.term l, low, omega arith, led, λ same. differs (ap (take j) is_list ∙ same))
    ]
  ]

  own_log : (m t j : ℕ) → Acked s.led s.leader s.list s.answers m t j
      → (s.led t ≡ true) × (j ≤ length (s.list t)) × (t ≤ z.term m) × (Same j (z.log m) (s.list t) ⊎ Off s.led s.list t j (z.term m + 1))
  own_log m t j a =
      let k = f.acks.own_log m t j a in
      let here = at2_each (λ i (x : ℕ) (g : List Entry). m ≡ i → (t ≤ x) × (Same j g (s.list t) ⊎ Off s.led s.list t j (x + 1))) s.term s.log n (s.term l) (s.log l)
      (λ e. (bounded t k.0, has_kept t j k.0 k.1))
      (λ i _ e. subst (λ (y : ℕ). (t ≤ s.term y) × (Same j (s.log y) (s.list t) ⊎ Off s.led s.list t j (s.term y + 1))) e (k.2, k.3)) m refl in
      (k.0, k.1, here.0, here.1)

  is_told : (p : Pair) → In p s.pairs
      → (i : ℕ) × (i < z.commit p.from) × ((get_or (z.log p.from) i (blank 0)).uid ≡ p.uid) × ((get_or (z.log p.from) i (blank 0)).node ≡ p.node)
      × (p.uid ≢ zeros)
  is_told p i =
      let q = f.told.pair p i in
      let b = begins p.from in
      let same : get_or (s.log l) q.0 (blank 0) ≡ get_or (s.log p.from) q.0 (blank 0)
      = same_get (s.commit p.from) q.0 (s.log l) (s.log p.from) q.1 b.1 in
      at2_each
      (λ i (c : ℕ) (g : List Entry). p.from ≡ i → (i : ℕ) × (i < c) × ((get_or g i (blank 0)).uid ≡ p.uid) × ((get_or g i (blank 0)).node ≡ p.node)
      × (p.uid ≢ zeros))
      s.commit s.log n (s.commit l) (s.log l)
      (λ _. (q.0, omega (arith, q.1, b.0), ap (λ (e : Entry). e.uid) same ∙ q.2, ap (λ (e : Entry). e.node) same ∙ q.3, q.4))
      (λ i _ e. subst
      (λ (y : ℕ). (i : ℕ) × (i < s.commit y) × ((get_or (s.log y) i (blank 0)).uid ≡ p.uid) × ((get_or (s.log y) i (blank 0)).node ≡ p.node)
      × (p.uid ≢ zeros)) e q)
      p.from refl

  pub copied_meets : Facts (copied s n l)
  copied_meets = record {
    stored = record {
      within = at2_each (λ i (c : ℕ) (x : List Entry). c ≤ length x) s.commit s.log n (s.commit l) (s.log l) (f.stored.within l) (λ i _. f.stored.within i);
      log_limit = at_each (λ i (x : List Entry). length x ≤ log_limit) s.log n (s.log l) (f.stored.log_limit l) (λ i _. f.stored.log_limit i);
      well_formed = at_each (λ i (x : List Entry). (j : ℕ) → j < length x → IsWellFormed (get_or x j (blank 0))) s.log n (s.log l) (f.stored.well_formed l)
          (λ i _. f.stored.well_formed i);
      rising = at2_each (λ i (x : List Entry) (t : ℕ). IsRising x t) s.log s.term n (s.log l) (s.term l) (f.stored.rising l) (λ i _. f.stored.rising i);
      injective = at_each (λ i (x : List Entry). IsInjective x) s.log n (s.log l) (f.stored.injective l) (λ i _. f.stored.injective i);
    };
    roles = record {
      down = λ m e. (is_follower m, not_fresh m);
      voted = λ m ne. absurd (ne (is_follower m));
      terms = λ m ne. absurd (ne (is_follower m));
    };
    fresh = record {
      follower = λ m e. is_follower m;
      terms = λ m e. absurd (clash (z.fresh m) e (not_fresh m));
      entries = λ m i e. absurd (clash (z.fresh m) e (not_fresh m));
      votes = λ m k e. absurd (clash (z.fresh m) e (not_fresh m));
      stood = λ m c e. absurd (clash (z.fresh m) e (not_fresh m));
    };
    bound = record {
      votes = λ k i. bound_then k.voter k.candidate k.term (votes_left k i) (f.bound.votes k i);
      stood = λ c i. bound_then c.candidate c.candidate c.term (stood_left c i) (f.bound.stood c i);
    };
    votes = f.votes;
    stood = f.stood;
    led = f.led;
    place = place_all s.led s.leader s.list z.term z.role z.log stands_there;
    running = record {
      leads = λ m e. absurd (leader_no_follower (z.role m) e (is_follower m));
      stands = λ m e. absurd (candidate_no_follower (z.role m) e (is_follower m));
      counted = λ m q e. absurd (candidate_no_follower (z.role m) e (is_follower m));
    };
    asked = f.asked;
    answered = record {
      asked = f.answered.asked;
      success = λ a i e.
          let q = f.answered.success a i e in (
            q.0,
            at_each (λ i (x : ℕ). a.from ≡ i → a.request.term ≤ x) s.term n (s.term l) (λ _. accepted a i e)
                (λ i _ g. subst (λ (y : ℕ). a.request.term ≤ s.term y) g q.1) a.from refl,
          );
      voted = f.answered.voted;
    };
    posted = f.posted;
    calls = record {
      own = λ m q r ne. absurd (ne (is_follower m));
      votes = λ m q r e. absurd (candidate_no_follower (z.role m) e (is_follower m));
      appends = λ m q r e. absurd (leader_no_follower (z.role m) e (is_follower m));
    };
    matched = record { acked = λ m q e. absurd (leader_no_follower (z.role m) e (is_follower m)) };
    matching = record {
      logs = at_each (λ i (x : List Entry). IsMatching s.led s.list x) s.log n (s.log l) (f.matching.logs l) (λ i _. f.matching.logs i);
      lists = f.matching.lists;
      stood = f.matching.stood;
      voted = f.matching.voted;
    };
    acks = record { own_log = own_log; voted = f.acks.voted };
    committed = record {
      server = at3_each
          (λ i (c : ℕ) (x : List Entry) (u : ℕ). (c ≡ 0) ⊎ ((t : ℕ) × (t ≤ u) × IsSettled s.members s.led s.leader s.list s.bag (take c x) t))
          s.commit s.log s.term n (s.commit l) (s.log l) (s.term l) (f.committed.server l) (λ i _. f.committed.server i);
      below = at_each (λ i (c : ℕ). c ≤ length s.ledger) s.commit n (s.commit l) (f.committed.below l) (λ i _. f.committed.below i);
      request = f.committed.request;
      stamped = f.committed.stamped;
      place = f.committed.place;
    };
    told = record { pair = is_told };
  }

  pub copied_later : Later s (copied s n l)
  copied_later = record {
    led = λ t h. h;
    leader = λ t h. refl;
    list = λ t h. (omega arith, refl);
    gains = λ t i h above below. absurd (omega (arith, above, below));
    commit = at_each (λ i (c : ℕ). s.commit i ≤ c) s.commit n (s.commit l) (begins n).0 (λ i _. omega arith);
    committed = at_each (λ i (x : List Entry). Same (s.commit i) x (s.log i)) s.log n (s.log l) (begins n).1 (λ i _. refl);
    ledger = (omega arith, refl);
  }
