-- The facts hold also where a member that most members back, in a term that nobody led, is taken as elected in it.
use Rattle.std.proofs.Common.{◌≡◌, ◌≢◌, ℕ, ◌+◌, ◌<◌, ◌≤◌, true, false, List, [], ◌∷◌, ◌++◌, length, refl, arith, sym, ◌∙◌, ap, subst, inl, inr, ◌⊎◌, take, get_or, Some}
use Rattle.std.specs.Prelude.{◌==◌, ◌&&◌, if◌then◌else◌}
use Rattle.std.proofs.lemmas.Bool.Decides.{eqb_tells}
use Rattle.std.proofs.lemmas.List.{append-nil}
use Rattle.can_frame.specs.declared.entry.Entry.{Entry}
use Rattle.can_frame.specs.Log.{IsInjective, IsWellFormed, blank, last_term, log_limit}
use Rattle.raft_model.specs.History.{Candidacy, KeptVote}
use Rattle.raft_model.specs.Invariants.{is_vote}
use Rattle.raft_model.specs.Lists.{In, any, at, at_here, at_other, how_many}
use Rattle.raft_model.specs.Log.{IsRising, NotAbove, Same, term_at}
use Rattle.raft_model.specs.Server.{quorum}
use Rattle.raft_model.specs.Server.Role.{Follower}
use Rattle.raft_model.proofs.Acks.{vote_now}
use Rattle.raft_model.proofs.Apart.{candidate_no_follower, clash, leader_no_follower}
use Rattle.raft_model.proofs.At.{at_each}
use Rattle.raft_model.proofs.Facts.{Facts, Acked, IsBound, IsMatching, IsSettled, Later, Off, is_ack}
use Rattle.raft_model.proofs.Keeps.{no_place}
use Rattle.raft_model.proofs.Micro.{State}
use Rattle.raft_model.proofs.Place.{Stands, place_all, place_one}
use Rattle.raft_model.proofs.Quorum.{any_found, any_there, count_grows}
use Rattle.raft_model.proofs.Votes.{led_more}
use Rattle.raft_replaced.specs.Replacement.{backing_votes, backs}
use Rattle.raft_replaced.proofs.Backing.{backing_has, backing_vote, count_grows_in, in_backing, is_backing, stores_in}
use Rattle.raft_replaced.proofs.Filters.{and_both, equal_true, in_append, in_append_left, in_append_right}
use Rattle.raft_replaced.proofs.Remembered.{AreDown}

abbrev pub elected : State → ℕ → ℕ → State
elected s n l = record s {
  led = at s.led (s.term l) true;
  leader = at s.leader (s.term l) l;
  list = at s.list (s.term l) (s.log l);
  candidacies = record { candidate = l; term = s.term l; log = s.log l } ∷ s.candidacies;
  kept = backing_votes (stores_in s) n l s.members ++ s.kept;
}

module _ (s : State) (n l : ℕ) (f : Facts s) (down : AreDown s) (none : s.led (s.term l) ≡ false)
    (low_votes : (k : KeptVote) → In k s.kept → k.term < s.term l)
    (low_stood : (c : Candidacy) → In c s.candidacies → c.term < s.term l)
    (some : 1 ≤ s.term l) (vote : s.vote l ≡ Some l)
    (majority : quorum s.members ≤ how_many (backs (stores_in s) n l) s.members) where
  abbrev z : State
  z = elected s n l

  is_follower : (m : ℕ) → s.role m ≡ Follower
  is_follower m = (f.roles.down m (down m)).0

  -- led terms are other terms, and stay as they are
  apart : (t : ℕ) → s.led t ≡ true → t ≢ s.term l
  apart t led e = clash (s.led (s.term l)) (ap s.led (sym e) ∙ led) none

  led_then : (t : ℕ) → s.led t ≡ true → z.led t ≡ true
  led_then t led = led_more s (s.term l) t led

  leader_then : (t : ℕ) → s.led t ≡ true → z.leader t ≡ s.leader t
  leader_then t led = at_other s.leader (s.term l) t l (apart t led)

  list_then : (t : ℕ) → s.led t ≡ true → z.list t ≡ s.list t
  list_then t led = at_other s.list (s.term l) t (s.log l) (apart t led)

  was_led : (t : ℕ) → z.led t ≡ true → (t ≡ s.term l) ⊎ (s.led t ≡ true)
  was_led t led = elim (eqb_tells t (s.term l)) [
    | inl h ↦ inl h.1
    | inr h ↦ inr (sym (at_other s.led (s.term l) t true h.1) ∙ led)
  ]

  matching_then : (x : List Entry) → IsMatching s.led s.list x → IsMatching z.led z.list x
  matching_then x h i b =
      let k = h i b in
      let t = (get_or x i (blank 0)).term in
      let q = list_then t k.0 in
      (led_then t k.0, subst (λ (y : List Entry). i < length y) (sym q) k.1, k.2 ∙ sym (ap (take (i + 1)) q))

  -- the entries of a matching log have other terms
  entries_below : (x : List Entry) → IsMatching s.led s.list x → IsRising x (s.term l) → (i : ℕ) → i < length x
      → (get_or x i (blank 0)).term < s.term l
  entries_below x h rises i b =
      let most = rises.high i b in
      let differs = apart (get_or x i (blank 0)).term (h i b).0 in
      elim (eqb_tells (get_or x i (blank 0)).term (s.term l)) [ inl e ↦ absurd (differs e.1) | inr e ↦ lower (get_or x i (blank 0)).term (s.term l) most e.1 ]
    where
      lower : (a b : ℕ) → a ≤ b → a ≢ b → a < b
      lower a b h ne = grind (arith, h, ne)

  off_then : (t j u : ℕ) → s.led t ≡ true → Off s.led s.list t j u → Off z.led z.list t j u
  off_then t j u led o = (
    o.0,
    o.1,
    o.2,
    led_then o.0 o.3,
    λ same. o.4 (ap (take j) (sym (list_then o.0 o.3)) ∙ (same ∙ ap (take j) (list_then t led))),
  )

  same_or_off : (x : List Entry) (t j u : ℕ) → s.led t ≡ true → Same j x (s.list t) ⊎ Off s.led s.list t j u
      → Same j x (z.list t) ⊎ Off z.led z.list t j u
  same_or_off x t j u led h = elim h [
    | inl same ↦ inl (same ∙ ap (take j) (sym (list_then t led)))
    | inr off ↦ inr (off_then t j u led off)
  ]

  settled_then : (x : List Entry) (t : ℕ) → IsSettled s.members s.led s.leader s.list s.bag x t
      → IsSettled s.members z.led z.leader z.list s.bag x t
  settled_then x t h =
      let led = h.2.there in
      let q = list_then t led in (
        h.0,
        h.1,
        record {
          there = led_then t led;
          low = h.2.low;
          inside = subst (λ (y : List Entry). h.0 ≤ length y) (sym q) h.2.inside;
          own_term = subst (λ (y : List Entry). term_at y h.0 ≡ t) (sym q) h.2.own_term;
          held =
              subst (λ (y : ℕ). quorum s.members ≤ how_many (λ m. if y == m then true else any (is_ack m t h.0) s.bag) s.members)
              (sym (leader_then t led)) h.2.held;
        },
        subst (λ (y : List Entry). Same (length x) x y) (sym q) h.3,
      )

  -- acknowledgements of other terms were there before
  acked_was : (m t j : ℕ) → t ≢ s.term l → Acked z.led z.leader z.list s.answers m t j → Acked s.led s.leader s.list s.answers m t j
  acked_was m t j ne a = elim a [
    | inl x ↦ elim (was_led t x.0) [
      | inl e ↦ absurd (ne e)
      | inr led ↦ inl (led, sym (leader_then t led) ∙ x.1, subst (λ (y : List Entry). j ≤ length y) (list_then t led) x.2)
    ]
    | inr x ↦ inr x
  ]

  old_own : (m t j : ℕ) → Acked s.led s.leader s.list s.answers m t j
      → (z.led t ≡ true) × (j ≤ length (z.list t)) × (t ≤ s.term m) × (Same j (s.log m) (z.list t) ⊎ Off z.led z.list t j (s.term m + 1))
  old_own m t j a =
      let k = f.acks.own_log m t j a in (
        led_then t k.0,
        subst (λ (y : List Entry). j ≤ length y) (sym (list_then t k.0)) k.1,
        k.2,
        same_or_off (s.log m) t j (s.term m + 1) k.0 k.3,
      )

  own_log : (m t j : ℕ) → Acked z.led z.leader z.list s.answers m t j
      → (z.led t ≡ true) × (j ≤ length (z.list t)) × (t ≤ s.term m) × (Same j (s.log m) (z.list t) ⊎ Off z.led z.list t j (s.term m + 1))
  own_log m t j a = elim (eqb_tells t (s.term l)) [
    | inr h ↦ old_own m t j (acked_was m t j h.1 a)
    | inl h ↦ elim a [
      | inr x ↦ old_own m t j (inr x)
      | inl x ↦
          let mine : l ≡ m = sym (at_here s.leader (s.term l) t l h.1) ∙ x.1 in
          let q : z.list t ≡ s.log l = at_here s.list (s.term l) t (s.log l) h.1 in (
            x.0,
            x.2,
            subst (λ (y : ℕ). t ≤ s.term y) mine (omega (arith, h.1)),
            inl (subst (λ (y : ℕ). Same j (s.log y) (z.list t)) mine (sym (ap (take j) q))),
          )
    ]
  ]

  voted : (k : KeptVote) (t j : ℕ) → In k z.kept → k.led ≡ false → Acked z.led z.leader z.list s.answers k.voter t j → t < k.term
      → Same j k.log (z.list t) ⊎ Off z.led z.list t j k.term
  voted k t j i e a h = elim (in_append (backing_votes (stores_in s) n l s.members) s.kept k i) [
    | inr old ↦
        let b : k.term < s.term l = low_votes k old in
        let was = acked_was k.voter t j (λ q. absurd (omega (arith, q, b, h))) a in
        same_or_off k.log t j k.term (f.acks.own_log k.voter t j was).0 (f.acks.voted k t j old e was h)
    | inl new ↦
        let x = in_backing (stores_in s) n l s.members k new in
        let b = is_backing (stores_in s) n l x.0 x.1 in
        let term : k.term ≡ s.term l = ap (λ (y : KeptVote). y.term) x.2 in
        let was : Acked s.led s.leader s.list s.answers x.0 t j
        = subst (λ (v : ℕ). Acked s.led s.leader s.list s.answers v t j) (ap (λ (y : KeptVote). y.voter) x.2)
        (acked_was k.voter t j (λ q. absurd (omega (arith, q, term, h))) a) in
        let now = same_or_off (s.log x.0) t j (s.term l) (f.acks.own_log x.0 t j was).0 (vote_now s f x.0 t j (s.term l) (sym b.term) none was) in
        subst (λ (y : KeptVote). Same j y.log (z.list t) ⊎ Off z.led z.list t j y.term) (sym x.2) now
  ]

  -- a fact of each kept vote holds of the new ones and of the old ones
  each_vote : (P : KeptVote → Type 0) → ((m : ℕ) → backs (stores_in s) n l m ≡ true → P (backing_vote (stores_in s) l m))
      → ((k : KeptVote) → In k s.kept → P k) → (k : KeptVote) → In k z.kept → P k
  each_vote P new old k i = elim (in_append (backing_votes (stores_in s) n l s.members) s.kept k i) [
    | inl a ↦ let x = in_backing (stores_in s) n l s.members k a in subst P (sym x.2) (new x.0 x.1)
    | inr a ↦ old k a
  ]

  each_stood : (P : Candidacy → Type 0) → P (record { candidate = l; term = s.term l; log = s.log l })
      → ((c : Candidacy) → In c s.candidacies → P c) → (c : Candidacy) → In c z.candidacies → P c
  each_stood P new old c i = elim i [ inl e ↦ subst P (sym e) new | inr j ↦ old c j ]

  elects : quorum s.members ≤ how_many (λ v. any (is_vote v l (s.term l)) z.kept) s.members
  elects =
      let g = count_grows_in (backs (stores_in s) n l) (λ v. any (is_vote v l (s.term l)) z.kept) s.members
      (λ m i e. any_there (is_vote m l (s.term l)) z.kept (backing_vote (stores_in s) l m)
      (in_append_left (backing_votes (stores_in s) n l s.members) s.kept (backing_vote (stores_in s) l m) (backing_has (stores_in s) n l s.members m i e))
      (and_both (m == m) ((l == l) && ((s.term l == s.term l) && true)) (equal_true m m refl)
      (and_both (l == l) ((s.term l == s.term l) && true) (equal_true l l refl)
      (and_both (s.term l == s.term l) true (equal_true (s.term l) (s.term l) refl) refl)))) in
      omega (arith, g, majority)

  elected_before : (t : ℕ) → s.led t ≡ true → quorum s.members ≤ how_many (λ v. any (is_vote v (z.leader t) t) z.kept) s.members
  elected_before t led =
      let g = count_grows (λ v. any (is_vote v (s.leader t) t) s.kept) (λ v. any (is_vote v (s.leader t) t) z.kept) s.members
      (λ v h. let x = any_found (is_vote v (s.leader t) t) s.kept h in
      any_there (is_vote v (s.leader t) t) z.kept x.0 (in_append_right (backing_votes (stores_in s) n l s.members) s.kept x.0 x.1) x.2) in
      subst (λ (y : ℕ). quorum s.members ≤ how_many (λ v. any (is_vote v y t) z.kept) s.members) (sym (leader_then t led))
      (omega (arith, g, f.led.votes t led))

  one_vote : (x y : KeptVote) → In x z.kept → In y z.kept → x.voter ≡ y.voter → x.term ≡ y.term → x.candidate ≡ y.candidate
  one_vote x y i j = each_vote (λ x. x.voter ≡ y.voter → x.term ≡ y.term → x.candidate ≡ y.candidate)
      (λ m e. each_vote (λ y. m ≡ y.voter → s.term l ≡ y.term → l ≡ y.candidate) (λ _ _ _ _. refl)
      (λ y j _ t. let b : y.term < s.term l = low_votes y j in absurd (omega (arith, b, t))) y j)
      (λ x i. each_vote (λ y. x.voter ≡ y.voter → x.term ≡ y.term → x.candidate ≡ y.candidate)
      (λ _ _ _ t. let b : x.term < s.term l = low_votes x i in absurd (omega (arith, b, t)))
      (λ y j. f.votes.one x y i j) y j) x i

  one_log : (x y : Candidacy) → In x z.candidacies → In y z.candidacies → x.candidate ≡ y.candidate → x.term ≡ y.term → x.log ≡ y.log
  one_log x y i j = each_stood (λ x. x.candidate ≡ y.candidate → x.term ≡ y.term → x.log ≡ y.log)
      (each_stood (λ y. l ≡ y.candidate → s.term l ≡ y.term → s.log l ≡ y.log) (λ _ _. refl)
      (λ y j _ t. let b : y.term < s.term l = low_stood y j in absurd (omega (arith, b, t))) y j)
      (λ x i. each_stood (λ y. x.candidate ≡ y.candidate → x.term ≡ y.term → x.log ≡ y.log)
      (λ _ t. let b : x.term < s.term l = low_stood x i in absurd (omega (arith, b, t)))
      (λ y j. f.stood.one x y i j) y j) x i

  stands_there : (i t : ℕ) → z.led t ≡ true → z.leader t ≡ i → Stands z.list t (s.term i) (s.role i) (s.log i)
  stands_there i t led e = elim (was_led t led) [
    | inl now ↦
        subst (λ (y : ℕ). Stands z.list t (s.term y) (s.role y) (s.log y)) (sym (at_here s.leader (s.term l) t l now) ∙ e)
        (omega (arith, now), λ g. (λ c. candidate_no_follower (s.role l) c (is_follower l), sym (at_here s.list (s.term l) t (s.log l) now)))
    | inr old ↦
        let x = place_one s f i t old (sym (leader_then t old) ∙ e) in
        (x.0, λ g. ((x.1 g).0, (x.1 g).1 ∙ sym (list_then t old)))
  ]

  pub elected_meets : Facts (elected s n l)
  elected_meets = record {
    stored = f.stored;
    roles = f.roles;
    fresh = record {
      follower = f.fresh.follower;
      terms = f.fresh.terms;
      entries = f.fresh.entries;
      votes = λ m k e i. absurd (clash (s.fresh m) e (f.roles.down m (down m)).1);
      stood = λ m c e i. absurd (clash (s.fresh m) e (f.roles.down m (down m)).1);
    };
    bound = record {
      votes = each_vote (λ k. IsBound s.term s.vote k.voter k.candidate k.term)
          (λ m e. let b = is_backing (stores_in s) n l m e in inr (sym b.term, b.vote)) f.bound.votes;
      stood = each_stood (λ c. IsBound s.term s.vote c.candidate c.candidate c.term) (inr (refl, vote)) f.bound.stood;
    };
    votes = record {
      one = one_vote;
      candidacy = each_vote
          (λ k. (c : Candidacy) × In c z.candidacies × (c.candidate ≡ k.candidate) × (c.term ≡ k.term)
          × NotAbove (last_term k.log) (length k.log) (last_term c.log) (length c.log))
          (λ m e. (record { candidate = l; term = s.term l; log = s.log l }, inl refl, refl, refl, (is_backing (stores_in s) n l m e).not_above))
          (λ k i. let c = f.votes.candidacy k i in (c.0, inr c.1, c.2, c.3, c.4));
      flagged = each_vote (λ k. k.led ≡ true → z.led k.term ≡ true) (λ m e g. absurd (cc)) (λ k i g. led_then k.term (f.votes.flagged k i g));
      rising = each_vote (λ k. IsRising k.log k.term)
          (λ m e. subst (λ (t : ℕ). IsRising (s.log m) t) (is_backing (stores_in s) n l m e).term (f.stored.rising m)) f.votes.rising;
    };
    stood = record {
      one = one_log;
      terms = each_stood (λ c. 1 ≤ c.term) some f.stood.terms;
      rising = each_stood (λ c. IsRising c.log c.term) (f.stored.rising l) f.stood.rising;
      below = λ c i j. each_stood (λ c. i < length c.log → (get_or c.log i (blank 0)).term < c.term)
          (entries_below (s.log l) (f.matching.logs l) (f.stored.rising l) i) (λ c j. f.stood.below c i j) c j;
    };
    led = record {
      candidacy = λ t e. elim (was_led t e) [
        | inl now ↦ (
          record { candidate = l; term = s.term l; log = s.log l },
          [],
          inl refl,
          sym (at_here s.leader (s.term l) t l now),
          sym now,
          at_here s.list (s.term l) t (s.log l) now ∙ sym (append-nil (s.log l)),
          λ i b. absurd (no_place i b),
        )
        | inr old ↦
            let c = f.led.candidacy t old in
            (c.0, c.1, inr c.2, c.3 ∙ sym (leader_then t old), c.4, list_then t old ∙ c.5, c.6)
      ];
      votes = λ t e. elim (was_led t e) [
        | inl now ↦
            subst (λ (y : ℕ). quorum s.members ≤ how_many (λ v. any (is_vote v y t) z.kept) s.members) (sym (at_here s.leader (s.term l) t l now))
            (subst (λ (y : ℕ). quorum s.members ≤ how_many (λ v. any (is_vote v l y) z.kept) s.members) (sym now) elects)
        | inr old ↦ elected_before t old
      ];
      rising = at_each (λ t x. IsRising x t) s.list (s.term l) (s.log l) (f.stored.rising l) (λ t _. f.led.rising t);
      log_limit = at_each (λ t (x : List Entry). length x ≤ log_limit) s.list (s.term l) (s.log l) (f.stored.log_limit l) (λ t _. f.led.log_limit t);
      well_formed = at_each (λ t (x : List Entry). (i : ℕ) → i < length x → IsWellFormed (get_or x i (blank 0))) s.list (s.term l) (s.log l)
          (f.stored.well_formed l) (λ t _. f.led.well_formed t);
      injective = at_each (λ t x. IsInjective x) s.list (s.term l) (s.log l) (f.stored.injective l) (λ t _. f.led.injective t);
    };
    place = place_all z.led z.leader z.list s.term s.role s.log stands_there;
    running = record {
      leads = λ m e. absurd (leader_no_follower (s.role m) e (is_follower m));
      stands = λ m e. absurd (candidate_no_follower (s.role m) e (is_follower m));
      counted = λ m q e. absurd (candidate_no_follower (s.role m) e (is_follower m));
    };
    asked = record {
      other = f.asked.other;
      vote = λ r i e. let c = f.asked.vote r i e in (c.0, inr c.1, c.2, c.3, c.4, c.5);
      append = λ r i e.
          let q = f.asked.append r i e in
          let list = list_then r.term q.0 in (
            led_then r.term q.0,
            leader_then r.term q.0 ∙ q.1,
            subst (λ (y : List Entry). r.previous ≤ length y) (sym list) q.2,
            subst (λ (y : List Entry). term_at y r.previous ≡ r.previous_term) (sym list) q.3,
          );
      entry = λ r e i k g.
          let q = f.asked.entry r e i k g in
          subst (λ (y : List Entry). (r.previous < length y) × (get_or y r.previous (blank 0) ≡ e)) (sym (list_then r.term (f.asked.append r i k).0)) q;
    };
    answered = record {
      asked = f.answered.asked;
      success = f.answered.success;
      voted = λ a i e g.
          let k = f.answered.voted a i e g in
          (k.0, in_append_right (backing_votes (stores_in s) n l s.members) s.kept k.0 k.1, k.2, k.3, k.4);
    };
    posted = f.posted;
    calls = f.calls;
    matched = f.matched;
    matching = record {
      logs = λ m. matching_then (s.log m) (f.matching.logs m);
      lists = at_each (λ t x. IsMatching z.led z.list x) s.list (s.term l) (s.log l) (matching_then (s.log l) (f.matching.logs l))
          (λ t _. matching_then (s.list t) (f.matching.lists t));
      stood = each_stood (λ c. IsMatching z.led z.list c.log) (matching_then (s.log l) (f.matching.logs l))
          (λ c i. matching_then c.log (f.matching.stood c i));
      voted = each_vote (λ k. IsMatching z.led z.list k.log) (λ m e. matching_then (s.log m) (f.matching.logs m))
          (λ k i. matching_then k.log (f.matching.voted k i));
    };
    acks = record { own_log = own_log; voted = voted };
    committed = record {
      server = λ m. elim (f.committed.server m) [ inl e ↦ inl e | inr x ↦ inr (x.0, x.1, settled_then _ x.0 x.2) ];
      below = f.committed.below;
      request = λ r i e.
          let q = f.committed.request r i e in
          let list = list_then r.term (f.asked.append r i e).0 in (
            q.0,
            subst (λ (y : List Entry). r.commit ≤ length y) (sym list) q.1,
            elim q.2 [
              | inl e ↦ inl e
              | inr x ↦ inr (
                x.0,
                x.1,
                subst (λ (y : List Entry). IsSettled s.members z.led z.leader z.list s.bag (take r.commit y) x.0) (sym list)
                    (settled_then (take r.commit (s.list r.term)) x.0 x.2),
              )
            ],
          );
      stamped = f.committed.stamped;
      place = λ i b. settled_then _ _ (f.committed.place i b);
    };
    told = f.told;
  }

  -- what is kept then is of lower terms, or for this member in its term
  pub votes_left : (k : KeptVote) → In k (elected s n l).kept → (k.term < s.term l) ⊎ ((k.term ≡ s.term l) × (k.candidate ≡ l))
  votes_left = each_vote (λ k. (k.term < s.term l) ⊎ ((k.term ≡ s.term l) × (k.candidate ≡ l))) (λ m e. inr (refl, refl)) (λ k i. inl (low_votes k i))

  pub stood_left : (c : Candidacy) → In c (elected s n l).candidacies → (c.term < s.term l) ⊎ ((c.term ≡ s.term l) × (c.candidate ≡ l))
  stood_left = each_stood (λ c. (c.term < s.term l) ⊎ ((c.term ≡ s.term l) × (c.candidate ≡ l))) (inr (refl, refl)) (λ c i. inl (low_stood c i))

  pub elected_bounded : ((t : ℕ) → s.led t ≡ true → t ≤ s.term l) → (t : ℕ) → (elected s n l).led t ≡ true → t ≤ s.term l
  elected_bounded bounded t e = elim (was_led t e) [ inl now ↦ omega (arith, now) | inr old ↦ bounded t old ]

  pub elected_later : Later s (elected s n l)
  elected_later = record {
    led = led_then;
    leader = leader_then;
    list = λ t e. let q = list_then t e in (omega (arith, ap length q), ap (take (length (s.list t))) q);
    gains = λ t i e above below. let same = ap length (list_then t e) in absurd (omega (arith, above, below, same));
    commit = λ m. omega arith;
    committed = λ m. refl;
    ledger = (omega arith, refl);
  }
