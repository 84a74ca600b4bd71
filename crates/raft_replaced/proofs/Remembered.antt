-- The facts hold of a state with all servers down also where only what is remembered of elections is left.
use Rattle.std.proofs.Common.{◌≡◌, ℕ, ◌<◌, ◌≤◌, Bool, true, false, List, refl, arith, sym, ◌∙◌, ap, subst, inl, inr, ◌⊎◌}
use Rattle.std.specs.Prelude.{◌==◌, ◌&&◌, ◌||◌, filter, nat_lt}
use Rattle.std.proofs.lemmas.Bool.{eqb-true}
use Rattle.can_frame.specs.declared.entry.Entry.{Entry}
use Rattle.raft_model.specs.History.{Candidacy, KeptVote, History}
use Rattle.raft_model.specs.Invariants.{is_vote}
use Rattle.raft_model.specs.Lists.{In, any}
use Rattle.raft_model.specs.Messages.{Request, Answer, Message}
use Rattle.raft_model.specs.Messages.Message.{Requests, Answers, Pairs}
use Rattle.raft_model.specs.Server.Role.{Follower}
use Rattle.raft_model.proofs.Apart.{candidate_no_follower, leader_no_follower}
use Rattle.raft_model.proofs.Complete.{and_left, and_right}
use Rattle.raft_model.proofs.Facts.{Facts, Acked, IsSettled, Later, is_ack, has_acked}
use Rattle.raft_model.proofs.Micro.{State}
use Rattle.raft_model.proofs.Quorum.{tell, any_found, any_there, count_grows}
use Rattle.raft_model.proofs.Whole.{below, lt_tells}
use Rattle.raft_replaced.specs.Replacement.{is_remembered, is_remembered_candidacy, is_remembered_vote, remains}
use Rattle.raft_replaced.proofs.Filters.{and_both, equal_true, filter_has, in_filter, or_elim, or_left, or_right}

-- all servers are down
abbrev pub AreDown : State → Type 0
AreDown s = (m : ℕ) → s.up m ≡ false

abbrev pub history_of : State → History
history_of s = record { led = s.led; leader = s.leader; list = s.list; candidacies = s.candidacies; kept = s.kept }

abbrev pub remembered : State → ℕ → State
remembered s top = record s {
  candidacies = filter (is_remembered_candidacy (history_of s) top) s.candidacies;
  kept = filter (is_remembered_vote (history_of s) top) s.kept;
  requests = filter (λ r. remains (history_of s) top (Requests r)) s.requests;
  answers = filter (λ a. remains (history_of s) top (Answers a)) s.answers;
  bag = filter (remains (history_of s) top) s.bag;
}

-- what is remembered is of a lower term, or for the leader of the term
pub remembered_is : (h : History) (top c t : ℕ) → is_remembered h top c t ≡ true
    → (t < top) ⊎ ((t ≡ top) × (h.led top ≡ true) × (h.leader top ≡ c))
remembered_is h top c t e = elim (or_elim (nat_lt t top) ((t == top) && (h.led top && (h.leader top == c))) e) [
  | inl a ↦ inl (below t top a)
  | inr a ↦
      let b = and_right (t == top) (h.led top && (h.leader top == c)) a in
      inr (
        eqb-true t top (and_left (t == top) (h.led top && (h.leader top == c)) a),
        and_left (h.led top) (h.leader top == c) b,
        eqb-true (h.leader top) c (and_right (h.led top) (h.leader top == c) b),
      )
]

-- leaders of terms that are no higher are remembered
pub leader_remembered : (h : History) (top t : ℕ) → t ≤ top → h.led t ≡ true → is_remembered h top (h.leader t) t ≡ true
leader_remembered h top t low led = elim (lt_tells t top) [
  | inl x ↦ or_left (nat_lt t top) ((t == top) && (h.led top && (h.leader top == h.leader t))) x.0
  | inr x ↦
      let e : t ≡ top = omega (arith, low, x.1) in
      or_right (nat_lt t top) ((t == top) && (h.led top && (h.leader top == h.leader t)))
      (and_both (t == top) (h.led top && (h.leader top == h.leader t)) (equal_true t top e)
      (and_both (h.led top) (h.leader top == h.leader t) (ap h.led (sym e) ∙ led) (equal_true (h.leader top) (h.leader t) (ap h.leader (sym e)))))
]

pub remembered_same : (h : History) (top c d t u : ℕ) → c ≡ d → t ≡ u → is_remembered h top d u ≡ true → is_remembered h top c t ≡ true
remembered_same h top c d t u e g r =
    subst (λ (x : ℕ). is_remembered h top x t ≡ true) (sym e) (subst (λ (x : ℕ). is_remembered h top d x ≡ true) (sym g) r)

module _ (s : State) (top : ℕ) (f : Facts s) (down : AreDown s) (bounded : (t : ℕ) → s.led t ≡ true → t ≤ top) where
  is_follower : (m : ℕ) → s.role m ≡ Follower
  is_follower m = (f.roles.down m (down m)).0

  vote_was : (k : KeptVote) → In k (remembered s top).kept → In k s.kept
  vote_was k i = (in_filter (is_remembered_vote (history_of s) top) s.kept k i).0

  stood_was : (c : Candidacy) → In c (remembered s top).candidacies → In c s.candidacies
  stood_was c i = (in_filter (is_remembered_candidacy (history_of s) top) s.candidacies c i).0

  request_was : (r : Request) → In r (remembered s top).requests → In r s.requests
  request_was r i = (in_filter (λ r. remains (history_of s) top (Requests r)) s.requests r i).0

  answer_was : (a : Answer) → In a (remembered s top).answers → In a s.answers
  answer_was a i = (in_filter (λ a. remains (history_of s) top (Answers a)) s.answers a i).0

  -- a vote request or answer that remains is remembered
  is_there : (a b : Bool) → (a || b) ≡ true → a ≡ false → b ≡ true
  is_there true b h e = absurd (cc)
  is_there false b h e = h

  acked_was : (m t j : ℕ) → Acked s.led s.leader s.list (remembered s top).answers m t j → Acked s.led s.leader s.list s.answers m t j
  acked_was m t j a = elim a [ inl x ↦ inl x | inr x ↦ inr (x.0, answer_was x.0 x.1, x.2, x.3, x.4, x.5, x.6) ]

  ack_remains : (m t k : ℕ) (g : Message) → is_ack m t k g ≡ true → remains (history_of s) top g ≡ true
  ack_remains m t k (Requests r) e = absurd (cc)
  ack_remains m t k (Pairs p) e = absurd (cc)
  ack_remains m t k (Answers a) e =
      let e1 = and_right (a.from == m) _ e in
      let e2 = and_right a.success _ e1 in
      or_left a.request.append (is_remembered (history_of s) top a.request.from a.request.term) (and_left a.request.append _ e2)

  acks_stay : (t k m : ℕ) → has_acked s.leader s.bag t k m ≡ true → has_acked s.leader (remembered s top).bag t k m ≡ true
  acks_stay t k m h = elim (tell (s.leader t == m)) [
    | inl a ↦ rw a refl
    | inr a ↦
        let h2 : any (is_ack m t k) s.bag ≡ true = rw a at h in
        let g = any_found (is_ack m t k) s.bag h2 in
        let w : any (is_ack m t k) (remembered s top).bag ≡ true
        = any_there (is_ack m t k) (remembered s top).bag g.0
        (filter_has (remains (history_of s) top) s.bag g.0 g.1 (ack_remains m t k g.0 g.2)) g.2 in
        rw a w
  ]

  settled_stays : (l : List Entry) (t : ℕ) → IsSettled s.members s.led s.leader s.list s.bag l t
      → IsSettled s.members s.led s.leader s.list (remembered s top).bag l t
  settled_stays l t x = (
    x.0,
    x.1,
    record {
      there = x.2.there;
      low = x.2.low;
      inside = x.2.inside;
      own_term = x.2.own_term;
      held =
          let g = count_grows (has_acked s.leader s.bag t x.0) (has_acked s.leader (remembered s top).bag t x.0) s.members (acks_stay t x.0) in
          omega (arith, g, x.2.held);
    },
    x.3,
  )

  votes_stay : (t : ℕ) → s.led t ≡ true → (v : ℕ) → any (is_vote v (s.leader t) t) s.kept ≡ true
      → any (is_vote v (s.leader t) t) (remembered s top).kept ≡ true
  votes_stay t led v h =
      let g = any_found (is_vote v (s.leader t) t) s.kept h in
      let x : KeptVote = g.0 in
      let r0 = and_right (x.voter == v) _ g.2 in
      let e1 : x.candidate ≡ s.leader t = eqb-true x.candidate (s.leader t) (and_left (x.candidate == s.leader t) _ r0) in
      let r1 = and_right (x.candidate == s.leader t) _ r0 in
      let e2 : x.term ≡ t = eqb-true x.term t (and_left (x.term == t) _ r1) in
      any_there (is_vote v (s.leader t) t) (remembered s top).kept x
      (filter_has (is_remembered_vote (history_of s) top) s.kept x g.1
      (remembered_same (history_of s) top x.candidate (s.leader t) x.term t e1 e2 (leader_remembered (history_of s) top t (bounded t led) led)))
      g.2

  pub remembered_meets : Facts (remembered s top)
  remembered_meets = record {
    stored = f.stored;
    roles = f.roles;
    fresh = record {
      follower = f.fresh.follower;
      terms = f.fresh.terms;
      entries = f.fresh.entries;
      votes = λ m k e i. f.fresh.votes m k e (vote_was k i);
      stood = λ m c e i. f.fresh.stood m c e (stood_was c i);
    };
    bound = record { votes = λ k i. f.bound.votes k (vote_was k i); stood = λ c i. f.bound.stood c (stood_was c i) };
    votes = record {
      one = λ x y i j. f.votes.one x y (vote_was x i) (vote_was y j);
      candidacy = λ k i.
          let q = in_filter (is_remembered_vote (history_of s) top) s.kept k i in
          let c = f.votes.candidacy k q.0 in (
            c.0,
            filter_has (is_remembered_candidacy (history_of s) top) s.candidacies c.0 c.1
                (remembered_same (history_of s) top c.0.candidate k.candidate c.0.term k.term c.2 c.3 q.1),
            c.2,
            c.3,
            c.4,
          );
      flagged = λ k i. f.votes.flagged k (vote_was k i);
      rising = λ k i. f.votes.rising k (vote_was k i);
    };
    stood = record {
      one = λ x y i j. f.stood.one x y (stood_was x i) (stood_was y j);
      terms = λ c i. f.stood.terms c (stood_was c i);
      rising = λ c i. f.stood.rising c (stood_was c i);
      below = λ c k i. f.stood.below c k (stood_was c i);
    };
    led = record {
      candidacy = λ t e.
          let c = f.led.candidacy t e in (
            c.0,
            c.1,
            filter_has (is_remembered_candidacy (history_of s) top) s.candidacies c.0 c.2
                (remembered_same (history_of s) top c.0.candidate (s.leader t) c.0.term t c.3 c.4
                (leader_remembered (history_of s) top t (bounded t e) e)),
            c.3,
            c.4,
            c.5,
            c.6,
          );
      votes = λ t e.
          let g = count_grows (λ v. any (is_vote v (s.leader t) t) s.kept) (λ v. any (is_vote v (s.leader t) t) (remembered s top).kept) s.members
          (votes_stay t e) in
          omega (arith, g, f.led.votes t e);
      rising = f.led.rising;
      log_limit = f.led.log_limit;
      well_formed = f.led.well_formed;
      injective = f.led.injective;
    };
    place = f.place;
    running = record {
      leads = f.running.leads;
      stands = λ m e. absurd (candidate_no_follower (s.role m) e (is_follower m));
      counted = λ m q e. absurd (candidate_no_follower (s.role m) e (is_follower m));
    };
    asked = record {
      other = λ r i. f.asked.other r (request_was r i);
      vote = λ r i e.
          let q = in_filter (λ r. remains (history_of s) top (Requests r)) s.requests r i in
          let c = f.asked.vote r q.0 e in (
            c.0,
            filter_has (is_remembered_candidacy (history_of s) top) s.candidacies c.0 c.1
                (remembered_same (history_of s) top c.0.candidate r.from c.0.term r.term c.2 c.3
                (is_there r.append (is_remembered (history_of s) top r.from r.term) q.1 e)),
            c.2,
            c.3,
            c.4,
            c.5,
          );
      append = λ r i. f.asked.append r (request_was r i);
      entry = λ r e i. f.asked.entry r e (request_was r i);
    };
    answered = record {
      asked = λ a i.
          let q = in_filter (λ a. remains (history_of s) top (Answers a)) s.answers a i in
          let x = f.answered.asked a q.0 in
          (filter_has (remains (history_of s) top) s.bag (Requests a.request) x.0 q.1, x.1);
      success = λ a i. f.answered.success a (answer_was a i);
      voted = λ a i e g.
          let q = in_filter (λ a. remains (history_of s) top (Answers a)) s.answers a i in
          let k = f.answered.voted a q.0 e g in (
            k.0,
            filter_has (is_remembered_vote (history_of s) top) s.kept k.0 k.1
                (remembered_same (history_of s) top k.0.candidate a.request.from k.0.term a.request.term k.3 k.4
                (is_there a.request.append (is_remembered (history_of s) top a.request.from a.request.term) q.1 g)),
            k.2,
            k.3,
            k.4,
          );
    };
    posted = record {
      request = λ r i.
          let q = in_filter (remains (history_of s) top) s.bag (Requests r) i in
          filter_has (λ r. remains (history_of s) top (Requests r)) s.requests r (f.posted.request r q.0) q.1;
      answer = λ a i.
          let q = in_filter (remains (history_of s) top) s.bag (Answers a) i in
          filter_has (λ a. remains (history_of s) top (Answers a)) s.answers a (f.posted.answer a q.0) q.1;
      pair = λ p i. f.posted.pair p (in_filter (remains (history_of s) top) s.bag (Pairs p) i).0;
    };
    calls = record {
      own = λ m q r n. absurd (n (is_follower m));
      votes = f.calls.votes;
      appends = f.calls.appends;
    };
    matched = record { acked = λ m q e. absurd (leader_no_follower (s.role m) e (is_follower m)) };
    matching = record {
      logs = f.matching.logs;
      lists = f.matching.lists;
      stood = λ c i. f.matching.stood c (stood_was c i);
      voted = λ k i. f.matching.voted k (vote_was k i);
    };
    acks = record {
      own_log = λ m t j a. f.acks.own_log m t j (acked_was m t j a);
      voted = λ k t j i e a. f.acks.voted k t j (vote_was k i) e (acked_was k.voter t j a);
    };
    committed = record {
      server = λ m. elim (f.committed.server m) [ inl z ↦ inl z | inr x ↦ inr (x.0, x.1, settled_stays _ x.0 x.2) ];
      below = f.committed.below;
      request = λ r i e.
          let q = f.committed.request r (request_was r i) e in
          (q.0, q.1, elim q.2 [ inl z ↦ inl z | inr x ↦ inr (x.0, x.1, settled_stays _ x.0 x.2) ]);
      stamped = f.committed.stamped;
      place = λ i b. settled_stays _ _ (f.committed.place i b);
    };
    told = f.told;
  }

pub remembered_later : (s : State) (top : ℕ) → Later s (remembered s top)
remembered_later s top = record {
  led = λ t h. h;
  leader = λ t h. refl;
  list = λ t h. (omega arith, refl);
  gains = λ t i h above below. absurd (omega (arith, above, below));
  commit = λ m. omega arith;
  committed = λ m. refl;
  ledger = (omega arith, refl);
}
