-- Time out, vote requests and vote answers are lawful lists of micro moves.
use Rattle.std.proofs.Common.{◌≡◌, ℕ, ◌+◌, ◌<◌, Bool, true, false, List, [], ◌∷◌, refl, arith, sym, ◌∙◌, subst, inl, inr, Option, Some, None}
use Rattle.std.specs.Prelude.{◌&&◌, ◌==◌}
use Rattle.std.proofs.lemmas.Bool.{eqb-true}
use Rattle.raft_model.specs.Lists.{In}
use Rattle.raft_model.specs.Messages.{Message, Request, Answer}
use Rattle.raft_model.specs.Messages.Message.{Answers}
use Rattle.raft_model.specs.Server.{Role, Store, put, put_all}
use Rattle.raft_model.specs.Server.Role.{Follower, Candidate, Leader}
use Rattle.raft_model.specs.Server.Put.{PutTerm, PutVote}
use Rattle.raft_model.specs.History.{History, with_vote_kept}
use Rattle.raft_model.specs.Ledger.{ledger_with}
use Rattle.raft_model.specs.Moves.{Move, IsEnabled, IsHeard, has_quorum, own_vote, stand_puts, is_candidate, counts, votes_with, vote_puts, vote_history, stepped_down, move_history, answer_to}
use Rattle.raft_model.specs.Moves.Move.{TimeOut, TakeVoteRequest, TakeVoteAnswer}
use Rattle.raft_model.proofs.Micro.Micro.{Raise, Clear, Stand, Grant, Deny, Count, Drop, Win}
use Rattle.raft_model.proofs.Focus.{Focus, focused}
use Rattle.raft_model.proofs.Here.{MayHere, SaidHere}
use Rattle.raft_model.proofs.Walk.{Leg, Covered, ledger_stays, join}
use Rattle.raft_model.proofs.Walk.Mark.{Silent, Puts}
use Rattle.raft_model.proofs.Whole.{Result, Whole, at_most, lt_tells}
use Rattle.raft_model.proofs.Terms.{same_commit, term_focus, leg_term, term_log, term_up, term_forgets, clear_forgets}
use Rattle.raft_model.proofs.Quorum.{tell}
use Rattle.raft_model.proofs.Complete.{and_left, and_right}

-- the focus after standing
abbrev pub stood_focus : ℕ → Focus → Focus
stood_focus m f = focused m (focused m (focused m f (Raise m (f.raft_server.store.term + 1))) (Clear m)) (Stand m)

pub leg_stand : (members : List ℕ) (m : ℕ) (f : Focus) → f.raft_server.memory.up ≡ true → Covered f.ledger f.raft_server.store
    → Leg members m TimeOut f (stood_focus m f) (stand_puts m f.raft_server.store)
leg_stand members m f up c = record {
  marks = Puts (PutTerm (f.raft_server.store.term + 1)) (Raise m (f.raft_server.store.term + 1)) ∷ Puts (PutVote None) (Clear m) ∷ Puts
      (PutVote (Some m)) (Stand m) ∷ [];
  walk = (
    record {
      may = (up, omega arith);
      bag = refl;
      store = refl;
      history = refl;
      ledger = stays (put f.raft_server.store (PutTerm (f.raft_server.store.term + 1))) refl;
    },
    (
      record {
        may = refl;
        bag = refl;
        store = refl;
        history = refl;
        ledger = stays (put (put f.raft_server.store (PutTerm (f.raft_server.store.term + 1))) (PutVote None)) refl;
      },
      (
        record {
          may = (refl, up);
          bag = refl;
          store = refl;
          history = refl;
          ledger = stays (put_all f.raft_server.store (stand_puts m f.raft_server.store)) refl;
        },
        tt,
      ),
    ),
  );
  puts = refl;
  ends = refl;
}
  where
    stays : (u : Store) → u.commit ≡ f.raft_server.store.commit → f.ledger ≡ ledger_with f.ledger u
    stays u e = sym (ledger_stays f.ledger u (same_commit f.ledger f.raft_server.store u c e))

pub time_out : (members : List ℕ) (m n : ℕ) (f : Focus) → f.raft_server.memory.up ≡ true → Covered f.ledger f.raft_server.store
    → Whole members m n f TimeOut
time_out members m n f up c = elim (tell (has_quorum members (own_vote m))) [
  | inl h ↦ rw (h) (record {
    between = stood_focus m f;
    leg = leg_stand members m f up c;
    rest = Win m ∷ [];
    lawful = (record { up = up; role = refl; votes = at_most _ _ h }, tt);
    store = refl;
    ledger = refl;
    history = rw (h) refl;
    memory = refl;
    bag = refl;
    said = λ x i. absurd i;
  })
  | inr h ↦ rw (h) (record {
    between = stood_focus m f;
    leg = leg_stand members m f up c;
    rest = [];
    lawful = tt;
    store = refl;
    ledger = refl;
    history = rw (h) refl;
    memory = refl;
    bag = refl;
    said = λ x i. absurd i;
  })
]

-- the one message of a list
pub only_said : (g : Focus) (x : Message) → SaidHere g x → (y : Message) → In y (x ∷ []) → SaidHere g y
only_said g x h y i = elim i [ inl e ↦ subst (SaidHere g) (sym e) h | inr z ↦ absurd z ]

pub covered_term : (f : Focus) (t : ℕ) → Covered f.ledger f.raft_server.store → Covered f.ledger (term_focus f t).raft_server.store
covered_term f t c = same_commit f.ledger f.raft_server.store (term_focus f t).raft_server.store c (term_log f.raft_server.store t).1

pub vote_request_lawful : (members : List ℕ) (m n : ℕ) (f : Focus) (r : Request) (granted : Bool) → f.raft_server.memory.up ≡ true
    → Covered f.ledger f.raft_server.store → IsEnabled members m f.bag [] f.raft_server (TakeVoteRequest r granted)
    → Whole members m n f (TakeVoteRequest r granted)
vote_request_lawful members m n f r false up c h = record {
  between = term_focus f r.term;
  leg = join members m (TakeVoteRequest r false) f (term_focus f r.term) (term_focus f r.term) _ []
      (leg_term members m (TakeVoteRequest r false) f r.term up c) (record { marks = []; walk = tt; puts = refl; ends = refl });
  rest = Deny m n r ∷ [];
  lawful = ((term_up f.raft_server r.term ∙ up, h.0, h.1), tt);
  store = refl;
  ledger = refl;
  history = refl;
  memory = refl;
  bag = refl;
  said = only_said (focused m (term_focus f r.term) (Deny m n r)) (Answers (answer_to m n (term_focus f r.term).raft_server.store r false))
      (inl refl);
}
vote_request_lawful members m n f r true up c h = by_vote (term_focus f r.term).raft_server.store.vote refl
  where
    mv : Move
    mv = TakeVoteRequest r true

    may : MayHere members m (term_focus f r.term) (Grant m n r)
    may = record {
      up = term_up f.raft_server r.term ∙ up;
      in_bag = h.0;
      kind = h.2;
      mine = h.1;
      own_term = h.3.own_term;
      free = h.3.free;
      not_above = h.3.not_above;
    }

    none_some : (k : ℕ) → None ≡ Some k → ⊥
    none_some k e = cc

    by_vote : (v : Option ℕ) → (term_focus f r.term).raft_server.store.vote ≡ v → Whole members m n f (TakeVoteRequest r true)
    by_vote None e = record {
      between = focused m (term_focus f r.term) (Grant m n r);
      leg = join members m (TakeVoteRequest r true) f (term_focus f r.term) (focused m (term_focus f r.term) (Grant m n r)) _ _
          (leg_term members m (TakeVoteRequest r true) f r.term up c)
          (subst
          (λ (v : Option ℕ). Leg members m (TakeVoteRequest r true) (term_focus f r.term) (focused m (term_focus f r.term) (Grant m n r))
          (vote_puts v r.from))
          (sym e) (record {
            marks = Puts (PutVote (Some r.from)) (Grant m n r) ∷ [];
            walk = (
              record {
                may = may;
                bag = refl;
                store = refl;
                history = refl;
                ledger = sym (ledger_stays f.ledger (put (term_focus f r.term).raft_server.store (PutVote (Some r.from)))
                    (same_commit f.ledger (term_focus f r.term).raft_server.store (put (term_focus f r.term).raft_server.store (PutVote (Some r.from)))
                    (covered_term f r.term c) refl));
              },
              tt,
            );
            puts = refl;
            ends = refl;
          }));
      rest = [];
      lawful = tt;
      store = refl;
      ledger = refl;
      history = subst
          (λ (v : Option ℕ). with_vote_kept f.history m r.from r.term (term_focus f r.term).raft_server.store.log
          ≡ vote_history m (term_focus f r.term).raft_server.store r v (with_vote_kept f.history m r.from r.term (term_focus f r.term).raft_server.store.log))
          (sym e) refl;
      memory = refl;
      bag = refl;
      said = only_said (focused m (term_focus f r.term) (Grant m n r)) (Answers (answer_to m n (term_focus f r.term).raft_server.store r true))
          (inl refl);
    }
    by_vote (Some v) e = record {
      between = term_focus f r.term;
      leg = join members m (TakeVoteRequest r true) f (term_focus f r.term) (term_focus f r.term) _ _
          (leg_term members m (TakeVoteRequest r true) f r.term up c)
          (subst (λ (v : Option ℕ). Leg members m (TakeVoteRequest r true) (term_focus f r.term) (term_focus f r.term) (vote_puts v r.from))
          (sym e) (record { marks = []; walk = tt; puts = refl; ends = refl }));
      rest = Grant m n r ∷ [];
      lawful = (may, tt);
      store = let q : Some r.from
          ≡ (term_focus f r.term).raft_server.store.vote = elim h.3.free [ inl z ↦ absurd (none_some v (sym z ∙ e)) | inr z ↦ sym z ] in
          λ i. record (term_focus f r.term).raft_server.store { vote = q i };
      ledger = refl;
      history = subst
          (λ (w : Option ℕ). with_vote_kept f.history m r.from r.term (term_focus f r.term).raft_server.store.log
          ≡ vote_history m (term_focus f r.term).raft_server.store r w f.history)
          (sym e) refl;
      memory = refl;
      bag = refl;
      said = only_said (focused m (term_focus f r.term) (Grant m n r)) (Answers (answer_to m n (term_focus f r.term).raft_server.store r true))
          (inl refl);
    }

pub candidate_is : (r : Role) → is_candidate r ≡ true → r ≡ Candidate
candidate_is Follower h = absurd (cc)
candidate_is Candidate h = refl
candidate_is Leader h = absurd (cc)

-- an answer of success in the server's own term was said: a late one counts for nothing
pub was_said : (bag : List Message) (store : Store) (a : Answer) → IsHeard bag store a → a.term ≡ store.term → a.success ≡ true
    → In (Answers a) bag
was_said bag store a (inl there) same granted = there
was_said bag store a (inr late) same granted = elim (late.for_nothing) [
  | inl refused ↦ absurd (cc (refused, granted))
  | inr below ↦ absurd (omega (arith, below, same))
]

-- an answer with a higher term, taken by either move: the call to its sender ends, and the server is a Follower of that
-- term; nothing is remembered
pub stepping_down : (members : List ℕ) (m : ℕ) (mv : Move) (f : Focus) (a : Answer) (remembered : History → History)
    → f.raft_server.memory.up ≡ true → Covered f.ledger f.raft_server.store → f.raft_server.store.term < a.term
    → ((h : History) → h ≡ remembered h)
    → Result members m mv f (PutTerm a.term ∷ PutVote None ∷ []) (stepped_down f.raft_server.memory a.from) remembered []
stepping_down members m mv f a remembered up c above nothing = record {
  between = focused m (focused m (focused m f (Drop m a.from)) (Raise m a.term)) (Clear m);
  leg = record {
    marks = Silent (Drop m a.from) ∷ Puts (PutTerm a.term) (Raise m a.term) ∷ Puts (PutVote None) (Clear m) ∷ [];
    walk = (
      record { may = up; bag = refl; store = refl; history = refl; ledger = refl },
      (
        record {
          may = (up, above);
          bag = refl;
          store = refl;
          history = sym (term_forgets m mv f.raft_server.store a.term f.history);
          ledger = stays (put f.raft_server.store (PutTerm a.term)) refl;
        },
        (
          record {
            may = refl;
            bag = refl;
            store = refl;
            history = sym (clear_forgets m mv (put f.raft_server.store (PutTerm a.term)) f.history);
            ledger = stays (put (put f.raft_server.store (PutTerm a.term)) (PutVote None)) refl;
          },
          tt,
        ),
      ),
    );
    puts = refl;
    ends = refl;
  };
  rest = [];
  lawful = tt;
  store = refl;
  ledger = refl;
  history = nothing f.history;
  memory = refl;
  bag = refl;
  said = λ x i. absurd i;
}
  where
    stays : (u : Store) → u.commit ≡ f.raft_server.store.commit → f.ledger ≡ ledger_with f.ledger u
    stays u e = sym (ledger_stays f.ledger u (same_commit f.ledger f.raft_server.store u c e))

pub vote_answer_lawful : (members : List ℕ) (m n : ℕ) (f : Focus) (a : Answer) → f.raft_server.memory.up ≡ true → Covered f.ledger f.raft_server.store
    → IsEnabled members m f.bag [] f.raft_server (TakeVoteAnswer a) → Whole members m n f (TakeVoteAnswer a)
vote_answer_lawful members m n f a up c h = elim (lt_tells f.raft_server.store.term a.term) [
  | inl z ↦ rw (z.0)
      (stepping_down members m (TakeVoteAnswer a) f a (move_history members m f.raft_server (TakeVoteAnswer a)) up c z.1
      (λ x. rw (z.0) refl))
  | inr z ↦ rw (z.0) (elim (tell (counts f.raft_server a)) [
    | inr k ↦ rw (k) (record {
      between = f;
      leg = record { marks = []; walk = tt; puts = refl; ends = refl };
      rest = Drop m a.from ∷ [];
      lawful = (up, tt);
      store = refl;
      ledger = refl;
      history = rw (z.0) (rw (k) refl);
      memory = refl;
      bag = refl;
      said = λ x i. absurd i;
    })
    | inl k ↦ rw (k) (elim (tell (has_quorum members (votes_with f.raft_server.memory a))) [
      | inr q ↦ rw (q) (record {
        between = focused m f (Count m a);
        leg = leg_count k;
        rest = [];
        lawful = tt;
        store = refl;
        ledger = refl;
        history = rw (z.0) (rw (k) (rw (q) refl));
        memory = refl;
        bag = refl;
        said = λ x i. absurd i;
      })
      | inl q ↦ rw (q) (record {
        between = focused m f (Count m a);
        leg = leg_count k;
        rest = Win m ∷ [];
        lawful = (record { up = up; role = stands k; votes = at_most _ _ q }, tt);
        store = refl;
        ledger = refl;
        history = rw (z.0) (rw (k) (rw (q) refl));
        memory = refl;
        bag = refl;
        said = λ x i. absurd i;
      })
    ])
  ])
]
  where
    stands : counts f.raft_server a ≡ true → f.raft_server.memory.role ≡ Candidate
    stands k = candidate_is f.raft_server.memory.role (and_left (is_candidate f.raft_server.memory.role) _ k)

    leg_count : counts f.raft_server a ≡ true → Leg members m (TakeVoteAnswer a) f (focused m f (Count m a)) []
    leg_count k =
        let more : ((a.term == f.raft_server.store.term) && a.success) ≡ true = and_right (is_candidate f.raft_server.memory.role) _ k in
        let same : a.term ≡ f.raft_server.store.term =
        eqb-true a.term f.raft_server.store.term (and_left (a.term == f.raft_server.store.term) _ more) in
        let granted : a.success ≡ true = and_right (a.term == f.raft_server.store.term) _ more in
        record {
          marks = Silent (Count m a) ∷ [];
          walk = (
            record {
              may = record {
                up = up;
                role = stands k;
                in_bag = was_said f.bag f.raft_server.store a h.0 same granted;
                kind = h.2;
                mine = h.1;
                own_term = same;
                success = granted;
                pending = h.3;
              };
              bag = refl;
              store = refl;
              history = refl;
              ledger = refl;
            },
            tt,
          );
          puts = refl;
          ends = refl;
        }
