-- One server and what is shared: micro moves of one server, without the others.
use Rattle.std.proofs.Common.{◌≡◌, ℕ, ◌+◌, Bool, true, false, List, [], ◌∷◌, ◌++◌, refl, sym, ◌∙◌, ap, inl, inr, take, length, Some, None, min, if◌then◌else◌}
use Rattle.std.proofs.lemmas.Bool.Decides.{eqb_tells}
use Rattle.raft_model.specs.Lists.{at, at_here}
use Rattle.raft_model.specs.Messages.{Request, reach, Answer, Pair, Message}
use Rattle.raft_model.specs.Server.{Store, Memory, RaftServer, put, memory_when_down, memory_when_opened}
use Rattle.raft_model.specs.Server.Role.{Follower, Candidate, Leader}
use Rattle.raft_model.specs.Server.Put.{PutTerm, PutVote, PutLonger, PutShorter, PutCommit}
use Rattle.raft_model.specs.History.{History, with_vote_kept, with_candidacy, with_leader, with_longer_list}
use Rattle.raft_model.specs.Ledger.{Ledger, ledger_after, stamps_after, ledger_with}
use Rattle.raft_model.specs.Moves.{stand_memory, win_memory, matched_memory, memory_without_call, votes_with, vote_request, append_request, answer_to, pair_at, own_vote}
use Rattle.raft_model.proofs.Micro.{State, Micro, did}
use Rattle.raft_model.proofs.Micro.Micro.{Open, Halt, Raise, Clear, Stand, Grant, Deny, Count, Drop, Win, Yield, Write, Cut, Grow, Advance, Accept, Taken, Propose, Commit, Tell, Pass, Again, CallVote, CallAppend, Post}

-- a server, every message offered so far, and what is shared
pub record Focus : Type 0 where
  pub raft_server : RaftServer
  pub fresh : Bool
  pub requests : List Request
  pub answers : List Answer
  pub pairs : List Pair
  pub bag : List Message
  pub history : History
  pub ledger : Ledger

abbrev pub focus_of : State → ℕ → Focus
focus_of z m = record {
  raft_server = record {
    store = record { term = z.term m; vote = z.vote m; log = z.log m; commit = z.commit m };
    memory = record
        { up = z.up m; role = z.role m; told = z.told m; votes = z.votes m; next = z.next m; matched = z.matched m; pending = z.pending m };
  };
  fresh = z.fresh m;
  requests = z.requests;
  answers = z.answers;
  pairs = z.pairs;
  bag = z.bag;
  history = record { led = z.led; leader = z.leader; list = z.list; candidacies = z.candidacies; kept = z.kept };
  ledger = record { entries = z.ledger; stamps = z.stamps };
}

-- the state with this at server m
abbrev pub at_focus : State → ℕ → Focus → State
at_focus z m f = record {
  members = z.members;
  up = at z.up m f.raft_server.memory.up;
  term = at z.term m f.raft_server.store.term;
  vote = at z.vote m f.raft_server.store.vote;
  log = at z.log m f.raft_server.store.log;
  commit = at z.commit m f.raft_server.store.commit;
  role = at z.role m f.raft_server.memory.role;
  told = at z.told m f.raft_server.memory.told;
  votes = at z.votes m f.raft_server.memory.votes;
  next = at z.next m f.raft_server.memory.next;
  matched = at z.matched m f.raft_server.memory.matched;
  pending = at z.pending m f.raft_server.memory.pending;
  fresh = at z.fresh m f.fresh;
  requests = f.requests;
  answers = f.answers;
  pairs = f.pairs;
  bag = f.bag;
  led = f.history.led;
  leader = f.history.leader;
  list = f.history.list;
  candidacies = f.history.candidacies;
  kept = f.history.kept;
  ledger = f.ledger.entries;
  stamps = f.ledger.stamps;
}

pub at_self : {A : Type 0} (f : ℕ → A) (m : ℕ) → at f m (f m) ≡ f
at_self f m = λ j i. each i j
  where
    each : (i : ℕ) → at f m (f m) i ≡ f i
    each i = elim (eqb_tells i m) [
      | inl h ↦ ap (λ (b : Bool). if b then f m else f i) h.0 ∙ ap f (sym h.1)
      | inr h ↦ ap (λ (b : Bool). if b then f m else f i) h.0
    ]

pub at_twice : {A : Type 0} (f : ℕ → A) (m : ℕ) (x y : A) → at (at f m x) m y ≡ at f m y
at_twice f m x y = λ j i. each i j
  where
    each : (i : ℕ) → at (at f m x) m y i ≡ at f m y i
    each i = elim (eqb_tells i m) [
      | inl h ↦ ap (λ (b : Bool). if b then y else (if b then x else f i)) h.0 ∙ sym (ap (λ (b : Bool). if b then y else f i) h.0)
      | inr h ↦ ap (λ (b : Bool). if b then y else (if b then x else f i)) h.0 ∙ sym (ap (λ (b : Bool). if b then y else f i) h.0)
    ]

-- a field of the server with a new value at m
pub at_field : {A B : Type 0} (g : A → B) (f : ℕ → A) (m : ℕ) (x : A) → at (λ i. g (f i)) m (g x) ≡ (λ i. g (at f m x i))
at_field g f m x = λ j i. each i j
  where
    each : (i : ℕ) → at (λ i. g (f i)) m (g x) i ≡ g (at f m x i)
    each i = elim (eqb_tells i m) [
      | inl h ↦ ap (λ (b : Bool). if b then g x else g (f i)) h.0 ∙ sym (ap (λ (b : Bool). g (if b then x else f i)) h.0)
      | inr h ↦ ap (λ (b : Bool). if b then g x else g (f i)) h.0 ∙ sym (ap (λ (b : Bool). g (if b then x else f i)) h.0)
    ]

pub settled : (z : State) (m : ℕ) → at_focus z m (focus_of z m) ≡ z
settled z m = λ i. record {
  members = z.members;
  up = at_self z.up m i;
  term = at_self z.term m i;
  vote = at_self z.vote m i;
  log = at_self z.log m i;
  commit = at_self z.commit m i;
  role = at_self z.role m i;
  told = at_self z.told m i;
  votes = at_self z.votes m i;
  next = at_self z.next m i;
  matched = at_self z.matched m i;
  pending = at_self z.pending m i;
  fresh = at_self z.fresh m i;
  requests = z.requests;
  answers = z.answers;
  pairs = z.pairs;
  bag = z.bag;
  led = z.led;
  leader = z.leader;
  list = z.list;
  candidacies = z.candidacies;
  kept = z.kept;
  ledger = z.ledger;
  stamps = z.stamps;
}

pub focus_at : (z : State) (m : ℕ) (f : Focus) → focus_of (at_focus z m f) m ≡ f
focus_at z m f = λ i. record {
  raft_server = record {
    store = record {
      term = at_here z.term m m f.raft_server.store.term refl i;
      vote = at_here z.vote m m f.raft_server.store.vote refl i;
      log = at_here z.log m m f.raft_server.store.log refl i;
      commit = at_here z.commit m m f.raft_server.store.commit refl i;
    };
    memory = record {
      up = at_here z.up m m f.raft_server.memory.up refl i;
      role = at_here z.role m m f.raft_server.memory.role refl i;
      told = at_here z.told m m f.raft_server.memory.told refl i;
      votes = at_here z.votes m m f.raft_server.memory.votes refl i;
      next = at_here z.next m m f.raft_server.memory.next refl i;
      matched = at_here z.matched m m f.raft_server.memory.matched refl i;
      pending = at_here z.pending m m f.raft_server.memory.pending refl i;
    };
  };
  fresh = at_here z.fresh m m f.fresh refl i;
  requests = f.requests;
  answers = f.answers;
  pairs = f.pairs;
  bag = f.bag;
  history = f.history;
  ledger = f.ledger;
}

pub focus_twice : (z : State) (m : ℕ) (f g : Focus) → at_focus (at_focus z m f) m g ≡ at_focus z m g
focus_twice z m f g = λ i. record {
  members = z.members;
  up = at_twice z.up m f.raft_server.memory.up g.raft_server.memory.up i;
  term = at_twice z.term m f.raft_server.store.term g.raft_server.store.term i;
  vote = at_twice z.vote m f.raft_server.store.vote g.raft_server.store.vote i;
  log = at_twice z.log m f.raft_server.store.log g.raft_server.store.log i;
  commit = at_twice z.commit m f.raft_server.store.commit g.raft_server.store.commit i;
  role = at_twice z.role m f.raft_server.memory.role g.raft_server.memory.role i;
  told = at_twice z.told m f.raft_server.memory.told g.raft_server.memory.told i;
  votes = at_twice z.votes m f.raft_server.memory.votes g.raft_server.memory.votes i;
  next = at_twice z.next m f.raft_server.memory.next g.raft_server.memory.next i;
  matched = at_twice z.matched m f.raft_server.memory.matched g.raft_server.memory.matched i;
  pending = at_twice z.pending m f.raft_server.memory.pending g.raft_server.memory.pending i;
  fresh = at_twice z.fresh m f.fresh g.fresh i;
  requests = g.requests;
  answers = g.answers;
  pairs = g.pairs;
  bag = g.bag;
  led = g.history.led;
  leader = g.history.leader;
  list = g.history.list;
  candidacies = g.history.candidacies;
  kept = g.history.kept;
  ledger = g.ledger.entries;
  stamps = g.ledger.stamps;
}

-- a micro move of the one server, as that of server m
abbrev pub of : ℕ → Micro → Micro
of m (Open _) = Open m
of m (Halt _) = Halt m
of m (Raise _ t) = Raise m t
of m (Clear _) = Clear m
of m (Stand _) = Stand m
of m (Grant _ n r) = Grant m n r
of m (Deny _ n r) = Deny m n r
of m (Count _ a) = Count m a
of m (Drop _ q) = Drop m q
of m (Win _) = Win m
of m (Yield _) = Yield m
of m (Write _ e) = Write m e
of m (Cut _ r e) = Cut m r e
of m (Grow _ r e) = Grow m r e
of m (Advance _ r) = Advance m r
of m (Accept _ n r) = Accept m n r
of m (Taken _ a) = Taken m a
of m (Propose _ e) = Propose m e
of m (Commit _ k) = Commit m k
of m (Tell _ n) = Tell m n
of m (Pass _) = Pass m
of m (Again _ n i) = Again m n i
of m (CallVote _ n q) = CallVote m n q
of m (CallAppend _ n q p w) = CallAppend m n q p w
of m (Post g) = Post g

abbrev pub with_store : Focus → Store → Focus
with_store f s = record f { raft_server = record { store = s; memory = f.raft_server.memory } }

abbrev pub with_memory : Focus → Memory → Focus
with_memory f x = record f { raft_server = record { store = f.raft_server.store; memory = x } }

abbrev pub with_both : Focus → Store → Memory → Bool → Focus
with_both f s x fresh = record f { raft_server = record { store = s; memory = x }; fresh = fresh }

-- what a micro move does at its server
abbrev pub focused : ℕ → Focus → Micro → Focus
focused m f (Open _) = with_both f f.raft_server.store memory_when_opened false
focused m f (Halt _) = with_both f f.raft_server.store memory_when_down false
focused m f (Raise _ t) = with_both f (put f.raft_server.store (PutTerm t)) (record f.raft_server.memory { role = Follower }) true
focused m f (Clear _) = with_store f (put f.raft_server.store (PutVote None))
focused m f (Stand _) = record (with_both f (put f.raft_server.store (PutVote (Some m))) (stand_memory m f.raft_server.memory) false)
    { history = with_candidacy f.history m f.raft_server.store.term f.raft_server.store.log }
focused m f (Grant _ n r) = record (with_both f (put f.raft_server.store (PutVote (Some r.from))) f.raft_server.memory false)
    { history = with_vote_kept f.history m r.from r.term f.raft_server.store.log; answers = answer_to m n f.raft_server.store r true ∷ f.answers }
focused m f (Deny _ n r) = record f { answers = answer_to m n f.raft_server.store r false ∷ f.answers }
focused m f (Count _ a) = with_memory f (record (memory_without_call f.raft_server.memory a.from) { votes = votes_with f.raft_server.memory a })
focused m f (Drop _ q) = with_memory f (memory_without_call f.raft_server.memory q)
focused m f (Win _) = record (with_memory f (win_memory f.raft_server.store f.raft_server.memory))
    { history = with_leader f.history m f.raft_server.store.term f.raft_server.store.log }
focused m f (Yield _) = with_memory f (record f.raft_server.memory { role = Follower })
focused m f (Write _ e) = f
focused m f (Cut _ r e) = with_store f (put f.raft_server.store (PutShorter r.previous))
focused m f (Grow _ r e) = with_both f (put f.raft_server.store (PutLonger e)) f.raft_server.memory false
focused m f (Advance _ r) = record (with_store f (put f.raft_server.store (PutCommit (min r.commit (reach r)))))
    { ledger = ledger_with f.ledger (put f.raft_server.store (PutCommit (min r.commit (reach r)))) }
focused m f (Accept _ n r) = record f { answers = answer_to m n f.raft_server.store r true ∷ f.answers }
focused m f (Taken _ a) = with_memory f (matched_memory f.raft_server.memory a)
focused m f (Propose _ e) = record (with_store f (put f.raft_server.store (PutLonger e))) { history = with_longer_list f.history f.raft_server.store.term e }
focused m f (Commit _ k) = record (with_store f (put f.raft_server.store (PutCommit k)))
    { ledger = ledger_with f.ledger (put f.raft_server.store (PutCommit k)) }
focused m f (Tell _ n) = record (with_memory f (record f.raft_server.memory { told = f.raft_server.memory.told + 1 }))
    { pairs = pair_at m n f.raft_server.store f.raft_server.memory.told ∷ f.pairs }
focused m f (Pass _) = with_memory f (record f.raft_server.memory { told = f.raft_server.memory.told + 1 })
focused m f (Again _ n i) = record f { pairs = pair_at m n f.raft_server.store i ∷ f.pairs }
focused m f (CallVote _ n q) = record
    (with_memory f (record f.raft_server.memory { pending = at f.raft_server.memory.pending q (Some (vote_request m n f.raft_server.store q)) }))
    { requests = vote_request m n f.raft_server.store q ∷ f.requests }
focused m f (CallAppend _ n q p w) = record
    (with_memory f (record f.raft_server.memory { pending = at f.raft_server.memory.pending q (Some (append_request m n f.raft_server.store q p w)) }))
    { requests = append_request m n f.raft_server.store q p w ∷ f.requests }
focused m f (Post g) = record f { bag = g ∷ f.bag }

pub did_here : (z : State) (m : ℕ) (e : Micro) → did z (of m e) ≡ at_focus z m (focused m (focus_of z m) e)
did_here z m (Open _) = ap
    (λ (x : State). record x {
      up = at z.up m true;
      role = at z.role m Follower;
      told = at z.told m 0;
      votes = at z.votes m (λ q. false);
      next = at z.next m (λ q. 0);
      matched = at z.matched m (λ q. 0);
      pending = at z.pending m (λ q. None);
      fresh = at z.fresh m false;
    })
    (sym (settled z m))
did_here z m (Halt _) = ap
    (λ (x : State). record x {
      up = at z.up m false;
      role = at z.role m Follower;
      told = at z.told m 0;
      votes = at z.votes m (λ q. false);
      next = at z.next m (λ q. 0);
      matched = at z.matched m (λ q. 0);
      pending = at z.pending m (λ q. None);
      fresh = at z.fresh m false;
    })
    (sym (settled z m))
did_here z m (Raise _ t) = ap (λ (x : State). record x { term = at z.term m t; role = at z.role m Follower; fresh = at z.fresh m true })
    (sym (settled z m))
did_here z m (Clear _) = ap (λ (x : State). record x { vote = at z.vote m None }) (sym (settled z m))
did_here z m (Stand _) = ap (λ (x : State). record x {
  vote = at z.vote m (Some m);
  role = at z.role m Candidate;
  votes = at z.votes m (own_vote m);
  pending = at z.pending m (λ q. None);
  fresh = at z.fresh m false;
  candidacies = (with_candidacy (focus_of z m).history m (z.term m) (z.log m)).candidacies;
  kept = (with_candidacy (focus_of z m).history m (z.term m) (z.log m)).kept;
}) (sym (settled z m))
did_here z m (Grant _ n r) = ap
    (λ (x : State). record x {
      vote = at z.vote m (Some r.from);
      fresh = at z.fresh m false;
      kept = (with_vote_kept (focus_of z m).history m r.from r.term (z.log m)).kept;
      answers = answer_to m n (focus_of z m).raft_server.store r true ∷ z.answers;
    })
    (sym (settled z m))
did_here z m (Deny _ n r) = ap (λ (x : State). record x { answers = answer_to m n (focus_of z m).raft_server.store r false ∷ z.answers })
    (sym (settled z m))
did_here z m (Count _ a) = ap
    (λ (x : State). record x { votes = at z.votes m (at (z.votes m) a.from true); pending = at z.pending m (at (z.pending m) a.from None) })
    (sym (settled z m))
did_here z m (Drop _ q) = ap (λ (x : State). record x { pending = at z.pending m (at (z.pending m) q None) }) (sym (settled z m))
did_here z m (Win _) = ap (λ (x : State). record x {
  role = at z.role m Leader;
  told = at z.told m (z.commit m);
  next = at z.next m (λ q. length (z.log m) + 1);
  matched = at z.matched m (λ q. 0);
  pending = at z.pending m (λ q. None);
  led = at z.led (z.term m) true;
  leader = at z.leader (z.term m) m;
  list = at z.list (z.term m) (z.log m);
}) (sym (settled z m))
did_here z m (Yield _) = ap (λ (x : State). record x { role = at z.role m Follower }) (sym (settled z m))
did_here z m (Write _ e) = sym (settled z m)
did_here z m (Cut _ r e) = ap (λ (x : State). record x { log = at z.log m (take r.previous (z.log m)) }) (sym (settled z m))
did_here z m (Grow _ r e) = ap (λ (x : State). record x { log = at z.log m (z.log m ++ (e ∷ [])); fresh = at z.fresh m false })
    (sym (settled z m))
did_here z m (Advance _ r) = ap
    (λ (x : State). record x {
      commit = at z.commit m (min r.commit (reach r));
      ledger = ledger_after z.ledger (z.log m) (min r.commit (reach r));
      stamps = stamps_after z.stamps (z.term m) (min r.commit (reach r));
    })
    (sym (settled z m))
did_here z m (Accept _ n r) = ap (λ (x : State). record x { answers = answer_to m n (focus_of z m).raft_server.store r true ∷ z.answers })
    (sym (settled z m))
did_here z m (Taken _ a) = ap (λ (x : State). record x {
  pending = at z.pending m (matched_memory (focus_of z m).raft_server.memory a).pending;
  matched = at z.matched m (matched_memory (focus_of z m).raft_server.memory a).matched;
  next = at z.next m (matched_memory (focus_of z m).raft_server.memory a).next;
}) (sym (settled z m))
did_here z m (Propose _ e) = ap
    (λ (x : State). record x { log = at z.log m (z.log m ++ (e ∷ [])); list = at z.list (z.term m) (z.list (z.term m) ++ (e ∷ [])) })
    (sym (settled z m))
did_here z m (Commit _ k) = ap
    (λ (x : State). record x {
      commit = at z.commit m k;
      ledger = ledger_after z.ledger (z.log m) k;
      stamps = stamps_after z.stamps (z.term m) k;
    })
    (sym (settled z m))
did_here z m (Tell _ n) = ap
    (λ (x : State). record x { told = at z.told m (z.told m + 1); pairs = pair_at m n (focus_of z m).raft_server.store (z.told m) ∷ z.pairs })
    (sym (settled z m))
did_here z m (Pass _) = ap (λ (x : State). record x { told = at z.told m (z.told m + 1) }) (sym (settled z m))
did_here z m (Again _ n i) = ap (λ (x : State). record x { pairs = pair_at m n (focus_of z m).raft_server.store i ∷ z.pairs }) (sym (settled z m))
did_here z m (CallVote _ n q) = ap
    (λ (x : State). record x {
      pending = at z.pending m (at (z.pending m) q (Some (vote_request m n (focus_of z m).raft_server.store q)));
      requests = vote_request m n (focus_of z m).raft_server.store q ∷ z.requests;
    })
    (sym (settled z m))
did_here z m (CallAppend _ n q p w) = ap
    (λ (x : State). record x {
      pending = at z.pending m (at (z.pending m) q (Some (append_request m n (focus_of z m).raft_server.store q p w)));
      requests = append_request m n (focus_of z m).raft_server.store q p w ∷ z.requests;
    })
    (sym (settled z m))
did_here z m (Post g) = ap (λ (x : State). record x { bag = g ∷ z.bag }) (sym (settled z m))
