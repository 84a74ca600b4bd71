-- A leader's blank, and the moves of a call with a blank behind them.
use Rattle.std.proofs.Common.{◌≡◌, ℕ, Bool, true, false, List, [], ◌∷◌, ◌++◌, Option, Some, None, refl, sym, ap, subst, ◌∙◌}
use Rattle.std.specs.Prelude.{Result, Err, not, ◌&&◌, if◌then◌else◌, nat_lt}
use Rattle.std.specs.Result.{result_err}
use Rattle.can_frame.specs.Log.{blank}
use Rattle.can_frame.specs.declared.step.Role.{Role}
use Rattle.can_frame.specs.declared.step.Role.TheVariants.{Follower, Candidate, Leader}
use Rattle.disk_model.specs.declared.disk.Disk.{Ghosts}
use Rattle.kv_store.specs.declared.fault.Fault.{Fault}
use Rattle.raft_log.specs.declared.origin.TheConstants.{WIN}
use Rattle.raft_log.specs.declared.durable.Durable.{Durable}
use Rattle.raft_log.specs.DurableViews.{durable_state}
use Rattle.raft_model.specs.Duty.{is_heard, takes_blank}
use Rattle.raft_model.specs.Handlers.{server_after}
use Rattle.raft_model.specs.Moves.{Move}
use Rattle.raft_model.specs.Moves.Appending.Verdict.{Outdated, Refused, Held, Added}
use Rattle.raft_model.specs.Moves.Elections.{counts, has_quorum, is_leader, own_vote, votes_with}
use Rattle.raft_model.specs.Moves.Move.{TimeOut, TakeVoteRequest, TakeVoteAnswer, TakeAppendRequest, TakeAppendAnswer, ProposeEntry, CommitTo, TellPair, TellNothing, CallForVote, CallToAppend, AnswerAgain, GiveUp}
use Rattle.raft_model.specs.Server.{RaftServer, Store}
use Rattle.raft_model.specs.Server.Put.{PutEntry, PutLonger}
use Rattle.raft_core.specs.declared.raft.Raft.{Raft}
use Rattle.raft_core.specs.Handled.{MakesMoves, blank_behind, is_moment, puts_with_origins, with_blank}
use Rattle.raft_core.specs.Stands.{StandsFor, role_of}
use Rattle.raft_core.specs.StoredPuts.{CallWrites, PutWithOrigin, with_origin}
use Rattle.raft_core.specs.Times.{HandedIn, Times, begin_wait, end_call, end_vote_call, raise, stand, step_down, times_after, win}
use Rattle.raft_core.proofs.Judged.{down_waits, raise_waits}
use Rattle.raft_core.proofs.Moving.{no_move, one_move_failed}
use Rattle.raft_core.proofs.Origins.{noted_in_turn, raft_server_of_moves}
use Rattle.raft_core.proofs.Proposing.{proposed}

-- ---- whether a blank waits

each_waits : (b : Bool) (x y : Times) (waits : Bool) → x.waits ≡ waits → y.waits ≡ waits → (if b then x else y).waits ≡ waits
each_waits true x y waits h k = h
each_waits false x y waits h k = k

-- no move changes it
waits_still : (members : List ℕ) (m : ℕ) (given : HandedIn) (p : RaftServer) (move : Move) (t : Times) → (times_after members m given p move t).waits ≡ t.waits
waits_still members m given p TimeOut t = each_waits (has_quorum members (own_vote m)) (win (stand given t)) (stand given t) t.waits refl refl
waits_still members m given p (TakeVoteRequest r granted) t = each_waits granted (begin_wait given.now t) (raise given.now r.term p t) t.waits refl (raise_waits given.now r.term p t)
waits_still members m given p (TakeVoteAnswer a) t = let t1 = end_vote_call a.from t in
    each_waits (nat_lt p.store.term a.term) (step_down given.now p.memory.role t1) _ t.waits (down_waits given.now p.memory.role t1)
    (each_waits (counts p a && has_quorum members (votes_with p.memory a)) (win t1) t1 t.waits refl refl)
waits_still members m given p (TakeAppendRequest r Outdated) t = refl
waits_still members m given p (TakeAppendRequest r Refused) t = refl
waits_still members m given p (TakeAppendRequest r Held) t = refl
waits_still members m given p (TakeAppendRequest r (Added entry)) t = refl
waits_still members m given p (TakeAppendAnswer a) t = raise_waits given.now a.term p (end_call a.from t)
waits_still members m given p (ProposeEntry entry) t = refl
waits_still members m given p (CommitTo index) t = refl
waits_still members m given p TellPair t = refl
waits_still members m given p TellNothing t = refl
waits_still members m given p (CallForVote q) t = refl
waits_still members m given p (CallToAppend q previous with_entry) t = refl
waits_still members m given p (AnswerAgain place) t = refl
waits_still members m given p (GiveUp q) t = refl

-- ---- whether it is added

some_moves : (leads moment : Bool) (moves : List Move) → (leads && moment) ≡ true → (if moment then (if leads then moves else []) else []) ≡ moves
some_moves true true moves h = refl
some_moves true false moves h = absurd (cc h)
some_moves false moment moves h = absurd (cc h)

no_moves : (leads moment : Bool) (moves : List Move) → (leads && moment) ≡ false → (if moment then (if leads then moves else []) else []) ≡ []
no_moves true true moves h = absurd (cc h)
no_moves true false moves h = refl
no_moves false true moves h = refl
no_moves false false moves h = refl

module _ {D : Type 0} {disk : Ghosts D} (members : List ℕ) (m n : ℕ) (given : HandedIn) (p : RaftServer) (t : Times) (old : Durable D disk) (raft : Raft) (st : StandsFor raft members (durable_state old) p t) (moment : Bool) where
  -- the blank that the server is to add
  own_blank : (origin : ℕ) (new : Durable D disk) (failed : Option Fault) → CallWrites (with_origin origin (PutEntry (blank (durable_state old).term) ∷ PutLonger (blank (durable_state old).term) ∷ [])) old new failed
      → CallWrites (with_origin origin (PutEntry (blank p.store.term) ∷ PutLonger (blank p.store.term) ∷ [])) old new failed
  own_blank origin new failed made = subst (λ (z : Store). CallWrites (with_origin origin (PutEntry (blank z.term) ∷ PutLonger (blank z.term) ∷ [])) old new failed) (sym st.store) made

  module _ (due : ((is_leader p.memory.role && takes_blank p.store) && moment) ≡ true) (is : given.origin ≡ WIN) (new : Durable D disk) where
    moves : blank_behind moment p ≡ ProposeEntry (blank p.store.term) ∷ []
    moves = some_moves (is_leader p.memory.role && takes_blank p.store) moment (ProposeEntry (blank p.store.term) ∷ []) due

    pub blank_added : CallWrites (with_origin WIN (PutEntry (blank (durable_state old).term) ∷ PutLonger (blank (durable_state old).term) ∷ [])) old new None
        → MakesMoves members m n given (blank_behind moment p) p t old new raft None
    blank_added made = subst (λ (l : List Move). MakesMoves members m n given l p t old new raft None) (sym moves)
        (proposed members m n given p t old new raft st (blank p.store.term) (own_blank given.origin new None
        (subst (λ (origin : ℕ). CallWrites (with_origin origin (PutEntry (blank (durable_state old).term) ∷ PutLonger (blank (durable_state old).term) ∷ [])) old new None) (sym is) made)))

    pub blank_failed : {T : Type 0} (result : Result T Fault) (fault : Fault) → result ≡ Err fault
        → CallWrites (with_origin WIN (PutEntry (blank (durable_state old).term) ∷ PutLonger (blank (durable_state old).term) ∷ [])) old new (Some fault)
        → MakesMoves members m n given (blank_behind moment p) p t old new raft (result_err result)
    blank_failed result fault failed made = subst (λ (l : List Move). MakesMoves members m n given l p t old new raft (result_err result)) (sym moves)
        (one_move_failed members m n given (ProposeEntry (blank p.store.term)) p t old new raft result fault failed (own_blank given.origin new (Some fault)
        (subst (λ (origin : ℕ). CallWrites (with_origin origin (PutEntry (blank (durable_state old).term) ∷ PutLonger (blank (durable_state old).term) ∷ [])) old new (Some fault)) (sym is) made)))

  pub no_blank : ((is_leader p.memory.role && takes_blank p.store) && moment) ≡ false → CallWrites [] old old None
      → MakesMoves members m n given (blank_behind moment p) p t old old raft None
  no_blank none made = subst (λ (l : List Move). MakesMoves members m n given l p t old old raft None)
      (sym (no_moves (is_leader p.memory.role && takes_blank p.store) moment (ProposeEntry (blank p.store.term) ∷ []) none)) (no_move members m n p t old raft made st)

-- who waits with it adds it once it is heard
pub heard_moment : (members : List ℕ) (m : ℕ) (t : Times) (before after : RaftServer) (heard : Bool) → t.waits ≡ true → heard ≡ is_heard members m after → heard ≡ is_moment members m t before after
heard_moment members m t before after heard waits is = rw waits is

-- whether it leads is the same in both words
pub leads_alike : (p : RaftServer) (role : Role) (led : Bool) → p.memory.role ≡ role_of role → ((led ≡ true → role ≡ Leader) × (role ≡ Leader → led ≡ true)) → is_leader p.memory.role ≡ led
leads_alike p role led same tells = ap is_leader same ∙ each role led tells where
  each : (x : Role) (b : Bool) → ((b ≡ true → x ≡ Leader) × (x ≡ Leader → b ≡ true)) → is_leader (role_of x) ≡ b
  each Follower true h = absurd (cc (h.0 refl))
  each Follower false h = refl
  each Candidate true h = absurd (cc (h.0 refl))
  each Candidate false h = refl
  each Leader true h = refl
  each Leader false h = sym (h.1 refl)

-- ---- behind a move

module _ (members : List ℕ) (m n : ℕ) (given : HandedIn) (move : Move) (p : RaftServer) (t : Times) where
  -- the server and the times after the move, and a blank where the moment for it came by then
  abbrev p1 : RaftServer
  p1 = server_after members m n p move

  abbrev t1 : Times
  t1 = times_after members m given p move t

  abbrev later : List Move
  later = blank_behind (is_moment members m t p p1) p1

  same_moment : is_moment members m t1 p p1 ≡ is_moment members m t p p1
  same_moment = ap (λ (b : Bool). if b then is_heard members m p1 else not (is_leader p.memory.role)) (waits_still members m given p move t)

  in_turn : puts_with_origins members m n given p (move ∷ []) ++ puts_with_origins members m n given p1 later ≡ puts_with_origins members m n given p (move ∷ later)
  in_turn = sym (noted_in_turn members m n given (move ∷ []) later p)

  module _ {D : Type 0} {disk : Ghosts D} (old new : Durable D disk) (between raft : Raft) where
    -- the move was made, and then the blank added where its moment had come
    pub blank_behind_move : (mid : Durable D disk) (failed : Option Fault)
        → ((xs ys : List PutWithOrigin) → CallWrites xs old mid None → CallWrites ys mid new failed → CallWrites (xs ++ ys) old new failed)
        → MakesMoves members m n given (move ∷ []) p t old mid between None → between.me ≡ m
        → MakesMoves members between.me n given (blank_behind (is_moment members between.me (times_after members m given p move t) p (server_after members m n p move)) (server_after members m n p move))
        (server_after members m n p move) (times_after members m given p move t) mid new raft failed
        → MakesMoves members m n given (with_blank members m n t p (move ∷ [])) p t old new raft failed
    blank_behind_move mid failed law first me second =
        let more = subst (λ (b : Bool). MakesMoves members m n given (blank_behind b p1) p1 t1 mid new raft failed) same_moment
        (subst (λ (k : ℕ). MakesMoves members k n given (blank_behind (is_moment members k t1 p p1) p1) p1 t1 mid new raft failed) me second) in record {
          raft_server = raft_server_of_moves members m n given p (move ∷ later);
          puts = subst (λ (l : List PutWithOrigin). CallWrites l old new failed) in_turn (law (puts_with_origins members m n given p (move ∷ [])) (puts_with_origins members m n given p1 later) first.puts more.puts);
          after = more.after;
        }

    -- the move failed, and nothing was made behind it
    pub nothing_behind_move : (fault : Fault)
        → ((xs ys : List PutWithOrigin) → CallWrites xs old new (Some fault) → CallWrites (xs ++ ys) old new (Some fault))
        → MakesMoves members m n given (move ∷ []) p t old new between (Some fault)
        → MakesMoves members m n given (with_blank members m n t p (move ∷ [])) p t old new raft (Some fault)
    nothing_behind_move fault law first = record {
      raft_server = raft_server_of_moves members m n given p (move ∷ later);
      puts = subst (λ (l : List PutWithOrigin). CallWrites l old new (Some fault)) in_turn (law (puts_with_origins members m n given p (move ∷ [])) (puts_with_origins members m n given p1 later) first.puts);
      after = tt;
    }

-- moves of a call that hands the fault on
pub handed_on : {T : Type 0} {D : Type 0} {disk : Ghosts D} (members : List ℕ) (m n : ℕ) (given : HandedIn) (moves : List Move) (p : RaftServer) (t : Times) (old new : Durable D disk) (raft : Raft) (result : Result T Fault) (fault : Fault) → result ≡ Err fault
    → MakesMoves members m n given moves p t old new raft (Some fault) → MakesMoves members m n given moves p t old new raft (result_err result)
handed_on members m n given moves p t old new raft result fault is made = subst (λ (r : Result _ Fault). MakesMoves members m n given moves p t old new raft (result_err r)) (sym is) made
