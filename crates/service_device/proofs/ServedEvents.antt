-- Until the event of a step is done, a leader that leads on has committed and told as much as before the step.
use Rattle.std.proofs.Common.{◌≡◌, ℕ, ◌<◌, Bool, true, false, List, [], ◌++◌, max, refl, sym, ◌∙◌, ap, subst, inl, inr, arith, Option, None, Some}
use Rattle.std.specs.Prelude.{◌⊎◌, ◌&&◌, nat_lt, if◌then◌else◌}
use Rattle.dsdl_codec.specs.declared.append_answer.AppendAnswer.{AppendAnswer}
use Rattle.dsdl_codec.specs.declared.append_request.AppendRequest.{AppendRequest}
use Rattle.dsdl_codec.specs.declared.vote_answer.VoteAnswer.{VoteAnswer}
use Rattle.dsdl_codec.specs.declared.vote_request.VoteRequest.{VoteRequest}
use Rattle.dsdl_codec.specs.AppendAnswer.{append_answer_of}
use Rattle.dsdl_codec.specs.AppendRequest as append_codec
use Rattle.dsdl_codec.specs.VoteAnswer.{vote_answer_of}
use Rattle.dsdl_codec.specs.VoteRequest as vote_codec
use Rattle.raft_core.specs.Times.{has_waited, overdue}
use Rattle.raft_model.specs.Decisions.{verdict_on}
use Rattle.raft_model.specs.Handlers.{server_after}
use Rattle.raft_model.specs.Messages.{Answer, Request}
use Rattle.raft_model.specs.Moves.{Move, puts}
use Rattle.raft_model.specs.Moves.Appending.{Verdict, acknowledges, append_puts, matched_memory}
use Rattle.raft_model.specs.Moves.Appending.Verdict.{Outdated}
use Rattle.raft_model.specs.Moves.Elections.{counting_memory, counts, grant_puts, is_candidate, memory_without_call, stepped_down, term_puts, vote_puts, with_term}
use Rattle.raft_model.specs.Moves.Move.{AnswerAgain, CallForVote, CallToAppend, CommitTo, GiveUp, ProposeEntry, TakeAppendAnswer, TakeAppendRequest, TakeVoteAnswer, TakeVoteRequest, TellNothing, TellPair, TimeOut}
use Rattle.raft_model.specs.Server.{Memory, RaftServer, Store, put_all}
use Rattle.raft_model.specs.Server.Role.{Follower, Leader}
use Rattle.raft_model.proofs.Handled.{put_then}
use Rattle.transfer_rx.specs.Reassembly.{Answer as Received, Arrival, Continues, Delivery, Drops, Gives, answer}
use Rattle.alloc_spec.specs.Accepted.{setting_for}
use Rattle.alloc_spec.specs.AllocatorState.{AllocatorState, members_of}
use Rattle.alloc_spec.specs.Step.{Event, all_nodes, at_moment, begin_phase}
use Rattle.alloc_spec.specs.Step.Event.{Rx, Tick}
use Rattle.alloc_spec_laws.specs.Phases.{when_seen}
use Rattle.alloc_spec_laws.proofs.Choices.{either, lt_tells}
use Rattle.service_steps.specs.Requests.{moment_at}
use Rattle.service_steps.proofs.Begins.{expired}
use Rattle.service_steps.proofs.LeadsOn.{no_election}
use Rattle.service_leader.proofs.TermsKept.{BringsWithin, IsKeptByEvents, IsOfEvent, TellsWithin, seen_at_frame, seen_at_tick}
use Rattle.service_leader.proofs.TermsRoles.{no_count, outdated}
use Rattle.service_leader.proofs.TermsSaid.{answered, append_rises, grant_rises, puts_rise, risen}

one_delivery : (x y : Delivery) → Gives x ≡ Gives y → x ≡ y
one_delivery x y e = cc (e)

-- ---- what is stored

voted : (store : Store) (vote : Option ℕ) (candidate : ℕ) → (put_all store (vote_puts vote candidate)).commit ≡ store.commit
voted store None candidate = refl
voted store (Some earlier) candidate = refl

granted_commit : (store : Store) (request : Request) (granted : Bool) → (put_all store (grant_puts store request granted)).commit ≡ store.commit
granted_commit store request true = voted store store.vote request.from
granted_commit store request false = refl

not_raised : (store : Store) (term : ℕ) → nat_lt store.term term ≡ false → with_term store term ≡ store
not_raised store term low = rw (low) refl

raised_to : (store : Store) (term : ℕ) → nat_lt store.term term ≡ true → (with_term store term).term ≡ term
raised_to store term high = rw (high) refl

module _ (term commit told : ℕ) where
  -- the server leads in this term, and has committed and told so much
  pub record Leads (s : RaftServer) : Type 0 where
    pub its_term : s.store.term ≡ term
    pub leads : s.memory.role ≡ Leader
    pub committed : s.store.commit ≡ commit
    pub told_is : s.memory.told ≡ told

  -- or its term is above
  abbrev pub Holds : RaftServer → Type 0
  Holds s = (term < s.store.term) ⊎ Leads s

  same : (s after : RaftServer) → after.store.term ≡ s.store.term → after.store.commit ≡ s.store.commit → after.memory.role ≡ s.memory.role
      → after.memory.told ≡ s.memory.told → Leads s → Leads after
  same s after e c role t l = record { its_term = e ∙ l.its_term; leads = role ∙ l.leads; committed = c ∙ l.committed; told_is = t ∙ l.told_is }

  module _ (members : List ℕ) (me number : ℕ) (s : RaftServer) where
    abbrev then_ : Move → RaftServer
    then_ move = server_after members me number s move

    above : (move : Move) → term < s.store.term → Holds (then_ move)
    above move high = let up = risen (puts members me s move) s.store (puts_rise members me s move) in inl (omega (arith, up, high))

    module _ (l : Leads s) where
      vote_asked : (request : Request) (granted : Bool) → Holds (then_ (TakeVoteRequest request granted))
      vote_asked request granted = elim (lt_tells s.store.term request.term) [
        | inl z ↦
            let up = answered s request.term (grant_puts (with_term s.store request.term) request granted)
            (grant_rises (with_term s.store request.term) request granted (with_term s.store request.term).term) in
            let it = raised_to s.store request.term z.0 in
            let high = z.1 in
            let its = l.its_term in
            inl (omega (arith, up, it, high, its))
        | inr z ↦ elim (lt_tells term (then_ (TakeVoteRequest request granted)).store.term) [
          | inl y ↦ inl y.1
          | inr y ↦
              let up = risen (puts members me s (TakeVoteRequest request granted)) s.store (puts_rise members me s (TakeVoteRequest request granted)) in
              let low = y.1 in
              let its = l.its_term in
              inr (same s (then_ (TakeVoteRequest request granted)) (omega (arith, up, low, its))
              (ap (λ (x : Store). x.commit) (put_then (term_puts s.store request.term) (grant_puts (with_term s.store request.term) request granted) s.store)
              ∙ (granted_commit (with_term s.store request.term) request granted ∙ ap (λ (x : Store). x.commit) (not_raised s.store request.term z.0)))
              (ap (λ (b : Bool). (if b then record s.memory { role = Follower } else s.memory).role) z.0)
              (ap (λ (b : Bool). (if b then record s.memory { role = Follower } else s.memory).told) z.0) l)
        ]
      ]

      stepped : (answer : Answer) (memory : Memory) → nat_lt s.store.term answer.term ≡ true → s.store.term < answer.term
          → Holds (record { store = with_term s.store answer.term; memory = memory })
      stepped answer memory high up = let it = raised_to s.store answer.term high in let its = l.its_term in inl (omega (arith, it, up, its))

      vote_answered : (answer : Answer) → Holds (then_ (TakeVoteAnswer answer))
      vote_answered answer = elim (lt_tells s.store.term answer.term) [
        | inl z ↦ stepped answer (then_ (TakeVoteAnswer answer)).memory z.0 z.1
        | inr z ↦ subst (λ (x : Store). Holds (record { store = x; memory = (then_ (TakeVoteAnswer answer)).memory })) (sym (not_raised s.store answer.term z.0))
            (subst (λ (x : Memory). Holds (record { store = s.store; memory = x }))
            (sym (ap (λ (b : Bool). if b then stepped_down s.memory answer.from
            else (if counts s answer then counting_memory members s answer else memory_without_call s.memory answer.from)) z.0
            ∙ ap (λ (b : Bool). if b then counting_memory members s answer else memory_without_call s.memory answer.from)
            (no_count s answer (ap is_candidate l.leads))))
            (inr (same s (record { store = s.store; memory = memory_without_call s.memory answer.from }) refl refl refl refl l)))
      ]

      append_answered : (answer : Answer) → Holds (then_ (TakeAppendAnswer answer))
      append_answered answer = elim (lt_tells s.store.term answer.term) [
        | inl z ↦ stepped answer (then_ (TakeAppendAnswer answer)).memory z.0 z.1
        | inr z ↦ subst (λ (x : Store). Holds (record { store = x; memory = (then_ (TakeAppendAnswer answer)).memory })) (sym (not_raised s.store answer.term z.0))
            (subst (λ (x : Memory). Holds (record { store = s.store; memory = x }))
            (sym (ap (λ (b : Bool). if b then stepped_down s.memory answer.from
            else (if acknowledges s answer then matched_memory s.memory answer else memory_without_call s.memory answer.from)) z.0))
            (either (λ (x : Memory). Holds (record { store = s.store; memory = x })) (acknowledges s answer) (matched_memory s.memory answer)
            (memory_without_call s.memory answer.from)
            (λ e. inr (same s (record { store = s.store; memory = matched_memory s.memory answer }) refl refl refl refl l))
            (λ e. inr (same s (record { store = s.store; memory = memory_without_call s.memory answer.from }) refl refl refl refl l))))
      ]

      append_asked : (request : Request) (verdict : Verdict) → verdict ≡ verdict_on s request → Holds (then_ (TakeAppendRequest request verdict))
      append_asked request verdict judged = elim (lt_tells s.store.term request.term) [
        | inl z ↦
            let up = answered s request.term (append_puts (with_term s.store request.term) request verdict)
            (append_rises (with_term s.store request.term) request verdict (with_term s.store request.term).term) in
            let it = raised_to s.store request.term z.0 in
            let high = z.1 in
            let its = l.its_term in
            inl (omega (arith, up, it, high, its))
        | inr z ↦ subst (λ (v : Verdict). Holds (then_ (TakeAppendRequest request v)))
            (sym (judged ∙ outdated s request l.leads (let low = z.1 in omega (arith, low))))
            (inr (same s (then_ (TakeAppendRequest request Outdated)) (ap (λ (x : Store). x.term) (nothing request z.0))
            (ap (λ (x : Store). x.commit) (nothing request z.0)) refl refl l))
      ]
        where
          nothing : (asked : Request) → nat_lt s.store.term asked.term ≡ false → put_all s.store (term_puts s.store asked.term ++ []) ≡ s.store
          nothing asked low = rw (low) refl

      moved : (top : ℕ) (move : Move) → IsOfEvent move → BringsWithin top s move → Holds (then_ move)
      moved top TimeOut of is = absurd is
      moved top (TakeVoteRequest request granted) of is = vote_asked request granted
      moved top (TakeVoteAnswer answer) of is = vote_answered answer
      moved top (TakeAppendRequest request verdict) of is = append_asked request verdict is.1
      moved top (TakeAppendAnswer answer) of is = append_answered answer
      moved top (ProposeEntry entry) of is = inr (same s (then_ (ProposeEntry entry)) refl refl refl refl l)
      moved top (CommitTo index) of is = absurd of
      moved top TellPair of is = absurd of
      moved top TellNothing of is = absurd of
      moved top (CallForVote peer) of is = absurd of
      moved top (CallToAppend peer previous with_entry) of is = absurd of
      moved top (AnswerAgain place) of is = inr (same s (then_ (AnswerAgain place)) refl refl refl refl l)
      moved top (GiveUp peer) of is = inr (same s (then_ (GiveUp peer)) refl refl refl refl l)

  kept_by_events : (top : ℕ) → IsKeptByEvents top Holds
  kept_by_events top members me number s move of is (inl high) = above members me number s move high
  kept_by_events top members me number s move of is (inr l) = moved members me number s l top move of is

  -- ---- a tick, and a frame

  -- no term as which a delivery reads is above this
  abbrev append_term : Option AppendRequest → ℕ
  append_term None = 0
  append_term (Some message) = message.term

  abbrev vote_term : Option VoteRequest → ℕ
  vote_term None = 0
  vote_term (Some message) = message.term

  abbrev append_back : Option AppendAnswer → ℕ
  append_back None = 0
  append_back (Some message) = message.term

  abbrev vote_back : Option VoteAnswer → ℕ
  vote_back None = 0
  vote_back (Some message) = message.term

  abbrev greatest : Delivery → ℕ
  greatest d = max (max (append_term (append_codec.append_request_of d.payload)) (vote_term (vote_codec.vote_request_of d.payload)))
      (max (append_back (append_answer_of d.payload)) (vote_back (vote_answer_of d.payload)))

  within : (d : Delivery) → TellsWithin (greatest d) d
  within d = record {
    append_request = λ kind thirty message e. let f = ap append_term e in omega (arith, f);
    vote_request = λ kind one thirty message e. let f = ap vote_term e in omega (arith, f);
    append_answer = λ kind thirty message e. let f = ap append_back e in omega (arith, f);
    vote_answer = λ kind one thirty message e. let f = ap vote_back e in omega (arith, f);
  }

  by_frame : (number : ℕ) (t : AllocatorState) (arrival : Arrival) → Leads t.raft_server
      → (got : Received) → answer (setting_for t.me) t.sessions (record arrival { moment = moment_at t arrival }) ≡ got
      → Holds (when_seen t number (Rx arrival)).allocator.raft_server
  by_frame number t arrival l (Gives d) e = seen_at_frame number (greatest d) Holds (kept_by_events (greatest d)) t arrival (inr l)
      (λ other f. subst (λ (x : Delivery). TellsWithin (greatest d) x) (one_delivery d other (sym e ∙ f)) (within d))
  by_frame number t arrival l Continues e = seen_at_frame number 0 Holds (kept_by_events 0) t arrival (inr l) (λ other f. absurd (cc (sym e ∙ f)))
  by_frame number t arrival l (Drops why) e = seen_at_frame number 0 Holds (kept_by_events 0) t arrival (inr l) (λ other f. absurd (cc (sym e ∙ f)))

  -- when the event is done, it leads on so, or its term is above
  pub when_done : (number : ℕ) (t : AllocatorState) (event : Event) → Leads t.raft_server → Holds (when_seen t number event).allocator.raft_server
  when_done number t (Tick now word) l = seen_at_tick number 0 Holds (kept_by_events 0) t now word (inr l) (λ complete.
      no_election (complete && has_waited (begin_phase number now t).allocator.times (max t.now now)) (begin_phase number now t).allocator.raft_server
      ((expired (members_of (at_moment now t)) t.me number (overdue t.times (max t.now now) all_nodes) t.raft_server).role ∙ l.leads))
  when_done number t (Rx arrival) l = by_frame number t arrival l (answer (setting_for t.me) t.sessions (record arrival { moment = moment_at t arrival })) refl
