-- What a step of a leader leaves of what it knows of a peer, where it leads on in its term.
use Rattle.std.proofs.Common.{◌≡◌, ℕ, ◌+◌, ◌<◌, ◌≤◌, Bool, true, false, List, [], ◌∷◌, ◌++◌, length, length-append, append_assoc, refl, sym, ◌∙◌, ap, subst, inl, inr, arith, Option, None, Some, max}
use Rattle.std.specs.Prelude.{⊤, ◌⊎◌, ◌-◌, ◌&&◌, ◌||◌, ◌==◌, not, nat_lt, if◌then◌else◌}
use Rattle.std.proofs.lemmas.Bool.Decides.{eqb_tells}
use Rattle.can_frame.specs.declared.entry.Entry.{Entry}
use Rattle.raft_model.specs.Handlers.{server_after, server_after_all}
use Rattle.raft_model.specs.Lists.{at_here, at_other}
use Rattle.raft_model.specs.Messages.{Answer, Request, reach}
use Rattle.raft_model.specs.Moves.{Move, memory_after, puts}
use Rattle.raft_model.specs.Moves.Appending.{Verdict, acknowledges, append_puts, matched_after, matched_memory, next_after}
use Rattle.raft_model.specs.Moves.Appending.Verdict.{Outdated}
use Rattle.raft_model.specs.Moves.Elections.{counting_memory, counts, grant_puts, is_candidate, is_leader, memory_without_call, stepped_down, term_puts, vote_puts, with_term}
use Rattle.raft_model.specs.Moves.Leading.{memory_with_call}
use Rattle.raft_model.specs.Moves.Move.{AnswerAgain, CallForVote, CallToAppend, CommitTo, GiveUp, ProposeEntry, TakeAppendAnswer, TakeAppendRequest, TakeVoteAnswer, TakeVoteRequest, TellNothing, TellPair, TimeOut}
use Rattle.raft_model.specs.Decisions.{rule, verdict_on}
use Rattle.raft_model.specs.Server.{Memory, Put, RaftServer, Role, Store, put_all}
use Rattle.raft_model.specs.Server.Role.{Follower, Leader}
use Rattle.raft_model.proofs.Handled.{put_then}
use Rattle.alloc_spec.specs.AllocatorState.{AllocatorState, members_of}
use Rattle.alloc_spec.specs.Step.{Event, step}
use Rattle.alloc_spec.specs.StepState.{StepState}
use Rattle.alloc_spec_laws.proofs.CalledPeers.{AreQuiet, IsQuiet}
use Rattle.alloc_spec_laws.proofs.Choices.{either, lt_tells}
use Rattle.alloc_spec_laws.proofs.KeptByChanges.{Keeping}
use Rattle.alloc_spec_laws.proofs.KeptBySteps.{step_keeps}
use Rattle.alloc_spec_laws.proofs.LogGrowth.{AreDecided, IsDecided}
use Rattle.service_leader.proofs.TermsSaid.{answered, append_rises, grant_rises, puts_rise, risen}

-- ---- what is stored

-- a vote changes neither the term nor the log
voted : (store : Store) (vote : Option ℕ) (candidate : ℕ) → ((put_all store (vote_puts vote candidate)).term ≡ store.term)
    × ((put_all store (vote_puts vote candidate)).log ≡ store.log)
voted store None candidate = (refl, refl)
voted store (Some earlier) candidate = (refl, refl)

granted_same : (store : Store) (request : Request) (granted : Bool)
    → ((put_all store (grant_puts store request granted)).term ≡ store.term) × ((put_all store (grant_puts store request granted)).log ≡ store.log)
granted_same store request true = voted store store.vote request.from
granted_same store request false = (refl, refl)

-- a term that is not above changes nothing
not_raised : (store : Store) (term : ℕ) → nat_lt store.term term ≡ false → with_term store term ≡ store
not_raised store term low = rw (low) refl

raised_to : (store : Store) (term : ℕ) → nat_lt store.term term ≡ true → (with_term store term).term ≡ term
raised_to store term high = rw (high) refl

-- so many calls at most until a peer is known to have so many places, where it is known to have these
abbrev pub still_left : (next matched count : ℕ) → ℕ
still_left next matched count = (next - (matched + 1)) + (count - matched)

module _ (m term matched : ℕ) (base : List Entry) (left over : ℕ) where
  -- The server leads in this term. It knows the peer to have so many places of its log, or more; its log begins with these
  -- entries, and no more calls than these are left until it knows the peer to have them. It calls the peer next no further
  -- on than so many places behind those that its log has and those that it knows the peer to have.
  pub record Leads (s : RaftServer) : Type 0 where
    pub its_term : s.store.term ≡ term
    pub leads : s.memory.role ≡ Leader
    pub matched_is : matched ≤ s.memory.matched m
    pub few : still_left (s.memory.next m) (s.memory.matched m) (length base) ≤ left
    pub near : s.memory.next m ≤ max (length s.store.log) (s.memory.matched m + 1) + over
    pub more : List Entry
    pub log_is : s.store.log ≡ base ++ more

  -- so its log is no shorter
  pub longer : (s : RaftServer) → Leads s → length base ≤ length s.store.log
  longer s l = let e = ap length l.log_is in let both = length-append base l.more in omega (arith, e, both)

  -- or its term is above
  abbrev pub Knows : RaftServer → Type 0
  Knows s = (term < s.store.term) ⊎ Leads s

  -- what is the same of the memory and of the log
  same : (s after : RaftServer) → after.store.term ≡ s.store.term → after.store.log ≡ s.store.log → after.memory.role ≡ s.memory.role
      → after.memory.matched m ≡ s.memory.matched m → after.memory.next m ≡ s.memory.next m → Leads s → Leads after
  same s after e log role match next l = record {
    its_term = e ∙ l.its_term;
    leads = role ∙ l.leads;
    matched_is = let k = l.matched_is in omega (arith, k, match);
    few = let k = l.few in omega (arith, k, next, match);
    near = let k = l.near in let size = ap length log in omega (arith, k, next, match, size);
    more = l.more;
    log_is = log ∙ l.log_is;
  }

  -- ---- an answer of the peer, or of another

  module _ (answer : Answer) (memory : Memory) (size : ℕ) (known : matched ≤ memory.matched m)
      (few : still_left (memory.next m) (memory.matched m) (length base) ≤ left) (near : memory.next m ≤ max size (memory.matched m + 1) + over) where
    abbrev after : Memory
    after = matched_memory memory answer

    abbrev Three : ℕ → ℕ → Type 0
    Three match next_one = (matched ≤ match) × (still_left next_one match (length base) ≤ left) × (next_one ≤ max size (match + 1) + over)

    of_peer : answer.from ≡ m → (success : Bool)
        → Three (if success then max (memory.matched answer.from) (reach answer.request) else memory.matched answer.from)
        (if success then max (memory.matched answer.from) (reach answer.request) + 1 else max 1 (memory.next answer.from - 1))
    of_peer same true = let e = ap memory.matched same in (omega (arith, known, e), omega (arith, few, e), omega arith)
    of_peer same false = let e = ap memory.matched same in let f = ap memory.next same in
        (omega (arith, known, e), omega (arith, few, e, f), omega (arith, near, e, f))

    three : Three (after.matched m) (after.next m)
    three = elim (eqb_tells m answer.from) [
      | inl z ↦ subst (λ (k : ℕ). Three k (after.next m)) (sym (at_here memory.matched answer.from m (matched_after memory answer) z.1))
          (subst (λ (k : ℕ). Three (matched_after memory answer) k) (sym (at_here memory.next answer.from m (next_after memory answer) z.1))
          (of_peer (sym z.1) answer.success))
      | inr z ↦ subst (λ (k : ℕ). Three k (after.next m)) (sym (at_other memory.matched answer.from m (matched_after memory answer) z.1))
          (subst (λ (k : ℕ). Three (memory.matched m) k) (sym (at_other memory.next answer.from m (next_after memory answer) z.1)) (known, few, near))
    ]

  module _ (number : ℕ) where
    -- ---- a move

    module _ (members : List ℕ) (me : ℕ) (s : RaftServer) where
      abbrev then_ : Move → RaftServer
      then_ move = server_after members me number s move

      above : (move : Move) → term < s.store.term → Knows (then_ move)
      above move high = let up = risen (puts members me s move) s.store (puts_rise members me s move) in inl (omega (arith, up, high))

      module _ (l : Leads s) where
        vote_asked : (request : Request) (granted : Bool) → Knows (then_ (TakeVoteRequest request granted))
        vote_asked request granted = elim (lt_tells s.store.term request.term) [
          | inl z ↦
              let up = answered s request.term (grant_puts (with_term s.store request.term) request granted)
              (grant_rises (with_term s.store request.term) request granted (with_term s.store request.term).term) in
              let it = raised_to s.store request.term z.0 in
              let high = z.1 in
              let its = l.its_term in
              inl (omega (arith, up, it, high, its))
          | inr z ↦
              let kept = put_then (term_puts s.store request.term) (grant_puts (with_term s.store request.term) request granted) s.store in
              let like = granted_same (with_term s.store request.term) request granted in
              let low = not_raised s.store request.term z.0 in
              let log : (then_ (TakeVoteRequest request granted)).store.log ≡ s.store.log = ap (λ (x : Store). x.log) kept
              ∙ (like.1 ∙ ap (λ (x : Store). x.log) low) in
              inr (same s (then_ (TakeVoteRequest request granted))
              (ap (λ (x : Store). x.term) kept ∙ (like.0 ∙ ap (λ (x : Store). x.term) low)) log
              (ap (λ (b : Bool). (if b then record s.memory { role = Follower } else s.memory).role) z.0)
              (ap (λ (b : Bool). (if b then record s.memory { role = Follower } else s.memory).matched m) z.0)
              (ap (λ (b : Bool). (if b then record s.memory { role = Follower } else s.memory).next m) z.0) l)
        ]

        -- an answer of a higher term
        stepped : (answer : Answer) (memory : Memory) → nat_lt s.store.term answer.term ≡ true → s.store.term < answer.term
            → Knows (record { store = with_term s.store answer.term; memory = memory })
        stepped answer memory high up = let it = raised_to s.store answer.term high in let its = l.its_term in inl (omega (arith, it, up, its))

        vote_answered : (answer : Answer) → Knows (then_ (TakeVoteAnswer answer))
        vote_answered answer = elim (lt_tells s.store.term answer.term) [
          | inl z ↦ stepped answer (then_ (TakeVoteAnswer answer)).memory z.0 z.1
          | inr z ↦ subst (λ (x : Store). Knows (record { store = x; memory = (then_ (TakeVoteAnswer answer)).memory }))
              (sym (not_raised s.store answer.term z.0))
              (subst (λ (x : Memory). Knows (record { store = s.store; memory = x }))
              (sym (ap (λ (b : Bool). if b then stepped_down s.memory answer.from
              else (if counts s answer then counting_memory members s answer else memory_without_call s.memory answer.from)) z.0
              ∙ ap (λ (b : Bool). if b then counting_memory members s answer else memory_without_call s.memory answer.from) none))
              (inr (same s (record { store = s.store; memory = memory_without_call s.memory answer.from }) refl refl refl refl refl l)))
        ]
          where
            none : counts s answer ≡ false
            none = ap (λ (r : Role). is_candidate r && ((answer.term == s.store.term) && answer.success)) l.leads

        append_answered : (answer : Answer) → Knows (then_ (TakeAppendAnswer answer))
        append_answered answer = elim (lt_tells s.store.term answer.term) [
          | inl z ↦ stepped answer (then_ (TakeAppendAnswer answer)).memory z.0 z.1
          | inr z ↦ subst (λ (x : Store). Knows (record { store = x; memory = (then_ (TakeAppendAnswer answer)).memory }))
              (sym (not_raised s.store answer.term z.0))
              (subst (λ (x : Memory). Knows (record { store = s.store; memory = x }))
              (sym (ap (λ (b : Bool). if b then stepped_down s.memory answer.from
              else (if acknowledges s answer then matched_memory s.memory answer else memory_without_call s.memory answer.from)) z.0))
              (either (λ (x : Memory). Knows (record { store = s.store; memory = x })) (acknowledges s answer) (matched_memory s.memory answer)
              (memory_without_call s.memory answer.from)
              (λ e. let t = three answer s.memory (length s.store.log) l.matched_is l.few l.near in
              inr (record { its_term = l.its_term; leads = l.leads; matched_is = t.0; few = t.1; near = t.2; more = l.more; log_is = l.log_is }))
              (λ e. inr (same s (record { store = s.store; memory = memory_without_call s.memory answer.from }) refl refl refl refl refl l))))
        ]

        append_asked : (request : Request) (verdict : Verdict) → verdict ≡ verdict_on s request → Knows (then_ (TakeAppendRequest request verdict))
        append_asked request verdict judged = elim (lt_tells s.store.term request.term) [
          | inl z ↦
              let up = answered s request.term (append_puts (with_term s.store request.term) request verdict)
              (append_rises (with_term s.store request.term) request verdict (with_term s.store request.term).term) in
              let it = raised_to s.store request.term z.0 in
              let high = z.1 in
              let its = l.its_term in
              inl (omega (arith, up, it, high, its))
          | inr z ↦ subst (λ (v : Verdict). Knows (then_ (TakeAppendRequest request v))) (sym (judged ∙ outdated z.0))
              (inr (same s (then_ (TakeAppendRequest request Outdated)) (ap (λ (x : Store). x.term) (nothing z.0))
              (ap (λ (x : Store). x.log) (nothing z.0)) refl refl refl l))
        ]
          where
            outdated : nat_lt s.store.term request.term ≡ false → verdict_on s request ≡ Outdated
            outdated low = ap (λ (c : Bool). if c then rule (with_term s.store request.term) request else Outdated)
                ((λ i. low i || ((request.term == s.store.term) && not (is_leader (l.leads i)))) ∙ by (request.term == s.store.term))
              where
                by : (b : Bool) → (b && false) ≡ false
                by true = refl
                by false = refl

            nothing : nat_lt s.store.term request.term ≡ false → put_all s.store (term_puts s.store request.term ++ []) ≡ s.store
            nothing low = rw (low) refl

        moved : (move : Move) → IsQuiet move → IsDecided members me s move → Knows (then_ move)
        moved TimeOut quiet decided = let its = l.its_term in inl (omega (arith, its))
        moved (TakeVoteRequest request granted) quiet decided = vote_asked request granted
        moved (TakeVoteAnswer answer) quiet decided = vote_answered answer
        moved (TakeAppendRequest request verdict) quiet decided = append_asked request verdict decided
        moved (TakeAppendAnswer answer) quiet decided = append_answered answer
        moved (ProposeEntry entry) quiet decided = absurd quiet
        moved (CommitTo index) quiet decided = inr (same s (then_ (CommitTo index)) refl refl refl refl refl l)
        moved TellPair quiet decided = inr (same s (then_ TellPair) refl refl refl refl refl l)
        moved TellNothing quiet decided = inr (same s (then_ TellNothing) refl refl refl refl refl l)
        moved (CallForVote peer) quiet decided = absurd quiet
        moved (CallToAppend peer previous with_entry) quiet decided = absurd quiet
        moved (AnswerAgain place) quiet decided = inr (same s (then_ (AnswerAgain place)) refl refl refl refl refl l)
        moved (GiveUp peer) quiet decided = inr (same s (then_ (GiveUp peer)) refl refl refl refl refl l)

      one_move : (move : Move) → IsQuiet move → IsDecided members me s move → Knows s → Knows (then_ move)
      one_move move quiet decided (inl high) = above move high
      one_move move quiet decided (inr l) = moved l move quiet decided

    all_moves : (members : List ℕ) (me : ℕ) (moves : List Move) (s : RaftServer) → AreQuiet moves → AreDecided members me number s moves → Knows s
        → Knows (server_after_all members me number s moves)
    all_moves members me [] s quiet decided h = h
    all_moves members me (move ∷ moves) s quiet decided h =
        all_moves members me moves (server_after members me number s move) quiet.1 decided.1 (one_move members me s move quiet.0 decided.0 h)

    -- ---- a step

    abbrev Keeps : StepState → Type 0
    Keeps g = Knows g.allocator.raft_server

    proposed : (entry : Entry) (s : RaftServer) → Knows s → Knows (record { store = record s.store { log = s.store.log ++ entry ∷ [] }; memory = s.memory })
    proposed entry s (inl high) = inl high
    proposed entry s (inr l) = inr (record {
      its_term = l.its_term;
      leads = l.leads;
      matched_is = l.matched_is;
      few = l.few;
      near = let k = l.near in let size = length-append s.store.log (entry ∷ []) in omega (arith, k, size);
      more = l.more ++ entry ∷ [];
      log_is = ap (λ (list : List Entry). list ++ entry ∷ []) l.log_is ∙ append_assoc base l.more (entry ∷ []);
    })

    called : (peer : ℕ) (request : Request) (s : RaftServer) → Knows s → Knows (record { store = s.store; memory = memory_with_call s.memory peer request })
    called peer request s (inl high) = inl high
    called peer request s (inr l) = inr (same s (record { store = s.store; memory = memory_with_call s.memory peer request }) refl refl refl refl refl l)

    keeping : (event : Event) → Keeping number event Keeps (λ d. ⊤)
    keeping event = record {
      takes_keep = λ given moves g quiet decided h. all_moves (members_of g.allocator) g.allocator.me moves g.allocator.raft_server quiet decided h;
      proposes_keep = λ given uid node g found h. proposed _ g.allocator.raft_server h;
      sends_keep = λ what to payload says g sends h. h;
      calls_keep = λ what peer move request payload g makes fits h.
          subst (λ (ps : List Put). Knows (record {
            store = put_all g.allocator.raft_server.store ps;
            memory = memory_after
                (members_of g.allocator) g.allocator.me number g.allocator.raft_server move;
          }))
          (sym (makes.nothing (members_of g.allocator)))
          (subst (λ (x : Memory). Knows (record { store = g.allocator.raft_server.store; memory = x })) (sym (makes.memory (members_of g.allocator)))
          (called peer request g.allocator.raft_server h));
      responds_keep = λ what d payload says g comes responds h. h;
      changes_keep = λ u g like h. subst Knows (sym like.raft_server) h;
      watches_keep = λ node happens g has h. h;
      tells_keep = λ g h. h;
      hears_keep = λ d message g comes kind other read h. h;
    }

    -- when the step is over
    pub step_knows : (t : AllocatorState) (event : Event) → Knows t.raft_server → Knows (step t number event).step_state.allocator.raft_server
    step_knows t event h = step_keeps number event Keeps (λ d. ⊤) (keeping event) t (λ arrival is d e. tt) h

-- ---- terms

-- a step leaves a term above another one above it
module _ (term number : ℕ) where
  abbrev IsAbove : RaftServer → Type 0
  IsAbove s = term < s.store.term

  above_moves : (members : List ℕ) (me : ℕ) (moves : List Move) (s : RaftServer) → IsAbove s → IsAbove (server_after_all members me number s moves)
  above_moves members me [] s h = h
  above_moves members me (move ∷ moves) s h = above_moves members me moves (server_after members me number s move)
      (let up = risen (puts members me s move) s.store (puts_rise members me s move) in omega (arith, up, h))

  keeps_above : (event : Event) → Keeping number event (λ g. IsAbove g.allocator.raft_server) (λ d. ⊤)
  keeps_above event = record {
    takes_keep = λ given moves g quiet decided h. above_moves (members_of g.allocator) g.allocator.me moves g.allocator.raft_server h;
    proposes_keep = λ given uid node g found h. h;
    sends_keep = λ what to payload says g sends h. h;
    calls_keep = λ what peer move request payload g makes fits h.
        subst (λ (ps : List Put). term < (put_all g.allocator.raft_server.store ps).term) (sym (makes.nothing (members_of g.allocator))) h;
    responds_keep = λ what d payload says g comes responds h. h;
    changes_keep = λ u g like h. subst IsAbove (sym like.raft_server) h;
    watches_keep = λ node happens g has h. h;
    tells_keep = λ g h. h;
    hears_keep = λ d message g comes kind other read h. h;
  }

  pub stays_above : (t : AllocatorState) (event : Event) → IsAbove t.raft_server → IsAbove (step t number event).step_state.allocator.raft_server
  stays_above t event h = step_keeps number event (λ g. IsAbove g.allocator.raft_server) (λ d. ⊤) (keeps_above event) t (λ arrival is d e. tt) h
