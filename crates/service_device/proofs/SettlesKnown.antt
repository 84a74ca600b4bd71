-- What a leader knows of a peer while it leads on in its term; and a commit does not go back.
use Rattle.std.proofs.Common.{◌≡◌, ℕ, ◌+◌, ◌≤◌, ◌<◌, Bool, true, false, List, [], ◌∷◌, ◌++◌, refl, sym, ◌∙◌, ap, subst, arith, inl, inr, max}
use Rattle.std.specs.Prelude.{⊤, ◌⊎◌, ◌-◌, nat_lt, if◌then◌else◌}
use Rattle.std.proofs.lemmas.Bool.Decides.{eqb_tells}
use Rattle.can_frame.specs.declared.entry.Entry.{Entry}
use Rattle.raft_core.specs.Taken.{proposal}
use Rattle.raft_model.specs.Handlers.{server_after, server_after_all}
use Rattle.raft_model.specs.Lists.{at_here, at_other}
use Rattle.raft_model.specs.Messages.{Answer, Request, reach}
use Rattle.raft_model.specs.Moves.{Move, memory_after, puts}
use Rattle.raft_model.specs.Moves.Appending.{Verdict, acknowledges, append_memory, append_puts, matched_after, matched_memory, next_after}
use Rattle.raft_model.specs.Moves.Elections.{counting_memory, counts, grant_puts, is_candidate, memory_without_call, stepped_down, term_puts, with_term}
use Rattle.raft_model.specs.Moves.Leading.{memory_with_call}
use Rattle.raft_model.specs.Moves.Move.{AnswerAgain, CallForVote, CallToAppend, CommitTo, GiveUp, ProposeEntry, TakeAppendAnswer, TakeAppendRequest, TakeVoteAnswer, TakeVoteRequest, TellNothing, TellPair, TimeOut}
use Rattle.raft_model.specs.Server.{Memory, Put, RaftServer, Store, put_all}
use Rattle.raft_model.specs.Server.Role.{Leader}
use Rattle.alloc_spec.specs.AllocatorState.{AllocatorState, members_of}
use Rattle.alloc_spec.specs.Step.{Event}
use Rattle.alloc_spec.specs.StepState.{StepState}
use Rattle.alloc_spec_laws.proofs.CalledPeers.{AreQuiet, IsQuiet}
use Rattle.alloc_spec_laws.proofs.Choices.{either, lt_tells}
use Rattle.alloc_spec_laws.proofs.KeptByChanges.{Keeping}
use Rattle.alloc_spec_laws.proofs.KeptBySteps.{step_keeps}
use Rattle.alloc_spec_laws.proofs.LogGrowth.{AreDecided, Grows, IsDecided, IsSane, moves_grow}
use Rattle.service_calm.proofs.Calls.{Always}
use Rattle.service_calm.proofs.CallsKept.{IsKept}
use Rattle.service_leader.proofs.TermsRoles.{LeadsAt, leads_through, no_count, outdated}
use Rattle.service_leader.proofs.TermsSaid.{answered, append_rises, grant_rises, puts_rise, risen}
use Rattle.service_device.proofs.AllocationsTold.{VerdictsAre}
use Rattle.service_device.proofs.SettledRaft.{IsStill, stays_on}

-- ---- what is known of a peer

-- This may be so of the places that a peer is known to have, and of the place at which it is called next. It stays so
-- where the peer accepts a call, and where it denies one.
pub record IsOfPeer (Fine : ℕ → ℕ → Type 0) : Type 0 where
  pub accepts : (matched next reached : ℕ) → Fine matched next → Fine (max matched reached) (max matched reached + 1)
  pub denies : (matched next : ℕ) → Fine matched next → Fine matched (max 1 (next - 1))

module _ (m : ℕ) (Fine : ℕ → ℕ → Type 0) (stays : IsOfPeer Fine) where
  abbrev FineIn : Memory → Type 0
  FineIn memory = Fine (memory.matched m) (memory.next m)

  -- an answer of the peer, or of another
  answer_on : (memory : Memory) (got : Answer) → FineIn memory → FineIn (matched_memory memory got)
  answer_on memory got h = elim (eqb_tells m got.from) [
    | inl z ↦ subst (λ (k : ℕ). Fine k ((matched_memory memory got).next m)) (sym (at_here memory.matched got.from m (matched_after memory got) z.1))
        (subst (λ (k : ℕ). Fine (matched_after memory got) k) (sym (at_here memory.next got.from m (next_after memory got) z.1))
        (by got.success (subst (λ (p : ℕ). Fine (memory.matched p) (memory.next p)) z.1 h)))
    | inr z ↦ subst (λ (k : ℕ). Fine k ((matched_memory memory got).next m)) (sym (at_other memory.matched got.from m (matched_after memory got) z.1))
        (subst (λ (k : ℕ). Fine (memory.matched m) k) (sym (at_other memory.next got.from m (next_after memory got) z.1)) h)
  ]
    where
      by : (success : Bool) → Fine (memory.matched got.from) (memory.next got.from)
          → Fine (if success then max (memory.matched got.from) (reach got.request) else memory.matched got.from)
          (if success then max (memory.matched got.from) (reach got.request) + 1 else max 1 (memory.next got.from - 1))
      by true fine = stays.accepts (memory.matched got.from) (memory.next got.from) (reach got.request) fine
      by false fine = stays.denies (memory.matched got.from) (memory.next got.from) fine

  -- a move that brings no higher term
  fine_on : (members : List ℕ) (me number : ℕ) (server : RaftServer) (move : Move) → server.memory.role ≡ Leader → IsStill server.store.term server move
      → FineIn server.memory → FineIn (memory_after members me number server move)
  fine_on members me number server TimeOut leads is h = absurd is
  fine_on members me number server (TakeVoteRequest request granted) leads is h =
      either FineIn (nat_lt server.store.term request.term) _ server.memory (λ e. h) (λ e. h)
  fine_on members me number server (TakeVoteAnswer got) leads is h =
      either FineIn (nat_lt server.store.term got.term) (stepped_down server.memory got.from)
      (if counts server got then counting_memory members server got else memory_without_call server.memory got.from) (λ e. h)
      (λ e. either FineIn (counts server got) (counting_memory members server got) (memory_without_call server.memory got.from)
      (λ f. absurd (cc (f, no_count server got (ap is_candidate leads)))) (λ f. h))
  fine_on members me number server (TakeAppendRequest request verdict) leads is h =
      subst (λ (v : Verdict). FineIn (append_memory server request v)) (sym (is.1 ∙ outdated server request leads is.0)) h
  fine_on members me number server (TakeAppendAnswer got) leads is h =
      either FineIn (nat_lt server.store.term got.term) (stepped_down server.memory got.from)
      (if acknowledges server got then matched_memory server.memory got else memory_without_call server.memory got.from) (λ e. h)
      (λ e. either FineIn (acknowledges server got) (matched_memory server.memory got) (memory_without_call server.memory got.from)
      (λ f. answer_on server.memory got h) (λ f. h))
  fine_on members me number server (ProposeEntry entry) leads is h = absurd is
  fine_on members me number server (CommitTo index) leads is h = absurd is
  fine_on members me number server TellPair leads is h = absurd is
  fine_on members me number server TellNothing leads is h = absurd is
  fine_on members me number server (CallForVote peer) leads is h = h
  fine_on members me number server (CallToAppend peer previous with_entry) leads is h = h
  fine_on members me number server (AnswerAgain place) leads is h = h
  fine_on members me number server (GiveUp peer) leads is h = h

-- a higher term is taken over
raised_to : (store : Store) (term : ℕ) → nat_lt store.term term ≡ true → (with_term store term).term ≡ term
raised_to store term high = rw (high) refl

module _ (m term : ℕ) (Fine : ℕ → ℕ → Type 0) (stays : IsOfPeer Fine) where
  -- the server leads in this term, and this is so of what it knows of the peer; or its term is above
  abbrev pub Knows : RaftServer → Type 0
  Knows s = (term < s.store.term) ⊎ (LeadsAt term s × Fine (s.memory.matched m) (s.memory.next m))

  module _ (members : List ℕ) (me number : ℕ) (s : RaftServer) where
    abbrev then_ : Move → RaftServer
    then_ move = server_after members me number s move

    above : (move : Move) → term < s.store.term → Knows (then_ move)
    above move high = let up = risen (puts members me s move) s.store (puts_rise members me s move) in inl (omega (arith, up, high))

    module _ (leads : LeadsAt term s) (known : Fine (s.memory.matched m) (s.memory.next m)) where
      still : (move : Move) → IsStill s.store.term s move → Knows (then_ move)
      still move is =
          inr (
            (stays_on term members me number s move (subst (λ (t : ℕ). IsStill t s move) leads.1 is) leads).leads,
            fine_on m Fine stays members me number s move leads.0 is known,
          )

      -- a request of a higher term, whatever is put besides
      asked_higher : (move : Move) (t : ℕ) (more : List Put) → (then_ move).store.term ≡ (put_all s.store (term_puts s.store t ++ more)).term
          → ((with_term s.store t).term ≤ (put_all s.store (term_puts s.store t ++ more)).term) → nat_lt s.store.term t ≡ true → s.store.term < t → Knows (then_ move)
      asked_higher move t more same up is high =
          let it = raised_to s.store t is in let its = leads.1 in inl (omega (arith, same, up, it, high, its))

      moved : (move : Move) → IsQuiet move → IsDecided members me s move → Knows (then_ move)
      moved TimeOut quiet decided = let its = leads.1 in inl (omega (arith, its))
      moved (TakeVoteRequest request granted) quiet decided = elim (lt_tells s.store.term request.term) [
        | inl z ↦ asked_higher (TakeVoteRequest request granted) request.term (grant_puts (with_term s.store request.term) request granted) refl
            (answered s request.term (grant_puts (with_term s.store request.term) request granted)
            (grant_rises (with_term s.store request.term) request granted (with_term s.store request.term).term)) z.0 z.1
        | inr z ↦ still (TakeVoteRequest request granted) z.1
      ]
      moved (TakeVoteAnswer got) quiet decided = elim (lt_tells s.store.term got.term) [
        | inl z ↦ let it = raised_to s.store got.term z.0 in let its = leads.1 in let high = z.1 in inl (omega (arith, it, its, high))
        | inr z ↦ still (TakeVoteAnswer got) z.1
      ]
      moved (TakeAppendRequest request verdict) quiet decided = elim (lt_tells s.store.term request.term) [
        | inl z ↦ asked_higher (TakeAppendRequest request verdict) request.term (append_puts (with_term s.store request.term) request verdict) refl
            (answered s request.term (append_puts (with_term s.store request.term) request verdict)
            (append_rises (with_term s.store request.term) request verdict (with_term s.store request.term).term)) z.0 z.1
        | inr z ↦ still (TakeAppendRequest request verdict) (z.1, decided)
      ]
      moved (TakeAppendAnswer got) quiet decided = elim (lt_tells s.store.term got.term) [
        | inl z ↦ let it = raised_to s.store got.term z.0 in let its = leads.1 in let high = z.1 in inl (omega (arith, it, its, high))
        | inr z ↦ still (TakeAppendAnswer got) z.1
      ]
      moved (ProposeEntry entry) quiet decided = absurd quiet
      moved (CommitTo index) quiet decided = inr (leads_through term members me number s (CommitTo index) tt leads, known)
      moved TellPair quiet decided = inr (leads_through term members me number s TellPair tt leads, known)
      moved TellNothing quiet decided = inr (leads_through term members me number s TellNothing tt leads, known)
      moved (CallForVote peer) quiet decided = absurd quiet
      moved (CallToAppend peer previous with_entry) quiet decided = absurd quiet
      moved (AnswerAgain place) quiet decided = still (AnswerAgain place) tt
      moved (GiveUp peer) quiet decided = still (GiveUp peer) tt

    one_move : (move : Move) → IsQuiet move → IsDecided members me s move → Knows s → Knows (then_ move)
    one_move move quiet decided (inl high) = above move high
    one_move move quiet decided (inr l) = moved l.0 l.1 move quiet decided

  all_moves : (members : List ℕ) (me number : ℕ) (moves : List Move) (s : RaftServer) → AreQuiet moves → AreDecided members me number s moves → Knows s
      → Knows (server_after_all members me number s moves)
  all_moves members me number [] s quiet decided h = h
  all_moves members me number (move ∷ moves) s quiet decided h =
      all_moves members me number moves (server_after members me number s move) quiet.1 decided.1 (one_move members me number s move quiet.0 decided.0 h)

  -- ---- a step

  proposed : (entry : Entry) (s : RaftServer) → Knows s → Knows (record { store = record s.store { log = s.store.log ++ entry ∷ [] }; memory = s.memory })
  proposed entry s (inl high) = inl high
  proposed entry s (inr l) = inr l

  called : (peer : ℕ) (request : Request) (s : RaftServer) → Knows s → Knows (record { store = s.store; memory = memory_with_call s.memory peer request })
  called peer request s (inl high) = inl high
  called peer request s (inr l) = inr l

  keeping : (number : ℕ) (event : Event) → Keeping number event (λ (g : StepState). Knows g.allocator.raft_server) (λ d. ⊤)
  keeping number event = record {
    takes_keep = λ given moves g quiet decided h. all_moves (members_of g.allocator) g.allocator.me number moves g.allocator.raft_server quiet decided h;
    proposes_keep = λ given uid node g found h. proposed (proposal g.allocator.raft_server.store.term uid node) g.allocator.raft_server h;
    sends_keep = λ what to payload says g sends h. h;
    calls_keep = λ what peer move request payload g makes fits h.
        subst (λ (ps : List Put). Knows (record {
          store = put_all g.allocator.raft_server.store ps;
          memory = memory_after (members_of g.allocator) g.allocator.me number g.allocator.raft_server move;
        }))
        (sym (makes.nothing (members_of g.allocator)))
        (subst (λ (x : Memory). Knows (record { store = g.allocator.raft_server.store; memory = x })) (sym (makes.memory (members_of g.allocator)))
        (called peer request g.allocator.raft_server h));
    responds_keep = λ what d payload says g comes responds h. h;
    changes_keep = λ u g like h. subst Knows (sym like.raft_server) h;
    watches_keep = λ node happens g has h. h;
    tells_keep = λ g h. h;
    hears_keep = λ d message g comes kind other read h. h;
  }

  -- each step of a member keeps it
  pub known_kept : IsKept Always (λ (t : AllocatorState). Knows t.raft_server)
  known_kept = record {
    stepped = λ t number event may h. step_keeps number event (λ (g : StepState). Knows g.allocator.raft_server) (λ d. ⊤) (keeping number event) t (λ arrival is d e. tt) h;
    popped = λ t h. h;
  }

-- a peer is known to have so many places
abbrev pub HasPlaces : (least : ℕ) → ℕ → ℕ → Type 0
HasPlaces least matched next = least ≤ matched

pub places_stay : (least : ℕ) → IsOfPeer (HasPlaces least)
places_stay least = record { accepts = λ matched next reached h. omega (arith, h); denies = λ matched next h. h }

-- it is called next no further on than here, or than behind the places that it is known to have
abbrev pub IsCalledBy : (bound : ℕ) → ℕ → ℕ → Type 0
IsCalledBy bound matched next = next ≤ max bound (matched + 1)

pub calls_stay : (bound : ℕ) → IsOfPeer (IsCalledBy bound)
calls_stay bound = record { accepts = λ matched next reached h. omega arith; denies = λ matched next h. omega (arith, h) }

-- ---- a commit

module _ (judged : VerdictsAre) (least : ℕ) where
  -- so much is committed, and no more than the log has
  pub record HasCommitted (s : RaftServer) : Type 0 where
    pub sane : IsSane s.store
    pub commit : least ≤ s.store.commit

  commits : (members : List ℕ) (me number : ℕ) (moves : List Move) (s : RaftServer) → AreDecided members me number s moves → HasCommitted s
      → HasCommitted (server_after_all members me number s moves)
  commits members me number moves s decided h =
      let grown : Grows s.store (server_after_all members me number s moves).store = moves_grow judged members me number moves s decided h.sane in
      record { sane = grown.sane; commit = let c = grown.commit in let k = h.commit in omega (arith, c, k) }

  commit_keeping : (number : ℕ) (event : Event) → Keeping number event (λ (g : StepState). HasCommitted g.allocator.raft_server) (λ d. ⊤)
  commit_keeping number event = record {
    takes_keep = λ given moves g quiet decided h. commits (members_of g.allocator) g.allocator.me number moves g.allocator.raft_server decided h;
    proposes_keep = λ given uid node g found h. commits (members_of g.allocator) g.allocator.me number (ProposeEntry _ ∷ []) g.allocator.raft_server (tt, tt) h;
    sends_keep = λ what to payload says g sends h. h;
    calls_keep = λ what peer move request payload g makes fits h. record {
      sane = subst (λ (ps : List Put). IsSane (put_all g.allocator.raft_server.store ps)) (sym (makes.nothing (members_of g.allocator))) h.sane;
      commit = subst (λ (ps : List Put). least ≤ (put_all g.allocator.raft_server.store ps).commit) (sym (makes.nothing (members_of g.allocator))) h.commit;
    };
    responds_keep = λ what d payload says g comes responds h. h;
    changes_keep = λ u g like h. subst HasCommitted (sym like.raft_server) h;
    watches_keep = λ node happens g has h. h;
    tells_keep = λ g h. h;
    hears_keep = λ d message g comes kind other read h. h;
  }

  pub commit_kept : IsKept Always (λ (t : AllocatorState). HasCommitted t.raft_server)
  commit_kept = record {
    stepped = λ t number event may h.
        step_keeps number event (λ (g : StepState). HasCommitted g.allocator.raft_server) (λ d. ⊤) (commit_keeping number event) t (λ arrival is d e. tt) h;
    popped = λ t h. h;
  }
