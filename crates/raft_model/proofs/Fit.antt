-- Every move keeps a server fit.
use Rattle.std.proofs.Common.{◌≡◌, ◌≢◌, ℕ, ◌≤◌, Bool, true, false, List, [], ◌∷◌, ◌++◌, length, refl, arith, sym, ◌∙◌, ap, subst, inl, inr, Option, Some, None, min, take, length-append}
use Rattle.std.specs.Prelude.{◌&&◌, ◌==◌}
use Rattle.raft_model.specs.Lists.{at}
use Rattle.raft_model.specs.Messages.{Request, Answer, Message, reach}
use Rattle.raft_model.specs.Server.{Role, Store, Memory, RaftServer, put_all, memory_when_down, memory_when_opened}
use Rattle.raft_model.specs.Server.Role.{Follower, Candidate, Leader}
use Rattle.raft_model.specs.Moves.{Move, Verdict, IsEnabled, IsJudged, is_candidate, append_memory, term_puts, with_term, term_memory, stand_puts, stand_memory, has_quorum, own_vote, win_memory, grant_puts, vote_puts, counts, votes_with, memory_without_call, is_leader, advance_puts, append_puts, matched_memory, matched_after, next_after, vote_request, append_request}
use Rattle.raft_model.specs.Moves.Move.{TimeOut, TakeVoteRequest, TakeVoteAnswer, TakeAppendRequest, TakeAppendAnswer, ProposeEntry, CommitTo, TellPair, TellNothing, CallForVote, CallToAppend, AnswerAgain, GiveUp}
use Rattle.raft_model.specs.Moves.Verdict.{Outdated, Refused, Held, Added}
use Rattle.raft_model.specs.Handlers.{server_after}
use Rattle.raft_model.specs.Fit.{IsWithin, IsFit}
use Rattle.raft_model.proofs.Apart.{none_some, some_same}
use Rattle.raft_model.proofs.At.{at_each, at3_each}
use Rattle.raft_model.proofs.Quorum.{tell}
use Rattle.raft_model.proofs.Whole.{lt_tells}
use Rattle.raft_model.proofs.Handled.{put_then}
use Rattle.raft_model.proofs.Complete.{and_left}
use Rattle.raft_model.proofs.Terms.{term_log}

abbrev Both : Store → Memory → RaftServer
Both store memory = record { store = store; memory = memory }

follower : (member : ℕ) (store : Store) (memory : Memory) → memory.role ≡ Follower → memory.told ≤ store.commit
    → IsFit member (Both store memory)
follower member store memory role told = record {
  told = told;
  vote = λ n. absurd (n role);
  term = λ n. absurd (n role);
  peers = λ leads. absurd (not_both memory.role role leads);
}
  where
    not_both : (r : Role) → r ≡ Follower → r ≡ Leader → ⊥
    not_both Follower a b = cc
    not_both Candidate a b = cc
    not_both Leader a b = cc

pub opens_fit : (member : ℕ) (store : Store) → IsFit member (Both store memory_when_opened)
opens_fit member store = follower member store memory_when_opened refl (omega arith)

pub loses_fit : (member : ℕ) (store : Store) → IsFit member (Both store memory_when_down)
loses_fit member store = follower member store memory_when_down refl (omega arith)

-- a server that wins
won : (member : ℕ) (store : Store) (memory : Memory) → store.vote ≡ Some member → 1 ≤ store.term
    → IsFit member (Both store (win_memory store memory))
won member store memory vote term = record {
  told = omega arith;
  vote = λ n. vote;
  term = λ n. term;
  peers = λ leads peer. record
      { least = omega arith; most = omega arith; acknowledged = omega arith; reached = λ request e. absurd (none_some request e) };
}

-- a higher term makes a Follower, and changes neither log nor commit
raised : (member : ℕ) (server : RaftServer) (term : ℕ) → IsFit member server
    → IsFit member (Both (with_term server.store term) (term_memory server term))
raised member server term fit = elim (lt_tells server.store.term term) [
  | inl h ↦
      rw (h.0) (follower member (record server.store { term = term; vote = None }) (record server.memory { role = Follower }) refl fit.told)
  | inr h ↦ rw (h.0) fit
]

-- a vote is put where there was none, and then the server is a Follower
voted : (member candidate : ℕ) (store : Store) (memory : Memory) (vote : Option ℕ) → store.vote ≡ vote → IsFit member (Both store memory)
    → IsFit member (Both (put_all store (vote_puts vote candidate)) memory)
voted member candidate store memory None e fit = record {
  told = fit.told;
  vote = λ n. absurd (none_some member (sym e ∙ fit.vote n));
  term = fit.term;
  peers = fit.peers;
}
voted member candidate store memory (Some earlier) e fit = fit

granted : (member : ℕ) (store : Store) (memory : Memory) (request : Request) (answer : Bool) → IsFit member (Both store memory)
    → IsFit member (Both (put_all store (grant_puts store request answer)) memory)
granted member store memory request true fit = voted member request.from store memory store.vote refl fit
granted member store memory request false fit = fit

-- the puts of an append request leave commit or raise it
advanced : (store other : Store) (request : Request) → other.commit ≡ store.commit
    → store.commit ≤ (put_all other (advance_puts store request)).commit
advanced store other request same = elim (lt_tells store.commit (min request.commit (reach request)))
    [ inl h ↦ rw (h.0) (omega (arith, h.1)) | inr h ↦ rw (h.0) (omega (arith, same)) ]

commit_after : (store : Store) (request : Request) (verdict : Verdict)
    → store.commit ≤ (put_all store (append_puts store request verdict)).commit
commit_after store request Outdated = omega arith
commit_after store request Refused = omega arith
commit_after store request Held = advanced store store request refl
commit_after store request (Added entry) = elim (lt_tells request.previous (length store.log)) [
  | inl h ↦ rw (h.0) (advanced store (record store { log = take request.previous store.log ++ (entry ∷ []) }) request refl)
  | inr h ↦ rw (h.0) (advanced store (record store { log = store.log ++ (entry ∷ []) }) request refl)
]

-- the call to a peer ends
call_ended : (member peer : ℕ) (store : Store) (memory : Memory) → IsFit member (Both store memory)
    → IsFit member (Both store (memory_without_call memory peer))
call_ended member peer store memory fit = record {
  told = fit.told;
  vote = fit.vote;
  term = fit.term;
  peers = λ leads. at_each (λ i pending. IsWithin (length store.log) (memory.next i) (memory.matched i) pending) memory.pending peer None
      (let w = fit.peers leads peer in
      record { least = w.least; most = w.most; acknowledged = w.acknowledged; reached = λ request e. absurd (none_some request e) })
      (λ i n. fit.peers leads i);
}

-- a call to a peer begins, which reaches at most last
called : (member peer : ℕ) (store : Store) (memory : Memory) (request : Request) → (memory.role ≡ Leader → reach request ≤ length store.log)
    → IsFit member (Both store memory) →
    IsFit member (Both store (record memory { pending = at memory.pending peer (Some request) }))
called member peer store memory request within fit = record {
  told = fit.told;
  vote = fit.vote;
  term = fit.term;
  peers = λ leads. at_each (λ i pending. IsWithin (length store.log) (memory.next i) (memory.matched i) pending) memory.pending peer
      (Some request)
      (let w = fit.peers leads peer in record {
        least = w.least;
        most = w.most;
        acknowledged = w.acknowledged;
        reached = λ other e. subst (λ (r : Request). reach r ≤ length store.log) (some_same request other e) (within leads);
      })
      (λ i n. fit.peers leads i);
}

-- an answer is counted for the peer that gave it
acknowledged : (member : ℕ) (store : Store) (memory : Memory) (answer : Answer) → memory.pending answer.from ≡ Some answer.request
    → IsFit member (Both store memory) → IsFit member (Both store (matched_memory memory answer))
acknowledged member store memory answer pending fit = record {
  told = fit.told;
  vote = fit.vote;
  term = fit.term;
  peers = λ leads. at3_each (λ i next matched call. IsWithin (length store.log) next matched call) memory.next memory.matched memory.pending
      answer.from
      (next_after memory answer) (matched_after memory answer) None (here leads) (λ i n. fit.peers leads i);
}
  where
    here : memory.role ≡ Leader → IsWithin (length store.log) (next_after memory answer) (matched_after memory answer) None
    here leads = let w = fit.peers leads answer.from in let inside = w.reached answer.request pending in elim (tell answer.success) [
      | inl h ↦
          rw (h)
          (record {
            least = omega arith;
            most = omega (arith, w.acknowledged, inside);
            acknowledged = omega (arith, w.acknowledged, inside);
            reached = λ request e. absurd (none_some request e);
          })
      | inr h ↦
          rw (h)
          (record {
            least = omega arith;
            most = omega (arith, w.most);
            acknowledged = w.acknowledged;
            reached = λ request e. absurd (none_some request e);
          })
    ]

no_follower : (role : Role) → is_candidate role ≡ true → role ≢ Follower
no_follower Follower a b = absurd (cc)
no_follower Candidate a b = cc
no_follower Leader a b = cc

-- an append request that is not outdated makes a Follower
follows : (member : ℕ) (server : RaftServer) (request : Request) (verdict : Verdict) → IsFit member server →
    IsFit member
    (Both
    (put_all server.store
    (term_puts server.store request.term ++ append_puts (with_term server.store request.term) request verdict))
    (record server.memory { role = Follower }))
follows member server request verdict fit =
    let split
    = ap (λ (s : Store). s.commit)
    (put_then (term_puts server.store request.term) (append_puts (with_term server.store request.term) request verdict)
    server.store)
    in
    follower member
    (put_all server.store (term_puts server.store request.term ++ append_puts (with_term server.store request.term) request verdict))
    (record server.memory { role = Follower }) refl
    (omega
    (arith, fit.told, split, (term_log server.store request.term).1, commit_after (with_term server.store request.term) request verdict))

judged : (member : ℕ) (server : RaftServer) (request : Request) (verdict : Verdict) → IsJudged server request verdict → IsFit member server →
    IsFit member
    (Both
    (put_all server.store
    (term_puts server.store request.term ++ append_puts (with_term server.store request.term) request verdict))
    (append_memory server request verdict))
judged member server request Outdated is fit = elim (lt_tells server.store.term request.term) [
  | inl h ↦ absurd (elim is [ inl low ↦ omega (arith, low, h.1) | inr own ↦ omega (arith, own.0, h.1) ])
  | inr h ↦ rw (h.0) fit
]
judged member server request Refused is fit = follows member server request Refused fit
judged member server request Held is fit = follows member server request Held fit
judged member server request (Added entry) is fit = follows member server request (Added entry) fit

pub fit_after : (members : List ℕ) (member step : ℕ) (bag : List Message) (called_before : List ℕ) (server : RaftServer) (move : Move)
    → IsEnabled members member bag called_before server move →
    IsFit member server → IsFit member (server_after members member step server move)
fit_after members member step bag called_before server TimeOut comes fit = elim (tell (has_quorum members (own_vote member))) [
  | inl h ↦
      rw (h) (won member (put_all server.store (stand_puts member server.store)) (stand_memory member server.memory) refl (omega arith))
  | inr h ↦ rw (h) (record { told = fit.told; vote = λ n. refl; term = λ n. omega arith; peers = λ leads. absurd (cc) })
]
fit_after members member step bag called_before server (TakeVoteRequest request answer) comes fit =
    subst (λ (s : Store). IsFit member (Both s (term_memory server request.term)))
    (sym
    (put_then (term_puts server.store request.term) (grant_puts (with_term server.store request.term) request answer) server.store))
    (granted member (with_term server.store request.term) (term_memory server request.term) request answer
    (raised member server request.term fit))
fit_after members member step bag called_before server (TakeVoteAnswer answer) comes fit = elim (lt_tells server.store.term answer.term) [
  | inl h ↦
      rw (h.0)
      (follower member (record server.store { term = answer.term; vote = None })
      (record (memory_without_call server.memory answer.from) { role = Follower }) refl fit.told)
  | inr h ↦ rw (h.0) (elim (tell (counts server answer)) [
    | inl k ↦ rw (k) (elim (tell (has_quorum members (votes_with server.memory answer))) [
      | inl q ↦
          rw (q)
          (won member server.store (record (memory_without_call server.memory answer.from) { votes = votes_with server.memory answer })
          (fit.vote (stands k)) (fit.term (stands k)))
      | inr q ↦
          rw (q)
          (let e = call_ended member answer.from server.store server.memory fit in
          record { told = e.told; vote = e.vote; term = e.term; peers = e.peers })
    ])
    | inr k ↦ rw (k) (call_ended member answer.from server.store server.memory fit)
  ])
]
  where
    stands : counts server answer ≡ true → server.memory.role ≢ Follower
    stands k = no_follower server.memory.role (and_left (is_candidate server.memory.role) _ k)
fit_after members member step bag called_before server (TakeAppendRequest request verdict) comes fit = judged member server request verdict
    comes.3 fit
fit_after members member step bag called_before server (TakeAppendAnswer answer) comes fit = elim (lt_tells server.store.term answer.term) [
  | inl h ↦
      rw (h.0)
      (follower member (record server.store { term = answer.term; vote = None })
      (record (memory_without_call server.memory answer.from) { role = Follower }) refl fit.told)
  | inr h ↦ rw (h.0) (elim (tell (is_leader server.memory.role && (answer.term == server.store.term))) [
    | inl k ↦ rw (k) (acknowledged member server.store server.memory answer comes.3 fit)
    | inr k ↦ rw (k) (call_ended member answer.from server.store server.memory fit)
  ])
]
fit_after members member step bag called_before server (ProposeEntry entry) comes fit = record {
  told = fit.told;
  vote = fit.vote;
  term = fit.term;
  peers = λ leads peer. let w = fit.peers leads peer in let longer = length-append server.store.log (entry ∷ []) in record {
    least = w.least;
    most = omega (arith, w.most, longer);
    acknowledged = omega (arith, w.acknowledged, longer);
    reached = λ request e. omega (arith, w.reached request e, longer);
  };
}
fit_after members member step bag called_before server (CommitTo index) comes fit = record
    { told = omega (arith, fit.told, comes.1.can.above); vote = fit.vote; term = fit.term; peers = fit.peers }
fit_after members member step bag called_before server TellPair comes fit = record
    { told = omega (arith, comes.1); vote = fit.vote; term = fit.term; peers = fit.peers }
fit_after members member step bag called_before server TellNothing comes fit = record
    { told = omega (arith, comes.1); vote = fit.vote; term = fit.term; peers = fit.peers }
fit_after members member step bag called_before server (CallForVote peer) comes fit = called member peer server.store server.memory
    (vote_request member step server.store peer) (λ leads. absurd (cc)) fit
fit_after members member step bag called_before server (CallToAppend peer previous with_entry) comes fit =
    called member peer server.store server.memory (append_request member step server.store peer previous with_entry)
    (λ leads. within with_entry) fit
  where
    within : (with_entry : Bool) → reach (append_request member step server.store peer previous with_entry) ≤ length server.store.log
    within false = omega (arith, comes.1)
    within true = elim (lt_tells previous (length server.store.log))
        [ inl h ↦ rw (h.0) (omega (arith, h.1)) | inr h ↦ rw (h.0) (omega (arith, comes.1)) ]
fit_after members member step bag called_before server (AnswerAgain place) comes fit = fit
fit_after members member step bag called_before server (GiveUp peer) comes fit = call_ended member peer server.store server.memory fit
