-- A leader leads on in its term, and a follower follows on within it, through moves that bring no higher term.
use Rattle.std.proofs.Common.{◌≡◌, ◌≢◌, ℕ, ◌≤◌, Bool, true, false, List, [], ◌∷◌, ◌++◌, refl, sym, ◌∙◌, ap, subst, arith, inl, inr, Option, None, Some}
use Rattle.std.specs.Prelude.{⊤, ◌==◌, ◌&&◌, ◌||◌, length, min, nat_lt, not, if◌then◌else◌}
use Rattle.raft_model.specs.Decisions.{rule, verdict_on}
use Rattle.raft_model.specs.Messages.{Answer, Request, reach}
use Rattle.raft_model.specs.Moves.{Move, memory_after, puts}
use Rattle.raft_model.specs.Moves.Appending.{Verdict, acknowledges, advance_puts, append_memory, append_puts, matched_memory}
use Rattle.raft_model.specs.Moves.Appending.Verdict.{Added, Held, Outdated, Refused}
use Rattle.raft_model.specs.Moves.Elections.{counting_memory, counts, grant_puts, is_candidate, is_leader, memory_without_call, stepped_down, term_puts, vote_puts, with_term}
use Rattle.raft_model.specs.Moves.Move.{AnswerAgain, CallForVote, CallToAppend, CommitTo, GiveUp, ProposeEntry, TakeAppendAnswer, TakeAppendRequest, TakeVoteAnswer, TakeVoteRequest, TellNothing, TellPair, TimeOut}
use Rattle.raft_model.specs.Server.{Memory, Put, RaftServer, Store, put, put_all}
use Rattle.raft_model.specs.Server.Put.{PutCommit, PutEntry, PutLonger, PutShorter, PutTerm, PutVote}
use Rattle.raft_model.specs.Server.Role.{Follower, Leader}
use Rattle.alloc_spec_laws.proofs.Choices.{either, lt_tells}
use Rattle.service_leader.proofs.TermsKept.{BringsWithin, IsKeptByMoves}
use Rattle.service_leader.proofs.TermsSaid.{puts_rise, risen}

-- ---- puts

-- these puts raise no term above this one
abbrev AreWithin : ℕ → List Put → Type 0
AreWithin top [] = ⊤
AreWithin top (PutTerm term ∷ rest) = (term ≤ top) × AreWithin top rest
AreWithin top (PutVote vote ∷ rest) = AreWithin top rest
AreWithin top (PutEntry entry ∷ rest) = AreWithin top rest
AreWithin top (PutLonger entry ∷ rest) = AreWithin top rest
AreWithin top (PutShorter place ∷ rest) = AreWithin top rest
AreWithin top (PutCommit place ∷ rest) = AreWithin top rest

within_more : (top : ℕ) (xs ys : List Put) → AreWithin top xs → AreWithin top ys → AreWithin top (xs ++ ys)
within_more top [] ys h k = k
within_more top (PutTerm term ∷ xs) ys h k = (h.0, within_more top xs ys h.1 k)
within_more top (PutVote vote ∷ xs) ys h k = within_more top xs ys h k
within_more top (PutEntry entry ∷ xs) ys h k = within_more top xs ys h k
within_more top (PutLonger entry ∷ xs) ys h k = within_more top xs ys h k
within_more top (PutShorter place ∷ xs) ys h k = within_more top xs ys h k
within_more top (PutCommit place ∷ xs) ys h k = within_more top xs ys h k

put_within : (top : ℕ) (xs : List Put) (store : Store) → AreWithin top xs → store.term ≤ top → (put_all store xs).term ≤ top
put_within top [] store h low = low
put_within top (PutTerm term ∷ xs) store h low = put_within top xs (put store (PutTerm term)) h.1 h.0
put_within top (PutVote vote ∷ xs) store h low = put_within top xs (put store (PutVote vote)) h low
put_within top (PutEntry entry ∷ xs) store h low = put_within top xs (put store (PutEntry entry)) h low
put_within top (PutLonger entry ∷ xs) store h low = put_within top xs (put store (PutLonger entry)) h low
put_within top (PutShorter place ∷ xs) store h low = put_within top xs (put store (PutShorter place)) h low
put_within top (PutCommit place ∷ xs) store h low = put_within top xs (put store (PutCommit place)) h low

term_within : (top : ℕ) (store : Store) (term : ℕ) → term ≤ top → AreWithin top (term_puts store term)
term_within top store term low = either (AreWithin top) (nat_lt store.term term) (PutTerm term ∷ PutVote None ∷ []) [] (λ e. (low, tt)) (λ e. tt)

vote_within : (top : ℕ) (vote : Option ℕ) (candidate : ℕ) → AreWithin top (vote_puts vote candidate)
vote_within top None candidate = tt
vote_within top (Some earlier) candidate = tt

grant_within : (top : ℕ) (store : Store) (request : Request) (granted : Bool) → AreWithin top (grant_puts store request granted)
grant_within top store request true = vote_within top store.vote request.from
grant_within top store request false = tt

advance_within : (top : ℕ) (store : Store) (request : Request) → AreWithin top (advance_puts store request)
advance_within top store request = either (AreWithin top) (nat_lt store.commit (min request.commit (reach request)))
    (PutCommit (min request.commit (reach request)) ∷ []) [] (λ e. tt) (λ e. tt)

append_within : (top : ℕ) (store : Store) (request : Request) (verdict : Verdict) → AreWithin top (append_puts store request verdict)
append_within top store request Outdated = tt
append_within top store request Refused = tt
append_within top store request Held = advance_within top store request
append_within top store request (Added entry) =
    either (λ (xs : List Put). AreWithin top (xs ++ (PutEntry entry ∷ PutLonger entry ∷ advance_puts store request)))
    (nat_lt request.previous (length store.log)) (PutShorter request.previous ∷ []) []
    (λ e. advance_within top store request) (λ e. advance_within top store request)

puts_within : (top : ℕ) (members : List ℕ) (me : ℕ) (server : RaftServer) (move : Move) → BringsWithin top server move
    → AreWithin top (puts members me server move)
puts_within top members me server TimeOut is = absurd is
puts_within top members me server (TakeVoteRequest request granted) is =
    within_more top (term_puts server.store request.term) (grant_puts (with_term server.store request.term) request granted)
    (term_within top server.store request.term is) (grant_within top (with_term server.store request.term) request granted)
puts_within top members me server (TakeVoteAnswer got) is = term_within top server.store got.term is
puts_within top members me server (TakeAppendRequest request verdict) is =
    within_more top (term_puts server.store request.term) (append_puts (with_term server.store request.term) request verdict)
    (term_within top server.store request.term is.0) (append_within top (with_term server.store request.term) request verdict)
puts_within top members me server (TakeAppendAnswer got) is = term_within top server.store got.term is
puts_within top members me server (ProposeEntry entry) is = tt
puts_within top members me server (CommitTo index) is = tt
puts_within top members me server TellPair is = tt
puts_within top members me server TellNothing is = tt
puts_within top members me server (CallForVote peer) is = tt
puts_within top members me server (CallToAppend peer previous with_entry) is = tt
puts_within top members me server (AnswerAgain place) is = tt
puts_within top members me server (GiveUp peer) is = tt

-- ---- a follower

-- the server follows, in this term or a lower one
abbrev pub FollowsTo : ℕ → RaftServer → Type 0
FollowsTo top server = (server.memory.role ≡ Follower) × (server.store.term ≤ top)

-- who is no candidate counts no vote
pub no_count : (server : RaftServer) (got : Answer) → is_candidate server.memory.role ≡ false → counts server got ≡ false
no_count server got e = ap (λ (b : Bool). b && ((got.term == server.store.term) && got.success)) e

follower_after : (members : List ℕ) (me number : ℕ) (server : RaftServer) (move : Move) → move ≢ TimeOut → server.memory.role ≡ Follower
    → (memory_after members me number server move).role ≡ Follower
follower_after members me number server TimeOut is h = absurd (is refl)
follower_after members me number server (TakeVoteRequest request granted) is h =
    either (λ (m : Memory). m.role ≡ Follower) (nat_lt server.store.term request.term) (record server.memory { role = Follower }) server.memory
    (λ e. refl) (λ e. h)
follower_after members me number server (TakeVoteAnswer got) is h =
    either (λ (m : Memory). m.role ≡ Follower) (nat_lt server.store.term got.term) (stepped_down server.memory got.from)
    (if counts server got then counting_memory members server got else memory_without_call server.memory got.from) (λ e. refl)
    (λ e. either (λ (m : Memory). m.role ≡ Follower) (counts server got) (counting_memory members server got) (memory_without_call server.memory got.from)
    (λ f. absurd (cc (f, no_count server got (ap is_candidate h)))) (λ f. h))
follower_after members me number server (TakeAppendRequest request Outdated) is h = h
follower_after members me number server (TakeAppendRequest request Refused) is h = refl
follower_after members me number server (TakeAppendRequest request Held) is h = refl
follower_after members me number server (TakeAppendRequest request (Added entry)) is h = refl
follower_after members me number server (TakeAppendAnswer got) is h =
    either (λ (m : Memory). m.role ≡ Follower) (nat_lt server.store.term got.term) (stepped_down server.memory got.from)
    (if acknowledges server got then matched_memory server.memory got else memory_without_call server.memory got.from) (λ e. refl)
    (λ e. either (λ (m : Memory). m.role ≡ Follower) (acknowledges server got) (matched_memory server.memory got)
    (memory_without_call server.memory got.from) (λ f. h) (λ f. h))
follower_after members me number server (ProposeEntry entry) is h = h
follower_after members me number server (CommitTo index) is h = h
follower_after members me number server TellPair is h = h
follower_after members me number server TellNothing is h = h
follower_after members me number server (CallForVote peer) is h = h
follower_after members me number server (CallToAppend peer previous with_entry) is h = h
follower_after members me number server (AnswerAgain place) is h = h
follower_after members me number server (GiveUp peer) is h = h

no_timeout : (top : ℕ) (server : RaftServer) (move : Move) → BringsWithin top server move → move ≢ TimeOut
no_timeout top server move is e = absurd (subst (BringsWithin top server) e is)

-- it follows on
pub follows_through : (top : ℕ) → IsKeptByMoves top (FollowsTo top)
follows_through top members me number server move is h = (
  follower_after members me number server move (no_timeout top server move is) h.0,
  put_within top (puts members me server move) server.store (puts_within top members me server move is) h.1,
)

-- ---- a leader

-- the server leads, in this term
abbrev pub LeadsAt : ℕ → RaftServer → Type 0
LeadsAt top server = (server.memory.role ≡ Leader) × (server.store.term ≡ top)

-- a term that is not above another
pub not_above : (term other : ℕ) → other ≤ term → nat_lt term other ≡ false
not_above term other low = elim (lt_tells term other) [ inl z ↦ absurd (omega (arith, z.1, low)) | inr z ↦ z.0 ]

-- a leader takes no append request of its own term, or of a lower one
pub outdated : (server : RaftServer) (request : Request) → server.memory.role ≡ Leader → request.term ≤ server.store.term → verdict_on server request ≡ Outdated
outdated server request leads low = ap (λ (b : Bool). if b then rule (with_term server.store request.term) request else Outdated) (old
    (request.term == server.store.term))
  where
    old : (same : Bool) → (nat_lt server.store.term request.term || (same && not (is_leader server.memory.role))) ≡ false
    old true = rw (not_above server.store.term request.term low) (rw (leads) refl)
    old false = rw (not_above server.store.term request.term low) refl

leader_after : (members : List ℕ) (me number : ℕ) (server : RaftServer) (move : Move) → BringsWithin server.store.term server move → server.memory.role ≡ Leader
    → (memory_after members me number server move).role ≡ Leader
leader_after members me number server TimeOut is h = absurd is
leader_after members me number server (TakeVoteRequest request granted) is h =
    ap (λ (b : Bool). (if b then record server.memory { role = Follower } else server.memory).role) (not_above server.store.term request.term is) ∙ h
leader_after members me number server (TakeVoteAnswer got) is h =
    ap (λ (b : Bool). (if b then stepped_down server.memory got.from
    else (if counts server got then counting_memory members server got else memory_without_call server.memory got.from)).role)
    (not_above server.store.term got.term is)
    ∙ (ap (λ (b : Bool). (if b then counting_memory members server got else memory_without_call server.memory got.from).role) (no_count server got
    (ap is_candidate h)) ∙ h)
leader_after members me number server (TakeAppendRequest request verdict) is h =
    ap (λ (v : Verdict). (append_memory server request v).role) (is.1 ∙ outdated server request h is.0) ∙ h
leader_after members me number server (TakeAppendAnswer got) is h =
    ap (λ (b : Bool). (if b then stepped_down server.memory got.from
    else (if acknowledges server got then matched_memory server.memory got else memory_without_call server.memory got.from)).role)
    (not_above server.store.term got.term is)
    ∙ either (λ (m : Memory). m.role ≡ Leader) (acknowledges server got) (matched_memory server.memory got) (memory_without_call server.memory got.from)
    (λ f. h) (λ f. h)
leader_after members me number server (ProposeEntry entry) is h = h
leader_after members me number server (CommitTo index) is h = h
leader_after members me number server TellPair is h = h
leader_after members me number server TellNothing is h = h
leader_after members me number server (CallForVote peer) is h = h
leader_after members me number server (CallToAppend peer previous with_entry) is h = h
leader_after members me number server (AnswerAgain place) is h = h
leader_after members me number server (GiveUp peer) is h = h

-- it leads on
pub leads_through : (top : ℕ) → IsKeptByMoves top (LeadsAt top)
leads_through top members me number server move is h =
    let low = put_within top (puts members me server move) server.store (puts_within top members me server move is) (omega (arith, h.1)) in
    let high = risen (puts members me server move) server.store (puts_rise members me server move) in (
      leader_after members me number server move (subst (λ (term : ℕ). BringsWithin term server move) (sym h.1) is) h.0,
      omega (arith, low, high, h.1),
    )
