-- Each move writes an entry just before it raises last.
use Rattle.std.proofs.Common.{◌≡◌, ℕ, Bool, true, false, List, [], ◌∷◌, ◌++◌, length, min, refl, inl, inr, Option, Some, None}
use Rattle.raft_model.specs.Messages.{Request, reach}
use Rattle.can_frame.specs.declared.entry.Entry.{Entry}
use Rattle.raft_model.specs.Server.{Store, RaftServer, Put, AreWritten}
use Rattle.raft_model.specs.Server.Put.{PutTerm, PutVote, PutEntry, PutLonger, PutShorter, PutCommit}
use Rattle.raft_model.specs.Handlers.{server_after, puts_of_all}
use Rattle.raft_model.specs.Moves.{Move, Verdict, puts, term_puts, with_term, grant_puts, vote_puts, append_puts, advance_puts}
use Rattle.raft_model.specs.Moves.Move.{TimeOut, TakeVoteRequest, TakeVoteAnswer, TakeAppendRequest, TakeAppendAnswer, ProposeEntry, CommitTo, TellPair, TellNothing, CallForVote, CallToAppend, AnswerAgain, GiveUp}
use Rattle.raft_model.specs.Moves.Verdict.{Outdated, Refused, Held, Added}
use Rattle.raft_model.proofs.Whole.{lt_tells}

term_then : (store : Store) (term : ℕ) (rest : List Put) → AreWritten None rest → AreWritten None (term_puts store term ++ rest)
term_then store term rest h = elim (lt_tells store.term term) [ inl z ↦ rw (z.0) h | inr z ↦ rw (z.0) h ]

term_written : (store : Store) (term : ℕ) → AreWritten None (term_puts store term)
term_written store term = elim (lt_tells store.term term) [ inl z ↦ rw (z.0) tt | inr z ↦ rw (z.0) tt ]

advance_written : (store : Store) (request : Request) → AreWritten None (advance_puts store request)
advance_written store request = elim (lt_tells store.commit (min request.commit (reach request)))
    [ inl h ↦ rw (h.0) tt | inr h ↦ rw (h.0) tt ]

grant_written : (store : Store) (request : Request) (granted : Bool) → AreWritten None (grant_puts store request granted)
grant_written store request false = tt
grant_written store request true = vote_written store.vote
  where
    vote_written : (vote : Option ℕ) → AreWritten None (vote_puts vote request.from)
    vote_written None = tt
    vote_written (Some earlier) = tt

append_written : (store : Store) (request : Request) (verdict : Verdict) → AreWritten None (append_puts store request verdict)
append_written store request Outdated = tt
append_written store request Refused = tt
append_written store request Held = advance_written store request
append_written store request (Added entry) = elim (lt_tells request.previous (length store.log)) [
  | inl h ↦ rw (h.0) (refl, advance_written store request)
  | inr h ↦ rw (h.0) (refl, advance_written store request)
]

pub puts_written : (members : List ℕ) (member : ℕ) (server : RaftServer) (move : Move) → AreWritten None (puts members member server move)
puts_written members member server TimeOut = tt
puts_written members member server (TakeVoteRequest request granted) =
    term_then server.store request.term (grant_puts (with_term server.store request.term) request granted)
    (grant_written (with_term server.store request.term) request granted)
puts_written members member server (TakeVoteAnswer answer) = term_written server.store answer.term
puts_written members member server (TakeAppendRequest request verdict) =
    term_then server.store request.term (append_puts (with_term server.store request.term) request verdict)
    (append_written (with_term server.store request.term) request verdict)
puts_written members member server (TakeAppendAnswer answer) = term_written server.store answer.term
puts_written members member server (ProposeEntry entry) = (refl, tt)
puts_written members member server (CommitTo index) = tt
puts_written members member server TellPair = tt
puts_written members member server TellNothing = tt
puts_written members member server (CallForVote peer) = tt
puts_written members member server (CallToAppend peer previous with_entry) = tt
puts_written members member server (AnswerAgain place) = tt
puts_written members member server (GiveUp peer) = tt

-- what may follow nothing may follow whatever was put before
written_later : (written : Option Entry) (xs : List Put) → AreWritten None xs → AreWritten written xs
written_later written [] h = tt
written_later written (PutTerm term ∷ rest) h = h
written_later written (PutVote vote ∷ rest) h = h
written_later written (PutEntry entry ∷ rest) h = h
written_later written (PutLonger entry ∷ rest) h = absurd (let e : None ≡ Some entry = h.0 in cc)
written_later written (PutShorter place ∷ rest) h = h
written_later written (PutCommit place ∷ rest) h = h

both_written : (written : Option Entry) (xs ys : List Put) → AreWritten written xs → AreWritten None ys → AreWritten written (xs ++ ys)
both_written written [] ys a b = written_later written ys b
both_written written (PutTerm term ∷ xs) ys a b = both_written None xs ys a b
both_written written (PutVote vote ∷ xs) ys a b = both_written None xs ys a b
both_written written (PutEntry entry ∷ xs) ys a b = both_written (Some entry) xs ys a b
both_written written (PutLonger entry ∷ xs) ys a b = (a.0, both_written None xs ys a.1 b)
both_written written (PutShorter place ∷ xs) ys a b = both_written None xs ys a b
both_written written (PutCommit place ∷ xs) ys a b = both_written None xs ys a b

pub step_written : (members : List ℕ) (member step : ℕ) (server : RaftServer) (moves : List Move)
    → AreWritten None (puts_of_all members member step server moves)
step_written members member step server [] = tt
step_written members member step server (move ∷ moves) = both_written None (puts members member server move)
    (puts_of_all members member step (server_after members member step server move) moves) (puts_written members member server move)
    (step_written members member step (server_after members member step server move) moves)
