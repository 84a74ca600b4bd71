-- Who the puts of a member vote for, and what is stored after some of the first of its puts.
use Rattle.std.proofs.Common.{◌≡◌, ℕ, zero, suc, ◌≤◌, Bool, true, false, List, [], ◌∷◌, ◌++◌, take, None, refl, sym, ap, subst, ◌∙◌}
use Rattle.std.specs.Prelude.{if◌then◌else◌, nat_lt}
use Rattle.raft_log.specs.Stored.{Stored, after_put, after_puts, Put as StoredPut}
use Rattle.raft_model.specs.Handlers.{server_after, puts_of_all}
use Rattle.raft_model.specs.Messages.{Request}
use Rattle.raft_model.specs.Moves.{Move, puts}
use Rattle.raft_model.specs.Moves.Elections.{grant_puts, term_puts, with_term}
use Rattle.raft_model.specs.Moves.Move.{TimeOut, TakeVoteRequest, TakeVoteAnswer, TakeAppendRequest, TakeAppendAnswer, ProposeEntry, CommitTo, TellPair, TellNothing, CallForVote, CallToAppend, AnswerAgain, GiveUp}
use Rattle.raft_model.specs.Server.{RaftServer, Put, Store, put_all}
use Rattle.raft_model.specs.Server.Put.{PutTerm, PutVote}
use Rattle.raft_core.specs.StoredPuts.{AreOfNodes, IsOfNode, PutWithOrigin, VoteForNodes, puts_alone, store_of, stored_put, stored_puts}
use Rattle.raft_core.proofs.Judged.{append_counts}
use Rattle.raft_core.proofs.Origins.{raft_server_front}
use Rattle.raft_core.proofs.Moving.{stored_after}
use Rattle.raft_core.proofs.VoteRequest.{vote_counts}

-- ---- who they vote for

both : (xs ys : List Put) → VoteForNodes xs → VoteForNodes ys → VoteForNodes (xs ++ ys)
both [] ys h k = k
both (x ∷ xs) ys h k = (h.0, both xs ys h.1 k)

either : (b : Bool) (xs ys : List Put) → VoteForNodes xs → VoteForNodes ys → VoteForNodes (if b then xs else ys)
either true xs ys h k = h
either false xs ys h k = k

term_counts : (s : Store) (term : ℕ) → VoteForNodes (term_puts s term)
term_counts s term = either (nat_lt s.term term) (PutTerm term ∷ PutVote None ∷ []) [] (tt, (tt, tt)) tt

grant_counts : (s : Store) (r : Request) (granted : Bool) → 1 ≤ r.from → VoteForNodes (grant_puts s r granted)
grant_counts s r true least = vote_counts s.vote r.from least
grant_counts s r false least = tt

module _ (members : List ℕ) (m : ℕ) (least : 1 ≤ m) where
  of_move : (p : RaftServer) (move : Move) → IsOfNode move → VoteForNodes (puts members m p move)
  of_move p TimeOut h = (tt, (tt, (least, tt)))
  of_move p (TakeVoteRequest r granted) h = both (term_puts p.store r.term) _ (term_counts p.store r.term) (grant_counts (with_term p.store r.term) r granted h)
  of_move p (TakeVoteAnswer a) h = term_counts p.store a.term
  of_move p (TakeAppendRequest r v) h = both (term_puts p.store r.term) _ (term_counts p.store r.term) (append_counts (with_term p.store r.term) r v)
  of_move p (TakeAppendAnswer a) h = term_counts p.store a.term
  of_move p (ProposeEntry e) h = (tt, (tt, tt))
  of_move p (CommitTo index) h = (tt, tt)
  of_move p TellPair h = tt
  of_move p TellNothing h = tt
  of_move p (CallForVote q) h = tt
  of_move p (CallToAppend q previous with_entry) h = tt
  of_move p (AnswerAgain place) h = tt
  of_move p (GiveUp q) h = tt

  pub of_moves : (n : ℕ) (p : RaftServer) (moves : List Move) → AreOfNodes moves → VoteForNodes (puts_of_all members m n p moves)
  of_moves n p [] h = tt
  of_moves n p (move ∷ moves) h = both (puts members m p move) _ (of_move p move h.0) (of_moves n (server_after members m n p move) moves h.1)

-- ---- some of the first of them

front_votes : (xs : List Put) (k : ℕ) → VoteForNodes xs → VoteForNodes (take k xs)
front_votes [] zero h = tt
front_votes [] (suc k) h = tt
front_votes (x ∷ xs) zero h = tt
front_votes (x ∷ xs) (suc k) h = (h.0, front_votes xs k h.1)

front_stored : (xs : List PutWithOrigin) (k : ℕ) (s : Stored) → take k (stored_puts xs s) ≡ stored_puts (take k xs) s
front_stored [] zero s = refl
front_stored [] (suc k) s = refl
front_stored (x ∷ xs) zero s = refl
front_stored (x ∷ xs) (suc k) s = ap (λ (rest : List StoredPut). stored_put x s ∷ rest) (front_stored xs k (after_put (stored_put x s) s))

pub front_after : (xs : List PutWithOrigin) (s : Stored) (k : ℕ) → VoteForNodes (puts_alone xs) → store_of (after_puts (take k (stored_puts xs s)) s) ≡ put_all (store_of s) (take k (puts_alone xs))
front_after xs s k h = ap (λ (l : List StoredPut). store_of (after_puts l s)) (front_stored xs k s)
    ∙ (stored_after (take k xs) s (subst VoteForNodes (sym (raft_server_front xs k)) (front_votes (puts_alone xs) k h)) ∙ ap (put_all (store_of s)) (raft_server_front xs k))
