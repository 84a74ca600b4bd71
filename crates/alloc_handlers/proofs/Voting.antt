-- A request of a candidate or leader: the moves of a server that is numbered so, and the bytes of its answer.
use Rattle.std.proofs.Common.{◌≡◌, ℕ, Bool, List, [], ◌∷◌, ap, ◌∙◌}
use Rattle.alloc_handlers.proofs.Words.{AllocatorState, Move, TakeAppendRequest, TakeVoteRequest, append_request_of, grants, verdict_on, vote_request_of, with_term}
use Rattle.dsdl_codec.specs.declared.append_request.AppendRequest.{AppendRequest}
use Rattle.dsdl_codec.specs.declared.vote_request.VoteRequest.{VoteRequest}
use Rattle.dsdl_codec.specs.Verdict.{verdict_bytes}

abbrev pub votes_as : AllocatorState → VoteRequest → ℕ → ℕ → ℕ → List Move
votes_as t request made from me =
    TakeVoteRequest (vote_request_of request made from me) (grants (with_term t.raft_server.store request.term) (vote_request_of request made from me)) ∷ []

abbrev pub appends_as : AllocatorState → AppendRequest → ℕ → ℕ → ℕ → List Move
appends_as t request made from me =
    TakeAppendRequest (append_request_of request made from me) (verdict_on t.raft_server (append_request_of request made from me)) ∷ []

pub answer_bytes : (a b : ℕ) (x y : Bool) → a ≡ b → x ≡ y → verdict_bytes a x 0 ≡ verdict_bytes b y 0
answer_bytes a b x y e f = ap (λ (n : ℕ). verdict_bytes n x 0) e ∙ ap (λ (v : Bool). verdict_bytes b v 0) f
