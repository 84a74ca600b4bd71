-- The transfer of a call that is owed.
use Rattle.std.proofs.Common.{◌≡◌, ℕ, true, List, [], ◌∷◌, Option, Some, None, refl, sym, ap, subst, ◌∙◌}
use Rattle.alloc_handlers.proofs.Words.{AppQ, CallForVote, CallToAppend, Entry, HandedIn, Move, RaftServer, Request, StepState, VoteQ, append_call_bytes, append_request, calls_by, calls_owed, pair_in, puts_with_origins, vote_call_bytes, vote_request}
use Rattle.dsdl_codec.specs.AppendRequest.{append_request_bytes}
use Rattle.dsdl_codec.specs.VoteRequest.{vote_request_bytes}
use Rattle.dsdl_codec.specs.declared.append_request.AppendRequest.{AppendRequest}
use Rattle.dsdl_codec.specs.declared.vote_request.VoteRequest.{VoteRequest}
use Rattle.raft_core.specs.declared.calls.Call.{Call}
use Rattle.raft_core.specs.declared.calls.Call.TheVariants.{Append, Vote}
use Rattle.raft_core.specs.Calls.{Says, SaysAppend, SaysVote}
use Rattle.alloc_handlers.specs.Calling.{bytes_of, what_of}

-- it gives no pair
pub no_pair : (call : Call) (payload : List ℕ) → pair_in (what_of call) payload ≡ None
no_pair (Vote request) payload = refl
no_pair (Append request) payload = refl

-- its bytes are those of the request of the Raft model
vote_bytes : (request : VoteRequest) (sent : Request) → SaysVote request sent → vote_call_bytes sent ≡ vote_request_bytes request
vote_bytes request sent says =
    ap (λ (n : ℕ). vote_request_bytes (record { term = n; last_term = sent.previous_term; last_index = sent.previous })) (sym says.term)
    ∙ ap (λ (n : ℕ). vote_request_bytes (record { term = request.term; last_term = n; last_index = sent.previous })) (sym says.last_term)
    ∙ ap (λ (n : ℕ). vote_request_bytes (record { term = request.term; last_term = request.last_term; last_index = n })) (sym says.last)

append_bytes : (request : AppendRequest) (sent : Request) → SaysAppend request sent → append_call_bytes sent ≡ append_request_bytes request 0
append_bytes request sent says =
    ap (λ (n : ℕ). append_request_bytes (record { term = n; prev_term = sent.previous_term; prev_index = sent.previous; commit = sent.commit; entry = sent.entry }) 0) (sym says.term)
    ∙ ap (λ (n : ℕ). append_request_bytes (record { term = request.term; prev_term = n; prev_index = sent.previous; commit = sent.commit; entry = sent.entry }) 0) (sym says.previous_term)
    ∙ ap (λ (n : ℕ). append_request_bytes (record { term = request.term; prev_term = request.prev_term; prev_index = n; commit = sent.commit; entry = sent.entry }) 0) (sym says.previous)
    ∙ ap (λ (n : ℕ). append_request_bytes (record { term = request.term; prev_term = request.prev_term; prev_index = request.prev_index; commit = n; entry = sent.entry }) 0) (sym says.commit)
    ∙ ap (λ (e : Option Entry). append_request_bytes (record { term = request.term; prev_term = request.prev_term; prev_index = request.prev_index; commit = request.commit; entry = e }) 0) (sym says.entry)

-- the move that is owed is made by this transfer
pub calls_as : (step peer : ℕ) (g : StepState) (call : Call) (move : Move) → Says g.allocator.me step g.allocator.raft_server peer call move
    → (request : Request) × (calls_owed step (Some move) g ≡ calls_by step (what_of call) peer move request (bytes_of call) g)
calls_as step peer g (Vote asked) move says =
    let sent : Request = vote_request g.allocator.me step g.allocator.raft_server.store peer in (
      sent,
      subst (λ (m : Move). calls_owed step (Some m) g ≡ calls_by step VoteQ peer m sent (vote_request_bytes asked) g) (sym says.0)
          (ap (λ (bytes : List ℕ). calls_by step VoteQ peer (CallForVote peer) sent bytes g) (vote_bytes asked sent says.1)),
    )
calls_as step peer g (Append asked) move says =
    let sent : Request = append_request g.allocator.me step g.allocator.raft_server.store peer says.0 true in (
      sent,
      subst (λ (m : Move). calls_owed step (Some m) g ≡ calls_by step AppQ peer m sent (append_request_bytes asked 0) g) (sym says.1)
          (ap (λ (bytes : List ℕ). calls_by step AppQ peer (CallToAppend peer says.0 true) sent bytes g) (append_bytes asked sent says.2)),
    )

-- a call makes no puts
pub call_is_quiet : (members : List ℕ) (me step : ℕ) (given : HandedIn) (raft_server : RaftServer) (peer : ℕ) (call : Call) (move : Move) → Says me step raft_server peer call move
    → puts_with_origins members me step given raft_server (move ∷ []) ≡ []
call_is_quiet members me step given raft_server peer (Vote asked) move says = ap (λ (m : Move). puts_with_origins members me step given raft_server (m ∷ [])) says.0
call_is_quiet members me step given raft_server peer (Append asked) move says = ap (λ (m : Move). puts_with_origins members me step given raft_server (m ∷ [])) says.1
