-- The requests that a member makes of what it has stored.
use Rattle.std.specs.Prelude.{ℕ, ◌-◌, Some, None, length, nat_le, if◌then◌else◌}
use Rattle.can_frame.specs.Log.{entry_at, last_term}
use Rattle.dsdl_codec.specs.declared.append_request.AppendRequest.{AppendRequest}
use Rattle.dsdl_codec.specs.declared.vote_request.VoteRequest.{VoteRequest}
use Rattle.raft_log.specs.Stored.{Stored}

abbrev pub vote_call : Stored → VoteRequest
vote_call state = record { term = state.term; last_term = last_term state.log; last_index = length state.log }

-- with the entry at a place, where there is one
abbrev pub append_call : Stored → ℕ → AppendRequest
append_call state next = record {
  term = state.term;
  prev_term = (entry_at state.log (next - 1)).term;
  prev_index = next - 1;
  commit = state.commit;
  entry = if nat_le next (length state.log) then Some (entry_at state.log next) else None;
}
