-- The transfer of a call.
use Rattle.std.specs.Prelude.{ℕ, List}
use Rattle.can_frame.specs.declared.step.What.{What}
use Rattle.can_frame.specs.declared.step.What.TheVariants.{AppQ, VoteQ}
use Rattle.dsdl_codec.specs.AppendRequest.{append_request_bytes}
use Rattle.dsdl_codec.specs.VoteRequest.{vote_request_bytes}
use Rattle.raft_core.specs.declared.calls.Call.{Call}
use Rattle.raft_core.specs.declared.calls.Call.TheVariants.{Append, Vote}

abbrev pub what_of : Call → What
what_of (Vote request) = VoteQ
what_of (Append request) = AppQ

abbrev pub bytes_of : Call → List ℕ
bytes_of (Vote request) = vote_request_bytes request
bytes_of (Append request) = append_request_bytes request 0
