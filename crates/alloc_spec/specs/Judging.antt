-- Whether a frame may be given to a server in a cluster under test: what it would deliver was made by one step, and a
-- response that a pending call would take answers that very call.
use Rattle.std.specs.Prelude.{◌≡◌, ◌⊎◌, ℕ, ◌-◌, Bool, true, false, not, ◌&&◌, ◌||◌, max, nat_eq, nat_le, nat_lt, Option, None, Some, if◌then◌else◌}
use Rattle.can_frame.specs.declared.step.Judged.{Judged}
use Rattle.can_frame.specs.declared.step.Judged.TheVariants.{Fine, Stale, Torn}
use Rattle.can_frame.specs.DataTypes.{append_entries, request_vote}
use Rattle.can_frame.specs.Kinds.{is_response}
use Rattle.can_frame.specs.Timing.{call_timeout}
use Rattle.dsdl_codec.specs.declared.append_answer.AppendAnswer.{AppendAnswer}
use Rattle.dsdl_codec.specs.declared.vote_answer.VoteAnswer.{VoteAnswer}
use Rattle.dsdl_codec.specs.AppendAnswer.{append_answer_of}
use Rattle.dsdl_codec.specs.VoteAnswer.{vote_answer_of}
use Rattle.raft_core.specs.Times.{Sending}
use Rattle.raft_model.specs.Messages.{Request as Call}
use Rattle.transfer_rx.specs.Reassembly.{Answer, Arrival, Continues, Delivery, Drops, Gives, answer}
use Rattle.alloc_spec.specs.Accepted.{setting_for}
use Rattle.alloc_spec.specs.AllocatorState.{AllocatorState}

-- the number of the service that it calls
abbrev pub service_of : Call → ℕ
service_of call = if call.append then append_entries.number else request_vote.number

-- the call would take the response: it is of its service, under its transfer ID, and the call is not
-- given up
abbrev pub would_take : Delivery → ℕ → Call → Sending → Bool
would_take d now call sending =
    nat_eq d.ident.number (service_of call) && (nat_eq d.id sending.id && nat_lt (now - sending.moment) call_timeout)

-- a pending call would take it, and was made in another step than the request that it answers
abbrev pub misses : Delivery → ℕ → Option Call → Option Sending → Bool
misses d now (Some call) (Some sending) = would_take d now call sending && not (nat_eq d.mark.re call.step)
misses d now (Some call) None = false
misses d now None sending = false

-- members are 1 to 125
abbrev pub is_stale : AllocatorState → Delivery → ℕ → Bool
is_stale t d now =
    (is_response d.ident.kind && nat_le d.ident.source 125)
    && misses d now (t.raft_server.memory.pending d.ident.source) (t.times.sending d.ident.source)

abbrev pub answer_judgement : AllocatorState → ℕ → ℕ → Answer → Judged
answer_judgement t step now (Gives d) =
    if not d.whole && not (nat_eq step 0) then Torn else (if is_stale t d now then Stale else Fine)
answer_judgement t step now Continues = Fine
answer_judgement t step now (Drops why) = Fine

-- a frame that comes to the server, judged at the moment that a step would have
unfoldable pub arrival_judgement : AllocatorState → Arrival → Judged
arrival_judgement t arrival =
    answer_judgement t arrival.mark.step (max t.now arrival.moment)
    (answer (setting_for t.me) t.sessions (record arrival { moment = max t.now arrival.moment }))

-- ---- A late response answers an earlier call, and is taken for the answer to the pending one. It counts for nothing
-- where it refuses, or where its term is below the server's own.

abbrev pub counts_for_nothing : (own term : ℕ) (success : Bool) → Bool
counts_for_nothing own term success = not success || nat_lt term own

-- a payload that is no value does nothing either

abbrev pub is_void_vote : ℕ → Option VoteAnswer → Bool
is_void_vote own None = true
is_void_vote own (Some says) = counts_for_nothing own says.term says.granted

abbrev pub is_void_append : ℕ → Option AppendAnswer → Bool
is_void_append own None = true
is_void_append own (Some says) = counts_for_nothing own says.term says.success

abbrev pub is_void : ℕ → Delivery → Bool
is_void own d =
    if nat_eq d.ident.number append_entries.number then is_void_append own (append_answer_of d.payload)
    else is_void_vote own (vote_answer_of d.payload)

abbrev pub gives_void : ℕ → Answer → Bool
gives_void own (Gives d) = is_void own d
gives_void own Continues = false
gives_void own (Drops why) = false

-- the frame would deliver one that counts for nothing
unfoldable pub brings_void : AllocatorState → Arrival → Bool
brings_void t arrival = gives_void t.raft_server.store.term
    (answer (setting_for t.me) t.sessions (record arrival { moment = max t.now arrival.moment }))

-- a bus may bring the frame to the server: it is fine, or it delivers a late response that counts for nothing
abbrev pub IsHarmless : AllocatorState → Arrival → Type 0
IsHarmless t arrival = (arrival_judgement t arrival ≡ Fine)
    ⊎ ((arrival_judgement t arrival ≡ Stale) × (brings_void t arrival ≡ true))
