-- VoteAnswer against its bytes (the response of uavcan.protocol.dynamic_node_id.server.RequestVote).
--
--   uint32 term         four bytes, the low one first
--   bool vote_granted   the high bit of a byte; the seven bits below it are padding
use Rattle.std.specs.Prelude.{ℕ, List, Option}
use Rattle.std.specs.Option.{option_map}
use Rattle.dsdl_codec.specs.Verdict.{SpellsVerdict, verdict_bytes, verdict_of}
use Rattle.dsdl_codec.specs.declared.vote_answer.VoteAnswer.{VoteAnswer}

-- the bytes of a value, with these padding bits
abbrev pub vote_answer_bytes : VoteAnswer → ℕ → List ℕ
vote_answer_bytes answer padding = verdict_bytes answer.term answer.granted padding

-- these are the bytes of the value, whatever the padding
abbrev pub SpellsVoteAnswer : VoteAnswer → List ℕ → Type 0
SpellsVoteAnswer answer bytes = SpellsVerdict answer.term answer.granted bytes

-- the value of bytes, where they are some value's
abbrev pub vote_answer_of : List ℕ → Option VoteAnswer
vote_answer_of bytes = option_map (λ verdict. record { term = verdict.0; granted = verdict.1 }) (verdict_of bytes)
