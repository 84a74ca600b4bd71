-- AppendAnswer against its bytes (the response of uavcan.protocol.dynamic_node_id.server.AppendEntries).
--
--   uint32 term    four bytes, the low one first
--   bool success   the high bit of a byte; the seven bits below it are padding
use Rattle.std.specs.Prelude.{ℕ, List, Option}
use Rattle.std.specs.Option.{option_map}
use Rattle.dsdl_codec.specs.Verdict.{SpellsVerdict, verdict_bytes, verdict_of}
use Rattle.dsdl_codec.specs.declared.append_answer.AppendAnswer.{AppendAnswer}

-- the bytes of a value, with these padding bits
abbrev pub append_answer_bytes : AppendAnswer → ℕ → List ℕ
append_answer_bytes answer padding = verdict_bytes answer.term answer.success padding

-- these are the bytes of the value, whatever the padding
abbrev pub SpellsAppendAnswer : AppendAnswer → List ℕ → Type 0
SpellsAppendAnswer answer bytes = SpellsVerdict answer.term answer.success bytes

-- the value of bytes, where they are some value's
abbrev pub append_answer_of : List ℕ → Option AppendAnswer
append_answer_of bytes = option_map (λ verdict. record { term = verdict.0; success = verdict.1 }) (verdict_of bytes)
