use Rattle.std.proofs.Common.{ℕ, arith}
use Rattle.arrayvec.specs.ArrayVec.{ArrayVec}
use Rattle.replay_text.specs.Words.{identifier_bytes}
use Rattle.replay_text.proofs.word.read_identifier.Goals as goal

pub returns-in_err-bytes-clause-only : goal.returns-in_err-bytes-clause-only
returns-in_err-bytes-clause-only c = λ id small read.
    let bytes : ArrayVec ℕ = record { items = identifier_bytes id } in
    let found = c.read_bytes.ensures.only bytes (omega arith) read in
    absurd (cc (c.in_err-bytes.was))
