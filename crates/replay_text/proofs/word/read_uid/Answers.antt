use Rattle.std.proofs.Common.{ℕ, arith}
use Rattle.arrayvec.specs.ArrayVec.{ArrayVec}
use Rattle.replay_text.proofs.word.read_uid.Goals as goal

pub returns-in_err-bytes-clause-only : goal.returns-in_err-bytes-clause-only
returns-in_err-bytes-clause-only c = λ uid is read.
    let size = is.size in
    let bytes : ArrayVec ℕ = record { items = uid } in
    let found = c.read_bytes.ensures.only bytes (omega arith) read in
    absurd (cc (c.in_err-bytes.was))
