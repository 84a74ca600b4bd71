use Rattle.std.proofs.Common.{◌≡◌, Some, ap, ◌∙◌, arith, length}
use Rattle.replay_text.specs.Words.{IsHex}
use Rattle.replay_text.proofs.Frames.{not_refused, one_value}
use Rattle.replay_text.proofs.Numbers.{length-decoded}
use Rattle.replay_text.proofs.schedule.read_frame.Goals as goal

pub returns-in-Ok-clause-found : goal.returns-in-Ok-clause-found
returns-in-Ok-clause-found c =
    let kept = c.in-Ok.ensures.ok in
    let read : IsHex c.in-Ok.frame.bytes.items c.args.bytes.now = rw (kept.1 ∙ c.deref.ensures.0) c.in_ok-bytes.ensures.found.1 in
    ((length-decoded _ _ read).1, rw kept.0 c.in_ok-id.ensures.found, read)

pub returns-in-Ok-clause-only : goal.returns-in-Ok-clause-only
returns-in-Ok-clause-only c = λ frame id_read bytes_read.
    let id = one_value _ _ _ c.in_ok-id.was (c.read_identifier.ensures.only frame.id (omega arith) id_read) in
    let bytes = one_value _ _ _ c.in_ok-bytes.was (c.read_bytes.ensures.only frame.bytes (omega arith) bytes_read) in
    let kept = c.in-Ok.ensures.ok in
    ap Some (c.frames_are_their_parts.ensures c.in-Ok.frame frame (kept.0 ∙ id) (kept.1 ∙ c.deref.ensures.0 ∙ ap (λ v. v.items) bytes))

pub returns-in-Err-clause-only : goal.returns-in-Err-clause-only
returns-in-Err-clause-only c = λ frame id_read bytes_read.
    let id = one_value _ _ _ c.in_ok-id.was (c.read_identifier.ensures.only frame.id (omega arith) id_read) in
    let bytes = one_value _ _ _ c.in_ok-bytes.was (c.read_bytes.ensures.only frame.bytes (omega arith) bytes_read) in
    let size : length c.deref.result.now ≡ length frame.bytes.items = ap length (c.deref.ensures.0 ∙ ap (λ v. v.items) bytes) in
    absurd (not_refused c.from_parts.result c.in-Err.field-0 c.in_ok-id.id c.deref.result.now c.in-Err.is
    c.from_parts.ensures.wide.0 (λ e. (c.from_parts.ensures.empty.0 e).1) (λ e. (c.from_parts.ensures.long.0 e).1)
    (rw id frame.narrow) (rw size frame.filled) (rw size frame.short))
