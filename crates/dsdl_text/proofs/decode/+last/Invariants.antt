use Rattle.std.proofs.Common.{◌+◌, ◌*◌, length}
use Rattle.dsdl_text.proofs.decode.+last.Given as goal

-- sections fall first; within one, a field is read behind its fields, and an element behind its field
abbrev pub decreases-read_part : goal.decreases-read_part
decreases-read_part l = 1000 * length l.earlier.now + 300 + length l.part.now

abbrev pub decreases-read_last : goal.decreases-read_last
decreases-read_last l = 1000 * length l.earlier.now + 300

abbrev pub decreases-read_counted_to_last : goal.decreases-read_counted_to_last
decreases-read_counted_to_last l = 1000 * length l.earlier.now + 299

abbrev pub decreases-read_to_last : goal.decreases-read_to_last
decreases-read_to_last l = 1000 * length l.earlier.now + 1

abbrev pub decreases-read_last_kind : goal.decreases-read_last_kind
decreases-read_last_kind l = 1000 * length l.earlier.now
