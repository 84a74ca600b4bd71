use Rattle.std.proofs.Common.{◌+◌, ◌*◌, length}
use Rattle.dsdl_text.proofs.decode.+reading.Given as goal

-- sections fall first; within one, a field is read behind its fields, and an element behind its field
abbrev pub decreases-read_fields : goal.decreases-read_fields
decreases-read_fields l = 1000 * length l.earlier.now + 300 + length l.fields.now

abbrev pub decreases-read_field : goal.decreases-read_field
decreases-read_field l = 1000 * length l.earlier.now + 300

abbrev pub decreases-read_counted : goal.decreases-read_counted
decreases-read_counted l = 1000 * length l.earlier.now + 299

abbrev pub decreases-read_times : goal.decreases-read_times
decreases-read_times l = 1000 * length l.earlier.now + 1 + l.count

abbrev pub decreases-read_kind : goal.decreases-read_kind
decreases-read_kind l = 1000 * length l.earlier.now
