use Rattle.std.proofs.Common.{◌≡◌, ◌≤◌, ◌-◌, List, ℕ, Some}
use Rattle.can_logs.specs.declared.form.Line.{Line}
use Rattle.cmd_logs.specs.Converted.{converted}
use Rattle.cmd_logs.specs.Walking.{SoFar}
use Rattle.cmd_logs.proofs.conversion.write_frames.Given as goal

-- the frames of the lines so far were written, or wait to be
abbrev pub invariant-lines : goal.invariant-lines
invariant-lines g l =
    let left = g.S.Source.left in
    let written = g.K.Sink.written in
    record {
      form : l.log.form ≡ l.fn.log.form;
      limit : l.log.limit ≡ l.fn.log.limit;
      within : l.log.taken ≤ l.fn.log.limit;
      source_kept : g.S.Source.faults l.source ≡ g.S.Source.faults l.fn.source;
      sink_kept : g.K.Sink.faults l.sink ≡ g.K.Sink.faults l.fn.sink;
      came : (bytes : List ℕ) → left l.fn.source ≡ Some bytes → (lines : List Line)
          × SoFar (converted l.fn.to) l.fn.log.form l.fn.log.limit bytes (written l.fn.sink) lines l.log.taken l.log.input (left l.source) (written l.sink) l.output;
    }

abbrev pub decreases-lines : goal.decreases-lines
decreases-lines g l = l.fn.log.limit - l.log.taken
