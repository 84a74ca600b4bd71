use Rattle.std.proofs.Common.{◌≡◌, ◌≤◌, ◌-◌, List, ℕ, Some}
use Rattle.can_logs.specs.declared.form.Line.{Line}
use Rattle.cmd_logs.specs.Walking.{SoFar}
use Rattle.cmd_logs.specs.Watched.{unwatched, watched}
use Rattle.cmd_logs.specs.Watching.{HasWatch, watch_accept, watch_behind}
use Rattle.cmd_logs.proofs.watching.list_transfers.Given as goal

-- the receivers stand behind the lines so far, and the transfers of these were written, or wait to be
abbrev pub invariant-lines : goal.invariant-lines
invariant-lines g l =
    let left = g.S.Source.left in
    let written = g.K.Sink.written in
    record {
      form : l.log.form ≡ l.fn.log.form;
      limit : l.log.limit ≡ l.fn.log.limit;
      within : l.log.taken ≤ l.fn.log.limit;
      accept : watch_accept l.receivers ≡ watch_accept l.fn.receivers;
      source_kept : g.S.Source.faults l.source ≡ g.S.Source.faults l.fn.source;
      sink_kept : g.K.Sink.faults l.sink ≡ g.K.Sink.faults l.fn.sink;
      came : (ids bytes : List ℕ) → HasWatch l.fn.receivers ids unwatched → left l.fn.source ≡ Some bytes → (lines : List Line)
          × HasWatch l.receivers ids (watch_behind ids unwatched lines)
          × SoFar (watched ids) l.fn.log.form l.fn.log.limit bytes (written l.fn.sink) lines l.log.taken l.log.input (left l.source) (written l.sink) l.output;
    }

abbrev pub decreases-lines : goal.decreases-lines
decreases-lines g l = l.fn.log.limit - l.log.taken
