use Rattle.std.proofs.Common.{◌≡◌, ◌≤◌, ◌<◌, ◌+◌, ◌-◌, ◌*◌, ◌⊎◌, List, ℕ, [], Some, None, length}
use Rattle.bus_world.specs.World.{AcceptsAs, rows_taken}
use Rattle.replay_text.specs.Lines.{after_line}
use Rattle.allocator_app.specs.InPart.{HasRead}
use Rattle.cmd_io.specs.Output.{Grows}
use Rattle.allocator_app.specs.Reaching.{HasRoom, Reaches}
use Rattle.allocator_app.proofs.replay.read_rows.Given as goal

-- all that the rows so far tell was written, and the beginning of a line waits, where another row may come
abbrev pub invariant-reading : goal.invariant-reading
invariant-reading g l =
    let left = g.S.Source.left in
    let written = g.K.Sink.written in
    record {
      room : HasRoom l.fn.limit l.world;
      accepts : AcceptsAs l.world l.fn.world;
      flushed : l.output ≡ [];
      short : length l.input ≤ 120;
      unended : after_line l.input ≡ None;
      another : (l.input ≡ []) ⊎ (rows_taken l.world < l.fn.limit);
      source_kept : g.S.Source.faults l.source ≡ g.S.Source.faults l.fn.source;
      sink_kept : g.K.Sink.faults l.sink ≡ g.K.Sink.faults l.fn.sink;
      grew : Grows (written l.fn.sink) (written l.sink);
      told : (bytes : List ℕ) → left l.fn.source ≡ Some bytes → Reaches l.fn.world l.world (λ first now.
          HasRead first now bytes l.input (left l.source) (written l.fn.sink) (written l.sink));
    }

-- each row has at most 121 bytes with its line feed, and each read brings one byte at least
abbrev pub decreases-reading : goal.decreases-reading
decreases-reading g l = (l.fn.limit - rows_taken l.world) * 122 + (121 - length l.input)
