use Rattle.std.proofs.Common.{◌≡◌, ◌≤◌, ◌<◌, ◌⊎◌, length}
use Rattle.bus_world.specs.World.{AcceptsAs, rows_taken}
use Rattle.cmd_io.specs.Output.{Grows}
use Rattle.allocator_app.specs.Reaching.{HasRoom, Reaches}
use Rattle.allocator_app.proofs.Rest.{TakesSome}
use Rattle.allocator_app.proofs.replay.take_rows.Given as goal

-- some rows were taken, and what they tell was written or waits to be
abbrev pub invariant-rows : goal.invariant-rows
invariant-rows g l =
    let written = g.K.Sink.written in
    let faults = g.K.Sink.faults in
    record {
      room : HasRoom l.fn.limit l.world;
      accepts : AcceptsAs l.world l.fn.world;
      kept : faults l.sink ≡ faults l.fn.sink;
      grows : rows_taken l.fn.world ≤ rows_taken l.world;
      shorter : length l.input ≤ length l.fn.input;
      some : (rows_taken l.fn.world < rows_taken l.world) ⊎ (l.input ≡ l.fn.input);
      grew : Grows (written l.fn.sink) (written l.sink);
      came : Reaches l.fn.world l.world (λ first now.
          TakesSome first now l.fn.input l.input (written l.fn.sink) l.fn.output (written l.sink) l.output);
    }

abbrev pub decreases-rows : goal.decreases-rows
decreases-rows g l = length l.input
