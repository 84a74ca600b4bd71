use Rattle.std.proofs.Common.{◌≡◌, length, drop}
use Rattle.can_frame.specs.Sizes.{node_ids}
use Rattle.newcomer_link.specs.Standing.{without_logged}
use Rattle.newcomer_link.proofs.newcomers.forget_logged.Given as goal

abbrev pub invariant-loop-entry : goal.invariant-loop-entry
invariant-loop-entry l = record {
  all : length l.heard ≡ node_ids;
  rest : without_logged (drop l.entry-index l.log) l.heard ≡ without_logged l.log l.fn.heard;
}
