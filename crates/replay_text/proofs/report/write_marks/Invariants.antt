use Rattle.std.proofs.Common.{◌≡◌, ◌≤◌, ◌+◌, ◌*◌, ◌++◌, length, take}
use Rattle.std.specs.List.{flat_map}
use Rattle.replay_text.specs.Report.{sent_mark}
use Rattle.replay_text.proofs.report.write_marks.Given as goal

abbrev pub invariant-loop-transfer : goal.invariant-loop-transfer
invariant-loop-transfer l = record {
  text : l.line ≡ l.fn.line ++ flat_map sent_mark (take l.transfer-index l.sent);
  len : length l.line ≤ length l.fn.line + 11 * l.transfer-index;
}
