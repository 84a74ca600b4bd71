-- The exit code of each status.
use Rattle.std.specs.Prelude.{ℕ}
use Rattle.cmd_io.specs.declared.status.Status.{Status}
use Rattle.cmd_io.specs.declared.status.Status.TheVariants.{Done, Usage, BadRow, Unlawful, ReadFault, WriteFault, Memory, Limit, LinkFault, DiskFault, Damaged, NoLeader, Uncommitted, Differ, AnotherLog, NoPart, NoValue}

abbrev pub status_code : Status → ℕ
status_code Done = 0
status_code Usage = 2
status_code (BadRow row) = 3
status_code (Unlawful row number) = 4
status_code ReadFault = 5
status_code WriteFault = 6
status_code Memory = 7
status_code (Limit row) = 8
status_code (LinkFault id) = 9
status_code (DiskFault id) = 10
status_code (Damaged id key) = 11
status_code NoLeader = 13
status_code (Uncommitted id) = 13
status_code (Differ index first second) = 14
status_code NoPart = 15
status_code NoValue = 16
status_code (AnotherLog id node) = 19
