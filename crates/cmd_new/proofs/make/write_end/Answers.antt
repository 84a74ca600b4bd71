use Rattle.std.proofs.Common.{subst}
use Rattle.cmd_new.specs.Made.{HasLine}
use Rattle.cmd_new.proofs.make.write_end.Goals as goal

pub returns-in-Ok-clause-begun : goal.returns-in-Ok-clause-begun
returns-in-Ok-clause-begun g c = λ e. subst HasLine e c.requires.line

pub returns-in-Ok-clause-memory : goal.returns-in-Ok-clause-memory
returns-in-Ok-clause-memory g c = λ e. subst HasLine e c.requires.line

pub returns-in-Ok-clause-unread : goal.returns-in-Ok-clause-unread
returns-in-Ok-clause-unread g c = λ e. subst HasLine e c.requires.line
