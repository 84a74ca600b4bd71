use Rattle.cmd_soak.proofs.Leading.{soaked_led}
use Rattle.cmd_soak.proofs.Members.{are_members}
use Rattle.cmd_soak.proofs.laws.rows_are_lawful.Goals as goal

pub returns-clause-members : goal.returns-clause-members
returns-clause-members c = are_members

pub returns-clause-rows : goal.returns-clause-rows
returns-clause-rows c = soaked_led
