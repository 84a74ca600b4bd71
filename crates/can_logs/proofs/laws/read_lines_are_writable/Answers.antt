use Rattle.can_logs.proofs.Written.{read_writable}
use Rattle.can_logs.proofs.laws.read_lines_are_writable.Goals as goal

pub returns : goal.returns
returns c = read_writable
