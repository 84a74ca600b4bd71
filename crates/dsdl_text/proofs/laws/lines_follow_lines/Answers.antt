use Rattle.dsdl_text.proofs.Taking.{lines_joined, lines_split}
use Rattle.dsdl_text.proofs.laws.lines_follow_lines.Goals as goal

pub returns-clause-joined : goal.returns-clause-joined
returns-clause-joined c = lines_joined

pub returns-clause-split : goal.returns-clause-split
returns-clause-split c = lines_split
