use Rattle.dsdl_text.proofs.Taking.{one_text}
use Rattle.dsdl_text.proofs.laws.a_text_is_determined_by_its_lines.Goals as goal

pub returns : goal.returns
returns c = one_text
