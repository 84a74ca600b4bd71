use Rattle.dsdl_text.specs.Words.{words}
use Rattle.dsdl_text.proofs.OneLine.{one_line}
use Rattle.dsdl_text.proofs.laws.a_line_has_one_value.Goals as goal

pub returns : goal.returns
returns c = λ a b bytes x y. one_line a b (words bytes) x y
