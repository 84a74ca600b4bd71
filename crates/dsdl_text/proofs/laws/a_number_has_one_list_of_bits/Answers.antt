use Rattle.dsdl_text.proofs.Inverse.{one_list}
use Rattle.dsdl_text.proofs.laws.a_number_has_one_list_of_bits.Goals as goal

pub returns : goal.returns
returns c = λ a b size e. one_list a b size e
