use Rattle.dsdl_text.proofs.Inverse.{read_is_written, written_is_read}
use Rattle.dsdl_text.proofs.laws.a_payload_has_the_bits_of_its_numbers.Goals as goal

pub returns-clause-has : goal.returns-clause-has
returns-clause-has c = λ part payload numbers e. read_is_written part payload numbers e

pub returns-clause-no_others : goal.returns-clause-no_others
returns-clause-no_others c = λ part payload numbers has. written_is_read part payload numbers has
