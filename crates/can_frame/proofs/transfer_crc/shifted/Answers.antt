use Rattle.std.proofs.Common.{false, nat_eq, ◌/◌, ◌∙◌, arith}
use Rattle.std.proofs.lemmas.Bool.{eq-eqb, ne_eqb}
use Rattle.can_frame.proofs.Long.{xor_false}
use Rattle.can_frame.proofs.Shifts.{next_same, next_other}
use Rattle.can_frame.proofs.transfer_crc.shifted.Goals as goal

pub returns-then-register-eq1 : goal.returns-then-register-eq1
returns-then-register-eq1 c = next_other c.args.register false (omega arith) (xor_false (nat_eq (c.args.register / 32768) 1) ∙ eq-eqb _ _ c.if-register-eq1.true)

pub returns-else-register-eq1 : goal.returns-else-register-eq1
returns-else-register-eq1 c = next_same c.args.register false (omega arith) (xor_false (nat_eq (c.args.register / 32768) 1) ∙ ne_eqb _ _ c.if-register-eq1.false)
