use Rattle.std.proofs.Common.{◌≡◌}
use Rattle.std.specs.List.{find}
use Rattle.id_selector.specs.Choice.{is_free, upwards}
use Rattle.id_selector.proofs.choice.first_up.Given as goal

-- the answer is among the IDs that are left
abbrev pub invariant-loop-id : goal.invariant-loop-id
invariant-loop-id l = find (is_free l.taken) (upwards l.fn.from) ≡ find (is_free l.taken) (upwards l.id)
