-- A pattern that a restart takes is one that a member keeps.
use Rattle.std.proofs.Common.{subst}
use Rattle.disk_model.specs.Pattern.{IsUsable}
use Rattle.outside.specs.declared.pattern.Pattern.{Pattern}
use Rattle.bus_world.specs.Patterns.{IsFilled}

pub filled_from : (pattern : Pattern) → IsUsable pattern → IsFilled pattern
filled_from pattern is bytes same = subst (λ (p : Pattern). IsUsable p) same is
