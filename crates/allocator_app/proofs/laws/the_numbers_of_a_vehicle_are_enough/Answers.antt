use Rattle.std.proofs.Common.{◌≡◌, ℕ, List, [], ◌≢◌, refl, arith}
use Rattle.bus_physics.specs.Physics.{HoldsAreShort}
use Rattle.allocator_app.specs.Told.{list_of}
use Rattle.allocator_app.specs.Vehicle.{vehicle_limits}
use Rattle.allocator_app.specs.declared.told.Told.{Told}
use Rattle.allocator_app.specs.declared.told.Told.TheVariants.{Size, Members}
use Rattle.allocator_app.proofs.laws.the_numbers_of_a_vehicle_are_enough.Goals as goal

enough : (told : Told) → list_of told ≢ [] → HoldsAreShort (vehicle_limits told)
enough (Size size) some = absurd (some refl)
enough (Members members) some = record { round = omega arith; rested = omega arith; joined = omega arith; clock = omega arith }

pub returns : goal.returns
returns c = enough
