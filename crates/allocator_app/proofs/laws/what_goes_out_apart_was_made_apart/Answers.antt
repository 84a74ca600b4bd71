use Rattle.std.proofs.Common.{◌≡◌, ◌≤◌, ◌+◌, ◌-◌, ℕ, List, inl, inr, arith}
use Rattle.std.proofs.lemmas.Bool.Decides.{leb_tells}
use Rattle.bus_physics.specs.Physics.{AreApart, joining_span}
use Rattle.spaced_link.specs.Spacing.{between_uses}
use Rattle.allocator_app.specs.Vehicle.{GoneOut, KeepsPace, vehicle_limits}
use Rattle.allocator_app.specs.declared.told.Told.{Told}
use Rattle.allocator_app.proofs.laws.what_goes_out_apart_was_made_apart.Goals as goal

apart : (told : Told) (x y : GoneOut) → KeepsPace x y → x.reading + between_uses ≤ y.reading →
    AreApart (joining_span (vehicle_limits told) (vehicle_limits told).drift) x.made y.made
apart told x y pace far =
    let behind = pace.0 in
    let after = x.after in
    let soon = y.soon in
    elim (leb_tells y.out (x.out + 60000)) [
      | inl t ↦ let kept = pace.1 t.1 in inl (omega (arith, behind, after, soon, far, kept))
      | inr t ↦ let late = t.1 in inl (omega (arith, after, soon, late))
    ]

pub returns : goal.returns
returns c = apart
