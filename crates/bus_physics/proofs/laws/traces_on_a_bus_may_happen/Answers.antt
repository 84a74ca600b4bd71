use Rattle.std.proofs.Common.{◌<◌, arith, refl, inl, inr}
use Rattle.std.specs.Prelude.{[], ◌∷◌, ◌++◌}
use Rattle.bus_physics.specs.Physics.{lag}
use Rattle.bus_physics.specs.Processes.{after_events}
use Rattle.bus_physics.specs.Schedule.{lately}
use Rattle.bus_physics.proofs.Scheduled.{DeviceLaw, StaleLaw, TornLaw, all_apart, heard_in_order, short_lately, stale_member}
use Rattle.bus_physics.proofs.Traced.{traced}
use Rattle.bus_physics.proofs.laws.traces_on_a_bus_may_happen.Goals as goal

pub returns-clause-may : goal.returns-clause-may
returns-clause-may c = λ limits ids past trace earlier all members enough was lawful times_before rows happen may.
    let sane : lag limits < 58000 = omega (arith, enough.clock) in
    let sane_too : limits.drift < 58000 = omega (arith, enough.clock) in
    let device : DeviceLaw limits ids = λ before now a k ms word row lawful hears e.
    c.a_device_puts_nothing_together_of_two.ensures (lately limits now.at) ids before now a k ms word members sane_too (omega arith) row lawful hears.comes hears.slow e in
    let torn : TornLaw limits ids = λ before now n k ms row lawful hears e.
    c.a_member_puts_nothing_together_of_two.ensures (lately limits now.at) ids before now n k ms members sane (omega arith) row lawful hears.comes hears.clock (heard_in_order (lately limits now.at) ids (before ++ now ∷ []) before n k ms hears.orders e) hears.order
    (all_apart (lately limits now.at) ids before now n hears.apart (λ what kind. c.calls_come_apart.ensures (lately limits now.at) ids before now n what members (short_lately limits now.at enough) lawful hears.fast
    hears.rests (heard_in_order (lately limits now.at) ids (before ++ now ∷ []) before n k ms hears.orders e) kind)) e in
    let stale : StaleLaw limits ids = λ before now n k ms row lawful hears e.
    c.no_response_outlives_its_transfer_id.ensures (lately limits now.at) ids before now n k ms members (short_lately limits now.at enough) (omega arith) row lawful hears.comes hears.clock
    (hears.fast n (stale_member limits ids before n k ms e)) hears.orders hears.order (hears.rests n (stale_member limits ids before n k ms e)) e in
    traced limits ids device torn stale (λ done so_far. c.traces_do_no_harm.ensures.rows ids done so_far) trace past earlier all (after_events ids past) refl
    was lawful times_before rows happen may

pub returns-clause-headline : goal.returns-clause-headline
returns-clause-headline c = λ limits ids past trace earlier all members enough was lawful times_before rows happen may.
    elim (returns-clause-may c limits ids past trace earlier all members enough was lawful times_before rows happen may) [
      | inl all ↦ inl (c.traces_do_no_harm.ensures.headline ids (past ++ trace) members all)
      | inr loses ↦ inr loses
    ]
