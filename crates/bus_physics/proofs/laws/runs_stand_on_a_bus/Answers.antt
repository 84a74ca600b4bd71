use Rattle.std.proofs.Common.{List, inl, inr, subst, sym}
use Rattle.bus_spec.specs.Cluster.{cluster}
use Rattle.cmd_node_laws.specs.Traces.{Event, MayAllHappen}
use Rattle.bus_physics.proofs.laws.runs_stand_on_a_bus.Goals as goal

pub returns : goal.returns
returns c = λ rules mine limits earlier timed ids before during given to is.
    elim (c.traces_on_a_bus_may_happen.ensures.may limits ids is.past is.rest earlier timed is.members is.short is.was is.lawful is.times_before is.times is.happens is.may) [
      | inl may ↦ inl (is.stands (subst (λ (l : List Event). MayAllHappen l (cluster ids)) (sym is.split) may))
      | inr loses ↦ inr loses
    ]
