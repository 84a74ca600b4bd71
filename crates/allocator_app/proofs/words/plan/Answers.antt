use Rattle.std.proofs.Common.{refl}
use Rattle.allocator_app.proofs.OnePlan.{unplanned}
use Rattle.allocator_app.proofs.words.plan.Goals as goal

pub returns-clause-none : goal.returns-clause-none
returns-clause-none c = λ none plan is.
    unplanned _ (c.in_default.ensures.none refl) (c.in_default-node_plan.ensures.none refl) (c.in_default-soak_plan.ensures.none refl)
    (c.in_default-new_plan.ensures.none refl) (c.in_default-replace_plan.ensures.none refl) (c.in_default-audit_plan.ensures.none refl) (c.in_default-watch_plan.ensures.none refl) (c.in_default-convert_plan.ensures.none refl)
    (c.decode_plan.ensures.none none) plan is
