use Rattle.std.proofs.Common.{◌≡◌, List, ℕ, refl, ap, subst, ◌∙◌}
use Rattle.alloc_handlers.proofs.Words.{IsInStep, StepResult, Took, after_info, delivery_of, hears_info}
use Rattle.dsdl_codec.specs.NodeInfo.{node_info_of}
use Rattle.node_discovery.specs.Stands as watch
use Rattle.alloc_handlers.proofs.Noting.{noted_watch}
use Rattle.alloc_handlers.proofs.Sights.{read_as}
use Rattle.alloc_handlers.proofs.member.Member.hear_info.Goals as goal

pub returns-clause-sees : goal.returns-clause-sees
returns-clause-sees g c start step_state h =
    let t = step_state.allocator in
    let d = delivery_of c.args.response.now in
    let value = c.in-Some.ensures.value ∙ ap (λ (bytes : List ℕ). node_info_of bytes) c.deref.ensures.0 in
    read_as (λ (step_result : StepResult). IsInStep start (record c.args.self.now { watch = c.info.new.self }) step_result.step_state × (Took ≡ step_result.seen)) (hears_info d) _ c.in-Some.info step_state value (
      noted_watch start c.args.self.now step_state h c.info.new.self (after_info t.watch d.ident.source d.id c.in-Some.info.uid t.now)
          (subst (λ (now : ℕ). watch.StandsFor c.info.new.self (after_info t.watch d.ident.source d.id c.in-Some.info.uid now)) h.stands.now
          (c.info.ensures.follows t.watch h.stands.watch)),
      refl,
    )
