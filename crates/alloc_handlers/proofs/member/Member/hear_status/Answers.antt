use Rattle.std.proofs.Common.{◌≡◌, List, ℕ, refl, ap, subst, ◌∙◌}
use Rattle.alloc_handlers.proofs.Words.{IsInStep, StepResult, Took, after_status, delivery_of, hears_status}
use Rattle.dsdl_codec.specs.NodeStatus.{node_status_of}
use Rattle.node_discovery.specs.Stands as watch
use Rattle.alloc_handlers.proofs.Noting.{noted_watch}
use Rattle.alloc_handlers.proofs.Sights.{read_as}
use Rattle.alloc_handlers.proofs.member.Member.hear_status.Goals as goal

pub returns-clause-sees : goal.returns-clause-sees
returns-clause-sees g c start step_state h =
    let t = step_state.allocator in
    let d = delivery_of c.args.transfer.now in
    let value = c.in-Some.ensures.value ∙ ap (λ (bytes : List ℕ). node_status_of bytes) c.deref.ensures.0 in
    read_as (λ (step_result : StepResult). IsInStep start (record c.args.self.now { watch = c.status.new.self }) step_result.step_state × (Took ≡ step_result.seen)) (λ told. hears_status d) _ _ step_state value (
      noted_watch start c.args.self.now step_state h c.status.new.self (after_status t.watch d.ident.source t.now)
          (subst (λ (now : ℕ). watch.StandsFor c.status.new.self (after_status t.watch d.ident.source now)) h.stands.now
          (c.status.ensures t.watch h.stands.watch)),
      refl,
    )
