use Rattle.std.proofs.Common.{◌≡◌, ◌∙◌, ap, refl, sym, true, false}
use Rattle.std.specs.Prelude.{Err, Ok, Result}
use Rattle.disk_model.specs.declared.calls.Calls.{Calls}
use Rattle.kv_store.specs.declared.fault.Fault.{Fault}
use Rattle.alloc_spec.specs.declared.event.Outcome.{Outcome}
use Rattle.alloc_spec.specs.StepState.{listing_of}
use Rattle.alloc_spec.specs.Step.{step as step_of}
use Rattle.alloc_spec.specs.AllocatorState.{view_of}
use Rattle.alloc_server.specs.Server.{event_of, fault_of}
use Rattle.bus_world.proofs.Advancing.{again_by, all_put, cut_after, failure_after, not_all_put, same_stopped, told_same, up_after}
use Rattle.bus_world.proofs.steps.advance.Goals as goal

abbrev outcome_of : Result Outcome Fault → Result Outcome Fault
outcome_of result = result

pub returns-in-Ok-clause-finished : goal.returns-in-Ok-clause-finished
returns-in-Ok-clause-finished g c = λ t key_disk up done.
    let step_result = step_of t c.args.number (event_of c.args.event) in
    let does = c.in-Ok.ensures.steps t up.stands in (
      c.told_of_step.ensures ∙ told_same c.args.n c.view.result (view_of step_result.step_state.allocator) c.in-Ok.outcome.seen step_result.seen c.in-Ok.outcome.sent.items (listing_of step_result.step_state)
          (c.view.ensures.stands step_result.step_state.allocator does.stands) does.tells.seen does.tells.sent,
      up_after c.args.server.now c.step.new.self c.a_member_on_the_disk_by_states.ensures.puts t key_disk up step_result c.in-Ok.outcome does,
    )

pub returns-in-Ok-clause-cut : goal.returns-in-Ok-clause-cut
returns-in-Ok-clause-cut g c = λ t key_disk up cut.
    absurd (all_put c.args.server.now c.step.new.self c.a_member_on_the_disk_by_states.ensures.puts t key_disk up (step_of t c.args.number (event_of c.args.event))
    c.in-Ok.outcome (c.in-Ok.ensures.steps t up.stands) cut)

pub returns-in-Ok-clause-again : goal.returns-in-Ok-clause-again
returns-in-Ok-clause-again g c = λ key_disk failed.
    let same = again_by (λ (why : Fault). (outcome_of (Ok c.in-Ok.outcome) ≡ Err why) × (c.step.new.self ≡ c.args.server.now)) (fault_of c.args.server.now) failed.closed.closed c.in-Ok.ensures.again in
    let no_fault : outcome_of (Ok c.in-Ok.outcome) ≡ Err same.0 = same.1.0 in
    absurd (cc (no_fault))

pub returns-then-stopped-clause-finished : goal.returns-then-stopped-clause-finished
returns-then-stopped-clause-finished g c = λ t key_disk up done.
    absurd (not_all_put c.args.server.now c.step.new.self c.a_member_on_the_disk_by_states.ensures.puts t key_disk up (step_of t c.args.number (event_of c.args.event))
    c.in-Err.field-0 (c.in-Err.ensures.steps t up.stands) done)

pub returns-then-stopped-clause-cut : goal.returns-then-stopped-clause-cut
returns-then-stopped-clause-cut g c = λ t key_disk up cut.
    let step_result = step_of t c.args.number (event_of c.args.event) in (
      failure_after c.args.server.now c.step.new.self c.a_member_on_the_disk_by_states.ensures.puts t key_disk up step_result c.in-Err.field-0 c.args.n true
          (c.in-Err.ensures.steps t up.stands) (sym c.stopped.ensures ∙ c.if-stopped.true),
      cut_after c.args.server.now c.step.new.self c.a_member_on_the_disk_by_states.ensures.puts t key_disk up step_result c.in-Err.field-0
          (c.in-Err.ensures.steps t up.stands) c.in-Err.ensures.failed,
    )

pub returns-then-stopped-clause-again : goal.returns-then-stopped-clause-again
returns-then-stopped-clause-again g c = λ key_disk failed.
    let same = again_by (λ (why : Fault). (outcome_of (Err c.in-Err.field-0) ≡ Err why) × (c.step.new.self ≡ c.args.server.now)) (fault_of c.args.server.now) failed.closed.closed c.in-Err.ensures.again in
    let runs : c.stopped.result ≡ false = c.stopped.ensures ∙ (same_stopped c.step.new.self c.args.server.now same.1.1 ∙ (ap (λ (calls : Calls). calls.stopped) failed.closed.on.on.calls ∙ failed.runs)) in
    let stopped : c.stopped.result ≡ true = c.if-stopped.true in
    absurd (cc (runs, stopped))

pub returns-else-stopped-clause-finished : goal.returns-else-stopped-clause-finished
returns-else-stopped-clause-finished g c = λ t key_disk up done.
    absurd (not_all_put c.args.server.now c.step.new.self c.a_member_on_the_disk_by_states.ensures.puts t key_disk up (step_of t c.args.number (event_of c.args.event))
    c.in-Err.field-0 (c.in-Err.ensures.steps t up.stands) done)

pub returns-else-stopped-clause-cut : goal.returns-else-stopped-clause-cut
returns-else-stopped-clause-cut g c = λ t key_disk up cut.
    let step_result = step_of t c.args.number (event_of c.args.event) in (
      failure_after c.args.server.now c.step.new.self c.a_member_on_the_disk_by_states.ensures.puts t key_disk up step_result c.in-Err.field-0 c.args.n false
          (c.in-Err.ensures.steps t up.stands) (sym c.stopped.ensures ∙ c.if-stopped.false),
      cut_after c.args.server.now c.step.new.self c.a_member_on_the_disk_by_states.ensures.puts t key_disk up step_result c.in-Err.field-0
          (c.in-Err.ensures.steps t up.stands) c.in-Err.ensures.failed,
    )

pub returns-else-stopped-clause-again : goal.returns-else-stopped-clause-again
returns-else-stopped-clause-again g c = λ key_disk failed.
    let same = again_by (λ (why : Fault). (outcome_of (Err c.in-Err.field-0) ≡ Err why) × (c.step.new.self ≡ c.args.server.now)) (fault_of c.args.server.now) failed.closed.closed c.in-Err.ensures.again in
    (refl, same.1.1)
