use Rattle.std.proofs.Common.{refl, ap, subst, ◌∙◌, ◌≡◌, ◌-◌, ◌≤◌, List, ℕ, true, arith, None, nat_le}
use Rattle.alloc_handlers.proofs.Words.{IsInStep, Stat, StepState, with_status, with_transfer}
use Rattle.dsdl_codec.specs.declared.node_status.NodeStatus.{NodeStatus}
use Rattle.dsdl_codec.specs.NodeStatus.{node_status_bytes}
use Rattle.alloc_handlers.proofs.Choosing.{then_}
use Rattle.alloc_handlers.proofs.Noting.{noted_status}
use Rattle.alloc_handlers.proofs.member.Member.tell_status.Goals as goal

passed : (now at : ℕ) → 1000 ≤ now - at → nat_le 1000 (now - at) ≡ true
passed now at h = grind arith

pub returns-clause-step_state : goal.returns-clause-step_state
returns-clause-step_state g c start step_state h =
    let t = step_state.allocator in
    let due : 1000 ≤ t.now - t.status_at = omega (arith, c.if-self-lt-STATUS_INTERVAL.false, h.stands.now, h.stands.status_at) in
    let sent = c.send.ensures.step_state refl None start step_state h in
    let payload = c.write-payload.ensures.bytes ∙ ap (λ (s : NodeStatus). node_status_bytes s) (c.status.ensures.status t h.stands) in
    then_ (λ (x : StepState). IsInStep start (record c.send.new.self { status_at = c.send.new.self.latest }) x) _ _ _ (passed t.now t.status_at due)
    (subst (λ (bytes : List ℕ). IsInStep start (record c.send.new.self { status_at = c.send.new.self.latest }) (with_status (with_transfer c.args.self.now.offered.step Stat 0 bytes None step_state))) payload
    (noted_status start c.send.new.self _ sent c.send.new.self.latest sent.stands.now))
