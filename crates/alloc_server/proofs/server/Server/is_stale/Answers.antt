use Rattle.std.proofs.Common.{◌≤◌, None, refl, sym, ◌∙◌, arith}
use Rattle.raft_log.specs.DurableViews.{durable_state}
use Rattle.transfer_rx.specs.Heard.{delivery_with}
use Rattle.alloc_spec.specs.AllocatorState.{members_of}
use Rattle.alloc_server.proofs.Verdicts.{misses_as, stale_as}
use Rattle.alloc_server.proofs.server.Server.is_stale.Goals as goal

pub returns-in-Some : goal.returns-in-Some
returns-in-Some g c t h payload =
    let d = delivery_with c.args.heading.now payload in
    let device : c.args.heading.now.ident.source ≤ 125 = omega arith in
    let p = c.in-Some.ensures.some (members_of t) (durable_state c.args.self.now.member.durable) t.raft_server t.times h.member.raft in
    stale_as t d c.args.now _ (sym c.is_response.ensures ∙ c.if-not-is_response.false) device
    (c.misses.ensures p.0 p.1 p.4 payload ∙ misses_as d c.args.now _ _ _ _ p.2 p.3)

pub returns-in-None : goal.returns-in-None
returns-in-None g c t h payload =
    let d = delivery_with c.args.heading.now payload in
    let device : c.args.heading.now.ident.source ≤ 125 = omega arith in
    let none = c.in-None.ensures.none refl (members_of t) (durable_state c.args.self.now.member.durable) t.raft_server t.times h.member.raft in
    stale_as t d c.args.now _ (sym c.is_response.ensures ∙ c.if-not-is_response.false) device
    (misses_as d c.args.now _ None _ _ none refl)
