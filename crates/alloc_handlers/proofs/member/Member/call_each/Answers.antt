use Rattle.std.proofs.Common.{ℕ, ◌<◌, ◌≤◌, List, length, get_or, sym, ap, subst, ◌∙◌, arith, drop_of_length-le}
use Rattle.alloc_handlers.proofs.Words.{IsInStep, StepState, calls_all, calls_peer}
use Rattle.alloc_handlers.proofs.Peers.{next_peer}
use Rattle.alloc_handlers.proofs.member.Member.call_each.Goals as goal

pub loop-peer-preserved : goal.loop-peer-preserved
loop-peer-preserved g c =
    let s = c.args.self.now.offered.step in
    let peers = c.args.peers.now in
    let i = c.loop-peer.peer-index in
    let peer = get_or peers i 0 in
    let below : i < length peers = omega arith in
    record {
      step_state = λ start begun h.
          let by = c.loop-peer.invariant.step_state start begun h in (
            calls_peer s peer by.0,
            subst (λ (n : ℕ). IsInStep start c.call.new.self (calls_peer n peer by.0)) c.loop-peer.invariant.leaves.lists.step (c.call.ensures.step_state start by.0 by.1),
            next_peer s peers i by.0 begun below by.2,
          );
      leaves = record {
        ready = c.call.ensures.leaves.ready;
        lists = record {
          step = c.call.ensures.leaves.lists.step ∙ c.loop-peer.invariant.leaves.lists.step;
          sent_most = omega (arith, c.call.ensures.leaves.lists.sent_most, c.loop-peer.invariant.leaves.lists.sent_most);
          given_most = omega (arith, c.call.ensures.leaves.lists.given_most, c.loop-peer.invariant.leaves.lists.given_most);
        };
        durable = c.call.ensures.leaves.durable ∙ c.loop-peer.invariant.leaves.durable;
      };
    }

pub returns-clause-step_state : goal.returns-clause-step_state
returns-clause-step_state g c start begun h =
    let by = c.loop-peer.invariant.step_state start begun h in
    let over : length c.args.peers.now ≤ c.loop-peer.peer-index = omega arith in
    subst (λ (x : StepState). IsInStep start c.loop-peer.self x)
    (sym (ap (λ (list : List ℕ). calls_all c.args.self.now.offered.step list by.0) (drop_of_length-le c.args.peers.now over)) ∙ by.2) by.1

pub returns-clause-leaves : goal.returns-clause-leaves
returns-clause-leaves g c =
    let left = c.loop-peer.invariant.leaves in
    record {
      ready = left.ready;
      lists = record {
        step = left.lists.step;
        sent_most = omega (arith, left.lists.sent_most);
        given_most = left.lists.given_most;
      };
      durable = left.durable;
    }
