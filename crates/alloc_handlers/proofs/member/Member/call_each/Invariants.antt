use Rattle.std.proofs.Common.{drop, ◌≡◌}
use Rattle.alloc_handlers.proofs.Words.{Durable, IsInStep, StepState, calls_all}
use Rattle.alloc_handlers.specs.Stands.{Leaves}
use Rattle.alloc_handlers.proofs.member.Member.call_each.Given as goal

-- what the calls to the other peers make of the step by now is what all calls make of it
abbrev pub invariant-loop-peer : goal.invariant-loop-peer
invariant-loop-peer g l = record {
  step_state : (start : Durable g.row.D.Denot g.D.Disk) (begun : StepState) → IsInStep start l.fn.self begun →
      (h : StepState) × IsInStep start l.self h × (calls_all l.fn.self.offered.step (drop l.peer-index l.peers) h ≡ calls_all l.fn.self.offered.step l.peers begun);
  leaves : Leaves l.peer-index 0 l.fn.self l.self;
}
