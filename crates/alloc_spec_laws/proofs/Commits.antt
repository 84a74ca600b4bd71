-- A leader's commit in a step, counted over all members.
use Rattle.std.proofs.Common.{◌≡◌, ◌≢◌, ℕ, List, refl, subst}
use Rattle.std.specs.Prelude.{⊤}
use Rattle.raft_model.specs.Duty.{CommitDuty}
use Rattle.raft_model.specs.Messages.{Message}
use Rattle.raft_model.specs.Server.{Role}
use Rattle.raft_model.specs.Server.Role.{Follower, Leader}
use Rattle.alloc_spec.specs.Step.{Event}
use Rattle.alloc_spec.specs.AllocatorState.{AllocatorState, members_of}
use Rattle.alloc_spec_laws.specs.Coming.{MayStep}
use Rattle.alloc_spec_laws.specs.Phases.{when_committed, when_seen}
use Rattle.alloc_spec_laws.specs.LawsBelow.{Laws}
use Rattle.alloc_spec_laws.proofs.StepDuties.{commits}
use Rattle.alloc_spec_laws.proofs.Ranges.{me_when_seen}
use Rattle.alloc_spec_laws.proofs.MachineSteps.{Steady}
use Rattle.alloc_spec_laws.proofs.StepMoves.{event_sure, local_state_of}

no_follower : (role : Role) → role ≡ Leader → role ≢ Follower
no_follower role leads follows = absurd (cc (leads, follows))

pub step_commits : (laws : Laws)
    → (t : AllocatorState) (number : ℕ) (event : Event) (members : List ℕ) (bag : List Message) → MayStep t number event members bag
    → (when_seen t number event).allocator.raft_server.memory.role ≡ Leader
    → CommitDuty members t.me (when_seen t number event).allocator.raft_server (when_committed t number event).allocator.raft_server
step_commits laws t number event members bag may leads =
    subst (λ (me : ℕ). CommitDuty members me (when_seen t number event).allocator.raft_server (when_committed t number event).allocator.raft_server)
    (me_when_seen t number event)
    (commits laws (members_of (when_seen t number event).allocator) members (when_seen t number event).allocator.me number (when_seen t number event).allocator.raft_server
    (sure.1 (no_follower (when_seen t number event).allocator.raft_server.memory.role leads)).all leads)
  where
    sure : Steady members number bag (local_state_of t) (λ peer. ⊤) (when_seen t number event)
    sure = event_sure laws t number event members bag (local_state_of t) may
        (record { raft_server = refl; called = λ peer i. i })
