-- A Candidate that counts a quorum leads when a step is over.
use Rattle.std.proofs.Common.{ℕ, List, [], ◌∷◌, refl, subst}
use Rattle.raft_model.specs.Duty.{WinDuty}
use Rattle.raft_model.specs.Messages.{Message}
use Rattle.raft_model.specs.Moves.{Move}
use Rattle.raft_model.specs.Server.{RaftServer}
use Rattle.raft_model.specs.Stops.{AllEnabled, LocalState, state_after_moves, state_after_move}
use Rattle.alloc_spec.specs.Step.{Event, step}
use Rattle.alloc_spec.specs.AllocatorState.{AllocatorState}
use Rattle.alloc_spec_laws.specs.Coming.{IsOfTheMachine, MayStep}
use Rattle.alloc_spec_laws.specs.LawsBelow.{Laws}
use Rattle.alloc_spec_laws.proofs.StepMoves.{of_the_machine, local_state_of}

all_win : (laws : Laws) (members : List ℕ) (me number : ℕ) (bag : List Message) (moves : List Move) (local_state : LocalState)
    → AllEnabled members me number bag local_state moves → WinDuty members local_state.raft_server → WinDuty members (state_after_moves members me number local_state moves).raft_server
all_win laws members me number bag [] local_state come duty = duty
all_win laws members me number bag (move ∷ moves) local_state come duty = all_win laws members me number bag moves (state_after_move members me number local_state move) come.1
    (laws.win_kept members me number bag local_state.called local_state.raft_server move come.0 duty)

pub step_wins : (laws : Laws) (t : AllocatorState) (number : ℕ) (event : Event) (members : List ℕ) (bag : List Message) → MayStep t number event members bag
    → WinDuty members t.raft_server → WinDuty members (step t number event).step_state.allocator.raft_server
step_wins laws t number event members bag may duty =
    subst (λ (p : RaftServer). WinDuty members p) is.leave (all_win laws members t.me number bag (step t number event).step_state.moves (local_state_of t) is.come duty)
  where
    is : IsOfTheMachine members t.me number bag (local_state_of t) (step t number event).step_state
    is = of_the_machine laws t number event members bag may (local_state_of t) (record { raft_server = refl; called = λ peer i. i })
