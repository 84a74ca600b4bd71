-- Every server of every run is fit, and no Candidate counts a quorum.
use Rattle.std.proofs.Common.{◌≡◌, ℕ, List, [], ◌∷◌, refl, ◌∙◌, subst}
use Rattle.raft_model.specs.Messages.{Message}
use Rattle.raft_model.specs.Server.{Store, RaftServer, memory_when_down, memory_when_opened}
use Rattle.raft_model.specs.Moves.{Move}
use Rattle.raft_model.specs.Stops.{LocalState, state_after_move, state_after_moves, AllEnabled}
use Rattle.raft_model.specs.Runs.{World, Event, initial_world, local_state_of, after, MayOccur, run, Lawful}
use Rattle.raft_model.specs.Runs.Event.{Opens, Steps, Stops, StopsWithin}
use Rattle.raft_model.specs.Duty.{WinDuty}
use Rattle.raft_model.specs.Fit.{IsFit}
use Rattle.raft_model.proofs.At.{at_each}
use Rattle.raft_model.proofs.Duty.{win_duty}
use Rattle.raft_model.proofs.Fit.{fit_after, opens_fit, loses_fit}

pub record IsFinished (members : List ℕ) (member : ℕ) (server : RaftServer) : Type 0 where
  pub fit : IsFit member server
  pub wins : WinDuty members server

opens : (members : List ℕ) (member : ℕ) (store : Store) → IsFinished members member (record { store = store; memory = memory_when_opened })
opens members member store = record { fit = opens_fit member store; wins = λ e. absurd (cc) }

loses : (members : List ℕ) (member : ℕ) (store : Store) → IsFinished members member (record { store = store; memory = memory_when_down })
loses members member store = record { fit = loses_fit member store; wins = λ e. absurd (cc) }

moves_finish : (members : List ℕ) (member step : ℕ) (bag : List Message) (moves : List Move) (local_state : LocalState)
    → AllEnabled members member step bag local_state moves →
    IsFinished members member local_state.raft_server → IsFinished members member (state_after_moves members member step local_state moves).raft_server
moves_finish members member step bag [] local_state come before = before
moves_finish members member step bag (move ∷ moves) local_state come before =
    moves_finish members member step bag moves (state_after_move members member step local_state move) come.1 (record {
      fit = fit_after members member step bag local_state.called local_state.raft_server move come.0 before.fit;
      wins = win_duty members member step bag local_state.called local_state.raft_server move come.0 before.wins;
    })

abbrev AllFinished : World → Type 0
AllFinished world = (member : ℕ) → IsFinished world.members member (world.server member)

event_finishes : (world : World) (event : Event) → MayOccur world event → AllFinished world → AllFinished (after world event)
event_finishes world (Opens member) may before = at_each (IsFinished world.members) world.server member _
    (opens world.members member (world.server member).store) (λ i n. before i)
event_finishes world (Steps member step moves fitted) may before =
    at_each (IsFinished world.members) world.server member _
    (moves_finish world.members member step world.bag moves (local_state_of world member) may.2 (before member)) (λ i n. before i)
event_finishes world (Stops member step moves) may before = at_each (IsFinished world.members) world.server member _
    (loses world.members member _) (λ i n. before i)
event_finishes world (StopsWithin member step moves next count) may before = at_each (IsFinished world.members) world.server member _
    (loses world.members member _) (λ i n. before i)

run_finishes : (world : World) (events : List Event) → Lawful world events → AllFinished world → AllFinished (run world events)
run_finishes world [] lawful before = before
run_finishes world (event ∷ events) lawful before = run_finishes (after world event) events lawful.1
    (event_finishes world event lawful.0 before)

pub run_fit : (members : List ℕ) (events : List Event) (member : ℕ) → Lawful (initial_world members) events
    → IsFit member ((run (initial_world members) events).server member)
run_fit members events member lawful = (run_finishes (initial_world members) events lawful (λ i. loses members i _) member).fit

after_members : (world : World) (event : Event) → (after world event).members ≡ world.members
after_members world (Opens member) = refl
after_members world (Steps member step moves fitted) = refl
after_members world (Stops member step moves) = refl
after_members world (StopsWithin member step moves next count) = refl

run_members : (world : World) (events : List Event) → (run world events).members ≡ world.members
run_members world [] = refl
run_members world (event ∷ events) = run_members (after world event) events ∙ after_members world event

pub run_wins : (members : List ℕ) (events : List Event) (member : ℕ) → Lawful (initial_world members) events
    → WinDuty members ((run (initial_world members) events).server member)
run_wins members events member lawful =
    subst (λ (all : List ℕ). WinDuty all ((run (initial_world members) events).server member)) (run_members (initial_world members) events)
    ((run_finishes (initial_world members) events lawful (λ i. loses members i _) member).wins)
