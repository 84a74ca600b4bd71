-- The laws of the crates below that the laws of a step stand on, as their contracts say them.
use Rattle.std.proofs.Common.{◌≡◌, ◌≢◌, ℕ, ◌<◌, Bool, true, List, [], ◌∷◌, ◌++◌}
use Rattle.can_frame.specs.declared.entry.Entry.{Entry}
use Rattle.can_frame.specs.Log.{HasNodeId, HasUid, IsBlank, IsInjective, IsPair, IsReservation}
use Rattle.cluster_discovery.specs.Members.{Event, Start, is_complete}
use Rattle.cluster_discovery.specs.Members as cluster
use Rattle.cluster_discovery.specs.Members.Event.{Heard}
use Rattle.dsdl_codec.specs.declared.discovery.Discovery.{Discovery}
use Rattle.id_selector.specs.Choice.{IsChoice, chosen}
use Rattle.raft_core.specs.Handled.{puts_with_origins}
use Rattle.raft_core.specs.StoredPuts.{PutWithOrigin, puts_alone}
use Rattle.raft_core.specs.Times.{HandedIn}
use Rattle.raft_model.specs.Decisions.{commit_index, grants, verdict_on}
use Rattle.raft_model.specs.Duty.{CommitDuty, TellDuty, TickDuty, WinDuty, commit_phase, tell_phase, tick_phase}
use Rattle.raft_model.specs.Fit.{IsFit}
use Rattle.raft_model.specs.Handlers.{calls_of_all, offers_of_all, server_after, server_after_all, puts_of_all}
use Rattle.raft_model.specs.Lists.{how_many}
use Rattle.raft_model.specs.Members.{IsAll, KnowsEnough}
use Rattle.raft_model.specs.Messages.{Message, Request}
use Rattle.raft_model.specs.Moves.{IsEnabled, Move}
use Rattle.raft_model.specs.Moves.Appending.{IsJudged}
use Rattle.raft_model.specs.Moves.Elections.{IsGranted, term_limit}
use Rattle.raft_model.specs.Server.{RaftServer, Store, memory_when_opened}
use Rattle.raft_model.specs.Server.Role.{Leader}
use Rattle.raft_model.specs.Stops.{AllEnabled, LocalState, state_after_moves}

pub record Laws : Type 0 where
  -- logs, choices and lists
  pub blank_keeps : (log : List Entry) (entry : Entry) → IsBlank entry → IsInjective log →
      IsInjective (log ++ entry ∷ [])
  pub reservation_keeps : (log : List Entry) (entry : Entry) → IsReservation entry → IsInjective log →
      (HasNodeId log entry.node → ⊥)
      → IsInjective (log ++ entry ∷ [])
  pub pair_keeps : (log : List Entry) (entry : Entry) → IsPair entry → IsInjective log →
      (HasUid log entry.uid → ⊥)
      → (HasNodeId log entry.node → ⊥) → IsInjective (log ++ entry ∷ [])
  pub chosen_is : (busy : List Bool) (preferred : ℕ) → IsChoice busy preferred (chosen busy preferred)
  pub complete_stays : (start : Start) (events : List Event) (from : ℕ) (message : Discovery) →
      is_complete start events ≡ true
      → cluster.members start (Heard from message ∷ events) ≡ cluster.members start events
  -- the Raft model
  pub opens_fit : (member : ℕ) (store : Store) → IsFit member (record { store = store; memory = memory_when_opened })
  pub fit_after : (members : List ℕ) (member step : ℕ) (bag : List Message) (called : List ℕ) (server : RaftServer)
      (move : Move)
      → IsEnabled members member bag called server move → IsFit member server →
      IsFit member (server_after members member step server move)
  pub same_raft_server : (members : List ℕ) (member step : ℕ) (moves : List Move) (local_state : LocalState)
      → (state_after_moves members member step local_state moves).raft_server
      ≡ server_after_all members member step local_state.raft_server moves
  pub same_offers : (members : List ℕ) (member step : ℕ) (moves : List Move) (local_state : LocalState)
      → (state_after_moves members member step local_state moves).offered
      ≡ offers_of_all members member step local_state.raft_server moves
      ++ local_state.offered
  pub same_calls : (members : List ℕ) (member step : ℕ) (moves : List Move) (local_state : LocalState)
      → (state_after_moves members member step local_state moves).called ≡ calls_of_all moves ++ local_state.called
  pub joined_moves : (members : List ℕ) (member step : ℕ) (first second : List Move) (local_state : LocalState)
      → state_after_moves members member step local_state (first ++ second)
      ≡ state_after_moves members member step (state_after_moves members member step local_state first) second
  pub joined_come : (members : List ℕ) (member step : ℕ) (bag : List Message) (first second : List Move)
      (local_state : LocalState)
      → AllEnabled members member step bag local_state first →
      AllEnabled members member step bag (state_after_moves members member step local_state first) second
      → AllEnabled members member step bag local_state (first ++ second)
  pub all_after : (list members : List ℕ) (member step : ℕ) (server : RaftServer) (moves : List Move) →
      KnowsEnough list members server moves
      → server_after_all list member step server moves ≡ server_after_all members member step server moves
  pub noted_raft_server : (members : List ℕ) (member step : ℕ) (given : HandedIn) (server : RaftServer) (moves : List Move)
      → puts_alone (puts_with_origins members member step given server moves)
      ≡ puts_of_all members member step server moves
  pub both_raft_server : (first second : List PutWithOrigin) →
      puts_alone (first ++ second) ≡ puts_alone first ++ puts_alone second
  pub joined_puts : (members : List ℕ) (member step : ℕ) (first second : List Move) (server : RaftServer)
      → puts_of_all members member step server (first ++ second)
      ≡ puts_of_all members member step server first
      ++ puts_of_all members member step (server_after_all members member step server first) second
  pub all_puts : (list members : List ℕ) (member step : ℕ) (server : RaftServer) (moves : List Move) →
      KnowsEnough list members server moves
      → puts_of_all list member step server moves ≡ puts_of_all members member step server moves
  pub all_come : (list members : List ℕ) (member step : ℕ) (bag : List Message) (local_state : LocalState)
      (moves : List Move)
      → KnowsEnough list members local_state.raft_server moves → AllEnabled list member step bag local_state moves →
      AllEnabled members member step bag local_state moves
  pub same_commit : (list members : List ℕ) (member : ℕ) (server : RaftServer) → IsAll list members
      → commit_index list member server ≡ commit_index members member server
  pub same_count : (list members : List ℕ) (test : ℕ → Bool) → IsAll list members →
      how_many test list ≡ how_many test members
  pub granted : (store : Store) (request : Request) → IsGranted store request (grants store request)
  pub judged : (server : RaftServer) (request : Request) → IsJudged server request (verdict_on server request)
  pub tick_comes : (members : List ℕ) (member step : ℕ) (bag : List Message) (waited : Bool) (local_state : LocalState)
      → AllEnabled members member step bag local_state (tick_phase waited local_state.raft_server)
  pub commit_comes : (members : List ℕ) (member step : ℕ) (bag : List Message) (local_state : LocalState)
      → AllEnabled members member step bag local_state (commit_phase members member local_state.raft_server)
  pub tick_duty : (members : List ℕ) (member step : ℕ) (server : RaftServer) → server.memory.role ≢ Leader →
      server.store.term < term_limit
      → TickDuty server (server_after_all members member step server (tick_phase true server))
  pub commit_duty : (members : List ℕ) (member step : ℕ) (server : RaftServer) → server.memory.role ≡ Leader
      → CommitDuty members member server
      (server_after_all members member step server (commit_phase members member server))
  pub tell_duty : (members : List ℕ) (member step : ℕ) (room : Bool) (server : RaftServer) →
      server.memory.role ≡ Leader
      → TellDuty member step room server (server_after_all members member step server (tell_phase room server))
      (offers_of_all members member step server (tell_phase room server))
  pub win_kept : (members : List ℕ) (member step : ℕ) (bag : List Message) (called : List ℕ) (server : RaftServer)
      (move : Move)
      → IsEnabled members member bag called server move → WinDuty members server
      → WinDuty members (server_after members member step server move)
