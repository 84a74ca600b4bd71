-- Moves one after another: two lists of them are those of both.
use Rattle.std.proofs.Common.{◌≡◌, ℕ, List, [], ◌∷◌, ◌++◌, refl, sym, ◌∙◌, ap}
use Rattle.std.proofs.lemmas.List.{append_assoc, append-nil}
use Rattle.raft_model.specs.Messages.{Message}
use Rattle.raft_model.specs.Server.{RaftServer, Put}
use Rattle.raft_model.specs.Moves.{Move, puts, offers}
use Rattle.raft_model.specs.Stops.{LocalState, state_after_move, state_after_moves, AllEnabled}
use Rattle.raft_model.specs.Handlers.{server_after, server_after_all, puts_of_all, offers_of_all}

pub joined_moves : (members : List ℕ) (member step : ℕ) (first second : List Move) (local_state : LocalState)
    → state_after_moves members member step local_state (first ++ second) ≡ state_after_moves members member step (state_after_moves members member step local_state first) second
joined_moves members member step [] second local_state = refl
joined_moves members member step (move ∷ first) second local_state = joined_moves members member step first second
    (state_after_move members member step local_state move)

pub joined_server : (members : List ℕ) (member step : ℕ) (first second : List Move) (server : RaftServer)
    → server_after_all members member step server (first ++ second)
    ≡ server_after_all members member step (server_after_all members member step server first) second
joined_server members member step [] second server = refl
joined_server members member step (move ∷ first) second server = joined_server members member step first second
    (server_after members member step server move)

pub joined_puts : (members : List ℕ) (member step : ℕ) (first second : List Move) (server : RaftServer)
    → puts_of_all members member step server (first ++ second)
    ≡ puts_of_all members member step server first
    ++ puts_of_all members member step (server_after_all members member step server first) second
joined_puts members member step [] second server = refl
joined_puts members member step (move ∷ first) second server =
    ap (λ (rest : List Put). puts members member server move ++ rest)
    (joined_puts members member step first second (server_after members member step server move))
    ∙ sym (append_assoc (puts members member server move) (puts_of_all members member step (server_after members member step server move) first)
    (puts_of_all members member step (server_after_all members member step (server_after members member step server move) first) second))

pub joined_offers : (members : List ℕ) (member step : ℕ) (first second : List Move) (server : RaftServer)
    → offers_of_all members member step server (first ++ second)
    ≡ offers_of_all members member step (server_after_all members member step server first) second
    ++ offers_of_all members member step server first
joined_offers members member step [] second server = sym (append-nil (offers_of_all members member step server second))
joined_offers members member step (move ∷ first) second server =
    ap (λ (rest : List Message). rest ++ offers member step server move)
    (joined_offers members member step first second (server_after members member step server move))
    ∙ append_assoc
    (offers_of_all members member step (server_after_all members member step (server_after members member step server move) first) second)
    (offers_of_all members member step (server_after members member step server move) first) (offers member step server move)

pub joined_come : (members : List ℕ) (member step : ℕ) (bag : List Message) (first second : List Move) (local_state : LocalState)
    → AllEnabled members member step bag local_state first → AllEnabled members member step bag (state_after_moves members member step local_state first) second
    → AllEnabled members member step bag local_state (first ++ second)
joined_come members member step bag [] second local_state a b = b
joined_come members member step bag (move ∷ first) second local_state a b =
    (a.0, joined_come members member step bag first second (state_after_move members member step local_state move) a.1 b)

pub come_apart : (members : List ℕ) (member step : ℕ) (bag : List Message) (first second : List Move) (local_state : LocalState)
    → AllEnabled members member step bag local_state (first ++ second)
    → AllEnabled members member step bag local_state first × AllEnabled members member step bag (state_after_moves members member step local_state first) second
come_apart members member step bag [] second local_state a = (tt, a)
come_apart members member step bag (move ∷ first) second local_state a =
    let rest = come_apart members member step bag first second (state_after_move members member step local_state move) a.1 in ((a.0, rest.0), rest.1)
