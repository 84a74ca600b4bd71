-- What a step has by the time that its event comes.
use Rattle.std.proofs.Common.{◌≡◌, ◌∙◌, ℕ, List, [], ◌∷◌, refl}
use Rattle.raft_core.specs.Handled.{moves_of_expire}
use Rattle.raft_model.specs.Handlers.{server_after, server_after_all}
use Rattle.raft_model.specs.Moves.Move.{GiveUp}
use Rattle.raft_model.specs.Server.{RaftServer}

-- calls that are given up leave what is stored, the role, and what was told
pub record IsAsBefore (before now : RaftServer) : Type 0 where
  pub store : now.store ≡ before.store
  pub role : now.memory.role ≡ before.memory.role
  pub told : now.memory.told ≡ before.memory.told

joined : (a b c : RaftServer) → b.store ≡ a.store → b.memory.role ≡ a.memory.role → b.memory.told ≡ a.memory.told → IsAsBefore b c
    → IsAsBefore a c
joined a b c store role told rest = record { store = rest.store ∙ store; role = rest.role ∙ role; told = rest.told ∙ told }

pub expired : (list : List ℕ) (me number : ℕ) (nodes : List ℕ) (server : RaftServer)
    → IsAsBefore server (server_after_all list me number server (moves_of_expire nodes))
expired list me number [] server = record { store = refl; role = refl; told = refl }
expired list me number (node ∷ nodes) server =
    joined server (server_after list me number server (GiveUp node))
    (server_after_all list me number (server_after list me number server (GiveUp node)) (moves_of_expire nodes)) refl refl refl
    (expired list me number nodes (server_after list me number server (GiveUp node)))
