use Rattle.std.proofs.Common.{ℕ, List}
use Rattle.raft_log.specs.declared.stored.Stored.{Stored}
use Rattle.cmd_replace.specs.Guard.{MayReplace, StandsInWay}
use Rattle.cmd_replace.specs.declared.guard.Obstacle.{Obstacle}
use Rattle.cmd_replace.specs.declared.guard.Obstacle.TheVariants.{NoLeader, Uncommitted}
use Rattle.cmd_replace.proofs.laws.an_obstacle_refuses_all.Goals as goal

refuses_all : (ids : List ℕ) (lost : ℕ) (stores : List Stored) (why : Obstacle) (place : ℕ) → StandsInWay ids lost stores why → MayReplace ids lost stores place → ⊥
refuses_all ids lost stores NoLeader place stands may = stands place may.elected
refuses_all ids lost stores (Uncommitted found) place stands may = stands.1 place may

pub returns : goal.returns
returns c = refuses_all
