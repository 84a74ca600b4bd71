-- Which members a cluster may have.
use Rattle.std.specs.Prelude.{ℕ, ◌≤◌, List, length}
use Rattle.can_frame.specs.Sizes.{most_members}
use Rattle.raft_model.specs.Lists.{In}
use Rattle.raft_model.specs.Members.{HasNoneTwice}

-- node IDs of 1 to 125
abbrev pub AreNodes : List ℕ → Type 0
AreNodes ids = (n : ℕ) → In n ids → (1 ≤ n) × (n ≤ 125)

-- 1 to 5 members, with different node IDs
pub record AreMembers (ids : List ℕ) : Type 0 where
  pub some : 1 ≤ length ids
  pub few : length ids ≤ most_members
  pub nodes : AreNodes ids
  pub once : HasNoneTwice ids
