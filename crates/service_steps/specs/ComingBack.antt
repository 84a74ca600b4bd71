-- The Raft model is never stuck: whatever happened, a majority that is there can come back to a leader whose log
-- is committed, and from there each new pair can be committed and told.
use Rattle.std.specs.Prelude.{◌≡◌, ◌≢◌, ◌⊎◌, ℕ, ◌+◌, ◌<◌, ◌≤◌, true, List, [], ◌∷◌, ◌++◌, length, None}
use Rattle.can_frame.specs.declared.entry.Entry.{Entry}
use Rattle.can_frame.specs.Log.{HasNodeId, HasUid, IsPair, blank, log_limit}
use Rattle.can_frame.specs.Zeros.{zeros}
use Rattle.raft_model.specs.Lists.{In}
use Rattle.raft_model.specs.Members.{HasNoneTwice}
use Rattle.raft_model.specs.Messages.{Pair}
use Rattle.raft_model.specs.Messages.Message.{Pairs}
use Rattle.raft_model.specs.Moves.Elections.{term_limit}
use Rattle.raft_model.specs.Moves.Leading.{MayPropose}
use Rattle.raft_model.specs.Runs.{InEveryRun, World}
use Rattle.raft_model.specs.Server.{quorum}
use Rattle.raft_model.specs.Server.Role.{Leader}
use Rattle.service_steps.specs.Coming.{CanCome}

-- members that are a majority, none of them twice
pub record IsMajority (members group : List ℕ) : Type 0 where
  pub enough : quorum members ≤ length group
  pub once : HasNoneTwice group
  pub listed : (n : ℕ) → In n group → In n members

-- this member leads a group: it has no call pending, and the others of the group are up, in no higher term
pub record IsLed (world : World) (group : List ℕ) (me : ℕ) : Type 0 where
  pub leads : (world.server me).memory.role ≡ Leader
  pub up : (world.server me).memory.up ≡ true
  pub member : In me group
  pub listed : (n : ℕ) → In n group → In n world.members
  pub free : (n : ℕ) → (world.server me).memory.pending n ≡ None
  pub peers : (n : ℕ) → In n group → n ≢ me
      → ((world.server n).memory.up ≡ true) × ((world.server n).store.term ≤ (world.server me).store.term)

-- such a leader, all of whose log is committed
pub record IsBack (world : World) (group : List ℕ) (me : ℕ) : Type 0 where
  pub led : IsLed world group me
  pub committed : (world.server me).store.commit ≡ length (world.server me).store.log

-- a term is left for each, and room in its log for a blank
pub record HasRoom (world : World) (group : List ℕ) : Type 0 where
  pub term : (n : ℕ) → In n group → (world.server n).store.term < term_limit
  pub log : (n : ℕ) → In n group → length (world.server n).store.log < log_limit

-- a log stays as it was, or has one blank more
abbrev pub HasGrown : List Entry → List Entry → Type 0
HasGrown before now = (now ≡ before) ⊎ ((term : ℕ) × (now ≡ before ++ blank term ∷ []))

-- a member of the group leads it, with the log that it had, or a blank more, and all of it is committed
pub record ComesBackIn (group : List ℕ) (world later : World) : Type 0 where
  pub leader : ℕ
  pub back : IsBack later group leader
  pub log : HasGrown (world.server leader).store.log (later.server leader).store.log

-- at each moment of every run of a cluster whose members are different: any majority that has room, with all its
-- disks, comes back, if nothing is lost from then on
abbrev pub ComesBack : Type 0
ComesBack = InEveryRun (λ world. (group : List ℕ) → HasNoneTwice world.members → IsMajority world.members group →
    HasRoom world group → CanCome world (ComesBackIn group world))

-- this pair was told
abbrev pub IsTold : World → List ℕ → ℕ → Type 0
IsTold world uid node = (pair : Pair) × In (Pairs pair) world.bag × (pair.uid ≡ uid) × (pair.node ≡ node)

-- from there each pair that the leader may propose is committed, and told
abbrev pub CanStillTell : Type 0
CanStillTell = InEveryRun (λ world. (group : List ℕ) (leader : ℕ) (entry : Entry) → IsMajority world.members group →
    IsBack world group leader → MayPropose (world.server leader) entry → IsPair entry →
    CanCome world (λ later. IsTold later entry.uid entry.node × IsBack later group leader))

-- a unique ID and a node ID that stand in no log of the group, each of which has room for two entries more
pub record IsNew (world : World) (group : List ℕ) (uid : List ℕ) (node : ℕ) : Type 0 where
  pub device : uid ≢ zeros
  pub least : 1 ≤ node
  pub most : node ≤ 125
  pub uids : (n : ℕ) → In n group → HasUid (world.server n).store.log uid → ⊥
  pub nodes : (n : ℕ) → In n group → HasNodeId (world.server n).store.log node → ⊥
  pub room : (n : ℕ) → In n group → length (world.server n).store.log + 1 < log_limit

-- so at each moment of every run each such pair can still be told, by any majority
abbrev pub NewPairsCanBeTold : Type 0
NewPairsCanBeTold = InEveryRun (λ world. (group : List ℕ) (uid : List ℕ) (node : ℕ) → HasNoneTwice world.members →
    IsMajority world.members group → HasRoom world group → IsNew world group uid node →
    CanCome world (λ later. IsTold later uid node))
