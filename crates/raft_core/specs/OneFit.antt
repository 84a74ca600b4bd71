-- That a member fits what it has stored has one proof at most, so a struct may keep it as a ghost field.
use Rattle.std.specs.Prelude.{ℕ, Option, Some, None}
use Rattle.std.specs.Coded.{Unit-prop, le_prop}
use Rattle.std.proofs.Props.{props}
use Rattle.raft_log.specs.Stored.{Stored}
use Rattle.raft_core.specs.declared.peer.Asked.{Asked}
use Rattle.raft_core.specs.declared.peer.Asked.TheVariants.{Vote, Append}
use Rattle.raft_core.specs.declared.peer.Waiting.{Waiting}
use Rattle.raft_core.specs.declared.raft.Raft.{Raft}
use Rattle.raft_core.specs.Fits.{AsksUpTo, Fits, ReachesUpTo}

AsksUpTo-prop : (last : ℕ) (asked : Asked) → IsProp (AsksUpTo last asked)
AsksUpTo-prop last Vote = Unit-prop
AsksUpTo-prop last (Append place) = le_prop

pub ReachesUpTo-prop : (last : ℕ) (call : Option Waiting) → IsProp (ReachesUpTo last call)
ReachesUpTo-prop last None = Unit-prop
ReachesUpTo-prop last (Some call) = AsksUpTo-prop last call.asked

pub Fits-prop : (raft : Raft) (state : Stored) → IsProp (Fits raft state)
Fits-prop raft state = hlevel (props, ReachesUpTo-prop)
