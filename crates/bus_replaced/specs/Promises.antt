-- The promise along a trace with replacements: `HasHeadline` and `HasAllocatees` of `bus_agreement`, with items in place
-- of rows. `Headline` and `Allocatees` are said there, of any two worlds.
use Rattle.std.specs.Prelude.{◌≡◌, ℕ, Bool, List, [], ◌++◌}
use Rattle.raft_model.specs.Lists.{In}
use Rattle.transfer_tx.specs.Queue.{Queued}
use Rattle.bus_spec.specs.Cluster.{cluster}
use Rattle.bus_spec.specs.Logs.{IsGivenFrom, IsOfAllocation, committed}
use Rattle.bus_agreement.specs.Allocatees.{Allocatees}
use Rattle.bus_agreement.specs.Headline.{Headline}
use Rattle.bus_replaced.specs.Traces.{AgreesAlong, Item, transfers_along, world_along}

-- The headline holds from each cut of the trace to each later one, also across replacements, for every choice that
-- agrees with the disks up to the later one; and there is a choice that agrees with them along all of it.
pub record HasHeadlineAlong (ids : List ℕ) (items : List Item) : Type 0 where
  pub some : (choice : ℕ → Bool) × AgreesAlong choice (cluster ids) items
  pub holds : (first more rest : List Item) (choice : ℕ → Bool) → items ≡ first ++ (more ++ rest)
      → AgreesAlong choice (cluster ids) (first ++ more)
      → Headline choice (world_along ids first) (world_along ids (first ++ more))
  -- a frame that ever was on the bus, and whose identifier reads as an Allocation of the source n, is of a member n,
  -- and of an Allocation that n made by then. Where that Allocation gives a node ID, the pair is in n's committed log
  pub bus : (first rest : List Item) (choice : ℕ → Bool) → items ≡ first ++ rest
      → AgreesAlong choice (cluster ids) first
      → (frame : Queued) (n : ℕ) → In frame (world_along ids first).frames → IsOfAllocation frame n
      → In n ids
      × IsGivenFrom (committed choice (world_along ids first) n) (transfers_along (cluster ids) first []) frame n

-- what a device has is a pair of the list, from then on, across replacements too
abbrev pub HasAllocateesAlong : List ℕ → List Item → Type 0
HasAllocateesAlong ids items = (first more rest : List Item) (choice : ℕ → Bool) → items ≡ first ++ (more ++ rest)
    → AgreesAlong choice (cluster ids) (first ++ more)
    → Allocatees choice (world_along ids first) (world_along ids (first ++ more))
