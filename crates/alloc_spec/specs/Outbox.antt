-- What waits for the bus, and the transfer IDs that come next.
use Rattle.std.specs.Prelude.{ℕ, Bool, List, ◌++◌, if◌then◌else◌}
use Rattle.can_frame.specs.declared.step.What.{What}
use Rattle.transfer_tx.specs.Queue.{Queued}
use Rattle.alloc_spec.specs.Transfers.{Ids, ids_after}

pub record Waiting : Type 0 where
  -- the node ID that all that is sent comes from
  pub me : ℕ
  -- the frames, in the order of offering
  pub queue : List Queued
  pub ids : Ids

-- all frames go in where they fit, and the counter of the transfer goes on exactly then

abbrev pub queued_if : Bool → List Queued → List Queued → List Queued
queued_if fitted queue frames = if fitted then queue ++ frames else queue

abbrev pub counted_if : Bool → What → ℕ → Ids → Ids
counted_if fitted what to ids = if fitted then ids_after what to ids else ids
