-- The frames that a step puts into its queue.
use Rattle.std.specs.Prelude.{ℕ, List, [], flat_map, if◌then◌else◌}
use Rattle.transfer_tx.specs.Queue.{Queued}
use Rattle.alloc_spec.specs.Transfers.{Offer, frames_of}

-- the frames of a transfer that a member offers in a step; none where it did not fit
abbrev pub frames_put : ℕ → ℕ → Offer → List Queued
frames_put number me offer = if offer.fitted then frames_of (record { step = number; by = me; offer = offer }) else []

-- the frames of these transfers, in order
abbrev pub all_frames_put : ℕ → ℕ → List Offer → List Queued
all_frames_put number me offers = flat_map (frames_put number me) offers
