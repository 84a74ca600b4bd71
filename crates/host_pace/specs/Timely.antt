-- What a link that lets no old frame pass makes of the link and the clock below it.
use Rattle.std.specs.Prelude.{◌≡◌, ℕ, ◌+◌, ◌<◌, ◌⊎◌, ◌≤◌, ⊤, List, Option, Result, Ok}
use Rattle.outside.specs.Contents.{WhereTold}
use Rattle.outside.specs.Readings.{Reads}
use Rattle.outside.specs.Traffic.{Receives, Sends}
use Rattle.outside.specs.Faults.{one_more}
use Rattle.outside.specs.declared.failed.Failed.{Failed}
use Rattle.outside.specs.declared.received.RawFrame.{RawFrame}
use Rattle.outside.specs.declared.received.Received.{Received}
use Rattle.outside.specs.declared.received.Received.TheVariants.{Frame, Junk, Nothing}

-- the longest that a frame may have waited, in milliseconds
abbrev pub longest_wait : ℕ
longest_wait = 1000

-- this is handed on of an item, now, where all that waited came after an earlier reading
abbrev pub IsHandedOn : (now after : ℕ) → Received → Received → Type 0
IsHandedOn now after Nothing handed = handed ≡ Nothing
IsHandedOn now after Junk handed = handed ≡ Junk
IsHandedOn now after (Frame frame) handed =
    ((now ≤ after + longest_wait) × (handed ≡ Frame frame)) ⊎ ((after + longest_wait < now) × (handed ≡ Junk))

-- after which reading all came that waits behind an item: where there is none, nothing waited at the call before
abbrev pub waits_since : (before after : ℕ) → Received → ℕ
waits_since before after Nothing = before
waits_since before after Junk = after
waits_since before after (Frame frame) = after

-- how many calls in a row found nothing
abbrev pub idle_after : ℕ → Received → ℕ
idle_after idle Nothing = one_more idle
idle_after idle Junk = 0
idle_after idle (Frame frame) = 0

-- the link below gave this item, of which that was handed on
pub record Hears (coming_old coming : Option (List Received)) (before now after_old after : ℕ) (handed : Received)
    : Type 0 where
  pub item : Received
  pub below : WhereTold (Receives {E = Failed} (Ok item)) coming_old coming
  pub answer : IsHandedOn now after_old item handed
  pub waits : after ≡ waits_since before after_old item

-- the clock read this moment, and the frame went to the link below once, unless it may have waited too long
pub record Goes {L : Type 0} (frame : RawFrame) (result : Result ⊤ Failed) (sent : L → Option (List RawFrame))
    (coming : L → Option (List Received)) (link_old link : L) (readings_old readings : Option (List ℕ))
    (after : ℕ) : Type 0 where
  pub now : ℕ
  pub reading : WhereTold (Reads now) readings_old readings
  pub sends : ((after + longest_wait < now) × (result ≡ Ok record {}) × (link ≡ link_old))
      ⊎ ((now ≤ after + longest_wait) × WhereTold (Sends frame result) (sent link_old) (sent link)
      × (coming link ≡ coming link_old))
