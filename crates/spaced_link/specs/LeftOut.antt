-- What a link that spaces the Allocations of its member makes of the link and the clock below it.
use Rattle.std.specs.Prelude.{◌≡◌, ℕ, Bool, true, false, List, ◌∷◌, Option, Some, None}
use Rattle.can_frame.specs.declared.tail.Tail.{Tail}
use Rattle.outside.specs.Contents.{WhereTold}
use Rattle.outside.specs.Readings.{Reads}
use Rattle.spaced_link.specs.Spacing.{OwnFrame, goes_out, has_rested, is_under_way, last_out, under_way_behind, uses_by, with_use}

module _ {C : Type 0} (readings : C → Option (List ℕ)) (clock_old clock : C) (last_old last : List (Option ℕ)) where
  -- Whether a frame of an Allocation with this transfer ID goes out, by whether it is a first one. The clock is read
  -- where it is one, and only there.
  abbrev pub FrameGoes : Option ℕ → ℕ → Bool → Bool → Type 0
  FrameGoes under_way id true goes = (now : ℕ) × WhereTold (Reads now) (readings clock_old) (readings clock)
      × (goes ≡ has_rested now (last_out last_old id)) × (last ≡ with_use id now goes last_old)
  FrameGoes under_way id false goes = (goes ≡ is_under_way under_way id) × (clock ≡ clock_old) × (last ≡ last_old)

  -- whether a frame goes out, by the tail that it has where it is one of an Allocation; every other frame goes out
  abbrev pub GoesSpaced : (under_way_old under_way : Option ℕ) → Option Tail → Bool → Type 0
  GoesSpaced under_way_old under_way None goes = (goes ≡ true) × (clock ≡ clock_old) × (last ≡ last_old)
      × (under_way ≡ under_way_old)
  GoesSpaced under_way_old under_way (Some tail) goes = FrameGoes under_way_old tail.id tail.start goes
      × (under_way ≡ under_way_behind tail goes)

-- ---- what is kept, and all frames of Allocations that were handed in, the newest first

pub record StandForUses (last : List (Option ℕ)) (under_way : Option ℕ) (frames : List OwnFrame) : Type 0 where
  pub each : (id : ℕ) → last_out last id ≡ (uses_by frames).last id
  pub other : under_way ≡ (uses_by frames).under_way

-- A frame with this tail was handed in behind these. What is kept stands for it too, and it went out by them, or did
-- not. Of one that begins an Allocation the reading is that of the clock.
pub record IsHandedIn {C : Type 0} (readings : C → Option (List ℕ)) (clock_old clock : C) (last : List (Option ℕ))
    (under_way : Option ℕ) (before : List OwnFrame) (tail : Tail) (goes : Bool) : Type 0 where
  pub now : ℕ
  pub reads : tail.start ≡ true → WhereTold (Reads now) (readings clock_old) (readings clock)
  pub stands : StandForUses last under_way (record { now = now; tail = tail } ∷ before)
  pub went : goes ≡ goes_out before (record { now = now; tail = tail })
