-- Rows that meet the premises on devices: behind the calm rows of the example a device asks, the member that leads
-- hears it and sends an Allocation, and the device hears that.
use Rattle.std.specs.Prelude.{ℕ, List, [], ◌∷◌, ◌++◌, None, replicate, true}
use Rattle.can_frame.specs.declared.step.What.TheVariants.{Alloc}
use Rattle.bus_rows.specs.declared.row.Row.{Row}
use Rattle.bus_rows.specs.declared.row.Row.TheVariants.{AOpen, ARx, ASend, ATick, Rx, Send, Tick}
use Rattle.alloc_spec.specs.Transfers.{Offer}
use Rattle.bus_rows.specs.Timed.{Timed, rows_in}
use Rattle.service_calm.specs.Calm.{Device, Member, Party}
use Rattle.service_calm.specs.CalmExample.{calm_rows, first_rows, some_uid, two}
use Rattle.bus_spec.specs.Cluster.{Cluster, after_rows, world_of}

-- who asks: a second device, which came before the members opened
abbrev pub asker : ℕ
asker = 2

abbrev pub rows_before : List Row
rows_before = AOpen asker some_uid 0 1400 0 ∷ first_rows ++ rows_in calm_rows

-- member 1, which leads, and the device; the others do nothing
abbrev pub asking_group : List Party
asking_group = Member 1 ∷ Device asker ∷ []

-- when this calm begins
abbrev pub asking_start : ℕ
asking_start = 2040

abbrev pub asking_world : Cluster
asking_world = world_of two rows_before

-- the device's request timer has passed
abbrev pub asking_row : Timed
asking_row = record { at = 2041; row = ATick asker 2081 0 }

abbrev pub answering_world : Cluster
answering_world = after_rows asking_world (asking_row.row ∷ ASend asker ∷ [])

-- the request comes to member 1, which gives the device a follow-up
abbrev pub answering_row : Timed
answering_row = record { at = 2043; row = Rx 1 7 2143 }

-- the Allocation says the first six bytes of the device's unique ID
abbrev pub allocation_offer : Offer
allocation_offer = record {
  what = Alloc;
  to = 0;
  id = 0;
  payload = 0 ∷ replicate 6 7;
  re = 0;
  says = None;
  fitted = true;
}

-- it goes out, and comes to the device
abbrev pub answered_rows : List Timed
answered_rows = record { at = 2044; row = Send 1 }
    ∷ record { at = 2045; row = ARx asker 8 2085 0 }
    ∷ record { at = 2066; row = Tick 1 2166 0 }
    ∷ []

abbrev pub asking_rows : List Timed
asking_rows = asking_row ∷ record { at = 2042; row = ASend asker } ∷ answering_row ∷ answered_rows
