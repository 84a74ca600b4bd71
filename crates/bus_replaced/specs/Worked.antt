-- A worked trace: of three members the one is lost that acknowledged the only entry, and gets it back by a replacement.
use Rattle.std.specs.Prelude.{ℕ, true, List, [], ◌∷◌, ◌++◌, replicate}
use Rattle.can_frame.specs.declared.entry.Entry.{Entry}
use Rattle.outside.specs.declared.pattern.Pattern.TheVariants.{Old}
use Rattle.bus_rows.specs.declared.row.Row.{Row}
use Rattle.bus_rows.specs.declared.row.Row.TheVariants.{AOpen, ARx, ASend, ATick, Crash, Open, Rx, Send, Tick}
use Rattle.bus_spec.specs.Cluster.{Cluster}
use Rattle.bus_replaced.specs.Traces.{Item, only_rows, world_along}
use Rattle.bus_replaced.specs.Traces.Item.{Replaces, Takes}

abbrev pub three : List ℕ
three = 1 ∷ 2 ∷ 3 ∷ []

abbrev pub served_uid : List ℕ
served_uid = replicate 16 7

-- ---- before

-- All three are opened and told their list. The wait of member 1 is over: it asks the others for their votes, in frames
-- 2, 3 and 10, 11, is elected, and calls them, in frames 5, 6 and 8, 9.
abbrev pub elected_rows : List Row
elected_rows = Open 1 true 100 0 ∷ Open 2 true 200 1000 ∷ Open 3 true 300 2000 ∷ Tick 1 2450 0 ∷ Send 1
    ∷ Send 1 ∷ Send 1 ∷ Rx 2 2 2650 ∷ Rx 2 3 2650 ∷ Send 2 ∷ Rx 1 4 2650 ∷ Send 1 ∷ Send 1 ∷ Rx 2 5 2700
    ∷ Rx 2 6 2700 ∷ Send 2 ∷ Rx 1 7 2700 ∷ Send 1 ∷ Send 1 ∷ Send 1 ∷ Send 1 ∷ Rx 3 10 2750
    ∷ Rx 3 11 2750 ∷ []

-- A device asks for a node ID, in three frames. Member 1 adds the entry.
abbrev pub asked_rows : List Row
asked_rows = AOpen 1 served_uid 0 0 0 ∷ ATick 1 1000 0 ∷ ASend 1 ∷ Rx 1 12 3000 ∷ Send 1 ∷ ARx 1 13 1010 0
    ∷ ATick 1 1411 0 ∷ ASend 1 ∷ Rx 1 14 3100 ∷ Send 1 ∷ Send 1 ∷ Send 1 ∷ ARx 1 15 1420 0
    ∷ ARx 1 16 1420 0 ∷ ARx 1 17 1420 0 ∷ ATick 1 1821 0 ∷ ASend 1 ∷ Rx 1 18 3200 ∷ []

-- Member 2 takes the entry, in frames 22 to 26. So member 1 commits it, and tells the device.
abbrev pub committed_rows : List Row
committed_rows = Send 1 ∷ Send 1 ∷ Rx 2 19 3300 ∷ Rx 2 20 3300 ∷ Send 2 ∷ Rx 1 21 3300 ∷ Send 1 ∷ Send 1
    ∷ Send 1 ∷ Send 1 ∷ Send 1 ∷ Rx 2 22 3400 ∷ Rx 2 23 3400 ∷ Rx 2 24 3400 ∷ Rx 2 25 3400 ∷ Rx 2 26 3400
    ∷ Send 2 ∷ Rx 1 27 3450 ∷ Send 1 ∷ Send 1 ∷ Send 1 ∷ ARx 1 28 1900 0 ∷ ARx 1 29 1900 0
    ∷ ARx 1 30 1900 0 ∷ []

-- All stop. Then the machine of member 2 is lost.
abbrev pub stopped_rows : List Row
stopped_rows = Crash 1 0 Old ∷ Crash 2 0 Old ∷ Crash 3 0 Old ∷ []

abbrev pub rows_till_loss : List Row
rows_till_loss = elected_rows ++ (asked_rows ++ (committed_rows ++ stopped_rows))

abbrev pub trace_till_loss : List Item
trace_till_loss = only_rows rows_till_loss

abbrev pub world_till_loss : Cluster
world_till_loss = world_along three trace_till_loss

-- ---- the replacement, and behind it

-- Member 2 gets a copy of the disk of member 1, and is opened; so is member 3. The call of member 1 from before comes to
-- member 3 only now, in frames 8 and 9.
abbrev pub trace_behind : List Item
trace_behind = Replaces 2 1 ∷ Takes (Open 2 true 9000 0) ∷ Takes (Open 3 true 9100 1000) ∷ Takes (Rx 3 8 9200)
    ∷ Takes (Rx 3 9 9200) ∷ []

abbrev pub worked : List Item
worked = trace_till_loss ++ trace_behind

-- the entry of the device
abbrev pub some_entry : Entry
some_entry = record { term = 1; uid = served_uid; node = 125 }
