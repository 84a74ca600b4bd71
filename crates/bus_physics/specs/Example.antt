-- Timed rows that meet the premises: a member sends, and another one hears it, as does an allocatee.
use Rattle.std.specs.Prelude.{ℕ, false, List, [], ◌∷◌, ◌++◌}
use Rattle.bus_rows.specs.declared.row.Row.TheVariants.{AOpen, ARx, Open, Rx, Send, Tick}
use Rattle.bus_rows.specs.Timed.{Timed}
use Rattle.bus_physics.specs.Physics.{Limits}

abbrev pub two : List ℕ
two = 1 ∷ 2 ∷ []

-- frames are held for 100 ms at the most, clocks go wrong by 5 ms, who is opened rested for 5,500 ms, and a turn takes
-- 40 ms
abbrev pub limits : Limits
limits = record { hold = 100; drift = 5; rest = 5500; turn = 40; since = 0 }

-- frame 1 is the first one that member 1 sends
abbrev pub before : List Timed
before = record { at = 7; row = Open 1 false 0 0 }
    ∷ record { at = 8; row = Open 2 false 500 0 }
    ∷ record { at = 9; row = AOpen 1 [] 0 40 0 }
    ∷ record { at = 1007; row = Tick 1 1000 0 }
    ∷ record { at = 1008; row = Send 1 }
    ∷ []

-- Frame 1 comes to member 2, to it again, and to allocatee 1. The first time its turn has taken 37 ms: the member read
-- its clock at 1013.
abbrev pub at_member : Timed
at_member = record { at = 1050; row = Rx 2 1 1505 }

abbrev pub again : Timed
again = record { at = 1050; row = Rx 2 1 1541 }

abbrev pub at_allocatee : Timed
at_allocatee = record { at = 1050; row = ARx 1 1 1080 0 }

abbrev pub everything : List Timed
everything = before ++ (at_member ∷ (again ∷ (at_allocatee ∷ [])))

-- Two minutes after it was opened member 2 reads its clock again. It was 500 then, so a clock that keeps the pace says
-- 120,500.
abbrev pub two_minutes_later : (moment : ℕ) → Timed
two_minutes_later moment = record { at = 120008; row = Tick 2 moment 0 }

-- A bad minute: frame 1 comes to member 2 once more, a minute late, in a turn that takes 1,500 ms: the member read its
-- clock at 59508. Then member 1 makes frame 4, and sends what waits.
abbrev pub with_bad_minute : List Timed
with_bad_minute = everything ++ (record { at = 61008; row = Rx 2 1 60000 }
    ∷ record { at = 74000; row = Tick 1 73993 0 }
    ∷ record { at = 74001; row = Send 1 }
    ∷ record { at = 74002; row = Send 1 }
    ∷ record { at = 74003; row = Send 1 }
    ∷ [])

-- frame 4 comes to member 2 in time
abbrev pub afterwards : Timed
afterwards = record { at = 74050; row = Rx 2 4 74542 }
