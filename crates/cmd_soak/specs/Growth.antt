-- How much more of a count there may be after some rows than before.
use Rattle.std.specs.Prelude.{ℕ, ◌≤◌, ◌+◌, ◌*◌, length}
use Rattle.cmd_soak.specs.Rounds.{Soak}
use Rattle.cmd_soak.specs.declared.turn.Turn.{Turn}
use Rattle.cmd_soak.specs.declared.turn.Turn.TheVariants.{Open, Tick, Hear, Send}

-- so many frames at the most, and so many rows. Of rows there are far less than the numbers that bound them: a
-- member's turn has 2^33 at the most, two for each frame of a bus that takes less than 2^32, and a round less than
-- 2^38.
pub record Grows (sent given : ℕ) (old new : Soak) : Type 0 where
  pub frames : length new.world.frames ≤ length old.world.frames + sent
  pub rows : new.world.rows ≤ old.world.rows + given
  pub stops : new.stops ≤ old.stops + given
  pub refused : new.refused ≤ old.refused + given

-- how many frames a member puts on the bus in its turn, at the most
abbrev pub growth : Turn → ℕ
growth Open = 0
growth Tick = 0
growth Hear = 0
growth Send = 8

-- how many the bus takes for the turns of so many members: a row wants a free place, whatever it does
abbrev pub room_for : Turn → ℕ → ℕ
room_for Open count = 1
room_for Tick count = 1
room_for Hear count = 1
room_for Send count = count * 8

-- a bus of so many frames has places for so many more, and the counts for so many rows
pub record Fits (sent given room : ℕ) (s : Soak) : Type 0 where
  pub frames : length s.world.frames + sent ≤ room
  pub rows : s.world.rows + given ≤ 18446744073709551615
  pub stops : s.stops + given ≤ 18446744073709551615
  pub refused : s.refused + given ≤ 18446744073709551615
