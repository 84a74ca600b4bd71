-- The numbers that are drawn: a linear congruential generator of 64 bits, of which the upper 31 bits are drawn.
use Rattle.std.specs.Prelude.{ℕ, ◌+◌, ◌*◌, ◌/◌, ◌%◌, ◌^◌}

-- where it stands after the next draw
abbrev pub next_state : ℕ → ℕ
next_state state = (state * 6364136223846793005 + 1442695040888963407) % 2 ^ 64

-- what is drawn where it stands so
abbrev pub word_at : ℕ → ℕ
word_at state = state / 2 ^ 33
