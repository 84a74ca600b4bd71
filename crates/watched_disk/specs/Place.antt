-- Which files are for one user alone.
use Rattle.std.specs.Prelude.{◌≡◌, ◌≢◌, ◌⊎◌, ℕ, ◌/◌, ◌%◌}

-- the bits of a mode by which its group, or anybody, may write
abbrev pub group_writes : ℕ
group_writes = 16

abbrev pub all_write : ℕ
all_write = 2

abbrev pub HasBit : ℕ → ℕ → Type 0
HasBit bit mode = mode / bit % 2 ≡ 1

-- others than this user may write a file of this owner and mode
abbrev pub OthersWrite : (user owner mode : ℕ) → Type 0
OthersWrite user owner mode = (owner ≢ user) ⊎ HasBit group_writes mode ⊎ HasBit all_write mode
