-- What the Raft model says of logs, beside the definitions of `can_frame`.
use Rattle.std.specs.Prelude.{◌≡◌, ℕ, ◌<◌, ◌≤◌, List, length, ◌⊎◌, take, slice_index_or}
use Rattle.can_frame.specs.declared.entry.Entry.{Entry}
use Rattle.can_frame.specs.Log.{blank, entry_at}

-- the term of the entry at a place
abbrev pub term_at : List Entry → ℕ → ℕ
term_at log place = (entry_at log place).term

-- terms are at least 1, at most top, and do not fall
pub record IsRising (log : List Entry) (top : ℕ) : Type 0 where
  pub low : (i : ℕ) → i < length log → 1 ≤ (slice_index_or log i (blank 0)).term
  pub high : (i : ℕ) → i < length log → (slice_index_or log i (blank 0)).term ≤ top
  pub rises : (i j : ℕ) → i ≤ j → j < length log →
      (slice_index_or log i (blank 0)).term ≤ (slice_index_or log j (blank 0)).term

-- a last term and last index are not above others, compared in this order
abbrev pub NotAbove : ℕ → ℕ → ℕ → ℕ → Type 0
NotAbove term index other_term other_index = (term < other_term) ⊎ ((term ≡ other_term) × (index ≤ other_index))

-- the first entries of both, so many, are the same
abbrev pub Same : ℕ → List Entry → List Entry → Type 0
Same count log other = take count log ≡ take count other
