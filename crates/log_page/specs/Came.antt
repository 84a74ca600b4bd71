-- What a page is told of a run over bytes in memory.
use Rattle.std.specs.Prelude.{◌≡◌, ◌≤◌, ℕ, List, Option, length, take}
use Rattle.cmd_io.specs.Codes.{status_code}
use Rattle.cmd_io.specs.declared.status.Status.{Status}

-- the run came to a status with this code and wrote a whole report of this length, which stands in the room where it
-- fits; it left some of the input and counted some faults, and `Says` says the rest of it
pub record Came (Says : Option (List ℕ) → ℕ → ℕ → List ℕ → Status → Type 0) (room : List ℕ) (code len : ℕ) : Type 0 where
  pub status : Status
  pub whole : List ℕ
  pub left : Option (List ℕ)
  pub read : ℕ
  pub wrote : ℕ
  pub is_code : code ≡ status_code status
  pub is_len : len ≡ length whole
  pub shown : length whole ≤ length room → take len room ≡ whole
  pub says : Says left read wrote whole status
