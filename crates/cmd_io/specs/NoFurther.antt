-- How far a run reads its source.
use Rattle.std.specs.Prelude.{◌≡◌, ◌≤◌, ℕ, List, ◌++◌, length, Option, Some}

-- of the bytes behind the lines that were taken, the next line and what follows it, at most 4096 were read, as many as
-- the run keeps at a time; the others are still in the source
pub record ReadsNoFurther (rest : List ℕ) (left : Option (List ℕ)) : Type 0 where
  pub read : List ℕ
  pub unread : List ℕ
  pub parts : rest ≡ read ++ unread
  pub few : length read ≤ 4096
  pub left_is : left ≡ Some unread
