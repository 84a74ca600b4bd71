-- What a comparison of stores comes to.
use Rattle.std.specs.Prelude.{◌≡◌, ℕ, ◌<◌, ◌≤◌, List, length}
use Rattle.raft_log.specs.declared.stored.Stored.{Stored}
use Rattle.store_audit.specs.declared.verdict.Verdict.{Verdict}
use Rattle.store_audit.specs.declared.verdict.Verdict.TheVariants.{Agree, Differ}
use Rattle.store_audit.specs.Stores.{AgreeAt, IsFirstPair, store_at}

-- no two have committed different entries at one place, and the most that one has committed are so many
pub record IsAgreement (stores : List Stored) (count : ℕ) : Type 0 where
  pub agree : (place : ℕ) → 1 ≤ place → AgreeAt stores place
  pub most : (k : ℕ) → k < length stores → (store_at stores k).commit ≤ count
  pub longest : ℕ
  pub exists : longest < length stores
  pub whole : (store_at stores longest).commit ≡ count

-- this is the first place at which two have committed different entries, and these are the first two
pub record IsDifference (stores : List Stored) (place a b : ℕ) : Type 0 where
  pub least : 1 ≤ place
  pub before : (earlier : ℕ) → 1 ≤ earlier → earlier < place → AgreeAt stores earlier
  pub pair : IsFirstPair place stores a b

abbrev pub IsVerdict : List Stored → Verdict → Type 0
IsVerdict stores (Agree count) = IsAgreement stores count
IsVerdict stores (Differ place a b) = IsDifference stores place a b
