-- What a member has stored after a step that failed, while it is not stopped: a known number of the step's puts took
-- effect; whether the next one did is unknown until a stop. A choice says so, by the number of the row; it agrees with
-- the disk where the disk shows the same once the member stops.
use Rattle.std.specs.Prelude.{◌≡◌, ⊤, ℕ, ◌==◌, Bool, true, false, List, [], ◌∷◌}
use Rattle.kv_store.specs.KeyDisk.{restarted_on}
use Rattle.raft_core.specs.StoredPuts.{store_of}
use Rattle.raft_log.specs.Stored.{Stored}
use Rattle.raft_model.specs.Server.{Store}
use Rattle.bus_rows.specs.declared.row.Row.{Row}
use Rattle.bus_rows.specs.declared.row.Row.TheVariants.{Crash}
use Rattle.bus_spec.specs.Cluster.{Cluster, after_row}
use Rattle.bus_spec.specs.Members.{Failure, MemberStatus, stored_after}
use Rattle.bus_spec.specs.Members.MemberStatus.{Down, Up, Failed}

abbrev pub one_if : Bool → ℕ
one_if true = 1
one_if false = 0

-- what is stored after a failed step, as the choice says
abbrev pub chosen_store : (ℕ → Bool) → Failure → Store
chosen_store choice failure = stored_after failure (one_if (choice failure.row))

-- what the choice says of a failed step is what is found once its member stops
abbrev pub StopAgreesWithDisk : (ℕ → Bool) → MemberStatus → Stored → Type 0
StopAgreesWithDisk choice Down found = ⊤
StopAgreesWithDisk choice (Up server) found = ⊤
StopAgreesWithDisk choice (Failed failure) found = chosen_store choice failure ≡ store_of found

-- only a stop at once (`crash` with 0 calls) shows what a failed put left
abbrev pub CrashAgreesWithDisk : Bool → (ℕ → Bool) → MemberStatus → Stored → Type 0
CrashAgreesWithDisk true choice status found = StopAgreesWithDisk choice status found
CrashAgreesWithDisk false choice status found = ⊤

abbrev pub RowAgreesWithDisk : (ℕ → Bool) → Cluster → Row → Type 0
RowAgreesWithDisk choice w (Crash n calls pattern) =
    CrashAgreesWithDisk (calls == 0) choice (w.member n).status (restarted_on pattern (w.member n).disk).store
RowAgreesWithDisk choice w row = ⊤

abbrev pub AgreesWithDisk : (ℕ → Bool) → Cluster → List Row → Type 0
AgreesWithDisk choice w [] = ⊤
AgreesWithDisk choice w (row ∷ rows) = RowAgreesWithDisk choice w row × AgreesWithDisk choice (after_row w row) rows
