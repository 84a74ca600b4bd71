-- Where a run of written bytes begins.
use Rattle.std.proofs.Common.{◌≡◌, ◌<◌, ℕ, zero, suc, Bool, false, refl, arith}
use Rattle.disk_model.specs.Restart.{run_start}

-- behind bytes of which none was written it begins at the next one
pub run_after_none : (written : ℕ → Bool) (n : ℕ) → ((i : ℕ) → i < n → written i ≡ false) → run_start written n ≡ n
unfolding run_start
run_after_none written zero none = refl
run_after_none written (suc n) none = rw (none n (omega arith)) refl
