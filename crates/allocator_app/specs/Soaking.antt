-- How a soak ends.
use Rattle.std.specs.Prelude.{◌≡◌, ◌⊎◌, ℕ, Bool, List, Option}
use Rattle.std.specs.Io.KnownBytes.{Appends}
use Rattle.outside.specs.Faults.{Rose}
use Rattle.cmd_io.specs.Output.{WritesFront}
use Rattle.cmd_io.specs.declared.status.Status.{Status}
use Rattle.cmd_io.specs.declared.status.Status.TheVariants.{Done, Memory, WriteFault}
use Rattle.cmd_soak.specs.Counts.{IsEnd, soak_report}

-- A soak's lines were written, or a prefix of them where the sink failed. The two numbers and the two lists behind are
-- the faults that the sink has counted, and what it has been written, before and now
pub record Soaks (told : Bool) (seed rounds size : ℕ) (faults_old faults : ℕ) (before now : Option (List ℕ))
    (status : Status) : Type 0 where
  pub end : IsEnd status
  pub report : status ≡ Done → Appends before now (soak_report told seed rounds size)
  pub in_part : status ≡ WriteFault → WritesFront before now (soak_report told seed rounds size)
  pub finishes : (Rose faults_old faults → ⊥) → (status ≡ Done) ⊎ (status ≡ Memory)
