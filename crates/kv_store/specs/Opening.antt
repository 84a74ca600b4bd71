-- Why a store was not opened.
use Rattle.std.specs.Prelude.{Bool, true, false}
use Rattle.kv_store.specs.declared.fault.OpenFault.{OpenFault}
use Rattle.kv_store.specs.declared.fault.OpenFault.TheVariants.{Fault, Damaged}

-- whether all device calls of the opening succeeded
abbrev pub was_read : OpenFault → Bool
was_read (Fault fault) = false
was_read (Damaged key) = true
