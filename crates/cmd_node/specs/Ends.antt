-- How a run ends before its last turn.
use Rattle.std.specs.Prelude.{ℕ, Result, Ok, Err, ⊤}
use Rattle.kv_store.specs.declared.fault.OpenFault.{OpenFault}
use Rattle.kv_store.specs.declared.fault.OpenFault.TheVariants.{Fault as DiskFailed, Damaged as DamagedAt}
use Rattle.cmd_io.specs.declared.status.Status.{Status}
use Rattle.cmd_io.specs.declared.status.Status.TheVariants.{Done, LinkFault, DiskFault, Damaged as IsDamaged, AnotherLog as HasAnotherLog}
use Rattle.cmd_node.specs.declared.fault.Fault.{Fault}
use Rattle.cmd_node.specs.declared.fault.Fault.TheVariants.{Link, Disk, Damaged, AnotherLog}

-- the node that it ends at
abbrev pub fault_id : Fault → ℕ
fault_id (Link id) = id
fault_id (Disk id) = id
fault_id (Damaged id key) = id
fault_id (AnotherLog id node) = id

abbrev pub fault_status : Fault → Status
fault_status (Link id) = LinkFault id
fault_status (Disk id) = DiskFault id
fault_status (Damaged id key) = IsDamaged id key
fault_status (AnotherLog id node) = HasAnotherLog id node

abbrev pub end_status : Result ⊤ Fault → Status
end_status (Ok done) = Done
end_status (Err fault) = fault_status fault

-- why a run ends whose opening of a node was refused
abbrev pub refusal_of : ℕ → OpenFault → Fault
refusal_of id (DiskFailed fault) = Disk id
refusal_of id (DamagedAt key) = Damaged id key
