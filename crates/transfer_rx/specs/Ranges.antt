-- The ranges of what is delivered.
use Rattle.std.specs.Prelude.{⊤, ◌<◌}
use Rattle.can_frame.specs.Identifier.{IsIdentifier}
use Rattle.transfer_rx.specs.declared.transfer.Transfer.{Transfer}
use Rattle.transfer_rx.specs.declared.transfer.Took.{Took}
use Rattle.transfer_rx.specs.declared.transfer.Took.TheVariants.{Delivered, Part, Dropped}

-- the fields of the identifier, and the transfer ID, are in their ranges
pub record IsInRange (transfer : Transfer) : Type 0 where
  pub ident : IsIdentifier transfer.ident
  pub id : transfer.id < 32

-- what holds of the transfer, where one is delivered
abbrev pub IfDelivered : Took → (Transfer → Type 0) → Type 0
IfDelivered (Delivered transfer) holds = holds transfer
IfDelivered Part holds = ⊤
IfDelivered (Dropped why) holds = ⊤
