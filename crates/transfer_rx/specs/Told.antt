-- What is told of a frame.
use Rattle.transfer_rx.specs.declared.transfer.Transfer.{Transfer}
use Rattle.transfer_rx.specs.declared.transfer.Took.{Took}
use Rattle.transfer_rx.specs.declared.transfer.Took.TheVariants.{Delivered, Part, Dropped}
use Rattle.transfer_rx.specs.Reassembly.{Delivery, Answer, Gives, Continues, Drops}

abbrev pub delivery_of : Transfer → Delivery
delivery_of t = record { ident = t.ident; id = t.id; payload = t.payload.items; mark = t.mark; whole = t.whole }

-- what a `Took` says
abbrev pub told : Took → Answer
told (Delivered transfer) = Gives (delivery_of transfer)
told Part = Continues
told (Dropped why) = Drops why

-- the transfer that was delivered last, after this
abbrev pub delivered_after : Took → Transfer → Transfer
delivered_after (Delivered transfer) before = transfer
delivered_after Part before = before
delivered_after (Dropped why) before = before
