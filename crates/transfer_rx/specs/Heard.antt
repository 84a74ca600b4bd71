-- What is told of a frame, where the receiver keeps the transfer.
use Rattle.std.specs.Prelude.{⊤, ℕ, List, Result, Ok, Err}
use Rattle.can_frame.specs.declared.step.Why.{Why}
use Rattle.transfer_rx.specs.declared.turn.Coming.{Coming}
use Rattle.transfer_rx.specs.declared.transfer.Heading.{Heading}
use Rattle.transfer_rx.specs.declared.transfer.Heard.{Heard}
use Rattle.transfer_rx.specs.declared.transfer.Heard.TheVariants.{Delivered, Part, Dropped}
use Rattle.transfer_rx.specs.declared.transfer.Transfer.{Transfer}
use Rattle.transfer_rx.specs.Reassembly.{Delivery, Answer, Gives, Continues, Drops}
use Rattle.transfer_rx.specs.Told.{delivery_of}

-- a transfer but for its payload
abbrev pub heading_of : Transfer → Heading
heading_of t = record { ident = t.ident; id = t.id; mark = t.mark; whole = t.whole }

abbrev pub heading_in : Delivery → Heading
heading_in d = record { ident = d.ident; id = d.id; mark = d.mark; whole = d.whole }

-- a delivery with this heading and payload
abbrev pub delivery_with : Heading → List ℕ → Delivery
delivery_with h payload = record { ident = h.ident; id = h.id; payload = payload; mark = h.mark; whole = h.whole }

-- what a `Heard` says, beside the transfer that was delivered last
abbrev pub told_with : Transfer → Heard → Answer
told_with transfer Delivered = Gives (delivery_of transfer)
told_with transfer Part = Continues
told_with transfer (Dropped why) = Drops why

-- what is told of a frame that stands alone, with these bytes
abbrev pub told_alone : List ℕ → Result Coming Why → Answer
told_alone bytes (Ok coming) = Gives (delivery_with coming.heading bytes)
told_alone bytes (Err why) = Drops why

-- what holds where a transfer is delivered
abbrev pub IfDelivers : Heard → Type 0 → Type 0
IfDelivers Delivered p = p
IfDelivers Part p = ⊤
IfDelivers (Dropped why) p = ⊤

-- what holds where none is
abbrev pub UnlessDelivers : Heard → Type 0 → Type 0
UnlessDelivers Delivered p = ⊤
UnlessDelivers Part p = p
UnlessDelivers (Dropped why) p = p
