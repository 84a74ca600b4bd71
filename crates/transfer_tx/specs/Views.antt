-- What contracts see of a frame and its mark.
use Rattle.transfer_tx.specs.declared.marked.Marked.{Marked}
use Rattle.transfer_tx.specs.Queue.{Queued}

-- the values, without the facts that a frame keeps
abbrev pub queued_of : Marked → Queued
queued_of marked = record { id = marked.frame.id; bytes = marked.frame.bytes.items; mark = marked.mark }
