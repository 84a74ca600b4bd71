-- What is left where marks are not looked at.
use Rattle.std.specs.Prelude.{false, []}
use Rattle.can_frame.specs.declared.mark.Mark.{Mark}
use Rattle.transfer_rx.specs.Reassembly.{Answer, Arrival, Continues, Drops, Gives}
use Rattle.transfer_rx.specs.Sessions.{Session}

abbrev pub no_mark : Mark
no_mark = record { step = 0; re = 0; place = 0 }

abbrev pub unmarked : Session → Session
unmarked session = record session { marks = [] }

abbrev pub unmarked_arrival : Arrival → Arrival
unmarked_arrival arrival = record arrival { mark = no_mark }

abbrev pub unmarked_answer : Answer → Answer
unmarked_answer (Gives delivery) = Gives (record delivery { mark = no_mark; whole = false })
unmarked_answer Continues = Continues
unmarked_answer (Drops why) = Drops why
