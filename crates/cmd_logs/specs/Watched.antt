-- The transfers that a watch lists: the receivers of a watch, what each frame leads to, and the line of a transfer.
use Rattle.std.specs.Prelude.{ℕ, ◌+◌, ◌*◌, ◌/◌, ◌==◌, suc, Bool, List, [], ◌∷◌, ◌++◌, Option, None, Some, codes, decimal, if◌then◌else◌}
use Rattle.std.specs.List.{list_any}
use Rattle.hex.specs.Hex.{encode_lower}
use Rattle.can_frame.specs.DataTypes.{allocation}
use Rattle.can_frame.specs.Identifier.{identifier_of}
use Rattle.can_frame.specs.declared.identifier.Ident.{Ident}
use Rattle.can_frame.specs.declared.identifier.Kind.{Kind}
use Rattle.can_frame.specs.declared.identifier.Kind.TheVariants.{Anonymous, Message, Request, Response}
use Rattle.can_frame.specs.declared.mark.Mark.{Mark}
use Rattle.can_frame.specs.Kinds.{is_service}
use Rattle.alloc_spec.specs.Accepted.{row, rows}
use Rattle.cmd_io.specs.declared.status.Status.{Status}
use Rattle.transfer_rx.specs.declared.accept.AcceptRow.{AcceptRow}
use Rattle.transfer_rx.specs.Reassembly.{Arrival, Delivery, Setting, answer, arrival_of, delivered, next}
use Rattle.transfer_rx.specs.Sessions.{Session}
use Rattle.can_logs.specs.declared.form.Form.{Form}
use Rattle.can_logs.specs.declared.form.Line.{Line}
use Rattle.can_logs.specs.declared.form.Line.TheVariants.{Frame, Skipped}
use Rattle.can_logs.specs.declared.form.Logged.{Logged}
use Rattle.cmd_logs.specs.Report.{Reports}

-- ---- the receivers

-- what they take: what an allocator receives, and the Allocations of allocators
unfoldable pub watched_rows : List AcceptRow
watched_rows = row Message allocation ∷ rows

-- how they are made: the first takes the messages of all nodes, each other one the services for its node
abbrev pub message_setting : Setting
message_setting = record { rows = watched_rows; me = 0; sessions = 64; blocks = 64 }

abbrev pub service_setting : ℕ → Setting
service_setting id = record { rows = watched_rows; me = id; sessions = 64; blocks = 64 }

-- the sessions of the receiver of messages, and of that of each node's services
pub record Watch : Type 0 where
  pub messages : List Session
  pub services : ℕ → List Session

abbrev pub unwatched : Watch
unwatched = record { messages = []; services = λ id. [] }

-- ---- a frame

-- no server made it
abbrev pub no_mark : Mark
no_mark = record { step = 0; re = 0; place = 0 }

-- a frame comes at the moment of its line, in milliseconds
abbrev pub came_at : Logged → Arrival
came_at logged = arrival_of logged.frame no_mark (logged.sec * 1000 + logged.micros / 1000)

-- what a frame leads to: what is delivered, and the watch afterwards
pub record Heard : Type 0 where
  pub gives : Option Delivery
  pub after : Watch

abbrev pub by_messages : Watch → Arrival → Heard
by_messages watch came = record {
  gives = delivered (answer message_setting watch.messages came);
  after = record watch { messages = next message_setting watch.messages came };
}

abbrev pub by_services : ℕ → Watch → Arrival → Heard
by_services id watch came = record {
  gives = delivered (answer (service_setting id) (watch.services id) came);
  after = record watch {
    services = λ other. if other == id then next (service_setting id) (watch.services id) came
        else watch.services other;
  };
}

abbrev pub by_none : Watch → Heard
by_none watch = record { gives = None; after = watch }

abbrev pub is_watched : List ℕ → ℕ → Bool
is_watched ids id = list_any (λ own. own == id) ids

abbrev pub by_service : List ℕ → Watch → Arrival → ℕ → Heard
by_service ids watch came id = if is_watched ids id then by_services id watch came else by_none watch

-- a frame of a service comes to the receiver of its destination, where that is watched, and another one to that of
-- messages; one whose identifier has no reading comes to none
abbrev pub by_ident : List ℕ → Watch → Arrival → Option Ident → Heard
by_ident ids watch came None = by_none watch
by_ident ids watch came (Some ident) =
    if is_service ident.kind then by_service ids watch came ident.dest else by_messages watch came

unfoldable pub heard : List ℕ → Watch → Arrival → Heard
heard ids watch came = by_ident ids watch came (identifier_of came.id)

-- a line without a frame leads to nothing
abbrev pub line_heard : List ℕ → Watch → Line → Heard
line_heard ids watch (Frame logged) = heard ids watch (came_at logged)
line_heard ids watch Skipped = by_none watch

-- ---- what is written

abbrev pub kind_word : Kind → List ℕ
kind_word Message = codes "msg"
kind_word Anonymous = codes "anon"
kind_word Request = codes "req"
kind_word Response = codes "res"

abbrev pub payload_word : List ℕ → List ℕ
payload_word [] = codes "-"
payload_word (byte ∷ bytes) = encode_lower (byte ∷ bytes)

-- the line of a transfer, by the number of the line of its last frame
abbrev pub transfer_head : ℕ → Delivery → List ℕ
transfer_head number delivery = decimal number ++ codes " " ++ kind_word delivery.ident.kind
    ++ codes " " ++ decimal delivery.ident.number ++ codes " " ++ decimal delivery.ident.source
    ++ codes " " ++ decimal delivery.ident.dest ++ codes " " ++ decimal delivery.id ++ codes " "

abbrev pub transfer_line : ℕ → Delivery → List ℕ
transfer_line number delivery = transfer_head number delivery ++ payload_word delivery.payload ++ codes "\n"

abbrev pub listed : ℕ → Option Delivery → List ℕ
listed number None = []
listed number (Some delivery) = transfer_line number delivery

-- the lines of the transfers of these lines, of which the first has the number behind that of `before`
abbrev pub watched_from : List ℕ → Watch → ℕ → List Line → List ℕ
watched_from ids watch before [] = []
watched_from ids watch before (line ∷ lines) =
    let this : Heard = line_heard ids watch line in
    listed (suc before) this.gives ++ watched_from ids this.after (suc before) lines

abbrev pub watched : List ℕ → List Line → List ℕ
watched ids lines = watched_from ids unwatched 0 lines

abbrev pub end_line : ℕ → List ℕ
end_line lines = codes "end " ++ decimal lines ++ codes "\n"

-- a watch of the source, whose faults, and those of the sink, are counted before and now
abbrev pub Watches : Form → ℕ → List ℕ → Option (List ℕ) → Option (List ℕ) → ℕ → ℕ → ℕ
    → ℕ → Option (List ℕ)
    → Option (List ℕ) → Status → Type 0
Watches form limit ids left_old left read_old read wrote_old wrote sink_before sink_now status =
    Reports (watched ids) end_line form limit left_old left read_old read wrote_old wrote
    sink_before sink_now status
