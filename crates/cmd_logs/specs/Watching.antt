-- What the receivers of a watch stand for.
use Rattle.std.specs.Prelude.{◌≡◌, ◌==◌, ◌||◌, ℕ, List, [], ◌∷◌, Bool, true, false, Option, None, Some}
use Rattle.transfer_rx.specs.Reassembly.{Arrival, next}
use Rattle.transfer_rx.specs.Sessions.{Session}
use Rattle.transfer_rx.specs.Views.{HasSessions, accept_of}
use Rattle.cmd_logs.specs.declared.receivers.Receivers.{Receivers}
use Rattle.cmd_logs.specs.declared.receivers.Seat.{Seat}
use Rattle.can_logs.specs.declared.form.Line.{Line}
use Rattle.cmd_logs.specs.Watched.{Watch, is_watched, line_heard, service_setting}

-- a watch behind these lines
abbrev pub watch_behind : List ℕ → Watch → List Line → Watch
watch_behind ids watch [] = watch
watch_behind ids watch (line ∷ lines) = watch_behind ids (line_heard ids watch line).after lines

-- the node of a seat is this one
abbrev pub is_at : Option ℕ → ℕ → Bool
is_at None id = false
is_at (Some own) id = own == id

module _ {F : Type 0} where
  -- the receiver of a seat has the sessions of its node's services
  abbrev pub HasServices : Seat F → (ℕ → List Session) → Type 0
  HasServices seat services = (id : ℕ) → seat.id ≡ Some id → HasSessions seat.receiver (services id)

  -- a frame of a service for a node came to a seat: that of the node takes it, and each other one stays as it was
  pub record Moves (before now : Seat F) (id : ℕ) (came : Arrival) : Type 0 where
    pub same : now.id ≡ before.id
    pub here : is_at before.id id ≡ true → (sessions : List Session) → HasSessions before.receiver sessions →
        HasSessions now.receiver (next (service_setting id) sessions came)
    pub elsewhere : is_at before.id id ≡ false → now.receiver ≡ before.receiver

  -- the closure that was given to a seat
  abbrev pub seat_accept : Seat F → F
  seat_accept seat = accept_of seat.receiver

module _ {F : Type 0} where
  -- each node that is watched has a seat
  abbrev pub AreSeated : Receivers F → List ℕ → Type 0
  AreSeated r ids = (id : ℕ) →
      (is_at r.first.id id || (is_at r.second.id id || (is_at r.third.id id
      || (is_at r.fourth.id id || is_at r.fifth.id id)))) ≡ is_watched ids id

  -- the receivers of a watch of these nodes
  pub record HasWatch (r : Receivers F) (ids : List ℕ) (watch : Watch) : Type 0 where
    pub seated : AreSeated r ids
    pub messages : HasSessions r.messages watch.messages
    pub first : HasServices r.first watch.services
    pub second : HasServices r.second watch.services
    pub third : HasServices r.third watch.services
    pub fourth : HasServices r.fourth watch.services
    pub fifth : HasServices r.fifth watch.services

  -- the closure that was given to each receiver
  abbrev pub watch_accept : Receivers F → F
  watch_accept r = accept_of r.messages
