-- A party that hears one member: what each calm row leaves of its receiver.
use Rattle.std.proofs.Common.{◌≡◌, ℕ, ◌+◌, ◌<◌, ◌≤◌, true, false, List, length, max, Some}
use Rattle.bus_rows.specs.declared.row.Row.{Row}
use Rattle.transfer_rx.specs.Reassembly.{Gives, answer, next}
use Rattle.transfer_rx.specs.Outcome.{blocks_used}
use Rattle.transfer_rx.specs.Sessions.{Session}
use Rattle.alloc_spec.specs.Step.{Event}
use Rattle.alloc_spec.specs.Transfers.{SentTransfer}
use Rattle.service_alone.specs.Calm.{IsNext, Pace}
use Rattle.service_calm.specs.Calm.{IsCalmRow, Party, Traffic, receives}
use Rattle.service_calm.specs.Comes.{delivery_of}
use Rattle.service_calm.proofs.Group.{AreWell}
use Rattle.service_calm.proofs.Pending.{Receiver}
use Rattle.bus_spec.specs.Cluster.{Cluster, after_row, arrival_at, frame_at, step_of}

-- `Is` says that a party's receiver has these sessions, and of its clock this moment; `Gets`, that it delivers a
-- transfer in a row; `HasMemory`, that it has room.
module _ (group : List Party) (clocks : Party → ℕ) (pace : Pace) (n : ℕ) (party : Party) (receiver : Receiver)
    (Is : Cluster → List Session → ℕ → Type 0) (Gets : SentTransfer → Cluster → Row → Type 0) (HasMemory : Cluster → Type 0) where
  -- a frame comes to it in this row, which is no step of member n
  pub record Receipt (traffic : Traffic) (w : Cluster) (moment : ℕ) (row : Row) (sessions : List Session) (now : ℕ) : Type 0 where
    pub k : ℕ
    pub ms : ℕ
    pub now_is : ms ≡ moment + clocks party
    pub is_next : IsNext k (traffic.to party)
    pub member : (after_row w row).member n ≡ w.member n
    pub frames : (after_row w row).frames ≡ w.frames
    pub none : (event : Event) → step_of w row ≡ Some (n, event) → ⊥
    pub then_is : Is (after_row w row) (next receiver.setting sessions (arrival_at (frame_at w.frames k) (max now ms))) (max now ms)
    pub gets : (x : SentTransfer) → answer receiver.setting sessions (arrival_at (frame_at w.frames k) (max now ms)) ≡ Gives (delivery_of x) → Gets x w row

  -- it has these sessions still, and its clock may have gone on
  abbrev pub StillIs : Cluster → ℕ → List Session → ℕ → Type 0
  StillIs w moment sessions now = (later : ℕ) × Is w sessions later × (now ≤ later) × (later ≤ max now (moment + clocks party))

  -- what each calm row leaves of it
  pub record IsHearer : Type 0 where
    pub comes : (traffic : Traffic) (w : Cluster) (moment : ℕ) (row : Row) → AreWell group w → IsCalmRow group clocks pace traffic w moment row
        → receives row party ≡ true → (sessions : List Session) (now : ℕ) → Is w sessions now → Receipt traffic w moment row sessions now
    pub stays : (traffic : Traffic) (w : Cluster) (moment : ℕ) (row : Row) → IsCalmRow group clocks pace traffic w moment row → receives row party ≡ false
        → (sessions : List Session) (now : ℕ) → Is w sessions now → StillIs (after_row w row) moment sessions now
    pub room : (w : Cluster) (sessions : List Session) (now : ℕ) → Is w sessions now → HasMemory w
        → (length sessions < receiver.setting.sessions) × (blocks_used sessions + receiver.blocks ≤ receiver.setting.blocks)
