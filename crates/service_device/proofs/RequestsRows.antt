-- A device that tells its unique ID part by part does so behind each row, and what it sends are such requests.
use Rattle.std.specs.Prelude.{⊤}
use Rattle.std.proofs.Common.{◌≡◌, ℕ, ◌+◌, ◌<◌, false, List, [], ◌∷◌, length, refl, sym, ◌∙◌, ap, subst, inl, inr, Option, None, Some}
use Rattle.std.proofs.lemmas.Bool.Decides.{eqb_tells}
use Rattle.alloc_exchange.specs.Exchange.{IsEndOfStage}
use Rattle.can_frame.specs.Kinds.{is_anonymous}
use Rattle.dsdl_codec.specs.declared.allocation.Allocation.{Allocation}
use Rattle.dsdl_codec.specs.Allocation.{allocation_of}
use Rattle.raft_model.specs.Lists.{at, at_here, at_other}
use Rattle.bus_rows.specs.declared.row.Row.{Row}
use Rattle.bus_rows.specs.declared.row.Row.TheVariants.{AEnd, AOpen, ARx, ASend, ATick, Crash, Ext, Fault, Open, Rx, Send, Tick}
use Rattle.transfer_rx.specs.Reassembly.{Arrival, Delivery, Gives}
use Rattle.transfer_tx.specs.Queue.{Queued}
use Rattle.allocatee.specs.Allocatee.{Device, Event, answer_to, opening, step}
use Rattle.allocatee.specs.Allocatee as device
use Rattle.bus_agreement.proofs.RowsWithoutEvents.{left_in_queue, out_of_queue}
use Rattle.service_steps.specs.Devices.{RequestsAreRequests}
use Rattle.bus_rows.specs.Timed.{Timed, rows_in}
use Rattle.service_alone.specs.Calm.{Pace}
use Rattle.service_calm.specs.Calm.{IsCalmRow, Party, Traffic}
use Rattle.service_device.specs.Requests.{IsRequestFor, TellsAt, TellsParts}
use Rattle.service_device.proofs.AskingDevice.{same_device}
use Rattle.service_device.proofs.RequestsDevice.{IsSized, comes_telling, tells_on}
use Rattle.bus_spec.specs.Allocatees.{after_sending_from, device_after_step, next_from}
use Rattle.bus_spec.specs.Cluster.{Cluster, after_row, after_rows, arrival_at, frame_at, receipt_at}

-- ---- what the device hears

-- an Allocation with a source that comes to device a in this row has 6, 12 or 16 bytes of a unique ID
abbrev pub HearsParts : ℕ → Cluster → Row → Type 0
HearsParts a w row = (k ms word : ℕ) (d : Device) (delivery : Delivery) (message : Allocation) → row ≡ ARx a k ms word →
    w.allocatee a ≡ Some d → answer_to d (arrival_at (frame_at w.frames k) ms) ≡ Gives delivery →
    is_anonymous delivery.ident.kind ≡ false → allocation_of delivery.payload ≡ Some message →
    IsEndOfStage (length message.uid.items)

-- so it is in each of these rows
abbrev pub AllHearParts : ℕ → Cluster → List Timed → Type 0
AllHearParts a w [] = ⊤
AllHearParts a w (timed ∷ rest) = HearsParts a w timed.row × AllHearParts a (after_row w timed.row) rest

one_device : (x y : Device) → ◌≡◌ {A = Option Device} (Some x) (Some y) → x ≡ y
one_device x y e = cc (e)

-- a device that sends a frame goes on to tell parts
pub tells_popped : (uid : List ℕ) (d : Device) → TellsParts uid d.asking → TellsParts uid (device.after_pop d).asking
tells_popped uid d h = record {
  its_uid = h.its_uid;
  small = h.small;
  id = h.id;
  follows = h.follows;
  waits = λ frame i. h.waits frame (left_in_queue d.asking.queue frame i);
}

one_arrival : (x y : Arrival) (v w : ℕ) → device.Rx x v ≡ device.Rx y w → x ≡ y
one_arrival x y v w e = cc (e)

-- ---- a device behind a row

-- What holds of device a before a row, where it is there, holds of it behind the row, if each of its steps keeps it, and
-- each frame that it sends, and a device that comes has it.
module _ (Holds : Device → Type 0) (a : ℕ) where
  -- so it is of the device at this place, where it is there
  abbrev pub HoldsAt : (ℕ → Option Device) → Type 0
  HoldsAt devices = (d : Device) → devices a ≡ Some d → Holds d

  -- another one at a place
  with_one : (devices : ℕ → Option Device) → HoldsAt devices → (b : ℕ) (o : Option Device) → (b ≡ a → (d : Device) → o ≡ Some d → Holds d)
      → HoldsAt (at devices b o)
  with_one devices hold b o here d e = elim (eqb_tells a b) [
    | inl z ↦ here (sym z.1) d (sym (at_here devices b a o z.1) ∙ e)
    | inr z ↦ hold d (sym (at_other devices b a o z.1) ∙ e)
  ]

  module _ (steps : (d : Device) (number : ℕ) (event : Event) → ((arrival : Arrival) (word : ℕ) → event ≡ device.Rx arrival word → IsSized (answer_to d arrival))
      → Holds d → Holds (step d number event).device) (pops : (d : Device) → Holds d → Holds (device.after_pop d)) (w : Cluster) (hold : HoldsAt w.allocatee) where
    stepped : (number : ℕ) (event : Event)
        → ((d : Device) → w.allocatee a ≡ Some d → (arrival : Arrival) (word : ℕ) → event ≡ device.Rx arrival word → IsSized (answer_to d arrival))
        → (b : ℕ) → b ≡ a → (d : Device) → device_after_step number event (w.allocatee b) ≡ Some d → Holds d
    stepped number event sized b same d e = by (w.allocatee b) refl e
      where
        by : (o : Option Device) → w.allocatee b ≡ o → device_after_step number event o ≡ Some d → Holds d
        by None there f = absurd (cc (f))
        by (Some x) there f =
            let its : w.allocatee a ≡ Some x = subst (λ (c : ℕ). w.allocatee c ≡ Some x) same there in
            subst Holds (one_device (step x number event).device d f) (steps x number event (sized x its) (hold x its))

    sent : (b : ℕ) → b ≡ a → (d : Device) → after_sending_from (w.allocatee b) ≡ Some d → Holds d
    sent b same d e = by (w.allocatee b) refl e
      where
        by : (o : Option Device) → w.allocatee b ≡ o → after_sending_from o ≡ Some d → Holds d
        by None there f = absurd (cc (f))
        by (Some x) there f =
            subst Holds (one_device (device.after_pop x) d f) (pops x (hold x (subst (λ (c : ℕ). w.allocatee c ≡ Some x) same there)))

    -- so it is behind each row
    pub holds_then : (row : Row) → ((uid : List ℕ) (pref ms word : ℕ) → row ≡ AOpen a uid pref ms word → Holds (opening uid pref ms word))
        → HearsParts a w row → HoldsAt (after_row w row).allocatee
    holds_then (Tick p ms word) comes hears = hold
    holds_then (Rx p k ms) comes hears = hold
    holds_then (Send p) comes hears = hold
    holds_then (ATick b ms word) comes hears = with_one w.allocatee hold b (device_after_step (w.rows + 1) (device.Tick ms word) (w.allocatee b))
        (stepped (w.rows + 1) (device.Tick ms word) (λ d there arrival v e. absurd (cc (e))) b)
    holds_then (ARx b k ms word) comes hears = with_one w.allocatee hold b (device_after_step (w.rows + 1) (receipt_at w k ms word) (w.allocatee b))
        (λ same. stepped (w.rows + 1) (receipt_at w k ms word) (λ d there arrival v e delivery message gives known says.
        hears k ms word d delivery message (ap (λ (c : ℕ). ARx c k ms word) same) there
        (ap (answer_to d) (one_arrival (arrival_at (frame_at w.frames k) ms) arrival word v e) ∙ gives) known says) b same)
    holds_then (ASend b) comes hears = with_one w.allocatee hold b (after_sending_from (w.allocatee b)) (sent b)
    holds_then (Open p told ms word) comes hears = hold
    holds_then (Ext frame) comes hears = hold
    holds_then (Crash p calls pattern) comes hears = hold
    holds_then (Fault p call) comes hears = hold
    holds_then (AOpen b uid pref ms word) comes hears = with_one w.allocatee hold b (Some (opening uid pref ms word))
        (λ same d e. subst Holds (one_device (opening uid pref ms word) d e) (comes uid pref ms word (ap (λ (c : ℕ). AOpen c uid pref ms word) same)))
    holds_then (AEnd b) comes hears = with_one w.allocatee hold b None (λ same d e. absurd (cc (e)))

-- ---- a device that tells its unique ID

module _ (requests : RequestsAreRequests) (uid : List ℕ) (whole : length uid ≡ 16) (a : ℕ) where
  -- what device a sends is such a request
  pub sends_part : (w : Cluster) → TellsAt a uid w → (frame : Queued) → next_from (w.allocatee a) ≡ Some frame → IsRequestFor uid frame
  sends_part w tells frame e = by (w.allocatee a) refl e
    where
      by : (o : Option Device) → w.allocatee a ≡ o → next_from o ≡ Some frame → IsRequestFor uid frame
      by None there f = absurd (cc (f))
      by (Some d) there f = (tells d there).waits frame (out_of_queue d.asking.queue frame f)

  -- it tells parts behind each calm row
  pub tells_then : (group : List Party) (clocks : Party → ℕ) (pace : Pace) (traffic : Traffic) (w : Cluster) (moment : ℕ) (row : Row)
      → TellsAt a uid w → IsCalmRow group clocks pace traffic w moment row → HearsParts a w row → TellsAt a uid (after_row w row)
  tells_then group clocks pace traffic w moment row tells calm hears = holds_then (λ d. TellsParts uid d.asking) a (tells_on requests uid whole) (tells_popped uid) w
      tells row (λ other pref ms word is. absurd (subst (IsCalmRow group clocks pace traffic w moment) is calm)) hears

-- ---- in all rows

-- a device whose unique ID and preference are as a device's have to be tells parts of it
abbrev pub IsTelling : Device → Type 0
IsTelling d = length d.asking.uid ≡ 16 → d.asking.preferred < 128 → TellsParts d.asking.uid d.asking

module _ (requests : RequestsAreRequests) where
  -- so it does behind its steps
  steps_telling : (d : Device) (number : ℕ) (event : Event) → ((arrival : Arrival) (word : ℕ) → event ≡ device.Rx arrival word → IsSized (answer_to d arrival))
      → IsTelling d → IsTelling (step d number event).device
  steps_telling d number event sized tells size small =
      let same = same_device d number event in
      let whole : length d.asking.uid ≡ 16 = ap length (sym same.0) ∙ size in
      subst (λ (u : List ℕ). TellsParts u (step d number event).device.asking) (sym same.0)
      (tells_on requests d.asking.uid whole d number event sized (tells whole (subst (λ (p : ℕ). p < 128) same.1 small)))

  -- and behind each of these rows
  pub telling_on : (a : ℕ) (whole : List Timed) (w : Cluster) → AllHearParts a w whole → HoldsAt IsTelling a w.allocatee
      → HoldsAt IsTelling a (after_rows w (rows_in whole)).allocatee
  telling_on a [] w hears tells = tells
  telling_on a (timed ∷ rest) w hears tells = telling_on a rest (after_row w timed.row) hears.1
      (holds_then IsTelling a steps_telling (λ d h size small. tells_popped d.asking.uid d (h size small)) w tells timed.row
      (λ uid pref ms word is size small. comes_telling uid pref ms word small) hears.0)
