-- A request is under way, in the device's queue or on the bus: rows that do not move it leave it so.
use Rattle.std.proofs.Common.{◌≡◌, ℕ, ◌+◌, ◌*◌, ◌<◌, ◌≤◌, true, List, [], ◌∷◌, length, inr, refl, sym, ◌∙◌, ap, subst, arith, None, Some}
use Rattle.std.specs.Prelude.{is_some}
use Rattle.can_frame.specs.declared.entry.Entry.{Entry}
use Rattle.bus_rows.specs.declared.row.Row.{Row}
use Rattle.bus_rows.specs.declared.row.Row.TheVariants.{ARx, ATick, Send, Tick}
use Rattle.transfer_rx.specs.Sessions.{Session}
use Rattle.transfer_tx.specs.Queue.{Queued}
use Rattle.allocatee.specs.Allocatee as device
use Rattle.allocatee.specs.declared.timer.Timer.{Timer}
use Rattle.service_alone.specs.Calm.{Clocks, IsNext, Pace, Traffic, traffic_after}
use Rattle.service_alone.proofs.CalmDevice.{device_as, ticks_quietly}
use Rattle.service_alone.proofs.CalmGiving.{Gives as GivesPair}
use Rattle.service_alone.proofs.CalmPhases.{CalmLaws, CommonOf, device_ignores, key, status_of_kind}
use Rattle.service_alone.proofs.CalmSide.{carry_more, side_sends}
use Rattle.service_alone.proofs.CalmStages.{common_gets, common_kept, common_sends, common_ticks, device_steps, has_not_passed}
use Rattle.bus_spec.specs.Cluster.{Cluster, after_row, frame_at}
use Rattle.bus_spec.specs.Members.{next_frame}

module _ (laws : CalmLaws) (n a : ℕ) (low : 1 ≤ n) (high : n ≤ 125) (uid : List ℕ) (preferred : ℕ) (few : preferred < 128) (log : List Entry) (Fits : ℕ → List Entry → Type 0)
    (place : GivesPair Fits n log uid preferred) (start : ℕ) (clocks : Clocks) (pace : Pace) (quick : pace.period + 4 * pace.delay ≤ 100) where
  module _ (j due : ℕ) (sessions : List Session) (traffic : Traffic) (w : Cluster) (c : CommonOf laws n a low high uid preferred few log Fits place start clocks pace quick j due sessions traffic w)
      (queue : List Queued) (id moment : ℕ) (request : Timer) (there : w.allocatee a ≡ Some (device_as uid preferred queue id moment request None sessions))
      (had_read : moment ≤ traffic.at + clocks.device) (at : ℕ) (later : traffic.at ≤ at) (end : at ≤ start + 2100)
      (early : at + clocks.device < request.since + request.length) (long : 1 ≤ request.length) (Goal : Row → Type 0) where
    abbrev then_traffic : Row → Traffic
    then_traffic row = traffic_after n a traffic w (record { at = at; row = row })

    -- the frames of the bus are there still
    abbrev pub FramesStay : Row → Type 0
    FramesStay row = (k : ℕ) → 1 ≤ k → k ≤ length w.frames → (k ≤ length (after_row w row).frames) × (frame_at (after_row w row).frames k ≡ frame_at w.frames k)

    -- where the device is as it was, but for its clock, and nothing more is on its way to the allocator
    abbrev pub StaysSo : Type 0
    StaysSo = (row : Row) → CommonOf laws n a low high uid preferred few log Fits place start clocks pace quick j due sessions (then_traffic row) (after_row w row) → (now : ℕ)
        → (after_row w row).allocatee a ≡ Some (device_as uid preferred queue id now request None sessions) → now ≤ at + clocks.device
        → (then_traffic row).to_allocator ≡ traffic.to_allocator → FramesStay row → Goal row

    -- so it is behind these rows
    pub record Pends : Type 0 where
      pub tick : (word : ℕ) → Goal (Tick n (at + clocks.allocator) word)
      pub send : is_some (next_frame (w.member n).status) ≡ true → Goal (Send n)
      pub frame : (k word : ℕ) → IsNext k traffic.to_device → Goal (ARx a k (at + clocks.device) word)
      pub read : (word : ℕ) → Goal (ATick a (at + clocks.device) word)

    read_on : moment ≤ at + clocks.device
    read_on = omega (arith, had_read, later)

    pub pends : StaysSo → Pends
    pends stays = record {
      tick = λ word. stays (Tick n (at + clocks.allocator) word)
          (common_ticks n a high uid place.whole preferred log start clocks pace (key laws n a low high uid preferred few log Fits place start clocks pace quick) j due sessions traffic w c at later word end)
          moment there read_on refl (λ k some inside. (inside, refl));
      send = λ some. stays (Send n)
          (common_sends n a high uid place.whole preferred log start clocks pace (key laws n a low high uid preferred few log Fits place start clocks pace quick) j due sessions traffic w c at later some)
          moment there read_on refl (λ k one inside.
          let s = side_sends n a start high clocks log c.accepted c.next c.stages [] c.server c.flying traffic w c.side at later some in
          let m = carry_more w.frames ((record { number = k; since = at }) ∷ []) (frame_at w.frames k ∷ []) s.0 (one, inside, refl, tt) in
          (subst (λ (l : List Queued). k ≤ length l) (sym s.1.frames) m.1, ap (λ (l : List Queued). frame_at l k) s.1.frames ∙ m.2));
      frame = λ k word is.
          let g = common_gets n a high uid place.whole preferred log start clocks pace (key laws n a low high uid preferred few log Fits place start clocks pace quick) j due sessions traffic w c at later k word is in
          stays (ARx a k (at + clocks.device) word) g.2 (at + clocks.device)
          (device_ignores laws n a low high uid preferred few log Fits place start clocks pace quick w queue id moment request None sessions k (at + clocks.device) word g.0.frame there g.0.frame_is_it
          (status_of_kind laws n a low high uid preferred few log Fits place start clocks pace quick g.0.frame g.0.kind g.1) read_on)
          (omega arith) refl (λ m some inside. (inside, refl));
      read = λ word. stays (ATick a (at + clocks.device) word)
          (common_kept n a high uid place.whole preferred log start clocks pace (key laws n a low high uid preferred few log Fits place start clocks pace quick) j due sessions traffic w c at later
          (ATick a (at + clocks.device) word) refl c.side.carry)
          (at + clocks.device)
          (device_steps w a (device.Tick (at + clocks.device) word) (device_as uid preferred queue id moment request None sessions)
          (device_as uid preferred queue id (at + clocks.device) request None sessions) there
          (ticks_quietly uid preferred id moment (at + clocks.device) read_on request sessions (w.rows + 1) word queue None refl
          (has_not_passed (at + clocks.device) request early (inr long))))
          (omega arith) refl (λ k some inside. (inside, refl));
    }
