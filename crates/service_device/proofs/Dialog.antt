-- A device that has just come is heard out in time, in a calm in which the leader has settled.
use Rattle.std.proofs.Common.{◌≡◌, ◌≢◌, ℕ, ◌+◌, ◌*◌, ◌<◌, ◌≤◌, List, [], ◌∷◌, ◌++◌, refl, ap, arith, inl, inr, None}
use Rattle.std.specs.Prelude.{⊤}
use Rattle.alloc_exchange.specs.Exchange.{Accepted}
use Rattle.raft_model.specs.Lists.{In}
use Rattle.bus_rows.specs.declared.row.Row.{Row}
use Rattle.bus_rows.specs.declared.row.Row.TheVariants.{AEnd, AOpen, ARx, ASend, ATick, Crash, Ext, Fault, Open, Rx, Send, Tick}
use Rattle.bus_rows.specs.Timed.{Timed, rows_in}
use Rattle.service_alone.specs.Calm.{end_of}
use Rattle.service_calm.specs.Calm.{AreCalm, IsCalmRow, IsInTime, Member as OfMember, Traffic, traffic_after}
use Rattle.service_calm.specs.Comes.{Throughout}
use Rattle.service_calm.specs.Devices.{DeviceHasMemory}
use Rattle.service_device.specs.Dialog.{HasRoomToTell, HearsWholeBy, WaitsToBeTold}
use Rattle.service_leader.specs.LeadsOn.{FollowsWithin}
use Rattle.service_device.specs.Settled.{IsSettled, StaysSettled}
use Rattle.service_device.proofs.DialogAnswering.{answer_end, answering_goes_on, bus_end, bus_goes_on}
use Rattle.service_device.proofs.DialogFrames.{HasSource}
use Rattle.service_device.proofs.DialogPhases.{FromBus, Next, Phase, ahead, asked_end, asking_goes_on, its_clock, last, on_way, wait_end, waiting_goes_on}
use Rattle.service_device.proofs.DialogOthers.{IsSilent, brings_none, silent_on}
use Rattle.service_device.proofs.DialogScene.{BringsNone, Known, Talk}
use Rattle.service_calm.proofs.Group.{AreWell, well_after}
use Rattle.service_calm.proofs.Ways.{flying_late}
use Rattle.service_alone.proofs.CalmDevice.{device_as}
use Rattle.service_calm.proofs.Grounds.{calm_laws}
use Rattle.bus_spec.specs.Cluster.{Cluster, after_row, after_rows}

module _ (g : Talk) where
  -- ---- each row leaves a phase, or the leader hears the whole unique ID

  pub goes_on : (traffic : Traffic) (w : Cluster) (timed : Timed) → Phase g traffic w → IsInTime g.group g.clocks g.pace traffic w timed.at
      → IsCalmRow g.group g.clocks g.pace traffic w timed.at timed.row → Known g traffic.at w timed → (timed.at ≤ last g) × Next g traffic w timed
  goes_on traffic w timed (j, two, inl p) in_time calm known = (
    wait_end g j two traffic w p timed.at in_time,
    waiting_goes_on g j two traffic w p timed.at in_time timed.row calm known,
  )
  goes_on traffic w timed (j, two, inr (inl p)) in_time calm known = (
    asked_end g j two traffic w p timed.at in_time,
    asking_goes_on g j two traffic w p timed.at in_time timed.row calm known,
  )
  goes_on traffic w timed (j, two, inr (inr (inl p))) in_time calm known = (
    bus_end g j two traffic w p timed.at in_time,
    bus_goes_on g j two traffic w p timed.at in_time timed.row calm known,
  )
  goes_on traffic w timed (j, two, inr (inr (inr (one, p)))) in_time calm known = (
    answer_end g j one traffic w p timed.at in_time,
    answering_goes_on g j one traffic w p timed.at in_time timed.row calm known,
  )

  -- what is known of each row
  abbrev pub AllKnown : ℕ → Cluster → List Timed → Type 0
  AllKnown moment w [] = ⊤
  AllKnown moment w (timed ∷ rest) = Known g moment w timed × AllKnown timed.at (after_row w timed.row) rest

  abbrev HeardBy : ℕ → Cluster → List Timed → Type 0
  HeardBy moment w rows = HearsWholeBy g.n g.a g.log (ahead g) (2 * g.pace.delay + its_clock g) g.uid g.preferred moment (last g) w rows

  -- the device that asked waits to be told
  still_waits : (traffic : Traffic) (w : Cluster) (timed : Timed) → FromBus g traffic w timed → IsInTime g.group g.clocks g.pace traffic w timed.at
      → WaitsToBeTold g.a g.uid (timed.at + (2 * g.pace.delay + its_clock g)) w
  still_waits traffic w timed (p, k, ms, is, same, fly) in_time = record {
    device = device_as g.uid g.preferred [] p.asker.id p.asker.moment p.request None p.asker.sessions;
    there = p.asker.there;
    its_uid = refl;
    none_yet = refl;
    asked_all = refl;
    quiet =
        let by = flying_late HasSource g.pace.delay w.frames timed.at (traffic.to (OfMember g.n)) (on_way g p.due p.frame ∷ []) p.scene.requests
        (in_time.hears (OfMember g.n) g.in_n) (on_way g p.due p.frame) (inl refl) in
        let q = p.quiet.0 in let v = g.quick in omega (arith, by, q, v);
  }

  behind : (moment : ℕ) (w : Cluster) (timed : Timed) (rest : List Timed) → HeardBy timed.at (after_row w timed.row) rest → HeardBy moment w (timed ∷ rest)
  behind moment w timed rest by = record {
    front = timed ∷ by.front;
    timed = by.timed;
    rest = by.rest;
    split = ap (λ (l : List Timed). timed ∷ l) by.split;
    soon = by.soon;
    settled = by.settled;
    hears = by.hears;
    waits = by.waits;
  }

  pub heard_by : (rows : List Timed) (traffic : Traffic) (w : Cluster) → Phase g traffic w → AreCalm g.group g.clocks g.pace traffic w rows → AllKnown traffic.at w rows
      → traffic.at ≤ last g → last g < end_of traffic.at rows → HeardBy traffic.at w rows
  heard_by [] traffic w phase calm known now long = absurd (omega (arith, now, long))
  heard_by (timed ∷ rest) traffic w phase calm known now long =
      let r = goes_on traffic w timed phase calm.0 calm.1 known.0 in
      elim r.1 [
        | inl then_phase ↦ behind traffic.at w timed rest
            (heard_by rest (traffic_after traffic w timed) (after_row w timed.row) then_phase calm.2 known.1 r.0 long)
        | inr heard ↦ record {
          front = [];
          timed = timed;
          rest = rest;
          split = refl;
          soon = r.0;
          settled = heard.0;
          hears = heard.1;
          waits = still_waits traffic w timed heard.2 calm.0;
        }
      ]

  -- ---- what is known of each row, by what is said of all

  -- who brings a frame of an Allocation to the bus is n
  brings : (traffic : Traffic) (w : Cluster) (at_ : ℕ)
      → ((m : ℕ) (i : In (OfMember m) g.group) → m ≢ g.n → IsSilent (calm_laws g.below.calm) g.group g.clocks g.pace m (g.nodes m i) (traffic.at + g.clocks (OfMember m)) w)
      → (row : Row) → IsCalmRow g.group g.clocks g.pace traffic w at_ row → BringsNone g.n w row
  brings traffic w at_ silent (Send p) calm =
      λ differ frame e. brings_none (calm_laws g.below.calm) g.group g.clocks g.pace p (g.nodes p calm.0) (traffic.at + g.clocks (OfMember p)) w (silent p calm.0 differ) frame e
  brings traffic w at_ silent (Tick p ms word) calm = tt
  brings traffic w at_ silent (Rx p k ms) calm = tt
  brings traffic w at_ silent (ATick b ms word) calm = tt
  brings traffic w at_ silent (ARx b k ms word) calm = tt
  brings traffic w at_ silent (ASend b) calm = tt
  brings traffic w at_ silent (Open p told ms word) calm = tt
  brings traffic w at_ silent (Ext frame) calm = tt
  brings traffic w at_ silent (Crash p calls pattern) calm = tt
  brings traffic w at_ silent (Fault p call) calm = tt
  brings traffic w at_ silent (AOpen b uid pref ms word) calm = tt
  brings traffic w at_ silent (AEnd b) calm = tt

  pub all_known : (term : ℕ) (rows : List Timed) (traffic : Traffic) (w : Cluster) → AreWell g.group w → AreCalm g.group g.clocks g.pace traffic w rows
      → ((m : ℕ) (i : In (OfMember m) g.group) → m ≢ g.n → IsSilent (calm_laws g.below.calm) g.group g.clocks g.pace m (g.nodes m i) (traffic.at + g.clocks (OfMember m)) w)
      → ((front rest : List Timed) → rows ≡ front ++ rest → (m : ℕ) → In (OfMember m) g.group → m ≢ g.n → FollowsWithin m term (after_rows w (rows_in front)))
      → Throughout (DeviceHasMemory g.a) w rows → Throughout (HasRoomToTell g.n) w rows
      → ((front rest : List Timed) (timed : Timed) → rows ≡ front ++ timed ∷ rest → (accepted : List Accepted)
      → IsSettled g.n g.log accepted (end_of traffic.at front + ahead g) (after_rows w (rows_in front))
      → StaysSettled g.n g.log accepted (timed.at + ahead g) (after_rows w (rows_in front)) timed.row)
      → AllKnown traffic.at w rows
  all_known term [] traffic w well calm silent led memory room leaves = tt
  all_known term (first ∷ rows) traffic w well calm silent led memory room leaves = (
    record {
      leaves = leaves [] rows first refl;
      memory = memory.0;
      room = room.0;
      others = brings traffic w first.at silent first.row calm.1;
    },
    all_known term rows (traffic_after traffic w first) (after_row w first.row) (well_after (calm_laws g.below.calm) g.group g.nodes w well g.clocks g.pace traffic first.at first.row calm.1) calm.2
        (λ m i differ. silent_on (calm_laws g.below.calm) g.group g.clocks g.pace m (g.nodes m i) traffic w first.at term well (silent m i differ) calm.0.moments
        (led [] (first ∷ rows) refl m i differ) first.row calm.1 (led (first ∷ []) rows refl m i differ))
        (λ front rest e. led (first ∷ front) rest (ap (λ (l : List Timed). first ∷ l) e))
        memory.1 room.1
        (λ front rest timed e. leaves (first ∷ front) rest timed (ap (λ (l : List Timed). first ∷ l) e)),
  )
