-- On a calm bus the device is served in time.
use Rattle.std.proofs.Common.{true, ◌≡◌, ◌⊎◌, ℕ, ◌+◌, ◌*◌, ◌<◌, ◌≤◌, Bool, List, [], ◌∷◌, length, inl, inr, refl, ◌∙◌, ap, subst, arith, None, Some, false}
use Rattle.std.specs.Prelude.{nat_eq}
use Rattle.can_frame.specs.declared.entry.Entry.{Entry}
use Rattle.can_frame.specs.Log.{HasPair}
use Rattle.id_selector.specs.Choice.{IsChoice, chosen}
use Rattle.raft_model.specs.Lists.{In}
use Rattle.bus_rows.specs.declared.row.Row.TheVariants.{AOpen}
use Rattle.transfer_tx.specs.Queue.{Queued}
use Rattle.transfer_tx.specs.Run.{of_identifier}
use Rattle.allocatee.specs.Allocatee.{opening}
use Rattle.allocatee.specs.Asking.{request_wait, timer_from}
use Rattle.alloc_spec.specs.AllocatorState.{AllocatorState}
use Rattle.alloc_spec_laws.proofs.Choices.{lt_tells}
use Rattle.bus_agreement.specs.Allocatees.{Holds}
use Rattle.bus_rows.specs.Timed.{Timed}
use Rattle.service_alone.specs.Calm.{AreCalm, Clocks, HappensBy, HappensToDevice, HasPlaceFor, HasServed, HasSettled, IsReady, IsCalmRow, IsInTime, Pace, Traffic, end_of, no_traffic, queue_of, traffic_after}
use Rattle.service_alone.proofs.Asking.{its_own}
use Rattle.service_alone.proofs.CalmAnswering.{answering_end, answering_goes_on}
use Rattle.service_alone.proofs.CalmAsked as asked
use Rattle.service_alone.proofs.CalmGiving.{FitsKnown, FitsNew, Gives as GivesPair, gives_known, gives_new}
use Rattle.service_alone.proofs.Fronts.{happens_behind, so_happens}
use Rattle.service_alone.proofs.Settled.{log_is_injective, serves_it, shows_it}
use Rattle.service_alone.proofs.CalmHearing.{awaits_any}
use Rattle.service_alone.proofs.CalmLawful.{ids_kept, is_lawful}
use Rattle.service_alone.proofs.CalmOnBus as on_bus
use Rattle.service_alone.proofs.CalmPhases.{CalmLaws, Phase, Served, key, wait_end, waiting_goes_on}
use Rattle.service_alone.proofs.CalmRest.{FewWait}
use Rattle.service_alone.proofs.Leads.{status_number}
use Rattle.service_alone.proofs.CalmSide.{AreItsFrames, it, status_apart}
use Rattle.service_alone.proofs.CalmStages.{right_at_first}
use Rattle.service_alone.proofs.Reached.{IsShown}
use Rattle.bus_spec.specs.Allocatees.{is_place}
use Rattle.bus_spec.specs.Lawful.{cause}
use Rattle.bus_spec.specs.Cluster.{Cluster, after_row}

-- frames of NodeStatus are its frames, and none of an Allocation
its_statuses : (n : ℕ) (queue : List Queued) → ((frame : Queued) → In frame queue → frame.id ≡ status_number n) → AreItsFrames n queue
its_statuses n [] statuses = tt
its_statuses n (frame ∷ queue) statuses = (inr (statuses frame (inl refl)), its_statuses n queue (λ other i. statuses other (inr i)))

none_of_it : (n : ℕ) → n ≤ 125 → (queue : List Queued) → ((frame : Queued) → In frame queue → frame.id ≡ status_number n) → of_identifier (it n) queue ≡ []
none_of_it n high [] statuses = refl
none_of_it n high (frame ∷ queue) statuses =
    let z : nat_eq frame.id (it n) ≡ false = ap (λ (k : ℕ). nat_eq k (it n)) (statuses frame (inl refl)) ∙ status_apart n high in
    rw (z) (none_of_it n high queue (λ other i. statuses other (inr i)))

module _ (laws : CalmLaws) (n a : ℕ) (low : 1 ≤ n) (high : n ≤ 125) (uid : List ℕ) (preferred : ℕ) (few : preferred < 128) (log : List Entry) (Fits : ℕ → List Entry → Type 0)
    (place : GivesPair Fits n log uid preferred) (start : ℕ) (clocks : Clocks) (pace : Pace) (quick : pace.period + 4 * pace.delay ≤ 100) where
  abbrev PhaseOf : Traffic → Cluster → Type 0
  PhaseOf traffic w = Phase laws n a low high uid preferred few log Fits place start clocks pace quick traffic w

  abbrev ServedBy : ℕ → Cluster → Type 0
  ServedBy moment w = Served laws n a low high uid preferred few log Fits place start clocks pace quick moment w

  -- each row leaves a phase, or the device is served
  goes_on : (traffic : Traffic) (w : Cluster) (timed : Timed) → PhaseOf traffic w → IsInTime n a clocks pace traffic w timed.at
      → IsCalmRow n a clocks pace traffic w timed.at timed.row
      → (timed.at ≤ start + 2100) × (PhaseOf (traffic_after n a traffic w timed) (after_row w timed.row) ⊎ ServedBy timed.at (after_row w timed.row))
  goes_on traffic w timed (j, two, inl p) in_time calm = (
    wait_end laws n a low high uid preferred few log Fits place start clocks pace quick j two traffic w p timed.at in_time,
    waiting_goes_on laws n a low high uid preferred few log Fits place start clocks pace quick j two traffic w p timed.at in_time timed.row calm,
  )
  goes_on traffic w timed (j, two, inr (inl p)) in_time calm = (
    asked.end laws n a low high uid preferred few log Fits place start clocks pace quick j two traffic w p timed.at in_time,
    asked.asking_goes_on laws n a low high uid preferred few log Fits place start clocks pace quick j two traffic w p timed.at in_time timed.row calm,
  )
  goes_on traffic w timed (j, two, inr (inr (inl p))) in_time calm = (
    on_bus.end laws n a low high uid preferred few log Fits place start clocks pace quick j two traffic w p timed.at in_time,
    on_bus.on_bus_goes_on laws n a low high uid preferred few log Fits place start clocks pace quick j two traffic w p timed.at in_time timed.row calm,
  )
  goes_on traffic w timed (j, two, inr (inr (inr p))) in_time calm = (
    answering_end laws n a low high uid preferred few log Fits place start clocks pace quick j two traffic w p timed.at in_time,
    answering_goes_on laws n a low high uid preferred few log Fits place start clocks pace quick j two traffic w p timed.at in_time timed.row calm,
  )

  then_happens : (traffic : Traffic) (w : Cluster) (timed : Timed) (rest : List Timed) → timed.at ≤ start + 2100 → cause w timed.row ≡ None
      → PhaseOf (traffic_after n a traffic w timed) (after_row w timed.row) ⊎ ServedBy timed.at (after_row w timed.row)
      → (PhaseOf (traffic_after n a traffic w timed) (after_row w timed.row) → HappensBy timed.at (start + 2100) (after_row w timed.row) rest ServedBy)
      → HappensBy traffic.at (start + 2100) w (timed ∷ rest) ServedBy
  then_happens traffic w timed rest by lawful (inl phase) later = happens_behind traffic.at (start + 2100) w timed rest ServedBy lawful (later phase)
  then_happens traffic w timed rest by lawful (inr served) later = record { front = timed ∷ []; rest = rest; split = refl; soon = by; lawful = (lawful, tt); happens = served }

  happens_by : is_place a ≡ true → (traffic : Traffic) (w : Cluster) (whole : List Timed) → w.ids ≡ n ∷ [] → PhaseOf traffic w → traffic.at ≤ start + 2100 → AreCalm n a clocks pace traffic w whole
      → start + 2100 < end_of traffic.at whole → HappensBy traffic.at (start + 2100) w whole ServedBy
  happens_by at_place traffic w [] ids phase early calm long = absurd (omega (arith, early, long))
  happens_by at_place traffic w (timed ∷ rest) ids phase early calm long =
      let g = goes_on traffic w timed phase calm.0 calm.1 in
      then_happens traffic w timed rest g.0 (is_lawful laws n a low high uid preferred few log Fits place start clocks pace quick at_place traffic w ids timed.at calm.0 phase timed.row calm.1) g.1
      (λ p. happens_by at_place (traffic_after n a traffic w timed) (after_row w timed.row) rest (ids_kept w timed.row ∙ ids) p g.0 calm.2 long)

  -- ---- the device comes

  module _ (word : ℕ) (w : Cluster) (shown : IsShown w) (ids : w.ids ≡ n ∷ []) (rests : IsReady n log (start + clocks.allocator) w) where
    abbrev h : HasSettled n log (start + clocks.allocator) w
    h = rests.settled

    abbrev t : AllocatorState
    t = h.server

    queue_is : queue_of (w.member n).status ≡ t.queue
    queue_is = ap queue_of h.runs

    statuses : (frame : Queued) → In frame t.queue → frame.id ≡ status_number n
    statuses = subst (λ (q : List Queued). (frame : Queued) → In frame q → frame.id ≡ status_number n) queue_is rests.statuses

    few_wait : FewWait (start + clocks.allocator) 1 t
    few_wait = let e = rests.few in let l = ap length queue_is in elim (lt_tells t.status_at (start + clocks.allocator)) [
      | inl z ↦ inl (z.1, omega (arith, e, l))
      | inr z ↦ inr (z.1, let s = h.status in omega (arith, s), omega (arith, e, l, z.1))
    ]

    abbrev come : Cluster
    come = after_row w (AOpen a uid preferred (start + clocks.device) word)

    waits : PhaseOf (no_traffic start) come
    waits = (
      2,
      omega arith,
      inl (record {
        due = start + request_wait word;
        sessions = [];
        common = record {
          accepted = t.accepted;
          next = t.ids.alloc;
          stages = 1;
          server = t;
          flying = [];
          side = record {
            serves = serves_it n log (start + clocks.allocator) w shown ids h;
            few = few_wait;
            rest_is = none_of_it n high t.queue statuses;
            up = record { status = h.runs; quiet = record { faults = h.faults; calls = h.disk } };
            carry = tt;
            flying_its = tt;
            queue_its = its_statuses n t.queue statuses;
            clock = h.clock;
            requests = h.requests;
            since = omega arith;
            waits = omega arith;
            ticked = omega arith;
          };
          small = (shows_it n log (start + clocks.allocator) w shown ids h).runs.sound.ids.alloc;
          few_stages = omega arith;
          early = omega arith;
          soon = omega arith;
          awaits = awaits_any (key laws n a low high uid preferred few log Fits place start clocks pace quick) (start + 2100 + clocks.device) t.ids.alloc;
          right = right_at_first uid place.whole preferred t.accepted (start + clocks.allocator) (start + request_wait word + clocks.allocator)
              (start + request_wait word + pace.period + 2 * pace.delay + clocks.allocator) h.requests (omega arith);
        };
        id = 0;
        moment = start + clocks.device;
        request = timer_from (start + clocks.device) (request_wait word);
        follow_up = None;
        there = its_own w a (Some (opening uid preferred (start + clocks.device) word));
        small = omega arith;
        read = omega arith;
        nothing = refl;
        waits_for = (refl, omega arith, omega arith);
        ticked = omega arith;
      }),
    )

    -- it is served in time
    pub is_served_in_time : is_place a ≡ true → (whole : List Timed) → AreCalm n a clocks pace (no_traffic start) come whole → start + 2100 < end_of start whole
        → HappensBy start (start + 2100) come whole ServedBy
    is_served_in_time at_place whole calm long = happens_by at_place (no_traffic start) come whole ids waits (omega arith) calm long

-- ---- whatever it prefers, and whenever it comes

-- a device whose unique ID is new
pub serves_new : (laws : CalmLaws) → ((ids : List Bool) (preferred : ℕ) → IsChoice ids preferred (chosen ids preferred)) → (n : ℕ) → 1 ≤ n → n ≤ 125
    → (w : Cluster) → IsShown w → w.ids ≡ n ∷ [] → (log : List Entry) (start : ℕ) (clocks : Clocks) → IsReady n log (start + clocks.allocator) w
    → (uid : List ℕ) → HasPlaceFor n log uid → HappensToDevice n w start clocks uid (HasServed n log uid)
serves_new laws choice n low high w shown ids log start clocks rests uid place = λ a preferred word pace whole at_place few quick calm long.
    let pair = gives_new choice n log uid preferred place in
    so_happens start (start + 2100) (after_row w (AOpen a uid preferred (start + clocks.device) word)) whole
    (ServedBy laws n a low high uid preferred few log (FitsNew n log uid) pair start clocks pace quick)
    (λ moment. HasServed n log uid a (moment + clocks.allocator))
    (λ moment v h. (h.0, h.2.0, h.3, (h.2.1.0, subst (λ (l : List Entry). HasSettled n l (moment + clocks.allocator) v) h.2.1.1 h.4)))
    (is_served_in_time laws n a low high uid preferred few log (FitsNew n log uid) pair start clocks pace quick word w shown ids rests at_place whole calm long)

-- a device whose unique ID stands in the log
pub serves_known : (laws : CalmLaws) (n : ℕ) → 1 ≤ n → n ≤ 125
    → (w : Cluster) → IsShown w → w.ids ≡ n ∷ [] → (log : List Entry) (start : ℕ) (clocks : Clocks) → IsReady n log (start + clocks.allocator) w
    → (uid : List ℕ) (node : ℕ) → length uid ≡ 16 → HasPair log uid node
    → HappensToDevice n w start clocks uid (λ a now later. Holds later a uid node × HasSettled n log now later)
serves_known laws n low high w shown ids log start clocks rests uid node sixteen pair = λ a preferred word pace whole at_place few quick calm long.
    let known = gives_known n log uid preferred node sixteen pair (log_is_injective n log (start + clocks.allocator) w shown ids rests.settled) in
    so_happens start (start + 2100) (after_row w (AOpen a uid preferred (start + clocks.device) word)) whole
    (ServedBy laws n a low high uid preferred few log (FitsKnown log node) known start clocks pace quick)
    (λ moment later. Holds later a uid node × HasSettled n log (moment + clocks.allocator) later)
    (λ moment v h. (subst (λ (k : ℕ). Holds v a uid k) h.2.0 h.3, subst (λ (l : List Entry). HasSettled n l (moment + clocks.allocator) v) h.2.1 h.4))
    (is_served_in_time laws n a low high uid preferred few log (FitsKnown log node) known start clocks pace quick word w shown ids rests at_place whole calm long)
