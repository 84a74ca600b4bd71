use Rattle.std.proofs.Common.{◌≡◌, ◌≢◌, ℕ, ◌+◌, ◌<◌, ◌≤◌, List, true, false, Bool, [], ◌∷◌, refl, ap, sym, ◌∙◌, subst, take, drop, inl, inr, arith, Some}
use Rattle.std.specs.Prelude.{◌⊎◌, ◌&&◌, ◌||◌, ◌==◌, not}
use Rattle.can_frame.specs.declared.step.What.TheVariants.{AppQ}
use Rattle.can_frame.specs.Cutting.{frames_of, payload_of}
use Rattle.can_frame.specs.Identifier.{identifier_of}
use Rattle.can_frame.specs.Timing.{election_wait}
use Rattle.can_frame.specs.TransferCrc.{bits_of, crc_of, divide, number_of}
use Rattle.node_discovery.specs.Watch.{next_query}
use Rattle.raft_model.specs.Lists.{In}
use Rattle.bus_rows.specs.declared.row.Row.{Row}
use Rattle.bus_rows.specs.declared.row.Row.TheVariants.{Send, Tick}
use Rattle.transfer_rx.specs.declared.key.Key.{Key}
use Rattle.transfer_rx.specs.Acceptance.{wanted}
use Rattle.transfer_rx.specs.Keys.{key_of}
use Rattle.transfer_rx.specs.Outcome.{blocks_used, fits_no_part, fits_no_payload, outcome}
use Rattle.transfer_rx.specs.Reassembly.{session_step, step as frame_step}
use Rattle.transfer_rx.specs.Sessions.{Session, session_for}
use Rattle.transfer_tx.specs.Queue.{left_behind, next_out, queued_frames}
use Rattle.alloc_spec.specs.Accepted.{rows}
use Rattle.alloc_spec.specs.AllocatorState.{AllocatorState, members_of}
use Rattle.alloc_spec.specs.Delivered.{delivery_phase}
use Rattle.alloc_spec.specs.Judging.{arrival_judgement, brings_void}
use Rattle.alloc_spec.specs.Step.{Event, all_nodes, step}
use Rattle.alloc_spec.specs.Transfers.{Offer, id_of, ident_of}
use Rattle.alloc_spec_laws.proofs.Choices.{and_left, and_right, eq_false, eq_true, not_true, tell}
use Rattle.allocatee.specs.Accepted.{rows as device_rows}
use Rattle.allocatee.specs.Allocatee.{step as device_step}
use Rattle.allocatee.specs.Judging.{arrival_judgement as device_judgement}
use Rattle.bus_rows.specs.Timed.{rows_in}
use Rattle.service_alone.specs.Calm.{NoneIsLate}
use Rattle.service_calm.specs.Calm.{Device, IsInTime, IsRunning, Member, Party, Traffic, queue_in}
use Rattle.service_calm.specs.CalmExample.{clocks, two}
use Rattle.service_calm.specs.CallsInTime.{OffersCall}
use Rattle.service_calm.specs.Comes.{HasMemory, Throughout}
use Rattle.service_leader.specs.LeadsOn.{FollowsWithin}
use Rattle.service_leader.specs.NoElection.{WillHear, heard_within}
use Rattle.service_leader.specs.NoElectionExample.{both, heartbeat_offer, heartbeat_rows, led_start, led_world, slow_pace}
use Rattle.service_calm.specs.Sessions.{Admits, AllAdmit}
use Rattle.service_calm.proofs.Examples.{has_memory, of_server, server_in, up_is}
use Rattle.service_calm.proofs.Pair.{same_event, same_server, same_stepper}
use Rattle.service_leader.proofs.laws.no_election_can_be.Goals as goal
use Rattle.bus_spec.specs.Cluster.{Cluster, after_rows, receipt_of, step_of, tick_of}
use Rattle.bus_spec.specs.Members.MemberStatus.{Up}

-- what holds of both members holds of each party
of_both : (Holds : Party → Type 0) → Holds (Member 1) → Holds (Member 2) → (party : Party) → In party both → Holds party
of_both Holds first second party (inl e) = subst Holds (sym e) first
of_both Holds first second party (inr (inl e)) = subst Holds (sym e) second
of_both Holds first second party (inr (inr i)) = absurd i

abbrev number_in : Party → ℕ
number_in (Member n) = n
number_in (Device a) = a

of_numbers : (Holds : ℕ → Type 0) → Holds 1 → Holds 2 → (n : ℕ) → In (Member n) both → Holds n
of_numbers Holds first second n (inl e) = subst Holds (sym (ap number_in e)) first
of_numbers Holds first second n (inr (inl e)) = subst Holds (sym (ap number_in e)) second
of_numbers Holds first second n (inr (inr i)) = absurd i

-- the world before the row at this place
abbrev before : ℕ → Cluster
before place = after_rows led_world (rows_in (take place heartbeat_rows))

-- a moment by which no time is exceeded
in_time : (traffic : Traffic) (w : Cluster) (at : ℕ) → traffic.at ≤ at → at ≤ traffic.ticked (Member 1) + 400 → at ≤ traffic.ticked (Member 2) + 400
    → (queue_in w (Member 1) ≢ [] → at ≤ traffic.waits (Member 1) + 10) → (queue_in w (Member 2) ≢ [] → at ≤ traffic.waits (Member 2) + 10)
    → NoneIsLate at 10 (traffic.to (Member 1)) → NoneIsLate at 10 (traffic.to (Member 2)) → IsInTime both clocks slow_pace traffic w at
in_time traffic w at moments one two one_sends two_sends one_hears two_hears = record {
  moments = moments;
  ticks = of_both (λ party. at ≤ traffic.ticked party + 400) one two;
  sends_soon = of_both (λ party. queue_in w party ≢ [] → at ≤ traffic.waits party + 10) one_sends two_sends;
  hears = of_both (λ party. NoneIsLate at 10 (traffic.to party)) one_hears two_hears;
}

pub returns-clause-harmless : goal.returns-clause-harmless
unfolding step all_nodes queued_frames next_out left_behind frames_of frame_step outcome fits_no_payload fits_no_part payload_of delivery_phase session_step session_for wanted identifier_of rows blocks_used bits_of crc_of divide number_of device_step device_rows next_query arrival_judgement device_judgement brings_void
returns-clause-harmless c = (
  inl refl,
  (
    inl refl,
    (
      inl refl,
      (
        inl refl,
        (
          inl refl,
          (
            inl refl,
            (
              inl refl,
              (
                inl refl,
                (
                  inl refl,
                  (
                    inl refl,
                    (
                      inl refl,
                      (
                        inl refl,
                        (
                          inl refl,
                          (
                            inl refl,
                            (
                              inl refl,
                              (
                                inl refl,
                                (inl refl, (inl refl, (inl refl, (inl refl, (inl refl, (inl refl, tt)))))),
                              ),
                            ),
                          ),
                        ),
                      ),
                    ),
                  ),
                ),
              ),
            ),
          ),
        ),
      ),
    ),
  ),
)

pub returns-clause-listed : goal.returns-clause-listed
returns-clause-listed c = of_numbers (λ p. In p two) (inl refl) (inr (inl refl))

-- both members run
up_one : (led_world.member 1).status ≡ Up (server_in (led_world.member 1).status)
unfolding step all_nodes queued_frames next_out left_behind frames_of frame_step outcome fits_no_payload fits_no_part payload_of delivery_phase session_step session_for wanted identifier_of rows blocks_used bits_of crc_of divide number_of device_step device_rows next_query
up_one = up_is (led_world.member 1).status refl

up_two : (led_world.member 2).status ≡ Up (server_in (led_world.member 2).status)
unfolding step all_nodes queued_frames next_out left_behind frames_of frame_step outcome fits_no_payload fits_no_part payload_of delivery_phase session_step session_for wanted identifier_of rows blocks_used bits_of crc_of divide number_of device_step device_rows next_query
up_two = up_is (led_world.member 2).status refl

pub returns-clause-running : goal.returns-clause-running
unfolding step all_nodes queued_frames next_out left_behind frames_of frame_step outcome fits_no_payload fits_no_part payload_of delivery_phase session_step session_for wanted identifier_of rows blocks_used bits_of crc_of divide number_of device_step device_rows next_query
returns-clause-running c = of_numbers (λ n. IsRunning n led_world)
    (record { server = server_in (led_world.member 1).status; runs = up_one; faults = 0; disk = refl })
    (record { server = server_in (led_world.member 2).status; runs = up_two; faults = 0; disk = refl })

pub returns-clause-leader : goal.returns-clause-leader
returns-clause-leader c = inl refl

pub returns-clause-led : goal.returns-clause-led
unfolding step all_nodes queued_frames next_out left_behind frames_of frame_step outcome fits_no_payload fits_no_part payload_of delivery_phase session_step session_for wanted identifier_of rows blocks_used bits_of crc_of divide number_of device_step device_rows next_query
returns-clause-led c = record {
  leader = record { server = server_in (led_world.member 1).status; runs = up_one; leads = refl; its_term = refl };
  others = of_numbers (λ m. m ≢ 1 → FollowsWithin m 1 led_world) (λ other. absurd (other refl))
      (λ other. record { server = server_in (led_world.member 2).status; runs = up_two; follows = refl; its_term = omega arith });
}

pub returns-clause-short : goal.returns-clause-short
returns-clause-short c = omega arith

pub returns-clause-clocks : goal.returns-clause-clocks
unfolding step all_nodes queued_frames next_out left_behind frames_of frame_step outcome fits_no_payload fits_no_part payload_of delivery_phase session_step session_for wanted identifier_of rows blocks_used bits_of crc_of divide number_of device_step device_rows next_query
returns-clause-clocks c = of_numbers (λ p. (server : AllocatorState) → (led_world.member p).status ≡ Up server → server.now ≤ led_start + clocks (Member p))
    (of_server (λ t. t.now ≤ 2130) (led_world.member 1).status (omega arith)) (of_server (λ t. t.now ≤ 2230) (led_world.member 2).status (omega arith))

memory : Throughout (HasMemory 2) led_world heartbeat_rows
unfolding step all_nodes queued_frames next_out left_behind frames_of frame_step outcome fits_no_payload fits_no_part payload_of delivery_phase session_step session_for wanted identifier_of rows blocks_used bits_of crc_of divide number_of device_step device_rows next_query
memory = (
  has_memory (before 0) (omega arith) (omega arith),
  (
    has_memory (before 1) (omega arith) (omega arith),
    (
      has_memory (before 2) (omega arith) (omega arith),
      (
        has_memory (before 3) (omega arith) (omega arith),
        (
          has_memory (before 4) (omega arith) (omega arith),
          (
            has_memory (before 5) (omega arith) (omega arith),
            (
              has_memory (before 6) (omega arith) (omega arith),
              (
                has_memory (before 7) (omega arith) (omega arith),
                tt,
              ),
            ),
          ),
        ),
      ),
    ),
  ),
)

abbrev is_none : {A : Type 0} → List A → Bool
is_none [] = true
is_none (x ∷ xs) = false

-- the session expects this transfer ID next, and nothing of it came
abbrev is_next : ℕ → Session → Bool
is_next id session = (session.expected == id) && (is_none session.taken && is_none session.marks)

-- each session is of another data type, or expects this transfer ID next
abbrev each_admits : Key → ℕ → List Session → Bool
each_admits key id [] = true
each_admits key id (session ∷ sessions) = (is_next id session || not (session.key.number == key.number)) && each_admits key id sessions

none_is : {A : Type 0} (xs : List A) → is_none xs ≡ true → xs ≡ []
none_is [] e = refl
none_is (x ∷ xs) e = absurd (cc (e))

or_right : (a b : Bool) → a ≡ false → (a || b) ≡ true → b ≡ true
or_right true b e h = absurd (cc (e))
or_right false b e h = h

all_admit : (now : ℕ) (key : Key) (id : ℕ) (sessions : List Session) → each_admits key id sessions ≡ true → AllAdmit now key id sessions
all_admit now key id [] all = tt
all_admit now key id (session ∷ sessions) all = (
  λ same recent. by (tell (is_next id session)) same,
  all_admit now key id sessions (and_right (is_next id session || not (session.key.number == key.number)) (each_admits key id sessions) all),
)
  where
    here : (is_next id session || not (session.key.number == key.number)) ≡ true
    here = and_left (is_next id session || not (session.key.number == key.number)) (each_admits key id sessions) all

    by : (is_next id session ≡ true) ⊎ (is_next id session ≡ false) → session.key ≡ key → Admits id session
    by (inl expected) same =
        let empty = and_right (session.expected == id) (is_none session.taken && is_none session.marks) expected in
        inl (
          eq_true session.expected id (and_left (session.expected == id) (is_none session.taken && is_none session.marks) expected),
          none_is session.taken (and_left (is_none session.taken) (is_none session.marks) empty),
          none_is session.marks (and_right (is_none session.taken) (is_none session.marks) empty),
        )
    by (inr other) same =
        let differs = not_true (session.key.number == key.number) (or_right (is_next id session) (not (session.key.number == key.number)) other here) in
        absurd (eq_false session.key.number key.number differs (ap (λ (k : Key). k.number) same))

pub returns-clause-will : goal.returns-clause-will
unfolding step all_nodes queued_frames next_out left_behind frames_of frame_step outcome fits_no_payload fits_no_part payload_of delivery_phase session_step session_for wanted identifier_of rows blocks_used bits_of crc_of divide number_of device_step device_rows next_query
returns-clause-will c = of_numbers (λ m. m ≢ 1 → WillHear 1 m (led_start + clocks (Member m) + heard_within slow_pace) led_world [] heartbeat_rows)
    (λ other. absurd (other refl))
    (λ other. record {
      calls = of_server (λ t. In 2 (members_of t)) (led_world.member 1).status (inr (inl refl));
      hears = of_server (λ t. In 1 (members_of t)) (led_world.member 2).status (inr (inl refl));
      ready = record {
        sender = server_in (led_world.member 1).status;
        sends = up_one;
        none_waits = refl;
        receiver = server_in (led_world.member 2).status;
        receives = up_two;
      };
      first_call = all_admit (server_in (led_world.member 2).status).now (key_of (ident_of 1 AppQ 2)) (id_of (server_in (led_world.member 1).status).ids AppQ 2)
          (server_in (led_world.member 2).status).sessions refl;
      memory = memory;
      waits = of_server (λ t. led_start + clocks (Member 2) + heard_within slow_pace < t.times.since + election_wait) (led_world.member 2).status
          (omega arith);
    })

pub returns-clause-calm : goal.returns-clause-calm
unfolding step all_nodes queued_frames next_out left_behind frames_of frame_step outcome fits_no_payload fits_no_part payload_of delivery_phase session_step session_for wanted identifier_of rows blocks_used bits_of crc_of divide number_of device_step device_rows next_query
returns-clause-calm c = (
  in_time _ _ 2031 (omega arith) (omega arith) (omega arith) (λ some. absurd (some refl)) (λ some. omega arith) tt tt,
  (inr (inl refl), refl),
  (
    in_time _ _ 2032 (omega arith) (omega arith) (omega arith) (λ some. absurd (some refl)) (λ some. absurd (some refl)) (omega arith, tt) tt,
    (inl refl, refl, refl),
    (
      in_time _ _ 2414 (omega arith) (omega arith) (omega arith) (λ some. absurd (some refl)) (λ some. absurd (some refl)) tt tt,
      (inl refl, refl),
      (
        in_time _ _ 2415 (omega arith) (omega arith) (omega arith) (λ some. omega arith) (λ some. absurd (some refl)) tt tt,
        (inl refl, refl),
        (
          in_time _ _ 2416 (omega arith) (omega arith) (omega arith) (λ some. omega arith) (λ some. absurd (some refl)) tt (omega arith, tt),
          (inl refl, refl),
          (
            in_time _ _ 2417 (omega arith) (omega arith) (omega arith) (λ some. absurd (some refl)) (λ some. absurd (some refl)) tt (omega arith, (omega arith, tt)),
            (inr (inl refl), refl, refl),
            (
              in_time _ _ 2418 (omega arith) (omega arith) (omega arith) (λ some. absurd (some refl)) (λ some. absurd (some refl)) tt (omega arith, tt),
              (inr (inl refl), refl, refl),
              (
                in_time _ _ 2428 (omega arith) (omega arith) (omega arith) (λ some. absurd (some refl)) (λ some. omega arith) tt tt,
                (inr (inl refl), refl),
                tt,
              ),
            ),
          ),
        ),
      ),
    ),
  ),
)

pub returns-clause-no_harm : goal.returns-clause-no_harm
unfolding step all_nodes queued_frames next_out left_behind frames_of frame_step outcome fits_no_payload fits_no_part payload_of delivery_phase session_step session_for wanted identifier_of rows blocks_used bits_of crc_of divide number_of device_step device_rows next_query arrival_judgement device_judgement brings_void
returns-clause-no_harm c = (inl refl, (inl refl, (inl refl, (inl refl, (inl refl, (inl refl, (inl refl, (inl refl, tt))))))))

-- ---- the calls

abbrev each_fits : List Offer → Bool
each_fits [] = true
each_fits (offer ∷ offers) = offer.fitted && each_fits offers

one_fits : (offers : List Offer) → each_fits offers ≡ true → (offer : Offer) → In offer offers → offer.fitted ≡ true
one_fits [] all offer i = absurd i
one_fits (first ∷ offers) all offer (inl e) = ap (λ (o : Offer). o.fitted) e ∙ and_left first.fitted (each_fits offers) all
one_fits (first ∷ offers) all offer (inr i) = one_fits offers (and_right first.fitted (each_fits offers) all) offer i

-- in a step of member 1, where each offer of it fits
fits_in : (w : Cluster) (row : Row) (t : AllocatorState) (event : Event) → (w.member 1).status ≡ Up t → step_of w row ≡ Some (1, event)
    → each_fits (step t (w.rows + 1) event).step_state.offers ≡ true → (m : ℕ) (call : OffersCall 1 m w row) → call.offer.fitted ≡ true
fits_in w row t event up is all m call = one_fits (step t (w.rows + 1) event).step_state.offers all call.offer
    (subst (λ (e : Event). In call.offer (step t (w.rows + 1) e).step_state.offers) (same_event 1 1 call.event event (sym call.in_step ∙ is))
    (subst (λ (s : AllocatorState). In call.offer (step s (w.rows + 1) call.event).step_state.offers) (same_server call.server t (sym call.runs ∙ up))
    call.offered))

-- a row that is no step
sending : (w : Cluster) (k m : ℕ) (call : OffersCall 1 m w (Send k)) → call.offer.fitted ≡ true
sending w k m call = absurd (cc (call.in_step))

-- a step of member 2
others_step : (w : Cluster) (row : Row) (event : Event) → step_of w row ≡ Some (2, event)
    → (m : ℕ) (call : OffersCall 1 m w row) → call.offer.fitted ≡ true
others_step w row event is m call = absurd (omega (arith, same_stepper 2 1 event call.event (sym is ∙ call.in_step)))

pub returns-clause-fits : goal.returns-clause-fits
unfolding step all_nodes queued_frames next_out left_behind frames_of frame_step outcome fits_no_payload fits_no_part payload_of delivery_phase session_step session_for wanted identifier_of rows blocks_used bits_of crc_of divide number_of device_step device_rows next_query
returns-clause-fits c = (
  sending (before 0) 2,
  (
    fits_in (before 1) _ (server_in ((before 1).member 1).status) (receipt_of (before 1) 7 2132) (up_is ((before 1).member 1).status refl) refl refl,
    (
      fits_in (before 2) _ (server_in ((before 2).member 1).status) (tick_of 2514 0) (up_is ((before 2).member 1).status refl) refl refl,
      (
        sending (before 3) 1,
        (
          sending (before 4) 1,
          (
            others_step (before 5) _ (receipt_of (before 5) 8 2617) refl,
            (
              others_step (before 6) _ (receipt_of (before 6) 9 2618) refl,
              (
                others_step (before 7) _ (tick_of 2628 0) refl,
                tt,
              ),
            ),
          ),
        ),
      ),
    ),
  ),
)

pub returns-clause-calls : goal.returns-clause-calls
unfolding step all_nodes queued_frames next_out left_behind frames_of frame_step outcome fits_no_payload fits_no_part payload_of delivery_phase session_step session_for wanted identifier_of rows blocks_used bits_of crc_of divide number_of device_step device_rows next_query
returns-clause-calls c = record {
  front = take 2 heartbeat_rows;
  timed = record { at = 2414; row = Tick 1 2514 0 };
  rest = drop 3 heartbeat_rows;
  split = refl;
  soon = omega arith;
  offers = record {
    server = server_in ((before 2).member 1).status;
    runs = up_is ((before 2).member 1).status refl;
    event = tick_of 2514 0;
    in_step = refl;
    offer = heartbeat_offer;
    offered = inl refl;
    what = refl;
    to = refl;
  };
}
