-- The rows of the example of entries that come in time meet what is asked of them, by computation.
use Rattle.std.proofs.Common.{◌≡◌, ◌≢◌, ℕ, ◌+◌, ◌≤◌, Bool, true, false, List, [], ◌∷◌, ◌++◌, drop, length, refl, sym, ◌∙◌, ap, subst, arith, inl, inr, None, Some, Option}
use Rattle.std.specs.Prelude.{◌==◌, ◌&&◌, not, nat_le, nat_lt, slice_index_or, if◌then◌else◌}
use Rattle.can_frame.specs.TransferCrc.{bits_of, crc_of, divide, number_of}
use Rattle.can_frame.specs.Cutting.{frames_of, payload_of}
use Rattle.can_frame.specs.Identifier.{identifier_of}
use Rattle.raft_model.specs.Lists.{In}
use Rattle.raft_model.specs.Moves.Elections.{is_leader}
use Rattle.raft_model.specs.Server.{Role}
use Rattle.raft_model.specs.Server.Role.{Candidate, Follower, Leader}
use Rattle.bus_rows.specs.declared.row.Row.{Row}
use Rattle.transfer_rx.specs.Acceptance.{wanted}
use Rattle.transfer_rx.specs.Outcome.{blocks_used, fits_no_part, fits_no_payload, outcome}
use Rattle.transfer_rx.specs.Reassembly.{session_step, step as frame_step}
use Rattle.transfer_rx.specs.Sessions.{session_for}
use Rattle.transfer_tx.specs.Queue.{left_behind, next_out, queued_frames}
use Rattle.alloc_spec.specs.Accepted.{rows}
use Rattle.alloc_spec.specs.AllocatorState.{AllocatorState}
use Rattle.alloc_spec.specs.Delivered.{delivery_phase}
use Rattle.alloc_spec.specs.Step.{Event, all_nodes, step}
use Rattle.alloc_spec_laws.proofs.Choices.{and_left, and_right, eq_true, le_true, lt_true}
use Rattle.allocatee.specs.Accepted.{rows as device_rows}
use Rattle.allocatee.specs.Allocatee.{step as device_step}
use Rattle.allocatee.specs.Asking.{clock_phase as device_clock}
use Rattle.bus_spec.specs.Cluster.{Cluster, after_row, after_rows, step_of}
use Rattle.bus_spec.specs.Lawful.{DoNoHarm}
use Rattle.bus_spec.specs.Members.{MemberStatus}
use Rattle.bus_spec.specs.Members.MemberStatus.{Down, Failed, Up}
use Rattle.alloc_spec.specs.Transfers.{Offer}
use Rattle.node_discovery.specs.Watch.{next_query}
use Rattle.bus_rows.specs.Timed.{Timed, rows_in}
use Rattle.service_alone.specs.Calm.{NoneIsLate}
use Rattle.service_calm.specs.Calm.{AreCalm, Device, IsInTime, Member, Party, Traffic, no_traffic, queue_in, traffic_after}
use Rattle.service_calm.specs.CalmExample.{clocks, group, leading_world, pace, then_world}
use Rattle.service_leader.specs.CallsComeBack.{HasPlace, LeadsNotIfUp}
use Rattle.service_leader.specs.CallsExample.{long_rows}
use Rattle.service_calm.specs.Comes.{HasMemory, Throughout}
use Rattle.service_leader.specs.Entries.{calls_left}
use Rattle.service_calm.specs.CallsInTime.{OffersCall}
use Rattle.service_leader.specs.EntriesExample.{clock_rows, led_rows, won_rows, won_world}
use Rattle.service_leader.specs.LeadsOn.{FollowsWithin, IsLed}
use Rattle.service_leader.specs.NoElection.{CallsFit}

abbrev up_at : (AllocatorState → Bool) → MemberStatus → Bool
up_at test Down = false
up_at test (Up server) = test server
up_at test (Failed failure) = false

record IsFound (test : AllocatorState → Bool) (status : MemberStatus) : Type 0 where
  server : AllocatorState
  runs : status ≡ Up server
  passes : test server ≡ true

found : (test : AllocatorState → Bool) (status : MemberStatus) → up_at test status ≡ true → IsFound test status
found test Down e = absurd (cc e)
found test (Up server) e = record { server = server; runs = refl; passes = e }
found test (Failed failure) e = absurd (cc e)

one_up : (a b : AllocatorState) → Up a ≡ Up b → a ≡ b
one_up a b e = cc e

every : (test : AllocatorState → Bool) (status : MemberStatus) → up_at test status ≡ true → (server : AllocatorState) → status ≡ Up server
    → test server ≡ true
every test status e server up = let f = found test status e in subst (λ (s : AllocatorState). test s ≡ true)
    (one_up f.server server (sym f.runs ∙ up)) f.passes

abbrev is_nil : {A : Type 0} → List A → Bool
is_nil [] = true
is_nil (x ∷ xs) = false

nil_is : {A : Type 0} (xs : List A) → is_nil xs ≡ true → xs ≡ []
nil_is [] e = refl
nil_is (x ∷ xs) e = absurd (cc e)

-- ---- who leads and who follows

abbrev follows : Role → Bool
follows Follower = true
follows Candidate = false
follows Leader = false

role_leads : (role : Role) → is_leader role ≡ true → role ≡ Leader
role_leads Follower e = absurd (cc e)
role_leads Candidate e = absurd (cc e)
role_leads Leader e = refl

role_follows : (role : Role) → follows role ≡ true → role ≡ Follower
role_follows Follower e = refl
role_follows Candidate e = absurd (cc e)
role_follows Leader e = absurd (cc e)

abbrev leader_test : AllocatorState → Bool
leader_test s = is_leader s.raft_server.memory.role && (s.raft_server.store.term == 1)

abbrev follower_test : AllocatorState → Bool
follower_test s = follows s.raft_server.memory.role && nat_le s.raft_server.store.term 1

abbrev led_test : Cluster → Bool
led_test w = up_at leader_test (w.member 1).status && up_at follower_test (w.member 2).status

abbrev number_in : Party → ℕ
number_in (Member n) = n
number_in (Device a) = a

led_is : (w : Cluster) → led_test w ≡ true → IsLed group 1 1 w
led_is w e = record {
  leader =
      let f = found leader_test (w.member 1).status (and_left (up_at leader_test (w.member 1).status) (up_at follower_test (w.member 2).status) e) in
      record {
        server = f.server;
        runs = f.runs;
        leads = role_leads f.server.raft_server.memory.role (and_left (is_leader f.server.raft_server.memory.role)
            (f.server.raft_server.store.term == 1) f.passes);
        its_term = eq_true f.server.raft_server.store.term 1 (and_right (is_leader f.server.raft_server.memory.role)
            (f.server.raft_server.store.term == 1) f.passes);
      };
  others = others;
}
  where
    second : FollowsWithin 2 1 w
    second =
        let f = found follower_test (w.member 2).status (and_right (up_at leader_test (w.member 1).status) (up_at follower_test (w.member 2).status) e) in
        record {
          server = f.server;
          runs = f.runs;
          follows = role_follows f.server.raft_server.memory.role (and_left (follows f.server.raft_server.memory.role)
              (nat_le f.server.raft_server.store.term 1) f.passes);
          its_term = le_true f.server.raft_server.store.term 1 (and_right (follows f.server.raft_server.memory.role)
              (nat_le f.server.raft_server.store.term 1) f.passes);
        }

    others : (m : ℕ) → In (Member m) group → m ≢ 1 → FollowsWithin m 1 w
    others m (inl i) differs = absurd (differs (ap number_in i))
    others m (inr (inl i)) differs = subst (λ (k : ℕ). FollowsWithin k 1 w) (sym (ap number_in i)) second
    others m (inr (inr (inl i))) differs = absurd (cc i)
    others m (inr (inr (inr i))) differs = absurd i

abbrev all_led : Cluster → List Timed → Bool
all_led w [] = led_test w
all_led w (timed ∷ rest) = led_test w && all_led (after_row w timed.row) rest

led_at : (early late list : List Timed) (w : Cluster) → list ≡ early ++ late → all_led w list ≡ true → IsLed group 1 1 (after_rows w (rows_in early))
led_at [] late [] w split e = led_is w e
led_at [] late (timed ∷ rest) w split e = led_is w (and_left (led_test w) (all_led (after_row w timed.row) rest) e)
led_at (x ∷ early) late [] w split e = absurd (cc split)
led_at (x ∷ early) late (timed ∷ rest) w split e =
    let same : timed ≡ x = ap (λ (l : List Timed). slice_index_or l 0 x) split in
    subst (λ (y : Timed). IsLed group 1 1 (after_rows (after_row w y.row) (rows_in early))) same
    (led_at early late rest (after_row w timed.row) (ap (λ (l : List Timed). drop 1 l) split)
    (and_right (led_test w) (all_led (after_row w timed.row) rest) e))

-- ---- each call finds room

abbrev all_fit : List Offer → Bool
all_fit [] = true
all_fit (offer ∷ offers) = offer.fitted && all_fit offers

fits_in : (offers : List Offer) → all_fit offers ≡ true → (offer : Offer) → In offer offers → offer.fitted ≡ true
fits_in [] e offer i = absurd i
fits_in (other ∷ offers) e offer (inl same) = ap (λ (o : Offer). o.fitted) same ∙ and_left other.fitted (all_fit offers) e
fits_in (other ∷ offers) e offer (inr i) = fits_in offers (and_right other.fitted (all_fit offers) e) offer i

abbrev fit_then : Cluster → Option (ℕ × Event) → Bool
fit_then w None = true
fit_then w (Some (k, event)) = if k == 1 then up_at (λ s. all_fit (step s (w.rows + 1) event).step_state.offers) (w.member 1).status else true

fit_at : (w : Cluster) (row : Row) → fit_then w (step_of w row) ≡ true → (m : ℕ) (call : OffersCall 1 m w row) → call.offer.fitted ≡ true
fit_at w row e m call = fits_in (step call.server (w.rows + 1) call.event).step_state.offers
    (every (λ s. all_fit (step s (w.rows + 1) call.event).step_state.offers) (w.member 1).status
    (sym (ap (fit_then w) call.in_step) ∙ e) call.server call.runs) call.offer call.offered

abbrev all_calls_fit : Cluster → List Timed → Bool
all_calls_fit w [] = true
all_calls_fit w (timed ∷ rest) = fit_then w (step_of w timed.row) && all_calls_fit (after_row w timed.row) rest

fit_is : (list : List Timed) (w : Cluster) → all_calls_fit w list ≡ true → CallsFit 1 w list
fit_is [] w e = tt
fit_is (timed ∷ rest) w e = (
  fit_at w timed.row (and_left (fit_then w (step_of w timed.row)) (all_calls_fit (after_row w timed.row) rest) e),
  fit_is rest (after_row w timed.row) (and_right (fit_then w (step_of w timed.row)) (all_calls_fit (after_row w timed.row) rest) e),
)

-- ---- memory and places

abbrev all_up : (AllocatorState → Bool) → ℕ → Cluster → List Timed → Bool
all_up test n w [] = true
all_up test n w (timed ∷ rest) = up_at test (w.member n).status && all_up test n (after_row w timed.row) rest

throughout : (test : AllocatorState → Bool) (n : ℕ) (Holds : Cluster → Type 0) → ((w : Cluster) → up_at test (w.member n).status ≡ true → Holds w)
    → (rest : List Timed) (w : Cluster)
    → all_up test n w rest ≡ true → Throughout Holds w rest
throughout test n Holds holds [] w passes = tt
throughout test n Holds holds (timed ∷ rest) w passes = (
  holds w (and_left (up_at test (w.member n).status) (all_up test n (after_row w timed.row) rest) passes),
  throughout test n Holds holds rest (after_row w timed.row) (and_right (up_at test (w.member n).status) (all_up test n (after_row w timed.row) rest) passes),
)

abbrev has_memory : AllocatorState → Bool
has_memory s = nat_lt (length s.sessions) 160 && nat_le (blocks_used s.sessions + 9) 128

memory_is : (n : ℕ) (w : Cluster) → up_at has_memory (w.member n).status ≡ true → HasMemory n w
memory_is n w passes server up =
    let both = every has_memory (w.member n).status passes server up in (
      lt_true (length server.sessions) 160 (and_left (nat_lt (length server.sessions) 160) (nat_le (blocks_used server.sessions + 9) 128) both),
      le_true (blocks_used server.sessions + 9) 128 (and_right (nat_lt (length server.sessions) 160) (nat_le (blocks_used server.sessions + 9) 128) both),
    )

abbrev has_place : AllocatorState → Bool
has_place s = nat_lt (length s.queue) 32

place_is : (n : ℕ) (w : Cluster) → up_at has_place (w.member n).status ≡ true → HasPlace n w
place_is n w passes server up = lt_true (length server.queue) 32 (every has_place (w.member n).status passes server up)

-- ---- the tests pass

-- the world in which the last rows begin
abbrev pub clock_world : Cluster
clock_world = after_rows then_world (rows_in long_rows)

memory_one : all_up has_memory 1 clock_world clock_rows ≡ true
unfolding step all_nodes next_query queued_frames next_out left_behind frames_of frame_step outcome fits_no_payload fits_no_part payload_of delivery_phase session_step session_for wanted identifier_of rows blocks_used bits_of crc_of divide number_of device_step device_rows device_clock
memory_one = refl

memory_two : all_up has_memory 2 clock_world clock_rows ≡ true
unfolding step all_nodes next_query queued_frames next_out left_behind frames_of frame_step outcome fits_no_payload fits_no_part payload_of delivery_phase session_step session_for wanted identifier_of rows blocks_used bits_of crc_of divide number_of device_step device_rows device_clock
memory_two = refl

places_two : all_up has_place 2 clock_world clock_rows ≡ true
unfolding step all_nodes next_query queued_frames next_out left_behind frames_of frame_step outcome fits_no_payload fits_no_part payload_of delivery_phase session_step session_for wanted identifier_of rows blocks_used bits_of crc_of divide number_of device_step device_rows device_clock
places_two = refl

led_all : all_led won_world led_rows ≡ true
unfolding step all_nodes next_query queued_frames next_out left_behind frames_of frame_step outcome fits_no_payload fits_no_part payload_of delivery_phase session_step session_for wanted identifier_of rows blocks_used bits_of crc_of divide number_of device_step device_rows device_clock
led_all = refl

led_last : all_led clock_world clock_rows ≡ true
unfolding step all_nodes next_query queued_frames next_out left_behind frames_of frame_step outcome fits_no_payload fits_no_part payload_of delivery_phase session_step session_for wanted identifier_of rows blocks_used bits_of crc_of divide number_of device_step device_rows device_clock
led_last = refl

fit_all : all_calls_fit then_world (won_rows ++ led_rows) ≡ true
unfolding step all_nodes next_query queued_frames next_out left_behind frames_of frame_step outcome fits_no_payload fits_no_part payload_of delivery_phase session_step session_for wanted identifier_of rows blocks_used bits_of crc_of divide number_of device_step device_rows device_clock
fit_all = refl

abbrev not_leading : AllocatorState → Bool
not_leading s = not (is_leader s.raft_server.memory.role)

not_yet : (w : Cluster) → up_at not_leading (w.member 1).status ≡ true → LeadsNotIfUp 1 w
not_yet w e server up leads = cc (sym (every not_leading (w.member 1).status e server up) ∙ ap (λ (r : Role). not (is_leader r)) leads)

not_first : up_at not_leading (then_world.member 1).status ≡ true
unfolding step all_nodes next_query queued_frames next_out left_behind frames_of frame_step outcome fits_no_payload fits_no_part payload_of delivery_phase session_step session_for wanted identifier_of rows blocks_used bits_of crc_of divide number_of device_step device_rows device_clock
not_first = refl

not_before : up_at not_leading (leading_world.member 1).status ≡ true
unfolding step all_nodes next_query queued_frames next_out left_behind frames_of frame_step outcome fits_no_payload fits_no_part payload_of delivery_phase session_step session_for wanted identifier_of rows blocks_used bits_of crc_of divide number_of device_step device_rows device_clock
not_before = refl

abbrev none_left : AllocatorState → Bool
none_left s = nat_le (calls_left s 2) 0

few_left : up_at none_left (won_world.member 1).status ≡ true
unfolding step all_nodes next_query queued_frames next_out left_behind frames_of frame_step outcome fits_no_payload fits_no_part payload_of delivery_phase session_step session_for wanted identifier_of rows blocks_used bits_of crc_of divide number_of device_step device_rows device_clock
few_left = refl

-- ---- what is asked

pub leads_not : LeadsNotIfUp 1 then_world
leads_not = not_yet then_world not_first

pub leads_not_yet : LeadsNotIfUp 1 leading_world
leads_not_yet = not_yet leading_world not_before

pub led : (early late : List Timed) → led_rows ≡ early ++ late → IsLed group 1 1 (after_rows won_world (rows_in early))
led early late split = led_at early late led_rows won_world split led_all

pub led_at_last : (early late : List Timed) → clock_rows ≡ early ++ late → IsLed group 1 1 (after_rows clock_world (rows_in early))
led_at_last early late split = led_at early late clock_rows clock_world split led_last

pub fit : CallsFit 1 then_world (won_rows ++ led_rows)
fit = fit_is (won_rows ++ led_rows) then_world fit_all

pub few : (leader : AllocatorState) → (won_world.member 1).status ≡ Up leader → calls_left leader 2 ≤ 0
few leader up = le_true (calls_left leader 2) 0 (every none_left (won_world.member 1).status few_left leader up)

pub memory : Throughout (HasMemory 1) clock_world clock_rows
memory = throughout has_memory 1 (HasMemory 1) (memory_is 1) clock_rows clock_world memory_one

pub its_memory : Throughout (HasMemory 2) clock_world clock_rows
its_memory = throughout has_memory 2 (HasMemory 2) (memory_is 2) clock_rows clock_world memory_two

pub place : Throughout (HasPlace 2) clock_world clock_rows
place = throughout has_place 2 (HasPlace 2) (place_is 2) clock_rows clock_world places_two

-- ---- calm rows behind others

abbrev traffic_then : Traffic → Cluster → List Timed → Traffic
traffic_then traffic w [] = traffic
traffic_then traffic w (timed ∷ rest) = traffic_then (traffic_after traffic w timed) (after_row w timed.row) rest

calm_both : (xs ys : List Timed) (traffic : Traffic) (w : Cluster) → AreCalm group clocks pace traffic w xs
    → AreCalm group clocks pace (traffic_then traffic w xs) (after_rows w (rows_in xs)) ys → AreCalm group clocks pace traffic w (xs ++ ys)
calm_both [] ys traffic w first second = second
calm_both (timed ∷ xs) ys traffic w first second = (first.0, first.1, calm_both xs ys (traffic_after traffic w timed) (after_row w timed.row) first.2 second)

of_each : (Holds : Party → Type 0) → Holds (Member 1) → Holds (Member 2) → Holds (Device 1) → (party : Party) → In party group → Holds party
of_each Holds first second device party (inl e) = subst Holds (sym e) first
of_each Holds first second device party (inr (inl e)) = subst Holds (sym e) second
of_each Holds first second device party (inr (inr (inl e))) = subst Holds (sym e) device
of_each Holds first second device party (inr (inr (inr i))) = absurd i

-- no frame waits, and none is on its way
in_time : (traffic : Traffic) (w : Cluster) (at : ℕ) → traffic.at ≤ at → at ≤ traffic.ticked (Member 1) + 60 → at ≤ traffic.ticked (Member 2) + 60
    → at ≤ traffic.ticked (Device 1) + 60 → queue_in w (Member 1) ≡ [] → queue_in w (Member 2) ≡ [] → queue_in w (Device 1) ≡ []
    → NoneIsLate at 10 (traffic.to (Member 1)) → NoneIsLate at 10 (traffic.to (Member 2)) → NoneIsLate at 10 (traffic.to (Device 1))
    → IsInTime group clocks pace traffic w at
in_time traffic w at moments one second device one_empty two_empty device_empty one_hears two_hears device_hears = record {
  moments = moments;
  ticks = of_each (λ party. at ≤ traffic.ticked party + 60) one second device;
  sends_soon = of_each (λ party. queue_in w party ≢ [] → at ≤ traffic.waits party + 10)
      (λ some. absurd (some one_empty)) (λ some. absurd (some two_empty)) (λ some. absurd (some device_empty));
  hears = of_each (λ party. NoneIsLate at 10 (traffic.to party)) one_hears two_hears device_hears;
}

clock_calm : AreCalm group clocks pace (traffic_then (no_traffic 1990) then_world long_rows) clock_world clock_rows
unfolding step all_nodes next_query queued_frames next_out left_behind frames_of frame_step outcome fits_no_payload fits_no_part payload_of delivery_phase session_step session_for wanted identifier_of rows blocks_used bits_of crc_of divide number_of device_step device_rows device_clock
clock_calm = (
  in_time _ _ 2090 (omega arith) (omega arith) (omega arith) (omega arith) refl refl refl tt tt tt,
  (inl refl, refl),
  (
    in_time _ _ 2090 (omega arith) (omega arith) (omega arith) (omega arith) refl refl refl tt tt tt,
    (inr (inl refl), refl),
    (
      in_time _ _ 2090 (omega arith) (omega arith) (omega arith) (omega arith) refl refl refl tt tt tt,
      (inr (inr (inl refl)), refl),
      (
        in_time _ _ 2140 (omega arith) (omega arith) (omega arith) (omega arith) refl refl refl tt tt tt,
        (inl refl, refl),
        (
          in_time _ _ 2140 (omega arith) (omega arith) (omega arith) (omega arith) refl refl refl tt tt tt,
          (inr (inl refl), refl),
          (
            in_time _ _ 2140 (omega arith) (omega arith) (omega arith) (omega arith) refl refl refl tt tt tt,
            (inr (inr (inl refl)), refl),
            tt,
          ),
        ),
      ),
    ),
  ),
)

pub calm : AreCalm group clocks pace (no_traffic 1990) then_world long_rows → AreCalm group clocks pace (no_traffic 1990) then_world (long_rows ++ clock_rows)
calm first = calm_both long_rows clock_rows (no_traffic 1990) then_world first clock_calm

pub harmless : DoNoHarm clock_world (rows_in clock_rows)
unfolding step all_nodes next_query queued_frames next_out left_behind frames_of frame_step outcome fits_no_payload fits_no_part payload_of delivery_phase session_step session_for wanted identifier_of rows blocks_used bits_of crc_of divide number_of device_step device_rows device_clock
harmless = (inl refl, (inl refl, (inl refl, (inl refl, (inl refl, (inl refl, tt))))))
