use Rattle.std.proofs.Common.{◌≡◌, ◌≢◌, ℕ, ◌+◌, ◌≤◌, Bool, true, false, List, [], ◌∷◌, ◌++◌, length, refl, sym, ◌∙◌, ap, subst, arith, inl, inr, Option, None, Some}
use Rattle.std.specs.Prelude.{◌⊎◌, ◌==◌, ◌&&◌, not, nat_le, nat_lt, if◌then◌else◌}
use Rattle.can_frame.specs.TransferCrc.{bits_of, crc_of, divide, number_of}
use Rattle.can_frame.specs.Cutting.{frames_of, payload_of}
use Rattle.can_frame.specs.Identifier.{identifier_of}
use Rattle.raft_model.specs.Lists.{In}
use Rattle.raft_model.specs.Moves.Elections.{is_leader}
use Rattle.raft_model.specs.Server.{Role}
use Rattle.raft_model.specs.Server.Role.{Candidate, Follower, Leader}
use Rattle.bus_rows.specs.declared.row.Row.{Row}
use Rattle.transfer_rx.specs.Acceptance.{wanted}
use Rattle.transfer_rx.specs.Outcome.{blocks_used, fits_no_part, fits_no_payload, outcome}
use Rattle.transfer_rx.specs.Reassembly.{session_step, step as frame_step}
use Rattle.transfer_rx.specs.Sessions.{session_for}
use Rattle.transfer_tx.specs.Queue.{left_behind, next_out, queued_frames}
use Rattle.alloc_spec.specs.Accepted.{rows}
use Rattle.alloc_spec.specs.AllocatorState.{AllocatorState, members_of}
use Rattle.alloc_spec.specs.Delivered.{delivery_phase}
use Rattle.alloc_spec.specs.Judging.{arrival_judgement, brings_void}
use Rattle.alloc_spec.specs.Rules.{opening_by, rules_by}
use Rattle.alloc_spec.specs.Step.{all_nodes, step}
use Rattle.alloc_spec_laws.proofs.Choices.{and_left, and_right, eq_true, le_true, lt_true, tell}
use Rattle.allocatee.specs.Accepted.{rows as device_rows}
use Rattle.allocatee.specs.Allocatee.{step as device_step}
use Rattle.allocatee.specs.Asking.{clock_phase as device_clock}
use Rattle.allocatee.specs.Judging.{arrival_judgement as device_judgement}
use Rattle.bus_rows.specs.Timed.{Timed, rows_in}
use Rattle.service_alone.specs.Calm.{NoneIsLate}
use Rattle.service_leader.specs.CallsComeBack.{HasPlace, LeadsIfUp, LeadsNotIfUp, LeadsOn}
use Rattle.service_leader.specs.CallsExample.{answer_rows, long_rows}
use Rattle.service_calm.specs.Calm.{AreCalm, Device, IsInTime, Member, Party, Traffic, no_traffic, queue_in, traffic_after}
use Rattle.service_calm.specs.CalmExample.{calm_rows, clocks, group, pace, then_world, two}
use Rattle.service_calm.specs.Comes.{HasMemory, Throughout}
use Rattle.service_leader.proofs.laws.calls_can_come_back.Goals as goal
use Rattle.bus_spec.specs.Cluster.{Cluster, after_row, after_rows}
use Rattle.bus_spec.specs.Lawful.{DoNoHarm, cause}
use Rattle.bus_spec.specs.Members.{MemberStatus}
use Rattle.bus_spec.specs.Members.MemberStatus.{Down, Failed, Up}
use Rattle.bus_spec.specs.declared.unlawful.Unlawful.{Unlawful}

-- ---- what is checked of each row

-- a test of a server, that holds of a member that does not run
abbrev at_server : (AllocatorState → Bool) → MemberStatus → Bool
at_server test Down = true
at_server test (Up server) = test server
at_server test (Failed failure) = true

up_is : (test : AllocatorState → Bool) (status : MemberStatus) (server : AllocatorState) → at_server test status ≡ true → status ≡ Up server → test server ≡ true
up_is test status server passes up = ap (at_server test) (sym up) ∙ passes

-- a test of the world before each of these rows
abbrev all_pass : (Cluster → Bool) → Cluster → List Timed → Bool
all_pass test w [] = true
all_pass test w (timed ∷ rest) = test w && all_pass test (after_row w timed.row) rest

throughout : (test : Cluster → Bool) (Holds : Cluster → Type 0) → ((w : Cluster) → test w ≡ true → Holds w) → (rest : List Timed) (w : Cluster) → all_pass test w rest ≡ true
    → Throughout Holds w rest
throughout test Holds holds [] w passes = tt
throughout test Holds holds (timed ∷ rest) w passes = (
  holds w (and_left (test w) (all_pass test (after_row w timed.row) rest) passes),
  throughout test Holds holds rest (after_row w timed.row) (and_right (test w) (all_pass test (after_row w timed.row) rest) passes),
)

abbrev memory_at : ℕ → Cluster → Bool
memory_at n w = at_server (λ server. nat_lt (length server.sessions) 160 && nat_le (blocks_used server.sessions + 9) 128) (w.member n).status

memory_is : (n : ℕ) (w : Cluster) → memory_at n w ≡ true → HasMemory n w
memory_is n w passes server up =
    let both = up_is (λ s. nat_lt (length s.sessions) 160 && nat_le (blocks_used s.sessions + 9) 128) (w.member n).status server passes up in (
      lt_true (length server.sessions) 160 (and_left (nat_lt (length server.sessions) 160) (nat_le (blocks_used server.sessions + 9) 128) both),
      le_true (blocks_used server.sessions + 9) 128 (and_right (nat_lt (length server.sessions) 160) (nat_le (blocks_used server.sessions + 9) 128) both),
    )

abbrev place_at : ℕ → Cluster → Bool
place_at n w = at_server (λ server. nat_lt (length server.queue) 32) (w.member n).status

place_is : (n : ℕ) (w : Cluster) → place_at n w ≡ true → HasPlace n w
place_is n w passes server up = lt_true (length server.queue) 32 (up_is (λ s. nat_lt (length s.queue) 32) (w.member n).status server passes up)

leads_role : (role : Role) → is_leader role ≡ true → role ≡ Leader
leads_role Follower e = absurd (cc e)
leads_role Candidate e = absurd (cc e)
leads_role Leader e = refl

abbrev leads_at : ℕ → Cluster → Bool
leads_at n w = at_server (λ server. is_leader server.raft_server.memory.role && (server.raft_server.store.term == 1)) (w.member n).status

leads_is : (n : ℕ) (w : Cluster) → leads_at n w ≡ true → LeadsIfUp n 1 w
leads_is n w passes server up =
    let both = up_is (λ s. is_leader s.raft_server.memory.role && (s.raft_server.store.term == 1)) (w.member n).status server passes up in (
      leads_role server.raft_server.memory.role (and_left (is_leader server.raft_server.memory.role) (server.raft_server.store.term == 1) both),
      eq_true server.raft_server.store.term 1 (and_right (is_leader server.raft_server.memory.role) (server.raft_server.store.term == 1) both),
    )

abbrev follows_at : ℕ → Cluster → Bool
follows_at n w = at_server (λ server. not (is_leader server.raft_server.memory.role)) (w.member n).status

follows_is : (n : ℕ) (w : Cluster) → follows_at n w ≡ true → LeadsNotIfUp n w
follows_is n w passes server up leads =
    cc (sym (up_is (λ s. not (is_leader s.raft_server.memory.role)) (w.member n).status server passes up) ∙ ap (λ (r : Role). not (is_leader r)) leads)

abbrev leads_on : ℕ → Cluster → List Timed → Bool
leads_on n w [] = true
leads_on n w (timed ∷ rest) = if follows_at n w then leads_on n (after_row w timed.row) rest else all_pass (leads_at n) w (timed ∷ rest)

leads_on_is : (n : ℕ) (rest : List Timed) (w : Cluster) → leads_on n w rest ≡ true → LeadsOn n 1 w rest
leads_on_is n [] w passes = tt
leads_on_is n (timed ∷ rest) w passes = elim (tell (follows_at n w)) [
  | inl e ↦ inl (
    follows_is n w e,
    leads_on_is n rest (after_row w timed.row)
        (ap (λ (b : Bool). if b then leads_on n (after_row w timed.row) rest else all_pass (leads_at n) w (timed ∷ rest)) (sym e) ∙ passes),
  )
  | inr e ↦ inr (throughout (leads_at n) (LeadsIfUp n 1) (leads_is n) (timed ∷ rest) w
      (ap (λ (b : Bool). if b then leads_on n (after_row w timed.row) rest else all_pass (leads_at n) w (timed ∷ rest)) (sym e) ∙ passes))
]

abbrev is_lawful : Option Unlawful → Bool
is_lawful None = true
is_lawful (Some why) = false

lawful_is : (o : Option Unlawful) → is_lawful o ≡ true → o ≡ None
lawful_is None e = refl
lawful_is (Some why) e = absurd (cc e)

abbrev all_lawful : Cluster → List Row → Bool
all_lawful w [] = true
all_lawful w (row ∷ list) = is_lawful (cause w row) && all_lawful (after_row w row) list

no_harm_is : (list : List Row) (w : Cluster) → all_lawful w list ≡ true → DoNoHarm w list
no_harm_is [] w passes = tt
no_harm_is (row ∷ list) w passes = (
  inl (lawful_is (cause w row) (and_left (is_lawful (cause w row)) (all_lawful (after_row w row) list) passes)),
  no_harm_is list (after_row w row) (and_right (is_lawful (cause w row)) (all_lawful (after_row w row) list) passes),
)

-- ---- calm rows behind others

abbrev traffic_then : Traffic → Cluster → List Timed → Traffic
traffic_then traffic w [] = traffic
traffic_then traffic w (timed ∷ rest) = traffic_then (traffic_after traffic w timed) (after_row w timed.row) rest

calm_both : (xs ys : List Timed) (traffic : Traffic) (w : Cluster) → AreCalm group clocks pace traffic w xs
    → AreCalm group clocks pace (traffic_then traffic w xs) (after_rows w (rows_in xs)) ys → AreCalm group clocks pace traffic w (xs ++ ys)
calm_both [] ys traffic w first second = second
calm_both (timed ∷ xs) ys traffic w first second = (first.0, first.1, calm_both xs ys (traffic_after traffic w timed) (after_row w timed.row) first.2 second)

of_each : (Holds : Party → Type 0) → Holds (Member 1) → Holds (Member 2) → Holds (Device 1) → (party : Party) → (party ≡ Member 1) ⊎ ((party ≡ Member 2) ⊎ ((party ≡ Device 1) ⊎ ⊥)) → Holds party
of_each Holds first second device party (inl e) = subst Holds (sym e) first
of_each Holds first second device party (inr (inl e)) = subst Holds (sym e) second
of_each Holds first second device party (inr (inr (inl e))) = subst Holds (sym e) device
of_each Holds first second device party (inr (inr (inr i))) = absurd i

in_time : (traffic : Traffic) (w : Cluster) (at : ℕ) → traffic.at ≤ at
    → at ≤ traffic.ticked (Member 1) + 60 → at ≤ traffic.ticked (Member 2) + 60 → at ≤ traffic.ticked (Device 1) + 60
    → (queue_in w (Member 1) ≢ [] → at ≤ traffic.waits (Member 1) + 10) → (queue_in w (Member 2) ≢ [] → at ≤ traffic.waits (Member 2) + 10)
    → (queue_in w (Device 1) ≢ [] → at ≤ traffic.waits (Device 1) + 10) → NoneIsLate at 10 (traffic.to (Member 1)) → NoneIsLate at 10 (traffic.to (Member 2)) → NoneIsLate at 10 (traffic.to (Device 1))
    → IsInTime group clocks pace traffic w at
in_time traffic w at moments one second device one_sends two_sends device_sends one_hears two_hears device_hears = record {
  moments = moments;
  ticks = of_each (λ party. at ≤ traffic.ticked party + 60) one second device;
  sends_soon = of_each (λ party. queue_in w party ≢ [] → at ≤ traffic.waits party + 10) one_sends two_sends device_sends;
  hears = of_each (λ party. NoneIsLate at 10 (traffic.to party)) one_hears two_hears device_hears;
}

abbrev last_world : Cluster
last_world = after_rows then_world (rows_in calm_rows)

abbrev last_traffic : Traffic
last_traffic = traffic_then (no_traffic 1990) then_world calm_rows

answer_calm : AreCalm group clocks pace last_traffic last_world answer_rows
unfolding step all_nodes queued_frames next_out left_behind frames_of frame_step outcome fits_no_payload fits_no_part payload_of delivery_phase session_step session_for wanted identifier_of rows blocks_used bits_of crc_of divide number_of device_step device_rows device_clock
answer_calm = (
  in_time _ _ 2037 (omega arith) (omega arith) (omega arith) (omega arith) (λ some. absurd (some refl)) (λ some. omega arith) (λ some. absurd (some refl)) tt tt tt,
  (inr (inl refl), refl),
  (
    in_time _ _ 2037 (omega arith) (omega arith) (omega arith) (omega arith) (λ some. absurd (some refl)) (λ some. omega arith) (λ some. absurd (some refl)) (omega arith, tt) tt (omega arith, tt),
    (inr (inl refl), refl),
    (
      in_time _ _ 2047 (omega arith) (omega arith) (omega arith) (omega arith) (λ some. absurd (some refl)) (λ some. absurd (some refl)) (λ some. absurd (some refl)) (omega arith, (omega arith, tt)) tt (omega arith, (omega arith, tt)),
      (inl refl, refl, refl),
      (
        in_time _ _ 2047 (omega arith) (omega arith) (omega arith) (omega arith) (λ some. omega arith) (λ some. absurd (some refl)) (λ some. absurd (some refl)) (omega arith, tt) tt (omega arith, (omega arith, tt)),
        (inl refl, refl, refl),
        (
          in_time _ _ 2047 (omega arith) (omega arith) (omega arith) (omega arith) (λ some. omega arith) (λ some. absurd (some refl)) (λ some. absurd (some refl)) tt tt (omega arith, (omega arith, tt)),
          (inr (inr (inl refl)), refl, refl),
          (
            in_time _ _ 2047 (omega arith) (omega arith) (omega arith) (omega arith) (λ some. omega arith) (λ some. absurd (some refl)) (λ some. absurd (some refl)) tt tt (omega arith, tt),
            (inr (inr (inl refl)), refl, refl),
            (
              in_time _ _ 2049 (omega arith) (omega arith) (omega arith) (omega arith) (λ some. omega arith) (λ some. absurd (some refl)) (λ some. absurd (some refl)) tt tt tt,
              (inr (inr (inl refl)), refl),
              (
                in_time _ _ 2056 (omega arith) (omega arith) (omega arith) (omega arith) (λ some. omega arith) (λ some. absurd (some refl)) (λ some. absurd (some refl)) tt tt tt,
                (inl refl, refl),
                tt,
              ),
            ),
          ),
        ),
      ),
    ),
  ),
)

memory_1 : all_pass (memory_at 1) then_world long_rows ≡ true
unfolding step all_nodes queued_frames next_out left_behind frames_of frame_step outcome fits_no_payload fits_no_part payload_of delivery_phase session_step session_for wanted identifier_of rows blocks_used bits_of crc_of divide number_of device_step device_rows device_clock
memory_1 = refl

memory_2 : all_pass (memory_at 2) then_world long_rows ≡ true
unfolding step all_nodes queued_frames next_out left_behind frames_of frame_step outcome fits_no_payload fits_no_part payload_of delivery_phase session_step session_for wanted identifier_of rows blocks_used bits_of crc_of divide number_of device_step device_rows device_clock
memory_2 = refl

places_2 : all_pass (place_at 2) then_world long_rows ≡ true
unfolding step all_nodes queued_frames next_out left_behind frames_of frame_step outcome fits_no_payload fits_no_part payload_of delivery_phase session_step session_for wanted identifier_of rows blocks_used bits_of crc_of divide number_of device_step device_rows device_clock
places_2 = refl

leads_1 : leads_on 1 then_world long_rows ≡ true
unfolding step all_nodes queued_frames next_out left_behind frames_of frame_step outcome fits_no_payload fits_no_part payload_of delivery_phase session_step session_for wanted identifier_of rows blocks_used bits_of crc_of divide number_of device_step device_rows device_clock
leads_1 = refl

lawful : all_lawful then_world (rows_in long_rows) ≡ true
unfolding step all_nodes queued_frames next_out left_behind frames_of frame_step outcome fits_no_payload fits_no_part payload_of delivery_phase session_step session_for wanted identifier_of rows blocks_used bits_of crc_of divide number_of device_step device_rows device_clock arrival_judgement brings_void device_judgement
lawful = refl

-- member n as it opened at this moment, with this word
abbrev opened : ℕ → ℕ → ℕ → AllocatorState
opened n now word = opening_by n (rules_by 2 two) (record { term = 0; vote = None; log = []; commit = 0 }) now word

one_up : (a b : AllocatorState) → Up a ≡ Up b → a ≡ b
one_up a b e = cc e

pub returns : goal.returns
unfolding queued_frames
returns c = record {
  split = refl;
  quick = omega arith;
  lists_receiver = λ server up. subst (λ (s : AllocatorState). In 2 (members_of s)) (one_up (opened 1 100 0) server up) (inr (inl refl));
  lists_sender = λ server up. subst (λ (s : AllocatorState). In 1 (members_of s)) (one_up (opened 2 200 1000) server up) (inr (inl refl));
  calls = record { sender = opened 1 100 0; sends = refl; none_waits = refl; receiver = opened 2 200 1000; receives = refl };
  first = tt;
  answers = record { sender = opened 2 200 1000; sends = refl; none_waits = refl; receiver = opened 1 100 0; receives = refl };
  first_answer = tt;
  calm = calm_both calm_rows answer_rows (no_traffic 1990) then_world c.calm_can_be.ensures.calm answer_calm;
  harmless = no_harm_is (rows_in long_rows) then_world lawful;
  memory_sender = throughout (memory_at 1) (HasMemory 1) (memory_is 1) long_rows then_world memory_1;
  memory_receiver = throughout (memory_at 2) (HasMemory 2) (memory_is 2) long_rows then_world memory_2;
  places = throughout (place_at 2) (HasPlace 2) (place_is 2) long_rows then_world places_2;
  leads = leads_on_is 1 long_rows then_world leads_1;
  call = c.calm_can_be.ensures.call;
  long = omega arith;
}
