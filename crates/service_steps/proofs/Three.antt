-- Three requests in time are served.
use Rattle.std.proofs.Common.{◌≡◌, ℕ, ◌+◌, ◌≤◌, Bool, true, List, [], ◌∷◌, ◌++◌, length, length-append, inl, inr, refl, sym, ◌∙◌, ap, subst, arith, max}
use Rattle.alloc_exchange.specs.declared.heard.Heard.TheVariants.{FollowUp, Whole}
use Rattle.alloc_exchange.specs.Exchange.{Accepted, after, answer, recent_requests}
use Rattle.can_frame.specs.Timing.{stage_timeout}
use Rattle.dsdl_codec.specs.declared.allocation.Allocation.{Allocation}
use Rattle.id_selector.specs.Choice.{chosen}
use Rattle.node_discovery.specs.Watch.{some_unknown}
use Rattle.raft_model.specs.Server.{Store}
use Rattle.transfer_tx.specs.Queue.{Queued}
use Rattle.alloc_spec.specs.Exchange.{allocation_payload, may_follow}
use Rattle.alloc_spec.specs.Transfers.{has_room}
use Rattle.alloc_spec.specs.Step.{at_moment}
use Rattle.alloc_spec.specs.AllocatorState.{AllocatorState, known, members_of, recorded_at, taken}
use Rattle.alloc_spec_laws.proofs.Choices.{lt_tells}
use Rattle.service_steps.specs.Requests.{moment_at}
use Rattle.service_steps.specs.Serving.{AsksInTime, Comes, Dialogue, FollowsUp, IsAsReady, IsReady, IsServed, MayRecord, TellsAtOnce, before_second, before_third, first_moment, result_of_first, result_of_second, result_of_third, second_moment, third_moment, uid_told, with_queue}
use Rattle.service_steps.proofs.FollowUps.{gives}
use Rattle.service_steps.proofs.Records.{records}
use Rattle.service_steps.proofs.Alone.{tells_at_once}

-- ---- the exchange

-- the requests so far, behind the first and the second
abbrev one_part : Allocation → ℕ → List Accepted
one_part a x = record { bytes = a.uid.items; moment = x } ∷ []

abbrev two_parts : Allocation → Allocation → ℕ → ℕ → List Accepted
two_parts a b x y = record { bytes = b.uid.items; moment = y } ∷ one_part a x

in_time : (last : Accepted) (earlier : List Accepted) (now : ℕ) → now ≤ last.moment + stage_timeout → recent_requests (last ∷ earlier) now ≡ last ∷ earlier
in_time last earlier now h = elim (lt_tells (last.moment + stage_timeout) now) [ inl z ↦ absurd (omega (arith, h, z.1)) | inr z ↦ rw (z.0) refl ]

module _ (accepted : List Accepted) (a b c : Allocation) (x y z : ℕ) (h : AsksInTime accepted a b c x y z) where
  pub first_answer : answer accepted a x true ≡ FollowUp (record { items = a.uid.items })
  unfolding answer
  first_answer = rw (h.fresh) (rw (h.first) (rw (h.six) refl))

  pub first_after : after accepted a x true ≡ one_part a x
  unfolding after
  first_after = rw (h.fresh) (rw (h.first) (rw (h.six) refl))

  pub second_answer : answer (one_part a x) b y true ≡ FollowUp (record { items = a.uid.items ++ b.uid.items })
  unfolding answer
  second_answer = rw (in_time (record { bytes = a.uid.items; moment = x }) [] y h.soon) (rw (h.second) (rw (h.twelve) (rw (h.six)
      (rw (both) refl))))
    where
      both : length (a.uid.items ++ b.uid.items) ≡ 12
      both = omega (arith, length-append a.uid.items b.uid.items, h.six, h.twelve)

  pub second_after : after (one_part a x) b y true ≡ two_parts a b x y
  unfolding after
  second_after = rw (in_time (record { bytes = a.uid.items; moment = x }) [] y h.soon) (rw (h.second) (rw (h.twelve) (rw (h.six)
      (rw (both) refl))))
    where
      both : length (a.uid.items ++ b.uid.items) ≡ 12
      both = omega (arith, length-append a.uid.items b.uid.items, h.six, h.twelve)

  pub third_answer : (follow : Bool) → answer (two_parts a b x y) c z follow ≡ Whole ((a.uid.items ++ b.uid.items) ++ c.uid.items) c.node
  unfolding answer
  third_answer follow = rw (in_time (record { bytes = b.uid.items; moment = y }) (one_part a x) z h.late) (rw (h.third) (rw (h.sixteen) (rw (both)
      (rw (all) refl))))
    where
      both : length (a.uid.items ++ b.uid.items) ≡ 12
      both = omega (arith, length-append a.uid.items b.uid.items, h.six, h.twelve)

      all : length ((a.uid.items ++ b.uid.items) ++ c.uid.items) ≡ 16
      all = omega (arith, length-append (a.uid.items ++ b.uid.items) c.uid.items, both, h.sixteen)

-- ---- who is as ready records as well

known_as : (t u : AllocatorState) → IsAsReady t u → known u ≡ known t
known_as t u r = rw (r.me) (rw (r.size) (rw (r.opened_at) (rw (r.store) (rw (r.heard) refl))))

taken_as : (t u : AllocatorState) (now : ℕ) → IsAsReady t u → max u.now now ≡ max t.now now → taken (at_moment now u) ≡ taken (at_moment now t)
taken_as t u now r same = rw (r.me) (rw (r.size) (rw (r.opened_at) (rw (r.store) (rw (r.heard) (rw (r.watch) (rw (same) refl))))))

pub may_record_as : (t u : AllocatorState) (now preferred : ℕ) (uid : List ℕ) (node : ℕ) → IsAsReady t u → max u.now now ≡ max t.now now
    → MayRecord t now preferred uid node → MayRecord u now preferred uid node
may_record_as t u now preferred uid node r same m = record {
  device = m.device;
  new = ap (λ (s : Store). recorded_at s.log uid) r.store ∙ m.new;
  may = rw (r.store) (rw (r.role) m.may);
  all_known = rw (r.watch) (ap (λ (k : List Bool). some_unknown t.watch k now) (known_as t u r) ∙ m.all_known);
  choice = ap (λ (k : List Bool). chosen k preferred) (taken_as t u now r same) ∙ m.choice;
}

pub ready_as : (t u : AllocatorState) → IsAsReady t u → IsReady t → IsReady u
ready_as t u r h = record { leads = r.role ∙ h.leads; committed = rw (r.store) h.committed }

pub as_before : (t u v : AllocatorState) → IsAsReady t u → IsAsReady u v → IsAsReady t v
as_before t u v r s = record {
  me = s.me ∙ r.me;
  size = s.size ∙ r.size;
  opened_at = s.opened_at ∙ r.opened_at;
  store = s.store ∙ r.store;
  role = s.role ∙ r.role;
  heard = s.heard ∙ r.heard;
  watch = s.watch ∙ r.watch;
}

pub with_queue_as : (t u : AllocatorState) (queue : List Queued) → IsAsReady t u → IsAsReady t (with_queue queue u)
with_queue_as t u queue r = record {
  me = r.me;
  size = r.size;
  opened_at = r.opened_at;
  store = r.store;
  role = r.role;
  heard = r.heard;
  watch = r.watch;
}

members_as : (t u : AllocatorState) → IsAsReady t u → members_of t ≡ t.me ∷ [] → members_of u ≡ u.me ∷ []
members_as t u r alone = same ∙ (alone ∙ ap (λ (n : ℕ). n ∷ []) (sym r.me))
  where
    same : members_of u ≡ members_of t
    same = rw (r.me) (rw (r.size) (rw (r.opened_at) (rw (r.heard) refl)))

-- ---- the three steps

module _ (t : AllocatorState) (d : Dialogue) (node : ℕ) (h : Comes t d node) where
  abbrev pub x : ℕ
  x = first_moment t d

  abbrev pub y : ℕ
  y = second_moment t d

  abbrev pub z : ℕ
  z = third_moment t d

  first_served : FollowsUp t d.first d.a d.a.uid.items (result_of_first t d)
  first_served = gives t d.one d.first d.a d.a.uid.items h.ready h.first (first_answer t.accepted d.a d.b d.c x y z h.in_time) h.room

  abbrev pub second : AllocatorState
  second = before_second t d

  second_as : IsAsReady t second
  second_as = with_queue_as t (result_of_first t d).step_state.allocator d.then_waiting first_served.ready

  second_accepted : second.accepted ≡ one_part d.a x
  second_accepted = first_served.accepted ∙ first_after t.accepted d.a d.b d.c x y z h.in_time

  second_now : moment_at second d.second ≡ y
  second_now = ap (λ (n : ℕ). max n d.second.moment) first_served.now

  second_served : FollowsUp second d.second d.b (d.a.uid.items ++ d.b.uid.items) (result_of_second t d)
  second_served = gives second d.two d.second d.b (d.a.uid.items ++ d.b.uid.items) (ready_as t second second_as h.ready) h.second
      (ap (λ (l : List Accepted). answer l d.b (moment_at second d.second) true) second_accepted
      ∙ (ap (λ (n : ℕ). answer (one_part d.a x) d.b n true) second_now ∙ second_answer t.accepted d.a d.b d.c x y z h.in_time)) h.room_then

  abbrev pub third : AllocatorState
  third = before_third t d

  third_as : IsAsReady t third
  third_as = as_before t second third second_as
      (with_queue_as second (result_of_second t d).step_state.allocator d.last_waiting second_served.ready)

  third_accepted : third.accepted ≡ two_parts d.a d.b x y
  third_accepted = second_served.accepted
      ∙ (ap (λ (l : List Accepted). after l d.b (moment_at second d.second) true) second_accepted
      ∙ (ap (λ (n : ℕ). after (one_part d.a x) d.b n true) second_now ∙ second_after t.accepted d.a d.b d.c x y z h.in_time))

  third_before : third.now ≡ y
  third_before = second_served.now ∙ second_now

  third_now : moment_at third d.third ≡ z
  third_now = ap (λ (n : ℕ). max n d.third.moment) third_before

  asks_third : answer third.accepted d.c (moment_at third d.third) (may_follow third) ≡ Whole (uid_told d) d.c.node
  asks_third = ap (λ (l : List Accepted). answer l d.c (moment_at third d.third) (may_follow third)) third_accepted
      ∙ (ap (λ (n : ℕ). answer (two_parts d.a d.b x y) d.c n (may_follow third)) third_now
      ∙ third_answer t.accepted d.a d.b d.c x y z h.in_time (may_follow third))

  may_third : MayRecord third (moment_at third d.third) d.c.node (uid_told d) node
  may_third = subst (λ (n : ℕ). MayRecord third n d.c.node (uid_told d) node) (sym third_now)
      (may_record_as t third z d.c.node (uid_told d) node third_as (omega (arith, third_before)) h.may)

  pub serves : IsServed t d node
  serves = record {
    first = first_served;
    second = second_served;
    third = records third d.three d.third d.c (uid_told d) d.c.node node h.third asks_third may_third;
  }

  pub answers : members_of t ≡ t.me ∷ [] → t.raft_server.memory.told ≡ t.raft_server.store.commit
      → has_room d.last_waiting (allocation_payload node (uid_told d)) ≡ true
      → TellsAtOnce third (uid_told d) node (result_of_third t d)
  answers alone told room = tells_at_once third d.three d.third d.c (uid_told d) d.c.node node (ready_as t third third_as h.ready)
      (members_as t third third_as alone) (second_served.told (first_served.told told)) h.third asks_third may_third room
