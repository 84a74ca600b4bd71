-- A leader that knows all members may record a new unique ID, and gives it one of the node IDs that are left.
use Rattle.std.proofs.Common.{◌≡◌, ℕ, ◌≤◌, Bool, true, false, List, length, max, inl, inr, refl, sym, ◌∙◌, ap, arith, Option, None, Some}
use Rattle.std.specs.Prelude.{◌-◌, ◌&&◌, nat_lt}
use Rattle.std.proofs.lemmas.Bool.Decides.{leb_tells}
use Rattle.std.proofs.lemmas.List.FromFn.{get_or-map-range_with_len}
use Rattle.can_frame.specs.declared.entry.Entry.{Entry}
use Rattle.can_frame.specs.Log.{log_limit}
use Rattle.bus_agreement.proofs.Deliveries.{listed_in}
use Rattle.cluster_discovery.specs.Members.{is_on_list}
use Rattle.id_selector.specs.Choice.{IsChoice, chosen}
use Rattle.node_discovery.specs.History.{is_online, is_within, last_status}
use Rattle.node_discovery.specs.Watch.{devices, history, is_unknown, some_unknown}
use Rattle.raft_model.specs.Lists.{In}
use Rattle.raft_model.specs.Moves.Elections.{is_leader}
use Rattle.raft_model.specs.Server.Role.{Leader}
use Rattle.alloc_spec.specs.AllocatorState.{AllocatorState, is_known, is_recorded, is_taken, known, members_of, recorded_at, taken}
use Rattle.alloc_spec.specs.Step.{at_moment}
use Rattle.alloc_spec_laws.proofs.Choices.{tell}
use Rattle.service_steps.specs.Serving.{MayRecord}
use Rattle.service_steps.proofs.Alone.{lt_is}
use Rattle.service_alone.proofs.CalmRest.{not_unknown}
use Rattle.service_alone.proofs.Choosing.{Chooses, chooses, left_false, none_any, not_first, not_recorded, not_zeros, recorded, right_false}
use Rattle.service_device.specs.Served.{HasPlaceFor, IsLeft}
use Rattle.service_calm.proofs.Calls.{on_list}

-- who is not online is not online later
not_within_later : (limit now later : ℕ) (last : Option ℕ) → now ≤ later → is_within limit now last ≡ false → is_within limit later last ≡ false
not_within_later limit now later None after_it e = refl
not_within_later limit now later (Some moment) after_it e = elim (leb_tells (now - moment) limit) [
  | inl z ↦ absurd (cc (e, z.0))
  | inr z ↦ elim (leb_tells (later - moment) limit) [ inl y ↦ absurd (omega (arith, z.1, y.1, after_it)) | inr y ↦ y.0 ]
]

module _ (ids : List ℕ) (log : List Entry) (t : AllocatorState) (leads : t.raft_server.memory.role ≡ Leader) (log_is : t.raft_server.store.log ≡ log)
    (off : (node : ℕ) → is_known t node ≡ false → is_online (history node t.watch) t.now ≡ false)
    (among : (p : ℕ) → In p (members_of t) → In p ids) (all : (p : ℕ) → In p ids → In p (members_of t)) (moment : ℕ) (later : t.now ≤ moment) where
  off_then : (node : ℕ) → is_known t node ≡ false → is_online (history node t.watch) (max t.now moment) ≡ false
  off_then node e = not_within_later 3000 t.now (max t.now moment) (last_status (history node t.watch)) (omega arith) (off node e)

  left_unknown : (node : ℕ) → IsLeft ids log node → is_known t node ≡ false
  left_unknown node left = rw (other) (ap (λ (l : List Entry). is_recorded l node) log_is ∙ not_recorded log node left.free)
    where
      other : is_on_list (members_of t) node ≡ false
      other = elim (tell (is_on_list (members_of t) node)) [ inl z ↦ absurd (left.other (among node (listed_in (members_of t) node z))) | inr z ↦ z ]

  not_taken : (node : ℕ) → IsLeft ids log node → is_taken (at_moment moment t) node ≡ false
  not_taken node left = rw (left_unknown node left) (off_then node (left_unknown node left))

  -- where a node ID is left, one is chosen
  pub finds_one : ((taken_ids : List Bool) (preferred : ℕ) → IsChoice taken_ids preferred (chosen taken_ids preferred)) → (preferred node : ℕ) → IsLeft ids log node
      → Chooses (taken (at_moment moment t)) preferred
  finds_one law preferred node left = chooses law (taken (at_moment moment t)) preferred node left.least left.most
      (get_or-map-range_with_len (is_taken (at_moment moment t)) 0 128 node node true (omega (arith, left.most)) (omega arith) ∙ not_taken node left)

  -- the one that is chosen was left
  pub gives_left : (preferred : ℕ) (c : Chooses (taken (at_moment moment t)) preferred) → IsLeft ids log c.node
  gives_left preferred c = record {
    least = c.least;
    most = c.most;
    other = λ i. absurd (cc (on_list (members_of t) c.node (all c.node i), left_false (is_on_list (members_of t) c.node) (is_recorded t.raft_server.store.log c.node) unknown));
    free = λ h. absurd (cc (
      ap (λ (l : List Entry). is_recorded l c.node) log_is ∙ recorded log c.node h.place h.within h.same,
      right_false (is_on_list (members_of t) c.node) (is_recorded t.raft_server.store.log c.node) unknown,
    ));
  }
    where
      untaken : is_taken (at_moment moment t) c.node ≡ false
      untaken = sym (get_or-map-range_with_len (is_taken (at_moment moment t)) 0 128 c.node c.node true (omega (arith, c.most)) (omega arith)) ∙ c.free

      unknown : is_known t c.node ≡ false
      unknown = left_false (is_known t c.node) (is_online (history c.node t.watch) (max t.now moment)) untaken

  -- the pair may be recorded
  pub may_record : (preferred : ℕ) (uid : List ℕ) → HasPlaceFor ids log uid → (c : Chooses (taken (at_moment moment t)) preferred)
      → MayRecord t moment preferred uid c.node
  unfolding some_unknown
  may_record preferred uid place c = record {
    device = not_zeros uid place.device;
    new = ap (λ (l : List Entry). recorded_at l uid) log_is ∙ not_first log uid place.new;
    may = (λ i. is_leader (leads i) && nat_lt (length (log_is i)) 127) ∙ lt_is (length log) log_limit place.room;
    all_known = none_unknown;
    choice = c.chosen_is;
  }
    where
      same : max t.now moment ≡ moment
      same = omega (arith, later)

      none_unknown : some_unknown t.watch (known t) moment ≡ false
      none_unknown = none_any (λ node. is_unknown t.watch (known t) node moment) devices
          (not_unknown t moment (λ node e. ap (λ (m : ℕ). is_online (history node t.watch) m) (sym same) ∙ off_then node e))
