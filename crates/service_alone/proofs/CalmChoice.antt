-- An allocator at rest may record a new unique ID, and gives it one of the node IDs that are left.
use Rattle.std.proofs.Common.{◌≡◌, ◌≢◌, ℕ, ◌<◌, ◌≤◌, Bool, true, false, List, [], ◌∷◌, length, max, inl, inr, sym, ◌∙◌, ap, arith}
use Rattle.std.specs.Prelude.{◌&&◌, ◌||◌, nat_eq, nat_lt}
use Rattle.std.proofs.lemmas.Bool.Decides.{eqb_tells}
use Rattle.std.proofs.lemmas.List.FromFn.{get_or-map-range_with_len}
use Rattle.alloc_exchange.specs.Exchange.{Accepted}
use Rattle.can_frame.specs.declared.entry.Entry.{Entry}
use Rattle.can_frame.specs.Log.{HasUid, log_limit}
use Rattle.can_frame.specs.Zeros.{zeros}
use Rattle.cluster_discovery.specs.Members.{is_on_list}
use Rattle.id_selector.specs.Choice.{IsChoice, chosen}
use Rattle.node_discovery.specs.History.{is_online}
use Rattle.node_discovery.specs.Watch.{devices, history, is_unknown, some_unknown}
use Rattle.raft_model.specs.Moves.Elections.{is_leader}
use Rattle.alloc_spec.specs.AllocatorState.{AllocatorState, is_known, is_recorded, is_taken, known, recorded_at, taken}
use Rattle.alloc_spec.specs.Step.{at_moment}
use Rattle.service_steps.specs.Serving.{MayRecord}
use Rattle.service_steps.proofs.FollowUps.{same_number}
use Rattle.service_alone.specs.Alone.{IsLeft}
use Rattle.service_alone.proofs.CalmRest.{Serves, lists_itself, not_unknown, offline_later}
use Rattle.service_alone.proofs.Choosing.{Chooses, chooses, left_false, none_any, not_first, not_recorded, not_zeros, recorded, right_false}
use Rattle.service_steps.proofs.Alone.{lt_is}

module _ (n : ℕ) (log : List Entry) (accepted : List Accepted) (next : ℕ) (t : AllocatorState) (s : Serves n log accepted next t) (moment : ℕ) where
  known_is : (node : ℕ) → is_known t node ≡ (is_on_list (n ∷ []) node || is_recorded log node)
  known_is node = λ i. is_on_list ((lists_itself t s.size ∙ ap (λ (m : ℕ). m ∷ []) s.me) i) node || is_recorded (s.log_is i) node

  off : (node : ℕ) → (is_on_list (n ∷ []) node || is_recorded log node) ≡ false → is_online (history node t.watch) (max t.now moment) ≡ false
  off node e = offline_later n log t.watch t.now (max t.now moment) (omega arith) s.offline node e

  -- it goes by its log and its own node ID
  judged : (node : ℕ) → is_taken (at_moment moment t) node ≡ ((is_on_list (n ∷ []) node || is_recorded log node) || is_online (history node t.watch) (max t.now moment))
  judged node = λ i. known_is node i || is_online (history node t.watch) (max t.now moment)

  left_unknown : (node : ℕ) → IsLeft n log node → (is_on_list (n ∷ []) node || is_recorded log node) ≡ false
  left_unknown node left = rw (other) (not_recorded log node left.free)
    where
      other : nat_eq n node ≡ false
      other = elim (eqb_tells n node) [ inl z ↦ absurd (left.other (sym z.1)) | inr z ↦ z.0 ]

  not_taken : (node : ℕ) → IsLeft n log node → is_taken (at_moment moment t) node ≡ false
  not_taken node left = judged node ∙ rw (left_unknown node left) (off node (left_unknown node left))

  -- where a node ID is left, one is chosen
  pub finds_one : ((ids : List Bool) (preferred : ℕ) → IsChoice ids preferred (chosen ids preferred)) → (preferred node : ℕ) → IsLeft n log node
      → Chooses (taken (at_moment moment t)) preferred
  finds_one law preferred node left = chooses law (taken (at_moment moment t)) preferred node left.least left.most
      (get_or-map-range_with_len (is_taken (at_moment moment t)) 0 128 node node true (omega (arith, left.most)) (omega arith) ∙ not_taken node left)

  -- the one that is chosen was left
  pub gives_left : (preferred : ℕ) (c : Chooses (taken (at_moment moment t)) preferred) → IsLeft n log c.node
  gives_left preferred c = record {
    least = c.least;
    most = c.most;
    other = λ e. let own : nat_eq n c.node ≡ true = ap (λ (k : ℕ). nat_eq n k) e ∙ same_number n in
        absurd (cc (own, left_false (nat_eq n c.node) false (left_false (is_on_list (n ∷ []) c.node) (is_recorded log c.node) unknown)));
    free = λ h. absurd (cc (recorded log c.node h.place h.within h.same, right_false (is_on_list (n ∷ []) c.node) (is_recorded log c.node) unknown));
  }
    where
      untaken : is_taken (at_moment moment t) c.node ≡ false
      untaken = sym (get_or-map-range_with_len (is_taken (at_moment moment t)) 0 128 c.node c.node true (omega (arith, c.most)) (omega arith)) ∙ c.free

      unknown : (is_on_list (n ∷ []) c.node || is_recorded log c.node) ≡ false
      unknown = left_false (is_on_list (n ∷ []) c.node || is_recorded log c.node) (is_online (history c.node t.watch) (max t.now moment)) (sym (judged c.node) ∙ untaken)

  -- the pair may be recorded
  pub may_record : (preferred : ℕ) (uid : List ℕ) → t.now ≤ moment → uid ≢ zeros → (HasUid log uid → ⊥) → length log < log_limit
      → (c : Chooses (taken (at_moment moment t)) preferred) → MayRecord t moment preferred uid c.node
  unfolding some_unknown
  may_record preferred uid later device new room c = record {
    device = not_zeros uid device;
    new = ap (λ (l : List Entry). recorded_at l uid) s.log_is ∙ not_first log uid new;
    may = (λ i. is_leader (s.role i) && nat_lt (length (s.log_is i)) 127) ∙ lt_is (length log) log_limit room;
    all_known = none_unknown;
    choice = c.chosen_is;
  }
    where
      same : max t.now moment ≡ moment
      same = omega (arith, later)

      none_unknown : some_unknown t.watch (known t) moment ≡ false
      none_unknown = none_any (λ node. is_unknown t.watch (known t) node moment) devices
          (not_unknown t moment (λ node e. ap (λ (m : ℕ). is_online (history node t.watch) m) (sym same) ∙ off node (sym (known_is node) ∙ e)))
