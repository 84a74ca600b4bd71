-- The world of an allocator that is alone, with one device: what each row leaves of both.
use Rattle.std.proofs.Common.{◌≡◌, ℕ, ◌+◌, ◌≤◌, true, false, List, [], ◌∷◌, refl, sym, ◌∙◌, ap, subst, arith, Option, None}
use Rattle.std.specs.Prelude.{not}
use Rattle.outside.specs.declared.pattern.Pattern.TheVariants.{Old}
use Rattle.raft_core.specs.StoredPuts.{store_of}
use Rattle.raft_log.specs.KeyDisk.{is_open_on, opening_on}
use Rattle.raft_log.specs.Stored.{Stored}
use Rattle.kv_store.specs.KeyDisk.{KeyDisk}
use Rattle.raft_model.specs.Lists.{at_here}
use Rattle.raft_model.specs.Server.{Store}
use Rattle.bus_rows.specs.declared.row.Row.TheVariants.{Crash, Open, Tick}
use Rattle.transfer_tx.specs.Queue.{Queued}
use Rattle.allocatee.specs.Allocatee.{Device}
use Rattle.alloc_spec.specs.AllocatorState.{AllocatorState}
use Rattle.alloc_spec.specs.Rules.{opening_by, rules_by}
use Rattle.alloc_spec.specs.Step.{Event, step}
use Rattle.alloc_spec.specs.Step as server
use Rattle.bus_spec.specs.declared.unlawful.Unlawful.TheVariants.{NoNode, Running, Stopped}
use Rattle.bus_spec.specs.Cluster.{Cluster, after_row, is_member, rules_of, with_member}
use Rattle.bus_spec.specs.Lawful.{because, or_else}
use Rattle.bus_spec.specs.Members.{Member, MemberStatus, after_crash, after_opening, is_running, member_after_step}
use Rattle.bus_spec.specs.Members.MemberStatus.{Down, Failed, Up}
use Rattle.service_steps.proofs.FollowUps.{same_number}
use Rattle.service_alone.specs.Alone.{found}
use Rattle.service_alone.proofs.Goes.{CanGo, at_most, behind_row, one_row}
use Rattle.service_alone.proofs.Members.{IsDown, IsUp, cut_down, opens_up, steps_up, stops_down}

pub own_is : (w : Cluster) (n : ℕ) (x : Member) → (with_member w n x).member n ≡ x
own_is w n x = at_here w.member n n x refl

module _ (n a : ℕ) where
  -- the allocator runs this server, and no call of its disk is set to fail; at the place is this device, or none; and
  -- these frames were on the bus
  pub record At (t : AllocatorState) (x : Option Device) (frames : List Queued) (w : Cluster) : Type 0 where
    pub ids : w.ids ≡ n ∷ []
    pub up : IsUp t (w.member n)
    pub there : w.allocatee a ≡ x
    pub sent : w.frames ≡ frames

  -- the allocator is stopped, and found this stored
  pub record DownAt (store : Store) (x : Option Device) (frames : List Queued) (w : Cluster) : Type 0 where
    pub ids : w.ids ≡ n ∷ []
    pub down : IsDown store (w.member n)
    pub there : w.allocatee a ≡ x
    pub sent : w.frames ≡ frames

  pub it_is : (w : Cluster) → w.ids ≡ n ∷ [] → is_member w.ids n ≡ true
  it_is w e = ap (λ (ids : List ℕ). is_member ids n) e ∙ rw (same_number n) refl

  -- ---- a stop

  module _ (w : Cluster) (ids : w.ids ≡ n ∷ []) (now : ℕ) where
    abbrev pub AsFound : Cluster → Type 0
    AsFound v = DownAt (found w n) (w.allocatee a) w.frames v

    pub stops_now : is_running (w.member n).status ≡ true → CanGo w now now 1 AsFound
    stops_now up = one_row AsFound w (Crash n 0 Old) now (omega arith)
        (λ i. or_else (because NoNode (not (it_is w ids i))) (because Stopped (not (up i))))
        (record {
          ids = ids;
          down = subst (IsDown (found w n)) (sym (own_is w n (after_crash 0 Old (w.member n)))) (stops_down (w.member n));
          there = refl;
          sent = refl;
        })

    stops_later : (w.member n).status ≡ Down → CanGo w now now 2 AsFound
    stops_later down = behind_row AsFound w (Crash n 1 Old) now now 1 (omega arith)
        (λ i. or_else (because NoNode (not (it_is w ids i))) None)
        (one_row AsFound armed (Open n false now 0) now (omega arith)
        (λ i. or_else (because NoNode (not (it_is w ids i))) (because Running (is_running (still_down i))))
        (record {
          ids = ids;
          down = subst (IsDown (found w n)) (sym (own_is armed n (after_opening n (rules_of w.ids false) now 0 (armed.member n))))
              (subst (λ (x : Member). IsDown (found w n) (after_opening n (rules_of w.ids false) now 0 x)) (sym (own_is w n (after_crash 1 Old (w.member n))))
              (cut_down n (rules_of w.ids false) now 0 (w.member n)));
          there = refl;
          sent = refl;
        }))
      where
        armed : Cluster
        armed = after_row w (Crash n 1 Old)

        still_down : (armed.member n).status ≡ Down
        still_down = ap (λ (x : Member). x.status) (own_is w n (after_crash 1 Old (w.member n))) ∙ down

    pub stops : CanGo w now now 2 AsFound
    stops = by (w.member n).status refl
      where
        by : (status : MemberStatus) → (w.member n).status ≡ status → CanGo w now now 2 AsFound
        by Down e = stops_later e
        by (Up t) e = at_most AsFound w now now 1 2 (omega arith) (stops_now (ap is_running e))
        by (Failed failure) e = at_most AsFound w now now 1 2 (omega arith) (stops_now (ap is_running e))

  -- ---- an opening, and a step

  pub opens : (keeps_store : (disk : KeyDisk Stored) → is_open_on disk ≡ true → store_of (opening_on disk).store ≡ store_of disk.store)
      → (store : Store) (x : Option Device) (frames : List Queued) (w : Cluster) (moment : ℕ) → DownAt store x frames w
      → CanGo w moment moment 1 (At (opening_by n (rules_by 1 []) store moment 0) x frames)
  opens keeps_store store x frames w moment is = one_row (At (opening_by n (rules_by 1 []) store moment 0) x frames) w (Open n false moment 0) moment (omega arith)
      (λ i. or_else (because NoNode (not (it_is w is.ids i))) (because Running (is_running (is.down.status i))))
      (record {
        ids = is.ids;
        up = subst (IsUp (opening_by n (rules_by 1 []) store moment 0)) (sym (own_is w n (after_opening n (rules_of w.ids false) moment 0 (w.member n))))
            (subst (λ (ids : List ℕ). IsUp (opening_by n (rules_by 1 []) store moment 0) (after_opening n (rules_of ids false) moment 0 (w.member n))) (sym is.ids)
            (opens_up keeps_store n (rules_by 1 []) moment 0 store (w.member n) is.down));
        there = is.there;
        sent = is.sent;
      })

  pub ticks : (t : AllocatorState) (x : Option Device) (frames : List Queued) (w : Cluster) (now moment : ℕ) → now ≤ moment → At t x frames w
      → CanGo w now moment 1 (At (step t (w.rows + 1) (server.Tick moment 0)).step_state.allocator x frames)
  ticks t x frames w now moment later is = one_row (At (step t (w.rows + 1) (server.Tick moment 0)).step_state.allocator x frames) w (Tick n moment 0) now later
      (λ i. or_else (because NoNode (not (it_is w is.ids i))) (because Stopped (not (is_running (is.up.status i)))))
      (record {
        ids = is.ids;
        up = subst (IsUp (step t (w.rows + 1) (server.Tick moment 0)).step_state.allocator)
            (sym (own_is w n (member_after_step (w.rows + 1) (server.Tick moment 0) (w.member n).status (w.member n))))
            (steps_up (w.rows + 1) (server.Tick moment 0) t (w.member n) is.up);
        there = is.there;
        sent = is.sent;
      })
