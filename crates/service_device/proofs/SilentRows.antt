-- In a calm in which another member leads on, a member falls silent: the requests that it has accepted grow old, and the
-- frames of Allocations that wait in its queue leave it.
use Rattle.std.proofs.Common.{◌≡◌, ◌≢◌, ◌⊎◌, ℕ, ◌+◌, ◌≤◌, ◌<◌, Bool, false, List, [], ◌∷◌, ◌++◌, max, refl, sym, ◌∙◌, ap, subst, arith, inl, inr}
use Rattle.std.specs.Prelude.{if◌then◌else◌, nat_eq}
use Rattle.alloc_exchange.specs.Exchange.{Accepted, last_moment, recent_requests}
use Rattle.can_frame.specs.declared.step.What.TheVariants.{Alloc}
use Rattle.can_frame.specs.Identifier.{identifier_number}
use Rattle.raft_model.specs.Lists.{In}
use Rattle.raft_model.specs.Server.Role.{Follower}
use Rattle.transfer_tx.specs.Queue.{Queued}
use Rattle.transfer_tx.specs.Run.{of_identifier}
use Rattle.alloc_spec.specs.AllocatorState.{AllocatorState}
use Rattle.alloc_spec.specs.Step.{Event, after_pop, moment_of, step}
use Rattle.alloc_spec.specs.Transfers.{Offer, ident_of}
use Rattle.alloc_spec_laws.proofs.Choices.{eq_true, lt_tells, tell}
use Rattle.alloc_spec_laws.specs.Sound.{IsOnTheBus}
use Rattle.bus_agreement.proofs.RowsWithoutEvents.{left_in_queue}
use Rattle.bus_rows.specs.Timed.{Timed, rows_in}
use Rattle.service_alone.specs.Calm.{Pace, end_of, queue_of, waits_after}
use Rattle.service_alone.proofs.Members.{IsUp, steps_up}
use Rattle.service_calm.specs.Calm.{AreCalm, IsCalmRow, IsInTime, Member as OfMember, Party, Traffic, traffic_after}
use Rattle.service_calm.proofs.Group.{AreWell, CalmLaws, IsServer, IsWell, narrow_on_bus, server_sent, server_stepped, up_sent, well_after}
use Rattle.service_calm.proofs.Pair.{same_server}
use Rattle.service_leader.specs.LeadsOn.{FollowsWithin}
use Rattle.service_device.specs.Dialog.{HasNothingToSay}
use Rattle.service_device.proofs.FollowersSay.{says_nothing}
use Rattle.service_device.proofs.FramesPut.{waited_or_offered}
use Rattle.service_device.proofs.SilentSteps.{IsLeft, follower_leaves}
use Rattle.service_device.proofs.TidyRows.{Does, does}
use Rattle.service_device.proofs.TidyRows.Does.{Hears, Sends, Stays, Ticks}
use Rattle.bus_spec.specs.Cluster.{Cluster, after_row, after_rows, receipt_of, tick_of}
use Rattle.bus_spec.specs.Members.{member_after_step}
use Rattle.bus_spec.specs.Members.MemberStatus.{Up}

-- ---- since when frames wait

waits_either : (at since : ℕ) (before after : List Queued) → (waits_after at since before after ≡ at) ⊎ (waits_after at since before after ≡ since)
waits_either at since [] after = inl refl
waits_either at since (f ∷ fs) [] = inl refl
waits_either at since (f ∷ fs) (g ∷ gs) = inr refl

-- where a frame stays, they wait on
waits_still : (at since : ℕ) (before after : List Queued) (frame : Queued) → In frame before → In frame after → waits_after at since before after ≡ since
waits_still at since [] after frame i j = absurd i
waits_still at since (f ∷ fs) [] frame i j = absurd j
waits_still at since (f ∷ fs) (g ∷ gs) frame i j = refl

some_wait : (queue : List Queued) (frame : Queued) → In frame queue → queue ≢ []
some_wait queue frame i e = absurd (subst (λ (l : List Queued). In frame l) e i)

-- no frame has this number
none_of : (id : ℕ) (queue : List Queued) → ((f : Queued) → In f queue → f.id ≢ id) → of_identifier id queue ≡ []
none_of id [] none = refl
none_of id (f ∷ queue) none = elim (tell (nat_eq f.id id)) [
  | inl z ↦ absurd (none f (inl refl) (eq_true f.id id z))
  | inr z ↦ let y : nat_eq f.id id ≡ false = z in rw (y) (none_of id queue (λ g i. none g (inr i)))
]

-- requests count no more once the last one is too old
too_old : (accepted : List Accepted) (last now : ℕ) → last_moment accepted ≤ last → last + 500 < now → recent_requests accepted now ≡ []
too_old accepted last now low late = elim (lt_tells (last_moment accepted + 500) now) [
  | inl z ↦ ap (λ (b : Bool). if b then [] else accepted) z.0
  | inr z ↦ absurd (omega (arith, z.1, low, late))
]

-- what is left is of no later moment
left_low : (before now : List Accepted) (last : ℕ) → last_moment before ≤ last → IsLeft before now → last_moment now ≤ last
left_low before now last low (inl same) = let e = ap last_moment same in omega (arith, low, e)
left_low before now last low (inr none) = let e = ap last_moment none in omega (arith, e)

module _ (laws : CalmLaws) (group : List Party) (nodes : (p : ℕ) → In (OfMember p) group → (1 ≤ p) × (p ≤ 125)) (clocks : Party → ℕ) (pace : Pace) (m : ℕ)
    (member : In (OfMember m) group) (from : ℕ) where
  abbrev number : ℕ
  number = identifier_number (ident_of m Alloc 0)

  -- all parties are well, and frames wait in the member's queue since some moment that has come
  pub record IsAt (traffic : Traffic) (w : Cluster) : Type 0 where
    pub well : AreWell group w
    pub since : traffic.waits (OfMember m) ≤ traffic.at

  -- It has accepted no request of a later moment than `from`; where a frame of an Allocation waits in its queue, frames
  -- wait there since a moment at which requests counted; and a delay later none waits.
  pub record Fades (traffic : Traffic) (w : Cluster) : Type 0 where
    pub server : AllocatorState
    pub up : IsUp server (w.member m)
    pub its : IsServer m server
    pub low : last_moment server.accepted ≤ from + clocks (OfMember m)
    pub early : (f : Queued) → In f server.queue → f.id ≡ number → traffic.waits (OfMember m) ≤ from + 500
    pub gone : from + 500 + pace.delay < traffic.at → (f : Queued) → In f server.queue → f.id ≢ number

  module _ (traffic : Traffic) (w : Cluster) (timed : Timed) (is : IsAt traffic w) (in_time : IsInTime group clocks pace traffic w timed.at)
      (calm : IsCalmRow group clocks pace traffic w timed.at timed.row) where
    at_after : IsAt (traffic_after traffic w timed) (after_row w timed.row)
    at_after = record {
      well = well_after laws group nodes w is.well clocks pace traffic timed.at timed.row calm;
      since = let m_ = in_time.moments in let s = is.since in elim (waits_either timed.at (traffic.waits (OfMember m)) (queue_of (w.member m).status) (queue_of ((after_row w timed.row).member m).status)) [
        | inl e ↦ omega (arith, e)
        | inr e ↦ omega (arith, e, m_, s)
      ];
    }

    -- of what waits behind the row, each frame waited before it, or was put there in the row, while requests counted
    module _ (fades : Fades traffic w) where
      abbrev t : AllocatorState
      t = fades.server

      fades_with : (u : AllocatorState) → IsUp u ((after_row w timed.row).member m) → IsServer m u → IsLeft t.accepted u.accepted
          → ((f : Queued) → In f u.queue → f.id ≡ number → In f t.queue ⊎ (timed.at ≤ from + 500)) → Fades (traffic_after traffic w timed) (after_row w timed.row)
      fades_with u up its left comes = record {
        server = u;
        up = up;
        its = its;
        low = left_low t.accepted u.accepted (from + clocks (OfMember m)) fades.low left;
        early = λ f i e. elim (comes f i e) [
          | inl before ↦
              let still = waits_still timed.at (traffic.waits (OfMember m)) (queue_of (w.member m).status) (queue_of ((after_row w timed.row).member m).status) f
              (subst (λ (l : List Queued). In f l) (sym (ap queue_of fades.up.status)) before) (subst (λ (l : List Queued). In f l) (sym (ap queue_of up.status)) i) in
              let l = fades.early f before e in omega (arith, still, l)
          | inr soon ↦ let s = at_after.since in omega (arith, s, soon)
        ];
        gone = λ late f i e. elim (comes f i e) [
          | inl before ↦
              let l = fades.early f before e in
              let s = in_time.sends_soon (OfMember m) member (some_wait (queue_of (w.member m).status) f (subst (λ (q : List Queued). In f q) (sym (ap queue_of fades.up.status)) before)) in
              omega (arith, late, l, s)
          | inr soon ↦ omega (arith, late, soon)
        ];
      }

      -- it takes a step
      module _ (term : ℕ) (follows : FollowsWithin m term w) (then_follows : FollowsWithin m term (after_row w timed.row)) where
        role : t.raft_server.memory.role ≡ Follower
        role = ap (λ (u : AllocatorState). u.raft_server.memory.role) (same_server t follows.server (sym fades.up.status ∙ follows.runs)) ∙ follows.follows

        stepped : (event : Event) → IsOnTheBus event → moment_of event ≡ timed.at + clocks (OfMember m)
            → (after_row w timed.row).member m ≡ member_after_step (w.rows + 1) event (w.member m).status (w.member m)
            → Fades (traffic_after traffic w timed) (after_row w timed.row)
        stepped event bus moment same = fades_with (step t (w.rows + 1) event).step_state.allocator up (server_stepped laws m t (w.rows + 1) event bus fades.its)
            (follower_leaves t (w.rows + 1) role event) comes
          where
            up : IsUp (step t (w.rows + 1) event).step_state.allocator ((after_row w timed.row).member m)
            up = subst (IsUp (step t (w.rows + 1) event).step_state.allocator) (sym same) (steps_up (w.rows + 1) event t (w.member m) fades.up)

            role_then : (step t (w.rows + 1) event).step_state.allocator.raft_server.memory.role ≡ Follower
            role_then = ap (λ (x : AllocatorState). x.raft_server.memory.role)
                (same_server (step t (w.rows + 1) event).step_state.allocator then_follows.server (sym up.status ∙ then_follows.runs)) ∙ then_follows.follows

            none_later : from + 500 < timed.at → (o : Offer) → In o (step t (w.rows + 1) event).step_state.offers → o.what ≢ Alloc
            none_later late = says_nothing t (w.rows + 1) role event role_then
                (too_old t.accepted (from + clocks (OfMember m)) (max t.now (moment_of event)) fades.low (omega (arith, moment, late)))

            comes : (f : Queued) → In f (step t (w.rows + 1) event).step_state.allocator.queue → f.id ≡ number → In f t.queue ⊎ (timed.at ≤ from + 500)
            comes f i e = elim (waited_or_offered laws m (nodes m member) t (w.rows + 1) event bus fades.its Alloc refl f i e) [
              | inl before ↦ inl before
              | inr new ↦ elim (lt_tells (from + 500) timed.at) [
                | inl z ↦ absurd (none_later z.1 new.offer new.offered new.its_what)
                | inr z ↦ inr z.1
              ]
            ]

        -- so it is behind the row
        fades_after : Fades (traffic_after traffic w timed) (after_row w timed.row)
        fades_after = by (does group clocks pace traffic w timed.at m timed.row calm)
          where
            by : Does m (timed.at + clocks (OfMember m)) w timed.row → Fades (traffic_after traffic w timed) (after_row w timed.row)
            by (Stays same) = fades_with t (subst (IsUp t) (sym same) fades.up) fades.its (inl refl) (λ f i e. inl i)
            by (Sends same) = fades_with (after_pop t) (subst (IsUp (after_pop t)) (sym same) (up_sent laws t (w.member m) fades.up)) (server_sent laws m t fades.its) (inl refl)
                (λ f i e. inl (left_in_queue t.queue f i))
            by (Ticks ms word reads same) = stepped (tick_of ms word) tt reads same
            by (Hears k ms is_row reads same) = stepped (receipt_of w k ms) (narrow_on_bus w.frames is.well.narrow k) reads same

  -- ---- in all rows

  -- from the rows behind some first ones on
  pub record GoesOn (moment : ℕ) (w : Cluster) (rest : List Timed) : Type 0 where
    pub traffic : Traffic
    pub at_end : traffic.at ≡ moment
    pub calm : AreCalm group clocks pace traffic w rest
    pub is : IsAt traffic w

  pub goes_on : (front rest : List Timed) (moment : ℕ) (w : Cluster) → GoesOn moment w (front ++ rest) → GoesOn (end_of moment front) (after_rows w (rows_in front)) rest
  goes_on [] rest moment w h = h
  goes_on (timed ∷ front) rest moment w h = goes_on front rest timed.at (after_row w timed.row) (record {
    traffic = traffic_after h.traffic w timed;
    at_end = refl;
    calm = h.calm.2;
    is = at_after h.traffic w timed h.is h.calm.0 h.calm.1;
  })

  fades_on : (few rest : List Timed) (term : ℕ) (traffic : Traffic) (w : Cluster) → AreCalm group clocks pace traffic w (few ++ rest) → IsAt traffic w
      → ((front late : List Timed) → few ≡ front ++ late → FollowsWithin m term (after_rows w (rows_in front))) → Fades traffic w
      → (then_traffic : Traffic) × (then_traffic.at ≡ end_of traffic.at few) × Fades then_traffic (after_rows w (rows_in few))
  fades_on [] rest term traffic w calm is follows fades = (traffic, refl, fades)
  fades_on (timed ∷ few) rest term traffic w calm is follows fades =
      fades_on few rest term (traffic_after traffic w timed) (after_row w timed.row) calm.2 (at_after traffic w timed is calm.0 calm.1)
      (λ front late e. follows (timed ∷ front) late (ap (λ (l : List Timed). timed ∷ l) e))
      (fades_after traffic w timed is calm.0 calm.1 fades term (follows [] (timed ∷ few) refl) (follows (timed ∷ []) few refl))

  -- where it follows on from the moment `from`, it has nothing to say later than the stage timeout and a delay behind it
  pub falls_silent : (few rest : List Timed) (term : ℕ) (w : Cluster) (server : AllocatorState) → GoesOn from w (few ++ rest)
      → ((front late : List Timed) → few ≡ front ++ late → FollowsWithin m term (after_rows w (rows_in front))) → (w.member m).status ≡ Up server
      → last_moment server.accepted ≤ from + clocks (OfMember m) → from + 500 + pace.delay < end_of from few
      → HasNothingToSay m (end_of from few + clocks (OfMember m)) (after_rows w (rows_in few))
  falls_silent few rest term w server h follows runs low long = record {
    server = ends.2.server;
    runs = ends.2.up.status;
    none_waits = none_of number ends.2.server.queue (ends.2.gone (let e = ends_at in omega (arith, e, long)));
    old = too_old ends.2.server.accepted (from + clocks (OfMember m)) (end_of from few + clocks (OfMember m)) ends.2.low (omega (arith, long));
  }
    where
      its : IsWell m (w.member m)
      its = h.is.well.members m member

      same : its.server ≡ server
      same = same_server its.server server (sym its.up.status ∙ runs)

      begins : Fades h.traffic w
      begins = record {
        server = its.server;
        up = its.up;
        its = its.its;
        low = let e = ap (λ (u : AllocatorState). last_moment u.accepted) same in omega (arith, e, low);
        early = λ f i e. let s = h.is.since in let a = h.at_end in omega (arith, s, a);
        gone = λ late f i e. let a = h.at_end in omega (arith, late, a);
      }

      ends : (then_traffic : Traffic) × (then_traffic.at ≡ end_of h.traffic.at few) × Fades then_traffic (after_rows w (rows_in few))
      ends = fades_on few rest term h.traffic w h.calm h.is follows begins

      ends_at : ends.0.at ≡ end_of from few
      ends_at = ends.1 ∙ ap (λ (moment : ℕ). end_of moment few) h.at_end
