-- A calm in which no Discovery is due, row by row: each member stays fit, and so do the requests that it has accepted.
use Rattle.std.proofs.Common.{◌≡◌, ◌≢◌, ℕ, ◌+◌, ◌≤◌, Bool, true, List, [], ◌∷◌, ◌++◌, max, sym, ◌∙◌, ap, subst, arith, inl, inr}
use Rattle.alloc_exchange.specs.Exchange.{Accepted, after, last_moment}
use Rattle.can_frame.specs.declared.identifier.Ident.{Ident}
use Rattle.can_frame.specs.declared.identifier.Kind.TheVariants.{Anonymous, Message as Broadcast}
use Rattle.cluster_discovery.specs.Members.{is_on_list}
use Rattle.dsdl_codec.specs.declared.allocation.Allocation.{Allocation}
use Rattle.raft_model.specs.Lists.{In}
use Rattle.bus_rows.specs.declared.row.Row.TheVariants.{Rx}
use Rattle.transfer_rx.specs.Reassembly.{Arrival, Delivery, Gives}
use Rattle.alloc_spec.specs.AllocatorState.{AllocatorState, members_of}
use Rattle.alloc_spec.specs.Step.{Event, after_pop, moment_of, step}
use Rattle.alloc_spec.specs.Step as server
use Rattle.alloc_spec_laws.specs.Sound.{IsOnTheBus}
use Rattle.bus_rows.specs.Timed.{Timed, rows_in}
use Rattle.service_alone.specs.Calm.{Pace, end_of}
use Rattle.service_calm.specs.Calm.{AreCalm, Device as OfDevice, IsCalmRow, IsInTime, Member as OfMember, Party, Traffic, traffic_after}
use Rattle.service_calm.proofs.Calls.{on_list}
use Rattle.service_calm.proofs.Group.{AreWell, CalmLaws, narrow_on_bus}
use Rattle.service_device.proofs.AllocationsOffered.{comes_to}
use Rattle.service_device.proofs.DialogFrames.{has_source}
use Rattle.service_leader.proofs.HeardIdents.{not_own}
use Rattle.service_device.proofs.SettledSteps.{NoStranger}
use Rattle.service_device.proofs.TidyCalm.{IsSteady, comes_with, none_comes, plain_comes, steady_after}
use Rattle.service_device.proofs.TidyRows.{Does, IsPlain, IsQuiet, does, of_member, quiet_same, quiet_sent, quiet_stepped, wanted_here}
use Rattle.service_device.proofs.TidyRows.Does.{Hears, Sends, Stays, Ticks}
use Rattle.service_device.proofs.TidyServers.{NoneComes, Rests, rests_on, same_list}
use Rattle.service_leader.proofs.FramesFly.{Fly}
use Rattle.bus_spec.specs.Cluster.{Cluster, after_row, after_rows, frame_at, receipt_of, tick_of}
use Rattle.bus_spec.specs.Members.{member_after_step}

-- What holds of accepted requests at a moment holds of them later, and behind a request of a device of the group. The last
-- one is not after the moment.
pub record AreKept (group : List Party) (Fits : ℕ → List Accepted → Type 0) : Type 0 where
  pub later : (now later : ℕ) (accepted : List Accepted) → now ≤ later → Fits now accepted → Fits later accepted
  pub behind : (a : ℕ) → In (OfDevice a) group → (now : ℕ) (message : Allocation) (accepted : List Accepted) (follows : Bool) → Fits now accepted
      → Fits now (after accepted message now follows)
  pub ends : (now : ℕ) (accepted : List Accepted) → Fits now accepted → last_moment accepted ≤ now

module _ (laws : CalmLaws) (group : List Party) (nodes : (p : ℕ) → In (OfMember p) group → (1 ≤ p) × (p ≤ 125)) (clocks : Party → ℕ) (pace : Pace)
    (Fits : ℕ → List Accepted → Type 0) (kept : AreKept group Fits) where
  -- Member p needs no Discovery, its clock has not fallen, it has accepted requests that fit, no node is online that it does not
  -- list, and it lists each other member.
  pub record IsRested (p now : ℕ) (t : AllocatorState) (w : Cluster) : Type 0 where
    pub quiet : IsQuiet p t w
    pub clock : t.now ≤ now
    pub status : t.status_at ≤ now
    pub requests : Fits now t.accepted
    pub offline : NoStranger [] (members_of t) t.watch t.now
    pub lists : (q : ℕ) → In (OfMember q) group → p ≢ q → In q (members_of t)

  -- each is so, and no Discovery is on its way
  pub record AreRested (traffic : Traffic) (w : Cluster) : Type 0 where
    pub well : AreWell group w
    pub flies : (party : Party) → Fly (IsPlain group) w.frames (traffic.to party)
    pub rested : (p : ℕ) → In (OfMember p) group → (t : AllocatorState) × IsRested p (traffic.at + clocks (OfMember p)) t w

  steady : (traffic : Traffic) (w : Cluster) → AreRested traffic w → IsSteady laws group nodes clocks pace traffic w
  steady traffic w s = record { well = s.well; flies = s.flies; quiet = λ p i. ((s.rested p i).0, (s.rested p i).1.quiet) }

  -- it is so later, where nothing happened to it
  later_on : (p now later : ℕ) (t : AllocatorState) (w v : Cluster) → now ≤ later → v.member p ≡ w.member p → IsRested p now t w → IsRested p later t v
  later_on p now later t w v after_it same h = record {
    quiet = quiet_same p t w v same h.quiet;
    clock = omega (arith, h.clock, after_it);
    status = omega (arith, h.status, after_it);
    requests = kept.later now later t.accepted after_it h.requests;
    offline = h.offline;
    lists = h.lists;
  }

  module _ (traffic : Traffic) (w : Cluster) (timed : Timed) (in_time : IsInTime group clocks pace traffic w timed.at)
      (calm : IsCalmRow group clocks pace traffic w timed.at timed.row) (s : AreRested traffic w) where
    -- ---- what comes to a member

    module _ (p : ℕ) (i : In (OfMember p) group) (now : ℕ) (t : AllocatorState) (h : IsRested p now t w) (k ms : ℕ) (is : timed.row ≡ Rx p k ms) where
      plain : IsPlain group (frame_at w.frames k)
      plain = plain_comes laws group nodes clocks pace traffic w timed calm (steady traffic w s) p k ms is

      -- a request is of a device
      of_device : (arrival : Arrival) → receipt_of w k ms ≡ server.Rx arrival → (d : Delivery) → comes_to t arrival ≡ Gives d → d.ident.kind ≡ Anonymous
          → (a : ℕ) × In (OfDevice a) group
      of_device arrival same d gives kind = by plain
        where
          by : IsPlain group (frame_at w.frames k) → (a : ℕ) × In (OfDevice a) group
          by (inl of) = absurd (has_source laws.frame of.n (frame_at w.frames k) (nodes of.n of.member) of.is d.ident
              (wanted_here laws.frame group nodes t.me t.sessions (frame_at w.frames k) (max t.now ms) plain d (comes_with t w k ms arrival same d gives)).read kind)
          by (inr of) = (of.0, of.1)

      -- a message is of a member that it lists
      listed : (arrival : Arrival) → receipt_of w k ms ≡ server.Rx arrival → (d : Delivery) → comes_to t arrival ≡ Gives d → d.ident.kind ≡ Broadcast
          → is_on_list (members_of t) d.ident.source ≡ true
      listed arrival same d gives kind =
          let its = of_member laws.frame group nodes t.me t.sessions (frame_at w.frames k) (max t.now ms) plain d (comes_with t w k ms arrival same d gives) kind in
          let source : d.ident.source ≡ its.0.n = ap (λ (ident : Ident). ident.source) its.1 in
          let wanted = wanted_here laws.frame group nodes t.me t.sessions (frame_at w.frames k) (max t.now ms) plain d (comes_with t w k ms arrival same d gives) in
          ap (is_on_list (members_of t)) source
          ∙ on_list (members_of t) its.0.n (h.lists its.0.n its.0.member (λ e. not_own t.me d.ident (subst (λ (q : ℕ). 1 ≤ q) (sym h.quiet.its.me) (nodes p i).0) wanted.for_me
          (source ∙ (sym e ∙ sym h.quiet.its.me))))

    -- ---- what a row leaves

    -- a step
    stepped : (p : ℕ) (i : In (OfMember p) group) (t : AllocatorState) (h : IsRested p (traffic.at + clocks (OfMember p)) t w) (event : Event) → IsOnTheBus event
        → (after_row w timed.row).member p ≡ member_after_step (w.rows + 1) event (w.member p).status (w.member p) → moment_of event ≡ timed.at + clocks (OfMember p)
        → NoneComes (w.rows + 1) t h.quiet.complete h.quiet.discovery event
        → ((arrival : Arrival) → event ≡ server.Rx arrival → (d : Delivery) → comes_to t arrival ≡ Gives d → d.ident.kind ≡ Anonymous → (a : ℕ) × In (OfDevice a) group)
        → ((arrival : Arrival) → event ≡ server.Rx arrival → (d : Delivery) → comes_to t arrival ≡ Gives d → d.ident.kind ≡ Broadcast
        → is_on_list (members_of t) d.ident.source ≡ true)
        → IsRested p (timed.at + clocks (OfMember p)) (step t (w.rows + 1) event).step_state.allocator (after_row w timed.row)
    stepped p i t h event bus same reads none from_device from_listed = record {
      quiet = quiet_stepped laws p (nodes p i) t w h.quiet (w.rows + 1) (after_row w timed.row) event bus same none;
      clock = let c = r.clock in omega (arith, c, now_is);
      status = let c = r.status_at in omega (arith, c, now_is);
      requests = subst (λ (moment : ℕ). Fits moment u.accepted) now_is r.requests;
      offline = subst (λ (list : List ℕ). NoStranger [] list u.watch u.now) (sym list_is) (subst (NoStranger [] (members_of t) u.watch) (sym r.clock) r.offline);
      lists = λ q j apart. subst (λ (list : List ℕ). In q list) (sym list_is) (h.lists q j apart);
    }
      where
        u : AllocatorState
        u = (step t (w.rows + 1) event).step_state.allocator

        now_is : max t.now (moment_of event) ≡ timed.at + clocks (OfMember p)
        now_is = let m = in_time.moments in let c = h.clock in omega (arith, reads, m, c)

        later : traffic.at + clocks (OfMember p) ≤ max t.now (moment_of event)
        later = let m = in_time.moments in omega (arith, m, reads)

        r : Rests (w.rows + 1) t h.quiet.complete h.quiet.discovery (Fits (max t.now (moment_of event))) (max t.now (moment_of event))
            (step t (w.rows + 1) event).step_state
        r = rests_on (w.rows + 1) t h.quiet.complete h.quiet.discovery (Fits (max t.now (moment_of event))) event none from_listed
            (λ arrival is d gives kind message says. let of = from_device arrival is d gives kind in kept.behind of.0 of.1 (max t.now (moment_of event)) message)
            (let m = in_time.moments in let c = h.status in omega (arith, reads, m, c)) h.offline
            (kept.later (traffic.at + clocks (OfMember p)) (max t.now (moment_of event)) t.accepted later h.requests)

        list_is : members_of (step t (w.rows + 1) event).step_state.allocator ≡ members_of t
        list_is = same_list t (step t (w.rows + 1) event).step_state.allocator r.silent.start r.silent.heard

    rested_then : (p : ℕ) (i : In (OfMember p) group) → (t : AllocatorState) × IsRested p (timed.at + clocks (OfMember p)) t (after_row w timed.row)
    rested_then p i = by (does group clocks pace traffic w timed.at p timed.row calm)
      where
        t : AllocatorState
        t = (s.rested p i).0

        h : IsRested p (traffic.at + clocks (OfMember p)) (s.rested p i).0 w
        h = (s.rested p i).1

        by : Does p (timed.at + clocks (OfMember p)) w timed.row → (u : AllocatorState) × IsRested p (timed.at + clocks (OfMember p)) u (after_row w timed.row)
        by (Stays same) = (
          t,
          later_on p (traffic.at + clocks (OfMember p)) (timed.at + clocks (OfMember p)) t w (after_row w timed.row) (let m = in_time.moments in omega (arith, m)) same h,
        )
        by (Sends same) = (
          after_pop t,
          record {
            quiet = quiet_sent laws p (nodes p i) t w h.quiet (after_row w timed.row) same;
            clock = let m = in_time.moments in let c = h.clock in omega (arith, m, c);
            status = let m = in_time.moments in let c = h.status in omega (arith, m, c);
            requests = kept.later (traffic.at + clocks (OfMember p)) (timed.at + clocks (OfMember p)) t.accepted (let m = in_time.moments in omega (arith, m)) h.requests;
            offline = h.offline;
            lists = h.lists;
          },
        )
        by (Ticks ms word reads same) = (
          (step t (w.rows + 1) (tick_of ms word)).step_state.allocator,
          stepped p i t h (tick_of ms word) tt same reads (λ arrival is. absurd (cc (is))) (λ arrival is. absurd (cc (is))) (λ arrival is. absurd (cc (is))),
        )
        by (Hears k ms is reads same) = (
          (step t (w.rows + 1) (receipt_of w k ms)).step_state.allocator,
          stepped p i t h (receipt_of w k ms) (narrow_on_bus w.frames s.well.narrow k) same reads
              (none_comes laws group nodes clocks pace traffic w timed calm (steady traffic w s) p t h.quiet k ms is)
              (of_device p i (traffic.at + clocks (OfMember p)) t h k ms is) (listed p i (traffic.at + clocks (OfMember p)) t h k ms is),
        )

    -- so it is behind the row
    rested_after : AreRested (traffic_after traffic w timed) (after_row w timed.row)
    rested_after =
        let then_steady : IsSteady laws group nodes clocks pace (traffic_after traffic w timed) (after_row w timed.row)
        = steady_after laws group nodes clocks pace traffic w timed calm (steady traffic w s) in
        record { well = then_steady.well; flies = then_steady.flies; rested = rested_then }

  -- and behind each front of the rows
  pub rested_on : (m : ℕ) (i : In (OfMember m) group) (front rest : List Timed) (traffic : Traffic) (w : Cluster) → AreCalm group clocks pace traffic w (front ++ rest)
      → AreRested traffic w
      → (t : AllocatorState) × IsRested m (end_of traffic.at front + clocks (OfMember m)) t (after_rows w (rows_in front))
  rested_on m i [] rest traffic w calm s = s.rested m i
  rested_on m i (timed ∷ front) rest traffic w calm s =
      rested_on m i front rest (traffic_after traffic w timed) (after_row w timed.row) calm.2 (rested_after traffic w timed calm.0 calm.1 s)
