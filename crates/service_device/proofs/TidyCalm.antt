-- A calm in which no Discovery is due, row by row: no Discovery is on its way, and what comes misses nobody.
use Rattle.std.proofs.Common.{◌≡◌, ℕ, ◌+◌, ◌≤◌, List, [], ◌∷◌, ◌++◌, max, ◌∙◌, subst, inl, inr}
use Rattle.raft_model.specs.Lists.{In}
use Rattle.bus_rows.specs.declared.row.Row.TheVariants.{Rx}
use Rattle.transfer_rx.specs.Reassembly.{Arrival, Delivery, Gives, answer as received}
use Rattle.alloc_spec.specs.Accepted.{setting_for}
use Rattle.alloc_spec.specs.AllocatorState.{AllocatorState}
use Rattle.alloc_spec.specs.Step.{after_pop, step}
use Rattle.alloc_spec.specs.Step as server
use Rattle.alloc_spec_laws.proofs.Choices.{eq_false}
use Rattle.bus_rows.specs.Timed.{Timed}
use Rattle.service_alone.specs.Calm.{Pace}
use Rattle.service_calm.specs.Calm.{AreCalm, IsCalmRow, Member as OfMember, Party, Traffic, traffic_after}
use Rattle.service_calm.proofs.Group.{AreWell, CalmLaws, narrow_on_bus, sent_anonymous, well_after}
use Rattle.service_device.specs.Settled.{IsAsked, IsNotAsked, MissesNobody, NobodyAsks, NobodyIsMissed}
use Rattle.service_device.specs.Tidy.{AreMembersOnly}
use Rattle.service_device.proofs.AllocationsOffered.{comes_to}
use Rattle.service_device.proofs.DialogFrames.{has_source, not_asked}
use Rattle.service_device.proofs.TidyRows.{Does, IsPlain, IsQuiet, does, none_delivered, none_numbered, quiet_same, quiet_sent, quiet_stepped, sends_plain}
use Rattle.service_device.proofs.TidyRows.Does.{Hears, Sends, Stays, Ticks}
use Rattle.service_device.proofs.TidyServers.{NoneComes}
use Rattle.service_leader.proofs.FramesFly.{Fly, fly_after, next_is}
use Rattle.bus_spec.specs.Cluster.{Cluster, after_row, arrival_at, frame_at, receipt_of, tick_of}

one_arrival : (x y : Arrival) → server.Rx x ≡ server.Rx y → x ≡ y
one_arrival x y e = cc (e)

-- what comes to a server in the receipt of this frame
pub comes_with : (t : AllocatorState) (w : Cluster) (k ms : ℕ) (arrival : Arrival) → receipt_of w k ms ≡ server.Rx arrival → (d : Delivery) → comes_to t arrival ≡ Gives d
    → received (setting_for t.me) t.sessions (arrival_at (frame_at w.frames k) (max t.now ms)) ≡ Gives d
comes_with t w k ms arrival is d gives =
    let same : arrival_at (frame_at w.frames k) ms ≡ arrival = one_arrival (arrival_at (frame_at w.frames k) ms) arrival is in
    (λ i. received (setting_for t.me) t.sessions (record (same i) { moment = max t.now (same i).moment })) ∙ gives

module _ (laws : CalmLaws) (group : List Party) (nodes : (p : ℕ) → In (OfMember p) group → (1 ≤ p) × (p ≤ 125)) (clocks : Party → ℕ) (pace : Pace) where
  -- each member needs no Discovery, and none waits or is on its way
  pub record IsSteady (traffic : Traffic) (w : Cluster) : Type 0 where
    pub well : AreWell group w
    pub flies : (party : Party) → Fly (IsPlain group) w.frames (traffic.to party)
    pub quiet : (p : ℕ) → In (OfMember p) group → (t : AllocatorState) × IsQuiet p t w

  module _ (traffic : Traffic) (w : Cluster) (timed : Timed) (calm : IsCalmRow group clocks pace traffic w timed.at timed.row) (s : IsSteady traffic w) where
    -- the frame that comes is of no Discovery
    pub plain_comes : (p k ms : ℕ) → timed.row ≡ Rx p k ms → IsPlain group (frame_at w.frames k)
    plain_comes p k ms is = next_is (IsPlain group) w.frames k (traffic.to (OfMember p)) (subst (IsCalmRow group clocks pace traffic w timed.at) is calm).2
        (s.flies (OfMember p))

    -- so nobody is missed
    pub misses_nobody : (m : ℕ) → MissesNobody m w timed.row
    misses_nobody m d message comes kind number reads = absurd (none_numbered laws.frame group nodes m comes.server.sessions (frame_at w.frames comes.k)
        (max comes.server.now comes.ms) (plain_comes m comes.k comes.ms comes.comes) d comes.gives kind number)

    -- where the group has no device, no request comes
    none_asks : AreMembersOnly group → (m : ℕ) → IsNotAsked m w timed.row
    none_asks only m message asked = by (plain_comes m asked.comes.k asked.comes.ms asked.comes.comes)
      where
        by : IsPlain group (frame_at w.frames asked.comes.k) → ⊥
        by (inl is) = not_asked laws.frame m w asked.comes.k asked.comes.ms (has_source laws.frame is.n (frame_at w.frames asked.comes.k) (nodes is.n is.member) is.is)
            message (subst (IsAsked m message w) asked.comes.comes asked)
        by (inr (a, i, anonymous)) = only a i

    -- no Discovery comes to a server in this row
    pub none_comes : (p : ℕ) (t : AllocatorState) (q : IsQuiet p t w) (k ms : ℕ) → timed.row ≡ Rx p k ms
        → NoneComes (w.rows + 1) t q.complete q.discovery (receipt_of w k ms)
    none_comes p t q k ms is arrival same d gives kind other message reads =
        none_delivered laws.frame group nodes t.me t.sessions (frame_at w.frames k) (max t.now ms) (plain_comes p k ms is) d
        (comes_with t w k ms arrival same d gives) kind (eq_false d.ident.number 341 other)

    quiet_then : (p : ℕ) → In (OfMember p) group → (t : AllocatorState) × IsQuiet p t (after_row w timed.row)
    quiet_then p i = by (does group clocks pace traffic w timed.at p timed.row calm)
      where
        t : AllocatorState
        t = (s.quiet p i).0

        q : IsQuiet p (s.quiet p i).0 w
        q = (s.quiet p i).1

        by : Does p (timed.at + clocks (OfMember p)) w timed.row → (u : AllocatorState) × IsQuiet p u (after_row w timed.row)
        by (Stays same) = (t, quiet_same p t w (after_row w timed.row) same q)
        by (Sends same) = (after_pop t, quiet_sent laws p (nodes p i) t w q (after_row w timed.row) same)
        by (Ticks ms word reads same) = (
          (step t (w.rows + 1) (tick_of ms word)).step_state.allocator,
          quiet_stepped laws p (nodes p i) t w q (w.rows + 1) (after_row w timed.row) (tick_of ms word) tt same (λ arrival is. absurd (cc (is))),
        )
        by (Hears k ms is reads same) = (
          (step t (w.rows + 1) (receipt_of w k ms)).step_state.allocator,
          quiet_stepped laws p (nodes p i) t w q (w.rows + 1) (after_row w timed.row) (receipt_of w k ms) (narrow_on_bus w.frames s.well.narrow k) same
              (none_comes p t q k ms is),
        )

    -- so it is behind the row
    pub steady_after : IsSteady (traffic_after traffic w timed) (after_row w timed.row)
    steady_after = record {
      well = well_after laws group nodes w s.well clocks pace traffic timed.at timed.row calm;
      flies = fly_after (IsPlain group) group clocks pace traffic w s.flies timed.at timed.row calm
          (λ n g i is next. sends_plain laws n (nodes n i) group i (s.quiet n i).0 w (s.quiet n i).1 g next)
          (λ a g i is next. inr (a, i, sent_anonymous laws group nodes w s.well a g i next));
      quiet = quiet_then;
    }

  -- in each row of the calm nobody is missed
  pub nobody_missed : (m : ℕ) (front rest : List Timed) (traffic : Traffic) (w : Cluster) → AreCalm group clocks pace traffic w (front ++ rest) → IsSteady traffic w
      → NobodyIsMissed m w front
  nobody_missed m [] rest traffic w calm s = tt
  nobody_missed m (timed ∷ front) rest traffic w calm s = (
    misses_nobody traffic w timed calm.1 s m,
    nobody_missed m front rest (traffic_after traffic w timed) (after_row w timed.row) calm.2 (steady_after traffic w timed calm.1 s),
  )

  -- in none of them a request comes, where the group has no device
  pub nobody_asks : AreMembersOnly group → (m : ℕ) (front rest : List Timed) (traffic : Traffic) (w : Cluster)
      → AreCalm group clocks pace traffic w (front ++ rest) → IsSteady traffic w → NobodyAsks m w front
  nobody_asks only m [] rest traffic w calm s = tt
  nobody_asks only m (timed ∷ front) rest traffic w calm s = (
    none_asks traffic w timed calm.1 s only m,
    nobody_asks only m front rest (traffic_after traffic w timed) (after_row w timed.row) calm.2 (steady_after traffic w timed calm.1 s),
  )
