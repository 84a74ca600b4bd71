-- What a calm row leaves of a member in office.
use Rattle.std.proofs.Common.{◌≡◌, ◌≢◌, ℕ, ◌+◌, ◌≤◌, Bool, true, List, [], ◌∷◌, refl, sym, ◌∙◌, ap, subst, arith, inl, inr, Some}
use Rattle.std.specs.Prelude.{◌⊎◌, max}
use Rattle.std.proofs.lemmas.Bool.Decides.{eqb_tells}
use Rattle.alloc_exchange.specs.Exchange.{Accepted, after, answer}
use Rattle.can_frame.specs.declared.entry.Entry.{Entry}
use Rattle.can_frame.specs.declared.identifier.Ident.{Ident}
use Rattle.can_frame.specs.declared.identifier.Kind.{Kind}
use Rattle.can_frame.specs.declared.identifier.Kind.TheVariants.{Anonymous, Message}
use Rattle.can_frame.specs.Identifier.{identifier_of}
use Rattle.cluster_discovery.specs.Members.{is_on_list}
use Rattle.dsdl_codec.specs.declared.allocation.Allocation.{Allocation}
use Rattle.dsdl_codec.specs.Allocation.{allocation_of}
use Rattle.raft_model.specs.Lists.{In, at_here, at_other}
use Rattle.bus_rows.specs.declared.row.Row.{Row}
use Rattle.bus_rows.specs.declared.row.Row.TheVariants.{AEnd, AOpen, ARx, ASend, ATick, Crash, Ext, Fault, Open, Rx, Send, Tick}
use Rattle.transfer_rx.specs.Acceptance.{first_signature}
use Rattle.transfer_rx.specs.Reassembly.{Arrival, Delivery, Gives, answer as received}
use Rattle.alloc_spec.specs.Accepted.{rows, setting_for}
use Rattle.alloc_spec.specs.AllocatorState.{AllocatorState, members_of}
use Rattle.alloc_spec.specs.Exchange.{may_follow, with_request}
use Rattle.raft_core.specs.Handled.{moves_of_expire}
use Rattle.raft_core.specs.Times.{HandedIn, Times, end_call, given_at, overdue, times_after_all}
use Rattle.raft_model.specs.Handlers.{server_after}
use Rattle.raft_model.specs.Moves.Move.{GiveUp}
use Rattle.alloc_spec.specs.Step.{after_pop, all_nodes, at_moment, at_step, step}
use Rattle.alloc_spec.specs.Step as server
use Rattle.alloc_spec.specs.Transfers.{ident_of}
use Rattle.bus_agreement.specs.LawsBelow.{FrameLaws}
use Rattle.bus_agreement.proofs.Idents.{IsWanted, ident_ok}
use Rattle.service_steps.specs.Requests.{IsRequest}
use Rattle.service_steps.proofs.FollowUps.{when_come}
use Rattle.service_alone.specs.Calm.{Pace}
use Rattle.service_alone.proofs.Members.{IsUp, steps_up}
use Rattle.service_calm.specs.Calm.{IsCalmRow, Member as OfMember, Party, Traffic}
use Rattle.service_calm.specs.Calls.{Lists}
use Rattle.service_device.specs.Settled.{IsAsked, IsDelivered, IsNotAsked, MissesNobody}
use Rattle.service_calm.proofs.Calls.{on_list}
use Rattle.service_leader.proofs.HeardIdents.{is_wanted, not_own}
use Rattle.service_leader.proofs.LeadsOnWays.{AreOfGroup, next_of_group}
use Rattle.service_calm.proofs.Others.{some_ident}
use Rattle.service_calm.proofs.Pair.{same_server}
use Rattle.service_device.proofs.SettledAsked.{a_discovery, asked_leaves, is_request, unasked_leaves}
use Rattle.service_device.proofs.SettledFrames.{Proposes}
use Rattle.service_device.proofs.SettledSteps.{Keeps, begins, rests_at_tick}
use Rattle.service_leader.proofs.TermsHeard.{IsOfGroup}
use Rattle.service_leader.proofs.TermsKept.{TellsWithin}
use Rattle.bus_spec.specs.Cluster.{Cluster, after_row, arrival_at, frame_at, receipt_of, tick_of}
use Rattle.bus_spec.specs.Members.{after_sending, member_after_step}
use Rattle.raft_model.specs.Server.{RaftServer}
use Rattle.alloc_spec.specs.Delivered.{took}
use Rattle.alloc_spec.specs.Step.{with_end_phase}
use Rattle.alloc_spec.specs.Tick.{proposes}
use Rattle.service_device.proofs.SettledAsked.{Grown}
use Rattle.service_device.proofs.SettledRaft.{IsOffice}
use Rattle.service_device.proofs.SettledServers.{Settles, after_ends, later_on, rested}

-- whoever waits with its blank goes on to wait as it gives up calls
pub begins_waiting : (members : List ℕ) (me number : ℕ) (given : HandedIn) (nodes : List ℕ) (server : RaftServer) (times : Times)
    → (times_after_all members me number given server (moves_of_expire nodes) times).waits ≡ times.waits
begins_waiting members me number given [] server times = refl
begins_waiting members me number given (node ∷ nodes) server times =
    begins_waiting members me number given nodes (server_after members me number server (GiveUp node)) (end_call node times)

-- ---- a calm row

module _ (frame : FrameLaws) (group : List Party) (clocks : Party → ℕ) (pace : Pace) (n top : ℕ) (log : List Entry) (Holds : RaftServer → Type 0) (Sees : List ℕ → ℕ → Bool → Type 0)
    (office : IsOffice top log Holds Sees) (accepted : List Accepted) (before moment : ℕ)
    (traffic : Traffic) (w : Cluster) (nodes : (p : ℕ) → In (OfMember p) group → (1 ≤ p) × (p ≤ 125)) (member : In (OfMember n) group)
    (flies : (party : Party) → AreOfGroup group w.frames (traffic.to party)) (lists : (p : ℕ) → In (OfMember p) group → p ≢ n → Lists n p w)
    (later : before ≤ moment + clocks (OfMember n)) where
  abbrev now : ℕ
  now = moment + clocks (OfMember n)

  abbrev number : ℕ
  number = w.rows + 1

  -- what a row leaves: the member is in office, with the same log, and has accepted these requests
  abbrev pub Leaves : List Accepted → Row → Type 0
  Leaves then_accepted row = (u : AllocatorState) × Settles Holds log then_accepted now ((after_row w row).member n) u

  -- or the request that came in the row makes the log grow
  pub record Grew (row : Row) (message : Allocation) (is : IsAsked n message w row) : Type 0 where
    pub had : Settles Holds log accepted before (w.member n) is.comes.server
    pub now_is : max is.comes.server.now is.comes.ms ≡ now
    pub request : IsRequest (arrival_at (frame_at w.frames is.comes.k) is.comes.ms) message
    pub come : Keeps number top log now Holds Sees office accepted (when_come is.comes.server number (arrival_at (frame_at w.frames is.comes.k) is.comes.ms))
    pub growth : Proposes (answer accepted message now (may_follow is.comes.server))
        (with_request message (when_come is.comes.server number (arrival_at (frame_at w.frames is.comes.k) is.comes.ms))).allocator
    pub stepped : step is.comes.server number (receipt_of w is.comes.k is.comes.ms)
        ≡ with_end_phase number (took (proposes number 1 growth.uid growth.node
        (with_request message (when_come is.comes.server number (arrival_at (frame_at w.frames is.comes.k) is.comes.ms)))))
    pub up : IsUp (step is.comes.server number (receipt_of w is.comes.k is.comes.ms)).step_state.allocator ((after_row w row).member n)

  module _ (t : AllocatorState) (h : Settles Holds log accepted before (w.member n) t) (me : t.me ≡ n) where
    -- a step at this moment begins so
    begun_at : (ms : ℕ) → ms ≡ now → max t.now ms ≡ now
    begun_at ms reads = omega (arith, reads, h.clock, later)

    -- ---- a tick, and a frame that goes out

    ticks : (p ms word : ℕ) → n ≡ p → ms ≡ now → Leaves accepted (Tick p ms word)
    ticks p ms word own reads = (
      then_,
      rested number top log now Holds Sees office accepted _ then_
          (rests_at_tick number top log now Holds Sees office accepted t ms word (begins number top log now Holds Sees office accepted t ms (begun_at ms reads) h.done
          (omega (arith, h.status, later)) h.accepts h.offline h.discovery))
          (subst (IsUp then_) (sym (at_here w.member p n _ own)) (subst (λ (q : ℕ). IsUp then_ (member_after_step number (tick_of ms word) (w.member q).status (w.member q))) own
          (steps_up number (tick_of ms word) t (w.member n) h.up)))
          (omega (arith, h.requests, later)),
    )
      where
        then_ : AllocatorState
        then_ = (step t number (server.Tick ms word)).step_state.allocator

    sends : (p : ℕ) → n ≡ p → Leaves accepted (Send p)
    sends p own = (
      after_pop t,
      record {
        up = subst (IsUp (after_pop t)) (sym (at_here w.member p n _ own)) (subst (λ (q : ℕ). IsUp (after_pop t) (record (w.member q) { status = after_sending (w.member q).status })) own
            (record { status = ap after_sending h.up.status; quiet = h.up.quiet }));
        done = h.done;
        clock = omega (arith, h.clock, later);
        status = omega (arith, h.status, later);
        accepts = h.accepts;
        requests = omega (arith, h.requests, later);
        offline = h.offline;
        discovery = h.discovery;
      },
    )

    -- where the member is as it was
    still : (row : Row) → (after_row w row).member n ≡ w.member n → Leaves accepted row
    still row same = (t, later_on Holds log accepted before now (w.member n) ((after_row w row).member n) t later same h)

    -- ---- a frame that comes

    module _ (k ms : ℕ) (calm : IsCalmRow group clocks pace traffic w moment (Rx n k ms)) where
      abbrev arrival : Arrival
      arrival = arrival_at (frame_at w.frames k) ms

      abbrev then_row : AllocatorState
      then_row = (step t number (receipt_of w k ms)).step_state.allocator

      reads : max t.now ms ≡ now
      reads = begun_at ms calm.1

      comes : Keeps number top log now Holds Sees office accepted (when_come t number arrival)
      comes = begins number top log now Holds Sees office accepted t ms reads h.done (omega (arith, h.status, later)) h.accepts h.offline h.discovery

      up_then : IsUp then_row ((after_row w (Rx n k ms)).member n)
      up_then = subst (IsUp then_row) (sym (at_here w.member n n _ refl)) (steps_up number (receipt_of w k ms) t (w.member n) h.up)

      -- as the receiver is told of itself
      own_gives : (d : Delivery) → received (setting_for n) t.sessions (arrival_at (frame_at w.frames k) (max t.now ms)) ≡ Gives d
          → received (setting_for t.me) t.sessions (arrival_at (frame_at w.frames k) (max t.now ms)) ≡ Gives d
      own_gives d gives = (λ i. received (setting_for (me i)) t.sessions (arrival_at (frame_at w.frames k) (max t.now ms))) ∙ gives

      module _ (d : Delivery) (gives : received (setting_for t.me) t.sessions (arrival_at (frame_at w.frames k) (max t.now ms)) ≡ Gives d) where
        abbrev delivered : IsDelivered n d w (Rx n k ms)
        delivered = record {
          k = k;
          ms = ms;
          comes = refl;
          server = t;
          runs = h.up.status;
          gives = (λ i. received (setting_for (sym me i)) t.sessions (arrival_at (frame_at w.frames k) (max t.now ms))) ∙ gives;
        }

        wanted_here : IsWanted rows t.me (frame_at w.frames k).id d.ident
        wanted_here = is_wanted frame t.me t.sessions (arrival_at (frame_at w.frames k) (max t.now ms)) d gives

        -- who sends a message is on the list
        listed : d.ident.kind ≡ Message → is_on_list (members_of t) d.ident.source ≡ true
        listed kind = by (next_of_group group w.frames k (traffic.to (OfMember n)) calm.2 (flies (OfMember n)))
          where
            by : IsOfGroup group (frame_at w.frames k) → is_on_list (members_of t) d.ident.source ≡ true
            by (inl (p, i, is)) =
                let node = nodes p i in
                let same : d.ident ≡ ident_of p is.what is.to = some_ident d.ident (ident_of p is.what is.to)
                (sym wanted_here.read ∙ (ap identifier_of is.id ∙ frame.ident_read (ident_of p is.what is.to) (ident_ok p is.what is.to node.0 node.1 is.dest))) in
                let source : d.ident.source ≡ p = ap (λ (ident : Ident). ident.source) same in
                ap (is_on_list (members_of t)) source
                ∙ on_list (members_of t) p (lists p i (λ e. not_own t.me d.ident (subst (λ (q : ℕ). 1 ≤ q) (sym me) (nodes n member).0) wanted_here.for_me
                (source ∙ (e ∙ sym me))) t h.up.status)
            by (inr is) = absurd (cc (sym kind ∙ (ap (λ (ident : Ident). ident.kind)
                (some_ident d.ident is.ident (sym wanted_here.read ∙ is.read)) ∙ is.kind)))

      -- where no request comes
      unasked_row : ((d : Delivery) → received (setting_for t.me) t.sessions (arrival_at (frame_at w.frames k) (max t.now ms)) ≡ Gives d → TellsWithin top d)
          → Sees (members_of t) t.me t.times.waits → MissesNobody n w (Rx n k ms) → IsNotAsked n w (Rx n k ms) → Leaves accepted (Rx n k ms)
      unasked_row within sees missed not_asked = (
        then_row,
        rested number top log now Holds Sees office accepted _ then_row
            (unasked_leaves number top log now Holds Sees office accepted t arrival comes
            (λ d message gives kind says. not_asked message (record { request = d; comes = delivered d gives; anonymous = kind; says = says }))
            within listed
            (λ d message gives kind other says. missed d message (delivered d gives) kind (a_discovery d.ident.number (wanted_here d gives).signature.0
            (ap (λ (kd : Kind). first_signature rows kd d.ident.number) (sym kind) ∙ (wanted_here d gives).signature.1) other) says)
            (subst (Sees (members_of t) t.me) (sym (begins_waiting (members_of t) t.me number (given_at (max t.now ms))
            (overdue t.times (max t.now ms) all_nodes) t.raft_server t.times)) sees))
            up_then (omega (arith, h.requests, later)),
      )

      -- where one comes
      module _ (d : Delivery) (message : Allocation) (gives : received (setting_for n) t.sessions (arrival_at (frame_at w.frames k) (max t.now ms)) ≡ Gives d)
          (kind : d.ident.kind ≡ Anonymous) (says : allocation_of d.payload ≡ Some message) where
        requests : IsRequest arrival message
        requests =
            let r = is_request frame t.me t.sessions (arrival_at (frame_at w.frames k) (max t.now ms)) d (own_gives d gives) kind message says in record {
              ident = r.ident;
              read = r.read;
              kind = r.kind;
              number = r.number;
              source = r.source;
              first = r.first;
              last = r.last;
              toggle = r.toggle;
              says = r.says;
            }

        left : Keeps number top log now Holds Sees office (after accepted message now (may_follow t)) (step t number (receipt_of w k ms)).step_state
            ⊎ Grown number top log now Holds Sees office accepted t arrival comes d message (own_gives d gives) kind says (may_follow t)
        left = asked_leaves number top log now Holds Sees office accepted t arrival comes d message (own_gives d gives) kind says

  -- ---- each row

  module _ (t0 : AllocatorState) (h0 : Settles Holds log accepted before (w.member n) t0) (me0 : t0.me ≡ n) (row : Row)
      (calm0 : IsCalmRow group clocks pace traffic w moment row) where
    pub asked_row : (message : Allocation) (is : IsAsked n message w row) → Grew row message is
        ⊎ Leaves (after accepted message (max is.comes.server.now is.comes.ms) (may_follow is.comes.server)) row
    asked_row message is = elim (left t h me k ms calm is.request message is.comes.gives is.anonymous is.says) [
      | inl z ↦ inr (subst (Leaves then_accepted) (sym is.comes.comes) (
        then_row t h me k ms calm,
        rested number top log now Holds Sees office then_accepted _ (then_row t h me k ms calm)
            (subst (λ (m : ℕ). Keeps number top log now Holds Sees office (after accepted message m (may_follow t)) (step t number (receipt_of w k ms)).step_state)
            (sym now_is) z)
            (up_then t h me k ms calm)
            (after_ends accepted message (max t.now ms) now (may_follow t) (omega (arith, h.requests, later)) (omega (arith, now_is))),
      ))
      | inr p ↦ inl (record {
        had = h;
        now_is = now_is;
        request = requests t h me k ms calm is.request message is.comes.gives is.anonymous is.says;
        come = comes t h me k ms calm;
        growth = p.0;
        stepped = p.1;
        up = subst (λ (r : Row). IsUp (then_row t h me k ms calm) ((after_row w r).member n)) (sym is.comes.comes) (up_then t h me k ms calm);
      })
    ]
      where
        t : AllocatorState
        t = is.comes.server

        k : ℕ
        k = is.comes.k

        ms : ℕ
        ms = is.comes.ms

        same : t0 ≡ is.comes.server
        same = same_server t0 is.comes.server (sym h0.up.status ∙ is.comes.runs)

        h : Settles Holds log accepted before (w.member n) is.comes.server
        h = subst (Settles Holds log accepted before (w.member n)) same h0

        me : is.comes.server.me ≡ n
        me = subst (λ (u : AllocatorState). u.me ≡ n) same me0

        calm : IsCalmRow group clocks pace traffic w moment (Rx n is.comes.k is.comes.ms)
        calm = subst (IsCalmRow group clocks pace traffic w moment) is.comes.comes calm0

        now_is : max is.comes.server.now is.comes.ms ≡ now
        now_is = begun_at is.comes.server h me is.comes.ms calm.1

        then_accepted : List Accepted
        then_accepted = after accepted message (max is.comes.server.now is.comes.ms) (may_follow is.comes.server)

  module _ (t : AllocatorState) (h : Settles Holds log accepted before (w.member n) t) (me : t.me ≡ n) where
    -- the member's own clock
    its_clock : (p ms : ℕ) → n ≡ p → ms ≡ moment + clocks (OfMember p) → ms ≡ now
    its_clock p ms own reads = reads ∙ ap (λ (q : ℕ). moment + clocks (OfMember q)) (sym own)

    -- where no request comes in a row
    pub unasked_in : (row : Row) → Sees (members_of t) t.me t.times.waits → IsCalmRow group clocks pace traffic w moment row
        → ((k ms : ℕ) → row ≡ Rx n k ms → (d : Delivery) → received (setting_for t.me) t.sessions (arrival_at (frame_at w.frames k) (max t.now ms)) ≡ Gives d
        → TellsWithin top d)
        → MissesNobody n w row → IsNotAsked n w row → Leaves accepted row
    unasked_in (Tick p ms word) sees calm within missed no_request = elim (eqb_tells n p) [
      | inl z ↦ ticks t h me p ms word z.1 (its_clock p ms z.1 calm.1)
      | inr z ↦ still t h me (Tick p ms word) (at_other w.member p n _ z.1)
    ]
    unasked_in (Rx p k ms) sees calm within missed no_request = elim (eqb_tells n p) [
      | inl z ↦ subst (λ (q : ℕ). IsCalmRow group clocks pace traffic w moment (Rx q k ms) → MissesNobody n w (Rx q k ms) → IsNotAsked n w (Rx q k ms)
          → Leaves accepted (Rx q k ms)) z.1
          (λ own_calm own_missed own_no. unasked_row t h me k ms own_calm (within k ms (ap (λ (q : ℕ). Rx q k ms) (sym z.1))) sees own_missed own_no)
          calm missed no_request
      | inr z ↦ still t h me (Rx p k ms) (at_other w.member p n _ z.1)
    ]
    unasked_in (Send p) sees calm within missed no_request = elim (eqb_tells n p) [
      | inl z ↦ sends t h me p z.1
      | inr z ↦ still t h me (Send p) (at_other w.member p n _ z.1)
    ]
    unasked_in (ATick a ms word) sees calm within missed no_request = still t h me (ATick a ms word) refl
    unasked_in (ARx a k ms word) sees calm within missed no_request = still t h me (ARx a k ms word) refl
    unasked_in (ASend a) sees calm within missed no_request = still t h me (ASend a) refl
    unasked_in (Open p told ms word) sees calm within missed no_request = absurd calm
    unasked_in (Ext f) sees calm within missed no_request = absurd calm
    unasked_in (Crash p calls pattern) sees calm within missed no_request = absurd calm
    unasked_in (Fault p call) sees calm within missed no_request = absurd calm
    unasked_in (AOpen a uid pref ms word) sees calm within missed no_request = absurd calm
    unasked_in (AEnd a) sees calm within missed no_request = absurd calm
