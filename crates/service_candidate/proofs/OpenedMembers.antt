-- Members that were just opened, in a calm: they follow, and ask nothing, until one of them stands for election.
use Rattle.std.proofs.Common.{◌≡◌, ℕ, ◌+◌, ◌-◌, ◌≤◌, arith, Bool, true, false, List, length, max, refl, sym, ◌∙◌, ap, subst, inl, inr, Some}
use Rattle.std.specs.Prelude.{◌⊎◌, nat_eq, if◌then◌else◌}
use Rattle.std.proofs.lemmas.Bool.Decides.{eqb_tells, leb_tells}
use Rattle.can_frame.specs.Identifier.{identifier_number}
use Rattle.raft_core.specs.Times.{has_waited, wait}
use Rattle.raft_model.specs.Lists.{In, at, at_here, at_other}
use Rattle.raft_model.specs.Server.{Role}
use Rattle.raft_model.specs.Server.Role.{Follower}
use Rattle.bus_rows.specs.declared.row.Row.{Row}
use Rattle.bus_rows.specs.declared.row.Row.TheVariants.{AEnd, AOpen, ARx, ASend, ATick, Crash, Ext, Fault, Open, Rx, Send, Tick}
use Rattle.transfer_tx.specs.Queue.{Queued}
use Rattle.alloc_spec.specs.AllocatorState.{AllocatorState, knows_all, members_of}
use Rattle.alloc_spec.specs.Step.{Event, after_pop, moment_of, step}
use Rattle.alloc_spec.specs.Transfers.{ident_of}
use Rattle.alloc_spec_laws.specs.Sound.{IsOnTheBus}
use Rattle.alloc_spec_laws.specs.Waiting.{all_frames_put}
use Rattle.alloc_spec_laws.proofs.Choices.{and_left, and_right}
use Rattle.bus_agreement.proofs.Lists.{in_append}
use Rattle.bus_agreement.proofs.MadeTransfers.{frame_put}
use Rattle.bus_agreement.proofs.RowsWithoutEvents.{left_in_queue, out_of_queue}
use Rattle.service_steps.specs.InTime.{FramesLeaveFollowers}
use Rattle.service_alone.specs.Calm.{Pace}
use Rattle.service_alone.proofs.Members.{IsUp, steps_up}
use Rattle.service_calm.specs.Calm.{Device as OfDevice, IsCalmRow, Member as OfMember, Party, Traffic, on_way_after, reads}
use Rattle.service_calm.proofs.Counting.{now_after}
use Rattle.service_calm.proofs.Frames.{has_its_id}
use Rattle.service_calm.proofs.Group.{AreWell, CalmLaws, IsServer, narrow_on_bus, sent_anonymous}
use Rattle.service_calm.proofs.Pair.{same_server}
use Rattle.service_candidate.specs.Elections.{WaitIsOver}
use Rattle.service_candidate.specs.Votes.{Stands}
use Rattle.service_candidate.specs.Waits.{HasTermLeft}
use Rattle.service_leader.proofs.FramesFly.{Fly, fly_after, next_is}
use Rattle.service_candidate.proofs.PlainFrames.{IsPlain, IsPlainOfGroup, follower_asks_none, plain_delivery}
use Rattle.service_candidate.proofs.WaitsFrames.{Left, Why, frame_leaves}
use Rattle.service_candidate.proofs.WaitsRows.{is_candidate_then, knows_then}
use Rattle.service_candidate.proofs.WaitsStand.{stands_now}
use Rattle.service_candidate.proofs.WaitsTicks.{stands_at, tick_leaves}
use Rattle.bus_spec.specs.Allocatees.{next_from}
use Rattle.bus_spec.specs.Cluster.{Cluster, after_row, arrival_at, frame_at, receipt_of, tick_of}
use Rattle.bus_spec.specs.Members.{Member, after_sending, member_after_step, next_frame}
use Rattle.bus_spec.specs.Members.MemberStatus.{Up}

-- who stands has waited as long as its word says
waited_long : (t : AllocatorState) (moment : ℕ) → stands_at t moment ≡ true → t.times.since + wait t.times.word ≤ moment
waited_long t moment e = by (and_right (knows_all t) (has_waited t.times moment) (and_left _ _ e))
  where
    by : has_waited t.times moment ≡ true → t.times.since + wait t.times.word ≤ moment
    by waited = elim (leb_tells (wait t.times.word) (moment - t.times.since)) [
      | inl z ↦ omega (arith, z.1)
      | inr z ↦ absurd (cc (waited, z.0))
    ]

-- The server of member p follows, and waits as the one did that it had in this world. It knows all members, which are
-- so many; what waits in its queue is plain; and its clock read no more than this.
pub record IsFresh (began : Cluster) (size p reading : ℕ) (t : AllocatorState) : Type 0 where
  pub role : t.raft_server.memory.role ≡ Follower
  pub since_is : (s : AllocatorState) → (began.member p).status ≡ Up s → t.times.since ≡ s.times.since
  pub word_is : (s : AllocatorState) → (began.member p).status ≡ Up s → t.times.word ≡ s.times.word
  pub size_is : t.size ≡ size
  pub knows : knows_all t ≡ true
  pub queue : (frame : Queued) → In frame t.queue → IsPlain p frame
  pub clock : t.now ≤ reading

module _ (laws : CalmLaws) (frames_leave : FramesLeaveFollowers)
    (complete : (t : AllocatorState) (number : ℕ) (event : Event) → knows_all t ≡ true → members_of (step t number event).step_state.allocator ≡ members_of t)
    (began : Cluster) (size : ℕ) (many : 2 ≤ size) (group : List Party) (nodes : (p : ℕ) → In (OfMember p) group → (1 ≤ p) × (p ≤ 125))
    (clocks : Party → ℕ) (pace : Pace) where
  -- member p runs so at this moment
  pub record IsAsOpened (moment p : ℕ) (x : Member) : Type 0 where
    pub server : AllocatorState
    pub up : IsUp server x
    pub fresh : IsFresh began size p (moment + clocks (OfMember p)) server

  -- each member of the group does
  abbrev pub AllAsOpened : ℕ → Cluster → Type 0
  AllAsOpened moment w = (p : ℕ) → In (OfMember p) group → IsAsOpened moment p (w.member p)

  -- so it does at a later moment
  pub later : (moment moved p : ℕ) (x : Member) → moment ≤ moved → IsAsOpened moment p x → IsAsOpened moved p x
  later moment moved p x on is = record {
    server = is.server;
    up = is.up;
    fresh = record {
      role = is.fresh.role;
      since_is = is.fresh.since_is;
      word_is = is.fresh.word_is;
      size_is = is.fresh.size_is;
      knows = is.fresh.knows;
      queue = is.fresh.queue;
      clock = let c = is.fresh.clock in omega (arith, c, on);
    };
  }

  -- a step that leaves a follower, and its wait, leaves the server fresh
  stays_fresh : (p reading : ℕ) (t : AllocatorState) (number : ℕ) (event : Event) → IsFresh began size p reading t → IsServer p t → IsOnTheBus event
      → moment_of event ≤ reading → let after = (step t number event).step_state.allocator in
      after.raft_server.memory.role ≡ Follower → after.times.since ≡ t.times.since → after.times.word ≡ t.times.word → IsFresh began size p reading after
  stays_fresh p reading t number event is its bus at_last role since word = record {
    role = role;
    since_is = λ s e. since ∙ is.since_is s e;
    word_is = λ s e. word ∙ is.word_is s e;
    size_is = laws.more.size t number event ∙ is.size_is;
    knows = (λ i. nat_eq (length (complete t number event is.knows i)) (laws.more.size t number event i)) ∙ is.knows;
    queue = λ frame i. elim (in_append frame t.queue (all_frames_put number t.me (step t number event).step_state.offers)
        (subst (λ (l : List Queued). In frame l) (laws.in_step.queue t number event) i)) [
          | inl before ↦ is.queue frame before
          | inr new ↦
              let put = frame_put number t.me (step t number event).step_state.offers frame new in
              record {
                own = record {
                  what = put.0.what;
                  to = put.0.to;
                  id = has_its_id (record { step = number; by = t.me; offer = put.0 }) frame put.3
                      ∙ ap (λ (n : ℕ). identifier_number (ident_of n put.0.what put.0.to)) its.me;
                  dest = (laws.more.ranges t number event its.sound bus put.0 put.1).to;
                };
                low = follower_asks_none t number event role put.0 put.1;
              }
        ];
    clock = let after = now_after t number event in let c = is.clock in omega (arith, after, c, at_last);
  }

  module _ (traffic : Traffic) (w : Cluster) (moved : ℕ) (are : AreWell group w) (all : AllAsOpened moved w)
      (flies : (party : Party) → Fly (IsPlainOfGroup group) w.frames (traffic.to party)) where
    -- the server of a member is its own
    its_server : (p : ℕ) → (i : In (OfMember p) group) → IsServer p (all p i).server
    its_server p i = let well = are.members p i in
        subst (IsServer p) (same_server well.server (all p i).server (sym well.up.status ∙ (all p i).up.status)) well.its

    -- it stands at a tick, when its wait is over, or stays as it is
    at_tick : (p : ℕ) → (i : In (OfMember p) group) → (ms random : ℕ) → ms ≡ moved + clocks (OfMember p)
        → IsUp (step (all p i).server (w.rows + 1) (tick_of ms random)).step_state.allocator ((after_row w (Tick p ms random)).member p)
        → (((term : ℕ) × Stands p term w (Tick p ms random)) × WaitIsOver clocks p moved began)
        ⊎ (IsAsOpened moved p ((after_row w (Tick p ms random)).member p) × (stands_at (all p i).server (max (all p i).server.now ms) ≡ false))
    at_tick p i ms random reading up = elim (tick_leaves t (w.rows + 1) ms random) [
      | inl same ↦ inr (
        record {
          server = (step (all p i).server (w.rows + 1) (tick_of ms random)).step_state.allocator;
          up = up;
          fresh = stays_fresh p (moved + clocks (OfMember p)) t (w.rows + 1) (tick_of ms random) fresh (its_server p i) tt (omega (arith, reading))
              (same.4 ∙ fresh.role) same.1 same.2;
        },
        same.0,
      )
      | inr stood ↦ inl (
        (
          t.raft_server.store.term + 1,
          record {
            ms = ms;
            word = random;
            reads = refl;
            before = t;
            runs = (all p i).up.status;
            next = refl;
            after = (step (all p i).server (w.rows + 1) (tick_of ms random)).step_state.allocator;
            runs_then = up.status;
            stands = stood.3 ∙ is_candidate_then t (knows_then t (max t.now ms) stood.0) (let its_size = fresh.size_is in omega (arith, its_size, many));
            its_term = stood.2;
          },
        ),
        λ s e. let waited = waited_long t (max t.now ms) stood.0 in
            let a = fresh.since_is s e in
            let b : wait t.times.word ≡ wait s.times.word = ap wait (fresh.word_is s e) in
            let c = fresh.clock in
            omega (arith, waited, a, b, c, reading),
      )
    ]
      where
        t : AllocatorState
        t = (all p i).server

        fresh : IsFresh began size p (moved + clocks (OfMember p)) (all p i).server
        fresh = (all p i).fresh

    -- no frame that comes makes its wait begin anew
    at_frame : (p : ℕ) → (i : In (OfMember p) group) → (k ms : ℕ) → ms ≡ moved + clocks (OfMember p) → IsPlainOfGroup group (frame_at w.frames k)
        → IsUp (step (all p i).server (w.rows + 1) (receipt_of w k ms)).step_state.allocator ((after_row w (Rx p k ms)).member p)
        → IsAsOpened moved p ((after_row w (Rx p k ms)).member p)
    at_frame p i k ms reading plain up = record {
      server = (step (all p i).server (w.rows + 1) (receipt_of w k ms)).step_state.allocator;
      up = up;
      fresh = stays_fresh p (moved + clocks (OfMember p)) t (w.rows + 1) (receipt_of w k ms) (all p i).fresh (its_server p i)
          (narrow_on_bus w.frames are.narrow k) (omega (arith, reading)) (frames_leave t (w.rows + 1) (arrival_at (frame_at w.frames k) ms) (all p i).fresh.role).0
          (same_wait _ _ (frame_leaves t (w.rows + 1) (arrival_at (frame_at w.frames k) ms)).0)
          (frame_leaves t (w.rows + 1) (arrival_at (frame_at w.frames k) ms)).1;
    }
      where
        t : AllocatorState
        t = (all p i).server

        no_reason : Why (all p i).server (arrival_at (frame_at w.frames k) ms) → ⊥
        no_reason (inl one) = let n = plain_delivery laws.frame group nodes t.me t (frame_at w.frames k) (max t.now ms) one.delivery plain one.hears.gives one.hears.kind in
            let thirty = one.hears.number in omega (arith, n, thirty)
        no_reason (inr one) = one.no_info (plain_delivery laws.frame group nodes t.me t (frame_at w.frames k) (max t.now ms) one.delivery plain one.gives one.kind)

        same_wait : (since_then : ℕ) (role_then : Role)
            → Left t.times.since (max t.now ms) t.raft_server.memory.role (Why (all p i).server (arrival_at (frame_at w.frames k) ms)) since_then role_then
            → since_then ≡ t.times.since
        same_wait since_then role_then (inl same) = same
        same_wait since_then role_then (inr (since, inl why)) = absurd (no_reason why)
        same_wait since_then role_then (inr (since, inr roles)) = absurd (roles.0 (all p i).fresh.role)

    -- a frame that goes out leaves it so
    at_send : (p : ℕ) → (i : In (OfMember p) group) → IsAsOpened moved p (record (w.member p) { status = after_sending (w.member p).status })
    at_send p i = let is : IsAsOpened moved p (w.member p) = all p i in record {
      server = after_pop is.server;
      up = record { status = ap after_sending is.up.status; quiet = is.up.quiet };
      fresh = record {
        role = is.fresh.role;
        since_is = is.fresh.since_is;
        word_is = is.fresh.word_is;
        size_is = is.fresh.size_is;
        knows = is.fresh.knows;
        queue = λ frame j. is.fresh.queue frame (left_in_queue is.server.queue frame j);
        clock = is.fresh.clock;
      };
    }

    -- where one member's place is taken by one that is as it was opened, all are
    all_with : (p : ℕ) (x : Member) → IsAsOpened moved p x → (q : ℕ) → In (OfMember q) group → IsAsOpened moved q (at w.member p x q)
    all_with p x is q i = elim (eqb_tells q p) [
      | inl z ↦ subst (IsAsOpened moved q) (sym (at_here w.member p q x z.1)) (subst (λ (k : ℕ). IsAsOpened moved k x) (sym z.1) is)
      | inr z ↦ subst (IsAsOpened moved q) (sym (at_other w.member p q x z.1)) (all q i)
    ]

    -- the frame that a member sends is plain
    sent_plain : (n : ℕ) (g : Queued) → In (OfMember n) group → next_frame (w.member n).status ≡ Some g → IsPlainOfGroup group g
    sent_plain n g i e = inl (n, i, (all n i).fresh.queue g (out_of_queue (all n i).server.queue g (sym (ap next_frame (all n i).up.status) ∙ e)))

    sent_device : (a : ℕ) (g : Queued) → In (OfDevice a) group → next_from (w.allocatee a) ≡ Some g → IsPlainOfGroup group g
    sent_device a g i e = inr (sent_anonymous laws group nodes w are a g i e)

    -- so what is on its way is plain
    pub plain_after : (row : Row) → IsCalmRow group clocks pace traffic w moved row → (party : Party)
        → Fly (IsPlainOfGroup group) (after_row w row).frames (on_way_after moved w row party (traffic.to party))
    plain_after row calm = fly_after (IsPlainOfGroup group) group clocks pace traffic w flies moved row calm (λ n g i is e. sent_plain n g i e) (λ a g i is e. sent_device a g i e)

    module _ (m due : ℕ) (over : WaitIsOver clocks m due began) where
      -- A member of the group stood in the row, when its wait was over; or all are as they were, and this member has not
      -- read its clock since its wait is over.
      abbrev pub Comes : (ticked : ℕ) → Row → Type 0
      Comes ticked row = ((c : ℕ) × In (OfMember c) group × ((term : ℕ) × Stands c term w row) × WaitIsOver clocks c moved began)
          ⊎ (AllAsOpened moved (after_row w row) × ((if reads row (OfMember m) then moved else ticked) ≤ due))

      -- the member itself does not read its clock at the end of its wait without standing
      not_late : (i : In (OfMember m) group) → (ms : ℕ) → ms ≡ moved + clocks (OfMember m) → HasTermLeft m w
          → (began_so : (s : AllocatorState) × ((began.member m).status ≡ Up s)) → stands_at (all m i).server (max (all m i).server.now ms) ≡ false → moved ≤ due
      not_late i ms reading low s stands_not = elim (leb_tells due moved) [
        | inl z ↦ absurd (cc (
          stands_not,
          stands_now (all m i).server size s.0.times.since s.0.times.word (max (all m i).server.now ms)
              (record {
                size_is = (all m i).fresh.size_is;
                knows = (all m i).fresh.knows;
                since_is = (all m i).fresh.since_is s.0 s.1;
                word_is = (all m i).fresh.word_is s.0 s.1;
                role = λ leads. absurd (cc (sym (all m i).fresh.role ∙ leads));
              })
              (low (all m i).server (all m i).up.status)
              (let o = over s.0 s.1 in let late = z.1 in omega (arith, o, late, reading)),
        ))
        | inr z ↦ let early = z.1 in omega (arith, early)
      ]

      module _ (in_m : In (OfMember m) group) (began_so : (s : AllocatorState) × ((began.member m).status ≡ Up s)) (low : HasTermLeft m w) where
        ticks : (p : ℕ) → (i : In (OfMember p) group) → (ms random ticked : ℕ) → ms ≡ moved + clocks (OfMember p) → ticked ≤ due → Comes ticked (Tick p ms random)
        ticks p i ms random ticked reading at_last = elim (at_tick p i ms random reading (subst (IsUp (step (all p i).server (w.rows + 1) (tick_of ms random)).step_state.allocator)
            (sym (at_here w.member p p (member_after_step (w.rows + 1) (tick_of ms random) (w.member p).status (w.member p)) refl))
            (steps_up (w.rows + 1) (tick_of ms random) (all p i).server (w.member p) (all p i).up))) [
              | inl stands ↦ inl (p, i, stands.0, stands.1)
              | inr rests ↦ inr (
                all_with p (member_after_step (w.rows + 1) (tick_of ms random) (w.member p).status (w.member p))
                    (subst (IsAsOpened moved p)
                    (at_here w.member p p (member_after_step (w.rows + 1) (tick_of ms random) (w.member p).status (w.member p)) refl) rests.0),
                elim (eqb_tells p m) [
                  | inl z ↦ subst (λ (b : Bool). (if b then moved else ticked) ≤ due) (sym z.0) (own p z.1 i reading rests.1)
                  | inr z ↦ subst (λ (b : Bool). (if b then moved else ticked) ≤ due) (sym z.0) at_last
                ],
              )
            ]
          where
            own : (q : ℕ) → q ≡ m → (j : In (OfMember q) group) → ms ≡ moved + clocks (OfMember q)
                → stands_at (all q j).server (max (all q j).server.now ms) ≡ false → moved ≤ due
            own q same = subst (λ (n : ℕ). (j : In (OfMember n) group) → ms ≡ moved + clocks (OfMember n)
                → stands_at (all n j).server (max (all n j).server.now ms) ≡ false → moved ≤ due) (sym same)
                (λ j clock stands_not. not_late j ms clock low began_so stands_not)

        receives : (p : ℕ) → (i : In (OfMember p) group) → (k ms ticked : ℕ) → ms ≡ moved + clocks (OfMember p) → IsPlainOfGroup group (frame_at w.frames k)
            → ticked ≤ due → Comes ticked (Rx p k ms)
        receives p i k ms ticked reading plain at_last = inr (
          all_with p (member_after_step (w.rows + 1) (receipt_of w k ms) (w.member p).status (w.member p))
              (subst (IsAsOpened moved p)
              (at_here w.member p p (member_after_step (w.rows + 1) (receipt_of w k ms) (w.member p).status (w.member p)) refl)
              (at_frame p i k ms reading plain (subst (IsUp (step (all p i).server (w.rows + 1) (receipt_of w k ms)).step_state.allocator)
              (sym (at_here w.member p p (member_after_step (w.rows + 1) (receipt_of w k ms) (w.member p).status (w.member p)) refl))
              (steps_up (w.rows + 1) (receipt_of w k ms) (all p i).server (w.member p) (all p i).up)))),
          at_last,
        )

        -- what a calm row leaves
        pub row_comes : (ticked : ℕ) (row : Row) → IsCalmRow group clocks pace traffic w moved row → ticked ≤ due → Comes ticked row
        row_comes ticked (Tick p ms random) calm at_last = ticks p calm.0 ms random ticked calm.1 at_last
        row_comes ticked (Rx p k ms) calm at_last = receives p calm.0 k ms ticked calm.1
            (next_is (IsPlainOfGroup group) w.frames k (traffic.to (OfMember p)) calm.2 (flies (OfMember p))) at_last
        row_comes ticked (Send p) calm at_last = inr (all_with p (record (w.member p) { status = after_sending (w.member p).status }) (at_send p calm.0), at_last)
        row_comes ticked (ATick a ms random) calm at_last = inr (all, at_last)
        row_comes ticked (ARx a k ms random) calm at_last = inr (all, at_last)
        row_comes ticked (ASend a) calm at_last = inr (all, at_last)
        row_comes ticked (Open n told ms random) calm at_last = absurd calm
        row_comes ticked (Ext frame) calm at_last = absurd calm
        row_comes ticked (Crash n calls pattern) calm at_last = absurd calm
        row_comes ticked (Fault n call) calm at_last = absurd calm
        row_comes ticked (AOpen a uid pref ms random) calm at_last = absurd calm
        row_comes ticked (AEnd a) calm at_last = absurd calm
