-- In a calm in which no Discovery is due none is sent, and none comes.
use Rattle.std.proofs.Common.{◌≡◌, ◌≢◌, ◌⊎◌, ℕ, ◌+◌, ◌≤◌, true, false, List, refl, sym, ◌∙◌, ap, subst, inl, inr, Some}
use Rattle.std.proofs.lemmas.Bool.Decides.{eqb_tells}
use Rattle.can_frame.specs.declared.identifier.Ident.{Ident}
use Rattle.can_frame.specs.declared.identifier.Kind.{Kind}
use Rattle.can_frame.specs.declared.identifier.Kind.TheVariants.{Message as Broadcast}
use Rattle.can_frame.specs.declared.step.What.{What}
use Rattle.can_frame.specs.declared.step.What.TheVariants.{Disc}
use Rattle.can_frame.specs.Identifier.{identifier_number, identifier_of}
use Rattle.cluster_discovery.specs.Members.{owes}
use Rattle.raft_model.specs.Lists.{In, at_here, at_other}
use Rattle.bus_rows.specs.declared.row.Row.{Row}
use Rattle.bus_rows.specs.declared.row.Row.TheVariants.{AEnd, AOpen, ARx, ASend, ATick, Crash, Ext, Fault, Open, Rx, Send, Tick}
use Rattle.transfer_rx.specs.Acceptance.{first_signature}
use Rattle.transfer_rx.specs.Reassembly.{Delivery, Gives, answer as received}
use Rattle.transfer_rx.specs.Sessions.{Session}
use Rattle.transfer_tx.specs.Queue.{Queued}
use Rattle.allocatee.specs.Given.{IsAnonymous}
use Rattle.alloc_spec.specs.Accepted.{rows, setting_for}
use Rattle.alloc_spec.specs.AllocatorState.{AllocatorState, knows_all, start_of}
use Rattle.alloc_spec.specs.Step.{Event, after_pop, step}
use Rattle.alloc_spec.specs.Transfers.{ident_of, kind_of}
use Rattle.alloc_spec_laws.specs.Sound.{IsDestination, IsOnTheBus}
use Rattle.bus_agreement.specs.LawsBelow.{FrameLaws}
use Rattle.bus_agreement.proofs.Idents.{IsWanted, ident_ok, one_what}
use Rattle.bus_agreement.proofs.RowsWithoutEvents.{left_in_queue, out_of_queue}
use Rattle.service_alone.specs.Calm.{Pace}
use Rattle.service_alone.proofs.Members.{IsUp, steps_up}
use Rattle.service_calm.specs.Calm.{Device as OfDevice, IsCalmRow, Member as OfMember, Party, Traffic}
use Rattle.service_calm.proofs.Group.{CalmLaws, IsOf, IsServer, server_sent, server_stepped, up_sent}
use Rattle.service_calm.proofs.Others.{some_ident}
use Rattle.service_device.proofs.FramesPut.{waited_or_offered}
use Rattle.service_leader.proofs.HeardIdents.{is_wanted}
use Rattle.service_device.proofs.SettledAsked.{a_discovery}
use Rattle.service_device.proofs.TidyServers.{IsSilent, NoneComes, stays_silent, still_complete, still_owing}
use Rattle.bus_spec.specs.Cluster.{Cluster, after_row, arrival_at, receipt_of, tick_of}
use Rattle.bus_spec.specs.Members.{after_sending, member_after_step, next_frame}

-- ---- frames

-- a frame of a member of the group, but of no Discovery
pub record IsOfMember (group : List Party) (frame : Queued) : Type 0 where
  pub n : ℕ
  pub member : In (OfMember n) group
  pub is : IsOf n frame
  pub other : is.what ≢ Disc

-- or one of a device of the group
abbrev pub IsPlain : List Party → Queued → Type 0
IsPlain group frame = IsOfMember group frame ⊎ ((a : ℕ) × In (OfDevice a) group × IsAnonymous frame)

-- the number of the frames of a member's Discoveries
abbrev pub number_from : ℕ → ℕ
number_from n = identifier_number (ident_of n Disc 0)

-- a frame of another number is of no Discovery
pub no_discovery : (n : ℕ) (frame : Queued) (is : IsOf n frame) → frame.id ≢ number_from n → is.what ≢ Disc
no_discovery n frame is apart e = apart (is.id ∙ (λ i. identifier_number (ident_of n (e i) (to_all i))))
  where
    to_all : is.to ≡ 0
    to_all = subst (λ (what : What). IsDestination (kind_of what) is.to) e is.dest

-- what is delivered with such a frame is no Discovery
module _ (laws : FrameLaws) (group : List Party) (nodes : (p : ℕ) → In (OfMember p) group → (1 ≤ p) × (p ≤ 125)) (me : ℕ) (sessions : List Session)
    (frame : Queued) (moment : ℕ) (plain : IsPlain group frame) (d : Delivery) (gives : received (setting_for me) sessions (arrival_at frame moment) ≡ Gives d) where
  pub wanted_here : IsWanted rows me frame.id d.ident
  wanted_here = is_wanted laws me sessions (arrival_at frame moment) d gives

  -- a message is a member's
  pub of_member : d.ident.kind ≡ Broadcast → (is : IsOfMember group frame) × (d.ident ≡ ident_of is.n is.is.what is.is.to)
  of_member kind = by plain
    where
      by : IsPlain group frame → (is : IsOfMember group frame) × (d.ident ≡ ident_of is.n is.is.what is.is.to)
      by (inl is) =
          let node = nodes is.n is.member in (
            is,
            some_ident d.ident (ident_of is.n is.is.what is.is.to) (sym wanted_here.read
                ∙ (ap identifier_of is.is.id ∙ laws.ident_read (ident_of is.n is.is.what is.is.to) (ident_ok is.n is.is.what is.is.to node.0 node.1 is.is.dest))),
          )
      by (inr (a, i, is)) = absurd (cc (sym kind ∙ (ap (λ (ident : Ident). ident.kind) (some_ident d.ident is.ident (sym wanted_here.read ∙ is.read)) ∙ is.kind)))

  pub none_numbered : d.ident.kind ≡ Broadcast → d.ident.number ≡ 390 → ⊥
  none_numbered kind number =
      let its = of_member kind in
      its.0.other (one_what its.0.is.what Disc Broadcast 390 (ap (λ (i : Ident). i.kind) (sym its.1) ∙ kind) refl
      (ap (λ (i : Ident). i.number) (sym its.1) ∙ number) refl)

  pub none_delivered : d.ident.kind ≡ Broadcast → d.ident.number ≢ 341 → ⊥
  none_delivered kind other = none_numbered kind (a_discovery d.ident.number wanted_here.signature.0
      (ap (λ (kd : Kind). first_signature rows kd d.ident.number) (sym kind) ∙ wanted_here.signature.1) other)

-- ---- a member

-- Member p runs with this server. No frame of a Discovery waits in its queue, it knows all, and owes none.
pub record IsQuiet (p : ℕ) (t : AllocatorState) (w : Cluster) : Type 0 where
  pub up : IsUp t (w.member p)
  pub its : IsServer p t
  pub none : (f : Queued) → In f t.queue → f.id ≢ number_from p
  pub complete : knows_all t ≡ true
  pub discovery : owes (start_of t) t.heard ≡ false

-- so it is in a world where the member is the same
pub quiet_same : (p : ℕ) (t : AllocatorState) (w v : Cluster) → v.member p ≡ w.member p → IsQuiet p t w → IsQuiet p t v
quiet_same p t w v same q = record { up = subst (IsUp t) (sym same) q.up; its = q.its; none = q.none; complete = q.complete; discovery = q.discovery }

module _ (laws : CalmLaws) (p : ℕ) (node : (1 ≤ p) × (p ≤ 125)) where
  -- the frame that it sends is of no Discovery
  pub sends_plain : (group : List Party) → In (OfMember p) group → (t : AllocatorState) (w : Cluster) → IsQuiet p t w → (g : Queued) → next_frame (w.member p).status ≡ Some g
      → IsPlain group g
  sends_plain group member t w q g e =
      let waits : In g t.queue = out_of_queue t.queue g (sym (ap next_frame q.up.status) ∙ e) in
      inl (record { n = p; member = member; is = q.its.queue g waits; other = no_discovery p g (q.its.queue g waits) (q.none g waits) })

  module _ (t : AllocatorState) (w : Cluster) (q : IsQuiet p t w) where
    -- a frame of it goes to the bus
    pub quiet_sent : (v : Cluster) → v.member p ≡ record (w.member p) { status = after_sending (w.member p).status } → IsQuiet p (after_pop t) v
    quiet_sent v same = record {
      up = subst (IsUp (after_pop t)) (sym same) (up_sent laws t (w.member p) q.up);
      its = server_sent laws p t q.its;
      none = λ f i. q.none f (left_in_queue t.queue f i);
      complete = q.complete;
      discovery = q.discovery;
    }

    -- it takes a step
    pub quiet_stepped : (number : ℕ) (v : Cluster) (event : Event) → IsOnTheBus event
        → v.member p ≡ member_after_step number event (w.member p).status (w.member p)
        → NoneComes number t q.complete q.discovery event → IsQuiet p (step t number event).step_state.allocator v
    quiet_stepped number v event bus same none_comes = record {
      up = subst (IsUp (step t number event).step_state.allocator) (sym same) (steps_up number event t (w.member p) q.up);
      its = server_stepped laws p t number event bus q.its;
      none = λ f i e. elim (waited_or_offered laws p node t number event bus q.its Disc refl f i e) [
        | inl before ↦ q.none f before e
        | inr new ↦ silent.free new.offer new.offered new.its_what
      ];
      complete = still_complete t (step t number event).step_state.allocator silent.start silent.heard q.complete;
      discovery = still_owing t (step t number event).step_state.allocator silent.start silent.heard q.discovery;
    }
      where
        silent : IsSilent number t q.complete q.discovery (step t number event).step_state
        silent = stays_silent number t q.complete q.discovery event none_comes

-- ---- what a calm row is to a member

-- In a calm row a member is as it was, or a frame of it goes to the bus, or it takes a step at this moment of its clock: a
-- tick, or the receipt of the frame that comes next.
pub data Does (p now : ℕ) (w : Cluster) (row : Row) : Type 0 where
  Stays : (after_row w row).member p ≡ w.member p → Does p now w row
  Sends : (after_row w row).member p ≡ record (w.member p) { status = after_sending (w.member p).status } → Does p now w row
  Ticks : (ms word : ℕ) → ms ≡ now → (after_row w row).member p ≡ member_after_step (w.rows + 1) (tick_of ms word) (w.member p).status (w.member p) → Does p now w row
  Hears : (k ms : ℕ) → row ≡ Rx p k ms → ms ≡ now
      → (after_row w row).member p ≡ member_after_step (w.rows + 1) (receipt_of w k ms) (w.member p).status (w.member p) → Does p now w row

module _ (group : List Party) (clocks : Party → ℕ) (pace : Pace) (traffic : Traffic) (w : Cluster) (moment p : ℕ) where
  abbrev pub ItDoes : Row → Type 0
  ItDoes row = Does p (moment + clocks (OfMember p)) w row

  pub does : (row : Row) → IsCalmRow group clocks pace traffic w moment row → ItDoes row
  does (Tick n ms word) calm = elim (eqb_tells p n) [
    | inl z ↦ subst (λ (q : ℕ). ms ≡ moment + clocks (OfMember q) → ItDoes (Tick q ms word)) z.1
        (λ e. Ticks ms word e (at_here w.member p p (member_after_step (w.rows + 1) (tick_of ms word) (w.member p).status (w.member p)) refl)) calm.1
    | inr z ↦ Stays (at_other w.member n p (member_after_step (w.rows + 1) (tick_of ms word) (w.member n).status (w.member n)) z.1)
  ]
  does (Rx n k ms) calm = elim (eqb_tells p n) [
    | inl z ↦ subst (λ (q : ℕ). ms ≡ moment + clocks (OfMember q) → ItDoes (Rx q k ms)) z.1
        (λ e. Hears k ms refl e (at_here w.member p p (member_after_step (w.rows + 1) (receipt_of w k ms) (w.member p).status (w.member p)) refl)) calm.1
    | inr z ↦ Stays (at_other w.member n p (member_after_step (w.rows + 1) (receipt_of w k ms) (w.member n).status (w.member n)) z.1)
  ]
  does (Send n) calm = elim (eqb_tells p n) [
    | inl z ↦ subst (λ (q : ℕ). ItDoes (Send q)) z.1 (Sends (at_here w.member p p (record (w.member p) { status = after_sending (w.member p).status }) refl))
    | inr z ↦ Stays (at_other w.member n p (record (w.member n) { status = after_sending (w.member n).status }) z.1)
  ]
  does (ATick a ms word) calm = Stays refl
  does (ARx a k ms word) calm = Stays refl
  does (ASend a) calm = Stays refl
  does (Open n told ms word) calm = absurd calm
  does (Ext frame) calm = absurd calm
  does (Crash n calls pattern) calm = absurd calm
  does (Fault n call) calm = absurd calm
  does (AOpen a uid pref ms word) calm = absurd calm
  does (AEnd a) calm = absurd calm
