-- A frame that comes to a leader that has settled: what is delivered, whose it is, and what the step leaves.
use Rattle.std.proofs.Common.{◌≡◌, ◌≢◌, ℕ, ◌≤◌, Bool, true, false, List, [], ◌∷◌, refl, sym, ◌∙◌, ap, subst, arith, inl, inr, Option, Some, None}
use Rattle.std.specs.Prelude.{◌⊎◌, ◌&&◌, ◌||◌, ◌/◌, ◌%◌, length, max, nat_eq, nat_lt, if◌then◌else◌, Result}
use Rattle.alloc_exchange.specs.declared.heard.Heard.{Heard}
use Rattle.alloc_exchange.specs.Exchange.{Accepted, after, answer}
use Rattle.can_frame.specs.declared.entry.Entry.{Entry}
use Rattle.can_frame.specs.declared.identifier.Ident.{Ident}
use Rattle.can_frame.specs.declared.identifier.Kind.{Kind}
use Rattle.can_frame.specs.declared.identifier.Kind.TheVariants.{Anonymous, Message, Request as RequestKind, Response}
use Rattle.can_frame.specs.declared.step.Why.{Why}
use Rattle.can_frame.specs.declared.step.Why.TheVariants.{Start, Toggle}
use Rattle.can_frame.specs.DataTypes.{allocation}
use Rattle.can_frame.specs.Identifier.{identifier_of, message_of, service_of}
use Rattle.can_frame.specs.Kinds.{is_anonymous}
use Rattle.can_frame.specs.Log.{log_limit}
use Rattle.dsdl_codec.specs.declared.allocation.Allocation.{Allocation}
use Rattle.dsdl_codec.specs.declared.discovery.Discovery.{Discovery}
use Rattle.dsdl_codec.specs.Allocation.{allocation_of}
use Rattle.dsdl_codec.specs.Discovery.{discovery_of}
use Rattle.cluster_discovery.specs.Members.{is_on_list}
use Rattle.id_selector.specs.Choice.{chosen}
use Rattle.node_discovery.specs.History.{is_online}
use Rattle.node_discovery.specs.Watch.{history, some_unknown}
use Rattle.raft_model.specs.Moves.Elections.{is_leader}
use Rattle.raft_model.specs.Server.{RaftServer, Store}
use Rattle.transfer_rx.specs.declared.accept.Wanted.{Wanted}
use Rattle.transfer_rx.specs.Acceptance.{first_signature}
use Rattle.transfer_rx.specs.Reassembly.{Answer as Received, Arrival, Continues, Delivery, Drops, Gives, alone, answer as received, piece_in}
use Rattle.transfer_rx.specs.Reassembly as rx
use Rattle.transfer_rx.specs.Sessions.{Session}
use Rattle.transfer_rx.specs.Marks.{is_whole}
use Rattle.transfer_rx.specs.Sound.{IsDelivered}
use Rattle.alloc_spec.specs.Accepted.{rows, setting_for}
use Rattle.alloc_spec.specs.AllocatorState.{AllocatorState, by_node, is_recorded, members_of, recorded_at}
use Rattle.alloc_spec.specs.Delivered.{StepResult, by_kind, delivery_phase, reads, took}
use Rattle.alloc_spec.specs.Exchange.{hears_allocation, may_follow, with_request}
use Rattle.alloc_spec.specs.Step.{step, with_answer, with_end_phase}
use Rattle.alloc_spec.specs.Step.Event.{Rx}
use Rattle.alloc_spec.specs.StepState.{StepState}
use Rattle.alloc_spec.specs.Tick.{proposes}
use Rattle.alloc_spec_laws.proofs.Choices.{and_left, and_right, either, eq_true, not_true, tell}
use Rattle.bus_agreement.specs.LawsBelow.{FrameLaws}
use Rattle.bus_agreement.proofs.Idents.{IsWanted}
use Rattle.service_leader.proofs.HeardIdents.{is_wanted}
use Rattle.service_steps.specs.Requests.{IsRequest, moment_at}
use Rattle.service_steps.specs.Serving.{MayRecord}
use Rattle.service_steps.proofs.Begins.{IsAsBefore}
use Rattle.service_steps.proofs.FollowUps.{begun, same_follow, when_come}
use Rattle.service_device.proofs.SettledRaft.{IsOffice}
use Rattle.service_device.proofs.SettledFrames.{Proposes, SeesAt, others_leave, request_leaves}
use Rattle.service_device.proofs.SettledSteps.{Keeps, ends}
use Rattle.service_leader.proofs.TermsKept.{TellsWithin}

-- ---- what is delivered

-- who is anonymous has no node ID
abbrev HasNoId : Ident → Option Ident → Type 0
HasNoId ident o = o ≡ Some ident → ident.kind ≡ Anonymous → ident.source ≡ 0

one_ident : (x y : Ident) → Some x ≡ Some y → x ≡ y
one_ident x y e = cc (e)

no_service : (b : Bool) → (if b then RequestKind else Response) ≡ Anonymous → ⊥
no_service true e = cc (e)
no_service false e = cc (e)

has_no_id : (id : ℕ) (ident : Ident) → identifier_of id ≡ Some ident → ident.kind ≡ Anonymous → ident.source ≡ 0
unfolding identifier_of
has_no_id id ident = either (HasNoId ident) (nat_eq (id / 128 % 2) 1) (service_of id) (Some (message_of id))
    (λ s. either (HasNoId ident) (nat_eq (id % 128) 0 || nat_eq (id / 256 % 128) 0) None _ (λ z e. absurd (cc (e))) (λ z e kind.
    absurd (no_service (nat_eq (id / 32768 % 2) 1) (ap (λ (i : Ident). i.kind) (one_ident _ ident e) ∙ kind))))
    (λ s. either (λ (i : Ident). HasNoId ident (Some i)) (nat_eq (id % 128) 0) _ _
    (λ z e kind. sym (ap (λ (i : Ident). i.source) (one_ident _ ident e)))
    (λ z e kind. absurd (cc (ap (λ (i : Ident). i.kind) (one_ident _ ident e) ∙ kind))))

-- of what is anonymous a receiver wants requests alone
requests_alone : (number signature : ℕ) → first_signature rows Anonymous number ≡ Some signature → number ≡ allocation.number
unfolding rows
requests_alone number signature e = elim (tell (nat_eq 1 number)) [
  | inl z ↦ sym (eq_true 1 number z)
  | inr z ↦ absurd (cc (e, none z))
]
  where
    none : nat_eq 1 number ≡ false → first_signature rows Anonymous number ≡ None
    none z = rw (z) refl

-- of messages it wants NodeStatus and Discovery
pub a_discovery : (number signature : ℕ) → first_signature rows Message number ≡ Some signature → number ≢ 341 → number ≡ 390
unfolding rows
a_discovery number signature e apart = elim (tell (nat_eq 341 number)) [
  | inl z ↦ absurd (apart (sym (eq_true 341 number z)))
  | inr z ↦ elim (tell (nat_eq 390 number)) [
    | inl y ↦ sym (eq_true 390 number y)
    | inr y ↦ absurd (cc (e, none z y))
  ]
]
  where
    none : nat_eq 341 number ≡ false → nat_eq 390 number ≡ false → first_signature rows Message number ≡ None
    none z y = rw (z) (rw (y) refl)

-- a frame that is delivered alone
alone_tells : (d x : Delivery) (start end toggle : Bool)
    → (if start && end then (if toggle then Drops Toggle else Gives x) else Drops Start) ≡ Gives d
    → (start ≡ true) × (end ≡ true) × (toggle ≡ false) × (x ≡ d)
alone_tells d x true true true e = absurd (cc (e))
alone_tells d x true true false e = (refl, refl, refl, cc (e))
alone_tells d x true false toggle e = absurd (cc (e))
alone_tells d x false end toggle e = absurd (cc (e))

module _ (frame : FrameLaws) (me : ℕ) (sessions : List Session) (arrival : Arrival) (d : Delivery)
    (gives : received (setting_for me) sessions arrival ≡ Gives d) where
  its : IsDelivered (setting_for me) sessions arrival d
  its = frame.delivered (setting_for me) sessions arrival d gives

  -- the frame has the identifier of what is delivered, and is wanted
  wants : IsWanted rows me arrival.id d.ident
  wants = is_wanted frame me sessions arrival d gives

  module _ (kind : d.ident.kind ≡ Anonymous) where
    is_alone : alone its.w.ident (piece_in arrival) arrival.mark ≡ Gives d
    unfolding rx.step
    is_alone = sym (ap (λ (w : Result Wanted Why). (rx.of_wanted (setting_for me) arrival sessions w).answer) its.accepted
        ∙ ap (λ (k : Kind). (rx.by_kind (setting_for me) its.w arrival sessions (is_anonymous k)).answer)
        (ap (λ (i : Ident). i.kind) (sym its.ident) ∙ kind)) ∙ gives

    -- the frame as it is delivered
    abbrev alone_is : Delivery
    alone_is = record {
      ident = its.w.ident;
      id = (piece_in arrival).tail.id;
      payload = (piece_in arrival).bytes;
      mark = arrival.mark;
      whole = is_whole (arrival.mark ∷ []);
    }

    tells : ((piece_in arrival).tail.start ≡ true) × ((piece_in arrival).tail.end ≡ true) × ((piece_in arrival).tail.toggle ≡ false) × (alone_is ≡ d)
    tells = alone_tells d alone_is (piece_in arrival).tail.start (piece_in arrival).tail.end (piece_in arrival).tail.toggle is_alone

    -- what a receiver delivers of who is anonymous, and reads as a request, is one
    pub is_request : (message : Allocation) → allocation_of d.payload ≡ Some message → IsRequest arrival message
    is_request message says = record {
      ident = d.ident;
      read = wants.read;
      kind = kind;
      number = requests_alone d.ident.number wants.signature.0
          (ap (λ (k : Kind). first_signature rows k d.ident.number) (sym kind) ∙ wants.signature.1);
      source = has_no_id arrival.id d.ident wants.read kind;
      first = tells.0;
      last = tells.1;
      toggle = tells.2;
      says = ap (λ (x : Delivery). allocation_of x.payload) tells.3 ∙ says;
    }

-- ---- what the step leaves

module _ (number top : ℕ) (log : List Entry) (now : ℕ) (Holds : RaftServer → Type 0) (Sees : List ℕ → ℕ → Bool → Type 0) (office : IsOffice top log Holds Sees) (accepted : List Accepted)
    (t : AllocatorState) (arrival : Arrival)
    (h : Keeps number top log now Holds Sees office accepted (when_come t number arrival)) where
  abbrev got : Received
  got = received (setting_for t.me) t.sessions (record arrival { moment = moment_at t arrival })

  abbrev come : StepState
  come = when_come t number arrival

  -- ---- where no request of a device comes

  module _ (unasked : (d : Delivery) (message : Allocation) → got ≡ Gives d → d.ident.kind ≡ Anonymous → allocation_of d.payload ≡ Some message → ⊥)
      (within : (d : Delivery) → got ≡ Gives d → TellsWithin top d)
      (listed : (d : Delivery) → got ≡ Gives d → d.ident.kind ≡ Message → is_on_list (members_of t) d.ident.source ≡ true)
      (whole : (d : Delivery) (message : Discovery) → got ≡ Gives d → d.ident.kind ≡ Message → d.ident.number ≢ 341
      → discovery_of d.payload ≡ Some message → t.size ≤ length message.known.items)
      (sees : SeesAt number top log now Holds Sees office accepted come) where
    no_message : (d : Delivery) → got ≡ Gives d → d.ident.kind ≡ Anonymous → (o : Option Allocation) → allocation_of d.payload ≡ o
        → Keeps number top log now Holds Sees office accepted (reads (hears_allocation number) o come).step_state
    no_message d gives kind None e = h
    no_message d gives kind (Some message) e = absurd (unasked d message gives kind e)

    by_its_kind : (d : Delivery) → got ≡ Gives d → (kind : Kind) → d.ident.kind ≡ kind
        → Keeps number top log now Holds Sees office accepted (by_kind number d kind come).step_state
    by_its_kind d gives Anonymous e = no_message d gives e (allocation_of d.payload) refl
    by_its_kind d gives Message e = others_leave number top log now Holds Sees office accepted d (within d gives) Message come e (λ f. cc (f))
        (λ f. listed d gives e) (λ message f other says. whole d message gives e other says) sees h
    by_its_kind d gives RequestKind e = others_leave number top log now Holds Sees office accepted d (within d gives) RequestKind come e (λ f. cc (f))
        (λ f. absurd (cc (f))) (λ message f other says. absurd (cc (f))) sees h
    by_its_kind d gives Response e = others_leave number top log now Holds Sees office accepted d (within d gives) Response come e (λ f. cc (f))
        (λ f. absurd (cc (f))) (λ message f other says. absurd (cc (f))) sees h

    delivered : (d : Delivery) → got ≡ Gives d → Keeps number top log now Holds Sees office accepted (delivery_phase number d come).step_state
    unfolding delivery_phase
    delivered d gives = by_its_kind d gives d.ident.kind refl

    by_answer : (x : Received) → got ≡ x → Keeps number top log now Holds Sees office accepted (with_answer number x come).step_state
    by_answer (Gives d) e = delivered d e
    by_answer Continues e = h
    by_answer (Drops why) e = h

    -- it rests on
    pub unasked_leaves : Keeps number top log now Holds Sees office accepted (step t number (Rx arrival)).step_state
    unfolding step
    unasked_leaves = ends number top log now Holds Sees office accepted (with_answer number got come).step_state (by_answer got refl)

  -- ---- where one comes

  module _ (d : Delivery) (message : Allocation) (gives : got ≡ Gives d) (kind : d.ident.kind ≡ Anonymous)
      (says : allocation_of d.payload ≡ Some message) where
    hears_it : delivery_phase number d come ≡ took (hears_allocation number message come)
    unfolding delivery_phase
    hears_it = rw (kind) (rw (says) refl)

    step_hears : step t number (Rx arrival) ≡ with_end_phase number (took (hears_allocation number message come))
    unfolding step
    step_hears = ap (λ (x : Received). with_end_phase number (with_answer number x come)) gives ∙ ap (λ (r : StepResult). with_end_phase number r) hears_it

    same_may : may_follow come.allocator ≡ may_follow t
    same_may = let before = begun t number arrival in same_follow t come.allocator.raft_server before.store before.role

    -- the step proposes what the exchange makes whole
    abbrev pub Grown : Bool → Type 0
    Grown follows = (p : Proposes (answer accepted message now follows) (with_request message come).allocator)
        × (step t number (Rx arrival) ≡ with_end_phase number (took (proposes number 1 p.uid p.node (with_request message come))))

    -- it is taken, or makes the log grow
    pub asked_leaves : Keeps number top log now Holds Sees office (after accepted message now (may_follow t)) (step t number (Rx arrival)).step_state
        ⊎ Grown (may_follow t)
    asked_leaves = subst (λ (b : Bool). Keeps number top log now Holds Sees office (after accepted message now b) (step t number (Rx arrival)).step_state ⊎ Grown b)
        same_may
        (elim (request_leaves number top log now Holds Sees office accepted message come h) [
          | inl z ↦ inl (subst (λ (r : StepResult). Keeps number top log now Holds Sees office (after accepted message now (may_follow come.allocator)) r.step_state)
              (sym step_hears)
              (ends number top log now Holds Sees office (after accepted message now (may_follow come.allocator)) (hears_allocation number message come) z))
          | inr z ↦ inr (z.0, step_hears ∙ ap (λ (k : StepState). with_end_phase number (took k)) z.1)
        ])

-- ---- what may be recorded in the step might be before it

module _ (number : ℕ) (t : AllocatorState) (arrival : Arrival) (message : Allocation) (heard : Heard)
    (p : Proposes heard (with_request message (when_come t number arrival)).allocator) where
  before : IsAsBefore t.raft_server (when_come t number arrival).allocator.raft_server
  before = begun t number arrival

  pub may_record : MayRecord t (moment_at t arrival) p.preferred p.uid p.node
  may_record = record {
    device = p.device;
    new = ap (λ (s : Store). recorded_at s.log p.uid) (sym before.store) ∙ p.new;
    may = (λ i. is_leader (sym before.role i) && nat_lt (length (sym before.store i).log) log_limit) ∙ and_left _ _ p.may;
    all_known = (λ i. some_unknown t.watch (by_node (λ node. is_on_list (members_of t) node || is_recorded (sym before.store i).log node)) (moment_at t arrival))
        ∙ not_true _ (and_right _ _ p.may);
    choice = (λ i. chosen (by_node (λ node. (is_on_list (members_of t) node || is_recorded (sym before.store i).log node)
        || is_online (history node t.watch) (same i))) p.preferred) ∙ p.choice;
  }
    where
      same : max t.now (moment_at t arrival) ≡ moment_at t arrival
      same = omega arith
