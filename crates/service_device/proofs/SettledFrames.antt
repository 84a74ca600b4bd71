-- What a frame that comes leaves of a leader that has settled, by what it delivers.
use Rattle.std.proofs.Common.{◌≡◌, ◌≢◌, ℕ, ◌≤◌, Bool, true, false, List, [], ◌∷◌, ◌++◌, refl, sym, ◌∙◌, ap, subst, inl, inr, Option, Some, None}
use Rattle.std.specs.Prelude.{◌⊎◌, ◌&&◌, ◌||◌, length, nat_eq, nat_le, nat_lt, not, slice_index_or, if◌then◌else◌}
use Rattle.alloc_exchange.specs.declared.heard.Heard.{Heard}
use Rattle.alloc_exchange.specs.declared.heard.Heard.TheVariants.{Denied, FollowUp, Ignored, Whole}
use Rattle.alloc_exchange.specs.Exchange.{Accepted, after, answer}
use Rattle.can_frame.specs.declared.entry.Entry.{Entry}
use Rattle.can_frame.specs.declared.identifier.Kind.{Kind}
use Rattle.can_frame.specs.declared.identifier.Kind.TheVariants.{Anonymous, Message, Request as RequestKind, Response}
use Rattle.can_frame.specs.declared.step.What.TheVariants.{Alloc}
use Rattle.can_frame.specs.Log.{blank}
use Rattle.cluster_discovery.specs.Members.{Heard as HeardFrom, Start, counts, is_on_list, may_join, members, members_with, members_with_all, owes}
use Rattle.cluster_discovery.specs.Members as discovery
use Rattle.dsdl_codec.specs.declared.allocation.Allocation.{Allocation}
use Rattle.dsdl_codec.specs.declared.discovery.Discovery.{Discovery}
use Rattle.dsdl_codec.specs.AppendAnswer.{append_answer_of}
use Rattle.dsdl_codec.specs.AppendRequest as append_codec
use Rattle.dsdl_codec.specs.Discovery.{discovery_of}
use Rattle.dsdl_codec.specs.NodeInfo.{node_info_of}
use Rattle.dsdl_codec.specs.NodeStatus.{node_status_of}
use Rattle.dsdl_codec.specs.VoteAnswer.{vote_answer_of}
use Rattle.dsdl_codec.specs.VoteRequest as vote_codec
use Rattle.id_selector.specs.Choice.{chosen}
use Rattle.node_discovery.specs.History.{Event, Status, Taken, is_online, takes}
use Rattle.node_discovery.specs.Watch.{Watched, after_info, after_status, history, of_node, some_unknown}
use Rattle.raft_core.specs.Handled.{append_request_of, vote_request_of}
use Rattle.raft_core.specs.Times.{given_at, is_awaited}
use Rattle.raft_model.specs.Decisions.{grants}
use Rattle.raft_model.specs.Messages.{Request}
use Rattle.raft_model.specs.Moves.{Move}
use Rattle.raft_model.specs.Moves.Elections.{with_term}
use Rattle.raft_model.specs.Moves.Move.{AnswerAgain, TakeAppendRequest, TakeVoteRequest}
use Rattle.raft_model.specs.Server.{RaftServer}
use Rattle.transfer_rx.specs.Reassembly.{Delivery}
use Rattle.alloc_spec.specs.AllocatorState.{AllocatorState, is_recorded, is_zero, known, may_propose, members_of, recorded_at, start_of, taken}
use Rattle.alloc_spec.specs.Delivered.{StepResult, asks_info, by_kind, hears_discovery, hears_status, reads}
use Rattle.alloc_spec.specs.Exchange.{allocation_payload, answers_or_records, answers_request, gives_entry, gives_pair, hears_allocation, may_follow, records_at, with_request}
use Rattle.alloc_spec.specs.Services.{answers_append_request, answers_call, answers_vote_request, append_answered, ends_append_call, ends_vote_call, hears_info, is_listed, takes_append_answer, takes_append_request, takes_vote_answer, takes_vote_request, vote_answered}
use Rattle.alloc_spec.specs.StepState.{StepState, with_moves, with_transfer}
use Rattle.alloc_spec.specs.Tick.{proposes}
use Rattle.alloc_spec.specs.Transfers.{has_room}
use Rattle.alloc_spec_laws.proofs.Choices.{either, eq_false, eq_true}
use Rattle.bus_agreement.proofs.Deliveries.{listed_in}
use Rattle.bus_agreement.proofs.Lists.{in_front}
use Rattle.service_alone.proofs.Choosing.{left_false}
use Rattle.service_alone.proofs.Leads.{and_false}
use Rattle.service_calm.proofs.Calls.{on_list}
use Rattle.service_device.proofs.SettledRaft.{IsOffice, IsStill}
use Rattle.service_device.proofs.SettledSteps.{Keeps, NoStranger, goes_on, moves_on}
use Rattle.service_leader.proofs.TermsKept.{TellsWithin}
use Rattle.service_leader.proofs.TermsRoles.{not_above}

-- ---- lists grow

still_on : (size : ℕ) (list : List ℕ) (new node : ℕ) → is_on_list list node ≡ true → is_on_list (members_with size list new) node ≡ true
still_on size list new node e = either (λ (l : List ℕ). is_on_list l node ≡ true) (may_join size list new) (list ++ new ∷ []) list
    (λ j. on_list (list ++ new ∷ []) node (in_front node list (new ∷ []) (listed_in list node e))) (λ j. e)

still_on_all : (size : ℕ) (nodes list : List ℕ) (node : ℕ) → is_on_list list node ≡ true → is_on_list (members_with_all size list nodes) node ≡ true
still_on_all size [] list node e = e
still_on_all size (new ∷ nodes) list node e = still_on_all size nodes (members_with size list new) node (still_on size list new node e)

-- who was on the list is on it when a Discovery was heard
pub still_listed : (start : Start) (events : List discovery.Event) (source : ℕ) (message : Discovery) (node : ℕ) → is_on_list (members start events) node ≡ true
    → is_on_list (members start (HeardFrom source message ∷ events)) node ≡ true
still_listed start events source message node e = either (λ (l : List ℕ). is_on_list l node ≡ true) (counts start source message)
    (members_with_all start.size (members start events) (source ∷ message.known.items)) (members start events)
    (λ c. still_on_all start.size (source ∷ message.known.items) (members start events) node e) (λ c. e)

or_less : (a b c : Bool) → (b ≡ true → c ≡ true) → (c || a) ≡ false → (b || a) ≡ false
or_less a true c grows e = absurd (cc (left_false c a e, grows refl))
or_less a false true grows e = absurd (cc (e))
or_less a false false grows e = e

-- ---- what is heard of nodes

module _ (log : List Entry) (list : List ℕ) (watch : List Watched) (now : ℕ) (off : NoStranger log list watch now) where
  -- a status of who is on the list
  pub after_its_status : (source : ℕ) → is_on_list list source ≡ true → NoStranger log list (after_status watch source now) now
  after_its_status source listed other e =
      either (λ (l : List Watched). is_online (history other l) now ≡ false) (nat_le 1 source && nat_le source 125) (of_node source (Status now) ∷ watch) watch
      (λ c. either (λ (events : List Event). is_online events now ≡ false) (nat_eq source other) (Status now ∷ history other watch) (history other watch)
      (λ s. absurd (cc (left_false (is_on_list list other) (is_recorded log other) e, ap (is_on_list list) (sym (eq_true source other s)) ∙ listed)))
      (λ s. off other e)) (λ c. off other e)

  -- a unique ID
  pub after_its_info : (source id : ℕ) (uid : List ℕ) → NoStranger log list (after_info watch source id uid now) now
  after_its_info source id uid other e =
      either (λ (l : List Watched). is_online (history other l) now ≡ false) (takes (history source watch) id now) (of_node source (Taken uid now) ∷ watch) watch
      (λ c. either (λ (events : List Event). is_online events now ≡ false) (nat_eq source other) (Taken uid now ∷ history other watch) (history other watch)
      (λ s. off other e) (λ s. off other e)) (λ c. off other e)

-- ---- a request makes the log grow

-- what the exchange made whole may be recorded now
pub record Proposes (heard : Heard) (t : AllocatorState) : Type 0 where
  pub uid : List ℕ
  pub preferred : ℕ
  pub node : ℕ
  pub whole : heard ≡ Whole uid preferred
  pub device : is_zero uid ≡ false
  pub new : recorded_at t.raft_server.store.log uid ≡ None
  pub may : (may_propose t && not (some_unknown t.watch (known t) t.now)) ≡ true
  pub choice : chosen (taken t) preferred ≡ Some node

-- and the step proposes it
abbrev pub Grows : ℕ → Heard → StepState → StepState → Type 0
Grows number heard g k = (p : Proposes heard g.allocator) × (k ≡ proposes number 1 p.uid p.node g)

module _ (number top : ℕ) (log : List Entry) (now : ℕ) (Holds : RaftServer → Type 0) (Sees : List ℕ → ℕ → Bool → Type 0) (office : IsOffice top log Holds Sees) where
  module _ (accepted : List Accepted) where
    abbrev Stays : StepState → Type 0
    Stays g = Keeps number top log now Holds Sees office accepted g

    -- ---- a request of a device

    given : (entry : Entry) (place : ℕ) (g : StepState) → Stays g → Stays (gives_entry number (AnswerAgain place) entry g)
    given entry place g h =
        let payload : List ℕ = allocation_payload entry.node entry.uid in
        either Stays (has_room g.allocator.queue payload)
        (with_moves number (given_at g.allocator.now) (AnswerAgain place ∷ []) (with_transfer number Alloc 0 payload None g))
        (with_transfer number Alloc 0 payload None g)
        (λ r. moves_on number top log now Holds Sees office accepted (given_at g.allocator.now) (with_transfer number Alloc 0 payload None g) (AnswerAgain place) tt tt h) (λ r. h)

    again : (place : ℕ) (g : StepState) → Stays g
        → Stays (if nat_lt place g.allocator.raft_server.store.commit then gives_pair number (AnswerAgain place) place g else g)
    again place g h = either Stays (nat_lt place g.allocator.raft_server.store.commit) (gives_pair number (AnswerAgain place) place g) g
        (λ e. given (slice_index_or g.allocator.raft_server.store.log place (blank 0)) place g h) (λ e. h)

    module _ (uid : List ℕ) (preferred : ℕ) (g : StepState) (h : Stays g) where
      abbrev Then : StepState → Type 0
      Then k = Stays k ⊎ Grows number (Whole uid preferred) g k

      abbrev may_now : Bool
      may_now = may_propose g.allocator && not (some_unknown g.allocator.watch (known g.allocator) g.allocator.now)

      by_node : (o : Option ℕ) → is_zero uid ≡ false → recorded_at g.allocator.raft_server.store.log uid ≡ None → may_now ≡ true
          → chosen (taken g.allocator) preferred ≡ o → Then (records_at number uid o g)
      by_node None device new may e = inl h
      by_node (Some node) device new may e =
          inr (record { uid = uid; preferred = preferred; node = node; whole = refl; device = device; new = new; may = may; choice = e }, refl)

      by_place : (o : Option ℕ) → is_zero uid ≡ false → recorded_at g.allocator.raft_server.store.log uid ≡ o → Then (answers_or_records number uid preferred o g)
      by_place None device new = either Then may_now (records_at number uid (chosen (taken g.allocator) preferred) g) g
          (λ m. by_node (chosen (taken g.allocator) preferred) device new m refl) (λ m. inl h)
      by_place (Some place) device found = inl (again place g h)

    answered : (heard : Heard) (g : StepState) → Stays g → Stays (answers_request number heard g) ⊎ Grows number heard g (answers_request number heard g)
    answered (FollowUp bytes) g h = inl h
    answered (Whole uid preferred) g h =
        either (λ (k : StepState). Stays k ⊎ Grows number (Whole uid preferred) g k) (is_zero uid) g
        (answers_or_records number uid preferred (recorded_at g.allocator.raft_server.store.log uid) g) (λ e. inl h)
        (λ e. by_place uid preferred g h (recorded_at g.allocator.raft_server.store.log uid) e refl)
    answered (Ignored why) g h = inl h
    answered Denied g h = inl h

    -- ---- what else is delivered

    -- the list over which it is judged, at a step so far, whether a blank comes, by whom, and whether it waits with it
    abbrev pub SeesAt : StepState → Type 0
    SeesAt g = Sees (members_of g.allocator) g.allocator.me g.allocator.times.waits

    called : (move : Request → Move) (pending : Option Request) (g : StepState) → SeesAt g
        → ((asked : Request) → IsStill top g.allocator.raft_server (move asked)) → Stays g → Stays (answers_call number move pending g)
    called move None g sees still h = h
    called move (Some asked) g sees still h = goes_on number top log now Holds Sees office accepted g _
        (office.calls (members_of g.allocator) g.allocator.me number g.allocator.times g.allocator.raft_server (move asked) sees (still asked) h.done) h

    module _ (d : Delivery) (within : TellsWithin top d) where
      read_it : {A : Type 0} (hears : A → StepState → StepState) (value : Option A) (g : StepState) → ((a : A) → value ≡ Some a → Stays (hears a g)) → Stays g
          → Stays (reads hears value g).step_state
      read_it hears None g each h = h
      read_it hears (Some value) g each h = each value refl

      info : (bytes : List ℕ) (g : StepState) → Stays g → Stays (asks_info number d bytes g).step_state
      info [] g h = h
      info (byte ∷ bytes) g h = h

      abbrev StaysAt : StepResult → Type 0
      StaysAt r = Stays r.step_state

      asks_append : d.ident.kind ≡ RequestKind → d.ident.number ≡ 30 → (g : StepState) → Stays g
          → StaysAt (reads (takes_append_request number d) (append_codec.append_request_of d.payload) g)
      asks_append kind thirty g h = read_it (takes_append_request number d) (append_codec.append_request_of d.payload) g
          (λ m read. either Stays (is_listed d g.allocator) (answers_append_request number d m g) g
          (λ l. moves_on number top log now Holds Sees office accepted (given_at g.allocator.now) g (TakeAppendRequest (append_request_of m d.mark.step d.ident.source g.allocator.me) _)
          (within.append_request kind thirty m read, refl) tt h) (λ l. h)) h

      asks_vote : d.ident.kind ≡ RequestKind → d.ident.number ≢ 1 → d.ident.number ≢ 30 → (g : StepState) → Stays g
          → StaysAt (reads (takes_vote_request number d) (vote_codec.vote_request_of d.payload) g)
      asks_vote kind one thirty g h = read_it (takes_vote_request number d) (vote_codec.vote_request_of d.payload) g
          (λ m read. either Stays (is_listed d g.allocator) (answers_vote_request number d m g) g
          (λ l. let asked : Request = vote_request_of m d.mark.step d.ident.source g.allocator.me in
          moves_on number top log now Holds Sees office accepted (given_at g.allocator.now) g
          (TakeVoteRequest asked (grants (with_term g.allocator.raft_server.store asked.term) asked)) (within.vote_request kind one thirty m read) tt h)
          (λ l. h)) h

      answers_append : d.ident.kind ≡ Response → d.ident.number ≡ 30 → (g : StepState) → SeesAt g → Stays g
          → StaysAt (reads (takes_append_answer number d) (append_answer_of d.payload) g)
      answers_append kind thirty g sees h = read_it (takes_append_answer number d) (append_answer_of d.payload) g
          (λ m read. either Stays (is_listed d g.allocator) (ends_append_call number d m g) g
          (λ l. either Stays (is_awaited g.allocator.raft_server g.allocator.times d.ident.source true d.id)
          (answers_call number (append_answered d m) (g.allocator.raft_server.memory.pending d.ident.source) g) g
          (λ a. called (append_answered d m) (g.allocator.raft_server.memory.pending d.ident.source) g sees (λ asked. within.append_answer kind thirty m read) h)
          (λ a. h)) (λ l. h)) h

      answers_vote : d.ident.kind ≡ Response → d.ident.number ≢ 1 → d.ident.number ≢ 30 → (g : StepState) → SeesAt g → Stays g
          → StaysAt (reads (takes_vote_answer number d) (vote_answer_of d.payload) g)
      answers_vote kind one thirty g sees h = read_it (takes_vote_answer number d) (vote_answer_of d.payload) g
          (λ m read. either Stays (is_listed d g.allocator) (ends_vote_call number d m g) g
          (λ l. either Stays (is_awaited g.allocator.raft_server g.allocator.times d.ident.source false d.id)
          (answers_call number (vote_answered d m) (g.allocator.raft_server.memory.pending d.ident.source) g) g
          (λ a. called (vote_answered d m) (g.allocator.raft_server.memory.pending d.ident.source) g sees (λ asked. within.vote_answer kind one thirty m read) h)
          (λ a. h)) (λ l. h)) h

      hears_a_status : (g : StepState) → is_on_list (members_of g.allocator) d.ident.source ≡ true → Stays g → Stays (hears_status d g)
      hears_a_status g listed h = record {
        done = h.done;
        clock = h.clock;
        status_at = h.status_at;
        accepts = h.accepts;
        offline = subst (λ (moment : ℕ). NoStranger log (members_of g.allocator) (after_status g.allocator.watch d.ident.source moment) now) (sym h.clock)
            (after_its_status log (members_of g.allocator) g.allocator.watch now h.offline d.ident.source listed);
        discovery = h.discovery;
      }

      hears_a_name : (info : _) (g : StepState) → Stays g → Stays (hears_info d info g)
      hears_a_name info g h = record {
        done = h.done;
        clock = h.clock;
        status_at = h.status_at;
        accepts = h.accepts;
        offline = subst (λ (moment : ℕ). NoStranger log (members_of g.allocator) (after_info g.allocator.watch d.ident.source d.id info.uid moment) now) (sym h.clock)
            (after_its_info log (members_of g.allocator) g.allocator.watch now h.offline d.ident.source d.id info.uid);
        discovery = h.discovery;
      }

      hears_a_list : (message : Discovery) (g : StepState) → g.allocator.size ≤ length message.known.items → Stays g → Stays (hears_discovery d message g)
      hears_a_list message g whole h = record {
        done = h.done;
        clock = h.clock;
        status_at = h.status_at;
        accepts = h.accepts;
        offline = λ other e. h.offline other (or_less (is_recorded log other) (is_on_list (members_of g.allocator) other)
            (is_on_list (members (start_of g.allocator) (HeardFrom d.ident.source message ∷ g.allocator.heard)) other)
            (still_listed (start_of g.allocator) g.allocator.heard d.ident.source message other) e);
        discovery =
            ap (λ (b : Bool). (counts (start_of g.allocator) d.ident.source message && b) || owes (start_of g.allocator) g.allocator.heard)
            (not_above (length message.known.items) g.allocator.size whole)
            ∙ (ap (λ (b : Bool). b || owes (start_of g.allocator) g.allocator.heard) (and_false (counts (start_of g.allocator) d.ident.source message))
            ∙ h.discovery);
      }

      -- what is no request of a device leaves it so
      pub others_leave : (kind : Kind) (g : StepState) → d.ident.kind ≡ kind → kind ≢ Anonymous
          → (kind ≡ Message → is_on_list (members_of g.allocator) d.ident.source ≡ true)
          → ((message : Discovery) → kind ≡ Message → d.ident.number ≢ 341 → discovery_of d.payload ≡ Some message → g.allocator.size ≤ length message.known.items)
          → SeesAt g → Stays g → StaysAt (by_kind number d kind g)
      others_leave Anonymous g is apart listed whole sees h = absurd (apart refl)
      others_leave Message g is apart listed whole sees h = either StaysAt (nat_eq d.ident.number 341) _ _
          (λ e. read_it (λ status. hears_status d) (node_status_of d.payload) g (λ s f. hears_a_status g (listed refl) h) h)
          (λ e. read_it (hears_discovery d) (discovery_of d.payload) g
          (λ m f. hears_a_list m g (whole m refl (eq_false d.ident.number 341 e) f) h) h)
      others_leave RequestKind g is apart listed whole sees h = either StaysAt (nat_eq d.ident.number 1) _ _ (λ e. info d.payload g h)
          (λ e. either StaysAt (nat_eq d.ident.number 30) _ _ (λ f. asks_append is (eq_true d.ident.number 30 f) g h)
          (λ f. asks_vote is (eq_false d.ident.number 1 e) (eq_false d.ident.number 30 f) g h))
      others_leave Response g is apart listed whole sees h = either StaysAt (nat_eq d.ident.number 1) _ _
          (λ e. read_it (hears_info d) (node_info_of d.payload) g (λ m f. hears_a_name m g h) h)
          (λ e. either StaysAt (nat_eq d.ident.number 30) _ _ (λ f. answers_append is (eq_true d.ident.number 30 f) g sees h)
          (λ f. answers_vote is (eq_false d.ident.number 1 e) (eq_false d.ident.number 30 f) g sees h))

  -- a request is taken, or makes the log grow
  pub request_leaves : (accepted : List Accepted) (message : Allocation) (g : StepState) → Keeps number top log now Holds Sees office accepted g
      → Keeps number top log now Holds Sees office (after accepted message now (may_follow g.allocator)) (hears_allocation number message g)
      ⊎ Grows number (answer accepted message now (may_follow g.allocator)) (with_request message g) (hears_allocation number message g)
  request_leaves accepted message g h = elim (answered (after accepted message now (may_follow g.allocator))
      (answer g.allocator.accepted message g.allocator.now (may_follow g.allocator)) (with_request message g) (record {
        done = h.done;
        clock = h.clock;
        status_at = h.status_at;
        accepts = λ i. after (h.accepts i) message (h.clock i) (may_follow g.allocator);
        offline = h.offline;
        discovery = h.discovery;
      })) [
        | inl z ↦ inl z
        | inr z ↦ inr (subst (λ (heard : Heard). Grows number heard (with_request message g) (hears_allocation number message g))
            (λ i. answer (h.accepts i) message (h.clock i) (may_follow g.allocator)) z)
      ]
