-- A step that finished: what was made and said after it, and what its server is.
use Rattle.std.proofs.Common.{◌≡◌, ℕ, ◌<◌, ◌≤◌, Bool, true, false, List, [], ◌∷◌, ◌++◌, refl, sym, ap, subst, ◌∙◌, arith, ◌⊎◌, inl, inr, Some}
use Rattle.std.specs.Prelude.{max, All, Contains, ◌==◌, ◌||◌, if◌then◌else◌}
use Rattle.std.proofs.lemmas.Bool.Decides.{eqb_tells}
use Rattle.can_frame.specs.declared.identifier.Ident.{Ident}
use Rattle.can_frame.specs.declared.identifier.Kind.{Kind}
use Rattle.can_frame.specs.declared.identifier.Kind.TheVariants.{Message as Broadcast, Request as RequestKind, Response}
use Rattle.can_frame.specs.declared.step.What.{What}
use Rattle.can_frame.specs.declared.step.What.TheVariants.{Disc, VoteQ, Vote, AppQ, App}
use Rattle.can_frame.specs.Kinds.{is_service, is_anonymous}
use Rattle.raft_model.specs.Lists.{In}
use Rattle.raft_model.specs.Messages.{Answer, Message, Request}
use Rattle.raft_model.specs.Messages.Message.{Answers, Requests}
use Rattle.raft_model.specs.Runs.{bag_with}
use Rattle.raft_core.specs.Times.{Sending}
use Rattle.dsdl_codec.specs.Discovery.{discovery_of}
use Rattle.transfer_rx.specs.Acceptance.{first_signature}
use Rattle.transfer_rx.specs.Origin.{CameWithKey}
use Rattle.transfer_rx.specs.Reassembly.{Arrival, Delivery, Setting, next}
use Rattle.transfer_rx.specs.Reassembly as rx
use Rattle.transfer_rx.specs.Sessions.{Session}
use Rattle.transfer_tx.specs.Queue.{Queued}
use Rattle.alloc_spec_laws.specs.Calls as calls
use Rattle.alloc_spec_laws.specs.Calls.{CallsAreMade, StaysPending}
use Rattle.alloc_spec_laws.specs.Listing.{IsDelivered, IsNamed}
use Rattle.alloc_spec_laws.specs.Responses.{AnswersAppend, AnswersAsked, AnswersVote, IsResponse}
use Rattle.alloc_spec_laws.specs.Saying.{IsSaid}
use Rattle.alloc_spec_laws.specs.Sound.{IsInRange}
use Rattle.alloc_spec_laws.specs.Waiting.{all_frames_put}
use Rattle.alloc_spec.specs.Accepted.{rows, setting_for}
use Rattle.alloc_spec.specs.StepState.{StepState, messages}
use Rattle.alloc_spec.specs.Services.{is_listed}
use Rattle.alloc_spec.specs.Step.{Event, step}
use Rattle.alloc_spec.specs.Step.Event.{Rx, Tick}
use Rattle.alloc_spec.specs.AllocatorState.{AllocatorState, members_of}
use Rattle.alloc_spec.specs.Transfers.{SentTransfer, Offer, kind_of, message_of, number_of}
use Rattle.bus_spec.specs.Cluster.{is_member}
use Rattle.bus_spec.specs.Lawful.{is_forged, is_forged_by}
use Rattle.bus_spec.specs.Refinement.{transfers_of_offers}
use Rattle.bus_agreement.specs.Frames.{AreHeard, AreTransfers, CameFrom, IsOnBus, IsPiece, IsTransferOf, WasMade}
use Rattle.bus_agreement.specs.Said.{AreAnswered, AreCalled, AreSaid, AnswersMadeRequest, IsCalled, carrier}
use Rattle.bus_agreement.specs.Events.{MayHappen}
use Rattle.bus_agreement.specs.Shows.{HoldsOfMade, IsAtWork}
use Rattle.bus_agreement.specs.LawsBelow.{FrameLaws, CodecLaws}
use Rattle.bus_agreement.specs.StepLaws.{StepLaws}
use Rattle.bus_agreement.proofs.Deliveries.{listed_in, made_by_member, service_dest, wants}
use Rattle.bus_agreement.proofs.Idents.{IsWanted, discovery_number, one_what}
use Rattle.bus_agreement.proofs.StillShown.{piece_more}
use Rattle.bus_agreement.proofs.Lists.{in_append, in_at}
use Rattle.bus_agreement.proofs.MadeTransfers.{each_made, frame_put, made_by, newly_made, newly_posted, says_it, still_made, still_posted, transfers_more}
use Rattle.bus_agreement.proofs.Pieces.{marked_frame}
use Rattle.bus_agreement.proofs.TakenMessages.{append_says, is_append_request, is_vote_request, vote_says}
use Rattle.bus_agreement.proofs.WholeTransfers.{members_own}

pub one_arrival : (a b : Arrival) → Rx a ≡ Rx b → a ≡ b
one_arrival a b e = cc (e)

-- a Discovery from outside is forged
forged_discovery : (ids : List ℕ) (ident : Ident) → ident.kind ≡ Broadcast → ident.number ≡ 390 → is_forged ids (Some ident) ≡ true
forged_discovery ids ident kind number = ap (λ (k : Kind). is_forged_by ids k ident) kind ∙ by (is_member ids ident.source) where
  same : (ident.number == 390) ≡ true
  same = elim (eqb_tells ident.number 390) [ inl e ↦ e.0 | inr apart ↦ absurd (apart.1 number) ]

  by : (b : Bool) → (b || ((ident.number == 390) || (ident.number == 1))) ≡ true
  by true = refl
  by false = ap (λ (c : Bool). c || (ident.number == 1)) same

contained : (xs : List ℕ) (x : ℕ) → Contains xs x → In x xs
contained xs x (k, inside, e) = subst (λ (y : ℕ). In y xs) e (in_at xs k x inside)

-- ---- what it hears

module _ (laws : StepLaws) (frames : List Queued) (t : AllocatorState) (number : ℕ) where
  pub heard_after : (event : Event) → MayHappen frames t event → AreHeard frames (setting_for t.me) t.sessions
      → AreHeard frames (setting_for t.me) (step t number event).step_state.allocator.sessions
  heard_after (Tick now word) may is = subst (λ (s : List Session). AreHeard frames (setting_for t.me) s) (sym (laws.ticked t number now word)) is
  heard_after (Rx arrival) may is = record {
    arrivals = is.arrivals ++ coming ∷ [];
    come = λ a i. elim (in_append a is.arrivals (coming ∷ []) i) [
      | inl j ↦ is.come a j
      | inr (inl e) ↦ subst (λ (b : Arrival). CameFrom frames b) (sym e)
          (let c = may.came arrival refl in record { frame = c.frame; there = c.there; id = c.id; bytes = c.bytes; mark = c.mark })
      | inr (inr j) ↦ absurd j
    ];
    kept = subst (λ (s : List Session). All (CameWithKey (setting_for t.me) (is.arrivals ++ coming ∷ [])) s) (sym (laws.heard t number arrival))
        (laws.kept (setting_for t.me) is.arrivals (coming ∷ []) t.sessions is.kept);
  }
    where
      coming : Arrival
      coming = record arrival { moment = max t.now arrival.moment }

-- ---- what it made

module _ (laws : StepLaws) (frame_laws : FrameLaws) (codec : CodecLaws) (ids : List ℕ) (low : (n : ℕ) → In n ids → 1 ≤ n) (high : (n : ℕ) → In n ids → n ≤ 125)
    (made : List SentTransfer) (bag : List Message) (holds : HoldsOfMade made ids bag) (frames : List Queued)
    (bus : (frame : Queued) → In frame frames → IsOnBus made ids frame) (t : AllocatorState) (listed : In t.me ids) (works : IsAtWork made ids frames t.me t)
    (number : ℕ) (some : 1 ≤ number) (past : (x : SentTransfer) → In x made → x.step < number) (event : Event) (may : MayHappen frames t event)
    (ranges : (offer : Offer) → In offer (step t number event).step_state.offers → IsInRange offer) where
  abbrev step_state : StepState
  step_state = (step t number event).step_state

  abbrev more : List SentTransfer
  more = transfers_of_offers number t.me step_state.offers made

  still : (x : SentTransfer) → In x made → In x more
  still x i = still_made number t.me step_state.offers made x i

  pub transfers_after : AreTransfers ids more
  transfers_after = transfers_more number t.me ids made holds.transfers past step_state.offers (laws.one t number event) ranges listed some

  -- what is delivered of a member was made, and a service is for this one
  record IsKnown (d : Delivery) : Type 0 where
    wants : (id : ℕ) × IsWanted rows t.me id d.ident
    source : is_forged ids (Some d.ident) ≡ true → WasMade made d
    own : is_service d.ident.kind ≡ true → d.ident.dest ≡ t.me

  known_at : (d : Delivery) (e : Event) → event ≡ e → IsDelivered t number e d → IsKnown d
  known_at d (Tick now word) same is = absurd (cc (is.comes))
  known_at d (Rx arrival) same is =
      let a : is.arrival ≡ arrival = sym (one_arrival arrival is.arrival is.comes) in
      let came = may.came arrival same in
      let harmless = may.harmless arrival same in
      let gives = subst (λ (b : Arrival). rx.answer (setting_for t.me) t.sessions (record b { moment = max t.now arrival.moment }) ≡ rx.Gives d) a is.gives in record {
        wants = (
          arrival.id,
          wants frame_laws codec ids low high made holds.transfers bag holds.said holds.written holds.answered frames bus t (low t.me listed)
              works.among works.heard works.called number arrival came harmless d gives,
        );
        source = made_by_member frame_laws codec ids low high made holds.transfers bag holds.said holds.written holds.answered frames bus t (low t.me listed)
            works.among works.heard works.called number arrival came harmless d gives;
        own = service_dest frame_laws codec ids low high made holds.transfers bag holds.said holds.written holds.answered frames bus t (low t.me listed)
            works.among works.heard works.called number arrival came harmless d gives;
      }

  known : (d : Delivery) → IsDelivered t number event d → IsKnown d
  known d is = known_at d event refl is

  -- ---- responses

  some_answer : (x y : Answer) → Some (Answers x) ≡ Some (Answers y) → x ≡ y
  some_answer x y e = cc (e)

  -- a response that is new answers a request that was made
  answered_new : (offer : Offer) → In offer step_state.offers → (service : What) (answer : Answer) → kind_of offer.what ≡ Response
      → ((d : Delivery) → AnswersAsked d t offer.what offer.says → In d.ident.source ids)
      → ((d : Delivery) → d.ident.number ≡ number_of offer.what → AnswersAsked d t offer.what offer.says → (z : SentTransfer) → In z made → IsTransferOf d z
      → d.ident.dest ≡ t.me → kind_of z.offer.what ≡ RequestKind
      → (z.offer.what ≡ service) × (z.offer.says ≡ Some (Requests answer.request)))
      → AnswersMadeRequest more (made_by number t.me offer) answer service
  answered_new offer i service answer response source reads = record {
    asked = found.0;
    was_made = still found.0 found.1;
    step = found.2.step ∙ sym r.re;
    what = asked.0;
    maker = found.2.by ∙ sym r.to;
    receiver = found.2.to ∙ own;
    id = found.2.id ∙ sym r.id;
    says = asked.1;
  }
    where
      r : IsResponse t number event offer
      r = laws.responses t number event offer i response

      found : WasMade made r.d
      found = (known r.d r.delivered).source (members_own ids r.d.ident (source r.d r.says) (ap is_anonymous r.kind))

      own : r.d.ident.dest ≡ t.me
      own = (known r.d r.delivered).own (ap is_service r.kind)

      asked : (found.0.offer.what ≡ service) × (found.0.offer.says ≡ Some (Requests answer.request))
      asked = reads r.d r.service r.says found.0 found.1 found.2 own (found.2.kind ∙ r.kind)

  of_list : (d : Delivery) → is_listed d t ≡ true → In d.ident.source ids
  of_list d e = works.among d.ident.source (listed_in (members_of t) d.ident.source e)

  votes_new : (offer : Offer) (answer : Answer) → In offer step_state.offers → offer.what ≡ Vote → offer.says ≡ Some (Answers answer)
      → AnswersMadeRequest more (made_by number t.me offer) answer VoteQ
  votes_new offer answer i what says = answered_new offer i VoteQ answer (ap kind_of what) (λ d a. of_list d (as_vote d a).listed)
      (λ d service a z there is own kind.
      let v = as_vote d a in
      let at : number_of z.offer.what ≡ 31 = is.number ∙ (service ∙ ap number_of what) in
      let is_it : z.offer.what ≡ VoteQ = is_vote_request z.offer.what kind (λ e. absurd (omega (arith, at, e))) (λ e. absurd (omega (arith, at, e))) in (
        is_it,
        vote_says codec ids made bag holds.said holds.written t.me d z there is own is_it v.asked v.read
            ∙ ap (λ (r : Request). Some (Requests r)) (sym v.request ∙ ap (λ (x : Answer). x.request) (some_answer v.answer answer (sym v.is ∙ says))),
      ))
    where
      as_vote : (d : Delivery) → AnswersAsked d t offer.what offer.says → AnswersVote d t offer.says
      as_vote d a = subst (λ (w : What). AnswersAsked d t w offer.says) what a

  appends_new : (offer : Offer) (answer : Answer) → In offer step_state.offers → offer.what ≡ App → offer.says ≡ Some (Answers answer)
      → AnswersMadeRequest more (made_by number t.me offer) answer AppQ
  appends_new offer answer i what says = answered_new offer i AppQ answer (ap kind_of what) (λ d a. of_list d (as_append d a).listed)
      (λ d service a z there is own kind.
      let v = as_append d a in
      let is_it : z.offer.what ≡ AppQ = is_append_request z.offer.what kind (is.number ∙ (service ∙ ap number_of what)) in (
        is_it,
        append_says codec ids made bag holds.said holds.written t.me d z there is own is_it v.asked v.read
            ∙ ap (λ (r : Request). Some (Requests r)) (sym v.request ∙ ap (λ (x : Answer). x.request) (some_answer v.answer answer (sym v.is ∙ says))),
      ))
    where
      as_append : (d : Delivery) → AnswersAsked d t offer.what offer.says → AnswersAppend d t offer.says
      as_append d a = subst (λ (w : What). AnswersAsked d t w offer.says) what a

  answer_more : (x : SentTransfer) (answer : Answer) (service : What) → AnswersMadeRequest made x answer service → AnswersMadeRequest more x answer service
  answer_more x answer service is = record {
    asked = is.asked;
    was_made = still is.asked is.was_made;
    step = is.step;
    what = is.what;
    maker = is.maker;
    receiver = is.receiver;
    id = is.id;
    says = is.says;
  }

  each_more : (P : SentTransfer → Type 0) → ((x : SentTransfer) → In x made → P x) → ((offer : Offer) → In offer step_state.offers → offer.fitted ≡ true → P (made_by number t.me offer))
      → (x : SentTransfer) → In x more → P x
  each_more = each_made number t.me ids made holds.transfers past step_state.offers (laws.one t number event) ranges listed some

  pub answered_after : AreAnswered more
  answered_after = record {
    votes = λ x answer i what says. each_more (λ y. (a : Answer) → y.offer.what ≡ Vote → y.offer.says ≡ Some (Answers a) → AnswersMadeRequest more y a VoteQ)
        (λ y j a w s. answer_more y a VoteQ (holds.answered.votes y a j w s)) (λ offer j fits a w s. votes_new offer a j w s) x i answer what says;
    appends = λ x answer i what says. each_more (λ y. (a : Answer) → y.offer.what ≡ App → y.offer.says ≡ Some (Answers a) → AnswersMadeRequest more y a AppQ)
        (λ y j a w s. answer_more y a AppQ (holds.answered.appends y a j w s)) (λ offer j fits a w s. appends_new offer a j w s) x i answer what says;
  }

  -- ---- what it says

  pub said_after : AreSaid more (bag_with (messages number step_state) bag)
  said_after = record {
    carried = each_more (λ x. IsSaid x.step x.by x.offer.what x.offer.to x.offer.re x.offer.payload x.offer.says) holds.said.carried
        (λ offer i fits. laws.says t number event offer i);
    said = λ x message i is. each_more (λ y. (m : Message) → message_of y.step y.by y.offer ≡ Some m → In m (bag_with (messages number step_state) bag))
        (λ y j m e. still_posted (messages number step_state) bag m (holds.said.said y m j e))
        (λ offer j fits m e. newly_posted (messages number step_state) bag m
        (says_it number step_state.allocator.me step_state.offers offer m j fits (ap (λ (me : ℕ). message_of number me offer) (laws.me t number event) ∙ e)))
        x i message is;
  }

  -- ---- at work

  carrier_same : (b : Bool) → (if b then AppQ else VoteQ) ≡ carrier b
  carrier_same true = refl
  carrier_same false = refl

  pub called_after : AreCalled more step_state.allocator
  called_after peer request pending = by (laws.called t number event peer request pending) where
    by : StaysPending t step_state.allocator peer ⊎ calls.IsCalled number step_state peer request
        → (sending : Sending) × (step_state.allocator.times.sending peer ≡ Some sending) × IsCalled more step_state.allocator peer request sending (carrier request.append)
    by (inl stays) =
        let before = works.called peer request (sym stays.pending ∙ pending) in
        let is = before.2 in (
          before.0,
          stays.sending ∙ before.1,
          record {
            call = is.call;
            was_made = still is.call is.was_made;
            what = is.what;
            step = is.step;
            maker = is.maker ∙ sym (laws.me t number event);
            receiver = is.receiver;
            id = is.id;
            says = is.says;
          },
        )
    by (inr c) = (
      record { id = c.offer.id; moment = step_state.allocator.now },
      c.kept,
      record {
        call = made_by number t.me c.offer;
        was_made = newly_made number t.me step_state.offers made c.offer c.offered c.fitted;
        what = c.what ∙ carrier_same request.append;
        step = sym c.step;
        maker = sym (laws.me t number event);
        receiver = c.to;
        id = refl;
        says = c.says;
      },
    )

  pub queue_after : (frame : Queued) → In frame step_state.allocator.queue → IsPiece more t.me frame
  queue_after frame i = elim (in_append frame t.queue (all_frames_put number t.me step_state.offers) (subst (λ (q : List Queued). In frame q) (laws.queue t number event) i)) [
    | inl before ↦ piece_more made more still t.me frame (works.queue frame before)
    | inr put ↦
        let r = frame_put number t.me step_state.offers frame put in
        marked_frame frame_laws more (made_by number t.me r.0) (newly_made number t.me step_state.offers made r.0 r.1 r.2) frame r.3
  ]

  signed : (node : ℕ) (n : IsNamed t number event node) → (s : ℕ) × (first_signature rows Broadcast n.d.ident.number ≡ Some s)
  signed node n = subst (λ (k : Kind). (s : ℕ) × (first_signature rows k n.d.ident.number ≡ Some s)) n.discovery.kind (known n.d n.delivered).wants.1.signature

  is_390 : (node : ℕ) (n : IsNamed t number event node) → n.d.ident.number ≡ 390
  is_390 node n = discovery_number n.d.ident.number (signed node n).0 (signed node n).1 n.discovery.number

  named_source : (node : ℕ) (n : IsNamed t number event node) → WasMade made n.d
  named_source node n = (known n.d n.delivered).source (forged_discovery ids n.d.ident n.discovery.kind (is_390 node n))

  -- who is new on its list was named by a member's Discovery
  pub among_after : ((node : ℕ) → In node (members_of step_state.allocator) → In node (members_of t) ⊎ IsNamed t number event node)
      → (node : ℕ) → In node (members_of step_state.allocator) → In node ids
  among_after named node i = elim (named node i) [ inl before ↦ works.among node before | inr new ↦ by new (named_source node new) ] where
    by : (n : IsNamed t number event node) → WasMade made n.d → In node ids
    by n x = by_name n.names.named where
      is_discovery : x.0.offer.what ≡ Disc
      is_discovery = one_what x.0.offer.what Disc Broadcast 390 (x.2.kind ∙ n.discovery.kind) refl
          (x.2.number ∙ is_390 node n) refl

      by_name : (node ≡ n.d.ident.source) ⊎ Contains n.message.known.items node → In node ids
      by_name (inl e) = subst (λ (k : ℕ). In k ids) (x.2.by ∙ sym e) (holds.transfers.makers x.0 x.1)
      by_name (inr listed) = holds.discoveries x.0 n.message node x.1 is_discovery (ap discovery_of x.2.payload ∙ n.discovery.says)
          (contained n.message.known.items node listed)
