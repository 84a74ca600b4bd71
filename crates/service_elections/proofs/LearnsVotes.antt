-- A member that asks another one for its vote, in a calm: what a row does to a vote request that is open.
use Rattle.std.proofs.Common.{◌≡◌, ◌≢◌, ℕ, ◌+◌, ◌*◌, ◌<◌, ◌≤◌, arith, List, [], ◌∷◌, ◌++◌, max, sym, ◌∙◌, ap, subst, inl, inr, Some}
use Rattle.std.specs.Prelude.{⊤, ◌⊎◌}
use Rattle.can_frame.specs.declared.identifier.Kind.TheVariants.{Response}
use Rattle.can_frame.specs.declared.step.What.TheVariants.{VoteQ}
use Rattle.raft_core.specs.Times.{Sending}
use Rattle.raft_model.specs.Lists.{In}
use Rattle.raft_model.specs.Messages.{Request}
use Rattle.raft_model.specs.Server.{Role}
use Rattle.raft_model.specs.Server.Role.{Candidate, Leader}
use Rattle.bus_rows.specs.declared.row.Row.TheVariants.{Rx, Tick}
use Rattle.transfer_rx.specs.Reassembly.{Delivery, Gives, answer}
use Rattle.alloc_spec.specs.Accepted.{rows, setting_for}
use Rattle.alloc_spec.specs.AllocatorState.{AllocatorState, members_of}
use Rattle.alloc_spec.specs.Step.{Event, moment_of, step}
use Rattle.alloc_spec.specs.Transfers.{Offer}
use Rattle.alloc_spec_laws.specs.Apart.{AreAllApart}
use Rattle.service_candidate.specs.Votes.{Stands}
use Rattle.service_candidate.proofs.RowsLeave.{IsLeft}
use Rattle.service_leader.specs.CallsComeBack.{LeadsNotIfUp}
use Rattle.service_leader.proofs.RowsOfOne.{stepped_up}
use Rattle.service_elections.proofs.LearnsBack.{StandsNot, Stays}
use Rattle.service_elections.proofs.LearnsChain.{AllTurns, NoAnswer, Turn}
use Rattle.service_leader.proofs.Exchange.{Exchange}
use Rattle.service_elections.proofs.LearnsRows.{Known, clock_then, its_moment, left, receipt_at, since_then, stands_then, step_at, stood_then, tick_at}
use Rattle.service_calm.specs.Calls.{Lists}
use Rattle.service_calm.specs.Calm.{AreCalm, Member as OfMember, Party, Traffic, traffic_after}
use Rattle.service_calm.specs.Comes.{Sends, sent_by}
use Rattle.service_calm.proofs.Calls.{lists_on}
use Rattle.service_calm.proofs.Counting.{now_after}
use Rattle.service_calm.proofs.Group.{AreWell, CalmLaws, IsWell, well_after}
use Rattle.service_calm.proofs.Pair.{same_server}
use Rattle.service_calm.proofs.Pending.{Made}
use Rattle.bus_rows.specs.Timed.{Timed, rows_in}
use Rattle.service_alone.specs.Calm.{Pace}
use Rattle.bus_spec.specs.Cluster.{Cluster, after_row, after_rows, arrival_at, frame_at, receipt_of, tick_of}
use Rattle.bus_spec.specs.Lawful.{DoNoHarm}
use Rattle.bus_spec.specs.Members.MemberStatus.{Up}
use Rattle.std.proofs.lemmas.Bool.Decides.{eqb_tells}
use Rattle.can_frame.specs.declared.identifier.Ident.{Ident}
use Rattle.can_frame.specs.declared.identifier.Kind.{Kind}
use Rattle.transfer_rx.specs.Acceptance.{first_signature}
use Rattle.transfer_rx.specs.Sound.{IsDelivered}
use Rattle.bus_agreement.proofs.Idents.{wanted_is}
use Rattle.service_candidate.specs.Votes.{CanAsk, VoteAnswersAsSaid, VotesAreAnswered, WaitsForVote}
use Rattle.service_candidate.proofs.VotesAsked.{voting}
use Rattle.service_candidate.proofs.VotesPend.{IsNext, Still, pends_at_frame, pends_at_tick}
use Rattle.service_candidate.proofs.WaitsTicks.{tick_leaves}
use Rattle.service_elections.proofs.LearnsAsks.{IsAskedNow, asked_now}
use Rattle.service_elections.proofs.LearnsCalls.{no_leader}
use Rattle.service_elections.proofs.LearnsRoles.{none_at_frame}

one_id : (a b : Sending) → Some a ≡ Some b → a.id ≡ b.id
one_id a b e = ap (λ (s : Sending). s.id) (the_same e)
  where
    the_same : Some a ≡ Some b → a ≡ b
    the_same f = cc f

-- the response that is neither of the two others is a vote
vote_number : (number s : ℕ) → first_signature rows Response number ≡ Some s → number ≢ 1 → number ≢ 30 → number ≡ 31
unfolding rows
vote_number number s e one thirty = elim (eqb_tells 1 number) [
  | inl same ↦ absurd (one (sym same.1))
  | inr first ↦ elim (eqb_tells 30 number) [
    | inl same ↦ absurd (thirty (sym same.1))
    | inr second ↦ elim (eqb_tells 31 number) [
      | inl same ↦ sym same.1
      | inr third ↦ absurd (cc (rw (first.0, second.0, third.0) at e))
    ]
  ]
]

-- by this moment, behind none of these rows member n leads
abbrev pub LeadsNotBy : (n last : ℕ) → Cluster → List Timed → Type 0
LeadsNotBy n last w [] = ⊤
LeadsNotBy n last w (timed ∷ rest) = (timed.at ≤ last → LeadsNotIfUp n (after_row w timed.row)) × LeadsNotBy n last (after_row w timed.row) rest

-- a delay of which four are quick enough is short enough
pub twice_quick : (delay : ℕ) → 4 * delay < 1000 → 2 * delay ≤ 2000
twice_quick delay quick = omega (arith, quick)

module _ (laws : CalmLaws) (apart_offers : (t : AllocatorState) (number : ℕ) (event : Event) → AreAllApart (step t number event).step_state.offers)
    (stay : (t : AllocatorState) (number : ℕ) (event : Event) (node : ℕ) → In node (members_of t) → In node (members_of (step t number event).step_state.allocator))
    (votes_answered : VotesAreAnswered) (group : List Party) (clocks : Party → ℕ) (pace : Pace)
    (nodes : (p : ℕ) → In (OfMember p) group → (1 ≤ p) × (p ≤ 125)) (n m : ℕ) (in_n : In (OfMember n) group) (in_m : In (OfMember m) group) (apart : n ≢ m)
    (quick : 4 * pace.delay < 1000) (first_w : Cluster) (whole : List Timed) (can : CanAsk n m first_w whole) where
  -- the two
  abbrev pub asking : Exchange
  asking = voting laws apart_offers stay votes_answered VoteAnswersAsSaid group clocks pace nodes n m in_n in_m apart (twice_quick pace.delay quick) first_w whole can

  -- who asked waits for the answer
  abbrev pub Waiting : Made → AllocatorState → Type 0
  Waiting z t = (request : Request) × WaitsForVote m z.transfer.offer.id (z.at + clocks (OfMember n)) request t

  -- A vote request is open: who asked waits for the answer, or is no candidate.
  abbrev pub Asked : Made → AllocatorState → Type 0
  Asked z t = (t.raft_server.memory.role ≢ Candidate) ⊎ Waiting z t

  -- What a row does to who waits for a vote: it waits on until the answer comes, unless it leads or stands. Who asks in
  -- the row waits behind it.
  pub record Step (w : Cluster) (timed : Timed) : Type 0 where
    pub goes : (z : Made) (t u : AllocatorState) → (w.member n).status ≡ Up t → ((after_row w timed.row).member n).status ≡ Up u → Waiting z t
        → timed.at ≤ z.at + 4 * pace.delay → NoAnswer asking Asked z.transfer.offer.id w timed.row t
        → Waiting z u ⊎ ((u.raft_server.memory.role ≡ Leader) ⊎ ((term : ℕ) × Stands n term w timed.row))
    pub waits : (offer : Offer) → Sends n w timed.row offer → offer.what ≡ VoteQ → offer.to ≡ m → (u : AllocatorState)
        → ((after_row w timed.row).member n).status ≡ Up u → Waiting (record { at = timed.at; transfer = sent_by n w offer }) u

  abbrev pub AllSteps : Cluster → List Timed → Type 0
  AllSteps w [] = ⊤
  AllSteps w (timed ∷ rest) = Step w timed × AllSteps (after_row w timed.row) rest

  -- ---- a row

  module _ (traffic : Traffic) (w : Cluster) (timed : Timed) (known : Known group clocks pace n m traffic w timed) where
    abbrev number : ℕ
    number = w.rows + 1

    module _ (t u : AllocatorState) (same : known.t ≡ t) (up : (w.member n).status ≡ Up t) (up_then : ((after_row w timed.row).member n).status ≡ Up u) where
      left_of : IsLeft w n timed.row t u
      left_of = subst (λ (s : AllocatorState). IsLeft w n timed.row s u) same (left group clocks pace n m traffic w timed known u up_then)

      -- a tick at which the term rises is one at which it stands
      stands_at_tick : (ms word : ℕ) → timed.row ≡ Tick n ms word → u ≡ (step t number (tick_of ms word)).step_state.allocator
          → u.raft_server.store.term ≡ t.raft_server.store.term + 1 → (term : ℕ) × Stands n term w timed.row
      stands_at_tick ms word reads is higher = stands_then group clocks pace n m traffic w timed known u up_then ms word reads
          (is ∙ ap (λ (s : AllocatorState). (step s number (tick_of ms word)).step_state.allocator) (sym same))
          (higher ∙ ap (λ (s : AllocatorState). s.raft_server.store.term + 1) (sym same))

      -- who is no candidate becomes none, or it stands
      none_then : t.raft_server.memory.role ≢ Candidate → (u.raft_server.memory.role ≢ Candidate) ⊎ ((term : ℕ) × Stands n term w timed.row)
      none_then none = elim left_of [
        | inl x ↦ elim (tick_leaves t number x.ms x.word) [
          | inl as_was ↦ inl (λ e. none (sym (ap (λ (s : AllocatorState). s.raft_server.memory.role) x.is ∙ as_was.4) ∙ e))
          | inr stood ↦ inr (stands_at_tick x.ms x.word x.reads x.is (ap (λ (s : AllocatorState). s.raft_server.store.term) x.is ∙ stood.2))
        ]
        | inr (inl x) ↦ inl (λ e. none_at_frame t number (arrival_at (frame_at w.frames x.k) x.ms) none (sym (ap (λ (s : AllocatorState). s.raft_server.memory.role) x.is) ∙ e))
        | inr (inr (inl e)) ↦ inl (λ f. none (sym (ap (λ (s : AllocatorState). s.raft_server.memory.role) e) ∙ f))
        | inr (inr (inr e)) ↦ inl (λ f. none (sym (ap (λ (s : AllocatorState). s.raft_server.memory.role) e) ∙ f))
      ]

      module _ (z : Made) (request : Request) (waits : WaitsForVote m z.transfer.offer.id (z.at + clocks (OfMember n)) request t)
          (late : timed.at ≤ z.at + 4 * pace.delay) (none : NoAnswer asking Asked z.transfer.offer.id w timed.row t) where
        abbrev sending : Sending
        sending = record { id = z.transfer.offer.id; moment = z.at + clocks (OfMember n) }

        abbrev Holds : (Role → ℕ → Type 0) → AllocatorState → Type 0
        Holds New a = Still number m New request sending a.me a.raft_server a.times a.now

        abbrev After : Type 0
        After = Waiting z u ⊎ ((u.raft_server.memory.role ≡ Leader) ⊎ ((term : ℕ) × Stands n term w timed.row))

        still_asked : (event : Event) → u ≡ (step t number event).step_state.allocator
            → (u.raft_server.memory.pending m ≡ Some request) × (u.times.sending m ≡ Some sending) → After
        still_asked event is h = inl (
          request,
          record {
            listed = subst (λ (a : AllocatorState). In m (members_of a)) (sym is) (stay t number event m waits.listed);
            vote = waits.vote;
            pending = h.0;
            kept = h.1;
          },
        )

        soon : (ms : ℕ) → max t.now ms ≡ its_moment group clocks pace n m traffic w timed known u up_then → max t.now ms < sending.moment + 1000
        soon ms e = omega (arith, e, late, quick)

        none_delivered : t.me ≡ n → (k ms : ℕ) → timed.row ≡ Rx n k ms → (d : Delivery)
            → answer (setting_for t.me) t.sessions (arrival_at (frame_at w.frames k) (max t.now ms)) ≡ Gives d
            → d.ident.kind ≡ Response → d.ident.number ≢ 1 → d.ident.number ≢ 30 → d.ident.source ≡ m → z.transfer.offer.id ≡ d.id → ⊥
        none_delivered me k ms comes d gives kind one thirty source id = none k ms comes d
            (λ i. record { kind = kind i; number = vote_number d.ident.number signature.0 signature.1 one thirty i; source = source i })
            (subst (λ (p : ℕ). answer (setting_for p) t.sessions (arrival_at (frame_at w.frames k) (max t.now ms)) ≡ Gives d) me gives) (sym id)
          where
            its : IsDelivered (setting_for t.me) t.sessions (arrival_at (frame_at w.frames k) (max t.now ms)) d
            its = laws.frame.delivered (setting_for t.me) t.sessions (arrival_at (frame_at w.frames k) (max t.now ms)) d gives

            signature : (s : ℕ) × (first_signature rows Response d.ident.number ≡ Some s)
            signature =
                let found = (wanted_is rows t.me (frame_at w.frames k).id its.w its.accepted).signature in (
                  found.0,
                  subst (λ (its_kind : Kind). first_signature rows its_kind d.ident.number ≡ Some found.0) kind
                      (subst (λ (i : Ident). first_signature rows i.kind i.number ≡ Some found.0) (sym its.ident) found.1),
                )

        open_then : After
        open_then = elim left_of [
          | inl x ↦ elim (subst (Holds (IsNext t.raft_server.store.term)) (sym x.is) (pends_at_tick t number m request sending waits.vote waits.pending waits.kept x.ms x.word
              (soon x.ms (ap (λ (s : AllocatorState). max s.now x.ms) (sym same) ∙ tick_at group clocks pace n m traffic w timed known u up_then x.ms x.word x.reads)))) [
                | inl h ↦ still_asked (tick_of x.ms x.word) x.is h
                | inr (inl leads) ↦ inr (inl leads)
                | inr (inr stood) ↦ inr (inr (stands_at_tick x.ms x.word x.reads x.is stood.1))
              ]
          | inr (inl x) ↦ elim (subst (Holds (λ its_role term. ⊥)) (sym x.is) (pends_at_frame t number m request sending waits.vote waits.pending waits.kept
              (arrival_at (frame_at w.frames x.k) x.ms)
              (soon x.ms (ap (λ (s : AllocatorState). max s.now x.ms) (sym same) ∙ receipt_at group clocks pace n m traffic w timed known u up_then x.k x.ms x.comes))
              (none_delivered (ap (λ (s : AllocatorState). s.me) (sym same) ∙ known.me) x.k x.ms x.comes))) [
                | inl h ↦ still_asked (receipt_of w x.k x.ms) x.is h
                | inr (inl leads) ↦ inr (inl leads)
                | inr (inr never) ↦ absurd never
              ]
          | inr (inr (inl e)) ↦ inl (subst (Waiting z) (sym e) (request, waits))
          | inr (inr (inr e)) ↦ inl (subst (Waiting z) (sym e)
              (request, record { listed = waits.listed; vote = waits.vote; pending = waits.pending; kept = waits.kept }))
        ]

    stays_asked : (z : Made) (t u : AllocatorState) (same : known.t ≡ t) (up : (w.member n).status ≡ Up t) (up_then : ((after_row w timed.row).member n).status ≡ Up u)
        → Asked z t → timed.at ≤ z.at + 4 * pace.delay → NoAnswer asking Asked z.transfer.offer.id w timed.row t → Asked z u ⊎ ((term : ℕ) × Stands n term w timed.row)
    stays_asked z t u same up up_then (inl role) late none = elim (none_then t u same up up_then role) [ inl k ↦ inl (inl k) | inr s ↦ inr s ]
    stays_asked z t u same up up_then (inr waits) late none = elim (open_then t u same up up_then z waits.0 waits.1 late none) [
      | inl k ↦ inl (inr k)
      | inr (inl leads) ↦ inl (inl (no_leader u.raft_server.memory.role leads))
      | inr (inr s) ↦ inr s
    ]

    -- ---- a vote request that is sent

    module _ (offer : Offer) (sends : Sends n w timed.row offer) (what : offer.what ≡ VoteQ) (to : offer.to ≡ m) (u : AllocatorState)
        (up_then : ((after_row w timed.row).member n).status ≡ Up u) where
      abbrev after : AllocatorState
      after = (step sends.server number sends.event).step_state.allocator

      same : known.t ≡ sends.server
      same = same_server known.t sends.server (sym known.up ∙ sends.runs)

      after_is : after ≡ u
      after_is = same_server after u (sym (stepped_up w n sends.server (record { status = sends.runs; quiet = known.quiet }) timed.row sends.event sends.in_step).status ∙ up_then)

      asks_it : IsAskedNow m offer after
      asks_it = asked_now apart_offers sends.server number sends.event m offer sends.offered what to sends.fitted

      moment : after.now ≡ timed.at + clocks (OfMember n)
      moment = now_after sends.server number sends.event ∙ (ap (λ (s : AllocatorState). max s.now (moment_of sends.event)) (sym same)
          ∙ step_at group clocks pace n m traffic w timed known u up_then sends.event sends.in_step)

      waiting : Waiting (record { at = timed.at; transfer = sent_by n w offer }) after
      waiting = (
        asks_it.asked,
        record {
          listed = stay sends.server number sends.event m (subst (λ (s : AllocatorState). In m (members_of s)) same known.listed);
          vote = asks_it.vote;
          pending = asks_it.pending;
          kept = asks_it.kept ∙ (λ i. Some (record { id = offer.id; moment = moment i }));
        },
      )

      alone : (z : Made) → Asked z after → z.transfer.offer.id ≡ offer.id
      alone z (inl none) = absurd (none asks_it.stands)
      alone z (inr waits) = one_id (record { id = z.transfer.offer.id; moment = z.at + clocks (OfMember n) }) (record { id = offer.id; moment = after.now })
          (sym waits.1.kept ∙ asks_it.kept)

      opens : Asked (record { at = timed.at; transfer = sent_by n w offer }) u × ((z : Made) → Asked z u → z.transfer.offer.id ≡ offer.id)
      opens = subst (λ (s : AllocatorState). Asked (record { at = timed.at; transfer = sent_by n w offer }) s
          × ((z : Made) → Asked z s → z.transfer.offer.id ≡ offer.id)) after_is (inr waiting, alone)

      waits : Waiting (record { at = timed.at; transfer = sent_by n w offer }) u
      waits = subst (Waiting (record { at = timed.at; transfer = sent_by n w offer })) after_is waiting

    turn : Turn asking Asked w timed
    turn = record {
      clock = λ t up. let e = ap (λ (s : AllocatorState). s.now) (same_server known.t t (sym known.up ∙ up)) in let c = known.clock in let l = known.later in omega (arith, e, c, l);
      since = λ t u up up_then. subst (λ (s : AllocatorState). (u.times.since ≡ s.times.since) ⊎ (timed.at + clocks (OfMember n) ≤ u.times.since))
          (same_server known.t t (sym known.up ∙ up)) (since_then group clocks pace n m traffic w timed known u up_then);
      stood = λ term s t u up up_then. subst (λ (s : AllocatorState). (s.times.since + 2000 ≤ timed.at + clocks (OfMember n)) × (timed.at + clocks (OfMember n) ≤ u.times.since))
          (same_server known.t t (sym known.up ∙ up)) (stood_then group clocks pace n m traffic w timed known u up_then term s);
      stays = λ z t u up up_then opened_then late none. stays_asked z t u (same_server known.t t (sym known.up ∙ up)) up up_then opened_then late none;
      opens = opens;
    }

    its_step : Step w timed
    its_step = record {
      goes = λ z t u up up_then waiting late none. open_then t u (same_server known.t t (sym known.up ∙ up)) up up_then z waiting.0 waiting.1 late none;
      waits = waits;
    }

  -- ---- the rows of a calm

  pub all_turns : (its_rows : List Timed) (traffic : Traffic) (w : Cluster) → AreCalm group clocks pace traffic w its_rows → AreWell group w → DoNoHarm w (rows_in its_rows)
      → Lists n m w → ((t : AllocatorState) → (w.member n).status ≡ Up t → t.now ≤ traffic.at + clocks (OfMember n)) → AllTurns asking Asked w its_rows × AllSteps w its_rows
  all_turns [] traffic w calm are harm lists clock = (tt, tt)
  all_turns (timed ∷ rest) traffic w calm are harm lists clock =
      let more = all_turns rest (traffic_after traffic w timed) (after_row w timed.row) calm.2 (well_after laws group nodes w are clocks pace traffic timed.at timed.row calm.1) harm.1
      (lists_on stay m group clocks pace traffic n (timed ∷ []) rest w
      (record { server = its.server; runs = its.up.status; faults = its.up.quiet.faults; disk = its.up.quiet.calls }) calm lists)
      (λ u up_then. clock_then group clocks pace n m traffic w timed known u up_then) in
      ((turn traffic w timed known, more.0), (its_step traffic w timed known, more.1))
    where
      its : IsWell n (w.member n)
      its = are.members n in_n

      known : Known group clocks pace n m traffic w timed
      known = record {
        calm = calm.1;
        later = calm.0.moments;
        harm = harm.0;
        t = its.server;
        up = its.up.status;
        quiet = its.up.quiet;
        me = its.its.me;
        clock = clock its.server its.up.status;
        listed = lists its.server its.up.status;
        other = λ e. apart (sym e);
      }

  -- what is given of rows behind the first ones
  pub steps_on : (front rest : List Timed) (w : Cluster) → AllSteps w (front ++ rest) → AllSteps (after_rows w (rows_in front)) rest
  steps_on [] rest w steps = steps
  steps_on (timed ∷ front) rest w steps = steps_on front rest (after_row w timed.row) steps.1

  -- who waits, waits on where it neither leads nor stands
  pub waits_on : (x : Made) (rest later : List Timed) (w : Cluster) → AllSteps w (rest ++ later) → StandsNot n w rest → LeadsNotBy n (x.at + 4 * pace.delay) w rest
      → Stays asking Asked Waiting quick x w rest
  waits_on x [] later w steps nobody none = tt
  waits_on x (timed ∷ rest) later w steps nobody none = (
    λ t u up up_then waiting late no_answer. elim (steps.0.goes x t u up up_then waiting late no_answer) [
      | inl k ↦ k
      | inr (inl leads) ↦ absurd (none.0 late u up_then leads)
      | inr (inr s) ↦ absurd (nobody.0 s.0 s.1)
    ],
    waits_on x rest later (after_row w timed.row) steps.1 nobody.1 none.1,
  )
