-- A member that calls another one, in a calm, as one that asks: what a row does to a call that is open.
use Rattle.std.proofs.Common.{◌≡◌, ◌≢◌, ℕ, ◌+◌, ◌*◌, ◌<◌, ◌≤◌, arith, List, [], ◌∷◌, max, refl, sym, ◌∙◌, ap, subst, inl, inr, Some}
use Rattle.std.specs.Prelude.{◌⊎◌}
use Rattle.can_frame.specs.declared.identifier.Kind.TheVariants.{Response}
use Rattle.can_frame.specs.declared.step.What.TheVariants.{AppQ}
use Rattle.raft_core.specs.Times.{Sending}
use Rattle.raft_model.specs.Lists.{In}
use Rattle.raft_model.specs.Messages.{Request}
use Rattle.raft_model.specs.Messages.Message.{Requests}
use Rattle.raft_model.specs.Server.{Role}
use Rattle.raft_model.specs.Server.Role.{Candidate, Leader}
use Rattle.bus_rows.specs.declared.row.Row.TheVariants.{Rx}
use Rattle.transfer_rx.specs.Reassembly.{Delivery, Gives, answer}
use Rattle.alloc_spec.specs.Accepted.{setting_for}
use Rattle.alloc_spec.specs.AllocatorState.{AllocatorState, members_of}
use Rattle.alloc_spec.specs.Step.{Event, moment_of, step}
use Rattle.alloc_spec.specs.Transfers.{Offer}
use Rattle.alloc_spec_laws.specs.Apart.{AreAllApart}
use Rattle.service_candidate.specs.Votes.{Stands}
use Rattle.service_candidate.proofs.RowsLeave.{IsLeft}
use Rattle.service_leader.specs.CallsAsk.{AsksNext, CallsAskNext, next_request}
use Rattle.service_leader.specs.Entries.{CanExchange}
use Rattle.service_leader.proofs.CallsExchange.{calling as calling_of}
use Rattle.service_leader.proofs.RowsOfOne.{stepped_up}
use Rattle.service_elections.proofs.LearnsChain.{AllTurns, NoAnswer, Turn}
use Rattle.service_leader.proofs.Exchange.{Exchange}
use Rattle.service_elections.proofs.LearnsPends.{IsNext, Still, pends_at_frame, pends_at_tick}
use Rattle.service_elections.proofs.LearnsRows.{Known, clock_then, its_moment, left, receipt_at, since_then, stands_then, step_at, stood_then, tick_at}
use Rattle.service_elections.proofs.LearnsTakes.{WaitsForAppend}
use Rattle.service_calm.specs.Calls.{Lists}
use Rattle.service_calm.specs.Calm.{AreCalm, Member as OfMember, Party, Traffic, traffic_after}
use Rattle.service_calm.specs.Comes.{Sends, sent_by}
use Rattle.service_calm.proofs.Calls.{lists_on}
use Rattle.service_calm.proofs.Counting.{now_after}
use Rattle.service_calm.proofs.Group.{AreWell, CalmLaws, IsWell, well_after}
use Rattle.service_calm.proofs.Pair.{same_server}
use Rattle.service_calm.proofs.Pending.{Made}
use Rattle.bus_rows.specs.Timed.{Timed, rows_in}
use Rattle.service_alone.specs.Calm.{Pace}
use Rattle.bus_spec.specs.Cluster.{Cluster, after_row, arrival_at, frame_at, receipt_of, tick_of}
use Rattle.bus_spec.specs.Lawful.{DoNoHarm}
use Rattle.bus_spec.specs.Members.MemberStatus.{Up}

one_id : (a b : Sending) → Some a ≡ Some b → a.id ≡ b.id
one_id a b e = ap (λ (s : Sending). s.id) (the_same e)
  where
    the_same : Some a ≡ Some b → a ≡ b
    the_same f = cc f

pub no_leader : (role : Role) → role ≡ Leader → role ≢ Candidate
no_leader role e f = cc (sym e ∙ f)

module _ (laws : CalmLaws) (apart_offers : (t : AllocatorState) (number : ℕ) (event : Event) → AreAllApart (step t number event).step_state.offers)
    (stay : (t : AllocatorState) (number : ℕ) (event : Event) (node : ℕ) → In node (members_of t) → In node (members_of (step t number event).step_state.allocator))
    (ask : CallsAskNext) (group : List Party) (clocks : Party → ℕ) (pace : Pace)
    (nodes : (p : ℕ) → In (OfMember p) group → (1 ≤ p) × (p ≤ 125)) (n m : ℕ) (in_n : In (OfMember n) group) (in_m : In (OfMember m) group) (apart : n ≢ m)
    (quick : 4 * pace.delay < 1000) (first_w : Cluster) (whole : List Timed) (can : CanExchange n m first_w whole) where
  -- the two
  abbrev calling : Exchange
  calling = calling_of laws apart_offers stay group clocks pace nodes n m in_n in_m apart quick first_w whole can

  -- A call is open: the caller is no candidate, and waits for the answer to the request that the call says.
  abbrev pub Called : Made → AllocatorState → Type 0
  Called z t = (t.raft_server.memory.role ≢ Candidate)
      × ((request : Request) × WaitsForAppend m z.transfer.offer.id (z.at + clocks (OfMember n)) request t × (z.transfer.offer.says ≡ Some (Requests request)))

  -- ---- a row

  module _ (traffic : Traffic) (w : Cluster) (timed : Timed) (known : Known group clocks pace n m traffic w timed) where
    abbrev number : ℕ
    number = w.rows + 1

    module _ (z : Made) (t u : AllocatorState) (same : known.t ≡ t) (up : (w.member n).status ≡ Up t) (up_then : ((after_row w timed.row).member n).status ≡ Up u)
        (role : t.raft_server.memory.role ≢ Candidate) (request : Request) (waits : WaitsForAppend m z.transfer.offer.id (z.at + clocks (OfMember n)) request t)
        (says : z.transfer.offer.says ≡ Some (Requests request)) (late : timed.at ≤ z.at + 4 * pace.delay) (none : NoAnswer calling Called z.transfer.offer.id w timed.row t) where
      abbrev sending : Sending
      sending = record { id = z.transfer.offer.id; moment = z.at + clocks (OfMember n) }

      abbrev Holds : (Role → ℕ → Type 0) → AllocatorState → Type 0
      Holds New a = Still number m New request sending a.me a.raft_server a.times a.now

      abbrev After : Type 0
      After = Called z u ⊎ ((term : ℕ) × Stands n term w timed.row)

      still_called : (event : Event) → u ≡ (step t number event).step_state.allocator
          → (u.raft_server.memory.role ≢ Candidate) × (u.raft_server.memory.pending m ≡ Some request) × (u.times.sending m ≡ Some sending) → After
      still_called event is h = inl (
        h.0,
        (
          request,
          record {
            listed = subst (λ (a : AllocatorState). In m (members_of a)) (sym is) (stay t number event m waits.listed);
            append = waits.append;
            pending = h.1;
            kept = h.2;
          },
          says,
        ),
      )

      soon : (ms : ℕ) → max t.now ms ≡ its_moment group clocks pace n m traffic w timed known u up_then → max t.now ms < sending.moment + 1000
      soon ms e = omega (arith, e, late, quick)

      none_delivered : t.me ≡ n → (k ms : ℕ) → timed.row ≡ Rx n k ms → (d : Delivery)
          → answer (setting_for t.me) t.sessions (arrival_at (frame_at w.frames k) (max t.now ms)) ≡ Gives d
          → d.ident.kind ≡ Response → d.ident.number ≡ 30 → d.ident.source ≡ m → z.transfer.offer.id ≡ d.id → ⊥
      none_delivered me k ms comes d gives kind thirty source id = none k ms comes d
          (λ i. record { kind = kind i; number = thirty i; source = source i })
          (subst (λ (p : ℕ). answer (setting_for p) t.sessions (arrival_at (frame_at w.frames k) (max t.now ms)) ≡ Gives d) me gives) (sym id)

      open_then : After
      open_then = elim (subst (λ (s : AllocatorState). IsLeft w n timed.row s u) same (left group clocks pace n m traffic w timed known u up_then)) [
        | inl x ↦ elim (subst (Holds (IsNext t.raft_server.store.term)) (sym x.is) (pends_at_tick t number m request sending waits.append role waits.pending waits.kept x.ms x.word
            (soon x.ms (ap (λ (s : AllocatorState). max s.now x.ms) (sym same) ∙ tick_at group clocks pace n m traffic w timed known u up_then x.ms x.word x.reads)))) [
              | inl h ↦ still_called (tick_of x.ms x.word) x.is h
              | inr higher ↦ inr (stands_then group clocks pace n m traffic w timed known u up_then x.ms x.word x.reads
                  (x.is ∙ ap (λ (s : AllocatorState). (step s number (tick_of x.ms x.word)).step_state.allocator) (sym same))
                  (higher ∙ ap (λ (s : AllocatorState). s.raft_server.store.term + 1) (sym same)))
            ]
        | inr (inl x) ↦ elim (subst (Holds (λ its_role term. ⊥)) (sym x.is) (pends_at_frame t number m request sending waits.append role waits.pending waits.kept
            (arrival_at (frame_at w.frames x.k) x.ms)
            (soon x.ms (ap (λ (s : AllocatorState). max s.now x.ms) (sym same) ∙ receipt_at group clocks pace n m traffic w timed known u up_then x.k x.ms x.comes))
            (none_delivered (ap (λ (s : AllocatorState). s.me) (sym same) ∙ known.me) x.k x.ms x.comes))) [
              | inl h ↦ still_called (receipt_of w x.k x.ms) x.is h
              | inr never ↦ absurd never
            ]
        | inr (inr (inl e)) ↦ inl (subst (Called z) (sym e) (role, (request, waits, says)))
        | inr (inr (inr e)) ↦ inl (subst (Called z) (sym e)
            (role, (request, record { listed = waits.listed; append = waits.append; pending = waits.pending; kept = waits.kept }, says)))
      ]

    -- ---- a call that is sent

    module _ (offer : Offer) (sends : Sends n w timed.row offer) (what : offer.what ≡ AppQ) (to : offer.to ≡ m) (u : AllocatorState)
        (up_then : ((after_row w timed.row).member n).status ≡ Up u) where
      abbrev after : AllocatorState
      after = (step sends.server number sends.event).step_state.allocator

      same : known.t ≡ sends.server
      same = same_server known.t sends.server (sym known.up ∙ sends.runs)

      after_is : after ≡ u
      after_is = same_server after u (sym (stepped_up w n sends.server (record { status = sends.runs; quiet = known.quiet }) timed.row sends.event sends.in_step).status ∙ up_then)

      asks_it : AsksNext m number offer after
      asks_it = ask sends.server number sends.event m offer sends.offered what to sends.fitted

      moment : after.now ≡ timed.at + clocks (OfMember n)
      moment = now_after sends.server number sends.event ∙ (ap (λ (s : AllocatorState). max s.now (moment_of sends.event)) (sym same)
          ∙ step_at group clocks pace n m traffic w timed known u up_then sends.event sends.in_step)

      opened : Called (record { at = timed.at; transfer = sent_by n w offer }) after
      opened = (
        no_leader after.raft_server.memory.role asks_it.leads,
        (
          next_request m number after,
          record {
            listed = stay sends.server number sends.event m (subst (λ (s : AllocatorState). In m (members_of s)) same known.listed);
            append = refl;
            pending = asks_it.pending;
            kept = asks_it.kept ∙ (λ i. Some (record { id = offer.id; moment = moment i }));
          },
          asks_it.says,
        ),
      )

      alone : (z : Made) → Called z after → z.transfer.offer.id ≡ offer.id
      alone z called = one_id (record { id = z.transfer.offer.id; moment = z.at + clocks (OfMember n) }) (record { id = offer.id; moment = after.now })
          (sym called.1.1.kept ∙ asks_it.kept)

      opens : Called (record { at = timed.at; transfer = sent_by n w offer }) u × ((z : Made) → Called z u → z.transfer.offer.id ≡ offer.id)
      opens = subst (λ (s : AllocatorState). Called (record { at = timed.at; transfer = sent_by n w offer }) s
          × ((z : Made) → Called z s → z.transfer.offer.id ≡ offer.id)) after_is (opened, alone)

    turn : Turn calling Called w timed
    turn = record {
      clock = λ t up. let e = ap (λ (s : AllocatorState). s.now) (same_server known.t t (sym known.up ∙ up)) in let c = known.clock in let l = known.later in omega (arith, e, c, l);
      since = λ t u up up_then. subst (λ (s : AllocatorState). (u.times.since ≡ s.times.since) ⊎ (timed.at + clocks (OfMember n) ≤ u.times.since))
          (same_server known.t t (sym known.up ∙ up)) (since_then group clocks pace n m traffic w timed known u up_then);
      stood = λ term s t u up up_then. subst (λ (s : AllocatorState). (s.times.since + 2000 ≤ timed.at + clocks (OfMember n)) × (timed.at + clocks (OfMember n) ≤ u.times.since))
          (same_server known.t t (sym known.up ∙ up)) (stood_then group clocks pace n m traffic w timed known u up_then term s);
      stays = λ z t u up up_then called late none.
          open_then z t u (same_server known.t t (sym known.up ∙ up)) up up_then called.0 called.1.0 called.1.1 called.1.2 late none;
      opens = opens;
    }

  -- ---- the rows of a calm

  pub all_turns : (rows : List Timed) (traffic : Traffic) (w : Cluster) → AreCalm group clocks pace traffic w rows → AreWell group w → DoNoHarm w (rows_in rows) → Lists n m w
      → ((t : AllocatorState) → (w.member n).status ≡ Up t → t.now ≤ traffic.at + clocks (OfMember n)) → AllTurns calling Called w rows
  all_turns [] traffic w calm are harm lists clock = tt
  all_turns (timed ∷ rest) traffic w calm are harm lists clock = (
    turn traffic w timed known,
    all_turns rest (traffic_after traffic w timed) (after_row w timed.row) calm.2 (well_after laws group nodes w are clocks pace traffic timed.at timed.row calm.1) harm.1
        (lists_on stay m group clocks pace traffic n (timed ∷ []) rest w
        (record { server = its.server; runs = its.up.status; faults = its.up.quiet.faults; disk = its.up.quiet.calls }) calm lists)
        (λ u up_then. clock_then group clocks pace n m traffic w timed known u up_then),
  )
    where
      its : IsWell n (w.member n)
      its = are.members n in_n

      known : Known group clocks pace n m traffic w timed
      known = record {
        calm = calm.1;
        later = calm.0.moments;
        harm = harm.0;
        t = its.server;
        up = its.up.status;
        quiet = its.up.quiet;
        me = its.its.me;
        clock = clock its.server its.up.status;
        listed = lists its.server its.up.status;
        other = λ e. apart (sym e);
      }
