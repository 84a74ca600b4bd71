-- A leader's call comes back: the member that it calls answers, and the leader, which waits until then, takes the answer.
use Rattle.std.proofs.Common.{◌≡◌, ℕ, ◌+◌, ◌*◌, ◌<◌, ◌≤◌, arith, List, [], ◌∷◌, ◌++◌, append_assoc, max, refl, sym, ◌∙◌, ap, subst, inl, inr, Some}
use Rattle.std.specs.Prelude.{⊤}
use Rattle.dsdl_codec.specs.declared.append_request.AppendRequest.{AppendRequest}
use Rattle.dsdl_codec.specs.AppendAnswer.{append_answer_of}
use Rattle.dsdl_codec.specs.AppendRequest.{append_request_of}
use Rattle.raft_core.specs.Handled as handled
use Rattle.raft_core.specs.Times.{Sending}
use Rattle.raft_model.specs.Messages.{Answer, Request}
use Rattle.raft_model.specs.Server.{Role}
use Rattle.raft_model.specs.Server.Role.{Follower, Leader}
use Rattle.bus_rows.specs.declared.row.Row.{Row}
use Rattle.alloc_spec.specs.AllocatorState.{AllocatorState}
use Rattle.alloc_spec.specs.Step.{step}
use Rattle.alloc_spec.specs.Transfers.{Offer, SentTransfer}
use Rattle.alloc_spec_laws.proofs.Choices.{lt_tells}
use Rattle.service_leader.specs.Answers.{AnswersAsSaid, AnswersCall, TakesAnswer, WaitsForAnswer, answer_by, asked_by}
use Rattle.service_leader.specs.CallsComeBack.{ComesBack, LeadsIfUp, LeadsOn}
use Rattle.service_leader.proofs.AnswersOffered.{answers}
use Rattle.service_leader.proofs.AnswersTaken.{steps_down, takes}
use Rattle.service_leader.proofs.CallsAlone.{AtMostOne, behind, leads_across, leads_behind}
use Rattle.service_leader.proofs.CallsExchange.{least_term, sent_if_placed}
use Rattle.service_leader.proofs.CallsWait.{Called, IsCalled, IsCalling, after, after_up, asked, asks_it, called_on, opened, sending, young}
use Rattle.service_leader.proofs.Exchange.{AllGiven, Exchange, given_at}
use Rattle.service_leader.proofs.ExchangeAnswers.{AreSilent, Comes, silent_both}
use Rattle.service_leader.proofs.ExchangeBack.{ComesBack as Returns, back}
use Rattle.service_leader.proofs.ExchangeGoes.{Going, a_row, goes_on, q_row}
use Rattle.service_leader.proofs.RowsOfOne.{stepped_up}
use Rattle.service_leader.proofs.Stretches.{end_last, world_both}
use Rattle.service_calm.specs.Calls.{Lists, ReadsAsSaid}
use Rattle.service_calm.specs.Calm.{IsCalmRow, Member as OfMember, Party}
use Rattle.service_calm.specs.Comes.{Delivers, Sends, Throughout, sent_by}
use Rattle.service_calm.proofs.Calls.{lists_on}
use Rattle.service_calm.proofs.Pair.{same_server}
use Rattle.bus_rows.specs.Timed.{Timed, rows_in}
use Rattle.service_alone.specs.Calm.{Pace, end_of}
use Rattle.bus_spec.specs.Cluster.{Cluster, after_row, after_rows, receipt_of, step_of}

no_follower : (role : Role) → role ≡ Leader → role ≡ Follower → ⊥
no_follower role e f = cc (sym e ∙ f)

first_leads : (n term : ℕ) (w : Cluster) (front rest : List Timed) (timed : Timed) → Throughout (LeadsIfUp n term) w (front ++ timed ∷ rest) → LeadsIfUp n term w
first_leads n term w [] rest timed leads = leads.0
first_leads n term w (first ∷ front) rest timed leads = leads.0

module _ (both : Exchange) (its : IsCalling both) (term : ℕ) where
  abbrev group : List Party
  group = both.group

  abbrev clocks : Party → ℕ
  clocks = both.clocks

  abbrev pace : Pace
  pace = both.pace

  abbrev n : ℕ
  n = both.n

  abbrev m : ℕ
  m = both.m

  -- ---- rows in which no answer comes

  -- no row comes before an earlier one
  comes_later : (front rest : List Timed) (timed : Timed) (w : Cluster) (g : Going both w (front ++ timed ∷ rest)) → g.traffic.at ≤ timed.at
  comes_later [] rest timed w g = g.calm.0.moments
  comes_later (first ∷ front) rest timed w g =
      let l : first.at ≤ timed.at = comes_later front rest timed (after_row w first.row)
      (goes_on both w first (front ++ timed ∷ rest) g (q_row both w first (front ++ timed ∷ rest) g) (a_row both w first (front ++ timed ∷ rest) g)) in
      let e = g.calm.0.moments in omega (arith, l, e)

  module _ (made_at : ℕ) (request : Request) (kept : Sending) where
    -- the caller leads in the worlds before these rows, lists the member, and waits in the first for the answer to this call
    pub record Waits (w : Cluster) (rows : List Timed) : Type 0 where
      pub going : Going both w rows
      pub leads : Throughout (LeadsIfUp n term) w rows
      pub lists : Lists n m w
      pub called : IsCalled both its term made_at request kept w

    waits_on : (front rest : List Timed) (timed : Timed) (w : Cluster) → Waits w (front ++ timed ∷ rest) → AreSilent both w front → timed.at ≤ made_at + 4 * pace.delay
        → Waits (after_rows w (rows_in front)) (timed ∷ rest)
    waits_on [] rest timed w h silent soon = h
    waits_on (first ∷ front) rest timed w h silent soon = waits_on front rest timed (after_row w first.row) (record {
      going = then_g;
      leads = h.leads.1;
      lists = lists_on both.stay m group clocks pace g.traffic n (first ∷ []) (front ++ timed ∷ rest) w
          (record { server = g.q.pair.sender; runs = g.q.pair.sender_up.status; faults = g.q.pair.sender_up.quiet.faults; disk = g.q.pair.sender_up.quiet.calls }) g.calm h.lists;
      called = λ u up_then. called_on both its term w first (front ++ timed ∷ rest) g made_at request kept (h.called g.q.pair.sender g.q.pair.sender_up.status) late silent.0 u up_then
          (first_leads n term (after_row w first.row) front rest timed h.leads.1 u up_then).0;
    }) silent.1 soon
      where
        g : Going both w (first ∷ (front ++ timed ∷ rest))
        g = h.going

        then_g : Going both (after_row w first.row) (front ++ timed ∷ rest)
        then_g = goes_on both w first (front ++ timed ∷ rest) g (q_row both w first (front ++ timed ∷ rest) g) (a_row both w first (front ++ timed ∷ rest) g)

        late : first.at ≤ made_at + 4 * pace.delay
        late = let l : first.at ≤ timed.at = comes_later front rest timed (after_row w first.row) then_g in omega (arith, l, soon)

  -- ---- the call of a row

  module _ (w : Cluster) (timed : Timed) (offer : Offer) (sends : Sends n w timed.row offer) (what : offer.what ≡ both.asks) (to : offer.to ≡ m)
      (reads : ReadsAsSaid (sent_by n w offer)) (request : Request) (kept : Sending) (id : kept.id ≡ offer.id) (asked_is : request ≡ asked_by (sent_by n w offer) reads.request m)
      (rest : List Timed) (waits : Waits timed.at request kept (after_row w timed.row) rest) (long : timed.at + 4 * pace.delay < end_of timed.at rest)
      (returns : Returns both ⊤ (record { at = timed.at; transfer = sent_by n w offer }) (after_row w timed.row) rest) where
    abbrev x : SentTransfer
    x = sent_by n w offer

    abbrev then_w : Cluster
    then_w = after_row w timed.row

    -- it is answered
    abbrev hearing : Cluster
    hearing = after_rows then_w (rows_in returns.front)

    abbrev answered : AnswersCall m x reads.request hearing returns.timed.row returns.delivers
    answered = answers m x reads.request hearing returns.timed.row returns.delivers returns.me (what ∙ its.asks) reads.read returns.listed

    sends_it : Sends m hearing returns.timed.row answered.offer
    sends_it = sent_if_placed m x reads.request hearing returns.timed.row returns.delivers answered returns.place

    abbrev y : SentTransfer
    y = sent_by m hearing answered.offer

    abbrev answer : Answer
    answer = answer_by (hearing.rows + 1) returns.delivers.server (asked_by x reads.request m)

    said : AnswersAsSaid y
    said = its.told y ((given_at both returns.front returns.rest returns.timed then_w (subst (AllGiven both then_w) returns.split waits.going.given)).told answered.offer sends_it
        (answered.what ∙ sym its.answers))

    same_said : said.answer ≡ answer
    same_said = cc (sym said.said ∙ answered.says)

    -- the answer comes, and the caller waits until then
    abbrev comes : Comes both ⊤ y (timed.at + 4 * pace.delay) (after_row hearing returns.timed.row) returns.rest
    comes = returns.comes answered.offer sends_it (answered.what ∙ sym its.answers) answered.to

    abbrev upto : List Timed
    upto = returns.front ++ returns.timed ∷ comes.front

    split : rest ≡ upto ++ comes.timed ∷ comes.rest
    split = returns.split ∙ (ap (λ (l : List Timed). returns.front ++ returns.timed ∷ l) comes.split
        ∙ sym (append_assoc returns.front (returns.timed ∷ comes.front) (comes.timed ∷ comes.rest)))

    abbrev taking : Cluster
    taking = after_rows (after_row hearing returns.timed.row) (rows_in comes.front)

    abbrev there : Waits timed.at request kept taking (comes.timed ∷ comes.rest)
    there = subst (λ (v : Cluster). Waits timed.at request kept v (comes.timed ∷ comes.rest)) (world_both then_w returns.front (returns.timed ∷ comes.front))
        (waits_on timed.at request kept upto comes.rest comes.timed then_w (subst (Waits timed.at request kept then_w) split waits)
        (silent_both both returns.front comes.front returns.timed then_w (returns.silent tt) (returns.silent_then tt) (comes.silent tt)) comes.soon)

    -- it leads behind that row too, since the rows go on
    leads_after : LeadsIfUp n term (after_row taking comes.timed.row)
    leads_after = by comes.rest there.leads (subst (λ (l : List Timed). timed.at + 4 * pace.delay < end_of timed.at l) split long)
      where
        by : (later : List Timed) → Throughout (LeadsIfUp n term) taking (comes.timed ∷ later) → timed.at + 4 * pace.delay < end_of timed.at (upto ++ comes.timed ∷ later)
            → LeadsIfUp n term (after_row taking comes.timed.row)
        by [] leads far = absurd (let e = end_last timed.at upto comes.timed in let s = comes.soon in omega (arith, e, s, far))
        by (next ∷ later) leads far = leads.1.0

    -- ---- the answer is taken

    abbrev d : Delivers n y taking comes.timed.row
    d = comes.delivers

    called : Called both its term timed.at request kept d.server
    called = there.called d.server d.runs

    server_is : d.server ≡ there.going.q.pair.sender
    server_is = same_server d.server there.going.q.pair.sender (sym d.runs ∙ there.going.q.pair.sender_up.status)

    me : d.server.me ≡ n
    me = ap (λ (s : AllocatorState). s.me) server_is ∙ there.going.q.pair.sender_is.me

    waits_for : WaitsForAnswer m answered.offer.id kept.moment request d.server
    waits_for = record {
      leads = called.pends.0;
      term = called.term_is ∙ sym (there.leads.0 d.server d.runs).1;
      append = called.append;
      listed = there.lists d.server d.runs;
      pending = called.pends.1;
      kept = called.pends.2 ∙ (λ i. Some (record { id = (id ∙ sym answered.id) i; moment = kept.moment }));
    }

    clock : d.ms ≡ comes.timed.at + clocks (OfMember n)
    clock = (subst (λ (row : Row). IsCalmRow group clocks pace there.going.traffic taking comes.timed.at row) d.comes there.going.calm.1).1

    soon : max d.server.now d.ms < kept.moment + 1000
    soon = subst (λ (ms : ℕ). max d.server.now ms < kept.moment + 1000) (sym clock)
        (subst (λ (s : AllocatorState). max s.now (comes.timed.at + clocks (OfMember n)) < kept.moment + 1000) (sym server_is)
        (young both its term taking comes.timed comes.rest there.going timed.at request kept d.server called comes.soon))

    abbrev then_t : AllocatorState
    then_t = (step d.server (taking.rows + 1) (receipt_of taking d.k d.ms)).step_state.allocator

    leads_then : then_t.raft_server.memory.role ≡ Leader
    leads_then = (leads_after then_t (stepped_up taking n d.server (record { status = d.runs; quiet = there.going.q.pair.sender_up.quiet }) comes.timed.row
        (receipt_of taking d.k d.ms) (ap (λ (r : Row). step_of taking r) d.comes)).status).0

    reads_answer : append_answer_of y.offer.payload ≡ Some (record { term = answer.term; success = answer.success })
    reads_answer = said.read ∙ (λ i. Some (record { term = (same_said i).term; success = (same_said i).success }))

    least : term ≤ answer.term
    least =
        let k = least_term returns.delivers.server.raft_server.store (asked_by x reads.request m).term in
        let e = ap (λ (r : Request). r.term) asked_is in let c = called.term_is in omega (arith, k, e, c)

    equal : answer.term ≡ request.term
    equal = elim (lt_tells term answer.term) [
      | inl z ↦ absurd (no_follower then_t.raft_server.memory.role leads_then (steps_down n kept.moment y request (record { term = answer.term; success = answer.success }) taking
          comes.timed.row d me answered.what reads_answer waits_for soon (let l = z.1 in let c = called.term_is in omega (arith, l, c))))
      | inr z ↦ let l = z.1 in let k = least in let c = called.term_is in omega (arith, l, k, c)
    ]

    same : handled.answer_of y.step y.by request answer.term answer.success ≡ answer
    same = λ i. record { step = hearing.rows + 1; from = sym returns.me i; request = asked_is i; term = answer.term; success = answer.success }

    takes_now : TakesAnswer (taking.rows + 1) answer d.server then_t
    takes_now = subst (λ (z : Answer). TakesAnswer (taking.rows + 1) z d.server then_t) same
        (takes n kept.moment y request (record { term = answer.term; success = answer.success }) taking comes.timed.row d me answered.what reads_answer waits_for soon equal)

    pub whole_call : ComesBack n m x reads.request timed.at pace.delay w (timed ∷ rest)
    whole_call = record {
      front = timed ∷ returns.front;
      timed = returns.timed;
      rest = returns.rest;
      split = ap (λ (l : List Timed). timed ∷ l) returns.split;
      soon = returns.soon;
      delivers = returns.delivers;
      answers = answered;
      taken = record {
        front = comes.front;
        timed = comes.timed;
        rest = comes.rest;
        split = comes.split;
        soon = comes.soon;
        delivers = d;
        takes = takes_now;
      };
    }

  -- where one call at most is under way before the row, and the caller leads once it does
  pub comes_back : (w : Cluster) (timed : Timed) (rest : List Timed) (g : Going both w (timed ∷ rest)) → LeadsOn n term w (timed ∷ rest)
      → AtMostOne both its term w (timed ∷ rest) g → Lists n m w → (offer : Offer) (request : AppendRequest) → Sends n w timed.row offer → offer.what ≡ both.asks → offer.to ≡ m
      → append_request_of offer.payload ≡ Some request → timed.at + 4 * pace.delay < end_of timed.at rest
      → ComesBack n m (sent_by n w offer) request timed.at pace.delay w (timed ∷ rest)
  comes_back w timed [] g leads one lists offer request sends what to says long = absurd (omega (arith, long))
  comes_back w timed (next ∷ rest) g leads one lists offer request sends what to says long =
      subst (λ (r : AppendRequest). ComesBack n m (sent_by n w offer) r timed.at pace.delay w (timed ∷ next ∷ rest)) same
      (whole_call w timed offer sends what to reads its_request its_sending refl asked_is (next ∷ rest) waits long
      (back both ⊤ (record { at = timed.at; transfer = sent_by n w offer }) (next ∷ rest) [] [] (after_row w timed.row) then_g alone.0 (λ is. (refl, alone.1)) timed.at
      (omega arith) long))
    where
      reads : ReadsAsSaid (sent_by n w offer)
      reads = its.reads (sent_by n w offer) (g.given.0.read offer sends what)

      same : reads.request ≡ request
      same = cc (sym reads.read ∙ says)

      then_g : Going both (after_row w timed.row) (next ∷ rest)
      then_g = goes_on both w timed (next ∷ rest) g (q_row both w timed (next ∷ rest) g) (a_row both w timed (next ∷ rest) g)

      alone : (then_g.q.xs ≡ record { at = timed.at; transfer = sent_by n w offer } ∷ []) × (then_g.a.xs ≡ [])
      alone = (behind both its term w timed (next ∷ rest) g (leads_across both its term w timed [] rest next leads) one).1 offer sends what to

      its_request : Request
      its_request = asked both its term w timed (next ∷ rest) g offer sends what to

      its_sending : Sending
      its_sending = sending both its term w timed (next ∷ rest) g offer sends what to

      asked_is : its_request ≡ asked_by (sent_by n w offer) reads.request m
      asked_is =
          let said : its_request ≡ handled.append_request_of reads.request (w.rows + 1) n offer.to =
          cc (sym (asks_it both its term w timed (next ∷ rest) g offer sends what to).says ∙ reads.said) in
          said ∙ ap (λ (k : ℕ). handled.append_request_of reads.request (w.rows + 1) n k) to

      all : Throughout (LeadsIfUp n term) (after_row w timed.row) (next ∷ rest)
      all = elim (leads_behind n term w timed (next ∷ rest) leads) [
        | inl none ↦ absurd (none.0 (after both its term w timed (next ∷ rest) g offer sends what to) (after_up both its term w timed (next ∷ rest) g offer sends what to)
            (asks_it both its term w timed (next ∷ rest) g offer sends what to).leads)
        | inr leads_all ↦ leads_all
      ]

      waits : Waits timed.at its_request its_sending (after_row w timed.row) (next ∷ rest)
      waits = record {
        going = then_g;
        leads = all;
        lists = lists_on both.stay m group clocks pace g.traffic n (timed ∷ []) (next ∷ rest) w
            (record { server = g.q.pair.sender; runs = g.q.pair.sender_up.status; faults = g.q.pair.sender_up.quiet.faults; disk = g.q.pair.sender_up.quiet.calls }) g.calm lists;
        called = opened both its term w timed (next ∷ rest) g offer sends what to (leads_across both its term w timed [] rest next leads);
      }
