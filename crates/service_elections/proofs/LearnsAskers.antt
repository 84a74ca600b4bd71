-- A member that asks another one for its vote, in a calm, learns its term, if it does not stand for election meanwhile,
-- nor leads.
use Rattle.std.proofs.Common.{◌≡◌, ◌≢◌, ℕ, ◌+◌, ◌*◌, ◌<◌, ◌≤◌, arith, List, [], ◌∷◌, ◌++◌, max, refl, sym, ◌∙◌, ap, subst, inl, inr}
use Rattle.std.specs.Prelude.{◌⊎◌, Some}
use Rattle.std.proofs.lemmas.Bool.Decides.{leb_tells}
use Rattle.can_frame.specs.declared.step.What.TheVariants.{VoteQ}
use Rattle.raft_core.specs.Handled.{answer_of}
use Rattle.raft_model.specs.Lists.{In}
use Rattle.raft_model.specs.Messages.{Answer}
use Rattle.raft_model.specs.Messages.Message.{Answers}
use Rattle.raft_model.specs.Server.{Role}
use Rattle.raft_model.specs.Server.Role.{Candidate, Follower, Leader}
use Rattle.bus_rows.specs.declared.row.Row.{Row}
use Rattle.alloc_spec.specs.AllocatorState.{AllocatorState}
use Rattle.alloc_spec.specs.Step.{step}
use Rattle.alloc_spec.specs.Transfers.{Offer, SentTransfer}
use Rattle.alloc_spec_laws.proofs.Choices.{lt_tells}
use Rattle.service_candidate.specs.Votes.{CanAsk, TakesVote, VoteAnswersAsSaid, WaitsForVote}
use Rattle.service_candidate.specs.Wins.{OffersVoteRequest}
use Rattle.service_candidate.proofs.WinsFronts.{votes_fit_at}
use Rattle.service_elections.specs.Running.{IsCalmOf, NobodyStandsIn}
use Rattle.service_elections.specs.Sent.{LeadsBy}
use Rattle.service_elections.proofs.LearnsBack.{Along, ReplyComes, RequestComes, along, along_on, at_first, comes_back}
use Rattle.service_elections.proofs.LearnsCallers as callers
use Rattle.service_elections.proofs.LearnsCallers.{stands_not}
use Rattle.service_elections.proofs.LearnsChain.{AllTurns}
use Rattle.service_leader.proofs.Exchange.{AllGiven, Exchange}
use Rattle.service_leader.proofs.ExchangeStart.{all_given}
use Rattle.service_candidate.proofs.VotesAsked.{fresh}
use Rattle.service_calm.specs.CalmBelow.{CalmGrounds}
use Rattle.service_calm.proofs.Grounds.{calm_laws, is_server, well}
use Rattle.service_elections.proofs.LearnsGrounds.{Grounds, from_there, up_to_end_of}
use Rattle.service_elections.proofs.LearnsVotes.{AllSteps, Asked, LeadsNotBy, Waiting, all_turns, asking, steps_on, twice_quick, waits_on}
use Rattle.service_calm.specs.Calm.{AreCalm, Member as OfMember, Party, no_traffic}
use Rattle.service_calm.specs.Comes.{Sends, sent_by}
use Rattle.service_calm.proofs.Group.{AreWell, CalmLaws, IsWell}
use Rattle.service_calm.proofs.Pair.{same_server}
use Rattle.service_calm.proofs.Pending.{Made}
use Rattle.bus_rows.specs.Timed.{Timed, rows_in}
use Rattle.service_alone.specs.Calm.{Pace}
use Rattle.service_alone.proofs.Members.{IsQuiet}
use Rattle.bus_spec.specs.Cluster.{Cluster, after_row, after_rows, receipt_of, world_of}
use Rattle.bus_spec.specs.Members.MemberStatus.{Up}

one_answer : (a b : Answer) → Some (Answers a) ≡ Some (Answers b) → a ≡ b
one_answer a b e = cc e

-- who leads, or not
pub leads_or_not : (role : Role) → (role ≡ Leader) ⊎ (role ≢ Leader)
leads_or_not Follower = inr (λ e. cc e)
leads_or_not Candidate = inr (λ e. cc e)
leads_or_not Leader = inl refl

module _ (ids : List ℕ) (rows : List Row) (g : Grounds ids rows) (group : List Party) (clocks : Party → ℕ) (pace : Pace) (start n m : ℕ)
    (front early late : List Timed) (timed next : Timed) (calm : IsCalmOf ids rows group clocks pace start (front ++ timed ∷ (early ++ next ∷ late)))
    (in_n : In (OfMember n) group) (in_m : In (OfMember m) group) (apart : n ≢ m) where
  abbrev grounds : CalmGrounds
  grounds = g.below.wins.election.calm

  abbrev laws : CalmLaws
  laws = calm_laws grounds

  abbrev w : Cluster
  w = world_of ids rows

  abbrev there : Cluster
  there = after_rows w (rows_in front)

  abbrev then_w : Cluster
  then_w = after_row there timed.row

  -- ---- the calm, and its rows before the next one

  abbrev whole : List Timed
  whole = front ++ timed ∷ (early ++ next ∷ late)

  calm_upto : AreCalm group clocks pace (no_traffic start) w (front ++ timed ∷ early)
  calm_upto = callers.calm_upto ids rows g group clocks pace start n m front early late timed next calm in_n in_m apart

  can : CanAsk n m w whole
  can = calm.ask n m in_n in_m apart

  nodes : (p : ℕ) → In (OfMember p) group → (1 ≤ p) × (p ≤ 125)
  nodes p i = g.members.nodes p (calm.listed p i)

  are : AreWell group w
  are = well grounds ids g.members rows g.harmless group calm.listed calm.running

  quiet : (p : ℕ) → In (OfMember p) group → IsQuiet (w.member p).disk
  quiet p i = let r = calm.running p i in record { faults = r.faults; calls = r.disk }

  -- ---- who asks

  abbrev both : Exchange
  both = asking laws grounds.apart grounds.stay g.below.votes_answered group clocks pace nodes n m in_n in_m apart calm.quick w whole can

  abbrev IsOpen : Made → AllocatorState → Type 0
  IsOpen = Asked laws grounds.apart grounds.stay g.below.votes_answered group clocks pace nodes n m in_n in_m apart calm.quick w whole can

  abbrev IsWaiting : Made → AllocatorState → Type 0
  IsWaiting = Waiting laws grounds.apart grounds.stay g.below.votes_answered group clocks pace nodes n m in_n in_m apart calm.quick w whole can

  abbrev Steps : Cluster → List Timed → Type 0
  Steps = AllSteps laws grounds.apart grounds.stay g.below.votes_answered group clocks pace nodes n m in_n in_m apart calm.quick w whole can

  turns : AllTurns both IsOpen w whole × Steps w whole
  turns = all_turns laws grounds.apart grounds.stay g.below.votes_answered group clocks pace nodes n m in_n in_m apart calm.quick w whole can whole (no_traffic start) w
      calm.calm are calm.harmless can.asks_it (calm.clock n in_n)

  given : AllGiven both w whole
  given = all_given both ids (λ done h row offer. g.below.requests_read ids done g.members h n row offer)
      (λ done h row offer. g.below.wins.answers_read ids done g.members h m row offer) grounds.grows grounds.no_harm whole rows (no_traffic start) w refl g.harmless are calm.calm calm.harmless can.memory can.its_memory can.place

  its_along : Along both IsOpen IsWaiting calm.quick w whole
  its_along = at_first both IsOpen IsWaiting calm.quick start w whole
      (fresh laws grounds.apart grounds.stay g.below.votes_answered VoteAnswersAsSaid group clocks pace nodes n m in_n in_m apart (twice_quick pace.delay calm.quick)
      w whole can start (λ t. is_server grounds ids g.members rows g.harmless n t (calm.listed n in_n))
      (λ t. is_server grounds ids g.members rows g.harmless m t (calm.listed m in_m)) (quiet n in_n) (quiet m in_m) calm.calm are given)
      turns.0

  steps_here : Steps there (timed ∷ (early ++ next ∷ late))
  steps_here = steps_on laws grounds.apart grounds.stay g.below.votes_answered group clocks pace nodes n m in_n in_m apart calm.quick w whole can
      front (timed ∷ (early ++ next ∷ late)) w turns.1

  -- ---- it leads by then, or not

  leads_behind : (last at : ℕ) (rest : List Timed) (v : Cluster) (one : Timed) → LeadsBy n one.at last (after_row v one.row) rest → LeadsBy n at last v (one ∷ rest)
  leads_behind last at rest v one by = record {
    front = one ∷ by.front;
    rest = by.rest;
    split = ap (λ (l : List Timed). one ∷ l) by.split;
    soon = by.soon;
    term = by.term;
    leads = by.leads;
  }

  leads_by : (last : ℕ) (its_rows later : List Timed) (v : Cluster) (at : ℕ) → Along both IsOpen IsWaiting calm.quick v (its_rows ++ later)
      → LeadsBy n at last v its_rows ⊎ LeadsNotBy n last v its_rows
  leads_by last [] later v at k = inr tt
  leads_by last (one ∷ rest) later v at k = elim (leads_by last rest later (after_row v one.row) one.at then_k) [
    | inl by ↦ inl (leads_behind last at rest v one by)
    | inr none ↦ elim (leb_tells one.at last) [
      | inl z ↦ elim (leads_or_not its.server.raft_server.memory.role) [
        | inl leads ↦ inl (record {
          front = one ∷ [];
          rest = rest;
          split = refl;
          soon = z.1;
          term = its.server.raft_server.store.term;
          leads = record { server = its.server; runs = its.up.status; leads = leads; its_term = refl };
        })
        | inr other ↦ inr ((λ low u up. subst (λ (s : AllocatorState). s.raft_server.memory.role ≢ Leader) (same_server its.server u (sym its.up.status ∙ up)) other), none)
      ]
      | inr z ↦ inr ((λ low. absurd (let high = z.1 in omega (arith, low, high))), none)
    ]
  ]
    where
      then_k : Along both IsOpen IsWaiting calm.quick (after_row v one.row) (rest ++ later)
      then_k = along both IsOpen IsWaiting calm.quick v one (rest ++ later) k

      its : IsWell n ((after_row v one.row).member n)
      its = then_k.u.going.are.members n in_n

  module _ (offer : Offer) (sends : Sends n there timed.row offer) (what : offer.what ≡ VoteQ) (to : offer.to ≡ m) (nobody : NobodyStandsIn group then_w early)
      (long : timed.at + 4 * pace.delay < next.at) (leads_not : LeadsNotBy n (timed.at + 4 * pace.delay) then_w early) where
    abbrev x : Made
    x = record { at = timed.at; transfer = sent_by n there offer }

    back : RequestComes both IsOpen IsWaiting calm.quick x then_w early
    back = comes_back both IsOpen IsWaiting calm.quick front early late timed next w its_along offer sends what to (λ u up. steps_here.0.waits offer sends what to u up)
        (waits_on laws grounds.apart grounds.stay g.below.votes_answered group clocks pace nodes n m in_n in_m apart calm.quick w whole can x early (next ∷ late) then_w
        steps_here.1 (stands_not group n in_n early then_w nobody) leads_not) long

    -- ---- the answer

    abbrev hearing : Cluster
    hearing = after_rows then_w (rows_in back.front)

    abbrev y : SentTransfer
    y = sent_by m hearing back.answered.offer

    abbrev reply : ReplyComes both IsOpen IsWaiting calm.quick x y (after_row hearing back.timed.row) back.rest
    reply = back.comes

    abbrev taking : Cluster
    taking = after_rows (after_row hearing back.timed.row) (rows_in reply.front)

    abbrev before : AllocatorState
    before = reply.delivers.server

    abbrev after : AllocatorState
    after = (step before (taking.rows + 1) (receipt_of taking reply.delivers.k reply.delivers.ms)).step_state.allocator

    told : VoteAnswersAsSaid y
    told = back.told

    same : told.answer ≡ back.answered.tells.0
    same = one_answer told.answer back.answered.tells.0 (sym told.said ∙ back.answered.tells.1)

    waits : WaitsForVote m back.answered.offer.id (timed.at + clocks (OfMember n)) reply.opened.0 before
    waits = subst (λ (id : ℕ). WaitsForVote m id (timed.at + clocks (OfMember n)) reply.opened.0 before) (sym back.answered.id) reply.opened.1

    soon : max before.now reply.delivers.ms < (timed.at + clocks (OfMember n)) + 1000
    soon = let a = reply.moment in let b = reply.soon in let c = calm.quick in omega (arith, a, b, c)

    takes : TakesVote (answer_of y.step m reply.opened.0 told.answer.term told.answer.success) before after
    takes = g.below.wins.taken n (timed.at + clocks (OfMember n)) y reply.opened.0 (record { term = told.answer.term; granted = told.answer.success }) taking reply.timed.row
        reply.delivers reply.me back.answered.what told.read waits soon

    learned : told.answer.term ≤ after.raft_server.store.term
    learned = elim (lt_tells before.raft_server.store.term told.answer.term) [
      | inl z ↦ let e = (takes.raised z.1).1 in omega (arith, e)
      | inr z ↦ let e = takes.kept z.1 in let low = z.1 in omega (arith, e, low)
    ]

    module _ (other server : AllocatorState) (up : (there.member m).status ≡ Up other) (up_then : ((after_rows then_w (rows_in early)).member n).status ≡ Up server) where
      -- who answers is in no lower term than it was
      its_term : other.raft_server.store.term ≤ back.answered.server.raft_server.store.term
      its_term = from_there ids rows (g.below.wins.rise ids rows) group clocks pace start calm.running front early timed calm_upto m in_m back.front (back.timed ∷ back.rest) back.split
          other back.answered.server up back.answered.runs

      -- who takes the answer is in no lower term later
      own_term : after.raft_server.store.term ≤ server.raft_server.store.term
      own_term = up_to_end_of ids rows (g.below.wins.rise ids rows) group clocks pace start calm.running front early timed calm_upto n in_n back.front reply.front reply.rest back.timed reply.timed
          (back.split ∙ ap (λ (l : List Timed). back.front ++ back.timed ∷ l) reply.split) after server reply.runs_then up_then

      asker_learns : other.raft_server.store.term ≤ server.raft_server.store.term
      asker_learns =
          let a = its_term in let b = back.answered.tells.2 in let c = ap (λ (k : Answer). k.term) same in let d = learned in let e = own_term in
          omega (arith, a, b, c, d, e)

  -- ---- a request that is offered finds room

  pub askers_learn : OffersVoteRequest n m there timed.row → (other server : AllocatorState) → (there.member m).status ≡ Up other → NobodyStandsIn group then_w early
      → timed.at + 4 * pace.delay < next.at → ((after_rows then_w (rows_in early)).member n).status ≡ Up server
      → (other.raft_server.store.term ≤ server.raft_server.store.term) ⊎ LeadsBy n timed.at (timed.at + 4 * pace.delay) then_w early
  askers_learn asks other server up nobody long up_then =
      elim (leads_by (timed.at + 4 * pace.delay) early (next ∷ late) then_w timed.at (along both IsOpen IsWaiting calm.quick there timed (early ++ next ∷ late)
      (along_on both IsOpen IsWaiting calm.quick front (timed ∷ (early ++ next ∷ late)) w its_along))) [
        | inl by ↦ inr by
        | inr none ↦ inl (asker_learns asks.offer (record {
          server = asks.server;
          runs = asks.runs;
          event = asks.event;
          in_step = asks.in_step;
          offered = asks.offered;
          fitted = votes_fit_at n front (early ++ next ∷ late) timed w (calm.asks_fit n in_n) m asks;
        }) asks.what asks.to nobody long none other server up up_then)
      ]
