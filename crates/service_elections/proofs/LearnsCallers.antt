-- A member that calls another one, in a calm, learns its term, if it does not stand for election meanwhile.
use Rattle.std.proofs.Common.{◌≡◌, ◌≢◌, ℕ, ◌+◌, ◌*◌, ◌<◌, ◌≤◌, arith, List, [], ◌∷◌, ◌++◌, append_assoc, max, refl, sym, ◌∙◌, ap, subst}
use Rattle.std.specs.Prelude.{Some}
use Rattle.can_frame.specs.declared.step.What.TheVariants.{App, AppQ}
use Rattle.raft_model.specs.Lists.{In}
use Rattle.raft_model.specs.Messages.{Answer, Request}
use Rattle.raft_model.specs.Messages.Message.{Answers, Requests}
use Rattle.bus_rows.specs.declared.row.Row.{Row}
use Rattle.alloc_spec.specs.AllocatorState.{AllocatorState}
use Rattle.alloc_spec.specs.Step.{step}
use Rattle.alloc_spec.specs.Transfers.{Offer, SentTransfer}
use Rattle.service_leader.specs.Answers.{AnswersAsSaid}
use Rattle.service_leader.specs.Entries.{CanExchange}
use Rattle.service_leader.proofs.Stretches.{calm_front, fits_at, rows_both}
use Rattle.service_elections.specs.Running.{IsCalmOf, NobodyStandsIn}
use Rattle.service_elections.proofs.LearnsBack.{Along, ReplyComes, RequestComes, StandsNot, at_first, comes_back, open_stays, turns_on}
use Rattle.service_leader.proofs.CallsExchange.{calling, fresh}
use Rattle.service_elections.proofs.LearnsCalls.{Called, all_turns}
use Rattle.service_elections.proofs.LearnsChain.{AllTurns}
use Rattle.service_leader.proofs.Exchange.{AllGiven, Exchange}
use Rattle.service_leader.proofs.ExchangeStart.{all_given}
use Rattle.service_calm.specs.CalmBelow.{CalmGrounds}
use Rattle.service_calm.proofs.Grounds.{calm_laws, is_server, well}
use Rattle.service_elections.proofs.LearnsGrounds.{Grounds, from_there, up_to_end_of}
use Rattle.service_elections.proofs.LearnsTakes.{WaitsForAppend, learns}
use Rattle.bus_agreement.proofs.Concatenations.{first_harmless}
use Rattle.service_calm.specs.Calm.{AreCalm, Member as OfMember, Party, no_traffic}
use Rattle.service_calm.specs.CallsInTime.{OffersCall}
use Rattle.service_calm.specs.Comes.{Delivers, Sends, sent_by}
use Rattle.service_calm.proofs.Group.{AreWell, CalmLaws}
use Rattle.service_calm.proofs.Pending.{Made}
use Rattle.bus_rows.specs.Timed.{Timed, rows_in}
use Rattle.service_alone.specs.Calm.{Pace}
use Rattle.service_alone.proofs.Members.{IsQuiet}
use Rattle.bus_spec.specs.Cluster.{Cluster, after_row, after_rows, receipt_of, world_of}
use Rattle.bus_spec.specs.Lawful.{DoNoHarm}
use Rattle.bus_spec.specs.Members.MemberStatus.{Up}

-- where no member of the group stands, this one does not
pub stands_not : (group : List Party) (n : ℕ) → In (OfMember n) group → (rows : List Timed) (w : Cluster) → NobodyStandsIn group w rows → StandsNot n w rows
stands_not group n i [] w nobody = tt
stands_not group n i (timed ∷ rest) w nobody = ((λ term s. nobody.0 n term i s), stands_not group n i rest (after_row w timed.row) nobody.1)

pub one_answer : (a b : Answer) → Some (Answers a) ≡ Some (Answers b) → a ≡ b
one_answer a b e = cc e

-- The call x, which n made at this moment, and at this one by its clock, is delivered to m in one of these rows within two
-- delays, and in a later one, within four, the answer is delivered to n, which waits for the answer to what the call
-- says. It tells a term that is no higher than that of n when the row is over.
pub record ReplyIsTaken (n m : ℕ) (x : SentTransfer) (at delay moment : ℕ) (w : Cluster) (rows : List Timed) : Type 0 where
  pub front : List Timed
  pub heard : Timed
  pub between : List Timed
  pub taken : Timed
  pub last : List Timed
  pub split : rows ≡ front ++ heard ∷ (between ++ taken ∷ last)
  pub heard_soon : heard.at ≤ at + 2 * delay
  pub taken_soon : taken.at ≤ at + 4 * delay
  pub hears : Delivers m x (after_rows w (rows_in front)) heard.row
  pub offer : Offer
  pub sends : Sends m (after_rows w (rows_in front)) heard.row offer
  pub what : offer.what ≡ App
  pub to : offer.to ≡ x.by
  pub told : AnswersAsSaid (sent_by m (after_rows w (rows_in front)) offer)
  pub delivers : Delivers n (sent_by m (after_rows w (rows_in front)) offer) (after_rows (after_row (after_rows w (rows_in front)) heard.row) (rows_in between)) taken.row
  pub me : delivers.server.me ≡ n
  pub request : Request
  pub asked : x.offer.says ≡ Some (Requests request)
  pub waits : WaitsForAppend m offer.id moment request delivers.server
  pub soon : max delivers.server.now delivers.ms < moment + 1000
  pub runs_then : let there = after_rows (after_row (after_rows w (rows_in front)) heard.row) (rows_in between) in
      ((after_row there taken.row).member n).status ≡ Up (step delivers.server (there.rows + 1) (receipt_of there delivers.k delivers.ms)).step_state.allocator
  pub learned : let there = after_rows (after_row (after_rows w (rows_in front)) heard.row) (rows_in between) in
      told.answer.term ≤ (step delivers.server (there.rows + 1) (receipt_of there delivers.k delivers.ms)).step_state.allocator.raft_server.store.term

-- so it is where more rows follow
pub reply_longer : (n m : ℕ) (x : SentTransfer) (at delay moment : ℕ) (w : Cluster) (rows more whole : List Timed) → whole ≡ rows ++ more
    → ReplyIsTaken n m x at delay moment w rows → ReplyIsTaken n m x at delay moment w whole
reply_longer n m x at delay moment w rows more whole cut r = record {
  front = r.front;
  heard = r.heard;
  between = r.between;
  taken = r.taken;
  last = r.last ++ more;
  split = cut ∙ (ap (λ (l : List Timed). l ++ more) r.split ∙ (append_assoc r.front (r.heard ∷ (r.between ++ r.taken ∷ r.last)) more
      ∙ ap (λ (l : List Timed). r.front ++ r.heard ∷ l) (append_assoc r.between (r.taken ∷ r.last) more)));
  heard_soon = r.heard_soon;
  taken_soon = r.taken_soon;
  hears = r.hears;
  offer = r.offer;
  sends = r.sends;
  what = r.what;
  to = r.to;
  told = r.told;
  delivers = r.delivers;
  me = r.me;
  request = r.request;
  asked = r.asked;
  waits = r.waits;
  soon = r.soon;
  runs_then = r.runs_then;
  learned = r.learned;
}

module _ (ids : List ℕ) (rows : List Row) (g : Grounds ids rows) (group : List Party) (clocks : Party → ℕ) (pace : Pace) (start n m : ℕ)
    (front early late : List Timed) (timed next : Timed) (calm : IsCalmOf ids rows group clocks pace start (front ++ timed ∷ (early ++ next ∷ late)))
    (in_n : In (OfMember n) group) (in_m : In (OfMember m) group) (apart : n ≢ m) where
  abbrev grounds : CalmGrounds
  grounds = g.below.wins.election.calm

  abbrev laws : CalmLaws
  laws = calm_laws grounds

  abbrev w : Cluster
  w = world_of ids rows

  abbrev there : Cluster
  there = after_rows w (rows_in front)

  abbrev then_w : Cluster
  then_w = after_row there timed.row

  -- ---- the calm, and its rows before the next one

  abbrev whole : List Timed
  whole = front ++ timed ∷ (early ++ next ∷ late)

  abbrev upto : List Timed
  upto = front ++ timed ∷ early

  split : whole ≡ upto ++ next ∷ late
  split = sym (append_assoc front (timed ∷ early) (next ∷ late))

  pub calm_upto : AreCalm group clocks pace (no_traffic start) w upto
  calm_upto = calm_front group clocks pace upto (next ∷ late) (no_traffic start) w (subst (AreCalm group clocks pace (no_traffic start) w) split calm.calm)

  pub harm_upto : DoNoHarm w (rows_in upto)
  harm_upto = first_harmless w (rows_in upto) (rows_in (next ∷ late))
      (subst (DoNoHarm w) (ap rows_in split ∙ rows_both upto (next ∷ late)) calm.harmless)

  can : CanExchange n m w whole
  can = calm.exchange n m in_n in_m apart

  pub nodes : (p : ℕ) → In (OfMember p) group → (1 ≤ p) × (p ≤ 125)
  nodes p i = g.members.nodes p (calm.listed p i)

  pub are : AreWell group w
  are = well grounds ids g.members rows g.harmless group calm.listed calm.running

  pub quiet : (p : ℕ) → In (OfMember p) group → IsQuiet (w.member p).disk
  quiet p i = let r = calm.running p i in record { faults = r.faults; calls = r.disk }

  -- ---- who calls asks

  abbrev both : Exchange
  both = calling laws grounds.apart grounds.stay group clocks pace nodes n m in_n in_m apart calm.quick w whole can

  abbrev IsOpen : Made → AllocatorState → Type 0
  IsOpen = Called laws grounds.apart grounds.stay g.below.ask group clocks pace nodes n m in_n in_m apart calm.quick w whole can

  turns : AllTurns both IsOpen w whole
  turns = all_turns laws grounds.apart grounds.stay g.below.ask group clocks pace nodes n m in_n in_m apart calm.quick w whole can whole (no_traffic start) w calm.calm are
      calm.harmless can.calls_it (calm.clock n in_n)

  given : AllGiven both w whole
  given = all_given both ids (λ done h row offer. g.below.calls_read ids done g.members h n row offer)
      (λ done h row offer. g.below.answers_read ids done g.members h m row offer) grounds.grows grounds.no_harm whole rows (no_traffic start) w refl g.harmless are calm.calm calm.harmless can.memory can.its_memory can.place

  along : Along both IsOpen IsOpen calm.quick w whole
  along = at_first both IsOpen IsOpen calm.quick start w whole
      (fresh laws grounds.apart grounds.stay group clocks pace nodes n m in_n in_m apart calm.quick w whole can start
      (λ t. is_server grounds ids g.members rows g.harmless n t (calm.listed n in_n)) (λ t. is_server grounds ids g.members rows g.harmless m t (calm.listed m in_m))
      (quiet n in_n) (quiet m in_m) calm.calm are given) turns

  module _ (offer : Offer) (sends : Sends n there timed.row offer) (what : offer.what ≡ AppQ) (to : offer.to ≡ m) (nobody : StandsNot n then_w early)
      (long : timed.at + 4 * pace.delay < next.at) where
    abbrev x : Made
    x = record { at = timed.at; transfer = sent_by n there offer }

    turns_here : AllTurns both IsOpen there (timed ∷ (early ++ next ∷ late))
    turns_here = turns_on both IsOpen calm.quick front (timed ∷ (early ++ next ∷ late)) w turns

    back : RequestComes both IsOpen IsOpen calm.quick x then_w early
    back = comes_back both IsOpen IsOpen calm.quick front early late timed next w along offer sends what to
        (λ u up. (turns_here.0.opens offer sends what to u up).0)
        (open_stays both IsOpen calm.quick x early (next ∷ late) then_w turns_here.1 nobody) long

    -- ---- the answer

    abbrev hearing : Cluster
    hearing = after_rows then_w (rows_in back.front)

    abbrev y : SentTransfer
    y = sent_by m hearing back.answered.offer

    abbrev reply : ReplyComes both IsOpen IsOpen calm.quick x y (after_row hearing back.timed.row) back.rest
    reply = back.comes

    abbrev taking : Cluster
    taking = after_rows (after_row hearing back.timed.row) (rows_in reply.front)

    abbrev before : AllocatorState
    before = reply.delivers.server

    abbrev after : AllocatorState
    after = (step before (taking.rows + 1) (receipt_of taking reply.delivers.k reply.delivers.ms)).step_state.allocator

    told : AnswersAsSaid y
    told = back.told

    same : told.answer ≡ back.answered.tells.0
    same = one_answer told.answer back.answered.tells.0 (sym told.said ∙ back.answered.tells.1)

    waits : WaitsForAppend m back.answered.offer.id (timed.at + clocks (OfMember n)) reply.opened.1.0 before
    waits = subst (λ (id : ℕ). WaitsForAppend m id (timed.at + clocks (OfMember n)) reply.opened.1.0 before) (sym back.answered.id) reply.opened.1.1

    soon : max before.now reply.delivers.ms < (timed.at + clocks (OfMember n)) + 1000
    soon = let a = reply.moment in let b = reply.soon in let c = calm.quick in omega (arith, a, b, c)

    learned : told.answer.term ≤ after.raft_server.store.term
    learned = learns n (timed.at + clocks (OfMember n)) y reply.opened.1.0 (record { term = told.answer.term; success = told.answer.success }) taking reply.timed.row
        reply.delivers reply.me back.answered.what told.read waits soon

    pub reply_is_taken : ReplyIsTaken n m (sent_by n there offer) timed.at pace.delay (timed.at + clocks (OfMember n)) then_w early
    reply_is_taken = record {
      front = back.front;
      heard = back.timed;
      between = reply.front;
      taken = reply.timed;
      last = reply.rest;
      split = back.split ∙ ap (λ (l : List Timed). back.front ++ back.timed ∷ l) reply.split;
      heard_soon = back.soon;
      taken_soon = reply.soon;
      hears = back.delivers;
      offer = back.answered.offer;
      sends = back.answered.sends;
      what = back.answered.what;
      to = back.answered.to;
      told = told;
      delivers = reply.delivers;
      me = reply.me;
      request = reply.opened.1.0;
      asked = reply.opened.1.2;
      waits = waits;
      soon = soon;
      runs_then = reply.runs_then;
      learned = learned;
    }

    module _ (other server : AllocatorState) (up : (there.member m).status ≡ Up other) (up_then : ((after_rows then_w (rows_in early)).member n).status ≡ Up server) where
      -- who answers is in no lower term than it was
      its_term : other.raft_server.store.term ≤ back.answered.server.raft_server.store.term
      its_term = from_there ids rows (g.below.wins.rise ids rows) group clocks pace start calm.running front early timed calm_upto m in_m back.front (back.timed ∷ back.rest) back.split
          other back.answered.server up back.answered.runs

      -- who takes the answer is in no lower term later
      own_term : after.raft_server.store.term ≤ server.raft_server.store.term
      own_term = up_to_end_of ids rows (g.below.wins.rise ids rows) group clocks pace start calm.running front early timed calm_upto n in_n back.front reply.front reply.rest back.timed reply.timed
          (back.split ∙ ap (λ (l : List Timed). back.front ++ back.timed ∷ l) reply.split) after server reply.runs_then up_then

      pub caller_learns : other.raft_server.store.term ≤ server.raft_server.store.term
      caller_learns =
          let a = its_term in let b = back.answered.tells.2 in let c = ap (λ (k : Answer). k.term) same in let d = learned in let e = own_term in
          omega (arith, a, b, c, d, e)

  -- ---- a call that is offered finds room

  pub callers_learn : OffersCall n m there timed.row → (other server : AllocatorState) → (there.member m).status ≡ Up other → NobodyStandsIn group then_w early
      → timed.at + 4 * pace.delay < next.at → ((after_rows then_w (rows_in early)).member n).status ≡ Up server
      → other.raft_server.store.term ≤ server.raft_server.store.term
  callers_learn calls other server up nobody long up_then = caller_learns calls.offer (record {
    server = calls.server;
    runs = calls.runs;
    event = calls.event;
    in_step = calls.in_step;
    offered = calls.offered;
    fitted = fits_at n front (early ++ next ∷ late) timed w (calm.calls_fit n in_n) m calls;
  }) calls.what calls.to (stands_not group n in_n early then_w nobody) long other server up up_then
