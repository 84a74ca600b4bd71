-- A call of a leader in a calm, behind which it leads on until the answer has come: the member that it calls answers, and
-- the leader takes the answer. From there on its next call begins no further on than its log and what it knows the
-- member to have, and each of its calls is of the calm.
use Rattle.std.proofs.Common.{◌≡◌, ◌≢◌, ℕ, ◌+◌, ◌*◌, ◌<◌, ◌≤◌, arith, Bool, true, false, List, [], ◌∷◌, ◌++◌, length, append_assoc, append-nil, length-append, max, refl, sym, ◌∙◌, ap, subst, inl, inr, Option, Some}
use Rattle.std.specs.Prelude.{◌-◌, if◌then◌else◌}
use Rattle.can_frame.specs.declared.step.What.TheVariants.{Alloc, AppQ}
use Rattle.raft_core.specs.Handled as handled
use Rattle.raft_model.specs.Lists.{In}
use Rattle.raft_model.specs.Messages.{Answer, Message, Request, reach}
use Rattle.raft_model.specs.Messages.Message.{Requests}
use Rattle.raft_model.specs.Server.Role.{Leader}
use Rattle.bus_rows.specs.declared.row.Row.{Row}
use Rattle.alloc_spec.specs.AllocatorState.{AllocatorState, members_of}
use Rattle.alloc_spec.specs.Step.{Event, step}
use Rattle.alloc_spec.specs.Transfers.{Offer, has_room}
use Rattle.alloc_spec_laws.specs.Apart.{AreAllApart, AreApart}
use Rattle.bus_rows.specs.Timed.{Timed, rows_in}
use Rattle.service_alone.specs.Calm.{end_of}
use Rattle.service_alone.proofs.Goes.{after_both}
use Rattle.service_leader.specs.Answers.{AnswersAreTaken, AnswersCall, TakesAnswer, WaitsForAnswer, answer_by, asked_by}
use Rattle.service_leader.specs.CallsAsk.{AsksNext, next_request}
use Rattle.service_leader.specs.CallsComeBack.{ComesBack, HasPlace, IsTakenBy}
use Rattle.service_leader.specs.Entries.{PendsSince}
use Rattle.service_leader.specs.EntriesBelow.{EntryLaws}
use Rattle.service_leader.specs.LeadsOn.{LeadsIn}
use Rattle.service_leader.proofs.EntriesParts.{rows_counted}
use Rattle.service_leader.proofs.EntriesSteps.{Knows, Leads, longer, step_knows, still_left}
use Rattle.service_leader.proofs.RowsOfOne.{stepped_up}
use Rattle.service_leader.proofs.Stretches.{throughout_at, world_both}
use Rattle.service_elections.proofs.CallingInTime.{cut_next, next_row}
use Rattle.service_elections.proofs.CallingKept.{Near, cut_at, inside_at, leads_at, near_on, pends_on}
use Rattle.service_elections.proofs.CalmFronts.{harm_front, harm_row, recut, running_at}
use Rattle.service_elections.proofs.LeadsFronts.{leader_stands_not}
use Rattle.service_elections.proofs.LearnsBack.{StandsNot}
use Rattle.service_elections.proofs.LearnsCallers.{ReplyIsTaken, one_answer, reply_is_taken, reply_longer}
use Rattle.service_leader.proofs.AnswersOffered.{answer_fits}
use Rattle.service_elections.proofs.LearnsGrounds.{Grounds}
use Rattle.service_elections.proofs.LearnsTakes.{least_term}
use Rattle.service_elections.proofs.NobodyScene.{Course, here, known_at, the_calm, w}
use Rattle.service_elections.proofs.NobodyStands.{FirstBehind}
use Rattle.service_calm.specs.Calls.{ReadsAsSaid}
use Rattle.service_calm.specs.Calm.{IsRunning, Member as OfMember, no_traffic}
use Rattle.service_calm.specs.Comes.{Delivers, Sends, Throughout, sent_by}
use Rattle.service_calm.proofs.Pair.{same_event, same_server}
use Rattle.bus_spec.specs.Cluster.{Cluster, after_row, after_rows, cluster, receipt_of, step_of}
use Rattle.bus_spec.specs.Lawful.{DoesNoHarm}
use Rattle.bus_spec.specs.Members.MemberStatus.{Up}

-- ---- small facts

pub one_request : (a b : Request) → ◌≡◌ {A = Option Message} (Some (Requests a)) (Some (Requests b)) → a ≡ b
one_request a b e = cc e

its_request : (a b : Request) → Some a ≡ Some b → a ≡ b
its_request a b e = cc e

-- of transfers that are apart, two that fitted, of one kind and to one node, are one
one_of : (offers : List Offer) → AreAllApart offers → (p q : Offer) → In p offers → In q offers → p.fitted ≡ true → q.fitted ≡ true → p.what ≡ q.what → p.to ≡ q.to
    → p.what ≢ Alloc → p ≡ q
one_of [] apart p q i j f g what to other = absurd i
one_of (o ∷ offers) apart p q (inl e) (inl h) f g what to other = e ∙ sym h
one_of (o ∷ offers) apart p q (inl e) (inr j) f g what to other =
    absurd (other (subst (λ (a : Offer). AreApart a q) (sym e) (apart.0 q j) f g what to).0)
one_of (o ∷ offers) apart p q (inr i) (inl h) f g what to other =
    absurd (other (what ∙ (subst (λ (a : Offer). AreApart a p) (sym h) (apart.0 p i) g f (sym what) (sym to)).0))
one_of (o ∷ offers) apart p q (inr i) (inr j) f g what to other = one_of offers apart.1 p q i j f g what to other

-- who leads all the time does not stand
stands_not_by : (n term : ℕ) (rows : List Timed) (v : Cluster)
    → ((front rest : List Timed) (timed : Timed) → rows ≡ front ++ timed ∷ rest → LeadsIn n term (after_rows v (rows_in front))) → StandsNot n v rows
stands_not_by n term [] v leads = tt
stands_not_by n term (first ∷ rows) v leads = (
  λ other stands. leader_stands_not n term other v first.row (leads [] rows first refl) stands,
  stands_not_by n term rows (after_row v first.row) (λ front rest timed same. leads (first ∷ front) rest timed (ap (λ (l : List Timed). first ∷ l) same)),
)

-- the next call after an answer begins no further on than the log, and what is known
near_by : (success : Bool) (next matched reached size next_then matched_then size_then : ℕ) → next_then ≡ (if success then max matched reached + 1 else max 1 (next - 1))
    → matched_then ≡ (if success then max matched reached else matched) → next ≤ size + 1 → size ≤ size_then → next_then ≤ max size_then (matched_then + 1)
near_by true next matched reached size next_then matched_then size_then e f inside grown = omega (arith, e, f)
near_by false next matched reached size next_then matched_then size_then e f inside grown = omega (arith, e, f, inside, grown)

-- calls read as said in this world
abbrev CallsReadIn : Cluster → Type 0
CallsReadIn v = (n : ℕ) (row : Row) (offer : Offer) → DoesNoHarm v row → IsRunning n v → Sends n v row offer → offer.what ≡ AppQ → ReadsAsSaid (sent_by n v offer)

-- ---- a call

-- Member n calls member m in a row of the calm. Behind it rows follow until later than four delays, and behind each
-- front of those n leads in this term.
pub record CallMade (s : Course) (n m term : ℕ) : Type 0 where
  pub front : List Timed
  pub timed : Timed
  pub early : List Timed
  pub rest : List Timed
  pub cut : s.whole ≡ front ++ timed ∷ (early ++ rest)
  pub offer : Offer
  pub sends : Sends n (here s front) timed.row offer
  pub what : offer.what ≡ AppQ
  pub to : offer.to ≡ m
  pub led : (c d : List Timed) → early ≡ c ++ d → LeadsIn n term (here s ((front ++ timed ∷ []) ++ c))
  pub late : timed.at + 4 * s.pace.delay < end_of timed.at early

module _ (s : Course) (g : Grounds s.ids s.rows) (laws : EntryLaws s.ids s.rows) (take : AnswersAreTaken) (n m term : ℕ)
    (in_n : In (OfMember n) s.group) (in_m : In (OfMember m) s.group) (apart : n ≢ m) (k : CallMade s n m term) where
  -- the front up to the call, with its row, and the world behind it
  abbrev pub upto : List Timed
  upto = k.front ++ k.timed ∷ []

  abbrev pub then_w : Cluster
  then_w = after_row (here s k.front) k.timed.row

  pub cut_behind : s.whole ≡ upto ++ (k.early ++ k.rest)
  cut_behind = k.cut ∙ sym (append_assoc k.front (k.timed ∷ []) (k.early ++ k.rest))

  pub world_then : (c : List Timed) → here s (upto ++ c) ≡ after_rows then_w (rows_in c)
  world_then c = ap (here s) (append_assoc k.front (k.timed ∷ []) c) ∙ world_both (w s) k.front (k.timed ∷ c)

  -- ---- the answer comes

  nobody_before : (a b : List Timed) → k.early ≡ a ++ b → StandsNot n then_w a
  nobody_before a b whole = stands_not_by n term a then_w
      (λ c d timed part. subst (LeadsIn n term) (world_then c)
      (k.led c (timed ∷ (d ++ b)) (whole ∙ (ap (λ (l : List Timed). l ++ b) part ∙ append_assoc c (timed ∷ d) b))))

  -- the first row behind it that is later than an answer
  abbrev next : FirstBehind s.pace (k.timed.at + 4 * s.pace.delay) k.timed.at k.early
  next = next_row s n in_n k.front k.early k.rest k.timed k.cut k.late

  cut_then : s.whole ≡ k.front ++ k.timed ∷ (next.before ++ next.last ∷ (next.later ++ k.rest))
  cut_then = cut_next s n in_n k.front k.early k.rest k.timed k.cut k.late

  pub reply : ReplyIsTaken n m (sent_by n (here s k.front) k.offer) k.timed.at s.pace.delay (k.timed.at + s.clocks (OfMember n)) then_w k.early
  reply = reply_longer n m (sent_by n (here s k.front) k.offer) k.timed.at s.pace.delay (k.timed.at + s.clocks (OfMember n)) then_w
      next.before (next.last ∷ next.later) k.early next.split
      (reply_is_taken s.ids s.rows g s.group s.clocks s.pace s.start n m k.front next.before (next.later ++ k.rest) k.timed next.last
      (recut (the_calm s) (k.front ++ k.timed ∷ (next.before ++ next.last ∷ (next.later ++ k.rest))) cut_then) in_n in_m apart k.offer k.sends k.what k.to
      (nobody_before next.before (next.last ∷ next.later) next.split) next.late)

  -- ---- behind the row of the call

  abbrev pub called : AllocatorState
  called = (step k.sends.server ((here s k.front).rows + 1) k.sends.event).step_state.allocator

  called_up : (then_w.member n).status ≡ Up called
  called_up = (stepped_up (here s k.front) n k.sends.server
      (record { status = k.sends.runs; quiet = (known_at s n in_n k.front (k.timed ∷ (k.early ++ k.rest)) k.cut).up.quiet }) k.timed.row k.sends.event k.sends.in_step).status

  called_then : ((here s upto).member n).status ≡ Up called
  called_then = ap (λ (v : Cluster). (v.member n).status) (world_both (w s) k.front (k.timed ∷ [])) ∙ called_up

  pub asks : AsksNext m ((here s k.front).rows + 1) k.offer called
  asks = laws.ask k.sends.server ((here s k.front).rows + 1) k.sends.event m k.offer k.sends.offered k.what k.to k.sends.fitted

  pub called_term : called.raft_server.store.term ≡ term
  called_term = (leads_at s n term in_n upto k.early k.rest cut_behind k.led [] k.early refl called
      (ap (λ (v : Cluster). (v.member n).status) (world_then []) ∙ called_up)).1

  request_is : reply.request ≡ next_request m ((here s k.front).rows + 1) called
  request_is = one_request _ _ (sym reply.asked ∙ asks.says)

  request_term : reply.request.term ≡ term
  request_term = ap (λ (r : Request). r.term) request_is ∙ called_term

  -- ---- the row in which the answer is taken

  abbrev pub hearing : Cluster
  hearing = after_rows then_w (rows_in reply.front)

  abbrev pub taking : Cluster
  taking = after_rows (after_row hearing reply.heard.row) (rows_in reply.between)

  -- the rows behind the call up to the one in which the answer is taken
  abbrev pub between : List Timed
  between = reply.front ++ reply.heard ∷ reply.between

  pub part_take : k.early ≡ between ++ reply.taken ∷ reply.last
  part_take = reply.split ∙ sym (append_assoc reply.front (reply.heard ∷ reply.between) (reply.taken ∷ reply.last))

  pub part_taken : k.early ≡ (between ++ reply.taken ∷ []) ++ reply.last
  part_taken = part_take ∙ sym (append_assoc between (reply.taken ∷ []) reply.last)

  taking_is : here s (upto ++ between) ≡ taking
  taking_is = world_then between ∙ world_both then_w reply.front (reply.heard ∷ reply.between)

  taken_is : here s (upto ++ (between ++ reply.taken ∷ [])) ≡ after_row taking reply.taken.row
  taken_is = world_then (between ++ reply.taken ∷ []) ∙ (world_both then_w between (reply.taken ∷ [])
      ∙ ap (λ (v : Cluster). after_row v reply.taken.row) (world_both then_w reply.front (reply.heard ∷ reply.between)))

  abbrev pub before : AllocatorState
  before = reply.delivers.server

  pub before_up : ((here s (upto ++ between)).member n).status ≡ Up before
  before_up = ap (λ (v : Cluster). (v.member n).status) taking_is ∙ reply.delivers.runs

  abbrev pub number : ℕ
  number = taking.rows + 1

  abbrev pub event : Event
  event = receipt_of taking reply.delivers.k reply.delivers.ms

  abbrev pub after : AllocatorState
  after = (step before number event).step_state.allocator

  pub after_up : ((here s (upto ++ (between ++ reply.taken ∷ []))).member n).status ≡ Up after
  after_up = ap (λ (v : Cluster). (v.member n).status) taken_is ∙ reply.runs_then

  pub leads_before : (before.raft_server.memory.role ≡ Leader) × (before.raft_server.store.term ≡ term)
  leads_before = leads_at s n term in_n upto k.early k.rest cut_behind k.led between (reply.taken ∷ reply.last) part_take before before_up

  pub leads_after : (after.raft_server.memory.role ≡ Leader) × (after.raft_server.store.term ≡ term)
  leads_after = leads_at s n term in_n upto k.early k.rest cut_behind k.led (between ++ reply.taken ∷ []) reply.last part_taken after after_up

  -- ---- the call is answered

  pub reads : ReadsAsSaid (sent_by n (here s k.front) k.offer)
  reads = subst CallsReadIn (after_both (cluster s.ids) s.rows (rows_in k.front))
      (laws.read (rows_in k.front) (harm_front (the_calm s) k.front (k.timed ∷ (k.early ++ k.rest)) k.cut))
      n k.timed.row k.offer (harm_row (the_calm s) k.front (k.early ++ k.rest) k.timed k.cut) (running_at (the_calm s) n in_n k.front (k.timed ∷ (k.early ++ k.rest)) k.cut) k.sends k.what

  said_is : reply.request ≡ handled.append_request_of reads.request (sent_by n (here s k.front) k.offer).step n k.offer.to
  said_is = one_request _ _ (sym reply.asked ∙ reads.said)

  asked_is : reply.request ≡ asked_by (sent_by n (here s k.front) k.offer) reads.request m
  asked_is = said_is ∙ ap (λ (p : ℕ). handled.append_request_of reads.request (sent_by n (here s k.front) k.offer).step n p) k.to

  abbrev pub d : Delivers m (sent_by n (here s k.front) k.offer) hearing reply.heard.row
  d = reply.hears

  abbrev behind_heard : List Timed
  behind_heard = reply.between ++ reply.taken ∷ reply.last

  -- the front before the row in which the call is heard
  cut_heard : s.whole ≡ (upto ++ reply.front) ++ reply.heard ∷ (behind_heard ++ k.rest)
  cut_heard = cut_at s n term in_n upto k.early k.rest cut_behind k.led reply.front (reply.heard ∷ behind_heard) reply.split

  heard_up : ((here s (upto ++ reply.front)).member m).status ≡ Up d.server
  heard_up = ap (λ (v : Cluster). (v.member m).status) (world_then reply.front) ∙ d.runs

  its_me : d.server.me ≡ m
  its_me = let run = known_at s m in_m (upto ++ reply.front) (reply.heard ∷ (behind_heard ++ k.rest)) cut_heard in
      ap (λ (a : AllocatorState). a.me) (same_server d.server run.server (sym heard_up ∙ run.up.status)) ∙ run.holds.me

  listed : In n (members_of d.server)
  listed = laws.stay s.group s.clocks s.pace (no_traffic s.start) m n (upto ++ reply.front) (reply.heard ∷ (behind_heard ++ k.rest)) (w s) (s.calm.running m in_m)
      (recut (the_calm s) _ cut_heard).calm (s.calm.exchange n m in_n in_m apart).hears_it d.server heard_up

  place : HasPlace m (here s (upto ++ reply.front))
  place = throughout_at (HasPlace m) (upto ++ reply.front) (behind_heard ++ k.rest) reply.heard (w s)
      (subst (Throughout (HasPlace m) (w s)) cut_heard (s.calm.exchange n m in_n in_m apart).place)

  abbrev pub answer : Answer
  answer = answer_by (hearing.rows + 1) d.server (asked_by (sent_by n (here s k.front) k.offer) reads.request m)

  pub answers : AnswersCall m (sent_by n (here s k.front) k.offer) reads.request hearing reply.heard.row d
  answers = g.below.calls_answered m (sent_by n (here s k.front) k.offer) reads.request hearing reply.heard.row d its_me k.what reads.read listed

  pub same_offer : answers.offer ≡ reply.offer
  same_offer = one_of (step d.server (hearing.rows + 1) (receipt_of hearing d.k d.ms)).step_state.offers
      (g.below.wins.election.calm.apart d.server (hearing.rows + 1) (receipt_of hearing d.k d.ms)) answers.offer reply.offer answers.offered
      (subst (λ (a : AllocatorState). In reply.offer (step a (hearing.rows + 1) (receipt_of hearing d.k d.ms)).step_state.offers)
      (same_server reply.sends.server d.server (sym reply.sends.runs ∙ d.runs))
      (subst (λ (e : Event). In reply.offer (step reply.sends.server (hearing.rows + 1) e).step_state.offers)
      (same_event m m reply.sends.event (receipt_of hearing d.k d.ms) (sym reply.sends.in_step ∙ ap (λ (r : Row). step_of hearing r) d.comes)) reply.sends.offered))
      (answers.fitted ∙ (ap (has_room d.server.queue) answers.written ∙ answer_fits d.server.queue answer (place d.server heard_up)))
      reply.sends.fitted (answers.what ∙ sym reply.what) (answers.to ∙ sym reply.to) (λ e. absurd (cc (sym answers.what ∙ e)))

  told_is : reply.told.answer ≡ answer
  told_is = one_answer reply.told.answer answer (sym reply.told.said ∙ (ap (λ (o : Offer). o.says) (sym same_offer) ∙ answers.says))

  -- the answer is of the leader's term
  told_term : reply.told.answer.term ≡ reply.request.term
  told_term =
      let is = ap (λ (a : Answer). a.term) told_is in
      let least = least_term d.server.raft_server.store reads.request.term in
      let said = ap (λ (r : Request). r.term) said_is in
      let high = reply.learned in
      let own = leads_after.1 in
      let pends = request_term in
      omega (arith, is, least, said, high, own, pends)

  -- ---- it is taken

  waits : WaitsForAnswer m reply.offer.id (k.timed.at + s.clocks (OfMember n)) reply.request before
  waits = record {
    leads = leads_before.0;
    term = request_term ∙ sym leads_before.1;
    append = reply.waits.append;
    listed = reply.waits.listed;
    pending = reply.waits.pending;
    kept = reply.waits.kept;
  }

  abbrev pub got : Answer
  got = handled.answer_of (hearing.rows + 1) m reply.request reply.told.answer.term reply.told.answer.success

  got_is : got ≡ answer
  got_is i = record { step = hearing.rows + 1; from = sym its_me i; request = asked_is i; term = (told_is i).term; success = (told_is i).success }

  pub takes_got : TakesAnswer number got before after
  takes_got = (take n (k.timed.at + s.clocks (OfMember n)) (sent_by m hearing reply.offer) reply.request
      (record { term = reply.told.answer.term; success = reply.told.answer.success }) taking reply.taken.row reply.delivers reply.me reply.what reply.told.read waits reply.soon).0
      told_term

  pub takes : TakesAnswer number answer before after
  takes = subst (λ (a : Answer). TakesAnswer number a before after) got_is takes_got

  -- ---- so the call comes back

  pub came_back : ComesBack n m (sent_by n (here s k.front) k.offer) reads.request k.timed.at s.pace.delay (here s k.front) (k.timed ∷ k.early)
  came_back = record {
    front = k.timed ∷ reply.front;
    timed = reply.heard;
    rest = behind_heard;
    split = ap (λ (l : List Timed). k.timed ∷ l) reply.split;
    soon = reply.heard_soon;
    delivers = d;
    answers = answers;
    taken = subst (λ (o : Offer). IsTakenBy n (sent_by m hearing o) answer (k.timed.at + 4 * s.pace.delay) (after_row hearing reply.heard.row) behind_heard) (sym same_offer)
        (record { front = reply.between; timed = reply.taken; rest = reply.last; split = refl; soon = reply.taken_soon; delivers = reply.delivers; takes = takes });
  }

  -- ---- behind the answer

  -- its log is no shorter then
  grown : length before.raft_server.store.log ≤ length after.raft_server.store.log
  grown = by (step_knows m term 0 before.raft_server.store.log left over number before event (inr (record {
    its_term = leads_before.1;
    leads = leads_before.0;
    matched_is = omega arith;
    few = omega arith;
    near = omega arith;
    more = [];
    log_is = sym (append-nil before.raft_server.store.log);
  })))
    where
      left : ℕ
      left = still_left (before.raft_server.memory.next m) (before.raft_server.memory.matched m) (length before.raft_server.store.log)

      over : ℕ
      over = before.raft_server.memory.next m

      by : Knows m term 0 before.raft_server.store.log left over after.raft_server → length before.raft_server.store.log ≤ length after.raft_server.store.log
      by (inl high) = absurd (let own = leads_after.1 in omega (arith, high, own))
      by (inr l) = longer m term 0 before.raft_server.store.log left over after.raft_server l

  near_after : Leads m term 0 [] (after.raft_server.memory.next m) 0 after.raft_server
  near_after = record {
    its_term = leads_after.1;
    leads = leads_after.0;
    matched_is = omega arith;
    few = omega arith;
    near = let near = near_by got.success (before.raft_server.memory.next m) (before.raft_server.memory.matched m) (reach got.request) (length before.raft_server.store.log)
        (after.raft_server.memory.next m) (after.raft_server.memory.matched m) (length after.raft_server.store.log) takes_got.next takes_got.matched
        (inside_at s n term in_n upto k.early k.rest cut_behind k.led laws m between (reply.taken ∷ reply.last) part_take before before_up).1 grown in omega (arith, near);
    more = after.raft_server.store.log;
    log_is = refl;
  }

  near_last : Near s n term in_n upto k.early k.rest cut_behind k.led laws m (after.raft_server.memory.next m) k.early
  near_last = near_on s n term in_n upto k.early k.rest cut_behind k.led laws m (after.raft_server.memory.next m) (between ++ reply.taken ∷ []) reply.last part_taken
      (λ u up. subst (λ (a : AllocatorState). Leads m term 0 [] (after.raft_server.memory.next m) 0 a.raft_server) (same_server after u (sym after_up ∙ up)) near_after)

  since_called : PendsSince n m (here s k.front).rows (here s upto)
  since_called t asked up pends =
      let same = same_server called t (sym called_then ∙ up) in
      let is : asked ≡ next_request m ((here s k.front).rows + 1) called
      = its_request asked _ (sym pends ∙ (ap (λ (a : AllocatorState). a.raft_server.memory.pending m) (sym same) ∙ asks.pending)) in
      let its_number = ap (λ (r : Request). r.step) is in
      omega (arith, its_number)

  -- each call that pends was made in the row of this call, or behind it
  pub pends_since : (u : AllocatorState) (asked : Request) → ((here s (upto ++ k.early)).member n).status ≡ Up u → u.raft_server.memory.pending m ≡ Some asked
      → (here s k.front).rows < asked.step
  pends_since u asked up pends =
      let all = rows_counted (w s) upto in
      let some = rows_counted (w s) k.front in
      let both = length-append k.front (k.timed ∷ []) in
      pends_on s n term in_n upto k.early k.rest cut_behind k.led laws m (here s k.front).rows (omega (arith, some)) (omega (arith, all, some, both)) since_called
      u asked up pends

  -- and the next call begins no further on than the log, and what is known
  pub next_is_near : (u : AllocatorState) → ((here s (upto ++ k.early)).member n).status ≡ Up u
      → u.raft_server.memory.next m ≤ max (length u.raft_server.store.log) (u.raft_server.memory.matched m + 1)
  next_is_near u up = let l = (near_last u up).near in omega (arith, l)
