-- A member that asks another one for its vote, in a calm, as one that asks and one that answers: an answer is sent, and
-- says a term; and nothing is under way when the calm begins.
use Rattle.std.proofs.Common.{◌≡◌, ◌≢◌, ℕ, ◌+◌, ◌*◌, ◌<◌, ◌≤◌, arith, true, List, length, refl, sym, ◌∙◌, ap}
use Rattle.std.proofs.lemmas.Bool.{le-leb}
use Rattle.can_frame.specs.declared.step.What.TheVariants.{Alloc, Vote, VoteQ}
use Rattle.dsdl_codec.specs.declared.vote_request.VoteRequest.{VoteRequest}
use Rattle.raft_model.specs.Lists.{In}
use Rattle.raft_model.specs.Messages.{Answer}
use Rattle.bus_rows.specs.declared.row.Row.{Row}
use Rattle.transfer_rx.specs.Keys.{key_of}
use Rattle.transfer_tx.specs.Queue.{Queued}
use Rattle.alloc_spec.specs.AllocatorState.{AllocatorState, members_of}
use Rattle.alloc_spec.specs.Step.{Event, step}
use Rattle.alloc_spec.specs.Transfers.{SentTransfer, has_room, ident_of, kind_of, number_of}
use Rattle.alloc_spec_laws.specs.Apart.{AreAllApart}
use Rattle.alloc_spec_laws.specs.Saying.{vote_bytes}
use Rattle.service_candidate.specs.Votes.{AnswersVote, CanAsk, VoteComes, VoteReadsAsSaid, VotesAreAnswered, vote_asked_by, vote_by}
use Rattle.service_leader.proofs.Exchange.{AllGiven, Exchange, IsAnswered}
use Rattle.service_leader.proofs.ExchangeAnswers.{IsSilent}
use Rattle.service_leader.proofs.ExchangeStart.{Fresh}
use Rattle.service_leader.proofs.CallsExchange.{TellsTerm, no_lower}
use Rattle.service_leader.specs.CallsComeBack.{HasPlace}
use Rattle.service_calm.specs.Calm.{AreCalm, Member as OfMember, Party, no_traffic}
use Rattle.service_calm.specs.Comes.{Delivers, MayComeFirst, Sends, delivery_of}
use Rattle.service_calm.proofs.Group.{AreWell, CalmLaws, IsServer}
use Rattle.bus_rows.specs.Timed.{Timed}
use Rattle.service_alone.specs.Calm.{Pace}
use Rattle.service_alone.proofs.Members.{IsQuiet}
use Rattle.bus_spec.specs.Cluster.{Cluster, receipt_of, step_of}
use Rattle.bus_spec.specs.Members.MemberStatus.{Up}

-- ---- an answer is sent

-- an answer is one frame, for which a queue with a place left has room
pub vote_fits : (queue : List Queued) (a : Answer) → length queue < 32 → has_room queue (vote_bytes a) ≡ true
vote_fits queue a few_wait = le-leb (length queue + 1) 32 (omega (arith, few_wait))

-- an answer that found room is sent
pub vote_sent : (m : ℕ) (x : SentTransfer) (request : VoteRequest) (w : Cluster) (row : Row) (delivers : Delivers m x w row)
    (answers : AnswersVote m x request w row delivers) → HasPlace m w → Sends m w row answers.offer
vote_sent m x request w row delivers answers place = record {
  server = delivers.server;
  runs = delivers.runs;
  event = receipt_of w delivers.k delivers.ms;
  in_step = ap (λ (r : Row). step_of w r) delivers.comes;
  offered = answers.offered;
  fitted = answers.fitted ∙ (ap (has_room delivers.server.queue) answers.written
      ∙ vote_fits delivers.server.queue (vote_by (w.rows + 1) delivers.server (vote_asked_by x request m)) (place delivers.server delivers.runs));
}

-- ---- the two

-- in a row in which no answer comes no vote does
pub no_vote : (both : Exchange) → both.answers ≡ Vote → (w : Cluster) (row : Row) → IsSilent both w row → (id : ℕ) → VoteComes both.n both.m id w row → ⊥
no_vote both is w row silent id v = silent v.delivers.server v.delivers.runs v.delivers.k v.delivers.ms v.delivers.comes (delivery_of v.y) key v.delivers.gives
  where
    key : key_of (ident_of v.y.by v.y.offer.what v.y.offer.to) ≡ key_of (ident_of both.m both.answers both.n)
    key = λ i. record { kind = kind_of ((v.what ∙ sym is) i); number = number_of ((v.what ∙ sym is) i); source = v.by i }

-- neither is an Allocation
pub ask_is_other : VoteQ ≢ Alloc
ask_is_other e = cc e

pub vote_is_other : Vote ≢ Alloc
vote_is_other e = cc e

module _ (laws : CalmLaws) (apart_offers : (t : AllocatorState) (number : ℕ) (event : Event) → AreAllApart (step t number event).step_state.offers)
    (stay : (t : AllocatorState) (number : ℕ) (event : Event) (node : ℕ) → In node (members_of t) → In node (members_of (step t number event).step_state.allocator))
    (votes_answered : VotesAreAnswered) (Told : SentTransfer → Type 0) (group : List Party) (clocks : Party → ℕ) (pace : Pace)
    (nodes : (p : ℕ) → In (OfMember p) group → (1 ≤ p) × (p ≤ 125)) (n m : ℕ) (in_n : In (OfMember n) group) (in_m : In (OfMember m) group) (apart : n ≢ m)
    (quick : 2 * pace.delay ≤ 2000) (w : Cluster) (whole : List Timed) (can : CanAsk n m w whole) where
  -- who is asked answers
  pub its_vote : (x : SentTransfer) (v : Cluster) (row : Row) (delivers : Delivers m x v row) → delivers.server.me ≡ m → x.offer.what ≡ VoteQ → VoteReadsAsSaid x
      → In x.by (members_of delivers.server) → HasPlace m v → IsAnswered m Vote TellsTerm x v row
  its_vote x v row delivers me what reads listed place = let a : AnswersVote m x reads.request v row delivers = votes_answered m x reads.request v row delivers me what reads.read listed in record {
    offer = a.offer;
    sends = vote_sent m x reads.request v row delivers a place;
    what = a.what;
    to = a.to;
    id = a.id;
    server = delivers.server;
    runs = delivers.runs;
    tells = (vote_by (v.rows + 1) delivers.server (vote_asked_by x reads.request m), a.says, no_lower delivers.server.raft_server.store (vote_asked_by x reads.request m).term);
  }

  -- member n asks, and member m answers, of whose answers this is read
  abbrev pub voting : Exchange
  voting = record {
    laws = laws;
    apart_offers = apart_offers;
    stay = stay;
    group = group;
    clocks = clocks;
    pace = pace;
    nodes = nodes;
    n = n;
    m = m;
    in_n = in_n;
    in_m = in_m;
    apart = apart;
    quick = quick;
    asks = VoteQ;
    answers = Vote;
    heard_asks = (ask_is_other, refl);
    heard_answers = (vote_is_other, refl);
    counted = omega (arith, (nodes m in_m).1);
    asks_kind = refl;
    answers_kind = refl;
    numbers = refl;
    Reads = VoteReadsAsSaid;
    Tells = TellsTerm;
    Told = Told;
    answered = its_vote;
    base_m = can.calls.receiver.now;
    BeginsM = MayComeFirst n VoteQ m can.calls.receiver;
    base_n = can.answers.receiver.now;
    BeginsN = MayComeFirst m Vote n can.answers.receiver;
  }

  -- nothing is under way when the calm begins
  pub fresh : (start : ℕ) → ((t : AllocatorState) → (w.member n).status ≡ Up t → IsServer n t) → ((t : AllocatorState) → (w.member m).status ≡ Up t → IsServer m t)
      → IsQuiet (w.member n).disk → IsQuiet (w.member m).disk → AreCalm group clocks pace (no_traffic start) w whole → AreWell group w → AllGiven voting w whole
      → Fresh voting start w whole
  fresh start is_n is_m quiet_n quiet_m calm are given = record {
    requests = can.calls;
    replies = can.answers;
    base_m = refl;
    base_n = refl;
    admits_m = λ id begins. begins;
    admits_n = λ id begins. begins;
    may = can.first_call;
    may_answer = can.first_answer;
    lists = can.hears_it;
    is_n = is_n;
    is_m = is_m;
    quiet_n = quiet_n;
    quiet_m = quiet_m;
    calm = calm;
    are = are;
    given = given;
  }
