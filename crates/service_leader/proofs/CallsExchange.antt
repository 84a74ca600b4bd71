-- A member that calls another one, in a calm, as one that asks and one that answers; and nothing is under way when the
-- calm begins.
use Rattle.std.proofs.Common.{◌≡◌, ◌≢◌, ℕ, ◌+◌, ◌*◌, ◌<◌, ◌≤◌, arith, Bool, List, [], ◌∷◌, refl, sym, ◌∙◌, ap, subst, inl, inr, None, Some}
use Rattle.std.specs.Prelude.{if◌then◌else◌}
use Rattle.can_frame.specs.declared.step.What.TheVariants.{Alloc, App, AppQ}
use Rattle.dsdl_codec.specs.declared.append_request.AppendRequest.{AppendRequest}
use Rattle.raft_model.specs.Lists.{In}
use Rattle.raft_model.specs.Messages.{Answer}
use Rattle.raft_model.specs.Messages.Message.{Answers}
use Rattle.raft_model.specs.Moves.Elections.{with_term}
use Rattle.raft_model.specs.Server.{Store, put_all}
use Rattle.raft_model.specs.Server.Put.{PutTerm, PutVote}
use Rattle.bus_rows.specs.declared.row.Row.{Row}
use Rattle.alloc_spec.specs.AllocatorState.{AllocatorState, members_of}
use Rattle.alloc_spec.specs.Step.{Event, step}
use Rattle.alloc_spec.specs.Transfers.{Offer, SentTransfer, has_room}
use Rattle.alloc_spec_laws.proofs.Choices.{lt_tells}
use Rattle.alloc_spec_laws.specs.Apart.{AreAllApart}
use Rattle.service_leader.specs.Answers.{AnswersAsSaid, AnswersCall, answer_by, asked_by}
use Rattle.service_leader.specs.CallsComeBack.{HasPlace}
use Rattle.service_leader.specs.Entries.{CanExchange}
use Rattle.service_leader.proofs.AnswersOffered.{answer_fits, answer_sent, answers}
use Rattle.service_leader.proofs.Exchange.{AllGiven, Exchange, IsAnswered}
use Rattle.service_leader.proofs.ExchangeStart.{Fresh}
use Rattle.service_calm.specs.Calls.{ReadsAsSaid}
use Rattle.service_calm.specs.Calm.{AreCalm, Member as OfMember, Party, no_traffic}
use Rattle.service_calm.specs.Comes.{Delivers, MayComeFirst, Sends}
use Rattle.service_calm.proofs.Group.{AreWell, CalmLaws, IsServer}
use Rattle.bus_rows.specs.Timed.{Timed}
use Rattle.service_alone.specs.Calm.{Pace}
use Rattle.service_alone.proofs.Members.{IsQuiet}
use Rattle.bus_spec.specs.Cluster.{Cluster}
use Rattle.bus_spec.specs.Members.MemberStatus.{Up}

-- ---- what an answer tells

-- the term of an answer is not below that of the request
pub least_term : (store : Store) (k : ℕ) → k ≤ (with_term store k).term
least_term store k = elim (lt_tells store.term k) [
  | inl z ↦ subst (λ (b : Bool). k ≤ (put_all store (if b then PutTerm k ∷ PutVote None ∷ [] else [])).term) (sym z.0) (omega arith)
  | inr z ↦ subst (λ (b : Bool). k ≤ (put_all store (if b then PutTerm k ∷ PutVote None ∷ [] else [])).term) (sym z.0) z.1
]

-- nor below that of the server
pub no_lower : (store : Store) (k : ℕ) → store.term ≤ (with_term store k).term
no_lower store k = elim (lt_tells store.term k) [
  | inl z ↦ subst (λ (b : Bool). store.term ≤ (put_all store (if b then PutTerm k ∷ PutVote None ∷ [] else [])).term) (sym z.0) (let l = z.1 in omega (arith, l))
  | inr z ↦ subst (λ (b : Bool). store.term ≤ (put_all store (if b then PutTerm k ∷ PutVote None ∷ [] else [])).term) (sym z.0) (omega arith)
]

-- an answer says that of a server: a term that is no lower than its own
abbrev pub TellsTerm : AllocatorState → Offer → Type 0
TellsTerm t offer = (answer : Answer) × (offer.says ≡ Some (Answers answer)) × (t.raft_server.store.term ≤ answer.term)

-- an answer is sent by who has a place for it
pub sent_if_placed : (m : ℕ) (x : SentTransfer) (request : AppendRequest) (w : Cluster) (row : Row) (delivers : Delivers m x w row)
    (own : AnswersCall m x request w row delivers) → HasPlace m w → Sends m w row own.offer
sent_if_placed m x request w row delivers own place = answer_sent m x request w row delivers own
    (own.fitted ∙ (ap (has_room delivers.server.queue) own.written
    ∙ answer_fits delivers.server.queue (answer_by (w.rows + 1) delivers.server (asked_by x request m)) (place delivers.server delivers.runs)))

-- who is called answers
pub its_answer : (m : ℕ) (x : SentTransfer) (w : Cluster) (row : Row) (delivers : Delivers m x w row) → delivers.server.me ≡ m → x.offer.what ≡ AppQ → ReadsAsSaid x
    → In x.by (members_of delivers.server) → HasPlace m w → IsAnswered m App TellsTerm x w row
its_answer m x w row delivers me what reads listed place = let a : AnswersCall m x reads.request w row delivers = answers m x reads.request w row delivers me what reads.read listed in record {
  offer = a.offer;
  sends = sent_if_placed m x reads.request w row delivers a place;
  what = a.what;
  to = a.to;
  id = a.id;
  server = delivers.server;
  runs = delivers.runs;
  tells = (answer_by (w.rows + 1) delivers.server (asked_by x reads.request m), a.says, no_lower delivers.server.raft_server.store (asked_by x reads.request m).term);
}

-- ---- the two

-- neither is an Allocation
pub call_is_other : AppQ ≢ Alloc
call_is_other e = cc e

pub answer_is_other : App ≢ Alloc
answer_is_other e = cc e

module _ (laws : CalmLaws) (apart_offers : (t : AllocatorState) (number : ℕ) (event : Event) → AreAllApart (step t number event).step_state.offers)
    (stay : (t : AllocatorState) (number : ℕ) (event : Event) (node : ℕ) → In node (members_of t) → In node (members_of (step t number event).step_state.allocator))
    (group : List Party) (clocks : Party → ℕ) (pace : Pace) (nodes : (p : ℕ) → In (OfMember p) group → (1 ≤ p) × (p ≤ 125))
    (n m : ℕ) (in_n : In (OfMember n) group) (in_m : In (OfMember m) group) (apart : n ≢ m) (quick : 4 * pace.delay < 1000)
    (w : Cluster) (whole : List Timed) (can : CanExchange n m w whole) where
  -- member n calls, and member m answers
  abbrev pub calling : Exchange
  calling = record {
    laws = laws;
    apart_offers = apart_offers;
    stay = stay;
    group = group;
    clocks = clocks;
    pace = pace;
    nodes = nodes;
    n = n;
    m = m;
    in_n = in_n;
    in_m = in_m;
    apart = apart;
    quick = omega (arith, quick);
    asks = AppQ;
    answers = App;
    heard_asks = (call_is_other, refl);
    heard_answers = (answer_is_other, refl);
    counted = omega (arith, (nodes m in_m).1);
    asks_kind = refl;
    answers_kind = refl;
    numbers = refl;
    Reads = ReadsAsSaid;
    Tells = TellsTerm;
    Told = AnswersAsSaid;
    answered = its_answer m;
    base_m = can.calls.receiver.now;
    BeginsM = MayComeFirst n AppQ m can.calls.receiver;
    base_n = can.answers.receiver.now;
    BeginsN = MayComeFirst m App n can.answers.receiver;
  }

  -- nothing is under way when the calm begins
  pub fresh : (start : ℕ) → ((t : AllocatorState) → (w.member n).status ≡ Up t → IsServer n t) → ((t : AllocatorState) → (w.member m).status ≡ Up t → IsServer m t)
      → IsQuiet (w.member n).disk → IsQuiet (w.member m).disk → AreCalm group clocks pace (no_traffic start) w whole → AreWell group w → AllGiven calling w whole
      → Fresh calling start w whole
  fresh start is_n is_m quiet_n quiet_m calm are given = record {
    requests = can.calls;
    replies = can.answers;
    base_m = refl;
    base_n = refl;
    admits_m = λ id begins. begins;
    admits_n = λ id begins. begins;
    may = can.first_call;
    may_answer = can.first_answer;
    lists = can.hears_it;
    is_n = is_n;
    is_m = is_m;
    quiet_n = quiet_n;
    quiet_m = quiet_m;
    calm = calm;
    are = are;
    given = given;
  }
