-- What a server takes from members was said by them: requests are in the bag, and an answer that a call takes answers that very call, or counts for nothing.
use Rattle.std.proofs.Common.{◌≡◌, ◌≢◌, ◌⊎◌, ℕ, ◌<◌, ◌≤◌, Bool, true, false, List, refl, sym, ap, subst, ◌∙◌, arith, inl, inr, Option, Some, None}
use Rattle.std.specs.Prelude.{◌-◌, ◌==◌, ◌&&◌, not, nat_eq, nat_le, nat_lt, if◌then◌else◌, IfSome}
use Rattle.std.proofs.lemmas.Bool.{ltb-true}
use Rattle.std.proofs.lemmas.Bool.Decides.{eqb_tells, leb_tells}
use Rattle.can_frame.specs.declared.entry.Entry.{Entry}
use Rattle.can_frame.specs.declared.identifier.Kind.TheVariants.{Request as RequestKind, Response}
use Rattle.can_frame.specs.declared.step.What.{What}
use Rattle.can_frame.specs.declared.step.What.TheVariants.{Alloc, Disc, Stat, InfoQ, Info, VoteQ, Vote, AppQ, App}
use Rattle.can_frame.specs.Kinds.{is_response}
use Rattle.dsdl_codec.specs.declared.append_answer.AppendAnswer.{AppendAnswer}
use Rattle.dsdl_codec.specs.declared.append_request.AppendRequest.{AppendRequest}
use Rattle.dsdl_codec.specs.declared.vote_answer.VoteAnswer.{VoteAnswer}
use Rattle.dsdl_codec.specs.declared.vote_request.VoteRequest.{VoteRequest}
use Rattle.dsdl_codec.specs.AppendAnswer.{append_answer_of}
use Rattle.dsdl_codec.specs.AppendRequest.{append_request_of}
use Rattle.dsdl_codec.specs.Entry.{IsEntry}
use Rattle.dsdl_codec.specs.VoteAnswer.{vote_answer_of}
use Rattle.dsdl_codec.specs.VoteRequest.{vote_request_of}
use Rattle.raft_core.specs.Handled as handled
use Rattle.raft_core.specs.Times.{Sending, awaits}
use Rattle.raft_model.specs.Lists.{In}
use Rattle.raft_model.specs.Messages.{Answer, Message, Request}
use Rattle.raft_model.specs.Messages.Message.{Answers, Requests}
use Rattle.raft_model.specs.Moves.{IsHeard}
use Rattle.transfer_rx.specs.Reassembly.{Delivery}
use Rattle.alloc_spec_laws.specs.Coming.{RequestsFrom}
use Rattle.alloc_spec_laws.specs.Saying.{IsSaid, SaysAnswer, SaysRequest, append_bytes, vote_bytes}
use Rattle.alloc_spec.specs.Ending.{append_call_bytes, vote_call_bytes}
use Rattle.alloc_spec.specs.Judging.{counts_for_nothing, is_stale, is_void, is_void_append, is_void_vote, misses, service_of, would_take}
use Rattle.alloc_spec.specs.AllocatorState.{AllocatorState}
use Rattle.alloc_spec.specs.Transfers.{SentTransfer, kind_of, message_by, number_of}
use Rattle.bus_agreement.specs.Frames.{AreTransfers, IsTransferOf}
use Rattle.bus_agreement.specs.Said.{AreAnswered, AreCalled, AreSaid, AreWritable, AnswersMadeRequest, IsCalled, IsProper, IsWritable, carrier}
use Rattle.bus_agreement.specs.LawsBelow.{CodecLaws}
use Rattle.bus_agreement.proofs.Lists.{both, never}
use Rattle.bus_agreement.proofs.WaitingCalls.{Waits}

vote_is : (x y : VoteRequest) → Some x ≡ Some y → x ≡ y
vote_is x y e = cc (e)

append_is : (x y : AppendRequest) → Some x ≡ Some y → x ≡ y
append_is x y e = cc (e)

grant_is : (x y : VoteAnswer) → Some x ≡ Some y → x ≡ y
grant_is x y e = cc (e)

success_is : (x y : AppendAnswer) → Some x ≡ Some y → x ≡ y
success_is x y e = cc (e)

one_request : (x y : Request) → Some (Requests x) ≡ Some (Requests y) → x ≡ y
one_request x y e = cc (e)

-- ---- which kind of transfer it is

pub is_vote_request : (what : What) → kind_of what ≡ RequestKind → number_of what ≢ 1 → number_of what ≢ 30 → what ≡ VoteQ
is_vote_request Alloc k a b = absurd (cc (k))
is_vote_request Disc k a b = absurd (cc (k))
is_vote_request Stat k a b = absurd (cc (k))
is_vote_request InfoQ k a b = absurd (a refl)
is_vote_request Info k a b = absurd (cc (k))
is_vote_request VoteQ k a b = refl
is_vote_request Vote k a b = absurd (cc (k))
is_vote_request AppQ k a b = absurd (b refl)
is_vote_request App k a b = absurd (cc (k))

pub is_append_request : (what : What) → kind_of what ≡ RequestKind → number_of what ≡ 30 → what ≡ AppQ
is_append_request Alloc k a = absurd (cc (k))
is_append_request Disc k a = absurd (cc (k))
is_append_request Stat k a = absurd (cc (k))
is_append_request InfoQ k a = absurd (omega (arith, a))
is_append_request Info k a = absurd (cc (k))
is_append_request VoteQ k a = absurd (omega (arith, a))
is_append_request Vote k a = absurd (cc (k))
is_append_request AppQ k a = refl
is_append_request App k a = absurd (cc (k))

pub is_vote : (what : What) → kind_of what ≡ Response → number_of what ≢ 1 → number_of what ≢ 30 → what ≡ Vote
is_vote Alloc k a b = absurd (cc (k))
is_vote Disc k a b = absurd (cc (k))
is_vote Stat k a b = absurd (cc (k))
is_vote InfoQ k a b = absurd (cc (k))
is_vote Info k a b = absurd (a refl)
is_vote VoteQ k a b = absurd (cc (k))
is_vote Vote k a b = refl
is_vote AppQ k a b = absurd (cc (k))
is_vote App k a b = absurd (b refl)

pub is_append : (what : What) → kind_of what ≡ Response → number_of what ≡ 30 → what ≡ App
is_append Alloc k a = absurd (cc (k))
is_append Disc k a = absurd (cc (k))
is_append Stat k a = absurd (cc (k))
is_append InfoQ k a = absurd (cc (k))
is_append Info k a = absurd (omega (arith, a))
is_append VoteQ k a = absurd (cc (k))
is_append Vote k a = absurd (omega (arith, a))
is_append AppQ k a = absurd (cc (k))
is_append App k a = refl

-- ---- requests

entry_fits : (ids : List ℕ) (entry : Option Entry) → IfSome entry (IsProper ids) → IfSome entry IsEntry
entry_fits ids None is = tt
entry_fits ids (Some entry) is = is.fits

module _ (codec : CodecLaws) (ids : List ℕ) (made : List SentTransfer) (bag : List Message) (says : AreSaid made bag) (fits : AreWritable ids bag) (me : ℕ) (d : Delivery) (x : SentTransfer)
    (there : In x made) (is : IsTransferOf d x) (to_me : d.ident.dest ≡ me) where
  carried_as : (what : What) → x.offer.what ≡ what → IsSaid x.step x.by what x.offer.to x.offer.re x.offer.payload x.offer.says
  carried_as what e = subst (λ (w : What). IsSaid x.step x.by w x.offer.to x.offer.re x.offer.payload x.offer.says) e (says.carried x there)

  said_as : (what : What) → x.offer.what ≡ what → (message : Message) → message_by x.step x.by what x.offer.payload x.offer.says ≡ Some message → In message bag
  said_as what e message m = says.said x message there (ap (λ (w : What). message_by x.step x.by w x.offer.payload x.offer.says) e ∙ m)

  same_request : (request : Request) → request.step ≡ x.step → request.from ≡ x.by → request.to ≡ x.offer.to
      → request ≡ record request { step = d.mark.step; from = d.ident.source; to = me }
  same_request request step from to =
      ap (λ (n : ℕ). record request { step = n }) (step ∙ is.step)
      ∙ (ap (λ (n : ℕ). record request { step = d.mark.step; from = n }) (from ∙ is.by)
      ∙ ap (λ (n : ℕ). record request { step = d.mark.step; from = d.ident.source; to = n }) (to ∙ (is.to ∙ to_me)))

  -- a transfer says the request that its bytes are
  pub vote_says : x.offer.what ≡ VoteQ → (request : VoteRequest) → vote_request_of d.payload ≡ Some request
      → x.offer.says ≡ Some (Requests (handled.vote_request_of request d.mark.step d.ident.source me))
  vote_says what request read = said.is ∙ ap (λ (r : Request). Some (Requests r)) whole
    where
      said : SaysRequest x.step x.by x.offer.to false vote_call_bytes x.offer.payload x.offer.says
      said = (carried_as VoteQ what).0

      inside : In (Requests said.request) bag
      inside = said_as VoteQ what (Requests said.request) said.is

      fit : IsWritable ids said.request
      fit = fits.requests said.request inside

      raft_server : (said.request.commit ≡ 0) × (said.request.entry ≡ None)
      raft_server = fit.vote said.service

      value : VoteRequest
      value = record { term = said.request.term; last_term = said.request.previous_term; last_index = said.request.previous }

      same : value ≡ request
      same = vote_is value request (sym (codec.vote_requests value (record { term = fit.term; last_term = fit.previous_term }))
          ∙ (ap vote_request_of (sym said.written ∙ is.payload) ∙ read))

      whole : said.request ≡ handled.vote_request_of request d.mark.step d.ident.source me
      whole = same_request said.request said.step said.from said.receiver
          ∙ (ap (λ (b : Bool). record said.request { step = d.mark.step; from = d.ident.source; to = me; append = b }) said.service
          ∙ (ap (λ (c : ℕ). record said.request { step = d.mark.step; from = d.ident.source; to = me; append = false; commit = c }) raft_server.0
          ∙ (ap (λ (e : _). record said.request { step = d.mark.step; from = d.ident.source; to = me; append = false; commit = 0; entry = e }) raft_server.1
          ∙ ap (λ (v : VoteRequest). handled.vote_request_of v d.mark.step d.ident.source me) same)))

  pub append_says : x.offer.what ≡ AppQ → (request : AppendRequest) → append_request_of d.payload ≡ Some request
      → x.offer.says ≡ Some (Requests (handled.append_request_of request d.mark.step d.ident.source me))
  append_says what request read = said.is ∙ ap (λ (r : Request). Some (Requests r)) whole
    where
      said : SaysRequest x.step x.by x.offer.to true append_call_bytes x.offer.payload x.offer.says
      said = (carried_as AppQ what).0

      inside : In (Requests said.request) bag
      inside = said_as AppQ what (Requests said.request) said.is

      fit : IsWritable ids said.request
      fit = fits.requests said.request inside

      value : AppendRequest
      value = record {
        term = said.request.term;
        prev_term = said.request.previous_term;
        prev_index = said.request.previous;
        commit = said.request.commit;
        entry = said.request.entry;
      }

      same : value ≡ request
      same = append_is value request (sym (codec.append_requests value (record { term = fit.term; prev_term = fit.previous_term; entry = entry_fits ids said.request.entry fit.entry }))
          ∙ (ap append_request_of (sym said.written ∙ is.payload) ∙ read))

      whole : said.request ≡ handled.append_request_of request d.mark.step d.ident.source me
      whole = same_request said.request said.step said.from said.receiver
          ∙ (ap (λ (b : Bool). record said.request { step = d.mark.step; from = d.ident.source; to = me; append = b }) said.service
          ∙ ap (λ (v : AppendRequest). handled.append_request_of v d.mark.step d.ident.source me) same)

  vote_asked : x.offer.what ≡ VoteQ → (request : VoteRequest) → vote_request_of d.payload ≡ Some request
      → In (Requests (handled.vote_request_of request d.mark.step d.ident.source me)) bag
  vote_asked what request read =
      said_as VoteQ what (Requests (handled.vote_request_of request d.mark.step d.ident.source me)) (vote_says what request read)

  append_asked : x.offer.what ≡ AppQ → (request : AppendRequest) → append_request_of d.payload ≡ Some request
      → In (Requests (handled.append_request_of request d.mark.step d.ident.source me)) bag
  append_asked what request read =
      said_as AppQ what (Requests (handled.append_request_of request d.mark.step d.ident.source me)) (append_says what request read)

  pub requests_from : kind_of x.offer.what ≡ RequestKind → RequestsFrom bag me d
  requests_from kind = record {
    votes = λ one thirty. vote_asked (is_vote_request x.offer.what kind (λ e. one (sym is.number ∙ e)) (λ e. thirty (sym is.number ∙ e)));
    appends = λ thirty. append_asked (is_append_request x.offer.what kind (is.number ∙ thirty));
  }

-- ---- answers

-- a response of a member that answers no earlier call, or counts for nothing
pub record MayAnswer (t : AllocatorState) (d : Delivery) (now : ℕ) : Type 0 where
  pub answers : (is_stale t d now ≡ false) ⊎ (is_void t.raft_server.store.term d ≡ true)
  pub kind : d.ident.kind ≡ Response
  pub member : d.ident.source ≤ 125

-- where the call of a server to its source waits for it, one that answers no earlier call answers that very call
re_is : (t : AllocatorState) (d : Delivery) (now : ℕ) → MayAnswer t d now → is_stale t d now ≡ false → (call : Request) (sending : Sending)
    → Waits t now d.ident.source call sending → d.ident.number ≡ service_of call → sending.id ≡ d.id → d.mark.re ≡ call.step
re_is t d now is fresh call sending waits number id = elim (eqb_tells d.mark.re call.step) [
  | inl same ↦ same.1
  | inr apart ↦ never (sym fresh ∙ stale apart.0)
]
  where
    and_true : (a b : Bool) → a ≡ true → b ≡ true → (a && b) ≡ true
    and_true true b e f = f
    and_true false b e f = never e

    eq_true : (a b : ℕ) → a ≡ b → nat_eq a b ≡ true
    eq_true a b e = elim (eqb_tells a b) [ inl s ↦ s.0 | inr differ ↦ absurd (differ.1 e) ]

    le_true : (a b : ℕ) → a ≤ b → nat_le a b ≡ true
    le_true a b h = elim (leb_tells a b) [ inl s ↦ s.0 | inr more ↦ absurd (omega (arith, h, more.1)) ]

    lt_true : (a b : ℕ) → a < b → nat_lt a b ≡ true
    lt_true a b h = grind (arith, leb_tells)

    taken : would_take d now call sending ≡ true
    taken = and_true (nat_eq d.ident.number (service_of call)) _ (eq_true d.ident.number (service_of call) number)
        (and_true (nat_eq d.id sending.id) _ (eq_true d.id sending.id (sym id)) (lt_true (now - sending.moment) 1000 waits.young))

    not_true : (b : Bool) → b ≡ false → not b ≡ true
    not_true true e = never (sym e)
    not_true false e = refl

    missed : nat_eq d.mark.re call.step ≡ false → misses d now (t.raft_server.memory.pending d.ident.source) (t.times.sending d.ident.source) ≡ true
    missed e =
        ap (λ (o : Option Request). misses d now o (t.times.sending d.ident.source)) waits.pending
        ∙ (ap (λ (o : Option Sending). misses d now (Some call) o) waits.sent
        ∙ and_true (would_take d now call sending) (not (nat_eq d.mark.re call.step)) taken (not_true (nat_eq d.mark.re call.step) e))

    stale : nat_eq d.mark.re call.step ≡ false → is_stale t d now ≡ true
    stale e = and_true (is_response d.ident.kind && nat_le d.ident.source 125) _
        (and_true (is_response d.ident.kind) (nat_le d.ident.source 125) (ap is_response is.kind) (le_true d.ident.source 125 is.member)) (missed e)

-- ---- which call waits

-- what is awaited is the answer to a call of this service, under its transfer ID
pub record IsAwaited (sending : Option Sending) (append : Bool) (id : ℕ) (call : Request) : Type 0 where
  pub sent : Sending
  pub is : sending ≡ Some sent
  pub service : call.append ≡ append
  pub same : sent.id ≡ id

eqb_is : (a b : ℕ) → (a == b) ≡ true → a ≡ b
eqb_is a b e = elim (eqb_tells a b) [ inl same ↦ same.1 | inr apart ↦ never (sym apart.0 ∙ e) ]

of_service : (append b : Bool) → (if append then b else not b) ≡ true → b ≡ append
of_service true b e = e
of_service false true e = never e
of_service false false e = refl

awaited : (call : Request) (sending : Option Sending) (append : Bool) (id : ℕ) → awaits (Some call) sending append id ≡ true
    → IsAwaited sending append id call
awaited call None append id e = never e
awaited call (Some sent) append id e = let r = both (if append then call.append else not call.append) (sent.id == id) e in
    record { sent = sent; is = refl; service = of_service append call.append r.0; same = eqb_is sent.id id r.1 }

pub awaited_by : (pending : Option Request) (sending : Option Sending) (call : Request) (append : Bool) (id : ℕ) → pending ≡ Some call
    → awaits pending sending append id ≡ true → IsAwaited sending append id call
awaited_by pending sending call append id e is = awaited call sending append id (ap (λ (o : Option Request). awaits o sending append id) (sym e) ∙ is)

one_sending : (x y : Sending) → Some x ≡ Some y → x ≡ y
one_sending x y e = cc (e)

-- ---- what counts for nothing

nothing_from : (own term : ℕ) (success : Bool) → counts_for_nothing own term success ≡ true → (success ≡ false) ⊎ (term < own)
nothing_from own term true e = inr (ltb-true term own e)
nothing_from own term false e = inl refl

void_at : (own : ℕ) (d : Delivery) (number : ℕ) → d.ident.number ≡ number → is_void own d ≡ true
    → (if nat_eq number 30 then is_void_append own (append_answer_of d.payload) else is_void_vote own (vote_answer_of d.payload)) ≡ true
void_at own d number is e =
    ap (λ (n : ℕ). if nat_eq n 30 then is_void_append own (append_answer_of d.payload) else is_void_vote own (vote_answer_of d.payload)) (sym is) ∙ e

-- ---- answers

module _ (codec : CodecLaws) (ids : List ℕ) (made : List SentTransfer) (are : AreTransfers ids made) (bag : List Message) (says : AreSaid made bag)
    (fits : AreWritable ids bag) (answered : AreAnswered made) (t : AllocatorState) (called : AreCalled made t) (now : ℕ) (d : Delivery)
    (may : MayAnswer t d now) (x : SentTransfer) (there : In x made) (is : IsTransferOf d x) (to_me : d.ident.dest ≡ t.me) (call : Request) where
  -- the call that waits is the one that the response answers, where that is no earlier one
  one_call : is_stale t d now ≡ false → (sent : Sending) → Waits t now d.ident.source call sent → d.ident.number ≡ service_of call → sent.id ≡ d.id
      → (answer : Answer) (service : What) → carrier call.append ≡ service → AnswersMadeRequest made x answer service → answer.request ≡ call
  one_call fresh sent waits number id answer service carries z =
      one_request answer.request call (sym z.says ∙ (ap (λ (w : SentTransfer). w.offer.says) same ∙ y.says))
    where
      made_call : (sending : Sending) × (t.times.sending d.ident.source ≡ Some sending)
          × IsCalled made t d.ident.source call sending (carrier call.append)
      made_call = called d.ident.source call waits.pending

      y : IsCalled made t d.ident.source call made_call.0 (carrier call.append)
      y = made_call.2

      re : d.mark.re ≡ call.step
      re = re_is t d now may fresh call sent waits number id

      same : z.asked ≡ y.call
      same = are.once z.asked y.call z.was_made y.was_made
          (z.step ∙ (is.re ∙ (re ∙ sym y.step)))
          (z.what ∙ (sym carries ∙ sym y.what))
          (z.receiver ∙ (is.by ∙ sym y.receiver))
          (z.id ∙ (is.id ∙ (sym id ∙ (ap (λ (s : Sending). s.id) (one_sending sent made_call.0 (sym waits.sent ∙ made_call.1)) ∙ sym y.id))))

  said_of : (what : What) → x.offer.what ≡ what → IsSaid x.step x.by what x.offer.to x.offer.re x.offer.payload x.offer.says
  said_of what e = carried_as codec ids made bag says fits t.me d x there is to_me what e

  in_bag : (what : What) → x.offer.what ≡ what → (message : Message) → message_by x.step x.by what x.offer.payload x.offer.says ≡ Some message → In message bag
  in_bag what e = said_as codec ids made bag says fits t.me d x there is to_me what e

  pub vote_said : x.offer.what ≡ Vote → (value : VoteAnswer) → vote_answer_of d.payload ≡ Some value → call.append ≡ false
      → (sent : Sending) → Waits t now d.ident.source call sent → sent.id ≡ d.id
      → IsHeard bag t.raft_server.store (handled.answer_of d.mark.step d.ident.source call value.term value.granted)
  vote_said what value read service sent waits id = elim may.answers [
    | inl fresh ↦ inl (subst (λ (a : Answer). In (Answers a) bag) (whole fresh) inside)
    | inr void ↦ inr (record {
      said = said.answer;
      was_said = inside;
      term = ap (λ (v : VoteAnswer). v.term) same;
      success = ap (λ (v : VoteAnswer). v.granted) same;
      for_nothing = nothing_from t.raft_server.store.term value.term value.granted
          (ap (λ (o : Option VoteAnswer). is_void_vote t.raft_server.store.term o) (sym read)
          ∙ void_at t.raft_server.store.term d 31 (sym is.number ∙ ap number_of what) void);
    })
  ]
    where
      said : SaysAnswer x.step x.by x.offer.to x.offer.re false vote_bytes x.offer.payload x.offer.says
      said = said_of Vote what

      inside : In (Answers said.answer) bag
      inside = in_bag Vote what (Answers said.answer) said.is

      asked : is_stale t d now ≡ false → said.answer.request ≡ call
      asked fresh = one_call fresh sent waits (sym is.number ∙ (ap number_of what ∙ sym (ap (λ (b : Bool). if b then 30 else 31) service))) id said.answer VoteQ
          (ap carrier service) (answered.votes x said.answer there what said.is)

      same : record { term = said.answer.term; granted = said.answer.success } ≡ value
      same = grant_is (record { term = said.answer.term; granted = said.answer.success }) value
          (sym (codec.vote_answers (record { term = said.answer.term; granted = said.answer.success }) (fits.answers said.answer inside))
          ∙ (ap vote_answer_of (sym said.written ∙ is.payload) ∙ read))

      whole : is_stale t d now ≡ false → said.answer ≡ handled.answer_of d.mark.step d.ident.source call value.term value.granted
      whole fresh =
          ap (λ (n : ℕ). record said.answer { step = n }) (said.step ∙ is.step)
          ∙ (ap (λ (n : ℕ). record said.answer { step = d.mark.step; from = n }) (said.from ∙ is.by)
          ∙ (ap (λ (r : Request). record said.answer { step = d.mark.step; from = d.ident.source; request = r }) (asked fresh)
          ∙ ap (λ (v : VoteAnswer). handled.answer_of d.mark.step d.ident.source call v.term v.granted) same))

  pub append_said : x.offer.what ≡ App → (value : AppendAnswer) → append_answer_of d.payload ≡ Some value → call.append ≡ true
      → (sent : Sending) → Waits t now d.ident.source call sent → sent.id ≡ d.id
      → IsHeard bag t.raft_server.store (handled.answer_of d.mark.step d.ident.source call value.term value.success)
  append_said what value read service sent waits id = elim may.answers [
    | inl fresh ↦ inl (subst (λ (a : Answer). In (Answers a) bag) (whole fresh) inside)
    | inr void ↦ inr (record {
      said = said.answer;
      was_said = inside;
      term = ap (λ (v : AppendAnswer). v.term) same;
      success = ap (λ (v : AppendAnswer). v.success) same;
      for_nothing = nothing_from t.raft_server.store.term value.term value.success
          (ap (λ (o : Option AppendAnswer). is_void_append t.raft_server.store.term o) (sym read)
          ∙ void_at t.raft_server.store.term d 30 (sym is.number ∙ ap number_of what) void);
    })
  ]
    where
      said : SaysAnswer x.step x.by x.offer.to x.offer.re true append_bytes x.offer.payload x.offer.says
      said = said_of App what

      inside : In (Answers said.answer) bag
      inside = in_bag App what (Answers said.answer) said.is

      asked : is_stale t d now ≡ false → said.answer.request ≡ call
      asked fresh = one_call fresh sent waits (sym is.number ∙ (ap number_of what ∙ sym (ap (λ (b : Bool). if b then 30 else 31) service))) id said.answer AppQ
          (ap carrier service) (answered.appends x said.answer there what said.is)

      same : record { term = said.answer.term; success = said.answer.success } ≡ value
      same = success_is (record { term = said.answer.term; success = said.answer.success }) value
          (sym (codec.append_answers (record { term = said.answer.term; success = said.answer.success }) (fits.answers said.answer inside))
          ∙ (ap append_answer_of (sym said.written ∙ is.payload) ∙ read))

      whole : is_stale t d now ≡ false → said.answer ≡ handled.answer_of d.mark.step d.ident.source call value.term value.success
      whole fresh =
          ap (λ (n : ℕ). record said.answer { step = n }) (said.step ∙ is.step)
          ∙ (ap (λ (n : ℕ). record said.answer { step = d.mark.step; from = n }) (said.from ∙ is.by)
          ∙ (ap (λ (r : Request). record said.answer { step = d.mark.step; from = d.ident.source; request = r }) (asked fresh)
          ∙ ap (λ (v : AppendAnswer). handled.answer_of d.mark.step d.ident.source call v.term v.success) same))
