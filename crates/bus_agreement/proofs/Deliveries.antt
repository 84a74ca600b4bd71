-- What a running member is delivered is taken by the rules of the Raft model.
use Rattle.std.proofs.Common.{◌≡◌, ◌⊎◌, ℕ, ◌<◌, ◌≤◌, Bool, true, false, List, [], ◌∷◌, refl, sym, ap, subst, ◌∙◌, arith, inl, inr, Some}
use Rattle.std.specs.Prelude.{max, ◌&&◌, not, nat_eq, if◌then◌else◌}
use Rattle.std.proofs.lemmas.Bool.Decides.{eqb_tells}
use Rattle.can_frame.specs.declared.identifier.Ident.{Ident}
use Rattle.can_frame.specs.declared.identifier.Kind.{Kind}
use Rattle.can_frame.specs.declared.identifier.Kind.TheVariants.{Message as Broadcast, Anonymous, Request as RequestKind, Response}
use Rattle.can_frame.specs.declared.mark.Mark.{Mark}
use Rattle.can_frame.specs.declared.step.Judged.{Judged}
use Rattle.can_frame.specs.declared.step.Judged.TheVariants.{Fine, Stale, Torn}
use Rattle.can_frame.specs.Kinds.{is_service, is_anonymous}
use Rattle.cluster_discovery.specs.Members.{is_on_list}
use Rattle.raft_model.specs.Lists.{In}
use Rattle.raft_core.specs.Handled.{answer_of}
use Rattle.raft_core.specs.Times.{overdue}
use Rattle.raft_model.specs.Messages.{Answer as Said, Message, Request}
use Rattle.raft_model.specs.Moves.{IsHeard}
use Rattle.raft_model.specs.Server.{Store}
use Rattle.transfer_rx.specs.Acceptance.{is_for}
use Rattle.transfer_rx.specs.Reassembly.{Answer, Arrival, Delivery, answer}
use Rattle.transfer_rx.specs.Reassembly.Answer.{Continues, Drops, Gives}
use Rattle.transfer_rx.specs.Sound.{IsDelivered}
use Rattle.transfer_tx.specs.Queue.{Queued}
use Rattle.alloc_spec_laws.specs.Coming.{AnswerFrom, AnswersFrom, SaysFrom, TakesFrom}
use Rattle.alloc_spec.specs.Accepted.{rows, setting_for}
use Rattle.alloc_spec.specs.Judging.{IsHarmless, answer_judgement, arrival_judgement, brings_void, gives_void, is_stale, is_void}
use Rattle.alloc_spec.specs.Services.{is_listed}
use Rattle.alloc_spec.specs.Step.{all_nodes, begin_phase}
use Rattle.alloc_spec.specs.Step.Event.{Rx}
use Rattle.alloc_spec.specs.AllocatorState.{AllocatorState, members_of}
use Rattle.alloc_spec.specs.Transfers.{SentTransfer}
use Rattle.bus_spec.specs.Lawful.{is_forged}
use Rattle.bus_agreement.specs.Frames.{AreHeard, AreTransfers, CameFrom, IsOnBus, WasMade}
use Rattle.bus_agreement.specs.Said.{AreAnswered, AreCalled, AreSaid, AreWritable}
use Rattle.bus_agreement.specs.LawsBelow.{FrameLaws, CodecLaws}
use Rattle.bus_agreement.proofs.DeliveredTransfers.{was_made}
use Rattle.bus_agreement.proofs.Idents.{IsWanted, service_is, wanted_is}
use Rattle.bus_agreement.proofs.Lists.{never}
use Rattle.bus_agreement.proofs.TakenMessages.{MayAnswer, append_said, awaited_by, is_append, is_vote, requests_from, vote_said}
use Rattle.bus_agreement.proofs.WaitingCalls.{store_stays, waited}
use Rattle.bus_agreement.proofs.WholeTransfers.{members_own}

-- ---- a frame that may come

-- the server would take nothing torn, and no answer to an earlier call but one that counts for nothing
pub record MayCome (t : AllocatorState) (now : ℕ) (d : Delivery) : Type 0 where
  pub untorn : d.whole ≡ false → d.mark.step ≡ 0
  pub answers : (is_stale t d now ≡ false) ⊎ (is_void t.raft_server.store.term d ≡ true)

abbrev judgement_by : (whole unmarked stale : Bool) → Judged
judgement_by whole unmarked stale = if not whole && not unmarked then Torn else (if stale then Stale else Fine)

-- a frame does no harm where it is judged so
abbrev DoesNoHarm : Judged → (void : Bool) → Type 0
DoesNoHarm judgement void = (judgement ≡ Fine) ⊎ ((judgement ≡ Stale) × (void ≡ true))

harmless_from : (whole unmarked stale void : Bool) → DoesNoHarm (judgement_by whole unmarked stale) void
    → (whole ≡ false → unmarked ≡ true) × ((stale ≡ false) ⊎ (void ≡ true))
harmless_from true unmarked true void (inl e) = absurd (cc (e))
harmless_from true unmarked true void (inr e) = ((λ w. never (sym w)), inr e.1)
harmless_from true unmarked false void e = ((λ w. never (sym w)), inl refl)
harmless_from false true true void (inl e) = absurd (cc (e))
harmless_from false true true void (inr e) = ((λ w. refl), inr e.1)
harmless_from false true false void e = ((λ w. refl), inl refl)
harmless_from false false stale void (inl e) = absurd (cc (e))
harmless_from false false stale void (inr e) = absurd (cc (e.0))

eqb_is : (a b : ℕ) → nat_eq a b ≡ true → a ≡ b
eqb_is a b e = elim (eqb_tells a b) [ inl same ↦ same.1 | inr apart ↦ never (sym apart.0 ∙ e) ]

-- the answer to a frame at this moment does no harm
abbrev IsAnswerHarmless : AllocatorState → (step now : ℕ) → Answer → Type 0
IsAnswerHarmless t step now a = DoesNoHarm (answer_judgement t step now a) (gives_void t.raft_server.store.term a)

pub judged_harmless : (t : AllocatorState) (step now : ℕ) (a : Answer) (d : Delivery) → a ≡ Gives d → IsAnswerHarmless t step now a → d.mark.step ≡ step → MayCome t now d
judged_harmless t step now a d e harmless mark =
    let f = harmless_from d.whole (nat_eq step 0) (is_stale t d now) (is_void t.raft_server.store.term d) (subst (λ (x : Answer). IsAnswerHarmless t step now x) e harmless) in
    record { untorn = λ w. mark ∙ eqb_is step 0 (f.0 w); answers = f.1 }

pub judges_harmless : (t : AllocatorState) (arrival : Arrival) → IsHarmless t arrival
    → IsAnswerHarmless t arrival.mark.step (max t.now arrival.moment) (answer (setting_for t.me) t.sessions (record arrival { moment = max t.now arrival.moment }))
unfolding arrival_judgement brings_void
judges_harmless t arrival e = e

-- ---- who is listed

pub listed_in : (list : List ℕ) (node : ℕ) → is_on_list list node ≡ true → In node list
listed_in [] node e = never e
listed_in (first ∷ rest) node e = elim (eqb_tells first node) [
  | inl same ↦ inl (sym same.1)
  | inr apart ↦ inr (listed_in rest node (rw apart.0 at e))
]

-- ---- what is delivered

module _ (laws : FrameLaws) (codec : CodecLaws) (ids : List ℕ) (low : (n : ℕ) → In n ids → 1 ≤ n) (high : (n : ℕ) → In n ids → n ≤ 125)
    (made : List SentTransfer) (are : AreTransfers ids made) (bag : List Message) (says : AreSaid made bag) (fits : AreWritable ids bag)
    (answered : AreAnswered made) (frames : List Queued) (bus : (frame : Queued) → In frame frames → IsOnBus made ids frame)
    (t : AllocatorState) (some : 1 ≤ t.me) (among : (peer : ℕ) → In peer (members_of t) → In peer ids) (heard : AreHeard frames (setting_for t.me) t.sessions)
    (called : AreCalled made t) (number : ℕ) (arrival : Arrival) (came : CameFrom frames arrival) (harmless : IsHarmless t arrival) where
  abbrev now : ℕ
  now = max t.now arrival.moment

  abbrev coming : Arrival
  coming = record arrival { moment = now }

  abbrev then_ : AllocatorState
  then_ = (begin_phase number arrival.moment t).allocator

  module _ (d : Delivery) (gives : answer (setting_for t.me) t.sessions coming ≡ Gives d) where
    abbrev its : IsDelivered (setting_for t.me) t.sessions coming d
    its = laws.delivered (setting_for t.me) t.sessions coming d gives

    pub may_come : MayCome t now d
    may_come = judged_harmless t arrival.mark.step now _ d gives (judges_harmless t arrival harmless) (ap (λ (m : Mark). m.step) its.mark)

    -- the transfer, where its frames are members' alone
    pub made_by_member : is_forged ids (Some d.ident) ≡ true → WasMade made d
    made_by_member forged = was_made laws ids low high made are (setting_for t.me) frames bus t.sessions heard coming
        (record { frame = came.frame; there = came.there; id = came.id; bytes = came.bytes; mark = came.mark }) d gives may_come.untorn forged (inl some)

    pub wants : IsWanted rows t.me coming.id d.ident
    wants = subst (λ (i : Ident). IsWanted rows t.me coming.id i) (sym its.ident) (wanted_is rows t.me coming.id its.w its.accepted)

    -- a service is for the server
    pub service_dest : is_service d.ident.kind ≡ true → d.ident.dest ≡ t.me
    service_dest service = service_is t.me some d.ident service
        (ap (λ (i : Ident). is_for t.me i) its.ident ∙ (wanted_is rows t.me coming.id its.w its.accepted).for_me)

    pub listed_source : is_listed d then_ ≡ true → In d.ident.source ids
    listed_source listed = among d.ident.source (listed_in (members_of t) d.ident.source listed)

    -- a request or a response of a listed node
    module _ (listed : is_listed d then_ ≡ true) (kind : Kind) (is_kind : d.ident.kind ≡ kind) (service : is_service kind ≡ true)
        (known : is_anonymous kind ≡ false) where
      for_me : d.ident.dest ≡ t.me
      for_me = service_dest (ap is_service is_kind ∙ service)

      pub listed_made : WasMade made d
      listed_made = made_by_member (members_own ids d.ident (listed_source listed) (ap is_anonymous is_kind ∙ known))

    may_answer : is_listed d then_ ≡ true → d.ident.kind ≡ Response → MayAnswer t d now
    may_answer listed k = record { answers = may_come.answers; kind = k; member = high d.ident.source (listed_source listed) }

    -- whoever gives up calls has what it had stored
    heard_then : (answer : Said) → IsHeard bag t.raft_server.store answer → IsHeard bag then_.raft_server.store answer
    heard_then answer is = subst (λ (store : Store). IsHeard bag store answer) (sym (store_stays (members_of t) t.me number (overdue t.times now all_nodes) t.raft_server)) is

    answers_from : is_listed d then_ ≡ true → d.ident.kind ≡ Response → (call : Request)
        → then_.raft_server.memory.pending d.ident.source ≡ Some call → AnswersFrom bag then_.raft_server then_.times d call
    answers_from listed k call pending = record {
      votes = λ one thirty value read waits.
          let w = awaited_by (then_.raft_server.memory.pending d.ident.source) (then_.times.sending d.ident.source) call false d.id pending waits in
          heard_then (answer_of d.mark.step d.ident.source call value.term value.granted)
          (vote_said codec ids made are bag says fits answered t called now d (may_answer listed k) x.0 x.1 x.2 own call
          (is_vote x.0.offer.what (x.2.kind ∙ k) (λ e. one (sym x.2.number ∙ e)) (λ e. thirty (sym x.2.number ∙ e))) value read w.service w.sent
          (waited t number arrival.moment d.ident.source small call w.sent pending w.is) w.same);
      appends = λ thirty value read waits.
          let w = awaited_by (then_.raft_server.memory.pending d.ident.source) (then_.times.sending d.ident.source) call true d.id pending waits in
          heard_then (answer_of d.mark.step d.ident.source call value.term value.success)
          (append_said codec ids made are bag says fits answered t called now d (may_answer listed k) x.0 x.1 x.2 own call
          (is_append x.0.offer.what (x.2.kind ∙ k) (x.2.number ∙ thirty)) value read w.service w.sent
          (waited t number arrival.moment d.ident.source small call w.sent pending w.is) w.same);
    }
      where
        x : WasMade made d
        x = listed_made listed Response k refl refl

        own : d.ident.dest ≡ t.me
        own = for_me listed Response k refl refl

        small : d.ident.source < 128
        small = omega (arith, high d.ident.source (listed_source listed))

    pub says_from : (kind : Kind) → d.ident.kind ≡ kind → SaysFrom bag then_ d kind
    says_from Anonymous k = tt
    says_from Broadcast k = tt
    says_from RequestKind k = λ listed.
        let x = listed_made listed RequestKind k refl refl in
        requests_from codec ids made bag says fits t.me d x.0 x.1 x.2 (for_me listed RequestKind k refl refl) (x.2.kind ∙ k)
    says_from Response k = λ listed call pending. answers_from listed k call pending

  takes : (a : Answer) → answer (setting_for t.me) t.sessions coming ≡ a → AnswerFrom bag then_ a
  takes (Gives d) e = says_from d e d.ident.kind refl
  takes Continues e = tt
  takes (Drops why) e = tt

  pub takes_from : TakesFrom number bag t (Rx arrival)
  takes_from = takes (answer (setting_for t.me) t.sessions coming) refl
