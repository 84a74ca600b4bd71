-- A leader's call to a member goes on waiting in each row of a calm in which no answer comes, and no other call is made
-- meanwhile.
use Rattle.std.proofs.Common.{◌≡◌, ℕ, ◌+◌, ◌*◌, ◌<◌, ◌≤◌, arith, true, List, ◌∷◌, max, refl, sym, ◌∙◌, ap, subst, inl, inr, Some}
use Rattle.std.specs.Prelude.{◌⊎◌}
use Rattle.can_frame.specs.declared.step.What.{What}
use Rattle.can_frame.specs.declared.step.What.TheVariants.{App, AppQ}
use Rattle.raft_core.specs.Times.{Sending, Times}
use Rattle.raft_model.specs.Messages.{Request}
use Rattle.raft_model.specs.Server.{RaftServer}
use Rattle.raft_model.specs.Server.Role.{Leader}
use Rattle.bus_rows.specs.declared.row.Row.{Row}
use Rattle.transfer_rx.specs.Keys.{key_of}
use Rattle.transfer_rx.specs.Reassembly.{answer}
use Rattle.alloc_spec.specs.Accepted.{setting_for}
use Rattle.alloc_spec.specs.AllocatorState.{AllocatorState}
use Rattle.alloc_spec.specs.Step.{Event, moment_of, step}
use Rattle.alloc_spec.specs.Transfers.{Offer, SentTransfer, ident_of}
use Rattle.service_leader.specs.Answers.{AnswersAsSaid}
use Rattle.service_leader.specs.CallsAsk.{AsksNext, next_request}
use Rattle.service_leader.proofs.CallsPend.{asks_next}
use Rattle.service_leader.proofs.EntriesRows.{step_or_not}
use Rattle.service_leader.proofs.Exchange.{Exchange}
use Rattle.service_leader.proofs.ExchangeAnswers.{IsSilent}
use Rattle.service_leader.proofs.ExchangeGoes.{Going}
use Rattle.service_leader.proofs.PendingStays.{PendsAt, stays_at_frames, stays_at_ticks}
use Rattle.service_leader.proofs.RowsOfOne.{IsLeft, IsReceipt, IsSame, left_up, moment_is, receipt_is, stepped_up}
use Rattle.service_calm.specs.Calls.{ReadsAsSaid}
use Rattle.service_calm.specs.Calm.{Member as OfMember, Party}
use Rattle.service_calm.specs.Comes.{Sends}
use Rattle.service_calm.proofs.Counting.{now_after}
use Rattle.service_calm.proofs.Pair.{same_server}
use Rattle.service_steps.specs.Requests.{moment_at}
use Rattle.bus_rows.specs.Timed.{Timed}
use Rattle.service_alone.specs.Calm.{Pace}
use Rattle.service_alone.proofs.Members.{IsUp}
use Rattle.bus_spec.specs.Cluster.{Cluster, after_row, arrival_at, frame_at, step_of}
use Rattle.bus_spec.specs.Members.MemberStatus.{Up}

-- What is asked are append requests, and four delays are shorter than the call timeout.
pub record IsCalling (both : Exchange) : Type 0 where
  pub asks : both.asks ≡ AppQ
  pub answers : both.answers ≡ App
  pub quick : 4 * both.pace.delay < 1000
  pub reads : (x : SentTransfer) → both.Reads x → ReadsAsSaid x
  pub told : (y : SentTransfer) → both.Told y → AnswersAsSaid y

module _ (both : Exchange) (its : IsCalling both) (term : ℕ) where
  abbrev group : List Party
  group = both.group

  abbrev clocks : Party → ℕ
  clocks = both.clocks

  abbrev pace : Pace
  pace = both.pace

  abbrev n : ℕ
  n = both.n

  abbrev m : ℕ
  m = both.m

  -- The caller waits for the answer to this call, which it made at `at`: no later than its clock showed by then.
  pub record Called (at : ℕ) (asked : Request) (sending : Sending) (t : AllocatorState) : Type 0 where
    pub base_low : both.base_n ≤ sending.moment
    pub at_low : at + clocks (OfMember n) ≤ sending.moment
    pub pends : PendsAt m asked sending t
    pub append : asked.append ≡ true
    pub term_is : asked.term ≡ term

  -- a frame that goes out leaves the call waiting
  still_called : (at : ℕ) (asked : Request) (sending : Sending) (t u : AllocatorState) → IsSame t u → Called at asked sending t → Called at asked sending u
  still_called at asked sending t u same is = record {
    base_low = is.base_low;
    at_low = is.at_low;
    pends = (
      ap (λ (s : RaftServer). s.memory.role) same.raft_server ∙ is.pends.0,
      ap (λ (s : RaftServer). s.memory.pending m) same.raft_server ∙ is.pends.1,
      ap (λ (s : Times). s.sending m) same.times ∙ is.pends.2,
    );
    append = is.append;
    term_is = is.term_is;
  }

  -- in this world the caller, if it runs, waits so
  abbrev pub IsCalled : (at : ℕ) → Request → Sending → Cluster → Type 0
  IsCalled at asked sending w = (t : AllocatorState) → (w.member n).status ≡ Up t → Called at asked sending t

  -- where the caller leads before or behind this row, it leads behind it, in this term
  abbrev pub LeadsAcross : Cluster → Row → Type 0
  LeadsAcross w row = (t u : AllocatorState) → (w.member n).status ≡ Up t → ((after_row w row).member n).status ≡ Up u
      → (t.raft_server.memory.role ≡ Leader) ⊎ (u.raft_server.memory.role ≡ Leader) → (u.raft_server.memory.role ≡ Leader) × (u.raft_server.store.term ≡ term)

  -- ---- a row

  module _ (w : Cluster) (timed : Timed) (rest : List Timed) (g : Going both w (timed ∷ rest)) where
    abbrev t : AllocatorState
    t = g.q.pair.sender

    up : IsUp t (w.member n)
    up = g.q.pair.sender_up

    abbrev number : ℕ
    number = w.rows + 1

    its_now : g.a.pair.now ≡ t.now
    its_now = sym g.a.pair.hears.reads
        ∙ ap (λ (s : AllocatorState). s.now) (same_server g.a.pair.hears.server t (sym g.a.pair.hears.up.status ∙ up.status))

    -- a call of at most four delays ago is younger than the call timeout
    pub young : (at : ℕ) (asked : Request) (sending : Sending) (s : AllocatorState) → Called at asked sending s → timed.at ≤ at + 4 * pace.delay
        → max t.now (timed.at + clocks (OfMember n)) < sending.moment + 1000
    young at asked sending s called late =
        let high = g.a.pair.high in let time = g.calm.0.moments in let now = its_now in let base = called.base_low in let low = called.at_low in let quick = its.quick in
        omega (arith, high, time, now, base, low, late, quick)

    -- ---- a call that waits

    module _ (at : ℕ) (asked : Request) (sending : Sending) (called : Called at asked sending t) (late : timed.at ≤ at + 4 * pace.delay)
        (silent : IsSilent both w timed.row) where
      soon : (event : Event) → step_of w timed.row ≡ Some (n, event) → max t.now (moment_of event) < sending.moment + 1000
      soon event is = subst (λ (k : ℕ). max t.now k < sending.moment + 1000) (sym (moment_is w n t up group clocks pace g.traffic timed.at timed.row event is g.calm.1))
          (young at asked sending t called late)

      pends_on : (event : Event) → step_of w timed.row ≡ Some (n, event) → (step t number event).step_state.allocator.raft_server.memory.role ≡ Leader
          → PendsAt m asked sending (step t number event).step_state.allocator
      pends_on (Event.Tick now word) is role = stays_at_ticks t number m asked sending called.append called.pends now word (soon (Event.Tick now word) is) role
      pends_on (Event.Rx arrival) is role = stays_at_frames t number m asked sending called.append called.pends arrival (soon (Event.Rx arrival) is)
          (λ d gives kind thirty source.
          let key : key_of d.ident ≡ key_of (ident_of m App n) = λ i. record { kind = kind i; number = thirty i; source = source i } in
          silent t up.status receipt.k receipt.ms receipt.row_is d (key ∙ ap (λ (what : What). key_of (ident_of m what n)) (sym its.answers)) (sym same_answer ∙ gives)) role
        where
          receipt : IsReceipt w n timed.row arrival
          receipt = receipt_is w n timed.row arrival is

          me : t.me ≡ n
          me = g.q.pair.sender_is.me

          same_answer : answer (setting_for t.me) t.sessions (record arrival { moment = moment_at t arrival })
              ≡ answer (setting_for n) t.sessions (arrival_at (frame_at w.frames receipt.k) (max t.now receipt.ms))
          same_answer = λ i. answer (setting_for (me i)) t.sessions (record (receipt.arrival_is i) { moment = max t.now (receipt.arrival_is i).moment })

      -- who leads behind the row waits on
      pub called_on : (u : AllocatorState) → ((after_row w timed.row).member n).status ≡ Up u → u.raft_server.memory.role ≡ Leader → Called at asked sending u
      called_on u up_then role = elim (step_or_not w timed.row n) [
        | inl s ↦
            let is = same_server (step t number s.0).step_state.allocator u (sym (stepped_up w n t up timed.row s.0 s.1).status ∙ up_then) in
            subst (Called at asked sending) is (record {
              base_low = called.base_low;
              at_low = called.at_low;
              pends = pends_on s.0 s.1 (ap (λ (a : AllocatorState). a.raft_server.memory.role) is ∙ role);
              append = called.append;
              term_is = called.term_is;
            })
        | inr none ↦
            let left : IsLeft w n t up ((after_row w timed.row).member n) = left_up w n t up group clocks pace g.traffic timed.at timed.row g.calm.1 none in
            subst (Called at asked sending) (same_server left.server u (sym left.its_up.status ∙ up_then)) (still_called at asked sending t left.server left.same called)
      ]

    -- ---- a call that is sent

    module _ (offer : Offer) (sends : Sends n w timed.row offer) (what : offer.what ≡ both.asks) (to : offer.to ≡ m) where
      abbrev pub after : AllocatorState
      after = (step sends.server number sends.event).step_state.allocator

      pub after_up : ((after_row w timed.row).member n).status ≡ Up after
      after_up = (stepped_up w n sends.server (record { status = sends.runs; quiet = up.quiet }) timed.row sends.event sends.in_step).status

      pub asks_it : AsksNext m number offer after
      asks_it = asks_next both.apart_offers sends.server number sends.event m offer sends.offered (what ∙ its.asks) to sends.fitted

      abbrev pub asked : Request
      asked = next_request m number after

      abbrev pub sending : Sending
      sending = record { id = offer.id; moment = after.now }

      now_then : after.now ≡ max t.now (timed.at + clocks (OfMember n))
      now_then = now_after sends.server number sends.event ∙ (λ i. max (server_is i).now (moment i))
        where
          server_is : sends.server ≡ t
          server_is = same_server sends.server t (sym sends.runs ∙ up.status)

          moment : moment_of sends.event ≡ timed.at + clocks (OfMember n)
          moment = moment_is w n t up group clocks pace g.traffic timed.at timed.row sends.event sends.in_step g.calm.1

      -- the caller waits for its answer
      pub opened : LeadsAcross w timed.row → IsCalled timed.at asked sending (after_row w timed.row)
      opened leads u up_then = subst (Called timed.at asked sending) (same_server after u (sym after_up ∙ up_then)) (record {
        base_low = let low = g.a.pair.low in let now = its_now in let e = now_then in omega (arith, low, now, e);
        at_low = let e = now_then in omega (arith, e);
        pends = (asks_it.leads, asks_it.pending, asks_it.kept);
        append = refl;
        term_is = (leads t after up.status after_up (inr asks_it.leads)).1;
      })

    -- no other call is made while one waits
    pub none_called : (at : ℕ) (asked : Request) (sending : Sending) → Called at asked sending t → timed.at ≤ at + 4 * pace.delay → IsSilent both w timed.row → asked.step ≤ w.rows
        → (offer : Offer) → Sends n w timed.row offer → offer.what ≡ both.asks → offer.to ≡ m → ⊥
    none_called at before kept called late silent past offer sends what to =
        let next : AsksNext m number offer (after offer sends what to) = asks_it offer sends what to in
        let still = called_on at before kept called late silent (after offer sends what to) (after_up offer sends what to) next.leads in
        let same : before ≡ next_request m number (after offer sends what to) = cc (sym still.pends.1 ∙ next.pending) in
        let step_is : before.step ≡ number = ap (λ (r : Request). r.step) same in omega (arith, past, step_is)
