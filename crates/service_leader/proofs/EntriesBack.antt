-- A call that a leader makes in a calm comes back, and is taken: it is accepted, or the member lacks the place before it.
use Rattle.std.proofs.Common.{◌≡◌, ◌≢◌, ℕ, ◌+◌, ◌*◌, ◌<◌, ◌≤◌, Bool, true, false, List, [], ◌∷◌, ◌++◌, drop, append_assoc, append-nil, refl, sym, ◌∙◌, ap, subst, inl, inr, arith, max, Some}
use Rattle.std.specs.Prelude.{◌⊎◌, ◌-◌, if◌then◌else◌, nat_lt, slice_index_or}
use Rattle.std.proofs.lemmas.Bool.Decides.{leb_tells}
use Rattle.can_frame.specs.Timing.{call_timeout}
use Rattle.dsdl_codec.specs.declared.append_request.AppendRequest.{AppendRequest}
use Rattle.raft_core.specs.Handled as handled
use Rattle.raft_model.specs.Decisions.{verdict_on}
use Rattle.raft_model.specs.Lists.{In}
use Rattle.raft_model.specs.Messages.{Answer, Request, reach}
use Rattle.raft_model.specs.Moves.Appending.{is_accepted}
use Rattle.raft_model.specs.Moves.Elections.{with_term}
use Rattle.raft_model.specs.Server.{Store}
use Rattle.bus_rows.specs.declared.row.Row.{Row}
use Rattle.alloc_spec.specs.AllocatorState.{AllocatorState}
use Rattle.alloc_spec.specs.Step.{Event, step}
use Rattle.alloc_spec.specs.Transfers.{SentTransfer}
use Rattle.alloc_spec_laws.proofs.Choices.{lt_tells}
use Rattle.bus_rows.specs.Timed.{Timed, rows_in}
use Rattle.service_alone.specs.Calm.{Pace, end_of}
use Rattle.service_alone.proofs.Members.{IsUp}
use Rattle.service_leader.specs.Answers.{TakesAnswer, answer_by, asked_by}
use Rattle.service_leader.specs.CallsComeBack.{ComesBack, IsTakenBy}
use Rattle.service_calm.specs.Calm.{Member as OfMember, Party}
use Rattle.service_calm.specs.Comes.{Delivers, sent_by}
use Rattle.service_leader.specs.Entries.{IsCalledInStep}
use Rattle.service_calm.proofs.Calls.{Goes}
use Rattle.service_leader.proofs.EntriesParts.{rows_counted, same_front}
use Rattle.service_leader.proofs.EntriesPending.{AtN, HoldsAs, MakesCall, WasCalled, at, harmless_at, was_called, world_at}
use Rattle.service_leader.specs.EntriesBelow.{EntryLaws}
use Rattle.service_leader.proofs.EntriesReturn.{GetsAnswers}
use Rattle.service_leader.proofs.EntriesRows.{IsLedCalm, Leading, goes_at, here_then, lead_on}
use Rattle.service_calm.proofs.Pair.{same_server, same_stepper}
use Rattle.service_leader.proofs.RowsOfOne.{stepped_up}
use Rattle.service_leader.proofs.Stretches.{world_both}
use Rattle.bus_spec.specs.Cluster.{Cluster, after_row, after_rows, receipt_of, step_of, world_of}
use Rattle.bus_spec.specs.Lawful.{DoesNoHarm}
use Rattle.bus_spec.specs.Members.MemberStatus.{Up}

-- calls in step are accepted in this world
abbrev AcceptsIn : List ℕ → Cluster → Type 0
AcceptsIn ids v = (n m : ℕ) (x : SentTransfer) (request : AppendRequest) (row : Row) → In n ids → In m ids → m ≢ n → DoesNoHarm v row
    → (called : IsCalledInStep n m x request v row)
    → is_accepted (verdict_on called.delivers.server.raft_server (handled.append_request_of request x.step x.by m)) ≡ true

-- who answers in the term of the request had no higher one
within_term : (store : Store) (term : ℕ) → (with_term store term).term ≡ term → store.term ≤ term
within_term store term e = elim (lt_tells store.term term) [
  | inl z ↦ let low = z.1 in omega (arith, low)
  | inr z ↦ let same = ap (λ (s : Store). s.term) (not_raised z.0) in omega (arith, same, e)
]
  where
    not_raised : nat_lt store.term term ≡ false → with_term store term ≡ store
    not_raised low = rw (low) refl

module _ (ids : List ℕ) (rows : List Row) (laws : EntryLaws ids rows) (group : List Party) (clocks : Party → ℕ) (pace : Pace) (start n term : ℕ)
    (whole : List Timed)
    (calm : IsLedCalm ids rows group clocks pace start n term whole) (m : ℕ) (in_m : In (OfMember m) group) (other : m ≢ n)
    (short : 4 * pace.delay < call_timeout)
    (can : GetsAnswers n m pace.delay (world_of ids rows) whole) where
  abbrev w : Cluster
  w = world_of ids rows

  abbrev pub now : List Timed → Cluster
  now = at ids rows laws group clocks pace start n term whole calm

  abbrev pub AtLeader : (AllocatorState → Type 0) → List Timed → Type 0
  AtLeader = AtN ids rows laws group clocks pace start n term whole calm

  abbrev pub Leads : List Timed → Type 0
  Leads = Leading ids rows laws group clocks pace start n term whole calm

  abbrev pub Made : List Timed → Timed → Request → Type 0
  Made = MakesCall ids rows laws group clocks pace start n term whole calm m

  abbrev pub Holds : Request → (next matched : ℕ) → AllocatorState → Type 0
  Holds = HoldsAs ids rows laws group clocks pace start n term whole calm m

  -- the server of the member behind a front
  pub leader_at : (a b : List Timed) → whole ≡ a ++ b → (t : AllocatorState) × (((now a).member n).status ≡ Up t)
  leader_at a b cut = let run = (goes_at ids rows laws group clocks pace start n term whole calm n calm.member a b cut).runs in (run.server, run.up.status)

  -- ---- a call comes back

  -- The leader learned from the answer to a call: what the call reached the peer has, and it calls it next behind what it
  -- knows it to have; or the call began behind there, and the next one begins one place earlier.
  abbrev pub Learned : Request → (next matched : ℕ) → AllocatorState → Type 0
  Learned asked next matched t = ((reach asked ≤ t.raft_server.memory.matched m) × (t.raft_server.memory.next m ≡ t.raft_server.memory.matched m + 1))
      ⊎ ((t.raft_server.memory.matched m ≡ matched) × (t.raft_server.memory.next m + 1 ≡ next) × (matched + 2 ≤ next))

  -- Behind this front the row is over in which the leader takes the answer: a call that pends then was made in that row.
  abbrev pub TakenThen : List Timed → Request → (next matched : ℕ) → AllocatorState → Type 0
  TakenThen before asked next matched t =
      ((again : Request) → t.raft_server.memory.pending m ≡ Some again → again.step ≡ (now before).rows + 1) × Learned asked next matched t

  pub record IsTaken (a : List Timed) (x : Timed) (asked : Request) : Type 0 where
    pub before : List Timed
    pub between : List Timed
    pub row : Timed
    pub rest : List Timed
    pub cut : whole ≡ before ++ row ∷ rest
    pub behind : before ≡ (a ++ x ∷ []) ++ between
    pub soon : row.at ≤ x.at + 4 * pace.delay
    pub stepped : (event : Event) × (step_of (now before) row.row ≡ Some (n, event))
    pub next : ℕ
    pub matched : ℕ
    -- from the call on it pends, and the leader knows the same of the peer
    pub holds : (c d : List Timed) → between ≡ c ++ d → AtLeader (Holds asked next matched) ((a ++ x ∷ []) ++ c)
    pub taken : AtLeader (TakenThen before asked next matched) (before ++ row ∷ [])

  module _ (a b : List Timed) (x : Timed) (cut : whole ≡ a ++ x ∷ b) (asked : Request) (made : Made a x asked)
      (late : can.number ≤ (now a).rows) (long : x.at + 4 * pace.delay < end_of x.at b) where
    abbrev call : SentTransfer
    call = sent_by n (now a) made.offer

    abbrev asks : Request
    asks = asked_by call made.request m

    comes : ComesBack n m call made.request x.at pace.delay (now a) (x ∷ b)
    comes = can.back a b x made.offer made.request cut late made.calls long

    -- the server of the leader when the row of the call is over
    then_ : (t : AllocatorState) × (((now (a ++ x ∷ [])).member n).status ≡ Up t)
    then_ = leader_at (a ++ x ∷ []) b (cut ∙ sym (append_assoc a (x ∷ []) b))

    -- the call as it was made
    called_term : made.request.term ≡ term
    called_term = ap (λ (r : Request). r.term) (sym made.said ∙ made.owed then_.0 then_.1) ∙ (made.leading then_.0 then_.1).1

    called_previous : made.request.prev_index ≡ then_.0.raft_server.memory.next m - 1
    called_previous = ap (λ (r : Request). r.previous) (sym made.said ∙ made.owed then_.0 then_.1)

    -- the leader leads on behind it
    on : (c d : List Timed) → whole ≡ ((a ++ x ∷ []) ++ c) ++ d → Leads ((a ++ x ∷ []) ++ c)
    on c d split = lead_on ids rows laws group clocks pace start n term whole calm (a ++ x ∷ []) c d split made.leading

    -- ---- the member answers

    module _ (front rest : List Timed) (y : Timed) (split : b ≡ front ++ y ∷ rest) where
      abbrev heard : List Timed
      heard = a ++ x ∷ front

      cut_heard : whole ≡ heard ++ y ∷ rest
      cut_heard = cut ∙ (ap (λ (l : List Timed). a ++ x ∷ l) split ∙ sym (append_assoc a (x ∷ front) (y ∷ rest)))

      heard_is : (a ++ x ∷ []) ++ front ≡ heard
      heard_is = append_assoc a (x ∷ []) front

      leads_heard : Leads heard
      leads_heard = subst Leads heard_is (on front (y ∷ rest) (cut_heard ∙ ap (λ (l : List Timed). l ++ y ∷ rest) (sym heard_is)))

      module _ (d : Delivers m call (now heard) y.row) where
        its_me : d.server.me ≡ m
        its_me =
            let run = (goes_at ids rows laws group clocks pace start n term whole calm m in_m heard (y ∷ rest) cut_heard).runs in
            ap (λ (t : AllocatorState). t.me) (same_server d.server run.server (sym d.runs ∙ run.up.status)) ∙ run.holds

        -- the leader's server then
        l : (t : AllocatorState) × (((now heard).member n).status ≡ Up t)
        l = leader_at heard (y ∷ rest) cut_heard

        -- it accepts a call that begins no further on than what the leader knows it to have
        module _ (low : d.server.raft_server.store.term ≤ made.request.term) (known : made.request.prev_index ≤ l.0.raft_server.memory.matched m) where
          in_step : IsCalledInStep n m call made.request (now heard) y.row
          in_step = record {
            delivers = d;
            what = made.calls.what;
            says = made.calls.says;
            leader = l.0;
            runs = l.1;
            leads = (leads_heard l.0 l.1).0;
            its_term = called_term ∙ sym (leads_heard l.0 l.1).1;
            not_above = low;
            known = known;
          }

          accepted : is_accepted (verdict_on d.server.raft_server asks) ≡ true
          unfolding in_step
          accepted =
              let harm = harmless_at ids rows laws group clocks pace start n term whole calm heard rest y cut_heard in
              subst (AcceptsIn ids) (world_at ids rows laws group clocks pace start n term whole calm heard) (laws.accept (rows_in heard) harm.0)
              n m call made.request y.row (calm.listed n calm.member) (calm.listed m in_m) other harm.1 in_step

        -- ---- the leader takes the answer

        abbrev answer : Answer
        answer = answer_by ((now heard).rows + 1) d.server asks

        module _ (between last : List Timed) (z : Timed) (split_then : rest ≡ between ++ z ∷ last) (soon : z.at ≤ x.at + 4 * pace.delay)
            (y_back : SentTransfer) (e : Delivers n y_back (now (heard ++ y ∷ between)) z.row)
            (takes : TakesAnswer ((now (heard ++ y ∷ between)).rows + 1) answer e.server (step e.server ((now (heard ++ y ∷ between)).rows + 1)
            (receipt_of (now (heard ++ y ∷ between)) e.k e.ms)).step_state.allocator) where
          abbrev before : List Timed
          before = heard ++ y ∷ between

          cut_before : whole ≡ before ++ z ∷ last
          cut_before = cut_heard ∙ (ap (λ (l : List Timed). heard ++ y ∷ l) split_then ∙ sym (append_assoc heard (y ∷ between) (z ∷ last)))

          behind : before ≡ (a ++ x ∷ []) ++ (front ++ y ∷ between)
          behind = append_assoc a (x ∷ front) (y ∷ between) ∙ sym (append_assoc a (x ∷ []) (front ++ y ∷ between))

          leads_before : Leads before
          leads_before = subst Leads (sym behind) (on (front ++ y ∷ between) (z ∷ last) (cut_before ∙ ap (λ (l : List Timed). l ++ z ∷ last) behind))

          -- the call pends until then
          pends : e.server.raft_server.memory.pending m ≡ Some asked
          pends = ap e.server.raft_server.memory.pending (sym its_me) ∙ (takes.waited ∙ ap (λ (r : Request). Some r) (sym made.said))

          its_step : asked.step ≡ (now a).rows + 1
          its_step = ap (λ (r : Request). r.step) made.said

          was : WasCalled ids rows laws group clocks pace start n term whole calm m asked before
          was = was_called ids rows laws group clocks pace start n term whole calm m before (z ∷ last) cut_before e.server e.runs asked
              (let its = its_step in let count = rows_counted w a in omega (arith, its, count)) (ap (λ (r : Request). r.append) made.said)
              (ap (λ (r : Request). r.term) made.said ∙ called_term) pends

          -- since it was made
          same_place : (a ≡ was.earlier) × (x ∷ (front ++ y ∷ between) ≡ was.row ∷ was.later)
          same_place =
              let its = its_step in
              let also = ap (λ (r : Request). r.step) was.made.said in
              let count = rows_counted w a in
              let other_count = rows_counted w was.earlier in
              same_front a was.earlier (x ∷ (front ++ y ∷ between)) (was.row ∷ was.later) (omega (arith, its, also, count, other_count))
              (sym (append_assoc a (x ∷ front) (y ∷ between)) ∙ was.split)

          holds : (c d : List Timed) → front ++ y ∷ between ≡ c ++ d → AtLeader (Holds asked was.next was.matched) ((a ++ x ∷ []) ++ c)
          holds c d parts = subst (AtLeader (Holds asked was.next was.matched))
              ((λ i. sym same_place.0 i ++ sym (ap (λ (l : List Timed). slice_index_or l 0 x) same_place.1) i ∷ c) ∙ sym (append_assoc a (x ∷ []) c))
              (was.since c d (sym (ap (λ (l : List Timed). drop 1 l) same_place.1) ∙ parts))

          held_then : Holds asked was.next was.matched then_.0
          held_then = subst (AtLeader (Holds asked was.next was.matched)) (append-nil (a ++ x ∷ [])) (holds [] (front ++ y ∷ between) refl) then_.0 then_.1

          held_heard : Holds asked was.next was.matched l.0
          held_heard = subst (AtLeader (Holds asked was.next was.matched)) heard_is (holds front (y ∷ between) refl) l.0 l.1

          held_before : Holds asked was.next was.matched e.server
          held_before = subst (AtLeader (Holds asked was.next was.matched)) (sym behind)
              (holds (front ++ y ∷ between) [] (sym (append-nil (front ++ y ∷ between)))) e.server e.runs

          -- the member's term is not above
          low : d.server.raft_server.store.term ≤ made.request.term
          low = within_term d.server.raft_server.store made.request.term
              (takes.own_term ∙ ((leads_before e.server e.runs).1 ∙ sym called_term))

          learned : (t : AllocatorState) → TakesAnswer ((now before).rows + 1) answer e.server t → (success : Bool)
              → is_accepted (verdict_on d.server.raft_server asks) ≡ success → Learned asked was.next was.matched t
          learned t takes true success =
              let from = its_me in
              let same_asked : reach asks ≡ reach asked = ap reach (sym made.said) in
              let matched = takes.matched ∙ ap (λ (yes : Bool). if yes then max (e.server.raft_server.memory.matched d.server.me)
              (reach asks) else e.server.raft_server.memory.matched d.server.me) success in
              let next = takes.next ∙ ap (λ (yes : Bool). if yes then max (e.server.raft_server.memory.matched d.server.me) (reach asks) + 1
              else max 1 (e.server.raft_server.memory.next d.server.me - 1)) success in
              let m_matched = ap t.raft_server.memory.matched from in
              let m_next = ap t.raft_server.memory.next from in
              inl (omega (arith, matched, m_matched, same_asked), omega (arith, matched, next, m_matched, m_next))
          learned t takes false success = elim (leb_tells made.request.prev_index (l.0.raft_server.memory.matched m)) [
            | inl z ↦ absurd (cc (sym success ∙ accepted low z.1))
            | inr z ↦
                let high = z.1 in
                let from = its_me in
                let matched = takes.matched ∙ ap (λ (yes : Bool). if yes then max (e.server.raft_server.memory.matched d.server.me)
                (reach asks) else e.server.raft_server.memory.matched d.server.me) success in
                let next = takes.next ∙ ap (λ (yes : Bool). if yes then max (e.server.raft_server.memory.matched d.server.me) (reach asks) + 1
                else max 1 (e.server.raft_server.memory.next d.server.me - 1)) success in
                let m_matched = ap t.raft_server.memory.matched from in
                let m_next = ap t.raft_server.memory.next from in
                let was_matched = ap e.server.raft_server.memory.matched from in
                let was_next = ap e.server.raft_server.memory.next from in
                let previous = called_previous in
                let first_next = held_then.1 in
                let then_matched = held_heard.2 in
                let last_next = held_before.1 in
                let last_matched = held_before.2 in
                inr (
                  omega (arith, matched, m_matched, was_matched, last_matched),
                  omega (arith, next, m_next, was_next, last_next, high, previous, first_next, then_matched),
                  omega (arith, high, previous, first_next, then_matched),
                )
          ]

          taken_here : IsTaken a x asked
          taken_here = record {
            before = before;
            between = front ++ y ∷ between;
            row = z;
            rest = last;
            cut = cut_before;
            behind = behind;
            soon = soon;
            stepped = (receipt_of (now before) e.k e.ms, ap (step_of (now before)) e.comes);
            next = was.next;
            matched = was.matched;
            holds = holds;
            taken = λ t up. subst (TakenThen before asked was.next was.matched)
                (same_server _ t (sym stepped.status ∙ subst (λ (v : Cluster). (v.member n).status ≡ Up t)
                (here_then ids rows laws group clocks pace start n term whole calm before z) up)) (
                  λ again p. takes.ended again (ap (step e.server ((now before).rows + 1) (receipt_of (now before) e.k e.ms)).step_state.allocator.raft_server.memory.pending its_me ∙ p),
                  learned _ takes (is_accepted (verdict_on d.server.raft_server asks)) refl,
                );
          }
            where
              runs : Goes laws.me group clocks pace n (now before) (z ∷ last)
              runs = goes_at ids rows laws group clocks pace start n term whole calm n calm.member before (z ∷ last) cut_before

              stepped : IsUp (step e.server ((now before).rows + 1) (receipt_of (now before) e.k e.ms)).step_state.allocator
                  ((after_row (now before) z.row).member n)
              stepped = stepped_up (now before) n e.server (record { status = e.runs; quiet = runs.runs.up.quiet }) z.row (receipt_of (now before) e.k e.ms)
                  (ap (step_of (now before)) e.comes)

        back_to : (y_back : SentTransfer) → IsTakenBy n y_back answer (x.at + 4 * pace.delay) (after_row (now heard) y.row) rest → IsTaken a x asked
        back_to y_back by = subst
            (λ (v : Cluster). (e : Delivers n y_back v by.timed.row)
            → TakesAnswer (v.rows + 1) answer e.server (step e.server (v.rows + 1) (receipt_of v e.k e.ms)).step_state.allocator → IsTaken a x asked)
            (world_both w heard (y ∷ by.front)) (taken_here by.front by.rest by.timed by.split by.soon y_back) by.delivers by.takes

    -- the call is not heard in the row that makes it
    at_once : (y : Timed) → x ≡ y → Delivers m call (now a) y.row → ⊥
    at_once y same d = other (same_stepper m n (receipt_of (now a) d.k d.ms) made.calls.sends.event
        (sym (ap (step_of (now a)) (ap (λ (t : Timed). t.row) same ∙ d.comes)) ∙ made.calls.sends.in_step))

    by : (front rest : List Timed) (y : Timed) → x ∷ b ≡ front ++ y ∷ rest → (d : Delivers m call (after_rows (now a) (rows_in front)) y.row)
        → (y_back : SentTransfer)
        → IsTakenBy n y_back (answer_by ((after_rows (now a) (rows_in front)).rows + 1) d.server asks) (x.at + 4 * pace.delay)
        (after_row (after_rows (now a) (rows_in front)) y.row) rest → IsTaken a x asked
    by [] rest y split d y_back taken = absurd (at_once y (ap (λ (l : List Timed). slice_index_or l 0 x) split) d)
    by (f ∷ front) rest y split d y_back taken = subst
        (λ (v : Cluster). (e : Delivers m call v y.row) → IsTakenBy n y_back (answer_by (v.rows + 1) e.server asks) (x.at + 4 * pace.delay)
        (after_row v y.row) rest → IsTaken a x asked)
        (world_both w a (x ∷ front) ∙ ap (λ (k : Timed). after_rows (now a) (rows_in (k ∷ front))) (ap (λ (l : List Timed). slice_index_or l 0 x) split))
        (λ e. back_to front rest y (ap (λ (l : List Timed). drop 1 l) split) e y_back) d taken

    -- the call comes back, and is taken
    pub comes_back : IsTaken a x asked
    comes_back = by comes.front comes.rest comes.timed comes.split comes.delivers _ comes.taken
