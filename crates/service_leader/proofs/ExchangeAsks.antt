-- A member answers another one's requests as they come, each once and in the order in which they were made: so no two
-- answers, one behind the other, have the same transfer ID. What of the requests is under way, row by row.
use Rattle.std.proofs.Common.{◌≡◌, ◌≢◌, ℕ, ◌+◌, ◌*◌, ◌≤◌, true, List, [], ◌∷◌, ◌++◌, append-nil, max, refl, sym, ◌∙◌, ap, subst, inl, inr, Some}
use Rattle.std.specs.Prelude.{⊤, ◌⊎◌}
use Rattle.can_frame.specs.declared.step.What.{What}
use Rattle.raft_model.specs.Lists.{In}
use Rattle.bus_rows.specs.declared.row.Row.{Row}
use Rattle.bus_rows.specs.declared.row.Row.TheVariants.{Rx}
use Rattle.transfer_rx.specs.Keys.{key_of}
use Rattle.transfer_rx.specs.Reassembly.{answer}
use Rattle.alloc_spec.specs.Accepted.{setting_for}
use Rattle.alloc_spec.specs.AllocatorState.{AllocatorState, members_of}
use Rattle.alloc_spec.specs.Step.{Event, moment_of, step}
use Rattle.alloc_spec.specs.Transfers.{Ids, Offer, id_after, id_of, ident_of, kind_of, number_of}
use Rattle.alloc_spec_laws.specs.Responses.{IsResponse}
use Rattle.service_leader.proofs.Exchange.{AllGiven, Exchange, Given, IsAnswered, in_one, none_in, of_ones}
use Rattle.service_leader.proofs.EntriesRows.{step_or_not}
use Rattle.service_leader.proofs.RowsOfOne.{IsLeft, IsReceipt, left_up, receipt_is, stepped_up}
use Rattle.bus_agreement.proofs.Lists.{in_append}
use Rattle.service_calm.specs.Calls.{Lists}
use Rattle.service_calm.specs.Calm.{AreCalm, IsCalmRow, Member as OfMember, Party, Traffic, receives, traffic_after}
use Rattle.service_calm.specs.Comes.{Delivers, IsHeard, NoneRepeats, Sends, sent_by}
use Rattle.service_calm.proofs.Calls.{lists_on}
use Rattle.service_calm.proofs.Counting.{Follow, IsCounted, counted_step, ids_in, ones}
use Rattle.service_calm.proofs.Follows.{IsCounter, apart_next, counter_follows, few}
use Rattle.service_calm.proofs.Group.{AreWell, CalmLaws, well_after}
use Rattle.service_calm.proofs.MembersHear.{NextOf, NoneComesOf, PairOf, none_late, row_leaves}
use Rattle.service_calm.proofs.Pair.{Expected, made_none, made_of, made_one, same_server, same_stepper, sent_among}
use Rattle.service_calm.proofs.Pending.{Coming, Made}
use Rattle.service_steps.proofs.FollowUps.{same_number}
use Rattle.bus_rows.specs.Timed.{Timed}
use Rattle.service_alone.specs.Calm.{IsNext, Pace}
use Rattle.bus_spec.specs.Cluster.{Cluster, after_row, arrival_at, frame_at, receipt_of, step_of}

-- ---- transfer IDs that follow each other

-- the transfer IDs of these transfers
abbrev pub ids_made : List Made → List ℕ
ids_made [] = []
ids_made (x ∷ xs) = x.transfer.offer.id ∷ ids_made xs

-- one more, under the next ID
follow_made : (first next : ℕ) (xs : List Made) (y : Made) → y.transfer.offer.id ≡ next → Follow first (ids_made xs) next
    → Follow first (ids_made (xs ++ y ∷ [])) (id_after next)
follow_made first next [] y same h = (same ∙ h, ap id_after h)
follow_made first next (x ∷ xs) y same h = (h.0, follow_made (id_after first) next xs y same h.1)

module _ (both : Exchange) where
  abbrev laws : CalmLaws
  laws = both.laws

  abbrev group : List Party
  group = both.group

  abbrev clocks : Party → ℕ
  clocks = both.clocks

  abbrev pace : Pace
  pace = both.pace

  abbrev nodes : (p : ℕ) → In (OfMember p) group → (1 ≤ p) × (p ≤ 125)
  nodes = both.nodes

  abbrev n : ℕ
  n = both.n

  abbrev m : ℕ
  m = both.m

  abbrev in_n : In (OfMember n) group
  in_n = both.in_n

  abbrev in_m : In (OfMember m) group
  in_m = both.in_m

  abbrev apart : n ≢ m
  apart = both.apart

  abbrev quick : 2 * pace.delay ≤ 2000
  quick = both.quick

  abbrev base : ℕ
  base = both.base_m

  abbrev Begins : ℕ → Type 0
  Begins = both.BeginsM

  abbrev asks : What
  asks = both.asks

  abbrev answers : What
  answers = both.answers

  abbrev heard_q : IsHeard m asks m
  heard_q = both.heard_asks

  abbrev counted_q : IsCounted asks m
  counted_q = both.counted

  -- the requests that are under way
  abbrev pub PairQ : Traffic → Cluster → List Made → List Coming → Expected → Type 0
  PairQ = PairOf laws group clocks pace nodes n m in_n in_m apart asks m heard_q base quick Begins (IsCounter asks m) (λ t expected mode. mode)

  -- The requests that are under way have transfer IDs that follow each other, from this one on, up to the
  -- counter of who asks: so the next request that is delivered has this one.
  pub record Asking (traffic : Traffic) (w : Cluster) (next : ℕ) : Type 0 where
    pub xs : List Made
    pub front : List Coming
    pub expected : Expected
    pub pair : PairQ traffic w xs front expected
    pub follow : Follow next (ids_made xs) (id_of pair.sender.ids asks m)
    pub lists : Lists m n w
    pub reads : (x : Made) → In x xs → both.Reads x.transfer

  -- ---- a row

  module _ (traffic : Traffic) (w : Cluster) (next : ℕ) (a : Asking traffic w next) (timed : Timed) (rest : List Timed)
      (calm : AreCalm group clocks pace traffic w (timed ∷ rest)) (are : AreWell group w) (given : Given both w timed.row) where
    abbrev row : Row
    row = timed.row

    abbrev number : ℕ
    number = w.rows + 1

    abbrev then_w : Cluster
    then_w = after_row w timed.row

    abbrev then_traffic : Traffic
    then_traffic = traffic_after traffic w timed

    abbrev sender : AllocatorState
    sender = a.pair.sender

    abbrev NextQ : Type 0
    NextQ = NextOf laws group clocks pace nodes n m in_n in_m apart asks m heard_q base quick Begins (IsCounter asks m) (λ t expected mode. mode)
        traffic w a.xs a.front a.expected a.pair timed.at calm.0 row (λ later. ⊤)

    abbrev QuietQ : Type 0
    QuietQ = NoneComesOf laws group clocks pace nodes n m in_n in_m apart asks m heard_q base quick Begins (IsCounter asks m) (λ t expected mode. mode)
        traffic w a.xs a.front a.expected a.pair timed.at calm.0 row (λ later. ⊤)

    -- the requests afterwards
    next_q : NextQ
    next_q = row_leaves laws group clocks pace nodes n m in_n in_m apart asks m heard_q base quick Begins (IsCounter asks m) (λ t expected mode. mode)
        traffic w a.xs a.front a.expected a.pair timed.at calm.0 row (λ later. ⊤) given.memory_m are calm.1
        (λ event is_step bus. counter_follows Begins n asks m counted_q number a.expected sender a.pair.sender_is a.pair.mode event) (λ none. tt)

    -- who is asked lists who asks still
    then_lists : Lists m n then_w
    then_lists = lists_on both.stay n group clocks pace traffic m (timed ∷ []) rest w
        (record {
          server = a.pair.hears.server;
          runs = a.pair.hears.up.status;
          faults = a.pair.hears.up.quiet.faults;
          disk = a.pair.hears.up.quiet.calls;
        })
        calm a.lists

    -- ---- whose row it is

    abbrev IsNoStep : Type 0
    IsNoStep = (event : Event) → step_of w row ≡ Some (n, event) → ⊥

    -- the counter of who asks stays where the row is no step of it
    same_counter : IsNoStep → (xs : List Made) (front : List Coming) (later : Expected) (pair : PairQ then_traffic then_w xs front later)
        → id_of pair.sender.ids asks m ≡ id_of sender.ids asks m
    same_counter none xs front later pair =
        ap (λ (s : AllocatorState). id_of s.ids asks m) (same_server pair.sender left.server (sym pair.sender_up.status ∙ left.its_up.status))
        ∙ ap (λ (ids : Ids). id_of ids asks m) left.same.ids
      where
        left : IsLeft w n sender a.pair.sender_up (then_w.member n)
        left = left_up w n sender a.pair.sender_up group clocks pace traffic timed.at row calm.1 none

    -- ---- requests may be made

    -- none is made, or one, under the next transfer ID
    abbrev pub IsNews : (more : List Made) → (counter : ℕ) → Type 0
    IsNews more counter = ((more ≡ []) × (counter ≡ id_of sender.ids asks m))
        ⊎ ((o : Offer) × (more ≡ record { at = timed.at; transfer = sent_by n w o } ∷ []) × Sends n w row o × (o.what ≡ asks)
        × (o.id ≡ id_of sender.ids asks m) × (counter ≡ id_after (id_of sender.ids asks m)) × (o.to ≡ m))

    -- so transfer IDs that follow each other up to the counter do so with them
    pub follow_news : (more : List Made) (counter : ℕ) → IsNews more counter → (list : List Made) (first : ℕ) → Follow first (ids_made list) (id_of sender.ids asks m)
        → Follow first (ids_made (list ++ more)) counter
    follow_news more counter news list first h = elim news [
      | inl none ↦ subst (λ (l : List Made). Follow first (ids_made l) counter) (sym (ap (λ (l : List Made). list ++ l) none.0 ∙ append-nil list))
          (subst (Follow first (ids_made list)) (sym none.1) h)
      | inr one ↦ subst (λ (l : List Made). Follow first (ids_made (list ++ l)) counter) (sym one.1)
          (subst (Follow first (ids_made (list ++ record { at = timed.at; transfer = sent_by n w one.0 } ∷ []))) (sym one.5)
          (follow_made first (id_of sender.ids asks m) list (record { at = timed.at; transfer = sent_by n w one.0 }) one.4 h))
    ]

    module _ (more : List Made) (then_front : List Coming) (later : Expected) (pair : PairQ then_traffic then_w (a.xs ++ more) then_front later) where
      abbrev IsAdded : Type 0
      IsAdded = IsNews more (id_of pair.sender.ids asks m)

      added : ((event : Event) → step_of w row ≡ Some (n, event) → more ≡ made_of timed.at (sent_by n w) (ones asks m (step sender number event).step_state.offers))
          × (IsNoStep → more ≡ []) → IsAdded
      added news = elim (step_or_not w row n) [
        | inl s ↦ stepped s.0 s.1
        | inr none ↦ inl (news.1 none, same_counter none (a.xs ++ more) then_front later pair)
      ]
        where
          stepped : (event : Event) → step_of w row ≡ Some (n, event) → IsAdded
          stepped event is_step = elim (few asks m (step sender number event).step_state.offers both.heard_asks.0 (both.apart_offers sender number event)) [
            | inl none ↦ inl (
              news.0 event is_step ∙ (ap (made_of timed.at (sent_by n w)) none ∙ made_none timed.at (sent_by n w)),
              counter_is ∙ subst (λ (l : List Offer). Follow (id_of sender.ids asks m) (ids_in l) (id_of u.ids asks m)) none follows,
            )
            | inr one ↦
                let is = of_ones n w row sender a.pair.sender_up.status event is_step asks m one.0 (subst (λ (l : List Offer). In one.0 l) (sym one.1) (inl refl)) in
                let counts : (one.0.id ≡ id_of sender.ids asks m) × (id_of u.ids asks m ≡ id_after (id_of sender.ids asks m)) =
                subst (λ (l : List Offer). Follow (id_of sender.ids asks m) (ids_in l) (id_of u.ids asks m)) one.1 follows in
                inr (
                  one.0,
                  news.0 event is_step ∙ (ap (made_of timed.at (sent_by n w)) one.1 ∙ made_one timed.at (sent_by n w) one.0),
                  is.0,
                  is.1,
                  counts.0,
                  counter_is ∙ counts.1,
                  is.2,
                )
          ]
            where
              u : AllocatorState
              u = (step sender number event).step_state.allocator

              follows : Follow (id_of sender.ids asks m) (ids_in (ones asks m (step sender number event).step_state.offers)) (id_of u.ids asks m)
              follows = (counted_step asks m counted_q sender number event a.pair.sender_is.places).follows

              counter_is : id_of pair.sender.ids asks m ≡ id_of u.ids asks m
              counter_is = ap (λ (s : AllocatorState). id_of s.ids asks m)
                  (same_server pair.sender u (sym pair.sender_up.status ∙ (stepped_up w n sender a.pair.sender_up row event is_step).status))

      -- behind the row the same request comes next
      abbrev goes_on : IsAdded → Asking then_traffic then_w next
      goes_on news = record {
        xs = a.xs ++ more;
        front = then_front;
        expected = later;
        pair = pair;
        follow = follow_news more (id_of pair.sender.ids asks m) news a.xs next a.follow;
        lists = then_lists;
        reads = λ x i. elim (in_append x a.xs more i) [
          | inl before ↦ a.reads x before
          | inr new ↦ elim news [
            | inl none ↦ absurd (subst (λ (l : List Made). In x l) none.0 new)
            | inr one ↦ elim (subst (λ (l : List Made). In x l) one.1 new) [
              | inl same ↦ subst (λ (y : Made). both.Reads y.transfer) (sym same) (given.read one.0 one.2 one.3)
              | inr none ↦ absurd none
            ]
          ]
        ];
      }

    -- ---- no answer is made where no request is delivered

    no_answer : QuietQ → (offer : Offer) → Sends m w row offer → offer.what ≡ answers → offer.to ≡ n → ⊥
    no_answer quiet offer sends what to = quiet receipt.k (max sends.server.now receipt.ms) bring.0 bring.1 r.d key (sym gives ∙ r.delivered.gives)
      where
        r : IsResponse sends.server number sends.event offer
        r = laws.in_step.responses sends.server number sends.event offer sends.offered (ap kind_of what ∙ both.answers_kind)

        receipt : IsReceipt w m row r.delivered.arrival
        receipt = receipt_is w m row r.delivered.arrival (sends.in_step ∙ ap (λ (ev : Event). Some (m, ev)) r.delivered.comes)

        calm_row : IsCalmRow group clocks pace traffic w timed.at (Rx m receipt.k receipt.ms)
        calm_row = subst (IsCalmRow group clocks pace traffic w timed.at) receipt.row_is calm.1

        bring : (receives row (OfMember m) ≡ true) × IsNext receipt.k (traffic.to (OfMember m))
        bring = (ap (λ (l : Row). receives l (OfMember m)) receipt.row_is ∙ same_number m, calm_row.2)

        came : sends.event ≡ Event.Rx (arrival_at (frame_at w.frames receipt.k) receipt.ms)
        came = r.delivered.comes ∙ ap Event.Rx receipt.arrival_is

        key : key_of r.d.ident ≡ key_of (ident_of n asks m)
        key = λ i. record { kind = (r.kind ∙ sym both.asks_kind) i; number = (r.service ∙ (ap number_of what ∙ both.numbers)) i; source = (sym r.to ∙ to) i }

        server_is : sends.server ≡ a.pair.hears.server
        server_is = same_server sends.server a.pair.hears.server (sym sends.runs ∙ a.pair.hears.up.status)

        me : sends.server.me ≡ m
        me = ap (λ (s : AllocatorState). s.me) server_is ∙ a.pair.hears.its.me

        sessions : sends.server.sessions ≡ a.pair.sessions
        sessions = ap (λ (s : AllocatorState). s.sessions) server_is ∙ a.pair.hears.has

        gives : answer (setting_for sends.server.me) sends.server.sessions (record r.delivered.arrival { moment = max sends.server.now (moment_of sends.event) })
            ≡ answer (setting_for m) a.pair.sessions (arrival_at (frame_at w.frames receipt.k) (max sends.server.now receipt.ms))
        gives = λ i. answer (setting_for (me i)) (sessions i) (record (receipt.arrival_is i) { moment = max sends.server.now (moment_of (came i)) })

    -- ---- a request is delivered

    module _ (x : Made) (others : List Made) (first : a.xs ≡ x ∷ others) (delivers : Delivers m x.transfer w row) where
      x_in : In x a.xs
      x_in = subst (λ (l : List Made). In x l) (sym first) (inl refl)

      -- it has the ID that comes next, and those behind it follow
      counts : (x.transfer.offer.id ≡ next) × Follow (id_after next) (ids_made others) (id_of sender.ids asks m)
      counts = subst (λ (l : List Made). Follow next (ids_made l) (id_of sender.ids asks m)) first a.follow

      by_n : x.transfer.by ≡ n
      by_n = (a.pair.ones_are x x_in).by

      me_is : delivers.server.me ≡ m
      me_is = ap (λ (s : AllocatorState). s.me) (same_server delivers.server a.pair.hears.server (sym delivers.runs ∙ a.pair.hears.up.status)) ∙ a.pair.hears.its.me

      abbrev its_answer : IsAnswered m answers both.Tells x.transfer w row
      its_answer = both.answered x.transfer w row delivers me_is (a.pair.ones_are x x_in).what_is (a.reads x x_in)
          (subst (λ (k : ℕ). In k (members_of delivers.server)) (sym by_n) (a.lists delivers.server delivers.runs)) given.place

      -- it is answered in the row
      sends_it : Sends m w row its_answer.offer
      sends_it = its_answer.sends

      to_n : its_answer.offer.to ≡ n
      to_n = its_answer.to ∙ by_n

      abbrev event : Event
      event = receipt_of w delivers.k delivers.ms

      is_step : step_of w row ≡ Some (m, event)
      is_step = ap (λ (r : Row). step_of w r) delivers.comes

      abbrev all_answers : List Offer
      all_answers = ones answers n (step delivers.server number event).step_state.offers

      among : (offer : Offer) → Sends m w row offer → offer.what ≡ answers → offer.to ≡ n → In offer all_answers
      among offer is what to = sent_among m w row delivers.server event answers n delivers.runs is_step offer is what to

      -- by one answer, under the ID of the request
      one_answer : (offer : Offer) → Sends m w row offer → offer.what ≡ answers → offer.to ≡ n → offer.id ≡ next
      one_answer offer is what to = elim (few answers n (step delivers.server number event).step_state.offers both.heard_answers.0 (both.apart_offers delivers.server number event)) [
        | inl nothing ↦ absurd (subst (λ (l : List Offer). In offer l) nothing (among offer is what to))
        | inr o ↦ ap (λ (p : Offer). p.id) (in_one offer o.0 all_answers o.1 (among offer is what to)
            ∙ sym (in_one its_answer.offer o.0 all_answers o.1 (among its_answer.offer sends_it its_answer.what to_n)))
            ∙ (its_answer.id ∙ counts.0)
      ]

      -- the one behind it comes next
      abbrev one_less : (then_front : List Coming) (later : Expected) → PairQ then_traffic then_w others then_front later → Asking then_traffic then_w (id_after next)
      one_less then_front later pair = record {
        xs = others;
        front = then_front;
        expected = later;
        pair = pair;
        follow = subst (Follow (id_after next) (ids_made others)) (sym (same_counter none others then_front later pair)) counts.1;
        lists = then_lists;
        reads = λ y i. a.reads y (subst (λ (l : List Made). In y l) (sym first) (inr i));
      }
        where
          none : IsNoStep
          none other f = apart (same_stepper n m other event (sym f ∙ is_step))

    -- ---- what the row does

    -- None is delivered in the row, but one may be made; and no answer is made in it.
    pub record Passes : Type 0 where
      pub more : List Made
      pub then_q : Asking then_traffic then_w next
      pub xs_are : then_q.xs ≡ a.xs ++ more
      pub nobody : (offer : Offer) → Sends m w row offer → offer.what ≡ answers → offer.to ≡ n → ⊥
      pub news : IsNews more (id_of then_q.pair.sender.ids asks m)
      pub adds : (offer : Offer) → Sends n w row offer → offer.what ≡ asks → offer.to ≡ m → In (record { at = timed.at; transfer = sent_by n w offer }) more

    -- Or the first one is delivered, and it is answered, under the transfer ID that comes next.
    pub record Brings : Type 0 where
      pub x : Made
      pub others : List Made
      pub first : a.xs ≡ x ∷ others
      pub delivers : Delivers m x.transfer w row
      pub then_q : Asking then_traffic then_w (id_after next)
      pub xs_are : then_q.xs ≡ others
      pub same : id_of then_q.pair.sender.ids asks m ≡ id_of sender.ids asks m
      pub answered : IsAnswered m answers both.Tells x.transfer w row
      pub to : answered.offer.to ≡ n
      pub only : (offer : Offer) → Sends m w row offer → offer.what ≡ answers → offer.to ≡ n → offer.id ≡ next

    pub in_row : Passes ⊎ Brings
    in_row = elim next_q [
      | inl p ↦ inl (record {
        more = p.0;
        then_q = goes_on p.0 p.1 p.2 p.3 (added p.0 p.1 p.2 p.3 p.7);
        xs_are = refl;
        nobody = no_answer p.6;
        news = added p.0 p.1 p.2 p.3 p.7;
        adds = p.4;
      })
      | inr d ↦ inr (record {
        x = d.0;
        others = d.1;
        first = d.2;
        delivers = d.3;
        then_q = one_less d.0 d.1 d.2 d.3 [] a.expected d.4;
        xs_are = refl;
        same = same_counter (λ other f. apart (same_stepper n m other (receipt_of w d.3.k d.3.ms) (sym f ∙ ap (λ (r : Row). step_of w r) d.3.comes))) d.1 [] a.expected d.4;
        answered = its_answer d.0 d.1 d.2 d.3;
        to = to_n d.0 d.1 d.2 d.3;
        only = one_answer d.0 d.1 d.2 d.3;
      })
    ]

    -- this one alone is made, where it is sent in the row
    pub made_alone : (p : Passes) (offer : Offer) → Sends n w row offer → offer.what ≡ asks → offer.to ≡ m
        → p.more ≡ record { at = timed.at; transfer = sent_by n w offer } ∷ []
    made_alone p offer sends what to = elim p.news [
      | inl none ↦ absurd (none_in x p.more none.0 (p.adds offer sends what to))
      | inr o ↦ o.1 ∙ ap (λ (z : Made). z ∷ []) (sym (in_one x (record { at = timed.at; transfer = sent_by n w o.0 }) p.more o.1 (p.adds offer sends what to)))
    ]
      where
        x : Made
        x = record { at = timed.at; transfer = sent_by n w offer }

    -- what is under way was made two delays ago at most
    pub in_time : (x : Made) → In x a.xs → timed.at ≤ x.at + 2 * pace.delay
    in_time = none_late laws group clocks pace nodes n m in_n in_m apart asks m heard_q base quick Begins (IsCounter asks m) (λ t expected mode. mode)
        traffic w a.xs a.front a.expected a.pair timed.at calm.0

  -- ---- the rows of a calm

  -- Where this holds of the ID that comes next: each answer has such an ID, and another one than the answer before it.
  pub none_repeats : (rows : List Timed) (traffic : Traffic) (w : Cluster) (next : ℕ) → Asking traffic w next → (Holds : ℕ → Type 0) → Holds next
      → AreCalm group clocks pace traffic w rows → AreWell group w → AllGiven both w rows → NoneRepeats m answers n Holds w rows
  none_repeats [] traffic w next a Holds holds calm are given = tt
  none_repeats (timed ∷ rest) traffic w next a Holds holds calm are given = elim (in_row traffic w next a timed rest calm are given.0) [
    | inl p ↦ (
      λ offer sends what to. absurd (p.nobody offer sends what to),
      λ nobody. none_repeats rest (traffic_after traffic w timed) (after_row w timed.row) next p.then_q Holds holds calm.2 well given.1,
    )
    | inr d ↦ (
      λ offer sends what to.
          let same : offer.id ≡ next = d.only offer sends what to in (
            subst Holds (sym same) holds,
            none_repeats rest (traffic_after traffic w timed) (after_row w timed.row) (id_after next) d.then_q
                (λ id. offer.id ≢ id) (λ e. apart_next next (sym same ∙ e)) calm.2 well given.1,
          ),
      λ nobody. absurd (nobody d.answered.offer d.answered.sends d.answered.what d.to),
    )
  ]
    where
      well : AreWell group (after_row w timed.row)
      well = well_after laws group nodes w are clocks pace traffic timed.at timed.row calm.1
