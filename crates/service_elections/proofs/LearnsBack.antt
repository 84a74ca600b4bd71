-- A request comes back, in a calm: it is delivered to the member that is asked, which answers, and its answer comes to
-- the one that asked, as long as this stays so of the request.
use Rattle.std.proofs.Common.{◌≡◌, ℕ, ◌+◌, ◌*◌, ◌<◌, ◌≤◌, arith, List, [], ◌∷◌, ◌++◌, max, refl, sym, ◌∙◌, ap, subst, inl, inr}
use Rattle.std.specs.Prelude.{⊤}
use Rattle.can_frame.specs.declared.step.What.{What}
use Rattle.raft_model.specs.Lists.{In}
use Rattle.bus_rows.specs.declared.row.Row.{Row}
use Rattle.alloc_spec.specs.AllocatorState.{AllocatorState}
use Rattle.alloc_spec.specs.Step.{step}
use Rattle.alloc_spec.specs.Transfers.{Offer, SentTransfer, id_of}
use Rattle.service_candidate.specs.Votes.{Stands}
use Rattle.service_leader.proofs.ExchangeGoes.{answered_in_time, asked_in_time, at_first as going_first}
use Rattle.service_leader.proofs.ExchangeStart.{Fresh}
use Rattle.service_elections.proofs.LearnsChain.{AllTurns, NoAnswer}
use Rattle.service_leader.proofs.Exchange.{Exchange, IsAnswered}
use Rattle.service_elections.proofs.LearnsUnder.{Stepped, Under, stepped}
use Rattle.service_leader.proofs.RowsOfOne.{stepped_up}
use Rattle.service_calm.specs.Calm.{IsCalmRow, Member as OfMember, Party}
use Rattle.service_calm.specs.Comes.{Delivers, Sends, sent_by}
use Rattle.service_calm.proofs.Group.{IsWell}
use Rattle.service_calm.proofs.Pair.{same_server}
use Rattle.service_calm.proofs.Pending.{Made}
use Rattle.bus_rows.specs.Timed.{Timed, rows_in}
use Rattle.service_alone.specs.Calm.{Pace}
use Rattle.bus_spec.specs.Cluster.{Cluster, after_row, after_rows, receipt_of, step_of}
use Rattle.bus_spec.specs.Members.MemberStatus.{Up}

-- in none of these rows member n stands for election
abbrev pub StandsNot : ℕ → Cluster → List Timed → Type 0
StandsNot n w [] = ⊤
StandsNot n w (timed ∷ rest) = ((term : ℕ) → Stands n term w timed.row → ⊥) × StandsNot n (after_row w timed.row) rest

module _ (both : Exchange) (Open Stay : Made → AllocatorState → Type 0) (quick : 4 * both.pace.delay < 1000) where
  abbrev group : List Party
  group = both.group

  abbrev clocks : Party → ℕ
  clocks = both.clocks

  abbrev pace : Pace
  pace = both.pace

  abbrev n : ℕ
  n = both.n

  abbrev m : ℕ
  m = both.m

  abbrev asks : What
  asks = both.asks

  abbrev answers : What
  answers = both.answers

  -- This of the request x stays so in each of these rows in which its answer does not come.
  abbrev pub Stays : Made → Cluster → List Timed → Type 0
  Stays x w [] = ⊤
  Stays x w (timed ∷ rest) = ((t u : AllocatorState) → (w.member n).status ≡ Up t → ((after_row w timed.row).member n).status ≡ Up u → Stay x t
      → timed.at ≤ x.at + 4 * pace.delay → NoAnswer both Open x.transfer.offer.id w timed.row t → Stay x u) × Stays x (after_row w timed.row) rest

  -- The answer y to the request x comes to who asked in one of these rows, in which this holds of the request, at the
  -- moment of the row by its clock.
  pub record ReplyComes (x : Made) (y : SentTransfer) (w : Cluster) (whole : List Timed) : Type 0 where
    pub front : List Timed
    pub timed : Timed
    pub rest : List Timed
    pub split : whole ≡ front ++ timed ∷ rest
    pub soon : timed.at ≤ x.at + 4 * pace.delay
    pub delivers : Delivers n y (after_rows w (rows_in front)) timed.row
    pub opened : Stay x delivers.server
    pub me : delivers.server.me ≡ n
    pub moment : max delivers.server.now delivers.ms ≡ timed.at + clocks (OfMember n)
    pub runs_then : let there = after_rows w (rows_in front) in
        ((after_row there timed.row).member n).status ≡ Up (step delivers.server (there.rows + 1) (receipt_of there delivers.k delivers.ms)).step_state.allocator

  -- The request x comes in one of these rows, and is answered; and its answer comes in a later one.
  pub record RequestComes (x : Made) (w : Cluster) (whole : List Timed) : Type 0 where
    pub front : List Timed
    pub timed : Timed
    pub rest : List Timed
    pub split : whole ≡ front ++ timed ∷ rest
    pub soon : timed.at ≤ x.at + 2 * pace.delay
    pub delivers : Delivers m x.transfer (after_rows w (rows_in front)) timed.row
    pub answered : IsAnswered m answers both.Tells x.transfer (after_rows w (rows_in front)) timed.row
    pub told : both.Told (sent_by m (after_rows w (rows_in front)) answered.offer)
    pub comes : let there = after_rows w (rows_in front) in ReplyComes x (sent_by m there answered.offer) (after_row there timed.row) rest

  -- What is given of these rows.
  pub record Along (w : Cluster) (rows : List Timed) : Type 0 where
    pub u : Under both Open quick w rows
    pub turns : AllTurns both Open w rows

  -- It is so where the calm begins.
  pub at_first : (start : ℕ) (w : Cluster) (rows : List Timed) → Fresh both start w rows → AllTurns both Open w rows → Along w rows
  at_first start w rows f turns = record {
    u = record {
      going = going_first both start w rows f;
      olds = [];
      match = tt;
      first = id_of f.requests.sender.ids asks m;
      follow = refl;
      few = tt;
      past = λ z i. absurd i;
    };
    turns = turns;
  }

  module _ (w : Cluster) (timed : Timed) (rest : List Timed) (g : Along w (timed ∷ rest)) where
    abbrev pub its_step : Stepped both Open quick w timed rest g.u g.turns.0
    its_step = stepped both Open quick w timed rest g.u g.turns.0

    abbrev pub along : Along (after_row w timed.row) rest
    along = record {
      u = its_step.then_u;
      turns = g.turns.1;
    }

  -- ---- the answer comes

  reply_behind : (x : Made) (y : SentTransfer) (w : Cluster) (timed : Timed) (rest : List Timed) → ReplyComes x y (after_row w timed.row) rest → ReplyComes x y w (timed ∷ rest)
  reply_behind x y w timed rest b = record {
    front = timed ∷ b.front;
    timed = b.timed;
    rest = b.rest;
    split = ap (λ (l : List Timed). timed ∷ l) b.split;
    soon = b.soon;
    delivers = b.delivers;
    opened = b.opened;
    me = b.me;
    moment = b.moment;
    runs_then = b.runs_then;
  }

  -- an answer that is under way comes within the time
  reply_soon : (x y : Made) → y.at ≤ x.at + 2 * pace.delay → (timed : Timed) (rest : List Timed) (w : Cluster) (g : Along w (timed ∷ rest)) → In y g.u.going.a.xs
      → timed.at ≤ x.at + 4 * pace.delay
  reply_soon x y its_soon timed rest w g i = let l = answered_in_time both w timed rest g.u.going y i in omega (arith, l, its_soon)

  reply_comes : (x y : Made) → y.transfer.offer.id ≡ x.transfer.offer.id → y.at ≤ x.at + 2 * pace.delay → (next : Timed) (later : List Timed)
      → x.at + 4 * pace.delay < next.at → (rows : List Timed) (w : Cluster) (g : Along w (rows ++ next ∷ later)) → In y g.u.going.a.xs → Stay x g.u.going.q.pair.sender → Stays x w rows
      → ReplyComes x y.transfer w rows
  reply_comes x y its_id its_soon next later long [] w g i opened stays = absurd (let soon = reply_soon x y its_soon next later w g i in omega (arith, soon, long))
  reply_comes x y its_id its_soon next later long (timed ∷ rest) w g i opened stays = elim ((its_step w timed (rest ++ next ∷ later) g).replies y i) [
    | inl more ↦ reply_behind x y.transfer w timed rest (reply_comes x y its_id its_soon next later long rest (after_row w timed.row) (along w timed (rest ++ next ∷ later) g) more.0
        (stays.0 g.u.going.q.pair.sender (its_step w timed (rest ++ next ∷ later) g).then_u.going.q.pair.sender g.u.going.q.pair.sender_up.status
        (its_step w timed (rest ++ next ∷ later) g).then_u.going.q.pair.sender_up.status opened late
        (subst (λ (id : ℕ). NoAnswer both Open id w timed.row g.u.going.q.pair.sender) its_id more.1)) stays.1)
    | inr d ↦ record {
      front = [];
      timed = timed;
      rest = rest;
      split = refl;
      soon = late;
      delivers = d;
      opened = subst (Stay x) (same_server g.u.going.q.pair.sender d.server (sym g.u.going.q.pair.sender_up.status ∙ d.runs)) opened;
      me = ap (λ (s : AllocatorState). s.me) (same_server d.server its.server (sym d.runs ∙ its.up.status)) ∙ its.its.me;
      moment =
          let ms : d.ms ≡ timed.at + clocks (OfMember n) = (subst (λ (row : Row). IsCalmRow group clocks pace g.u.going.traffic w timed.at row) d.comes g.u.going.calm.1).1 in
          let now = g.turns.0.clock d.server d.runs in omega (arith, ms, now);
      runs_then = (stepped_up w n d.server (record { status = d.runs; quiet = its.up.quiet }) timed.row (receipt_of w d.k d.ms) (ap (λ (r : Row). step_of w r) d.comes)).status;
    }
  ]
    where
      its : IsWell n (w.member n)
      its = g.u.going.are.members n both.in_n

      late : timed.at ≤ x.at + 4 * pace.delay
      late = reply_soon x y its_soon timed (rest ++ next ∷ later) w g i

  -- ---- the request comes

  request_behind : (x : Made) (w : Cluster) (timed : Timed) (rest : List Timed) → RequestComes x (after_row w timed.row) rest → RequestComes x w (timed ∷ rest)
  request_behind x w timed rest b = record {
    front = timed ∷ b.front;
    timed = b.timed;
    rest = b.rest;
    split = ap (λ (l : List Timed). timed ∷ l) b.split;
    soon = b.soon;
    delivers = b.delivers;
    answered = b.answered;
    told = b.told;
    comes = b.comes;
  }

  -- a request that is under way comes within the time
  request_soon : (x : Made) (timed : Timed) (rest : List Timed) (w : Cluster) (g : Along w (timed ∷ rest)) → In x g.u.going.q.xs → timed.at ≤ x.at + 2 * pace.delay
  request_soon x timed rest w g i = asked_in_time both w timed rest g.u.going x i

  request_comes : (x : Made) (next : Timed) (later : List Timed) → x.at + 4 * pace.delay < next.at → (rows : List Timed) (w : Cluster) (g : Along w (rows ++ next ∷ later))
      → In x g.u.going.q.xs → Stay x g.u.going.q.pair.sender → Stays x w rows → RequestComes x w rows
  request_comes x next later long [] w g i opened stays = absurd (let soon = request_soon x next later w g i in omega (arith, soon, long))
  request_comes x next later long (timed ∷ rest) w g i opened stays = elim ((its_step w timed (rest ++ next ∷ later) g).requests x i) [
    | inl more ↦ request_behind x w timed rest (request_comes x next later long rest (after_row w timed.row) (along w timed (rest ++ next ∷ later) g) more then_open stays.1)
    | inr d ↦ record {
      front = [];
      timed = timed;
      rest = rest;
      split = refl;
      soon = soon;
      delivers = d.0;
      answered = d.1;
      told = g.u.going.given.0.told d.1.offer d.1.sends d.1.what;
      comes = reply_comes x (record { at = timed.at; transfer = sent_by m w d.1.offer }) d.1.id soon next later long rest (after_row w timed.row)
          (along w timed (rest ++ next ∷ later) g) d.2 then_open stays.1;
    }
  ]
    where
      soon : timed.at ≤ x.at + 2 * pace.delay
      soon = request_soon x timed (rest ++ next ∷ later) w g i

      late : timed.at ≤ x.at + 4 * pace.delay
      late = omega (arith, soon)

      then_open : Stay x (its_step w timed (rest ++ next ∷ later) g).then_u.going.q.pair.sender
      then_open = stays.0 g.u.going.q.pair.sender (its_step w timed (rest ++ next ∷ later) g).then_u.going.q.pair.sender g.u.going.q.pair.sender_up.status
          (its_step w timed (rest ++ next ∷ later) g).then_u.going.q.pair.sender_up.status opened late ((its_step w timed (rest ++ next ∷ later) g).quiet x i)

  -- ---- from the beginning

  pub along_on : (front rest : List Timed) (w : Cluster) → Along w (front ++ rest) → Along (after_rows w (rows_in front)) rest
  along_on [] rest w g = g
  along_on (timed ∷ front) rest w g = along_on front rest (after_row w timed.row) (along w timed (front ++ rest) g)

  sent_here : (rest later : List Timed) (timed next : Timed) (w : Cluster) → Along w (timed ∷ (rest ++ next ∷ later)) → (offer : Offer) → Sends n w timed.row offer
      → offer.what ≡ asks → offer.to ≡ m
      → let x : Made = record { at = timed.at; transfer = sent_by n w offer } in
      ((u : AllocatorState) → ((after_row w timed.row).member n).status ≡ Up u → Stay x u) → Stays x (after_row w timed.row) rest
      → timed.at + 4 * pace.delay < next.at → RequestComes x (after_row w timed.row) rest
  sent_here rest later timed next w g offer sends what to opened stays long =
      request_comes (record { at = timed.at; transfer = sent_by n w offer }) next later long rest (after_row w timed.row) (along w timed (rest ++ next ∷ later) g)
      ((its_step w timed (rest ++ next ∷ later) g).adds offer sends what to)
      (opened (its_step w timed (rest ++ next ∷ later) g).then_u.going.q.pair.sender (its_step w timed (rest ++ next ∷ later) g).then_u.going.q.pair.sender_up.status) stays

  -- a request that is sent comes back before a row that is late enough
  pub comes_back : (front rest later : List Timed) (timed next : Timed) (w : Cluster) → Along w (front ++ timed ∷ (rest ++ next ∷ later)) →
      let there = after_rows w (rows_in front) in
      (offer : Offer) → Sends n there timed.row offer → offer.what ≡ asks → offer.to ≡ m
      → let x : Made = record { at = timed.at; transfer = sent_by n there offer } in
      ((u : AllocatorState) → ((after_row there timed.row).member n).status ≡ Up u → Stay x u) → Stays x (after_row there timed.row) rest
      → timed.at + 4 * pace.delay < next.at → RequestComes x (after_row there timed.row) rest
  comes_back front rest later timed next w g offer sends what to opened stays long =
      sent_here rest later timed next (after_rows w (rows_in front)) (along_on front (timed ∷ (rest ++ next ∷ later)) w g) offer sends what to opened stays long

-- ---- what is open stays so, where who asks does not stand

module _ (both : Exchange) (Open : Made → AllocatorState → Type 0) (quick : 4 * both.pace.delay < 1000) where
  -- what is given of rows behind the first ones
  pub turns_on : (front rest : List Timed) (w : Cluster) → AllTurns both Open w (front ++ rest) → AllTurns both Open (after_rows w (rows_in front)) rest
  turns_on [] rest w turns = turns
  turns_on (timed ∷ front) rest w turns = turns_on front rest (after_row w timed.row) turns.1

  pub open_stays : (x : Made) (rows later : List Timed) (w : Cluster) → AllTurns both Open w (rows ++ later) → StandsNot both.n w rows → Stays both Open Open quick x w rows
  open_stays x [] later w turns nobody = tt
  open_stays x (timed ∷ rest) later w turns nobody = (
    λ t u up up_then opened late none. elim (turns.0.stays x t u up up_then opened late none) [ inl still ↦ still | inr s ↦ absurd (nobody.0 s.0 s.1) ],
    open_stays x rest later (after_row w timed.row) turns.1 nobody.1,
  )
