-- The answers of one member that come to another one, in a calm: what of them is under way, row by row, and that each
-- comes, the first one before each other.
use Rattle.std.proofs.Common.{◌≡◌, ◌≢◌, ℕ, ◌+◌, ◌*◌, ◌<◌, ◌≤◌, arith, true, List, [], ◌∷◌, ◌++◌, append_assoc, drop, max, refl, sym, ◌∙◌, ap, subst, inl, inr, Some}
use Rattle.std.specs.Prelude.{⊤, ◌⊎◌, slice_index_or}
use Rattle.can_frame.specs.declared.step.What.{What}
use Rattle.raft_model.specs.Lists.{In}
use Rattle.bus_rows.specs.declared.row.Row.{Row}
use Rattle.bus_rows.specs.declared.row.Row.TheVariants.{Rx}
use Rattle.transfer_rx.specs.Keys.{key_of}
use Rattle.transfer_rx.specs.Reassembly.{Delivery, Gives, answer}
use Rattle.transfer_rx.specs.Sessions.{Session}
use Rattle.alloc_spec.specs.Accepted.{setting_for}
use Rattle.alloc_spec.specs.AllocatorState.{AllocatorState}
use Rattle.alloc_spec.specs.Step.{Event, step}
use Rattle.alloc_spec.specs.Transfers.{Offer, SentTransfer, ident_of}
use Rattle.alloc_spec_laws.proofs.Lists.{in_back}
use Rattle.service_leader.proofs.Exchange.{AllGiven, Exchange, Given, in_one, none_in, of_ones}
use Rattle.service_leader.proofs.EntriesRows.{step_or_not}
use Rattle.service_calm.specs.Calm.{AreCalm, IsCalmRow, Member as OfMember, Party, Traffic, receives, traffic_after}
use Rattle.service_calm.specs.Comes.{Delivers, IsHeard, NoneRepeats, Sends, delivery_of, sent_by}
use Rattle.service_calm.proofs.Counting.{ones}
use Rattle.service_calm.proofs.Follows.{few, passes, response_follows}
use Rattle.service_calm.proofs.Group.{AreWell, CalmLaws, well_after}
use Rattle.service_calm.proofs.MembersHear.{NextOf, NoneComesOf, PairOf, none_late, row_leaves}
use Rattle.service_calm.proofs.Pair.{Expected, FitsIn, made_none, made_of, made_one, same_server}
use Rattle.service_calm.proofs.Pending.{Coming, Made}
use Rattle.service_steps.proofs.FollowUps.{same_number}
use Rattle.bus_rows.specs.Timed.{Timed, rows_in}
use Rattle.service_alone.specs.Calm.{IsNext, Pace, end_of}
use Rattle.bus_spec.specs.Cluster.{Cluster, after_row, after_rows, arrival_at, frame_at, step_of}
use Rattle.bus_spec.specs.Members.MemberStatus.{Up}

-- ---- small facts

same_given : (d e : Delivery) → Gives d ≡ Gives e → d ≡ e
same_given d e same = cc same

same_receipt : (n k ms l moment : ℕ) (row : Row) → row ≡ Rx n k ms → row ≡ Rx n l moment → (k ≡ l) × (ms ≡ moment)
same_receipt n k ms l moment row e f = (cc (sym e ∙ f), cc (sym e ∙ f))

pub same_first : (x y : Made) (xs ys : List Made) → x ∷ xs ≡ y ∷ ys → x ≡ y
same_first x y xs ys e = ap (λ (l : List Made). slice_index_or l 0 x) e

pub none_is_some : (x : Made) (xs : List Made) → [] ≡ x ∷ xs → ⊥
none_is_some x xs e = cc e

pub no_first : (x : Made) (xs ys : List Made) → ys ≡ [] → ys ≡ x ∷ xs → ⊥
no_first x xs ys none some = none_is_some x xs (sym none ∙ some)

-- what is behind the first ones
pub behind_first : (x y : Made) (xs ys : List Made) → x ∷ xs ≡ y ∷ ys → xs ≡ ys
behind_first x y xs ys e = ap (λ (l : List Made). drop 1 l) e

-- one of a list stays so where more are added
pub more_behind : (x : Made) (before others more xs later : List Made) → later ≡ xs ++ more → xs ≡ before ++ x ∷ others → later ≡ before ++ x ∷ (others ++ more)
more_behind x before others more xs later is split = is ∙ (ap (λ (l : List Made). l ++ more) split ∙ append_assoc before (x ∷ others) more)

pub in_split : (x : Made) (before others xs : List Made) → xs ≡ before ++ x ∷ others → In x xs
in_split x before others xs split = subst (λ (l : List Made). In x l) (sym split) (in_back x before (x ∷ others) (inl refl))

-- ---- the answers that are under way

module _ (both : Exchange) where
  abbrev laws : CalmLaws
  laws = both.laws

  abbrev group : List Party
  group = both.group

  abbrev clocks : Party → ℕ
  clocks = both.clocks

  abbrev pace : Pace
  pace = both.pace

  abbrev nodes : (p : ℕ) → In (OfMember p) group → (1 ≤ p) × (p ≤ 125)
  nodes = both.nodes

  abbrev n : ℕ
  n = both.n

  abbrev m : ℕ
  m = both.m

  abbrev in_n : In (OfMember n) group
  in_n = both.in_n

  abbrev in_m : In (OfMember m) group
  in_m = both.in_m

  pub apart : m ≢ n
  apart e = both.apart (sym e)

  abbrev quick : 2 * pace.delay ≤ 2000
  quick = both.quick

  abbrev base : ℕ
  base = both.base_n

  abbrev Begins : ℕ → Type 0
  Begins = both.BeginsN

  abbrev answers : What
  answers = both.answers

  abbrev heard_a : IsHeard n answers n
  heard_a = both.heard_answers

  -- ---- rows in which no answer comes

  -- in this row no answer of m is delivered to n
  abbrev pub IsSilent : Cluster → Row → Type 0
  IsSilent w row = (t : AllocatorState) → (w.member n).status ≡ Up t → (k ms : ℕ) → row ≡ Rx n k ms → (d : Delivery)
      → key_of d.ident ≡ key_of (ident_of m answers n) → answer (setting_for n) t.sessions (arrival_at (frame_at w.frames k) (max t.now ms)) ≡ Gives d → ⊥

  -- nor in any of these
  abbrev pub AreSilent : Cluster → List Timed → Type 0
  AreSilent w [] = ⊤
  AreSilent w (timed ∷ rest) = IsSilent w timed.row × AreSilent (after_row w timed.row) rest

  -- so in each of them
  pub silent_at : (early late : List Timed) (one : Timed) (w : Cluster) → AreSilent w (early ++ one ∷ late) → IsSilent (after_rows w (rows_in early)) one.row
  silent_at [] late one w silent = silent.0
  silent_at (timed ∷ early) late one w silent = silent_at early late one (after_row w timed.row) silent.1

  -- and in two stretches, one behind the other
  pub silent_both : (first more : List Timed) (timed : Timed) (w : Cluster) → AreSilent w first → IsSilent (after_rows w (rows_in first)) timed.row
      → AreSilent (after_row (after_rows w (rows_in first)) timed.row) more → AreSilent w (first ++ timed ∷ more)
  silent_both [] more timed w silent here then_silent = (here, then_silent)
  silent_both (one ∷ first) more timed w silent here then_silent = (silent.0, silent_both first more timed (after_row w one.row) silent.1 here then_silent)

  -- The answer y is delivered to n in one of these rows, by this moment; and no other one before, where this is so.
  pub record Comes (First : Type 0) (y : SentTransfer) (last : ℕ) (w : Cluster) (whole : List Timed) : Type 0 where
    pub front : List Timed
    pub timed : Timed
    pub rest : List Timed
    pub split : whole ≡ front ++ timed ∷ rest
    pub soon : timed.at ≤ last
    pub delivers : Delivers n y (after_rows w (rows_in front)) timed.row
    pub silent : First → AreSilent w front

  -- ---- what is under way

  -- the answers of m to n that are under way
  abbrev pub PairA : Traffic → Cluster → List Made → List Coming → Expected → Type 0
  PairA = PairOf laws group clocks pace nodes m n in_m in_n apart answers n heard_a base quick Begins (λ t expected. ⊤) (λ t expected mode. tt)

  -- and those that are made later have transfer IDs under which they may begin
  pub record Answering (traffic : Traffic) (w : Cluster) (rows : List Timed) : Type 0 where
    pub xs : List Made
    pub front : List Coming
    pub expected : Expected
    pub pair : PairA traffic w xs front expected
    pub none : NoneRepeats m answers n (FitsIn Begins expected) w rows

  -- ---- a row

  module _ (traffic : Traffic) (w : Cluster) (timed : Timed) (rest : List Timed) (a : Answering traffic w (timed ∷ rest))
      (calm : AreCalm group clocks pace traffic w (timed ∷ rest)) (are : AreWell group w) (given : Given both w timed.row) where
    abbrev row : Row
    row = timed.row

    abbrev then_w : Cluster
    then_w = after_row w timed.row

    abbrev then_traffic : Traffic
    then_traffic = traffic_after traffic w timed

    abbrev RestA : Expected → Type 0
    RestA = λ later. NoneRepeats m answers n (FitsIn Begins later) (after_row w timed.row) rest

    abbrev NextA : Type 0
    NextA = NextOf laws group clocks pace nodes m n in_m in_n apart answers n heard_a base quick Begins (λ t expected. ⊤) (λ t expected mode. tt)
        traffic w a.xs a.front a.expected a.pair timed.at calm.0 row RestA

    abbrev QuietA : Type 0
    QuietA = NoneComesOf laws group clocks pace nodes m n in_m in_n apart answers n heard_a base quick Begins (λ t expected. ⊤) (λ t expected mode. tt)
        traffic w a.xs a.front a.expected a.pair timed.at calm.0 row RestA

    -- the answers afterwards
    next_a : NextA
    next_a = row_leaves laws group clocks pace nodes m n in_m in_n apart answers n heard_a base quick Begins (λ t expected. ⊤) (λ t expected mode. tt)
        traffic w a.xs a.front a.expected a.pair timed.at calm.0 row RestA given.memory_n are calm.1
        (λ event is_step bus. response_follows Begins m answers n both.answers_kind both.apart_offers a.expected w timed rest a.none a.pair.sender a.pair.sender_up.status event is_step)
        (λ quiet. passes Begins m answers n both.answers_kind both.apart_offers a.expected w timed rest a.none quiet)

    -- ---- what is delivered

    -- this is delivered to the member by this frame
    abbrev pub IsGiven : (k ms : ℕ) → AllocatorState → Delivery → Type 0
    IsGiven k ms t d = answer (setting_for n) t.sessions (arrival_at (frame_at w.frames k) (max t.now ms)) ≡ Gives d

    sessions_are : (t : AllocatorState) → (w.member n).status ≡ Up t → t.sessions ≡ a.pair.sessions
    sessions_are t up = ap (λ (s : AllocatorState). s.sessions) (same_server t a.pair.hears.server (sym up ∙ a.pair.hears.up.status)) ∙ a.pair.hears.has

    -- where none of them is delivered, no answer comes
    no_answer_comes : QuietA → IsSilent w row
    no_answer_comes quiet t up k ms comes d key gives = quiet k (max t.now ms) bring.0 bring.1 d key
        (ap (λ (s : List Session). answer (setting_for n) s (arrival_at (frame_at w.frames k) (max t.now ms))) (sym (sessions_are t up)) ∙ gives)
      where
        calm_row : IsCalmRow group clocks pace traffic w timed.at (Rx n k ms)
        calm_row = subst (IsCalmRow group clocks pace traffic w timed.at) comes calm.1

        bring : (receives row (OfMember n) ≡ true) × IsNext k (traffic.to (OfMember n))
        bring = (ap (λ (l : Row). receives l (OfMember n)) comes ∙ same_number n, calm_row.2)

    -- where one is delivered, it is what comes
    comes_only : (x : SentTransfer) → Delivers n x w row → (t : AllocatorState) → (w.member n).status ≡ Up t → (k ms : ℕ) → row ≡ Rx n k ms → (d : Delivery)
        → IsGiven k ms t d → d ≡ delivery_of x
    comes_only x delivers t up k ms comes d gives =
        let same = same_receipt n k ms delivers.k delivers.ms row comes delivers.comes in
        let server = same_server t delivers.server (sym up ∙ delivers.runs) in
        same_given d (delivery_of x) (sym gives
        ∙ ((λ i. answer (setting_for n) (server i).sessions (arrival_at (frame_at w.frames (same.0 i)) (max (server i).now (same.1 i)))) ∙ delivers.gives))

    -- what is made in the row is one at most, and sent in it
    abbrev AreFew : List Made → Type 0
    AreFew more = (more ≡ []) ⊎ ((o : Offer) × (more ≡ record { at = timed.at; transfer = sent_by m w o } ∷ []) × Sends m w row o × (o.what ≡ answers) × (o.to ≡ n))

    abbrev IsNoStep : Type 0
    IsNoStep = (event : Event) → step_of w row ≡ Some (m, event) → ⊥

    are_few : (more : List Made) → ((event : Event) → step_of w row ≡ Some (m, event)
        → more ≡ made_of timed.at (sent_by m w) (ones answers n (step a.pair.sender (w.rows + 1) event).step_state.offers)) × (IsNoStep → more ≡ []) → AreFew more
    are_few more news = elim (step_or_not w row m) [
      | inl s ↦ elim (few answers n (step a.pair.sender (w.rows + 1) s.0).step_state.offers heard_a.0 (both.apart_offers a.pair.sender (w.rows + 1) s.0)) [
        | inl none ↦ inl (news.0 s.0 s.1 ∙ (ap (made_of timed.at (sent_by m w)) none ∙ made_none timed.at (sent_by m w)))
        | inr one ↦
            let is = of_ones m w row a.pair.sender a.pair.sender_up.status s.0 s.1 answers n one.0 (subst (λ (l : List Offer). In one.0 l) (sym one.1) (inl refl)) in
            inr (
              one.0,
              news.0 s.0 s.1 ∙ (ap (made_of timed.at (sent_by m w)) one.1 ∙ made_one timed.at (sent_by m w) one.0),
              is.0,
              is.1,
              is.2,
            )
      ]
      | inr none ↦ inl (news.1 none)
    ]

    -- None is delivered in the row, but one may be made.
    pub record Passes : Type 0 where
      pub more : List Made
      pub then_a : Answering then_traffic then_w rest
      pub xs_are : then_a.xs ≡ a.xs ++ more
      pub silent : IsSilent w row
      pub few_more : AreFew more
      pub adds : (offer : Offer) → Sends m w row offer → offer.what ≡ answers → offer.to ≡ n → In (record { at = timed.at; transfer = sent_by m w offer }) more

    -- or the first one is delivered, and nothing else is
    pub record Brings : Type 0 where
      pub x : Made
      pub others : List Made
      pub first : a.xs ≡ x ∷ others
      pub delivers : Delivers n x.transfer w row
      pub then_a : Answering then_traffic then_w rest
      pub xs_are : then_a.xs ≡ others
      pub only : (t : AllocatorState) → (w.member n).status ≡ Up t → (k ms : ℕ) → row ≡ Rx n k ms → (d : Delivery) → IsGiven k ms t d
          → d ≡ delivery_of x.transfer

    pub in_row : Passes ⊎ Brings
    in_row = elim next_a [
      | inl p ↦ inl (record {
        more = p.0;
        then_a = record { xs = a.xs ++ p.0; front = p.1; expected = p.2; pair = p.3; none = p.5 };
        xs_are = refl;
        silent = no_answer_comes p.6;
        few_more = are_few p.0 p.7;
        adds = p.4;
      })
      | inr d ↦ inr (record {
        x = d.0;
        others = d.1;
        first = d.2;
        delivers = d.3;
        then_a = record { xs = d.1; front = []; expected = a.expected; pair = d.4; none = d.6 };
        xs_are = refl;
        only = comes_only d.0.transfer d.3;
      })
    ]

    -- this one alone is made, where it is sent in the row
    pub made_alone : (p : Passes) (offer : Offer) → Sends m w row offer → offer.what ≡ answers → offer.to ≡ n
        → p.more ≡ record { at = timed.at; transfer = sent_by m w offer } ∷ []
    made_alone p offer sends what to = elim p.few_more [
      | inl none ↦ absurd (none_in y p.more none (p.adds offer sends what to))
      | inr o ↦ o.1 ∙ ap (λ (z : Made). z ∷ []) (sym (in_one y (record { at = timed.at; transfer = sent_by m w o.0 }) p.more o.1 (p.adds offer sends what to)))
    ]
      where
        y : Made
        y = record { at = timed.at; transfer = sent_by m w offer }

    -- what is under way was made two delays ago at most
    pub in_time : (x : Made) → In x a.xs → timed.at ≤ x.at + 2 * pace.delay
    in_time = none_late laws group clocks pace nodes m n in_m in_n apart answers n heard_a base quick Begins (λ t expected. ⊤) (λ t expected mode. tt)
        traffic w a.xs a.front a.expected a.pair timed.at calm.0

  -- ---- the rows of a calm

  row_earlier : (First : Type 0) (y : SentTransfer) (last : ℕ) (w : Cluster) (timed : Timed) (rest : List Timed) → (First → IsSilent w timed.row)
      → Comes First y last (after_row w timed.row) rest → Comes First y last w (timed ∷ rest)
  row_earlier First y last w timed rest silent c = record {
    front = timed ∷ c.front;
    timed = c.timed;
    rest = c.rest;
    split = ap (λ (l : List Timed). timed ∷ l) c.split;
    soon = c.soon;
    delivers = c.delivers;
    silent = λ first. (silent first, c.silent first);
  }

  -- an answer that is under way comes, and before each other, where it is the first
  pub comes : (First : Type 0) (y : Made) (last : ℕ) → y.at + 2 * pace.delay ≤ last → (rows : List Timed) (before others : List Made) (traffic : Traffic) (w : Cluster)
      (a : Answering traffic w rows) → AreCalm group clocks pace traffic w rows → AreWell group w → AllGiven both w rows → a.xs ≡ before ++ y ∷ others → (First → before ≡ [])
      → (at : ℕ) → at ≤ y.at + 2 * pace.delay → y.at + 2 * pace.delay < end_of at rows → Comes First y.transfer last w rows
  comes First y last soon [] before others traffic w a calm are given split first at past long = absurd (omega (arith, past, long))
  comes First y last soon (timed ∷ rest) [] others traffic w a calm are given split first at past long = elim (in_row traffic w timed rest a calm are given.0) [
    | inl p ↦ row_earlier First y.transfer last w timed rest (λ f. p.silent)
        (comes First y last soon rest [] (others ++ p.more) (traffic_after traffic w timed) (after_row w timed.row) p.then_a calm.2
        (well_after laws group nodes w are clocks pace traffic timed.at timed.row calm.1) given.1
        (more_behind y [] others p.more a.xs p.then_a.xs p.xs_are split) first timed.at late long)
    | inr d ↦ record {
      front = [];
      timed = timed;
      rest = rest;
      split = refl;
      soon = omega (arith, late, soon);
      delivers = subst (λ (z : Made). Delivers n z.transfer w timed.row) (same_first d.x y d.others others (sym d.first ∙ split)) d.delivers;
      silent = λ f. tt;
    }
  ]
    where
      late : timed.at ≤ y.at + 2 * pace.delay
      late = in_time traffic w timed rest a calm are given.0 y (in_split y [] others a.xs split)
  comes First y last soon (timed ∷ rest) (b ∷ before) others traffic w a calm are given split first at past long = elim (in_row traffic w timed rest a calm are given.0) [
    | inl p ↦ row_earlier First y.transfer last w timed rest (λ f. p.silent)
        (comes First y last soon rest (b ∷ before) (others ++ p.more) (traffic_after traffic w timed) (after_row w timed.row) p.then_a calm.2
        (well_after laws group nodes w are clocks pace traffic timed.at timed.row calm.1) given.1
        (more_behind y (b ∷ before) others p.more a.xs p.then_a.xs p.xs_are split) first timed.at late long)
    | inr d ↦ row_earlier First y.transfer last w timed rest (λ f. absurd (none_is_some b before (sym (first f))))
        (comes First y last soon rest before others (traffic_after traffic w timed) (after_row w timed.row) d.then_a calm.2
        (well_after laws group nodes w are clocks pace traffic timed.at timed.row calm.1) given.1
        (d.xs_are ∙ behind_first d.x b d.others (before ++ y ∷ others) (sym d.first ∙ split)) (λ f. absurd (none_is_some b before (sym (first f)))) timed.at late long)
  ]
    where
      late : timed.at ≤ y.at + 2 * pace.delay
      late = in_time traffic w timed rest a calm are given.0 y (in_split y (b ∷ before) others a.xs split)
