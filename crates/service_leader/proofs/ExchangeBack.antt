-- A request comes back, in a calm: it is delivered to the member that is asked, and each answer that this one sends in
-- that row comes to the one that asked. Where nothing else is under way, no other answer comes before.
use Rattle.std.proofs.Common.{◌≡◌, ℕ, ◌+◌, ◌*◌, ◌<◌, ◌≤◌, arith, List, [], ◌∷◌, ◌++◌, refl, sym, ◌∙◌, ap, subst, inl, inr, Some}
use Rattle.std.specs.Prelude.{◌⊎◌}
use Rattle.can_frame.specs.declared.step.What.{What}
use Rattle.raft_model.specs.Lists.{In}
use Rattle.bus_rows.specs.declared.row.Row.{Row}
use Rattle.alloc_spec.specs.AllocatorState.{AllocatorState, members_of}
use Rattle.alloc_spec.specs.Step.{Event}
use Rattle.alloc_spec.specs.Transfers.{Offer}
use Rattle.service_leader.proofs.Exchange.{Exchange}
use Rattle.service_leader.proofs.ExchangeAnswers as replies
use Rattle.service_leader.proofs.ExchangeAnswers.{AreSilent, Comes, IsSilent, behind_first, comes, in_split, more_behind, no_first, none_is_some, same_first}
use Rattle.service_leader.proofs.ExchangeAsks as questions
use Rattle.service_leader.proofs.ExchangeGoes.{BringsA, BringsQ, Going, PassesA, PassesQ, a_row, a_then, asked_in_time, goes_on, q_row}
use Rattle.service_leader.specs.CallsComeBack.{HasPlace}
use Rattle.service_calm.specs.Comes.{Delivers, Sends, sent_by}
use Rattle.service_calm.proofs.Pair.{same_server, same_stepper}
use Rattle.service_calm.proofs.Pending.{Made}
use Rattle.bus_rows.specs.Timed.{Timed, rows_in}
use Rattle.service_alone.specs.Calm.{Pace, end_of}
use Rattle.bus_spec.specs.Cluster.{Cluster, after_row, after_rows, receipt_of, step_of}

module _ (both : Exchange) where
  abbrev pace : Pace
  pace = both.pace

  abbrev n : ℕ
  n = both.n

  abbrev m : ℕ
  m = both.m

  abbrev asks : What
  asks = both.asks

  abbrev answers : What
  answers = both.answers

  -- The request x is delivered to m in one of these rows, within two delays. An answer that m sends in that row comes to
  -- n behind it, within four delays of the request; and no other one does before, where this is so.
  pub record ComesBack (Alone : Type 0) (x : Made) (w : Cluster) (whole : List Timed) : Type 0 where
    pub front : List Timed
    pub timed : Timed
    pub rest : List Timed
    pub split : whole ≡ front ++ timed ∷ rest
    pub soon : timed.at ≤ x.at + 2 * pace.delay
    pub delivers : Delivers m x.transfer (after_rows w (rows_in front)) timed.row
    pub me : delivers.server.me ≡ m
    pub listed : In n (members_of delivers.server)
    pub place : HasPlace m (after_rows w (rows_in front))
    pub comes : (offer : Offer) → let there = after_rows w (rows_in front) in Sends m there timed.row offer → offer.what ≡ answers → offer.to ≡ n
        → Comes both Alone (sent_by m there offer) (x.at + 4 * pace.delay) (after_row there timed.row) rest
    pub silent : Alone → AreSilent both w front
    pub silent_then : Alone → IsSilent both (after_rows w (rows_in front)) timed.row

  -- ---- a row

  module _ (w : Cluster) (timed : Timed) (rest : List Timed) (g : Going both w (timed ∷ rest)) where
    -- where no request is delivered, and no answer is under way, none is behind the row, and none comes in it
    pub still_none : PassesQ both w timed rest g → (of_a : PassesA both w timed rest g ⊎ BringsA both w timed rest g)
        → g.a.xs ≡ [] → ((a_then both w timed rest g of_a).xs ≡ []) × IsSilent both w timed.row
    still_none p (inl r) empty = (
      r.xs_are ∙ (λ i. empty i ++ none i),
      r.silent,
    )
      where
        none : r.more ≡ []
        none = elim r.few_more [ inl no_more ↦ no_more | inr o ↦ absurd (p.nobody o.0 o.2 o.3 o.4) ]
    still_none p (inr b) empty = absurd (no_first b.x b.others g.a.xs empty b.first)

    module _ (Alone : Type 0) (x : Made) where
      row_earlier : (Alone → IsSilent both w timed.row) → ComesBack Alone x (after_row w timed.row) rest → ComesBack Alone x w (timed ∷ rest)
      row_earlier silent c = record {
        front = timed ∷ c.front;
        timed = c.timed;
        rest = c.rest;
        split = ap (λ (l : List Timed). timed ∷ l) c.split;
        soon = c.soon;
        delivers = c.delivers;
        me = c.me;
        listed = c.listed;
        place = c.place;
        comes = c.comes;
        silent = λ alone. (silent alone, c.silent alone);
        silent_then = c.silent_then;
      }

      -- it is delivered in the row
      module _ (delivers : Delivers m x.transfer w timed.row) (soon : timed.at ≤ x.at + 2 * pace.delay) (long : x.at + 4 * pace.delay < end_of timed.at rest)
          (alone : Alone → g.a.xs ≡ []) (q : BringsQ both w timed rest g) where
        is_server : delivers.server ≡ g.q.pair.hears.server
        is_server = same_server delivers.server g.q.pair.hears.server (sym delivers.runs ∙ g.q.pair.hears.up.status)

        -- the row is a step of m
        not_n : (event : Event) → step_of w timed.row ≡ Some (n, event) → ⊥
        not_n event e = both.apart (same_stepper n m event (receipt_of w delivers.k delivers.ms) (sym e ∙ ap (λ (r : Row). step_of w r) delivers.comes))

        found_by : PassesA both w timed rest g → ComesBack Alone x w (timed ∷ rest)
        found_by r = record {
          front = [];
          timed = timed;
          rest = rest;
          split = refl;
          soon = soon;
          delivers = delivers;
          me = ap (λ (s : AllocatorState). s.me) is_server ∙ g.q.pair.hears.its.me;
          listed = g.q.lists delivers.server delivers.runs;
          place = g.given.0.place;
          comes = λ offer sends what to.
              let y : Made = record { at = timed.at; transfer = sent_by m w offer } in
              let then_g = goes_on both w timed rest g (inr q) (inl r) in
              comes both Alone y (x.at + 4 * pace.delay) (omega (arith, soon)) rest g.a.xs [] then_g.traffic (after_row w timed.row) r.then_a then_g.calm then_g.are then_g.given
              (r.xs_are ∙ ap (λ (l : List Made). g.a.xs ++ l) (replies.made_alone both g.traffic w timed rest g.a g.calm g.are g.given.0 r offer sends what to)) alone timed.at
              (omega arith) (omega (arith, soon, long));
          silent = λ is. tt;
          silent_then = λ is. r.silent;
        }

        found : ComesBack Alone x w (timed ∷ rest)
        found = elim (a_row both w timed rest g) [
          | inl r ↦ found_by r
          | inr b ↦ absurd (not_n (receipt_of w b.delivers.k b.delivers.ms) (ap (λ (r : Row). step_of w r) b.delivers.comes))
        ]

  -- ---- the rows of a calm

  -- a request that is under way comes back
  pub back : (Alone : Type 0) (x : Made) (rows : List Timed) (before others : List Made) (w : Cluster) (g : Going both w rows) → g.q.xs ≡ before ++ x ∷ others
      → (Alone → (before ≡ []) × (g.a.xs ≡ [])) → (at : ℕ) → at ≤ x.at + 2 * pace.delay → x.at + 4 * pace.delay < end_of at rows → ComesBack Alone x w rows
  back Alone x [] before others w g split alone at past long = absurd (omega (arith, past, long))
  back Alone x (timed ∷ rest) [] others w g split alone at past long = elim (q_row both w timed rest g) [
    | inl p ↦
        let a = a_row both w timed rest g in
        row_earlier w timed rest g Alone x (λ is. (still_none w timed rest g p a (alone is).1).1)
        (back Alone x rest [] (others ++ p.more) (after_row w timed.row) (goes_on both w timed rest g (inl p) a)
        (more_behind x [] others p.more g.q.xs p.then_q.xs p.xs_are split) (λ is. (refl, (still_none w timed rest g p a (alone is).1).0)) timed.at late long)
    | inr d ↦ found w timed rest g Alone x
        (subst (λ (z : Made). Delivers m z.transfer w timed.row) (same_first d.x x d.others others (sym d.first ∙ split)) d.delivers) late long (λ is. (alone is).1) d
  ]
    where
      late : timed.at ≤ x.at + 2 * pace.delay
      late = asked_in_time both w timed rest g x (in_split x [] others g.q.xs split)
  back Alone x (timed ∷ rest) (b ∷ before) others w g split alone at past long = elim (q_row both w timed rest g) [
    | inl p ↦ row_earlier w timed rest g Alone x not_alone
        (back Alone x rest (b ∷ before) (others ++ p.more) (after_row w timed.row) (goes_on both w timed rest g (inl p) (a_row both w timed rest g))
        (more_behind x (b ∷ before) others p.more g.q.xs p.then_q.xs p.xs_are split) (λ is. absurd (none_is_some b before (sym (alone is).0))) timed.at late long)
    | inr d ↦ row_earlier w timed rest g Alone x not_alone
        (back Alone x rest before others (after_row w timed.row) (goes_on both w timed rest g (inr d) (a_row both w timed rest g))
        (d.xs_are ∙ behind_first d.x b d.others (before ++ x ∷ others) (sym d.first ∙ split)) (λ is. absurd (none_is_some b before (sym (alone is).0))) timed.at late long)
  ]
    where
      late : timed.at ≤ x.at + 2 * pace.delay
      late = asked_in_time both w timed rest g x (in_split x (b ∷ before) others g.q.xs split)

      not_alone : Alone → IsSilent both w timed.row
      not_alone is = absurd (none_is_some b before (sym (alone is).0))

  -- ---- where it is made

  module _ (Alone : Type 0) (w : Cluster) (timed : Timed) (rest : List Timed) (g : Going both w (timed ∷ rest)) (alone : Alone → (g.q.xs ≡ []) × (g.a.xs ≡ []))
      (offer : Offer) (sends : Sends n w timed.row offer) (what : offer.what ≡ asks) (to : offer.to ≡ m) (long : timed.at + 4 * pace.delay < end_of timed.at rest) where
    abbrev x : Made
    x = record { at = timed.at; transfer = sent_by n w offer }

    pub comes_back : ComesBack Alone x w (timed ∷ rest)
    comes_back = elim (q_row both w timed rest g) [
      | inl p ↦
          let a = a_row both w timed rest g in
          row_earlier w timed rest g Alone x (λ is. (still_none w timed rest g p a (alone is).1).1)
          (back Alone x rest g.q.xs [] (after_row w timed.row) (goes_on both w timed rest g (inl p) a) (p.xs_are ∙ ap (λ (l : List Made). g.q.xs ++ l)
          (questions.made_alone both g.traffic w g.next g.q timed rest g.calm g.are g.given.0 p offer sends what to))
          (λ is. ((alone is).0, (still_none w timed rest g p a (alone is).1).0)) timed.at (omega arith) long)
      | inr d ↦ absurd (both.apart (same_stepper n m sends.event (receipt_of w d.delivers.k d.delivers.ms)
          (sym sends.in_step ∙ ap (λ (r : Row). step_of w r) d.delivers.comes)))
    ]
