-- Each time at which a member stands below the highest term brings it to that term: so one stands in it at last, and
-- then somebody leads.
use Rattle.std.proofs.Common.{◌≡◌, ℕ, zero, suc, ◌+◌, ◌*◌, ◌<◌, ◌≤◌, arith, List, [], ◌∷◌, ◌++◌, length, refl, sym, ◌∙◌, ap, subst, inl, inr, append_assoc, append-nil}
use Rattle.std.specs.Prelude.{◌⊎◌}
use Rattle.std.proofs.lemmas.Bool.Decides.{eqb_tells, leb_tells}
use Rattle.raft_model.specs.Lists.{In}
use Rattle.bus_rows.specs.declared.row.Row.{Row}
use Rattle.alloc_spec.specs.AllocatorState.{AllocatorState}
use Rattle.bus_rows.specs.Timed.{Timed, rows_in}
use Rattle.service_alone.specs.Calm.{end_of}
use Rattle.service_calm.specs.Calm.{Device as OfDevice, Member as OfMember, Party}
use Rattle.service_calm.proofs.CallsKept.{RunsWith}
use Rattle.service_calm.proofs.Pair.{same_server}
use Rattle.service_leader.specs.NoElection.{NoElection}
use Rattle.service_leader.proofs.Stretches.{end_both, end_last}
use Rattle.service_candidate.specs.Terms.{AreWithin, NobodyStandsAbove}
use Rattle.service_candidate.specs.Votes.{Stands}
use Rattle.service_candidate.proofs.ElectionsEnd.{some_member}
use Rattle.service_candidate.proofs.OneStands.{IsOfSize, OneStands, one_stands}
use Rattle.service_candidate.proofs.WinsFronts.{Longest, longest}
use Rattle.service_elections.specs.Rounds.{LeadersCome, SomebodyStandsOrLeads, StandsFirst, led_within, stand_within, step_within}
use Rattle.service_elections.specs.Running.{IsLedBy, NobodyStandsIn, quiet_within}
use Rattle.service_elections.specs.Sent.{StandersLearn}
use Rattle.service_elections.proofs.CalmFronts.{end_before, goes_at, harm_front}
use Rattle.service_elections.proofs.InStep.{who_stands_at_the_top}
use Rattle.service_elections.proofs.InStepApart.{apart}
use Rattle.service_elections.proofs.InStepFronts.{calm_at, ends_rise, next_cut, runs_at, term_rises, the_calm, there, there_both, there_more, w0}
use Rattle.service_elections.proofs.InStepGiven.{Given, Ground}
use Rattle.service_elections.proofs.InStepScene.{IsLedFrom}
use Rattle.service_elections.proofs.InStepWalk.{led_from, led_later}
use Rattle.service_elections.proofs.RoundsLists.{in_or_not, in_without, shorter, spans, spans_suc, spans_within, spans_zero, without}
use Rattle.bus_spec.specs.Cluster.{Cluster, after_row, after_rows}
use Rattle.bus_spec.specs.Members.MemberStatus.{Up}

-- where nobody stands, nobody stands above a term
none_above : (group : List Party) (top : ℕ) (w : Cluster) (few : List Timed) → NobodyStandsIn group w few → NobodyStandsAbove group top w few
none_above group top w [] none = tt
none_above group top w (timed ∷ few) none = (λ n term i s. absurd (none.0 n term i s), none_above group top (after_row w timed.row) few none.1)

one_member : (a b : ℕ) → OfMember a ≡ OfMember b → a ≡ b
one_member a b e = cc (e)

module _ (g : Ground) where
  -- ---- terms

  -- where nobody stands terms stay
  stay : (top : ℕ) (front few rest : List Timed) → g.whole ≡ (front ++ few) ++ rest → AreWithin g.group top (there g front)
      → NobodyStandsAbove g.group top (there g front) few → AreWithin g.group top (there g (front ++ few))
  stay top front few rest cut within none = subst (AreWithin g.group top) (sym (there_both g front few))
      (g.given.terms g.group g.clocks g.pace g.start top front few rest g.calm.listed g.calm.running g.calm.others
      (calm_at g front (few ++ rest) (cut ∙ append_assoc front few rest)).calm (harm_front (the_calm g) (front ++ few) rest cut) within none)

  -- a member in whose term no other one of these parties is above
  pub record Highest (front : List Timed) (list : List Party) : Type 0 where
    pub whose : ℕ
    pub member : In (OfMember whose) g.group
    pub server : AllocatorState
    pub runs : ((there g front).member whose).status ≡ Up server
    pub high : (p : ℕ) (t : AllocatorState) → In (OfMember p) list → ((there g front).member p).status ≡ Up t
        → t.raft_server.store.term ≤ server.raft_server.store.term

  module _ (front rest : List Timed) (cut : g.whole ≡ front ++ rest) (one : ℕ) (in_one : In (OfMember one) g.group) where
    -- the higher one of it and one more
    joined : (list : List Party) (q : ℕ) → In (OfMember q) g.group → Highest front list → Highest front (OfMember q ∷ list)
    joined list q i_q more = elim (leb_tells its.server.raft_server.store.term more.server.raft_server.store.term) [ inl z ↦ low z.1 | inr z ↦ above z.1 ]
      where
        its : RunsWith (IsOfSize (length g.ids)) ((there g front).member q)
        its = runs_at g front rest cut q i_q

        own : (p : ℕ) (t : AllocatorState) → OfMember p ≡ OfMember q → ((there g front).member p).status ≡ Up t
            → t.raft_server.store.term ≡ its.server.raft_server.store.term
        own p t e up = ap (λ (x : AllocatorState). x.raft_server.store.term)
            (same_server t its.server (sym up ∙ (ap (λ (k : ℕ). ((there g front).member k).status) (one_member p q e) ∙ its.up.status)))

        low : its.server.raft_server.store.term ≤ more.server.raft_server.store.term → Highest front (OfMember q ∷ list)
        low less = record {
          whose = more.whose;
          member = more.member;
          server = more.server;
          runs = more.runs;
          high = λ p t i up. elim i [ inl e ↦ let a = own p t e up in omega (arith, a, less) | inr j ↦ more.high p t j up ];
        }

        above : more.server.raft_server.store.term < its.server.raft_server.store.term → Highest front (OfMember q ∷ list)
        above less = record {
          whose = q;
          member = i_q;
          server = its.server;
          runs = its.up.status;
          high = λ p t i up. elim i [
            | inl e ↦ let a = own p t e up in omega (arith, a)
            | inr j ↦ let a = more.high p t j up in omega (arith, a, less)
          ];
        }

    highest : (list : List Party) → ((p : ℕ) → In (OfMember p) list → In (OfMember p) g.group) → Highest front list
    highest [] among =
        let is = runs_at g front rest cut one in_one in
        record { whose = one; member = in_one; server = is.server; runs = is.up.status; high = λ p t i up. absurd i }
    highest (OfDevice a ∷ list) among =
        let more = highest list (λ p i. among p (inr i)) in
        record {
          whose = more.whose;
          member = more.member;
          server = more.server;
          runs = more.runs;
          high = λ p t i up. elim i [ inl e ↦ absurd (cc (e)) | inr j ↦ more.high p t j up ];
        }
    highest (OfMember q ∷ list) among = joined list q (among q (inl refl)) (highest list (λ p i. among p (inr i)))

  -- ---- windows

  -- No term is above `top`, a member is in it, and before the next member stands each one is in it that is not in this
  -- list.
  pub record Window (left : List ℕ) (top : ℕ) (front : List Timed) : Type 0 where
    pub within : AreWithin g.group top (there g front)
    pub one : ℕ
    pub member : In (OfMember one) g.group
    pub server : AllocatorState
    pub runs : ((there g front).member one).status ≡ Up server
    pub high : top ≤ server.raft_server.store.term
    pub known : (few rest : List Timed) (next : Timed) (m : ℕ) (t : AllocatorState) → g.whole ≡ (front ++ few) ++ next ∷ rest
        → NobodyStandsIn g.group (there g front) few → OneStands g.group (there g (front ++ few)) next.row → In (OfMember m) g.group → (In m left → ⊥)
        → ((there g (front ++ few)).member m).status ≡ Up t → top ≤ t.raft_server.store.term

  -- behind the row in which one stands below it
  module _ (learn : StandersLearn g.ids g.rows) (left : List ℕ) (top : ℕ) (front few rest : List Timed) (next : Timed) (h : Window left top front)
      (cut : g.whole ≡ (front ++ few) ++ next ∷ rest) (nobody : NobodyStandsIn g.group (there g front) few) (c term : ℕ) (in_c : In (OfMember c) g.group)
      (s : Stands c term (there g (front ++ few)) next.row) (below : s.before.raft_server.store.term < top) where
    abbrev row : List Timed
    row = front ++ few

    cut_few : g.whole ≡ front ++ (few ++ next ∷ rest)
    cut_few = cut ∙ append_assoc front few (next ∷ rest)

    within_row : AreWithin g.group top (there g (front ++ few))
    within_row = stay top front few (next ∷ rest) cut h.within (none_above g.group top (there g front) few nobody)

    here : OneStands g.group (there g (front ++ few)) next.row
    here = record { n = c; member = in_c; term = term; stands = s }

    -- the member that was in the highest term is in it
    is_high : (t : AllocatorState) → ((there g (front ++ few)).member h.one).status ≡ Up t → top ≤ t.raft_server.store.term
    is_high t up = let a = term_rises g front few (next ∷ rest) cut h.one h.member h.server t h.runs up in let b = h.high in omega (arith, a, b)

    cut_next : g.whole ≡ ((front ++ few) ++ next ∷ []) ++ rest
    cut_next = next_cut g (front ++ few) rest next cut

    known_then : (more rest_then : List Timed) (last : Timed) (m : ℕ) (t : AllocatorState) → g.whole ≡ (((front ++ few) ++ next ∷ []) ++ more) ++ last ∷ rest_then
        → NobodyStandsIn g.group (there g ((front ++ few) ++ next ∷ [])) more → OneStands g.group (there g (((front ++ few) ++ next ∷ []) ++ more)) last.row
        → In (OfMember m) g.group → (In m (without c left) → ⊥) → ((there g (((front ++ few) ++ next ∷ []) ++ more)).member m).status ≡ Up t
        → top ≤ t.raft_server.store.term
    known_then more rest_then last m t cut_last none o i out up = elim (eqb_tells m c) [
      | inl z ↦
          let other = runs_at g (front ++ few) (next ∷ rest) cut h.one h.member in
          let a = is_high other.server other.up.status in
          let b = learn g.group g.clocks g.pace g.start c h.one term (front ++ few) more rest_then next last other.server t
          (calm_at g (front ++ few) (next ∷ (more ++ last ∷ rest_then)) (cut_last ∙ (append_assoc ((front ++ few) ++ next ∷ []) more (last ∷ rest_then)
          ∙ append_assoc (front ++ few) (next ∷ []) (more ++ last ∷ rest_then)))) in_c h.member s other.up.status
          (subst (λ (u : Cluster). NobodyStandsIn g.group u more) (there_more g (front ++ few) next) none)
          (apart g (front ++ few) more rest_then next last c o.n term o.term cut_last in_c o.member s o.stands)
          (ap (λ (u : Cluster). (u.member c).status)
          (ap (λ (u : Cluster). after_rows u (rows_in more)) (sym (there_more g (front ++ few) next)) ∙ sym (there_both g ((front ++ few) ++ next ∷ []) more))
          ∙ (ap (λ (k : ℕ). ((there g (((front ++ few) ++ next ∷ []) ++ more)).member k).status) (sym z.1) ∙ up)) in
          omega (arith, a, b)
      | inr z ↦
          let before = runs_at g (front ++ few) (next ∷ rest) cut m i in
          let a = h.known few rest next m before.server cut nobody here i (λ j. out (in_without c m left j z.1)) before.up.status in
          let shift = append_assoc (front ++ few) (next ∷ []) more in
          let b = term_rises g (front ++ few) (next ∷ more) (last ∷ rest_then) (cut_last ∙ ap (λ (l : List Timed). l ++ last ∷ rest_then) shift) m i before.server t
          before.up.status (subst (λ (l : List Timed). ((there g l).member m).status ≡ Up t) shift up) in
          omega (arith, a, b)
    ]

    pub window_then : Window (without c left) top ((front ++ few) ++ next ∷ [])
    window_then =
        let is = runs_at g ((front ++ few) ++ next ∷ []) rest cut_next h.one h.member in
        let then_ = runs_at g (front ++ few) (next ∷ rest) cut h.one h.member in
        record {
          within = stay top (front ++ few) (next ∷ []) rest cut_next within_row (
            λ n its i o.
                let e = one_stands c n term its (there g (front ++ few)) next.row s o in let f = s.next in omega (arith, e, f, below),
            tt,
          );
          one = h.one;
          member = h.member;
          server = is.server;
          runs = is.up.status;
          high =
              let a = is_high then_.server then_.up.status in
              let b = term_rises g (front ++ few) (next ∷ []) rest cut_next h.one h.member then_.server is.server then_.up.status is.up.status in
              omega (arith, a, b);
          known = known_then;
        }

  -- ---- one window after another

  -- who leads behind a front leads behind it
  led_at : (front rest : List Timed) (last : ℕ) → g.whole ≡ front ++ rest
      → IsLedBy g.group g.clocks g.pace (end_of g.start front) last (there g front) rest → IsLedFrom g [] last
  led_at front rest last cut led = record {
    more = front ++ led.front;
    rest = led.rest;
    split = cut ∙ (ap (λ (l : List Timed). front ++ l) led.split ∙ sym (append_assoc front led.front led.rest));
    soon = let h = led.soon in let e = end_both g.start front led.front in omega (arith, h, e);
    n = led.n;
    member = led.member;
    term = led.term;
    calm = subst (λ (k : ℕ). NoElection g.group g.clocks g.pace k led.n led.term (there g (front ++ led.front)) led.rest) (sym (end_both g.start front led.front))
        (subst (λ (u : Cluster). NoElection g.group g.clocks g.pace (end_of (end_of g.start front) led.front) led.n led.term u led.rest)
        (sym (there_both g front led.front)) led.calm);
  }

  module _ (somebody : SomebodyStandsOrLeads g.ids g.rows) (learn : StandersLearn g.ids g.rows) (last : ℕ) (long : last < end_of g.start g.whole) (top : ℕ) where
    -- where it stands in the highest term
    at_top : (front few rest : List Timed) (next : Timed) (left : List ℕ) → Window left top front → g.whole ≡ (front ++ few) ++ next ∷ rest
        → NobodyStandsIn g.group (there g front) few → (c term : ℕ) → In (OfMember c) g.group → (s : Stands c term (there g (front ++ few)) next.row)
        → top ≤ s.before.raft_server.store.term → g.start + quiet_within g.pace + 8 * g.pace.delay < next.at → next.at + step_within g.pace ≤ last
        → IsLedFrom g [] last
    at_top front few rest next left h cut nobody c term in_c s high late soon = led_later g [] (next.at + step_within g.pace) last soon
        (led_from g [] ((front ++ few) ++ next ∷ []) (front ++ few) rest next (next.at + step_within g.pace) cut refl
        (who_stands_at_the_top g.ids g.rows g.given g.group g.clocks g.pace g.start c term (front ++ few) rest next (calm_at g (front ++ few) (next ∷ rest) cut) in_c late s
        (λ m i server up. let a = stay top front few (next ∷ rest) cut h.within (none_above g.group top (there g front) few nobody) m i server up in omega (arith, a, high))
        (let e = ap (end_of g.start) cut ∙ end_both g.start (front ++ few) (next ∷ rest) in omega (arith, e, soon, long))))

    -- a window: somebody leads, or one stood that was below the highest term
    one_round : (left : List ℕ) (front rest : List Timed) → Window left top front → g.whole ≡ front ++ rest
        → g.start + quiet_within g.pace + 8 * g.pace.delay < end_of g.start front
        → end_of g.start front + stand_within g.pace + step_within g.pace ≤ last
        → ((few more : List Timed) (next : Timed) (c : ℕ) → In c left → Window (without c left) top ((front ++ few) ++ next ∷ [])
        → g.whole ≡ ((front ++ few) ++ next ∷ []) ++ more → g.start + quiet_within g.pace + 8 * g.pace.delay < next.at
        → next.at ≤ end_of g.start front + stand_within g.pace → IsLedFrom g [] last)
        → IsLedFrom g [] last
    one_round left front rest h cut late soon again =
        by (somebody g.group g.clocks g.pace g.start front rest (calm_at g front rest cut) (omega (arith, late)) window_long)
      where
        window_long : end_of g.start front + stand_within g.pace < end_of (end_of g.start front) rest
        window_long = let e = ap (end_of g.start) cut ∙ end_both g.start front rest in omega (arith, e, soon, long)

        by : StandsFirst g.group (end_of g.start front + stand_within g.pace) (there g front) rest
            ⊎ IsLedBy g.group g.clocks g.pace (end_of g.start front) (end_of g.start front + stand_within g.pace) (there g front) rest → IsLedFrom g [] last
        by (inr led) = led_later g [] (end_of g.start front + stand_within g.pace) last (omega (arith, soon))
            (led_at front rest (end_of g.start front + stand_within g.pace) cut led)
        by (inl f) = elim (leb_tells top stands.before.raft_server.store.term) [
          | inl z ↦ at_top front f.front f.rest f.timed left h cut_row f.nobody f.c f.term f.member stands z.1 later (let b = f.soon in omega (arith, b, soon))
          | inr z ↦ elim (in_or_not f.c left) [
            | inr out ↦
                let a = h.known f.front f.rest f.timed f.c stands.before cut_row f.nobody (record { n = f.c; member = f.member; term = f.term; stands = stands })
                f.member out stands.runs in
                let b = z.1 in absurd (omega (arith, a, b))
            | inl i ↦ again f.front f.rest f.timed f.c i (window_then learn left top front f.front f.rest f.timed h cut_row f.nobody f.c f.term f.member stands z.1)
                (next_cut g (front ++ f.front) f.rest f.timed cut_row) later f.soon
          ]
        ]
          where
            cut_row : g.whole ≡ (front ++ f.front) ++ f.timed ∷ f.rest
            cut_row = cut ∙ (ap (λ (l : List Timed). front ++ l) f.split ∙ sym (append_assoc front f.front (f.timed ∷ f.rest)))

            stands : Stands f.c f.term (there g (front ++ f.front)) f.timed.row
            stands = subst (λ (u : Cluster). Stands f.c f.term u f.timed.row) (sym (there_both g front f.front)) f.stands

            later : g.start + quiet_within g.pace + 8 * g.pace.delay < f.timed.at
            later =
                let a = end_before (the_calm g) (front ++ f.front) f.rest f.timed cut_row in
                let b = ends_rise g front f.front (f.timed ∷ f.rest) cut_row in omega (arith, a, b, late)

    rounds : (k : ℕ) (left : List ℕ) (front rest : List Timed) → Window left top front → length left ≤ k → g.whole ≡ front ++ rest
        → g.start + quiet_within g.pace + 8 * g.pace.delay < end_of g.start front
        → end_of g.start front + spans k (stand_within g.pace) + step_within g.pace ≤ last → IsLedFrom g [] last
    rounds zero left front rest h few_left cut late soon = one_round left front rest h cut late
        (let e = spans_zero (stand_within g.pace) in omega (arith, e, soon))
        (λ few more next c i window cut_then late_then soon_then. let a = shorter c left i in absurd (omega (arith, a, few_left)))
    rounds (suc n) left front rest h few_left cut late soon = one_round left front rest h cut late
        (let e = spans_suc n (stand_within g.pace) in omega (arith, e, soon))
        (λ few more next c i window cut_then late_then soon_then. rounds n (without c left) ((front ++ few) ++ next ∷ []) more window
        (let a = shorter c left i in omega (arith, a, few_left)) cut_then
        (let e = end_last g.start (front ++ few) next in omega (arith, e, late_then))
        (let e = end_last g.start (front ++ few) next in let b = spans_suc n (stand_within g.pace) in omega (arith, e, b, soon_then, soon)))

  -- ---- from where the calm is old enough

  module _ (somebody : SomebodyStandsOrLeads g.ids g.rows) (learn : StandersLearn g.ids g.rows)
      (enough : g.start + led_within g.pace (length g.ids) < end_of g.start g.whole) where
    abbrev last : ℕ
    last = g.start + led_within g.pace (length g.ids)

    old : Longest g.start (g.start + quiet_within g.pace + 8 * g.pace.delay) g.whole
    old = longest (g.start + quiet_within g.pace + 8 * g.pace.delay) g.whole g.start (omega arith)

    module _ (next : Timed) (more : List Timed) (is_rest : old.rest ≡ next ∷ more) where
      abbrev begun : List Timed
      begun = old.front ++ next ∷ []

      cut_old : g.whole ≡ old.front ++ next ∷ more
      cut_old = old.split ∙ ap (λ (l : List Timed). old.front ++ l) is_rest

      cut_begun : g.whole ≡ (old.front ++ next ∷ []) ++ more
      cut_begun = next_cut g old.front more next cut_old

      some : (n : ℕ) × In (OfMember n) g.group
      some = some_member g.group g.ids _ (omega arith) g.calm.many

      near : next.at ≤ g.start + quiet_within g.pace + 8 * g.pace.delay + g.pace.period
      near =
          let goes = goes_at (the_calm g) old.front (next ∷ more) cut_old in
          let a = goes.calm.0.ticks (OfMember some.0) some.1 in
          let b = goes.ticked (OfMember some.0) in
          let c = old.soon in omega (arith, a, b, c)

      top_one : Highest begun g.group
      top_one = highest begun more cut_begun some.0 some.1 g.group (λ p i. i)

      first_window : Window (without top_one.whose g.ids) top_one.server.raft_server.store.term begun
      first_window = record {
        within = λ m i t up. top_one.high m t i up;
        one = top_one.whose;
        member = top_one.member;
        server = top_one.server;
        runs = top_one.runs;
        high = omega arith;
        known = λ few rest last m t cut_last none o i out up. elim (eqb_tells m top_one.whose) [
          | inr z ↦ absurd (out (in_without top_one.whose m g.ids (g.calm.listed m i) z.1))
          | inl z ↦ term_rises g (old.front ++ next ∷ []) few (last ∷ rest) cut_last top_one.whose top_one.member top_one.server t top_one.runs
              (ap (λ (k : ℕ). ((there g ((old.front ++ next ∷ []) ++ few)).member k).status) (sym z.1) ∙ up)
        ];
      }

      from_begun : IsLedFrom g [] last
      from_begun = rounds somebody learn last enough top_one.server.raft_server.store.term (length (without top_one.whose g.ids)) (without top_one.whose g.ids) begun more
          first_window (omega arith) cut_begun
          (let e = end_last g.start old.front next in let a = old.late next more is_rest in omega (arith, e, a))
          (let e = end_last g.start old.front next in
          let a = near in
          let b = spans_within (length (without top_one.whose g.ids)) (length g.ids) (stand_within g.pace)
          (shorter top_one.whose g.ids (g.calm.listed top_one.whose top_one.member)) in
          omega (arith, e, a, b))

    by_rest : (r : List Timed) → old.rest ≡ r → IsLedFrom g [] last
    by_rest [] e =
        let f = ap (end_of g.start) (old.split ∙ (ap (λ (q : List Timed). old.front ++ q) e ∙ append-nil old.front)) in
        let h = old.soon in absurd (omega (arith, f, h, enough))
    by_rest (next ∷ more) e = from_begun next more e

    pub leads_in_time : IsLedBy g.group g.clocks g.pace g.start (g.start + led_within g.pace (length g.ids)) (w0 g) g.whole
    leads_in_time =
        let led = by_rest old.rest refl in record {
          front = led.more;
          rest = led.rest;
          split = led.split;
          soon = led.soon;
          n = led.n;
          member = led.member;
          term = led.term;
          calm = led.calm;
        }

-- the law
pub leaders_come : (ids : List ℕ) (rows : List Row) → Given ids rows → SomebodyStandsOrLeads ids rows → StandersLearn ids rows → LeadersCome ids rows
leaders_come ids rows given somebody learn group clocks pace start whole calm enough = leads_in_time (record {
  ids = ids;
  rows = rows;
  given = given;
  group = group;
  clocks = clocks;
  pace = pace;
  start = start;
  whole = whole;
  calm = calm;
}) somebody learn enough
