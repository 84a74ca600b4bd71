-- Where all members are in step, and nobody led in their term, one whose log is not behind any other wins when it stands.
use Rattle.std.proofs.Common.{◌≡◌, ◌≢◌, ℕ, ◌+◌, ◌*◌, ◌<◌, ◌≤◌, arith, List, [], ◌∷◌, ◌++◌, inl, inr, refl, sym, ◌∙◌, ap, subst, drop}
use Rattle.std.specs.Prelude.{slice_index_or}
use Rattle.std.proofs.lemmas.Bool.Decides.{eqb_tells}
use Rattle.std.proofs.lemmas.List.{append_assoc, append-nil}
use Rattle.raft_model.specs.Lists.{In, at_other}
use Rattle.bus_rows.specs.declared.row.Row.{Row}
use Rattle.bus_rows.specs.declared.row.Row.TheVariants.{Tick}
use Rattle.alloc_spec.specs.AllocatorState.{AllocatorState}
use Rattle.service_candidate.specs.Terms.{NobodyLeads, TermsDoNotFall}
use Rattle.service_candidate.specs.Votes.{HearsAppend, Stands}
use Rattle.service_candidate.specs.Wins.{AppendsUnheard, AsksNobodySince, IsBehind, IsCalmStanding, LeadsAlone, StandsAlone, WhoStandsAloneWins, WinsBy}
use Rattle.service_candidate.proofs.Furthest.{holds_behind}
use Rattle.service_candidate.proofs.WinsFronts.{from_row_to_row, part_of}
use Rattle.service_leader.specs.CallsComeBack.{LeadsNotIfUp}
use Rattle.service_elections.specs.Rounds.{AreInStep, NobodyLedIn, WhoIsFurthestWins}
use Rattle.service_elections.specs.Running.{IsCalmOf, quiet_within}
use Rattle.service_elections.specs.Sent.{HasCalled, WhoAsksStands, WhoHearsWasCalled, WhoWinsHasAsked}
use Rattle.service_elections.proofs.CalmFronts.{Calm, among, at, at_more, before_row, calm_of, recut, runs_at}
use Rattle.service_elections.proofs.StandingAnewTwice.{twice}
use Rattle.service_calm.specs.Calm.{AreCalm, Member as OfMember, Party, no_traffic}
use Rattle.service_calm.specs.Comes.{Throughout}
use Rattle.bus_rows.specs.Timed.{Timed, rows_in}
use Rattle.service_alone.specs.Calm.{Pace, end_of}
use Rattle.bus_spec.specs.Cluster.{Cluster, after_row, after_rows, world_of}
use Rattle.bus_spec.specs.Members.{Member}
use Rattle.bus_spec.specs.Members.MemberStatus.{Up}

-- one member reads its clock in a row
one_reader : (p n a b c d : ℕ) → Tick p a c ≡ Tick n b d → p ≡ n
one_reader p n a b c d e = cc e

first_is : (x y : Timed) (xs ys : List Timed) → x ∷ xs ≡ y ∷ ys → x ≡ y
first_is x y xs ys e = ap (λ (l : List Timed). slice_index_or l 0 x) e

rest_is : (x y : Timed) (xs ys : List Timed) → x ∷ xs ≡ y ∷ ys → xs ≡ ys
rest_is x y xs ys e = ap (λ (l : List Timed). drop 1 l) e

module _ (ids : List ℕ) (rows : List Row) (group : List Party) (clocks : Party → ℕ) (pace : Pace) (start c term : ℕ) (front rest : List Timed) (timed : Timed)
    (calm : IsCalmOf ids rows group clocks pace start (front ++ timed ∷ rest)) (in_c : In (OfMember c) group)
    (late : start + quiet_within pace + 4 * pace.delay < timed.at) (s : Stands c term (after_rows (world_of ids rows) (rows_in front)) timed.row) where
  abbrev whole : List Timed
  whole = front ++ timed ∷ rest

  abbrev cut_calm : Calm
  cut_calm = calm_of ids rows group clocks pace start whole calm

  abbrev here : List Timed → Cluster
  here = at cut_calm

  abbrev then_w : Cluster
  then_w = after_row (here front) timed.row

  here_then : (a : List Timed) → here (front ++ timed ∷ a) ≡ after_rows then_w (rows_in a)
  here_then a = at_more cut_calm front (timed ∷ a)

  cut_then : (a b : List Timed) → rest ≡ a ++ b → whole ≡ (front ++ timed ∷ a) ++ b
  cut_then a b e = ap (λ (l : List Timed). front ++ timed ∷ l) e ∙ sym (append_assoc front (timed ∷ a) b)

  -- in an earlier row the same member did not stand shortly before
  cut_before : (a d : List Timed) (one : Timed) → front ≡ a ++ one ∷ d → whole ≡ a ++ one ∷ (d ++ timed ∷ rest)
  cut_before a d one e = ap (λ (l : List Timed). l ++ timed ∷ rest) e ∙ append_assoc a (one ∷ d) (timed ∷ rest)

  s_at : (a : List Timed) → front ≡ a → Stands c term (here a) timed.row
  s_at a e = subst (λ (l : List Timed). Stands c term (here l) timed.row) e s

  -- ---- c was quiet

  module _ (asks_stands : WhoAsksStands ids rows) where
    silent : AsksNobodySince group c timed.at (4 * pace.delay) (world_of ids rows) front
    silent a d one m e since in_m asks =
        let stood = asks_stands group clocks pace start c m a (d ++ timed ∷ rest) one (recut cut_calm (a ++ one ∷ (d ++ timed ∷ rest)) (cut_before a d one e))
        in_c in_m (omega (arith, late, since)) asks in
        let apart = twice ids rows group clocks pace start whole calm c stood.0 term a d rest one timed (cut_before a d one e) in_c stood.1 (s_at (a ++ one ∷ d) e) in
        let quick = calm.quick in
        omega (arith, apart, since, quick)

    -- ---- nobody else stands or comes to lead

    -- another member that stands does so long before or long after
    other_before : (n later : ℕ) (a d : List Timed) (one : Timed) → front ≡ a ++ one ∷ d → In (OfMember n) group → n ≢ c → Stands n later (here a) one.row
        → one.at + 8 * pace.delay < timed.at
    other_before n later a d one e i other again = calm.apart a d rest one timed n c later term (cut_before a d one e) i in_c other again (s_at (a ++ one ∷ d) e)

    other_behind : (n later : ℕ) (a d : List Timed) (one : Timed) → rest ≡ a ++ one ∷ d → In (OfMember n) group → n ≢ c
        → Stands n later (here (front ++ timed ∷ a)) one.row → timed.at + 8 * pace.delay < one.at
    other_behind n later a d one e i other again = calm.apart front a d timed one c n term later (ap (λ (l : List Timed). front ++ timed ∷ l) e) in_c i (λ f. other (sym f)) s again

    other_here : (n later : ℕ) → n ≢ c → Stands n later (here front) timed.row → ⊥
    other_here n later other again = other (one_reader n c again.ms s.ms again.word s.word (sym again.reads ∙ s.reads))

    alone : StandsAlone group c (timed.at + 4 * pace.delay) then_w rest
    alone a d one n later e soon i again = elim (eqb_tells n c) [
      | inl z ↦ z.1
      | inr z ↦
          let k = other_behind n later a d one e i z.1 (subst (λ (w : Cluster). Stands n later w one.row) (sym (here_then a)) again) in
          absurd (omega (arith, k, soon))
    ]

    -- the row of the standing leaves the others
    same_member : (m : ℕ) → m ≢ c → then_w.member m ≡ (here front).member m
    same_member m other = subst (λ (r : Row). (after_row (here front) r).member m ≡ (here front).member m) (sym s.reads)
        (at_other (here front).member c m _ other)

    module _ (wins : WhoWinsHasAsked ids rows) (unled : NobodyLeads group (after_rows (world_of ids rows) (rows_in front))) where
      -- where another member stood shortly before or after
      stood_near : (m later : ℕ) (f g a d : List Timed) (one x : Timed) → In (OfMember m) group → m ≢ c → Stands m later (here f) one.row
          → rest ≡ a ++ x ∷ d → front ++ timed ∷ a ≡ f ++ one ∷ g → x.at ≤ one.at + 4 * pace.delay → x.at ≤ timed.at + 2 * pace.delay → ⊥
      stood_near m later f g a d one x i other again e split lately soon =
          let before_x = before_row cut_calm (front ++ timed ∷ a) d x (cut_then a (x ∷ d) e) in
          let timed_first = before_x timed (among front a timed) in
          let one_first = before_x one (subst (λ (l : List Timed). In one l) (sym split) (among f g one)) in
          elim (part_of front (timed ∷ a) f g one split) [
            | inl p ↦
                let k = other_before m later f p.0 one p.1 i other again in absurd (omega (arith, k, lately, timed_first))
            | inr p ↦ behind p.0 p.1 p.2 one_first
          ]
        where
          behind : (tail : List Timed) → timed ∷ a ≡ tail ++ one ∷ g → f ≡ front ++ tail → one.at ≤ x.at → ⊥
          behind [] same is one_first = other_here m later other (subst (λ (y : Timed). Stands m later (here front) y.row) (sym (first_is timed one a g same))
              (subst (λ (l : List Timed). Stands m later (here l) one.row) (is ∙ append-nil front) again))
          behind (y ∷ tail) same is one_first =
              let at_first = first_is timed y a (tail ++ one ∷ g) same in
              let then_rest = rest_is timed y a (tail ++ one ∷ g) same in
              let k = other_behind m later tail (g ++ x ∷ d) one (e ∙ (ap (λ (l : List Timed). l ++ x ∷ d) then_rest ∙ append_assoc tail (one ∷ g) (x ∷ d))) i other
              (subst (λ (z : Timed). Stands m later (here (front ++ z ∷ tail)) one.row) (sym at_first) (subst (λ (l : List Timed). Stands m later (here l) one.row) is again)) in
              omega (arith, k, one_first, soon)

      -- so another member does not come to lead
      leads_more : (m : ℕ) → In (OfMember m) group → m ≢ c → (a b : List Timed) (one : Timed) → rest ≡ a ++ one ∷ b → one.at ≤ timed.at + 2 * pace.delay
          → (f g : List Timed) (x : Timed) → a ≡ f ++ x ∷ g → LeadsNotIfUp m (after_rows then_w (rows_in f)) → LeadsNotIfUp m (after_row (after_rows then_w (rows_in f)) x.row)
      leads_more m i other a b one e soon f g x same before t up leads =
          let asked = wins group clocks pace start m (front ++ timed ∷ f) (g ++ one ∷ b) x t (recut cut_calm ((front ++ timed ∷ f) ++ x ∷ (g ++ one ∷ b)) cut)
          i (subst (LeadsNotIfUp m) (sym (here_then f)) before)
          (ap (λ (w : Cluster). ((after_row w x.row).member m).status) (here_then f) ∙ up) leads in
          let timed_first = before_row cut_calm (front ++ timed ∷ f) (g ++ one ∷ b) x cut timed (among front f timed) in
          let lately = asked.lately in
          let cut_asked : whole ≡ asked.front ++ asked.timed ∷ (asked.rest ++ x ∷ (g ++ one ∷ b)) = cut
          ∙ (ap (λ (l : List Timed). l ++ x ∷ (g ++ one ∷ b)) asked.split ∙ append_assoc asked.front (asked.timed ∷ asked.rest) (x ∷ (g ++ one ∷ b))) in
          let stood = asks_stands group clocks pace start m asked.m asked.front (asked.rest ++ x ∷ (g ++ one ∷ b)) asked.timed
          (recut cut_calm (asked.front ++ asked.timed ∷ (asked.rest ++ x ∷ (g ++ one ∷ b))) cut_asked)
          i asked.member (omega (arith, late, timed_first, lately)) asked.asks in
          stood_near m stood.0 asked.front asked.rest f (g ++ one ∷ b) asked.timed x i other stood.1 cut_rest asked.split lately (omega (arith, x_first, soon))
        where
          cut_rest : rest ≡ f ++ x ∷ (g ++ one ∷ b)
          cut_rest = e ∙ (ap (λ (l : List Timed). l ++ one ∷ b) same ∙ append_assoc f (x ∷ g) (one ∷ b))

          cut : whole ≡ (front ++ timed ∷ f) ++ x ∷ (g ++ one ∷ b)
          cut = cut_then f (x ∷ (g ++ one ∷ b)) cut_rest

          x_first : x.at ≤ one.at
          x_first = before_row cut_calm (front ++ timed ∷ a) b one (cut_then a (one ∷ b) e) x
              (behind_all front timed a (subst (λ (l : List Timed). In x l) (sym same) (among f g x)))
            where
              behind_all : (p : List Timed) (y : Timed) (q : List Timed) → In x q → In x (p ++ y ∷ q)
              behind_all [] y q j = inr j
              behind_all (z ∷ p) y q j = inr (behind_all p y q j)

      leads_alone : LeadsAlone group c (timed.at + 2 * pace.delay) then_w rest
      leads_alone a b one m e soon i other = from_row_to_row then_w (λ (done : List Timed) (w : Cluster). LeadsNotIfUp m w) a
          (λ f g x same before. leads_more m i other a b one e soon f g x same before)
          (λ t up. unled m i t (ap (λ (q : Member). q.status) (sym (same_member m other)) ∙ up))

  -- ---- no call of a former leader is heard

  module _ (called : WhoHearsWasCalled ids rows) (rise : TermsDoNotFall ids rows) (b top : ℕ) (in_step : AreInStep group b top (after_rows (world_of ids rows) (rows_in front)))
      (nobody_led : NobodyLedIn group top (world_of ids rows) front) where
    -- no term becomes lower
    rises : (p : ℕ) → In (OfMember p) group → (a d g : List Timed) → whole ≡ a ++ (d ++ g) → (t u : AllocatorState) → ((here a).member p).status ≡ Up t
        → ((here (a ++ d)).member p).status ≡ Up u → t.raft_server.store.term ≤ u.raft_server.store.term
    rises p i a d g e t u up up_then = rise group clocks pace start p a d g t u calm.running (subst (AreCalm group clocks pace (no_traffic start) (world_of ids rows)) e calm.calm) i up up_then

    module _ (a d : List Timed) (one : Timed) (m : ℕ) (e : rest ≡ a ++ one ∷ d) (none : Throughout (NobodyLeads group) (after_row (after_rows (world_of ids rows) (rows_in front)) timed.row) a)
        (none_then : NobodyLeads group (after_rows (after_row (after_rows (world_of ids rows) (rows_in front)) timed.row) (rows_in a))) (i : In (OfMember m) group) where
      cut : whole ≡ (front ++ timed ∷ a) ++ one ∷ d
      cut = cut_then a (one ∷ d) e

      -- who hears one is in the term, or in a higher one
      hearer_high : (t : AllocatorState) → ((here (front ++ timed ∷ a)).member m).status ≡ Up t → top ≤ t.raft_server.store.term
      hearer_high t up =
          let first = runs_at cut_calm m i front (timed ∷ rest) refl in
          let k = in_step.in_term m i first.server first.up.status in
          let l = rises m i front (timed ∷ a) (one ∷ d) (ap (λ (l : List Timed). front ++ timed ∷ l) e) first.server t first.up.status up in
          omega (arith, k, l)

      -- nobody leads behind the first of these rows
      nobody_here : (f g : List Timed) → a ≡ f ++ g → NobodyLeads group (after_rows then_w (rows_in f))
      nobody_here f g same = holds_behind (NobodyLeads group) f g then_w (subst (Throughout (NobodyLeads group) then_w) same none)
          (subst (λ (l : List Timed). NobodyLeads group (after_rows then_w (rows_in l))) same none_then)

      unheard_at : HearsAppend m (here (front ++ timed ∷ a)) one.row → ⊥
      unheard_at hears = elim (part_of front (timed ∷ a) by.front by.rest by.timed by.split) [
        | inl p ↦ early p.0 p.1
        | inr p ↦ behind p.0 p.1 p.2
      ]
        where
          who : (n : ℕ) × In (OfMember n) group × (n ≢ m) × HasCalled n m hears.request.term one.at (2 * pace.delay) (world_of ids rows) (front ++ timed ∷ a)
          who = called group clocks pace start m (front ++ timed ∷ a) d one (recut cut_calm ((front ++ timed ∷ a) ++ one ∷ d) cut) i hears

          by : HasCalled who.0 m hears.request.term one.at (2 * pace.delay) (world_of ids rows) (front ++ timed ∷ a)
          by = who.3

          high : top ≤ hears.request.term
          high = let k = hearer_high hears.server hears.runs in elim hears.hears.current [
            | inl above ↦ omega (arith, k, above)
            | inr same ↦ let l = same.0 in omega (arith, k, l)
          ]

          -- it led in the term by then
          early : (tail : List Timed) → front ≡ by.front ++ by.timed ∷ tail → ⊥
          early tail is = nobody_led (by.front ++ by.timed ∷ []) tail who.0 split who.1 (record {
            server = by.leads.server;
            runs = ap (λ (w : Cluster). (w.member who.0).status) (at_more cut_calm by.front (by.timed ∷ [])) ∙ by.leads.runs;
            leads = by.leads.leads;
            its_term = by.leads.its_term ∙ same;
          })
            where
              split : front ≡ (by.front ++ by.timed ∷ []) ++ tail
              split = is ∙ sym (append_assoc by.front (by.timed ∷ []) tail)

              same : hears.request.term ≡ top
              same =
                  let first = runs_at cut_calm who.0 who.1 front (timed ∷ rest) refl in
                  let k = in_step.in_term who.0 who.1 first.server first.up.status in
                  let l = rises who.0 who.1 (by.front ++ by.timed ∷ []) tail (timed ∷ rest)
                  (ap (λ (l : List Timed). l ++ timed ∷ rest) split ∙ append_assoc (by.front ++ by.timed ∷ []) tail (timed ∷ rest)) by.leads.server first.server
                  (ap (λ (w : Cluster). (w.member who.0).status) (at_more cut_calm by.front (by.timed ∷ [])) ∙ by.leads.runs)
                  (ap (λ (l : List Timed). ((here l).member who.0).status) (sym split) ∙ first.up.status) in
                  let its = by.leads.its_term in let h = high in omega (arith, k, l, its, h)

          -- it leads behind the standing
          behind : (tail : List Timed) → timed ∷ a ≡ tail ++ by.timed ∷ by.rest → by.front ≡ front ++ tail → ⊥
          behind [] same is =
              nobody_here [] a refl who.0 who.1 by.leads.server
              (ap (λ (x : Timed). ((after_row (here front) x.row).member who.0).status) (first_is timed by.timed a by.rest same)
              ∙ (ap (λ (l : List Timed). ((after_row (here l) by.timed.row).member who.0).status) (sym (is ∙ append-nil front)) ∙ by.leads.runs)) by.leads.leads
          behind (y ∷ tail) same is =
              let at_first = first_is timed y a (tail ++ by.timed ∷ by.rest) same in
              let then_rest = rest_is timed y a (tail ++ by.timed ∷ by.rest) same in
              nobody_here (tail ++ by.timed ∷ []) by.rest (then_rest ∙ sym (append_assoc tail (by.timed ∷ []) by.rest)) who.0 who.1 by.leads.server
              (ap (λ (w : Cluster). (w.member who.0).status) (sym (here_then (tail ++ by.timed ∷ []))
              ∙ (ap here (ap (λ (x : Timed). front ++ x ∷ (tail ++ by.timed ∷ [])) at_first ∙ (sym (append_assoc front (y ∷ tail) (by.timed ∷ []))
              ∙ ap (λ (l : List Timed). l ++ by.timed ∷ []) (sym is)))
              ∙ at_more cut_calm by.front (by.timed ∷ []))) ∙ by.leads.runs) by.leads.leads

    unheard : AppendsUnheard group (timed.at + 4 * pace.delay) then_w rest
    unheard a d one m e soon none none_then i hears = unheard_at a d one m e none none_then i
        (subst (λ (w : Cluster). HearsAppend m w one.row) (sym (here_then a)) hears)

  -- ---- so it wins

  module _ (asks_stands : WhoAsksStands ids rows) (wins : WhoWinsHasAsked ids rows) (called : WhoHearsWasCalled ids rows) (alone_wins : WhoStandsAloneWins ids rows)
      (rise : TermsDoNotFall ids rows) (b top : ℕ) (in_step : AreInStep group b top (after_rows (world_of ids rows) (rows_in front)))
      (nobody_led : NobodyLedIn group top (world_of ids rows) front) (long : timed.at + 4 * pace.delay < end_of timed.at rest) where
    abbrev standing : IsCalmStanding ids rows group clocks pace start c term front timed rest
    standing = record {
      listed = calm.listed;
      running = calm.running;
      many = calm.many;
      others = calm.others;
      member = in_c;
      quick = calm.quick;
      calm = calm.calm;
      harmless = calm.harmless;
      can = λ m i other. calm.ask c m in_c i (λ e. other (sym e));
      fit = calm.asks_fit c in_c;
      stands = s;
      silent = silent asks_stands;
      unheard = unheard called rise b top in_step nobody_led;
      alone = alone asks_stands;
      long = long;
    }

    pub wins_then : ((m : ℕ) → In (OfMember m) group → m ≢ c → IsBehind m term s.before (after_rows (world_of ids rows) (rows_in front)))
        → WinsBy group clocks c term timed.at (timed.at + 4 * pace.delay) (after_row (after_rows (world_of ids rows) (rows_in front)) timed.row) rest
    wins_then behind = alone_wins group clocks pace start c term front rest timed standing behind (leads_alone asks_stands wins in_step.unled)

pub who_is_furthest_wins : (ids : List ℕ) (rows : List Row) → WhoAsksStands ids rows → WhoWinsHasAsked ids rows → WhoHearsWasCalled ids rows → WhoStandsAloneWins ids rows
    → TermsDoNotFall ids rows → WhoIsFurthestWins ids rows
who_is_furthest_wins ids rows asks_stands wins called alone_wins rise group clocks pace start b c term top front rest timed calm in_c late s in_step nobody_led behind long =
    wins_then ids rows group clocks pace start c term front rest timed calm in_c late s asks_stands wins called alone_wins rise b top in_step nobody_led long behind
