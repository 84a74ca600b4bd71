-- Who stands for election in a term above all others, and comes to lead soon, leads the group: each other member hears
-- the calls that it makes in the row in which it comes to lead, before anybody else stands.
use Rattle.std.proofs.Common.{◌≡◌, ◌≢◌, ℕ, ◌+◌, ◌*◌, ◌<◌, ◌≤◌, arith, max, List, [], ◌∷◌, ◌++◌, drop, refl, sym, ◌∙◌, ap, subst, inl, inr, Some}
use Rattle.std.specs.Prelude.{◌⊎◌, slice_index_or}
use Rattle.std.proofs.lemmas.Bool.Decides.{eqb_tells}
use Rattle.std.proofs.lemmas.List.{append_assoc, append-nil}
use Rattle.raft_model.specs.Lists.{In}
use Rattle.raft_model.specs.Server.Role.{Leader}
use Rattle.bus_rows.specs.declared.row.Row.{Row}
use Rattle.alloc_spec.specs.AllocatorState.{AllocatorState}
use Rattle.alloc_spec_laws.proofs.Lists.{in_back}
use Rattle.bus_rows.specs.Timed.{Timed, rows_in}
use Rattle.service_alone.specs.Calm.{Pace, end_of}
use Rattle.service_candidate.specs.Terms.{AreWithin}
use Rattle.service_candidate.specs.Votes.{Stands}
use Rattle.service_candidate.proofs.WinsLead.{no_candidate}
use Rattle.service_candidate.proofs.WinsFronts.{Longest, longest, part_of}
use Rattle.service_leader.specs.CallsComeBack.{LeadsNotIfUp}
use Rattle.service_leader.specs.Entries.{CanExchange}
use Rattle.service_leader.specs.LeadsOn.{IsLed, LeadsIn}
use Rattle.service_leader.specs.NoElection.{CallsFit, NoElection, WillHear, heard_within}
use Rattle.service_leader.proofs.NextCall.{CallsInTerm, IsHeeded, MayHeed, call_in_term, may_follow}
use Rattle.service_leader.proofs.Stretches.{GoesOnFrom, calm_first, calm_rest, end_both, end_last, fits_at, fits_rest, in_between, world_both}
use Rattle.service_leader.proofs.WinnersCall.{winner_offers_it}
use Rattle.service_elections.specs.Running.{IsCalmOf, IsLedBy, NobodyStandsIn}
use Rattle.service_elections.proofs.CalmFronts.{Calm, calm_of, goes_at, harm_front, harm_in, running_at}
use Rattle.service_elections.proofs.LeadsBelow.{LeadLaws}
use Rattle.service_elections.proofs.LeadsFronts.{ComesToLead, comes_to_lead, leader_stands_not, nobody_by, nobody_more}
use Rattle.service_elections.proofs.LeadsRows.{heeded_at, leads_at, rises, within_at}
use Rattle.service_calm.specs.Calls.{FollowsFrom, FollowsSince, HearsCallBy, Lists, MayFollow}
use Rattle.service_calm.specs.Calm.{AreCalm, IsRunning, Member as OfMember, Party, no_traffic}
use Rattle.service_calm.specs.CallsInTime.{Leads, OffersCall}
use Rattle.service_calm.specs.Comes.{HasMemory, Throughout, sent_by}
use Rattle.service_calm.proofs.Pair.{same_server, same_stepper}
use Rattle.bus_spec.specs.Cluster.{Cluster, after_row, after_rows, receipt_of, step_of, world_of}
use Rattle.bus_spec.specs.Lawful.{DoNoHarm}
use Rattle.bus_spec.specs.Members.MemberStatus.{Up}

-- a row among others is the first of them, or stands behind it
first_or_behind : (y : Timed) (l f r : List Timed) (x : Timed) → y ∷ l ≡ f ++ x ∷ r
    → ((f ≡ []) × (y ≡ x)) ⊎ ((tail : List Timed) × (f ≡ y ∷ tail) × (l ≡ tail ++ x ∷ r))
first_or_behind y l [] r x e = inl (refl, ap (λ (k : List Timed). slice_index_or k 0 y) e)
first_or_behind y l (z ∷ f) r x e =
    let same : y ≡ z = ap (λ (k : List Timed). slice_index_or k 0 y) e in
    inr (f, (λ i. sym same i ∷ f), ap (λ (k : List Timed). drop 1 k) e)

module _ (ids : List ℕ) (rows : List Row) (laws : LeadLaws ids rows) (group : List Party) (clocks : Party → ℕ) (pace : Pace) (start c term : ℕ)
    (front early late : List Timed) (timed : Timed) (calm : IsCalmOf ids rows group clocks pace start (front ++ timed ∷ (early ++ late)))
    (in_c : In (OfMember c) group) (s : Stands c term (after_rows (world_of ids rows) (rows_in front)) timed.row)
    (within : AreWithin group s.before.raft_server.store.term (after_rows (world_of ids rows) (rows_in front)))
    (soon : end_of timed.at early ≤ timed.at + 4 * pace.delay)
    (leads : LeadsIn c term (after_rows (after_row (after_rows (world_of ids rows) (rows_in front)) timed.row) (rows_in early))) where
  abbrev w : Cluster
  w = world_of ids rows

  abbrev here : List Timed → Cluster
  here a = after_rows w (rows_in a)

  abbrev whole : List Timed
  whole = front ++ timed ∷ (early ++ late)

  abbrev cut_calm : Calm
  cut_calm = calm_of ids rows group clocks pace start whole calm

  abbrev first : List Timed
  first = front ++ timed ∷ []

  abbrev last : ℕ
  last = timed.at + 8 * pace.delay

  here_first : here first ≡ after_row (here front) timed.row
  here_first = world_both w front (timed ∷ [])

  here_more : (a b : List Timed) (x : Timed) → here (a ++ (b ++ x ∷ [])) ≡ after_row (here (a ++ b)) x.row
  here_more a b x = ap here (sym (append_assoc a b (x ∷ []))) ∙ world_both w (a ++ b) (x ∷ [])

  first_cut : whole ≡ first ++ (early ++ late)
  first_cut = sym (append_assoc front (timed ∷ []) (early ++ late))

  -- ---- the rows by this moment

  by_then : Longest (end_of timed.at early) last late
  by_then = longest last late (end_of timed.at early) (omega (arith, soon))

  abbrev more : List Timed
  more = by_then.front

  abbrev behind : List Timed
  behind = by_then.rest

  abbrev reached : List Timed
  reached = early ++ more

  reached_cut : early ++ late ≡ reached ++ behind
  reached_cut = ap (λ (l : List Timed). early ++ l) by_then.split ∙ sym (append_assoc early more behind)

  reached_soon : end_of timed.at reached ≤ last
  reached_soon = let e = end_both timed.at early more in let l = by_then.soon in omega (arith, e, l)

  whole_cut : whole ≡ first ++ (reached ++ behind)
  whole_cut = first_cut ∙ ap (λ (l : List Timed). first ++ l) reached_cut

  cut_at : (a b : List Timed) → reached ≡ a ++ b → whole ≡ (first ++ a) ++ (b ++ behind)
  cut_at a b e = whole_cut ∙ ap (λ (l : List Timed). first ++ (l ++ behind)) e ∙ ap (λ (l : List Timed). first ++ l) (append_assoc a b behind)
      ∙ sym (append_assoc first a (b ++ behind))

  -- their moments
  from_first : GoesOnFrom group clocks pace (end_of start first) (here first) (reached ++ behind)
  from_first = goes_at cut_calm first (reached ++ behind) whole_cut

  at_first : end_of start first ≡ timed.at
  at_first = end_last start front timed

  in_time : (x : Timed) → In x reached → (timed.at ≤ x.at) × (x.at ≤ last)
  in_time x i =
      let b = in_between group clocks pace reached (end_of start first) (here first)
      (calm_first group clocks pace reached behind (end_of start first) (here first) from_first) x i in
      let low = b.0 in let high = b.1 in
      let same : end_of (end_of start first) reached ≡ end_of timed.at reached = ap (λ (k : ℕ). end_of k reached) at_first in
      let first_at = at_first in let ends = reached_soon in
      (omega (arith, low, first_at), omega (arith, high, same, ends))

  in_time_at : (a b : List Timed) (x : Timed) → reached ≡ a ++ x ∷ b → (timed.at ≤ x.at) × (x.at ≤ last)
  in_time_at a b x e = in_time x (subst (In x) (sym e) (in_back x a (x ∷ b) (inl refl)))

  -- a row behind them is later
  later : (a l : List Timed) → behind ≡ l → whole ≡ a ++ l → (x : Timed) → In x l → last < x.at
  later a [] e cut x i = absurd i
  later a (y ∷ l) e cut x (inl same) = let at = ap (λ (t : Timed). t.at) same in let low = by_then.late y l e in omega (arith, at, low)
  later a (y ∷ l) e cut x (inr i) =
      let b = in_between group clocks pace l y.at (after_row (here a) y.row)
      (calm_rest group clocks pace (y ∷ []) l (end_of start a) (here a)
      (goes_at cut_calm a (y ∷ l) cut)) x i in
      let low = b.0 in let low_y = by_then.late y l e in omega (arith, low, low_y)

  -- ---- nobody else stands by then

  others_stand_not : (a b : List Timed) (x : Timed) → reached ≡ a ++ x ∷ b → (n other : ℕ) → In (OfMember n) group → n ≢ c
      → Stands n other (here (first ++ a)) x.row → ⊥
  others_stand_not a b x e n other i differs again =
      let apart = calm.apart front a (b ++ behind) timed x c n term other
      (ap (λ (l : List Timed). front ++ timed ∷ l) (reached_cut ∙ ap (λ (l : List Timed). l ++ behind) e ∙ append_assoc a (x ∷ b) behind))
      in_c i (λ same. differs (sym same)) s (subst (λ (l : List Timed). Stands n other (here l) x.row) (append_assoc front (timed ∷ []) a) again) in
      let high = (in_time_at a b x e).1 in
      omega (arith, apart, high)

  -- ---- until c leads, it is in its term

  early_cut : (a b : List Timed) → early ≡ a ++ b → whole ≡ (first ++ a) ++ (b ++ late)
  early_cut a b e = first_cut ∙ ap (λ (l : List Timed). first ++ (l ++ late)) e ∙ ap (λ (l : List Timed). first ++ l) (append_assoc a b late)
      ∙ sym (append_assoc first a (b ++ late))

  led_end : LeadsIn c term (here (first ++ early))
  led_end = subst (LeadsIn c term) (sym (world_both w first early ∙ ap (λ (v : Cluster). after_rows v (rows_in early)) here_first)) leads

  c_in_term : (a b : List Timed) → early ≡ a ++ b → (server : AllocatorState) → ((here (first ++ a)).member c).status ≡ Up server
      → server.raft_server.store.term ≡ term
  c_in_term a b e server up =
      let low = rises ids rows laws group clocks pace start whole calm c in_c first a (b ++ late)
      (early_cut a b e ∙ append_assoc first a (b ++ late)) s.after server
      (ap (λ (v : Cluster). (v.member c).status) here_first ∙ s.runs_then) up in
      let high = rises ids rows laws group clocks pace start whole calm c in_c (first ++ a) b late (early_cut a b e) server led_end.server up
      (ap (λ (l : List Timed). ((here l).member c).status) (append_assoc first a b ∙ ap (λ (l : List Timed). first ++ l) (sym e)) ∙ led_end.runs) in
      let its = s.its_term in let then = led_end.its_term in omega (arith, low, high, its, then)

  c_stands_not : (a b : List Timed) (x : Timed) → early ≡ a ++ x ∷ b → (other : ℕ) → Stands c other (here (first ++ a)) x.row → ⊥
  c_stands_not a b x e other again =
      let before = c_in_term a (x ∷ b) e again.before again.runs in
      let after = c_in_term (a ++ x ∷ []) b (e ∙ sym (append_assoc a (x ∷ []) b)) again.after
      (ap (λ (v : Cluster). (v.member c).status) (here_more first a x) ∙ again.runs_then) in
      let next = again.next in let its = again.its_term in omega (arith, before, after, next, its)

  -- ---- the row in which c comes to lead

  comes : ComesToLead c (here first) early
  comes = comes_to_lead c early (here first)
      (λ a b e. subst (IsRunning c) (world_both w first a)
      (running_at cut_calm c in_c (first ++ a) (b ++ late) (early_cut a b e)))
      (λ server up leader. no_candidate s.after.raft_server.memory.role s.stands (subst (λ (t : AllocatorState). t.raft_server.memory.role ≡ Leader)
      (same_server server s.after (sym up ∙ (ap (λ (v : Cluster). (v.member c).status) here_first ∙ s.runs_then))) leader))
      (λ server up. subst (λ (t : AllocatorState). t.raft_server.memory.role ≡ Leader)
      (same_server led_end.server server (sym led_end.runs ∙ (ap (λ (v : Cluster). (v.member c).status) (world_both w first early) ∙ up))) led_end.leads)

  abbrev e1 : List Timed
  e1 = comes.front

  abbrev win : Timed
  win = comes.timed

  abbrev e2 : List Timed
  e2 = comes.rest

  abbrev won : List Timed
  won = e1 ++ win ∷ []

  abbrev then_rows : List Timed
  then_rows = e2 ++ more

  abbrev led_from : List Timed
  led_from = first ++ won

  won_cut : early ≡ won ++ e2
  won_cut = comes.split ∙ sym (append_assoc e1 (win ∷ []) e2)

  reached_won : reached ≡ won ++ then_rows
  reached_won = ap (λ (l : List Timed). l ++ more) won_cut ∙ append_assoc won e2 more

  led_cut : whole ≡ led_from ++ (then_rows ++ behind)
  led_cut = cut_at won then_rows reached_won

  nobody_won : NobodyStandsIn group (here first) won
  nobody_won = nobody_by group won (here first) (λ a b x n other e i again.
      let stands : Stands n other (here (first ++ a)) x.row = subst (λ (v : Cluster). Stands n other v x.row) (sym (world_both w first a)) again in
      elim (eqb_tells n c) [
        | inl z ↦ c_stands_not a (b ++ e2) x (won_cut ∙ (ap (λ (l : List Timed). l ++ e2) e ∙ append_assoc a (x ∷ b) e2)) other
            (subst (λ (k : ℕ). Stands k other (here (first ++ a)) x.row) z.1 stands)
        | inr z ↦ others_stand_not a (b ++ then_rows) x (reached_won ∙ (ap (λ (l : List Timed). l ++ then_rows) e ∙ append_assoc a (x ∷ b) then_rows))
            n other i z.1 stands
      ])

  within_first : AreWithin group term (here first)
  within_first = subst (AreWithin group term) (sym here_first)
      (laws.terms group clocks pace start term front (timed ∷ []) (early ++ late) calm.listed calm.running calm.others calm.calm
      (harm_front cut_calm first (early ++ late) first_cut)
      (λ m i server up. let low = within m i server up in let next = s.next in omega (arith, low, next))
      ((λ n other i again. let low = within n i again.before again.runs in let next = s.next in let its = again.next in omega (arith, low, next, its)), tt))

  within_won : AreWithin group term (here led_from)
  within_won = within_at ids rows laws group clocks pace start whole calm first won (then_rows ++ behind)
      (led_cut ∙ append_assoc first won (then_rows ++ behind)) nobody_won term within_first won [] (sym (append-nil won))

  here_won : here led_from ≡ after_row (after_rows (here first) (rows_in e1)) win.row
  here_won = here_more first e1 win ∙ ap (λ (v : Cluster). after_row v win.row) (world_both w first e1)

  leads_won : LeadsIn c term (here led_from)
  leads_won =
      let run = running_at cut_calm c in_c led_from (then_rows ++ behind) led_cut in record {
        server = run.server;
        runs = run.runs;
        leads = comes.leads run.server (ap (λ (v : Cluster). (v.member c).status) (sym here_won) ∙ run.runs);
        its_term = c_in_term won e2 won_cut run.server run.runs;
      }

  -- ---- nobody stands from there on, by then

  nobody_in : (todo done : List Timed) → then_rows ≡ done ++ todo → NobodyStandsIn group (here led_from) done
      → NobodyStandsIn group (here led_from) then_rows
  nobody_in [] done e all = subst (NobodyStandsIn group (here led_from)) (sym (e ∙ append-nil done)) all
  nobody_in (x ∷ todo) done e all = nobody_in todo (done ++ x ∷ []) (e ∙ sym (append_assoc done (x ∷ []) todo))
      (nobody_more group done x (here led_from) all (λ n other i again.
      let stands : Stands n other (here (led_from ++ done)) x.row
      = subst (λ (v : Cluster). Stands n other v x.row) (sym (world_both w led_from done)) again in
      elim (eqb_tells n c) [
        | inl z ↦ leader_stands_not c term other (here (led_from ++ done)) x.row
            (leads_at ids rows laws group clocks pace start whole calm led_from done ((x ∷ todo) ++ behind)
            (led_cut ∙ ap (λ (l : List Timed). led_from ++ l) (ap (λ (l : List Timed). l ++ behind) e ∙ append_assoc done (x ∷ todo) behind))
            all c term in_c leads_won within_won done [] (sym (append-nil done)))
            (subst (λ (k : ℕ). Stands k other (here (led_from ++ done)) x.row) z.1 stands)
        | inr z ↦ others_stand_not (won ++ done) todo x
            (reached_won ∙ (ap (λ (l : List Timed). won ++ l) e ∙ sym (append_assoc won done (x ∷ todo)))) n other i z.1
            (subst (λ (l : List Timed). Stands n other (here l) x.row) (append_assoc first won done) stands)
      ]))

  nobody_then : NobodyStandsIn group (here led_from) then_rows
  nobody_then = nobody_in then_rows [] refl tt

  heeded : (a b : List Timed) → then_rows ≡ a ++ b → IsHeeded group c term (here (led_from ++ a))
  heeded = heeded_at ids rows laws group clocks pace start whole calm led_from then_rows behind led_cut nobody_then c term in_c leads_won within_won

  -- ---- each other member hears it

  abbrev upto : List Timed
  upto = first ++ e1

  win_cut : whole ≡ upto ++ win ∷ (e2 ++ late)
  win_cut = early_cut e1 (win ∷ e2) comes.split

  module _ (m : ℕ) (in_m : In (OfMember m) group) (other : m ≢ c) where
    exchange : CanExchange c m w whole
    exchange = calm.exchange c m in_c in_m (λ e. other (sym e))

    offers : OffersCall c m (here upto) win.row
    offers = winner_offers_it ids rows laws.entries group clocks pace start c m upto (e2 ++ late) win calm.listed calm.running in_c other
        (subst (AreCalm group clocks pace (no_traffic start) w) win_cut calm.calm) (subst (CallsFit c w) win_cut (calm.calls_fit c in_c)) exchange.calls_it
        (subst (LeadsNotIfUp c) (sym (world_both w first e1)) comes.leads_not)
        (subst (λ (v : Cluster). Leads c (after_row v win.row)) (sym (world_both w first e1)) comes.leads)

    call : CallsInTerm c m term (here upto) win.row
    call = call_in_term ids rows laws.calls c m term (rows_in upto) (rows_in (e2 ++ late)) win.row
        (harm_in cut_calm upto (win ∷ (e2 ++ late)) win_cut)
        (running_at cut_calm c in_c upto (win ∷ (e2 ++ late)) win_cut) offers
        (fits_at c upto (e2 ++ late) win w (subst (CallsFit c w) win_cut (calm.calls_fit c in_c)) m offers)
        (subst (LeadsIn c term) (here_more first e1 win) leads_won)

    win_soon : win.at ≤ timed.at + 4 * pace.delay
    win_soon =
        let b = in_between group clocks pace early (end_of start first) (here first)
        (calm_first group clocks pace early late (end_of start first) (here first)
        (goes_at cut_calm first (early ++ late) first_cut)) win
        (subst (In win) (sym comes.split) (in_back win e1 (win ∷ e2) (inl refl))) in
        let high = b.1 in let same = ap (λ (k : ℕ). end_of k early) at_first in omega (arith, high, same, soon)

    module _ (long : timed.at + 8 * pace.delay < end_of timed.at (early ++ late)) where
      heard : HearsCallBy m (clocks (OfMember m)) (sent_by c (here upto) call.offer) call.request (win.at + 2 * pace.delay) (here upto) (win ∷ (e2 ++ late))
      heard = laws.hear group clocks pace start c m upto (e2 ++ late) win call.offer call.request calm.listed calm.running in_c in_m (λ e. other (sym e))
          (let s8 = calm.soon in omega (arith, s8)) exchange.calls exchange.first_call
          (subst (AreCalm group clocks pace (no_traffic start) w) win_cut calm.calm) (subst (Throughout (HasMemory m) w) win_cut exchange.its_memory) call.calls
          (let ends : end_of timed.at (early ++ late) ≡ end_of win.at (e2 ++ late)
          = ap (λ (l : List Timed). end_of timed.at (l ++ late)) comes.split ∙ ap (end_of timed.at) (append_assoc e1 (win ∷ e2) late)
          ∙ end_both timed.at e1 (win ∷ (e2 ++ late)) in
          let w4 = win_soon in omega (arith, ends, w4, long))

      abbrev x : Timed
      x = heard.timed

      rows_then : e2 ++ late ≡ then_rows ++ behind
      rows_then = ap (λ (l : List Timed). e2 ++ l) by_then.split ∙ sym (append_assoc e2 more behind)

      -- it is not the row in which c comes to lead, which is no row of m
      not_win : win ≡ x → ⊥
      not_win same = other (same_stepper m c (receipt_of (here upto) heard.call.delivers.k heard.call.delivers.ms) offers.event
          (subst (λ (r : Row). step_of (here upto) r ≡ Some (c, offers.event)) (ap (λ (t : Timed). t.row) same ∙ heard.call.delivers.comes) offers.in_step))

      -- where it is
      record IsHeardAt : Type 0 where
        pub tail : List Timed
        pub rest : List Timed
        pub front_is : heard.front ≡ win ∷ tail
        pub split : then_rows ≡ tail ++ x ∷ rest

      heard_at : IsHeardAt
      heard_at = elim (first_or_behind win (e2 ++ late) heard.front heard.rest x heard.split) [
        | inl z ↦ absurd (not_win z.1)
        | inr z ↦ elim (part_of then_rows behind z.0 heard.rest x (sym rows_then ∙ z.2)) [
          | inl p ↦ record { tail = z.0; rest = p.0; front_is = z.1; split = p.1 }
          | inr p ↦
              let low = later (led_from ++ then_rows) behind refl (led_cut ∙ sym (append_assoc led_from then_rows behind)) x
              (subst (In x) (sym p.1) (in_back x p.0 (x ∷ heard.rest) (inl refl))) in
              let high = heard.soon in let w4 = win_soon in absurd (omega (arith, low, high, w4))
        ]
      ]

      abbrev tail : List Timed
      tail = heard_at.tail

      world_heard : after_rows (here upto) (rows_in heard.front) ≡ here (led_from ++ tail)
      world_heard = ap (λ (l : List Timed). after_rows (here upto) (rows_in l)) heard_at.front_is ∙ sym (world_both w upto (win ∷ tail))
          ∙ ap here (append_assoc first e1 (win ∷ tail) ∙ ap (λ (l : List Timed). first ++ l) (sym (append_assoc e1 (win ∷ []) tail))
          ∙ sym (append_assoc first won tail))

      hear_cut : whole ≡ (led_from ++ tail) ++ ((x ∷ heard_at.rest) ++ behind)
      hear_cut = led_cut ∙ ap (λ (l : List Timed). led_from ++ l) (ap (λ (l : List Timed). l ++ behind) heard_at.split
          ∙ append_assoc tail (x ∷ heard_at.rest) behind) ∙ sym (append_assoc led_from tail ((x ∷ heard_at.rest) ++ behind))

      may : MayFollow c call.request heard.call.delivers.server
      may = may_follow c m term (clocks (OfMember m)) (sent_by c (here upto) call.offer) call.request (after_rows (here upto) (rows_in heard.front)) x heard.call
          refl call.its_term (subst (MayHeed m term) (sym world_heard) ((heeded tail (x ∷ heard_at.rest) heard_at.split).others m in_m other))
          (subst (Lists m c) (sym world_heard) (laws.calls.stay group clocks pace (no_traffic start) m c (led_from ++ tail) ((x ∷ heard_at.rest) ++ behind) w
          (calm.running m in_m) (subst (AreCalm group clocks pace (no_traffic start) w) hear_cut calm.calm) exchange.hears_it))

      abbrev moment : ℕ
      moment = max heard.call.delivers.server.now heard.call.delivers.ms

      abbrev heard_rows : List Timed
      heard_rows = led_from ++ (tail ++ x ∷ [])

      since : FollowsSince m moment (here heard_rows)
      since = subst (FollowsSince m moment) (sym (here_more led_from tail x ∙ ap (λ (v : Cluster). after_row v x.row) (sym world_heard))) (heard.call.anew may)

      heard_cut : whole ≡ heard_rows ++ (heard_at.rest ++ behind)
      heard_cut = hear_cut ∙ sym (append_assoc (led_from ++ tail) (x ∷ []) (heard_at.rest ++ behind))
          ∙ ap (λ (l : List Timed). l ++ (heard_at.rest ++ behind)) (append_assoc led_from tail (x ∷ []))

      goes : GoesOnFrom group clocks pace (end_of start heard_rows) (here heard_rows) (heard_at.rest ++ behind)
      goes = goes_at cut_calm heard_rows (heard_at.rest ++ behind) heard_cut

      reached_x : reached ≡ (won ++ tail) ++ x ∷ heard_at.rest
      reached_x = reached_won ∙ (ap (λ (l : List Timed). won ++ l) heard_at.split ∙ sym (append_assoc won tail (x ∷ heard_at.rest)))

      moment_late : timed.at + clocks (OfMember m) ≤ moment
      moment_late = let low = (in_time_at (won ++ tail) heard_at.rest x reached_x).0 in let reads = heard.call.clock in omega (arith, low, reads)

      -- and follows from then on, with a wait that began behind the row in which c stood
      follows : FollowsFrom m moment (here (led_from ++ then_rows))
      follows = subst (FollowsFrom m moment)
          (sym (world_both w heard_rows heard_at.rest) ∙ ap here (append_assoc led_from (tail ++ x ∷ []) heard_at.rest
          ∙ ap (λ (l : List Timed). led_from ++ l) (append_assoc tail (x ∷ []) heard_at.rest ∙ sym heard_at.split)))
          (laws.calls.follow group clocks pace goes.traffic m moment heard_at.rest behind (here heard_rows) since goes.calm
          (λ y i. let high = (in_time y (subst (In y) (sym reached_x) (in_back y (won ++ tail) (x ∷ heard_at.rest) (inr i)))).1 in
          let low = moment_late in let s8 = calm.soon in omega (arith, high, low, s8)))

  -- ---- so no election comes

  abbrev led_rows : List Timed
  led_rows = led_from ++ then_rows

  led_rows_cut : whole ≡ led_rows ++ behind
  led_rows_cut = led_cut ∙ sym (append_assoc led_from then_rows behind)

  led_rows_are : led_rows ≡ first ++ reached
  led_rows_are = append_assoc first won then_rows ∙ ap (λ (l : List Timed). first ++ l) (sym reached_won)

  ends_at : end_of start led_rows ≡ end_of timed.at reached
  ends_at = ap (end_of start) led_rows_are ∙ (end_both start first reached ∙ ap (λ (k : ℕ). end_of k reached) at_first)

  module _ (long : timed.at + 8 * pace.delay < end_of timed.at (early ++ late)) where
    within_then : AreWithin group term (here led_rows)
    within_then = within_at ids rows laws group clocks pace start whole calm led_from then_rows behind led_cut nobody_then term within_won then_rows []
        (sym (append-nil then_rows))

    is_led : IsLed group c term (here led_rows)
    is_led = record {
      leader = (heeded then_rows [] (sym (append-nil then_rows))).leader;
      others = λ m i other. let f = follows m i other long in
          record { server = f.server; runs = f.runs; follows = f.follows; its_term = within_then m i f.server f.runs };
    }

    will : (m : ℕ) → In (OfMember m) group → m ≢ c → WillHear c m (end_of start led_rows + clocks (OfMember m) + heard_within pace) w led_rows behind
    will m i other = let x = exchange m i other in record {
      calls = x.calls_it;
      hears = x.hears_it;
      ready = x.calls;
      first_call = x.first_call;
      memory = subst (Throughout (HasMemory m) w) led_rows_cut x.its_memory;
      waits = λ server up.
          let f = follows m i other long in
          let since = f.waits in let same = ap (λ (t : AllocatorState). t.times.since) (same_server f.server server (sym f.runs ∙ up)) in
          let low = moment_late m i other long in let ends = ends_at in let high = reached_soon in let s8 = calm.soon in
          omega (arith, since, same, low, ends, high, s8);
    }

    none_comes : NoElection group clocks pace (end_of start led_rows) c term (here led_rows) behind
    none_comes = laws.comes group clocks pace start c term led_rows behind calm.listed calm.running in_c is_led (let s8 = calm.soon in omega (arith, s8))
        calm.clock will (subst (AreCalm group clocks pace (no_traffic start) w) led_rows_cut calm.calm)
        (subst (λ (l : List Timed). DoNoHarm w (rows_in l)) led_rows_cut calm.harmless)
        (fits_rest c led_rows behind w (subst (CallsFit c w) led_rows_cut (calm.calls_fit c in_c)))

    pub leads_the_group : IsLedBy group clocks pace timed.at (timed.at + 8 * pace.delay)
        (after_row (after_rows (world_of ids rows) (rows_in front)) timed.row) (early ++ late)
    leads_the_group = record {
      front = reached;
      rest = behind;
      split = reached_cut;
      soon = reached_soon;
      n = c;
      member = in_c;
      term = term;
      calm = subst (λ (k : ℕ). NoElection group clocks pace k c term (after_rows (after_row (here front) timed.row) (rows_in reached)) behind) ends_at
          (subst (λ (v : Cluster). NoElection group clocks pace (end_of start led_rows) c term v behind)
          (ap here led_rows_are ∙ (world_both w first reached ∙ ap (λ (v : Cluster). after_rows v (rows_in reached)) here_first)) none_comes);
    }
