-- Somebody stands for election in time, or somebody leads, and no election comes any more.
use Rattle.std.proofs.Common.{◌≡◌, ◌≢◌, ℕ, ◌+◌, ◌*◌, ◌<◌, ◌≤◌, arith, List, [], ◌∷◌, ◌++◌, refl, sym, ◌∙◌, ap, subst, inl, inr}
use Rattle.std.specs.Prelude.{◌⊎◌, drop, slice_index_or}
use Rattle.std.proofs.lemmas.Bool.Decides.{eqb_tells}
use Rattle.std.proofs.lemmas.List.{append_assoc, append-nil}
use Rattle.raft_model.specs.Lists.{In}
use Rattle.bus_rows.specs.declared.row.Row.{Row}
use Rattle.alloc_spec.specs.AllocatorState.{AllocatorState}
use Rattle.alloc_spec_laws.proofs.Choices.{lt_tells}
use Rattle.bus_rows.specs.Timed.{Timed, rows_in}
use Rattle.service_alone.specs.Calm.{end_of}
use Rattle.service_calm.specs.Calm.{AreRunning, Member as OfMember}
use Rattle.service_leader.specs.CallsAsk.{CallsAskNext}
use Rattle.service_leader.specs.CallsComeBack.{LeadsNotIfUp}
use Rattle.service_leader.specs.LeadsOn.{LeadsIn}
use Rattle.service_leader.specs.NoElection.{NoElection, heard_within}
use Rattle.service_leader.proofs.Stretches.{GoesOnFrom, calm_first, calm_rest, end_both, end_last, in_between, world_both}
use Rattle.service_candidate.specs.Elections.{longest_wait}
use Rattle.service_candidate.specs.Terms.{NobodyLeads}
use Rattle.service_candidate.specs.Waits.{WhoWaitsStands}
use Rattle.service_candidate.proofs.ElectionsEnd.{some_member}
use Rattle.service_candidate.proofs.WinsStays.{in_middle}
use Rattle.service_elections.specs.Rounds.{LeadersBelowStepDown, SomebodyStandsOrLeads, StandsFirst, WhoLeadsAtTheTop, stand_within}
use Rattle.service_elections.specs.Running.{IsLedBy, NobodyStandsIn, quiet_within}
use Rattle.service_elections.specs.Sent.{NothingChangesInSilence, WhoAsksStands, WhoWinsHasAsked}
use Rattle.service_elections.proofs.CalmFronts.{goes_at, recut, running_at}
use Rattle.service_elections.proofs.NobodyBelow.{Stops}
use Rattle.service_elections.proofs.NobodyCalls.{UnledSince}
use Rattle.service_elections.proofs.NobodyScene.{Course, StepLaws, Stretch, behind, cut_at, ends, ends_next, here, not_back, same_end, the_calm, there, there_both, w}
use Rattle.service_elections.proofs.NobodyStands.{FirstBehind, OneStandsFirst, first_behind, first_or_nobody, nobody_front}
use Rattle.service_elections.proofs.NobodyStays.{leads_some_or_not}
use Rattle.service_elections.proofs.NobodyWins.{off_on, on_or_off}
use Rattle.service_elections.proofs.SomebodyTop.{HasTop, highest, one_leads_or_none}
use Rattle.service_elections.proofs.SomebodyWaits.{cannot_wait}
use Rattle.bus_spec.specs.Cluster.{Cluster, after_row, after_rows, world_of}
use Rattle.bus_spec.specs.Lawful.{DoNoHarm}
use Rattle.bus_spec.specs.Members.MemberStatus.{Up}

-- what it stands on
pub record StandLaws (ids : List ℕ) (rows : List Row) (w : Cluster) : Type 0 where
  pub asks_stands : WhoAsksStands ids rows
  pub wins_asked : WhoWinsHasAsked ids rows
  pub nothing : NothingChangesInSilence ids rows
  pub step_down : LeadersBelowStepDown ids rows
  pub lead_at_top : WhoLeadsAtTheTop ids rows
  pub calls_ask : CallsAskNext
  pub waits : (more : List Row) → DoNoHarm w more → WhoWaitsStands ids (rows ++ more)

-- rows in parts, in another grouping
regroup : (f a b c : List Timed) (l : Timed) → ((f ++ a) ++ b) ++ l ∷ c ≡ f ++ ((a ++ (b ++ l ∷ [])) ++ c)
regroup [] [] b c l = sym (append_assoc b (l ∷ []) c)
regroup [] (x ∷ a) b c l = ap (λ (r : List Timed). x ∷ r) (regroup [] a b c l)
regroup (x ∷ f) a b c l = ap (λ (r : List Timed). x ∷ r) (regroup f a b c l)

less : (a b : ℕ) → a ≤ b → a ≢ b → a < b
less a b low differs = elim (lt_tells a b) [ inl z ↦ z.1 | inr z ↦ absurd (differs (omega (arith, z.1, low))) ]

-- the parts of rows that begin with a row
first_same : (x y : Timed) (a b : List Timed) → x ∷ a ≡ y ∷ b → (x ≡ y) × (a ≡ b)
first_same x y a b e = (ap (λ (l : List Timed). slice_index_or l 0 x) e, ap (λ (l : List Timed). drop 1 l) e)

module _ (s : Course) (laws : StandLaws s.ids s.rows (w s)) (k : ℕ) (in_k : In (OfMember k) s.group) (p : Stretch s) where
  abbrev from : ℕ
  from = end_of s.start p.first

  abbrev final : ℕ
  final = end_of from p.few

  -- the first row that is so late
  next : (q : Stretch s) (bound : ℕ) → end_of s.start q.first ≤ bound → bound < end_of (end_of s.start q.first) q.few
      → FirstBehind s.pace bound (end_of s.start q.first) q.few
  next q bound low high = first_behind s.group s.clocks s.pace k in_k bound q.few q.rest (end_of s.start q.first) (here s q.first)
      (goes_at (the_calm s) q.first (q.few ++ q.rest) q.cut) low high

  module _ (long : from + stand_within s.pace < final + s.pace.period) where
    -- ---- when the answers of the last election have come

    abbrev e1 : FirstBehind s.pace (from + 4 * s.pace.delay) from p.few
    e1 = next p (from + 4 * s.pace.delay) (omega arith) (omega (arith, long))

    abbrev a1 : List Timed
    a1 = e1.before ++ e1.last ∷ []

    cut1 : p.few ≡ a1 ++ e1.later
    cut1 = e1.split ∙ sym (append_assoc e1.before (e1.last ∷ []) e1.later)

    abbrev p1 : Stretch s
    p1 = behind s p a1 e1.later cut1

    late1 : from + 4 * s.pace.delay < ends s p a1
    late1 = let is = ends_next s p e1.before e1.last in let late = e1.late in omega (arith, is, late)

    soon1 : ends s p a1 ≤ from + 4 * s.pace.delay + s.pace.period
    soon1 = let is = ends_next s p e1.before e1.last in let soon = e1.soon in let early = e1.early in omega (arith, is, soon, early)

    end1 : end_of (ends s p a1) e1.later ≡ final
    end1 = same_end s p a1 e1.later cut1

    abbrev top : HasTop s.group (there s p a1)
    top = highest s.group (there s p a1) k in_k (λ q i. running_at (the_calm s) q i (p.first ++ a1) (e1.later ++ p.rest) (cut_at s p a1 e1.later cut1))

    abbrev highest_term : ℕ
    highest_term = top.server.raft_server.store.term

    -- ---- a member leads in the highest term

    module _ (n : ℕ) (in_n : In (OfMember n) s.group) (leads : LeadsIn n highest_term (there s p a1)) (last : ℕ) (soon : final ≤ last) where
      abbrev r : IsLedBy s.group s.clocks s.pace (ends s p a1) (end_of (ends s p a1) e1.later) (there s p a1) (e1.later ++ p.rest)
      r = laws.lead_at_top s.group s.clocks s.pace s.start n highest_term (p.first ++ a1) e1.later p.rest (recut (the_calm s) _ (cut_at s p a1 e1.later cut1)) in_n
          leads top.within p1.nobody (let early = soon1 in let e = end1 in omega (arith, early, e, long))

      moved : end_of from (a1 ++ r.front) ≡ end_of (ends s p a1) r.front
      moved = end_both from a1 r.front ∙ ap (λ (j : ℕ). end_of j r.front) (sym (end_both s.start p.first a1))

      world : after_rows (here s p.first) (rows_in (a1 ++ r.front)) ≡ after_rows (there s p a1) (rows_in r.front)
      world = world_both (here s p.first) a1 r.front ∙ ap (λ (v : Cluster). after_rows v (rows_in r.front)) (sym (world_both (w s) p.first a1))

      led : IsLedBy s.group s.clocks s.pace from last (here s p.first) (p.few ++ p.rest)
      led = record {
        front = a1 ++ r.front;
        rest = r.rest;
        split = ap (λ (l : List Timed). l ++ p.rest) cut1 ∙ (append_assoc a1 e1.later p.rest ∙ (ap (λ (l : List Timed). a1 ++ l) r.split
            ∙ sym (append_assoc a1 r.front r.rest)));
        soon = let m = moved in let early = r.soon in let e = end1 in omega (arith, m, early, e, soon);
        n = r.n;
        member = r.member;
        term = r.term;
        calm = subst (λ (j : ℕ). NoElection s.group s.clocks s.pace j r.n r.term (after_rows (here s p.first) (rows_in (a1 ++ r.front))) r.rest) (sym moved)
            (subst (λ (v : Cluster). NoElection s.group s.clocks s.pace (end_of (ends s p a1) r.front) r.n r.term v r.rest) (sym world) r.calm);
      }

    -- ---- none does

    module _ (none : (n : ℕ) → In (OfMember n) s.group → LeadsIn n highest_term (there s p a1) → ⊥) where
      abbrev bound2 : ℕ
      bound2 = ends s p a1 + heard_within s.pace + 2 * s.pace.delay

      abbrev e2 : FirstBehind s.pace bound2 (ends s p a1) e1.later
      e2 = next p1 bound2 (omega arith) (let early = soon1 in let e = end1 in omega (arith, early, e, long))

      abbrev a2 : List Timed
      a2 = e2.before ++ e2.last ∷ []

      cut2 : e1.later ≡ a2 ++ e2.later
      cut2 = e2.split ∙ sym (append_assoc e2.before (e2.last ∷ []) e2.later)

      whole2 : s.whole ≡ (p.first ++ a1) ++ (a2 ++ (e2.later ++ p.rest))
      whole2 = cut_at s p a1 e1.later cut1 ∙ ap (λ (l : List Timed). (p.first ++ a1) ++ l) (ap (λ (l : List Timed). l ++ p.rest) cut2
          ∙ append_assoc a2 e2.later p.rest)

      -- who led below the top stops, and does not lead again
      stopped : (n term : ℕ) → In (OfMember n) s.group → LeadsIn n term (there s p a1) → LeadsNotIfUp n (there s p (a1 ++ a2))
      stopped n term i leads = by (laws.step_down s.group s.clocks s.pace s.start n top.c term (p.first ++ a1) a2 (e2.later ++ p.rest) top.server
          (recut (the_calm s) _ whole2) i top.member top.runs below (nobody_front s.group a2 e2.later (there s p a1)
          (subst (NobodyStandsIn s.group (there s p a1)) cut2 p1.nobody))
          (let is = end_last (ends s p a1) e2.before e2.last in let late = e2.late in omega (arith, is, late)))
        where
          below : term < highest_term
          below =
              let low = top.within n i leads.server leads.runs in
              let its = leads.its_term in
              elim (eqb_tells term highest_term) [
                | inl z ↦ absurd (none n i (record { server = leads.server; runs = leads.runs; leads = leads.leads; its_term = its ∙ z.1 }))
                | inr z ↦ less term highest_term (omega (arith, low, its)) z.1
              ]

          by : Stops n term (there s p a1) a2 → LeadsNotIfUp n (there s p (a1 ++ a2))
          by stops = subst (λ (l : List Timed). LeadsNotIfUp n (there s p l)) (append_assoc a1 stops.0 stops.1 ∙ ap (λ (l : List Timed). a1 ++ l) (sym stops.2))
              (off_on s laws.asks_stands p laws.wins_asked n i stops.1 (a1 ++ stops.0) e2.later (cut ∙ sym (append_assoc a1 stops.0 (stops.1 ++ e2.later))) late off)
            where
              cut : p.few ≡ a1 ++ (stops.0 ++ (stops.1 ++ e2.later))
              cut = cut1 ∙ ap (λ (l : List Timed). a1 ++ l) (cut2 ∙ (ap (λ (l : List Timed). l ++ e2.later) stops.2 ∙ append_assoc stops.0 stops.1 e2.later))

              late : from + 4 * s.pace.delay < ends s p (a1 ++ stops.0)
              late = let on = not_back s p a1 stops.0 (stops.1 ++ e2.later) cut in let l = late1 in omega (arith, on, l)

              off : LeadsNotIfUp n (there s p (a1 ++ stops.0))
              off = elim (on_or_off s laws.asks_stands p laws.wins_asked n i term stops.0 a1 (stops.1 ++ e2.later) cut late1 leads) [
                | inl still ↦ absurd (stops.3 (subst (LeadsIn n term) (there_both s p a1 stops.0) still))
                | inr gone ↦ gone
              ]

      -- so nobody leads then, and from then on
      unled2 : NobodyLeads s.group (there s p (a1 ++ a2))
      unled2 n i = elim (leads_some_or_not n (there s p a1)) [
        | inl leads ↦ stopped n leads.0 i leads.1
        | inr off ↦ off_on s laws.asks_stands p laws.wins_asked n i a2 a1 e2.later (cut1 ∙ ap (λ (l : List Timed). a1 ++ l) cut2) late1 off
      ]

      cut12 : p.few ≡ (a1 ++ a2) ++ e2.later
      cut12 = cut1 ∙ (ap (λ (l : List Timed). a1 ++ l) cut2 ∙ sym (append_assoc a1 a2 e2.later))

      late2 : from + 4 * s.pace.delay < ends s p (a1 ++ a2)
      late2 = let on = not_back s p a1 a2 e2.later (cut1 ∙ ap (λ (l : List Timed). a1 ++ l) cut2) in let l = late1 in omega (arith, on, l)

      -- ---- the stretch that begins before the last row by which they stopped

      abbrev p2 : Stretch s
      p2 = behind s p1 e2.before (e2.last ∷ e2.later) e2.split

      begins2 : end_of s.start p2.first ≤ bound2
      begins2 = let both = end_both s.start (p.first ++ a1) e2.before in let early = e2.early in omega (arith, both, early)

      unled : UnledSince s laws.calls_ask p2 e2.last.at
      unled [] b e late n i =
          let is = ap (end_of s.start) (append-nil ((p.first ++ a1) ++ e2.before)) in
          let begins = begins2 in let at_last = e2.late in absurd (omega (arith, is, begins, at_last, late))
      unled (x ∷ a) b e late n i =
          let same = first_same e2.last x e2.later (a ++ b) e in
          subst (λ (l : List Timed). LeadsNotIfUp n (here s l))
          (sym (ap (λ (y : Timed). ((p.first ++ a1) ++ e2.before) ++ y ∷ a) (sym same.0) ∙ regroup p.first a1 e2.before a e2.last))
          (off_on s laws.asks_stands p laws.wins_asked n i a (a1 ++ a2) b (cut12 ∙ ap (λ (l : List Timed). (a1 ++ a2) ++ l) same.1) late2 (unled2 n i))

      end2 : end_of (end_of s.start p2.first) p2.few ≡ final
      end2 = same_end s p1 e2.before (e2.last ∷ e2.later) e2.split ∙ end1

      -- ---- when the answers of those who led have come

      abbrev bound3 : ℕ
      bound3 = e2.last.at + 4 * s.pace.delay

      abbrev e3 : FirstBehind s.pace bound3 (end_of s.start p2.first) p2.few
      e3 = next p2 bound3 (let begins = begins2 in let late = e2.late in omega (arith, begins, late))
          (let soon = e2.soon in let early = e2.early in let first = soon1 in let e = end2 in omega (arith, soon, early, first, e, long))

      abbrev a3 : List Timed
      a3 = e3.before ++ e3.last ∷ []

      cut3 : p2.few ≡ a3 ++ e3.later
      cut3 = e3.split ∙ sym (append_assoc e3.before (e3.last ∷ []) e3.later)

      in_time : ends s p2 a3 + longest_wait + s.pace.period ≤ from + stand_within s.pace
      in_time =
          let is = ends_next s p2 e3.before e3.last in
          let third = e3.soon in let third_early = e3.early in let second = e2.soon in let second_early = e2.early in let first = soon1 in
          omega (arith, is, third, third_early, second, second_early, first)

      cannot : ((x : Timed) → In x p.rest → from + stand_within s.pace < x.at) → from + stand_within s.pace < end_of s.start s.whole → ⊥
      cannot rest_late longer = cannot_wait s laws.asks_stands laws.nothing laws.calls_ask laws.waits p2 e2.last.at
          (let begins = begins2 in let late = e2.late in omega (arith, begins, late)) unled k in_k a3 e3.later cut3
          (let is = ends_next s p2 e3.before e3.last in let late = e3.late in omega (arith, is, late))
          (λ x i. let late = rest_late x i in let soon = in_time in omega (arith, late, soon))
          (let e = ap (end_of s.start) (cut_at s p2 a3 e3.later cut3) in let both = end_both s.start (p2.first ++ a3) (e3.later ++ p.rest) in
          let soon = in_time in omega (arith, e, both, soon, longer))

    -- ---- so one leads, and no election comes

    pub is_led : final ≤ from + stand_within s.pace → ((x : Timed) → In x p.rest → from + stand_within s.pace < x.at)
        → from + stand_within s.pace < end_of s.start s.whole
        → IsLedBy s.group s.clocks s.pace from (from + stand_within s.pace) (here s p.first) (p.few ++ p.rest)
    is_led soon rest_late longer = elim (one_leads_or_none highest_term (there s p a1) s.group) [
      | inl one ↦ led one.0 one.1 one.2 (from + stand_within s.pace) soon
      | inr none ↦ absurd (cannot none rest_late longer)
    ]

-- ---- somebody stands first, or somebody leads

module _ (s : Course) (laws : StandLaws s.ids s.rows (w s)) (first later : List Timed) (cut : s.whole ≡ first ++ later)
    (settled : s.start + quiet_within s.pace ≤ end_of s.start first)
    (long : end_of s.start first + stand_within s.pace < end_of (end_of s.start first) later) where
  abbrev moment : ℕ
  moment = end_of s.start first

  abbrev last : ℕ
  last = moment + stand_within s.pace

  one : (n : ℕ) × In (OfMember n) s.group
  one = some_member s.group s.ids _ (omega arith) s.calm.many

  goes : GoesOnFrom s.group s.clocks s.pace moment (here s first) later
  goes = goes_at (the_calm s) first later cut

  running : AreRunning s.group (here s first)
  running n i = running_at (the_calm s) n i first later cut

  -- the first row that is too late
  abbrev l : FirstBehind s.pace last moment later
  l = first_behind s.group s.clocks s.pace one.0 one.1 last later [] moment (here s first)
      (subst (GoesOnFrom s.group s.clocks s.pace moment (here s first)) (sym (append-nil later)) goes) (omega arith) long

  goes_before : GoesOnFrom s.group s.clocks s.pace moment (here s first) (l.before ++ l.last ∷ l.later)
  goes_before = subst (GoesOnFrom s.group s.clocks s.pace moment (here s first)) l.split goes

  found_so : OneStandsFirst s.group (here s first) l.before → StandsFirst s.group last (here s first) later
  found_so found = record {
    front = found.front;
    timed = found.timed;
    rest = found.rest ++ l.last ∷ l.later;
    split = l.split ∙ (ap (λ (r : List Timed). r ++ l.last ∷ l.later) found.split
        ∙ append_assoc found.front (found.timed ∷ found.rest) (l.last ∷ l.later));
    soon =
        let within = in_between s.group s.clocks s.pace l.before moment (here s first)
        (calm_first s.group s.clocks s.pace l.before (l.last ∷ l.later) moment (here s first) goes_before) found.timed
        (subst (In found.timed) (sym found.split) (in_middle found.front found.rest found.timed)) in
        let early = l.early in omega (arith, within.1, early);
    nobody = found.nobody;
    c = found.one.c;
    member = found.one.member;
    term = found.one.term;
    stands = found.one.stands;
  }

  -- so is each row behind it
  all_late : (x : Timed) → In x (l.last ∷ l.later) → last < x.at
  all_late x (inl same) = let is = ap (λ (t : Timed). t.at) same in let late = l.late in omega (arith, is, late)
  all_late x (inr i) =
      let v : Cluster = after_rows (here s first) (rows_in l.before) in
      let within = in_between s.group s.clocks s.pace l.later l.last.at (after_row v l.last.row)
      (calm_rest s.group s.clocks s.pace (l.last ∷ []) l.later (end_of moment l.before) v
      (calm_rest s.group s.clocks s.pace l.before (l.last ∷ l.later) moment (here s first) goes_before)) x i in
      let late = l.late in omega (arith, within.0, late)

  pub stands_or_leads : StandsFirst s.group last (here s first) later ⊎ IsLedBy s.group s.clocks s.pace moment last (here s first) later
  stands_or_leads = elim (first_or_nobody s.group s.clocks s.pace l.before (l.last ∷ l.later) goes_before.traffic (here s first) goes_before.calm running) [
    | inl found ↦ inl (found_so found)
    | inr nobody ↦ inr (subst (IsLedBy s.group s.clocks s.pace moment last (here s first)) (sym l.split) (is_led s laws one.0 one.1 (record {
      first = first;
      few = l.before;
      rest = l.last ∷ l.later;
      cut = cut ∙ ap (λ (r : List Timed). first ++ r) l.split;
      settled = settled;
      nobody = nobody;
    }) (let late = l.late in let soon = l.soon in omega (arith, late, soon)) l.early all_late
        (let e = ap (end_of s.start) cut in let both = end_both s.start first later in omega (arith, e, both, long))))
  ]

-- ---- the law

-- it is so in each calm, where each server of a member has its node ID when the rows begin
pub somebody_stands_or_leads : (ids : List ℕ) (rows : List Row) → StepLaws
    → ((p : ℕ) → In p ids → (t : AllocatorState) → ((world_of ids rows).member p).status ≡ Up t → t.me ≡ p) → StandLaws ids rows (world_of ids rows)
    → SomebodyStandsOrLeads ids rows
somebody_stands_or_leads ids rows steps me laws group clocks pace start first later calm settled long = stands_or_leads (record {
  ids = ids;
  rows = rows;
  group = group;
  clocks = clocks;
  pace = pace;
  start = start;
  whole = first ++ later;
  calm = calm;
  steps = steps;
  me = λ p i. me p (calm.listed p i);
}) laws first later refl settled long
