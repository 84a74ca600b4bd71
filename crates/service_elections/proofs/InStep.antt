-- Who stands for election in a term above all others brings all into step; and then one whose log is furthest wins.
use Rattle.std.proofs.Common.{◌≡◌, ℕ, ◌+◌, ◌*◌, ◌<◌, ◌≤◌, arith, List, [], ◌∷◌, ◌++◌, refl, sym, ◌∙◌, ap, subst, inl, inr, append_assoc, append-nil}
use Rattle.std.specs.Prelude.{◌⊎◌}
use Rattle.std.proofs.lemmas.Bool.Decides.{eqb_tells}
use Rattle.raft_model.specs.Lists.{In}
use Rattle.bus_rows.specs.declared.row.Row.{Row}
use Rattle.alloc_spec.specs.AllocatorState.{AllocatorState}
use Rattle.bus_rows.specs.Timed.{Timed, rows_in}
use Rattle.service_alone.specs.Calm.{end_of}
use Rattle.service_calm.specs.Calm.{Member as OfMember}
use Rattle.service_calm.proofs.Pair.{same_server}
use Rattle.service_leader.specs.LeadsOn.{LeadsIn}
use Rattle.service_leader.specs.NoElection.{NoElection}
use Rattle.service_leader.proofs.Stretches.{end_both, end_last}
use Rattle.service_candidate.specs.Elections.{longest_wait}
use Rattle.service_candidate.specs.Terms.{AreWithin}
use Rattle.service_candidate.specs.Votes.{Stands}
use Rattle.service_candidate.proofs.FurthestStands.{furthest_of}
use Rattle.service_candidate.proofs.WinsFronts.{Longest, longest}
use Rattle.service_candidate.proofs.WinsTerms.{front_of_more}
use Rattle.service_elections.specs.Rounds.{WhoStandsAtTheTop, step_within}
use Rattle.service_elections.specs.Running.{IsLedBy, quiet_within}
use Rattle.service_elections.proofs.CalmFronts.{end_before}
use Rattle.service_elections.proofs.InStepApart.{apart}
use Rattle.service_elections.proofs.InStepFronts.{next_cut, row_before, runs_at, term_rises, the_calm, there, there_both, there_more}
use Rattle.service_elections.proofs.InStepGiven.{Given, Ground}
use Rattle.service_elections.proofs.InStepHeard.{is_heard}
use Rattle.service_elections.proofs.InStepLists.{Place, behind_is, none_is, one_more, place_of}
use Rattle.service_elections.proofs.InStepLogs.{Held, held_on}
use Rattle.service_elections.proofs.InStepScene.{IsLedFrom, Scene}
use Rattle.service_elections.proofs.InStepWaits.{Turned, follower_leads, waits}
use Rattle.service_elections.proofs.InStepWalk.{candidate_or_leader, one_row, others_stay, walk}
use Rattle.service_elections.proofs.InStepWins.{IsFar}
use Rattle.bus_spec.specs.Cluster.{Cluster, after_row, after_rows}
use Rattle.bus_spec.specs.Members.{Member}
use Rattle.bus_spec.specs.Members.MemberStatus.{Up}

module _ (g : Ground) (front rest : List Timed) (timed : Timed) (cut : g.whole ≡ front ++ timed ∷ rest) where
  -- who leads behind the row, leads behind it
  pub led_by : (last : ℕ) → IsLedFrom g (front ++ timed ∷ []) last → IsLedBy g.group g.clocks g.pace timed.at last (after_row (there g front) timed.row) rest
  led_by last led = record {
    front = led.more;
    rest = led.rest;
    split = behind_is (front ++ timed ∷ []) rest (led.more ++ led.rest)
        (sym (cut ∙ one_more front rest timed) ∙ (led.split ∙ append_assoc (front ++ timed ∷ []) led.more led.rest));
    soon = let h = led.soon in omega (arith, h, end_is);
    n = led.n;
    member = led.member;
    term = led.term;
    calm = subst (λ (k : ℕ). NoElection g.group g.clocks g.pace k led.n led.term (after_rows (after_row (there g front) timed.row) (rows_in led.more)) led.rest) end_is
        (subst (λ (u : Cluster). NoElection g.group g.clocks g.pace (end_of g.start ((front ++ timed ∷ []) ++ led.more)) led.n led.term u led.rest) world_is led.calm);
  }
    where
      end_is : end_of g.start ((front ++ timed ∷ []) ++ led.more) ≡ end_of timed.at led.more
      end_is = end_both g.start (front ++ timed ∷ []) led.more ∙ ap (λ (k : ℕ). end_of k led.more) (end_last g.start front timed)

      world_is : there g ((front ++ timed ∷ []) ++ led.more) ≡ after_rows (after_row (there g front) timed.row) (rows_in led.more)
      world_is = there_both g (front ++ timed ∷ []) led.more ∙ ap (λ (u : Cluster). after_rows u (rows_in led.more)) (there_more g front timed)

  module _ (c term : ℕ) (in_c : In (OfMember c) g.group) (late : g.start + quiet_within g.pace + 8 * g.pace.delay < timed.at)
      (s : Stands c term (there g front) timed.row) (within : AreWithin g.group s.before.raft_server.store.term (there g front))
      (enough : timed.at + step_within g.pace < end_of timed.at rest) where
    abbrev base : List Timed
    base = front ++ timed ∷ []

    abbrev last : ℕ
    last = timed.at + 2 * (longest_wait + g.pace.period) + 6 * g.pace.delay

    long : timed.at + 2 * (longest_wait + g.pace.period) + 6 * g.pace.delay + 8 * g.pace.delay < end_of g.start g.whole
    long = let e : end_of g.start g.whole ≡ end_of timed.at rest = ap (end_of g.start) cut ∙ end_both g.start front (timed ∷ rest) in omega (arith, e, enough)

    abbrev Led : Type 0
    Led = IsLedFrom g base (last + 8 * g.pace.delay)

    -- ---- where it stands

    never_so : (x y : List Timed) (n its : ℕ) → front ++ timed ∷ [] ≡ x ++ y → In (OfMember n) g.group → LeadsIn n its (there g x) → its < term
    never_so x y n its e i leads = elim (front_of_more x y front timed e) [
      | inl q ↦ here (subst (λ (l : List Timed). LeadsIn n its (there g l)) q leads)
      | inr q ↦
          let is = runs_at g front (timed ∷ rest) cut n i in
          let a = term_rises g x q.0 (timed ∷ rest) (cut ∙ ap (λ (l : List Timed). l ++ timed ∷ rest) q.1) n i leads.server is.server leads.runs
          (subst (λ (l : List Timed). ((there g l).member n).status ≡ Up is.server) q.1 is.up.status) in
          let b = within n i is.server is.up.status in
          let d = leads.its_term in
          let f = s.next in
          omega (arith, a, b, d, f)
    ]
      where
        here : LeadsIn n its (there g (front ++ timed ∷ [])) → its < term
        here then_ =
            let up : ((after_row (there g front) timed.row).member n).status ≡ Up then_.server
            = ap (λ (u : Cluster). (u.member n).status) (sym (there_more g front timed)) ∙ then_.runs in
            elim (eqb_tells c n) [
              | inl z ↦
                  let same = same_server then_.server s.after (sym up ∙ (ap (λ (k : ℕ). ((after_row (there g front) timed.row).member k).status) (sym z.1) ∙ s.runs_then)) in
                  absurd (candidate_or_leader then_.server.raft_server.memory.role (ap (λ (t : AllocatorState). t.raft_server.memory.role) same ∙ s.stands) then_.leads)
              | inr z ↦
                  let b = within n i then_.server (ap (λ (x : Member). x.status) (sym (others_stay (there g front) timed.row c n term s z.1)) ∙ up) in
                  let d = then_.its_term in
                  let f = s.next in
                  omega (arith, b, d, f)
            ]

    first_scene : Scene g base term base
    first_scene = record {
      stood = record {
        first = front;
        one = timed;
        early = [];
        split = sym (append-nil (front ++ timed ∷ []));
        more = [];
        behind = sym (append-nil (front ++ timed ∷ []));
        c = c;
        member = in_c;
        term = term;
        stands = s;
        within = within;
        quiet = λ x y z n its e i k. none_is x y z e;
        above = omega arith;
        floor = inl refl;
        late = late;
      };
      never = never_so;
    }

    -- ---- two delays later

    l : Longest timed.at (timed.at + 2 * g.pace.delay) rest
    l = longest (timed.at + 2 * g.pace.delay) rest timed.at (omega arith)

    abbrev begun : List Timed
    begun = (front ++ timed ∷ []) ++ l.front

    begun_cut : g.whole ≡ ((front ++ timed ∷ []) ++ l.front) ++ l.rest
    begun_cut = cut ∙ (one_more front rest timed ∙ (ap (λ (r : List Timed). (front ++ timed ∷ []) ++ r) l.split
        ∙ sym (append_assoc (front ++ timed ∷ []) l.front l.rest)))

    begun_ends : end_of g.start ((front ++ timed ∷ []) ++ l.front) ≤ timed.at + 2 * g.pace.delay
    begun_ends =
        let e = end_both g.start (front ++ timed ∷ []) l.front ∙ ap (λ (k : ℕ). end_of k l.front) (end_last g.start front timed) in
        let h = l.soon in omega (arith, e, h)

    -- who stood by then stood no later
    fresh : (x y : List Timed) (z : Timed) (n its : ℕ) → (front ++ timed ∷ []) ++ l.front ≡ x ++ z ∷ y → In (OfMember n) g.group → Stands n its (there g x) z.row
        → z.at ≤ timed.at
    fresh x y z n its e i o = by (place_of front l.front x y timed z e)
      where
        by : Place front l.front x y timed z → z.at ≤ timed.at
        by (Place.Before tail a) =
            let h = row_before g x tail (timed ∷ rest) z (cut ∙ ap (λ (r : List Timed). r ++ timed ∷ rest) a) in
            let k = end_before (the_calm g) front rest timed cut in
            let d = ap (end_of g.start) a in omega (arith, h, k, d)
        by (Place.Same a b) = let d = ap (λ (q : Timed). q.at) b in omega (arith, d)
        by (Place.Behind tail a b) =
            let gap = apart g front tail (y ++ l.rest) timed z c n term its
            (begun_cut ∙ (ap (λ (r : List Timed). ((front ++ timed ∷ []) ++ r) ++ l.rest) a
            ∙ (ap (λ (r : List Timed). r ++ l.rest) (sym (append_assoc (front ++ timed ∷ []) tail (z ∷ y)))
            ∙ append_assoc ((front ++ timed ∷ []) ++ tail) (z ∷ y) l.rest))) in_c i s
            (subst (λ (r : List Timed). Stands n its (there g r) z.row) b o) in
            let h = row_before g x y l.rest z (begun_cut ∙ ap (λ (r : List Timed). r ++ l.rest) e) in
            let d = ap (end_of g.start) e in
            let k = begun_ends in
            absurd (omega (arith, gap, h, d, k))

    -- the rows behind are later
    later : (x y : List Timed) (z : Timed) → g.whole ≡ (((front ++ timed ∷ []) ++ l.front) ++ x) ++ z ∷ y → timed.at + 2 * g.pace.delay < z.at
    later x y z e = by x e (behind_is ((front ++ timed ∷ []) ++ l.front) l.rest (x ++ z ∷ y)
        (sym begun_cut ∙ (e ∙ append_assoc ((front ++ timed ∷ []) ++ l.front) x (z ∷ y))))
      where
        by : (x : List Timed) → g.whole ≡ (((front ++ timed ∷ []) ++ l.front) ++ x) ++ z ∷ y → l.rest ≡ x ++ z ∷ y → timed.at + 2 * g.pace.delay < z.at
        by [] f is = l.late z y is
        by (v ∷ x) f is =
            let a = l.late v (x ++ z ∷ y) is in
            let b = row_before g ((front ++ timed ∷ []) ++ l.front) x (z ∷ y) v f in
            let d = end_before (the_calm g) (((front ++ timed ∷ []) ++ l.front) ++ v ∷ x) y z f in
            omega (arith, a, b, d)

    module _ (next : Timed) (more : List Timed) (is_rest : l.rest ≡ next ∷ more) (scene : Scene g base term begun) where
      heard : (m : ℕ) (server : AllocatorState) → In (OfMember m) g.group → ((there g ((front ++ timed ∷ []) ++ l.front)).member m).status ≡ Up server
          → term ≤ server.raft_server.store.term
      heard m server i up = is_heard g front l.front more timed next
          (cut ∙ ap (λ (r : List Timed). front ++ timed ∷ r) (l.split ∙ ap (λ (r : List Timed). l.front ++ r) is_rest)) (l.late next more is_rest)
          (let h = long in omega (arith, h)) c term in_c s m server i
          (subst (λ (r : List Timed). ((there g r).member m).status ≡ Up server) (append_assoc front (timed ∷ []) l.front) up)

      held : Held g base term last long begun begun
      held = record {
        scene = scene;
        high = heard;
        logs = λ m before after i up up_then. ap (λ (t : AllocatorState). t.raft_server.store.log) (same_server after before (sym up_then ∙ up));
      }

      abbrev far : (f : ℕ) × In (OfMember f) g.group × IsFar g base term last long begun l.rest begun_cut f
      far = furthest_of g.group (there g begun) c in_c

      nil : (begun ++ []) ≡ begun
      nil = append-nil begun

      held_first : Held g base term last long begun (begun ++ [])
      held_first = subst (Held g base term last long begun) (sym nil) held

      cut_first : g.whole ≡ (begun ++ []) ++ l.rest
      cut_first = begun_cut ∙ ap (λ (r : List Timed). r ++ l.rest) (sym nil)

      -- where it came to follow, it waits once more
      once_more : Turned g base term last long begun l.rest begun_cut held timed.at fresh later far.0 far.1 far.2
          (end_of g.start (begun ++ []) + longest_wait + g.pace.period) (begun ++ []) → Led
      once_more t = elim (one_row g base term last long ((begun ++ []) ++ t.few) t.rest t.timed t.held_there.scene t.cut in_time) [
        | inl led ↦ led
        | inr then_ ↦ follower_leads g base term last long begun l.rest begun_cut held timed.at fresh later far.0 far.1 far.2 (t.few ++ t.timed ∷ []) t.rest cut_then
            (subst (Held g base term last long begun) front_is (held_on g base term last long begun ((begun ++ []) ++ t.few) t.rest t.timed t.held_there t.cut then_))
            soon_then t.after (subst (λ (r : List Timed). ((there g r).member far.0).status ≡ Up t.after) front_is t.runs_then) t.follows
      ]
        where
          ends_is : end_of g.start (begun ++ []) ≡ end_of g.start begun
          ends_is = ap (end_of g.start) nil

          in_time : t.timed.at ≤ last
          in_time = let a = t.soon in let b = begun_ends in let d = ends_is in omega (arith, a, b, d)

          front_is : ((begun ++ []) ++ t.few) ++ t.timed ∷ [] ≡ begun ++ (t.few ++ t.timed ∷ [])
          front_is = ap (λ (r : List Timed). (r ++ t.few) ++ t.timed ∷ []) nil ∙ append_assoc begun t.few (t.timed ∷ [])

          cut_then : g.whole ≡ (begun ++ (t.few ++ t.timed ∷ [])) ++ t.rest
          cut_then = next_cut g ((begun ++ []) ++ t.few) t.rest t.timed t.cut ∙ ap (λ (r : List Timed). r ++ t.rest) front_is

          soon_then : end_of g.start (begun ++ (t.few ++ t.timed ∷ [])) + longest_wait + g.pace.period + 4 * g.pace.delay ≤ last
          soon_then =
              let e : end_of g.start (begun ++ (t.few ++ t.timed ∷ [])) ≡ t.timed.at
              = ap (end_of g.start) (sym front_is) ∙ end_last g.start ((begun ++ []) ++ t.few) t.timed in
              let a = t.soon in let b = begun_ends in let d = ends_is in omega (arith, e, a, b, d)

      from_begun : Led
      from_begun = elim (waits g base term last long begun l.rest begun_cut held timed.at fresh later far.0 far.1 far.2 [] l.rest cut_first held_first
          (let e = ap (end_of g.start) nil in let b = begun_ends in omega (arith, e, b))) [
            | inl led ↦ led
            | inr turned ↦ once_more turned
          ]

    by_rest : (r : List Timed) → l.rest ≡ r → Led ⊎ Scene g base term begun → Led
    by_rest r e (inl led) = led
    by_rest [] e (inr scene) =
        let f = ap (end_of timed.at) (l.split ∙ (ap (λ (q : List Timed). l.front ++ q) e ∙ append-nil l.front)) in
        let h = l.soon in absurd (omega (arith, f, h, enough))
    by_rest (next ∷ more) e (inr scene) = from_begun next more e scene

    pub leads_in_time : IsLedBy g.group g.clocks g.pace timed.at (timed.at + step_within g.pace) (after_row (there g front) timed.row) rest
    leads_in_time = led_by (timed.at + step_within g.pace) (subst (IsLedFrom g base) last_is
        (by_rest l.rest refl (walk g base term last long base l.front l.rest first_scene begun_cut (let b = begun_ends in omega (arith, b)))))
      where
        last_is : timed.at + 2 * (longest_wait + g.pace.period) + 6 * g.pace.delay + 8 * g.pace.delay ≡ timed.at + step_within g.pace
        last_is = omega arith

-- the law
pub who_stands_at_the_top : (ids : List ℕ) (rows : List Row) → Given ids rows → WhoStandsAtTheTop ids rows
who_stands_at_the_top ids rows given group clocks pace start c term front rest timed calm in_c late s within enough = leads_in_time (record {
  ids = ids;
  rows = rows;
  given = given;
  group = group;
  clocks = clocks;
  pace = pace;
  start = start;
  whole = front ++ timed ∷ rest;
  calm = calm;
}) front rest timed refl c term in_c late s within enough
