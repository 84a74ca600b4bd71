-- From row to row: who stands stands above all terms, and who comes to lead stood last, and leads the group.
use Rattle.std.proofs.Common.{◌≡◌, ◌≢◌, ℕ, ◌+◌, ◌*◌, ◌<◌, ◌≤◌, arith, List, [], ◌∷◌, ◌++◌, refl, sym, ◌∙◌, ap, subst, inl, inr, append_assoc, append-nil}
use Rattle.std.specs.Prelude.{◌⊎◌}
use Rattle.std.proofs.lemmas.Bool.Decides.{eqb_tells, leb_tells}
use Rattle.raft_model.specs.Lists.{In, at_other}
use Rattle.raft_model.specs.Server.{Role}
use Rattle.raft_model.specs.Server.Role.{Candidate, Follower, Leader}
use Rattle.bus_rows.specs.declared.row.Row.{Row}
use Rattle.alloc_spec.specs.AllocatorState.{AllocatorState}
use Rattle.bus_rows.specs.Timed.{Timed, rows_in}
use Rattle.service_alone.specs.Calm.{end_of}
use Rattle.service_calm.specs.Calm.{Member as OfMember}
use Rattle.service_calm.proofs.Pair.{same_server}
use Rattle.service_leader.specs.CallsComeBack.{LeadsNotIfUp}
use Rattle.service_leader.specs.LeadsOn.{LeadsIn}
use Rattle.service_leader.specs.NoElection.{NoElection}
use Rattle.service_leader.proofs.Stretches.{end_both, end_last}
use Rattle.service_candidate.specs.Votes.{Stands}
use Rattle.service_candidate.proofs.OneStands.{NoneStands, OneStands, one_stands}
use Rattle.service_candidate.proofs.WinsFronts.{part_of}
use Rattle.service_candidate.proofs.WinsTerms.{front_of_more, leads_or_not}
use Rattle.service_elections.specs.Running.{IsLedBy}
use Rattle.service_elections.specs.Sent.{HasAsked}
use Rattle.service_elections.proofs.CalmFronts.{end_before}
use Rattle.service_elections.proofs.InStepApart.{apart, one_stander}
use Rattle.service_elections.proofs.InStepFronts.{calm_at, decided, next_cut, row_before, runs_at, term_rises, the_calm, there, there_both, there_more, w0}
use Rattle.service_elections.proofs.InStepGiven.{Ground}
use Rattle.service_elections.proofs.InStepLists.{none_is, one_is, one_more}
use Rattle.service_elections.proofs.InStepScene.{IsLedFrom, Scene, Stood, free_at, is_the_last, own_term, reached, within_term}
use Rattle.bus_spec.specs.Cluster.{Cluster, after_row, after_rows, tick_of}
use Rattle.bus_spec.specs.Members.{Member, member_after_step}
use Rattle.bus_spec.specs.Members.MemberStatus.{Up}

-- who stands leaves the others as they are
pub others_stay : (w : Cluster) (row : Row) (p n term : ℕ) → Stands p term w row → p ≢ n → (after_row w row).member n ≡ w.member n
others_stay w row p n term s differs = subst (λ (r : Row). (after_row w r).member n ≡ w.member n) (sym s.reads)
    (at_other w.member p n (member_after_step (w.rows + 1) (tick_of s.ms s.word) (w.member p).status (w.member p)) (λ e. differs (sym e)))

pub candidate_or_leader : (role : Role) → role ≡ Candidate → role ≡ Leader → ⊥
candidate_or_leader role e f = cc (sym e ∙ f)

follower_or_leader : (role : Role) → role ≡ Follower → role ≡ Leader → ⊥
follower_or_leader role e f = cc (sym e ∙ f)

module _ (g : Ground) where
  -- who leads behind a row, leads from there on
  pub led_from : (base more first rest : List Timed) (one : Timed) (last : ℕ) → g.whole ≡ first ++ one ∷ rest → first ++ one ∷ [] ≡ base ++ more
      → IsLedBy g.group g.clocks g.pace one.at last (after_row (there g first) one.row) rest → IsLedFrom g base last
  led_from base more first rest one last cut behind led = record {
    more = more ++ led.front;
    rest = led.rest;
    split = cut ∙ (one_more first rest one ∙ (ap (λ (l : List Timed). (first ++ one ∷ []) ++ l) led.split
        ∙ (sym (append_assoc (first ++ one ∷ []) led.front led.rest) ∙ ap (λ (l : List Timed). l ++ led.rest) front_is)));
    soon = let h = led.soon in omega (arith, end_is, h);
    n = led.n;
    member = led.member;
    term = led.term;
    calm = subst (λ (k : ℕ). NoElection g.group g.clocks g.pace k led.n led.term (there g (base ++ (more ++ led.front))) led.rest) (sym end_is)
        (subst (λ (u : Cluster). NoElection g.group g.clocks g.pace (end_of one.at led.front) led.n led.term u led.rest) world_is led.calm);
  }
    where
      front_is : (first ++ one ∷ []) ++ led.front ≡ base ++ (more ++ led.front)
      front_is = ap (λ (l : List Timed). l ++ led.front) behind ∙ append_assoc base more led.front

      end_is : end_of g.start (base ++ (more ++ led.front)) ≡ end_of one.at led.front
      end_is = ap (end_of g.start) (sym front_is) ∙ (end_both g.start (first ++ one ∷ []) led.front ∙ ap (λ (k : ℕ). end_of k led.front) (end_last g.start first one))

      world_is : after_rows (after_row (there g first) one.row) (rows_in led.front) ≡ there g (base ++ (more ++ led.front))
      world_is = ap (λ (u : Cluster). after_rows u (rows_in led.front)) (sym (there_more g first one))
          ∙ (sym (there_both g (first ++ one ∷ []) led.front) ∙ ap (λ (l : List Timed). there g l) front_is)

  -- so it is by a later moment
  pub led_later : (base : List Timed) (last later : ℕ) → last ≤ later → IsLedFrom g base last → IsLedFrom g base later
  led_later base last later low led = record {
    more = led.more;
    rest = led.rest;
    split = led.split;
    soon = let h = led.soon in omega (arith, h, low);
    n = led.n;
    member = led.member;
    term = led.term;
    calm = led.calm;
  }

  module _ (base : List Timed) (top last : ℕ) (long : last + 8 * g.pace.delay < end_of g.start g.whole) where
    module _ (front rest : List Timed) (timed : Timed) (s : Scene g base top front) (cut : g.whole ≡ front ++ timed ∷ rest) (soon : timed.at ≤ last) where
      abbrev d : Stood g base top front
      d = s.stood

      -- the rows go on behind `base`
      pub behind_on : front ++ timed ∷ [] ≡ base ++ (d.more ++ (d.early ++ timed ∷ []))
      behind_on = ap (λ (l : List Timed). l ++ timed ∷ []) d.split ∙ (append_assoc (d.first ++ d.one ∷ []) d.early (timed ∷ [])
          ∙ (ap (λ (l : List Timed). l ++ (d.early ++ timed ∷ [])) d.behind ∙ append_assoc base d.more (d.early ++ timed ∷ [])))

      -- and the last one stood before the row
      pub one_before : d.one.at ≤ timed.at
      one_before =
          let h = row_before g d.first d.early (timed ∷ rest) d.one
          (cut ∙ ap (λ (l : List Timed). l ++ timed ∷ rest) (d.split ∙ append_assoc d.first (d.one ∷ []) d.early)) in
          let k = end_before (the_calm g) front rest timed cut in
          let e = ap (end_of g.start) (d.split ∙ append_assoc d.first (d.one ∷ []) d.early) in
          omega (arith, h, k, e)

      -- ---- somebody stands in the row

      module _ (o : OneStands g.group (there g front) timed.row) where
        pub gap : d.one.at + 8 * g.pace.delay < timed.at
        gap = apart g d.first d.early rest d.one timed d.c o.n d.term o.term (cut ∙ ap (λ (l : List Timed). l ++ timed ∷ rest) d.split) d.member o.member d.stands
            (subst (λ (l : List Timed). Stands o.n o.term (there g l) timed.row) d.split o.stands)

        pub all_reached : (m : ℕ) (server : AllocatorState) → In (OfMember m) g.group → ((there g front).member m).status ≡ Up server → d.term ≤ server.raft_server.store.term
        all_reached = reached g base top front d rest timed cut (let h = gap in omega (arith, h)) (let a = one_before in omega (arith, a, soon, long))

        never_here : (n its : ℕ) → In (OfMember n) g.group → LeadsIn n its (there g (front ++ timed ∷ [])) → its < top
        never_here n its i leads = elim (eqb_tells o.n n) [
          | inl z ↦
              let same = same_server leads.server o.stands.after
              (sym up ∙ (ap (λ (k : ℕ). ((after_row (there g front) timed.row).member k).status) (sym z.1) ∙ o.stands.runs_then)) in
              absurd (candidate_or_leader leads.server.raft_server.memory.role (ap (λ (t : AllocatorState). t.raft_server.memory.role) same ∙ o.stands.stands) leads.leads)
          | inr z ↦ s.never front [] n its (sym (append-nil front)) i (record {
            server = leads.server;
            runs = ap (λ (x : Member). x.status) (sym (others_stay (there g front) timed.row o.n n o.term o.stands z.1)) ∙ up;
            leads = leads.leads;
            its_term = leads.its_term;
          })
        ]
          where
            up : ((after_row (there g front) timed.row).member n).status ≡ Up leads.server
            up = ap (λ (u : Cluster). (u.member n).status) (sym (there_more g front timed)) ∙ leads.runs

        -- it stands above all
        pub scene_stood : Scene g base top (front ++ timed ∷ [])
        scene_stood = record {
          stood = record {
            first = front;
            one = timed;
            early = [];
            split = sym (append-nil (front ++ timed ∷ []));
            more = d.more ++ (d.early ++ timed ∷ []);
            behind = behind_on;
            c = o.n;
            member = o.member;
            term = o.term;
            stands = o.stands;
            within = λ m i server up.
                let a = within_term g base top front d (timed ∷ rest) cut m i server up in
                let b = all_reached o.n o.stands.before o.member o.stands.runs in omega (arith, a, b);
            quiet = λ x y z n its e i k. none_is x y z e;
            above = let b = all_reached o.n o.stands.before o.member o.stands.runs in let e = o.stands.next in let a = d.above in omega (arith, a, b, e);
            floor = inr (λ m server i up. let h = all_reached m server i up in let a = d.above in omega (arith, h, a));
            late = let h = gap in let l = d.late in omega (arith, h, l);
          };
          never = λ x y n its e i leads. elim (front_of_more x y front timed e) [
            | inl q ↦ never_here n its i (subst (λ (l : List Timed). LeadsIn n its (there g l)) q leads)
            | inr q ↦ s.never x q.0 n its q.1 i leads
          ];
        }

      -- ---- nobody stands in it

      module _ (none : NoneStands g.group (there g front) timed.row) where
        quiet_on : (x y : List Timed) (z : Timed) (n its : ℕ) → d.early ++ timed ∷ [] ≡ x ++ z ∷ y → In (OfMember n) g.group
            → Stands n its (there g ((d.first ++ d.one ∷ []) ++ x)) z.row → ⊥
        quiet_on x y z n its e i o = elim (part_of d.early (timed ∷ []) x y z e) [
          | inl p ↦ d.quiet x p.0 z n its p.1 i o
          | inr p ↦
              let is = one_is p.0 y z timed p.1 in
              let x_is : x ≡ d.early = p.2 ∙ (ap (λ (l : List Timed). d.early ++ l) is.0 ∙ append-nil d.early) in
              none n its i (subst (λ (q : Timed). Stands n its (there g front) q.row) (sym is.1)
              (subst (λ (l : List Timed). Stands n its (there g l) z.row) (ap (λ (l : List Timed). (d.first ++ d.one ∷ []) ++ l) x_is ∙ sym d.split) o))
        ]

        -- it is the last one that stood behind the row too
        abbrev then_stood : Stood g base top (front ++ timed ∷ [])
        then_stood = record {
          first = d.first;
          one = d.one;
          early = d.early ++ timed ∷ [];
          split = ap (λ (l : List Timed). l ++ timed ∷ []) d.split ∙ append_assoc (d.first ++ d.one ∷ []) d.early (timed ∷ []);
          more = d.more;
          behind = d.behind;
          c = d.c;
          member = d.member;
          term = d.term;
          stands = d.stands;
          within = d.within;
          quiet = quiet_on;
          above = d.above;
          floor = d.floor;
          late = d.late;
        }

        module _ (n its : ℕ) (i : In (OfMember n) g.group) (leads : LeadsIn n its (there g (front ++ timed ∷ []))) (high : top ≤ its) where
          up : ((after_row (there g front) timed.row).member n).status ≡ Up leads.server
          up = ap (λ (u : Cluster). (u.member n).status) (sym (there_more g front timed)) ∙ leads.runs

          -- it did not lead before
          led_not : LeadsNotIfUp n (there g front)
          led_not t up_t role = elim (eqb_tells d.c n) [
            | inl z ↦
                let a = own_term g base top front d (timed ∷ rest) cut t (ap (λ (k : ℕ). ((there g front).member k).status) z.1 ∙ up_t) in
                let b = d.above in omega (arith, a, b, low)
            | inr z ↦ elim d.floor [
              | inl e ↦ elim (free_at g base top (front ++ timed ∷ []) then_stood rest (next_cut g front rest timed cut) n i (λ f. z.1 (sym f)) leads.server leads.runs) [
                | inl below ↦ let k = leads.its_term in omega (arith, below, e, k, high)
                | inr is ↦ follower_or_leader leads.server.raft_server.memory.role is.1 leads.leads
              ]
              | inr all ↦
                  let at_first = runs_at g d.first (d.one ∷ (d.early ++ timed ∷ rest)) cut_first n i in
                  let a = all n at_first.server i at_first.up.status in
                  let b = term_rises g d.first (d.one ∷ d.early) (timed ∷ rest) (cut ∙ ap (λ (l : List Timed). l ++ timed ∷ rest) front_is) n i at_first.server t
                  at_first.up.status (subst (λ (l : List Timed). ((there g l).member n).status ≡ Up t) front_is up_t) in
                  omega (arith, a, b, low)
            ]
          ]
            where
              low : t.raft_server.store.term < top
              low = s.never front [] n t.raft_server.store.term (sym (append-nil front)) i (record { server = t; runs = up_t; leads = role; its_term = refl })

              front_is : front ≡ d.first ++ (d.one ∷ d.early)
              front_is = d.split ∙ append_assoc d.first (d.one ∷ []) d.early

              cut_first : g.whole ≡ d.first ++ (d.one ∷ (d.early ++ timed ∷ rest))
              cut_first = cut ∙ (ap (λ (l : List Timed). l ++ timed ∷ rest) front_is ∙ append_assoc d.first (d.one ∷ d.early) (timed ∷ rest))

          abbrev asked : HasAsked g.group n leads.server.raft_server.store.term timed.at (4 * g.pace.delay) (w0 g) front
          asked = g.given.wins_asked g.group g.clocks g.pace g.start n front rest timed leads.server (calm_at g front (timed ∷ rest) cut) i led_not up leads.leads

          stood_then : (t : ℕ) × Stands n t (there g asked.front) asked.timed.row
          stood_then = g.given.asks g.group g.clocks g.pace g.start n asked.m asked.front (asked.rest ++ timed ∷ rest) asked.timed
              (calm_at g asked.front (asked.timed ∷ (asked.rest ++ timed ∷ rest))
              (cut ∙ (ap (λ (l : List Timed). l ++ timed ∷ rest) asked.split ∙ append_assoc asked.front (asked.timed ∷ asked.rest) (timed ∷ rest))))
              i asked.member (let a = asked.lately in let b = one_before in let c = d.late in omega (arith, a, b, c)) asked.asks

          place : (asked.front ≡ d.first) × (asked.timed ≡ d.one)
          place = is_the_last g base top front d asked.front asked.rest (timed ∷ rest) asked.timed n stood_then.0 cut asked.split i stood_then.1
              (let a = asked.lately in let b = one_before in omega (arith, a, b))

          stands_there : Stands n stood_then.0 (there g d.first) d.one.row
          stands_there = subst (λ (q : Timed). Stands n stood_then.0 (there g d.first) q.row) place.1
              (subst (λ (l : List Timed). Stands n stood_then.0 (there g l) asked.timed.row) place.0 stood_then.1)

          -- so it is the one that stood last, and leads in its term
          pub is_the_one : (n ≡ d.c) × (its ≡ d.term) × (timed.at ≤ d.one.at + 4 * g.pace.delay)
          is_the_one = (
            one_stander n d.c stood_then.0 d.term (there g d.first) d.one.row stands_there d.stands,
            let a = leads.its_term in
                let b = asked.its_term in
                let c = ap (λ (t : AllocatorState). t.raft_server.store.term) (same_server asked.server stood_then.1.after (sym asked.runs ∙ stood_then.1.runs_then)) in
                let e = stood_then.1.its_term in
                let f = one_stands n d.c stood_then.0 d.term (there g d.first) d.one.row stands_there d.stands in
                omega (arith, a, b, c, e, f),
            let a = asked.lately in let b = ap (λ (q : Timed). q.at) place.1 in omega (arith, a, b),
          )

        -- where c leads it leads the group
        led : LeadsIn d.c d.term (there g (front ++ timed ∷ [])) → timed.at ≤ d.one.at + 4 * g.pace.delay → IsLedFrom g base (last + 8 * g.pace.delay)
        led leads quick = led_later base (d.one.at + 8 * g.pace.delay) (last + 8 * g.pace.delay) (let a = one_before in omega (arith, a, soon))
            (led_from base d.more d.first ((d.early ++ timed ∷ []) ++ rest) d.one (d.one.at + 8 * g.pace.delay) cut_one d.behind
            (g.given.top_wins g.group g.clocks g.pace g.start d.c d.term d.first (d.early ++ timed ∷ []) rest d.one
            (calm_at g d.first (d.one ∷ ((d.early ++ timed ∷ []) ++ rest)) cut_one) d.member d.stands d.within
            (let e = end_last d.one.at d.early timed in omega (arith, e, quick))
            (subst (LeadsIn d.c d.term) world_is leads)
            (let e = ends in let a = one_before in omega (arith, e, a, soon, long))))
          where
            cut_one : g.whole ≡ d.first ++ d.one ∷ ((d.early ++ timed ∷ []) ++ rest)
            cut_one = cut ∙ (ap (λ (l : List Timed). l ++ timed ∷ rest) d.split ∙ (append_assoc (d.first ++ d.one ∷ []) d.early (timed ∷ rest)
                ∙ (append_assoc d.first (d.one ∷ []) (d.early ++ timed ∷ rest) ∙ ap (λ (l : List Timed). d.first ++ d.one ∷ l) (one_more d.early rest timed))))

            ends : end_of g.start g.whole ≡ end_of d.one.at ((d.early ++ timed ∷ []) ++ rest)
            ends = ap (end_of g.start) cut_one ∙ end_both g.start d.first (d.one ∷ ((d.early ++ timed ∷ []) ++ rest))

            world_is : there g (front ++ timed ∷ []) ≡ after_rows (after_row (there g d.first) d.one.row) (rows_in (d.early ++ timed ∷ []))
            world_is = ap (λ (l : List Timed). there g l) then_stood.split ∙ (there_both g (d.first ++ d.one ∷ []) (d.early ++ timed ∷ [])
                ∙ ap (λ (u : Cluster). after_rows u (rows_in (d.early ++ timed ∷ []))) (there_more g d.first d.one))

        -- where it does not, nobody does
        unled : ((leads : LeadsIn d.c d.term (there g (front ++ timed ∷ []))) → timed.at ≤ d.one.at + 4 * g.pace.delay → ⊥) → Scene g base top (front ++ timed ∷ [])
        unled not_led = record {
          stood = then_stood;
          never = λ x y n its e i leads. elim (front_of_more x y front timed e) [
            | inr q ↦ s.never x q.0 n its q.1 i leads
            | inl q ↦ elim (leb_tells top its) [
              | inr z ↦ z.1
              | inl z ↦ absurd (by n its i (subst (λ (l : List Timed). LeadsIn n its (there g l)) q leads) z.1)
            ]
          ];
        }
          where
            by : (n its : ℕ) → In (OfMember n) g.group → LeadsIn n its (there g (front ++ timed ∷ [])) → top ≤ its → ⊥
            by n its i leads high =
                let is = is_the_one n its i leads high in
                not_led (subst (λ (k : ℕ). LeadsIn k d.term (there g (front ++ timed ∷ []))) is.0
                (subst (λ (k : ℕ). LeadsIn n k (there g (front ++ timed ∷ []))) is.1 leads)) is.2

        pub quiet_row : IsLedFrom g base (last + 8 * g.pace.delay) ⊎ Scene g base top (front ++ timed ∷ [])
        quiet_row =
            let is = runs_at g (front ++ timed ∷ []) rest (next_cut g front rest timed cut) d.c d.member in
            elim (leads_or_not is.server.raft_server.memory.role) [
              | inr no_leader ↦ inr (unled (λ leads quick. no_leader
                  (ap (λ (t : AllocatorState). t.raft_server.memory.role) (same_server is.server leads.server (sym is.up.status ∙ leads.runs)) ∙ leads.leads)))
              | inl leader ↦ elim (leb_tells timed.at (d.one.at + 4 * g.pace.delay)) [
                | inr z ↦ inr (unled (λ leads quick. let l = z.1 in omega (arith, l, quick)))
                | inl z ↦ inl (led (record {
                  server = is.server;
                  runs = is.up.status;
                  leads = leader;
                  its_term =
                      let a = within_term g base top (front ++ timed ∷ []) then_stood rest (next_cut g front rest timed cut) d.c d.member is.server is.up.status in
                      let b = own_term g base top (front ++ timed ∷ []) then_stood rest (next_cut g front rest timed cut) is.server is.up.status in
                      omega (arith, a, b);
                }) z.1)
              ]
            ]

      -- ---- one row

      pub one_row : IsLedFrom g base (last + 8 * g.pace.delay) ⊎ Scene g base top (front ++ timed ∷ [])
      one_row = elim (decided g front rest timed cut) [
        | inl o ↦ inr (scene_stood o)
        | inr none ↦ quiet_row none
      ]

    -- ---- all rows

    pub walk : (front more rest : List Timed) → Scene g base top front → g.whole ≡ (front ++ more) ++ rest → end_of g.start (front ++ more) ≤ last
        → IsLedFrom g base (last + 8 * g.pace.delay) ⊎ Scene g base top (front ++ more)
    walk front [] rest s cut soon = inr (subst (Scene g base top) (sym (append-nil front)) s)
    walk front (timed ∷ more) rest s cut soon = elim (one_row front (more ++ rest) timed s (cut ∙ append_assoc front (timed ∷ more) rest)
        (let h = row_before g front more rest timed cut in omega (arith, h, soon))) [
          | inl led ↦ inl led
          | inr next ↦ elim (walk (front ++ timed ∷ []) more rest next (cut ∙ ap (λ (l : List Timed). l ++ rest) (one_more front more timed))
              (let e = ap (end_of g.start) (one_more front more timed) in omega (arith, e, soon))) [
                | inl led ↦ inl led
                | inr then_ ↦ inr (subst (Scene g base top) (sym (one_more front more timed)) then_)
              ]
        ]
