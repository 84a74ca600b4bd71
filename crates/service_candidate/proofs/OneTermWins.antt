-- One of those whose log is furthest stands for the first time; it wins, or somebody leads.
use Rattle.std.proofs.Common.{◌≡◌, ℕ, ◌+◌, ◌*◌, ◌<◌, ◌≤◌, arith, List, [], ◌∷◌, ◌++◌, length, refl, sym, ◌∙◌, ap, subst, inl, inr, append_assoc}
use Rattle.std.specs.Prelude.{◌⊎◌}
use Rattle.std.proofs.lemmas.Bool.Decides.{leb_tells}
use Rattle.raft_model.specs.Lists.{In}
use Rattle.raft_model.specs.Server.Role.{Follower}
use Rattle.bus_rows.specs.declared.row.Row.{Row}
use Rattle.alloc_spec.specs.AllocatorState.{AllocatorState}
use Rattle.alloc_spec.specs.Step.{Event, step}
use Rattle.bus_agreement.proofs.Concatenations.{first_harmless}
use Rattle.service_steps.specs.InTime.{FramesLeaveFollowers}
use Rattle.bus_rows.specs.Timed.{Timed, rows_in}
use Rattle.service_alone.specs.Calm.{Pace, end_of}
use Rattle.service_calm.specs.Calls.{Lists}
use Rattle.service_calm.specs.Calm.{AreCalm, Member as OfMember, Party, no_traffic}
use Rattle.service_calm.specs.Comes.{Throughout}
use Rattle.service_calm.proofs.Calls.{Always}
use Rattle.service_calm.proofs.CallsKept.{further}
use Rattle.service_calm.proofs.Pair.{same_server}
use Rattle.service_leader.specs.CallsComeBack.{LeadsNotIfUp}
use Rattle.service_leader.proofs.Stretches.{end_last, rows_both, throughout_front, world_both}
use Rattle.service_candidate.specs.Elections.{AMemberStands, FurthestStands, IsCalmRestart, IsFurthest, SomebodyLeads, WinsInOneTerm}
use Rattle.service_candidate.specs.Terms.{AreWithin, LogsStay, NoAppendsCome, NobodyLeads}
use Rattle.service_candidate.specs.Votes.{Stands}
use Rattle.service_candidate.specs.Wins.{LeadsAlone, WhoStandsAloneWins}
use Rattle.service_candidate.proofs.ElectionsEnd.{behind, opened, standing}
use Rattle.service_candidate.proofs.FirstToStand.{AllFollow}
use Rattle.service_candidate.proofs.Furthest.{holds_behind, one_more}
use Rattle.service_candidate.proofs.Unled.{Goes, Leads, ends_before, follower_or_stood, nobody_or_led, nobody_or_one, size_kept}
use Rattle.service_candidate.proofs.WhoAsks.{AskedNobody, who_follows_asks_nobody}
use Rattle.bus_spec.specs.Cluster.{Cluster, after_row, after_rows, world_of}
use Rattle.bus_spec.specs.Lawful.{DoNoHarm}
use Rattle.bus_spec.specs.Members.MemberStatus.{Up}

-- ---- lists

head_is : (a b : Timed) (x y : List Timed) → a ∷ x ≡ b ∷ y → a ≡ b
head_is a b x y e = cc e

tail_is : (a b : Timed) (x y : List Timed) → a ∷ x ≡ b ∷ y → x ≡ y
tail_is a b x y e = cc e

empty : (front rest : List Timed) (timed : Timed) → [] ≡ front ++ timed ∷ rest → ⊥
empty [] rest timed e = cc e
empty (y ∷ front) rest timed e = cc e

-- ---- the first row in which a member stands

-- member m alone, as a group, follows
follows_alone : (m : ℕ) (w : Cluster) (t : AllocatorState) → (w.member m).status ≡ Up t → t.raft_server.memory.role ≡ Follower → AllFollow (OfMember m ∷ []) w
follows_alone m w t up role p i = elim i [
  | inl e ↦ subst (λ (j : ℕ). (s : AllocatorState) × ((w.member j).status ≡ Up s) × (s.raft_server.memory.role ≡ Follower)) (sym (member_is p m e)) (t, up, role)
  | inr j ↦ absurd j
]
  where
    member_is : (a b : ℕ) → OfMember a ≡ OfMember b → a ≡ b
    member_is a b e = cc e

-- in one of these rows member m stands, and it follows before
pub record FirstStood (m : ℕ) (w : Cluster) (front : List Timed) : Type 0 where
  pub first : List Timed
  pub timed : Timed
  pub more : List Timed
  pub split : front ≡ first ++ timed ∷ more
  pub term : ℕ
  pub stands : Stands m term (after_rows w (rows_in first)) timed.row
  pub followed : Throughout (AllFollow (OfMember m ∷ [])) w first
  pub follow : AllFollow (OfMember m ∷ []) (after_rows w (rows_in first))

module _ (keeps_size : (t : AllocatorState) (number : ℕ) (event : Event) → (step t number event).step_state.allocator.size ≡ t.size)
    (frames_leave : FramesLeaveFollowers) (size : ℕ) (many : 2 ≤ size) (group : List Party) (clocks : Party → ℕ) (pace : Pace) (m : ℕ) where
  -- who followed when the rows began stands in one of them for the first time, or follows on
  pub first_or_follows : (front rest : List Timed) (w : Cluster) → (goes : Goes keeps_size frames_leave size many group clocks pace m w (front ++ rest))
      → DoNoHarm w (rows_in front) → goes.runs.server.raft_server.memory.role ≡ Follower
      → FirstStood m w front ⊎ (Throughout (AllFollow (OfMember m ∷ [])) w front × AllFollow (OfMember m ∷ []) (after_rows w (rows_in front)))
  first_or_follows [] rest w goes harm role = inr (tt, follows_alone m w goes.runs.server goes.runs.up.status role)
  first_or_follows (timed ∷ front) rest w goes harm role =
      elim (follower_or_stood keeps_size frames_leave size many group clocks pace m (timed ∷ []) (front ++ rest) w goes (harm.0, tt) role) [
        | inl stood ↦ inl (at_once stood.first stood.more stood.timed stood.term stood.split stood.stands)
        | inr still ↦ elim (first_or_follows front rest (after_row w timed.row) next harm.1
            (ap (λ (t : AllocatorState). t.raft_server.memory.role) (same_server next.runs.server still.0 (sym next.runs.up.status ∙ still.1)) ∙ still.2)) [
              | inl later ↦ inl (record {
                first = timed ∷ later.first;
                timed = later.timed;
                more = later.more;
                split = ap (λ (l : List Timed). timed ∷ l) later.split;
                term = later.term;
                stands = later.stands;
                followed = (here, later.followed);
                follow = later.follow;
              })
              | inr all ↦ inr ((here, all.0), all.1)
            ]
      ]
    where
      here : AllFollow (OfMember m ∷ []) w
      here = follows_alone m w goes.runs.server goes.runs.up.status role

      next : Goes keeps_size frames_leave size many group clocks pace m (after_row w timed.row) (front ++ rest)
      next = further Always _ (size_kept keeps_size frames_leave size many group clocks pace m) group clocks pace m (timed ∷ []) (front ++ rest) w (λ x i. tt) goes

      at_once : (first more : List Timed) (one : Timed) (term : ℕ) → timed ∷ [] ≡ first ++ one ∷ more → Stands m term (after_rows w (rows_in first)) one.row
          → FirstStood m w (timed ∷ front)
      at_once [] more one term e s = record {
        first = [];
        timed = timed;
        more = front;
        split = refl;
        term = term;
        stands = subst (λ (x : Timed). Stands m term w x.row) (sym (head_is timed one [] more e)) s;
        followed = tt;
        follow = here;
      }
      at_once (y ∷ ys) more one term e s = absurd (empty ys more one (tail_is timed y [] (ys ++ one ∷ more) e))

-- ---- another member leads early, or none does

-- in one of these rows, by this moment, before it, a member of the group leads
pub record LedEarly (group : List Party) (last : ℕ) (w : Cluster) (whole : List Timed) : Type 0 where
  pub first : List Timed
  pub timed : Timed
  pub more : List Timed
  pub split : whole ≡ first ++ timed ∷ more
  pub soon : timed.at ≤ last
  pub one : Leads group (after_rows w (rows_in first))

-- none does in one row more
joined : (group : List Party) (c last : ℕ) (first : Timed) (more : List Timed) (w : Cluster) → (first.at ≤ last → NobodyLeads group w)
    → LeadsAlone group c last (after_row w first.row) more → LeadsAlone group c last w (first ∷ more)
joined group c last first more w here alone [] rest timed m e soon i differs =
    here (subst (λ (x : Timed). x.at ≤ last) (sym (head_is first timed more rest e)) soon) m i
joined group c last first more w here alone (y ∷ front) rest timed m e soon i differs =
    subst (λ (x : Timed). LeadsNotIfUp m (after_rows (after_row w x.row) (rows_in front))) (head_is first y more (front ++ timed ∷ rest) e)
    (alone front rest timed m (tail_is first y more (front ++ timed ∷ rest) e) soon i differs)

pub alone_or_led : (group : List Party) (c last : ℕ) (whole : List Timed) (w : Cluster) → LeadsAlone group c last w whole ⊎ LedEarly group last w whole
alone_or_led group c last [] w = inl (λ front rest timed m e soon i differs. absurd (empty front rest timed e))
alone_or_led group c last (first ∷ more) w = elim (alone_or_led group c last more (after_row w first.row)) [
  | inr led ↦ inr (record {
    first = first ∷ led.first;
    timed = led.timed;
    more = led.more;
    split = ap (λ (l : List Timed). first ∷ l) led.split;
    soon = led.soon;
    one = led.one;
  })
  | inl alone ↦ elim (leb_tells first.at last) [
    | inr z ↦ inl (joined group c last first more w (λ early. absurd (omega (arith, early, z.1))) alone)
    | inl z ↦ elim (nobody_or_one group w) [
      | inl nobody ↦ inl (joined group c last first more w (λ early. nobody) alone)
      | inr one ↦ inr (record { first = []; timed = first; more = more; split = refl; soon = z.1; one = one })
    ]
  ]
]

module _ (ids : List ℕ) (rows : List Row) (group : List Party) (clocks : Party → ℕ) (pace : Pace) (start : ℕ) (whole : List Timed)
    (r : IsCalmRestart ids rows group clocks pace start whole) where
  -- ---- one whose log is furthest stands for the first time

  -- in one of these rows, by this moment, a member stands whose log is furthest, and it has asked nobody before
  pub record StandsFirst (last : ℕ) : Type 0 where
    pub so : AMemberStands group last (world_of ids rows) whole
    pub furthest : IsFurthest group so.c (world_of ids rows)
    pub silent : AskedNobody so.c (world_of ids rows) so.front

  pub first_of : (keeps_size : (t : AllocatorState) (number : ℕ) (event : Event) → (step t number event).step_state.allocator.size ≡ t.size)
      → FramesLeaveFollowers → (last : ℕ) → FurthestStands group last (world_of ids rows) whole → StandsFirst last
  first_of keeps_size frames_leave last furthest = elim (first_or_follows keeps_size frames_leave (length ids) r.others group clocks pace furthest.stands_so.c
      furthest.stands_so.front (furthest.stands_so.timed ∷ furthest.stands_so.rest) (world_of ids rows) (record {
        traffic = no_traffic start;
        calm = calm_so;
        runs = record {
          server = opened ids rows group clocks pace start whole r furthest.stands_so.c furthest.stands_so.member;
          up = record {
            status = (r.opened furthest.stands_so.c furthest.stands_so.member).runs;
            quiet = record {
              faults = (r.opened furthest.stands_so.c furthest.stands_so.member).faults;
              calls = (r.opened furthest.stands_so.c furthest.stands_so.member).disk;
            };
          };
          holds = refl;
        };
      }) harmless_front refl) [
        | inr all ↦ record {
          so = furthest.stands_so;
          furthest = furthest.furthest;
          silent = who_follows_asks_nobody (OfMember furthest.stands_so.c ∷ []) furthest.stands_so.c (inl refl) furthest.stands_so.front (world_of ids rows) all.0 all.1;
        }
        | inl one ↦ record {
          so = record {
            front = one.first;
            timed = one.timed;
            rest = one.more ++ furthest.stands_so.timed ∷ furthest.stands_so.rest;
            split = furthest.stands_so.split ∙ (ap (λ (l : List Timed). l ++ furthest.stands_so.timed ∷ furthest.stands_so.rest) one.split
                ∙ append_assoc one.first (one.timed ∷ one.more) (furthest.stands_so.timed ∷ furthest.stands_so.rest));
            soon = let h = ends_before group clocks pace start (world_of ids rows) (one.first ++ one.timed ∷ []) one.more furthest.stands_so.rest furthest.stands_so.timed
                (subst (λ (l : List Timed). AreCalm group clocks pace (no_traffic start) (world_of ids rows) (l ++ furthest.stands_so.timed ∷ furthest.stands_so.rest))
                (one.split ∙ one_more one.first one.more one.timed) calm_so) in
                let e = end_last start one.first one.timed in
                let s = furthest.stands_so.soon in
                omega (arith, h, e, s);
            nobody_led = throughout_front (NobodyLeads group) one.first (one.timed ∷ one.more) (world_of ids rows)
                (subst (Throughout (NobodyLeads group) (world_of ids rows)) one.split furthest.stands_so.nobody_led);
            nobody_leads = holds_behind (NobodyLeads group) one.first (one.timed ∷ one.more) (world_of ids rows)
                (subst (Throughout (NobodyLeads group) (world_of ids rows)) one.split furthest.stands_so.nobody_led)
                (subst (λ (l : List Timed). NobodyLeads group (after_rows (world_of ids rows) (rows_in l))) one.split furthest.stands_so.nobody_leads);
            c = furthest.stands_so.c;
            member = furthest.stands_so.member;
            term = one.term;
            stands = one.stands;
          };
          furthest = furthest.furthest;
          silent = who_follows_asks_nobody (OfMember furthest.stands_so.c ∷ []) furthest.stands_so.c (inl refl) one.first (world_of ids rows) one.followed one.follow;
        }
      ]
    where
      calm_so : AreCalm group clocks pace (no_traffic start) (world_of ids rows) (furthest.stands_so.front ++ furthest.stands_so.timed ∷ furthest.stands_so.rest)
      calm_so = subst (AreCalm group clocks pace (no_traffic start) (world_of ids rows)) furthest.stands_so.split r.calm

      harmless_front : DoNoHarm (world_of ids rows) (rows_in furthest.stands_so.front)
      harmless_front = first_harmless (world_of ids rows) (rows_in furthest.stands_so.front) (rows_in (furthest.stands_so.timed ∷ furthest.stands_so.rest))
          (subst (DoNoHarm (world_of ids rows)) (ap rows_in furthest.stands_so.split
          ∙ rows_both furthest.stands_so.front (furthest.stands_so.timed ∷ furthest.stands_so.rest)) r.harmless)

  -- ---- it wins, or somebody leads

  module _ (logs_stay : LogsStay ids rows) (appends : NoAppendsCome ids rows) (lists : (n m : ℕ) → In (OfMember n) group → In (OfMember m) group → Lists n m (world_of ids rows)) (last before : ℕ)
      (found : AMemberStands group before (world_of ids rows) whole)
      (top : AreWithin group found.stands.before.raft_server.store.term (after_rows (world_of ids rows) (rows_in found.front)))
      (furthest : IsFurthest group found.c (world_of ids rows)) (silent : AskedNobody found.c (world_of ids rows) found.front)
      (soon : before + 4 * pace.delay ≤ last) (long : last < end_of start whole) (alone_wins : WhoStandsAloneWins ids rows) where
    -- where somebody leads behind the row in which it stands
    led_so : LedEarly group (found.timed.at + 2 * pace.delay) (after_row (after_rows (world_of ids rows) (rows_in found.front)) found.timed.row) found.rest
        → SomebodyLeads group start last (world_of ids rows) whole
    led_so led = elim (nobody_or_led group (found.front ++ found.timed ∷ led.first) (world_of ids rows)) [
      | inl none ↦ absurd (none.1 led.one.n led.one.member led.one.server
          (ap (λ (u : Cluster). (u.member led.one.n).status) (world_both (world_of ids rows) found.front (found.timed ∷ led.first)) ∙ led.one.runs) led.one.leads)
      | inr first ↦ record {
        front = first.first;
        rest = first.more ++ led.timed ∷ led.more;
        split = cut ∙ (ap (λ (l : List Timed). l ++ led.timed ∷ led.more) first.split ∙ append_assoc first.first first.more (led.timed ∷ led.more));
        soon = let h = ends_before group clocks pace start (world_of ids rows) first.first first.more led.more led.timed
            (subst (AreCalm group clocks pace (no_traffic start) (world_of ids rows)) (cut ∙ ap (λ (l : List Timed). l ++ led.timed ∷ led.more) first.split) r.calm) in
            let a = led.soon in
            let b = found.soon in
            omega (arith, h, a, b, soon);
        nobody_led = first.nobody_led;
        n = first.one.n;
        member = first.one.member;
        server = first.one.server;
        runs = first.one.runs;
        leads = first.one.leads;
      }
    ]
      where
        cut : whole ≡ (found.front ++ found.timed ∷ led.first) ++ led.timed ∷ led.more
        cut = found.split ∙ (ap (λ (l : List Timed). found.front ++ found.timed ∷ l) led.split
            ∙ sym (append_assoc found.front (found.timed ∷ led.first) (led.timed ∷ led.more)))

    pub wins_or_led : WinsInOneTerm group clocks pace.delay last (world_of ids rows) whole ⊎ SomebodyLeads group start last (world_of ids rows) whole
    wins_or_led = elim (alone_or_led group found.c (found.timed.at + 2 * pace.delay) found.rest
        (after_row (after_rows (world_of ids rows) (rows_in found.front)) found.timed.row)) [
          | inr led ↦ inr (led_so led)
          | inl alone ↦ inl (record {
            front = found.front;
            timed = found.timed;
            rest = found.rest;
            split = found.split;
            soon = let f = found.soon in omega (arith, f, soon);
            nobody_led = found.nobody_led;
            nobody_leads = found.nobody_leads;
            c = found.c;
            member = found.member;
            furthest = furthest;
            term = found.term;
            stands = found.stands;
            wins = alone_wins group clocks pace start found.c found.term found.front found.rest found.timed
                (standing ids rows group clocks pace start whole r logs_stay appends lists last before found top furthest silent soon long)
                (behind ids rows group clocks pace start whole r logs_stay appends lists last before found top furthest silent soon long) alone;
          })
        ]
