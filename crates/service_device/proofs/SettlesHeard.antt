-- In time a quorum has the log of a leader that waits with its blank: so the blank has come by then, or a request of a
-- device makes the log grow.
use Rattle.std.proofs.Common.{◌≡◌, ℕ, ◌+◌, ◌*◌, ◌<◌, ◌≤◌, Bool, true, List, [], ◌∷◌, ◌++◌, length, append_assoc, refl, sym, ◌∙◌, ap, subst, arith, inl, inr}
use Rattle.std.specs.Prelude.{◌⊎◌, ◌==◌, ◌||◌, if◌then◌else◌, nat_le}
use Rattle.std.proofs.lemmas.Bool.Decides.{eqb_tells, leb_tells}
use Rattle.can_frame.specs.declared.entry.Entry.{Entry}
use Rattle.can_frame.specs.Log.{last_term}
use Rattle.can_frame.specs.Timing.{call_timeout}
use Rattle.raft_model.specs.Lists.{In, any, how_many}
use Rattle.raft_model.specs.Moves.Elections.{has_quorum}
use Rattle.raft_model.specs.Moves.Leading.{has_matched}
use Rattle.raft_model.specs.Server.{RaftServer, quorum}
use Rattle.raft_model.proofs.Quorum.{count_grows}
use Rattle.bus_rows.specs.declared.row.Row.{Row}
use Rattle.cluster_discovery.specs.Members.{is_on_list}
use Rattle.alloc_spec.specs.AllocatorState.{AllocatorState, is_recorded, members_of}
use Rattle.alloc_spec_laws.proofs.Choices.{le_true, tell}
use Rattle.bus_rows.specs.Timed.{Timed, rows_in}
use Rattle.service_alone.specs.Calm.{Pace, end_of}
use Rattle.service_calm.specs.Calm.{Member as OfMember, Party}
use Rattle.service_leader.specs.Entries.{HasComeBy, come_within, is_one_of}
use Rattle.service_leader.specs.NoElection.{CallsFit}
use Rattle.service_device.specs.Settled.{IsCalmUnder}
use Rattle.service_device.specs.Settles.{CanCatchUp, GrowsBy, HasComeToLead, WaitsWithBlank}
use Rattle.service_leader.proofs.Stretches.{end_both, end_last}
use Rattle.service_leader.proofs.TermsRoles.{LeadsAt}
use Rattle.service_device.proofs.SettledLaw as from_start
use Rattle.service_device.proofs.SettledStays.{harmless_first}
use Rattle.service_device.proofs.SettlesFrom.{CutAt, carry, cut_at, front_in, leads_at, no_earlier}
use Rattle.service_device.proofs.SettlesKnown.{HasPlaces, Knows, known_kept, places_stay}
use Rattle.service_device.proofs.SettledServers.{Settles}
use Rattle.service_device.proofs.SettlesOffice.{IsAtBlank, IsWaiting}
use Rattle.service_device.proofs.SettlesRows.{HasBlank}
use Rattle.service_device.proofs.SettlesWaits.{BlankComes, LogGrows, Waits, waits_on}
use Rattle.service_device.specs.ServiceBelow.{ServiceGrounds}
use Rattle.alloc_spec.specs.ClusterMembers.{AreMembers}
use Rattle.bus_spec.specs.Cluster.{Cluster, after_rows, cluster, world_of}
use Rattle.bus_spec.specs.Lawful.{DoNoHarm}
use Rattle.bus_spec.specs.Members.MemberStatus.{Up}

any_in : (p : ℕ) (others : List ℕ) → any (λ other. other == p) others ≡ true → In p others
any_in p [] e = cc e
any_in p (x ∷ others) e = elim (eqb_tells x p) [
  | inl z ↦ inl (sym z.1)
  | inr z ↦ inr (any_in p others (sym (ap (λ (b : Bool). if b then true else any (λ other. other == p) others) z.0) ∙ e))
]

-- a leader that knows others to have so many places, which with it are a quorum, is heard
pub heard_by : (ids others : List ℕ) (n count : ℕ) (s : RaftServer) → ((m : ℕ) → In m others → count ≤ s.memory.matched m)
    → quorum ids ≤ how_many (is_one_of n others) ids → quorum ids ≤ how_many (has_matched n s count) ids
heard_by ids others n count s known many = let more = count_grows (is_one_of n others) (has_matched n s count) ids has_it in omega (arith, more, many)
  where
    knows : (p : ℕ) → In p others → nat_le count (s.memory.matched p) ≡ true
    knows p i = elim (leb_tells count (s.memory.matched p)) [
      | inl y ↦ y.0
      | inr y ↦ let k = known p i in let high = y.1 in absurd (omega (arith, k, high))
    ]

    has_it : (p : ℕ) → is_one_of n others p ≡ true → has_matched n s count p ≡ true
    has_it p is_it = elim (eqb_tells p n) [
      | inl z ↦ ap (λ (x : Bool). if x then true else nat_le count (s.memory.matched p)) z.0
      | inr z ↦ ap (λ (x : Bool). if x then true else nat_le count (s.memory.matched p)) z.0
          ∙ knows p (any_in p others (sym (ap (λ (x : Bool). x || any (λ other. other == p) others) z.0) ∙ is_it))
    ]

module _ (below : ServiceGrounds) (ids : List ℕ) (members : AreMembers ids) (rows : List Row) (harmless : DoNoHarm (cluster ids) rows)
    (group : List Party) (clocks : Party → ℕ) (pace : Pace) (start n term : ℕ) (first later : List Timed)
    (under : IsCalmUnder ids rows group clocks pace start n term first later) (log : List Entry) (more one : ℕ) (next : List ℕ)
    (new : HasComeToLead ids n log (end_of start first + clocks (OfMember n)) (after_rows (world_of ids rows) (rows_in first)))
    (fits : CallsFit n (world_of ids rows) (first ++ later))
    (short : 4 * pace.delay < call_timeout)
    (others : CanCatchUp ids group n more pace.delay (one ∷ next) new.server (world_of ids rows) first later)
    (long : end_of start first + come_within pace more < end_of start (first ++ later)) where
  abbrev w : Cluster
  w = world_of ids rows

  abbrev led_from : Cluster
  led_from = after_rows w (rows_in first)

  abbrev from : ℕ
  from = end_of start first

  abbrev by_then : ℕ
  by_then = from + come_within pace more

  abbrev at : List Timed → Cluster
  at a = after_rows led_from (rows_in a)

  -- the rows until the followers have the log
  pub heard_rows : CutAt from by_then later
  heard_rows = cut_at later from by_then (omega arith) (let l = long in let e = end_both start first later in omega (arith, l, e))

  abbrev F : List Timed
  F = heard_rows.front

  abbrev cut : later ≡ F ++ (heard_rows.next ∷ heard_rows.rest)
  cut = heard_rows.split

  abbrev pub under_cut : IsCalmUnder ids rows group clocks pace start n term first (F ++ (heard_rows.next ∷ heard_rows.rest))
  under_cut = subst (IsCalmUnder ids rows group clocks pace start n term first) cut under

  -- behind them the leader knows each of the others to have its log
  pub known_then : (m : ℕ) → In m (one ∷ next) → (t : AllocatorState) → ((at F).member n).status ≡ Up t → length log ≤ t.raft_server.memory.matched m
  known_then m i t up = elim (carried t up) [
    | inl high ↦ let its = (leads_here F (heard_rows.next ∷ heard_rows.rest) cut t up).1 in absurd (omega (arith, high, its))
    | inr k ↦ k.1
  ]
    where
      by : HasComeBy n m (length new.server.raft_server.store.log) by_then from led_from later
      by = below.come ids rows members harmless group clocks pace start n m term more first [] later new.server under.listed under.running under.member (others.apart m i).0 (others.apart m i).1
          short under.calm under.harmless under.led fits (others.calling m i) new.runs (others.few m i) long

      inside : (tail : List Timed) × (F ≡ by.front ++ tail)
      inside = front_in w group clocks pace start n first later under.calm (under.running n under.member) by_then heard_rows by.front by.rest by.split by.soon

      leads_here : (a b : List Timed) → later ≡ a ++ b → (u : AllocatorState) → ((at a).member n).status ≡ Up u → LeadsAt term u.raft_server
      leads_here = leads_at ids rows group clocks pace start n term first later under

      carried : (u : AllocatorState) → ((at F).member n).status ≡ Up u → Knows m term (HasPlaces (length log)) (places_stay (length log)) u.raft_server
      carried u is_up = carry w group clocks pace start n first later under.calm (under.running n under.member)
          (λ (s : AllocatorState). Knows m term (HasPlaces (length log)) (places_stay (length log)) s.raft_server)
          (known_kept m term (HasPlaces (length log)) (places_stay (length log))) by.front inside.0
          (heard_rows.next ∷ heard_rows.rest)
          (cut ∙ (ap (λ (l : List Timed). l ++ (heard_rows.next ∷ heard_rows.rest)) inside.1 ∙ append_assoc by.front inside.0 (heard_rows.next ∷ heard_rows.rest)))
          by.leader by.leads
          (inr (
            leads_here by.front by.rest by.split by.leader by.leads,
            let k = by.known in let l = ap (λ (l : List Entry). length l) new.log_is in omega (arith, k, l),
          ))
          u (subst (λ (l : List Timed). ((at l).member n).status ≡ Up u) inside.1 is_up)

  -- the blank has come behind some of the later rows, by this moment
  pub record HasBlankBy (last : ℕ) : Type 0 where
    pub front : List Timed
    pub rest : List Timed
    pub split : later ≡ front ++ rest
    pub soon : end_of from front ≤ last
    pub has : HasBlank ids n term log (end_of from front + clocks (OfMember n)) (at front)

  module _ (some : new.server.raft_server.store.commit < length log) (waiting : WaitsWithBlank ids n log new.server) where
    its_term : new.server.raft_server.store.term ≡ term
    its_term = (leads_at ids rows group clocks pace start n term first later under [] later refl new.server new.runs).1

    earlier : last_term log < term
    earlier = let e = waiting.earlier in let t = its_term in omega (arith, e, t)

    abbrev WaitsIn : ℕ → Cluster → Type 0
    WaitsIn = Waits below group clocks pace ids members under_cut.listed n term log under_cut.member earlier
        waiting.room

    at_first : WaitsIn from led_from
    at_first = record {
      is = record { server = new.server; accepted = new.server.accepted; its = settles; waits = unheard };
      told = waiting.waits;
    }
      where
        unheard : IsWaiting ids n log new.server.raft_server
        unheard = record {
          log_is = new.log_is;
          some = some;
          not_heard = elim (tell (has_quorum ids (has_matched n new.server.raft_server (length log)))) [
            | inl e ↦ absurd (waiting.not_yet (record {
              earlier = subst (λ (l : List Entry). last_term l < new.server.raft_server.store.term) (sym new.log_is) waiting.earlier;
              matched = subst (λ (l : List Entry). quorum ids ≤ how_many (has_matched n new.server.raft_server (length l)) ids) (sym new.log_is)
                  (le_true (quorum ids) (how_many (has_matched n new.server.raft_server (length log)) ids) e);
            }))
            | inr e ↦ e
          ];
        }

        settles : Settles (IsAtBlank ids n term log) log new.server.accepted (from + clocks (OfMember n)) (led_from.member n) new.server
        settles = record {
          up = record { status = new.runs; quiet = record { faults = new.faults; calls = new.disk } };
          done = record { leads = (new.leads, its_term); which = inl unheard };
          clock = new.clock;
          status = new.status;
          accepts = refl;
          requests = new.requests;
          offline = λ other e. new.known other (ap (λ (l : List Entry). is_on_list (members_of new.server) other || is_recorded l other) new.log_is ∙ e);
          discovery = new.discovery;
        }

    -- behind them it waits no more
    waits_not : WaitsIn (end_of from F) (at F) → ⊥
    waits_not is =
        let s = is.is.server.raft_server in
        let many = heard_by ids (one ∷ next) n (length log) s (λ m i. known_then m i is.is.server is.is.its.up.status) others.many in
        elim (leb_tells (quorum ids) (how_many (has_matched n s (length log)) ids)) [
          | inl z ↦ cc (z.0, is.is.waits.not_heard)
          | inr z ↦ let high = z.1 in omega (arith, many, high)
        ]

    abbrev Comes : Type 0
    Comes = BlankComes below group clocks pace ids members under_cut.listed n term log under_cut.member
        earlier waiting.room from led_from F

    -- the blank comes in these rows: so by the moment at which they are cut
    as_by : Comes → HasBlankBy by_then
    as_by comes = record {
      front = comes.early;
      rest = comes.late ++ (heard_rows.next ∷ heard_rows.rest);
      split = whole;
      soon = let up = no_earlier w group clocks pace start n first later under.calm (under.running n under.member) comes.early comes.late (heard_rows.next ∷ heard_rows.rest) whole in
          let ends = ap (λ (l : List Timed). end_of from l) comes.split in
          let soon = heard_rows.soon in
          omega (arith, up, ends, soon);
      has = comes.has;
    }
      where
        whole : later ≡ comes.early ++ (comes.late ++ (heard_rows.next ∷ heard_rows.rest))
        whole = cut ∙ (ap (λ (l : List Timed). l ++ (heard_rows.next ∷ heard_rows.rest)) comes.split
            ∙ append_assoc comes.early comes.late (heard_rows.next ∷ heard_rows.rest))

    abbrev LogGrew : Type 0
    LogGrew = LogGrows below group clocks pace ids members under_cut.listed n term log under_cut.member
        earlier waiting.room from led_from F

    abbrev Growth : Type 0
    Growth = GrowsBy n term log (clocks (OfMember n)) from by_then led_from later

    -- the log grows in these rows
    as_growth : LogGrew → Growth
    as_growth g = record {
      front = g.early;
      timed = g.row;
      rest = g.late ++ (heard_rows.next ∷ heard_rows.rest);
      split = whole;
      soon = let up = no_earlier w group clocks pace start n first later under.calm (under.running n under.member) (g.early ++ g.row ∷ []) g.late
          (heard_rows.next ∷ heard_rows.rest) (whole ∙ sym (append_assoc g.early (g.row ∷ []) (g.late ++ (heard_rows.next ∷ heard_rows.rest)))) in
          let its = end_last from g.early g.row in
          let all = ap (λ (l : List Timed). end_of from l) (append_assoc g.early (g.row ∷ []) g.late) in
          let ends = ap (λ (l : List Timed). end_of from l) g.split in
          let soon = heard_rows.soon in
          omega (arith, up, its, all, ends, soon);
      log_then = log;
      its_log = inl refl;
      message = g.grows.message;
      asked = g.grows.asked;
      grows = g.grows.grows;
    }
      where
        whole : later ≡ g.early ++ g.row ∷ (g.late ++ (heard_rows.next ∷ heard_rows.rest))
        whole = cut ∙ (ap (λ (l : List Timed). l ++ (heard_rows.next ∷ heard_rows.rest)) g.split
            ∙ append_assoc g.early (g.row ∷ g.late) (heard_rows.next ∷ heard_rows.rest))

    -- so the blank has come, or the log grows
    pub blank_by : HasBlankBy by_then ⊎ Growth
    blank_by = elim (waits_on below group clocks pace ids members under_cut.listed n term log under_cut.member
        earlier waiting.room F (heard_rows.next ∷ heard_rows.rest) from led_from
        (from_start.reached below ids members rows harmless group clocks pace start n term first [] F (heard_rows.next ∷ heard_rows.rest) under_cut)
        (harmless_first F (heard_rows.next ∷ heard_rows.rest) led_from
        (from_start.harm below ids members rows harmless group clocks pace start n term first [] F (heard_rows.next ∷ heard_rows.rest) under_cut).1).0
        (from_start.led below ids members rows harmless group clocks pace start n term first [] F (heard_rows.next ∷ heard_rows.rest) under_cut)
        (from_start.lists below ids members rows harmless group clocks pace start n term first [] F (heard_rows.next ∷ heard_rows.rest) under_cut)
        (from_start.missed below ids members rows harmless group clocks pace start n term first [] F (heard_rows.next ∷ heard_rows.rest) under_cut)
        at_first) [
          | inl is ↦ absurd (waits_not is)
          | inr ends ↦ elim ends [ inl comes ↦ inl (as_by comes) | inr g ↦ inr (as_growth g) ]
        ]
