-- Who has come to lead in a calm of members that were just opened, and leads on, settles in time.
use Rattle.std.proofs.Common.{◌≡◌, ◌≢◌, ℕ, ◌+◌, ◌*◌, ◌<◌, ◌≤◌, arith, true, List, [], ◌∷◌, ◌++◌, length, append_assoc, append-nil, refl, sym, ◌∙◌, ap, subst, inl}
use Rattle.alloc_exchange.specs.Exchange.{Accepted, last_moment}
use Rattle.can_frame.specs.declared.entry.Entry.{Entry}
use Rattle.can_frame.specs.Log.{last_term, log_limit}
use Rattle.raft_model.specs.Lists.{In, how_many}
use Rattle.raft_model.specs.Server.{quorum}
use Rattle.raft_model.specs.Server.Role.{Leader}
use Rattle.bus_rows.specs.declared.row.Row.{Row}
use Rattle.alloc_spec.specs.AllocatorState.{AllocatorState, is_recorded, knows_all, members_of}
use Rattle.alloc_spec_laws.specs.Blanks.{IsHeard}
use Rattle.alloc_spec_laws.proofs.LeadersBlanks.{goes_on_to_wait}
use Rattle.alloc_spec_laws.proofs.Proposals.{or_false}
use Rattle.cluster_discovery.specs.Members.{is_on_list}
use Rattle.bus_rows.specs.Timed.{Timed, rows_in}
use Rattle.service_alone.specs.Calm.{Pace, end_of}
use Rattle.service_calm.specs.Calls.{Lists}
use Rattle.service_calm.specs.Calm.{AreCalm, AreRunning, Member as OfMember, Party, no_traffic}
use Rattle.service_calm.specs.Comes.{Throughout}
use Rattle.service_calm.proofs.Calls.{Always}
use Rattle.service_calm.proofs.CallsKept.{IsKept}
use Rattle.service_calm.proofs.Pair.{same_server}
use Rattle.service_candidate.specs.Elections.{IsCalmRestart}
use Rattle.service_candidate.specs.Terms.{LogsStay, NobodyLeads}
use Rattle.service_candidate.proofs.ElectionsEnd.{all_run, none_waits, opened}
use Rattle.service_leader.specs.CallsComeBack.{LeadsIfUp, LeadsNotIfUp, LeadsOn}
use Rattle.service_leader.specs.Entries.{CallsReturnToWhoLeadsOn, CanExchange, GoesOnCalling, PendsSince, calls_left, is_one_of}
use Rattle.service_leader.specs.LeadsOn.{IsLedThroughout}
use Rattle.service_leader.specs.NoElection.{CallsFit}
use Rattle.service_leader.specs.WinnersCall.{WinnersCall}
use Rattle.service_leader.proofs.Stretches.{throughout_by, throughout_more, throughout_so, world_both}
use Rattle.service_cluster.specs.Restart.{HasJustWon, IsStart, settled_within}
use Rattle.service_cluster.proofs.Fronts.{asks_rest, keeps_at, leads_on_by, missed_rest, room_rest}
use Rattle.service_cluster.proofs.Others.{apart_in, as_many, at_most_one, knows_none, not_alone, others_in}
use Rattle.service_cluster.proofs.Started.{no_discovery, tidy, waits}
use Rattle.service_elections.proofs.Opened as opened_members
use Rattle.service_device.specs.Settled.{IsCalmUnder, NobodyAsks, NobodyIsMissed}
use Rattle.service_device.specs.Settles.{HasComeToLead, HasSettledBy, IsToSettle, LeadersSettle, settle_within}
use Rattle.service_device.specs.Tidy.{IsTidy, MembersAskNobody, MembersStayTidy, TidyMembersMissNobody}
use Rattle.service_device.proofs.SettlesLaw.{settles_unasked}
use Rattle.service_device.proofs.TidyLaw.{fit_needs_none, tidy_is_fit}
use Rattle.alloc_spec.specs.ClusterMembers.{AreMembers}
use Rattle.bus_spec.specs.Cluster.{Cluster, after_row, after_rows, world_of}
use Rattle.bus_spec.specs.Members.MemberStatus.{Up}

-- who waits with its blank goes on to wait
abbrev IsTold : AllocatorState → Type 0
IsTold t = t.times.waits ≡ true

told_kept : IsKept Always IsTold
told_kept = record { stepped = λ t number event may h. goes_on_to_wait t number event ∙ h; popped = λ t h. h }

-- where nobody of the group leads, one member of it does not
one_of : (group : List Party) (c : ℕ) → In (OfMember c) group → (w : Cluster) → NobodyLeads group w → LeadsNotIfUp c w
one_of group c member w none = none c member

module _ (ids : List ℕ) (members : AreMembers ids) (rows : List Row) (group : List Party) (clocks : Party → ℕ) (pace : Pace) (start longest : ℕ)
    (before : List Timed) (x : Timed) (later : List Timed) (s : IsStart ids rows group clocks pace start longest ((before ++ x ∷ []) ++ later))
    (knows : (p : ℕ) (i : In (OfMember p) group) → knows_all (opened ids rows group clocks pace start ((before ++ x ∷ []) ++ later) s.restart p i) ≡ true)
    (lists : (n m : ℕ) → In (OfMember n) group → In (OfMember m) group → Lists n m (world_of ids rows))
    (stay : MembersStayTidy ids rows) (none_missed : TidyMembersMissNobody ids rows) (nobody : MembersAskNobody ids rows) (logs_stay : LogsStay ids rows) (winners : WinnersCall ids rows)
    (return : CallsReturnToWhoLeadsOn ids rows) (settle : LeadersSettle ids rows) where
  abbrev w : Cluster
  w = world_of ids rows

  abbrev first : List Timed
  first = before ++ x ∷ []

  abbrev whole : List Timed
  whole = first ++ later

  abbrev r : IsCalmRestart ids rows group clocks pace start whole
  r = s.restart

  -- the world before the row in which c comes to lead, and the one behind it
  abbrev there : Cluster
  there = after_rows w (rows_in before)

  abbrev led_from : Cluster
  led_from = after_rows w (rows_in first)

  in_parts : whole ≡ before ++ x ∷ later
  in_parts = append_assoc before (x ∷ []) later

  same_world : led_from ≡ after_row there x.row
  same_world = world_both w before (x ∷ [])

  abbrev running : AreRunning group w
  running = all_run ids rows group clocks pace start whole r

  calm_parts : AreCalm group clocks pace (no_traffic start) w (before ++ x ∷ later)
  calm_parts = subst (AreCalm group clocks pace (no_traffic start) w) in_parts r.calm

  -- ---- members stay tidy

  tidy_at : (m : ℕ) → In (OfMember m) group → (a b : List Timed) → whole ≡ a ++ b → IsTidy m (end_of start a + clocks (OfMember m)) (after_rows w (rows_in a))
  tidy_at m i a b cut = stay group clocks pace start m a b r.listed s.only (subst (AreCalm group clocks pace (no_traffic start) w) cut r.calm)
      (λ p j. tidy ids rows group clocks pace start whole r knows p j) (λ p q j k differs. lists p q j k) (no_discovery ids rows group clocks pace start whole r) i

  module _ (c term : ℕ) (member : In (OfMember c) group) (none : Throughout (NobodyLeads group) w before) (none_then : NobodyLeads group there)
      (in_term : (t : AllocatorState) → (there.member c).status ≡ Up t → t.raft_server.store.term ≡ term)
      (earlier : last_term (opened ids rows group clocks pace start ((before ++ x ∷ []) ++ later) s.restart c member).raft_server.store.log < term)
      (anew : (t u : AllocatorState) → (there.member c).status ≡ Up t → ((after_row there x.row).member c).status ≡ Up u → knows_all t ≡ true
      → t.times.waits ≡ true → t.raft_server.memory.role ≢ Leader → u.raft_server.memory.role ≡ Leader
      → u.raft_server.store.term ≡ t.raft_server.store.term → HasJustWon t u)
      (led : IsLedThroughout group c term led_from later) (last : ℕ) (long : end_of start first + settled_within pace longest ≤ last)
      (beyond : last < end_of start whole) where
    -- what c had stored
    abbrev pub stored : AllocatorState
    stored = opened ids rows group clocks pace start whole r c member

    abbrev log : List Entry
    log = stored.raft_server.store.log

    -- ---- c in the row

    abbrev up_before : (t : AllocatorState) × ((there.member c).status ≡ Up t) × IsTold t
    up_before = keeps_at w group clocks pace start whole r.calm running c member IsTold told_kept
        (waits ids rows group clocks pace start whole r c member members.some) before (x ∷ later) in_parts

    abbrev t : AllocatorState
    t = up_before.0

    abbrev its_tidy : IsTidy c (end_of start first + clocks (OfMember c)) led_from
    its_tidy = tidy_at c member first later refl

    abbrev u : AllocatorState
    u = its_tidy.server

    up_then : ((after_row there x.row).member c).status ≡ Up u
    up_then = subst (λ (v : Cluster). (v.member c).status ≡ Up u) same_world its_tidy.runs

    leads_then : (u.raft_server.memory.role ≡ Leader) × (u.raft_server.store.term ≡ term)
    leads_then =
        let leader = (led [] later refl).leader in
        let same = same_server leader.server u (sym leader.runs ∙ its_tidy.runs) in (
          ap (λ (a : AllocatorState). a.raft_server.memory.role) (sym same) ∙ leader.leads,
          ap (λ (a : AllocatorState). a.raft_server.store.term) (sym same) ∙ leader.its_term,
        )

    same_log : (t.raft_server.store.log ≡ log) × (t.raft_server.store.commit ≡ stored.raft_server.store.commit)
    same_log = logs_stay group clocks pace start c before (x ∷ later) stored t r.listed running (none_waits ids rows group clocks pace start whole r) calm_parts member
        none none_then (r.opened c member).runs up_before.1

    its_term : t.raft_server.store.term ≡ term
    its_term = in_term t up_before.1

    knows_there : knows_all t ≡ true
    knows_there = let is = tidy_at c member before (x ∷ later) in_parts in
        ap (λ (a : AllocatorState). knows_all a) (same_server t is.server (sym up_before.1 ∙ is.runs)) ∙ is.complete

    won : HasJustWon t u
    won = anew t u up_before.1 up_then knows_there up_before.2 (none_then c member t up_before.1) leads_then.0 (leads_then.1 ∙ sym its_term)

    log_then : u.raft_server.store.log ≡ log
    log_then = won.log ∙ same_log.0

    commit_then : u.raft_server.store.commit ≡ stored.raft_server.store.commit
    commit_then = won.commit ∙ same_log.1

    waits_then : u.times.waits ≡ true
    waits_then = let later_on = keeps_at w group clocks pace start whole r.calm running c member IsTold told_kept
        (waits ids rows group clocks pace start whole r c member members.some) first later refl in
        subst IsTold (same_server later_on.0 u (sym later_on.1 ∙ its_tidy.runs)) later_on.2

    its_logs : (length log ≤ longest) × (stored.raft_server.store.commit < length log → length log < log_limit)
    its_logs = s.logs c stored member (r.opened c member).runs

    -- it knows of no place of another one, so no quorum has its log
    not_yet : 1 ≤ length log → IsHeard ids c u.raft_server → ⊥
    not_yet some heard =
        let size = ap (λ (l : List Entry). length l) log_then in
        let few = at_most_one _ c (knows_none c u.raft_server (length u.raft_server.store.log) (omega (arith, some, size)) won.matched) ids members.once in
        let many = heard.matched in
        let two = r.others in
        absurd (omega (arith, few, many, two))

    -- ---- it has just come to lead

    abbrev new : HasComeToLead ids c log (end_of start first + clocks (OfMember c)) led_from
    new = record {
      server = u;
      runs = its_tidy.runs;
      faults = its_tidy.faults;
      disk = its_tidy.disk;
      leads = leads_then.0;
      log_is = log_then;
      told = let e = won.told in let h = won.commit in omega (arith, e, h);
      waits = λ some. inl (record {
        waits = waits_then;
        not_yet = not_yet (omega (arith, some));
        earlier = let e = leads_then.1 in let h = earlier in omega (arith, e, h);
        room = its_logs.1 (let k = commit_then in omega (arith, k, some));
      });
      requests = let e = ap (λ (l : List Accepted). last_moment l) its_tidy.requests in omega (arith, e);
      clock = its_tidy.clock;
      status = its_tidy.status;
      known = λ other no_one. its_tidy.listed other (or_false (is_on_list (members_of u) other) (is_recorded u.raft_server.store.log other) no_one).0;
      discovery = its_tidy.discovery;
    }

    under : IsCalmUnder ids rows group clocks pace start c term first later
    under = record {
      listed = r.listed;
      running = running;
      member = member;
      calm = r.calm;
      harmless = r.harmless;
      led = led;
      lists = λ m i differs. lists c m member i;
      missed = missed_rest c first later w (subst (NobodyIsMissed c w) (append-nil whole) (missed_all));
    }
      where
        append-nil : (l : List Timed) → l ++ [] ≡ l
        append-nil [] = refl
        append-nil (y ∷ l) = ap (λ (k : List Timed). y ∷ k) (append-nil l)

        missed_all : NobodyIsMissed c w (whole ++ [])
        missed_all = subst (NobodyIsMissed c w) (sym (append-nil whole)) (none_missed group clocks pace start c whole [] r.listed
            (subst (AreCalm group clocks pace (no_traffic start) w) (sym (append-nil whole)) r.calm)
            (λ p j. tidy ids rows group clocks pace start whole r knows p j) (no_discovery ids rows group clocks pace start whole r))

    -- ---- others can catch up

    can_exchange : (m : ℕ) → In (OfMember m) group → CanExchange c m w whole
    can_exchange m i = opened_members.can_exchange ids rows group clocks pace start whole r lists c m member i

    calls : (m : ℕ) → In (OfMember m) group → m ≢ c → PendsSince c m w.rows led_from × GoesOnCalling c m led_from
    calls m i differs = subst (λ (v : Cluster). PendsSince c m w.rows v × GoesOnCalling c m v) (sym same_world)
        (winners group clocks pace start c m before later x r.listed running member differs calm_parts (subst (CallsFit c w) in_parts (s.calls c member))
        (lists c m member i) (none_then c member)
        (subst (λ (v : Cluster). (server : AllocatorState) → (v.member c).status ≡ Up server → server.raft_server.memory.role ≡ Leader) same_world
        (λ server up. ap (λ (a : AllocatorState). a.raft_server.memory.role) (same_server server u (sym up ∙ its_tidy.runs)) ∙ leads_then.0)))

    few_left : (m : ℕ) → calls_left u m ≤ 2 * longest
    few_left m =
        let a = won.matched m in let b = won.next m in let d = ap (λ (l : List Entry). length l) log_then in let e = ap (λ (l : List Entry). length l) same_log.0 in
        let f = its_logs.0 in omega (arith, a, b, d, e, f)

    -- it leads on
    leads_on : LeadsOn c term w whole
    leads_on = leads_on_by c term first later w
        (by_parts)
        (throughout_by (LeadsIfUp c term) later led_from (λ front rest timed cut server up.
        let leader = (led front (timed ∷ rest) cut).leader in
        let same = same_server leader.server server (sym leader.runs ∙ up) in (
          ap (λ (a : AllocatorState). a.raft_server.memory.role) (sym same) ∙ leader.leads,
          ap (λ (a : AllocatorState). a.raft_server.store.term) (sym same) ∙ leader.its_term,
        )))
      where
        by_parts : Throughout (LeadsNotIfUp c) w (before ++ x ∷ [])
        by_parts = throughout_more (LeadsNotIfUp c) before x w (throughout_so (NobodyLeads group) (LeadsNotIfUp c) (one_of group c member) before w none) (none_then c member)

    module _ (one : ℕ) (next : List ℕ) (apart : (m : ℕ) → In m (one ∷ next) → In (OfMember m) group × (m ≢ c))
        (many : quorum ids ≤ how_many (is_one_of c (one ∷ next)) ids) where
      to_settle : IsToSettle ids rows group clocks pace start c term log (2 * longest) longest (one ∷ next) first later
      to_settle = record {
        under = under;
        new = new;
        few = let f = its_logs.0 in omega (arith, f);
        fits = s.calls c member;
        room = room_rest c first later w (s.room c member);
        short = r.quick;
        catch_up = record {
          apart = apart;
          many = many;
          calling = λ m i. record {
            lists_it = lists c m member (apart m i).0;
            early = [];
            since = first;
            split = refl;
            back = return group clocks pace start c m term [] whole r.listed running member (apart m i).0 (apart m i).1 r.quick r.calm r.harmless
                (can_exchange m (apart m i).0) leads_on;
            pends = (calls m (apart m i).0 (apart m i).1).0;
            goes_on = (calls m (apart m i).0 (apart m i).1).1;
          };
          few = λ m i. few_left m;
        };
        long = omega (arith, long, beyond);
      }

      abbrev ends : ℕ
      ends = end_of start first + settle_within pace (2 * longest) longest

      -- in the later rows nobody asks it
      none_asks : NobodyAsks c led_from later
      none_asks = asks_rest c first later w (nobody group clocks pace start c whole [] r.listed s.only
          (subst (AreCalm group clocks pace (no_traffic start) w) (sym (append-nil whole)) r.calm)
          (λ p j. fit_needs_none p (start + clocks (OfMember p)) w (tidy_is_fit p (start + clocks (OfMember p)) w (tidy ids rows group clocks pace start whole r knows p j)))
          (no_discovery ids rows group clocks pace start whole r))

      settles_by : HasSettledBy c term log (clocks (OfMember c)) (end_of start first) ends led_from later
      settles_by = settles_unasked c term log (clocks (OfMember c)) (end_of start first) ends led_from later none_asks
          (settle group clocks pace start c term log (2 * longest) longest one next first later to_settle)

      settles_with : HasSettledBy c term log (clocks (OfMember c)) (end_of start first) last led_from later
      settles_with = let by = settles_by in record {
        front = by.front;
        rest = by.rest;
        split = by.split;
        soon = let q = by.soon in omega (arith, q, long);
        log_then = by.log_then;
        its_log = by.its_log;
        settled = by.settled;
      }

    -- so c settles, with all others of the group
    pub settles : HasSettledBy c term log (clocks (OfMember c)) (end_of start first) last led_from later
    settles = by (others_in group c) (λ m i. apart_in group c m i) (as_many group c ids r.many)
      where
        by : (others : List ℕ) → ((m : ℕ) → In m others → In (OfMember m) group × (m ≢ c)) → quorum ids ≤ how_many (is_one_of c others) ids
            → HasSettledBy c term log (clocks (OfMember c)) (end_of start first) last led_from later
        by [] apart many = absurd (not_alone c ids members.once r.others many)
        by (one ∷ next) apart many = settles_with one next apart many
