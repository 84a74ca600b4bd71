-- A cluster whose members are started comes back: the election, and what the winner does, together.
use Rattle.std.proofs.Common.{◌≡◌, ◌≢◌, ℕ, ◌+◌, ◌<◌, ◌≤◌, arith, Bool, true, List, [], ◌∷◌, ◌++◌, length, append_assoc, refl, sym, ◌∙◌, ap, subst, inl, inr}
use Rattle.can_frame.specs.Log.{last_term}
use Rattle.raft_model.specs.Lists.{In}
use Rattle.raft_model.specs.Invariants.{Invariants}
use Rattle.raft_model.specs.Runs as raft
use Rattle.raft_model.specs.Server.{RaftServer, Store}
use Rattle.raft_model.proofs.Stored.{last_below}
use Rattle.alloc_spec.specs.Transfers.{SentTransfer}
use Rattle.bus_agreement.specs.Shows.{Shows, ShowsMember, ShowsUp}
use Rattle.bus_spec.specs.Members.{MemberStatus}
use Rattle.raft_model.specs.Server.Role.{Leader}
use Rattle.alloc_spec.specs.Rules.{opening_by}
use Rattle.bus_rows.specs.declared.row.Row.{Row}
use Rattle.alloc_spec.specs.AllocatorState.{AllocatorState, knows_all, members_of}
use Rattle.alloc_spec_laws.proofs.Choices.{eq_true}
use Rattle.bus_agreement.proofs.Concatenations.{row_harmless}
use Rattle.service_steps.specs.InTime.{FramesLeaveFollowers}
use Rattle.bus_rows.specs.Timed.{Timed, rows_in}
use Rattle.service_alone.specs.Calm.{Pace, end_of}
use Rattle.service_calm.specs.Calls.{Lists}
use Rattle.service_calm.specs.Calm.{AreCalm, Member as OfMember, Party, no_traffic}
use Rattle.service_calm.proofs.Calls.{Always}
use Rattle.service_calm.proofs.CallsKept.{IsKept}
use Rattle.service_calm.proofs.Pair.{same_server}
use Rattle.service_cluster.proofs.Fronts.{keeps_at}
use Rattle.service_candidate.specs.Elections.{EndsBy, OthersFollow}
use Rattle.service_candidate.specs.Terms.{LogsStay, TermsDoNotFall}
use Rattle.service_candidate.proofs.ElectionsEnd.{all_run, opened}
use Rattle.service_candidate.proofs.RowsLeave.{IsLeft, row_leaves}
use Rattle.service_candidate.proofs.WaitsTicks.{tick_leaves}
use Rattle.service_leader.specs.Entries.{CallsReturnToWhoLeadsOn}
use Rattle.service_leader.specs.WinnersCall.{WinnersCall}
use Rattle.service_leader.specs.LeadsOn.{IsLedThroughout}
use Rattle.service_leader.proofs.Stretches.{calm_first, calm_rest, not_before, rows_both}
use Rattle.service_leader.specs.NoElection.{NoElectionComes}
use Rattle.service_cluster.specs.Restart.{ComesBackBy, HasJustWon, IsStart, WinnersBeginAnew, settled_within}
use Rattle.service_cluster.proofs.Elected as elected
use Rattle.service_cluster.proofs.Settling.{settles}
use Rattle.service_cluster.proofs.Winning.{frame_wins}
use Rattle.service_device.specs.Settles.{LeadersSettle}
use Rattle.service_device.specs.Tidy.{MembersAskNobody, MembersStayTidy, TidyMembersMissNobody}
use Rattle.alloc_spec.specs.ClusterMembers.{AreMembers}
use Rattle.bus_spec.specs.Cluster.{Cluster, after_row, after_rows, arrival_at, frame_at, rules_of, world_of}
use Rattle.bus_spec.specs.Lawful.{DoNoHarm}
use Rattle.bus_spec.specs.Members.MemberStatus.{Up}

-- ---- who wins

-- a member that knows all of two or more, and waits with its blank, has just won behind the row in which it comes to lead
pub begins_anew : WinnersBeginAnew
begins_anew n w row before after harm up up_then two knows waits none leads same_term = by (row_leaves w n before after up row harm up_then)
  where
    all : length (members_of before) ≡ before.size
    all = eq_true (length (members_of before)) before.size knows

    by : IsLeft w n row before after → HasJustWon before after
    by (inl x) = elim (tick_leaves before (w.rows + 1) x.ms x.word) [
      | inl same ↦ absurd (none (sym same.4 ∙ (ap (λ (s : AllocatorState). s.raft_server.memory.role) (sym x.is) ∙ leads)))
      | inr stood ↦ let higher = ap (λ (s : AllocatorState). s.raft_server.store.term) x.is ∙ stood.2 in absurd (omega (arith, higher, same_term))
    ]
    by (inr (inl x)) =
        let w_ = frame_wins before (w.rows + 1) (arrival_at (frame_at w.frames x.k) x.ms) none waits (omega (arith, all, two))
        (ap (λ (s : AllocatorState). s.raft_server.memory.role) (sym x.is) ∙ leads) in record {
          log = ap (λ (s : AllocatorState). s.raft_server.store.log) x.is ∙ w_.1;
          commit = ap (λ (s : AllocatorState). s.raft_server.store.commit) x.is ∙ w_.2;
          told = ap (λ (s : AllocatorState). s.raft_server.memory.told) x.is ∙ w_.3;
          matched = λ m. ap (λ (s : AllocatorState). s.raft_server.memory.matched m) x.is ∙ w_.4 m;
          next = λ m. ap (λ (s : AllocatorState). s.raft_server.memory.next m) x.is ∙ w_.5 m;
        }
    by (inr (inr (inl e))) = absurd (none (ap (λ (s : AllocatorState). s.raft_server.memory.role) (sym e) ∙ leads))
    by (inr (inr (inr e))) = absurd (none (ap (λ (s : AllocatorState). s.raft_server.memory.role) (sym e) ∙ leads))

-- no term of a log is above the term of the server, in a world that rows show
pub low_terms : (choice : ℕ → Bool) (made : List SentTransfer) (w : Cluster) (run : raft.World) → Shows choice made w run → Invariants run
    → (m : ℕ) (t : AllocatorState) → In m w.ids → (w.member m).status ≡ Up t → last_term t.raft_server.store.log ≤ t.raft_server.store.term
low_terms choice made w run shows invariants m t listed up =
    let shown : ShowsUp made w.ids w.frames run m t (w.member m).disk
    = subst (λ (status : MemberStatus). ShowsMember choice made w.ids w.frames run m status (w.member m).disk) up (shows.lives m listed) in
    subst (λ (server : RaftServer). last_term server.store.log ≤ server.store.term) shown.runs.raft_server
    (last_below (run.server m).store.log (run.server m).store.term (invariants.stores m).rising)

-- ---- together

module _ (frames_leave : FramesLeaveFollowers) (ids : List ℕ) (members : AreMembers ids) (rows : List Row) (group : List Party) (clocks : Party → ℕ) (pace : Pace)
    (start longest ended : ℕ) (whole : List Timed) (s : IsStart ids rows group clocks pace start longest whole)
    (ends : EndsBy group clocks pace.delay ended (world_of ids rows) whole)
    (follow : OthersFollow group ends.c (after_rows (world_of ids rows) (rows_in ends.front)))
    (long : ended + settled_within pace longest < end_of start whole)
    (Sized : AllocatorState → Type 0) (sized : (t : AllocatorState) → Sized t → 2 ≤ t.size) (sized_kept : IsKept Always Sized)
    (sized_first : (m : ℕ) (i : In (OfMember m) group) → Sized (opened ids rows group clocks pace start whole s.restart m i))
    (lists : (n m : ℕ) → In (OfMember n) group → In (OfMember m) group → Lists n m (world_of ids rows))
    (terms_rise : TermsDoNotFall ids rows) (no_election : NoElectionComes ids rows)
    (knows : (p : ℕ) (store : Store) (moment word : ℕ) → In (OfMember p) group → knows_all (opening_by p (rules_of ids true) store moment word) ≡ true)
    (stay : MembersStayTidy ids rows) (none_missed : TidyMembersMissNobody ids rows) (nobody : MembersAskNobody ids rows) (logs_stay : LogsStay ids rows) (winners : WinnersCall ids rows)
    (return : CallsReturnToWhoLeadsOn ids rows) (settle : LeadersSettle ids rows)
    (last_low : (m : ℕ) (t : AllocatorState) → In (OfMember m) group → ((world_of ids rows).member m).status ≡ Up t
    → last_term t.raft_server.store.log ≤ t.raft_server.store.term) where
  abbrev w : Cluster
  w = world_of ids rows

  abbrev c : ℕ
  c = ends.c

  abbrev before : List Timed
  before = elected.before frames_leave ids members rows group clocks pace start longest ended whole s ends follow long Sized sized sized_kept sized_first lists terms_rise
      no_election

  abbrev x : Timed
  x = elected.x frames_leave ids members rows group clocks pace start longest ended whole s ends follow long Sized sized sized_kept sized_first lists terms_rise no_election

  abbrev few : List Timed
  few = elected.few frames_leave ids members rows group clocks pace start longest ended whole s ends follow long Sized sized sized_kept sized_first lists terms_rise
      no_election

  abbrev rest : List Timed
  rest = elected.rest frames_leave ids members rows group clocks pace start longest ended whole s ends follow long Sized sized sized_kept sized_first lists terms_rise
      no_election

  abbrev first : List Timed
  first = before ++ x ∷ []

  cut : whole ≡ first ++ (few ++ rest)
  cut = elected.cut frames_leave ids members rows group clocks pace start longest ended whole s ends follow long Sized sized sized_kept sized_first lists terms_rise
      no_election

  by_then : end_of (end_of start first) few ≤ ended
  by_then = elected.by_then frames_leave ids members rows group clocks pace start longest ended whole s ends follow long Sized sized sized_kept sized_first lists terms_rise
      no_election

  abbrev s_then : IsStart ids rows group clocks pace start longest (first ++ (few ++ rest))
  s_then = subst (IsStart ids rows group clocks pace start longest) cut s

  abbrev there : Cluster
  there = after_rows w (rows_in before)

  abbrev stored : AllocatorState
  stored = opened ids rows group clocks pace start (first ++ (few ++ rest)) s_then.restart c ends.member

  stored_up : (w.member c).status ≡ Up stored
  stored_up = (s_then.restart.opened c ends.member).runs

  -- it stood above the terms of its log
  earlier : last_term stored.raft_server.store.log < ends.term
  earlier =
      let low = last_low c stored ends.member stored_up in
      let rise = terms_rise group clocks pace start c [] ends.front (ends.timed ∷ ends.rest) stored ends.stands.before
      (all_run ids rows group clocks pace start whole s.restart) (subst (AreCalm group clocks pace (no_traffic start) w) ends.split s.restart.calm) ends.member
      stored_up ends.stands.runs in
      let next = ends.stands.next in omega (arith, low, rise, next)

  in_parts : whole ≡ before ++ x ∷ (few ++ rest)
  in_parts = cut ∙ append_assoc before (x ∷ []) (few ++ rest)

  anew : (t u : AllocatorState) → (there.member c).status ≡ Up t → ((after_row there x.row).member c).status ≡ Up u → knows_all t ≡ true
      → t.times.waits ≡ true → t.raft_server.memory.role ≢ Leader → u.raft_server.memory.role ≡ Leader
      → u.raft_server.store.term ≡ t.raft_server.store.term → HasJustWon t u
  anew t u up up_then knows_there waits none leads same_term =
      let sized_at = keeps_at w group clocks pace start whole s.restart.calm (all_run ids rows group clocks pace start whole s.restart) c ends.member Sized sized_kept
      (sized_first c ends.member) before (x ∷ (few ++ rest)) in_parts in
      begins_anew c there x.row t u
      (row_harmless w (rows_in before) (rows_in (few ++ rest)) x.row
      (subst (DoNoHarm w) (ap rows_in in_parts ∙ rows_both before (x ∷ (few ++ rest))) s.restart.harmless)) up up_then
      (sized t (subst Sized (same_server sized_at.0 t (sym sized_at.1 ∙ up)) sized_at.2)) knows_there waits none leads same_term

  -- so it comes back
  pub comes_back : ComesBackBy group clocks pace start ended (ended + settled_within pace longest) w whole
  comes_back = record {
    front = first;
    few = few;
    rest = rest;
    split = cut;
    soon = by_then;
    c = c;
    member = ends.member;
    term = ends.term;
    led = led_through;
    calm = elected.calm_then frames_leave ids members rows group clocks pace start longest ended whole s ends follow long Sized sized sized_kept sized_first lists
        terms_rise no_election;
    stored = stored;
    runs = stored_up;
    settles = settles ids members rows group clocks pace start longest before x (few ++ rest) s_then
        (λ p i. knows p (s_then.restart.opened p i).store (s_then.restart.opened p i).moment (s_then.restart.opened p i).word i) lists stay none_missed nobody logs_stay winners
        return settle c ends.term ends.member
        (elected.none_before frames_leave ids members rows group clocks pace start longest ended whole s ends follow long Sized sized sized_kept sized_first lists
        terms_rise no_election)
        (elected.none_there frames_leave ids members rows group clocks pace start longest ended whole s ends follow long Sized sized sized_kept sized_first lists
        terms_rise no_election)
        (elected.in_term frames_leave ids members rows group clocks pace start longest ended whole s ends follow long Sized sized sized_kept sized_first lists
        terms_rise no_election)
        earlier anew led_through (ended + settled_within pace longest)
        (let k = by_then in let low = first_low in omega (arith, k, low))
        (let e = ap (end_of start) cut in omega (arith, e, long));
  }
    where
      led_through : IsLedThroughout group c ends.term (after_rows w (rows_in first)) (few ++ rest)
      led_through = elected.led frames_leave ids members rows group clocks pace start longest ended whole s ends follow long Sized sized sized_kept sized_first lists
          terms_rise no_election

      first_low : end_of start first ≤ end_of (end_of start first) few
      first_low = not_before group clocks pace few (end_of start first) (after_rows w (rows_in first))
          (calm_first group clocks pace few rest (end_of start first) (after_rows w (rows_in first))
          (calm_rest group clocks pace first (few ++ rest) start w
          (record { traffic = no_traffic start; calm = s_then.restart.calm; at_end = refl; ticked = λ party. omega arith })))
