-- A leader settles in time: from where it leads to the law.
use Rattle.std.proofs.Common.{◌≡◌, ℕ, ◌+◌, ◌*◌, ◌<◌, ◌≤◌, Bool, List, [], ◌∷◌, ◌++◌, length, append_assoc, refl, sym, ◌∙◌, ap, subst, arith, inl, inr}
use Rattle.std.specs.Prelude.{◌⊎◌}
use Rattle.can_frame.specs.declared.entry.Entry.{Entry}
use Rattle.can_frame.specs.Log.{blank, last_term, log_limit}
use Rattle.can_frame.specs.Timing.{call_timeout}
use Rattle.raft_model.specs.Fit.{IsFit}
use Rattle.raft_model.specs.Invariants.{Invariants}
use Rattle.raft_model.specs.Lists.{In}
use Rattle.raft_model.specs.Log.{term_at}
use Rattle.raft_model.specs.Runs as raft
use Rattle.raft_model.specs.Server.{RaftServer}
use Rattle.raft_model.specs.Server.Role.{Leader}
use Rattle.raft_model.proofs.Stored.{last_below}
use Rattle.bus_rows.specs.declared.row.Row.{Row}
use Rattle.alloc_spec.specs.AllocatorState.{AllocatorState}
use Rattle.alloc_spec.specs.Transfers.{SentTransfer}
use Rattle.alloc_spec_laws.proofs.Choices.{lt_tells}
use Rattle.bus_agreement.specs.Shows.{Shows, ShowsMember, ShowsUp}
use Rattle.service_steps.proofs.Alone.{last_entry, one_longer}
use Rattle.bus_rows.specs.Timed.{Timed, rows_in}
use Rattle.service_alone.specs.Calm.{Pace, end_of}
use Rattle.service_calm.specs.Calm.{AreCalm, Member as OfMember, Party, no_traffic}
use Rattle.service_leader.specs.Entries.{IsCommittedBy, KeepsCalling, come_within}
use Rattle.service_leader.specs.NoElection.{CallsFit}
use Rattle.service_leader.specs.Entries.{calls_left}
use Rattle.service_device.specs.Recorded.{EachRowKeepsTheLog, LeaderSettles, LeadsWith}
use Rattle.service_device.specs.ServedTold.{HasRoomInSteps}
use Rattle.service_device.specs.Settled.{IsCalmUnder, IsNotAsked, NobodyAsks}
use Rattle.service_device.specs.Settles.{CanCatchUp, GrowsBy, HasComeToLead, HasSettledBy, MayHaveBlank, WaitsWithBlank, settle_within}
use Rattle.service_leader.proofs.Stretches.{end_both, world_both}
use Rattle.service_device.proofs.Served.{commits_inside}
use Rattle.service_device.proofs.ServedTold.{HasReached}
use Rattle.service_device.proofs.SettlesCommits.{StillLeads, still_leads}
use Rattle.service_device.proofs.SettlesFrom.{CutAt, carry, cut_at, front_in, leads_at}
use Rattle.service_device.proofs.SettlesHeard.{HasBlankBy, blank_by, heard_rows, known_then}
use Rattle.service_device.proofs.SettlesKnown.{HasCommitted, IsCalledBy, Knows, calls_stay, commit_kept, known_kept}
use Rattle.service_device.proofs.SettlesTells.{tells_all, told_kept}
use Rattle.service_device.specs.ServiceBelow.{ServiceGrounds}
use Rattle.alloc_spec.specs.ClusterMembers.{AreMembers}
use Rattle.bus_spec.specs.Cluster.{Cluster, after_row, after_rows, cluster, world_of}
use Rattle.bus_spec.specs.Lawful.{DoNoHarm}
use Rattle.bus_spec.specs.Members.{MemberStatus}
use Rattle.bus_spec.specs.Members.MemberStatus.{Up}

-- ---- where nobody asks

nobody_at : (n : ℕ) (front rest : List Timed) (timed : Timed) (w : Cluster) → NobodyAsks n w (front ++ timed ∷ rest)
    → IsNotAsked n (after_rows w (rows_in front)) timed.row
nobody_at n [] rest timed w none = none.0
nobody_at n (x ∷ front) rest timed w none = nobody_at n front rest timed (after_row w x.row) none.1

-- no request makes the log grow
pub settles_unasked : (n term : ℕ) (log : List Entry) (ahead start last : ℕ) (w : Cluster) (rows : List Timed) → NobodyAsks n w rows
    → HasSettledBy n term log ahead start last w rows ⊎ GrowsBy n term log ahead start last w rows → HasSettledBy n term log ahead start last w rows
settles_unasked n term log ahead start last w rows none (inl settled) = settled
settles_unasked n term log ahead start last w rows none (inr grows) =
    absurd (nobody_at n grows.front grows.rest grows.timed w (subst (NobodyAsks n w) grows.split none) grows.message grows.asked)

-- ---- servers of a run

-- what is so of each server that a member of a run has
pub record IsFitting (t : AllocatorState) : Type 0 where
  pub commit : t.raft_server.store.commit ≤ length t.raft_server.store.log
  pub told : t.raft_server.memory.told ≤ t.raft_server.store.commit
  pub last : length t.raft_server.store.log ≤ log_limit
  pub terms : last_term t.raft_server.store.log ≤ t.raft_server.store.term
  pub next : t.raft_server.memory.role ≡ Leader → (peer : ℕ) → t.raft_server.memory.next peer ≤ length t.raft_server.store.log + 1

-- so it is of a server of a world that rows show
pub is_fitting : (choice : ℕ → Bool) (made : List SentTransfer) (w : Cluster) (run : raft.World) → Shows choice made w run → Invariants run
    → ((member : ℕ) → IsFit member (run.server member)) → (n : ℕ) (t : AllocatorState) → In n w.ids → (w.member n).status ≡ Up t → IsFitting t
is_fitting choice made w run shows invariants fit n t listed up = record {
  commit = commits_inside choice made w run shows invariants n t listed up;
  told = its.told;
  last = subst (λ (s : RaftServer). length s.store.log ≤ log_limit) shown.runs.raft_server (invariants.stores n).last;
  terms = subst (λ (s : RaftServer). last_term s.store.log ≤ s.store.term) shown.runs.raft_server
      (last_below (run.server n).store.log (run.server n).store.term (invariants.stores n).rising);
  next = λ leads peer. (its.peers leads peer).most;
}
  where
    shown : ShowsUp made w.ids w.frames run n t (w.member n).disk
    shown = subst (λ (status : MemberStatus). ShowsMember choice made w.ids w.frames run n status (w.member n).disk) up (shows.lives n listed)

    its : IsFit n t.raft_server
    its = subst (IsFit n) shown.runs.raft_server (fit n)

module _ (below : ServiceGrounds) (ids : List ℕ) (members : AreMembers ids) (rows : List Row) (harmless : DoNoHarm (cluster ids) rows)
    (keeps_row : EachRowKeepsTheLog ids rows) (settles : LeaderSettles)
    (group : List Party) (clocks : Party → ℕ) (pace : Pace) (start n term : ℕ) (log : List Entry) (more untold one : ℕ) (next : List ℕ) (first later : List Timed)
    (under : IsCalmUnder ids rows group clocks pace start n term first later)
    (fitting : (front rest : List Timed) (t : AllocatorState) → first ++ later ≡ front ++ rest
    → ((after_rows (world_of ids rows) (rows_in front)).member n).status ≡ Up t → IsFitting t)
    (new : HasComeToLead ids n log (end_of start first + clocks (OfMember n)) (after_rows (world_of ids rows) (rows_in first)))
    (few : length log ≤ new.server.raft_server.memory.told + untold)
    (fits : CallsFit n (world_of ids rows) (first ++ later)) (room : HasRoomInSteps n (after_rows (world_of ids rows) (rows_in first)) later)
    (short : 4 * pace.delay < call_timeout)
    (others : CanCatchUp ids group n more pace.delay (one ∷ next) new.server (world_of ids rows) first later)
    (long : end_of start first + settle_within pace more untold < end_of start (first ++ later)) where
  abbrev w : Cluster
  w = world_of ids rows

  abbrev led_from : Cluster
  led_from = after_rows w (rows_in first)

  abbrev from : ℕ
  from = end_of start first

  abbrev at : List Timed → Cluster
  at a = after_rows led_from (rows_in a)

  abbrev last : ℕ
  last = from + settle_within pace more untold

  -- until the followers have the log, and until the blank is committed
  abbrev by_heard : ℕ
  by_heard = from + come_within pace more

  abbrev by_commit : ℕ
  by_commit = by_heard + come_within pace 1

  abbrev Ends : Type 0
  Ends = HasSettledBy n term log (clocks (OfMember n)) from last led_from later ⊎ GrowsBy n term log (clocks (OfMember n)) from last led_from later

  long_later : last < end_of from later
  long_later = let l = long in let e = end_both start first later in omega (arith, l, e)

  fitting_at : (a b : List Timed) (t : AllocatorState) → later ≡ a ++ b → ((at a).member n).status ≡ Up t → IsFitting t
  fitting_at a b t cut up = fitting (first ++ a) b t (ap (λ (l : List Timed). first ++ l) cut ∙ sym (append_assoc first a b))
      (subst (λ (v : Cluster). (v.member n).status ≡ Up t) (sym (world_both w first a)) up)

  sane : (a b : List Timed) (t : AllocatorState) → later ≡ a ++ b → ((at a).member n).status ≡ Up t → t.raft_server.store.commit ≤ length t.raft_server.store.log
  sane a b t cut up = (fitting_at a b t cut up).commit

  fit : (a b : List Timed) (t : AllocatorState) → later ≡ a ++ b → ((at a).member n).status ≡ Up t → t.raft_server.memory.told ≤ t.raft_server.store.commit
  fit a b t cut up = (fitting_at a b t cut up).told

  -- what was told at first is told
  told_at : (a b : List Timed) → later ≡ a ++ b → (t : AllocatorState) → ((at a).member n).status ≡ Up t → HasReached new.server.raft_server.memory.told t.raft_server
  told_at a b cut t up = carry w group clocks pace start n first later under.calm (under.running n under.member)
      (λ (s : AllocatorState). HasReached new.server.raft_server.memory.told s.raft_server) (told_kept below.judged new.server.raft_server.memory.told) [] a b
      cut new.server new.runs
      (record {
        sane = sane [] later new.server refl new.runs;
        told = omega arith;
        committed = new.told;
      }) t up

  -- it leads with this log, and adds no blank
  at_first : (new.server.raft_server.store.commit ≡ length log) ⊎ (last_term log ≡ new.server.raft_server.store.term)
      → LeadsWith n log new.server.accepted (from + clocks (OfMember n)) led_from
  at_first no_blank = record {
    server = new.server;
    runs = new.runs;
    faults = new.faults;
    disk = new.disk;
    leads = new.leads;
    log_is = new.log_is;
    no_blank = no_blank;
    requests = refl;
    clock = new.clock;
    status = new.status;
    last_request = new.requests;
    known = new.known;
    discovery = new.discovery;
  }

  -- ---- where the whole log is committed

  settles_committed : new.server.raft_server.store.commit ≡ length log → Ends
  unfolding at_first
  settles_committed all = tells_all ids rows group clocks pace start n term first later under keeps_row below.judged log log (inl refl) sane fit below.tell settles room
      last long_later untold new.server.raft_server.memory.told [] later refl (omega arith)
      (record { accepted = new.server.accepted; leads = at_first (inl all) }) all (told_at [] later refl) few

  -- ---- where the last entry is of its own term

  cut_commit : CutAt from by_commit later
  cut_commit = cut_at later from by_commit (omega arith) (let l = long_later in omega (arith, l))

  abbrev C : List Timed
  C = cut_commit.front

  abbrev D : List Timed
  D = cut_commit.next ∷ cut_commit.rest

  abbrev Growth : Type 0
  Growth = GrowsBy n term log (clocks (OfMember n)) from last led_from later

  module _ (longer : List Entry) (its_log : MayHaveBlank log term longer) (own_last : last_term longer ≡ term) where
    abbrev On : List Timed → Type 0
    On = StillLeads ids rows group clocks pace start n term first later under keeps_row below.judged log longer its_log sane

    -- it goes on so behind more rows, or a request makes the log grow
    goes_on : (F G tail H : List Timed) → G ≡ F ++ tail → later ≡ G ++ H → end_of from G ≤ last → On F → On G ⊎ Growth
    goes_on F G tail H joined cut soon on = subst (λ (l : List Timed). On l ⊎ Growth) (sym joined)
        (still_leads ids rows group clocks pace start n term first later under keeps_row below.judged log longer its_log sane last tail F H
        (cut ∙ (ap (λ (l : List Timed). l ++ H) joined ∙ append_assoc F tail H))
        (let e = ap (λ (l : List Timed). end_of from l) joined in omega (arith, soon, e)) on)

    module _ (F R : List Timed) (cut : later ≡ F ++ R) (k : ℕ) (soon : end_of from F + come_within pace k ≤ by_commit) (on : On F)
        (left : (m : ℕ) → In m (one ∷ next) → calls_left on.leads.server m ≤ k) where
      abbrev u : AllocatorState
      u = on.leads.server

      whole : first ++ later ≡ first ++ (F ++ R)
      whole = ap (λ (l : List Timed). first ++ l) cut

      own : term_at u.raft_server.store.log (length u.raft_server.store.log) ≡ term
      own = ap (λ (l : List Entry). term_at l (length l)) on.leads.log_is ∙ own_last

      committed : IsCommittedBy n (length u.raft_server.store.log) (end_of from F + come_within pace k) start w (first ++ (F ++ R))
      committed = below.committed ids rows members harmless group clocks pace start n term k one next first F R u under.listed under.running under.member others.apart others.many short
          (subst (AreCalm group clocks pace (no_traffic start) w) whole under.calm)
          (subst (λ (l : List Timed). DoNoHarm w (rows_in l)) whole under.harmless)
          (λ a b e. under.led a b (cut ∙ e))
          (subst (CallsFit n w) whole fits)
          (λ m i. subst (KeepsCalling n m pace.delay w first) cut (others.calling m i)) on.leads.runs left own
          (let l = long in let e = ap (λ (l : List Timed). end_of start l) whole in omega (arith, soon, l, e))

      -- so all is committed behind the rows that end by then
      at_whole : CutAt start by_commit (first ++ later)
      at_whole = record {
        front = first ++ C;
        next = cut_commit.next;
        rest = cut_commit.rest;
        split = ap (λ (l : List Timed). first ++ l) cut_commit.split ∙ sym (append_assoc first C D);
        soon = let s = cut_commit.soon in let e = end_both start first C in omega (arith, s, e);
        beyond = cut_commit.beyond;
      }

      all_committed : (then_ : On C) → then_.leads.server.raft_server.store.commit ≡ length longer
      unfolding at_whole cut_commit
      all_committed then_ =
          let v = then_.leads.server in
          let split : first ++ later ≡ committed.front ++ committed.rest = whole ∙ committed.split in
          let inside = front_in w group clocks pace start n [] (first ++ later) under.calm (under.running n under.member) by_commit at_whole committed.front committed.rest split
          (let s = committed.soon in omega (arith, s, soon)) in
          let kept : HasCommitted below.judged (length longer) v.raft_server = carry w group clocks pace start n [] (first ++ later) under.calm (under.running n under.member)
          (λ (s : AllocatorState). HasCommitted below.judged (length longer) s.raft_server) (commit_kept below.judged (length longer)) committed.front inside.0 D
          (at_whole.split ∙ (ap (λ (l : List Timed). l ++ D) inside.1 ∙ append_assoc committed.front inside.0 D))
          committed.leader committed.leads
          (record {
            sane = (fitting committed.front committed.rest committed.leader split committed.leads).commit;
            commit = let c = committed.committed in let l = ap (λ (l : List Entry). length l) on.leads.log_is in omega (arith, c, l);
          })
          v (subst (λ (l : List Timed). ((after_rows w (rows_in l)).member n).status ≡ Up v) inside.1
          (subst (λ (x : Cluster). (x.member n).status ≡ Up v) (sym (world_both w first C)) then_.leads.runs)) in
          let c = kept.commit in
          let s = kept.sane in
          let l = ap (λ (l : List Entry). length l) then_.leads.log_is in omega (arith, c, s, l)

      a_blank_more : length longer ≤ length log + 1
      a_blank_more = elim its_log [
        | inl same ↦ let l = ap (λ (l : List Entry). length l) same in omega (arith, l)
        | inr added ↦ let l = ap (λ (l : List Entry). length l) added in let e = one_longer log (blank term) in omega (arith, l, e)
      ]

      ends : Ends
      ends =
          let inside = front_in w group clocks pace start n first later under.calm (under.running n under.member) by_commit cut_commit F R cut
          (omega (arith, soon)) in
          elim (goes_on F C inside.0 D inside.1 cut_commit.split (let s = cut_commit.soon in omega (arith, s)) on) [
            | inr growth ↦ inr growth
            | inl then_ ↦ tells_all ids rows group clocks pace start n term first later under keeps_row below.judged log longer its_log sane fit below.tell settles room
                last long_later (untold + 1) new.server.raft_server.memory.told C D cut_commit.split
                (let s = cut_commit.soon in omega (arith, s)) then_ (all_committed then_) (told_at C D cut_commit.split)
                (let e = a_blank_more in let f = few in omega (arith, e, f))
          ]

  -- so it is where it leads, if it has an entry of its own term already
  settles_with_own : last_term log ≡ new.server.raft_server.store.term → Ends
  unfolding at_first
  settles_with_own own = ends log (inl refl) (own ∙ its_term) [] later refl more (omega arith)
      (record { accepted = new.server.accepted; leads = at_first (inr own) }) others.few
    where
      its_term : new.server.raft_server.store.term ≡ term
      its_term = (leads_at ids rows group clocks pace start n term first later under [] later refl new.server new.runs).1

  -- ---- where it waits with its blank

  module _ (some : new.server.raft_server.store.commit < length log) (waiting : WaitsWithBlank ids n log new.server) where
    abbrev longer : List Entry
    longer = log ++ blank term ∷ []

    long_heard : from + come_within pace more < end_of start (first ++ later)
    long_heard = let l = long in omega (arith, l)

    heard : CutAt from by_heard later
    heard = heard_rows below ids members rows harmless group clocks pace start n term first later
        under log more one next new fits short others long_heard

    abbrev F : List Timed
    F = heard.front

    abbrev R : List Timed
    R = heard.next ∷ heard.rest

    own_last : last_term longer ≡ term
    own_last = ap (λ (e : Entry). e.term) (last_entry log (blank term))

    abbrev OnBlank : List Timed → Type 0
    OnBlank = StillLeads ids rows group clocks pace start n term first later under keeps_row below.judged log longer (inr refl) sane

    abbrev Comes : Type 0
    Comes = HasBlankBy below ids members rows harmless group clocks pace start n term first later
        under log more one next new fits short others long_heard by_heard

    -- it has the blank behind these rows, or a request made the log grow
    with_blank : Comes → OnBlank F ⊎ Growth
    with_blank comes =
        let inside = front_in w group clocks pace start n first later under.calm (under.running n under.member) by_heard heard comes.front comes.rest comes.split
        comes.soon in
        goes_on longer (inr refl) own_last comes.front F inside.0 R inside.1 heard.split (let s = heard.soon in omega (arith, s))
        (record { accepted = comes.has.accepted; leads = comes.has.leads })

    on_heard : OnBlank F ⊎ Growth
    on_heard = elim (blank_by below ids members rows harmless group clocks pace start n term first later
        under log more one next new fits short others long_heard some waiting) [
          | inl comes ↦ with_blank comes
          | inr g ↦ inr (record {
            front = g.front;
            timed = g.timed;
            rest = g.rest;
            split = g.split;
            soon = let s = g.soon in omega (arith, s);
            log_then = g.log_then;
            its_log = g.its_log;
            message = g.message;
            asked = g.asked;
            grows = g.grows;
          })
        ]

    module _ (on : OnBlank F) where
      abbrev v : AllocatorState
      v = on.leads.server

      size : length v.raft_server.store.log ≡ length log + 1
      size = let e = one_longer log (blank term) in let l = ap (λ (l : List Entry). length l) on.leads.log_is in omega (arith, e, l)

      -- it calls each of them next behind its former log, or behind the places that it knows the member to have
      called : (m : ℕ) → IsCalledBy (length log + 1) (v.raft_server.memory.matched m) (v.raft_server.memory.next m)
      called m =
          elim (carry w group clocks pace start n first later under.calm (under.running n under.member)
          (λ (s : AllocatorState). Knows m term (IsCalledBy (length log + 1)) (calls_stay (length log + 1)) s.raft_server)
          (known_kept m term (IsCalledBy (length log + 1)) (calls_stay (length log + 1))) [] F R heard.split new.server new.runs
          (inr (
            leads_at ids rows group clocks pace start n term first later under [] later refl new.server new.runs,
            let most = (fitting_at [] later new.server refl new.runs).next new.leads m in
                let l = ap (λ (l : List Entry). length l) new.log_is in omega (arith, most, l),
          ))
          v on.leads.runs) [
            | inl high ↦ let t = (leads_at ids rows group clocks pace start n term first later under F R heard.split v on.leads.runs).1 in absurd (omega (arith, high, t))
            | inr k ↦ k.1
          ]

      -- so a call at most is left to each of the others
      one_left : (m : ℕ) → In m (one ∷ next) → calls_left v m ≤ 1
      unfolding heard
      one_left m i =
          let known = known_then below ids members rows harmless group clocks pace start n term first
          later under log more one next new fits short others long_heard m i v on.leads.runs in
          let most = called m in
          let s = size in omega (arith, known, most, s)

      ends_then : Ends
      ends_then = ends longer (inr refl) own_last F R heard.split 1 (let s = heard.soon in omega (arith, s)) on one_left

    settles_later : Ends
    settles_later = elim on_heard [ inr growth ↦ inr growth | inl on ↦ ends_then on ]

  -- ---- the law

  pub leader_settles_in_time : Ends
  leader_settles_in_time = elim (lt_tells new.server.raft_server.store.commit (length log)) [
    | inl z ↦ elim (new.waits z.1) [ inl waiting ↦ settles_later z.1 waiting | inr own ↦ settles_with_own own ]
    | inr z ↦
        let inside = (fitting_at [] later new.server refl new.runs).commit in
        let h = z.1 in
        let l = ap (λ (l : List Entry). length l) new.log_is in
        settles_committed (omega (arith, inside, h, l))
  ]
