-- A leader's log stays in a calm: from where the calm begins.
use Rattle.std.proofs.Common.{◌≡◌, ℕ, ◌+◌, ◌<◌, List, [], ◌∷◌, ◌++◌, length, refl, sym, ◌∙◌, ap, subst, arith, inl, inr, max, false}
use Rattle.alloc_exchange.specs.Exchange.{Accepted, after, answer}
use Rattle.can_frame.specs.declared.entry.Entry.{Entry}
use Rattle.can_frame.specs.Log.{log_limit}
use Rattle.dsdl_codec.specs.declared.allocation.Allocation.{Allocation}
use Rattle.raft_model.specs.Lists.{In}
use Rattle.bus_rows.specs.declared.row.Row.{Row}
use Rattle.alloc_spec.specs.AllocatorState.{AllocatorState}
use Rattle.alloc_spec.specs.Exchange.{may_follow}
use Rattle.bus_rows.specs.Timed.{Timed, rows_in}
use Rattle.service_alone.specs.Calm.{Pace, end_of}
use Rattle.service_calm.specs.Calm.{Member as OfMember, Party}
use Rattle.service_calm.specs.Comes.{Throughout}
use Rattle.service_leader.specs.LeadsOn.{IsLed}
use Rattle.service_device.specs.Recorded.{EachRowKeepsTheLog, Grows, IsUncommitted, KeepsLog, LeadsWith, LogStaysUnasked, LogStaysUncommitted}
use Rattle.service_device.specs.Settled.{IsAsked, MissesNobody, NobodyAsks, NobodyIsMissed}
use Rattle.service_calm.proofs.Pair.{same_server}
use Rattle.service_device.proofs.RecordedRows.{accepts_none, gives_none, makes_none_whole}
use Rattle.service_device.proofs.RecordedStays.{in_office, keeps_log}
use Rattle.service_device.proofs.SettledLaw as from_start
use Rattle.service_device.proofs.SettledStays.{AsksOrNot, IsReached, LedIn, ListsAll, after_one, asked_or_not, harmless_first, its_me, led_after, lists_after, nodes, tells_low}
use Rattle.service_device.specs.ServiceBelow.{ServiceGrounds}
use Rattle.alloc_spec.specs.ClusterMembers.{AreMembers}
use Rattle.bus_spec.specs.Cluster.{Cluster, after_row, after_rows, cluster, world_of}
use Rattle.bus_spec.specs.Lawful.{DoNoHarm, DoesNoHarm}

module _ (below : ServiceGrounds) (group : List Party) (clocks : Party → ℕ) (pace : Pace) (ids : List ℕ) (members : AreMembers ids)
    (listed : (p : ℕ) → In (OfMember p) group → In p ids)
    (n term : ℕ) (log : List Entry) (member : In (OfMember n) group) where
  abbrev Reached : ℕ → Cluster → List Timed → Type 0
  Reached = IsReached below group clocks pace ids members listed

  abbrev Lists : Cluster → Type 0
  Lists = ListsAll below group clocks pace ids members listed n term log member

  abbrev Led : Cluster → List Timed → Type 0
  Led = LedIn below group clocks pace ids members listed n term log member

  abbrev clock : ℕ → ℕ
  clock moment = moment + clocks (OfMember n)

  -- a row leaves it with its log
  pub row_keeps : (moment : ℕ) (w : Cluster) (timed : Timed) (rest : List Timed) (h : Reached moment w (timed ∷ rest)) (harm : DoesNoHarm w timed.row)
      (accepted : List Accepted) → IsLed group n term w → Lists w → MissesNobody n w timed.row → LeadsWith n log accepted (clock moment) w
      → KeepsLog n log accepted (clock timed.at) w timed.row
  row_keeps moment w timed rest h harm accepted led lists missed is =
      keeps_log below.calm.frame group clocks pace n term log accepted (clock moment) timed.at h.traffic w
      (nodes below group clocks pace ids members listed) member h.flies lists
      (omega (arith, h.calm.0.moments, h.at_end)) is.server (in_office n term log accepted (clock moment) w is led.leader)
      (its_me below group clocks pace ids members listed n term log member moment w timed rest h harm is.server is.runs) timed.row h.calm.1
      (tells_low below group clocks pace ids members listed n term log member moment w timed rest h harm is.server is.runs led) missed

  -- ---- all rows

  next_reached : (moment : ℕ) (w : Cluster) (timed : Timed) (rest : List Timed) → Reached moment w (timed ∷ rest) → DoesNoHarm w timed.row
      → Reached timed.at (after_row w timed.row) rest
  next_reached = after_one below group clocks pace ids members listed

  next_led : (w : Cluster) (timed : Timed) (front : List Timed) → Led w (timed ∷ front) → Led (after_row w timed.row) front
  next_led = led_after below group clocks pace ids members listed n term log member

  next_lists : (moment : ℕ) (w : Cluster) (timed : Timed) (rest : List Timed) → Reached moment w (timed ∷ rest) → DoesNoHarm w timed.row → Lists w
      → Lists (after_row w timed.row)
  next_lists moment w timed rest h harm =
      lists_after below group clocks pace ids members listed n term log member moment w timed rest h harm

  -- where nobody asks
  pub log_stays_unasked : (accepted : List Accepted) (front rest : List Timed) (moment : ℕ) (w : Cluster) → Reached moment w (front ++ rest) → DoNoHarm w (rows_in front)
      → Led w front → Lists w → NobodyIsMissed n w front → NobodyAsks n w front → LeadsWith n log accepted (clock moment) w
      → LeadsWith n log accepted (clock (end_of moment front)) (after_rows w (rows_in front))
  log_stays_unasked accepted [] rest moment w h harm led lists missed none is = is
  log_stays_unasked accepted (timed ∷ front) rest moment w h harm led lists missed none is =
      log_stays_unasked accepted front rest timed.at (after_row w timed.row) (next_reached moment w timed (front ++ rest) h harm.0) harm.1 (next_led w timed front led)
      (next_lists moment w timed (front ++ rest) h harm.0 lists) missed.1 none.1
      ((row_keeps moment w timed (front ++ rest) h harm.0 accepted (led [] (timed ∷ front) refl) lists missed.0 is).unasked none.0)

  -- while its log is not committed, and has room
  module _ (room : length log < log_limit) where
    uncommitted_row : (moment : ℕ) (w : Cluster) (timed : Timed) → IsUncommitted n w → LeadsWith n log [] (clock moment) w
        → KeepsLog n log [] (clock timed.at) w timed.row → LeadsWith n log [] (clock timed.at) (after_row w timed.row)
    uncommitted_row moment w timed waits is one = by (asked_or_not n w is.server is.runs timed.row)
      where
        its_server : (message : Allocation) (asked : IsAsked n message w timed.row) → is.server ≡ asked.comes.server
        its_server message asked = same_server is.server asked.comes.server (sym is.runs ∙ asked.comes.runs)

        follows_not : (message : Allocation) (asked : IsAsked n message w timed.row) → may_follow asked.comes.server ≡ false
        follows_not message asked = gives_none asked.comes.server (waits asked.comes.server asked.comes.runs)
            (let e = ap (λ (t : AllocatorState). length t.raft_server.store.log) (its_server message asked) in
            let l = ap (λ (l : List Entry). length l) is.log_is in omega (arith, e, l, room))

        none_whole : (message : Allocation) (asked : IsAsked n message w timed.row) → Grows n log (clock timed.at) message w timed.row asked → ⊥
        none_whole message asked g = makes_none_whole message (max asked.comes.server.now asked.comes.ms) (may_follow asked.comes.server) g.uid g.preferred
            ((λ i. answer (sym (sym (ap (λ (t : AllocatorState). t.accepted) (its_server message asked)) ∙ is.requests) i) message
            (max asked.comes.server.now asked.comes.ms) (may_follow asked.comes.server)) ∙ g.whole)

        by : AsksOrNot n w timed.row → LeadsWith n log [] (clock timed.at) (after_row w timed.row)
        by (inr not_asked) = one.unasked not_asked
        by (inl (message, asked)) = elim (one.asked message asked) [
          | inl g ↦ absurd (none_whole message asked g)
          | inr leads ↦ subst (λ (l : List Accepted). LeadsWith n log l (clock timed.at) (after_row w timed.row))
              (ap (λ b. after [] message (max asked.comes.server.now asked.comes.ms) b) (follows_not message asked)
              ∙ accepts_none message (max asked.comes.server.now asked.comes.ms)) leads
        ]

    pub log_stays_uncommitted : (front rest : List Timed) (moment : ℕ) (w : Cluster) → Reached moment w (front ++ rest) → DoNoHarm w (rows_in front)
        → Led w front → Lists w → NobodyIsMissed n w front → Throughout (IsUncommitted n) w front → LeadsWith n log [] (clock moment) w
        → LeadsWith n log [] (clock (end_of moment front)) (after_rows w (rows_in front))
    log_stays_uncommitted [] rest moment w h harm led lists missed waits is = is
    log_stays_uncommitted (timed ∷ front) rest moment w h harm led lists missed waits is =
        log_stays_uncommitted front rest timed.at (after_row w timed.row) (next_reached moment w timed (front ++ rest) h harm.0) harm.1 (next_led w timed front led)
        (next_lists moment w timed (front ++ rest) h harm.0 lists) missed.1 waits.1
        (uncommitted_row moment w timed waits.0 is (row_keeps moment w timed (front ++ rest) h harm.0 [] (led [] (timed ∷ front) refl) lists missed.0 is))

-- ---- the law

module _ (below : ServiceGrounds) (ids : List ℕ) (members : AreMembers ids) (rows : List Row) (harmless : DoNoHarm (cluster ids) rows) where
  abbrev w : Cluster
  w = world_of ids rows

  pub each_row_keeps : EachRowKeepsTheLog ids rows
  each_row_keeps group clocks pace start n term log accepted first front rest timed under is =
      row_keeps below group clocks pace ids members under.listed
      n term log under.member (end_of (end_of start first) front) (after_rows (after_rows w (rows_in first)) (rows_in front)) timed rest
      (from_start.reached below ids members rows harmless group clocks pace start n term first front (timed ∷ []) rest under)
      (from_start.harm below ids members rows harmless group clocks pace start n term first front (timed ∷ []) rest under).1.0 accepted
      (from_start.led below ids members rows harmless group clocks pace start n term first front (timed ∷ []) rest under [] (timed ∷ []) refl)
      (from_start.lists below ids members rows harmless group clocks pace start n term first front (timed ∷ []) rest under)
      (from_start.missed below ids members rows harmless group clocks pace start n term first front (timed ∷ []) rest under).0 is

  pub stays_uncommitted : LogStaysUncommitted ids rows
  stays_uncommitted group clocks pace start n term log first early front rest under room is waits =
      let there = after_rows (after_rows w (rows_in first)) (rows_in early) in
      log_stays_uncommitted below group clocks pace ids members under.listed n term log under.member room front rest (end_of (end_of start first) early) there
      (from_start.reached below ids members rows harmless group clocks pace start n term first early front rest under)
      (harmless_first front rest there (from_start.harm below ids members rows harmless group clocks pace start n term first early front rest under).1).0
      (from_start.led below ids members rows harmless group clocks pace start n term first early front rest under)
      (from_start.lists below ids members rows harmless group clocks pace start n term first early front rest under)
      (from_start.missed below ids members rows harmless group clocks pace start n term first early front rest under) waits is

  pub stays_unasked : LogStaysUnasked ids rows
  stays_unasked group clocks pace start n term log accepted first early front rest under is none =
      let there = after_rows (after_rows w (rows_in first)) (rows_in early) in
      log_stays_unasked below group clocks pace ids members under.listed n term log under.member accepted front rest (end_of (end_of start first) early) there
      (from_start.reached below ids members rows harmless group clocks pace start n term first early front rest under)
      (harmless_first front rest there (from_start.harm below ids members rows harmless group clocks pace start n term first early front rest under).1).0
      (from_start.led below ids members rows harmless group clocks pace start n term first early front rest under)
      (from_start.lists below ids members rows harmless group clocks pace start n term first early front rest under)
      (from_start.missed below ids members rows harmless group clocks pace start n term first early front rest under) none is
