-- A leader that waits with its blank, in all rows of a calm: it waits on, or in one of them the blank has come, or a
-- request of a device makes its log grow.
use Rattle.std.proofs.Common.{◌≡◌, ℕ, ◌+◌, ◌<◌, true, List, [], ◌∷◌, ◌++◌, length, refl, sym, ◌∙◌, ap, subst, arith, inl, inr}
use Rattle.std.specs.Prelude.{◌⊎◌}
use Rattle.can_frame.specs.declared.entry.Entry.{Entry}
use Rattle.can_frame.specs.Log.{last_term, log_limit}
use Rattle.raft_model.specs.Lists.{In}
use Rattle.raft_model.specs.Members.{IsAll}
use Rattle.alloc_spec.specs.AllocatorState.{AllocatorState, members_of}
use Rattle.alloc_spec_laws.proofs.LeadersBlanks.{goes_on_to_wait}
use Rattle.bus_rows.specs.Timed.{Timed, rows_in}
use Rattle.service_alone.specs.Calm.{Pace, end_of}
use Rattle.service_calm.specs.Calm.{Member as OfMember, Party}
use Rattle.service_leader.specs.LeadsOn.{IsLed}
use Rattle.service_device.specs.Settled.{MissesNobody, NobodyIsMissed}
use Rattle.service_calm.proofs.Calls.{Always}
use Rattle.service_calm.proofs.CallsKept.{IsKept, further}
use Rattle.service_calm.proofs.Pair.{same_server}
use Rattle.service_leader.proofs.TermsHeard.{IsOfRun}
use Rattle.service_device.proofs.SettledStays.{IsReached, LedIn, ListsAll, after_one, its_me, led_after, lists_after, nodes, tells_low}
use Rattle.service_device.proofs.SettlesRows.{GrowsIn, HasBlank, IsInWait, lists_all, waits_or_adds}
use Rattle.service_device.specs.ServiceBelow.{ServiceGrounds}
use Rattle.service_leader.proofs.TermsRun.{of_run}
use Rattle.alloc_spec.specs.ClusterMembers.{AreMembers}
use Rattle.bus_spec.specs.Cluster.{Cluster, after_row, after_rows, cluster}
use Rattle.bus_spec.specs.Lawful.{DoNoHarm, DoesNoHarm}
use Rattle.bus_spec.specs.Members.MemberStatus.{Up}

-- who waits with its blank goes on to wait
abbrev IsTold : AllocatorState → Type 0
IsTold t = t.times.waits ≡ true

told_kept : IsKept Always IsTold
told_kept = record { stepped = λ t number event may h. goes_on_to_wait t number event ∙ h; popped = λ t h. h }

module _ (below : ServiceGrounds) (group : List Party) (clocks : Party → ℕ) (pace : Pace) (ids : List ℕ) (members : AreMembers ids)
    (listed : (p : ℕ) → In (OfMember p) group → In p ids)
    (n term : ℕ) (log : List Entry) (member : In (OfMember n) group) (earlier : last_term log < term) (room : length log < log_limit) where
  abbrev Reached : ℕ → Cluster → List Timed → Type 0
  Reached = IsReached below group clocks pace ids members listed

  abbrev Lists : Cluster → Type 0
  Lists = ListsAll below group clocks pace ids members listed n term log member

  abbrev Led : Cluster → List Timed → Type 0
  Led = LedIn below group clocks pace ids members listed n term log member

  abbrev clock : ℕ → ℕ
  clock moment = moment + clocks (OfMember n)

  -- it waits, and was told its list
  pub record Waits (moment : ℕ) (w : Cluster) : Type 0 where
    pub is : IsInWait ids n term log (clock moment) w
    pub told : is.server.times.waits ≡ true

  -- the blank has come behind some of these rows
  pub record BlankComes (moment : ℕ) (w : Cluster) (rows : List Timed) : Type 0 where
    pub early : List Timed
    pub late : List Timed
    pub split : rows ≡ early ++ late
    pub has : HasBlank ids n term log (clock (end_of moment early)) (after_rows w (rows_in early))

  -- a request makes the log grow in one of these rows
  pub record LogGrows (moment : ℕ) (w : Cluster) (rows : List Timed) : Type 0 where
    pub early : List Timed
    pub row : Timed
    pub late : List Timed
    pub split : rows ≡ early ++ row ∷ late
    pub grows : GrowsIn ids n term log (clock row.at) (after_rows w (rows_in early)) row.row

  -- it waits no more behind these rows
  abbrev pub EndsIn : ℕ → Cluster → List Timed → Type 0
  EndsIn moment w rows = BlankComes moment w rows ⊎ LogGrows moment w rows

  module _ (moment : ℕ) (w : Cluster) (timed : Timed) (rest : List Timed) (h : Reached moment w (timed ∷ rest)) (harm : DoesNoHarm w timed.row)
      (led : IsLed group n term w) (lists : Lists w) (missed : MissesNobody n w timed.row) (waits : Waits moment w) where
    abbrev t : AllocatorState
    t = waits.is.server

    same_ids : w.ids ≡ ids
    same_ids = sym (ap (λ (v : Cluster). v.ids) h.reached) ∙ below.calm.same (cluster ids) h.rows

    all : IsAll (members_of t) ids
    all = subst (IsAll (members_of t)) same_ids (lists_all below.calm.more w (subst IsOfRun h.reached (of_run below.calm ids members h.rows h.harmless)) (subst AreMembers (sym same_ids) members) n t
        (subst (λ (l : List ℕ). In n l) (sym same_ids) (listed n member)) waits.is.its.up.status waits.is.its.done.leads.0)

    told_then : (u : AllocatorState) → ((after_row w timed.row).member n).status ≡ Up u → IsTold u
    told_then u up =
        let goes = further Always IsTold told_kept group clocks pace n (timed ∷ []) rest w (λ timed i. tt)
        (record { traffic = h.traffic; calm = h.calm; runs = record { server = t; up = waits.is.its.up; holds = waits.told } }) in
        subst IsTold (same_server goes.runs.server u (sym goes.runs.up.status ∙ up)) goes.runs.holds

    one : (IsInWait ids n term log (clock timed.at) (after_row w timed.row) ⊎ HasBlank ids n term log (clock timed.at) (after_row w timed.row))
        ⊎ GrowsIn ids n term log (clock timed.at) w timed.row
    one = waits_or_adds below.calm.frame group clocks pace n term log earlier room (clock moment) timed.at h.traffic w
        (nodes below group clocks pace ids members listed) member h.flies lists
        (let m = h.calm.0.moments in let e = h.at_end in omega (arith, m, e)) ids waits.is
        (its_me below group clocks pace ids members listed n term log member moment w timed rest h harm t waits.is.its.up.status) waits.told all timed.row h.calm.1
        (tells_low below group clocks pace ids members listed n term log member moment w timed rest h harm t waits.is.its.up.status led) missed

    -- so it is behind the row
    one_on : (more : List Timed) → Waits timed.at (after_row w timed.row) ⊎ EndsIn moment w (timed ∷ more)
    one_on more = elim one [
      | inl left ↦ elim left [
        | inl is ↦ inl (record { is = is; told = told_then is.server is.its.up.status })
        | inr has ↦ inr (inl (record { early = timed ∷ []; late = more; split = refl; has = has }))
      ]
      | inr grows ↦ inr (inr (record { early = []; row = timed; late = more; split = refl; grows = grows }))
    ]

  -- and behind any number of rows
  pub waits_on : (front rest : List Timed) (moment : ℕ) (w : Cluster) → Reached moment w (front ++ rest) → DoNoHarm w (rows_in front) → Led w front → Lists w
      → NobodyIsMissed n w front → Waits moment w → Waits (end_of moment front) (after_rows w (rows_in front)) ⊎ EndsIn moment w front
  waits_on [] rest moment w h harm led lists missed waits = inl waits
  waits_on (timed ∷ front) rest moment w h harm led lists missed waits =
      elim (one_on moment w timed (front ++ rest) h harm.0 (led [] (timed ∷ front) refl) lists missed.0 waits front) [
        | inl next ↦ behind (waits_on front rest timed.at (after_row w timed.row)
            (after_one below group clocks pace ids members listed moment w timed (front ++ rest) h harm.0)
            harm.1
            (led_after below group clocks pace ids members listed n term log member w timed front led)
            (lists_after below group clocks pace ids members listed n term log member moment w timed (front ++ rest) h harm.0 lists) missed.1 next)
        | inr ends ↦ inr ends
      ]
    where
      behind : Waits (end_of timed.at front) (after_rows (after_row w timed.row) (rows_in front)) ⊎ EndsIn timed.at (after_row w timed.row) front
          → Waits (end_of timed.at front) (after_rows (after_row w timed.row) (rows_in front)) ⊎ EndsIn moment w (timed ∷ front)
      behind (inl later) = inl later
      behind (inr (inl comes)) =
          inr (inl (record { early = timed ∷ comes.early; late = comes.late; split = ap (λ (l : List Timed). timed ∷ l) comes.split; has = comes.has }))
      behind (inr (inr g)) =
          inr (inr (record { early = timed ∷ g.early; row = g.row; late = g.late; split = ap (λ (l : List Timed). timed ∷ l) g.split; grows = g.grows }))
