-- The pair of a new device is told in the row in which it is committed.
use Rattle.std.proofs.Common.{◌≡◌, ◌≢◌, ◌⊎◌, ℕ, ◌+◌, ◌<◌, ◌≤◌, List, [], ◌∷◌, ◌++◌, length, append_assoc, refl, sym, ◌∙◌, ap, subst, inl, inr, arith, Option, None, Some}
use Rattle.std.proofs.lemmas.Bool.Decides.{eqb_tells}
use Rattle.std.proofs.lemmas.List.{append-nil}
use Rattle.can_frame.specs.declared.entry.Entry.{Entry}
use Rattle.can_frame.specs.Zeros.{zeros}
use Rattle.raft_core.specs.Taken.{proposal}
use Rattle.raft_model.specs.Server.{RaftServer}
use Rattle.bus_rows.specs.declared.row.Row.{Row}
use Rattle.alloc_spec.specs.AllocatorState.{AllocatorState}
use Rattle.alloc_spec.specs.Ending.{call_phase}
use Rattle.alloc_spec.specs.Step.{Event, step}
use Rattle.alloc_spec_laws.specs.Phases.{TellsDuly, when_committed, when_told}
use Rattle.bus_rows.specs.Timed.{Timed, rows_in}
use Rattle.service_alone.specs.Calm.{Pace}
use Rattle.service_calm.specs.Calm.{Party}
use Rattle.service_leader.specs.LeadsOn.{LeadsIn}
use Rattle.service_device.specs.Served.{LeadsWithLog, Tells}
use Rattle.service_device.specs.Settled.{IsCalmUnder}
use Rattle.service_calm.proofs.Calls.{Always}
use Rattle.service_calm.proofs.CallsKept.{GoesOn, IsKept}
use Rattle.service_calm.proofs.Pair.{same_server, same_stepper}
use Rattle.service_leader.proofs.RowsOfOne.{IsLeft, left_up, stepped_up}
use Rattle.service_device.proofs.ServedEvents.{Leads}
use Rattle.service_device.proofs.ServedTells.{tells_or_waits}
use Rattle.service_device.proofs.SettlesFrom.{Any, goes_behind, runs_at}
use Rattle.service_leader.proofs.Stretches.{world_both}
use Rattle.bus_spec.specs.Cluster.{Cluster, after_row, after_rows, step_of, world_of}
use Rattle.bus_spec.specs.Members.MemberStatus.{Up}

-- a row is a step of a member, or none
abbrev IsStepOrNot : Cluster → Row → ℕ → Type 0
IsStepOrNot w row n = ((event : Event) × (step_of w row ≡ Some (n, event))) ⊎ ((event : Event) → step_of w row ≡ Some (n, event) → ⊥)

step_or_not : (w : Cluster) (row : Row) (n : ℕ) → IsStepOrNot w row n
step_or_not w row n = by (step_of w row)
  where
    by : (s : Option (ℕ × Event)) → ((event : Event) × (s ≡ Some (n, event))) ⊎ ((event : Event) → s ≡ Some (n, event) → ⊥)
    by None = inr (λ event e. cc e)
    by (Some (p, event)) = elim (eqb_tells p n) [
      | inl z ↦ inl (event, ap (λ (k : ℕ). Some (k, event)) z.1)
      | inr z ↦ inr (λ other e. z.1 (same_stepper p n event other e))
    ]

-- what each step of a leader owes: it tells
pub record TellingLaws : Type 0 where
  pub tell : (t : AllocatorState) (number : ℕ) (event : Event) → TellsDuly number (when_committed t number event) (when_told t number event)
  pub phases : (t : AllocatorState) (number : ℕ) (event : Event) → (step t number event).step_state ≡ call_phase number (when_told t number event)

-- nothing is asked of the member but that it runs
runs_kept : IsKept Always Any
runs_kept = record { stepped = λ t number event may h. tt; popped = λ t h. tt }

module _ (laws : TellingLaws) (ids : List ℕ) (rows : List Row) (group : List Party) (clocks : Party → ℕ) (pace : Pace) (start n term : ℕ) (first later : List Timed)
    (under : IsCalmUnder ids rows group clocks pace start n term first later) (log : List Entry) (uid : List ℕ) (node : ℕ) (device : uid ≢ zeros) where
  abbrev w : Cluster
  w = world_of ids rows

  -- the world behind the first rows, and the one behind a front of the later ones
  abbrev led_from : Cluster
  led_from = after_rows w (rows_in first)

  abbrev pub here : List Timed → Cluster
  here front = after_rows led_from (rows_in front)

  -- the leader has told all before the pair, and has committed no more
  abbrev pub Waits : List Timed → Type 0
  Waits a = (t : AllocatorState) → ((here a).member n).status ≡ Up t → (t.raft_server.memory.told ≡ length log) × (t.raft_server.store.commit ≤ length log)

  -- its log has the pair
  abbrev pub HasPairIn : List Timed → Type 0
  HasPairIn a = (t : AllocatorState) → ((here a).member n).status ≡ Up t → (more : List Entry) × (t.raft_server.store.log ≡ log ++ proposal term uid node ∷ more)

  -- it tells the pair in this row
  pub record IsToldIn (a : List Timed) (x : Timed) : Type 0 where
    pub tells : Tells n node uid (here a) x.row
    pub more : List Entry
    pub leads : LeadsWithLog n term (log ++ proposal term uid node ∷ more) (after_row (here a) x.row)
    pub committed : length log < leads.server.raft_server.store.commit

  goes_at : (a b : List Timed) → later ≡ a ++ b → GoesOn Always Any runs_kept group clocks pace n (here a) b
  goes_at a b cut =
      let from = goes_behind w group clocks pace start n first later under.calm (under.running n under.member) a b cut in record {
        traffic = from.traffic;
        calm = from.calm;
        runs = runs_at w group clocks pace start n first later under.calm (under.running n under.member) a b cut;
      }

  -- one row
  pub one_row : (a b : List Timed) (x : Timed) → later ≡ a ++ x ∷ b → Waits a → HasPairIn (a ++ x ∷ []) → IsToldIn a x ⊎ Waits (a ++ x ∷ [])
  one_row a b x cut waits has = elim (step_or_not_here) [ inl s ↦ stepped s.0 s.1 | inr none ↦ inr (left none) ]
    where
      goes : GoesOn Always Any runs_kept group clocks pace n (here a) (x ∷ b)
      goes = goes_at a (x ∷ b) cut

      t : AllocatorState
      t = goes.runs.server

      here_then : here (a ++ x ∷ []) ≡ after_row (here a) x.row
      here_then = world_both led_from a (x ∷ [])

      step_or_not_here : ((event : Event) × (step_of (here a) x.row ≡ Some (n, event))) ⊎ ((event : Event) → step_of (here a) x.row ≡ Some (n, event) → ⊥)
      step_or_not_here = step_or_not (here a) x.row n

      led : LeadsIn n term (here a)
      led = (under.led a (x ∷ b) cut).leader

      led_then : LeadsIn n term (after_row (here a) x.row)
      led_then = subst (LeadsIn n term) here_then (under.led (a ++ x ∷ []) b (cut ∙ sym (append_assoc a (x ∷ []) b))).leader

      same : t ≡ led.server
      same = same_server t led.server (sym goes.runs.up.status ∙ led.runs)

      before : Leads term t.raft_server.store.commit (length log) t.raft_server
      before = record {
        its_term = ap (λ (s : AllocatorState). s.raft_server.store.term) same ∙ led.its_term;
        leads = ap (λ (s : AllocatorState). s.raft_server.memory.role) same ∙ led.leads;
        committed = refl;
        told_is = (waits t goes.runs.up.status).0;
      }

      stepped : (event : Event) → step_of (here a) x.row ≡ Some (n, event) → IsToldIn a x ⊎ Waits (a ++ x ∷ [])
      stepped event is =
          let number = (here a).rows + 1 in
          let after = (step t number event).step_state.allocator in
          let up = (stepped_up (here a) n t goes.runs.up x.row event is).status in
          let same_then : after ≡ led_then.server = same_server after led_then.server (sym up ∙ led_then.runs) in
          let its_term : after.raft_server.store.term ≡ term = ap (λ (s : AllocatorState). s.raft_server.store.term) same_then ∙ led_then.its_term in
          let pair = has after (subst (λ (v : Cluster). (v.member n).status ≡ Up after) (sym here_then) up) in
          elim (tells_or_waits number term t.raft_server.store.commit log pair.0 uid node device t event (laws.tell t number event) (laws.phases t number event) before its_term pair.1) [
            | inl told ↦ inl (record {
              tells = record {
                server = t;
                runs = goes.runs.up.status;
                event = event;
                in_step = is;
                offer = told.0.offer;
                offered = told.0.offered;
                what = told.0.what;
                to = told.0.to;
                payload = told.0.payload;
              };
              more = pair.0;
              leads = record {
                server = after;
                runs = up;
                leads = ap (λ (s : AllocatorState). s.raft_server.memory.role) same_then ∙ led_then.leads;
                its_term = its_term;
                its_log = pair.1;
              };
              committed = told.1;
            })
            | inr still ↦ inr (λ u then_up. subst (λ (s : AllocatorState). (s.raft_server.memory.told ≡ length log) × (s.raft_server.store.commit ≤ length log))
                (same_server after u (sym up ∙ subst (λ (v : Cluster). (v.member n).status ≡ Up u) here_then then_up)) still)
          ]

      left : ((event : Event) → step_of (here a) x.row ≡ Some (n, event) → ⊥) → Waits (a ++ x ∷ [])
      left none u then_up =
          let is : IsLeft (here a) n t goes.runs.up ((after_row (here a) x.row).member n) = left_up (here a) n t goes.runs.up group clocks pace goes.traffic x.at x.row goes.calm.1 none in
          let same_then = same_server is.server u (sym is.its_up.status ∙ subst (λ (v : Cluster). (v.member n).status ≡ Up u) here_then then_up) in
          subst (λ (s : RaftServer). (s.memory.told ≡ length log) × (s.store.commit ≤ length log))
          (sym is.same.raft_server ∙ ap (λ (s : AllocatorState). s.raft_server) same_then) (waits t goes.runs.up.status)

  -- rows, behind which more is committed
  pub record IsToldAmong (a mid b : List Timed) : Type 0 where
    pub front : List Timed
    pub timed : Timed
    pub tail : List Timed
    pub split : mid ≡ front ++ timed ∷ tail
    pub told : IsToldIn (a ++ front) timed

  first_told : (a mid b : List Timed) (x : Timed) → IsToldIn a x → IsToldAmong a (x ∷ mid) b
  first_told a mid b x told = record { front = []; timed = x; tail = mid; split = refl; told = subst (λ (l : List Timed). IsToldIn l x) (sym (append-nil a)) told }

  later_told : (a mid b : List Timed) (x : Timed) → IsToldAmong (a ++ x ∷ []) mid b → IsToldAmong a (x ∷ mid) b
  later_told a mid b x told = record {
    front = x ∷ told.front;
    timed = told.timed;
    tail = told.tail;
    split = ap (λ (l : List Timed). x ∷ l) told.split;
    told = subst (λ (l : List Timed). IsToldIn l told.timed) (append_assoc a (x ∷ []) told.front) told.told;
  }

  pub walk : (mid a b : List Timed) → later ≡ a ++ (mid ++ b) → Waits a
      → ((c d : List Timed) (x : Timed) → mid ≡ c ++ x ∷ d → HasPairIn (a ++ (c ++ x ∷ [])))
      → ((t : AllocatorState) → ((here (a ++ mid)).member n).status ≡ Up t → length log < t.raft_server.store.commit) → IsToldAmong a mid b
  walk [] a b cut waits has committed =
      let goes = goes_at a b cut in
      let w_ = waits goes.runs.server goes.runs.up.status in
      let c = committed goes.runs.server (subst (λ (l : List Timed). ((here l).member n).status ≡ Up goes.runs.server) (sym (append-nil a)) goes.runs.up.status) in
      absurd (omega (arith, w_.1, c))
  walk (x ∷ mid) a b cut waits has committed = elim (one_row a (mid ++ b) x cut waits (has [] mid x refl)) [
    | inl told ↦ first_told a mid b x told
    | inr still ↦ later_told a mid b x (walk mid (a ++ x ∷ []) b (cut ∙ sym (append_assoc a (x ∷ []) (mid ++ b))) still
        (λ c d y e. subst HasPairIn (sym (append_assoc a (x ∷ []) (c ++ y ∷ []))) (has (x ∷ c) d y (ap (λ (l : List Timed). x ∷ l) e)))
        (λ t up. committed t (subst (λ (l : List Timed). ((here l).member n).status ≡ Up t) (append_assoc a (x ∷ []) mid) up)))
  ]
