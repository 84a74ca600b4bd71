-- Fronts of rows in which nobody stands for election, and the row in which a member comes to lead.
use Rattle.std.proofs.Common.{◌≡◌, ◌≢◌, ℕ, ◌+◌, List, [], ◌∷◌, ◌++◌, inl, inr, refl, sym, ◌∙◌, ap, subst}
use Rattle.std.specs.Prelude.{◌⊎◌}
use Rattle.raft_model.specs.Lists.{In}
use Rattle.raft_model.specs.Server.{Role}
use Rattle.raft_model.specs.Server.Role.{Candidate, Follower, Leader}
use Rattle.bus_rows.specs.declared.row.Row.{Row}
use Rattle.alloc_spec.specs.AllocatorState.{AllocatorState}
use Rattle.alloc_spec.specs.Step.{step}
use Rattle.service_steps.proofs.LeadsOn.{leads_on_at_ticks}
use Rattle.bus_rows.specs.Timed.{Timed, rows_in}
use Rattle.service_candidate.specs.Votes.{Stands}
use Rattle.service_candidate.proofs.RowsLeave.{ticked}
use Rattle.service_candidate.proofs.WinsLead.{no_candidate}
use Rattle.service_leader.specs.CallsComeBack.{LeadsNotIfUp}
use Rattle.service_leader.specs.LeadsOn.{LeadsIn}
use Rattle.service_elections.specs.Running.{NobodyStandsIn}
use Rattle.service_calm.specs.Calm.{IsRunning, Member, Party}
use Rattle.service_calm.specs.CallsInTime.{Leads}
use Rattle.service_calm.proofs.Pair.{same_server}
use Rattle.bus_spec.specs.Cluster.{Cluster, after_row, after_rows, tick_of}
use Rattle.bus_spec.specs.Members.MemberStatus.{Up}

-- ---- nobody stands

pub nobody_at : (group : List Party) (front rest : List Timed) (timed : Timed) (w : Cluster) → NobodyStandsIn group w (front ++ timed ∷ rest)
    → (n term : ℕ) → In (Member n) group → Stands n term (after_rows w (rows_in front)) timed.row → ⊥
nobody_at group [] rest timed w all = all.0
nobody_at group (first ∷ front) rest timed w all = nobody_at group front rest timed (after_row w first.row) all.1

pub nobody_more : (group : List Party) (front : List Timed) (timed : Timed) (w : Cluster) → NobodyStandsIn group w front
    → ((n term : ℕ) → In (Member n) group → Stands n term (after_rows w (rows_in front)) timed.row → ⊥)
    → NobodyStandsIn group w (front ++ timed ∷ [])
nobody_more group [] timed w all none = (none, tt)
nobody_more group (first ∷ front) timed w all none = (all.0, nobody_more group front timed (after_row w first.row) all.1 none)

pub nobody_by : (group : List Party) (rows : List Timed) (w : Cluster)
    → ((front rest : List Timed) (timed : Timed) (n term : ℕ) → rows ≡ front ++ timed ∷ rest → In (Member n) group
    → Stands n term (after_rows w (rows_in front)) timed.row → ⊥)
    → NobodyStandsIn group w rows
nobody_by group [] w none = tt
nobody_by group (first ∷ rows) w none = (
  λ n term i s. none [] rows first n term refl i s,
  nobody_by group rows (after_row w first.row) (λ front rest timed n term same i s.
      none (first ∷ front) rest timed n term (ap (λ (l : List Timed). first ∷ l) same) i s),
)

-- who leads does not stand
pub leader_stands_not : (n term other : ℕ) (w : Cluster) (row : Row) → LeadsIn n term w → Stands n other w row → ⊥
leader_stands_not n term other w row leads s = no_candidate s.after.raft_server.memory.role s.stands
    (ap (λ (t : AllocatorState). t.raft_server.memory.role) is ∙ leads_on_at_ticks s.before (w.rows + 1) s.ms s.word led)
  where
    led : s.before.raft_server.memory.role ≡ Leader
    led = subst (λ (t : AllocatorState). t.raft_server.memory.role ≡ Leader) (same_server leads.server s.before (sym leads.runs ∙ s.runs)) leads.leads

    is : s.after ≡ (step s.before (w.rows + 1) (tick_of s.ms s.word)).step_state.allocator
    is = ticked w n s.ms s.word s.before s.after s.runs (subst (λ (r : Row). ((after_row w r).member n).status ≡ Up s.after) s.reads s.runs_then)

-- ---- who comes to lead

-- in one of these rows member n comes to lead
pub record ComesToLead (n : ℕ) (w : Cluster) (whole : List Timed) : Type 0 where
  pub front : List Timed
  pub timed : Timed
  pub rest : List Timed
  pub split : whole ≡ front ++ timed ∷ rest
  pub leads_not : LeadsNotIfUp n (after_rows w (rows_in front))
  pub leads : Leads n (after_row (after_rows w (rows_in front)) timed.row)

leads_or_not : (role : Role) → (role ≡ Leader) ⊎ (role ≢ Leader)
leads_or_not Leader = inl refl
leads_or_not Candidate = inr (λ e. cc e)
leads_or_not Follower = inr (λ e. cc e)

-- who does not lead before rows, and leads behind them, comes to lead in one of them
pub comes_to_lead : (n : ℕ) (rows : List Timed) (w : Cluster) → ((front rest : List Timed) → rows ≡ front ++ rest → IsRunning n (after_rows w (rows_in front)))
    → LeadsNotIfUp n w → Leads n (after_rows w (rows_in rows)) → ComesToLead n w rows
comes_to_lead n [] w runs leads_not leads =
    let run = runs [] [] refl in absurd (leads_not run.server run.runs (leads run.server run.runs))
comes_to_lead n (first ∷ rows) w runs leads_not leads =
    let run = runs (first ∷ []) rows refl in
    elim (leads_or_not run.server.raft_server.memory.role) [
      | inl z ↦ record {
        front = [];
        timed = first;
        rest = rows;
        split = refl;
        leads_not = leads_not;
        leads = λ server up. subst (λ (t : AllocatorState). t.raft_server.memory.role ≡ Leader) (same_server run.server server (sym run.runs ∙ up)) z;
      }
      | inr z ↦
          let more = comes_to_lead n rows (after_row w first.row)
          (λ front rest cut. runs (first ∷ front) rest (ap (λ (l : List Timed). first ∷ l) cut))
          (λ server up. subst (λ (t : AllocatorState). t.raft_server.memory.role ≢ Leader) (same_server run.server server (sym run.runs ∙ up)) z)
          leads in
          record {
            front = first ∷ more.front;
            timed = more.timed;
            rest = more.rest;
            split = ap (λ (l : List Timed). first ∷ l) more.split;
            leads_not = more.leads_not;
            leads = more.leads;
          }
    ]
