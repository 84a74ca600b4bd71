-- What a leader knows of a peer as a calm goes on: it loses nothing of it, and its calls begin no further on.
use Rattle.std.proofs.Common.{◌≡◌, ℕ, ◌+◌, ◌<◌, ◌≤◌, List, [], ◌∷◌, ◌++◌, length, append_assoc, append-nil, sym, ◌∙◌, ap, subst, inl, inr, arith, max, Option, None, Some}
use Rattle.std.specs.Prelude.{◌⊎◌}
use Rattle.std.proofs.lemmas.Bool.Decides.{eqb_tells}
use Rattle.can_frame.specs.declared.entry.Entry.{Entry}
use Rattle.raft_model.specs.Lists.{In}
use Rattle.raft_model.specs.Server.{RaftServer}
use Rattle.bus_rows.specs.declared.row.Row.{Row}
use Rattle.alloc_spec.specs.AllocatorState.{AllocatorState}
use Rattle.alloc_spec.specs.Step.{Event, step}
use Rattle.alloc_spec_laws.proofs.Choices.{lt_tells}
use Rattle.bus_rows.specs.Timed.{Timed, rows_in}
use Rattle.service_alone.specs.Calm.{Pace}
use Rattle.service_calm.specs.Calm.{AreCalm, AreRunning, IsRunning, Member as OfMember, Party, no_traffic}
use Rattle.service_leader.specs.CallsComeBack.{LeadsIfUp, LeadsOn}
use Rattle.service_leader.specs.EntriesBelow.{EntryLaws}
use Rattle.service_leader.specs.LeadsOn.{IsLedThroughout, LeadsIn}
use Rattle.service_leader.specs.NoElection.{CallsFit}
use Rattle.service_calm.proofs.Calls.{Always, Goes, further_on}
use Rattle.service_calm.proofs.CallsKept.{IsKept, RunsWith, further}
use Rattle.service_leader.proofs.EntriesSteps.{Knows, Leads, stays_above, step_knows, still_left}
use Rattle.service_calm.proofs.Pair.{same_server, same_stepper}
use Rattle.service_leader.proofs.RowsOfOne.{IsLeft, left_up, stepped_up}
use Rattle.service_leader.proofs.Stretches.{throughout_by, world_both}
use Rattle.bus_spec.specs.Cluster.{Cluster, after_row, after_rows, step_of, world_of}
use Rattle.bus_spec.specs.Lawful.{DoNoHarm}
use Rattle.bus_spec.specs.Members.MemberStatus.{Up}

-- a row is a step of a member, or none
pub step_or_not : (w : Cluster) (row : Row) (n : ℕ) → ((event : Event) × (step_of w row ≡ Some (n, event)))
    ⊎ ((event : Event) → step_of w row ≡ Some (n, event) → ⊥)
step_or_not w row n = by (step_of w row)
  where
    by : (s : Option (ℕ × Event)) → ((event : Event) × (s ≡ Some (n, event))) ⊎ ((event : Event) → s ≡ Some (n, event) → ⊥)
    by None = inr (λ event e. cc e)
    by (Some (p, event)) = elim (eqb_tells p n) [
      | inl z ↦ inl (event, ap (λ (k : ℕ). Some (k, event)) z.1)
      | inr z ↦ inr (λ other e. z.1 (same_stepper p n event other e))
    ]

-- a calm at whose end a member of the group leads, in this term
pub record IsLedCalm (ids : List ℕ) (rows : List Row) (group : List Party) (clocks : Party → ℕ) (pace : Pace) (start n term : ℕ)
    (whole : List Timed) : Type 0 where
  pub listed : (p : ℕ) → In (OfMember p) group → In p ids
  pub running : AreRunning group (world_of ids rows)
  pub member : In (OfMember n) group
  pub calm : AreCalm group clocks pace (no_traffic start) (world_of ids rows) whole
  pub harmless : DoNoHarm (world_of ids rows) (rows_in whole)
  pub at_end : LeadsIfUp n term (after_rows (world_of ids rows) (rows_in whole))
  pub fit : CallsFit n (world_of ids rows) whole

-- ---- who leads on

-- where a member is led to be, so it is if it runs
pub leads_if_up : (n term : ℕ) (w : Cluster) → LeadsIn n term w → LeadsIfUp n term w
leads_if_up n term w leader t up =
    let same = same_server leader.server t (sym leader.runs ∙ up) in (
      ap (λ (s : AllocatorState). s.raft_server.memory.role) (sym same) ∙ leader.leads,
      ap (λ (s : AllocatorState). s.raft_server.store.term) (sym same) ∙ leader.its_term,
    )

-- who leads behind each front leads on
pub leads_throughout : (group : List Party) (n term : ℕ) (w : Cluster) (whole : List Timed) → IsLedThroughout group n term w whole → LeadsOn n term w whole
leads_throughout group n term w [] led = tt
leads_throughout group n term w (first ∷ rest) led = inr (throughout_by (LeadsIfUp n term) (first ∷ rest) w
    (λ front behind timed split. leads_if_up n term (after_rows w (rows_in front)) (led front (timed ∷ behind) split).leader))

module _ (ids : List ℕ) (rows : List Row) (laws : EntryLaws ids rows) (group : List Party) (clocks : Party → ℕ) (pace : Pace) (start n term : ℕ)
    (whole : List Timed)
    (calm : IsLedCalm ids rows group clocks pace start n term whole) where
  abbrev pub w : Cluster
  w = world_of ids rows

  -- the world behind a front
  abbrev pub here : List Timed → Cluster
  here front = after_rows w (rows_in front)

  pub here_then : (a : List Timed) (x : Timed) → here (a ++ x ∷ []) ≡ after_row (here a) x.row
  here_then a x = world_both w a (x ∷ [])

  -- a front and one row more
  pub cut_more : (a b : List Timed) (x : Timed) → whole ≡ a ++ x ∷ b → whole ≡ (a ++ x ∷ []) ++ b
  cut_more a b x cut = cut ∙ sym (append_assoc a (x ∷ []) b)

  -- each member of the group runs on
  pub goes_at : (p : ℕ) → In (OfMember p) group → (a b : List Timed) → whole ≡ a ++ b → Goes laws.me group clocks pace p (here a) b
  goes_at p i a b cut = further_on laws.me group clocks pace p a b w (record {
    traffic = no_traffic start;
    calm = subst (AreCalm group clocks pace (no_traffic start) w) cut calm.calm;
    runs = record {
      server = of_p.server;
      up = record { status = of_p.runs; quiet = record { faults = of_p.faults; calls = of_p.disk } };
      holds = laws.node p of_p.server (calm.listed p i) of_p.runs;
    };
  })
    where
      of_p : IsRunning p w
      of_p = calm.running p i

  -- this holds of the leader's server behind a front
  abbrev pub AtLeader : (AllocatorState → Type 0) → List Timed → Type 0
  AtLeader Holds a = (t : AllocatorState) → ((here a).member n).status ≡ Up t → Holds t

  -- the member leads in the term, behind this front
  abbrev pub Leading : List Timed → Type 0
  Leading a = LeadsIfUp n term (here a)

  abbrev IsAboveIt : AllocatorState → Type 0
  IsAboveIt u = term < u.raft_server.store.term

  above_kept : IsKept Always IsAboveIt
  above_kept = record { stepped = λ u number event may h. stays_above term number u event h; popped = λ u h. h }

  -- its term is never above, since terms do not fall
  pub within : (a b : List Timed) → whole ≡ a ++ b → (t : AllocatorState) → ((here a).member n).status ≡ Up t → t.raft_server.store.term ≤ term
  within a b cut t up = elim (lt_tells term t.raft_server.store.term) [
    | inl high ↦ absurd (not_above (further Always IsAboveIt above_kept group clocks pace n b [] (here a) (λ timed i. tt) (record {
      traffic = goes.traffic;
      calm = subst (AreCalm group clocks pace goes.traffic (here a)) (sym (append-nil b)) goes.calm;
      runs = record {
        server = goes.runs.server;
        up = goes.runs.up;
        holds = subst IsAboveIt (same_server t goes.runs.server (sym up ∙ goes.runs.up.status)) high.1;
      };
    })).runs)
    | inr low ↦ low.1
  ]
    where
      goes : Goes laws.me group clocks pace n (here a) b
      goes = goes_at n calm.member a b cut

      not_above : RunsWith IsAboveIt ((after_rows (here a) (rows_in b)).member n) → ⊥
      not_above runs =
          let high = runs.holds in
          let e = (calm.at_end runs.server (subst (λ (v : Cluster). (v.member n).status ≡ Up runs.server)
          (sym (ap (λ (l : List Timed). after_rows w (rows_in l)) cut ∙ world_both w a b)) runs.up.status)).1 in
          omega (arith, high, e)

  -- a row is a step of the leader, or leaves its server of the Raft model
  abbrev pub IsRowOf : (a : List Timed) (x : Timed) (t after : AllocatorState) → Type 0
  IsRowOf a x t after = ((event : Event) × (step_of (here a) x.row ≡ Some (n, event)) × (after ≡ (step t ((here a).rows + 1) event).step_state.allocator))
      ⊎ (after.raft_server ≡ t.raft_server)

  pub row_of : (a b : List Timed) (x : Timed) → whole ≡ a ++ x ∷ b → (t after : AllocatorState) → ((here a).member n).status ≡ Up t
      → ((here (a ++ x ∷ [])).member n).status ≡ Up after → IsRowOf a x t after
  row_of a b x cut t after up then_up = elim (step_or_not (here a) x.row n) [
    | inl z ↦ inl (
      z.0,
      z.1,
      (same_server after _ (sym now ∙ (stepped_up (here a) n goes.runs.server goes.runs.up x.row z.0 z.1).status))
          ∙ ap (λ (s : AllocatorState). (step s ((here a).rows + 1) z.0).step_state.allocator) same,
    )
    | inr z ↦
        let left : IsLeft (here a) n goes.runs.server goes.runs.up ((after_row (here a) x.row).member n) = left_up
        (here a) n goes.runs.server goes.runs.up group clocks pace goes.traffic x.at x.row goes.calm.1 z in
        inr (ap (λ (s : AllocatorState). s.raft_server) (same_server after left.server (sym now ∙ left.its_up.status)) ∙ (left.same.raft_server
        ∙ ap (λ (s : AllocatorState). s.raft_server) same))
  ]
    where
      goes : Goes laws.me group clocks pace n (here a) (x ∷ b)
      goes = goes_at n calm.member a (x ∷ b) cut

      now : ((after_row (here a) x.row).member n).status ≡ Up after
      now = subst (λ (v : Cluster). (v.member n).status ≡ Up after) (here_then a x) then_up

      same : goes.runs.server ≡ t
      same = same_server goes.runs.server t (sym goes.runs.up.status ∙ up)

  -- ---- what is known

  -- so many calls are left until the leader knows the peer to have its log
  abbrev pub left_of : (m : ℕ) → AllocatorState → ℕ
  left_of m t = still_left (t.raft_server.memory.next m) (t.raft_server.memory.matched m) (length t.raft_server.store.log)

  module _ (m : ℕ) where
    abbrev pub AtLeast : (matched : ℕ) (base : List Entry) (left over : ℕ) → AllocatorState → Type 0
    AtLeast matched base left over t = Leads m term matched base left over t.raft_server

    module _ (matched : ℕ) (base : List Entry) (left over : ℕ) where
      one_row : (a b : List Timed) (x : Timed) → whole ≡ a ++ x ∷ b → AtLeader (AtLeast matched base left over) a
          → AtLeader (AtLeast matched base left over) (a ++ x ∷ [])
      one_row a b x cut before after then_up = elim (row_of a b x cut t after up then_up) [
        | inl s ↦ subst (AtLeast matched base left over) (sym s.2) (stays (step t ((here a).rows + 1) s.0).step_state.allocator.raft_server
            (let low = within (a ++ x ∷ []) b (cut_more a b x cut) after then_up in
            let e = ap (λ (u : AllocatorState). u.raft_server.store.term) s.2 in omega (arith, low, e))
            (step_knows m term matched base left over ((here a).rows + 1) t s.0 (inr (before t up))))
        | inr same ↦ subst (Leads m term matched base left over) (sym same) (before t up)
      ]
        where
          t : AllocatorState
          t = (goes_at n calm.member a (x ∷ b) cut).runs.server

          up : ((here a).member n).status ≡ Up t
          up = (goes_at n calm.member a (x ∷ b) cut).runs.up.status

          stays : (s : RaftServer) → s.store.term ≤ term → Knows m term matched base left over s → Leads m term matched base left over s
          stays s low (inl high) = absurd (omega (arith, high, low))
          stays s low (inr l) = l

      -- it holds further on
      pub goes_on : (c a b : List Timed) → whole ≡ (a ++ c) ++ b → AtLeader (AtLeast matched base left over) a
          → AtLeader (AtLeast matched base left over) (a ++ c)
      goes_on [] a b cut h = subst (AtLeader (AtLeast matched base left over)) (sym (append-nil a)) h
      goes_on (x ∷ c) a b cut h = subst (AtLeader (AtLeast matched base left over)) (append_assoc a (x ∷ []) c)
          (goes_on c (a ++ x ∷ []) b (cut ∙ ap (λ (l : List Timed). l ++ b) (sym (append_assoc a (x ∷ []) c)))
          (one_row a (c ++ b) x (cut ∙ append_assoc a (x ∷ c) b) h))

    -- From a front on, behind which the member leads: of the peer it knows no less further on, its log grows behind its
    -- end, and no more calls are left.
    pub grown : (a c b : List Timed) (over : ℕ) → whole ≡ (a ++ c) ++ b → Leading a → (t : AllocatorState) → ((here a).member n).status ≡ Up t
        → t.raft_server.memory.next m ≤ max (length t.raft_server.store.log) (t.raft_server.memory.matched m + 1) + over
        → AtLeader (AtLeast (t.raft_server.memory.matched m) t.raft_server.store.log (left_of m t) over) (a ++ c)
    grown a c b over cut leads t up near = goes_on (t.raft_server.memory.matched m) t.raft_server.store.log (left_of m t) over c a b cut
        (λ u is_up. subst (AtLeast (t.raft_server.memory.matched m) t.raft_server.store.log (left_of m t) over) (same_server t u (sym up ∙ is_up)) (record {
          its_term = (leads t up).1;
          leads = (leads t up).0;
          matched_is = omega arith;
          few = omega arith;
          near = near;
          more = [];
          log_is = sym (append-nil t.raft_server.store.log);
        }))

  -- where it leads in the term, it leads further on
  pub lead_on : (a c b : List Timed) → whole ≡ (a ++ c) ++ b → Leading a → Leading (a ++ c)
  lead_on a c b cut leads u is_up =
      let run = (goes_at n calm.member a (c ++ b) (cut ∙ append_assoc a c b)).runs in
      let k = grown n a c b (run.server.raft_server.memory.next n) cut leads run.server run.up.status (omega arith) u is_up in
      (k.leads, k.its_term)

-- a calm in which a member of the group leads from the beginning on
pub led_from_start : (ids : List ℕ) (rows : List Row) (group : List Party) (clocks : Party → ℕ) (pace : Pace) (start n term : ℕ) (whole : List Timed)
    → ((p : ℕ) → In (OfMember p) group → In p ids) → AreRunning group (world_of ids rows) → In (OfMember n) group
    → AreCalm group clocks pace (no_traffic start) (world_of ids rows) whole → DoNoHarm (world_of ids rows) (rows_in whole)
    → IsLedThroughout group n term (world_of ids rows) whole → CallsFit n (world_of ids rows) whole
    → IsLedCalm ids rows group clocks pace start n term whole
led_from_start ids rows group clocks pace start n term whole listed running member calm harmless led fit = record {
  listed = listed;
  running = running;
  member = member;
  calm = calm;
  harmless = harmless;
  at_end = leads_if_up n term (after_rows (world_of ids rows) (rows_in whole)) (led whole [] (sym (append-nil whole))).leader;
  fit = fit;
}
