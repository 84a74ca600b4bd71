-- From a front on at which a member leads in a term that none of the group is above, through rows in which nobody stands
-- for election: it leads on, and each other member may follow it.
use Rattle.std.proofs.Common.{◌≡◌, ℕ, ◌+◌, ◌≤◌, arith, List, [], ◌∷◌, ◌++◌, sym, ◌∙◌, ap, subst, inl, inr}
use Rattle.std.proofs.lemmas.List.{append_assoc, append-nil}
use Rattle.raft_model.specs.Lists.{In}
use Rattle.raft_model.specs.Server.Role.{Leader}
use Rattle.bus_rows.specs.declared.row.Row.{Row}
use Rattle.alloc_spec.specs.AllocatorState.{AllocatorState}
use Rattle.alloc_spec.specs.Step.{Event, step}
use Rattle.alloc_spec_laws.proofs.Choices.{lt_tells}
use Rattle.bus_rows.specs.Timed.{Timed, rows_in}
use Rattle.service_alone.specs.Calm.{Pace, end_of}
use Rattle.service_alone.proofs.Goes.{after_both}
use Rattle.service_candidate.specs.Terms.{AreWithin}
use Rattle.service_candidate.proofs.LeadersStay.{leader_steps}
use Rattle.service_candidate.proofs.RowsLeave.{IsLeft, row_leaves}
use Rattle.service_candidate.proofs.WinsFronts.{nobody_above}
use Rattle.service_leader.specs.LeadsOn.{LeadsIn}
use Rattle.service_leader.proofs.NextCall.{HasRead, IsHeeded, runs_at}
use Rattle.service_leader.proofs.Stretches.{world_both}
use Rattle.service_elections.specs.Running.{IsCalmOf, NobodyStandsIn}
use Rattle.service_elections.proofs.CalmFronts.{Calm, calm_of, from_start, harm_front, harm_row}
use Rattle.service_elections.proofs.LeadsBelow.{LeadLaws, OneLeads}
use Rattle.service_elections.proofs.LeadsFronts.{nobody_at}
use Rattle.service_elections.proofs.NobodyStands.{nobody_front}
use Rattle.service_calm.specs.Calm.{AreCalm, Member as OfMember, Party, no_traffic}
use Rattle.service_calm.proofs.CallsKept.{RunsWith}
use Rattle.bus_spec.specs.Cluster.{Cluster, after_rows, cluster, world_of}
use Rattle.bus_spec.specs.Members.MemberStatus.{Up}

module _ (ids : List ℕ) (rows : List Row) (laws : LeadLaws ids rows) (group : List Party) (clocks : Party → ℕ) (pace : Pace) (start : ℕ)
    (whole : List Timed) (calm : IsCalmOf ids rows group clocks pace start whole) where
  abbrev pub w : Cluster
  w = world_of ids rows

  abbrev pub here : List Timed → Cluster
  here a = after_rows w (rows_in a)

  abbrev cut_calm : Calm
  cut_calm = calm_of ids rows group clocks pace start whole calm

  -- ---- at a front

  pub node_is : (p : ℕ) → In (OfMember p) group → (server : AllocatorState) → (w.member p).status ≡ Up server → server.me ≡ p
  node_is p i server up = laws.node p server (calm.listed p i) up

  pub run_at : (p : ℕ) → In (OfMember p) group → (a b : List Timed) → whole ≡ a ++ b
      → RunsWith (HasRead p (end_of start a + clocks (OfMember p))) ((here a).member p)
  run_at p i a b cut = runs_at ids rows laws.calls group clocks pace start calm.running node_is calm.clock p i a b
      (from_start cut_calm (a ++ b) cut)

  pub one_at : (a b : List Timed) → whole ≡ a ++ b → OneLeads ids (here a)
  one_at a b cut = subst (OneLeads ids) (after_both (cluster ids) rows (rows_in a)) (laws.alone (rows_in a) (harm_front cut_calm a b cut))

  -- terms do not fall
  pub rises : (p : ℕ) → In (OfMember p) group → (a few b : List Timed) → whole ≡ a ++ (few ++ b) → (before after : AllocatorState)
      → ((here a).member p).status ≡ Up before → ((here (a ++ few)).member p).status ≡ Up after
      → before.raft_server.store.term ≤ after.raft_server.store.term
  rises p i a few b cut before after up up_then = laws.fall group clocks pace start p a few b before after calm.running
      (subst (AreCalm group clocks pace (no_traffic start) w) cut calm.calm) i up up_then

  -- ---- a row

  -- who leads leads on through a row, where none is above its term when the row is over
  leads_row : (n term : ℕ) → In (OfMember n) group → (a b : List Timed) (x : Timed) → whole ≡ a ++ x ∷ b → LeadsIn n term (here a)
      → AreWithin group term (here (a ++ x ∷ [])) → LeadsIn n term (here (a ++ x ∷ []))
  leads_row n term i a b x cut leads within = record {
    server = u;
    runs = run.up.status;
    leads = elim left [
      | inl z ↦ by_step _ z.is
      | inr (inl z) ↦ by_step _ z.is
      | inr (inr (inl same)) ↦ ap (λ (t : AllocatorState). t.raft_server.memory.role) same ∙ leads.leads
      | inr (inr (inr same)) ↦ ap (λ (t : AllocatorState). t.raft_server.memory.role) same ∙ leads.leads
    ];
    its_term = let its = leads.its_term in omega (arith, low, high, its);
  }
    where
      run : RunsWith (HasRead n (end_of start (a ++ x ∷ []) + clocks (OfMember n))) ((here (a ++ x ∷ [])).member n)
      run = run_at n i (a ++ x ∷ []) b (cut ∙ sym (append_assoc a (x ∷ []) b))

      u : AllocatorState
      u = run.server

      left : IsLeft (here a) n x.row leads.server u
      left = row_leaves (here a) n leads.server u leads.runs x.row (harm_row cut_calm a b x cut)
          (subst (λ (v : Cluster). (v.member n).status ≡ Up u) (world_both w a (x ∷ [])) run.up.status)

      low : u.raft_server.store.term ≤ term
      low = within n i u run.up.status

      high : leads.server.raft_server.store.term ≤ u.raft_server.store.term
      high = rises n i a (x ∷ []) b cut leads.server u leads.runs run.up.status

      by_step : (event : Event) → u ≡ (step leads.server ((here a).rows + 1) event).step_state.allocator → u.raft_server.memory.role ≡ Leader
      by_step event is = elim (leader_steps leads.server ((here a).rows + 1) event leads.leads) [
        | inl still ↦ ap (λ (t : AllocatorState). t.raft_server.memory.role) is ∙ still
        | inr up_ ↦ let same = ap (λ (t : AllocatorState). t.raft_server.store.term) is in
            let its = leads.its_term in absurd (omega (arith, up_, same, its, low))
      ]

  -- ---- rows in which nobody stands

  module _ (first few rest : List Timed) (cut : whole ≡ first ++ (few ++ rest)) (nobody : NobodyStandsIn group (here first) few) where
    cut_at : (a b : List Timed) → few ≡ a ++ b → whole ≡ first ++ (a ++ (b ++ rest))
    cut_at a b part = cut ∙ ap (λ (l : List Timed). first ++ l) (ap (λ (l : List Timed). l ++ rest) part ∙ append_assoc a b rest)

    pub cut_then : (a b : List Timed) → few ≡ a ++ b → whole ≡ (first ++ a) ++ (b ++ rest)
    cut_then a b part = cut_at a b part ∙ sym (append_assoc first a (b ++ rest))

    nobody_then : (a b : List Timed) → few ≡ a ++ b → NobodyStandsIn group (here first) a
    nobody_then a b part = nobody_front group a b (here first) (subst (NobodyStandsIn group (here first)) part nobody)

    -- terms stay within the highest
    pub within_at : (top : ℕ) → AreWithin group top (here first) → (a b : List Timed) → few ≡ a ++ b → AreWithin group top (here (first ++ a))
    within_at top within a b part = subst (AreWithin group top) (sym (world_both w first a))
        (laws.terms group clocks pace start top first a (b ++ rest) calm.listed calm.running calm.others
        (subst (AreCalm group clocks pace (no_traffic start) w) (cut_at a b part) calm.calm)
        (harm_front cut_calm (first ++ a) (b ++ rest) (cut_then a b part)) within
        (nobody_above group top a (here first) (λ front more x n term same i s.
        absurd (nobody_at group front more x (here first) (subst (NobodyStandsIn group (here first)) same (nobody_then a b part)) n term i s))))

    module _ (n term : ℕ) (in_n : In (OfMember n) group) (leads : LeadsIn n term (here first)) (within : AreWithin group term (here first)) where
      go : (a done b : List Timed) → few ≡ done ++ (a ++ b) → LeadsIn n term (here (first ++ done)) → LeadsIn n term (here (first ++ (done ++ a)))
      go [] done b part is = subst (λ (l : List Timed). LeadsIn n term (here (first ++ l))) (sym (append-nil done)) is
      go (x ∷ a) done b part is = subst (λ (l : List Timed). LeadsIn n term (here (first ++ l))) (append_assoc done (x ∷ []) a)
          (go a (done ++ x ∷ []) b part_then
          (subst (λ (l : List Timed). LeadsIn n term (here l)) (append_assoc first done (x ∷ []))
          (leads_row n term in_n (first ++ done) ((a ++ b) ++ rest) x (cut_then done (x ∷ (a ++ b)) part) is
          (subst (λ (l : List Timed). AreWithin group term (here l)) (sym (append_assoc first done (x ∷ [])))
          (within_at term within (done ++ x ∷ []) (a ++ b) part_then)))))
        where
          part_then : few ≡ (done ++ x ∷ []) ++ (a ++ b)
          part_then = part ∙ sym (append_assoc done (x ∷ []) (a ++ b))

      pub leads_at : (a b : List Timed) → few ≡ a ++ b → LeadsIn n term (here (first ++ a))
      leads_at a b part = go a [] b part (subst (λ (l : List Timed). LeadsIn n term (here l)) (sym (append-nil first)) leads)

      -- it leads on, and each other member may follow it
      pub heeded_at : (a b : List Timed) → few ≡ a ++ b → IsHeeded group n term (here (first ++ a))
      heeded_at a b part = record {
        leader = leads_at a b part;
        others = λ m i other.
            let run = run_at m i (first ++ a) (b ++ rest) (cut_then a b part) in
            record {
              server = run.server;
              runs = run.up.status;
              current = elim (lt_tells run.server.raft_server.store.term term) [
                | inl z ↦ inl z.1
                | inr z ↦
                    let high = z.1 in
                    let low = within_at term within a b part m i run.server run.up.status in
                    let same : term ≡ run.server.raft_server.store.term = omega (arith, high, low) in
                    inr (
                      same,
                      λ leader. other (one_at (first ++ a) (b ++ rest) (cut_then a b part) m n term (calm.listed m i) (calm.listed n in_n)
                          (record { server = run.server; runs = run.up.status; leads = leader; its_term = sym same }) (leads_at a b part)),
                    )
              ];
            };
      }
