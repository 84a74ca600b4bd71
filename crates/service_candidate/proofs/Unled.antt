-- Fronts of calm rows: somebody leads behind one of them, or nobody does; and who is no follower any more has stood.
use Rattle.std.proofs.Common.{◌≡◌, ◌≢◌, ℕ, ◌+◌, ◌≤◌, arith, List, [], ◌∷◌, ◌++◌, max, refl, sym, ◌∙◌, ap, subst, inl, inr, append_assoc}
use Rattle.std.specs.Prelude.{◌⊎◌}
use Rattle.raft_model.specs.Lists.{In}
use Rattle.raft_model.specs.Server.{Role}
use Rattle.raft_model.specs.Server.Role.{Candidate, Follower, Leader}
use Rattle.alloc_spec.specs.AllocatorState.{AllocatorState}
use Rattle.alloc_spec.specs.Step.{Event, step}
use Rattle.service_steps.specs.InTime.{FramesLeaveFollowers}
use Rattle.bus_rows.specs.Timed.{Timed, rows_in}
use Rattle.service_alone.specs.Calm.{Pace, end_of}
use Rattle.service_calm.specs.Calm.{AreCalm, Device as OfDevice, Member as OfMember, Party, no_traffic}
use Rattle.service_calm.specs.Comes.{Throughout}
use Rattle.service_calm.proofs.Calls.{Always}
use Rattle.service_calm.proofs.CallsKept.{GoesOn, IsKept, further}
use Rattle.service_calm.proofs.Pair.{same_server}
use Rattle.service_leader.specs.CallsComeBack.{LeadsNotIfUp}
use Rattle.service_leader.proofs.Stretches.{GoesOnFrom, calm_first, calm_rest, end_last, not_before}
use Rattle.service_candidate.specs.Terms.{NobodyLeads}
use Rattle.service_candidate.specs.Votes.{Stands}
use Rattle.service_candidate.proofs.WaitsRows.{Takes, is_candidate_then, knows_then, takes}
use Rattle.service_candidate.proofs.WaitsTicks.{tick_leaves}
use Rattle.bus_spec.specs.Cluster.{Cluster, after_row, after_rows, arrival_at, frame_at}
use Rattle.bus_spec.specs.Lawful.{DoNoHarm}
use Rattle.bus_spec.specs.Members.{MemberStatus}
use Rattle.bus_spec.specs.Members.MemberStatus.{Down, Failed, Up}

-- ---- somebody leads, or nobody

-- a member of the group leads
pub record Leads (group : List Party) (w : Cluster) : Type 0 where
  pub n : ℕ
  pub member : In (OfMember n) group
  pub server : AllocatorState
  pub runs : (w.member n).status ≡ Up server
  pub leads : server.raft_server.memory.role ≡ Leader

role_of : (role : Role) → (role ≡ Leader) ⊎ (role ≢ Leader)
role_of Follower = inr (λ e. cc e)
role_of Candidate = inr (λ e. cc e)
role_of Leader = inl refl

one_leads : (m : ℕ) (w : Cluster) (status : MemberStatus) → (w.member m).status ≡ status
    → LeadsNotIfUp m w ⊎ ((server : AllocatorState) × ((w.member m).status ≡ Up server) × (server.raft_server.memory.role ≡ Leader))
one_leads m w Down e = inl (λ server up. absurd (cc (sym e ∙ up)))
one_leads m w (Failed failure) e = inl (λ server up. absurd (cc (sym e ∙ up)))
one_leads m w (Up t) e = elim (role_of t.raft_server.memory.role) [
  | inl leads ↦ inr (t, e, leads)
  | inr not_so ↦ inl (λ server up leads. not_so (ap (λ (s : AllocatorState). s.raft_server.memory.role) (same_server t server (sym e ∙ up)) ∙ leads))
]

pub nobody_or_one : (group : List Party) (w : Cluster) → NobodyLeads group w ⊎ Leads group w
nobody_or_one [] w = inl (λ m i. absurd i)
nobody_or_one (OfDevice a ∷ group) w = elim (nobody_or_one group w) [
  | inl nobody ↦ inl (λ m i. elim i [ inl e ↦ absurd (cc (e)) | inr j ↦ nobody m j ])
  | inr one ↦ inr (record { n = one.n; member = inr one.member; server = one.server; runs = one.runs; leads = one.leads })
]
nobody_or_one (OfMember k ∷ group) w = elim (one_leads k w (w.member k).status refl) [
  | inr own ↦ inr (record { n = k; member = inl refl; server = own.0; runs = own.1; leads = own.2 })
  | inl none ↦ elim (nobody_or_one group w) [
    | inl nobody ↦ inl (λ m i. elim i [ inl e ↦ subst (λ (j : ℕ). LeadsNotIfUp j w) (sym (member_is m k e)) none | inr j ↦ nobody m j ])
    | inr one ↦ inr (record { n = one.n; member = inr one.member; server = one.server; runs = one.runs; leads = one.leads })
  ]
]
  where
    member_is : (a b : ℕ) → OfMember a ≡ OfMember b → a ≡ b
    member_is a b e = cc e

-- behind one of these rows, or before them, a member leads, and nobody before
pub record IsLedIn (group : List Party) (w : Cluster) (front : List Timed) : Type 0 where
  pub first : List Timed
  pub more : List Timed
  pub split : front ≡ first ++ more
  pub nobody_led : Throughout (NobodyLeads group) w first
  pub one : Leads group (after_rows w (rows_in first))

pub nobody_or_led : (group : List Party) (front : List Timed) (w : Cluster)
    → (Throughout (NobodyLeads group) w front × NobodyLeads group (after_rows w (rows_in front))) ⊎ IsLedIn group w front
nobody_or_led group [] w = elim (nobody_or_one group w) [
  | inl nobody ↦ inl (tt, nobody)
  | inr one ↦ inr (record { first = []; more = []; split = refl; nobody_led = tt; one = one })
]
nobody_or_led group (timed ∷ front) w = elim (nobody_or_one group w) [
  | inr one ↦ inr (record { first = []; more = timed ∷ front; split = refl; nobody_led = tt; one = one })
  | inl nobody ↦ elim (nobody_or_led group front (after_row w timed.row)) [
    | inl none ↦ inl ((nobody, none.0), none.1)
    | inr led ↦ inr (record {
      first = timed ∷ led.first;
      more = led.more;
      split = ap (λ (l : List Timed). timed ∷ l) led.split;
      nobody_led = (nobody, led.nobody_led);
      one = led.one;
    })
  ]
]

-- ---- moments

module _ (group : List Party) (clocks : Party → ℕ) (pace : Pace) (start : ℕ) (w : Cluster) where
  -- a front ends before each row behind it
  pub ends_before : (first more rest : List Timed) (timed : Timed) → AreCalm group clocks pace (no_traffic start) w ((first ++ more) ++ timed ∷ rest)
      → end_of start first ≤ timed.at
  ends_before first more rest timed calm =
      let from : GoesOnFrom group clocks pace start w (first ++ (more ++ timed ∷ rest)) = record {
        traffic = no_traffic start;
        calm = subst (AreCalm group clocks pace (no_traffic start) w) (append_assoc first more (timed ∷ rest)) calm;
        at_end = refl;
        ticked = λ party. omega arith;
      } in
      let later = calm_rest group clocks pace first (more ++ timed ∷ rest) start w from in
      let so_far = calm_first group clocks pace (more ++ timed ∷ []) rest (end_of start first) (after_rows w (rows_in first))
      (subst (GoesOnFrom group clocks pace (end_of start first) (after_rows w (rows_in first))) (sym (append_assoc more (timed ∷ []) rest)) later) in
      let h = not_before group clocks pace (more ++ timed ∷ []) (end_of start first) (after_rows w (rows_in first)) so_far in
      let e = end_last (end_of start first) more timed in
      omega (arith, h, e)

-- ---- who is no follower has stood

-- in one of these rows member m stands
pub record HasStood (m : ℕ) (w : Cluster) (front : List Timed) : Type 0 where
  pub first : List Timed
  pub timed : Timed
  pub more : List Timed
  pub split : front ≡ first ++ timed ∷ more
  pub term : ℕ
  pub stands : Stands m term (after_rows w (rows_in first)) timed.row

module _ (keeps_size : (t : AllocatorState) (number : ℕ) (event : Event) → (step t number event).step_state.allocator.size ≡ t.size)
    (frames_leave : FramesLeaveFollowers) (size : ℕ) (many : 2 ≤ size) (group : List Party) (clocks : Party → ℕ) (pace : Pace) (m : ℕ) where
  -- the server knows how many members there are
  abbrev pub HasSize : AllocatorState → Type 0
  HasSize t = t.size ≡ size

  pub size_kept : IsKept Always HasSize
  size_kept = record { stepped = λ t number event may is. keeps_size t number event ∙ is; popped = λ t is. is }

  -- the rows go on calmly
  abbrev pub Goes : Cluster → List Timed → Type 0
  Goes = GoesOn Always HasSize size_kept group clocks pace m

  pub follower_or_stood : (front rest : List Timed) (w : Cluster) → (goes : Goes w (front ++ rest)) → DoNoHarm w (rows_in front)
      → goes.runs.server.raft_server.memory.role ≡ Follower
      → HasStood m w front ⊎ ((server : AllocatorState) × (((after_rows w (rows_in front)).member m).status ≡ Up server) × (server.raft_server.memory.role ≡ Follower))
  follower_or_stood [] rest w goes harm role = inr (goes.runs.server, goes.runs.up.status, role)
  follower_or_stood (timed ∷ front) rest w goes harm role =
      by (λ follows. follower_or_stood front rest (after_row w timed.row) next harm.1 follows)
      (takes w m goes.runs.server next.runs.server goes.runs.up.status timed.row harm.0 next.runs.up.status)
    where
      next : Goes (after_row w timed.row) (front ++ rest)
      next = further Always HasSize size_kept group clocks pace m (timed ∷ []) (front ++ rest) w (λ x i. tt) goes

      further_on : (next.runs.server.raft_server.memory.role ≡ Follower → HasStood m (after_row w timed.row) front
          ⊎ ((server : AllocatorState) × (((after_rows (after_row w timed.row) (rows_in front)).member m).status ≡ Up server) × (server.raft_server.memory.role ≡ Follower)))
          → next.runs.server.raft_server.memory.role ≡ Follower → HasStood m w (timed ∷ front)
          ⊎ ((server : AllocatorState) × (((after_rows w (rows_in (timed ∷ front))).member m).status ≡ Up server) × (server.raft_server.memory.role ≡ Follower))
      further_on again follows = elim (again follows) [
        | inl stood ↦ inl (record {
          first = timed ∷ stood.first;
          timed = stood.timed;
          more = stood.more;
          split = ap (λ (l : List Timed). timed ∷ l) stood.split;
          term = stood.term;
          stands = stood.stands;
        })
        | inr still ↦ inr still
      ]

      by : (next.runs.server.raft_server.memory.role ≡ Follower → HasStood m (after_row w timed.row) front
          ⊎ ((server : AllocatorState) × (((after_rows (after_row w timed.row) (rows_in front)).member m).status ≡ Up server) × (server.raft_server.memory.role ≡ Follower)))
          → Takes w timed.row m goes.runs.server next.runs.server → HasStood m w (timed ∷ front)
          ⊎ ((server : AllocatorState) × (((after_rows w (rows_in (timed ∷ front))).member m).status ≡ Up server) × (server.raft_server.memory.role ≡ Follower))
      by again (Takes.Rests times server queue) = further_on again (ap (λ s. s.memory.role) server ∙ role)
      by again (Takes.Receives k ms is after_is) = further_on again (ap (λ (t : AllocatorState). t.raft_server.memory.role) after_is
          ∙ (frames_leave goes.runs.server (w.rows + 1) (arrival_at (frame_at w.frames k) ms) role).0)
      by again (Takes.Ticks ms word is after_is) = elim (tick_leaves goes.runs.server (w.rows + 1) ms word) [
        | inl same ↦ further_on again (ap (λ (t : AllocatorState). t.raft_server.memory.role) after_is ∙ (same.4 ∙ role))
        | inr stood ↦ inl (record {
          first = [];
          timed = timed;
          more = front;
          split = refl;
          term = goes.runs.server.raft_server.store.term + 1;
          stands = record {
            ms = ms;
            word = word;
            reads = is;
            before = goes.runs.server;
            runs = goes.runs.up.status;
            next = refl;
            after = next.runs.server;
            runs_then = next.runs.up.status;
            stands = ap (λ (t : AllocatorState). t.raft_server.memory.role) after_is
                ∙ (stood.3 ∙ is_candidate_then goes.runs.server (knows_then goes.runs.server (max goes.runs.server.now ms) stood.0)
                (let its_size = goes.runs.holds in omega (arith, its_size, many)));
            its_term = ap (λ (t : AllocatorState). t.raft_server.store.term) after_is ∙ stood.2;
          };
        })
      ]

  -- who followed when the rows began, and does not any more, has stood
  pub has_stood : (front rest : List Timed) (w : Cluster) → (goes : Goes w (front ++ rest)) → DoNoHarm w (rows_in front)
      → goes.runs.server.raft_server.memory.role ≡ Follower → (server : AllocatorState) → ((after_rows w (rows_in front)).member m).status ≡ Up server
      → server.raft_server.memory.role ≢ Follower → HasStood m w front
  has_stood front rest w goes harm role server up not_so = elim (follower_or_stood front rest w goes harm role) [
    | inl stood ↦ stood
    | inr still ↦ absurd (not_so (ap (λ (t : AllocatorState). t.raft_server.memory.role) (same_server server still.0 (sym up ∙ still.1)) ∙ still.2))
  ]
