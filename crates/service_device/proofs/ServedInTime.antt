-- A new device in a calm: from the row in which its pair is recorded to the one in which it is told.
use Rattle.std.proofs.Common.{◌≡◌, ◌≢◌, ℕ, ◌<◌, ◌≤◌, List, [], ◌∷◌, ◌++◌, length, length-append, append_assoc, refl, sym, ◌∙◌, ap, subst, inl, inr, arith}
use Rattle.std.specs.Prelude.{drop, slice_index_or}
use Rattle.can_frame.specs.declared.entry.Entry.{Entry}
use Rattle.can_frame.specs.Zeros.{zeros}
use Rattle.raft_core.specs.Taken.{proposal}
use Rattle.raft_model.specs.Lists.{In}
use Rattle.bus_rows.specs.declared.row.Row.{Row}
use Rattle.alloc_spec.specs.AllocatorState.{AllocatorState}
use Rattle.alloc_spec_laws.proofs.Lists.{in_back}
use Rattle.service_steps.proofs.Alone.{one_longer}
use Rattle.bus_rows.specs.Timed.{Timed, rows_in}
use Rattle.service_alone.specs.Calm.{Pace, end_of}
use Rattle.service_calm.specs.Calm.{Party}
use Rattle.service_device.specs.Served.{HasCommittedBy, IsRecordedBy, IsToldBy}
use Rattle.service_device.specs.Settled.{IsCalmUnder}
use Rattle.service_calm.proofs.Pair.{same_server}
use Rattle.service_device.proofs.LosesNothing.{LogGrows}
use Rattle.service_device.proofs.ServedCommitted.{two_cuts}
use Rattle.service_device.proofs.ServedOffered.{IsToldAmong, TellingLaws, walk}
use Rattle.service_device.proofs.SettlesFrom.{goes_behind}
use Rattle.service_leader.proofs.Stretches.{GoesOnFrom, calm_first, in_between, world_both}
use Rattle.bus_spec.specs.Cluster.{Cluster, after_rows, world_of}
use Rattle.bus_spec.specs.Members.MemberStatus.{Up}

-- where rows begin with this one, so do the first of them
pub heads : (timed : Timed) (late rest c d : List Timed) (x : Timed) → timed ∷ late ≡ (c ++ x ∷ d) ++ rest
    → (more : List Timed) × (c ++ x ∷ [] ≡ timed ∷ more) × (late ≡ more ++ (d ++ rest))
heads timed late rest [] d x e =
    ([], (λ i. sym (ap (λ (l : List Timed). slice_index_or l 0 timed) e) i ∷ []), ap (λ (l : List Timed). drop 1 l) e)
heads timed late rest (y ∷ c) d x e = (
  c ++ x ∷ [],
  λ i. sym (ap (λ (l : List Timed). slice_index_or l 0 timed) e) i ∷ (c ++ x ∷ []),
  ap (λ (l : List Timed). drop 1 l) e ∙ (append_assoc c (x ∷ d) rest ∙ sym (append_assoc c (x ∷ []) (d ++ rest))),
)

-- rows are cut behind one of them
behind_row : (rows front rest more tail : List Timed) (x : Timed) → rows ≡ front ++ x ∷ rest → rest ≡ more ++ tail → rows ≡ (front ++ x ∷ []) ++ (more ++ tail)
behind_row rows front rest more tail x e f = e ∙ (ap (λ (l : List Timed). front ++ x ∷ l) f ∙ sym (append_assoc front (x ∷ []) (more ++ tail)))

row_and_more : (front rows more : List Timed) (x : Timed) → rows ≡ x ∷ more → front ++ rows ≡ (front ++ x ∷ []) ++ more
row_and_more front rows more x e = ap (λ (l : List Timed). front ++ l) e ∙ sym (append_assoc front (x ∷ []) more)

-- a log that grows behind a pair
pair_and_more : (later former log more : List Entry) (pair : Entry) → later ≡ former ++ more → former ≡ log ++ pair ∷ [] → later ≡ log ++ pair ∷ more
pair_and_more later former log more pair e f = e ∙ (ap (λ (l : List Entry). l ++ more) f ∙ append_assoc log (pair ∷ []) more)

module _ (laws : TellingLaws) (ids : List ℕ) (rows : List Row) (group : List Party) (clocks : Party → ℕ) (pace : Pace)
    (start n term : ℕ) (first later : List Timed) (under : IsCalmUnder ids rows group clocks pace start n term first later)
    (grows : LogGrows n (after_rows (world_of ids rows) (rows_in first)) later)
    (sane : (front rest : List Timed) (t : AllocatorState) → later ≡ front ++ rest
    → ((after_rows (after_rows (world_of ids rows) (rows_in first)) (rows_in front)).member n).status ≡ Up t
    → t.raft_server.store.commit ≤ length t.raft_server.store.log)
    (log : List Entry) (ahead : ℕ) (uid : List ℕ) (device : uid ≢ zeros) (heard last : ℕ)
    (by : IsRecordedBy ids n term log ahead uid (end_of start first) heard (after_rows (world_of ids rows) (rows_in first)) later)
    (done : HasCommittedBy n term (log ++ proposal term uid by.node ∷ []) (end_of start first) last (after_rows (world_of ids rows) (rows_in first)) later) where
  abbrev w : Cluster
  w = world_of ids rows

  abbrev led_from : Cluster
  led_from = after_rows w (rows_in first)

  abbrev from : ℕ
  from = end_of start first

  abbrev here : List Timed → Cluster
  here front = after_rows led_from (rows_in front)

  -- the pair is not committed before it is recorded
  not_before_it : (tail : List Timed) → by.front ≡ done.front ++ tail → ⊥
  not_before_it tail e =
      let cut : later ≡ done.front ++ (tail ++ by.timed ∷ by.rest)
      = by.split ∙ (ap (λ (l : List Timed). l ++ by.timed ∷ by.rest) e ∙ append_assoc done.front tail (by.timed ∷ by.rest)) in
      let more = grows done.front tail (by.timed ∷ by.rest) done.leads.server by.settled.server cut done.leads.runs
      (subst (λ (l : List Timed). ((here l).member n).status ≡ Up by.settled.server) e by.settled.runs) in
      let inside = sane done.front (tail ++ by.timed ∷ by.rest) done.leads.server cut done.leads.runs in
      let all = done.committed in
      let both = length-append done.leads.server.raft_server.store.log more.0 in
      absurd (omega (arith, inside, all, both, ap length more.1, ap length by.settled.log_is, one_longer log (proposal term uid by.node)))

  module _ (mid : List Timed) (front_is : done.front ≡ by.front ++ mid) (rest_is : by.timed ∷ by.rest ≡ mid ++ done.rest) where
    cut_here : later ≡ by.front ++ (mid ++ done.rest)
    cut_here = by.split ∙ ap (λ (l : List Timed). by.front ++ l) rest_is

    has_pair : (c d : List Timed) (x : Timed) → mid ≡ c ++ x ∷ d → (t : AllocatorState) → ((here (by.front ++ (c ++ x ∷ []))).member n).status ≡ Up t
        → (more : List Entry) × (t.raft_server.store.log ≡ log ++ proposal term uid by.node ∷ more)
    has_pair c d x e t up =
        let h = heads by.timed by.rest done.rest c d x (rest_is ∙ ap (λ (l : List Timed). l ++ done.rest) e) in
        let early : List Timed = by.front ++ by.timed ∷ [] in
        let cut : later ≡ early ++ (h.0 ++ (d ++ done.rest)) = behind_row later by.front by.rest h.0 (d ++ done.rest) by.timed by.split h.2 in
        let same : by.front ++ (c ++ x ∷ []) ≡ early ++ h.0 = row_and_more by.front (c ++ x ∷ []) h.0 by.timed h.1 in
        let more = grows early h.0 (d ++ done.rest) by.recorded.server t cut
        (subst (λ (v : Cluster). (v.member n).status ≡ Up by.recorded.server) (sym (world_both led_from by.front (by.timed ∷ []))) by.recorded.runs)
        (subst (λ (l : List Timed). ((here l).member n).status ≡ Up t) same up) in (
          more.0,
          pair_and_more t.raft_server.store.log by.recorded.server.raft_server.store.log log more.0 (proposal term uid by.node) more.1 by.recorded.its_log,
        )

    waits : (t : AllocatorState) → ((here by.front).member n).status ≡ Up t → (t.raft_server.memory.told ≡ length log) × (t.raft_server.store.commit ≤ length log)
    waits t up =
        let same = same_server by.settled.server t (sym by.settled.runs ∙ up) in
        let all = by.settled.committed in
        subst (λ (s : AllocatorState). (s.raft_server.memory.told ≡ length log) × (s.raft_server.store.commit ≤ length log)) same (by.settled.told, omega (arith, all))

    committed_then : (t : AllocatorState) → ((here (by.front ++ mid)).member n).status ≡ Up t → length log < t.raft_server.store.commit
    committed_then t up =
        let same = same_server done.leads.server t (sym done.leads.runs ∙ subst (λ (l : List Timed). ((here l).member n).status ≡ Up t) (sym front_is) up) in
        let all = done.committed in
        subst (λ (s : AllocatorState). length log < s.raft_server.store.commit) same (omega (arith, all, one_longer log (proposal term uid by.node)))

    among : IsToldAmong laws ids rows group clocks pace start n term first later under log uid by.node device by.front mid done.rest
    among = walk laws ids rows group clocks pace start n term first later under log uid by.node device mid by.front done.rest cut_here waits has_pair committed_then

    from_start : GoesOnFrom group clocks pace from led_from done.front
    from_start = calm_first group clocks pace done.front done.rest from led_from
        (subst (GoesOnFrom group clocks pace from led_from) done.split
        (goes_behind w group clocks pace start n first later under.calm (under.running n under.member) [] later refl))

    in_front_of : In among.timed done.front
    in_front_of = subst (λ (l : List Timed). In among.timed l) (sym (front_is ∙ ap (λ (l : List Timed). by.front ++ l) among.split))
        (in_back among.timed by.front (among.front ++ among.timed ∷ among.tail) (in_back among.timed among.front (among.timed ∷ among.tail) (inl refl)))

    told_among : IsToldBy ids n term log uid from last led_from later
    told_among = record {
      front = by.front ++ among.front;
      timed = among.timed;
      rest = among.tail ++ done.rest;
      split = cut_here ∙ (ap (λ (l : List Timed). by.front ++ (l ++ done.rest)) among.split
          ∙ (ap (λ (l : List Timed). by.front ++ l) (append_assoc among.front (among.timed ∷ among.tail) done.rest)
          ∙ sym (append_assoc by.front among.front (among.timed ∷ (among.tail ++ done.rest)))));
      soon = let s = done.soon in let i = (in_between group clocks pace done.front from led_from from_start among.timed in_front_of).1 in omega (arith, s, i);
      node = by.node;
      left = by.left;
      tells = among.told.tells;
      more = among.told.more;
      leads = among.told.leads;
      committed = among.told.committed;
    }

  -- the pair is told
  pub is_told_by : IsToldBy ids n term log uid from last led_from later
  is_told_by = elim (two_cuts by.front (by.timed ∷ by.rest) done.front done.rest (sym by.split ∙ done.split)) [
    | inl z ↦ told_among z.0 z.1 z.2
    | inr z ↦ absurd (not_before_it z.0 z.1)
  ]
