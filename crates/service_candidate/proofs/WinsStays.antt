-- For four delays behind the row in which member c stands for election nobody stands again, and so terms stay.
use Rattle.std.proofs.Common.{◌≡◌, ◌≢◌, ℕ, ◌+◌, ◌<◌, ◌≤◌, arith, List, [], ◌∷◌, ◌++◌, inl, inr, refl, sym, ◌∙◌, ap, subst, Some}
use Rattle.std.proofs.lemmas.Bool.Decides.{eqb_tells}
use Rattle.std.proofs.lemmas.List.{append_assoc, append-nil}
use Rattle.raft_model.specs.Lists.{In}
use Rattle.raft_model.specs.Server.Role.{Leader}
use Rattle.bus_rows.specs.declared.row.Row.{Row}
use Rattle.bus_rows.specs.declared.row.Row.TheVariants.{Tick}
use Rattle.transfer_rx.specs.Reassembly.{Arrival}
use Rattle.alloc_spec.specs.AllocatorState.{AllocatorState}
use Rattle.alloc_spec.specs.Step.{Event}
use Rattle.service_steps.specs.InTime.{HearsLeader}
use Rattle.bus_rows.specs.Timed.{Timed, rows_in}
use Rattle.service_alone.specs.Calm.{end_of}
use Rattle.service_candidate.specs.Terms.{AreWithin, IsFreeFor, NobodyElseStands, NobodyLeads, NobodyStandsAbove}
use Rattle.service_candidate.specs.Votes.{HearsAppend, IsAsStanding, Stands}
use Rattle.service_candidate.specs.Waits.{WaitsAnew}
use Rattle.service_candidate.proofs.WinsFronts.{from_row_to_row, here_more, nobody_above, nobody_else}
use Rattle.service_candidate.proofs.LogsChange.{HearsAtFrame, log_or_hears}
use Rattle.service_candidate.proofs.WinsScene.{IsStepped, Scene, by_end, c_listed, calm_upto, clock_at, clock_next, end_before, from_at, from_there, harm_row, harm_there, harm_upto, here, highest, last, laws_at, laws_there, row_calm, runs_at, stepped_or_not, there, upto, v, w0, world_upto}
use Rattle.service_leader.proofs.RowsOfOne.{receipt_is}
use Rattle.service_leader.proofs.Stretches.{throughout_at, throughout_front, world_both}
use Rattle.service_calm.specs.Calm.{AreCalm, IsCalmRow, Member as OfMember, no_traffic}
use Rattle.service_calm.specs.Comes.{Throughout}
use Rattle.service_calm.proofs.Pair.{same_server}
use Rattle.bus_spec.specs.Cluster.{Cluster, after_row, after_rows}
use Rattle.bus_spec.specs.Lawful.{DoNoHarm}
use Rattle.bus_spec.specs.Members.MemberStatus.{Up}

pub in_middle : (front more : List Timed) (x : Timed) → In x (front ++ x ∷ more)
in_middle [] more x = inl refl
in_middle (y ∷ front) more x = inr (in_middle front more x)

module _ (s : Scene) where
  abbrev stands : Stands s.c s.term (there s) s.timed.row
  stands = s.calm.stands

  -- what standing left of c
  pub standing : IsAsStanding s.c s.term (there s) s.timed.row s.calm.stands
  standing = (laws_there s).asked s.c s.term s.timed.row (c_listed s) (harm_there s) s.calm.stands

  -- a row in which a member reads its clock shows the moment
  pub reads_clock : (p moment ms word : ℕ) (w : Cluster) (row : Row) (traffic : _) → IsCalmRow s.group s.clocks s.pace traffic w moment row → row ≡ Tick p ms word
      → ms ≡ moment + s.clocks (OfMember p)
  reads_clock p moment ms word w row traffic calm reads = (subst (λ (r : Row). IsCalmRow s.group s.clocks s.pace traffic w moment r) reads calm).1

  its_ms : s.calm.stands.ms ≡ s.timed.at + s.clocks (OfMember s.c)
  its_ms = reads_clock s.c s.timed.at s.calm.stands.ms s.calm.stands.word (there s) s.timed.row (from_there s).traffic (from_there s).calm.1 s.calm.stands.reads

  -- the clock of c when it has stood
  abbrev pub began : ℕ
  began = s.calm.stands.after.now

  pub began_low : s.timed.at + s.clocks (OfMember s.c) ≤ began
  began_low = let m = standing.moment in let k = its_ms in omega (arith, m, k)

  -- four delays later it shows less than the call timeout more
  pub began_high : (now : ℕ) → now ≤ highest s s.c began → now < began + 1000
  began_high now low = let k = began_low in let q = s.calm.quick in omega (arith, low, k, q)

  -- ---- the wait of c

  -- whoever has waited so shortly does not stand
  stood_not : (a b : List Timed) (x : Timed) → s.rest ≡ a ++ x ∷ b → x.at ≤ last s → (t : AllocatorState) → ((here s a).member s.c).status ≡ Up t
      → began ≤ t.times.since → (term : ℕ) → Stands s.c term (here s a) x.row → ⊥
  stood_not a b x e soon t up waits term again =
      let waited = ((laws_at s a (x ∷ b) e).begin s.c x.row (c_listed s) (harm_row s a b x e)).1 term again in
      let same : again.before ≡ t = same_server again.before t (sym again.runs ∙ up) in
      let its = ap (λ (q : AllocatorState). q.times.since) same in
      let now = ap (λ (q : AllocatorState). q.now) same in
      let ms = reads_clock s.c x.at again.ms again.word (here s a) x.row (from_at s a (x ∷ b) e).traffic (row_calm s a b x e) again.reads in
      let clock = (clock_at s s.c s.calm.member s.calm.stands.after s.calm.stands.runs_then a (x ∷ b) e (end_soon a b x e soon) t up).1 in
      let low = began_low in
      let quick = s.calm.quick in
      absurd (omega (arith, waited, its, now, ms, clock, waits, low, quick, soon))
    where
      end_soon : (a b : List Timed) (x : Timed) → s.rest ≡ a ++ x ∷ b → x.at ≤ last s → end_of s.timed.at a ≤ last s
      end_soon a b x e soon = let k = end_before s a b x e in omega (arith, k, soon)

  c_waits_more : (a b : List Timed) → s.rest ≡ a ++ b → end_of s.timed.at a ≤ last s → (front more : List Timed) (x : Timed) → a ≡ front ++ x ∷ more
      → ((t : AllocatorState) → ((here s front).member s.c).status ≡ Up t → began ≤ t.times.since)
      → (u : AllocatorState) → ((after_row (here s front) x.row).member s.c).status ≡ Up u → began ≤ u.times.since
  c_waits_more a b e soon front more x same before u up_then = elim (eqb_tells u.times.since t.times.since) [
    | inl z ↦ let k = before t up in let l = z.1 in omega (arith, k, l)
    | inr z ↦
        let anew : WaitsAnew s.c (here s front) x.row = record {
          before = t;
          runs = up;
          after = u;
          runs_then = up_then;
          anew = z.1;
          stands_not = λ term stands. stands_not term stands;
        } in
        let k = (laws_at s front (x ∷ more ++ b) whole_cut).begin s.c x.row (c_listed s) (harm_row s front (more ++ b) x whole_cut) in
        let l = k.0 anew in
        let now = (clock_next s s.c s.calm.member s.calm.stands.after s.calm.stands.runs_then front (more ++ b) x whole_cut x_soon u up_then).0 in
        omega (arith, l, now)
  ]
    where
      whole_cut : s.rest ≡ front ++ x ∷ (more ++ b)
      whole_cut = e ∙ ap (λ (l : List Timed). l ++ b) same ∙ append_assoc front (x ∷ more) b

      x_soon : x.at ≤ last s
      x_soon = let k = (by_end s a b e x (subst (In x) (sym same) (in_middle front more x))).1 in omega (arith, k, soon)

      t : AllocatorState
      t = (runs_at s s.c s.calm.member front (x ∷ more ++ b) whole_cut).server

      up : ((here s front).member s.c).status ≡ Up t
      up = (runs_at s s.c s.calm.member front (x ∷ more ++ b) whole_cut).up.status

      stands_not : (term : ℕ) → Stands s.c term (here s front) x.row → ⊥
      stands_not term again = stood_not front (more ++ b) x whole_cut x_soon t up (before t up) term again

  -- the wait of c goes on, or began anew since
  pub c_waits : (a b : List Timed) → s.rest ≡ a ++ b → end_of s.timed.at a ≤ last s → (t : AllocatorState) → ((here s a).member s.c).status ≡ Up t → began ≤ t.times.since
  c_waits a b e soon = from_row_to_row (v s) (λ (done : List Timed) (w : Cluster). (t : AllocatorState) → (w.member s.c).status ≡ Up t → began ≤ t.times.since) a
      (λ front more x same before. c_waits_more a b e soon front more x same before)
      (λ t up. let same = ap (λ (q : AllocatorState). q.times.since) (same_server t s.calm.stands.after (sym up ∙ s.calm.stands.runs_then)) in
      let k = standing.waits in omega (arith, same, k))

  pub end_soon_at : (a b : List Timed) (x : Timed) → s.rest ≡ a ++ x ∷ b → x.at ≤ last s → end_of s.timed.at a ≤ last s
  end_soon_at a b x e soon = let k = end_before s a b x e in omega (arith, k, soon)

  -- c does not stand again
  pub c_stands_not : (a b : List Timed) (x : Timed) → s.rest ≡ a ++ x ∷ b → x.at ≤ last s → (term : ℕ) → Stands s.c term (here s a) x.row → ⊥
  c_stands_not a b x e soon term again = stood_not a b x e soon again.before again.runs (c_waits a (x ∷ b) e (end_soon_at a b x e soon) again.before again.runs) term again

  -- nor does another member
  pub stands_not : (n : ℕ) → In (OfMember n) s.group → (a b : List Timed) (x : Timed) → s.rest ≡ a ++ x ∷ b → x.at ≤ last s → (term : ℕ)
      → Stands n term (here s a) x.row → ⊥
  stands_not n i a b x e soon term again =
      let same : n ≡ s.c = s.calm.alone a b x n term e soon i again in
      c_stands_not a b x e soon term (subst (λ (k : ℕ). Stands k term (here s a) x.row) same again)

  nobody : (a b : List Timed) → s.rest ≡ a ++ b → end_of s.timed.at a ≤ last s → (front more : List Timed) (x : Timed) (n term : ℕ) → a ≡ front ++ x ∷ more
      → In (OfMember n) s.group → Stands n term (here s front) x.row → ⊥
  nobody a b e soon front more x n term same i again = stands_not n i front (more ++ b) x
      (e ∙ ap (λ (l : List Timed). l ++ b) same ∙ append_assoc front (x ∷ more) b)
      (let k = (by_end s a b e x (subst (In x) (sym same) (in_middle front more x))).1 in omega (arith, k, soon)) term again

  -- ---- the laws of terms and of votes

  abbrev first : List Timed
  first = s.front ++ s.timed ∷ []

  world_first : after_rows (w0 s) (rows_in first) ≡ v s
  world_first = world_both (w0 s) s.front (s.timed ∷ [])

  first_with : (a : List Timed) → first ++ a ≡ upto s a
  first_with a = append_assoc s.front (s.timed ∷ []) a

  first_calm : (a b : List Timed) → s.rest ≡ a ++ b → AreCalm s.group s.clocks s.pace (no_traffic s.start) (w0 s) (first ++ (a ++ b))
  first_calm a b e = subst (AreCalm s.group s.clocks s.pace (no_traffic s.start) (w0 s))
      (append_assoc s.front (s.timed ∷ a) b ∙ sym (append_assoc s.front (s.timed ∷ []) (a ++ b))) (calm_upto s a b e)

  first_harm : (a b : List Timed) → s.rest ≡ a ++ b → DoNoHarm (w0 s) (rows_in (first ++ a))
  first_harm a b e = subst (λ (l : List Timed). DoNoHarm (w0 s) (rows_in l)) (sym (first_with a)) (harm_upto s a b e)

  -- terms stay within the highest
  pub within_at : (top : ℕ) → AreWithin s.group top (v s) → (a b : List Timed) → s.rest ≡ a ++ b → end_of s.timed.at a ≤ last s → AreWithin s.group top (here s a)
  within_at top within a b e soon = subst (λ (w : Cluster). AreWithin s.group top (after_rows w (rows_in a))) world_first
      (s.laws.terms s.group s.clocks s.pace s.start top first a b s.calm.listed s.calm.running s.calm.others (first_calm a b e) (first_harm a b e)
      (subst (AreWithin s.group top) (sym world_first) within)
      (subst (λ (w : Cluster). NobodyStandsAbove s.group top w a) (sym world_first)
      (nobody_above s.group top a (v s) (λ front more x n term same i again. absurd (nobody a b e soon front more x n term same i again)))))

  -- each other member stays free to vote for c
  pub free_at : AreWithin s.group s.term (v s)
      → ((m : ℕ) → In (OfMember m) s.group → m ≢ s.c → (t : AllocatorState) → ((v s).member m).status ≡ Up t → t.raft_server.store.term < s.term)
      → (a b : List Timed) → s.rest ≡ a ++ b → end_of s.timed.at a ≤ last s → (m : ℕ) → In (OfMember m) s.group → m ≢ s.c → IsFreeFor s.c s.term m (here s a)
  free_at within below a b e soon m i other = subst (λ (w : Cluster). IsFreeFor s.c s.term m (after_rows w (rows_in a))) world_first
      (s.laws.free s.group s.clocks s.pace s.start s.c s.term first a b s.calm.listed s.calm.running s.calm.member (first_calm a b e) (first_harm a b e)
      (subst (AreWithin s.group s.term) (sym world_first) within)
      (λ p j differs t up. below p j differs t (ap (λ (w : Cluster). (w.member p).status) (sym world_first) ∙ up))
      (subst (λ (w : Cluster). NobodyElseStands s.group s.c w a) (sym world_first)
      (nobody_else s.group s.c a (v s) (λ front more x n term same j again. absurd (nobody a b e soon front more x n term same j again))))
      (subst (λ (w : Cluster). NobodyStandsAbove s.group s.term w a) (sym world_first)
      (nobody_above s.group s.term a (v s) (λ front more x n term same j again. absurd (nobody a b e soon front more x n term same j again)))) m i other)

  -- no term becomes lower
  pub rises_at : (m : ℕ) → In (OfMember m) s.group → (a d b : List Timed) → s.rest ≡ a ++ (d ++ b) → (t u : AllocatorState)
      → ((here s a).member m).status ≡ Up t → ((here s (a ++ d)).member m).status ≡ Up u → t.raft_server.store.term ≤ u.raft_server.store.term
  rises_at m i a d b e t u up up_then = s.laws.rise s.group s.clocks s.pace s.start m (upto s a) d b t u s.calm.running (calm_upto s a (d ++ b) e)
      i (ap (λ (w : Cluster). (w.member m).status) (world_upto s a) ∙ up)
      (ap (λ (w : Cluster). (w.member m).status) (ap (λ (l : List Timed). after_rows (w0 s) (rows_in l)) (append_assoc s.front (s.timed ∷ a) d) ∙ world_upto s (a ++ d)) ∙ up_then)

  -- ---- as long as nobody leads

  -- where nobody leads throughout, nobody does behind a front
  pub quiet_at : (a front more : List Timed) → a ≡ front ++ more → Throughout (NobodyLeads s.group) (v s) a → NobodyLeads s.group (here s a) → NobodyLeads s.group (here s front)
  quiet_at a front [] e all then_too = subst (λ (l : List Timed). NobodyLeads s.group (here s l)) (e ∙ append-nil front) then_too
  quiet_at a front (y ∷ more) e all then_too = throughout_at (NobodyLeads s.group) front more y (v s) (subst (Throughout (NobodyLeads s.group) (v s)) e all)

  -- no append request comes to a member
  pub no_append : (m : ℕ) → In (OfMember m) s.group → (a b : List Timed) (x : Timed) → s.rest ≡ a ++ x ∷ b → x.at ≤ last s → Throughout (NobodyLeads s.group) (v s) a
      → NobodyLeads s.group (here s a) → HearsAppend m (here s a) x.row → ⊥
  no_append m i a b x e soon none none_then hears = s.calm.unheard a b x m e soon none none_then i hears

  -- a server that hears an append request in a step hears it in the row
  append_heard : (m : ℕ) (a : List Timed) (x : Timed) (t u : AllocatorState) → ((here s a).member m).status ≡ Up t → (stepped : IsStepped s m a x t u)
      → HearsAtFrame t stepped.event → HearsAppend m (here s a) x.row
  append_heard m a x t u up stepped hears =
      let receipt = receipt_is (here s a) m x.row hears.arrival (stepped.in_step ∙ ap (λ (event : Event). Some (m, event)) hears.comes) in
      record {
        k = receipt.k;
        ms = receipt.ms;
        comes = receipt.row_is;
        server = t;
        runs = up;
        delivery = hears.one.delivery;
        request = hears.one.request;
        hears = subst (λ (arrival : Arrival). HearsLeader t arrival hears.one.delivery hears.one.request) receipt.arrival_is hears.one.hears;
      }

  module _ (m : ℕ) (i : In (OfMember m) s.group) (first : AllocatorState) (a b : List Timed) (e : s.rest ≡ a ++ b) (soon : end_of s.timed.at a ≤ last s)
      (none : Throughout (NobodyLeads s.group) (v s) a) (none_then : NobodyLeads s.group (here s a)) where
    log_more : (front more : List Timed) (x : Timed) → a ≡ front ++ x ∷ more
        → ((t : AllocatorState) → ((here s front).member m).status ≡ Up t → t.raft_server.store.log ≡ first.raft_server.store.log)
        → (u : AllocatorState) → ((after_row (here s front) x.row).member m).status ≡ Up u → u.raft_server.store.log ≡ first.raft_server.store.log
    log_more front more x same before u up_then = elim (stepped_or_not s m i front (more ++ b) x whole_cut t u up up_then) [
      | inl stepped ↦ elim (log_or_hears t ((here s front).rows + 1) stepped.event (subst (λ (q : AllocatorState). q.raft_server.memory.role ≢ Leader) stepped.is leads_not)) [
        | inl still ↦ ap (λ (q : AllocatorState). q.raft_server.store.log) stepped.is ∙ (still ∙ before t up)
        | inr hears ↦ absurd (no_append m i front (more ++ b) x whole_cut x_soon (throughout_front (NobodyLeads s.group) front (x ∷ more) (v s)
            (subst (Throughout (NobodyLeads s.group) (v s)) same none)) (quiet_at a front (x ∷ more) same none none_then) (append_heard m front x t u up stepped hears))
      ]
      | inr left ↦ ap (λ (q : _). q.store.log) left.raft_server ∙ before t up
    ]
      where
        whole_cut : s.rest ≡ front ++ x ∷ (more ++ b)
        whole_cut = e ∙ ap (λ (l : List Timed). l ++ b) same ∙ append_assoc front (x ∷ more) b

        x_soon : x.at ≤ last s
        x_soon = let k = (by_end s a b e x (subst (In x) (sym same) (in_middle front more x))).1 in omega (arith, k, soon)

        t : AllocatorState
        t = (runs_at s m i front (x ∷ more ++ b) whole_cut).server

        up : ((here s front).member m).status ≡ Up t
        up = (runs_at s m i front (x ∷ more ++ b) whole_cut).up.status

        leads_not : u.raft_server.memory.role ≢ Leader
        leads_not = quiet_at a (front ++ x ∷ []) more (same ∙ sym (append_assoc front (x ∷ []) more)) none none_then m i u
            (ap (λ (w : Cluster). (w.member m).status) (here_more (v s) front x) ∙ up_then)

    -- logs stay as they were when c had stood
    pub logs_at : ((v s).member m).status ≡ Up first → (u : AllocatorState) → ((here s a).member m).status ≡ Up u → u.raft_server.store.log ≡ first.raft_server.store.log
    logs_at first_up = from_row_to_row (v s)
        (λ (done : List Timed) (w : Cluster). (t : AllocatorState) → (w.member m).status ≡ Up t → t.raft_server.store.log ≡ first.raft_server.store.log) a
        (λ front more x same before. log_more front more x same before)
        (λ t up. ap (λ (q : AllocatorState). q.raft_server.store.log) (same_server t first (sym up ∙ first_up)))
