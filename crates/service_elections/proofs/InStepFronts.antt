-- Behind each front of a calm: what runs, what its clock reads, and which terms there are.
use Rattle.std.proofs.Common.{◌≡◌, ℕ, ◌+◌, ◌≤◌, arith, true, List, [], ◌∷◌, ◌++◌, length, sym, ◌∙◌, ap, subst, append_assoc}
use Rattle.std.specs.Prelude.{◌⊎◌, nat_eq}
use Rattle.raft_model.specs.Lists.{In}
use Rattle.bus_rows.specs.declared.row.Row.{Row}
use Rattle.alloc_spec.specs.AllocatorState.{AllocatorState, knows_all, members_of}
use Rattle.alloc_spec.specs.Step.{Event, step}
use Rattle.bus_rows.specs.Timed.{Timed, rows_in}
use Rattle.service_alone.specs.Calm.{end_of}
use Rattle.service_calm.specs.Calm.{IsCalmRow, Member as OfMember}
use Rattle.service_calm.proofs.Calls.{Always}
use Rattle.service_calm.proofs.CallsKept.{IsKept, RunsWith, further}
use Rattle.service_calm.proofs.Counting.{now_after}
use Rattle.service_calm.proofs.Pair.{same_server}
use Rattle.service_leader.proofs.Stretches.{calm_first, end_both, end_last, not_before, world_both}
use Rattle.service_candidate.specs.Votes.{Stands}
use Rattle.service_candidate.proofs.OneStands.{IsOfSize, NoneStands, OneStands, decide, size_stays}
use Rattle.service_elections.specs.Running.{IsCalmOf}
use Rattle.service_elections.proofs.CalmFronts.{Calm, calm_of, goes_at, harm_front, harm_row, kept_at, recut}
use Rattle.service_elections.proofs.InStepGiven.{Ground, RowFacts}
use Rattle.service_elections.proofs.InStepLists.{one_more}
use Rattle.bus_spec.specs.Cluster.{Cluster, after_row, after_rows, world_of}
use Rattle.bus_spec.specs.Members.MemberStatus.{Up}

-- ---- what steps keep

-- the clock reads this moment at least
clock_above : (low : ℕ) → IsKept Always (λ t. low ≤ t.now)
clock_above low = record { stepped = λ t number event may is. let now = now_after t number event in omega (arith, now, is); popped = λ t is. is }

-- the server knows all members of the cluster
knows_kept : (keeps_size : (t : AllocatorState) (number : ℕ) (event : Event) → (step t number event).step_state.allocator.size ≡ t.size)
    → ((t : AllocatorState) (number : ℕ) (event : Event) → knows_all t ≡ true → members_of (step t number event).step_state.allocator ≡ members_of t)
    → IsKept Always (λ t. knows_all t ≡ true)
knows_kept keeps_size complete = record {
  stepped = λ t number event may is. (λ i. nat_eq (length (complete t number event is i)) (keeps_size t number event i)) ∙ is;
  popped = λ t is. is;
}

abbrev pub the_calm : Ground → Calm
the_calm g = calm_of g.ids g.rows g.group g.clocks g.pace g.start g.whole g.calm

module _ (g : Ground) where
  abbrev pub w0 : Cluster
  w0 = world_of g.ids g.rows

  -- the world behind these rows
  abbrev pub there : List Timed → Cluster
  there a = after_rows (world_of g.ids g.rows) (rows_in a)

  pub there_both : (a b : List Timed) → there (a ++ b) ≡ after_rows (there a) (rows_in b)
  there_both a b = world_both w0 a b

  pub there_more : (a : List Timed) (x : Timed) → there (a ++ x ∷ []) ≡ after_row (there a) x.row
  there_more a x = world_both w0 a (x ∷ [])

  -- ---- behind a front

  module _ (front rest : List Timed) (cut : g.whole ≡ front ++ rest) where
    pub calm_at : IsCalmOf g.ids g.rows g.group g.clocks g.pace g.start (front ++ rest)
    calm_at = recut (the_calm g) (front ++ rest) cut

    pub facts : RowFacts g.ids (there front)
    facts = g.given.row_facts (rows_in front) (harm_front (the_calm g) front rest cut)

    -- each member runs
    pub runs_at : (p : ℕ) → In (OfMember p) g.group → RunsWith (IsOfSize (length g.ids)) ((there front).member p)
    runs_at p i = kept_at (the_calm g) p i Always (IsOfSize (length g.ids)) (size_stays g.given.keeps_size (length g.ids))
        (λ t up. (g.given.row_facts [] tt).sizes p t (g.calm.listed p i) up) front rest cut (λ timed j. tt)

    -- it knows all members
    pub knows_at : (p : ℕ) → In (OfMember p) g.group → (t : AllocatorState) → ((there front).member p).status ≡ Up t → knows_all t ≡ true
    knows_at p i t up =
        let is = kept_at (the_calm g) p i Always (λ t. knows_all t ≡ true) (knows_kept g.given.keeps_size g.given.complete)
        (λ t up. g.calm.complete p t i up) front rest cut (λ timed j. tt) in
        subst (λ (s : AllocatorState). knows_all s ≡ true) (same_server is.server t (sym is.up.status ∙ up)) is.holds

  -- ---- one row more

  module _ (front rest : List Timed) (x : Timed) (cut : g.whole ≡ front ++ x ∷ rest) where
    pub next_cut : g.whole ≡ (front ++ x ∷ []) ++ rest
    next_cut = cut ∙ one_more front rest x

    -- somebody stands in it, or nobody does
    pub decided : OneStands g.group (there front) x.row ⊎ NoneStands g.group (there front) x.row
    decided =
        let goes = goes_at (the_calm g) front (x ∷ rest) cut in
        decide g.given.keeps_size (length g.ids) g.calm.others g.group g.clocks g.pace goes.traffic (there front) x.at x.row goes.calm.1 (harm_row (the_calm g) front rest x cut)
        (runs_at front (x ∷ rest) cut)
        (λ p i. subst (λ (u : Cluster). RunsWith (IsOfSize (length g.ids)) (u.member p)) (there_more front x) (runs_at (front ++ x ∷ []) rest next_cut p i))

    -- who stands reads its clock
    pub reading : (n term : ℕ) (s : Stands n term (there front) x.row) → s.ms ≡ x.at + g.clocks (OfMember n)
    reading n term s =
        let goes = goes_at (the_calm g) front (x ∷ rest) cut in
        (subst (λ (row : Row). IsCalmRow g.group g.clocks g.pace goes.traffic (there front) x.at row) s.reads goes.calm.1).1

  -- ---- two fronts

  module _ (a b rest : List Timed) (cut : g.whole ≡ (a ++ b) ++ rest) where
    pub early_cut : g.whole ≡ a ++ (b ++ rest)
    early_cut = cut ∙ append_assoc a b rest

    -- moments do not go back
    pub ends_rise : end_of g.start a ≤ end_of g.start (a ++ b)
    ends_rise =
        let later = not_before g.group g.clocks g.pace b (end_of g.start a) (there a)
        (calm_first g.group g.clocks g.pace b rest (end_of g.start a) (there a) (goes_at (the_calm g) a (b ++ rest) early_cut)) in
        let e = end_both g.start a b in omega (arith, later, e)

    -- nor do terms
    pub term_rises : (p : ℕ) → In (OfMember p) g.group → (t u : AllocatorState) → ((there a).member p).status ≡ Up t → ((there (a ++ b)).member p).status ≡ Up u
        → t.raft_server.store.term ≤ u.raft_server.store.term
    term_rises p i t u up up_then =
        g.given.rise g.group g.clocks g.pace g.start p a b rest t u g.calm.running (calm_at a (b ++ rest) early_cut).calm i up up_then

    -- nor do clocks
    pub now_rises : (p : ℕ) → In (OfMember p) g.group → (t u : AllocatorState) → ((there a).member p).status ≡ Up t → ((there (a ++ b)).member p).status ≡ Up u
        → t.now ≤ u.now
    now_rises p i t u up up_then =
        let goes = goes_at (the_calm g) a (b ++ rest) early_cut in
        let is = runs_at a (b ++ rest) early_cut p i in
        let later = (further Always (λ s. t.now ≤ s.now) (clock_above t.now) g.group g.clocks g.pace p b rest (there a) (λ timed j. tt) (record {
          traffic = goes.traffic;
          calm = goes.calm;
          runs = record {
            server = is.server;
            up = is.up;
            holds = let e = ap (λ (s : AllocatorState). s.now) (same_server is.server t (sym is.up.status ∙ up)) in omega (arith, e);
          };
        })).runs in
        subst (λ (s : AllocatorState). t.now ≤ s.now)
        (same_server later.server u (sym later.up.status ∙ (ap (λ (v : Cluster). (v.member p).status) (sym (there_both a b)) ∙ up_then))) later.holds

  -- a row of a front is no later than it ends
  pub row_before : (x y rest : List Timed) (z : Timed) → g.whole ≡ (x ++ z ∷ y) ++ rest → z.at ≤ end_of g.start (x ++ z ∷ y)
  row_before x y rest z cut =
      let split : x ++ z ∷ y ≡ (x ++ z ∷ []) ++ y = one_more x y z in
      let h = ends_rise (x ++ z ∷ []) y rest (cut ∙ ap (λ (l : List Timed). l ++ rest) split) in
      let e = end_last g.start x z in
      let same = ap (end_of g.start) split in
      omega (arith, h, e, same)
