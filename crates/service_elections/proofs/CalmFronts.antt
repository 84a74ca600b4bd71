-- A calm, cut at fronts of its rows: the world behind a front and the calm that is left, what comes before what, who runs,
-- and what clocks show.
use Rattle.std.proofs.Common.{◌≡◌, ℕ, ◌+◌, ◌≤◌, arith, List, [], ◌∷◌, ◌++◌, inl, inr, refl, sym, ◌∙◌, ap, subst}
use Rattle.raft_model.specs.Lists.{In}
use Rattle.bus_rows.specs.declared.row.Row.{Row}
use Rattle.alloc_spec.specs.AllocatorState.{AllocatorState}
use Rattle.bus_agreement.proofs.Concatenations.{first_harmless, row_harmless}
use Rattle.bus_rows.specs.Timed.{Timed, rows_in}
use Rattle.service_alone.specs.Calm.{Pace, end_of}
use Rattle.service_leader.proofs.Stretches.{GoesOnFrom, calm_first, calm_rest, in_between, not_before, rows_both, world_both}
use Rattle.service_elections.specs.Running.{IsCalmOf}
use Rattle.service_calm.specs.Calm.{IsRunning, Member as OfMember, Party, no_traffic}
use Rattle.service_calm.proofs.CallsKept.{IsKept, RunsWith, further}
use Rattle.service_calm.proofs.Counting.{now_after}
use Rattle.service_calm.proofs.Pair.{same_server}
use Rattle.bus_spec.specs.Cluster.{Cluster, after_rows, world_of}
use Rattle.bus_spec.specs.Lawful.{DoNoHarm, DoesNoHarm}
use Rattle.bus_spec.specs.Members.MemberStatus.{Up}

-- a row stands among those before it and behind it
pub among : (front more : List Timed) (x : Timed) → In x (front ++ x ∷ more)
among [] more x = inl refl
among (y ∷ front) more x = inr (among front more x)

-- the clock of the server shows no later moment than this
abbrev pub ShowsBy : (high : ℕ) → AllocatorState → Type 0
ShowsBy high t = t.now ≤ high

shows_kept : (high : ℕ) → IsKept (λ moment. moment ≤ high) (ShowsBy high)
shows_kept high = record { stepped = λ t number event may is. let now = now_after t number event in omega (arith, now, may, is); popped = λ t is. is }

-- a member of which this is known runs
abbrev pub is_running : (p : ℕ) (w : Cluster) {Holds : AllocatorState → Type 0} → RunsWith Holds (w.member p) → IsRunning p w
is_running p w run = record { server = run.server; runs = run.up.status; faults = run.up.quiet.faults; disk = run.up.quiet.calls }

-- a calm of a group
pub record Calm : Type 0 where
  pub ids : List ℕ
  pub rows : List Row
  pub group : List Party
  pub clocks : Party → ℕ
  pub pace : Pace
  pub start : ℕ
  pub whole : List Timed
  pub calm : IsCalmOf ids rows group clocks pace start whole

abbrev pub calm_of : (ids : List ℕ) (rows : List Row) (group : List Party) (clocks : Party → ℕ) (pace : Pace) (start : ℕ) (whole : List Timed)
    → IsCalmOf ids rows group clocks pace start whole → Calm
calm_of ids rows group clocks pace start whole calm =
    record { ids = ids; rows = rows; group = group; clocks = clocks; pace = pace; start = start; whole = whole; calm = calm }

module _ (c : Calm) where
  abbrev pub w0 : Cluster
  w0 = world_of c.ids c.rows

  -- the world behind these rows
  abbrev pub at : List Timed → Cluster
  at a = after_rows w0 (rows_in a)

  pub at_more : (a d : List Timed) → at (a ++ d) ≡ after_rows (at a) (rows_in d)
  at_more a d = world_both w0 a d

  -- ---- what is left

  pub recut : (other : List Timed) → c.whole ≡ other → IsCalmOf c.ids c.rows c.group c.clocks c.pace c.start other
  recut other e = subst (IsCalmOf c.ids c.rows c.group c.clocks c.pace c.start) e c.calm

  pub from_start : (other : List Timed) → c.whole ≡ other → GoesOnFrom c.group c.clocks c.pace c.start w0 other
  from_start other e = record { traffic = no_traffic c.start; calm = (recut other e).calm; at_end = refl; ticked = λ party. omega arith }

  pub goes_at : (a b : List Timed) → c.whole ≡ a ++ b → GoesOnFrom c.group c.clocks c.pace (end_of c.start a) (at a) b
  goes_at a b e = calm_rest c.group c.clocks c.pace a b c.start w0 (from_start (a ++ b) e)

  pub goes_to : (a b : List Timed) → c.whole ≡ a ++ b → GoesOnFrom c.group c.clocks c.pace c.start w0 a
  goes_to a b e = calm_first c.group c.clocks c.pace a b c.start w0 (from_start (a ++ b) e)

  pub harm_in : (a b : List Timed) → c.whole ≡ a ++ b → DoNoHarm w0 (rows_in a ++ rows_in b)
  harm_in a b e = subst (DoNoHarm w0) (ap rows_in e ∙ rows_both a b) c.calm.harmless

  pub harm_front : (a b : List Timed) → c.whole ≡ a ++ b → DoNoHarm w0 (rows_in a)
  harm_front a b e = first_harmless w0 (rows_in a) (rows_in b) (harm_in a b e)

  pub harm_row : (a b : List Timed) (x : Timed) → c.whole ≡ a ++ x ∷ b → DoesNoHarm (at a) x.row
  harm_row a b x e = row_harmless w0 (rows_in a) (rows_in b) x.row (harm_in a (x ∷ b) e)

  -- ---- moments

  -- rows of a front are no later than its end
  pub by_end : (a b : List Timed) → c.whole ≡ a ++ b → (y : Timed) → In y a → y.at ≤ end_of c.start a
  by_end a b e y i = (in_between c.group c.clocks c.pace a c.start w0 (goes_to a b e) y i).1

  pub end_before : (a b : List Timed) (x : Timed) → c.whole ≡ a ++ x ∷ b → end_of c.start a ≤ x.at
  end_before a b x e = let goes = goes_at a (x ∷ b) e in omega (arith, goes.calm.0.moments, goes.at_end)

  -- the rows before one come no later
  pub before_row : (a b : List Timed) (x : Timed) → c.whole ≡ a ++ x ∷ b → (y : Timed) → In y a → y.at ≤ x.at
  before_row a b x e y i = let k = by_end a (x ∷ b) e y i in let l = end_before a b x e in omega (arith, k, l)

  -- ---- who runs

  module _ (p : ℕ) (i : In (OfMember p) c.group) where
    abbrev first_run : IsRunning p w0
    first_run = c.calm.running p i

    -- what steps keep holds behind these rows
    pub kept_at : (MayCome : ℕ → Type 0) (Holds : AllocatorState → Type 0) → IsKept MayCome Holds
        → ((t : AllocatorState) → (w0.member p).status ≡ Up t → Holds t)
        → (a b : List Timed) → c.whole ≡ a ++ b → ((x : Timed) → In x a → MayCome (x.at + c.clocks (OfMember p))) → RunsWith Holds ((at a).member p)
    kept_at MayCome Holds kept holds a b e may = (further MayCome Holds kept c.group c.clocks c.pace p a b w0 may (record {
      traffic = no_traffic c.start;
      calm = (recut (a ++ b) e).calm;
      runs = record {
        server = first_run.server;
        up = record { status = first_run.runs; quiet = record { faults = first_run.faults; calls = first_run.disk } };
        holds = holds first_run.server first_run.runs;
      };
    })).runs

    -- and so from some front on
    pub kept_from : (MayCome : ℕ → Type 0) (Holds : AllocatorState → Type 0) → IsKept MayCome Holds → (a d b : List Timed) → c.whole ≡ a ++ (d ++ b)
        → RunsWith Holds ((at a).member p) → ((x : Timed) → In x d → MayCome (x.at + c.clocks (OfMember p))) → RunsWith Holds ((at (a ++ d)).member p)
    kept_from MayCome Holds kept a d b e runs may =
        let goes = goes_at a (d ++ b) e in
        subst (λ (w : Cluster). RunsWith Holds (w.member p)) (sym (at_more a d))
        (further MayCome Holds kept c.group c.clocks c.pace p d b (at a) may (record { traffic = goes.traffic; calm = goes.calm; runs = runs })).runs

    -- its clock shows no later moment than the last row
    pub runs_at : (a b : List Timed) → c.whole ≡ a ++ b → RunsWith (ShowsBy (end_of c.start a + c.clocks (OfMember p))) ((at a).member p)
    runs_at a b e =
        let last : ℕ = end_of c.start a + c.clocks (OfMember p) in
        let later = not_before c.group c.clocks c.pace a c.start w0 (goes_to a b e) in
        kept_at (λ moment. moment ≤ last) (ShowsBy last) (shows_kept last) (λ t up. let first = c.calm.clock p i t up in omega (arith, first, later)) a b e
        (λ x j. let soon = by_end a b e x j in omega (arith, soon))

    pub running_at : (a b : List Timed) → c.whole ≡ a ++ b → IsRunning p (at a)
    running_at a b e = is_running p (at a) (runs_at a b e)

    pub clock_at : (a b : List Timed) → c.whole ≡ a ++ b → (t : AllocatorState) → ((at a).member p).status ≡ Up t → t.now ≤ end_of c.start a + c.clocks (OfMember p)
    clock_at a b e t up =
        let runs = runs_at a b e in
        let same = ap (λ (q : AllocatorState). q.now) (same_server t runs.server (sym up ∙ runs.up.status)) in
        let k = runs.holds in omega (arith, same, k)
