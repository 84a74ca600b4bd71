-- Fronts of calm rows: the first one that ends later than a moment.
use Rattle.std.proofs.Common.{◌≡◌, ℕ, ◌+◌, ◌<◌, ◌≤◌, arith, List, [], ◌∷◌, ◌++◌, refl, ap, inl, inr}
use Rattle.std.proofs.lemmas.Bool.Decides.{leb_tells}
use Rattle.raft_model.specs.Lists.{In}
use Rattle.bus_rows.specs.Timed.{Timed, rows_in}
use Rattle.service_alone.specs.Calm.{Pace, end_of}
use Rattle.service_calm.specs.Calm.{Member as OfMember, Party}
use Rattle.service_leader.proofs.Stretches.{GoesOnFrom, calm_rest}
use Rattle.service_device.specs.Served.{PairsFit}
use Rattle.bus_spec.specs.Cluster.{Cluster, after_row, after_rows}

-- ---- the first front that is later

-- The first front of these rows that ends later than this moment ends at most a period later.
pub record FirstLater (period moment last : ℕ) (rows : List Timed) : Type 0 where
  pub front : List Timed
  pub rest : List Timed
  pub split : rows ≡ front ++ rest
  pub late : last < end_of moment front
  pub near : end_of moment front ≤ last + period

pub first_later : (group : List Party) (clocks : Party → ℕ) (pace : Pace) (n : ℕ) → In (OfMember n) group → (last : ℕ) (rows : List Timed) (moment : ℕ)
    (w : Cluster) → GoesOnFrom group clocks pace moment w rows → moment ≤ last → last < end_of moment rows → FirstLater pace.period moment last rows
first_later group clocks pace n i last [] moment w from low long = absurd (omega (arith, low, long))
first_later group clocks pace n i last (x ∷ rows) moment w from low long = elim (leb_tells x.at last) [
  | inl z ↦
      let more = first_later group clocks pace n i last rows x.at (after_row w x.row) (calm_rest group clocks pace (x ∷ []) rows moment w from) z.1 long in
      record {
        front = x ∷ more.front;
        rest = more.rest;
        split = ap (λ (l : List Timed). x ∷ l) more.split;
        late = more.late;
        near = more.near;
      }
  | inr z ↦
      let a = from.calm.0.ticks (OfMember n) i in
      let b = from.ticked (OfMember n) in
      record { front = x ∷ []; rest = rows; split = refl; late = z.1; near = omega (arith, a, b, low) }
]

-- ---- what holds of the later rows

pub pairs_rest : (n : ℕ) (front rest : List Timed) (w : Cluster) → PairsFit n w (front ++ rest) → PairsFit n (after_rows w (rows_in front)) rest
pairs_rest n [] rest w all = all
pairs_rest n (x ∷ front) rest w all = pairs_rest n front rest (after_row w x.row) all.1
