-- Calm rows in two parts, one after the other: what holds of both holds of each, and where the first ends.
use Rattle.std.proofs.Common.{◌≡◌, ◌≢◌, ◌⊎◌, ℕ, ◌+◌, ◌<◌, ◌≤◌, arith, List, [], ◌∷◌, ◌++◌, drop, true, inl, inr, refl, sym, ap}
use Rattle.std.specs.Prelude.{slice_index_or}
use Rattle.std.proofs.lemmas.Bool.Decides.{leb_tells}
use Rattle.raft_model.specs.Lists.{In}
use Rattle.bus_rows.specs.declared.row.Row.{Row}
use Rattle.alloc_spec_laws.proofs.Choices.{either}
use Rattle.bus_rows.specs.Timed.{Timed, rows_in}
use Rattle.service_alone.specs.Calm.{Pace, end_of}
use Rattle.service_calm.specs.Calm.{AreCalm, Member, Party, Traffic, reads, traffic_after}
use Rattle.service_calm.specs.CallsInTime.{OffersCall}
use Rattle.service_calm.specs.Comes.{Throughout}
use Rattle.service_leader.specs.LeadsOn.{NobodyStands, WaitsOn}
use Rattle.service_leader.specs.NoElection.{CallsFit}
use Rattle.bus_spec.specs.Cluster.{Cluster, after_row, after_rows}
use Rattle.bus_spec.specs.Lawful.{DoNoHarm}

-- ---- rows, worlds and moments

pub rows_both : (front rest : List Timed) → rows_in (front ++ rest) ≡ rows_in front ++ rows_in rest
rows_both [] rest = refl
rows_both (timed ∷ front) rest = ap (λ (l : List Row). timed.row ∷ l) (rows_both front rest)

pub world_both : (w : Cluster) (front rest : List Timed) → after_rows w (rows_in (front ++ rest)) ≡ after_rows (after_rows w (rows_in front)) (rows_in rest)
world_both w [] rest = refl
world_both w (timed ∷ front) rest = world_both (after_row w timed.row) front rest

pub end_both : (start : ℕ) (front rest : List Timed) → end_of start (front ++ rest) ≡ end_of (end_of start front) rest
end_both start [] rest = refl
end_both start (timed ∷ front) rest = end_both timed.at front rest

-- rows that do no harm, and more behind them
pub harmless_both : (w : Cluster) (first rest : List Row) → DoNoHarm w first → DoNoHarm (after_rows w first) rest → DoNoHarm w (first ++ rest)
harmless_both w [] rest a b = b
harmless_both w (row ∷ first) rest a b = (a.0, harmless_both (after_row w row) first rest a.1 b)

-- where rows do no harm, neither do those behind the first of them
pub harmless_rest : (w : Cluster) (first rest : List Row) → DoNoHarm w (first ++ rest) → DoNoHarm (after_rows w first) rest
harmless_rest w [] rest all = all
harmless_rest w (row ∷ first) rest all = harmless_rest (after_row w row) first rest all.1

-- the last row says when rows end
pub end_last : (start : ℕ) (front : List Timed) (last : Timed) → end_of start (front ++ last ∷ []) ≡ last.at
end_last start front last = end_both start front (last ∷ [])

-- no rows, or a last one behind others
pub record HasLast (rows : List Timed) : Type 0 where
  pub front : List Timed
  pub last : Timed
  pub split : rows ≡ front ++ last ∷ []

pub none_or_last : (rows : List Timed) → (rows ≡ []) ⊎ HasLast rows
none_or_last [] = inl refl
none_or_last (first ∷ rows) = elim (none_or_last rows) [
  | inl none ↦ inr (record { front = []; last = first; split = ap (λ (l : List Timed). first ∷ l) none })
  | inr some ↦ inr (record { front = first ∷ some.front; last = some.last; split = ap (λ (l : List Timed). first ∷ l) some.split })
]

no_end : (middle rest : List Timed) (timed : Timed) → [] ≡ middle ++ timed ∷ rest → ⊥
no_end [] rest timed e = cc (e)
no_end (other ∷ middle) rest timed e = cc (e)

-- where one of these rows is not the last, the last stands behind it
pub last_behind : (front middle rest : List Timed) (last timed : Timed) → front ++ last ∷ [] ≡ middle ++ timed ∷ rest → timed.at ≢ last.at
    → (tail : List Timed) × (rest ≡ tail ++ last ∷ []) × (front ≡ middle ++ timed ∷ tail)
last_behind [] [] rest last timed e differs = absurd (differs (ap (λ (l : List Timed). (slice_index_or l 0 last).at) (sym e)))
last_behind [] (other ∷ middle) rest last timed e differs = absurd (no_end middle rest timed (ap (λ (l : List Timed). drop 1 l) e))
last_behind (first ∷ front) [] rest last timed e differs =
    (front, sym (ap (λ (l : List Timed). drop 1 l) e), ap (λ (l : List Timed). slice_index_or l 0 last ∷ front) e)
last_behind (first ∷ front) (other ∷ middle) rest last timed e differs =
    let more = last_behind front middle rest last timed (ap (λ (l : List Timed). drop 1 l) e) differs in
    let same : first ≡ other = ap (λ (l : List Timed). slice_index_or l 0 last) e in
    (more.0, more.1, λ i. same i ∷ more.2 i)

-- ---- what holds throughout

module _ (Holds : Cluster → Type 0) where
  pub throughout_at : (front rest : List Timed) (timed : Timed) (w : Cluster) → Throughout Holds w (front ++ timed ∷ rest)
      → Holds (after_rows w (rows_in front))
  throughout_at [] rest timed w all = all.0
  throughout_at (first ∷ front) rest timed w all = throughout_at front rest timed (after_row w first.row) all.1

  pub throughout_front : (front rest : List Timed) (w : Cluster) → Throughout Holds w (front ++ rest) → Throughout Holds w front
  throughout_front [] rest w all = tt
  throughout_front (first ∷ front) rest w all = (all.0, throughout_front front rest (after_row w first.row) all.1)

  pub throughout_rest : (front rest : List Timed) (w : Cluster) → Throughout Holds w (front ++ rest) → Throughout Holds (after_rows w (rows_in front)) rest
  throughout_rest [] rest w all = all
  throughout_rest (first ∷ front) rest w all = throughout_rest front rest (after_row w first.row) all.1

  pub throughout_first : (rows : List Timed) (last : Timed) (w : Cluster) → Throughout Holds w (rows ++ last ∷ []) → Holds w
  throughout_first [] last w all = all.0
  throughout_first (first ∷ rows) last w all = all.0

  pub throughout_more : (rows : List Timed) (last : Timed) (w : Cluster) → Throughout Holds w rows → Holds (after_rows w (rows_in rows))
      → Throughout Holds w (rows ++ last ∷ [])
  throughout_more [] last w all holds = (holds, tt)
  throughout_more (first ∷ rows) last w all holds = (all.0, throughout_more rows last (after_row w first.row) all.1 holds)

  -- where it holds behind each front, it holds in each of the worlds
  pub throughout_by : (rows : List Timed) (w : Cluster)
      → ((front rest : List Timed) (timed : Timed) → rows ≡ front ++ timed ∷ rest → Holds (after_rows w (rows_in front)))
      → Throughout Holds w rows
  throughout_by [] w holds = tt
  throughout_by (first ∷ rows) w holds = (
    holds [] rows first refl,
    throughout_by rows (after_row w first.row) (λ front rest timed same. holds (first ∷ front) rest timed (ap (λ (l : List Timed). first ∷ l) same)),
  )

pub throughout_so : (Holds So : Cluster → Type 0) → ((w : Cluster) → Holds w → So w) → (rows : List Timed) (w : Cluster) → Throughout Holds w rows
    → Throughout So w rows
throughout_so Holds So so [] w all = tt
throughout_so Holds So so (first ∷ rows) w all = (so w all.0, throughout_so Holds So so rows (after_row w first.row) all.1)

-- ---- nobody stands, and each call fits

pub nobody_front : (n : ℕ) (front rest : List Timed) (w : Cluster) → NobodyStands n w (front ++ rest) → NobodyStands n w front
nobody_front n [] rest w all = tt
nobody_front n (first ∷ front) rest w all = (all.0, nobody_front n front rest (after_row w first.row) all.1)

pub nobody_more : (n : ℕ) (front : List Timed) (timed : Timed) (w : Cluster) → NobodyStands n w front → WaitsOn n (after_rows w (rows_in front)) timed.row
    → NobodyStands n w (front ++ timed ∷ [])
nobody_more n [] timed w all waits = (waits, tt)
nobody_more n (first ∷ front) timed w all waits = (all.0, nobody_more n front timed (after_row w first.row) all.1 waits)

pub fits_at : (n : ℕ) (front rest : List Timed) (timed : Timed) (w : Cluster) → CallsFit n w (front ++ timed ∷ rest) → (m : ℕ)
    (call : OffersCall n m (after_rows w (rows_in front)) timed.row) → call.offer.fitted ≡ true
fits_at n [] rest timed w all = all.0
fits_at n (first ∷ front) rest timed w all = fits_at n front rest timed (after_row w first.row) all.1

pub fits_front : (n : ℕ) (front rest : List Timed) (w : Cluster) → CallsFit n w (front ++ rest) → CallsFit n w front
fits_front n [] rest w all = tt
fits_front n (first ∷ front) rest w all = (all.0, fits_front n front rest (after_row w first.row) all.1)

pub fits_rest : (n : ℕ) (front rest : List Timed) (w : Cluster) → CallsFit n w (front ++ rest) → CallsFit n (after_rows w (rows_in front)) rest
fits_rest n [] rest w all = all
fits_rest n (first ∷ front) rest w all = fits_rest n front rest (after_row w first.row) all.1

-- ---- calm rows

module _ (group : List Party) (clocks : Party → ℕ) (pace : Pace) where
  pub calm_front : (front rest : List Timed) (traffic : Traffic) (w : Cluster) → AreCalm group clocks pace traffic w (front ++ rest)
      → AreCalm group clocks pace traffic w front
  calm_front [] rest traffic w calm = tt
  calm_front (timed ∷ front) rest traffic w calm =
      (calm.0, calm.1, calm_front front rest (traffic_after traffic w timed) (after_row w timed.row) calm.2)

  -- the rows go on calmly from this moment on, and nobody read its clock later
  pub record GoesOnFrom (moment : ℕ) (w : Cluster) (rest : List Timed) : Type 0 where
    pub traffic : Traffic
    pub calm : AreCalm group clocks pace traffic w rest
    pub at_end : traffic.at ≡ moment
    pub ticked : (party : Party) → traffic.ticked party ≤ moment

  pub calm_first : (front rest : List Timed) (moment : ℕ) (w : Cluster) → GoesOnFrom moment w (front ++ rest) → GoesOnFrom moment w front
  calm_first front rest moment w from =
      record { traffic = from.traffic; calm = calm_front front rest from.traffic w from.calm; at_end = from.at_end; ticked = from.ticked }

  pub calm_rest : (front rest : List Timed) (moment : ℕ) (w : Cluster) → GoesOnFrom moment w (front ++ rest)
      → GoesOnFrom (end_of moment front) (after_rows w (rows_in front)) rest
  calm_rest [] rest moment w from = from
  calm_rest (timed ∷ front) rest moment w from = calm_rest front rest timed.at (after_row w timed.row) (record {
    traffic = traffic_after from.traffic w timed;
    calm = from.calm.2;
    at_end = refl;
    ticked = λ party. either (λ (x : ℕ). x ≤ timed.at) (reads timed.row party) timed.at (from.traffic.ticked party) (λ e. omega arith)
        (λ e. omega (arith, from.ticked party, from.at_end, from.calm.0.moments));
  })

  -- moments do not go back
  pub not_before : (rows : List Timed) (moment : ℕ) (w : Cluster) → GoesOnFrom moment w rows → moment ≤ end_of moment rows
  not_before [] moment w from = omega arith
  not_before (first ∷ rows) moment w from =
      let later : first.at ≤ end_of first.at rows = not_before rows first.at (after_row w first.row) (calm_rest (first ∷ []) rows moment w from) in
      omega (arith, later, from.at_end, from.calm.0.moments)

  pub in_between : (rows : List Timed) (moment : ℕ) (w : Cluster) → GoesOnFrom moment w rows → (timed : Timed) → In timed rows
      → (moment ≤ timed.at) × (timed.at ≤ end_of moment rows)
  in_between [] moment w from timed i = absurd i
  in_between (first ∷ rows) moment w from timed (inl e) =
      let later : first.at ≤ end_of first.at rows = not_before rows first.at (after_row w first.row) (calm_rest (first ∷ []) rows moment w from) in
      let same : timed.at ≡ first.at = ap (λ (t : Timed). t.at) e in
      (omega (arith, same, from.at_end, from.calm.0.moments), omega (arith, same, later))
  in_between (first ∷ rows) moment w from timed (inr i) =
      let within : (first.at ≤ timed.at) × (timed.at ≤ end_of first.at rows)
      = in_between rows first.at (after_row w first.row) (calm_rest (first ∷ []) rows moment w from) timed i in
      (omega (arith, within.0, from.at_end, from.calm.0.moments), within.1)

  -- the last of these rows from which on this span ends before a moment: it lies at most a period more before it
  pub record LastBefore (span moment last : ℕ) (rows : List Timed) : Type 0 where
    pub earlier : List Timed
    pub later : List Timed
    pub split : rows ≡ earlier ++ later
    pub early : end_of moment earlier + span < last
    pub near : last ≤ end_of moment earlier + span + pace.period

  pub last_before : (n : ℕ) → In (Member n) group → (span : ℕ) (rows : List Timed) (timed : Timed) (moment : ℕ) (w : Cluster)
      → GoesOnFrom moment w (rows ++ timed ∷ [])
      → moment + span < timed.at → LastBefore span moment timed.at rows
  last_before n i span [] timed moment w from long =
      record { earlier = []; later = []; split = refl; early = long; near = omega (arith, from.calm.0.ticks (Member n) i, from.ticked (Member n)) }
  last_before n i span (first ∷ rows) timed moment w from long = elim (leb_tells timed.at (first.at + span)) [
    | inl z ↦ record {
      earlier = [];
      later = first ∷ rows;
      split = refl;
      early = long;
      near = omega (arith, z.1, from.calm.0.ticks (Member n) i, from.ticked (Member n));
    }
    | inr z ↦
        let more = last_before n i span rows timed first.at (after_row w first.row) (calm_rest (first ∷ []) (rows ++ timed ∷ []) moment w from) z.1 in
        record {
          earlier = first ∷ more.earlier;
          later = more.later;
          split = ap (λ (l : List Timed). first ∷ l) more.split;
          early = more.early;
          near = more.near;
        }
  ]
