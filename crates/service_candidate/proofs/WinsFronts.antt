-- Fronts of calm rows: the longest one up to a moment, and what holds from row to row.
use Rattle.std.proofs.Common.{◌≡◌, ℕ, ◌<◌, ◌≤◌, List, [], ◌∷◌, ◌++◌, drop, inl, inr, refl, sym, ◌∙◌, ap, subst}
use Rattle.std.specs.Prelude.{◌⊎◌, slice_index_or}
use Rattle.std.proofs.lemmas.Bool.Decides.{leb_tells}
use Rattle.std.proofs.lemmas.List.{append_assoc, append-nil}
use Rattle.raft_model.specs.Lists.{In}
use Rattle.bus_rows.specs.Timed.{Timed, rows_in}
use Rattle.service_alone.specs.Calm.{end_of}
use Rattle.service_candidate.specs.Terms.{NobodyElseStands, NobodyStandsAbove}
use Rattle.service_candidate.specs.Votes.{Stands}
use Rattle.service_candidate.specs.Wins.{OffersVoteRequest, VoteRequestsFit}
use Rattle.service_leader.specs.CallsComeBack.{LeadsIfUp, LeadsNotIfUp, LeadsOn}
use Rattle.service_leader.proofs.Stretches.{throughout_more, world_both}
use Rattle.service_calm.specs.Calm.{Member, Party}
use Rattle.service_calm.specs.Comes.{Throughout}
use Rattle.bus_spec.specs.Cluster.{Cluster, after_row, after_rows}
use Rattle.std.specs.Prelude.{true}

-- ---- the longest front

-- so many of these rows come by this moment; the next one is later
pub record Longest (start last : ℕ) (rows : List Timed) : Type 0 where
  pub front : List Timed
  pub rest : List Timed
  pub split : rows ≡ front ++ rest
  pub soon : end_of start front ≤ last
  pub late : (timed : Timed) (more : List Timed) → rest ≡ timed ∷ more → last < timed.at

abbrev first_or : Timed → List Timed → Timed
first_or other rows = slice_index_or rows 0 other

pub longest : (last : ℕ) (rows : List Timed) (start : ℕ) → start ≤ last → Longest start last rows
longest last [] start low = record { front = []; rest = []; split = refl; soon = low; late = λ timed more e. absurd (cc (e)) }
longest last (timed ∷ rows) start low = elim (leb_tells timed.at last) [
  | inl z ↦
      let more = longest last rows timed.at z.1 in record {
        front = timed ∷ more.front;
        rest = more.rest;
        split = ap (λ (l : List Timed). timed ∷ l) more.split;
        soon = more.soon;
        late = more.late;
      }
  | inr z ↦ record {
    front = [];
    rest = timed ∷ rows;
    split = refl;
    soon = low;
    late = λ other more e. subst (λ (t : Timed). last < t.at) (ap (first_or timed) e) z.1;
  }
]

-- ---- two splits of the same rows

-- Of rows in two parts, one row stands in the first or in the second.
pub part_of : (a b e d : List Timed) (x : Timed) → a ++ b ≡ e ++ x ∷ d
    → ((tail : List Timed) × (a ≡ e ++ x ∷ tail) × (d ≡ tail ++ b)) ⊎ ((tail : List Timed) × (b ≡ tail ++ x ∷ d) × (e ≡ a ++ tail))
part_of [] b e d x same = inr (e, same, refl)
part_of (y ∷ a) b [] d x same = inl (
  a,
  ap (λ (l : List Timed). first_or y l ∷ a) same,
  sym (ap (λ (l : List Timed). drop 1 l) same),
)
part_of (y ∷ a) b (z ∷ e) d x same =
    let first : y ≡ z = ap (first_or y) same in
    elim (part_of a b e d x (ap (λ (l : List Timed). drop 1 l) same)) [
      | inl p ↦ inl (p.0, (λ i. first i ∷ p.1 i), p.2)
      | inr p ↦ inr (p.0, p.1, λ i. sym first i ∷ p.2 i)
    ]

-- ---- what holds from row to row

module _ (v : Cluster) where
  abbrev pub here : List Timed → Cluster
  here a = after_rows v (rows_in a)

  pub here_more : (a : List Timed) (x : Timed) → here (a ++ x ∷ []) ≡ after_row (here a) x.row
  here_more a x = world_both v a (x ∷ [])

  -- what holds at first, and behind each row where it holds before it, holds behind all of them
  module _ (P : List Timed → Cluster → Type 0) (whole : List Timed)
      (one_more : (a b : List Timed) (x : Timed) → whole ≡ a ++ x ∷ b → P a (here a) → P (a ++ x ∷ []) (after_row (here a) x.row)) where
    pub goes : (done more : List Timed) → whole ≡ done ++ more → P done (here done) → P whole (here whole)
    goes done [] e holds = subst (λ (l : List Timed). P l (here l)) (sym (e ∙ append-nil done)) holds
    goes done (x ∷ more) e holds = goes (done ++ x ∷ []) more (e ∙ sym (append_assoc done (x ∷ []) more))
        (subst (P (done ++ x ∷ [])) (sym (here_more done x)) (one_more done more x e holds))

    pub from_row_to_row : P [] v → P whole (here whole)
    from_row_to_row holds = goes [] whole refl holds

-- ---- throughout

module _ (Holds : Cluster → Type 0) where
  pub throughout_join : (front rest : List Timed) (w : Cluster) → Throughout Holds w front → Throughout Holds (after_rows w (rows_in front)) rest
      → Throughout Holds w (front ++ rest)
  throughout_join [] rest w a b = b
  throughout_join (first ∷ front) rest w a b = (a.0, throughout_join front rest (after_row w first.row) a.1 b)

-- ---- nobody stands

pub nobody_above : (group : List Party) (top : ℕ) (rows : List Timed) (w : Cluster)
    → ((front rest : List Timed) (timed : Timed) (n term : ℕ) → rows ≡ front ++ timed ∷ rest → In (Member n) group
    → Stands n term (after_rows w (rows_in front)) timed.row → term ≤ top)
    → NobodyStandsAbove group top w rows
nobody_above group top [] w none = tt
nobody_above group top (first ∷ rows) w none = (
  λ n term i s. none [] rows first n term refl i s,
  nobody_above group top rows (after_row w first.row) (λ front rest timed n term same i s.
      none (first ∷ front) rest timed n term (ap (λ (l : List Timed). first ∷ l) same) i s),
)

pub nobody_else : (group : List Party) (c : ℕ) (rows : List Timed) (w : Cluster)
    → ((front rest : List Timed) (timed : Timed) (n term : ℕ) → rows ≡ front ++ timed ∷ rest → In (Member n) group
    → Stands n term (after_rows w (rows_in front)) timed.row → n ≡ c)
    → NobodyElseStands group c w rows
nobody_else group c [] w none = tt
nobody_else group c (first ∷ rows) w none = (
  λ n term i s. none [] rows first n term refl i s,
  nobody_else group c rows (after_row w first.row) (λ front rest timed n term same i s.
      none (first ∷ front) rest timed n term (ap (λ (l : List Timed). first ∷ l) same) i s),
)

-- ---- vote requests fit

pub votes_fit_at : (n : ℕ) (front rest : List Timed) (timed : Timed) (w : Cluster) → VoteRequestsFit n w (front ++ timed ∷ rest) → (m : ℕ)
    (asks : OffersVoteRequest n m (after_rows w (rows_in front)) timed.row) → asks.offer.fitted ≡ true
votes_fit_at n [] rest timed w all = all.0
votes_fit_at n (first ∷ front) rest timed w all = votes_fit_at n front rest timed (after_row w first.row) all.1

-- ---- who leads on

-- who does not lead in these worlds leads on from wherever it does
pub not_yet : (n term : ℕ) (rows : List Timed) (w : Cluster) → Throughout (LeadsNotIfUp n) w rows → LeadsOn n term w rows
not_yet n term [] w none = tt
not_yet n term (first ∷ rows) w none = inl (none.0, not_yet n term rows (after_row w first.row) none.1)

-- so it is with one world more, in which it leads
pub leads_more : (n term : ℕ) (rows : List Timed) (last : Timed) (w : Cluster) → LeadsOn n term w rows → LeadsIfUp n term (after_rows w (rows_in rows))
    → LeadsOn n term w (rows ++ last ∷ [])
leads_more n term [] last w on leads = inr (leads, tt)
leads_more n term (first ∷ rows) last w (inl on) leads = inl (on.0, leads_more n term rows last (after_row w first.row) on.1 leads)
leads_more n term (first ∷ rows) last w (inr all) leads = inr (throughout_more (LeadsIfUp n term) (first ∷ rows) last w all leads)
