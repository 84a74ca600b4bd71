-- One row more.
use Rattle.std.proofs.Common.{◌≡◌, ℕ, Bool, List, [], ◌∷◌, ◌++◌, refl, sym, ap, ◌∙◌}
use Rattle.std.specs.Prelude.{None}
use Rattle.std.proofs.lemmas.List.{append_assoc, append-nil}
use Rattle.raft_model.specs.Runs.{Event}
use Rattle.bus_rows.specs.declared.row.Row.{Row}
use Rattle.bus_spec.specs.Cluster.{Cluster, after_rows, after_row}
use Rattle.bus_spec.specs.Lawful.{DoNoHarm, DoesNoHarm, AreLawful, cause}
use Rattle.alloc_spec.specs.Transfers.{SentTransfer}
use Rattle.bus_spec.specs.Choices.{AgreesWithDisk, RowAgreesWithDisk}
use Rattle.bus_spec.specs.Refinement.{events, transfers_of_rows, transfers_of_row, row_events}

pub grown : (w : Cluster) (rows : List Row) (row : Row) → after_rows w (rows ++ row ∷ []) ≡ after_row (after_rows w rows) row
grown w [] row = refl
grown w (first ∷ rows) row = grown (after_row w first) rows row

pub lawful : (w : Cluster) (rows : List Row) (row : Row) → AreLawful w rows → cause (after_rows w rows) row ≡ None → AreLawful w (rows ++ row ∷ [])
lawful w [] row each last = (last, tt)
lawful w (first ∷ rows) row each last = (each.0, lawful (after_row w first) rows row each.1 last)

pub harmless : (w : Cluster) (rows : List Row) (row : Row) → DoNoHarm w rows → DoesNoHarm (after_rows w rows) row → DoNoHarm w (rows ++ row ∷ [])
harmless w [] row each last = (last, tt)
harmless w (first ∷ rows) row each last = (each.0, harmless (after_row w first) rows row each.1 last)

pub shown : (choice : ℕ → Bool) (w : Cluster) (rows : List Row) (row : Row)
    → events choice w (rows ++ row ∷ []) ≡ events choice w rows ++ row_events choice (after_rows w rows) row
shown choice w [] row = append-nil (row_events choice w row)
shown choice w (first ∷ rows) row = ap (λ (l : List Event). row_events choice w first ++ l) (shown choice (after_row w first) rows row)
    ∙ sym (append_assoc (row_events choice w first) (events choice (after_row w first) rows) (row_events choice (after_rows (after_row w first) rows) row))

pub fits : (choice : ℕ → Bool) (w : Cluster) (rows : List Row) (row : Row) → AgreesWithDisk choice w rows → RowAgreesWithDisk choice (after_rows w rows) row → AgreesWithDisk choice w (rows ++ row ∷ [])
fits choice w [] row each last = (last, tt)
fits choice w (first ∷ rows) row each last = (each.0, fits choice (after_row w first) rows row each.1 last)

pub made_more : (w : Cluster) (rows : List Row) (row : Row) (earlier : List SentTransfer)
    → transfers_of_rows w (rows ++ row ∷ []) earlier ≡ transfers_of_row (after_rows w rows) row (transfers_of_rows w rows earlier)
made_more w [] row earlier = refl
made_more w (first ∷ rows) row earlier = made_more (after_row w first) rows row (transfers_of_row w first earlier)
