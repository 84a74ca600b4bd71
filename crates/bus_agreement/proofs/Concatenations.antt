-- Two lists, one after the other: events of a run, and rows of a world.
use Rattle.std.proofs.Common.{◌≡◌, ℕ, Bool, List, [], ◌∷◌, ◌++◌, refl, sym, ap, ◌∙◌}
use Rattle.std.proofs.lemmas.List.{append_assoc}
use Rattle.raft_model.specs.Runs as raft
use Rattle.raft_model.specs.Runs.{Event, after, run}
use Rattle.bus_rows.specs.declared.row.Row.{Row}
use Rattle.bus_rows.specs.declared.row.Row.TheVariants.{Open, Tick, Rx, Send, Ext, Crash, Fault, AOpen, ATick, ARx, ASend, AEnd}
use Rattle.bus_spec.specs.Cluster.{Cluster, after_rows, after_row}
use Rattle.bus_spec.specs.Lawful.{DoNoHarm, DoesNoHarm}
use Rattle.bus_spec.specs.Choices.{AgreesWithDisk}
use Rattle.bus_spec.specs.Refinement.{events, row_events}

-- a run of two lists of events is the run of the second after that of the first
pub run_joined : (w : raft.World) (first rest : List Event) → run w (first ++ rest) ≡ run (run w first) rest
run_joined w [] rest = refl
run_joined w (event ∷ events) rest = run_joined (after w event) events rest

-- two lawful runs, one after the other, are one
pub lawful_joined : (w : raft.World) (first rest : List Event) → raft.Lawful w first → raft.Lawful (run w first) rest → raft.Lawful w (first ++ rest)
lawful_joined w [] rest early late = late
lawful_joined w (event ∷ events) rest early late = (early.0, lawful_joined (after w event) events rest early.1 late)

-- and a lawful run of two lists is two
pub lawful_parted : (w : raft.World) (first rest : List Event) → raft.Lawful w (first ++ rest) → raft.Lawful w first × raft.Lawful (run w first) rest
lawful_parted w [] rest all = (tt, all)
lawful_parted w (event ∷ events) rest all = let r = lawful_parted (after w event) events rest all.1 in ((all.0, r.0), r.1)

-- rows do no harm where they and more do none
pub first_harmless : (w : Cluster) (rows more : List Row) → DoNoHarm w (rows ++ more) → DoNoHarm w rows
first_harmless w [] more all = tt
first_harmless w (row ∷ rows) more all = (all.0, first_harmless (after_row w row) rows more all.1)

-- nor does a row among them, in the world that it comes to
pub row_harmless : (w : Cluster) (rows rest : List Row) (row : Row) → DoNoHarm w (rows ++ (row ∷ rest)) → DoesNoHarm (after_rows w rows) row
row_harmless w [] rest row all = all.0
row_harmless w (first ∷ rows) rest row all = row_harmless (after_row w first) rows rest row all.1

-- a choice that fits more rows fits the first of them
pub first_fits : (choice : ℕ → Bool) (w : Cluster) (rows more : List Row) → AgreesWithDisk choice w (rows ++ more) → AgreesWithDisk choice w rows
first_fits choice w [] more all = tt
first_fits choice w (row ∷ rows) more all = (all.0, first_fits choice (after_row w row) rows more all.1)

-- the events of two lists of rows are those of the one, then those of the other
pub events_joined : (choice : ℕ → Bool) (w : Cluster) (rows more : List Row) → events choice w (rows ++ more) ≡ events choice w rows ++ events choice (after_rows w rows) more
events_joined choice w [] more = refl
events_joined choice w (row ∷ rows) more = ap (λ (l : List Event). row_events choice w row ++ l) (events_joined choice (after_row w row) rows more)
    ∙ sym (append_assoc (row_events choice w row) (events choice (after_row w row) rows) (events choice (after_rows (after_row w row) rows) more))

-- a row leaves the members as they are
pub same_ids : (w : Cluster) (row : Row) → (after_row w row).ids ≡ w.ids
same_ids w (Open n told ms word) = refl
same_ids w (Tick n ms word) = refl
same_ids w (Rx n k ms) = refl
same_ids w (Send n) = refl
same_ids w (Ext frame) = refl
same_ids w (Crash n calls pattern) = refl
same_ids w (Fault n call) = refl
same_ids w (AOpen a uid pref ms word) = refl
same_ids w (ATick a ms word) = refl
same_ids w (ARx a k ms word) = refl
same_ids w (ASend a) = refl
same_ids w (AEnd a) = refl

-- so do rows
pub ids_stay : (w : Cluster) (rows : List Row) → (after_rows w rows).ids ≡ w.ids
ids_stay w [] = refl
ids_stay w (row ∷ rows) = ids_stay (after_row w row) rows ∙ same_ids w row
