-- Rows without a replacement, as a trace.
use Rattle.std.proofs.Common.{◌≡◌, ℕ, ◌-◌, Bool, false, List, [], ◌∷◌, refl, ap, arith, inl, inr}
use Rattle.std.specs.Prelude.{◌&&◌, nat_lt}
use Rattle.raft_model.proofs.Whole.{lt_tells}
use Rattle.bus_rows.specs.declared.row.Row.{Row}
use Rattle.bus_rows.specs.declared.row.Row.TheVariants.{AEnd, AOpen, ARx, ASend, ATick, Crash, Ext, Fault, Open, Rx, Send, Tick}
use Rattle.bus_spec.specs.Choices.{AgreesWithDisk}
use Rattle.bus_spec.specs.Cluster.{Cluster, after_row, after_rows, frame_at}
use Rattle.bus_spec.specs.Lawful.{DoNoHarm}
use Rattle.bus_replaced.specs.Traces.{AgreesAlong, ComeInTurn, after_items, brings_old_vote, is_vote_frame, only_rows}

none_below : (a : ℕ) → nat_lt a 0 ≡ false
none_below a = elim (lt_tells a 0) [ inl below ↦ absurd (omega (arith, below.1)) | inr is ↦ is.0 ]

-- before the first replacement no frame is from before one
none_old : (w : Cluster) (row : Row) → brings_old_vote 0 w row ≡ false
none_old w (Open n told ms word) = refl
none_old w (Tick n ms word) = refl
none_old w (Rx n k ms) = ap (λ (b : Bool). b && is_vote_frame (frame_at w.frames k)) (none_below (k - 1))
none_old w (Send n) = refl
none_old w (Ext frame) = refl
none_old w (Crash n calls pattern) = refl
none_old w (Fault n call) = refl
none_old w (AOpen a uid pref ms word) = refl
none_old w (ATick a ms word) = refl
none_old w (ARx a k ms word) = refl
none_old w (ASend a) = refl
none_old w (AEnd a) = refl

pub trace_alone : (w : Cluster) (rows : List Row) → DoNoHarm w rows → ComeInTurn 0 w (only_rows rows)
trace_alone w [] harmless = tt
trace_alone w (row ∷ rows) harmless = (harmless.0, none_old w row, trace_alone (after_row w row) rows harmless.1)

pub world_alone : (w : Cluster) (rows : List Row) → after_items w (only_rows rows) ≡ after_rows w rows
world_alone w [] = refl
world_alone w (row ∷ rows) = world_alone (after_row w row) rows

pub agrees_alone : (choice : ℕ → Bool) (w : Cluster) (rows : List Row) → AgreesWithDisk choice w rows → AgreesAlong choice w (only_rows rows)
agrees_alone choice w [] fits = tt
agrees_alone choice w (row ∷ rows) fits = (fits.0, agrees_alone choice (after_row w row) rows fits.1)
