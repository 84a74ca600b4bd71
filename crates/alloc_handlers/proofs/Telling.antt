-- What a leader is to tell next, by what the Raft model says of it.
use Rattle.std.proofs.Common.{◌≡◌, ◌≤◌, ◌<◌, ◌+◌, ℕ, Bool, true, false, List, [], ◌∷◌, refl, arith, if◌then◌else◌}
use Rattle.alloc_handlers.proofs.Words.{Move, TellNothing, TellPair}

-- it has something to tell or not, of a place without a unique ID or with one, with room for it or not
abbrev pub telling : Bool → Bool → Bool → List Move
telling has zero room = if has then (if zero then TellNothing ∷ [] else (if room then TellPair ∷ [] else [])) else []

pub tells_nothing : (has zero : Bool) → ((room : Bool) → telling has zero room ≡ []) → has ≡ false
tells_nothing false zero h = refl
tells_nothing true true h = let no_move : TellNothing ∷ [] ≡ [] = h true in cc
tells_nothing true false h = let no_move : TellPair ∷ [] ≡ [] = h true in cc

pub passes_over : (has zero : Bool) → ((room : Bool) → telling has zero room ≡ TellNothing ∷ []) → (has ≡ true) × (zero ≡ true)
passes_over false zero h = let no_move : [] ≡ TellNothing ∷ [] = h true in cc
passes_over true true h = (refl, refl)
passes_over true false h = let no_move : [] ≡ TellNothing ∷ [] = h false in cc

pub tells_pair : (has zero : Bool) → ((room : Bool) → telling has zero room ≡ (if room then TellPair ∷ [] else [])) → (has ≡ true) × (zero ≡ false)
tells_pair false zero h = let no_move : [] ≡ TellPair ∷ [] = h true in cc
tells_pair true true h = let no_move : TellNothing ∷ [] ≡ [] = h false in cc
tells_pair true false h = (refl, refl)

-- what is told next is committed: so less was told than is committed
pub lies_below : (place told commit told2 commit2 : ℕ) → place ≡ told + 1 → place ≤ commit → told2 ≡ told → commit2 ≡ commit → told2 < commit2
lies_below place told commit told2 commit2 next committed same kept = grind arith
