-- A frame is its identifier and its bytes: what it keeps beside them are facts.
use Rattle.std.proofs.Common.{◌≡◌, ◌<◌, ◌≤◌, ◌^◌, ◌∙◌, ℕ, List, length, ap, subst}
use Rattle.std.specs.Coded.{le_prop}
use Rattle.arrayvec.specs.ArrayVec.{ArrayVec}
use Rattle.can_frame.specs.declared.frame.Frame.{Frame}

abbrev framed : (id : ℕ) (bytes : ArrayVec ℕ) → id < 2 ^ 29 → 0 < length bytes.items → length bytes.items ≤ 8 → Frame
framed id bytes narrow filled short = record { id = id; bytes = bytes; narrow = narrow; filled = filled; short = short }

same_facts : (id : ℕ) (bytes : ArrayVec ℕ) (n m : id < 2 ^ 29) (f g : 0 < length bytes.items) (s t : length bytes.items ≤ 8)
    → framed id bytes n f s ≡ framed id bytes m g t
same_facts id bytes n m f g s t =
    ap (λ x. framed id bytes x f s) (le_prop n m) ∙ ap (λ x. framed id bytes m x s) (le_prop f g) ∙ ap (λ x. framed id bytes m g x) (le_prop s t)

same_parts : (id : ℕ) (bytes : ArrayVec ℕ) (n : id < 2 ^ 29) (f : 0 < length bytes.items) (s : length bytes.items ≤ 8)
    (other : ℕ) → id ≡ other → (more : ArrayVec ℕ) → bytes ≡ more
    → (m : other < 2 ^ 29) (g : 0 < length more.items) (t : length more.items ≤ 8) → framed id bytes n f s ≡ framed other more m g t
same_parts id bytes n f s other ids more same =
    let P : ArrayVec ℕ → Type 0 = λ v. (m : id < 2 ^ 29) (g : 0 < length v.items) (t : length v.items ≤ 8) → framed id bytes n f s ≡ framed id v m g t in
    let Q : ℕ → Type 0 = λ i. (m : i < 2 ^ 29) (g : 0 < length more.items) (t : length more.items ≤ 8) → framed id bytes n f s ≡ framed i more m g t in
    subst Q ids (subst P same (λ m g t. same_facts id bytes n m f g s t))

-- frames with the same identifier and bytes are the same
pub same_frame : (a b : Frame) → a.id ≡ b.id → a.bytes.items ≡ b.bytes.items → a ≡ b
same_frame a b ids items =
    let listed : List ℕ → ArrayVec ℕ = λ xs. record { items = xs } in
    same_parts a.id a.bytes a.narrow a.filled a.short b.id ids b.bytes (ap listed items) b.narrow b.filled b.short
