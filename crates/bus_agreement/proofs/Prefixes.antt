-- Fronts of logs.
use Rattle.std.proofs.Common.{◌≡◌, ℕ, ◌<◌, ◌≤◌, List, length, take, sym, ap, ◌∙◌, arith, length-take, get_or-take}
use Rattle.std.specs.Prelude.{slice_index_or}
use Rattle.std.proofs.lemmas.List.{take-take}
use Rattle.can_frame.specs.declared.entry.Entry.{Entry}
use Rattle.can_frame.specs.Log.{IsPrefix, blank}

pub prefix_length : (a b : List Entry) → IsPrefix a b → length a ≤ length b
prefix_length a b e = let n : length (take (length a) b) ≡ length a = ap length e in omega (arith, n, length-take (length a) b)

-- so many first entries are those of the longer list too
pub prefix_take : (a b : List Entry) (k : ℕ) → IsPrefix a b → k ≤ length a → take k b ≡ take k a
prefix_take a b k e h = sym (take-take k (length a) b h) ∙ ap (take k) e

pub prefix_get : (a b : List Entry) (i : ℕ) → IsPrefix a b → i < length a → slice_index_or b i (blank 0) ≡ slice_index_or a i (blank 0)
prefix_get a b i e h = sym (get_or-take (length a) b i (blank 0) h) ∙ ap (λ (l : List Entry). slice_index_or l i (blank 0)) e

pub prefix_joined : (a b c : List Entry) → IsPrefix a b → IsPrefix b c → IsPrefix a c
prefix_joined a b c e f = prefix_take b c (length a) f (prefix_length a b e) ∙ e

-- of two prefixes of one list the shorter begins the longer
pub prefix_of_longer : (a b whole : List Entry) → IsPrefix a whole → IsPrefix b whole → length a ≤ length b → IsPrefix a b
prefix_of_longer a b whole e f h = sym (prefix_take b whole (length a) f h) ∙ e
