-- What is read where the bits of fields stand one behind the other.
use Rattle.std.proofs.Common.{◌≡◌, ◌<◌, ◌≤◌, ℕ, suc, List, [], ◌∷◌, ◌++◌, length, Bool, true, nat_lt, Some, None, refl, ap, ◌∙◌, arith}
use Rattle.std.proofs.lemmas.Bool.{le-leb}
use Rattle.dsdl_text.specs.Layout.{Layout, number, joined}
use Rattle.dsdl_text.specs.Numbers.{◌>>=◌, Reading, number_of, read_both, read_number, read_part, reads, whole}
use Rattle.dsdl_text.proofs.BytesOfBits.{no_padding, read-front}

-- a reading with numbers in front
abbrev pub onto : List ℕ → Reading → Reading
onto numbers read = read >>= λ y. Some (numbers ++ y.0, y.1)

onto_nothing : (read : Reading) → read ≡ onto [] read
onto_nothing None = refl
onto_nothing (Some x) = refl

pub onto_onto : (a : ℕ) (more : List ℕ) (read : Reading) → onto (a ∷ []) (onto more read) ≡ onto (a ∷ more) read
onto_onto a more None = refl
onto_onto a more (Some x) = refl

-- a reading, and what is read behind it
abbrev pub followed : Reading → (List Bool → Reading) → Reading
followed read back = read >>= λ x. back x.1 >>= λ y. Some (x.0 ++ y.0, y.1)

-- what was read in front, and what is read behind it
pub both : (front back : List Bool → Reading) (bits rest : List Bool) (numbers : List ℕ) → front bits ≡ Some (numbers, rest)
    → read_both front back bits ≡ onto numbers (back rest)
both front back bits rest numbers is = ap (λ read. followed read back) is

-- the fields of these bits, each a number; and the bits
abbrev pub fields_of : List (List Bool) → List Layout
fields_of [] = []
fields_of (piece ∷ pieces) = number (length piece) ∷ fields_of pieces

abbrev pub bits_onto : List (List Bool) → List Bool → List Bool
bits_onto [] rest = rest
bits_onto (piece ∷ pieces) rest = piece ++ bits_onto pieces rest

abbrev pub numbers_in : List (List Bool) → List ℕ
numbers_in [] = []
numbers_in (piece ∷ pieces) = number_of piece ∷ numbers_in pieces

-- numbers that are the first fields of a part
pub in_front : (pieces : List (List Bool)) (next : Layout) (fields : List Layout) (rest : List Bool)
    → read_part (fields_of pieces ++ next ∷ fields) (bits_onto pieces rest) ≡ onto (numbers_in pieces) (read_part (next ∷ fields) rest)
in_front [] next fields rest = onto_nothing (read_part (next ∷ fields) rest)
in_front (piece ∷ []) next fields rest =
    both (read_number (length piece)) (read_part (next ∷ fields)) (piece ++ rest) rest (number_of piece ∷ []) (read-front piece rest (length piece) refl)
in_front (piece ∷ other ∷ pieces) next fields rest =
    both (read_number (length piece)) (read_part (fields_of (other ∷ pieces) ++ next ∷ fields)) (bits_onto (piece ∷ other ∷ pieces) rest)
    (bits_onto (other ∷ pieces) rest) (number_of piece ∷ []) (read-front piece (bits_onto (other ∷ pieces) rest) (length piece) refl)
    ∙ ap (onto (number_of piece ∷ [])) (in_front (other ∷ pieces) next fields rest)
    ∙ onto_onto (number_of piece) (numbers_in (other ∷ pieces)) (read_part (next ∷ fields) rest)

-- numbers that are all fields of a part
pub all : (piece : List Bool) (pieces : List (List Bool)) (rest : List Bool)
    → read_part (fields_of (piece ∷ pieces)) (bits_onto (piece ∷ pieces) rest) ≡ Some (numbers_in (piece ∷ pieces), rest)
all piece [] rest = read-front piece rest (length piece) refl
all piece (other ∷ pieces) rest =
    both (read_number (length piece)) (read_part (fields_of (other ∷ pieces))) (bits_onto (piece ∷ other ∷ pieces) rest)
    (bits_onto (other ∷ pieces) rest) (number_of piece ∷ []) (read-front piece (bits_onto (other ∷ pieces) rest) (length piece) refl)
    ∙ ap (onto (number_of piece ∷ [])) (all other pieces rest)

-- numbers that are a type of their own
pub in_type : (pieces : List (List Bool)) (rest : List Bool)
    → reads (joined (fields_of pieces)) (bits_onto pieces rest) ≡ Some (numbers_in pieces, rest)
in_type [] rest = refl
in_type (piece ∷ pieces) rest =
    both (read_number (length piece)) (reads (joined (fields_of pieces))) (bits_onto (piece ∷ pieces) rest)
    (bits_onto pieces rest) (number_of piece ∷ []) (read-front piece (bits_onto pieces rest) (length piece) refl)
    ∙ ap (onto (number_of piece ∷ [])) (in_type pieces rest)

-- ---- the payload's numbers

-- nothing but padding is left
pub padded : (numbers : List ℕ) (rest : List Bool) → length rest < 8 → length numbers ≤ 400 → whole (numbers, rest) ≡ Some numbers
padded numbers rest padding few =
    let ends : nat_lt (length rest) 8 ≡ true = le-leb (suc (length rest)) 8 (omega arith) in
    rw (ends, le-leb (length numbers) 400 few) refl

pub all_padded : (piece : List Bool) (pieces : List (List Bool)) (rest : List Bool) → length rest < 8 → length (numbers_in (piece ∷ pieces)) ≤ 400
    → (read_part (fields_of (piece ∷ pieces)) (bits_onto (piece ∷ pieces) rest) >>= whole) ≡ Some (numbers_in (piece ∷ pieces))
all_padded piece pieces rest padding few =
    ap (λ read. read >>= whole) (all piece pieces rest) ∙ padded (numbers_in (piece ∷ pieces)) rest padding few

pub all_too_long : (piece : List Bool) (pieces : List (List Bool)) (rest : List Bool) → 8 ≤ length rest
    → (read_part (fields_of (piece ∷ pieces)) (bits_onto (piece ∷ pieces) rest) >>= whole) ≡ None
all_too_long piece pieces rest long =
    ap (λ read. read >>= whole) (all piece pieces rest) ∙ no_padding (numbers_in (piece ∷ pieces)) rest long
