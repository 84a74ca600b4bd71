-- Lines by their first letter.
use Rattle.std.proofs.Common.{◌≡◌, ◌≢◌, ◌==◌, ◌∷◌, [], ℕ, zero, suc, List, Option, Some, None, true, false, not, nat_eq, ap, get_or, refl, sym, ◌∙◌, inl, inr, arith, eq-eqb}
use Rattle.std.specs.Prelude.{IfSome, IsNone, Contains}
use Rattle.std.specs.List.{All, list_any}
use Rattle.std.proofs.lemmas.Bool.Decides.{eqb_tells}
use Rattle.std.proofs.lemmas.List.Elements.{All-weaker}
use Rattle.std.proofs.lemmas.List.Sums.{AllPass-from_list_all}
use Rattle.can_logs.specs.declared.slcan.SlLine.{SlLine}
use Rattle.can_logs.specs.declared.slcan.SlLine.TheVariants.{Data, Skipped}
use Rattle.can_logs.specs.Slcan.{Reads, other_letters}

-- a letter that is found among others stands there, and one that is not does not
pub found_in : (letters : List ℕ) (letter : ℕ) → list_any (λ other. nat_eq other letter) letters ≡ true → Contains letters letter
found_in [] letter e = absurd (cc)
found_in (other ∷ letters) letter e = elim (eqb_tells other letter) [
  | inl same ↦ (0, omega arith, same.1)
  | inr apart ↦ let found = found_in letters letter (rw apart.0 at e) in (suc found.0, omega (arith, found.1), found.2)
]

pub not_in : (letters : List ℕ) (letter : ℕ) → list_any (λ other. nat_eq other letter) letters ≡ false → Contains letters letter → ⊥
not_in [] letter e h = absurd (omega (arith, h.1))
not_in (other ∷ letters) letter e (zero, within, same) = elim (eqb_tells other letter) [
  | inl is ↦ absurd (cc (rw is.0 at e))
  | inr apart ↦ absurd (apart.1 same)
]
not_in (other ∷ letters) letter e (suc place, within, same) = elim (eqb_tells other letter) [
  | inl is ↦ absurd (cc (rw is.0 at e))
  | inr apart ↦ not_in letters letter (rw apart.0 at e) (place, omega (arith, within), same)
]

-- `T` is none of the other letters
pub no_extended : All (λ letter. letter ≢ 84) other_letters
no_extended =
    All-weaker (λ letter. not (letter == 84) ≡ true) (λ letter. letter ≢ 84) (λ letter test e. let same = eq-eqb letter 84 e in absurd (cc)) other_letters
    (AllPass-from_list_all (λ letter. not (letter == 84)) other_letters refl)

pub first_letter : (line : List ℕ) (a b : ℕ) (x y : List ℕ) → line ≡ a ∷ x → line ≡ b ∷ y → a ≡ b
first_letter line a b x y p q = ap (λ l. get_or l 0 0) (sym p ∙ q)
