-- Places of allocatees.
use Rattle.std.proofs.Common.{◌≡◌, ℕ, suc, ◌+◌, ◌<◌, List, [], ◌∷◌, ◌++◌, length, arith, inl, inr, refl, sym, ap, subst, ◌∙◌}
use Rattle.std.specs.Prelude.{slice_index_or, slice_set, Option, None, Some}
use Rattle.std.proofs.lemmas.Bool.Decides.{eqb_tells}
use Rattle.std.proofs.lemmas.List.{get_or-set_other, get_or-set_same, length-append}
use Rattle.allocatee.specs.declared.allocatee.Allocatee.{Allocatee}
use Rattle.allocatee.specs.Allocatee.{Device}
use Rattle.raft_model.specs.Lists.{at}
use Rattle.bus_world.specs.Seats.{Accepts, AreEmpty, AreSeatsOf, IsDevice, StandsFor}
use Rattle.bus_world.specs.declared.seat.Seat.{Seat}
use Rattle.bus_world.proofs.Beginning.{each_and_last}
use Rattle.bus_world.proofs.Finding.{at_other, at_same}

-- at a place where none is
nothing : {G : Type 0} (seat : Seat G) → StandsFor seat None → seat.device ≡ None
nothing {G} seat stands = by seat.device stands.device where
  by : (o : Option (Allocatee G)) → IsDevice o None → o ≡ None
  by None is = refl
  by (Some allocatee) is = absurd is

module _ {G : Type 0} (seats : List (Seat G)) where
  -- the place of a
  pub its_seat : (devices : ℕ → Option Device) → AreSeatsOf seats devices → (i a : ℕ) → suc i ≡ a → i < 8 → (seat : Seat G)
      → seat ≡ slice_index_or seats i seat → StandsFor seat (devices a)
  its_seat devices all i a e h seat is =
      subst (λ (k : ℕ). StandsFor seat (devices k)) e (subst (λ (s : Seat G). StandsFor s (devices (suc i))) (sym is) (all i seat h))

  -- with another one at a place
  pub set_seat : (devices : ℕ → Option Device) → AreSeatsOf seats devices → (i a : ℕ) → suc i ≡ a → i < 8 → length seats ≡ 8 → (seat : Seat G) (x : Option Device)
      → StandsFor seat x → AreSeatsOf (slice_set seats i seat) (at devices a x)
  set_seat devices all i a e h many seat x stands j d k = elim (eqb_tells j i) [
    | inl same ↦ subst (λ (l : ℕ). StandsFor (slice_index_or (slice_set seats i seat) l d) (at devices a x (suc l))) (sym same.1)
        (subst (λ (s : Seat G). StandsFor s (at devices a x (suc i))) (sym (get_or-set_same seats i seat d (omega (arith, h, many))))
        (subst (λ (o : Option Device). StandsFor seat o) (sym (at_same devices a (suc i) x e)) stands))
    | inr apart ↦ subst (λ (s : Seat G). StandsFor s (at devices a x (suc j))) (sym (get_or-set_other seats i j seat d apart.1))
        (subst (λ (o : Option Device). StandsFor (slice_index_or seats j d) o) (sym (at_other devices a (suc j) x (λ f. apart.1 (omega (arith, f, e))))) (all j d k))
  ]

  abbrev pub AreAlike : G → Type 0
  AreAlike accept = (i : ℕ) (d : Seat G) → i < 8 → Accepts (slice_index_or seats i d) accept

  pub alike_there : (accept : G) → AreAlike accept → (i : ℕ) → i < 8 → (seat : Seat G) → seat ≡ slice_index_or seats i seat → Accepts seat accept
  alike_there accept alike i h seat is = subst (λ (s : Seat G). Accepts s accept) (sym is) (alike i seat h)

  pub set_alike : (accept : G) → AreAlike accept → (i : ℕ) → i < 8 → length seats ≡ 8 → (seat : Seat G) → Accepts seat accept
      → (j : ℕ) (d : Seat G) → j < 8 → Accepts (slice_index_or (slice_set seats i seat) j d) accept
  set_alike accept alike i h many seat own j d k = elim (eqb_tells j i) [
    | inl same ↦ subst (λ (l : ℕ). Accepts (slice_index_or (slice_set seats i seat) l d) accept) (sym same.1)
        (subst (λ (s : Seat G). Accepts s accept) (sym (get_or-set_same seats i seat d (omega (arith, h, many)))) own)
    | inr apart ↦ subst (λ (s : Seat G). Accepts s accept) (sym (get_or-set_other seats i j seat d apart.1)) (alike j d k)
  ]

-- one place more
pub one_more : {G : Type 0} (seats more : List (Seat G)) (count : ℕ) (seat : Seat G) → AreEmpty seats count → StandsFor seat None → more ≡ seats ++ seat ∷ []
    → AreEmpty more (count + 1)
one_more {G} seats more count seat are stands is = subst (λ (l : List (Seat G)). AreEmpty l (count + 1)) (sym is) (record {
  many = length-append seats (seat ∷ []) ∙ ap (λ (n : ℕ). n + 1) are.many;
  each = λ i d h. each_and_last seats seat (λ (s : Seat G). s.device ≡ None) (λ j e k. are.each j e (omega (arith, k, are.many))) (nothing seat stands) i d
      (omega (arith, h, are.many, length-append seats (seat ∷ [])));
})

pub all_empty : {G : Type 0} (seats : List (Seat G)) → AreEmpty seats 8 → AreSeatsOf seats (λ a. None)
all_empty {G} seats are i d h = record { device = subst (λ (o : Option (Allocatee G)). IsDevice o None) (sym (are.each i d h)) tt }

pub empty_alike : {G : Type 0} (seats : List (Seat G)) → AreEmpty seats 8 → (accept : G) → AreAlike seats accept
empty_alike {G} seats are accept i d h allocatee there = absurd (no_one allocatee (sym (are.each i d h) ∙ there)) where
  no_one : (allocatee : Allocatee G) → (None ≡ Some allocatee) → ⊥
  no_one allocatee e = cc (e)
