-- The members of a world that is made.
use Rattle.std.proofs.Common.{◌≡◌, ℕ, zero, suc, ◌+◌, ◌<◌, List, [], ◌∷◌, ◌++◌, length, take, arith, add-one, ap, inl, inr, refl, subst, sym, ◌∙◌}
use Rattle.std.specs.Prelude.{slice_index_or}
use Rattle.std.proofs.lemmas.List.{length-map, map-append}
use Rattle.raft_model.specs.Lists.{In}
use Rattle.bus_spec.specs.Members.{fresh_member}
use Rattle.bus_world.specs.Fresh.{AreFresh}
use Rattle.bus_world.specs.Places.{closure_of}
use Rattle.bus_world.specs.Stands.{StandsFor}
use Rattle.bus_world.specs.declared.member.Member.{Member}

pub in_at : (ids : List ℕ) (i : ℕ) → i < length ids → In (slice_index_or ids i 0) ids
in_at [] i h = absurd (omega (arith, h))
in_at (id ∷ ids) zero h = inl refl
in_at (id ∷ ids) (suc i) h = inr (in_at ids i (omega (arith, h)))

take_one_more : (ids : List ℕ) (i : ℕ) → i < length ids → take (suc i) ids ≡ take i ids ++ slice_index_or ids i 0 ∷ []
take_one_more [] i h = absurd (omega (arith, h))
take_one_more (id ∷ ids) zero h = refl
take_one_more (id ∷ ids) (suc i) h = ap (λ (l : List ℕ). id ∷ l) (take_one_more ids i (omega (arith, h)))

pub each_and_last : {A : Type 0} (xs : List A) (x : A) (P : A → Type 0) → ((i : ℕ) (d : A) → i < length xs → P (slice_index_or xs i d)) → P x
    → (i : ℕ) (d : A) → i < length (xs ++ x ∷ []) → P (slice_index_or (xs ++ x ∷ []) i d)
each_and_last [] x P all own zero d h = own
each_and_last [] x P all own (suc i) d h = absurd (omega (arith, h))
each_and_last (y ∷ ys) x P all own zero d h = all zero d (omega arith)
each_and_last (y ∷ ys) x P all own (suc i) d h =
    each_and_last ys x P (λ j e k. all (suc j) e (omega (arith, k))) own i d (omega (arith, h))

-- one member more
pub one_more : {F : Type 0} (ids : List ℕ) (i : ℕ) (accept : F) (members more : List (Member F)) (m : Member F) → i < length ids → AreFresh (take i ids) accept members
    → StandsFor m fresh_member → closure_of m.place ≡ accept → m.id ≡ slice_index_or ids i 0 → more ≡ members ++ m ∷ []
    → AreFresh (take (i + 1) ids) accept more
one_more {F} ids i accept members more m h so_far stands own id is =
    subst (λ (l : List (Member F)). AreFresh (take (i + 1) ids) accept l) (sym is) (record {
      same = map-append (λ (member : Member F). member.id) members (m ∷ [])
          ∙ (ap (λ (l : List ℕ). l ++ m.id ∷ []) so_far.same
          ∙ (ap (λ (k : ℕ). take i ids ++ k ∷ []) id
          ∙ (sym (take_one_more ids i h) ∙ ap (λ (k : ℕ). take k ids) (sym (add-one i)))));
      begun = each_and_last members m (λ (member : Member F). StandsFor member fresh_member) so_far.begun stands;
      alike = each_and_last members m (λ (member : Member F). closure_of member.place ≡ accept) so_far.alike own;
    })

pub as_many : {F : Type 0} (ids : List ℕ) (accept : F) (members : List (Member F)) → AreFresh ids accept members → length members ≡ length ids
as_many {F} ids accept members is = sym (length-map members (λ (member : Member F). member.id)) ∙ ap (λ (l : List ℕ). length l) is.same
