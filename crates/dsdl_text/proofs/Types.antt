-- The types that sections stand for, one section after the other.
use Rattle.std.proofs.Common.{◌≡◌, ◌<◌, ◌≤◌, ◌+◌, ◌*◌, ◌/◌, ◌%◌, ℕ, zero, suc, List, [], ◌∷◌, ◌++◌, length, Bool, true, false, cond, ◌||◌, map, Option, Some, None, MatchOption, IfSome, IsNone, IsSome, inl, inr, take, get_or, rules, refl, ap, sym, ◌∙◌, arith, length-append}
use Rattle.std.specs.List.{find, list_any, position_from}
use Rattle.std.specs.Prelude.{slice_get}
use Rattle.std.specs.Str.{bytes_eq}
use Rattle.std.proofs.lemmas.Bool.{cases_lt}
use Rattle.dsdl_text.specs.declared.section.Section.{Section}
use Rattle.dsdl_text.specs.Layout.{DataType, joined, nothing}
use Rattle.dsdl_text.specs.Text.{layout_of, type_named}
use Rattle.std.specs.Option.{is_some, option_and_then, option_map, option_to_list}
use Rattle.arrayvec.specs.ArrayVec.{ArrayVec as Items}
use Rattle.dsdl_text.specs.declared.section.Field.{Field}
use Rattle.dsdl_text.specs.Sections.{first_layout, part_at, part_layout, part_of, type_of, types_of, types_onto}

pub types_onto-append : (types : List DataType) (a b : List Section) → types_onto types (a ++ b) ≡ types_onto (types_onto types a) b
types_onto-append types [] b = refl
types_onto-append types (section ∷ a) b = types_onto-append (types ++ type_of types section ∷ []) a b

pub length-types_onto : (types : List DataType) (a : List Section) → length (types_onto types a) ≡ length types + length a
length-types_onto types [] = omega arith
length-types_onto types (section ∷ a) =
    length-types_onto (types ++ type_of types section ∷ []) a ∙ omega (arith, length-append types (type_of types section ∷ []))

pub length-types_of : (a : List Section) → length (types_of a) ≡ length a
length-types_of a = length-types_onto [] a ∙ omega arith

get-front : {X : Type 0} (xs ys : List X) (i : ℕ) → i < length xs → slice_get (xs ++ ys) i ≡ slice_get xs i
get-front [] ys i within = absurd (omega arith)
get-front (x ∷ xs) ys zero within = refl
get-front (x ∷ xs) ys (suc i) within = get-front xs ys i (omega arith)

-- the types in front stay where they are
get-kept : (types : List DataType) (a : List Section) (i : ℕ) → i < length types → slice_get (types_onto types a) i ≡ slice_get types i
get-kept types [] i within = refl
get-kept types (section ∷ a) i within =
    get-kept (types ++ type_of types section ∷ []) a i (omega (arith, length-append types (type_of types section ∷ [])))
    ∙ get-front types (type_of types section ∷ []) i within

find-front : (p : DataType → Bool) (types more : List DataType) (type : DataType) → find p types ≡ Some type → find p (types ++ more) ≡ Some type
find-front p [] more type found = absurd (cc)
find-front p (t ∷ types) more type found = go (p t) refl (λ h. find-front p types more type h) where
  go : (b : Bool) → p t ≡ b → (find p types ≡ Some type → find p (types ++ more) ≡ Some type)
      → cond (p t) (Some t) (find p (types ++ more)) ≡ Some type
  go true e later = rw e (rw e at found)
  go false e later = rw e (later (rw e at found))

find-kept : (p : DataType → Bool) (types : List DataType) (a : List Section) (type : DataType) → find p types ≡ Some type → find p (types_onto types a) ≡ Some type
find-kept p types [] type found = found
find-kept p types (section ∷ a) type found =
    find-kept p (types ++ type_of types section ∷ []) a type (find-front p types (type_of types section ∷ []) type found)

find-push : (p : DataType → Bool) (types : List DataType) (type : DataType) → find p types ≡ None → find p (types ++ type ∷ []) ≡ cond (p type) (Some type) None
find-push p [] type none = refl
find-push p (t ∷ types) type none = go (p t) refl (λ h. find-push p types type h) where
  go : (b : Bool) → p t ≡ b → (find p types ≡ None → find p (types ++ type ∷ []) ≡ cond (p type) (Some type) None)
      → cond (p t) (Some t) (find p (types ++ type ∷ [])) ≡ cond (p type) (Some type) None
  go true e later = absurd (let h = rw e at none in cc)
  go false e later = rw e (later (rw e at none))

get-push : (types : List DataType) (type : DataType) → slice_get (types ++ type ∷ []) (length types) ≡ Some type
get-push [] type = refl
get-push (t ∷ types) type = get-push types type

-- the section of a name stands where the type of that name does
abbrev IsPlace : List ℕ → List DataType → ℕ → Option ℕ → Type 0
IsPlace name types end result = MatchOption result
    (type_named types name ≡ None)
    (λ place. (place < end) × (type_named types name ≡ slice_get types place))

place-onto : (name : List ℕ) (types : List DataType) (a : List Section) (i : ℕ) → i ≡ length types → type_named types name ≡ None
    → IsPlace name (types_onto types a) (i + length a) (position_from (λ section. bytes_eq section.name.items name) i a)
place-onto name types [] i is none = none
place-onto name types (section ∷ a) i is none =
    go (bytes_eq section.name.items name) refl
    (place-onto name (types ++ type_of types section ∷ []) a (i + 1) (omega (arith, length-append types (type_of types section ∷ []))))
  where
    go : (b : Bool) → bytes_eq section.name.items name ≡ b
        → (type_named (types ++ type_of types section ∷ []) name ≡ None
        → IsPlace name (types_onto (types ++ type_of types section ∷ []) a) (i + 1 + length a)
        (position_from (λ s. bytes_eq s.name.items name) (i + 1) a))
        → IsPlace name (types_onto (types ++ type_of types section ∷ []) a) (i + length (section ∷ a))
        (cond (bytes_eq section.name.items name) (Some i) (position_from (λ s. bytes_eq s.name.items name) (i + 1) a))
    go true e later =
        let here : find (λ t. bytes_eq t.name name) (types ++ type_of types section ∷ []) ≡ Some (type_of types section) =
        find-push (λ t. bytes_eq t.name name) types (type_of types section) none ∙ rw e refl in
        rw e (
          omega arith,
          find-kept (λ t. bytes_eq t.name name) (types ++ type_of types section ∷ []) a (type_of types section) here
              ∙ sym (get-kept (types ++ type_of types section ∷ []) a i (omega (arith, length-append types (type_of types section ∷ [])))
              ∙ rw is (get-push types (type_of types section))),
        )
    go false e later =
        let more = later (find-push (λ t. bytes_eq t.name name) types (type_of types section) none ∙ rw e refl) in
        let same : i + 1 + length a ≡ i + length (section ∷ a) = omega arith in
        rw (e, ← same) more

pub place_named : (name : List ℕ) (a : List Section) (result : Option ℕ) → result ≡ position_from (λ section. bytes_eq section.name.items name) 0 a
    → IsPlace name (types_of a) (length a) result
place_named name a result is =
    let from = place-onto name [] a 0 refl refl in
    let same : 0 + length a ≡ length a = omega arith in
    rw is (rw same at from)

pub place_found : (name : List ℕ) (a : List Section) (result : Option ℕ) → IsPlace name (types_of a) (length a) result
    → IfSome result (λ place. (place < length a) × (type_named (types_of a) name ≡ slice_get (types_of a) place))
place_found name a None is = tt
place_found name a (Some place) is = is

pub place_none : (name : List ℕ) (a : List Section) (result : Option ℕ) → IsPlace name (types_of a) (length a) result
    → IsNone result → type_named (types_of a) name ≡ None
place_none name a None is none = is
place_none name a (Some place) is none = absurd (search rules)

-- the type at a place is that of the section there
get-onto : (types : List DataType) (a : List Section) (i j : ℕ) (d : Section) → j ≡ length types + i → i < length a
    → slice_get (types_onto types a) j ≡ Some (type_of (types_onto types (take i a)) (get_or a i d))
get-onto types [] i j d is within = absurd (omega arith)
get-onto types (section ∷ a) zero j d is within =
    let here : j ≡ length types = omega arith in
    rw here (get-kept (types ++ type_of types section ∷ []) a (length types) (omega (arith, length-append types (type_of types section ∷ [])))
    ∙ get-push types (type_of types section))
get-onto types (section ∷ a) (suc i) j d is within =
    get-onto (types ++ type_of types section ∷ []) a i j d (omega (arith, length-append types (type_of types section ∷ []))) (omega arith)

pub type_at : (a : List Section) (i : ℕ) (d : Section) → i < length a
    → slice_get (types_of a) i ≡ Some (type_of (types_of (take i a)) (get_or a i d))
type_at a i d within = get-onto [] a i i d (omega arith) within

-- a type has a layout where its section has no second part
pub two_parts : (types : List DataType) (section : Section) → is_some section.second ≡ true → layout_of (Some (type_of types section)) ≡ None
two_parts types section second = go section.second refl second where
  go : (s : Option (Items Field)) → section.second ≡ s → is_some s ≡ true → layout_of (Some (type_of types section)) ≡ None
  go None is e = absurd (cc)
  go (Some part) is e = rw is refl

pub one_part : (types : List DataType) (section : Section) → is_some section.second ≡ false
    → layout_of (Some (type_of types section)) ≡ Some (first_layout (Some (type_of types section)))
one_part types section second = go section.second refl second where
  go : (s : Option (Items Field)) → section.second ≡ s → is_some s ≡ false
      → layout_of (Some (type_of types section)) ≡ Some (first_layout (Some (type_of types section)))
  go None is e = rw is refl
  go (Some part) is e = absurd (cc)

-- ---- parts by their places

half : (n : ℕ) → 2 * n / 2 ≡ n
half n = omega arith

half_and : (n : ℕ) → (2 * n + 1) / 2 ≡ n
half_and n = omega arith

even : (n : ℕ) → 2 * n % 2 ≡ 0
even n = omega arith

odd : (n : ℕ) → (2 * n + 1) % 2 ≡ 1
odd n = omega arith

pub part_at_even : (types : List DataType) (place : ℕ) → part_at types (2 * place) ≡ option_and_then (part_of 1) (slice_get types place)
part_at_even types place = rw (half place, even place) refl

pub part_at_odd : (types : List DataType) (place : ℕ) → part_at types (2 * place + 1) ≡ option_and_then (part_of 2) (slice_get types place)
part_at_odd types place = rw (half_and place, odd place) refl

pub types_of_push : (a : List Section) (section : Section) → types_of (a ++ section ∷ []) ≡ types_of a ++ type_of (types_of a) section ∷ []
types_of_push a section = types_onto-append [] a (section ∷ [])

pub append_none : (types : List DataType) → types ≡ types ++ []
append_none [] = refl
append_none (type ∷ types) = ap (λ more. type ∷ more) (append_none types)

pub has_first : (a : List Section) (place : ℕ) (d : Section) → place < length a → IsSome (part_at (types_of a) (2 * place))
has_first a place d within = rw (part_at_even (types_of a) place, type_at a place d within) refl

pub second_at : (a : List Section) (place : ℕ) (d : Section) → place < length a
    → option_and_then (part_of 2) (slice_get (types_of a) place) ≡ option_map (λ part. part_layout (types_of (take place a)) part.items) (get_or a place d).second
second_at a place d within = rw (type_at a place d within) refl

mapped : {A B : Type 0} (f : A → B) (o : Option A) → is_some o ≡ true → IsSome (option_map f o)
mapped f None e = e
mapped f (Some x) e = refl

unmapped : {A B : Type 0} (f : A → B) (o : Option A) → is_some o ≡ false → option_map f o ≡ None
unmapped f None e = refl
unmapped f (Some x) e = absurd (cc)

pub has_second : (a : List Section) (place : ℕ) (d : Section) → place < length a → is_some (get_or a place d).second ≡ true
    → IsSome (part_at (types_of a) (2 * place + 1))
has_second a place d within second =
    rw (part_at_odd (types_of a) place, second_at a place d within) (mapped (λ part. part_layout (types_of (take place a)) part.items) (get_or a place d).second second)

pub no_second : (a : List Section) (place : ℕ) (d : Section) → place < length a → is_some (get_or a place d).second ≡ false
    → option_and_then (part_of 2) (slice_get (types_of a) place) ≡ None
no_second a place d within second =
    second_at a place d within ∙ unmapped (λ part. part_layout (types_of (take place a)) part.items) (get_or a place d).second second

pub count_types : (a : List Section) (latest : Option DataType) → length (types_of a ++ option_to_list latest) ≡ length a + length (option_to_list latest)
count_types a latest = omega (arith, length-append (types_of a) (option_to_list latest), length-types_of a)

or-true : (b : Bool) → (b || true) ≡ true
or-true true = refl
or-true false = refl

pub is_some_find_append : (p : DataType → Bool) (a b : List DataType) → is_some (find p (a ++ b)) ≡ (is_some (find p a) || is_some (find p b))
is_some_find_append p [] b = refl
is_some_find_append p (type ∷ a) b = go (p type) refl (is_some_find_append p a b) where
  go : (t : Bool) → p type ≡ t → is_some (find p (a ++ b)) ≡ (is_some (find p a) || is_some (find p b))
      → is_some (cond (p type) (Some type) (find p (a ++ b))) ≡ (is_some (cond (p type) (Some type) (find p a)) || is_some (find p b))
  go true e later = rw e refl
  go false e later = rw e later

has-onto : (name : List ℕ) (types : List DataType) (a : List Section)
    → is_some (type_named (types_onto types a) name) ≡ (is_some (type_named types name) || list_any (λ section. bytes_eq section.name.items name) a)
has-onto name types [] = or-false (is_some (type_named types name)) where
  or-false : (b : Bool) → b ≡ (b || false)
  or-false true = refl
  or-false false = refl
has-onto name types (section ∷ a) =
    has-onto name (types ++ type_of types section ∷ []) a
    ∙ go (is_some (type_named types name)) (bytes_eq section.name.items name) (is_some_find_append (λ type. bytes_eq type.name name) types (type_of types section ∷ []))
  where
    go : (b t : Bool) → is_some (type_named (types ++ type_of types section ∷ []) name) ≡ (b || is_some (cond t (Some (type_of types section)) None))
        → (is_some (type_named (types ++ type_of types section ∷ []) name) || list_any (λ s. bytes_eq s.name.items name) a) ≡ (b || (t || list_any (λ s. bytes_eq s.name.items name) a))
    go true t e = rw e refl
    go false true e = rw e refl
    go false false e = rw e refl

pub has_named : (name : List ℕ) (a : List Section) (result : Bool) → result ≡ list_any (λ section. bytes_eq section.name.items name) a
    → result ≡ is_some (type_named (types_of a) name)
has_named name a result is = is ∙ sym (has-onto name [] a)

pub any_map : (name : List ℕ) (names : List (Items ℕ)) → list_any (λ other. bytes_eq other.items name) names ≡ list_any (λ other. bytes_eq other name) (map (λ other. other.items) names)
any_map name [] = refl
any_map name (other ∷ names) = ap (λ b. bytes_eq other.items name || b) (any_map name names)

get-none : {X : Type 0} (xs : List X) (i : ℕ) → length xs ≤ i → slice_get xs i ≡ None
get-none [] i beyond = refl
get-none (x ∷ xs) zero beyond = absurd (omega arith)
get-none (x ∷ xs) (suc i) beyond = get-none xs i (omega arith)

pub layout_at : (a : List Section) (i : ℕ) (d : Section) → i < length a
    → first_layout (slice_get (types_of a) i) ≡ joined (part_layout (types_of (take i a)) (get_or a i d).first.items)
layout_at a i d within = ap first_layout (type_at a i d within)

pub layout_beyond : (a : List Section) (i : ℕ) → length a ≤ i → first_layout (slice_get (types_of a) i) ≡ nothing
layout_beyond a i beyond = ap first_layout (get-none (types_of a) i (omega (arith, length-types_of a)))

pub within : (a : List Section) (at : ℕ) → IsSome (part_at (types_of a) at) → at / 2 < length a
within a at some = elim (cases_lt (at / 2) (length a)) [
  | inl found ↦ found
  | inr missed ↦
      let none : part_at (types_of a) at ≡ None =
      ap (option_and_then (part_of (at % 2 + 1))) (get-none (types_of a) (at / 2) (omega (arith, length-types_of a))) in
      absurd (let h = rw none at some in cc)
]

pub part_first : (a : List Section) (at : ℕ) (section : Section) → section ≡ get_or a (at / 2) section → at / 2 < length a → at % 2 ≡ 0
    → part_at (types_of a) at ≡ Some (part_layout (types_of (take (at / 2) a)) section.first.items)
part_first a at section is inside even =
    rw even (ap (option_and_then (part_of 1)) (type_at a (at / 2) section inside)
    ∙ ap (λ s. Some (part_layout (types_of (take (at / 2) a)) s.first.items)) (sym is))

pub part_second : (a : List Section) (at : ℕ) (section : Section) → section ≡ get_or a (at / 2) section → at / 2 < length a → at % 2 ≡ 1
    → part_at (types_of a) at ≡ option_map (λ part. part_layout (types_of (take (at / 2) a)) part.items) section.second
part_second a at section is inside odd_place =
    rw odd_place (ap (option_and_then (part_of 2)) (type_at a (at / 2) section inside)
    ∙ ap (λ s. option_map (λ part. part_layout (types_of (take (at / 2) a)) part.items) s.second) (sym is))
