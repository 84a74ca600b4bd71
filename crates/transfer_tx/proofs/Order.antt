-- Which frame goes out next, and that those of one identifier stay in order.
use Rattle.std.proofs.Common.{◌≡◌, ◌≢◌, ℕ, suc, ◌+◌, ◌<◌, true, false, Bool, List, [], ◌∷◌, ◌++◌, length, map, get_or, refl, ap, sym, ◌∙◌, arith, nat_le, nat_eq, inl, inr, append_assoc, append-nil, cond}
use Rattle.std.specs.Prelude.{Option, None, Some, find, remove, option_to_list, slice_get}
use Rattle.std.specs.List.{list_all, position_or_len}
use Rattle.std.proofs.lemmas.Bool.{cases_Bool, le-leb, lt-leb}
use Rattle.std.proofs.lemmas.Bool.Decides.{eqb_tells}
use Rattle.std.proofs.lemmas.List.{get_or-map}
use Rattle.std.proofs.lemmas.List.Elements.{filter-append}
use Rattle.std.proofs.lemmas.List.Folds.{find_at, list_all_at}
use Rattle.std.proofs.lemmas.List.Sums.{position_or_len_is}
use Rattle.std.proofs.lemmas.Option.{slice_get-get_or}
use Rattle.transfer_tx.specs.declared.marked.Marked.{Marked}
use Rattle.transfer_tx.specs.Queue.{GoesNext, Queued, blank, id_at, is_least, left_behind, next_out}
use Rattle.transfer_tx.specs.Run.{Event, came_out, of_identifier, offered, still_queued}
use Rattle.transfer_tx.specs.Run.Event.{Offers, Pops}
use Rattle.transfer_tx.specs.Views.{queued_of}

all_pass : (p : Queued → Bool) (frames : List Queued) (d : Queued) → ((k : ℕ) → k < length frames → p (get_or frames k d) ≡ true) → list_all p frames ≡ true
all_pass p [] d h = refl
all_pass p (frame ∷ frames) d h =
    let t : p frame ≡ true = h 0 (omega arith) in
    rw t (all_pass p frames d (λ k l. h (suc k) (omega arith)))

-- ---- the place of the next frame

place_is : (frames : List Queued) (place : ℕ) → GoesNext frames place → position_or_len (is_least frames) frames ≡ place
place_is frames place h =
    position_or_len_is (is_least frames) frames place blank (omega (arith, h.present))
    (λ k before. list_all_at (λ other. nat_le (id_at frames k) other.id) frames place blank h.present (lt-leb _ _ (h.first k before)))
    (λ _. all_pass (λ other. nat_le (id_at frames place) other.id) frames blank (λ k present. le-leb _ _ (h.least k present)))

pub next_is : (frames : List Queued) (place : ℕ) (d : Queued) → GoesNext frames place → next_out frames ≡ Some (get_or frames place d)
unfolding next_out
next_is frames place d h =
    find_at (is_least frames) frames ∙ ap (slice_get frames) (place_is frames place h) ∙ slice_get-get_or frames place d h.present

pub rest_is : (frames : List Queued) (place : ℕ) → GoesNext frames place → left_behind frames ≡ remove frames place
unfolding left_behind
rest_is frames place h = ap (remove frames) (place_is frames place h)

-- ---- the same of the frames that the code keeps

pub id_at-map : (frames : List Marked) (place : ℕ) (x : Marked) → place < length frames → x ≡ get_or frames place x → id_at (map queued_of frames) place ≡ x.frame.id
id_at-map frames place x h is = ap (λ q. q.id) (get_or-map queued_of frames place x blank h) ∙ sym (ap (λ m. m.frame.id) is)

-- ---- frames of one identifier

found_passes : (p : Queued → Bool) (frames : List Queued) (y : Queued) → find p frames ≡ Some y → p y ≡ true
found_passes p [] y h = absurd cc
found_passes p (x ∷ xs) y h = elim (cases_Bool (p x)) [
  | inl t ↦ let t' : p x ≡ true = t in let e : Some x ≡ Some y = rw t' at h in let s : x ≡ y = cc in ap p (sym s) ∙ t
  | inr f ↦ let f' : p x ≡ false = f in let e : find p xs ≡ Some y = rw f' at h in found_passes p xs y e
]

-- frames of two identifiers may change places
change_places : (id : ℕ) (x y : Queued) (rest : List Queued) → x.id ≢ y.id → of_identifier id (y ∷ x ∷ rest) ≡ of_identifier id (x ∷ y ∷ rest)
change_places id x y rest apart = elim (eqb_tells x.id id) [
  | inl one ↦ elim (eqb_tells y.id id) [
    | inl other ↦ absurd (apart (one.1 ∙ sym other.1))
    | inr other ↦ let t : nat_eq y.id id ≡ false = other.0 in rw t refl
  ]
  | inr one ↦ let t : nat_eq x.id id ≡ false = one.0 in rw t refl
]

one_found : (p : Queued → Bool) (id : ℕ) (x : Queued) (xs : List Queued) (rest : List Queued) (found : Option Queued) →
    ((a b : Queued) → a.id ≡ b.id → p a ≡ p b) → p x ≡ false → ((y : Queued) → found ≡ Some y → p y ≡ true) →
    of_identifier id (option_to_list found ++ rest) ≡ of_identifier id xs →
    of_identifier id (option_to_list found ++ x ∷ rest) ≡ of_identifier id (x ∷ xs)
one_found p id x xs rest None same not passes h = ap (λ more. cond (nat_eq x.id id) (x ∷ more) more) h
one_found p id x xs rest (Some y) same not passes h =
    change_places id x y rest (λ e. let one : p y ≡ true = passes y refl in let other = same x y e in absurd cc)
    ∙ ap (λ more. cond (nat_eq x.id id) (x ∷ more) more) h

-- taking out the first that passes a test of the identifier leaves the frames of each identifier in their order
taken_out : (p : Queued → Bool) (id : ℕ) → ((a b : Queued) → a.id ≡ b.id → p a ≡ p b) → (frames : List Queued) →
    of_identifier id (option_to_list (find p frames) ++ remove frames (position_or_len p frames)) ≡ of_identifier id frames
taken_out p id same [] = refl
taken_out p id same (x ∷ xs) = elim (cases_Bool (p x)) [
  | inl t ↦ let t' : p x ≡ true = t in rw t' refl
  | inr f ↦
      let f' : p x ≡ false = f in
      let e : 1 + position_or_len p xs ≡ suc (position_or_len p xs) = omega arith in
      rw (f', e) (one_found p id x xs (remove xs (position_or_len p xs)) (find p xs) same f (found_passes p xs) (taken_out p id same xs))
]

one_pop : (id : ℕ) (frames : List Queued) → of_identifier id (option_to_list (next_out frames) ++ left_behind frames) ≡ of_identifier id frames
unfolding next_out left_behind
one_pop id frames = taken_out (is_least frames) id (λ a b e. ap (λ i. list_all (λ other. nat_le i other.id) frames) e) frames

of_append : (id : ℕ) (xs ys : List Queued) → of_identifier id (xs ++ ys) ≡ of_identifier id xs ++ of_identifier id ys
of_append id xs ys = filter-append (λ frame. nat_eq frame.id id) xs ys

pub in_order : (id : ℕ) (frames : List Queued) (events : List Event) →
    of_identifier id (came_out frames events ++ still_queued frames events) ≡ of_identifier id (frames ++ offered events)
in_order id frames [] = ap (of_identifier id) (sym (append-nil frames))
in_order id frames (Offers more ∷ events) = in_order id (frames ++ more) events ∙ ap (of_identifier id) (append_assoc frames more (offered events))
in_order id frames (Pops ∷ events) =
    let out = option_to_list (next_out frames) in
    let left = left_behind frames in
    ap (of_identifier id) (append_assoc out (came_out left events) (still_queued left events))
    ∙ of_append id out (came_out left events ++ still_queued left events)
    ∙ ap (λ more. of_identifier id out ++ more) (in_order id left events ∙ of_append id left (offered events))
    ∙ sym (append_assoc (of_identifier id out) (of_identifier id left) (of_identifier id (offered events)))
    ∙ ap (λ front. front ++ of_identifier id (offered events)) (sym (of_append id out left) ∙ one_pop id frames)
    ∙ sym (of_append id frames (offered events))
