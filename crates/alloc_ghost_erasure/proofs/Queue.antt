-- What goes out next does not look at marks.
use Rattle.std.proofs.Common.{◌≡◌, ℕ, suc, ◌+◌, Bool, true, false, List, [], ◌∷◌, ◌++◌, map, take, drop, cond, refl, sym, ap, ◌∙◌, Some}
use Rattle.std.specs.Prelude.{find, not, nat_le, option_map, remove}
use Rattle.std.specs.List.{position_or_len, prefix_len}
use Rattle.std.proofs.lemmas.List.{drop-map, map-append, take-map}
use Rattle.std.proofs.lemmas.List.Folds.{list_all-map}
use Rattle.transfer_tx.specs.Queue.{Queued, is_least, left_behind, next_out}
use Rattle.alloc_spec.specs.Step.{after_pop}
use Rattle.alloc_spec.specs.AllocatorState.{AllocatorState}
use Rattle.alloc_ghost_erasure.specs.Unmarked.{unmarked_frame, unmarked_server}

find_map : {A B : Type 0} (p : B → Bool) (q : A → Bool) (f : A → B) → ((x : A) → p (f x) ≡ q x) → (xs : List A) → find p (map f xs) ≡ option_map f (find q xs)
find_map p q f h [] = refl
find_map p q f h (x ∷ xs) = ap (λ (b : Bool). cond b (Some (f x)) (find p (map f xs))) (h x) ∙ by (q x) (find_map p q f h xs)
  where
    by : (b : Bool) → find p (map f xs) ≡ option_map f (find q xs) → cond b (Some (f x)) (find p (map f xs)) ≡ option_map f (cond b (Some x) (find q xs))
    by true e = refl
    by false e = e

prefix_map : {A B : Type 0} (p : B → Bool) (q : A → Bool) (f : A → B) → ((x : A) → p (f x) ≡ q x) → (xs : List A) → prefix_len p (map f xs) ≡ prefix_len q xs
prefix_map p q f h [] = refl
prefix_map p q f h (x ∷ xs) = λ i. cond (h x i) (1 + prefix_map p q f h xs i) 0

remove_map : {A B : Type 0} (f : A → B) (xs : List A) (i : ℕ) → map f (remove xs i) ≡ remove (map f xs) i
remove_map f xs i = map-append f (take i xs) (drop (suc i) xs) ∙ (λ j. sym (take-map f i xs) j ++ sym (drop-map f (suc i) xs) j)

least_same : (frames : List Queued) (frame : Queued) → is_least (map unmarked_frame frames) (unmarked_frame frame) ≡ is_least frames frame
least_same frames frame = list_all-map (λ (other : Queued). nat_le frame.id other.id) unmarked_frame frames

next_one : (frames : List Queued) → next_out (map unmarked_frame frames) ≡ option_map unmarked_frame (next_out frames)
unfolding next_out
next_one frames = find_map (is_least (map unmarked_frame frames)) (is_least frames) unmarked_frame (least_same frames) frames

left_one : (frames : List Queued) → map unmarked_frame (left_behind frames) ≡ left_behind (map unmarked_frame frames)
unfolding left_behind
left_one frames =
    remove_map unmarked_frame frames (position_or_len (is_least frames) frames)
    ∙ ap (λ (n : ℕ). remove (map unmarked_frame frames) n)
    (sym (prefix_map (λ (f : Queued). not (is_least (map unmarked_frame frames) f)) (λ (f : Queued). not (is_least frames f)) unmarked_frame (λ f. ap not (least_same frames f)) frames))

pub next_same : (t u : AllocatorState) → unmarked_server t ≡ unmarked_server u → option_map unmarked_frame (next_out t.queue) ≡ option_map unmarked_frame (next_out u.queue)
next_same t u e = sym (next_one t.queue) ∙ ap (λ (s : AllocatorState). next_out s.queue) e ∙ next_one u.queue

pub popped_same : (t u : AllocatorState) → unmarked_server t ≡ unmarked_server u → unmarked_server (after_pop t) ≡ unmarked_server (after_pop u)
popped_same t u e = one t ∙ ap after_pop e ∙ sym (one u)
  where
    one : (s : AllocatorState) → unmarked_server (after_pop s) ≡ after_pop (unmarked_server s)
    one s = λ i. record (unmarked_server s) { queue = left_one s.queue i }
