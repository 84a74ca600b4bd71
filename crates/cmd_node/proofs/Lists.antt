-- Facts of each place of a list, where one place changes or one is added.
use Rattle.std.proofs.Common.{◌≡◌, ℕ, zero, suc, ◌<◌, List, [], ◌∷◌, ◌++◌, length, inl, inr, refl, sym, ap, ◌∙◌, arith}
use Rattle.raft_model.specs.Lists.{In}
use Rattle.std.specs.Prelude.{IsErrAnd, Result, Ok, Err, OnErr, OnOk, slice_index_or, slice_set}

pub all_pushed : {A : Type 0} (P : ℕ → A → Type 0) (xs : List A) (x : A) → ((i : ℕ) (d : A) → i < length xs → P i (slice_index_or xs i d)) → P (length xs) x →
    (i : ℕ) (d : A) → i < length (xs ++ x ∷ []) → P i (slice_index_or (xs ++ x ∷ []) i d)
all_pushed P [] x all this zero d within = this
all_pushed P [] x all this (suc i) d within = absurd (omega (arith, within))
all_pushed P (y ∷ ys) x all this zero d within = all zero d (omega arith)
all_pushed P (y ∷ ys) x all this (suc i) d within =
    all_pushed (λ j a. P (suc j) a) ys x (λ j e low. all (suc j) e (omega (arith, low))) this i d (omega (arith, within))

pub all_set : {A : Type 0} (P : ℕ → A → Type 0) (xs : List A) (k : ℕ) (x : A) → ((i : ℕ) (d : A) → i < length xs → P i (slice_index_or xs i d)) → P k x →
    (i : ℕ) (d : A) → i < length (slice_set xs k x) → P i (slice_index_or (slice_set xs k x) i d)
all_set P [] k x all this i d within = absurd (omega (arith, within))
all_set P (y ∷ ys) zero x all this zero d within = this
all_set P (y ∷ ys) zero x all this (suc i) d within = all (suc i) d within
all_set P (y ∷ ys) (suc k) x all this zero d within = all zero d (omega arith)
all_set P (y ∷ ys) (suc k) x all this (suc i) d within =
    all_set (λ j a. P (suc j) a) ys k x (λ j e low. all (suc j) e (omega (arith, low))) this i d (omega (arith, within))

-- ---- what holds where a call succeeds

module _ {T E : Type 0} where
  pub on_ok : {A B : Type 0} (result : Result T E) → (A → B) → OnOk result A → OnOk result B
  on_ok (Ok value) goes holds = goes holds
  on_ok (Err error) goes holds = tt

  pub on_ok_always : {A : Type 0} (result : Result T E) → A → OnOk result A
  on_ok_always (Ok value) holds = holds
  on_ok_always (Err error) holds = tt

  pub on_err : {A B : Type 0} (result : Result T E) → (A → B) → OnErr result A → OnErr result B
  on_err (Ok value) goes holds = tt
  on_err (Err error) goes holds = goes holds

-- an error that is handed on is the same error
pub same_error : {T E : Type 0} (a b : Result T E) (x y : E) → a ≡ Err x → IsErrAnd b (λ z. z ≡ x) → b ≡ Err y → a ≡ Err y
same_error a (Ok value) x y is gives e = absurd gives
same_error a (Err z) x y is gives e = is ∙ ap Err (sym gives) ∙ e

-- ---- numbers of a list

pub in_at : (ids : List ℕ) (i : ℕ) → i < length ids → In (slice_index_or ids i 0) ids
in_at [] i h = absurd (omega (arith, h))
in_at (id ∷ ids) zero h = inl refl
in_at (id ∷ ids) (suc i) h = inr (in_at ids i (omega (arith, h)))
