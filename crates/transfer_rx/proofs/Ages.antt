-- Sessions of which none is older than a moment.
use Rattle.std.proofs.Common.{◌≡◌, ℕ, ◌-◌, ◌<◌, ◌≤◌, List, [], length, get_or, set, Option, Some, None, refl, sym, ◌∙◌, subst, arith, inl, inr}
use Rattle.std.specs.Prelude.{IfSome}
use Rattle.std.proofs.lemmas.Bool.Decides.{eqb_tells}
use Rattle.std.proofs.lemmas.List.{ext_get_or, get_or-set_other, get_or-set_same, length-map}
use Rattle.transfer_rx.specs.declared.progress.Progress.{Progress}
use Rattle.transfer_rx.specs.Ages.{AreSince, IsSince}
use Rattle.transfer_rx.specs.Places.{Places, KeepPlaces, kept, left}
use Rattle.transfer_rx.specs.Progress.{IsProgressAt}
use Rattle.transfer_rx.specs.Sessions.{Session}
use Rattle.transfer_rx.proofs.Places.{kept_recent, left-by_place}

earlier_there : (moment before : ℕ) (o : Option Progress) → before ≤ moment → IsSince moment o → IsSince before o
earlier_there moment before None h s = tt
earlier_there moment before (Some p) h s = omega arith

pub earlier : (moment before : ℕ) (progress : List (Option Progress)) → before ≤ moment → AreSince moment progress → AreSince before progress
earlier moment before progress h s = λ i. earlier_there moment before (get_or progress i None) h (s i)

pub set_since : (moment : ℕ) (progress : List (Option Progress)) (place : ℕ) (o : Option Progress) → place < length progress →
    AreSince moment progress → IsSince moment o → AreSince moment (set progress place o)
set_since moment progress place o h s there = λ i. elim (eqb_tells i place) [
  | inl own ↦
      subst (λ j. IsSince moment (get_or (set progress place o) j None)) (sym own.1)
      (subst (IsSince moment) (sym (get_or-set_same progress place o None h)) there)
  | inr other ↦ subst (IsSince moment) (sym (get_or-set_other progress place i o None other.1)) (s i)
]

-- what is kept is as old as it was
pub kept_since : (moment : ℕ) (o there : Option Progress) → IfSome o (λ p. there ≡ Some p) → IsSince moment there → IsSince moment o
kept_since moment None there same s = tt
kept_since moment (Some p) there same s = subst (IsSince moment) same s

stays : (now oldest : ℕ) (p : Option Progress) (bytes : List ℕ) (o : Option Session) → now - oldest ≤ 2000 → IsSince oldest p →
    IsProgressAt p bytes o → kept now o ≡ o
stays now oldest None bytes None recent s h = refl
stays now oldest None bytes (Some session) recent s h = absurd h
stays now oldest (Some p) bytes None recent s h = absurd h
stays now oldest (Some p) bytes (Some session) recent s h = kept_recent now session p.moment h.moment (omega arith)

-- where the oldest session is recent, all stay
pub all_stay : (now oldest : ℕ) (progress : List (Option Progress)) (bytes : List (List ℕ)) (places : Places) → now - oldest ≤ 2000 →
    AreSince oldest progress → KeepPlaces progress bytes places → left now places ≡ places
all_stay now oldest progress bytes places recent s keeps =
    ext_get_or None (left now places) places (length-map places (kept now)) (λ i h.
    let inside : i < length progress = omega (arith, length-map places (kept now), keeps.size) in
    left-by_place now places i
    ∙ stays now oldest (get_or progress i None) (get_or bytes i []) (get_or places i None) recent (s i) (keeps.each i inside))
