-- The running CRCs, after each change.
use Rattle.std.proofs.Common.{◌≡◌, ◌≢◌, ℕ, ◌<◌, false, List, [], ◌++◌, length, get_or, set, sym, ap, ◌∙◌, arith, subst, inl, inr, nat_eq, replicate, append_assoc}
use Rattle.std.specs.Prelude.{IfSome, Option, None, Some}
use Rattle.std.specs.Int.{to_le_bytes, w64}
use Rattle.std.proofs.lemmas.Bool.{ne_eqb}
use Rattle.std.proofs.lemmas.Bool.Decides.{eqb_tells}
use Rattle.std.proofs.lemmas.List.{get_or-set_other, get_or-set_same}
use Rattle.can_frame.specs.TransferCrc.{crc_of, transfer_crc}
use Rattle.transfer_rx.specs.declared.key.Key.{Key}
use Rattle.transfer_rx.specs.declared.progress.Found.{Found}
use Rattle.transfer_rx.specs.declared.progress.Progress.{Progress}
use Rattle.transfer_rx.specs.Crcs.{CarriesCrcs, HasCrc, HasOwnCrc, HaveCrcs, HaveCrcsOf, IsUnder}
use Rattle.transfer_rx.specs.Filled.{emptied}
use Rattle.transfer_rx.proofs.Places.{nothing_there}

pub none_yet : (S : ℕ) (chains : List (List ℕ)) (signature_of : Key → Option ℕ) → HaveCrcs signature_of (replicate S None) chains
none_yet S chains signature_of = λ place there e signature is some. let none = nothing_there S place in absurd cc

pub nothing_taken : (signature_of : Key → Option ℕ) (p : Progress) (chain : List ℕ) → p.taken ≡ 0 → HasOwnCrc signature_of p chain
nothing_taken signature_of p chain none = λ signature is some. absurd (omega arith)

-- where the signature of the key is known
pub of_one : (signature_of : Key → Option ℕ) (key : Key) (signature : ℕ) (p : Progress) (chain : List ℕ) → signature_of key ≡ Some signature →
    p.key ≡ key → HasCrc signature p chain → HasOwnCrc signature_of p chain
of_one signature_of key signature p chain is own h = λ other e some.
    let both : Some other ≡ Some signature = sym e ∙ ap signature_of own ∙ is in
    let same : other ≡ signature = cc in
    subst (λ s. CarriesCrcs s p.crc p.sent_crc chain) (sym same) (h some)

pub of_key : (signature_of : Key → Option ℕ) (key : Key) (signature : ℕ) (progress : List (Option Progress)) (chains : List (List ℕ)) →
    signature_of key ≡ Some signature → HaveCrcs signature_of progress chains → HaveCrcsOf key signature progress chains
of_key signature_of key signature progress chains is h = λ place there e own. h place there e signature (ap signature_of own ∙ is)

-- what was found for the same key
pub under : (key same : Key) (signature : ℕ) (progress : List (Option Progress)) (chains : List (List ℕ)) (found : Found) → same ≡ key →
    HaveCrcsOf key signature progress chains → (HaveCrcsOf same signature progress chains → IsUnder same signature chains found) →
    IsUnder key signature chains found
under key same signature progress chains found e h f =
    subst (λ k. IsUnder k signature chains found) e (f (subst (λ k. HaveCrcsOf k signature progress chains) (sym e) h))

-- ---- a place that is set, or cleared

elsewhere : (signature_of : Key → Option ℕ) (progress : List (Option Progress)) (chains after : List (List ℕ)) (place : ℕ) (o : Option Progress) →
    HaveCrcs signature_of progress chains → (i : ℕ) → i ≢ place → get_or after i [] ≡ get_or chains i [] → (there : Progress) →
    get_or (set progress place o) i None ≡ Some there → HasOwnCrc signature_of there (get_or after i [])
elsewhere signature_of progress chains after place o h i ne same there e = λ signature is some.
    subst (CarriesCrcs signature there.crc there.sent_crc) (sym same)
    (h i there (sym (get_or-set_other progress place i o None ne) ∙ e) signature is some)

pub set_crcs : (signature_of : Key → Option ℕ) (progress : List (Option Progress)) (chains after : List (List ℕ)) (place : ℕ) (p : Progress) →
    HaveCrcs signature_of progress chains → place < length progress → ((i : ℕ) → i ≢ place → get_or after i [] ≡ get_or chains i []) →
    HasOwnCrc signature_of p (get_or after place []) → HaveCrcs signature_of (set progress place (Some p)) after
set_crcs signature_of progress chains after place p h l others own = λ i there e signature is some. elim (eqb_tells i place) [
  | inl here ↦
      let both : Some p ≡ Some there =
      sym (get_or-set_same progress place (Some p) None l) ∙ ap (λ j. get_or (set progress place (Some p)) j None) (sym here.1) ∙ e in
      let same : p ≡ there = cc in
      subst (λ (x : Progress). CarriesCrcs signature x.crc x.sent_crc (get_or after i [])) same
      (subst (λ j. CarriesCrcs signature p.crc p.sent_crc (get_or after j [])) (sym here.1)
      (own signature (ap (λ (x : Progress). signature_of x.key) same ∙ is) (subst (λ (x : Progress). 0 < x.taken) (sym same) some)))
  | inr other ↦ elsewhere signature_of progress chains after place (Some p) h i other.1 (others i other.1) there e signature is some
]

pub kept_crcs : (signature_of : Key → Option ℕ) (progress : List (Option Progress)) (chains after : List (List ℕ)) (place : ℕ) (o : Option Progress) →
    HaveCrcs signature_of progress chains → place < length progress → IfSome o (λ p. get_or progress place None ≡ Some p) →
    ((i : ℕ) → i ≢ place → get_or after i [] ≡ get_or chains i []) → IfSome o (λ p. get_or after place [] ≡ get_or chains place []) →
    HaveCrcs signature_of (set progress place o) after
kept_crcs signature_of progress chains after place None h l same others kept = λ i there e signature is some. elim (eqb_tells i place) [
  | inl here ↦
      let none : get_or (set progress place None) i None ≡ None =
      ap (λ j. get_or (set progress place None) j None) here.1 ∙ get_or-set_same progress place None None l in
      absurd cc
  | inr other ↦ elsewhere signature_of progress chains after place None h i other.1 (others i other.1) there e signature is some
]
kept_crcs signature_of progress chains after place (Some p) h l same others kept =
    set_crcs signature_of progress chains after place p h l others
    (λ signature is some. subst (CarriesCrcs signature p.crc p.sent_crc) (sym kept) (h place p same signature is some))

pub same_there : (o there other : Option Progress) → there ≡ other → IfSome o (λ p. there ≡ Some p) → IfSome o (λ p. other ≡ Some p)
same_there None there other e h = h
same_there (Some p) there other e h = sym e ∙ h

-- ---- the chain of the place

module _ (p : Progress) (place : ℕ) (chains : List (List ℕ)) where
  pub emptied_crc : (signature : ℕ) → HasCrc signature p (get_or chains place []) → HasCrc signature p (get_or (emptied p.taken place chains) place [])
  emptied_crc signature h = λ some.
      let taken : nat_eq p.taken 0 ≡ false = ne_eqb _ _ (λ e. omega arith) in
      let known = h some in
      rw taken known

  pub emptied_own : (signature_of : Key → Option ℕ) → HasOwnCrc signature_of p (get_or chains place []) →
      HasOwnCrc signature_of p (get_or (emptied p.taken place chains) place [])
  emptied_own signature_of h = λ signature is. emptied_crc signature (h signature is)

-- ---- the last frame

pub more_crc : (signature crc result : ℕ) (bytes last payload : List ℕ) → ((all : List ℕ) → crc ≡ crc_of all → result ≡ crc_of (all ++ last)) →
    crc ≡ transfer_crc signature bytes → payload ≡ bytes ++ last → result ≡ transfer_crc signature payload
more_crc signature crc result bytes last payload f e is =
    f (to_le_bytes w64 signature ++ bytes) e ∙ ap crc_of (append_assoc (to_le_bytes w64 signature) bytes last) ∙ ap (transfer_crc signature) (sym is)
