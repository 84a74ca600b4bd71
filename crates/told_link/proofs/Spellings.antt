-- Which frames of an answer spell an allocator.
use Rattle.std.proofs.Common.{◌≡◌, ◌≤◌, ◌<◌, ◌+◌, ◌*◌, ◌-◌, ◌/◌, ◌%◌, ◌&&◌, ℕ, suc, Bool, true, false, not, List, ◌∷◌, ◌++◌, length, take, drop, refl, sym, subst, ap, ◌∙◌, inl, inr, arith, nat_eq, bytes_eq, ne_eqb}
use Rattle.std.specs.Prelude.{slice_index_or}
use Rattle.std.proofs.lemmas.Bool.{eqb-false}
use Rattle.std.proofs.lemmas.Bool.Decides.{leb_tells}
use Rattle.std.proofs.lemmas.Slice.Eq.{bytes_eq-Decides}
use Rattle.alloc_spec.specs.Services.{uid_of}
use Rattle.can_frame.specs.Cutting.{Piece, bytes_cut, crc_bytes, frames_before_last, frames_of, tail_at}
use Rattle.can_frame.specs.TransferCrc.{transfer_crc}
use Rattle.dsdl_codec.specs.NodeInfo.{node_info_bytes}
use Rattle.dsdl_codec.specs.declared.node_info.NodeInfo.{NodeInfo}
use Rattle.told_link.specs.AllocatorUid.{allocator_spelling, spells_allocator}

-- ---- what `can_frame` says of the frames of a payload

abbrev pub BeforeLast : Type 0
BeforeLast = (signature id k : ℕ) (payload : List ℕ) (d : Piece) → k < frames_before_last signature payload →
    slice_index_or (frames_of signature id payload) k d
    ≡ record { bytes = take 7 (drop (7 * k) (bytes_cut signature payload)); tail = tail_at id k false }

abbrev pub TheLast : Type 0
TheLast = (signature id : ℕ) (payload : List ℕ) (d : Piece) →
    slice_index_or (frames_of signature id payload) (frames_before_last signature payload) d
    ≡ record {
      bytes = drop (7 * frames_before_last signature payload) (bytes_cut signature payload);
      tail = tail_at id (frames_before_last signature payload) true;
    }

-- ---- what is cut where there are several frames

pub behind_crc : (signature : ℕ) (payload : List ℕ) → 7 < length payload →
    bytes_cut signature payload ≡ crc_bytes signature payload ++ payload
behind_crc signature payload long =
    elim (leb_tells (length payload) 7) as (λ _. bytes_cut signature payload ≡ crc_bytes signature payload ++ payload) [
      | inl t ↦ absurd (omega (arith, long, t.1))
      | inr t ↦ rw (t.0) refl
    ]

several : (signature : ℕ) (payload : List ℕ) → 0 < frames_before_last signature payload → 7 < length payload
several signature payload some = elim (leb_tells (length payload) 7) as (λ _. 7 < length payload) [
  | inl t ↦ let whole : bytes_cut signature payload ≡ payload = rw (t.0) refl in
      let many : 0 < (length payload - 1) / 7 = subst (λ (bytes : List ℕ). 0 < (length bytes - 1) / 7) whole some in
      let short = t.1 in absurd (omega (arith, many, short))
  | inr t ↦ t.1
]

further : (low high j n : ℕ) (payload : List ℕ) → n ≡ 14 + 14 * j →
    drop n (low ∷ high ∷ payload) ≡ drop (12 + 14 * j) payload
further low high j n payload is =
    let two : n ≡ suc (suc (12 + 14 * j)) = omega (arith, is) in
    ap (λ (m : ℕ). drop m (low ∷ high ∷ payload)) two

-- the bytes of the frames at even places, counted from 0
bytes_at : (signature j : ℕ) (payload : List ℕ) → 2 + 2 * j < frames_before_last signature payload →
    take 7 (drop (7 * (2 + 2 * j)) (bytes_cut signature payload)) ≡ take 7 (drop (12 + 14 * j) payload)
bytes_at signature j payload lt =
    ap (λ (bytes : List ℕ). take 7 (drop (7 * (2 + 2 * j)) bytes))
    (behind_crc signature payload (several signature payload (omega (arith, lt))))
    ∙ ap (take 7) (further (transfer_crc signature payload % 256) (transfer_crc signature payload / 256) j
    (7 * (2 + 2 * j)) payload (omega arith))

-- ---- the three tests

all_pass : (first toggle spelt : Bool) → first ≡ false → toggle ≡ false → spelt ≡ true →
    ((not first && (not false && not toggle)) && spelt) ≡ true
all_pass first toggle spelt f t s = rw f (rw t (rw s refl))

passed : (first toggle spelt : Bool) → ((not first && (not false && not toggle)) && spelt) ≡ true →
    (first ≡ false) × (toggle ≡ false) × (spelt ≡ true)
passed false false true e = (refl, refl, refl)
passed false false false e = absurd (cc)
passed false true spelt e = absurd (cc)
passed true toggle spelt e = absurd (cc)

never_last : (first toggle spelt : Bool) → ((not first && (not true && not toggle)) && spelt) ≡ true → ⊥
never_last true toggle spelt e = cc
never_last false toggle spelt e = cc

-- ---- the laws

pub spelt : BeforeLast → (signature id j : ℕ) (payload : List ℕ) (d : Piece) →
    2 + 2 * j < frames_before_last signature payload → take 7 (drop (12 + 14 * j) payload) ≡ allocator_spelling →
    spells_allocator (slice_index_or (frames_of signature id payload) (2 + 2 * j) d) ≡ true
spelt before signature id j payload d lt is =
    let bytes : List ℕ = take 7 (drop (7 * (2 + 2 * j)) (bytes_cut signature payload)) in
    let spelling : bytes ≡ allocator_spelling = bytes_at signature j payload lt ∙ is in
    let even : (2 + 2 * j) % 2 ≡ 0 = omega arith in
    ap spells_allocator (before signature id (2 + 2 * j) payload d lt)
    ∙ all_pass (nat_eq (2 + 2 * j) 0) (nat_eq ((2 + 2 * j) % 2) 1) (bytes_eq bytes allocator_spelling)
    (ne_eqb (2 + 2 * j) 0 (λ none. absurd (omega (arith, none)))) (ap (λ (n : ℕ). nat_eq n 1) even)
    ((bytes_eq-Decides bytes allocator_spelling).1 spelling)

half : (place : ℕ) → (place ≡ 0 → ⊥) → (place % 2 ≡ 1 → ⊥) → place ≡ 2 + 2 * ((place - 2) / 2)
half place some even = elim (leb_tells place 0) as (λ _. place ≡ 2 + 2 * ((place - 2) / 2)) [
  | inl t ↦ let none = t.1 in absurd (some (omega (arith, none)))
  | inr t ↦ let more = t.1 in elim (leb_tells (place % 2) 0) as (λ _. place ≡ 2 + 2 * ((place - 2) / 2)) [
    | inl u ↦ let left = u.1 in omega (arith, more, left)
    | inr u ↦ let left = u.1 in absurd (even (omega (arith, left)))
  ]
]

pub only : BeforeLast → TheLast → (signature id place : ℕ) (payload : List ℕ) (d : Piece) →
    place ≤ frames_before_last signature payload →
    spells_allocator (slice_index_or (frames_of signature id payload) place d) ≡ true →
    (j : ℕ) × (place ≡ 2 + 2 * j) × (place < frames_before_last signature payload)
    × (take 7 (drop (12 + 14 * j) payload) ≡ allocator_spelling)
only before last signature id place payload d le is =
    let behind : ℕ = frames_before_last signature payload in
    let cut : List ℕ = bytes_cut signature payload in
    elim (leb_tells (suc place) behind) [
      | inl t ↦
          let lt : place < behind = t.1 in
          let bytes : List ℕ = take 7 (drop (7 * place) cut) in
          let tests = passed (nat_eq place 0) (nat_eq (place % 2) 1) (bytes_eq bytes allocator_spelling)
          (sym (ap spells_allocator (before signature id place payload d lt)) ∙ is) in
          let j : ℕ = (place - 2) / 2 in
          let at : place ≡ 2 + 2 * j = half place (eqb-false place 0 tests.0) (eqb-false (place % 2) 1 tests.1) in
          let spelling : bytes ≡ allocator_spelling = (bytes_eq-Decides bytes allocator_spelling).0 tests.2 in (
            j,
            at,
            lt,
            sym (bytes_at signature j payload (subst (λ (p : ℕ). p < behind) at lt))
                ∙ ap (λ (p : ℕ). take 7 (drop (7 * p) cut)) (sym at) ∙ spelling,
          )
      | inr t ↦
          let end : place ≡ behind = let more = t.1 in omega (arith, le, more) in
          absurd (never_last (nat_eq behind 0) (nat_eq (behind % 2) 1)
          (bytes_eq (drop (7 * behind) cut) allocator_spelling)
          (sym (ap spells_allocator (last signature id payload d))
          ∙ subst (λ (p : ℕ). spells_allocator (slice_index_or (frames_of signature id payload) p d) ≡ true) end is))
    ]

-- ---- an allocator's answer

told : (info : NodeInfo) (node : ℕ) → info.uid ≡ uid_of node → take 7 (drop 26 (node_info_bytes info)) ≡ allocator_spelling
told info node is = rw is refl

long_enough : (info : NodeInfo) (node : ℕ) → info.uid ≡ uid_of node → 40 ≤ length (node_info_bytes info)
long_enough info node is = rw is (omega arith)

pub fifth : BeforeLast → (signature id node : ℕ) (info : NodeInfo) (d : Piece) → info.uid ≡ uid_of node →
    spells_allocator (slice_index_or (frames_of signature id (node_info_bytes info)) 4 d) ≡ true
fifth before signature id node info d is =
    let payload : List ℕ = node_info_bytes info in
    let long = long_enough info node is in
    let whole : bytes_cut signature payload ≡ crc_bytes signature payload ++ payload =
    behind_crc signature payload (omega (arith, long)) in
    let many : 4 < frames_before_last signature payload =
    subst (λ (bytes : List ℕ). 4 < (length bytes - 1) / 7) (sym whole) (omega (arith, long)) in
    spelt before signature id 1 payload d many (told info node is)
