-- What the first frame of an Allocation, and the one of an answer, say.
use Rattle.std.proofs.Common.{◌≡◌, ◌≤◌, ◌<◌, ◌+◌, ◌*◌, ◌/◌, ◌%◌, ◌&&◌, ℕ, Bool, true, false, not, List, [], ◌∷◌, ◌++◌, length, take, refl, sym, subst, ap, ◌∙◌, inl, inr, arith, nat_eq, nat_le, eq-eqb, eqb-true, leb-true, get_or-take, length-take, if◌then◌else◌}
use Rattle.std.specs.Prelude.{Option, Some, None, ◌^◌, nat_lt, slice_index_or}
use Rattle.std.proofs.lemmas.Bool.Decides.{leb_tells}
use Rattle.can_frame.specs.Cutting.{Piece, crc_bytes, frame_bytes, frames_of, tail_at}
use Rattle.can_frame.specs.DataTypes.{allocation}
use Rattle.can_frame.specs.Tail.{tail_byte, tail_of}
use Rattle.can_frame.specs.TransferCrc.{transfer_crc}
use Rattle.can_frame.specs.Identifier.{identifier_of}
use Rattle.can_frame.specs.declared.identifier.Ident.{Ident}
use Rattle.can_frame.specs.declared.identifier.Kind.{Kind}
use Rattle.can_frame.specs.declared.identifier.Kind.TheVariants.{Message}
use Rattle.dsdl_codec.specs.Allocation.{allocation_bytes}
use Rattle.dsdl_codec.specs.AppendAnswer.{append_answer_of}
use Rattle.dsdl_codec.specs.declared.allocation.Allocation.{Allocation}
use Rattle.dsdl_codec.specs.declared.append_answer.AppendAnswer.{AppendAnswer}
use Rattle.outside.specs.declared.received.RawFrame.{RawFrame}
use Rattle.told_link.specs.Following.{agrees, byte_of, gives_node_id, is_allocation, is_alone, is_first_of_several, is_message, says_success}
use Rattle.told_link.specs.Voice.{fields_of, is_of_uavcan}
use Rattle.told_link.proofs.FirstFrames.{alone, head_is, many}

read_in : (n : ℕ) (xs ys : List ℕ) (i : ℕ) → take n xs ≡ ys → i < n → slice_index_or xs i 0 ≡ slice_index_or ys i 0
read_in n xs ys i is lt = sym (get_or-take n xs i 0 lt) ∙ ap (λ (l : List ℕ). slice_index_or l i 0) is

-- ---- tails

set_and_not : (a b : Bool) → a ≡ true → b ≡ false → (a && not b) ≡ true
set_and_not true false e f = refl
set_and_not true true e f = absurd (cc)
set_and_not false b e f = absurd (cc)

set_both : (a b : Bool) → a ≡ true → b ≡ true → (a && b) ≡ true
set_both true true e f = refl
set_both true false e f = absurd (cc)
set_both false b e f = absurd (cc)

first_tail : (id : ℕ) → id < 32 → is_first_of_several (tail_of (tail_byte (tail_at id 0 false))) ≡ true
first_tail id small =
    let start : (128 + id) / 128 % 2 ≡ 1 = omega (arith, small) in
    let end : (128 + id) / 64 % 2 ≡ 0 = omega (arith, small) in
    set_and_not (nat_eq ((128 + id) / 128 % 2) 1) (nat_eq ((128 + id) / 64 % 2) 1)
    (eq-eqb ((128 + id) / 128 % 2) 1 start) (ap (λ (n : ℕ). nat_eq n 1) end)

only_tail : (id : ℕ) → id < 32 → is_alone (tail_of (tail_byte (tail_at id 0 true))) ≡ true
only_tail id small =
    let start : (192 + id) / 128 % 2 ≡ 1 = omega (arith, small) in
    let end : (192 + id) / 64 % 2 ≡ 1 = omega (arith, small) in
    set_both (nat_eq ((192 + id) / 128 % 2) 1) (nat_eq ((192 + id) / 64 % 2) 1)
    (eq-eqb ((192 + id) / 128 % 2) 1 start) (eq-eqb ((192 + id) / 64 % 2) 1 end)

-- ---- an Allocation

frame_is : (low high node : ℕ) (uid : List ℕ) (tail : ℕ) → 7 ≤ length uid → (a : ℕ) × (b : ℕ) × (c : ℕ) × (d : ℕ)
    × (take 7 (low ∷ high ∷ node ∷ uid) ++ tail ∷ [] ≡ low ∷ high ∷ node ∷ a ∷ b ∷ c ∷ d ∷ tail ∷ [])
frame_is low high node [] tail long = absurd (omega (arith, long))
frame_is low high node (a ∷ []) tail long = absurd (omega (arith, long))
frame_is low high node (a ∷ (b ∷ [])) tail long = absurd (omega (arith, long))
frame_is low high node (a ∷ (b ∷ (c ∷ []))) tail long = absurd (omega (arith, long))
frame_is low high node (a ∷ (b ∷ (c ∷ (d ∷ rest)))) tail long = (a, b, c, d, refl)

has_fields : (test : Bool) (fields : Option Ident) (ident : Ident) → (if test then fields else None) ≡ Some ident →
    test ≡ true
has_fields true fields ident is = refl
has_fields false fields ident is = absurd (cc)

third : (p q r : Bool) → (p && (q && r)) ≡ true → r ≡ true
third true true r e = e
third true false r e = absurd (cc)
third false q r e = absurd (cc)

is_short : (raw : RawFrame) (ident : Ident) → fields_of raw ≡ Some ident → raw.len ≤ 8
is_short raw ident is = leb-true raw.len 8 (third (nat_lt raw.id (2 ^ 29)) (nat_lt 0 raw.len) (nat_le raw.len 8)
    (has_fields (is_of_uavcan raw) (identifier_of raw.id) ident is))

is_of_allocations : (kind : Kind) (number : ℕ) → kind ≡ Message → number ≡ allocation.number →
    (is_message kind && nat_eq number allocation.number) ≡ true
is_of_allocations kind number is of =
    subst (λ (k : Kind). (is_message k && nat_eq number allocation.number) ≡ true) (sym is)
    (eq-eqb number allocation.number of)

above : (node bit : ℕ) → bit ≤ 1 → nat_le 2 (node * 2 + bit) ≡ nat_le 1 node
above node bit small = elim (leb_tells 1 node) [
  | inl t ↦ elim (leb_tells 2 (node * 2 + bit)) [
    | inl u ↦ u.0 ∙ sym t.0
    | inr u ↦ let some = t.1 in let none = u.1 in absurd (omega (arith, some, none))
  ]
  | inr t ↦ elim (leb_tells 2 (node * 2 + bit)) [
    | inl u ↦ let none = t.1 in let some = u.1 in absurd (omega (arith, some, none, small))
    | inr u ↦ u.0 ∙ sym t.0
  ]
]

a_bit : (test : Bool) → (if test then 1 else 0) ≤ 1
a_bit true = omega (arith)
a_bit false = omega (arith)

all_but_last : (p q r s t : Bool) → p ≡ true → q ≡ true → r ≡ true → s ≡ t → (p && (q && (r && s))) ≡ t
all_but_last true true true s t a b c e = e
all_but_last true true false s t a b c e = absurd (cc)
all_but_last true false r s t a b c e = absurd (cc)
all_but_last false q r s t a b c e = absurd (cc)

-- the frame has these bytes
given : (raw : RawFrame) (ident : Ident) (id low high node bit : ℕ) (uid : List ℕ) → fields_of raw ≡ Some ident →
    ident.kind ≡ Message → ident.number ≡ allocation.number → id < 32 → bit ≤ 1 → 7 ≤ length uid →
    take raw.len raw.bytes
    ≡ take 7 (low ∷ high ∷ (node * 2 + bit) ∷ uid) ++ tail_byte (tail_at id 0 false) ∷ [] →
    gives_node_id raw ≡ nat_le 1 node
given raw ident id low high node bit uid fields kind number small one long are =
    let tail : ℕ = tail_byte (tail_at id 0 false) in
    let shape = frame_is low high (node * 2 + bit) uid tail long in
    let bytes : List ℕ = low ∷ high ∷ (node * 2 + bit) ∷ shape.0 ∷ shape.1 ∷ shape.2 ∷ shape.3 ∷ tail ∷ [] in
    let whole : take raw.len raw.bytes ≡ bytes = are ∙ shape.4 in
    let eight : length (take raw.len raw.bytes) ≡ 8 = ap length whole in
    let taken = length-take raw.len raw.bytes in
    let short = is_short raw ident fields in
    let len : raw.len ≡ 8 = omega (arith, eight, taken, short) in
    all_but_last (is_allocation (fields_of raw)) (nat_eq raw.len 8)
    (is_first_of_several (tail_of (byte_of raw 7))) (nat_le 2 (byte_of raw 2)) (nat_le 1 node)
    (ap is_allocation fields ∙ is_of_allocations ident.kind ident.number kind number) (eq-eqb raw.len 8 len)
    (ap (λ (n : ℕ). is_first_of_several (tail_of n)) (read_in raw.len raw.bytes bytes 7 whole (omega (arith, len)))
    ∙ first_tail id small)
    (ap (nat_le 2) (read_in raw.len raw.bytes bytes 2 whole (omega (arith, len))) ∙ above node bit one)

one_is_not_two : (a b c : Piece) (rest : List Piece) → a ∷ [] ≡ b ∷ c ∷ rest → ⊥
one_is_not_two a b c rest e = cc

pub gives : (raw : RawFrame) (ident : Ident) (signature id : ℕ) (answer : Allocation) (first second : Piece)
    (rest : List Piece) → fields_of raw ≡ Some ident → ident.kind ≡ Message → ident.number ≡ allocation.number →
    frames_of signature id (allocation_bytes answer) ≡ first ∷ second ∷ rest → id < 32 →
    take raw.len raw.bytes ≡ frame_bytes first → gives_node_id raw ≡ nat_le 1 answer.node
gives raw ident signature id answer first second rest fields kind number are small is =
    let payload : List ℕ = allocation_bytes answer in
    elim (leb_tells (length payload) 7) as (λ _. gives_node_id raw ≡ nat_le 1 answer.node) [
      | inl t ↦ absurd (one_is_not_two (record { bytes = payload; tail = tail_at id 0 true }) first second rest
          (sym (alone signature id payload t.1) ∙ are))
      | inr t ↦ let found = many signature id payload t.1 in let long = t.1 in
          given raw ident id (transfer_crc signature payload % 256) (transfer_crc signature payload / 256) answer.node
          (if answer.first_part then 1 else 0) answer.uid.items fields kind number small (a_bit answer.first_part)
          (omega (arith, long))
          (is ∙ ap frame_bytes (head_is first (record {
            bytes = take 7 (crc_bytes signature payload ++ payload);
            tail = tail_at id 0 false;
          }) (second ∷ rest) found.0 (sym are ∙ found.1)))
    ]

-- ---- an answer

five_of_six : (xs : List ℕ) → take 5 (take 6 xs) ≡ take 5 xs
five_of_six [] = refl
five_of_six (a ∷ []) = refl
five_of_six (a ∷ (b ∷ [])) = refl
five_of_six (a ∷ (b ∷ (c ∷ []))) = refl
five_of_six (a ∷ (b ∷ (c ∷ (d ∷ [])))) = refl
five_of_six (a ∷ (b ∷ (c ∷ (d ∷ (e ∷ rest))))) = refl

two_and_last : (p q r s : Bool) → p ≡ true → q ≡ true → r ≡ s → (p && (q && r)) ≡ s
two_and_last true true r s a b e = e
two_and_last true false r s a b e = absurd (cc)
two_and_last false q r s a b e = absurd (cc)

said : (raw : RawFrame) (id a b c d e : ℕ) (answer : AppendAnswer) → append_answer_of (a ∷ b ∷ c ∷ d ∷ e ∷ []) ≡ Some answer →
    id < 32 → length raw.bytes ≡ 8 →
    take raw.len raw.bytes ≡ a ∷ b ∷ c ∷ d ∷ e ∷ tail_byte (tail_at id 0 true) ∷ [] → agrees raw ≡ answer.success
said raw id a b c d e answer says small eight whole =
    let bytes : List ℕ = a ∷ b ∷ c ∷ d ∷ e ∷ tail_byte (tail_at id 0 true) ∷ [] in
    let six : length (take raw.len raw.bytes) ≡ 6 = ap length whole in
    let taken = length-take raw.len raw.bytes in
    let len : raw.len ≡ 6 = omega (arith, six, taken, eight) in
    let five : take 5 raw.bytes ≡ a ∷ b ∷ c ∷ d ∷ e ∷ [] = sym (five_of_six raw.bytes)
    ∙ ap (take 5) (subst (λ (n : ℕ). take n raw.bytes ≡ bytes) len whole) in
    two_and_last (nat_eq raw.len 6) (is_alone (tail_of (byte_of raw 5)))
    (says_success (append_answer_of (take 5 raw.bytes))) answer.success (eq-eqb raw.len 6 len)
    (ap (λ (n : ℕ). is_alone (tail_of n)) (read_in raw.len raw.bytes bytes 5 whole (omega (arith, len)))
    ∙ only_tail id small)
    (ap (λ (l : List ℕ). says_success (append_answer_of l)) five ∙ ap says_success says)

pub says : (raw : RawFrame) (signature id : ℕ) (payload : List ℕ) (answer : AppendAnswer) (first : Piece)
    (rest : List Piece) → append_answer_of payload ≡ Some answer → frames_of signature id payload ≡ first ∷ rest →
    id < 32 → length raw.bytes ≡ 8 → take raw.len raw.bytes ≡ frame_bytes first → agrees raw ≡ answer.success
says raw signature id [] answer first rest is are small eight whole = absurd (cc)
says raw signature id (a ∷ []) answer first rest is are small eight whole = absurd (cc)
says raw signature id (a ∷ (b ∷ [])) answer first rest is are small eight whole = absurd (cc)
says raw signature id (a ∷ (b ∷ (c ∷ []))) answer first rest is are small eight whole = absurd (cc)
says raw signature id (a ∷ (b ∷ (c ∷ (d ∷ [])))) answer first rest is are small eight whole = absurd (cc)
says raw signature id (a ∷ (b ∷ (c ∷ (d ∷ (e ∷ (f ∷ more)))))) answer first rest is are small eight whole = absurd (cc)
says raw signature id (a ∷ (b ∷ (c ∷ (d ∷ (e ∷ []))))) answer first rest is are small eight whole =
    said raw id a b c d e answer is small eight
    (whole ∙ ap frame_bytes (head_is first (record {
      bytes = a ∷ b ∷ c ∷ d ∷ e ∷ [];
      tail = tail_at id 0 true;
    }) rest [] (sym are ∙ alone signature id (a ∷ b ∷ c ∷ d ∷ e ∷ []) (omega (arith)))))

first_and_last : (p q r : Bool) → (p && (q && r)) ≡ true → (p ≡ true) × (r ≡ true)
first_and_last true true r e = (refl, e)
first_and_last true false r e = absurd (cc)
first_and_last false q r e = absurd (cc)

success : (said : Option AppendAnswer) → says_success said ≡ true → (answer : AppendAnswer)
    × (said ≡ Some answer) × (answer.success ≡ true)
success None e = absurd (cc)
success (Some answer) e = (answer, refl, e)

pub of_success : (raw : RawFrame) → agrees raw ≡ true → (raw.len ≡ 6) × ((answer : AppendAnswer)
    × (append_answer_of (take 5 raw.bytes) ≡ Some answer) × (answer.success ≡ true))
of_success raw e =
    let both = first_and_last (nat_eq raw.len 6) (is_alone (tail_of (byte_of raw 5)))
    (says_success (append_answer_of (take 5 raw.bytes))) e in
    (eqb-true raw.len 6 both.0, success (append_answer_of (take 5 raw.bytes)) both.1)
