-- The tail of a frame of an Allocation.
use Rattle.std.proofs.Common.{◌≡◌, ◌≤◌, ◌<◌, ◌-◌, ◌&&◌, ℕ, Bool, true, false, List, length, take, refl, sym, subst, ap, ◌∙◌, arith, nat_eq, nat_le, eq-eqb, eqb-true, leb-true, get_or-take, length-take, if◌then◌else◌}
use Rattle.std.specs.Prelude.{Option, Some, None, ◌^◌, nat_lt, slice_index_or}
use Rattle.std.proofs.lemmas.Bool.{ltb-true}
use Rattle.can_frame.specs.Cutting.{Piece, frame_bytes, piece_from}
use Rattle.can_frame.specs.DataTypes.{allocation}
use Rattle.can_frame.specs.Identifier.{identifier_of}
use Rattle.can_frame.specs.Tail.{tail_of}
use Rattle.can_frame.specs.declared.identifier.Ident.{Ident}
use Rattle.can_frame.specs.declared.identifier.Kind.{Kind}
use Rattle.can_frame.specs.declared.identifier.Kind.TheVariants.{Anonymous, Message, Request, Response}
use Rattle.can_frame.specs.declared.tail.Tail.{Tail}
use Rattle.outside.specs.declared.received.RawFrame.{RawFrame}
use Rattle.spaced_link.specs.Spacing.{allocation_tail}
use Rattle.told_link.specs.Following.{byte_of, is_allocation, is_message}
use Rattle.told_link.specs.Voice.{fields_of, is_of_uavcan}

has_fields : (test : Bool) (fields : Option Ident) (ident : Ident) → (if test then fields else None) ≡ Some ident →
    test ≡ true
has_fields true fields ident is = refl
has_fields false fields ident is = absurd (cc)

last_two : (p q r : Bool) → (p && (q && r)) ≡ true → (q ≡ true) × (r ≡ true)
last_two true true true e = (refl, refl)
last_two true true false e = absurd (cc)
last_two true false r e = absurd (cc)
last_two false q r e = absurd (cc)

sizes : (raw : RawFrame) (ident : Ident) → fields_of raw ≡ Some ident → (0 < raw.len) × (raw.len ≤ 8)
sizes raw ident is = let both = last_two (nat_lt raw.id (2 ^ 29)) (nat_lt 0 raw.len) (nat_le raw.len 8)
    (has_fields (is_of_uavcan raw) (identifier_of raw.id) ident is) in
    (ltb-true 0 raw.len both.0, leb-true raw.len 8 both.1)

of_allocations : (kind : Kind) (number : ℕ) → kind ≡ Message → number ≡ allocation.number →
    (is_message kind && nat_eq number allocation.number) ≡ true
of_allocations kind number is of =
    subst (λ (k : Kind). (is_message k && nat_eq number allocation.number) ≡ true) (sym is)
    (eq-eqb number allocation.number of)

taken : (test : Bool) (tail : Tail) → test ≡ true → (if test then Some tail else None) ≡ Some tail
taken true tail e = refl
taken false tail e = absurd (cc)

pub has_tail : ((piece : Piece) → piece.tail.id < 32 → piece_from (frame_bytes piece) ≡ piece) → (raw : RawFrame)
    (ident : Ident) (piece : Piece) → fields_of raw ≡ Some ident → ident.kind ≡ Message →
    ident.number ≡ allocation.number → length raw.bytes ≡ 8 → take raw.len raw.bytes ≡ frame_bytes piece →
    piece.tail.id < 32 → allocation_tail true raw ≡ Some piece.tail
has_tail reads raw ident piece fields kind number eight are small =
    let size = sizes raw ident fields in
    let some = size.0 in
    let most = size.1 in
    let first : List ℕ = take raw.len raw.bytes in
    let of_first = length-take raw.len raw.bytes in
    let all : length first ≡ raw.len = omega (arith, of_first, eight, most) in
    let last : slice_index_or first (length first - 1) 0 ≡ byte_of raw (raw.len - 1) =
    ap (λ (n : ℕ). slice_index_or first (n - 1) 0) all
    ∙ get_or-take raw.len raw.bytes (raw.len - 1) 0 (omega (arith, some)) in
    taken (is_allocation (fields_of raw)) (tail_of (byte_of raw (raw.len - 1)))
    (ap is_allocation fields ∙ of_allocations ident.kind ident.number kind number)
    ∙ ap (λ (t : Tail). Some t) (ap tail_of (sym last)
    ∙ (ap (λ (l : List ℕ). (piece_from l).tail) are ∙ ap (λ (p : Piece). p.tail) (reads piece small)))

-- ---- no other frame

is_kind : (kind : Kind) → is_message kind ≡ true → kind ≡ Message
is_kind Message e = refl
is_kind Anonymous e = absurd (cc)
is_kind Request e = absurd (cc)
is_kind Response e = absurd (cc)

two : (p q : Bool) → (p && q) ≡ true → (p ≡ true) × (q ≡ true)
two true true e = (refl, refl)
two true false e = absurd (cc)
two false q e = absurd (cc)

fields_are : (fields : Option Ident) → is_allocation fields ≡ true → (ident : Ident) × (fields ≡ Some ident)
    × (ident.kind ≡ Message) × (ident.number ≡ allocation.number)
fields_are None e = absurd (cc)
fields_are (Some ident) e = let both = two (is_message ident.kind) (nat_eq ident.number allocation.number) e in
    (ident, refl, is_kind ident.kind both.0, eqb-true ident.number allocation.number both.1)

is_taken : (test : Bool) (own tail : Tail) → (if test then Some own else None) ≡ Some tail → test ≡ true
is_taken true own tail e = refl
is_taken false own tail e = absurd (cc)

pub of_allocation_alone : (is_told : Bool) (raw : RawFrame) (tail : Tail) → allocation_tail is_told raw ≡ Some tail →
    (is_told ≡ true) × ((ident : Ident) × (fields_of raw ≡ Some ident) × (ident.kind ≡ Message)
    × (ident.number ≡ allocation.number))
of_allocation_alone false raw tail e = absurd (cc)
of_allocation_alone true raw tail e = (
  refl,
  fields_are (fields_of raw)
      (is_taken (is_allocation (fields_of raw)) (tail_of (byte_of raw (raw.len - 1))) tail e),
)
