-- What is put together of frames of one transfer of three frames at the most is whole.
use Rattle.std.proofs.Common.{◌≡◌, ◌≢◌, ℕ, zero, suc, ◌+◌, ◌<◌, ◌≤◌, Bool, true, false, List, [], ◌∷◌, length, refl, sym, ap, ◌∙◌, arith, ◌⊎◌, inl, inr, subst}
use Rattle.std.specs.Prelude.{map, nat_eq, slice_index_or, ◌%◌, ◌&&◌}
use Rattle.std.proofs.lemmas.Bool.Decides.{eqb_tells}
use Rattle.std.proofs.lemmas.List.{get_or-map, length-map}
use Rattle.can_frame.specs.declared.mark.Mark.{Mark}
use Rattle.can_frame.specs.declared.tail.Tail.{Tail}
use Rattle.can_frame.specs.Cutting.{Piece, frame_count, frames_before_last, frames_of as pieces_of, piece_from, tail_at}
use Rattle.raft_model.specs.Lists.{In}
use Rattle.transfer_rx.specs.Marks.{is_run, is_whole}
use Rattle.transfer_rx.specs.Reassembly.{Arrival, piece_in}
use Rattle.alloc_spec.specs.Transfers.{SentTransfer, signature_of}
use Rattle.bus_agreement.specs.LawsBelow.{FrameLaws}
use Rattle.bus_agreement.proofs.Lists.{in_at, never}
use Rattle.bus_agreement.proofs.Pieces.{no_piece, piece_id, theirs}
use Rattle.bus_physics.specs.Reuse.{IsFrameOf}

-- ---- the tail of a place

module _ (laws : FrameLaws) (signature id : ℕ) (payload : List ℕ) where
  abbrev last_place : ℕ
  last_place = frames_before_last signature payload

  pub tail_is : (i : ℕ) → i ≤ last_place → (slice_index_or (pieces_of signature id payload) i no_piece).tail ≡ tail_at id i (nat_eq i last_place)
  tail_is i h = elim (eqb_tells i last_place) [
    | inl same ↦ ap (λ (k : ℕ). (slice_index_or (pieces_of signature id payload) k no_piece).tail) same.1
        ∙ (ap (λ (p : Piece). p.tail) (laws.last signature id payload no_piece)
        ∙ (ap (λ (k : ℕ). tail_at id k true) (sym same.1) ∙ ap (λ (b : Bool). tail_at id i b) (sym same.0)))
    | inr apart ↦
        let inside : i < last_place = by_apart i last_place h apart.1 in
        ap (λ (p : Piece). p.tail) (laws.before_last signature id i payload no_piece inside) ∙ ap (λ (b : Bool). tail_at id i b) (sym apart.0)
  ]
    where
      by_apart : (a b : ℕ) → a ≤ b → a ≢ b → a < b
      by_apart a b le ne = elim (eqb_tells a b) [ inl e ↦ absurd (ne e.1) | inr n ↦ omega (arith, le, n.1) ]

-- ---- places

-- the tail of place p of a transfer whose last place is n is that of place i of one whose last place is m
pub record AreAlike (p n i m : ℕ) : Type 0 where
  pub start : nat_eq p 0 ≡ nat_eq i 0
  pub end : nat_eq p n ≡ nat_eq i m
  pub toggle : nat_eq (p % 2) 1 ≡ nat_eq (i % 2) 1

to : (a b c d : ℕ) → nat_eq a b ≡ nat_eq c d → a ≡ b → c ≡ d
to a b c d e h = elim (eqb_tells c d) [
  | inl same ↦ same.1
  | inr apart ↦ elim (eqb_tells a b) [
    | inl same ↦ never (sym apart.0 ∙ (sym e ∙ same.0))
    | inr differ ↦ absurd (differ.1 h)
  ]
]

not_place : (p c : ℕ) (b : Bool) → nat_eq (p % 2) 1 ≡ b → (nat_eq (c % 2) 1 ≡ b → ⊥) → p ≢ c
not_place p c b e differ same = differ (ap (λ (k : ℕ). nat_eq (k % 2) 1) (sym same) ∙ e)

-- no place of a longer transfer is like one of so short a transfer
not_longer : (p n m : ℕ) → AreAlike p n 2 m → p ≤ n → n ≤ 2 → 3 ≤ m → ⊥
not_longer p n m is inside short long =
    let not_zero : p ≢ 0 = λ e. absurd (omega (arith, to p 0 2 0 is.start e)) in
    let not_one : p ≢ 1 = not_place p 1 false is.toggle (λ e. never (sym e)) in
    let two : p ≡ n = omega (arith, not_zero, not_one, inside, short) in
    absurd (omega (arith, to p n 2 m is.end two, long))

place_is : (p n i m : ℕ) → AreAlike p n i m → p ≤ n → n ≤ 2 → i ≤ 2 → p ≡ i
place_is p n zero m is inside short small = to 0 0 p 0 (sym is.start) refl
place_is p n (suc zero) m is inside short small =
    let not_zero : p ≢ 0 = λ e. absurd (omega (arith, to p 0 1 0 is.start e)) in
    let not_two : p ≢ 2 = not_place p 2 true is.toggle (λ e. never e) in
    omega (arith, not_zero, not_two, inside, short)
place_is p n (suc (suc zero)) m is inside short small =
    let not_zero : p ≢ 0 = λ e. absurd (omega (arith, to p 0 2 0 is.start e)) in
    let not_one : p ≢ 1 = not_place p 1 false is.toggle (λ e. never (sym e)) in
    omega (arith, not_zero, not_one, inside, short)
place_is p n (suc (suc (suc i))) m is inside short small = absurd (omega (arith, small))

-- ---- marks

run_of : (step place : ℕ) (marks : List Mark) (d : Mark)
    → ((i : ℕ) → i < length marks → ((slice_index_or marks i d).step ≡ step) × ((slice_index_or marks i d).place ≡ place + i)) → is_run step place marks ≡ true
run_of step place [] d each = refl
run_of step place (mark ∷ marks) d each =
    both_true (nat_eq mark.step step && nat_eq mark.place place) (is_run step (suc place) marks)
    (both_true (nat_eq mark.step step) (nat_eq mark.place place) (same mark.step step (each 0 (omega arith)).0)
    (same mark.place place (omega (arith, (each 0 (omega arith)).1))))
    (run_of step (suc place) marks d (λ i h. let r = each (suc i) (omega (arith, h)) in (r.0, omega (arith, r.1))))
  where
    both_true : (a b : Bool) → a ≡ true → b ≡ true → (a && b) ≡ true
    both_true true b e f = f
    both_true false b e f = never e

    same : (a b : ℕ) → a ≡ b → nat_eq a b ≡ true
    same a b e = elim (eqb_tells a b) [ inl s ↦ s.0 | inr apart ↦ absurd (apart.1 e) ]

-- ---- a frame of a transfer, at a place of what was put together

module _ (laws : FrameLaws) (x : SentTransfer) (small : x.offer.id < 32) (all : List Arrival) (default : Arrival) (signature id : ℕ) (payload : List ℕ)
    (cutting : map piece_in all ≡ pieces_of signature id payload) where
  abbrev get : ℕ → Arrival
  get i = slice_index_or all i default

  -- the last places of the two
  abbrev n : ℕ
  n = frames_before_last (signature_of x.offer.what) x.offer.payload

  abbrev m : ℕ
  m = frames_before_last signature payload

  count : length all ≡ suc m
  count = sym (length-map all piece_in) ∙ (ap length cutting ∙ laws.count signature id payload)

  there : (i : ℕ) → i ≤ m → i < length all
  there i inside = omega (arith, inside, count)

  module _ (i : ℕ) (inside : i ≤ m) (is : IsFrameOf x (get i)) where
    abbrev p : ℕ
    p = (get i).mark.place

    in_it : p ≤ n
    in_it = omega (arith, is.place, laws.count (signature_of x.offer.what) x.offer.id x.offer.payload)

    piece_is : piece_in (get i) ≡ slice_index_or (theirs x) p no_piece
    piece_is = ap piece_from is.bytes ∙ laws.piece_read (slice_index_or (theirs x) p no_piece)
        (subst (λ (k : ℕ). k < 32) (sym (piece_id (signature_of x.offer.what) x.offer.id x.offer.payload p is.place)) small)

    same_tail : tail_at x.offer.id p (nat_eq p n) ≡ tail_at id i (nat_eq i m)
    same_tail = sym (tail_is laws (signature_of x.offer.what) x.offer.id x.offer.payload p in_it)
        ∙ (ap (λ (q : Piece). q.tail) (sym piece_is)
        ∙ (ap (λ (q : Piece). q.tail) (sym (get_or-map piece_in all i default no_piece (there i inside)))
        ∙ (ap (λ (l : List Piece). (slice_index_or l i no_piece).tail) cutting ∙ tail_is laws signature id payload i inside)))

    alike : AreAlike p n i m
    alike = record {
      start = ap (λ (t : Tail). t.start) same_tail;
      end = ap (λ (t : Tail). t.end) same_tail;
      toggle = ap (λ (t : Tail). t.toggle) same_tail;
    }

  -- a transfer of one frame is not put together with others
  pub not_alone : (i : ℕ) → i < length all → IsFrameOf x (get i) → 2 ≤ length all → 2 ≤ frame_count (length x.offer.payload)
  not_alone i below is many = elim (eqb_tells n 0) [
    | inr some ↦ omega (
      arith,
      some.1,
      laws.cut_count (signature_of x.offer.what) x.offer.id x.offer.payload,
      laws.count (signature_of x.offer.what) x.offer.id x.offer.payload,
    )
    | inl none ↦
        let inside : i ≤ m = omega (arith, below, count) in
        let like = alike i inside is in
        let first : p i inside is ≡ 0 = omega (arith, in_it i inside is, none.1) in
        absurd (omega (arith, to (p i inside is) 0 i 0 like.start first, to (p i inside is) n i m like.end (first ∙ sym none.1), many, count))
  ]

-- ---- frames of one transfer

module _ (laws : FrameLaws) (x : SentTransfer) (small : x.offer.id < 32) (few : frame_count (length x.offer.payload) ≤ 3) (all : List Arrival) (default : Arrival)
    (each : (arrival : Arrival) → In arrival all → IsFrameOf x arrival) (signature id : ℕ) (payload : List ℕ)
    (cutting : map piece_in all ≡ pieces_of signature id payload) where
  abbrev last_theirs : ℕ
  last_theirs = frames_before_last (signature_of x.offer.what) x.offer.payload

  abbrev last : ℕ
  last = frames_before_last signature payload

  short : last_theirs ≤ 2
  short = omega (
    arith,
    few,
    laws.cut_count (signature_of x.offer.what) x.offer.id x.offer.payload,
    laws.count (signature_of x.offer.what) x.offer.id x.offer.payload,
  )

  module _ (i : ℕ) (inside : i ≤ last) where
    its : IsFrameOf x (slice_index_or all i default)
    its = each (slice_index_or all i default) (in_at all i default (there laws x small all default signature id payload cutting i inside))

    abbrev place : ℕ
    place = (slice_index_or all i default).mark.place

    in_theirs : place ≤ last_theirs
    in_theirs = in_it laws x small all default signature id payload cutting i inside its

    alike_it : AreAlike place last_theirs i last
    alike_it = alike laws x small all default signature id payload cutting i inside its

  -- the transfer that was put together is as short
  not_more : last ≤ 2
  not_more = elim (leb_or last) [
    | inl few_too ↦ few_too
    | inr long ↦ absurd (not_longer (place 2 (omega (arith, long))) last_theirs last (alike_it 2 (omega (arith, long))) (in_theirs 2 (omega (arith, long))) short long)
  ]
    where
      leb_or : (k : ℕ) → (k ≤ 2) ⊎ (3 ≤ k)
      leb_or zero = inl (omega arith)
      leb_or (suc zero) = inl (omega arith)
      leb_or (suc (suc zero)) = inl (omega arith)
      leb_or (suc (suc (suc k))) = inr (omega arith)

  marks_are : (i : ℕ) → i < length (map (λ (a : Arrival). a.mark) all)
      → ((slice_index_or (map (λ (a : Arrival). a.mark) all) i default.mark).step ≡ x.step)
      × ((slice_index_or (map (λ (a : Arrival). a.mark) all) i default.mark).place ≡ 0 + i)
  marks_are i h =
      let below : i < length all = omega (arith, h, length-map all (λ (a : Arrival). a.mark)) in
      let inside : i ≤ last = omega (arith, below, count laws x small all default signature id payload cutting) in
      let at : slice_index_or (map (λ (a : Arrival). a.mark) all) i default.mark ≡ (slice_index_or all i default).mark = get_or-map (λ (a : Arrival). a.mark) all i default default.mark below in
      let same : place i inside ≡ i = place_is (place i inside) last_theirs i last (alike_it i inside) (in_theirs i inside) short (omega (arith, inside, not_more)) in
      (ap (λ (k : Mark). k.step) at ∙ (its i inside).step, ap (λ (k : Mark). k.place) at ∙ (same ∙ omega arith))

  pub short_is_whole : is_whole (map (λ (a : Arrival). a.mark) all) ≡ true
  short_is_whole = by (map (λ (a : Arrival). a.mark) all) marks_are where
    by : (marks : List Mark) → ((i : ℕ) → i < length marks → ((slice_index_or marks i default.mark).step ≡ x.step)
        × ((slice_index_or marks i default.mark).place ≡ 0 + i)) → is_whole marks ≡ true
    by [] are = refl
    by (mark ∷ marks) are = run_of mark.step 0 (mark ∷ marks) default.mark
        (λ i h. let r = are i h in (r.0 ∙ sym (are 0 (omega arith)).0, r.1))
