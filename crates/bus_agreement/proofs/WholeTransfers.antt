-- Frames that came together, whole, are those of one transfer that was made.
use Rattle.std.proofs.Common.{◌≡◌, ◌⊎◌, ℕ, ◌+◌, ◌<◌, ◌≤◌, Bool, true, false, List, [], ◌∷◌, ◌++◌, length, refl, sym, ap, subst, ◌∙◌, arith, inl, inr, length-append}
use Rattle.std.specs.Prelude.{Option, Some, ◌||◌, ◌==◌, map, slice_index_or}
use Rattle.std.proofs.lemmas.Bool.Decides.{eqb_tells}
use Rattle.std.proofs.lemmas.List.{get_or-map, length-map, map-append}
use Rattle.can_frame.specs.declared.identifier.Ident.{Ident}
use Rattle.can_frame.specs.declared.identifier.Kind.{Kind}
use Rattle.can_frame.specs.declared.identifier.Kind.TheVariants.{Message, Anonymous, Request, Response}
use Rattle.can_frame.specs.declared.mark.Mark.{Mark}
use Rattle.can_frame.specs.Cutting.{Piece, frames_of as pieces_of}
use Rattle.can_frame.specs.Identifier.{identifier_number, identifier_of}
use Rattle.can_frame.specs.Kinds.{is_anonymous}
use Rattle.raft_model.specs.Lists.{In}
use Rattle.transfer_rx.specs.declared.accept.AcceptRow.{AcceptRow}
use Rattle.transfer_rx.specs.declared.key.Key.{Key}
use Rattle.transfer_rx.specs.Acceptance.{is_for}
use Rattle.transfer_rx.specs.Marks.{is_whole}
use Rattle.transfer_rx.specs.Reassembly.{Arrival, piece_in}
use Rattle.transfer_tx.specs.Queue.{Queued}
use Rattle.alloc_spec.specs.Transfers.{SentTransfer, ident_of, kind_of, number_of, signature_of}
use Rattle.bus_spec.specs.Cluster.{is_member}
use Rattle.bus_spec.specs.Lawful.{is_forged, is_forged_by}
use Rattle.bus_agreement.specs.Frames.{AreTransfers, CameFrom, IsOnBus, IsPiece}
use Rattle.bus_agreement.specs.LawsBelow.{FrameLaws}
use Rattle.bus_agreement.proofs.Idents.{IsWanted, dest_of, ident_ok, one_what, to_for}
use Rattle.bus_agreement.proofs.Lists.{in_at, is_any, never}
use Rattle.bus_agreement.proofs.Namesakes as namesakes
use Rattle.bus_agreement.proofs.Namesakes.{IsOfNamesake}
use Rattle.bus_agreement.proofs.Pieces.{IsPieceOf, no_piece, piece_id, piece_of, piece_read, theirs, whole_at}

-- ---- where a frame came from

-- the frame is a piece of a transfer that the source of its key made for this server, or for all
pub record IsFrom (made : List SentTransfer) (me : ℕ) (key : Key) (arrival : Arrival) : Type 0 where
  pub whose : SentTransfer
  pub was_made : In whose made
  pub piece : IsPieceOf whose arrival
  pub ident : identifier_of arrival.id ≡ Some (ident_of whose.by whose.offer.what whose.offer.to)
  pub by : whose.by ≡ key.source
  pub kind : kind_of whose.offer.what ≡ key.kind
  pub number : number_of whose.offer.what ≡ key.number
  pub to : whose.offer.to ≡ to_for key.kind me

-- a frame with a member's source is forged, if it is not the member's
pub members_own : (ids : List ℕ) (ident : Ident) → In ident.source ids → is_anonymous ident.kind ≡ false → is_forged ids (Some ident) ≡ true
members_own ids ident there known = by ident.kind known (is_member ids ident.source) (is_any ids ident.source there) where
  or_true : (a b : Bool) → a ≡ true → (a || b) ≡ true
  or_true true b e = refl
  or_true false b e = never e

  by : (kind : Kind) → is_anonymous kind ≡ false → (member : Bool) → is_member ids ident.source ≡ true → is_forged_by ids kind ident ≡ true
  by Message known member e = or_true (is_member ids ident.source) ((ident.number == 390) || (ident.number == 1)) e
  by Anonymous known member e = never (sym known)
  by Request known member e = or_true (is_member ids ident.source) ((ident.number == 30) || (ident.number == 31)) e
  by Response known member e = or_true (is_member ids ident.source) ((ident.number == 30) || (ident.number == 31)) e

-- an Allocation with a source is a member's, or forged
pub forged_allocation : (ids : List ℕ) (ident : Ident) → ident.kind ≡ Message → ident.number ≡ 1 → is_forged ids (Some ident) ≡ true
forged_allocation ids ident kind number = ap (λ (k : Kind). is_forged_by ids k ident) kind ∙ by (is_member ids ident.source) (ident.number == 390) where
  same : (ident.number == 1) ≡ true
  same = elim (eqb_tells ident.number 1) [ inl e ↦ e.0 | inr apart ↦ absurd (apart.1 number) ]

  by : (a b : Bool) → (a || (b || (ident.number == 1))) ≡ true
  by true b = refl
  by false true = refl
  by false false = same

pub some_is : (x y : Ident) → Some x ≡ Some y → x ≡ y
some_is x y e = cc (e)

-- the identifier of a transfer that was made reads back
pub read_back : (laws : FrameLaws) (ids : List ℕ) (low : (n : ℕ) → In n ids → 1 ≤ n) (high : (n : ℕ) → In n ids → n ≤ 125)
    (made : List SentTransfer) (are : AreTransfers ids made) (x : SentTransfer) → In x made
    → identifier_of (identifier_number (ident_of x.by x.offer.what x.offer.to)) ≡ Some (ident_of x.by x.offer.what x.offer.to)
read_back laws ids low high made are x there =
    let n = are.makers x there in
    laws.ident_read (ident_of x.by x.offer.what x.offer.to) (ident_ok x.by x.offer.what x.offer.to (low x.by n) (high x.by n) (are.ranges x there).to)

module _ (laws : FrameLaws) (ids : List ℕ) (low : (n : ℕ) → In n ids → 1 ≤ n) (high : (n : ℕ) → In n ids → n ≤ 125)
    (made : List SentTransfer) (are : AreTransfers ids made) (list : List AcceptRow) (me : ℕ) where
  from_piece : (by : ℕ) (frame : Queued) (piece : IsPiece made by frame) (arrival : Arrival)
      → arrival.id ≡ frame.id → arrival.bytes ≡ frame.bytes → arrival.mark ≡ frame.mark → (ident : Ident) → IsWanted list me arrival.id ident
      → (key : Key) → (1 ≤ me) ⊎ (key.kind ≡ Message) → ident.kind ≡ key.kind → ident.number ≡ key.number → ident.source ≡ key.source
      → IsFrom made me key arrival
  from_piece by frame piece arrival id bytes mark ident wants key served kind number source = record {
    whose = piece.whose;
    was_made = piece.was_made;
    piece = is;
    ident = read;
    by = ap (λ (i : Ident). i.source) own ∙ source;
    kind = ap (λ (i : Ident). i.kind) own ∙ kind;
    number = ap (λ (i : Ident). i.number) own ∙ number;
    to = dest_of me piece.whose.by piece.whose.offer.what piece.whose.offer.to its_kind (are.ranges piece.whose piece.was_made).to
        (ap (λ (i : Ident). is_for me i) own ∙ wants.for_me)
        ∙ ap (λ (k : Kind). to_for k me) (ap (λ (i : Ident). i.kind) own ∙ kind);
  }
    where
      is : IsPieceOf piece.whose arrival
      is = piece_of laws made by frame piece arrival id bytes mark

      read : identifier_of arrival.id ≡ Some (ident_of piece.whose.by piece.whose.offer.what piece.whose.offer.to)
      read = ap (λ (n : ℕ). identifier_of n) is.id ∙ read_back laws ids low high made are piece.whose piece.was_made

      own : ident_of piece.whose.by piece.whose.offer.what piece.whose.offer.to ≡ ident
      own = some_is (ident_of piece.whose.by piece.whose.offer.what piece.whose.offer.to) ident (sym read ∙ wants.read)

      its_kind : (1 ≤ me) ⊎ (kind_of piece.whose.offer.what ≡ Message)
      its_kind = elim served [
        | inl low ↦ inl low
        | inr broadcast ↦ inr (ap (λ (i : Ident). i.kind) own ∙ (kind ∙ broadcast))
      ]

  pub from_bus : (frames : List Queued) → ((frame : Queued) → In frame frames → IsOnBus made ids frame) → (arrival : Arrival) → CameFrom frames arrival
      → (ident : Ident) → IsWanted list me arrival.id ident → is_forged ids (Some ident) ≡ true
      → (key : Key) → (1 ≤ me) ⊎ (key.kind ≡ Message) → ident.kind ≡ key.kind → ident.number ≡ key.number → ident.source ≡ key.source → IsFrom made me key arrival
  from_bus frames bus arrival came ident wants forged key served kind number source = by (bus came.frame came.there) where
    by : IsOnBus made ids came.frame → IsFrom made me key arrival
    by (inl (n, there, piece)) = from_piece n came.frame piece arrival came.id came.bytes came.mark ident wants key served kind number source
    by (inr foreign) = never (sym foreign ∙ (ap (λ (o : Option Ident). is_forged ids o) (ap (λ (k : ℕ). identifier_of k) (sym came.id) ∙ wants.read) ∙ forged))

-- ---- frames that are whole

last_at : {A : Type 0} (front : List A) (last d : A) → slice_index_or (front ++ last ∷ []) (length front) d ≡ last
last_at [] last d = refl
last_at (x ∷ front) last d = last_at front last d

module _ (laws : FrameLaws) (ids : List ℕ) (made : List SentTransfer) (are : AreTransfers ids made) (me : ℕ) (key : Key) (front : List Arrival) (last : Arrival)
    (each : (arrival : Arrival) → In arrival (front ++ last ∷ []) → IsFrom made me key arrival) (final : IsFrom made me key last)
    (whole : is_whole (map (λ (a : Arrival). a.mark) front ++ last.mark ∷ []) ≡ true)
    (signature id : ℕ) (payload : List ℕ) (cutting : map piece_in front ++ piece_in last ∷ [] ≡ pieces_of signature id payload) where
  abbrev all : List Arrival
  all = front ++ last ∷ []

  abbrev get : ℕ → Arrival
  get i = slice_index_or all i last

  marks_are : map (λ (a : Arrival). a.mark) all ≡ map (λ (a : Arrival). a.mark) front ++ last.mark ∷ []
  marks_are = map-append (λ (a : Arrival). a.mark) front (last ∷ [])

  pieces_are : map piece_in all ≡ pieces_of signature id payload
  pieces_are = map-append piece_in front (last ∷ []) ∙ cutting

  count : length all ≡ length front + 1
  count = length-append front (last ∷ [])

  mark_at : (i : ℕ) → i < length all → ((get i).mark.step ≡ (get 0).mark.step) × ((get i).mark.place ≡ i)
  mark_at i h =
      let filled : 0 < length all = omega (arith, count) in
      let at_i : slice_index_or (map (λ (a : Arrival). a.mark) all) i last.mark ≡ (get i).mark = get_or-map (λ (a : Arrival). a.mark) all i last last.mark h in
      let at_0 : slice_index_or (map (λ (a : Arrival). a.mark) all) 0 last.mark ≡ (get 0).mark = get_or-map (λ (a : Arrival). a.mark) all 0 last last.mark filled in
      let inside : i < length (map (λ (a : Arrival). a.mark) all) = omega (arith, h, length-map all (λ (a : Arrival). a.mark)) in
      let r = whole_at (map (λ (a : Arrival). a.mark) all) (get 0).mark i last.mark (ap is_whole marks_are ∙ whole) at_0 inside in
      (ap (λ (m : Mark). m.step) (sym at_i) ∙ r.0, ap (λ (m : Mark). m.place) (sym at_i) ∙ r.1)

  from : (i : ℕ) → i < length all → IsFrom made me key (get i)
  from i h = each (get i) (in_at all i last h)

  last_is : get (length front) ≡ last
  last_is = last_at front last last

  last_step : last.mark.step ≡ (get 0).mark.step
  last_step = ap (λ (a : Arrival). a.mark.step) (sym last_is) ∙ (mark_at (length front) (omega (arith, count))).0

  -- a piece that came is one of its transfer
  piece_is : (arrival : Arrival) (is : IsFrom made me key arrival) → piece_in arrival ≡ slice_index_or (theirs is.whose) arrival.mark.place no_piece
  piece_is arrival is = piece_read laws is.whose arrival is.piece (are.ranges is.whose is.was_made).id

  piece_at : (i : ℕ) → i < length all → slice_index_or (pieces_of signature id payload) i no_piece ≡ piece_in (get i)
  piece_at i h = ap (λ (l : List Piece). slice_index_or l i no_piece) (sym pieces_are) ∙ get_or-map piece_in all i last no_piece h

  same_length : length all ≡ length (pieces_of signature id payload)
  same_length = sym (length-map all piece_in) ∙ ap length pieces_are

  pub final_id : final.whose.offer.id ≡ id
  final_id =
      let h : length front < length all = omega (arith, count) in
      let x : SentTransfer = final.whose in
      sym (piece_id (signature_of x.offer.what) x.offer.id x.offer.payload last.mark.place final.piece.place)
      ∙ (ap (λ (p : Piece). p.tail.id) (sym (piece_is last final))
      ∙ (ap (λ (a : Arrival). (piece_in a).tail.id) (sym last_is)
      ∙ (ap (λ (p : Piece). p.tail.id) (sym (piece_at (length front) h)) ∙ piece_id signature id payload (length front) (omega (arith, h, same_length)))))

  namesake : (i : ℕ) → i < length all → IsOfNamesake made final.whose i (slice_index_or (pieces_of signature id payload) i no_piece)
  namesake i h = let f = from i h in let at = mark_at i h in record {
    whose = f.whose;
    was_made = f.was_made;
    step = sym f.piece.step ∙ (at.0 ∙ (sym last_step ∙ final.piece.step));
    what = one_what f.whose.offer.what final.whose.offer.what key.kind key.number f.kind final.kind f.number final.number;
    to = f.to ∙ sym final.to;
    inside = subst (λ (k : ℕ). k < length (theirs f.whose)) at.1 f.piece.place;
    same = piece_at i h ∙ (piece_is (get i) f ∙ ap (λ (k : ℕ). slice_index_or (theirs f.whose) k no_piece) at.1);
  }

  pub payload_is : payload ≡ final.whose.offer.payload
  payload_is = namesakes.payload_is laws ids made are final.whose final.was_made signature id payload final_id
      (λ i h. namesake i (omega (arith, h, same_length)))
