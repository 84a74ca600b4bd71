-- The frames of a transfer: what they carry, and their marks.
use Rattle.std.proofs.Common.{◌≡◌, ℕ, zero, suc, ◌+◌, ◌<◌, ◌≤◌, Bool, true, false, List, [], ◌∷◌, ◌++◌, length, length-append, refl, sym, ◌∙◌, ap, subst, arith, eq-eqb, inl, inr}
use Rattle.std.specs.Prelude.{⊤, ◌-◌, drop, map, slice_index_or}
use Rattle.std.proofs.lemmas.Bool.Decides.{leb_tells}
use Rattle.std.proofs.lemmas.List.{map-append}
use Rattle.std.proofs.lemmas.Grind.{flat_map-append}
use Rattle.can_frame.specs.declared.mark.Mark.{Mark}
use Rattle.can_frame.specs.Cutting.{IsCutting, Piece, bytes_cut, cut, cut_length, frame_bytes, frame_count, frames_before_last, frames_of as pieces_of, joined, piece_from, tail_at}
use Rattle.can_frame.specs.Identifier.{identifier_number}
use Rattle.raft_model.specs.Lists.{In}
use Rattle.transfer_rx.specs.Marks.{is_run, is_whole}
use Rattle.transfer_tx.specs.Queue.{Queued, marked, queued_frames}
use Rattle.alloc_spec.specs.Transfers.{SentTransfer, frames_of, ident_of, signature_of}

-- what is said of frames and cuttings below
pub record CuttingLaws : Type 0 where
  pub piece_read : (piece : Piece) → piece.tail.id < 32 → piece_from (frame_bytes piece) ≡ piece
  pub carried : (signature id : ℕ) (payload : List ℕ) → joined (pieces_of signature id payload) ≡ bytes_cut signature payload
  pub cut : (signature : ℕ) (payload : List ℕ) → length (bytes_cut signature payload) ≡ cut_length (length payload)
  pub count : (signature id : ℕ) (payload : List ℕ) → length (pieces_of signature id payload) ≡ frame_count (length payload)

-- what a frame carries
abbrev pub read : Queued → Piece
read frame = piece_from frame.bytes

abbrev pub mark_of : Queued → Mark
mark_of frame = frame.mark

-- pieces of a transfer with this ID
abbrev HaveId : ℕ → List Piece → Type 0
HaveId id [] = ⊤
HaveId id (piece ∷ pieces) = (piece.tail.id ≡ id) × HaveId id pieces

cut_ids : (id place more : ℕ) (bytes : List ℕ) → HaveId id (cut id place more bytes)
cut_ids id place zero bytes = (refl, tt)
cut_ids id place (suc more) bytes = (refl, cut_ids id (suc place) more (drop 7 bytes))

-- the first of them starts it
abbrev Starts : ℕ → List Piece → Type 0
Starts id [] = ⊥
Starts id (piece ∷ pieces) = (last : Bool) × (piece.tail ≡ tail_at id 0 last)

cut_starts : (id more : ℕ) (bytes : List ℕ) → Starts id (cut id 0 more bytes)
cut_starts id zero bytes = (true, refl)
cut_starts id (suc more) bytes = (false, refl)

module _ (laws : CuttingLaws) (number step re id : ℕ) (small : id < 32) where
  reads_marked : (place : ℕ) (pieces : List Piece) → HaveId id pieces → map read (marked number step re place pieces) ≡ pieces
  reads_marked place [] have = refl
  reads_marked place (piece ∷ pieces) have =
      (λ i. laws.piece_read piece (subst (λ (k : ℕ). k < 32) (sym have.0) small) i ∷ map read (marked number step re (suc place) pieces))
      ∙ ap (λ (l : List Piece). piece ∷ l) (reads_marked (suc place) pieces have.1)

run_marked : (number step re place : ℕ) (pieces : List Piece) → is_run step place (map mark_of (marked number step re place pieces)) ≡ true
run_marked number step re place [] = refl
run_marked number step re place (piece ∷ pieces) = rw (eq-eqb step step refl, eq-eqb place place refl) (run_marked number step re (suc place) pieces)

whole_marked : (number step re : ℕ) (pieces : List Piece) → is_whole (map mark_of (marked number step re 0 pieces)) ≡ true
whole_marked number step re [] = refl
whole_marked number step re (piece ∷ pieces) = run_marked number step re 0 (piece ∷ pieces)

length_marked : (number step re place : ℕ) (pieces : List Piece) → length (marked number step re place pieces) ≡ length pieces
length_marked number step re place [] = refl
length_marked number step re place (piece ∷ pieces) = ap suc (length_marked number step re (suc place) pieces)

id_marked : (number step re place : ℕ) (pieces : List Piece) (frame : Queued) → In frame (marked number step re place pieces) → frame.id ≡ number
id_marked number step re place [] frame i = absurd i
id_marked number step re place (piece ∷ pieces) frame (inl e) = ap (λ (f : Queued). f.id) e
id_marked number step re place (piece ∷ pieces) frame (inr i) = id_marked number step re (suc place) pieces frame i

-- the mark of the last of some frames
pub last_marked : (number step re place : ℕ) (pieces : List Piece) (front : List Queued) (last : Queued) → marked number step re place pieces ≡ front ++ last ∷ []
    → last.mark ≡ record { step = step; re = re; place = place + length front }
last_marked number step re place [] [] last e = absurd (omega (arith, ap length e))
last_marked number step re place [] (f ∷ front) last e = absurd (omega (arith, ap length e))
last_marked number step re place (piece ∷ pieces) [] last e =
    ap (λ (l : List Queued). (slice_index_or l 0 last).mark) (sym e) ∙ (let z : place ≡ place + 0 = omega arith in λ i. record { step = step; re = re; place = z i })
last_marked number step re place (piece ∷ pieces) (f ∷ front) last e =
    last_marked number step re (suc place) pieces front last (ap (λ (l : List Queued). drop 1 l) e)
    ∙ (let z : suc place + length front ≡ place + suc (length front) = omega arith in λ i. record { step = step; re = re; place = z i })

-- ---- of a transfer

abbrev pub pieces_in : SentTransfer → List Piece
pieces_in x = pieces_of (signature_of x.offer.what) x.offer.id x.offer.payload

number_in : SentTransfer → ℕ
number_in x = identifier_number (ident_of x.by x.offer.what x.offer.to)

frames_are : (x : SentTransfer) → frames_of x ≡ marked (identifier_number (ident_of x.by x.offer.what x.offer.to)) x.step x.offer.re 0 (pieces_in x)
unfolding queued_frames
frames_are x = refl

cut_small : (count most : ℕ) → count ≤ most → cut_length count ≤ most + 2
cut_small count most few = elim (leb_tells count 7) [ inl z ↦ rw (z.0) (omega (arith, few)) | inr z ↦ rw (z.0) (omega (arith, few)) ]

ids_in_pieces : (signature id : ℕ) (payload : List ℕ) → HaveId id (pieces_of signature id payload)
unfolding pieces_of
ids_in_pieces signature id payload = cut_ids id 0 (frames_before_last signature payload) (bytes_cut signature payload)

starts_in_pieces : (signature id : ℕ) (payload : List ℕ) → Starts id (pieces_of signature id payload)
unfolding pieces_of
starts_in_pieces signature id payload = cut_starts id (frames_before_last signature payload) (bytes_cut signature payload)

fewer : (xs ys : List Piece) → length (joined xs) ≤ length (joined (xs ++ ys))
fewer xs ys =
    let a = ap length (flat_map-append (λ (piece : Piece). piece.bytes) xs ys) in
    let b = length-append (joined xs) (joined ys) in omega (arith, a, b)

-- each frame of a transfer has its identifier
pub has_its_id : (x : SentTransfer) (frame : Queued) → In frame (frames_of x) → frame.id ≡ identifier_number (ident_of x.by x.offer.what x.offer.to)
has_its_id x frame i = id_marked (identifier_number (ident_of x.by x.offer.what x.offer.to)) x.step x.offer.re 0 (pieces_in x) frame
    (subst (λ (l : List Queued). In frame l) (frames_are x) i)

-- the marks of the frames of a transfer are whole
pub are_whole : (x : SentTransfer) → is_whole (map mark_of (frames_of x)) ≡ true
are_whole x = ap (λ (l : List Queued). is_whole (map mark_of l)) (frames_are x)
    ∙ whole_marked (identifier_number (ident_of x.by x.offer.what x.offer.to)) x.step x.offer.re (pieces_in x)

module _ (laws : CuttingLaws) (x : SentTransfer) (small : x.offer.id < 32) where
  -- the frames of a transfer carry its pieces
  pub carry : map read (frames_of x) ≡ pieces_in x
  carry = ap (map read) (frames_are x)
      ∙ reads_marked laws (identifier_number (ident_of x.by x.offer.what x.offer.to)) x.step x.offer.re x.offer.id small 0 (pieces_in x)
      (ids_in_pieces (signature_of x.offer.what) x.offer.id x.offer.payload)

  -- a transfer has a frame
  pub some_frame : frames_of x ≡ [] → ⊥
  some_frame e = subst (Starts x.offer.id) (sym carry ∙ ap (map read) e) (starts_in_pieces (signature_of x.offer.what) x.offer.id x.offer.payload)

  -- the first starts it
  pub first_starts : (first : Queued) (more : List Queued) → frames_of x ≡ first ∷ more → (last : Bool) × ((read first).tail ≡ tail_at x.offer.id 0 last)
  first_starts first more e =
      subst (Starts x.offer.id) (sym carry ∙ ap (map read) e) (starts_in_pieces (signature_of x.offer.what) x.offer.id x.offer.payload)

  -- each frame of a transfer has its transfer ID
  pub has_tail_id : (front more : List Queued) (frame : Queued) → frames_of x ≡ front ++ frame ∷ more → (read frame).tail.id ≡ x.offer.id
  has_tail_id front more frame e = behind front (subst (HaveId x.offer.id) (sym carry ∙ ap (map read) e)
      (ids_in_pieces (signature_of x.offer.what) x.offer.id x.offer.payload))
    where
      behind : (front : List Queued) → HaveId x.offer.id (map read (front ++ frame ∷ more)) → (read frame).tail.id ≡ x.offer.id
      behind [] have = have.0
      behind (f ∷ front) have = behind front have.1

  -- the first frames of a transfer carry no more than its payload and the two bytes of a CRC
  pub few_carried : (most : ℕ) → length x.offer.payload ≤ most → (front more : List Queued) → frames_of x ≡ front ++ more
      → length (joined (map read front)) ≤ most + 2
  few_carried most short front more e =
      let a = fewer (map read front) (map read more) in
      let b = ap (λ (l : List Piece). length (joined l)) (sym (map-append read front more) ∙ (ap (map read) (sym e) ∙ carry)) in
      let c = ap length (laws.carried (signature_of x.offer.what) x.offer.id x.offer.payload) in
      let d = laws.cut (signature_of x.offer.what) x.offer.payload in
      let g = cut_small (length x.offer.payload) most short in omega (arith, a, b, c, d, g)

  -- the mark of the last
  pub last_mark : (front : List Queued) (last : Queued) → frames_of x ≡ front ++ last ∷ []
      → last.mark ≡ record { step = x.step; re = x.offer.re; place = frame_count (length x.offer.payload) - 1 }
  last_mark front last e =
      last_marked (identifier_number (ident_of x.by x.offer.what x.offer.to)) x.step x.offer.re 0 (pieces_in x) front last (sym (frames_are x) ∙ e)
      ∙ (λ i. record { step = x.step; re = x.offer.re; place = same i })
    where
      same : 0 + length front ≡ frame_count (length x.offer.payload) - 1
      same =
          let a = laws.count (signature_of x.offer.what) x.offer.id x.offer.payload in
          let b = length_marked (identifier_number (ident_of x.by x.offer.what x.offer.to)) x.step x.offer.re 0 (pieces_in x) in
          let c = ap length (sym (frames_are x) ∙ e) in
          let d = length-append front (last ∷ []) in omega (arith, a, b, c, d)

  -- all of them are its cutting
  pub are_cutting : length x.offer.payload ≤ 223 → (front : List Queued) (last : Queued) → frames_of x ≡ front ++ last ∷ []
      → IsCutting (signature_of x.offer.what) (read last).tail.id x.offer.payload (map read front ++ read last ∷ [])
  are_cutting short front last e = record {
    size = omega (arith, short);
    frames = sym (map-append read front (last ∷ [])) ∙ (ap (map read) (sym e) ∙ (carry
        ∙ ap (λ (k : ℕ). pieces_of (signature_of x.offer.what) k x.offer.payload) (sym (has_tail_id front [] last e))));
  }
