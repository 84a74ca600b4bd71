-- What cutting loses: nothing.
use Rattle.std.proofs.Common.{◌≡◌, ℕ, zero, suc, ◌+◌, ◌-◌, ◌*◌, ◌/◌, ◌≤◌, ◌<◌, true, false, List, ◌++◌, length, sum, min, take, drop, get_or, refl, sym, ap, ◌∙◌, arith, nat_le, append-nil, drop-drop, length-append, length-drop, length-take, zero-add, inl, inr}
use Rattle.std.proofs.lemmas.List.{take-append-drop, length-map}
use Rattle.std.proofs.lemmas.List.Concat.{length-flat_map}
use Rattle.std.proofs.lemmas.List.Sums.{sum-map}
use Rattle.std.proofs.lemmas.Bool.{le-leb, lt-leb}
use Rattle.std.proofs.lemmas.Bool.Decides.{leb_tells}
use Rattle.can_frame.specs.Cutting.{Piece, cut, cut_length, joined, bytes_cut, crc_bytes, frame_count, frame_lengths, frames_before_last, frames_of, payload_of, tail_at}

joined-more : (bytes rest : List ℕ) → rest ≡ drop 7 bytes → take 7 bytes ++ rest ≡ bytes
joined-more bytes rest e = rw e (take-append-drop 7 bytes)

pub joined-cut : (id place more : ℕ) (bytes : List ℕ) → joined (cut id place more bytes) ≡ bytes
joined-cut id place zero bytes = append-nil bytes
joined-cut id place (suc more) bytes = joined-more bytes _ (joined-cut id (suc place) more (drop 7 bytes))

pub length-cut : (id place more : ℕ) (bytes : List ℕ) → length (cut id place more bytes) ≡ suc more
length-cut id place zero bytes = refl
length-cut id place (suc more) bytes = ap suc (length-cut id (suc place) more (drop 7 bytes))

-- the frames carry what is cut
pub joined-frames : (signature id : ℕ) (payload : List ℕ) →
    joined (frames_of signature id payload) ≡ bytes_cut signature payload
unfolding frames_of
joined-frames signature id payload = joined-cut id 0 _ _

pub length-frames : (signature id : ℕ) (payload : List ℕ) →
    length (frames_of signature id payload) ≡ suc ((length (bytes_cut signature payload) - 1) / 7)
unfolding frames_of
length-frames signature id payload = length-cut id 0 _ _

pub short_cut : (signature : ℕ) (payload : List ℕ) → length payload ≤ 7 → bytes_cut signature payload ≡ payload
short_cut signature payload h = let t : nat_le (length payload) 7 ≡ true = le-leb _ _ h in rw t refl

pub long_cut : (signature : ℕ) (payload : List ℕ) → 7 < length payload →
    bytes_cut signature payload ≡ crc_bytes signature payload ++ payload
long_cut signature payload h = let t : nat_le (length payload) 7 ≡ false = lt-leb _ _ h in rw t refl

pub one_piece : (pieces : List Piece) → length pieces ≤ 1 → payload_of pieces ≡ joined pieces
unfolding payload_of
one_piece pieces h = let t : nat_le (length pieces) 1 ≡ true = le-leb _ _ h in rw t refl

pub several_pieces : (pieces : List Piece) → 1 < length pieces → payload_of pieces ≡ drop 2 (joined pieces)
unfolding payload_of
several_pieces pieces h = let t : nat_le (length pieces) 1 ≡ false = lt-leb _ _ h in rw t refl

pub uncut-short : (signature id : ℕ) (payload : List ℕ) → length payload ≤ 7 →
    payload_of (frames_of signature id payload) ≡ payload
uncut-short signature id payload h =
    let e : bytes_cut signature payload ≡ payload = short_cut signature payload h in
    let j : joined (frames_of signature id payload) ≡ payload = joined-frames signature id payload ∙ e in
    let n : length (frames_of signature id payload) ≡ suc ((length payload - 1) / 7) = rw e at (length-frames signature id payload) in
    one_piece _ (omega arith) ∙ j

pub uncut-long : (signature id : ℕ) (payload : List ℕ) → 7 < length payload →
    payload_of (frames_of signature id payload) ≡ payload
uncut-long signature id payload h =
    let e : bytes_cut signature payload ≡ crc_bytes signature payload ++ payload = long_cut signature payload h in
    let j : joined (frames_of signature id payload) ≡ crc_bytes signature payload ++ payload = joined-frames signature id payload ∙ e in
    let n : length (frames_of signature id payload) ≡ suc ((length (crc_bytes signature payload ++ payload) - 1) / 7) = rw e at (length-frames signature id payload) in
    several_pieces _ (omega arith) ∙ ap (drop 2) j

-- cutting can be undone
pub uncut : (signature id : ℕ) (payload : List ℕ) → payload_of (frames_of signature id payload) ≡ payload
uncut signature id payload = elim (leb_tells (length payload) 7) [
  | inl short ↦ uncut-short signature id payload short.1
  | inr long ↦ uncut-long signature id payload long.1
]

-- ---- frames by their places

drop_more : (k : ℕ) (bytes : List ℕ) → drop (7 * k) (drop 7 bytes) ≡ drop (7 * suc k) bytes
drop_more k bytes = let e : 7 * suc k ≡ 7 + 7 * k = omega arith in rw e (drop-drop (7 * k) 7 bytes)

at-cut : (id place more k : ℕ) (bytes : List ℕ) (d : Piece) → k < more →
    get_or (cut id place more bytes) k d ≡ record { bytes = take 7 (drop (7 * k) bytes); tail = tail_at id (place + k) false }
at-cut id place zero k bytes d h = absurd (omega arith)
at-cut id place (suc more) zero bytes d h = let e : place + 0 ≡ place = omega arith in rw e refl
at-cut id place (suc more) (suc k) bytes d h =
    let e : suc place + k ≡ place + suc k = omega arith in
    at-cut id (suc place) more k (drop 7 bytes) d (omega arith)
    ∙ ap (λ bs. record { bytes = take 7 bs; tail = tail_at id (suc place + k) false }) (drop_more k bytes)
    ∙ ap (λ p. record { bytes = take 7 (drop (7 * suc k) bytes); tail = tail_at id p false }) e

last-cut : (id place more : ℕ) (bytes : List ℕ) (d : Piece) →
    get_or (cut id place more bytes) more d ≡ record { bytes = drop (7 * more) bytes; tail = tail_at id (place + more) true }
last-cut id place zero bytes d = let e : place + 0 ≡ place = omega arith in rw e refl
last-cut id place (suc more) bytes d =
    let e : suc place + more ≡ place + suc more = omega arith in
    last-cut id (suc place) more (drop 7 bytes) d
    ∙ ap (λ bs. record { bytes = bs; tail = tail_at id (suc place + more) true }) (drop_more more bytes)
    ∙ ap (λ p. record { bytes = drop (7 * suc more) bytes; tail = tail_at id p true }) e

pub frame-before_last : (signature id k : ℕ) (payload : List ℕ) (d : Piece) → k < frames_before_last signature payload →
    get_or (frames_of signature id payload) k d ≡ record { bytes = take 7 (drop (7 * k) (bytes_cut signature payload)); tail = tail_at id k false }
unfolding frames_of
frame-before_last signature id k payload d h =
    at-cut id 0 (frames_before_last signature payload) k (bytes_cut signature payload) d h
    ∙ ap (λ p. record { bytes = take 7 (drop (7 * k) (bytes_cut signature payload)); tail = tail_at id p false }) (zero-add k)

pub frame-last : (signature id : ℕ) (payload : List ℕ) (d : Piece) →
    get_or (frames_of signature id payload) (frames_before_last signature payload) d
    ≡ record { bytes = drop (7 * frames_before_last signature payload) (bytes_cut signature payload); tail = tail_at id (frames_before_last signature payload) true }
unfolding frames_of
frame-last signature id payload d =
    let k = frames_before_last signature payload in
    last-cut id 0 k (bytes_cut signature payload) d
    ∙ ap (λ p. record { bytes = drop (7 * k) (bytes_cut signature payload); tail = tail_at id p true }) (zero-add k)

-- ---- lengths

pub length-cut_bytes : (signature : ℕ) (payload : List ℕ) → length (bytes_cut signature payload) ≡ cut_length (length payload)
length-cut_bytes signature payload = elim (leb_tells (length payload) 7) [
  | inl short ↦ let t : nat_le (length payload) 7 ≡ true = short.0 in rw t refl
  | inr long ↦ let t : nat_le (length payload) 7 ≡ false = long.0 in rw t (length-append (crc_bytes signature payload) payload)
]

-- one frame, and one for each seven further bytes
pub count-frames : (signature id : ℕ) (payload : List ℕ) → length (frames_of signature id payload) ≡ frame_count (length payload)
count-frames signature id payload = length-frames signature id payload ∙ elim (leb_tells (length payload) 7) [
  | inl short ↦ let t : nat_le (length payload) 7 ≡ true = short.0 in let h : length payload ≤ 7 = short.1 in rw t (omega arith)
  | inr long ↦ let t : nat_le (length payload) 7 ≡ false = long.0 in let h : 7 < length payload = long.1 in rw t (omega arith)
]

pub length-joined : (pieces : List Piece) → length (joined pieces) ≡ sum (frame_lengths pieces)
length-joined pieces = length-flat_map (λ (x : Piece). x.bytes) pieces ∙ sym (sum-map (λ (x : Piece). length x.bytes) pieces)

cut_alike : (id place more : ℕ) (a b : List ℕ) → length a ≡ length b → frame_lengths (cut id place more a) ≡ frame_lengths (cut id place more b)
cut_alike id place zero a b e = rw e refl
cut_alike id place (suc more) a b e =
    let d : length (drop 7 a) ≡ length (drop 7 b) = length-drop 7 a ∙ ap (λ n. n - 7) e ∙ sym (length-drop 7 b) in
    let t : length (take 7 a) ≡ length (take 7 b) = length-take 7 a ∙ ap (min 7) e ∙ sym (length-take 7 b) in
    let r : frame_lengths (cut id (suc place) more (drop 7 a)) ≡ frame_lengths (cut id (suc place) more (drop 7 b)) = cut_alike id (suc place) more (drop 7 a) (drop 7 b) d in
    rw (t, r) refl

pub frames_alike : (signature id : ℕ) (a b : List ℕ) → length a ≡ length b → frame_lengths (frames_of signature id a) ≡ frame_lengths (frames_of signature id b)
unfolding frames_of
frames_alike signature id a b e =
    let l : length (bytes_cut signature a) ≡ length (bytes_cut signature b) =
    length-cut_bytes signature a ∙ ap cut_length e ∙ sym (length-cut_bytes signature b) in
    ap (λ n. frame_lengths (cut id 0 ((n - 1) / 7) (bytes_cut signature a))) l ∙ cut_alike id 0 _ _ _ l

pub payloads_alike : (a b : List Piece) → frame_lengths a ≡ frame_lengths b → length (payload_of a) ≡ length (payload_of b)
payloads_alike a b e =
    let n : length a ≡ length b =
    sym (length-map a (λ (x : Piece). length x.bytes)) ∙ ap length e ∙ length-map b (λ (x : Piece). length x.bytes) in
    let j : length (joined a) ≡ length (joined b) = length-joined a ∙ ap sum e ∙ sym (length-joined b) in
    elim (leb_tells (length a) 1) [
      | inl one ↦ ap length (one_piece a one.1) ∙ j ∙ sym (ap length (one_piece b (omega (arith, one.1))))
      | inr several ↦
          ap length (several_pieces a several.1) ∙ length-drop 2 (joined a) ∙ ap (λ k. k - 2) j
          ∙ sym (ap length (several_pieces b (omega (arith, several.1))) ∙ length-drop 2 (joined b))
    ]
