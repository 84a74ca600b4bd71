-- The frames of a transfer, one after the other.
use Rattle.std.proofs.Common.{◌≡◌, ℕ, zero, suc, ◌+◌, ◌-◌, ◌/◌, ◌≤◌, ◌<◌, true, false, List, [], ◌∷◌, ◌++◌, length, take, drop, get_or, refl, ap, ◌∙◌, arith, nat_le, nat_eq, length-append, length-drop, append_assoc, add-one, eq-eqb}
use Rattle.std.proofs.lemmas.Bool.{le-leb, lt-leb}
use Rattle.can_frame.specs.Cutting.{Piece, bytes_cut, cut, frame_bytes, frame_count, frames_of, tail_at}
use Rattle.can_frame.specs.Identifier.{identifier_number}
use Rattle.transfer_tx.specs.declared.marked.Marked.{Marked}
use Rattle.transfer_tx.specs.declared.outgoing.Outgoing.{Outgoing}
use Rattle.transfer_tx.specs.Queue.{Queued, marked, queued_frames}
use Rattle.transfer_tx.specs.Run.{of_identifier}
use Rattle.transfer_tx.specs.Views.{queued_of}

pub count_of_short : (n : ℕ) → n ≤ 7 → frame_count n ≡ 1
count_of_short n h = let t : nat_le n 7 ≡ true = le-leb _ _ h in rw t refl

pub count_of_long : (n : ℕ) → 7 < n → frame_count n ≡ (n - 6) / 7 + 2
count_of_long n h = let t : nat_le n 7 ≡ false = lt-leb _ _ h in rw t (omega arith)

length-marked : (id step re place : ℕ) (pieces : List Piece) → length (marked id step re place pieces) ≡ length pieces
length-marked id step re place [] = refl
length-marked id step re place (piece ∷ pieces) = ap suc (length-marked id step re (suc place) pieces)

marked-by_place : (id step re place k : ℕ) (pieces : List Piece) (d : Queued) (e : Piece) → k < length pieces →
    get_or (marked id step re place pieces) k d ≡ record { id = id; bytes = frame_bytes (get_or pieces k e); mark = record { step = step; re = re; place = place + k } }
marked-by_place id step re place k [] d e h = absurd (omega arith)
marked-by_place id step re place zero (piece ∷ pieces) d e h = let p : place + 0 ≡ place = omega arith in rw p refl
marked-by_place id step re place (suc k) (piece ∷ pieces) d e h =
    let p : suc place + k ≡ place + suc k = omega arith in
    marked-by_place id step re (suc place) k pieces d e (omega arith)
    ∙ ap (λ at. record { id = id; bytes = frame_bytes (get_or pieces k e); mark = record { step = step; re = re; place = at } }) p

one_identifier : (id step re place : ℕ) (pieces : List Piece) → of_identifier id (marked id step re place pieces) ≡ marked id step re place pieces
one_identifier id step re place [] = refl
one_identifier id step re place (piece ∷ pieces) =
    let t : nat_eq id id ≡ true = eq-eqb id id refl in
    rw t (ap (λ more. record { id = id; bytes = frame_bytes piece; mark = record { step = step; re = re; place = place } } ∷ more) (one_identifier id step re (suc place) pieces))

pub queued_frames-one_identifier : (what : Outgoing) (step re : ℕ) →
    of_identifier (identifier_number what.ident) (queued_frames what step re) ≡ queued_frames what step re
unfolding queued_frames
queued_frames-one_identifier what step re = one_identifier (identifier_number what.ident) step re 0 _

-- ---- the loop that cuts

fewer : (bytes : List ℕ) → 7 < length bytes → (length bytes - 1) / 7 ≡ suc ((length (drop 7 bytes) - 1) / 7)
fewer bytes h = omega (arith, length-drop 7 bytes)

-- seven bytes more
pub one_more : (id step re tid place : ℕ) (rest piece more : List ℕ) (queue after : List Queued) (x : Marked) →
    7 < length rest → piece ≡ take 7 rest → more ≡ drop 7 rest → after ≡ queue ++ queued_of x ∷ [] →
    queued_of x ≡ record { id = id; bytes = frame_bytes (record { bytes = piece; tail = tail_at tid place false }); mark = record { step = step; re = re; place = place } } →
    after ++ marked id step re (place + 1) (cut tid (place + 1) ((length more - 1) / 7) more)
    ≡ queue ++ marked id step re place (cut tid place ((length rest - 1) / 7) rest)
one_more id step re tid place rest piece more queue after x h front back pushed made =
    let n = fewer rest h in
    rw (pushed, add-one place, n, back, append_assoc queue (queued_of x ∷ []))
    (rw (made, front) refl)

-- what an offer puts at the end
pub offered_frames : (what : Outgoing) (step re id : ℕ) (bytes : List ℕ) (before now : List Queued) →
    id ≡ identifier_number what.ident → bytes ≡ bytes_cut what.signature what.payload.items → before ≡ now →
    before ++ marked id step re 0 (cut what.id 0 ((length bytes - 1) / 7) bytes) ≡ now ++ queued_frames what step re
unfolding queued_frames frames_of
offered_frames what step re id bytes before now number same e = rw (number, same, e) refl

-- ---- how many frames a transfer has, where each cutting has as many as its payload calls for
module _ (counted : (signature id : ℕ) (payload : List ℕ) → length (frames_of signature id payload) ≡ frame_count (length payload)) where
  pub length-queued_frames : (what : Outgoing) (step re : ℕ) → length (queued_frames what step re) ≡ frame_count (length what.payload.items)
  unfolding queued_frames
  length-queued_frames what step re = length-marked _ step re 0 _ ∙ counted what.signature what.id what.payload.items

  pub queued_frames-by_place : (what : Outgoing) (step re k : ℕ) (d : Queued) (e : Piece) → k < frame_count (length what.payload.items) →
      get_or (queued_frames what step re) k d ≡ record {
        id = identifier_number what.ident;
        bytes = frame_bytes (get_or (frames_of what.signature what.id what.payload.items) k e);
        mark = record { step = step; re = re; place = k };
      }
  unfolding queued_frames
  queued_frames-by_place what step re k d e h =
      let n = counted what.signature what.id what.payload.items in
      let p : 0 + k ≡ k = omega arith in
      marked-by_place _ step re 0 k (frames_of what.signature what.id what.payload.items) d e (omega arith)
      ∙ ap (λ at. record { id = identifier_number what.ident; bytes = frame_bytes (get_or (frames_of what.signature what.id what.payload.items) k e); mark = record { step = step; re = re; place = at } }) p

  pub offered_count : (what : Outgoing) (step re : ℕ) (now : List Queued) →
      length (now ++ queued_frames what step re) ≡ length now + frame_count (length what.payload.items)
  offered_count what step re now = length-append now (queued_frames what step re) ∙ ap (λ n. length now + n) (length-queued_frames what step re)
