-- The earlier frames of a transfer.
use Rattle.std.proofs.Common.{◌≡◌, ◌≤◌, ◌+◌, ◌-◌, ◌*◌, ◌/◌, ◌%◌, ℕ, zero, suc, Bool, true, false, List, [], ◌∷◌, ◌++◌, length, take, drop, None, refl, sym, ◌∙◌, ap, subst, arith, nat_eq, nat_lt, length-drop, length-take}
use Rattle.std.proofs.lemmas.Bool.{eq-eqb, le-ltb}
use Rattle.can_frame.specs.declared.tail.Tail.{Tail}
use Rattle.can_frame.specs.Cutting.{Piece, bytes_cut, cut, frames_of, joined, tail_at}
use Rattle.transfer_rx.specs.Parts.{IsPart}
use Rattle.transfer_rx.specs.Sessions.{Session}
use Rattle.transfer_rx.specs.Outcome.{Grows, fits_no_part, lacks_blocks, out_of_turn, outcome}
use Rattle.transfer_rx.proofs.InTurn.{goes_on, part_length}
use Rattle.transfer_rx.proofs.Lengths.{part_seven, total}
use Rattle.transfer_rx.proofs.Pointwise.{own_bool}

-- frames in two parts: those before the last, and the last
pub record Parts (id place : ℕ) (pieces : List Piece) : Type 0 where
  pub part : List Piece
  pub last : Piece
  pub all : pieces ≡ part ++ last ∷ []
  pub goes : IsPart id place part
  pub ends : last.tail ≡ tail_at id (place + length part) true

first_seven : (bytes : List ℕ) → 7 ≤ length bytes → length (take 7 bytes) ≡ 7
first_seven bytes h = length-take 7 bytes ∙ omega arith

cut_parts : (id place more : ℕ) (bytes : List ℕ) → 7 * more ≤ length bytes → Parts id place (cut id place more bytes)
cut_parts id place zero bytes h =
    let e : place ≡ place + 0 = omega arith in
    record { part = []; last = record { bytes = bytes; tail = tail_at id place true }; all = refl; goes = tt; ends = ap (λ p. tail_at id p true) e }
cut_parts id place (suc more) bytes h =
    let d : 7 * more ≤ length (drop 7 bytes) = omega (arith, length-drop 7 bytes) in
    let r : Parts id (suc place) (cut id (suc place) more (drop 7 bytes)) = cut_parts id (suc place) more (drop 7 bytes) d in
    let e : suc place + length r.part ≡ place + suc (length r.part) = omega arith in
    record {
      part = record { bytes = take 7 bytes; tail = tail_at id place false } ∷ r.part;
      last = r.last;
      all = ap (λ l. (record { bytes = take 7 bytes; tail = tail_at id place false }) ∷ l) r.all;
      goes = (first_seven bytes (omega arith), refl, r.goes);
      ends = r.ends ∙ ap (λ p. tail_at id p true) e;
    }

pub frame_parts : (signature id : ℕ) (payload : List ℕ) → Parts id 0 (frames_of signature id payload)
unfolding frames_of
frame_parts signature id payload = cut_parts id 0 ((length (bytes_cut signature payload) - 1) / 7) (bytes_cut signature payload) (omega arith)

pub in_turn : (piece : Piece) (session : Session) (end : Bool) → piece.tail ≡ tail_at session.expected (length session.taken) end →
    out_of_turn piece.tail session ≡ None
in_turn piece session end e =
    let id : nat_eq session.expected session.expected ≡ true = eq-eqb _ _ refl in
    let known : out_of_turn (tail_at session.expected (length session.taken) end) session ≡ None =
    rw (id, own_bool (nat_eq (length session.taken) 0), own_bool (nat_eq (length session.taken % 2) 1)) refl in
    subst (λ tail. out_of_turn tail session ≡ None) (sym e) known

pub last_of : (id place : ℕ) (taken : List Piece) (piece : Piece) → IsPart id place (taken ++ piece ∷ []) →
    IsPart id place taken × (length piece.bytes ≡ 7) × (piece.tail ≡ tail_at id (place + length taken) false)
last_of id place [] piece p =
    let e : place ≡ place + 0 = omega arith in (tt, p.0, p.1 ∙ ap (λ n. tail_at id n false) e)
last_of id place (first ∷ taken) piece p =
    let r = last_of id (suc place) taken piece p.2 in
    let e : suc place + length taken ≡ place + suc (length taken) = omega arith in
    ((p.0, p.1, r.0), r.1, r.2 ∙ ap (λ n. tail_at id n false) e)

pub grows : (blocks signature : ℕ) (piece : Piece) (taken : List Piece) (rest : List Session) →
    IsPart piece.tail.id 0 (taken ++ piece ∷ []) → length (joined (taken ++ piece ∷ [])) ≤ 378 →
    lacks_blocks blocks piece taken rest ≡ false → outcome blocks signature piece taken rest ≡ Grows
grows blocks signature piece taken rest p size l =
    let split = last_of piece.tail.id 0 taken piece p in
    let seven : length piece.bytes ≡ 7 = split.1 in
    let end : piece.tail.end ≡ false = ap (λ (t : Tail). t.end) split.2 in
    let t : length (joined (taken ++ piece ∷ [])) ≡ 7 * length taken + length piece.bytes =
    total piece.tail.id 0 taken piece split.0 in
    let within : nat_lt 378 (7 * length taken + length piece.bytes) ≡ false = le-ltb _ _ (omega arith) in
    let fits : false ≡ fits_no_part (taken ++ piece ∷ []) =
    sym within ∙ part_seven piece.tail.id taken piece split.0 (length piece.bytes) (length taken) refl refl seven in
    sym (goes_on blocks signature piece taken rest
    (part_length blocks signature piece taken rest false end fits) (sym l) end)
