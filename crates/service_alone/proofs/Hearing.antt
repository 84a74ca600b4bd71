-- A device that is sent the frames of one answer, in order and at one moment, takes the whole answer.
use Rattle.std.proofs.Common.{◌≡◌, ℕ, zero, suc, ◌+◌, ◌<◌, ◌≤◌, true, false, List, [], ◌∷◌, ◌++◌, length, drop, map, refl, sym, ◌∙◌, ap, subst, arith, inl, inr, Some}
use Rattle.std.specs.Prelude.{◌-◌, AllPairs, Ok, slice_index_or}
use Rattle.std.proofs.lemmas.Bool.Decides.{leb_tells}
use Rattle.std.proofs.lemmas.List.{map-append}
use Rattle.can_frame.specs.declared.identifier.Ident.{Ident}
use Rattle.can_frame.specs.declared.tail.Tail.{Tail}
use Rattle.can_frame.specs.declared.step.What.TheVariants.{Alloc}
use Rattle.can_frame.specs.Cutting.{Piece, bytes_cut, cut_length, frame_bytes, frames_of, joined, piece_from, tail_at}
use Rattle.can_frame.specs.DataTypes.{allocation}
use Rattle.can_frame.specs.Identifier.{IsIdentifier, identifier_number, identifier_of}
use Rattle.transfer_rx.specs.declared.accept.Wanted.{Wanted}
use Rattle.transfer_rx.specs.declared.key.Key.{Key}
use Rattle.transfer_rx.specs.Acceptance.{wanted}
use Rattle.transfer_rx.specs.Keys.{key_of}
use Rattle.transfer_rx.specs.Marks.{is_run, is_whole}
use Rattle.transfer_rx.specs.Parts.{IsPart}
use Rattle.transfer_rx.specs.Reassembly.{Arrival, Gives, Setting, answer, piece_in}
use Rattle.transfer_rx.specs.Run.{ComesWhole, is_of, of_key, run}
use Rattle.transfer_rx.specs.Sessions.{Session}
use Rattle.transfer_rx.proofs.Completeness.{is_own}
use Rattle.transfer_rx.proofs.Earlier.{Parts, frame_parts}
use Rattle.allocatee.specs.Accepted.{rows, setting}
use Rattle.alloc_spec.specs.Transfers.{ident_of}
use Rattle.bus_agreement.proofs.Idents.{ident_ok}
use Rattle.service_steps.proofs.FollowUps.{same_number}
use Rattle.service_alone.proofs.Receiving.{AreOfKey, Awaits, has_blocks}

-- what is known of frames and cuttings, as the laws of `can_frame` and `transfer_rx` say it
pub record HearingLaws : Type 0 where
  pub ident_read : (ident : Ident) → IsIdentifier ident → identifier_of (identifier_number ident) ≡ Some ident
  pub piece_read : (piece : Piece) → piece.tail.id < 32 → piece_from (frame_bytes piece) ≡ piece
  pub cut : (signature : ℕ) (payload : List ℕ) → length (bytes_cut signature payload) ≡ cut_length (length payload)
  pub carried : (signature id : ℕ) (payload : List ℕ) → joined (frames_of signature id payload) ≡ bytes_cut signature payload
  pub whole : (setting : Setting) (sessions : List Session) (w : Wanted) (payload : List ℕ) (arrivals before : List Arrival) (first last : Arrival)
      → ComesWhole setting sessions w payload arrivals before first last
      → answer setting (run setting sessions before) last ≡ Gives (record {
        ident = w.ident;
        id = (piece_in last).tail.id;
        payload = payload;
        mark = last.mark;
        whole = is_whole (map (λ (arrival : Arrival). arrival.mark) (of_key setting (key_of w.ident) arrivals));
      })

cut_few : (count : ℕ) → count ≤ 100 → cut_length count ≤ 102
cut_few count few = elim (leb_tells count 7) [ inl z ↦ rw (z.0) (omega (arith, few)) | inr z ↦ rw (z.0) (omega (arith, few)) ]

module _ (laws : HearingLaws) (n : ℕ) (low : 1 ≤ n) (high : n ≤ 125) where
  abbrev pub its_ident : Ident
  its_ident = ident_of n Alloc 0

  abbrev pub its_key : Key
  its_key = key_of its_ident

  abbrev wanted_one : Wanted
  wanted_one = record { ident = its_ident; signature = allocation.signature }

  read_it : identifier_of (identifier_number its_ident) ≡ Some its_ident
  read_it = laws.ident_read its_ident (ident_ok n Alloc 0 low high refl)

  wants : wanted setting.rows setting.me (identifier_number its_ident) ≡ Ok wanted_one
  unfolding wanted rows
  wants = rw (read_it) refl

  module _ (number moment : ℕ) where
    abbrev pub arrival_of : ℕ → Piece → Arrival
    arrival_of place piece = record {
      id = identifier_number its_ident;
      bytes = frame_bytes piece;
      mark = record { step = number; re = 0; place = place };
      moment = moment;
    }

    abbrev pub arrivals_from : ℕ → List Piece → List Arrival
    arrivals_from place [] = []
    arrivals_from place (piece ∷ pieces) = arrival_of place piece ∷ arrivals_from (suc place) pieces

    pub own : (place : ℕ) (piece : Piece) → is_of setting its_key (arrival_of place piece) ≡ true
    own place piece = is_own setting wanted_one (arrival_of place piece) wants refl

    all_own : (place : ℕ) (pieces : List Piece) → of_key setting its_key (arrivals_from place pieces) ≡ arrivals_from place pieces
    all_own place [] = refl
    all_own place (piece ∷ pieces) = rw (own place piece) (rw (all_own (suc place) pieces) refl)

    whole_marks : (place : ℕ) (pieces : List Piece)
        → is_run number place (map (λ (arrival : Arrival). arrival.mark) (arrivals_from place pieces)) ≡ true
    whole_marks place [] = refl
    whole_marks place (piece ∷ pieces) = rw (same_number number) (rw (same_number place) (whole_marks (suc place) pieces))

    front_own : (place : ℕ) (pieces : List Piece) (front rest : List Arrival) → arrivals_from place pieces ≡ front ++ rest
        → AreOfKey setting its_key front
    front_own place pieces [] rest e = tt
    front_own place [] (x ∷ front) rest e = absurd (omega (arith, ap length e))
    front_own place (piece ∷ pieces) (x ∷ front) rest e = (
      subst (λ (arrival : Arrival). is_of setting its_key arrival ≡ true) (ap (λ (l : List Arrival). slice_index_or l 0 x) e) (own place piece),
      front_own (suc place) pieces front rest (ap (λ (l : List Arrival). drop 1 l) e),
    )

    all_whole : (pieces : List Piece) → is_whole (map (λ (arrival : Arrival). arrival.mark) (arrivals_from 0 pieces)) ≡ true
    all_whole [] = refl
    all_whole (piece ∷ pieces) = whole_marks 0 (piece ∷ pieces)

    split : (place : ℕ) (part : List Piece) (last : Piece) → arrivals_from place (part ++ last ∷ [])
        ≡ arrivals_from place part ++ arrivals_from (place + length part) (last ∷ [])
    split place [] last = let e : place ≡ place + 0 = omega arith in ap (λ (p : ℕ). arrivals_from p (last ∷ [])) e
    split place (piece ∷ part) last =
        let e : suc place + length part ≡ place + suc (length part) = omega arith in
        ap (λ (l : List Arrival). arrival_of place piece ∷ l)
        (split (suc place) part last ∙ ap (λ (p : ℕ). arrivals_from (suc place) part ++ arrivals_from p (last ∷ [])) e)

    at_moment : (place : ℕ) (pieces : List Piece) (i : ℕ) (d : Arrival) → i < length (arrivals_from place pieces)
        → (slice_index_or (arrivals_from place pieces) i d).moment ≡ moment
    at_moment place [] i d h = absurd (omega (arith, h))
    at_moment place (piece ∷ pieces) zero d h = refl
    at_moment place (piece ∷ pieces) (suc i) d h = at_moment (suc place) pieces i d (omega (arith, h))

    module _ (id : ℕ) (small : id < 32) where
      part_read : (place : ℕ) (part : List Piece) → IsPart id place part → map piece_in (arrivals_from place part) ≡ part
      part_read place [] is = refl
      part_read place (piece ∷ part) is = λ i.
          laws.piece_read piece (subst (λ (k : ℕ). k < 32) (sym (ap (λ (t : Tail). t.id) is.1)) small) i ∷ part_read (suc place) part is.2 i

      -- no frame before the last ends the transfer
      pub open_part : (place : ℕ) (piece : Piece) → piece.tail ≡ tail_at id place false → (piece_in (arrival_of place piece)).tail.end ≡ false
      open_part place piece is = ap (λ (p : Piece). p.tail.end) (laws.piece_read piece (subst (λ (k : ℕ). k < 32) (sym (ap (λ (t : Tail). t.id) is)) small))
          ∙ ap (λ (t : Tail). t.end) is

      module _ (payload : List ℕ) (short : length payload ≤ 100) where
        abbrev pub pieces : List Piece
        pieces = frames_of allocation.signature id payload

        pub parts : Parts id 0 pieces
        parts = frame_parts allocation.signature id payload

        abbrev pub part : List Piece
        part = parts.part

        abbrev pub last : Piece
        last = parts.last

        abbrev pub last_arrival : Arrival
        last_arrival = arrival_of (0 + length part) last

        all : arrivals_from 0 pieces ≡ arrivals_from 0 part ++ last_arrival ∷ []
        all = ap (λ (l : List Piece). arrivals_from 0 l) parts.all ∙ split 0 part last

        last_id : last.tail.id ≡ id
        last_id = ap (λ (t : Tail). t.id) parts.ends

        last_read : piece_in last_arrival ≡ last
        last_read = laws.piece_read last (subst (λ (k : ℕ). k < 32) (sym last_id) small)

        pub last_arrival_id : (piece_in last_arrival).tail.id ≡ id
        last_arrival_id = ap (λ (p : Piece). p.tail.id) last_read ∙ last_id

        all_read : map piece_in (arrivals_from 0 pieces) ≡ pieces
        all_read = ap (λ (l : List Arrival). map piece_in l) all
            ∙ (map-append piece_in (arrivals_from 0 part) (last_arrival ∷ [])
            ∙ ((λ i. part_read 0 part parts.goes i ++ last_read i ∷ []) ∙ sym parts.all))

        in_time : AllPairs (λ (earlier later : Arrival). later.moment - earlier.moment ≤ 2000) (arrivals_from 0 pieces)
        in_time = λ i j d before within.
            let a = at_moment 0 pieces i d (omega (arith, before, within)) in
            let b = at_moment 0 pieces j d within in omega (arith, a, b)

        total : length (joined pieces) ≤ 102
        total = let e = ap length (laws.carried allocation.signature id payload) in
            let f = laws.cut allocation.signature payload in
            let g : cut_length (length payload) ≤ 102 = cut_few (length payload) short in
            omega (arith, e, f, g)

        module _ (sessions : List Session) (awaits : Awaits setting its_key moment id sessions) where
          begins_with : (ps : List Piece) → part ≡ ps → (first : Arrival) × (rest : List Arrival) × (arrivals_from 0 pieces ≡ first ∷ rest)
              × (is_of setting its_key first ≡ true) × (first.moment ≡ moment) × ((piece_in first).tail.id ≡ id)
          begins_with [] e = (
            last_arrival,
            [],
            all ∙ ap (λ (l : List Piece). arrivals_from 0 l ++ last_arrival ∷ []) e,
            own (0 + length part) last,
            refl,
            last_arrival_id,
          )
          begins_with (p ∷ ps) e = let goes = subst (λ (l : List Piece). IsPart id 0 l) e parts.goes in (
            arrival_of 0 p,
            arrivals_from 1 ps ++ last_arrival ∷ [],
            all ∙ ap (λ (l : List Piece). arrivals_from 0 l ++ last_arrival ∷ []) e,
            own 0 p,
            refl,
            ap (λ (q : Piece). q.tail.id) (laws.piece_read p (subst (λ (k : ℕ). k < 32) (sym (ap (λ (t : Tail). t.id) goes.1)) small))
                ∙ ap (λ (t : Tail). t.id) goes.1,
          )

          comes_whole : ComesWhole setting sessions wanted_one payload (arrivals_from 0 pieces) (arrivals_from 0 part) (begins_with part refl).0 last_arrival
          comes_whole = record {
            accepted = wants;
            of_session = refl;
            begins = ((begins_with part refl).1, (begins_with part refl).2, (begins_with part refl).3);
            ends = all;
            cutting = record {
              size = omega (arith, short);
              frames = ap (λ (l : List Arrival). map piece_in l) (all_own 0 pieces)
                  ∙ (all_read ∙ ap (λ (k : ℕ). frames_of allocation.signature k payload) (sym last_arrival_id));
            };
            in_time = in_time;
            may_begin = awaits.begins (begins_with part refl).0 (begins_with part refl).4 (begins_with part refl).5;
            blocks = λ front back arrival cut is. has_blocks setting its_key sessions front back arrival (omega arith)
                (front_own 0 pieces front (arrival ∷ back) cut) awaits.only
                (let e = ap (λ (l : List Arrival). length (joined (map piece_in l))) cut in
                let f = ap (λ (l : List Piece). length (joined l)) all_read in omega (arith, e, f, total));
          }

          pub hears_whole : answer setting (run setting sessions (arrivals_from 0 part)) last_arrival ≡ Gives (record {
            ident = its_ident;
            id = id;
            payload = payload;
            mark = last_arrival.mark;
            whole = true;
          })
          hears_whole = laws.whole setting sessions wanted_one payload (arrivals_from 0 pieces) (arrivals_from 0 part) (begins_with part refl).0 last_arrival comes_whole
              ∙ (λ i. Gives (record {
                ident = its_ident;
                id = last_arrival_id i;
                payload = payload;
                mark = last_arrival.mark;
                whole = (ap (λ (l : List Arrival). is_whole (map (λ (arrival : Arrival). arrival.mark) l)) (all_own 0 pieces) ∙ all_whole pieces) i;
              }))
