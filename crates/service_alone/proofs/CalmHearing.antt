-- A device hears the frames of an answer, each at its own moment.
use Rattle.std.proofs.Common.{◌≡◌, ℕ, zero, suc, ◌+◌, ◌<◌, ◌≤◌, true, false, List, [], ◌∷◌, ◌++◌, length, length-append, drop, map, refl, sym, ◌∙◌, ap, subst, arith, eq-eqb, inl, inr, Option, Some}
use Rattle.std.specs.Prelude.{⊤, ◌-◌, MatchOption, Ok, slice_index_or}
use Rattle.std.proofs.lemmas.Bool.{le-leb}
use Rattle.std.proofs.lemmas.Bool.Decides.{leb_tells}
use Rattle.std.proofs.lemmas.List.{map-append}
use Rattle.can_frame.specs.declared.identifier.Ident.{Ident}
use Rattle.can_frame.specs.declared.identifier.Kind.TheVariants.{Message}
use Rattle.can_frame.specs.declared.tail.Tail.{Tail}
use Rattle.can_frame.specs.Cutting.{Piece, cut_length, frames_of, joined, piece_from}
use Rattle.can_frame.specs.DataTypes.{allocation}
use Rattle.can_frame.specs.Identifier.{IsIdentifier, identifier_number, identifier_of}
use Rattle.transfer_rx.specs.declared.accept.Wanted.{Wanted}
use Rattle.transfer_rx.specs.declared.key.Key.{Key}
use Rattle.transfer_rx.specs.Acceptance.{wanted}
use Rattle.transfer_rx.specs.Keys.{key_of}
use Rattle.transfer_rx.specs.Marks.{is_run, is_whole}
use Rattle.transfer_rx.specs.Parts.{IsPart}
use Rattle.transfer_rx.specs.Reassembly.{Arrival, Delivery, Gives, answer, next, piece_in}
use Rattle.transfer_rx.specs.Run.{AwaitsTransfer, ComesWhole, MayBegin, is_of, of_key, run}
use Rattle.transfer_rx.specs.Sessions.{Session, is_recent, next_id, recent_sessions}
use Rattle.transfer_rx.proofs.Completeness.{is_own}
use Rattle.transfer_rx.proofs.Earlier.{Parts, frame_parts}
use Rattle.transfer_rx.proofs.Found.{session_of-filter}
use Rattle.transfer_tx.specs.Queue.{Queued, marked}
use Rattle.allocatee.specs.Accepted.{rows, setting}
use Rattle.service_alone.proofs.Hearing.{HearingLaws}
use Rattle.service_alone.proofs.Sending.{AreOf, marked_of}
use Rattle.service_alone.proofs.Receiving.{AreOfKey, GivesNone, HasOnly, all_of_key, gives_none, has_blocks, keeps, only_run}

-- a frame as it comes at a moment
abbrev pub coming : Queued → ℕ → Arrival
coming frame moment = record { id = frame.id; bytes = frame.bytes; mark = frame.mark; moment = moment }

-- these frames came, each at a moment from one on and to another
abbrev pub Came : (low high : ℕ) → List Queued → List Arrival → Type 0
Came low high [] [] = ⊤
Came low high [] (x ∷ xs) = ⊥
Came low high (frame ∷ frames) [] = ⊥
Came low high (frame ∷ frames) (x ∷ xs) = (x ≡ coming frame x.moment) × (low ≤ x.moment) × (x.moment ≤ high) × Came low high frames xs

-- and one more
pub one_came : (low high : ℕ) (frames : List Queued) (xs : List Arrival) (frame : Queued) (moment : ℕ) → low ≤ moment → moment ≤ high
    → Came low high frames xs → Came low high (frames ++ frame ∷ []) (xs ++ coming frame moment ∷ [])
one_came low high [] [] frame moment l h came = (refl, l, h, tt)
one_came low high [] (x ∷ xs) frame moment l h came = absurd came
one_came low high (f ∷ frames) [] frame moment l h came = absurd came
one_came low high (f ∷ frames) (x ∷ xs) frame moment l h came =
    (came.0, came.1, came.2, one_came low high frames xs frame moment l h came.3)

-- the moments of a receiver that has sessions alone of this key: the next transfer may begin by this moment, with this ID
pub record AwaitsBy (key : Key) (last id : ℕ) (sessions : List Session) : Type 0 where
  pub only : HasOnly key sessions
  pub begins : (first : Arrival) → first.moment ≤ last → (piece_in first).tail.id ≡ id → MayBegin setting sessions key first

-- a receiver without sessions waits for any transfer
pub awaits_any : (key : Key) (last id : ℕ) → AwaitsBy key last id []
awaits_any key last id = record { only = refl; begins = λ first by is. let some : 0 < 8 = omega arith in some }

-- behind a transfer it waits for the next one, while the session is kept
pub awaits_more : (key : Key) (last : ℕ) (sessions : List Session) (arrival : Arrival) (d : Delivery) → is_of setting key arrival ≡ true
    → HasOnly key sessions → answer setting sessions arrival ≡ Gives d → last ≤ arrival.moment + 2000
    → AwaitsBy key last (next_id (piece_in arrival).tail.id) (next setting sessions arrival)
awaits_more key last sessions arrival d is only gives soon =
    let k = keeps setting sessions arrival key is only in
    let g = k.gives d gives in
    record {
      only = k.only;
      begins = λ first by id. subst (λ (found : Option Session). MatchOption found (length (recent_sessions first.moment (next setting sessions arrival)) < setting.sessions)
          (AwaitsTransfer (piece_in first).tail))
          (sym (session_of-filter (is_recent first.moment) key (next setting sessions arrival) g.1 g.2
          (le-leb (first.moment - g.1.moment) 2000 (omega (arith, by, soon, g.6)))))
          (inl (g.3 ∙ sym id, g.4, g.5));
    }

-- the marks of frames that came, and of those that were made together
marks_same : (low high : ℕ) (frames : List Queued) (xs : List Arrival) → Came low high frames xs
    → map (λ (arrival : Arrival). arrival.mark) xs ≡ map (λ (frame : Queued). frame.mark) frames
marks_same low high [] [] came = refl
marks_same low high [] (x ∷ xs) came = absurd came
marks_same low high (frame ∷ frames) [] came = absurd came
marks_same low high (frame ∷ frames) (x ∷ xs) came = λ i. (came.0 i).mark ∷ marks_same low high frames xs came.3 i

run_marks : (id number place : ℕ) (pieces : List Piece) → is_run number place (map (λ (frame : Queued). frame.mark) (marked id number 0 place pieces)) ≡ true
run_marks id number place [] = refl
run_marks id number place (piece ∷ pieces) = rw (eq-eqb number number refl) (rw (eq-eqb place place refl) (run_marks id number (suc place) pieces))

marks_whole : (id number : ℕ) (pieces : List Piece) → is_whole (map (λ (frame : Queued). frame.mark) (marked id number 0 0 pieces)) ≡ true
marks_whole id number [] = refl
marks_whole id number (piece ∷ pieces) = run_marks id number 0 (piece ∷ pieces)

cut_small : (count : ℕ) → count ≤ 100 → cut_length count ≤ 102
cut_small count few = elim (leb_tells count 7) [ inl z ↦ rw (z.0) (omega (arith, few)) | inr z ↦ rw (z.0) (omega (arith, few)) ]

-- pieces of a transfer with this ID
abbrev HaveId : ℕ → List Piece → Type 0
HaveId id [] = ⊤
HaveId id (piece ∷ pieces) = (piece.tail.id ≡ id) × HaveId id pieces

part_ids : (id place : ℕ) (part : List Piece) (last : Piece) → IsPart id place part → last.tail.id ≡ id → HaveId id (part ++ last ∷ [])
part_ids id place [] last is ends = (ends, tt)
part_ids id place (piece ∷ part) last is ends = (ap (λ (t : Tail). t.id) is.1, part_ids id (suc place) part last is.2 ends)

module _ (laws : HearingLaws) (n : ℕ) (low_id : 1 ≤ n) (high_id : n ≤ 125) (its : IsIdentifier (record { priority = 30; kind = Message; number = allocation.number; source = n; dest = 0; discriminator = 0 })) where
  -- the identifier of its Allocations, its number, and the key of their session
  abbrev pub ident_of_it : Ident
  ident_of_it = record { priority = 30; kind = Message; number = allocation.number; source = n; dest = 0; discriminator = 0 }

  abbrev pub number_of_it : ℕ
  number_of_it = identifier_number ident_of_it

  abbrev pub key_of_it : Key
  key_of_it = key_of ident_of_it

  abbrev wanted_of_it : Wanted
  wanted_of_it = record { ident = ident_of_it; signature = allocation.signature }

  read_it : identifier_of number_of_it ≡ Some ident_of_it
  read_it = laws.ident_read ident_of_it its

  wants_it : wanted setting.rows setting.me number_of_it ≡ Ok wanted_of_it
  unfolding wanted rows
  wants_it = rw (read_it) refl

  wants : (id : ℕ) → id ≡ number_of_it → wanted setting.rows setting.me id ≡ Ok wanted_of_it
  wants id e = ap (λ (k : ℕ). wanted setting.rows setting.me k) e ∙ wants_it

  -- such frames come to this session
  pub own_frame : (frame : Queued) (moment : ℕ) → frame.id ≡ number_of_it → is_of setting key_of_it (coming frame moment) ≡ true
  own_frame frame moment e = is_own setting wanted_of_it (coming frame moment) (wants frame.id e) refl

  -- and all that came
  pub own_all : (low high : ℕ) (frames : List Queued) (xs : List Arrival) → AreOf number_of_it frames → Came low high frames xs → AreOfKey setting key_of_it xs
  own_all low high [] [] are came = tt
  own_all low high [] (x ∷ xs) are came = absurd came
  own_all low high (frame ∷ frames) [] are came = absurd came
  own_all low high (frame ∷ frames) (x ∷ xs) are came = (
    subst (λ (y : Arrival). is_of setting key_of_it y ≡ true) (sym came.0) (own_frame frame x.moment are.0),
    own_all low high frames xs are.1 came.3,
  )

  -- ---- what the frames are

  module _ (number id : ℕ) (small : id < 32) where
    read_all : (low high place : ℕ) (pieces : List Piece) (xs : List Arrival) → HaveId id pieces
        → Came low high (marked number_of_it number 0 place pieces) xs → map piece_in xs ≡ pieces
    read_all low high place [] [] have came = refl
    read_all low high place [] (x ∷ xs) have came = absurd came
    read_all low high place (piece ∷ pieces) [] have came = absurd came
    read_all low high place (piece ∷ pieces) (x ∷ xs) have came =
        (λ i. piece_in (came.0 i) ∷ map piece_in xs)
        ∙ ((λ i. laws.piece_read piece (subst (λ (k : ℕ). k < 32) (sym have.0) small) i ∷ map piece_in xs)
        ∙ ap (λ (l : List Piece). piece ∷ l) (read_all low high (suc place) pieces xs have.1 came.3))

    -- one that another comes behind does not end the transfer
    open_in : (place : ℕ) (part : List Piece) (last : Piece) (front : List Queued) (frame other : Queued) (more : List Queued) → IsPart id place part
        → marked number_of_it number 0 place (part ++ last ∷ []) ≡ front ++ frame ∷ (other ∷ more) → (piece_from frame.bytes).tail.end ≡ false
    open_in place [] last [] frame other more is e = absurd (omega (arith, ap length e))
    open_in place [] last (y ∷ front) frame other more is e =
        let l = ap length e in let k = length-append front (frame ∷ (other ∷ more)) in absurd (omega (arith, l, k))
    open_in place (piece ∷ part) last [] frame other more is e =
        ap (λ (l : List Queued). (piece_from (slice_index_or l 0 frame).bytes).tail.end) (sym e)
        ∙ (ap (λ (p : Piece). p.tail.end) (laws.piece_read piece (subst (λ (k : ℕ). k < 32) (sym (ap (λ (t : Tail). t.id) is.1)) small))
        ∙ ap (λ (t : Tail). t.end) is.1)
    open_in place (piece ∷ part) last (y ∷ front) frame other more is e =
        open_in (suc place) part last front frame other more is.2 (ap (λ (l : List Queued). drop 1 l) e)

    within : (low high : ℕ) (frames : List Queued) (xs : List Arrival) (i : ℕ) (d : Arrival) → Came low high frames xs → i < length xs
        → (low ≤ (slice_index_or xs i d).moment) × ((slice_index_or xs i d).moment ≤ high)
    within low high [] [] i d came h = absurd (omega (arith, h))
    within low high [] (x ∷ xs) i d came h = absurd came
    within low high (frame ∷ frames) [] i d came h = absurd came
    within low high (frame ∷ frames) (x ∷ xs) zero d came h = (came.1, came.2)
    within low high (frame ∷ frames) (x ∷ xs) (suc i) d came h = within low high frames xs i d came.3 (omega (arith, h))

    module _ (payload : List ℕ) (short : length payload ≤ 100) where
      -- the pieces of an answer
      abbrev pub pieces_of_it : List Piece
      pieces_of_it = frames_of allocation.signature id payload

      -- the frames of an answer
      abbrev pub frames_of_it : List Queued
      frames_of_it = marked number_of_it number 0 0 pieces_of_it

      -- they have its identifier
      pub all_of_it : AreOf number_of_it frames_of_it
      all_of_it = marked_of number_of_it number 0 0 pieces_of_it

      parts : Parts id 0 pieces_of_it
      parts = frame_parts allocation.signature id payload

      ids : HaveId id pieces_of_it
      ids = subst (HaveId id) (sym parts.all) (part_ids id 0 parts.part parts.last parts.goes (ap (λ (t : Tail). t.id) parts.ends))

      total : length (joined pieces_of_it) ≤ 102
      total = let e = ap length (laws.carried allocation.signature id payload) in
          let f = laws.cut allocation.signature payload in
          let g : cut_length (length payload) ≤ 102 = cut_small (length payload) short in
          omega (arith, e, f, g)

      module _ (low high last : ℕ) (soon : high ≤ low + 2000) (by : high ≤ last) (sessions : List Session) (awaits : AwaitsBy key_of_it last id sessions) where
        -- one that another comes behind gives nothing
        pub gives_nothing : (front : List Queued) (frame other : Queued) (more : List Queued) (heard : List Arrival) (moment : ℕ)
            → frames_of_it ≡ front ++ frame ∷ (other ∷ more) → frame.id ≡ number_of_it → AreOf number_of_it front → Came low high front heard
            → GivesNone (answer setting (run setting sessions heard) (coming frame moment))
        gives_nothing front frame other more heard moment cut own are came =
            gives_none setting (run setting sessions heard) (coming frame moment) key_of_it (own_frame frame moment own)
            (only_run setting key_of_it heard sessions (own_all low high front heard are came) awaits.only)
            (open_in 0 parts.part parts.last front frame other more parts.goes
            (ap (λ (l : List Piece). marked number_of_it number 0 0 l) (sym parts.all) ∙ cut))

        module _ (front : List Queued) (frame : Queued) (heard : List Arrival) (moment : ℕ) (cut : frames_of_it ≡ front ++ frame ∷ [])
            (own : frame.id ≡ number_of_it) (are : AreOf number_of_it front) (came : Came low high front heard) (after_it : low ≤ moment) (before : moment ≤ high) where
          abbrev last_one : Arrival
          last_one = coming frame moment

          abbrev all_came : List Arrival
          all_came = heard ++ last_one ∷ []

          came_all : Came low high frames_of_it all_came
          came_all = subst (λ (l : List Queued). Came low high l all_came) (sym cut) (one_came low high front heard frame moment after_it before came)

          own_came : AreOfKey setting key_of_it all_came
          own_came = own_all low high frames_of_it all_came all_of_it came_all

          reads : map piece_in all_came ≡ pieces_of_it
          reads = read_all low high 0 pieces_of_it all_came ids came_all

          last_reads : (piece_in last_one).tail.id ≡ id
          last_reads = id_last pieces_of_it heard ids (sym (map-append piece_in heard (last_one ∷ [])) ∙ reads)
            where
              id_last : (pieces : List Piece) (xs : List Arrival) → HaveId id pieces → map piece_in xs ++ piece_in last_one ∷ [] ≡ pieces → (piece_in last_one).tail.id ≡ id
              id_last [] xs have e = let l = ap length e in let k = length-append (map piece_in xs) (piece_in last_one ∷ []) in absurd (omega (arith, l, k))
              id_last (piece ∷ pieces) [] have e = ap (λ (l : List Piece). (slice_index_or l 0 piece).tail.id) e ∙ have.0
              id_last (piece ∷ pieces) (x ∷ xs) have e = id_last pieces xs have.1 (ap (λ (l : List Piece). drop 1 l) e)

          first_of : (xs : List Arrival) → heard ≡ xs → (first : Arrival) × (rest : List Arrival) × (all_came ≡ first ∷ rest)
              × (is_of setting key_of_it first ≡ true) × (first.moment ≤ last) × ((piece_in first).tail.id ≡ id)
          first_of [] e = (last_one, [], ap (λ (l : List Arrival). l ++ last_one ∷ []) e, own_frame frame moment own, omega (arith, before, by), last_reads)
          first_of (x ∷ xs) e =
              let same : all_came ≡ x ∷ (xs ++ last_one ∷ []) = ap (λ (l : List Arrival). l ++ last_one ∷ []) e in
              let owns = subst (AreOfKey setting key_of_it) same own_came in
              let pieces : map piece_in (x ∷ (xs ++ last_one ∷ [])) ≡ pieces_of_it = ap (λ (l : List Arrival). map piece_in l) (sym same) ∙ reads in
              let w = within low high frames_of_it (x ∷ (xs ++ last_one ∷ [])) 0 x (subst (λ (l : List Arrival). Came low high frames_of_it l) same came_all) (omega arith) in
              (x, xs ++ last_one ∷ [], same, owns.0, omega (arith, w.1, by), (subst (HaveId id) (sym pieces) ids).0)

          comes_whole : ComesWhole setting sessions wanted_of_it payload all_came heard (first_of heard refl).0 last_one
          comes_whole = record {
            accepted = wants frame.id own;
            of_session = refl;
            begins = ((first_of heard refl).1, (first_of heard refl).2, (first_of heard refl).3);
            ends = refl;
            cutting = record {
              size = omega (arith, short);
              frames = ap (λ (l : List Arrival). map piece_in l) (all_of_key setting key_of_it all_came own_came)
                  ∙ (reads ∙ ap (λ (k : ℕ). frames_of allocation.signature k payload) (sym last_reads));
            };
            in_time = λ i j d first_before inside.
                let a = within low high frames_of_it all_came i d came_all (omega (arith, first_before, inside)) in
                let b = within low high frames_of_it all_came j d came_all inside in omega (arith, a.0, a.1, b.0, b.1, soon);
            may_begin = awaits.begins (first_of heard refl).0 (first_of heard refl).4 (first_of heard refl).5;
            blocks = λ first back arrival e is. has_blocks setting key_of_it sessions first back arrival (omega arith)
                (front_own first (arrival ∷ back) (subst (AreOfKey setting key_of_it) e own_came)) awaits.only
                (let k = ap (λ (l : List Arrival). length (joined (map piece_in l))) e in
                let f = ap (λ (l : List Piece). length (joined l)) reads in omega (arith, k, f, total));
          }
            where
              front_own : (first rest : List Arrival) → AreOfKey setting key_of_it (first ++ rest) → AreOfKey setting key_of_it first
              front_own [] rest is = tt
              front_own (x ∷ first) rest is = (is.0, front_own first rest is.1)

          -- the last one gives the transfer
          abbrev pub whole_one : Delivery
          whole_one = record {
            ident = ident_of_it;
            id = (piece_in last_one).tail.id;
            payload = payload;
            mark = last_one.mark;
            whole = is_whole (map (λ (arrival : Arrival). arrival.mark) (of_key setting key_of_it all_came));
          }

          pub gives_it : answer setting (run setting sessions heard) last_one ≡ Gives whole_one
          gives_it = laws.whole setting sessions wanted_of_it payload all_came heard (first_of heard refl).0 last_one comes_whole

          pub then_awaits : last ≤ moment + 2000 → AwaitsBy key_of_it last (next_id id) (next setting (run setting sessions heard) last_one)
          then_awaits late = subst (λ (k : ℕ). AwaitsBy key_of_it last (next_id k) (next setting (run setting sessions heard) last_one)) last_reads
              (awaits_more key_of_it last (run setting sessions heard) last_one whole_one (own_frame frame moment own)
              (only_run setting key_of_it heard sessions (own_all low high front heard are came) awaits.only) gives_it late)

          -- of whose frames none is missing
          pub whole_is : whole_one.whole ≡ true
          whole_is = ap (λ (l : List Arrival). is_whole (map (λ (arrival : Arrival). arrival.mark) l)) (all_of_key setting key_of_it all_came own_came)
              ∙ (ap is_whole (marks_same low high frames_of_it all_came came_all) ∙ marks_whole number_of_it number pieces_of_it)
