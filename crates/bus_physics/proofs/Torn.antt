-- What is put together of members' frames, and is not whole: frames of two transfers under one transfer ID, or of one.
use Rattle.std.proofs.Common.{◌≡◌, ◌≢◌, ℕ, suc, ◌<◌, ◌≤◌, true, false, List, [], ◌∷◌, ◌++◌, length, refl, sym, ap, subst, ◌∙◌, arith, ◌⊎◌, inl, inr}
use Rattle.std.specs.Prelude.{Some, Result, Ok, Err, map, slice_index_or, ◌||◌, ◌==◌}
use Rattle.std.proofs.lemmas.Bool.Decides.{eqb_tells}
use Rattle.std.proofs.lemmas.List.{get_or-map, length-map, map-append}
use Rattle.can_frame.specs.declared.identifier.Ident.{Ident}
use Rattle.can_frame.specs.declared.identifier.Kind.{Kind}
use Rattle.can_frame.specs.declared.identifier.Kind.TheVariants.{Message, Anonymous, Request, Response}
use Rattle.can_frame.specs.declared.mark.Mark.{Mark}
use Rattle.can_frame.specs.declared.step.Why.{Why}
use Rattle.can_frame.specs.Cutting.{Piece, frames_of as pieces_of}
use Rattle.can_frame.specs.Kinds.{is_anonymous}
use Rattle.raft_model.specs.Lists.{In}
use Rattle.transfer_rx.specs.declared.accept.Wanted.{Wanted}
use Rattle.transfer_rx.specs.declared.key.Key.{Key}
use Rattle.transfer_rx.specs.Acceptance.{wanted}
use Rattle.transfer_rx.specs.Keys.{key_of}
use Rattle.transfer_rx.specs.Marks.{is_whole}
use Rattle.transfer_rx.specs.Origin.{IsIdleOrOf}
use Rattle.transfer_rx.specs.Reassembly.{Arrival, Delivery, Gives, Setting, answer, piece_in}
use Rattle.transfer_rx.specs.Run.{has_session_key, is_of}
use Rattle.transfer_rx.specs.Sessions.{Session, recent_sessions}
use Rattle.transfer_rx.specs.Sound.{Completes, IsAlone, IsDelivered}
use Rattle.transfer_tx.specs.Queue.{Queued}
use Rattle.alloc_spec.specs.Transfers.{SentTransfer, signature_of}
use Rattle.bus_spec.specs.Cluster.{is_member}
use Rattle.bus_spec.specs.Lawful.{is_forged, is_forged_by}
use Rattle.bus_agreement.specs.Frames.{AreTransfers, CameFrom, IsOnBus}
use Rattle.bus_agreement.specs.LawsBelow.{FrameLaws}
use Rattle.bus_agreement.proofs.DeliveredTransfers.{HasTaken, IsOfKey}
use Rattle.bus_agreement.proofs.Idents.{AreSame, keys, one_what, to_for, wanted_is}
use Rattle.bus_agreement.proofs.Lists.{in_append, in_back, never, tell}
use Rattle.bus_agreement.proofs.Pieces.{no_piece, piece_id, piece_read}
use Rattle.bus_agreement.proofs.WholeTransfers.{IsFrom, from_bus}
use Rattle.bus_physics.specs.Reuse.{AreOfOne, AreOfTwo, IsFrameOf, IsTornOf}

-- ---- lists

-- two neighbours have different steps
pub record StepsApart (last : Arrival) (all : List Arrival) : Type 0 where
  pub front : List Arrival
  pub one : Arrival
  pub next : Arrival
  pub back : List Arrival
  pub split : all ≡ front ++ (one ∷ (next ∷ back))
  pub apart : one.mark.step ≢ next.mark.step
  pub with_last : next.mark.step ≡ last.mark.step

further : (x last : Arrival) (all : List Arrival) → StepsApart last all → StepsApart last (x ∷ all)
further x last all is = record {
  front = x ∷ is.front;
  one = is.one;
  next = is.next;
  back = is.back;
  split = ap (λ (l : List Arrival). x ∷ l) is.split;
  apart = is.apart;
  with_last = is.with_last;
}

-- all have the step of the last one, or two neighbours have different ones, the second one that of the last
all_or_apart : (xs : List Arrival) (last : Arrival) → ((b : Arrival) → In b xs → b.mark.step ≡ last.mark.step) ⊎ StepsApart last (xs ++ last ∷ [])
all_or_apart [] last = inl (λ b i. absurd i)
all_or_apart (x ∷ xs) last = by xs (all_or_apart xs last) where
  with_first : (ys : List Arrival) → x.mark.step ≡ last.mark.step → ((b : Arrival) → In b ys → b.mark.step ≡ last.mark.step)
      → (b : Arrival) → In b (x ∷ ys) → b.mark.step ≡ last.mark.step
  with_first ys same each b (inl e) = ap (λ (a : Arrival). a.mark.step) e ∙ same
  with_first ys same each b (inr i) = each b i

  by : (ys : List Arrival) → ((b : Arrival) → In b ys → b.mark.step ≡ last.mark.step) ⊎ StepsApart last (ys ++ last ∷ [])
      → ((b : Arrival) → In b (x ∷ ys) → b.mark.step ≡ last.mark.step) ⊎ StepsApart last (x ∷ (ys ++ last ∷ []))
  by ys (inr is) = inr (further x last (ys ++ last ∷ []) is)
  by [] (inl each) = elim (eqb_tells x.mark.step last.mark.step) [
    | inl same ↦ inl (with_first [] same.1 each)
    | inr differ ↦ inr (record { front = []; one = x; next = last; back = []; split = refl; apart = differ.1; with_last = refl })
  ]
  by (y ∷ ys) (inl each) = elim (eqb_tells x.mark.step last.mark.step) [
    | inl same ↦ inl (with_first (y ∷ ys) same.1 each)
    | inr differ ↦ inr (record {
      front = [];
      one = x;
      next = y;
      back = ys ++ last ∷ [];
      split = refl;
      apart = λ e. differ.1 (e ∙ each y (inl refl));
      with_last = each y (inl refl);
    })
  ]

pub place_of : (xs : List Arrival) (b d : Arrival) → In b xs → (i : ℕ) × (i < length xs) × (slice_index_or xs i d ≡ b)
place_of [] b d i = absurd i
place_of (x ∷ xs) b d (inl e) = (0, omega arith, sym e)
place_of (x ∷ xs) b d (inr j) = let r = place_of xs b d j in (suc r.0, omega (arith, r.1), r.2)

-- ---- what is forged goes by the key

forged_same : (ids : List ℕ) (a b : Ident) → AreSame (key_of a) (key_of b) → is_forged ids (Some a) ≡ is_forged ids (Some b)
forged_same ids a b same = by a.kind b.kind same.kind where
  by : (k l : Kind) → k ≡ l → is_forged_by ids k a ≡ is_forged_by ids l b
  by k l e = ap (λ (x : Kind). is_forged_by ids x a) e ∙ of_kind l where
    of_kind : (l : Kind) → is_forged_by ids l a ≡ is_forged_by ids l b
    of_kind Message = ap (λ (s : ℕ). is_member ids s || ((a.number == 390) || (a.number == 1))) same.source
        ∙ ap (λ (n : ℕ). is_member ids b.source || ((n == 390) || (n == 1))) same.number
    of_kind Anonymous = refl
    of_kind Request = ap (λ (s : ℕ). is_member ids s || ((a.number == 30) || (a.number == 31))) same.source
        ∙ ap (λ (n : ℕ). is_member ids b.source || ((n == 30) || (n == 31))) same.number
    of_kind Response = ap (λ (s : ℕ). is_member ids s || ((a.number == 30) || (a.number == 31))) same.source
        ∙ ap (λ (n : ℕ). is_member ids b.source || ((n == 30) || (n == 31))) same.number

pub forged_has_source : (ids : List ℕ) (ident : Ident) → is_forged ids (Some ident) ≡ true → is_anonymous ident.kind ≡ false
forged_has_source ids ident e = by ident.kind e where
  by : (kind : Kind) → is_forged_by ids kind ident ≡ true → is_anonymous kind ≡ false
  by Message e = refl
  by Anonymous e = never e
  by Request e = refl
  by Response e = refl

-- ---- which key a frame has

module _ (setting : Setting) (key : Key) (b : Arrival) where
  by_wanted : (r : Result Wanted Why) → wanted setting.rows setting.me b.id ≡ r → has_session_key key r ≡ true → IsOfKey setting key b
  by_wanted (Err why) e is = never is
  by_wanted (Ok w) e is = elim (tell (is_anonymous w.ident.kind)) [
    | inl a ↦ never (rw a at is)
    | inr a ↦ record { ident = w.ident; wants = wanted_is setting.rows setting.me b.id w e; same = keys key (key_of w.ident) (rw a at is) }
  ]

  pub of_its_key : is_of setting key b ≡ true → IsOfKey setting key b
  unfolding is_of
  of_its_key is = by_wanted (wanted setting.rows setting.me b.id) refl is

-- ---- a delivery that is not whole

module _ (laws : FrameLaws) (ids : List ℕ) (low : (n : ℕ) → In n ids → 1 ≤ n) (high : (n : ℕ) → In n ids → n ≤ 125)
    (made : List SentTransfer) (are : AreTransfers ids made) (setting : Setting) (frames : List Queued)
    (bus : (frame : Queued) → In frame frames → IsOnBus made ids frame) (sessions : List Session)
    (arrival : Arrival) (came : CameFrom frames arrival) (d : Delivery) (gives : answer setting sessions arrival ≡ Gives d)
    (has : (session : Session) → IsIdleOrOf (key_of d.ident) (recent_sessions arrival.moment sessions) session → HasTaken frames setting (key_of d.ident) session)
    (broken : d.whole ≡ false) (forged : is_forged ids (Some d.ident) ≡ true) (served : (1 ≤ setting.me) ⊎ (d.ident.kind ≡ Message)) where
  abbrev its : IsDelivered setting sessions arrival d
  its = laws.delivered setting sessions arrival d gives

  abbrev key : Key
  key = key_of d.ident

  same_ident : AreSame key (key_of its.w.ident)
  same_ident = record {
    kind = ap (λ (i : Ident). i.kind) its.ident;
    number = ap (λ (i : Ident). i.number) its.ident;
    source = ap (λ (i : Ident). i.source) its.ident;
  }

  origin : (b : Arrival) → CameFrom frames b → IsOfKey setting key b → IsFrom made setting.me key b
  origin b from is = from_bus laws ids low high made are setting.rows setting.me frames bus b from is.ident is.wants
      (sym (forged_same ids d.ident is.ident is.same) ∙ forged) key served (sym is.same.kind) (sym is.same.number) (sym is.same.source)

  own : IsFrom made setting.me key arrival
  own = origin arrival came (record { ident = its.w.ident; wants = wanted_is setting.rows setting.me arrival.id its.w its.accepted; same = same_ident })

  frame_of : (b : Arrival) (f : IsFrom made setting.me key b) → IsFrameOf f.whose b
  frame_of b f = record { place = f.piece.place; ident = f.piece.id; bytes = f.piece.bytes; step = f.piece.step }

  module _ (c : Completes setting sessions its.w arrival d) where
    abbrev pub taken : HasTaken frames setting key c.session
    taken = has c.session
        (subst (λ (i : Ident). IsIdleOrOf (key_of i) (recent_sessions arrival.moment sessions) c.session) (sym its.ident)
        (laws.comes setting.sessions arrival.moment (key_of its.w.ident) (piece_in arrival).tail (recent_sessions arrival.moment sessions) c.session c.there))

    abbrev pub all : List Arrival
    all = taken.arrivals ++ arrival ∷ []

    came_from : (b : Arrival) → In b all → CameFrom frames b
    came_from b i = elim (in_append b taken.arrivals (arrival ∷ []) i) [
      | inl j ↦ (taken.each b j).0
      | inr (inl e) ↦ subst (λ (a : Arrival). CameFrom frames a) (sym e) came
      | inr (inr j) ↦ absurd j
    ]

    each : (b : Arrival) → In b all → IsFrom made setting.me key b
    each b i = elim (in_append b taken.arrivals (arrival ∷ []) i) [
      | inl j ↦ let e = taken.each b j in origin b e.0 e.1
      | inr (inl e) ↦ subst (λ (a : Arrival). IsFrom made setting.me key a) (sym e) own
      | inr (inr j) ↦ absurd j
    ]

    last_in : In arrival all
    last_in = in_back arrival taken.arrivals (arrival ∷ []) (inl refl)

    cutting : map piece_in all ≡ pieces_of its.w.signature d.id d.payload
    cutting = map-append piece_in taken.arrivals (arrival ∷ [])
        ∙ (ap (λ (l : List Piece). l ++ piece_in arrival ∷ []) (sym taken.taken) ∙ c.cutting.frames)

    not_run : is_whole (map (λ (a : Arrival). a.mark) all) ≡ false
    not_run = ap is_whole (map-append (λ (a : Arrival). a.mark) taken.arrivals (arrival ∷ []))
        ∙ (ap (λ (l : List Mark). is_whole (l ++ arrival.mark ∷ [])) (sym taken.marks) ∙ (sym c.whole ∙ broken))

    -- each piece has the transfer ID of the delivery
    piece_tail : (b : Arrival) → In b all → (piece_in b).tail.id ≡ d.id
    piece_tail b i =
        let at = place_of all b arrival i in
        let inside : at.0 < length (pieces_of its.w.signature d.id d.payload) = omega (arith, at.1, length-map all piece_in, ap length cutting) in
        ap (λ (a : Arrival). (piece_in a).tail.id) (sym at.2)
        ∙ (ap (λ (p : Piece). p.tail.id) (sym (get_or-map piece_in all at.0 arrival no_piece at.1))
        ∙ (ap (λ (l : List Piece). (slice_index_or l at.0 no_piece).tail.id) cutting ∙ piece_id its.w.signature d.id d.payload at.0 inside))

    id_is : (b : Arrival) → In b all → (f : IsFrom made setting.me key b) → f.whose.offer.id ≡ d.id
    id_is b i f = sym (piece_id (signature_of f.whose.offer.what) f.whose.offer.id f.whose.offer.payload b.mark.place f.piece.place)
        ∙ (ap (λ (p : Piece). p.tail.id) (sym (piece_read laws f.whose b f.piece (are.ranges f.whose f.was_made).id)) ∙ piece_tail b i)

    same_what : (b : Arrival) (f : IsFrom made setting.me key b) → f.whose.offer.what ≡ own.whose.offer.what
    same_what b f = one_what f.whose.offer.what own.whose.offer.what key.kind key.number f.kind own.kind f.number own.number

    same_id : (b : Arrival) → In b all → (f : IsFrom made setting.me key b) → f.whose.offer.id ≡ own.whose.offer.id
    same_id b i f = id_is b i f ∙ sym (id_is arrival last_in own)

    -- neighbours of different steps
    of_two : StepsApart arrival all → AreOfTwo made d.ident arrival all
    of_two is =
        let i : In is.one all = subst (λ (l : List Arrival). In is.one l) (sym is.split) (in_back is.one is.front (is.one ∷ (is.next ∷ is.back)) (inl refl)) in
        let j : In is.next all = subst (λ (l : List Arrival). In is.next l) (sym is.split) (in_back is.next is.front (is.one ∷ (is.next ∷ is.back)) (inr (inl refl))) in
        let f = each is.one i in
        let g = each is.next j in
        record {
          first = f.whose;
          second = g.whose;
          twice = record {
            first_made = f.was_made;
            second_made = g.was_made;
            by = f.by ∙ sym g.by;
            what = same_what is.one f ∙ sym (same_what is.next g);
            to = f.to ∙ sym g.to;
            id = id_is is.one i f ∙ sym (id_is is.next j g);
            apart = λ e. is.apart (f.piece.step ∙ (e ∙ sym g.piece.step));
          };
          kind = f.kind;
          number = f.number;
          front = is.front;
          one = is.one;
          next = is.next;
          back = is.back;
          split = is.split;
          of_first = frame_of is.one f;
          of_second = frame_of is.next g;
          with_last = sym g.piece.step ∙ is.with_last;
        }

    of_one : ((b : Arrival) → In b taken.arrivals → b.mark.step ≡ arrival.mark.step) → AreOfOne made d.ident all
    of_one steps = record { whose = own.whose; was_made = own.was_made; kind = own.kind; number = own.number; each = theirs_all; not_whole = not_run } where
      step_is : (b : Arrival) → In b all → b.mark.step ≡ arrival.mark.step
      step_is b i = elim (in_append b taken.arrivals (arrival ∷ []) i) [
        | inl j ↦ steps b j
        | inr (inl e) ↦ ap (λ (a : Arrival). a.mark.step) e
        | inr (inr j) ↦ absurd j
      ]

      theirs_all : (b : Arrival) → In b all → IsFrameOf own.whose b
      theirs_all b i =
          let f = each b i in
          subst (λ (x : SentTransfer). IsFrameOf x b)
          (are.once f.whose own.whose f.was_made own.was_made (sym f.piece.step ∙ (step_is b i ∙ own.piece.step)) (same_what b f) (f.to ∙ sym own.to) (same_id b i f))
          (frame_of b f)

    pub how : AreOfTwo made d.ident arrival all ⊎ AreOfOne made d.ident all
    how = elim (all_or_apart taken.arrivals arrival) [
      | inl steps ↦ inr (of_one steps)
      | inr apart ↦ inl (of_two apart)
    ]

    first_to : (is : StepsApart arrival all) → (of_two is).first.offer.to ≡ to_for key.kind setting.me
    unfolding of_two each
    first_to is =
        let i : In is.one all = subst (λ (l : List Arrival). In is.one l) (sym is.split) (in_back is.one is.front (is.one ∷ (is.next ∷ is.back)) (inl refl)) in
        (each is.one i).to

    -- the same, with the destination
    pub how_to : ((two : AreOfTwo made d.ident arrival all) × (two.first.offer.to ≡ to_for key.kind setting.me)) ⊎ AreOfOne made d.ident all
    how_to = elim (all_or_apart taken.arrivals arrival) [
      | inl steps ↦ inr (of_one steps)
      | inr apart ↦ inl (of_two apart, first_to apart)
    ]

    pub completed_torn : IsTornOf made frames arrival d
    completed_torn = record { before = taken.arrivals; came = came_from; signature = its.w.signature; cutting = cutting; how = how }

  -- it completes a session
  pub completes : Completes setting sessions its.w arrival d
  completes = by its.frames where
    by : IsAlone its.w arrival d ⊎ Completes setting sessions its.w arrival d → Completes setting sessions its.w arrival d
    by (inl alone) = never (sym (forged_has_source ids d.ident forged) ∙ (ap (λ (i : Ident). is_anonymous i.kind) its.ident ∙ alone.anonymous))
    by (inr c) = c

  pub torn_of : IsTornOf made frames arrival d
  torn_of = completed_torn completes
