-- A transfer comes to the session of its key frame by frame, among frames of other keys.
use Rattle.std.proofs.Common.{◌≡◌, ℕ, zero, suc, ◌+◌, ◌<◌, ◌≤◌, Bool, true, false, List, [], ◌∷◌, ◌++◌, length, length-append, append-nil, refl, sym, ◌∙◌, ap, subst, arith, inl, inr, cond}
use Rattle.std.specs.Prelude.{⊤, ◌⊎◌, map, Ok, slice_index_or}
use Rattle.std.proofs.lemmas.List.{map-append}
use Rattle.std.proofs.lemmas.List.Elements.{filter-append}
use Rattle.can_frame.specs.declared.mark.Mark.{Mark}
use Rattle.can_frame.specs.Cutting.{IsCutting, Piece}
use Rattle.can_frame.specs.Kinds.{is_anonymous}
use Rattle.transfer_rx.specs.declared.accept.Wanted.{Wanted}
use Rattle.transfer_rx.specs.declared.key.Key.{Key}
use Rattle.transfer_rx.specs.Acceptance.{wanted}
use Rattle.transfer_rx.specs.Keys.{key_of}
use Rattle.transfer_rx.specs.Marks.{is_whole}
use Rattle.transfer_rx.specs.Outcome.{lacks_blocks}
use Rattle.transfer_rx.specs.Reassembly.{Arrival, Gives, Setting, answer, next, piece_in}
use Rattle.transfer_rx.specs.Run.{ComesWhole, MayBegin, is_of, of_key, run}
use Rattle.transfer_rx.specs.Sessions.{Session, others, recent_sessions}
use Rattle.transfer_rx.proofs.Completeness.{is_own}

-- what comes whole is delivered
abbrev pub DeliversWhole : Type 0
DeliversWhole = (setting : Setting) (sessions : List Session) (w : Wanted) (payload : List ℕ) (arrivals before : List Arrival) (first last : Arrival)
    → ComesWhole setting sessions w payload arrivals before first last
    → answer setting (run setting sessions before) last ≡ Gives (record {
      ident = w.ident;
      id = (piece_in last).tail.id;
      payload = payload;
      mark = last.mark;
      whole = is_whole (map (λ (arrival : Arrival). arrival.mark) (of_key setting (key_of w.ident) arrivals));
    })

-- ---- lists of arrivals

pub run_both : (setting : Setting) (sessions : List Session) (xs ys : List Arrival) → run setting sessions (xs ++ ys) ≡ run setting (run setting sessions xs) ys
run_both setting sessions [] ys = refl
run_both setting sessions (x ∷ xs) ys = run_both setting (next setting sessions x) xs ys

-- where a list with one more at its end is cut
push_split : (xs front back : List Arrival) (x a : Arrival) → xs ++ x ∷ [] ≡ front ++ a ∷ back
    → ((front ≡ xs) × (a ≡ x)) ⊎ ((more : List Arrival) × (xs ≡ front ++ a ∷ more))
push_split [] [] back x a e = inl (refl, ap (λ (l : List Arrival). slice_index_or l 0 x) (sym e))
push_split [] (f ∷ front) back x a e = let l = ap length e in let k = length-append front (a ∷ back) in absurd (omega (arith, l, k))
push_split (y ∷ xs) [] back x a e = inr (xs, λ i. slice_index_or (e i) 0 x ∷ xs)
push_split (y ∷ xs) (f ∷ front) back x a e =
    let heads : y ≡ f = cc in
    let tails : xs ++ x ∷ [] ≡ front ++ a ∷ back = cc in
    elim (push_split xs front back x a tails) [
      | inl z ↦ inl (λ i. sym heads i ∷ z.0 i, z.1)
      | inr z ↦ inr (z.0, λ i. heads i ∷ z.1 i)
    ]

-- each came within this time
abbrev pub AllWithin : (low high : ℕ) → List Arrival → Type 0
AllWithin low high [] = ⊤
AllWithin low high (x ∷ xs) = (low ≤ x.moment) × (x.moment ≤ high) × AllWithin low high xs

one_within : (low high : ℕ) (xs : List Arrival) (x : Arrival) → low ≤ x.moment → x.moment ≤ high → AllWithin low high xs → AllWithin low high (xs ++ x ∷ [])
one_within low high [] x l h all = (l, h, tt)
one_within low high (y ∷ xs) x l h all = (all.0, all.1, one_within low high xs x l h all.2)

within_at : (low high : ℕ) (xs : List Arrival) (i : ℕ) (d : Arrival) → AllWithin low high xs → i < length xs
    → (low ≤ (slice_index_or xs i d).moment) × ((slice_index_or xs i d).moment ≤ high)
within_at low high [] i d all inside = absurd (omega (arith, inside))
within_at low high (x ∷ xs) zero d all inside = (all.0, all.1)
within_at low high (x ∷ xs) (suc i) d all inside = within_at low high xs i d all.2 (omega (arith, inside))

module _ (setting : Setting) (key : Key) where
  abbrev pub pieces_of : List Arrival → List Piece
  pieces_of arrivals = map piece_in (of_key setting key arrivals)

  abbrev pub marks_of : List Arrival → List Mark
  marks_of arrivals = map (λ (arrival : Arrival). arrival.mark) (of_key setting key arrivals)

  own_one : (x : Arrival) → is_of setting key x ≡ true → of_key setting key (x ∷ []) ≡ x ∷ []
  own_one x own = ap (λ (b : Bool). cond b (x ∷ []) []) own

  own_pushed : (xs : List Arrival) (x : Arrival) → is_of setting key x ≡ true → of_key setting key (xs ++ x ∷ []) ≡ of_key setting key xs ++ x ∷ []
  own_pushed xs x own = filter-append (is_of setting key) xs (x ∷ []) ∙ ap (λ (l : List Arrival). of_key setting key xs ++ l) (own_one x own)

  other_pushed : (xs : List Arrival) (x : Arrival) → is_of setting key x ≡ false → of_key setting key (xs ++ x ∷ []) ≡ of_key setting key xs
  other_pushed xs x other = filter-append (is_of setting key) xs (x ∷ [])
      ∙ (ap (λ (b : Bool). of_key setting key xs ++ cond b (x ∷ []) []) other ∙ append-nil (of_key setting key xs))

  -- a frame finds blocks enough in these sessions, behind these pieces of its transfer
  abbrev pub HasBlocks : List Session → List Piece → Arrival → Type 0
  HasBlocks sessions came arrival = lacks_blocks setting.blocks (piece_in arrival) came (others key (recent_sessions arrival.moment sessions)) ≡ false

  -- the session of the key has taken these pieces of a transfer, within this time
  pub record Takes (low high : ℕ) (sessions : List Session) (came : List Piece) (marks : List Mark) : Type 0 where
    pub base : List Session
    pub first : Arrival
    pub more : List Arrival
    pub now_is : sessions ≡ run setting base (first ∷ more)
    pub may : MayBegin setting base key first
    pub own : is_of setting key first ≡ true
    pub pieces : pieces_of (first ∷ more) ≡ came
    pub marked : marks_of (first ∷ more) ≡ marks
    pub within : AllWithin low high (first ∷ more)
    pub blocks : (front back : List Arrival) (arrival : Arrival) → first ∷ more ≡ front ++ arrival ∷ back → is_of setting key arrival ≡ true
        → HasBlocks (run setting base front) (pieces_of front) arrival

  module _ (low high : ℕ) where
    -- the first frame
    pub starts : (sessions : List Session) (first : Arrival) → MayBegin setting sessions key first → is_of setting key first ≡ true
        → low ≤ first.moment → first.moment ≤ high → HasBlocks sessions [] first
        → Takes low high (next setting sessions first) (piece_in first ∷ []) (first.mark ∷ [])
    starts sessions first may own after_it before has = record {
      base = sessions;
      first = first;
      more = [];
      now_is = refl;
      may = may;
      own = own;
      pieces = ap (map piece_in) (own_one first own);
      marked = ap (map (λ (arrival : Arrival). arrival.mark)) (own_one first own);
      within = (after_it, before, tt);
      blocks = λ front back arrival e is. elim (push_split [] front back first arrival e) [
        | inl z ↦ subst (λ (a : Arrival). HasBlocks (run setting sessions front) (pieces_of front) a) (sym z.1)
            (subst (λ (l : List Arrival). HasBlocks (run setting sessions l) (pieces_of l) first) (sym z.0) has)
        | inr z ↦ let l = ap length z.1 in let k = length-append front (arrival ∷ z.0) in absurd (omega (arith, l, k))
      ];
    }

    blocks_more : (sessions : List Session) (came : List Piece) (marks : List Mark) (takes : Takes low high sessions came marks) (x : Arrival)
        → (is_of setting key x ≡ true → HasBlocks sessions came x)
        → (front back : List Arrival) (arrival : Arrival) → takes.first ∷ (takes.more ++ x ∷ []) ≡ front ++ arrival ∷ back → is_of setting key arrival ≡ true
        → HasBlocks (run setting takes.base front) (pieces_of front) arrival
    blocks_more sessions came marks takes x has front back arrival e is = elim (push_split (takes.first ∷ takes.more) front back x arrival e) [
      | inl z ↦
          subst (λ (a : Arrival). HasBlocks (run setting takes.base front) (pieces_of front) a) (sym z.1)
          (subst (λ (l : List Arrival). HasBlocks (run setting takes.base l) (pieces_of l) x) (sym z.0)
          (subst (λ (l : List Piece). HasBlocks (run setting takes.base (takes.first ∷ takes.more)) l x) (sym takes.pieces)
          (subst (λ (l : List Session). HasBlocks l came x) takes.now_is
          (has (subst (λ (a : Arrival). is_of setting key a ≡ true) z.1 is)))))
      | inr z ↦ takes.blocks front z.0 arrival z.1 is
    ]

    -- one more of its frames
    pub goes_on : (sessions : List Session) (came : List Piece) (marks : List Mark) → Takes low high sessions came marks → (x : Arrival)
        → is_of setting key x ≡ true → low ≤ x.moment → x.moment ≤ high → HasBlocks sessions came x
        → Takes low high (next setting sessions x) (came ++ piece_in x ∷ []) (marks ++ x.mark ∷ [])
    goes_on sessions came marks takes x own after_it before has = record {
      base = takes.base;
      first = takes.first;
      more = takes.more ++ x ∷ [];
      now_is = ap (λ (l : List Session). next setting l x) takes.now_is ∙ sym (run_both setting takes.base (takes.first ∷ takes.more) (x ∷ []));
      may = takes.may;
      own = takes.own;
      pieces = ap (map piece_in) (own_pushed (takes.first ∷ takes.more) x own)
          ∙ (map-append piece_in (of_key setting key (takes.first ∷ takes.more)) (x ∷ []) ∙ ap (λ (l : List Piece). l ++ piece_in x ∷ []) takes.pieces);
      marked = ap (map (λ (arrival : Arrival). arrival.mark)) (own_pushed (takes.first ∷ takes.more) x own)
          ∙ (map-append (λ (arrival : Arrival). arrival.mark) (of_key setting key (takes.first ∷ takes.more)) (x ∷ [])
          ∙ ap (λ (l : List Mark). l ++ x.mark ∷ []) takes.marked);
      within = one_within low high (takes.first ∷ takes.more) x after_it before takes.within;
      blocks = blocks_more sessions came marks takes x (λ e. has);
    }

    -- a frame of another key
    pub goes_by : (sessions : List Session) (came : List Piece) (marks : List Mark) → Takes low high sessions came marks → (x : Arrival)
        → is_of setting key x ≡ false → low ≤ x.moment → x.moment ≤ high → Takes low high (next setting sessions x) came marks
    goes_by sessions came marks takes x other after_it before = record {
      base = takes.base;
      first = takes.first;
      more = takes.more ++ x ∷ [];
      now_is = ap (λ (l : List Session). next setting l x) takes.now_is ∙ sym (run_both setting takes.base (takes.first ∷ takes.more) (x ∷ []));
      may = takes.may;
      own = takes.own;
      pieces = ap (map piece_in) (other_pushed (takes.first ∷ takes.more) x other) ∙ takes.pieces;
      marked = ap (map (λ (arrival : Arrival). arrival.mark)) (other_pushed (takes.first ∷ takes.more) x other) ∙ takes.marked;
      within = one_within low high (takes.first ∷ takes.more) x after_it before takes.within;
      blocks = blocks_more sessions came marks takes x (λ e. absurd (cc (e, other)));
    }

    module _ (laws : DeliversWhole) (soon : high ≤ low + 2000) (w : Wanted) (key_is : key_of w.ident ≡ key) (payload : List ℕ) (last : Arrival)
        (accepted : wanted setting.rows setting.me last.id ≡ Ok w) (of_session : is_anonymous w.ident.kind ≡ false)
        (after_it : low ≤ last.moment) (before : last.moment ≤ high) where
      own_last : is_of setting key last ≡ true
      own_last = subst (λ (k : Key). is_of setting k last ≡ true) key_is (is_own setting w last accepted of_session)

      -- the last frame, behind others
      pub ends : (sessions : List Session) (came : List Piece) (marks : List Mark) → Takes low high sessions came marks
          → IsCutting w.signature (piece_in last).tail.id payload (came ++ piece_in last ∷ []) → HasBlocks sessions came last
          → answer setting sessions last ≡ Gives (record {
            ident = w.ident;
            id = (piece_in last).tail.id;
            payload = payload;
            mark = last.mark;
            whole = is_whole (marks ++ last.mark ∷ []);
          })
      unfolding goes_on
      ends sessions came marks takes cutting has =
          ap (λ (l : List Session). answer setting l last) takes.now_is
          ∙ (laws setting takes.base w payload (takes.first ∷ (takes.more ++ last ∷ [])) (takes.first ∷ takes.more) takes.first last whole_one
          ∙ ap (λ (l : List Mark). Gives (record { ident = w.ident; id = (piece_in last).tail.id; payload = payload; mark = last.mark; whole = is_whole l }))
          (ap (λ (k : Key). map (λ (arrival : Arrival). arrival.mark) (of_key setting k (takes.first ∷ (takes.more ++ last ∷ [])))) key_is ∙ then_takes.marked))
        where
          then_takes : Takes low high (next setting sessions last) (came ++ piece_in last ∷ []) (marks ++ last.mark ∷ [])
          then_takes = goes_on sessions came marks takes last own_last after_it before has

          whole_one : ComesWhole setting takes.base w payload (takes.first ∷ (takes.more ++ last ∷ [])) (takes.first ∷ takes.more) takes.first last
          whole_one = record {
            accepted = accepted;
            of_session = of_session;
            begins = (takes.more ++ last ∷ [], refl, subst (λ (k : Key). is_of setting k takes.first ≡ true) (sym key_is) takes.own);
            ends = refl;
            cutting = subst (λ (k : Key). IsCutting w.signature (piece_in last).tail.id payload (map piece_in (of_key setting k (takes.first ∷ (takes.more ++ last ∷ [])))))
                (sym key_is) (subst (λ (l : List Piece). IsCutting w.signature (piece_in last).tail.id payload l) (sym then_takes.pieces) cutting);
            in_time = λ i j d first_before inside.
                let a = within_at low high (takes.first ∷ (takes.more ++ last ∷ [])) i d then_takes.within (omega (arith, first_before, inside)) in
                let b = within_at low high (takes.first ∷ (takes.more ++ last ∷ [])) j d then_takes.within inside in omega (arith, a.0, a.1, b.0, b.1, soon);
            may_begin = subst (λ (k : Key). MayBegin setting takes.base k takes.first) (sym key_is) takes.may;
            blocks = λ front back arrival e is. subst (λ (k : Key). lacks_blocks setting.blocks (piece_in arrival) (map piece_in (of_key setting k front))
                (others k (recent_sessions arrival.moment (run setting takes.base front))) ≡ false) (sym key_is)
                (then_takes.blocks front back arrival e (subst (λ (k : Key). is_of setting k arrival ≡ true) key_is is));
          }

      -- a transfer of one frame
      pub comes_alone : (sessions : List Session) → MayBegin setting sessions key last → IsCutting w.signature (piece_in last).tail.id payload (piece_in last ∷ [])
          → HasBlocks sessions [] last
          → answer setting sessions last ≡ Gives (record {
            ident = w.ident;
            id = (piece_in last).tail.id;
            payload = payload;
            mark = last.mark;
            whole = is_whole (last.mark ∷ []);
          })
      unfolding starts
      comes_alone sessions may cutting has =
          laws setting sessions w payload (last ∷ []) [] last last whole_one
          ∙ ap (λ (l : List Mark). Gives (record { ident = w.ident; id = (piece_in last).tail.id; payload = payload; mark = last.mark; whole = is_whole l }))
          (ap (λ (k : Key). map (λ (arrival : Arrival). arrival.mark) (of_key setting k (last ∷ []))) key_is ∙ takes.marked)
        where
          takes : Takes low high (next setting sessions last) (piece_in last ∷ []) (last.mark ∷ [])
          takes = starts sessions last may own_last after_it before has

          whole_one : ComesWhole setting sessions w payload (last ∷ []) [] last last
          whole_one = record {
            accepted = accepted;
            of_session = of_session;
            begins = ([], refl, subst (λ (k : Key). is_of setting k last ≡ true) (sym key_is) own_last);
            ends = refl;
            cutting = subst (λ (k : Key). IsCutting w.signature (piece_in last).tail.id payload (map piece_in (of_key setting k (last ∷ []))))
                (sym key_is) (subst (λ (l : List Piece). IsCutting w.signature (piece_in last).tail.id payload l) (sym takes.pieces) cutting);
            in_time = λ i j d first_before inside. absurd (omega (arith, first_before, inside));
            may_begin = subst (λ (k : Key). MayBegin setting sessions k last) (sym key_is) may;
            blocks = λ front back arrival e is. subst (λ (k : Key). lacks_blocks setting.blocks (piece_in arrival) (map piece_in (of_key setting k front))
                (others k (recent_sessions arrival.moment (run setting sessions front))) ≡ false) (sym key_is)
                (takes.blocks front back arrival e (subst (λ (k : Key). is_of setting k arrival ≡ true) key_is is));
          }
