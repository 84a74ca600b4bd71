-- A transfer that comes in order, in time and with room for its blocks is delivered.
use Rattle.std.proofs.Common.{◌≡◌, ◌≢◌, ℕ, suc, ◌+◌, ◌-◌, ◌*◌, ◌<◌, ◌≤◌, Bool, true, false, not, ◌&&◌, cond, List, [], ◌∷◌, ◌++◌, length, map, get_or, refl, sym, ap, ◌∙◌, arith, subst, inl, inr, nat_eq, append_assoc, append-nil, length-append}
use Rattle.std.specs.Prelude.{Option, None, Some, Result, Ok, Err, MatchOption, AllPairs}
use Rattle.std.proofs.lemmas.Bool.{cases_Bool, eq-eqb, le-leb}
use Rattle.std.proofs.lemmas.List.{map-append}
use Rattle.std.proofs.lemmas.List.Elements.{filter-append}
use Rattle.can_frame.specs.declared.mark.Mark.{Mark}
use Rattle.can_frame.specs.declared.step.Why.{Why}
use Rattle.can_frame.specs.declared.tail.Tail.{Tail}
use Rattle.can_frame.specs.Cutting.{IsCutting, Piece, bytes_cut, frames_of, joined, tail_at}
use Rattle.can_frame.specs.Kinds.{is_anonymous}
use Rattle.transfer_rx.specs.declared.accept.Wanted.{Wanted}
use Rattle.transfer_rx.specs.declared.key.Key.{Key}
use Rattle.transfer_rx.specs.Acceptance.{wanted}
use Rattle.transfer_rx.specs.Keys.{key_of, same_key}
use Rattle.transfer_rx.specs.Marks.{is_whole}
use Rattle.transfer_rx.specs.Outcome.{Delivers, Grows, lacks_blocks, out_of_turn, outcome}
use Rattle.transfer_rx.specs.Parts.{IsPart}
use Rattle.transfer_rx.specs.Reassembly.{Arrival, Gives, Setting, Step, answer, at_session, grown, in_turn, next, piece_in, session_after, session_step}
use Rattle.transfer_rx.specs.Run.{AwaitsTransfer, ComesWhole, MayBegin, has_session_key, is_of, of_key, run}
use Rattle.transfer_rx.specs.Sessions.{Session, continued, is_recent, next_id, new_session, others, recent_sessions, restarted_session, restarts, session_for, session_of}
use Rattle.transfer_rx.proofs.Cuts.{CarryWhatIsCut, SameFrames, SamePayload, Uncut}
use Rattle.transfer_rx.proofs.Comes.{for-key, opens}
use Rattle.transfer_rx.proofs.Cuttings.{delivered_last}
use Rattle.transfer_rx.proofs.Earlier.{Parts, frame_parts, grows, last_of}
use Rattle.transfer_rx.proofs.Earlier as earlier
use Rattle.transfer_rx.proofs.Found.{same_key-equal, same_key-ne, ne-same_key, same_key-true, session_of-filter, session_of-others}
use Rattle.transfer_rx.proofs.Lengths.{at_most_two_more, length-joined, total}
use Rattle.transfer_rx.proofs.Steps.{anonymous, of_session, unwanted}
use Rattle.transfer_rx.proofs.Steps as steps

-- ---- what comes to the key

pub record IsOwn (setting : Setting) (key : Key) (arrival : Arrival) : Type 0 where
  pub w : Wanted
  pub accepted : wanted setting.rows setting.me arrival.id ≡ Ok w
  pub of_session : is_anonymous w.ident.kind ≡ false
  pub own : key_of w.ident ≡ key

pub own_wanted : (setting : Setting) (key : Key) (arrival : Arrival) → is_of setting key arrival ≡ true → IsOwn setting key arrival
unfolding is_of
own_wanted setting key arrival h = go (wanted setting.rows setting.me arrival.id) refl h where
  go : (r : Result Wanted Why) → wanted setting.rows setting.me arrival.id ≡ r → has_session_key key r ≡ true → IsOwn setting key arrival
  go (Err why) e t = absurd cc
  go (Ok w) e t = elim (cases_Bool (is_anonymous w.ident.kind)) [
    | inl alone ↦ let y : is_anonymous w.ident.kind ≡ true = alone in let f : false ≡ true = rw y at t in absurd cc
    | inr none ↦
        let n : is_anonymous w.ident.kind ≡ false = none in
        let s : same_key key (key_of w.ident) ≡ true = rw n at t in
        record { w = w; accepted = e; of_session = n; own = sym (same_key-true key (key_of w.ident) s) }
  ]

pub is_own : (setting : Setting) (w : Wanted) (arrival : Arrival) → wanted setting.rows setting.me arrival.id ≡ Ok w →
    is_anonymous w.ident.kind ≡ false → is_of setting (key_of w.ident) arrival ≡ true
unfolding is_of
is_own setting w arrival e n =
    let s : same_key (key_of w.ident) (key_of w.ident) ≡ true = same_key-equal (key_of w.ident) (key_of w.ident) refl in
    ap (has_session_key (key_of w.ident)) e ∙ ap (λ b. cond b false (same_key (key_of w.ident) (key_of w.ident))) n ∙ s

-- ---- another frame leaves the session as it is

own_after : (blocks : ℕ) (w : Wanted) (piece : Piece) (mark : Mark) (now : ℕ) (rest : List Session) (session : Session) (o : Option Why) (key : Key) →
    session.key ≢ key → session_of key (in_turn blocks w piece mark now rest session o).sessions ≡ session_of key rest
own_after blocks w piece mark now rest session None key ne =
    let result = outcome blocks w.signature piece session.taken rest in
    let k = steps.key-after piece mark now session result in
    let f : same_key key (session_after piece mark now session result).key ≡ false = same_key-ne key _ (λ e. ne (sym (e ∙ k))) in
    ap (λ b. cond b (Some (session_after piece mark now session result)) (session_of key rest)) f
own_after blocks w piece mark now rest session (Some why) key ne =
    let f : same_key key session.key ≡ false = same_key-ne key session.key (λ e. ne (sym e)) in
    ap (λ b. cond b (Some session) (session_of key rest)) f

other_session : (most blocks : ℕ) (w : Wanted) (piece : Piece) (mark : Mark) (now : ℕ) (sessions : List Session) (key : Key) → key_of w.ident ≢ key →
    session_of key (session_step most blocks w piece mark now sessions).sessions ≡ session_of key sessions
unfolding session_step
other_session most blocks w piece mark now sessions key ne = go (session_for most (key_of w.ident) piece.tail now sessions) refl where
  go : (r : Result Session Why) → session_for most (key_of w.ident) piece.tail now sessions ≡ r →
      session_of key (at_session blocks w piece mark now sessions r).sessions ≡ session_of key sessions
  go (Err why) e = refl
  go (Ok session) e =
      let k : session.key ≡ key_of w.ident = for-key most (key_of w.ident) piece.tail now sessions session e in
      own_after blocks w piece mark now (others (key_of w.ident) sessions) session (out_of_turn piece.tail session) key (λ same. ne (sym k ∙ same))
      ∙ session_of-others key (key_of w.ident) sessions (λ same. ne (sym same))

pub other_keeps : (setting : Setting) (sessions : List Session) (arrival : Arrival) (key : Key) (session : Session) → is_of setting key arrival ≡ false →
    session_of key sessions ≡ Some session → is_recent arrival.moment session ≡ true → session_of key (next setting sessions arrival) ≡ Some session
unfolding is_of
other_keeps setting sessions arrival key session other there recent = go (wanted setting.rows setting.me arrival.id) refl other where
  go : (r : Result Wanted Why) → wanted setting.rows setting.me arrival.id ≡ r → has_session_key key r ≡ false → session_of key (next setting sessions arrival) ≡ Some session
  go (Err why) e f = ap (λ (x : Step). session_of key x.sessions) (unwanted setting sessions arrival why e) ∙ there
  go (Ok w) e f = elim (cases_Bool (is_anonymous w.ident.kind)) [
    | inl alone ↦ ap (λ (x : Step). session_of key x.sessions) (anonymous setting sessions arrival w e alone) ∙ there
    | inr none ↦
        let n : is_anonymous w.ident.kind ≡ false = none in
        let s : same_key key (key_of w.ident) ≡ false = rw n at f in
        ap (λ (x : Step). session_of key x.sessions) (of_session setting sessions arrival w e none)
        ∙ other_session setting.sessions setting.blocks w (piece_in arrival) arrival.mark arrival.moment (recent_sessions arrival.moment sessions) key
        (λ same. ne-same_key key (key_of w.ident) s (sym same))
        ∙ session_of-filter (is_recent arrival.moment) key sessions session there recent
  ]

-- ---- a frame of the session

and_false : (b : Bool) → b && false ≡ false
and_false true = refl
and_false false = refl

-- a frame with the expected ID begins nothing anew
stays : (tail : Tail) (session : Session) → tail.id ≡ session.expected → restarted_session tail session ≡ session
stays tail session e =
    let t : nat_eq tail.id session.expected ≡ true = eq-eqb _ _ e in
    let f : restarts tail session ≡ false = ap (λ b. tail.start && (not b && not (nat_eq (next_id tail.id) session.expected))) t ∙ and_false tail.start in
    ap (λ b. cond b (record session { expected = tail.id; taken = []; marks = [] }) session) f

finds : (most : ℕ) (key : Key) (tail : Tail) (now : ℕ) (sessions : List Session) (session : Session) → session_of key sessions ≡ Some session →
    session_for most key tail now sessions ≡ Ok (restarted_session tail session)
unfolding session_for
finds most key tail now sessions session there = ap (continued most key tail now sessions) there

abbrev as_ok : Session → Result Session Why
as_ok session = Ok session

same_ok : (a b : Session) → a ≡ b → as_ok a ≡ as_ok b
same_ok a b e = ap as_ok e

pub record Begins (most : ℕ) (key : Key) (tail : Tail) (now : ℕ) (sessions : List Session) : Type 0 where
  pub session : Session
  pub there : session_for most key tail now sessions ≡ Ok session
  pub expected : session.expected ≡ tail.id
  pub taken : session.taken ≡ []
  pub marks : session.marks ≡ []

begins_by : (most : ℕ) (key : Key) (tail : Tail) (now : ℕ) (recent : List Session) → tail.start ≡ true → (found : Option Session) →
    session_of key recent ≡ found → MatchOption found (length recent < most) (AwaitsTransfer tail) → Begins most key tail now recent
begins_by most key tail now recent start None none room = record {
  session = new_session key tail now;
  there = opens most [] key tail now [] recent none start room;
  expected = refl;
  taken = refl;
  marks = refl;
}
begins_by most key tail now recent start (Some session) there (inl idle) = record {
  session = session;
  there = finds most key tail now recent session there ∙ ap as_ok (stays tail session (sym idle.0));
  expected = idle.0;
  taken = idle.1;
  marks = idle.2;
}
begins_by most key tail now recent start (Some session) there (inr anew) = record {
  session = record session { expected = tail.id; taken = []; marks = [] };
  there = finds most key tail now recent session there ∙ ap (λ b. as_ok (cond b (record session { expected = tail.id; taken = []; marks = [] }) session)) anew;
  expected = refl;
  taken = refl;
  marks = refl;
}

finds_first : (setting : Setting) (sessions : List Session) (key : Key) (first : Arrival) → MayBegin setting sessions key first → (piece_in first).tail.start ≡ true →
    Begins setting.sessions key (piece_in first).tail first.moment (recent_sessions first.moment sessions)
finds_first setting sessions key first may start =
    let recent : List Session = recent_sessions first.moment sessions in
    begins_by setting.sessions key (piece_in first).tail first.moment recent start (session_of key recent) refl may

own_step : (setting : Setting) (sessions : List Session) (arrival : Arrival) (key : Key) (s : Session) → IsOwn setting key arrival →
    session_for setting.sessions key (piece_in arrival).tail arrival.moment (recent_sessions arrival.moment sessions) ≡ Ok s →
    IsPart s.expected 0 (s.taken ++ piece_in arrival ∷ []) → length (joined (s.taken ++ piece_in arrival ∷ [])) ≤ 378 →
    lacks_blocks setting.blocks (piece_in arrival) s.taken (others key (recent_sessions arrival.moment sessions)) ≡ false →
    session_of key (next setting sessions arrival) ≡ Some (grown (piece_in arrival) arrival.mark arrival.moment s)
own_step setting sessions arrival key s own there p size l =
    let split = last_of s.expected 0 s.taken (piece_in arrival) p in
    let zero_more : 0 + length s.taken ≡ length s.taken = omega arith in
    let tail : (piece_in arrival).tail ≡ tail_at s.expected (length s.taken) false = split.2 ∙ ap (λ n. tail_at s.expected n false) zero_more in
    let id : (piece_in arrival).tail.id ≡ s.expected = ap (λ (t : Tail). t.id) tail in
    let p' = subst (λ i. IsPart i 0 (s.taken ++ piece_in arrival ∷ [])) (sym id) p in
    let there' = subst (λ k. session_for setting.sessions k (piece_in arrival).tail arrival.moment (recent_sessions arrival.moment sessions) ≡ Ok s) (sym own.own) there in
    let l' = subst (λ k. lacks_blocks setting.blocks (piece_in arrival) s.taken (others k (recent_sessions arrival.moment sessions)) ≡ false) (sym own.own) l in
    let result = grows setting.blocks own.w.signature (piece_in arrival) s.taken (others (key_of own.w.ident) (recent_sessions arrival.moment sessions)) p' size l' in
    let k : s.key ≡ key = for-key setting.sessions key (piece_in arrival).tail arrival.moment (recent_sessions arrival.moment sessions) s there in
    let t : same_key key s.key ≡ true = same_key-equal key s.key (sym k) in
    ap (λ (x : Step). session_of key x.sessions)
    (of_session setting sessions arrival own.w own.accepted own.of_session
    ∙ steps.next setting.sessions setting.blocks own.w (piece_in arrival) arrival.mark arrival.moment (recent_sessions arrival.moment sessions) s Grows there'
    (earlier.in_turn (piece_in arrival) s false tail) (sym result))
    ∙ ap (λ b. cond b (Some (grown (piece_in arrival) arrival.mark arrival.moment s)) (session_of key (others (key_of own.w.ident) (recent_sessions arrival.moment sessions)))) t

last_step : Uncut → SameFrames → SamePayload → (setting : Setting) (sessions : List Session) (arrival : Arrival) (w : Wanted) (s : Session) (payload : List ℕ) →
    wanted setting.rows setting.me arrival.id ≡ Ok w → is_anonymous w.ident.kind ≡ false →
    session_for setting.sessions (key_of w.ident) (piece_in arrival).tail arrival.moment (recent_sessions arrival.moment sessions) ≡ Ok s →
    (piece_in arrival).tail ≡ tail_at s.expected (length s.taken) true →
    IsCutting w.signature (piece_in arrival).tail.id payload (s.taken ++ piece_in arrival ∷ []) →
    lacks_blocks setting.blocks (piece_in arrival) s.taken (others (key_of w.ident) (recent_sessions arrival.moment sessions)) ≡ false →
    answer setting sessions arrival ≡ Gives (record {
      ident = w.ident;
      id = (piece_in arrival).tail.id;
      payload = payload;
      mark = arrival.mark;
      whole = is_whole (s.marks ++ arrival.mark ∷ []);
    })
last_step uncut same_frames same_payload setting sessions arrival w s payload e n there tail cutting l =
    let end : (piece_in arrival).tail.end ≡ true = ap (λ (t : Tail). t.end) tail in
    let result = delivered_last uncut same_frames same_payload setting.blocks w.signature (piece_in arrival) s.taken (others (key_of w.ident) (recent_sessions arrival.moment sessions)) payload cutting end l in
    ap (λ (x : Step). x.answer)
    (of_session setting sessions arrival w e n
    ∙ steps.next setting.sessions setting.blocks w (piece_in arrival) arrival.mark arrival.moment (recent_sessions arrival.moment sessions) s (Delivers payload) there
    (earlier.in_turn (piece_in arrival) s true tail) (sym result))

-- ---- the frames one after the other

part-front : (id place : ℕ) (xs ys : List Piece) → IsPart id place (xs ++ ys) → IsPart id place xs
part-front id place [] ys p = tt
part-front id place (x ∷ xs) ys p = (p.0, p.1, part-front id (suc place) xs ys p.2)

module _ (setting : Setting) (key : Key) (last : Arrival) where
  abbrev pub pieces_of : List Arrival → List Piece
  pieces_of arrivals = map piece_in (of_key setting key arrivals)

  abbrev pub marks_of : List Arrival → List Mark
  marks_of arrivals = map (λ (arrival : Arrival). arrival.mark) (of_key setting key arrivals)

  pub own_pieces : (arrival : Arrival) (arrivals : List Arrival) → is_of setting key arrival ≡ true → pieces_of (arrival ∷ arrivals) ≡ piece_in arrival ∷ pieces_of arrivals
  own_pieces arrival arrivals own = ap (λ b. map piece_in (cond b (arrival ∷ of_key setting key arrivals) (of_key setting key arrivals))) own

  pub own_marks : (arrival : Arrival) (arrivals : List Arrival) → is_of setting key arrival ≡ true → marks_of (arrival ∷ arrivals) ≡ arrival.mark ∷ marks_of arrivals
  own_marks arrival arrivals own =
      ap (λ b. map (λ (arrival : Arrival). arrival.mark) (cond b (arrival ∷ of_key setting key arrivals) (of_key setting key arrivals))) own

  other_pieces : (arrival : Arrival) (arrivals : List Arrival) → is_of setting key arrival ≡ false → pieces_of (arrival ∷ arrivals) ≡ pieces_of arrivals
  other_pieces arrival arrivals other = ap (λ b. map piece_in (cond b (arrival ∷ of_key setting key arrivals) (of_key setting key arrivals))) other

  other_marks : (arrival : Arrival) (arrivals : List Arrival) → is_of setting key arrival ≡ false → marks_of (arrival ∷ arrivals) ≡ marks_of arrivals
  other_marks arrival arrivals other =
      ap (λ b. map (λ (arrival : Arrival). arrival.mark) (cond b (arrival ∷ of_key setting key arrivals) (of_key setting key arrivals))) other

  -- the blocks suffice from here on
  pub record Suffice (taken : List Piece) (sessions : List Session) (arrivals : List Arrival) : Type 0 where
    pub each : (front back : List Arrival) (arrival : Arrival) → arrivals ≡ front ++ arrival ∷ back → is_of setting key arrival ≡ true →
        lacks_blocks setting.blocks (piece_in arrival) (taken ++ pieces_of front) (others key (recent_sessions arrival.moment (run setting sessions front))) ≡ false

  pub record InTime (arrivals : List Arrival) : Type 0 where
    pub pairs : AllPairs (λ (earlier later : Arrival). later.moment - earlier.moment ≤ 2000) arrivals

  pub record Recent (moment : ℕ) (arrivals : List Arrival) : Type 0 where
    pub each : (j : ℕ) (d : Arrival) → j < length arrivals → (get_or arrivals j d).moment - moment ≤ 2000

  -- the session has taken a part, and waits for the frames that are left
  pub record Waits (sessions : List Session) (part : List Piece) (id : ℕ) (marks : List Mark) : Type 0 where
    pub session : Session
    pub there : session_of key sessions ≡ Some session
    pub expected : session.expected ≡ id
    pub taken : session.taken ≡ part
    pub marked : session.marks ≡ marks
    pub recent : Recent session.moment (last ∷ [])

  tail_in_time : (arrival : Arrival) (arrivals : List Arrival) → InTime (arrival ∷ arrivals) → InTime arrivals
  tail_in_time arrival arrivals t = record { pairs = λ i j d before within. t.pairs (suc i) (suc j) d (omega arith) (omega arith) }

  from_here : (arrival : Arrival) (arrivals : List Arrival) → InTime (arrival ∷ arrivals) → Recent arrival.moment arrivals
  from_here arrival arrivals t = record { each = λ j d within. t.pairs 0 (suc j) d (omega arith) (omega arith) }

  tail_recent : (moment : ℕ) (arrival : Arrival) (arrivals : List Arrival) → Recent moment (arrival ∷ arrivals) → Recent moment arrivals
  tail_recent moment arrival arrivals r = record { each = λ j d within. r.each (suc j) d (omega arith) }

  -- what is left to show of the frames behind one
  abbrev Goes : List Arrival → Type 0
  Goes arrivals = (sessions : List Session) (s : Session) (part : List Piece) → session_of key sessions ≡ Some s → Recent s.moment (arrivals ++ last ∷ []) →
      InTime (arrivals ++ last ∷ []) → part ≡ s.taken ++ pieces_of arrivals → IsPart s.expected 0 part → 7 * length part ≤ 378 →
      Suffice s.taken sessions (arrivals ++ last ∷ []) → Waits (run setting sessions arrivals) part s.expected (s.marks ++ marks_of arrivals)

  own_goes : (arrival : Arrival) (arrivals : List Arrival) → Goes arrivals → (sessions : List Session) (s : Session) (part : List Piece) →
      is_of setting key arrival ≡ true →
      session_for setting.sessions key (piece_in arrival).tail arrival.moment (recent_sessions arrival.moment sessions) ≡ Ok s →
      InTime (arrival ∷ (arrivals ++ last ∷ [])) → part ≡ s.taken ++ pieces_of (arrival ∷ arrivals) → IsPart s.expected 0 part → 7 * length part ≤ 378 →
      Suffice s.taken sessions (arrival ∷ (arrivals ++ last ∷ [])) →
      Waits (run setting (next setting sessions arrival) arrivals) part s.expected (s.marks ++ marks_of (arrival ∷ arrivals))
  own_goes arrival arrivals rec sessions s part own there time e p size blocks =
      let e' : part ≡ (s.taken ++ piece_in arrival ∷ []) ++ pieces_of arrivals =
      e ∙ ap (λ more. s.taken ++ more) (own_pieces arrival arrivals own) ∙ sym (append_assoc s.taken (piece_in arrival ∷ []) (pieces_of arrivals)) in
      let p' : IsPart s.expected 0 (s.taken ++ piece_in arrival ∷ []) =
      part-front s.expected 0 (s.taken ++ piece_in arrival ∷ []) (pieces_of arrivals) (subst (λ x. IsPart s.expected 0 x) e' p) in
      let n : length part ≡ length (s.taken ++ piece_in arrival ∷ []) + length (pieces_of arrivals) =
      ap length e' ∙ length-append (s.taken ++ piece_in arrival ∷ []) (pieces_of arrivals) in
      let j : length (joined (s.taken ++ piece_in arrival ∷ [])) ≡ 7 * length (s.taken ++ piece_in arrival ∷ []) =
      length-joined s.expected 0 (s.taken ++ piece_in arrival ∷ []) p' in
      let l = subst (λ taken. lacks_blocks setting.blocks (piece_in arrival) taken (others key (recent_sessions arrival.moment sessions)) ≡ false)
      (append-nil s.taken) (blocks.each [] (arrivals ++ last ∷ []) arrival refl own) in
      let w = rec (next setting sessions arrival) (grown (piece_in arrival) arrival.mark arrival.moment s) part
      (own_step setting sessions arrival key s (own_wanted setting key arrival own) there p' (omega arith) l)
      (from_here arrival (arrivals ++ last ∷ []) time) (tail_in_time arrival (arrivals ++ last ∷ []) time) e' p size
      (record {
        each = λ front back a cut mine.
            subst (λ taken. lacks_blocks setting.blocks (piece_in a) taken (others key (recent_sessions a.moment (run setting (next setting sessions arrival) front))) ≡ false)
            (ap (λ more. s.taken ++ more) (own_pieces arrival front own) ∙ sym (append_assoc s.taken (piece_in arrival ∷ []) (pieces_of front)))
            (blocks.each (arrival ∷ front) back a (ap (λ rest. arrival ∷ rest) cut) mine);
      }) in
      subst (λ marks. Waits (run setting (next setting sessions arrival) arrivals) part s.expected marks)
      (append_assoc s.marks (arrival.mark ∷ []) (marks_of arrivals) ∙ ap (λ more. s.marks ++ more) (sym (own_marks arrival arrivals own))) w

  other_goes : (arrival : Arrival) (arrivals : List Arrival) → Goes arrivals → (sessions : List Session) (s : Session) (part : List Piece) →
      is_of setting key arrival ≡ false → session_of key sessions ≡ Some s → Recent s.moment (arrival ∷ (arrivals ++ last ∷ [])) →
      InTime (arrival ∷ (arrivals ++ last ∷ [])) → part ≡ s.taken ++ pieces_of (arrival ∷ arrivals) → IsPart s.expected 0 part → 7 * length part ≤ 378 →
      Suffice s.taken sessions (arrival ∷ (arrivals ++ last ∷ [])) →
      Waits (run setting (next setting sessions arrival) arrivals) part s.expected (s.marks ++ marks_of (arrival ∷ arrivals))
  other_goes arrival arrivals rec sessions s part other there recent time e p size blocks =
      let w = rec (next setting sessions arrival) s part
      (other_keeps setting sessions arrival key s other there (le-leb _ _ (recent.each 0 arrival (omega arith))))
      (tail_recent s.moment arrival (arrivals ++ last ∷ []) recent) (tail_in_time arrival (arrivals ++ last ∷ []) time)
      (e ∙ ap (λ more. s.taken ++ more) (other_pieces arrival arrivals other)) p size
      (record {
        each = λ front back a cut mine.
            subst (λ taken. lacks_blocks setting.blocks (piece_in a) taken (others key (recent_sessions a.moment (run setting (next setting sessions arrival) front))) ≡ false)
            (ap (λ more. s.taken ++ more) (other_pieces arrival front other))
            (blocks.each (arrival ∷ front) back a (ap (λ rest. arrival ∷ rest) cut) mine);
      }) in
      subst (λ marks. Waits (run setting (next setting sessions arrival) arrivals) part s.expected marks)
      (ap (λ more. s.marks ++ more) (sym (other_marks arrival arrivals other))) w

  pub goes : (arrivals : List Arrival) → Goes arrivals
  goes [] sessions s part there recent time e p size blocks = record {
    session = s;
    there = there;
    expected = refl;
    taken = sym (e ∙ append-nil s.taken);
    marked = sym (append-nil s.marks);
    recent = recent;
  }
  goes (arrival ∷ arrivals) sessions s part there recent time e p size blocks = elim (cases_Bool (is_of setting key arrival)) [
    | inl own ↦
        let e' : part ≡ (s.taken ++ piece_in arrival ∷ []) ++ pieces_of arrivals =
        e ∙ ap (λ more. s.taken ++ more) (own_pieces arrival arrivals own) ∙ sym (append_assoc s.taken (piece_in arrival ∷ []) (pieces_of arrivals)) in
        let p' : IsPart s.expected 0 (s.taken ++ piece_in arrival ∷ []) =
        part-front s.expected 0 (s.taken ++ piece_in arrival ∷ []) (pieces_of arrivals) (subst (λ x. IsPart s.expected 0 x) e' p) in
        let id : (piece_in arrival).tail.id ≡ s.expected = ap (λ (t : Tail). t.id) (last_of s.expected 0 s.taken (piece_in arrival) p').2 in
        let still : session_of key (recent_sessions arrival.moment sessions) ≡ Some s =
        session_of-filter (is_recent arrival.moment) key sessions s there (le-leb _ _ (recent.each 0 arrival (omega arith))) in
        own_goes arrival arrivals (goes arrivals) sessions s part own
        (finds setting.sessions key (piece_in arrival).tail arrival.moment (recent_sessions arrival.moment sessions) s still ∙ same_ok _ _ (stays (piece_in arrival).tail s id))
        time e p size blocks
    | inr other ↦ other_goes arrival arrivals (goes arrivals) sessions s part other there recent time e p size blocks
  ]

-- ---- the whole run

snoc : (xs ys : List Piece) (x y : Piece) → xs ++ x ∷ [] ≡ ys ++ y ∷ [] → (xs ≡ ys) × (x ≡ y)
snoc [] [] x y e = (refl, cc)
snoc [] (b ∷ ys) x y e = let n : 1 ≡ suc (length (ys ++ y ∷ [])) = ap length e in absurd (omega (arith, n, length-append ys (y ∷ [])))
snoc (a ∷ xs) [] x y e = let n : suc (length (xs ++ x ∷ [])) ≡ 1 = ap length e in absurd (omega (arith, n, length-append xs (x ∷ [])))
snoc (a ∷ xs) (b ∷ ys) x y e =
    let heads : a ≡ b = cc in
    let tails : xs ++ x ∷ [] ≡ ys ++ y ∷ [] = cc in
    let r = snoc xs ys x y tails in
    ((λ i. heads i ∷ r.0 i), r.1)

module _ (setting : Setting) (key : Key) (last : Arrival) (own : is_of setting key last ≡ true) where
  of_key-push : (before : List Arrival) → of_key setting key (before ++ last ∷ []) ≡ of_key setting key before ++ last ∷ []
  of_key-push before =
      filter-append (is_of setting key) before (last ∷ []) ∙ ap (λ b. of_key setting key before ++ cond b (last ∷ []) []) own

  pieces-push : (before : List Arrival) → map piece_in (of_key setting key (before ++ last ∷ [])) ≡ map piece_in (of_key setting key before) ++ piece_in last ∷ []
  pieces-push before = ap (map piece_in) (of_key-push before) ∙ map-append piece_in (of_key setting key before) (last ∷ [])

  marks-push : (before : List Arrival) → map (λ (a : Arrival). a.mark) (of_key setting key (before ++ last ∷ [])) ≡ map (λ (a : Arrival). a.mark) (of_key setting key before) ++ last.mark ∷ []
  marks-push before = ap (map (λ (a : Arrival). a.mark)) (of_key-push before) ∙ map-append (λ (a : Arrival). a.mark) (of_key setting key before) (last ∷ [])

-- the frames before the last one, and the last
record IsEnd (id : ℕ) (part : List Piece) (piece : Piece) : Type 0 where
  part_is : IsPart id 0 part
  end_is : piece.tail ≡ tail_at id (length part) true
  few : 7 * length part ≤ 378

is_end : CarryWhatIsCut → (signature : ℕ) (payload : List ℕ) (part : List Piece) (piece : Piece) → IsCutting signature piece.tail.id payload (part ++ piece ∷ []) → IsEnd piece.tail.id part piece
is_end carry signature payload part piece cutting =
    let parts : Parts piece.tail.id 0 (frames_of signature piece.tail.id payload) = frame_parts signature piece.tail.id payload in
    let split = snoc part parts.part piece parts.last (cutting.frames ∙ parts.all) in
    let goes = subst (λ x. IsPart piece.tail.id 0 x) (sym split.0) parts.goes in
    let zero_more : 0 + length parts.part ≡ length part = omega (arith, ap length split.0) in
    let all : length (joined (part ++ piece ∷ [])) ≡ length (bytes_cut signature payload) =
    ap (λ x. length (joined x)) cutting.frames ∙ ap length (carry.carried signature piece.tail.id payload) in
    let most = at_most_two_more carry signature payload in
    let count = total piece.tail.id 0 part piece goes in
    let size = cutting.size in
    record {
      part_is = goes;
      end_is = ap (λ (p : Piece). p.tail) split.1 ∙ parts.ends ∙ ap (λ n. tail_at piece.tail.id n true) zero_more;
      few = omega arith;
    }

-- with the laws of cuttings
module _ (carry : CarryWhatIsCut) (uncut : Uncut) (same_frames : SameFrames) (same_payload : SamePayload) where
  module _ (setting : Setting) (sessions : List Session) (w : Wanted) (payload : List ℕ) (last : Arrival)
      (accepted : wanted setting.rows setting.me last.id ≡ Ok w) (of_a_session : is_anonymous w.ident.kind ≡ false) where
    own_last : is_of setting (key_of w.ident) last ≡ true
    own_last = is_own setting w last accepted of_a_session

    -- the last frame, where its session has taken all the others
    pub finish : (before : List Arrival) (s : Session) →
        session_for setting.sessions (key_of w.ident) (piece_in last).tail last.moment (recent_sessions last.moment (run setting sessions before)) ≡ Ok s →
        s.expected ≡ (piece_in last).tail.id → s.taken ≡ map piece_in (of_key setting (key_of w.ident) before) →
        s.marks ≡ map (λ (a : Arrival). a.mark) (of_key setting (key_of w.ident) before) →
        IsCutting w.signature (piece_in last).tail.id payload (map piece_in (of_key setting (key_of w.ident) before) ++ piece_in last ∷ []) →
        lacks_blocks setting.blocks (piece_in last) (map piece_in (of_key setting (key_of w.ident) before))
        (others (key_of w.ident) (recent_sessions last.moment (run setting sessions before))) ≡ false →
        answer setting (run setting sessions before) last ≡ Gives (record {
          ident = w.ident;
          id = (piece_in last).tail.id;
          payload = payload;
          mark = last.mark;
          whole = is_whole (map (λ (a : Arrival). a.mark) (of_key setting (key_of w.ident) (before ++ last ∷ [])));
        })
    finish before s there expected taken marked cutting l =
        let end = is_end carry w.signature payload (map piece_in (of_key setting (key_of w.ident) before)) (piece_in last) cutting in
        let tail : (piece_in last).tail ≡ tail_at s.expected (length s.taken) true =
        end.end_is ∙ (λ i. tail_at (sym expected i) (length (sym taken i)) true) in
        last_step uncut same_frames same_payload setting (run setting sessions before) last w s payload accepted of_a_session there tail
        (subst (λ x. IsCutting w.signature (piece_in last).tail.id payload (x ++ piece_in last ∷ [])) (sym taken) cutting)
        (subst (λ x. lacks_blocks setting.blocks (piece_in last) x (others (key_of w.ident) (recent_sessions last.moment (run setting sessions before))) ≡ false) (sym taken) l)
        ∙ ap (λ marks. Gives (record { ident = w.ident; id = (piece_in last).tail.id; payload = payload; mark = last.mark; whole = is_whole marks }))
        (ap (λ marks. marks ++ last.mark ∷ []) marked ∙ sym (marks-push setting (key_of w.ident) last own_last before))

    finish_waiting : (before : List Arrival) →
        Waits setting (key_of w.ident) last (run setting sessions before) (map piece_in (of_key setting (key_of w.ident) before)) (piece_in last).tail.id
        (map (λ (a : Arrival). a.mark) (of_key setting (key_of w.ident) before)) →
        IsCutting w.signature (piece_in last).tail.id payload (map piece_in (of_key setting (key_of w.ident) before) ++ piece_in last ∷ []) →
        lacks_blocks setting.blocks (piece_in last) (map piece_in (of_key setting (key_of w.ident) before))
        (others (key_of w.ident) (recent_sessions last.moment (run setting sessions before))) ≡ false →
        answer setting (run setting sessions before) last ≡ Gives (record {
          ident = w.ident;
          id = (piece_in last).tail.id;
          payload = payload;
          mark = last.mark;
          whole = is_whole (map (λ (a : Arrival). a.mark) (of_key setting (key_of w.ident) (before ++ last ∷ [])));
        })
    finish_waiting before waits cutting l =
        let still : session_of (key_of w.ident) (recent_sessions last.moment (run setting sessions before)) ≡ Some waits.session =
        session_of-filter (is_recent last.moment) (key_of w.ident) (run setting sessions before) waits.session waits.there
        (le-leb (last.moment - waits.session.moment) 2000 (waits.recent.each 0 last (omega arith))) in
        finish before waits.session
        (finds setting.sessions (key_of w.ident) (piece_in last).tail last.moment (recent_sessions last.moment (run setting sessions before)) waits.session still
        ∙ ap as_ok (stays (piece_in last).tail waits.session (sym waits.expected)))
        waits.expected waits.taken waits.marked cutting l

    cutting_before : (arrivals before : List Arrival) → arrivals ≡ before ++ last ∷ [] →
        IsCutting w.signature (piece_in last).tail.id payload (map piece_in (of_key setting (key_of w.ident) arrivals)) →
        IsCutting w.signature (piece_in last).tail.id payload (map piece_in (of_key setting (key_of w.ident) before) ++ piece_in last ∷ [])
    cutting_before arrivals before e cutting =
        subst (λ x. IsCutting w.signature (piece_in last).tail.id payload x)
        (ap (λ x. map piece_in (of_key setting (key_of w.ident) x)) e ∙ pieces-push setting (key_of w.ident) last own_last before) cutting

  -- the first frame is the last
  alone : (setting : Setting) (sessions : List Session) (w : Wanted) (payload : List ℕ) (arrivals : List Arrival) (first last : Arrival) →
      ComesWhole setting sessions w payload arrivals [] first last →
      answer setting sessions last ≡ Gives (record {
        ident = w.ident;
        id = (piece_in last).tail.id;
        payload = payload;
        mark = last.mark;
        whole = is_whole (map (λ (a : Arrival). a.mark) (of_key setting (key_of w.ident) (last ∷ [])));
      })
  alone setting sessions w payload arrivals first last h =
      let cutting = cutting_before setting sessions w payload last h.accepted h.of_session arrivals [] h.ends h.cutting in
      let end = is_end carry w.signature payload [] (piece_in last) cutting in
      let start : (piece_in last).tail.start ≡ true = ap (λ (t : Tail). t.start) end.end_is in
      let same : first ∷ h.begins.0 ≡ last ∷ [] = sym h.begins.1 ∙ h.ends in
      let one : first ≡ last = cc in
      let b = finds_first setting sessions (key_of w.ident) last (subst (λ a. MayBegin setting sessions (key_of w.ident) a) one h.may_begin) start in
      finish setting sessions w payload last h.accepted h.of_session [] b.session b.there b.expected b.taken b.marks cutting
      (h.blocks [] [] last h.ends (own_last setting sessions w payload last h.accepted h.of_session))

  -- others come between the first frame and the last
  several : (setting : Setting) (sessions : List Session) (w : Wanted) (payload : List ℕ) (arrivals before : List Arrival) (first head last : Arrival) →
      ComesWhole setting sessions w payload arrivals (head ∷ before) first last →
      answer setting (run setting (next setting sessions head) before) last ≡ Gives (record {
        ident = w.ident;
        id = (piece_in last).tail.id;
        payload = payload;
        mark = last.mark;
        whole = is_whole (map (λ (a : Arrival). a.mark) (of_key setting (key_of w.ident) (head ∷ (before ++ last ∷ []))));
      })
  several setting sessions w payload arrivals before first head last h =
      let key = key_of w.ident in
      let cutting = cutting_before setting sessions w payload last h.accepted h.of_session arrivals (head ∷ before) h.ends h.cutting in
      let part : List Piece = map piece_in (of_key setting key (head ∷ before)) in
      let end = is_end carry w.signature payload part (piece_in last) cutting in
      let same : first ∷ h.begins.0 ≡ head ∷ (before ++ last ∷ []) = sym h.begins.1 ∙ h.ends in
      let one : first ≡ head = cc in
      let own : is_of setting key head ≡ true = subst (λ a. is_of setting key a ≡ true) one h.begins.2 in
      let part_is : part ≡ piece_in head ∷ map piece_in (of_key setting key before) = own_pieces setting key last head before own in
      let goes_head : IsPart (piece_in last).tail.id 0 (piece_in head ∷ map piece_in (of_key setting key before)) =
      subst (λ x. IsPart (piece_in last).tail.id 0 x) part_is end.part_is in
      let tail : (piece_in head).tail ≡ tail_at (piece_in last).tail.id 0 false = goes_head.1 in
      let b = finds_first setting sessions key head (subst (λ a. MayBegin setting sessions key a) one h.may_begin) (ap (λ (t : Tail). t.start) tail) in
      let id : b.session.expected ≡ (piece_in last).tail.id = b.expected ∙ ap (λ (t : Tail). t.id) tail in
      let waits = own_goes setting key last head before (goes setting key last before) sessions b.session part own b.there
      (record { pairs = subst (λ x. AllPairs (λ (earlier later : Arrival). later.moment - earlier.moment ≤ 2000) x) h.ends h.in_time })
      (ap (λ x. x ++ part) (sym b.taken)) (subst (λ i. IsPart i 0 part) (sym id) end.part_is) end.few
      (record {
        each = λ front back a cut mine.
            subst (λ x. lacks_blocks setting.blocks (piece_in a) (x ++ map piece_in (of_key setting key front)) (others key (recent_sessions a.moment (run setting sessions front))) ≡ false)
            (sym b.taken) (h.blocks front back a (h.ends ∙ cut) mine);
      }) in
      finish_waiting setting sessions w payload last h.accepted h.of_session (head ∷ before)
      (subst (λ i. Waits setting key last (run setting sessions (head ∷ before)) part i (map (λ (a : Arrival). a.mark) (of_key setting key (head ∷ before)))) id
      (subst (λ x. Waits setting key last (run setting sessions (head ∷ before)) part b.session.expected (x ++ map (λ (a : Arrival). a.mark) (of_key setting key (head ∷ before)))) b.marks waits))
      cutting (h.blocks (head ∷ before) [] last h.ends (own_last setting sessions w payload last h.accepted h.of_session))

  complete-cases : (setting : Setting) (sessions : List Session) (w : Wanted) (payload : List ℕ) (arrivals before : List Arrival) (first last : Arrival) →
      ComesWhole setting sessions w payload arrivals before first last →
      answer setting (run setting sessions before) last ≡ Gives (record {
        ident = w.ident;
        id = (piece_in last).tail.id;
        payload = payload;
        mark = last.mark;
        whole = is_whole (map (λ (a : Arrival). a.mark) (of_key setting (key_of w.ident) (before ++ last ∷ [])));
      })
  complete-cases setting sessions w payload arrivals [] first last h = alone setting sessions w payload arrivals first last h
  complete-cases setting sessions w payload arrivals (head ∷ before) first last h = several setting sessions w payload arrivals before first head last h

  pub complete : (setting : Setting) (sessions : List Session) (w : Wanted) (payload : List ℕ) (arrivals before : List Arrival) (first last : Arrival) →
      ComesWhole setting sessions w payload arrivals before first last →
      answer setting (run setting sessions before) last ≡ Gives (record {
        ident = w.ident;
        id = (piece_in last).tail.id;
        payload = payload;
        mark = last.mark;
        whole = is_whole (map (λ (a : Arrival). a.mark) (of_key setting (key_of w.ident) arrivals));
      })
  complete setting sessions w payload arrivals before first last h =
      complete-cases setting sessions w payload arrivals before first last h
      ∙ ap (λ x. Gives (record {
        ident = w.ident;
        id = (piece_in last).tail.id;
        payload = payload;
        mark = last.mark;
        whole = is_whole (map (λ (a : Arrival). a.mark) (of_key setting (key_of w.ident) x));
      })) (sym h.ends)
