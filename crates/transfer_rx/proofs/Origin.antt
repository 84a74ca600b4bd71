-- The frames that a session keeps came with its key.
use Rattle.std.proofs.Common.{◌≡◌, ◌⊎◌, ℕ, true, false, Bool, List, [], ◌∷◌, ◌++◌, cond, length, map, refl, sym, ap, ◌∙◌, subst, inl, inr, nat_lt, append_assoc, append-nil}
use Rattle.std.specs.Prelude.{Option, None, Some, Result, Ok, Err, All, Contains}
use Rattle.std.proofs.lemmas.Bool.{cases_Bool}
use Rattle.std.proofs.lemmas.List.{map-append}
use Rattle.std.proofs.lemmas.List.Elements.{All-cons, All-contains, All-contains_itself, All-filter, All-head, All-tail, filter-append}
use Rattle.can_frame.specs.declared.mark.Mark.{Mark}
use Rattle.can_frame.specs.declared.step.Why.{Why}
use Rattle.can_frame.specs.declared.step.Why.TheVariants.{NoSession, Start}
use Rattle.can_frame.specs.declared.tail.Tail.{Tail}
use Rattle.can_frame.specs.Cutting.{Piece}
use Rattle.can_frame.specs.Kinds.{is_anonymous}
use Rattle.transfer_rx.specs.declared.accept.Wanted.{Wanted}
use Rattle.transfer_rx.specs.declared.key.Key.{Key}
use Rattle.transfer_rx.specs.Acceptance.{wanted}
use Rattle.transfer_rx.specs.Keys.{key_of, same_key}
use Rattle.transfer_rx.specs.Origin.{AreAmong, AreFormer, CameWithKey, IsIdleOrOf, IsKeptAfter}
use Rattle.transfer_rx.specs.Outcome.{Delivers, Grows, Outcome, Spoils, out_of_turn, outcome}
use Rattle.transfer_rx.specs.Reassembly.{Arrival, Setting, Step, at_session, in_turn, next, piece_in, session_after, session_step}
use Rattle.transfer_rx.specs.Run.{is_of, of_key, run}
use Rattle.transfer_rx.specs.Sessions.{Session, continued, is_recent, new_session, others, recent_sessions, restarted_session, restarts, session_for, session_of}
use Rattle.transfer_rx.proofs.Comes.{for-key}
use Rattle.transfer_rx.proofs.Completeness.{is_own}
use Rattle.transfer_rx.proofs.Steps.{anonymous, of_session, unwanted}

-- ---- the session that a frame comes to

abbrev IsIdle : Session → Type 0
IsIdle session = (session.taken ≡ []) × (session.marks ≡ [])

abbrev as_ok : Session → Result Session Why
as_ok session = Ok session

begun_idle : (key : Key) (tail : Tail) (now : ℕ) (session : Session) (start room : Bool) →
    cond start (cond room (as_ok (new_session key tail now)) (Err NoSession)) (Err Start) ≡ Ok session → IsIdle session
begun_idle key tail now session true true h = let e : new_session key tail now ≡ session = cc in subst IsIdle e (refl, refl)
begun_idle key tail now session true false h = absurd cc
begun_idle key tail now session false room h = absurd cc

restarted_idle : (tail : Tail) (own session : Session) (restart : Bool) → cond restart (record own { expected = tail.id; taken = []; marks = [] }) own ≡ session →
    IsIdle session ⊎ (own ≡ session)
restarted_idle tail own session true h = inl (subst IsIdle h (refl, refl))
restarted_idle tail own session false h = inr h

pub comes_to : (most now : ℕ) (key : Key) (tail : Tail) (sessions : List Session) (session : Session) → session_for most key tail now sessions ≡ Ok session →
    IsIdleOrOf key sessions session
unfolding session_for
comes_to most now key tail sessions session h = record { own = for-key most key tail now sessions session h; idle_or_there = go (session_of key sessions) refl h } where
  go : (o : Option Session) → session_of key sessions ≡ o → continued most key tail now sessions o ≡ Ok session →
      IsIdle session ⊎ (session_of key sessions ≡ Some session)
  go None e r = inl (begun_idle key tail now session tail.start (nat_lt (length sessions) most) r)
  go (Some own) e r =
      let same : restarted_session tail own ≡ session = cc in
      elim (restarted_idle tail own session (restarts tail own) same) [
        | inl idle ↦ inl idle
        | inr is ↦ inr (e ∙ ap (λ (s : Session). Some s) is)
      ]

-- ---- a step

found_all : (P : Session → Type 0) (key : Key) (sessions : List Session) (session : Session) → session_of key sessions ≡ Some session → All P sessions → P session
found_all P key [] session h all = absurd cc
found_all P key (first ∷ sessions) session h all = elim (cases_Bool (same_key key first.key)) [
  | inl t ↦
      let t' : same_key key first.key ≡ true = t in
      let e : Some first ≡ Some session = rw t' at h in
      let same : first ≡ session = cc in
      subst P same (All-head P first sessions all)
  | inr f ↦
      let f' : same_key key first.key ≡ false = f in
      let e : session_of key sessions ≡ Some session = rw f' at h in
      found_all P key sessions session e (All-tail P first sessions all)
]

module _ (setting : Setting) (sessions : List Session) (arrival : Arrival) where
  stays : (session : Session) → Contains sessions session → IsKeptAfter setting sessions arrival session
  stays session there = record { pieces = session.taken; marks = session.marks; former = inr (session, there, refl, refl, refl); after = inl (refl, refl) }

  all_stay : All (IsKeptAfter setting sessions arrival) sessions
  all_stay k d h = stays _ (All-contains_itself sessions k d h)

  -- the session that a frame comes to
  former : (key : Key) (session : Session) → IsIdleOrOf key (recent_sessions arrival.moment sessions) session → AreFormer session.key sessions session.taken session.marks
  former key session finds = elim finds.idle_or_there [
    | inl idle ↦ inl idle
    | inr there ↦ inr (
      session,
      found_all (Contains sessions) key (recent_sessions arrival.moment sessions) session there
          (All-filter (is_recent arrival.moment) (Contains sessions) sessions (All-contains_itself sessions)),
      refl,
      refl,
      refl,
    )
  ]

  after : (session : Session) (result : Outcome) → AreFormer session.key sessions session.taken session.marks → is_of setting session.key arrival ≡ true →
      IsKeptAfter setting sessions arrival (session_after (piece_in arrival) arrival.mark arrival.moment session result)
  after session (Delivers payload) f own = record { pieces = []; marks = []; former = inl (refl, refl); after = inl (refl, refl) }
  after session Grows f own = record { pieces = session.taken; marks = session.marks; former = f; after = inr (own, refl, refl) }
  after session (Spoils why) f own = record { pieces = []; marks = []; former = inl (refl, refl); after = inl (refl, refl) }

  module _ (w : Wanted) (e : wanted setting.rows setting.me arrival.id ≡ Ok w) (of_one : is_anonymous w.ident.kind ≡ false) where
    abbrev rest : List Session
    rest = others (key_of w.ident) (recent_sessions arrival.moment sessions)

    rest_stays : All (IsKeptAfter setting sessions arrival) rest
    rest_stays = All-filter _ (IsKeptAfter setting sessions arrival) (recent_sessions arrival.moment sessions)
        (All-filter (is_recent arrival.moment) (IsKeptAfter setting sessions arrival) sessions all_stay)

    turned : (session : Session) (o : Option Why) → IsIdleOrOf (key_of w.ident) (recent_sessions arrival.moment sessions) session →
        All (IsKeptAfter setting sessions arrival) (in_turn setting.blocks w (piece_in arrival) arrival.mark arrival.moment rest session o).sessions
    turned session None finds =
        let result = outcome setting.blocks w.signature (piece_in arrival) session.taken rest in
        All-cons (IsKeptAfter setting sessions arrival) (session_after (piece_in arrival) arrival.mark arrival.moment session result) rest
        (after session result (former (key_of w.ident) session finds)
        (subst (λ k. is_of setting k arrival ≡ true) (sym finds.own) (is_own setting w arrival e of_one))) rest_stays
    turned session (Some why) finds = All-cons (IsKeptAfter setting sessions arrival) session rest
        (record { pieces = session.taken; marks = session.marks; former = former (key_of w.ident) session finds; after = inl (refl, refl) }) rest_stays

    of_one_stepped : All (IsKeptAfter setting sessions arrival)
        (session_step setting.sessions setting.blocks w (piece_in arrival) arrival.mark arrival.moment (recent_sessions arrival.moment sessions)).sessions
    unfolding session_step
    of_one_stepped = go (session_for setting.sessions (key_of w.ident) (piece_in arrival).tail arrival.moment (recent_sessions arrival.moment sessions)) refl where
      go : (r : Result Session Why) →
          session_for setting.sessions (key_of w.ident) (piece_in arrival).tail arrival.moment (recent_sessions arrival.moment sessions) ≡ r →
          All (IsKeptAfter setting sessions arrival)
          (at_session setting.blocks w (piece_in arrival) arrival.mark arrival.moment (recent_sessions arrival.moment sessions) r).sessions
      go (Err why) found = All-filter (is_recent arrival.moment) (IsKeptAfter setting sessions arrival) sessions all_stay
      go (Ok session) found = turned session (out_of_turn (piece_in arrival).tail session)
          (comes_to setting.sessions arrival.moment (key_of w.ident) (piece_in arrival).tail (recent_sessions arrival.moment sessions) session found)

pub stepped : (setting : Setting) (sessions : List Session) (arrival : Arrival) → All (IsKeptAfter setting sessions arrival) (next setting sessions arrival)
stepped setting sessions arrival = go (wanted setting.rows setting.me arrival.id) refl where
  go : (r : Result Wanted Why) → wanted setting.rows setting.me arrival.id ≡ r → All (IsKeptAfter setting sessions arrival) (next setting sessions arrival)
  go (Err why) e = subst (λ (x : Step). All (IsKeptAfter setting sessions arrival) x.sessions) (sym (unwanted setting sessions arrival why e)) (all_stay setting sessions arrival)
  go (Ok w) e = elim (cases_Bool (is_anonymous w.ident.kind)) [
    | inl alone ↦ subst (λ (x : Step). All (IsKeptAfter setting sessions arrival) x.sessions) (sym (anonymous setting sessions arrival w e alone)) (all_stay setting sessions arrival)
    | inr none ↦ subst (λ (x : Step). All (IsKeptAfter setting sessions arrival) x.sessions) (sym (of_session setting sessions arrival w e none))
        (of_one_stepped setting sessions arrival w e none)
  ]

-- ---- all that came

among-more : (frames all more : List Arrival) → AreAmong frames all → AreAmong frames (all ++ more)
among-more [] all more h = tt
among-more (frame ∷ frames) all more h =
    (h.0, h.1 ++ more, ap (λ xs. xs ++ more) h.2 ∙ append_assoc h.0 (frame ∷ h.1) more, among-more frames h.1 more h.3)

among-last : (frames all : List Arrival) (last : Arrival) → AreAmong frames all → AreAmong (frames ++ last ∷ []) (all ++ last ∷ [])
among-last [] all last h = (all, [], refl, tt)
among-last (frame ∷ frames) all last h =
    (h.0, h.1 ++ last ∷ [], ap (λ xs. xs ++ last ∷ []) h.2 ∙ append_assoc h.0 (frame ∷ h.1) (last ∷ []), among-last frames h.1 last h.3)

module _ (setting : Setting) (before : List Arrival) (arrival : Arrival) where
  -- a frame more
  of_more : (key : Key) → of_key setting key (before ++ arrival ∷ []) ≡ of_key setting key before ++ of_key setting key (arrival ∷ [])
  of_more key = filter-append (is_of setting key) before (arrival ∷ [])

  of_own : (key : Key) → is_of setting key arrival ≡ true → of_key setting key (before ++ arrival ∷ []) ≡ of_key setting key before ++ arrival ∷ []
  of_own key own = of_more key ∙ ap (λ b. of_key setting key before ++ cond b (arrival ∷ []) []) own

  -- what was kept before came with the key
  record Came (key : Key) (pieces : List Piece) (marks : List Mark) : Type 0 where
    frames : List Arrival
    among : AreAmong frames (of_key setting key before)
    taken : pieces ≡ map piece_in frames
    marked : marks ≡ map (λ (a : Arrival). a.mark) frames

  came_before : (sessions : List Session) (key : Key) (pieces : List Piece) (marks : List Mark) → All (CameWithKey setting before) sessions →
      AreFormer key sessions pieces marks → Came key pieces marks
  came_before sessions key pieces marks all (inl none) = record { frames = []; among = tt; taken = none.0; marked = none.1 }
  came_before sessions key pieces marks all (inr some) =
      let came = All-contains (CameWithKey setting before) sessions some.0 all some.1 in
      record {
        frames = came.frames;
        among = subst (λ k. AreAmong came.frames (of_key setting k before)) some.2 came.among;
        taken = sym some.3 ∙ came.taken;
        marked = sym some.4 ∙ came.marks;
      }

  came_after : (sessions : List Session) (session : Session) → All (CameWithKey setting before) sessions → IsKeptAfter setting sessions arrival session →
      CameWithKey setting (before ++ arrival ∷ []) session
  came_after sessions session all kept =
      let came = came_before sessions session.key kept.pieces kept.marks all kept.former in
      elim kept.after [
        | inl same ↦ record {
          frames = came.frames;
          among = subst (λ xs. AreAmong came.frames xs) (sym (of_more session.key))
              (among-more came.frames (of_key setting session.key before) (of_key setting session.key (arrival ∷ [])) came.among);
          taken = same.0 ∙ came.taken;
          marks = same.1 ∙ came.marked;
        }
        | inr more ↦ record {
          frames = came.frames ++ arrival ∷ [];
          among = subst (λ xs. AreAmong (came.frames ++ arrival ∷ []) xs) (sym (of_own session.key more.0))
              (among-last came.frames (of_key setting session.key before) arrival came.among);
          taken = more.1 ∙ ap (λ xs. xs ++ piece_in arrival ∷ []) came.taken ∙ sym (map-append piece_in came.frames (arrival ∷ []));
          marks = more.2 ∙ ap (λ xs. xs ++ arrival.mark ∷ []) came.marked ∙ sym (map-append (λ (a : Arrival). a.mark) came.frames (arrival ∷ []));
        }
      ]

pub came : (setting : Setting) (before arrivals : List Arrival) (sessions : List Session) → All (CameWithKey setting before) sessions →
    All (CameWithKey setting (before ++ arrivals)) (run setting sessions arrivals)
came setting before [] sessions all = subst (λ xs. All (CameWithKey setting xs) sessions) (sym (append-nil before)) all
came setting before (arrival ∷ arrivals) sessions all =
    subst (λ xs. All (CameWithKey setting xs) (run setting (next setting sessions arrival) arrivals)) (append_assoc before (arrival ∷ []) arrivals)
    (came setting (before ++ arrival ∷ []) arrivals (next setting sessions arrival)
    (λ k d h. came_after setting before arrival sessions _ all (stepped setting sessions arrival k d h)))
