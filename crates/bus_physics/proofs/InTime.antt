-- The frames that the sessions of a receiver keep, each with the time at which it came: each came soon after the one
-- before it.
use Rattle.std.proofs.Common.{◌≡◌, ◌⊎◌, ℕ, ◌≤◌, true, false, Bool, List, [], ◌∷◌, ◌++◌, map, refl, sym, ap, ◌∙◌, subst, inl, inr}
use Rattle.std.specs.Prelude.{⊤, ◌-◌, cond, filter, Option, None, Some, Result, Ok, Err}
use Rattle.std.proofs.lemmas.Bool.{cases_Bool}
use Rattle.std.proofs.lemmas.Bool.Decides.{leb_tells}
use Rattle.std.proofs.lemmas.List.{map-append}
use Rattle.can_frame.specs.declared.mark.Mark.{Mark}
use Rattle.can_frame.specs.declared.step.Why.{Why}
use Rattle.can_frame.specs.Cutting.{Piece}
use Rattle.can_frame.specs.Kinds.{is_anonymous}
use Rattle.raft_model.specs.Lists.{In}
use Rattle.transfer_rx.specs.declared.accept.Wanted.{Wanted}
use Rattle.transfer_rx.specs.declared.key.Key.{Key}
use Rattle.transfer_rx.specs.Acceptance.{wanted}
use Rattle.transfer_rx.specs.Keys.{key_of, same_key}
use Rattle.transfer_rx.specs.Origin.{IsIdleOrOf}
use Rattle.transfer_rx.specs.Outcome.{Delivers, Grows, Outcome, Spoils, out_of_turn, outcome}
use Rattle.transfer_rx.specs.Reassembly.{Arrival, Setting, Step, at_session, in_turn, next, piece_in, session_after, session_step}
use Rattle.transfer_rx.specs.Run.{is_of}
use Rattle.transfer_rx.specs.Sessions.{Session, is_recent, others, recent_sessions, session_for, session_of}
use Rattle.transfer_rx.proofs.Completeness.{is_own}
use Rattle.transfer_rx.proofs.Origin.{comes_to}
use Rattle.transfer_rx.proofs.Steps.{anonymous, of_session, unwanted}
use Rattle.bus_agreement.proofs.Lists.{never}
use Rattle.bus_physics.specs.Physics.{Reading}

-- a frame as it came, and when
pub record Heard : Type 0 where
  pub arrival : Arrival
  pub at : ℕ

-- each came so close behind the one before it
abbrev pub AreClose : (ℕ → ℕ → Type 0) → List Heard → Type 0
AreClose Close [] = ⊤
AreClose Close (h ∷ []) = ⊤
AreClose Close (h ∷ k ∷ rest) = Close h.at k.at × AreClose Close (k ∷ rest)

-- the last one came at this reading
abbrev pub LastCameAt : List Reading → ℕ → List Heard → Type 0
LastCameAt past moment [] = ⊤
LastCameAt past moment (h ∷ []) = In (record { at = h.at; now = moment; opens = false }) past
LastCameAt past moment (h ∷ k ∷ rest) = LastCameAt past moment (k ∷ rest)

pub record IsInTime (P : Key → Heard → Type 0) (Close : ℕ → ℕ → Type 0) (past : List Reading) (session : Session) : Type 0 where
  pub heard : List Heard
  pub each : (h : Heard) → In h heard → P session.key h
  pub taken : session.taken ≡ map (λ (h : Heard). piece_in h.arrival) heard
  pub marks : session.marks ≡ map (λ (h : Heard). h.arrival.mark) heard
  pub close : AreClose Close heard
  pub ends : LastCameAt past session.moment heard

-- ---- lists

pub filtered : {A : Type 0} (test : A → Bool) (xs : List A) (x : A) → In x (filter test xs) → In x xs × (test x ≡ true)
filtered test [] x i = absurd i
filtered {A} test (y ∷ ys) x i = by (test y) refl i (filtered test ys x) where
  by : (b : Bool) → test y ≡ b → In x (cond b (y ∷ filter test ys) (filter test ys)) → (In x (filter test ys) → In x ys × (test x ≡ true))
      → In x (y ∷ ys) × (test x ≡ true)
  by true e (inl same) later = (inl same, ap test same ∙ e)
  by true e (inr j) later = let r = later j in (inr r.0, r.1)
  by false e j later = let r = later j in (inr r.0, r.1)

some_is : (x y : Session) → Some x ≡ Some y → x ≡ y
some_is x y e = cc (e)

pub found : (key : Key) (sessions : List Session) (session : Session) → session_of key sessions ≡ Some session → In session sessions
found key [] session e = absurd (cc (e))
found key (first ∷ rest) session e = by (same_key key first.key) e (found key rest session) where
  by : (b : Bool) → cond b (Some first) (session_of key rest) ≡ Some session → (session_of key rest ≡ Some session → In session rest)
      → In session (first ∷ rest)
  by true e later = inl (sym (some_is first session e))
  by false e later = inr (later e)

-- ---- one frame more

module _ (Close : ℕ → ℕ → Type 0) (past : List Reading) (at now : ℕ)
    (soon : (p : Reading) → In p past → now - p.now ≤ 2000 → Close p.at at) (arrival : Arrival) where
  pub close_more : (heard : List Heard) (moment : ℕ) → now - moment ≤ 2000 → AreClose Close heard → LastCameAt past moment heard
      → AreClose Close (heard ++ record { arrival = arrival; at = at } ∷ [])
  close_more [] moment recent close ends = tt
  close_more (h ∷ []) moment recent close ends = (soon (record { at = h.at; now = moment; opens = false }) ends recent, tt)
  close_more (h ∷ k ∷ rest) moment recent close ends = (close.0, close_more (k ∷ rest) moment recent close.1 ends)

module _ (later : List Reading) (at now : ℕ) (last : In (record { at = at; now = now; opens = false }) later) (arrival : Arrival) where
  ends_more : (heard : List Heard) → LastCameAt later now (heard ++ record { arrival = arrival; at = at } ∷ [])
  ends_more [] = last
  ends_more (h ∷ []) = last
  ends_more (h ∷ k ∷ rest) = ends_more (k ∷ rest)

-- ---- the session that a frame comes to, as it was

abbrev pub IsIdle : Session → Type 0
IsIdle session = (session.taken ≡ []) × (session.marks ≡ [])

module _ (P : Key → Heard → Type 0) (Close : ℕ → ℕ → Type 0) (past : List Reading) (sessions : List Session)
    (before : (session : Session) → In session sessions → IsInTime P Close past session) (now : ℕ) where
  abbrev pub IsYoung : Session → Type 0
  IsYoung session = IsInTime P Close past session × (now - session.moment ≤ 2000)

  pub comes : (key : Key) (session : Session) → IsIdleOrOf key (recent_sessions now sessions) session → IsIdle session ⊎ IsYoung session
  comes key session is = by is.idle_or_there where
    by : ((session.taken ≡ []) × (session.marks ≡ [])) ⊎ (session_of key (recent_sessions now sessions) ≡ Some session) → IsIdle session ⊎ IsYoung session
    by (inl none) = inl none
    by (inr there) =
        let f = filtered (is_recent now) sessions session (found key (recent_sessions now sessions) session there) in
        inr (before session f.0, elim (leb_tells (now - session.moment) 2000) [ inl young ↦ young.1 | inr old ↦ never (sym old.0 ∙ f.1) ])

ends_later : (past later : List Reading) → ((p : Reading) → In p past → In p later) → (moment : ℕ) (heard : List Heard) → LastCameAt past moment heard
    → LastCameAt later moment heard
ends_later past later more moment [] ends = tt
ends_later past later more moment (h ∷ []) ends = more (record { at = h.at; now = moment; opens = false }) ends
ends_later past later more moment (h ∷ k ∷ rest) ends = ends_later past later more moment (k ∷ rest) ends

-- what is known of frames, and which readings there were, may grow
pub still : (P Q : Key → Heard → Type 0) → ((key : Key) (h : Heard) → P key h → Q key h) → (Close : ℕ → ℕ → Type 0) (past later : List Reading)
    → ((p : Reading) → In p past → In p later) → (session : Session) → IsInTime P Close past session → IsInTime Q Close later session
still P Q known Close past later more session is = record {
  heard = is.heard;
  each = λ h i. known session.key h (is.each h i);
  taken = is.taken;
  marks = is.marks;
  close = is.close;
  ends = ends_later past later more session.moment is.heard is.ends;
}

idle : (Q : Key → Heard → Type 0) (Close : ℕ → ℕ → Type 0) (later : List Reading) (session : Session) → session.taken ≡ [] → session.marks ≡ [] → IsInTime Q Close later session
idle Q Close later session taken marks = record { heard = []; each = λ h i. absurd i; taken = taken; marks = marks; close = tt; ends = tt }

-- ---- a step

module _ (P Q : Key → Heard → Type 0) (known : (key : Key) (h : Heard) → P key h → Q key h) (Close : ℕ → ℕ → Type 0) (past later : List Reading)
    (more : (p : Reading) → In p past → In p later) (setting : Setting) (sessions : List Session)
    (before : (session : Session) → In session sessions → IsInTime P Close past session) (arrival : Arrival) (at : ℕ)
    (last : In (record { at = at; now = arrival.moment; opens = false }) later)
    (soon : (p : Reading) → In p past → arrival.moment - p.now ≤ 2000 → Close p.at at)
    (own : (key : Key) → is_of setting key arrival ≡ true → Q key (record { arrival = arrival; at = at })) where
  abbrev Then : Session → Type 0
  Then session = IsInTime Q Close later session

  stays : (session : Session) → In session sessions → Then session
  stays session i = still P Q known Close past later more session (before session i)

  recent_stays : (session : Session) → In session (recent_sessions arrival.moment sessions) → Then session
  recent_stays session i = stays session (filtered (is_recent arrival.moment) sessions session i).0

  grown_from : (session : Session) → is_of setting session.key arrival ≡ true
      → IsIdle session ⊎ IsYoung P Close past sessions before arrival.moment session
      → Then (session_after (piece_in arrival) arrival.mark arrival.moment session Grows)
  grown_from session of_it (inl none) = record {
    heard = record { arrival = arrival; at = at } ∷ [];
    each = one;
    taken = ap (λ (l : List Piece). l ++ piece_in arrival ∷ []) none.0;
    marks = ap (λ (l : List Mark). l ++ arrival.mark ∷ []) none.1;
    close = tt;
    ends = last;
  }
    where
      one : (h : Heard) → In h (record { arrival = arrival; at = at } ∷ []) → Q session.key h
      one h (inl e) = subst (λ (g : Heard). Q session.key g) (sym e) (own session.key of_it)
      one h (inr i) = absurd i
  grown_from session of_it (inr is) = record {
    heard = is.0.heard ++ record { arrival = arrival; at = at } ∷ [];
    each = all_of is.0.heard (λ h i. known session.key h (is.0.each h i));
    taken = ap (λ (l : List Piece). l ++ piece_in arrival ∷ []) is.0.taken
        ∙ sym (map-append (λ (h : Heard). piece_in h.arrival) is.0.heard (record { arrival = arrival; at = at } ∷ []));
    marks = ap (λ (l : List Mark). l ++ arrival.mark ∷ []) is.0.marks
        ∙ sym (map-append (λ (h : Heard). h.arrival.mark) is.0.heard (record { arrival = arrival; at = at } ∷ []));
    close = close_more Close past at arrival.moment soon arrival is.0.heard session.moment is.1 is.0.close is.0.ends;
    ends = ends_more later at arrival.moment last arrival is.0.heard;
  }
    where
      all_of : (hs : List Heard) → ((h : Heard) → In h hs → Q session.key h) → (h : Heard) → In h (hs ++ record { arrival = arrival; at = at } ∷ []) → Q session.key h
      all_of [] each h (inl e) = subst (λ (g : Heard). Q session.key g) (sym e) (own session.key of_it)
      all_of [] each h (inr i) = absurd i
      all_of (g ∷ hs) each h (inl e) = each h (inl e)
      all_of (g ∷ hs) each h (inr i) = all_of hs (λ f j. each f (inr j)) h i

  after : (session : Session) (result : Outcome) → is_of setting session.key arrival ≡ true
      → IsIdle session ⊎ IsYoung P Close past sessions before arrival.moment session
      → Then (session_after (piece_in arrival) arrival.mark arrival.moment session result)
  after session (Delivers payload) of_it was = idle Q Close later _ refl refl
  after session Grows of_it was = grown_from session of_it was
  after session (Spoils why) of_it was = idle Q Close later _ refl refl

  unchanged : (session : Session)
      → IsIdle session ⊎ IsYoung P Close past sessions before arrival.moment session → Then session
  unchanged session (inl none) = idle Q Close later session none.0 none.1
  unchanged session (inr is) = still P Q known Close past later more session is.0

  module _ (w : Wanted) (e : wanted setting.rows setting.me arrival.id ≡ Ok w) (of_one : is_anonymous w.ident.kind ≡ false) where
    abbrev rest : List Session
    rest = others (key_of w.ident) (recent_sessions arrival.moment sessions)

    rest_stays : (session : Session) → In session rest → Then session
    rest_stays session i = recent_stays session (filtered _ (recent_sessions arrival.moment sessions) session i).0

    turned : (session : Session) (o : Option Why) → IsIdleOrOf (key_of w.ident) (recent_sessions arrival.moment sessions) session → (s : Session)
        → In s (in_turn setting.blocks w (piece_in arrival) arrival.mark arrival.moment rest session o).sessions → Then s
    turned session None finds s (inl is) = subst Then (sym is)
        (after session (outcome setting.blocks w.signature (piece_in arrival) session.taken rest)
        (subst (λ (k : Key). is_of setting k arrival ≡ true) (sym finds.own) (is_own setting w arrival e of_one)) (comes P Close past sessions before arrival.moment (key_of w.ident) session finds))
    turned session None finds s (inr i) = rest_stays s i
    turned session (Some why) finds s (inl is) = subst Then (sym is) (unchanged session (comes P Close past sessions before arrival.moment (key_of w.ident) session finds))
    turned session (Some why) finds s (inr i) = rest_stays s i

    of_one_stepped : (s : Session)
        → In s (session_step setting.sessions setting.blocks w (piece_in arrival) arrival.mark arrival.moment (recent_sessions arrival.moment sessions)).sessions → Then s
    unfolding session_step
    of_one_stepped = go (session_for setting.sessions (key_of w.ident) (piece_in arrival).tail arrival.moment (recent_sessions arrival.moment sessions)) refl where
      go : (r : Result Session Why)
          → session_for setting.sessions (key_of w.ident) (piece_in arrival).tail arrival.moment (recent_sessions arrival.moment sessions) ≡ r → (s : Session)
          → In s (at_session setting.blocks w (piece_in arrival) arrival.mark arrival.moment (recent_sessions arrival.moment sessions) r).sessions → Then s
      go (Err why) finds s i = recent_stays s i
      go (Ok session) finds s i = turned session (out_of_turn (piece_in arrival).tail session)
          (comes_to setting.sessions arrival.moment (key_of w.ident) (piece_in arrival).tail (recent_sessions arrival.moment sessions) session finds) s i

  pub stepped : (s : Session) → In s (next setting sessions arrival) → Then s
  stepped = go (wanted setting.rows setting.me arrival.id) refl where
    go : (r : Result Wanted Why) → wanted setting.rows setting.me arrival.id ≡ r → (s : Session) → In s (next setting sessions arrival) → Then s
    go (Err why) e s i = stays s (subst (λ (x : Step). In s x.sessions) (unwanted setting sessions arrival why e) i)
    go (Ok w) e s i = elim (cases_Bool (is_anonymous w.ident.kind)) [
      | inl alone ↦ stays s (subst (λ (x : Step). In s x.sessions) (anonymous setting sessions arrival w e alone) i)
      | inr none ↦ of_one_stepped w e none s (subst (λ (x : Step). In s x.sessions) (of_session setting sessions arrival w e none) i)
    ]
