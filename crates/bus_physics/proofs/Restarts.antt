-- A first frame of another transfer begins a session anew: so no such frame was made behind those that it keeps.
use Rattle.std.proofs.Common.{◌≡◌, ℕ, ◌≤◌, true, false, Bool, List, [], ◌∷◌, ◌++◌, refl, sym, ap, ◌∙◌, subst, inl, inr, arith}
use Rattle.std.specs.Prelude.{cond, not, Option, None, Some, Result, Ok, Err, nat_lt, length, if◌then◌else◌}
use Rattle.std.proofs.lemmas.Bool.{cases_Bool}
use Rattle.can_frame.specs.declared.mark.Mark.{Mark}
use Rattle.can_frame.specs.declared.step.Why.{Why}
use Rattle.can_frame.specs.declared.step.Why.TheVariants.{NoSession, Start}
use Rattle.can_frame.specs.declared.tail.Tail.{Tail}
use Rattle.can_frame.specs.Cutting.{piece_from}
use Rattle.can_frame.specs.Kinds.{is_anonymous}
use Rattle.raft_model.specs.Lists.{In}
use Rattle.transfer_rx.specs.declared.accept.Wanted.{Wanted}
use Rattle.transfer_rx.specs.declared.key.Key.{Key}
use Rattle.transfer_rx.specs.Acceptance.{wanted}
use Rattle.transfer_rx.specs.Keys.{key_of, same_key}
use Rattle.transfer_rx.specs.Outcome.{Delivers, Grows, Outcome, Spoils, out_of_turn, outcome}
use Rattle.transfer_rx.specs.Reassembly.{Arrival, Setting, Step, at_session, in_turn, next, piece_in, session_after, session_step}
use Rattle.transfer_rx.specs.Run.{has_session_key, is_of}
use Rattle.transfer_rx.specs.Sessions.{Session, continued, is_recent, new_session, others, recent_sessions, restarted_session, restarts, session_for, session_of}
use Rattle.transfer_rx.proofs.Completeness.{is_own}
use Rattle.transfer_rx.proofs.Found.{found-key, same_key-equal, same_key-true}
use Rattle.transfer_rx.proofs.Steps.{anonymous, of_session, unwanted}
use Rattle.transfer_tx.specs.Queue.{Queued}
use Rattle.bus_spec.specs.Cluster.{arrival_at}
use Rattle.bus_agreement.proofs.Lists.{in_append, never}
use Rattle.bus_physics.proofs.InTime.{filtered, found}

module _ (setting : Setting) (Asked : ℕ → Type 0) where
  -- a frame of a session's key
  abbrev pub Of : Key → Queued → Type 0
  Of key frame = is_of setting key (arrival_at frame 0) ≡ true

  pub at_any : (key : Key) (frame : Queued) (moment : ℕ) → is_of setting key (arrival_at frame moment) ≡ true → Of key frame
  unfolding is_of
  at_any key frame moment is = is

  -- Of the frames that were heard, one that would begin the session anew is of no later step than those that it keeps, where
  -- that is asked of the step of these.
  abbrev pub NoneLater : List Queued → Session → Type 0
  NoneLater heard s = (f : Queued) → In f heard → Of s.key f → restarts (piece_from f.bytes).tail s ≡ true → (m : Mark) → In m s.marks
      → Asked m.step → f.mark.step ≤ m.step

  module _ (heard : List Queued) (frame : Queued) (moment : ℕ)
      (order : Asked frame.mark.step → (f : Queued) (key : Key) → In f heard → Of key f → Of key frame → f.mark.step ≤ frame.mark.step) where
    abbrev arrival : Arrival
    arrival = arrival_at frame moment

    abbrev more : List Queued
    more = heard ++ frame ∷ []

    abbrev tail : Tail
    tail = (piece_from frame.bytes).tail

    stays : (s : Session) → NoneLater heard s → (Of s.key frame → restarts tail s ≡ true → ⊥) → NoneLater more s
    stays s none not_it f i of_it restart m j a = elim (in_append f heard (frame ∷ []) i) [
      | inl before ↦ none f before of_it restart m j a
      | inr (inl e) ↦ absurd (not_it (subst (λ (g : Queued). Of s.key g) e of_it) (subst (λ (g : Queued). restarts (piece_from g.bytes).tail s ≡ true) e restart))
      | inr (inr i) ↦ absurd i
    ]

    empty : (s : Session) → s.marks ≡ [] → NoneLater more s
    empty s none f i of_it restart m j a = absurd (subst (λ (l : List Mark). In m l) none j)

    last_is : (s : Session) → Of s.key frame → Asked frame.mark.step → (f : Queued) → In f more → Of s.key f → f.mark.step ≤ frame.mark.step
    last_is s own a f i of_it = elim (in_append f heard (frame ∷ []) i) [
      | inl before ↦ order a f s.key before of_it own
      | inr (inl e) ↦ omega (arith, ap (λ (g : Queued). g.mark.step) e)
      | inr (inr i) ↦ absurd i
    ]

    after : (s : Session) (result : Outcome) → Of s.key frame → NoneLater more s → NoneLater more (session_after (piece_in arrival) frame.mark moment s result)
    after s (Delivers payload) own none = empty (session_after (piece_in arrival) frame.mark moment s (Delivers payload)) refl
    after s Grows own none = λ f i of_it restart m j a. elim (in_append m s.marks (frame.mark ∷ []) j) [
      | inl old ↦ none f i of_it restart m old a
      | inr (inl e) ↦ omega (arith, ap (λ (x : Mark). x.step) e, last_is s own (subst (λ (x : Mark). Asked x.step) e a) f i of_it)
      | inr (inr i) ↦ absurd i
    ]
    after s (Spoils why) own none = empty (session_after (piece_in arrival) frame.mark moment s (Spoils why)) refl

    module _ (sessions : List Session) (before : (s : Session) → In s sessions → NoneLater heard s) where
      recent_before : (s : Session) → In s (recent_sessions moment sessions) → NoneLater heard s
      recent_before s i = before s (filtered (is_recent moment) sessions s i).0

      module _ (w : Wanted) (e : wanted setting.rows setting.me frame.id ≡ Ok w) (of_one : is_anonymous w.ident.kind ≡ false) where
        abbrev recent : List Session
        recent = recent_sessions moment sessions

        same_is : (key : Key) → Of key frame → same_key key (key_of w.ident) ≡ true
        unfolding is_of
        same_is key is = sym (ap (has_session_key key) e ∙ ap (λ (b : Bool). cond b false (same_key key (key_of w.ident))) of_one) ∙ is

        not_other : (s : Session) → not (same_key (key_of w.ident) s.key) ≡ true → Of s.key frame → ⊥
        not_other s other is = never (sym (ap not (turned_key s.key (key_of w.ident) (same_is s.key is))) ∙ other)
          where
            turned_key : (a b : Key) → same_key a b ≡ true → same_key b a ≡ true
            turned_key a b same = same_key-equal b a (sym (same_key-true a b same))

        none_there : (l : List Session) → session_of (key_of w.ident) l ≡ None → (s : Session) → In s l → not (same_key (key_of w.ident) s.key) ≡ true
        none_there [] gone s i = absurd i
        none_there (x ∷ l) gone s i = by (same_key (key_of w.ident) x.key) refl gone i (none_there l) where
          by : (b : Bool) → same_key (key_of w.ident) x.key ≡ b → cond b (Some x) (session_of (key_of w.ident) l) ≡ None → In s (x ∷ l)
              → (session_of (key_of w.ident) l ≡ None → (s : Session) → In s l → not (same_key (key_of w.ident) s.key) ≡ true)
              → not (same_key (key_of w.ident) s.key) ≡ true
          by true same gone i later = absurd (cc (gone))
          by false same gone (inl is) later = ap (λ (y : Session). not (same_key (key_of w.ident) y.key)) is ∙ ap not same
          by false same gone (inr i) later = later gone s i

        ok_is : (a b : Session) (r : Result Session Why) → r ≡ Ok a → r ≡ Ok b → a ≡ b
        ok_is a b r e f = cc (e, f)

        -- the session that the frame comes to
        pub record Base (s : Session) : Type 0 where
          pub key : s.key ≡ key_of w.ident
          pub none : NoneLater more s

        base : (s : Session) → session_for setting.sessions (key_of w.ident) tail moment recent ≡ Ok s → Base s
        unfolding session_for
        base s = by (session_of (key_of w.ident) recent) refl
          where
            begins : (start room : Bool) → (if start then (if room then Ok (new_session (key_of w.ident) tail moment) else Err NoSession) else Err Start) ≡ Ok s → Base s
            begins true true e = subst Base (ok_is (new_session (key_of w.ident) tail moment) s (Ok (new_session (key_of w.ident) tail moment)) refl e) (record { key = refl; none = empty (new_session (key_of w.ident) tail moment) refl })
            begins true false e = absurd (cc (e))
            begins false room e = absurd (cc (e))

            renewed : (own : Session) → In own recent → own.key ≡ key_of w.ident → (b : Bool) → restarts tail own ≡ b
                → (if b then record own { expected = tail.id; taken = []; marks = [] } else own) ≡ s → Base s
            renewed own i key true restart is = subst Base is (record { key = key; none = empty (record own { expected = tail.id; taken = []; marks = [] }) refl })
            renewed own i key false restart is = subst Base is (record {
              key = key;
              none = stays own (recent_before own i) (λ of_it again. never (sym restart ∙ again));
            })

            by : (o : Option Session) → session_of (key_of w.ident) recent ≡ o → continued setting.sessions (key_of w.ident) tail moment recent o ≡ Ok s → Base s
            by None there e = begins tail.start (nat_lt (length recent) setting.sessions) e
            by (Some own) there e = renewed own (found (key_of w.ident) recent own there) (found-key (key_of w.ident) recent own there) (restarts tail own) refl
                (ok_is (restarted_session tail own) s (Ok (restarted_session tail own)) refl e)

        abbrev rest : List Session
        rest = others (key_of w.ident) recent

        rest_stays : (s : Session) → In s rest → NoneLater more s
        rest_stays s i =
            let f = filtered (λ (x : Session). not (same_key (key_of w.ident) x.key)) recent s i in
            stays s (recent_before s f.0) (λ of_it again. not_other s f.1 of_it)

        turned : (s : Session) (o : Option Why) → Base s → (x : Session) → In x (in_turn setting.blocks w (piece_in arrival) frame.mark moment rest s o).sessions → NoneLater more x
        turned s None finds x (inl is) = subst (NoneLater more) (sym is)
            (after s (outcome setting.blocks w.signature (piece_in arrival) s.taken rest)
            (subst (λ (k : Key). Of k frame) (sym finds.key) (at_any (key_of w.ident) frame moment (is_own setting w arrival e of_one))) finds.none)
        turned s None finds x (inr i) = rest_stays x i
        turned s (Some why) finds x (inl is) = subst (NoneLater more) (sym is) finds.none
        turned s (Some why) finds x (inr i) = rest_stays x i

        refused : (why : Why) → session_for setting.sessions (key_of w.ident) tail moment recent ≡ Err why → session_of (key_of w.ident) recent ≡ None
        unfolding session_for
        refused why = by (session_of (key_of w.ident) recent) where
          by : (o : Option Session) → continued setting.sessions (key_of w.ident) tail moment recent o ≡ Err why → o ≡ None
          by None e = refl
          by (Some own) e = absurd (cc (e))

        of_one_stepped : (x : Session) → In x (session_step setting.sessions setting.blocks w (piece_in arrival) frame.mark moment recent).sessions → NoneLater more x
        unfolding session_step
        of_one_stepped = go (session_for setting.sessions (key_of w.ident) tail moment recent) refl where
          go : (r : Result Session Why) → session_for setting.sessions (key_of w.ident) tail moment recent ≡ r → (x : Session)
              → In x (at_session setting.blocks w (piece_in arrival) frame.mark moment recent r).sessions → NoneLater more x
          go (Err why) finds x i = stays x (recent_before x i) (λ of_it again. not_other x (none_there recent (refused why finds) x i) of_it)
          go (Ok s) finds x i = turned s (out_of_turn (piece_in arrival).tail s) (base s finds) x i

      -- a frame that comes to no session
      not_of : (key : Key) (r : Result Wanted Why) → wanted setting.rows setting.me frame.id ≡ r → has_session_key key r ≡ false → Of key frame → ⊥
      unfolding is_of
      not_of key r e none is = never (sym none ∙ (sym (ap (has_session_key key) e) ∙ is))

      pub restarted : (x : Session) → In x (next setting sessions arrival) → NoneLater more x
      restarted = go (wanted setting.rows setting.me frame.id) refl where
        go : (r : Result Wanted Why) → wanted setting.rows setting.me frame.id ≡ r → (x : Session) → In x (next setting sessions arrival) → NoneLater more x
        go (Err why) e x i =
            let there = subst (λ (y : Step). In x y.sessions) (unwanted setting sessions arrival why e) i in
            stays x (before x there) (λ of_it again. not_of x.key (Err why) e refl of_it)
        go (Ok w) e x i = elim (cases_Bool (is_anonymous w.ident.kind)) [
          | inl alone ↦
              let there = subst (λ (y : Step). In x y.sessions) (anonymous setting sessions arrival w e alone) i in
              stays x (before x there) (λ of_it again. not_of x.key (Ok w) e (ap (λ (b : Bool). if b then false else same_key x.key (key_of w.ident)) alone) of_it)
          | inr none ↦ of_one_stepped w e none x (subst (λ (y : Step). In x y.sessions) (of_session setting sessions arrival w e none) i)
        ]
