-- A step without marks is the step, without marks.
use Rattle.std.proofs.Common.{◌≡◌, ℕ, ◌+◌, true, false, Bool, not, ◌&&◌, List, [], ◌∷◌, length, map, cond, nat_lt, refl, sym, ap, ◌∙◌, inl, inr}
use Rattle.std.specs.Prelude.{Option, None, Some, Result, Ok, Err, filter, option_map}
use Rattle.std.proofs.lemmas.Bool.{cases_Bool}
use Rattle.std.proofs.lemmas.List.{length-map}
use Rattle.std.proofs.lemmas.List.Sums.{sum_by-cons}
use Rattle.can_frame.specs.declared.identifier.Ident.{Ident}
use Rattle.can_frame.specs.declared.mark.Mark.{Mark}
use Rattle.can_frame.specs.declared.step.Why.{Why}
use Rattle.can_frame.specs.declared.step.Why.TheVariants.{NoSession, Start, Toggle}
use Rattle.can_frame.specs.declared.tail.Tail.{Tail}
use Rattle.can_frame.specs.Cutting.{Piece}
use Rattle.can_frame.specs.Kinds.{is_anonymous}
use Rattle.transfer_rx.specs.declared.accept.Wanted.{Wanted}
use Rattle.transfer_rx.specs.declared.key.Key.{Key}
use Rattle.transfer_rx.specs.Acceptance.{wanted}
use Rattle.transfer_rx.specs.Keys.{key_of, same_key}
use Rattle.transfer_rx.specs.Marks.{is_whole}
use Rattle.transfer_rx.specs.Outcome.{Delivers, Grows, Outcome, Spoils, blocks_used, out_of_turn, outcome, session_blocks}
use Rattle.transfer_rx.specs.Reassembly.{Answer, Arrival, Drops, Gives, Setting, Step, alone, answer, answer_of, at_session, by_kind, in_turn, of_wanted, piece_in, session_after, session_step, step}
use Rattle.transfer_rx.specs.Sessions.{Session, continued, is_recent, new_session, others, recent_sessions, restarts, session_for, session_of}
use Rattle.transfer_rx.specs.Unmarked.{no_mark, unmarked, unmarked_answer, unmarked_arrival}

filter-unmarked : (p : Session → Bool) → ((s : Session) → p (unmarked s) ≡ p s) → (sessions : List Session) → filter p (map unmarked sessions) ≡ map unmarked (filter p sessions)
filter-unmarked p same [] = refl
filter-unmarked p same (s ∷ sessions) = elim (cases_Bool (p s)) [
  | inl t ↦ let t' : p s ≡ true = t in rw (same s, t') (ap (λ rest. unmarked s ∷ rest) (filter-unmarked p same sessions))
  | inr f ↦ let f' : p s ≡ false = f in rw (same s, f') (filter-unmarked p same sessions)
]

remembered-unmarked : (now : ℕ) (sessions : List Session) → recent_sessions now (map unmarked sessions) ≡ map unmarked (recent_sessions now sessions)
remembered-unmarked now sessions = filter-unmarked (is_recent now) (λ s. refl) sessions

others-unmarked : (key : Key) (sessions : List Session) → others key (map unmarked sessions) ≡ map unmarked (others key sessions)
others-unmarked key sessions = filter-unmarked (λ session. not (same_key key session.key)) (λ s. refl) sessions

session_of-unmarked : (key : Key) (sessions : List Session) → session_of key (map unmarked sessions) ≡ option_map unmarked (session_of key sessions)
session_of-unmarked key [] = refl
session_of-unmarked key (s ∷ sessions) = elim (cases_Bool (same_key key s.key)) [
  | inl t ↦ let t' : same_key key s.key ≡ true = t in rw t' refl
  | inr f ↦ let f' : same_key key s.key ≡ false = f in rw f' (session_of-unmarked key sessions)
]

blocks-unmarked : (sessions : List Session) → blocks_used (map unmarked sessions) ≡ blocks_used sessions
unfolding blocks_used
blocks-unmarked [] = refl
blocks-unmarked (s ∷ sessions) =
    sum_by-cons session_blocks (unmarked s) (map unmarked sessions) ∙ ap (λ n. session_blocks s + n) (blocks-unmarked sessions)
    ∙ sym (sum_by-cons session_blocks s sessions)

abbrev unmarked_found : Result Session Why → Result Session Why
unmarked_found (Ok session) = Ok (unmarked session)
unmarked_found (Err why) = Err why

abbrev as_ok : Session → Result Session Why
as_ok s = Ok s

begun-unmarked : (key : Key) (tail : Tail) (now : ℕ) (start room : Bool) →
    cond start (cond room (Ok (new_session key tail now)) (Err NoSession)) (Err Start) ≡ unmarked_found (cond start (cond room (Ok (new_session key tail now)) (Err NoSession)) (Err Start))
begun-unmarked key tail now true true = refl
begun-unmarked key tail now true false = refl
begun-unmarked key tail now false room = refl

restarted-unmarked : (tail : Tail) (session : Session) (restart : Bool) →
    cond restart (record (unmarked session) { expected = tail.id; taken = []; marks = [] }) (unmarked session)
    ≡ unmarked (cond restart (record session { expected = tail.id; taken = []; marks = [] }) session)
restarted-unmarked tail session true = refl
restarted-unmarked tail session false = refl

continued-unmarked : (most : ℕ) (key : Key) (tail : Tail) (now : ℕ) (sessions : List Session) (o : Option Session) →
    continued most key tail now (map unmarked sessions) (option_map unmarked o) ≡ unmarked_found (continued most key tail now sessions o)
continued-unmarked most key tail now sessions None =
    ap (λ n. cond tail.start (cond (nat_lt n most) (Ok (new_session key tail now)) (Err NoSession)) (Err Start)) (length-map sessions unmarked)
    ∙ begun-unmarked key tail now tail.start (nat_lt (length sessions) most)
continued-unmarked most key tail now sessions (Some session) = ap as_ok (restarted-unmarked tail session (restarts tail session))

session_for-unmarked : (most : ℕ) (key : Key) (tail : Tail) (now : ℕ) (sessions : List Session) →
    session_for most key tail now (map unmarked sessions) ≡ unmarked_found (session_for most key tail now sessions)
unfolding session_for
session_for-unmarked most key tail now sessions =
    ap (continued most key tail now (map unmarked sessions)) (session_of-unmarked key sessions) ∙ continued-unmarked most key tail now sessions (session_of key sessions)

outcome-unmarked : (blocks signature : ℕ) (piece : Piece) (taken : List Piece) (rest : List Session) →
    outcome blocks signature piece taken (map unmarked rest) ≡ outcome blocks signature piece taken rest
unfolding outcome
outcome-unmarked blocks signature piece taken rest = rw (blocks-unmarked rest) refl

-- a step without marks
abbrev pub unmarked_step : Step → Step
unmarked_step s = record { answer = unmarked_answer s.answer; sessions = map unmarked s.sessions }

judged : (ident : Ident) (piece : Piece) (mark : Mark) (now : ℕ) (session : Session) (rest : List Session) (result : Outcome) →
    unmarked_step (record { answer = answer_of ident piece mark session result; sessions = session_after piece mark now session result ∷ rest })
    ≡ unmarked_step (record { answer = answer_of ident piece no_mark (unmarked session) result; sessions = session_after piece no_mark now (unmarked session) result ∷ rest })
judged ident piece mark now session rest (Delivers payload) = refl
judged ident piece mark now session rest Grows = refl
judged ident piece mark now session rest (Spoils why) = refl

unmarked-own : (sessions : List Session) → map unmarked (map unmarked sessions) ≡ map unmarked sessions
unmarked-own [] = refl
unmarked-own (s ∷ sessions) = ap (λ rest. unmarked s ∷ rest) (unmarked-own sessions)

abbrev the_step : Answer → List Session → Step
the_step answer sessions = record { answer = answer; sessions = sessions }

judged-unmarked : (ident : Ident) (piece : Piece) (mark : Mark) (now : ℕ) (session : Session) (rest : List Session) (result : Outcome) →
    unmarked_step (the_step (answer_of ident piece mark session result) (session_after piece mark now session result ∷ rest))
    ≡ unmarked_step (the_step (answer_of ident piece no_mark (unmarked session) result) (session_after piece no_mark now (unmarked session) result ∷ map unmarked rest))
judged-unmarked ident piece mark now session rest result =
    judged ident piece mark now session rest result
    ∙ ap (λ more. the_step (unmarked_answer (answer_of ident piece no_mark (unmarked session) result)) (unmarked (session_after piece no_mark now (unmarked session) result) ∷ more))
    (sym (unmarked-own rest))

in_turn-unmarked : (blocks : ℕ) (w : Wanted) (piece : Piece) (mark : Mark) (now : ℕ) (rest : List Session) (session : Session) (o : Option Why) →
    unmarked_step (in_turn blocks w piece mark now rest session o) ≡ unmarked_step (in_turn blocks w piece no_mark now (map unmarked rest) (unmarked session) o)
in_turn-unmarked blocks w piece mark now rest session None =
    judged-unmarked w.ident piece mark now session rest (outcome blocks w.signature piece session.taken rest)
    ∙ ap (λ result. unmarked_step (the_step (answer_of w.ident piece no_mark (unmarked session) result) (session_after piece no_mark now (unmarked session) result ∷ map unmarked rest)))
    (sym (outcome-unmarked blocks w.signature piece session.taken rest))
in_turn-unmarked blocks w piece mark now rest session (Some why) = ap (λ more. the_step (Drops why) (unmarked session ∷ more)) (sym (unmarked-own rest))

at_session-unmarked : (blocks : ℕ) (w : Wanted) (piece : Piece) (mark : Mark) (now : ℕ) (sessions : List Session) (r : Result Session Why) →
    unmarked_step (at_session blocks w piece mark now sessions r) ≡ unmarked_step (at_session blocks w piece no_mark now (map unmarked sessions) (unmarked_found r))
at_session-unmarked blocks w piece mark now sessions (Err why) = ap (the_step (Drops why)) (sym (unmarked-own sessions))
at_session-unmarked blocks w piece mark now sessions (Ok session) =
    in_turn-unmarked blocks w piece mark now (others (key_of w.ident) sessions) session (out_of_turn piece.tail session)
    ∙ ap (λ rest. unmarked_step (in_turn blocks w piece no_mark now rest (unmarked session) (out_of_turn piece.tail session))) (sym (others-unmarked (key_of w.ident) sessions))

session_step-unmarked : (most blocks : ℕ) (w : Wanted) (piece : Piece) (mark : Mark) (now : ℕ) (sessions : List Session) →
    unmarked_step (session_step most blocks w piece mark now sessions) ≡ unmarked_step (session_step most blocks w piece no_mark now (map unmarked sessions))
unfolding session_step
session_step-unmarked most blocks w piece mark now sessions =
    at_session-unmarked blocks w piece mark now sessions (session_for most (key_of w.ident) piece.tail now sessions)
    ∙ ap (λ r. unmarked_step (at_session blocks w piece no_mark now (map unmarked sessions) r)) (sym (session_for-unmarked most (key_of w.ident) piece.tail now sessions))

abbrev given : Ident → Piece → Mark → Answer
given ident piece mark = Gives (record { ident = ident; id = piece.tail.id; payload = piece.bytes; mark = mark; whole = is_whole (mark ∷ []) })

alone-unmarked : (ident : Ident) (piece : Piece) (mark : Mark) (whole toggle : Bool) →
    unmarked_answer (cond whole (cond toggle (Drops Toggle) (given ident piece mark)) (Drops Start)) ≡ unmarked_answer (cond whole (cond toggle (Drops Toggle) (given ident piece no_mark)) (Drops Start))
alone-unmarked ident piece mark true true = refl
alone-unmarked ident piece mark true false = refl
alone-unmarked ident piece mark false toggle = refl

by_kind-unmarked : (setting : Setting) (w : Wanted) (arrival : Arrival) (sessions : List Session) (anonymous : Bool) →
    unmarked_step (by_kind setting w arrival sessions anonymous) ≡ unmarked_step (by_kind setting w (unmarked_arrival arrival) (map unmarked sessions) anonymous)
by_kind-unmarked setting w arrival sessions true =
    ap (λ answer. the_step answer (map unmarked sessions)) (alone-unmarked w.ident (piece_in arrival) arrival.mark ((piece_in arrival).tail.start && (piece_in arrival).tail.end) (piece_in arrival).tail.toggle)
    ∙ ap (the_step (unmarked_answer (alone w.ident (piece_in arrival) no_mark))) (sym (unmarked-own sessions))
by_kind-unmarked setting w arrival sessions false =
    session_step-unmarked setting.sessions setting.blocks w (piece_in arrival) arrival.mark arrival.moment (recent_sessions arrival.moment sessions)
    ∙ ap (λ left. unmarked_step (session_step setting.sessions setting.blocks w (piece_in arrival) no_mark arrival.moment left)) (sym (remembered-unmarked arrival.moment sessions))

of_wanted-unmarked : (setting : Setting) (arrival : Arrival) (sessions : List Session) (r : Result Wanted Why) →
    unmarked_step (of_wanted setting arrival sessions r) ≡ unmarked_step (of_wanted setting (unmarked_arrival arrival) (map unmarked sessions) r)
of_wanted-unmarked setting arrival sessions (Err why) = ap (the_step (Drops why)) (sym (unmarked-own sessions))
of_wanted-unmarked setting arrival sessions (Ok w) = by_kind-unmarked setting w arrival sessions (is_anonymous w.ident.kind)

step-unmarked : (setting : Setting) (sessions : List Session) (arrival : Arrival) →
    unmarked_step (step setting sessions arrival) ≡ unmarked_step (step setting (map unmarked sessions) (unmarked_arrival arrival))
unfolding step
step-unmarked setting sessions arrival = of_wanted-unmarked setting arrival sessions (wanted setting.rows setting.me arrival.id)

pub same_steps : (setting : Setting) (a b : List Session) (x y : Arrival) → map unmarked a ≡ map unmarked b → unmarked_arrival x ≡ unmarked_arrival y →
    unmarked_step (step setting a x) ≡ unmarked_step (step setting b y)
same_steps setting a b x y sessions arrivals =
    step-unmarked setting a x ∙ (λ i. unmarked_step (step setting (sessions i) (arrivals i))) ∙ sym (step-unmarked setting b y)
