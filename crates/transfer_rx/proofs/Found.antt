-- Sessions found by their key.
use Rattle.std.proofs.Common.{◌≡◌, ◌≢◌, ℕ, ◌+◌, true, false, Bool, not, ◌&&◌, List, [], ◌∷◌, refl, sym, ap, ◌∙◌, arith, subst, cond, length, inl, inr}
use Rattle.std.specs.Prelude.{None, Some, filter}
use Rattle.std.specs.List.{sum_by}
use Rattle.std.proofs.lemmas.Bool.{cases_Bool, eq-eqb, eqb-true}
use Rattle.std.proofs.lemmas.List.Sums.{sum_by-cons}
use Rattle.can_frame.specs.declared.identifier.Kind.{Kind}
use Rattle.can_frame.specs.declared.identifier.Kind.TheVariants.{Message, Anonymous, Request, Response}
use Rattle.transfer_rx.specs.declared.key.Key.{Key}
use Rattle.transfer_rx.specs.Keys.{kind_number, same_key, same_kind}
use Rattle.transfer_rx.specs.Places.{counted}
use Rattle.transfer_rx.specs.Sessions.{AreDifferent, Session, others, session_of}

-- ---- keys

and_both : (a b : Bool) → a && b ≡ true → (a ≡ true) × (b ≡ true)
and_both true b h = (refl, h)
and_both false b h = cc

kinds : (a b : Kind) → kind_number a ≡ kind_number b → a ≡ b
kinds Message Message h = refl
kinds Message Anonymous h = absurd (omega arith)
kinds Message Request h = absurd (omega arith)
kinds Message Response h = absurd (omega arith)
kinds Anonymous Message h = absurd (omega arith)
kinds Anonymous Anonymous h = refl
kinds Anonymous Request h = absurd (omega arith)
kinds Anonymous Response h = absurd (omega arith)
kinds Request Message h = absurd (omega arith)
kinds Request Anonymous h = absurd (omega arith)
kinds Request Request h = refl
kinds Request Response h = absurd (omega arith)
kinds Response Message h = absurd (omega arith)
kinds Response Anonymous h = absurd (omega arith)
kinds Response Request h = absurd (omega arith)
kinds Response Response h = refl

pub same_key-true : (a b : Key) → same_key a b ≡ true → a ≡ b
same_key-true a b h =
    let one = and_both (same_kind a.kind b.kind) _ h in
    let two = and_both _ _ one.1 in
    let kind : a.kind ≡ b.kind = kinds a.kind b.kind (eqb-true _ _ one.0) in
    let number : a.number ≡ b.number = eqb-true _ _ two.0 in
    let source : a.source ≡ b.source = eqb-true _ _ two.1 in
    λ i. record { kind = kind i; number = number i; source = source i }

pub same_key-own : (key : Key) → same_key key key ≡ true
same_key-own key =
    rw (eq-eqb (kind_number key.kind) (kind_number key.kind) refl, eq-eqb key.number key.number refl, eq-eqb key.source key.source refl) refl

pub same_key-equal : (a b : Key) → a ≡ b → same_key a b ≡ true
same_key-equal a b e = subst (λ k. same_key a k ≡ true) e (same_key-own a)

pub same_key-ne : (a b : Key) → a ≢ b → same_key a b ≡ false
same_key-ne a b h = elim (cases_Bool (same_key a b)) [
  | inl t ↦ absurd (h (same_key-true a b t))
  | inr f ↦ f
]

pub ne-same_key : (a b : Key) → same_key a b ≡ false → a ≢ b
ne-same_key a b h e = let t : same_key a b ≡ true = same_key-equal a b e in absurd cc

-- ---- the session of a key

-- what is found has the key
pub found-key : (key : Key) (sessions : List Session) (session : Session) → session_of key sessions ≡ Some session → session.key ≡ key
found-key key [] session h = absurd cc
found-key key (first ∷ sessions) session h = elim (cases_Bool (same_key key first.key)) [
  | inl t ↦
      let t' : same_key key first.key ≡ true = t in
      let e : Some first ≡ Some session = rw t' at h in
      let s : first ≡ session = cc in
      ap (λ (x : Session). x.key) (sym s) ∙ sym (same_key-true key first.key t)
  | inr f ↦ let f' : same_key key first.key ≡ false = f in let e : session_of key sessions ≡ Some session = rw f' at h in found-key key sessions session e
]

pub session_of-others_own : (key : Key) (sessions : List Session) → session_of key (others key sessions) ≡ None
session_of-others_own key [] = refl
session_of-others_own key (first ∷ sessions) = elim (cases_Bool (same_key key first.key)) [
  | inl t ↦ let t' : same_key key first.key ≡ true = t in rw t' (session_of-others_own key sessions)
  | inr f ↦ let f' : same_key key first.key ≡ false = f in rw (f', f') (session_of-others_own key sessions)
]

pub session_of-others : (a b : Key) (sessions : List Session) → a ≢ b → session_of a (others b sessions) ≡ session_of a sessions
session_of-others a b [] ne = refl
session_of-others a b (first ∷ sessions) ne = elim (cases_Bool (same_key b first.key)) [
  | inl t ↦
      let t' : same_key b first.key ≡ true = t in
      let f : same_key a first.key ≡ false = same_key-ne a first.key (λ e. ne (e ∙ sym (same_key-true b first.key t))) in
      rw (t', f) (session_of-others a b sessions ne)
  | inr f ↦
      let f' : same_key b first.key ≡ false = f in
      rw f' (ap (λ o. cond (same_key a first.key) (Some first) o) (session_of-others a b sessions ne))
]

pub others-none : (key : Key) (sessions : List Session) → session_of key sessions ≡ None → others key sessions ≡ sessions
others-none key [] h = refl
others-none key (first ∷ sessions) h = elim (cases_Bool (same_key key first.key)) [
  | inl t ↦ let t' : same_key key first.key ≡ true = t in let e : Some first ≡ None = rw t' at h in absurd cc
  | inr f ↦
      let f' : same_key key first.key ≡ false = f in
      let e : session_of key sessions ≡ None = rw f' at h in
      rw f' (ap (λ rest. first ∷ rest) (others-none key sessions e))
]

pub filter-filter : (p q : Session → Bool) (sessions : List Session) → filter p (filter q sessions) ≡ filter q (filter p sessions)
filter-filter p q [] = refl
filter-filter p q (first ∷ sessions) = elim (cases_Bool (p first)) [
  | inl pt ↦ let pt' : p first ≡ true = pt in elim (cases_Bool (q first)) [
    | inl qt ↦ let qt' : q first ≡ true = qt in rw (pt', qt', pt') (ap (λ rest. first ∷ rest) (filter-filter p q sessions))
    | inr qf ↦ let qf' : q first ≡ false = qf in rw (pt', qf') (filter-filter p q sessions)
  ]
  | inr pf ↦ let pf' : p first ≡ false = pf in elim (cases_Bool (q first)) [
    | inl qt ↦ let qt' : q first ≡ true = qt in rw (qt', pf') (filter-filter p q sessions)
    | inr qf ↦ let qf' : q first ≡ false = qf in rw (qf', pf') (filter-filter p q sessions)
  ]
]

pub others-others : (a b : Key) (sessions : List Session) → others a (others b sessions) ≡ others b (others a sessions)
others-others a b sessions = filter-filter (λ session. not (same_key a session.key)) (λ session. not (same_key b session.key)) sessions

pub others-own : (key : Key) (sessions : List Session) → others key (others key sessions) ≡ others key sessions
others-own key sessions = others-none key (others key sessions) (session_of-others_own key sessions)

-- ---- what stays of a list by a test

pub session_of-filter_none : (p : Session → Bool) (key : Key) (sessions : List Session) → session_of key sessions ≡ None → session_of key (filter p sessions) ≡ None
session_of-filter_none p key [] h = refl
session_of-filter_none p key (first ∷ sessions) h = elim (cases_Bool (same_key key first.key)) [
  | inl t ↦ let t' : same_key key first.key ≡ true = t in let e : Some first ≡ None = rw t' at h in absurd cc
  | inr f ↦
      let f' : same_key key first.key ≡ false = f in
      let e : session_of key sessions ≡ None = rw f' at h in
      elim (cases_Bool (p first)) [
        | inl t ↦ let t' : p first ≡ true = t in rw (t', f') (session_of-filter_none p key sessions e)
        | inr g ↦ let g' : p first ≡ false = g in rw g' (session_of-filter_none p key sessions e)
      ]
]

pub session_of-filter : (p : Session → Bool) (key : Key) (sessions : List Session) (session : Session) →
    session_of key sessions ≡ Some session → p session ≡ true → session_of key (filter p sessions) ≡ Some session
session_of-filter p key [] session h passes = absurd cc
session_of-filter p key (first ∷ sessions) session h passes = elim (cases_Bool (same_key key first.key)) [
  | inl t ↦
      let t' : same_key key first.key ≡ true = t in
      let e : Some first ≡ Some session = rw t' at h in
      let s : first ≡ session = cc in
      let q : p first ≡ true = ap p s ∙ passes in
      rw (q, t') e
  | inr f ↦
      let f' : same_key key first.key ≡ false = f in
      let e : session_of key sessions ≡ Some session = rw f' at h in
      elim (cases_Bool (p first)) [
        | inl t ↦ let t' : p first ≡ true = t in rw (t', f') (session_of-filter p key sessions session e passes)
        | inr g ↦ let g' : p first ≡ false = g in rw g' (session_of-filter p key sessions session e passes)
      ]
]

pub filter-different : (p : Session → Bool) (sessions : List Session) → AreDifferent sessions → AreDifferent (filter p sessions)
filter-different p [] d = tt
filter-different p (first ∷ sessions) d = elim (cases_Bool (p first)) [
  | inl t ↦ let t' : p first ≡ true = t in rw t' (session_of-filter_none p first.key sessions d.0, filter-different p sessions d.1)
  | inr f ↦ let f' : p first ≡ false = f in rw f' (filter-different p sessions d.1)
]

-- a session that a test drops is dropped with its key
pub filter-dropped : (p : Session → Bool) (key : Key) (sessions : List Session) (session : Session) → AreDifferent sessions →
    session_of key sessions ≡ Some session → p session ≡ false → filter p (others key sessions) ≡ filter p sessions
filter-dropped p key [] session d h fails = refl
filter-dropped p key (first ∷ sessions) session d h fails = elim (cases_Bool (same_key key first.key)) [
  | inl t ↦
      let t' : same_key key first.key ≡ true = t in
      let e : Some first ≡ Some session = rw t' at h in
      let s : first ≡ session = cc in
      let q : p first ≡ false = ap p s ∙ fails in
      let k : key ≡ first.key = same_key-true key first.key t in
      let none : session_of key sessions ≡ None = ap (λ k. session_of k sessions) k ∙ d.0 in
      rw (t', q) (ap (filter p) (others-none key sessions none))
  | inr f ↦
      let f' : same_key key first.key ≡ false = f in
      let e : session_of key sessions ≡ Some session = rw f' at h in
      rw f' (ap (λ rest. cond (p first) (first ∷ rest) rest) (filter-dropped p key sessions session d.1 e fails))
]

pub found-others : (a b : Key) (sessions : List Session) (session : Session) → session_of a (others b sessions) ≡ Some session →
    (a ≢ b) × (session_of a sessions ≡ Some session)
found-others a b sessions session h =
    let ne : a ≢ b = λ e. let none = ap (λ k. session_of k (others b sessions)) e ∙ session_of-others_own b sessions in absurd cc in
    (ne, sym (session_of-others a b sessions ne) ∙ h)

-- ---- sums

pub sum-others : (f : Session → ℕ) (key : Key) (sessions : List Session) → AreDifferent sessions →
    sum_by f (others key sessions) + counted f (session_of key sessions) ≡ sum_by f sessions
sum-others f key [] d = refl
sum-others f key (first ∷ sessions) d = elim (cases_Bool (same_key key first.key)) [
  | inl t ↦
      let t' : same_key key first.key ≡ true = t in
      let k : key ≡ first.key = same_key-true key first.key t in
      let none : session_of key sessions ≡ None = ap (λ k. session_of k sessions) k ∙ d.0 in
      let e : sum_by f (others key sessions) ≡ sum_by f sessions = ap (sum_by f) (others-none key sessions none) in
      let all : sum_by f (first ∷ sessions) ≡ f first + sum_by f sessions = sum_by-cons f first sessions in
      rw (t', all) (omega arith)
  | inr g ↦
      let g' : same_key key first.key ≡ false = g in
      let e : sum_by f (others key sessions) + counted f (session_of key sessions) ≡ sum_by f sessions = sum-others f key sessions d.1 in
      let all : sum_by f (first ∷ sessions) ≡ f first + sum_by f sessions = sum_by-cons f first sessions in
      let some : sum_by f (first ∷ others key sessions) ≡ f first + sum_by f (others key sessions) = sum_by-cons f first (others key sessions) in
      rw (g', all, some) (omega arith)
]

pub sum-ones : (sessions : List Session) → sum_by (λ session. 1) sessions ≡ length sessions
sum-ones [] = refl
sum-ones (first ∷ sessions) = sum_by-cons (λ (session : Session). 1) first sessions ∙ ap (λ n. 1 + n) (sum-ones sessions) ∙ omega arith
