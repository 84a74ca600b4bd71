-- The next piece, and what comes of it.
use Rattle.std.proofs.Common.{◌≡◌, ℕ, ◌%◌, Bool, true, false, cond, List, [], ◌∷◌, ◌++◌, length, Some, None, refl, sym, ◌∙◌, ap, subst, nat_eq}
use Rattle.std.specs.Bool.{beq}
use Rattle.std.proofs.lemmas.Bool.{eqb-true}
use Rattle.can_frame.specs.declared.tail.Tail.{Tail}
use Rattle.can_frame.specs.declared.step.Why.TheVariants.{Length, NoBlock, Start, Toggle, TransferId}
use Rattle.can_frame.specs.Cutting.{Piece, tail_at}
use Rattle.transfer_rx.specs.declared.verdict.Verdict.{Verdict}
use Rattle.transfer_rx.specs.declared.verdict.Verdict.TheVariants.{Whole, Open, Spoiled}
use Rattle.transfer_rx.specs.Sessions.{Session}
use Rattle.transfer_rx.specs.Parts.{IsPart}
use Rattle.transfer_rx.specs.Verdicts.{IfPart, IfWhole}
use Rattle.transfer_rx.specs.Outcome.{Outcome, Grows, Spoils, assembled, fits_no_part, fits_no_payload, is_wrong_length, lacks_blocks, out_of_turn, outcome}

all_three : (a b d : Bool) → cond a (cond b (cond d None (Some Toggle)) (Some Start)) (Some TransferId) ≡ None →
    (a ≡ true) × (b ≡ true) × (d ≡ true)
all_three true true true h = (refl, refl, refl)
all_three true true false h = cc
all_three true false d h = cc
all_three false b d h = cc

same_bool : (a b : Bool) → beq a b ≡ true → a ≡ b
same_bool true true h = refl
same_bool true false h = sym h
same_bool false true h = h
same_bool false false h = refl

pub in_turn_id : (tail : Tail) (session : Session) → out_of_turn tail session ≡ None → tail.id ≡ session.expected
in_turn_id tail session h =
    eqb-true tail.id session.expected (all_three (nat_eq tail.id session.expected) (beq tail.start (nat_eq (length session.taken) 0)) (beq tail.toggle (nat_eq (length session.taken % 2) 1)) h).0

pub in_turn_tail : (tail : Tail) (session : Session) → out_of_turn tail session ≡ None →
    tail ≡ tail_at session.expected (length session.taken) tail.end
in_turn_tail tail session h =
    let all : (nat_eq tail.id session.expected ≡ true) × (beq tail.start (nat_eq (length session.taken) 0) ≡ true) × (beq tail.toggle (nat_eq (length session.taken % 2) 1) ≡ true) =
    all_three (nat_eq tail.id session.expected) (beq tail.start (nat_eq (length session.taken) 0)) (beq tail.toggle (nat_eq (length session.taken % 2) 1)) h in
    let id : tail.id ≡ session.expected = eqb-true tail.id session.expected all.0 in
    let start : tail.start ≡ nat_eq (length session.taken) 0 = same_bool _ _ all.1 in
    let toggle : tail.toggle ≡ nat_eq (length session.taken % 2) 1 = same_bool _ _ all.2 in
    λ i. record { start = start i; end = tail.end; toggle = toggle i; id = id i }

-- the frames taken, and the next one, under its own ID
pub in_turn_part : (tail : Tail) (session : Session) → out_of_turn tail session ≡ None →
    IsPart session.expected 0 session.taken → IsPart tail.id 0 session.taken
in_turn_part tail session h p = subst (λ id. IsPart id 0 session.taken) (sym (in_turn_id tail session h)) p

pub in_turn_own : (tail : Tail) (session : Session) (end : Bool) → out_of_turn tail session ≡ None → tail.end ≡ end →
    tail ≡ tail_at tail.id (length session.taken) end
in_turn_own tail session end h e =
    in_turn_tail tail session h ∙ (λ i. tail_at (sym (in_turn_id tail session h) i) (length session.taken) (e i))

module _ (blocks signature : ℕ) (piece : Piece) (taken : List Piece) (rest : List Session) where
  pub end_length : (wrong : Bool) → piece.tail.end ≡ true →
      wrong ≡ fits_no_payload signature piece.tail.id (taken ++ piece ∷ []) →
      is_wrong_length signature piece (taken ++ piece ∷ []) ≡ wrong
  end_length wrong e w = ap (λ end. cond end (fits_no_payload signature piece.tail.id (taken ++ piece ∷ [])) (fits_no_part (taken ++ piece ∷ []))) e ∙ sym w

  pub part_length : (wrong : Bool) → piece.tail.end ≡ false → wrong ≡ fits_no_part (taken ++ piece ∷ []) →
      is_wrong_length signature piece (taken ++ piece ∷ []) ≡ wrong
  part_length wrong e w = ap (λ end. cond end (fits_no_payload signature piece.tail.id (taken ++ piece ∷ [])) (fits_no_part (taken ++ piece ∷ []))) e ∙ sym w

  pub spoiled_length : is_wrong_length signature piece (taken ++ piece ∷ []) ≡ true →
      Spoils Length ≡ outcome blocks signature piece taken rest
  unfolding outcome
  spoiled_length w = rw w refl

  pub spoiled_blocks : is_wrong_length signature piece (taken ++ piece ∷ []) ≡ false →
      true ≡ lacks_blocks blocks piece taken rest → Spoils NoBlock ≡ outcome blocks signature piece taken rest
  unfolding outcome
  spoiled_blocks w l = rw (w, ← l) refl

  pub goes_on : is_wrong_length signature piece (taken ++ piece ∷ []) ≡ false →
      false ≡ lacks_blocks blocks piece taken rest → piece.tail.end ≡ false →
      Grows ≡ outcome blocks signature piece taken rest
  unfolding outcome
  goes_on w l e = rw (w, ← l, e) refl

  pub ends : (result : Outcome) → is_wrong_length signature piece (taken ++ piece ∷ []) ≡ false →
      false ≡ lacks_blocks blocks piece taken rest → piece.tail.end ≡ true →
      result ≡ assembled signature piece.tail.id (taken ++ piece ∷ []) →
      result ≡ outcome blocks signature piece taken rest
  unfolding outcome
  ends result w l e r = rw (w, ← l) (r ∙ sym (ap (λ end. cond end (assembled signature piece.tail.id (taken ++ piece ∷ [])) Grows) e))

pub no_part : (verdict : Verdict) (p : Type 0) → IfPart verdict ⊥ → IfPart verdict p
no_part Whole p h = tt
no_part Open p h = absurd h
no_part (Spoiled why) p h = tt

pub where_whole : (verdict : Verdict) (p : Type 0) → p → IfWhole verdict p
where_whole Whole p h = h
where_whole Open p h = tt
where_whole (Spoiled why) p h = tt
