-- The identifier of a transfer that a receiver delivers.
use Rattle.std.proofs.Common.{◌≡◌, ◌≢◌, ℕ, ◌≤◌, arith, Bool, true, not, List, sym, subst, inl, inr}
use Rattle.std.specs.Prelude.{◌&&◌, ◌||◌, nat_eq}
use Rattle.std.proofs.lemmas.Bool.Decides.{eqb_tells}
use Rattle.can_frame.specs.declared.identifier.Ident.{Ident}
use Rattle.can_frame.specs.Kinds.{is_service}
use Rattle.transfer_rx.specs.Acceptance.{is_for}
use Rattle.transfer_rx.specs.Reassembly.{Arrival, Delivery, Gives, answer}
use Rattle.transfer_rx.specs.Sessions.{Session}
use Rattle.transfer_rx.specs.Sound.{IsDelivered}
use Rattle.alloc_spec.specs.Accepted.{rows, setting_for}
use Rattle.alloc_spec_laws.proofs.Choices.{and_right, eq_false, not_true}
use Rattle.bus_agreement.specs.LawsBelow.{FrameLaws}
use Rattle.bus_agreement.proofs.Idents.{IsWanted, wanted_is}

-- a receiver hears nothing of its own
pub not_own : (me : ℕ) (ident : Ident) → 1 ≤ me → is_for me ident ≡ true → ident.source ≢ me
not_own me ident low e = elim (eqb_tells me 0) [
  | inl z ↦ absurd (omega (arith, z.1, low))
  | inr z ↦
      let other : (not (is_service ident.kind && not (nat_eq ident.dest me)) && not (nat_eq ident.source me)) ≡ true
      = subst (λ (b : Bool). (b || (not (is_service ident.kind && not (nat_eq ident.dest me)) && not (nat_eq ident.source me))) ≡ true) z.0 e in
      eq_false ident.source me (not_true (nat_eq ident.source me) (and_right (not (is_service ident.kind && not (nat_eq ident.dest me))) (not (nat_eq ident.source me)) other))
]

-- the frame has the identifier of what it completes, and is wanted
pub is_wanted : (frame : FrameLaws) (me : ℕ) (sessions : List Session) (arrival : Arrival) (d : Delivery) → answer (setting_for me) sessions arrival ≡ Gives d
    → IsWanted rows me arrival.id d.ident
is_wanted frame me sessions arrival d gives =
    let its : IsDelivered (setting_for me) sessions arrival d = frame.delivered (setting_for me) sessions arrival d gives in
    subst (IsWanted rows me arrival.id) (sym its.ident) (wanted_is rows me arrival.id its.w its.accepted)
