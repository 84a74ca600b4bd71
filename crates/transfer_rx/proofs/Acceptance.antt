-- What a frame that is not wanted, and one that is, are answered.
use Rattle.std.proofs.Common.{◌≡◌, ℕ, true, false, List, Option, Some, None, Err, refl}
use Rattle.can_frame.specs.declared.identifier.Ident.{Ident}
use Rattle.can_frame.specs.Identifier.{identifier_of}
use Rattle.can_frame.specs.declared.step.Why.TheVariants.{BadIdent, NotWanted}
use Rattle.transfer_rx.specs.declared.accept.AcceptRow.{AcceptRow}
use Rattle.transfer_rx.specs.Acceptance.{first_signature, is_for, wanted, with_signature}

pub no_reading : (rows : List AcceptRow) (me id : ℕ) → identifier_of id ≡ None → wanted rows me id ≡ Err BadIdent
unfolding wanted
no_reading rows me id e = rw e refl

pub for_others : (rows : List AcceptRow) (me id : ℕ) (ident : Ident) → identifier_of id ≡ Some ident →
    is_for me ident ≡ false → wanted rows me id ≡ Err NotWanted
unfolding wanted
for_others rows me id ident e f = rw (e, f) refl

pub by_row : (rows : List AcceptRow) (me id : ℕ) (ident : Ident) (signature : Option ℕ) → identifier_of id ≡ Some ident →
    is_for me ident ≡ true → signature ≡ first_signature rows ident.kind ident.number →
    with_signature ident signature ≡ wanted rows me id
unfolding wanted
by_row rows me id ident signature e f s = rw (e, f, ← s) refl
