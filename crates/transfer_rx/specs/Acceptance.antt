-- Which frames a receiver wants.
use Rattle.std.specs.Prelude.{◌≡◌, ℕ, ◌<◌, ◌^◌, nat_eq, Bool, not, ◌&&◌, ◌||◌, List, Option, Some, None, Result, Ok, Err, find, option_map, if◌then◌else◌}
use Rattle.can_frame.specs.Identifier.{identifier_of}
use Rattle.can_frame.specs.Kinds.{is_service}
use Rattle.can_frame.specs.declared.identifier.Ident.{Ident}
use Rattle.can_frame.specs.declared.identifier.Kind.{Kind}
use Rattle.can_frame.specs.declared.step.Why.{Why}
use Rattle.can_frame.specs.declared.step.Why.TheVariants.{BadIdent, NotWanted}
use Rattle.transfer_rx.specs.declared.accept.AcceptRow.{AcceptRow}
use Rattle.transfer_rx.specs.declared.accept.Wanted.{Wanted}
use Rattle.transfer_rx.specs.Keys.{same_kind}

-- the signature of the first row of a kind and number
abbrev pub first_signature : List AcceptRow → Kind → ℕ → Option ℕ
first_signature rows kind number =
    option_map (λ row. row.signature) (find (λ row. same_kind row.kind kind && nat_eq row.number number) rows)

-- a closure answers by the rows
abbrev pub AnswersByRows : (Kind → ℕ → Option ℕ → Type 0) → List AcceptRow → Type 0
AnswersByRows answers rows =
    (kind : Kind) (number : ℕ) → number < 2 ^ 16 → (signature : Option ℕ) → answers kind number signature →
    signature ≡ first_signature rows kind number

-- a receiver hears services for itself, and nothing of its own; number 0 hears everything
abbrev pub is_for : ℕ → Ident → Bool
is_for me ident =
    nat_eq me 0 || (not (is_service ident.kind && not (nat_eq ident.dest me)) && not (nat_eq ident.source me))

abbrev pub with_signature : Ident → Option ℕ → Result Wanted Why
with_signature ident None = Err NotWanted
with_signature ident (Some signature) = Ok (record { ident = ident; signature = signature })

abbrev pub accepted : List AcceptRow → ℕ → Option Ident → Result Wanted Why
accepted rows me None = Err BadIdent
accepted rows me (Some ident) =
    if is_for me ident then with_signature ident (first_signature rows ident.kind ident.number) else Err NotWanted

-- the fields and the signature of a frame that is wanted, or why it is not
unfoldable pub wanted : List AcceptRow → ℕ → ℕ → Result Wanted Why
wanted rows me id = accepted rows me (identifier_of id)
