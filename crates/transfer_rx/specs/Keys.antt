-- Which frames belong together.
use Rattle.std.specs.Prelude.{ℕ, nat_eq, Bool, ◌&&◌}
use Rattle.can_frame.specs.declared.identifier.Ident.{Ident}
use Rattle.can_frame.specs.declared.identifier.Kind.{Kind}
use Rattle.can_frame.specs.declared.identifier.Kind.TheVariants.{Message, Anonymous, Request, Response}
use Rattle.transfer_rx.specs.declared.key.Key.{Key}

abbrev pub kind_number : Kind → ℕ
kind_number Message = 0
kind_number Anonymous = 1
kind_number Request = 2
kind_number Response = 3

abbrev pub same_kind : Kind → Kind → Bool
same_kind a b = nat_eq (kind_number a) (kind_number b)

abbrev pub same_key : Key → Key → Bool
same_key a b = same_kind a.kind b.kind && (nat_eq a.number b.number && nat_eq a.source b.source)

-- frames of one kind and number from one source belong together
abbrev pub key_of : Ident → Key
key_of ident = record { kind = ident.kind; number = ident.number; source = ident.source }
