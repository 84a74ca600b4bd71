-- What a kind of transfer is.
use Rattle.std.specs.Prelude.{Bool, true, false}
use Rattle.can_frame.specs.declared.identifier.Kind.{Kind}
use Rattle.can_frame.specs.declared.identifier.Kind.TheVariants.{Message, Anonymous, Request, Response}

-- one direction of a service call
abbrev pub is_service : Kind → Bool
is_service Message = false
is_service Anonymous = false
is_service Request = true
is_service Response = true

-- a broadcast by a node that has no ID yet
abbrev pub is_anonymous : Kind → Bool
is_anonymous Message = false
is_anonymous Anonymous = true
is_anonymous Request = false
is_anonymous Response = false

-- the answer to a service call
abbrev pub is_response : Kind → Bool
is_response Message = false
is_response Anonymous = false
is_response Request = false
is_response Response = true
