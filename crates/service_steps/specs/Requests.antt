-- What a request of a device is to an allocator.
use Rattle.std.specs.Prelude.{◌≡◌, ℕ, [], ◌∷◌, true, false, max, Some}
use Rattle.can_frame.specs.declared.identifier.Ident.{Ident}
use Rattle.can_frame.specs.declared.identifier.Kind.TheVariants.{Anonymous}
use Rattle.can_frame.specs.DataTypes.{allocation}
use Rattle.can_frame.specs.Identifier.{identifier_of}
use Rattle.dsdl_codec.specs.declared.allocation.Allocation.{Allocation}
use Rattle.dsdl_codec.specs.Allocation.{allocation_of}
use Rattle.transfer_rx.specs.Marks.{is_whole}
use Rattle.transfer_rx.specs.Reassembly.{Arrival, Delivery, piece_in}
use Rattle.alloc_spec.specs.AllocatorState.{AllocatorState}

-- a frame that is a request: an anonymous Allocation, in a frame of its own
pub record IsRequest (arrival : Arrival) (message : Allocation) : Type 0 where
  pub ident : Ident
  pub read : identifier_of arrival.id ≡ Some ident
  pub kind : ident.kind ≡ Anonymous
  pub number : ident.number ≡ allocation.number
  pub source : ident.source ≡ 0
  pub first : (piece_in arrival).tail.start ≡ true
  pub last : (piece_in arrival).tail.end ≡ true
  pub toggle : (piece_in arrival).tail.toggle ≡ false
  pub says : allocation_of (piece_in arrival).bytes ≡ Some message

-- what a receiver gives of it
abbrev pub delivery_of : Arrival → Ident → Delivery
delivery_of arrival ident = record {
  ident = ident;
  id = (piece_in arrival).tail.id;
  payload = (piece_in arrival).bytes;
  mark = arrival.mark;
  whole = is_whole (arrival.mark ∷ []);
}

-- the moment of the step in which it comes
abbrev pub moment_at : AllocatorState → Arrival → ℕ
moment_at t arrival = max t.now arrival.moment
