-- What the place of an allocatee stands for.
use Rattle.std.specs.Prelude.{⊤, ◌≡◌, ℕ, suc, ◌<◌, List, Option, None, Some, length, slice_index_or}
use Rattle.allocatee.specs.Allocatee.{Device}
use Rattle.allocatee.specs.declared.allocatee.Allocatee.{Allocatee}
use Rattle.allocatee.specs.Stands.{StandsFor as StandsForDevice, accepts}
use Rattle.bus_world.specs.declared.seat.Seat.{Seat}

module _ {G : Type 0} where
  abbrev pub IsDevice : Option (Allocatee G) → Option Device → Type 0
  IsDevice None None = ⊤
  IsDevice None (Some x) = ⊥
  IsDevice (Some allocatee) None = ⊥
  IsDevice (Some allocatee) (Some x) = StandsForDevice allocatee x

  pub record StandsFor (seat : Seat G) (x : Option Device) : Type 0 where
    pub device : IsDevice seat.device x

  -- the closure of the one that is there has this fact
  abbrev pub Serves : (G → Type 0) → Seat G → Type 0
  Serves Fact seat = (allocatee : Allocatee G) → seat.device ≡ Some allocatee → Fact (accepts allocatee)

  -- the closure of the one that is there is this one
  abbrev pub Accepts : Seat G → G → Type 0
  Accepts seat accept = (allocatee : Allocatee G) → seat.device ≡ Some allocatee → accepts allocatee ≡ accept

  -- each of the 8 places stands for its own, the first for place 1
  abbrev pub AreSeatsOf : List (Seat G) → (ℕ → Option Device) → Type 0
  AreSeatsOf seats devices = (i : ℕ) (d : Seat G) → i < 8 → StandsFor (slice_index_or seats i d) (devices (suc i))

  -- so many places, where none is
  pub record AreEmpty (seats : List (Seat G)) (count : ℕ) : Type 0 where
    pub many : length seats ≡ count
    pub each : (i : ℕ) (d : Seat G) → i < count → (slice_index_or seats i d).device ≡ None
