-- Members at the beginning.
use Rattle.std.specs.Prelude.{◌≡◌, ℕ, ◌<◌, List, length, map, slice_index_or}
use Rattle.bus_spec.specs.Members.{fresh_member}
use Rattle.bus_world.specs.Stands.{AreAlike, StandsFor}
use Rattle.bus_world.specs.declared.member.Member.{Member}

-- a stopped member for each node ID, on a disk of zeros, with this closure
pub record AreFresh {F : Type 0} (ids : List ℕ) (accept : F) (members : List (Member F)) : Type 0 where
  pub same : map (λ member. member.id) members ≡ ids
  pub begun : (i : ℕ) (d : Member F) → i < length members → StandsFor (slice_index_or members i d) fresh_member
  pub alike : AreAlike members accept
