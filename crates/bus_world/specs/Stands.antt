-- What members of the code stand for.
use Rattle.std.specs.Prelude.{◌≡◌, ℕ, ◌<◌, List, length, slice_index_or}
use Rattle.bus_spec.specs.Members.{Member as MemberState}
use Rattle.bus_world.specs.Places.{HasStatus, closure_of}
use Rattle.bus_world.specs.declared.member.Member.{Member}

pub record StandsFor {F : Type 0} (member : Member F) (state : MemberState) : Type 0 where
  pub status : HasStatus member.place state.status state.disk
  pub pattern : member.pattern ≡ state.pattern

-- each of them was given this closure
abbrev pub AreAlike : {F : Type 0} → List (Member F) → F → Type 0
AreAlike {F} members accept = (i : ℕ) (d : Member F) → i < length members
    → closure_of (slice_index_or members i d).place ≡ accept
