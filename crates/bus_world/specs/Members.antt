-- What contracts see of the members of a world and their bus, and what they stand for.
use Rattle.std.specs.Prelude.{◌≡◌, ◌==◌, ℕ, ◌-◌, ◌<◌, List, length, map, position, Option, slice_index_or}
use Rattle.transfer_tx.specs.declared.marked.Marked.{Marked}
use Rattle.transfer_tx.specs.Views.{queued_of}
use Rattle.alloc_spec.specs.ClusterMembers.{AreMembers}
use Rattle.bus_spec.specs.Cluster.{Cluster}
use Rattle.bus_spec.specs.Members.{Member as MemberState}
use Rattle.bus_world.specs.Stands.{StandsFor as StandsForMember}
use Rattle.bus_world.specs.declared.member.Member.{Member}
use Rattle.bus_world.specs.declared.members.Members.{Members}

module _ {F : Type 0} where
  -- how many frames the bus still takes
  abbrev pub frames_left : Members F → ℕ
  frames_left world = world.room - length world.frames.items

  -- how many it was made for
  abbrev pub frame_room : Members F → ℕ
  frame_room world = world.room

  abbrev pub rows_taken : Members F → ℕ
  rows_taken world = world.taken

  -- the closure that was given to it
  abbrev pub accepts : Members F → F
  accepts world = world.accept

  -- where a node ID stands
  abbrev pub place_of : List (Member F) → ℕ → Option ℕ
  place_of members n = position (λ member. member.id == n) members

  abbrev pub ids_of : List (Member F) → List ℕ
  ids_of members = map (λ member. member.id) members

  -- each member stands for its own
  abbrev pub AreMembersOf : List (Member F) → (ℕ → MemberState) → Type 0
  AreMembersOf members states = (i : ℕ) (d : Member F) → i < length members
      → StandsForMember (slice_index_or members i d) (states (slice_index_or members i d).id)

  -- the members and the bus
  pub record Holds (own : List (Member F)) (bus : List Marked) (c : Cluster) : Type 0 where
    pub ids : ids_of own ≡ c.ids
    pub frames : map queued_of bus ≡ c.frames
    pub members : AreMembersOf own c.member
    pub lawful : AreMembers c.ids

  -- the members and the bus, and how many rows were taken
  pub record StandsFor (world : Members F) (c : Cluster) : Type 0 where
    pub holds : Holds world.members.items world.frames.items c
    pub rows : world.taken ≡ c.rows
