-- What the code of a soak stands for.
use Rattle.std.specs.Prelude.{◌≡◌, ◌<◌, ◌^◌, ℕ, Bool, true, false, Option}
use Rattle.std.specs.Borrow.{RattleType}
use Rattle.bus_spec.specs.Receivers.{AllocateeReceives, MemberReceives}
use Rattle.bus_world.specs.World.{StandsFor as IsWorld, accepts, allocatees_accept, frame_room}
use Rattle.bus_world.specs.declared.world.World.{World}
use Rattle.can_frame.specs.declared.identifier.Kind.{Kind}
use Rattle.cmd_soak.specs.Growth.{Fits}
use Rattle.bus_rows.specs.declared.row.Row.{Row}
use Rattle.cmd_soak.specs.Rounds.{Soak, is_refused, takes}
use Rattle.cmd_soak.specs.declared.soaking.Soaking.{Soaking}

module _ {F G : Type 0} where
  -- the receivers of the members of a world have such closures, and those of its allocatees
  abbrev pub MembersReceive : RattleType → (F → Type 0) → (F → Kind → ℕ → Option ℕ → Type 0) → World F G → Type 0
  MembersReceive row may_call answers world = MemberReceives row may_call answers (accepts world)

  abbrev pub AllocateesReceive : RattleType → (G → Type 0) → (G → Kind → ℕ → Option ℕ → Type 0) → World F G → Type 0
  AllocateesReceive row may_call answers world = AllocateeReceives row may_call answers (allocatees_accept world)

  pub record StandsFor (soaking : Soaking F G) (s : Soak) : Type 0 where
    pub world : IsWorld soaking.world s.world
    pub room : frame_room soaking.world ≡ soaking.room
    pub narrow : soaking.room < 2 ^ 32
    pub told : soaking.told ≡ s.told
    pub chance : soaking.chance ≡ s.chance
    pub moment : soaking.moment ≡ s.moment
    pub heard : soaking.heard ≡ s.heard
    pub stops : soaking.stops ≡ s.stops
    pub refused : soaking.refused ≡ s.refused

  -- whatever it stood for before, it stands for what this makes of it
  abbrev pub Does : (Soak → Soak) → Soaking F G → Soaking F G → Type 0
  Does act old new = (s : Soak) → StandsFor old s → StandsFor new (act s)

  -- the value stands for a state that has room for so many frames and rows
  pub record HasRoom (sent given : ℕ) (soaking : Soaking F G) : Type 0 where
    pub now : Soak
    pub stands : StandsFor soaking now
    pub fits : Fits sent given soaking.room now

  -- what the world was made with stays
  pub record Keeps (old new : Soaking F G) : Type 0 where
    pub room : new.room ≡ old.room
    pub accepts : accepts new.world ≡ accepts old.world
    pub allocatees : allocatees_accept new.world ≡ allocatees_accept old.world

  -- a row was taken, or refused
  abbrev pub Tries : Bool → Row → Soak → Soaking F G → Type 0
  Tries true row s new = (is_refused s row ≡ false) × StandsFor new (takes row s)
  Tries false row s new = (is_refused s row ≡ true) × StandsFor new s
