-- Runs in which members are replaced, any number of times, between the events of the Raft model.
use Rattle.std.specs.Prelude.{⊤, ℕ, List, [], ◌∷◌}
use Rattle.raft_model.specs.Runs.{World, Event, MayOccur, after, initial_world}
use Rattle.raft_replaced.specs.Replacement.{MayBeCopied, world_copied}

pub data Change : Type 0 where
  -- an event of the Raft model
  Happens : (event : Event) → Change
  -- the store of a lost member becomes a copy of this leader's
  Copies : (lost leader : ℕ) → Change

abbrev pub after_change : World → Change → World
after_change world (Happens event) = after world event
after_change world (Copies lost leader) = world_copied world lost leader

abbrev pub MayChange : World → Change → Type 0
MayChange world (Happens event) = MayOccur world event
MayChange world (Copies lost leader) = MayBeCopied world lost leader

-- the world after these changes
abbrev pub changed : World → List Change → World
changed world [] = world
changed world (change ∷ changes) = changed (after_change world change) changes

-- each change may come when its turn is there
abbrev pub MayComeInTurn : World → List Change → Type 0
MayComeInTurn world [] = ⊤
MayComeInTurn world (change ∷ changes) = MayChange world change × MayComeInTurn (after_change world change) changes

-- a run without replacements
abbrev pub only_events : List Event → List Change
only_events [] = []
only_events (event ∷ events) = Happens event ∷ only_events events

-- a fact of the world holds at each moment of every run with replacements
abbrev pub ThroughReplacements : (World → Type 0) → Type 0
ThroughReplacements fact = (members : List ℕ) (changes : List Change) → MayComeInTurn (initial_world members) changes →
    fact (changed (initial_world members) changes)

-- a fact of two moments holds of each moment of every such run and each later one
abbrev pub FromEachThroughReplacements : (World → World → Type 0) → Type 0
FromEachThroughReplacements fact = (members : List ℕ) (early late : List Change)
    → MayComeInTurn (initial_world members) early
    → MayComeInTurn (changed (initial_world members) early) late →
    fact (changed (initial_world members) early) (changed (changed (initial_world members) early) late)
