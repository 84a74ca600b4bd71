-- What a step does later: it adds puts after those that are there, and leaves the sessions of the receiver and the node
-- ID as they are.
use Rattle.std.specs.Prelude.{◌≡◌, ◌++◌, List}
use Rattle.raft_core.specs.StoredPuts.{PutWithOrigin}
use Rattle.alloc_spec.specs.StepState.{StepState}

pub record Extends (g later : StepState) : Type 0 where
  pub more : List PutWithOrigin
  pub puts : later.puts ≡ g.puts ++ more
  pub sessions : later.allocator.sessions ≡ g.allocator.sessions
  pub me : later.allocator.me ≡ g.allocator.me
