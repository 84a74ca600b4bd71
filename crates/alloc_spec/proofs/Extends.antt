-- What a step does later: it adds puts behind those that are there, and leaves the sessions of its receiver.
use Rattle.std.proofs.Common.{◌≡◌, ℕ, Bool, true, false, List, [], ◌++◌, refl, sym, ap, ◌∙◌, append_assoc}
use Rattle.std.specs.Prelude.{if◌then◌else◌}
use Rattle.raft_core.specs.Handled.{puts_with_origins}
use Rattle.raft_core.specs.StoredPuts.{PutWithOrigin}
use Rattle.raft_core.specs.Times.{HandedIn}
use Rattle.raft_model.specs.Moves.{Move}
use Rattle.alloc_spec.specs.AllocatorState.{members_of}
use Rattle.alloc_spec.specs.Extends.{Extends}
use Rattle.alloc_spec.specs.StepState.{StepState, with_moves}
use Rattle.alloc_spec.proofs.Lists.{append_none}

pub no_more : (g later : StepState) → later.puts ≡ g.puts → later.allocator.sessions ≡ g.allocator.sessions → later.allocator.me ≡ g.allocator.me → Extends g later
no_more g later same sessions me = record { more = []; puts = same ∙ sym (append_none g.puts); sessions = sessions; me = me }

pub itself : (g : StepState) → Extends g g
itself g = no_more g g refl refl refl

pub and_more : (g mid later : StepState) → Extends g mid → Extends mid later → Extends g later
and_more g mid later a b = record {
  more = a.more ++ b.more;
  puts = b.puts ∙ ap (λ (list : List PutWithOrigin). list ++ b.more) a.puts ∙ append_assoc g.puts a.more b.more;
  sessions = b.sessions ∙ a.sessions;
  me = b.me ∙ a.me;
}

pub takes_more : (step : ℕ) (given : HandedIn) (moves : List Move) (g : StepState) → Extends g (with_moves step given moves g)
takes_more step given moves g = record { more = puts_with_origins (members_of g.allocator) g.allocator.me step given g.allocator.raft_server moves; puts = refl; sessions = refl; me = refl }

pub either_more : (b : Bool) (g x y : StepState) → Extends g x → Extends g y → Extends g (if b then x else y)
either_more true g x y a b = a
either_more false g x y a b = b
