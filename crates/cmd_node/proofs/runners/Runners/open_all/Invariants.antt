use Rattle.std.proofs.Common.{◌≡◌, ◌≤◌, ℕ, List, length}
use Rattle.std.specs.Prelude.{Some, None, slice_index_or}
use Rattle.alloc_spec.specs.Rules.{rules_by}
use Rattle.cmd_node.specs.Opening.{readings_after}
use Rattle.cmd_node.specs.Runners.{accepts, runners_of}
use Rattle.cmd_node.specs.Stands.{AreOpened, AreOpenedAt}
use Rattle.cmd_node.proofs.runners.Runners.open_all.Given as goal

-- the nodes at the places so far were opened, each at the next reading
abbrev pub invariant-loop-place : goal.invariant-loop-place
invariant-loop-place g l = let told = g.C.Clock.readings in record {
  count : length (runners_of l.self) ≡ l.place;
  accepts : accepts l.self ≡ accepts l.fn.self;
  opened : AreOpened (runners_of l.self) l.fn.disks l.ids;
  places : length l.disks ≡ length l.fn.disks;
  behind : (i : ℕ) → l.place ≤ i → slice_index_or l.disks i None ≡ slice_index_or l.fn.disks i None;
  moments : (readings : List ℕ) → told l.fn.clock ≡ Some readings →
      (told l.clock ≡ Some (readings_after l.place readings)) × AreOpenedAt (rules_by l.size l.told) (runners_of l.self) readings;
}
