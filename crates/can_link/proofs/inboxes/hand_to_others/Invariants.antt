use Rattle.std.specs.Prelude.{◌≡◌, ◌<◌, ◌≤◌, ℕ, Some, length, slice_index_or}
use Rattle.can_link.specs.Inboxes.{Comes}
use Rattle.can_link.proofs.inboxes.hand_to_others.Given as goal

abbrev pub invariant-loop-place : goal.invariant-loop-place
invariant-loop-place l = record {
  all : length l.inboxes ≡ length l.fn.inboxes;
  others : (i : ℕ) (d : _) → i < l.place → (l.sender ≡ Some i → ⊥) → Comes l.frame (slice_index_or l.fn.inboxes i d).items (slice_index_or l.inboxes i d).items;
  own : (i : ℕ) (d : _) → i < l.place → l.sender ≡ Some i → slice_index_or l.inboxes i d ≡ slice_index_or l.fn.inboxes i d;
  rest : (i : ℕ) (d : _) → l.place ≤ i → slice_index_or l.inboxes i d ≡ slice_index_or l.fn.inboxes i d;
}
