use Rattle.std.proofs.Common.{ℕ, ◌<◌, get_or, None}
use Rattle.transfer_rx.specs.Ages.{IsSince}
use Rattle.transfer_rx.proofs.age.oldest_of.Given as goal

-- no session before this place is older
abbrev pub invariant-loop-place : goal.invariant-loop-place
invariant-loop-place g l = (i : ℕ) → i < l.place → IsSince l.oldest (get_or l.kept i None)
