-- Which closures the receivers of a world have.
use Rattle.std.specs.Prelude.{ℕ, List, Option}
use Rattle.std.specs.Borrow.{RattleType}
use Rattle.can_frame.specs.declared.identifier.Kind.{Kind}
use Rattle.can_frame.specs.Sizes.{blocks, sessions}
use Rattle.transfer_rx.specs.Acceptance.{AnswersByRows}
use Rattle.transfer_rx.specs.Memory.{ReceiverFitsInMemory}
use Rattle.transfer_rx.specs.declared.accept.AcceptRow.{AcceptRow}
use Rattle.allocatee.specs.Accepted as device
use Rattle.alloc_spec.specs.Accepted as allocator

-- a receiver with this closure fits in memory; the closure may be called, and answers by the rows
pub record AcceptsByRows {F : Type 0} (row : RattleType) (most_sessions most_blocks : ℕ) (rows : List AcceptRow)
    (may_call : F → Type 0) (answers : F → Kind → ℕ → Option ℕ → Type 0) (accept : F) : Type 0 where
  pub memory : ReceiverFitsInMemory row most_sessions most_blocks
  pub callable : may_call accept
  pub by_rows : AnswersByRows (answers accept) rows

module _ {F : Type 0} (row : RattleType) (may_call : F → Type 0) (answers : F → Kind → ℕ → Option ℕ → Type 0)
    (accept : F) where
  -- the receiver of a member
  abbrev pub MemberReceives : Type 0
  MemberReceives = AcceptsByRows row sessions blocks allocator.rows may_call answers accept

  -- the receiver of an allocatee, with 8 sessions and 8 blocks
  abbrev pub AllocateeReceives : Type 0
  AllocateeReceives = AcceptsByRows row 8 8 device.rows may_call answers accept
