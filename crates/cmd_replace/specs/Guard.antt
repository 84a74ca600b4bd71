-- When the store of a lost member may be made from the leader's.
--
-- All members are stopped, and the store of each but the lost one is there: its term, its vote in that term, its log, and
-- how much of the log it knows to be committed (the persistent state of the Raft paper, figure 2, and the commit index).
-- More than half of all members, without the lost one, support one of them: they have its term, voted for it, and have
-- no log above its own, in the order by which elections compare logs. Then:
--
-- - Nobody else led in that term, since each of these members votes once in a term.
-- - Nobody led in a later term: one of these members would have voted in it, and a stored term never falls.
-- - So whatever was committed stands in the log of this node, by Leader Completeness: where it led, and also where it
--   did not, since then these members might elect it in this term.
--
-- The logs are compared since a stored vote alone does not tell that it was granted in the stored term. A higher term
-- is stored first, and the vote is taken back after it. A member that stops in between has the new term, and the vote
-- of the older one. Of a vote that was granted nothing new is asked: the log was not above then, and afterwards it
-- changed only towards that of the leader.
--
-- The leader's log has to be committed to its end: then what only the lost member knew to be committed is known again.
--
-- The lost member gets the leader's store, with its term and its vote. It cannot vote again in an earlier term, and in
-- this term for no other node. What it voted before in this term or a later one is forgotten, and so are the terms in
-- which it stood for election. That elects nobody twice: the others are too few to elect another node in this term, and
-- nobody was elected in a later one. The lost member may stand again in the very term in which it stood before. But it
-- counts no vote of before the copy, since none comes any more (`remains` of `raft_replaced`). In the Raft model this
-- is proved (`law_replacements` of `raft_replaced`), for this guard (`the_model_allows_it`).
use Rattle.std.specs.Prelude.{◌≡◌, ℕ, zero, suc, ◌+◌, ◌*◌, ◌<◌, ◌==◌, ◌&&◌, not, Bool, true, List, length, slice_index, if◌then◌else◌}
use Rattle.can_frame.specs.declared.entry.Entry.{Entry}
use Rattle.can_frame.specs.Log.{last_term}
use Rattle.raft_log.specs.declared.stored.Stored.{Stored}
use Rattle.raft_model.specs.Decisions.{is_not_above}
use Rattle.store_audit.specs.Stores.{store_at}
use Rattle.cmd_replace.specs.declared.guard.Obstacle.{Obstacle}
use Rattle.cmd_replace.specs.declared.guard.Obstacle.TheVariants.{NoLeader, Uncommitted}

-- the first log is not above the second: its last term is lower, or is the same and it is not longer
abbrev pub is_log_not_above : List Entry → List Entry → Bool
is_log_not_above log other = is_not_above (last_term log) (length log) (last_term other) (length other)

-- The members, one of which is lost, and what each has stored, by place; what stands for the lost one counts for
-- nothing.
module _ (ids : List ℕ) (lost : ℕ) (stores : List Stored) where
  -- the member at a place is not lost, and has a vote for this node with this term
  abbrev pub voted : ℕ → ℕ → ℕ → Bool
  voted term node place = not (slice_index ids place == lost)
      && ((store_at stores place).term == term && (store_at stores place).vote == node)

  -- the member at a place supports the leader, by the place of the leader: it voted for the leader, with the leader's
  -- term, and has no log above the leader's
  abbrev pub supports : ℕ → ℕ → Bool
  supports leader place = voted (store_at stores leader).term (slice_index ids leader) place
      && is_log_not_above (store_at stores place).entries.items (store_at stores leader).entries.items

  -- how many of the first members, so many, support the leader at a place
  abbrev pub supporters : ℕ → ℕ → ℕ
  supporters leader zero = 0
  supporters leader (suc place) = supporters leader place + (if supports leader place then 1 else 0)

  -- the member at a place is not lost and supports itself, as more than half of all members do
  pub record IsElected (place : ℕ) : Type 0 where
    pub within : place < length ids
    pub own : supports place place ≡ true
    pub majority : length ids < 2 * supporters place (length ids)

  -- the store of the member at a place may be taken: the member is elected, and has committed all of its log
  pub record MayReplace (place : ℕ) : Type 0 where
    pub elected : IsElected place
    pub committed : (store_at stores place).commit ≡ length (store_at stores place).entries.items

  -- what stands in the way
  abbrev pub StandsInWay : Obstacle → Type 0
  StandsInWay NoLeader = (place : ℕ) → IsElected place → ⊥
  StandsInWay (Uncommitted place) = IsElected place × ((other : ℕ) → MayReplace other → ⊥)
