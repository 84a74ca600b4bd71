-- How a member becomes Follower.
use Rattle.std.specs.Prelude.{◌≡◌, ℕ}
use Rattle.can_frame.specs.declared.step.Role.{Role}
use Rattle.can_frame.specs.declared.step.Role.TheVariants.{Follower, Candidate, Leader}
use Rattle.raft_core.specs.declared.raft.Raft.{Raft}

-- all but role and wait is as it was
pub record KeepsRest (old new : Raft) : Type 0 where
  pub me : new.me ≡ old.me
  pub size : new.size ≡ old.size
  pub told : new.told ≡ old.told
  pub word : new.word ≡ old.word
  pub waits : new.waits ≡ old.waits
  pub members : new.members ≡ old.members
  pub peers : new.peers ≡ old.peers

-- the wait begins where the role was another
abbrev pub since_after : Role → ℕ → ℕ → ℕ
since_after Follower since now = since
since_after Candidate since now = now
since_after Leader since now = now

pub record StepsDown (old new : Raft) (now : ℕ) : Type 0 where
  pub role : new.role ≡ Follower
  pub since : new.since ≡ since_after old.role old.since now
  pub rest : KeepsRest old new
