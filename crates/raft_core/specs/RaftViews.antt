-- What the contracts see of a member.
use Rattle.std.specs.Prelude.{ℕ, Bool, List}
use Rattle.can_frame.specs.declared.step.Role.{Role}
use Rattle.raft_core.specs.declared.peer.Peer.{Peer}
use Rattle.raft_core.specs.declared.raft.Raft.{Raft}

-- its own node ID
abbrev pub raft_me : Raft → ℕ
raft_me raft = raft.me

-- how many members the cluster has
abbrev pub raft_size : Raft → ℕ
raft_size raft = raft.size

abbrev pub raft_role : Raft → Role
raft_role raft = raft.role

-- a leader has told the pairs of the entries up to this place
abbrev pub raft_told : Raft → ℕ
raft_told raft = raft.told

-- when the wait for an election began, and the word that it takes
abbrev pub raft_since : Raft → ℕ
raft_since raft = raft.since

abbrev pub raft_word : Raft → ℕ
raft_word raft = raft.word

-- whether a leader's blank waits until a quorum has its log
abbrev pub raft_waits : Raft → Bool
raft_waits raft = raft.waits

-- the members of the last election, itself first
abbrev pub raft_members : Raft → List ℕ
raft_members raft = raft.members.items

-- what it keeps of each node, by node ID
abbrev pub raft_peers : Raft → List Peer
raft_peers raft = raft.peers
