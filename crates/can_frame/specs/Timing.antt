-- The times that an allocator goes by, in milliseconds, and what it counts up to. An election waits `election_wait` and
-- what a random word leaves modulo `election_spread`.
use Rattle.std.specs.Prelude.{ℕ}

-- ---- the exchange

-- the next request of a device comes at most so long after the last one that was accepted
abbrev pub stage_timeout : ℕ
stage_timeout = 500

-- ---- Raft

-- the least wait before an election
abbrev pub election_wait : ℕ
election_wait = 2000

abbrev pub election_spread : ℕ
election_spread = 2001

-- a leader that has nothing to send says so long after its last append request that it still leads
abbrev pub heartbeat_interval : ℕ
heartbeat_interval = 400

-- a call to a peer is given up
abbrev pub call_timeout : ℕ
call_timeout = 1000

-- ---- other nodes

-- a node is online for so long after its last NodeStatus
abbrev pub online_timeout : ℕ
online_timeout = 3000

-- between two queries of a node; a response counts for so long too
abbrev pub query_interval : ℕ
query_interval = 1000

-- a node that answers none of so many queries counts as silent
abbrev pub query_limit : ℕ
query_limit = 5

-- ---- what an allocator says of itself

-- between two Discoveries
abbrev pub discovery_interval : ℕ
discovery_interval = 1000

-- between two NodeStatus
abbrev pub status_interval : ℕ
status_interval = 1000

-- ---- transfers

-- a transfer of which no frame came for longer is forgotten
abbrev pub transfer_timeout : ℕ
transfer_timeout = 2000
