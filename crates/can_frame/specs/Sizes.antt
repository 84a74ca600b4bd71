-- The sizes that bound an allocator. How many entries a log has at most stands with the log (`Log`, `log_limit`).
use Rattle.std.specs.Prelude.{ℕ}

-- a cluster has at most so many members: a Discovery of the standard names up to five
abbrev pub most_members : ℕ
most_members = 5

-- node IDs and what is counted by node: 0 is anonymous, 1 to 127 are nodes
abbrev pub node_ids : ℕ
node_ids = 128

-- the longest payload of a transfer, in bytes
abbrev pub longest_payload : ℕ
longest_payload = 376

-- the longest payload with the CRC that stands before it, in bytes
abbrev pub longest_transfer : ℕ
longest_transfer = 378

-- the receiver of an allocator follows at most so many transfers at once
abbrev pub sessions : ℕ
sessions = 160

-- the receiver of an allocator has so many blocks of memory for them
abbrev pub blocks : ℕ
blocks = 128
