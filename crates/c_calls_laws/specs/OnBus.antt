-- A member of a bus that a C caller drives: what it does and what others do there, as rows of a world.
use Rattle.std.specs.Prelude.{◌≡◌, ◌≢◌, ⊤, ℕ, suc, ◌==◌, List, [], ◌∷◌, ◌++◌, length, MatchOption, Option, None, Some, if◌then◌else◌}
use Rattle.std.specs.Int.{from_le_bytes, w64}
use Rattle.bus_rows.specs.declared.row.Row.{Row}
use Rattle.bus_rows.specs.declared.row.Row.TheVariants.{Crash, Fault, Open, Rx, Send, Tick}
use Rattle.transfer_tx.specs.Queue.{Queued}
use Rattle.raft_core.specs.StoredPuts.{store_of}
use Rattle.raft_log.specs.DurableViews.{durable_state}
use Rattle.alloc_spec.specs.AllocatorState.{AllocatorState}
use Rattle.alloc_server.specs.Server.{durable_of}
use Rattle.alloc_ghost_erasure.specs.Unmarked.{unmarked_server}
use Rattle.bus_spec.specs.Cluster.{Cluster, after_rows, frame_at}
use Rattle.bus_spec.specs.Members.MemberStatus.{Up}
use Rattle.cmd_node_laws.specs.Mirrored.{IsCalm}
use Rattle.c_calls.specs.declared.node.Node.{Node}
use Rattle.c_calls.specs.At.{Calls, IsAt, first_bytes, head_of, high, low}
use Rattle.c_calls.specs.Runs.{Call, Hears, Learns, Takes, Tells, Ticks}

-- what happens, in the order of time: a call of the node, with the number on the bus of the frame that it hears, if it
-- hears one; or a row of others
pub data Happening : Type 0 where
  IsCalled : (call : Call) (k : ℕ) → Happening
  IsOfOthers : (row : Row) → Happening

abbrev pub calls_in : List Happening → List Call
calls_in [] = []
calls_in (IsCalled call k ∷ rest) = call ∷ calls_in rest
calls_in (IsOfOthers row ∷ rest) = calls_in rest

-- ---- the rows

-- that which a call of the node of member n is, if it is one
abbrev pub rows_of_call : ℕ → Call → ℕ → List Row
rows_of_call n (Ticks now a b) k = Tick n now (low a) ∷ []
rows_of_call n (Hears now a b) k = Rx n k now ∷ []
rows_of_call n (Learns now a b) k = []
rows_of_call n (Takes now a b result) k = if result == 0 then [] else Send n ∷ []
rows_of_call n (Tells op now a b result) k = []

abbrev pub rows_of : ℕ → Happening → List Row
rows_of n (IsCalled call k) = rows_of_call n call k
rows_of n (IsOfOthers row) = row ∷ []

abbrev pub all_rows : ℕ → List Happening → List Row
all_rows n [] = []
all_rows n (first ∷ rest) = rows_of n first ++ all_rows n rest

-- ---- the premises

-- the member that a row is of, if it is of one
abbrev pub member_of : Row → Option ℕ
member_of (Open m told ms word) = Some m
member_of (Tick m ms word) = Some m
member_of (Rx m k ms) = Some m
member_of (Send m) = Some m
member_of (Crash m calls pattern) = Some m
member_of (Fault m call) = Some m
member_of row = None

-- the numbers of the call are this frame
pub record IsGiven (frame : Queued) (a b : ℕ) : Type 0 where
  pub id : frame.id ≡ low a
  pub bytes : frame.bytes ≡ first_bytes (high a) b

-- What a call hears is the frame with that number, as it is on the bus. The node was told its members by now, or is
-- not told them. Others do nothing at its member.
abbrev pub MayHappen : ℕ → Cluster → Happening → Type 0
MayHappen n w (IsCalled (Hears now a b) k) = IsGiven (frame_at w.frames k) a b
MayHappen n w (IsCalled (Learns now a b) k) = ⊥
MayHappen n w (IsCalled (Ticks now a b) k) = ⊤
MayHappen n w (IsCalled (Takes now a b result) k) = ⊤
MayHappen n w (IsCalled (Tells op now a b result) k) = ⊤
MayHappen n w (IsOfOthers row) = Some n ≢ member_of row

abbrev pub MayAllHappen : ℕ → Cluster → List Happening → Type 0
MayAllHappen n w [] = ⊤
MayAllHappen n w (first ∷ rest) = MayHappen n w first × MayAllHappen n (after_rows w (rows_of n first)) rest

-- the node was opened as member n of that world, with what this member has stored there, of which nothing is set to fail
pub record IsOpenedIn (w : Cluster) (n : ℕ) (closed opened : Node) (now a b : ℕ) : Type 0 where
  pub done : Calls closed opened 1 now a b 0
  pub id : closed.id ≡ n
  pub size : closed.size ≡ length w.ids
  pub stored : MatchOption opened.server ⊥ (λ server.
      store_of (durable_state (durable_of server)) ≡ store_of (w.member n).disk.store)
  pub calm : IsCalm (w.member n)

-- ---- what follows

-- The node stands for member n of that world, but for marks and the numbers of steps; and nothing is set to fail there.
pub record IsMember (n : ℕ) (w : Cluster) (node : Node) : Type 0 where
  pub allocator : AllocatorState
  pub stands : IsAt node allocator
  pub server : AllocatorState
  pub runs : (w.member n).status ≡ Up server
  pub same : unmarked_server server ≡ unmarked_server allocator
  pub calm : IsCalm (w.member n)

-- what a caller gets of a frame: the answer to the call that takes it, and to that for its bytes
abbrev pub got_of : Queued → ℕ × ℕ
got_of frame = (head_of frame, from_le_bytes w64 frame.bytes)

-- what the caller gets by a call that leaves this node
abbrev pub got_by : Call → Node → List (ℕ × ℕ)
got_by (Takes now a b result) node = if result == 0 then [] else (result, node.bytes) ∷ []
got_by (Ticks now a b) node = []
got_by (Hears now a b) node = []
got_by (Learns now a b) node = []
got_by (Tells op now a b result) node = []

-- what the caller gets by these calls, in order, where the node is `at 0` before the first of them, and `at k` after k
abbrev pub got_in : List Call → (ℕ → Node) → List (ℕ × ℕ)
got_in [] at = []
got_in (call ∷ calls) at = got_by call (at 1) ++ got_in calls (λ k. at (suc k))
