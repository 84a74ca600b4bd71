-- What members call each other to append agrees with what the called one has committed.
use Rattle.std.specs.Prelude.{◌≡◌, ℕ, ◌+◌, ◌≤◌, List, ◌∷◌, ◌++◌, Some, true}
use Rattle.can_frame.specs.declared.entry.Entry.{Entry}
use Rattle.can_frame.specs.declared.identifier.Kind.TheVariants.{Request}
use Rattle.can_frame.specs.DataTypes.{append_entries}
use Rattle.can_frame.specs.Log.{IsDistinctFromAll, entry_at}
use Rattle.dsdl_codec.specs.declared.append_request.AppendRequest.{AppendRequest}
use Rattle.dsdl_codec.specs.AppendRequest.{append_request_of}
use Rattle.raft_model.specs.Server.{Store, committed}
use Rattle.bus_rows.specs.declared.row.Row.{Row}
use Rattle.bus_rows.specs.declared.row.Row.TheVariants.{Rx}
use Rattle.transfer_rx.specs.Reassembly.{Delivery, Gives, answer}
use Rattle.alloc_spec.specs.Accepted.{setting_for}
use Rattle.alloc_spec.specs.AllocatorState.{AllocatorState}
use Rattle.alloc_spec.specs.Services.{is_listed}
use Rattle.alloc_spec.specs.Step.{at_moment, at_step}
use Rattle.bus_spec.specs.Cluster.{Cluster, arrival_at, frame_at, world_of}
use Rattle.bus_spec.specs.Members.MemberStatus.{Up}

-- what a request says of places that are committed is what stands there, and what it adds behind them repeats none
pub record AgreesWith (store : Store) (request : AppendRequest) : Type 0 where
  -- where the place before its entry is committed, the term there is the one that it says
  pub before : 1 ≤ request.prev_index → request.prev_index ≤ store.commit
      → (entry_at store.log request.prev_index).term ≡ request.prev_term
  -- where the place of its entry is committed, that entry stands there
  pub same : (entry : Entry) → request.entry ≡ Some entry → request.prev_index + 1 ≤ store.commit
      → entry_at store.log (request.prev_index + 1) ≡ entry
  -- an entry for a place behind the committed ones may stand in one log with each of these
  pub apart : (entry : Entry) → request.entry ≡ Some entry → store.commit ≤ request.prev_index
      → IsDistinctFromAll (committed store) entry

-- member n runs, and the frame, as it comes at this moment, completes this request of AppendEntries of a member that it
-- lists
pub record BringsCall (w : Cluster) (n k ms : ℕ) (server : AllocatorState) (request : AppendRequest) : Type 0 where
  pub runs : (w.member n).status ≡ Up server
  pub delivery : Delivery
  pub gives : answer (setting_for server.me) server.sessions
      (at_step (at_moment ms server) (arrival_at (frame_at w.frames k) ms)) ≡ Gives delivery
  pub kind : delivery.ident.kind ≡ Request
  pub service : delivery.ident.number ≡ append_entries.number
  pub listed : is_listed delivery server ≡ true
  pub says : append_request_of delivery.payload ≡ Some request

-- Of a list of rows: each such request that a row brings, in the member's own term or a later one, agrees with what the
-- member has committed by then. One of an earlier term need not: a leader that was deposed may call late.
abbrev pub CallsAgree : List ℕ → List Row → Type 0
CallsAgree ids rows = (first rest : List Row) (n k ms : ℕ) (server : AllocatorState) (request : AppendRequest)
    → rows ≡ first ++ (Rx n k ms ∷ rest) → BringsCall (world_of ids first) n k ms server request
    → server.raft_server.store.term ≤ request.term → AgreesWith server.raft_server.store request
