-- What a server does with a request of a node that has no ID.
use Rattle.std.specs.Prelude.{ℕ, Bool, false, not, ◌&&◌, ◌||◌, nat_eq, nat_lt, List, length, Option, None, Some, slice_index_or, if◌then◌else◌}
use Rattle.alloc_exchange.specs.declared.heard.Heard.{Heard}
use Rattle.alloc_exchange.specs.declared.heard.Heard.TheVariants.{Denied, FollowUp, Ignored, Whole}
use Rattle.alloc_exchange.specs.Exchange.{after, answer}
use Rattle.can_frame.specs.declared.entry.Entry.{Entry}
use Rattle.can_frame.specs.declared.step.What.TheVariants.{Alloc}
use Rattle.can_frame.specs.Log.{blank, log_limit}
use Rattle.dsdl_codec.specs.declared.allocation.Allocation.{Allocation}
use Rattle.dsdl_codec.specs.Allocation.{allocation_bytes}
use Rattle.id_selector.specs.Choice.{chosen}
use Rattle.node_discovery.specs.Watch.{some_unknown}
use Rattle.raft_core.specs.Times.{given_at}
use Rattle.raft_model.specs.Moves.{Move}
use Rattle.raft_model.specs.Moves.Elections.{is_leader}
use Rattle.raft_model.specs.Moves.Move.{AnswerAgain}
use Rattle.alloc_spec.specs.Transfers.{has_room}
use Rattle.alloc_spec.specs.AllocatorState.{AllocatorState, is_zero, known, may_propose, recorded_at, taken}
use Rattle.alloc_spec.specs.StepState.{StepState, with_move_if, with_transfer}
use Rattle.alloc_spec.specs.Tick.{proposes}

-- ---- Allocations: a node ID, or 0 in a follow-up, and bytes of the unique ID

abbrev pub allocation_payload : ℕ → List ℕ → List ℕ
allocation_payload node uid =
    allocation_bytes (record { node = node; first_part = false; uid = record { items = uid } })

-- the Allocation of an entry, given by a move
abbrev pub gives_entry : ℕ → Move → Entry → StepState → StepState
gives_entry step move entry g =
    let payload : List ℕ = allocation_payload entry.node entry.uid in
    with_move_if (has_room g.allocator.queue payload) step (given_at g.allocator.now) move
    (with_transfer step Alloc 0 payload None g)

-- the entry that has so many before it
abbrev pub gives_pair : ℕ → Move → ℕ → StepState → StepState
gives_pair step move place g =
    gives_entry step move (slice_index_or g.allocator.raft_server.store.log place (blank 0)) g

-- ---- a whole unique ID

abbrev pub records_at : ℕ → List ℕ → Option ℕ → StepState → StepState
records_at step uid None g = g
records_at step uid (Some node) g = proposes step 1 uid node g

-- a leader with room gives the ID that the preference leads to, where no online node is unknown: one that is not known
-- and has not told its unique ID
abbrev pub records : ℕ → List ℕ → ℕ → StepState → StepState
records step uid preference g =
    if may_propose g.allocator && not (some_unknown g.allocator.watch (known g.allocator) g.allocator.now)
    then records_at step uid (chosen (taken g.allocator) preference) g
    else g

-- a committed pair is given again, whatever the role; one that is not committed yet is not
abbrev pub answers_again : ℕ → ℕ → StepState → StepState
answers_again step place g =
    if nat_lt place g.allocator.raft_server.store.commit then gives_pair step (AnswerAgain place) place g else g

abbrev pub answers_or_records : ℕ → List ℕ → ℕ → Option ℕ → StepState → StepState
answers_or_records step uid preference None g = records step uid preference g
answers_or_records step uid preference (Some place) g = answers_again step place g

-- zeros are no device's unique ID, and do nothing
abbrev pub hears_whole : ℕ → List ℕ → ℕ → StepState → StepState
hears_whole step uid preference g =
    if is_zero uid then g
    else answers_or_records step uid preference (recorded_at g.allocator.raft_server.store.log uid) g

-- ---- a request

-- follow-ups are given by a leader whose log is committed, or full
abbrev pub may_follow : AllocatorState → Bool
may_follow t = is_leader t.raft_server.memory.role
    && (nat_eq t.raft_server.store.commit (length t.raft_server.store.log)
    || nat_eq (length t.raft_server.store.log) log_limit)

abbrev pub with_request : Allocation → StepState → StepState
with_request message g =
    record g {
      allocator = record g.allocator
          { accepted = after g.allocator.accepted message g.allocator.now (may_follow g.allocator) };
    }

abbrev pub answers_request : ℕ → Heard → StepState → StepState
answers_request step (FollowUp bytes) g = with_transfer step Alloc 0 (allocation_payload 0 bytes.items) None g
answers_request step (Whole uid preference) g = hears_whole step uid preference g
answers_request step (Ignored why) g = g
answers_request step Denied g = g

abbrev pub hears_allocation : ℕ → Allocation → StepState → StepState
hears_allocation step message g =
    answers_request step (answer g.allocator.accepted message g.allocator.now (may_follow g.allocator))
    (with_request message g)
