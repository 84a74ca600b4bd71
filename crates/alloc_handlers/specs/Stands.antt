-- What a member of the code stands for, between the parts of a step.
use Rattle.std.specs.Prelude.{◌≡◌, ℕ, ◌+◌, ◌≤◌, Option, None, Result, IfOk, OnOk}
use Rattle.std.specs.Result.{result_err}
use Rattle.arrayvec.specs.ArrayVec.{array_vec_len}
use Rattle.can_frame.specs.declared.step.Seen.{Seen}
use Rattle.can_frame.specs.Sizes.{most_members}
use Rattle.disk_model.specs.declared.disk.Disk.{Ghosts}
use Rattle.kv_store.specs.declared.fault.Fault.{Fault}
use Rattle.raft_log.specs.declared.durable.Durable.{Durable}
use Rattle.raft_log.specs.DurableViews.{durable_state}
use Rattle.raft_core.specs.Fits.{Fits}
use Rattle.raft_core.specs.RaftViews.{raft_me, raft_size}
use Rattle.raft_core.specs.StoredPuts.{CallFaultIsSticky, CallWrites}
use Rattle.raft_core.specs.Stands as raft
use Rattle.alloc_exchange.specs.Stands as exchange
use Rattle.node_discovery.specs.Stands as watch
use Rattle.cluster_discovery.specs.Stands as cluster
use Rattle.alloc_handlers.specs.declared.member.Member.{Member}
use Rattle.alloc_spec.specs.AllocatorState.{AllocatorState, members_of, start_of}
use Rattle.alloc_spec.specs.StepState.{StepState, pairs, listing_of}
use Rattle.alloc_spec.specs.Delivered.{StepResult}

-- part for part
pub record StandsFor {D : Type 0} {disk : Ghosts D} (member : Member D disk) (t : AllocatorState) : Type 0 where
  pub me : member.me ≡ t.me
  pub size : member.size ≡ t.size
  pub raft : raft.StandsFor member.raft (members_of t) (durable_state member.durable) t.raft_server t.times
  pub exchange : exchange.StandsFor member.exchange t.accepted
  pub watch : watch.StandsFor member.watch t.watch
  pub counting : member.counting ≡ t.counting
  pub cluster : cluster.StandsFor member.cluster (start_of t) t.heard
  pub outbox : member.outbox ≡ record { me = t.me; queue = t.queue; ids = t.ids }
  pub opened_at : member.opened_at ≡ t.opened_at
  pub now : member.latest ≡ t.now
  pub status_at : member.status_at ≡ t.status_at

-- what always holds of a member between the parts of a step
pub record IsReady {D : Type 0} {disk : Ghosts D} (member : Member D disk) : Type 0 where
  pub least : 1 ≤ member.me
  pub most : member.me ≤ 125
  pub some : 1 ≤ member.size
  pub five : member.size ≤ most_members
  -- its parts are of this member, and of this cluster
  pub raft_me : raft_me member.raft ≡ member.me
  pub raft_size : raft_size member.raft ≡ member.size
  pub outbox_me : member.outbox.me ≡ member.me
  pub opened_before : member.opened_at ≤ member.latest
  pub status_before : member.status_at ≤ member.latest
  -- what it keeps in memory fits what is stored
  pub fits : Fits member.raft (durable_state member.durable)

-- the member is ready, and there is room for so many transfers and pairs more on the list of its step
pub record IsReadyFor {D : Type 0} {disk : Ghosts D} (sent given : ℕ) (member : Member D disk) : Type 0 where
  pub ready : IsReady member
  pub sent_room : array_vec_len member.offered.sent + sent ≤ 12
  pub given_room : array_vec_len member.offered.answers + given ≤ 2

-- the member is in a step that has gone so far, from what was stored at its beginning; its list is that of the step
pub record IsInStep {D : Type 0} {disk : Ghosts D} (start : Durable D disk) (member : Member D disk) (g : StepState)
    : Type 0 where
  pub stands : StandsFor member g.allocator
  pub sent : member.offered.sent.items ≡ listing_of g
  pub given : member.offered.answers.items ≡ pairs g
  pub puts : CallWrites g.puts start member.durable None

-- the step goes on to here, up to the first put that fails
pub record GoesTo {D : Type 0} {disk : Ghosts D} (start : Durable D disk) (member : Member D disk) (g : StepState)
    (failed : Option Fault) : Type 0 where
  pub puts : CallWrites g.puts start member.durable failed
  pub step_state : failed ≡ None → IsInStep start member g

-- the step goes on to here, and tells what it saw
pub record SeesTo {D : Type 0} {disk : Ghosts D} (start : Durable D disk) (member : Member D disk)
    (step_result : StepResult) (result : Result Seen Fault) : Type 0 where
  pub goes : GoesTo start member step_result.step_state (result_err result)
  pub seen : IfOk result (λ seen. seen ≡ step_result.seen)

-- ---- parts of a step, from one member to another

module _ {D : Type 0} {disk : Ghosts D} (old new : Member D disk) where
  -- a part without puts
  abbrev pub GoesOn : (StepState → StepState) → Type 0
  GoesOn part = (start : Durable D disk) (g : StepState) → IsInStep start old g → IsInStep start new (part g)

  -- one whose puts may fail
  abbrev pub GoesUpTo : (StepState → StepState) → Option Fault → Type 0
  GoesUpTo part failed = (start : Durable D disk) (g : StepState) → IsInStep start old g →
      GoesTo start new (part g) failed

  -- one that sees something: without puts, and with puts that may fail
  abbrev pub SeesOn : (StepState → StepResult) → Seen → Type 0
  SeesOn part seen = (start : Durable D disk) (g : StepState) → IsInStep start old g →
      IsInStep start new (part g).step_state × (seen ≡ (part g).seen)

  abbrev pub SeesUpTo : (StepState → StepResult) → Result Seen Fault → Type 0
  SeesUpTo part result = (start : Durable D disk) (g : StepState) → IsInStep start old g →
      SeesTo start new (part g) result

-- in the same step at most so many transfers and pairs more are listed
pub record ListsUpTo {D : Type 0} {disk : Ghosts D} (sent given : ℕ) (old new : Member D disk) : Type 0 where
  pub step : new.offered.step ≡ old.offered.step
  pub sent_most : array_vec_len new.offered.sent ≤ array_vec_len old.offered.sent + sent
  pub given_most : array_vec_len new.offered.answers ≤ array_vec_len old.offered.answers + given

-- what a part without puts leaves: a member that is ready, with the same stored state, and at most so many transfers
-- and pairs more on the list
pub record Leaves {D : Type 0} {disk : Ghosts D} (sent given : ℕ) (old new : Member D disk) : Type 0 where
  pub ready : IsReady new
  pub lists : ListsUpTo sent given old new
  pub durable : new.durable ≡ old.durable

-- what a part with puts leaves: a member that is ready where no put failed, and at most so many transfers and pairs
-- more on the list; where a put failed, its fault has a cause and is kept
pub record LeavesUpTo {D T : Type 0} {disk : Ghosts D} (sent given : ℕ) (old new : Member D disk)
    (result : Result T Fault) : Type 0 where
  pub ready : OnOk result (IsReady new)
  pub lists : ListsUpTo sent given old new
  pub faults : CallFaultIsSticky old.durable new.durable (result_err result)
