-- A step that is delivered the vote answer for which a server waits: the peer has answered, or, where the bytes read as
-- no answer, the call is pending still when the step makes its calls.
use Rattle.std.proofs.Common.{◌≡◌, ℕ, ◌+◌, ◌<◌, Bool, true, false, [], ◌∷◌, refl, sym, ◌∙◌, ap, subst, Option, None, Some}
use Rattle.std.specs.Prelude.{◌&&◌, max, nat_lt, if◌then◌else◌}
use Rattle.can_frame.specs.declared.identifier.Kind.{Kind}
use Rattle.can_frame.specs.declared.step.What.TheVariants.{Vote}
use Rattle.dsdl_codec.specs.declared.vote_answer.VoteAnswer.{VoteAnswer}
use Rattle.dsdl_codec.specs.VoteAnswer.{vote_answer_of}
use Rattle.raft_core.specs.Handled.{answer_of}
use Rattle.raft_core.specs.Times.{Times, end_vote_call, given_at, step_down, win}
use Rattle.raft_model.specs.Lists.{at_here}
use Rattle.raft_model.specs.Messages.{Answer, Request}
use Rattle.raft_model.specs.Moves.Elections.{counts, has_quorum, votes_with}
use Rattle.raft_model.specs.Moves.Move.{TakeVoteAnswer}
use Rattle.raft_model.specs.Server.{Role}
use Rattle.raft_model.specs.Server.Role.{Candidate, Follower, Leader}
use Rattle.bus_rows.specs.declared.row.Row.{Row}
use Rattle.transfer_rx.specs.Reassembly.{Answer as Received, Arrival}
use Rattle.alloc_spec.specs.AllocatorState.{AllocatorState, members_of}
use Rattle.alloc_spec.specs.Delivered.{StepResult, by_kind, delivery_phase, reads}
use Rattle.alloc_spec.specs.Services.{answers_call, takes_vote_answer, vote_answered}
use Rattle.alloc_spec.specs.Step.{with_answer}
use Rattle.alloc_spec.specs.Step.Event.{Rx}
use Rattle.alloc_spec.specs.StepState.{StepState, with_moves}
use Rattle.alloc_spec.specs.Transfers.{SentTransfer, kind_of, number_of}
use Rattle.alloc_spec.proofs.Blanks.{move_with_blank}
use Rattle.alloc_spec_laws.specs.Phases.{when_seen, when_told}
use Rattle.service_candidate.specs.Votes.{WaitsForVote}
use Rattle.service_leader.proofs.RaftPhases.{EndsQuietly, Keeps, OfServer, until_calls}
use Rattle.service_calm.specs.Comes.{Delivers, delivery_of}
use Rattle.service_leader.proofs.AnswersAwaited.{IsAwaited, comes_awaited, vote_ends}
use Rattle.service_leader.proofs.Deliveries.{come, given}
use Rattle.bus_spec.specs.Cluster.{Cluster, arrival_at, frame_at}

-- what reads as no vote answer changes nothing
no_answer : (number : ℕ) (y : SentTransfer) (g : StepState) → y.offer.what ≡ Vote → vote_answer_of y.offer.payload ≡ None
    → (delivery_phase number (delivery_of y) g).step_state ≡ g
unfolding delivery_phase
no_answer number y g what read = ap (λ (k : Kind). (by_kind number (delivery_of y) k g).step_state) (ap kind_of what)
    ∙ rw (ap number_of what) (ap (λ (r : Option VoteAnswer). (reads (takes_vote_answer number (delivery_of y)) r g).step_state) read)

-- whether a peer has answered
answered_down : (now : ℕ) (role : Role) (times : Times) (m : ℕ) → (step_down now role times).answered m ≡ times.answered m
answered_down now Follower times m = refl
answered_down now Candidate times m = refl
answered_down now Leader times m = refl

module _ (n moment : ℕ) (y : SentTransfer) (request : Request) (w : Cluster) (row : Row) (delivers : Delivers n y w row)
    (me : delivers.server.me ≡ n) (what : y.offer.what ≡ Vote)
    (waits : WaitsForVote y.by y.offer.id moment request delivers.server) (soon : max delivers.server.now delivers.ms < moment + 1000) where
  abbrev t : AllocatorState
  t = delivers.server

  abbrev m : ℕ
  m = y.by

  abbrev number : ℕ
  number = w.rows + 1

  abbrev arrival : Arrival
  arrival = arrival_at (frame_at w.frames delivers.k) delivers.ms

  -- as the answer comes
  abbrev g : StepState
  g = come n y w row delivers

  its : IsAwaited y request t g
  its = comes_awaited n moment y request w row delivers waits.listed waits.pending waits.kept soon

  -- what the step has seen by then
  seen : when_seen t number (Rx arrival) ≡ (delivery_phase number (delivery_of y) g).step_state
  seen = ap (λ (a : Received). (with_answer number a g).step_state) (given n y w row delivers me)

  -- ---- it reads as no answer

  abbrev IsPending : OfServer
  IsPending me_ server times now = (server.memory.pending m ≡ Some request) × (times.sending m ≡ Some (record { id = y.offer.id; moment = moment }))

  pending_quietly : EndsQuietly IsPending
  pending_quietly = record { commits = λ place me_ server times now leads h. h; tells = λ told me_ server times now leads h. h }

  pub pending_told : vote_answer_of y.offer.payload ≡ None → Keeps IsPending (when_told t number (Rx arrival))
  pending_told read = until_calls number IsPending pending_quietly (when_seen t number (Rx arrival))
      (subst (Keeps IsPending) (sym (seen ∙ no_answer number y g what read)) (its.pending, its.keeps.sending ∙ waits.kept))

  -- ---- it reads as an answer

  abbrev HasAnswered : OfServer
  HasAnswered me_ server times now = times.answered m ≡ true

  answered_quietly : EndsQuietly HasAnswered
  answered_quietly = record { commits = λ place me_ server times now leads h. h; tells = λ told me_ server times now leads h. h }

  module _ (says : VoteAnswer) (read : vote_answer_of y.offer.payload ≡ Some says) where
    abbrev taken : Answer
    taken = answer_of y.step m request says.term says.granted

    taken_is : (delivery_phase number (delivery_of y) g).step_state ≡ answers_call number (vote_answered (delivery_of y) says) (Some request) g
    taken_is = ap (λ (s : StepResult). s.step_state) (vote_ends number y request t g its says what read waits.vote)

    abbrev moved : StepState
    moved = with_moves number (given_at g.allocator.now) (TakeVoteAnswer taken ∷ []) g

    ended : Times
    ended = end_vote_call m g.allocator.times

    by : (higher counted : Bool) → (if higher then step_down g.allocator.now g.allocator.raft_server.memory.role (end_vote_call m g.allocator.times)
        else (if counted then win (end_vote_call m g.allocator.times) else end_vote_call m g.allocator.times)).answered m ≡ true
    by true counted = answered_down g.allocator.now g.allocator.raft_server.memory.role (end_vote_call m g.allocator.times) m
        ∙ at_here g.allocator.times.answered m m true refl
    by false true = at_here g.allocator.times.answered m m true refl
    by false false = at_here g.allocator.times.answered m m true refl

    has_moved : Keeps HasAnswered moved
    has_moved = by (nat_lt g.allocator.raft_server.store.term says.term)
        (counts g.allocator.raft_server taken && has_quorum (members_of g.allocator) (votes_with g.allocator.raft_server.memory taken))

    pub answered_told : (when_told t number (Rx arrival)).allocator.times.answered m ≡ true
    answered_told = until_calls number HasAnswered answered_quietly (when_seen t number (Rx arrival))
        (subst (Keeps HasAnswered) (sym (seen ∙ taken_is))
        (move_with_blank (Keeps HasAnswered) number (given_at g.allocator.now) (TakeVoteAnswer taken) g has_moved (λ blank. has_moved)))
