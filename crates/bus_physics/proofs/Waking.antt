-- A member that was opened follows for 2,000 ms at the least: what a move keeps of it.
use Rattle.std.proofs.Common.{◌≡◌, ℕ, ◌+◌, ◌≤◌, Bool, true, false, List, refl, sym, ap, subst, ◌∙◌, arith, ◌⊎◌, inl, inr}
use Rattle.std.specs.Prelude.{⊤, ◌==◌, ◌&&◌, nat_lt, if◌then◌else◌}
use Rattle.raft_core.specs.Times.{HandedIn, Times, end_call, end_vote_call, stand, step_down, times_after, win}
use Rattle.raft_model.specs.Moves.{Move, memory_after}
use Rattle.raft_model.specs.Moves.Appending.{acknowledges, matched_memory}
use Rattle.raft_model.specs.Moves.Appending.Verdict.{Added, Held, Outdated, Refused}
use Rattle.raft_model.specs.Moves.Elections.{counting_memory, counts, has_quorum, is_candidate, memory_without_call, own_vote, stepped_down, votes_with}
use Rattle.raft_model.specs.Moves.Move.{AnswerAgain, CallForVote, CallToAppend, CommitTo, GiveUp, ProposeEntry, TakeAppendAnswer, TakeAppendRequest, TakeVoteAnswer, TakeVoteRequest, TellNothing, TellPair, TimeOut}
use Rattle.raft_model.specs.Server.{Memory, RaftServer, Role}
use Rattle.raft_model.specs.Server.Role.{Candidate, Follower, Leader}
use Rattle.bus_agreement.proofs.Lists.{never}

-- ---- the wait for an election

-- it is the one that it was, or begins now
abbrev Goes : ℕ → Times → Times → Type 0
Goes now first times = (times.since ≡ first.since) ⊎ (times.since ≡ now)

down : (now : ℕ) (role : Role) (first times : Times) → times.since ≡ first.since → Goes now first (step_down now role times)
down now Follower first times same = inl same
down now Candidate first times same = inr refl
down now Leader first times same = inr refl

down_if : (lower : Bool) (now : ℕ) (role : Role) (first times : Times) → times.since ≡ first.since → Goes now first (if lower then step_down now role times else times)
down_if true now role first times same = down now role first times same
down_if false now role first times same = inl same

module _ (members : List ℕ) (me number now : ℕ) (given : HandedIn) (is : given.now ≡ now) (server : RaftServer) where
  goes : (times : Times) (move : Move) → Goes now times (times_after members me given server move times)
  goes times TimeOut = by (has_quorum members (own_vote me)) where
    by : (quorum : Bool) → Goes now times (if quorum then win (stand given times) else stand given times)
    by true = inr is
    by false = inr is
  goes times (TakeVoteRequest request true) = inr is
  goes times (TakeVoteRequest request false) =
      subst (λ (n : ℕ). Goes now times (if nat_lt server.store.term request.term then step_down n server.memory.role times else times)) (sym is)
      (down_if (nat_lt server.store.term request.term) now server.memory.role times times refl)
  goes times (TakeVoteAnswer answer) =
      by (nat_lt server.store.term answer.term) (counts server answer && has_quorum members (votes_with server.memory answer)) where
        by : (higher won : Bool) → Goes now times (if higher then step_down given.now server.memory.role (end_vote_call answer.from times)
            else (if won then win (end_vote_call answer.from times) else end_vote_call answer.from times))
        by true won = subst (λ (n : ℕ). Goes now times (step_down n server.memory.role (end_vote_call answer.from times))) (sym is)
            (down now server.memory.role times (end_vote_call answer.from times) refl)
        by false true = inl refl
        by false false = inl refl
  goes times (TakeAppendRequest request Outdated) = inl refl
  goes times (TakeAppendRequest request Refused) = inr is
  goes times (TakeAppendRequest request Held) = inr is
  goes times (TakeAppendRequest request (Added entry)) = inr is
  goes times (TakeAppendAnswer answer) =
      subst (λ (n : ℕ). Goes now times (if nat_lt server.store.term answer.term then step_down n server.memory.role (end_call answer.from times) else end_call answer.from times)) (sym is)
      (down_if (nat_lt server.store.term answer.term) now server.memory.role times (end_call answer.from times) refl)
  goes times (ProposeEntry entry) = inl refl
  goes times (CommitTo index) = inl refl
  goes times TellPair = inl refl
  goes times TellNothing = inl refl
  goes times (CallForVote q) = inl refl
  goes times (CallToAppend q previous with_entry) = inl refl
  goes times (AnswerAgain place) = inl refl
  goes times (GiveUp q) = inl refl

  -- it began by now
  pub moved_since : (times : Times) → times.since ≤ now → (move : Move) → (times_after members me given server move times).since ≤ now
  moved_since times low move = elim (goes times move) [ inl same ↦ omega (arith, same, low) | inr begins ↦ omega (arith, begins) ]

-- a member stands for election only after the least wait
abbrev pub HasWaited : Times → ℕ → Move → Type 0
HasWaited times now TimeOut = times.since + 2000 ≤ now
HasWaited times now move = ⊤

-- ---- since an opening

-- it was opened at this moment: its wait began no sooner, and it follows, or the least wait is over
pub record IsAwake (opening : ℕ) (m : Memory) (times : Times) (now : ℕ) : Type 0 where
  pub wait : opening ≤ times.since
  pub follows : (m.role ≡ Follower) ⊎ (opening + 2000 ≤ now)

module _ (opening : ℕ) (members : List ℕ) (me number now : ℕ) (given : HandedIn) (is : given.now ≡ now) (server : RaftServer) (times : Times) where
  -- a follower stays one
  stays : server.memory.role ≡ Follower → opening ≤ times.since → (move : Move) → HasWaited times now move
      → ((memory_after members me number server move).role ≡ Follower) ⊎ (opening + 2000 ≤ now)
  stays role low TimeOut waited = inr (omega (arith, low, waited))
  stays role low (TakeVoteRequest request granted) waited = inl (by (nat_lt server.store.term request.term)) where
    by : (lower : Bool) → (if lower then record server.memory { role = Follower } else server.memory).role ≡ Follower
    by true = refl
    by false = role
  stays role low (TakeVoteAnswer answer) waited = inl (by (nat_lt server.store.term answer.term) (counts server answer) refl) where
    by : (higher counted : Bool) → counts server answer ≡ counted
        → (if higher then stepped_down server.memory answer.from else (if counted then counting_memory members server answer
        else memory_without_call server.memory answer.from)).role ≡ Follower
    by true counted e = refl
    by false true e = never (sym (ap (λ (r : Role). is_candidate r && ((answer.term == server.store.term) && answer.success)) role) ∙ e)
    by false false e = role
  stays role low (TakeAppendRequest request Outdated) waited = inl role
  stays role low (TakeAppendRequest request Refused) waited = inl refl
  stays role low (TakeAppendRequest request Held) waited = inl refl
  stays role low (TakeAppendRequest request (Added entry)) waited = inl refl
  stays role low (TakeAppendAnswer answer) waited = inl (by (nat_lt server.store.term answer.term) (acknowledges server answer)) where
    by : (higher counted : Bool)
        → (if higher then stepped_down server.memory answer.from else (if counted then matched_memory server.memory answer
        else memory_without_call server.memory answer.from)).role ≡ Follower
    by true counted = refl
    by false true = role
    by false false = role
  stays role low (ProposeEntry entry) waited = inl role
  stays role low (CommitTo index) waited = inl role
  stays role low TellPair waited = inl role
  stays role low TellNothing waited = inl role
  stays role low (CallForVote q) waited = inl role
  stays role low (CallToAppend q previous with_entry) waited = inl role
  stays role low (AnswerAgain place) waited = inl role
  stays role low (GiveUp q) waited = inl role

  pub awake_after : times.since ≤ now → (move : Move) → HasWaited times now move → IsAwake opening server.memory times now
      → IsAwake opening (memory_after members me number server move) (times_after members me given server move times) now
  awake_after began move waited awake = record {
    wait = elim (goes members me number now given is server times move) [
      | inl same ↦ omega (arith, same, awake.wait)
      | inr begins ↦ omega (arith, begins, awake.wait, began)
    ];
    follows = elim awake.follows [ inl role ↦ stays role awake.wait move waited | inr over ↦ inr over ];
  }

pub awake_later : (opening : ℕ) (m : Memory) (times : Times) (now then_ : ℕ) → now ≤ then_ → IsAwake opening m times now → IsAwake opening m times then_
awake_later opening m times now then_ less awake = record {
  wait = awake.wait;
  follows = elim awake.follows [ inl role ↦ inl role | inr over ↦ inr (omega (arith, less, over)) ];
}
