-- Calls and answers are what they say: the facts Asked, Answered, Calls, Matched and Running.
use Rattle.std.proofs.Common.{◌≡◌, ℕ, ◌∙◌}
use Rattle.raft_model.specs.Lists.{In}
use Rattle.raft_model.specs.History.{KeptVote}
use Rattle.raft_model.specs.Invariants.{CallsSound, HasVote}
use Rattle.raft_model.proofs.Micro.{State}
use Rattle.raft_model.proofs.Facts.{Facts}
use Rattle.raft_model.proofs.Bridge.{world_of}

-- a kept vote, with the candidacy that it is for
pub has_vote : (z : State) (n : ℕ) → Facts z → (v c t : ℕ) → (k : KeptVote) → In k z.kept → k.voter ≡ v → k.candidate ≡ c → k.term ≡ t
    → HasVote (world_of z n).history v c t
has_vote z n f v c t k i a b d = let x = f.votes.candidacy k i in (k, i, a, b, d, (x.0, x.1, x.2 ∙ b, x.3 ∙ d, x.4))

pub calls_shown : (z : State) (n : ℕ) → Facts z → CallsSound (world_of z n)
calls_shown z n f = record {
  answers = λ a i. let x = f.answered.asked a (f.posted.answer a i) in (x.0, x.1, λ h. (f.answered.success a (f.posted.answer a i) h).0);
  pending = λ m q r h e. let x = f.calls.own m q r h e in (x.0, x.1, x.2);
  votes = f.calls.votes;
  appends = f.calls.appends;
  matched = f.matched.acked;
  requests = λ r i k. f.asked.vote r (f.posted.request r i) k;
  granted = λ a i h k. let x = f.answered.voted a (f.posted.answer a i) h k in
      has_vote z n f a.from a.request.from a.request.term x.0 x.1 x.2 x.3 x.4;
  counted = λ m q r h. let x = f.running.counted m q r h in has_vote z n f q m (z.term m) x.0 x.1 x.2 x.3 x.4;
}
