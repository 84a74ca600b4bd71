-- A leader was elected by a quorum: the facts Led, Votes, Stood and Running.
use Rattle.std.proofs.Common.{◌≡◌, ℕ, ◌<◌, true, List, length, sym, ◌∙◌, subst, get_or}
use Rattle.can_frame.specs.declared.entry.Entry.{Entry}
use Rattle.can_frame.specs.Log.{blank, last_term}
use Rattle.raft_model.specs.Log.{NotAbove}
use Rattle.raft_model.specs.Invariants.{LeadersElected, IsElected}
use Rattle.raft_model.proofs.Micro.{State}
use Rattle.raft_model.proofs.Facts.{Facts}
use Rattle.raft_model.proofs.Bridge.{world_of}

pub elected_shown : (z : State) (n : ℕ) → Facts z → (t : ℕ) → z.led t ≡ true → IsElected (world_of z n) t
elected_shown z n f t led =
    let x = f.led.candidacy t led in
    record {
      candidacy = x.0;
      rest = x.1;
      stood = x.2;
      leader = x.3;
      in_term = x.4;
      list = x.5;
      before = λ i b. subst (λ (u : ℕ). (get_or x.0.log i (blank 0)).term < u) x.4 (f.stood.below x.0 i x.2 b);
      own = x.6;
      votes = f.led.votes t led;
      not_above = λ k i a b. let y = f.votes.candidacy k i in
          let same : y.0.log ≡ x.0.log = f.stood.one y.0 x.0 y.1 x.2 (y.2 ∙ (a ∙ sym x.3)) (y.3 ∙ (b ∙ sym x.4)) in
          subst (λ (l : List Entry). NotAbove (last_term k.log) (length k.log) (last_term l) (length l)) same y.4;
    }

pub leaders_shown : (z : State) (n : ℕ) → Facts z → LeadersElected (world_of z n)
leaders_shown z n f = record
    { elected = elected_shown z n f; injective = f.led.injective; leading = f.running.leads; standing = f.running.stands }
