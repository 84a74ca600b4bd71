-- What is in the bag was offered.
use Rattle.std.proofs.Common.{sym, subst, inl, inr}
use Rattle.raft_model.proofs.Micro.{State, Micro, did, May, IsSaid}
use Rattle.raft_model.proofs.Micro.Micro.{Grant, Deny, Accept, Tell, Again, CallVote, CallAppend, Post}
use Rattle.raft_model.proofs.Facts.{Facts, Posted}

pub posted_keeps : (s : State) (e : Micro) → May s e → Facts s → Posted (did s e).requests (did s e).answers (did s e).pairs (did s e).bag
posted_keeps s (Grant m n r) may f = record { request = f.posted.request; pair = f.posted.pair; answer = λ a i. inr (f.posted.answer a i) }
posted_keeps s (Deny m n r) may f = record { request = f.posted.request; pair = f.posted.pair; answer = λ a i. inr (f.posted.answer a i) }
posted_keeps s (Accept m n r) may f = record { request = f.posted.request; pair = f.posted.pair; answer = λ a i. inr (f.posted.answer a i) }
posted_keeps s (Tell m n) may f = record { request = f.posted.request; answer = f.posted.answer; pair = λ a i. inr (f.posted.pair a i) }
posted_keeps s (Again m n k) may f = record { request = f.posted.request; answer = f.posted.answer; pair = λ a i. inr (f.posted.pair a i) }
posted_keeps s (CallVote m n q) may f = record
    { answer = f.posted.answer; pair = f.posted.pair; request = λ a i. inr (f.posted.request a i) }
posted_keeps s (CallAppend m n q p w) may f = record
    { answer = f.posted.answer; pair = f.posted.pair; request = λ a i. inr (f.posted.request a i) }
posted_keeps s (Post g) may f = record {
  request = λ a i. elim i [ inl e ↦ subst (IsSaid s) (sym e) may | inr j ↦ f.posted.request a j ];
  answer = λ a i. elim i [ inl e ↦ subst (IsSaid s) (sym e) may | inr j ↦ f.posted.answer a j ];
  pair = λ a i. elim i [ inl e ↦ subst (IsSaid s) (sym e) may | inr j ↦ f.posted.pair a j ];
}
posted_keeps s _ may f = f.posted
