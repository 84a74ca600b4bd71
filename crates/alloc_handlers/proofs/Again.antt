-- A recorded pair is answered again.
use Rattle.std.proofs.Common.{◌≡◌, ◌<◌, ◌≤◌, ℕ, zero, suc, Bool, true, false, List, [], ◌∷◌, length, get_or, inl, inr, refl, arith, None, if◌then◌else◌, nat_lt}
use Rattle.alloc_handlers.proofs.Words.{Alloc, AnswerAgain, Durable, Entry, Ghosts, IsInStep, IsWellFormed, Member, Offered, StepState, allocation_payload, given_at, gives_entry, has_room, nat_tests, with_moves, with_transfer}
use Rattle.alloc_handlers.proofs.Noting.{noted_moves}

pub node_low : (entry : Entry) → IsWellFormed entry → entry.node < 128
node_low entry (inl empty) = omega (arith, empty.0)
node_low entry (inr (inl reserved)) = omega (arith, reserved.most)
node_low entry (inr (inr pair)) = omega (arith, pair.most)

-- within a list it does not matter what is read past its end
pub same_at : (log : List Entry) (i : ℕ) (d e : Entry) → i < length log → get_or log i d ≡ get_or log i e
same_at [] i d e below = absurd (omega (arith, below))
same_at (x ∷ log) zero d e below = refl
same_at (x ∷ log) (suc i) d e below = same_at log i d e (omega (arith, below))

pub under : (n m : ℕ) → n < m → nat_lt n m ≡ true
under n m h = grind (arith, nat_tests)

pub not_under : (n m : ℕ) → m ≤ n → nat_lt n m ≡ false
not_under n m h = grind (arith, nat_tests)

-- the move that answers again changes nothing
pub again : {D : Type 0} {disk : Ghosts D} (start : Durable D disk) (member : Member D disk) (g : StepState) (step place : ℕ) (entry : Entry)
    → IsInStep start member (with_transfer step Alloc 0 (allocation_payload entry.node entry.uid) None g) → IsInStep start member (gives_entry step (AnswerAgain place) entry g)
again start member g step place entry h = by (has_room g.allocator.queue (allocation_payload entry.node entry.uid))
  where
    by : (b : Bool) → IsInStep start member (if b then with_moves step (given_at g.allocator.now) (AnswerAgain place ∷ []) (with_transfer step Alloc 0 (allocation_payload entry.node entry.uid) None g) else with_transfer step Alloc 0 (allocation_payload entry.node entry.uid) None g)
    by true = noted_moves start member (with_transfer step Alloc 0 (allocation_payload entry.node entry.uid) None g) h step (given_at g.allocator.now) (AnswerAgain place ∷ []) member.raft refl h.stands.raft
    by false = h
