-- A higher term is raised and cleared.
use Rattle.std.proofs.Common.{◌≡◌, ℕ, true, List, [], ◌∷◌, refl, arith, sym, inl, inr, None}
use Rattle.std.specs.Prelude.{nat_lt, if◌then◌else◌}
use Rattle.raft_model.specs.Server.{Store, RaftServer, put}
use Rattle.raft_model.specs.Server.Role.{Follower}
use Rattle.raft_model.specs.Server.Put.{PutTerm, PutVote}
use Rattle.raft_model.specs.History.{History}
use Rattle.raft_model.specs.Ledger.{Ledger}
use Rattle.raft_model.specs.Moves.{Move, put_history, term_puts, with_term, term_memory}
use Rattle.raft_model.specs.Moves.Move.{TimeOut, TakeVoteRequest, TakeVoteAnswer, TakeAppendRequest, TakeAppendAnswer, ProposeEntry, CommitTo, TellPair, TellNothing, CallForVote, CallToAppend, AnswerAgain, GiveUp}
use Rattle.raft_model.proofs.Micro.Micro.{Raise, Clear}
use Rattle.raft_model.proofs.Focus.{Focus, with_both}
use Rattle.raft_model.proofs.Walk.{Leg, Covered, ledger_stays}
use Rattle.raft_model.proofs.Walk.Mark.{Puts}
use Rattle.raft_model.proofs.Whole.{lt_tells}

pub term_forgets : (m : ℕ) (mv : Move) (s : Store) (t : ℕ) (h : History) → put_history m mv s (PutTerm t) h ≡ h
term_forgets m TimeOut s t h = refl
term_forgets m (TakeVoteRequest r g) s t h = refl
term_forgets m (TakeVoteAnswer a) s t h = refl
term_forgets m (TakeAppendRequest r v) s t h = refl
term_forgets m (TakeAppendAnswer a) s t h = refl
term_forgets m (ProposeEntry e) s t h = refl
term_forgets m (CommitTo k) s t h = refl
term_forgets m TellPair s t h = refl
term_forgets m TellNothing s t h = refl
term_forgets m (CallForVote q) s t h = refl
term_forgets m (CallToAppend q p w) s t h = refl
term_forgets m (AnswerAgain i) s t h = refl
term_forgets m (GiveUp q) s t h = refl

pub clear_forgets : (m : ℕ) (mv : Move) (s : Store) (h : History) → put_history m mv s (PutVote None) h ≡ h
clear_forgets m TimeOut s h = refl
clear_forgets m (TakeVoteRequest r g) s h = refl
clear_forgets m (TakeVoteAnswer a) s h = refl
clear_forgets m (TakeAppendRequest r v) s h = refl
clear_forgets m (TakeAppendAnswer a) s h = refl
clear_forgets m (ProposeEntry e) s h = refl
clear_forgets m (CommitTo k) s h = refl
clear_forgets m TellPair s h = refl
clear_forgets m TellNothing s h = refl
clear_forgets m (CallForVote q) s h = refl
clear_forgets m (CallToAppend q p w) s h = refl
clear_forgets m (AnswerAgain i) s h = refl
clear_forgets m (GiveUp q) s h = refl

-- a put that leaves log and commit adds nothing to the ledger
pub same_commit : (g : Ledger) (s u : Store) → Covered g s → u.commit ≡ s.commit → Covered g u
same_commit g s u h e = record { commit = omega (arith, h.commit, e); stamps = h.stamps }

abbrev pub term_focus : Focus → ℕ → Focus
term_focus f t = with_both f (with_term f.raft_server.store t) (term_memory f.raft_server t) (if nat_lt f.raft_server.store.term t then true else f.fresh)

pub leg_term : (members : List ℕ) (m : ℕ) (mv : Move) (f : Focus) (t : ℕ) → f.raft_server.memory.up ≡ true → Covered f.ledger f.raft_server.store
    → Leg members m mv f (term_focus f t) (term_puts f.raft_server.store t)
leg_term members m mv f t up c = elim (lt_tells f.raft_server.store.term t) [
  | inl h ↦ rw (h.0) (record {
    marks = Puts (PutTerm t) (Raise m t) ∷ Puts (PutVote None) (Clear m) ∷ [];
    walk = (
      record {
        may = (up, h.1);
        bag = refl;
        store = refl;
        history = sym (term_forgets m mv f.raft_server.store t f.history);
        ledger = sym (ledger_stays f.ledger (put f.raft_server.store (PutTerm t))
            (same_commit f.ledger f.raft_server.store (put f.raft_server.store (PutTerm t)) c refl));
      },
      (
        record {
          may = refl;
          bag = refl;
          store = refl;
          history = sym (clear_forgets m mv (put f.raft_server.store (PutTerm t)) f.history);
          ledger = sym (ledger_stays f.ledger (put (put f.raft_server.store (PutTerm t)) (PutVote None))
              (same_commit f.ledger f.raft_server.store (put (put f.raft_server.store (PutTerm t)) (PutVote None)) c refl));
        },
        tt,
      ),
    );
    puts = refl;
    ends = refl;
  })
  | inr h ↦ rw (h.0) (record { marks = []; walk = tt; puts = refl; ends = refl })
]

-- what the term leaves as it was
pub term_log : (s : Store) (t : ℕ) → ((with_term s t).log ≡ s.log) × ((with_term s t).commit ≡ s.commit)
term_log s t = elim (lt_tells s.term t) [ inl h ↦ rw (h.0) (refl, refl) | inr h ↦ rw (h.0) (refl, refl) ]

pub term_up : (p : RaftServer) (t : ℕ) → (term_memory p t).up ≡ p.memory.up
term_up p t = elim (lt_tells p.store.term t) [ inl h ↦ rw (h.0) refl | inr h ↦ rw (h.0) refl ]

pub term_follower : (p : RaftServer) (t : ℕ) → record (term_memory p t) { role = Follower } ≡ record p.memory { role = Follower }
term_follower p t = elim (lt_tells p.store.term t) [ inl h ↦ rw (h.0) refl | inr h ↦ rw (h.0) refl ]
