-- Append answers, proposals, commits, pairs and calls are lawful lists of micro moves.
use Rattle.std.proofs.Common.{◌≡◌, ℕ, true, List, [], ◌∷◌, refl, sym, inl, inr}
use Rattle.std.specs.Prelude.{◌&&◌, ◌==◌}
use Rattle.std.proofs.lemmas.Bool.{eqb-true}
use Rattle.raft_model.specs.Messages.{Answer}
use Rattle.raft_model.specs.Messages.Message.{Requests, Pairs}
use Rattle.raft_model.specs.Server.{Role, put}
use Rattle.raft_model.specs.Server.Role.{Follower, Candidate, Leader}
use Rattle.raft_model.specs.Server.Put.{PutEntry, PutLonger, PutCommit}
use Rattle.raft_model.specs.Moves.{Move, IsEnabled, is_leader, vote_request, append_request, pair_at}
use Rattle.raft_model.specs.Moves.Move.{TimeOut, TakeVoteRequest, TakeVoteAnswer, TakeAppendRequest, TakeAppendAnswer, ProposeEntry, CommitTo, TellPair, TellNothing, CallForVote, CallToAppend, AnswerAgain, GiveUp}
use Rattle.raft_model.proofs.Micro.Micro.{Drop, Taken, Write, Propose, Commit, Tell, Pass, Again, CallVote, CallAppend}
use Rattle.raft_model.proofs.Focus.{Focus, focused}
use Rattle.raft_model.proofs.Walk.{Covered, ledger_stays}
use Rattle.raft_model.proofs.Walk.Mark.{Puts}
use Rattle.raft_model.proofs.Whole.{Whole, lt_tells}
use Rattle.raft_model.proofs.Terms.{same_commit}
use Rattle.raft_model.proofs.Elections.{only_said, time_out, vote_request_lawful, was_said, stepping_down, vote_answer_lawful}
use Rattle.raft_model.proofs.Appends.{append_request_lawful}
use Rattle.raft_model.proofs.Quorum.{tell}
use Rattle.raft_model.proofs.Complete.{and_left, and_right}

pub leader_is : (r : Role) → is_leader r ≡ true → r ≡ Leader
leader_is Follower h = absurd (cc)
leader_is Candidate h = absurd (cc)
leader_is Leader h = refl

pub append_answer_lawful : (members : List ℕ) (m n : ℕ) (f : Focus) (a : Answer) → f.raft_server.memory.up ≡ true → Covered f.ledger f.raft_server.store
    → IsEnabled members m f.bag [] f.raft_server (TakeAppendAnswer a) → Whole members m n f (TakeAppendAnswer a)
append_answer_lawful members m n f a up c h = elim (lt_tells f.raft_server.store.term a.term) [
  | inl z ↦ rw (z.0) (stepping_down members m (TakeAppendAnswer a) f a (λ x. x) up c z.1 (λ x. refl))
  | inr z ↦ rw (z.0) (elim (tell (is_leader f.raft_server.memory.role && (a.term == f.raft_server.store.term))) [
    | inl k ↦ rw (k) (record {
      between = f;
      leg = record { marks = []; walk = tt; puts = refl; ends = refl };
      rest = Taken m a ∷ [];
      lawful = (
        record {
          up = up;
          role = leader_is f.raft_server.memory.role (and_left (is_leader f.raft_server.memory.role) _ k);
          in_bag = λ e. was_said f.bag f.raft_server.store a h.0
              (eqb-true a.term f.raft_server.store.term (and_right (is_leader f.raft_server.memory.role) _ k)) e;
          kind = h.2;
          mine = h.1;
          own_term = eqb-true a.term f.raft_server.store.term (and_right (is_leader f.raft_server.memory.role) _ k);
          pending = h.3;
        },
        tt,
      );
      store = refl;
      ledger = refl;
      history = refl;
      memory = refl;
      bag = refl;
      said = λ x i. absurd i;
    })
    | inr k ↦ rw (k) (record {
      between = f;
      leg = record { marks = []; walk = tt; puts = refl; ends = refl };
      rest = Drop m a.from ∷ [];
      lawful = (up, tt);
      store = refl;
      ledger = refl;
      history = refl;
      memory = refl;
      bag = refl;
      said = λ x i. absurd i;
    })
  ])
]

-- every move is a lawful list of micro moves with the result that the table says
pub move_lawful : (members : List ℕ) (m n : ℕ) (f : Focus) (called : List ℕ) (mv : Move) → f.raft_server.memory.up ≡ true
    → Covered f.ledger f.raft_server.store → IsEnabled members m f.bag called f.raft_server mv → Whole members m n f mv
move_lawful members m n f called TimeOut up c h = time_out members m n f up c
move_lawful members m n f called (TakeVoteRequest r g) up c h = vote_request_lawful members m n f r g up c h
move_lawful members m n f called (TakeVoteAnswer a) up c h = vote_answer_lawful members m n f a up c h
move_lawful members m n f called (TakeAppendRequest r v) up c h = append_request_lawful members m n f r v up c h
move_lawful members m n f called (TakeAppendAnswer a) up c h = append_answer_lawful members m n f a up c h
move_lawful members m n f called (ProposeEntry e) up c h = record {
  between = focused m f (Propose m e);
  leg = record {
    marks = Puts (PutEntry e) (Write m e) ∷ Puts (PutLonger e) (Propose m e) ∷ [];
    walk = (
      record { may = up; bag = refl; store = refl; history = refl; ledger = sym (ledger_stays f.ledger f.raft_server.store c) },
      (
        record {
          may = record {
            up = up;
            role = h.leads;
            room = h.room;
            own_term = h.own_term;
            well_formed = h.kind;
            injective = h.injective;
          };
          bag = refl;
          store = refl;
          history = refl;
          ledger = sym (ledger_stays f.ledger (put f.raft_server.store (PutLonger e))
              (same_commit f.ledger f.raft_server.store (put f.raft_server.store (PutLonger e)) c refl));
        },
        tt,
      ),
    );
    puts = refl;
    ends = refl;
  };
  rest = [];
  lawful = tt;
  store = refl;
  ledger = refl;
  history = refl;
  memory = refl;
  bag = refl;
  said = λ x i. absurd i;
}
move_lawful members m n f called (CommitTo k) up c h = record {
  between = focused m f (Commit m k);
  leg = record {
    marks = Puts (PutCommit k) (Commit m k) ∷ [];
    walk = (
      record {
        may = record {
          up = up;
          role = h.0;
          above = h.1.can.above;
          inside = h.1.can.inside;
          own_term = h.1.can.own_term;
          held = h.1.can.held;
        };
        bag = refl;
        store = refl;
        history = refl;
        ledger = refl;
      },
      tt,
    );
    puts = refl;
    ends = refl;
  };
  rest = [];
  lawful = tt;
  store = refl;
  ledger = refl;
  history = refl;
  memory = refl;
  bag = refl;
  said = λ x i. absurd i;
}
move_lawful members m n f called TellPair up c h = record {
  between = f;
  leg = record { marks = []; walk = tt; puts = refl; ends = refl };
  rest = Tell m n ∷ [];
  lawful = (h, tt);
  store = refl;
  ledger = refl;
  history = refl;
  memory = refl;
  bag = refl;
  said = only_said (focused m f (Tell m n)) (Pairs (pair_at m n f.raft_server.store f.raft_server.memory.told)) (inl refl);
}
move_lawful members m n f called TellNothing up c h = record {
  between = f;
  leg = record { marks = []; walk = tt; puts = refl; ends = refl };
  rest = Pass m ∷ [];
  lawful = (h, tt);
  store = refl;
  ledger = refl;
  history = refl;
  memory = refl;
  bag = refl;
  said = λ x i. absurd i;
}
move_lawful members m n f called (CallForVote q) up c h = record {
  between = f;
  leg = record { marks = []; walk = tt; puts = refl; ends = refl };
  rest = CallVote m n q ∷ [];
  lawful = (record { up = up; role = h.0; other = h.1.other; member = h.1.listed; free = h.1.free }, tt);
  store = refl;
  ledger = refl;
  history = refl;
  memory = refl;
  bag = refl;
  said = only_said (focused m f (CallVote m n q)) (Requests (vote_request m n f.raft_server.store q)) (inl refl);
}
move_lawful members m n f called (CallToAppend q p w) up c h = record {
  between = f;
  leg = record { marks = []; walk = tt; puts = refl; ends = refl };
  rest = CallAppend m n q p w ∷ [];
  lawful = ((record { up = up; role = h.0; other = h.2.other; member = h.2.listed; free = h.2.free }, h.1), tt);
  store = refl;
  ledger = refl;
  history = refl;
  memory = refl;
  bag = refl;
  said = only_said (focused m f (CallAppend m n q p w)) (Requests (append_request m n f.raft_server.store q p w)) (inl refl);
}
move_lawful members m n f called (AnswerAgain i) up c h = record {
  between = f;
  leg = record { marks = []; walk = tt; puts = refl; ends = refl };
  rest = Again m n i ∷ [];
  lawful = ((up, h.0, h.1), tt);
  store = refl;
  ledger = refl;
  history = refl;
  memory = refl;
  bag = refl;
  said = only_said (focused m f (Again m n i)) (Pairs (pair_at m n f.raft_server.store i)) (inl refl);
}
move_lawful members m n f called (GiveUp q) up c h = record {
  between = f;
  leg = record { marks = []; walk = tt; puts = refl; ends = refl };
  rest = Drop m q ∷ [];
  lawful = (up, tt);
  store = refl;
  ledger = refl;
  history = refl;
  memory = refl;
  bag = refl;
  said = λ x i. absurd i;
}
