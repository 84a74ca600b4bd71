-- When the store of a lost member may become a copy of another member's, and what that leaves.
use Rattle.std.specs.Prelude.{◌≡◌, ℕ, ◌≤◌, Bool, true, false, List, [], ◌∷◌, ◌++◌, length, filter, ◌==◌, ◌&&◌, ◌||◌}
use Rattle.std.specs.Prelude.{not, Option, Some, None, nat_lt, if◌then◌else◌}
use Rattle.can_frame.specs.Log.{last_term}
use Rattle.raft_model.specs.Lists.{In, at, how_many}
use Rattle.raft_model.specs.Messages.{Message}
use Rattle.raft_model.specs.Messages.Message.{Requests, Answers, Pairs}
use Rattle.raft_model.specs.Server.{Store, quorum, memory_when_down}
use Rattle.raft_model.specs.History.{Candidacy, KeptVote, History, with_leader}
use Rattle.raft_model.specs.Decisions.{is_not_above}
use Rattle.raft_model.specs.Runs.{World}

-- the vote is there, and for this candidate
abbrev pub is_vote_for : Option ℕ → ℕ → Bool
is_vote_for None candidate = false
is_vote_for (Some vote) candidate = vote == candidate

-- What the model remembers of elections. No server holds it, so a replacement may be described with any of it; what is
-- said here keeps it true of the stores.

-- What it remembers of a candidate in a term: all of the terms below the leader's; in that term, where it was led, what
-- was for its leader alone; and nothing of later terms.
abbrev pub is_remembered : History → ℕ → ℕ → ℕ → Bool
is_remembered history top candidate term =
    nat_lt term top || ((term == top) && (history.led top && (history.leader top == candidate)))

abbrev pub is_remembered_vote : History → ℕ → KeptVote → Bool
is_remembered_vote history top kept = is_remembered history top kept.candidate kept.term

abbrev pub is_remembered_candidacy : History → ℕ → Candidacy → Bool
is_remembered_candidacy history top candidacy = is_remembered history top candidacy.candidate candidacy.term

-- Of the messages all append requests, answers to them and pairs may still come, and the vote requests and answers
-- that are remembered. No other vote request or answer comes any more: all members stand still at a replacement, those
-- that ran before rest for 5.5 s when they start (`REST` of `allocator_app`), and a frame comes within 3.5 s of its
-- making or never (README, premise A6).
abbrev pub remains : History → ℕ → Message → Bool
remains history top (Requests request) = request.append || is_remembered history top request.from request.term
remains history top (Answers answer) =
    answer.request.append || is_remembered history top answer.request.from answer.request.term
remains history top (Pairs pair) = true

-- The message is no vote request and no answer to one.
abbrev pub is_of_logs : Message → Bool
is_of_logs (Requests request) = request.append
is_of_logs (Answers answer) = answer.request.append
is_of_logs (Pairs pair) = true

-- the history with what is remembered alone
abbrev pub history_remembered : History → ℕ → History
history_remembered history top = record history {
  candidacies = filter (is_remembered_candidacy history top) history.candidacies;
  kept = filter (is_remembered_vote history top) history.kept;
}

-- What all have stored, the lost member and the leader.
module _ (stores : ℕ → Store) (lost leader : ℕ) where
  -- this member is not lost, has the leader's term and a vote for the leader, and has no log above the leader's, in the
  -- order by which elections compare logs
  abbrev pub backs : ℕ → Bool
  backs member = not (member == lost)
      && (((stores member).term == (stores leader).term)
      && (is_vote_for (stores member).vote leader
      && is_not_above (last_term (stores member).log) (length (stores member).log)
      (last_term (stores leader).log) (length (stores leader).log)))

  -- the votes of those among these that back the leader, each with the log that is stored
  abbrev pub backing_votes : List ℕ → List KeptVote
  backing_votes [] = []
  backing_votes (member ∷ rest) =
      if backs member
      then record {
        voter = member;
        candidate = leader;
        term = (stores leader).term;
        log = (stores member).log;
        led = false;
      } ∷ backing_votes rest
      else backing_votes rest

  -- where the leader's term had no leader: this member might still be elected in it, by those of these members that
  -- back it, so it is taken as elected, with its log as it is
  abbrev pub history_elected : List ℕ → History → History
  history_elected members history = with_leader (record history {
    candidacies = record { candidate = leader; term = (stores leader).term; log = (stores leader).log }
        ∷ history.candidacies;
    kept = backing_votes members ++ history.kept;
  }) leader (stores leader).term (stores leader).log

abbrev pub stores_of : World → ℕ → Store
stores_of world member = (world.server member).store

module _ (world : World) (lost leader : ℕ) where
  -- All members are down, a quorum of the members back the leader, itself among them and the lost one not, and the
  -- leader's log is committed to its end. Of the lost member's store nothing is asked.
  pub record MayBeCopied : Type 0 where
    pub listed : In lost world.members
    pub down : (member : ℕ) → In member world.members → (world.server member).memory.up ≡ false
    pub own : backs (stores_of world) lost leader leader ≡ true
    pub majority : quorum world.members ≤ how_many (backs (stores_of world) lost leader) world.members
    pub committed : (stores_of world leader).commit ≡ length (stores_of world leader).log

  abbrev pub history_copied : History
  history_copied =
      if world.history.led (stores_of world leader).term
      then history_remembered world.history (stores_of world leader).term
      else history_elected (stores_of world) lost leader world.members
      (history_remembered world.history (stores_of world leader).term)

  -- the world in which the lost member has the leader's store
  abbrev pub world_copied : World
  world_copied = record world {
    server = at world.server lost (record { store = stores_of world leader; memory = memory_when_down });
    bag = filter (remains world.history (stores_of world leader).term) world.bag;
    history = history_copied;
  }
