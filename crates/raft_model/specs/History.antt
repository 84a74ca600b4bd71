-- What only the model remembers; no server holds it.
use Rattle.std.specs.Prelude.{ℕ, Bool, true, false, List, [], ◌∷◌, ◌++◌}
use Rattle.raft_model.specs.Lists.{at}
use Rattle.can_frame.specs.declared.entry.Entry.{Entry}

-- who stood for leader in a term, and with which log
pub record Candidacy : Type 0 where
  pub candidate : ℕ
  pub term : ℕ
  pub log : List Entry

-- a granted vote, with the voter's log at that moment; led: the term had a leader already
pub record KeptVote : Type 0 where
  pub voter : ℕ
  pub candidate : ℕ
  pub term : ℕ
  pub log : List Entry
  pub led : Bool

-- by term: whether it has had a leader, which, and the list that this leader has had (empty where there was none)
pub record History : Type 0 where
  pub led : ℕ → Bool
  pub leader : ℕ → ℕ
  pub list : ℕ → List Entry
  pub candidacies : List Candidacy
  pub kept : List KeptVote

abbrev pub no_history : History
no_history = record { led = λ term. false; leader = λ term. 0; list = λ term. []; candidacies = []; kept = [] }

-- a vote of this voter, with this log, is kept
abbrev pub with_vote_kept : History → ℕ → ℕ → ℕ → List Entry → History
with_vote_kept history voter candidate term log = record history {
  kept = record { voter = voter; candidate = candidate; term = term; log = log; led = history.led term }
      ∷ history.kept;
}

-- the member stands for leader: its candidacy is kept, and the vote for itself
abbrev pub with_candidacy : History → ℕ → ℕ → List Entry → History
with_candidacy history member term log = record history {
  candidacies = record { candidate = member; term = term; log = log } ∷ history.candidacies;
  kept = record { voter = member; candidate = member; term = term; log = log; led = history.led term } ∷ history.kept;
}

-- the member leads the term, with this log
abbrev pub with_leader : History → ℕ → ℕ → List Entry → History
with_leader history member term log = record history
    { led = at history.led term true; leader = at history.leader term member; list = at history.list term log }

-- the list of the term grows by an entry
abbrev pub with_longer_list : History → ℕ → Entry → History
with_longer_list history term entry = record history { list = at history.list term (history.list term ++ (entry ∷ [])) }
