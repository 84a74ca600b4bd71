-- The ledger: the longest committed list that any member has stored so far.
use Rattle.std.specs.Prelude.{ℕ, ◌-◌, List, [], ◌∷◌, ◌++◌, length, take, nat_lt, if◌then◌else◌, replicate}
use Rattle.can_frame.specs.declared.entry.Entry.{Entry}
use Rattle.raft_model.specs.Server.{Store, Put, put}

-- the stamp of a place is the term of the server by whose put the ledger first became so long; it is always a
-- leader's, since no request's commit is above the ledger
pub record Ledger : Type 0 where
  pub entries : List Entry
  pub stamps : List ℕ

abbrev pub empty_ledger : Ledger
empty_ledger = record { entries = []; stamps = [] }

-- so many first entries of a log, where they are more
abbrev pub ledger_after : List Entry → List Entry → ℕ → List Entry
ledger_after entries log count = if nat_lt (length entries) count then take count log else entries

-- new places have this term as their stamp
abbrev pub stamps_after : List ℕ → ℕ → ℕ → List ℕ
stamps_after stamps term count = stamps ++ replicate (count - length stamps) term

-- the ledger once a member has this stored: its committed list where it is longer
abbrev pub ledger_with : Ledger → Store → Ledger
ledger_with ledger store = record {
  entries = ledger_after ledger.entries store.log store.commit;
  stamps =
      stamps_after ledger.stamps store.term store.commit;
}

-- the ledger after each of these puts
abbrev pub ledger_through : Ledger → Store → List Put → Ledger
ledger_through ledger store [] = ledger
ledger_through ledger store (first ∷ rest) =
    ledger_through (ledger_with ledger (put store first)) (put store first) rest
