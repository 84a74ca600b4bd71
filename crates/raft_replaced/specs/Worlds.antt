-- A world in which a vote is stale, so that no replacement may come.
use Rattle.std.specs.Prelude.{ℕ, List, [], ◌∷◌, replicate, Some}
use Rattle.can_frame.specs.declared.entry.Entry.{Entry}
use Rattle.raft_model.specs.Lists.{at}
use Rattle.raft_model.specs.Server.{Store, empty_store, memory_when_down}
use Rattle.raft_model.specs.Runs.{World, initial_world}

-- the entry at place 1, which all have committed, and that at place 2
abbrev pub first_entry : Entry
first_entry = record { term = 1; uid = replicate 16 1; node = 125 }

abbrev pub second_entry : Entry
second_entry = record { term = 2; uid = replicate 16 2; node = 124 }

abbrev pub store_with : ℕ → ℕ → ℕ → List Entry → Store
store_with term vote commit log = record { term = term; vote = Some vote; log = log; commit = commit }

-- Member 1 stood in term 2, and 2 voted for it. But 5 won the term, by the votes of 3, 4 and itself; 2, 4 and 5 have
-- its entry at place 2, and 5 has committed it. Then 1 stood in term 3, and 3 voted for it. When 2 heard of that it
-- stopped between the put of the new term and that of its vote, so it has the vote of term 2 with term 3.
abbrev pub stores_with_stale_vote : ℕ → Store
stores_with_stale_vote =
    at (at (at (at (at (λ other. empty_store)
    1 (store_with 3 1 1 (first_entry ∷ [])))
    2 (store_with 3 1 1 (first_entry ∷ second_entry ∷ [])))
    3 (store_with 3 1 1 (first_entry ∷ [])))
    4 (store_with 2 5 1 (first_entry ∷ second_entry ∷ [])))
    5 (store_with 2 5 2 (first_entry ∷ second_entry ∷ []))

abbrev pub world_with_stale_vote : World
world_with_stale_vote = record (initial_world (1 ∷ 2 ∷ 3 ∷ 4 ∷ 5 ∷ [])) {
  server = λ member. record { store = stores_with_stale_vote member; memory = memory_when_down };
}
