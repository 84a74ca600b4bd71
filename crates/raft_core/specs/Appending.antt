-- The puts of an append request, told by numbers.
use Rattle.std.specs.Prelude.{ℕ, List, [], ◌∷◌, ◌++◌, length, nat_lt, if◌then◌else◌}
use Rattle.can_frame.specs.declared.entry.Entry.{Entry}
use Rattle.raft_model.specs.Server.{Put, Store}
use Rattle.raft_model.specs.Server.Put.{PutEntry, PutLonger, PutShorter, PutCommit}

-- the commit index, where it is above
abbrev pub commit_puts : Store → ℕ → List Put
commit_puts store place = if nat_lt store.commit place then PutCommit place ∷ [] else []

-- last cut to the previous place, where there is more
abbrev pub cut_to : Store → ℕ → List Put
cut_to store previous = if nat_lt previous (length store.log) then PutShorter previous ∷ [] else []

abbrev pub write_puts : Store → ℕ → Entry → List Put
write_puts store previous entry = cut_to store previous ++ (PutEntry entry ∷ PutLonger entry ∷ [])
