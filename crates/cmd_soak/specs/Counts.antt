-- What a soak came to, in six lines.
use Rattle.std.specs.Prelude.{⊤, ℕ, zero, suc, ◌+◌, ◌==◌, ◌&&◌, not, nat_lt, Bool, true, false, List, [], ◌∷◌, ◌++◌, length, codes, decimal, Option, Some, None, if◌then◌else◌}
use Rattle.can_frame.specs.declared.entry.Entry.{Entry}
use Rattle.alloc_spec.specs.declared.event.View.{View}
use Rattle.bus_spec.specs.Cluster.{Cluster}
use Rattle.bus_spec.specs.Report.{entry_of, view_at}
use Rattle.cmd_io.specs.declared.status.Status.{Status}
use Rattle.cmd_io.specs.declared.status.Status.TheVariants.{Done, WriteFault, Memory}
use Rattle.cmd_soak.specs.Rounds.{Soak, one_if, soaked}
use Rattle.cmd_soak.specs.declared.counts.Counts.{Counts}

-- ---- pairs

-- so many zeros, and nothing else
abbrev pub are_zeros : ℕ → List ℕ → Bool
are_zeros zero [] = true
are_zeros zero (x ∷ xs) = false
are_zeros (suc n) [] = false
are_zeros (suc n) (x ∷ xs) = (x == 0) && are_zeros n xs

-- a unique ID that is not zeros: blanks and reservations have none
abbrev pub is_pair : Option Entry → Bool
is_pair None = false
is_pair (Some entry) = not (are_zeros 16 entry.uid)

abbrev pub commit_of : Option View → ℕ
commit_of None = 0
commit_of (Some view) = view.commit

-- the commit index that a node shows
abbrev pub commit_at : Cluster → ℕ → ℕ
commit_at w n = commit_of (view_at w n)

-- the first of the members 1 to size with the greatest; 0, which is no node, where it is 0
abbrev pub furthest : Cluster → ℕ → ℕ
furthest w zero = 0
furthest w (suc size) =
    if nat_lt (commit_at w (furthest w size)) (commit_at w (suc size))
    then suc size
    else furthest w size

-- how many entries that a node shows up to a place are pairs
abbrev pub pairs_to : Cluster → ℕ → ℕ → ℕ
pairs_to w n zero = 0
pairs_to w n (suc place) = pairs_to w n place + one_if (is_pair (entry_of w n (suc place)))

-- how many entries of the longest committed list are pairs
unfoldable pub pairs : Cluster → ℕ → ℕ
pairs w size = pairs_to w (furthest w size) (commit_at w (furthest w size))

-- ---- the lines

abbrev pub lines_of : Counts → List ℕ
lines_of counts = codes "rounds " ++ decimal counts.rounds ++ codes "\nframes " ++ decimal counts.frames
    ++ codes "\nstops " ++ decimal counts.stops ++ codes "\nrefused " ++ decimal counts.refused
    ++ codes "\npairs " ++ decimal counts.pairs ++ codes "\nend " ++ decimal counts.rounds ++ codes "\n"

abbrev pub counts_of : ℕ → ℕ → Soak → Counts
counts_of rounds size s = record {
  rounds = rounds;
  frames = length s.world.frames;
  stops = s.stops;
  refused = s.refused;
  pairs = pairs s.world size;
}

-- what is written of a soak: how many rounds there were, and what is so at their end
unfoldable pub soak_report : Bool → ℕ → ℕ → ℕ → List ℕ
soak_report told seed rounds size = lines_of (counts_of rounds size (soaked told seed rounds size))

-- how a soak may end
abbrev pub IsEnd : Status → Type 0
IsEnd Done = ⊤
IsEnd WriteFault = ⊤
IsEnd Memory = ⊤
IsEnd _ = ⊥
