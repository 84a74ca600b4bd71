-- The text of the report of a list of rows.
use Rattle.std.specs.Prelude.{ℕ, zero, suc, ◌+◌, List, [], ◌∷◌, ◌++◌, codes, decimal, if◌then◌else◌}
use Rattle.std.specs.Option.{option_map_or}
use Rattle.hex.specs.Hex.{encode_lower}
use Rattle.can_frame.specs.declared.entry.Entry.{Entry}
use Rattle.raft_model.specs.Server.{Store, committed}
use Rattle.bus_rows.specs.declared.row.Row.{Row}
use Rattle.replay_text.specs.Report.{end_line}
use Rattle.replay_text.specs.ReportText.{text_of_line}
use Rattle.bus_spec.specs.Cluster.{Cluster, cluster, is_member, after_row, world_of}
use Rattle.bus_spec.specs.Members.{MemberStatus, server_of}
use Rattle.bus_spec.specs.Report.{line_of_row}

-- the lines of rows, the first of them with the number after that of the rows before
abbrev pub row_lines : Cluster → List Row → List ℕ
row_lines w [] = []
row_lines w (row ∷ rows) = text_of_line (w.rows + 1) (line_of_row w row) ++ row_lines (after_row w row) rows

-- an entry at its place, counted from 1
abbrev pub entry_line : ℕ → Entry → List ℕ
entry_line place entry =
    decimal place ++ codes " " ++ decimal entry.node ++ codes " " ++ encode_lower entry.uid ++ codes "\n"

abbrev pub entry_lines : ℕ → List Entry → List ℕ
entry_lines place [] = []
entry_lines place (entry ∷ entries) = entry_line place entry ++ entry_lines (suc place) entries

-- the log of a member: its commit index, and a line for each committed entry
abbrev pub log_lines_of : ℕ → Store → List ℕ
log_lines_of n store =
    codes "log " ++ decimal n ++ codes " " ++ decimal store.commit ++ codes "\n" ++ entry_lines 1 (committed store)

abbrev pub running_lines : ℕ → MemberStatus → List ℕ
running_lines n status = option_map_or (λ server. log_lines_of n server.raft_server.store) (server_of status) []

abbrev pub member_lines : Cluster → ℕ → List ℕ
member_lines w n = if is_member w.ids n then running_lines n (w.member n).status else []

-- by rising node ID: the logs of so many nodes from this one on
abbrev pub log_lines : Cluster → ℕ → ℕ → List ℕ
log_lines w n zero = []
log_lines w n (suc more) = member_lines w n ++ log_lines w (suc n) more

-- the logs of all members that run and have not failed
unfoldable pub all_logs : Cluster → List ℕ
all_logs w = log_lines w 1 125

-- the logs, and then how many rows there were
abbrev pub end_lines : Cluster → List ℕ
end_lines w = all_logs w ++ end_line w.rows

-- of lawful rows
abbrev pub report : List ℕ → List Row → List ℕ
report ids rows = row_lines (cluster ids) rows ++ end_lines (world_of ids rows)
