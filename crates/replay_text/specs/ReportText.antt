-- The text of a line of a report, with single spaces and a line feed at the end.
use Rattle.std.specs.Prelude.{ℕ, List, ◌++◌, codes, decimal, flat_map}
use Rattle.hex.specs.Hex.{encode_lower}
use Rattle.bus_rows.specs.ReportLine.{ReportLine}
use Rattle.bus_rows.specs.ReportLine.ReportLine.{HasOpened, HasStepped, HasFailed, HasStopped, WasArmed, HasSent, CameFromOutside, HasCome, HasAsked, HasPut, HasLeft}
use Rattle.replay_text.specs.Report.{allocatee_head, line_head, role_letter, seen_word, sent_mark, state_word}
use Rattle.replay_text.specs.Words.{identifier_bytes}

-- the line of what row number `row` did, its line feed included
abbrev pub text_of_line : ℕ → ReportLine → List ℕ
text_of_line row (HasOpened n term vote last commit) =
    line_head row n ++ codes " open " ++ decimal term ++ codes " " ++ decimal vote
    ++ codes " " ++ decimal last ++ codes " " ++ decimal commit ++ codes "\n"
text_of_line row (HasStepped n role term last commit queued seen sent) =
    line_head row n ++ codes " " ++ role_letter role
    ++ codes " " ++ decimal term ++ codes " " ++ decimal last ++ codes " " ++ decimal commit ++ codes " "
    ++ decimal queued
    ++ codes " " ++ seen_word seen ++ flat_map sent_mark sent ++ codes "\n"
text_of_line row (HasFailed n) = line_head row n ++ codes " fault\n"
text_of_line row (HasStopped n) = line_head row n ++ codes " stop\n"
text_of_line row (WasArmed n) = line_head row n ++ codes " armed\n"
text_of_line row (HasSent n k id bytes) = line_head row n ++ codes " send " ++ decimal k
    ++ codes " " ++ encode_lower (identifier_bytes id) ++ codes " " ++ encode_lower bytes ++ codes "\n"
text_of_line row (CameFromOutside k) = decimal row ++ codes " ext " ++ decimal k ++ codes "\n"
text_of_line row (HasCome a) = allocatee_head row a ++ codes " open\n"
text_of_line row (HasAsked a holds queued seen sent) = allocatee_head row a ++ codes " " ++ state_word holds
    ++ codes " " ++ decimal queued ++ codes " " ++ seen_word seen ++ flat_map sent_mark sent ++ codes "\n"
text_of_line row (HasPut a k id bytes) = allocatee_head row a ++ codes " send " ++ decimal k
    ++ codes " " ++ encode_lower (identifier_bytes id) ++ codes " " ++ encode_lower bytes ++ codes "\n"
text_of_line row (HasLeft a) = allocatee_head row a ++ codes " end\n"
