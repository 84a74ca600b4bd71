-- The words of a report's lines. Words have single spaces between them.
use Rattle.std.specs.Prelude.{ℕ, List, ◌++◌, codes, decimal, Option, None, Some, if◌then◌else◌}
use Rattle.can_frame.specs.declared.step.Role.{Role}
use Rattle.can_frame.specs.declared.step.Role.TheVariants.{Follower, Candidate, Leader}
use Rattle.can_frame.specs.declared.step.Why.{Why}
use Rattle.can_frame.specs.declared.step.Why.TheVariants.{NotWanted, Start, Toggle, TransferId, Crc, Length, NoBlock, NoSession, BadIdent}
use Rattle.can_frame.specs.declared.step.Seen.{Seen}
use Rattle.can_frame.specs.declared.step.Seen.TheVariants.{Ticked, Took, Bad, Part, Dropped}
use Rattle.can_frame.specs.declared.step.Sent.{Sent}
use Rattle.can_frame.specs.DataTypes.{type_of}

abbrev pub role_letter : Role → List ℕ
role_letter Follower = codes "F"
role_letter Candidate = codes "C"
role_letter Leader = codes "L"

-- the number of the cause for which a frame was dropped
abbrev pub cause_number : Why → ℕ
cause_number NotWanted = 1
cause_number Start = 2
cause_number Toggle = 3
cause_number TransferId = 4
cause_number Crc = 5
cause_number Length = 6
cause_number NoBlock = 7
cause_number NoSession = 8
cause_number BadIdent = 9

abbrev pub seen_word : Seen → List ℕ
seen_word Ticked = codes "tick"
seen_word Took = codes "took"
seen_word Bad = codes "bad"
seen_word Part = codes "part"
seen_word (Dropped why) = codes "drop:" ++ decimal (cause_number why)

-- a transfer's mark behind a space: whether it fitted, its name, and its destination
abbrev pub sent_mark : Sent → List ℕ
sent_mark sent =
    codes " " ++ (if sent.fitted then codes "+" else codes "-") ++ (type_of sent.what).name
    ++ codes ":" ++ decimal sent.to

-- the number of the row and that of its node, with which most lines begin
abbrev pub line_head : ℕ → ℕ → List ℕ
line_head row n = decimal row ++ codes " " ++ decimal n

-- and that of its allocatee
abbrev pub allocatee_head : ℕ → ℕ → List ℕ
allocatee_head row a = decimal row ++ codes " a" ++ decimal a

-- an allocatee waits for a node ID, or holds one
abbrev pub state_word : Option ℕ → List ℕ
state_word None = codes "wait"
state_word (Some node) = codes "hold:" ++ decimal node

-- how many rows there were, at the end
abbrev pub end_line : ℕ → List ℕ
end_line rows = codes "end " ++ decimal rows ++ codes "\n"
