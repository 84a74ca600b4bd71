-- All that came and was read, the newest first, and what is known behind it.
use Rattle.std.specs.Prelude.{ℕ, ◌+◌, ◌-◌, ◌≤◌, List, [], ◌∷◌, Some}
use Rattle.can_frame.specs.declared.entry.Entry.{Entry}
use Rattle.newcomer_link.specs.Standing.{Standing, places_taken, rule_approach, with_reading}
use Rattle.newcomer_link.specs.declared.approach.Approach.{Approach}

pub data Occurrence : Type 0 where
  -- somebody comes at this reading of the clock
  Comes : (now : ℕ) (approach : Approach) → Occurrence
  -- the log is read then, and has these entries
  IsReadThen : (now : ℕ) (log : List Entry) → Occurrence

abbrev pub happens_at : Occurrence → ℕ
happens_at (Comes now approach) = now
happens_at (IsReadThen now log) = now

abbrev pub behind_happening : Occurrence → Standing → Standing
behind_happening (Comes now approach) standing = (rule_approach now approach standing).behind
behind_happening (IsReadThen now log) standing = with_reading now (Some log) standing

abbrev pub standing_behind : Standing → List Occurrence → Standing
standing_behind first [] = first
standing_behind first (happening ∷ before) = behind_happening happening (standing_behind first before)

-- each happens at the reading of the one before or later, the last at this one or before
abbrev pub HappenUntil : ℕ → ℕ → List Occurrence → Type 0
HappenUntil first last [] = first ≤ last
HappenUntil first last (happening ∷ before) =
    (happens_at happening ≤ last) × HappenUntil first (happens_at happening) before

-- so many places more are taken by a log that is read than were counted before: blanks of leaders, what came into the
-- log while another member let it in, and what this link let in where it read the log before the entry came
abbrev pub found_more : Occurrence → Standing → ℕ
found_more (Comes now approach) standing = 0
found_more (IsReadThen now log) standing =
    places_taken now (with_reading now (Some log) standing) - places_taken now standing

abbrev pub found_in_all : Standing → List Occurrence → ℕ
found_in_all first [] = 0
found_in_all first (happening ∷ before) =
    found_in_all first before + found_more happening (standing_behind first before)
