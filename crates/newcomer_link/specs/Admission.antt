-- What a link that turns newcomers away makes of the link, the clock and the store below it.
use Rattle.std.specs.Prelude.{◌≡◌, ℕ, Bool, true, false, List, Option, Ok, Some, None, if◌then◌else◌}
use Rattle.can_frame.specs.declared.entry.Entry.{Entry}
use Rattle.disk_model.specs.declared.disk.Disk.{Ghosts}
use Rattle.outside.specs.Contents.{WhereTold}
use Rattle.outside.specs.Readings.{Reads}
use Rattle.outside.specs.Traffic.{Receives}
use Rattle.outside.specs.declared.failed.Failed.{Failed}
use Rattle.outside.specs.declared.received.Received.{Received}
use Rattle.outside.specs.declared.received.Received.TheVariants.{Junk}
use Rattle.newcomer_link.specs.Approach.{approach_in}
use Rattle.newcomer_link.specs.Logs.{IsOnlyRead, IsReadAt}
use Rattle.newcomer_link.specs.Standing.{Standing, is_reading_due, needs_no_ruling, rule_approach, with_reading}
use Rattle.newcomer_link.specs.declared.approach.Approach.{Approach}

-- one who is turned away is junk
abbrev pub let_in : Bool → Received → Received
let_in is_let_in item = if is_let_in then item else Junk

module _ {D : Type 0} (ghosts : Ghosts D) (now : ℕ) (place_old place : Option D) where
  -- the log is read now, where that is due, and only there
  abbrev pub IsRefreshed : Bool → Standing → Standing → Type 0
  IsRefreshed true old new = (log : Option (List Entry)) × IsReadAt ghosts place_old place log
      × IsOnlyRead ghosts place_old place × (new ≡ with_reading now log old)
  IsRefreshed false old new = (place ≡ place_old) × (new ≡ old)

  -- somebody comes now: the log is read first, where that is due
  pub record IsRuled (approach : Approach) (old new : Standing) (is_let_in : Bool) : Type 0 where
    pub known : Standing
    pub refreshed : IsRefreshed (is_reading_due now old.read_at) old known
    pub ruling : is_let_in ≡ (rule_approach now approach known).is_let_in
    pub behind : new ≡ (rule_approach now approach known).behind

module _ {C : Type 0} (readings : C → Option (List ℕ)) (clock_old clock : C)
    {D : Type 0} (ghosts : Ghosts D) (place_old place : Option D) (old new : Standing) where
  -- nobody comes whom a place could be for
  abbrev pub IsNoMatter : Received → Received → Type 0
  IsNoMatter item handed = (handed ≡ item) × (clock ≡ clock_old) × (place ≡ place_old) × (new ≡ old)

  -- somebody comes who is not known, at a reading of the clock
  pub record IsJudged (approach : Approach) (item handed : Received) : Type 0 where
    pub now : ℕ
    pub clock_reads : WhereTold (Reads now) (readings clock_old) (readings clock)
    pub is_let_in : Bool
    pub ruled : IsRuled ghosts now place_old place approach old new is_let_in
    pub handed_on : handed ≡ let_in is_let_in item

  abbrev pub IsMet : Bool → Approach → Received → Received → Type 0
  IsMet true approach item handed = IsNoMatter item handed
  IsMet false approach item handed = IsJudged approach item handed

  -- this is handed on of an item, by what it is
  abbrev pub IsAdmitted : Option Approach → Received → Received → Type 0
  IsAdmitted None item handed = IsNoMatter item handed
  IsAdmitted (Some approach) item handed = IsMet (needs_no_ruling approach old) approach item handed

  -- the link below gave this item, of which that was handed on to a member that is told this list
  pub record LetsIn (coming_old coming : Option (List Received)) (ids : List ℕ) (handed : Received) : Type 0 where
    pub item : Received
    pub below : WhereTold (Receives {E = Failed} (Ok item)) coming_old coming
    pub answer : IsAdmitted (approach_in ids item) item handed
