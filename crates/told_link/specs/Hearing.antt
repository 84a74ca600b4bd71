-- What a link for a member that is told the list of its cluster makes of the link and the clock below it.
use Rattle.std.specs.Prelude.{◌≡◌, ⊤, ℕ, ◌⊎◌, ◌&&◌, Bool, true, false, List, [], ◌∷◌, Option, Result, Ok, Err, Some, None, IsOk, slice_index_or, slice_set, if◌then◌else◌}
use Rattle.outside.specs.Contents.{WhereTold}
use Rattle.outside.specs.Faults.{HasCause, Rose}
use Rattle.outside.specs.Readings.{Reads}
use Rattle.outside.specs.Traffic.{Receives, Sends}
use Rattle.outside.specs.declared.failed.Failed.{Failed}
use Rattle.outside.specs.declared.received.RawFrame.{RawFrame}
use Rattle.outside.specs.declared.received.Received.{Received}
use Rattle.outside.specs.declared.received.Received.TheVariants.{Frame, Junk, Nothing}
use Rattle.told_link.specs.Following.{answered_of, gives_node_id, is_followed, item_agrees, noted}
use Rattle.told_link.specs.Silence.{answers_count, heard_at}
use Rattle.told_link.specs.Voice.{voice_in}
use Rattle.told_link.specs.declared.silence.Heard.{Heard}
use Rattle.told_link.specs.declared.voice.Voice.{Voice}
use Rattle.told_link.specs.declared.voice.Voice.TheVariants.{Stranger, Answer, Member, Other}

-- what is known of each node, by its node ID
abbrev pub known_of : List (Option Heard) → ℕ → Option Heard
known_of all node = slice_index_or all node None

-- a member was heard at this reading; of all others as much is known as before
abbrev pub IsHeardAt : ℕ → ℕ → List (Option Heard) → List (Option Heard) → Type 0
IsHeardAt node now old new = new ≡ slice_set old node (Some (heard_at now (known_of old node)))

-- an answer of a member is handed on where it counts
abbrev pub answer_handed_on : ℕ → Option Heard → Received → Received
answer_handed_on now before item = if answers_count now (heard_at now before) then item else Junk

module _ {C : Type 0} (readings : C → Option (List ℕ)) (clock_old clock : C)
    (known_old known : List (Option Heard)) (answered_old answered : List (Option ℕ)) where
  -- this is handed on of an item, by whose it is. The clock is read where it is a member's, and only there
  abbrev pub IsHandedOn : Voice → Received → Received → Type 0
  IsHandedOn Stranger item handed = ⊥
  IsHandedOn (Answer node) item handed = (now : ℕ) × WhereTold (Reads now) (readings clock_old) (readings clock)
      × IsHeardAt node now known_old known × (handed ≡ answer_handed_on now (known_of known_old node) item)
      × (answered ≡ noted node now (answers_count now (heard_at now (known_of known_old node)) && item_agrees item)
      answered_old)
  IsHandedOn (Member node) item handed = (now : ℕ) × WhereTold (Reads now) (readings clock_old) (readings clock)
      × IsHeardAt node now known_old known × (handed ≡ item) × (answered ≡ answered_old)
  IsHandedOn Other item handed = (handed ≡ item) × (clock ≡ clock_old) × (known ≡ known_old)
      × (answered ≡ answered_old)

  -- the link below gave this item, of which that was handed on to a member that is told this list
  pub record Hears (coming_old coming : Option (List Received)) (me : ℕ) (ids : List ℕ) (handed : Received)
      : Type 0 where
    pub item : Received
    pub below : WhereTold (Receives {E = Failed} (Ok item)) coming_old coming
    pub answer : IsHandedOn (voice_in me ids item) item handed

-- A call fails that is made while no stranger was heard: the link below failed, or it gave a frame of a stranger, whose
-- identifier is known then.
abbrev pub FailsToHear : (faults_old faults : ℕ) (coming_old coming : Option (List Received)) (me : ℕ) (ids : List ℕ)
    (stranger : Option ℕ) (error : Failed) → Type 0
FailsToHear faults_old faults coming_old coming me ids stranger error =
    (Rose faults_old faults × WhereTold (Receives (Err error)) coming_old coming × (stranger ≡ None))
    ⊎ ((frame : RawFrame) × WhereTold (Receives {E = Failed} (Ok (Frame frame))) coming_old coming
    × (faults ≡ faults_old) × (voice_in me ids (Frame frame) ≡ Stranger) × (stranger ≡ Some frame.id))

-- ---- what goes out

-- a frame waits for followers where its member is told a list, and it gives a node ID
abbrev pub wants_followers : List ℕ → RawFrame → Bool
wants_followers [] raw = false
wants_followers (first ∷ rest) raw = gives_node_id raw

module _ {C : Type 0} (readings : C → Option (List ℕ)) (clock_old clock : C) where
  -- whether a frame of this member goes out, by whether it waits for followers. The clock is read where it does, and
  -- only there
  abbrev pub GoesOut : (me : ℕ) (ids : List ℕ) (answered : List (Option ℕ)) → Bool → Bool → Type 0
  GoesOut me ids answered false goes = (goes ≡ true) × (clock ≡ clock_old)
  GoesOut me ids answered true goes = (now : ℕ) × WhereTold (Reads now) (readings clock_old) (readings clock)
      × (goes ≡ is_followed now me ids (answered_of answered))

module _ {L : Type 0} (sent : L → Option (List RawFrame)) (faults : L → ℕ) (link_old link : L) where
  -- a frame that goes out is sent by the link below; one that does not is as good as lost
  abbrev pub IsSent : RawFrame → Result ⊤ Failed → Bool → Type 0
  IsSent frame result true = WhereTold (Sends frame result) (sent link_old) (sent link)
      × HasCause (faults link_old) (faults link) result
  IsSent frame result false = IsOk result × (link ≡ link_old)

-- ---- behind a frame that did not go out
--
-- To a link below, a call of `recv` with none of `send` since the one before says that no frame waits to be sent. Behind
-- a frame that was withheld others may wait: so the next call of `recv` gives nothing, and the link below is not asked.
-- The frames B1, B2 and B3 give a node ID, and X is another one. All four wait behind A3 as the process stops for 60 s;
-- member 2 answered last at 9,500. The link below sends none that may have waited for more than 1,000 ms:
--
--   reading   recv     link below            send           none waited there at
--    9,999    -        is asked              -              9,998
--   10,000    -        is asked              A3 goes out    9,999
--   70,000    -        is asked              B1 withheld    9,999, since A3 was sent
--   70,001    nothing  is not asked          B2 too late    9,999
--   70,002    -        is asked              B3 too late    9,999, since B2 was handed in
--   70,003    -        is asked              X too late     9,999
--   70,004    -        is asked              -              9,999
--   70,005    -        is asked              -              70,004

-- a call of `recv` since the last one of which a frame was withheld: it gives nothing, and all stands as it did
abbrev pub IsPassedOver : {L C : Type 0} (link_old link : L) (clock_old clock : C) (known_old known : List (Option Heard))
    (answered_old answered : List (Option ℕ)) (result : Result Received Failed) → Type 0
IsPassedOver link_old link clock_old clock known_old known answered_old answered result = (result ≡ Ok Nothing)
    × (link ≡ link_old) × (clock ≡ clock_old) × (known ≡ known_old) × (answered ≡ answered_old)
