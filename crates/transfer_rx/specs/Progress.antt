-- What the code keeps of a session.
use Rattle.std.specs.Prelude.{⊤, ◌≡◌, ℕ, ◌*◌, List, [], ◌∷◌, length, take, Option, Some, None}
use Rattle.can_frame.specs.declared.mark.Mark.{Mark}
use Rattle.can_frame.specs.Cutting.{joined}
use Rattle.transfer_rx.specs.declared.progress.Progress.{Progress}
use Rattle.transfer_rx.specs.Marks.{is_whole}
use Rattle.transfer_rx.specs.Parts.{IsPart}
use Rattle.transfer_rx.specs.Sessions.{Session}

-- the step of the first mark, where there is one
abbrev pub Begins : ℕ → List Mark → Type 0
Begins step [] = ⊤
Begins step (mark ∷ marks) = mark.step ≡ step

-- a place's progress and bytes stand for a session
pub record IsProgressOf (progress : Progress) (bytes : List ℕ) (session : Session) : Type 0 where
  pub key : progress.key ≡ session.key
  pub expected : progress.expected ≡ session.expected
  pub moment : progress.moment ≡ session.moment
  pub taken : progress.taken ≡ length session.taken
  pub part : IsPart session.expected 0 session.taken
  pub collected : take (7 * progress.taken) bytes ≡ joined session.taken
  pub marks : length session.marks ≡ length session.taken
  pub begun : Begins progress.step session.marks
  pub whole : progress.whole ≡ is_whole session.marks

abbrev pub IsProgressAt : Option Progress → List ℕ → Option Session → Type 0
IsProgressAt None bytes None = ⊤
IsProgressAt None bytes (Some session) = ⊥
IsProgressAt (Some progress) bytes None = ⊥
IsProgressAt (Some progress) bytes (Some session) = IsProgressOf progress bytes session
