-- Lines of a log from the front of some bytes.
use Rattle.std.specs.Prelude.{◌≡◌, ◌≢◌, ◌≤◌, ◌<◌, ◌⊎◌, ℕ, List, [], ◌∷◌, ◌++◌, All, length, drop}
use Rattle.can_logs.specs.declared.form.Form.{Form}
use Rattle.can_logs.specs.declared.form.Form.TheVariants.{Candump, Slcan}
use Rattle.can_logs.specs.declared.form.Line.{Line}
use Rattle.can_logs.specs.Forms.{Says, bells, end_of}
use Rattle.cmd_logs.specs.declared.front.Stands.{Stands}
use Rattle.cmd_logs.specs.declared.front.Stands.TheVariants as stands
use Rattle.cmd_io.specs.Input.{HasNoLineEnd}

-- the bytes begin with a line of at most 120 bytes, its bells among them, and the byte that ends it; then the rest
pub record BeginsWithLine (form : Form) (said : Line) (bytes rest : List ℕ) : Type 0 where
  pub line : List ℕ
  pub spelled : bytes ≡ line ++ end_of form ∷ rest
  pub one_line : All (λ byte. byte ≢ end_of form) line
  pub short : length line ≤ 120
  pub says : Says form said (drop (bells form line) line)

-- the bytes are lines that say this, and then the rest
abbrev pub ReadsLines : Form → List Line → List ℕ → List ℕ → Type 0
ReadsLines form [] bytes rest = bytes ≡ rest
ReadsLines form (said ∷ lines) bytes rest =
    (next : List ℕ) × BeginsWithLine form said bytes next × ReadsLines form lines next rest

-- a line begins in the bytes: one of an adapter at its first byte that is no bell, or at its bell 121
abbrev pub LineBegins : Form → List ℕ → Type 0
LineBegins Candump bytes = bytes ≢ []
LineBegins Slcan bytes = (bells Slcan bytes < length bytes) ⊎ (120 < bells Slcan bytes)

-- a line begins in the bytes, and none is read from their front: no end comes, or too late, or the line says nothing
pub record BeginsWithNoLine (form : Form) (bytes : List ℕ) : Type 0 where
  pub begins : LineBegins form bytes
  pub bad : (said : Line) (rest : List ℕ) → BeginsWithLine form said bytes rest → ⊥

-- what stands at the front of some bytes, whatever comes behind; a line is taken
pub record FindsLine (form : Form) (said : Line) (before now : List ℕ) : Type 0 where
  pub shorter : length now < length before
  pub begins : (more : List ℕ) → BeginsWithLine form said (before ++ more) (now ++ more)

abbrev pub Finds : Form → Stands → List ℕ → List ℕ → Type 0
Finds form (stands.Line said) before now = FindsLine form said before now
Finds form stands.NoLine before now = (now ≡ before) × ((more : List ℕ) → BeginsWithNoLine form (before ++ more))
Finds form stands.Incomplete before now =
    (now ≡ before) × (length before ≤ 120) × HasNoLineEnd (end_of form) before
