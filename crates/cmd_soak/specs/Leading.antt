-- The rows that were taken, as rows of a cluster.
use Rattle.std.specs.Prelude.{⊤, ◌≡◌, ℕ, Bool, true, false, List, [], ◌∷◌}
use Rattle.bus_rows.specs.declared.row.Row.{Row}
use Rattle.bus_rows.specs.declared.row.Row.TheVariants.{Open, Tick, Rx, Send, Ext, Crash, Fault, AOpen, ATick, ARx, ASend, AEnd}
use Rattle.bus_spec.specs.Cluster.{cluster, world_of}
use Rattle.bus_spec.specs.Lawful.{AreLawful}
use Rattle.cmd_soak.specs.Rounds.{Soak}

-- none of the rows lets a call of a disk fail
abbrev pub is_fault : Row → Bool
is_fault (Open n told ms word) = false
is_fault (Tick n ms word) = false
is_fault (Rx n k ms) = false
is_fault (Send n) = false
is_fault (Ext frame) = false
is_fault (Crash n calls pattern) = false
is_fault (Fault n call) = true
is_fault (AOpen a uid pref ms word) = false
is_fault (ATick a ms word) = false
is_fault (ARx a k ms word) = false
is_fault (ASend a) = false
is_fault (AEnd a) = false

abbrev pub HasNoFault : List Row → Type 0
HasNoFault [] = ⊤
HasNoFault (row ∷ rows) = (is_fault row ≡ false) × HasNoFault rows

-- a lawful list of rows of these members, which leads to the world
pub record IsLed (ids : List ℕ) (s : Soak) : Type 0 where
  pub lawful : AreLawful (cluster ids) s.rows
  pub leads : world_of ids s.rows ≡ s.world
  pub faultless : HasNoFault s.rows
