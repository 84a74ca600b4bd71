-- A turn of a process whose trace keeps the premises up to there, and in that turn.
use Rattle.std.specs.Prelude.{ℕ, List, ◌++◌}
use Rattle.outside.specs.Readings.{next_reading}
use Rattle.outside.specs.Traffic.{next_item}
use Rattle.alloc_spec.specs.Rules.{Rules}
use Rattle.cmd_node.specs.Opening.{RunInput}
use Rattle.cmd_node.specs.Turns.{Together}
use Rattle.cmd_node.specs.Words.{next_words, word_of}
use Rattle.cmd_node_laws.specs.Traces.{Came, Event, MayHappen, Turns}
use Rattle.cmd_node_laws.specs.Mirrored.{Carries}
use Rattle.cmd_node_laws.specs.Processes.{Turning, together_at}
use Rattle.cmd_node_laws.specs.Stands.{IsRunIn, world_after}

-- the turn of the member at a place as an event of a trace, when all stand like this and this comes on its link
abbrev pub turn_of : Together → ℕ → Came → Event
turn_of all place came = let r = all.running place in
    Turns r.id (next_reading all.readings) (word_of (next_words r.words)) came

-- A run of these members stands in a trace of a cluster, to where all have taken so many turns and those before a place
-- one more. The premises hold of the turn that comes next too, with what its link has for it.
pub record IsLawfulTurn (ids : List ℕ) (rules : Rules) (mine : List ℕ) (given : RunInput) (taken place : ℕ)
    : Type 0 where
  pub before : List Event
  pub during : List Event
  pub came : Came
  pub run : IsRunIn ids before during rules mine given (Turning taken place)
  pub carries : let all = together_at rules mine given taken place in
      Carries (world_after ids (before ++ during)).frames (next_item (all.running place).coming) came
  pub may : MayHappen (turn_of (together_at rules mine given taken place) place came)
      (world_after ids (before ++ during))
