-- How the allocators are opened: in order, each with one reading of the clock and one word.
use Rattle.std.specs.Prelude.{ℕ, zero, suc, List, [], length, slice_index}
use Rattle.outside.specs.declared.received.RawFrame.{RawFrame}
use Rattle.outside.specs.declared.received.Received.{Received}
use Rattle.outside.specs.Readings.{next_reading, readings_behind}
use Rattle.cmd_node.specs.Words.{next_words, own_words, word_of}
use Rattle.raft_core.specs.StoredPuts.{store_of}
use Rattle.raft_log.specs.Stored.{Stored, after_puts, opening_puts}
use Rattle.alloc_spec.specs.Rules.{Rules, opening_by}
use Rattle.cmd_node.specs.Turn.{Running}
use Rattle.cmd_node.specs.Turns.{Together}

-- what is handed in: by place the state that a disk stands for, the items that come on a link, and what was sent there
-- before; and the readings of the clock
pub record RunInput : Type 0 where
  pub stored : ℕ → Stored
  pub coming : ℕ → List Received
  pub sent : ℕ → List RawFrame
  pub readings : List ℕ

-- the readings still to come after so many
abbrev pub readings_after : ℕ → List ℕ → List ℕ
readings_after zero readings = readings
readings_after (suc count) readings = readings_behind (readings_after count readings)

-- with the first word of its own
abbrev pub opened_at : Rules → List ℕ → RunInput → ℕ → Running
opened_at rules ids given place = let id = slice_index ids place in let words = next_words (own_words rules.told id) in
    let found = given.stored place in record {
      id = id;
      allocator = opening_by id rules (store_of found)
          (next_reading (readings_after place given.readings)) (word_of words);
      stored = after_puts (opening_puts found) found;
      words = words;
      coming = given.coming place;
      sent = given.sent place;
    }

-- the allocators of these nodes, opened by these rules and before their first turn
abbrev pub together_at_opening : Rules → List ℕ → RunInput → Together
together_at_opening rules ids given = record {
  running = opened_at rules ids given;
  readings = readings_after (length ids) given.readings;
  lines = [];
}
