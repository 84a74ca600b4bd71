-- A trace that meets the premises. A member hears a frame of the other one, is killed in a turn behind its first put,
-- and is opened again by a process that gets what the kill left.
use Rattle.std.specs.Prelude.{ℕ, false, List, [], ◌∷◌}
use Rattle.outside.specs.declared.received.Received.TheVariants.{Frame}
use Rattle.cmd_node.specs.Words.{next_words, own_words, word_of}
use Rattle.cmd_node.specs.Frames.{raw_of}
use Rattle.cmd_node.specs.Opening.{RunInput}
use Rattle.cmd_node_laws.specs.Stands.{world_after}
use Rattle.cmd_node_laws.specs.Traces.{Event, DiesInTurn, Opens, Silence, Turns, WasSent}
use Rattle.bus_spec.specs.Cluster.{Cluster, frame_at}

abbrev pub two : List ℕ
two = 1 ∷ 2 ∷ []

-- the words that a member is given which is told a number: at its opening, and in its first two turns
abbrev pub word_at_opening : ℕ → ℕ
word_at_opening member = word_of (next_words (own_words [] member))

abbrev pub first_word : ℕ → ℕ
first_word member = word_of (next_words (next_words (own_words [] member)))

abbrev pub second_word : ℕ → ℕ
second_word member = word_of (next_words (next_words (next_words (own_words [] member))))

-- Member 1 sends two frames. Member 2 takes the second one, from which it knows both members; its election is due when
-- it is killed.
abbrev pub first_events : List Event
first_events = Opens 1 false 0 (word_at_opening 1) ∷ Opens 2 false 0 (word_at_opening 2)
    ∷ Turns 1 1000 (first_word 1) Silence
    ∷ Turns 1 1010 (second_word 1) Silence
    ∷ Turns 2 1020 (first_word 2) (WasSent 2)
    ∷ DiesInTurn 2 9000 (second_word 2) Silence 1 ∷ []

-- a new process opens it, and it takes a turn in which that frame comes once more
abbrev pub later_events : List Event
later_events =
    Opens 2 false 9100 (word_at_opening 2) ∷ Turns 2 9200 (first_word 2) (WasSent 2) ∷ []

abbrev pub world_by_then : Cluster
world_by_then = world_after two first_events

-- what the new process is given
abbrev pub given_then : RunInput
given_then = record {
  stored = λ i. (world_by_then.member 2).disk.store;
  coming = λ i. Frame (raw_of (frame_at world_by_then.frames 2)) ∷ [];
  sent = λ i. [];
  readings = 9100 ∷ 9200 ∷ [];
}
