-- The words of a member that runs. A word chooses how long the member waits before it stands for election: the wait is
-- 2,000 ms and what the word leaves modulo 2,001. Of members that are told their list:
--
--   list        waits by rank, in ms
--   1           3,000
--   1, 2        3,000 and 4,000
--   1, 2, 3     3,000, 3,500 and 4,000
--   1 to 5      3,000, 3,250, 3,500, 3,750 and 4,000
use Rattle.std.specs.Prelude.{ℕ, ◌+◌, ◌-◌, ◌*◌, ◌/◌, List, [], ◌∷◌, length, filter, nat_lt, max}
use Rattle.cmd_io.specs.Draws.{next_state, word_at}
use Rattle.cmd_node.specs.declared.words.Words.{Words}
use Rattle.cmd_node.specs.declared.words.Words.TheVariants.{Drawn, Ranked}

-- how many of these members have a lower node ID
abbrev pub rank : List ℕ → ℕ → ℕ
rank members id = length (filter (λ member. nat_lt member id) members)

-- The word of the lowest member. Its votes come before it stands a second time, also where a sync takes 200 ms: it
-- stores the term and its vote, and then another member does, which takes twelve syncs.
abbrev pub least_word : ℕ
least_word = 1000

-- by so much the highest member waits longer than the lowest, in milliseconds: less than twice as long, so it stands
-- before the lowest stands a second time, also where the members between them are away
abbrev pub most_longer : ℕ
most_longer = 1000

-- What the highest waits longer is shared out by rank, so the order in which the members are told changes nothing.
abbrev pub word_by_rank : List ℕ → ℕ → ℕ
word_by_rank members id = least_word + rank members id * most_longer / max 1 (length members - 1)

-- Before the first word of the node with this ID: who is told the members has one word, by its rank among them; who is
-- told none draws, by a generator that stands at its node ID.
abbrev pub own_words : List ℕ → ℕ → Words
own_words [] id = Drawn id
own_words (member ∷ members) id = Ranked (word_by_rank (member ∷ members) id)

-- at the next word
abbrev pub next_words : Words → Words
next_words (Drawn state) = Drawn (next_state state)
next_words (Ranked word) = Ranked word

-- the word, where it stands so
abbrev pub word_of : Words → ℕ
word_of (Drawn state) = word_at state
word_of (Ranked word) = word
