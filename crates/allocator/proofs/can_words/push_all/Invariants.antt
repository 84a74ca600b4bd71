use Rattle.std.proofs.Common.{◌≡◌, ◌++◌, map, string_bytes, take}
use Rattle.allocator.proofs.can_words.push_all.Given as goal

-- the first words stand behind the others
abbrev pub invariant-loop-word : goal.invariant-loop-word
invariant-loop-word l = map string_bytes l.all.items
    ≡ map string_bytes l.fn.all.items ++ map string_bytes (take l.word-index l.words)
