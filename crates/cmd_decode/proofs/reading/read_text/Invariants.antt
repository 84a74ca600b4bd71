use Rattle.std.proofs.Common.{◌≡◌, ◌≤◌, ◌<◌, ◌+◌, ◌-◌, ◌*◌, ◌⊎◌, List, ℕ, [], Some, None, length}
use Rattle.replay_text.specs.Lines.{after_line}
use Rattle.cmd_decode.specs.Taking.{HasTaken}
use Rattle.cmd_decode.proofs.reading.read_text.Given as goal

-- the lines so far were taken, and the beginning of a line waits, where another line may come
abbrev pub invariant-reading : goal.invariant-reading
invariant-reading g l =
    let left = g.S.Source.left in
    record {
      within : l.lines.count ≤ 1000;
      short : length l.input ≤ 120;
      unended : after_line l.input ≡ None;
      another : (l.input ≡ []) ⊎ (l.lines.count < 1000);
      kept : g.S.Source.faults l.source ≡ g.S.Source.faults l.fn.source;
      told : (bytes : List ℕ) → left l.fn.source ≡ Some bytes → HasTaken bytes l.input (left l.source) l.lines;
    }

-- each line has at most 121 bytes with its line feed, and each read brings one byte at least
abbrev pub decreases-reading : goal.decreases-reading
decreases-reading g l = (1000 - l.lines.count) * 122 + (121 - length l.input)
