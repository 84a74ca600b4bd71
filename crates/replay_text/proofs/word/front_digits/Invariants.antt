use Rattle.std.proofs.Common.{◌≡◌, ◌≤◌, drop, take}
use Rattle.std.specs.Str.Parse.{AllDigits, digits_value}
use Rattle.replay_text.specs.Digits.{digits_in_front}
use Rattle.replay_text.proofs.word.front_digits.Given as goal

-- the digits so far, and what is left of the text
abbrev pub invariant-loop-byte : goal.invariant-loop-byte
invariant-loop-byte l = record {
  count : l.size ≡ l.byte-index;
  within : l.n ≤ l.most;
  digits : AllDigits 10 (take l.byte-index l.text);
  value : l.n ≡ digits_value 10 (take l.byte-index l.text);
  exact : digits_in_front l.most l.n l.size (drop l.byte-index l.text) ≡ digits_in_front l.most 0 0 l.text;
}
