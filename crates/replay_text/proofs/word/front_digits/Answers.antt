use Rattle.std.proofs.Common.{◌<◌, ◌+◌, ◌*◌, arith, ap, drop, get_or, length, rules, sym, ◌∙◌}
use Rattle.std.specs.Int.{IsInRange}
use Rattle.std.proofs.lemmas.Int.Digits.{digits_more, digits_value_more}
use Rattle.std.proofs.lemmas.Str.{digit_value_digit}
use Rattle.replay_text.specs.Digits.{digits_in_front}
use Rattle.replay_text.proofs.Front.{a-digit, next-drop}
use Rattle.replay_text.proofs.word.front_digits.Goals as goal

pub loop-byte-preserved : goal.loop-byte-preserved
loop-byte-preserved c =
    let l = c.loop-byte in
    let text = c.args.text.now in
    let byte = get_or text l.byte-index 0 in
    let inside : l.byte-index < length text = omega arith in
    let range : IsInRange 48 57 byte = search rules in
    let value = digit_value_digit byte range in
    record {
      count = omega (arith, l.invariant.count);
      within = c.if-n-most.false;
      digits = digits_more 10 text l.byte-index inside l.invariant.digits (omega (arith, value, range));
      value = omega (arith, l.invariant.value, value, c.from.ensures, digits_value_more 10 text l.byte-index inside);
      exact =
          ap (λ m. digits_in_front c.args.most m (l.size + 1) (drop (l.byte-index + 1) text)) (ap (λ digit. 10 * l.n + digit) c.from.ensures)
          ∙ sym (a-digit c.args.most l.n l.size byte (drop (l.byte-index + 1) text) (omega (arith, range)) (omega (arith, range)) (omega (arith, c.if-n-most.false, c.from.ensures)))
          ∙ ap (digits_in_front c.args.most l.n l.size) (sym (next-drop text l.byte-index inside))
          ∙ l.invariant.exact;
    }
