use Rattle.std.proofs.Common.{◌≤◌, ◌++◌, take, length, inr, sym, ap, ◌∙◌, subst, arith}
use Rattle.std.proofs.lemmas.Bool.{true≢false}
use Rattle.std.proofs.lemmas.Bool.Decides.{nat_tests}
use Rattle.cmd_io.specs.Input.{HasNoLineEnd, HasTooLongLine, IsLineEnd}
use Rattle.dsdl_text.specs.Lines.{Reads}
use Rattle.cmd_decode.specs.Lines.{IsBadLine}
use Rattle.cmd_decode.specs.Taking.{TakesLine, TakesSome, text_in}
use Rattle.cmd_decode.proofs.Fronts.{after_line-none, bad_at, bad_so_long, beyond}
use Rattle.cmd_decode.proofs.Progress.{takes_more}
use Rattle.cmd_decode.proofs.lines.Lines.take.Goals as goal

pub returns-then-self-eq-MOST_LINES-clause-stops : goal.returns-then-self-eq-MOST_LINES-clause-stops
returns-then-self-eq-MOST_LINES-clause-stops c =
    let full = c.if-self-eq-MOST_LINES.true in
    beyond c.lines.self.count c.lines.input (grind (arith, nat_tests, full)) (λ e. true≢false (sym (c.is_empty.ensures.1 e) ∙ c.if-is_empty.false))

pub returns-then-not-take_line-clause-stops : goal.returns-then-not-take_line-clause-stops
returns-then-not-take_line-clause-stops c = λ more.
    let low = c.if-self-eq-MOST_LINES.false in
    let within = c.lines.invariant.within in
    let refused = c.if-not-take_line.true in
    let ends = subst (λ b. IsLineEnd 10 b c.in-Line.size × (c.in-Line.size ≤ 120)) c.waiting.ensures.bytes c.in-Line.ensures in
    let line = c.split_at.ensures.front ∙ ap (take c.in-Line.size) c.waiting-in-Line.ensures.bytes in
    let bad = bad_at (text_in c.lines.self) c.lines.self.count c.lines.input c.in-Line.size ends.0 (grind (arith, nat_tests, low, within))
    (λ e. true≢false (sym (c.is_empty.ensures.1 e) ∙ c.if-is_empty.false))
    (λ value reads. c.take_line.ensures.bad refused value (subst (Reads value) (sym line) reads)) more in
    subst (λ text. IsBadLine text c.take_line.new.self.count (c.lines.input ++ more)) (sym (c.take_line.ensures.text_kept refused))
    (subst (λ count. IsBadLine (text_in c.lines.self) count (c.lines.input ++ more)) (sym (c.take_line.ensures.count_kept refused)) bad)

pub lines-preserved : goal.lines-preserved
lines-preserved c =
    let low = c.if-self-eq-MOST_LINES.false in
    let within = c.lines.invariant.within in
    let done = c.if-not-take_line.false in
    let counted = c.take_line.ensures.counted done in
    let ends = subst (λ b. IsLineEnd 10 b c.in-Line.size × (c.in-Line.size ≤ 120)) c.waiting.ensures.bytes c.in-Line.ensures in
    let line = c.split_at.ensures.front ∙ ap (take c.in-Line.size) c.waiting-in-Line.ensures.bytes in
    record {
      within = grind (arith, nat_tests, low, within, counted);
      some = subst (TakesSome c.args.self.now c.take_line.new.self c.args.input.now) (sym c.take.ensures)
          (takes_more c.args.self.now c.lines.self c.take_line.new.self c.args.input.now c.lines.input c.in-Line.size c.lines.invariant.some
          ends.0 ends.1 (subst (TakesLine (text_in c.lines.self) (text_in c.take_line.new.self)) line (c.take_line.ensures.taken done)) counted);
    }

pub returns-in-TooLong-clause-stops : goal.returns-in-TooLong-clause-stops
returns-in-TooLong-clause-stops c =
    let low = c.if-self-eq-MOST_LINES.false in
    let within = c.lines.invariant.within in
    bad_so_long (text_in c.lines.self) c.lines.self.count c.lines.input (subst (HasTooLongLine 10 120) c.waiting.ensures.bytes c.in-TooLong.ensures)
    (grind (arith, nat_tests, low, within)) (λ e. true≢false (sym (c.is_empty.ensures.1 e) ∙ c.if-is_empty.false))

pub returns-in-Incomplete-clause-stops : goal.returns-in-Incomplete-clause-stops
returns-in-Incomplete-clause-stops c =
    let low = c.if-self-eq-MOST_LINES.false in
    let within = c.lines.invariant.within in
    let ends = subst (λ b. HasNoLineEnd 10 b × (length b ≤ 120)) c.waiting.ensures.bytes c.in-Incomplete.ensures in
    record {
      short = ends.1;
      unended = after_line-none c.lines.input ends.0;
      another = inr (grind (arith, nat_tests, low, within));
    }
