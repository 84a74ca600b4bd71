use Rattle.std.proofs.Common.{◌≡◌, ◌+◌, ◌++◌, ℕ, List, ◌≤◌, length, None, Some, drop, refl, sym, subst}
use Rattle.replay_text.specs.Lines.{BeginsWithNoRow, after_line}
use Rattle.replay_text.specs.Schedule.{Reads}
use Rattle.allocator_app.specs.Input.{FindsRow}
use Rattle.allocator_app.proofs.Lines.{after_line-none, no_row_found, no_row_so_long, row_found}
use Rattle.allocator_app.proofs.input.next_row.Goals as goal

pub returns-in-Some-clause-found : goal.returns-in-Some-clause-found
returns-in-Some-clause-found c =
    let row = c.in-Some.row in
    let front = c.split_at.ensures.front in
    let found = row_found row c.waiting-bytes.result.now c.in-Line.size c.in-Line.ensures.0 (subst (Reads row) front c.in-Some.ensures.found)
    (λ other reads. let e : Some row ≡ Some other = c.in-Some.ensures.only other (subst (Reads other) (sym front) reads) in cc) in
    subst (FindsRow row c.args.input.now) (sym c.take.ensures)
    (subst (λ before. FindsRow row before (drop (c.in-Line.size + 1) before)) c.waiting-bytes.ensures.bytes found)

pub returns-in-None-clause-found : goal.returns-in-None-clause-found
returns-in-None-clause-found c = (
  refl,
  subst (λ before. (more : List ℕ) → BeginsWithNoRow (before ++ more)) c.waiting-bytes.ensures.bytes
      (no_row_found c.waiting-bytes.result.now c.in-Line.size c.in-Line.ensures.0
      (λ row reads. c.in-None.ensures.none refl row (subst (Reads row) (sym c.split_at.ensures.front) reads))),
)

pub returns-in-TooLong-clause-found : goal.returns-in-TooLong-clause-found
returns-in-TooLong-clause-found c = (
  refl,
  subst (λ before. (more : List ℕ) → BeginsWithNoRow (before ++ more)) c.waiting-bytes.ensures.bytes
      (no_row_so_long c.lines_of_rows_are_short.ensures.short c.waiting-bytes.result.now c.in-TooLong.ensures),
)

pub returns-in-Incomplete-clause-found : goal.returns-in-Incomplete-clause-found
returns-in-Incomplete-clause-found c =
    subst (λ before. (before ≡ before) × (length before ≤ 120) × (after_line before ≡ None)) c.waiting-bytes.ensures.bytes
    (refl, c.in-Incomplete.ensures.1, after_line-none c.waiting-bytes.result.now c.in-Incomplete.ensures.0)
