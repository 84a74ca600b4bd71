-- The first line of some bytes.
use Rattle.std.proofs.Common.{◌≡◌, ◌≢◌, ◌<◌, ◌≤◌, ℕ, List, [], ◌∷◌, ◌++◌, length, Some, None, refl, sym, ap, ◌∙◌, arith}
use Rattle.std.specs.List.{All}
use Rattle.std.proofs.lemmas.Bool.{ne_eqb}
use Rattle.std.proofs.lemmas.List.Elements.{All-head, All-tail}
use Rattle.bus_rows.specs.declared.row.Row.{Row}
use Rattle.replay_text.specs.Lines.{BeginsWith, NoRowBegins, ReadsRows, after_line, first_line}
use Rattle.replay_text.specs.Schedule.{Reads}
use Rattle.replay_text.proofs.Spelled.{no_line_feed, short_line}

abbrev IsOneLine : List ℕ → Type 0
IsOneLine line = All (λ byte. byte ≢ 10) line

-- up to a line feed
first_line-ended : (line rest : List ℕ) → IsOneLine line → first_line (line ++ 10 ∷ rest) ≡ line
first_line-ended [] rest one = refl
first_line-ended (byte ∷ line) rest one =
    rw (ne_eqb byte 10 (All-head (λ b. b ≢ 10) byte line one)) (ap (λ l. byte ∷ l) (first_line-ended line rest (All-tail (λ b. b ≢ 10) byte line one)))

after_line-ended : (line rest : List ℕ) → IsOneLine line → after_line (line ++ 10 ∷ rest) ≡ Some rest
after_line-ended [] rest one = refl
after_line-ended (byte ∷ line) rest one =
    rw (ne_eqb byte 10 (All-head (λ b. b ≢ 10) byte line one)) (after_line-ended line rest (All-tail (λ b. b ≢ 10) byte line one))

-- without one
after_line-unended : (line : List ℕ) → IsOneLine line → after_line line ≡ None
after_line-unended [] one = refl
after_line-unended (byte ∷ line) one =
    rw (ne_eqb byte 10 (All-head (λ b. b ≢ 10) byte line one)) (after_line-unended line (All-tail (λ b. b ≢ 10) byte line one))

-- the first line is as long as any front of it
first_line-front : (line rest : List ℕ) → IsOneLine line → length line ≤ length (first_line (line ++ rest))
first_line-front [] rest one = omega arith
first_line-front (byte ∷ line) rest one =
    let more = first_line-front line rest (All-tail (λ b. b ≢ 10) byte line one) in
    rw (ne_eqb byte 10 (All-head (λ b. b ≢ 10) byte line one)) (omega arith)

pub begins : (row : Row) (line rest : List ℕ) → Reads row line → BeginsWith row (line ++ 10 ∷ rest) rest
begins row line rest reads =
    let one = no_line_feed row line reads in
    record { ended = after_line-ended line rest one; reads = rw (first_line-ended line rest one) reads }

pub begins_only : (row : Row) (line rest next : List ℕ) → All (λ byte. byte ≢ 10) line → BeginsWith row (line ++ 10 ∷ rest) next
    → Reads row line × (next ≡ rest)
begins_only row line rest next one begun =
    let ended = after_line-ended line rest one in
    (rw (first_line-ended line rest one) at begun.reads, cc (begun.ended, ended))

pub begins_unended : (row : Row) (line next : List ℕ) → All (λ byte. byte ≢ 10) line → BeginsWith row line next → ⊥
begins_unended row line next one begun = let none = after_line-unended line one in cc (begun.ended, none)

pub begins_long : (row : Row) (line rest next : List ℕ) → All (λ byte. byte ≢ 10) line → 120 < length line
    → BeginsWith row (line ++ rest) next → ⊥
begins_long row line rest next one long begun =
    let front = first_line-front line rest one in
    let short = short_line row (first_line (line ++ rest)) begun.reads in
    omega arith

pub ReadsRows-append : (a b : List Row) (bytes middle rest : List ℕ) → ReadsRows a bytes middle → ReadsRows b middle rest → ReadsRows (a ++ b) bytes rest
ReadsRows-append [] b bytes middle rest first second = rw first second
ReadsRows-append (row ∷ a) b bytes middle rest first second =
    (first.0, first.1, ReadsRows-append a b first.0 middle rest first.2 second)

pub NoRowBegins-nil : NoRowBegins []
NoRowBegins-nil row rest begun = let ended = begun.ended in cc

-- of `a_line_has_one_row`
abbrev ALineHasOneRow : Type 0
ALineHasOneRow = (a b : Row) (line : List ℕ) → Reads a line → Reads b line → a ≡ b

-- what a row leaves is determined
one_step : ALineHasOneRow → (a b : Row) (bytes next after : List ℕ) → BeginsWith a bytes next → BeginsWith b bytes after → (a ≡ b) × (next ≡ after)
one_step one_row a b bytes next after first second =
    let x = first.ended in
    let y = second.ended in
    (one_row a b (first_line bytes) first.reads second.reads, cc)

pub ReadsRows-one_way : ALineHasOneRow → (a b : List Row) (bytes rest other : List ℕ) → ReadsRows a bytes rest → ReadsRows b bytes other
    → NoRowBegins rest → NoRowBegins other → (a ≡ b) × (rest ≡ other)
ReadsRows-one_way one_row [] [] bytes rest other first second none stops = (refl, sym first ∙ second)
ReadsRows-one_way one_row [] (row ∷ b) bytes rest other first second none stops = absurd (none row second.0 (rw (← first) second.1))
ReadsRows-one_way one_row (row ∷ a) [] bytes rest other first second none stops = absurd (stops row first.0 (rw (← second) first.1))
ReadsRows-one_way one_row (row ∷ a) (row' ∷ b) bytes rest other first second none stops =
    let step = one_step one_row row row' bytes first.0 second.0 first.1 second.1 in
    let more = ReadsRows-one_way one_row a b first.0 rest other first.2 (rw step.1 second.2) none stops in
    let same = step.0 in
    let rows = more.0 in
    (cc, more.1)
