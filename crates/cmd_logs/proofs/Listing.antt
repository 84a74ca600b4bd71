-- The lines of a watch, one log line behind the others.
use Rattle.std.proofs.Common.{◌≡◌, ◌∙◌, ℕ, suc, ◌+◌, List, [], ◌∷◌, ◌++◌, length, ap, refl, sym, append_assoc, append-nil, arith}
use Rattle.can_logs.specs.declared.form.Line.{Line}
use Rattle.cmd_logs.specs.Watched.{Watch, line_heard, listed, unwatched, watched, watched_from}
use Rattle.cmd_logs.specs.Watching.{watch_behind}

-- a watch behind some lines and one more
pub watch_behind-last : (ids : List ℕ) (watch : Watch) (lines : List Line) (line : Line) →
    watch_behind ids watch (lines ++ line ∷ []) ≡ (line_heard ids (watch_behind ids watch lines) line).after
watch_behind-last ids watch [] line = refl
watch_behind-last ids watch (first ∷ lines) line = watch_behind-last ids (line_heard ids watch first).after lines line

-- one line more is listed behind the others, by its number
pub watched_from-last : (ids : List ℕ) (watch : Watch) (before : ℕ) (lines : List Line) (line : Line) →
    watched_from ids watch before (lines ++ line ∷ [])
    ≡ watched_from ids watch before lines ++ listed (before + length lines + 1) (line_heard ids (watch_behind ids watch lines) line).gives
watched_from-last ids watch before [] line =
    append-nil (listed (suc before) (line_heard ids watch line).gives)
    ∙ ap (λ n. listed n (line_heard ids watch line).gives) (omega arith)
watched_from-last ids watch before (first ∷ lines) line =
    let this = line_heard ids watch first in
    ap (λ rest. listed (suc before) this.gives ++ rest) (watched_from-last ids this.after (suc before) lines line)
    ∙ sym (append_assoc (listed (suc before) this.gives) (watched_from ids this.after (suc before) lines) _)
    ∙ ap (λ n. (listed (suc before) this.gives ++ watched_from ids this.after (suc before) lines) ++ listed n (line_heard ids (watch_behind ids this.after lines) line).gives) (omega arith)

-- so it is from the first line on
pub watched-more : (ids : List ℕ) (lines : List Line) (said : Line) (number : ℕ) → number ≡ length lines + 1 →
    watched ids (lines ++ said ∷ []) ≡ watched ids lines ++ listed number (line_heard ids (watch_behind ids unwatched lines) said).gives
watched-more ids lines said number is =
    watched_from-last ids unwatched 0 lines said
    ∙ ap (λ n. watched ids lines ++ listed n (line_heard ids (watch_behind ids unwatched lines) said).gives) (omega (arith, is))

-- what further lines list stands behind what some lines list
pub watched_from-on : (ids : List ℕ) (watch : Watch) (before : ℕ) (lines more : List Line) →
    (rest : List ℕ) × (watched_from ids watch before (lines ++ more) ≡ watched_from ids watch before lines ++ rest)
watched_from-on ids watch before [] more = (watched_from ids watch before more, refl)
watched_from-on ids watch before (line ∷ lines) more =
    let this = line_heard ids watch line in
    let on = watched_from-on ids this.after (suc before) lines more in (
      on.0,
      ap (λ l. listed (suc before) this.gives ++ l) on.1
          ∙ sym (append_assoc (listed (suc before) this.gives) (watched_from ids this.after (suc before) lines) on.0),
    )
