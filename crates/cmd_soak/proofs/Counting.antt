-- What a soak came to, and what is written of it.
use Rattle.std.proofs.Common.{◌≡◌, ◌≤◌, ◌+◌, ℕ, suc, Bool, true, false, List, [], ◌++◌, length, append-nil, refl, ap, subst, ◌∙◌, arith, Option, Some, None}
use Rattle.std.specs.Io.KnownBytes.{Appends, append_known}
use Rattle.bus_spec.specs.Cluster.{Cluster}
use Rattle.bus_spec.specs.Report.{entry_of}
use Rattle.cmd_soak.specs.Counts.{counts_of, is_pair, lines_of, pairs, pairs_to, soak_report}
use Rattle.cmd_soak.specs.Rounds.{Soak, for_each, has_round, one_if, seeded, soaked}
use Rattle.cmd_soak.specs.declared.counts.Counts.{Counts}
use mir.Val.{bool_byte}

-- ---- one or none

pub one_of : (test : Bool) → bool_byte test ≡ one_if test
one_of true = refl
one_of false = refl

pub one_at_most : (test : Bool) → one_if test ≤ 1
one_at_most true = omega arith
one_at_most false = omega arith

-- ---- pairs

pub pairs_next : (w : Cluster) (n place count more : ℕ) → count ≡ pairs_to w n place → more ≡ one_if (is_pair (entry_of w n (place + 1))) →
    count + more ≡ pairs_to w n (place + 1)
pairs_next w n place count more e f =
    let next : suc place ≡ place + 1 = omega arith in
    let P : ℕ → Type 0 = λ p. more ≡ one_if (is_pair (entry_of w n p)) → count + more ≡ pairs_to w n p in
    subst P next (λ h. ap (λ c. c + more) e ∙ ap (λ m. pairs_to w n place + m) h) f

-- ---- the six lines

pub counts_are : (rounds size : ℕ) (s : Soak) (frames stopped rejected found : ℕ) → frames ≡ length s.world.frames → stopped ≡ s.stops → rejected ≡ s.refused →
    found ≡ pairs s.world size →
    record { rounds = rounds; frames = frames; stops = stopped; refused = rejected; pairs = found } ≡ counts_of rounds size s
counts_are rounds size s frames stopped rejected found e f h i =
    let counts : ℕ → ℕ → ℕ → ℕ → Counts = λ a b c d. record { rounds = rounds; frames = a; stops = b; refused = c; pairs = d } in
    ap (λ a. counts a stopped rejected found) e ∙ ap (λ b. counts (length s.world.frames) b rejected found) f
    ∙ ap (λ c. counts (length s.world.frames) s.stops c found) h ∙ ap (λ d. counts (length s.world.frames) s.stops s.refused d) i

pub report_is : (told : Bool) (seed rounds size : ℕ) (counts : Counts) → counts ≡ counts_of rounds size (for_each (has_round size) 1 rounds (seeded told seed size)) →
    lines_of counts ≡ soak_report told seed rounds size
unfolding soak_report soaked
report_is told seed rounds size counts e = ap lines_of e

pub nothing_waited : (a b : Option (List ℕ)) (piece : List ℕ) → Appends (append_known a []) b piece → Appends a b piece
nothing_waited None b piece h = tt
nothing_waited (Some x) None piece h = absurd h
nothing_waited (Some x) (Some y) piece h = h ∙ ap (λ l. l ++ piece) (append-nil x)
