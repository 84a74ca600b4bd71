-- The lines of logs.
use Rattle.std.proofs.Common.{◌≡◌, ◌≤◌, ℕ, zero, suc, ◌+◌, ◌-◌, ◌<◌, nat_lt, true, false, Bool, List, [], ◌∷◌, ◌++◌, length, take, refl, sym, ap, ◌∙◌, arith, append_assoc, append-nil}
use Rattle.std.proofs.Math.Seq.{take-nil}
use Rattle.std.proofs.lemmas.Bool.Decides.{nat_tests}
use Rattle.std.specs.Prelude.{slice_index_or, Some, None, if◌then◌else◌}
use Rattle.can_frame.specs.declared.entry.Entry.{Entry}
use Rattle.can_frame.specs.Log.{blank, entry_at}
use Rattle.bus_spec.specs.Cluster.{Cluster}
use Rattle.allocator_app.specs.WorldReport.{all_logs, entry_line, entry_lines, log_lines, member_lines}
use Rattle.allocator_app.specs.Logs.{entry_in}

entry_lines-more : (none : Entry) (start place : ℕ) (log : List Entry) → place < length log →
    entry_lines start (take place log) ++ entry_line (start + place) (slice_index_or log place none) ≡ entry_lines start (take (suc place) log)
entry_lines-more none start place [] h = absurd (omega (arith, h))
entry_lines-more none start zero (entry ∷ log) h =
    let number : start + 0 ≡ start = omega arith in
    ap (λ n. entry_line n entry) number ∙ sym (append-nil (entry_line start entry))
entry_lines-more none start (suc place) (entry ∷ log) h =
    let number : start + suc place ≡ suc start + place = omega arith in
    append_assoc (entry_line start entry) (entry_lines (suc start) (take place log)) (entry_line (start + suc place) (slice_index_or log place none))
    ∙ ap (λ l. entry_line start entry ++ l)
    (ap (λ n. entry_lines (suc start) (take place log) ++ entry_line n (slice_index_or log place none)) number
    ∙ entry_lines-more none (suc start) place log (omega (arith, h)))

-- one entry more
pub entry_lines-next : (place : ℕ) (log : List Entry) (line : List ℕ) → place < length log → line ≡ entry_line (place + 1) (slice_index_or log place (blank 0)) →
    entry_lines 1 (take place log) ++ line ≡ entry_lines 1 (take (place + 1) log)
entry_lines-next place log line low e =
    let number : place + 1 ≡ 1 + place = omega arith in
    let next : suc place ≡ place + 1 = omega arith in
    ap (λ l. entry_lines 1 (take place log) ++ l) (e ∙ ap (λ n. entry_line n (slice_index_or log place (blank 0))) number)
    ∙ entry_lines-more (blank 0) 1 place log low ∙ ap (λ n. entry_lines 1 (take n log)) next

entry_lines-split : (start place : ℕ) (log : List Entry) → (behind : List ℕ) × (entry_lines start log ≡ entry_lines start (take place log) ++ behind)
entry_lines-split start place [] = ([], ap (λ l. entry_lines start l ++ []) (sym (take-nil place)))
entry_lines-split start zero (entry ∷ log) = (entry_lines start (entry ∷ log), refl)
entry_lines-split start (suc place) (entry ∷ log) =
    let rest = entry_lines-split (suc start) place log in
    (rest.0, ap (λ l. entry_line start entry ++ l) rest.1 ∙ sym (append_assoc (entry_line start entry) (entry_lines (suc start) (take place log)) rest.0))

take-take : (few many : ℕ) (log : List Entry) → few ≤ many → take few (take many log) ≡ take few log
take-take zero many log h = refl
take-take (suc few) zero log h = absurd (omega (arith, h))
take-take (suc few) (suc many) [] h = refl
take-take (suc few) (suc many) (entry ∷ log) h = ap (λ l. entry ∷ l) (take-take few many log (omega (arith, h)))

-- the lines up to one entry more are a front of those up to a later place
pub entry_lines-front : (place commit : ℕ) (log : List Entry) (line waited : List ℕ) → place < length log → place < commit →
    line ≡ entry_line (place + 1) (slice_index_or log place (blank 0)) →
    (behind : List ℕ) × ((waited ++ (entry_lines 1 (take place log) ++ line)) ++ behind ≡ waited ++ entry_lines 1 (take commit log))
entry_lines-front place commit log line waited low within e =
    let rest = entry_lines-split 1 (place + 1) (take commit log) in
    let same = ap (entry_lines 1) (take-take (place + 1) commit log (omega (arith, within))) in (
      rest.0,
      append_assoc waited (entry_lines 1 (take place log) ++ line) rest.0
          ∙ ap (λ l. waited ++ l) (ap (λ l. l ++ rest.0) (entry_lines-next place log line low e ∙ sym same) ∙ sym rest.1),
    )

-- ---- the entry behind those that were written

by_test : (log : List Entry) (place : ℕ) (entry : Entry) (test : Bool) → nat_lt (length log) place ≡ test →
    Some entry ≡ (if test then None else Some (entry_at log place)) → (nat_lt (length log) place ≡ false) × (entry ≡ entry_at log place)
by_test log place entry true e h = cc
by_test log place entry false e h = (e, cc)

pub is_there : (log : List Entry) (place : ℕ) (entry : Entry) → Some entry ≡ entry_in log (place + 1) → (place < length log) × (entry ≡ slice_index_or log place (blank 0))
is_there log place entry h =
    let found = by_test log (place + 1) entry (nat_lt (length log) (place + 1)) refl h in
    let next : place + 1 ≡ suc place = omega arith in
    (grind (arith, nat_tests, found.0), found.1 ∙ ap (entry_at log) next)

none_by : (log : List Entry) (place : ℕ) (test : Bool) → nat_lt (length log) place ≡ test →
    None ≡ (if test then None else Some (entry_at log place)) → nat_lt (length log) place ≡ true
none_by log place true e h = e
none_by log place false e h = cc

pub is_last : (log : List Entry) (place : ℕ) → None ≡ entry_in log (place + 1) → length log ≤ place
is_last log place h = let low = none_by log (place + 1) (nat_lt (length log) (place + 1)) refl h in grind (arith, nat_tests, low)

take-all : (place : ℕ) (log : List Entry) → length log ≤ place → take place log ≡ log
take-all place [] h = take-nil place
take-all zero (entry ∷ log) h = absurd (omega (arith, h))
take-all (suc place) (entry ∷ log) h = ap (λ l. entry ∷ l) (take-all place log (omega (arith, h)))

-- where no entry is left, all were written
pub all_taken : (place commit : ℕ) (log : List Entry) → length log ≤ place → place ≤ commit → take place log ≡ take commit log
all_taken place commit log low within = take-all place log low ∙ sym (take-all commit log (omega (arith, low, within)))

-- ---- the logs of all nodes

pub log_lines-next : (w : Cluster) (n more : ℕ) → log_lines w n more ++ member_lines w (n + more) ≡ log_lines w n (suc more)
log_lines-next w n zero = let same : n + 0 ≡ n = omega arith in ap (member_lines w) same ∙ sym (append-nil (member_lines w n))
log_lines-next w n (suc more) =
    let same : n + suc more ≡ suc n + more = omega arith in
    append_assoc (member_lines w n) (log_lines w (suc n) more) (member_lines w (n + suc more))
    ∙ ap (λ l. member_lines w n ++ l) (ap (λ k. log_lines w (suc n) more ++ member_lines w k) same ∙ log_lines-next w (suc n) more)

pub log_lines-split : (w : Cluster) (n few more : ℕ) → (behind : List ℕ) × (log_lines w n (few + more) ≡ log_lines w n few ++ behind)
log_lines-split w n zero more = let same : 0 + more ≡ more = omega arith in (log_lines w n more, ap (log_lines w n) same)
log_lines-split w n (suc few) more =
    let rest = log_lines-split w (suc n) few more in
    let same : suc few + more ≡ suc (few + more) = omega arith in
    (rest.0, ap (log_lines w n) same ∙ ap (λ l. member_lines w n ++ l) rest.1 ∙ sym (append_assoc (member_lines w n) (log_lines w (suc n) few) rest.0))

pub log_lines-more : (w : Cluster) (id : ℕ) → 1 ≤ id → log_lines w 1 (id - 1) ++ member_lines w id ≡ log_lines w 1 (id + 1 - 1)
log_lines-more w id least =
    let here : 1 + (id - 1) ≡ id = omega arith in
    let next : suc (id - 1) ≡ id + 1 - 1 = omega arith in
    ap (λ n. log_lines w 1 (id - 1) ++ member_lines w n) (sym here) ∙ log_lines-next w 1 (id - 1) ∙ ap (log_lines w 1) next

pub all_logs-are : (w : Cluster) (id : ℕ) → id ≡ 126 → log_lines w 1 (id - 1) ≡ all_logs w
unfolding all_logs
all_logs-are w id e = ap (λ n. log_lines w 1 (n - 1)) e

pub all_logs-front : (w : Cluster) (id : ℕ) (waited : List ℕ) → 1 ≤ id → id ≤ 125 →
    (behind : List ℕ) × ((waited ++ (log_lines w 1 (id - 1) ++ member_lines w id)) ++ behind ≡ waited ++ all_logs w)
unfolding all_logs
all_logs-front w id waited least most =
    let rest = log_lines-split w 1 id (125 - id) in
    let all : id + (125 - id) ≡ 125 = omega arith in
    let here : id + 1 - 1 ≡ id = omega arith in (
      rest.0,
      append_assoc waited (log_lines w 1 (id - 1) ++ member_lines w id) rest.0
          ∙ ap (λ l. waited ++ l) (ap (λ l. l ++ rest.0) (log_lines-more w id least ∙ ap (log_lines w 1) here) ∙ sym rest.1 ∙ ap (log_lines w 1) all),
    )
