-- A log is read that has more entries than before.
use Rattle.std.proofs.Common.{◌≡◌, ◌≤◌, ◌<◌, inl, inr, ℕ, suc, Bool, true, false, cond, List, [], ◌∷◌, ◌++◌, length, refl, arith, nat_lt, count_by, if◌then◌else◌}
use Rattle.std.specs.Prelude.{Option, None, slice_index_or, slice_set}
use Rattle.std.proofs.lemmas.Bool.Decides.{leb_tells}
use Rattle.std.proofs.lemmas.List.{length-append, set_past}
use Rattle.std.proofs.lemmas.List.Sums.{sum_by-set}
use Rattle.can_frame.specs.Sizes.{node_ids}
use Rattle.can_frame.specs.declared.entry.Entry.{Entry}
use Rattle.newcomer_link.specs.Run.{found_more}
use Rattle.newcomer_link.specs.Run.Occurrence.{IsReadThen}
use Rattle.newcomer_link.specs.Standing.{Standing, is_lately, unheard_of, without_logged}

set_to_none : (now node : ℕ) (heard : List (Option ℕ)) →
    count_by (is_lately now) (slice_set heard node None) ≤ count_by (is_lately now) heard
set_to_none now node heard = elim (leb_tells (suc node) (length heard))
    as (λ _. count_by (is_lately now) (slice_set heard node None) ≤ count_by (is_lately now) heard) [
      | inl t ↦ let is = sum_by-set (λ x. cond (is_lately now x) 1 0) heard node None None t.1 in omega (arith, is)
      | inr t ↦ rw (set_past heard node None (omega (arith, t.1))) (omega (arith))
    ]

forgets_by : (now node : ℕ) (heard : List (Option ℕ)) (is_device : Bool) →
    count_by (is_lately now) (if is_device then slice_set heard node None else heard) ≤ count_by (is_lately now) heard
forgets_by now node heard true = set_to_none now node heard
forgets_by now node heard false = omega (arith)

fewer_without : (now : ℕ) (log : List Entry) (heard : List (Option ℕ)) →
    count_by (is_lately now) (without_logged log heard) ≤ count_by (is_lately now) heard
fewer_without now [] heard = omega (arith)
fewer_without now (entry ∷ log) heard =
    let rest = fewer_without now log (unheard_of entry.node heard) in
    let first = forgets_by now entry.node heard (nat_lt entry.node node_ids) in omega (arith, rest, first)

pub asked_once : (now : ℕ) (standing : Standing) (added : List Entry) → length added ≤ standing.asked →
    found_more (IsReadThen now (standing.log ++ added)) standing ≡ 0
asked_once now standing added few =
    let fewer = fewer_without now (standing.log ++ added) standing.heard in
    let all = length-append standing.log added in omega (arith, few, fewer, all)

one_by_one : (log : List Entry) (entry : Entry) (heard : List (Option ℕ)) →
    without_logged (log ++ entry ∷ []) heard ≡ unheard_of entry.node (without_logged log heard)
one_by_one [] entry heard = refl
one_by_one (first ∷ log) entry heard = one_by_one log entry (unheard_of first.node heard)

is_one : (b : Bool) → b ≡ true → 1 ≤ cond b 1 0
is_one true is = omega (arith)
is_one false is = absurd (cc)

is_device : (node : ℕ) → node < node_ids → nat_lt node node_ids ≡ true
is_device node lt = elim (leb_tells (suc node) node_ids) as (λ _. nat_lt node node_ids ≡ true) [
  | inl t ↦ t.0
  | inr t ↦ absurd (omega (arith, lt, t.1))
]

pub heard_once : (now : ℕ) (standing : Standing) (entry : Entry) → entry.node < length standing.heard →
    entry.node < node_ids → without_logged standing.log standing.heard ≡ standing.heard →
    is_lately now (slice_index_or standing.heard entry.node None) ≡ true →
    found_more (IsReadThen now (standing.log ++ entry ∷ [])) standing ≡ 0
heard_once now standing entry within node clear lately =
    let is = sum_by-set (λ x. cond (is_lately now x) 1 0) standing.heard entry.node None None within in
    let one = is_one (is_lately now (slice_index_or standing.heard entry.node None)) lately in
    let all = length-append standing.log (entry ∷ []) in
    rw (one_by_one standing.log entry standing.heard, clear, is_device entry.node node) (omega (arith, is, one, all))
