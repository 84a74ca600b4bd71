-- The objects that a plan needs.
use Rattle.std.proofs.Common.{◌≡◌, ◌≤◌, ◌<◌, ℕ, List, length, sym, ◌∙◌, ap, subst, arith}
use Rattle.std.specs.declared.option.Option.{Option}
use Rattle.std.proofs.lemmas.Bool.{true≢false}
use Rattle.allocator_app.specs.declared.plans.Plan.{Plan}
use Rattle.allocator_app.specs.declared.plans.Plan.TheVariants.{Replay, Node, Soak, New, Replace, Audit, Watch, Convert, Decode}
use Rattle.allocator_app.specs.Words.{AreGiven, AreNone, AreStored, HasObjects, IsPlan, UsesDisks, UsesLinks}
use Rattle.allocator_app.proofs.OnePlan.{only, start_of}

some_given : {L D : Type 0} (ids : List ℕ) (links : List L) (disks : List (Option D)) → 1 ≤ length ids → AreGiven ids links disks → AreNone links disks → ⊥
some_given ids links disks some given none =
    let count = given.links_count in let empty : length links ≡ 0 = ap length none.no_links in omega (arith, some, count, empty)

some_stored : {L D : Type 0} (ids : List ℕ) (links : List L) (disks : List (Option D)) → 1 ≤ length ids → AreStored ids links disks → AreNone links disks → ⊥
some_stored ids links disks some given none =
    let count = given.disks_count in
    let within : 0 < length disks = omega (arith, some, count) in
    true≢false (sym (given.present 0 within) ∙ none.no_disks 0 within)

-- so where none is handed in, none is used
pub no_links_used : {L D : Type 0} (plan : Plan) (words : List (List ℕ)) (links : List L) (disks : List (Option D)) → IsPlan plan words → UsesLinks plan
    → HasObjects plan links disks → AreNone links disks → ⊥
no_links_used (Replay rows ids) words links disks planned uses has none = uses
no_links_used (Node told base turns ids) words links disks planned uses has none = some_given ids.items links disks planned.members.some has none
no_links_used (Soak told seed rounds size) words links disks planned uses has none = uses
no_links_used (New term ids) words links disks planned uses has none = uses
no_links_used (Replace lost ids) words links disks planned uses has none = uses
no_links_used (Audit ids) words links disks planned uses has none = uses
no_links_used (Watch form lines ids) words links disks planned uses has none = uses
no_links_used (Convert from to lines) words links disks planned uses has none = uses
no_links_used (Decode name part payload) words links disks planned uses has none = uses

pub no_disks_used : {L D : Type 0} (plan : Plan) (words : List (List ℕ)) (links : List L) (disks : List (Option D)) → IsPlan plan words → UsesDisks plan
    → HasObjects plan links disks → AreNone links disks → ⊥
no_disks_used (Replay rows ids) words links disks planned uses has none = uses
no_disks_used (Node told base turns ids) words links disks planned uses has none = some_given ids.items links disks planned.members.some has none
no_disks_used (Soak told seed rounds size) words links disks planned uses has none = uses
no_disks_used (New term ids) words links disks planned uses has none = some_stored ids.items links disks (start_of term ids.items planned.rest planned.start).0.some has none
no_disks_used (Replace lost ids) words links disks planned uses has none = some_stored ids.items links disks planned.members.some has none
no_disks_used (Audit ids) words links disks planned uses has none = some_stored ids.items links disks planned.members.some has none
no_disks_used (Watch form lines ids) words links disks planned uses has none = uses
no_disks_used (Convert from to lines) words links disks planned uses has none = uses
no_disks_used (Decode name part payload) words links disks planned uses has none = uses
