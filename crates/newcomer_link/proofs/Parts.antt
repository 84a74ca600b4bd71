-- What is told of a unique ID, one part more at a time.
use Rattle.std.proofs.Common.{◌≡◌, ◌≢◌, ◌+◌, inl, inr, ℕ, Bool, true, false, not, ◌&&◌, List, refl}
use Rattle.std.specs.Prelude.{Some, Contains}
use Rattle.std.proofs.lemmas.Bool.Decides.{leb_tells}
use Rattle.std.proofs.lemmas.List.Folds.{list_any_at}
use Rattle.std.proofs.lemmas.Slice.Eq.{bytes_eq-Decides}
use Rattle.std.specs.Str.{bytes_eq}
use Rattle.can_frame.specs.Zeros.{zeros}
use Rattle.can_frame.specs.declared.entry.Entry.{Entry}
use Rattle.newcomer_link.specs.Partials.{has_all_told, has_bytes_at, has_part, has_told, is_device_told, is_of_device, is_of_log, untold_yet, with_part}
use Rattle.newcomer_link.specs.Standing.{Standing, between_exchanges, rule_ask, told_since}
use Rattle.newcomer_link.specs.declared.partial.Part.{Part}
use Rattle.newcomer_link.specs.declared.partial.Part.TheVariants.{First, Second, Third}
use Rattle.newcomer_link.specs.declared.partial.Partial.{Partial}

first_told : (x y z told : Bool) → (x && (y && z)) ≡ true → told ≡ true → (told && (y && z)) ≡ true
first_told false y z told all is = absurd (cc)
first_told true y z false all is = absurd (cc)
first_told true y z true all is = all

second_told : (x y z told : Bool) → (x && (y && z)) ≡ true → told ≡ true → (x && (told && z)) ≡ true
second_told false y z told all is = absurd (cc)
second_told true false z told all is = absurd (cc)
second_told true true z false all is = absurd (cc)
second_told true true z true all is = all

third_told : (x y z told : Bool) → (x && (y && z)) ≡ true → told ≡ true → (x && (y && told)) ≡ true
third_told false y z told all is = absurd (cc)
third_told true false z told all is = absurd (cc)
third_told true true z told all is = is

pub has_one_more : (uid : List ℕ) (told : Partial) (part : Part) → has_all_told uid told ≡ true →
    has_part uid part ≡ true → has_all_told uid (with_part told part) ≡ true
has_one_more uid told (First bytes) all is = first_told (has_told 0 uid told.first) (has_told 6 uid told.second)
    (has_told 12 uid told.third) (has_bytes_at 0 uid bytes) all is
has_one_more uid told (Second bytes) all is = second_told (has_told 0 uid told.first) (has_told 6 uid told.second)
    (has_told 12 uid told.third) (has_bytes_at 6 uid bytes) all is
has_one_more uid told (Third bytes) all is = third_told (has_told 0 uid told.first) (has_told 6 uid told.second)
    (has_told 12 uid told.third) (has_bytes_at 12 uid bytes) all is

pub left : (a b : Bool) → (a && b) ≡ true → a ≡ true
left true b is = refl
left false b is = is

pub right : (a b : Bool) → (a && b) ≡ true → b ≡ true
right true b is = is
right false b is = absurd (cc)

pub eq_is : (a b : List ℕ) → a ≡ b → bytes_eq a b ≡ true
eq_is a b same = (bytes_eq-Decides a b).1 same

of_device_is : (uid : List ℕ) → uid ≢ zeros → is_of_device uid ≡ true
of_device_is uid differs = by (bytes_eq uid zeros) (λ is. differs ((bytes_eq-Decides uid zeros).0 is)) where
  by : (same : Bool) → (same ≡ true → ⊥) → not same ≡ true
  by true differs = absurd (differs refl)
  by false differs = refl

both : (a b : Bool) → a ≡ true → b ≡ true → (a && b) ≡ true
both true b is too = too
both false b is too = absurd (cc)

pub is_of_it : (log : List Entry) (entry : Entry) (told : Partial) (part : Part) → Contains log entry →
    entry.uid ≢ zeros → has_part entry.uid part ≡ true → has_all_told entry.uid told ≡ true →
    is_of_log log told part ≡ true
is_of_it log entry told part there device is all =
    let p : Entry → Bool = λ e. is_device_told told part e.uid in
    let told_it = both (has_all_told entry.uid told) (has_part entry.uid part) all is in
    let it = both (is_of_device entry.uid) (has_all_told entry.uid told && has_part entry.uid part)
    (of_device_is entry.uid device) told_it in
    list_any_at p log there.0 entry there.1 (rw (there.2) it)

-- either a pause is over, and nothing counts, or all counts that was told
pub told_later : (uid : List ℕ) (last later : ℕ) (told : Partial) → has_all_told uid told ≡ true →
    (known : Partial) × (told_since later (Some (record { last = last; told = Some told })) ≡ Some known)
    × (has_all_told uid known ≡ true)
told_later uid last later told all =
    elim (leb_tells (last + between_exchanges) later)
    as (λ _. (known : Partial) × (told_since later (Some (record { last = last; told = Some told })) ≡ Some known)
    × (has_all_told uid known ≡ true)) [
      | inl t ↦ (untold_yet, rw (t.0) refl, refl)
      | inr t ↦ (told, rw (t.0) refl, all)
    ]

known_behind : (now later : ℕ) (part : Part) (standing : Standing) (uid : List ℕ) (told : Partial)
    (is_of : Bool) → standing.is_read ≡ true → told_since now standing.requests ≡ Some told →
    is_of_log standing.log told part ≡ true → has_all_told uid (with_part told part) ≡ true →
    (known : Partial) × (told_since later (rule_ask now part standing).behind.requests ≡ Some known)
    × (has_all_told uid known ≡ true)
known_behind now later part standing uid told is_of read was of all =
    rw (read, was, of) (told_later uid now later (with_part told part) all)

pub let_in : (now : ℕ) (part : Part) (standing : Standing) (entry : Entry) (told : Partial) →
    standing.is_read ≡ true → Contains standing.log entry → entry.uid ≢ zeros → has_part entry.uid part ≡ true →
    told_since now standing.requests ≡ Some told → has_all_told entry.uid told ≡ true →
    (rule_ask now part standing).is_let_in ≡ true
let_in now part standing entry told read there device is was all =
    let of = is_of_it standing.log entry told part there device is all in rw (read, was, of) refl

pub told_on : (now later : ℕ) (part : Part) (standing : Standing) (entry : Entry) (told : Partial) →
    standing.is_read ≡ true → Contains standing.log entry → entry.uid ≢ zeros → has_part entry.uid part ≡ true →
    told_since now standing.requests ≡ Some told → has_all_told entry.uid told ≡ true →
    (known : Partial) × (told_since later (rule_ask now part standing).behind.requests ≡ Some known)
    × (has_all_told entry.uid known ≡ true)
told_on now later part standing entry told read there device is was all =
    known_behind now later part standing entry.uid told true read was
    (is_of_it standing.log entry told part there device is all) (has_one_more entry.uid told part all is)
