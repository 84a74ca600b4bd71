-- Three parts of a unique ID are all of it.
use Rattle.std.proofs.Common.{◌≡◌, ℕ, true, ◌&&◌, List, [], ◌++◌, length, drop, refl, arith}
use Rattle.std.specs.Prelude.{nat_eq}
use Rattle.std.specs.List.{starts_with}
use Rattle.std.proofs.lemmas.Bool.Decides.{Decides-eqb}
use Rattle.std.proofs.lemmas.Grind.{common_steps}
use Rattle.std.proofs.lemmas.Slice.Eq.{starts_is}
use Rattle.newcomer_link.proofs.Parts.{left, right}
use Rattle.newcomer_link.specs.Partials.{has_all_told, has_bytes_at, untold_yet, with_part}
use Rattle.newcomer_link.specs.declared.partial.Part.TheVariants.{First, Second, Third}

fits : (bytes part : List ℕ) → starts_with nat_eq bytes part ≡ true → bytes ≡ part ++ drop (length part) bytes
fits bytes part is = (starts_is Decides-eqb bytes part _ refl).0 is

joined : (uid a b c x y z : List ℕ) → uid ≡ a ++ x → x ≡ b ++ y → y ≡ c ++ z → z ≡ [] → uid ≡ a ++ b ++ c
joined uid a b c x y z one two three none = rw (one, two, three, none) (grind (arith, common_steps))

behind_second : (uid b : List ℕ) → length b ≡ 6 → drop (length b) (drop 6 uid) ≡ drop 12 uid
behind_second uid b six = rw six (grind (arith, common_steps))

behind_third : (uid c : List ℕ) → length uid ≡ 16 → length c ≡ 4 → drop (length c) (drop 12 uid) ≡ []
behind_third uid c all four = rw four (grind (arith, common_steps))

pub whole : (uid first second third : List ℕ) → length uid ≡ 16 → length first ≡ 6 → length second ≡ 6 →
    length third ≡ 4 → has_all_told uid (with_part (with_part (with_part untold_yet (First first)) (Second second))
    (Third third)) ≡ true → uid ≡ first ++ second ++ third
whole uid first second third all six again four is =
    let b = has_bytes_at 6 uid second in let c = has_bytes_at 12 uid third in
    let one = fits uid first (left (has_bytes_at 0 uid first) (b && c) is) in
    let rest = right (has_bytes_at 0 uid first) (b && c) is in
    let two = fits (drop 6 uid) second (left b c rest) in
    let three = fits (drop 12 uid) third (right b c rest) in
    joined uid first second third (drop (length first) uid) (drop (length second) (drop 6 uid))
    (drop (length third) (drop 12 uid)) one (rw six two)
    (rw (behind_second uid second again) three) (behind_third uid third all four)
