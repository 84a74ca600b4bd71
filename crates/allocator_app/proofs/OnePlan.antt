-- The plan of some words: there is one.
use Rattle.std.proofs.Common.{◌≡◌, ◌≤◌, ◌<◌, ◌^◌, ℕ, zero, suc, Bool, true, false, codes, inl, inr, List, [], ◌∷◌, refl, sym, ◌∙◌, ap, subst, arith, decimal, length, map}
use Rattle.std.specs.List.{Contains}
use Rattle.std.specs.Prelude.{◌==◌, if◌then◌else◌, slice_index_or}
use Rattle.std.specs.Str.Parse.{AllDigits}
use Rattle.std.proofs.lemmas.Fmt.{decimal_injective, decimal_is_IsNumeral}
use Rattle.std.proofs.lemmas.Str.Parse.{digit_from_value}
use Rattle.arrayvec.specs.ArrayVec.{ArrayVec}
use Rattle.raft_model.specs.Lists.{In}
use Rattle.can_logs.specs.declared.form.Form.{Form}
use Rattle.can_logs.specs.declared.form.Form.TheVariants.{Candump, Slcan}
use Rattle.can_logs.specs.Forms.{form_word}
use Rattle.replay_text.specs.Words.{IsHex}
use Rattle.alloc_spec.specs.ClusterMembers.{AreMembers}
use Rattle.allocator_app.specs.declared.told.Told.{Told}
use Rattle.allocator_app.specs.declared.told.Told.TheVariants.{Members, Size}
use Rattle.allocator_app.specs.Told.{IsCluster, Spells, size_of}
use Rattle.allocator_app.specs.Words.{AreFew, AreOfNew, IsAudit, IsConvert, IsDecode, IsNew, IsNode, IsPlan, IsReplace, IsReplay, IsSize, IsSoak, IsSound, IsWatch, SpellsPayload}
use Rattle.allocator_app.specs.declared.plans.Plan.{Plan}
use Rattle.allocator_app.proofs.Listing.{same_numbers, same_told}
use Rattle.allocator_app.specs.declared.plans.Plan.TheVariants.{Replay, Node, Soak, New, Replace, Audit, Watch, Convert, Decode}

-- a cluster has 1 to 5 members
sizes : (told : Told) → IsCluster told → (1 ≤ size_of told) × (size_of told ≤ 5)
sizes (Size size) h = h
sizes (Members members) h = (h.some, h.few)

-- whose stores are made, and above which term
pub start_of : (term : ℕ) (ids : List ℕ) (words : List (List ℕ)) → AreOfNew term ids words → AreMembers ids × (term ≤ 500000)
start_of term ids words (inl above) = (above.members, above.term_most)
start_of term ids words (inr plain) = let none = plain.0 in (plain.1.members, omega (arith, none))

pub sound : (plan : Plan) (words : List (List ℕ)) → IsPlan plan words → IsSound plan
sound (Replay rows ids) words h = (h.rows_most, h.members)
sound (Node told base turns ids) words h = let size = sizes told h.cluster in (size.0, size.1, h.turns_most, h.members)
sound (Soak told seed rounds size) words h = (h.rounds_most, h.sized.least, h.sized.most)
sound (New term ids) words h = let start = start_of term ids.items h.rest h.start in (start.1, start.0)
sound (Replace lost ids) words h = (h.members, h.may)
sound (Audit ids) words h = h.members
sound (Watch form lines ids) words h = (h.lines_least, h.lines_most, h.nodes)
sound (Convert from to lines) words h = (h.lines_least, h.lines_most)
sound (Decode name part payload) words h = (h.named, h.part_least, h.part_most, h.short)

-- words that have no plan by any mode have none
pub unplanned : (words : List (List ℕ)) → ((rows : ℕ) (ids : List ℕ) → IsReplay rows ids words → ⊥)
    → ((told : Told) (base turns : ℕ) (ids : List ℕ) → IsNode told base turns ids words → ⊥) → ((told : Bool) (seed rounds size : ℕ) → IsSoak told seed rounds size words → ⊥)
    → ((term : ℕ) (ids : List ℕ) → IsNew term ids words → ⊥) → ((lost : ℕ) (ids : List ℕ) → IsReplace lost ids words → ⊥) → ((ids : List ℕ) → IsAudit ids words → ⊥) → ((form : Form) (lines : ℕ) (ids : List ℕ) → IsWatch form lines ids words → ⊥)
    → ((from to : Form) (lines : ℕ) → IsConvert from to lines words → ⊥)
    → ((name : List ℕ) (part : ℕ) (payload : List ℕ) → IsDecode name part payload words → ⊥) → (plan : Plan) → IsPlan plan words → ⊥
unplanned words no_replay no_node no_soak no_new no_replace no_audit no_watch no_convert no_decode (Replay rows ids) is = no_replay rows ids.items is
unplanned words no_replay no_node no_soak no_new no_replace no_audit no_watch no_convert no_decode (Node told base turns ids) is = no_node told base turns ids.items is
unplanned words no_replay no_node no_soak no_new no_replace no_audit no_watch no_convert no_decode (Soak told seed rounds size) is = no_soak told seed rounds size is
unplanned words no_replay no_node no_soak no_new no_replace no_audit no_watch no_convert no_decode (New term ids) is = no_new term ids.items is
unplanned words no_replay no_node no_soak no_new no_replace no_audit no_watch no_convert no_decode (Replace lost ids) is = no_replace lost ids.items is
unplanned words no_replay no_node no_soak no_new no_replace no_audit no_watch no_convert no_decode (Audit ids) is = no_audit ids.items is
unplanned words no_replay no_node no_soak no_new no_replace no_audit no_watch no_convert no_decode (Watch form lines ids) is = no_watch form lines ids.items is
unplanned words no_replay no_node no_soak no_new no_replace no_audit no_watch no_convert no_decode (Convert from to lines) is = no_convert from to lines is
unplanned words no_replay no_node no_soak no_new no_replace no_audit no_watch no_convert no_decode (Decode name part payload) is = no_decode name.items part payload.items is

-- ---- the mode, as the first letter of the words tells it, and for `new` and `replace` the number of letters

data Mode : Type 0 where
  replaying : Mode
  running : Mode
  soaking : Mode
  making : Mode
  replacing : Mode
  auditing : Mode
  watching : Mode
  converting : Mode
  decoding : Mode

abbrev mode : Plan → Mode
mode (Replay rows ids) = replaying
mode (Node told base turns ids) = running
mode (Soak told seed rounds size) = soaking
mode (New term ids) = making
mode (Replace lost ids) = replacing
mode (Audit ids) = auditing
mode (Watch form lines ids) = watching
mode (Convert from to lines) = converting
mode (Decode name part payload) = decoding

-- (the letters behind the first one are so many)
abbrev mode_of_letter : ℕ → ℕ → Mode
mode_of_letter letter more =
    if letter == 114 then (if more == 5 then replaying else replacing)
    else if letter == 110 then running
    else if letter == 115 then soaking
    else if letter == 97 then auditing
    else if letter == 119 then watching
    else if letter == 99 then converting
    else decoding

abbrev mode_of : List (List ℕ) → Mode
mode_of [] = decoding
mode_of ([] ∷ words) = decoding
mode_of ((letter ∷ word) ∷ words) = if length word == 2 then making else mode_of_letter letter (length word)

mode_is : (plan : Plan) (words : List (List ℕ)) → IsPlan plan words → mode_of words ≡ mode plan
mode_is (Replay rows ids) words h = ap mode_of h.spelled
mode_is (Node told base turns ids) words h = ap mode_of h.spelled
mode_is (Soak told seed rounds size) words h = ap mode_of h.spelled
mode_is (New term ids) words h = ap mode_of h.spelled
mode_is (Replace lost ids) words h = ap mode_of h.spelled
mode_is (Audit ids) words h = ap mode_of h.spelled
mode_is (Watch form lines ids) words h = ap mode_of h.spelled
mode_is (Convert from to lines) words h = ap mode_of h.spelled
mode_is (Decode name part payload) words h = ap mode_of h.spelled

-- a plan of this mode
abbrev IsOf : Mode → Plan → Type 0
IsOf replaying plan = (rows : ℕ) × (ids : ArrayVec ℕ) × (plan ≡ Replay rows ids)
IsOf running plan = (told : Told) × (base turns : ℕ) × (ids : ArrayVec ℕ) × (plan ≡ Node told base turns ids)
IsOf soaking plan = (told : Bool) × (seed rounds size : ℕ) × (plan ≡ Soak told seed rounds size)
IsOf making plan = (term : ℕ) × (ids : ArrayVec ℕ) × (plan ≡ New term ids)
IsOf replacing plan = (lost : ℕ) × (ids : ArrayVec ℕ) × (plan ≡ Replace lost ids)
IsOf auditing plan = (ids : ArrayVec ℕ) × (plan ≡ Audit ids)
IsOf watching plan = (form : Form) × (lines : ℕ) × (ids : ArrayVec ℕ) × (plan ≡ Watch form lines ids)
IsOf converting plan = (from to : Form) × (lines : ℕ) × (plan ≡ Convert from to lines)
IsOf decoding plan = (name : ArrayVec ℕ) × (part : ℕ) × (payload : ArrayVec ℕ) × (plan ≡ Decode name part payload)

is_of : (plan : Plan) → IsOf (mode plan) plan
is_of (Replay rows ids) = (rows, ids, refl)
is_of (Node told base turns ids) = (told, base, turns, ids, refl)
is_of (Soak told seed rounds size) = (told, seed, rounds, size, refl)
is_of (New term ids) = (term, ids, refl)
is_of (Replace lost ids) = (lost, ids, refl)
is_of (Audit ids) = (ids, refl)
is_of (Watch form lines ids) = (form, lines, ids, refl)
is_of (Convert from to lines) = (from, to, lines, refl)
is_of (Decode name part payload) = (name, part, payload, refl)

-- two plans of the same words are of one mode
of_mode : (plan other : Plan) (words : List (List ℕ)) → IsPlan plan words → IsPlan other words → IsOf (mode other) plan
of_mode plan other words p q = subst (λ m. IsOf m plan) (sym (mode_is plan words p) ∙ mode_is other words q) (is_of plan)

-- ---- the parameters of a plan

abbrev kept : List ℕ → ArrayVec ℕ
kept list = record { items = list }

same_number : (a b : ℕ) → a < 2 ^ 64 → b < 2 ^ 64 → decimal a ≡ decimal b → a ≡ b
same_number a b low high e = decimal_injective a b low high e

pub one_number : (a b : ℕ) → a ≤ 1000000000 → b ≤ 1000000000 → decimal a ≡ decimal b → a ≡ b
one_number a b a_most b_most e = decimal_injective a b (omega arith) (omega arith) e

nodes_of_few : (ids : List ℕ) → AreFew ids → (n : ℕ) → In n ids → n ≤ 255
nodes_of_few ids few n here = elim few [
  | inl none ↦ absurd (subst (In n) none here)
  | inr members ↦ let node = (members.nodes n here).1 in omega (arith, node)
]

same_few : (xs ys : List ℕ) → AreFew xs → AreFew ys → map decimal xs ≡ map decimal ys → xs ≡ ys
same_few xs ys p q e = same_numbers xs ys (nodes_of_few xs p) (nodes_of_few ys q) e

in_list_at : (xs : List ℕ) (x i : ℕ) → i < length xs → slice_index_or xs i x ≡ x → In x xs
in_list_at [] x i low e = absurd (omega (arith, low))
in_list_at (y ∷ ys) x zero low e = inl (sym e)
in_list_at (y ∷ ys) x (suc i) low e = inr (in_list_at ys x i (omega (arith, low)) e)

-- a member that is listed has a node ID
pub in_list : (xs : List ℕ) (x : ℕ) → Contains xs x → In x xs
in_list xs x has = in_list_at xs x has.0 has.1 has.2

pub small_member : (ids : List ℕ) (id : ℕ) → AreMembers ids → Contains ids id → id ≤ 1000000000
small_member ids id members has = let most = (members.nodes id (in_list ids id has)).1 in omega (arith, most)

same_members : (xs ys : List ℕ) → AreMembers xs → AreMembers ys → map decimal xs ≡ map decimal ys → xs ≡ ys
same_members xs ys p q e = same_few xs ys (inr p) (inr q) e

same_form : (a b : Form) → form_word a ≡ form_word b → a ≡ b
same_form Candump Candump e = refl
same_form Candump Slcan e = cc
same_form Slcan Candump e = cc
same_form Slcan Slcan e = refl

-- (`-` is no hexadecimal digit)
no_digits : (byte : ℕ) (bytes : List ℕ) → IsHex (byte ∷ bytes) (codes "-") → ⊥
no_digits byte bytes e = cc

same_payload : (xs ys word : List ℕ) → SpellsPayload xs word → SpellsPayload ys word → xs ≡ ys
same_payload [] [] word p q = refl
same_payload [] (y ∷ ys) word p q = absurd (no_digits y ys (subst (IsHex (y ∷ ys)) p q))
same_payload (x ∷ xs) [] word p q = absurd (no_digits x xs (subst (IsHex (x ∷ xs)) q p))
same_payload (x ∷ xs) (y ∷ ys) word p q = let same = sym p ∙ q in cc

first : {a x : List ℕ} {l m : List (List ℕ)} → a ∷ l ≡ x ∷ m → a ≡ x
first e = cc

pub second : {a b x y : List ℕ} {l m : List (List ℕ)} → a ∷ b ∷ l ≡ x ∷ y ∷ m → b ≡ y
second e = cc

third : {a b c x y z : List ℕ} {l m : List (List ℕ)} → a ∷ b ∷ c ∷ l ≡ x ∷ y ∷ z ∷ m → c ≡ z
third e = cc

fourth : {a b c d x y z w : List ℕ} {l m : List (List ℕ)} → a ∷ b ∷ c ∷ d ∷ l ≡ x ∷ y ∷ z ∷ w ∷ m → d ≡ w
fourth e = cc

pub after_one : {a x : List ℕ} {l m : List (List ℕ)} → a ∷ l ≡ x ∷ m → l ≡ m
after_one e = cc

pub after_two : {a b x y : List ℕ} {l m : List (List ℕ)} → a ∷ b ∷ l ≡ x ∷ y ∷ m → l ≡ m
after_two e = cc

after_three : {a b c x y z : List ℕ} {l m : List (List ℕ)} → a ∷ b ∷ c ∷ l ≡ x ∷ y ∷ z ∷ m → l ≡ m
after_three e = cc

pub after_four : {a b c d x y z w : List ℕ} {l m : List (List ℕ)} → a ∷ b ∷ c ∷ d ∷ l ≡ x ∷ y ∷ z ∷ w ∷ m → l ≡ m
after_four e = cc

-- the words of a cluster's size spell one
same_size : (a b : Bool) (n m : ℕ) (words : List (List ℕ)) → IsSize a n words → IsSize b m words → (a ≡ b) × (n ≡ m)
same_size true true n m words p q =
    let low = p.most in let high = q.most in
    let same = sym p.spelled ∙ q.spelled in
    (refl, one_number n m (omega (arith, low)) (omega (arith, high)) (second same))
same_size true false n m words p q = let same = sym p.spelled ∙ q.spelled in cc
same_size false true n m words p q = let same = sym p.spelled ∙ q.spelled in cc
same_size false false n m words p q =
    let low = p.most in let high = q.most in
    let same = sym p.spelled ∙ q.spelled in
    (refl, one_number n m (omega (arith, low)) (omega (arith, high)) (first same))

-- the word `above` is no number
no_number : (n : ℕ) → n ≤ 125 → decimal n ≡ codes "above" → ⊥
no_number n most e =
    let digits = subst (AllDigits 10) e (decimal_is_IsNumeral n (omega (arith, most))).0.1 in omega (arith, digit_from_value 97 digits.0)

-- the word `above` begins no list of members
no_members : (ids : List ℕ) (words : List (List ℕ)) → AreMembers ids → codes "above" ∷ words ≡ map decimal ids → ⊥
no_members [] words members e = cc
no_members (n ∷ ids) words members e = no_number n (members.nodes n (inl refl)).1 (sym (first e))

-- the words behind `new` spell one term, and one list of members
same_start : (a b : ℕ) (xs ys : List ℕ) (words : List (List ℕ)) → AreOfNew a xs words → AreOfNew b ys words → (a ≡ b) × (xs ≡ ys)
same_start a b xs ys words (inl p) (inl q) =
    let same = sym p.spelled ∙ q.spelled in
    let low = p.term_most in let high = q.term_most in
    (one_number a b (omega (arith, low)) (omega (arith, high)) (second same), same_members xs ys p.members q.members (after_two same))
same_start a b xs ys words (inl p) (inr q) = absurd (no_members ys _ q.1.members (sym p.spelled ∙ q.1.spelled))
same_start a b xs ys words (inr p) (inl q) = absurd (no_members xs _ p.1.members (sym q.spelled ∙ p.1.spelled))
same_start a b xs ys words (inr p) (inr q) = (p.0 ∙ sym q.0, same_members xs ys p.1.members q.1.members (sym p.1.spelled ∙ q.1.spelled))

-- ---- the plan of the words of each mode

module _ (plan : Plan) (words : List (List ℕ)) (planned : IsPlan plan words) where
  -- as the plan is
  by : (other : Plan) → plan ≡ other → IsPlan other words
  by other is = subst (λ p. IsPlan p words) is planned

  pub only_replay : (rows : ℕ) (ids : List ℕ) → IsReplay rows ids words → plan ≡ Replay rows (kept ids)
  only_replay rows ids asks =
      let own = of_mode plan (Replay rows (kept ids)) words planned asks in
      let is = by (Replay own.0 own.1) own.2 in
      let same = sym is.spelled ∙ asks.spelled in
      let a = is.rows_most in let b = asks.rows_most in
      own.2 ∙ ap (λ n. Replay n own.1) (one_number own.0 rows (omega (arith, a)) (omega (arith, b)) (second same))
      ∙ ap (λ l. Replay rows (kept l)) (same_members own.1.items ids is.members asks.members (after_two same))

  pub only_node : (told : Told) (base turns : ℕ) (ids : List ℕ) → IsNode told base turns ids words → plan ≡ Node told base turns (kept ids)
  only_node told base turns ids asks =
      let own = of_mode plan (Node told base turns (kept ids)) words planned asks in
      let is = by (Node own.0 own.1 own.2 own.3) own.4 in
      let same = sym is.spelled ∙ asks.spelled in
      let c = is.base_most in let d = asks.base_most in
      own.4 ∙ ap (λ t. Node t own.1 own.2 own.3)
      (same_told own.0 told asks.word is.cluster asks.cluster (subst (Spells own.0) (second same) is.spells) asks.spells)
      ∙ ap (λ n. Node told n own.2 own.3) (one_number own.1 base (omega (arith, c)) (omega (arith, d)) (third same))
      ∙ ap (λ n. Node told base n own.3) (one_number own.2 turns is.turns_most asks.turns_most (fourth same))
      ∙ ap (λ l. Node told base turns (kept l)) (same_members own.3.items ids is.members asks.members (after_four same))

  pub only_soak : (told : Bool) (seed rounds size : ℕ) → IsSoak told seed rounds size words → plan ≡ Soak told seed rounds size
  only_soak told seed rounds size asks =
      let own = of_mode plan (Soak told seed rounds size) words planned asks in
      let is = by (Soak own.0 own.1 own.2 own.3) own.4 in
      let same = sym is.spelled ∙ asks.spelled in
      let a = is.rounds_most in let b = asks.rounds_most in
      let cluster = same_size own.0 told own.3 size is.cluster is.sized (subst (IsSize told size) (sym (after_three same)) asks.sized) in
      own.4 ∙ ap (λ n. Soak own.0 n own.2 own.3) (same_number own.1 seed is.seed_most asks.seed_most (second same))
      ∙ ap (λ n. Soak own.0 seed n own.3) (one_number own.2 rounds (omega (arith, a)) (omega (arith, b)) (third same))
      ∙ ap (λ k. Soak k seed rounds own.3) cluster.0 ∙ ap (λ n. Soak told seed rounds n) cluster.1

  pub only_new : (term : ℕ) (ids : List ℕ) → IsNew term ids words → plan ≡ New term (kept ids)
  only_new term ids asks =
      let own = of_mode plan (New term (kept ids)) words planned asks in
      let is = by (New own.0 own.1) own.2 in
      let rest = after_one (sym is.spelled ∙ asks.spelled) in
      let same = same_start own.0 term own.1.items ids asks.rest (subst (AreOfNew own.0 own.1.items) rest is.start) asks.start in
      own.2 ∙ ap (λ n. New n own.1) same.0 ∙ ap (λ l. New term (kept l)) same.1

  pub only_replace : (lost : ℕ) (ids : List ℕ) → IsReplace lost ids words → plan ≡ Replace lost (kept ids)
  only_replace lost ids asks =
      let own = of_mode plan (Replace lost (kept ids)) words planned asks in
      let is = by (Replace own.0 own.1) own.2 in
      let same = sym is.spelled ∙ asks.spelled in
      own.2 ∙ ap (λ n. Replace n own.1)
      (one_number own.0 lost (small_member own.1.items own.0 is.members is.may.listed) (small_member ids lost asks.members asks.may.listed) (second same))
      ∙ ap (λ l. Replace lost (kept l)) (same_members own.1.items ids is.members asks.members (after_two same))

  pub only_audit : (ids : List ℕ) → IsAudit ids words → plan ≡ Audit (kept ids)
  only_audit ids asks =
      let own = of_mode plan (Audit (kept ids)) words planned asks in
      let is = by (Audit own.0) own.1 in
      own.1 ∙ ap (λ l. Audit (kept l)) (same_members own.0.items ids is.members asks.members (after_one (sym is.spelled ∙ asks.spelled)))

  pub only_watch : (form : Form) (lines : ℕ) (ids : List ℕ) → IsWatch form lines ids words → plan ≡ Watch form lines (kept ids)
  only_watch form lines ids asks =
      let own = of_mode plan (Watch form lines (kept ids)) words planned asks in
      let is = by (Watch own.0 own.1 own.2) own.3 in
      let same = sym is.spelled ∙ asks.spelled in
      let a = is.lines_most in let b = asks.lines_most in
      own.3 ∙ ap (λ f. Watch f own.1 own.2) (same_form own.0 form (second same))
      ∙ ap (λ n. Watch form n own.2) (one_number own.1 lines (omega (arith, a)) (omega (arith, b)) (third same))
      ∙ ap (λ l. Watch form lines (kept l)) (same_few own.2.items ids is.nodes asks.nodes (after_three same))

  pub only_convert : (from to : Form) (lines : ℕ) → IsConvert from to lines words
      → plan ≡ Convert from to lines
  only_convert from to lines asks =
      let own = of_mode plan (Convert from to lines) words planned asks in
      let is = by (Convert own.0 own.1 own.2) own.3 in
      let same = sym is.spelled ∙ asks.spelled in
      let a = is.lines_most in let b = asks.lines_most in
      own.3 ∙ ap (λ f. Convert f own.1 own.2) (same_form own.0 from (second same))
      ∙ ap (λ f. Convert from f own.2) (same_form own.1 to (third same))
      ∙ ap (λ n. Convert from to n) (one_number own.2 lines (omega (arith, a)) (omega (arith, b)) (fourth same))

  pub only_decode : (name : List ℕ) (part : ℕ) (payload : List ℕ) → IsDecode name part payload words → plan ≡ Decode (kept name) part (kept payload)
  only_decode name part payload asks =
      let own = of_mode plan (Decode (kept name) part (kept payload)) words planned asks in
      let is = by (Decode own.0 own.1 own.2) own.3 in
      let same = sym is.spelled ∙ asks.spelled in
      let a = is.part_most in let b = asks.part_most in
      own.3 ∙ ap (λ l. Decode (kept l) own.1 own.2) (second same)
      ∙ ap (λ n. Decode (kept name) n own.2) (one_number own.1 part (omega (arith, a)) (omega (arith, b)) (third same))
      ∙ ap (λ l. Decode (kept name) part (kept l))
      (same_payload own.2.items payload asks.hex (subst (SpellsPayload own.2.items) (fourth same) is.digits) asks.digits)

  -- words have one plan
  pub only : (other : Plan) → IsPlan other words → plan ≡ other
  only (Replay rows ids) asks = only_replay rows ids.items asks
  only (Node told base turns ids) asks = only_node told base turns ids.items asks
  only (Soak told seed rounds size) asks = only_soak told seed rounds size asks
  only (New term ids) asks = only_new term ids.items asks
  only (Replace lost ids) asks = only_replace lost ids.items asks
  only (Audit ids) asks = only_audit ids.items asks
  only (Watch form lines ids) asks = only_watch form lines ids.items asks
  only (Convert from to lines) asks = only_convert from to lines asks
  only (Decode name part payload) asks = only_decode name.items part payload.items asks
