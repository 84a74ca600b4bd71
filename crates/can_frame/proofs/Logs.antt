-- Logs in which no node ID and no unique ID stands twice.
use Rattle.std.proofs.Common.{◌≡◌, ◌≢◌, ◌⊎◌, inl, inr, ℕ, ◌+◌, ◌<◌, ◌≤◌, List, [], ◌∷◌, ◌++◌, length, take, get_or, sym, ap, subst, ◌∙◌, arith}
use Rattle.std.specs.Prelude.{◌↔◌}
use Rattle.std.proofs.lemmas.Bool.{cases_lt}
use Rattle.std.proofs.lemmas.List.{get_or-take, get_or_append_left, length-take, length-append}
use Rattle.std.proofs.Math.Seq.{get_or-append_seam}
use Rattle.can_frame.specs.declared.entry.Entry.{Entry}
use Rattle.can_frame.specs.Log.{AreDistinct, HasNodeId, HasUid, IsBlank, IsDistinctFromAll, IsInjective, IsPair, IsReservation, IsWellFormed, blank}
use Rattle.can_frame.specs.Zeros.{zeros}

-- ---- the kinds of an entry

pub no_pair_is_blank : (entry : Entry) → IsPair entry → IsBlank entry → ⊥
no_pair_is_blank entry pair none = pair.uid none.1

pub no_reservation_is_blank : (entry : Entry) → IsReservation entry → IsBlank entry → ⊥
no_reservation_is_blank entry kept none = let least = kept.least in let zero = none.0 in omega (arith, least, zero)

-- a well-formed entry with a unique ID is a pair
pub pair_of_device : (entry : Entry) → IsWellFormed entry → entry.uid ≢ zeros → IsPair entry
pair_of_device entry (inl none) device = absurd (device none.1)
pair_of_device entry (inr (inl kept)) device = absurd (device kept.uid)
pair_of_device entry (inr (inr pair)) device = pair

-- ---- a log and one entry more

module _ (log : List Entry) (entry : Entry) where
  before_last : (i : ℕ) → i < length log → get_or (log ++ entry ∷ []) i (blank 0) ≡ get_or log i (blank 0)
  before_last i below = get_or_append_left log (entry ∷ []) (blank 0) i below

  last : get_or (log ++ entry ∷ []) (length log) (blank 0) ≡ entry
  last = get_or-append_seam log entry [] (blank 0)

  longer : length (log ++ entry ∷ []) ≡ length log + 1
  longer = length-append log (entry ∷ [])

  front_is : IsInjective (log ++ entry ∷ []) → IsInjective log
  front_is injective i j less within =
      subst (λ x. AreDistinct x (get_or log j (blank 0))) (before_last i (omega (arith, less, within)))
      (subst (λ x. AreDistinct (get_or (log ++ entry ∷ []) i (blank 0)) x) (before_last j within)
      (injective i j less (omega (arith, within, longer))))

  last_is : IsInjective (log ++ entry ∷ []) → IsDistinctFromAll log entry
  last_is injective i below =
      subst (λ x. AreDistinct (get_or log i (blank 0)) x) last
      (subst (λ x. AreDistinct x (get_or (log ++ entry ∷ []) (length log) (blank 0))) (before_last i below)
      (injective i (length log) below (omega (arith, longer))))

  with_last : IsInjective log → IsDistinctFromAll log entry → IsInjective (log ++ entry ∷ [])
  with_last injective distinct i j less within = at (cases_lt j (length log))
    where
      at : (j < length log) ⊎ (length log ≤ j) → AreDistinct (get_or (log ++ entry ∷ []) i (blank 0)) (get_or (log ++ entry ∷ []) j (blank 0))
      at (inr end) =
          let place : length log ≡ j = omega (arith, end, within, longer) in
          subst (λ x. AreDistinct x (get_or (log ++ entry ∷ []) j (blank 0))) (sym (before_last i (omega (arith, less, place))))
          (subst (λ x. AreDistinct (get_or log i (blank 0)) x) (sym last ∙ ap (λ n. get_or (log ++ entry ∷ []) n (blank 0)) place)
          (distinct i (omega (arith, less, place))))
      at (inl before) =
          subst (λ x. AreDistinct x (get_or (log ++ entry ∷ []) j (blank 0))) (sym (before_last i (omega (arith, less, before))))
          (subst (λ x. AreDistinct (get_or log i (blank 0)) x) (sym (before_last j before))
          (injective i j less before))

  pub one_more : IsInjective (log ++ entry ∷ []) ↔ (IsInjective log × IsDistinctFromAll log entry)
  one_more = (λ injective. (front_is injective, last_is injective), λ h. with_last h.0 h.1)

  pub pair_more : IsPair entry → IsInjective (log ++ entry ∷ []) ↔ (IsInjective log × (HasUid log entry.uid → ⊥) × (HasNodeId log entry.node → ⊥))
  pair_more pair = (
    λ injective. (front_is injective, new_uid (last_is injective), new_node (last_is injective)),
    λ h. with_last h.0 (λ i below. record {
      nodes = λ a b same. h.2 (record { place = i; within = below; same = same });
      uids = λ a b same. absurd (h.1 (record { place = i; within = below; same = same }));
    }),
  )
    where
      new_uid : IsDistinctFromAll log entry → HasUid log entry.uid → ⊥
      new_uid distinct has = let same = has.same in
          pair.uid (sym same ∙ (distinct has.place has.within).uids (λ b. pair.uid (sym same ∙ b.1)) (no_pair_is_blank entry pair) same)

      new_node : IsDistinctFromAll log entry → HasNodeId log entry.node → ⊥
      new_node distinct has = let same = has.same in let least = pair.least in
          (distinct has.place has.within).nodes (λ b. let none = b.0 in omega (arith, same, least, none)) (no_pair_is_blank entry pair) same

  pub reservation_more : IsReservation entry → IsInjective (log ++ entry ∷ []) ↔ (IsInjective log × (HasNodeId log entry.node → ⊥))
  reservation_more kept = (
    λ injective. (front_is injective, new_node (last_is injective)),
    λ h. with_last h.0 (λ i below. record {
      nodes = λ a b same. h.1 (record { place = i; within = below; same = same });
      uids = λ a b same. same ∙ kept.uid;
    }),
  )
    where
      new_node : IsDistinctFromAll log entry → HasNodeId log entry.node → ⊥
      new_node distinct has = let same = has.same in let least = kept.least in
          (distinct has.place has.within).nodes (λ b. let none = b.0 in omega (arith, same, least, none)) (no_reservation_is_blank entry kept) same

  pub blank_more : IsBlank entry → IsInjective (log ++ entry ∷ []) ↔ IsInjective log
  blank_more none = (
    front_is,
    λ injective. with_last injective (λ i below. record {
      nodes = λ a b. absurd (b none);
      uids = λ a b. absurd (b none);
    }),
  )

pub front : (log : List Entry) (k : ℕ) → IsInjective log → IsInjective (take k log)
front log k injective i j less below =
    let short : j < k = omega (arith, below, length-take k log) in
    let within : j < length log = omega (arith, below, length-take k log) in
    subst (λ x. AreDistinct x (get_or (take k log) j (blank 0))) (sym (get_or-take k log i (blank 0) (omega (arith, less, short))))
    (subst (λ x. AreDistinct (get_or log i (blank 0)) x) (sym (get_or-take k log j (blank 0) short)) (injective i j less within))

-- ---- what stands in such a log

either_order : (log : List Entry) → IsInjective log → (i j : ℕ) → i < length log → j < length log → i ≢ j
    → AreDistinct (get_or log i (blank 0)) (get_or log j (blank 0)) ⊎ AreDistinct (get_or log j (blank 0)) (get_or log i (blank 0))
either_order log injective i j below within apart = at (cases_lt j i)
  where
    at : (j < i) ⊎ (i ≤ j) → AreDistinct (get_or log i (blank 0)) (get_or log j (blank 0)) ⊎ AreDistinct (get_or log j (blank 0)) (get_or log i (blank 0))
    at (inr le) = inl (injective i j (omega (arith, le, apart)) within)
    at (inl less) = inr (injective j i less below)

nodes_differ : (a b : Entry) → AreDistinct a b ⊎ AreDistinct b a → (IsBlank a → ⊥) → (IsBlank b → ⊥) → a.node ≢ b.node
nodes_differ a b (inl x) na nb e = x.nodes na nb e
nodes_differ a b (inr x) na nb e = x.nodes nb na (sym e)

uids_differ : (a b : Entry) → AreDistinct a b ⊎ AreDistinct b a → IsPair a → IsPair b → a.uid ≢ b.uid
uids_differ a b (inl x) pa pb e = pa.uid (x.uids (no_pair_is_blank a pa) (no_pair_is_blank b pb) e)
uids_differ a b (inr x) pa pb e = pb.uid (x.uids (no_pair_is_blank b pb) (no_pair_is_blank a pa) (sym e))

module _ (log : List Entry) (injective : IsInjective log) (i j : ℕ) (below : i < length log) (within : j < length log) where
  abbrev a : Entry
  a = get_or log i (blank 0)

  abbrev b : Entry
  b = get_or log j (blank 0)

  pub pairs_differ : i ≢ j → IsPair a → IsPair b → (a.node ≢ b.node) × (a.uid ≢ b.uid)
  pairs_differ apart pa pb =
      let distinct = either_order log injective i j below within apart in
      (nodes_differ a b distinct (no_pair_is_blank a pa) (no_pair_is_blank b pb), uids_differ a b distinct pa pb)

  pub reserved_differ : IsReservation a → IsPair b → a.node ≢ b.node
  reserved_differ ra pb =
      let apart : i ≢ j = λ e. pb.uid (ap (λ n. (get_or log n (blank 0)).uid) (sym e) ∙ ra.uid) in
      nodes_differ a b (either_order log injective i j below within apart) (no_reservation_is_blank a ra) (no_pair_is_blank b pb)
