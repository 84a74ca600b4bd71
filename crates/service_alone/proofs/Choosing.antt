-- An allocator that leads alone may record a new unique ID, and gives it one of the node IDs that are left.
use Rattle.std.proofs.Common.{◌≡◌, ◌≢◌, ◌⊎◌, ℕ, zero, suc, ◌+◌, ◌<◌, ◌≤◌, Bool, true, false, List, [], ◌∷◌, ◌++◌, length, inl, inr, refl, sym, ◌∙◌, ap, subst, arith, Option, None, Some}
use Rattle.std.specs.Prelude.{◌||◌, nat_eq, slice_index_or}
use Rattle.std.specs.List.{list_any, position_or_len}
use Rattle.std.specs.Str.{bytes_eq}
use Rattle.std.proofs.Math.Seq.{get_or-append_seam}
use Rattle.std.proofs.lemmas.Bool.Decides.{eqb_tells}
use Rattle.std.proofs.lemmas.List.{get_or_append_left}
use Rattle.std.proofs.lemmas.Slice.Eq.{bytes_eq-Decides}
use Rattle.can_frame.specs.declared.entry.Entry.{Entry}
use Rattle.can_frame.specs.Log.{HasNodeId, HasPair, HasUid, IsBlank, IsInjective, IsPair, blank}
use Rattle.can_frame.specs.Zeros.{zeros}
use Rattle.id_selector.specs.Choice.{IsChoice, chosen}
use Rattle.alloc_spec.specs.AllocatorState.{is_recorded, is_zero, recorded_at}
use Rattle.alloc_spec_laws.proofs.Choices.{lt_tells, tell}
use Rattle.service_steps.specs.ComingBack.{HasGrown}
use Rattle.service_steps.proofs.Alone.{lt_is, one_longer}
use Rattle.service_alone.specs.Alone.{IsLeft}
use Rattle.service_steps.proofs.FollowUps.{same_number}
use Rattle.service_alone.proofs.Members.{or_true}

-- ---- what has no place in a log

past_all : (log : List Entry) (uid : List ℕ) → (HasUid log uid → ⊥) → position_or_len (λ (entry : Entry). bytes_eq entry.uid uid) log ≡ length log
past_all [] uid none = refl
past_all (entry ∷ log) uid none = rw (other)
    (let e = past_all log uid (λ h. none (record { place = suc h.place; within = omega (arith, h.within); same = h.same })) in omega (arith, e))
  where
    other : bytes_eq entry.uid uid ≡ false
    other = elim (tell (bytes_eq entry.uid uid)) [
      | inl z ↦ absurd (none (record { place = 0; within = omega arith; same = (bytes_eq-Decides entry.uid uid).0 z }))
      | inr z ↦ z
    ]

pub not_first : (log : List Entry) (uid : List ℕ) → (HasUid log uid → ⊥) → recorded_at log uid ≡ None
not_first log uid none = rw (past_all log uid none) (elim (lt_tells (length log) (length log)) [ inl z ↦ absurd (omega (arith, z.1)) | inr z ↦ rw (z.0) refl ])

-- where it stands first
pub record StandsAt (log : List Entry) (uid : List ℕ) : Type 0 where
  pub place : ℕ
  pub first : position_or_len (λ (entry : Entry). bytes_eq entry.uid uid) log ≡ place
  pub inside : place < length log
  pub its_uid : (slice_index_or log place (blank 0)).uid ≡ uid

pub stands : (log : List Entry) (uid : List ℕ) (place : ℕ) → place < length log → (slice_index_or log place (blank 0)).uid ≡ uid → StandsAt log uid
stands [] uid place within same = absurd (omega (arith, within))
stands (entry ∷ log) uid place within same = elim (tell (bytes_eq entry.uid uid)) [
  | inl z ↦ record { place = 0; first = rw (z) refl; inside = omega arith; its_uid = (bytes_eq-Decides entry.uid uid).0 z }
  | inr z ↦ behind place within same z (λ k w e. stands log uid k w e)
]
  where
    behind : (k : ℕ) → k < suc (length log) → (slice_index_or (entry ∷ log) k (blank 0)).uid ≡ uid → bytes_eq entry.uid uid ≡ false
        → ((k : ℕ) → k < length log → (slice_index_or log k (blank 0)).uid ≡ uid → StandsAt log uid) → StandsAt (entry ∷ log) uid
    behind zero w e z rest = absurd (cc (z, (bytes_eq-Decides entry.uid uid).1 e))
    behind (suc k) w e z rest = let h = rest k (omega (arith, w)) e in record {
      place = suc h.place;
      first = rw (z) (let f = h.first in omega (arith, f));
      inside = omega (arith, h.inside);
      its_uid = h.its_uid;
    }

pub recorded_first : (log : List Entry) (uid : List ℕ) (h : StandsAt log uid) → recorded_at log uid ≡ Some h.place
recorded_first log uid h = rw (h.first) (rw (lt_is h.place (length log) h.inside) refl)

-- an injective log has one node ID for a unique ID
pub same_node : (log : List Entry) (uid : List ℕ) (i j : ℕ) → IsInjective log → uid ≢ zeros → i < length log → j < length log
    → (slice_index_or log i (blank 0)).uid ≡ uid → (slice_index_or log j (blank 0)).uid ≡ uid
    → (slice_index_or log i (blank 0)).node ≡ (slice_index_or log j (blank 0)).node
same_node log uid i j injective device li lj ei ej = elim (eqb_tells i j) [
  | inl z ↦ ap (λ (k : ℕ). (slice_index_or log k (blank 0)).node) z.1
  | inr z ↦ elim (lt_tells i j) [
    | inl y ↦ absurd (device (sym ei ∙ (injective i j y.1 lj).uids (λ b. device (sym ei ∙ b.1)) (λ b. device (sym ej ∙ b.1)) (ei ∙ sym ej)))
    | inr y ↦ absurd (device (sym ej ∙ (injective j i (omega (arith, y.1, z.1)) li).uids (λ b. device (sym ej ∙ b.1)) (λ b. device (sym ei ∙ b.1)) (ej ∙ sym ei)))
  ]
]

pub not_recorded : (log : List Entry) (node : ℕ) → (HasNodeId log node → ⊥) → is_recorded log node ≡ false
not_recorded [] node none = refl
not_recorded (entry ∷ log) node none = rw (other) (not_recorded log node (λ h. none (record { place = suc h.place; within = omega (arith, h.within); same = h.same })))
  where
    other : nat_eq entry.node node ≡ false
    other = elim (eqb_tells entry.node node) [ inl z ↦ absurd (none (record { place = 0; within = omega arith; same = z.1 })) | inr z ↦ z.0 ]

pub recorded : (log : List Entry) (node place : ℕ) → place < length log → (slice_index_or log place (blank 0)).node ≡ node → is_recorded log node ≡ true
recorded [] node place within same = absurd (omega (arith, within))
recorded (entry ∷ log) node zero within same = let e : nat_eq entry.node node ≡ true = ap (λ (k : ℕ). nat_eq k node) same ∙ same_number node in rw (e) refl
recorded (entry ∷ log) node (suc place) within same =
    ap (λ (b : Bool). nat_eq entry.node node || b) (recorded log node place (omega (arith, within)) same) ∙ or_true (nat_eq entry.node node)

-- an entry of a log that has a blank more at most is one of the former log, or the blank
grown_entry : (before now : List Entry) (place : ℕ) → HasGrown before now → place < length now
    → ((place < length before) × (slice_index_or before place (blank 0) ≡ slice_index_or now place (blank 0)))
    ⊎ ((term : ℕ) × (slice_index_or now place (blank 0) ≡ blank term))
grown_entry before now place (inl e) within =
    inl (omega (arith, within, ap length e), ap (λ (l : List Entry). slice_index_or l place (blank 0)) (sym e))
grown_entry before now place (inr (term, e)) within = elim (lt_tells place (length before)) [
  | inl z ↦ inl (z.1, sym (ap (λ (l : List Entry). slice_index_or l place (blank 0)) e ∙ get_or_append_left before (blank term ∷ []) (blank 0) place z.1))
  | inr z ↦ let last : place ≡ length before = omega (arith, z.1, within, ap length e, one_longer before (blank term)) in
      inr (
        term,
        ap (λ (l : List Entry). slice_index_or l place (blank 0)) e
            ∙ (ap (λ (k : ℕ). slice_index_or (before ++ blank term ∷ []) k (blank 0)) last ∙ get_or-append_seam before (blank term) [] (blank 0)),
      )
]

pub still_new : (before now : List Entry) (uid : List ℕ) → uid ≢ zeros → HasGrown before now → (HasUid before uid → ⊥) → HasUid now uid → ⊥
still_new before now uid some grown none h = elim (grown_entry before now h.place grown h.within) [
  | inl z ↦ none (record { place = h.place; within = z.0; same = ap (λ (e : Entry). e.uid) z.1 ∙ h.same })
  | inr z ↦ some (sym h.same ∙ ap (λ (e : Entry). e.uid) z.1)
]

still_free : (before now : List Entry) (node : ℕ) → 1 ≤ node → HasGrown before now → (HasNodeId before node → ⊥) → HasNodeId now node → ⊥
still_free before now node some grown none h = elim (grown_entry before now h.place grown h.within) [
  | inl z ↦ none (record { place = h.place; within = z.0; same = ap (λ (e : Entry). e.node) z.1 ∙ h.same })
  | inr z ↦ let e = ap (λ (x : Entry). x.node) z.1 in omega (arith, e, h.same, some)
]

pub still_left : (me : ℕ) (before now : List Entry) (node : ℕ) → HasGrown before now → IsLeft me before node → IsLeft me now node
still_left me before now node grown left = record {
  least = left.least;
  most = left.most;
  other = left.other;
  free = still_free before now node left.least grown left.free;
}

grown_node : (before now : List Entry) (node : ℕ) → HasGrown before now → HasNodeId before node → HasNodeId now node
grown_node before now node (inl e) h = subst (λ (l : List Entry). HasNodeId l node) (sym e) h
grown_node before now node (inr (term, e)) h = subst (λ (l : List Entry). HasNodeId l node) (sym e) (record {
  place = h.place;
  within = omega (arith, h.within, one_longer before (blank term));
  same = ap (λ (x : Entry). x.node) (get_or_append_left before (blank term ∷ []) (blank 0) h.place h.within) ∙ h.same;
})

-- what is left of a log that has a blank more was left of the former
pub was_left : (me : ℕ) (before now : List Entry) (node : ℕ) → HasGrown before now → IsLeft me now node → IsLeft me before node
was_left me before now node grown left = record {
  least = left.least;
  most = left.most;
  other = left.other;
  free = λ h. left.free (grown_node before now node grown h);
}

pub grown_pair : (before now : List Entry) (uid : List ℕ) (node : ℕ) → HasGrown before now → HasPair before uid node → HasPair now uid node
grown_pair before now uid node (inl e) h = subst (λ (l : List Entry). HasPair l uid node) (sym e) h
grown_pair before now uid node (inr (term, e)) h = subst (λ (l : List Entry). HasPair l uid node) (sym e) (record {
  place = h.place;
  within = omega (arith, h.within, one_longer before (blank term));
  pair = subst IsPair (sym there) h.pair;
  its_uid = ap (λ (x : Entry). x.uid) there ∙ h.its_uid;
  its_node = ap (λ (x : Entry). x.node) there ∙ h.its_node;
})
  where
    there : slice_index_or (before ++ blank term ∷ []) h.place (blank 0) ≡ slice_index_or before h.place (blank 0)
    there = get_or_append_left before (blank term ∷ []) (blank 0) h.place h.within

pub still_injective : ((log : List Entry) (entry : Entry) → IsBlank entry → IsInjective log → IsInjective (log ++ entry ∷ []))
    → (before now : List Entry) → HasGrown before now → IsInjective before → IsInjective now
still_injective blanks before now (inl e) h = subst IsInjective (sym e) h
still_injective blanks before now (inr (term, e)) h = subst IsInjective (sym e) (blanks before (blank term) (refl, refl) h)

pub grown_length : (before now : List Entry) → HasGrown before now → length now ≤ length before + 1
grown_length before now (inl e) = omega (arith, ap length e)
grown_length before now (inr (term, e)) = omega (arith, ap length e, one_longer before (blank term))

-- ---- it may record the pair

pub not_zeros : (uid : List ℕ) → uid ≢ zeros → is_zero uid ≡ false
not_zeros uid device = elim (tell (is_zero uid)) [ inl z ↦ absurd (device ((bytes_eq-Decides uid zeros).0 z)) | inr z ↦ z ]

pub left_false : (a b : Bool) → (a || b) ≡ false → a ≡ false
left_false true b e = e
left_false false b e = refl

pub right_false : (a b : Bool) → (a || b) ≡ false → b ≡ false
right_false true b e = absurd (cc (e))
right_false false b e = e

pub none_any : (test : ℕ → Bool) (nodes : List ℕ) → ((node : ℕ) → test node ≡ false) → list_any test nodes ≡ false
none_any test [] none = refl
none_any test (node ∷ nodes) none = rw (none node) (none_any test nodes none)

-- who chooses gives an ID of 1 to 125, where one is free
pub record Chooses (ids : List Bool) (preferred : ℕ) : Type 0 where
  pub node : ℕ
  pub least : 1 ≤ node
  pub most : node ≤ 125
  pub free : slice_index_or ids node true ≡ false
  pub chosen_is : chosen ids preferred ≡ Some node

pub chooses : ((ids : List Bool) (preferred : ℕ) → IsChoice ids preferred (chosen ids preferred)) → (ids : List Bool) (preferred free : ℕ)
    → 1 ≤ free → free ≤ 125 → slice_index_or ids free true ≡ false → Chooses ids preferred
chooses law ids preferred free least most is_free_one = by (chosen ids preferred) refl (law ids preferred)
  where
    by : (o : Option ℕ) → chosen ids preferred ≡ o → IsChoice ids preferred o → Chooses ids preferred
    by None e none = absurd (cc (none free least most, is_free_one))
    by (Some node) e (inl best) = record { node = node; least = best.free.least; most = best.free.most; free = best.free.free; chosen_is = e }
    by (Some node) e (inr second) = record { node = node; least = second.next.free.least; most = second.next.free.most; free = second.next.free.free; chosen_is = e }
