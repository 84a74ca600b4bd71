-- Stores that agree place by place.
use Rattle.std.proofs.Common.{◌≡◌, inl, inr, ℕ, suc, ◌<◌, ◌≤◌, List, length, take, get_or, refl, sym, ap, ◌∙◌, arith}
use Rattle.std.proofs.lemmas.Bool.Decides.{eqb_tells, leb_tells}
use Rattle.std.proofs.lemmas.List.{ext_get_or, get_or-take, length-take-le}
use Rattle.can_frame.specs.declared.entry.Entry.{Entry}
use Rattle.can_frame.specs.Log.{IsInjective, IsPrefix, blank, entry_at}
use Rattle.raft_log.specs.declared.stored.Stored.{Stored}
use Rattle.store_audit.specs.Report.{AgreeOn}
use Rattle.store_audit.specs.Stores.{AgreeAt, AreCommitted, HasCommitted, committed, store_at, stored_entry}

-- where none before a store has committed an entry at the place, and all behind it that have one have its, all have it
module _ (stores : List Stored) (place f : ℕ)
    (before : (k : ℕ) → k < f → HasCommitted stores place k → ⊥)
    (behind : (k : ℕ) → f < k → k < length stores → HasCommitted stores place k → stored_entry stores k place ≡ stored_entry stores f place) where
  its : (k : ℕ) → k < length stores → HasCommitted stores place k → stored_entry stores k place ≡ stored_entry stores f place
  its k exists has = elim (leb_tells k f) as (λ _. stored_entry stores k place ≡ stored_entry stores f place) [
    | inl t ↦ elim (eqb_tells k f) as (λ _. stored_entry stores k place ≡ stored_entry stores f place) [
      | inl u ↦ ap (λ n. stored_entry stores n place) u.1
      | inr u ↦ absurd (before k (omega (arith, t.1, u.1)) has)
    ]
    | inr t ↦ behind k (omega (arith, t.1)) exists has
  ]

  pub agree : AgreeAt stores place
  agree a b in_a in_b has_a has_b = its a in_a has_a ∙ sym (its b in_b has_b)

-- what a store has committed, entry by entry
pub committed_length : (store : Stored) → store.commit ≤ length store.entries.items → length (committed store) ≡ store.commit
committed_length store within = length-take-le store.commit store.entries.items within

committed_at : (store : Stored) (i : ℕ) → i < store.commit → get_or (committed store) i (blank 0) ≡ entry_at store.entries.items (suc i)
committed_at store i below = get_or-take store.commit store.entries.items i (blank 0) below

pub same_front : (a b : Stored) → a.commit ≤ length a.entries.items → b.commit ≤ length b.entries.items → a.commit ≤ b.commit
    → ((i : ℕ) → i < a.commit → entry_at a.entries.items (suc i) ≡ entry_at b.entries.items (suc i)) → IsPrefix (committed a) (committed b)
same_front a b whole_a whole_b shorter same =
    let size = committed_length a whole_a in
    let size_b = committed_length b whole_b in
    let long : length (take (length (committed a)) (committed b)) ≡ length (committed a) = length-take-le (length (committed a)) (committed b) (omega (arith, size, size_b, shorter)) in
    ext_get_or (blank 0) (take (length (committed a)) (committed b)) (committed a) long
    (λ i h. let below : i < a.commit = omega (arith, h, long, size) in
    get_or-take (length (committed a)) (committed b) i (blank 0) (omega (arith, below, size))
    ∙ (committed_at b i (omega (arith, below, shorter)) ∙ (sym (same i below) ∙ sym (committed_at a i below))))

-- stores that agree at each place agree on what the one has committed that has committed the most
pub agree_on : (stores : List Stored) (most : ℕ) → AreCommitted stores → ((place : ℕ) → 1 ≤ place → AgreeAt stores place) → most < length stores
    → ((k : ℕ) → k < length stores → (store_at stores k).commit ≤ (store_at stores most).commit) → AgreeOn stores (committed (store_at stores most))
agree_on stores most whole same exists longest = record {
  front = λ k below. same_front (store_at stores k) (store_at stores most) (whole k below) (whole most exists) (longest k below)
      (λ i h. same (suc i) (omega arith) k most below exists (omega (arith, h)) (omega (arith, h, longest k below)));
  longest = most;
  exists = exists;
  whole = refl;
}

-- what a store has committed gives nothing twice
pub injective_front : (n : ℕ) (log : List Entry) → n ≤ length log → IsInjective log → IsInjective (take n log)
injective_front n log within all = λ i j before below.
    let size = length-take-le n log within in
    let low : j < n = omega (arith, below, size) in
    let x = get_or-take n log i (blank 0) (omega (arith, before, low)) in
    let y = get_or-take n log j (blank 0) low in
    rw (x, y) (all i j before (omega (arith, low, within)))
