-- Disks that were passed, one more at a time.
use Rattle.std.proofs.Common.{◌≡◌, ◌<◌, ◌≤◌, ◌+◌, ◌⊎◌, inl, inr, ℕ, min, List, length, slice_set, refl, sym, subst, ◌∙◌, arith}
use Rattle.std.specs.Prelude.{Option, None, Some, IfSome, IsSome, slice_index_or}
use Rattle.std.proofs.lemmas.Bool.Decides.{eqb_tells, leb_tells}
use Rattle.std.proofs.lemmas.List.{get_or-set_other, get_or-set_same, get_or_past}
use Rattle.disk_model.specs.declared.disk.Disk.{Ghosts}
use Rattle.listed_entry.specs.Listed.{ArePassed, HasListed, IsListedOn, IsPassed}
use Rattle.outside.specs.Faults.{Rose}
use Rattle.raft_log.specs.declared.stored.Stored.{Stored}
use Rattle.store_audit.specs.Reads.{IsDamagedDisk, IsStoreOf}
use Rattle.store_audit.specs.declared.read.Refused.{Refused}
use Rattle.store_audit.specs.declared.read.Refused.TheVariants.{Damaged, Failed}

module _ {D : Type 0} (ghosts : Ghosts D) (list : List ℕ) (old : List (Option D)) where
  pub passed_more : (mid : List (Option D)) (p : ℕ) (place : Option D) → ArePassed ghosts list p old mid → p < length mid →
      ((before after : D) → slice_index_or old p None ≡ Some before → place ≡ Some after → IsPassed ghosts list before after) →
      ArePassed ghosts list (p + 1) old (slice_set mid p place)
  passed_more mid p place passed within is k before after below was now =
      elim (eqb_tells k p) as (λ _. IsPassed ghosts list before after) [
        | inl t ↦ is before after (subst (λ n. slice_index_or old n None ≡ Some before) t.1 was)
            (sym (get_or-set_same mid p place None within) ∙ subst (λ n. slice_index_or (slice_set mid p place) n None ≡ Some after) t.1 now)
        | inr t ↦ passed k before after (omega (arith, below, t.1)) was (sym (get_or-set_other mid p k place None t.1) ∙ now)
      ]

  -- past the last disk there is none
  pub past : (new : List (Option D)) (p count : ℕ) → ArePassed ghosts list p old new → (count ≤ p) ⊎ (length old ≤ p) → ArePassed ghosts list count old new
  past new p count passed (inl le) k before after below was now = passed k before after (omega (arith, below, le)) was now
  past new p count passed (inr le) k before after below was now = elim (leb_tells p k) as (λ _. IsPassed ghosts list before after) [
    | inl t ↦ absurd (cc (get_or_past old k None (omega (arith, le, t.1)), was))
    | inr t ↦ passed k before after (omega (arith, t.1)) was now
  ]

  -- what is found in the store of a disk that is there
  pub found_on : (place : Option D) → IsSome place → (store : Stored) →
      ((disk : D) → place ≡ Some disk → IsStoreOf ghosts disk store) →
      (found : Option ℕ) → IfSome found (HasListed list store.entries.items) →
      IfSome found (λ node. (disk : D) × (place ≡ Some disk) × IsListedOn ghosts list disk node)
  found_on None some store is found entry = absurd (cc some)
  found_on (Some disk) some store is None entry = entry
  found_on (Some disk) some store is (Some node) entry =
      (disk, refl, record { store = store; is = is disk refl; entry = entry })

  -- a store that was not read
  pub unread : (why : Refused) (before after : D) → ((key : ℕ) → why ≡ Damaged key → IsDamagedDisk ghosts before key) →
      (why ≡ Failed → Rose (ghosts.faults before) (ghosts.faults after)) → IsPassed ghosts list before after
  unread Failed before after damaged failed = inr (inr (failed refl))
  unread (Damaged key) before after damaged failed = inr (inl (record { key = key; is = damaged key refl }))

pub least : (a b p : ℕ) → min a b ≤ p → (a ≤ p) ⊎ (b ≤ p)
least a b p le = elim (leb_tells a p) as (λ _. (a ≤ p) ⊎ (b ≤ p)) [
  | inl t ↦ inl t.1
  | inr t ↦ inr (omega (arith, le, t.1))
]
