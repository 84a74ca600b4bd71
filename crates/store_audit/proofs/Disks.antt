-- The stores that were read of disks, one more at a time, and the disks that stay.
use Rattle.std.proofs.Common.{◌≡◌, ◌≢◌, inl, inr, ℕ, suc, ◌<◌, List, [], ◌∷◌, ◌++◌, length, slice_set, refl, sym, ap, subst, ◌∙◌, arith}
use Rattle.std.specs.Prelude.{Option, None, Some, IsSome, slice_index, slice_index_or}
use Rattle.std.proofs.Math.Seq.{get_or-append_seam}
use Rattle.std.proofs.lemmas.Bool.Decides.{eqb_tells}
use Rattle.std.proofs.lemmas.List.{get_or-set_other, get_or-set_same, get_or_append_left, length-append, length-set}
use Rattle.disk_model.specs.declared.disk.Disk.{Ghosts}
use Rattle.outside.specs.Faults.{Rose}
use Rattle.cmd_io.specs.declared.status.Status.{Status}
use Rattle.cmd_io.specs.declared.status.Status.TheVariants.{DiskFault}
use Rattle.raft_log.specs.declared.stored.Stored.{Stored}
use Rattle.raft_log.specs.Reading.{IsReadable}
use Rattle.store_audit.specs.Audits.{CountsOne, AuditEndsAtDisk, AuditEndsAtDamage, NamesLast}
use Rattle.store_audit.specs.Reads.{AllStay, AreReadUpTo, AreStoresOf, IsDamagedDisk, IsReadOnce, IsStoreOf, StaysAs}
use Rattle.store_audit.specs.Stores.{AreReadable, store_at}

abbrev nothing : Stored
nothing = record { term = 0; vote = 0; commit = 0; entries = record { items = [] }; origins = record { items = [] } }

-- what holds of each of the stores, and of one more, holds of all of them
each_more : (P : ℕ → Stored → Type 0) (stores : List Stored) (store : Stored) → ((k : ℕ) → k < length stores → P k (store_at stores k))
    → P (length stores) store → (k : ℕ) → k < length (stores ++ store ∷ []) → P k (store_at (stores ++ store ∷ []) k)
each_more P stores store are is k below = elim (eqb_tells k (length stores)) as (λ _. P k (store_at (stores ++ store ∷ []) k)) [
  | inl t ↦ rw (t.1, get_or-append_seam stores store [] (nothing)) is
  | inr t ↦ let low : k < length stores = omega (arith, below, length-append stores (store ∷ []), t.1) in rw (get_or_append_left stores (store ∷ []) (nothing) k low) (are k low)
]

pub readable_more : (stores : List Stored) (store : Stored) → AreReadable stores → IsReadable store → AreReadable (stores ++ store ∷ [])
readable_more stores store are is = each_more (λ k s. IsReadable s) stores store are is

module _ {D : Type 0} (ghosts : Ghosts D) where
  pub stores_more : (disks : List (Option D)) (stores : List Stored) (store : Stored) → AreStoresOf ghosts disks stores
      → ((disk : D) → slice_index_or disks (length stores) None ≡ Some disk → IsStoreOf ghosts disk store) → AreStoresOf ghosts disks (stores ++ store ∷ [])
  stores_more disks stores store are is k disk below there =
      each_more (λ k s. (disk : D) → slice_index_or disks k None ≡ Some disk → IsStoreOf ghosts disk s) stores store (λ k below disk there. are k disk below there) is k below disk there

  -- a disk that nothing was done to
  pub all_stay : (disks : List (Option D)) → AllStay ghosts disks disks
  all_stay disks = record {
    count = refl;
    each = λ k before there. record { after = before; is = there; tells = refl; contents = λ told. refl; made = inl refl };
  }

  -- one of them was read
  pub stay_more : (old mid : List (Option D)) (p : ℕ) (place : Option D) → AllStay ghosts old mid → p < length old
      → ((before : D) → slice_index_or old p None ≡ Some before → StaysAs ghosts before place) → AllStay ghosts old (slice_set mid p place)
  stay_more old mid p place stay within is = record {
    count = length-set mid p place ∙ stay.count;
    each = λ k before there. elim (eqb_tells k p) as (λ _. StaysAs ghosts before (slice_index_or (slice_set mid p place) k None)) [
      | inl t ↦ rw (t.1, get_or-set_same mid p place None (omega (arith, within, stay.count))) (is before (rw (sym t.1) there))
      | inr t ↦ rw (get_or-set_other mid p k place None t.1) (stay.each k before there)
    ];
  }

  -- no disk counted a fault
  pub record StayQuiet (old new : List (Option D)) : Type 0 where
    pub each : (k : ℕ) (before after : D) → slice_index_or old k None ≡ Some before → slice_index_or new k None ≡ Some after →
        ghosts.faults after ≡ ghosts.faults before

  pub quiet_all : (disks : List (Option D)) → StayQuiet disks disks
  quiet_all disks = record { each = λ k before after was now. let same : Some before ≡ Some after = sym was ∙ now in ap ghosts.faults (cc same) }

  -- but for one at the most
  abbrev QuietBut : ℕ → List (Option D) → List (Option D) → Type 0
  QuietBut p old new = (k : ℕ) (before after : D) → k ≢ p → slice_index_or old k None ≡ Some before → slice_index_or new k None ≡ Some after → ghosts.faults after ≡ ghosts.faults before

  quiet_but : (old mid : List (Option D)) (p : ℕ) (place : Option D) → StayQuiet old mid → QuietBut p old (slice_set mid p place)
  quiet_but old mid p place quiet k before after other was now = quiet.each k before after was (sym (get_or-set_other mid p k place None other) ∙ now)

  pub quiet_more : (old mid : List (Option D)) (p : ℕ) (place : Option D) → StayQuiet old mid → p < length mid
      → ((before after : D) → slice_index_or old p None ≡ Some before → place ≡ Some after → ghosts.faults after ≡ ghosts.faults before)
      → StayQuiet old (slice_set mid p place)
  quiet_more old mid p place quiet within is = record {
    each = λ k before after was now. elim (eqb_tells k p) as (λ _. ghosts.faults after ≡ ghosts.faults before) [
      | inl t ↦ is before after (subst (λ n. slice_index_or old n None ≡ Some before) t.1 was)
          (sym (get_or-set_same mid p place None within) ∙ subst (λ n. slice_index_or (slice_set mid p place) n None ≡ Some after) t.1 now)
      | inr t ↦ quiet_but old mid p place quiet k before after t.1 was now
    ];
  }

  -- the counts where the disk at a place failed
  pub counts_one : (ids : List ℕ) (old mid : List (Option D)) (p : ℕ) (place : Option D) (before : D) → StayQuiet old mid → p < length ids → p < length mid
      → slice_index_or old p None ≡ Some before → StaysAs ghosts before place
      → ((after : D) → place ≡ Some after → Rose (ghosts.faults before) (ghosts.faults after))
      → CountsOne ghosts ids old (slice_set mid p place) (DiskFault (slice_index ids p))
  counts_one ids old mid p place before quiet within there was stays rose = record {
    named = λ id is. record {
      place = p;
      within = within;
      is = cc is;
      before = before;
      after = stays.after;
      was = was;
      now = get_or-set_same mid p place None there ∙ stays.is;
      rose = rose stays.after stays.is;
    };
    others = λ k b a inside other was_k now_k. elim (eqb_tells k p) as (λ _. ghosts.faults a ≡ ghosts.faults b) [
      | inl t ↦ absurd (other (ap (λ n. DiskFault (slice_index ids n)) (sym t.1)))
      | inr t ↦ quiet_but old mid p place quiet k b a t.1 was_k now_k
    ];
  }

  -- the others before this one are stores
  pub ends_at : (ids : List ℕ) (disks : List (Option D)) (stores : List Stored) (p : ℕ) → AreStoresOf ghosts disks stores → length stores ≡ p → p < length ids → AuditEndsAtDisk ghosts ids disks (slice_index ids p)
  ends_at ids disks stores p read count within = record { stores = stores; read = read; within = rw count within; is = ap (slice_index ids) (sym count) }

  -- the disks before this one have stores, and it is damaged
  pub ends_at_damage : (ids : List ℕ) (disks : List (Option D)) (stores : List Stored) (p : ℕ) (disk : D) (key : ℕ) → AreStoresOf ghosts disks stores → length stores ≡ p → p < length ids
      → slice_index_or disks p None ≡ Some disk → IsDamagedDisk ghosts disk key → AuditEndsAtDamage ghosts ids disks (slice_index ids p) key
  unfolding ends_at
  ends_at_damage ids disks stores p disk key read count within there damaged = record {
    at = ends_at ids disks stores p read count within;
    disk = disk;
    there = rw count there;
    damaged = damaged;
  }

  -- a place that has a disk
  pub there_is : (place : Option D) → IsSome place → (disk : D) × (place ≡ Some disk)
  there_is None some = absurd (cc some)
  there_is (Some disk) some = (disk, refl)

  -- so far none was read
  pub none_read : (disks : List (Option D)) → AreReadUpTo ghosts 0 disks disks
  none_read disks = record { read = λ k before after low was now. absurd (omega (arith, low)); others = λ k low. refl }

  -- and one more
  pub read_more : (old mid : List (Option D)) (p next : ℕ) (place : Option D) → next ≡ suc p → AreReadUpTo ghosts p old mid → p < length mid
      → ((before after : D) → slice_index_or old p None ≡ Some before → place ≡ Some after → IsReadOnce ghosts before after)
      → AreReadUpTo ghosts next old (slice_set mid p place)
  read_more old mid p next place more so_far within once = record {
    read = λ k before after low was now. elim (eqb_tells k p) as (λ _. IsReadOnce ghosts before after) [
      | inl t ↦ once before after (subst (λ n. slice_index_or old n None ≡ Some before) t.1 was)
          (sym (get_or-set_same mid p place None within) ∙ subst (λ n. slice_index_or (slice_set mid p place) n None ≡ Some after) t.1 now)
      | inr t ↦ so_far.read k before after (omega (arith, low, more, t.1)) was (sym (get_or-set_other mid p k place None t.1) ∙ now)
    ];
    others = λ k low. get_or-set_other mid p k place None (λ e. omega (arith, e, low, more)) ∙ so_far.others k (omega (arith, low, more));
  }

  -- the last of them is this node's
  pub names_last : (ids : List ℕ) (disks : List (Option D)) (p : ℕ) → p < length ids → NamesLast ghosts ids disks (slice_index ids p) (suc p)
  names_last ids disks p within = record { place = p; within = within; is = refl; count_is = refl }
