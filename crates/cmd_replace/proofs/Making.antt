-- The disks once an image was written to that of the lost member, or nothing was.
use Rattle.std.proofs.Common.{◌≡◌, inl, inr, ℕ, ◌<◌, List, slice_index, slice_set, sym, ap, subst, ◌∙◌, length}
use Rattle.std.specs.Prelude.{Option, None, Some, slice_index_or}
use Rattle.std.proofs.lemmas.Bool.Decides.{eqb_tells}
use Rattle.std.proofs.lemmas.List.{get_or_default, get_or-set_other, get_or-set_same}
use Rattle.cmd_io.specs.declared.status.Status.{Status}
use Rattle.cmd_io.specs.declared.status.Status.TheVariants.{DiskFault, Done}
use Rattle.disk_model.specs.declared.disk.Disk.{Ghosts}
use Rattle.outside.specs.Faults.{Rose}
use Rattle.store_audit.specs.Audits.{CountsOne}
use Rattle.raft_log.specs.declared.stored.Stored.{Stored}
use Rattle.store_audit.specs.Reads.{AllStay}
use Rattle.store_audit.specs.Stores.{store_at}
use Rattle.cmd_replace.specs.Replaced.{AreQuiet, IsImaged, LeftStay}
use Rattle.cmd_replace.proofs.Reading.{nothing, quiet_still}

-- the store of the leader has all of its log committed
pub all_committed : (stores others : List Stored) (leader : ℕ) (found : Stored) → others ≡ stores → leader < length stores
    → (store_at stores leader).commit ≡ length (store_at stores leader).entries.items
    → (slice_index_or others leader found).commit ≡ length (store_at stores leader).entries.items
all_committed stores others leader found same low is =
    ap (λ l. (slice_index_or l leader found).commit) same ∙ ap (λ (s : Stored). s.commit) (get_or_default stores leader found nothing low) ∙ is

module _ {D : Type 0} (ghosts : Ghosts D) (ids : List ℕ) (lost : ℕ) (old mid : List (Option D)) where
  -- where no disk failed no count rose
  pub counts_none : (status : Status) → ((id : ℕ) → status ≡ DiskFault id → ⊥) → AreQuiet ghosts ids lost old mid → CountsOne ghosts ids old mid status
  counts_none status none quiet = record {
    named = λ id is. absurd (none id is);
    others = λ k before after within other was now. quiet k before after was now;
  }

  pub all_left_stay : AllStay ghosts old mid → LeftStay ghosts ids lost old mid
  all_left_stay stay k before left there = stay.each k before there

  module _ (p : ℕ) (place : Option D) (within : p < length mid) (is_lost : slice_index ids p ≡ lost) where
    pub left_stay : AllStay ghosts old mid → LeftStay ghosts ids lost old (slice_set mid p place)
    left_stay stay k before left there = rw (get_or-set_other mid p k place None (λ e. left (ap (slice_index ids) e ∙ is_lost))) (stay.each k before there)

    -- an image was written to it
    pub counts_imaged : (image : List ℕ) → AreQuiet ghosts ids lost old mid → ((before : D) → slice_index_or old p None ≡ Some before → IsImaged ghosts image before place)
        → CountsOne ghosts ids old (slice_set mid p place) Done
    counts_imaged image quiet imaged = record {
      named = λ id is. absurd (cc is);
      others = λ k before after low other was now. quiet_still ghosts ids lost old mid p place quiet within
          (λ b a was_p now_p. let is = imaged b was_p in let same : Some is.after ≡ Some a = sym is.is ∙ now_p in subst (λ d. ghosts.faults d ≡ ghosts.faults b) (cc same) is.faults)
          k before after was now;
    }

    -- it failed
    pub counts_lost : AreQuiet ghosts ids lost old mid → p < length ids → (before after : D) → slice_index_or old p None ≡ Some before → place ≡ Some after
        → Rose (ghosts.faults before) (ghosts.faults after) → CountsOne ghosts ids old (slice_set mid p place) (DiskFault lost)
    counts_lost quiet low before after was now rose = record {
      named = λ id is. record {
        place = p;
        within = low;
        is = cc (is, is_lost);
        before = before;
        after = after;
        was = was;
        now = get_or-set_same mid p place None within ∙ now;
        rose = rose;
      };
      others = λ k b a inside other was_k now_k. elim (eqb_tells k p) as (λ _. ghosts.faults a ≡ ghosts.faults b) [
        | inl t ↦ absurd (other (ap DiskFault (sym (ap (slice_index ids) t.1 ∙ is_lost))))
        | inr t ↦ quiet k b a was_k (sym (get_or-set_other mid p k place None t.1) ∙ now_k)
      ];
    }
