-- What the device calls of a put leave on a shelf, one after the other.
use Rattle.std.proofs.Common.{◌≡◌, ◌≢◌, inl, inr, ℕ, zero, suc, ◌-◌, ◌*◌, ◌%◌, ◌<◌, ◌≤◌, List, [], ◌∷◌, Bool, false, length, add-zero, refl, sym, ap, subst, ◌∙◌, arith}
use Rattle.std.proofs.lemmas.Grind.{common_steps}
use Rattle.std.proofs.lemmas.Bool.Decides.{eqb_tells}
use Rattle.disk_model.specs.Contents.{Contents, HasBytes, IsSettled, IsSound, MayLeave}
use Rattle.disk_model.specs.Device.{IsSynced, Overwrites}
use Rattle.disk_model.specs.Restart.{run_start}
use Rattle.kv_store.specs.Image.{chosen_copy, copy_bytes, copy_start, put_in, turned}
use Rattle.kv_store.specs.KeyDisk.{IsUnsynced, Shows}
use Rattle.kv_store.proofs.DeviceCalls.{chosen_by}
use Rattle.kv_store.proofs.Replaced.{AgreesOutside, after_write, elsewhere, selectors, stays, turns, unchosen}

pub turned_same : (key : ℕ) (copies : ℕ → ℕ) → turned key copies key ≡ 1 - copies key
turned_same key copies = elim (eqb_tells key key) as (λ _. turned key copies key ≡ 1 - copies key) [ inl t ↦ rw t.0 refl | inr t ↦ absurd (t.1 refl) ]

pub turned_other : (key : ℕ) (copies : ℕ → ℕ) (k : ℕ) → k ≢ key → turned key copies k ≡ copies k
turned_other key copies k apart = elim (eqb_tells k key) as (λ _. turned key copies k ≡ copies k) [ inl t ↦ absurd (apart t.1) | inr t ↦ rw t.0 refl ]

pub turned_bits : (key : ℕ) (copies : ℕ → ℕ) → ((k : ℕ) → copies k < 2) → (k : ℕ) → turned key copies k < 2
turned_bits key copies bits k = elim (eqb_tells k key) as (λ _. turned key copies k < 2) [ inl t ↦ rw t.0 (omega arith) | inr t ↦ rw t.0 (bits k) ]

-- where nothing before a byte was written, a run of written bytes begins there
run_begins : (written : ℕ → Bool) (n : ℕ) → ((i : ℕ) → i < n → written i ≡ false) → run_start written n ≡ n
unfolding run_start
run_begins written zero none = refl
run_begins written (suc i) none = rw (none i (omega arith)) refl

module _ (map : ℕ → List ℕ) (copies : ℕ → ℕ) (value : List ℕ) (key : ℕ) (exists : key < 132) (short : length value ≤ 32) (bits : (k : ℕ) → copies k < 2)
    (c0 c1 : Contents) (sound0 : IsSound c0) (settled0 : IsSettled c0) (has : Shows c0.seen map copies)
    (sound1 : IsSound c1) (first : Overwrites (copy_start key (1 - copies key)) (copy_bytes value) c0 c1) where
  bit : 1 - copies key < 2
  bit = omega arith

  other : chosen_copy c0.seen key ≡ 1 - (1 - copies key)
  other = omega (arith, has.chosen key exists, bits key)

  size : length c0.seen ≡ 8844
  size = sound0.current.size ∙ sound0.size

  in_copy : (image : List ℕ) → MayLeave c1 image → AgreesOutside (copy_start key (1 - copies key)) 33 c0.seen image
  in_copy image left =
      let whole : length (copy_bytes value) ≡ 33 = grind (arith, common_steps) in
      subst (λ n. AgreesOutside (copy_start key (1 - copies key)) n c0.seen image) whole (after_write (copy_start key (1 - copies key)) (length (copy_bytes value)) c0 c1 image sound0 settled0 first.outside left)

  old_map : (image : List ℕ) → AgreesOutside (copy_start key (1 - copies key)) 33 c0.seen image → Shows image map copies
  old_map image agrees = record {
    shown = unchosen map value c0.seen image image key (1 - copies key) exists size bit short other has.shown agrees;
    chosen = λ k h. ap (λ n. n % 2) (selectors map value c0.seen image image key (1 - copies key) exists size bit short other has.shown agrees k) ∙ has.chosen k h;
  }

  -- after the write of the copy
  pub copy_written : (image : List ℕ) → MayLeave c1 image → Shows image map copies
  copy_written image left = old_map image (in_copy image left)

  module _ (c2 : Contents) (sound2 : IsSound c2) (sync : IsSynced c1 c2) where
    copy_there : AgreesOutside (copy_start key (1 - copies key)) 33 c0.seen c2.seen
    copy_there = subst (λ xs. AgreesOutside (copy_start key (1 - copies key)) 33 c0.seen xs) (sym sync.seen) (in_copy c1.seen sound1.current)

    whole_copy : HasBytes c2.seen (copy_start key (1 - copies key)) (copy_bytes value)
    whole_copy = subst (λ xs. HasBytes xs (copy_start key (1 - copies key)) (copy_bytes value)) (sym sync.seen) first.inside

    -- after its sync
    pub copy_synced : Shows c2.seen map copies
    copy_synced = old_map c2.seen copy_there

    module _ (c3 : Contents) (sound3 : IsSound c3) (second : Overwrites (67 * key) ((1 - copies key) ∷ []) c2 c3) where
      in_selector : (image : List ℕ) → MayLeave c3 image → AgreesOutside (67 * key) 1 c2.seen image
      in_selector image left = after_write (67 * key) 1 c2 c3 image sound2 sync.settled second.outside left

      others : (image : List ℕ) → MayLeave c3 image → (k : ℕ) → k < 132 → k ≢ key → chosen_copy image k ≡ copies k
      others image left k h apart = ap (λ n. n % 2) (elsewhere map value c0.seen c2.seen image key (1 - copies key) exists size bit short other has.shown copy_there whole_copy (in_selector image left) k (67 * k) apart (omega arith) (omega arith)) ∙ has.chosen k h

      -- after the write of the selector, where it is kept
      pub selector_kept : (image : List ℕ) → MayLeave c3 image → chosen_copy image key ≡ 1 - copies key → Shows image (put_in map key value) (turned key copies)
      selector_kept image left is = record {
        shown = turns map value c0.seen c2.seen image key (1 - copies key) exists size bit short other has.shown copy_there whole_copy (in_selector image left) is;
        chosen = λ k h. elim (eqb_tells k key) as (λ _. chosen_copy image k ≡ turned key copies k) [
          | inl t ↦ rw t.1 (is ∙ sym (turned_same key copies))
          | inr t ↦ others image left k h t.1 ∙ sym (turned_other key copies k t.1)
        ];
      }

      -- and where it is lost
      pub selector_lost : (image : List ℕ) → MayLeave c3 image → chosen_copy image key ≡ copies key → Shows image map (turned key (turned key copies))
      selector_lost image left is = record {
        shown = stays map value c0.seen c2.seen image key (1 - copies key) exists size bit short other has.shown copy_there whole_copy (in_selector image left) (λ e. omega (arith, e, is, bits key));
        chosen = λ k h. elim (eqb_tells k key) as (λ _. chosen_copy image k ≡ turned key (turned key copies) k) [
          | inl t ↦ rw t.1 (let twice : turned key (turned key copies) key ≡ copies key = turned_same key (turned key copies) ∙ (omega (arith, turned_same key copies, bits key)) in is ∙ sym twice)
          | inr t ↦ others image left k h t.1 ∙ sym (turned_other key (turned key copies) k t.1 ∙ turned_other key copies k t.1)
        ];
      }

      pub selector_seen : Shows c3.seen (put_in map key value) (turned key copies)
      selector_seen = selector_kept c3.seen sound3.current (chosen_by key (1 - copies key) c3.seen bit second.inside)

      pub selector_loose : IsUnsynced c3 (put_in map key value) (turned key copies) (record { key = key; before = map })
      selector_loose = record {
        exists = exists;
        kept = λ image left is. selector_kept image left (is ∙ turned_same key copies);
        lost = λ image left is. selector_lost image left (omega (arith, is, turned_same key copies, bits key));
        stable = rw (second.outside.stable, sync.stable) (let chosen : chosen_copy c1.seen key ≡ copies key = subst (λ xs. chosen_copy xs key ≡ copies key) sync.seen (copy_synced.chosen key exists) in omega (arith, chosen, turned_same key copies, bits key));
        written = rw add-zero at (second.written 0 (omega arith));
        alone = run_begins c3.written (67 * key) (λ i h. (second.outside.before i h).written ∙ sync.settled i);
      }
