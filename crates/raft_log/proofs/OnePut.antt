-- A call that makes one put.
use Rattle.std.proofs.Common.{◌≡◌, ◌⊎◌, inr, inl, ℕ, ◌-◌, List, [], ◌∷◌, Bool, true, false, refl, sym, subst, ◌∙◌}
use Rattle.std.specs.Prelude.{Option, None, Result, Err, is_ok}
use Rattle.disk_model.specs.declared.disk.Disk.{Ghosts}
use Rattle.disk_model.specs.Contents.{MayLeave}
use Rattle.disk_model.specs.Device.{Makes}
use Rattle.kv_store.specs.declared.fault.Fault.{Fault}
use Rattle.kv_store.specs.Image.{AlwaysStandsFor, StandsFor, put_calls, put_in, turned}
use Rattle.kv_store.specs.StoreViews.{store_map}
use Rattle.raft_log.specs.declared.durable.Durable.{Durable}
use Rattle.raft_log.specs.Allowed.{IsAllowed, IsNext}
use Rattle.raft_log.specs.declared.change.Change.{Change}
use Rattle.raft_log.specs.declared.change.Change.TheVariants.{Term, Vote, Next, Longer, Shorter, Commit, Origin, Version}
use Rattle.raft_log.specs.Changes.{FitsBytes, MayMake, next_for, put_of}
use Rattle.raft_log.specs.Calls.{WritesInOrderAfter}
use Rattle.raft_log.specs.DeviceCalls.{bytes_of, key_of}
use Rattle.raft_log.specs.DurableViews.{durable_copies, durable_disk, durable_fault, durable_state}
use Rattle.raft_log.specs.Rules.{StandsForState, Stores}
use Rattle.raft_log.specs.Stored.{Kept, Put, Stored, after_put}
use Rattle.raft_log.proofs.AllowedPuts.{step}
use Rattle.raft_log.proofs.States.{image_stands, old_or_new}

-- a map after a put that is allowed
module _ (map : ℕ → List ℕ) (s : Stored) (next : Option Kept) (put : Put) (key : ℕ) (bytes : List ℕ) (is_key : key ≡ key_of put s) (is_bytes : bytes ≡ bytes_of put)
    (has : Stores map s) (at : IsNext map s next) (allowed : IsAllowed put s next) where
  -- the map after the put stores the state after it
  pub put_stores : Stores (put_in map key bytes) (after_put put s)
  put_stores = subst (λ k. Stores (put_in map k bytes) (after_put put s)) (sym is_key) (subst (λ v. Stores (put_in map (key_of put s) v) (after_put put s)) (sym is_bytes) (step map s next put has at allowed).0)

  -- so does each map that is equal to it
  pub now_stores : (map' : ℕ → List ℕ) → ((k : ℕ) → map' k ≡ put_in map key bytes k) → Stores map' (after_put put s)
  now_stores map' each = subst (λ m. Stores m (after_put put s)) (λ i k. sym (each k) i) put_stores

-- a change that may be made is an allowed put
pub allowed_change : (change : Change) (s : Stored) → MayMake change s → FitsBytes change s → IsAllowed (put_of change s) s (next_for change)
allowed_change (Term term) s may fits = (may, fits)
allowed_change (Vote node) s may fits = may
allowed_change (Next entry origin) s may fits = (may.0, may.1.limit, fits)
allowed_change (Longer entry origin) s may fits =
    inr (record { kept = record { entry = entry; origin = origin }; there = refl; is = refl; origins_are = refl; room = may.0; follows = may.1; limit = may.2 })
allowed_change (Shorter place) s may fits = inl (record { place = place; is = refl; origins_are = refl; kept = may.0; within = may.1 })
allowed_change (Commit place) s may fits = may
allowed_change (Origin place) s may fits = (may.0, fits)
allowed_change Version s may fits = may

-- the store puts these bytes at this key
module _ {D : Type 0} {disk : Ghosts D} (next : Option Kept) (put : Put) (old new : Durable D disk) (key : ℕ) (bytes : List ℕ)
    (is_key : key ≡ key_of put (durable_state old)) (is_bytes : bytes ≡ bytes_of put)
    (at : IsNext (store_map old.store) (durable_state old) next) (allowed : IsAllowed put (durable_state old) next) where
  -- its device calls
  abbrev pub MadeAt : ℕ → List ℕ → Bool → Type 0
  MadeAt key bytes ok = durable_fault old ≡ None → Makes disk.does (put_calls key (1 - durable_copies old key) bytes) ok (durable_disk old) (durable_disk new)

  made_of : (ok : Bool) → MadeAt key bytes ok → MadeAt (key_of put (durable_state old)) (bytes_of put) ok
  made_of ok made = subst (λ k. MadeAt k (bytes_of put) ok) is_key (subst (λ b. MadeAt key b ok) is_bytes made)

  -- a put that failed wrote all of it or nothing
  pub put_failed : {T : Type 0} (result : Result T Fault) (fault : Fault) → result ≡ Err fault → disk.tells (durable_disk new) ≡ disk.tells (durable_disk old) → durable_state new ≡ durable_state old
      → (durable_fault old ≡ None → disk.tells (durable_disk old) ≡ true → (image : List ℕ) → MayLeave (disk.contents (durable_disk new)) image
      → StandsFor image (store_map old.store) ⊎ StandsFor image (put_in (store_map old.store) key bytes))
      → MadeAt key bytes false → WritesInOrderAfter next (put ∷ []) old new (is_ok result)
  put_failed {T} result fault is tells same left_either made = subst (λ (r : Result T Fault). WritesInOrderAfter next (put ∷ []) old new (is_ok r)) (sym is) (record {
    state = λ done. absurd (cc done);
    durable = λ works done. absurd (cc done);
    cut = λ works failed. inl (record { state = same; images = λ told. stop works (sym tells ∙ told) });
    stop = stop;
    made = made_of false made;
    copies = λ done. absurd (cc done);
    allowed = λ done. absurd (cc done);
    tried = λ failed. record { tried = put ∷ []; others = []; are = refl; allowed = (allowed, tt); made = made_of false made };
  }) where
    stop : durable_fault old ≡ None → disk.tells (durable_disk old) ≡ true → (image : List ℕ) → MayLeave (disk.contents (durable_disk new)) image
        → StandsForState image (durable_state old) ⊎ StandsForState image (after_put put (durable_state old))
    stop works told image left = old_or_new image (store_map old.store) (put_in (store_map old.store) key bytes) (durable_state old) (after_put put (durable_state old)) (old.stored works)
        (put_stores (store_map old.store) (durable_state old) next put key bytes is_key is_bytes (old.stored works) at allowed) (left_either works told image left)

  -- a put that was done
  pub put_done : durable_fault new ≡ None → durable_state new ≡ after_put put (durable_state old)
      → (disk.tells (durable_disk old) ≡ true → AlwaysStandsFor (disk.contents (durable_disk new)) (store_map new.store))
      → MadeAt key bytes true
      → ((k : ℕ) → durable_copies new k ≡ turned key (durable_copies old) k)
      → WritesInOrderAfter next (put ∷ []) old new true
  put_done works state always made copies = record {
    state = λ done. state;
    durable = λ works done. stands;
    cut = λ works failed. absurd (cc failed);
    stop = λ works told image left. inr (subst (λ s. StandsForState image s) state (stands told image left));
    made = made_of true made;
    copies = λ done. subst (λ k. durable_copies new ≡ turned k (durable_copies old)) is_key (λ i. λ k. copies k i);
    allowed = λ done. (allowed, tt);
    tried = λ failed. absurd (cc failed);
  } where
    stands : disk.tells (durable_disk old) ≡ true → (image : List ℕ) → MayLeave (disk.contents (durable_disk new)) image → StandsForState image (durable_state new)
    stands told image left = image_stands image (store_map new.store) (durable_state new) (always told image left) (new.stored works)
