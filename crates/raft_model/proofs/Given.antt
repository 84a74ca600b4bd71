-- What the ledger gives and keeps back, by the laws of injective logs.
use Rattle.std.proofs.Common.{◌≡◌, ◌≢◌, ℕ, ◌<◌, ◌≤◌, List, length, take, get_or, sym, ◌∙◌, ap, subst, arith, length-take, get_or-take}
use Rattle.can_frame.specs.declared.entry.Entry.{Entry}
use Rattle.can_frame.specs.Log.{IsInjective, IsPair, IsReservation, blank}
use Rattle.can_frame.specs.Zeros.{zeros}
use Rattle.can_frame.proofs.Logs.{pair_of_device}
use Rattle.raft_model.specs.Lists.{In}
use Rattle.raft_model.specs.Messages.{Pair}
use Rattle.raft_model.specs.Messages.Message.{Pairs}
use Rattle.raft_model.specs.Server.{Store, committed}
use Rattle.raft_model.specs.Runs.{World, InEveryRun, initial_world, run}
use Rattle.raft_model.specs.Invariants.{Invariants, SoundStore}
use Rattle.raft_model.specs.Safety.{IsSafe, IsGivenOnce}
use Rattle.raft_model.proofs.Run.{keeps_invariants, is_safe}

module _ (pairs : (log : List Entry) (i j : ℕ) → IsInjective log → i < length log → j < length log → i ≢ j → IsPair (get_or log i (blank 0))
    → IsPair (get_or log j (blank 0))
    → ((get_or log i (blank 0)).node ≢ (get_or log j (blank 0)).node) × ((get_or log i (blank 0)).uid ≢ (get_or log j (blank 0)).uid))
    (reserved : (log : List Entry) (i j : ℕ) → IsInjective log → i < length log → j < length log → IsReservation (get_or log i (blank 0))
    → IsPair (get_or log j (blank 0)) → (get_or log i (blank 0)).node ≢ (get_or log j (blank 0)).node) where
  -- of a told pair the place in the ledger
  told : (world : World) → Invariants world → IsSafe world → (pair : Pair) → In (Pairs pair) world.bag
      → (i : ℕ) × (i < length world.ledger.entries) × IsPair (get_or world.ledger.entries i (blank 0))
      × ((get_or world.ledger.entries i (blank 0)).uid ≡ pair.uid) × ((get_or world.ledger.entries i (blank 0)).node ≡ pair.node)
  told world holds safe pair there = (
    place,
    omega (arith, below, counted, ap length front, length-take (length (committed store)) world.ledger.entries),
    subst IsPair (sym same)
        (pair_of_device (get_or store.log place (blank 0)) (sound.well_formed place (omega (arith, below, sound.commit)))
        (λ e. found.4 (sym found.2 ∙ e))),
    ap (λ (e : Entry). e.uid) same ∙ found.2,
    ap (λ (e : Entry). e.node) same ∙ found.3,
  )
    where
      store : Store
      store = (world.server pair.from).store

      sound : SoundStore store
      sound = holds.stores pair.from

      found : (place : ℕ) × (place < store.commit) × ((get_or store.log place (blank 0)).uid ≡ pair.uid)
          × ((get_or store.log place (blank 0)).node ≡ pair.node) × (pair.uid ≢ zeros) × (1 ≤ pair.node)
      found = safe.pairs pair there

      place : ℕ
      place = found.0

      below : place < store.commit
      below = found.1

      counted : length (committed store) ≡ store.commit
      counted = omega (arith, sound.commit, length-take store.commit store.log)

      front : take (length (committed store)) world.ledger.entries ≡ committed store
      front = safe.committed_here pair.from

      same : get_or world.ledger.entries place (blank 0) ≡ get_or store.log place (blank 0)
      same = sym (get_or-take (length (committed store)) world.ledger.entries place (blank 0) (omega (arith, below, counted)))
          ∙ (ap (λ (l : List Entry). get_or l place (blank 0)) front ∙ get_or-take store.commit store.log place (blank 0) below)

  pub given_once : InEveryRun IsGivenOnce
  given_once members events lawful = record {
    pairs = λ i j. pairs world.ledger.entries i j safe.injective;
    reserved = λ i j. reserved world.ledger.entries i j safe.injective;
    told = told world holds safe;
    kept_back = λ pair i there below kept same.
        let place = told world holds safe pair there in
        reserved world.ledger.entries i place.0 safe.injective below place.1 kept place.2 (same ∙ sym place.4);
  }
    where
      world : World
      world = run (initial_world members) events

      holds : Invariants world
      holds = keeps_invariants members events lawful

      safe : IsSafe world
      safe = is_safe members events lawful
