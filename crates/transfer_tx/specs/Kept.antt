-- How a sender keeps its queue: in the reverse of the order of going out.
use Rattle.std.specs.Prelude.{◌≡◌, ℕ, zero, suc, ◌<◌, ◌≤◌, List, [], length, insert, slice_index_or}
use Rattle.transfer_tx.specs.Queue.{GoesNext, Queued, blank, id_at}

-- the last n frames to go out, in the order of offering. Each frame was offered behind so many of those that go out
-- after it
abbrev pub offered_of : (ℕ → Queued) → (ℕ → ℕ) → ℕ → List Queued
offered_of frame earlier zero = []
offered_of frame earlier (suc n) = insert (offered_of frame earlier n) (earlier n) (frame n)

-- all frames, in the order of offering
abbrev pub in_order_of_offering : List Queued → List ℕ → List Queued
in_order_of_offering frames earlier =
    offered_of (λ k. slice_index_or frames k blank) (λ k. slice_index_or earlier k 0) (length frames)

-- identifiers fall, and each frame goes out before all those that stand before it
pub record IsInOrder (size : ℕ) (frames : List Queued) (earlier : List ℕ) : Type 0 where
  pub few : length frames ≤ size
  pub most : size ≤ 1024
  pub same : length earlier ≡ length frames
  pub falling : (j k : ℕ) → j ≤ k → k < length frames → id_at frames k ≤ id_at frames j
  pub next : (k : ℕ) → k < length frames →
      GoesNext (offered_of (λ j. slice_index_or frames j blank) (λ j. slice_index_or earlier j 0) (suc k))
      (slice_index_or earlier k 0)
