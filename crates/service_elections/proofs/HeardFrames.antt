-- Frames on their way to a party in a calm, with what holds of each and of the moment since when it is on the bus.
use Rattle.std.proofs.Common.{◌≡◌, ℕ, ◌+◌, ◌≤◌, arith, List, [], ◌∷◌, ◌++◌, drop, length, length-append, sym, subst, Some}
use Rattle.std.specs.Prelude.{⊤, ◌-◌}
use Rattle.std.proofs.lemmas.List.{get_or_append_left, get_or_at}
use Rattle.raft_model.specs.Lists.{In}
use Rattle.bus_rows.specs.declared.row.Row.{Row}
use Rattle.transfer_tx.specs.Queue.{Queued}
use Rattle.service_leader.proofs.FramesFly.{so_after}
use Rattle.service_alone.specs.Calm.{IsNext, NoneIsLate, OnItsWay, Pace}
use Rattle.service_calm.specs.Calm.{Device as OfDevice, IsCalmRow, Member as OfMember, Party, Traffic, on_way_after}
use Rattle.bus_spec.specs.Allocatees.{next_from}
use Rattle.bus_spec.specs.Cluster.{Cluster, after_row, frame_at, no_frame}
use Rattle.bus_spec.specs.Members.{next_frame}

-- ---- the frames of the bus

still_at : (frames : List Queued) (g : Queued) (k : ℕ) → 1 ≤ k → k ≤ length frames → frame_at (frames ++ g ∷ []) k ≡ frame_at frames k
still_at frames g k low high = get_or_append_left frames (g ∷ []) no_frame (k - 1) (omega (arith, low, high))

last_at : (frames : List Queued) (g : Queued) → frame_at (frames ++ g ∷ []) (length frames + 1) ≡ g
last_at frames g = get_or_at frames g [] no_frame (length frames + 1 - 1) (omega arith)

-- ---- those on their way

-- what may hold of a moment and a frame
module _ (Holds : ℕ → Queued → Type 0) where
  -- it holds of each of these frames, and of when it came to the bus
  abbrev pub AreOnWay : List Queued → List OnItsWay → Type 0
  AreOnWay frames [] = ⊤
  AreOnWay frames (way ∷ ways) = (1 ≤ way.number) × (way.number ≤ length frames) × Holds way.since (frame_at frames way.number) × AreOnWay frames ways

  -- one more frame on the bus changes nothing of them
  on_more : (frames : List Queued) (g : Queued) (ways : List OnItsWay) → AreOnWay frames ways → AreOnWay (frames ++ g ∷ []) ways
  on_more frames g [] h = h
  on_more frames g (way ∷ ways) h = (
    h.0,
    let high = h.1 in omega (arith, high, length-append frames (g ∷ [])),
    subst (Holds way.since) (sym (still_at frames g way.number h.0 h.1)) h.2,
    on_more frames g ways h.3,
  )

  -- or it is on its way too
  on_one : (frames : List Queued) (g : Queued) (since : ℕ) (ways : List OnItsWay) → Holds since g → AreOnWay frames ways
      → AreOnWay (frames ++ g ∷ []) (ways ++ (record { number = length frames + 1; since = since }) ∷ [])
  on_one frames g since [] is h = (
    omega arith,
    omega (arith, length-append frames (g ∷ [])),
    subst (Holds since) (sym (last_at frames g)) is,
    tt,
  )
  on_one frames g since (way ∷ ways) is h = (
    h.0,
    let high = h.1 in omega (arith, high, length-append frames (g ∷ [])),
    subst (Holds way.since) (sym (still_at frames g way.number h.0 h.1)) h.2,
    on_one frames g since ways is h.3,
  )

  drop_first : (frames : List Queued) (ways : List OnItsWay) → AreOnWay frames ways → AreOnWay frames (drop 1 ways)
  drop_first frames [] h = h
  drop_first frames (way ∷ ways) h = h.3

  -- it holds of the one that comes next, and of a moment that is at most the delay ago
  pub next_comes : (frames : List Queued) (k : ℕ) (ways : List OnItsWay) (at delay : ℕ) → IsNext k ways → NoneIsLate at delay ways → AreOnWay frames ways
      → (since : ℕ) × (at ≤ since + delay) × Holds since (frame_at frames k)
  next_comes frames k [] at delay is_next late h = absurd is_next
  next_comes frames k (way ∷ ways) at delay is_next late h = (way.since, late.0, subst (λ (n : ℕ). Holds way.since (frame_at frames n)) (sym is_next) h.2)

  module _ (group : List Party) (clocks : Party → ℕ) (pace : Pace) (traffic : Traffic) (w : Cluster) (flies : (party : Party) → AreOnWay w.frames (traffic.to party))
      (moment : ℕ) (from_member : (n : ℕ) (g : Queued) → In (OfMember n) group → next_frame (w.member n).status ≡ Some g → Holds moment g)
      (from_device : (a : ℕ) (g : Queued) → In (OfDevice a) group → next_from (w.allocatee a) ≡ Some g → Holds moment g) where
    -- so it is after each calm row
    pub on_way_then : (row : Row) → IsCalmRow group clocks pace traffic w moment row → (party : Party)
        → AreOnWay (after_row w row).frames (on_way_after moment w row party (traffic.to party))
    on_way_then row calm = so_after AreOnWay (Holds moment) group clocks pace traffic w moment (drop_first w.frames) (on_more w.frames) (λ g. on_one w.frames g moment)
        flies row calm (λ n g i is e. from_member n g i e) (λ a g i is e. from_device a g i e)
