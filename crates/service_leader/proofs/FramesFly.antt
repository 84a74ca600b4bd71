-- What is on its way in a calm is of one kind, where all that the parties send is.
use Rattle.std.proofs.Common.{◌≡◌, ℕ, Bool, true, false, not, List, [], ◌∷◌, ◌++◌, refl, sym, subst, inl, inr, Option, None, Some}
use Rattle.std.specs.Prelude.{◌==◌, drop, is_some, if◌then◌else◌}
use Rattle.raft_model.specs.Lists.{In}
use Rattle.bus_rows.specs.declared.row.Row.{Row}
use Rattle.bus_rows.specs.declared.row.Row.TheVariants.{AEnd, AOpen, ARx, ASend, ATick, Crash, Ext, Fault, Open, Rx, Send, Tick}
use Rattle.transfer_tx.specs.Queue.{Queued}
use Rattle.service_alone.specs.Calm.{IsNext, OnItsWay, Pace, next_on_bus}
use Rattle.service_calm.specs.Calm.{Device as OfDevice, IsCalmRow, Member as OfMember, Party, Traffic, on_way_after}
use Rattle.service_calm.proofs.Ways.{Flying, flying_more, flying_other}
use Rattle.bus_spec.specs.Allocatees.{next_from}
use Rattle.bus_spec.specs.Cluster.{Cluster, after_row, frame_at, in_list}
use Rattle.bus_spec.specs.Members.{next_frame}

-- ---- calm row by calm row

-- frames on their way that are so stay so as one frame more is on the bus, or on its way, or as the first has come
module _ (AreSo : List Queued → List OnItsWay → Type 0) (IsSo : Queued → Type 0) (group : List Party) (clocks : Party → ℕ) (pace : Pace) (traffic : Traffic)
    (w : Cluster) (moment : ℕ) (drop_first : (ways : List OnItsWay) → AreSo w.frames ways → AreSo w.frames (drop 1 ways))
    (on_more : (g : Queued) (ways : List OnItsWay) → AreSo w.frames ways → AreSo (w.frames ++ g ∷ []) ways)
    (on_one : (g : Queued) (ways : List OnItsWay) → IsSo g → AreSo w.frames ways → AreSo (w.frames ++ g ∷ []) (ways ++ next_on_bus moment w ∷ []))
    (flies : (party : Party) → AreSo w.frames (traffic.to party)) where
  -- such a frame comes to the bus: it is on its way to the party, or the party sent it
  goes_out : (g : Queued) → IsSo g → (mine : Bool) (party : Party) → (o : Option Queued) → o ≡ Some g
      → AreSo (w.frames ++ in_list o) (if not mine then traffic.to party ++ next_on_bus moment w ∷ [] else traffic.to party)
  goes_out g is mine party o e = subst (λ (other : Option Queued). AreSo (w.frames ++ in_list other)
      (if not mine then traffic.to party ++ next_on_bus moment w ∷ [] else traffic.to party)) (sym e) (by mine)
    where
      by : (b : Bool) → AreSo (w.frames ++ g ∷ []) (if not b then traffic.to party ++ next_on_bus moment w ∷ [] else traffic.to party)
      by true = on_more g (traffic.to party) (flies party)
      by false = on_one g (traffic.to party) is (flies party)

  -- there is one
  some_goes : (o : Option Queued) → is_some o ≡ true → (g : Queued) × (o ≡ Some g)
  some_goes None e = absurd (cc (e))
  some_goes (Some g) e = (g, refl)

  comes : (mine : Bool) (party : Party) → AreSo w.frames (if mine then drop 1 (traffic.to party) else traffic.to party)
  comes true party = drop_first (traffic.to party) (flies party)
  comes false party = flies party

  -- so they are after each calm row, where the frame that goes out is so
  pub so_after : (row : Row) → IsCalmRow group clocks pace traffic w moment row
      → ((n : ℕ) (g : Queued) → In (OfMember n) group → row ≡ Send n → next_frame (w.member n).status ≡ Some g → IsSo g)
      → ((a : ℕ) (g : Queued) → In (OfDevice a) group → row ≡ ASend a → next_from (w.allocatee a) ≡ Some g → IsSo g) → (party : Party)
      → AreSo (after_row w row).frames (on_way_after moment w row party (traffic.to party))
  so_after (Tick n ms word) calm of_member of_device party = flies party
  so_after (Rx n k ms) calm of_member of_device (OfMember m) = comes (n == m) (OfMember m)
  so_after (Rx n k ms) calm of_member of_device (OfDevice b) = flies (OfDevice b)
  so_after (Send n) calm of_member of_device party =
      let some = some_goes (next_frame (w.member n).status) calm.1 in by some.0 some.1 (of_member n some.0 calm.0 refl some.1) party
    where
      by : (g : Queued) → next_frame (w.member n).status ≡ Some g → IsSo g → (party : Party)
          → AreSo (after_row w (Send n)).frames (on_way_after moment w (Send n) party (traffic.to party))
      by g e is (OfMember m) = goes_out g is (n == m) (OfMember m) (next_frame (w.member n).status) e
      by g e is (OfDevice b) = goes_out g is false (OfDevice b) (next_frame (w.member n).status) e
  so_after (ATick a ms word) calm of_member of_device party = flies party
  so_after (ARx a k ms word) calm of_member of_device (OfMember m) = flies (OfMember m)
  so_after (ARx a k ms word) calm of_member of_device (OfDevice b) = comes (a == b) (OfDevice b)
  so_after (ASend a) calm of_member of_device party =
      let some = some_goes (next_from (w.allocatee a)) calm.1 in by some.0 some.1 (of_device a some.0 calm.0 refl some.1) party
    where
      by : (g : Queued) → next_from (w.allocatee a) ≡ Some g → IsSo g → (party : Party)
          → AreSo (after_row w (ASend a)).frames (on_way_after moment w (ASend a) party (traffic.to party))
      by g e is (OfMember m) = goes_out g is false (OfMember m) (next_from (w.allocatee a)) e
      by g e is (OfDevice b) = goes_out g is (a == b) (OfDevice b) (next_from (w.allocatee a)) e
  so_after (Open n told ms word) calm of_member of_device party = absurd calm
  so_after (Ext frame) calm of_member of_device party = absurd calm
  so_after (Crash n calls pattern) calm of_member of_device party = absurd calm
  so_after (Fault n call) calm of_member of_device party = absurd calm
  so_after (AOpen a uid pref ms word) calm of_member of_device party = absurd calm
  so_after (AEnd a) calm of_member of_device party = absurd calm

-- ---- each frame by itself

module _ (Is : Queued → Type 0) where
  -- the frames on their way are so
  abbrev pub Fly : List Queued → List OnItsWay → Type 0
  Fly frames ways = Flying Is 0 frames ways []

  drop_first : (frames : List Queued) (ways : List OnItsWay) → Fly frames ways → Fly frames (drop 1 ways)
  drop_first frames [] h = h
  drop_first frames (way ∷ ways) (low, high, inl o) = o.1
  drop_first frames (way ∷ ways) (low, high, inr o) = absurd (cc (o.2))

  -- the one that comes next is
  pub next_is : (frames : List Queued) (k : ℕ) (ways : List OnItsWay) → IsNext k ways → Fly frames ways → Is (frame_at frames k)
  next_is frames k [] is_next h = absurd is_next
  next_is frames k (way ∷ ways) is_next (low, high, inl o) = subst (λ (n : ℕ). Is (frame_at frames n)) (sym is_next) o.0
  next_is frames k (way ∷ ways) is_next (low, high, inr o) = absurd (cc (o.2))

  -- so they are after each calm row
  pub fly_after : (group : List Party) (clocks : Party → ℕ) (pace : Pace) (traffic : Traffic) (w : Cluster)
      → ((party : Party) → Fly w.frames (traffic.to party)) → (moment : ℕ) (row : Row) → IsCalmRow group clocks pace traffic w moment row
      → ((n : ℕ) (g : Queued) → In (OfMember n) group → row ≡ Send n → next_frame (w.member n).status ≡ Some g → Is g)
      → ((a : ℕ) (g : Queued) → In (OfDevice a) group → row ≡ ASend a → next_from (w.allocatee a) ≡ Some g → Is g) → (party : Party)
      → Fly (after_row w row).frames (on_way_after moment w row party (traffic.to party))
  fly_after group clocks pace traffic w flies moment = so_after Fly Is group clocks pace traffic w moment (drop_first w.frames)
      (λ g ways h. flying_more Is 0 w.frames g ways [] h) (λ g ways is h. flying_other Is 0 w.frames g moment ways [] is h) flies
