-- A transfer that is sent in a calm comes whole, from the beginning of the calm on.
use Rattle.std.proofs.Common.{◌≡◌, ◌≢◌, ℕ, ◌+◌, ◌*◌, ◌<◌, ◌≤◌, Bool, List, [], ◌∷◌, ◌++◌, arith, inl, refl, sym, subst, Some}
use Rattle.raft_model.specs.Lists.{In}
use Rattle.raft_model.specs.Runs as raft
use Rattle.transfer_tx.specs.Queue.{Queued}
use Rattle.alloc_spec.specs.AllocatorState.{AllocatorState}
use Rattle.alloc_spec.specs.Step.{Event, after_pop, step}
use Rattle.alloc_spec.specs.Transfers.{Offer, SentTransfer}
use Rattle.alloc_spec_laws.specs.Sound.{IsOnTheBus}
use Rattle.bus_agreement.specs.Shows.{Shows}
use Rattle.bus_rows.specs.Timed.{Timed, rows_in}
use Rattle.service_alone.specs.Calm.{Pace, end_of}
use Rattle.service_calm.specs.Calm.{AreCalm, AreRunning, Member, Party, no_traffic}
use Rattle.service_calm.specs.Comes.{AreReady, ComesBy, Delivers, HasMemory, IsHeard, MayComeFirst, Sends, Throughout, sent_by}
use Rattle.service_calm.proofs.Counting.{HasPlaces, ones}
use Rattle.service_calm.proofs.Group.{CalmLaws, IsServer}
use Rattle.service_calm.proofs.Heard.{GetsBy, sent_comes}
use Rattle.service_calm.proofs.MembersHear.{IsReceiving, few_bytes, member_hears, receiver_of, sends_apart}
use Rattle.service_calm.proofs.Pair.{Chain, Expected, FitsIn}
use Rattle.service_calm.proofs.Start.{heard_dest, heard_for, heard_known, server_is, wants, well_in}
use Rattle.service_calm.proofs.Ways.{Waiting}
use Rattle.bus_spec.specs.Cluster.{Cluster, after_row, after_rows, step_of}
use Rattle.bus_spec.specs.Members.MemberStatus.{Up}

module _ (laws : CalmLaws) (ids : List ℕ) (nodes : (p : ℕ) → In p ids → (1 ≤ p) × (p ≤ 125)) (choice : ℕ → Bool) (made : List SentTransfer) (w : Cluster) (run : raft.World)
    (shows : Shows choice made w run) (same : w.ids ≡ ids) (places : (p : ℕ) (t : AllocatorState) → (w.member p).status ≡ Up t → HasPlaces t.ids)
    (group : List Party) (clocks : Party → ℕ) (pace : Pace) (start n m : ℕ) (front rest : List Timed) (timed : Timed) (offer : Offer)
    (listed : (p : ℕ) → In (Member p) group → In p ids) (running : AreRunning group w) (in_n : In (Member n) group) (in_m : In (Member m) group) (apart : n ≢ m)
    (quick : 2 * pace.delay ≤ 2000) (heard : IsHeard m offer.what offer.to) (ready : AreReady n m offer.what offer.to w)
    (calm : AreCalm group clocks pace (no_traffic start) w (front ++ timed ∷ rest)) (memory : Throughout (HasMemory m) w (front ++ timed ∷ rest))
    (sends : Sends n (after_rows w (rows_in front)) timed.row offer) (long : timed.at + 2 * pace.delay < end_of timed.at rest) where
  there : (p : ℕ) → In (Member p) group → In p w.ids
  there p i = subst (λ (l : List ℕ). In p l) (sym same) (listed p i)

  node_of : (p : ℕ) → In (Member p) group → (1 ≤ p) × (p ≤ 125)
  node_of p i = nodes p (listed p i)

  abbrev pub Begins : ℕ → Type 0
  Begins = MayComeFirst n offer.what offer.to ready.receiver

  -- where what the sender makes may come next, in each of the rows
  pub comes_whole : (Mode : AllocatorState → Expected → Type 0) (popped : (t : AllocatorState) (expected : Expected) → Mode t expected → Mode (after_pop t) expected)
      → (Follows : Expected → Cluster → List Timed → Type 0)
      → ((expected : Expected) (v : Cluster) (now : Timed) (later_rows : List Timed) → Follows expected v (now ∷ later_rows) → (t : AllocatorState)
      → (v.member n).status ≡ Up t → IsServer n t → Mode t expected → (event : Event) → step_of v now.row ≡ Some (n, event) → IsOnTheBus event
      → (later : Expected) × Chain Begins expected (ones offer.what offer.to (step t (v.rows + 1) event).step_state.offers) later
      × Mode (step t (v.rows + 1) event).step_state.allocator later × Follows later (after_row v now.row) later_rows)
      → ((expected : Expected) (v : Cluster) (now : Timed) (later_rows : List Timed) → Follows expected v (now ∷ later_rows)
      → ((o : Offer) → Sends n v now.row o → ⊥) → Follows expected (after_row v now.row) later_rows)
      → (expected : Expected) → Mode ready.sender expected → ((id : ℕ) → FitsIn Begins expected id → Begins id) → Follows expected w (front ++ timed ∷ rest)
      → ComesBy m (sent_by n (after_rows w (rows_in front)) offer) (timed.at + 2 * pace.delay) (after_rows w (rows_in front)) (timed ∷ rest)
  comes_whole Mode popped Follows steps passes expected mode begins follows =
      let of_n = running n in_n in
      let of_m = running m in_m in
      comes_by (sent_comes laws group clocks pace node_of n in_n (Member m) in_m (sends_apart n m apart) (receiver_of m)
      offer.what offer.to ready.receiver.now quick
      (heard_dest m offer.what offer.to (node_of m in_m) heard) (heard_known m offer.what offer.to heard) (inl (node_of m in_m).0) (heard_for n m offer.what offer.to apart heard)
      (wants laws.frame n m (node_of n in_n) (node_of m in_m) apart offer.to offer.what heard) Begins Mode popped
      (IsReceiving m) (Delivers m) (HasMemory m) (member_hears laws group clocks pace n m apart) Follows steps
      (λ expected v now later_rows follows t up is event is_step. few_bytes offer.what offer.to n t (v.rows + 1) event is) passes
      front rest timed offer refl refl long (no_traffic start) w [] [] expected
      (record {
        sender = ready.sender;
        sender_up = record { status = ready.sends; quiet = record { faults = of_n.faults; calls = of_n.disk } };
        sender_is = server_is ids choice made w run shows places n ready.sender (there n in_n) ready.sends;
        sessions = ready.receiver.sessions;
        now = ready.receiver.now;
        hears = record {
          server = ready.receiver;
          up = record { status = ready.receives; quiet = record { faults = of_m.faults; calls = of_m.disk } };
          its = server_is ids choice made w run shows places m ready.receiver (there m in_m) ready.receives;
          has = refl;
          reads = refl;
        };
        flying = [];
        waiting = [];
        pending = refl;
        flies = refl;
        waits = subst (λ (l : List Queued). Waiting start l []) (sym ready.none_waits) tt;
        since = omega arith;
        mode = mode;
        stage = λ id small fits. begins id fits;
        differ = tt;
        ones_are = λ x i. absurd i;
        past = λ x i. absurd i;
        low = omega arith;
        high = omega arith;
      })
      (well_in ids choice made w run shows places group there running) follows calm memory sends)
    where
      comes_by : GetsBy (Delivers m) (sent_by n (after_rows w (rows_in front)) offer) (timed.at + 2 * pace.delay) (after_rows w (rows_in front)) (timed ∷ rest)
          → ComesBy m (sent_by n (after_rows w (rows_in front)) offer) (timed.at + 2 * pace.delay) (after_rows w (rows_in front)) (timed ∷ rest)
      comes_by by = record { front = by.front; timed = by.timed; rest = by.rest; split = by.split; soon = by.soon; delivers = by.gets }
