-- Whatever happened, an allocator that is alone comes to rest once it is started, and then serves each device in time.
use Rattle.std.proofs.Common.{◌≡◌, ℕ, ◌+◌, ◌≤◌, Bool, true, false, List, [], ◌∷◌, length, inl, refl, sym, ◌∙◌, ap, subst, arith, None}
use Rattle.std.specs.Prelude.{◌&&◌, ◌||◌, if◌then◌else◌}
use Rattle.can_frame.specs.declared.entry.Entry.{Entry}
use Rattle.can_frame.specs.Log.{HasPair}
use Rattle.id_selector.specs.Choice.{IsChoice, chosen}
use Rattle.raft_model.specs.Invariants.{SoundStore}
use Rattle.raft_model.specs.Lists.{In}
use Rattle.raft_model.specs.Server.{Store}
use Rattle.raft_model.proofs.Stored.{last_below}
use Rattle.bus_rows.specs.declared.row.Row.{Row}
use Rattle.bus_rows.specs.declared.row.Row.TheVariants.{AOpen, Crash, Open}
use Rattle.alloc_spec.specs.AllocatorState.{AllocatorState}
use Rattle.alloc_spec.specs.Rules.{opening_by, rules_by}
use Rattle.bus_agreement.specs.Allocatees.{Holds}
use Rattle.service_alone.specs.Alone.{MayBeServed}
use Rattle.service_steps.specs.ComingBack.{HasGrown}
use Rattle.bus_rows.specs.Timed.{rows_in}
use Rattle.service_alone.specs.Calm.{HappensBy, HappensToDevice, HasComeToRest, HasPlaceFor, HasServed, HasSettled, IsReady, queue_of}
use Rattle.service_alone.specs.CalmRecovery.{HasSettledWith, QuietStart, no_own_traffic, settled_from, world_opened, world_then}
use Rattle.service_alone.proofs.CalmPhases.{CalmLaws}
use Rattle.service_alone.proofs.CalmServed.{serves_known, serves_new}
use Rattle.service_alone.proofs.Choosing.{grown_length, grown_pair, still_left, still_new}
use Rattle.service_alone.proofs.Fronts.{so_happens}
use Rattle.service_alone.proofs.Leading.{Laws}
use Rattle.service_alone.proofs.Members.{IsDown, IsUp, opens_up}
use Rattle.service_alone.proofs.Reached.{IsReached, IsShown, reaches, stopped_sound, stopped_store}
use Rattle.service_alone.proofs.Recovering.{Ends, Phase, ends, ready_at_last, rests_soon, settles_at_end}
use Rattle.service_alone.proofs.Scenes.{it_is, own_is}
use Rattle.service_alone.proofs.Starting.{HasWholeUids, Waits}
use Rattle.bus_spec.specs.declared.unlawful.Unlawful.TheVariants.{NoNode, Running, Stopped}
use Rattle.bus_spec.specs.Cluster.{Cluster, after_row, after_rows, cluster, rules_of, world_of}
use Rattle.bus_spec.specs.Lawful.{DoNoHarm, AreLawful, because, cause, or_else}
use Rattle.bus_spec.specs.Members.{Member, after_crash, after_opening, is_running}
use Rattle.bus_spec.specs.Members.MemberStatus.{Down}
use Rattle.disk_model.specs.Memory.{nothing_set}
use Rattle.outside.specs.declared.pattern.Pattern.{Pattern}
use Rattle.std.specs.Prelude.{not}

-- a member that runs is stopped by one row
pub stops_at_once : (n : ℕ) (w : Cluster) → w.ids ≡ n ∷ [] → (pattern : Pattern) → is_running (w.member n).status ≡ true
    → (cause w (Crash n 0 pattern) ≡ None) × (((after_row w (Crash n 0 pattern)).member n).status ≡ Down)
    × ((faults : ℕ) × (((after_row w (Crash n 0 pattern)).member n).disk.calls ≡ nothing_set faults))
stops_at_once n w ids pattern runs = (
  λ i. or_else (because NoNode (not (it_is n 1 w ids i))) (because Stopped (not (runs i))),
  ap (λ (x : Member). x.status) (own_is w n (after_crash 0 pattern (w.member n))),
  ((w.member n).disk.calls.faults, ap (λ (x : Member). x.disk.calls) (own_is w n (after_crash 0 pattern (w.member n)))),
)

none_owed : (b : Bool) → ((b && false) || false) ≡ false
none_owed true = refl
none_owed false = refl

-- a unique ID that was new has a place in the log that has grown
place_then : (n : ℕ) (store : Store) (log : List Entry) (uid : List ℕ) → HasGrown store.log log → MayBeServed n store uid → HasPlaceFor n log uid
place_then n store log uid grown may = record {
  whole = may.whole;
  device = may.device;
  new = still_new store.log log uid may.device grown may.new;
  left = (may.left.0, still_left n store.log log may.left.0 grown may.left.1);
  room = let a = grown_length store.log log grown in let b = may.room in omega (arith, a, b);
}

module _ (n : ℕ) (laws : Laws (n ∷ [])) (rows : List Row) (harmless : DoNoHarm (cluster (n ∷ [])) rows)
    (ids : (world_of (n ∷ []) rows).ids ≡ n ∷ []) (s : QuietStart n rows) where
  abbrev before : Cluster
  before = world_of (n ∷ []) rows

  abbrev moment : ℕ
  moment = s.start + s.clocks.allocator

  abbrev opening : Row
  opening = Open n s.told moment s.word

  -- ---- what it has stored

  reached : IsReached (n ∷ []) before
  reached = record { rows = rows; harmless = harmless; is = refl }

  shown : IsShown before
  shown = laws.shown before reached

  listed : In n before.ids
  listed = subst (λ (l : List ℕ). In n l) (sym ids) (inl refl)

  down : IsDown s.store (before.member n)
  down = record { status = s.may.stopped; quiet = record { faults = s.may.faults; calls = s.may.disk }; found = s.may.stored }

  sound : SoundStore s.store
  sound = stopped_sound before n s.store listed shown down

  whole : HasWholeUids s.store.log
  whole entry i = ((shown.writable.stores n).entries entry
      (subst (λ (store : Store). In entry store.log) (sym (stopped_store before n s.store listed shown down)) i)).fits.uid

  -- ---- it is opened

  abbrev opened : Bool → AllocatorState
  opened told = opening_by n (rules_by 1 (if told then n ∷ [] else [])) s.store moment s.word

  waits_at_first : (told : Bool) → Waits n moment s.word s.store (opened told)
  waits_at_first true = record {
    nobody = record { me = refl; size = refl; discovery = none_owed _; watch = refl; accepted = refl };
    raft_server = refl;
    since_is = refl;
    word_is = refl;
    sending = λ node. refl;
    few = omega arith;
  }
  waits_at_first false = record {
    nobody = record { me = refl; size = refl; discovery = refl; watch = refl; accepted = refl };
    raft_server = refl;
    since_is = refl;
    word_is = refl;
    sending = λ node. refl;
    few = omega arith;
  }

  up : IsUp (opened s.told) ((world_opened n rows s).member n)
  up = subst (IsUp (opened s.told)) (sym (own_is before n (after_opening n (rules_of before.ids s.told) moment s.word (before.member n))))
      (subst (λ (list : List ℕ). IsUp (opened s.told) (after_opening n (rules_of list s.told) moment s.word (before.member n))) (sym ids)
      (opens_up laws.keeps_store n (rules_by 1 (if s.told then n ∷ [] else [])) moment s.word s.store (before.member n) down))

  abbrev PhaseOf : Cluster → Type 0
  PhaseOf w = Phase n s.clocks.allocator s.start s.word s.store s.pace (no_own_traffic s.start) w

  at_first : PhaseOf (world_opened n rows s)
  at_first = (
    opened s.told,
    record { ids = ids; up = up; now = omega arith; status = omega arith; ticked = omega arith; waits = omega arith },
    inl (record { waiting = waits_at_first s.told; early = omega arith }),
  )

  -- ---- it comes to rest

  its_end : Ends n s.clocks.allocator s.start s.word s.store s.pace s.may.term sound.commit (last_below s.store.log s.store.term sound.rising) s.may.room whole
      s.last (world_opened n rows s) s.whole
  its_end = ends n s.clocks.allocator s.start s.word s.store s.pace s.may.term sound.commit (last_below s.store.log s.store.term sound.rising) s.may.room whole
      s.last (no_own_traffic s.start) (world_opened n rows s) s.whole at_first s.quiet

  pub starts_lawfully : AreLawful before (opening ∷ rows_in s.whole)
  starts_lawfully = (
    λ i. or_else (because NoNode (not (it_is n 1 before ids i))) (because Running (is_running (s.may.stopped i))),
    its_end.lawful,
  )

  pub settles_in_time : settled_from n rows s ≤ s.last → HasSettledWith n s.store.log (s.last + s.clocks.allocator) (world_then n rows s)
  settles_in_time = settles_at_end n s.clocks.allocator s.start s.word s.store s.pace s.may.term sound.commit (last_below s.store.log s.store.term sound.rising) s.may.room whole
      s.last (no_own_traffic s.start) (world_opened n rows s) s.whole at_first s.quiet

  pub gets_ready : s.pace.delay ≤ 2000 → settled_from n rows s + s.pace.delay ≤ s.last
      → (log : List Entry) × HasGrown s.store.log log × IsReady n log (s.last + s.clocks.allocator) (world_then n rows s)
  gets_ready short late = ready_at_last n s.clocks.allocator s.start s.word s.store s.pace s.may.term sound.commit (last_below s.store.log s.store.term sound.rising) s.may.room whole
      s.last (no_own_traffic s.start) (world_opened n rows s) s.whole at_first s.quiet short late (omega arith)

  pub comes_to_rest_soon : settled_from n rows s + s.pace.delay ≤ s.last
      → HappensBy s.start (settled_from n rows s + s.pace.delay) (world_opened n rows s) s.whole
      (λ moment. HasComeToRest n s.store.log (moment + s.clocks.allocator))
  comes_to_rest_soon late = rests_soon n s.clocks.allocator s.start s.word s.store s.pace s.may.term sound.commit (last_below s.store.log s.store.term sound.rising) s.may.room whole
      s.last (no_own_traffic s.start) (world_opened n rows s) s.whole at_first s.quiet late (omega arith) (inl (ap queue_of up.status))

  -- ---- and it serves each device in time

  module _ (members : (w : Cluster) (list : List Row) → (after_rows w list).ids ≡ w.ids) (calm : CalmLaws) (low : 1 ≤ n) (high : n ≤ 125) where
    abbrev then_w : Cluster
    then_w = world_then n rows s

    shown_then : IsShown then_w
    shown_then = laws.shown then_w (reaches (n ∷ []) before (opening ∷ rows_in s.whole) reached starts_lawfully)

    ids_then : then_w.ids ≡ n ∷ []
    ids_then = members (world_opened n rows s) (rows_in s.whole) ∙ ids

    pub recovers_for_new : ((free : List Bool) (preferred : ℕ) → IsChoice free preferred (chosen free preferred)) → (uid : List ℕ) → MayBeServed n s.store uid
        → s.pace.delay ≤ 2000 → settled_from n rows s + s.pace.delay ≤ s.last
        → HappensToDevice n then_w s.last s.clocks uid (λ a now later. (log : List Entry) × HasGrown s.store.log log × HasServed n log uid a now later)
    recovers_for_new choice uid may short late = λ a preferred word pace rows_then at_place few quick calm_then long.
        let h = gets_ready short late in
        so_happens s.last (s.last + 2100) (after_row then_w (AOpen a uid preferred (s.last + s.clocks.device) word)) rows_then
        (λ moment. HasServed n h.0 uid a (moment + s.clocks.allocator))
        (λ moment later. (log : List Entry) × HasGrown s.store.log log × HasServed n log uid a (moment + s.clocks.allocator) later)
        (λ moment v served. (h.0, h.1, served))
        (serves_new calm choice n low high then_w shown_then ids_then h.0 s.last s.clocks h.2 uid (place_then n s.store h.0 uid h.1 may)
        a preferred word pace rows_then at_place few quick calm_then long)

    pub recovers_for_known : (uid : List ℕ) (node : ℕ) → length uid ≡ 16 → HasPair s.store.log uid node → s.pace.delay ≤ 2000 → settled_from n rows s + s.pace.delay ≤ s.last
        → HappensToDevice n then_w s.last s.clocks uid (λ a now later. Holds later a uid node × HasSettledWith n s.store.log now later)
    recovers_for_known uid node sixteen pair short late = λ a preferred word pace rows_then at_place few quick calm_then long.
        let h = gets_ready short late in
        so_happens s.last (s.last + 2100) (after_row then_w (AOpen a uid preferred (s.last + s.clocks.device) word)) rows_then
        (λ moment later. Holds later a uid node × HasSettled n h.0 (moment + s.clocks.allocator) later)
        (λ moment later. Holds later a uid node × HasSettledWith n s.store.log (moment + s.clocks.allocator) later)
        (λ moment v told. (told.0, (h.0, h.1, told.1)))
        (serves_known calm n low high then_w shown_then ids_then h.0 s.last s.clocks h.2 uid node sixteen
        (grown_pair s.store.log h.0 uid node h.1 pair) a preferred word pace rows_then at_place few quick calm_then long)
