-- A member that is killed in its opening: the first of the opening's puts are done.
use Rattle.std.proofs.Common.{◌≡◌, ◌≢◌, ℕ, ◌+◌, ◌*◌, Bool, true, false, List, [], ◌∷◌, take, refl, sym, ap, subst, ◌∙◌, arith, None, inl, inr, ◌⊎◌}
use Rattle.std.specs.Prelude.{if◌then◌else◌}
use Rattle.std.proofs.lemmas.List.{take_all}
use Rattle.disk_model.specs.declared.calls.Calls.{Calls}
use Rattle.kv_store.specs.KeyDisk.{KeyDisk}
use Rattle.outside.specs.declared.pattern.Pattern.TheVariants.{Old}
use Rattle.raft_core.specs.StoredPuts.{store_of}
use Rattle.raft_log.specs.KeyDisk.{is_open_on, opening_on}
use Rattle.raft_log.specs.Stored.{Put, Stored, after_puts, opening_puts}
use Rattle.bus_rows.specs.declared.row.Row.TheVariants.{Crash, Open}
use Rattle.alloc_spec.specs.AllocatorState.{AllocatorState}
use Rattle.alloc_spec.specs.Rules.{Rules, opening_by}
use Rattle.bus_spec.specs.Cluster.{Cluster, after_row, rules_of, with_member}
use Rattle.bus_spec.specs.Lawful.{cause}
use Rattle.bus_spec.specs.Members.{Member, after_failed_opening, after_opening, is_running, stopped_with, with_stop_armed}
use Rattle.bus_spec.specs.Members.MemberStatus.{Down, Up}
use Rattle.cmd_node_laws.specs.Traces.{DiesAtOpening, MayOpen, rows_of}
use Rattle.cmd_node_laws.specs.Mirrored.{AreCalm, IsCalm}
use Rattle.cmd_node_laws.proofs.Armed.{AllPut, SomePut, armed, armed_on, behind_opening, opening_behind, opening_stop_is, stop_behind}
use Rattle.cmd_node_laws.proofs.Calm.{stop_calm, stop_store}
use Rattle.cmd_node_laws.proofs.Killed.{IsArmed, all_with, arm_at, others_with, stored_at}
use Rattle.cmd_node_laws.proofs.Killing.{Finishes, arm_lawful, as_stored, finishes_on, stop_running, stop_stopped, stop_told}
use Rattle.cmd_node_laws.proofs.Places.{own_is}
use Rattle.cmd_node_laws.proofs.Rows.{open_lawful}

-- what is stored after so many puts of an opening
abbrev pub opened_in_part : ℕ → Stored → Stored
opened_in_part puts state = after_puts (take puts (opening_puts state)) state

-- ---- the member

-- it is open, and its disk stops later; or it stopped
record GoesOn (x after : Member) (puts : ℕ) : Type 0 where
  server : AllocatorState
  up : after.status ≡ Up server
  left : ℕ
  arm : IsArmed after left
  stored : after.disk.store ≡ opened_in_part puts x.disk.store

record StopsIn (x after : Member) (puts : ℕ) : Type 0 where
  down : after.status ≡ Down
  calm : IsCalm after
  stored : after.disk.store ≡ opened_in_part puts x.disk.store

module _ (n : ℕ) (rules : Rules) (moment word puts : ℕ) (x : Member) (calm : IsCalm x) where
  abbrev arms : Member
  arms = with_stop_armed (4 * puts + 3) Old x

  abbrev faults : ℕ
  faults = x.disk.calls.faults

  abbrev begun : KeyDisk Stored
  begun = armed_on (behind_opening puts) faults x.disk

  disk_is : arms.disk ≡ begun
  disk_is = λ i. record x.disk { unsynced = calm.nothing_unsynced i; calls = record (calm.calls i) { stop_in = sym (opening_stop_is puts) i } }

  abbrev own_puts : List Put
  own_puts = opening_puts x.disk.store

  -- on its disk as it is then
  abbrev opened_on_disk : KeyDisk Stored → Bool → Member
  opened_on_disk disk all_put =
      if all_put then record arms { status = Up (opening_by n rules (store_of disk.store) moment word); disk = disk }
      else after_failed_opening arms disk

  as_begun : after_opening n rules moment word arms ≡ opened_on_disk (opening_on begun) (is_open_on begun)
  as_begun = ap (λ (d : KeyDisk Stored). opened_on_disk (opening_on d) (is_open_on d)) disk_is

  is_up : AllPut own_puts puts x.disk (opening_on begun) faults → GoesOn x (opened_on_disk (opening_on begun) true) puts
  is_up all = record {
    server = opening_by n rules (store_of (opening_on begun).store) moment word;
    up = refl;
    left = all.left;
    arm = record { calls = all.calls ∙ ap (λ (c : Calls). armed (stop_behind all.left) c.faults) (sym all.calls); nothing_unsynced = all.nothing_unsynced; pattern = refl };
    stored = all.store ∙ ap (λ (puts : List Put). after_puts puts x.disk.store) (sym (take_all puts own_puts all.few));
  }

  is_down : SomePut own_puts puts x.disk (opening_on begun) faults → StopsIn x (opened_on_disk (opening_on begun) false) puts
  is_down some = subst (λ (y : Member). StopsIn x y puts) (sym stops) (record {
    down = refl;
    calm = stop_calm Old disk arms;
    stored = stop_store Old disk some.nothing_unsynced ∙ some.store;
  })
    where
      disk : KeyDisk Stored
      disk = opening_on begun

      stops : after_failed_opening arms disk ≡ stopped_with Old disk arms
      stops = ap (λ (b : Bool). if b then stopped_with Old disk arms else record arms { status = Down; disk = disk }) some.stopped

  opening_ends : GoesOn x (after_opening n rules moment word arms) puts ⊎ StopsIn x (after_opening n rules moment word arms) puts
  opening_ends = elim (opening_behind puts faults x.disk) [
    | inl r ↦ inl (subst (λ (y : Member). GoesOn x y puts) (sym (as_begun ∙ ap (opened_on_disk (opening_on begun)) r.1)) (is_up r.0))
    | inr r ↦ inr (subst (λ (y : Member). StopsIn x y puts) (sym (as_begun ∙ ap (opened_on_disk (opening_on begun)) r.1)) (is_down r.0))
  ]

-- ---- its rows

pub opening_killed : (n : ℕ) (told : Bool) (moment word puts : ℕ) (w : Cluster) → AreCalm w → MayOpen n w
    → Finishes n w (rows_of (DiesAtOpening n told moment word puts) w) (opened_in_part puts (stored_at n w))
opening_killed n told moment word puts w calm may =
    finishes_on n w (Crash n (4 * puts + 3) Old ∷ Open n told moment word ∷ []) (stop_told n (opens (after_row w (Crash n (4 * puts + 3) Old)))) state (
      inl (arm_lawful n w (4 * puts + 3) (omega arith) may.0),
      (inl (subst (λ (v : Cluster). cause v (Open n told moment word) ≡ None) (sym world) (open_lawful v1 n told moment word may.0 is_down_still)), tt),
    )
    (subst (λ (v : Cluster). Finishes n (opens v) (stop_told n (opens v)) state) (sym world) ends)
  where
    opens : Cluster → Cluster
    opens v = after_row v (Open n told moment word)

    x : Member
    x = w.member n

    state : Stored
    state = opened_in_part puts x.disk.store

    armed_x : Member
    armed_x = with_stop_armed (4 * puts + 3) Old x

    v1 : Cluster
    v1 = record (with_member w n armed_x) { rows = w.rows + 1 }

    world : after_row w (Crash n (4 * puts + 3) Old) ≡ v1
    world = arm_at n (4 * puts + 3) w (omega arith)

    v2 : Cluster
    v2 = opens v1

    opened : Member → Member
    opened y = after_opening n (rules_of w.ids told) moment word y

    is_down_still : is_running (v1.member n).status ≡ false
    is_down_still = ap (λ (y : Member). is_running y.status) (own_is w n armed_x) ∙ may.1

    here : v2.member n ≡ opened armed_x
    here = own_is v1 n (opened (v1.member n)) ∙ ap opened (own_is w n armed_x)

    others_then : (m : ℕ) → m ≢ n → IsCalm (v1.member m)
    others_then = others_with n w armed_x (λ m apart. calm m)

    ends : Finishes n v2 (stop_told n v2) state
    ends = elim (opening_ends n (rules_of w.ids told) moment word puts x (calm n)) [
      | inl up ↦ as_stored n v2 (stop_told n v2) (stored_at n v2) state (ap (λ (y : Member). y.disk.store) here ∙ up.stored)
          (stop_running n v2 up.server up.left (record {
            runs = record { member = may.0; up = ap (λ (y : Member). y.status) here ∙ up.up };
            arm = subst (λ (y : Member). IsArmed y up.left) (sym here) up.arm;
            others = others_with n v1 (opened (v1.member n)) others_then;
          }))
      | inr down ↦ as_stored n v2 (stop_told n v2) (stored_at n v2) state (ap (λ (y : Member). y.disk.store) here ∙ down.stored)
          (stop_stopped n v2 (record {
            down = ap (λ (y : Member). y.status) here ∙ down.down;
            calm = all_with n v1 (opened (v1.member n)) others_then (subst IsCalm (sym (ap opened (own_is w n armed_x))) down.calm);
          }))
    ]
