-- A member after an opening.
use Rattle.std.proofs.Common.{◌≡◌, ℕ, List, Bool, true, false, length, refl, sym, ap, subst, ◌∙◌}
use Rattle.std.specs.Prelude.{if◌then◌else◌}
use Rattle.disk_model.specs.declared.disk.Disk.{Ghosts}
use Rattle.disk_model.specs.declared.memory.MemoryDisk.{MemoryDisk}
use Rattle.kv_store.specs.declared.fault.Fault.{Fault}
use Rattle.kv_store.specs.declared.fault.OpenFault.{OpenFault}
use Rattle.kv_store.specs.declared.fault.OpenFault.TheVariants.{Fault as DiskFault, Damaged}
use Rattle.kv_store.specs.KeyDisk.{KeyDisk, restarted_on}
use Rattle.raft_core.specs.StoredPuts.{store_of}
use Rattle.raft_log.specs.declared.durable.Durable.{Durable}
use Rattle.raft_log.specs.DurableViews.{durable_state}
use Rattle.raft_log.specs.KeyDisk.{IsKeyDisk, is_open_on, opening_on}
use Rattle.raft_log.specs.Stored.{Stored}
use Rattle.alloc_spec.specs.declared.event.View.{View}
use Rattle.alloc_spec.specs.Rules.{Rules, opening_by, rules_by}
use Rattle.alloc_server.specs.declared.server.Server.{Server}
use Rattle.alloc_server.specs.Server.{StandsFor, durable_of}
use Rattle.bus_spec.specs.Cluster.{rules_of}
use Rattle.bus_spec.specs.Members.{Member as MemberState, MemberStatus, after_opening, is_running, stopped_with}
use Rattle.bus_spec.specs.Members.MemberStatus.{Down, Up, Failed}
use Rattle.bus_spec.specs.Report.{line_of_failure, line_of_opening, line_of_stored}
use Rattle.bus_rows.specs.ReportLine.{ReportLine}
use Rattle.bus_rows.specs.ReportLine.ReportLine.{HasOpened}
use Rattle.bus_world.specs.OnDisk.{IsUpOn}
use Rattle.bus_world.specs.Places.{HasStatus}
use Rattle.bus_world.specs.declared.place.Place.{Place}

-- ---- an opening that succeeded

-- a server that was opened, and the same one when it was told its members, which its store does not know
module _ {F : Type 0} {ghosts : Ghosts MemoryDisk} (opened server : Server MemoryDisk F ghosts) (kept : durable_of server ≡ durable_of opened) (id : ℕ)
    (key_disk : KeyDisk Stored) (open_on : is_open_on key_disk ≡ true) (on_opened : IsKeyDisk (durable_of opened) (opening_on key_disk)) where
  on : IsKeyDisk (durable_of server) (opening_on key_disk)
  on = subst (λ (durable : Durable MemoryDisk ghosts). IsKeyDisk durable (opening_on key_disk)) (sym kept) on_opened

  abbrev state : Stored
  state = durable_state (durable_of server)

  pub opened_told : (view : View) → view.term ≡ state.term → view.vote ≡ state.vote → view.last ≡ length state.log → view.commit ≡ state.commit
      → HasOpened id view.term view.vote view.last view.commit ≡ line_of_opening id key_disk
  opened_told view term vote last commit =
      ap (λ (t : ℕ). HasOpened id t view.vote view.last view.commit) term
      ∙ (ap (λ (v : ℕ). HasOpened id state.term v view.last view.commit) vote
      ∙ (ap (λ (l : ℕ). HasOpened id state.term state.vote l view.commit) last
      ∙ (ap (λ (c : ℕ). HasOpened id state.term state.vote (length state.log) c) commit
      ∙ (ap (line_of_stored id) on.state
      ∙ sym (ap (λ (b : Bool). if b then line_of_stored id (opening_on key_disk).store else line_of_failure id (opening_on key_disk)) open_on)))))

  pub is_up : (rules : Rules) (now word : ℕ) → StandsFor server (opening_by id rules (store_of (durable_state (durable_of opened))) now word)
      → IsUpOn server (opening_by id rules (store_of (opening_on key_disk).store) now word) (opening_on key_disk)
  is_up rules now word stands = record {
    stands = subst (λ (s : Stored). StandsFor server (opening_by id rules (store_of s) now word)) on_opened.state stands;
    keeps = on;
  }

-- the rules by which a member is opened, from what is told it
pub same_rules : (ids list : List ℕ) (size : ℕ) (told : Bool) → size ≡ length ids → list ≡ (rules_of ids told).told → rules_by size list ≡ rules_of ids told
same_rules ids list size told counted listed =
    ap (λ (n : ℕ). rules_by n list) counted ∙ ap (λ (l : List ℕ). rules_by (length ids) l) listed

-- ---- the place and the pattern of a member after an opening

module _ {F : Type 0} (place : Place F) where
  choice_by : (b c : Bool) (x y : MemberState) → HasStatus place (if c then x else y).status (if c then x else y).disk → b ≡ c
      → HasStatus place (if b then x else y).status (if b then x else y).disk
  choice_by b c x y is e = subst (λ (d : Bool). HasStatus place (if d then x else y).status (if d then x else y).disk) (sym e) is

  module _ (x : MemberState) (id : ℕ) (rules : Rules) (now word : ℕ) where
    pub opened_by : place.runs ≡ true → IsUpOn place.server (opening_by id rules (store_of (opening_on x.disk).store) now word) (opening_on x.disk) → is_open_on x.disk ≡ true
        → HasStatus place (after_opening id rules now word x).status (after_opening id rules now word x).disk
    opened_by runs is e = choice_by (is_open_on x.disk) true _ _ (record { runs = runs; server = is }) e

    down_by : (disk : KeyDisk Stored) → (b : Bool) → HasStatus place Down (if b then restarted_on x.pattern disk else disk) →
        let after = if b then stopped_with x.pattern disk x else record x { status = Down; disk = disk } in HasStatus place after.status after.disk
    down_by disk true is = is
    down_by disk false is = is

    pub unopened_by : HasStatus place Down (if (opening_on x.disk).calls.stopped then restarted_on x.pattern (opening_on x.disk) else opening_on x.disk)
        → is_open_on x.disk ≡ false → HasStatus place (after_opening id rules now word x).status (after_opening id rules now word x).disk
    unopened_by is e = choice_by (is_open_on x.disk) false _ _ (down_by (opening_on x.disk) ((opening_on x.disk).calls.stopped) is) e

-- a member that does not run is on its disk
pub stopped_on : {F : Type 0} (place : Place F) (status : MemberStatus) (key_disk : KeyDisk Stored) → HasStatus place status key_disk → is_running status ≡ false
    → HasStatus place Down key_disk
stopped_on place Down key_disk is stopped = is
stopped_on place (Up t) key_disk is stopped = absurd (cc (stopped))
stopped_on place (Failed failure) key_disk is stopped = absurd (cc (stopped))

pattern_by : (b c : Bool) (x a d e : MemberState) → a.pattern ≡ x.pattern → d.pattern ≡ x.pattern → e.pattern ≡ x.pattern
    → (if b then a else (if c then d else e)).pattern ≡ x.pattern
pattern_by true c x a d e p q r = p
pattern_by false true x a d e p q r = q
pattern_by false false x a d e p q r = r

pub pattern_kept : (id : ℕ) (rules : Rules) (now word : ℕ) (x : MemberState) → (after_opening id rules now word x).pattern ≡ x.pattern
pattern_kept id rules now word x = pattern_by (is_open_on x.disk) ((opening_on x.disk).calls.stopped) x _ _ _ refl refl refl

-- ---- an opening that failed

-- where nothing is damaged, a device call failed
pub not_damaged : (Fails : Type 0) (why : OpenFault) → ((fault : Fault) → why ≡ DiskFault fault → Fails) → ((key : ℕ) → why ≡ Damaged key → ⊥) → Fails
not_damaged Fails (DiskFault fault) fails sound = fails fault refl
not_damaged Fails (Damaged key) fails sound = absurd (sound key refl)

pub refused_told : (id : ℕ) (key_disk : KeyDisk Stored) (told : ReportLine) → is_open_on key_disk ≡ false → told ≡ line_of_failure id (opening_on key_disk) → told ≡ line_of_opening id key_disk
refused_told id key_disk told e f =
    f ∙ sym (ap (λ (b : Bool). if b then line_of_stored id (opening_on key_disk).store else line_of_failure id (opening_on key_disk)) e)
