-- Where no call of a disk is set to fail, no member fails: one that runs shows itself.
use Rattle.std.proofs.Common.{◌≡◌, ℕ, ◌-◌, Bool, true, false, List, [], ◌∷◌, Option, Some, None, refl, sym, ap, ◌∙◌, inl, inr}
use Rattle.std.proofs.lemmas.Bool.{eq-eqb}
use Rattle.std.specs.Prelude.{◌==◌, ◌||◌, ◌&&◌, not, is_some, if◌then◌else◌}
use Rattle.disk_model.specs.declared.calls.Calls.{Calls}
use Rattle.disk_model.specs.Calls.{acts, after_call, stops}
use Rattle.kv_store.specs.KeyDisk.{KeyDisk, Unsynced, after_calls, is_opened, is_put, opened_on, turned_to}
use Rattle.outside.specs.declared.pattern.Pattern.{Pattern}
use Rattle.raft_core.specs.StoredPuts.{store_of}
use Rattle.raft_log.specs.KeyDisk.{are_put, is_open_on, opening_on, put_state_on, puts_on}
use Rattle.raft_log.specs.DeviceCalls.{key_of}
use Rattle.raft_log.specs.Stored.{Put, Stored, after_put, opening_puts}
use Rattle.raft_model.specs.Lists.{In, any, at}
use Rattle.bus_rows.specs.declared.row.Row.{Row}
use Rattle.bus_rows.specs.declared.row.Row.TheVariants.{Open, Tick, Rx, Send, Ext, Crash, Fault, AOpen, ATick, ARx, ASend, AEnd}
use Rattle.alloc_spec.specs.StepState.{StepState}
use Rattle.alloc_spec.specs.Step.{Event, step}
use Rattle.alloc_spec.specs.AllocatorState.{AllocatorState}
use Rattle.alloc_spec.specs.Rules.{Rules, opening_by}
use Rattle.bus_spec.specs.Cluster.{Cluster, after_rows, cluster, is_member, after_row, receipt_of, tick_of, world_of}
use Rattle.bus_spec.specs.Members.{MemberStatus, Member, after_sending, with_stop_armed, after_crash, after_cut_off, is_running, after_opening, puts_of, member_after_step, stopped_with, after_failed_opening, after_writing}
use Rattle.bus_spec.specs.Members.MemberStatus.{Down, Up, Failed}
use Rattle.bus_spec.specs.Report.{running_view, view_at}
use Rattle.cmd_soak.specs.Leading.{HasNoFault, is_fault}

-- ---- tests

pick : {A : Type 0} (P : A → Type 0) (test : Bool) (t u : A) → P t → P u → P (if test then t else u)
pick P true t u p q = p
pick P false t u p q = q

pick_by : {A : Type 0} (P : A → Type 0) (test : Bool) (t u : A) → (test ≡ true → P t) → (test ≡ false → P u) → P (if test then t else u)
pick_by P true t u p q = p refl
pick_by P false t u p q = q refl

-- ---- the calls of a disk

abbrev IsUnset : Calls → Type 0
IsUnset calls = calls.fail_in ≡ 0

unset_after : (calls : Calls) → IsUnset calls → IsUnset (after_call calls)
unset_after calls e = ap (λ n. n - 1) e

first_stops : (a b : Bool) → b ≡ false → not (a || b) ≡ false → a ≡ true
first_stops true b e f = refl
first_stops false true e f = absurd (cc (e))
first_stops false false e f = absurd (cc (f))

-- a call that does not act stops the disk
stops_it : (calls : Calls) → IsUnset calls → acts calls ≡ false → (after_call calls).stopped ≡ true
stops_it calls e f = first_stops (stops calls) (calls.fail_in == 1) (ap (λ n. n == 1) e) f

-- ---- a put: four calls

module _ (a b c d : Bool) (w x y z : KeyDisk Stored) where
  abbrev up_to : KeyDisk Stored
  up_to = if a then if b then if c then z else y else x else w

  unset_up_to : IsUnset w.calls → IsUnset x.calls → IsUnset y.calls → IsUnset z.calls → IsUnset up_to.calls
  unset_up_to p q r s =
      let P : KeyDisk Stored → Type 0 = λ key_disk. IsUnset key_disk.calls in
      pick P a (if b then if c then z else y else x) w (pick P b (if c then z else y) x (pick P c z y s r) q) p

stops_up_to : (a b c d : Bool) (w x y z : KeyDisk Stored) → (a ≡ false → w.calls.stopped ≡ true) → (b ≡ false → x.calls.stopped ≡ true) →
    (c ≡ false → y.calls.stopped ≡ true) → (d ≡ false → z.calls.stopped ≡ true) → (a && (b && (c && d))) ≡ false →
    (if a then if b then if c then z else y else x else w).calls.stopped ≡ true
stops_up_to false b c d w x y z p q r s e = p refl
stops_up_to true false c d w x y z p q r s e = q refl
stops_up_to true true false d w x y z p q r s e = r refl
stops_up_to true true true false w x y z p q r s e = s refl
stops_up_to true true true true w x y z p q r s e = absurd (cc (e))

goes_up_to : (a b c d : Bool) (w x y z : KeyDisk Stored) → (a && (b && (c && d))) ≡ true →
    (if a then if b then if c then z else y else x else w) ≡ z
goes_up_to false b c d w x y z e = absurd (cc (e))
goes_up_to true false c d w x y z e = absurd (cc (e))
goes_up_to true true false d w x y z e = absurd (cc (e))
goes_up_to true true true d w x y z e = refl

module _ (put : Put) (key_disk : KeyDisk Stored) where
  abbrev one : Calls
  one = after_call key_disk.calls

  abbrev two : Calls
  two = after_calls 2 key_disk.calls

  abbrev three : Calls
  three = after_calls 3 key_disk.calls

  abbrev unsynced : Option (Unsynced Stored)
  unsynced = if acts three then None else Some (record { key = key_of put key_disk.store; before = key_disk.store })

  abbrev whole : KeyDisk Stored
  whole = turned_to (key_of put key_disk.store) (after_put put key_disk.store) key_disk unsynced (after_call three)

  unset_put : IsUnset key_disk.calls → IsUnset (put_state_on put key_disk).calls
  unset_put e =
      let first = unset_after key_disk.calls e in
      let second = unset_after one first in
      let third = unset_after two second in
      unset_up_to (acts key_disk.calls) (acts one) (acts two) (acts three) (record key_disk { calls = one }) (record key_disk { calls = two })
      (record key_disk { calls = three }) whole first second third (unset_after three third)

  stops_put : IsUnset key_disk.calls → is_put key_disk.calls ≡ false → (put_state_on put key_disk).calls.stopped ≡ true
  stops_put e f =
      let first = unset_after key_disk.calls e in
      let second = unset_after one first in
      let third = unset_after two second in
      stops_up_to (acts key_disk.calls) (acts one) (acts two) (acts three) (record key_disk { calls = one }) (record key_disk { calls = two })
      (record key_disk { calls = three }) whole (stops_it key_disk.calls e) (stops_it one first) (stops_it two second) (stops_it three third) f

  goes_put : is_put key_disk.calls ≡ true → put_state_on put key_disk ≡ whole
  goes_put e =
      goes_up_to (acts key_disk.calls) (acts one) (acts two) (acts three) (record key_disk { calls = one }) (record key_disk { calls = two })
      (record key_disk { calls = three }) whole e

-- ---- puts

unset_puts : (puts : List Put) (key_disk : KeyDisk Stored) → IsUnset key_disk.calls → IsUnset (puts_on puts key_disk).calls
unset_puts [] key_disk e = e
unset_puts (put ∷ puts) key_disk e =
    let P : KeyDisk Stored → Type 0 = λ s. IsUnset s.calls in
    let after = unset_put put key_disk e in
    pick P (is_put key_disk.calls) (puts_on puts (put_state_on put key_disk)) (put_state_on put key_disk) (unset_puts puts (put_state_on put key_disk) after) after

second_fails : (a b : Bool) → a ≡ true → (a && b) ≡ false → b ≡ false
second_fails true b e f = f
second_fails false b e f = absurd (cc (e))

stops_puts : (puts : List Put) (key_disk : KeyDisk Stored) → IsUnset key_disk.calls → are_put puts key_disk.calls ≡ false → (puts_on puts key_disk).calls.stopped ≡ true
stops_puts [] key_disk e f = absurd (cc (f))
stops_puts (put ∷ puts) key_disk e f =
    let P : KeyDisk Stored → Type 0 = λ s. s.calls.stopped ≡ true in
    pick_by P (is_put key_disk.calls) (puts_on puts (put_state_on put key_disk)) (put_state_on put key_disk)
    (λ done. stops_puts puts (put_state_on put key_disk) (unset_put put key_disk e)
    (ap (λ s. are_put puts s.calls) (goes_put put key_disk done)
    ∙ second_fails (is_put key_disk.calls) (are_put puts (after_calls 4 key_disk.calls)) done f))
    (λ cut. stops_put put key_disk e cut)

-- ---- an opening, a restart

unset_opened : (key_disk : KeyDisk Stored) → IsUnset key_disk.calls → IsUnset (opened_on key_disk).calls
unset_opened key_disk e =
    let P : KeyDisk Stored → Type 0 = λ s. IsUnset s.calls in
    let first = unset_after key_disk.calls e in
    pick P (acts key_disk.calls) (record key_disk { unsynced = None; calls = after_calls 2 key_disk.calls }) (record key_disk { calls = after_call key_disk.calls })
    (unset_after (after_call key_disk.calls) first) first

unset_opening : (key_disk : KeyDisk Stored) → IsUnset key_disk.calls → IsUnset (opening_on key_disk).calls
unset_opening key_disk e =
    let P : KeyDisk Stored → Type 0 = λ s. IsUnset s.calls in
    let read = unset_opened key_disk e in
    pick P (is_opened key_disk.calls) (puts_on (opening_puts key_disk.store) (opened_on key_disk)) (opened_on key_disk)
    (unset_puts (opening_puts key_disk.store) (opened_on key_disk) read) read

-- ---- members

abbrev HasNotFailed : MemberStatus → Type 0
HasNotFailed Down = Unit {0}
HasNotFailed (Up server) = Unit {0}
HasNotFailed (Failed failure) = ⊥

record IsFaultless (x : Member) : Type 0 where
  pub unset : IsUnset x.disk.calls
  pub works : HasNotFailed x.status

stopped_faultless : (pattern : Pattern) (disk : KeyDisk Stored) (x : Member) → IsFaultless (stopped_with pattern disk x)
stopped_faultless pattern disk x = record { unset = refl; works = tt }

opened_faultless : (n : ℕ) (rules : Rules) (moment word : ℕ) (x : Member) → IsFaultless x → IsFaultless (after_opening n rules moment word x)
opened_faultless n rules moment word x is =
    let disk = opening_on x.disk in
    let unset = unset_opening x.disk is.unset in
    let up : Member = record x { status = Up (opening_by n rules (store_of disk.store) moment word); disk = disk } in
    let down : Member = record x { status = Down; disk = disk } in
    let is_up : IsFaultless up = record { unset = unset; works = tt } in
    let is_down : IsFaultless down = record { unset = unset; works = tt } in
    pick IsFaultless (is_open_on x.disk) up (after_failed_opening x disk) is_up
    (pick IsFaultless disk.calls.stopped (stopped_with x.pattern disk x) down (stopped_faultless x.pattern disk x) is_down)

wrote_faultless : (x : Member) (row : ℕ) (before : AllocatorState) (step_state : StepState) → IsFaultless x → IsFaultless (after_writing x row before step_state)
wrote_faultless x row before step_state is =
    let puts = puts_of x step_state in
    let after = puts_on puts x.disk in
    let unset = unset_puts puts x.disk is.unset in
    pick_by IsFaultless (are_put puts x.disk.calls) (record x { status = Up step_state.allocator; disk = after }) (after_cut_off x row before step_state after)
    (λ done. record { unset = unset; works = tt })
    (λ cut. pick_by IsFaultless after.calls.stopped (stopped_with x.pattern after x) _ (λ stop. stopped_faultless x.pattern after x)
    (λ on. absurd (cc (on, stops_puts puts x.disk is.unset cut))))

stepped_faultless : (row : ℕ) (event : Event) (status : MemberStatus) (x : Member) → IsFaultless x → IsFaultless (member_after_step row event status x)
stepped_faultless row event Down x is = is
stepped_faultless row event (Up server) x is = wrote_faultless x row server (step server row event).step_state is
stepped_faultless row event (Failed failure) x is = is

sent_works : (status : MemberStatus) → HasNotFailed status → HasNotFailed (after_sending status)
sent_works Down is = tt
sent_works (Up server) is = tt
sent_works (Failed failure) is = is

crashed_faultless : (calls : ℕ) (pattern : Pattern) (x : Member) → IsFaultless x → IsFaultless (after_crash calls pattern x)
crashed_faultless calls pattern x is =
    pick IsFaultless (calls == 0) (stopped_with pattern x.disk x) (with_stop_armed calls pattern x) (stopped_faultless pattern x.disk x)
    (record { unset = is.unset; works = is.works })

-- ---- rows

abbrev AllFaultless : Cluster → Type 0
AllFaultless w = (n : ℕ) → IsFaultless (w.member n)

at_one : (members : ℕ → Member) (n : ℕ) (x : Member) → ((m : ℕ) → IsFaultless (members m)) → IsFaultless x → (m : ℕ) → IsFaultless (at members n x m)
at_one members n x all is m = pick IsFaultless (m == n) x (members m) is (all m)

next_faultless : (w : Cluster) (row : Row) → is_fault row ≡ false → AllFaultless w → AllFaultless (after_row w row)
next_faultless w (Open n told ms word) e all = at_one w.member n _ all (opened_faultless n _ ms word (w.member n) (all n))
next_faultless w (Tick n ms word) e all = at_one w.member n _ all (stepped_faultless _ (tick_of ms word) (w.member n).status (w.member n) (all n))
next_faultless w (Rx n k ms) e all = at_one w.member n _ all (stepped_faultless _ (receipt_of w k ms) (w.member n).status (w.member n) (all n))
next_faultless w (Send n) e all = at_one w.member n _ all (record { unset = (all n).unset; works = sent_works (w.member n).status (all n).works })
next_faultless w (Ext frame) e all = all
next_faultless w (Crash n calls pattern) e all = at_one w.member n _ all (crashed_faultless calls pattern (w.member n) (all n))
next_faultless w (Fault n call) e all = absurd (cc (e))
next_faultless w (AOpen a uid pref ms word) e all = all
next_faultless w (ATick a ms word) e all = all
next_faultless w (ARx a k ms word) e all = all
next_faultless w (ASend a) e all = all
next_faultless w (AEnd a) e all = all

rows_faultless : (w : Cluster) (rows : List Row) → HasNoFault rows → AllFaultless w → AllFaultless (after_rows w rows)
rows_faultless w [] none all = all
rows_faultless w (row ∷ rows) none all = rows_faultless (after_row w row) rows none.1 (next_faultless w row none.0 all)

-- ---- what a member shows

next_ids : (w : Cluster) (row : Row) → (after_row w row).ids ≡ w.ids
next_ids w (Open n told ms word) = refl
next_ids w (Tick n ms word) = refl
next_ids w (Rx n k ms) = refl
next_ids w (Send n) = refl
next_ids w (Ext frame) = refl
next_ids w (Crash n calls pattern) = refl
next_ids w (Fault n call) = refl
next_ids w (AOpen a uid pref ms word) = refl
next_ids w (ATick a ms word) = refl
next_ids w (ARx a k ms word) = refl
next_ids w (ASend a) = refl
next_ids w (AEnd a) = refl

rows_ids : (w : Cluster) (rows : List Row) → (after_rows w rows).ids ≡ w.ids
rows_ids w [] = refl
rows_ids w (row ∷ rows) = rows_ids (after_row w row) rows ∙ next_ids w row

or_true : (a : Bool) → (if a then true else true) ≡ true
or_true true = refl
or_true false = refl

among : (n : ℕ) (ids : List ℕ) → In n ids → is_member ids n ≡ true
among n [] here = absurd here
among n (id ∷ ids) (inl e) = ap (λ t. if t then true else any (λ i. i == n) ids) (eq-eqb id n (sym e))
among n (id ∷ ids) (inr here) = ap (λ t. if (id == n) then true else t) (among n ids here) ∙ or_true (id == n)

status_shown : (status : MemberStatus) → HasNotFailed status → is_some (running_view status) ≡ is_running status
status_shown Down is = refl
status_shown (Up server) is = refl
status_shown (Failed failure) is = absurd is

pub runs_as_shown : (ids : List ℕ) (rows : List Row) → HasNoFault rows → (n : ℕ) → In n ids →
    is_some (view_at (world_of ids rows) n) ≡ is_running ((world_of ids rows).member n).status
runs_as_shown ids rows none n here =
    let w = world_of ids rows in
    let member : is_member w.ids n ≡ true = ap (λ l. is_member l n) (rows_ids (cluster ids) rows) ∙ among n ids here in
    ap (λ t. is_some (if t then running_view (w.member n).status else None)) member
    ∙ status_shown (w.member n).status (rows_faultless (cluster ids) rows none (λ m. record { unset = refl; works = tt }) n).works
