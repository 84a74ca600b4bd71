-- The rows at which members failed. No two members that have failed did so at one row, and when the member that failed at a row has
-- stopped, none has failed at that row any more.
use Rattle.std.proofs.Common.{◌≡◌, ◌≢◌, ℕ, ◌+◌, ◌≤◌, Bool, true, false, List, [], ◌∷◌, refl, sym, ap, subst, ◌∙◌, arith, ◌⊎◌, inl, inr, Option, Some, None}
use Rattle.std.specs.Prelude.{◌==◌, if◌then◌else◌}
use Rattle.std.proofs.lemmas.Bool.Decides.{eqb_tells}
use Rattle.kv_store.specs.KeyDisk.{KeyDisk}
use Rattle.outside.specs.declared.pattern.Pattern.{Pattern}
use Rattle.raft_core.specs.StoredPuts.{store_of}
use Rattle.raft_log.specs.KeyDisk.{are_put, done_on, is_open_on, opening_on, puts_on}
use Rattle.raft_log.specs.Stored.{Stored}
use Rattle.raft_model.specs.Lists.{at, at_here, at_other}
use Rattle.bus_rows.specs.declared.row.Row.{Row}
use Rattle.bus_rows.specs.declared.row.Row.TheVariants.{AEnd, AOpen, ARx, ASend, ATick, Crash, Ext, Fault, Open, Rx, Send, Tick}
use Rattle.alloc_spec.specs.StepState.{StepState}
use Rattle.alloc_spec.specs.Step.{Event, step}
use Rattle.alloc_spec.specs.AllocatorState.{AllocatorState}
use Rattle.alloc_spec.specs.Rules.{Rules, opening_by}
use Rattle.bus_spec.specs.Cluster.{Cluster, after_rows, cluster, after_row, receipt_of, tick_of}
use Rattle.bus_spec.specs.Members.{MemberStatus, Member, after_sending, with_stop_armed, after_crash, after_cut_off, with_failure_armed, after_opening, puts_of, member_after_step, stopped_with, after_failed_opening, after_writing}
use Rattle.bus_spec.specs.Members.MemberStatus.{Down, Failed, Up}

-- the row of the step that failed
abbrev pub failed_at : MemberStatus → Option ℕ
failed_at Down = None
failed_at (Up server) = None
failed_at (Failed failure) = Some failure.row

abbrev pub failed_in : Cluster → ℕ → Option ℕ
failed_in w m = failed_at (w.member m).status

-- the member that a row is for; a frame from outside is for none, nor is a row of an allocatee
abbrev node_of : Row → ℕ
node_of (Open n told ms word) = n
node_of (Tick n ms word) = n
node_of (Rx n k ms) = n
node_of (Send n) = n
node_of (Ext frame) = 0
node_of (Crash n calls pattern) = n
node_of (Fault n call) = n
node_of (AOpen a uid pref ms word) = 0
node_of (ATick a ms word) = 0
node_of (ARx a k ms word) = 0
node_of (ASend a) = 0
node_of (AEnd a) = 0

-- ---- one row, at its member: as before, or not failed, or failed at this row

abbrev Changes : ℕ → Option ℕ → Member → Type 0
Changes row before x = (failed_at x.status ≡ before) ⊎ ((failed_at x.status ≡ None) ⊎ (failed_at x.status ≡ Some row))

opened_is_none : (n : ℕ) (rules : Rules) (moment word : ℕ) (x : Member) → failed_at (after_opening n rules moment word x).status ≡ None
opened_is_none n rules moment word x = by (is_open_on x.disk) where
  unopened_is : (b : Bool) → failed_at (if b then stopped_with x.pattern (opening_on x.disk) x else record x { status = Down; disk = opening_on x.disk }).status ≡ None
  unopened_is true = refl
  unopened_is false = refl

  by : (b : Bool) → failed_at (if b then record x { status = Up (opening_by n rules (store_of (opening_on x.disk).store) moment word); disk = opening_on x.disk }
      else after_failed_opening x (opening_on x.disk)).status ≡ None
  by true = refl
  by false = unopened_is (opening_on x.disk).calls.stopped

module _ (row : ℕ) (before : Option ℕ) (t : AllocatorState) (step_state : StepState) (x : Member) where
  abbrev after : KeyDisk Stored
  after = puts_on (puts_of x step_state) x.disk

  abbrev as_failed : Member
  as_failed = record x { status = Failed (record { row = row; before = t; step_state = step_state; done = done_on (puts_of x step_state) x.disk.calls }); disk = after }

  cut_off_changes : (b : Bool) → Changes row before (if b then stopped_with x.pattern after x else as_failed)
  cut_off_changes true = inr (inl refl)
  cut_off_changes false = inr (inr refl)

  wrote_changes : Changes row before (after_writing x row t step_state)
  wrote_changes = by (are_put (puts_of x step_state) x.disk.calls) where
    by : (b : Bool) → Changes row before (if b then record x { status = Up step_state.allocator; disk = after } else after_cut_off x row t step_state after)
    by true = inr (inl refl)
    by false = cut_off_changes after.calls.stopped

stepped_changes : (row : ℕ) (event : Event) (status : MemberStatus) (x : Member) → Changes row (failed_at x.status) (member_after_step row event status x)
stepped_changes row event Down x = inl refl
stepped_changes row event (Up t) x = wrote_changes row (failed_at x.status) t (step t row event).step_state x
stepped_changes row event (Failed failure) x = inl refl

sent_is_same : (status : MemberStatus) → failed_at (after_sending status) ≡ failed_at status
sent_is_same Down = refl
sent_is_same (Up t) = refl
sent_is_same (Failed failure) = refl

crashed_changes : (row calls : ℕ) (pattern : Pattern) (x : Member) → Changes row (failed_at x.status) (after_crash calls pattern x)
crashed_changes row calls pattern x = by (calls == 0) where
  by : (b : Bool) → Changes row (failed_at x.status) (if b then stopped_with pattern x.disk x else with_stop_armed calls pattern x)
  by true = inr (inl refl)
  by false = inl refl

-- ---- one row, at each member

module _ (w : Cluster) where
  abbrev ChangesAt : Row → Type 0
  ChangesAt row = Changes (w.rows + 1) (failed_in w (node_of row)) ((after_row w row).member (node_of row))

  changes_to : (n : ℕ) (x : Member) → Changes (w.rows + 1) (failed_in w n) x → Changes (w.rows + 1) (failed_in w n) (at w.member n x n)
  changes_to n x is = subst (Changes (w.rows + 1) (failed_in w n)) (sym (at_here w.member n n x refl)) is

  changes_at : (row : Row) → ChangesAt row
  changes_at (Open n told ms word) = changes_to n _ (inr (inl (opened_is_none n _ ms word (w.member n))))
  changes_at (Tick n ms word) = changes_to n _ (stepped_changes (w.rows + 1) (tick_of ms word) (w.member n).status (w.member n))
  changes_at (Rx n k ms) = changes_to n _ (stepped_changes (w.rows + 1) (receipt_of w k ms) (w.member n).status (w.member n))
  changes_at (Send n) = changes_to n (record (w.member n) { status = after_sending (w.member n).status }) (inl (sent_is_same (w.member n).status))
  changes_at (Ext frame) = inl refl
  changes_at (Crash n calls pattern) = changes_to n (after_crash calls pattern (w.member n)) (crashed_changes (w.rows + 1) calls pattern (w.member n))
  changes_at (Fault n call) = changes_to n (with_failure_armed call (w.member n)) (inl refl)
  changes_at (AOpen a uid pref ms word) = inl refl
  changes_at (ATick a ms word) = inl refl
  changes_at (ARx a k ms word) = inl refl
  changes_at (ASend a) = inl refl
  changes_at (AEnd a) = inl refl

  stays_at : (row : Row) (m : ℕ) → m ≢ node_of row → failed_in (after_row w row) m ≡ failed_in w m
  stays_at (Open n told ms word) m apart = ap (λ (x : Member). failed_at x.status) (at_other w.member n m _ apart)
  stays_at (Tick n ms word) m apart = ap (λ (x : Member). failed_at x.status) (at_other w.member n m _ apart)
  stays_at (Rx n k ms) m apart = ap (λ (x : Member). failed_at x.status) (at_other w.member n m _ apart)
  stays_at (Send n) m apart = ap (λ (x : Member). failed_at x.status) (at_other w.member n m _ apart)
  stays_at (Ext frame) m apart = refl
  stays_at (Crash n calls pattern) m apart = ap (λ (x : Member). failed_at x.status) (at_other w.member n m _ apart)
  stays_at (Fault n call) m apart = ap (λ (x : Member). failed_at x.status) (at_other w.member n m _ apart)
  stays_at (AOpen a uid pref ms word) m apart = refl
  stays_at (ATick a ms word) m apart = refl
  stays_at (ARx a k ms word) m apart = refl
  stays_at (ASend a) m apart = refl
  stays_at (AEnd a) m apart = refl

  -- a member that has failed had failed before, or is the row's, and failed in it
  failed_before : (row : Row) (m number : ℕ) → failed_in (after_row w row) m ≡ Some number
      → (failed_in w m ≡ Some number) ⊎ ((m ≡ node_of row) × (number ≡ w.rows + 1))
  failed_before row m number e = elim (eqb_tells m (node_of row)) [
    | inl same ↦ at_node same.1
    | inr apart ↦ inl (sym (stays_at row m apart.1) ∙ e)
  ]
    where
      some : (a b : ℕ) → Some a ≡ Some b → b ≡ a
      some a b s = cc (s)

      at_node : m ≡ node_of row → (failed_in w m ≡ Some number) ⊎ ((m ≡ node_of row) × (number ≡ w.rows + 1))
      at_node same =
          let here : failed_in (after_row w row) (node_of row) ≡ Some number = sym (ap (failed_in (after_row w row)) same) ∙ e in
          elim (changes_at row) [
            | inl stays ↦ inl (ap (failed_in w) same ∙ (sym stays ∙ here))
            | inr (inl none) ↦ absurd (cc (sym none ∙ here))
            | inr (inr now) ↦ inr (same, some (w.rows + 1) number (sym now ∙ here))
          ]

-- ---- no two at one row

pub record AreApart (w : Cluster) : Type 0 where
  pub past : (m number : ℕ) → failed_in w m ≡ Some number → number ≤ w.rows
  pub once : (m n number : ℕ) → failed_in w m ≡ Some number → failed_in w n ≡ Some number → m ≡ n

pub apart_at_first : (ids : List ℕ) → AreApart (cluster ids)
apart_at_first ids = record { past = λ m number e. absurd (cc (e)); once = λ m n number e f. absurd (cc (e)) }

pub apart_after : (w : Cluster) (row : Row) → AreApart w → AreApart (after_row w row)
apart_after w row is = record {
  past = λ m number e. elim (failed_before w row m number e) [
    | inl before ↦ omega (arith, is.past m number before)
    | inr now ↦ omega (arith, now.1)
  ];
  once = λ m n number e f. elim (failed_before w row m number e) [
    | inl before ↦ elim (failed_before w row n number f) [
      | inl too ↦ is.once m n number before too
      | inr now ↦ absurd (omega (arith, is.past m number before, now.1))
    ]
    | inr now ↦ elim (failed_before w row n number f) [
      | inl before ↦ absurd (omega (arith, is.past n number before, now.1))
      | inr too ↦ now.0 ∙ sym too.0
    ]
  ];
}

-- ---- a row whose failure is over

pub record IsOver (w : Cluster) (number : ℕ) : Type 0 where
  pub past : number ≤ w.rows
  pub none : (m : ℕ) → failed_in w m ≢ Some number

over_after_one : (w : Cluster) (row : Row) (number : ℕ) → IsOver w number → IsOver (after_row w row) number
over_after_one w row number is = record {
  past = omega (arith, is.past);
  none = λ m e. elim (failed_before w row m number e) [
    | inl before ↦ is.none m before
    | inr now ↦ absurd (omega (arith, is.past, now.1))
  ];
}

pub over_after : (w : Cluster) (rows : List Row) (number : ℕ) → IsOver w number → IsOver (after_rows w rows) number
over_after w [] number is = is
over_after w (row ∷ rows) number is = over_after (after_row w row) rows number (over_after_one w row number is)

-- a failure is over once its member has stopped
pub over_by_stop : (w : Cluster) (n calls : ℕ) (pattern : Pattern) (number : ℕ) → AreApart w → failed_in w n ≡ Some number → (calls == 0) ≡ true
    → IsOver (after_row w (Crash n calls pattern)) number
over_by_stop w n calls pattern number is failed now = record {
  past = omega (arith, is.past n number failed);
  none = λ m e. elim (eqb_tells m n) [
    | inl same ↦ absurd (cc (sym (is_none m same.1) ∙ e))
    | inr apart ↦ apart.1 (is.once m n number (sym (stays_at w (Crash n calls pattern) m apart.1) ∙ e) failed)
  ];
}
  where
    is_none : (m : ℕ) → m ≡ n → failed_in (after_row w (Crash n calls pattern)) m ≡ None
    is_none m same = ap (λ (x : Member). failed_at x.status) (at_here w.member n m (after_crash calls pattern (w.member n)) same)
        ∙ ap (λ (b : Bool). failed_at (if b then stopped_with pattern (w.member n).disk (w.member n) else with_stop_armed calls pattern (w.member n)).status) now
