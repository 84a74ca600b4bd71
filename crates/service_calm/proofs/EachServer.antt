-- What holds of each server that opens, and stays so in its steps and when a frame goes out, holds of each server of a
-- world that rows reach.
use Rattle.std.proofs.Common.{ℕ, ◌+◌, List, [], ◌∷◌, inl, inr, sym, subst, ◌≡◌}
use Rattle.std.specs.Prelude.{⊤, ◌==◌}
use Rattle.std.proofs.lemmas.Bool.Decides.{eqb_tells}
use Rattle.raft_log.specs.KeyDisk.{are_put, is_open_on, opening_on, puts_on}
use Rattle.raft_model.specs.Lists.{at, at_here, at_other}
use Rattle.raft_model.specs.Server.{Store}
use Rattle.bus_rows.specs.declared.row.Row.{Row}
use Rattle.bus_rows.specs.declared.row.Row.TheVariants.{AEnd, AOpen, ARx, ASend, ATick, Crash, Ext, Fault, Open, Rx, Send, Tick}
use Rattle.alloc_spec.specs.AllocatorState.{AllocatorState}
use Rattle.alloc_spec.specs.Rules.{Rules, opening_by}
use Rattle.alloc_spec.specs.Step.{Event, after_pop, step}
use Rattle.alloc_spec.specs.StepState.{StepState}
use Rattle.alloc_spec_laws.proofs.Choices.{either}
use Rattle.bus_spec.specs.Cluster.{Cluster, after_row, after_rows, cluster, receipt_of, rules_of, tick_of, world_of}
use Rattle.bus_spec.specs.Members.{Member, MemberStatus, after_crash, after_cut_off, after_failed_opening, after_opening, after_sending, after_writing, member_after_step, puts_of}
use Rattle.bus_spec.specs.Members.MemberStatus.{Down, Failed, Up}

module _ (Holds : AllocatorState → Type 0) (opened : (n : ℕ) (rules : Rules) (store : Store) (moment word : ℕ) → Holds (opening_by n rules store moment word))
    (stepped : (t : AllocatorState) (number : ℕ) (event : Event) → Holds t → Holds (step t number event).step_state.allocator)
    (popped : (t : AllocatorState) → Holds t → Holds (after_pop t)) where
  abbrev HoldsIn : MemberStatus → Type 0
  HoldsIn Down = ⊤
  HoldsIn (Up t) = Holds t
  HoldsIn (Failed failure) = ⊤

  abbrev HoldsOf : Member → Type 0
  HoldsOf x = HoldsIn x.status

  when_opened : (n : ℕ) (rules : Rules) (moment word : ℕ) (x : Member) → HoldsOf (after_opening n rules moment word x)
  when_opened n rules moment word x = either HoldsOf (is_open_on x.disk) _ (after_failed_opening x (opening_on x.disk))
      (λ e. opened n rules _ moment word) (λ e. either HoldsOf (opening_on x.disk).calls.stopped _ _ (λ f. tt) (λ f. tt))

  when_written : (x : Member) (row : ℕ) (t : AllocatorState) (g : StepState) → Holds g.allocator → HoldsOf (after_writing x row t g)
  when_written x row t g h = either HoldsOf (are_put (puts_of x g) x.disk.calls) _ (after_cut_off x row t g (puts_on (puts_of x g) x.disk)) (λ e. h)
      (λ e. either HoldsOf (puts_on (puts_of x g) x.disk).calls.stopped _ _ (λ f. tt) (λ f. tt))

  when_stepped : (row : ℕ) (event : Event) (status : MemberStatus) (x : Member) → HoldsIn status → HoldsOf x → HoldsOf (member_after_step row event status x)
  when_stepped row event Down x h own = own
  when_stepped row event (Up t) x h own = when_written x row t (step t row event).step_state (stepped t row event h)
  when_stepped row event (Failed failure) x h own = own

  when_sent : (status : MemberStatus) → HoldsIn status → HoldsIn (after_sending status)
  when_sent Down h = h
  when_sent (Up t) h = popped t h
  when_sent (Failed failure) h = h

  when_crashed : (calls : ℕ) (pattern : _) (x : Member) → HoldsOf x → HoldsOf (after_crash calls pattern x)
  when_crashed calls pattern x h = either HoldsOf (calls == 0) _ _ (λ e. tt) (λ e. h)

  abbrev HoldsOfAll : (ℕ → Member) → Type 0
  HoldsOfAll member = (p : ℕ) → HoldsOf (member p)

  with_one : (member : ℕ → Member) (n : ℕ) (x : Member) → HoldsOfAll member → HoldsOf x → HoldsOfAll (at member n x)
  with_one member n x all here p = elim (eqb_tells p n) [
    | inl z ↦ subst HoldsOf (sym (at_here member n p x z.1)) here
    | inr z ↦ subst HoldsOf (sym (at_other member n p x z.1)) (all p)
  ]

  in_row : (w : Cluster) (row : Row) → HoldsOfAll w.member → HoldsOfAll (after_row w row).member
  in_row w (Open n told ms word) all = with_one w.member n _ all (when_opened n (rules_of w.ids told) ms word (w.member n))
  in_row w (Tick n ms word) all = with_one w.member n _ all (when_stepped (w.rows + 1) (tick_of ms word) (w.member n).status (w.member n) (all n) (all n))
  in_row w (Rx n k ms) all = with_one w.member n _ all (when_stepped (w.rows + 1) (receipt_of w k ms) (w.member n).status (w.member n) (all n) (all n))
  in_row w (Send n) all = with_one w.member n _ all (when_sent (w.member n).status (all n))
  in_row w (Ext frame) all = all
  in_row w (Crash n calls pattern) all = with_one w.member n _ all (when_crashed calls pattern (w.member n) (all n))
  in_row w (Fault n call) all = with_one w.member n _ all (all n)
  in_row w (AOpen a uid pref ms word) all = all
  in_row w (ATick a ms word) all = all
  in_row w (ARx a k ms word) all = all
  in_row w (ASend a) all = all
  in_row w (AEnd a) all = all

  in_rows : (w : Cluster) (list : List Row) → HoldsOfAll w.member → HoldsOfAll (after_rows w list).member
  in_rows w [] all = all
  in_rows w (row ∷ list) all = in_rows (after_row w row) list (in_row w row all)

  pub in_each : (ids : List ℕ) (list : List Row) (p : ℕ) (t : AllocatorState) → ((world_of ids list).member p).status ≡ Up t → Holds t
  in_each ids list p t e = subst HoldsIn e (in_rows (cluster ids) list (λ q. tt) p)
