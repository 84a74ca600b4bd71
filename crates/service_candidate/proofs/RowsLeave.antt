-- What a row that does no harm leaves of a member that runs before it and behind it: what its step does, or its server
-- with no more than a frame gone out.
use Rattle.std.proofs.Common.{◌≡◌, ◌≢◌, ℕ, ◌+◌, Bool, true, false, refl, sym, ◌∙◌, ap, subst, inl, inr, None}
use Rattle.std.specs.Prelude.{◌⊎◌, ◌==◌, not}
use Rattle.std.proofs.lemmas.Bool.Decides.{eqb_tells}
use Rattle.raft_log.specs.KeyDisk.{are_put, puts_on}
use Rattle.raft_model.specs.Lists.{at, at_here, at_other}
use Rattle.bus_rows.specs.declared.row.Row.{Row}
use Rattle.bus_rows.specs.declared.row.Row.TheVariants.{AEnd, AOpen, ARx, ASend, ATick, Crash, Ext, Fault, Open, Rx, Send, Tick}
use Rattle.alloc_spec.specs.AllocatorState.{AllocatorState}
use Rattle.alloc_spec.specs.Step.{Event, after_pop, step}
use Rattle.alloc_spec.specs.StepState.{StepState}
use Rattle.alloc_spec_laws.proofs.Choices.{either}
use Rattle.bus_spec.specs.declared.unlawful.Unlawful.TheVariants.{NoNode, Running}
use Rattle.bus_spec.specs.Cluster.{Cluster, after_row, is_member, receipt_of, rules_of, tick_of}
use Rattle.bus_spec.specs.Lawful.{DoesNoHarm, because, or_else}
use Rattle.bus_spec.specs.Members.{Member, MemberStatus, after_crash, after_cut_off, after_opening, after_sending, after_writing, is_running, member_after_step, puts_of, with_failure_armed}
use Rattle.bus_spec.specs.Members.MemberStatus.{Up}

-- ---- a step

pub up_is : (a b : AllocatorState) → Up a ≡ Up b → a ≡ b
up_is a b e = cc e

-- a step that is cut off leaves no server that runs
cut_off : (x : Member) (row : ℕ) (t after : AllocatorState) (g : StepState) → (after_cut_off x row t g (puts_on (puts_of x g) x.disk)).status ≡ Up after → ⊥
cut_off x row t after g = either (λ (y : Member). y.status ≡ Up after → ⊥) (puts_on (puts_of x g) x.disk).calls.stopped _ _ (λ e f. cc f) (λ e f. cc f)

-- one that is done leaves its server
written : (x : Member) (row : ℕ) (t after : AllocatorState) (g : StepState) → (after_writing x row t g).status ≡ Up after → after ≡ g.allocator
written x row t after g = either (λ (y : Member). y.status ≡ Up after → after ≡ g.allocator) (are_put (puts_of x g) x.disk.calls)
    _ (after_cut_off x row t g (puts_on (puts_of x g) x.disk))
    (λ e f. sym (up_is g.allocator after f)) (λ e f. absurd (cut_off x row t after g f))

-- a member that runs behind its step runs on as the step left it
pub stepped : (x : Member) (number : ℕ) (event : Event) (t after : AllocatorState) → x.status ≡ Up t → (member_after_step number event x.status x).status ≡ Up after
    → after ≡ (step t number event).step_state.allocator
stepped x number event t after up e = written x number t after (step t number event).step_state
    (subst (λ (s : MemberStatus). (member_after_step number event s x).status ≡ Up after) up e)

-- ---- a row

pub record IsTicked (w : Cluster) (n : ℕ) (row : Row) (t after : AllocatorState) : Type 0 where
  pub ms : ℕ
  pub word : ℕ
  pub reads : row ≡ Tick n ms word
  pub is : after ≡ (step t (w.rows + 1) (tick_of ms word)).step_state.allocator

pub record IsReceived (w : Cluster) (n : ℕ) (row : Row) (t after : AllocatorState) : Type 0 where
  pub k : ℕ
  pub ms : ℕ
  pub comes : row ≡ Rx n k ms
  pub is : after ≡ (step t (w.rows + 1) (receipt_of w k ms)).step_state.allocator

abbrev pub IsLeft : Cluster → ℕ → Row → AllocatorState → AllocatorState → Type 0
IsLeft w n row t after = IsTicked w n row t after ⊎ (IsReceived w n row t after ⊎ ((after ≡ t) ⊎ (after ≡ after_pop t)))

-- who runs is not opened
no_opening : (outside running : Bool) → running ≡ true → or_else (because NoNode outside) (because Running running) ≡ None → ⊥
no_opening true true e f = cc f
no_opening false true e f = cc f
no_opening outside false e f = cc e

module _ (w : Cluster) (n : ℕ) (t after : AllocatorState) (up : (w.member n).status ≡ Up t) where
  -- where the member is as it was
  stays : (row : Row) (x : Member) → x ≡ w.member n → x.status ≡ Up after → IsLeft w n row t after
  stays row x same e = inr (inr (inl (sym (up_is t after (sym up ∙ (ap (λ (y : Member). y.status) (sym same) ∙ e))))))

  -- where the row is another member's
  elsewhere : (row : Row) (p : ℕ) (x : Member) → p ≢ n → (at w.member p x n).status ≡ Up after → IsLeft w n row t after
  elsewhere row p x differs e = stays row (at w.member p x n) (at_other w.member p n x (λ s. differs (sym s))) e

  -- what stands at the member's own place
  here : (p : ℕ) (does : Member → Member) → p ≡ n → (at w.member p (does (w.member p)) n).status ≡ Up after → (does (w.member n)).status ≡ Up after
  here p does same e = subst (λ (x : Member). x.status ≡ Up after) (at_here w.member p n (does (w.member p)) (sym same) ∙ ap (λ (j : ℕ). does (w.member j)) same) e

  -- a row that opens this member does harm
  opened : (p : ℕ) (told : Bool) (ms word : ℕ) → p ≡ n → DoesNoHarm w (Open p told ms word) → ⊥
  opened p told ms word same (inl e) = no_opening (not (is_member w.ids p)) (is_running (w.member p).status)
      (ap (λ (j : ℕ). is_running (w.member j).status) same ∙ ap is_running up) e
  opened p told ms word same (inr e) = cc e.1

  -- what each row leaves
  pub row_leaves : (row : Row) → DoesNoHarm w row → ((after_row w row).member n).status ≡ Up after → IsLeft w n row t after
  row_leaves (Tick p ms word) harm e = elim (eqb_tells p n) [
    | inl z ↦ inl (record {
      ms = ms;
      word = word;
      reads = ap (λ (j : ℕ). Tick j ms word) z.1;
      is = stepped (w.member n) (w.rows + 1) (tick_of ms word) t after up
          (here p (λ x. member_after_step (w.rows + 1) (tick_of ms word) x.status x) z.1 e);
    })
    | inr z ↦ elsewhere (Tick p ms word) p (member_after_step (w.rows + 1) (tick_of ms word) (w.member p).status (w.member p)) z.1 e
  ]
  row_leaves (Rx p k ms) harm e = elim (eqb_tells p n) [
    | inl z ↦ inr (inl (record {
      k = k;
      ms = ms;
      comes = ap (λ (j : ℕ). Rx j k ms) z.1;
      is = stepped (w.member n) (w.rows + 1) (receipt_of w k ms) t after up
          (here p (λ x. member_after_step (w.rows + 1) (receipt_of w k ms) x.status x) z.1 e);
    }))
    | inr z ↦ elsewhere (Rx p k ms) p (member_after_step (w.rows + 1) (receipt_of w k ms) (w.member p).status (w.member p)) z.1 e
  ]
  row_leaves (Send p) harm e = elim (eqb_tells p n) [
    | inl z ↦ inr (inr (inr (sym (up_is (after_pop t) after (sym (ap after_sending up) ∙ here p (λ x. record x { status = after_sending x.status }) z.1 e)))))
    | inr z ↦ elsewhere (Send p) p (record (w.member p) { status = after_sending (w.member p).status }) z.1 e
  ]
  row_leaves (Open p told ms word) harm e = elim (eqb_tells p n) [
    | inl z ↦ absurd (opened p told ms word z.1 harm)
    | inr z ↦ elsewhere (Open p told ms word) p (after_opening p (rules_of w.ids told) ms word (w.member p)) z.1 e
  ]
  row_leaves (Crash p calls pattern) harm e = elim (eqb_tells p n) [
    | inl z ↦ either (λ (x : Member). x.status ≡ Up after → IsLeft w n (Crash p calls pattern) t after) (calls == 0) _ _ (λ c f. absurd (cc f))
        (λ c f. stays (Crash p calls pattern) (w.member n) refl f) (here p (after_crash calls pattern) z.1 e)
    | inr z ↦ elsewhere (Crash p calls pattern) p (after_crash calls pattern (w.member p)) z.1 e
  ]
  row_leaves (Fault p call) harm e = elim (eqb_tells p n) [
    | inl z ↦ stays (Fault p call) (w.member n) refl (here p (with_failure_armed call) z.1 e)
    | inr z ↦ elsewhere (Fault p call) p (with_failure_armed call (w.member p)) z.1 e
  ]
  row_leaves (Ext frame) harm e = stays (Ext frame) (w.member n) refl e
  row_leaves (AOpen a uid pref ms word) harm e = stays (AOpen a uid pref ms word) (w.member n) refl e
  row_leaves (ATick a ms word) harm e = stays (ATick a ms word) (w.member n) refl e
  row_leaves (ARx a k ms word) harm e = stays (ARx a k ms word) (w.member n) refl e
  row_leaves (ASend a) harm e = stays (ASend a) (w.member n) refl e
  row_leaves (AEnd a) harm e = stays (AEnd a) (w.member n) refl e

-- a tick leaves what its step does
pub ticked : (w : Cluster) (n ms word : ℕ) (t after : AllocatorState) → (w.member n).status ≡ Up t → ((after_row w (Tick n ms word)).member n).status ≡ Up after
    → after ≡ (step t (w.rows + 1) (tick_of ms word)).step_state.allocator
ticked w n ms word t after up e = stepped (w.member n) (w.rows + 1) (tick_of ms word) t after up
    (here w n t after up n (λ x. member_after_step (w.rows + 1) (tick_of ms word) x.status x) refl e)
