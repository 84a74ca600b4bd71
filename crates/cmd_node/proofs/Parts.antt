-- The puts of a turn: where neither step, the first or the second of them was made.
use Rattle.std.proofs.Common.{◌≡◌, ℕ, List, [], ◌∷◌, ◌++◌, true, append-nil, subst, ap, ◌∙◌, inl, inr}
use Rattle.std.specs.Prelude.{Option}
use Rattle.disk_model.specs.declared.disk.Disk.{Ghosts}
use Rattle.disk_model.specs.Contents.{MayLeave}
use Rattle.outside.specs.declared.received.RawFrame.{RawFrame}
use Rattle.outside.specs.declared.received.Received.{Received}
use Rattle.cmd_node.specs.Words.{next_words, word_of}
use Rattle.raft_core.specs.StoredPuts.{PutWithOrigin, stored_put, stored_puts}
use Rattle.raft_log.specs.DurableViews.{durable_state}
use Rattle.raft_log.specs.Rules.{AlwaysStandsForState, StandsForState}
use Rattle.raft_log.specs.Stored.{AfterSome, Put, Stored, after_put, after_puts}
use Rattle.alloc_spec.specs.Step.{Tick}
use Rattle.alloc_server.specs.declared.server.Server.{Server}
use Rattle.alloc_server.specs.Server.{HasPut, LeavesSome, disk_of, durable_of}
use Rattle.cmd_node.specs.Puts.{IsCutIn, IsHeardIn, heard_puts, step_puts, tick_puts, turn_puts}
use Rattle.cmd_node.specs.Stands.{IsTurning}
use Rattle.cmd_node.specs.Turn.{Turning, turn_after_tick}
use Rattle.cmd_node.specs.declared.runner.Runner.{Runner}
use Rattle.cmd_node.specs.declared.steps.LastSteps.{LastSteps}
use Rattle.cmd_node.specs.declared.words.Words.{Words}

-- after none of them
at_once : (fact : Stored → Type 0) (puts : List Put) (s : Stored) → fact s → AfterSome fact puts s
at_once fact [] s here = here
at_once fact (put ∷ puts) s here = inl here

of_second : (fact : Stored → Type 0) (xs ys : List PutWithOrigin) (s : Stored) →
    (let after = after_puts (stored_puts xs s) s in AfterSome fact (stored_puts ys after) after) → AfterSome fact (stored_puts (xs ++ ys) s) s
of_second fact [] ys s there = there
of_second fact (x ∷ xs) ys s there = inr (of_second fact xs ys (after_put (stored_put x s) s) there)

module _ {D F : Type 0} {disk : Ghosts D} (old : Server D F disk) where
  -- nothing was put yet
  pub leaves_at_once : (puts : List PutWithOrigin) → (disk.tells (disk_of old) ≡ true → AlwaysStandsForState (disk.contents (disk_of old)) (durable_state (durable_of old)))
      → LeavesSome old old puts
  leaves_at_once puts durable = λ told image left. let s = durable_state (durable_of old) in at_once (StandsForState image) (stored_puts puts s) s (durable told image left)

  module _ (xs ys : List PutWithOrigin) where
    pub leaves_second : (mid new : Server D F disk) → HasPut old mid xs → disk.tells (disk_of mid) ≡ disk.tells (disk_of old) → LeavesSome mid new ys → LeavesSome old new (xs ++ ys)
    leaves_second mid new put tells leaves = λ told image left.
        let s = durable_state (durable_of old) in
        of_second (StandsForState image) xs ys s (subst (λ m. AfterSome (StandsForState image) (stored_puts ys m) m) put.state (leaves (tells ∙ told) image left))

  -- of the disk alone is this said
  pub leaves_of_disk : (mid new : Server D F disk) (puts : List PutWithOrigin) → disk_of new ≡ disk_of mid → LeavesSome old mid puts → LeavesSome old new puts
  leaves_of_disk mid new puts same leaves = λ told image left. leaves told image (subst (λ d. MayLeave (disk.contents d) image) same left)

  -- a turn whose first step was put, and whose second one was made as far as it came
  pub turn_leaves : (mid new : Server D F disk) (moment word : ℕ) (t : Turning) → word ≡ word_of (next_words t.running.words) → HasPut old mid (step_puts (Tick moment word) t) →
      disk.tells (disk_of mid) ≡ disk.tells (disk_of old) → LeavesSome mid new (heard_puts moment (turn_after_tick moment t)) → LeavesSome old new (turn_puts moment t)
  unfolding turn_puts
  turn_leaves mid new moment word t is put tells leaves =
      leaves_second (tick_puts moment t) (heard_puts moment (turn_after_tick moment t)) mid new (subst (λ w. HasPut old mid (step_puts (Tick moment w) t)) is put) tells leaves

-- ---- how far a turn came that was cut off

module _ {D F : Type 0} {disk : Ghosts D} (old mid new : Server D F disk) (moment : ℕ) (t : Turning) (left : Option (List Received)) where
  -- the first step was put, and the second one was made as far as it came
  pub turn_cut : (word : ℕ) → word ≡ word_of (next_words t.running.words) → HasPut old mid (step_puts (Tick moment word) t) → disk.tells (disk_of mid) ≡ disk.tells (disk_of old) →
      IsHeardIn moment (turn_after_tick moment t) left (LeavesSome mid new) → IsCutIn moment t left (LeavesSome old new)
  turn_cut word is put tells heard = elim heard [
    | inl h ↦ inl (
      h.0,
      subst (LeavesSome old new) (append-nil (tick_puts moment t))
          (leaves_second old (tick_puts moment t) [] mid new (subst (λ w. HasPut old mid (step_puts (Tick moment w) t)) is put) tells h.1),
    )
    | inr h ↦ inr (h.0, turn_leaves old mid new moment word t is put tells h.1)
  ]

  -- the disk was left alone from then on, and the link gave no more
  pub cut_still : (other : Option (List Received)) → other ≡ left → disk_of new ≡ disk_of mid → IsCutIn moment t left (LeavesSome old mid) → IsCutIn moment t other (LeavesSome old new)
  cut_still other same still cut = elim cut [
    | inl h ↦ inl (same ∙ h.0, leaves_of_disk old mid new (tick_puts moment t) still h.1)
    | inr h ↦ inr (same ∙ h.0, leaves_of_disk old mid new (turn_puts moment t) still h.1)
  ]

-- what it is said of changes
pub cut_as : (A B : List PutWithOrigin → Type 0) → ((puts : List PutWithOrigin) → A puts → B puts) → (moment : ℕ) (t : Turning) (left : Option (List Received)) → IsCutIn moment t left A → IsCutIn moment t left B
cut_as A B f moment t left cut = elim cut [ inl h ↦ inl (h.0, f (tick_puts moment t) h.1) | inr h ↦ inr (h.0, f (turn_puts moment t) h.1) ]

-- the one whose turn it is takes its next word
pub next_word : {D F : Type 0} {disk : Ghosts D} {runner : Runner D F disk} {coming : Option (List Received)} {sent : Option (List RawFrame)} {steps : LastSteps}
    {t : Turning} {words : Words} → IsTurning runner coming sent steps t → words ≡ next_words runner.words →
    IsTurning (record runner { words = words }) coming sent steps (record t { running = record t.running { words = next_words t.running.words } })
next_word is next = record {
  running = record {
    id = is.running.id;
    server = is.running.server;
    stored = is.running.stored;
    words = next ∙ ap next_words is.running.words;
    coming_is = is.running.coming_is;
    sent_is = is.running.sent_is;
  };
  lines = is.lines;
}
