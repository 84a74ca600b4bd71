-- A run that was cut off: from the allocators to what is left of links and disks.
use Rattle.std.proofs.Common.{◌≡◌, ℕ, ◌<◌, List, length, true, refl, sym, ap, ◌∙◌, subst, inl, inr, arith}
use Rattle.std.specs.Prelude.{Option, Some, None, IsNone, slice_index, slice_index_or}
use Rattle.can_frame.specs.Log.{IsPrefix}
use Rattle.disk_model.specs.declared.disk.Disk.{Ghosts}
use Rattle.outside.specs.Readings.{next_reading}
use Rattle.outside.specs.declared.received.RawFrame.{RawFrame}
use Rattle.outside.specs.declared.received.Received.{Received}
use Rattle.raft_log.specs.declared.durable.Durable.{Durable}
use Rattle.raft_log.specs.DurableViews.{durable_disk, durable_fault, durable_state}
use Rattle.raft_log.specs.Opening.{FailsToOpen}
use Rattle.raft_log.specs.Rules.{AlwaysStandsForState, StandsForState}
use Rattle.raft_log.specs.Stored.{Stored, after_puts, opening_puts}
use Rattle.alloc_server.specs.Server.{durable_of, fault_of}
use Rattle.alloc_spec.specs.Rules.{Rules}
use Rattle.cmd_node.specs.Another.{caller_at}
use Rattle.cmd_node.specs.Cut.{CalledBy, IsCut, IsCutOpening, IsCutTurning, PutsAt}
use Rattle.cmd_node.specs.CutRun.{AreCutTurns, HoldsAt, HoldsPartAt, HoldsStateInPart, IsCutAtOpening, KeepsOrOpens}
use Rattle.cmd_node.specs.Ends.{fault_id}
use Rattle.cmd_node.specs.Opening.{RunInput, together_at_opening}
use Rattle.cmd_node.specs.Run.{AreStopped}
use Rattle.cmd_node.specs.Stands.{AreOpened, runner_disk}
use Rattle.cmd_node.specs.Taking.{HasCause}
use Rattle.cmd_node.specs.Turns.{Together, all_turns, first_turns, turning_at}
use Rattle.cmd_node.specs.WholeRun.{HoldsState, Tell, TellsState, after_turns}
use Rattle.cmd_node.specs.declared.fault.Fault.{Fault}
use Rattle.cmd_node.specs.declared.runner.Runner.{Runner}
use Rattle.cmd_node.proofs.Ending.{an_item, some_same}
use Rattle.cmd_node.proofs.Parts.{cut_as}
use Rattle.cmd_node.proofs.Sent.{all_begin, cut_begins}
use Rattle.cmd_node.proofs.WholeRun.{holds_state, opened_state}

none_is : {A : Type 0} (o : Option A) → IsNone o → o ≡ None
none_is None is = refl
none_is (Some x) is = absurd (cc (is))

-- a disk of which a call failed at its opening
pub unopened : {D : Type 0} {disk : Ghosts D} (before after : D) → disk.tells before ≡ true → FailsToOpen disk before after → KeepsOrOpens disk before after
unopened before after told (inl unread) = inl (unread.images told)
unopened before after told (inr part) = inr (part.found, part.finds.state told, part.images told)

module _ {D F : Type 0} {disk : Ghosts D}
    (durable : (store : Durable D disk) → durable_fault store ≡ None → disk.tells (durable_disk store) ≡ true →
    AlwaysStandsForState (disk.contents (durable_disk store)) (durable_state store))
    (one_state : (image : List ℕ) (a b : Stored) → StandsForState image a → StandsForState image b → a ≡ b)
    (ids : List ℕ) (runners : List (Runner D F disk)) (disks_old disks last : List (Option D)) (stopped : AreStopped runners disks last) where
  -- the disk of one that was opened
  opened_holds : AreOpened runners disks_old ids → (i : ℕ) (before after : D) (state : Stored) → i < length runners →
      slice_index_or disks_old i None ≡ Some before → slice_index_or last i None ≡ Some after → TellsState disk before state →
      HoldsState disk after (after_puts (opening_puts state) state)
  opened_holds are i before after state low was is held =
      let some = an_item runners i low in
      let runner = slice_index_or runners i some in
      let one = are i some low in
      let told = one.tells before was ∙ held.tells in
      subst (λ d. HoldsState disk d (after_puts (opening_puts state) state)) (some_same (sym (stopped.stopped i some low) ∙ is)) (record {
        tells = told;
        stands = subst (AlwaysStandsForState (disk.contents (runner_disk runner))) (opened_state one_state before (durable_of runner.server) state (one.opens before was) held)
            (durable (durable_of runner.server) (runner.server.kept ∙ none_is (fault_of runner.server) one.works) told);
      })

  module _ {L : Type 0} (coming : L → Option (List Received)) (sent : L → Option (List RawFrame)) (rules : Rules) (turns : ℕ) (links_old links : List L)
      (readings_old readings : Option (List ℕ)) (fault : Fault) where
    -- of the one that was refused, what its cause says
    pub at_opening : (Holds : D → D → Type 0) → ((before after : D) → disk.tells before ≡ true → HasCause disk before after (slice_index ids (length runners)) fault → Holds before after) →
        IsCutOpening coming sent rules turns ids runners links_old links disks_old disks readings_old readings fault →
        IsCutAtOpening disk ids links_old links disks_old last readings_old readings Holds (fault_id fault)
    at_opening Holds by_cause cut = record {
      place = length runners;
      within = cut.within;
      id_is = cut.id_is;
      untouched = cut.untouched;
      readings_are = cut.readings_are;
      stored_is = opened_holds cut.opened;
      own_is = λ before after was is told.
          let now = sym (stopped.others (length runners) (omega arith)) ∙ is in (
            cut.refused.tells before after was now ∙ told,
            by_cause before after told (cut.refused.cause before after was now),
          );
      others = λ i high. stopped.others i (omega (arith, high)) ∙ cut.behind i high;
    }

    pub in_turns : (Named : ℕ → Together → Type 0) →
        ((place : ℕ) (before : Together) → slice_index ids place ≡ fault_id fault → CalledBy fault (caller_at place before) → Named place before) →
        (cut : IsCutTurning coming sent rules turns ids runners links_old links disks_old disks readings_old readings fault) (given : RunInput) →
        Tell coming sent disk links_old disks_old readings_old given →
        AreCutTurns coming sent links readings (length ids) (HoldsAt disk last) (HoldsPartAt disk last) Named turns (together_at_opening rules ids given)
    in_turns Named named cut given tell =
        let telling = cut.telling given tell in
        let turning = cut.cut given tell in
        let turn = turning.turn in
        let place = turn.place in
        let before = first_turns place (all_turns (length runners) turning.taken (together_at_opening rules ids given)) in
        let state = (before.running place).stored in
        let here = an_item runners place turn.within in
        subst (λ n. AreCutTurns coming sent links readings n (HoldsAt disk last) (HoldsPartAt disk last) Named turns (together_at_opening rules ids given)) cut.all (record {
          taken = turning.taken;
          fewer = turning.fewer;
          uncalled = turning.uncalled;
          turn = record {
            place = place;
            within = turn.within;
            named = named place before (sym (cut.ids_are place here turn.within) ∙ turn.named.0 here) turn.named.1;
            uncalled = turn.uncalled;
            cut = record {
              readings_are = turn.cut.readings_are;
              coming_is = turn.cut.coming_is;
              sent_is = turn.cut.sent_is;
              stored_is = λ i low other after is.
                  let some = an_item runners i low in
                  holds_state coming sent durable (slice_index_or runners i some) (before.running i) after (turn.cut.stored_is i low other some) (telling i some low)
                  (some_same (sym (stopped.stopped i some low) ∙ is));
              same = turn.cut.same;
              own_is = λ link. cut_as (PutsAt runners place state) (HoldsPartAt disk last place state)
                  (λ puts part after is. subst (λ d. HoldsStateInPart disk d state puts) (some_same (sym (stopped.stopped place here turn.within) ∙ is))
                  (part here (telling place here turn.within))) (next_reading before.readings) (turning_at place before) (coming (slice_index_or links place link)) (turn.cut.own_is link);
            };
          };
        })

    -- what each link was sent by then
    pub cut_begins_so : (given : RunInput) → Tell coming sent disk links_old disks_old readings_old given → length links_old ≡ length ids →
        IsCut coming sent rules turns ids runners links_old links disks_old disks readings_old readings fault → (i : ℕ) (link : L) → i < length ids →
        (frames : List RawFrame) × (sent (slice_index_or links i link) ≡ Some frames) × IsPrefix frames ((after_turns rules turns ids given).running i).sent
    cut_begins_so given tell each (inl opening) i link low =
        (given.sent i, ap (λ l. sent (slice_index_or l i link)) opening.untouched ∙ tell.sent_is i link (omega (arith, each, low)), all_begin (length ids) turns (together_at_opening rules ids given) i)
    cut_begins_so given tell each (inr turning) i link low =
        let cut = in_turns (λ place before. slice_index ids place ≡ fault_id fault) (λ place before here called. here) turning given tell in
        let turn = cut.turn in
        let before = first_turns turn.place (all_turns (length ids) cut.taken (together_at_opening rules ids given)) in
        ((before.running i).sent, turn.cut.sent_is i link low, cut_begins (length ids) cut.taken turns turn.place (together_at_opening rules ids given) i turn.within cut.fewer)
