-- A run to its end: from what was handed in to what is left.
use Rattle.std.proofs.Common.{◌≡◌, ℕ, ◌<◌, List, [], length, take, true, sym, ap, ◌∙◌, subst, arith}
use Rattle.std.proofs.lemmas.List.{take_all}
use Rattle.std.specs.Prelude.{Option, Some, None, IsSome, slice_index, slice_index_or}
use Rattle.disk_model.specs.declared.disk.Disk.{Ghosts}
use Rattle.outside.specs.Readings.{next_reading}
use Rattle.outside.specs.declared.received.RawFrame.{RawFrame}
use Rattle.outside.specs.declared.received.Received.{Received}
use Rattle.cmd_node.specs.Words.{next_words, own_words, word_of}
use Rattle.raft_core.specs.StoredPuts.{store_of, vote_of}
use Rattle.raft_log.specs.declared.durable.Durable.{Durable}
use Rattle.raft_log.specs.DurableViews.{durable_disk, durable_fault, durable_state}
use Rattle.raft_log.specs.Opening.{IsReadAs, OpensTo}
use Rattle.raft_log.specs.Rules.{AlwaysStandsForState, StandsForState}
use Rattle.raft_log.specs.Stored.{Stored, after_puts, opening_puts}
use Rattle.raft_model.specs.Server.{Store}
use Rattle.alloc_spec.specs.Rules.{Rules, opening_by}
use Rattle.alloc_server.specs.Server.{StandsFor, durable_of}
use Rattle.cmd_node.specs.Opening.{RunInput, together_at_opening, readings_after}
use Rattle.cmd_node.specs.Run.{AreStopped, AreTelling}
use Rattle.cmd_node.specs.Stands.{AreOpened, AreOpenedAt, Stand, runner_disk}
use Rattle.cmd_node.specs.Steps.{Keeps}
use Rattle.cmd_node.specs.Taking.{KeepsNodes}
use Rattle.cmd_node.specs.Turn.{Running}
use Rattle.cmd_node.specs.Turns.{Together}
use Rattle.cmd_node.specs.WholeRun.{HoldsState, LeavesAll, Tell, TellsState}
use Rattle.cmd_node.specs.declared.runner.Runner.{Runner}
use Rattle.cmd_node.specs.declared.steps.LastSteps.{LastSteps}
use Rattle.cmd_node.proofs.Ending.{an_item, some_same, some_value}

same_store : (a b : Stored) → IsReadAs a b → store_of a ≡ store_of b
same_store a b is =
    ap (λ t. record { term = t; vote = vote_of a.vote; log = a.log; commit = a.commit }) is.term
    ∙ ap (λ v. record { term = b.term; vote = vote_of v; log = a.log; commit = a.commit }) is.vote
    ∙ ap (λ l. record { term = b.term; vote = vote_of b.vote; log = l; commit = a.commit }) is.log
    ∙ ap (λ c. record { term = b.term; vote = vote_of b.vote; log = b.log; commit = c }) is.commit

-- what is stored is what the allocator has
pub same_stored : {durable stored : Stored} {store : Store} → durable ≡ stored → store ≡ store_of durable → store_of stored ≡ store
same_stored is has = ap store_of (sym is) ∙ sym has

-- what an opening makes of the state that was handed in
pub opened_state : {D : Type 0} {disk : Ghosts D} → ((image : List ℕ) (a b : Stored) → StandsForState image a → StandsForState image b → a ≡ b) →
    (before : D) (durable : Durable D disk) (state : Stored) → OpensTo before durable → TellsState disk before state → durable_state durable ≡ after_puts (opening_puts state) state
opened_state {disk = disk} one_state before durable state opens told =
    opens.state ∙ ap (λ s. after_puts (opening_puts s) s) (one_state (disk.contents before).seen opens.found state (opens.finds.state told.tells) told.stands)

-- it leaves what is read of the state as it was
module _ {D : Type 0} {disk : Ghosts D} (one_state : (image : List ℕ) (a b : Stored) → StandsForState image a → StandsForState image b → a ≡ b)
    (same : (state : Stored) (count : ℕ) → IsReadAs (after_puts (take count (opening_puts state)) state) state) where
  pub opened_store : (before : D) (durable : Durable D disk) (state : Stored) → OpensTo before durable → TellsState disk before state →
      store_of (durable_state durable) ≡ store_of state
  opened_store before durable state opens told =
      let puts = opening_puts state in
      ap store_of (opened_state one_state before durable state opens told)
      ∙ ap (λ l. store_of (after_puts l state)) (sym (take_all (length puts) puts (omega arith)))
      ∙ same_store (after_puts (take (length puts) puts) state) state (same state (length puts))

  module _ {F L : Type 0} (coming : L → Option (List Received)) (sent : L → Option (List RawFrame)) (rules : Rules) (ids : List ℕ)
      (runners : List (Runner D F disk)) (links : List L) (disks : List (Option D)) (readings : Option (List ℕ)) (given : RunInput)
      (are : AreOpened runners disks ids) (count : length runners ≡ length ids) (there : (i : ℕ) → i < length ids → IsSome (slice_index_or disks i None))
      (tell : Tell coming sent disk links disks readings given) where
    -- the allocators are those that are opened on what was handed in
    pub all_opened : (after : Option (List ℕ)) (steps : LastSteps) → length links ≡ length ids → after ≡ Some (readings_after (length ids) given.readings) →
        AreOpenedAt rules runners given.readings → Keeps steps [] → Stand coming sent runners links after steps (together_at_opening rules ids given)
    all_opened after steps each read at none = record {
      each = λ i r l low.
          let one = are i r low in
          let taken = some_value (slice_index_or disks i None) (there i (omega (arith, count, low))) in
          let server = (slice_index_or runners i r).server in
          let id = (slice_index_or runners i r).id in
          let node = slice_index ids i in
          let moment = next_reading (readings_after i given.readings) in
          let words = (at i r low).words ∙ ap (λ n. next_words (own_words rules.told n)) one.id_is in
          let store = opened_store taken.0 (durable_of server) (given.stored i) (one.opens taken.0 taken.1) (tell.stored_is i taken.0 taken.1) in
          let within : i < length links = omega (arith, count, each, low) in
          record {
            id = one.id_is;
            server = subst (λ n. StandsFor server (opening_by n rules (store_of (given.stored i)) moment (word_of (next_words (own_words rules.told node))))) one.id_is
                (subst (λ s. StandsFor server (opening_by id rules s moment (word_of (next_words (own_words rules.told node))))) store
                (subst (λ w. StandsFor server (opening_by id rules (store_of (durable_state (durable_of server))) moment (word_of w))) words (at i r low).server));
            stored = opened_state one_state taken.0 (durable_of server) (given.stored i) (one.opens taken.0 taken.1) (tell.stored_is i taken.0 taken.1);
            words = words;
            coming_is = tell.coming_is i l within;
            sent_is = tell.sent_is i l within;
          };
      readings_are = read;
      lines = none;
    }

-- the disks of all tell, after turns too
pub all_telling : {D F L : Type 0} {disk : Ghosts D} (coming : L → Option (List Received)) (sent : L → Option (List RawFrame)) (ids : List ℕ)
    (runners now : List (Runner D F disk)) (links : List L) (disks : List (Option D)) (readings : Option (List ℕ)) (given : RunInput) →
    AreOpened runners disks ids → length runners ≡ length ids → ((i : ℕ) → i < length ids → IsSome (slice_index_or disks i None)) →
    Tell coming sent disk links disks readings given → KeepsNodes runners now → AreTelling now
all_telling coming sent ids runners now links disks readings given are count there tell nodes = λ i r low.
    let same = nodes.count in
    let first : i < length runners = omega (arith, same, low) in
    let taken = some_value (slice_index_or disks i None) (there i (omega (arith, count, first))) in
    (nodes.each i r r first).tells ∙ (are i r first).tells taken.0 taken.1 ∙ (tell.stored_is i taken.0 taken.1).tells

module _ {D F L : Type 0} {disk : Ghosts D} (coming : L → Option (List Received)) (sent : L → Option (List RawFrame))
    (durable : (store : Durable D disk) → durable_fault store ≡ None → disk.tells (durable_disk store) ≡ true →
    AlwaysStandsForState (disk.contents (durable_disk store)) (durable_state store)) where
  -- the disk of an allocator that was stopped
  pub holds_state : (runner : Runner D F disk) (r : Running) (after : D) → StandsFor runner.server r.allocator × (durable_state (durable_of runner.server) ≡ r.stored) →
      disk.tells (runner_disk runner) ≡ true → runner_disk runner ≡ after → HoldsState disk after r.stored
  holds_state runner r after is told same = subst (λ d. HoldsState disk d r.stored) same (record {
    tells = told;
    stands = subst (AlwaysStandsForState (disk.contents (runner_disk runner))) is.1 (durable (durable_of runner.server) is.0.works told);
  })

  pub leaves_all : (runners : List (Runner D F disk)) (links_before links : List L) (old disks : List (Option D)) (readings : Option (List ℕ))
      (steps : LastSteps) (count : ℕ) (all : Together) → length runners ≡ count → length links_before ≡ count →
      Stand coming sent runners links readings steps all → AreTelling runners → AreStopped runners old disks →
      LeavesAll coming sent disk links disks readings count all
  leaves_all runners links_before links old disks readings steps count all size each stand telling stopped =
      let within : (i : ℕ) → i < count → i < length runners = λ i low. omega (arith, size, low) in
      record {
        coming_is = λ i link low. (stand.each i (an_item runners i (within i low)) link (within i low)).coming_is;
        sent_is = λ i link low. (stand.each i (an_item runners i (within i low)) link (within i low)).sent_is;
        stored_is = λ i after low is.
            let some = an_item runners i (within i low) in
            let link = an_item links_before i (omega (arith, each, low)) in
            let one = stand.each i some link (within i low) in
            holds_state (slice_index_or runners i some) (all.running i) after (one.server, one.stored) (telling i some (within i low))
            (some_same (sym (stopped.stopped i some (within i low)) ∙ is));
        same = λ i low.
            let one = stand.each i (an_item runners i (within i low)) (an_item links_before i (omega (arith, each, low))) (within i low) in
            same_stored one.stored one.server.member.raft.store;
        readings_are = stand.readings_are;
      }
