use Rattle.std.proofs.Common.{length, ap, ◌∙◌, sym, refl, arith, inl, inr, length-append}
use Rattle.std.proofs.lemmas.Bool.{true≢false}
use Rattle.std.proofs.KnownBytes.{Appends-nil}
use Rattle.replay_text.specs.Lines.{after_line}
use Rattle.allocator_app.proofs.Reading.{ended_taken, ended_unended, flush_in_part, nearer, read_in_part, read_on, read_stopped, rows_in_part, some_length, start, took_all, waited_on}
use Rattle.cmd_io.proofs.Written.{grows-appended, grows-front, grows-refl, grows-trans}
use Rattle.allocator_app.proofs.replay.read_rows.Goals as goal

pub reading-init : goal.reading-init
reading-init g c = record {
  room = c.requires.room;
  accepts = record { members = refl; allocatees = refl };
  flushed = c.requires.flushed;
  short = let empty = ap length c.new-input.ensures in omega (arith, empty);
  unended = ap after_line c.new-input.ensures;
  another = inl c.new-input.ensures;
  source_kept = refl;
  sink_kept = refl;
  grew = grows-refl _;
  told = λ bytes told first is. (
    first,
    is,
    start first (c.logs_give_once.ensures c.args.world.now first is) bytes _ _ told c.new-input.result c.new-input.ensures (Appends-nil _),
  );
}

pub returns-then-is_empty-clause-rows : goal.returns-then-is_empty-clause-rows
returns-then-is_empty-clause-rows g c = λ bytes told first is.
    let so_far = c.reading.invariant in
    let more = rw c.in-Ok-false.field-0-test at c.in-Ok-false.ensures.more in
    let far = so_far.told bytes told first is in
    (far.0, far.1, ended_taken _ first far.0 bytes _ _ _ _ _ _ _ far.2 more so_far.flushed (c.is_empty.ensures.0 c.if-is_empty.true))

pub returns-else-is_empty-clause-rows : goal.returns-else-is_empty-clause-rows
returns-else-is_empty-clause-rows g c = λ bytes told first is.
    let so_far = c.reading.invariant in
    let more = rw c.in-Ok-false.field-0-test at c.in-Ok-false.ensures.more in
    let far = so_far.told bytes told first is in (
      far.0,
      far.1,
      ended_unended _ first far.0 bytes _ _ _ _ _ _ _ far.2 more so_far.flushed (λ empty. true≢false (sym (c.is_empty.ensures.1 empty) ∙ c.if-is_empty.false))
          so_far.unended so_far.short (elim so_far.another [ inl h ↦ inl h | inr h ↦ let rows = far.1.members.rows in inr (omega (arith, h, rows)) ]),
    )

-- what was written by then, and what a fault leaves

pub returns-in-Err-clause-cut : goal.returns-in-Err-clause-cut
returns-in-Err-clause-cut g c = λ bytes told first is.
    let so_far = c.reading.invariant in
    let far = so_far.told bytes told first is in
    let within = so_far.room.within in
    let rows = far.1.members.rows in
    read_in_part c.args.limit first far.0 bytes c.reading.input _ _ _ _ far.2 c.in-Err.ensures.err so_far.unended so_far.short
    (elim so_far.another [ inl h ↦ inl h | inr h ↦ inr (omega (arith, h, rows)) ]) (omega (arith, within, rows))

pub returns-in-Err-take_rows-clause-grew : goal.returns-in-Err-take_rows-clause-grew
returns-in-Err-take_rows-clause-grew g c = grows-trans _ _ _ c.reading.invariant.grew c.in-Err-take_rows.ensures.grew

pub returns-in-Err-take_rows-clause-cut : goal.returns-in-Err-take_rows-clause-cut
returns-in-Err-take_rows-clause-cut g c = λ bytes told first is.
    let so_far = c.reading.invariant in
    let more = rw c.in-Ok-true.field-0-test at c.in-Ok-true.ensures.more in
    let far = so_far.told bytes told first is in
    let end = c.in-Err-take_rows.ensures.cut far.0 far.1 in
    let within = c.take_rows.ensures.room.within in
    let rows = end.1.members.rows in
    rows_in_part c.args.limit first far.0 end.0 bytes c.reading.input _ _ _ _ _ _ _ far.2 more so_far.flushed so_far.grew
    (omega (arith, within, rows)) end.2

-- a row of the read is not taken

pub returns-then-not-are_taken-clause-rows : goal.returns-then-not-are_taken-clause-rows
returns-then-not-are_taken-clause-rows g c = λ bytes told first is.
    let so_far = c.reading.invariant in
    let more = rw c.in-Ok-true.field-0-test at c.in-Ok-true.ensures.more in
    let far = so_far.told bytes told first is in
    let end = c.in-Ok.ensures.rows far.0 far.1 in (
      end.0,
      end.1,
      read_stopped c.args.limit first far.0 end.0 bytes _ _ _ _ _ _ _ _ _ _ c.in-Ok.rows
          (λ all. true≢false (sym (c.are_taken.ensures.1 all) ∙ c.if-not-are_taken.true)) far.2 more so_far.flushed c.in-Ok.ensures.grew end.2,
    )

pub returns-then-not-are_taken-clause-grew : goal.returns-then-not-are_taken-clause-grew
returns-then-not-are_taken-clause-grew g c = grows-trans _ _ _ c.reading.invariant.grew c.in-Ok.ensures.grew

-- all rows of the read are taken

pub reading-preserved : goal.reading-preserved
reading-preserved g c =
    let so_far = c.reading.invariant in
    let more = rw c.in-Ok-true.field-0-test at c.in-Ok-true.ensures.more in
    let all = c.are_taken.ensures.0 c.if-not-are_taken.false in
    let waits = waited_on _ _ _ _ _ c.in-Ok.rows all c.in-Ok.ensures.waits in
    record {
      room = c.in-Ok.ensures.room;
      accepts = record {
        members = c.in-Ok.ensures.accepts.members ∙ so_far.accepts.members;
        allocatees = c.in-Ok.ensures.accepts.allocatees ∙ so_far.accepts.allocatees;
      };
      flushed = c.in-Ok-flush.ensures.none_waits;
      short = waits.short;
      unended = waits.unended;
      another = waits.another;
      source_kept = c.in-Ok-true.ensures.faults.kept ∙ so_far.source_kept;
      sink_kept = c.in-Ok-flush.ensures.faults.kept ∙ (c.in-Ok.ensures.faults.kept ∙ so_far.sink_kept);
      grew = grows-trans _ _ _ (grows-trans _ _ _ so_far.grew c.in-Ok.ensures.grew) (grows-appended _ _ _ c.in-Ok-flush.ensures.ok);
      told = λ bytes told first is.
          let far = so_far.told bytes told first is in
          let now = c.in-Ok.ensures.rows far.0 far.1 in (
            now.0,
            now.1,
            read_on c.args.limit first far.0 now.0 bytes _ _ _ _ _ _ _ _ _ _ _ far.2 more so_far.flushed
                (took_all c.args.limit far.0 now.0 _ _ _ _ _ _ c.in-Ok.rows all now.2) c.in-Ok-flush.ensures.ok,
          );
    }

pub reading-smaller : goal.reading-smaller
reading-smaller g c =
    let so_far = c.reading.invariant in
    let more = rw c.in-Ok-true.field-0-test at c.in-Ok-true.ensures.more in
    let all = c.are_taken.ensures.0 c.if-not-are_taken.false in
    let waits = waited_on _ _ _ _ _ c.in-Ok.rows all c.in-Ok.ensures.waits in
    nearer c.args.limit _ _ (length c.reading.input) _ _ (length more.came) c.in-Ok.ensures.grows
    c.in-Ok.ensures.room.within so_far.short waits.short (ap length more.behind ∙ length-append c.reading.input more.came)
    (some_length more.came (more.some refl)) (elim waits.nearer [ inl h ↦ inl h | inr h ↦ inr (ap length h) ])

pub returns-in-Err-flush-clause-grew : goal.returns-in-Err-flush-clause-grew
returns-in-Err-flush-clause-grew g c =
    grows-trans _ _ _ (grows-trans _ _ _ c.reading.invariant.grew c.in-Ok.ensures.grew) (grows-front _ _ _ c.in-Err-flush.ensures.err)

pub returns-in-Err-flush-clause-cut : goal.returns-in-Err-flush-clause-cut
returns-in-Err-flush-clause-cut g c = λ bytes told first is.
    let so_far = c.reading.invariant in
    let more = rw c.in-Ok-true.field-0-test at c.in-Ok-true.ensures.more in
    let all = c.are_taken.ensures.0 c.if-not-are_taken.false in
    let far = so_far.told bytes told first is in
    let end = c.in-Ok.ensures.rows far.0 far.1 in
    let within = c.in-Ok.ensures.room.within in
    let rows = end.1.members.rows in
    flush_in_part c.args.limit first far.0 end.0 bytes c.reading.input _ _ _ _ _ _ _ _ _ _ far.2 more so_far.flushed
    c.in-Ok.ensures.grew (omega (arith, within, rows))
    (took_all c.args.limit far.0 end.0 _ _ _ _ _ _ c.in-Ok.rows all end.2) c.in-Err-flush.ensures.err
