use Rattle.std.proofs.Common.{◌+◌, ◌++◌, sym, ap, ◌∙◌, refl, arith, inl, inr, []}
use Rattle.std.proofs.KnownBytes.{Appends-nil, Appends-trans}
use Rattle.std.proofs.lemmas.Bool.{true≢false}
use Rattle.std.proofs.lemmas.Bool.Decides.{nat_tests}
use Rattle.bus_spec.specs.Cluster.{after_row}
use Rattle.allocator_app.proofs.Coming.{bad-row, beyond, goes-more, goes-nil, refused-row}
use Rattle.allocator_app.proofs.Rest.{found-as, read_below, read_usable, rows_taken}
use Rattle.cmd_io.proofs.Written.{front-on, grows-refl, grows-trans, on_err}
use Rattle.allocator_app.proofs.replay.take_rows.Goals as goal

pub row-requires-clause-filled : goal.row-requires-clause-filled
row-requires-clause-filled g c = read_usable c.in-Row.row c.rows.input c.next_row-next.new.input (found-as _ _ _ _ c.in-Row.is c.next_row-next.ensures.found)

pub row-requires-clause-preferred : goal.row-requires-clause-preferred
row-requires-clause-preferred g c = read_below c.in-Row.row c.rows.input c.next_row-next.new.input (found-as _ _ _ _ c.in-Row.is c.next_row-next.ensures.found)

pub rows-init : goal.rows-init
rows-init g c = record {
  room = c.requires.room;
  accepts = record { members = refl; allocatees = refl };
  kept = refl;
  grows = omega arith;
  shorter = omega arith;
  some = inr refl;
  grew = grows-refl _;
  came = λ first is. (
    first,
    is,
    ([], λ more. goes-nil first _ (c.logs_give_once.ensures c.args.world.now first is), Appends-nil _),
  );
}

-- where the rows stop

pub returns-then-is_empty-clause-rows : goal.returns-then-is_empty-clause-rows
returns-then-is_empty-clause-rows g c =
    rows_taken c.args.limit c.args.world.now c.rows.world c.rows.world c.args.input.now c.rows.input _ _ _ _ _ _ refl c.rows.invariant.shorter c.rows.invariant.came (λ w is. refl)

pub returns-then-taken-limit-clause-rows : goal.returns-then-taken-limit-clause-rows
returns-then-taken-limit-clause-rows g c =
    rows_taken c.args.limit c.args.world.now c.rows.world c.rows.world c.args.input.now c.rows.input _ _ _ _ _ _ refl c.rows.invariant.shorter c.rows.invariant.came
    (λ w is more. beyond c.args.limit w c.rows.input more
    (let rows = is.members.rows in let count = c.taken.ensures in let full = c.if-taken-limit.true in grind (arith, nat_tests, rows, count, full))
    (λ empty. true≢false (sym (c.is_empty.ensures.1 empty) ∙ c.if-is_empty.false)))

pub returns-in-NoRow-clause-rows : goal.returns-in-NoRow-clause-rows
returns-in-NoRow-clause-rows g c =
    rows_taken c.args.limit c.args.world.now c.rows.world c.rows.world c.args.input.now c.rows.input _ _ _ _ _ _ refl c.rows.invariant.shorter c.rows.invariant.came
    (λ w is more. bad-row c.args.limit w _
    (let rows = is.members.rows in let count = c.taken.ensures in let low = c.if-taken-limit.false in let within = c.rows.invariant.room.within in
    grind (arith, nat_tests, rows, count, low, within))
    ((found-as _ _ _ _ c.in-NoRow.is c.next_row-next.ensures.found).1 more))

pub returns-in-Incomplete-clause-rows : goal.returns-in-Incomplete-clause-rows
returns-in-Incomplete-clause-rows g c =
    rows_taken c.args.limit c.args.world.now c.rows.world c.rows.world c.args.input.now c.rows.input _ _ _ _ _ _ refl c.rows.invariant.shorter c.rows.invariant.came
    (λ w is. sym (found-as _ _ _ _ c.in-Incomplete.is c.next_row-next.ensures.found).0)

pub returns-in-Err-clause-rows : goal.returns-in-Err-clause-rows
returns-in-Err-clause-rows g c =
    rows_taken c.args.limit c.args.world.now c.rows.world c.row.new.self c.args.input.now c.rows.input _ _ _ _ _ _ (c.in-Err.ensures.unchanged refl)
    c.rows.invariant.shorter c.rows.invariant.came
    (λ w is more. refused-row c.args.limit w c.in-Row.row c.in-Err.why c.rows.input _ more (found-as _ _ _ _ c.in-Row.is c.next_row-next.ensures.found)
    (let rows = is.members.rows in let count = c.taken.ensures in let low = c.if-taken-limit.false in let within = c.rows.invariant.room.within in
    grind (arith, nat_tests, rows, count, low, within))
    (c.in-Err.ensures.refused w is))

pub rows-preserved : goal.rows-preserved
rows-preserved g c =
    let so_far = c.rows.invariant in
    let room = so_far.room.within in
    let frames = so_far.room.frames in
    let taken = c.in-Ok.ensures.taken in
    let left = c.in-Ok.ensures.left in
    let count = c.taken.ensures in
    let low = c.if-taken-limit.false in
    let line = c.as_bytes.ensures.bytes ∙ c.tell.ensures.line in
    record {
      room = record { within = grind (arith, nat_tests, room, taken, count, low); frames = omega (arith, frames, taken, left) };
      accepts = record {
        members = c.in-Ok.ensures.accepts ∙ so_far.accepts.members;
        allocatees = c.in-Ok.ensures.aaccepts ∙ so_far.accepts.allocatees;
      };
      kept = c.in_ok-line.ensures.faults.kept ∙ so_far.kept;
      grows = omega (arith, so_far.grows, taken);
      shorter = omega (arith, so_far.shorter, (found-as _ _ _ _ c.in-Row.is c.next_row-next.ensures.found).shorter);
      some = inl (omega (arith, so_far.grows, taken));
      grew = grows-trans _ _ _ so_far.grew c.in_ok-line.ensures.told.grew;
      came = λ first is.
          let far = so_far.came first is in
          let told = c.in-Ok.ensures.told far.0 far.1 in
          let now = c.in-Ok.ensures.accepted far.0 far.1 in
          let rows = far.1.members.rows in (
            after_row far.0 c.in-Row.row,
            now,
            (
              far.2.0 ++ c.as_bytes.result.now,
              goes-more first far.0 c.in-Row.row c.in-Ok.told c.args.input.now c.rows.input _ far.2.0 c.as_bytes.result.now _
                  far.2.1 (found-as _ _ _ _ c.in-Row.is c.next_row-next.ensures.found) told.0 told.1 (c.logs_give_once.ensures c.rows.world far.0 far.1) (c.in-Ok.ensures.kept far.0 far.1) (c.logs_give_once.ensures c.row.new.self (after_row far.0 c.in-Row.row) now) (c.taken-in-rows.ensures ∙ taken ∙ ap (λ n. n + 1) rows) line,
              Appends-trans _ _ _ far.2.0 c.as_bytes.result.now far.2.2 c.in_ok-line.ensures.told.ok,
            ),
          );
    }

-- what was written by then

pub returns-in_err-line-clause-grew : goal.returns-in_err-line-clause-grew
returns-in_err-line-clause-grew g c = grows-trans _ _ _ c.rows.invariant.grew c.in_err-line.ensures.told.grew

pub returns-in_err-line-clause-cut : goal.returns-in_err-line-clause-cut
returns-in_err-line-clause-cut g c =
    let so_far = c.rows.invariant in
    let line = c.as_bytes.ensures.bytes ∙ c.tell.ensures.line in
    let written = g.K.Sink.written in
    on_err c.from_residual.result (λ first is.
    let far = so_far.came first is in
    let told = c.in-Ok.ensures.told far.0 far.1 in
    let now = c.in-Ok.ensures.accepted far.0 far.1 in
    let rows = far.1.members.rows in (
      after_row far.0 c.in-Row.row,
      now,
      record {
        lines = far.2.0 ++ c.as_bytes.result.now;
        rest = c.next_row-next.new.input;
        goes = goes-more first far.0 c.in-Row.row c.in-Ok.told c.args.input.now c.rows.input c.next_row-next.new.input far.2.0 c.as_bytes.result.now _
            far.2.1 (found-as _ _ _ _ c.in-Row.is c.next_row-next.ensures.found) told.0 told.1 (c.logs_give_once.ensures c.rows.world far.0 far.1) (c.in-Ok.ensures.kept far.0 far.1) (c.logs_give_once.ensures c.row.new.self (after_row far.0 c.in-Row.row) now) (c.taken-in-rows.ensures ∙ c.in-Ok.ensures.taken ∙ ap (λ n. n + 1) rows) line;
        shorter = omega (arith, so_far.shorter, (found-as _ _ _ _ c.in-Row.is c.next_row-next.ensures.found).shorter);
        written = front-on (written c.args.sink.now) (written c.rows.sink) (written c.line.new.sink) c.args.output.now c.rows.output far.2.0 c.as_bytes.result.now
            so_far.grew far.2.2 c.in_err-line.ensures.told.err;
      },
    ))
