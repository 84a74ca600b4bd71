use Rattle.std.proofs.Common.{◌≡◌, ◌+◌, ◌++◌, ◌∙◌, refl, sym, ap, subst, append_assoc, arith}
use Rattle.std.specs.Io.KnownBytes.{Appends, append_known}
use Rattle.std.proofs.KnownBytes.{Appends-nil, Appends-trans}
use Rattle.can_frame.specs.Log.{entry_at}
use Rattle.cmd_io.specs.Output.{WritesFront}
use Rattle.cmd_io.proofs.Written.{front-on, front-of_more, grows-refl, grows-trans, writes-failed}
use Rattle.store_audit.specs.Report.{lines_to, place_line}
use Rattle.store_audit.specs.Stores.{committed}
use Rattle.store_audit.proofs.Listing.{line_more, lines_front, no_lines}
use Rattle.store_audit.proofs.lines.write_list.Goals as goal

pub loop-earlier-init : goal.loop-earlier-init
loop-earlier-init g c =
    let start = append_known (g.K.Sink.written c.args.sink.now) c.args.output.now in
    record {
      kept = refl;
      grew = grows-refl _;
      told = subst (Appends start start) (sym (no_lines c.args.stores.now (committed c.args.store.now))) (Appends-nil start);
    }

pub loop-earlier-preserved : goal.loop-earlier-preserved
loop-earlier-preserved g c =
    let so_far = c.loop-earlier.invariant in
    let n = c.loop-earlier.earlier in
    let stores = c.args.stores.now in
    let line = c.as_bytes.result.now in
    let text : line ≡ place_line stores (n + 1) (entry_at c.args.store.now.entries.items (n + 1)) = c.as_bytes.ensures.bytes ∙ (c.place_line.ensures.text ∙ ap (place_line stores (n + 1)) c.entry_of-entry.ensures) in
    let all = line_more stores c.args.store.now n (n + 1) refl (omega arith) in
    record {
      kept = c.in_ok-line.ensures.faults.kept ∙ so_far.kept;
      grew = grows-trans _ _ _ so_far.grew c.in_ok-line.ensures.told.grew;
      told = subst (Appends _ _) (ap (λ l. lines_to stores (committed c.args.store.now) n ++ l) text ∙ sym all) (Appends-trans _ _ _ _ line so_far.told c.in_ok-line.ensures.told.ok);
    }

pub returns-in_err-line-clause-told : goal.returns-in_err-line-clause-told
returns-in_err-line-clause-told g c =
    let so_far = c.loop-earlier.invariant in
    let n = c.loop-earlier.earlier in
    let stores = c.args.stores.now in
    let store = c.args.store.now in
    let list = committed store in
    let far = lines_to stores list n in
    let line = c.as_bytes.result.now in
    let text : line ≡ place_line stores (n + 1) (entry_at c.args.store.now.entries.items (n + 1)) = c.as_bytes.ensures.bytes ∙ (c.place_line.ensures.text ∙ ap (place_line stores (n + 1)) c.entry_of-entry.ensures) in
    let more = line_more stores store n (n + 1) refl (omega arith) in
    let front = lines_front stores list (n + 1) store.commit (omega arith) in
    let all : lines_to stores list store.commit ≡ (far ++ line) ++ front.0 = front.1 ∙ ap (λ l. l ++ front.0) (more ∙ ap (λ l. far ++ l) (sym text)) in
    let written = g.K.Sink.written in
    let waited = c.args.output.now in
    writes-failed (written c.args.sink.now) (written c.line.new.sink) waited c.line.new.self (lines_to stores list store.commit) c.from_residual.result c.from_residual.ensures.0
    (subst (WritesFront (written c.args.sink.now) (written c.line.new.sink)) (append_assoc waited (far ++ line) front.0 ∙ ap (λ l. waited ++ l) (sym all))
    (front-of_more (written c.args.sink.now) (written c.line.new.sink) (waited ++ (far ++ line)) front.0
    (front-on (written c.args.sink.now) (written c.loop-earlier.sink) (written c.line.new.sink) waited c.loop-earlier.output far line so_far.grew so_far.told c.in_err-line.ensures.told.err)))

pub returns-in_err-line-clause-grew : goal.returns-in_err-line-clause-grew
returns-in_err-line-clause-grew g c = grows-trans _ _ _ c.loop-earlier.invariant.grew c.in_err-line.ensures.told.grew
