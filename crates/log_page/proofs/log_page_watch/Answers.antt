use Rattle.std.proofs.Common.{◌∙◌, ◌≤◌, sym, subst, ap, [], Some, length, ℕ, List}
use Rattle.can_logs.specs.declared.form.Form.{Form}
use Rattle.cmd_logs.specs.Watched.{Watches}
use Rattle.outside.specs.Contents.{MemoryInput}
use Rattle.log_page.proofs.log_page_watch.Goals as goal

pub returns : goal.returns
returns c = record {
  watches = λ few five. record {
    status = c.watch-status.result;
    whole = c.watch-status.new.sink.bytes.items;
    left = Some c.watch-status.new.source.left;
    read = c.watch-status.new.source.faults;
    wrote = c.watch-status.new.sink.faults;
    is_code = c.told.ensures.code;
    is_len = c.told.ensures.len ∙ ap length c.written.ensures;
    shown = λ fits. c.told.ensures.shown (subst (λ (xs : List ℕ). length xs ≤ length c.told.new.room) (sym c.written.ensures) fits) ∙ c.written.ensures;
    says =
        subst (λ (form : Form). Watches form c.args.lines c.args.ids.now (Some c.args.log.now) (Some c.watch-status.new.source.left) 0
        c.watch-status.new.source.faults 0 c.watch-status.new.sink.faults (Some []) (Some c.watch-status.new.sink.bytes.items) c.watch-status.result) c.form_of-form.ensures
        (subst (λ (input : MemoryInput). Watches c.form_of-form.result c.args.lines c.args.ids.now (Some input.left) (Some c.watch-status.new.source.left) input.faults
        c.watch-status.new.source.faults 0 c.watch-status.new.sink.faults (Some []) (Some c.watch-status.new.sink.bytes.items) c.watch-status.result) c.new-source.ensures
        (subst (λ (n : ℕ). Watches c.form_of-form.result c.args.lines c.args.ids.now (Some c.new-source.result.left) (Some c.watch-status.new.source.left) c.new-source.result.faults
        c.watch-status.new.source.faults n c.watch-status.new.sink.faults (Some []) (Some c.watch-status.new.sink.bytes.items) c.watch-status.result) c.new-sink.ensures.faults
        (subst (λ (xs : List ℕ). Watches c.form_of-form.result c.args.lines c.args.ids.now (Some c.new-source.result.left) (Some c.watch-status.new.source.left) c.new-source.result.faults
        c.watch-status.new.source.faults c.new-sink.result.faults c.watch-status.new.sink.faults (Some xs) (Some c.watch-status.new.sink.bytes.items) c.watch-status.result) c.new-sink.ensures.empty
        c.watch-status.ensures.watches)));
  };
}
