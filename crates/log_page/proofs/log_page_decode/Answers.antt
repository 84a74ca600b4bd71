use Rattle.std.proofs.Common.{◌∙◌, ◌≤◌, sym, subst, ap, [], Some, length, ℕ, List}
use Rattle.cmd_decode.specs.Ends.{Decodes}
use Rattle.outside.specs.Contents.{MemoryInput}
use Rattle.log_page.proofs.log_page_decode.Goals as goal

pub returns : goal.returns
returns c = record {
  decodes = λ few. record {
    status = c.decode-status.result;
    whole = c.decode-status.new.sink.bytes.items;
    left = Some c.decode-status.new.source.left;
    read = c.decode-status.new.source.faults;
    wrote = c.decode-status.new.sink.faults;
    is_code = c.told.ensures.code;
    is_len = c.told.ensures.len ∙ ap length c.written.ensures;
    shown = λ fits. c.told.ensures.shown (subst (λ (xs : List ℕ). length xs ≤ length c.told.new.room) (sym c.written.ensures) fits) ∙ c.written.ensures;
    says =
        subst (λ (input : MemoryInput). Decodes c.args.name.now c.args.part c.args.payload.now (Some input.left) (Some c.decode-status.new.source.left) input.faults
        c.decode-status.new.source.faults 0 c.decode-status.new.sink.faults (Some []) (Some c.decode-status.new.sink.bytes.items) c.decode-status.result) c.new-source.ensures
        (subst (λ (n : ℕ). Decodes c.args.name.now c.args.part c.args.payload.now (Some c.new-source.result.left) (Some c.decode-status.new.source.left) c.new-source.result.faults
        c.decode-status.new.source.faults n c.decode-status.new.sink.faults (Some []) (Some c.decode-status.new.sink.bytes.items) c.decode-status.result) c.new-sink.ensures.faults
        (subst (λ (xs : List ℕ). Decodes c.args.name.now c.args.part c.args.payload.now (Some c.new-source.result.left) (Some c.decode-status.new.source.left) c.new-source.result.faults
        c.decode-status.new.source.faults c.new-sink.result.faults c.decode-status.new.sink.faults (Some xs) (Some c.decode-status.new.sink.bytes.items) c.decode-status.result) c.new-sink.ensures.empty
        c.decode-status.ensures.decodes));
  };
}
