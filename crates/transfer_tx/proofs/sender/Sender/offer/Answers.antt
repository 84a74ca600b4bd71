use Rattle.std.proofs.Common.{ap, length, refl, ◌∙◌}
use Rattle.can_frame.specs.Cutting.{bytes_cut}
use Rattle.transfer_tx.proofs.Cuts.{offered_count, offered_frames}
use Rattle.transfer_tx.proofs.sender.Sender.offer.Goals as goal

pub returns-clause-ok : goal.returns-clause-ok
returns-clause-ok g c =
    c.cut.ensures
    ∙ offered_frames c.args.what.now c.args.step c.args.re c.write.result c.as_slice.result.now _ _
    c.write.ensures.number (c.as_slice.ensures.value ∙ c.bytes_to_cut-bytes.ensures.bytes ∙ ap (bytes_cut c.args.what.now.signature) c.as_slice-payload.ensures.value) refl

pub returns-clause-count : goal.returns-clause-count
returns-clause-count g c = ap length (returns-clause-ok g c) ∙ offered_count c.lengths_of_cuttings.ensures.count c.args.what.now c.args.step c.args.re c.args.self.now
