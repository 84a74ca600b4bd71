use Rattle.std.proofs.Common.{◌≡◌, [], ap, subst, ◌∙◌}
use Rattle.std.specs.Io.KnownBytes.{Appends, append_known}
use Rattle.std.proofs.lemmas.List.{get_or_default}
use Rattle.cmd_io.specs.Output.{WritesFront}
use Rattle.store_audit.specs.Report.{agreed_report}
use Rattle.store_audit.specs.Stores.{committed, store_at}
use Rattle.store_audit.proofs.Ending.{agreement, ends_agreed, ends_unwritten}
use Rattle.store_audit.proofs.run.compare.Goals as goal

pub returns-in-Ok-clause-ends : goal.returns-in-Ok-clause-ends
returns-in-Ok-clause-ends g c =
    let stores = c.args.stores.now in
    let most = c.longest.result in
    let a = g.K.Sink.written c.args.sink.now in
    let b = g.K.Sink.written c.write_report.new.sink in
    let same : c.index-stores-longest.result ≡ store_at stores most = c.index-stores-longest.is ∙ get_or_default stores most _ _ c.longest.ensures.exists in
    let text = ap (λ s. agreed_report stores (committed s)) same in
    ends_agreed c.args.ids.now stores (agreed_report stores (committed (store_at stores most))) a b (agreement c.args.ids.now stores _ most c.in-Agree.ensures c.requires.readable c.longest.ensures.exists c.longest.ensures.most)
    (subst (Appends (append_known a []) b) text c.in-Ok.ensures.told.ok)

pub returns-in-Err-clause-ends : goal.returns-in-Err-clause-ends
returns-in-Err-clause-ends g c =
    let stores = c.args.stores.now in
    let most = c.longest.result in
    let a = g.K.Sink.written c.args.sink.now in
    let b = g.K.Sink.written c.write_report.new.sink in
    let same : c.index-stores-longest.result ≡ store_at stores most = c.index-stores-longest.is ∙ get_or_default stores most _ _ c.longest.ensures.exists in
    let text = ap (λ s. agreed_report stores (committed s)) same in
    ends_unwritten c.args.ids.now stores (agreed_report stores (committed (store_at stores most))) a b (agreement c.args.ids.now stores _ most c.in-Agree.ensures c.requires.readable c.longest.ensures.exists c.longest.ensures.most)
    (subst (WritesFront a b) text c.in-Err.ensures.told.err)
