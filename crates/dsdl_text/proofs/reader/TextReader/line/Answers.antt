use Rattle.std.proofs.Common.{◌≡◌}
use Rattle.dsdl_text.specs.Reader.{text_of}
use Rattle.dsdl_text.proofs.Taking.{unchanged}
use Rattle.dsdl_text.proofs.reader.TextReader.line.Goals as goal

pub returns-in-Some-clause-reads : goal.returns-in-Some-clause-reads
returns-in-Some-clause-reads c = λ value reads.
    let read = c.in-Some.ensures.only value reads in
    let same : c.in-Some.line ≡ value = cc in
    rw same at c.take.ensures

pub returns-in-Some-clause-unchanged : goal.returns-in-Some-clause-unchanged
returns-in-Some-clause-unchanged c =
    unchanged (text_of c.args.self.now) (text_of c.take.new.self) c.in-Some.line c.take.result c.take.ensures
