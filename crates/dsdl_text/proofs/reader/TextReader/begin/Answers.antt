use Rattle.std.proofs.Common.{◌≡◌, Some, length, arith, ap, sym, ◌∙◌}
use Rattle.dsdl_text.specs.Sections.{latest_of, types_of}
use Rattle.dsdl_text.proofs.Types.{count_types}
use Rattle.dsdl_text.proofs.reader.TextReader.begin.Goals as goal

pub invariant_of-self : goal.invariant_of-self
invariant_of-self c = record {
  room =
      let size = count_types c.args.self.now.earlier.items (latest_of (types_of c.args.self.now.earlier.items) c.args.self.now.latest) in
      let fewer = c.count.ensures in
      rw c.replace.ensures.after (omega (arith, size, fewer));
  named = rw c.replace.ensures.after (omega (arith, ap length c.new.ensures));
}

pub invariant_of-self-in-Some : goal.invariant_of-self-in-Some
invariant_of-self-in-Some c = record {
  room =
      let was : c.args.self.now.latest ≡ Some c.in-Some.before = sym c.replace.ensures.value ∙ c.in-Some.is in
      let size = count_types c.args.self.now.earlier.items (latest_of (types_of c.args.self.now.earlier.items) (Some c.in-Some.before)) in
      let fewer = rw was at c.count.ensures in
      rw c.replace.ensures.after (omega (arith, size, fewer, c.push.ensures.len));
  named = rw c.replace.ensures.after (omega (arith, ap length c.new.ensures));
}
