use Rattle.std.proofs.Common.{◌≡◌, length, sym, ◌∙◌, arith, rules, subst}
use Rattle.std.proofs.lemmas.List.{length-map}
use Rattle.transfer_rx.specs.Filled.{IsFree}
use Rattle.transfer_rx.specs.Places.{kept, left}
use Rattle.transfer_rx.proofs.Blocks.{more}
use Rattle.transfer_rx.proofs.Filled.{same_blocks}
use Rattle.transfer_rx.proofs.Used.{front_counted, none_left, none_there}
use Rattle.transfer_rx.proofs.sessions.Sessions.free_without_old.Goals as goal

pub loop-place-init : goal.loop-place-init
loop-place-init g c =
    let blocks = c.args.self.now.blocks in
    record {
      few = omega (arith, c.free-free.ensures.free);
      old = λ places s.
          let size : length c.args.self.now.progress ≡ g.row.S = search rules in
          let used = same_blocks c.args.self.now.progress c.args.self.now.pool places s c.args.self.now.filled (c.args.self.now.chains ∙ sym size) in
          omega (arith, c.free-free.ensures.free);
    }

pub loop-place-preserved : goal.loop-place-preserved
loop-place-preserved g c = record {
  few = omega (arith, c.loop-place.invariant.few, c.old_blocks_at-free.ensures.few);
  old = λ places s.
      let size : length c.args.self.now.progress ≡ g.row.S = search rules in
      let same : length (left c.args.now places) ≡ length places = length-map places (kept c.args.now) in
      let one = more (left c.args.now places) c.loop-place.place (omega (arith, s.size)) in
      let other = more places c.loop-place.place (omega (arith, s.size)) in
      omega (arith, c.loop-place.invariant.old places s, c.old_blocks_at-free.ensures.old places s);
}

pub returns-clause-free : goal.returns-clause-free
returns-clause-free g c = λ places s.
    let size : length c.args.self.now.progress ≡ g.row.S = search rules in
    let same : length (left c.args.now places) ≡ length places = length-map places (kept c.args.now) in
    let all = front_counted c.loop-place.place (left c.args.now places) (λ i past.
    none_left c.args.self.now.used c.args.self.now.progress c.args.self.now.pool places c.args.self.now.unused s c.args.now i (omega arith)) in
    let rest = front_counted c.loop-place.place places (λ i past.
    none_there c.args.self.now.used c.args.self.now.progress c.args.self.now.pool places c.args.self.now.unused s i (omega arith)) in
    omega (arith, c.loop-place.invariant.old places s)

pub returns-then-has_none_old-clause-free : goal.returns-then-has_none_old-clause-free
returns-then-has_none_old-clause-free g c = λ places s.
    let size : length c.args.self.now.progress ≡ g.row.S = search rules in
    let used = same_blocks c.args.self.now.progress c.args.self.now.pool places s c.args.self.now.filled (c.args.self.now.chains ∙ sym size) in
    subst (λ there. IsFree g.row.N there c.free-free.result) (sym (c.has_none_old.ensures.places c.if-has_none_old.true places s))
    (omega (arith, c.free-free.ensures.free))
