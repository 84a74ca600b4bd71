use Rattle.std.proofs.Common.{◌≡◌, length, Some, ◌∙◌, ap, arith, rules}
use Rattle.transfer_rx.specs.Filled.{emptied}
use Rattle.transfer_rx.proofs.Ages.{earlier, set_since}
use Rattle.transfer_rx.proofs.Crcs.{emptied_own, set_crcs}
use Rattle.transfer_rx.proofs.Filled.{emptied_keeps, emptied_other, exact, length-emptied, set_filled}
use Rattle.transfer_rx.proofs.Places.{set_stands}
use Rattle.transfer_rx.proofs.Used.{set_unused}
use Rattle.transfer_rx.proofs.sessions.Sessions.put.Goals as goal

pub invariant_of-self : goal.invariant_of-self
invariant_of-self g c =
    let size : length c.args.self.now.progress ≡ g.row.S = search rules in
    let pool = c.args.self.now.pool in
    record {
      few = c.args.self.now.few;
      blocks = c.args.self.now.blocks;
      chains = ap length c.set_place.ensures.pool ∙ length-emptied c.args.progress.taken c.args.place pool ∙ c.args.self.now.chains;
      filled =
          rw (c.set_place.ensures.kept, c.set_place.ensures.pool)
          (set_filled c.args.self.now.progress pool (emptied c.args.progress.taken c.args.place pool) c.args.place (Some c.args.progress) c.args.self.now.filled
          (omega arith) (emptied_other c.args.progress.taken c.args.place pool)
          (exact c.args.progress c.args.place pool (omega (arith, c.args.self.now.chains)) c.requires.filled));
      since =
          rw c.set_place.ensures.kept
          (set_since c.min-self.result c.args.self.now.progress c.args.place (Some c.args.progress) (omega arith)
          (earlier c.args.self.now.oldest c.min-self.result c.args.self.now.progress (omega arith) c.args.self.now.since) (omega arith));
      within = omega (arith, c.args.self.now.within);
      unused =
          rw c.set_place.ensures.kept
          (set_unused c.args.self.now.used c.max-self.result c.args.self.now.progress c.args.place (Some c.args.progress) (omega arith) (omega arith) c.args.self.now.unused);
    }

pub returns-clause-session : goal.returns-clause-session
returns-clause-session g c = λ places session s k.
    let size : length c.args.self.now.progress ≡ g.row.S = search rules in
    let pool = c.args.self.now.pool in
    rw (c.set_place.ensures.kept, c.set_place.ensures.pool)
    (set_stands c.args.self.now.progress pool (emptied c.args.progress.taken c.args.place pool) places c.args.place c.args.progress session s
    (omega arith) (emptied_other c.args.progress.taken c.args.place pool)
    (emptied_keeps c.args.progress c.args.place pool (omega (arith, c.args.self.now.chains)) session k))

pub returns-clause-crcs : goal.returns-clause-crcs
returns-clause-crcs g c = λ signature_of own h.
    let size : length c.args.self.now.progress ≡ g.row.S = search rules in
    let pool = c.args.self.now.pool in
    rw (c.set_place.ensures.kept, c.set_place.ensures.pool)
    (set_crcs signature_of c.args.self.now.progress pool (emptied c.args.progress.taken c.args.place pool) c.args.place c.args.progress h
    (omega arith) (emptied_other c.args.progress.taken c.args.place pool) (emptied_own c.args.progress c.args.place pool signature_of own))
