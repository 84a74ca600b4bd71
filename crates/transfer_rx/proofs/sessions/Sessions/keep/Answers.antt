use Rattle.std.proofs.Common.{◌≡◌, [], None, get_or, length, ◌∙◌, arith, rules}
use Rattle.transfer_rx.proofs.Ages.{kept_since, set_since}
use Rattle.transfer_rx.proofs.Filled.{kept_length, same_place, set_filled}
use Rattle.transfer_rx.proofs.Used.{set_unused}
use Rattle.transfer_rx.proofs.sessions.Sessions.keep.Goals as goal

pub invariant_of-self : goal.invariant_of-self
invariant_of-self g c =
    let size : length c.args.self.now.progress ≡ g.row.S = search rules in
    record {
      few = c.args.self.now.few;
      blocks = c.args.self.now.blocks;
      chains = c.keep_at.ensures.size ∙ c.args.self.now.chains;
      filled =
          rw c.keep_at.ensures.kept
          (set_filled c.args.self.now.progress c.args.self.now.pool c.keep_at.new.pool c.args.place c.args.progress c.args.self.now.filled (omega (arith, c.requires.place, c.args.self.now.within))
          c.keep_at.ensures.others
          (kept_length c.args.progress (get_or c.args.self.now.pool c.args.place []) (get_or c.keep_at.new.pool c.args.place [])
          (get_or c.args.self.now.progress c.args.place None) (c.args.self.now.filled c.args.place (omega (arith, c.requires.place, c.args.self.now.within))) c.requires.same
          (same_place c.args.progress c.keep_at.new.pool c.args.self.now.pool c.args.place c.keep_at.ensures.same) c.keep_at.ensures.empty));
      since =
          rw c.keep_at.ensures.kept
          (set_since c.args.self.now.oldest c.args.self.now.progress c.args.place c.args.progress (omega (arith, c.requires.place, c.args.self.now.within)) c.args.self.now.since
          (kept_since c.args.self.now.oldest c.args.progress (get_or c.args.self.now.progress c.args.place None) c.requires.same
          (c.args.self.now.since c.args.place)));
      within = c.args.self.now.within;
      unused =
          rw c.keep_at.ensures.kept
          (set_unused c.args.self.now.used c.args.self.now.used c.args.self.now.progress c.args.place c.args.progress (omega arith) c.requires.place c.args.self.now.unused);
    }

pub returns-clause-kept : goal.returns-clause-kept
returns-clause-kept g c = same_place c.args.progress c.keep_at.new.pool c.args.self.now.pool c.args.place c.keep_at.ensures.same
