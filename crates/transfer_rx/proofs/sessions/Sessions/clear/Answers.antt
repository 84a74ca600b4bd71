use Rattle.std.proofs.Common.{◌≡◌, ◌<◌, [], None, get_or, length, ap, arith, inl, inr, replicate, rules, set, subst, sym, ◌∙◌}
use Rattle.std.proofs.lemmas.Bool.Decides.{eqb_tells}
use Rattle.std.proofs.lemmas.List.{get_or-set_other, get_or-set_same, length-set}
use Rattle.transfer_rx.specs.Ages.{IsSince}
use Rattle.transfer_rx.specs.Crcs.{HaveCrcs}
use Rattle.transfer_rx.specs.Places.{KeepSessions}
use Rattle.transfer_rx.proofs.Arrangement.{none_yet}
use Rattle.transfer_rx.proofs.Crcs.{none_yet as no_crcs}
use Rattle.transfer_rx.proofs.Places.{all_free, all_none}
use Rattle.transfer_rx.proofs.Used.{none_throughout}
use Rattle.transfer_rx.proofs.sessions.Sessions.clear.Goals as goal

pub loop-place-preserved : goal.loop-place-preserved
loop-place-preserved g c =
    let size : length c.args.self.now.progress ≡ g.row.S = search rules in
    let inside : c.loop-place.place < length c.loop-place.self.progress = omega (arith, c.loop-place-test.true, c.args.self.now.within, size, c.loop-place.invariant.size) in
    record {
      none = λ i l. elim (eqb_tells i c.loop-place.place) [
        | inl own ↦
            ap (λ progress. get_or progress i None) c.keep.ensures.progress
            ∙ ap (λ at. get_or (set c.loop-place.self.progress c.loop-place.place None) at None) own.1
            ∙ get_or-set_same c.loop-place.self.progress c.loop-place.place None None inside
        | inr other ↦
            ap (λ progress. get_or progress i None) c.keep.ensures.progress
            ∙ get_or-set_other c.loop-place.self.progress c.loop-place.place i None None other.1
            ∙ c.loop-place.invariant.none i (omega (arith, l, other.1))
      ];
      used = c.keep.ensures.used ∙ c.loop-place.invariant.used;
      size = ap length c.keep.ensures.progress ∙ length-set c.loop-place.self.progress c.loop-place.place None ∙ c.loop-place.invariant.size;
    }

pub invariant_of-self : goal.invariant_of-self
invariant_of-self g c =
    let none = none_throughout c.loop-place.self.used c.loop-place.place c.loop-place.self.progress (omega (arith, c.loop-place.invariant.used, c.loop-place-test.false)) c.loop-place.self.unused c.loop-place.invariant.none in
    record {
      few = c.loop-place.self.few;
      blocks = c.loop-place.self.blocks;
      chains = c.loop-place.self.chains;
      filled = c.loop-place.self.filled;
      since = λ place. subst (IsSince 18446744073709551615) (sym (none place)) tt;
      within = omega arith;
      unused = λ place past. none place;
    }

pub returns : goal.returns
returns g c =
    let size : length c.args.self.now.progress ≡ g.row.S = search rules in
    let none = none_throughout c.loop-place.self.used c.loop-place.place c.loop-place.self.progress (omega (arith, c.loop-place.invariant.used, c.loop-place-test.false)) c.loop-place.self.unused c.loop-place.invariant.none in
    let free = sym (all_none g.row.S c.loop-place.self.progress (c.loop-place.invariant.size ∙ size) none) in
    record {
      sessions =
          subst (λ progress. KeepSessions progress c.loop-place.self.pool []) free
          (record { places = replicate g.row.S None; stand = all_free g.row.S _; arranged = none_yet g.row.S });
      crcs = λ signature_of. subst (λ progress. HaveCrcs signature_of progress c.loop-place.self.pool) free (no_crcs g.row.S _ signature_of);
    }
