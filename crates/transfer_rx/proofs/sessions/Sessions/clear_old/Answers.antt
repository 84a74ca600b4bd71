use Rattle.std.proofs.Common.{◌≡◌, ◌≢◌, length, get_or, None, [], ap, arith, inl, inr, rules, subst, sym, ◌∙◌}
use Rattle.std.proofs.lemmas.List.{get_or-set_other, get_or_default, length-set}
use Rattle.std.proofs.lemmas.Bool.Decides.{leb_tells}
use Rattle.transfer_rx.specs.Progress.{IsProgressAt}
use Rattle.transfer_rx.proofs.Crcs.{kept_crcs, same_there}
use Rattle.transfer_rx.proofs.Places.{all_left, one_more_kept}
use Rattle.transfer_rx.proofs.Used.{none_there}
use Rattle.transfer_rx.proofs.sessions.Sessions.clear_old.Goals as goal

pub loop-place-preserved : goal.loop-place-preserved
loop-place-preserved g c =
    let size : length c.args.self.now.progress ≡ g.row.S = search rules in
    let same = c.loop-place.invariant.size in
    let there = c.loop-place-test.true in
    let own = get_or_default c.loop-place.self.progress c.loop-place.place c.index-self-place-in-loop-place.result None (omega arith)
    ∙ c.loop-place.invariant.left c.loop-place.place (omega arith) in
    let here = get_or_default c.loop-place.self.progress c.loop-place.place c.index-self-place-in-loop-place.result None (omega arith) in
    record {
      done = λ places s i l.
          rw c.keep.ensures.progress
          (one_more_kept c.args.now c.loop-place.place c.loop-place.self.progress c.loop-place.self.pool c.keep.new.self.pool c.unless_old-progress.result places
          (omega arith) c.keep.ensures.others c.keep.ensures.kept (c.loop-place.invariant.done places s)
          (c.unless_old-progress.ensures.kept (get_or c.loop-place.self.pool c.loop-place.place []) (get_or places c.loop-place.place None)
          (subst (λ p. IsProgressAt p (get_or c.loop-place.self.pool c.loop-place.place []) (get_or places c.loop-place.place None)) (sym own)
          (subst (λ b. IsProgressAt (get_or c.args.self.now.progress c.loop-place.place None) b (get_or places c.loop-place.place None))
          (sym (c.loop-place.invariant.chains c.loop-place.place (omega arith))) (s.each c.loop-place.place (omega arith))))) i l);
      left = λ i l.
          let ne : i ≢ c.loop-place.place = λ e. omega arith in
          ap (λ progress. get_or progress i None) c.keep.ensures.progress
          ∙ get_or-set_other c.loop-place.self.progress c.loop-place.place i c.unless_old-progress.result None ne
          ∙ c.loop-place.invariant.left i (omega arith);
      chains = λ i l.
          let ne : i ≢ c.loop-place.place = λ e. omega arith in
          c.keep.ensures.others i ne ∙ c.loop-place.invariant.chains i (omega arith);
      crcs = λ signature_of h.
          rw c.keep.ensures.progress
          (kept_crcs signature_of c.loop-place.self.progress c.loop-place.self.pool c.keep.new.self.pool c.loop-place.place c.unless_old-progress.result
          (c.loop-place.invariant.crcs signature_of h) (omega arith) (same_there c.unless_old-progress.result _ _ here c.unless_old-progress.ensures.same) c.keep.ensures.others c.keep.ensures.kept);
      used = c.keep.ensures.used ∙ c.loop-place.invariant.used;
      size = ap length c.keep.ensures.progress ∙ length-set c.loop-place.self.progress c.loop-place.place c.unless_old-progress.result ∙ same;
    }

pub returns-clause-places : goal.returns-clause-places
returns-clause-places g c = λ places s.
    let size : length c.args.self.now.progress ≡ g.row.S = search rules in
    all_left c.args.now places _ _ (s.size ∙ sym c.loop-place.invariant.size)
    (λ i h. elim (leb_tells c.args.self.now.used i) [
      | inl past ↦
          let there = none_there c.args.self.now.used c.args.self.now.progress c.args.self.now.pool places c.args.self.now.unused s i past.1 in
          let none = c.loop-place.self.unused i (omega (arith, c.loop-place.invariant.used, past.1)) in
          rw (none, there) tt
      | inr within ↦ let below = within.1 in c.loop-place.invariant.done places s i (omega arith)
    ])
