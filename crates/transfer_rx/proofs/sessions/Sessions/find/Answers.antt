use Rattle.std.proofs.Common.{◌≡◌, length, ap, arith, rules, below_more, inl, inr}
use Rattle.std.proofs.lemmas.List.{length-map}
use Rattle.std.proofs.lemmas.Bool.Decides.{leb_tells}
use Rattle.transfer_rx.specs.Places.{has_key, kept, left}
use Rattle.transfer_rx.proofs.Arrangement.{none_at}
use Rattle.transfer_rx.proofs.Comes.{own_found}
use Rattle.transfer_rx.proofs.Used.{none_left}
use Rattle.transfer_rx.proofs.sessions.Sessions.find.Goals as goal

pub returns-in-Some-clause-found : goal.returns-in-Some-clause-found
returns-in-Some-clause-found g c = λ places sessions s a.
    let size : length c.args.self.now.progress ≡ g.row.S = search rules in
    let same : length (left c.args.now places) ≡ length places = length-map places (kept c.args.now) in
    own_found c.args.self.now.pool c.args.key (left c.args.now places) sessions c.in-Some.found a
    (omega (arith, s.size, c.in-Some.ensures.place)) (c.in-Some.ensures.found places s)

pub loop-place-preserved : goal.loop-place-preserved
loop-place-preserved g c = λ places s. below_more _ _ (c.loop-place.invariant places s) (c.in_default.ensures.found places s)

pub returns-clause-found : goal.returns-clause-found
returns-clause-found g c = λ places sessions s a.
    let size : length c.args.self.now.progress ≡ g.row.S = search rules in
    let same : length (left c.args.now places) ≡ length places = length-map places (kept c.args.now) in
    none_at (left c.args.now places) sessions c.args.key a.at (λ place l. elim (leb_tells c.args.self.now.used place) [
      | inl past ↦
          ap (has_key c.args.key)
          (none_left c.args.self.now.used c.args.self.now.progress c.args.self.now.pool places c.args.self.now.unused s c.args.now place past.1)
      | inr within ↦ let below = within.1 in c.loop-place.invariant places s place (omega arith)
    ])
