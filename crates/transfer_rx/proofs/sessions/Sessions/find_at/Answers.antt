use Rattle.std.proofs.Common.{◌≡◌, true, false, [], get_or, length, None, ◌∙◌, ap, arith, rules, subst, sym}
use Rattle.std.proofs.lemmas.List.{get_or_default}
use Rattle.transfer_rx.specs.Chains.{is_of_key}
use Rattle.transfer_rx.specs.Places.{has_key, left}
use Rattle.transfer_rx.proofs.Comes.{at_place, of_other}
use Rattle.transfer_rx.proofs.Found.{same_key-true}
use Rattle.transfer_rx.proofs.Places.{left-by_place}
use Rattle.transfer_rx.proofs.sessions.Sessions.find_at.Goals as goal

pub returns-then-not-is_of_key-clause-found : goal.returns-then-not-is_of_key-clause-found
returns-then-not-is_of_key-clause-found g c = λ places s.
    let size : length c.args.self.now.progress ≡ g.row.S = search rules in
    let other : is_of_key c.args.key (get_or c.args.self.now.progress c.args.place None) ≡ false =
    sym (ap (is_of_key c.args.key) (get_or_default c.args.self.now.progress c.args.place c.index-self-place.result None (omega (arith, size))))
    ∙ sym c.is_of_key.ensures ∙ c.if-not-is_of_key.true in
    ap (has_key c.args.key) (left-by_place c.args.now places c.args.place)
    ∙ of_other c.args.key c.args.now (get_or c.args.self.now.progress c.args.place None) (get_or c.args.self.now.pool c.args.place [])
    (get_or places c.args.place None) (s.each c.args.place (omega (arith, size))) other

pub returns-in-Some-clause-crc : goal.returns-in-Some-clause-crc
returns-in-Some-clause-crc g c = λ signature h.
    let size : length c.args.self.now.progress ≡ g.row.S = search rules in
    let mine : is_of_key c.args.key (get_or c.args.self.now.progress c.args.place None) ≡ true =
    sym (ap (is_of_key c.args.key) (get_or_default c.args.self.now.progress c.args.place c.index-self-place.result None (omega (arith, size))))
    ∙ sym c.is_of_key.ensures ∙ c.if-not-is_of_key.false in
    let same = sym (same_key-true c.args.key c.in-Some.progress.key (subst (λ p. is_of_key c.args.key p ≡ true) c.in-Some.ensures.same mine)) in
    record { own = same; crc = h c.args.place c.in-Some.progress c.in-Some.ensures.same same }

pub returns-in-Some-clause-found : goal.returns-in-Some-clause-found
returns-in-Some-clause-found g c = λ places s.
    let size : length c.args.self.now.progress ≡ g.row.S = search rules in
    let mine : is_of_key c.args.key (get_or c.args.self.now.progress c.args.place None) ≡ true =
    sym (ap (is_of_key c.args.key) (get_or_default c.args.self.now.progress c.args.place c.index-self-place.result None (omega (arith, size))))
    ∙ sym c.is_of_key.ensures ∙ c.if-not-is_of_key.false in
    let same = sym (same_key-true c.args.key c.in-Some.progress.key (subst (λ p. is_of_key c.args.key p ≡ true) c.in-Some.ensures.same mine)) in
    at_place c.args.self.now.pool c.args.key (left c.args.now places) c.args.place c.in-Some.progress same
    (c.in-Some.ensures.recent places s)
