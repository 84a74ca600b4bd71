use Rattle.std.proofs.Common.{◌≡◌, ◌∙◌, [], get_or, length, arith, rules}
use Rattle.std.proofs.lemmas.List.{length-map}
use Rattle.can_frame.specs.declared.step.Why.TheVariants.{NoSession, Start}
use Rattle.transfer_rx.specs.Places.{kept, left}
use Rattle.transfer_rx.proofs.Comes.{as_dropped, as_found, as_opened, no_room, no_start}
use Rattle.transfer_rx.proofs.sessions.Sessions.session_for.Goals as goal

pub returns-in-Some-clause-found : goal.returns-in-Some-clause-found
returns-in-Some-clause-found g c = λ places sessions s a.
    as_found g.row.S c.args.self.now.pool c.args.key c.args.tail.now c.args.now (left c.args.now places) sessions
    c.in-Some.found c.restarted.result (c.in-Some.ensures.found places sessions s a) c.restarted.ensures.keeps

pub returns-then-not-tail-clause-found : goal.returns-then-not-tail-clause-found
returns-then-not-tail-clause-found g c = λ places sessions s a.
    as_dropped g.row.S c.args.self.now.pool c.args.key c.args.tail.now c.args.now (left c.args.now places) sessions Start
    (no_start g.row.S c.args.self.now.pool c.args.key c.args.tail.now c.args.now (left c.args.now places) sessions
    (c.in_default.ensures.found places sessions s a) c.if-not-tail.true)

pub returns-in-Some-free-clause-found : goal.returns-in-Some-free-clause-found
returns-in-Some-free-clause-found g c = λ places sessions s a.
    let size : length c.args.self.now.progress ≡ g.row.S = search rules in
    let same : length (left c.args.now places) ≡ length places = length-map places (kept c.args.now) in
    let free = c.in-Some-free.ensures.free places sessions s a in
    as_opened g.row.S c.args.self.now.pool c.args.key c.args.tail.now c.args.now (left c.args.now places) sessions
    c.in-Some-free.place c.opened.result (c.in_default.ensures.found places sessions s a) c.if-not-tail.false free.0
    (omega (arith, s.size, c.in-Some-free.ensures.place)) free.1 c.opened.ensures.keeps

pub returns-in-None-clause-found : goal.returns-in-None-clause-found
returns-in-None-clause-found g c = λ places sessions s a.
    as_dropped g.row.S c.args.self.now.pool c.args.key c.args.tail.now c.args.now (left c.args.now places) sessions NoSession
    (no_room g.row.S c.args.self.now.pool c.args.key c.args.tail.now c.args.now (left c.args.now places) sessions
    (c.in_default.ensures.found places sessions s a) c.if-not-tail.false (c.in-None.ensures.free places sessions s a))

pub returns-in-Some-clause-crc : goal.returns-in-Some-clause-crc
returns-in-Some-clause-crc g c = λ signature h.
    let under = c.in-Some.ensures.crc signature h in
    record {
      own = c.restarted.ensures.key ∙ under.own;
      crc = c.restarted.ensures.crc signature (get_or c.args.self.now.pool c.in-Some.found.place []) under.crc;
    }
