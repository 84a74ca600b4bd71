use Rattle.std.proofs.Common.{◌≡◌, ◌<◌, length, get_or, None, arith, rules, below_more, ◌∙◌, ap, not}
use Rattle.std.proofs.lemmas.List.{length-map}
use Rattle.transfer_rx.specs.Places.{kept, left}
use Rattle.transfer_rx.proofs.Arrangement.{has_room, is_full}
use Rattle.transfer_rx.proofs.Comes.{free_here, taken_here}
use Rattle.transfer_rx.proofs.Used.{none_left}
use Rattle.transfer_rx.proofs.sessions.Sessions.free.Goals as goal

pub returns-then-is_none-clause-free : goal.returns-then-is_none-clause-free
returns-then-is_none-clause-free g c = λ places sessions s a.
    let size : length c.args.self.now.progress ≡ g.row.S = search rules in
    let same : length (left c.args.now places) ≡ length places = length-map places (kept c.args.now) in
    let free : get_or (left c.args.now places) c.loop-place.place None ≡ None =
    free_here c.recent.result _ (get_or (left c.args.now places) c.loop-place.place None) (c.recent.ensures.recent places s) (c.is_none.ensures ∙ ap not c.if-is_none.true) in
    let room : length sessions < length (left c.args.now places) =
    has_room (left c.args.now places) sessions c.loop-place.place a (omega (arith, s.size)) free in
    (omega (arith, s.size), free)

pub loop-place-preserved : goal.loop-place-preserved
loop-place-preserved g c = λ places s.
    below_more _ _ (c.loop-place.invariant places s)
    (taken_here c.recent.result _ (get_or (left c.args.now places) c.loop-place.place None) (c.recent.ensures.recent places s) (c.is_none.ensures ∙ ap not c.if-is_none.false))

pub returns-clause-free : goal.returns-clause-free
returns-clause-free g c = λ places sessions s a.
    let size : length c.args.self.now.progress ≡ g.row.S = search rules in
    let same : length (left c.args.now places) ≡ length places = length-map places (kept c.args.now) in
    let within = c.args.self.now.within in
    let free : get_or (left c.args.now places) c.args.self.now.used None ≡ None =
    none_left c.args.self.now.used c.args.self.now.progress c.args.self.now.pool places c.args.self.now.unused s c.args.now c.args.self.now.used (omega arith) in
    let room : length sessions < length (left c.args.now places) =
    has_room (left c.args.now places) sessions c.args.self.now.used a (omega (arith, s.size)) free in
    (omega (arith, s.size), free)

pub returns-then-self-clause-free : goal.returns-then-self-clause-free
returns-then-self-clause-free g c = λ places sessions s a.
    let size : length c.args.self.now.progress ≡ g.row.S = search rules in
    let same : length (left c.args.now places) ≡ length places = length-map places (kept c.args.now) in
    let full : length sessions ≡ length (left c.args.now places) =
    is_full (left c.args.now places) sessions a (λ place l. c.loop-place.invariant places s place (omega (arith, s.size))) in
    omega (arith, s.size)
