use Rattle.std.proofs.Common.{ℕ, ◌++◌, List, Some, ◌∙◌, ap}
use Rattle.transfer_rx.specs.Fronts.{front_bytes}
use Rattle.transfer_rx.specs.Heard.{delivery_with}
use Rattle.transfer_rx.proofs.receiver.Receiver.peek.Goals as goal

pub returns-clause-answer : goal.returns-clause-answer
returns-clause-answer g c = λ sessions s.
    let coming = c.in_ok-coming.coming in
    ap Some (c.fill.ensures
    ∙ ap (λ (last : List ℕ). delivery_with coming.heading (front_bytes c.args.self.now.sessions.pool coming.front ++ last)) c.data.ensures.bytes)
    ∙ c.in_ok-coming.ensures.delivery sessions s
