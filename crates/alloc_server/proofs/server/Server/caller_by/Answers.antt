use Rattle.std.proofs.Common.{◌≡◌, ℕ, Some, None, false, true, sym, ap, ◌∙◌}
use Rattle.std.specs.Prelude.{max, option_map}
use Rattle.transfer_rx.specs.Reassembly.{Arrival, arrival_of}
use Rattle.transfer_rx.specs.Told.{delivery_of}
use Rattle.transfer_rx.specs.declared.transfer.Transfer.{Transfer}
use Rattle.std.specs.declared.option.Option.{Option}
use Rattle.alloc_server.specs.AnotherLog.{counts_as_told, is_told}
use Rattle.alloc_server.proofs.AnotherLog.{peeked, told, untold}
use Rattle.alloc_server.proofs.server.Server.caller_by.Goals as goal

pub returns-then-not-is_told : goal.returns-then-not-is_told
returns-then-not-is_told g c t h =
    let is : is_told t ≡ false = ap counts_as_told (sym h.member.counting) ∙ sym c.is_told.ensures ∙ c.if-not-is_told.true in
    untold t (arrival_of c.args.frame.now c.args.mark c.args.now) is

pub returns-in_default : goal.returns-in_default
returns-in_default g c t h =
    let arrival : Arrival = arrival_of c.args.frame.now c.args.mark c.args.now in
    let is : is_told t ≡ true = ap counts_as_told (sym h.member.counting) ∙ sym c.is_told.ensures ∙ c.if-not-is_told.false in
    let at = c.max-now.ensures ∙ ap (λ (n : ℕ). max n c.args.now) h.member.now in
    let none = peeked _ _ t.sessions c.args.frame.now c.args.mark _ _ _ h.setting at (c.peek.ensures.answer t.sessions h.sessions) in
    told t arrival is None (none ∙ ap (λ (o : Option Transfer). option_map delivery_of o) c.in_default.is)

pub returns : goal.returns
returns g c t h =
    let arrival : Arrival = arrival_of c.args.frame.now c.args.mark c.args.now in
    let is : is_told t ≡ true = ap counts_as_told (sym h.member.counting) ∙ sym c.is_told.ensures ∙ c.if-not-is_told.false in
    let at = c.max-now.ensures ∙ ap (λ (n : ℕ). max n c.args.now) h.member.now in
    let some = peeked _ _ t.sessions c.args.frame.now c.args.mark _ _ _ h.setting at (c.peek.ensures.answer t.sessions h.sessions) in
    c.caller_in.ensures t h ∙ told t arrival is (Some (delivery_of c.in-Some.transfer)) (some ∙ ap (λ (o : Option Transfer). option_map delivery_of o) c.in-Some.is)
