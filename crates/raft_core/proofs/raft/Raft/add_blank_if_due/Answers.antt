use Rattle.std.proofs.Common.{rules, [], ◌∷◌, true, false, Some, None, refl, sym, ◌∙◌}
use Rattle.can_frame.specs.Log.{blank}
use Rattle.raft_log.specs.declared.origin.TheConstants.{WIN}
use Rattle.raft_log.specs.DurableViews.{durable_state}
use Rattle.raft_model.specs.Server.Put.{PutEntry, PutLonger}
use Rattle.raft_core.specs.Handled.{is_moment}
use Rattle.raft_core.specs.StoredPuts.{with_origin}
use Rattle.raft_core.proofs.Blanks.{blank_added, blank_failed, no_blank}
use Rattle.raft_core.proofs.Proposing.{fits_grown, same_puts}
use Rattle.raft_core.proofs.Puts.{does}
use Rattle.raft_core.proofs.raft.Raft.add_blank_if_due.Goals as goal

pub returns-in_err-append-clause-moves : goal.returns-in_err-append-clause-moves
returns-in_err-append-clause-moves g c = λ members n p t st given is before led.
    let raft = c.args.self.now in
    let s = durable_state c.args.d.now in
    let e = blank s.term in
    let fault = c.in_err-append.field-0.0 in
    blank_failed members raft.me n given p t c.args.d.now raft st (is_moment members raft.me t before p) (sym (c.owes_blank.ensures.owes members p t st before led) ∙ c.if-owes_blank.true) is _ _ fault (search rules)
    (does (with_origin WIN (PutEntry e ∷ PutLonger e ∷ [])) _ c.args.d.now _ false (Some fault) tt refl (same_puts WIN s e _ (search rules)) c.in_err-append.ensures.puts c.in_err-append.ensures.fault)

pub returns-in_ok-append-clause-moves : goal.returns-in_ok-append-clause-moves
returns-in_ok-append-clause-moves g c = λ members n p t st given is before led.
    let raft = c.args.self.now in
    let s = durable_state c.args.d.now in
    let e = blank s.term in
    blank_added members raft.me n given p t c.args.d.now raft st (is_moment members raft.me t before p) (sym (c.owes_blank.ensures.owes members p t st before led) ∙ c.if-owes_blank.true) is _
    (does (with_origin WIN (PutEntry e ∷ PutLonger e ∷ [])) _ c.args.d.now _ true None tt refl (same_puts WIN s e _ (search rules)) c.in_ok-append.ensures.puts c.in_ok-append.ensures.fault)

pub returns-else-owes_blank-clause-moves : goal.returns-else-owes_blank-clause-moves
returns-else-owes_blank-clause-moves g c = λ members n p t st given is before led.
    let raft = c.args.self.now in
    no_blank members raft.me n given p t c.args.d.now raft st (is_moment members raft.me t before p) (sym (c.owes_blank.ensures.owes members p t st before led) ∙ c.if-owes_blank.false) (c.puts_in_turn.ensures.nothing c.args.d.now)

pub returns-in_ok-append-clause-fits : goal.returns-in_ok-append-clause-fits
returns-in_ok-append-clause-fits g c = fits_grown c.args.self.now (durable_state c.args.d.now) (durable_state c.append.new.self) _ WIN c.requires.fits (c.in_ok-append.ensures.puts.state refl)
