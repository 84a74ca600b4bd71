use Rattle.std.proofs.Common.{rules, true, false, Some, None, refl}
use Rattle.raft_log.specs.DurableViews.{durable_state}
use Rattle.raft_core.specs.StoredPuts.{store_of}
use Rattle.raft_core.proofs.Judged.{no_term_puts, raised_stands, term_made}
use Rattle.raft_core.proofs.Puts.{fails, none_made}
use Rattle.raft_core.proofs.raft.Raft.raise.Goals as goal

pub returns-in_err-set_term-clause-puts : goal.returns-in_err-set_term-clause-puts
returns-in_err-set_term-clause-puts g c = λ origin.
    fails _ c.args.d.now _ c.in_err-set_term.field-0.0 _ (search rules) (term_made origin c.args.d.now _ false (Some c.in_err-set_term.field-0.0) c.args.term refl (search rules) c.in_err-set_term.ensures.puts c.in_err-set_term.ensures.fault)

pub returns-in_ok-set_term-clause-puts : goal.returns-in_ok-set_term-clause-puts
returns-in_ok-set_term-clause-puts g c = λ origin. term_made origin c.args.d.now _ true None c.args.term refl (search rules) c.in_ok-set_term.ensures.puts c.in_ok-set_term.ensures.fault

pub returns-else-term-clause-puts : goal.returns-else-term-clause-puts
returns-else-term-clause-puts g c = λ origin.
    none_made origin _ c.args.d.now _ (no_term_puts (store_of (durable_state c.args.d.now)) c.args.term (search rules)) (c.puts_in_turn.ensures.nothing c.args.d.now)

pub returns-in_ok-set_term-clause-stands : goal.returns-in_ok-set_term-clause-stands
returns-in_ok-set_term-clause-stands g c = λ members p t st.
    raised_stands c.args.self.now c.step_down.new.self members (durable_state c.args.d.now) (durable_state c.set_term.new.self) p t c.args.now c.args.term st (search rules) (c.in_ok-set_term.ensures.puts.state refl) c.step_down.ensures
