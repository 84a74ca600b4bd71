use Rattle.std.proofs.Common.{rules, List, [], ◌∷◌, ap, sym, subst}
use Rattle.std.specs.Prelude.{None, is_ok}
use Rattle.raft_log.specs.Allowed.{nexts_after}
use Rattle.raft_log.specs.Calls.{WritesInOrder}
use Rattle.raft_log.specs.StateViews.{stored_of}
use Rattle.raft_log.specs.Stored.{Put, Stored, origin_puts}
use Rattle.raft_log.specs.Stored.Put.{PutVersion}
use Rattle.raft_log.proofs.AllowedPuts.{still_allowed}
use Rattle.raft_log.proofs.InTurn.{cut_by, fault_after, on_ok, puts_after}
use Rattle.raft_log.proofs.Migrating.{puts_of_older}
use Rattle.raft_log.proofs.durable.Durable.migrate.Goals as goal

pub returns-in_err-put_origins-clause-puts : goal.returns-in_err-put_origins-clause-puts
returns-in_err-put_origins-clause-puts g c =
    let old = c.args.self.now in
    let s = stored_of old.state in
    subst (λ (puts : List Put). WritesInOrder puts old c.put_origins.new.self (is_ok c.from_residual.result)) (sym (puts_of_older s c.requires.older))
    (cut_by None (origin_puts 0 s.log s.origins) (PutVersion ∷ []) old c.put_origins.new.self c.from_residual.result c.in_err-put_origins.field-0.0 (search rules) c.in_err-put_origins.ensures.puts)

pub returns-clause-puts : goal.returns-clause-puts
returns-clause-puts g c =
    let old = c.args.self.now in
    let s = stored_of old.state in
    subst (λ (puts : List Put). WritesInOrder puts old c.make.new.self (is_ok c.make.result)) (sym (puts_of_older s c.requires.older))
    (puts_after None None (origin_puts 0 s.log s.origins) (PutVersion ∷ []) old c.put_origins.new.self c.make.new.self _ c.in_ok-put_origins.ensures.puts (λ works. c.in_ok-put_origins.ensures.fault)
    (λ zs t allowed. still_allowed zs t (nexts_after (origin_puts 0 s.log s.origins) None) allowed) c.make.ensures.puts)

pub returns-clause-fault : goal.returns-clause-fault
returns-clause-fault g c = fault_after c.args.self.now c.put_origins.new.self _ _ c.in_ok-put_origins.ensures.fault (λ works. c.make.ensures.fault)

pub returns-clause-version : goal.returns-clause-version
returns-clause-version g c = on_ok c.make.result _ (λ done. ap (λ (s : Stored). s.version) (c.make.ensures.puts.state done))
