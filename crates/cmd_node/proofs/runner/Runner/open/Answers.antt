use Rattle.std.proofs.Common.{◌≡◌, ℕ, sym, subst}
use Rattle.cmd_node.specs.Words.{next_words, own_words, word_of}
use Rattle.raft_core.specs.StoredPuts.{store_of}
use Rattle.raft_log.specs.declared.durable.Durable.{Durable}
use Rattle.raft_log.specs.DurableViews.{durable_state}
use Rattle.alloc_spec.specs.AllocatorState.{opening}
use Rattle.alloc_spec.specs.Rules.{opening_by, rules_by}
use Rattle.alloc_server.specs.Server.{StandsFor, durable_of}
use Rattle.cmd_node.proofs.runner.Runner.open.Goals as goal

pub returns-in-Ok-clause-stands : goal.returns-in-Ok-clause-stands
returns-in-Ok-clause-stands g c =
    let rules = rules_by c.args.size c.args.told.now in
    let word : c.next-word.result ≡ word_of (next_words (own_words c.args.told.now c.args.id)) = cc (c.next-word.ensures.word, c.next-word.ensures.moved, c.new-words.ensures) in
    let server = c.learn.new.self in
    subst (λ (w : ℕ). StandsFor server (opening_by c.args.id rules (store_of (durable_state (durable_of server))) c.args.now w)) word
    (subst (λ (durable : Durable g.row.D.Denot g.D.Disk). StandsFor server (opening_by c.args.id rules (store_of (durable_state durable)) c.args.now c.next-word.result)) (sym c.learn.ensures.durable)
    (c.learn.ensures.stands (opening c.args.id c.args.size (store_of (durable_state (durable_of c.in-Ok.server))) c.args.now c.next-word.result) c.in-Ok.ensures.stands))
