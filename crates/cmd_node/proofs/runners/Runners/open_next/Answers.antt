use Rattle.std.proofs.Common.{◌≡◌, ◌≤◌, sym, ap, ◌∙◌, subst}
use Rattle.cmd_node.specs.Words.{next_words, own_words, word_of}
use Rattle.raft_core.specs.StoredPuts.{store_of}
use Rattle.raft_log.specs.DurableViews.{durable_state}
use Rattle.raft_log.specs.Opening.{OpensTo}
use Rattle.alloc_spec.specs.Rules.{opening_by, rules_by}
use Rattle.alloc_server.specs.Server.{StandsFor, durable_of}
use Rattle.cmd_node.specs.Stands.{runner_disk}
use Rattle.cmd_node.proofs.Opened.{is_refused, one_disk}
use Rattle.cmd_node.proofs.runners.Runners.open_next.Goals as goal

pub returns-in-Ok-clause-opened : goal.returns-in-Ok-clause-opened
returns-in-Ok-clause-opened g c =
    let runner = c.in-Ok.runner in
    let rules = rules_by c.args.size c.args.told.now in
    let store = store_of (durable_state (durable_of runner.server)) in
    let same = one_disk c.in-Some.disk in (
      runner,
      c.push.ensures.runners,
      record {
        id_is = c.in-Ok.ensures.id;
        opens = λ taken is. subst (λ d. OpensTo d (durable_of runner.server)) (same taken c.args.place.now c.in-Some.ensures.value is) c.in-Ok.ensures.opens;
        later = λ taken is. subst (λ d. g.D.Disk.faults d ≤ g.D.Disk.faults (runner_disk runner)) (same taken c.args.place.now c.in-Some.ensures.value is) c.in-Ok.ensures.later;
        tells = λ taken is. subst (λ d. g.D.Disk.tells (runner_disk runner) ≡ g.D.Disk.tells d) (same taken c.args.place.now c.in-Some.ensures.value is) c.in-Ok.ensures.tells;
        works = c.in-Ok.ensures.works;
        standing = (opening_by c.args.id rules store c.args.now (word_of (next_words (own_words c.args.told.now c.args.id))), c.in-Ok.ensures.stands);
      },
      record {
        words = c.in-Ok.ensures.words ∙ ap (λ n. next_words (own_words c.args.told.now n)) (sym c.in-Ok.ensures.id);
        server = subst (λ n. StandsFor runner.server (opening_by n rules store c.args.now (word_of runner.words))) (sym c.in-Ok.ensures.id)
            (subst (λ s. StandsFor runner.server (opening_by c.args.id rules store c.args.now (word_of s))) (sym c.in-Ok.ensures.words) c.in-Ok.ensures.stands);
      },
    )

pub returns-in-Err-clause-refused : goal.returns-in-Err-clause-refused
returns-in-Err-clause-refused g c = λ fault is.
    let refused = c.in-Err.refused in
    let why : fault ≡ c.refusal.result = cc (is) in
    is_refused g.D.Disk c.args.id c.in-Some.disk refused.disk c.args.place.now fault refused.why c.in-Some.ensures.value (why ∙ c.refusal.ensures)
    c.in-Err.ensures.refused_later c.in-Err.ensures.refused_tells c.in-Err.ensures.damaged c.in-Err.ensures.damaged_images c.in-Err.ensures.damaged_made c.in-Err.ensures.fault c.in-Err.ensures.failed
