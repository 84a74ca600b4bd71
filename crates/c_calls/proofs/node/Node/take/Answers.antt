use Rattle.std.proofs.Common.{◌≡◌, [], rules, ap, sym, refl, ◌∙◌, Some, arith}
use Rattle.alloc_server.specs.Server.{StandsFor, queued}
use Rattle.transfer_tx.specs.Views.{queued_of}
use Rattle.c_calls.proofs.Taking.{at_server, if_server, none_goes, waits}
use Rattle.c_calls.proofs.node.Node.take.Goals as goal

pub returns-in_default-pop-clause-takes : goal.returns-in_default-pop-clause-takes
returns-in_default-pop-clause-takes c =
    let old = c.args.self.now.server in
    let server = c.in-Some.server in
    record {
      rest = λ t is. c.pop.ensures.rest t (at_server old server (λ s. StandsFor s t) (search rules) is);
      head = λ t is frame next. absurd (none_goes c.pop.result queued_of (queued server) t.queue frame (search rules) c.pop.ensures.next (waits server t (at_server old server (λ s. StandsFor s t) (search rules) is)) next);
      bytes = λ t is frame next. absurd (none_goes c.pop.result queued_of (queued server) t.queue frame (search rules) c.pop.ensures.next (waits server t (at_server old server (λ s. StandsFor s t) (search rules) is)) next);
      none = (λ _. if_server old server (λ s. queued s ≡ []) (search rules) (c.pop.ensures.none.0 (search rules)), λ _. refl);
      kept = λ _. (ap Some (c.pop.ensures.unchanged (search rules)) ∙ sym (search rules), refl);
      some = λ some. absurd (omega (arith, some));
      steps = refl;
      is_new = refl;
    }
