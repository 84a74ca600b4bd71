use Rattle.std.proofs.Common.{◌≡◌, ℕ, refl, ap, subst, ◌∙◌, arith, max, rules}
use Rattle.alloc_handlers.proofs.Words.{durable_state, given_at, members_of, moves_of_expire, overdue, server_after_all, times_after_all}
use Rattle.raft_core.specs.Stands as raft
use Rattle.alloc_spec.specs.Step.{all_nodes}
use Rattle.alloc_handlers.proofs.Beginning.{begun}
use Rattle.alloc_handlers.proofs.Nodes.{in_all_nodes}
use Rattle.alloc_handlers.proofs.member.Member.begin.Goals as goal

pub returns-clause-step_state : goal.returns-clause-step_state
returns-clause-step_state g c t h sessions =
    let step = c.args.step in
    let at : c.max-self.result ≡ max t.now c.args.now = c.max-self.ensures ∙ ap (λ (n : ℕ). max n c.args.now) h.now in
    let mine = c.requires.raft_me ∙ h.me in
    let state = durable_state c.args.self.now.durable in
    begun c.args.self.now.durable _ t step c.args.now sessions (c.puts_go_on.ensures.nothing c.args.self.now.durable) refl c.new-self.ensures.sent c.new-self.ensures.answers (record {
      me = h.me;
      size = h.size;
      raft = subst (λ (now : ℕ). raft.StandsFor c.expire.new.self (members_of t) state (server_after_all (members_of t) t.me step t.raft_server (moves_of_expire (overdue t.times now all_nodes))) (times_after_all (members_of t) t.me step (given_at now) t.raft_server (moves_of_expire (overdue t.times now all_nodes)) t.times)) at
          (subst (λ (me : ℕ). raft.StandsFor c.expire.new.self (members_of t) state (server_after_all (members_of t) me step t.raft_server (moves_of_expire (overdue t.times c.max-self.result all_nodes))) (times_after_all (members_of t) me step (given_at c.max-self.result) t.raft_server (moves_of_expire (overdue t.times c.max-self.result all_nodes)) t.times)) mine
          (c.expire.ensures.moves (members_of t) step state t.raft_server t.times h.raft all_nodes (λ node below pending. in_all_nodes node below)));
      exchange = h.exchange;
      watch = h.watch;
      counting = h.counting;
      cluster = h.cluster;
      outbox = h.outbox;
      opened_at = h.opened_at;
      now = at;
      status_at = h.status_at;
    })

pub returns-clause-ready : goal.returns-clause-ready
returns-clause-ready g c = record {
  ready = record {
    least = c.requires.least;
    most = c.requires.most;
    some = c.requires.some;
    five = c.requires.five;
    raft_me = c.expire.ensures.me ∙ c.requires.raft_me;
    raft_size = c.expire.ensures.size ∙ c.requires.raft_size;
    outbox_me = c.requires.outbox_me;
    opened_before = omega (arith, c.max-self.ensures, c.requires.opened_before);
    status_before = omega (arith, c.max-self.ensures, c.requires.status_before);
    fits = c.expire.ensures.fits (durable_state c.args.self.now.durable) c.requires.fits;
  };
  sent_room = search rules;
  given_room = search rules;
}
