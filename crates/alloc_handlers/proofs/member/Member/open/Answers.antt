use Rattle.std.proofs.Common.{rules, refl, ap, ◌∷◌, []}
use Rattle.alloc_handlers.proofs.Words.{Waiting, durable_state}
use Rattle.alloc_handlers.proofs.member.Member.open.Goals as goal

pub returns-clause-stands : goal.returns-clause-stands
returns-clause-stands g c = record {
  me = refl;
  size = refl;
  raft = c.new.ensures.stands (c.args.me ∷ []) (durable_state c.args.durable);
  exchange = c.new-2.ensures;
  watch = c.new-3.ensures;
  counting = refl;
  cluster = c.new-4.ensures.starts;
  outbox = c.new-5.ensures;
  opened_at = refl;
  now = refl;
  status_at = refl;
}

pub returns-clause-ready : goal.returns-clause-ready
returns-clause-ready g c = record {
  least = c.requires.least;
  most = c.requires.most;
  some = c.requires.some;
  five = c.requires.five;
  raft_me = c.new.ensures.me;
  raft_size = c.new.ensures.size;
  outbox_me = ap (λ (w : Waiting). w.me) c.new-5.ensures;
  opened_before = search rules;
  status_before = search rules;
  fits = c.new.ensures.fits (durable_state c.args.durable);
}
