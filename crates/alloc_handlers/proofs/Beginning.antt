-- A step that begins.
use Rattle.std.proofs.Common.{◌≡◌, ℕ, List, [], ◌∷◌, refl, sym, subst, None}
use Rattle.alloc_handlers.proofs.Words.{AllocatorState, CallWrites, Durable, Ghosts, GiveUp, HandedIn, IsInStep, Member, PutWithOrigin, RaftServer, StandsFor, at_moment, at_sessions, begin_phase, given_at, members_of, moves_of_expire, overdue, puts_with_origins, server_after}
use Rattle.alloc_spec.specs.Step.{all_nodes}
use Rattle.transfer_rx.specs.Sessions.{Session}

-- giving up calls makes no puts
expire_is_quiet : (members : List ℕ) (me step : ℕ) (given : HandedIn) (raft_server : RaftServer) (nodes : List ℕ) → puts_with_origins members me step given raft_server (moves_of_expire nodes) ≡ []
expire_is_quiet members me step given raft_server [] = refl
expire_is_quiet members me step given raft_server (node ∷ nodes) = expire_is_quiet members me step given (server_after members me step raft_server (GiveUp node)) nodes

pub begun : {D : Type 0} {disk : Ghosts D} (start : Durable D disk) (member : Member D disk) (t : AllocatorState) (step now : ℕ) (sessions : List Session)
    → CallWrites [] start start None → member.durable ≡ start → member.offered.sent.items ≡ [] → member.offered.answers.items ≡ [] → StandsFor member (begin_phase step now t).allocator
    → IsInStep start member (at_sessions sessions (begin_phase step now t))
begun start member t step now sessions nothing same sent given h = record {
  stands = record {
    me = h.me;
    size = h.size;
    raft = h.raft;
    exchange = h.exchange;
    watch = h.watch;
    counting = h.counting;
    cluster = h.cluster;
    outbox = h.outbox;
    opened_at = h.opened_at;
    now = h.now;
    status_at = h.status_at;
  };
  sent = sent;
  given = given;
  puts = subst (λ (list : List PutWithOrigin). CallWrites list start member.durable None) (sym (expire_is_quiet (members_of t) t.me step (given_at (at_moment now t).now) t.raft_server (overdue t.times (at_moment now t).now all_nodes)))
      (subst (λ (d : Durable _ _). CallWrites [] start d None) (sym same) nothing);
}
