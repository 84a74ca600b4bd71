use Rattle.std.proofs.Common.{◌≢◌, sym, ap, ◌∙◌, List, ℕ, length}
use Rattle.alloc_handlers.proofs.Words.{durable_state, members_of, raft_role, start_of}
use Rattle.can_frame.specs.declared.step.Role.TheVariants.{Follower}
use Rattle.dsdl_codec.specs.declared.discovery.Discovery.{Discovery}
use Rattle.alloc_handlers.proofs.Choosing.{same_number}
use Rattle.alloc_handlers.proofs.Learning.{learnt}
use Rattle.alloc_handlers.proofs.Parts.{ready_with}
use Rattle.alloc_handlers.proofs.member.Member.learn.Goals as goal

pub returns-clause-stands : goal.returns-clause-stands
returns-clause-stands g c t h =
    let message : Discovery = record { size = c.args.self.now.size; known = c.in-Ok.known } in
    learnt c.args.self.now c.heard.new.self c.wait_until_heard.new.self t h c.args.nodes.now c.if-is_empty.ensures message (λ i. record { size = h.size i; known = record { items = c.in-Ok.ensures.0 i } })
    (c.heard.ensures.follows (start_of t) t.heard h.cluster)
    (λ (leads : raft_role c.args.self.now.raft ≢ Follower). c.a_complete_list_stays.ensures.members (start_of t) t.heard 0 message
    (same_number (length (members_of t)) t.size (ap (λ (list : List ℕ). length list) (sym (h.raft.known leads)) ∙ c.args.self.now.raft.complete leads ∙ c.requires.ready.raft_size ∙ h.size)))
    (λ list counts. c.wait_until_heard.ensures.stands list (durable_state c.args.self.now.durable) t.raft_server t.times counts)

pub returns-clause-ready : goal.returns-clause-ready
returns-clause-ready g c =
    ready_with c.requires.ready c.wait_until_heard.ensures.me c.wait_until_heard.ensures.size
    (c.wait_until_heard.ensures.fits (durable_state c.args.self.now.durable) c.requires.ready.fits)
