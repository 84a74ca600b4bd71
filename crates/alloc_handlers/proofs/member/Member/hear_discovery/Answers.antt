use Rattle.std.proofs.Common.{◌≡◌, ◌≢◌, ◌∷◌, refl, sym, ap, ◌∙◌, List, ℕ, length}
use Rattle.alloc_handlers.proofs.Words.{Event, Heard, IsInStep, StepResult, Took, delivery_of, hears_discovery, members, members_of, raft_role, start_of}
use Rattle.can_frame.specs.declared.step.Role.TheVariants.{Follower}
use Rattle.dsdl_codec.specs.Discovery.{discovery_of}
use Rattle.alloc_handlers.proofs.Choosing.{same_number}
use Rattle.alloc_handlers.proofs.Noting.{counts_same, noted_cluster}
use Rattle.alloc_handlers.proofs.Sights.{read_as}
use Rattle.alloc_handlers.proofs.member.Member.hear_discovery.Goals as goal

pub returns-clause-sees : goal.returns-clause-sees
returns-clause-sees g c start step_state h =
    let t = step_state.allocator in
    let value = c.in-Some.ensures.value ∙ ap (λ (bytes : List ℕ). discovery_of bytes) c.deref.ensures.0 in
    let d = delivery_of c.args.transfer.now in
    let events : List Event = Heard d.ident.source c.in-Some.message ∷ t.heard in
    let stays = λ (leads : raft_role c.args.self.now.raft ≢ Follower).
    c.a_complete_list_stays.ensures.members (start_of t) t.heard d.ident.source c.in-Some.message
    (same_number (length (members_of t)) t.size (ap (λ (list : List ℕ). length list) (sym (h.stands.raft.known leads)) ∙ c.args.self.now.raft.complete leads ∙ c.requires.raft_size ∙ h.stands.size)) in
    read_as (λ (step_result : StepResult). IsInStep start (record c.args.self.now { cluster = c.heard.new.self }) step_result.step_state × (Took ≡ step_result.seen)) (hears_discovery d) _ c.in-Some.message step_state value (
      noted_cluster start c.args.self.now step_state h c.heard.new.self events (c.heard.ensures.follows (start_of t) t.heard h.stands.cluster)
          (counts_same c.args.self.now.raft (members_of t) (members (start_of t) events) _ t.raft_server t.times h.stands.raft stays),
      refl,
    )
