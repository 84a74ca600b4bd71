-- A member is told the list of members.
use Rattle.std.proofs.Common.{◌≡◌, ◌≢◌, ℕ, true, false, List, [], ◌∷◌, length, subst}
use Rattle.std.specs.Prelude.{◌==◌}
use Rattle.alloc_handlers.proofs.Words.{AllocatorState, Ghosts, Heard, Member, Raft, StandsFor, durable_state, members, members_of, raft_role, start_of}
use Rattle.alloc_handlers.proofs.Noting.{counts_same}
use Rattle.alloc_handlers.proofs.Parts.{with_counting, with_parts}
use Rattle.alloc_spec.specs.Rules.{with_told}
use Rattle.can_frame.specs.declared.step.Role.TheVariants.{Follower}
use Rattle.cluster_discovery.specs.declared.cluster.Cluster.{Cluster}
use Rattle.cluster_discovery.specs.Stands as cluster
use Rattle.dsdl_codec.specs.declared.discovery.Discovery.{Discovery}
use Rattle.node_discovery.specs.declared.counting.Counting.TheVariants.{SinceAnswer}
use Rattle.raft_core.specs.Stands as raft

module _ {D : Type 0} {disk : Ghosts D} (member : Member D disk) (k : Cluster) (r : Raft) (t : AllocatorState) (h : StandsFor member t) where
  -- it heard a list from nobody, counts the members that it counted before, and the queries since a node's last answer;
  -- its Raft waits with a blank
  pub learnt : (nodes : List ℕ) → false ≡ (length nodes == 0)
      → (heard : Discovery) → heard ≡ record { size = t.size; known = record { items = nodes } }
      → cluster.StandsFor k (start_of t) (Heard 0 heard ∷ t.heard)
      → (raft_role member.raft ≢ Follower → members (start_of t) (Heard 0 heard ∷ t.heard) ≡ members_of t)
      → ((list : List ℕ) → raft.StandsFor member.raft list (durable_state member.durable) t.raft_server t.times
      → raft.StandsFor r list (durable_state member.durable) t.raft_server (record t.times { waits = true }))
      → StandsFor (record member { raft = r; cluster = k; counting = SinceAnswer }) (with_told nodes t)
  learnt [] some heard is knows same waits = absurd (cc (some))
  learnt (node ∷ nodes) some heard is knows same waits = with_counting SinceAnswer
      (subst (λ (d : Discovery). StandsFor (record member { raft = r; cluster = k }) (record t { heard = Heard 0 d ∷ t.heard; times = record t.times { waits = true } })) is
      (with_parts h (waits (members (start_of t) (Heard 0 heard ∷ t.heard)) (counts_same member.raft (members_of t) (members (start_of t) (Heard 0 heard ∷ t.heard)) _ t.raft_server t.times h.raft same))
      h.exchange h.watch knows h.status_at))
