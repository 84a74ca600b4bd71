-- The logs of the members that a world stands for.
use Rattle.std.proofs.Common.{◌≡◌, ℕ, suc, ◌<◌, List, [], ◌∷◌, length, arith, ap, inl, inr, subst, sym, ◌∙◌}
use Rattle.std.specs.Prelude.{slice_index_or}
use Rattle.can_frame.specs.declared.entry.Entry.{Entry}
use Rattle.can_frame.specs.Log.{IsInjective}
use Rattle.disk_model.specs.declared.disk.Disk.{Ghosts}
use Rattle.disk_model.specs.declared.memory.MemoryDisk.{MemoryDisk}
use Rattle.kv_store.specs.KeyDisk.{KeyDisk}
use Rattle.raft_log.specs.Stored.{Stored}
use Rattle.raft_model.specs.Lists.{In}
use Rattle.raft_model.specs.Server.{Store}
use Rattle.alloc_spec.specs.AllocatorState.{AllocatorState}
use Rattle.alloc_server.specs.declared.server.Server.{Server}
use Rattle.bus_spec.specs.Cluster.{Cluster}
use Rattle.bus_spec.specs.Members.{MemberStatus}
use Rattle.bus_spec.specs.Members.MemberStatus.{Down, Up, Failed}
use Rattle.bus_spec.specs.OwnLogs.{GivesOnce, log_on}
use Rattle.bus_world.specs.OnDisk.{IsUpOn}
use Rattle.bus_world.specs.Places.{HasStatus}
use Rattle.bus_world.specs.Stands.{StandsFor as StandsForMember}
use Rattle.bus_world.specs.Members.{StandsFor, ids_of}
use Rattle.bus_world.specs.declared.member.Member.{Member}
use Rattle.bus_world.specs.declared.place.Place.{Place}
use Rattle.bus_world.specs.World.{StandsFor as StandsForWorld}
use Rattle.bus_world.specs.declared.members.Members.{Members}
use Rattle.bus_world.specs.declared.world.World.{World}

-- what holds of each member holds of one with this node ID
pub one_of : {F : Type 0} (xs : List (Member F)) (P : Member F → Type 0) → ((i : ℕ) (d : Member F) → i < length xs → P (slice_index_or xs i d))
    → (n : ℕ) → In n (ids_of xs) → (m : Member F) × (m.id ≡ n) × P m
one_of [] P all n there = absurd there
one_of (x ∷ xs) P all n (inl e) = (x, sym e, all 0 x (omega arith))
one_of (x ∷ xs) P all n (inr there) = one_of xs P (λ i d h. all (suc i) d (omega (arith, h))) n there

-- a server that runs has in memory what its disk has stored
pub same_log : {F : Type 0} {ghosts : Ghosts MemoryDisk} (server : Server MemoryDisk F ghosts) (t : AllocatorState) (key_disk : KeyDisk Stored) → IsUpOn server t key_disk
    → t.raft_server.store.log ≡ key_disk.store.log
same_log server t key_disk is = ap (λ (s : Store). s.log) is.stands.member.raft.store ∙ ap (λ (s : Stored). s.log) is.keeps.state

is_once : {F : Type 0} (place : Place F) (status : MemberStatus) (key_disk : KeyDisk Stored) → HasStatus place status key_disk → IsInjective (log_on status key_disk)
is_once place Down key_disk is = is.server.on.stores.storable.injective
is_once place (Up t) key_disk is =
    subst (λ (log : List Entry). IsInjective log) (sym (same_log place.server t key_disk is.server)) is.server.keeps.disk.on.stores.storable.injective
is_once place (Failed failure) key_disk is = is.server.closed.on.stores.storable.injective

gives_once : {F : Type 0} (world : Members F) (c : Cluster) → StandsFor world c → GivesOnce c
gives_once {F} world c stands n there =
    let found = one_of world.members.items (λ (m : Member F). StandsForMember m (c.member m.id)) stands.holds.members n
    (subst (λ (ids : List ℕ). In n ids) (sym stands.holds.ids) there) in
    subst (λ (k : ℕ). IsInjective (log_on (c.member k).status (c.member k).disk)) found.1
    (is_once found.0.place (c.member found.0.id).status (c.member found.0.id).disk found.2.status)

pub world_gives_once : {F G : Type 0} (world : World F G) (c : Cluster) → StandsForWorld world c → GivesOnce c
world_gives_once world c stands = gives_once world.members c stands.members
