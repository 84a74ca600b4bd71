-- What the examples of calm rows share: the server of a member that runs in a world that is computed.
use Rattle.std.proofs.Common.{◌≡◌, ℕ, ◌+◌, ◌<◌, ◌≤◌, List, [], true, length, refl, ap, subst, None}
use Rattle.std.specs.Prelude.{is_some}
use Rattle.can_frame.specs.Sizes.{blocks, sessions}
use Rattle.transfer_rx.specs.Outcome.{blocks_used}
use Rattle.transfer_rx.specs.Sessions.{Session}
use Rattle.alloc_spec.specs.AllocatorState.{AllocatorState}
use Rattle.alloc_spec.specs.Rules.{opening_by, rules_by}
use Rattle.service_calm.specs.CalmExample.{two}
use Rattle.service_calm.specs.Comes.{HasMemory}
use Rattle.bus_spec.specs.Cluster.{Cluster}
use Rattle.bus_spec.specs.Members.{MemberStatus, server_of}
use Rattle.bus_spec.specs.Members.MemberStatus.{Down, Failed, Up}

-- member n as it opened at this moment, with this word
abbrev pub opened : ℕ → ℕ → ℕ → AllocatorState
opened n now word = opening_by n (rules_by 2 two) (record { term = 0; vote = None; log = []; commit = 0 }) now word

-- the sessions of a member
abbrev sessions_in : MemberStatus → List Session
sessions_in Down = []
sessions_in (Up server) = server.sessions
sessions_in (Failed failure) = []

-- member 2 has memory, where its sessions are few
pub has_memory : (w : Cluster) → length (sessions_in (w.member 2).status) < sessions
    → blocks_used (sessions_in (w.member 2).status) + 9 ≤ blocks → HasMemory 2 w
has_memory w few small server e =
    (subst (λ l. length l < sessions) (ap sessions_in e) few, subst (λ l. blocks_used l + 9 ≤ blocks) (ap sessions_in e) small)

-- the server of a member that runs
abbrev pub server_in : MemberStatus → AllocatorState
server_in Down = opened 1 100 0
server_in (Up server) = server
server_in (Failed failure) = opened 1 100 0

-- it is that of a member for which the test says that it runs
pub up_is : (status : MemberStatus) → is_some (server_of status) ≡ true → status ≡ Up (server_in status)
up_is Down e = absurd (cc (e))
up_is (Up server) e = refl
up_is (Failed failure) e = absurd (cc (e))

-- what holds of it holds of whatever server the member has
pub of_server : (Holds : AllocatorState → Type 0) (status : MemberStatus) → Holds (server_in status)
    → (server : AllocatorState) → status ≡ Up server → Holds server
of_server Holds status h server e = subst Holds (ap server_in e) h
