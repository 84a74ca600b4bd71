-- What a member is told of its cluster when it is opened: the number of members alone, or also who they are.
use Rattle.std.specs.Prelude.{◌≡◌, ℕ, ◌≤◌, Bool, true, nat_lt, List, [], ◌∷◌, length}
use Rattle.cluster_discovery.specs.Members.{Event, Heard}
use Rattle.node_discovery.specs.declared.counting.Counting.{Counting}
use Rattle.node_discovery.specs.declared.counting.Counting.TheVariants.{SinceAnswer}
use Rattle.raft_core.specs.Times.{Times}
use Rattle.raft_model.specs.Lists.{In}
use Rattle.raft_model.specs.Members.{HasNoneTwice}
use Rattle.raft_model.specs.Server.{Store}
use Rattle.alloc_spec.specs.AllocatorState.{AllocatorState, opening}

pub record Rules : Type 0 where
  -- how many members the cluster has
  pub size : ℕ
  -- all of them, where the member is told them; else none
  pub told : List ℕ

abbrev pub rules_by : ℕ → List ℕ → Rules
rules_by size told = record { size = size; told = told }

-- a member is told all members, itself among them: as many as the cluster has, which are different nodes of 1 to 125
pub record IsToldAll (me : ℕ) (rules : Rules) : Type 0 where
  pub own : In me rules.told
  pub nodes : (node : ℕ) → In node rules.told → (1 ≤ node) × (node ≤ 125)
  pub once : HasNoneTwice rules.told
  pub all : length rules.told ≡ rules.size

-- the member is told who its members are
abbrev pub tells : Rules → Bool
tells rules = nat_lt 0 (length rules.told)

-- a list that is told is as one that was heard from nobody, in a Discovery of the own cluster size; no list is nothing
abbrev pub heard_with : ℕ → List ℕ → List Event → List Event
heard_with size [] heard = heard
heard_with size (node ∷ nodes) heard =
    Heard 0 (record { size = size; known = record { items = node ∷ nodes } }) ∷ heard

-- who is told its members counts the queries since a node's last answer
abbrev pub counting_with : List ℕ → Counting → Counting
counting_with [] counting = counting
counting_with (node ∷ nodes) counting = SinceAnswer

-- who is told its members waits with a blank until a quorum has its log
abbrev pub times_with : List ℕ → Times → Times
times_with [] times = times
times_with (node ∷ nodes) times = record times { waits = true }

-- an allocator that is told these members
abbrev pub with_told : List ℕ → AllocatorState → AllocatorState
with_told nodes t = record t {
  heard = heard_with t.size nodes t.heard;
  counting = counting_with nodes t.counting;
  times = times_with nodes t.times;
}

-- a server that was opened with this store by these rules: before its first step it knows itself, and whom it was told
abbrev pub opening_by : ℕ → Rules → Store → ℕ → ℕ → AllocatorState
opening_by me rules store now word = with_told rules.told (opening me rules.size store now word)
