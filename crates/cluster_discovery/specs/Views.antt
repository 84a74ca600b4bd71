-- What a value of the code shows, without a list of events.
use Rattle.std.specs.Prelude.{ℕ, List}
use Rattle.cluster_discovery.specs.declared.cluster.Cluster.{Cluster}

-- the member's own node ID
abbrev pub own_id : Cluster → ℕ
own_id cluster = cluster.me

-- how many members the cluster is to have
abbrev pub cluster_size : Cluster → ℕ
cluster_size cluster = cluster.size

-- the members that are known
abbrev pub member_list : Cluster → List ℕ
member_list cluster = cluster.members.items
