-- Which events a value of the code stands for.
use Rattle.std.specs.Prelude.{◌≡◌, List}
use Rattle.cluster_discovery.specs.declared.cluster.Cluster.{Cluster}
use Rattle.cluster_discovery.specs.Members.{Event, Start, last_sent, members, owes}

pub record StandsFor (cluster : Cluster) (start : Start) (events : List Event) : Type 0 where
  pub me : cluster.me ≡ start.me
  pub size : cluster.size ≡ start.size
  pub members : cluster.members.items ≡ members start events
  pub owes : cluster.owes ≡ owes start events
  pub last : cluster.last ≡ last_sent start events
