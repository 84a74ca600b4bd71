use Rattle.std.proofs.Common.{refl}
use Rattle.std.specs.Prelude.{codes}
use Rattle.dsdl_text_codec_laws.specs.Fields.{node_status_fields}
use Rattle.dsdl_text_codec_laws.proofs.NodeStatuses.{node_statuses}
use Rattle.dsdl_text_codec_laws.proofs.Profile.{of_profile}
use Rattle.dsdl_text_codec_laws.proofs.laws.node_statuses.Goals as goal

pub returns : goal.returns
returns c = of_profile (codes "NodeStatus") 1 node_status_fields _ _ refl node_statuses
