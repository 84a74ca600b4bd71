use Rattle.std.proofs.Common.{refl}
use Rattle.std.specs.Prelude.{codes}
use Rattle.dsdl_text_codec_laws.specs.Fields.{node_info_fields}
use Rattle.dsdl_text_codec_laws.proofs.NodeInfos.{node_infos}
use Rattle.dsdl_text_codec_laws.proofs.Profile.{of_profile}
use Rattle.dsdl_text_codec_laws.proofs.laws.node_infos.Goals as goal

pub returns : goal.returns
returns c = of_profile (codes "GetNodeInfo") 2 node_info_fields _ _ refl node_infos
