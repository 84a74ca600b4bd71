use Rattle.transfer_rx.proofs.Completeness.{complete}
use Rattle.transfer_rx.proofs.laws.delivers_what_comes_whole.Goals as goal

pub returns : goal.returns
returns c =
    complete c.frames_carry_what_is_cut.ensures c.frames_give_the_payload.ensures.payload c.lengths_of_cuttings.ensures.frames c.lengths_of_cuttings.ensures.payload
