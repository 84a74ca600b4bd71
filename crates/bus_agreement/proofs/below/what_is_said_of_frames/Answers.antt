use Rattle.bus_agreement.proofs.below.what_is_said_of_frames.Goals as goal

pub returns : goal.returns
returns c = record {
  ident_read = c.identifiers_both_ways.ensures.read_again;
  piece_read = c.frames_read_as_their_pieces.ensures;
  cut_count = c.lengths_of_cuttings.ensures.count;
  count = c.frames_in_order.ensures.count;
  before_last = c.frames_in_order.ensures.before_last;
  last = c.frames_in_order.ensures.last;
  payload = c.frames_give_the_payload.ensures.payload;
  queued_count = c.frames_by_place.ensures.count;
  queued_frame = c.frames_by_place.ensures.frame;
  delivered = c.deliveries_are_whole_transfers.ensures;
  comes = c.a_frame_comes_to_the_session_of_its_key.ensures;
}
