use Rattle.can_frame.proofs.Cutting.{joined-frames, long_cut, one_piece, several_pieces, short_cut}
use Rattle.can_frame.proofs.laws.frames_carry_what_is_cut.Goals as goal

pub returns-clause-carried : goal.returns-clause-carried
returns-clause-carried c = joined-frames

pub returns-clause-short : goal.returns-clause-short
returns-clause-short c = short_cut

pub returns-clause-long : goal.returns-clause-long
returns-clause-long c = long_cut

pub returns-clause-one_frame : goal.returns-clause-one_frame
returns-clause-one_frame c = one_piece

pub returns-clause-several_frames : goal.returns-clause-several_frames
returns-clause-several_frames c = several_pieces
