use Rattle.transfer_rx.proofs.Origin.{comes_to}
use Rattle.transfer_rx.proofs.laws.a_frame_comes_to_the_session_of_its_key.Goals as goal

pub returns : goal.returns
returns c = λ most now key tail sessions session e. comes_to most now key tail sessions session e
