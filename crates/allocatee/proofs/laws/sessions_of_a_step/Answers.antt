use Rattle.allocatee.proofs.Giving.{frame_sessions, tick_sessions}
use Rattle.allocatee.proofs.laws.sessions_of_a_step.Goals as goal

pub returns : goal.returns
returns c = record { frame = λ d number word arrival. frame_sessions d number word arrival; tick = λ d number now word. tick_sessions d number now word }
