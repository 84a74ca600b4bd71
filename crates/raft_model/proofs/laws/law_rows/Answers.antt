use Rattle.raft_model.specs.Moves.{with_term}
use Rattle.raft_model.specs.Moves.Move.{AnswerAgain, CallForVote, CallToAppend, CommitTo, GiveUp, ProposeEntry, TakeAppendAnswer, TakeAppendRequest, TakeVoteAnswer, TakeVoteRequest, TellNothing, TellPair, TimeOut}
use Rattle.raft_model.specs.Decisions.{grants, verdict_on}
use Rattle.raft_model.proofs.Decisions.{granted, judged, commit}
use Rattle.raft_model.proofs.Rows.{takes}
use Rattle.raft_model.proofs.laws.law_rows.Goals as goal

pub returns : goal.returns
returns c = record {
  time_out = λ world member step ready role low. takes world member step TimeOut ready (role, low);
  vote_request = λ world member step request ready there mine kind.
      let store = with_term (world.server member).store request.term in
      takes world member step (TakeVoteRequest request (grants store request)) ready (there, mine, kind, granted store request);
  vote_answer = λ world member step answer ready there mine kind pending. takes world member step (TakeVoteAnswer answer) ready
      (there, mine, kind, pending);
  append_request = λ world member step request ready there mine kind.
      takes world member step (TakeAppendRequest request (verdict_on (world.server member) request)) ready
      (there, mine, kind, judged (world.server member) request);
  append_answer = λ world member step answer ready there mine kind pending. takes world member step (TakeAppendAnswer answer) ready
      (there, mine, kind, pending);
  propose = λ world member step entry ready may. takes world member step (ProposeEntry entry) ready may;
  commit = λ world member step index ready leads found. takes world member step (CommitTo index) ready
      (leads, commit world.members member (world.server member) index found);
  tell = λ world member step ready leads below uid. takes world member step TellPair ready (leads, below, uid);
  pass_over = λ world member step ready leads below uid. takes world member step TellNothing ready (leads, below, uid);
  call_for_vote = λ world member step peer ready stands may. takes world member step (CallForVote peer) ready (stands, may);
  call_to_append = λ world member step peer previous with_entry ready leads inside may. takes world member step
      (CallToAppend peer previous with_entry) ready (leads, inside, may);
  answer_again = λ world member step place ready below uid. takes world member step (AnswerAgain place) ready (below, uid);
  give_up = λ world member step peer ready. takes world member step (GiveUp peer) ready tt;
}
