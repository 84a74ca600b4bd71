use Rattle.raft_model.proofs.Duty.{tick_comes, tick_duty, blank_comes, blank_duty, heard_tells, heard_waits, commit_comes, commit_duty, tell_comes, tell_duty, full_duty, win_duty}
use Rattle.raft_model.proofs.Finished.{run_wins}
use Rattle.raft_model.proofs.laws.law_duty.Goals as goal

pub returns : goal.returns
returns c = record {
  tick_comes = tick_comes;
  tick = tick_duty;
  blank_comes = blank_comes;
  blank = blank_duty;
  heard = heard_tells;
  heard_waits = heard_waits;
  commit_comes = commit_comes;
  commit = commit_duty;
  tell_comes = tell_comes;
  tell = tell_duty;
  full = full_duty;
  win_kept = win_duty;
  win = run_wins;
}
