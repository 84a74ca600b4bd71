use Rattle.replay_text.proofs.FirstLine.{ReadsRows-append}
use Rattle.replay_text.proofs.laws.rows_follow_rows.Goals as goal

pub returns : goal.returns
returns c = ReadsRows-append
