use Rattle.std.proofs.Common.{◌∙◌}
use Rattle.cmd_logs.proofs.Seats.{seated}
use Rattle.cmd_logs.proofs.receivers.Receivers.new.Goals as goal

pub returns-clause-watch : goal.returns-clause-watch
returns-clause-watch g c =
    let first = c.new-2.ensures.id ∙ c.id_at.ensures in
    let second = c.new-3.ensures.id ∙ c.id_at-2.ensures in
    let third = c.new-4.ensures.id ∙ c.id_at-3.ensures in
    let fourth = c.new-5.ensures.id ∙ c.id_at-4.ensures in
    let fifth = c.new-6.ensures.id ∙ c.id_at-5.ensures in
    record {
      seated = λ id. rw (first, second, third, fourth, fifth) (seated c.args.ids.now c.requires.five id);
      messages = c.new.ensures.sessions;
      first = c.new-2.ensures.services;
      second = c.new-3.ensures.services;
      third = c.new-4.ensures.services;
      fourth = c.new-5.ensures.services;
      fifth = c.new-6.ensures.services;
    }
