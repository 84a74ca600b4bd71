use Rattle.std.proofs.lemmas.List.Elements.{All-nil}
use Rattle.allocatee.specs.Given.{IsAnonymous}
use Rattle.allocatee.proofs.Anonymous.{all_left}
use Rattle.allocatee.proofs.Stepped.{all_stepped}
use Rattle.allocatee.proofs.laws.its_frames_are_anonymous.Goals as goal

pub returns : goal.returns
returns c = record {
  none = λ uid preferred now word. All-nil IsAnonymous;
  step = λ d number event all. all_stepped c.identifiers_both_ways.ensures.read_again d number event all;
  popped = λ d all. all_left d.asking.queue all;
}
