use Rattle.id_selector.proofs.OneChoice.{chosen_from, choice_from, free_from, none_from}
use Rattle.id_selector.proofs.choice.choose.Goals as goal

pub returns : goal.returns
returns c =
    let taken = c.args.taken.now in
    let preferred = c.args.preferred in
    let result = c.first_free.result in
    let is_chosen = chosen_from taken preferred c.counted.result result c.counted.ensures.value c.first_free.ensures in
    let is_choice = choice_from taken preferred result is_chosen in
    record {
      chosen = is_chosen;
      choice = is_choice;
      free = free_from taken preferred result is_choice;
      none = none_from taken preferred result is_choice;
    }
