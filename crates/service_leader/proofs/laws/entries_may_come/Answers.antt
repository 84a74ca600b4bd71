use Rattle.std.proofs.Common.{◌≡◌, ℕ, List, [], ◌∷◌, ◌++◌, arith, inl, inr, refl, sym, subst}
use Rattle.bus_rows.specs.Timed.{Timed, rows_in}
use Rattle.service_calm.specs.Calm.{AreCalm, no_traffic}
use Rattle.service_calm.specs.CalmExample.{clocks, first_rows, group, leading_row, pace, sending_row, start, then_world, two, vote_rows}
use Rattle.service_calm.specs.Comes.{HasMemory, Throughout}
use Rattle.service_leader.specs.CallsComeBack.{HasPlace, LeadsIfUp, LeadsOn}
use Rattle.service_leader.specs.CallsExample.{long_rows}
use Rattle.service_leader.specs.Entries.{CanExchange}
use Rattle.service_leader.specs.EntriesExample.{clock_rows, led_rows, won_rows, won_world}
use Rattle.service_leader.specs.LeadsOn.{LeadsIn}
use Rattle.service_leader.proofs.EntriesExample.{calm, clock_world, few, fit, harmless, its_memory, leads_not, leads_not_yet, led, led_at_last, memory, place}
use Rattle.service_leader.proofs.EntriesRows.{leads_if_up}
use Rattle.service_leader.proofs.Stretches.{harmless_both, rows_both, throughout_by}
use Rattle.service_leader.proofs.laws.entries_may_come.Goals as goal
use Rattle.bus_spec.specs.Cluster.{Cluster, after_row, after_rows}
use Rattle.bus_spec.specs.Lawful.{DoNoHarm}

-- the rows of the example are those of the call that comes back, and more behind them
same_rows : long_rows ++ clock_rows ≡ won_rows ++ led_rows
same_rows = refl

-- what holds in each world of two parts holds in all
throughout_both : (Holds : Cluster → Type 0) (xs ys : List Timed) (w : Cluster) → Throughout Holds w xs → Throughout Holds (after_rows w (rows_in xs)) ys
    → Throughout Holds w (xs ++ ys)
throughout_both Holds [] ys w first second = second
throughout_both Holds (timed ∷ xs) ys w first second = (first.0, throughout_both Holds xs ys (after_row w timed.row) first.1 second)

-- who leads on in the first part, and leads in the second, leads on
leads_both : (n term : ℕ) (xs ys : List Timed) (w : Cluster) → LeadsOn n term w xs
    → Throughout (LeadsIfUp n term) (after_rows w (rows_in xs)) ys → LeadsOn n term w (xs ++ ys)
leads_both n term [] [] w first second = tt
leads_both n term [] (y ∷ ys) w first second = inr second
leads_both n term (timed ∷ xs) ys w (inl z) second = inl (z.0, leads_both n term xs ys (after_row w timed.row) z.1 second)
leads_both n term (timed ∷ xs) ys w (inr all) second = inr (throughout_both (LeadsIfUp n term) (timed ∷ xs) ys w all second)

-- member 1 leads in the last rows
last_leads : Throughout (LeadsIfUp 1 1) clock_world clock_rows
last_leads = throughout_by (LeadsIfUp 1 1) clock_rows clock_world
    (λ front rest timed split. leads_if_up 1 1 (after_rows clock_world (rows_in front)) (led_at_last front (timed ∷ rest) split).leader)

-- and behind the row in which it has the vote
won : LeadsIn 1 1 won_world
won = (led [] led_rows refl).leader

pub returns : goal.returns
returns c =
    let back = c.calls_can_come_back.ensures in
    let can = c.calm_can_be.ensures in
    let its_calm = subst (AreCalm group clocks pace (no_traffic start) then_world) same_rows (calm back.calm) in
    let called = c.winners_call.ensures two first_rows can.members can.harmless group clocks pace start 1 2 (sending_row ∷ vote_rows) led_rows leading_row
    can.listed can.running can.from (λ e. can.apart (sym e)) its_calm fit back.lists_receiver leads_not_yet (λ server up. (leads_if_up 1 1 won_world won server up).0) in
    let its_harmless = subst (λ (l : List Timed). DoNoHarm then_world (rows_in l)) same_rows
    (subst (DoNoHarm then_world) (sym (rows_both long_rows clock_rows)) (harmless_both then_world (rows_in long_rows) (rows_in clock_rows) back.harmless harmless)) in
    let on = subst (LeadsOn 1 1 then_world) same_rows (leads_both 1 1 long_rows clock_rows then_world back.leads last_leads) in
    let exchange : CanExchange 1 2 then_world (won_rows ++ led_rows) = record {
      calls_it = back.lists_receiver;
      hears_it = back.lists_sender;
      calls = back.calls;
      first_call = back.first;
      answers = back.answers;
      first_answer = back.first_answer;
      memory = subst (Throughout (HasMemory 1) then_world) same_rows (throughout_both (HasMemory 1) long_rows clock_rows then_world back.memory_sender memory);
      its_memory = subst (Throughout (HasMemory 2) then_world) same_rows (throughout_both (HasMemory 2) long_rows clock_rows then_world back.memory_receiver its_memory);
      place = subst (Throughout (HasPlace 2) then_world) same_rows (throughout_both (HasPlace 2) long_rows clock_rows then_world back.places place);
    } in
    record {
      before = can.harmless;
      running = can.running;
      leads_not = leads_not;
      calm = its_calm;
      harmless = its_harmless;
      leads_on = on;
      led = led;
      fit = fit;
      can = exchange;
      calling = record {
        lists_it = back.lists_receiver;
        early = [];
        since = won_rows;
        split = refl;
        back = c.calls_return_to_who_leads_on.ensures two first_rows can.members can.harmless group clocks pace start 1 2 1 [] (won_rows ++ led_rows)
            can.listed can.running can.from can.to (λ e. can.apart (sym e)) back.quick its_calm its_harmless exchange on;
        pends = called.0;
        goes_on = called.1;
      };
      leader = won.server;
      leads = won.runs;
      few = few won.server won.runs;
      long = omega arith;
    }
