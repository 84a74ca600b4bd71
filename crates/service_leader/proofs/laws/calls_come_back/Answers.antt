use Rattle.std.proofs.Common.{◌≤◌, ℕ, List, ◌∷◌, ◌++◌, refl, inl}
use Rattle.raft_model.specs.Lists.{In}
use Rattle.alloc_spec.specs.AllocatorState.{AllocatorState}
use Rattle.service_alone.proofs.Members.{IsQuiet}
use Rattle.service_calm.specs.Calm.{Member, no_traffic}
use Rattle.service_calm.proofs.Calls.{lists_on}
use Rattle.service_leader.specs.Entries.{CanExchange}
use Rattle.service_leader.proofs.CallsAlone.{reach}
use Rattle.service_leader.proofs.CallsComeBack.{comes_back}
use Rattle.service_leader.proofs.CallsExchange.{calling, fresh}
use Rattle.service_leader.proofs.CallsWait.{IsCalling}
use Rattle.service_leader.proofs.Exchange.{AllGiven, Exchange}
use Rattle.service_leader.proofs.ExchangeGoes.{Going, at_first}
use Rattle.service_leader.proofs.ExchangeStart.{all_given}
use Rattle.bus_rows.specs.Timed.{Timed, rows_in}
use Rattle.service_calm.proofs.Grounds.{calm_laws, is_server, well}
use Rattle.service_calm.proofs.Group.{AreWell}
use Rattle.service_leader.proofs.laws.calls_come_back.Goals as goal
use Rattle.bus_spec.specs.Cluster.{Cluster, after_rows, world_of}

pub returns : goal.returns
returns c =
    let below = c.what_calms_stand_on.ensures in
    let laws = calm_laws below in
    λ ids rows members harmless group clocks pace start n m term front rest timed offer request listed running in_n in_m apart quick lists_m lists_n calls may answers may_answer calm no_harm memory_n memory_m places leads call long.
    let w : Cluster = world_of ids rows in
    let nodes : (p : ℕ) → In (Member p) group → (1 ≤ p) × (p ≤ 125) = λ p i. members.nodes p (listed p i) in
    let is = λ (p : ℕ) (i : In (Member p) group) (t : AllocatorState). is_server below ids members rows harmless p t (listed p i) in
    let are : AreWell group w = well below ids members rows harmless group listed running in
    let of_n = running n in_n in
    let of_m = running m in_m in
    let quiet_n : IsQuiet (w.member n).disk = record { faults = of_n.faults; calls = of_n.disk } in
    let quiet_m : IsQuiet (w.member m).disk = record { faults = of_m.faults; calls = of_m.disk } in
    let whole : List Timed = front ++ timed ∷ rest in
    let can : CanExchange n m w whole = record {
      calls_it = lists_m;
      hears_it = lists_n;
      calls = calls;
      first_call = may;
      answers = answers;
      first_answer = may_answer;
      memory = memory_n;
      its_memory = memory_m;
      place = places;
    } in
    let both : Exchange = calling laws below.apart below.stay group clocks pace nodes n m in_n in_m apart quick w whole can in
    let its : IsCalling both = record { asks = refl; answers = refl; quick = quick; reads = λ x r. r; told = λ y r. r } in
    let given : AllGiven both w whole = all_given both ids (λ done h row offer. c.calls_read_as_said.ensures ids done members h n row offer)
    (λ done h row offer. c.answers_read_as_said.ensures ids done members h m row offer) below.grows below.no_harm whole rows
    (no_traffic start) w refl harmless are calm no_harm memory_n memory_m places in
    let g : Going both w whole = at_first both start w whole
    (fresh laws below.apart below.stay group clocks pace nodes n m in_n in_m apart quick w whole can start (is n in_n) (is m in_m) quiet_n quiet_m calm are given) in
    let there = reach both its term front rest timed w g leads (inl (refl, refl)) in
    comes_back both its term (after_rows w (rows_in front)) timed rest there.1.0 there.0 there.1.1
    (lists_on below.stay m group clocks pace (no_traffic start) n front (timed ∷ rest) w of_n calm lists_m) offer request call.sends call.what call.to call.says long
