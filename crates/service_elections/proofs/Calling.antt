-- A leader in a calm in which no election comes any more goes on calling each other member of the group.
use Rattle.std.proofs.Common.{◌≡◌, ◌≢◌, ℕ, ◌+◌, ◌*◌, ◌<◌, List, ◌++◌, append_assoc, refl, sym, ◌∙◌, ap, subst, inr}
use Rattle.raft_model.specs.Lists.{In}
use Rattle.bus_rows.specs.declared.row.Row.{Row}
use Rattle.alloc_spec.specs.AllocatorState.{AllocatorState}
use Rattle.bus_rows.specs.Timed.{Timed, rows_in}
use Rattle.service_alone.specs.Calm.{Pace, end_of}
use Rattle.service_calm.specs.Calm.{Member as OfMember, Party}
use Rattle.service_calm.specs.CallsInTime.{LeadersCallInTime}
use Rattle.service_leader.specs.Answers.{AnswersAreTaken}
use Rattle.service_leader.specs.EntriesBelow.{EntryLaws}
use Rattle.service_leader.specs.LeadsOn.{LeadsIn}
use Rattle.service_leader.specs.NoElection.{NoElection, heard_within}
use Rattle.service_leader.proofs.Stretches.{world_both}
use Rattle.service_leader.specs.Entries.{GoesOnCalling, PendsSince}
use Rattle.service_elections.specs.Running.{IsCalmOf}
use Rattle.service_elections.specs.Calling.{LeadersGoOnCalling}
use Rattle.service_elections.proofs.CallingTakes.{next_is_near, pends_since}
use Rattle.service_calm.proofs.Grounds.{is_server}
use Rattle.service_elections.proofs.LearnsGrounds.{Grounds}
use Rattle.service_elections.proofs.NobodyScene.{Course, StepLaws, here}
use Rattle.bus_spec.specs.Cluster.{Cluster, after_rows, world_of}
use Rattle.bus_spec.specs.Members.MemberStatus.{Up}

module _ (ids : List ℕ) (rows : List Row) (steps : StepLaws) (g : Grounds ids rows) (laws : EntryLaws ids rows) (in_time : LeadersCallInTime)
    (take : AnswersAreTaken) (group : List Party) (clocks : Party → ℕ) (pace : Pace) (start n m term : ℕ) (first few rest : List Timed)
    (calm : IsCalmOf ids rows group clocks pace start (first ++ (few ++ rest))) (in_n : In (OfMember n) group) (in_m : In (OfMember m) group) (differs : n ≢ m)
    (none : NoElection group clocks pace (end_of start first) n term (after_rows (world_of ids rows) (rows_in first)) (few ++ rest))
    (long : end_of start first + heard_within pace + 2 * pace.delay < end_of (end_of start first) few) where
  abbrev s : Course
  s = record {
    ids = ids;
    rows = rows;
    group = group;
    clocks = clocks;
    pace = pace;
    start = start;
    whole = first ++ (few ++ rest);
    calm = calm;
    steps = steps;
    me = λ p i t up. (is_server g.below.wins.election.calm ids g.members rows g.harmless p t (calm.listed p i) up).me;
  }

  led : (c d : List Timed) → few ≡ c ++ d → LeadsIn n term (here s (first ++ c))
  led c d part = subst (LeadsIn n term) (sym (world_both (world_of ids rows) first c))
      (none.led c (d ++ rest) (ap (λ (l : List Timed). l ++ rest) part ∙ append_assoc c d rest)).leader

  abbrev then_w : Cluster
  then_w = after_rows (after_rows (world_of ids rows) (rows_in first)) (rows_in few)

  at_last : (leader : AllocatorState) → (then_w.member n).status ≡ Up leader → ((here s (first ++ few)).member n).status ≡ Up leader
  at_last leader up = ap (λ (v : Cluster). (v.member n).status) (world_both (world_of ids rows) first few) ∙ up

  goes_on : PendsSince n m (after_rows (world_of ids rows) (rows_in first)).rows then_w × GoesOnCalling n m then_w
  goes_on = (
    λ leader request up pends. pends_since s g laws in_time take n m term in_n in_m differs first few rest refl led long leader request (at_last leader up) pends,
    λ leader up. inr (next_is_near s g laws in_time take n m term in_n in_m differs first few rest refl led long leader (at_last leader up)),
  )

pub leaders_go_on_calling : (ids : List ℕ) (rows : List Row) → StepLaws → Grounds ids rows → EntryLaws ids rows → LeadersCallInTime → AnswersAreTaken → LeadersGoOnCalling ids rows
leaders_go_on_calling ids rows steps g laws in_time take group clocks pace start n m term first few rest calm in_n in_m differs none long =
    goes_on ids rows steps g laws in_time take group clocks pace start n m term first few rest calm in_n in_m (λ e. differs (sym e)) none long
