-- Who leads in a term that another member of the group is above does not lead in it any more a call and its answer later.
use Rattle.std.proofs.Common.{◌≡◌, ◌≢◌, ℕ, ◌+◌, ◌*◌, ◌<◌, ◌≤◌, arith, List, [], ◌∷◌, ◌++◌, refl, sym, ◌∙◌, ap, subst, inl, inr}
use Rattle.std.specs.Prelude.{◌⊎◌}
use Rattle.std.proofs.lemmas.Bool.Decides.{eqb_tells}
use Rattle.std.proofs.lemmas.List.{append_assoc}
use Rattle.can_frame.specs.Timing.{call_timeout}
use Rattle.raft_model.specs.Lists.{In}
use Rattle.bus_rows.specs.declared.row.Row.{Row}
use Rattle.alloc_spec.specs.AllocatorState.{AllocatorState}
use Rattle.bus_rows.specs.Timed.{Timed, rows_in}
use Rattle.service_alone.specs.Calm.{end_of}
use Rattle.service_calm.specs.Calls.{ListsStay}
use Rattle.service_calm.specs.CallsInTime.{LeadersCallInTime, OffersCall, OffersCallBy}
use Rattle.service_calm.specs.Calm.{Member as OfMember, no_traffic}
use Rattle.service_calm.specs.Comes.{Throughout}
use Rattle.service_calm.proofs.CallsKept.{RunsWith}
use Rattle.service_calm.proofs.Pair.{same_server}
use Rattle.service_leader.specs.LeadsOn.{LeadsIn}
use Rattle.service_leader.specs.NoElection.{heard_within}
use Rattle.service_leader.proofs.Stretches.{throughout_at, throughout_rest, world_both}
use Rattle.service_candidate.proofs.TermsRise.{terms_rise}
use Rattle.service_elections.specs.Rounds.{LeadersBelowStepDown}
use Rattle.service_elections.specs.Running.{NobodyStandsIn}
use Rattle.service_elections.specs.Sent.{CallersLearn}
use Rattle.service_elections.proofs.CallingInTime.{call_in_time, cut_call, cut_next, end_call, next_row}
use Rattle.service_elections.proofs.CalmFronts.{recut}
use Rattle.service_elections.proofs.NobodyScene.{Course, IsKnown, StepLaws, here, known_at, the_calm, w}
use Rattle.service_elections.proofs.NobodyStands.{FirstBehind, nobody_front, nobody_rest}
use Rattle.service_elections.proofs.NobodyStays.{leads_in_or_not}
use Rattle.bus_spec.specs.Cluster.{Cluster, after_row, after_rows, world_of}
use Rattle.bus_spec.specs.Members.MemberStatus.{Up}

-- behind a front of these rows the member does not lead in this term
abbrev pub Stops : (n term : ℕ) → Cluster → List Timed → Type 0
Stops n term v list = (early : List Timed) × (late : List Timed) × (list ≡ early ++ late) × (LeadsIn n term (after_rows v (rows_in early)) → ⊥)

-- there is one, or it leads in it all the time
pub stops_or_leads : (n term : ℕ) (list : List Timed) (v : Cluster)
    → Stops n term v list ⊎ Throughout (LeadsIn n term) v list
stops_or_leads n term [] v = inr tt
stops_or_leads n term (timed ∷ list) v = elim (leads_in_or_not n term v) [
  | inr not_so ↦ inl ([], timed ∷ list, refl, not_so)
  | inl leads ↦ elim (stops_or_leads n term list (after_row v timed.row)) [
    | inl stops ↦ inl (timed ∷ stops.0, stops.1, ap (λ (l : List Timed). timed ∷ l) stops.2, stops.3)
    | inr all ↦ inr (leads, all)
  ]
]

module _ (s : Course) (callers : CallersLearn s.ids s.rows) (in_time : LeadersCallInTime) (stay : ListsStay) (n m term : ℕ) (first few rest : List Timed)
    (cut : s.whole ≡ first ++ (few ++ rest)) (in_n : In (OfMember n) s.group) (in_m : In (OfMember m) s.group) (server : AllocatorState)
    (up : ((here s first).member m).status ≡ Up server) (above : term < server.raft_server.store.term)
    (nobody : NobodyStandsIn s.group (here s first) few)
    (long : end_of s.start first + heard_within s.pace + 2 * s.pace.delay < end_of (end_of s.start first) few) where
  abbrev there : Cluster
  there = here s first

  abbrev moment : ℕ
  moment = end_of s.start first

  -- ---- where it leads in the term all the time

  module _ (differs : n ≢ m) (all : Throughout (LeadsIn n term) there few) (at_first : LeadsIn n term there) where
    long_enough : end_of s.start first + call_timeout + s.pace.period < end_of (end_of s.start first) few
    long_enough = omega (arith, long)

    abbrev call : OffersCallBy n m (moment + call_timeout + s.pace.period) there few
    call = call_in_time s in_time stay n m term first few rest cut in_n in_m differs all at_first long_enough

    -- the front before the call
    abbrev a : List Timed
    a = first ++ call.front

    cut_here : s.whole ≡ a ++ call.timed ∷ (call.rest ++ rest)
    cut_here = cut_call s in_time stay n m term first few rest cut in_n in_m differs all at_first long_enough

    same : here s a ≡ after_rows there (rows_in call.front)
    same = world_both (w s) first call.front

    other : RunsWith (IsKnown m (end_of s.start a + s.clocks (OfMember m))) ((here s a).member m)
    other = known_at s m in_m a (call.timed ∷ (call.rest ++ rest)) cut_here

    rises : server.raft_server.store.term ≤ other.server.raft_server.store.term
    rises = terms_rise s.group s.clocks s.pace m first call.front ((call.timed ∷ call.rest) ++ rest) (w s) (no_traffic s.start) (s.calm.running m in_m)
        (recut (the_calm s) (first ++ (call.front ++ ((call.timed ∷ call.rest) ++ rest))) (cut_here ∙ append_assoc first call.front ((call.timed ∷ call.rest) ++ rest))).calm
        server other.server up other.up.status

    abbrev then_w : Cluster
    then_w = after_row (after_rows there (rows_in call.front)) call.timed.row

    end_few : end_of moment few ≡ end_of call.timed.at call.rest
    end_few = end_call s in_time stay n m term first few rest cut in_n in_m differs all at_first long_enough

    -- a row comes behind the call that is later than the answer, and in which it still leads before

    call_long : call.timed.at + 4 * s.pace.delay < end_of call.timed.at call.rest
    call_long = let soon = call.soon in let e = end_few in omega (arith, soon, e, long)

    leads_behind : Throughout (LeadsIn n term) then_w call.rest
    leads_behind = (throughout_rest (LeadsIn n term) call.front (call.timed ∷ call.rest) there (subst (Throughout (LeadsIn n term) there) call.split all)).1

    abbrev next : FirstBehind s.pace (call.timed.at + 4 * s.pace.delay) call.timed.at call.rest
    next = next_row s n in_n a call.rest rest call.timed cut_here call_long

    before_next : LeadsIn n term (after_rows then_w (rows_in next.before))
    before_next = throughout_at (LeadsIn n term) next.before next.later next.last then_w (subst (Throughout (LeadsIn n term) then_w) next.split leads_behind)

    cut_then : s.whole ≡ a ++ call.timed ∷ (next.before ++ next.last ∷ (next.later ++ rest))
    cut_then = cut_next s n in_n a call.rest rest call.timed cut_here call_long

    none_in_rest : NobodyStandsIn s.group then_w (next.before ++ next.last ∷ next.later)
    none_in_rest = subst (NobodyStandsIn s.group then_w) next.split
        (nobody_rest s.group call.front (call.timed ∷ call.rest) there (subst (NobodyStandsIn s.group there) call.split nobody)).1

    none_behind : NobodyStandsIn s.group (after_row (here s a) call.timed.row) next.before
    none_behind = subst (λ (v : Cluster). NobodyStandsIn s.group (after_row v call.timed.row) next.before) (sym same)
        (nobody_front s.group next.before (next.last ∷ next.later) then_w none_in_rest)

    learns : other.server.raft_server.store.term ≤ before_next.server.raft_server.store.term
    learns = callers s.group s.clocks s.pace s.start n m a next.before (next.later ++ rest) call.timed next.last other.server before_next.server (recut (the_calm s) _ cut_then)
        in_n in_m differs (subst (λ (v : Cluster). OffersCall n m v call.timed.row) (sym same) call.offers) other.up.status none_behind next.late
        (ap (λ (v : Cluster). ((after_rows (after_row v call.timed.row) (rows_in next.before)).member n).status) same ∙ before_next.runs)

    cannot : ⊥
    cannot = let its = before_next.its_term in let l = learns in let r = rises in absurd (omega (arith, its, l, r, above))

  pub steps_down : Stops n term there few
  steps_down = elim (leads_in_or_not n term there) [
    | inr not_so ↦ ([], few, refl, not_so)
    | inl at_first ↦ elim (eqb_tells n m) [
      | inl z ↦ absurd (by_itself at_first (subst (λ (k : ℕ). (there.member k).status ≡ Up server) (sym z.1) up))
      | inr z ↦ elim (stops_or_leads n term few there) [
        | inl stops ↦ stops
        | inr all ↦ absurd (cannot z.1 all at_first)
      ]
    ]
  ]
    where
      by_itself : (leads : LeadsIn n term there) → (there.member n).status ≡ Up server → ⊥
      by_itself leads e = let same_term = ap (λ (t : AllocatorState). t.raft_server.store.term) (same_server leads.server server (sym leads.runs ∙ e)) in
          let its = leads.its_term in absurd (omega (arith, same_term, its, above))

-- ---- the law

-- it is so in each calm, where each server of a member has its node ID when the rows begin
pub leaders_below_step_down : (ids : List ℕ) (rows : List Row) → StepLaws
    → ((p : ℕ) → In p ids → (t : AllocatorState) → ((world_of ids rows).member p).status ≡ Up t → t.me ≡ p) → LeadersCallInTime → ListsStay → CallersLearn ids rows
    → LeadersBelowStepDown ids rows
leaders_below_step_down ids rows steps me in_time stay callers group clocks pace start n m term first few rest server calm in_n in_m up above nobody long =
    steps_down (record {
      ids = ids;
      rows = rows;
      group = group;
      clocks = clocks;
      pace = pace;
      start = start;
      whole = first ++ (few ++ rest);
      calm = calm;
      steps = steps;
      me = λ p i. me p (calm.listed p i);
    }) callers in_time stay n m term first few rest refl in_n in_m server up above nobody long
