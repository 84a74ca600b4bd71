-- A leader calls each other member, and does so in time, in rows of a calm in which it leads on.
use Rattle.std.proofs.Common.{◌≡◌, ◌≢◌, ℕ, ◌+◌, ◌*◌, ◌<◌, arith, List, [], ◌∷◌, ◌++◌, append_assoc, sym, ◌∙◌, ap, subst}
use Rattle.can_frame.specs.Timing.{call_timeout}
use Rattle.raft_model.specs.Lists.{In}
use Rattle.raft_model.specs.Server.Role.{Leader}
use Rattle.alloc_spec.specs.AllocatorState.{AllocatorState}
use Rattle.bus_rows.specs.Timed.{Timed, rows_in}
use Rattle.service_alone.specs.Calm.{end_of}
use Rattle.service_alone.proofs.Goes.{after_both}
use Rattle.service_calm.specs.Calls.{ListsStay}
use Rattle.service_calm.specs.CallsInTime.{CalledUntil, Leads, LeadersCallInTime, OffersCallBy}
use Rattle.service_calm.specs.Calm.{AreCalm, Member as OfMember, no_traffic}
use Rattle.service_calm.specs.Comes.{Throughout}
use Rattle.service_calm.proofs.CallsKept.{RunsWith}
use Rattle.service_calm.proofs.Pair.{same_server}
use Rattle.service_leader.specs.LeadsOn.{LeadsIn}
use Rattle.service_leader.proofs.CallsPast.{calls_past_in, until_later}
use Rattle.service_leader.proofs.Stretches.{GoesOnFrom, calm_first, calm_rest, end_both, throughout_so, world_both}
use Rattle.service_elections.proofs.CalmFronts.{goes_at, is_running, recut}
use Rattle.service_elections.proofs.NobodyScene.{Course, IsKnown, here, known_at, the_calm, w}
use Rattle.service_elections.proofs.NobodyStands.{FirstBehind, first_behind}
use Rattle.bus_spec.specs.Cluster.{Cluster, after_row, after_rows, cluster}
use Rattle.bus_spec.specs.Members.MemberStatus.{Up}

-- ---- the first row behind another one that is later than an answer

module _ (s : Course) (n : ℕ) (in_n : In (OfMember n) s.group) (front early rest : List Timed) (timed : Timed) (cut : s.whole ≡ front ++ timed ∷ (early ++ rest))
    (late : timed.at + 4 * s.pace.delay < end_of timed.at early) where
  goes_behind : GoesOnFrom s.group s.clocks s.pace timed.at (after_row (here s front) timed.row) (early ++ rest)
  goes_behind = calm_rest s.group s.clocks s.pace (timed ∷ []) (early ++ rest) (end_of s.start front) (here s front) (goes_at (the_calm s) front (timed ∷ (early ++ rest)) cut)

  pub next_row : FirstBehind s.pace (timed.at + 4 * s.pace.delay) timed.at early
  next_row = first_behind s.group s.clocks s.pace n in_n (timed.at + 4 * s.pace.delay) early rest timed.at (after_row (here s front) timed.row) goes_behind
      (omega arith) late

  pub cut_next : s.whole ≡ front ++ timed ∷ (next_row.before ++ next_row.last ∷ (next_row.later ++ rest))
  cut_next = cut ∙ ap (λ (l : List Timed). front ++ timed ∷ l)
      (ap (λ (l : List Timed). l ++ rest) next_row.split ∙ append_assoc next_row.before (next_row.last ∷ next_row.later) rest)

-- ---- a leader's next call

module _ (s : Course) (in_time : LeadersCallInTime) (stay : ListsStay) (n m term : ℕ) (first few rest : List Timed)
    (cut : s.whole ≡ first ++ (few ++ rest)) (in_n : In (OfMember n) s.group) (in_m : In (OfMember m) s.group) (differs : n ≢ m)
    (all : Throughout (LeadsIn n term) (here s first) few) (at_first : LeadsIn n term (here s first))
    (long : end_of s.start first + call_timeout + s.pace.period < end_of (end_of s.start first) few) where
  abbrev there : Cluster
  there = here s first

  abbrev moment : ℕ
  moment = end_of s.start first

  goes_few : GoesOnFrom s.group s.clocks s.pace moment there few
  goes_few = calm_first s.group s.clocks s.pace few rest moment there (goes_at (the_calm s) first (few ++ rest) cut)

  abbrev run : RunsWith (IsKnown n (moment + s.clocks (OfMember n))) (there.member n)
  run = known_at s n in_n first (few ++ rest) cut

  so : (v : Cluster) → LeadsIn n term v → Leads n v
  so v leads t e = subst (λ (r : AllocatorState). r.raft_server.memory.role ≡ Leader) (same_server leads.server t (sym leads.runs ∙ e)) leads.leads

  until : CalledUntil (moment + s.clocks (OfMember n)) m run.server
  until =
      let past = calls_past_in s.ids (s.rows ++ rows_in first) n run.server
      (subst (λ (v : Cluster). (v.member n).status ≡ Up run.server) (sym (after_both (cluster s.ids) s.rows (rows_in first))) run.up.status) m
      (so there at_first run.server run.up.status) in
      let late = until_later run.server.now (moment + s.clocks (OfMember n)) _ _ _ run.holds.clock past in
      record { pending = late.0; appended = late.1 }

  whole_calm : AreCalm s.group s.clocks s.pace (no_traffic s.start) (w s) (first ++ (few ++ rest))
  whole_calm = (recut (the_calm s) (first ++ (few ++ rest)) cut).calm

  pub call_in_time : OffersCallBy n m (moment + call_timeout + s.pace.period) there few
  call_in_time = in_time s.group s.clocks s.pace goes_few.traffic n m (moment + s.clocks (OfMember n)) (moment + call_timeout) few there
      (is_running n there run) in_n
      (stay s.group s.clocks s.pace (no_traffic s.start) n m first (few ++ rest) (w s) (s.calm.running n in_n) whole_calm
      (s.calm.exchange n m in_n in_m differs).calls_it run.server run.up.status)
      (λ e. differs (sym (e ∙ run.holds.me))) until goes_few.calm
      (throughout_so (LeadsIn n term) (Leads n) so few there all)
      (omega arith) (let e = goes_few.at_end in omega (arith, e)) (let ticked = goes_few.ticked (OfMember n) in omega (arith, ticked))
      (let e = ap (λ (k : ℕ). end_of k few) goes_few.at_end in omega (arith, e, long))

  -- ---- where it is made

  -- the front before the call
  abbrev pub call_front : List Timed
  call_front = first ++ call_in_time.front

  pub cut_call : s.whole ≡ call_front ++ call_in_time.timed ∷ (call_in_time.rest ++ rest)
  cut_call = cut ∙ (ap (λ (l : List Timed). first ++ (l ++ rest)) call_in_time.split ∙ (ap (λ (l : List Timed). first ++ l)
      (append_assoc call_in_time.front (call_in_time.timed ∷ call_in_time.rest) rest)
      ∙ sym (append_assoc first call_in_time.front (call_in_time.timed ∷ (call_in_time.rest ++ rest)))))

  pub world_call : here s call_front ≡ after_rows there (rows_in call_in_time.front)
  world_call = world_both (w s) first call_in_time.front

  pub end_call : end_of moment few ≡ end_of call_in_time.timed.at call_in_time.rest
  end_call = ap (end_of moment) call_in_time.split ∙ end_both moment call_in_time.front (call_in_time.timed ∷ call_in_time.rest)
