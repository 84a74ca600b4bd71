-- A leader in rows of a calm in which it leads on calls each other member, and takes its answer: from there on its next
-- call begins no further on than its log and what it knows the member to have, and each of its calls is of the calm.
use Rattle.std.proofs.Common.{◌≡◌, ◌≢◌, ℕ, ◌+◌, ◌*◌, ◌<◌, ◌≤◌, arith, true, List, [], ◌∷◌, ◌++◌, length, append_assoc, append-nil, length-append, max, refl, sym, ◌∙◌, ap, subst, Some}
use Rattle.can_frame.specs.Timing.{call_timeout}
use Rattle.raft_model.specs.Lists.{In}
use Rattle.raft_model.specs.Messages.{Request}
use Rattle.alloc_spec.specs.AllocatorState.{AllocatorState}
use Rattle.bus_rows.specs.Timed.{Timed}
use Rattle.service_alone.specs.Calm.{end_of}
use Rattle.service_leader.proofs.EntriesParts.{rows_counted}
use Rattle.service_leader.specs.Answers.{AnswersAreTaken}
use Rattle.service_leader.specs.EntriesBelow.{EntryLaws}
use Rattle.service_leader.specs.LeadsOn.{LeadsIn}
use Rattle.service_leader.specs.NoElection.{heard_within}
use Rattle.service_leader.proofs.Stretches.{fits_at, throughout_by, world_both}
use Rattle.service_elections.specs.Running.{IsCalmOf}
use Rattle.service_elections.proofs.CallingInTime.{call_in_time, cut_call, end_call, world_call}
use Rattle.service_elections.proofs.CalmFronts.{recut}
use Rattle.service_elections.proofs.LearnsGrounds.{Grounds}
use Rattle.service_elections.proofs.NobodyScene.{Course, here, the_calm, w}
use Rattle.service_calm.specs.Calm.{Member as OfMember}
use Rattle.service_calm.specs.CallsInTime.{LeadersCallInTime, OffersCall, OffersCallBy}
use Rattle.service_calm.specs.Comes.{Sends, Throughout}
use Rattle.bus_spec.specs.Cluster.{Cluster}
use Rattle.bus_spec.specs.Members.MemberStatus.{Up}
use Rattle.service_elections.proofs.ReturnsTaken as taken
use Rattle.service_elections.proofs.ReturnsTaken.{CallMade}

module _ (s : Course) (g : Grounds s.ids s.rows) (laws : EntryLaws s.ids s.rows) (in_time : LeadersCallInTime) (take : AnswersAreTaken) (n m term : ℕ)
    (in_n : In (OfMember n) s.group) (in_m : In (OfMember m) s.group) (apart : n ≢ m) (first few rest : List Timed) (cut : s.whole ≡ first ++ (few ++ rest))
    (led : (c d : List Timed) → few ≡ c ++ d → LeadsIn n term (here s (first ++ c)))
    (long : end_of s.start first + heard_within s.pace + 2 * s.pace.delay < end_of (end_of s.start first) few) where
  abbrev there : Cluster
  there = here s first

  abbrev moment : ℕ
  moment = end_of s.start first

  -- ---- the call

  leads_throughout : Throughout (LeadsIn n term) there few
  leads_throughout = throughout_by (LeadsIn n term) few there
      (λ front behind timed split. subst (LeadsIn n term) (world_both (w s) first front) (led front (timed ∷ behind) split))

  leads_first : LeadsIn n term there
  leads_first = subst (λ (l : List Timed). LeadsIn n term (here s l)) (append-nil first) (led [] few refl)

  long_enough : moment + call_timeout + s.pace.period < end_of moment few
  long_enough = omega (arith, long)

  abbrev call : OffersCallBy n m (moment + call_timeout + s.pace.period) there few
  call = call_in_time s in_time laws.stay n m term first few rest cut in_n in_m apart leads_throughout leads_first long_enough

  -- the front before the call, its row, and what is behind it
  abbrev front : List Timed
  front = first ++ call.front

  abbrev x : Timed
  x = call.timed

  abbrev early : List Timed
  early = call.rest

  cut_here : s.whole ≡ front ++ x ∷ (early ++ rest)
  cut_here = cut_call s in_time laws.stay n m term first few rest cut in_n in_m apart leads_throughout leads_first long_enough

  calm_here : IsCalmOf s.ids s.rows s.group s.clocks s.pace s.start (front ++ x ∷ (early ++ rest))
  calm_here = recut (the_calm s) (front ++ x ∷ (early ++ rest)) cut_here

  offers : OffersCall n m (here s front) x.row
  offers = subst (λ (v : Cluster). OffersCall n m v x.row)
      (sym (world_call s in_time laws.stay n m term first few rest cut in_n in_m apart leads_throughout leads_first long_enough)) call.offers

  fitted : offers.offer.fitted ≡ true
  fitted = fits_at n front (early ++ rest) x (w s) (calm_here.calls_fit n in_n) m offers

  sends : Sends n (here s front) x.row offers.offer
  sends = record { server = offers.server; runs = offers.runs; event = offers.event; in_step = offers.in_step; offered = offers.offered; fitted = fitted }

  long_here : x.at + 4 * s.pace.delay < end_of x.at early
  long_here =
      let soon = call.soon in
      let ends = end_call s in_time laws.stay n m term first few rest cut in_n in_m apart leads_throughout leads_first long_enough in
      omega (arith, soon, ends, long)

  -- ---- what it is

  list_then : (c : List Timed) → first ++ (call.front ++ x ∷ c) ≡ (front ++ x ∷ []) ++ c
  list_then c = sym (append_assoc first call.front (x ∷ c)) ∙ sym (append_assoc front (x ∷ []) c)

  leads_behind : (c d : List Timed) → early ≡ c ++ d → LeadsIn n term (here s ((front ++ x ∷ []) ++ c))
  leads_behind c d part = subst (λ (l : List Timed). LeadsIn n term (here s l)) (list_then c)
      (led (call.front ++ x ∷ c) d (call.split ∙ (ap (λ (l : List Timed). call.front ++ x ∷ l) part ∙ sym (append_assoc call.front (x ∷ c) d))))

  abbrev made : CallMade s n m term
  made = record {
    front = front;
    timed = x;
    early = early;
    rest = rest;
    cut = cut_here;
    offer = offers.offer;
    sends = sends;
    what = offers.what;
    to = offers.to;
    led = leads_behind;
    late = long_here;
  }

  -- ---- at the end of the rows

  -- the world there
  last_is : here s (first ++ few) ≡ here s ((front ++ x ∷ []) ++ early)
  last_is = ap (here s) (ap (λ (l : List Timed). first ++ l) call.split ∙ list_then early)

  up_there : (u : AllocatorState) → ((here s (first ++ few)).member n).status ≡ Up u → ((here s ((front ++ x ∷ []) ++ early)).member n).status ≡ Up u
  up_there u up = ap (λ (v : Cluster). (v.member n).status) (sym last_is) ∙ up

  -- each call that pends was made in the rows behind the first ones
  pub pends_since : (u : AllocatorState) (asked : Request) → ((here s (first ++ few)).member n).status ≡ Up u → u.raft_server.memory.pending m ≡ Some asked
      → there.rows < asked.step
  pends_since u asked up pends =
      let late = taken.pends_since s g laws take n m term in_n in_m apart made u asked (up_there u up) pends in
      let all = rows_counted (w s) front in
      let some = rows_counted (w s) first in
      let both = length-append first call.front in omega (arith, late, all, some, both)

  -- and the next call begins no further on than the log, and what is known
  pub next_is_near : (u : AllocatorState) → ((here s (first ++ few)).member n).status ≡ Up u
      → u.raft_server.memory.next m ≤ max (length u.raft_server.store.log) (u.raft_server.memory.matched m + 1)
  next_is_near u up = taken.next_is_near s g laws take n m term in_n in_m apart made u (up_there u up)
