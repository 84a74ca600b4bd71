-- What a leader keeps of its calls to a peer is never later than its clock.
use Rattle.std.proofs.Common.{◌≡◌, ℕ, ◌≤◌, arith, max, Bool, true, false, List, drop, refl, sym, subst, inl, inr, Option, Some}
use Rattle.std.proofs.lemmas.Bool.Decides.{eqb_tells}
use Rattle.can_frame.specs.declared.step.What.TheVariants.{AppQ, VoteQ}
use Rattle.raft_core.specs.Times.{Sending}
use Rattle.raft_model.specs.Lists.{at, at_here}
use Rattle.raft_model.specs.Messages.{Request}
use Rattle.raft_model.specs.Moves.Leading.{append_request}
use Rattle.raft_model.specs.Moves.Move.{CallForVote, CallToAppend}
use Rattle.raft_model.specs.Server.Role.{Candidate}
use Rattle.bus_rows.specs.declared.row.Row.{Row}
use Rattle.alloc_spec.specs.AllocatorState.{AllocatorState, members_of}
use Rattle.alloc_spec.specs.Step.{Event, moment_of, step}
use Rattle.alloc_spec.specs.StepState.{StepState}
use Rattle.alloc_spec.specs.Transfers.{id_of}
use Rattle.alloc_spec_laws.specs.Phases.{when_told}
use Rattle.service_calm.proofs.CallsInTime.{Until, until_ended, until_won}
use Rattle.service_calm.proofs.CallsOffered.{OfLeader, all_keep, before_calls, called, clash, others, same_after}
use Rattle.service_calm.proofs.Counting.{now_after}
use Rattle.service_calm.proofs.EachServer.{in_each}
use Rattle.bus_spec.specs.Cluster.{world_of}
use Rattle.bus_spec.specs.Members.MemberStatus.{Up}

-- where the server leads, what it keeps of its calls to the peer is no later than its clock
abbrev pub CallsArePast : ℕ → AllocatorState → Type 0
CallsArePast m t = OfLeader m (Until t.now) t.raft_server.memory t.times

-- so it is until a later moment
pub until_later : (moment last : ℕ) (p : Option Request) (s : Option Sending) (a : Option ℕ) → moment ≤ last → Until moment p s a → Until last p s a
until_later moment last p s a low h = (
  λ request e. let call = h.0 request e in (call.0, call.1, omega (arith, call.2, low)),
  λ sent e. let earlier = h.1 sent e in omega (arith, earlier, low),
)

-- ---- the calls of a step

module _ (number m moment : ℕ) where
  abbrev ArePast : StepState → Type 0
  ArePast g = (g.allocator.now ≤ moment) × OfLeader m (Until moment) g.allocator.raft_server.memory g.allocator.times

  mine : (q : ℕ) (pending : ℕ → Option Request) (sending : ℕ → Option Sending) (appended : ℕ → Option ℕ) (request : Request) (call : Sending) (sent : ℕ) → m ≡ q
      → call.moment ≤ moment → sent ≤ moment → Until moment (at pending q (Some request) m) (at sending q (Some call) m) (at appended q (Some sent) m)
  mine q pending sending appended request call sent same begun last =
      subst (λ (x : Option Request). Until moment x (at sending q (Some call) m) (at appended q (Some sent) m)) (sym (at_here pending q m (Some request) same))
      (subst (λ (x : Option Sending). Until moment (Some request) x (at appended q (Some sent) m)) (sym (at_here sending q m (Some call) same))
      (subst (λ (x : Option ℕ). Until moment (Some request) (Some call) x) (sym (at_here appended q m (Some sent) same))
      (λ asked e. (call, refl, begun), λ other e. subst (λ (x : ℕ). x ≤ moment) (cc (e)) last)))

  past_votes : (q : ℕ) (request : Request) (payload : List ℕ) (fits : Bool) (g : StepState) → g.allocator.raft_server.memory.role ≡ Candidate → ArePast g
      → ArePast (called number VoteQ q (CallForVote q) request payload fits g)
  past_votes q request payload true g e h = (h.0, λ leads. absurd (clash g.allocator.raft_server.memory.role e leads))
  past_votes q request payload false g e h = h

  past_appends : (q previous : ℕ) (request : Request) (payload : List ℕ) (fits : Bool) (g : StepState) → ArePast g
      → ArePast (called number AppQ q (CallToAppend q previous true) request payload fits g)
  past_appends q previous request payload true g h = (
    h.0,
    λ leads. elim (eqb_tells m q) [
      | inl z ↦ mine q g.allocator.raft_server.memory.pending g.allocator.times.sending g.allocator.times.appended
          (append_request g.allocator.me number g.allocator.raft_server.store q previous true)
          (record { id = id_of g.allocator.ids AppQ q; moment = g.allocator.now }) g.allocator.now z.1 h.0 h.0
      | inr z ↦ others number m (Until moment) q g.allocator.raft_server.memory.pending g.allocator.times.sending g.allocator.times.appended _ _ _
          z.1 (h.1 leads)
    ],
  )
  past_appends q previous request payload false g h = h

-- ---- the whole step

module _ (m : ℕ) (t : AllocatorState) (number : ℕ) (event : Event) where
  abbrev then_now : ℕ
  then_now = max t.now (moment_of event)

  told_now : (when_told t number event).allocator.now ≤ then_now
  told_now = let same = (same_after t number event).1 in let after = now_after t number event in omega (arith, same, after)

  told_past : CallsArePast m t → OfLeader m (Until then_now) (when_told t number event).allocator.raft_server.memory (when_told t number event).allocator.times
  told_past h = before_calls m (Until then_now) (until_ended then_now) (until_won then_now) t number event
      (λ leading. until_later t.now then_now _ _ _ (omega arith) (h leading))

  step_past : CallsArePast m t → ArePast number m then_now (step t number event).step_state
  unfolding step
  step_past h = all_keep number (ArePast number m then_now) (past_votes number m then_now) (past_appends number m then_now)
      (drop 1 (members_of (when_told t number event).allocator)) (when_told t number event) (told_now, told_past h)

  stay_past : CallsArePast m t → CallsArePast m (step t number event).step_state.allocator
  stay_past h leads = let after = now_after t number event in until_later then_now _ _ _ _ (omega (arith, after)) ((step_past h).1 leads)

-- so it is in each world that rows reach
pub calls_past_in : (ids : List ℕ) (list : List Row) (p : ℕ) (t : AllocatorState) → ((world_of ids list).member p).status ≡ Up t → (m : ℕ) → CallsArePast m t
calls_past_in ids list p t e m = in_each (CallsArePast m) (λ n rules store moment word leads. absurd (cc (leads))) (stay_past m) (λ u h. h) ids list p t e
