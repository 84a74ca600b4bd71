-- A member on a physical bus takes no response to an earlier call, where transfer IDs are used again late.
use Rattle.std.proofs.Common.{◌≡◌, ◌≢◌, ℕ, ◌+◌, ◌<◌, ◌≤◌, Bool, true, false, List, refl, sym, ap, subst, ◌∙◌, arith, ◌⊎◌, inl, inr}
use Rattle.std.specs.Prelude.{◌-◌, ◌*◌, ◌==◌, max}
use Rattle.std.proofs.lemmas.Bool.Decides.{eqb_tells}
use Rattle.can_frame.specs.declared.step.What.{What}
use Rattle.can_frame.specs.declared.step.What.TheVariants.{AppQ, VoteQ}
use Rattle.raft_model.specs.Lists.{In}
use Rattle.bus_rows.specs.declared.row.Row.{Row}
use Rattle.bus_rows.specs.declared.row.Row.TheVariants.{Rx}
use Rattle.transfer_tx.specs.Queue.{Queued}
use Rattle.alloc_spec.specs.Transfers.{SentTransfer, number_of}
use Rattle.bus_spec.specs.Cluster.{Cluster, frame_at}
use Rattle.alloc_spec.specs.Accepted.{is_members_service}
use Rattle.bus_spec.specs.Members.{MemberStatus}
use Rattle.bus_agreement.specs.Said.{carrier}
use Rattle.alloc_spec_laws.proofs.DistinctTransfers.{rank}
use Rattle.bus_agreement.proofs.Lists.{never}
use Rattle.bus_rows.specs.Timed.{Timed}
use Rattle.bus_physics.specs.Physics.{ClockGoesOnAt, ComesInTime, FrameComesInTime, GoesOn, Limits, WhereIts, IsAnsweredSince, AnswersInOrder, IsResponseOf, WaitsForAnswers, now_in, time_of, lag, IsRecent, window}
use Rattle.bus_physics.specs.Reuse.{IsStaleAt}
use Rattle.bus_physics.proofs.Members.{MemberBefore}
use Rattle.bus_physics.proofs.Waiting.{WaitsLast}

pub of_it : {A : Type 0} (a : ℕ) → WhereIts (a == a) A → A
of_it {A} a is = by (a == a) refl is where
  by : (b : Bool) → (a == a) ≡ b → WhereIts b A → A
  by true e x = x
  by false e x = elim (eqb_tells a a) [ inl s ↦ never (sym e ∙ s.0) | inr n ↦ absurd (n.1 refl) ]

-- of a response: its request was made before it, and it soon after
abbrev IsSoon : Limits → List Timed → SentTransfer → Type 0
IsSoon limits all x = (1 ≤ x.offer.re → time_of all x.offer.re ≤ time_of all x.step)
    × (IsRecent limits all x.step → 1 ≤ x.offer.re → time_of all x.step ≤ time_of all x.offer.re + limits.hold)

contradiction : (hold first second response at : ℕ) → response ≤ first + hold → at ≤ response + hold → second ≤ at → first + 2 * hold < second → ⊥
contradiction hold first second response at a b c d = absurd (omega (arith, a, b, c, d))

-- calls are made last in a step
is_call : (append : Bool) → 8 ≤ rank (carrier append)
is_call true = omega arith
is_call false = omega arith

module _ (limits : Limits) (all : List Timed) (sane : lag limits < 58000) (made : List SentTransfer) (numbered : (x : SentTransfer) → In x made → 1 ≤ x.step)
    (heard : List Queued) (w : Cluster) (now : Timed) (n k ms : ℕ) (waits : WaitsForAnswers limits all made heard n)
    (order : AnswersInOrder limits all n heard (frame_at w.frames k)) (back : limits.since ≤ now.at - window limits) (row : now.row ≡ Rx n k ms) (before : MemberBefore limits all n w now)
    (waits_last : WaitsLast n made (w.member n).status)
    (s : IsStaleAt made w n k ms) (soon : IsSoon limits all s.response) where
  comes : ComesInTime limits all now.at (frame_at w.frames k)
  comes = subst (λ (r : Row). FrameComesInTime limits all w now.at r) row before.comes

  goes : GoesOn limits (lag limits) before.past now.at (max s.server.now ms)
  goes = subst (λ (status : MemberStatus). GoesOn limits (lag limits) before.past now.at (now_in status ms)) s.runs
      (of_it n (subst (λ (r : Row). ClockGoesOnAt limits n before.past w now.at r) row before.clock))

  re_is : s.response.offer.re ≡ s.first.step
  re_is = s.response_re ∙ sym s.answered

  some_re : 1 ≤ s.response.offer.re
  some_re = omega (arith, re_is, numbered s.first s.twice.first_made)

  some_step : 1 ≤ (frame_at w.frames k).mark.step
  some_step = omega (arith, s.response_step, numbered s.response s.response_made)

  -- it was made within a hold, and the call that it answers within two
  made_lately : now.at ≤ time_of all (frame_at w.frames k).mark.step + limits.hold
  made_lately = comes.soon (omega (arith, back)) some_step

  recent_response : IsRecent limits all s.response.step
  recent_response = subst (λ (m : ℕ). IsRecent limits all m) (sym s.response_step) (omega (arith, back, made_lately))

  called_lately : time_of all s.response.step ≤ time_of all s.first.step + limits.hold
  called_lately = subst (λ (m : ℕ). time_of all s.response.step ≤ time_of all m + limits.hold) re_is (soon.1 recent_response some_re)

  recent_call : IsRecent limits all s.first.step
  recent_call = omega (arith, back, called_lately, ap (time_of all) s.response_step, made_lately)

  reading : In (record { at = time_of all s.request.step; now = s.sending.moment; opens = false }) before.past
  reading = (before.inv s.server s.runs).called s.second.offer.to s.request s.sending s.pending s.sent

  long_ago : time_of all s.first.step + 2 * limits.hold < time_of all s.second.step → ⊥
  long_ago far =
      contradiction limits.hold (time_of all s.first.step) (time_of all s.second.step) (time_of all s.response.step) now.at
      called_lately (subst (λ (m : ℕ). now.at ≤ time_of all m + limits.hold) (sym s.response_step) made_lately)
      (subst (λ (m : ℕ). time_of all m ≤ now.at) (sym s.called) (goes (record { at = time_of all s.request.step; now = s.sending.moment; opens = false }) reading).0)
      far

  -- the call that was answered was made before the one that waits
  earlier : s.first.step < s.second.step
  earlier =
      let last = waits_last s.server s.runs s.second.offer.to s.request s.pending s.first s.twice.first_made (s.twice.by ∙ s.maker)
      (subst (λ (w : What). 8 ≤ rank w) (sym (s.twice.what ∙ s.carried)) (is_call s.request.append)) s.twice.to in
      below s.first.step s.second.step (subst (λ (m : ℕ). s.first.step ≤ m) (sym s.called) last) s.twice.apart
    where
      below : (a b : ℕ) → a ≤ b → a ≢ b → a < b
      below a b le ne = elim (eqb_tells a b) [ inl e ↦ absurd (ne e.1) | inr other ↦ omega (arith, le, other.1) ]

  -- an answer to that call or a later one came before
  overtaken : IsAnsweredSince made heard s.first → ⊥
  overtaken is = absurd (omega (
    arith,
    is.after,
    is.answers,
    s.answered,
    order (subst (λ (m : ℕ). IsRecent limits all m) s.response_step recent_response)
        (subst (λ (m : ℕ). IsRecent limits all m) s.answered recent_call) is.answer (number_of s.first.offer.what) s.first.offer.to s.another is.came service (to_it is.answer is.is) (to_it (frame_at w.frames k) s.is_response),
  ))
    where
      to_it : (f : Queued) → IsResponseOf (number_of s.first.offer.what) s.first.offer.to s.first.by f → IsResponseOf (number_of s.first.offer.what) s.first.offer.to n f
      to_it f r = subst (λ (m : ℕ). IsResponseOf (number_of s.first.offer.what) s.first.offer.to m f) (s.twice.by ∙ s.maker) r

      of_carrier : (append : Bool) → is_members_service (number_of (carrier append)) ≡ true
      of_carrier true = refl
      of_carrier false = refl

      service : is_members_service (number_of s.first.offer.what) ≡ true
      service = ap (λ (w : What). is_members_service (number_of w)) (s.twice.what ∙ s.carried) ∙ of_carrier s.request.append

  by_carrier : (append : Bool) (what : What) → what ≡ carrier append → (what ≡ AppQ) ⊎ (what ≡ VoteQ)
  by_carrier true what is = inl is
  by_carrier false what is = inr is

  pub not_stale : ⊥
  not_stale = elim (waits s.first s.second s.twice.first_made s.twice.second_made (s.twice.by ∙ s.maker) s.maker s.twice.what s.twice.to s.twice.id earlier
      (by_carrier s.request.append s.first.offer.what (s.twice.what ∙ s.carried)) recent_call) [
        | inl far ↦ long_ago far
        | inr answered ↦ overtaken answered
      ]
