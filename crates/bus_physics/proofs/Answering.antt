-- On a physical bus each response is made soon after the request that it answers.
use Rattle.std.proofs.Common.{◌≡◌, ℕ, suc, ◌+◌, ◌≤◌, Bool, true, false, List, [], ◌∷◌, ◌++◌, length, refl, sym, ap, subst, ◌∙◌, arith, inl, inr, append_assoc}
use Rattle.std.specs.Prelude.{◌-◌, slice_index_or, if◌then◌else◌}
use Rattle.can_frame.specs.declared.identifier.Kind.TheVariants.{Response}
use Rattle.can_frame.specs.declared.mark.Mark.{Mark}
use Rattle.raft_log.specs.KeyDisk.{are_put}
use Rattle.raft_model.specs.Lists.{In}
use Rattle.bus_rows.specs.declared.row.Row.{Row}
use Rattle.bus_rows.specs.declared.row.Row.TheVariants.{AEnd, AOpen, ARx, ASend, ATick, Crash, Ext, Fault, Open, Rx, Send, Tick}
use Rattle.transfer_rx.specs.Reassembly.{Arrival}
use Rattle.alloc_spec_laws.specs.Responses.{IsResponse, ResponsesAnswer}
use Rattle.alloc_spec.specs.Accepted.{setting_for}
use Rattle.alloc_spec.specs.AllocatorState.{AllocatorState}
use Rattle.alloc_spec.specs.Step.{Event, at_step, begin_phase, step}
use Rattle.alloc_spec.specs.Step.Event.{Rx as Receives}
use Rattle.alloc_spec.specs.Transfers.{Offer, SentTransfer, kind_of}
use Rattle.bus_spec.specs.Cluster.{Cluster, after_row, arrival_at, frame_at, receipt_of, tick_of}
use Rattle.bus_spec.specs.Members.{Member, MemberStatus, puts_of}
use Rattle.bus_spec.specs.Members.MemberStatus.{Down, Failed, Up}
use Rattle.bus_spec.specs.Refinement.{transfers_of_offers, transfers_of_row, transfers_of_rows, transfers_of_step}
use Rattle.bus_agreement.specs.LawsBelow.{FrameLaws}
use Rattle.bus_agreement.proofs.MadeTransfers.{IsNew, made_when}
use Rattle.bus_rows.specs.Timed.{Timed, rows_in}
use Rattle.bus_physics.specs.Physics.{ComesInTime, FrameComesInTime, FramesComeInTime, IsRecent, Limits, time_of}

one_arrival : (a b : Arrival) → Receives a ≡ Receives b → a ≡ b
one_arrival a b e = cc (e)

module _ (laws : FrameLaws) (answers : (t : AllocatorState) (number : ℕ) (event : Event) → ResponsesAnswer t number event) (limits : Limits) (all : List Timed) where
  -- a response was made after its request, and soon
  pub record IsMadeSoon (x : SentTransfer) : Type 0 where
    pub after : 1 ≤ x.offer.re → time_of all x.offer.re ≤ time_of all x.step
    pub soon : IsRecent limits all x.step → 1 ≤ x.offer.re → time_of all x.step ≤ time_of all x.offer.re + limits.hold

  abbrev pub AreMadeSoon : List SentTransfer → Type 0
  AreMadeSoon made = (x : SentTransfer) → In x made → kind_of x.offer.what ≡ Response → IsMadeSoon x

  module _ (w : Cluster) (came : ℕ) (its_time : time_of all (w.rows + 1) ≡ came) (earlier : List SentTransfer) (old : AreMadeSoon earlier) where
    -- what a step of this event adds, where each response of it answers in time
    by_step : (n : ℕ) (event : Event) → ((t : AllocatorState) (offer : Offer) → IsResponse t (w.rows + 1) event offer
        → IsMadeSoon (record { step = w.rows + 1; by = n; offer = offer })) → (status : MemberStatus) (x : Member)
        → AreMadeSoon (transfers_of_step (w.rows + 1) n event status x earlier)
    by_step n event timely Down x = old
    by_step n event timely (Failed failure) x = old
    by_step n event timely (Up t) x = by (are_put (puts_of x (step t (w.rows + 1) event).step_state) x.disk.calls) where
      new_soon : (y : SentTransfer) → IsNew (w.rows + 1) n (step t (w.rows + 1) event).step_state.offers y → kind_of y.offer.what ≡ Response → IsMadeSoon y
      new_soon y is kind = subst IsMadeSoon (sym is.is)
          (timely t is.offer (answers t (w.rows + 1) event is.offer is.offered (ap (λ (z : SentTransfer). kind_of z.offer.what) (sym is.is) ∙ kind)))

      by : (b : Bool) → AreMadeSoon (if b then transfers_of_offers (w.rows + 1) n (step t (w.rows + 1) event).step_state.offers earlier else earlier)
      by true y i kind = elim (made_when (w.rows + 1) n (step t (w.rows + 1) event).step_state.offers earlier y i) [
        | inl j ↦ old y j kind
        | inr new ↦ new_soon y new kind
      ]
      by false y i kind = old y i kind

    tick_answers : (n ms word : ℕ) (t : AllocatorState) (offer : Offer) → IsResponse t (w.rows + 1) (tick_of ms word) offer
        → IsMadeSoon (record { step = w.rows + 1; by = n; offer = offer })
    tick_answers n ms word t offer is = absurd (cc (is.delivered.comes))

    rx_answers : (n k ms : ℕ) → ComesInTime limits all came (frame_at w.frames k) → (t : AllocatorState) (offer : Offer)
        → IsResponse t (w.rows + 1) (receipt_of w k ms) offer → IsMadeSoon (record { step = w.rows + 1; by = n; offer = offer })
    rx_answers n k ms comes t offer is = record {
      after = λ some. subst (λ (m : ℕ). time_of all offer.re ≤ m) (sym its_time)
          (subst (λ (s : ℕ). time_of all s ≤ came) (sym re_is) (comes.after (subst (λ (s : ℕ). 1 ≤ s) re_is some)));
      soon = λ recent some. subst (λ (m : ℕ). m ≤ time_of all offer.re + limits.hold) (sym its_time)
          (subst (λ (s : ℕ). came ≤ time_of all s + limits.hold) (sym re_is) (comes.soon (subst (λ (m : ℕ). limits.since ≤ m) its_time recent) (subst (λ (s : ℕ). 1 ≤ s) re_is some)));
    }
      where
        then_ : AllocatorState
        then_ = (begin_phase (w.rows + 1) ms t).allocator

        mark_is : is.d.mark ≡ is.delivered.arrival.mark
        mark_is = (laws.delivered (setting_for (begin_phase (w.rows + 1) ms t).allocator.me) (begin_phase (w.rows + 1) ms t).allocator.sessions
            (at_step (begin_phase (w.rows + 1) ms t).allocator is.delivered.arrival) is.d is.delivered.gives).mark

        re_is : offer.re ≡ (frame_at w.frames k).mark.step
        re_is = is.re ∙ (ap (λ (m : Mark). m.step) mark_is
            ∙ ap (λ (a : Arrival). a.mark.step) (sym (one_arrival (arrival_at (frame_at w.frames k) ms) is.delivered.arrival is.delivered.comes)))

    by_row : (row : Row) → FrameComesInTime limits all w came row → AreMadeSoon (transfers_of_row w row earlier)
    by_row (Open n told ms word) comes = old
    by_row (Tick n ms word) comes = by_step n (tick_of ms word) (tick_answers n ms word) (w.member n).status (w.member n)
    by_row (Rx n k ms) comes = by_step n (receipt_of w k ms) (rx_answers n k ms comes) (w.member n).status (w.member n)
    by_row (Send n) comes = old
    by_row (Ext frame) comes = old
    by_row (Crash n calls pattern) comes = old
    by_row (Fault n call) comes = old
    by_row (AOpen b uid pref ms word) comes = old
    by_row (ATick b ms word) comes = old
    by_row (ARx b k ms word) comes = old
    by_row (ASend b) comes = old
    by_row (AEnd b) comes = old

  at_end : (done : List Timed) (t : Timed) (rest : List Timed) (d : Timed) → slice_index_or (done ++ t ∷ rest) (length done) d ≡ t
  at_end [] t rest d = refl
  at_end (x ∷ done) t rest d = at_end done t rest d

  pub all_soon : (now : Timed) (before done : List Timed) (w : Cluster) (earlier : List SentTransfer) → all ≡ done ++ (before ++ now ∷ []) → w.rows ≡ length done
      → AreMadeSoon earlier → FramesComeInTime limits all w (before ++ now ∷ []) → AreMadeSoon (transfers_of_rows w (rows_in before) earlier)
  all_soon now [] done w earlier split rows old comes = old
  all_soon now (t ∷ ts) done w earlier split rows old comes =
      all_soon now ts (done ++ t ∷ []) (after_row w t.row) (transfers_of_row w t.row earlier) (split ∙ sym (append_assoc done (t ∷ []) (ts ++ now ∷ [])))
      (omega (arith, rows, longer done)) (by_row w t.at its_time earlier old t.row comes.0) comes.1
    where
      longer : (xs : List Timed) → length (xs ++ t ∷ []) ≡ suc (length xs)
      longer [] = refl
      longer (x ∷ xs) = ap suc (longer xs)

      at_place : (k : ℕ) → k ≡ length done → time_of (done ++ (t ∷ (ts ++ now ∷ []))) (k + 1) ≡ t.at
      at_place k e = let less : k + 1 - 1 ≡ length done = omega (arith, e) in
          ap (λ (j : ℕ). (slice_index_or (done ++ (t ∷ (ts ++ now ∷ []))) j (record { at = 0; row = Send 0 })).at) less
          ∙ ap (λ (x : Timed). x.at) (at_end done t (ts ++ now ∷ []) (record { at = 0; row = Send 0 }))

      its_time : time_of all (w.rows + 1) ≡ t.at
      its_time = ap (λ (l : List Timed). time_of l (w.rows + 1)) split ∙ (ap (λ (k : ℕ). time_of (done ++ (t ∷ (ts ++ now ∷ []))) (k + 1)) rows
          ∙ at_place (length done) refl)
