use Rattle.std.proofs.Common.{◌≡◌, ◌≢◌, ℕ, ◌+◌, ◌≤◌, true, [], ◌∷◌, refl, ap, sym, subst, take, inl, inr, arith}
use Rattle.can_frame.specs.declared.step.What.{What}
use Rattle.can_frame.specs.declared.step.What.TheVariants.{AppQ, Stat, VoteQ}
use Rattle.can_frame.specs.TransferCrc.{bits_of, crc_of, divide, number_of}
use Rattle.can_frame.specs.Cutting.{frames_of, payload_of}
use Rattle.can_frame.specs.Identifier.{identifier_of}
use Rattle.raft_model.specs.Lists.{In}
use Rattle.transfer_rx.specs.Acceptance.{wanted}
use Rattle.transfer_rx.specs.Outcome.{blocks_used, fits_no_part, fits_no_payload, outcome}
use Rattle.transfer_rx.specs.Reassembly.{session_step, step as frame_step}
use Rattle.transfer_rx.specs.Sessions.{session_for}
use Rattle.transfer_tx.specs.Queue.{left_behind, next_out, queued_frames}
use Rattle.alloc_spec.specs.Accepted.{rows}
use Rattle.alloc_spec.specs.Delivered.{delivery_phase}
use Rattle.alloc_spec.specs.Transfers.{Offer}
use Rattle.alloc_spec.specs.Step.{Event, all_nodes, step}
use Rattle.service_calm.specs.Calm.{Device, IsInTime, IsRunning, Member, Party, Traffic, no_traffic, queue_in}
use Rattle.service_calm.specs.Comes.{AreReady, Sends}
use Rattle.bus_rows.specs.Timed.{rows_in}
use Rattle.service_alone.specs.Calm.{NoneIsLate}
use Rattle.allocatee.specs.Accepted.{rows as device_rows}
use Rattle.allocatee.specs.Allocatee.{step as device_step}
use Rattle.bus_spec.specs.Cluster.{Cluster, after_rows, receipt_of}
use Rattle.service_calm.specs.CalmExample.{append_offer, calm_rows, clocks, group, leading_row, leading_world, pace, receiver, sender, sending_row, status_offer, then_world, two, vote_offer}
use Rattle.service_calm.proofs.Examples.{has_memory, opened, server_in, up_is}
use Rattle.service_calm.proofs.laws.calm_can_be.Goals as goal

-- what holds of both members and of the device holds of each party
of_each : (Holds : Party → Type 0) → Holds (Member 1) → Holds (Member 2) → Holds (Device 1) → (party : Party) → In party group → Holds party
of_each Holds first second device party (inl e) = subst Holds (sym e) first
of_each Holds first second device party (inr (inl e)) = subst Holds (sym e) second
of_each Holds first second device party (inr (inr (inl e))) = subst Holds (sym e) device
of_each Holds first second device party (inr (inr (inr i))) = absurd i

abbrev number_in : Party → ℕ
number_in (Member n) = n
number_in (Device a) = a

-- what holds of 1 and of 2 holds of each member
of_members : (Holds : ℕ → Type 0) → Holds 1 → Holds 2 → (n : ℕ) → In (Member n) group → Holds n
of_members Holds first second n (inl e) = subst Holds (sym (ap number_in e)) first
of_members Holds first second n (inr (inl e)) = subst Holds (sym (ap number_in e)) second
of_members Holds first second n (inr (inr (inl e))) = absurd (cc (e))
of_members Holds first second n (inr (inr (inr i))) = absurd i

in_two : (n : ℕ) → In n two → (1 ≤ n) × (n ≤ 125)
in_two n (inl e) = (omega (arith, e), omega (arith, e))
in_two n (inr (inl e)) = (omega (arith, e), omega (arith, e))
in_two n (inr (inr i)) = absurd i

apart : In sender (receiver ∷ []) → ⊥
apart (inl e) = absurd (omega (arith, e))
apart (inr i) = absurd i

pub returns-clause-members : goal.returns-clause-members
returns-clause-members c = record { some = omega arith; few = omega arith; nodes = in_two; once = (apart, ((λ i. i), tt)) }

pub returns-clause-harmless : goal.returns-clause-harmless
returns-clause-harmless c = (inl refl, (inl refl, (inl refl, tt)))

pub returns-clause-listed : goal.returns-clause-listed
returns-clause-listed c = of_members (λ p. In p two) (inl refl) (inr (inl refl))

pub returns-clause-running : goal.returns-clause-running
returns-clause-running c = of_members (λ n. IsRunning n then_world)
    (record { server = opened 1 100 0; runs = refl; faults = 0; disk = refl })
    (record { server = opened 2 200 1000; runs = refl; faults = 0; disk = refl })

pub returns-clause-from : goal.returns-clause-from
returns-clause-from c = inl refl

pub returns-clause-to : goal.returns-clause-to
returns-clause-to c = inr (inl refl)

pub returns-clause-apart : goal.returns-clause-apart
returns-clause-apart c = λ e. absurd (omega (arith, e))

-- a moment by which no time is exceeded, where no frame is on its way to who sends, nor waits at the device
in_time : (traffic : Traffic) (w : Cluster) (at : ℕ) → traffic.at ≤ at
    → at ≤ traffic.ticked (Member 1) + 60 → at ≤ traffic.ticked (Member 2) + 60 → at ≤ traffic.ticked (Device 1) + 60
    → (queue_in w (Member 1) ≢ [] → at ≤ traffic.waits (Member 1) + 10) → (queue_in w (Member 2) ≢ [] → at ≤ traffic.waits (Member 2) + 10)
    → queue_in w (Device 1) ≡ [] → NoneIsLate at 10 (traffic.to (Member 1)) → NoneIsLate at 10 (traffic.to (Member 2)) → NoneIsLate at 10 (traffic.to (Device 1))
    → IsInTime group clocks pace traffic w at
in_time traffic w at moments one two device one_sends two_sends device_sends one_hears two_hears device_hears = record {
  moments = moments;
  ticks = of_each (λ party. at ≤ traffic.ticked party + 60) one two device;
  sends_soon = of_each (λ party. queue_in w party ≢ [] → at ≤ traffic.waits party + 10) one_sends two_sends (λ some. absurd (some device_sends));
  hears = of_each (λ party. NoneIsLate at 10 (traffic.to party)) one_hears two_hears device_hears;
}

-- the world before the calm row at this place
abbrev world_before : ℕ → Cluster
world_before place = after_rows then_world (rows_in (take place calm_rows))

pub returns-clause-calm : goal.returns-clause-calm
unfolding step all_nodes queued_frames next_out left_behind frames_of frame_step outcome fits_no_payload fits_no_part payload_of delivery_phase session_step session_for wanted identifier_of rows blocks_used bits_of crc_of divide number_of device_step device_rows
returns-clause-calm c = (
  in_time (no_traffic 1990) then_world 2000 (omega arith) (omega arith) (omega arith) (omega arith) (λ some. absurd (some refl)) (λ some. absurd (some refl)) refl tt tt tt,
  (inl refl, refl),
  (
    in_time _ _ 2003 (omega arith) (omega arith) (omega arith) (omega arith) (λ some. omega arith) (λ some. absurd (some refl)) refl tt tt tt,
    (inl refl, refl),
    (
      in_time _ _ 2004 (omega arith) (omega arith) (omega arith) (omega arith) (λ some. omega arith) (λ some. absurd (some refl)) refl tt (omega arith, tt) (omega arith, tt),
      (inr (inl refl), refl, refl),
      (
        in_time _ _ 2004 (omega arith) (omega arith) (omega arith) (omega arith) (λ some. omega arith) (λ some. absurd (some refl)) refl tt tt (omega arith, tt),
        (inr (inr (inl refl)), refl, refl),
        (
          in_time _ _ 2005 (omega arith) (omega arith) (omega arith) (omega arith) (λ some. omega arith) (λ some. absurd (some refl)) refl tt tt tt,
          (inl refl, refl),
          (
            in_time _ _ 2006 (omega arith) (omega arith) (omega arith) (omega arith) (λ some. omega arith) (λ some. absurd (some refl)) refl tt (omega arith, tt) (omega arith, tt),
            (inl refl, refl),
            (
              in_time _ _ 2007 (omega arith) (omega arith) (omega arith) (omega arith) (λ some. absurd (some refl)) (λ some. absurd (some refl)) refl tt (omega arith, (omega arith, tt)) (omega arith, (omega arith, tt)),
              (inr (inl refl), refl, refl),
              (
                in_time _ _ 2007 (omega arith) (omega arith) (omega arith) (omega arith) (λ some. absurd (some refl)) (λ some. absurd (some refl)) refl tt (omega arith, tt) (omega arith, (omega arith, tt)),
                (inr (inr (inl refl)), refl, refl),
                (
                  in_time _ _ 2008 (omega arith) (omega arith) (omega arith) (omega arith) (λ some. absurd (some refl)) (λ some. absurd (some refl)) refl tt (omega arith, tt) (omega arith, tt),
                  (inr (inr (inl refl)), refl, refl),
                  (
                    in_time _ _ 2012 (omega arith) (omega arith) (omega arith) (omega arith) (λ some. absurd (some refl)) (λ some. absurd (some refl)) refl tt (omega arith, tt) tt,
                    (inr (inl refl), refl, refl),
                    (
                      in_time _ _ 2013 (omega arith) (omega arith) (omega arith) (omega arith) (λ some. absurd (some refl)) (λ some. omega arith) refl tt tt tt,
                      (inr (inl refl), refl),
                      (
                        in_time _ _ 2014 (omega arith) (omega arith) (omega arith) (omega arith) (λ some. absurd (some refl)) (λ some. absurd (some refl)) refl (omega arith, tt) tt (omega arith, tt),
                        (inl refl, refl, refl),
                        (
                          in_time _ _ 2015 (omega arith) (omega arith) (omega arith) (omega arith) (λ some. omega arith) (λ some. absurd (some refl)) refl tt tt (omega arith, tt),
                          (inr (inr (inl refl)), refl, refl),
                          (
                            in_time _ _ 2016 (omega arith) (omega arith) (omega arith) (omega arith) (λ some. omega arith) (λ some. absurd (some refl)) refl tt tt tt,
                            (inl refl, refl),
                            (
                              in_time _ _ 2017 (omega arith) (omega arith) (omega arith) (omega arith) (λ some. omega arith) (λ some. absurd (some refl)) refl tt (omega arith, tt) (omega arith, tt),
                              (inl refl, refl),
                              (
                                in_time _ _ 2018 (omega arith) (omega arith) (omega arith) (omega arith) (λ some. absurd (some refl)) (λ some. absurd (some refl)) refl tt (omega arith, (omega arith, tt)) (omega arith, (omega arith, tt)),
                                (inr (inl refl), refl, refl),
                                (
                                  in_time _ _ 2018 (omega arith) (omega arith) (omega arith) (omega arith) (λ some. absurd (some refl)) (λ some. absurd (some refl)) refl tt (omega arith, tt) (omega arith, (omega arith, tt)),
                                  (inr (inr (inl refl)), refl, refl),
                                  (
                                    in_time _ _ 2019 (omega arith) (omega arith) (omega arith) (omega arith) (λ some. absurd (some refl)) (λ some. absurd (some refl)) refl tt (omega arith, tt) (omega arith, tt),
                                    (inr (inr (inl refl)), refl, refl),
                                    (
                                      in_time _ _ 2027 (omega arith) (omega arith) (omega arith) (omega arith) (λ some. absurd (some refl)) (λ some. absurd (some refl)) refl tt (omega arith, tt) tt,
                                      (inr (inl refl), refl, refl),
                                      (
                                        in_time _ _ 2036 (omega arith) (omega arith) (omega arith) (omega arith) (λ some. absurd (some refl)) (λ some. omega arith) refl tt tt tt,
                                        (inr (inl refl), refl),
                                        tt,
                                      ),
                                    ),
                                  ),
                                ),
                              ),
                            ),
                          ),
                        ),
                      ),
                    ),
                  ),
                ),
              ),
            ),
          ),
        ),
      ),
    ),
  ),
)

pub returns-clause-memory : goal.returns-clause-memory
unfolding step all_nodes queued_frames next_out left_behind frames_of frame_step outcome fits_no_payload fits_no_part payload_of delivery_phase session_step session_for wanted identifier_of rows blocks_used bits_of crc_of divide number_of
returns-clause-memory c = (
  has_memory (world_before 0) (omega arith) (omega arith),
  (
    has_memory (world_before 1) (omega arith) (omega arith),
    (
      has_memory (world_before 2) (omega arith) (omega arith),
      (
        has_memory (world_before 3) (omega arith) (omega arith),
        (
          has_memory (world_before 4) (omega arith) (omega arith),
          (
            has_memory (world_before 5) (omega arith) (omega arith),
            (
              has_memory (world_before 6) (omega arith) (omega arith),
              (
                has_memory (world_before 7) (omega arith) (omega arith),
                (
                  has_memory (world_before 8) (omega arith) (omega arith),
                  (
                    has_memory (world_before 9) (omega arith) (omega arith),
                    (
                      has_memory (world_before 10) (omega arith) (omega arith),
                      (
                        has_memory (world_before 11) (omega arith) (omega arith),
                        (
                          has_memory (world_before 12) (omega arith) (omega arith),
                          (
                            has_memory (world_before 13) (omega arith) (omega arith),
                            (
                              has_memory (world_before 14) (omega arith) (omega arith),
                              (
                                has_memory (world_before 15) (omega arith) (omega arith),
                                (
                                  has_memory (world_before 16) (omega arith) (omega arith),
                                  (
                                    has_memory (world_before 17) (omega arith) (omega arith),
                                    (
                                      has_memory (world_before 18) (omega arith) (omega arith),
                                      (
                                        has_memory (world_before 19) (omega arith) (omega arith),
                                        tt,
                                      ),
                                    ),
                                  ),
                                ),
                              ),
                            ),
                          ),
                        ),
                      ),
                    ),
                  ),
                ),
              ),
            ),
          ),
        ),
      ),
    ),
  ),
)

-- nothing waits, and nothing was heard
abbrev are_ready : (what : What) (to : ℕ) → AreReady 1 2 what to then_world
are_ready what to = record { sender = opened 1 100 0; sends = refl; none_waits = refl; receiver = opened 2 200 1000; receives = refl }

-- what the first of the calm rows offers
sends : (offer : Offer) → In offer (step (opened 1 100 0) 4 (Event.Tick 2100 0)).step_state.offers → offer.fitted ≡ true → Sends 1 then_world sending_row.row offer
sends offer i e = record { server = opened 1 100 0; runs = refl; event = Event.Tick 2100 0; in_step = refl; offered = i; fitted = e }

pub returns-clause-status : goal.returns-clause-status
unfolding step all_nodes queued_frames frames_of
returns-clause-status c = record { split = refl; counted = λ e. absurd (cc (e)); heard = ((λ e. absurd (cc (e))), refl); ready = are_ready Stat 0; first = tt; sent = sends status_offer (inl refl) refl; long = omega arith }

pub returns-clause-vote : goal.returns-clause-vote
unfolding step all_nodes queued_frames frames_of
returns-clause-vote c = record { split = refl; counted = λ e. absurd (cc (e)); heard = ((λ e. absurd (cc (e))), refl); ready = are_ready VoteQ 2; first = tt; sent = sends vote_offer (inr (inl refl)) refl; long = omega arith }

-- what it offers as it leads
sends_append : Sends 1 leading_world leading_row.row append_offer
unfolding step all_nodes queued_frames next_out left_behind frames_of frame_step outcome fits_no_payload fits_no_part payload_of delivery_phase session_step session_for wanted identifier_of rows blocks_used bits_of crc_of divide number_of
sends_append = record {
  server = server_in (leading_world.member 1).status;
  runs = up_is (leading_world.member 1).status refl;
  event = receipt_of leading_world 4 2114;
  in_step = refl;
  offered = inl refl;
  fitted = refl;
}

pub returns-clause-append : goal.returns-clause-append
returns-clause-append c = record { split = refl; counted = λ e. absurd (cc (e)); heard = ((λ e. absurd (cc (e))), refl); ready = are_ready AppQ 2; first = tt; sent = sends_append; long = omega arith }

pub returns-clause-call : goal.returns-clause-call
returns-clause-call c = record { sends = sends_append; what = refl; to = refl; says = refl }
