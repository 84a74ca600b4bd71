use Rattle.std.proofs.Common.{◌≡◌, ℕ, zero, suc, ◌+◌, ◌≤◌, Bool, true, false, List, [], ◌∷◌, ◌++◌, refl, ap, sym, ◌∙◌, arith, inl, inr, subst}
use Rattle.std.specs.Prelude.{◌-◌, ◌==◌, min, slice_index_or}
use Rattle.can_frame.specs.Cutting.{frames_of, payload_of}
use Rattle.can_frame.specs.Identifier.{identifier_of}
use Rattle.raft_model.specs.Lists.{In}
use Rattle.transfer_rx.specs.Acceptance.{wanted}
use Rattle.transfer_rx.specs.Outcome.{fits_no_payload, outcome}
use Rattle.transfer_rx.specs.Reassembly.{session_step, step as frame_step}
use Rattle.transfer_rx.specs.Sessions.{session_for}
use Rattle.transfer_tx.specs.Queue.{Queued, left_behind, next_out, queued_frames}
use Rattle.allocatee.specs.Judging.{arrival_judgement as device_judgement}
use Rattle.allocatee.specs.Accepted.{rows as device_rows}
use Rattle.alloc_spec.specs.Accepted.{rows}
use Rattle.alloc_spec.specs.Delivered.{delivery_phase}
use Rattle.alloc_spec.specs.Judging.{arrival_judgement}
use Rattle.alloc_spec.specs.Step.{all_nodes, step}
use Rattle.alloc_spec.specs.Transfers.{SentTransfer}
use Rattle.bus_rows.specs.declared.row.Row.{Row}
use Rattle.bus_rows.specs.declared.row.Row.TheVariants.{Open, Rx, Send, Tick}
use Rattle.bus_spec.specs.Cluster.{Cluster, after_row, cluster, frame_at, world_of}
use Rattle.bus_spec.specs.Lawful.{AreLawful}
use Rattle.bus_spec.specs.Refinement.{transfers_of_rows}
use Rattle.bus_agreement.proofs.Lists.{never}
use Rattle.bus_physics.specs.Example.{afterwards, again, at_allocatee, at_member, before, everything, limits, two, with_bad_minute}
use Rattle.bus_rows.specs.Timed.{Timed, rows_in}
use Rattle.bus_physics.specs.Physics.{AllComeInOrder, ClockIsNotFast, ComeInOrder, ComesInOrder, ComesInTime, GoesOn, IsNotFast, Limits, Reading, WhereIts, row_of, slack, time_of}
use Rattle.bus_physics.specs.Schedule.{DeviceHears, LawfulButForBus, MemberHears, lately}
use Rattle.bus_physics.proofs.Bursts.{one_more_breaks_it, thirty_two_heard}
use Rattle.bus_physics.proofs.laws.premises_can_be_met.Goals as goal

pub returns-clause-lawful : goal.returns-clause-lawful
unfolding step frame_step outcome fits_no_payload all_nodes delivery_phase arrival_judgement session_for session_step wanted queued_frames next_out left_behind frames_of identifier_of rows
returns-clause-lawful c = (refl, (refl, (refl, (refl, (refl, tt)))))

-- a clock that goes on
passes : (l : Limits) (wrong at now then moment : ℕ) (opens : Bool) → at ≤ then → (l.since ≤ then → now + min (then - at) 60000 ≤ moment + wrong)
    → GoesOn l wrong (record { at = at; now = now; opens = opens } ∷ []) then moment
passes l wrong at now then moment opens late more p (inl e) = (
  omega (arith, late, ap (λ (r : Reading). r.at) e),
  λ recent. omega (arith, more recent, ap (λ (r : Reading). r.at) e, ap (λ (r : Reading). r.now) e),
)
passes l wrong at now then moment opens late more p (inr i) = absurd i

pub returns-clause-clock : goal.returns-clause-clock
unfolding step all_nodes queued_frames next_out left_behind frames_of
returns-clause-clock c = (tt, (tt, (tt, (tt, (tt, (passes limits 45 8 500 1050 1505 true (omega arith) (λ recent. omega arith), tt))))))

pub returns-clause-slow : goal.returns-clause-slow
unfolding step all_nodes queued_frames next_out left_behind frames_of
returns-clause-slow c = (tt, (tt, (tt, (tt, (tt, (passes limits 45 8 500 120008 120440 true (omega arith) (λ recent. omega arith), tt))))))

-- a clock of which nothing is asked any more
is_long_ago : (at now then moment : ℕ) → at + 60001 ≤ then → IsNotFast limits (record { at = at; now = now; opens = true } ∷ []) then moment
is_long_ago at now then moment long p (inl e) recent soon = absurd (omega (arith, long, soon, ap (λ (r : Reading). r.at) e))
is_long_ago at now then moment long p (inr i) recent soon = absurd i

pub returns-clause-quick : goal.returns-clause-quick
unfolding step all_nodes queued_frames next_out left_behind frames_of
returns-clause-quick c = (tt, (tt, (tt, (tt, (tt, (is_long_ago 8 500 120008 120560 (omega arith), tt))))))

-- what member 1 made
made_in : (x : SentTransfer) → In x (transfers_of_rows (cluster two) (rows_in before) []) → (x.step ≡ 4) × (x.by ≡ 1)
unfolding step all_nodes queued_frames frames_of
made_in x (inl e) = (ap (λ (y : SentTransfer). y.step) e, ap (λ (y : SentTransfer). y.by) e)
made_in x (inr (inl e)) = (ap (λ (y : SentTransfer). y.step) e, ap (λ (y : SentTransfer). y.by) e)
made_in x (inr (inr i)) = absurd i

pub returns-clause-apart : goal.returns-clause-apart
returns-clause-apart c = λ x y i j by what what_too to to_too id less recent recent_too. absurd (omega (arith, (made_in x i).0, (made_in y j).0, less))

pub returns-clause-frames : goal.returns-clause-frames
unfolding step all_nodes queued_frames next_out left_behind frames_of
returns-clause-frames c = (tt, (tt, (tt, (tt, (tt, ((λ recent other key i first second. absurd i), tt))))))

pub returns-clause-short : goal.returns-clause-short
returns-clause-short c = record { round = omega arith; rested = omega arith; joined = omega arith; clock = omega arith }

not_fast : (at now then moment : ℕ) → moment ≤ now + (then - at) + 5 → IsNotFast limits (record { at = at; now = now; opens = true } ∷ []) then moment
not_fast at now then moment less p (inl e) recent soon =
    omega (arith, less, ap (λ (r : Reading). r.at) e, ap (λ (r : Reading). r.now) e, ap (λ (r : Reading). slack limits r) e)
not_fast at now then moment less p (inr i) recent soon = absurd i

-- what is so of both members
both_of : (P : ℕ → Type 0) → P 1 → P 2 → (m : ℕ) → In m two → P m
both_of P first second m (inl e) = subst P (sym e) first
both_of P first second m (inr (inl e)) = subst P (sym e) second
both_of P first second m (inr (inr i)) = absurd i

fast_first : ClockIsNotFast limits 1 [] (cluster two) before
unfolding step all_nodes queued_frames next_out left_behind frames_of
fast_first = (tt, (tt, (tt, (not_fast 7 0 1007 1000 (omega arith), (tt, tt)))))

fast_second : ClockIsNotFast limits 2 [] (cluster two) before
fast_second = (tt, (tt, (tt, (tt, (tt, tt)))))

pub returns-clause-fast : goal.returns-clause-fast
returns-clause-fast c = both_of (λ m. ClockIsNotFast limits m [] (cluster two) before) fast_first fast_second

-- behind the fourth row nobody is opened
abbrev is_opening : Row → Bool
is_opening (Open n told ms word) = true
is_opening row = false

none_opens : (rows : List Timed) → ((t : Timed) → In t rows → is_opening t.row ≡ false) → (k : ℕ) → is_opening (slice_index_or rows k (record { at = 0; row = Send 0 })).row ≡ false
none_opens [] each k = refl
none_opens (t ∷ rest) each zero = each t (inl refl)
none_opens (t ∷ rest) each (suc k) = none_opens rest (λ u i. each u (inr i)) k

behind_four : (a b c d : Timed) (rows : List Timed) (k : ℕ) → 4 ≤ k
    → (j : ℕ) × (slice_index_or (a ∷ (b ∷ (c ∷ (d ∷ rows)))) k (record { at = 0; row = Send 0 }) ≡ slice_index_or rows j (record { at = 0; row = Send 0 }))
behind_four a b c d rows zero h = absurd (omega (arith, h))
behind_four a b c d rows (suc zero) h = absurd (omega (arith, h))
behind_four a b c d rows (suc (suc zero)) h = absurd (omega (arith, h))
behind_four a b c d rows (suc (suc (suc zero))) h = absurd (omega (arith, h))
behind_four a b c d rows (suc (suc (suc (suc k)))) h = (k, refl)

never_opened : (a b c d : Timed) (rows : List Timed) → ((t : Timed) → In t rows → is_opening t.row ≡ false) → (number m moment word : ℕ) (told : Bool) → 5 ≤ number
    → row_of (a ∷ (b ∷ (c ∷ (d ∷ rows)))) number ≡ Open m told moment word → ⊥
never_opened a b c d rows each number m moment word told late e =
    let at = behind_four a b c d rows (number - 1) (omega (arith, late)) in
    never (sym (ap (λ (t : Timed). is_opening t.row) at.1 ∙ none_opens rows each at.0) ∙ ap is_opening e)

pub returns-clause-rests : goal.returns-clause-rests
returns-clause-rests c m x number told moment word i mine recent less opened =
    absurd (never_opened _ _ _ _ (record { at = 1008; row = Send 1 } ∷ (at_member ∷ [])) none number m moment word told (omega (arith, (made_in x i).0, less)) opened)
  where
    none : (t : Timed) → In t (record { at = 1008; row = Send 1 } ∷ (at_member ∷ [])) → is_opening t.row ≡ false
    none t (inl e) = ap (λ (u : Timed). is_opening u.row) e
    none t (inr (inl e)) = ap (λ (u : Timed). is_opening u.row) e
    none t (inr (inr i)) = absurd i

-- frame 1 comes first, or again
comes_first : (all : List Timed) (m : ℕ) (b : Bool) → WhereIts b (ComesInOrder limits all m [] (frame_at (world_of two (rows_in before)).frames 1))
comes_first all m true = λ recent other key i first second. absurd i
comes_first all m false = tt

orders : (all : List Timed) → AllComeInOrder limits all two (cluster two) (rows_in (before ++ at_member ∷ []))
unfolding step all_nodes queued_frames next_out left_behind frames_of
orders all = λ m i. (tt, (tt, (tt, (tt, (tt, (comes_first all m (m == 2), tt))))))

pub returns-clause-orders : goal.returns-clause-orders
returns-clause-orders c = orders everything

pub returns-clause-comes : goal.returns-clause-comes
unfolding step all_nodes queued_frames next_out left_behind frames_of
returns-clause-comes c = (tt, (tt, (tt, (tt, (tt, (record { after = λ some. omega arith; soon = λ lately_ some. omega arith }, tt))))))

pub returns-clause-physical : goal.returns-clause-physical
unfolding step all_nodes queued_frames next_out left_behind frames_of
returns-clause-physical c = (
  tt,
  (
    tt,
    (
      tt,
      (
        tt,
        (
          tt,
          (
            (
              passes limits 5 9 40 1050 1080 true (omega arith) (λ recent. omega arith),
              record { after = λ some. omega arith; soon = λ lately_ some. omega arith },
            ),
            tt,
          ),
        ),
      ),
    ),
  ),
)

pub returns-clause-member : goal.returns-clause-member
unfolding step frame_step outcome fits_no_payload all_nodes delivery_phase arrival_judgement session_for session_step wanted queued_frames next_out left_behind frames_of identifier_of payload_of rows
returns-clause-member c = refl

pub returns-clause-allocatee : goal.returns-clause-allocatee
unfolding step frame_step outcome fits_no_payload all_nodes delivery_phase device_judgement session_for session_step wanted queued_frames next_out left_behind frames_of identifier_of device_rows
returns-clause-allocatee c = refl

-- lawful rows are so in any case
but : (w : Cluster) (rows : List Row) → AreLawful w rows → LawfulButForBus w rows
but w [] lawful = tt
but w (row ∷ rows) lawful = ((λ why e. absurd (cc (sym lawful.0 ∙ e))), but (after_row w row) rows lawful.1)

all_lawful : AreLawful (cluster two) (rows_in everything)
unfolding step frame_step outcome fits_no_payload all_nodes delivery_phase arrival_judgement device_judgement session_for session_step wanted queued_frames next_out left_behind frames_of identifier_of payload_of rows device_rows
all_lawful = (refl, (refl, (refl, (refl, (refl, (refl, (refl, (refl, tt))))))))

pub returns-clause-otherwise : goal.returns-clause-otherwise
returns-clause-otherwise c = but (cluster two) (rows_in everything) all_lawful

made_then : (x : SentTransfer) → In x (transfers_of_rows (cluster two) (rows_in (before ++ at_member ∷ [])) []) → (x.step ≡ 4) × (x.by ≡ 1)
unfolding step frame_step outcome fits_no_payload all_nodes delivery_phase session_for session_step wanted queued_frames next_out left_behind frames_of identifier_of payload_of rows
made_then x (inl e) = (ap (λ (y : SentTransfer). y.step) e, ap (λ (y : SentTransfer). y.by) e)
made_then x (inr (inl e)) = (ap (λ (y : SentTransfer). y.step) e, ap (λ (y : SentTransfer). y.by) e)
made_then x (inr (inr i)) = absurd i

made_last : (x : SentTransfer) → In x (transfers_of_rows (cluster two) (rows_in (before ++ (at_member ∷ (again ∷ [])))) []) → x.step ≡ 4
unfolding step frame_step outcome fits_no_payload all_nodes delivery_phase session_for session_step wanted queued_frames next_out left_behind frames_of identifier_of payload_of rows
made_last x (inl e) = ap (λ (y : SentTransfer). y.step) e
made_last x (inr (inl e)) = ap (λ (y : SentTransfer). y.step) e
made_last x (inr (inr i)) = absurd i

-- of two readings
passes_both : (first second : Reading) (then moment : ℕ) → GoesOn limits 45 (first ∷ []) then moment → GoesOn limits 45 (second ∷ []) then moment
    → GoesOn limits 45 (second ∷ (first ∷ [])) then moment
passes_both first second then moment a b p (inl e) = b p (inl e)
passes_both first second then moment a b p (inr i) = a p i

again_none : (t : Timed) → In t (record { at = 1008; row = Send 1 } ∷ (at_member ∷ (again ∷ []))) → is_opening t.row ≡ false
again_none t (inl e) = ap (λ (u : Timed). is_opening u.row) e
again_none t (inr (inl e)) = ap (λ (u : Timed). is_opening u.row) e
again_none t (inr (inr (inl e))) = ap (λ (u : Timed). is_opening u.row) e
again_none t (inr (inr (inr i))) = absurd i

hears_again : MemberHears limits two (before ++ at_member ∷ []) again 2 1
unfolding step frame_step outcome fits_no_payload all_nodes delivery_phase session_for session_step wanted queued_frames next_out left_behind frames_of identifier_of payload_of rows
hears_again = record {
  comes = (
    tt,
    (
      tt,
      (
        tt,
        (
          tt,
          (
            tt,
            (
              record { after = λ some. omega arith; soon = λ lately_ some. omega arith },
              (record { after = λ some. omega arith; soon = λ lately_ some. omega arith }, tt),
            ),
          ),
        ),
      ),
    ),
  );
  clock = (
    tt,
    (
      tt,
      (
        tt,
        (
          tt,
          (
            tt,
            (
              passes limits 45 8 500 1050 1505 true (omega arith) (λ recent. omega arith),
              (
                passes_both (record { at = 8; now = 500; opens = true }) (record { at = 1050; now = 1505; opens = false }) 1050 1541
                    (passes limits 45 8 500 1050 1541 true (omega arith) (λ recent. omega arith)) (passes limits 45 1050 1505 1050 1541 false (omega arith) (λ recent. omega arith)),
                tt,
              ),
            ),
          ),
        ),
      ),
    ),
  );
  orders = orders (before ++ (at_member ∷ (again ∷ [])));
  order = λ recent other key i first second. elim i [ inl e ↦ omega (arith, ap (λ (f : Queued). f.mark.step) e) | inr j ↦ absurd j ];
  fast = both_of (λ m. ClockIsNotFast limits m [] (cluster two) (before ++ at_member ∷ []))
      (tt, (tt, (tt, (not_fast 7 0 1007 1000 (omega arith), (tt, (tt, tt)))))) (tt, (tt, (tt, (tt, (tt, (not_fast 8 500 1050 1505 (omega arith), tt))))));
  rests = λ m listed x number told moment word i mine recent less opened. absurd (never_opened _ _ _ _ (record { at = 1008; row = Send 1 } ∷ (at_member ∷ (again ∷ [])))
      again_none number m moment word told (omega (arith, (made_then x i).0, less)) opened);
  apart = λ x y i j by what what_too to to_too id less recent recent_too. absurd (omega (arith, (made_then x i).0, (made_then y j).0, less));
}

device_hears : DeviceHears limits two (before ++ (at_member ∷ (again ∷ []))) at_allocatee 1 1
unfolding step frame_step outcome fits_no_payload all_nodes delivery_phase session_for session_step wanted queued_frames next_out left_behind frames_of identifier_of payload_of rows
device_hears = record {
  comes = (
    tt,
    (
      tt,
      (
        tt,
        (
          tt,
          (
            tt,
            (
              tt,
              (
                tt,
                (
                  (passes limits 5 9 40 1050 1080 true (omega arith) (λ recent. omega arith), record { after = λ some. omega arith; soon = λ lately_ some. omega arith }),
                  tt,
                ),
              ),
            ),
          ),
        ),
      ),
    ),
  );
  slow = λ x y i j what other by id less recent recent_too come come_too. absurd (omega (arith, made_last x i, made_last y j, less));
}

pub returns-clause-bus : goal.returns-clause-bus
unfolding step all_nodes queued_frames next_out left_behind frames_of
returns-clause-bus c = (
  tt,
  (
    tt,
    (
      tt,
      (
        tt,
        (
          tt,
          (
            record {
              comes = returns-clause-comes c;
              clock = returns-clause-clock c;
              orders = λ m i. (tt, (tt, (tt, (tt, (tt, tt)))));
              order = λ recent other key i first second. absurd i;
              fast = returns-clause-fast c;
              rests = λ m i. returns-clause-rests c m;
              apart = returns-clause-apart c;
            },
            (hears_again, (device_hears, tt)),
          ),
        ),
      ),
    ),
  ),
)

-- ---- a bad minute

bad_lawful : AreLawful (cluster two) (rows_in (with_bad_minute ++ afterwards ∷ []))
unfolding step frame_step outcome fits_no_payload all_nodes delivery_phase arrival_judgement device_judgement session_for session_step wanted queued_frames next_out left_behind frames_of identifier_of payload_of rows device_rows
bad_lawful = (refl, (refl, (refl, (refl, (refl, (refl, (refl, (refl, (refl, (refl, (refl, (refl, (refl, (refl, tt))))))))))))))

pub returns-clause-but_lawful : goal.returns-clause-but_lawful
returns-clause-but_lawful c = bad_lawful

pub returns-clause-slow_turn : goal.returns-clause-slow_turn
unfolding step frame_step outcome fits_no_payload all_nodes delivery_phase session_for session_step wanted queued_frames next_out left_behind frames_of identifier_of payload_of rows
returns-clause-slow_turn c = λ clock. absurd (omega (arith, (clock.1.1.1.1.1.1.1.1.0 (record { at = 1050; now = 1541; opens = false }) (inl refl)).1 (omega arith)))

pub returns-clause-bad : goal.returns-clause-bad
unfolding step frame_step outcome fits_no_payload all_nodes delivery_phase session_for session_step wanted queued_frames next_out left_behind frames_of identifier_of payload_of rows
returns-clause-bad c = λ comes. absurd (omega (arith, comes.1.1.1.1.1.1.1.1.0.soon (omega arith) (omega arith)))

made_in_all : (x : SentTransfer) → In x (transfers_of_rows (cluster two) (rows_in with_bad_minute) []) → (4 ≤ x.step) × (x.offer.to ≡ 0)
unfolding step frame_step outcome fits_no_payload all_nodes delivery_phase session_for session_step wanted queued_frames next_out left_behind frames_of identifier_of payload_of rows
made_in_all x (inl e) = (omega (arith, ap (λ (y : SentTransfer). y.step) e), ap (λ (y : SentTransfer). y.offer.to) e)
made_in_all x (inr (inl e)) = (omega (arith, ap (λ (y : SentTransfer). y.step) e), ap (λ (y : SentTransfer). y.offer.to) e)
made_in_all x (inr (inr (inl e))) = (omega (arith, ap (λ (y : SentTransfer). y.step) e), ap (λ (y : SentTransfer). y.offer.to) e)
made_in_all x (inr (inr (inr (inl e)))) = (omega (arith, ap (λ (y : SentTransfer). y.step) e), ap (λ (y : SentTransfer). y.offer.to) e)
made_in_all x (inr (inr (inr (inr i)))) = absurd i

passes_more : (l : Limits) (first : Reading) (past : List Reading) (then moment : ℕ) → GoesOn l 45 (first ∷ []) then moment → GoesOn l 45 past then moment
    → GoesOn l 45 (first ∷ past) then moment
passes_more l first past then moment a b p (inl e) = a p (inl e)
passes_more l first past then moment a b p (inr i) = b p i

-- the readings of member 2, the latest first
abbrev first_readings : List Reading
first_readings = record { at = 8; now = 500; opens = true } ∷ []

abbrev second_reading : Reading
second_reading = record { at = 1050; now = 1505; opens = false }

abbrev second_readings : List Reading
second_readings = second_reading ∷ first_readings

abbrev third_reading : Reading
third_reading = record { at = 1050; now = 1541; opens = false }

abbrev third_readings : List Reading
third_readings = third_reading ∷ second_readings

abbrev fourth_reading : Reading
fourth_reading = record { at = 61008; now = 60000; opens = false }

abbrev lately_limits : Limits
lately_limits = lately limits 74050

-- a clock of which nothing is asked, since the reading is not recent
old_passes : (at now then moment : ℕ) (opens : Bool) → at ≤ then → then ≤ 71804 → GoesOn lately_limits 45 (record { at = at; now = now; opens = opens } ∷ []) then moment
old_passes at now then moment opens late old = passes lately_limits 45 at now then moment opens late (λ recent. absurd (omega (arith, old, recent)))

old_fast : (at now then moment : ℕ) (opens : Bool) → at ≤ 71804 → IsNotFast lately_limits (record { at = at; now = now; opens = opens } ∷ []) then moment
old_fast at now then moment opens old p (inl e) recent soon = absurd (omega (arith, old, recent, ap (λ (r : Reading). r.at) e))
old_fast at now then moment opens old p (inr i) recent soon = absurd i

fast_more : (first : Reading) (past : List Reading) (then moment : ℕ) → IsNotFast lately_limits (first ∷ []) then moment → IsNotFast lately_limits past then moment
    → IsNotFast lately_limits (first ∷ past) then moment
fast_more first past then moment a b p (inl e) recent soon = a p (inl e) recent soon
fast_more first past then moment a b p (inr i) recent soon = b p i recent soon

old_comes : (frame : Queued) (at : ℕ) → at ≤ 71804 → (1 ≤ frame.mark.step → time_of (with_bad_minute ++ afterwards ∷ []) frame.mark.step ≤ at)
    → ComesInTime lately_limits (with_bad_minute ++ afterwards ∷ []) at frame
old_comes frame at old after = record { after = after; soon = λ recent some. absurd (omega (arith, old, recent)) }

abbrev InOrder : ℕ → Type 0
InOrder m = ComeInOrder lately_limits (with_bad_minute ++ afterwards ∷ []) m [] (cluster two) (rows_in with_bad_minute)

to_one : InOrder 1
unfolding step frame_step outcome fits_no_payload all_nodes delivery_phase session_for session_step wanted queued_frames next_out left_behind frames_of identifier_of payload_of rows
to_one = (tt, (tt, (tt, (tt, (tt, (tt, (tt, (tt, (tt, (tt, (tt, (tt, (tt, tt)))))))))))))

to_two : InOrder 2
unfolding step frame_step outcome fits_no_payload all_nodes delivery_phase session_for session_step wanted queued_frames next_out left_behind frames_of identifier_of payload_of rows
to_two = (tt, (tt, (tt, (tt, (tt, ((λ recent other key i first second. absurd (omega (arith, recent))), ((λ recent other key i first second. absurd (omega (arith, recent))), (tt, ((λ recent other key i first second. absurd (omega (arith, recent))), (tt, (tt, (tt, (tt, tt)))))))))))))

-- the rows behind the fourth one
abbrev later_rows : List Timed
later_rows = record { at = 1008; row = Send 1 }
    ∷ (at_member
    ∷ (again
    ∷ (at_allocatee
    ∷ (record { at = 61008; row = Rx 2 1 60000 }
    ∷ (record { at = 74000; row = Tick 1 73993 0 }
    ∷ (record { at = 74001; row = Send 1 } ∷ (record { at = 74002; row = Send 1 } ∷ (record { at = 74003; row = Send 1 } ∷ (afterwards ∷ [])))))))))

later_none : (t : Timed) → In t later_rows → is_opening t.row ≡ false
later_none t (inl e) = ap (λ (u : Timed). is_opening u.row) e
later_none t (inr (inl e)) = ap (λ (u : Timed). is_opening u.row) e
later_none t (inr (inr (inl e))) = ap (λ (u : Timed). is_opening u.row) e
later_none t (inr (inr (inr (inl e)))) = ap (λ (u : Timed). is_opening u.row) e
later_none t (inr (inr (inr (inr (inl e))))) = ap (λ (u : Timed). is_opening u.row) e
later_none t (inr (inr (inr (inr (inr (inl e)))))) = ap (λ (u : Timed). is_opening u.row) e
later_none t (inr (inr (inr (inr (inr (inr (inl e))))))) = ap (λ (u : Timed). is_opening u.row) e
later_none t (inr (inr (inr (inr (inr (inr (inr (inl e)))))))) = ap (λ (u : Timed). is_opening u.row) e
later_none t (inr (inr (inr (inr (inr (inr (inr (inr (inl e))))))))) = ap (λ (u : Timed). is_opening u.row) e
later_none t (inr (inr (inr (inr (inr (inr (inr (inr (inr (inl e)))))))))) = ap (λ (u : Timed). is_opening u.row) e
later_none t (inr (inr (inr (inr (inr (inr (inr (inr (inr (inr i)))))))))) = absurd i

healed_hears : MemberHears lately_limits two with_bad_minute afterwards 2 4
unfolding step frame_step outcome fits_no_payload all_nodes delivery_phase session_for session_step wanted queued_frames next_out left_behind frames_of identifier_of payload_of rows
healed_hears = record {
  comes = (tt, (tt, (tt, (tt, (tt, (old_comes _ 1050 (omega arith) (λ some. omega arith), (old_comes _ 1050 (omega arith) (λ some. omega arith), (tt, (old_comes _ 61008 (omega arith) (λ some. omega arith), (tt, (tt, (tt, (tt, (record { after = λ some. omega arith; soon = λ recent some. omega arith }, tt))))))))))))));
  clock = (tt, (tt, (tt, (tt, (tt, (old_passes 8 500 1050 1505 true (omega arith) (omega arith), (passes_more lately_limits second_reading first_readings 1050 1541 (old_passes 1050 1505 1050 1541 false (omega arith) (omega arith)) (old_passes 8 500 1050 1541 true (omega arith) (omega arith)), (tt, (passes_more lately_limits third_reading second_readings 61008 60000 (old_passes 1050 1541 61008 60000 false (omega arith) (omega arith)) (passes_more lately_limits second_reading first_readings 61008 60000 (old_passes 1050 1505 61008 60000 false (omega arith) (omega arith)) (old_passes 8 500 61008 60000 true (omega arith) (omega arith))), (tt, (tt, (tt, (tt, (passes_more lately_limits fourth_reading third_readings 74050 74542 (passes lately_limits 45 61008 60000 74050 74542 false (omega arith) (λ recent. omega arith)) (passes_more lately_limits third_reading second_readings 74050 74542 (passes lately_limits 45 1050 1541 74050 74542 false (omega arith) (λ recent. omega arith)) (passes_more lately_limits second_reading first_readings 74050 74542 (passes lately_limits 45 1050 1505 74050 74542 false (omega arith) (λ recent. omega arith)) (passes lately_limits 45 8 500 74050 74542 true (omega arith) (λ recent. omega arith)))), tt))))))))))))));
  orders = λ m i. elim i [
    | inl e ↦ subst InOrder (sym e) to_one
    | inr (inl e) ↦ subst InOrder (sym e) to_two
    | inr (inr j) ↦ absurd j
  ];
  order = λ recent other key i first second. elim i [
    | inl e ↦ omega (arith, ap (λ (f : Queued). f.mark.step) e)
    | inr (inl e) ↦ omega (arith, ap (λ (f : Queued). f.mark.step) e)
    | inr (inr (inl e)) ↦ omega (arith, ap (λ (f : Queued). f.mark.step) e)
    | inr (inr (inr j)) ↦ absurd j
  ];
  fast = both_of (λ m. ClockIsNotFast lately_limits m [] (cluster two) with_bad_minute)
      (tt, (tt, (tt, (old_fast 7 0 1007 1000 true (omega arith), (tt, (tt, (tt, (tt, (tt, (fast_more (record { at = 1007; now = 1000; opens = false }) (record { at = 7; now = 0; opens = true } ∷ []) 74000 73993 (old_fast 1007 1000 74000 73993 false (omega arith)) (old_fast 7 0 74000 73993 true (omega arith)), (tt, (tt, (tt, tt)))))))))))))
      (tt, (tt, (tt, (tt, (tt, (old_fast 8 500 1050 1505 true (omega arith), (fast_more second_reading first_readings 1050 1541 (old_fast 1050 1505 1050 1541 false (omega arith)) (old_fast 8 500 1050 1541 true (omega arith)), (tt, (fast_more third_reading second_readings 61008 60000 (old_fast 1050 1541 61008 60000 false (omega arith)) (fast_more second_reading first_readings 61008 60000 (old_fast 1050 1505 61008 60000 false (omega arith)) (old_fast 8 500 61008 60000 true (omega arith))), (tt, (tt, (tt, (tt, tt)))))))))))));
  rests = λ m listed x number told moment word i mine recent less opened. absurd (never_opened _ _ _ _ later_rows later_none number m moment word told (omega (arith, (made_in_all x i).0, less)) opened);
  apart = λ x y i j by what what_too to to_too id less recent recent_too. absurd (omega (arith, (made_in_all x i).1, to));
}

pub returns-clause-healed : goal.returns-clause-healed
returns-clause-healed c = (healed_hears, tt)

pub returns-clause-burst : goal.returns-clause-burst
returns-clause-burst c = thirty_two_heard 0

pub returns-clause-last : goal.returns-clause-last
returns-clause-last c = thirty_two_heard 8

pub returns-clause-more : goal.returns-clause-more
returns-clause-more c = one_more_breaks_it
