use Rattle.std.proofs.Common.{◌≡◌, ℕ, ◌≤◌, ◌<◌, suc, zero, false, true, List, [], ◌∷◌, ◌++◌, length, take, refl, ap, arith, inl, inr}
use Rattle.std.specs.Prelude.{◌-◌, replicate}
use Rattle.can_frame.specs.Cutting.{frames_of, payload_of}
use Rattle.can_frame.specs.Identifier.{identifier_of}
use Rattle.raft_model.specs.Lists.{In}
use Rattle.alloc_spec.specs.Accepted.{rows}
use Rattle.alloc_spec.specs.Delivered.{delivery_phase}
use Rattle.alloc_spec.specs.Judging.{arrival_judgement}
use Rattle.alloc_spec.specs.Rules.{rules_by}
use Rattle.alloc_spec.specs.Step.{all_nodes, step}
use Rattle.transfer_rx.specs.Acceptance.{wanted}
use Rattle.transfer_rx.specs.Outcome.{fits_no_payload, outcome}
use Rattle.transfer_rx.specs.Reassembly.{session_step, step as frame_step}
use Rattle.transfer_rx.specs.Sessions.{session_for}
use Rattle.transfer_tx.specs.Queue.{left_behind, next_out, queued_frames}
use Rattle.outside.specs.declared.received.Received.TheVariants.{Frame}
use Rattle.cmd_node.specs.Words.{next_words, own_words, word_of}
use Rattle.cmd_node.specs.Frames.{is_frame, raw_of}
use Rattle.alloc_spec.specs.ClusterMembers.{AreMembers}
use Rattle.bus_spec.specs.Cluster.{Cluster, after_rows, cluster, frame_at}
use Rattle.bus_spec.specs.Members.MemberStatus.{Down}
use Rattle.cmd_node_laws.specs.Example.{first_events, later_events, two, given_then, world_by_then}
use Rattle.cmd_node_laws.specs.Mirrored.{Carries}
use Rattle.cmd_node_laws.specs.Processes.{GoesOn, IsWaiting, Opening, Turning}
use Rattle.cmd_node_laws.specs.Traces.{MayAllHappen, Opens, WasSent, rows_of}
use Rattle.cmd_node_laws.proofs.laws.premises_can_be_met.Goals as goal

abbrev own : List ℕ
own = 2 ∷ []

members : AreMembers two
members = record { some = omega arith; few = omega arith; nodes = each; once = (other, ((λ i. i), tt)) }
  where
    each : (n : ℕ) → In n two → (1 ≤ n) × (n ≤ 125)
    each n (inl e) = (omega (arith, e), omega (arith, e))
    each n (inr (inl e)) = (omega (arith, e), omega (arith, e))
    each n (inr (inr i)) = absurd i

    other : In 1 own → ⊥
    other (inl e) = absurd (omega (arith, e))
    other (inr i) = absurd i

may : MayAllHappen (first_events ++ later_events) (cluster two)
unfolding step frame_step outcome fits_no_payload payload_of all_nodes delivery_phase arrival_judgement session_for session_step wanted queued_frames next_out left_behind frames_of identifier_of rows
may = (
  (refl, refl),
  (
    (refl, refl),
    (
      (record { member = refl; runs = refl }, tt),
      (
        (record { member = refl; runs = refl }, tt),
        (
          (record { member = refl; runs = refl }, (refl, inl refl)),
          ((record { member = refl; runs = refl }, λ e. tt), ((refl, refl), ((record { member = refl; runs = refl }, (refl, inl refl)), tt))),
        ),
      ),
    ),
  ),
)

-- ---- the frame as its link gives it

front : (xs ys : List ℕ) → take (length xs) (xs ++ ys) ≡ xs
front [] ys = refl
front (x ∷ xs) ys = ap (λ (l : List ℕ). x ∷ l) (front xs ys)

carried : (w : Cluster) → is_frame (raw_of (frame_at w.frames 2)) ≡ true
    → Carries (after_rows w (rows_of (Opens 2 false 9100 (word_of (next_words (own_words [] 2)))) w)).frames (Frame (raw_of (frame_at w.frames 2))) (WasSent 2)
carried w e = record { frame = e; id_is = refl; bytes_are = front (frame_at w.frames 2).bytes (replicate (8 - length (frame_at w.frames 2).bytes) 0) }

is_one : is_frame (raw_of (frame_at world_by_then.frames 2)) ≡ true
unfolding step frame_step outcome fits_no_payload payload_of all_nodes delivery_phase arrival_judgement session_for session_step wanted queued_frames next_out left_behind frames_of identifier_of rows
is_one = refl

goes : GoesOn (rules_by 2 []) own given_then world_by_then later_events (Opening 0) (Turning 1 0)
goes = ((refl, refl, refl, refl), ((refl, record { moment_is = refl; word_is = refl; carries = carried world_by_then is_one }), refl))

down : (world_by_then.member 2).status ≡ Down
unfolding step frame_step outcome fits_no_payload payload_of all_nodes delivery_phase arrival_judgement session_for session_step wanted queued_frames next_out left_behind frames_of identifier_of rows
down = refl

waits : (i : ℕ) → i < length own → IsWaiting (rules_by 2 []) own given_then world_by_then i
waits zero low = record { down = down; stored = refl }
waits (suc i) low = absurd (omega (arith, low))

pub returns-clause-run : goal.returns-clause-run
returns-clause-run c = record {
  members = members;
  rules_are = refl;
  some = omega arith;
  once = (λ i. i, tt);
  among = λ n i. inr i;
  may = may;
  waiting = waits;
  goes = goes;
}

term : (world_by_then.member 2).disk.store.term ≡ 1
unfolding step frame_step outcome fits_no_payload payload_of all_nodes delivery_phase arrival_judgement session_for session_step wanted queued_frames next_out left_behind frames_of identifier_of rows
term = refl

pub returns-clause-killed : goal.returns-clause-killed
returns-clause-killed c = term
