use Rattle.std.proofs.Common.{refl, arith}
use Rattle.can_frame.specs.Cutting.{frames_of}
use Rattle.transfer_tx.specs.Queue.{left_behind, next_out, queued_frames}
use Rattle.alloc_spec.specs.Step.{all_nodes, step}
use Rattle.node_discovery.specs.Watch.{next_query}
use Rattle.service_alone.proofs.laws.quiet_can_be.Goals as goal

pub returns-clause-start : goal.returns-clause-start
returns-clause-start c = record {
  stopped = refl;
  faults = 0;
  disk = refl;
  stored = refl;
  term = omega arith;
  room = λ behind. absurd (omega (arith, behind));
}

pub returns-clause-quiet : goal.returns-clause-quiet
unfolding step all_nodes next_query queued_frames next_out left_behind frames_of
returns-clause-quiet c = (
  record { moments = omega arith; ticks = omega arith; sends = λ some. absurd (some refl) },
  (refl, refl),
  (
    record { moments = omega arith; ticks = omega arith; sends = λ some. omega arith },
    (refl, refl),
    (
      record { moments = omega arith; ticks = omega arith; sends = λ some. absurd (some refl) },
      (refl, refl),
      (
        record { moments = omega arith; ticks = omega arith; sends = λ some. omega arith },
        (refl, refl),
        record { moments = omega arith; ticks = omega arith; sends = λ some. absurd (some refl) },
      ),
    ),
  ),
)
