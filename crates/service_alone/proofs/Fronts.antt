-- What happens by the end of some front of rows.
use Rattle.std.proofs.Common.{◌≡◌, ℕ, List, ◌∷◌, ap, None}
use Rattle.bus_rows.specs.Timed.{Timed, rows_in}
use Rattle.service_alone.specs.Calm.{HappensBy, end_of}
use Rattle.bus_spec.specs.Cluster.{Cluster, after_row, after_rows}
use Rattle.bus_spec.specs.Lawful.{cause}

-- and what follows from it
pub so_happens : (start last : ℕ) (w : Cluster) (whole : List Timed) (P Q : ℕ → Cluster → Type 0) → ((moment : ℕ) (v : Cluster) → P moment v → Q moment v)
    → HappensBy start last w whole P → HappensBy start last w whole Q
so_happens start last w whole P Q f h = record {
  front = h.front;
  rest = h.rest;
  split = h.split;
  soon = h.soon;
  lawful = h.lawful;
  happens = f (end_of start h.front) (after_rows w (rows_in h.front)) h.happens;
}

-- it happens behind a lawful row
pub happens_behind : (start last : ℕ) (w : Cluster) (timed : Timed) (rest : List Timed) (P : ℕ → Cluster → Type 0) → cause w timed.row ≡ None
    → HappensBy timed.at last (after_row w timed.row) rest P → HappensBy start last w (timed ∷ rest) P
happens_behind start last w timed rest P lawful h = record {
  front = timed ∷ h.front;
  rest = h.rest;
  split = ap (λ (l : List Timed). timed ∷ l) h.split;
  soon = h.soon;
  lawful = (lawful, h.lawful);
  happens = h.happens;
}
