-- The rows of a calm, between a member that asks and one that answers: requests and answers that are under way, together.
use Rattle.std.proofs.Common.{ℕ, ◌+◌, ◌*◌, ◌≤◌, List, [], ◌∷◌, ◌++◌, inl, inr}
use Rattle.std.specs.Prelude.{◌⊎◌}
use Rattle.raft_model.specs.Lists.{In}
use Rattle.alloc_spec.specs.Transfers.{id_after, id_of}
use Rattle.service_leader.proofs.Exchange.{AllGiven, Exchange}
use Rattle.service_leader.proofs.ExchangeAnswers as replies
use Rattle.service_leader.proofs.ExchangeAnswers.{Answering}
use Rattle.service_leader.proofs.ExchangeAsks as questions
use Rattle.service_leader.proofs.ExchangeAsks.{Asking}
use Rattle.service_leader.proofs.ExchangeStart.{Fresh, answering, asking}
use Rattle.service_calm.specs.Calm.{AreCalm, Traffic, no_traffic, traffic_after}
use Rattle.service_calm.proofs.Group.{AreWell, well_after}
use Rattle.service_calm.proofs.Pending.{Made}
use Rattle.bus_rows.specs.Timed.{Timed, rows_in}
use Rattle.bus_spec.specs.Cluster.{Cluster, after_row, after_rows}

module _ (both : Exchange) where
  -- The rows go on calmly, and this is under way.
  pub record Going (w : Cluster) (rows : List Timed) : Type 0 where
    pub traffic : Traffic
    pub next : ℕ
    pub q : Asking both traffic w next
    pub a : Answering both traffic w rows
    pub calm : AreCalm both.group both.clocks both.pace traffic w rows
    pub are : AreWell both.group w
    pub given : AllGiven both w rows

  -- where the calm begins, nothing is
  abbrev pub at_first : (start : ℕ) (w : Cluster) (rows : List Timed) → Fresh both start w rows → Going w rows
  at_first start w rows f = record {
    traffic = no_traffic start;
    next = id_of f.requests.sender.ids both.asks both.m;
    q = asking both start w rows f;
    a = answering both start w rows f;
    calm = f.calm;
    are = f.are;
    given = f.given;
  }

  -- ---- a row

  module _ (w : Cluster) (timed : Timed) (rest : List Timed) (g : Going w (timed ∷ rest)) where
    abbrev then_w : Cluster
    then_w = after_row w timed.row

    abbrev then_traffic : Traffic
    then_traffic = traffic_after g.traffic w timed

    abbrev pub PassesQ : Type 0
    PassesQ = questions.Passes both g.traffic w g.next g.q timed rest g.calm g.are g.given.0

    abbrev pub BringsQ : Type 0
    BringsQ = questions.Brings both g.traffic w g.next g.q timed rest g.calm g.are g.given.0

    abbrev pub PassesA : Type 0
    PassesA = replies.Passes both g.traffic w timed rest g.a g.calm g.are g.given.0

    abbrev pub BringsA : Type 0
    BringsA = replies.Brings both g.traffic w timed rest g.a g.calm g.are g.given.0

    pub q_row : PassesQ ⊎ BringsQ
    q_row = questions.in_row both g.traffic w g.next g.q timed rest g.calm g.are g.given.0

    pub a_row : PassesA ⊎ BringsA
    a_row = replies.in_row both g.traffic w timed rest g.a g.calm g.are g.given.0

    pub asked_in_time : (x : Made) → In x g.q.xs → timed.at ≤ x.at + 2 * both.pace.delay
    asked_in_time = questions.in_time both g.traffic w g.next g.q timed rest g.calm g.are g.given.0

    pub answered_in_time : (y : Made) → In y g.a.xs → timed.at ≤ y.at + 2 * both.pace.delay
    answered_in_time = replies.in_time both g.traffic w timed rest g.a g.calm g.are g.given.0

    -- what is under way behind the row
    abbrev pub q_then : PassesQ ⊎ BringsQ → (next : ℕ) × Asking both then_traffic then_w next
    q_then (inl p) = (g.next, p.then_q)
    q_then (inr d) = (id_after g.next, d.then_q)

    abbrev pub a_then : PassesA ⊎ BringsA → Answering both then_traffic then_w rest
    a_then (inl p) = p.then_a
    a_then (inr d) = d.then_a

    abbrev pub goes_on : PassesQ ⊎ BringsQ → PassesA ⊎ BringsA → Going then_w rest
    goes_on of_q of_a = record {
      traffic = then_traffic;
      next = (q_then of_q).0;
      q = (q_then of_q).1;
      a = a_then of_a;
      calm = g.calm.2;
      are = well_after both.laws both.group both.nodes w g.are both.clocks both.pace g.traffic timed.at timed.row g.calm.1;
      given = g.given.1;
    }

  -- and behind these rows
  pub going_on : (front rest : List Timed) (w : Cluster) → Going w (front ++ rest) → Going (after_rows w (rows_in front)) rest
  going_on [] rest w g = g
  going_on (timed ∷ front) rest w g = going_on front rest (after_row w timed.row)
      (goes_on w timed (front ++ rest) g (q_row w timed (front ++ rest) g) (a_row w timed (front ++ rest) g))
