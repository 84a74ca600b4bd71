-- What is under way between a member that asks and one that answers, in a calm: a fact holds of the moment of each
-- request, and each answer was made two delays behind a request at most.
use Rattle.std.proofs.Common.{◌≡◌, ℕ, ◌+◌, ◌*◌, ◌≤◌, arith, List, [], ◌∷◌, ◌++◌, refl, sym, ap, subst, inl, inr}
use Rattle.std.specs.Prelude.{⊤, ◌⊎◌}
use Rattle.can_frame.specs.declared.step.What.{What}
use Rattle.raft_model.specs.Lists.{In}
use Rattle.alloc_spec.specs.Transfers.{Offer}
use Rattle.service_leader.proofs.Exchange.{Exchange, in_one, none_in}
use Rattle.service_leader.proofs.ExchangeAnswers.{IsSilent}
use Rattle.service_leader.proofs.ExchangeGoes as goes
use Rattle.service_leader.proofs.ExchangeGoes.{Going, a_row, a_then, answered_in_time, asked_in_time, goes_on, q_row, q_then}
use Rattle.service_leader.proofs.ExchangeStart.{Fresh}
use Rattle.bus_agreement.proofs.Lists.{in_append}
use Rattle.service_calm.specs.Comes.{Sends, sent_by}
use Rattle.service_calm.proofs.Pending.{Made}
use Rattle.bus_rows.specs.Timed.{Timed, rows_in}
use Rattle.service_alone.specs.Calm.{Pace}
use Rattle.bus_spec.specs.Cluster.{Cluster, after_row, after_rows}

module _ (both : Exchange) (IsAsked : ℕ → Type 0) where
  abbrev pace : Pace
  pace = both.pace

  abbrev n : ℕ
  n = both.n

  abbrev m : ℕ
  m = both.m

  abbrev asks : What
  asks = both.asks

  abbrev answers : What
  answers = both.answers

  -- in each of these rows in which n asks m the fact holds of the moment
  abbrev pub AreAsked : Cluster → List Timed → Type 0
  AreAsked w [] = ⊤
  AreAsked w (timed ∷ rest) = ((offer : Offer) → Sends n w timed.row offer → offer.what ≡ asks → offer.to ≡ m → IsAsked timed.at)
      × AreAsked (after_row w timed.row) rest

  -- this moment is two delays at most behind one of which it holds
  abbrev pub IsBehind : ℕ → Type 0
  IsBehind at = (asked : ℕ) × IsAsked asked × (at ≤ asked + 2 * pace.delay)

  -- it holds of the moment of each request that is under way; and each answer that is was made so soon behind one
  pub record Under (w : Cluster) (rows : List Timed) : Type 0 where
    pub going : Going both w rows
    pub asked : (x : Made) → In x going.q.xs → IsAsked x.at
    pub answered : (y : Made) → In y going.a.xs → IsBehind y.at

  -- where the calm begins it is so
  pub at_first : (start : ℕ) (w : Cluster) (rows : List Timed) → Fresh both start w rows → Under w rows
  at_first start w rows f = record { going = goes.at_first both start w rows f; asked = λ x i. absurd i; answered = λ y i. absurd i }

  -- ---- a row

  module _ (w : Cluster) (timed : Timed) (rest : List Timed) (u : Under w (timed ∷ rest)) where
    abbrev g : Going both w (timed ∷ rest)
    g = u.going

    -- an answer that comes was asked for four delays before at most
    pub comes_behind : IsSilent both w timed.row ⊎ ((at : ℕ) × IsAsked at × (timed.at ≤ at + 4 * pace.delay))
    comes_behind = elim (a_row both w timed rest g) [
      | inl p ↦ inl p.silent
      | inr d ↦
          let i : In d.x g.a.xs = subst (λ (l : List Made). In d.x l) (sym d.first) (inl refl) in
          let behind = u.answered d.x i in
          inr (behind.0, behind.1, let late = behind.2 in let soon = answered_in_time both w timed rest g d.x i in omega (arith, late, soon))
    ]

    module _ (marks : (offer : Offer) → Sends n w timed.row offer → offer.what ≡ asks → offer.to ≡ m → IsAsked timed.at) where
      asks_then : (of_q : goes.PassesQ both w timed rest g ⊎ goes.BringsQ both w timed rest g) (x : Made) → In x (q_then both w timed rest g of_q).1.xs → IsAsked x.at
      asks_then (inl p) x i = elim (in_append x g.q.xs p.more (subst (λ (l : List Made). In x l) p.xs_are i)) [
        | inl old ↦ u.asked x old
        | inr new ↦ elim p.news [
          | inl none ↦ absurd (none_in x p.more none.0 new)
          | inr o ↦
              let same = in_one x (record { at = timed.at; transfer = sent_by n w o.0 }) p.more o.1 new in
              subst IsAsked (ap (λ (y : Made). y.at) (sym same)) (marks o.0 o.2 o.3 o.6)
        ]
      ]
      asks_then (inr d) x i = u.asked x (subst (λ (l : List Made). In x l) (sym d.first) (inr (subst (λ (l : List Made). In x l) d.xs_are i)))

      -- an answer is sent in the row only where a request is delivered
      sent_behind : (offer : Offer) → Sends m w timed.row offer → offer.what ≡ answers → offer.to ≡ n → IsBehind timed.at
      sent_behind offer sends what to = elim (q_row both w timed rest g) [
        | inl p ↦ absurd (p.nobody offer sends what to)
        | inr d ↦ let i : In d.x g.q.xs = subst (λ (l : List Made). In d.x l) (sym d.first) (inl refl) in
            (d.x.at, u.asked d.x i, asked_in_time both w timed rest g d.x i)
      ]

      answers_then : (of_a : goes.PassesA both w timed rest g ⊎ goes.BringsA both w timed rest g) (y : Made) → In y (a_then both w timed rest g of_a).xs → IsBehind y.at
      answers_then (inl p) y i = elim (in_append y g.a.xs p.more (subst (λ (l : List Made). In y l) p.xs_are i)) [
        | inl old ↦ u.answered y old
        | inr new ↦ elim p.few_more [
          | inl none ↦ absurd (none_in y p.more none new)
          | inr o ↦
              let behind = sent_behind o.0 o.2 o.3 o.4 in
              let same = ap (λ (z : Made). z.at) (in_one y (record { at = timed.at; transfer = sent_by m w o.0 }) p.more o.1 new) in
              (behind.0, behind.1, let late = behind.2 in omega (arith, same, late))
        ]
      ]
      answers_then (inr d) y i = u.answered y (subst (λ (l : List Made). In y l) (sym d.first) (inr (subst (λ (l : List Made). In y l) d.xs_are i)))

      then_under : Under (after_row w timed.row) rest
      then_under = record {
        going = goes_on both w timed rest g (q_row both w timed rest g) (a_row both w timed rest g);
        asked = asks_then (q_row both w timed rest g);
        answered = answers_then (a_row both w timed rest g);
      }

  -- so it is behind these rows
  pub reach : (front rest : List Timed) (w : Cluster) → Under w (front ++ rest) → AreAsked w front → Under (after_rows w (rows_in front)) rest
  reach [] rest w u all = u
  reach (timed ∷ front) rest w u all = reach front rest (after_row w timed.row) (then_under w timed (front ++ rest) u all.0) all.1
