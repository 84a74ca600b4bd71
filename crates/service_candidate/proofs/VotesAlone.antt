-- A vote request comes back, and its answer comes alone: what was asked more than four delays before has been answered,
-- and its answers have come.
use Rattle.std.proofs.Common.{◌≡◌, ℕ, ◌+◌, ◌*◌, ◌<◌, ◌≤◌, arith, List, [], ◌∷◌, ◌++◌, refl, sym, ◌∙◌, ap, inl, inr}
use Rattle.std.specs.Prelude.{⊤}
use Rattle.std.proofs.lemmas.Bool.Decides.{leb_tells}
use Rattle.can_frame.specs.declared.step.What.TheVariants.{Vote, VoteQ}
use Rattle.raft_model.specs.Lists.{In}
use Rattle.alloc_spec.specs.Transfers.{Offer}
use Rattle.service_candidate.specs.Votes.{VoteReadsAsSaid, VotesAreAnswered}
use Rattle.service_candidate.specs.VotesAlone.{VoteComesAlone}
use Rattle.service_candidate.specs.Wins.{AsksNobodySince}
use Rattle.service_leader.proofs.Exchange.{Exchange}
use Rattle.service_leader.proofs.ExchangeBack.{comes_back}
use Rattle.service_leader.proofs.ExchangeGoes.{answered_in_time, asked_in_time}
use Rattle.service_leader.proofs.ExchangeStart.{Fresh}
use Rattle.service_leader.proofs.ExchangeUnder.{AreAsked, Under, at_first, reach}
use Rattle.service_candidate.proofs.VotesComeBack.{vote_comes_alone}
use Rattle.service_calm.specs.Comes.{Sends, sent_by}
use Rattle.service_calm.proofs.Pending.{Made}
use Rattle.bus_rows.specs.Timed.{Timed, rows_in}
use Rattle.service_alone.specs.Calm.{Pace, end_of}
use Rattle.bus_spec.specs.Cluster.{Cluster, after_row, after_rows}

nothing : (xs : List Made) → ((x : Made) → In x xs → ⊥) → xs ≡ []
nothing [] none = refl
nothing (x ∷ xs) none = absurd (none x (inl refl))

module _ (both : Exchange) (its_asks : both.asks ≡ VoteQ) where
  abbrev pace : Pace
  pace = both.pace

  abbrev n : ℕ
  n = both.n

  abbrev m : ℕ
  m = both.m

  -- ---- until the request

  module _ (due : ℕ) where
    -- this is more than four delays before the moment
    abbrev IsEarly : ℕ → Type 0
    IsEarly at = at + 4 * pace.delay < due

    -- what was asked so early has come by the moment, and its answers
    none_by : (w : Cluster) (timed : Timed) (rest : List Timed) (u : Under both IsEarly w (timed ∷ rest)) → due ≤ timed.at → (u.going.q.xs ≡ []) × (u.going.a.xs ≡ [])
    none_by w timed rest u late = (
      nothing u.going.q.xs (λ x i. let k = asked_in_time both w timed rest u.going x i in let l = u.asked x i in absurd (omega (arith, k, l, late))),
      nothing u.going.a.xs (λ y i. let k = answered_in_time both w timed rest u.going y i in let l = u.answered y i in
          let early = l.1 in let behind = l.2 in absurd (omega (arith, k, early, behind, late))),
    )

    -- so early is what is asked, where nobody is asked less than four delays before the moment
    are_early : (front : List Timed) (w : Cluster) → AsksNobodySince both.group n due (4 * pace.delay) w front → AreAsked both IsEarly w front
    are_early [] w asked = tt
    are_early (timed ∷ front) w asked = (
      λ offer sends what to. elim (leb_tells due (timed.at + 4 * pace.delay)) [
        | inl z ↦ absurd (asked [] front timed m refl z.1 both.in_m (record {
          server = sends.server;
          runs = sends.runs;
          event = sends.event;
          in_step = sends.in_step;
          offer = offer;
          offered = sends.offered;
          what = what ∙ its_asks;
          to = to;
        }))
        | inr z ↦ let k = z.1 in omega (arith, k)
      ],
      are_early front (after_row w timed.row) (λ first more one p split. asked (timed ∷ first) more one p (ap (λ (l : List Timed). timed ∷ l) split)),
    )

  -- ---- the request

  module _ (start : ℕ) (w : Cluster) (front rest : List Timed) (timed : Timed) (fresh : Fresh both start w (front ++ timed ∷ rest))
      (asked : AsksNobodySince both.group n timed.at (4 * pace.delay) w front) where
    abbrev there : Cluster
    there = after_rows w (rows_in front)

    under : Under both (IsEarly timed.at) there (timed ∷ rest)
    under = reach both (IsEarly timed.at) front (timed ∷ rest) w (at_first both (IsEarly timed.at) start w (front ++ timed ∷ rest) fresh) (are_early timed.at front w asked)

    pub comes_alone : both.answers ≡ Vote → VotesAreAnswered → (offer : Offer) → Sends n there timed.row offer → offer.what ≡ VoteQ → offer.to ≡ m
        → (reads : VoteReadsAsSaid (sent_by n there offer)) → timed.at + 4 * pace.delay < end_of timed.at rest
        → VoteComesAlone n m (sent_by n there offer) reads.request timed.at pace.delay there (timed ∷ rest)
    comes_alone its_answers answered offer sends what to reads long =
        vote_comes_alone both its_answers answered ⊤ (record { at = timed.at; transfer = sent_by n there offer }) reads.request reads.read what refl there (timed ∷ rest)
        (comes_back both ⊤ there timed rest under.going (λ is. none_by timed.at there timed rest under (omega arith)) offer sends (what ∙ sym its_asks) to long) tt
