-- Where nobody leads behind a row nobody called in it. So there is silence in a stretch in which nobody leads, or stands.
use Rattle.std.proofs.Common.{◌≡◌, ℕ, ◌+◌, ◌<◌, ◌≤◌, arith, List, [], ◌∷◌, ◌++◌, sym, ◌∙◌, ap, subst, inl, inr}
use Rattle.std.proofs.lemmas.List.{append_assoc}
use Rattle.raft_model.specs.Lists.{In}
use Rattle.alloc_spec.specs.AllocatorState.{AllocatorState}
use Rattle.alloc_spec.specs.Step.{step}
use Rattle.bus_rows.specs.Timed.{Timed}
use Rattle.service_alone.specs.Calm.{end_of}
use Rattle.service_alone.proofs.Members.{IsUp}
use Rattle.service_calm.specs.Calm.{Member as OfMember}
use Rattle.service_calm.specs.CallsInTime.{OffersCall}
use Rattle.service_leader.specs.CallsAsk.{AsksNext, CallsAskNext}
use Rattle.service_leader.specs.NoElection.{CallsFit}
use Rattle.service_leader.proofs.RowsOfOne.{stepped_up}
use Rattle.service_leader.proofs.Stretches.{fits_at}
use Rattle.service_candidate.specs.Terms.{NobodyLeads}
use Rattle.service_candidate.specs.Wins.{OffersVoteRequest}
use Rattle.service_candidate.proofs.WinsFronts.{part_of}
use Rattle.service_candidate.proofs.WinsStays.{in_middle}
use Rattle.service_elections.specs.Sent.{IsSilentSince, WhoAsksStands}
use Rattle.service_elections.proofs.CalmFronts.{by_end}
use Rattle.service_elections.proofs.NobodyScene.{Course, Stretch, cut_at, ends, ends_next, here, known_at, the_calm, there, there_next, w}
use Rattle.service_elections.proofs.NobodyWins.{asks_nobody}
use Rattle.bus_spec.specs.Cluster.{Cluster}
use Rattle.bus_spec.specs.Members.MemberStatus.{Up}

module _ (s : Course) (calls_ask : CallsAskNext) (p : Stretch s) where
  -- who calls leads behind the row
  pub calls_nobody : (a b : List Timed) (x : Timed) → p.few ≡ a ++ x ∷ b → NobodyLeads s.group (there s p (a ++ x ∷ [])) → (n m : ℕ) → In (OfMember n) s.group
      → OffersCall n m (there s p a) x.row → ⊥
  calls_nobody a b x e unled n m i call = unled n i after status asks.leads
    where
      cut : s.whole ≡ (p.first ++ a) ++ x ∷ (b ++ p.rest)
      cut = cut_at s p a (x ∷ b) e

      after : AllocatorState
      after = (step call.server ((there s p a).rows + 1) call.event).step_state.allocator

      asks : AsksNext m ((there s p a).rows + 1) call.offer (step call.server ((there s p a).rows + 1) call.event).step_state.allocator
      asks = calls_ask call.server ((there s p a).rows + 1) call.event m call.offer call.offered call.what call.to
          (fits_at n (p.first ++ a) (b ++ p.rest) x (w s) (subst (CallsFit n (w s)) cut (s.calm.calls_fit n i)) m call)

      up : IsUp call.server ((there s p a).member n)
      up = record { status = call.runs; quiet = (known_at s n i (p.first ++ a) (x ∷ (b ++ p.rest)) cut).up.quiet }

      status : ((there s p (a ++ x ∷ [])).member n).status ≡ Up (step call.server ((there s p a).rows + 1) call.event).step_state.allocator
      status = ap (λ (v : Cluster). (v.member n).status) (there_next s p a x) ∙ (stepped_up (there s p a) n call.server up x.row call.event call.in_step).status

  -- From a moment on, which is later than the first rows, nobody leads behind the rows.
  abbrev pub UnledSince : ℕ → Type 0
  UnledSince since = (a b : List Timed) → p.few ≡ a ++ b → since ≤ ends s p a → NobodyLeads s.group (there s p a)

  pub is_silent : WhoAsksStands s.ids s.rows → (since : ℕ) → end_of s.start p.first < since → UnledSince since → (a b : List Timed) → p.few ≡ a ++ b
      → IsSilentSince s.group since (w s) (p.first ++ a)
  is_silent asks_stands since begun unled a b e front rest timed n m split late i j differs = elim (part_of p.first a front rest timed split) [
    | inl k ↦
        let soon = by_end (the_calm s) p.first (p.few ++ p.rest) p.cut timed (subst (In timed) (sym k.1) (in_middle front k.0 timed)) in
        absurd (omega (arith, soon, late, begun))
    | inr k ↦
        let cut : p.few ≡ k.0 ++ timed ∷ (rest ++ b) = e ∙ (ap (λ (l : List Timed). l ++ b) k.1 ∙ append_assoc k.0 (timed ∷ rest) b) in (
          λ call. calls_nobody k.0 (rest ++ b) timed cut
              (unled (k.0 ++ timed ∷ []) (rest ++ b) (cut ∙ sym (append_assoc k.0 (timed ∷ []) (rest ++ b)))
              (let is = ends_next s p k.0 timed in omega (arith, is, late))) n m i
              (subst (λ (l : List Timed). OffersCall n m (here s l) timed.row) k.2 call),
          λ asks. asks_nobody s asks_stands p k.0 (rest ++ b) timed cut (omega (arith, begun, late)) n m i j
              (subst (λ (l : List Timed). OffersVoteRequest n m (here s l) timed.row) k.2 asks),
        )
  ]
