-- A response that a member of a group is delivered in a calm comes from another member of the group.
use Rattle.std.proofs.Common.{◌≡◌, ◌≢◌, ℕ, ◌≤◌, true, List, ◌∷◌, sym, ◌∙◌, ap, subst, inl, inr, max}
use Rattle.can_frame.specs.declared.identifier.Ident.{Ident}
use Rattle.can_frame.specs.declared.identifier.Kind.TheVariants.{Response}
use Rattle.can_frame.specs.Identifier.{identifier_of}
use Rattle.raft_model.specs.Lists.{In}
use Rattle.bus_rows.specs.declared.row.Row.{Row}
use Rattle.bus_rows.specs.declared.row.Row.TheVariants.{Rx}
use Rattle.transfer_rx.specs.Acceptance.{is_for}
use Rattle.transfer_rx.specs.Reassembly.{Delivery, Gives, answer}
use Rattle.alloc_spec.specs.Accepted.{rows, setting_for}
use Rattle.alloc_spec.specs.AllocatorState.{AllocatorState}
use Rattle.alloc_spec.specs.Transfers.{ident_of}
use Rattle.bus_agreement.proofs.Idents.{IsWanted, ident_ok}
use Rattle.bus_rows.specs.Timed.{Timed}
use Rattle.service_alone.specs.Calm.{Pace}
use Rattle.service_leader.proofs.HeardIdents.{is_wanted, not_own}
use Rattle.service_leader.proofs.LeadsOnWays.{IsCalmOn, next_of_group}
use Rattle.service_leader.proofs.TermsHeard.{IsOfGroup}
use Rattle.service_calm.specs.Calm.{IsCalmRow, Member as OfMember, Party}
use Rattle.service_calm.proofs.Group.{CalmLaws}
use Rattle.service_calm.proofs.Others.{some_ident}
use Rattle.bus_spec.specs.Cluster.{Cluster, arrival_at, frame_at}

module _ (laws : CalmLaws) (group : List Party) (nodes : (p : ℕ) → In (OfMember p) group → (1 ≤ p) × (p ≤ 125)) (clocks : Party → ℕ) (pace : Pace) where
  module _ (w : Cluster) (timed : Timed) (rest : List Timed) (f : IsCalmOn group clocks pace w (timed ∷ rest)) (n : ℕ) (member : In (OfMember n) group) (k ms : ℕ) (comes : timed.row ≡ Rx n k ms)
      (t : AllocatorState) (me : t.me ≡ n) (d : Delivery)
      (gives : answer (setting_for t.me) t.sessions (arrival_at (frame_at w.frames k) (max t.now ms)) ≡ Gives d) (kind : d.ident.kind ≡ Response) where
    wants : IsWanted rows t.me (frame_at w.frames k).id d.ident
    wants = is_wanted laws.frame t.me t.sessions (arrival_at (frame_at w.frames k) (max t.now ms)) d gives

    own : IsOfGroup group (frame_at w.frames k)
    own = next_of_group group w.frames k (f.traffic.to (OfMember n))
        (subst (λ (row : Row). IsCalmRow group clocks pace f.traffic w timed.at row) comes f.calm.1).2 (f.flies (OfMember n))

    pub from_group : In (OfMember d.ident.source) group × (d.ident.source ≢ n)
    from_group = by own
      where
        by : IsOfGroup group (frame_at w.frames k) → In (OfMember d.ident.source) group × (d.ident.source ≢ n)
        by (inl (p, i, is)) =
            let node = nodes p i in
            let same : d.ident ≡ ident_of p is.what is.to = some_ident d.ident (ident_of p is.what is.to)
            (sym wants.read ∙ (ap identifier_of is.id ∙ laws.frame.ident_read (ident_of p is.what is.to) (ident_ok p is.what is.to node.0 node.1 is.dest))) in
            let source : d.ident.source ≡ p = ap (λ (j : Ident). j.source) same in (
              subst (λ (q : ℕ). In (OfMember q) group) (sym source) i,
              not_own n d.ident (nodes n member).0 (subst (λ (q : ℕ). is_for q d.ident ≡ true) me wants.for_me),
            )
        by (inr none) = absurd (cc (sym (ap (λ (j : Ident). j.kind) (some_ident d.ident none.ident (sym wants.read ∙ none.read)) ∙ none.kind) ∙ kind))
