-- Where nobody stands nobody comes to lead, once the answers of the last election have come: who does not lead goes on
-- so, and who leads leads on in its term, or steps down.
use Rattle.std.proofs.Common.{◌≡◌, ℕ, ◌+◌, ◌*◌, ◌<◌, arith, List, [], ◌∷◌, ◌++◌, sym, ◌∙◌, ap, subst, inl, inr}
use Rattle.std.specs.Prelude.{◌⊎◌}
use Rattle.std.proofs.lemmas.List.{append_assoc, append-nil}
use Rattle.raft_model.specs.Lists.{In}
use Rattle.bus_rows.specs.Timed.{Timed}
use Rattle.service_alone.specs.Calm.{end_of}
use Rattle.service_calm.specs.Calm.{Member as OfMember}
use Rattle.service_leader.specs.CallsComeBack.{LeadsNotIfUp}
use Rattle.service_leader.specs.LeadsOn.{LeadsIn}
use Rattle.service_candidate.specs.Wins.{OffersVoteRequest}
use Rattle.service_candidate.proofs.WinsFronts.{part_of}
use Rattle.service_candidate.proofs.WinsStays.{in_middle}
use Rattle.service_elections.specs.Sent.{HasAsked, WhoAsksStands, WhoWinsHasAsked}
use Rattle.service_elections.proofs.CalmFronts.{by_end, harm_row, recut}
use Rattle.service_elections.proofs.NobodyScene.{Course, Stretch, cut_at, ends, ends_next, here, nobody_there, not_early, the_calm, there, there_next, w}
use Rattle.service_elections.proofs.NobodyStays.{leads_some_or_not, one_term}
use Rattle.bus_spec.specs.Cluster.{Cluster}

module _ (s : Course) (asks_stands : WhoAsksStands s.ids s.rows) (p : Stretch s) where
  abbrev from : ℕ
  from = end_of s.start p.first

  -- nobody asks for a vote
  pub asks_nobody : (a b : List Timed) (x : Timed) → p.few ≡ a ++ x ∷ b → from < x.at → (n m : ℕ) → In (OfMember n) s.group → In (OfMember m) s.group
      → OffersVoteRequest n m (there s p a) x.row → ⊥
  asks_nobody a b x e late n m i j asks =
      let settled = p.settled in
      let stands = asks_stands s.group s.clocks s.pace s.start n m (p.first ++ a) (b ++ p.rest) x (recut (the_calm s) _ (cut_at s p a (x ∷ b) e)) i j
      (omega (arith, settled, late)) asks in
      (nobody_there s p a b x e).0 n stands.0 i stands.1

  module _ (wins_asked : WhoWinsHasAsked s.ids s.rows) where
    -- who does not lead before a row does not lead behind it
    pub wins_not : (a b : List Timed) (x : Timed) → p.few ≡ a ++ x ∷ b → from + 4 * s.pace.delay < x.at → (n : ℕ) → In (OfMember n) s.group
        → LeadsNotIfUp n (there s p a) → LeadsNotIfUp n (there s p (a ++ x ∷ []))
    wins_not a b x e late n i off server up leads = elim (part_of p.first a h.front h.rest h.timed h.split) [
      | inl k ↦
          let soon = by_end (the_calm s) p.first (p.few ++ p.rest) p.cut h.timed (subst (In h.timed) (sym k.1) (in_middle h.front k.0 h.timed)) in
          let lately = h.lately in absurd (omega (arith, soon, lately, late))
      | inr k ↦ asks_nobody k.0 (h.rest ++ x ∷ b) h.timed (e ∙ (ap (λ (l : List Timed). l ++ x ∷ b) k.1 ∙ append_assoc k.0 (h.timed ∷ h.rest) (x ∷ b)))
          (let lately = h.lately in omega (arith, lately, late)) n h.m i h.member
          (subst (λ (l : List Timed). OffersVoteRequest n h.m (here s l) h.timed.row) k.2 h.asks)
    ]
      where
        h : HasAsked s.group n server.raft_server.store.term x.at (4 * s.pace.delay) (w s) (p.first ++ a)
        h = wins_asked s.group s.clocks s.pace s.start n (p.first ++ a) (b ++ p.rest) x server (recut (the_calm s) _ (cut_at s p a (x ∷ b) e)) i off
            (ap (λ (v : Cluster). (v.member n).status) (sym (there_next s p a x)) ∙ up) leads

    -- a front with one row more ends late too
    next_late : (a b : List Timed) (x : Timed) → p.few ≡ a ++ x ∷ b → from + 4 * s.pace.delay < ends s p a
        → (from + 4 * s.pace.delay < x.at) × (from + 4 * s.pace.delay < ends s p (a ++ x ∷ []))
    next_late a b x e late =
        let early = not_early s p a b x e in let is = ends_next s p a x in (omega (arith, late, early), omega (arith, late, early, is))

    pub off_on : (n : ℕ) → In (OfMember n) s.group → (list a b : List Timed) → p.few ≡ a ++ (list ++ b) → from + 4 * s.pace.delay < ends s p a
        → LeadsNotIfUp n (there s p a) → LeadsNotIfUp n (there s p (a ++ list))
    off_on n i [] a b e late off = subst (λ (l : List Timed). LeadsNotIfUp n (there s p l)) (sym (append-nil a)) off
    off_on n i (x ∷ list) a b e late off =
        let next = next_late a (list ++ b) x e late in
        subst (λ (l : List Timed). LeadsNotIfUp n (there s p l)) (append_assoc a (x ∷ []) list)
        (off_on n i list (a ++ x ∷ []) b (e ∙ sym (append_assoc a (x ∷ []) (list ++ b))) next.1 (wins_not a (list ++ b) x e next.0 n i off))

    -- who leads leads on in its term, or does not lead
    pub on_or_off : (n : ℕ) → In (OfMember n) s.group → (term : ℕ) (list a b : List Timed) → p.few ≡ a ++ (list ++ b)
        → from + 4 * s.pace.delay < ends s p a → LeadsIn n term (there s p a)
        → LeadsIn n term (there s p (a ++ list)) ⊎ LeadsNotIfUp n (there s p (a ++ list))
    on_or_off n i term [] a b e late on = inl (subst (λ (l : List Timed). LeadsIn n term (there s p l)) (sym (append-nil a)) on)
    on_or_off n i term (x ∷ list) a b e late on =
        let next = next_late a (list ++ b) x e late in
        let cut : p.few ≡ (a ++ x ∷ []) ++ (list ++ b) = e ∙ sym (append_assoc a (x ∷ []) (list ++ b)) in
        elim (leads_some_or_not n (there s p (a ++ x ∷ []))) [
          | inr off ↦ inr (subst (λ (l : List Timed). LeadsNotIfUp n (there s p l)) (append_assoc a (x ∷ []) list)
              (off_on n i list (a ++ x ∷ []) b cut next.1 off))
          | inl still ↦ subst (λ (l : List Timed). LeadsIn n term (there s p l) ⊎ LeadsNotIfUp n (there s p l)) (append_assoc a (x ∷ []) list)
              (on_or_off n i term list (a ++ x ∷ []) b cut next.1 (record {
                server = still.1.server;
                runs = still.1.runs;
                leads = still.1.leads;
                its_term = one_term (there s p a) x.row n on.server still.1.server
                    (harm_row (the_calm s) (p.first ++ a) ((list ++ b) ++ p.rest) x (cut_at s p a (x ∷ (list ++ b)) e)) on.runs
                    (ap (λ (v : Cluster). (v.member n).status) (sym (there_next s p a x)) ∙ still.1.runs) on.leads still.1.leads ∙ on.its_term;
              }))
        ]
