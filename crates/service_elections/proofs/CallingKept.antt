-- What a leader keeps of its calls to a member in rows of a calm in which it leads on in its term.
use Rattle.std.proofs.Common.{◌≡◌, ℕ, ◌≤◌, List, [], ◌++◌, length, append_assoc, append-nil, sym, ◌∙◌, ap, subst, ◌+◌}
use Rattle.raft_model.specs.Lists.{In}
use Rattle.alloc_spec.specs.AllocatorState.{AllocatorState}
use Rattle.bus_rows.specs.Timed.{Timed}
use Rattle.service_leader.specs.CallsComeBack.{LeadsIfUp}
use Rattle.service_leader.specs.Entries.{PendsSince}
use Rattle.service_leader.specs.EntriesBelow.{EntryLaws}
use Rattle.service_leader.specs.LeadsOn.{LeadsIn}
use Rattle.service_leader.specs.NoElection.{CallsFit}
use Rattle.service_leader.proofs.EntriesPending as pending
use Rattle.service_leader.proofs.EntriesRows.{IsLedCalm, goes_on, leads_if_up}
use Rattle.service_leader.proofs.EntriesSteps.{Leads}
use Rattle.service_leader.proofs.Stretches.{calm_front, fits_front}
use Rattle.service_elections.proofs.CalmFronts.{harm_front, recut}
use Rattle.service_elections.proofs.NobodyScene.{Course, here, the_calm, w}
use Rattle.service_calm.specs.Calm.{Member as OfMember, no_traffic}
use Rattle.bus_spec.specs.Members.MemberStatus.{Up}

module _ (s : Course) (n term : ℕ) (in_n : In (OfMember n) s.group) (first few rest : List Timed) (cut : s.whole ≡ first ++ (few ++ rest))
    (led : (c d : List Timed) → few ≡ c ++ d → LeadsIn n term (here s (first ++ c))) where
  cut_few : s.whole ≡ (first ++ few) ++ rest
  cut_few = cut ∙ sym (append_assoc first few rest)

  part_at : (c d : List Timed) → few ≡ c ++ d → first ++ few ≡ (first ++ c) ++ d
  part_at c d part = ap (λ (l : List Timed). first ++ l) part ∙ sym (append_assoc first c d)

  pub cut_at : (c d : List Timed) → few ≡ c ++ d → s.whole ≡ (first ++ c) ++ (d ++ rest)
  cut_at c d part = cut_few ∙ (ap (λ (l : List Timed). l ++ rest) (part_at c d part) ∙ append_assoc (first ++ c) d rest)

  pub leads_at : (c d : List Timed) → few ≡ c ++ d → LeadsIfUp n term (here s (first ++ c))
  leads_at c d part = leads_if_up n term (here s (first ++ c)) (led c d part)

  -- the calm up to the end of these rows, at which it leads
  calm_few : IsLedCalm s.ids s.rows s.group s.clocks s.pace s.start n term (first ++ few)
  calm_few = record {
    listed = s.calm.listed;
    running = s.calm.running;
    member = in_n;
    calm = calm_front s.group s.clocks s.pace (first ++ few) rest (no_traffic s.start) (w s) (recut (the_calm s) ((first ++ few) ++ rest) cut_few).calm;
    harmless = harm_front (the_calm s) (first ++ few) rest cut_few;
    at_end = leads_at few [] (sym (append-nil few));
    fit = fits_front n (first ++ few) rest (w s) (subst (CallsFit n (w s)) cut_few (s.calm.calls_fit n in_n));
  }

  all_of : first ++ few ≡ (first ++ few) ++ []
  all_of = sym (append-nil (first ++ few))

  module _ (laws : EntryLaws s.ids s.rows) (m : ℕ) where
    -- it calls the member next at a place of its log, or just behind them
    pub inside_at : (c d : List Timed) → few ≡ c ++ d → (t : AllocatorState) → ((here s (first ++ c)).member n).status ≡ Up t
        → (1 ≤ t.raft_server.memory.next m) × (t.raft_server.memory.next m ≤ length t.raft_server.store.log + 1)
    inside_at c d part = pending.inside_at s.ids s.rows laws s.group s.clocks s.pace s.start n term (first ++ few) calm_few m (first ++ c) d (part_at c d part)
        (leads_at c d part)

    -- Behind a front it leads in the term, and its next call begins no further on than its log and what it knows the member
    -- to have.
    abbrev pub Near : (left : ℕ) → List Timed → Type 0
    Near left c = (t : AllocatorState) → ((here s (first ++ c)).member n).status ≡ Up t → Leads m term 0 [] left 0 t.raft_server

    -- so it is behind all these rows
    pub near_on : (left : ℕ) (c d : List Timed) → few ≡ c ++ d → Near left c → Near left few
    near_on left c d part near = subst (λ (a : List Timed). (t : AllocatorState) → ((here s a).member n).status ≡ Up t → Leads m term 0 [] left 0 t.raft_server)
        (sym (part_at c d part))
        (goes_on s.ids s.rows laws s.group s.clocks s.pace s.start n term (first ++ few) calm_few m 0 [] left 0 d (first ++ c) []
        (part_at c d part ∙ sym (append-nil ((first ++ c) ++ d))) near)

    -- where each of its calls that pends behind the first rows was made behind so many rows, so it is behind all these rows
    pub pends_on : (number : ℕ) → (w s).rows ≤ number → number ≤ (here s first).rows → PendsSince n m number (here s first)
        → PendsSince n m number (here s (first ++ few))
    pends_on number above low since t asked up pends =
        let leads = leads_at few [] (sym (append-nil few)) in
        pending.called_since s.ids s.rows laws s.group s.clocks s.pace s.start n term (first ++ few) calm_few m number above first few [] all_of since low asked
        (pending.was_called_from s.ids s.rows laws s.group s.clocks s.pace s.start n term (first ++ few) calm_few m number above first few [] all_of since t up asked tt
        (pending.appends_at s.ids s.rows laws s.group s.clocks s.pace s.start n term (first ++ few) calm_few m (first ++ few) [] all_of leads t up asked pends)
        (pending.in_term_at s.ids s.rows laws s.group s.clocks s.pace s.start n term (first ++ few) calm_few m (first ++ few) [] all_of leads t up asked pends) pends)
