-- A leader that adds no blank: its log stays, in all rows of a calm, until a request of a device makes it grow.
use Rattle.std.proofs.Common.{◌≡◌, ℕ, ◌+◌, ◌≤◌, List, [], ◌∷◌, ◌++◌, length, append_assoc, append-nil, sym, ap, subst, arith, inl, inr}
use Rattle.std.specs.Prelude.{◌⊎◌}
use Rattle.alloc_exchange.specs.Exchange.{Accepted}
use Rattle.can_frame.specs.declared.entry.Entry.{Entry}
use Rattle.dsdl_codec.specs.declared.allocation.Allocation.{Allocation}
use Rattle.bus_rows.specs.declared.row.Row.{Row}
use Rattle.alloc_spec.specs.AllocatorState.{AllocatorState}
use Rattle.bus_rows.specs.Timed.{Timed, rows_in}
use Rattle.service_alone.specs.Calm.{Pace, end_of}
use Rattle.service_calm.specs.Calm.{Member as OfMember, Party}
use Rattle.service_device.specs.Recorded.{EachRowKeepsTheLog, Grows, KeepsLog, LeadsWith}
use Rattle.service_device.specs.Settled.{IsAsked, IsCalmUnder}
use Rattle.service_device.specs.Settles.{GrowsBy, MayHaveBlank}
use Rattle.service_leader.proofs.Stretches.{end_last, world_both}
use Rattle.service_device.proofs.AllocationsTold.{VerdictsAre}
use Rattle.service_device.proofs.SettledStays.{AsksOrNot, asked_or_not}
use Rattle.service_device.proofs.SettlesFrom.{carry, cut_more, no_earlier}
use Rattle.service_device.proofs.SettlesKnown.{HasCommitted, commit_kept}
use Rattle.bus_spec.specs.Cluster.{Cluster, after_row, after_rows, world_of}
use Rattle.bus_spec.specs.Members.MemberStatus.{Up}

module _ (ids : List ℕ) (rows : List Row) (group : List Party) (clocks : Party → ℕ) (pace : Pace) (start n term : ℕ) (first later : List Timed)
    (under : IsCalmUnder ids rows group clocks pace start n term first later) (keeps_row : EachRowKeepsTheLog ids rows) (judged : VerdictsAre)
    (log longer : List Entry) (its_log : MayHaveBlank log term longer)
    (sane : (a b : List Timed) (t : AllocatorState) → later ≡ a ++ b
    → ((after_rows (after_rows (world_of ids rows) (rows_in first)) (rows_in a)).member n).status ≡ Up t → t.raft_server.store.commit ≤ length t.raft_server.store.log) where
  abbrev w : Cluster
  w = world_of ids rows

  abbrev led_from : Cluster
  led_from = after_rows w (rows_in first)

  abbrev from : ℕ
  from = end_of start first

  abbrev at : List Timed → Cluster
  at a = after_rows led_from (rows_in a)

  abbrev clock : List Timed → ℕ
  clock a = end_of from a + clocks (OfMember n)

  -- it leads with this log
  pub record StillLeads (a : List Timed) : Type 0 where
    pub accepted : List Accepted
    pub leads : LeadsWith n longer accepted (clock a) (at a)

  -- in this row a request makes the log grow
  pub record GrowsAt (a : List Timed) (x : Timed) : Type 0 where
    pub message : Allocation
    pub asked : IsAsked n message (at a) x.row
    pub grows : Grows n longer (x.at + clocks (OfMember n)) message (at a) x.row asked

  -- what is committed stays so
  pub committed_on : (a t b : List Timed) → later ≡ a ++ (t ++ b) → (u : AllocatorState) → ((at a).member n).status ≡ Up u → length longer ≤ u.raft_server.store.commit
      → (v : AllocatorState) → ((at (a ++ t)).member n).status ≡ Up v → v.raft_server.store.log ≡ longer → v.raft_server.store.commit ≡ length longer
  committed_on a t b cut u up all v then_up same_log =
      let kept : HasCommitted judged (length longer) v.raft_server = carry w group clocks pace start n first later under.calm (under.running n under.member)
      (λ (s : AllocatorState). HasCommitted judged (length longer) s.raft_server) (commit_kept judged (length longer)) a t b cut u up
      (record { sane = sane a (t ++ b) u cut up; commit = all }) v then_up in
      let c = kept.commit in
      let s = kept.sane in
      let l = ap (λ (l : List Entry). length l) same_log in omega (arith, c, s, l)

  module _ (a b : List Timed) (x : Timed) (cut : later ≡ a ++ x ∷ b) (on : StillLeads a) where
    abbrev a_then : List Timed
    a_then = a ++ x ∷ []

    keeps : KeepsLog n longer on.accepted (x.at + clocks (OfMember n)) (at a) x.row
    keeps = keeps_row group clocks pace start n term longer on.accepted first a b x (subst (IsCalmUnder ids rows group clocks pace start n term first) cut under) on.leads

    -- the moment and the world behind the row
    one_on : (accepted : List Accepted) → LeadsWith n longer accepted (x.at + clocks (OfMember n)) (after_row (at a) x.row) → LeadsWith n longer accepted (clock a_then) (at a_then)
    one_on accepted h = subst (λ (v : Cluster). LeadsWith n longer accepted (clock a_then) v) (sym (world_both led_from a (x ∷ [])))
        (subst (λ (m : ℕ). LeadsWith n longer accepted (m + clocks (OfMember n)) (after_row (at a) x.row)) (sym (end_last from a x)) h)

    on_then : (accepted : List Accepted) → LeadsWith n longer accepted (x.at + clocks (OfMember n)) (after_row (at a) x.row) → StillLeads a_then
    on_then accepted h = record { accepted = accepted; leads = one_on accepted h }

    -- a row leaves it so, or the log grows in it
    pub one_row : StillLeads a_then ⊎ GrowsAt a x
    one_row = by (asked_or_not n (at a) on.leads.server on.leads.runs x.row)
      where
        by : AsksOrNot n (at a) x.row → StillLeads a_then ⊎ GrowsAt a x
        by (inr not_asked) = inl (on_then on.accepted (keeps.unasked not_asked))
        by (inl (message, asked)) = elim (keeps.asked message asked) [
          | inl g ↦ inr (record { message = message; asked = asked; grows = g })
          | inr h ↦ inl (on_then _ h)
        ]

  -- and any number of rows
  module _ (last : ℕ) where
    abbrev Growth : Type 0
    Growth = GrowsBy n term log (clocks (OfMember n)) from last led_from later

    pub still_leads : (t a b : List Timed) → later ≡ a ++ (t ++ b) → end_of from (a ++ t) ≤ last → StillLeads a → StillLeads (a ++ t) ⊎ Growth
    still_leads [] a b cut soon on = inl (subst StillLeads (sym (append-nil a)) on)
    still_leads (x ∷ t) a b cut soon on = elim (one_row a (t ++ b) x cut on) [
      | inl then_ ↦ subst (λ (l : List Timed). StillLeads l ⊎ Growth) one_more
          (still_leads t (a ++ x ∷ []) b longer_cut (subst (λ (l : List Timed). end_of from l ≤ last) (sym one_more) soon) then_)
      | inr g ↦ inr (record {
        front = a;
        timed = x;
        rest = t ++ b;
        split = cut;
        soon = let up = no_earlier w group clocks pace start n first later under.calm (under.running n under.member) (a ++ x ∷ []) t b longer_cut in
            let ends = end_last from a x in
            let over = ap (λ (l : List Timed). end_of from l) one_more in
            omega (arith, up, ends, over, soon);
        log_then = longer;
        its_log = its_log;
        message = g.message;
        asked = g.asked;
        grows = g.grows;
      })
    ]
      where
        one_more : (a ++ x ∷ []) ++ t ≡ a ++ x ∷ t
        one_more = append_assoc a (x ∷ []) t

        longer_cut : later ≡ (a ++ x ∷ []) ++ (t ++ b)
        longer_cut = cut_more w group clocks pace start n first later under.calm (under.running n under.member) a (t ++ b) x cut
