-- In a calm row a member stands for election, or nobody does.
use Rattle.std.proofs.Common.{◌≡◌, ℕ, ◌+◌, ◌≤◌, arith, true, List, [], ◌∷◌, ◌++◌, max, refl, sym, ◌∙◌, ap, subst, inl, inr, Option, Some}
use Rattle.std.specs.Prelude.{◌⊎◌}
use Rattle.raft_model.specs.Lists.{In}
use Rattle.raft_model.specs.Messages.{Message, Request}
use Rattle.raft_model.specs.Messages.Message.{Requests}
use Rattle.bus_rows.specs.declared.row.Row.{Row}
use Rattle.bus_rows.specs.declared.row.Row.TheVariants.{AEnd, AOpen, ARx, ASend, ATick, Crash, Ext, Fault, Open, Rx, Send, Tick}
use Rattle.alloc_spec.specs.AllocatorState.{AllocatorState}
use Rattle.alloc_spec.specs.Step.{Event, step}
use Rattle.bus_rows.specs.Timed.{Timed, rows_in}
use Rattle.service_alone.specs.Calm.{Pace}
use Rattle.service_calm.specs.Calm.{IsCalmRow, Member as OfMember, Party, Traffic}
use Rattle.service_calm.proofs.Calls.{Always}
use Rattle.service_calm.proofs.CallsKept.{IsKept, RunsWith}
use Rattle.service_calm.proofs.Pair.{same_server}
use Rattle.service_candidate.specs.Votes.{Stands}
use Rattle.service_candidate.specs.Wins.{OffersVoteRequest, VoteRequestsFit}
use Rattle.service_candidate.proofs.WaitsRows.{Takes, is_candidate_then, knows_then, takes}
use Rattle.service_candidate.proofs.WaitsTicks.{tick_leaves}
use Rattle.bus_spec.specs.Cluster.{Cluster, after_row, after_rows}
use Rattle.bus_spec.specs.Lawful.{DoesNoHarm}
use Rattle.bus_spec.specs.Members.MemberStatus.{Up}

-- ---- somebody stands in a row, or nobody

-- a member of the group stands in this row
pub record OneStands (group : List Party) (w : Cluster) (row : Row) : Type 0 where
  pub n : ℕ
  pub member : In (OfMember n) group
  pub term : ℕ
  pub stands : Stands n term w row

abbrev pub NoneStands : List Party → Cluster → Row → Type 0
NoneStands group w row = (n term : ℕ) → In (OfMember n) group → Stands n term w row → ⊥

-- who stands has another term behind the row
same_term_none : (n term : ℕ) (w : Cluster) (row : Row) (before after : AllocatorState) → (w.member n).status ≡ Up before
    → ((after_row w row).member n).status ≡ Up after → after.raft_server.store.term ≡ before.raft_server.store.term → Stands n term w row → ⊥
same_term_none n term w row before after up up_then same s =
    let a = ap (λ (t : AllocatorState). t.raft_server.store.term) (same_server s.before before (sym s.runs ∙ up)) in
    let b = ap (λ (t : AllocatorState). t.raft_server.store.term) (same_server s.after after (sym s.runs_then ∙ up_then)) in
    let c = s.its_term in
    let d = s.next in
    omega (arith, a, b, c, d, same)

-- one member reads its clock in a row
same_reader : (p n a b c d : ℕ) → Tick p a c ≡ Tick n b d → p ≡ n
same_reader p n a b c d e = cc e

-- the server knows how many members there are, and it stays so
abbrev pub IsOfSize : ℕ → AllocatorState → Type 0
IsOfSize size t = t.size ≡ size

pub size_stays : ((t : AllocatorState) (number : ℕ) (event : Event) → (step t number event).step_state.allocator.size ≡ t.size) → (size : ℕ)
    → IsKept Always (IsOfSize size)
size_stays keeps_size size = record { stepped = λ t number event may is. keeps_size t number event ∙ is; popped = λ t is. is }

module _ (keeps_size : (t : AllocatorState) (number : ℕ) (event : Event) → (step t number event).step_state.allocator.size ≡ t.size) (size : ℕ) (many : 2 ≤ size)
    (group : List Party) (clocks : Party → ℕ) (pace : Pace) where
  -- each member of the group runs
  abbrev pub AllRun : Cluster → Type 0
  AllRun w = (p : ℕ) → In (OfMember p) group → RunsWith (IsOfSize size) (w.member p)

  -- it is decided
  pub decide : (traffic : Traffic) (w : Cluster) (moved : ℕ) (row : Row) → IsCalmRow group clocks pace traffic w moved row → DoesNoHarm w row → AllRun w → AllRun (after_row w row)
      → OneStands group w row ⊎ NoneStands group w row
  decide traffic w moved (Tick p ms word) calm harm runs later = by (takes w p (runs p calm.0).server (later p calm.0).server (runs p calm.0).up.status
      (Tick p ms word) harm (later p calm.0).up.status)
    where
      before : AllocatorState
      before = (runs p calm.0).server

      none : (later p calm.0).server.raft_server.store.term ≡ (runs p calm.0).server.raft_server.store.term → NoneStands group w (Tick p ms word)
      none same n term i s = same_term_none p term w (Tick p ms word) (runs p calm.0).server (later p calm.0).server (runs p calm.0).up.status (later p calm.0).up.status
          same (subst (λ (k : ℕ). Stands k term w (Tick p ms word)) (sym (same_reader p n ms s.ms word s.word s.reads)) s)

      by : Takes w (Tick p ms word) p (runs p calm.0).server (later p calm.0).server → OneStands group w (Tick p ms word) ⊎ NoneStands group w (Tick p ms word)
      by (Takes.Rests times server queue) = inr (none (ap (λ s. s.store.term) server))
      by (Takes.Receives k at is after_is) = absurd (cc (is))
      by (Takes.Ticks at random is after_is) = elim (tick_leaves (runs p calm.0).server (w.rows + 1) at random) [
        | inl same ↦ inr (none (ap (λ (t : AllocatorState). t.raft_server.store.term) after_is ∙ same.3))
        | inr stood ↦ inl (record {
          n = p;
          member = calm.0;
          term = (runs p calm.0).server.raft_server.store.term + 1;
          stands = record {
            ms = at;
            word = random;
            reads = is;
            before = (runs p calm.0).server;
            runs = (runs p calm.0).up.status;
            next = refl;
            after = (later p calm.0).server;
            runs_then = (later p calm.0).up.status;
            stands = ap (λ (t : AllocatorState). t.raft_server.memory.role) after_is
                ∙ (stood.3 ∙ is_candidate_then before (knows_then before (max before.now at) stood.0)
                (let its_size = (runs p calm.0).holds in omega (arith, its_size, many)));
            its_term = ap (λ (t : AllocatorState). t.raft_server.store.term) after_is ∙ stood.2;
          };
        })
      ]
  decide traffic w moved (Rx p k ms) calm harm runs later = inr (λ n term i s. absurd (cc (s.reads)))
  decide traffic w moved (Send p) calm harm runs later = inr (λ n term i s. absurd (cc (s.reads)))
  decide traffic w moved (ATick a ms word) calm harm runs later = inr (λ n term i s. absurd (cc (s.reads)))
  decide traffic w moved (ARx a k ms word) calm harm runs later = inr (λ n term i s. absurd (cc (s.reads)))
  decide traffic w moved (ASend a) calm harm runs later = inr (λ n term i s. absurd (cc (s.reads)))
  decide traffic w moved (Open n told ms word) calm harm runs later = absurd calm
  decide traffic w moved (Ext frame) calm harm runs later = absurd calm
  decide traffic w moved (Crash n calls pattern) calm harm runs later = absurd calm
  decide traffic w moved (Fault n call) calm harm runs later = absurd calm
  decide traffic w moved (AOpen a uid pref ms word) calm harm runs later = absurd calm
  decide traffic w moved (AEnd a) calm harm runs later = absurd calm

-- two that stand in one row are one
pub one_stands : (n m term other : ℕ) (w : Cluster) (row : Row) → Stands n term w row → Stands m other w row → other ≡ term
one_stands n m term other w row s o =
    let same = same_reader n m s.ms o.ms s.word o.word (sym s.reads ∙ o.reads) in
    let before = same_server o.before s.before (sym o.runs ∙ (ap (λ (k : ℕ). (w.member k).status) (sym same) ∙ s.runs)) in
    let a = ap (λ (t : AllocatorState). t.raft_server.store.term) before in
    let b = o.next in
    let c = s.next in
    omega (arith, a, b, c)

-- the requests of who stands fit
pub fit_at : (n : ℕ) (front rest : List Timed) (timed : Timed) (w : Cluster) → VoteRequestsFit n w (front ++ timed ∷ rest) → (m : ℕ)
    (asks : OffersVoteRequest n m (after_rows w (rows_in front)) timed.row) → asks.offer.fitted ≡ true
fit_at n [] rest timed w fit = fit.0
fit_at n (first ∷ front) rest timed w fit = fit_at n front rest timed (after_row w first.row) fit.1

-- one request is said
pub same_request : (a b : Request) → ◌≡◌ {A = Option Message} (Some (Requests a)) (Some (Requests b)) → a ≡ b
same_request a b e = cc e
