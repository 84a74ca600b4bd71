-- A member of a group in a calm: what is given, and what each row of the calm leaves of it where it is a candidate.
use Rattle.std.proofs.Common.{◌≡◌, ℕ, ◌+◌, arith, List, [], ◌∷◌, ◌++◌, inl, inr, sym, ◌∙◌, ap, subst}
use Rattle.std.specs.Prelude.{◌⊎◌}
use Rattle.std.proofs.lemmas.List.{append_assoc}
use Rattle.raft_model.specs.Lists.{In}
use Rattle.raft_model.specs.Server.{Role}
use Rattle.raft_model.specs.Server.Role.{Candidate, Follower, Leader}
use Rattle.bus_rows.specs.declared.row.Row.{Row}
use Rattle.alloc_spec.specs.AllocatorState.{AllocatorState}
use Rattle.cluster_discovery.specs.Members.{Event as Discovered, IsMemberList, IsStart, Start, members}
use Rattle.bus_rows.specs.Timed.{Timed, rows_in}
use Rattle.service_alone.specs.Calm.{Pace, end_of}
use Rattle.service_candidate.specs.Votes.{Stands}
use Rattle.service_candidate.proofs.RowsLeave.{row_leaves}
use Rattle.service_candidate.proofs.TermsSteps.{stands_or_stays}
use Rattle.service_candidate.proofs.WinsFronts.{here_more}
use Rattle.service_candidate.proofs.WinsScene.{RowLaws}
use Rattle.service_elections.specs.Running.{IsCalmOf}
use Rattle.service_elections.proofs.AsksRoles.{frame_role}
use Rattle.service_elections.proofs.CalmFronts.{Calm, ShowsBy, calm_of, harm_front, harm_row, recut, runs_at}
use Rattle.service_calm.specs.Calls.{Lists, ListsStay}
use Rattle.service_calm.specs.Calm.{Member as OfMember, Party, no_traffic}
use Rattle.service_calm.proofs.CallsKept.{RunsWith}
use Rattle.service_calm.proofs.Pair.{same_server}
use Rattle.bus_spec.specs.Cluster.{Cluster, after_row, after_rows, arrival_at, frame_at, world_of}
use Rattle.bus_spec.specs.Lawful.{DoNoHarm}
use Rattle.bus_spec.specs.Members.MemberStatus.{Up}

-- a calm, and one member of its group
pub record Asker : Type 0 where
  pub ids : List ℕ
  pub rows : List Row
  pub row_laws : (more : List Row) → DoNoHarm (world_of ids rows) more → RowLaws ids (after_rows (world_of ids rows) more)
  pub listing : (start : Start) (events : List Discovered) → IsStart start → IsMemberList start.me start.size (members start events)
  pub stay : ListsStay
  pub group : List Party
  pub clocks : Party → ℕ
  pub pace : Pace
  pub start : ℕ
  pub whole : List Timed
  pub calm : IsCalmOf ids rows group clocks pace start whole
  pub n : ℕ
  pub member : In (OfMember n) group

no_candidate : (role : Role) → role ≡ Follower → role ≡ Candidate → ⊥
no_candidate role e f = cc (sym e ∙ f)

no_leader : (role : Role) → role ≡ Leader → role ≡ Candidate → ⊥
no_leader role e f = cc (sym e ∙ f)

abbrev pub the_calm : Asker → Calm
the_calm s = calm_of s.ids s.rows s.group s.clocks s.pace s.start s.whole s.calm

module _ (s : Asker) where
  abbrev pub w0 : Cluster
  w0 = world_of s.ids s.rows

  -- the world behind a front
  abbrev pub here : List Timed → Cluster
  here a = after_rows w0 (rows_in a)

  pub listed : In s.n s.ids
  listed = s.calm.listed s.n s.member

  -- ---- fronts

  pub laws_at : (a b : List Timed) → s.whole ≡ a ++ b → RowLaws s.ids (here a)
  laws_at a b e = s.row_laws (rows_in a) (harm_front (the_calm s) a b e)

  pub next_cut : (a b : List Timed) (x : Timed) → s.whole ≡ a ++ x ∷ b → s.whole ≡ (a ++ x ∷ []) ++ b
  next_cut a b x e = e ∙ sym (append_assoc a (x ∷ []) b)

  -- a member of the group runs
  pub runs_next : (p : ℕ) → In (OfMember p) s.group → (a b : List Timed) (x : Timed) → s.whole ≡ a ++ x ∷ b
      → RunsWith (ShowsBy (end_of s.start (a ++ x ∷ []) + s.clocks (OfMember p))) ((after_row (here a) x.row).member p)
  runs_next p i a b x e = subst (λ (w : Cluster). RunsWith (ShowsBy (end_of s.start (a ++ x ∷ []) + s.clocks (OfMember p))) (w.member p)) (here_more w0 a x)
      (runs_at (the_calm s) p i (a ++ x ∷ []) b (next_cut a b x e))

  -- who is listed stays listed
  pub lists_at : (m : ℕ) → Lists s.n m w0 → (a b : List Timed) → s.whole ≡ a ++ b → Lists s.n m (here a)
  lists_at m lists a b e = s.stay s.group s.clocks s.pace (no_traffic s.start) s.n m a b w0 (s.calm.running s.n s.member) (recut (the_calm s) (a ++ b) e).calm lists

  pub lists_next : (m : ℕ) → Lists s.n m w0 → (a b : List Timed) (x : Timed) → s.whole ≡ a ++ x ∷ b → Lists s.n m (after_row (here a) x.row)
  lists_next m lists a b x e = subst (Lists s.n m) (here_more w0 a x) (lists_at m lists (a ++ x ∷ []) b (next_cut a b x e))

  -- ---- a candidate

  -- it is a candidate of this term
  abbrev pub IsOne : ℕ → AllocatorState → Type 0
  IsOne term t = (t.raft_server.memory.role ≡ Candidate) × (t.raft_server.store.term ≡ term)

  -- who is a candidate behind a row has stood in it, or was one in the same term before it
  pub was_one : (a b : List Timed) (x : Timed) → s.whole ≡ a ++ x ∷ b → (t u : AllocatorState) → ((here a).member s.n).status ≡ Up t
      → ((after_row (here a) x.row).member s.n).status ≡ Up u → (term : ℕ) → IsOne term u → Stands s.n term (here a) x.row ⊎ IsOne term t
  was_one a b x e t u up up_then term is = elim (row_leaves (here a) s.n t u up x.row (harm_row (the_calm s) a b x e) up_then) [
    | inl ticked ↦
        let its = (laws_at a (x ∷ b) e).starts s.n t listed up in
        elim (stands_or_stays s.listing ((here a).rows + 1) t ticked.ms ticked.word its.0 (let size = its.1 in let two = s.calm.others in omega (arith, size, two))) [
          | inl same ↦ inr (
            sym same.role ∙ (ap (λ (q : AllocatorState). q.raft_server.memory.role) (sym ticked.is) ∙ is.0),
            sym same.term ∙ (ap (λ (q : AllocatorState). q.raft_server.store.term) (sym ticked.is) ∙ is.1),
          )
          | inr stood ↦ inl (record {
            ms = ticked.ms;
            word = ticked.word;
            reads = ticked.reads;
            before = t;
            runs = up;
            next = sym is.1 ∙ (ap (λ (q : AllocatorState). q.raft_server.store.term) ticked.is ∙ stood.1);
            after = u;
            runs_then = up_then;
            stands = is.0;
            its_term = is.1;
          })
        ]
    | inr (inl received) ↦ elim (frame_role ((here a).rows + 1) t (arrival_at (frame_at (here a).frames received.k) received.ms)) [
      | inl f ↦ absurd (no_candidate _ f (ap (λ (q : AllocatorState). q.raft_server.memory.role) (sym received.is) ∙ is.0))
      | inr (inl k) ↦ inr (
        sym k.0 ∙ (ap (λ (q : AllocatorState). q.raft_server.memory.role) (sym received.is) ∙ is.0),
        sym k.1 ∙ (ap (λ (q : AllocatorState). q.raft_server.store.term) (sym received.is) ∙ is.1),
      )
      | inr (inr w) ↦ absurd (no_leader _ w.1 (ap (λ (q : AllocatorState). q.raft_server.memory.role) (sym received.is) ∙ is.0))
    ]
    | inr (inr (inl same)) ↦ inr (
      ap (λ (q : AllocatorState). q.raft_server.memory.role) (sym same) ∙ is.0,
      ap (λ (q : AllocatorState). q.raft_server.store.term) (sym same) ∙ is.1,
    )
    | inr (inr (inr sent)) ↦ inr (
      ap (λ (q : AllocatorState). q.raft_server.memory.role) (sym sent) ∙ is.0,
      ap (λ (q : AllocatorState). q.raft_server.store.term) (sym sent) ∙ is.1,
    )
  ]

  -- the server is one
  pub one_is : (w : Cluster) (t u : AllocatorState) → (w.member s.n).status ≡ Up t → (w.member s.n).status ≡ Up u → t ≡ u
  one_is w t u up other = same_server t u (sym up ∙ other)
