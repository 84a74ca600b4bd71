-- Where the others follow when c stands, none of them leads, since nobody else stands.
use Rattle.std.proofs.Common.{◌≡◌, ◌≢◌, ℕ, ◌+◌, ◌*◌, ◌≤◌, arith, List, ◌∷◌, ◌++◌, inl, inr, refl, sym, ◌∙◌, ap, subst}
use Rattle.std.proofs.lemmas.List.{append_assoc}
use Rattle.raft_model.specs.Lists.{In, at_other}
use Rattle.raft_model.specs.Server.{Role}
use Rattle.raft_model.specs.Server.Role.{Follower, Leader}
use Rattle.bus_rows.specs.declared.row.Row.{Row}
use Rattle.alloc_spec.specs.AllocatorState.{AllocatorState}
use Rattle.bus_rows.specs.Timed.{Timed}
use Rattle.service_alone.specs.Calm.{end_of}
use Rattle.service_candidate.specs.Wins.{LeadsAlone}
use Rattle.service_candidate.proofs.RowsLeave.{row_leaves}
use Rattle.service_candidate.proofs.TermsSteps.{stands_or_stays}
use Rattle.service_candidate.proofs.WinsFronts.{from_row_to_row}
use Rattle.service_candidate.proofs.WinsScene.{Scene, by_end, harm_row, here, last, laws_at, runs_at, there, v}
use Rattle.service_candidate.proofs.WinsStays.{end_soon_at, in_middle, stands_not}
use Rattle.service_calm.specs.Calm.{Member as OfMember}
use Rattle.bus_spec.specs.Cluster.{Cluster, after_row, arrival_at, frame_at}
use Rattle.bus_spec.specs.Members.{Member}
use Rattle.bus_spec.specs.Members.MemberStatus.{Up}

no_follower : (role : Role) → role ≡ Follower → role ≢ Leader
no_follower role e f = cc (sym e ∙ f)

module _ (s : Scene)
    (follow : (m : ℕ) → In (OfMember m) s.group → m ≢ s.c → (t : AllocatorState) → ((there s).member m).status ≡ Up t → t.raft_server.memory.role ≡ Follower)
    (m : ℕ) (i : In (OfMember m) s.group) (other : m ≢ s.c) where
  -- the row of the standing leaves the others
  same_status : ((v s).member m).status ≡ ((there s).member m).status
  same_status = subst (λ (r : Row). ((after_row (there s) r).member m).status ≡ ((there s).member m).status) (sym s.calm.stands.reads)
      (ap (λ (q : Member). q.status) (at_other (there s).member s.c m _ other))

  -- who follows before a row follows behind it
  follows_more : (a b : List Timed) (x : Timed) → s.rest ≡ a ++ x ∷ b → x.at ≤ last s → (t u : AllocatorState) → ((here s a).member m).status ≡ Up t
      → ((after_row (here s a) x.row).member m).status ≡ Up u → t.raft_server.memory.role ≡ Follower → u.raft_server.memory.role ≡ Follower
  follows_more a b x e soon t u up up_then follows = elim (row_leaves (here s a) m t u up x.row (harm_row s a b x e) up_then) [
    | inl ticked ↦
        let its = (laws_at s a (x ∷ b) e).starts m t (s.calm.listed m i) up in
        elim (stands_or_stays s.listing ((here s a).rows + 1) t ticked.ms ticked.word its.0 (let size = its.1 in let two = s.calm.others in omega (arith, size, two))) [
          | inl same ↦ ap (λ (q : AllocatorState). q.raft_server.memory.role) ticked.is ∙ (same.role ∙ follows)
          | inr stood ↦ absurd (stands_not s m i a b x e soon (t.raft_server.store.term + 1) (record {
            ms = ticked.ms;
            word = ticked.word;
            reads = ticked.reads;
            before = t;
            runs = up;
            next = refl;
            after = u;
            runs_then = up_then;
            stands = ap (λ (q : AllocatorState). q.raft_server.memory.role) ticked.is ∙ stood.0;
            its_term = ap (λ (q : AllocatorState). q.raft_server.store.term) ticked.is ∙ stood.1;
          }))
        ]
    | inr (inl received) ↦ ap (λ (q : AllocatorState). q.raft_server.memory.role) received.is
        ∙ (s.frames t ((here s a).rows + 1) (arrival_at (frame_at (here s a).frames received.k) received.ms) follows).0
    | inr (inr (inl same)) ↦ ap (λ (q : AllocatorState). q.raft_server.memory.role) same ∙ follows
    | inr (inr (inr sent)) ↦ ap (λ (q : AllocatorState). q.raft_server.memory.role) sent ∙ follows
  ]

  -- so it follows on
  pub follows_on : (a b : List Timed) → s.rest ≡ a ++ b → end_of s.timed.at a ≤ last s → (t : AllocatorState) → ((here s a).member m).status ≡ Up t
      → t.raft_server.memory.role ≡ Follower
  follows_on a b e soon = from_row_to_row (v s) (λ (done : List Timed) (w : Cluster). (t : AllocatorState) → (w.member m).status ≡ Up t → t.raft_server.memory.role ≡ Follower) a
      (λ front more x same before u up_then.
      let cut : s.rest ≡ front ++ x ∷ (more ++ b) = e ∙ (ap (λ (l : List Timed). l ++ b) same ∙ append_assoc front (x ∷ more) b) in
      let its = runs_at s m i front (x ∷ more ++ b) cut in
      follows_more front (more ++ b) x cut (let k = (by_end s a b e x (subst (In x) (sym same) (in_middle front more x))).1 in omega (arith, k, soon))
      its.server u its.up.status up_then (before its.server its.up.status))
      (λ t up. follow m i other t (sym same_status ∙ up))

-- for two delays nobody but c leads
pub leads_alone : (s : Scene)
    → ((m : ℕ) → In (OfMember m) s.group → m ≢ s.c → (t : AllocatorState) → ((there s).member m).status ≡ Up t → t.raft_server.memory.role ≡ Follower)
    → LeadsAlone s.group s.c (s.timed.at + 2 * s.pace.delay) (v s) s.rest
leads_alone s follow a b x m e soon i other t up =
    no_follower t.raft_server.memory.role (follows_on s follow m i other a (x ∷ b) e (end_soon_at s a b x e (omega (arith, soon))) t up)
