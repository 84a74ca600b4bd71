-- Who is in the highest term of the group when a member has stood, and whether that one leads by four delays later.
use Rattle.std.proofs.Common.{◌≡◌, ◌≢◌, ℕ, ◌≤◌, arith, List, [], ◌∷◌, ◌++◌, inl, inr, refl, sym, ◌∙◌, ap, subst}
use Rattle.std.specs.Prelude.{◌⊎◌}
use Rattle.std.proofs.lemmas.Bool.Decides.{leb_tells}
use Rattle.std.proofs.lemmas.List.{append_assoc}
use Rattle.raft_model.specs.Lists.{In}
use Rattle.raft_model.specs.Moves.Elections.{with_term}
use Rattle.raft_model.specs.Server.{Role, Store}
use Rattle.raft_model.specs.Server.Role.{Candidate, Follower, Leader}
use Rattle.alloc_spec.specs.AllocatorState.{AllocatorState}
use Rattle.alloc_spec_laws.proofs.Choices.{lt_tells}
use Rattle.bus_rows.specs.Timed.{Timed}
use Rattle.service_candidate.proofs.WinsFronts.{Longest, from_row_to_row, longest, part_of}
use Rattle.service_candidate.proofs.WinsScene.{Scene, by_end, end_before, here, last, runs_at, runs_v, v}
use Rattle.service_candidate.proofs.WinsStays.{in_middle}
use Rattle.service_leader.specs.CallsComeBack.{LeadsNotIfUp}
use Rattle.service_calm.specs.Calm.{Device as OfDevice, Member as OfMember, Party}
use Rattle.service_calm.proofs.Pair.{same_server}
use Rattle.bus_spec.specs.Cluster.{Cluster}
use Rattle.bus_spec.specs.Members.MemberStatus.{Up}

-- ---- small facts

pub leads_or_not : (role : Role) → (role ≡ Leader) ⊎ (role ≢ Leader)
leads_or_not Follower = inr (λ e. cc e)
leads_or_not Candidate = inr (λ e. cc e)
leads_or_not Leader = inl refl

-- who hears a term is in no lower one than its own
pub own_term : (store : Store) (k : ℕ) → store.term ≤ (with_term store k).term
own_term store k = elim (lt_tells store.term k) [
  | inl z ↦ rw (z.0) (let l = z.1 in omega (arith, l))
  | inr z ↦ rw (z.0) omega arith
]

none_left : (tail more : List Timed) → [] ≡ tail ++ more → tail ≡ []
none_left [] more e = refl
none_left (y ∷ tail) more e = absurd (cc (e))

-- a front of rows and one more is a front of the rows, or all of them
pub front_of_more : (front more done : List Timed) (x : Timed) → done ++ x ∷ [] ≡ front ++ more → (front ≡ done ++ x ∷ []) ⊎ ((rest : List Timed) × (done ≡ front ++ rest))
front_of_more front more done x e = elim (part_of front more done [] x (sym e)) [
  | inl p ↦ inl (p.1 ∙ ap (λ (l : List Timed). done ++ x ∷ l) (none_left p.0 more p.2))
  | inr p ↦ inr (p.0, p.2)
]

module _ (s : Scene) where
  -- ---- the longest front

  pub all_rows : Longest s.timed.at (last s) s.rest
  all_rows = longest (last s) s.rest s.timed.at (omega arith)

  -- a row that comes by then stands in it
  pub in_longest : (e d : List Timed) (x : Timed) → s.rest ≡ e ++ x ∷ d → x.at ≤ last s
      → (tail : List Timed) × (all_rows.front ≡ e ++ x ∷ tail) × (d ≡ tail ++ all_rows.rest)
  in_longest e d x same soon = elim (part_of all_rows.front all_rows.rest e d x (sym all_rows.split ∙ same)) [
    | inl p ↦ p
    | inr p ↦ absurd (later p.0 p.1 p.2)
  ]
    where
      later : (tail : List Timed) → all_rows.rest ≡ tail ++ x ∷ d → e ≡ all_rows.front ++ tail → ⊥
      later [] is_rest is_front = let k = all_rows.late x d is_rest in omega (arith, k, soon)
      later (y ∷ tail) is_rest is_front =
          let k = all_rows.late y (tail ++ x ∷ d) is_rest in
          let l = (by_end s e (x ∷ d) same y (subst (In y) (sym is_front) (in_middle all_rows.front tail y))).1 in
          let q = end_before s e d x same in omega (arith, k, l, q, soon)

  -- ---- whether c leads

  -- c runs and leads
  abbrev pub CLeads : List Timed → Type 0
  CLeads front = (t : AllocatorState) × (((here s front).member s.c).status ≡ Up t) × (t.raft_server.memory.role ≡ Leader)

  abbrev CLeadsNot : List Timed → Type 0
  CLeadsNot a = (front more : List Timed) → a ≡ front ++ more → LeadsNotIfUp s.c (here s front)

  abbrev CLed : List Timed → Type 0
  CLed a = (front : List Timed) × (more : List Timed) × (a ≡ front ++ more) × CLeads front

  decide : (a b : List Timed) → s.rest ≡ a ++ b → LeadsNotIfUp s.c (here s a) ⊎ CLeads a
  decide a b e =
      let q = runs_at s s.c s.calm.member a b e in
      elim (leads_or_not q.server.raft_server.memory.role) [
        | inl leads ↦ inr (q.server, q.up.status, leads)
        | inr not ↦ inl (λ t up. subst (λ (z : AllocatorState). z.raft_server.memory.role ≢ Leader) (same_server q.server t (sym q.up.status ∙ up)) not)
      ]

  led_more : (a b : List Timed) → s.rest ≡ a ++ b → (done more : List Timed) (x : Timed) → a ≡ done ++ x ∷ more → CLeadsNot done ⊎ CLed a → CLeadsNot (done ++ x ∷ []) ⊎ CLed a
  led_more a b e done more x same (inr led) = inr led
  led_more a b e done more x same (inl none) = elim (decide (done ++ x ∷ []) (more ++ b)
      (e ∙ (ap (λ (l : List Timed). l ++ b) same ∙ (append_assoc done (x ∷ more) b ∙ sym (append_assoc done (x ∷ []) (more ++ b)))))) [
        | inl not ↦ inl (λ front rest cut. elim (front_of_more front rest done x cut) [
          | inl all ↦ subst (λ (l : List Timed). LeadsNotIfUp s.c (here s l)) (sym all) not
          | inr p ↦ none front p.0 p.1
        ])
        | inr leads ↦ inr (done ++ x ∷ [], more, same ∙ sym (append_assoc done (x ∷ []) more), leads)
      ]

  at_first : (a b : List Timed) → s.rest ≡ a ++ b → CLeadsNot [] ⊎ CLed a
  at_first a b e = elim (decide [] s.rest refl) [
    | inl not ↦ inl (λ front rest cut. nothing front rest cut not)
    | inr leads ↦ inr ([], a, refl, leads)
  ]
    where
      nothing : (front rest : List Timed) → [] ≡ front ++ rest → LeadsNotIfUp s.c (here s []) → LeadsNotIfUp s.c (here s front)
      nothing [] rest cut not = not
      nothing (y ∷ front) rest cut not = absurd (cc (cut))

  -- behind no front of these rows c leads, or behind some
  pub led_or_not : (a b : List Timed) → s.rest ≡ a ++ b → CLeadsNot a ⊎ CLed a
  led_or_not a b e = from_row_to_row (v s) (λ (done : List Timed) (w : Cluster). CLeadsNot done ⊎ CLed a) a
      (λ done more x same before. led_more a b e done more x same before) (at_first a b e)

  -- ---- the highest term

  -- a member of the group whose term no other one of these parties is above
  pub record Top (list : List Party) : Type 0 where
    pub whose : ℕ
    pub member : In (OfMember whose) s.group
    pub server : AllocatorState
    pub runs : ((v s).member whose).status ≡ Up server
    pub high : (p : ℕ) (t : AllocatorState) → In (OfMember p) list → ((v s).member p).status ≡ Up t → t.raft_server.store.term ≤ server.raft_server.store.term

  no_device : (p a : ℕ) → OfMember p ≡ OfDevice a → ⊥
  no_device p a e = cc (e)

  one_member : (p q : ℕ) → OfMember p ≡ OfMember q → p ≡ q
  one_member p q e = cc (e)

  pub top_of : (list : List Party) → ((p : ℕ) → In (OfMember p) list → In (OfMember p) s.group) → Top list
  top_of [] among = record { whose = s.c; member = s.calm.member; server = s.calm.stands.after; runs = s.calm.stands.runs_then; high = λ p t i. absurd i }
  top_of (OfDevice a ∷ list) among =
      let more = top_of list (λ p i. among p (inr i)) in
      record {
        whose = more.whose;
        member = more.member;
        server = more.server;
        runs = more.runs;
        high = λ p t i up. elim i [ inl e ↦ absurd (no_device p a e) | inr j ↦ more.high p t j up ];
      }
  top_of (OfMember q ∷ list) among =
      let more = top_of list (λ p i. among p (inr i)) in
      let its = runs_v s q (among q (inl refl)) in
      elim (leb_tells its.server.raft_server.store.term more.server.raft_server.store.term) [
        | inl z ↦ record {
          whose = more.whose;
          member = more.member;
          server = more.server;
          runs = more.runs;
          high = λ p t i up. elim i [
            | inl e ↦
                let same = ap (λ (x : AllocatorState). x.raft_server.store.term)
                (same_server t its.server (sym up ∙ (ap (λ (k : ℕ). ((v s).member k).status) (one_member p q e) ∙ its.up.status))) in
                let k = z.1 in omega (arith, same, k)
            | inr j ↦ more.high p t j up
          ];
        }
        | inr z ↦ record {
          whose = q;
          member = among q (inl refl);
          server = its.server;
          runs = its.up.status;
          high = λ p t i up. elim i [
            | inl e ↦
                let same = ap (λ (x : AllocatorState). x.raft_server.store.term)
                (same_server t its.server (sym up ∙ (ap (λ (k : ℕ). ((v s).member k).status) (one_member p q e) ∙ its.up.status))) in
                omega (arith, same)
            | inr j ↦ let k = more.high p t j up in let l = z.1 in omega (arith, k, l)
          ];
        }
      ]
