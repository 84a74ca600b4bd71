-- Vote by vote c comes to lead, and leads on.
use Rattle.std.proofs.Common.{◌≡◌, ◌≢◌, ℕ, ◌+◌, ◌<◌, ◌≤◌, arith, Bool, true, List, [], ◌∷◌, ◌++◌, length, inl, inr, refl, sym, ◌∙◌, ap, subst}
use Rattle.std.specs.Prelude.{◌⊎◌, ◌==◌}
use Rattle.std.proofs.lemmas.Bool.Decides.{eqb_tells}
use Rattle.std.proofs.lemmas.List.{append_assoc}
use Rattle.raft_model.specs.Lists.{In}
use Rattle.raft_model.specs.Moves.Elections.{with_term}
use Rattle.raft_model.specs.Server.{Role, Store}
use Rattle.raft_model.specs.Server.Role.{Candidate, Follower, Leader}
use Rattle.alloc_spec.specs.AllocatorState.{AllocatorState}
use Rattle.alloc_spec_laws.proofs.Choices.{lt_tells}
use Rattle.bus_rows.specs.Timed.{Timed}
use Rattle.service_alone.specs.Calm.{end_of}
use Rattle.service_candidate.specs.Terms.{NobodyLeads}
use Rattle.service_candidate.proofs.LeadersStay.{leader_steps}
use Rattle.service_candidate.proofs.WinsAsked.{comes_back}
use Rattle.service_candidate.proofs.WinsFollow.{Contest, follows_at, leads_not_early, with_higher, with_same, within_v}
use Rattle.service_candidate.proofs.WinsFronts.{here_more, leads_more, not_yet, part_of}
use Rattle.service_candidate.proofs.WinsKnows.{rows_behind, rows_then, split}
use Rattle.service_candidate.proofs.WinsScene.{Scene, c_listed, ends_rise, harm_row, here, last, laws_at, runs_at, runs_next, stepped_or_not, v}
use Rattle.service_candidate.proofs.WinsStays.{no_append, rises_at, standing, within_at}
use Rattle.service_candidate.proofs.WinsTerms.{all_rows}
use Rattle.service_candidate.proofs.WinsVotes.{Comer, comers, length_more, rows_until}
use Rattle.service_leader.specs.CallsComeBack.{LeadsIfUp, LeadsNotIfUp, LeadsOn}
use Rattle.service_leader.proofs.NextCall.{no_leader}
use Rattle.service_leader.proofs.Stretches.{end_last, throughout_at, throughout_by, throughout_more}
use Rattle.service_calm.specs.Calm.{Member as OfMember}
use Rattle.service_calm.specs.Comes.{Throughout}
use Rattle.service_calm.proofs.Pair.{same_server}
use Rattle.bus_spec.specs.Cluster.{Cluster, after_row}
use Rattle.bus_spec.specs.Members.MemberStatus.{Up}

pub no_candidate : (role : Role) → role ≡ Candidate → role ≢ Leader
no_candidate role e f = cc (sym e ∙ f)

pub counts_too : (role : Role) → role ≡ Candidate → role ≢ Follower
counts_too role e f = cc (sym e ∙ f)

-- who hears a term that is no lower is in it
pub in_term : (store : Store) (k : ℕ) → store.term ≤ k → (with_term store k).term ≡ k
in_term store k low = elim (lt_tells store.term k) [
  | inl z ↦ ap (λ (t : Store). t.term) (with_higher store k z.1)
  | inr z ↦ let same : store.term ≡ k = (let l = z.1 in omega (arith, l, low)) in ap (λ (t : Store). t.term) (with_same store k same) ∙ same
]

module _ (s : Scene) (k : Contest s) where
  -- ---- nobody else leads

  cut_in : (a b : List Timed) → rows_then s ≡ a ++ b → s.rest ≡ a ++ (b ++ rows_behind s)
  cut_in a b e = split s ∙ (ap (λ (l : List Timed). l ++ rows_behind s) e ∙ append_assoc a b (rows_behind s))

  pub ends_soon : (a b : List Timed) → rows_then s ≡ a ++ b → end_of s.timed.at a ≤ last s
  ends_soon a b e =
      let rise = ends_rise s a b (rows_behind s) (cut_in a b e) in
      let same = ap (end_of s.timed.at) e in
      let soon = (all_rows s).soon in omega (arith, rise, same, soon)

  pub others_follow : (a b : List Timed) → rows_then s ≡ a ++ b → (m : ℕ) → In (OfMember m) s.group → m ≢ s.c → LeadsNotIfUp m (here s a)
  others_follow a b e m i other t up leads =
      let back = comes_back s m i other in
      elim (part_of a (b ++ rows_behind s) back.early back.late back.hears (sym (cut_in a b e) ∙ back.split)) [
        | inl p ↦
            let ends = ends_soon a b e in
            let same = ap (end_of s.timed.at) p.1 in
            let follows = follows_at s k m i other p.0 (b ++ rows_behind s) (back.split ∙ ap (λ (l : List Timed). back.early ++ back.hears ∷ l) p.2) (omega (arith, ends, same)) t
            (ap (λ (l : List Timed). ((here s l).member m).status) (sym p.1) ∙ up) in
            no_leader t.raft_server.memory.role follows.0 leads
        | inr p ↦ leads_not_early s k m i other a p.0 p.2 t up leads
      ]

  pub quiet_here : (a b : List Timed) → rows_then s ≡ a ++ b → LeadsNotIfUp s.c (here s a) → NobodyLeads s.group (here s a)
  quiet_here a b e not p i = elim (eqb_tells p s.c) [
    | inl z ↦ subst (λ (q : ℕ). LeadsNotIfUp q (here s a)) (sym z.1) not
    | inr z ↦ others_follow a b e p i z.1
  ]

  pub quiet_all : (a b : List Timed) → rows_then s ≡ a ++ b → Throughout (LeadsNotIfUp s.c) (v s) a → Throughout (NobodyLeads s.group) (v s) a
  quiet_all a b e none = throughout_by (NobodyLeads s.group) a (v s) (λ front more one same.
      quiet_here front (one ∷ more ++ b) (e ∙ (ap (λ (l : List Timed). l ++ b) same ∙ append_assoc front (one ∷ more) b))
      (throughout_at (LeadsNotIfUp s.c) front more one (v s) (subst (Throughout (LeadsNotIfUp s.c) (v s)) same none)))

  -- ---- the states of c

  -- it leads, and leads on
  pub record Leading (a : List Timed) (w : Cluster) : Type 0 where
    pub leads : LeadsIfUp s.c s.term w
    pub on : LeadsOn s.c s.term (v s) a

  -- it is a candidate with its own vote and those that came in these rows
  pub record Counts (a : List Timed) (t : AllocatorState) : Type 0 where
    pub role : t.raft_server.memory.role ≡ Candidate
    pub its_term : t.raft_server.store.term ≡ s.term
    pub own : t.raft_server.memory.votes s.c ≡ true
    pub others : (z : Comer s) → In z (comers s) → rows_until s z < length a → t.raft_server.memory.votes z.m ≡ true

  pub record Counting (a : List Timed) (w : Cluster) : Type 0 where
    pub counts : (t : AllocatorState) → (w.member s.c).status ≡ Up t → Counts a t
    pub none : Throughout (LeadsNotIfUp s.c) (v s) a

  abbrev pub State : List Timed → Cluster → Type 0
  State a w = Leading a w ⊎ Counting a w

  pub not_leading : (a : List Timed) (w : Cluster) → Counting a w → LeadsNotIfUp s.c w
  not_leading a w is t up = no_candidate t.raft_server.memory.role (is.counts t up).role

  pub each_up : (P : AllocatorState → Type 0) (w : Cluster) (u : AllocatorState) → (w.member s.c).status ≡ Up u → P u → (t : AllocatorState) → (w.member s.c).status ≡ Up t → P t
  each_up P w u up holds t also = subst P (same_server u t (sym up ∙ also)) holds

  same_number : (p : ℕ) → (p == p) ≡ true
  same_number p = elim (eqb_tells p p) [ inl z ↦ z.0 | inr z ↦ absurd (z.1 refl) ]

  pub first_state : Counting [] (v s)
  first_state = record {
    counts = each_up (Counts []) (v s) s.calm.stands.after s.calm.stands.runs_then (record {
      role = s.calm.stands.stands;
      its_term = s.calm.stands.its_term;
      own = ap (λ (f : ℕ → Bool). f s.c) (standing s).votes ∙ same_number s.c;
      others = λ z i few. absurd (omega (arith, few));
    });
    none = tt;
  }

  -- ---- who leads leads on

  leads_step : (a b : List Timed) (one : Timed) → s.rest ≡ a ++ one ∷ b → one.at ≤ last s → LeadsIfUp s.c s.term (here s a) → LeadsIfUp s.c s.term (after_row (here s a) one.row)
  leads_step a b one e soon leads u up_then = (
    elim (stepped_or_not s s.c s.calm.member a b one e t u up up_then) [
      | inl stepped ↦ elim (leader_steps t ((here s a).rows + 1) stepped.event (leads t up).0) [
        | inl still ↦ ap (λ (q : AllocatorState). q.raft_server.memory.role) stepped.is ∙ still
        | inr rises ↦ let same = ap (λ (q : AllocatorState). q.raft_server.store.term) stepped.is in
            let its = (leads t up).1 in absurd (omega (arith, rises, same, its, low))
      ]
      | inr same ↦ ap (λ (q : _). q.memory.role) same.raft_server ∙ (leads t up).0
    ],
    let its = (leads t up).1 in omega (arith, low, high, its),
  )
    where
      t : AllocatorState
      t = (runs_at s s.c s.calm.member a (one ∷ b) e).server

      up : ((here s a).member s.c).status ≡ Up t
      up = (runs_at s s.c s.calm.member a (one ∷ b) e).up.status

      more_cut : s.rest ≡ (a ++ one ∷ []) ++ b
      more_cut = e ∙ sym (append_assoc a (one ∷ []) b)

      up_more : ((here s (a ++ one ∷ [])).member s.c).status ≡ Up u
      up_more = ap (λ (w : Cluster). (w.member s.c).status) (here_more (v s) a one) ∙ up_then

      ends : end_of s.timed.at (a ++ one ∷ []) ≤ last s
      ends = let l = end_last s.timed.at a one in omega (arith, l, soon)

      low : u.raft_server.store.term ≤ s.term
      low = within_at s s.term (within_v s k) (a ++ one ∷ []) b more_cut ends s.c s.calm.member u up_more

      high : t.raft_server.store.term ≤ u.raft_server.store.term
      high = rises_at s s.c s.calm.member a (one ∷ []) b e t u up up_more

  pub leading_more : (a b : List Timed) (one : Timed) → s.rest ≡ a ++ one ∷ b → one.at ≤ last s → Leading a (here s a) → Leading (a ++ one ∷ []) (after_row (here s a) one.row)
  leading_more a b one e soon is = record { leads = leads_step a b one e soon is.leads; on = leads_more s.c s.term a one (v s) is.on is.leads }

  -- ---- a row in which no answer comes

  pub others_row : (a d : List Timed) (one : Timed) → rows_then s ≡ a ++ one ∷ d → Counting a (here s a) → ((z : Comer s) → In z (comers s) → rows_until s z ≢ length a)
      → State (a ++ one ∷ []) (after_row (here s a) one.row)
  others_row a d one e is nothing =
      elim ((laws_at s a (one ∷ behind) cut).candidates s.c one.row t u (c_listed s) (harm_row s a behind one cut) up up_then (is.counts t up).role).still [
        | inl still ↦ inr (record {
          counts = each_up (Counts (a ++ one ∷ [])) (after_row (here s a) one.row) u up_then (record {
            role = still.0;
            its_term = still.1 ∙ (is.counts t up).its_term;
            own = still.2 s.c (is.counts t up).own;
            others = λ z i few. still.2 z.m ((is.counts t up).others z i
                (let other = nothing z i in let size = length_more a one in omega (arith, few, size, other)));
          });
          none = more_none;
        })
        | inr (inl leads) ↦ inl (record {
          leads = each_up (λ (q : AllocatorState). (q.raft_server.memory.role ≡ Leader) × (q.raft_server.store.term ≡ s.term)) (after_row (here s a) one.row) u up_then
              (leads.0, leads.1 ∙ (is.counts t up).its_term);
          on = not_yet s.c s.term (a ++ one ∷ []) (v s) more_none;
        })
        | inr (inr (inl higher)) ↦ let its = (is.counts t up).its_term in absurd (omega (arith, higher, its, low))
        | inr (inr (inr hears)) ↦ absurd (no_append s s.c s.calm.member a behind one cut soon (quiet_all a (one ∷ d) e is.none)
            (quiet_here a (one ∷ d) e (not_leading a (here s a) is)) hears)
      ]
    where
      behind : List Timed
      behind = d ++ rows_behind s

      cut : s.rest ≡ a ++ one ∷ behind
      cut = cut_in a (one ∷ d) e

      ends : end_of s.timed.at (a ++ one ∷ []) ≤ last s
      ends = ends_soon (a ++ one ∷ []) d (e ∙ sym (append_assoc a (one ∷ []) d))

      soon : one.at ≤ last s
      soon = let l = end_last s.timed.at a one in let k = ends in omega (arith, l, k)

      t : AllocatorState
      t = (runs_at s s.c s.calm.member a (one ∷ behind) cut).server

      up : ((here s a).member s.c).status ≡ Up t
      up = (runs_at s s.c s.calm.member a (one ∷ behind) cut).up.status

      u : AllocatorState
      u = (runs_next s s.c s.calm.member a behind one cut).server

      up_then : ((after_row (here s a) one.row).member s.c).status ≡ Up u
      up_then = (runs_next s s.c s.calm.member a behind one cut).up.status

      more_none : Throughout (LeadsNotIfUp s.c) (v s) (a ++ one ∷ [])
      more_none = throughout_more (LeadsNotIfUp s.c) a one (v s) is.none (not_leading a (here s a) is)

      low : u.raft_server.store.term ≤ s.term
      low = within_at s s.term (within_v s k) (a ++ one ∷ []) behind (cut ∙ sym (append_assoc a (one ∷ []) behind))
          ends s.c s.calm.member u
          (ap (λ (w : Cluster). (w.member s.c).status) (here_more (v s) a one) ∙ up_then)
