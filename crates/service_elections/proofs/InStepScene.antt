-- A member stood for election in a term above all others, and nobody stood since: which terms and roles there are.
use Rattle.std.proofs.Common.{◌≡◌, ◌≢◌, ℕ, ◌+◌, ◌*◌, ◌<◌, ◌≤◌, arith, List, [], ◌∷◌, ◌++◌, refl, sym, ◌∙◌, ap, subst, inl, inr, append_assoc, append-nil, drop}
use Rattle.std.specs.Prelude.{◌⊎◌}
use Rattle.raft_model.specs.Lists.{In}
use Rattle.raft_model.specs.Server.Role.{Follower, Leader}
use Rattle.alloc_spec.specs.AllocatorState.{AllocatorState}
use Rattle.bus_rows.specs.Timed.{Timed, rows_in}
use Rattle.service_alone.specs.Calm.{end_of}
use Rattle.service_calm.specs.Calm.{Member as OfMember}
use Rattle.service_leader.specs.LeadsOn.{LeadsIn}
use Rattle.service_leader.specs.NoElection.{NoElection}
use Rattle.service_candidate.specs.Terms.{AreWithin, IsFreeFor, NobodyStandsAbove}
use Rattle.service_candidate.specs.Votes.{Stands}
use Rattle.service_candidate.proofs.OneStands.{one_stands}
use Rattle.service_candidate.proofs.WinsFronts.{nobody_above, nobody_else}
use Rattle.service_elections.specs.Running.{IsCalmOf, quiet_within}
use Rattle.service_elections.proofs.CalmFronts.{harm_front}
use Rattle.service_elections.proofs.InStepApart.{apart, one_stander}
use Rattle.service_elections.proofs.InStepFronts.{calm_at, term_rises, the_calm, there, there_both, there_more, w0}
use Rattle.service_elections.proofs.InStepGiven.{Ground}
use Rattle.service_elections.proofs.InStepHeard.{is_heard}
use Rattle.service_elections.proofs.InStepLists.{Place, first_or, one_more, place_of}
use Rattle.bus_spec.specs.Cluster.{Cluster, after_row, after_rows}
use Rattle.bus_spec.specs.Lawful.{DoNoHarm}
use Rattle.bus_spec.specs.Members.MemberStatus.{Up}

module _ (g : Ground) where
  -- ---- somebody leads

  -- Behind a front of the rows, at these rows or behind them, and by this moment, a member of the group leads, and no
  -- election comes from there on.
  pub record IsLedFrom (base : List Timed) (last : ℕ) : Type 0 where
    pub more : List Timed
    pub rest : List Timed
    pub split : g.whole ≡ (base ++ more) ++ rest
    pub soon : end_of g.start (base ++ more) ≤ last
    pub n : ℕ
    pub member : In (OfMember n) g.group
    pub term : ℕ
    pub calm : NoElection g.group g.clocks g.pace (end_of g.start (base ++ more)) n term (there g (base ++ more)) rest

  -- ---- the last one that stood

  -- In these rows member c stood for election in a term above all others, and nobody stood since, and it did so no
  -- earlier than the rows `base` end. Where it stood all members were in the term `top` at least, or c was the first one
  -- to stand in it.
  pub record Stood (base : List Timed) (top : ℕ) (front : List Timed) : Type 0 where
    pub first : List Timed
    pub one : Timed
    pub early : List Timed
    pub split : front ≡ (first ++ one ∷ []) ++ early
    pub more : List Timed
    pub behind : first ++ one ∷ [] ≡ base ++ more
    pub c : ℕ
    pub member : In (OfMember c) g.group
    pub term : ℕ
    pub stands : Stands c term (there g first) one.row
    pub within : AreWithin g.group stands.before.raft_server.store.term (there g first)
    pub quiet : (x y : List Timed) (z : Timed) (n its : ℕ) → early ≡ x ++ z ∷ y → In (OfMember n) g.group
        → Stands n its (there g ((first ++ one ∷ []) ++ x)) z.row → ⊥
    pub above : top ≤ term
    pub floor : (term ≡ top)
        ⊎ ((m : ℕ) (server : AllocatorState) → In (OfMember m) g.group → ((there g first).member m).status ≡ Up server → top ≤ server.raft_server.store.term)
    pub late : g.start + quiet_within g.pace + 8 * g.pace.delay < one.at

  -- So it is, and nobody led in the term `top` or a higher one.
  pub record Scene (base : List Timed) (top : ℕ) (front : List Timed) : Type 0 where
    pub stood : Stood base top front
    pub never : (x y : List Timed) (n its : ℕ) → front ≡ x ++ y → In (OfMember n) g.group → LeadsIn n its (there g x) → its < top

  module _ (base : List Timed) (top : ℕ) (front : List Timed) (s : Stood base top front) where
    abbrev upto : List Timed
    upto = s.first ++ s.one ∷ []

    -- a row in which a member stands, no more than eight delays before the last one that stood, is that one
    pub is_the_last : (x y rest : List Timed) (z : Timed) (n its : ℕ) → g.whole ≡ front ++ rest → front ≡ x ++ z ∷ y → In (OfMember n) g.group
        → Stands n its (there g x) z.row → s.one.at ≤ z.at + 8 * g.pace.delay → (x ≡ s.first) × (z ≡ s.one)
    is_the_last x y rest z n its cut place i o lately = by (place_of s.first s.early x y s.one z (sym s.split ∙ place))
      where
        cut_all : g.whole ≡ (s.first ++ s.one ∷ []) ++ (s.early ++ rest)
        cut_all = cut ∙ (ap (λ (l : List Timed). l ++ rest) s.split ∙ append_assoc (s.first ++ s.one ∷ []) s.early rest)

        by : Place s.first s.early x y s.one z → (x ≡ s.first) × (z ≡ s.one)
        by (Place.Same a b) = (a, b)
        by (Place.Behind tail a b) = absurd (s.quiet tail y z n its a i (subst (λ (l : List Timed). Stands n its (there g l) z.row) b o))
        by (Place.Before tail a) =
            let first_is : s.first ≡ (x ++ z ∷ []) ++ tail = a ∙ one_more x tail z in
            let gap = apart g x tail (s.early ++ rest) z s.one n s.c its s.term
            (cut_all ∙ (append_assoc s.first (s.one ∷ []) (s.early ++ rest) ∙ ap (λ (l : List Timed). l ++ s.one ∷ (s.early ++ rest)) first_is)) i s.member o
            (subst (λ (l : List Timed). Stands s.c s.term (there g l) s.one.row) first_is s.stands) in
            absurd (omega (arith, gap, lately))

    module _ (rest : List Timed) (cut : g.whole ≡ front ++ rest) where
      cut_all : g.whole ≡ s.first ++ (s.one ∷ (s.early ++ rest))
      cut_all = cut ∙ (ap (λ (l : List Timed). l ++ rest) s.split
          ∙ (append_assoc (s.first ++ s.one ∷ []) s.early rest ∙ append_assoc s.first (s.one ∷ []) (s.early ++ rest)))

      front_is : front ≡ s.first ++ (s.one ∷ s.early)
      front_is = s.split ∙ append_assoc s.first (s.one ∷ []) s.early

      world_is : after_rows (there g s.first) (rows_in (s.one ∷ s.early)) ≡ there g front
      world_is = sym (there_both g s.first (s.one ∷ s.early)) ∙ ap (λ (l : List Timed). there g l) (sym front_is)

      -- who stands behind it, or in its row
      stander : (x y : List Timed) (z : Timed) (n its : ℕ) → s.one ∷ s.early ≡ x ++ z ∷ y → In (OfMember n) g.group
          → Stands n its (after_rows (there g s.first) (rows_in x)) z.row → (n ≡ s.c) × (its ≡ s.term)
      stander [] y z n its e i o =
          let same = subst (λ (q : Timed). Stands n its (there g s.first) q.row) (sym (ap (λ (l : List Timed). first_or s.one l) e)) o in
          (one_stander n s.c its s.term (there g s.first) s.one.row same s.stands, one_stands s.c n s.term its (there g s.first) s.one.row s.stands same)
      stander (v ∷ x) y z n its e i o =
          let first_is : s.one ≡ v = ap (λ (l : List Timed). first_or s.one l) e in
          absurd (s.quiet x y z n its (ap (λ (l : List Timed). drop 1 l) e) i
          (subst (λ (u : Cluster). Stands n its u z.row)
          (ap (λ (q : Timed). after_rows (after_row (there g s.first) q.row) (rows_in x)) (sym first_is)
          ∙ (ap (λ (u : Cluster). after_rows u (rows_in x)) (sym (there_more g s.first s.one)) ∙ sym (there_both g (s.first ++ s.one ∷ []) x))) o))

      none_above : NobodyStandsAbove g.group s.term (there g s.first) (s.one ∷ s.early)
      none_above = nobody_above g.group s.term (s.one ∷ s.early) (there g s.first)
          (λ x y z n its e i o. let is = (stander x y z n its e i o).1 in omega (arith, is))

      calm_so : IsCalmOf g.ids g.rows g.group g.clocks g.pace g.start (s.first ++ (s.one ∷ (s.early ++ rest)))
      calm_so = calm_at g s.first (s.one ∷ (s.early ++ rest)) cut_all

      harm_so : DoNoHarm (w0 g) (rows_in front)
      harm_so = harm_front (the_calm g) front rest cut

      -- all are within its term
      pub within_term : AreWithin g.group s.term (there g front)
      within_term = subst (AreWithin g.group s.term) world_is
          (g.given.terms g.group g.clocks g.pace g.start s.term s.first (s.one ∷ s.early) rest g.calm.listed g.calm.running g.calm.others calm_so.calm
          (subst (λ (l : List Timed). DoNoHarm (w0 g) (rows_in l)) front_is harm_so)
          (λ m i server up. let h = s.within m i server up in let e = s.stands.next in omega (arith, h, e)) none_above)

      -- all but c are free for it
      pub free_at : (m : ℕ) → In (OfMember m) g.group → m ≢ s.c → IsFreeFor s.c s.term m (there g front)
      free_at m i differs = subst (IsFreeFor s.c s.term m) world_is
          (g.given.free g.group g.clocks g.pace g.start s.c s.term s.first (s.one ∷ s.early) rest g.calm.listed g.calm.running s.member calm_so.calm
          (subst (λ (l : List Timed). DoNoHarm (w0 g) (rows_in l)) front_is harm_so)
          (λ p j server up. let h = s.within p j server up in let e = s.stands.next in omega (arith, h, e))
          (λ p j other server up. let h = s.within p j server up in let e = s.stands.next in omega (arith, h, e))
          (nobody_else g.group s.c (s.one ∷ s.early) (there g s.first) (λ x y z n its e j o. (stander x y z n its e j o).0)) none_above m i differs)

      -- all but c follow, where they are in its term
      pub follow_at : (m : ℕ) (server : AllocatorState) → In (OfMember m) g.group → m ≢ s.c → ((there g front).member m).status ≡ Up server
          → s.term ≤ server.raft_server.store.term → server.raft_server.memory.role ≡ Follower
      follow_at m server i differs up reached = elim (free_at m i differs server up) [
        | inl below ↦ absurd (omega (arith, below, reached))
        | inr is ↦ is.1
      ]

      -- c is in its term
      pub own_term : (server : AllocatorState) → ((there g front).member s.c).status ≡ Up server → s.term ≤ server.raft_server.store.term
      own_term server up =
          let h = term_rises g (s.first ++ s.one ∷ []) s.early rest (cut ∙ ap (λ (l : List Timed). l ++ rest) s.split) s.c s.member s.stands.after server
          (ap (λ (u : Cluster). (u.member s.c).status) (there_more g s.first s.one) ∙ s.stands.runs_then)
          (subst (λ (l : List Timed). ((there g l).member s.c).status ≡ Up server) s.split up) in
          let e = s.stands.its_term in
          omega (arith, h, e)

    -- before a row that is late enough all are in its term
    module _ (rest : List Timed) (next : Timed) (cut : g.whole ≡ front ++ next ∷ rest) (later : s.one.at + 2 * g.pace.delay < next.at)
        (long : s.one.at + 4 * g.pace.delay < end_of g.start g.whole) where
      pub reached : (m : ℕ) (server : AllocatorState) → In (OfMember m) g.group → ((there g front).member m).status ≡ Up server → s.term ≤ server.raft_server.store.term
      reached m server i up = is_heard g s.first s.early rest s.one next (cut_all (next ∷ rest) cut) later long s.c s.term s.member s.stands m server i
          (subst (λ (l : List Timed). ((there g l).member m).status ≡ Up server) (front_is (next ∷ rest) cut) up)

  -- who is in the term `top` or a higher one does not lead
  pub leads_not : (base : List Timed) (top : ℕ) (front : List Timed) → Scene base top front → (m : ℕ) (server : AllocatorState) → In (OfMember m) g.group
      → ((there g front).member m).status ≡ Up server → top ≤ server.raft_server.store.term → server.raft_server.memory.role ≢ Leader
  leads_not base top front s m server i up high leads =
      let h = s.never front [] m server.raft_server.store.term (sym (append-nil front)) i (record { server = server; runs = up; leads = leads; its_term = refl }) in
      omega (arith, h, high)
