-- From the row in which a member stands alone the others follow, as long as none of them stands.
use Rattle.std.proofs.Common.{◌≡◌, ◌≢◌, ℕ, ◌+◌, ◌*◌, ◌≤◌, arith, List, [], ◌∷◌, ◌++◌, append_assoc, append-nil, refl, sym, ◌∙◌, ap, subst, inl, inr}
use Rattle.std.specs.Prelude.{max}
use Rattle.raft_model.specs.Lists.{In}
use Rattle.raft_model.specs.Server.Role.{Follower}
use Rattle.bus_rows.specs.declared.row.Row.{Row}
use Rattle.bus_rows.specs.declared.row.Row.TheVariants.{Tick}
use Rattle.alloc_spec.specs.AllocatorState.{AllocatorState}
use Rattle.bus_agreement.proofs.Concatenations.{row_harmless}
use Rattle.service_steps.specs.InTime.{FramesLeaveFollowers}
use Rattle.bus_rows.specs.Timed.{Timed, rows_in}
use Rattle.service_alone.specs.Calm.{Pace, end_of}
use Rattle.service_calm.specs.Calm.{AreRunning, Member as OfMember, Party, no_traffic}
use Rattle.service_calm.proofs.Calls.{Always}
use Rattle.service_calm.proofs.CallsKept.{IsKept}
use Rattle.service_candidate.specs.Elections.{EndsBy, IsCalmRestart, OthersFollow}
use Rattle.service_candidate.specs.Votes.{Stands}
use Rattle.service_candidate.proofs.RowsLeave.{IsLeft, row_leaves}
use Rattle.service_candidate.proofs.WaitsRows.{is_candidate_then, knows_then}
use Rattle.service_candidate.proofs.WaitsTicks.{tick_leaves}
use Rattle.service_leader.proofs.Stretches.{GoesOnFrom, calm_first, calm_rest, end_both, end_last, not_before, rows_both, world_both}
use Rattle.service_cluster.proofs.Fronts.{keeps_at}
use Rattle.bus_spec.specs.Cluster.{Cluster, after_row, after_rows, arrival_at, frame_at, world_of}
use Rattle.bus_spec.specs.Lawful.{DoNoHarm, DoesNoHarm}
use Rattle.bus_spec.specs.Members.MemberStatus.{Up}

module _ (frames_leave : FramesLeaveFollowers) (ids : List ℕ) (rows : List Row) (group : List Party) (clocks : Party → ℕ) (pace : Pace) (start ended : ℕ)
    (whole : List Timed) (r : IsCalmRestart ids rows group clocks pace start whole) (running : AreRunning group (world_of ids rows))
    (Sized : AllocatorState → Type 0) (sized : (t : AllocatorState) → Sized t → 2 ≤ t.size) (sized_kept : IsKept Always Sized)
    (sized_first : (m : ℕ) (i : In (OfMember m) group) → Sized (running m i).server)
    (ends : EndsBy group clocks pace.delay ended (world_of ids rows) whole)
    (follow : OthersFollow group ends.c (after_rows (world_of ids rows) (rows_in ends.front))) where
  abbrev w : Cluster
  w = world_of ids rows

  abbrev F : List Timed
  F = ends.front

  abbrev S : Timed
  S = ends.timed

  abbrev c : ℕ
  c = ends.c

  -- the world behind the row in which c stands
  abbrev pub v : Cluster
  v = after_row (after_rows w (rows_in F)) S.row

  abbrev pub here : List Timed → Cluster
  here a = after_rows v (rows_in a)

  -- a front of the rows behind it, among all
  pub here_is : (a : List Timed) → after_rows w (rows_in (F ++ S ∷ a)) ≡ here a
  here_is a = world_both w F (S ∷ a)

  pub cut_here : (a b : List Timed) → ends.wins.front ≡ a ++ b → whole ≡ (F ++ S ∷ a) ++ (b ++ ends.wins.rest)
  cut_here a b e = ends.split ∙ (ap (λ (l : List Timed). F ++ S ∷ l) (ends.wins.split ∙ ap (λ (l : List Timed). l ++ ends.wins.rest) e)
      ∙ (ap (λ (l : List Timed). F ++ S ∷ l) (append_assoc a b ends.wins.rest) ∙ sym (append_assoc F (S ∷ a) (b ++ ends.wins.rest))))

  goes_from : (a b : List Timed) → whole ≡ a ++ b → GoesOnFrom group clocks pace (end_of start a) (after_rows w (rows_in a)) b
  goes_from a b e = calm_rest group clocks pace a b start w (subst (GoesOnFrom group clocks pace start w) e
      (record { traffic = no_traffic start; calm = r.calm; at_end = refl; ticked = λ party. omega arith }))

  -- ---- in one row

  module _ (a b : List Timed) (y : Timed) (cut : ends.wins.front ≡ a ++ y ∷ b) where
    -- it comes within four delays
    soon : y.at ≤ S.at + 4 * pace.delay
    soon =
        let e : ends.wins.front ≡ (a ++ y ∷ []) ++ b = cut ∙ sym (append_assoc a (y ∷ []) b) in
        let from = calm_first group clocks pace b ends.wins.rest _ _ (goes_from (F ++ S ∷ (a ++ y ∷ [])) (b ++ ends.wins.rest) (cut_here (a ++ y ∷ []) b e)) in
        let low = not_before group clocks pace b (end_of start (F ++ S ∷ (a ++ y ∷ []))) _ from in
        let is : end_of start (F ++ S ∷ (a ++ y ∷ [])) ≡ y.at = end_both start F (S ∷ (a ++ y ∷ [])) ∙ end_last S.at a y in
        let all : end_of S.at ends.wins.front ≡ end_of y.at b = ap (end_of S.at) e ∙ (end_both S.at (a ++ y ∷ []) b ∙ ap (λ (k : ℕ). end_of k b) (end_last S.at a y)) in
        let both = ap (λ (k : ℕ). end_of k b) is in
        let q = ends.wins.soon in
        omega (arith, low, is, all, both, q)

    harm : DoesNoHarm (here a) y.row
    harm = subst (λ (u : Cluster). DoesNoHarm u y.row) (here_is a)
        (row_harmless w (rows_in (F ++ S ∷ a)) (rows_in (b ++ ends.wins.rest)) y.row
        (subst (DoNoHarm w) (ap rows_in (cut_here a (y ∷ b) cut) ∙ rows_both (F ++ S ∷ a) (y ∷ (b ++ ends.wins.rest))) r.harmless))

    -- no other one stands in it
    stands_not : (m term : ℕ) → In (OfMember m) group → m ≢ c → Stands m term (here a) y.row → ⊥
    stands_not m term i differs stands =
        let gap = r.apart F a (b ++ ends.wins.rest) S y c m ends.term term
        (cut_here a (y ∷ b) cut ∙ append_assoc F (S ∷ a) (y ∷ (b ++ ends.wins.rest))) ends.member i (λ e. differs (sym e)) ends.stands
        (subst (λ (u : Cluster). Stands m term u y.row) (sym (here_is a)) stands) in
        let q = soon in omega (arith, gap, q)

    one_more : OthersFollow group c (here a) → OthersFollow group c (after_row (here a) y.row)
    one_more before m u i differs up_then = by (row_leaves (here a) m t u up y.row harm up_then)
      where
        at_a : (t : AllocatorState) × (((after_rows w (rows_in (F ++ S ∷ a))).member m).status ≡ Up t) × Sized t
        at_a = keeps_at w group clocks pace start whole r.calm running m i Sized sized_kept (sized_first m i) (F ++ S ∷ a) (y ∷ (b ++ ends.wins.rest)) (cut_here a (y ∷ b) cut)

        t : AllocatorState
        t = at_a.0

        up : ((here a).member m).status ≡ Up t
        up = subst (λ (z : Cluster). (z.member m).status ≡ Up t) (here_is a) at_a.1

        role : t.raft_server.memory.role ≡ Follower
        role = before m t i differs up

        by : IsLeft (here a) m y.row t u → u.raft_server.memory.role ≡ Follower
        by (inl x) = elim (tick_leaves t ((here a).rows + 1) x.ms x.word) [
          | inl same ↦ ap (λ (s : AllocatorState). s.raft_server.memory.role) x.is ∙ (same.4 ∙ role)
          | inr stood ↦ absurd (stands_not m (t.raft_server.store.term + 1) i differs (record {
            ms = x.ms;
            word = x.word;
            reads = x.reads;
            before = t;
            runs = up;
            next = refl;
            after = u;
            runs_then = up_then;
            stands = ap (λ (s : AllocatorState). s.raft_server.memory.role) x.is
                ∙ (stood.3 ∙ is_candidate_then t (knows_then t (max t.now x.ms) stood.0) (sized t at_a.2));
            its_term = ap (λ (s : AllocatorState). s.raft_server.store.term) x.is ∙ stood.2;
          }))
        ]
        by (inr (inl x)) = ap (λ (s : AllocatorState). s.raft_server.memory.role) x.is
            ∙ (frames_leave t ((here a).rows + 1) (arrival_at (frame_at (here a).frames x.k) x.ms) role).0
        by (inr (inr (inl e))) = ap (λ (s : AllocatorState). s.raft_server.memory.role) e ∙ role
        by (inr (inr (inr e))) = ap (λ (s : AllocatorState). s.raft_server.memory.role) e ∙ role

  -- ---- in the row in which c stands, and behind it

  -- another member is as it was in the row in which c stands
  stood_row : OthersFollow group c v
  stood_row m u i differs up_then = by (row_leaves (after_rows w (rows_in F)) m t u up S.row harm_s up_then)
    where
      cut_s : whole ≡ F ++ S ∷ ends.rest
      cut_s = ends.split

      at_s : (t : AllocatorState) × (((after_rows w (rows_in F)).member m).status ≡ Up t) × Sized t
      at_s = keeps_at w group clocks pace start whole r.calm running m i Sized sized_kept (sized_first m i) F (S ∷ ends.rest) cut_s

      t : AllocatorState
      t = at_s.0

      up : ((after_rows w (rows_in F)).member m).status ≡ Up t
      up = at_s.1

      harm_s : DoesNoHarm (after_rows w (rows_in F)) S.row
      harm_s = row_harmless w (rows_in F) (rows_in ends.rest) S.row (subst (DoNoHarm w) (ap rows_in cut_s ∙ rows_both F (S ∷ ends.rest)) r.harmless)

      role : t.raft_server.memory.role ≡ Follower
      role = follow m t i differs up

      own_row : (k j : ℕ) (ms word ms2 word2 : ℕ) → Tick k ms word ≡ Tick j ms2 word2 → k ≡ j
      own_row k j ms word ms2 word2 e = cc e

      by : IsLeft (after_rows w (rows_in F)) m S.row t u → u.raft_server.memory.role ≡ Follower
      by (inl x) = absurd (differs (own_row m c x.ms x.word ends.stands.ms ends.stands.word (sym x.reads ∙ ends.stands.reads)))
      by (inr (inl x)) = absurd (cc (sym x.comes ∙ ends.stands.reads))
      by (inr (inr (inl e))) = ap (λ (s : AllocatorState). s.raft_server.memory.role) e ∙ role
      by (inr (inr (inr e))) = ap (λ (s : AllocatorState). s.raft_server.memory.role) e ∙ role

  further : (d a b : List Timed) → ends.wins.front ≡ a ++ (d ++ b) → OthersFollow group c (here a) → OthersFollow group c (here (a ++ d))
  further [] a b cut h = subst (λ (l : List Timed). OthersFollow group c (here l)) (sym (append-nil a)) h
  further (y ∷ d) a b cut h = subst (λ (l : List Timed). OthersFollow group c (here l)) (append_assoc a (y ∷ []) d)
      (further d (a ++ y ∷ []) b (cut ∙ sym (append_assoc a (y ∷ []) (d ++ b)))
      (subst (OthersFollow group c) (sym (world_both v a (y ∷ []))) (one_more a (d ++ b) y cut h)))

  -- so the others follow behind each front
  pub follow_on : (d b : List Timed) → ends.wins.front ≡ d ++ b → OthersFollow group c (here d)
  follow_on d b cut = further d [] b cut stood_row
