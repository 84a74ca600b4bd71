-- From a world on in which a calm goes on, and in which a member leads that each other one may follow: each other member
-- hears it lately, whatever role it had before.
use Rattle.std.proofs.Common.{◌≡◌, ◌≢◌, ℕ, ◌+◌, ◌<◌, ◌≤◌, List, [], ◌∷◌, ◌++◌, sym, ◌∙◌, subst}
use Rattle.std.proofs.lemmas.List.{append_assoc}
use Rattle.can_frame.specs.Timing.{election_wait}
use Rattle.raft_model.specs.Lists.{In}
use Rattle.bus_rows.specs.declared.row.Row.{Row}
use Rattle.alloc_spec.specs.AllocatorState.{AllocatorState}
use Rattle.bus_agreement.proofs.Concatenations.{first_harmless}
use Rattle.bus_rows.specs.Timed.{Timed, rows_in}
use Rattle.service_alone.specs.Calm.{Pace}
use Rattle.service_leader.specs.NoElection.{CallsFit, ClocksGoOn, greatest_wait, heard_within}
use Rattle.service_leader.proofs.NextCall.{CallLaws, FollowsLately, HearsCalls, IsHeeded, follows_lately}
use Rattle.service_leader.proofs.Stretches.{GoesOnFrom, calm_first, fits_front, rows_both}
use Rattle.service_calm.specs.Calls.{FollowsFrom, Lists}
use Rattle.service_calm.specs.Calm.{AreRunning, Member as OfMember, Party}
use Rattle.service_calm.specs.Comes.{Throughout}
use Rattle.bus_spec.specs.Cluster.{Cluster, after_rows, world_of}
use Rattle.bus_spec.specs.Lawful.{DoNoHarm}
use Rattle.bus_spec.specs.Members.MemberStatus.{Up}

module _ (group : List Party) (clocks : Party → ℕ) (pace : Pace) (moment n term : ℕ) (later : List Timed) where
  -- member n calls member m in these rows, and m hears it in time
  pub record HearsIt (m : ℕ) (v : Cluster) : Type 0 where
    pub calls : Lists n m v
    pub hears : Lists m n v
    pub in_time : (front rest : List Timed) → later ≡ front ++ rest → HearsCalls clocks pace n m v front

  -- the rows go on calmly from this world, at this moment
  pub record GoesOnHere (v : Cluster) : Type 0 where
    pub running : AreRunning group v
    pub server_me : (p : ℕ) → In (OfMember p) group → (server : AllocatorState) → (v.member p).status ≡ Up server → server.me ≡ p
    pub clocks_go : ClocksGoOn group clocks moment v
    pub from : GoesOnFrom group clocks pace moment v later
    pub harmless : DoNoHarm v (rows_in later)
    pub fits : CallsFit n v later
    pub hear : (m : ℕ) → In (OfMember m) group → m ≢ n → HearsIt m v

  -- member m follows before and behind this row, and its wait began lately
  pub record Lately (v : Cluster) (m : ℕ) (front : List Timed) (timed : Timed) : Type 0 where
    pub since : ℕ
    pub late : timed.at + clocks (OfMember m) ≤ since + greatest_wait pace
    pub before : FollowsFrom m since (after_rows v (rows_in front))
    pub behind : FollowsFrom m since (after_rows v (rows_in (front ++ timed ∷ [])))

  -- So it is behind the first call, where n leads up to the row, and each other member may follow it.
  abbrev pub HeardLately : Cluster → Type 0
  HeardLately v = GoesOnHere v → (front rest : List Timed) (timed : Timed) → later ≡ front ++ timed ∷ rest
      → Throughout (IsHeeded group n term) v (front ++ timed ∷ []) → (m : ℕ) → In (OfMember m) group → m ≢ n
      → moment + heard_within pace < timed.at → Lately v m front timed

module _ (ids : List ℕ) (rows : List Row) (laws : CallLaws ids rows) (group : List Party) (clocks : Party → ℕ) (pace : Pace) (moment n term : ℕ)
    (later : List Timed) (in_n : In (OfMember n) group) (short : greatest_wait pace < election_wait) where
  pub heard_lately : HeardLately group clocks pace moment n term later (world_of ids rows)
  heard_lately here front rest timed cut led m in_m differs long = record { since = run.moment; late = run.late; before = run.before; behind = run.behind }
    where
      upto_cut : later ≡ (front ++ timed ∷ []) ++ rest
      upto_cut = cut ∙ sym (append_assoc front (timed ∷ []) rest)

      its : HearsIt group clocks pace moment n term later m (world_of ids rows)
      its = here.hear m in_m differs

      from_start : GoesOnFrom group clocks pace moment (world_of ids rows) (front ++ timed ∷ [])
      from_start = calm_first group clocks pace (front ++ timed ∷ []) rest moment (world_of ids rows)
          (subst (GoesOnFrom group clocks pace moment (world_of ids rows)) upto_cut here.from)

      harmless : DoNoHarm (world_of ids rows) (rows_in (front ++ timed ∷ []))
      harmless = first_harmless (world_of ids rows) (rows_in (front ++ timed ∷ [])) (rows_in rest)
          (subst (DoNoHarm (world_of ids rows)) (rows_both (front ++ timed ∷ []) rest)
          (subst (λ (l : List Timed). DoNoHarm (world_of ids rows) (rows_in l)) upto_cut here.harmless))

      fits : CallsFit n (world_of ids rows) (front ++ timed ∷ [])
      fits = fits_front n (front ++ timed ∷ []) rest (world_of ids rows) (subst (CallsFit n (world_of ids rows)) upto_cut here.fits)

      run : FollowsLately ids rows laws group clocks pace moment here.running here.server_me here.clocks_go n term in_n front timed from_start harmless fits led
          m in_m differs its.calls its.hears (its.in_time (front ++ timed ∷ []) rest upto_cut)
      run = follows_lately ids rows laws group clocks pace moment here.running here.server_me here.clocks_go n term in_n front timed from_start harmless fits led
          m in_m differs its.calls its.hears (its.in_time (front ++ timed ∷ []) rest upto_cut) short long
