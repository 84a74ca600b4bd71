-- Who leads leads on in a calm, and who follows follows on, row by row.
use Rattle.std.proofs.Common.{◌≡◌, ◌≢◌, ℕ, ◌+◌, ◌≤◌, Bool, List, [], ◌∷◌, ◌++◌, refl, sym, ◌∙◌, ap, subst, inl, inr, arith}
use Rattle.std.proofs.lemmas.Bool.Decides.{eqb_tells}
use Rattle.raft_model.specs.Lists.{In, at, at_here, at_other}
use Rattle.raft_model.specs.Runs as raft
use Rattle.bus_rows.specs.declared.row.Row.{Row}
use Rattle.bus_rows.specs.declared.row.Row.TheVariants.{AEnd, AOpen, ARx, ASend, ATick, Crash, Ext, Fault, Open, Rx, Send, Tick}
use Rattle.transfer_rx.specs.Reassembly.{Delivery}
use Rattle.alloc_spec.specs.AllocatorState.{AllocatorState}
use Rattle.alloc_spec.specs.Step.{Event, after_pop, step}
use Rattle.alloc_spec.specs.Transfers.{SentTransfer}
use Rattle.bus_agreement.specs.LawsBelow.{CodecLaws}
use Rattle.bus_agreement.specs.Safe.{IsDeliveredTo, IsOneTransfer}
use Rattle.bus_agreement.specs.Shows.{Shows}
use Rattle.bus_rows.specs.Timed.{Timed, rows_in}
use Rattle.service_alone.specs.Calm.{Pace}
use Rattle.service_alone.proofs.Members.{steps_up}
use Rattle.service_calm.specs.Calm.{AreCalm, AreRunning, IsCalmRow, IsRunning, Member as OfMember, Party, Traffic, traffic_after}
use Rattle.service_leader.specs.LeadsOn.{FollowsWithin, IsLed, LeadsIn, NobodyStands, WaitsOn}
use Rattle.service_calm.proofs.CallsKept.{RunsWith}
use Rattle.service_calm.proofs.Group.{AreWell, CalmLaws, well_after}
use Rattle.service_leader.proofs.LeadsOnWays.{AreOfGroup, next_of_group, of_group_after}
use Rattle.service_leader.proofs.TermsHeard.{IsOfRun, tells_within}
use Rattle.service_leader.proofs.TermsSteps.{Plays, plays_at_frame, plays_at_tick}
use Rattle.alloc_spec.specs.ClusterMembers.{AreMembers}
use Rattle.bus_spec.specs.Cluster.{Cluster, after_row, after_rows, arrival_at, cluster, frame_at, receipt_of, tick_of, world_of}
use Rattle.bus_spec.specs.Lawful.{DoNoHarm, DoesNoHarm}
use Rattle.bus_spec.specs.Members.{Member, after_sending, member_after_step}
use Rattle.bus_spec.specs.Members.MemberStatus.{Up}

-- what a row delivers is one transfer that a member made
abbrev pub DeliversOne : Type 0
DeliversOne = (choice : ℕ → Bool) (made : List SentTransfer) (w : Cluster) (run : raft.World) → AreMembers w.ids → Shows choice made w run → (n k ms : ℕ)
    (d : Delivery)
    → DoesNoHarm w (Rx n k ms) → IsDeliveredTo w n k ms d → IsOneTransfer made run.bag n d

module _ (group : List Party) (n term : ℕ) where
  -- the member runs and leads, where it is n, or follows
  abbrev pub PlaysIn : ℕ → Member → Type 0
  PlaysIn m x = RunsWith (λ (t : AllocatorState). Plays n term m t.raft_server) x

  -- each member of the group does
  abbrev pub AllPlay : Cluster → Type 0
  AllPlay w = (m : ℕ) → In (OfMember m) group → PlaysIn m (w.member m)

  -- ---- what is asked, and what is left

  its_part : (w : Cluster) → IsLed group n term w → (m : ℕ) → In (OfMember m) group → IsRunning m w → PlaysIn m (w.member m)
  its_part w led m i running = elim (eqb_tells m n) [
    | inl z ↦
        let its : IsRunning n w = subst (λ (k : ℕ). IsRunning k w) z.1 running in
        subst (λ (k : ℕ). PlaysIn k (w.member k)) (sym z.1) (record {
          server = led.leader.server;
          up = record { status = led.leader.runs; quiet = record { faults = its.faults; calls = its.disk } };
          holds = inl (refl, (led.leader.leads, led.leader.its_term));
        })
    | inr z ↦
        let follows : FollowsWithin m term w = led.others m i z.1 in
        record {
          server = follows.server;
          up = record { status = follows.runs; quiet = record { faults = running.faults; calls = running.disk } };
          holds = inr (z.1, (follows.follows, follows.its_term));
        }
  ]

  pub all_play : (w : Cluster) → IsLed group n term w → AreRunning group w → AllPlay w
  all_play w led running m i = its_part w led m i (running m i)

  leads_in : (w : Cluster) → PlaysIn n (w.member n) → LeadsIn n term w
  leads_in w is = elim is.holds [
    | inl leads ↦ record { server = is.server; runs = is.up.status; leads = leads.1.0; its_term = leads.1.1 }
    | inr follows ↦ absurd (follows.0 refl)
  ]

  follows_in : (w : Cluster) (m : ℕ) → m ≢ n → PlaysIn m (w.member m) → FollowsWithin m term w
  follows_in w m apart is = elim is.holds [
    | inl leads ↦ absurd (apart leads.0)
    | inr follows ↦ record { server = is.server; runs = is.up.status; follows = follows.1.0; its_term = follows.1.1 }
  ]

  pub is_led : (w : Cluster) → In (OfMember n) group → AllPlay w → IsLed group n term w
  is_led w i all = record { leader = leads_in w (all n i); others = λ m j apart. follows_in w m apart (all m j) }

  -- ---- a row

  stepped : (m number : ℕ) (event : Event) (x : Member) (is : PlaysIn m x) → Plays n term m (step is.server number event).step_state.allocator.raft_server
      → PlaysIn m (member_after_step number event x.status x)
  stepped m number event x is plays = record {
    server = (step is.server number event).step_state.allocator;
    up = steps_up number event is.server x is.up;
    holds = plays;
  }

  sent : (m : ℕ) (x : Member) → PlaysIn m x → PlaysIn m (record x { status = after_sending x.status })
  sent m x is = record {
    server = after_pop is.server;
    up = record { status = ap after_sending is.up.status; quiet = is.up.quiet };
    holds = is.holds;
  }

  all_with : (w : Cluster) (p : ℕ) (x : Member) → AllPlay w → (In (OfMember p) group → PlaysIn p x) → (m : ℕ) → In (OfMember m) group → PlaysIn m
      (at w.member p x m)
  all_with w p x all is m i = elim (eqb_tells m p) [
    | inl z ↦ subst (PlaysIn m) (sym (at_here w.member p m x z.1))
        (subst (λ (k : ℕ). PlaysIn k x) (sym z.1) (is (subst (λ (k : ℕ). In (OfMember k) group) z.1 i)))
    | inr z ↦ subst (PlaysIn m) (sym (at_other w.member p m x z.1)) (all m i)
  ]

  -- no member of the group has a higher term
  pub none_higher : (w : Cluster) → AllPlay w → (p : ℕ) → In (OfMember p) group → (t : AllocatorState) × ((w.member p).status ≡ Up t) ×
      (t.raft_server.store.term ≤ term)
  none_higher w all p i = let is : PlaysIn p (w.member p) = all p i in (
    is.server,
    is.up.status,
    elim is.holds [
      | inl leads ↦ let e = leads.1.1 in omega (arith, e)
      | inr follows ↦ follows.1.1
    ],
  )

  module _ (laws : CalmLaws) (codec : CodecLaws) (one_transfer : DeliversOne) (nodes : (p : ℕ) → In (OfMember p) group → (1 ≤ p) × (p ≤ 125))
      (clocks : Party → ℕ) (pace : Pace) where
    module _ (traffic : Traffic) (w : Cluster) (members : AreMembers w.ids) (listed : (p : ℕ) → In (OfMember p) group → In p w.ids) (shown : IsOfRun w)
        (flies : (party : Party) → AreOfGroup group w.frames (traffic.to party)) (all : AllPlay w) (moment : ℕ) where
      plays_after : (row : Row) → IsCalmRow group clocks pace traffic w moment row → DoesNoHarm w row → WaitsOn n w row → AllPlay (after_row w row)
      plays_after (Tick p ms word) calm harm waits = all_with w p (member_after_step (w.rows + 1) (tick_of ms word) (w.member p).status (w.member p)) all (λ i.
          let is : PlaysIn p (w.member p) = all p i in
          stepped p (w.rows + 1) (tick_of ms word) (w.member p) is
          (plays_at_tick n term p (w.rows + 1) is.server ms word is.holds (λ apart. waits apart is.server is.up.status)))
      plays_after (Rx p k ms) calm harm waits = all_with w p (member_after_step (w.rows + 1) (receipt_of w k ms) (w.member p).status (w.member p)) all (λ i.
          let is : PlaysIn p (w.member p) = all p i in
          stepped p (w.rows + 1) (receipt_of w k ms) (w.member p) is
          (plays_at_frame n term p (w.rows + 1) is.server (arrival_at (frame_at w.frames k) ms) is.holds (λ d gives.
          tells_within laws.frame codec w shown (one_transfer shown.choice shown.made w shown.run members shown.shows) group listed nodes term
          (none_higher w all)
          p k ms is.server is.up.status harm d gives (next_of_group group w.frames k (traffic.to (OfMember p)) calm.2 (flies (OfMember p))))))
      plays_after (Send p) calm harm waits = all_with w p (record (w.member p) { status = after_sending (w.member p).status }) all (λ i. sent p
          (w.member p) (all p i))
      plays_after (ATick a ms word) calm harm waits = all
      plays_after (ARx a k ms word) calm harm waits = all
      plays_after (ASend a) calm harm waits = all
      plays_after (Open p told ms word) calm harm waits = absurd calm
      plays_after (Ext frame) calm harm waits = absurd calm
      plays_after (Crash p calls pattern) calm harm waits = absurd calm
      plays_after (Fault p call) calm harm waits = absurd calm
      plays_after (AOpen a uid pref ms word) calm harm waits = absurd calm
      plays_after (AEnd a) calm harm waits = absurd calm

    -- ---- row by row

    module _ (ids : List ℕ) (members : AreMembers ids) (listed : (p : ℕ) → In (OfMember p) group → In p ids)
        (of_run : (rows : List Row) → DoNoHarm (cluster ids) rows → IsOfRun (world_of ids rows))
        (same_members : (rows : List Row) → (world_of ids rows).ids ≡ ids)
        (grown : (rows : List Row) (row : Row) → world_of ids (rows ++ row ∷ []) ≡ after_row (world_of ids rows) row)
        (grown_harmless : (rows : List Row) (row : Row) → DoNoHarm (cluster ids) rows → DoesNoHarm (world_of ids rows) row → DoNoHarm (cluster ids)
        (rows ++ row ∷ [])) where
      -- all play on, from a world on that harmless rows reach
      pub play_on : (front rest : List Timed) (rows : List Row) (w : Cluster) (traffic : Traffic) → world_of ids rows ≡ w → DoNoHarm (cluster ids) rows
          → AreCalm group clocks pace traffic w (front ++ rest) → DoNoHarm w (rows_in front) → NobodyStands n w front → AreWell group w
          → ((party : Party) → AreOfGroup group w.frames (traffic.to party)) → AllPlay w → AllPlay (after_rows w (rows_in front))
      play_on [] rest rows w traffic reached harmless calm harm quiet are flies all = all
      play_on (timed ∷ front) rest rows w traffic reached harmless calm harm quiet are flies all =
          play_on front rest (rows ++ timed.row ∷ []) (after_row w timed.row) (traffic_after traffic w timed)
          (grown rows timed.row ∙ ap (λ (v : Cluster). after_row v timed.row) reached)
          (grown_harmless rows timed.row harmless (subst (λ (v : Cluster). DoesNoHarm v timed.row) (sym reached) harm.0))
          calm.2 harm.1 quiet.1
          (well_after laws group nodes w are clocks pace traffic timed.at timed.row calm.1)
          (λ party. of_group_after group laws nodes clocks pace traffic w are flies timed.at timed.row calm.1 party)
          (plays_after traffic w (subst AreMembers (sym same) members) (λ p i. subst (λ (l : List ℕ). In p l) (sym same) (listed p i))
          (subst IsOfRun reached (of_run rows harmless)) flies all timed.at timed.row calm.1 harm.0 quiet.0)
        where
          same : w.ids ≡ ids
          same = sym (ap (λ (v : Cluster). v.ids) reached) ∙ same_members rows
