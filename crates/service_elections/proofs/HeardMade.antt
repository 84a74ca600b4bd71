-- What is delivered of Raft's messages in a calm was made in it by another member of the group, two delays before at most.
use Rattle.std.proofs.Common.{◌≡◌, ◌≢◌, ℕ, ◌+◌, ◌*◌, ◌<◌, ◌≤◌, arith, true, false, List, [], ◌∷◌, ◌++◌, max, refl, sym, ◌∙◌, ap, subst, inl, inr, Some}
use Rattle.std.proofs.lemmas.List.{append_assoc}
use Rattle.can_frame.specs.declared.identifier.Ident.{Ident}
use Rattle.can_frame.specs.declared.step.What.{What}
use Rattle.can_frame.specs.declared.step.What.TheVariants.{App, AppQ, Vote, VoteQ}
use Rattle.can_frame.specs.Identifier.{identifier_number, identifier_of}
use Rattle.can_frame.specs.Kinds.{is_anonymous, is_service}
use Rattle.raft_model.specs.Lists.{In}
use Rattle.bus_rows.specs.declared.row.Row.{Row}
use Rattle.bus_rows.specs.declared.row.Row.TheVariants.{Rx}
use Rattle.transfer_rx.specs.Acceptance.{is_for}
use Rattle.transfer_rx.specs.Reassembly.{Delivery, Gives, answer}
use Rattle.transfer_rx.specs.Sound.{IsDelivered}
use Rattle.transfer_tx.specs.Run.{of_identifier}
use Rattle.alloc_spec.specs.Accepted.{rows as accepted_rows, setting_for}
use Rattle.alloc_spec.specs.AllocatorState.{AllocatorState}
use Rattle.alloc_spec.specs.Step.{step}
use Rattle.alloc_spec.specs.Transfers.{Offer, SentTransfer, ident_of, kind_of, number_of}
use Rattle.bus_agreement.specs.Safe.{IsDeliveredTo, IsOneTransfer}
use Rattle.bus_agreement.specs.Shows.{Shows}
use Rattle.bus_agreement.proofs.Concatenations.{first_harmless, row_harmless}
use Rattle.bus_agreement.proofs.Idents.{IsWanted, ident_ok, service_is}
use Rattle.service_leader.proofs.HeardIdents.{is_wanted, not_own}
use Rattle.bus_agreement.proofs.WholeTransfers.{members_own}
use Rattle.bus_rows.specs.Timed.{Timed, rows_in}
use Rattle.service_alone.specs.Calm.{Pace}
use Rattle.service_alone.proofs.Goes.{after_both}
use Rattle.service_alone.proofs.Members.{IsUp}
use Rattle.service_calm.specs.Calm.{AreCalm, IsCalmRow, IsRunning, Member as OfMember, Party, no_traffic}
use Rattle.service_calm.specs.Comes.{Sends, sent_by}
use Rattle.service_calm.specs.CalmBelow.{CalmGrounds}
use Rattle.service_calm.proofs.Grounds.{calm_laws, choice, its_run, shown, well}
use Rattle.service_calm.proofs.Group.{AreWell, IsOf}
use Rattle.service_calm.proofs.Others.{some_ident}
use Rattle.service_calm.proofs.Pair.{same_server}
use Rattle.service_leader.proofs.RowsOfOne.{stepped_up}
use Rattle.service_leader.proofs.Stretches.{GoesOnFrom, calm_first, harmless_both, rows_both, world_both}
use Rattle.service_candidate.proofs.MadeInCalm.{IsMadeIn, made_later}
use Rattle.service_elections.specs.Running.{IsCalmOf}
use Rattle.service_elections.proofs.HeardFrames.{next_comes}
use Rattle.service_elections.proofs.HeardRows.{AreCounted, FliesSo, GoesOn, Halves, IsOfRaft, begins, counted_so, further, halves}
use Rattle.alloc_spec.specs.ClusterMembers.{AreMembers}
use Rattle.bus_spec.specs.Cluster.{Cluster, after_row, after_rows, arrival_at, cluster, frame_at, world_of}
use Rattle.bus_spec.specs.Lawful.{DoNoHarm, DoesNoHarm, is_forged}
use Rattle.bus_spec.specs.Members.MemberStatus.{Up}
use Rattle.bus_spec.specs.Refinement.{transfers_of_rows}

-- In one of these rows, which is at most so long before this moment, another member of the group sends member m a
-- transfer of this sort, of which the delivery is.
pub record WasSent (group : List Party) (within m : ℕ) (what : What) (d : Delivery) (last : ℕ) (w : Cluster) (front : List Timed) : Type 0 where
  pub first : List Timed
  pub timed : Timed
  pub more : List Timed
  pub split : front ≡ first ++ timed ∷ more
  pub lately : last ≤ timed.at + within
  pub n : ℕ
  pub member : In (OfMember n) group
  pub other : n ≢ m
  pub source : d.ident.source ≡ n
  pub offer : Offer
  pub sends : Sends n (after_rows w (rows_in first)) timed.row offer
  pub what_is : offer.what ≡ what
  pub to : offer.to ≡ m
  pub payload : offer.payload ≡ d.payload

-- ---- messages of Raft

of_service : (what : What) → IsOfRaft what → is_service (kind_of what) ≡ true
of_service what (inl (inl e)) = ap (λ (x : What). is_service (kind_of x)) e
of_service what (inl (inr e)) = ap (λ (x : What). is_service (kind_of x)) e
of_service what (inr (inl e)) = ap (λ (x : What). is_service (kind_of x)) e
of_service what (inr (inr e)) = ap (λ (x : What). is_service (kind_of x)) e

of_node : (what : What) → IsOfRaft what → is_anonymous (kind_of what) ≡ false
of_node what (inl (inl e)) = ap (λ (x : What). is_anonymous (kind_of x)) e
of_node what (inl (inr e)) = ap (λ (x : What). is_anonymous (kind_of x)) e
of_node what (inr (inl e)) = ap (λ (x : What). is_anonymous (kind_of x)) e
of_node what (inr (inr e)) = ap (λ (x : What). is_anonymous (kind_of x)) e

module _ (below : CalmGrounds) (ids : List ℕ) (members : AreMembers ids) (rows : List Row) (harmless : DoNoHarm (cluster ids) rows) (group : List Party) (clocks : Party → ℕ) (pace : Pace)
    (start : ℕ) (whole : List Timed) (calm : IsCalmOf ids rows group clocks pace start whole) where
  abbrev pub w : Cluster
  w = world_of ids rows

  abbrev pub nodes : (p : ℕ) → In (OfMember p) group → (1 ≤ p) × (p ≤ 125)
  nodes p i = members.nodes p (calm.listed p i)

  abbrev pub there : List Timed → Cluster
  there front = after_rows (world_of ids rows) (rows_in front)

  are : AreWell group w
  are = well below ids members rows harmless group calm.listed calm.running

  -- no frame of such a transfer between two of the group waits when the calm begins
  none_waits : (n m : ℕ) → In (OfMember n) group → In (OfMember m) group → n ≢ m → (t : AllocatorState) → (w.member n).status ≡ Up t → (what : What)
      → IsOfRaft what → of_identifier (identifier_number (ident_of n what m)) t.queue ≡ []
  none_waits n m i j apart t up what (inl (inl e)) =
      let can = (calm.ask n m i j apart).calls in
      subst (λ (x : What). of_identifier (identifier_number (ident_of n x m)) t.queue ≡ []) (sym e)
      (subst (λ (s : AllocatorState). of_identifier (identifier_number (ident_of n VoteQ m)) s.queue ≡ []) (same_server can.sender t (sym can.sends ∙ up)) can.none_waits)
  none_waits n m i j apart t up what (inl (inr e)) =
      let can = (calm.ask m n j i (λ same. apart (sym same))).answers in
      subst (λ (x : What). of_identifier (identifier_number (ident_of n x m)) t.queue ≡ []) (sym e)
      (subst (λ (s : AllocatorState). of_identifier (identifier_number (ident_of n Vote m)) s.queue ≡ []) (same_server can.sender t (sym can.sends ∙ up)) can.none_waits)
  none_waits n m i j apart t up what (inr (inl e)) =
      let can = (calm.exchange n m i j apart).calls in
      subst (λ (x : What). of_identifier (identifier_number (ident_of n x m)) t.queue ≡ []) (sym e)
      (subst (λ (s : AllocatorState). of_identifier (identifier_number (ident_of n AppQ m)) s.queue ≡ []) (same_server can.sender t (sym can.sends ∙ up)) can.none_waits)
  none_waits n m i j apart t up what (inr (inr e)) =
      let can = (calm.exchange m n j i (λ same. apart (sym same))).answers in
      subst (λ (x : What). of_identifier (identifier_number (ident_of n x m)) t.queue ≡ []) (sym e)
      (subst (λ (s : AllocatorState). of_identifier (identifier_number (ident_of n App m)) s.queue ≡ []) (same_server can.sender t (sym can.sends ∙ up)) can.none_waits)

  -- ---- behind a front of the calm

  module _ (front rest : List Timed) (timed : Timed) (cut : whole ≡ front ++ timed ∷ rest) where
    calm_cut : AreCalm group clocks pace (no_traffic start) w (front ++ timed ∷ rest)
    calm_cut = subst (AreCalm group clocks pace (no_traffic start) w) cut calm.calm

    harm_cut : DoNoHarm w (rows_in front ++ (timed.row ∷ rows_in rest))
    harm_cut = subst (DoNoHarm w) (ap rows_in cut ∙ rows_both front (timed ∷ rest)) calm.harmless

    pub harm_row : DoesNoHarm (there front) timed.row
    harm_row = row_harmless w (rows_in front) (rows_in rest) timed.row harm_cut

    harm_front : DoNoHarm w (rows_in front)
    harm_front = first_harmless w (rows_in front) (timed.row ∷ rows_in rest) harm_cut

    -- all rows up to here
    pub harm_there : DoNoHarm (cluster ids) (rows ++ rows_in front)
    harm_there = harmless_both (cluster ids) rows (rows_in front) harmless harm_front

    pub reached : world_of ids (rows ++ rows_in front) ≡ there front
    reached = after_both (cluster ids) rows (rows_in front)

    from : GoesOnFrom group clocks pace start w front
    from = calm_first group clocks pace front (timed ∷ rest) start w
        (record { traffic = no_traffic start; calm = calm_cut; at_end = refl; ticked = λ party. omega arith })

    its_halves : Halves pace.delay timed.at front
    its_halves = halves group clocks pace timed.at front start w from

    abbrev base : ℕ
    base = (there its_halves.early).rows

    goes : GoesOn (calm_laws below) group nodes clocks pace timed.at base (there front) (timed ∷ rest)
    goes = further (calm_laws below) group nodes clocks pace timed.at base front (timed ∷ rest) w
        (begins (calm_laws below) group nodes clocks pace timed.at base start w (front ++ timed ∷ rest) are calm_cut none_waits) harm_front
        (subst (AreCounted (calm_laws below) group nodes clocks pace timed.at base w) (sym its_halves.split)
        (counted_so (calm_laws below) group nodes clocks pace timed.at base its_halves.early its_halves.late w its_halves.before (omega arith)))

    pub well_there : AreWell group (there front)
    well_there = goes.well

    pub running_there : (p : ℕ) → In (OfMember p) group → IsRunning p (there front)
    running_there p i = let is = well_there.members p i in
        record { server = is.server; runs = is.up.status; faults = is.up.quiet.faults; disk = is.up.quiet.calls }

    pub me_there : (p : ℕ) → In (OfMember p) group → (t : AllocatorState) → ((there front).member p).status ≡ Up t → t.me ≡ p
    me_there p i t runs = let is = well_there.members p i in
        ap (λ (s : AllocatorState). s.me) (same_server t is.server (sym runs ∙ is.up.status)) ∙ is.its.me

    in_there : (p : ℕ) → In (OfMember p) group → In p (there front).ids
    in_there p i = subst (λ (l : List ℕ). In p l) (sym (sym (ap (λ (v : Cluster). v.ids) reached) ∙ below.same (cluster ids) (rows ++ rows_in front))) (calm.listed p i)

    -- ---- a delivery

    module _ (m : ℕ) (in_m : In (OfMember m) group) (k ms : ℕ) (comes : timed.row ≡ Rx m k ms) (t : AllocatorState) (runs : ((there front).member m).status ≡ Up t)
        (d : Delivery) (gives : answer (setting_for t.me) t.sessions (arrival_at (frame_at (there front).frames k) (max t.now ms)) ≡ Gives d) (what : What)
        (is_raft : IsOfRaft what) (kind : kind_of what ≡ d.ident.kind)
        (only : (other : What) → kind_of other ≡ d.ident.kind → number_of other ≡ d.ident.number → other ≡ what) where
      me : t.me ≡ m
      me = me_there m in_m t runs

      its : IsDelivered (setting_for t.me) t.sessions (arrival_at (frame_at (there front).frames k) (max t.now ms)) d
      its = below.frame.delivered (setting_for t.me) t.sessions (arrival_at (frame_at (there front).frames k) (max t.now ms)) d gives

      wants : IsWanted accepted_rows t.me (frame_at (there front).frames k).id d.ident
      wants = is_wanted below.frame t.me t.sessions (arrival_at (frame_at (there front).frames k) (max t.now ms)) d gives

      for_me : is_for m d.ident ≡ true
      for_me = subst (λ (n : ℕ). is_for n d.ident ≡ true) me wants.for_me

      service : is_service d.ident.kind ≡ true
      service = sym (ap is_service kind) ∙ of_service what is_raft

      known : is_anonymous d.ident.kind ≡ false
      known = sym (ap is_anonymous kind) ∙ of_node what is_raft

      coming : (since : ℕ) × (timed.at ≤ since + pace.delay) × FliesSo (calm_laws below) group nodes clocks pace timed.at base since (frame_at (there front).frames k)
      coming = next_comes (FliesSo (calm_laws below) group nodes clocks pace timed.at base) (there front).frames k (goes.traffic.to (OfMember m)) timed.at pace.delay
          (subst (λ (row : Row). IsCalmRow group clocks pace goes.traffic (there front) timed.at row) comes goes.calm.1).2
          (goes.calm.0.hears (OfMember m) in_m) (goes.flies (OfMember m))

      -- where it is of this member of the group
      module _ (p : ℕ) (in_p : In (OfMember p) group) (own : IsOf p (frame_at (there front).frames k)) where
        same : d.ident ≡ ident_of p own.what own.to
        same = let node = nodes p in_p in
            some_ident d.ident (ident_of p own.what own.to)
            (sym wants.read ∙ (ap identifier_of own.id ∙ below.frame.ident_read (ident_of p own.what own.to) (ident_ok p own.what own.to node.0 node.1 own.dest)))

        source_is : d.ident.source ≡ p
        source_is = ap (λ (j : Ident). j.source) same

        apart : p ≢ m
        apart e = not_own m d.ident (nodes m in_m).0 for_me (source_is ∙ e)

        what_is : own.what ≡ what
        what_is = only own.what (sym (ap (λ (j : Ident). j.kind) same)) (sym (ap (λ (j : Ident). j.number) same))

        to_is : own.to ≡ m
        to_is = sym (ap (λ (j : Ident). j.dest) same) ∙ service_is m (nodes m in_m).0 d.ident service for_me

        -- it is of a message of Raft between the two
        id_is : (frame_at (there front).frames k).id ≡ identifier_number (ident_of p what m)
        id_is = own.id ∙ (λ i. identifier_number (ident_of p (what_is i) (to_is i)))

        forged : is_forged (there front).ids (Some d.ident) ≡ true
        forged = members_own (there front).ids d.ident (subst (λ (n : ℕ). In n (there front).ids) (sym source_is) (in_there p in_p)) known

        delivered : IsDeliveredTo (there front) m k ms d
        delivered = record { server = t; runs = runs; gives = gives; member = forged }

        abbrev Made : List SentTransfer
        Made = transfers_of_rows (cluster ids) (rows ++ rows_in front) []

        members_there : AreMembers (there front).ids
        members_there = subst AreMembers (sym (sym (ap (λ (v : Cluster). v.ids) reached) ∙ below.same (cluster ids) (rows ++ rows_in front))) members

        one : IsOneTransfer Made (its_run below ids members (rows ++ rows_in front) harm_there).bag m d
        one =
            let its_choice = choice below ids members (rows ++ rows_in front) harm_there in
            let run = its_run below ids members (rows ++ rows_in front) harm_there in
            below.one_transfer its_choice Made (there front) run members_there
            (subst (λ (v : Cluster). Shows its_choice Made v run) reached (shown below ids members (rows ++ rows_in front) harm_there).shows) m k ms d
            (subst (DoesNoHarm (there front)) comes harm_row) delivered

        abbrev x : SentTransfer
        x = one.whose

        -- ---- when it was made

        harm_early : DoNoHarm (cluster ids) (rows ++ rows_in its_halves.early)
        harm_early = harmless_both (cluster ids) rows (rows_in its_halves.early) harmless (first_harmless w (rows_in its_halves.early) (rows_in its_halves.late)
            (subst (DoNoHarm w) (ap rows_in its_halves.split ∙ rows_both its_halves.early its_halves.late) harm_front))

        reached_early : world_of ids (rows ++ rows_in its_halves.early) ≡ there its_halves.early
        reached_early = after_both (cluster ids) rows (rows_in its_halves.early)

        all_rows : (a b c : List Row) → a ++ (b ++ c) ≡ (a ++ b) ++ c
        all_rows a b c = sym (append_assoc a b c)

        made_so : In x (transfers_of_rows (cluster ids) ((rows ++ rows_in its_halves.early) ++ rows_in its_halves.late) [])
        made_so = subst (λ (l : List Row). In x (transfers_of_rows (cluster ids) l []))
            (ap (λ (l : List Row). rows ++ l) (ap rows_in its_halves.split ∙ rows_both its_halves.early its_halves.late)
            ∙ all_rows rows (rows_in its_halves.early) (rows_in its_halves.late))
            one.was_made

        late_made : base < (frame_at (there front).frames k).mark.step → base < x.step
        late_made late = let a = one.its.step in let b = ap (λ f. f.step) its.mark in omega (arith, a, b, late)

        made_then : base < (frame_at (there front).frames k).mark.step → IsMadeIn x (there its_halves.early) its_halves.late
        made_then late = subst (λ (v : Cluster). IsMadeIn x v its_halves.late) reached_early
            (made_later (cluster ids) (rows ++ rows_in its_halves.early) its_halves.late x (shown below ids members (rows ++ rows_in its_halves.early) harm_early).shows.past
            (subst (λ (v : Cluster). v.rows < x.step) (sym reached_early) (late_made late)) made_so)

        -- the transfer that is delivered
        sent_then : IsMadeIn x (there its_halves.early) its_halves.late → WasSent group (2 * pace.delay) m what d timed.at w front
        sent_then made = record {
          first = its_halves.early ++ made.first;
          timed = made.timed;
          more = made.more;
          split = its_halves.split ∙ (ap (λ (l : List Timed). its_halves.early ++ l) made.split ∙ sym (append_assoc its_halves.early made.first (made.timed ∷ made.more)));
          lately = its_halves.behind made.timed (subst (In made.timed) (sym made.split) (in_middle made.first));
          n = x.by;
          member = subst (λ (n : ℕ). In (OfMember n) group) (sym by_is) in_p;
          other = λ e. apart (sym by_is ∙ e);
          source = sym one.its.by;
          offer = x.offer;
          sends = subst (λ (v : Cluster). Sends x.by v made.timed.row x.offer) (sym (world_both w its_halves.early made.first)) (record {
            server = made.makes.server;
            runs = made.makes.runs;
            event = made.makes.event;
            in_step = made.makes.in_step;
            offered = made.makes.offered;
            fitted = made.makes.fitted;
          });
          what_is = only x.offer.what one.its.kind one.its.number;
          to = one.for_it service;
          payload = one.its.payload;
        }
          where
            by_is : x.by ≡ p
            by_is = one.its.by ∙ source_is

            in_middle : (first : List Timed) → In made.timed (first ++ made.timed ∷ made.more)
            in_middle [] = inl refl
            in_middle (f ∷ first) = inr (in_middle first)

      -- who sent it did it shortly before
      pub was_sent : WasSent group (2 * pace.delay) m what d timed.at w front
      was_sent = elim coming.2 [
        | inl (p, in_p, own, which) ↦ elim which [
          | inl none ↦ absurd (none m in_m (apart p in_p own) what is_raft (id_is p in_p own))
          | inr (inl late) ↦ sent_then p in_p own (made_then p in_p own late)
          | inr (inr early) ↦ (let soon = coming.1 in absurd (omega (arith, early, soon)))
        ]
        | inr none ↦ absurd (cc (
            sym (ap (λ (j : Ident). is_anonymous j.kind) (some_ident d.ident none.ident (sym wants.read ∙ none.read)) ∙ ap is_anonymous none.kind) ∙ known))
      ]

  -- ---- who sent it

  module _ (front rest : List Timed) (timed : Timed) (cut : whole ≡ front ++ timed ∷ rest) (within m : ℕ) (what : What) (d : Delivery) (last : ℕ)
      (its : WasSent group within m what d last w front) where
    pub cut_before : whole ≡ its.first ++ its.timed ∷ (its.more ++ timed ∷ rest)
    cut_before = cut ∙ (ap (λ (l : List Timed). l ++ timed ∷ rest) its.split ∙ append_assoc its.first (its.timed ∷ its.more) (timed ∷ rest))

    abbrev before : Cluster
    before = there its.first

    running_then : IsRunning its.n before
    running_then = running_there its.first (its.more ++ timed ∷ rest) its.timed cut_before its.n its.member

    -- it runs behind its row
    pub up_then : IsUp (step its.sends.server (before.rows + 1) its.sends.event).step_state.allocator ((after_row before its.timed.row).member its.n)
    up_then = stepped_up before its.n its.sends.server (record { status = its.sends.runs; quiet = record { faults = running_then.faults; calls = running_then.disk } })
        its.timed.row its.sends.event its.sends.in_step

    -- what is read of each such transfer is read of this one
    pub reads_so : (Reads : SentTransfer → Type 0)
        → ((list : List Row) → DoNoHarm (cluster ids) list → (n : ℕ) (row : Row) (offer : Offer) → DoesNoHarm (world_of ids list) row
        → IsRunning n (world_of ids list) → Sends n (world_of ids list) row offer → offer.what ≡ what → Reads (sent_by n (world_of ids list) offer))
        → Reads (sent_by its.n before its.offer)
    reads_so Reads law = subst (λ (v : Cluster). (n : ℕ) (row : Row) (offer : Offer) → DoesNoHarm v row → IsRunning n v → Sends n v row offer → offer.what ≡ what
        → Reads (sent_by n v offer)) (reached its.first (its.more ++ timed ∷ rest) its.timed cut_before)
        (law (rows ++ rows_in its.first) (harm_there its.first (its.more ++ timed ∷ rest) its.timed cut_before)) its.n its.timed.row its.offer
        (harm_row its.first (its.more ++ timed ∷ rest) its.timed cut_before) running_then its.sends its.what_is
