-- Who gives its vote gives it to one that has stood in the calm, and whose log is not behind its own.
use Rattle.std.proofs.Common.{◌≡◌, ◌≢◌, ℕ, ◌+◌, ◌<◌, ◌≤◌, arith, Bool, true, false, List, [], ◌∷◌, ◌++◌, length, refl, sym, ◌∙◌, ap, subst, inl, inr, append_assoc, Some}
use Rattle.std.specs.Prelude.{◌==◌, ◌&&◌, ◌||◌, nat_le, nat_lt}
use Rattle.can_frame.specs.declared.entry.Entry.{Entry}
use Rattle.can_frame.specs.declared.step.What.TheVariants.{VoteQ}
use Rattle.can_frame.specs.Log.{last_term}
use Rattle.dsdl_codec.specs.declared.vote_request.VoteRequest.{VoteRequest}
use Rattle.dsdl_codec.specs.VoteRequest.{vote_request_of}
use Rattle.raft_core.specs.Handled as handled
use Rattle.raft_model.specs.Decisions.{grants, is_free, is_not_above}
use Rattle.raft_model.specs.Lists.{In}
use Rattle.raft_model.specs.Log.{NotAbove}
use Rattle.raft_model.specs.Messages.{Request}
use Rattle.raft_model.specs.Moves.Elections.{with_term}
use Rattle.raft_model.specs.Runs as raft
use Rattle.raft_model.specs.Server.{Put, Store, put_all}
use Rattle.raft_model.specs.Server.Role.{Candidate, Follower}
use Rattle.bus_rows.specs.declared.row.Row.{Row}
use Rattle.alloc_spec.specs.AllocatorState.{AllocatorState}
use Rattle.alloc_spec.specs.Step.{step}
use Rattle.alloc_spec.specs.Transfers.{Offer, SentTransfer}
use Rattle.alloc_spec_laws.proofs.Choices.{and_left, and_right, either, eq_true, le_true, lt_true}
use Rattle.bus_agreement.specs.Shows.{Shows}
use Rattle.bus_agreement.proofs.Concatenations.{first_harmless, row_harmless}
use Rattle.bus_agreement.proofs.TakenMessages.{is_vote_request}
use Rattle.service_steps.specs.InTime.{FramesLeaveFollowers}
use Rattle.bus_rows.specs.Timed.{Timed, rows_in}
use Rattle.service_alone.specs.Calm.{Pace}
use Rattle.service_alone.proofs.Goes.{after_both}
use Rattle.service_alone.proofs.Members.{IsUp}
use Rattle.service_calm.specs.Calm.{AreCalm, IsRunning, Member as OfMember, Party, no_traffic}
use Rattle.service_calm.specs.Comes.{Sends, Throughout, sent_by}
use Rattle.service_calm.proofs.Group.{AreWell, CalmLaws, IsWell}
use Rattle.service_calm.proofs.Pair.{same_server}
use Rattle.service_leader.proofs.LeadsOn.{DeliversOne}
use Rattle.service_leader.proofs.RowsOfOne.{stepped_up}
use Rattle.service_leader.proofs.Stretches.{rows_both, throughout_front, world_both}
use Rattle.service_candidate.specs.Elections.{IsCalmRestart}
use Rattle.service_candidate.specs.Terms.{LogsStay, NobodyLeads}
use Rattle.service_candidate.specs.Votes.{VoteReadsAsSaid, VoteRequestsReadAsSaid}
use Rattle.service_candidate.specs.Waits.{GivesVote}
use Rattle.service_candidate.proofs.ElectionsEnd.{all_run, is_opened, none_waits, opened}
use Rattle.service_candidate.proofs.FirstToStand.{at_first}
use Rattle.service_candidate.proofs.MadeInCalm.{IsMadeIn, Reaches, comes_new, made_later, reach}
use Rattle.service_candidate.proofs.Unled.{HasStood, has_stood}
use Rattle.service_candidate.proofs.VotesSaid.{SaysStore, candidates_ask, says_its_store}
use Rattle.alloc_spec.specs.ClusterMembers.{AreMembers}
use Rattle.bus_spec.specs.Cluster.{Cluster, after_row, after_rows, cluster, world_of}
use Rattle.bus_spec.specs.Lawful.{DoNoHarm, DoesNoHarm}
use Rattle.bus_spec.specs.Members.MemberStatus.{Up}
use Rattle.bus_spec.specs.Refinement.{transfers_of_rows}

-- ---- a vote that is granted

not_above : (term index other_term other_index : ℕ) → is_not_above term index other_term other_index ≡ true → NotAbove term index other_term other_index
not_above term index other_term other_index e = by (nat_lt term other_term) refl e
  where
    by : (b : Bool) → nat_lt term other_term ≡ b → (b || ((term == other_term) && nat_le index other_index)) ≡ true → NotAbove term index other_term other_index
    by true l f = inl (lt_true term other_term l)
    by false l f = inr (
      eq_true term other_term (and_left (term == other_term) (nat_le index other_index) f),
      le_true index other_index (and_right (term == other_term) (nat_le index other_index) f),
    )

term_keeps_log : (store : Store) (term : ℕ) → (with_term store term).log ≡ store.log
term_keeps_log store term = either (λ (puts : List Put). (put_all store puts).log ≡ store.log) (nat_lt store.term term) _ [] (λ e. refl) (λ e. refl)

-- its voter's log is not above what the request says
granted_log : (store : Store) (request : Request) → grants (with_term store request.term) request ≡ true
    → NotAbove (last_term store.log) (length store.log) request.previous_term request.previous
granted_log store request e =
    let own : Store = with_term store request.term in
    subst (λ (l : List Entry). NotAbove (last_term l) (length l) request.previous_term request.previous) (term_keeps_log store request.term)
    (not_above (last_term own.log) (length own.log) request.previous_term request.previous
    (and_right (is_free own.vote request.from) (is_not_above (last_term own.log) (length own.log) request.previous_term request.previous)
    (and_right (request.term == own.term) _ e)))

-- ---- fronts, and one row more

-- what holds before all of some rows and behind them holds behind the first of them
pub holds_behind : (Holds : Cluster → Type 0) (first more : List Timed) (w : Cluster) → Throughout Holds w (first ++ more)
    → Holds (after_rows w (rows_in (first ++ more))) → Holds (after_rows w (rows_in first))
holds_behind Holds [] more w all here = at_first Holds more w all here
holds_behind Holds (timed ∷ first) more w all here = holds_behind Holds first more (after_row w timed.row) all.1 here

pub one_more : (first more : List Timed) (timed : Timed) → first ++ timed ∷ more ≡ (first ++ timed ∷ []) ++ more
one_more first more timed = sym (append_assoc first (timed ∷ []) more)

-- ---- a vote in the calm

request_is : (x y : VoteRequest) → Some x ≡ Some y → x ≡ y
request_is x y e = cc e

module _ (ids : List ℕ) (rows : List Row) (group : List Party) (clocks : Party → ℕ) (pace : Pace) (start : ℕ) (whole : List Timed)
    (r : IsCalmRestart ids rows group clocks pace start whole) (members : AreMembers ids) (laws : CalmLaws) (frames_leave : FramesLeaveFollowers)
    (are : AreWell group (world_of ids rows))
    (same_members : (more : List Row) → (world_of ids (rows ++ more)).ids ≡ ids)
    (shown : (more : List Row) → DoNoHarm (world_of ids rows) more
    → (choice : ℕ → Bool) × (run : raft.World) × Shows choice (transfers_of_rows (cluster ids) (rows ++ more) []) (world_of ids (rows ++ more)) run)
    (past : (x : SentTransfer) → In x (transfers_of_rows (cluster ids) rows []) → x.step ≤ (world_of ids rows).rows)
    (one_transfer : DeliversOne) (reads_said : (more : List Row) → DoNoHarm (world_of ids rows) more → VoteRequestsReadAsSaid ids (rows ++ more))
    (logs_stay : LogsStay ids rows) where
  abbrev w : Cluster
  w = world_of ids rows

  nodes : (p : ℕ) → In (OfMember p) group → (1 ≤ p) × (p ≤ 125)
  nodes p i = members.nodes p (r.listed p i)

  abbrev its : (m : ℕ) → In (OfMember m) group → AllocatorState
  its m i = opened ids rows group clocks pace start whole r m i

  module _ (front rest : List Timed) (cut : whole ≡ front ++ rest) where
    pub calm_at : AreCalm group clocks pace (no_traffic start) (world_of ids rows) (front ++ rest)
    calm_at = subst (AreCalm group clocks pace (no_traffic start) (world_of ids rows)) cut r.calm

    pub harmless_at : DoNoHarm (world_of ids rows) (rows_in front)
    harmless_at = first_harmless (world_of ids rows) (rows_in front) (rows_in rest)
        (subst (DoNoHarm (world_of ids rows)) (ap rows_in cut ∙ rows_both front rest) r.harmless)

    -- all that is on its way there was made in the calm
    reaches : Reaches laws group nodes clocks pace w.rows (after_rows w (rows_in front)) rest
    reaches = reach laws group nodes clocks pace w.rows front rest w (record {
      traffic = no_traffic start;
      calm = calm_at;
      are = are;
      flies = λ party. refl;
      new = record {
        on = omega arith;
        queues = λ p i t up frame. subst (λ (s : AllocatorState). In frame s.queue → (world_of ids rows).rows < frame.mark.step)
            (is_opened ids rows group clocks pace start whole r p i t up) (λ j. absurd j);
      };
    }) harmless_at

    -- while nobody leads, a log stays as it was
    pub log_at : Throughout (NobodyLeads group) (world_of ids rows) front → NobodyLeads group (after_rows (world_of ids rows) (rows_in front))
        → (m : ℕ) → (i : In (OfMember m) group) → (server : AllocatorState) → ((after_rows (world_of ids rows) (rows_in front)).member m).status ≡ Up server
        → server.raft_server.store.log ≡ (its m i).raft_server.store.log
    log_at nobody here m i server up = (logs_stay group clocks pace start m front rest (its m i) server r.listed (all_run ids rows group clocks pace start whole r)
        (none_waits ids rows group clocks pace start whole r) calm_at i nobody here (r.opened m i).runs up).0

    -- who follows no more has stood
    pub stood_at : (m : ℕ) → (i : In (OfMember m) group) → (server : AllocatorState) → ((after_rows (world_of ids rows) (rows_in front)).member m).status ≡ Up server
        → server.raft_server.memory.role ≢ Follower → HasStood m (world_of ids rows) front
    stood_at m i server up not_so = has_stood laws.more.size frames_leave (length ids) r.others group clocks pace m front rest w (record {
      traffic = no_traffic start;
      calm = calm_at;
      runs = record {
        server = its m i;
        up = record { status = (r.opened m i).runs; quiet = record { faults = (r.opened m i).faults; calls = (r.opened m i).disk } };
        holds = refl;
      };
    }) harmless_at refl server up not_so

  module _ (front rest : List Timed) (timed : Timed) (cut : whole ≡ front ++ timed ∷ rest) (nobody : Throughout (NobodyLeads group) (world_of ids rows) front)
      (here : NobodyLeads group (after_rows (world_of ids rows) (rows_in front))) (f : ℕ) (in_f : In (OfMember f) group)
      (gives : GivesVote f (after_rows (world_of ids rows) (rows_in front)) timed.row) where
    -- for whom the vote is
    pub record IsVoteFor : Type 0 where
      pub n : ℕ
      pub member : In (OfMember n) group
      pub stood : HasStood n (world_of ids rows) front
      pub not_behind : NotAbove (last_term (its f in_f).raft_server.store.log) (length (its f in_f).raft_server.store.log)
          (last_term (its n member).raft_server.store.log) (length (its n member).raft_server.store.log)

    -- of a request that was made in this row
    from_row : (x : SentTransfer) → (i : In (OfMember x.by) group) → x.offer.what ≡ VoteQ → x.offer.payload ≡ gives.delivery.payload → IsMadeIn x (world_of ids rows) front
        → IsVoteFor
    from_row x i what payload made = record {
      n = x.by;
      member = i;
      stood = record {
        first = stood.first;
        timed = stood.timed;
        more = stood.more ++ made.more;
        split = made.split ∙ (one_more made.first made.more made.timed
            ∙ (ap (λ (l : List Timed). l ++ made.more) stood.split ∙ append_assoc stood.first (stood.timed ∷ stood.more) made.more));
        term = stood.term;
        stands = stood.stands;
      };
      not_behind = subst (λ (l : List Entry). NotAbove (last_term l) (length l) (last_term (its x.by i).raft_server.store.log) (length (its x.by i).raft_server.store.log))
          (log_at front (timed ∷ rest) cut nobody here f in_f gives.server gives.runs)
          (subst (λ (l : List Entry). NotAbove (last_term gives.server.raft_server.store.log) (length gives.server.raft_server.store.log) (last_term l) (length l))
          (log_at upto behind cut_upto nobody_upto here_upto x.by i after up_then)
          (subst (λ (k : ℕ). NotAbove (last_term gives.server.raft_server.store.log) (length gives.server.raft_server.store.log) k
          (length after.raft_server.store.log)) (ap (λ (q : VoteRequest). q.last_term) (sym same) ∙ says.last_term_is)
          (subst (λ (k : ℕ). NotAbove (last_term gives.server.raft_server.store.log) (length gives.server.raft_server.store.log) gives.request.last_term k)
          (ap (λ (q : VoteRequest). q.last_index) (sym same) ∙ says.last)
          (granted_log gives.server.raft_server.store (handled.vote_request_of gives.request gives.delivery.mark.step gives.delivery.ident.source f) gives.grants_it))));
    }
      where
        v : Cluster
        v = after_rows (world_of ids rows) (rows_in made.first)

        upto : List Timed
        upto = made.first ++ made.timed ∷ []

        behind : List Timed
        behind = made.more ++ timed ∷ rest

        cut_front : front ≡ (made.first ++ made.timed ∷ []) ++ made.more
        cut_front = made.split ∙ one_more made.first made.more made.timed

        cut_upto : whole ≡ (made.first ++ made.timed ∷ []) ++ (made.more ++ timed ∷ rest)
        cut_upto = cut ∙ (ap (λ (l : List Timed). l ++ timed ∷ rest) cut_front ∙ append_assoc (made.first ++ made.timed ∷ []) made.more (timed ∷ rest))

        cut_first : whole ≡ made.first ++ (made.timed ∷ made.more ++ timed ∷ rest)
        cut_first = cut ∙ (ap (λ (l : List Timed). l ++ timed ∷ rest) made.split ∙ append_assoc made.first (made.timed ∷ made.more) (timed ∷ rest))

        nobody_all : Throughout (NobodyLeads group) (world_of ids rows) ((made.first ++ made.timed ∷ []) ++ made.more)
        nobody_all = subst (Throughout (NobodyLeads group) (world_of ids rows)) cut_front nobody

        nobody_upto : Throughout (NobodyLeads group) (world_of ids rows) (made.first ++ made.timed ∷ [])
        nobody_upto = throughout_front (NobodyLeads group) (made.first ++ made.timed ∷ []) made.more (world_of ids rows) nobody_all

        here_upto : NobodyLeads group (after_rows (world_of ids rows) (rows_in (made.first ++ made.timed ∷ [])))
        here_upto = holds_behind (NobodyLeads group) (made.first ++ made.timed ∷ []) made.more (world_of ids rows) nobody_all
            (subst (λ (l : List Timed). NobodyLeads group (after_rows (world_of ids rows) (rows_in l))) cut_front here)

        well : IsWell x.by ((after_rows (world_of ids rows) (rows_in made.first)).member x.by)
        well = (reaches made.first (made.timed ∷ made.more ++ timed ∷ rest) cut_first).are.members x.by i

        same_up : well.server ≡ made.makes.server
        same_up = same_server well.server made.makes.server (sym well.up.status ∙ made.makes.runs)

        after : AllocatorState
        after = (step made.makes.server ((after_rows (world_of ids rows) (rows_in made.first)).rows + 1) made.makes.event).step_state.allocator

        up_step : IsUp (step made.makes.server ((after_rows (world_of ids rows) (rows_in made.first)).rows + 1) made.makes.event).step_state.allocator
            ((after_row (after_rows (world_of ids rows) (rows_in made.first)) made.timed.row).member x.by)
        up_step = stepped_up (after_rows (world_of ids rows) (rows_in made.first)) x.by made.makes.server
            (subst (λ (t : AllocatorState). IsUp t ((after_rows (world_of ids rows) (rows_in made.first)).member x.by)) same_up well.up)
            made.timed.row made.makes.event made.makes.in_step

        up_then : ((after_rows (world_of ids rows) (rows_in (made.first ++ made.timed ∷ []))).member x.by).status ≡ Up after
        up_then = ap (λ (u : Cluster). (u.member x.by).status) (world_both (world_of ids rows) made.first (made.timed ∷ [])) ∙ up_step.status

        stands_for : after.raft_server.memory.role ≡ Candidate
        stands_for = candidates_ask made.makes.server ((after_rows (world_of ids rows) (rows_in made.first)).rows + 1) made.makes.event x.offer made.makes.offered what

        stood : HasStood x.by (world_of ids rows) (made.first ++ made.timed ∷ [])
        stood = stood_at (made.first ++ made.timed ∷ []) (made.more ++ timed ∷ rest) cut_upto x.by i after up_then (λ follows. cc (sym stands_for ∙ follows))

        harm_row : DoesNoHarm (after_rows (world_of ids rows) (rows_in made.first)) made.timed.row
        harm_row = row_harmless (world_of ids rows) (rows_in made.first) (rows_in (made.more ++ timed ∷ rest)) made.timed.row
            (subst (DoNoHarm (world_of ids rows)) (ap rows_in cut_first ∙ rows_both made.first (made.timed ∷ made.more ++ timed ∷ rest)) r.harmless)

        sends : Sends x.by (after_rows (world_of ids rows) (rows_in made.first)) made.timed.row x.offer
        sends = record {
          server = made.makes.server;
          runs = made.makes.runs;
          event = made.makes.event;
          in_step = made.makes.in_step;
          offered = made.makes.offered;
          fitted = made.makes.fitted;
        }

        running : IsRunning x.by (after_rows (world_of ids rows) (rows_in made.first))
        running = record { server = well.server; runs = well.up.status; faults = well.up.quiet.faults; disk = well.up.quiet.calls }

        read : VoteReadsAsSaid (sent_by x.by (after_rows (world_of ids rows) (rows_in made.first)) x.offer)
        read = subst (λ (u : Cluster). (n : ℕ) (row : Row) (offer : Offer) → DoesNoHarm u row → IsRunning n u → Sends n u row offer → offer.what ≡ VoteQ
            → VoteReadsAsSaid (sent_by n u offer)) (after_both (cluster ids) rows (rows_in made.first))
            (reads_said (rows_in made.first) (harmless_at made.first (made.timed ∷ made.more ++ timed ∷ rest) cut_first))
            x.by made.timed.row x.offer harm_row running sends what

        same : read.request ≡ gives.request
        same = request_is read.request gives.request (sym read.read ∙ (ap vote_request_of payload ∙ gives.read))

        says : SaysStore after.raft_server.store (handled.vote_request_of read.request ((after_rows (world_of ids rows) (rows_in made.first)).rows + 1) x.by x.offer.to)
        says = says_its_store made.makes.server ((after_rows (world_of ids rows) (rows_in made.first)).rows + 1) made.makes.event x.offer made.makes.offered what
            (handled.vote_request_of read.request ((after_rows (world_of ids rows) (rows_in made.first)).rows + 1) x.by x.offer.to) read.said

    -- so it is for one that stood
    pub vote_for : IsVoteFor
    vote_for =
        let no_harm = harmless_at front (timed ∷ rest) cut in
        let e = after_both (cluster ids) rows (rows_in front) in
        let run = shown (rows_in front) no_harm in
        let there_ids = sym (ap (λ (u : Cluster). u.ids) e) ∙ same_members (rows_in front) in
        let made : List SentTransfer = transfers_of_rows (cluster ids) (rows ++ rows_in front) [] in
        let shows : Shows run.0 made (after_rows (world_of ids rows) (rows_in front)) run.1 = subst (λ (u : Cluster). Shows run.0 made u run.1) e run.2 in
        let row_fine = row_harmless (world_of ids rows) (rows_in front) (rows_in rest) timed.row
        (subst (DoNoHarm (world_of ids rows)) (ap rows_in cut ∙ rows_both front (timed ∷ rest)) r.harmless) in
        let x = comes_new laws group nodes clocks pace (world_of ids rows).rows (after_rows (world_of ids rows) (rows_in front)) f timed rest
        (reaches front (timed ∷ rest) cut) (λ p i. subst (λ (l : List ℕ). In p l) (sym there_ids) (r.listed p i)) in_f gives made run.1
        (λ k ms d harm is. one_transfer run.0 made (after_rows (world_of ids rows) (rows_in front)) run.1 (subst AreMembers (sym there_ids) members) shows f k ms d harm is)
        row_fine in
        let number = x.6 in let thirty_one = gives.number in
        from_row x.0 x.2 (is_vote_request x.0.offer.what x.4 (λ k. omega (arith, number, thirty_one, k)) (λ k. omega (arith, number, thirty_one, k))) x.5
        (made_later (cluster ids) rows front x.0 past x.3 x.1)
