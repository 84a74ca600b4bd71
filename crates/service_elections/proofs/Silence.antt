-- Where there was silence in the group for long enough, a row changes nothing of a member that does not lead and does not
-- stand for election.
use Rattle.std.proofs.Common.{◌≡◌, ◌≢◌, ℕ, ◌+◌, ◌*◌, ◌<◌, ◌≤◌, arith, List, [], ◌∷◌, ◌++◌, append-nil, length, max, refl, sym, ◌∙◌, ap, subst, inl, inr, Some}
use Rattle.std.proofs.lemmas.Bool.Decides.{eqb_tells}
use Rattle.std.proofs.lemmas.List.{append_assoc}
use Rattle.can_frame.specs.declared.identifier.Kind.TheVariants.{Request as RequestKind, Response}
use Rattle.can_frame.specs.declared.step.What.{What}
use Rattle.can_frame.specs.declared.step.What.TheVariants.{App, AppQ, Vote, VoteQ}
use Rattle.cluster_discovery.specs.Members.{IsStart}
use Rattle.raft_core.specs.Times.{Times}
use Rattle.raft_model.specs.Lists.{In}
use Rattle.raft_model.specs.Server.{RaftServer}
use Rattle.raft_model.specs.Server.Role.{Leader}
use Rattle.bus_rows.specs.declared.row.Row.{Row}
use Rattle.bus_rows.specs.declared.row.Row.TheVariants.{Rx}
use Rattle.transfer_rx.specs.Reassembly.{Delivery, Gives, answer}
use Rattle.alloc_spec.specs.Accepted.{setting_for}
use Rattle.alloc_spec.specs.AllocatorState.{AllocatorState, start_of}
use Rattle.alloc_spec.specs.Step.{Event, moment_of}
use Rattle.alloc_spec.specs.Transfers.{kind_of, number_of}
use Rattle.alloc_spec_laws.specs.Responses.{IsResponse}
use Rattle.bus_agreement.proofs.TakenMessages.{is_append, is_append_request, is_vote, is_vote_request}
use Rattle.bus_rows.specs.Timed.{Timed, rows_in}
use Rattle.service_alone.specs.Calm.{Pace}
use Rattle.service_calm.specs.Calm.{Member as OfMember, Party}
use Rattle.service_calm.specs.CalmBelow.{CalmGrounds}
use Rattle.service_calm.proofs.Grounds.{its_node, shown_up}
use Rattle.service_leader.proofs.RowsOfOne.{IsReceipt, receipt_is}
use Rattle.service_candidate.specs.Votes.{Stands}
use Rattle.service_candidate.proofs.WaitsRows.{Takes, takes}
use Rattle.service_elections.specs.Running.{IsCalmOf}
use Rattle.service_elections.specs.Sent.{IsAsItWas, IsSilentSince}
use Rattle.service_elections.proofs.HeardMade.{WasSent, cut_before, harm_row, harm_there, reached, was_sent}
use Rattle.service_elections.proofs.HeardRows.{IsOfRaft}
use Rattle.service_elections.proofs.SilenceSteps.{IsRaftMessage, still_at_frame, still_at_tick}
use Rattle.alloc_spec.specs.ClusterMembers.{AreMembers}
use Rattle.bus_spec.specs.Cluster.{Cluster, after_row, after_rows, arrival_at, cluster, frame_at, world_of}
use Rattle.bus_spec.specs.Lawful.{DoNoHarm}
use Rattle.bus_spec.specs.Members.MemberStatus.{Up}

module _ (below : CalmGrounds) (ids : List ℕ) (members : AreMembers ids) (rows : List Row) (harmless : DoNoHarm (cluster ids) rows) (group : List Party) (clocks : Party → ℕ) (pace : Pace)
    (start since m : ℕ) (front rest : List Timed) (timed : Timed) (calm : IsCalmOf ids rows group clocks pace start (front ++ timed ∷ rest))
    (in_m : In (OfMember m) group) (long : since + 4 * pace.delay < timed.at) (silent : IsSilentSince group since (world_of ids rows) front) where
  abbrev w : Cluster
  w = world_of ids rows

  abbrev here : Cluster
  here = after_rows (world_of ids rows) (rows_in front)

  -- ---- no message of Raft is delivered

  abbrev Sent : (m : ℕ) → What → Delivery → (last : ℕ) → List Timed → Type 0
  Sent p what d last early = WasSent group (2 * pace.delay) p what d last w early

  -- no request was made so shortly before
  module _ (n last : ℕ) (in_n : In (OfMember n) group) (d : Delivery) (early late : List Timed) (cut : front ≡ early ++ late) (soon : since + 2 * pace.delay < last) where
    no_call : Sent n AppQ d last early → ⊥
    no_call z = (silent z.first (z.more ++ late) z.timed z.n n
        (cut ∙ (ap (λ (l : List Timed). l ++ late) z.split ∙ append_assoc z.first (z.timed ∷ z.more) late))
        (let lately = z.lately in omega (arith, lately, soon)) z.member in_n z.other).0
        (record {
          server = z.sends.server;
          runs = z.sends.runs;
          event = z.sends.event;
          in_step = z.sends.in_step;
          offer = z.offer;
          offered = z.sends.offered;
          what = z.what_is;
          to = z.to;
        })

    no_vote_request : Sent n VoteQ d last early → ⊥
    no_vote_request z = (silent z.first (z.more ++ late) z.timed z.n n
        (cut ∙ (ap (λ (l : List Timed). l ++ late) z.split ∙ append_assoc z.first (z.timed ∷ z.more) late))
        (let lately = z.lately in omega (arith, lately, soon)) z.member in_n z.other).1
        (record {
          server = z.sends.server;
          runs = z.sends.runs;
          event = z.sends.event;
          in_step = z.sends.in_step;
          offer = z.offer;
          offered = z.sends.offered;
          what = z.what_is;
          to = z.to;
        })

  -- and no response, since its maker was delivered a request in the same row
  module _ (what : What) (response : kind_of what ≡ Response) (d : Delivery) (y : Sent m what d timed.at front) where
    abbrev before_it : Cluster
    before_it = after_rows w (rows_in y.first)

    abbrev number : ℕ
    number = before_it.rows + 1

    abbrev t : AllocatorState
    t = y.sends.server

    r : IsResponse t number y.sends.event y.offer
    r = below.in_step.responses t number y.sends.event y.offer y.sends.offered (ap kind_of y.what_is ∙ response)

    receipt : IsReceipt before_it y.n y.timed.row r.delivered.arrival
    receipt = receipt_is before_it y.n y.timed.row r.delivered.arrival (y.sends.in_step ∙ ap (λ (ev : Event). Some (y.n, ev)) r.delivered.comes)

    came : y.sends.event ≡ Event.Rx (arrival_at (frame_at before_it.frames receipt.k) receipt.ms)
    came = r.delivered.comes ∙ ap Event.Rx receipt.arrival_is

    arrives : answer (setting_for t.me) t.sessions (record r.delivered.arrival { moment = max t.now (moment_of y.sends.event) })
        ≡ answer (setting_for t.me) t.sessions (arrival_at (frame_at before_it.frames receipt.k) (max t.now receipt.ms))
    arrives = λ i. answer (setting_for t.me) t.sessions (record (receipt.arrival_is i) { moment = max t.now (moment_of (came i)) })

    service : r.d.ident.number ≡ number_of what
    service = r.service ∙ ap number_of y.what_is

    request_sent : (asked : What) → IsOfRaft asked → kind_of asked ≡ RequestKind
        → ((other : What) → kind_of other ≡ r.d.ident.kind → number_of other ≡ r.d.ident.number → other ≡ asked) → Sent y.n asked r.d y.timed.at y.first
    request_sent asked of_raft kind only = was_sent below ids members rows harmless group clocks pace start (front ++ timed ∷ rest) calm y.first (y.more ++ timed ∷ rest) y.timed
        (cut_before below ids members rows harmless group clocks pace start (front ++ timed ∷ rest) calm front rest timed refl (2 * pace.delay) m what d timed.at y)
        y.n y.member receipt.k receipt.ms receipt.row_is t y.sends.runs r.d (sym arrives ∙ r.delivered.gives) asked of_raft (kind ∙ sym r.kind) only

    soon_it : since + 2 * pace.delay < y.timed.at
    soon_it = let lately = y.lately in omega (arith, lately, long)

  no_append_answer : (d : Delivery) → Sent m App d timed.at front → ⊥
  no_append_answer d y = no_call y.n y.timed.at y.member (r App refl d y).d y.first (y.timed ∷ y.more) y.split (soon_it App refl d y)
      (request_sent App refl d y AppQ (inr (inl refl)) refl
      (λ other k n. is_append_request other (k ∙ (r App refl d y).kind) (n ∙ service App refl d y)))

  no_vote_answer : (d : Delivery) → Sent m Vote d timed.at front → ⊥
  no_vote_answer d y = no_vote_request y.n y.timed.at y.member (r Vote refl d y).d y.first (y.timed ∷ y.more) y.split (soon_it Vote refl d y)
      (request_sent Vote refl d y VoteQ (inl (inl refl)) refl
      (λ other k n. is_vote_request other (k ∙ (r Vote refl d y).kind)
      (λ e. let its = service Vote refl d y in omega (arith, n, its, e)) (λ e. let its = service Vote refl d y in omega (arith, n, its, e))))

  module _ (before : AllocatorState) (runs : (here.member m).status ≡ Up before) (k ms : ℕ) (comes : timed.row ≡ Rx m k ms) (d : Delivery)
      (gives : answer (setting_for before.me) before.sessions (arrival_at (frame_at here.frames k) (max before.now ms)) ≡ Gives d) where
    sent : (what : What) → IsOfRaft what → kind_of what ≡ d.ident.kind
        → ((other : What) → kind_of other ≡ d.ident.kind → number_of other ≡ d.ident.number → other ≡ what) → Sent m what d timed.at front
    sent = was_sent below ids members rows harmless group clocks pace start (front ++ timed ∷ rest) calm front rest timed refl m in_m k ms comes before runs d gives

    soon_here : since + 2 * pace.delay < timed.at
    soon_here = omega (arith, long)

    none_comes : IsRaftMessage d → ⊥
    none_comes (inl request, first) = elim (eqb_tells d.ident.number 30) [
      | inl z ↦ no_call m timed.at in_m d front [] (sym (append-nil front)) soon_here
          (sent AppQ (inr (inl refl)) (sym request) (λ other kind n. is_append_request other (kind ∙ request) (n ∙ z.1)))
      | inr z ↦ no_vote_request m timed.at in_m d front [] (sym (append-nil front)) soon_here
          (sent VoteQ (inl (inl refl)) (sym request) (λ other kind n. is_vote_request other (kind ∙ request) (λ e. first (sym n ∙ e)) (λ e. z.1 (sym n ∙ e))))
    ]
    none_comes (inr response, first) = elim (eqb_tells d.ident.number 30) [
      | inl z ↦ no_append_answer d
          (sent App (inr (inr refl)) (sym response) (λ other kind n. is_append other (kind ∙ response) (n ∙ z.1)))
      | inr z ↦ no_vote_answer d
          (sent Vote (inl (inr refl)) (sym response) (λ other kind n. is_vote other (kind ∙ response) (λ e. first (sym n ∙ e)) (λ e. z.1 (sym n ∙ e))))
    ]

  -- ---- how the server began

  module _ (before : AllocatorState) (runs : (here.member m).status ≡ Up before) where
    safe : DoNoHarm (cluster ids) (rows ++ rows_in front)
    safe = harm_there below ids members rows harmless group clocks pace start (front ++ timed ∷ rest) calm front rest timed refl

    up : ((world_of ids (rows ++ rows_in front)).member m).status ≡ Up before
    up = ap (λ (v : Cluster). (v.member m).status) (reached below ids members rows harmless group clocks pace start (front ++ timed ∷ rest) calm front rest timed refl) ∙ runs

    same_size : before.size ≡ length ids
    same_size = (its_node below ids members (rows ++ rows_in front) safe m before (calm.listed m in_m) up).1

    is_start : IsStart (start_of before)
    is_start =
        let node = members.nodes m (calm.listed m in_m) in
        let its = (shown_up below ids members (rows ++ rows_in front) safe m before (calm.listed m in_m) up).runs in
        let me = its.me in
        let some = members.some in
        let size = same_size in
        record {
          numbered = omega (arith, me, node.0);
          device = omega (arith, me, node.1);
          least = omega (arith, size, some);
          most = its.sound.size;
        }

    many : 2 ≤ before.size
    many = let size = same_size in let some = calm.others in omega (arith, size, some)

  -- ---- the row

  pub nothing_changes : (before after : AllocatorState) → (here.member m).status ≡ Up before → ((after_row here timed.row).member m).status ≡ Up after
      → before.raft_server.memory.role ≢ Leader → ((term : ℕ) → Stands m term here timed.row → ⊥) → IsAsItWas before after
  nothing_changes before after runs runs_then leads_not stands_not =
      by (takes here m before after runs timed.row (harm_row below ids members rows harmless group clocks pace start (front ++ timed ∷ rest) calm front rest timed refl) runs_then)
    where
      by : Takes here timed.row m before after → IsAsItWas before after
      by (Takes.Rests times server queue) = record {
        role = ap (λ (s : RaftServer). s.memory.role) server;
        term = ap (λ (s : RaftServer). s.store.term) server;
        vote = ap (λ (s : RaftServer). s.store.vote) server;
        log = ap (λ (s : RaftServer). s.store.log) server;
        since = ap (λ (ts : Times). ts.since) times;
        word = ap (λ (ts : Times). ts.word) times;
      }
      by (Takes.Ticks ms word is after_is) = subst (IsAsItWas before) (sym after_is)
          (still_at_tick below.more.list (here.rows + 1) before ms word leads_not (is_start before runs) (many before runs) (λ stood.
          stands_not (before.raft_server.store.term + 1) (record {
            ms = ms;
            word = word;
            reads = is;
            before = before;
            runs = runs;
            next = refl;
            after = after;
            runs_then = runs_then;
            stands = ap (λ (t : AllocatorState). t.raft_server.memory.role) after_is ∙ stood.0;
            its_term = ap (λ (t : AllocatorState). t.raft_server.store.term) after_is ∙ stood.1;
          })))
      by (Takes.Receives k ms is after_is) = subst (IsAsItWas before) (sym after_is)
          (still_at_frame (here.rows + 1) before (arrival_at (frame_at here.frames k) ms) leads_not (λ d gives raft. none_comes before runs k ms is d gives raft))
