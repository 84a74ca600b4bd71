-- Who gives its vote in a calm was asked for it, by a candidate.
use Rattle.std.proofs.Common.{◌≡◌, ◌≢◌, ℕ, ◌+◌, ◌*◌, arith, List, ◌∷◌, ◌++◌, max, refl, sym, ◌∙◌, ap, subst, inl, Option, Some}
use Rattle.can_frame.specs.declared.step.What.TheVariants.{VoteQ}
use Rattle.dsdl_codec.specs.declared.vote_request.VoteRequest.{VoteRequest}
use Rattle.dsdl_codec.specs.VoteRequest.{vote_request_of}
use Rattle.raft_core.specs.Handled as handled
use Rattle.raft_model.specs.Lists.{In}
use Rattle.bus_rows.specs.declared.row.Row.{Row}
use Rattle.transfer_rx.specs.Reassembly.{Gives, answer}
use Rattle.alloc_spec.specs.Accepted.{setting_for}
use Rattle.alloc_spec.specs.AllocatorState.{AllocatorState}
use Rattle.alloc_spec.specs.Step.{step}
use Rattle.bus_agreement.proofs.TakenMessages.{is_vote_request}
use Rattle.bus_rows.specs.Timed.{Timed, rows_in}
use Rattle.service_alone.specs.Calm.{Pace}
use Rattle.service_calm.specs.Calm.{Member as OfMember, Party}
use Rattle.service_calm.specs.Comes.{sent_by}
use Rattle.service_candidate.specs.Votes.{VoteReadsAsSaid, VoteRequestsReadAsSaid}
use Rattle.service_candidate.specs.Waits.{GivesVote}
use Rattle.service_candidate.proofs.VotesSaid.{SaysStore, candidates_ask, says_its_store}
use Rattle.service_calm.specs.CalmBelow.{CalmGrounds}
use Rattle.service_elections.specs.Running.{IsCalmOf}
use Rattle.service_elections.specs.Sent.{HasAskedFor}
use Rattle.service_elections.proofs.HeardMade.{WasSent, me_there, reads_so, up_then, was_sent}
use Rattle.alloc_spec.specs.ClusterMembers.{AreMembers}
use Rattle.bus_spec.specs.Cluster.{Cluster, after_rows, arrival_at, cluster, frame_at, world_of}
use Rattle.bus_spec.specs.Lawful.{DoNoHarm}

one_request : (a b : VoteRequest) → ◌≡◌ {A = Option VoteRequest} (Some a) (Some b) → a ≡ b
one_request a b e = cc e

module _ (below : CalmGrounds) (ids : List ℕ) (members : AreMembers ids) (reads_said : (list : List Row) → DoNoHarm (cluster ids) list → VoteRequestsReadAsSaid ids list) (rows : List Row)
    (harmless : DoNoHarm (cluster ids) rows) (group : List Party) (clocks : Party → ℕ) (pace : Pace) (start m : ℕ) (front rest : List Timed) (timed : Timed)
    (calm : IsCalmOf ids rows group clocks pace start (front ++ timed ∷ rest)) (in_m : In (OfMember m) group)
    (gives : GivesVote m (after_rows (world_of ids rows) (rows_in front)) timed.row) where
  me : gives.server.me ≡ m
  me = me_there below ids members rows harmless group clocks pace start (front ++ timed ∷ rest) calm front rest timed refl m in_m gives.server gives.runs

  its : WasSent group (2 * pace.delay) m VoteQ gives.delivery timed.at (world_of ids rows) front
  its = was_sent below ids members rows harmless group clocks pace start (front ++ timed ∷ rest) calm front rest timed refl m in_m gives.k gives.ms gives.comes gives.server
      gives.runs gives.delivery
      (subst (λ (n : ℕ). answer (setting_for n) gives.server.sessions
      (arrival_at (frame_at (after_rows (world_of ids rows) (rows_in front)).frames gives.k) (max gives.server.now gives.ms)) ≡ Gives gives.delivery) (sym me) gives.gives)
      VoteQ (inl (inl refl)) (sym gives.kind)
      (λ other k number. is_vote_request other (k ∙ gives.kind)
      (λ e. let its_number = gives.number in absurd (omega (arith, number, its_number, e)))
      (λ e. let its_number = gives.number in absurd (omega (arith, number, its_number, e))))

  abbrev before : Cluster
  before = after_rows (world_of ids rows) (rows_in its.first)

  abbrev after : AllocatorState
  after = (step its.sends.server (before.rows + 1) its.sends.event).step_state.allocator

  -- the request reads as it says
  said : VoteReadsAsSaid (sent_by its.n before its.offer)
  said = reads_so below ids members rows harmless group clocks pace start (front ++ timed ∷ rest) calm front rest timed refl (2 * pace.delay) m VoteQ gives.delivery timed.at its
      VoteReadsAsSaid reads_said

  same_request : said.request ≡ gives.request
  same_request = one_request said.request gives.request (sym said.read ∙ (ap vote_request_of its.payload ∙ gives.read))

  -- and says what the store of its maker is behind the row
  says : SaysStore after.raft_server.store (handled.vote_request_of said.request (before.rows + 1) its.n its.offer.to)
  says = says_its_store its.sends.server (before.rows + 1) its.sends.event its.offer its.sends.offered its.what_is _ said.said

  -- so the member was asked
  pub was_asked : (c : ℕ) × In (OfMember c) group × (c ≢ m) × (gives.delivery.ident.source ≡ c)
      × HasAskedFor c m gives.request timed.at (2 * pace.delay) (world_of ids rows) front
  was_asked = (
    its.n,
    its.member,
    its.other,
    its.source,
    record {
      front = its.first;
      timed = its.timed;
      rest = its.more;
      split = its.split;
      lately = its.lately;
      asks = record {
        server = its.sends.server;
        runs = its.sends.runs;
        event = its.sends.event;
        in_step = its.sends.in_step;
        offer = its.offer;
        offered = its.sends.offered;
        what = its.what_is;
        to = its.to;
      };
      server = after;
      runs = (up_then below ids members rows harmless group clocks pace start (front ++ timed ∷ rest) calm front rest timed refl (2 * pace.delay) m VoteQ gives.delivery timed.at its).status;
      stands = candidates_ask its.sends.server (before.rows + 1) its.sends.event its.offer its.sends.offered its.what_is;
      its_term = sym (ap (λ (r : VoteRequest). r.term) same_request) ∙ says.term;
      its_last_term = sym (ap (λ (r : VoteRequest). r.last_term) same_request) ∙ says.last_term_is;
      its_last = sym (ap (λ (r : VoteRequest). r.last_index) same_request) ∙ says.last;
    },
  )
