-- Who hears an append request in a calm was called, by one that leads in its term.
use Rattle.std.proofs.Common.{◌≡◌, ◌≢◌, ℕ, ◌+◌, ◌*◌, List, ◌∷◌, ◌++◌, refl, sym, ◌∙◌, ap, inl, inr, Option, Some}
use Rattle.can_frame.specs.declared.step.What.TheVariants.{AppQ}
use Rattle.dsdl_codec.specs.declared.append_request.AppendRequest.{AppendRequest}
use Rattle.dsdl_codec.specs.AppendRequest.{append_request_of}
use Rattle.raft_core.specs.Handled as handled
use Rattle.raft_model.specs.Lists.{In}
use Rattle.raft_model.specs.Messages.{Message, Request}
use Rattle.raft_model.specs.Messages.Message.{Requests}
use Rattle.bus_rows.specs.declared.row.Row.{Row}
use Rattle.alloc_spec.specs.AllocatorState.{AllocatorState}
use Rattle.alloc_spec.specs.Step.{step}
use Rattle.bus_agreement.proofs.TakenMessages.{is_append_request}
use Rattle.bus_rows.specs.Timed.{Timed, rows_in}
use Rattle.service_alone.specs.Calm.{Pace}
use Rattle.service_calm.specs.Calls.{CallsReadAsSaid, ReadsAsSaid}
use Rattle.service_calm.specs.Calm.{Member as OfMember, Party}
use Rattle.service_calm.specs.Comes.{sent_by}
use Rattle.service_leader.specs.CallsAsk.{AsksNext, CallsAskNext, next_request}
use Rattle.service_candidate.specs.Votes.{HearsAppend}
use Rattle.service_calm.specs.CalmBelow.{CalmGrounds}
use Rattle.service_elections.specs.Running.{IsCalmOf}
use Rattle.service_elections.specs.Sent.{HasCalled}
use Rattle.service_elections.proofs.HeardMade.{WasSent, reads_so, up_then, was_sent}
use Rattle.alloc_spec.specs.ClusterMembers.{AreMembers}
use Rattle.bus_spec.specs.Cluster.{Cluster, after_rows, cluster, world_of}
use Rattle.bus_spec.specs.Lawful.{DoNoHarm}

one_request : (a b : AppendRequest) → ◌≡◌ {A = Option AppendRequest} (Some a) (Some b) → a ≡ b
one_request a b e = cc e

same_said : (a b : Request) → ◌≡◌ {A = Option Message} (Some (Requests a)) (Some (Requests b)) → a ≡ b
same_said a b e = cc e

module _ (below : CalmGrounds) (ids : List ℕ) (members : AreMembers ids) (reads_said : (list : List Row) → DoNoHarm (cluster ids) list → CallsReadAsSaid ids list) (asks : CallsAskNext)
    (rows : List Row) (harmless : DoNoHarm (cluster ids) rows) (group : List Party) (clocks : Party → ℕ) (pace : Pace) (start m : ℕ) (front rest : List Timed)
    (timed : Timed) (calm : IsCalmOf ids rows group clocks pace start (front ++ timed ∷ rest)) (in_m : In (OfMember m) group)
    (hears : HearsAppend m (after_rows (world_of ids rows) (rows_in front)) timed.row) where
  its : WasSent group (2 * pace.delay) m AppQ hears.delivery timed.at (world_of ids rows) front
  its = was_sent below ids members rows harmless group clocks pace start (front ++ timed ∷ rest) calm front rest timed refl m in_m hears.k hears.ms hears.comes hears.server
      hears.runs hears.delivery hears.hears.gives AppQ (inr (inl refl)) (sym hears.hears.kind)
      (λ other k number. is_append_request other (k ∙ hears.hears.kind) (number ∙ hears.hears.number))

  abbrev before : Cluster
  before = after_rows (world_of ids rows) (rows_in its.first)

  abbrev after : AllocatorState
  after = (step its.sends.server (before.rows + 1) its.sends.event).step_state.allocator

  -- the call reads as it says
  said : ReadsAsSaid (sent_by its.n before its.offer)
  said = reads_so below ids members rows harmless group clocks pace start (front ++ timed ∷ rest) calm front rest timed refl (2 * pace.delay) m AppQ hears.delivery timed.at its
      ReadsAsSaid reads_said

  same_request : said.request ≡ hears.request
  same_request = one_request said.request hears.request (sym said.read ∙ (ap append_request_of its.payload ∙ hears.hears.read))

  -- and asks for the next place, as one that leads
  next : AsksNext m (before.rows + 1) its.offer after
  next = asks its.sends.server (before.rows + 1) its.sends.event m its.offer its.sends.offered its.what_is its.to its.sends.fitted

  same_term : after.raft_server.store.term ≡ said.request.term
  same_term = ap (λ (r : Request). r.term) (same_said (next_request m (before.rows + 1) after)
      (handled.append_request_of said.request (before.rows + 1) its.n its.offer.to) (sym next.says ∙ said.said))

  -- so the member was called
  pub was_called : (n : ℕ) × In (OfMember n) group × (n ≢ m) × HasCalled n m hears.request.term timed.at (2 * pace.delay) (world_of ids rows) front
  was_called = (
    its.n,
    its.member,
    its.other,
    record {
      front = its.first;
      timed = its.timed;
      rest = its.more;
      split = its.split;
      lately = its.lately;
      calls = record {
        server = its.sends.server;
        runs = its.sends.runs;
        event = its.sends.event;
        in_step = its.sends.in_step;
        offer = its.offer;
        offered = its.sends.offered;
        what = its.what_is;
        to = its.to;
      };
      leads = record {
        server = after;
        runs = (up_then below ids members rows harmless group clocks pace start (front ++ timed ∷ rest) calm front rest timed refl (2 * pace.delay) m AppQ hears.delivery timed.at its).status;
        leads = next.leads;
        its_term = same_term ∙ ap (λ (r : AppendRequest). r.term) same_request;
      };
    },
  )
