-- What each change of a step has to keep, so that the whole step keeps it.
use Rattle.std.proofs.Common.{◌≡◌, ◌≢◌, ℕ, true, false, List, [], ◌∷◌, ◌∙◌, ap, Option, Some}
use Rattle.std.specs.Prelude.{◌⊎◌, ⊤, nat_eq, length}
use Rattle.can_frame.specs.declared.entry.Entry.{Entry}
use Rattle.can_frame.specs.declared.identifier.Kind.{Kind}
use Rattle.can_frame.specs.declared.identifier.Kind.TheVariants.{Message as Broadcast, Request as RequestKind, Response}
use Rattle.can_frame.specs.declared.step.What.{What}
use Rattle.can_frame.specs.declared.step.What.TheVariants.{App, Disc, Info}
use Rattle.can_frame.specs.Zeros.{zeros}
use Rattle.cluster_discovery.specs.Members.{Event as Heard, Start, members}
use Rattle.dsdl_codec.specs.declared.discovery.Discovery.{Discovery}
use Rattle.dsdl_codec.specs.Discovery.{discovery_bytes, discovery_of}
use Rattle.node_discovery.specs.History.{Asked, Event as Happens, Status, Taken, identity}
use Rattle.node_discovery.specs.Watch.{history, of_node}
use Rattle.raft_core.specs.Taken.{proposal}
use Rattle.raft_core.specs.Times.{HandedIn, Times, given_call, times_after}
use Rattle.raft_model.specs.Lists.{at}
use Rattle.raft_model.specs.Messages.{Message, Request}
use Rattle.raft_model.specs.Messages.Message.{Requests}
use Rattle.raft_model.specs.Moves.{Move, memory_after, puts}
use Rattle.raft_model.specs.Moves.Leading.{memory_with_call}
use Rattle.raft_model.specs.Moves.Move.{ProposeEntry}
use Rattle.transfer_rx.specs.Reassembly.{Delivery}
use Rattle.alloc_spec.specs.Delivered.{hears_discovery}
use Rattle.alloc_spec.specs.StepState.{StepState, with_response_to, with_transfer, with_moves, with_allocator}
use Rattle.alloc_spec.specs.Step.{Event}
use Rattle.alloc_spec.specs.Step.Event.{Rx, Tick}
use Rattle.alloc_spec.specs.Tick.{discovery_of as own_discovery, with_discovery}
use Rattle.alloc_spec.specs.AllocatorState.{AllocatorState, members_of, start_of}
use Rattle.alloc_spec.specs.Transfers.{GivenPair, has_room, id_of, kind_of}
use Rattle.alloc_spec_laws.specs.Calls.{carrier}
use Rattle.alloc_spec_laws.specs.Giving.{Gives}
use Rattle.alloc_spec_laws.specs.Responses.{AnswersAsked}
use Rattle.alloc_spec_laws.specs.Saying.{IsSaid}
use Rattle.alloc_spec_laws.specs.Sound.{IsDestination}
use Rattle.alloc_spec_laws.proofs.CalledPeers.{AreQuiet}
use Rattle.alloc_spec_laws.proofs.GivenPairs.{IsOfPlace}
use Rattle.alloc_spec_laws.proofs.LogGrowth.{AreDecided}

-- a server that differs from another in nothing of these
pub record IsLike (a b : AllocatorState) : Type 0 where
  pub start : start_of a ≡ start_of b
  pub raft_server : a.raft_server ≡ b.raft_server
  pub times : a.times ≡ b.times
  pub now : a.now ≡ b.now
  pub queue : a.queue ≡ b.queue
  pub ids : a.ids ≡ b.ids
  pub heard : a.heard ≡ b.heard
  pub watch : a.watch ≡ b.watch
  pub counting : a.counting ≡ b.counting

pub same_members : (a b : AllocatorState) → IsLike a b → members_of a ≡ members_of b
same_members a b like =
    ap (λ (start : Start). members start a.heard) like.start ∙ ap (λ (heard : List Heard). members (start_of b) heard) like.heard

-- a move that makes a request pending to a peer, and keeps with it what it is given
pub record MakesCall (number me : ℕ) (t : AllocatorState) (what : What) (peer : ℕ) (move : Move) (request : Request) : Type 0 where
  pub carried : what ≡ carrier request
  pub step : request.step ≡ number
  pub other : (entry : Entry) → move ≢ ProposeEntry entry
  pub nothing : (members : List ℕ) → puts members me t.raft_server move ≡ []
  pub memory : (members : List ℕ) → memory_after members me number t.raft_server move ≡ memory_with_call t.raft_server.memory peer request
  pub sending : (members : List ℕ) (given : HandedIn) (times : Times)
      → (times_after members me given t.raft_server move times).sending ≡ at times.sending peer (Some (record { id = given.id; moment = given.now }))

-- the number of a service, as far as a server tells them apart
abbrev pub IsServed : What → ℕ → Type 0
IsServed Info n = n ≡ 1
IsServed App n = n ≡ 30
IsServed what n = (n ≢ 1) × (n ≢ 30)

-- a response to a request that was delivered
pub record Responds (number : ℕ) (d : Delivery) (t : AllocatorState) (what : What) (payload : List ℕ) (says : Option Message) : Type 0 where
  pub is : kind_of what ≡ Response
  pub kind : d.ident.kind ≡ RequestKind
  pub service : IsServed what d.ident.number
  pub said : IsSaid number t.me what d.ident.source d.mark.step payload says
  pub asked : AnswersAsked d t what says

-- the watch over nodes has one event more
abbrev pub watches : ℕ → Happens → StepState → StepState
watches node happens g = record g { allocator = record g.allocator { watch = of_node node happens ∷ g.allocator.watch } }

-- to whom a message or a request goes; a response is sent by nobody who was not asked
abbrev pub IsSentTo : Kind → ℕ → Type 0
IsSentTo Response to = ⊥
IsSentTo kind to = IsDestination kind to

abbrev pub IsTick : Event → Type 0
IsTick (Tick now word) = ⊤
IsTick (Rx arrival) = ⊥

-- a message, or a request to a node; a Discovery comes at a tick, and tells the list of members; a pair is committed
pub record Sends (number : ℕ) (event : Event) (t : AllocatorState) (what : What) (to : ℕ) (payload : List ℕ) (says : Option Message) : Type 0 where
  pub destination : IsSentTo (kind_of what) to
  pub said : IsSaid number t.me what to 0 payload says
  pub told : what ≡ Disc → IsTick event × (payload ≡ discovery_bytes (own_discovery t))
  pub gives : (given : GivenPair) → Gives what payload given → IsOfPlace t.raft_server.store given

-- whence a leader has a unique ID that it records: of the exchange it has 16 bytes, else a node told it; one of zeros is
-- a reservation's or a blank's
abbrev pub IsFound : AllocatorState → List ℕ → Type 0
IsFound t uid = (length uid ≡ 16) ⊎ (((node : ℕ) × (identity (history node t.watch) t.now ≡ Some uid)) ⊎ (uid ≡ zeros))

-- what the watch over nodes takes
abbrev pub HasUid : Happens → Type 0
HasUid (Status moment) = ⊤
HasUid (Asked id moment) = ⊤
HasUid (Taken uid moment) = length uid ≡ 16

pub record Keeping (number : ℕ) (event : Event) (Keeps : StepState → Type 0) (IsEnabled : Delivery → Type 0) : Type 0 where
  -- moves that call nobody, and append nothing of a leader's own
  pub takes_keep : (given : HandedIn) (moves : List Move) (g : StepState) → AreQuiet moves
      → AreDecided (members_of g.allocator) g.allocator.me number g.allocator.raft_server moves → Keeps g → Keeps (with_moves number given moves g)
  -- an entry of a leader's own: a pair, a reservation or a blank
  pub proposes_keep : (given : HandedIn) (uid : List ℕ) (node : ℕ) (g : StepState) → IsFound g.allocator uid → Keeps g
      → Keeps (with_moves number given (ProposeEntry (proposal g.allocator.raft_server.store.term uid node) ∷ []) g)
  pub sends_keep : (what : What) (to : ℕ) (payload : List ℕ) (says : Option Message) (g : StepState) → Sends number event g.allocator what to payload says
      → Keeps g → Keeps (with_transfer number what to payload says g)
  -- the move of a call, after the request that fitted
  pub calls_keep : (what : What) (peer : ℕ) (move : Move) (request : Request) (payload : List ℕ) (g : StepState)
      → MakesCall number g.allocator.me g.allocator what peer move request → has_room g.allocator.queue payload ≡ true
      → Keeps (with_transfer number what peer payload (Some (Requests request)) g)
      → Keeps (with_moves number (given_call g.allocator.now (id_of g.allocator.ids what peer)) (move ∷ []) (with_transfer number what peer payload (Some (Requests request)) g))
  pub responds_keep : (what : What) (d : Delivery) (payload : List ℕ) (says : Option Message) (g : StepState) → IsEnabled d
      → Responds number d g.allocator what payload says → Keeps g → Keeps (with_response_to number what d payload says g)
  -- what else changes: of the sessions, the exchange and NodeStatus; the watch over nodes; and the list of Discoveries
  pub changes_keep : (t : AllocatorState) (g : StepState) → IsLike t g.allocator → Keeps g → Keeps (with_allocator t g)
  pub watches_keep : (node : ℕ) (happens : Happens) (g : StepState) → HasUid happens → Keeps g → Keeps (watches node happens g)
  pub tells_keep : (g : StepState) → Keeps g → Keeps (with_discovery g)
  pub hears_keep : (d : Delivery) (message : Discovery) (g : StepState) → IsEnabled d → d.ident.kind ≡ Broadcast → nat_eq d.ident.number 341 ≡ false
      → discovery_of d.payload ≡ Some message → Keeps g → Keeps (hears_discovery d message g)
