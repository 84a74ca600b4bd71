-- What the transfers of members say, and which of them answer which.
use Rattle.std.specs.Prelude.{◌≡◌, ℕ, ◌<◌, ◌≤◌, ◌^◌, Bool, true, false, List, length, None, Some, IfSome}
use Rattle.can_frame.specs.declared.entry.Entry.{Entry}
use Rattle.can_frame.specs.declared.step.What.{What}
use Rattle.can_frame.specs.declared.step.What.TheVariants.{AppQ, App, Vote, VoteQ}
use Rattle.dsdl_codec.specs.Entry.{IsEntry}
use Rattle.raft_core.specs.Times.{Sending}
use Rattle.raft_model.specs.Lists.{In}
use Rattle.raft_model.specs.Messages.{Answer, Message, Request}
use Rattle.raft_model.specs.Messages.Message.{Answers, Requests}
use Rattle.raft_model.specs.Moves.{Move}
use Rattle.raft_model.specs.Moves.Move.{ProposeEntry}
use Rattle.raft_model.specs.Runs.{World}
use Rattle.raft_model.specs.Server.{Store}
use Rattle.alloc_spec_laws.specs.Saying.{IsSaid}
use Rattle.alloc_spec.specs.AllocatorState.{AllocatorState}
use Rattle.alloc_spec.specs.Transfers.{SentTransfer, message_of}

-- the entry has bytes, and no node ID of these
pub record IsProper (ids : List ℕ) (entry : Entry) : Type 0 where
  pub fits : IsEntry entry
  pub outside : In entry.node ids → ⊥

-- a request has bytes: its numbers fit, and a vote request has neither commit nor entry; its entry is of no member
pub record IsWritable (ids : List ℕ) (request : Request) : Type 0 where
  pub term : request.term < 2 ^ 32
  pub previous_term : request.previous_term < 2 ^ 32
  pub entry : IfSome request.entry (IsProper ids)
  pub vote : request.append ≡ false → (request.commit ≡ 0) × (request.entry ≡ None)

-- all requests and answers of the bag have bytes, and requests are of nodes
pub record AreWritable (ids : List ℕ) (bag : List Message) : Type 0 where
  pub requests : (request : Request) → In (Requests request) bag → IsWritable ids request
  pub senders : (request : Request) → In (Requests request) bag → 1 ≤ request.from
  pub answers : (answer : Answer) → In (Answers answer) bag → answer.term < 2 ^ 32

-- each transfer says what it should, and what it says is in the bag
pub record AreSaid (made : List SentTransfer) (bag : List Message) : Type 0 where
  pub carried : (x : SentTransfer) → In x made →
      IsSaid x.step x.by x.offer.what x.offer.to x.offer.re x.offer.payload x.offer.says
  pub said : (x : SentTransfer) (message : Message) → In x made →
      message_of x.step x.by x.offer ≡ Some message →
      In message bag

-- the request that a made response answers was made under the response's transfer ID
pub record AnswersMadeRequest (made : List SentTransfer) (x : SentTransfer) (answer : Answer) (service : What) : Type 0 where
  pub asked : SentTransfer
  pub was_made : In asked made
  pub step : asked.step ≡ x.offer.re
  pub what : asked.offer.what ≡ service
  pub maker : asked.by ≡ x.offer.to
  pub receiver : asked.offer.to ≡ x.by
  pub id : asked.offer.id ≡ x.offer.id
  pub says : asked.offer.says ≡ Some (Requests answer.request)

-- each response of this kind that was made answers a request of that kind
abbrev pub AnswersEach : List SentTransfer → What → What → Type 0
AnswersEach made response service = (x : SentTransfer) (answer : Answer) → In x made → x.offer.what ≡ response
    → x.offer.says ≡ Some (Answers answer) → AnswersMadeRequest made x answer service

pub record AreAnswered (made : List SentTransfer) : Type 0 where
  pub votes : AnswersEach made Vote VoteQ
  pub appends : AnswersEach made App AppQ

-- a pending call was made, under the transfer ID that the server keeps beside it
pub record IsCalled (made : List SentTransfer) (server : AllocatorState) (peer : ℕ) (request : Request)
    (sending : Sending) (service : What) : Type 0 where
  pub call : SentTransfer
  pub was_made : In call made
  pub what : call.offer.what ≡ service
  pub step : call.step ≡ request.step
  pub maker : call.by ≡ server.me
  pub receiver : call.offer.to ≡ peer
  pub id : call.offer.id ≡ sending.id
  pub says : call.offer.says ≡ Some (Requests request)

-- the kind of transfer by which a request goes
abbrev pub carrier : Bool → What
carrier true = AppQ
carrier false = VoteQ

-- each pending call was made
abbrev pub AreCalled : List SentTransfer → AllocatorState → Type 0
AreCalled made server = (peer : ℕ) (request : Request) → server.raft_server.memory.pending peer ≡ Some request
    → (sending : Sending) × (server.times.sending peer ≡ Some sending)
    × IsCalled made server peer request sending (carrier request.append)

-- ---- what is stored

-- the term and each entry have bytes, and no entry is of a member
pub record IsStoreWritable (ids : List ℕ) (store : Store) : Type 0 where
  pub term : store.term < 2 ^ 32
  pub entries : (entry : Entry) → In entry store.log → IsProper ids entry

-- of a run: what each member has stored, and the bag
pub record IsRunWritable (ids : List ℕ) (run : World) : Type 0 where
  pub stores : (member : ℕ) → IsStoreWritable ids (run.server member).store
  pub bag : AreWritable ids run.bag

-- what is proposed has a unique ID of 16 bytes, and no member's node ID
abbrev pub ProposesWell : List ℕ → List Move → Type 0
ProposesWell ids moves = (entry : Entry) → In (ProposeEntry entry) moves →
    (length entry.uid ≡ 16) × (In entry.node ids → ⊥)
