-- What the transfers of a step say as messages of the Raft model, and that their bytes say it.
use Rattle.std.specs.Prelude.{◌≡◌, ℕ, Bool, true, false, List, Option, None, Some}
use Rattle.can_frame.specs.declared.step.What.{What}
use Rattle.can_frame.specs.declared.step.What.TheVariants.{Info, VoteQ, Vote, AppQ, App}
use Rattle.dsdl_codec.specs.AppendAnswer.{append_answer_bytes}
use Rattle.dsdl_codec.specs.VoteAnswer.{vote_answer_bytes}
use Rattle.raft_model.specs.Messages.{Answer, Message, Request}
use Rattle.raft_model.specs.Messages.Message.{Answers, Requests}
use Rattle.alloc_spec.specs.Ending.{append_call_bytes, vote_call_bytes}

-- a request that the member makes in this step, to the node that the transfer goes to
pub record SaysRequest (number me to : ℕ) (append : Bool) (bytes : Request → List ℕ) (payload : List ℕ)
    (says : Option Message) : Type 0 where
  pub request : Request
  pub is : says ≡ Some (Requests request)
  pub step : request.step ≡ number
  pub from : request.from ≡ me
  pub receiver : request.to ≡ to
  pub service : request.append ≡ append
  pub written : payload ≡ bytes request

-- an answer that the member makes in this step, to a request that the node made for it in the step that the transfer
-- answers
pub record SaysAnswer (number me to re : ℕ) (append : Bool) (bytes : Answer → List ℕ) (payload : List ℕ)
    (says : Option Message) : Type 0 where
  pub answer : Answer
  pub is : says ≡ Some (Answers answer)
  pub step : answer.step ≡ number
  pub from : answer.from ≡ me
  pub receiver : answer.request.from ≡ to
  pub answers : answer.request.step ≡ re
  pub asked : answer.request.to ≡ me
  pub service : answer.request.append ≡ append
  pub written : payload ≡ bytes answer

abbrev pub vote_bytes : Answer → List ℕ
vote_bytes answer = vote_answer_bytes (record { term = answer.term; granted = answer.success }) 0

abbrev pub append_bytes : Answer → List ℕ
append_bytes answer = append_answer_bytes (record { term = answer.term; success = answer.success }) 0

-- By its kind, from a member to a node, answering the step `re`. What an Allocation says is read from its payload.
-- Messages and other requests say nothing, and answer nothing.
abbrev pub IsSaid : ℕ → ℕ → What → ℕ → ℕ → List ℕ → Option Message → Type 0
IsSaid number me VoteQ to re payload says = SaysRequest number me to false vote_call_bytes payload says × (re ≡ 0)
IsSaid number me Vote to re payload says = SaysAnswer number me to re false vote_bytes payload says
IsSaid number me AppQ to re payload says = SaysRequest number me to true append_call_bytes payload says × (re ≡ 0)
IsSaid number me App to re payload says = SaysAnswer number me to re true append_bytes payload says
IsSaid number me Info to re payload says = says ≡ None
IsSaid number me what to re payload says = (says ≡ None) × (re ≡ 0)
