-- The bytes of a vote request, and those of an answer to one, read as what they say.
use Rattle.std.proofs.Common.{◌≡◌, ℕ, false, List, ◌∙◌, ap, subst, Some}
use Rattle.can_frame.specs.declared.step.What.{What}
use Rattle.can_frame.specs.declared.step.What.TheVariants.{Vote, VoteQ}
use Rattle.dsdl_codec.specs.declared.vote_request.VoteRequest.{VoteRequest}
use Rattle.dsdl_codec.specs.VoteAnswer.{vote_answer_of}
use Rattle.dsdl_codec.specs.VoteRequest.{vote_request_of}
use Rattle.raft_core.specs.Handled as handled
use Rattle.raft_model.specs.Lists.{In}
use Rattle.raft_model.specs.Messages.{Message, Request}
use Rattle.raft_model.specs.Messages.Message.{Answers, Requests}
use Rattle.alloc_spec.specs.Ending.{vote_call_bytes}
use Rattle.alloc_spec.specs.Transfers.{SentTransfer, message_by}
use Rattle.alloc_spec_laws.specs.Saying.{IsSaid, SaysAnswer, SaysRequest, vote_bytes}
use Rattle.service_candidate.specs.Votes.{VoteAnswersAsSaid, VoteReadsAsSaid}
use Rattle.bus_agreement.specs.LawsBelow.{CodecLaws}
use Rattle.bus_agreement.specs.Said.{AreSaid, AreWritable, IsWritable}

-- a vote request that was made reads as the request that it says
pub requests_as_said : (codec : CodecLaws) (ids : List ℕ) (made : List SentTransfer) (bag : List Message) → AreSaid made bag → AreWritable ids bag
    → (x : SentTransfer) → In x made → x.offer.what ≡ VoteQ → VoteReadsAsSaid x
requests_as_said codec ids made bag says fits x there what = record {
  request = value;
  read = ap vote_request_of said.written ∙ codec.vote_requests value (record { term = fit.term; last_term = fit.previous_term });
  said = said.is ∙ ap (λ (r : Request). Some (Requests r)) whole;
}
  where
    said : SaysRequest x.step x.by x.offer.to false vote_call_bytes x.offer.payload x.offer.says
    said = (subst (λ (k : What). IsSaid x.step x.by k x.offer.to x.offer.re x.offer.payload x.offer.says) what (says.carried x there)).0

    fit : IsWritable ids said.request
    fit = fits.requests said.request (says.said x (Requests said.request) there
        (ap (λ (k : What). message_by x.step x.by k x.offer.payload x.offer.says) what ∙ said.is))

    value : VoteRequest
    value = record { term = said.request.term; last_term = said.request.previous_term; last_index = said.request.previous }

    whole : said.request ≡ handled.vote_request_of value x.step x.by x.offer.to
    whole = λ i. record said.request {
      step = said.step i;
      from = said.from i;
      to = said.receiver i;
      append = said.service i;
      commit = (fit.vote said.service).0 i;
      entry = (fit.vote said.service).1 i;
    }

-- an answer to a vote request that was made reads as the answer that it says
pub answers_as_said : (codec : CodecLaws) (ids : List ℕ) (made : List SentTransfer) (bag : List Message) → AreSaid made bag → AreWritable ids bag
    → (x : SentTransfer) → In x made → x.offer.what ≡ Vote → VoteAnswersAsSaid x
answers_as_said codec ids made bag says fits x there what = record {
  answer = said.answer;
  said = said.is;
  read = ap vote_answer_of said.written
      ∙ codec.vote_answers (record { term = said.answer.term; granted = said.answer.success })
      (fits.answers said.answer (says.said x (Answers said.answer) there
      (ap (λ (k : What). message_by x.step x.by k x.offer.payload x.offer.says) what ∙ said.is)));
}
  where
    said : SaysAnswer x.step x.by x.offer.to x.offer.re false vote_bytes x.offer.payload x.offer.says
    said = subst (λ (k : What). IsSaid x.step x.by k x.offer.to x.offer.re x.offer.payload x.offer.says) what (says.carried x there)
