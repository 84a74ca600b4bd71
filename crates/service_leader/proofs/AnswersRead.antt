-- The bytes of an answer read as what it says.
use Rattle.std.proofs.Common.{◌≡◌, ℕ, true, List, ◌∙◌, ap, subst}
use Rattle.can_frame.specs.declared.step.What.{What}
use Rattle.can_frame.specs.declared.step.What.TheVariants.{App}
use Rattle.dsdl_codec.specs.AppendAnswer.{append_answer_of}
use Rattle.raft_model.specs.Lists.{In}
use Rattle.raft_model.specs.Messages.{Message}
use Rattle.raft_model.specs.Messages.Message.{Answers}
use Rattle.alloc_spec.specs.Transfers.{SentTransfer, message_by}
use Rattle.alloc_spec_laws.specs.Saying.{IsSaid, SaysAnswer, append_bytes}
use Rattle.bus_agreement.specs.LawsBelow.{CodecLaws}
use Rattle.bus_agreement.specs.Said.{AreSaid, AreWritable}
use Rattle.service_leader.specs.Answers.{AnswersAsSaid}

pub answers_as_said : (codec : CodecLaws) (ids : List ℕ) (made : List SentTransfer) (bag : List Message) → AreSaid made bag → AreWritable ids bag
    → (x : SentTransfer) → In x made → x.offer.what ≡ App → AnswersAsSaid x
answers_as_said codec ids made bag says fits x there what = record {
  answer = said.answer;
  said = said.is;
  read = ap append_answer_of said.written
      ∙ codec.append_answers (record { term = said.answer.term; success = said.answer.success })
      (fits.answers said.answer (says.said x (Answers said.answer) there
      (ap (λ (k : What). message_by x.step x.by k x.offer.payload x.offer.says) what ∙ said.is)));
}
  where
    said : SaysAnswer x.step x.by x.offer.to x.offer.re true append_bytes x.offer.payload x.offer.says
    said = subst (λ (k : What). IsSaid x.step x.by k x.offer.to x.offer.re x.offer.payload x.offer.says) what (says.carried x there)
