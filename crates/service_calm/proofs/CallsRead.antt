-- The bytes of a call read as what it says.
use Rattle.std.proofs.Common.{◌≡◌, ℕ, ◌+◌, Bool, true, List, refl, sym, ◌∙◌, ap, subst, Option, None, Some}
use Rattle.std.proofs.lemmas.Option.{IfSome_then}
use Rattle.std.specs.Prelude.{if◌then◌else◌}
use Rattle.can_frame.specs.declared.step.What.{What}
use Rattle.can_frame.specs.declared.step.What.TheVariants.{AppQ}
use Rattle.dsdl_codec.specs.declared.append_request.AppendRequest.{AppendRequest}
use Rattle.dsdl_codec.specs.AppendRequest.{append_request_of}
use Rattle.raft_core.specs.Handled as handled
use Rattle.raft_log.specs.KeyDisk.{are_put, puts_on}
use Rattle.raft_model.specs.Lists.{In}
use Rattle.raft_model.specs.Messages.{Message, Request}
use Rattle.raft_model.specs.Messages.Message.{Requests}
use Rattle.bus_rows.specs.declared.row.Row.{Row}
use Rattle.bus_rows.specs.declared.row.Row.TheVariants.{AEnd, AOpen, ARx, ASend, ATick, Crash, Ext, Fault, Open, Rx, Send, Tick}
use Rattle.alloc_spec.specs.AllocatorState.{AllocatorState}
use Rattle.alloc_spec.specs.Ending.{append_call_bytes}
use Rattle.alloc_spec.specs.Step.{Event, step}
use Rattle.alloc_spec.specs.StepState.{StepState}
use Rattle.alloc_spec.specs.Transfers.{Offer, SentTransfer, message_by}
use Rattle.alloc_spec_laws.proofs.Choices.{either}
use Rattle.alloc_spec_laws.specs.Saying.{IsSaid, SaysRequest}
use Rattle.bus_agreement.specs.LawsBelow.{CodecLaws}
use Rattle.bus_agreement.specs.Said.{AreSaid, AreWritable, IsWritable}
use Rattle.bus_agreement.proofs.MadeTransfers.{newly_made}
use Rattle.service_alone.proofs.Members.{IsQuiet, steps_up, written}
use Rattle.service_calm.specs.Calls.{ReadsAsSaid}
use Rattle.service_calm.specs.Comes.{Sends, sent_by}
use Rattle.bus_spec.specs.Cluster.{Cluster, step_of}
use Rattle.bus_spec.specs.Members.{Member, MemberStatus, after_cut_off, after_writing, member_after_step, puts_of}
use Rattle.bus_spec.specs.Members.MemberStatus.{Up}
use Rattle.bus_spec.specs.Refinement.{transfers_of_offers, transfers_of_row, transfers_of_step}

-- ---- the call is made

abbrev of_step : Cluster → Option (ℕ × Event) → List SentTransfer → List SentTransfer
of_step w None earlier = earlier
of_step w (Some s) earlier = transfers_of_step (w.rows + 1) s.0 s.1 (w.member s.0).status (w.member s.0) earlier

-- the transfers of a row are those of the step that it is
row_made : (w : Cluster) (row : Row) (earlier : List SentTransfer) → transfers_of_row w row earlier ≡ of_step w (step_of w row) earlier
row_made w (Tick n ms word) earlier = refl
row_made w (Rx n k ms) earlier = refl
row_made w (Send n) earlier = refl
row_made w (ATick a ms word) earlier = refl
row_made w (ARx a k ms word) earlier = refl
row_made w (ASend a) earlier = refl
row_made w (Open n told ms word) earlier = refl
row_made w (Ext frame) earlier = refl
row_made w (Crash n calls pattern) earlier = refl
row_made w (Fault n call) earlier = refl
row_made w (AOpen a uid pref ms word) earlier = refl
row_made w (AEnd a) earlier = refl

-- who runs behind a step has done its puts
abbrev DidPut : Member → StepState → AllocatorState → Member → Type 0
DidPut x g server y = y.status ≡ Up server → are_put (puts_of x g) x.disk.calls ≡ true

all_put : (x : Member) (row : ℕ) (t server : AllocatorState) (g : StepState) → DidPut x g server (after_writing x row t g)
all_put x row t server g =
    either (DidPut x g server) (are_put (puts_of x g) x.disk.calls) (written x g) (after_cut_off x row t g (puts_on (puts_of x g) x.disk)) (λ e up. e)
    (λ e. either (DidPut x g server) (puts_on (puts_of x g) x.disk).calls.stopped _ _ (λ f up. absurd (cc (up))) (λ f up. absurd (cc (up))))

pub sent_made : (w : Cluster) (row : Row) (n : ℕ) (offer : Offer) (earlier : List SentTransfer) → IsQuiet (w.member n).disk → Sends n w row offer
    → In (sent_by n w offer) (transfers_of_row w row earlier)
sent_made w row n offer earlier quiet sends =
    subst (In (sent_by n w offer)) (sym (row_made w row earlier ∙ ap (λ (s : Option (ℕ × Event)). of_step w s earlier) sends.in_step))
    (subst (λ (status : MemberStatus). In (sent_by n w offer) (transfers_of_step (w.rows + 1) n sends.event status (w.member n) earlier)) (sym sends.runs)
    (subst (λ (b : Bool). In (sent_by n w offer) (if b then transfers_of_offers (w.rows + 1) n g.offers earlier else earlier)) (sym done)
    (newly_made (w.rows + 1) n g.offers earlier offer sends.offered sends.fitted)))
  where
    g : StepState
    g = (step sends.server (w.rows + 1) sends.event).step_state

    done : are_put (puts_of (w.member n) g) (w.member n).disk.calls ≡ true
    done = all_put (w.member n) (w.rows + 1) sends.server g.allocator g
        (ap (λ (status : MemberStatus). (member_after_step (w.rows + 1) sends.event status (w.member n)).status) (sym sends.runs)
        ∙ (steps_up (w.rows + 1) sends.event sends.server (w.member n) (record { status = sends.runs; quiet = quiet })).status)

-- ---- its bytes

pub reads_as_said : (codec : CodecLaws) (ids : List ℕ) (made : List SentTransfer) (bag : List Message) → AreSaid made bag → AreWritable ids bag
    → (x : SentTransfer) → In x made → x.offer.what ≡ AppQ → ReadsAsSaid x
reads_as_said codec ids made bag says fits x there what = record {
  request = value;
  read = ap append_request_of said.written
      ∙ codec.append_requests value (record { term = fit.term; prev_term = fit.previous_term; entry = IfSome_then said.request.entry fit.entry (λ entry is. is.fits) });
  said = said.is ∙ ap (λ (r : Request). Some (Requests r)) whole;
}
  where
    said : SaysRequest x.step x.by x.offer.to true append_call_bytes x.offer.payload x.offer.says
    said = (subst (λ (k : What). IsSaid x.step x.by k x.offer.to x.offer.re x.offer.payload x.offer.says) what (says.carried x there)).0

    fit : IsWritable ids said.request
    fit = fits.requests said.request (says.said x (Requests said.request) there
        (ap (λ (k : What). message_by x.step x.by k x.offer.payload x.offer.says) what ∙ said.is))

    value : AppendRequest
    value = record {
      term = said.request.term;
      prev_term = said.request.previous_term;
      prev_index = said.request.previous;
      commit = said.request.commit;
      entry = said.request.entry;
    }

    whole : said.request ≡ handled.append_request_of value x.step x.by x.offer.to
    whole = λ i. record said.request { step = said.step i; from = said.from i; to = said.receiver i; append = said.service i }
