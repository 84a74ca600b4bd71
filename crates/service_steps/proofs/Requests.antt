-- A request of a device is delivered, and heard.
use Rattle.std.proofs.Common.{◌≡◌, ℕ, true, List, inl, inr, refl, sym, ◌∙◌, ap, Some}
use Rattle.std.specs.Prelude.{◌||◌, not, nat_eq, max, Result, Ok}
use Rattle.can_frame.specs.DataTypes.{allocation}
use Rattle.can_frame.specs.declared.step.Why.{Why}
use Rattle.transfer_rx.specs.declared.accept.Wanted.{Wanted}
use Rattle.std.proofs.lemmas.Bool.Decides.{eqb_tells}
use Rattle.can_frame.specs.declared.identifier.Ident.{Ident}
use Rattle.can_frame.specs.declared.identifier.Kind.TheVariants.{Anonymous}
use Rattle.dsdl_codec.specs.declared.allocation.Allocation.{Allocation}
use Rattle.dsdl_codec.specs.Allocation.{allocation_of}
use Rattle.transfer_rx.specs.Acceptance.{is_for, wanted}
use Rattle.transfer_rx.specs.Reassembly.{Answer, Arrival, Gives, answer}
use Rattle.transfer_rx.specs.Reassembly as rx
use Rattle.transfer_rx.specs.Sessions.{Session}
use Rattle.alloc_spec.specs.Accepted.{rows, setting_for}
use Rattle.alloc_spec.specs.Delivered.{delivery_phase, took}
use Rattle.alloc_spec.specs.Exchange.{hears_allocation}
use Rattle.alloc_spec.specs.Step.{begin_phase, event_phase, with_sessions}
use Rattle.alloc_spec.specs.Step.Event.{Rx}
use Rattle.alloc_spec.specs.StepState.{StepState}
use Rattle.alloc_spec.specs.AllocatorState.{AllocatorState}
use Rattle.service_steps.specs.Requests.{IsRequest, delivery_of}

-- what is anonymous is for everybody
everybody : (me : ℕ) → (nat_eq me 0 || not (nat_eq 0 me)) ≡ true
everybody me = elim (eqb_tells me 0) [
  | inl z ↦ rw (z.0) refl
  | inr z ↦ rw (z.0) (elim (eqb_tells 0 me) [ inl y ↦ absurd (z.1 (sym y.1)) | inr y ↦ rw (y.0) refl ])
]

for_all : (me : ℕ) (ident : Ident) → ident.kind ≡ Anonymous → ident.source ≡ 0 → is_for me ident ≡ true
for_all me ident kind source = rw (kind) (rw (source) (everybody me))

wanted_is : (me : ℕ) (arrival : Arrival) (message : Allocation) (r : IsRequest arrival message)
    → wanted rows me arrival.id ≡ Ok (record { ident = r.ident; signature = allocation.signature })
unfolding wanted rows
wanted_is me arrival message r =
    rw (r.read) (rw (for_all me r.ident r.kind r.source) (rw (r.kind) (rw (r.number) refl)))

alone_is : (me : ℕ) (sessions : List Session) (arrival : Arrival) (message : Allocation) (r : IsRequest arrival message)
    → (rx.of_wanted (setting_for me) arrival sessions (Ok (record { ident = r.ident; signature = allocation.signature }))).answer
    ≡ Gives (delivery_of arrival r.ident)
alone_is me sessions arrival message r = rw (r.kind) (rw (r.first) (rw (r.last) (rw (r.toggle) refl)))

pub delivered : (me : ℕ) (sessions : List Session) (arrival : Arrival) (message : Allocation) (r : IsRequest arrival message)
    → answer (setting_for me) sessions arrival ≡ Gives (delivery_of arrival r.ident)
unfolding rx.step
delivered me sessions arrival message r =
    ap (λ (w : Result Wanted Why). (rx.of_wanted (setting_for me) arrival sessions w).answer) (wanted_is me arrival message r)
    ∙ alone_is me sessions arrival message r

-- it is the same request at each moment
abbrev later : (arrival : Arrival) (message : Allocation) (moment : ℕ) → IsRequest arrival message
    → IsRequest (record arrival { moment = moment }) message
later arrival message moment r = record {
  ident = r.ident;
  read = r.read;
  kind = r.kind;
  number = r.number;
  source = r.source;
  first = r.first;
  last = r.last;
  toggle = r.toggle;
  says = r.says;
}

hears : (number : ℕ) (arrival : Arrival) (message : Allocation) (ident : Ident) (g : StepState) → ident.kind ≡ Anonymous
    → allocation_of (delivery_of arrival ident).payload ≡ Some message
    → delivery_phase number (delivery_of arrival ident) g ≡ took (hears_allocation number message g)
unfolding delivery_phase
hears number arrival message ident g kind says = rw (kind) (rw (says) refl)

-- the step with a request is one that hears it
pub heard : (t : AllocatorState) (number : ℕ) (arrival : Arrival) (message : Allocation) → IsRequest arrival message
    → event_phase number (Rx arrival) (begin_phase number arrival.moment t)
    ≡ took (hears_allocation number message (with_sessions arrival (begin_phase number arrival.moment t)))
heard t number arrival message r =
    rw (delivered t.me t.sessions (record arrival { moment = max t.now arrival.moment }) message (later arrival message (max t.now arrival.moment) r))
    (hears number (record arrival { moment = max t.now arrival.moment }) message r.ident
    (with_sessions arrival (begin_phase number arrival.moment t)) r.kind r.says)
