-- The ranges that a step keeps, and what of a server it never changes.
use Rattle.std.proofs.Common.{◌≡◌, ℕ, zero, suc, ◌<◌, ◌≤◌, Bool, true, false, List, [], ◌∷◌, ◌++◌, get_or, replicate, inl, inr, refl, sym, ◌∙◌, ap, subst, arith, Option, Some, None}
use Rattle.std.specs.Prelude.{⊤, cond, ◌^◌, slice_index, slice_set, Ok, Err}
use Rattle.can_frame.specs.declared.identifier.Ident.{Ident}
use Rattle.can_frame.specs.declared.identifier.Kind.{Kind}
use Rattle.can_frame.specs.declared.identifier.Kind.TheVariants.{Anonymous, Message as Broadcast, Request as RequestKind, Response}
use Rattle.can_frame.specs.declared.step.What.{What}
use Rattle.can_frame.specs.declared.step.What.TheVariants.{Alloc, Disc, Stat, InfoQ, Info, VoteQ, Vote, AppQ, App}
use Rattle.can_frame.specs.Identifier.{IsIdentifier, IsInRange as HasRanges, Spells, identifier_of}
use Rattle.cluster_discovery.specs.Members.{Start}
use Rattle.node_discovery.specs.declared.counting.Counting.{Counting}
use Rattle.raft_model.specs.Lists.{In}
use Rattle.raft_model.specs.Messages.{Message}
use Rattle.raft_model.specs.Server.{Store}
use Rattle.can_frame.specs.declared.step.Why.TheVariants.{NotWanted}
use Rattle.transfer_rx.specs.declared.accept.AcceptRow.{AcceptRow}
use Rattle.transfer_rx.specs.declared.accept.Wanted.{Wanted}
use Rattle.transfer_rx.specs.Acceptance.{accepted, first_signature, is_for, wanted, with_signature}
use Rattle.transfer_rx.specs.Reassembly.{Arrival, Delivery, Setting, piece_in}
use Rattle.transfer_rx.specs.Reassembly as rx
use Rattle.transfer_rx.specs.Reassembly.Answer.{Gives}
use Rattle.transfer_rx.specs.Sessions.{Session}
use Rattle.transfer_rx.specs.Sound.{IsDelivered}
use Rattle.alloc_spec.specs.Ending.{commit_phase, tell_phase}
use Rattle.alloc_spec.specs.StepState.{StepState, with_transfer}
use Rattle.alloc_spec.specs.Step.{Event, begin_phase, event_phase, moment_of, after_pop, step}
use Rattle.alloc_spec.specs.AllocatorState.{AllocatorState, start_of}
use Rattle.alloc_spec.specs.Rules.{Rules, opening_by}
use Rattle.alloc_spec.specs.Transfers.{Ids, Offer, first_ids, id_after, has_room, id_of, ids_after, kind_of}
use Rattle.alloc_spec.specs.Outbox.{counted_if}
use Rattle.alloc_spec_laws.specs.Sound.{AreIds, IsDestination, IsInRange, IsOnTheBus, IsSound}
use Rattle.alloc_spec_laws.proofs.KeptByChanges.{IsSentTo, Keeping}
use Rattle.alloc_spec_laws.proofs.Lists.{in_append}
use Rattle.alloc_spec_laws.proofs.KeptBySteps.{event_keeps, step_keeps, tell_keeps}

-- ---- what a step never changes

abbrev HasStart : Start → StepState → Type 0
HasStart start g = start_of g.allocator ≡ start

abbrev Anything : Delivery → Type 0
Anything d = ⊤

start_keeping : (number : ℕ) (event : Event) (start : Start) → Keeping number event (HasStart start) Anything
start_keeping number event start = record {
  takes_keep = λ given moves g quiet decided h. h;
  proposes_keep = λ given uid node g found h. h;
  sends_keep = λ what to payload says g sends h. h;
  calls_keep = λ what peer move request payload g makes fits h. h;
  responds_keep = λ what d payload says g comes responds h. h;
  changes_keep = λ u g like h. like.start ∙ h;
  watches_keep = λ node happens g has h. h;
  tells_keep = λ g h. h;
  hears_keep = λ d message g comes kind other read h. h;
}

start_when_seen : (t : AllocatorState) (number : ℕ) (event : Event)
    → start_of (event_phase number event (begin_phase number (moment_of event) t)).step_state.allocator ≡ start_of t
start_when_seen t number event =
    event_keeps number event (HasStart (start_of t)) Anything (start_keeping number event (start_of t)) (begin_phase number (moment_of event) t)
    (λ arrival is d e. tt) refl

pub start_when_told : (t : AllocatorState) (number : ℕ) (event : Event)
    → start_of (tell_phase number (commit_phase number (event_phase number event (begin_phase number (moment_of event) t)).step_state)).allocator ≡ start_of t
start_when_told t number event =
    tell_keeps number event (HasStart (start_of t)) Anything (start_keeping number event (start_of t))
    (commit_phase number (event_phase number event (begin_phase number (moment_of event) t)).step_state) (start_when_seen t number event)

pub me_when_seen : (t : AllocatorState) (number : ℕ) (event : Event) → (event_phase number event (begin_phase number (moment_of event) t)).step_state.allocator.me ≡ t.me
me_when_seen t number event = ap (λ (s : Start). s.me) (start_when_seen t number event)

pub same_start : (t : AllocatorState) (number : ℕ) (event : Event) → start_of (step t number event).step_state.allocator ≡ start_of t
same_start t number event =
    step_keeps number event (HasStart (start_of t)) Anything (start_keeping number event (start_of t)) t (λ arrival is d e. tt) refl

abbrev HasCounting : Counting → StepState → Type 0
HasCounting counting g = g.allocator.counting ≡ counting

counting_keeping : (number : ℕ) (event : Event) (counting : Counting) → Keeping number event (HasCounting counting) Anything
counting_keeping number event counting = record {
  takes_keep = λ given moves g quiet decided h. h;
  proposes_keep = λ given uid node g found h. h;
  sends_keep = λ what to payload says g sends h. h;
  calls_keep = λ what peer move request payload g makes fits h. h;
  responds_keep = λ what d payload says g comes responds h. h;
  changes_keep = λ u g like h. like.counting ∙ h;
  watches_keep = λ node happens g has h. h;
  tells_keep = λ g h. h;
  hears_keep = λ d message g comes kind other read h. h;
}

pub same_counting : (t : AllocatorState) (number : ℕ) (event : Event) → (step t number event).step_state.allocator.counting ≡ t.counting
same_counting t number event =
    step_keeps number event (HasCounting t.counting) Anything (counting_keeping number event t.counting) t (λ arrival is d e. tt) refl

-- ---- transfer IDs

abbrev AreBelow : List ℕ → Type 0
AreBelow ids = (node : ℕ) → slice_index ids node < 32

next_below : (id : ℕ) → id_after id < 32
next_below id = omega arith

set_below : (ids : List ℕ) (place id : ℕ) → id < 32 → AreBelow ids → AreBelow (slice_set ids place id)
set_below [] place id low h node = h node
set_below (first ∷ rest) zero id low h zero = low
set_below (first ∷ rest) zero id low h (suc node) = h (suc node)
set_below (first ∷ rest) (suc place) id low h zero = h zero
set_below (first ∷ rest) (suc place) id low h (suc node) = set_below rest place id low (λ n. h (suc n)) node

zeros_below : (count node : ℕ) → get_or (replicate count 0) node 0 < 32
zeros_below zero node = omega arith
zeros_below (suc count) zero = omega arith
zeros_below (suc count) (suc node) = zeros_below count node

first_are : AreIds first_ids
first_are = record {
  alloc = omega arith;
  disc = omega arith;
  stat = omega arith;
  info = zeros_below 128;
  vote = zeros_below 128;
  append = zeros_below 128;
}

next_is : (what : What) (to : ℕ) (ids : Ids) → AreIds ids → id_of ids what to < 32
next_is Alloc to ids h = h.alloc
next_is Disc to ids h = h.disc
next_is Stat to ids h = h.stat
next_is InfoQ to ids h = h.info to
next_is Info to ids h = h.info to
next_is VoteQ to ids h = h.vote to
next_is Vote to ids h = h.vote to
next_is AppQ to ids h = h.append to
next_is App to ids h = h.append to

after_info : (to : ℕ) (ids : Ids) → AreIds ids → AreIds (ids_after InfoQ to ids)
after_info to ids h = record {
  alloc = h.alloc;
  disc = h.disc;
  stat = h.stat;
  info = set_below ids.info to (id_after (slice_index ids.info to)) (next_below (slice_index ids.info to)) h.info;
  vote = h.vote;
  append = h.append;
}

after_vote : (to : ℕ) (ids : Ids) → AreIds ids → AreIds (ids_after VoteQ to ids)
after_vote to ids h = record {
  alloc = h.alloc;
  disc = h.disc;
  stat = h.stat;
  info = h.info;
  vote = set_below ids.vote to (id_after (slice_index ids.vote to)) (next_below (slice_index ids.vote to)) h.vote;
  append = h.append;
}

after_append : (to : ℕ) (ids : Ids) → AreIds ids → AreIds (ids_after AppQ to ids)
after_append to ids h = record {
  alloc = h.alloc;
  disc = h.disc;
  stat = h.stat;
  info = h.info;
  vote = h.vote;
  append = set_below ids.append to (id_after (slice_index ids.append to)) (next_below (slice_index ids.append to)) h.append;
}

after_are : (what : What) (to : ℕ) (ids : Ids) → AreIds ids → AreIds (ids_after what to ids)
after_are Alloc to ids h = record
    { alloc = next_below ids.alloc; disc = h.disc; stat = h.stat; info = h.info; vote = h.vote; append = h.append }
after_are Disc to ids h = record
    { alloc = h.alloc; disc = next_below ids.disc; stat = h.stat; info = h.info; vote = h.vote; append = h.append }
after_are Stat to ids h = record
    { alloc = h.alloc; disc = h.disc; stat = next_below ids.stat; info = h.info; vote = h.vote; append = h.append }
after_are InfoQ to ids h = after_info to ids h
after_are Info to ids h = after_info to ids h
after_are VoteQ to ids h = after_vote to ids h
after_are Vote to ids h = after_vote to ids h
after_are AppQ to ids h = after_append to ids h
after_are App to ids h = after_append to ids h

counted_are : (fitted : Bool) (what : What) (to : ℕ) (ids : Ids) → AreIds ids → AreIds (counted_if fitted what to ids)
counted_are true what to ids h = after_are what to ids h
counted_are false what to ids h = h

-- ---- transfers

pub record InRange (g : StepState) : Type 0 where
  pub ids : AreIds g.allocator.ids
  pub offers : (offer : Offer) → In offer g.offers → IsInRange offer

with_one : (offers : List Offer) (new : Offer) → ((offer : Offer) → In offer offers → IsInRange offer) → IsInRange new
    → (offer : Offer) → In offer (offers ++ new ∷ []) → IsInRange offer
with_one offers new h is offer i = elim (in_append offer offers (new ∷ []) i) [
  | inl j ↦ h offer j
  | inr (inl e) ↦ subst (λ (o : Offer). IsInRange o) (sym e) is
  | inr (inr j) ↦ absurd j
]

destination : (kind : Kind) (to : ℕ) → IsSentTo kind to → IsDestination kind to
destination Anonymous to is = is
destination Broadcast to is = is
destination RequestKind to is = is
destination Response to is = absurd is

sends_in_range : (step : ℕ) (what : What) (to : ℕ) (payload : List ℕ) (says : Option Message) (g : StepState) → IsDestination (kind_of what) to
    → InRange g → InRange (with_transfer step what to payload says g)
sends_in_range step what to payload says g is h = record {
  ids = counted_are (has_room g.allocator.queue payload) what to g.allocator.ids h.ids;
  offers = with_one g.offers _ h.offers (record { id = next_is what to g.allocator.ids h.ids; to = is });
}

-- a delivered transfer has an identifier of the table, and a transfer ID
pub record IsRead (d : Delivery) : Type 0 where
  pub ident : IsIdentifier d.ident
  pub id : d.id < 32

asker : (ident : Ident) (what : What) → IsIdentifier ident → ident.kind ≡ RequestKind → kind_of what ≡ Response
    → IsDestination (kind_of what) ident.source
asker ident what h kind is = subst (λ (k : Kind). IsDestination k ident.source) (sym is) (omega (arith, source.1), omega (arith, h.source))
  where
    source : HasRanges RequestKind ident
    source = subst (λ (k : Kind). HasRanges k ident) kind h.by_kind

signed : (for_us : Bool) (signature : Option ℕ) (ident : Ident) (w : Wanted)
    → cond for_us (with_signature ident signature) (Err NotWanted) ≡ Ok w → w.ident ≡ ident
signed false signature ident w e = absurd (cc)
signed true None ident w e = absurd (cc)
signed true (Some n) ident w e = let same : w ≡ record { ident = ident; signature = n } = cc in ap (λ (x : Wanted). x.ident) same

-- the data type of a wanted frame is one of the table
pub wanted_type : (rows : List AcceptRow) (me id : ℕ) (w : Wanted) → wanted rows me id ≡ Ok w
    → (signature : ℕ) × (first_signature rows w.ident.kind w.ident.number ≡ Some signature)
unfolding wanted
wanted_type rows me id w h = go (identifier_of id) h
  where
    there : (for_us : Bool) (ident : Ident) (found : Option ℕ) → first_signature rows ident.kind ident.number ≡ found
        → cond for_us (with_signature ident found) (Err NotWanted) ≡ Ok w
        → (signature : ℕ) × (first_signature rows w.ident.kind w.ident.number ≡ Some signature)
    there false ident found e a = absurd (cc (a))
    there true ident None e a = absurd (cc (a))
    there true ident (Some n) e a =
        let same : w ≡ record { ident = ident; signature = n } = cc (a) in
        (n, ap (λ (x : Wanted). first_signature rows x.ident.kind x.ident.number) same ∙ e)

    go : (read : Option Ident) → accepted rows me read ≡ Ok w
        → (signature : ℕ) × (first_signature rows w.ident.kind w.ident.number ≡ Some signature)
    go None a = absurd (cc (a))
    go (Some ident) a = there (is_for me ident) ident (first_signature rows ident.kind ident.number) refl a

wanted_ident : (rows : List AcceptRow) (me id : ℕ) (w : Wanted) → wanted rows me id ≡ Ok w → identifier_of id ≡ Some w.ident
unfolding wanted
wanted_ident rows me id w h = go (identifier_of id) refl h
  where
    go : (read : Option Ident) → identifier_of id ≡ read → accepted rows me read ≡ Ok w → identifier_of id ≡ Some w.ident
    go None e a = absurd (cc (a))
    go (Some ident) e a =
        e ∙ ap (λ (x : Ident). Some x) (sym (signed (is_for me ident) (first_signature rows ident.kind ident.number) ident w a))

module _ (in_the_table : (id : ℕ) (ident : Ident) → id < 2 ^ 29 → identifier_of id ≡ Some ident → Spells ident id)
    (delivered : (setting : Setting) (sessions : List Session) (arrival : Arrival) (d : Delivery) → rx.answer setting sessions arrival ≡ Gives d
    → IsDelivered setting sessions arrival d) where
  reads_ident : (setting : Setting) (sessions : List Session) (arrival : Arrival) (d : Delivery) → arrival.id < 2 ^ 29
      → IsDelivered setting sessions arrival d → IsRead d
  reads_ident setting sessions arrival d low h = record {
    ident = subst (λ (i : Ident). IsIdentifier i) (sym h.ident)
        (in_the_table arrival.id h.w.ident low (wanted_ident setting.rows setting.me arrival.id h.w h.accepted)).fields;
    id = subst (λ (n : ℕ). n < 32) (sym h.id) (omega arith);
  }

  step_in_range : (t : AllocatorState) (number : ℕ) (event : Event) → AreIds t.ids → IsOnTheBus event → InRange (step t number event).step_state
  step_in_range t number event ids bus =
      step_keeps number event InRange IsRead (record {
        takes_keep = λ given moves g quiet decided h. record { ids = h.ids; offers = h.offers };
        proposes_keep = λ given uid node g found h. record { ids = h.ids; offers = h.offers };
        sends_keep = λ what to payload says g sends h. sends_in_range number what to payload says g (destination (kind_of what) to sends.destination) h;
        calls_keep = λ what peer move request payload g makes fits h. record { ids = h.ids; offers = h.offers };
        responds_keep = λ what d payload says g comes responds h. record {
          ids = h.ids;
          offers = with_one g.offers _ h.offers (record { id = comes.id; to = asker d.ident what comes.ident responds.kind responds.is });
        };
        changes_keep = λ u g like h. record { ids = subst (λ (i : Ids). AreIds i) (sym like.ids) h.ids; offers = h.offers };
        watches_keep = λ node happens g has h. record { ids = h.ids; offers = h.offers };
        tells_keep = λ g h. record { ids = h.ids; offers = h.offers };
        hears_keep = λ d message g comes kind other read h. record { ids = h.ids; offers = h.offers };
      })
      t
      (λ arrival is d e. reads_ident _ _ _ d
      (subst (λ (v : Event). IsOnTheBus v) is bus) (delivered _ _ _ d e))
      (record { ids = ids; offers = λ offer i. absurd i })

  pub transfers_in_range : (t : AllocatorState) (number : ℕ) (event : Event) → IsSound t → IsOnTheBus event
      → (offer : Offer) → In offer (step t number event).step_state.offers → IsInRange offer
  transfers_in_range t number event h bus = (step_in_range t number event h.ids bus).offers

  pub step_sound : (t : AllocatorState) (number : ℕ) (event : Event) → IsSound t → IsOnTheBus event → IsSound (step t number event).step_state.allocator
  step_sound t number event h bus = record {
    size = subst (λ (s : Start). s.size ≤ 5) (sym (same_start t number event)) h.size;
    ids = (step_in_range t number event h.ids bus).ids;
  }

pub opening_sound : (me : ℕ) (rules : Rules) (store : Store) (now word : ℕ) → rules.size ≤ 5 → IsSound (opening_by me rules store now word)
opening_sound me rules store now word small = record { size = small; ids = first_are }

pub popped_sound : (t : AllocatorState) → IsSound t → IsSound (after_pop t)
popped_sound t h = record { size = h.size; ids = h.ids }

pub same_server : (t : AllocatorState) (number : ℕ) (event : Event)
    → ((step t number event).step_state.allocator.me ≡ t.me) × ((step t number event).step_state.allocator.size ≡ t.size)
same_server t number event =
    (ap (λ (s : Start). s.me) (same_start t number event), ap (λ (s : Start). s.size) (same_start t number event))
