-- A transfer is: the step goes on.
use Rattle.std.proofs.Common.{◌≡◌, ℕ, Bool, true, false, List, [], ◌∷◌, ◌++◌, Option, Some, None, refl, sym, ap, ◌∙◌, append-nil, filter_map, map}
use Rattle.alloc_handlers.proofs.Words.{AllocatorState, Durable, Ghosts, Ids, IsInStep, Member, Message, Offer, Offered, StandsFor, StepState, Waiting, counted_if, has_room, id_of, map-append, outgoing, pair_in, pair_list, pair_of_offer, pairs_if_fitted, queued_if, sent_of, with_response, with_transfer}
use Rattle.std.proofs.lemmas.List.Elements.{filter_map-append}
use Rattle.arrayvec.specs.ArrayVec.{ArrayVec}
use Rattle.can_frame.specs.declared.step.Sent.{Sent}
use Rattle.can_frame.specs.declared.step.What.{What}
use Rattle.transfer_tx.specs.Queue.{Queued, queued_frames}
use Rattle.alloc_spec.specs.Transfers.{GivenPair}

-- what waits after a transfer was, with its own counter or under the transfer ID of its request
abbrev pub sent_on : ℕ → What → ℕ → List ℕ → Waiting → Waiting
sent_on step what to payload w = record w {
  queue = queued_if (has_room w.queue payload) w.queue (queued_frames (outgoing w.me what to (id_of w.ids what to) payload) step 0);
  ids = counted_if (has_room w.queue payload) what to w.ids;
}

abbrev pub answered_on : ℕ → What → ℕ → ℕ → List ℕ → ℕ → Waiting → Waiting
answered_on step what to id payload re w =
    record w { queue = queued_if (has_room w.queue payload) w.queue (queued_frames (outgoing w.me what to id payload) step re) }

-- the pairs with those of one more offer
filter_one : (f : Offer → Option GivenPair) (offer : Offer) → filter_map f (offer ∷ []) ≡ pair_list (f offer)
filter_one f offer = by (f offer) refl
  where
    by : (given : Option GivenPair) → f offer ≡ given → filter_map f (offer ∷ []) ≡ pair_list (f offer)
    by None is = rw is refl
    by (Some given) is = rw is refl

more_given : (offers : List Offer) (offer : Offer) (before after : List GivenPair) → before ≡ filter_map pair_of_offer offers
    → after ≡ before ++ pair_list (pair_of_offer offer) → after ≡ filter_map pair_of_offer (offers ++ (offer ∷ []))
more_given offers offer before after is more =
    more ∙ ap (λ list. list ++ pair_list (pair_of_offer offer)) is
    ∙ ap (λ list. filter_map pair_of_offer offers ++ list) (sym (filter_one pair_of_offer offer))
    ∙ sym (filter_map-append pair_of_offer offers (offer ∷ []))

-- a transfer that gives no pair
none_given : (fitted : Bool) (what : What) (payload : List ℕ) → pair_in what payload ≡ None → pairs_if_fitted fitted what payload ≡ []
none_given true what payload none = ap pair_list none
none_given false what payload none = refl

more_sent : (offers : List Offer) (offer : Offer) (before after : List Sent) → before ≡ map sent_of offers → after ≡ before ++ (sent_of offer ∷ [])
    → after ≡ map sent_of (offers ++ (offer ∷ []))
more_sent offers offer before after is more = more ∙ ap (λ list. list ++ (sent_of offer ∷ [])) is ∙ sym (map-append sent_of offers (offer ∷ []))

module _ {D : Type 0} {disk : Ghosts D} (old : Member D disk) (t : AllocatorState) (h : StandsFor old t) (w : Waiting) (listed : Offered) where
  -- the member with another outbox and another list stands for the server with another queue
  pub stands_sent : (queue : List Queued) (ids : Ids) → w ≡ record { me = t.me; queue = queue; ids = ids } → StandsFor (record old { outbox = w; offered = listed }) (record t { queue = queue; ids = ids })
  stands_sent queue ids is = record {
    me = h.me;
    size = h.size;
    raft = h.raft;
    exchange = h.exchange;
    watch = h.watch;
    counting = h.counting;
    cluster = h.cluster;
    outbox = is;
    opened_at = h.opened_at;
    now = h.now;
    status_at = h.status_at;
  }

-- a transfer was queued or not, and was listed, with the pair that it gives
module _ {D : Type 0} {disk : Ghosts D} (start : Durable D disk) (old : Member D disk) (w : Waiting) (listed : Offered) (step : ℕ) (what : What) (to : ℕ) (payload : List ℕ)
    (g : StepState) (says : Option Message) (h : IsInStep start old g) where
  -- under the next transfer ID
  pub sent_step_state : (fitted : Bool) → fitted ≡ has_room old.outbox.queue payload
      → w ≡ record old.outbox { queue = queued_if fitted old.outbox.queue (queued_frames (outgoing old.outbox.me what to (id_of old.outbox.ids what to) payload) step 0); ids = counted_if fitted what to old.outbox.ids }
      → listed.sent.items ≡ old.offered.sent.items ++ (record { what = what; to = to; fitted = fitted } ∷ [])
      → listed.answers.items ≡ old.offered.answers.items ++ pairs_if_fitted fitted what payload
      → IsInStep start (record old { outbox = w; offered = listed }) (with_transfer step what to payload says g)
  sent_step_state fitted fits waits more gives =
      let o : old.outbox ≡ record { me = g.allocator.me; queue = g.allocator.queue; ids = g.allocator.ids } = h.stands.outbox in
      let e : w ≡ sent_on step what to payload old.outbox =
      waits ∙ ap (λ (b : Bool). record old.outbox { queue = queued_if b old.outbox.queue (queued_frames (outgoing old.outbox.me what to (id_of old.outbox.ids what to) payload) step 0); ids = counted_if b what to old.outbox.ids }) fits in
      let r : fitted ≡ has_room g.allocator.queue payload = fits ∙ ap (λ (x : Waiting). has_room x.queue payload) o in
      record {
        stands = stands_sent old g.allocator h.stands w listed _ _ (e ∙ ap (sent_on step what to payload) o);
        sent = more_sent g.offers _ old.offered.sent.items listed.sent.items h.sent (more ∙ ap (λ (b : Bool). old.offered.sent.items ++ (record { what = what; to = to; fitted = b } ∷ [])) r);
        given = more_given g.offers _ old.offered.answers.items listed.answers.items h.given (gives ∙ ap (λ (b : Bool). old.offered.answers.items ++ pairs_if_fitted b what payload) r);
        puts = h.puts;
      }

  -- under the transfer ID of a request
  pub answered_step_state : (id re : ℕ) (fitted : Bool) → fitted ≡ has_room old.outbox.queue payload
      → w ≡ record old.outbox { queue = queued_if fitted old.outbox.queue (queued_frames (outgoing old.outbox.me what to id payload) step re) }
      → listed.sent.items ≡ old.offered.sent.items ++ (record { what = what; to = to; fitted = fitted } ∷ [])
      → listed.answers.items ≡ old.offered.answers.items ++ pairs_if_fitted fitted what payload
      → IsInStep start (record old { outbox = w; offered = listed }) (with_response step what to id payload re says g)
  answered_step_state id re fitted fits waits more gives =
      let o : old.outbox ≡ record { me = g.allocator.me; queue = g.allocator.queue; ids = g.allocator.ids } = h.stands.outbox in
      let e : w ≡ answered_on step what to id payload re old.outbox =
      waits ∙ ap (λ (b : Bool). record old.outbox { queue = queued_if b old.outbox.queue (queued_frames (outgoing old.outbox.me what to id payload) step re) }) fits in
      let r : fitted ≡ has_room g.allocator.queue payload = fits ∙ ap (λ (x : Waiting). has_room x.queue payload) o in
      record {
        stands = stands_sent old g.allocator h.stands w listed _ _ (e ∙ ap (answered_on step what to id payload re) o);
        sent = more_sent g.offers _ old.offered.sent.items listed.sent.items h.sent (more ∙ ap (λ (b : Bool). old.offered.sent.items ++ (record { what = what; to = to; fitted = b } ∷ [])) r);
        given = more_given g.offers _ old.offered.answers.items listed.answers.items h.given (gives ∙ ap (λ (b : Bool). old.offered.answers.items ++ pairs_if_fitted b what payload) r);
        puts = h.puts;
      }

-- one that gives no pair, of which none was listed
pub lists_none : (before listed : Offered) (fitted : Bool) (what : What) (payload : List ℕ) → pair_in what payload ≡ None → listed.answers ≡ before.answers
    → listed.answers.items ≡ before.answers.items ++ pairs_if_fitted fitted what payload
lists_none before listed fitted what payload none same =
    ap (λ (list : ArrayVec GivenPair). list.items) same ∙ sym (append-nil before.answers.items) ∙ ap (λ (list : List GivenPair). before.answers.items ++ list) (sym (none_given fitted what payload none))
