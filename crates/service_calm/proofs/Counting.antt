-- The transfer IDs of a step: those of one kind and destination follow each other.
use Rattle.std.proofs.Common.{◌≡◌, ℕ, ◌+◌, ◌<◌, ◌≤◌, Bool, true, false, List, [], ◌∷◌, ◌++◌, length, max, append-nil, length-set, inl, inr, refl, sym, ◌∙◌, ap, subst, arith, cond, Option, get_or-set_same}
use Rattle.std.specs.Prelude.{⊤, ◌&&◌, ◌/◌, filter, map, nat_eq, slice_index, if◌then◌else◌}
use Rattle.std.proofs.lemmas.Bool.Decides.{eqb_tells, leb_tells}
use Rattle.std.proofs.lemmas.List.{get_or-set_other, map-append}
use Rattle.std.proofs.lemmas.List.Elements.{filter-append}
use Rattle.can_frame.specs.declared.identifier.Kind.TheVariants.{Response}
use Rattle.can_frame.specs.declared.step.What.{What}
use Rattle.can_frame.specs.declared.step.What.TheVariants.{Alloc, Disc, Stat, InfoQ, Info, VoteQ, Vote, AppQ, App}
use Rattle.can_frame.specs.Cutting.{frame_count}
use Rattle.raft_model.specs.Lists.{In}
use Rattle.raft_model.specs.Messages.{Message}
use Rattle.transfer_rx.specs.Reassembly.{Delivery}
use Rattle.transfer_tx.specs.Queue.{Queued}
use Rattle.alloc_spec.specs.AllocatorState.{AllocatorState}
use Rattle.alloc_spec.specs.Outbox.{counted_if}
use Rattle.alloc_spec.specs.Step.{Event, moment_of, step}
use Rattle.alloc_spec.specs.StepState.{StepState}
use Rattle.alloc_spec.specs.Transfers.{Ids, Offer, has_room, id_after, id_of, ids_after, kind_of}
use Rattle.alloc_spec_laws.proofs.Choices.{le_true}
use Rattle.alloc_spec_laws.proofs.KeptByChanges.{IsSentTo, Keeping}
use Rattle.alloc_spec_laws.proofs.KeptBySteps.{step_keeps}
use Rattle.alloc_spec_laws.proofs.Lists.{in_append}

-- ---- the moment of a step

abbrev Anything : Delivery → Type 0
Anything d = ⊤

abbrev HasNow : ℕ → StepState → Type 0
HasNow now g = g.allocator.now ≡ now

-- the moment is the greatest so far
pub now_after : (t : AllocatorState) (number : ℕ) (event : Event)
    → (step t number event).step_state.allocator.now ≡ max t.now (moment_of event)
now_after t number event = step_keeps number event (HasNow (max t.now (moment_of event))) Anything (record {
  takes_keep = λ given moves g quiet decided h. h;
  proposes_keep = λ given uid node g found h. h;
  sends_keep = λ what to payload says g sends h. h;
  calls_keep = λ what peer move request payload g makes fits h. h;
  responds_keep = λ what d payload says g comes responds h. h;
  changes_keep = λ u g like h. like.now ∙ h;
  watches_keep = λ node happens g has h. h;
  tells_keep = λ g h. h;
  hears_keep = λ d message g comes kind other read h. h;
}) t (λ arrival is d e. tt) refl

-- ---- transfers of one kind and destination

abbrev code : What → ℕ
code Alloc = 0
code Disc = 1
code Stat = 2
code InfoQ = 3
code Info = 4
code VoteQ = 5
code Vote = 6
code AppQ = 7
code App = 8

abbrev what_of : ℕ → What
what_of n = if nat_eq n 0 then Alloc else (if nat_eq n 1 then Disc else (if nat_eq n 2 then Stat else (if nat_eq n 3 then InfoQ
    else (if nat_eq n 4 then Info else (if nat_eq n 5 then VoteQ else (if nat_eq n 6 then Vote else (if nat_eq n 7 then AppQ else App)))))))

code_back : (what : What) → what_of (code what) ≡ what
code_back Alloc = refl
code_back Disc = refl
code_back Stat = refl
code_back InfoQ = refl
code_back Info = refl
code_back VoteQ = refl
code_back Vote = refl
code_back AppQ = refl
code_back App = refl

same_what : (a b : What) → code a ≡ code b → a ≡ b
same_what a b e = sym (code_back a) ∙ (ap what_of e ∙ code_back b)

-- an offer is of this kind, to this node
abbrev pub is_to : What → ℕ → Offer → Bool
is_to what to offer = nat_eq (code offer.what) (code what) && nat_eq offer.to to

-- an offer is of this kind, to this node, and fitted
abbrev pub is_one : What → ℕ → Offer → Bool
is_one what to offer = offer.fitted && is_to what to offer

abbrev pub ones : What → ℕ → List Offer → List Offer
ones what to offers = filter (is_one what to) offers

abbrev pub ids_in : List Offer → List ℕ
ids_in offers = map (λ (offer : Offer). offer.id) offers

pub is_to_true : (what : What) (to : ℕ) (offer : Offer) → is_to what to offer ≡ true → (offer.what ≡ what) × (offer.to ≡ to)
is_to_true what to offer e = elim (eqb_tells (code offer.what) (code what)) [
  | inl z ↦ elim (eqb_tells offer.to to) [ inl y ↦ (same_what offer.what what z.1, y.1) | inr y ↦ absurd (cc (e, z.0, y.0)) ]
  | inr z ↦ absurd (cc (e, z.0))
]

pub is_to_false : (what : What) (to : ℕ) (offer : Offer) → is_to what to offer ≡ false → offer.what ≡ what → offer.to ≡ to → ⊥
is_to_false what to offer e same there = elim (eqb_tells (code offer.what) (code what)) [
  | inl z ↦ elim (eqb_tells offer.to to) [ inl y ↦ cc (e, z.0, y.0) | inr y ↦ y.1 there ]
  | inr z ↦ z.1 (ap code same)
]

-- ---- counters

-- each service has a counter for each node
pub record HasPlaces (ids : Ids) : Type 0 where
  pub info : length ids.info ≡ 128
  pub vote : length ids.vote ≡ 128
  pub append : length ids.append ≡ 128

-- a kind whose transfer IDs are counted, and where it goes
abbrev pub IsCounted : What → ℕ → Type 0
IsCounted Alloc to = to ≡ 0
IsCounted Disc to = to ≡ 0
IsCounted Stat to = to ≡ 0
IsCounted InfoQ to = to < 128
IsCounted Info to = ⊥
IsCounted VoteQ to = to < 128
IsCounted Vote to = ⊥
IsCounted AppQ to = to < 128
IsCounted App to = ⊥

not_response : (what : What) (to : ℕ) → IsCounted what to → kind_of what ≡ Response → ⊥
not_response Alloc to counted e = cc (e)
not_response Disc to counted e = cc (e)
not_response Stat to counted e = cc (e)
not_response InfoQ to counted e = cc (e)
not_response Info to counted e = counted
not_response VoteQ to counted e = cc (e)
not_response Vote to counted e = counted
not_response AppQ to counted e = cc (e)
not_response App to counted e = counted

places_after : (what : What) (to : ℕ) (ids : Ids) → HasPlaces ids → HasPlaces (ids_after what to ids)
places_after Alloc to ids h = record { info = h.info; vote = h.vote; append = h.append }
places_after Disc to ids h = record { info = h.info; vote = h.vote; append = h.append }
places_after Stat to ids h = record { info = h.info; vote = h.vote; append = h.append }
places_after InfoQ to ids h = record { info = length-set ids.info to (id_after (slice_index ids.info to)) ∙ h.info; vote = h.vote; append = h.append }
places_after Info to ids h = record { info = length-set ids.info to (id_after (slice_index ids.info to)) ∙ h.info; vote = h.vote; append = h.append }
places_after VoteQ to ids h = record { info = h.info; vote = length-set ids.vote to (id_after (slice_index ids.vote to)) ∙ h.vote; append = h.append }
places_after Vote to ids h = record { info = h.info; vote = length-set ids.vote to (id_after (slice_index ids.vote to)) ∙ h.vote; append = h.append }
places_after AppQ to ids h = record { info = h.info; vote = h.vote; append = length-set ids.append to (id_after (slice_index ids.append to)) ∙ h.append }
places_after App to ids h = record { info = h.info; vote = h.vote; append = length-set ids.append to (id_after (slice_index ids.append to)) ∙ h.append }

places_if : (fits : Bool) (what : What) (to : ℕ) (ids : Ids) → HasPlaces ids → HasPlaces (counted_if fits what to ids)
places_if true what to ids h = places_after what to ids h
places_if false what to ids h = h

-- a counter goes on by one
goes_on : (what : What) (to : ℕ) (ids : Ids) → IsCounted what to → HasPlaces ids → id_of (ids_after what to ids) what to ≡ id_after (id_of ids what to)
goes_on Alloc to ids counted h = refl
goes_on Disc to ids counted h = refl
goes_on Stat to ids counted h = refl
goes_on InfoQ to ids counted h = let r = h.info in get_or-set_same ids.info to (id_after (slice_index ids.info to)) 0 (omega (arith, counted, r))
goes_on Info to ids counted h = absurd counted
goes_on VoteQ to ids counted h = let r = h.vote in get_or-set_same ids.vote to (id_after (slice_index ids.vote to)) 0 (omega (arith, counted, r))
goes_on Vote to ids counted h = absurd counted
goes_on AppQ to ids counted h = let r = h.append in get_or-set_same ids.append to (id_after (slice_index ids.append to)) 0 (omega (arith, counted, r))
goes_on App to ids counted h = absurd counted

-- the counter of another kind or destination stays
stays : (a : What) (there : ℕ) (what : What) (to : ℕ) (ids : Ids) → IsSentTo (kind_of a) there → IsCounted what to → (a ≡ what → there ≡ to → ⊥)
    → id_of (ids_after a there ids) what to ≡ id_of ids what to
stays Disc there Disc to ids sent counted differ = absurd (differ refl (sent ∙ sym counted))
stays Stat there Stat to ids sent counted differ = absurd (differ refl (sent ∙ sym counted))
stays InfoQ there InfoQ to ids sent counted differ = get_or-set_other ids.info there to (id_after (slice_index ids.info there)) 0 (λ e. differ refl (sym e))
stays VoteQ there VoteQ to ids sent counted differ = get_or-set_other ids.vote there to (id_after (slice_index ids.vote there)) 0 (λ e. differ refl (sym e))
stays AppQ there AppQ to ids sent counted differ = get_or-set_other ids.append there to (id_after (slice_index ids.append there)) 0 (λ e. differ refl (sym e))
stays Info there what to ids sent counted differ = absurd sent
stays Vote there what to ids sent counted differ = absurd sent
stays App there what to ids sent counted differ = absurd sent
stays Alloc there Alloc to ids sent counted differ = absurd (differ refl (sent ∙ sym counted))
stays Disc there Alloc to ids sent counted differ = refl
stays Stat there Alloc to ids sent counted differ = refl
stays InfoQ there Alloc to ids sent counted differ = refl
stays VoteQ there Alloc to ids sent counted differ = refl
stays AppQ there Alloc to ids sent counted differ = refl
stays a there Info to ids sent counted differ = absurd counted
stays a there Vote to ids sent counted differ = absurd counted
stays a there App to ids sent counted differ = absurd counted
stays Alloc there Disc to ids sent counted differ = refl
stays Alloc there Stat to ids sent counted differ = refl
stays Alloc there InfoQ to ids sent counted differ = refl
stays Alloc there VoteQ to ids sent counted differ = refl
stays Alloc there AppQ to ids sent counted differ = refl
stays Disc there Stat to ids sent counted differ = refl
stays Disc there InfoQ to ids sent counted differ = refl
stays Disc there VoteQ to ids sent counted differ = refl
stays Disc there AppQ to ids sent counted differ = refl
stays Stat there Disc to ids sent counted differ = refl
stays Stat there InfoQ to ids sent counted differ = refl
stays Stat there VoteQ to ids sent counted differ = refl
stays Stat there AppQ to ids sent counted differ = refl
stays InfoQ there Disc to ids sent counted differ = refl
stays InfoQ there Stat to ids sent counted differ = refl
stays InfoQ there VoteQ to ids sent counted differ = refl
stays InfoQ there AppQ to ids sent counted differ = refl
stays VoteQ there Disc to ids sent counted differ = refl
stays VoteQ there Stat to ids sent counted differ = refl
stays VoteQ there InfoQ to ids sent counted differ = refl
stays VoteQ there AppQ to ids sent counted differ = refl
stays AppQ there Disc to ids sent counted differ = refl
stays AppQ there Stat to ids sent counted differ = refl
stays AppQ there InfoQ to ids sent counted differ = refl
stays AppQ there VoteQ to ids sent counted differ = refl

-- ---- transfer IDs that follow each other, from the first of them to the one that comes next

abbrev pub Follow : ℕ → List ℕ → ℕ → Type 0
Follow first [] next = next ≡ first
Follow first (id ∷ ids) next = (id ≡ first) × Follow (id_after first) ids next

follow_more : (first next : ℕ) (ids : List ℕ) → Follow first ids next → Follow first (ids ++ next ∷ []) (id_after next)
follow_more first next [] h = (h, ap id_after h)
follow_more first next (id ∷ ids) h = (h.0, follow_more (id_after first) next ids h.1)

-- ---- what a step has offered so far

few_bytes : (count : ℕ) → frame_count count ≤ 32 → count ≤ 223
few_bytes count few = elim (leb_tells count 7) [
  | inl z ↦ omega (arith, z.1)
  | inr z ↦ let e : frame_count count ≡ (count + 8) / 7 = rw (z.0) refl in omega (arith, e, few, z.1)
]

module _ (what : What) (to : ℕ) (counted : IsCounted what to) where
  -- the transfers that fitted have IDs that follow each other from this one on, and are short
  pub record Counted (first : ℕ) (g : StepState) : Type 0 where
    pub follows : Follow first (ids_in (ones what to g.offers)) (id_of g.allocator.ids what to)
    pub places : HasPlaces g.allocator.ids
    pub short : (offer : Offer) → In offer g.offers → offer.fitted ≡ true → length offer.payload ≤ 223

  ids_pushed : (offers : List Offer) (new : Offer) (b : Bool) → is_one what to new ≡ b
      → ids_in (ones what to (offers ++ new ∷ [])) ≡ ids_in (ones what to offers) ++ cond b (new.id ∷ []) []
  ids_pushed offers new b e =
      ap ids_in (filter-append (is_one what to) offers (new ∷ []) ∙ ap (λ (c : Bool). ones what to offers ++ cond c (new ∷ []) []) e)
      ∙ (map-append (λ (offer : Offer). offer.id) (ones what to offers) (cond b (new ∷ []) []) ∙ ap (λ (l : List ℕ). ids_in (ones what to offers) ++ l) (one b))
    where
      one : (c : Bool) → ids_in (cond c (new ∷ []) []) ≡ cond c (new.id ∷ []) []
      one true = refl
      one false = refl

  short_more : (offers : List Offer) (new : Offer) → ((offer : Offer) → In offer offers → offer.fitted ≡ true → length offer.payload ≤ 223)
      → (new.fitted ≡ true → length new.payload ≤ 223) → (offer : Offer) → In offer (offers ++ new ∷ []) → offer.fitted ≡ true → length offer.payload ≤ 223
  short_more offers new h is offer i fits = elim (in_append offer offers (new ∷ []) i) [
    | inl j ↦ h offer j fits
    | inr (inl e) ↦ subst (λ (o : Offer). length o.payload ≤ 223) (sym e) (is (subst (λ (o : Offer). o.fitted ≡ true) e fits))
    | inr (inr j) ↦ absurd j
  ]

  room_short : (queue : List Queued) (payload : List ℕ) → has_room queue payload ≡ true → length payload ≤ 223
  room_short queue payload e =
      let h = le_true (length queue + frame_count (length payload)) 32 e in few_bytes (length payload) (omega (arith, h))

  -- a transfer under the next ID of its counter
  sent_counts : (first : ℕ) (a : What) (there : ℕ) (ids : Ids) (offers : List Offer) (new : Offer) (fits : Bool) → new.what ≡ a → new.to ≡ there
      → new.id ≡ id_of ids a there → new.fitted ≡ fits → IsSentTo (kind_of a) there → HasPlaces ids
      → Follow first (ids_in (ones what to offers)) (id_of ids what to)
      → Follow first (ids_in (ones what to (offers ++ new ∷ []))) (id_of (counted_if fits a there ids) what to)
  sent_counts first a there ids offers new fits is_a is_there its_id its_fit sent places h =
      by fits (is_to what to new) refl its_fit
    where
      none : is_one what to new ≡ false → ids_in (ones what to offers) ≡ ids_in (ones what to (offers ++ new ∷ []))
      none e = sym (ids_pushed offers new false e ∙ append-nil (ids_in (ones what to offers)))

      by : (f same : Bool) → is_to what to new ≡ same → new.fitted ≡ f
          → Follow first (ids_in (ones what to (offers ++ new ∷ []))) (id_of (counted_if f a there ids) what to)
      by false same e fit = subst (λ (l : List ℕ). Follow first l (id_of ids what to)) (none (ap (λ (b : Bool). b && is_to what to new) fit)) h
      by true true e fit =
          let both = is_to_true what to new e in
          let a_is : a ≡ what = sym is_a ∙ both.0 in
          let there_is : there ≡ to = sym is_there ∙ both.1 in
          let one : is_one what to new ≡ true = ap (λ (b : Bool). b && is_to what to new) fit ∙ e in
          let counter : id_of (ids_after a there ids) what to ≡ id_after (id_of ids what to) =
          (λ i. id_of (ids_after (a_is i) (there_is i) ids) what to) ∙ goes_on what to ids counted places in
          let new_id : new.id ≡ id_of ids what to = its_id ∙ (λ i. id_of ids (a_is i) (there_is i)) in
          subst (λ (l : List ℕ). Follow first l (id_of (ids_after a there ids) what to)) (sym (ids_pushed offers new true one))
          (subst (λ (n : ℕ). Follow first (ids_in (ones what to offers) ++ n ∷ []) (id_of (ids_after a there ids) what to)) (sym new_id)
          (subst (λ (n : ℕ). Follow first (ids_in (ones what to offers) ++ id_of ids what to ∷ []) n) (sym counter)
          (follow_more first (id_of ids what to) (ids_in (ones what to offers)) h)))
      by true false e fit =
          subst (λ (l : List ℕ). Follow first l (id_of (ids_after a there ids) what to)) (none (ap (λ (b : Bool). b && is_to what to new) fit ∙ e))
          (subst (λ (n : ℕ). Follow first (ids_in (ones what to offers)) n)
          (sym (stays a there what to ids sent counted (λ x y. is_to_false what to new e (is_a ∙ x) (is_there ∙ y)))) h)

  keeping : (number : ℕ) (event : Event) (first : ℕ) → Keeping number event (Counted first) Anything
  keeping number event first = record {
    takes_keep = λ given moves g quiet decided h. record { follows = h.follows; places = h.places; short = h.short };
    proposes_keep = λ given uid node g found h. record { follows = h.follows; places = h.places; short = h.short };
    sends_keep = λ a there payload says g sends h. record {
      follows = sent_counts first a there g.allocator.ids g.offers _ (has_room g.allocator.queue payload) refl refl refl refl sends.destination h.places h.follows;
      places = places_if (has_room g.allocator.queue payload) a there g.allocator.ids h.places;
      short = short_more g.offers _ h.short (room_short g.allocator.queue payload);
    };
    calls_keep = λ a peer move request payload g makes fits h. record { follows = h.follows; places = h.places; short = h.short };
    responds_keep = λ a d payload says g comes responds h. record {
      follows = subst (λ (l : List ℕ). Follow first l (id_of g.allocator.ids what to)) (sym (ids_pushed g.offers _ false
          (not_one a (answer_to a d payload says g) refl responds.is) ∙ append-nil (ids_in (ones what to g.offers)))) h.follows;
      places = h.places;
      short = short_more g.offers _ h.short (room_short g.allocator.queue payload);
    };
    changes_keep = λ u g like h. record {
      follows = subst (λ (i : Ids). Follow first (ids_in (ones what to g.offers)) (id_of i what to)) (sym like.ids) h.follows;
      places = subst HasPlaces (sym like.ids) h.places;
      short = h.short;
    };
    watches_keep = λ node happens g has h. record { follows = h.follows; places = h.places; short = h.short };
    tells_keep = λ g h. record { follows = h.follows; places = h.places; short = h.short };
    hears_keep = λ d message g comes kind other read h. record { follows = h.follows; places = h.places; short = h.short };
  }
    where
      answer_to : What → Delivery → List ℕ → Option Message → StepState → Offer
      answer_to a d payload says g = record {
        what = a;
        to = d.ident.source;
        id = d.id;
        payload = payload;
        re = d.mark.step;
        says = says;
        fitted = has_room g.allocator.queue payload;
      }

      not_one : (a : What) (new : Offer) → new.what ≡ a → kind_of a ≡ Response → is_one what to new ≡ false
      not_one a new is response = by (is_to what to new) refl
        where
          and_false : (b : Bool) → (b && false) ≡ false
          and_false true = refl
          and_false false = refl

          by : (same : Bool) → is_to what to new ≡ same → is_one what to new ≡ false
          by true e = absurd (not_response what to counted (ap kind_of (sym (is_to_true what to new e).0 ∙ is) ∙ response))
          by false e = ap (λ (b : Bool). new.fitted && b) e ∙ and_false new.fitted

  pub counted_step : (t : AllocatorState) (number : ℕ) (event : Event) → HasPlaces t.ids → Counted (id_of t.ids what to) (step t number event).step_state
  counted_step t number event places = step_keeps number event (Counted (id_of t.ids what to)) Anything (keeping number event (id_of t.ids what to)) t
      (λ arrival is d e. tt) (record { follows = refl; places = places; short = λ offer i fits. absurd i })
