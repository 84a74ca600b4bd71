-- The transfers of a step as they come: each is apart from all before it, and there are few.
use Rattle.std.proofs.Common.{◌≡◌, ℕ, ◌+◌, ◌<◌, ◌≤◌, List, [], ◌∷◌, ◌++◌, length, length-append, inl, inr, refl, sym, ap, subst, arith, Option}
use Rattle.can_frame.specs.declared.step.What.{What}
use Rattle.can_frame.specs.declared.step.What.TheVariants.{Alloc, Disc, Stat, InfoQ, Info, VoteQ, Vote, AppQ, App}
use Rattle.raft_model.specs.Lists.{In}
use Rattle.raft_model.specs.Messages.{Message}
use Rattle.alloc_spec.specs.StepState.{StepState}
use Rattle.alloc_spec.specs.Transfers.{Offer, has_room, id_of}
use Rattle.alloc_spec_laws.specs.Apart.{AreApart, AreAllApart}
use Rattle.alloc_spec_laws.proofs.Lists.{in_append}

-- the order in which transfers of these kinds come in a step; Allocations may come twice
abbrev pub rank : What → ℕ
rank Disc = 1
rank Stat = 2
rank InfoQ = 3
rank Info = 4
rank Vote = 5
rank App = 6
rank Alloc = 7
rank VoteQ = 8
rank AppQ = 9

-- the offer that a step makes as it sends
abbrev pub sent : What → ℕ → List ℕ → Option Message → StepState → Offer
sent what to payload says g = record {
  what = what;
  to = to;
  id = id_of g.allocator.ids what to;
  payload = payload;
  re = 0;
  says = says;
  fitted = has_room g.allocator.queue payload;
}

pub record Listed (most : ℕ) (Is : Offer → Type 0) (offers : List Offer) : Type 0 where
  pub few : length offers ≤ most
  pub apart : AreAllApart offers
  pub each : (offer : Offer) → In offer offers → Is offer

apart_more : (offers : List Offer) (new : Offer) → AreAllApart offers → ((offer : Offer) → In offer offers → AreApart offer new)
    → AreAllApart (offers ++ new ∷ [])
apart_more [] new a h = ((λ offer i. absurd i), tt)
apart_more (first ∷ rest) new a h = (
  λ offer i. elim (in_append offer rest (new ∷ []) i) [
    | inl j ↦ a.0 offer j
    | inr (inl e) ↦ subst (λ (o : Offer). AreApart first o) (sym e) (h first (inl refl))
    | inr (inr j) ↦ absurd j
  ],
  apart_more rest new a.1 (λ offer i. h offer (inr i)),
)

pub one_more : (most : ℕ) (Is Js : Offer → Type 0) (offers : List Offer) (new : Offer) → Listed most Is offers
    → ((offer : Offer) → Is offer → AreApart offer new) → ((offer : Offer) → Is offer → Js offer) → Js new
    → Listed (most + 1) Js (offers ++ new ∷ [])
one_more most Is Js offers new h apart keeps is = record {
  few = omega (arith, h.few, length-append offers (new ∷ []));
  apart = apart_more offers new h.apart (λ offer i. apart offer (h.each offer i));
  each = λ offer i. elim (in_append offer offers (new ∷ []) i) [
    | inl j ↦ keeps offer (h.each offer j)
    | inr (inl e) ↦ subst Js (sym e) is
    | inr (inr j) ↦ absurd j
  ];
}

pub no_more : (most more : ℕ) (Is Js : Offer → Type 0) (offers : List Offer) → Listed most Is offers → most ≤ more
    → ((offer : Offer) → Is offer → Js offer) → Listed more Js offers
no_more most more Is Js offers h n keeps = record
    { few = omega (arith, h.few, n); apart = h.apart; each = λ offer i. keeps offer (h.each offer i) }

pub none : (Is : Offer → Type 0) → Listed 0 Is []
none Is = record { few = omega arith; apart = tt; each = λ offer i. absurd i }

-- an offer of a lower rank is apart from one of a higher
pub apart_below : (low : ℕ) (offer new : Offer) → rank offer.what < low → low ≤ rank new.what → AreApart offer new
apart_below low offer new a b fits too same to = let e : rank offer.what ≡ rank new.what = ap rank same in absurd (omega (arith, a, b, e))
