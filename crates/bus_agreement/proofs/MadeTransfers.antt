-- What a finished step adds to what was made and said.
use Rattle.std.proofs.Common.{◌≡◌, ℕ, ◌<◌, ◌≤◌, Bool, true, false, List, [], ◌∷◌, refl, sym, ap, subst, ◌∙◌, arith, ◌⊎◌, inl, inr, Option, Some, None}
use Rattle.std.specs.Prelude.{filter_map, if◌then◌else◌}
use Rattle.std.specs.List.{cons_option}
use Rattle.raft_model.specs.Lists.{In}
use Rattle.raft_model.specs.Messages.{Message}
use Rattle.raft_model.specs.Runs.{bag_with}
use Rattle.transfer_tx.specs.Queue.{Queued}
use Rattle.alloc_spec_laws.specs.Apart.{OneByName}
use Rattle.alloc_spec_laws.specs.Sound.{IsInRange}
use Rattle.alloc_spec_laws.specs.Waiting.{all_frames_put, frames_put}
use Rattle.alloc_spec.specs.StepState.{message_made}
use Rattle.alloc_spec.specs.Transfers.{SentTransfer, Offer, frames_of, message_of}
use Rattle.bus_spec.specs.Refinement.{transfers_of_offers}
use Rattle.bus_agreement.specs.Frames.{AreTransfers}
use Rattle.bus_agreement.proofs.Lists.{in_append, never}

abbrev pub made_by : ℕ → ℕ → Offer → SentTransfer
made_by row m offer = record { step = row; by = m; offer = offer }

-- a transfer that this step made
pub record IsNew (row m : ℕ) (offers : List Offer) (x : SentTransfer) : Type 0 where
  pub offer : Offer
  pub offered : In offer offers
  pub fitted : offer.fitted ≡ true
  pub is : x ≡ made_by row m offer

later : (row m : ℕ) (first : Offer) (rest : List Offer) (x : SentTransfer) → IsNew row m rest x → IsNew row m (first ∷ rest) x
later row m first rest x is = record { offer = is.offer; offered = inr is.offered; fitted = is.fitted; is = is.is }

module _ (row m : ℕ) where
  pub still_made : (offers : List Offer) (earlier : List SentTransfer) (x : SentTransfer) → In x earlier → In x (transfers_of_offers row m offers earlier)
  still_made [] earlier x i = i
  still_made (offer ∷ offers) earlier x i = still_made offers _ x (by offer.fitted) where
    by : (b : Bool) → In x (if b then made_by row m offer ∷ earlier else earlier)
    by true = inr i
    by false = i

  pub newly_made : (offers : List Offer) (earlier : List SentTransfer) (offer : Offer) → In offer offers → offer.fitted ≡ true
      → In (made_by row m offer) (transfers_of_offers row m offers earlier)
  newly_made [] earlier offer i fits = absurd i
  newly_made (first ∷ rest) earlier offer (inl e) fits = still_made rest _ (made_by row m offer) (by first.fitted (ap (λ (o : Offer). o.fitted) (sym e) ∙ fits)) where
    by : (b : Bool) → b ≡ true → In (made_by row m offer) (if b then made_by row m first ∷ earlier else earlier)
    by true is = inl (ap (made_by row m) e)
    by false is = never is
  newly_made (first ∷ rest) earlier offer (inr i) fits = newly_made rest _ offer i fits

  pub made_when : (offers : List Offer) (earlier : List SentTransfer) (x : SentTransfer) → In x (transfers_of_offers row m offers earlier) → In x earlier ⊎ IsNew row m offers x
  made_when [] earlier x i = inl i
  made_when (first ∷ rest) earlier x i = by (made_when rest _ x i) where
    by_fitted : (b : Bool) → first.fitted ≡ b → In x (if b then made_by row m first ∷ earlier else earlier) → In x earlier ⊎ IsNew row m (first ∷ rest) x
    by_fitted true e (inl is) = inr (record { offer = first; offered = inl refl; fitted = e; is = is })
    by_fitted true e (inr i) = inl i
    by_fitted false e i = inl i

    by : In x (if first.fitted then made_by row m first ∷ earlier else earlier) ⊎ IsNew row m rest x → In x earlier ⊎ IsNew row m (first ∷ rest) x
    by (inl i) = by_fitted first.fitted refl i
    by (inr is) = inr (later row m first rest x is)

-- ---- the bag

pub still_posted : (messages bag : List Message) (message : Message) → In message bag → In message (bag_with messages bag)
still_posted [] bag message i = i
still_posted (first ∷ rest) bag message i = still_posted rest (first ∷ bag) message (inr i)

pub newly_posted : (messages bag : List Message) (message : Message) → In message messages → In message (bag_with messages bag)
newly_posted [] bag message i = absurd i
newly_posted (first ∷ rest) bag message (inl e) = still_posted rest (first ∷ bag) message (inl e)
newly_posted (first ∷ rest) bag message (inr i) = newly_posted rest (first ∷ bag) message i

pub posted_when : (messages bag : List Message) (message : Message) → In message (bag_with messages bag) → In message messages ⊎ In message bag
posted_when [] bag message i = inr i
posted_when (first ∷ rest) bag message i = elim (posted_when rest (first ∷ bag) message i) [
  | inl j ↦ inl (inr j)
  | inr (inl e) ↦ inl (inl e)
  | inr (inr j) ↦ inr j
]

-- a transfer that fitted says its message
pub says_it : (number me : ℕ) (offers : List Offer) (offer : Offer) (message : Message) → In offer offers → offer.fitted ≡ true
    → message_of number me offer ≡ Some message → In message (filter_map (message_made number me) offers)
says_it number me [] offer message i fits is = absurd i
says_it number me (first ∷ rest) offer message (inl e) fits is =
    subst (λ (o : Option Message). In message (cons_option o (filter_map (message_made number me) rest)))
    (sym (ap (message_made number me) (sym e) ∙ (ap (λ (b : Bool). if b then message_of number me offer else None) fits ∙ is))) (inl refl)
says_it number me (first ∷ rest) offer message (inr i) fits is = by (message_made number me first) (says_it number me rest offer message i fits is) where
  by : (o : Option Message) → In message (filter_map (message_made number me) rest) → In message (cons_option o (filter_map (message_made number me) rest))
  by None j = j
  by (Some m) j = inr j

-- ---- the queue

pub frame_put : (number me : ℕ) (offers : List Offer) (frame : Queued) → In frame (all_frames_put number me offers)
    → (offer : Offer) × In offer offers × (offer.fitted ≡ true) × In frame (frames_of (made_by number me offer))
frame_put number me [] frame i = absurd i
frame_put number me (first ∷ rest) frame i = elim (in_append frame (frames_put number me first) (all_frames_put number me rest) i) [
  | inl here ↦ by first.fitted refl here
  | inr there ↦ let r = frame_put number me rest frame there in (r.0, inr r.1, r.2, r.3)
]
  where
    by : (b : Bool) → first.fitted ≡ b → In frame (if b then frames_of (made_by number me first) else [])
        → (offer : Offer) × In offer (first ∷ rest) × (offer.fitted ≡ true) × In frame (frames_of (made_by number me offer))
    by true e j = (first, inl refl, e, j)
    by false e j = absurd j

-- ---- transfers

module _ (row m : ℕ) (ids : List ℕ) (made : List SentTransfer) (are : AreTransfers ids made) (past : (x : SentTransfer) → In x made → x.step < row)
    (offers : List Offer) (one : OneByName offers) (ranges : (offer : Offer) → In offer offers → IsInRange offer) (listed : In m ids) (some : 1 ≤ row) where
  abbrev more : List SentTransfer
  more = transfers_of_offers row m offers made

  new_step : (x : SentTransfer) → IsNew row m offers x → x.step ≡ row
  new_step x is = ap (λ (y : SentTransfer). y.step) is.is

  pub once_more : (x y : SentTransfer) → In x more → In y more → x.step ≡ y.step → x.offer.what ≡ y.offer.what → x.offer.to ≡ y.offer.to
      → x.offer.id ≡ y.offer.id → x ≡ y
  once_more x y i j step what to id = by (made_when row m offers made x i) (made_when row m offers made y j) where
    by : In x made ⊎ IsNew row m offers x → In y made ⊎ IsNew row m offers y → x ≡ y
    by (inl a) (inl b) = are.once x y a b step what to id
    by (inl a) (inr b) = absurd (omega (arith, past x a, step, new_step y b))
    by (inr a) (inl b) = absurd (omega (arith, past y b, step, new_step x a))
    by (inr a) (inr b) =
        let o : a.offer ≡ b.offer = one a.offer b.offer a.offered b.offered a.fitted b.fitted
        (ap (λ (z : SentTransfer). z.offer.what) (sym a.is) ∙ (what ∙ ap (λ (z : SentTransfer). z.offer.what) b.is))
        (ap (λ (z : SentTransfer). z.offer.to) (sym a.is) ∙ (to ∙ ap (λ (z : SentTransfer). z.offer.to) b.is))
        (ap (λ (z : SentTransfer). z.offer.id) (sym a.is) ∙ (id ∙ ap (λ (z : SentTransfer). z.offer.id) b.is)) in
        a.is ∙ (ap (made_by row m) o ∙ sym b.is)

  -- a fact of each transfer made before, and of each that is new
  pub each_made : (P : SentTransfer → Type 0) → ((x : SentTransfer) → In x made → P x) → ((offer : Offer) → In offer offers → offer.fitted ≡ true → P (made_by row m offer))
      → (x : SentTransfer) → In x more → P x
  each_made P before new x i = elim (made_when row m offers made x i) [
    | inl a ↦ before x a
    | inr a ↦ subst P (sym a.is) (new a.offer a.offered a.fitted)
  ]

  pub transfers_more : AreTransfers ids more
  transfers_more = record {
    once = once_more;
    numbered = each_made (λ x. 1 ≤ x.step) are.numbered (λ offer i fits. some);
    makers = each_made (λ x. In x.by ids) are.makers (λ offer i fits. listed);
    ranges = each_made (λ x. IsInRange x.offer) are.ranges (λ offer i fits. ranges offer i);
  }
