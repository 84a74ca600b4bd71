-- A request that a step sends, and for which the queue had room, is pending: what a step's calls keep of it.
use Rattle.std.proofs.Common.{◌≡◌, ◌≢◌, ℕ, true, false, List, [], ◌∷◌, ◌++◌, refl, sym, ◌∙◌, ap, subst, inl, inr, Option, Some}
use Rattle.std.specs.Prelude.{◌⊎◌}
use Rattle.std.proofs.lemmas.Bool.Decides.{eqb_tells}
use Rattle.can_frame.specs.declared.step.What.{What}
use Rattle.can_frame.specs.declared.step.What.TheVariants.{Alloc}
use Rattle.raft_core.specs.Times.{Sending}
use Rattle.raft_model.specs.Lists.{In, at, at_here, at_other}
use Rattle.raft_model.specs.Messages.{Request}
use Rattle.raft_model.specs.Messages.Message.{Requests}
use Rattle.alloc_spec.specs.Transfers.{Offer}
use Rattle.alloc_spec_laws.specs.Apart.{AreAllApart}
use Rattle.alloc_spec_laws.proofs.Lists.{in_append, in_back, in_front}
use Rattle.service_calm.proofs.Counting.{is_one, ones}
use Rattle.service_calm.proofs.Follows.{few}
use Rattle.service_calm.proofs.Pair.{in_ones, is_one_of}

-- requests of this kind to peer m
module _ (what : What) (m : ℕ) where
  -- one that had room is among these offers
  abbrev pub HasSent : List Offer → Type 0
  HasSent offers = (offer : Offer) × In offer offers × (offer.what ≡ what) × (offer.to ≡ m) × (offer.fitted ≡ true)

  -- one of those is pending, and this holds of it: what it says, its transfer ID and this moment are kept
  pub record IsPending (Asks : Request → Type 0) (offers : List Offer) (pending : ℕ → Option Request) (sending : ℕ → Option Sending) (now : ℕ) : Type 0 where
    pub offer : Offer
    pub offered : In offer offers
    pub what_is : offer.what ≡ what
    pub to : offer.to ≡ m
    pub fitted : offer.fitted ≡ true
    pub asked : Request
    pub asks : Asks asked
    pub says : offer.says ≡ Some (Requests asked)
    pub pending_is : pending m ≡ Some asked
    pub kept : sending m ≡ Some (record { id = offer.id; moment = now })

  module _ (Asks : Request → Type 0) (offers : List Offer) (pending : ℕ → Option Request) (sending : ℕ → Option Sending) (now : ℕ) where
    -- one is sent to each peer at most
    pub same_offer : (kept : IsPending Asks offers pending sending now) (offer : Offer) → In offer offers → offer.what ≡ what → offer.to ≡ m → offer.fitted ≡ true
        → what ≢ Alloc → AreAllApart offers → kept.offer ≡ offer
    same_offer kept offer offered is to fitted other apart = one (ones what m offers) (few what m offers other apart)
        (in_ones (is_one what m) offers kept.offer kept.offered (is_one_of what m kept.offer kept.fitted kept.what_is kept.to))
        (in_ones (is_one what m) offers offer offered (is_one_of what m offer fitted is to))
      where
        one : (l : List Offer) → (l ≡ []) ⊎ ((o : Offer) × (l ≡ o ∷ [])) → In kept.offer l → In offer l → kept.offer ≡ offer
        one l (inl none) i j = absurd (subst (λ (k : List Offer). In offer k) none j)
        one l (inr o) i j = elim (subst (λ (k : List Offer). In kept.offer k) o.1 i) [
          | inl e ↦ elim (subst (λ (k : List Offer). In offer k) o.1 j) [ inl f ↦ e ∙ sym f | inr f ↦ absurd f ]
          | inr e ↦ absurd e
        ]

    -- another offer, of this request to peer q, leaves it so
    module _ (h : HasSent offers → IsPending Asks offers pending sending now) (q : ℕ) (asked : Request) (own : Offer) (is : own.what ≡ what) (to : own.to ≡ q)
        (says : own.says ≡ Some (Requests asked)) where
      earlier : (own.fitted ≡ true → own.to ≡ m → ⊥) → HasSent (offers ++ own ∷ []) → HasSent offers
      earlier none c = elim (in_append c.0 offers (own ∷ []) c.1) [
        | inl i ↦ (c.0, i, c.2, c.3, c.4)
        | inr (inl e) ↦ absurd (none (sym (ap (λ (o : Offer). o.fitted) e) ∙ c.4) (sym (ap (λ (o : Offer). o.to) e) ∙ c.3))
        | inr (inr i) ↦ absurd i
      ]

      stays : (then_pending : ℕ → Option Request) (then_sending : ℕ → Option Sending) → then_pending m ≡ pending m → then_sending m ≡ sending m
          → HasSent offers → IsPending Asks (offers ++ own ∷ []) then_pending then_sending now
      stays then_pending then_sending p s sent = let k = h sent in record {
        offer = k.offer;
        offered = in_front k.offer offers (own ∷ []) k.offered;
        what_is = k.what_is;
        to = k.to;
        fitted = k.fitted;
        asked = k.asked;
        asks = k.asks;
        says = k.says;
        pending_is = p ∙ k.pending_is;
        kept = s ∙ k.kept;
      }

      -- it finds no room
      pub only_offered : own.fitted ≡ false → HasSent (offers ++ own ∷ []) → IsPending Asks (offers ++ own ∷ []) pending sending now
      only_offered full c = stays pending sending refl refl (earlier (λ fits at_m. cc (sym full ∙ fits)) c)

      -- it finds room, and is pending
      pub now_pending : own.fitted ≡ true → (m ≡ q → Asks asked) → HasSent (offers ++ own ∷ [])
          → IsPending Asks (offers ++ own ∷ []) (at pending q (Some asked)) (at sending q (Some (record { id = own.id; moment = now }))) now
      now_pending fits asks c = elim (eqb_tells m q) [
        | inl z ↦ record {
          offer = own;
          offered = in_back own offers (own ∷ []) (inl refl);
          what_is = is;
          to = to ∙ sym z.1;
          fitted = fits;
          asked = asked;
          asks = asks z.1;
          says = says;
          pending_is = at_here pending q m (Some asked) z.1;
          kept = at_here sending q m (Some (record { id = own.id; moment = now })) z.1;
        }
        | inr z ↦ stays (at pending q (Some asked)) (at sending q (Some (record { id = own.id; moment = now }))) (at_other pending q m (Some asked) z.1)
            (at_other sending q m (Some (record { id = own.id; moment = now })) z.1) (earlier (λ fit at_m. z.1 (sym at_m ∙ to)) c)
      ]
