-- Two members of a calm, of which the one asks and the other answers: append requests, or vote requests.
use Rattle.std.proofs.Common.{◌≡◌, ◌≢◌, ℕ, ◌+◌, ◌*◌, ◌≤◌, List, [], ◌∷◌, ◌++◌, subst, inl, inr, Some}
use Rattle.std.specs.Prelude.{⊤}
use Rattle.can_frame.specs.declared.identifier.Kind.TheVariants.{Request as RequestKind, Response}
use Rattle.can_frame.specs.declared.step.What.{What}
use Rattle.raft_model.specs.Lists.{In}
use Rattle.bus_rows.specs.declared.row.Row.{Row}
use Rattle.alloc_spec.specs.AllocatorState.{members_of}
use Rattle.alloc_spec.specs.AllocatorState.{AllocatorState}
use Rattle.alloc_spec.specs.Step.{Event, step}
use Rattle.alloc_spec.specs.Transfers.{Offer, SentTransfer, kind_of, number_of}
use Rattle.alloc_spec_laws.proofs.Choices.{and_left, and_right}
use Rattle.alloc_spec_laws.specs.Apart.{AreAllApart}
use Rattle.service_leader.specs.CallsComeBack.{HasPlace}
use Rattle.service_calm.specs.Calm.{Member as OfMember, Party}
use Rattle.service_calm.specs.Comes.{Delivers, HasMemory, IsHeard, Sends, sent_by}
use Rattle.service_calm.proofs.Counting.{IsCounted, is_one, is_to, is_to_true, ones}
use Rattle.service_calm.proofs.Group.{CalmLaws}
use Rattle.service_calm.proofs.Pair.{out_ones}
use Rattle.bus_rows.specs.Timed.{Timed, rows_in}
use Rattle.service_alone.specs.Calm.{Pace}
use Rattle.bus_spec.specs.Cluster.{Cluster, after_row, after_rows, step_of}
use Rattle.bus_spec.specs.Members.MemberStatus.{Up}

-- ---- small facts

pub none_in : {A : Type 0} (x : A) (l : List A) → l ≡ [] → In x l → ⊥
none_in {A = A} x l e i = subst (λ (k : List A). In x k) e i

pub in_one : {A : Type 0} (x y : A) (l : List A) → l ≡ y ∷ [] → In x l → x ≡ y
in_one {A = A} x y l e i = elim (subst (λ (k : List A). In x k) e i) [ inl same ↦ same | inr j ↦ absurd j ]

-- the offers of a kind in a step are sent
pub of_ones : (p : ℕ) (w : Cluster) (row : Row) (s : AllocatorState) → (w.member p).status ≡ Up s → (event : Event) → step_of w row ≡ Some (p, event) → (what : What) (to : ℕ) (o : Offer)
    → In o (ones what to (step s (w.rows + 1) event).step_state.offers) → Sends p w row o × (o.what ≡ what) × (o.to ≡ to)
of_ones p w row s up event is_step what to o i =
    let r = out_ones (is_one what to) (step s (w.rows + 1) event).step_state.offers o i in
    let is = is_to_true what to o (and_right o.fitted (is_to what to o) r.1) in (
      record { server = s; runs = up; event = event; in_step = is_step; offered = r.0; fitted = and_left o.fitted (is_to what to o) r.1 },
      is.0,
      is.1,
    )

-- ---- the two

-- In this row, in which the request x is delivered to it, member m answers: to who asked, under the transfer ID of the
-- request; and this holds of its server before the row, and of the answer.
pub record IsAnswered (m : ℕ) (answers : What) (Tells : AllocatorState → Offer → Type 0) (x : SentTransfer) (w : Cluster) (row : Row) : Type 0 where
  pub offer : Offer
  pub sends : Sends m w row offer
  pub what : offer.what ≡ answers
  pub to : offer.to ≡ x.by
  pub id : offer.id ≡ x.offer.id
  pub server : AllocatorState
  pub runs : (w.member m).status ≡ Up server
  pub tells : Tells server offer

-- Member n asks member m, by requests of the one sort, and m answers by responses of the other.
pub record Exchange : Type 1 where
  -- what is said below
  pub laws : CalmLaws
  pub apart_offers : (t : AllocatorState) (number : ℕ) (event : Event) → AreAllApart (step t number event).step_state.offers
  pub stay : (t : AllocatorState) (number : ℕ) (event : Event) (node : ℕ) → In node (members_of t)
      → In node (members_of (step t number event).step_state.allocator)
  -- the calm
  pub group : List Party
  pub clocks : Party → ℕ
  pub pace : Pace
  pub nodes : (p : ℕ) → In (OfMember p) group → (1 ≤ p) × (p ≤ 125)
  -- who asks, and whom it asks
  pub n : ℕ
  pub m : ℕ
  pub in_n : In (OfMember n) group
  pub in_m : In (OfMember m) group
  pub apart : n ≢ m
  pub quick : 2 * pace.delay ≤ 2000
  -- what is asked, and what is answered
  pub asks : What
  pub answers : What
  pub heard_asks : IsHeard m asks m
  pub heard_answers : IsHeard n answers n
  pub counted : IsCounted asks m
  pub asks_kind : kind_of asks ≡ RequestKind
  pub answers_kind : kind_of answers ≡ Response
  pub numbers : number_of answers ≡ number_of asks
  -- what is read of a request, what an answer tells of who is asked, and that this one answers
  pub Reads : SentTransfer → Type 0
  pub Tells : AllocatorState → Offer → Type 0
  pub answered : (x : SentTransfer) (w : Cluster) (row : Row) (delivers : Delivers m x w row) → delivers.server.me ≡ m → x.offer.what ≡ asks → Reads x
      → In x.by (members_of delivers.server) → HasPlace m w → IsAnswered m answers Tells x w row
  -- what is read of an answer
  pub Told : SentTransfer → Type 0
  -- where the clocks of the two stood when the calm began, and the transfer IDs under which a first request may begin, and a first answer
  pub base_m : ℕ
  pub BeginsM : ℕ → Type 0
  pub base_n : ℕ
  pub BeginsN : ℕ → Type 0

module _ (both : Exchange) where
  -- what is given of the world before a row, and what is read of the row
  pub record Given (w : Cluster) (row : Row) : Type 0 where
    pub memory_n : HasMemory both.n w
    pub memory_m : HasMemory both.m w
    pub place : HasPlace both.m w
    pub read : (offer : Offer) → Sends both.n w row offer → offer.what ≡ both.asks → both.Reads (sent_by both.n w offer)
    pub told : (offer : Offer) → Sends both.m w row offer → offer.what ≡ both.answers → both.Told (sent_by both.m w offer)

  abbrev pub AllGiven : Cluster → List Timed → Type 0
  AllGiven w [] = ⊤
  AllGiven w (timed ∷ rest) = Given w timed.row × AllGiven (after_row w timed.row) rest

  -- what is given of one of these rows
  pub given_at : (front rest : List Timed) (timed : Timed) (w : Cluster) → AllGiven w (front ++ timed ∷ rest) → Given (after_rows w (rows_in front)) timed.row
  given_at [] rest timed w all = all.0
  given_at (first ∷ front) rest timed w all = given_at front rest timed (after_row w first.row) all.1
