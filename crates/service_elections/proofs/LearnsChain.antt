-- What is under way between a member that asks and one that answers, requests and answers together: two at most, with
-- transfer IDs that follow each other.
use Rattle.std.proofs.Common.{◌≡◌, ℕ, ◌+◌, ◌*◌, ◌<◌, ◌≤◌, arith, List, [], ◌∷◌, ◌++◌, max, refl, sym, ◌∙◌, ap, subst, inl, inr}
use Rattle.std.specs.Prelude.{⊤, ◌⊎◌}
use Rattle.can_frame.specs.declared.step.What.{What}
use Rattle.raft_model.specs.Lists.{In}
use Rattle.bus_rows.specs.declared.row.Row.{Row}
use Rattle.bus_rows.specs.declared.row.Row.TheVariants.{Rx}
use Rattle.transfer_rx.specs.Keys.{key_of}
use Rattle.transfer_rx.specs.Reassembly.{Delivery, Gives, answer}
use Rattle.alloc_spec.specs.Accepted.{setting_for}
use Rattle.alloc_spec.specs.AllocatorState.{AllocatorState}
use Rattle.alloc_spec.specs.Transfers.{Offer, id_after, ident_of}
use Rattle.service_candidate.specs.Votes.{Stands}
use Rattle.service_leader.proofs.ExchangeAsks.{ids_made}
use Rattle.service_leader.proofs.Exchange.{Exchange}
use Rattle.service_calm.specs.Calm.{Member as OfMember, Party}
use Rattle.service_calm.specs.Comes.{Sends, sent_by}
use Rattle.service_calm.proofs.Counting.{Follow}
use Rattle.service_calm.proofs.Follows.{apart_next}
use Rattle.service_calm.proofs.Pending.{Made}
use Rattle.bus_rows.specs.Timed.{Timed}
use Rattle.service_alone.specs.Calm.{Pace}
use Rattle.bus_spec.specs.Cluster.{Cluster, after_row, arrival_at, frame_at}
use Rattle.bus_spec.specs.Members.MemberStatus.{Up}

-- ---- requests that are answered, and their answers

module _ (delay : ℕ) where
  -- each answer has the transfer ID of its request, and was made two delays later at most
  abbrev pub Match : List Made → List Made → Type 0
  Match [] [] = ⊤
  Match [] (y ∷ ys) = ⊥
  Match (z ∷ zs) [] = ⊥
  Match (z ∷ zs) (y ∷ ys) = (y.transfer.offer.id ≡ z.transfer.offer.id) × (y.at ≤ z.at + 2 * delay) × Match zs ys

  -- one more
  pub match_more : (zs ys : List Made) (z y : Made) → Match zs ys → y.transfer.offer.id ≡ z.transfer.offer.id → y.at ≤ z.at + 2 * delay
      → Match (zs ++ z ∷ []) (ys ++ y ∷ [])
  match_more [] [] z y h same soon = (same, soon, tt)
  match_more [] (b ∷ ys) z y h same soon = absurd h
  match_more (a ∷ zs) [] z y h same soon = absurd h
  match_more (a ∷ zs) (b ∷ ys) z y h same soon = (h.0, h.1, match_more zs ys z y h.2 same soon)

  -- what was answered two delays ago at most was asked four delays ago at most
  pub match_late : (zs ys : List Made) (at : ℕ) → Match zs ys → ((y : Made) → In y ys → at ≤ y.at + 2 * delay) → (z : Made) → In z zs → at ≤ z.at + 4 * delay
  match_late [] ys at h late z i = absurd i
  match_late (a ∷ zs) [] at h late z i = absurd h
  match_late (a ∷ zs) (b ∷ ys) at h late z (inl same) =
      let l = late b (inl refl) in let e = ap (λ (x : Made). x.at) same in let k = h.1 in omega (arith, l, e, k)
  match_late (a ∷ zs) (b ∷ ys) at h late z (inr i) = match_late zs ys at h.2 (λ y j. late y (inr j)) z i

  -- the request of an answer
  pub match_of : (zs ys : List Made) → Match zs ys → (y : Made) → In y ys → (z : Made) × In z zs × (y.transfer.offer.id ≡ z.transfer.offer.id)
  match_of [] [] h y i = absurd i
  match_of [] (b ∷ ys) h y i = absurd h
  match_of (a ∷ zs) [] h y i = absurd i
  match_of (a ∷ zs) (b ∷ ys) h y (inl same) = (a, inl refl, ap (λ (x : Made). x.transfer.offer.id) same ∙ h.0)
  match_of (a ∷ zs) (b ∷ ys) h y (inr i) = let k = match_of zs ys h.2 y i in (k.0, inr k.1, k.2)

  -- the request of the first answer
  pub match_first : (zs ys : List Made) (y : Made) → Match zs (y ∷ ys) → (z : Made) × (others : List Made) × (zs ≡ z ∷ others)
      × (y.transfer.offer.id ≡ z.transfer.offer.id) × Match others ys
  match_first [] ys y h = absurd h
  match_first (a ∷ zs) ys y h = (a, zs, refl, h.0, h.2)

module _ (both : Exchange) (Open : Made → AllocatorState → Type 0) where
  abbrev clocks : Party → ℕ
  clocks = both.clocks

  abbrev pace : Pace
  pace = both.pace

  abbrev n : ℕ
  n = both.n

  abbrev m : ℕ
  m = both.m

  abbrev asks : What
  asks = both.asks

  abbrev answers : What
  answers = both.answers

  -- the wait of who asks began when it asked this, or later
  abbrev pub Old : Made → AllocatorState → Type 0
  Old z t = z.at + clocks (OfMember n) ≤ t.times.since

  -- Two requests at most are under way, or their answers. The last is opened; but the wait may have begun anew behind it.
  -- The one before it is old.
  abbrev pub Few : AllocatorState → List Made → Type 0
  Few t [] = ⊤
  Few t (z ∷ []) = Open z t ⊎ Old z t
  Few t (z ∷ x ∷ []) = Old z t × Open x t
  Few t (z ∷ x ∷ y ∷ more) = ⊥

  -- no answer under this transfer ID is delivered to who asks, which runs with this server
  abbrev pub NoAnswer : (id : ℕ) → Cluster → Row → AllocatorState → Type 0
  NoAnswer id w row t = (k ms : ℕ) → row ≡ Rx n k ms → (d : Delivery) → key_of d.ident ≡ key_of (ident_of m answers n)
      → answer (setting_for n) t.sessions (arrival_at (frame_at w.frames k) (max t.now ms)) ≡ Gives d → d.id ≡ id → ⊥

  -- What a row does to who asks. Its clock reads no more than the moment of the row before it. Its wait goes on or begins anew. Where it stands for election, its wait was over, and
  -- begins anew. A request that is opened stays so until its answer comes, or the member stands. A request that is sent is
  -- opened behind the row, and no other one.
  pub record Turn (w : Cluster) (timed : Timed) : Type 0 where
    pub clock : (t : AllocatorState) → (w.member n).status ≡ Up t → t.now ≤ timed.at + clocks (OfMember n)
    pub since : (t u : AllocatorState) → (w.member n).status ≡ Up t → ((after_row w timed.row).member n).status ≡ Up u
        → (u.times.since ≡ t.times.since) ⊎ (timed.at + clocks (OfMember n) ≤ u.times.since)
    pub stood : (term : ℕ) → Stands n term w timed.row → (t u : AllocatorState) → (w.member n).status ≡ Up t
        → ((after_row w timed.row).member n).status ≡ Up u
        → (t.times.since + 2000 ≤ timed.at + clocks (OfMember n)) × (timed.at + clocks (OfMember n) ≤ u.times.since)
    pub stays : (z : Made) (t u : AllocatorState) → (w.member n).status ≡ Up t → ((after_row w timed.row).member n).status ≡ Up u → Open z t
        → timed.at ≤ z.at + 4 * pace.delay → NoAnswer z.transfer.offer.id w timed.row t → Open z u ⊎ ((term : ℕ) × Stands n term w timed.row)
    pub opens : (offer : Offer) → Sends n w timed.row offer → offer.what ≡ asks → offer.to ≡ m → (u : AllocatorState)
        → ((after_row w timed.row).member n).status ≡ Up u
        → Open (record { at = timed.at; transfer = sent_by n w offer }) u
        × ((z : Made) → Open z u → z.transfer.offer.id ≡ offer.id)

  abbrev pub AllTurns : Cluster → List Timed → Type 0
  AllTurns w [] = ⊤
  AllTurns w (timed ∷ rest) = Turn w timed × AllTurns (after_row w timed.row) rest

  -- ---- a row

  module _ (quick : 4 * pace.delay < 1000) (w : Cluster) (timed : Timed) (turn : Turn w timed) (t u : AllocatorState) (up : (w.member n).status ≡ Up t)
      (up_then : ((after_row w timed.row).member n).status ≡ Up u) where
    abbrev made : Offer → Made
    made offer = record { at = timed.at; transfer = sent_by n w offer }

    -- none is made, or one, under the next transfer ID
    abbrev AreNews : List Made → (counter : ℕ) → Type 0
    AreNews more counter = (more ≡ []) ⊎ ((o : Offer) × (more ≡ made o ∷ []) × Sends n w timed.row o × (o.what ≡ asks) × (o.to ≡ m) × (o.id ≡ counter))

    -- what is old stays so
    old_still : (z : Made) → z.at ≤ timed.at → Old z t → Old z u
    old_still z past old = elim (turn.since t u up up_then) [
      | inl same ↦ omega (arith, old, same)
      | inr anew ↦ omega (arith, past, anew)
    ]

    -- where it stands, what it asked before is old then
    old_then : (z : Made) → z.at ≤ timed.at → (term : ℕ) × Stands n term w timed.row → Old z u
    old_then z past s = let k = (turn.stood s.0 s.1 t u up up_then).1 in omega (arith, past, k)

    -- it does not stand while something old is under way
    not_now : (z : Made) → timed.at ≤ z.at + 4 * pace.delay → Old z t → (term : ℕ) × Stands n term w timed.row → ⊥
    not_now z late old s = let k = (turn.stood s.0 s.1 t u up up_then).0 in omega (arith, late, old, k, quick)

    -- who has an opened request makes no other one
    none_more : (x : Made) (o : Offer) (counter : ℕ) → Open x u → Sends n w timed.row o → o.what ≡ asks → o.to ≡ m → o.id ≡ counter
        → counter ≡ id_after x.transfer.offer.id → ⊥
    none_more x o counter opened sends what to id is =
        apart_next x.transfer.offer.id ((turn.opens o sends what to u up_then).1 x opened ∙ (id ∙ is))

    -- ---- none is taken from them

    pub passes_few : (list more : List Made) (first counter : ℕ) → Follow first (ids_made list) counter → Few t list
        → ((z : Made) → In z list → (z.at ≤ timed.at) × (timed.at ≤ z.at + 4 * pace.delay) × NoAnswer z.transfer.offer.id w timed.row t)
        → AreNews more counter → Few u (list ++ more)
    passes_few [] more first counter follow few each (inl none) = subst (λ (l : List Made). Few u l) (sym none) tt
    passes_few [] more first counter follow few each (inr o) = subst (λ (l : List Made). Few u l) (sym o.1) (inl (turn.opens o.0 o.2 o.3 o.4 u up_then).0)
    passes_few (z ∷ []) more first counter follow (inl opened) each news = elim (turn.stays z t u up up_then opened (each z (inl refl)).1 (each z (inl refl)).2) [
      | inl still ↦ elim news [
        | inl none ↦ subst (λ (l : List Made). Few u (z ∷ l)) (sym none) (inl still)
        | inr o ↦ absurd (none_more z o.0 counter still o.2 o.3 o.4 o.5 (follow.1 ∙ ap id_after (sym follow.0)))
      ]
      | inr s ↦ elim news [
        | inl none ↦ subst (λ (l : List Made). Few u (z ∷ l)) (sym none) (inr (old_then z (each z (inl refl)).0 s))
        | inr o ↦ subst (λ (l : List Made). Few u (z ∷ l)) (sym o.1) (old_then z (each z (inl refl)).0 s, (turn.opens o.0 o.2 o.3 o.4 u up_then).0)
      ]
    ]
    passes_few (z ∷ []) more first counter follow (inr old) each news = elim news [
      | inl none ↦ subst (λ (l : List Made). Few u (z ∷ l)) (sym none) (inr (old_still z (each z (inl refl)).0 old))
      | inr o ↦ subst (λ (l : List Made). Few u (z ∷ l)) (sym o.1) (old_still z (each z (inl refl)).0 old, (turn.opens o.0 o.2 o.3 o.4 u up_then).0)
    ]
    passes_few (z ∷ x ∷ []) more first counter follow few each news =
        elim (turn.stays x t u up up_then few.1 (each x (inr (inl refl))).1 (each x (inr (inl refl))).2) [
          | inl still ↦ elim news [
            | inl none ↦ subst (λ (l : List Made). Few u (z ∷ x ∷ l)) (sym none) (old_still z (each z (inl refl)).0 few.0, still)
            | inr o ↦ absurd (none_more x o.0 counter still o.2 o.3 o.4 o.5 (follow.1.1 ∙ ap id_after (sym follow.1.0)))
          ]
          | inr s ↦ absurd (not_now z (each z (inl refl)).1 few.0 s)
        ]
    passes_few (z ∷ x ∷ y ∷ list) more first counter follow few each news = absurd few

    -- ---- the first one is taken from them

    pub brings_few : (z : Made) (list more : List Made) (first counter : ℕ) → Follow first (ids_made (z ∷ list)) counter → Few t (z ∷ list)
        → timed.at ≤ z.at + 4 * pace.delay
        → ((x : Made) → In x list → (x.at ≤ timed.at) × (timed.at ≤ x.at + 4 * pace.delay) × NoAnswer x.transfer.offer.id w timed.row t)
        → AreNews more counter → Few u (list ++ more)
    brings_few z [] more first counter follow few late each (inl none) = subst (λ (l : List Made). Few u l) (sym none) tt
    brings_few z [] more first counter follow few late each (inr o) = subst (λ (l : List Made). Few u l) (sym o.1) (inl (turn.opens o.0 o.2 o.3 o.4 u up_then).0)
    brings_few z (x ∷ []) more first counter follow few late each news =
        elim (turn.stays x t u up up_then few.1 (each x (inl refl)).1 (each x (inl refl)).2) [
          | inl still ↦ elim news [
            | inl none ↦ subst (λ (l : List Made). Few u (x ∷ l)) (sym none) (inl still)
            | inr o ↦ absurd (none_more x o.0 counter still o.2 o.3 o.4 o.5 (follow.1.1 ∙ ap id_after (sym follow.1.0)))
          ]
          | inr s ↦ absurd (not_now z late few.0 s)
        ]
    brings_few z (x ∷ y ∷ list) more first counter follow few late each news = absurd few

  -- the one behind the first has the next transfer ID
  pub second_id : (t : AllocatorState) (z : Made) (list : List Made) (first counter : ℕ) → Follow first (ids_made (z ∷ list)) counter → Few t (z ∷ list) → (x : Made) → In x list
      → x.transfer.offer.id ≡ id_after z.transfer.offer.id
  second_id t z [] first counter follow few x i = absurd i
  second_id t z (a ∷ []) first counter follow few x (inl same) = ap (λ (k : Made). k.transfer.offer.id) same ∙ (follow.1.0 ∙ ap id_after (sym follow.0))
  second_id t z (a ∷ []) first counter follow few x (inr i) = absurd i
  second_id t z (a ∷ b ∷ list) first counter follow few x i = absurd few
