-- The votes of c, one after another: it is a candidate with those that came, or leads.
use Rattle.std.proofs.Common.{◌≡◌, ◌≢◌, ℕ, ◌+◌, ◌≤◌, arith, Bool, true, false, List, [], ◌∷◌, ◌++◌, length, max, drop, inl, inr, refl, sym, ◌∙◌, ap, subst}
use Rattle.std.specs.Prelude.{◌⊎◌, ◌==◌, ◌||◌, slice_index_or}
use Rattle.std.proofs.lemmas.Bool.Decides.{eqb_tells, leb_tells}
use Rattle.raft_model.specs.Lists.{In, at, how_many}
use Rattle.raft_model.specs.Members.{HasNoneTwice}
use Rattle.alloc_spec.specs.Transfers.{SentTransfer}
use Rattle.alloc_spec_laws.proofs.Choices.{either, tell}
use Rattle.bus_rows.specs.Timed.{Timed}
use Rattle.service_candidate.specs.Wins.{is_of}
use Rattle.service_candidate.proofs.WinsScene.{Scene}
use Rattle.service_candidate.proofs.WinsAsked.{until}
use Rattle.service_calm.specs.Calm.{Device as OfDevice, Member as OfMember, Party}
use Rattle.service_calm.specs.Comes.{Delivers, delivery_of}
use Rattle.service_calm.proofs.Pair.{same_server}
use Rattle.transfer_rx.specs.Reassembly.{Delivery, Gives}
use Rattle.alloc_spec.specs.Accepted.{setting_for}
use Rattle.transfer_rx.specs.Reassembly as receiver
use Rattle.bus_rows.specs.declared.row.Row.{Row}
use Rattle.bus_rows.specs.declared.row.Row.TheVariants.{Rx}
use Rattle.bus_spec.specs.Cluster.{Cluster, arrival_at, frame_at}

-- ---- small facts

-- two cuts of the same rows behind as many are one
pub same_cut : (a e b d : List Timed) (x y : Timed) → length a ≡ length e → a ++ x ∷ b ≡ e ++ y ∷ d → (a ≡ e) × (x ≡ y)
same_cut [] [] b d x y size same = (refl, ap (λ (l : List Timed). slice_index_or l 0 x) same)
same_cut [] (z ∷ e) b d x y size same = absurd (omega (arith, size))
same_cut (z ∷ a) [] b d x y size same = absurd (omega (arith, size))
same_cut (z ∷ a) (q ∷ e) b d x y size same =
    let first : z ≡ q = ap (λ (l : List Timed). slice_index_or l 0 z) same in
    let more = same_cut a e b d x y (omega (arith, size)) (ap (λ (l : List Timed). drop 1 l) same) in
    ((λ i. first i ∷ more.0 i), more.1)

pub length_more : (a : List Timed) (x : Timed) → length (a ++ x ∷ []) ≡ length a + 1
length_more [] x = refl
length_more (y ∷ a) x = let k = length_more a x in omega (arith, k)

pub length_front : (a b : List Timed) → length a ≤ length (a ++ b)
length_front [] b = omega arith
length_front (y ∷ a) b = let k = length_front a b in omega (arith, k)

-- what comes in one row comes from one sender
pub same_sender : (c : ℕ) (y z : SentTransfer) (w : Cluster) (row : Row) → Delivers c y w row → Delivers c z w row → y.by ≡ z.by
same_sender c y z w row one two =
    let server = same_server one.server two.server (sym one.runs ∙ two.runs) in
    let row_same = sym one.comes ∙ two.comes in
    let k = frame_of one.k two.k one.ms two.ms row_same in
    let ms = moment_of one.k two.k one.ms two.ms row_same in
    ap (λ (d : Delivery). d.ident.source) (one_delivery (delivery_of y) (delivery_of z) (sym one.gives
    ∙ ((λ i. receiver.answer (setting_for c) (server i).sessions (arrival_at (frame_at w.frames (k i)) (max (server i).now (ms i)))) ∙ two.gives)))
  where
    frame_of : (k l ms other : ℕ) → Rx c k ms ≡ Rx c l other → k ≡ l
    frame_of k l ms other e = cc (e)

    moment_of : (k l ms other : ℕ) → Rx c k ms ≡ Rx c l other → ms ≡ other
    moment_of k l ms other e = cc (e)

    one_delivery : (d e : Delivery) → Gives d ≡ Gives e → d ≡ e
    one_delivery d e h = cc (h)

-- a vote that is there stays
pub still_votes : (votes : ℕ → Bool) (m p : ℕ) → votes p ≡ true → at votes m true p ≡ true
still_votes votes m p e = either (λ (b : Bool). b ≡ true) (p == m) true (votes p) (λ h. refl) (λ h. e)

-- ---- counting

-- who passes one test passes the other: so many do at least
pub no_fewer : (test other : ℕ → Bool) (list : List ℕ) → ((p : ℕ) → In p list → test p ≡ true → other p ≡ true) → how_many test list ≤ how_many other list
no_fewer test other [] so = omega arith
no_fewer test other (p ∷ list) so =
    let more = no_fewer test other list (λ q i. so q (inr i)) in
    elim (tell (test p)) [
      | inl passes ↦ rw (passes, so p (inl refl) passes) (omega (arith, more))
      | inr not ↦ rw (not) (either (λ (n : ℕ). 0 + how_many test list ≤ n + how_many other list) (other p) 1 0 (λ e. omega (arith, more)) (λ e. omega (arith, more)))
    ]

-- none passes
none_pass : (test : ℕ → Bool) (list : List ℕ) → ((p : ℕ) → In p list → test p ≡ true → ⊥) → how_many test list ≡ 0
none_pass test [] none = refl
none_pass test (p ∷ list) none = elim (tell (test p)) [
  | inl passes ↦ absurd (none p (inl refl) passes)
  | inr not ↦ let more = none_pass test list (λ q i. none q (inr i)) in rw (not) (omega (arith, more))
]

-- one at most passes, where all that do are one
pub one_at_most : (test : ℕ → Bool) (c : ℕ) (list : List ℕ) → HasNoneTwice list → ((p : ℕ) → In p list → test p ≡ true → p ≡ c) → how_many test list ≤ 1
one_at_most test c [] once one = omega arith
one_at_most test c (p ∷ list) once one = elim (tell (test p)) [
  | inl passes ↦
      let none = none_pass test list (λ q i also. once.0 (subst (λ (k : ℕ). In k list) (one q (inr i) also ∙ sym (one p (inl refl) passes)) i)) in
      rw (passes) (omega (arith, none))
  | inr not ↦ let more = one_at_most test c list once.1 (λ q i. one q (inr i)) in rw (not) omega (arith, more)
]

-- who is of the group stands in it
pub in_group : (group : List Party) (p : ℕ) → is_of group p ≡ true → In (OfMember p) group
in_group [] p e = absurd (cc (e))
in_group (OfMember m ∷ group) p e = elim (eqb_tells m p) [
  | inl z ↦ inl (ap (λ (k : ℕ). OfMember k) (sym z.1))
  | inr z ↦ inr (in_group group p (sym (ap (λ (b : Bool). b || is_of group p) z.0) ∙ e))
]
in_group (OfDevice a ∷ group) p e = inr (in_group group p e)

-- ---- the others

module _ (s : Scene) where
  -- another member of the group
  pub record Comer : Type 0 where
    pub m : ℕ
    pub i : In (OfMember m) s.group
    pub other : m ≢ s.c

  -- so many rows come before its answer
  abbrev pub rows_until : Comer → ℕ
  rows_until z = length (until s z.m z.i z.other)

  abbrev IsC : ℕ → Type 0
  IsC q = (((q == s.c) ≡ true) × (q ≡ s.c)) ⊎ (((q == s.c) ≡ false) × (q ≢ s.c))

  comer_if : (q : ℕ) (i : In (OfMember q) s.group) → List Comer → IsC q → List Comer
  comer_if q i list (inl is) = list
  comer_if q i list (inr not) = record { m = q; i = i; other = not.1 } ∷ list

  all_of : (list : List Party) → ((p : ℕ) → In (OfMember p) list → In (OfMember p) s.group) → List Comer
  all_of [] among = []
  all_of (OfDevice a ∷ list) among = all_of list (λ p i. among p (inr i))
  all_of (OfMember q ∷ list) among = comer_if q (among q (inl refl)) (all_of list (λ p i. among p (inr i))) (eqb_tells q s.c)

  -- all others
  pub comers : List Comer
  comers = all_of s.group (λ p i. i)

  -- member p is among these
  abbrev pub IsAmong : ℕ → List Comer → Type 0
  IsAmong p list = (z : Comer) × In z list × (z.m ≡ p)

  among_if : (q : ℕ) (i : In (OfMember q) s.group) (list : List Comer) (d : IsC q) (p : ℕ) → IsAmong p list → IsAmong p (comer_if q i list d)
  unfolding comer_if
  among_if q i list (inl is) p z = z
  among_if q i list (inr not) p z = (z.0, inr z.1, z.2)

  first_if : (q : ℕ) (i : In (OfMember q) s.group) (list : List Comer) (d : IsC q) → q ≢ s.c → IsAmong q (comer_if q i list d)
  unfolding comer_if
  first_if q i list (inl is) other = absurd (other is.1)
  first_if q i list (inr not) other = (record { m = q; i = i; other = not.1 }, inl refl, refl)

  one_member : (p q : ℕ) → OfMember p ≡ OfMember q → p ≡ q
  one_member p q e = cc (e)

  no_device : (p a : ℕ) → OfMember p ≡ OfDevice a → ⊥
  no_device p a e = cc (e)

  each_of : (list : List Party) (among : (p : ℕ) → In (OfMember p) list → In (OfMember p) s.group) (p : ℕ) → In (OfMember p) list → p ≢ s.c → IsAmong p (all_of list among)
  unfolding all_of
  each_of [] among p i other = absurd i
  each_of (OfDevice a ∷ list) among p i other = elim i [
    | inl e ↦ absurd (no_device p a e)
    | inr j ↦ each_of list (λ p i. among p (inr i)) p j other
  ]
  each_of (OfMember q ∷ list) among p i other = elim i [
    | inl e ↦
        let same = one_member p q e in
        subst (λ (k : ℕ). IsAmong k (comer_if q (among q (inl refl)) (all_of list (λ p i. among p (inr i))) (eqb_tells q s.c))) (sym same)
        (first_if q (among q (inl refl)) (all_of list (λ p i. among p (inr i))) (eqb_tells q s.c) (λ f. other (same ∙ f)))
    | inr j ↦ among_if q (among q (inl refl)) (all_of list (λ p i. among p (inr i))) (eqb_tells q s.c) p (each_of list (λ p i. among p (inr i)) p j other)
  ]

  -- each other member of the group is among them
  pub each_comes : (p : ℕ) → In (OfMember p) s.group → p ≢ s.c → IsAmong p comers
  unfolding comers
  each_comes p i other = each_of s.group (λ p i. i) p i other

  -- one of them answers behind so many rows, or none
  pub found : (list : List Comer) (n : ℕ) → ((z : Comer) × In z list × (rows_until z ≡ n)) ⊎ ((z : Comer) → In z list → rows_until z ≢ n)
  found [] n = inr (λ z i. absurd i)
  found (z ∷ list) n = elim (eqb_tells (rows_until z) n) [
    | inl e ↦ inl (z, inl refl, e.1)
    | inr e ↦ elim (found list n) [
      | inl h ↦ inl (h.0, inr h.1, h.2)
      | inr none ↦ inr (λ q i. elim i [
        | inl same ↦ subst (λ (r : Comer). rows_until r ≢ n) (sym same) e.1
        | inr j ↦ none q j
      ])
    ]
  ]

  -- one answers last
  pub last_one : (first : Comer) (list : List Comer) → (z : Comer) × In z (first ∷ list) × ((q : Comer) → In q (first ∷ list) → rows_until q ≤ rows_until z)
  last_one first [] = (
    first,
    inl refl,
    λ q i. elim i [
      | inl same ↦ subst (λ (r : Comer). rows_until r ≤ rows_until first) (sym same) (omega arith)
      | inr j ↦ absurd j
    ],
  )
  last_one first (next ∷ list) =
      let more = last_one next list in
      elim (leb_tells (rows_until first) (rows_until more.0)) [
        | inl z ↦ (
          more.0,
          inr more.1,
          λ q i. elim i [
            | inl same ↦ subst (λ (r : Comer). rows_until r ≤ rows_until more.0) (sym same) z.1
            | inr j ↦ more.2 q j
          ],
        )
        | inr z ↦ (
          first,
          inl refl,
          λ q i. elim i [
            | inl same ↦ subst (λ (r : Comer). rows_until r ≤ rows_until first) (sym same) (omega arith)
            | inr j ↦ let k = more.2 q j in let l = z.1 in omega (arith, k, l)
          ],
        )
      ]

  -- there is another one
  pub some_comer : (list : List Comer) → list ≡ comers → (first : Comer) × (rest : List Comer) × (list ≡ first ∷ rest)
  some_comer (first ∷ rest) e = (first, rest, refl)
  some_comer [] e = absurd (alone (one_at_most (is_of s.group) s.c s.ids s.once (λ p i of. elim (eqb_tells p s.c) [
    | inl z ↦ z.1
    | inr z ↦ absurd (let among = each_comes p (in_group s.group p of) z.1 in subst (λ (l : List Comer). In among.0 l) (sym e) among.1)
  ])))
    where
      alone : how_many (is_of s.group) s.ids ≤ 1 → ⊥
      alone few = let many = s.calm.many in let two = s.calm.others in omega (arith, few, many, two)
