-- What a list is to which nodes are joined.
use Rattle.std.proofs.Common.{◌≡◌, ◌≢◌, ◌⊎◌, inl, inr, ℕ, zero, suc, ◌+◌, ◌<◌, ◌≤◌, Bool, true, false, if◌then◌else◌, ◌&&◌, not, nat_eq, nat_le, nat_lt, List, [], ◌∷◌, ◌++◌, length, get_or, refl, sym, ap, subst, ◌∙◌, arith}
use Rattle.std.specs.Prelude.{Contains}
use Rattle.std.proofs.lemmas.Bool.{and_parts, cases_lt, eq-eqb, eqb-true, leb-true, le-ltb, ltb-true}
use Rattle.std.proofs.lemmas.List.{get_or_append_left, get_or_push, length-append}
use Rattle.std.proofs.lemmas.List.Elements.{Contains-append_cases, Contains-append_right, Contains-push_cases}
use Rattle.std.proofs.lemmas.List.Folds.{list_any_at}
use Rattle.dsdl_codec.specs.declared.discovery.Discovery.{Discovery}
use Rattle.cluster_discovery.specs.Members.{Event, Heard, Sent, IsMemberList, IsStart, Names, Start, members_with_all, counts, is_complete, members_with, learns, is_on_list, may_join, members}

-- ---- one node more

-- what a node is that joins
record Joins (size : ℕ) (list : List ℕ) (node : ℕ) : Type 0 where
  numbered : 1 ≤ node
  device : node ≤ 125
  room : length list < size
  fresh : is_on_list list node ≡ false

not_true : (b : Bool) → not b ≡ true → b ≡ false
not_true true e = cc
not_true false e = refl

joins : (size : ℕ) (list : List ℕ) (node : ℕ) → may_join size list node ≡ true → Joins size list node
joins size list node e =
    let parts = and_parts (nat_le 1 node && nat_le node 125) (nat_lt (length list) size && not (is_on_list list node)) e in
    let device = and_parts (nat_le 1 node) (nat_le node 125) parts.0 in
    let place = and_parts (nat_lt (length list) size) (not (is_on_list list node)) parts.1 in
    record {
      numbered = leb-true 1 node device.0;
      device = leb-true node 125 device.1;
      room = ltb-true (length list) size place.0;
      fresh = not_true (is_on_list list node) place.1;
    }

clash : (b : Bool) → b ≡ true → b ≡ false → ⊥
clash b t f = cc

module _ (me size : ℕ) (list : List ℕ) (node : ℕ) where
  longer : length (list ++ node ∷ []) ≡ length list + 1
  longer = length-append list (node ∷ [])

  at_place : (P : ℕ → Type 0) → ((i : ℕ) → i < length list → P (get_or list i 0)) → P node
      → (i : ℕ) → i < length (list ++ node ∷ []) → P (get_or (list ++ node ∷ []) i 0)
  at_place P before here i within = elim (cases_lt i (length list)) [
    | inl below ↦ subst P (sym (get_or_append_left list (node ∷ []) 0 i below)) (before i below)
    | inr above ↦ subst P (sym (get_or_push list node 0 i (omega (arith, above, within, longer)))) here
  ]

  unlike : is_on_list list node ≡ false → (i : ℕ) → i < length list → get_or list i 0 ≢ node
  unlike fresh i below e =
      clash (is_on_list list node) (list_any_at (λ member. nat_eq member node) list i 0 below (eq-eqb (get_or list i 0) node e)) fresh

  one_more : IsMemberList me size list → Joins size list node → IsMemberList me size (list ++ node ∷ [])
  one_more is new = record {
    own = omega (arith, longer);
    first = let own = is.own in get_or_append_left list (node ∷ []) 0 0 own ∙ is.first;
    within = let room = new.room in omega (arith, longer, room);
    numbered = at_place (λ n. 1 ≤ n) is.numbered new.numbered;
    devices = at_place (λ n. n ≤ 125) is.devices new.device;
    different = λ i j less within.
        let below : i < length list = omega (arith, less, within, longer) in
        let front : get_or (list ++ node ∷ []) i 0 ≡ get_or list i 0 = get_or_append_left list (node ∷ []) 0 i below in
        elim (cases_lt j (length list)) [
          | inl before ↦ λ e. is.different i j less before (sym front ∙ e ∙ get_or_append_left list (node ∷ []) 0 j before)
          | inr last ↦ λ e. unlike new.fresh i below (sym front ∙ e ∙ get_or_push list node 0 j (omega (arith, last, within, longer)))
        ];
  }

  one_joined : (joins_now : Bool) → may_join size list node ≡ joins_now → IsMemberList me size list
      → IsMemberList me size (if joins_now then list ++ node ∷ [] else list)
  one_joined true e is = one_more is (joins size list node e)
  one_joined false e is = is

all_are : (me size : ℕ) (nodes list : List ℕ) → IsMemberList me size list → IsMemberList me size (members_with_all size list nodes)
all_are me size [] list is = is
all_are me size (node ∷ nodes) list is =
    all_are me size nodes (members_with size list node) (one_joined me size list node (may_join size list node) refl is)

-- ---- the member list

alone : (start : Start) → IsStart start → IsMemberList start.me start.size (start.me ∷ [])
alone start is = record {
  own = omega arith;
  first = refl;
  within = is.least;
  numbered = λ i within. only (λ n. 1 ≤ n) is.numbered i within;
  devices = λ i within. only (λ n. n ≤ 125) is.device i within;
  different = λ i j less within. absurd (omega (arith, less, within));
}
  where
    only : (P : ℕ → Type 0) → P start.me → (i : ℕ) → i < 1 → P (get_or (start.me ∷ []) i 0)
    only P here zero within = here
    only P here (suc i) within = absurd (omega (arith, within))

heard_are : (counts_now : Bool) (me size : ℕ) (list nodes : List ℕ) → IsMemberList me size list
    → IsMemberList me size (if counts_now then members_with_all size list nodes else list)
heard_are true me size list nodes is = all_are me size nodes list is
heard_are false me size list nodes is = is

pub members_are : (start : Start) (events : List Event) → IsStart start → IsMemberList start.me start.size (members start events)
members_are start [] is = alone start is
members_are start (Heard from message ∷ events) is =
    heard_are (counts start from message) start.me start.size (members start events) (from ∷ message.known.items) (members_are start events is)
members_are start (Sent moment ∷ events) is = members_are start events is

-- ---- who is new

one_new : (joins_now : Bool) (list : List ℕ) (node other : ℕ) → Contains (if joins_now then list ++ node ∷ [] else list) other
    → Contains list other ⊎ (node ≡ other)
one_new true list node other h = Contains-push_cases list node other h
one_new false list node other h = inl h

all_new : (size : ℕ) (nodes list : List ℕ) (other : ℕ) → Contains (members_with_all size list nodes) other → Contains list other ⊎ Contains nodes other
all_new size [] list other h = inl h
all_new size (node ∷ nodes) list other h = elim (all_new size nodes (members_with size list node) other h) [
  | inl earlier ↦ elim (one_new (may_join size list node) list node other earlier) [
    | inl old ↦ inl old
    | inr here ↦ inr (0, omega arith, here)
  ]
  | inr later ↦ inr (Contains-append_right (node ∷ []) nodes other later)
]

pub named : (start : Start) (events : List Event) (from : ℕ) (message : Discovery) (node : ℕ)
    → Contains (members start (Heard from message ∷ events)) node → Contains (members start events) node ⊎ Names start from message node
named start events from message node h = by_test (counts start from message) refl h
  where
    by_name : (node ≡ from) ⊎ Contains message.known.items node → counts start from message ≡ true → Names start from message node
    by_name who e = record { counts = e; named = who }

    source : Contains (from ∷ []) node → node ≡ from
    source (zero, within, same) = sym same
    source (suc k, within, same) = absurd (omega (arith, within))

    by_test : (counts_now : Bool) → counts start from message ≡ counts_now
        → Contains (if counts_now then members_with_all start.size (members start events) (from ∷ message.known.items) else members start events) node
        → Contains (members start events) node ⊎ Names start from message node
    by_test false e h = inl h
    by_test true e h = elim (all_new start.size (from ∷ message.known.items) (members start events) node h) [
      | inl old ↦ inl old
      | inr new ↦ elim (Contains-append_cases (from ∷ []) message.known.items node new) [
        | inl first ↦ inr (by_name (inl (source first)) e)
        | inr listed ↦ inr (by_name (inr listed) e)
      ]
    ]

-- ---- a complete list

full : (size : ℕ) (list : List ℕ) (node : ℕ) → length list ≡ size → may_join size list node ≡ false
full size list node e = no_room (nat_le 1 node && nat_le node 125) (nat_lt (length list) size) (not (is_on_list list node)) (le-ltb (length list) size (omega (arith, e)))
  where
    no_room : (a b c : Bool) → b ≡ false → a && (b && c) ≡ false
    no_room true true c e = cc
    no_room true false c e = refl
    no_room false b c e = refl

pub all_stay : (size : ℕ) (nodes list : List ℕ) → length list ≡ size → members_with_all size list nodes ≡ list
all_stay size [] list e = refl
all_stay size (node ∷ nodes) list e =
    let stays : members_with size list node ≡ list = rw (full size list node e) refl in
    rw stays (all_stay size nodes list e)

heard_stays : (counts_now : Bool) (size : ℕ) (list nodes : List ℕ) → length list ≡ size → (if counts_now then members_with_all size list nodes else list) ≡ list
heard_stays true size list nodes e = all_stay size nodes list e
heard_stays false size list nodes e = refl

module _ (start : Start) (events : List Event) (from : ℕ) (message : Discovery) (complete : is_complete start events ≡ true) where
  pub list_stays : members start (Heard from message ∷ events) ≡ members start events
  list_stays = heard_stays (counts start from message) start.size (members start events) (from ∷ message.known.items)
      (eqb-true (length (members start events)) start.size complete)

  pub complete_stays : is_complete start (Heard from message ∷ events) ≡ true
  complete_stays = ap (λ l. nat_eq (length l) start.size) list_stays ∙ complete

  pub learns_none : learns start events from message ≡ false
  learns_none = le-ltb (length (members start events)) (length (members start (Heard from message ∷ events)))
      (let e : length (members start (Heard from message ∷ events)) ≡ length (members start events) = ap length list_stays in omega (arith, e))
