-- The members that a server knows: itself first, at most five, none twice, and the others 1 to 125.
use Rattle.std.proofs.Common.{◌≡◌, ◌≢◌, ℕ, suc, ◌+◌, ◌≤◌, Bool, true, false, List, [], ◌∷◌, ◌++◌, length, length-append, ◌⊎◌, inl, inr, refl, sym, ◌∙◌, ap, subst, arith, drop}
use Rattle.std.specs.Prelude.{◌&&◌, not, nat_le, nat_lt, nat_eq}
use Rattle.cluster_discovery.specs.Members.{Event, Start, members_with_all, counts, members_with, is_on_list, may_join, members}
use Rattle.cluster_discovery.specs.Members.Event.{Heard, Sent}
use Rattle.raft_model.specs.Lists.{In, how_many}
use Rattle.raft_model.specs.Members.{HasNoneTwice, IsAll}
use Rattle.alloc_spec_laws.proofs.Choices.{and_left, and_right, either, eq_false, eq_true, le_true, lt_true, not_true, tell}
use Rattle.alloc_spec_laws.proofs.Lists.{in_append, none_passes, once_more}

pub record IsList (size me : ℕ) (list : List ℕ) : Type 0 where
  pub peers : List ℕ
  pub is : list ≡ me ∷ peers
  pub once : HasNoneTwice list
  pub few : (length list ≤ size) ⊎ (length list ≡ 1)
  pub devices : (peer : ℕ) → In peer peers → (1 ≤ peer) × (peer ≤ 125)

pub unlisted : (list : List ℕ) (node : ℕ) → is_on_list list node ≡ false → In node list → ⊥
unlisted list node h i = eq_false node node (none_passes (λ member. nat_eq member node) list h node i) refl

-- ---- a list that has all members has each of them

counts_one : (test : ℕ → Bool) (xs : List ℕ) (x : ℕ) → In x xs → test x ≡ true → 1 ≤ how_many test xs
counts_one test [] x i e = absurd i
counts_one test (y ∷ ys) x (inl same) e = rw (ap test (sym same) ∙ e) (omega arith)
counts_one test (y ∷ ys) x (inr i) e = omega (arith, counts_one test ys x i e)

one_counts : (test : ℕ → Bool) (xs : List ℕ) → 1 ≤ how_many test xs → (x : ℕ) × In x xs × (test x ≡ true)
one_counts test [] h = absurd (omega (arith, h))
one_counts test (y ∷ ys) h = elim (tell (test y)) [
  | inl t ↦ (y, inl refl, t)
  | inr f ↦ let less : 1 ≤ 0 + how_many test ys = rw f at h in let r = one_counts test ys (omega (arith, less)) in (r.0, inr r.1, r.2)
]

is_itself : (n : ℕ) → nat_eq n n ≡ true
is_itself n = elim (tell (nat_eq n n)) [ inl e ↦ e | inr e ↦ absurd (eq_false n n e refl) ]

pub covers : ((list members : List ℕ) (test : ℕ → Bool) → IsAll list members → how_many test list ≡ how_many test members)
    → (list members : List ℕ) → IsAll list members → (node : ℕ) → In node members → In node list
covers same_count list members all node i =
    let r = one_counts (λ n. nat_eq n node) list (omega (
      arith,
      same_count list members (λ n. nat_eq n node) all,
      counts_one (λ n. nat_eq n node) members node i (is_itself node),
    )) in
    subst (λ (n : ℕ). In n list) (eq_true r.0 node r.2) r.1

-- ---- a list grows

joins : (size me node : ℕ) (list : List ℕ) → IsList size me list → may_join size list node ≡ true → IsList size me (list ++ node ∷ [])
joins size me node list h may = record {
  peers = h.peers ++ node ∷ [];
  is = ap (λ (l : List ℕ). l ++ node ∷ []) h.is;
  once = once_more list node h.once (unlisted list node new);
  few = inl (omega (arith, lt_true (length list) size room, length-append list (node ∷ [])));
  devices = λ peer i. elim (in_append peer h.peers (node ∷ []) i) [
    | inl j ↦ h.devices peer j
    | inr (inl e) ↦ (omega (arith, e, le_true 1 node (and_left _ _ range)), omega (arith, e, le_true node 125 (and_right _ _ range)))
    | inr (inr j) ↦ absurd j
  ];
}
  where
    range : (nat_le 1 node && nat_le node 125) ≡ true
    range = and_left (nat_le 1 node && nat_le node 125) (nat_lt (length list) size && not (is_on_list list node)) may

    rest : (nat_lt (length list) size && not (is_on_list list node)) ≡ true
    rest = and_right (nat_le 1 node && nat_le node 125) (nat_lt (length list) size && not (is_on_list list node)) may

    room : nat_lt (length list) size ≡ true
    room = and_left (nat_lt (length list) size) (not (is_on_list list node)) rest

    new : is_on_list list node ≡ false
    new = not_true (is_on_list list node) (and_right (nat_lt (length list) size) (not (is_on_list list node)) rest)

joined_list : (size me node : ℕ) (list : List ℕ) → IsList size me list → IsList size me (members_with size list node)
joined_list size me node list h =
    either (λ (l : List ℕ). IsList size me l) (may_join size list node) (list ++ node ∷ []) list (λ may. joins size me node list h may) (λ e. h)

all_joined_list : (size me : ℕ) (nodes list : List ℕ) → IsList size me list → IsList size me (members_with_all size list nodes)
all_joined_list size me [] list h = h
all_joined_list size me (node ∷ nodes) list h = all_joined_list size me nodes (members_with size list node) (joined_list size me node list h)

pub members_list : (start : Start) (events : List Event) → IsList start.size start.me (members start events)
members_list start [] = record { peers = []; is = refl; once = ((λ i. i), tt); few = inr refl; devices = λ peer i. absurd i }
members_list start (Heard from message ∷ events) =
    either (λ (l : List ℕ). IsList start.size start.me l) (counts start from message)
    (members_with_all start.size (members start events) (from ∷ message.known.items)) (members start events)
    (λ e. all_joined_list start.size start.me (from ∷ message.known.items) (members start events) (members_list start events))
    (λ e. members_list start events)
members_list start (Sent moment ∷ events) = members_list start events

-- the peers of a list: none twice, nor the server itself, and at most four of five
pub record ArePeers (me : ℕ) (peers : List ℕ) : Type 0 where
  pub once : HasNoneTwice peers
  pub others : (peer : ℕ) → In peer peers → peer ≢ me
  pub devices : (peer : ℕ) → In peer peers → (1 ≤ peer) × (peer ≤ 125)

pub list_peers : (size me : ℕ) (list : List ℕ) → IsList size me list → ArePeers me (drop 1 list)
list_peers size me list h = subst (λ (l : List ℕ). ArePeers me (drop 1 l)) (sym h.is) (record {
  once = cut.1;
  others = λ peer i e. cut.0 (subst (λ (n : ℕ). In n h.peers) e i);
  devices = h.devices;
})
  where
    cut : HasNoneTwice (me ∷ h.peers)
    cut = subst (λ (l : List ℕ). HasNoneTwice l) h.is h.once

pub few_peers : (size me : ℕ) (list : List ℕ) → IsList size me list → size ≤ 5 → length (drop 1 list) ≤ 4
few_peers size me list h small = subst (λ (l : List ℕ). length (drop 1 l) ≤ 4) (sym h.is) (short h.few)
  where
    long : length list ≡ suc (length h.peers)
    long = ap length h.is

    short : (length list ≤ size) ⊎ (length list ≡ 1) → length h.peers ≤ 4
    short (inl a) = omega (arith, a, long, small)
    short (inr a) = omega (arith, a, long)
