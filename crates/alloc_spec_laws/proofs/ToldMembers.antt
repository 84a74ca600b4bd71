-- The members that a server knows that is told them at its opening.
use Rattle.std.proofs.Common.{◌≡◌, ℕ, ◌+◌, ◌-◌, ◌<◌, ◌≤◌, Bool, true, false, List, [], ◌∷◌, ◌++◌, length, ◌⊎◌, inl, inr, refl, sym, ◌∙◌, ap, subst, arith}
use Rattle.std.specs.Prelude.{◌&&◌, ◌||◌, not, nat_eq, nat_le, nat_lt, if◌then◌else◌}
use Rattle.std.proofs.lemmas.Bool.{le-leb, le-ltb, lt-ltb, ne_eqb, eq-eqb}
use Rattle.std.proofs.lemmas.List.{length-append}
use Rattle.can_frame.specs.Timing.{discovery_interval}
use Rattle.cluster_discovery.specs.Members.{counts, is_due, is_on_list, may_join, last_sent, members_with, members_with_all, owes}
use Rattle.raft_model.specs.Lists.{In}
use Rattle.raft_model.specs.Members.{HasNoneTwice}
use Rattle.raft_model.specs.Server.{Store}
use Rattle.alloc_spec.specs.AllocatorState.{knows_all, members_of, opening, start_of}
use Rattle.alloc_spec.specs.Rules.{IsToldAll, Rules, opening_by, with_told}
use Rattle.alloc_spec_laws.proofs.Choices.{tell}
use Rattle.alloc_spec_laws.proofs.Lists.{in_append, in_front}

-- ---- who is on the list was told, or is the member itself

from_one : (joins : Bool) (list : List ℕ) (new node : ℕ) → In node (if joins then list ++ new ∷ [] else list) → In node list ⊎ (node ≡ new)
from_one true list new node i = elim (in_append node list (new ∷ []) i) [ inl j ↦ inl j | inr (inl e) ↦ inr e | inr (inr j) ↦ absurd j ]
from_one false list new node i = inl i

from_all : (size : ℕ) (nodes list : List ℕ) (node : ℕ) → In node (members_with_all size list nodes) → In node list ⊎ In node nodes
from_all size [] list node i = inl i
from_all size (new ∷ nodes) list node i = elim (from_all size nodes (members_with size list new) node i) [
  | inl j ↦ elim (from_one (may_join size list new) list new node j) [ inl k ↦ inl k | inr e ↦ inr (inl e) ]
  | inr j ↦ inr (inr j)
]

from_heard : (counted : Bool) (size me : ℕ) (nodes : List ℕ) (node : ℕ)
    → In node (if counted then members_with_all size (me ∷ []) nodes else me ∷ []) → (node ≡ me) ⊎ In node nodes
from_heard true size me nodes node i = elim (from_all size nodes (me ∷ []) node i) [ inl (inl e) ↦ inl e | inl (inr j) ↦ absurd j | inr j ↦ inr j ]
from_heard false size me nodes node (inl e) = inl e
from_heard false size me nodes node (inr j) = absurd j

from_told : (me size : ℕ) (told : List ℕ) (store : Store) (now word node : ℕ)
    → In node (members_of (with_told told (opening me size store now word))) → (node ≡ me) ⊎ In node told
from_told me size [] store now word node (inl e) = inl e
from_told me size [] store now word node (inr j) = absurd j
from_told me size (first ∷ rest) store now word node i =
    from_heard (counts (start_of (opening me size store now word)) 0 (record { size = size; known = record { items = first ∷ rest } })) size me (first ∷ rest) node i

pub opening_has_told : (me : ℕ) (rules : Rules) (store : Store) (now word node : ℕ)
    → In node (members_of (opening_by me rules store now word)) → (node ≡ me) ⊎ In node rules.told
opening_has_told me rules store now word node i = from_told me rules.size rules.told store now word node i

-- ---- one that is told all knows all

off_list : (list : List ℕ) (node : ℕ) → (In node list → ⊥) → is_on_list list node ≡ false
off_list [] node out = refl
off_list (first ∷ rest) node out = rw (ne_eqb first node (λ e. out (inl (sym e)))) (off_list rest node (λ i. out (inr i)))

on_list : (list : List ℕ) (node : ℕ) → In node list → is_on_list list node ≡ true
on_list [] node i = elim i [ ]
on_list (first ∷ rest) node (inl e) = rw (eq-eqb first node (sym e)) refl
on_list (first ∷ rest) node (inr i) = elim (tell (nat_eq first node)) [
  | inl t ↦ rw t refl
  | inr f ↦ rw f (on_list rest node i)
]

-- one that is a node's ID, new, and finds room
joins : (size : ℕ) (list : List ℕ) (node : ℕ) → (1 ≤ node) × (node ≤ 125) → length list < size → (In node list → ⊥)
    → members_with size list node ≡ list ++ node ∷ []
joins size list node valid room new =
    rw (le-leb 1 node valid.0, le-leb node 125 valid.1, lt-ltb (length list) size room, off_list list node new) refl

not_again : (a b c : Bool) → c ≡ true → (a && (b && not c)) ≡ false
not_again true true c e = rw e refl
not_again true false c e = refl
not_again false b c e = refl

stays : (size : ℕ) (list : List ℕ) (node : ℕ) → In node list → members_with size list node ≡ list
stays size list node old =
    rw (not_again (nat_le 1 node && nat_le node 125) (nat_lt (length list) size) (is_on_list list node) (on_list list node old)) refl

abbrev AreNodes : List ℕ → Type 0
AreNodes nodes = (node : ℕ) → In node nodes → (1 ≤ node) × (node ≤ 125)

-- behind a new one the others are new
module _ (list : List ℕ) (first : ℕ) (rest : List ℕ) (apart : (node : ℕ) → In node (first ∷ rest) → In node list → ⊥)
    (once : HasNoneTwice (first ∷ rest)) where
  still_apart : (node : ℕ) → In node rest → In node (list ++ first ∷ []) → ⊥
  still_apart node later i = elim (in_append node list (first ∷ []) i) [
    | inl j ↦ apart node (inr later) j
    | inr (inl e) ↦ once.0 (subst (λ (n : ℕ). In n rest) e later)
    | inr (inr j) ↦ j
  ]

-- new ones join, each
all_join : (size : ℕ) (nodes list : List ℕ) → AreNodes nodes → HasNoneTwice nodes → ((node : ℕ) → In node nodes → In node list → ⊥)
    → length list + length nodes ≤ size → length (members_with_all size list nodes) ≡ length list + length nodes
all_join size [] list valid once apart room = omega arith
all_join size (first ∷ rest) list valid once apart room =
    rw (joins size list first (valid first (inl refl)) (omega (arith, room)) (apart first (inl refl)))
    (all_join size rest (list ++ first ∷ []) (λ node i. valid node (inr i)) once.1 (still_apart list first rest apart once)
    (omega (arith, room, length-append list (first ∷ [])))
    ∙ omega (arith, length-append list (first ∷ [])))

some_in : (node : ℕ) (nodes : List ℕ) → In node nodes → 1 ≤ length nodes
some_in node [] i = elim i [ ]
some_in node (first ∷ rest) i = omega arith

-- and all but the member itself, which is there
others_join : (size me : ℕ) (nodes list : List ℕ) → AreNodes nodes → HasNoneTwice nodes → In me nodes → In me list
    → ((node : ℕ) → In node nodes → In node list → node ≡ me) → length list + length nodes ≤ size + 1
    → length (members_with_all size list nodes) + 1 ≡ length list + length nodes
others_join size me [] list valid once own there apart room = elim own [ ]
others_join size me (first ∷ rest) list valid once (inl e) there apart room =
    rw (stays size list first (subst (λ (n : ℕ). In n list) e there))
    (ap (λ (n : ℕ). n + 1) (all_join size rest list (λ node i. valid node (inr i)) once.1
    (λ node i j. once.0 (subst (λ (n : ℕ). In n rest) (apart node (inr i) j ∙ e) i)) (omega (arith, room)))
    ∙ omega arith)
others_join size me (first ∷ rest) list valid once (inr own) there apart room =
    rw (joins size list first (valid first (inl refl)) below (λ i. once.0 (subst (λ (n : ℕ). In n rest) (sym (apart first (inl refl) i)) own)))
    (others_join size me rest (list ++ first ∷ []) (λ node i. valid node (inr i)) once.1 own (in_front me list (first ∷ []) there) meets
    (omega (arith, room, length-append list (first ∷ [])))
    ∙ omega (arith, length-append list (first ∷ [])))
  where
    below : length list < size
    below = omega (arith, room, some_in me rest own)

    meets : (node : ℕ) → In node rest → In node (list ++ first ∷ []) → node ≡ me
    meets node later i = elim (in_append node list (first ∷ []) i) [
      | inl j ↦ apart node (inr later) j
      | inr (inl e) ↦ absurd (once.0 (subst (λ (n : ℕ). In n rest) e later))
      | inr (inr j) ↦ absurd j
    ]

full : (me size : ℕ) (told : List ℕ) → AreNodes told → HasNoneTwice told → In me told → length told ≡ size
    → length (members_with_all size (me ∷ []) told) ≡ size
full me size told valid once own all =
    omega (arith, all, others_join size me told (me ∷ []) valid once own (inl refl) (λ node i j. only node j) (omega (arith, all)))
  where
    only : (node : ℕ) → In node (me ∷ []) → node ≡ me
    only node (inl e) = e
    only node (inr j) = absurd j

told_knows : (me size : ℕ) (told : List ℕ) (store : Store) (now word : ℕ) → 1 ≤ me → AreNodes told → HasNoneTwice told → In me told
    → length told ≡ size → knows_all (with_told told (opening me size store now word)) ≡ true
told_knows me size [] store now word least valid once own all = elim own [ ]
told_knows me size (first ∷ rest) store now word least valid once own all =
    rw (eq-eqb size size refl, ne_eqb 0 me (λ e. omega (arith, e, least)))
    (eq-eqb (length (members_with_all size (me ∷ []) (first ∷ rest))) size (full me size (first ∷ rest) valid once own all))

pub told_all_knows_all : (me : ℕ) (rules : Rules) (store : Store) (now word : ℕ) → 1 ≤ me → IsToldAll me rules
    → knows_all (opening_by me rules store now word) ≡ true
told_all_knows_all me rules store now word least is = told_knows me rules.size rules.told store now word least is.nodes is.once is.own is.all

-- ---- and owes no Discovery

not_due : (owed complete late : Bool) → owed ≡ false → complete ≡ true → ((owed || not complete) && late) ≡ false
not_due true complete late e f = absurd (cc)
not_due false true late e f = refl
not_due false false late e f = absurd (cc)

not_short : (counted short : Bool) → short ≡ false → ((counted && short) || false) ≡ false
not_short true true e = e
not_short true false e = refl
not_short false short e = refl

owes_none : (me size : ℕ) (told : List ℕ) (store : Store) (now word : ℕ) → length told ≡ size
    → let t = with_told told (opening me size store now word) in owes (start_of t) t.heard ≡ false
owes_none me size [] store now word all = refl
owes_none me size (first ∷ rest) store now word all =
    not_short (counts (start_of (opening me size store now word)) 0 (record { size = size; known = record { items = first ∷ rest } }))
    (nat_lt (length (first ∷ rest)) size) (le-ltb (length (first ∷ rest)) size (omega (arith, all)))

pub told_all_owes_none : (me : ℕ) (rules : Rules) (store : Store) (now word moment : ℕ) → 1 ≤ me → IsToldAll me rules
    → let t = opening_by me rules store now word in is_due (start_of t) t.heard moment ≡ false
told_all_owes_none me rules store now word moment least is =
    let t = opening_by me rules store now word in
    not_due (owes (start_of t) t.heard) (knows_all t) (nat_le discovery_interval (moment - last_sent (start_of t) t.heard))
    (owes_none me rules.size rules.told store now word is.all) (told_all_knows_all me rules store now word least is)
