-- What is found among the node IDs of devices.
use Rattle.std.proofs.Common.{◌≡◌, inl, inr, ℕ, zero, suc, ◌+◌, ◌<◌, ◌≤◌, Bool, true, false, cond, List, ◌||◌, Option, Some, None, find, refl, sym, ap, subst, arith}
use Rattle.std.proofs.lemmas.Bool.{cases_eq, cases_lt}
use Rattle.std.specs.List.{list_any, range_with_len}
use Rattle.node_discovery.specs.History.{is_nameless}
use Rattle.node_discovery.specs.Watch.{HearsDevicesAlone, IsNextQuery, IsSomeUnknown, IsStranger, NoneIsUnknown, Watched, devices, history, is_due, is_unknown, next_query, some_unknown}

-- what holds of each so far and of one more
pub one_further : (p : ℕ → Bool) (k : ℕ) → ((n : ℕ) → n < k → p n ≡ false) → p k ≡ false → (n : ℕ) → n < k + 1 → p n ≡ false
one_further p k before here n below = elim (cases_lt n k) [
  | inl less ↦ before n less
  | inr above ↦ let e : k ≡ n = omega (arith, below, above) in subst (λ i. p i ≡ false) e here
]

module _ (p : ℕ → Bool) where
  -- the first of some numbers in turn, or none of them
  abbrev IsFirst : ℕ → ℕ → Option ℕ → Type 0
  IsFirst from n None = (id : ℕ) → from ≤ id → id < from + n → p id ≡ false
  IsFirst from n (Some id) = (p id ≡ true) × (from ≤ id) × (id < from + n) × ((other : ℕ) → from ≤ other → other < id → p other ≡ false)

  here_too : (here id : ℕ) → p here ≡ false → ((id ≡ here → ⊥) → p id ≡ false) → p id ≡ false
  here_too here id h others = elim (cases_eq id here) [ inl e ↦ rw e h | inr apart ↦ others apart ]

  found : (from n : ℕ) → IsFirst from n (find p (range_with_len from n))
  found from zero = λ id a b. absurd (omega (arith, a, b))
  found from (suc n) = at (p from) refl (found (from + 1) n)
    where
      later : p from ≡ false → (rest : Option ℕ) → IsFirst (from + 1) n rest → IsFirst from (suc n) rest
      later h None rest = λ id a b. here_too from id h (λ apart. rest id (omega (arith, a, apart)) (omega (arith, b)))
      later h (Some id) rest = (rest.0, omega (arith, rest.1), omega (arith, rest.2), λ other a b. here_too from other h (λ apart. rest.3 other (omega (arith, a, apart)) b))

      at : (here : Bool) → p from ≡ here → IsFirst (from + 1) n (find p (range_with_len (from + 1) n))
          → IsFirst from (suc n) (cond here (Some from) (find p (range_with_len (from + 1) n)))
      at false h rest = later h _ rest
      at true h rest = (h, omega arith, omega arith, λ other a b. absurd (omega (arith, a, b)))

  -- some of the numbers, or none of them
  abbrev IsAny : ℕ → ℕ → Bool → Type 0
  IsAny from n true = (id : ℕ) × (from ≤ id) × (id < from + n) × (p id ≡ true)
  IsAny from n false = (id : ℕ) → from ≤ id → id < from + n → p id ≡ false

  some : (from n : ℕ) → IsAny from n (list_any p (range_with_len from n))
  some from zero = λ id a b. absurd (omega (arith, a, b))
  some from (suc n) = at (p from) refl (some (from + 1) n)
    where
      later : p from ≡ false → (rest : Bool) → IsAny (from + 1) n rest → IsAny from (suc n) rest
      later h true rest = (rest.0, omega (arith, rest.1), omega (arith, rest.2), rest.3)
      later h false rest = λ id a b. here_too from id h (λ apart. rest id (omega (arith, a, apart)) (omega (arith, b)))

      at : (here : Bool) → p from ≡ here → IsAny (from + 1) n (list_any p (range_with_len (from + 1) n))
          → IsAny from (suc n) (here || list_any p (range_with_len (from + 1) n))
      at false h rest = later h _ rest
      at true h rest = (from, omega arith, omega arith, h)

module _ (events : List Watched) (known : List Bool) (now : ℕ) where
  due : ℕ → Bool
  due node = is_due events known node now

  unknown : ℕ → Bool
  unknown node = is_unknown events known node now

  -- nobody asks for a number that is no device's
  no_name : HearsDevicesAlone events → (node : ℕ) → IsStranger node → is_nameless (history node events) now ≡ false
  no_name alone node stranger = rw (alone node stranger) refl

  not_unknown : HearsDevicesAlone events → (node : ℕ) → IsStranger node → is_unknown events known node now ≡ false
  not_unknown alone node stranger = rw (no_name alone node stranger) refl

  not_due : HearsDevicesAlone events → (node : ℕ) → IsStranger node → is_due events known node now ≡ false
  not_due alone node stranger = rw (not_unknown alone node stranger) refl

  -- what holds of no device holds of no number
  of_none : (p : ℕ → Bool) → ((node : ℕ) → IsStranger node → p node ≡ false) → ((node : ℕ) → 1 ≤ node → node < 126 → p node ≡ false)
      → (node : ℕ) → p node ≡ false
  of_none p strangers among node = elim (cases_lt 125 node) [
    | inl high ↦ strangers node (inr high)
    | inr most ↦ elim (cases_eq node 0) [
      | inl none ↦ strangers node (inl none)
      | inr some ↦ among node (omega (arith, some)) (omega (arith, most))
    ]
  ]

  pub next : HearsDevicesAlone events → IsNextQuery events known now (next_query events known now)
  unfolding next_query
  next alone = by_find (find (λ node. is_due events known node now) devices) (found (λ node. is_due events known node now) 1 125)
    where
      by_find : (first : Option ℕ) → IsFirst (λ node. is_due events known node now) 1 125 first → IsNextQuery events known now first
      by_find None none = of_none (λ node. is_due events known node now) (not_due alone) none
      by_find (Some id) first = record {
        least = first.1;
        most = omega (arith, first.2);
        due = first.0;
        first = λ other less. elim (cases_eq other 0) [
          | inl none ↦ not_due alone other (inl none)
          | inr apart ↦ first.3 other (omega (arith, apart)) less
        ];
      }

  clash : (b : Bool) → b ≡ true → b ≡ false → ⊥
  clash b t f = cc

  one : (a b : Option ℕ) → IsNextQuery events known now a → IsNextQuery events known now b → a ≡ b
  one None None x y = refl
  one None (Some b) x y = absurd (clash _ y.due (x b))
  one (Some a) None x y = absurd (clash _ x.due (y a))
  one (Some a) (Some b) x y =
      let not_less = λ (l : a < b). clash _ x.due (y.first a l) in
      let not_above = λ (l : b < a). clash _ y.due (x.first b l) in
      let same : a ≡ b = omega (arith, not_less, not_above) in
      ap Some same

  pub only : (other : Option ℕ) → HearsDevicesAlone events → IsNextQuery events known now other → other ≡ next_query events known now
  only other alone h = one other (next_query events known now) h (next alone)

  pub some_is : some_unknown events known now ≡ true → IsSomeUnknown events known now
  unfolding some_unknown
  some_is e = by_any (list_any (λ node. is_unknown events known node now) devices) e (some (λ node. is_unknown events known node now) 1 125)
    where
      by_any : (any : Bool) → any ≡ true → IsAny (λ node. is_unknown events known node now) 1 125 any → IsSomeUnknown events known now
      by_any true e h = record { node = h.0; least = h.1; most = omega (arith, h.2); unknown = h.3 }
      by_any false e h = cc

  pub none_is : HearsDevicesAlone events → some_unknown events known now ≡ false → NoneIsUnknown events known now
  unfolding some_unknown
  none_is alone e = by_any (list_any (λ node. is_unknown events known node now) devices) e (some (λ node. is_unknown events known node now) 1 125)
    where
      by_any : (any : Bool) → any ≡ false → IsAny (λ node. is_unknown events known node now) 1 125 any → NoneIsUnknown events known now
      by_any false e h = of_none (λ node. is_unknown events known node now) (not_unknown alone) h
      by_any true e h = cc

  -- whether one is unknown, told by what each answer means
  pub some_computed : (result : Bool) → HearsDevicesAlone events → (result ≡ true → IsSomeUnknown events known now)
      → (result ≡ false → NoneIsUnknown events known now) → result ≡ some_unknown events known now
  some_computed result alone is none = by_both result (some_unknown events known now) refl is none
    where
      by_both : (r s : Bool) → s ≡ some_unknown events known now → (r ≡ true → IsSomeUnknown events known now)
          → (r ≡ false → NoneIsUnknown events known now) → r ≡ s
      by_both true true e is none = refl
      by_both false false e is none = refl
      by_both true false e is none = let some = is refl in absurd (clash _ some.unknown (none_is alone (sym e) some.node))
      by_both false true e is none = let some = some_is (sym e) in absurd (clash _ some.unknown (none refl some.node))
