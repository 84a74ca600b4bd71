-- Where members stand.
use Rattle.std.proofs.Common.{◌≡◌, ◌≢◌, ℕ, zero, suc, ◌-◌, ◌<◌, ◌≤◌, Bool, true, false, List, [], ◌∷◌, length, refl, sym, ap, subst, ◌∙◌, arith, inl, inr}
use Rattle.std.specs.Prelude.{◌==◌, cond, nat_lt, not, map, slice_index_or, slice_set, Option, Some, None, if◌then◌else◌}
use Rattle.std.specs.List.{position_or_len}
use Rattle.std.proofs.lemmas.Bool.{le-ltb, ltb-false}
use Rattle.std.proofs.lemmas.List.Sums.{fails_before_first}
use Rattle.std.proofs.lemmas.Bool.Decides.{eqb_tells}
use Rattle.std.proofs.lemmas.List.Quantifiers.{position-Some}
use Rattle.std.proofs.lemmas.List.{get_or-map, get_or-set_same, get_or-set_other, length-map, length-set}
use Rattle.std.proofs.Math.Seq.{map-set_same}
use Rattle.raft_model.specs.Lists.{In, at}
use Rattle.transfer_tx.specs.declared.marked.Marked.{Marked}
use Rattle.bus_spec.specs.declared.unlawful.Unlawful.{Unlawful}
use Rattle.bus_spec.specs.declared.unlawful.Unlawful.TheVariants.{NoNode, Running, Stopped}
use Rattle.bus_spec.specs.Cluster.{Cluster, arrival_at, frame_at, is_member, no_frame, with_member}
use Rattle.bus_spec.specs.Members.{Member as MemberState, is_running}
use Rattle.transfer_rx.specs.Reassembly.{Arrival, arrival_of}
use Rattle.transfer_tx.specs.Queue.{Queued}
use Rattle.transfer_tx.specs.Views.{queued_of}
use Rattle.bus_spec.specs.Lawful.{already_running, because, arrival_refusal, no_such_frame, no_node, not_running, or_else}
use Rattle.bus_world.specs.Stands.{AreAlike, StandsFor}
use Rattle.raft_model.specs.Members.{HasNoneTwice}
use Rattle.bus_world.specs.Members.{Holds, ids_of, place_of}
use Rattle.bus_world.specs.Places.{closure_of}
use Rattle.bus_world.specs.declared.member.Member.{Member}

not_both : {X : Type 0} (b : Bool) → b ≡ true → b ≡ false → X
not_both b e f = absurd (cc (sym e ∙ f))

eqb_is : (a b : ℕ) → (a == b) ≡ true → a ≡ b
eqb_is a b e = elim (eqb_tells a b) [ inl same ↦ same.1 | inr diff ↦ not_both (a == b) e diff.0 ]

any_by : (b : Bool) (rest : Bool) → rest ≡ true → (if b then true else rest) ≡ true
any_by true rest e = refl
any_by false rest e = e

past : {X : Type 0} (b : Bool) (x : X) → cond b (Some x) None ≡ None → b ≡ false
past true x e = absurd (cc (e))
past false x e = refl

module _ {F : Type 0} where
  some_member : (xs : List (Member F)) (i n : ℕ) (d : Member F) → i < length xs → ((slice_index_or xs i d).id == n) ≡ true → is_member (ids_of xs) n ≡ true
  some_member [] i n d h e = absurd (omega (arith, h))
  some_member (x ∷ xs) zero n d h e = rw e refl
  some_member (x ∷ xs) (suc i) n d h e = any_by (x.id == n) (is_member (ids_of xs) n) (some_member xs i n d (omega (arith, h)) e)

  no_member : (xs : List (Member F)) (n : ℕ) → ((i : ℕ) (d : Member F) → i < length xs → ((slice_index_or xs i d).id == n) ≡ false) → is_member (ids_of xs) n ≡ false
  no_member [] n none = refl
  no_member (x ∷ xs) n none = rw (none 0 x (omega (arith))) (no_member xs n (λ i d h. none (suc i) d (omega (arith, h))))

  abbrev test : ℕ → Member F → Bool
  test n member = member.id == n

  none_found : (xs : List (Member F)) (n : ℕ) → place_of xs n ≡ None → is_member (ids_of xs) n ≡ false
  none_found xs n e = no_member xs n (λ i d h. fails_before_first (test n) xs i d (omega (arith, h, ltb-false (position_or_len (test n) xs) (length xs) (past (nat_lt (position_or_len (test n) xs) (length xs)) _ e))))

  one_found : (xs : List (Member F)) (n i : ℕ) → place_of xs n ≡ Some i → is_member (ids_of xs) n ≡ true
  one_found [] n i e = absurd (cc (e))
  one_found (x ∷ xs) n i e = let f = position-Some (test n) (x ∷ xs) i x e in some_member (x ∷ xs) i n x f.0 f.1

  pub member_some : (xs : List (Member F)) (n i : ℕ) → place_of xs n ≡ Some i → true ≡ is_member (ids_of xs) n
  member_some xs n i e = sym (one_found xs n i e)

  pub member_none : (xs : List (Member F)) (n : ℕ) → place_of xs n ≡ None → false ≡ is_member (ids_of xs) n
  member_none xs n e = sym (none_found xs n e)

  module _ (xs : List (Member F)) (bus : List Marked) (c : Cluster) (holds : Holds xs bus c) (n : ℕ) where
    listed : is_member (ids_of xs) n ≡ is_member c.ids n
    listed = ap (λ (ids : List ℕ). is_member ids n) holds.ids

    pub is_one : (i : ℕ) → place_of xs n ≡ Some i → no_node c n ≡ None
    is_one i e = rw (sym listed ∙ one_found xs n i e) refl

    pub not_listed : place_of xs n ≡ None → is_member c.ids n ≡ false
    not_listed e = sym listed ∙ none_found xs n e

    pub no_such : place_of xs n ≡ None → no_node c n ≡ Some NoNode
    no_such e = rw (sym listed ∙ none_found xs n e) refl

    pub nowhere_to_open : place_of xs n ≡ None → or_else (no_node c n) (already_running c n) ≡ Some NoNode
    nowhere_to_open e = rw (sym listed ∙ none_found xs n e) refl

    pub nowhere : place_of xs n ≡ None → or_else (no_node c n) (not_running c n) ≡ Some NoNode
    nowhere e = rw (sym listed ∙ none_found xs n e) refl

    module _ (i : ℕ) (found : place_of xs n ≡ Some i) (d : Member F) where
      there : (i < length xs) × (((slice_index_or xs i d).id == n) ≡ true)
      there = let f = position-Some (λ (member : Member F). member.id == n) xs i d found in (f.0, f.1)

      pub its_id : (slice_index_or xs i d).id ≡ n
      its_id = eqb_is (slice_index_or xs i d).id n there.1

      pub is_listed : is_member c.ids n ≡ true
      is_listed = sym listed ∙ some_member xs i n d there.0 there.1

      pub stands_there : StandsFor (slice_index_or xs i d) (c.member n)
      stands_there = subst (λ (k : ℕ). StandsFor (slice_index_or xs i d) (c.member k)) its_id (holds.members i d there.0)

      pub running_already : is_running (c.member n).status ≡ true → or_else (no_node c n) (already_running c n) ≡ Some Running
      running_already e = rw (is_listed, e) refl

      pub may_open : is_running (c.member n).status ≡ false → or_else (no_node c n) (already_running c n) ≡ None
      may_open e = rw (is_listed, e) refl

      pub stopped : is_running (c.member n).status ≡ false → or_else (no_node c n) (not_running c n) ≡ Some Stopped
      stopped e = rw (is_listed, e) refl

      pub lawful : is_running (c.member n).status ≡ true → or_else (no_node c n) (not_running c n) ≡ None
      lawful e = rw (is_listed, e) refl

-- what is lawful runs
pub runs_from : (b r : Bool) → or_else (because NoNode (not b)) (because Stopped (not r)) ≡ None → r ≡ true
runs_from b true e = refl
runs_from true false e = absurd (cc (e))
runs_from false false e = absurd (cc (e))

pub stopped_from : (b r : Bool) → or_else (because NoNode (not b)) (because Running r) ≡ None → r ≡ false
stopped_from b false e = refl
stopped_from true true e = absurd (cc (e))
stopped_from false true e = absurd (cc (e))

pub is_zero : (k : ℕ) → k ≡ 0 → (k == 0) ≡ true
is_zero k e = elim (eqb_tells k 0) [ inl same ↦ same.0 | inr diff ↦ absurd (diff.1 e) ]

pub is_not_zero : (k : ℕ) → (k ≡ 0 → ⊥) → (k == 0) ≡ false
is_not_zero k apart = elim (eqb_tells k 0) [ inl same ↦ absurd (apart same.1) | inr diff ↦ diff.0 ]

abbrev AreDifferent : {F : Type 0} → List (Member F) → Type 0
AreDifferent {F} members = (i j : ℕ) (d : Member F) → i < length members → j < length members
    → (slice_index_or members i d).id ≡ (slice_index_or members j d).id → i ≡ j

module _ {F : Type 0} where
  in_ids : (xs : List (Member F)) (j : ℕ) (d : Member F) → j < length xs → In (slice_index_or xs j d).id (ids_of xs)
  in_ids [] j d h = absurd (omega (arith, h))
  in_ids (x ∷ xs) zero d h = inl refl
  in_ids (x ∷ xs) (suc j) d h = inr (in_ids xs j d (omega (arith, h)))

  -- no two members have one node ID
  different_from : (xs : List (Member F)) → HasNoneTwice (ids_of xs) → AreDifferent xs
  different_from [] once i j d hi hj e = absurd (omega (arith, hi))
  different_from (x ∷ xs) once zero zero d hi hj e = refl
  different_from (x ∷ xs) once zero (suc j) d hi hj e = absurd (once.0 (subst (λ (k : ℕ). In k (ids_of xs)) (sym e) (in_ids xs j d (omega (arith, hj)))))
  different_from (x ∷ xs) once (suc i) zero d hi hj e = absurd (once.0 (subst (λ (k : ℕ). In k (ids_of xs)) e (in_ids xs i d (omega (arith, hi)))))
  different_from (x ∷ xs) once (suc i) (suc j) d hi hj e = ap suc (different_from xs once.1 i j d (omega (arith, hi)) (omega (arith, hj)) e)

pub at_same : {A : Type 0} (f : ℕ → A) (n k : ℕ) (x : A) → k ≡ n → at f n x k ≡ x
at_same f n k x e = elim (eqb_tells k n) [ inl same ↦ rw (same.0) refl | inr diff ↦ absurd (diff.1 e) ]

pub at_other : {A : Type 0} (f : ℕ → A) (n k : ℕ) (x : A) → k ≢ n → at f n x k ≡ f k
at_other f n k x e = elim (eqb_tells k n) [ inl same ↦ absurd (e same.1) | inr diff ↦ rw (diff.0) refl ]

module _ {F : Type 0} (xs : List (Member F)) (bus : List Marked) (c : Cluster) (holds : Holds xs bus c) (n i : ℕ) (found : place_of xs n ≡ Some i)
    (m : Member F) (x : MemberState) (id : m.id ≡ n) (stands : StandsFor m x) where
  different : AreDifferent xs
  different = different_from xs (subst (λ (ids : List ℕ). HasNoneTwice ids) (sym holds.ids) holds.lawful.once)

  abbrev set_one : List (Member F)
  set_one = slice_set xs i m

  abbrev Fits : ℕ → Member F → Type 0
  Fits j d = StandsFor (slice_index_or set_one j d) (at c.member n x (slice_index_or set_one j d).id)

  inside : (d : Member F) → i < length xs
  inside d = (position-Some (λ (member : Member F). member.id == n) xs i d found).0

  here : (d : Member F) → Fits i d
  here d = subst (λ (y : Member F). StandsFor y (at c.member n x y.id)) (sym (get_or-set_same xs i m d (inside d)))
      (subst (λ (s : MemberState). StandsFor m s) (sym (at_same c.member n m.id x id)) stands)

  elsewhere : (j : ℕ) (d : Member F) → j < length xs → j ≢ i → Fits j d
  elsewhere j d h apart = subst (λ (y : Member F). StandsFor y (at c.member n x y.id)) (sym (get_or-set_other xs i j m d apart))
      (subst (λ (s : MemberState). StandsFor (slice_index_or xs j d) s) (sym (at_other c.member n (slice_index_or xs j d).id x
      (λ e. apart (different j i d h (inside d) (e ∙ sym (its_id xs bus c holds n i found d)))))) (holds.members j d h))

  each : (j : ℕ) (d : Member F) → j < length xs → Fits j d
  each j d h = elim (eqb_tells j i) [ inl same ↦ subst (λ (k : ℕ). Fits k d) (sym same.1) (here d) | inr diff ↦ elsewhere j d h diff.1 ]

  pub set_holds : Holds set_one bus (with_member c n x)
  set_holds = record {
    ids = map-set_same (λ (member : Member F). member.id) xs i m m (id ∙ sym (its_id xs bus c holds n i found m)) ∙ holds.ids;
    frames = holds.frames;
    lawful = holds.lawful;
    members = λ j d h. each j d (omega (arith, h, length-set xs i m));
  }

-- a row of which the first two causes do not hold
pub past_two : (a b x : Option Unlawful) → or_else a b ≡ None → or_else a (or_else b x) ≡ x
past_two None None x e = refl
past_two None (Some why) x e = absurd (cc (e))
past_two (Some why) b x e = absurd (cc (e))

-- a frame of the bus
module _ (c : Cluster) (bus : List Marked) (k : ℕ) (e : map queued_of bus ≡ c.frames) (apart : k ≡ 0 → ⊥) (h : k ≤ length bus) where
  no_more : nat_lt (length c.frames) k ≡ false
  no_more = le-ltb (length c.frames) k (omega (arith, h, length-map bus queued_of, ap (λ (l : List Queued). length l) e))

  on_bus : no_such_frame c k ≡ None
  on_bus = rw (is_not_zero k apart, no_more) refl

  its_arrival : (moment : ℕ) (m : Marked) → m ≡ slice_index_or bus (k - 1) m → arrival_of m.frame m.mark moment ≡ arrival_at (frame_at c.frames k) moment
  its_arrival moment m is =
      ap (λ (y : Marked). arrival_of y.frame y.mark moment) is
      ∙ (ap (λ (q : Queued). arrival_at q moment) (sym (get_or-map queued_of bus (k - 1) m no_frame (omega (arith, h, apart))))
      ∙ ap (λ (l : List Queued). arrival_at (frame_at l k) moment) e)

  -- what a row that gives a frame to a running member is refused for
  pub judged_row : (n moment : ℕ) (m : Marked) → m ≡ slice_index_or bus (k - 1) m → or_else (no_node c n) (not_running c n) ≡ None
      → (why : Option Unlawful) → why ≡ arrival_refusal (c.member n).status (arrival_of m.frame m.mark moment)
      → or_else (no_node c n) (or_else (not_running c n) (or_else (no_such_frame c k) (arrival_refusal (c.member n).status (arrival_at (frame_at c.frames k) moment)))) ≡ why
  judged_row n moment m is lawful why judge =
      past_two (no_node c n) (not_running c n) (or_else (no_such_frame c k) (arrival_refusal (c.member n).status (arrival_at (frame_at c.frames k) moment))) lawful
      ∙ (ap (λ (x : Option Unlawful). or_else x (arrival_refusal (c.member n).status (arrival_at (frame_at c.frames k) moment))) on_bus
      ∙ (ap (λ (a : Arrival). arrival_refusal (c.member n).status a) (sym (its_arrival moment m is)) ∙ sym judge))

-- the closures of members, of which one is set
module _ {F : Type 0} where
  pub alike_there : (xs : List (Member F)) (n i : ℕ) (m : Member F) (accept : F) → AreAlike xs accept → place_of xs n ≡ Some i → m ≡ slice_index_or xs i m → closure_of m.place ≡ accept
  alike_there xs n i m accept alike found is =
      let there = position-Some (λ (member : Member F). member.id == n) xs i m found in subst (λ (y : Member F). closure_of y.place ≡ accept) (sym is) (alike i m there.0)

  pub set_alike : (xs : List (Member F)) (i : ℕ) (m : Member F) (accept : F) → AreAlike xs accept → closure_of m.place ≡ accept → AreAlike (slice_set xs i m) accept
  set_alike xs i m accept alike own j d h =
      let within : j < length xs = omega (arith, h, length-set xs i m) in
      elim (eqb_tells j i) as (λ _. closure_of (slice_index_or (slice_set xs i m) j d).place ≡ accept) [
        | inl same ↦ subst (λ (y : Member F). closure_of y.place ≡ accept) (sym (ap (λ (k : ℕ). slice_index_or (slice_set xs i m) k d) same.1 ∙ get_or-set_same xs i m d (omega (arith, within, same.1)))) own
        | inr diff ↦ subst (λ (y : Member F). closure_of y.place ≡ accept) (sym (get_or-set_other xs i j m d diff.1)) (alike j d within)
      ]

  pub set_some : (xs : List (Member F)) (i : ℕ) (m : Member F) → 1 ≤ length xs → 1 ≤ length (slice_set xs i m)
  set_some xs i m some = omega (arith, some, length-set xs i m)

  pub set_few : (xs : List (Member F)) (i : ℕ) (m : Member F) → length xs ≤ 5 → length (slice_set xs i m) ≤ 5
  set_few xs i m few = omega (arith, few, length-set xs i m)
