-- The headline, from the run that a world shows.
use Rattle.std.proofs.Common.{◌≡◌, ◌≢◌, ℕ, ◌<◌, ◌≤◌, Bool, true, false, List, [], ◌∷◌, length, take, refl, sym, ap, subst, ◌∙◌, arith, inl, inr, ◌⊎◌, get_or-take}
use Rattle.std.specs.Prelude.{nat_lt, if◌then◌else◌, slice_index_or}
use Rattle.std.proofs.lemmas.Bool.Decides.{leb_tells, eqb_tells}
use Rattle.std.proofs.lemmas.List.{length-take-le}
use Rattle.can_frame.specs.declared.entry.Entry.{Entry}
use Rattle.can_frame.specs.Log.{AreDistinct, HasPair, IsInjective, IsPair, IsPrefix, IsWellFormed, blank}
use Rattle.can_frame.proofs.Logs.{pair_of_device}
use Rattle.dsdl_codec.specs.declared.allocation.Allocation.{Allocation}
use Rattle.raft_model.specs.Invariants.{Invariants, IsSettled, StaysSettled}
use Rattle.raft_model.specs.Lists.{In}
use Rattle.raft_model.specs.Messages.{Pair}
use Rattle.raft_model.specs.Messages.Message.{Pairs}
use Rattle.raft_model.specs.Runs.{Event, World, run}
use Rattle.raft_model.specs.Safety.{IsSafe, Lasts}
use Rattle.raft_model.specs.Server as raft
use Rattle.raft_model.specs.Server.{RaftServer, Store}
use Rattle.raft_model.specs.Server.Role.{Leader}
use Rattle.alloc_spec.specs.AllocatorState.{AllocatorState}
use Rattle.bus_spec.specs.Cluster.{Cluster}
use Rattle.bus_spec.specs.Members.MemberStatus.{Up}
use Rattle.bus_spec.specs.Logs.{IsOffered, committed, stored}
use Rattle.bus_agreement.specs.Headline.{Headline, longest, the_list}
use Rattle.bus_agreement.specs.Mirrors.{Mirrors}
use Rattle.bus_agreement.specs.Said.{IsProper}
use Rattle.bus_agreement.proofs.Lists.{in_at, in_taken}
use Rattle.bus_agreement.proofs.Prefixes.{prefix_get, prefix_joined, prefix_length, prefix_of_longer}

lt_tells : (a b : ℕ) → ((nat_lt a b ≡ true) × (a < b)) ⊎ ((nat_lt a b ≡ false) × (b ≤ a))
lt_tells a b = grind (arith, leb_tells)

-- ---- the longest of the committed logs

module _ (choice : ℕ → Bool) (w : Cluster) where
  abbrev logs : ℕ → List Entry
  logs n = committed choice w n

  -- one step of the fold, by which is longer
  step_longer : (n : ℕ) (ns : List ℕ) → nat_lt (length (longest choice w ns)) (length (logs n)) ≡ true → longest choice w (n ∷ ns) ≡ logs n
  step_longer n ns e = ap (λ (b : Bool). if b then logs n else longest choice w ns) e

  step_other : (n : ℕ) (ns : List ℕ) → nat_lt (length (longest choice w ns)) (length (logs n)) ≡ false → longest choice w (n ∷ ns) ≡ longest choice w ns
  step_other n ns e = ap (λ (b : Bool). if b then logs n else longest choice w ns) e

  -- the longest log is empty, or the log of one of the members
  pub longest_is : (ns : List ℕ) → (longest choice w ns ≡ []) ⊎ ((n : ℕ) × In n ns × (longest choice w ns ≡ logs n))
  longest_is [] = inl refl
  longest_is (n ∷ ns) = elim (lt_tells (length (longest choice w ns)) (length (logs n))) [
    | inl more ↦ inr (n, inl refl, step_longer n ns more.0)
    | inr less ↦ elim (longest_is ns) [
      | inl none ↦ inl (step_other n ns less.0 ∙ none)
      | inr some ↦ inr (some.0, inr some.1, step_other n ns less.0 ∙ some.2)
    ]
  ]

  -- no member's log is longer than the longest
  pub longest_most : (n : ℕ) (ns : List ℕ) → In n ns → length (logs n) ≤ length (longest choice w ns)
  longest_most n [] there = absurd there
  longest_most n (m ∷ ns) (inl same) = elim (lt_tells (length (longest choice w ns)) (length (logs m))) [
    | inl more ↦ let e : length (longest choice w (m ∷ ns)) ≡ length (logs m) = ap length (step_longer m ns more.0) in
        let f : length (logs n) ≡ length (logs m) = ap (λ (k : ℕ). length (logs k)) same in omega (arith, e, f)
    | inr less ↦ let e : length (longest choice w (m ∷ ns)) ≡ length (longest choice w ns) = ap length (step_other m ns less.0) in
        let f : length (logs n) ≡ length (logs m) = ap (λ (k : ℕ). length (logs k)) same in omega (arith, e, f, less.1)
  ]
  longest_most n (m ∷ ns) (inr there) = elim (lt_tells (length (longest choice w ns)) (length (logs m))) [
    | inl more ↦ let e : length (longest choice w (m ∷ ns)) ≡ length (logs m) = ap length (step_longer m ns more.0) in
        omega (arith, e, more.1, longest_most n ns there)
    | inr less ↦ let e : length (longest choice w (m ∷ ns)) ≡ length (longest choice w ns) = ap length (step_other m ns less.0) in
        omega (arith, e, longest_most n ns there)
  ]

-- a list that begins with another has its pairs
pub still_pair : (list longer : List Entry) → IsPrefix list longer → (uid : List ℕ) (node : ℕ) → HasPair list uid node → HasPair longer uid node
still_pair list longer front uid node is =
    let same : slice_index_or longer is.place (blank 0) ≡ slice_index_or list is.place (blank 0) = prefix_get list longer is.place front is.within in record {
      place = is.place;
      within = omega (arith, is.within, prefix_length list longer front);
      pair = subst IsPair (sym same) is.pair;
      its_uid = ap (λ (e : Entry). e.uid) same ∙ is.its_uid;
      its_node = ap (λ (e : Entry). e.node) same ∙ is.its_node;
    }

-- ---- a world and its run

module _ (choice : ℕ → Bool) (w : Cluster) (run : World) (mirrors : Mirrors choice w run) (safe : IsSafe run) (sound : Invariants run) where
  pub same_log : (n : ℕ) → In n w.ids → raft.committed (run.server n).store ≡ committed choice w n
  same_log n listed = ap raft.committed (mirrors.stored n listed)

  pub of_ledger : (n : ℕ) → In n w.ids → IsPrefix (committed choice w n) run.ledger.entries
  of_ledger n listed = subst (λ (l : List Entry). IsPrefix l run.ledger.entries) (same_log n listed) (safe.committed_here n)

  pub list_of_ledger : IsPrefix (the_list choice w) run.ledger.entries
  list_of_ledger = elim (longest_is choice w w.ids) [
    | inl none ↦ subst (λ (l : List Entry). IsPrefix l run.ledger.entries) (sym none) refl
    | inr some ↦ subst (λ (l : List Entry). IsPrefix l run.ledger.entries) (sym some.2) (of_ledger some.0 some.1)
  ]

  pub of_list : (n : ℕ) → In n w.ids → IsPrefix (committed choice w n) (the_list choice w)
  of_list n listed = prefix_of_longer (committed choice w n) (the_list choice w) run.ledger.entries (of_ledger n listed) list_of_ledger
      (longest_most choice w n w.ids listed)

  pub is_injective : IsInjective (the_list choice w)
  is_injective i j i_j j_in = subst (λ (e : Entry). AreDistinct e (slice_index_or (the_list choice w) j (blank 0)))
      (prefix_get (the_list choice w) run.ledger.entries i list_of_ledger (omega (arith, i_j, j_in)))
      (subst (λ (e : Entry). AreDistinct (slice_index_or run.ledger.entries i (blank 0)) e)
      (prefix_get (the_list choice w) run.ledger.entries j list_of_ledger j_in)
      (safe.injective i j i_j (omega (arith, j_in, prefix_length (the_list choice w) run.ledger.entries list_of_ledger))))

  -- a place of a committed log is that place of the log
  place_in : (s : Store) (place : ℕ) → place < s.commit → slice_index_or (raft.committed s) place (blank 0) ≡ slice_index_or s.log place (blank 0)
  place_in s place h = get_or-take s.commit s.log place (blank 0) h

  count_of : (n : ℕ) → length (raft.committed (run.server n).store) ≡ (run.server n).store.commit
  count_of n = length-take-le (run.server n).store.commit (run.server n).store.log (sound.stores n).commit

  formed_of : (n : ℕ) (place : ℕ) → place < length (raft.committed (run.server n).store)
      → IsWellFormed (slice_index_or (raft.committed (run.server n).store) place (blank 0))
  formed_of n place h = subst IsWellFormed (sym (place_in (run.server n).store place (omega (arith, h, count_of n))))
      ((sound.stores n).well_formed place (omega (arith, h, count_of n, (sound.stores n).commit)))

  proper_of : (n : ℕ) (place : ℕ) → place < length (raft.committed (run.server n).store)
      → IsProper w.ids (slice_index_or (raft.committed (run.server n).store) place (blank 0))
  proper_of n place h = mirrors.entries n (slice_index_or (raft.committed (run.server n).store) place (blank 0))
      (in_taken (run.server n).store.commit (run.server n).store.log _ (in_at (raft.committed (run.server n).store) place (blank 0) h))

  -- a fact of each place of the committed logs is one of each place of the list
  each_listed : (Fact : Entry → Type 0) → ((n place : ℕ) → place < length (raft.committed (run.server n).store)
      → Fact (slice_index_or (raft.committed (run.server n).store) place (blank 0)))
      → (place : ℕ) → place < length (the_list choice w) → Fact (slice_index_or (the_list choice w) place (blank 0))
  each_listed Fact each place h = elim (longest_is choice w w.ids) [
    | inl none ↦ absurd (let e : length (the_list choice w) ≡ 0 = ap length none in omega (arith, h, e))
    | inr some ↦
        let same : the_list choice w ≡ raft.committed (run.server some.0).store = some.2 ∙ sym (same_log some.0 some.1) in
        let inside : place < length (raft.committed (run.server some.0).store) = subst (λ (l : List Entry). place < length l) same h in
        subst (λ (l : List Entry). Fact (slice_index_or l place (blank 0))) (sym same) (each some.0 place inside)
  ]

  pub are_formed : (place : ℕ) → place < length (the_list choice w) → IsWellFormed (slice_index_or (the_list choice w) place (blank 0))
  are_formed = each_listed IsWellFormed formed_of

  pub are_proper : (place : ℕ) → place < length (the_list choice w) → IsProper w.ids (slice_index_or (the_list choice w) place (blank 0))
  are_proper = each_listed (λ (e : Entry). IsProper w.ids e) proper_of

  pub is_shown : (n : ℕ) (server : AllocatorState) → In n w.ids → (w.member n).status ≡ Up server → server.raft_server.store ≡ stored choice w n
  is_shown n server listed runs = sym (ap (λ (p : RaftServer). p.store) (mirrors.serves n server listed runs)) ∙ mirrors.stored n listed

  -- what a device was told is a pair of the log that its sender has committed, and so of the list
  pub pair_committed : (pair : Pair) → In pair.from w.ids → In (Pairs pair) run.bag → HasPair (committed choice w pair.from) pair.uid pair.node
  pair_committed pair listed there =
      let found = safe.pairs pair there in
      let inside : found.0 < length (raft.committed (run.server pair.from).store) = omega (arith, found.1, count_of pair.from) in
      let same = place_in (run.server pair.from).store found.0 found.1 in
      let uid = ap (λ (e : Entry). e.uid) same ∙ found.2 in
      subst (λ (l : List Entry). HasPair l pair.uid pair.node) (same_log pair.from listed) (record {
        place = found.0;
        within = inside;
        pair = pair_of_device _ (formed_of pair.from found.0 inside) (λ zero. found.4 (sym uid ∙ zero));
        its_uid = uid;
        its_node = ap (λ (e : Entry). e.node) same ∙ found.3;
      })

  pub pair_listed : (pair : Pair) → In pair.from w.ids → In (Pairs pair) run.bag → HasPair (the_list choice w) pair.uid pair.node
  pair_listed pair listed there =
      still_pair (committed choice w pair.from) (the_list choice w) (of_list pair.from listed) pair.uid pair.node (pair_committed pair listed there)

  pub is_offered : (n : ℕ) (server : AllocatorState) (answer : Allocation) → In n w.ids → (w.member n).status ≡ Up server
      → IsOffered server.queue n answer → answer.node ≢ 0 → HasPair (committed choice w n) answer.uid.items answer.node
  is_offered n server answer listed runs offered gives =
      let made = mirrors.offers n server answer listed runs offered gives in
      pair_committed (record { step = made.0; from = n; uid = answer.uid.items; node = answer.node }) listed made.1

-- ---- now and later

module _ (choice : ℕ → Bool) (now later : Cluster) (early : World) (events : List Event) (ids : later.ids ≡ now.ids)
    (mirrors : Mirrors choice now early) (mirrored : Mirrors choice later (run early events)) (safe : IsSafe early) (sound : Invariants early)
    (still_safe : IsSafe (run early events)) (still_sound : Invariants (run early events)) (lasts : Lasts early (run early events))
    (stays : StaysSettled early (run early events)) where
  abbrev late : World
  late = run early events

  there_too : (n : ℕ) → In n now.ids → In n later.ids
  there_too n listed = subst (λ (ns : List ℕ). In n ns) (sym ids) listed

  kept : (n : ℕ) → In n now.ids → IsPrefix (committed choice now n) (committed choice later n)
  kept n listed = subst (λ (l : List Entry). IsPrefix l (committed choice later n)) (same_log choice now early mirrors safe sound n listed)
      (subst (λ (l : List Entry). IsPrefix (raft.committed (early.server n).store) l) (same_log choice later late mirrored still_safe still_sound n (there_too n listed))
      (lasts.committed_here n))

  grows : IsPrefix (the_list choice now) (the_list choice later)
  grows = elim (longest_is choice now now.ids) [
    | inl none ↦ subst (λ (l : List Entry). IsPrefix l (the_list choice later)) (sym none) refl
    | inr some ↦ subst (λ (l : List Entry). IsPrefix l (the_list choice later)) (sym some.2)
        (prefix_joined (committed choice now some.0) (committed choice later some.0) (the_list choice later) (kept some.0 some.1)
        (of_list choice later late mirrored still_safe still_sound some.0 (there_too some.0 some.1)))
  ]

  -- what was settled by a term of at most this one begins the list of this one, which has a leader by now
  begins : (log : List Entry) (term top : ℕ) → IsSettled early log term → term ≤ top → late.history.led top ≡ true → IsPrefix log (late.history.list top)
  begins log term top settled h led = let still : IsSettled late log term = stays log term settled in
      elim (eqb_tells term top) [
        | inl same ↦ subst (λ (t : ℕ). IsPrefix log (late.history.list t)) same.1 (sym still.3 ∙ take_whole log)
        | inr apart ↦ still_sound.complete log term top still (omega (arith, h, apart.1)) led
      ]
    where
      take_whole : (l : List Entry) → take (length l) l ≡ l
      take_whole [] = refl
      take_whole (e ∷ l) = ap (λ (r : List Entry). e ∷ r) (take_whole l)

  leader_has : (n leader : ℕ) (server : AllocatorState) → In n now.ids → In leader now.ids → (later.member leader).status ≡ Up server
      → server.raft_server.memory.role ≡ Leader → (stored choice now n).term ≤ server.raft_server.store.term
      → IsPrefix (committed choice now n) server.raft_server.store.log
  leader_has n leader server listed led_by runs leads h =
      let same : late.server leader ≡ server.raft_server = mirrored.serves leader server (there_too leader led_by) runs in
      let role : (late.server leader).memory.role ≡ Leader = ap (λ (p : RaftServer). p.memory.role) same ∙ leads in
      let leading = still_sound.leaders.leading leader role in
      let term : (early.server n).store.term ≤ (late.server leader).store.term
      = omega (arith, h, ap (λ (s : Store). s.term) (mirrors.stored n listed), ap (λ (p : RaftServer). p.store.term) same) in
      let held : IsPrefix (raft.committed (early.server n).store) (late.server leader).store.log = subst (λ (l : List Entry). IsPrefix (raft.committed (early.server n).store) l) (sym leading.2)
      (elim (sound.commits.servers n) [
        | inl none ↦ subst (λ (l : List Entry). IsPrefix l (late.history.list (late.server leader).store.term)) (sym (ap (λ (k : ℕ). take k (early.server n).store.log) none)) refl
        | inr some ↦ begins (raft.committed (early.server n).store) some.0 (late.server leader).store.term some.2 (omega (arith, some.1, term)) leading.0
      ]) in
      subst (λ (l : List Entry). IsPrefix l server.raft_server.store.log) (same_log choice now early mirrors safe sound n listed)
      (subst (λ (p : RaftServer). IsPrefix (raft.committed (early.server n).store) p.store.log) same held)

  pub headline : Headline choice now later
  headline = record {
    prefix = of_list choice now early mirrors safe sound;
    kept = kept;
    shown = is_shown choice now early mirrors safe sound;
    found = mirrors.found;
    formed = are_formed choice now early mirrors safe sound;
    entries = λ place h. (are_proper choice now early mirrors safe sound place h).fits;
    injective = is_injective choice now early mirrors safe sound;
    grows = grows;
    outside = λ place n h listed e. (are_proper choice now early mirrors safe sound place h).outside (subst (λ (m : ℕ). In m now.ids) (sym e) listed);
    offered = is_offered choice now early mirrors safe sound;
    leaders = λ n leader server listed led_by leads h. leader_has n leader server listed led_by leads.runs leads.role h;
  }
