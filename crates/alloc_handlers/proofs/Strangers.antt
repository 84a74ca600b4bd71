-- Where every device that is online is known, a leader neither records one nor asks one.
use Rattle.std.proofs.Common.{◌≡◌, ℕ, zero, suc, ◌+◌, ◌<◌, ◌≤◌, Bool, true, false, cond, not, ◌&&◌, ◌||◌, List, Option, Some, None, find, length, Contains, get_or, refl, ap, subst, ◌∙◌, arith, if◌then◌else◌, is_none, is_some, nat_lt}
use Rattle.alloc_handlers.proofs.Words.{AllocatorState, StepState, asks, candidate, history, is_candidate, is_due, is_known, is_leader, is_nameless, is_online, is_stranger, known, may_be_asked, may_propose, query_phase, range_with_len, record_phase, records_node, unique_id}
use Rattle.node_discovery.specs.Watch.{next_query}
use Rattle.alloc_handlers.proofs.Candidates.{known_at}
use Rattle.std.proofs.lemmas.List.{get_or_default}

no_candidate : (online known silent : Bool) (uid : Option (List ℕ)) → (online && not known) ≡ false → (not known && (is_some (if online then uid else None) || ((online && is_none uid) && silent))) ≡ false
no_candidate false true silent uid is = refl
no_candidate false false silent uid is = refl
no_candidate true true silent uid is = refl
no_candidate true false silent uid is = absurd (cc)

not_due : (online known nameless late : Bool) → (online && not known) ≡ false → (((online && nameless) && not known) && late) ≡ false
not_due false known nameless late is = refl
not_due true true true late is = refl
not_due true true false late is = refl
not_due true false nameless late is = absurd (cc)

-- who is online was heard, so nobody is a stranger where none of those heard is
pub none_of_heard : (t : AllocatorState) (heard : List ℕ) (node : ℕ) → (is_online (history node t.watch) t.now ≡ true → Contains heard node)
    → ((i : ℕ) → i < length heard → is_stranger t (get_or heard i 0) ≡ false) → is_stranger t node ≡ false
none_of_heard t heard node on_list none = either (is_online (history node t.watch) t.now) refl
  where
    either : (online : Bool) → is_online (history node t.watch) t.now ≡ online → is_stranger t node ≡ false
    either false is = ap (λ (online : Bool). online && not (is_known t node)) is
    either true is =
        let at = on_list is in
        subst (λ (n : ℕ). is_stranger t n ≡ false) (get_or_default heard at.0 0 node at.1 ∙ at.2) (none at.0 at.1)

none_found : (p : ℕ → Bool) (from count : ℕ) → ((node : ℕ) → from ≤ node → node < from + count → p node ≡ false) → find p (range_with_len from count) ≡ None
none_found p from zero all = refl
none_found p from (suc count) all =
    ap (λ (b : Bool). cond b (Some from) (find p (range_with_len (from + 1) count))) (all from (omega arith) (omega arith))
    ∙ none_found p (from + 1) count (λ node least most. all node (omega arith) (omega arith))

module _ (t : AllocatorState) (all : (node : ℕ) → 1 ≤ node → node < 126 → is_stranger t node ≡ false) where
  no_candidates : candidate t ≡ None
  no_candidates = none_found (is_candidate t) 1 125 (λ node least most.
      no_candidate _ (is_known t node) _ (unique_id (history node t.watch)) (all node least (omega arith)))

  no_query : next_query t.watch (known t) t.now ≡ None
  unfolding next_query
  no_query = none_found (λ node. is_due t.watch (known t) node t.now) 1 125 (λ node least most.
      ap (λ (b : Bool). (is_nameless (history node t.watch) t.now && not b) && may_be_asked (history node t.watch) t.now) (known_at t (known t) node (omega arith) refl)
      ∙ not_due _ (is_known t node) _ _ (all node least (omega arith)))

either_way : {A : Type 0} (b : Bool) (x : A) → (if b then x else x) ≡ x
either_way true x = refl
either_way false x = refl

module _ (step : ℕ) (g : StepState) where
  pub nothing_led : is_leader g.allocator.raft_server.memory.role ≡ false → query_phase step (record_phase step g) ≡ g
  nothing_led not_leader =
      let recorded : record_phase step g ≡ g = ap (λ (b : Bool). if (b && nat_lt (length g.allocator.raft_server.store.log) 127) then records_node step (candidate g.allocator) g else g) not_leader in
      ap (query_phase step) recorded
      ∙ ap (λ (b : Bool). if b then asks step (next_query g.allocator.watch (known g.allocator) g.allocator.now) g else g) not_leader

  pub nothing_unknown : ((node : ℕ) → 1 ≤ node → node < 126 → is_stranger g.allocator node ≡ false) → query_phase step (record_phase step g) ≡ g
  nothing_unknown all =
      let recorded : record_phase step g ≡ g =
      ap (λ (node : Option ℕ). if may_propose g.allocator then records_node step node g else g) (no_candidates g.allocator all)
      ∙ either_way (may_propose g.allocator) g
      in
      ap (query_phase step) recorded
      ∙ ap (λ (node : Option ℕ). if is_leader g.allocator.raft_server.memory.role then asks step node g else g) (no_query g.allocator all)
      ∙ either_way (is_leader g.allocator.raft_server.memory.role) g
