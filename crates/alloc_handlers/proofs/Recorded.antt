-- Node IDs that are known: those of the members, and those that stand in the log.
use Rattle.std.proofs.Common.{◌≡◌, ◌<◌, ℕ, zero, suc, Bool, true, false, List, [], ◌∷◌, length, ◌||◌, refl, sym, ap, ◌∙◌, arith, nat_eq, slice_index_or}
use Rattle.alloc_handlers.proofs.Words.{AllocatorState, Entry, Ghosts, HasNodeId, Member, StandsFor, Store, blank, durable_state, is_known, is_on_list, is_recorded, member_list}
use Rattle.alloc_handlers.proofs.Choosing.{same_number}

or_true : (b : Bool) → (b || true) ≡ true
or_true true = refl
or_true false = refl

at_place : (log : List Entry) (node place : ℕ) → place < length log → (slice_index_or log place (blank 0)).node ≡ node → is_recorded log node ≡ true
at_place [] node place within same = absurd (omega (arith, within))
at_place (entry ∷ log) node zero within same = ap (λ (b : Bool). b || is_recorded log node) (same_number entry.node node same)
at_place (entry ∷ log) node (suc place) within same =
    ap (λ (b : Bool). nat_eq entry.node node || b) (at_place log node place (omega (arith, within)) same) ∙ or_true (nat_eq entry.node node)

-- one that is not marked stands at no place
pub not_recorded : (log : List Entry) (node : ℕ) (listed before marked : Bool) → marked ≡ (listed || (is_recorded log node || before)) → marked ≡ false
    → HasNodeId log node → ⊥
not_recorded log node true before marked is not h = let no_way : true ≡ false = sym is ∙ not in cc
not_recorded log node false before marked is not h =
    let here : (is_recorded log node || before) ≡ true = ap (λ (b : Bool). b || before) (at_place log node h.place h.within h.same) in
    let no_way : true ≡ false = sym here ∙ sym is ∙ not in cc

-- a member knows those that the allocator state knows, for which it stands
pub knows : {D : Type 0} {disk : Ghosts D} (member : Member D disk) (t : AllocatorState) (node : ℕ) → StandsFor member t
    → is_known t node ≡ (is_on_list (member_list member.cluster) node || is_recorded (durable_state member.durable).log node)
knows member t node h =
    ap (λ (list : List ℕ). is_on_list list node || is_recorded t.raft_server.store.log node) (sym h.cluster.members)
    ∙ ap (λ (store : Store). is_on_list (member_list member.cluster) node || is_recorded store.log node) h.raft.store

-- the table of those that are known begins without a mark
pub unmarked : (listed recorded : Bool) → (listed || (recorded || false)) ≡ (listed || recorded)
unmarked true recorded = refl
unmarked false true = refl
unmarked false false = refl

pub marked_in_turn : (listed recorded before : Bool) → (listed || (recorded || before)) ≡ ((listed || recorded) || before)
marked_in_turn true recorded before = refl
marked_in_turn false recorded before = refl
