-- A request that contradicts nothing agrees with what is committed.
use Rattle.std.proofs.Common.{◌≡◌, ℕ, zero, suc, ◌+◌, ◌≤◌, Bool, true, false, List, [], ◌∷◌, refl, sym, ap, ◌∙◌, inl, inr, arith, ◌&&◌, ◌||◌, not, nat_eq, nat_lt}
use Rattle.std.specs.Prelude.{nat_le}
use Rattle.std.proofs.lemmas.Bool.Decides.{Decides-ltb, leb_tells}
use Rattle.std.proofs.lemmas.Slice.Eq.{bytes_eq-Decides}
use Rattle.std.specs.Str.{bytes_eq}
use Rattle.can_frame.specs.declared.entry.Entry.{Entry}
use Rattle.can_frame.specs.Log.{IsDistinctFromAll, entry_at}
use Rattle.dsdl_codec.specs.declared.append_request.AppendRequest.{AppendRequest}
use Rattle.raft_model.specs.Decisions.{are_distinct, is_distinct_from_all}
use Rattle.raft_model.specs.Server.{Store, committed}
use Rattle.alloc_server.specs.AnotherLog.{contradicts, differs_at, differs_before, has_committed, is_same_entry, repeats_committed}
use Rattle.alloc_server.proofs.Repeats.{distinct_decided}
use Rattle.another_log_laws.specs.Agreeing.{AgreesWith}
use Rattle.another_log_laws.proofs.Calls.{both, eqb_is, never}

all_three : (recent a b c : Bool) → (recent && (a || (b || c))) ≡ false → recent ≡ true → (a ≡ false) × (b ≡ false) × (c ≡ false)
all_three true true b c e f = never e
all_three true false true c e f = never e
all_three true false false true e f = never e
all_three true false false false e f = (refl, refl, refl)
all_three false a b c e f = never (sym f)

holds_there : (there same : Bool) → (there && not same) ≡ false → there ≡ true → same ≡ true
holds_there true true e f = refl
holds_there true false e f = never e
holds_there false same e f = never (sym f)

le_true : (a b : ℕ) → a ≤ b → nat_le a b ≡ true
le_true a b h = elim (leb_tells a b) [ inl same ↦ same.0 | inr more ↦ absurd (omega (arith, h, more.1)) ]

within : (store : Store) (place : ℕ) → 1 ≤ place → place ≤ store.commit → has_committed store place ≡ true
within store place low high = ap (λ (b : Bool). b && nat_le place store.commit) (le_true 1 place low) ∙ le_true place store.commit high

one_entry : (a b : Entry) → is_same_entry a b ≡ true → a ≡ b
one_entry a b e =
    let first = both (nat_eq a.term b.term) _ e in
    let rest = both (bytes_eq a.uid b.uid) (nat_eq a.node b.node) first.1 in
    equal (eqb_is a.term b.term first.0) ((bytes_eq-Decides a.uid b.uid).0 rest.0) (eqb_is a.node b.node rest.1)
  where
    equal : a.term ≡ b.term → a.uid ≡ b.uid → a.node ≡ b.node → a ≡ b
    equal term uid node = λ i. record { term = term i; uid = uid i; node = node i }

each_apart : (entry : Entry) (log : List Entry) → is_distinct_from_all entry log ≡ true → IsDistinctFromAll log entry
each_apart entry [] e i low = absurd (omega (arith, low))
each_apart entry (first ∷ rest) e zero low =
    let d = (distinct_decided entry first).0 (both (are_distinct entry first) _ e).0 in
    record { nodes = λ a b same. d.nodes b a (sym same); uids = λ a b same. same ∙ d.uids b a (sym same) }
each_apart entry (first ∷ rest) e (suc i) low = each_apart entry rest (both (are_distinct entry first) _ e).1 i (omega (arith, low))

pub agrees_with : (store : Store) (request : AppendRequest) → contradicts store request ≡ false → store.term ≤ request.term → AgreesWith store request
agrees_with store request e recent = record {
  before = λ low high. eqb_is _ request.prev_term (holds_there (has_committed store request.prev_index) _ facts.0 (within store request.prev_index low high));
  same = λ entry is high. one_entry (entry_at store.log (request.prev_index + 1)) entry
      (holds_there (has_committed store (request.prev_index + 1)) _ (ap (differs_at store (request.prev_index + 1)) (sym is) ∙ facts.1) (within store (request.prev_index + 1) (omega arith) high));
  apart = λ entry is behind. each_apart entry (committed store)
      (holds_there (nat_lt store.commit (request.prev_index + 1)) _ (ap (repeats_committed store (request.prev_index + 1)) (sym is) ∙ facts.2) ((Decides-ltb store.commit (request.prev_index + 1)).1 (omega (arith, behind))));
}
  where
    facts : (differs_before store request ≡ false) × (differs_at store (request.prev_index + 1) request.entry ≡ false)
        × (repeats_committed store (request.prev_index + 1) request.entry ≡ false)
    facts = all_three (nat_le store.term request.term) _ _ _ e (le_true store.term request.term recent)
