-- The lines of an audit, one more at a time.
use Rattle.std.proofs.Common.{◌≡◌, inl, inr, ℕ, zero, suc, ◌+◌, ◌<◌, ◌≤◌, List, [], ◌++◌, refl, sym, ap, ◌∙◌, append_assoc, append-nil, arith}
use Rattle.std.proofs.lemmas.Bool.Decides.{leb_tells}
use Rattle.std.proofs.lemmas.List.{get_or-take}
use Rattle.can_frame.specs.declared.entry.Entry.{Entry}
use Rattle.can_frame.specs.Log.{blank, entry_at}
use Rattle.raft_log.specs.declared.stored.Stored.{Stored}
use Rattle.store_audit.specs.Report.{lines_to, place_line}
use Rattle.store_audit.specs.Stores.{committed}

pub no_lines : (stores : List Stored) (list : List Entry) → lines_to stores list 0 ≡ []
unfolding lines_to
no_lines stores list = refl

more_lines : (stores : List Stored) (list : List Entry) (n : ℕ) → lines_to stores list (suc n) ≡ lines_to stores list n ++ place_line stores (suc n) (entry_at list (suc n))
unfolding lines_to
more_lines stores list n = refl

-- the line of an entry that a store has committed
pub line_more : (stores : List Stored) (store : Stored) (n place : ℕ) → place ≡ n + 1 → n < store.commit
    → lines_to stores (committed store) place ≡ lines_to stores (committed store) n ++ place_line stores place (entry_at store.entries.items place)
line_more stores store n place is below =
    let next : place ≡ suc n = omega (arith, is) in
    rw (next, more_lines stores (committed store) n, get_or-take store.commit store.entries.items n (blank 0) below) refl

-- the lines of fewer places stand in front
pub lines_front : (stores : List Stored) (list : List Entry) (k n : ℕ) → k ≤ n → (rest : List ℕ) × (lines_to stores list n ≡ lines_to stores list k ++ rest)
lines_front stores list k zero le = let none : k ≡ 0 = omega (arith, le) in ([], rw none (sym (append-nil (lines_to stores list 0))))
lines_front stores list k (suc n) le = elim (leb_tells k n) as (λ _. (rest : List ℕ) × (lines_to stores list (suc n) ≡ lines_to stores list k ++ rest)) [
  | inl t ↦
      let less = lines_front stores list k n t.1 in
      let line = place_line stores (suc n) (entry_at list (suc n)) in (less.0 ++ line, more_lines stores list n ∙ (ap (λ l. l ++ line) less.1 ∙ append_assoc (lines_to stores list k) less.0 line))
  | inr t ↦ let all : k ≡ suc n = omega (arith, le, t.1) in ([], rw all (sym (append-nil (lines_to stores list (suc n)))))
]
