-- Entries and their bytes.
use Rattle.std.proofs.Common.{◌≡◌, ℕ, ◌<◌, List, [], ◌∷◌, ◌++◌, length, get_or, take, subst, ◌∙◌, arith}
use Rattle.std.proofs.Math.Seq.{get_or-append_seam, take-append_seam}
use Rattle.can_frame.specs.declared.entry.Entry.{Entry}
use Rattle.raft_log.specs.Rules.{number_of, entry_of}

-- two entries with the same fields
same_entry : (d e : Entry) → d.term ≡ e.term → d.uid ≡ e.uid → d.node ≡ e.node → d ≡ e
same_entry d e term uid node = λ i. record { term = term i; uid = uid i; node = node i }

-- bytes that spell an entry and its origin
pub spelled : (a b c d : ℕ) (uid : List ℕ) (e : Entry) (origin : ℕ) → number_of (a ∷ b ∷ c ∷ d ∷ []) ≡ e.term → uid ≡ e.uid → length uid ≡ 16 → e.node < 128
    → entry_of (a ∷ b ∷ c ∷ d ∷ (uid ++ e.node ∷ origin ∷ [])) ≡ e
spelled a b c d uid e origin term is long small =
    let kept : take 16 (uid ++ e.node ∷ origin ∷ []) ≡ uid = subst (λ n. take n (uid ++ e.node ∷ origin ∷ []) ≡ uid) long (take-append_seam uid (e.node ∷ origin ∷ [])) in
    let last : get_or (uid ++ e.node ∷ origin ∷ []) 16 0 ≡ e.node = subst (λ n. get_or (uid ++ e.node ∷ origin ∷ []) n 0 ≡ e.node) long (get_or-append_seam uid e.node (origin ∷ []) 0) in
    same_entry (entry_of (a ∷ b ∷ c ∷ d ∷ (uid ++ e.node ∷ origin ∷ []))) e term (kept ∙ is) (omega (arith, last))
