-- The member list grows at its end alone.
use Rattle.std.proofs.Common.{◌≡◌, ℕ, Bool, true, false, if◌then◌else◌, List, [], ◌∷◌, ◌++◌, length, take, sym, subst, ◌∙◌}
use Rattle.std.proofs.lemmas.List.{append_assoc, append-nil}
use Rattle.std.proofs.Math.Seq.{take-append_seam}
use Rattle.can_frame.specs.Log.{IsPrefix}
use Rattle.cluster_discovery.specs.Members.{members_with_all, may_join}

-- the second list is the first with some more behind it
abbrev Grows : List ℕ → List ℕ → Type 0
Grows old new = (rest : List ℕ) × (new ≡ old ++ rest)

one_more : (joins : Bool) (size : ℕ) (members : List ℕ) (node : ℕ) (nodes : List ℕ) →
    ((front : List ℕ) → Grows front (members_with_all size front nodes)) →
    Grows members (members_with_all size (if joins then members ++ node ∷ [] else members) nodes)
one_more true size members node nodes grows =
    let more = grows (members ++ node ∷ []) in
    (node ∷ more.0, more.1 ∙ append_assoc members (node ∷ []) more.0)
one_more false size members node nodes grows = grows members

all_grow : (size : ℕ) (nodes members : List ℕ) → Grows members (members_with_all size members nodes)
all_grow size [] members = ([], sym (append-nil members))
all_grow size (node ∷ nodes) members =
    one_more (may_join size members node) size members node nodes (all_grow size nodes)

pub members_kept : (counts : Bool) (size : ℕ) (members nodes : List ℕ) →
    IsPrefix members (if counts then members_with_all size members nodes else members)
members_kept true size members nodes =
    let more = all_grow size nodes members in
    subst (λ l. take (length members) l ≡ members) (sym more.1) (take-append_seam members more.0)
members_kept false size members nodes =
    subst (λ l. take (length members) l ≡ members) (append-nil members) (take-append_seam members [])
