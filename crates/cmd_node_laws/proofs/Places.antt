-- One member of a world is changed, and the others stay; rows behind rows.
use Rattle.std.proofs.Common.{◌≡◌, ℕ, List, [], ◌∷◌, ◌++◌, map, append_assoc, refl, sym, ap, subst, ◌∙◌, inl, inr}
use Rattle.std.proofs.lemmas.Bool.Decides.{eqb_tells}
use Rattle.std.proofs.lemmas.List.{map-append}
use Rattle.raft_model.specs.Lists.{at_here, at_other}
use Rattle.bus_rows.specs.declared.row.Row.{Row}
use Rattle.transfer_tx.specs.Queue.{Queued}
use Rattle.bus_spec.specs.Cluster.{Cluster, after_rows, after_row, with_member}
use Rattle.bus_spec.specs.Lawful.{DoNoHarm}
use Rattle.bus_spec.specs.Members.{Member}
use Rattle.cmd_node.specs.Frames.{raw_of}
use Rattle.cmd_node_laws.specs.Mirrored.{AreCalm, IsCalm, raw_by, sent_by, sent_in}

pub own_is : (w : Cluster) (n : ℕ) (x : Member) → (with_member w n x).member n ≡ x
own_is w n x = at_here w.member n n x refl

-- a fact of each member
pub each_with : (P : Member → Type 0) (w : Cluster) (n : ℕ) (x : Member) → ((m : ℕ) → P (w.member m)) → P x → (m : ℕ) → P ((with_member w n x).member m)
each_with P w n x all own m = elim (eqb_tells m n) [
  | inl same ↦ subst P (sym (at_here w.member n m x same.1)) own
  | inr apart ↦ subst P (sym (at_other w.member n m x apart.1)) (all m)
]

pub calm_with : (w : Cluster) (n : ℕ) (x : Member) → AreCalm w → IsCalm x → AreCalm (with_member w n x)
calm_with w n x all own = each_with IsCalm w n x all own

-- ---- lists of rows

pub after_both : (w : Cluster) (first rest : List Row) → after_rows w (first ++ rest) ≡ after_rows (after_rows w first) rest
after_both w [] rest = refl
after_both w (row ∷ first) rest = after_both (after_row w row) first rest

pub harmless_both : (w : Cluster) (first rest : List Row) → DoNoHarm w first → DoNoHarm (after_rows w first) rest → DoNoHarm w (first ++ rest)
harmless_both w [] rest a b = b
harmless_both w (row ∷ first) rest a b = (a.0, harmless_both (after_row w row) first rest a.1 b)

pub queued_both : (n : ℕ) (w : Cluster) (first rest : List Row) → sent_by n w (first ++ rest) ≡ sent_by n w first ++ sent_by n (after_rows w first) rest
queued_both n w [] rest = refl
queued_both n w (row ∷ first) rest =
    ap (λ (l : List Queued). sent_in n w row ++ l) (queued_both n (after_row w row) first rest)
    ∙ sym (append_assoc (sent_in n w row) (sent_by n (after_row w row) first) (sent_by n (after_rows (after_row w row) first) rest))

pub sent_both : (n : ℕ) (w : Cluster) (first rest : List Row) → raw_by n w (first ++ rest) ≡ raw_by n w first ++ raw_by n (after_rows w first) rest
sent_both n w first rest =
    ap (λ (l : List Queued). map raw_of l) (queued_both n w first rest) ∙ map-append raw_of (sent_by n w first) (sent_by n (after_rows w first) rest)
