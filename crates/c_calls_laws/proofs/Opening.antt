-- The opening of a node is that of its member.
use Rattle.std.proofs.Common.{◌≡◌, ℕ, Bool, List, length, take, sym, ap, subst, ◌∙◌, arith, Option, None, Some}
use Rattle.std.specs.Prelude.{MatchOption}
use Rattle.std.proofs.lemmas.List.{take_all}
use Rattle.raft_core.specs.StoredPuts.{store_of}
use Rattle.raft_log.specs.KeyDisk.{opening_on}
use Rattle.raft_log.specs.Stored.{Put, Stored, after_puts, opening_puts}
use Rattle.raft_model.specs.Server.{Store}
use Rattle.bus_rows.specs.declared.row.Row.TheVariants.{Open}
use Rattle.alloc_ghost_erasure.specs.Unmarked.{unmarked_server}
use Rattle.alloc_spec.specs.AllocatorState.{AllocatorState}
use Rattle.alloc_spec.specs.Rules.{Rules, opening_by}
use Rattle.bus_spec.specs.Cluster.{Cluster, after_row, rules_of}
use Rattle.bus_spec.specs.Members.{Member}
use Rattle.cmd_node_laws.specs.Mirrored.{IsCalm}
use Rattle.cmd_node_laws.proofs.Calm.{opened_calm, opened_member, opened_store, opening_done}
use Rattle.cmd_node_laws.proofs.Places.{own_is}
use Rattle.c_calls.specs.declared.node.Node.{Node}
use Rattle.c_calls.specs.At.{IsAt}
use Rattle.c_calls_laws.specs.OnBus.{IsMember}

-- one thing of an option, where another is known of it
pub both : {A : Type 0} (o : Option A) (P Q : A → Type 0) (R : Type 0) → ((x : A) → P x → Q x → R) → MatchOption o ⊥ P → MatchOption o ⊥ Q → R
both None P Q R f p q = absurd p
both (Some x) P Q R f p q = f x p q

module _ (keeps : (state : Stored) (count : ℕ) → store_of (after_puts (take count (opening_puts state)) state) ≡ store_of state) where
  -- an opening leaves the store
  same_store : (x : Member) → IsCalm x → store_of (opening_on x.disk).store ≡ store_of x.disk.store
  same_store x calm =
      let puts : List Put = opening_puts x.disk.store in
      ap store_of (opened_store x calm)
      ∙ ap (λ (l : List Put). store_of (after_puts l x.disk.store)) (sym (take_all (length puts) puts (omega arith)))
      ∙ keeps x.disk.store (length puts)

  -- a node that stands for the opening by these rules with what the member has stored
  pub is_opened : (w : Cluster) (n : ℕ) (told : Bool) (moment word : ℕ) (node : Node) (store : Store) (t : AllocatorState) → IsCalm (w.member n)
      → store ≡ store_of (w.member n).disk.store → t ≡ opening_by n (rules_of w.ids told) store moment word → IsAt node t → IsMember n (after_row w (Open n told moment word)) node
  is_opened w n told moment word node store t calm stored e is = record {
    allocator = t;
    stands = is;
    server = opening_by n rules (store_of (opening_on (w.member n).disk).store) moment word;
    runs = ap (λ (x : Member). x.status) here;
    same = ap unmarked_server (ap (λ (s : Store). opening_by n rules s moment word) (same_store (w.member n) calm ∙ sym stored) ∙ sym e);
    calm = subst IsCalm (sym here) (opened_calm n rules moment word (w.member n) calm);
  }
    where
      rules : Rules
      rules = rules_of w.ids told

      here : (after_row w (Open n told moment word)).member n ≡ opened_member n rules moment word (w.member n)
      here = own_is w n _ ∙ opening_done n rules moment word (w.member n) calm
