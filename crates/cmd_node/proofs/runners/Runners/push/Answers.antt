use Rattle.std.proofs.Common.{◌≡◌, ◌<◌, ◌++◌, ◌∷◌, [], ℕ, Bool, true, false, List, length, length-append, ap, subst, sym, arith}
use Rattle.std.specs.Prelude.{if◌then◌else◌, is_ok, slice_index_or}
use Rattle.cmd_node.specs.Stands.{closure_of}
use Rattle.cmd_node.proofs.Lists.{all_pushed}
use Rattle.cmd_node.proofs.runners.Runners.push.Goals as goal

five_after : {A : Type 0} (b : Bool) (xs new : List A) (x : A) → new ≡ (if b then xs ++ x ∷ [] else xs) → length xs < 5 → length new < 6
five_after true xs new x is few = let size = length-append xs (x ∷ []) in let same = ap length is in omega (arith, size, same, few)
five_after false xs new x is few = let same = ap length is in omega (arith, same, few)

all_after : {A : Type 0} (P : A → Type 0) (b : Bool) (xs new : List A) (x : A) → new ≡ (if b then xs ++ x ∷ [] else xs) →
    ((i : ℕ) (d : A) → i < length xs → P (slice_index_or xs i d)) → P x → (i : ℕ) (d : A) → i < length new → P (slice_index_or new i d)
all_after P true xs new x is all this = subst (λ l. (i : ℕ) (d : _) → i < length l → P (slice_index_or l i d)) (sym is) (all_pushed (λ j a. P a) xs x all this)
all_after P false xs new x is all this = subst (λ l. (i : ℕ) (d : _) → i < length l → P (slice_index_or l i d)) (sym is) all

pub invariant_of-self : goal.invariant_of-self
invariant_of-self g c =
    let old = c.args.self.now in
    record {
      five = let few = five_after (is_ok c.push.result) old.list.items c.push.new.self.items c.args.runner c.push.ensures.items c.requires.few in omega (arith, few);
      room = let room = old.room in omega (arith, room, c.push.ensures.capacity);
      alike = all_after (λ runner. closure_of runner ≡ old.accept) (is_ok c.push.result) old.list.items c.push.new.self.items c.args.runner c.push.ensures.items
          old.alike c.requires.accepts;
    }
