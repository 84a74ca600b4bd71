use Rattle.std.proofs.Common.{rules, arith, ap, sym, length, ◌≡◌, ◌≤◌, ℕ, List, Some, None, Option, refl, eq-eqb}
use Rattle.replay_text.proofs.Numbers.{length-decoded}
use Rattle.arrayvec.specs.ArrayVec.{ArrayVec}
use Rattle.can_logs.specs.Slcan.{SpellsStamp}
use Rattle.replay_text.specs.Words.{IsHex}
use Rattle.can_logs.specs.Words.{stamp_bytes}
use Rattle.can_logs.proofs.slcan.read_stamp.Goals as goal

stamp_none : (stamp : Option ℕ) (word : List ℕ) → length word ≡ 0 → SpellsStamp stamp word → stamp ≡ None
stamp_none None word none is = refl
stamp_none (Some stamp) word none is = let size = (length-decoded word (stamp_bytes stamp) is.1).0 in absurd (omega (arith, size, none))

stamp_err : (stamp : Option ℕ) (word : List ℕ) → (length word ≡ 0 → ⊥)
    → ((bytes : ArrayVec ℕ) → length bytes.items ≤ 2 → IsHex bytes.items word → ⊥) → SpellsStamp stamp word → ⊥
stamp_err None word some bad is = some (ap length is)
stamp_err (Some stamp) word some bad is = bad (record { items = stamp_bytes stamp }) (omega arith) is.1

pub returns-then-is_empty-clause-only : goal.returns-then-is_empty-clause-only
returns-then-is_empty-clause-only c = λ stamp is. ap Some (sym (stamp_none stamp c.args.word.now (search rules) is))

pub returns-in_err-bytes-clause-only : goal.returns-in_err-bytes-clause-only
returns-in_err-bytes-clause-only c = λ stamp is.
    absurd (stamp_err stamp c.args.word.now (λ e. let test = eq-eqb (length c.args.word.now) 0 e in absurd (cc))
    (λ bytes few read. let found = c.in_err-bytes.ensures.only bytes few read in absurd (cc found)) is)
