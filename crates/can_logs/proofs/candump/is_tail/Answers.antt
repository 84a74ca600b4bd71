use Rattle.std.proofs.Common.{arith, ap, ◌∙◌, ◌++◌, inl, inr}
use Rattle.can_logs.proofs.Numbers.{ascii_hex_without}
use Rattle.can_logs.proofs.candump.is_tail.Goals as goal

pub returns-else-is_other : goal.returns-else-is_other
returns-else-is_other c = (
  λ is. (c.without_direction.result.now, c.without_direction.ensures.found, inr (inr (c.is_bytes_word.ensures.0 is))),
  λ tail.
      elim tail.2 [
        | inl hash ↦
            let passes = c.is_other.ensures.1 (inl (hash.0 ++ tail.1.direction, tail.1.spelled ∙ ap (λ t. t ++ tail.1.direction) hash.1)) in
            absurd (cc)
        | inr more ↦
            elim more [
              | inl remote ↦
                  let passes = c.is_other.ensures.1 (inr (remote.0 ++ tail.1.direction, tail.1.spelled ∙ ap (λ t. t ++ tail.1.direction) remote.1)) in
                  absurd (cc)
              | inr word ↦
                  let same = c.without_direction.ensures.only tail.0 (ascii_hex_without 32 tail.0 (omega arith) word.digits) tail.1 in
                  c.is_bytes_word.ensures.1 (rw same word)
            ]
      ],
)
