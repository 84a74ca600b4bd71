-- A table of marks, by number.
use Rattle.std.proofs.Common.{◌≡◌, ◌<◌, ◌+◌, ℕ, Bool, true, false, List, length, take, get_or, ◌||◌, refl, sym, ap, subst, ◌∙◌, inl, inr, arith, get_or-set_other, get_or-set_same, nat_eq, slice_set}
use Rattle.alloc_handlers.proofs.Words.{cases_eq, list_any, nat_tests}
use Rattle.std.proofs.lemmas.List.Folds.{list_any_more}
