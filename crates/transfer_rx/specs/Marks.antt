-- Whether the marks of frames are those of one transfer.
use Rattle.std.specs.Prelude.{ℕ, suc, nat_eq, Bool, true, ◌&&◌, List, [], ◌∷◌}
use Rattle.can_frame.specs.declared.mark.Mark.{Mark}

-- marks of one step, with the places from one on
abbrev pub is_run : ℕ → ℕ → List Mark → Bool
is_run step place [] = true
is_run step place (mark ∷ marks) = (nat_eq mark.step step && nat_eq mark.place place) && is_run step (suc place) marks

-- all frames had one step, and the places 0, 1, 2 and so on
abbrev pub is_whole : List Mark → Bool
is_whole [] = true
is_whole (mark ∷ marks) = is_run mark.step 0 (mark ∷ marks)
