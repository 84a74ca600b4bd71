use Rattle.std.proofs.Common.{◌≡◌, ℕ, List, refl}
use Rattle.cmd_new.specs.Found.{IsFound}
use Rattle.cmd_new.specs.declared.found.Found.{Found}
use Rattle.cmd_new.specs.declared.found.Found.TheVariants.{NoStore, NewStore, UsedStore}
use Rattle.cmd_new.proofs.Marking.{new_has}
use Rattle.cmd_new.proofs.laws.an_image_is_found_one_way.Goals as goal

one_way : (image : List ℕ) (a b : Found) → IsFound image a → IsFound image b → a ≡ b
one_way image NoStore NoStore x y = refl
one_way image NoStore NewStore x y = absurd (new_has image x y)
one_way image NoStore UsedStore x y = absurd (y.0 x)
one_way image NewStore NoStore x y = absurd (new_has image y x)
one_way image NewStore NewStore x y = refl
one_way image NewStore UsedStore x y = absurd (y.1 x)
one_way image UsedStore NoStore x y = absurd (x.0 y)
one_way image UsedStore NewStore x y = absurd (x.1 y)
one_way image UsedStore UsedStore x y = refl

pub returns : goal.returns
returns c = one_way
