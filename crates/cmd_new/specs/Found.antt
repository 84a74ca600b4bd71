-- What a member that is told who the members are finds on its disk.
use Rattle.std.specs.Prelude.{◌≡◌, ℕ, true, List}
use Rattle.cmd_new.specs.NewImage.{IsNewImage}
use Rattle.cmd_new.specs.declared.found.Found.{Found}
use Rattle.cmd_new.specs.declared.found.Found.TheVariants.{NoStore, NewStore, UsedStore}
use Rattle.disk_model.specs.declared.disk.Disk.{Ghosts}
use Rattle.kv_store.specs.Image.{length_byte}

-- key 0, the version, is empty
abbrev pub HasNoVersion : List ℕ → Type 0
HasNoVersion image = length_byte image 0 ≡ 0

-- what an image is
abbrev pub IsFound : List ℕ → Found → Type 0
IsFound image NoStore = HasNoVersion image
IsFound image NewStore = IsNewImage image
IsFound image UsedStore = (HasNoVersion image → ⊥) × (IsNewImage image → ⊥)

-- it was found in an image of the disk: where the disk tells what it holds, in the one that reads give
pub record IsFoundOn {D : Type 0} (ghosts : Ghosts D) (disk : D) (found : Found) : Type 0 where
  pub image : List ℕ
  pub seen : ghosts.tells disk ≡ true → image ≡ (ghosts.contents disk).seen
  pub is : IsFound image found
