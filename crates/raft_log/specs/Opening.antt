-- What an opening finds on a disk, and what it makes of it.
use Rattle.std.specs.Prelude.{◌≡◌, ℕ, ◌<◌, ◌++◌, ◌⊎◌, true, false, List, []}
use Rattle.disk_model.specs.declared.disk.Disk.{Ghosts}
use Rattle.disk_model.specs.Contents.{AddsNoImage, MayLeave}
use Rattle.disk_model.specs.Device.{DeviceCall, Makes}
use Rattle.kv_store.specs.Image.{chosen_copy, key_count, open_calls}
use Rattle.raft_log.specs.declared.durable.Durable.{Durable}
use Rattle.raft_log.specs.DeviceCalls.{copies_after, device_calls}
use Rattle.raft_log.specs.DurableViews.{durable_copies, durable_disk, durable_state}
use Rattle.raft_log.specs.MayFollow.{IsKept}
use Rattle.raft_log.specs.Rules.{StandsForState}
use Rattle.raft_log.specs.Stored.{AfterSome, Stored, after_puts, opening_puts, origin_at}

-- the device calls of an opening that finds this state and these copies
abbrev pub opening_calls : Stored → (ℕ → ℕ) → List DeviceCall
opening_calls state copies = open_calls ++ device_calls (opening_puts state) state copies

-- what was read: the state that the disk stands for, and the copies that its selectors choose
pub record Finds {D : Type 0} (ghosts : Ghosts D) (disk : D) (found : Stored) (copies : ℕ → ℕ) : Type 0 where
  pub state : ghosts.tells disk ≡ true → StandsForState (ghosts.contents disk).seen found
  pub chosen : ghosts.tells disk ≡ true → (key : ℕ) → key < key_count →
      copies key ≡ chosen_copy (ghosts.contents disk).seen key
  pub kept : IsKept found

-- an opening that succeeds: all of its puts are done
pub record OpensTo {D : Type 0} {ghosts : Ghosts D} (disk : D) (durable : Durable D ghosts) : Type 0 where
  pub found : Stored
  pub copies : ℕ → ℕ
  pub finds : Finds ghosts disk found copies
  pub state : durable_state durable ≡ after_puts (opening_puts found) found
  pub turned : durable_copies durable ≡ copies_after (opening_puts found) found copies
  pub made : Makes ghosts.does (opening_calls found copies) true disk (durable_disk durable)
  -- where nothing is put, no image is added
  pub images : opening_puts found ≡ [] → ghosts.tells disk ≡ true →
      AddsNoImage (ghosts.contents disk) (ghosts.contents (durable_disk durable))

-- the disk was not read, so nothing was put
pub record IsNotRead {D : Type 0} (ghosts : Ghosts D) (disk new : D) : Type 0 where
  pub made : Makes ghosts.does open_calls false disk new
  pub images : ghosts.tells disk ≡ true → AddsNoImage (ghosts.contents disk) (ghosts.contents new)

-- one of the puts failed, and a stop leaves the state after some of the first of them
pub record IsNotPut {D : Type 0} (ghosts : Ghosts D) (disk new : D) : Type 0 where
  pub found : Stored
  pub copies : ℕ → ℕ
  pub finds : Finds ghosts disk found copies
  pub made : Makes ghosts.does (opening_calls found copies) false disk new
  pub images : ghosts.tells disk ≡ true → (image : List ℕ) → MayLeave (ghosts.contents new) image →
      AfterSome (StandsForState image) (opening_puts found) found

-- an opening of which a device call fails
abbrev pub FailsToOpen : {D : Type 0} → Ghosts D → D → D → Type 0
FailsToOpen ghosts disk new = IsNotRead ghosts disk new ⊎ IsNotPut ghosts disk new

-- the one state is read as the other: they differ in how they are stored alone
pub record IsReadAs (a b : Stored) : Type 0 where
  pub term : a.term ≡ b.term
  pub vote : a.vote ≡ b.vote
  pub log : a.log ≡ b.log
  pub commit : a.commit ≡ b.commit
  pub origins : (place : ℕ) → origin_at a place ≡ origin_at b place
