-- Why a run ended before its last turn.
use Rattle.std.proofs.Common.{◌≡◌, ℕ, ◌<◌, ◌≤◌, List, [], ◌∷◌, length, refl, sym, ◌∙◌, subst, append-nil, inl, inr, arith}
use Rattle.std.proofs.lemmas.Bool.Decides.{eqb_tells, leb_tells}
use Rattle.std.specs.Prelude.{Option, Some, None, Result, Ok, Err, IfErr, IsSome, slice_index_or}
use Rattle.disk_model.specs.declared.disk.Disk.{Ghosts}
use Rattle.outside.specs.Faults.{Rose}
use Rattle.std.specs.Io.KnownBytes.{Appends, append_known}
use Rattle.cmd_node.specs.Run.{AreStopped, EndsRun}
use Rattle.cmd_node.specs.Stands.{AreOpened, runner_disk}
use Rattle.cmd_node.specs.Status.{IsWhole}
use Rattle.cmd_node.specs.Taking.{EndsTurn, WasRefused}
use Rattle.cmd_node.specs.declared.fault.Fault.{Fault}
use Rattle.cmd_node.specs.declared.fault.Fault.TheVariants.{Link, Disk, Damaged, AnotherLog}
use Rattle.cmd_node.specs.declared.runner.Runner.{Runner}
use Rattle.raft_model.specs.Lists.{In}
use Rattle.cmd_node.proofs.Lists.{in_at}
use Rattle.cmd_node.proofs.Together.{rose_before}

pub some_value : {A : Type 0} (o : Option A) → IsSome o → (x : A) × (o ≡ Some x)
some_value None is = absurd (cc (is))
some_value (Some x) is = (x, refl)

pub some_same : {A : Type 0} {x y : A} → Some x ≡ Some y → x ≡ y
some_same e = cc (e)

-- an item of a list that has one at this place
pub an_item : {A : Type 0} (xs : List A) (i : ℕ) → i < length xs → A
an_item [] i within = absurd (omega (arith, within))
an_item (x ∷ xs) i within = x

pub are_whole : {D F : Type 0} {disk : Ghosts D} (ids : List ℕ) (disks : List (Option D)) (runners : List (Runner D F disk)) → AreOpened runners disks ids →
    (i : ℕ) (before : D) → i < length runners → slice_index_or disks i None ≡ Some before → IsWhole disk before
are_whole ids disks runners opened i before within was told =
    let one = opened i (an_item runners i within) within in
    let finds = (one.opens before was).finds in ((one.opens before was).found, finds.state told)

module _ {D F : Type 0} {disk : Ghosts D} {L : Type 0} (faults : L → ℕ) (ids : List ℕ) (disks_old disks_new : List (Option D)) (links_old links_new : List L)
    (runners : List (Runner D F disk)) where
  pub refused_ends : (fault : Fault) → AreOpened runners disks_old ids → IsSome (slice_index_or disks_old (length runners) None) →
      WasRefused disk ids disks_old disks_new (length runners) fault → EndsRun faults ids disks_old disks_new links_old links_new runners fault
  refused_ends (Link id) opened was why =
      let old = some_value (slice_index_or disks_old (length runners) None) was in
      let new = some_value (slice_index_or disks_new (length runners) None) why.there in
      absurd (why.refused.cause old.0 new.0 old.1 new.1)
  refused_ends (Disk id) opened was why = λ last stopped.
      let old = some_value (slice_index_or disks_old (length runners) None) was in
      let new = some_value (slice_index_or disks_new (length runners) None) why.there in
      record {
        place = length runners;
        within = why.within;
        id_is = sym (why.refused.cause old.0 new.0 old.1 new.1).0;
        rose = λ before after is now. (why.refused.cause before after is (sym (stopped.others (length runners) (omega arith)) ∙ now)).1;
      }
  refused_ends (Damaged id key) opened was why =
      let old = some_value (slice_index_or disks_old (length runners) None) was in
      let new = some_value (slice_index_or disks_new (length runners) None) why.there in (
        record {
          place = length runners;
          within = why.within;
          id_is = sym (why.refused.cause old.0 new.0 old.1 new.1).0;
          damaged = λ before is told. (why.refused.cause before new.0 is new.1).1 told;
          whole = are_whole ids disks_old runners opened;
        },
        why.within,
      )
  refused_ends (AnotherLog id node) opened was why =
      let old = some_value (slice_index_or disks_old (length runners) None) was in
      let new = some_value (slice_index_or disks_new (length runners) None) why.there in
      absurd (why.refused.cause old.0 new.0 old.1 new.1)

  -- from the allocators as they were opened, to what a turn made of them
  pub turn_ends : (opened : List (Runner D F disk)) (fault : Fault) → AreOpened opened disks_old ids → length opened ≡ length ids → length runners ≡ length opened →
      EndsTurn faults opened runners links_old links_new fault → EndsRun faults ids disks_old disks_new links_old links_new runners fault
  turn_ends opened (Link id) are all count (place, within, own, rose) =
      let some = an_item opened place within in (
        record {
          place = place;
          within = omega (arith, all, within);
          id_is = sym (are place some within).id_is ∙ own some;
          rose = rose;
        },
        count ∙ all,
      )
  turn_ends opened (Disk id) are all count (place, within, own, rose) = λ last stopped.
      let some = an_item opened place within in
      let now : place < length runners = omega (arith, count, within) in
      record {
        place = place;
        within = omega (arith, all, within);
        id_is = sym (are place some within).id_is ∙ own some;
        rose = λ before after is then.
            let disk_then : runner_disk (slice_index_or runners place some) ≡ after = some_same (sym (stopped.stopped place some now) ∙ then) in
            subst (λ d. Rose (disk.faults before) (disk.faults d)) disk_then
            (rose_before (disk.faults before) (disk.faults (runner_disk (slice_index_or opened place some))) (disk.faults (runner_disk (slice_index_or runners place some)))
            ((are place some within).later before is) (rose some some));
      }
  turn_ends opened (Damaged id key) are all count why = absurd why
  turn_ends opened (AnotherLog id node) are all count (place, within, own) =
      let some = an_item opened place within in
      let named = sym (are place some within).id_is ∙ own some in
      (subst (λ n. In n ids) named (in_at ids place (omega (arith, all, within))), count ∙ all)

pub if_err : {T E : Type 0} {A B : E → Type 0} (result : Result T E) → ((error : E) → A error → B error) → IfErr result A → IfErr result B
if_err (Ok value) goes holds = tt
if_err (Err error) goes holds = goes error holds

-- the disk at a place is there, and so are those behind it, which stayed
pub past : {A : Type 0} (old new : List (Option A)) (place : ℕ) {last : ℕ} → IsSome (slice_index_or new place None) →
    ((i : ℕ) → place < i → slice_index_or new i None ≡ slice_index_or old i None) → ((i : ℕ) → i < last → IsSome (slice_index_or old i None)) →
    (i : ℕ) → place ≤ i → i < last → IsSome (slice_index_or new i None)
past {A} old new place there same present i high low = elim (eqb_tells i place) [
  | inl h ↦ subst (λ k. IsSome (slice_index_or new k None)) (sym h.1) there
  | inr h ↦ subst (λ (o : Option A). IsSome o) (sym (same i (let other = h.1 in omega (arith, high, other)))) (present i low)
]

module _ {D F : Type 0} {disk : Ghosts D} (runners : List (Runner D F disk)) (old new : List (Option D)) (stopped : AreStopped runners old new) where
  pub are_back : {count : ℕ} → ((i : ℕ) → length runners ≤ i → i < count → IsSome (slice_index_or old i None)) → (i : ℕ) → i < count → IsSome (slice_index_or new i None)
  are_back behind i within = elim (leb_tells (length runners) i) [
    | inl h ↦ subst (λ (o : Option D). IsSome o) (sym (stopped.others i h.1)) (behind i h.1 within)
    | inr h ↦ let low : i < length runners = omega (arith, let high = h.1 in high) in
        subst (λ (o : Option D). IsSome o) (sym (stopped.stopped i (an_item runners i low) low)) refl
  ]

-- nothing had waited
pub from_nothing : (a b : Option (List ℕ)) (piece : List ℕ) → Appends (append_known a []) b piece → Appends a b piece
from_nothing None b piece wrote = wrote
from_nothing (Some x) b piece wrote = subst (λ l. Appends (Some l) b piece) (append-nil x) wrote
