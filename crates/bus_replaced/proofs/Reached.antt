-- Along a trace: its items show changes of the run, each of which may come when its turn is there.
use Rattle.std.proofs.Common.{◌≡◌, ℕ, ◌+◌, ◌≤◌, Bool, true, false, List, [], ◌∷◌, ◌++◌, length, refl, sym, subst, ◌∙◌, arith, inl, inr}
use Rattle.std.specs.Prelude.{if◌then◌else◌}
use Rattle.std.proofs.lemmas.List.{append_assoc, append-nil}
use Rattle.raft_log.specs.KeyDisk.{are_put}
use Rattle.raft_model.specs.Runs as raft
use Rattle.raft_model.specs.Runs.{Event, World, initial_world}
use Rattle.raft_replaced.specs.Changes.{Change, MayComeInTurn, after_change, changed, only_events}
use Rattle.raft_replaced.specs.Changes.Change.{Copies, Happens}
use Rattle.bus_rows.specs.declared.row.Row.{Row}
use Rattle.bus_rows.specs.declared.row.Row.TheVariants.{AEnd, AOpen, ARx, ASend, ATick, Crash, Ext, Fault, Open, Rx, Send, Tick}
use Rattle.alloc_spec.specs.ClusterMembers.{AreMembers}
use Rattle.alloc_spec.specs.Step as allocator
use Rattle.alloc_spec.specs.Transfers.{Offer, SentTransfer}
use Rattle.bus_spec.specs.Choices.{RowAgreesWithDisk}
use Rattle.bus_spec.specs.Cluster.{Cluster, after_row, cluster, receipt_of, tick_of}
use Rattle.bus_spec.specs.Lawful.{DoesNoHarm}
use Rattle.bus_spec.specs.Members.{Member, MemberStatus, puts_of}
use Rattle.bus_spec.specs.Members.MemberStatus.{Down, Failed, Up}
use Rattle.bus_spec.specs.Refinement.{row_events, transfers_of_offers, transfers_of_row, transfers_of_step}
use Rattle.bus_agreement.specs.Continues.{Continues}
use Rattle.bus_agreement.specs.Said.{IsRunWritable}
use Rattle.bus_agreement.specs.Shows.{Shows}
use Rattle.bus_agreement.proofs.AllRows.{nothing_said}
use Rattle.bus_agreement.proofs.Concatenations.{same_ids}
use Rattle.bus_agreement.proofs.StillShown.{IsIn}
use Rattle.bus_replaced.specs.LawsBelow.{LawsBelow}
use Rattle.bus_replaced.specs.Traces.{AgreesAlong, ComeInTurn, IsTrace, Item, MayBeReplaced, after_items, brings_old_vote, replaced, transfers_along, world_along}
use Rattle.bus_replaced.specs.Traces.Item.{Replaces, Takes}
use Rattle.bus_replaced.proofs.Copies as copies
use Rattle.bus_replaced.proofs.VeiledRows.{fits_veiled, harmless_veiled, room_after, row_veiled, transfers_veiled, veiled}

-- ---- changes, one list after the other

pub changed_joined : (world : World) (first rest : List Change) → changed world (first ++ rest) ≡ changed (changed world first) rest
changed_joined world [] rest = refl
changed_joined world (change ∷ first) rest = changed_joined (after_change world change) first rest

pub come_joined : (world : World) (first rest : List Change) → MayComeInTurn world first → MayComeInTurn (changed world first) rest → MayComeInTurn world (first ++ rest)
come_joined world [] rest early late = late
come_joined world (Happens event ∷ first) rest early late = (early.0, come_joined (after_change world (Happens event)) first rest early.1 late)
come_joined world (Copies lost leader ∷ first) rest early late = (early.0, come_joined (after_change world (Copies lost leader)) first rest early.1 late)

-- ---- what was made

module _ (row m : ℕ) where
  offers_more : (offers : List Offer) (made all : List SentTransfer) → IsIn made all → IsIn (transfers_of_offers row m offers made) (transfers_of_offers row m offers all)
  offers_more [] made all among = among
  offers_more (offer ∷ offers) made all among =
      by offer.fitted (offers_more offers (sent ∷ made) (sent ∷ all) (λ x i. elim i [ inl e ↦ inl e | inr j ↦ inr (among x j) ])) (offers_more offers made all among)
    where
      sent : SentTransfer
      sent = record { step = row; by = m; offer = offer }

      by : (b : Bool) → IsIn (transfers_of_offers row m offers (sent ∷ made)) (transfers_of_offers row m offers (sent ∷ all))
          → IsIn (transfers_of_offers row m offers made) (transfers_of_offers row m offers all)
          → IsIn (transfers_of_offers row m offers (if b then sent ∷ made else made)) (transfers_of_offers row m offers (if b then sent ∷ all else all))
      by true more same = more
      by false more same = same

  step_more : (event : allocator.Event) (status : MemberStatus) (x : Member) (made all : List SentTransfer) → IsIn made all
      → IsIn (transfers_of_step row m event status x made) (transfers_of_step row m event status x all)
  step_more event Down x made all among = among
  step_more event (Failed failure) x made all among = among
  step_more event (Up t) x made all among = by (are_put (puts_of x (allocator.step t row event).step_state) x.disk.calls) where
    offers : List Offer
    offers = (allocator.step t row event).step_state.offers

    by : (b : Bool) → IsIn (if b then transfers_of_offers row m offers made else made) (if b then transfers_of_offers row m offers all else all)
    by true = offers_more offers made all among
    by false = among

row_more : (w : Cluster) (row : Row) (made all : List SentTransfer) → IsIn made all → IsIn (transfers_of_row w row made) (transfers_of_row w row all)
row_more w (Open n told ms word) made all among = among
row_more w (Tick n ms word) made all among = step_more (w.rows + 1) n (tick_of ms word) (w.member n).status (w.member n) made all among
row_more w (Rx n k ms) made all among = step_more (w.rows + 1) n (receipt_of w k ms) (w.member n).status (w.member n) made all among
row_more w (Send n) made all among = among
row_more w (Ext frame) made all among = among
row_more w (Crash n calls pattern) made all among = among
row_more w (Fault n call) made all among = among
row_more w (AOpen a uid pref ms word) made all among = among
row_more w (ATick a ms word) made all among = among
row_more w (ARx a k ms word) made all among = among
row_more w (ASend a) made all among = among
row_more w (AEnd a) made all among = among

-- ---- reached

-- The world is shown by a run after these changes, with the votes hidden that are among so many first frames.
pub record IsReached (choice : ℕ → Bool) (ids : List ℕ) (old : ℕ) (w : Cluster) (all : List SentTransfer) (changes : List Change) : Type 0 where
  pub same : w.ids ≡ ids
  pub made : List SentTransfer
  pub among : IsIn made all
  pub room : old ≤ length w.frames
  pub allowed : MayComeInTurn (initial_world ids) changes
  pub shows : Shows choice made (veiled old w) (changed (initial_world ids) changes)
  pub writable : IsRunWritable w.ids (changed (initial_world ids) changes)

-- so it is after some more
abbrev pub Reaches : (ℕ → Bool) → List ℕ → ℕ → Cluster → List SentTransfer → List Change → Type 0
Reaches choice ids old w all changes = (more : List Change) × MayComeInTurn (changed (initial_world ids) changes) more
    × IsReached choice ids old w all (changes ++ more)

-- how many frames are from before the last replacement
abbrev pub old_after : ℕ → Cluster → List Item → ℕ
old_after old w [] = old
old_after old w (Takes row ∷ items) = old_after old (after_row w row) items
old_after old w (Replaces lost leader ∷ items) = old_after (length w.frames) (replaced w lost leader) items

module _ (laws : LawsBelow) (choice : ℕ → Bool) (ids : List ℕ) (members : AreMembers ids) where
  begun : IsReached choice ids 0 (cluster ids) [] []
  begun = record {
    same = refl;
    made = [];
    among = λ x i. i;
    room = omega arith;
    allowed = tt;
    shows = laws.begins choice ids;
    writable = nothing_said ids;
  }

  module _ (old : ℕ) (w : Cluster) (all : List SentTransfer) (changes : List Change) (is : IsReached choice ids old w all changes) where
    abbrev now : World
    now = changed (initial_world ids) changes

    are : AreMembers w.ids
    are = subst AreMembers (sym is.same) members

    module _ (row : Row) (harmless : DoesNoHarm w row) (none : brings_old_vote old w row ≡ false) (fits : RowAgreesWithDisk choice w row) where
      abbrev own : List Event
      own = row_events choice (veiled old w) row

      abbrev made_then : List SentTransfer
      made_then = transfers_of_row (veiled old w) row is.made

      goes : Continues choice made_then (veiled old (after_row w row)) now own
      goes = subst (λ (v : Cluster). Continues choice made_then v now own) (row_veiled old w is.room row none)
          (laws.each choice is.made (veiled old w) now are is.shows (laws.sound ids changes is.allowed) is.writable row
          (harmless_veiled old w row none harmless) (fits_veiled old w choice row fits))

      same_run : raft.run now own ≡ changed (initial_world ids) (changes ++ only_events own)
      same_run = sym (laws.alone now own) ∙ sym (changed_joined (initial_world ids) changes (only_events own))

      row_reaches : Reaches choice ids old (after_row w row) (transfers_of_row w row all) changes
      row_reaches = (
        only_events own,
        laws.allowed now own goes.lawful,
        record {
          same = same_ids w row ∙ is.same;
          made = made_then;
          among = subst (λ (l : List SentTransfer). IsIn l (transfers_of_row w row all)) (sym (transfers_veiled old w row is.made none)) (row_more w row is.made all is.among);
          room = room_after old w is.room row;
          allowed = come_joined (initial_world ids) changes (only_events own) is.allowed (laws.allowed now own goes.lawful);
          shows = subst (λ (r : World). Shows choice made_then (veiled old (after_row w row)) r) same_run goes.shows;
          writable = subst (λ (r : World). IsRunWritable (after_row w row).ids r) same_run goes.writable;
        },
      )

    module _ (lost leader : ℕ) (may : MayBeReplaced w lost leader) where
      abbrev copy : List Change
      copy = Copies lost leader ∷ []

      come : MayComeInTurn now copy
      come = (copies.may_be_copied laws.frames choice is.made old w are now is.shows lost leader may, tt)

      same_copy : changed now copy ≡ changed (initial_world ids) (changes ++ copy)
      same_copy = sym (changed_joined (initial_world ids) changes copy)

      copy_reaches : Reaches choice ids (length w.frames) (replaced w lost leader) all changes
      copy_reaches = (
        copy,
        come,
        record {
          same = is.same;
          made = copies.others laws.frames choice is.made old w are now is.shows lost leader may;
          among = λ x i. is.among x (copies.was laws.frames choice is.made old w are now is.shows lost leader may x i).0;
          room = omega arith;
          allowed = come_joined (initial_world ids) changes copy is.allowed come;
          shows = subst (λ (r : World). Shows choice (copies.others laws.frames choice is.made old w are now is.shows lost leader may) (veiled (length w.frames) (replaced w lost leader)) r) same_copy
              (copies.copy_shown laws.frames choice is.made old w are now is.shows lost leader may);
          writable = subst (λ (r : World). IsRunWritable w.ids r) same_copy (copies.copy_written laws.frames choice is.made old w are now is.shows lost leader may is.writable);
        },
      )

    -- what is reached after more changes, and then after more
    further : (next : ℕ) (v : Cluster) (late : List SentTransfer) (more : List Change) → MayComeInTurn now more
        → Reaches choice ids next v late (changes ++ more) → Reaches choice ids next v late changes
    further next v late more first rest = (
      more ++ rest.0,
      come_joined now more rest.0 first (subst (λ (r : World). MayComeInTurn r rest.0) (changed_joined (initial_world ids) changes more) rest.1),
      subst (λ (l : List Change). IsReached choice ids next v late l) (append_assoc changes more rest.0) rest.2,
    )

  pub onward : (items : List Item) (old : ℕ) (w : Cluster) (all : List SentTransfer) (changes : List Change) → IsReached choice ids old w all changes
      → ComeInTurn old w items → AgreesAlong choice w items
      → Reaches choice ids (old_after old w items) (after_items w items) (transfers_along w items all) changes
  onward [] old w all changes is comes fits = ([], tt, subst (λ (l : List Change). IsReached choice ids old w all l) (sym (append-nil changes)) is)
  onward (Takes row ∷ items) old w all changes is comes fits =
      let r = row_reaches old w all changes is row comes.0 comes.1 fits.0 in
      further old w all changes is (old_after old (after_row w row) items) (after_items (after_row w row) items) (transfers_along (after_row w row) items (transfers_of_row w row all))
      r.0 r.1 (onward items old (after_row w row) (transfers_of_row w row all) (changes ++ r.0) r.2 comes.2 fits.1)
  onward (Replaces lost leader ∷ items) old w all changes is comes fits =
      let r = copy_reaches old w all changes is lost leader comes.0 in
      further old w all changes is (old_after (length w.frames) (replaced w lost leader) items) (after_items (replaced w lost leader) items) (transfers_along (replaced w lost leader) items all)
      r.0 r.1 (onward items (length w.frames) (replaced w lost leader) all (changes ++ r.0) r.2 comes.1 fits)

  pub reached : (items : List Item) → IsTrace ids items → AgreesAlong choice (cluster ids) items
      → Reaches choice ids (old_after 0 (cluster ids) items) (world_along ids items) (transfers_along (cluster ids) items []) []
  reached items comes fits = onward items 0 (cluster ids) [] [] begun comes fits
