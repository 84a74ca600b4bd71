-- Each Allocation that a member made has three frames at the most; and what is no Allocation, no request of Raft and no
-- response of GetNodeInfo has one.
use Rattle.std.proofs.Common.{◌≡◌, ℕ, ◌+◌, ◌≤◌, Bool, true, false, List, [], ◌∷◌, ◌++◌, length, refl, sym, ap, subst, ◌∙◌, arith, inl, inr, None, append_assoc}
use Rattle.std.specs.Prelude.{nat_le, if◌then◌else◌}
use Rattle.std.proofs.lemmas.Bool.Decides.{leb_tells}
use Rattle.can_frame.specs.declared.step.What.{What}
use Rattle.can_frame.specs.declared.step.What.TheVariants.{Alloc, App, AppQ, Disc, Info, InfoQ, Stat, Vote, VoteQ}
use Rattle.can_frame.specs.Cutting.{frame_count}
use Rattle.raft_log.specs.KeyDisk.{are_put, puts_on}
use Rattle.raft_model.specs.Lists.{In, at_here}
use Rattle.raft_model.specs.Runs as raft
use Rattle.raft_model.specs.Runs.{initial_world}
use Rattle.raft_model.specs.Server.{RaftServer}
use Rattle.bus_rows.specs.declared.row.Row.{Row}
use Rattle.bus_rows.specs.declared.row.Row.TheVariants.{AEnd, AOpen, ARx, ASend, ATick, Crash, Ext, Fault, Open, Rx, Send, Tick}
use Rattle.alloc_spec.specs.AllocatorState.{AllocatorState}
use Rattle.alloc_spec.specs.Step.{Event, step}
use Rattle.alloc_spec.specs.StepState.{StepState}
use Rattle.alloc_spec.specs.Transfers.{SentTransfer}
use Rattle.alloc_spec.specs.ClusterMembers.{AreMembers}
use Rattle.bus_spec.specs.Cluster.{Cluster, after_row, arrival_at, cluster, frame_at, receipt_of, tick_of, world_of}
use Rattle.bus_spec.specs.Lawful.{AreLawful, arrival_refusal, cause, no_node, no_such_frame, not_running, or_else}
use Rattle.bus_spec.specs.Members.{Member, MemberStatus, after_cut_off, member_after_step, puts_of}
use Rattle.bus_spec.specs.Members.MemberStatus.{Down, Failed, Up}
use Rattle.bus_spec.specs.Refinement.{events, transfers_of_offers, transfers_of_row, transfers_of_rows, transfers_of_step}
use Rattle.bus_agreement.specs.Continues.{Continues}
use Rattle.bus_agreement.specs.Said.{IsRunWritable, IsStoreWritable}
use Rattle.bus_agreement.specs.Shows.{Shows, ShowsMember, ShowsUp}
use Rattle.bus_agreement.proofs.Concatenations.{ids_stay}
use Rattle.bus_agreement.proofs.Lists.{tell}
use Rattle.bus_agreement.proofs.MadeTransfers.{made_when}
use Rattle.bus_agreement.proofs.RowsWithoutEvents.{is_one, past_first}
use Rattle.bus_physics.specs.Physics.{may_be_long}
use Rattle.bus_physics.proofs.LawfulRows.{cause_at, first_lawful, rows_joined}
use Rattle.bus_physics.proofs.StepAllocations.{AreWhole, IsShort, IsShortAs, short}

abbrev pub AreShortOf : List SentTransfer → Type 0
AreShortOf made = (x : SentTransfer) → In x made → x.offer.what ≡ Alloc → frame_count (length x.offer.payload) ≤ 3

abbrev pub AreAllShort : List SentTransfer → Type 0
AreAllShort made = (x : SentTransfer) → In x made → IsShort x.offer

-- a member that runs is one of five at the most, and the unique IDs of its log have 16 bytes
pub record IsPlain (t : AllocatorState) : Type 0 where
  pub few : t.size ≤ 5
  pub whole : AreWhole t.raft_server.store.log

abbrev pub ArePlain : Cluster → Type 0
ArePlain w = (m : ℕ) (t : AllocatorState) → In m w.ids → (w.member m).status ≡ Up t → IsPlain t

-- what is shown of a run has bytes
pub are_plain : (choice : ℕ → Bool) (made : List SentTransfer) (w : Cluster) (run : raft.World) → length w.ids ≤ 5 → Shows choice made w run
    → IsRunWritable w.ids run → ArePlain w
are_plain choice made w run five shows written m t listed up =
    let is : ShowsUp made w.ids w.frames run m t (w.member m).disk =
    subst (λ (status : MemberStatus). ShowsMember choice made w.ids w.frames run m status (w.member m).disk) up (shows.lives m listed) in
    record {
      few = omega (arith, is.runs.size, five);
      whole = λ entry there. ((subst (λ (p : RaftServer). IsStoreWritable w.ids p.store) is.runs.raft_server (written.stores m)).entries entry there).fits.uid;
    }

three : (n : ℕ) → n ≤ 17 → frame_count n ≤ 3
three n few = elim (tell (nat_le n 7)) [ inl b ↦ rw b (omega arith) | inr b ↦ rw b (omega (arith, few)) ]

one : (n : ℕ) → n ≤ 7 → frame_count n ≤ 1
one n few = elim (leb_tells n 7) [ inl b ↦ rw b.0 (omega arith) | inr b ↦ absurd (omega (arith, few, b.1)) ]

pub few_frames : (made : List SentTransfer) → AreAllShort made → AreShortOf made
few_frames made short x i what = three (length x.offer.payload) (subst (λ (w : What). IsShortAs w x.offer.payload) what (short x i))

pub one_frame : (made : List SentTransfer) → AreAllShort made → (x : SentTransfer) → In x made → may_be_long x.offer.what ≡ false → frame_count (length x.offer.payload) ≤ 1
one_frame made short x i other = one (length x.offer.payload) (by x.offer.what other (short x i)) where
  by : (what : What) → may_be_long what ≡ false → IsShortAs what x.offer.payload → length x.offer.payload ≤ 7
  by Alloc e few = absurd (cc (e))
  by Disc e few = few
  by Stat e few = few
  by InfoQ e few = few
  by Info e few = absurd (cc (e))
  by VoteQ e few = absurd (cc (e))
  by Vote e few = few
  by AppQ e few = absurd (cc (e))
  by App e few = few

-- ---- one row

module _ (w : Cluster) (made : List SentTransfer) (before : ArePlain w) (old : AreAllShort made) where
  abbrev number : ℕ
  number = w.rows + 1

  module _ (n : ℕ) (listed : In n w.ids) (event : Event)
      (after : (t : AllocatorState) → (member_after_step number event (w.member n).status (w.member n)).status ≡ Up t → AreWhole t.raft_server.store.log) where
    stepped : (status : MemberStatus) → (w.member n).status ≡ status → AreAllShort (transfers_of_step number n event status (w.member n) made)
    stepped Down is = old
    stepped (Failed failure) is = old
    stepped (Up t) is = by (are_put (puts_of (w.member n) g) (w.member n).disk.calls) finished where
      g : StepState
      g = (step t number event).step_state

      finished : (u : AllocatorState) → (member_after_step number event (Up t) (w.member n)).status ≡ Up u → AreWhole u.raft_server.store.log
      finished u up = after u (ap (λ (s : MemberStatus). (member_after_step number event s (w.member n)).status) is ∙ up)

      by : (b : Bool) → ((u : AllocatorState)
          → (if b then record (w.member n) { status = Up g.allocator; disk = puts_on (puts_of (w.member n) g) (w.member n).disk }
          else after_cut_off (w.member n) number t g (puts_on (puts_of (w.member n) g) (w.member n).disk)).status ≡ Up u → AreWhole u.raft_server.store.log)
          → AreAllShort (if b then transfers_of_offers number n g.offers made else made)
      by false whole x i = old x i
      by true whole x i = elim (made_when number n g.offers made x i) [
        | inl j ↦ old x j
        | inr new ↦ subst IsShort (ap (λ (y : SentTransfer). y.offer) (sym new.is))
            (short t number event (before n t listed is).few (before n t listed is).whole (whole g.allocator refl) new.offer new.offered)
      ]

  pub more_short : (row : Row) → cause w row ≡ None → ArePlain (after_row w row) → AreAllShort (transfers_of_row w row made)
  more_short (Tick n ms word) lawful after =
      let listed : In n w.ids = is_one w n (past_first (no_node w n) (not_running w n) lawful).0 in
      stepped n listed (tick_of ms word) (λ t up. (after n t listed
      (ap (λ (x : Member). x.status) (at_here w.member n n (member_after_step number (tick_of ms word) (w.member n).status (w.member n)) refl) ∙ up)).whole)
      (w.member n).status refl
  more_short (Rx n k ms) lawful after =
      let listed : In n w.ids = is_one w n (past_first (no_node w n) (or_else (not_running w n) (or_else (no_such_frame w k)
      (arrival_refusal (w.member n).status (arrival_at (frame_at w.frames k) ms)))) lawful).0 in
      stepped n listed (receipt_of w k ms) (λ t up. (after n t listed
      (ap (λ (x : Member). x.status) (at_here w.member n n (member_after_step number (receipt_of w k ms) (w.member n).status (w.member n)) refl) ∙ up)).whole)
      (w.member n).status refl
  more_short (Open n told ms word) lawful after = old
  more_short (Send n) lawful after = old
  more_short (Ext frame) lawful after = old
  more_short (Crash n calls pattern) lawful after = old
  more_short (Fault n call) lawful after = old
  more_short (AOpen b uid pref ms word) lawful after = old
  more_short (ATick b ms word) lawful after = old
  more_short (ARx b k ms word) lawful after = old
  more_short (ASend b) lawful after = old
  more_short (AEnd b) lawful after = old

-- ---- all rows

pub all_short : (ids : List ℕ) → ((rows : List Row) → AreLawful (cluster ids) rows → ArePlain (world_of ids rows)) → (rest done : List Row)
    (made : List SentTransfer) → AreLawful (cluster ids) (done ++ rest) → AreAllShort made → AreAllShort (transfers_of_rows (world_of ids done) rest made)
all_short ids plain [] done made lawful old = old
all_short ids plain (row ∷ rest) done made lawful old =
    subst (λ (v : Cluster). AreAllShort (transfers_of_rows v rest (transfers_of_row w row made))) grown
    (all_short ids plain rest (done ++ row ∷ []) (transfers_of_row w row made) further
    (more_short w made (plain done (first_lawful (cluster ids) done (row ∷ rest) lawful)) old row (cause_at (cluster ids) done rest row lawful)
    (subst ArePlain grown (plain (done ++ row ∷ []) (first_lawful (cluster ids) (done ++ row ∷ []) rest further)))))
  where
    w : Cluster
    w = world_of ids done

    grown : world_of ids (done ++ row ∷ []) ≡ after_row w row
    grown = rows_joined (cluster ids) done (row ∷ [])

    further : AreLawful (cluster ids) ((done ++ row ∷ []) ++ rest)
    further = subst (λ (l : List Row). AreLawful (cluster ids) l) (sym (append_assoc done (row ∷ []) rest)) lawful

-- what is shown of each list of lawful rows
pub made_short : (ids : List ℕ) → AreMembers ids → ((rows : List Row) → AreLawful (cluster ids) rows → (choice : ℕ → Bool)
    × Continues choice (transfers_of_rows (cluster ids) rows []) (world_of ids rows) (initial_world ids) (events choice (cluster ids) rows))
    → (rows : List Row) → AreLawful (cluster ids) rows → AreAllShort (transfers_of_rows (cluster ids) rows [])
made_short ids members shown rows lawful =
    all_short ids (λ done so_far.
    let is = shown done so_far in
    are_plain is.0 (transfers_of_rows (cluster ids) done []) (world_of ids done) (raft.run (initial_world ids) (events is.0 (cluster ids) done))
    (subst (λ (l : List ℕ). length l ≤ 5) (sym (ids_stay (cluster ids) done)) members.few) is.1.shows is.1.writable) rows [] [] lawful (λ y i. absurd i)
