-- What devices have are pairs of the list, from the run that a world shows, and so no two have one node ID.
use Rattle.std.proofs.Common.{◌≡◌, ◌≢◌, ◌⊎◌, ℕ, ◌<◌, ◌≤◌, Bool, List, [], ◌++◌, length, sym, ap, subst, ◌∙◌, arith, inl, inr}
use Rattle.std.specs.Prelude.{slice_index_or}
use Rattle.std.proofs.lemmas.Bool.Decides.{eqb_tells, leb_tells}
use Rattle.std.proofs.lemmas.List.{append_assoc, append-nil}
use Rattle.can_frame.specs.declared.entry.Entry.{Entry}
use Rattle.can_frame.specs.declared.step.What.TheVariants.{Alloc}
use Rattle.can_frame.specs.Log.{HasPair, IsBlank, IsInjective, IsPair, blank}
use Rattle.raft_model.specs.Invariants.{Invariants}
use Rattle.raft_model.specs.Lists.{In}
use Rattle.raft_model.specs.Messages.{Pair}
use Rattle.raft_model.specs.Messages.Message.{Pairs}
use Rattle.raft_model.specs.Runs as raft
use Rattle.raft_model.specs.Runs.{InEveryRun, initial_world}
use Rattle.raft_model.specs.Safety.{IsSafe}
use Rattle.bus_rows.specs.declared.row.Row.{Row}
use Rattle.transfer_tx.specs.Queue.{Queued, queued_frames}
use Rattle.alloc_spec.specs.Transfers.{SentTransfer, outgoing, signature_of}
use Rattle.bus_spec.specs.Choices.{AgreesWithDisk}
use Rattle.alloc_spec.specs.ClusterMembers.{AreMembers}
use Rattle.bus_spec.specs.Cluster.{Cluster, cluster, no_frame, world_of}
use Rattle.bus_spec.specs.Lawful.{DoNoHarm}
use Rattle.bus_spec.specs.Refinement.{events, transfers_of_rows}
use Rattle.bus_agreement.specs.Allocatees.{Allocatees, HasAllocatees, Holds, IsGivenOnBus, MayHave}
use Rattle.bus_agreement.specs.Asking.{IsGiven}
use Rattle.bus_agreement.specs.Continues.{Continues}
use Rattle.bus_agreement.specs.Frames.{IsPiece}
use Rattle.bus_agreement.specs.Headline.{HasHeadline, Headline, the_list}
use Rattle.bus_agreement.specs.LawsBelow.{FrameLaws}
use Rattle.bus_agreement.specs.Mirrors.{Mirrors, OffersAreMade}
use Rattle.bus_agreement.specs.Shows.{Shows}
use Rattle.bus_agreement.proofs.HeadlineOfRuns.{pair_listed, still_pair}
use Rattle.bus_agreement.proofs.Concatenations.{first_fits, first_harmless, ids_stay}
use Rattle.bus_agreement.proofs.MirroredRuns.{mirrors}
use Rattle.bus_agreement.proofs.Lists.{in_at}
use Rattle.bus_agreement.proofs.OfferedAllocations.{IsAllocationOf, piece_on_bus, says_pair, was_made}

-- ---- pairs of a list

lower : (i j : ℕ) → i ≢ j → (i < j) ⊎ (j < i)
lower i j apart = elim (leb_tells i j) [ inl le ↦ inl (omega (arith, le.1, apart)) | inr more ↦ inr (omega (arith, more.1)) ]

module _ (list : List Entry) (once : IsInjective list) where
  abbrev entry : ℕ → Entry
  entry i = slice_index_or list i (blank 0)

  not_blank : (e : Entry) → IsPair e → IsBlank e → ⊥
  not_blank e is empty = is.uid empty.1

  -- two places with one node ID, or with one unique ID, are one
  same_node : (i j : ℕ) → i < length list → j < length list → IsPair (entry i) → IsPair (entry j) → (entry i).node ≡ (entry j).node → i ≡ j
  same_node i j hi hj p q e = elim (eqb_tells i j) [
    | inl same ↦ same.1
    | inr apart ↦ elim (lower i j apart.1) [
      | inl less ↦ absurd ((once i j less hj).nodes (not_blank (entry i) p) (not_blank (entry j) q) e)
      | inr more ↦ absurd ((once j i more hi).nodes (not_blank (entry j) q) (not_blank (entry i) p) (sym e))
    ]
  ]

  same_uid : (i j : ℕ) → i < length list → j < length list → IsPair (entry i) → IsPair (entry j) → (entry i).uid ≡ (entry j).uid → i ≡ j
  same_uid i j hi hj p q e = elim (eqb_tells i j) [
    | inl same ↦ same.1
    | inr apart ↦ elim (lower i j apart.1) [
      | inl less ↦ absurd (p.uid ((once i j less hj).uids (not_blank (entry i) p) (not_blank (entry j) q) e))
      | inr more ↦ absurd (q.uid ((once j i more hi).uids (not_blank (entry j) q) (not_blank (entry i) p) (sym e)))
    ]
  ]

  pub one_uid : (uid other : List ℕ) (node : ℕ) → HasPair list uid node → HasPair list other node → uid ≡ other
  one_uid uid other node p q =
      let same : p.place ≡ q.place = same_node p.place q.place p.within q.within p.pair q.pair (p.its_node ∙ sym q.its_node) in
      sym p.its_uid ∙ (ap (λ (i : ℕ). (entry i).uid) same ∙ q.its_uid)

  pub one_node : (uid : List ℕ) (node other : ℕ) → HasPair list uid node → HasPair list uid other → node ≡ other
  one_node uid node other p q =
      let same : p.place ≡ q.place = same_uid p.place q.place p.within q.within p.pair q.pair (p.its_uid ∙ sym q.its_uid) in
      sym p.its_node ∙ (ap (λ (i : ℕ). (entry i).node) same ∙ q.its_node)

-- ---- at one moment

module _ (choice : ℕ → Bool) (made : List SentTransfer) (w : Cluster) (run : raft.World) (shows : Shows choice made w run) (mirrors : Mirrors choice w run)
    (safe : IsSafe run) (sound : Invariants run) where
  given_listed : (uid : List ℕ) (node : ℕ) → IsGiven made uid node → HasPair (the_list choice w) uid node
  given_listed uid node is =
      let x : SentTransfer = is.whose in
      let gives : is.answer.node ≢ 0 = λ zero_. absurd (omega (arith, zero_, is.gives, is.some)) in
      let whole = shows.holds.allocations x is.answer is.was_made is.what is.reads gives in
      let pair : Pair = record { step = x.step; from = x.by; uid = is.answer.uid.items; node = is.answer.node } in
      let said : In (Pairs pair) run.bag = shows.holds.said.said x (Pairs pair) is.was_made (says_pair x is.answer is.what is.reads gives whole) in
      let found = pair_listed choice w run mirrors safe sound pair (shows.holds.transfers.makers x is.was_made) said in
      subst (λ (u : List ℕ). HasPair (the_list choice w) u node) is.own (subst (λ (n : ℕ). HasPair (the_list choice w) is.answer.uid.items n) is.gives found)

  -- all frames of an Allocation on the bus are those of one that a member made
  module _ (laws : FrameLaws) (members : AreMembers w.ids) (uid : List ℕ) (node : ℕ) (is : IsGivenOnBus w uid node) where
    abbrev heard : List Queued
    heard = queued_frames (outgoing is.source Alloc 0 is.id is.payload) is.step is.re

    low : (n : ℕ) → In n w.ids → 1 ≤ n
    low n listed = (members.nodes n listed).0

    high : (n : ℕ) → In n w.ids → n ≤ 125
    high n listed = (members.nodes n listed).1

    of_source : (frame : Queued) → In frame heard → In is.source w.ids × IsPiece made is.source frame
    of_source frame i = piece_on_bus laws w.ids low high made run.bag shows.holds frame is.source (is.there frame i).1 (shows.bus frame (is.there frame i).0)

    some : 0 < length heard
    some = omega (
      arith,
      laws.queued_count (outgoing is.source Alloc 0 is.id is.payload) is.step is.re,
      laws.cut_count (signature_of Alloc) is.id is.payload,
      laws.count (signature_of Alloc) is.id is.payload,
    )

    made_it : IsAllocationOf made is.source is.answer
    made_it = was_made laws w.ids low high made shows.holds.transfers is.source (of_source (slice_index_or heard 0 no_frame) (in_at heard 0 no_frame some)).0 heard
        (λ frame i. (of_source frame i).1) is.answer
        (record { payload = is.payload; reads = is.reads; id = is.id; small = is.small; step = is.step; re = is.re; front = []; back = []; waits = sym (append-nil heard) })

    pub taken_listed : HasPair (the_list choice w) uid node
    taken_listed = given_listed uid node (record {
      whose = made_it.x;
      was_made = made_it.was_made;
      what = made_it.what;
      answer = is.answer;
      reads = made_it.reads;
      own = is.its_uid;
      gives = is.its_node;
      some = is.some;
    })

  pub held_listed : (a : ℕ) (uid : List ℕ) (node : ℕ) → Holds w a uid node → HasPair (the_list choice w) uid node
  held_listed a uid node is = subst (λ (u : List ℕ). HasPair (the_list choice w) u node) is.its_uid
      (given_listed is.device.asking.uid node ((shows.asking a is.device is.there).held node is.its_node))

-- ---- along rows

pub record HoldingLaws : Type 0 where
  pub rows : (choice : ℕ → Bool) (ids : List ℕ) (rows : List Row) → AreMembers ids → DoNoHarm (cluster ids) rows → AgreesWithDisk choice (cluster ids) rows
      → Continues choice (transfers_of_rows (cluster ids) rows []) (world_of ids rows) (initial_world ids) (events choice (cluster ids) rows)
  pub offers : (choice : ℕ → Bool) (made : List SentTransfer) (w : Cluster) (run : raft.World) → AreMembers w.ids → Shows choice made w run → OffersAreMade w run
  pub safe : InEveryRun IsSafe
  pub sound : InEveryRun Invariants
  pub headline : (ids : List ℕ) (rows : List Row) → AreMembers ids → DoNoHarm (cluster ids) rows → HasHeadline ids rows
  pub frames : FrameLaws

module _ (laws : HoldingLaws) (ids : List ℕ) (members : AreMembers ids) (choice : ℕ → Bool) where
  had_at : (rows : List Row) → DoNoHarm (cluster ids) rows → AgreesWithDisk choice (cluster ids) rows → (uid : List ℕ) (node : ℕ)
      → MayHave (world_of ids rows) uid node → HasPair (the_list choice (world_of ids rows)) uid node
  had_at rows harmless fits uid node has =
      let is = laws.rows choice ids rows members harmless fits in
      let so_far = events choice (cluster ids) rows in
      let made = transfers_of_rows (cluster ids) rows [] in
      let w = world_of ids rows in
      let run = raft.run (initial_world ids) so_far in
      let same = subst AreMembers (sym (ids_stay (cluster ids) rows)) members in
      let mirror = mirrors choice made w run is.shows is.writable (laws.offers choice made w run same is.shows) in
      let safe = laws.safe ids so_far is.lawful in
      let sound = laws.sound ids so_far is.lawful in
      elim has [
        | inl (a, held) ↦ held_listed choice made w run is.shows mirror safe sound a uid node held
        | inr given ↦ taken_listed choice made w run is.shows mirror safe sound laws.frames same uid node given
      ]

  -- the list at a moment gives nothing twice
  once_at : (rows : List Row) → DoNoHarm (cluster ids) rows → AgreesWithDisk choice (cluster ids) rows → IsInjective (the_list choice (world_of ids rows))
  once_at rows harmless fits = ((laws.headline ids rows members harmless).holds rows [] [] choice (sym (append-nil rows))
      (subst (λ (l : List Row). AgreesWithDisk choice (cluster ids) l) (sym (append-nil rows)) fits)).injective

  module _ (first more rest : List Row) (harmless : DoNoHarm (cluster ids) (first ++ more)) (fits : AgreesWithDisk choice (cluster ids) (first ++ more)) where
    abbrev now : Cluster
    now = world_of ids first

    abbrev later : Cluster
    later = world_of ids (first ++ more)

    between : Headline choice now later
    between = (laws.headline ids (first ++ more) members harmless).holds first more [] choice (ap (λ (l : List Row). first ++ l) (sym (append-nil more))) fits

    had_now : (uid : List ℕ) (node : ℕ) → MayHave now uid node → HasPair (the_list choice later) uid node
    had_now uid node has = still_pair (the_list choice now) (the_list choice later) between.grows uid node
        (had_at first (first_harmless (cluster ids) first more harmless) (first_fits choice (cluster ids) first more fits) uid node has)

    had_later : (uid : List ℕ) (node : ℕ) → MayHave later uid node → HasPair (the_list choice later) uid node
    had_later = had_at (first ++ more) harmless fits

    pub allocatees : Allocatees choice now later
    allocatees = record {
      held = had_now;
      apart = λ uid other node x y. one_uid (the_list choice later) (once_at (first ++ more) harmless fits) uid other node (had_now uid node x) (had_later other node y);
      same = λ uid node other x y. one_node (the_list choice later) (once_at (first ++ more) harmless fits) uid node other (had_now uid node x) (had_later uid other y);
    }

pub has_allocatees : HoldingLaws → (ids : List ℕ) (rows : List Row) → AreMembers ids → DoNoHarm (cluster ids) rows → HasAllocatees ids rows
has_allocatees laws ids rows members harmless = λ first more rest choice cut fits.
    allocatees laws ids members choice first more rest
    (first_harmless (cluster ids) (first ++ more) rest (subst (λ (l : List Row). DoNoHarm (cluster ids) l) (cut ∙ sym (append_assoc first more rest)) harmless)) fits
