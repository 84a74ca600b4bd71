-- The promise along a trace, from what its items show.
use Rattle.std.proofs.Common.{◌≡◌, ℕ, Bool, false, List, [], ◌∷◌, ◌++◌, length, take, refl, sym, ap, subst, ◌∙◌, arith, inl, inr}
use Rattle.std.specs.Prelude.{◌&&◌, if◌then◌else◌, nat_eq, nat_lt}
use Rattle.std.proofs.lemmas.List.{append_assoc, take_all}
use Rattle.can_frame.specs.DataTypes.{request_vote}
use Rattle.can_frame.specs.Kinds.{is_service}
use Rattle.can_frame.specs.declared.entry.Entry.{Entry}
use Rattle.can_frame.specs.declared.identifier.Kind.{Kind}
use Rattle.can_frame.specs.Log.{HasPair, IsPrefix}
use Rattle.raft_model.specs.Invariants.{Invariants}
use Rattle.raft_model.specs.Lists.{In, at_here}
use Rattle.raft_model.specs.Runs.{World, initial_world}
use Rattle.raft_model.specs.Safety.{IsSafe}
use Rattle.raft_model.specs.Server as raft
use Rattle.raft_replaced.specs.Changes.{Change, changed}
use Rattle.transfer_tx.specs.Queue.{Queued}
use Rattle.alloc_spec.specs.ClusterMembers.{AreMembers}
use Rattle.alloc_spec.specs.Transfers.{SentTransfer}
use Rattle.bus_spec.specs.Cluster.{Cluster, cluster}
use Rattle.bus_spec.specs.Logs.{IsGivenFrom, IsOfAllocation, committed, stored_on}
use Rattle.bus_spec.specs.Members.{Member, MemberStatus, fresh_member}
use Rattle.bus_agreement.specs.Allocatees.{Allocatees, MayHave}
use Rattle.bus_agreement.specs.Headline.{Headline, longest, the_list}
use Rattle.bus_agreement.specs.Mirrors.{Mirrors}
use Rattle.bus_agreement.proofs.HeadlineOfRuns.{is_injective, list_of_ledger, of_list, pair_committed, same_log, still_pair}
use Rattle.bus_agreement.proofs.HeldPairs.{held_listed, one_node, one_uid, taken_listed}
use Rattle.bus_agreement.proofs.MirroredRuns.{mirrors}
use Rattle.bus_agreement.proofs.Prefixes.{prefix_length}
use Rattle.bus_replaced.specs.LawsBelow.{LawsBelow}
use Rattle.bus_replaced.specs.Promises.{HasAllocateesAlong}
use Rattle.bus_replaced.specs.Traces.{AgreesAlong, ComeInTurn, IsTrace, Item, MayBeReplaced, after_item, after_items, copy_of, is_of_vote, is_vote_frame, replaced, transfers_along, world_along}
use Rattle.bus_replaced.specs.Traces.Item.{Replaces, Takes}
use Rattle.bus_replaced.proofs.Copies as copies
use Rattle.bus_replaced.proofs.Masks.{mask_keeps}
use Rattle.bus_replaced.proofs.Moments.{headline}
use Rattle.bus_replaced.proofs.Reached.{IsReached, Reaches, changed_joined, old_after, onward, reached}
use Rattle.bus_replaced.proofs.Settled.{stays_settled}
use Rattle.bus_replaced.proofs.VeiledRows.{veiled}

-- ---- traces, one after the other

pub after_joined : (w : Cluster) (first more : List Item) → after_items w (first ++ more) ≡ after_items (after_items w first) more
after_joined w [] more = refl
after_joined w (item ∷ first) more = after_joined (after_item w item) first more

pub first_comes : (old : ℕ) (w : Cluster) (first more : List Item) → ComeInTurn old w (first ++ more) → ComeInTurn old w first
first_comes old w [] more all = tt
first_comes old w (Takes row ∷ first) more all = (all.0, all.1, first_comes old (after_item w (Takes row)) first more all.2)
first_comes old w (Replaces lost leader ∷ first) more all = (all.0, first_comes (length w.frames) (replaced w lost leader) first more all.1)

pub rest_comes : (old : ℕ) (w : Cluster) (first more : List Item) → ComeInTurn old w (first ++ more) → ComeInTurn (old_after old w first) (after_items w first) more
rest_comes old w [] more all = all
rest_comes old w (Takes row ∷ first) more all = rest_comes old (after_item w (Takes row)) first more all.2
rest_comes old w (Replaces lost leader ∷ first) more all = rest_comes (length w.frames) (replaced w lost leader) first more all.1

pub first_agrees : (choice : ℕ → Bool) (w : Cluster) (first more : List Item) → AgreesAlong choice w (first ++ more) → AgreesAlong choice w first
first_agrees choice w [] more all = tt
first_agrees choice w (Takes row ∷ first) more all = (all.0, first_agrees choice (after_item w (Takes row)) first more all.1)
first_agrees choice w (Replaces lost leader ∷ first) more all = first_agrees choice (replaced w lost leader) first more all

pub rest_agrees : (choice : ℕ → Bool) (w : Cluster) (first more : List Item) → AgreesAlong choice w (first ++ more) → AgreesAlong choice (after_items w first) more
rest_agrees choice w [] more all = all
rest_agrees choice w (Takes row ∷ first) more all = rest_agrees choice (after_item w (Takes row)) first more all.1
rest_agrees choice w (Replaces lost leader ∷ first) more all = rest_agrees choice (replaced w lost leader) first more all

-- two lists that begin with each other are one
same_list : (a b : List Entry) → IsPrefix a b → IsPrefix b a → a ≡ b
same_list a b e f =
    let same : length a ≡ length b = omega (arith, prefix_length a b e, prefix_length b a f) in
    sym e ∙ (ap (λ (k : ℕ). take k b) same ∙ take_all (length b) b (omega arith))

-- ---- at a moment

module _ (laws : LawsBelow) (choice : ℕ → Bool) (ids : List ℕ) (members : AreMembers ids) where
  module _ (old : ℕ) (w : Cluster) (all : List SentTransfer) (changes : List Change) (is : IsReached choice ids old w all changes) where
    abbrev run : World
    run = changed (initial_world ids) changes

    are : AreMembers w.ids
    are = subst AreMembers (sym is.same) members

    veiled_mirrors : Mirrors choice (veiled old w) run
    veiled_mirrors = mirrors choice is.made (veiled old w) run is.shows is.writable (laws.offers choice is.made (veiled old w) run are is.shows)

    it_mirrors : Mirrors choice w run
    it_mirrors = record {
      stored = veiled_mirrors.stored;
      serves = veiled_mirrors.serves;
      found = veiled_mirrors.found;
      entries = veiled_mirrors.entries;
      offers = veiled_mirrors.offers;
    }

    safe : IsSafe run
    safe = laws.safe ids changes is.allowed

    sound : Invariants run
    sound = laws.sound ids changes is.allowed

    -- ---- a replacement

    -- the log that the leader committed is the whole list
    leader_has_list : (lost leader : ℕ) → MayBeReplaced w lost leader → committed choice w leader ≡ the_list choice w
    leader_has_list lost leader may =
        let own : raft.committed (run.server leader).store ≡ committed choice w leader = same_log choice w run it_mirrors safe sound leader may.listed in
        let may_be = copies.may_be_copied laws.frames choice is.made old w are run is.shows lost leader may in
        let all : committed choice w leader ≡ run.ledger.entries
        = sym own ∙ (ap raft.committed (sym (laws.copied run lost leader)) ∙ laws.all ids changes is.allowed lost leader may_be) in
        same_list (committed choice w leader) (the_list choice w) (of_list choice w run it_mirrors safe sound leader may.listed)
        (subst (λ (l : List Entry). IsPrefix (the_list choice w) l) (sym all) (list_of_ledger choice w run it_mirrors safe sound))

    -- and the copy of it
    copy_has_list : (lost leader : ℕ) → MayBeReplaced w lost leader → committed choice (replaced w lost leader) lost ≡ the_list choice w
    copy_has_list lost leader may =
        ap (λ (x : Member). raft.committed (stored_on choice x.status x.disk)) (at_here w.member lost lost (record fresh_member { disk = copy_of (w.member leader).disk }) refl)
        ∙ (ap (λ (status : MemberStatus). raft.committed (stored_on choice status (w.member leader).disk)) (sym (may.down leader may.listed))
        ∙ leader_has_list lost leader may)

    -- ---- the bus

    no_vote : (frame : Queued) (n : ℕ) → IsOfAllocation frame n → is_vote_frame frame ≡ false
    no_vote frame n of = ap is_of_vote of.read ∙ ap (λ (k : Kind). is_service k && nat_eq of.ident.number request_vote.number) of.kind

    on_bus : (frame : Queued) (n : ℕ) → In frame w.frames → IsOfAllocation frame n → In n ids × IsGivenFrom (committed choice w n) all frame n
    on_bus frame n there of =
        let its = laws.bus choice is.made (veiled old w) run are is.shows frame n (mask_keeps old w.frames frame there (no_vote frame n of)) of in (
          subst (λ (l : List ℕ). In n l) is.same its.0,
          record {
            whose = its.1.whose;
            was_made = is.among its.1.whose its.1.was_made;
            by = its.1.by;
            what = its.1.what;
            one = its.1.one;
            pair = λ answer reads gives. pair_committed choice w run it_mirrors safe sound
                (record { step = its.1.whose.step; from = n; uid = answer.uid.items; node = answer.node }) its.0 (its.1.said answer reads gives);
          },
        )

    -- ---- devices

    same_longest : (ns : List ℕ) → longest choice (veiled old w) ns ≡ longest choice w ns
    same_longest [] = refl
    same_longest (n ∷ ns) = ap (λ (l : List Entry). if nat_lt (length l) (length (committed choice w n)) then committed choice w n else l) (same_longest ns)

    had : (uid : List ℕ) (node : ℕ) → MayHave w uid node → HasPair (the_list choice w) uid node
    had uid node (inl (a, holds)) = subst (λ (l : List Entry). HasPair l uid node) (same_longest w.ids)
        (held_listed choice is.made (veiled old w) run is.shows veiled_mirrors safe sound a uid node
        (record { device = holds.device; there = holds.there; its_uid = holds.its_uid; its_node = holds.its_node }))
    had uid node (inr given) = subst (λ (l : List Entry). HasPair l uid node) (same_longest w.ids)
        (taken_listed choice is.made (veiled old w) run is.shows veiled_mirrors safe sound laws.frames are uid node (record {
          source = given.source;
          payload = given.payload;
          answer = given.answer;
          reads = given.reads;
          its_uid = given.its_uid;
          its_node = given.its_node;
          some = given.some;
          id = given.id;
          small = given.small;
          step = given.step;
          re = given.re;
          there = λ frame i. let t = given.there frame i in (mask_keeps old w.frames frame t.0 (no_vote frame given.source t.1), t.1);
        }))

  -- ---- from one moment to another

  module _ (first more : List Item) (come : IsTrace ids (first ++ more)) (fits : AgreesAlong choice (cluster ids) (first ++ more)) where
    abbrev now : Cluster
    now = world_along ids first

    abbrev later : Cluster
    later = after_items now more

    abbrev old_now : ℕ
    old_now = old_after 0 (cluster ids) first

    abbrev made_now : List SentTransfer
    made_now = transfers_along (cluster ids) first []

    abbrev old_later : ℕ
    old_later = old_after old_now now more

    abbrev made_later : List SentTransfer
    made_later = transfers_along now more made_now

    early : Reaches choice ids old_now now made_now []
    early = reached laws choice ids members first (first_comes 0 (cluster ids) first more come) (first_agrees choice (cluster ids) first more fits)

    late : Reaches choice ids old_later later made_later early.0
    late = onward laws choice ids members more old_now now made_now early.0 early.2 (rest_comes 0 (cluster ids) first more come) (rest_agrees choice (cluster ids) first more fits)

    abbrev early_run : World
    early_run = changed (initial_world ids) early.0

    abbrev late_run : World
    late_run = changed early_run late.0

    same_run : changed (initial_world ids) (early.0 ++ late.0) ≡ late_run
    same_run = changed_joined (initial_world ids) early.0 late.0

    between : Headline choice now later
    between =
        let lasts = laws.lasts ids early.0 late.0 early.2.allowed late.1 in
        headline choice now later early_run late_run (late.2.same ∙ sym early.2.same) (it_mirrors old_now now made_now early.0 early.2)
        (subst (λ (r : World). Mirrors choice later r) same_run (it_mirrors old_later later made_later (early.0 ++ late.0) late.2))
        (safe old_now now made_now early.0 early.2) (sound old_now now made_now early.0 early.2)
        (subst IsSafe same_run (safe old_later later made_later (early.0 ++ late.0) late.2))
        (subst Invariants same_run (sound old_later later made_later (early.0 ++ late.0) late.2))
        lasts (stays_settled early_run late.0 lasts)

    pub headline_between : Headline choice now (world_along ids (first ++ more))
    headline_between = subst (λ (w : Cluster). Headline choice now w) (sym (after_joined (cluster ids) first more)) between

    had_now : (uid : List ℕ) (node : ℕ) → MayHave now uid node → HasPair (the_list choice later) uid node
    had_now uid node has = still_pair (the_list choice now) (the_list choice later) between.grows uid node (had old_now now made_now early.0 early.2 uid node has)

    had_later : (uid : List ℕ) (node : ℕ) → MayHave later uid node → HasPair (the_list choice later) uid node
    had_later = had old_later later made_later (early.0 ++ late.0) late.2

    devices : Allocatees choice now later
    devices =
        let once = is_injective choice later (changed (initial_world ids) (early.0 ++ late.0)) (it_mirrors old_later later made_later (early.0 ++ late.0) late.2)
        (safe old_later later made_later (early.0 ++ late.0) late.2) (sound old_later later made_later (early.0 ++ late.0) late.2) in
        record {
          held = had_now;
          apart = λ uid other node x y. one_uid (the_list choice later) once uid other node (had_now uid node x) (had_later other node y);
          same = λ uid node other x y. one_node (the_list choice later) once uid node other (had_now uid node x) (had_later uid other y);
        }

    pub devices_between : Allocatees choice now (world_along ids (first ++ more))
    devices_between = subst (λ (w : Cluster). Allocatees choice now w) (sym (after_joined (cluster ids) first more)) devices

  pub bus_along : (items : List Item) → IsTrace ids items → AgreesAlong choice (cluster ids) items → (frame : Queued) (n : ℕ)
      → In frame (world_along ids items).frames → IsOfAllocation frame n
      → In n ids × IsGivenFrom (committed choice (world_along ids items) n) (transfers_along (cluster ids) items []) frame n
  bus_along items come fits =
      let r = reached laws choice ids members items come fits in
      on_bus (old_after 0 (cluster ids) items) (world_along ids items) (transfers_along (cluster ids) items []) r.0 r.2

  -- where a trace ends with a replacement, the lost member has committed the list
  pub copy_along : (items : List Item) (lost leader : ℕ) → IsTrace ids (items ++ Replaces lost leader ∷ []) → AgreesAlong choice (cluster ids) items
      → committed choice (world_along ids (items ++ Replaces lost leader ∷ [])) lost ≡ the_list choice (world_along ids items)
  copy_along items lost leader come fits =
      let r = reached laws choice ids members items (first_comes 0 (cluster ids) items (Replaces lost leader ∷ []) come) fits in
      let may = rest_comes 0 (cluster ids) items (Replaces lost leader ∷ []) come in
      subst (λ (w : Cluster). committed choice w lost ≡ the_list choice (world_along ids items)) (sym (after_joined (cluster ids) items (Replaces lost leader ∷ [])))
      (copy_has_list (old_after 0 (cluster ids) items) (world_along ids items) (transfers_along (cluster ids) items []) r.0 r.2 lost leader may.0)

-- a cut of a trace at two places
pub cut_comes : (ids : List ℕ) (items first more rest : List Item) → items ≡ first ++ (more ++ rest) → IsTrace ids items → IsTrace ids (first ++ more)
cut_comes ids items first more rest cut come = first_comes 0 (cluster ids) (first ++ more) rest
    (subst (λ (l : List Item). IsTrace ids l) (cut ∙ sym (append_assoc first more rest)) come)

pub allocatees_along : LawsBelow → (ids : List ℕ) (items : List Item) → AreMembers ids → IsTrace ids items → HasAllocateesAlong ids items
allocatees_along laws ids items members come = λ first more rest choice cut fits.
    devices_between laws choice ids members first more (cut_comes ids items first more rest cut come) fits
