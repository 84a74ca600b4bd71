-- What a world shows of a run it shows after a replacement of the run after a copy, once the votes are hidden.
use Rattle.std.proofs.Common.{◌≡◌, ℕ, ◌<◌, ◌≤◌, ◌^◌, Bool, true, false, List, [], ◌∷◌, length, refl, sym, ap, subst, ◌∙◌, arith, inl, inr, ◌⊎◌, Option, Some, None}
use Rattle.std.specs.Prelude.{◌==◌, ◌&&◌, not, filter}
use Rattle.std.proofs.lemmas.Bool.Decides.{eqb_tells}
use Rattle.allocatee.specs.Accepted as device
use Rattle.allocatee.specs.Allocatee.{Device}
use Rattle.can_frame.specs.declared.step.What.{What}
use Rattle.can_frame.specs.declared.step.What.TheVariants.{Alloc, Disc, Stat, InfoQ, Info, VoteQ, Vote, AppQ, App}
use Rattle.can_frame.specs.Identifier.{identifier_of}
use Rattle.can_frame.specs.Log.{last_term}
use Rattle.raft_model.specs.Decisions.{is_not_above}
use Rattle.raft_model.specs.History.{History}
use Rattle.raft_model.specs.Lists.{In, at, at_here, at_other, how_many}
use Rattle.raft_model.specs.Messages.{Message}
use Rattle.raft_model.specs.Messages.Message.{Answers, Pairs, Requests}
use Rattle.raft_model.specs.Runs as raft
use Rattle.raft_model.specs.Server.{Memory, RaftServer, Store, memory_when_down, quorum}
use Rattle.raft_replaced.specs.Replacement.{MayBeCopied, backs, is_remembered, is_vote_for, remains, stores_of, world_copied}
use Rattle.raft_replaced.proofs.Backing.{count_grows_in}
use Rattle.raft_replaced.proofs.Filters.{filter_has, in_filter, or_left}
use Rattle.transfer_rx.specs.Origin.{AreAmong}
use Rattle.transfer_rx.specs.Reassembly.{Arrival}
use Rattle.transfer_rx.specs.Run.{has_session_key, is_of}
use Rattle.transfer_rx.specs.Sessions.{Session}
use Rattle.transfer_rx.specs.declared.key.Key.{Key}
use Rattle.transfer_tx.specs.Queue.{Queued}
use Rattle.alloc_spec.specs.ClusterMembers.{AreMembers}
use Rattle.alloc_spec.specs.Transfers.{GivenPair, SentTransfer, ident_of, message_by, pair_in, pair_message}
use Rattle.alloc_spec_laws.specs.Saying.{IsSaid}
use Rattle.bus_spec.specs.Cluster.{Cluster, no_frame}
use Rattle.bus_spec.specs.Lawful.{is_forged}
use Rattle.bus_spec.specs.Members.{Member, MemberStatus, fresh_member}
use Rattle.bus_agreement.specs.Asking.{IsAsking, IsGiven}
use Rattle.bus_agreement.specs.Frames.{AreHeard, IsOnBus, IsPiece}
use Rattle.bus_agreement.specs.LawsBelow.{FrameLaws}
use Rattle.bus_agreement.specs.Said.{IsRunWritable}
use Rattle.bus_agreement.specs.Shows.{HoldsOfMade, Shows, ShowsDown, ShowsMember}
use Rattle.bus_agreement.proofs.Lists.{never, tell}
use Rattle.bus_agreement.proofs.Pieces.{IsPieceOf, piece_of}
use Rattle.bus_agreement.proofs.StillWritable.{stores_with}
use Rattle.bus_agreement.proofs.WholeTransfers.{read_back}
use Rattle.raft_model.proofs.Apart.{clash}
use Rattle.bus_replaced.specs.Traces.{MayBeReplaced, as_stopped, copy_of, is_of_vote, is_vote_frame, replaced}
use Rattle.bus_replaced.proofs.Masks.{mask_again, mask_all, mask_keeps, masked}
use Rattle.bus_replaced.proofs.VeiledRows.{veiled, vote_unwanted}

-- ---- lists

-- a filter after a weaker one
filter_twice : {A : Type 0} (p q : A → Bool) (xs : List A) → ((x : A) → p x ≡ true → q x ≡ true) → filter p (filter q xs) ≡ filter p xs
filter_twice p q [] weaker = refl
filter_twice p q (x ∷ xs) weaker = elim (tell (q x)) [
  | inl a ↦ rw a (elim (tell (p x)) [
    | inl b ↦ rw b (ap (λ (l : List _). x ∷ l) (filter_twice p q xs weaker))
    | inr b ↦ rw b (filter_twice p q xs weaker)
  ])
  | inr a ↦ elim (tell (p x)) [
    | inl b ↦ absurd (clash (q x) (weaker x b) a)
    | inr b ↦ rw (a, b) (filter_twice p q xs weaker)
  ]
]

not_true : (b : Bool) → not b ≡ true → b ≡ false
not_true true e = absurd (cc (e))
not_true false e = refl

is_not : (b : Bool) → b ≡ false → not b ≡ true
is_not true e = absurd (cc (e))
is_not false e = refl

-- ---- what the transfers that are left say remains

abbrev pub is_vote_transfer : SentTransfer → Bool
is_vote_transfer x = is_of_vote (Some (ident_of x.by x.offer.what x.offer.to))

some_message : (a b : Message) → Some a ≡ Some b → a ≡ b
some_message a b e = cc (e)

module _ (history : History) (top step by : ℕ) (message : Message) where
  abbrev left : Message → Type 0
  left m = remains history top m ≡ true

  of_pair : (o : Option GivenPair) → pair_message step by o ≡ Some message → left message
  of_pair None e = absurd (cc (e))
  of_pair (Some given) e = subst left (some_message (Pairs (record { step = step; from = by; uid = given.0; node = given.1 })) message e) refl

  of_none : (says : Option Message) → says ≡ None → says ≡ Some message → left message
  of_none says none e = absurd (cc (sym none ∙ e))

  says_what_remains : (what : What) (to re : ℕ) (payload : List ℕ) (says : Option Message) → is_of_vote (Some (ident_of by what to)) ≡ false
      → IsSaid step by what to re payload says → message_by step by what payload says ≡ Some message → left message
  says_what_remains Alloc to re payload says other said e = of_pair (pair_in Alloc payload) e
  says_what_remains Disc to re payload says other said e = of_none says said.0 e
  says_what_remains Stat to re payload says other said e = of_none says said.0 e
  says_what_remains InfoQ to re payload says other said e = of_none says said.0 e
  says_what_remains Info to re payload says other said e = of_none says said e
  says_what_remains VoteQ to re payload says other said e = absurd (cc (other))
  says_what_remains Vote to re payload says other said e = absurd (cc (other))
  says_what_remains AppQ to re payload says other said e =
      let r = said.0.request in
      subst left (some_message (Requests r) message (sym said.0.is ∙ e)) (or_left r.append (is_remembered history top r.from r.term) said.0.service)
  says_what_remains App to re payload says other said e =
      let a = said.answer in
      subst left (some_message (Answers a) message (sym said.is ∙ e)) (or_left a.request.append (is_remembered history top a.request.from a.request.term) said.service)

-- ---- what devices heard

not_of_vote : (key : Key) (arrival : Arrival) → is_of device.setting key arrival ≡ true → is_of_vote (identifier_of arrival.id) ≡ false
unfolding is_of
not_of_vote key arrival e = elim (tell (is_of_vote (identifier_of arrival.id))) [
  | inl vote ↦ never (sym (ap (has_session_key key) (vote_unwanted (record { id = arrival.id; bytes = arrival.bytes; mark = arrival.mark }) vote)) ∙ e)
  | inr other ↦ other
]

abbrev no_vote : Arrival → Bool
no_vote arrival = not (is_of_vote (identifier_of arrival.id))

heard_still : (old all : ℕ) (frames : List Queued) (sessions : List Session) → length frames ≤ all → AreHeard (masked old frames) device.setting sessions
    → AreHeard (masked all frames) device.setting sessions
heard_still old all frames sessions h is = record {
  arrivals = filter no_vote is.arrivals;
  come = λ arrival i.
      let q = in_filter no_vote is.arrivals arrival i in
      let c = is.come arrival q.0 in
      let other : is_vote_frame c.frame ≡ false = subst (λ (id : ℕ). is_of_vote (identifier_of id) ≡ false) c.id (not_true (is_of_vote (identifier_of arrival.id)) q.1) in
      record { frame = c.frame; there = mask_again old all frames c.frame h c.there other; id = c.id; bytes = c.bytes; mark = c.mark };
  kept = λ k d below.
      let c = is.kept k d below in
      record {
        frames = c.frames;
        among = subst (λ (l : List Arrival). AreAmong c.frames l)
            (sym (filter_twice (is_of device.setting _) no_vote is.arrivals (λ arrival e. is_not (is_of_vote (identifier_of arrival.id)) (not_of_vote _ arrival e)))) c.among;
        taken = c.taken;
        marks = c.marks;
      };
}

none_foreign : (ids : List ℕ) → is_forged ids (identifier_of no_frame.id) ≡ false
unfolding identifier_of
none_foreign ids = refl

-- ---- a replacement

module _ (laws : FrameLaws) (choice : ℕ → Bool) (made : List SentTransfer) (old : ℕ) (w : Cluster) (members : AreMembers w.ids) (run : raft.World)
    (shows : Shows choice made (veiled old w) run) (lost leader : ℕ) (may : MayBeReplaced w lost leader) where
  abbrev all : ℕ
  all = length w.frames

  low : (n : ℕ) → In n w.ids → 1 ≤ n
  low n i = (members.nodes n i).0

  high : (n : ℕ) → In n w.ids → n ≤ 125
  high n i = (members.nodes n i).1

  -- ---- the stores

  still : (n : ℕ) → In n w.ids → ShowsDown run n (w.member n).disk
  still n i = subst (λ (status : MemberStatus). ShowsMember choice made w.ids (masked old w.frames) run n status (w.member n).disk) (may.down n i) (shows.lives n i)

  same_store : (n : ℕ) → In n w.ids → stores_of run n ≡ stores_of (as_stopped w) n
  same_store n i = (still n i).stored

  abbrev backs_by : ℕ → Store → Store → Bool
  backs_by n own its = not (n == lost)
      && ((own.term == its.term) && (is_vote_for own.vote leader && is_not_above (last_term own.log) (length own.log) (last_term its.log) (length its.log)))

  backs_same : (n : ℕ) → In n w.ids → backs (stores_of (as_stopped w)) lost leader n ≡ true → backs (stores_of run) lost leader n ≡ true
  backs_same n i e = ap (λ (own : Store). backs_by n own (stores_of run leader)) (same_store n i)
      ∙ (ap (λ (its : Store). backs_by n (stores_of (as_stopped w) n) its) (same_store leader may.listed) ∙ e)

  pub may_be_copied : MayBeCopied run lost leader
  may_be_copied = record {
    listed = subst (λ (ids : List ℕ). In lost ids) (sym shows.members) may.guard.listed;
    down = λ n i. ap (λ (m : Memory). m.up) (still n (subst (λ (ids : List ℕ). In n ids) shows.members i)).down;
    own = backs_same leader may.listed may.guard.own;
    majority = subst (λ (ids : List ℕ). quorum ids ≤ how_many (backs (stores_of run) lost leader) ids) (sym shows.members)
        (omega (arith, may.guard.majority, count_grows_in (backs (stores_of (as_stopped w)) lost leader) (backs (stores_of run) lost leader) w.ids backs_same));
    committed = subst (λ (s : Store). s.commit ≡ length s.log) (sym (same_store leader may.listed)) may.guard.committed;
  }

  abbrev later_run : raft.World
  later_run = world_copied run lost leader

  abbrev copied_server : RaftServer
  copied_server = record { store = stores_of run leader; memory = memory_when_down }

  abbrev new_member : Member
  new_member = record fresh_member { disk = copy_of (w.member leader).disk }

  -- ---- the transfers that are left

  abbrev pub others : List SentTransfer
  others = filter (λ x. not (is_vote_transfer x)) made

  pub was : (x : SentTransfer) → In x others → In x made × (is_vote_transfer x ≡ false)
  was x i = let q = in_filter (λ x. not (is_vote_transfer x)) made x i in (q.0, not_true (is_vote_transfer x) q.1)

  left_in : (x : SentTransfer) → In x made → is_vote_transfer x ≡ false → In x others
  left_in x i other = filter_has (λ x. not (is_vote_transfer x)) made x i (is_not (is_vote_transfer x) other)

  of_what : (x : SentTransfer) (what : What) → x.offer.what ≡ what → In x made → is_of_vote (Some (ident_of x.by what x.offer.to)) ≡ false → In x others
  of_what x what e i other = left_in x i (ap (λ (v : What). is_of_vote (Some (ident_of x.by v x.offer.to))) e ∙ other)

  -- a member's frame that is no vote is of one of them
  piece_left : (n : ℕ) (frame : Queued) → is_vote_frame frame ≡ false → IsPiece made n frame → IsPiece others n frame
  piece_left n frame other piece = record {
    whose = piece.whose;
    was_made = left_in piece.whose piece.was_made (ap is_of_vote (sym read) ∙ other);
    maker = piece.maker;
    place = piece.place;
    same = piece.same;
  }
    where
      is : IsPieceOf piece.whose (record { id = frame.id; bytes = frame.bytes; mark = frame.mark; moment = 0 })
      is = piece_of laws made n frame piece (record { id = frame.id; bytes = frame.bytes; mark = frame.mark; moment = 0 }) refl refl refl

      read : identifier_of frame.id ≡ Some (ident_of piece.whose.by piece.whose.offer.what piece.whose.offer.to)
      read = ap (λ (id : ℕ). identifier_of id) is.id ∙ read_back laws w.ids low high made shows.holds.transfers piece.whose piece.was_made

  -- a frame that stands there is no vote, and stood there before
  stood : (frame : Queued) → In frame (masked all w.frames) → (frame ≡ no_frame) ⊎ (In frame (masked old w.frames) × (is_vote_frame frame ≡ false))
  stood frame i = elim (mask_all all w.frames frame (omega arith) i) [
    | inl none ↦ inl none
    | inr there ↦ inr (mask_keeps old w.frames frame there.0 there.1, there.1)
  ]

  -- ---- what is shown

  lives : (n : ℕ) → In n w.ids
      → ShowsMember choice others w.ids (masked all w.frames) later_run n (at w.member lost new_member n).status (at w.member lost new_member n).disk
  lives n i = elim (eqb_tells n lost) [
    | inl same ↦ subst (λ (x : Member). ShowsMember choice others w.ids (masked all w.frames) later_run n x.status x.disk) (sym (at_here w.member lost n new_member same.1)) (record {
      down = ap (λ (p : RaftServer). p.memory) (at_here run.server lost n copied_server same.1);
      stored = ap (λ (p : RaftServer). p.store) (at_here run.server lost n copied_server same.1) ∙ same_store leader may.listed;
      nothing_unsynced = λ unsynced e. absurd (cc (e));
    })
    | inr apart ↦ subst (λ (x : Member). ShowsMember choice others w.ids (masked all w.frames) later_run n x.status x.disk) (sym (at_other w.member lost n new_member apart.1))
        (subst (λ (status : MemberStatus). ShowsMember choice others w.ids (masked all w.frames) later_run n status (w.member n).disk) (sym (may.down n i)) (record {
          down = ap (λ (p : RaftServer). p.memory) (at_other run.server lost n copied_server apart.1) ∙ (still n i).down;
          stored = ap (λ (p : RaftServer). p.store) (at_other run.server lost n copied_server apart.1) ∙ (still n i).stored;
          nothing_unsynced = (still n i).nothing_unsynced;
        }))
  ]

  given_left : (uid : List ℕ) (node : ℕ) → IsGiven made uid node → IsGiven others uid node
  given_left uid node is = record {
    whose = is.whose;
    was_made = of_what is.whose Alloc is.what is.was_made refl;
    what = is.what;
    answer = is.answer;
    reads = is.reads;
    own = is.own;
    gives = is.gives;
    some = is.some;
  }

  asking : (a : ℕ) (x : Device) → w.allocatee a ≡ Some x → IsAsking others (masked all w.frames) x
  asking a x e =
      let is = shows.asking a x e in record {
        queue = is.queue;
        heard = heard_still old all w.frames x.sessions (omega arith) is.heard;
        held = λ node h. given_left x.asking.uid node (is.held node h);
      }

  on_bus : (frame : Queued) → In frame (masked all w.frames) → IsOnBus others w.ids frame
  on_bus frame i = elim (stood frame i) [
    | inl none ↦ inr (ap (λ (f : Queued). is_forged w.ids (identifier_of f.id)) none ∙ none_foreign w.ids)
    | inr there ↦ elim (shows.bus frame there.0) [
      | inl (n, listed, piece) ↦ inl (n, listed, piece_left n frame there.1 piece)
      | inr foreign ↦ inr foreign
    ]
  ]

  narrow : (frame : Queued) → In frame (masked all w.frames) → frame.id < 2 ^ 29
  narrow frame i = elim (stood frame i) [
    | inl none ↦ subst (λ (f : Queued). f.id < 2 ^ 29) (sym none) (omega arith)
    | inr there ↦ shows.narrow frame there.0
  ]

  holds : HoldsOfMade others w.ids later_run.bag
  holds = record {
    transfers = record {
      once = λ x y i j. shows.holds.transfers.once x y (was x i).0 (was y j).0;
      numbered = λ x i. shows.holds.transfers.numbered x (was x i).0;
      makers = λ x i. shows.holds.transfers.makers x (was x i).0;
      ranges = λ x i. shows.holds.transfers.ranges x (was x i).0;
    };
    said = record {
      carried = λ x i. shows.holds.said.carried x (was x i).0;
      said = λ x message i e.
          let q = was x i in
          filter_has (remains run.history (stores_of run leader).term) run.bag message (shows.holds.said.said x message q.0 e)
          (says_what_remains run.history (stores_of run leader).term x.step x.by message x.offer.what x.offer.to x.offer.re x.offer.payload x.offer.says q.1
          (shows.holds.said.carried x q.0) e);
    };
    written = record {
      requests = λ r i. shows.holds.written.requests r (in_filter (remains run.history (stores_of run leader).term) run.bag (Requests r) i).0;
      senders = λ r i. shows.holds.written.senders r (in_filter (remains run.history (stores_of run leader).term) run.bag (Requests r) i).0;
      answers = λ a i. shows.holds.written.answers a (in_filter (remains run.history (stores_of run leader).term) run.bag (Answers a) i).0;
    };
    answered = record {
      votes = λ x answer i what. never (sym (was x i).1 ∙ ap (λ (v : What). is_of_vote (Some (ident_of x.by v x.offer.to))) what);
      appends = λ x answer i what says.
          let a = shows.holds.answered.appends x answer (was x i).0 what says in record {
            asked = a.asked;
            was_made = of_what a.asked AppQ a.what a.was_made refl;
            step = a.step;
            what = a.what;
            maker = a.maker;
            receiver = a.receiver;
            id = a.id;
            says = a.says;
          };
    };
    discoveries = λ x message peer i. shows.holds.discoveries x message peer (was x i).0;
    allocations = λ x answer i. shows.holds.allocations x answer (was x i).0;
  }

  pub copy_shown : Shows choice others (veiled all (replaced w lost leader)) later_run
  copy_shown = record {
    members = shows.members;
    steps = shows.steps;
    lives = lives;
    asking = asking;
    bus = on_bus;
    narrow = narrow;
    holds = holds;
    past = λ x i. shows.past x (was x i).0;
  }

  pub copy_written : IsRunWritable w.ids run → IsRunWritable w.ids later_run
  copy_written is = record { stores = stores_with w.ids run.server lost copied_server is.stores (is.stores leader); bag = holds.written }
