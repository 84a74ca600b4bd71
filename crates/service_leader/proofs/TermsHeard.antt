-- What a member hears of a party of its group tells no term above this one, where the members of the group have none.
use Rattle.std.proofs.Common.{◌≡◌, ℕ, ◌≤◌, Bool, true, false, List, refl, sym, ◌∙◌, ap, subst, arith, inl, inr, Some}
use Rattle.std.specs.Prelude.{◌⊎◌, ◌||◌}
use Rattle.can_frame.specs.declared.identifier.Ident.{Ident}
use Rattle.can_frame.specs.declared.identifier.Kind.{Kind}
use Rattle.can_frame.specs.declared.identifier.Kind.TheVariants.{Anonymous, Message as Broadcast, Request as RequestKind, Response}
use Rattle.can_frame.specs.declared.step.What.{What}
use Rattle.can_frame.specs.declared.step.What.TheVariants.{App, Vote}
use Rattle.can_frame.specs.Identifier.{identifier_of}
use Rattle.dsdl_codec.specs.declared.append_answer.AppendAnswer.{AppendAnswer}
use Rattle.dsdl_codec.specs.declared.vote_answer.VoteAnswer.{VoteAnswer}
use Rattle.dsdl_codec.specs.AppendAnswer.{append_answer_of}
use Rattle.dsdl_codec.specs.VoteAnswer.{vote_answer_of}
use Rattle.raft_model.specs.Lists.{In}
use Rattle.raft_model.specs.Messages.{Answer, Message}
use Rattle.raft_model.specs.Messages.Message.{Answers}
use Rattle.raft_model.specs.Runs as raft
use Rattle.raft_model.specs.Server.{RaftServer}
use Rattle.bus_rows.specs.declared.row.Row.TheVariants.{Rx}
use Rattle.transfer_rx.specs.Reassembly.{Delivery, Gives, answer}
use Rattle.transfer_tx.specs.Queue.{Queued}
use Rattle.allocatee.specs.Given.{IsAnonymous}
use Rattle.alloc_spec.specs.Accepted.{is_of_members, setting_for}
use Rattle.alloc_spec.specs.AllocatorState.{AllocatorState}
use Rattle.alloc_spec.specs.Step.{at_moment, at_step}
use Rattle.alloc_spec.specs.Transfers.{SentTransfer, ident_of, kind_of, message_by}
use Rattle.alloc_spec_laws.specs.Coming.{RequestsFrom}
use Rattle.alloc_spec_laws.specs.Saying.{IsSaid, SaysAnswer, append_bytes, vote_bytes}
use Rattle.bus_agreement.specs.LawsBelow.{CodecLaws, FrameLaws}
use Rattle.bus_agreement.specs.Safe.{IsDeliveredTo, IsOneTransfer}
use Rattle.bus_agreement.specs.Shows.{HoldsOfMade, Shows, ShowsMember, ShowsUp}
use Rattle.bus_agreement.proofs.Idents.{ident_ok}
use Rattle.service_leader.proofs.HeardIdents.{is_wanted}
use Rattle.bus_agreement.proofs.Lists.{is_any}
use Rattle.bus_agreement.proofs.TakenMessages.{is_append, is_vote, requests_from}
use Rattle.service_calm.specs.Calm.{Member as OfMember, Party}
use Rattle.service_calm.proofs.Group.{IsOf}
use Rattle.service_calm.proofs.Others.{some_ident}
use Rattle.service_leader.proofs.TermsKept.{TellsWithin}
use Rattle.service_leader.proofs.TermsSaid.{AreWithin}
use Rattle.bus_spec.specs.Cluster.{Cluster, arrival_at, frame_at, is_member}
use Rattle.bus_spec.specs.Lawful.{DoesNoHarm, is_forged, is_forged_by}
use Rattle.bus_spec.specs.Members.{MemberStatus}
use Rattle.bus_spec.specs.Members.MemberStatus.{Up}

-- ---- a transfer of a member

success_is : (x y : AppendAnswer) → Some x ≡ Some y → x ≡ y
success_is x y e = cc (e)

grant_is : (x y : VoteAnswer) → Some x ≡ Some y → x ≡ y
grant_is x y e = cc (e)

module _ (codec : CodecLaws) (ids : List ℕ) (made : List SentTransfer) (run : raft.World) (holds : HoldsOfMade made ids run.bag) (within : AreWithin run)
    (m top : ℕ) (d : Delivery)
    (one : IsOneTransfer made run.bag m d) (low : (run.server d.ident.source).store.term ≤ top) where
  abbrev x : SentTransfer
  x = one.whose

  -- what it answers has no higher term than its maker
  answer_low : (said : Answer) → said.from ≡ x.by → In (Answers said) run.bag → said.term ≤ top
  answer_low said from inside =
      let by_maker = within (Answers said) inside in
      let maker = ap (λ (n : ℕ). (run.server n).store.term) (from ∙ one.its.by) in
      omega (arith, by_maker, maker, low)

  requests : kind_of x.offer.what ≡ RequestKind → RequestsFrom run.bag d.ident.dest d
  requests kind = requests_from codec ids made run.bag holds.said holds.written d.ident.dest d one.whose one.was_made one.its refl kind

  carried_as : (what : What) → x.offer.what ≡ what → IsSaid x.step x.by what x.offer.to x.offer.re x.offer.payload x.offer.says
  carried_as what e = subst (λ
      (w : What). IsSaid one.whose.step one.whose.by w one.whose.offer.to one.whose.offer.re one.whose.offer.payload one.whose.offer.says) e
      (holds.said.carried one.whose one.was_made)

  said_as : (what : What) → x.offer.what ≡ what → (message : Message) → message_by x.step x.by what x.offer.payload x.offer.says ≡ Some message
      → In message run.bag
  said_as what e message m = one.said message
      (ap (λ (w : What). message_by one.whose.step one.whose.by w one.whose.offer.payload one.whose.offer.says) e ∙ m)

  appended : x.offer.what ≡ App → (message : AppendAnswer) → append_answer_of d.payload ≡ Some message → message.term ≤ top
  appended what message read =
      let said : SaysAnswer x.step x.by x.offer.to x.offer.re true append_bytes x.offer.payload x.offer.says = carried_as App what in
      let inside : In (Answers said.answer) run.bag = said_as App what (Answers said.answer) said.is in
      let value : AppendAnswer = record { term = said.answer.term; success = said.answer.success } in
      let same : value ≡ message = success_is value message
      (sym (codec.append_answers value (holds.written.answers said.answer inside)) ∙ (ap append_answer_of (sym said.written ∙ one.its.payload) ∙ read)) in
      subst (λ (v : AppendAnswer). v.term ≤ top) same (answer_low said.answer said.from inside)

  voted : x.offer.what ≡ Vote → (message : VoteAnswer) → vote_answer_of d.payload ≡ Some message → message.term ≤ top
  voted what message read =
      let said : SaysAnswer x.step x.by x.offer.to x.offer.re false vote_bytes x.offer.payload x.offer.says = carried_as Vote what in
      let inside : In (Answers said.answer) run.bag = said_as Vote what (Answers said.answer) said.is in
      let value : VoteAnswer = record { term = said.answer.term; granted = said.answer.success } in
      let same : value ≡ message = grant_is value message
      (sym (codec.vote_answers value (holds.written.answers said.answer inside)) ∙ (ap vote_answer_of (sym said.written ∙ one.its.payload) ∙ read)) in
      subst (λ (v : VoteAnswer). v.term ≤ top) same (answer_low said.answer said.from inside)

  -- what it says has no higher term than its maker has
  transfer_within : TellsWithin top d
  transfer_within = record {
    append_request = λ kind thirty message read. let l = within _ ((requests (one.its.kind ∙ kind)).appends thirty message read) in omega (arith, l, low);
    vote_request = λ kind first thirty message read. let l = within _ ((requests (one.its.kind ∙ kind)).votes first thirty message read) in omega
        (arith, l, low);
    append_answer = λ kind thirty. appended (is_append one.whose.offer.what (one.its.kind ∙ kind) (one.its.number ∙ thirty));
    vote_answer = λ kind first thirty. voted (is_vote one.whose.offer.what (one.its.kind ∙ kind)
        (λ e. first (sym one.its.number ∙ e)) (λ e. thirty (sym one.its.number ∙ e)));
  }

-- ---- a frame of a party of the group

-- a member of the group sent it, or some device
abbrev pub IsOfGroup : List Party → Queued → Type 0
IsOfGroup group frame = ((p : ℕ) × In (OfMember p) group × IsOf p frame) ⊎ IsAnonymous frame

-- the world is that of a run of the Raft model, in which what was said has no higher term than its maker
pub record IsOfRun (w : Cluster) : Type 0 where
  pub choice : ℕ → Bool
  pub made : List SentTransfer
  pub run : raft.World
  pub shows : Shows choice made w run
  pub within : AreWithin run

-- messages, and what has no source, tell no term
tells_none : (top : ℕ) (d : Delivery) → (d.ident.kind ≡ RequestKind → ⊥) → (d.ident.kind ≡ Response → ⊥) → TellsWithin top d
tells_none top d a b = record {
  append_request = λ kind thirty message read. absurd (a kind);
  vote_request = λ kind first thirty message read. absurd (a kind);
  append_answer = λ kind thirty message read. absurd (b kind);
  vote_answer = λ kind first thirty message read. absurd (b kind);
}

or_first : (a b : Bool) → a ≡ true → (a || b) ≡ true
or_first true b e = e
or_first false b e = absurd (cc (e))

module _ (frame : FrameLaws) (codec : CodecLaws) (w : Cluster) (shown : IsOfRun w)
    (one_transfer : (n k ms : ℕ) (d : Delivery) → DoesNoHarm w (Rx n k ms) → IsDeliveredTo w n k ms d → IsOneTransfer shown.made shown.run.bag n d)
    (group : List Party) (listed : (p : ℕ) → In (OfMember p) group → In p w.ids) (nodes : (p : ℕ) → In (OfMember p) group → (1 ≤ p) × (p ≤ 125)) (top : ℕ)
    (low : (p : ℕ) → In (OfMember p) group → (t : AllocatorState) × ((w.member p).status ≡ Up t) × (t.raft_server.store.term ≤ top)) where
  -- so it is in the run
  run_low : (p : ℕ) → In (OfMember p) group → (shown.run.server p).store.term ≤ top
  run_low p i =
      let its = low p i in
      let up : ShowsUp shown.made w.ids w.frames shown.run p its.0 (w.member p).disk =
      subst (λ (status : MemberStatus). ShowsMember shown.choice shown.made w.ids w.frames shown.run p status (w.member p).disk) its.1
      (shown.shows.lives p (listed p i)) in
      let e = ap (λ (s : RaftServer). s.store.term) up.runs.raft_server in
      let l = its.2 in
      omega (arith, e, l)

  module _ (m k ms : ℕ) (server : AllocatorState) (runs : (w.member m).status ≡ Up server) (harm : DoesNoHarm w (Rx m k ms)) (d : Delivery)
      (gives : answer (setting_for server.me) server.sessions (at_step (at_moment ms server) (arrival_at (frame_at w.frames k) ms)) ≡ Gives d) where
    -- the frame has the identifier of what is delivered
    reads : identifier_of (frame_at w.frames k).id ≡ Some d.ident
    reads = (is_wanted frame server.me server.sessions (at_step (at_moment ms server) (arrival_at (frame_at w.frames k) ms)) d gives).read

    of_member : (p : ℕ) → In (OfMember p) group → d.ident.source ≡ p → is_forged w.ids (Some d.ident) ≡ true → TellsWithin top d
    of_member p i source forged = transfer_within codec w.ids shown.made shown.run shown.shows.holds shown.within m top d
        (one_transfer m k ms d harm (record { server = server; runs = runs; gives = gives; member = forged }))
        (subst (λ (n : ℕ). (shown.run.server n).store.term ≤ top) (sym source) (run_low p i))

    by_kind : (p : ℕ) → In (OfMember p) group → d.ident.source ≡ p → (kind : Kind) → d.ident.kind ≡ kind → TellsWithin top d
    by_kind p i source Anonymous is = tells_none top d (λ e. cc (sym is ∙ e)) (λ e. cc (sym is ∙ e))
    by_kind p i source Broadcast is = tells_none top d (λ e. cc (sym is ∙ e)) (λ e. cc (sym is ∙ e))
    by_kind p i source RequestKind is = of_member p i source (ap (λ (kind : Kind). is_forged_by w.ids kind d.ident) is
        ∙ or_first (is_member w.ids d.ident.source) (is_of_members RequestKind d.ident.number) (ap (is_member w.ids) source ∙ is_any w.ids p (listed p i)))
    by_kind p i source Response is = of_member p i source (ap (λ (kind : Kind). is_forged_by w.ids kind d.ident) is
        ∙ or_first (is_member w.ids d.ident.source) (is_of_members Response d.ident.number) (ap (is_member w.ids) source ∙ is_any w.ids p (listed p i)))

    -- what the frame completes tells no higher term
    pub tells_within : IsOfGroup group (frame_at w.frames k) → TellsWithin top d
    tells_within (inl (p, i, is)) =
        let node = nodes p i in
        let same : d.ident ≡ ident_of p is.what is.to = some_ident d.ident (ident_of p is.what is.to)
        (sym reads ∙ (ap identifier_of is.id ∙ frame.ident_read (ident_of p is.what is.to) (ident_ok p is.what is.to node.0 node.1 is.dest))) in
        by_kind p i (ap (λ (ident : Ident). ident.source) same) d.ident.kind refl
    tells_within (inr is) =
        let kind : d.ident.kind ≡ Anonymous = ap (λ (ident : Ident). ident.kind) (some_ident d.ident is.ident (sym reads ∙ is.read)) ∙ is.kind in
        tells_none top d (λ e. cc (sym kind ∙ e)) (λ e. cc (sym kind ∙ e))
