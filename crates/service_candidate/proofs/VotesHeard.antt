-- What a member hears of a party of its group asks for a vote in this term for c alone, where the others of the group
-- are free to vote for c.
use Rattle.std.proofs.Common.{◌≡◌, ◌≢◌, ℕ, ◌≤◌, Bool, true, false, List, refl, sym, ◌∙◌, ap, subst, arith, inl, inr, Option, None, Some}
use Rattle.std.specs.Prelude.{◌||◌}
use Rattle.std.proofs.lemmas.Bool.Decides.{eqb_tells}
use Rattle.can_frame.specs.declared.identifier.Ident.{Ident}
use Rattle.can_frame.specs.declared.identifier.Kind.{Kind}
use Rattle.can_frame.specs.declared.identifier.Kind.TheVariants.{Request as RequestKind}
use Rattle.can_frame.specs.Identifier.{identifier_of}
use Rattle.dsdl_codec.specs.declared.vote_request.VoteRequest.{VoteRequest}
use Rattle.dsdl_codec.specs.VoteRequest.{vote_request_of}
use Rattle.raft_core.specs.Handled as handled
use Rattle.raft_model.specs.Invariants.{Invariants, IsBound}
use Rattle.raft_model.specs.Lists.{In}
use Rattle.raft_model.specs.Server.{RaftServer}
use Rattle.bus_rows.specs.declared.row.Row.TheVariants.{Rx}
use Rattle.transfer_rx.specs.Reassembly.{Delivery, Gives, answer}
use Rattle.alloc_spec.specs.Accepted.{is_of_members, setting_for}
use Rattle.alloc_spec.specs.AllocatorState.{AllocatorState}
use Rattle.alloc_spec.specs.Step.{at_moment, at_step}
use Rattle.alloc_spec.specs.Transfers.{ident_of}
use Rattle.bus_agreement.specs.LawsBelow.{CodecLaws, FrameLaws}
use Rattle.bus_agreement.specs.Safe.{IsDeliveredTo, IsOneTransfer}
use Rattle.bus_agreement.specs.Shows.{ShowsMember, ShowsUp}
use Rattle.bus_agreement.proofs.Idents.{ident_ok}
use Rattle.service_leader.proofs.HeardIdents.{is_wanted}
use Rattle.bus_agreement.proofs.Lists.{is_any}
use Rattle.bus_agreement.proofs.TakenMessages.{requests_from}
use Rattle.service_calm.specs.Calm.{Member as OfMember, Party}
use Rattle.service_calm.proofs.Others.{some_ident}
use Rattle.service_leader.proofs.TermsHeard.{IsOfGroup, IsOfRun}
use Rattle.service_candidate.proofs.TermsSteps.{AsksFor, IsFree}
use Rattle.bus_spec.specs.Cluster.{Cluster, arrival_at, frame_at, is_member}
use Rattle.bus_spec.specs.Lawful.{DoesNoHarm, is_forged, is_forged_by}
use Rattle.bus_spec.specs.Members.{MemberStatus}
use Rattle.bus_spec.specs.Members.MemberStatus.{Up}

-- the world is that of a run of the Raft model, for which its invariants hold
pub record IsOfSafeRun (w : Cluster) : Type 0 where
  pub heard : IsOfRun w
  pub invariants : Invariants heard.run

or_first : (a b : Bool) → a ≡ true → (a || b) ≡ true
or_first true b e = e
or_first false b e = absurd (cc (e))

no_vote : (candidate : ℕ) → ◌≡◌ {A = Option ℕ} None (Some candidate) → ⊥
no_vote candidate e = cc (e)

one_vote : (x y : ℕ) → Some x ≡ Some y → x ≡ y
one_vote x y e = cc (e)

-- who is free to vote for c, and within the term, did not stand in it, unless it is c
stood_not : (c term p : ℕ) (server : RaftServer) → server.store.term ≤ term → IsFree c term server → IsBound server.store p term → p ≡ c
stood_not c term p server low free (inl above) = absurd (omega (arith, low, above))
stood_not c term p server low (inl below) (inr (same, vote)) = absurd (omega (arith, below, same))
stood_not c term p server low (inr (here, role, inl none)) (inr (same, vote)) = absurd (no_vote p (sym none ∙ vote))
stood_not c term p server low (inr (here, role, inr own)) (inr (same, vote)) = one_vote p c (sym vote ∙ own)

module _ (frame : FrameLaws) (codec : CodecLaws) (w : Cluster) (safe : IsOfSafeRun w)
    (one_transfer : (n k ms : ℕ) (d : Delivery) → DoesNoHarm w (Rx n k ms) → IsDeliveredTo w n k ms d
    → IsOneTransfer safe.heard.made safe.heard.run.bag n d)
    (group : List Party) (listed : (p : ℕ) → In (OfMember p) group → In p w.ids) (nodes : (p : ℕ) → In (OfMember p) group → (1 ≤ p) × (p ≤ 125))
    (c top : ℕ)
    (low : (p : ℕ) → In (OfMember p) group → (t : AllocatorState) × ((w.member p).status ≡ Up t) × (t.raft_server.store.term ≤ top))
    (free : (p : ℕ) → In (OfMember p) group → p ≢ c → (t : AllocatorState) → (w.member p).status ≡ Up t → IsFree c top t.raft_server) where
  -- no other member of the group than c stood in this term
  none_stood : (p : ℕ) → In (OfMember p) group → p ≢ c → IsBound (safe.heard.run.server p).store p top → ⊥
  none_stood p i apart bound =
      let its = low p i in
      let up : ShowsUp safe.heard.made w.ids w.frames safe.heard.run p its.0 (w.member p).disk
      = subst (λ (status : MemberStatus). ShowsMember safe.heard.choice safe.heard.made w.ids w.frames safe.heard.run p status (w.member p).disk) its.1
      (safe.heard.shows.lives p (listed p i)) in
      apart (stood_not c top p its.0.raft_server its.2 (free p i apart its.0 its.1)
      (subst (λ (s : RaftServer). IsBound s.store p top) up.runs.raft_server bound))

  module _ (m k ms : ℕ) (server : AllocatorState) (runs : (w.member m).status ≡ Up server) (harm : DoesNoHarm w (Rx m k ms)) (d : Delivery)
      (gives : answer (setting_for server.me) server.sessions (at_step (at_moment ms server) (arrival_at (frame_at w.frames k) ms)) ≡ Gives d) where
    -- the frame has the identifier of what it completes
    reads : identifier_of (frame_at w.frames k).id ≡ Some d.ident
    reads = (is_wanted frame server.me server.sessions (at_step (at_moment ms server) (arrival_at (frame_at w.frames k) ms)) d gives).read

    module _ (kind : d.ident.kind ≡ RequestKind) (first : d.ident.number ≢ 1) (thirty : d.ident.number ≢ 30) (message : VoteRequest)
        (read : vote_request_of d.payload ≡ Some message) (in_term : message.term ≡ top) where
      -- the request was made by a member that stood in its term
      bound_of : (p : ℕ) → In (OfMember p) group → d.ident.source ≡ p → IsBound (safe.heard.run.server p).store p top
      bound_of p i source =
          let forged : is_forged w.ids (Some d.ident) ≡ true = ap (λ (k : Kind). is_forged_by w.ids k d.ident) kind
          ∙ or_first (is_member w.ids d.ident.source) (is_of_members RequestKind d.ident.number) (ap (is_member w.ids) source ∙ is_any w.ids p (listed p i)) in
          let one = one_transfer m k ms d harm (record { server = server; runs = runs; gives = gives; member = forged }) in
          let asked = (requests_from codec w.ids safe.heard.made safe.heard.run.bag safe.heard.shows.holds.said safe.heard.shows.holds.written d.ident.dest d
          one.whose one.was_made one.its refl (one.its.kind ∙ kind)).votes first thirty message read in
          let candidacy = safe.invariants.calls.requests (handled.vote_request_of message d.mark.step d.ident.source d.ident.dest) asked refl in
          subst (λ (n : ℕ). IsBound (safe.heard.run.server n).store n top) (candidacy.2 ∙ source)
          (subst (IsBound (safe.heard.run.server candidacy.0.candidate).store candidacy.0.candidate) (candidacy.3 ∙ in_term)
          (safe.invariants.votes.stood candidacy.0 candidacy.1))

      -- so it is of c
      of_member : (p : ℕ) → In (OfMember p) group → d.ident.source ≡ p → d.ident.source ≡ c
      of_member p i source = elim (eqb_tells p c) [
        | inl z ↦ source ∙ z.1
        | inr z ↦ absurd (none_stood p i z.1 (bound_of p i source))
      ]

      -- whichever party of the group sent it
      asks : IsOfGroup group (frame_at w.frames k) → d.ident.source ≡ c
      asks (inl (p, i, is)) =
          let node = nodes p i in
          let same : d.ident ≡ ident_of p is.what is.to = some_ident d.ident (ident_of p is.what is.to)
          (sym reads ∙ (ap identifier_of is.id ∙ frame.ident_read (ident_of p is.what is.to) (ident_ok p is.what is.to node.0 node.1 is.dest))) in
          of_member p i (ap (λ (ident : Ident). ident.source) same)
      asks (inr is) =
          let none = ap (λ (ident : Ident). ident.kind) (some_ident d.ident is.ident (sym reads ∙ is.read)) ∙ is.kind in
          absurd (cc (sym kind ∙ none))

    -- so a vote request of this term that comes of the group is of c
    pub asks_for : IsOfGroup group (frame_at w.frames k) → AsksFor c top d
    asks_for of_group kind first thirty message read in_term = asks kind first thirty message read in_term of_group
