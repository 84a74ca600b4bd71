-- A call that was owed is made.
use Rattle.std.proofs.Common.{◌≡◌, ◌≢◌, ℕ, ◌+◌, ◌<◌, ◌≤◌, true, List, length, Option, Some, refl, sym, ap, subst, ◌∙◌}
use Rattle.std.specs.Prelude.{slice_index_or, slice_set}
use Rattle.can_frame.specs.declared.entry.Entry.{Entry}
use Rattle.can_frame.specs.declared.step.Role.TheVariants.{Leader}
use Rattle.raft_log.specs.Stored.{Stored}
use Rattle.raft_model.specs.Handlers.{server_after}
use Rattle.raft_model.specs.Lists.{at}
use Rattle.raft_model.specs.Messages.{Request, items, reach}
use Rattle.raft_model.specs.Moves.{Move}
use Rattle.raft_model.specs.Moves.Leading.{append_request, vote_request}
use Rattle.raft_model.specs.Moves.Move.{CallForVote, CallToAppend}
use Rattle.raft_model.specs.Server.{RaftServer, Role as ModelRole}
use Rattle.raft_model.specs.Lists.{at_here, at_other}
use Rattle.raft_core.specs.declared.calls.Call.{Call}
use Rattle.raft_core.specs.declared.calls.Call.TheVariants.{Vote, Append}
use Rattle.raft_core.specs.declared.peer.Asked.{Asked}
use Rattle.raft_core.specs.declared.peer.Asked.TheVariants.{Vote as AskedVote, Append as AskedAppend}
use Rattle.raft_core.specs.declared.peer.Peer.{Peer}
use Rattle.raft_core.specs.declared.peer.Waiting.{Waiting}
use Rattle.raft_core.specs.declared.raft.Raft.{Raft}
use Rattle.raft_core.specs.Calls.{Owes, Says, owed}
use Rattle.raft_core.specs.Fits.{AsksUpTo, Fits, IsWithin}
use Rattle.raft_core.specs.Peers.{fresh}
use Rattle.raft_core.specs.Stands.{Asks, StandsFor, Tells, Waits, role_of}
use Rattle.raft_core.specs.Times.{Sending, Times, given_call, times_after}
use Rattle.raft_core.proofs.Calling.{append_owed, vote_owed}
use Rattle.raft_core.proofs.Peers.{one_changed}

-- what is kept of the peer, but for the call, and what the call asks for
abbrev pub IsMade : Call → Peer → Peer → Asked → ℕ → Type 0
IsMade (Vote request) old kept asked now = (kept ≡ old) × (asked ≡ AskedVote)
IsMade (Append request) old kept asked now = (kept ≡ record old { appended = Some now }) × (asked ≡ AskedAppend (request.prev_index + items request.entry))

abbrev with_call : Peer → Waiting → Peer
with_call kept call = record kept { call = Some call }

-- the server and the times with a call to the node q
abbrev with_pending : RaftServer → ℕ → Request → RaftServer
with_pending p q r = record p { memory = record p.memory { pending = at p.memory.pending q (Some r) } }

abbrev with_sending : Times → ℕ → Sending → (ℕ → Option ℕ) → Times
with_sending t q sending appended = record t { sending = at t.sending q (Some sending); appended = appended }

-- ---- it stands for the server that made the call

module _ (p : RaftServer) (t : Times) (q : ℕ) (r : Request) (call : Waiting) (appended : ℕ → Option ℕ) where
  abbrev p2 : RaftServer
  p2 = with_pending p q r

  abbrev t2 : Times
  t2 = with_sending t q (record { id = call.id; moment = call.sent }) appended

  tells_other : (i : ℕ) (peer : Peer) → i ≢ q → appended i ≡ t.appended i → Tells peer p t i → Tells peer p2 t2 i
  tells_other i peer differs same tells = record {
    call = subst (λ x. Waits peer.call x (t2.sending i)) (sym (at_other p.memory.pending q i (Some r) differs))
        (subst (λ x. Waits peer.call (p.memory.pending i) x) (sym (at_other t.sending q i (Some (record { id = call.id; moment = call.sent })) differs)) tells.call);
    voted = tells.voted;
    answered = tells.answered;
    next = tells.next;
    matched = tells.matched;
    appended = λ leader. same ∙ tells.appended leader;
  }

  tells_called : (old kept : Peer) → kept ≡ record old { appended = kept.appended } → Asks call.asked r → r.step ≡ call.step
      → (p.memory.role ≡ ModelRole.Leader → appended q ≡ kept.appended) → Tells old p t q → Tells (with_call kept call) p2 t2 q
  tells_called old kept same asks step when tells = record {
    call = subst (λ x. Waits (Some call) x (t2.sending q)) (sym (at_here p.memory.pending q q (Some r) refl))
        (subst (λ x. Waits (Some call) (Some r) x) (sym (at_here t.sending q q (Some (record { id = call.id; moment = call.sent })) refl)) (record { asks = asks; step = step; id = refl; moment = refl }));
    voted = λ candidate. tells.voted candidate ∙ sym (ap (λ (x : Peer). x.voted) same);
    answered = λ candidate. tells.answered candidate ∙ sym (ap (λ (x : Peer). x.answered) same);
    next = λ leader. tells.next leader ∙ sym (ap (λ (x : Peer). x.next) same);
    matched = λ leader. tells.matched leader ∙ sym (ap (λ (x : Peer). x.matched) same);
    appended = when;
  }

-- the same member, with this kept of the peer q
pub record Keeps (raft raft2 : Raft) (q : ℕ) (peer : Peer) : Type 0 where
  pub role : raft2.role ≡ raft.role
  pub told : raft2.told ≡ raft.told
  pub me : raft2.me ≡ raft.me
  pub known : raft2.members ≡ raft.members
  pub since : raft2.since ≡ raft.since
  pub word : raft2.word ≡ raft.word
  pub waits : raft2.waits ≡ raft.waits
  pub peers : raft2.peers ≡ slice_set raft.peers q peer

same_move : (x : Option Move) (a b : Move) → x ≡ Some a → x ≡ Some b → a ≡ b
same_move x a b is_a is_b = cc

module _ (raft raft2 : Raft) (state : Stored) (q : ℕ) (below : q < 128) (kept : Peer) (call : Waiting) (keeps : Keeps raft raft2 q (with_call kept call)) where
  abbrev old : Peer
  old = slice_index_or raft.peers q (fresh 0)

  within : q < length raft.peers
  within = subst (λ (n : ℕ). q < n) (sym raft.table) below

  but_appended : (appended : Option ℕ) → kept ≡ record old { appended = appended } → kept ≡ record old { appended = kept.appended }
  but_appended appended is = is ∙ ap set_appended (sym (ap (λ (x : Peer). x.appended) is))
    where
      set_appended : Option ℕ → Peer
      set_appended x = record old { appended = x }

  module _ (members : List ℕ) (p : RaftServer) (t : Times) (st : StandsFor raft members state p t) where
    with_call_stands : (r : Request) (appended : ℕ → Option ℕ) → kept ≡ record old { appended = kept.appended } → Asks call.asked r → r.step ≡ call.step
        → (p.memory.role ≡ ModelRole.Leader → appended q ≡ kept.appended) → ((i : ℕ) → i ≢ q → appended i ≡ t.appended i)
        → StandsFor raft2 members state (with_pending p q r) (with_sending t q (record { id = call.id; moment = call.sent }) appended)
    with_call_stands r appended same asks step when others = record {
      store = st.store;
      role = st.role ∙ ap role_of (sym keeps.role);
      told = st.told ∙ sym keeps.told;
      known = λ other. ap (λ x. x.items) keeps.known ∙ st.known (λ follower. other (keeps.role ∙ follower));
      since = st.since ∙ sym keeps.since;
      word = st.word ∙ sym keeps.word;
      waits = st.waits ∙ sym keeps.waits;
      peers = λ i d lower. subst (λ (peers : List Peer). Tells (slice_index_or peers i d) (with_pending p q r) (with_sending t q (record { id = call.id; moment = call.sent }) appended) i) (sym keeps.peers)
          (one_changed (λ j peer. Tells peer (with_pending p q r) (with_sending t q (record { id = call.id; moment = call.sent }) appended) j) raft.peers q (with_call kept call) within
          (tells_called p t q r call appended old kept same asks step when (st.peers q (fresh 0) below))
          (λ j e small differs. tells_other p t q r call appended j (slice_index_or raft.peers j e) differs (others j differs) (st.peers j e small)) i d lower);
    }

    -- after the move that was owed
    pub called_stands : (m : ℕ) (what : Call) → IsMade what old kept call.asked call.sent → (said : Move) × (owed p t q call.sent ≡ Some said) × Says m call.step p q what said
        → (move : Move) → owed p t q call.sent ≡ Some move → StandsFor raft2 members state (server_after members m call.step p move) (times_after members m (given_call call.sent call.id) p move t)
    called_stands m (Vote request) made owes move due =
        let is : move ≡ CallForVote q = same_move (owed p t q call.sent) move owes.0 due owes.1 ∙ owes.2.0 in
        let r : Request = vote_request m call.step p.store q in
        subst (λ (x : Move). StandsFor raft2 members state (server_after members m call.step p x) (times_after members m (given_call call.sent call.id) p x t)) (sym is)
        (with_call_stands r t.appended (but_appended old.appended made.0) (subst (λ (a : Asked). Asks a r) (sym made.1) refl) refl
        (λ leader. (st.peers q (fresh 0) below).appended leader ∙ sym (ap (λ (x : Peer). x.appended) made.0)) (λ i differs. refl))
    called_stands m (Append request) made owes move due =
        let says = owes.2 in
        let is : move ≡ CallToAppend q says.0 true = same_move (owed p t q call.sent) move owes.0 due owes.1 ∙ says.1 in
        let r : Request = append_request m call.step p.store q says.0 true in
        let reaches : reach r ≡ request.prev_index + items request.entry = ap (λ (k : ℕ). k + items r.entry) (sym says.2.previous) ∙ ap (λ (o : Option Entry). request.prev_index + items o) (sym says.2.entry) in
        subst (λ (x : Move). StandsFor raft2 members state (server_after members m call.step p x) (times_after members m (given_call call.sent call.id) p x t)) (sym is)
        (with_call_stands r (at t.appended q (Some call.sent)) (but_appended (Some call.sent) made.0) (subst (λ (a : Asked). Asks a r) (sym made.1) (refl, reaches)) refl
        (λ leader. at_here t.appended q q (Some call.sent) refl ∙ sym (ap (λ (x : Peer). x.appended) made.0)) (λ i differs. at_other t.appended q i (Some call.sent) differs))

  -- ---- and it fits what is stored

  called_reaches : (what : Call) → IsMade what old kept call.asked call.sent → Owes raft state q call.sent what → Fits raft state → raft.role ≡ Leader → AsksUpTo (length state.log) call.asked
  called_reaches (Vote request) made owes fits leads = absurd (vote_owed raft state q call.sent below request owes leads)
  called_reaches (Append request) made owes fits leads = subst (AsksUpTo (length state.log)) (sym made.1) (append_owed raft state q call.sent below request owes fits).1

  called_same : (what : Call) → IsMade what old kept call.asked call.sent → kept ≡ record old { appended = kept.appended }
  called_same (Vote request) made = but_appended old.appended made.0
  called_same (Append request) made = but_appended (Some call.sent) made.0

  pub called_fits : (what : Call) → IsMade what old kept call.asked call.sent → Owes raft state q call.sent what → Fits raft state → Fits raft2 state
  called_fits what made owes fits = record {
    told = subst (λ (k : ℕ). k ≤ state.commit) (sym keeps.told) fits.told;
    vote = λ other. fits.vote (λ follower. other (keeps.role ∙ follower)) ∙ sym keeps.me;
    peers = λ leads i d lower.
        let leader : raft.role ≡ Leader = sym keeps.role ∙ leads in
        let was : IsWithin old (length state.log) = fits.peers leader q (fresh 0) below in
        let same = called_same what made in
        subst (λ (peers : List Peer). IsWithin (slice_index_or peers i d) (length state.log)) (sym keeps.peers)
        (one_changed (λ j peer. IsWithin peer (length state.log)) raft.peers q (with_call kept call) within
        (record {
          least = subst (λ (x : Peer). 1 ≤ x.next) (sym same) was.least;
          next = subst (λ (x : Peer). x.next ≤ length state.log + 1) (sym same) was.next;
          matched = subst (λ (x : Peer). x.matched ≤ length state.log) (sym same) was.matched;
          reach = called_reaches what made owes fits leader;
        })
        (λ j e small differs. fits.peers leader j e small) i d lower);
  }
