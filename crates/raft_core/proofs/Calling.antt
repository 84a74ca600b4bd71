-- The calls that a member owes.
use Rattle.std.proofs.Common.{◌≡◌, ◌⊎◌, inl, inr, ℕ, zero, suc, ◌<◌, ◌≤◌, ◌+◌, ◌-◌, Bool, true, false, List, length, Option, Some, None, refl, sym, ap, subst, ◌∙◌, arith}
use Rattle.std.specs.Prelude.{◌||◌, nat_le, nat_lt, slice_index_or, if◌then◌else◌}
use Rattle.std.proofs.Math.Bool.{or-true}
use Rattle.std.proofs.lemmas.Bool.Decides.{nat_tests}
use Rattle.can_frame.specs.declared.entry.Entry.{Entry}
use Rattle.can_frame.specs.Log.{blank, entry_at}
use Rattle.can_frame.specs.declared.step.Role.TheVariants.{Leader}
use Rattle.dsdl_codec.specs.declared.append_request.AppendRequest.{AppendRequest}
use Rattle.dsdl_codec.specs.declared.vote_request.VoteRequest.{VoteRequest}
use Rattle.raft_log.specs.Stored.{Stored}
use Rattle.raft_model.specs.Messages.{Request, items}
use Rattle.raft_model.specs.Moves.Leading.{append_request, entry_after}
use Rattle.raft_model.specs.Moves.Move.{CallForVote, CallToAppend}
use Rattle.raft_model.specs.Server.{RaftServer, Store, Role as ModelRole}
use Rattle.raft_core.specs.declared.calls.Call.TheVariants.{Vote, Append}
use Rattle.raft_core.specs.declared.peer.Peer.{Peer}
use Rattle.raft_core.specs.declared.raft.Raft.{Raft}
use Rattle.raft_core.specs.Calls.{Owes, SaysAppend, due, due_unless, owed}
use Rattle.raft_core.specs.Fits.{Fits, IsWithin}
use Rattle.raft_core.specs.Peers.{fresh}
use Rattle.raft_core.specs.Requests.{append_call}
use Rattle.raft_core.specs.Stands.{Waits, role_of}
use Rattle.raft_core.specs.StoredPuts.{store_of}
use Rattle.raft_core.specs.Times.{Sending, Times, is_silent}
use Rattle.raft_core.proofs.Moving.{leads}
use Rattle.raft_core.proofs.SomeServer.{server_for, stands_for, times_for}

-- ---- what an append call says

-- the entry at a place, where there is one, is the entry after the place before
same_entry : (log : List Entry) (next : ℕ) → 1 ≤ next → (if nat_le next (length log) then Some (entry_at log next) else None) ≡ entry_after log (next - 1) true
same_entry log zero least = absurd (omega arith)
same_entry log (suc k) least =
    let before : suc k - 1 ≡ k = omega arith in
    let test : nat_le (suc k) (length log) ≡ nat_lt k (length log) = grind (arith, nat_tests) in
    rw (before, test) refl

says_append : (state : Stored) (s : Store) (m n q next previous : ℕ) → s ≡ store_of state → previous ≡ next - 1 → 1 ≤ next → SaysAppend (append_call state next) (append_request m n s q previous true)
says_append state s m n q next previous store before least =
    subst (λ (z : Store). SaysAppend (append_call state next) (append_request m n z q previous true)) (sym store)
    (subst (λ (k : ℕ). SaysAppend (append_call state next) (append_request m n (store_of state) q k true)) (sym before)
    (record { term = refl; previous_term = refl; previous = refl; commit = refl; entry = same_entry state.log next least }))

-- ---- when it is owed

nothing_waits : (r : Option Request) (s : Option Sending) → Waits None r s → r ≡ None
nothing_waits None s h = refl
nothing_waits (Some r) s h = absurd h

-- what a Leader has to say: an entry that the peer has not, or that it leads
abbrev HasToSay : Peer → ℕ → ℕ → Type 0
HasToSay peer last now = (peer.next ≤ last) ⊎ (is_silent peer.appended now ≡ true)

has_to_say : (peer : Peer) (last now : ℕ) → HasToSay peer last now → (nat_le peer.next last || is_silent peer.appended now) ≡ true
has_to_say peer last now (inl behind) = let test : nat_le peer.next last ≡ true = grind (arith, nat_tests) in rw test refl
has_to_say peer last now (inr silent) = rw silent (or-true (nat_le peer.next last))

module _ (raft : Raft) (state : Stored) (q now : ℕ) (below : q < 128) where
  abbrev kept : Peer
  kept = slice_index_or raft.peers q (fresh 0)

  pub owes_append : raft.role ≡ Leader → kept.call ≡ None → 1 ≤ kept.next → HasToSay kept (length state.log) now → Owes raft state q now (Append (append_call state kept.next))
  owes_append leads no_call least say = λ members n p t st.
      let role : p.memory.role ≡ ModelRole.Leader = st.role ∙ ap role_of leads in
      let tells = st.peers q (fresh 0) below in
      let free : p.memory.pending q ≡ None = nothing_waits (p.memory.pending q) (t.sending q) (subst (λ c. Waits c (p.memory.pending q) (t.sending q)) no_call tells.call) in
      let said : (nat_le (p.memory.next q) (length p.store.log) || is_silent (t.appended q) now) ≡ true = rw (tells.next role, tells.appended role, st.store) (has_to_say kept (length state.log) now say) in
      let is_owed : owed p t q now ≡ Some (CallToAppend q (p.memory.next q - 1) true) = rw (free, role, said) refl in
      (CallToAppend q (p.memory.next q - 1) true, is_owed, (p.memory.next q - 1, refl, says_append state p.store raft.me n q kept.next (p.memory.next q - 1) st.store (ap (λ (k : ℕ). k - 1) (tells.next role)) least))

-- ---- what was owed

no_vote : (b : Bool) (q previous : ℕ) (with_entry : Bool) → (if b then None else Some (CallForVote q)) ≡ Some (CallToAppend q previous with_entry) → ⊥
no_vote true q previous with_entry h = cc h
no_vote false q previous with_entry h = cc h

no_append : (b : Bool) (q previous : ℕ) (with_entry : Bool) → (if b then Some (CallToAppend q previous with_entry) else None) ≡ Some (CallForVote q) → ⊥
no_append true q previous with_entry h = cc h
no_append false q previous with_entry h = cc h

same_previous : (b : Bool) (q k previous : ℕ) (x y : Bool) → (if b then Some (CallToAppend q k x) else None) ≡ Some (CallToAppend q previous y) → previous ≡ k
same_previous true q k previous x y h = cc h
same_previous false q k previous x y h = absurd (cc h)

-- a call to append is a Leader's, with the place before the one that the peer is sent next
append_was_due : (waits : Option Request) (role : ModelRole) (p : RaftServer) (t : Times) (q now previous : ℕ) → due_unless waits (due role p t q now) ≡ Some (CallToAppend q previous true)
    → (role ≡ ModelRole.Leader) × (previous ≡ p.memory.next q - 1)
append_was_due (Some r) role p t q now previous h = absurd (cc h)
append_was_due None ModelRole.Follower p t q now previous h = absurd (cc h)
append_was_due None ModelRole.Candidate p t q now previous h = absurd (no_vote (t.answered q) q previous true h)
append_was_due None ModelRole.Leader p t q now previous h =
    (refl, same_previous (nat_le (p.memory.next q) (length p.store.log) || is_silent (t.appended q) now) q (p.memory.next q - 1) previous true true h)

-- a call for a vote is no Leader's
vote_was_due : (waits : Option Request) (role : ModelRole) (p : RaftServer) (t : Times) (q now : ℕ) → due_unless waits (due role p t q now) ≡ Some (CallForVote q) → role ≡ ModelRole.Leader → ⊥
vote_was_due (Some r) role p t q now h leader = absurd (cc h)
vote_was_due None ModelRole.Follower p t q now h leader = absurd (cc leader)
vote_was_due None ModelRole.Candidate p t q now h leader = absurd (cc leader)
vote_was_due None ModelRole.Leader p t q now h leader =
    no_append (nat_le (p.memory.next q) (length p.store.log) || is_silent (t.appended q) now) q (p.memory.next q - 1) true h

-- what it reaches lies in the log
reach_within : (log : List Entry) (next : ℕ) → next ≤ length log + 1 → (b : Bool) → nat_lt (next - 1) (length log) ≡ b
    → (next - 1) + items (if b then Some (slice_index_or log (next - 1) (blank 0)) else None) ≤ length log
reach_within log next most true less = let below : next - 1 < length log = grind (arith, nat_tests) in omega arith
reach_within log next most false less = omega arith

module _ (raft : Raft) (state : Stored) (q now : ℕ) (below : q < 128) where
  abbrev peer : Peer
  peer = slice_index_or raft.peers q (fresh 0)

  pub vote_owed : (request : VoteRequest) → Owes raft state q now (Vote request) → raft.role ≡ Leader → ⊥
  vote_owed request owes leads =
      let told = owes raft.members.items 0 (server_for raft state) (times_for raft) (stands_for raft state) in
      vote_was_due _ (role_of raft.role) (server_for raft state) (times_for raft) q now (told.1 ∙ ap Some told.2.0) (ap role_of leads)

  pub append_owed : (request : AppendRequest) → Owes raft state q now (Append request) → Fits raft state → (request.prev_index ≤ length state.log) × (request.prev_index + items request.entry ≤ length state.log)
  append_owed request owes fits =
      let told = owes raft.members.items 0 (server_for raft state) (times_for raft) (stands_for raft state) in
      let due = append_was_due _ (role_of raft.role) (server_for raft state) (times_for raft) q now told.2.0 (told.1 ∙ ap Some told.2.1) in
      let within : IsWithin peer (length state.log) = fits.peers (leads raft.role due.0) q (fresh 0) below in
      let previous : request.prev_index ≡ peer.next - 1 = told.2.2.previous ∙ due.1 in
      let entry : request.entry ≡ entry_after state.log (peer.next - 1) true = told.2.2.entry ∙ ap (λ (k : ℕ). entry_after state.log k true) due.1 in
      let most = within.next in (
        omega (arith, previous, most),
        subst (λ (k : ℕ). k + items request.entry ≤ length state.log) (sym previous)
            (subst (λ (o : Option Entry). (peer.next - 1) + items o ≤ length state.log) (sym entry) (reach_within state.log peer.next most (nat_lt (peer.next - 1) (length state.log)) refl)),
      )
