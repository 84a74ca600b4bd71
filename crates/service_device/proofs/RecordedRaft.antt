-- A leader whose log may have entries left to commit: it leads with this log, and adds no blank.
use Rattle.std.proofs.Common.{◌≡◌, ℕ, ◌<◌, Bool, true, false, List, [], ◌∷◌, ◌++◌, sym, ◌∙◌, ap, arith, inl, inr}
use Rattle.std.specs.Prelude.{◌⊎◌, length, nat_lt, not, if◌then◌else◌}
use Rattle.can_frame.specs.declared.entry.Entry.{Entry}
use Rattle.can_frame.specs.Log.{last_term}
use Rattle.raft_core.specs.Handled.{is_moment}
use Rattle.raft_core.specs.Taken.{proposal}
use Rattle.raft_core.specs.Times.{Times}
use Rattle.raft_model.specs.Duty.{is_heard, takes_blank}
use Rattle.raft_model.specs.Handlers.{server_after}
use Rattle.raft_model.specs.Moves.{Move}
use Rattle.raft_model.specs.Moves.Elections.{is_leader}
use Rattle.raft_model.specs.Moves.Move.{CommitTo, ProposeEntry, TellNothing, TellPair}
use Rattle.raft_model.specs.Server.{RaftServer, Role}
use Rattle.alloc_spec_laws.proofs.Choices.{and_left, lt_true}
use Rattle.service_steps.proofs.Alone.{last_entry}
use Rattle.service_device.proofs.SettledRaft.{Anyone, IsOffice, IsStill, begins_with, ends_without, no_commit, stays_on}
use Rattle.service_leader.proofs.TermsRoles.{LeadsAt, leads_through}

-- the server leads in this term, with this log: it has committed the whole of it, or the last entry is of the term
pub record LeadsOnLog (top : ℕ) (log : List Entry) (server : RaftServer) : Type 0 where
  pub leads : LeadsAt top server
  pub log_is : server.store.log ≡ log
  pub no_blank : (server.store.commit ≡ length log) ⊎ (last_term log ≡ top)

module _ (top : ℕ) (log : List Entry) where
  committed_as : (a b : ℕ) → b ≡ a → (a ≡ length log) ⊎ (last_term log ≡ top) → (b ≡ length log) ⊎ (last_term log ≡ top)
  committed_as a b e (inl z) = inl (e ∙ z)
  committed_as a b e (inr z) = inr z

  whole_log : (server : RaftServer) → LeadsOnLog top log server → server.store.commit ≡ length log → server.store.commit ≡ length server.store.log
  whole_log server h all = all ∙ ap (λ (l : List Entry). length l) (sym h.log_is)

  commits_on : (members : List ℕ) (me : ℕ) (server : RaftServer) (index : ℕ) → (server.store.commit ≡ length server.store.log → ⊥) → LeadsOnLog top log server
      → (index ≡ length log) ⊎ (last_term log ≡ top)
  commits_on members me server index not_all h = elim h.no_blank [ inl z ↦ absurd (not_all (whole_log server h z)) | inr z ↦ inr z ]

  -- no moment for a blank comes while it leads and its last entry is of the term
  pub no_moment : (waits : Bool) (members : List ℕ) (me : ℕ) (before after : RaftServer) → before.memory.role ≡ Role.Leader → after.store.term ≡ top
      → last_term after.store.log ≡ top → (if waits then is_heard members me after else not (is_leader before.memory.role)) ≡ true → ⊥
  no_moment true members me before after leads term last e =
      let low : last_term after.store.log < after.store.term
      = lt_true (last_term after.store.log) after.store.term (and_left (nat_lt (last_term after.store.log) after.store.term) _ e) in
      omega (arith, low, term, last)
  no_moment false members me before after leads term last e = cc (sym (ap (λ (r : Role). not (is_leader r)) leads) ∙ e)

  adds_none : (members : List ℕ) (me : ℕ) (times : Times) (before after : RaftServer) → LeadsOnLog top log before → LeadsOnLog top log after
      → is_moment members me times before after ≡ true → takes_blank after.store ≡ true → ⊥
  adds_none members me times before after h k moment takes = elim k.no_blank [
    | inl z ↦
        let low : after.store.commit < length after.store.log
        = lt_true after.store.commit (length after.store.log) (and_left (nat_lt after.store.commit (length after.store.log)) _ takes) in
        omega (arith, low, whole_log after k z)
    | inr z ↦ no_moment times.waits members me before after h.leads.0 k.leads.1 (ap (λ (l : List Entry). last_term l) k.log_is ∙ z) moment
  ]

  -- a move leaves it so
  still_on : (members : List ℕ) (me number : ℕ) (server : RaftServer) (move : Move) → IsStill top server move → LeadsOnLog top log server
      → LeadsOnLog top log (server_after members me number server move)
  still_on members me number server move is h = let s = stays_on top members me number server move is h.leads in
      record { leads = s.leads; log_is = s.log_is ∙ h.log_is; no_blank = committed_as _ _ s.committed h.no_blank }

  -- who leads so is in office
  pub log_office : IsOffice top log (LeadsOnLog top log) Anyone
  log_office = record {
    leads = λ server h. h.leads;
    log_is = λ server h. begins_with log server.store.log h.log_is;
    still = λ members me number server move is quiet h. still_on members me number server move is h;
    calls = λ members me number times server move sees is h.
        let after : LeadsOnLog top log (server_after members me number server move) = still_on members me number server move is h in
        ends_without (LeadsOnLog top log) members me number times server move after
        (adds_none members me times server (server_after members me number server move) h after);
    commits = λ members me number server index e h. record {
      leads = leads_through top members me number server (CommitTo index) tt h.leads;
      log_is = h.log_is;
      no_blank = commits_on members me server index (λ all. no_commit members me server index all e) h;
    };
    tells = λ members me number server e h.
        record { leads = leads_through top members me number server TellPair tt h.leads; log_is = h.log_is; no_blank = h.no_blank };
    passes = λ members me number server e h.
        record { leads = leads_through top members me number server TellNothing tt h.leads; log_is = h.log_is; no_blank = h.no_blank };
  }

  -- with an entry more that it proposes
  pub leads_longer : (members : List ℕ) (me number : ℕ) (server : RaftServer) (uid : List ℕ) (node : ℕ) → LeadsAt top server → server.store.log ≡ log
      → LeadsOnLog top (log ++ proposal top uid node ∷ []) (server_after members me number server (ProposeEntry (proposal server.store.term uid node)))
  leads_longer members me number server uid node leads log_is = record {
    leads = leads_through top members me number server (ProposeEntry (proposal server.store.term uid node)) tt leads;
    log_is = λ i. log_is i ++ proposal (leads.1 i) uid node ∷ [];
    no_blank = inr (ap (λ (e : Entry). e.term) (last_entry log (proposal top uid node)));
  }
