-- A leader that waits with its blank: its log stays until the blank comes behind it, and the blank comes in the step in
-- which a quorum is known to have the log.
use Rattle.std.proofs.Common.{◌≡◌, ℕ, ◌≤◌, ◌<◌, Bool, true, false, List, [], ◌∷◌, ◌++◌, length, append-nil, refl, sym, ◌∙◌, ap, subst, arith, inl, inr, Some}
use Rattle.std.specs.Prelude.{◌⊎◌, ◌&&◌, nat_eq, nat_le, nat_lt, not, if◌then◌else◌}
use Rattle.std.proofs.lemmas.Bool.{lt-ltb}
use Rattle.can_frame.specs.declared.entry.Entry.{Entry}
use Rattle.can_frame.specs.Log.{blank, last_term, log_limit}
use Rattle.raft_core.specs.Handled.{is_moment, with_blank}
use Rattle.raft_core.specs.Times.{Times}
use Rattle.raft_model.specs.Decisions.{can_commit, commit_index}
use Rattle.raft_model.specs.Duty.{is_heard, takes_blank}
use Rattle.raft_model.specs.Handlers.{server_after, server_after_all}
use Rattle.raft_model.specs.Log.{term_at}
use Rattle.raft_model.specs.Moves.{Move, memory_after}
use Rattle.raft_model.specs.Moves.Appending.{Verdict, append_memory}
use Rattle.raft_model.specs.Moves.Elections.{has_quorum, is_leader}
use Rattle.raft_model.specs.Moves.Leading.{has_matched}
use Rattle.raft_model.specs.Moves.Move.{AnswerAgain, CallForVote, CallToAppend, CommitTo, GiveUp, ProposeEntry, TakeAppendAnswer, TakeAppendRequest, TakeVoteAnswer, TakeVoteRequest, TellNothing, TellPair, TimeOut}
use Rattle.raft_model.specs.Server.{Memory, RaftServer}
use Rattle.raft_model.specs.Server.Role.{Leader}
use Rattle.alloc_spec_laws.proofs.Choices.{and_left, and_right, either, eq_true, le_true, lt_tells}
use Rattle.service_steps.proofs.Alone.{last_entry}
use Rattle.service_device.proofs.RecordedRaft.{no_moment}
use Rattle.service_device.proofs.SettledRaft.{EndsNoCall, IsOffice, IsStill, StaysThrough, ends_call, greatest_passes, stays_on}
use Rattle.service_leader.proofs.TermsRoles.{LeadsAt, leads_through, outdated}

-- ---- what is known of the others

-- a move that ends no call leaves what is known
abbrev KnowsAs : (ℕ → ℕ) → Memory → Type 0
KnowsAs matched memory = memory.matched ≡ matched

pub matched_as : (members : List ℕ) (me number : ℕ) (server : RaftServer) (move : Move) → server.memory.role ≡ Leader → IsStill server.store.term server move
    → EndsNoCall move → KnowsAs server.memory.matched (memory_after members me number server move)
matched_as members me number server TimeOut leads is quiet = absurd is
matched_as members me number server (TakeVoteRequest request granted) leads is quiet =
    either (KnowsAs server.memory.matched) (nat_lt server.store.term request.term) _ server.memory (λ e. refl) (λ e. refl)
matched_as members me number server (TakeVoteAnswer got) leads is quiet = absurd quiet
matched_as members me number server (TakeAppendRequest request verdict) leads is quiet =
    ap (λ (v : Verdict). (append_memory server request v).matched) (is.1 ∙ outdated server request leads is.0)
matched_as members me number server (TakeAppendAnswer got) leads is quiet = absurd quiet
matched_as members me number server (ProposeEntry entry) leads is quiet = absurd is
matched_as members me number server (CommitTo index) leads is quiet = absurd is
matched_as members me number server TellPair leads is quiet = absurd is
matched_as members me number server TellNothing leads is quiet = absurd is
matched_as members me number server (CallForVote peer) leads is quiet = refl
matched_as members me number server (CallToAppend peer previous with_entry) leads is quiet = refl
matched_as members me number server (AnswerAgain place) leads is quiet = refl
matched_as members me number server (GiveUp peer) leads is quiet = refl

-- ---- who waits

-- Not the whole log is committed, and no quorum of this list is known to have it.
pub record IsWaiting (list : List ℕ) (me : ℕ) (log : List Entry) (server : RaftServer) : Type 0 where
  pub log_is : server.store.log ≡ log
  pub some : server.store.commit < length log
  pub not_heard : has_quorum list (has_matched me server (length log)) ≡ false

-- the server leads in this term, and waits with its blank, or the blank has come behind its log
pub record IsAtBlank (list : List ℕ) (me top : ℕ) (log : List Entry) (server : RaftServer) : Type 0 where
  pub leads : LeadsAt top server
  pub which : IsWaiting list me log server ⊎ (server.store.log ≡ log ++ blank top ∷ [])

-- its moment is judged over this list, and it waits with its blank
abbrev pub WaitsOver : (list : List ℕ) (me : ℕ) → List ℕ → ℕ → Bool → Type 0
WaitsOver list me its_list its_me waits = (its_list ≡ list) × (its_me ≡ me) × (waits ≡ true)

and_false_right : (a b : Bool) → a ≡ true → (a && b) ≡ false → b ≡ false
and_false_right true b e f = f
and_false_right false b e f = absurd (cc (e))

both_true : (a b : Bool) → a ≡ true → b ≡ true → (a && b) ≡ true
both_true true b e f = f
both_true false b e f = absurd (cc (e))

module _ (list : List ℕ) (me top : ℕ) (log : List Entry) (earlier : last_term log < top) (room : length log < log_limit) where
  abbrev Waits : RaftServer → Type 0
  Waits = IsWaiting list me log

  abbrev AtBlank : RaftServer → Type 0
  AtBlank = IsAtBlank list me top log

  -- with the same log and commit, and what is known of the others
  waits_as : (before now : RaftServer) → now.store.log ≡ before.store.log → now.store.commit ≡ before.store.commit
      → now.memory.matched ≡ before.memory.matched → Waits before → Waits now
  waits_as before now its_log commit matched w = record {
    log_is = its_log ∙ w.log_is;
    some = let s = w.some in omega (arith, s, commit);
    not_heard = ap (λ (f : ℕ → ℕ). has_quorum list (λ peer. if nat_eq peer me then true else nat_le (length log) (f peer))) matched ∙ w.not_heard;
  }

  own_still : (server : RaftServer) (move : Move) → LeadsAt top server → IsStill top server move → IsStill server.store.term server move
  own_still server move leads is = subst (λ (term : ℕ). IsStill term server move) (sym leads.1) is

  stays_at : (members : List ℕ) (own number : ℕ) (server : RaftServer) (move : Move) → IsStill top server move → EndsNoCall move → AtBlank server
      → AtBlank (server_after members own number server move)
  stays_at members own number server move is quiet h =
      let s : StaysThrough top server (server_after members own number server move) = stays_on top members own number server move is h.leads in record {
        leads = s.leads;
        which = elim h.which [
          | inl w ↦ inl (waits_as server (server_after members own number server move) s.log_is s.committed
              (matched_as members own number server move h.leads.0 (own_still server move h.leads is) quiet) w)
          | inr e ↦ inr (s.log_is ∙ e)
        ];
      }

  -- where a call ends
  module _ (members : List ℕ) (own number : ℕ) (times : Times) (server : RaftServer) (move : Move) (sees : WaitsOver list me members own times.waits)
      (is : IsStill top server move) (h : AtBlank server) where
    abbrev after : RaftServer
    after = server_after members own number server move

    stays : StaysThrough top server after
    stays = stays_on top members own number server move is h.leads

    leads_then : LeadsAt top after
    leads_then = stays.leads

    -- a blank that comes is the first
    adds : is_moment members own times server after ≡ true → (is_leader after.memory.role && takes_blank after.store) ≡ true
        → AtBlank (server_after members own number after (ProposeEntry (blank after.store.term)))
    adds moment takes = record {
      leads = leads_through top members own number after (ProposeEntry (blank after.store.term)) tt leads_then;
      which = inr (elim h.which [
        | inl w ↦ (λ i. (stays.log_is ∙ w.log_is) i ++ blank (leads_then.1 i) ∷ [])
        | inr e ↦ absurd (no_moment top log times.waits members own server after h.leads.0 leads_then.1
            (ap (λ (l : List Entry). last_term l) (stays.log_is ∙ e) ∙ ap (λ (x : Entry). x.term) (last_entry log (blank top))) moment)
      ]);
    }

    -- where none comes, a quorum is not known to have the log
    module _ (why : (is_moment members own times server after ≡ false) ⊎ ((is_leader after.memory.role && takes_blank after.store) ≡ false)) (w : Waits server) where
      log_then : after.store.log ≡ log
      log_then = stays.log_is ∙ w.log_is

      some_then : after.store.commit < length log
      some_then = let s = w.some in let c = stays.committed in omega (arith, s, c)

      takes : (is_leader after.memory.role && takes_blank after.store) ≡ true
      takes = both_true (is_leader after.memory.role) (takes_blank after.store) (ap is_leader leads_then.0)
          (both_true (nat_lt after.store.commit (length after.store.log)) (nat_lt (length after.store.log) log_limit)
          (lt-ltb after.store.commit (length after.store.log) (let l = ap (λ (l : List Entry). length l) log_then in let s = some_then in omega (arith, s, l)))
          (lt-ltb (length after.store.log) log_limit (let l = ap (λ (l : List Entry). length l) log_then in omega (arith, room, l))))

      unheard : is_moment members own times server after ≡ false → has_quorum list (has_matched me after (length log)) ≡ false
      unheard e =
          (λ i. has_quorum (sym sees.0 i) (has_matched (sym sees.1 i) after (length (sym log_then i))))
          ∙ and_false_right (nat_lt (last_term after.store.log) after.store.term)
          (has_quorum members (has_matched own after (length after.store.log)))
          (lt-ltb (last_term after.store.log) after.store.term
          (let l = ap (λ (l : List Entry). last_term l) log_then in let t = leads_then.1 in omega (arith, earlier, l, t)))
          (sym (ap (λ (b : Bool). if b then is_heard members own after else not (is_leader server.memory.role)) sees.2) ∙ e)

      goes_on : Waits after
      goes_on = record {
        log_is = log_then;
        some = some_then;
        not_heard = elim why [ inl e ↦ unheard e | inr e ↦ absurd (cc (e, takes)) ];
      }

    none : (is_moment members own times server after ≡ false) ⊎ ((is_leader after.memory.role && takes_blank after.store) ≡ false) → AtBlank after
    none why = record {
      leads = leads_then;
      which = elim h.which [ inl w ↦ inl (goes_on why w) | inr e ↦ inr (stays.log_is ∙ e) ];
    }

    called : AtBlank (server_after_all members own number server (with_blank members own number times server (move ∷ [])))
    called = ends_call AtBlank members own number times server move adds none

  -- what it commits is of its own term: so it is not the last place of the log
  commits_less : (members : List ℕ) (own : ℕ) (server : RaftServer) (index : ℕ) → commit_index members own server ≡ Some index → LeadsAt top server
      → server.store.log ≡ log → index < length log
  commits_less members own server index e leads its_log =
      let can : can_commit members own server index ≡ true = greatest_passes (length server.store.log) (can_commit members own server) index e in
      let inner = and_right (nat_lt server.store.commit index) _ can in
      let high : index ≤ length server.store.log
      = le_true index (length server.store.log) (and_left (nat_le index (length server.store.log)) _ inner) in
      let own_term : term_at server.store.log index ≡ server.store.term
      = eq_true (term_at server.store.log index) server.store.term (and_left _ _ (and_right (nat_le index (length server.store.log)) _ inner)) in
      let size : length server.store.log ≡ length log = ap length its_log in
      elim (lt_tells index (length log)) [
        | inl z ↦ z.1
        | inr z ↦
            let last : index ≡ length server.store.log = omega (arith, high, size, z.1) in
            let same : term_at server.store.log index ≡ last_term log = (λ i. term_at server.store.log (last i)) ∙ ap (λ (l : List Entry). last_term l) its_log in
            absurd (omega (arith, same, own_term, leads.1, earlier))
      ]

  -- so who waits is in office
  pub blank_office : IsOffice top log AtBlank (WaitsOver list me)
  blank_office = record {
    leads = λ server h. h.leads;
    log_is = λ server h. elim h.which [ inl w ↦ ([], w.log_is ∙ sym (append-nil log)) | inr e ↦ (blank top ∷ [], e) ];
    still = stays_at;
    calls = λ members own number times server move sees is h. called members own number times server move sees is h;
    commits = λ members own number server index e h. record {
      leads = leads_through top members own number server (CommitTo index) tt h.leads;
      which = elim h.which [
        | inl w ↦ inl (record { log_is = w.log_is; some = commits_less members own server index e h.leads w.log_is; not_heard = w.not_heard })
        | inr f ↦ inr f
      ];
    };
    tells = λ members own number server e h. record {
      leads = leads_through top members own number server TellPair tt h.leads;
      which = elim h.which [
        | inl w ↦ inl (record { log_is = w.log_is; some = w.some; not_heard = w.not_heard })
        | inr f ↦ inr f
      ];
    };
    passes = λ members own number server e h. record {
      leads = leads_through top members own number server TellNothing tt h.leads;
      which = elim h.which [
        | inl w ↦ inl (record { log_is = w.log_is; some = w.some; not_heard = w.not_heard })
        | inr f ↦ inr f
      ];
    };
  }
