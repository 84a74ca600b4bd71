-- A leader's log stays in all rows of a calm: while it is not committed, and where nobody asks.
use Rattle.std.proofs.Common.{◌≡◌, ℕ, ◌<◌, Bool, true, false, List, [], length, refl, sym, ◌∙◌, ap, subst, arith, inl, inr}
use Rattle.std.specs.Prelude.{◌&&◌, nat_eq, not, if◌then◌else◌}
use Rattle.std.proofs.lemmas.Bool.Decides.{eqb_tells}
use Rattle.alloc_exchange.specs.declared.heard.Heard.{Heard}
use Rattle.alloc_exchange.specs.declared.heard.Heard.TheVariants.{Denied, FollowUp, Ignored, Whole}
use Rattle.alloc_exchange.specs.declared.heard.Ignore.TheVariants as Ignore
use Rattle.alloc_exchange.specs.declared.stage.Stage.{Stage}
use Rattle.alloc_exchange.specs.declared.stage.Stage.TheVariants.{First, Second, Third}
use Rattle.alloc_exchange.specs.Exchange.{Accepted, after, after_message, answer, answer_to, bytes_before, has_length, is_expected, is_whole, left_over, recent_requests, response, stage_length, stage_of, with_request}
use Rattle.can_frame.specs.Log.{log_limit}
use Rattle.dsdl_codec.specs.declared.allocation.Allocation.{Allocation}
use Rattle.alloc_spec.specs.AllocatorState.{AllocatorState}
use Rattle.alloc_spec.specs.Exchange.{may_follow}
use Rattle.alloc_spec_laws.proofs.Choices.{either, eq_true}
use Rattle.service_alone.proofs.Leads.{and_false, same_either}

-- ---- who accepted no request, and gives no follow-up

no_recent : (moment : ℕ) → recent_requests [] moment ≡ []
no_recent moment = same_either _ []

abbrev IsNone : List Accepted → Type 0
IsNone accepted = accepted ≡ []

left_none : (accepted : List Accepted) → left_over accepted false ≡ []
left_none accepted = same_either (is_whole accepted) []

-- it accepts none
pub accepts_none : (message : Allocation) (moment : ℕ) → after [] message moment false ≡ []
unfolding after
accepts_none message moment =
    ap (λ (l : List Accepted). after_message l message moment false) (no_recent moment)
    ∙ either IsNone (has_length message && is_expected [] message) (left_over (with_request [] message moment) false) []
    (λ e. left_none (with_request [] message moment)) (λ e. refl)

-- no request of the first stage makes a unique ID whole, and no other is the first
abbrev IsNotWhole : Heard → Type 0
IsNotWhole heard = (uid : List ℕ) (preferred : ℕ) → heard ≡ Whole uid preferred → ⊥

not_sixteen : (count : ℕ) → count ≡ 6 → nat_eq count 16 ≡ false
not_sixteen count e = elim (eqb_tells count 16) [ inl z ↦ absurd (omega (arith, z.1, e)) | inr z ↦ z.0 ]

by_stage : (message : Allocation) (moment : ℕ) (follows : Bool) (stage : Stage) → stage_of message ≡ stage → has_length message ≡ true
    → is_expected [] message ≡ true → IsNotWhole (response (with_request [] message moment) message.node follows)
by_stage message moment follows First e long expected uid preferred w =
    let six : length message.uid.items ≡ 6
    = eq_true (length message.uid.items) (stage_length (stage_of message)) long ∙ ap stage_length e in
    denied follows (sym (ap (λ (b : Bool). if b then Whole message.uid.items message.node
    else (if follows then FollowUp (record { items = message.uid.items }) else Denied)) (not_sixteen (length message.uid.items) six)) ∙ w)
  where
    denied : (b : Bool) → (if b then FollowUp (record { items = message.uid.items }) else Denied) ≡ Whole uid preferred → ⊥
    denied true f = cc (f)
    denied false f = cc (f)
by_stage message moment follows Second e long expected uid preferred w = cc (sym expected ∙ ap (λ (s : Stage). nat_eq 0 (bytes_before s)) e)
by_stage message moment follows Third e long expected uid preferred w = cc (sym expected ∙ ap (λ (s : Stage). nat_eq 0 (bytes_before s)) e)

pub makes_none_whole : (message : Allocation) (moment : ℕ) (follows : Bool) → IsNotWhole (answer [] message moment follows)
unfolding answer
makes_none_whole message moment follows =
    subst (λ (l : List Accepted). IsNotWhole (answer_to l message moment follows)) (sym (no_recent moment))
    (by (has_length message) refl (is_expected [] message) refl)
  where
    by : (a : Bool) → has_length message ≡ a → (b : Bool) → is_expected [] message ≡ b
        → IsNotWhole (if not a then Ignored Ignore.Length else (if not b then Ignored Ignore.Stage else response (with_request [] message moment) message.node follows))
    by false e b f uid preferred w = cc (w)
    by true e false f uid preferred w = cc (w)
    by true e true f uid preferred w = by_stage message moment follows (stage_of message) refl e f uid preferred w

-- a leader that has not committed its log, which is not full, gives no follow-up
pub gives_none : (t : AllocatorState) → t.raft_server.store.commit < length t.raft_server.store.log → length t.raft_server.store.log < log_limit
    → may_follow t ≡ false
gives_none t low room = elim (eqb_tells t.raft_server.store.commit (length t.raft_server.store.log)) [
  | inl z ↦ absurd (omega (arith, z.1, low))
  | inr z ↦ elim (eqb_tells (length t.raft_server.store.log) log_limit) [
    | inl y ↦ absurd (omega (arith, y.1, room))
    | inr y ↦ rw (z.0) (rw (y.0) (and_false _))
  ]
]
