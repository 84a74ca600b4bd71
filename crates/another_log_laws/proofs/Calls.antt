-- What a server takes, where it was said in a run of the Raft model, is no call of another log.
use Rattle.std.proofs.Common.{◌≡◌, ℕ, Bool, true, false, refl, sym, ap, subst, ◌∙◌, inl, inr, Option, Some, None, ◌&&◌, nat_eq}
use Rattle.std.specs.Prelude.{max, if◌then◌else◌}
use Rattle.std.proofs.lemmas.Bool.Decides.{eqb_tells}
use Rattle.can_frame.specs.declared.identifier.Kind.{Kind}
use Rattle.can_frame.specs.declared.identifier.Kind.TheVariants.{Anonymous, Message, Request, Response}
use Rattle.can_frame.specs.DataTypes.{append_entries}
use Rattle.dsdl_codec.specs.declared.append_request.AppendRequest.{AppendRequest}
use Rattle.dsdl_codec.specs.AppendRequest.{append_request_of}
use Rattle.raft_core.specs.Handled as handled
use Rattle.raft_model.specs.Runs.{World}
use Rattle.raft_model.specs.Server.{RaftServer, Store}
use Rattle.transfer_rx.specs.Reassembly.{Answer, Arrival, Delivery, answer, delivered}
use Rattle.transfer_rx.specs.Reassembly.Answer.{Continues, Drops, Gives}
use Rattle.alloc_server.specs.AnotherLog.{caller_by, caller_in, caller_of, contradicts, is_append_request, is_request, is_told}
use Rattle.alloc_server.specs.OneLog.{ContradictsNothing}
use Rattle.alloc_spec.specs.Accepted.{setting_for}
use Rattle.alloc_spec.specs.AllocatorState.{AllocatorState}
use Rattle.alloc_spec.specs.Services.{is_listed}
use Rattle.alloc_spec.specs.Step.{begin_phase}
use Rattle.alloc_spec.specs.Step.Event.{Rx}
use Rattle.alloc_spec_laws.specs.Coming.{AnswerFrom, RequestsFrom, SaysFrom, TakesFrom}

pub never : {A : Type 0} → true ≡ false → A
never e = absurd (cc (e))

pub both : (a b : Bool) → (a && b) ≡ true → (a ≡ true) × (b ≡ true)
both true b e = (refl, e)
both false b e = never (sym e)

pub eqb_is : (a b : ℕ) → nat_eq a b ≡ true → a ≡ b
eqb_is a b e = elim (eqb_tells a b) [ inl same ↦ same.1 | inr apart ↦ never (sym e ∙ apart.0) ]

asks : (kind : Kind) → is_request kind ≡ true → kind ≡ Request
asks Message e = never (sym e)
asks Anonymous e = never (sym e)
asks Request e = refl
asks Response e = never (sym e)

-- of a server that is a member's in the run
module _ (world : World) (quiet : ContradictsNothing world) (m : ℕ) (t : AllocatorState) (same : world.server m ≡ t.raft_server)
    (number : ℕ) (arrival : Arrival) where
  abbrev then_ : AllocatorState
  then_ = (begin_phase number arrival.moment t).allocator

  abbrev store : Store
  store = t.raft_server.store

  agrees : (d : Delivery) (request : AppendRequest) → RequestsFrom world.bag t.me d → d.ident.number ≡ append_entries.number
      → append_request_of d.payload ≡ Some request → contradicts store request ≡ false
  agrees d request says is read =
      ap (λ (s : RaftServer). contradicts s.store request) (sym same)
      ∙ quiet m (handled.append_request_of request d.mark.step d.ident.source t.me) request (says.appends is request read) refl
      (record { term = refl; previous = refl; previous_term = refl; entry = refl })

  by_request : (d : Delivery) → RequestsFrom world.bag t.me d → d.ident.number ≡ append_entries.number → (read : Option AppendRequest)
      → append_request_of d.payload ≡ read → caller_of store d.ident.source read ≡ None
  by_request d says is None e = refl
  by_request d says is (Some request) e =
      ap (λ (b : Bool). if b then Some d.ident.source else None) (agrees d request says is e)

  said_by : (d : Delivery) (kind : Kind) → d.ident.kind ≡ kind → kind ≡ Request → SaysFrom world.bag then_ d d.ident.kind → is_listed d t ≡ true
      → RequestsFrom world.bag t.me d
  said_by d kind is asking says listed =
      (subst (λ (k : Kind). SaysFrom world.bag then_ d k) (is ∙ asking) says) listed

  by_test : (d : Delivery) → SaysFrom world.bag then_ d d.ident.kind → (b : Bool) → (is_append_request d.ident && is_listed d t) ≡ b
      → (if b then caller_of store d.ident.source (append_request_of d.payload) else None) ≡ None
  by_test d says false e = refl
  by_test d says true e =
      let tests = both (is_append_request d.ident) (is_listed d t) e in
      let names = both (is_request d.ident.kind) (nat_eq d.ident.number append_entries.number) tests.0 in
      by_request d (said_by d d.ident.kind refl (asks d.ident.kind names.0) says tests.1) (eqb_is d.ident.number append_entries.number names.1)
      (append_request_of d.payload) refl

  by_answer : (a : Answer) → AnswerFrom world.bag then_ a → caller_in t (delivered a) ≡ None
  by_answer (Gives d) says = by_test d says (is_append_request d.ident && is_listed d t) refl
  by_answer Continues says = refl
  by_answer (Drops why) says = refl

  by_list : (b : Bool) (a : Answer) → AnswerFrom world.bag then_ a → (if b then caller_in t (delivered a) else None) ≡ None
  by_list true a says = by_answer a says
  by_list false a says = refl

  pub no_caller : TakesFrom number world.bag t (Rx arrival) → caller_by t arrival ≡ None
  unfolding caller_by
  no_caller takes = by_list (is_told t) (answer (setting_for t.me) t.sessions (record arrival { moment = max t.now arrival.moment })) takes

  -- a request that is delivered
  pub contradicts_nothing : TakesFrom number world.bag t (Rx arrival) → (d : Delivery)
      → answer (setting_for t.me) t.sessions (record arrival { moment = max t.now arrival.moment }) ≡ Gives d → d.ident.kind ≡ Request
      → d.ident.number ≡ append_entries.number → is_listed d t ≡ true → (request : AppendRequest) → append_request_of d.payload ≡ Some request
      → contradicts t.raft_server.store request ≡ false
  contradicts_nothing takes d gives kind service listed request read =
      agrees d request (said_by d d.ident.kind refl kind (subst (AnswerFrom world.bag then_) gives takes) listed) service read
