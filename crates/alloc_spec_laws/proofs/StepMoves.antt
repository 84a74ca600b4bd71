-- The moves of a whole step.
use Rattle.std.proofs.Common.{◌≡◌, ℕ, true, List, [], inl, inr, refl, sym, subst, Some}
use Rattle.std.specs.Prelude.{⊤}
use Rattle.can_frame.specs.declared.identifier.Kind.{Kind}
use Rattle.can_frame.specs.declared.identifier.Kind.TheVariants.{Anonymous, Message as Broadcast, Request as RequestKind, Response}
use Rattle.can_frame.specs.Log.{IsInjective}
use Rattle.raft_core.specs.Times.{overdue}
use Rattle.raft_model.specs.Lists.{In}
use Rattle.raft_model.specs.Messages.{Message}
use Rattle.raft_model.specs.Server.{Store}
use Rattle.raft_model.specs.History.{no_history}
use Rattle.raft_model.specs.Ledger.{empty_ledger}
use Rattle.raft_model.specs.Stops.{LocalState}
use Rattle.transfer_rx.specs.Reassembly.{Answer, Arrival, Delivery, answer}
use Rattle.transfer_rx.specs.Reassembly.Answer.{Continues, Drops, Gives}
use Rattle.transfer_rx.specs.Sessions.{Session}
use Rattle.alloc_spec.specs.Accepted.{setting_for}
use Rattle.alloc_spec.specs.StepState.{StepState, message_made, initial_state}
use Rattle.alloc_spec.specs.Step.{Event, all_nodes, at_moment, at_step, begin_phase, event_phase, moment_of, after_pop, step, with_answer, with_sessions}
use Rattle.alloc_spec.specs.Step.Event.{Rx, Tick}
use Rattle.alloc_spec.specs.AllocatorState.{AllocatorState, members_of}
use Rattle.alloc_spec.specs.Rules.{Rules, opening_by}
use Rattle.alloc_spec.specs.Transfers.{Offer, message_of}
use Rattle.alloc_spec_laws.specs.Coming.{AnswerFrom, Begins, IsOfTheMachine, KeepsOrder, MayStep, SaysFrom}
use Rattle.alloc_spec_laws.specs.LawsBelow.{Laws}
use Rattle.alloc_spec_laws.proofs.Choices.{tell}
use Rattle.alloc_spec_laws.proofs.Lists.{in_filter}
use Rattle.alloc_spec_laws.proofs.PhaseMoves.{delivers_sure, ends_sure, expire_log, gives_up_sure, ticks_sure}
use Rattle.alloc_spec_laws.proofs.Ranges.{same_server}
use Rattle.alloc_spec_laws.proofs.MachineSteps.{Goes, Steady, own_none}

-- a step of this server that has done nothing yet
abbrev pub local_state_of : AllocatorState → LocalState
local_state_of t = record { raft_server = t.raft_server; history = no_history; ledger = empty_ledger; offered = []; called = [] }

-- a frame that is put into its session changes nothing of what is awaited
says_with : (bag : List Message) (t : AllocatorState) (d : Delivery) (sessions : List Session) (kind : Kind) → SaysFrom bag t d kind
    → SaysFrom bag (record t { sessions = sessions }) d kind
says_with bag t d sessions Anonymous from = from
says_with bag t d sessions Broadcast from = from
says_with bag t d sessions RequestKind from = from
says_with bag t d sessions Response from = from

made_is : (number me : ℕ) (offer : Offer) (message : Message) → message_made number me offer ≡ Some message
    → (offer.fitted ≡ true) × (message_of number me offer ≡ Some message)
made_is number me offer message e = elim (tell offer.fitted) [
  | inl b ↦ (b, rw b at e)
  | inr b ↦ absurd (cc (rw b at e))
]

module _ (laws : Laws)
    (t : AllocatorState) (number : ℕ) (event : Event) (members : List ℕ) (bag : List Message) (local_state : LocalState) where
  abbrev Sure : StepState → Type 0
  Sure g = Steady members number bag local_state (λ peer. ⊤) g

  starts_sure : (now : ℕ) → MayStep t number event members bag → Begins t local_state → Sure (initial_state (at_moment now t))
  starts_sure now may starts = (
    record {
      made = refl;
      come = tt;
      leave = starts.raft_server;
      say = λ offer i fits message is. absurd i;
      called = λ peer free i. starts.called peer i;
      fit = may.fit;
      own = may.calls;
      outside = λ entry i. absurd i;
    },
    λ counts. let c = may.knows.counting counts in record { complete = c; all = may.knows.all c },
  )

  begins_sure : (now : ℕ) → MayStep t number event members bag → Begins t local_state → Sure (begin_phase number now t)
  begins_sure now may starts =
      gives_up_sure laws members number bag local_state (initial_state (at_moment now t)) (starts_sure now may starts)

  begins_once : (now : ℕ) → MayStep t number event members bag → IsInjective (begin_phase number now t).allocator.raft_server.store.log
  begins_once now may = subst (λ (s : Store). IsInjective s.log)
      (sym (expire_log (members_of (at_moment now t)) t.me number (overdue t.times (at_moment now t).now all_nodes) t.raft_server)) may.injective

  answer_sure : (heard : Answer) (arrival : Arrival) (g : StepState) → Sure g → IsInjective g.allocator.raft_server.store.log → AnswerFrom bag g.allocator heard
      → Sure (with_answer number heard (with_sessions arrival g)).step_state
  answer_sure (Gives d) arrival g h once from =
      delivers_sure laws members number bag local_state d (with_sessions arrival g) h once
      (says_with bag g.allocator d (with_sessions arrival g).allocator.sessions d.ident.kind from)
  answer_sure Continues arrival g h once from = h
  answer_sure (Drops why) arrival g h once from = h

module _ (laws : Laws) where
  pub event_sure : (t : AllocatorState) (number : ℕ) (event : Event) (members : List ℕ) (bag : List Message) (local_state : LocalState) → MayStep t number event members bag
      → Begins t local_state → Steady members number bag local_state (λ peer. ⊤) (event_phase number event (begin_phase number (moment_of event) t)).step_state
  event_sure t number (Tick now word) members bag local_state may starts =
      ticks_sure laws members number bag local_state word (begin_phase number now t) (record {
        sure = begins_sure laws t number (Tick now word) members bag local_state now may starts;
        all = may.knows.all;
        once = begins_once laws t number (Tick now word) members bag local_state now may;
      })
  event_sure t number (Rx arrival) members bag local_state may starts =
      answer_sure laws t number (Rx arrival) members bag local_state
      (answer (setting_for (begin_phase number arrival.moment t).allocator.me) (begin_phase number arrival.moment t).allocator.sessions (at_step (begin_phase number arrival.moment t).allocator arrival)) arrival (begin_phase number arrival.moment t)
      (begins_sure laws t number (Rx arrival) members bag local_state arrival.moment may starts)
      (begins_once laws t number (Rx arrival) members bag local_state arrival.moment may) may.takes

  step_sure : (t : AllocatorState) (number : ℕ) (event : Event) (members : List ℕ) (bag : List Message) (local_state : LocalState) → MayStep t number event members bag
      → Begins t local_state → Steady members number bag local_state (λ peer. In peer []) (step t number event).step_state
  unfolding step
  step_sure t number event members bag local_state may starts =
      (ends_sure laws members number bag local_state
      (event_phase number event (begin_phase number (moment_of event) t)).step_state (event_sure t number event members bag local_state may starts)).0

  pub of_the_machine : (t : AllocatorState) (number : ℕ) (event : Event) (members : List ℕ) (bag : List Message) → MayStep t number event members bag
      → (local_state : LocalState) → Begins t local_state → IsOfTheMachine members t.me number bag local_state (step t number event).step_state
  of_the_machine t number event members bag may local_state starts =
      subst (λ (me : ℕ). IsOfTheMachine members me number bag local_state (step t number event).step_state) (same_server t number event).0 (record {
        puts = goes.made;
        come = goes.come;
        leave = goes.leave;
        outside = goes.outside;
        say = λ message i.
            let f = in_filter (message_made number (step t number event).step_state.allocator.me) (step t number event).step_state.offers message i in
            let m = made_is number (step t number event).step_state.allocator.me f.0 message f.2 in goes.say f.0 f.1 m.0 message m.1;
      })
    where
      goes : Goes members number bag local_state (λ peer. In peer []) (step t number event).step_state.allocator.me (step t number event).step_state.allocator.raft_server
          (step t number event).step_state.moves (step t number event).step_state.puts (step t number event).step_state.offers
      goes = (step_sure t number event members bag local_state may starts).0

  pub keeps : (t : AllocatorState) (number : ℕ) (event : Event) (members : List ℕ) (bag : List Message) → MayStep t number event members bag
      → KeepsOrder (step t number event).step_state.allocator
  keeps t number event members bag may =
      let s = step_sure t number event members bag (local_state_of t) may (record { raft_server = refl; called = λ peer i. i }) in record {
        counting = λ counts. (s.1 counts).complete;
        fit = s.0.fit;
        calls = s.0.own;
      }

pub opening_keeps : (laws : Laws) (me : ℕ) (rules : Rules) (store : Store) (now word : ℕ) → KeepsOrder (opening_by me rules store now word)
opening_keeps laws me rules store now word = record { counting = λ counts. absurd (counts refl); fit = laws.opens_fit me store; calls = own_none me }

pub popped_keeps : (t : AllocatorState) → KeepsOrder t → KeepsOrder (after_pop t)
popped_keeps t h = record { counting = h.counting; fit = h.fit; calls = h.calls }
