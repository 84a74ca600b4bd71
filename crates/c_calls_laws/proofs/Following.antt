-- The calls of a node one after another, beside what others do: the node stays its member.
use Rattle.std.proofs.Common.{◌≡◌, ◌≢◌, ℕ, suc, ◌+◌, Bool, true, List, [], ◌∷◌, ◌++◌, length, map, refl, sym, ap, subst, ◌∙◌, arith, inl, inr, Option, None, Some}
use Rattle.std.specs.Prelude.{◌==◌, IsSome, MatchOption, option_map, if◌then◌else◌}
use Rattle.std.proofs.lemmas.Bool.Decides.{eqb_tells}
use Rattle.std.proofs.lemmas.List.{map-append}
use Rattle.bus_rows.specs.declared.row.Row.{Row}
use Rattle.bus_rows.specs.declared.row.Row.TheVariants.{Send}
use Rattle.transfer_rx.specs.Unmarked.{no_mark}
use Rattle.transfer_tx.specs.Queue.{Queued, next_out}
use Rattle.alloc_ghost_erasure.specs.Unmarked.{unmarked_event, unmarked_frame, unmarked_server}
use Rattle.alloc_server.specs.Server.{StandsFor}
use Rattle.alloc_spec.specs.AllocatorState.{AllocatorState}
use Rattle.alloc_spec.specs.Delivered.{StepResult}
use Rattle.alloc_spec.specs.Step.{Event, Rx, Tick, after_pop, step}
use Rattle.bus_spec.specs.Cluster.{Cluster, after_row, after_rows, arrival_at, frame_at, in_list}
use Rattle.bus_spec.specs.Members.{Member, next_frame}
use Rattle.bus_spec.specs.Members.MemberStatus.{Up}
use Rattle.cmd_node_laws.specs.Mirrored.{IsCalm, sent_by}
use Rattle.cmd_node_laws.proofs.Places.{after_both, queued_both}
use Rattle.cmd_node_laws.proofs.Turning.{MarkLaws}
use Rattle.c_calls.specs.declared.node.Node.{Node}
use Rattle.c_calls.specs.At.{IsAt, Takes as IsTaken, heard, low}
use Rattle.c_calls.specs.Runs.{Call, Hears, Learns, Made, Run, Takes, Tells, Ticks, after_call, after_calls, counted}
use Rattle.c_calls_laws.specs.OnBus.{Happening, IsCalled, IsGiven, IsMember, IsOfOthers, MayAllHappen, MayHappen, all_rows, calls_in, got_by, got_in, got_of, rows_of_call}
use Rattle.c_calls_laws.proofs.OneRow.{others_leave, others_send, send_leaves, step_leaves}

-- rows at a member: the node stays the member, and the caller got what they send
pub record Follows (n : ℕ) (w : Cluster) (rows : List Row) (node : Node) (got : List (ℕ × ℕ)) : Type 0 where
  pub is : IsMember n (after_rows w rows) node
  pub sent : got ≡ map got_of (sent_by n w rows)

-- the law that calls are steps
abbrev pub CallsAreSteps : Type 0
CallsAreSteps = (calls : List Call) (at : ℕ → Node) (t : AllocatorState) → Run calls at → IsAt (at 0) t → IsAt (at (length calls)) (after_calls calls (at 0).steps t)

module _ (marks : MarkLaws) (steps : CallsAreSteps) where
  -- one call
  one : (call : Call) (at : ℕ → Node) (t : AllocatorState) → Made call (at 0) (at 1) → IsAt (at 0) t → IsAt (at 1) (after_call call (counted call (at 0).steps) t)
  one call at t made is = steps (call ∷ []) at t (made, tt) is

  -- the same step, under whatever number
  step_as : (server allocator : AllocatorState) (row number : ℕ) (e f : Event) → unmarked_server server ≡ unmarked_server allocator → unmarked_event e ≡ unmarked_event f
      → unmarked_server (step server row e).step_state.allocator ≡ unmarked_server (step allocator number f).step_state.allocator
  step_as server allocator row number e f same events = ap (λ (s : StepResult). s.step_state.allocator) (marks.step server allocator row number e f same events)

  ticked : (n : ℕ) (w : Cluster) (now a b k : ℕ) (at : ℕ → Node) → IsMember n w (at 0) → Made (Ticks now a b) (at 0) (at 1) → Follows n w (rows_of_call n (Ticks now a b) k) (at 1) []
  ticked n w now a b k at is made =
      let event = Tick now (low a) in
      let left = step_leaves w n is.server event is.runs is.calm in
      record {
        is = record {
          allocator = after_call (Ticks now a b) (counted (Ticks now a b) (at 0).steps) is.allocator;
          stands = one (Ticks now a b) at is.allocator made is.stands;
          server = (step is.server (w.rows + 1) event).step_state.allocator;
          runs = left.runs;
          same = step_as is.server is.allocator (w.rows + 1) (counted (Ticks now a b) (at 0).steps) event event is.same refl;
          calm = left.calm;
        };
        sent = refl;
      }

  -- the frame of the bus, as it comes
  same_event : (frame : Queued) (now a b : ℕ) → IsGiven frame a b → unmarked_event (Rx (arrival_at frame now)) ≡ unmarked_event (Rx (heard now a b))
  same_event frame now a b given = λ i. Rx (record { id = given.id i; bytes = given.bytes i; mark = no_mark; moment = now })

  frame_heard : (n : ℕ) (w : Cluster) (now a b k : ℕ) (at : ℕ → Node) → IsMember n w (at 0) → IsGiven (frame_at w.frames k) a b → Made (Hears now a b) (at 0) (at 1)
      → Follows n w (rows_of_call n (Hears now a b) k) (at 1) []
  frame_heard n w now a b k at is given made =
      let event = Rx (arrival_at (frame_at w.frames k) now) in
      let left = step_leaves w n is.server event is.runs is.calm in
      record {
        is = record {
          allocator = after_call (Hears now a b) (counted (Hears now a b) (at 0).steps) is.allocator;
          stands = one (Hears now a b) at is.allocator made is.stands;
          server = (step is.server (w.rows + 1) event).step_state.allocator;
          runs = left.runs;
          same = step_as is.server is.allocator (w.rows + 1) (counted (Hears now a b) (at 0).steps) event (Rx (heard now a b)) is.same (same_event (frame_at w.frames k) now a b given);
          calm = left.calm;
        };
        sent = refl;
      }

  -- ---- a frame is taken

  -- the frame that goes next, in the world and at the node
  pub record GoNext (server allocator : AllocatorState) : Type 0 where
    pub frame : Queued
    pub its : Queued
    pub next : next_out server.queue ≡ Some frame
    pub here : next_out allocator.queue ≡ Some its
    pub same : unmarked_frame frame ≡ unmarked_frame its

  alike : (server allocator : AllocatorState) (o p : Option Queued) → next_out server.queue ≡ o → next_out allocator.queue ≡ p → option_map unmarked_frame o ≡ option_map unmarked_frame p → IsSome p
      → GoNext server allocator
  alike server allocator o None e f same some = absurd (cc (some))
  alike server allocator None (Some its) e f same some = absurd (cc (same))
  alike server allocator (Some frame) (Some its) e f same some = record { frame = frame; its = its; next = e; here = f; same = cc (same) }

  go_next : (server allocator : AllocatorState) → unmarked_server server ≡ unmarked_server allocator → IsSome (next_out allocator.queue) → GoNext server allocator
  go_next server allocator same some = alike server allocator (next_out server.queue) (next_out allocator.queue) refl refl (marks.next server allocator same) some

  -- what the member sends
  out_sent : (n : ℕ) (w : Cluster) (server : AllocatorState) (frame : Queued) → (w.member n).status ≡ Up server → next_out server.queue ≡ Some frame → sent_by n w (Send n ∷ []) ≡ frame ∷ []
  out_sent n w server frame runs e = λ i. (if own i then in_list (out i) else []) ++ []
    where
      own : (n == n) ≡ true
      own = elim (eqb_tells n n) [ inl same ↦ same.0 | inr apart ↦ absurd (apart.1 refl) ]

      out : next_frame (w.member n).status ≡ Some frame
      out = ap next_frame runs ∙ e

  nothing_taken : (n : ℕ) (w : Cluster) (now a b result : ℕ) (at : ℕ → Node) → IsMember n w (at 0) → Made (Takes now a b result) (at 0) (at 1) → result ≡ 0 → Follows n w [] (at 1) []
  nothing_taken n w now a b result at is made zero = record {
    is = record {
      allocator = is.allocator;
      stands = subst (λ (o : Option _). MatchOption o ⊥ (λ server. StandsFor server is.allocator)) (sym ((made.takes refl).kept zero).0) is.stands;
      server = is.server;
      runs = is.runs;
      same = is.same;
      calm = is.calm;
    };
    sent = refl;
  }

  frame_taken : (n : ℕ) (w : Cluster) (now a b result : ℕ) (at : ℕ → Node) → IsMember n w (at 0) → Made (Takes now a b result) (at 0) (at 1) → result ≢ 0
      → Follows n w (Send n ∷ []) (at 1) ((result, (at 1).bytes) ∷ [])
  frame_taken n w now a b result at is made some =
      let takes : IsTaken (at 0) (at 1) result = made.takes refl in
      let g = go_next is.server is.allocator is.same (takes.some (omega (arith, some)) is.allocator is.stands) in
      let left = send_leaves w n is.server is.runs is.calm in
      let got : (result, (at 1).bytes) ≡ got_of g.its = λ i. (takes.head is.allocator is.stands g.its g.here i, takes.bytes is.allocator is.stands g.its g.here i) in
      record {
        is = record {
          allocator = after_pop is.allocator;
          stands = takes.rest is.allocator is.stands;
          server = after_pop is.server;
          runs = left.runs;
          same = marks.popped is.server is.allocator is.same;
          calm = left.calm;
        };
        sent = ap (λ (x : ℕ × ℕ). x ∷ []) (got ∙ sym (ap got_of g.same)) ∙ sym (ap (λ (frames : List Queued). map got_of frames) (out_sent n w is.server g.frame is.runs g.next));
      }

  called : (n : ℕ) (w : Cluster) (call : Call) (k : ℕ) (at : ℕ → Node) → IsMember n w (at 0) → MayHappen n w (IsCalled call k) → Made call (at 0) (at 1)
      → Follows n w (rows_of_call n call k) (at 1) (got_by call (at 1))
  called n w (Ticks now a b) k at is may made = ticked n w now a b k at is made
  called n w (Hears now a b) k at is may made = frame_heard n w now a b k at is may made
  called n w (Learns now a b) k at is may made = absurd may
  called n w (Takes now a b result) k at is may made = elim (eqb_tells result 0) [
    | inl zero ↦ subst (λ (c : Bool). Follows n w (if c then [] else Send n ∷ []) (at 1) (if c then [] else (result, (at 1).bytes) ∷ [])) (sym zero.0)
        (nothing_taken n w now a b result at is made zero.1)
    | inr some ↦ subst (λ (c : Bool). Follows n w (if c then [] else Send n ∷ []) (at 1) (if c then [] else (result, (at 1).bytes) ∷ [])) (sym some.0)
        (frame_taken n w now a b result at is made some.1)
  ]
  called n w (Tells op now a b result) k at is may made = record { is = subst (λ (node : Node). IsMember n w node) (sym (made.1.kept made.0)) is; sent = refl }

  -- what others do leaves the member
  beside : (n : ℕ) (w : Cluster) (row : Row) (node : Node) → IsMember n w node → MayHappen n w (IsOfOthers row) → Follows n w (row ∷ []) node []
  beside n w row node is may =
      let e = others_leave w n row may in
      record {
        is = record {
          allocator = is.allocator;
          stands = is.stands;
          server = is.server;
          runs = ap (λ (x : Member). x.status) e ∙ is.runs;
          same = is.same;
          calm = subst IsCalm (sym e) is.calm;
        };
        sent = sym (ap (λ (frames : List Queued). map got_of (frames ++ [])) (others_send w n row may));
      }

  joined : (n : ℕ) (w : Cluster) (first rest : List Row) (middle node : Node) (got later : List (ℕ × ℕ)) → Follows n w first middle got → Follows n (after_rows w first) rest node later
      → Follows n w (first ++ rest) node (got ++ later)
  joined n w first rest middle node got later a b = record {
    is = subst (λ (v : Cluster). IsMember n v node) (sym (after_both w first rest)) b.is;
    sent = (λ i. a.sent i ++ b.sent i)
        ∙ sym (map-append got_of (sent_by n w first) (sent_by n (after_rows w first) rest))
        ∙ sym (ap (λ (frames : List Queued). map got_of frames) (queued_both n w first rest));
  }

  pub all_follow : (n : ℕ) (trace : List Happening) (w : Cluster) (at : ℕ → Node) → IsMember n w (at 0) → MayAllHappen n w trace → Run (calls_in trace) at
      → Follows n w (all_rows n trace) (at (length (calls_in trace))) (got_in (calls_in trace) at)
  all_follow n [] w at is may run = record { is = is; sent = refl }
  all_follow n (IsCalled call k ∷ rest) w at is may run =
      let first = called n w call k at is may.0 run.0 in
      joined n w (rows_of_call n call k) (all_rows n rest) (at 1) (at (suc (length (calls_in rest)))) (got_by call (at 1)) (got_in (calls_in rest) (λ j. at (suc j))) first
      (all_follow n rest (after_rows w (rows_of_call n call k)) (λ j. at (suc j)) first.is may.1 run.1)
  all_follow n (IsOfOthers row ∷ rest) w at is may run =
      let first = beside n w row (at 0) is may.0 in
      joined n w (row ∷ []) (all_rows n rest) (at 0) (at (length (calls_in rest))) [] (got_in (calls_in rest) at) first
      (all_follow n rest (after_row w row) at first.is may.1 run)
