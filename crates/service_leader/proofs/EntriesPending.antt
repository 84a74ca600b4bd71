-- A call that pends in a calm, and was made in it, was made in one of its rows by a leader, and pends since; by then the
-- leader knows of the peer what it knew.
use Rattle.std.proofs.Common.{◌≡◌, ℕ, ◌+◌, ◌<◌, ◌≤◌, Bool, true, List, [], ◌∷◌, ◌++◌, drop, length, length-append, append_assoc, append-nil, refl, sym, ◌∙◌, ap, subst, inl, inr, arith, Option, Some}
use Rattle.std.specs.Prelude.{⊤, ◌⊎◌, if◌then◌else◌, slice_index_or}
use Rattle.can_frame.specs.declared.step.What.TheVariants.{AppQ, VoteQ}
use Rattle.dsdl_codec.specs.declared.append_request.AppendRequest.{AppendRequest}
use Rattle.raft_core.specs.Handled as handled
use Rattle.raft_model.specs.Messages.{Message, Request}
use Rattle.raft_model.specs.Messages.Message.{Requests}
use Rattle.raft_model.specs.Server.{RaftServer}
use Rattle.bus_rows.specs.declared.row.Row.{Row}
use Rattle.alloc_spec.specs.AllocatorState.{AllocatorState}
use Rattle.alloc_spec.specs.Step.{Event, step}
use Rattle.alloc_spec.specs.Transfers.{Offer}
use Rattle.alloc_spec_laws.specs.Calls.{IsCalled}
use Rattle.bus_agreement.proofs.Concatenations.{first_harmless, row_harmless}
use Rattle.bus_rows.specs.Timed.{Timed, rows_in}
use Rattle.service_alone.specs.Calm.{Pace}
use Rattle.service_alone.proofs.Goes.{after_both}
use Rattle.service_calm.specs.Calls.{Calls, ReadsAsSaid}
use Rattle.service_calm.specs.Calm.{IsRunning, Party}
use Rattle.service_calm.specs.Comes.{Sends, sent_by}
use Rattle.service_leader.specs.CallsComeBack.{LeadsIfUp}
use Rattle.service_leader.specs.Entries.{PendsSince}
use Rattle.service_calm.proofs.Calls.{Goes}
use Rattle.service_leader.specs.CallsAsk.{AsksNext, next_request}
use Rattle.service_leader.specs.EntriesBelow.{AppendsPend, CallsInside, EntryLaws, PendInTerm}
use Rattle.service_leader.proofs.EntriesHold.{holds_on}
use Rattle.service_leader.proofs.EntriesParts.{in_either, rows_counted}
use Rattle.service_leader.proofs.EntriesRows.{AtLeader, IsLedCalm, goes_at, here, row_of}
use Rattle.service_calm.proofs.Pair.{same_server}
use Rattle.service_leader.proofs.Stretches.{rows_both}
use Rattle.bus_spec.specs.Cluster.{Cluster, cluster, step_of, world_of}
use Rattle.bus_spec.specs.Lawful.{DoNoHarm, DoesNoHarm}
use Rattle.bus_spec.specs.Members.MemberStatus.{Up}

one_request : (a b : Request) → ◌≡◌ {A = Option Message} (Some (Requests a)) (Some (Requests b)) → a ≡ b
one_request a b e = cc (e)

its_request : (a b : Request) → Some a ≡ Some b → a ≡ b
its_request a b e = cc (e)

-- no rows have no first part
no_first : (c d : List Timed) → [] ≡ c ++ d → c ≡ []
no_first [] d e = refl
no_first (y ∷ c) d e = absurd (cc e)

-- where one row more is cut, the first part is one of the first rows, or all of them
pub prefix_more : (xs c d : List Timed) (x : Timed) → xs ++ x ∷ [] ≡ c ++ d → ((tail : List Timed) × (xs ≡ c ++ tail)) ⊎ (c ≡ xs ++ x ∷ [])
prefix_more [] [] d x e = inl ([], refl)
prefix_more [] (y ∷ c) d x e = inr (λ i. sym (ap (λ (l : List Timed). slice_index_or l 0 x) e) i ∷ no_first c d (ap (λ (l : List Timed). drop 1 l) e) i)
prefix_more (z ∷ xs) [] d x e = inl (z ∷ xs, refl)
prefix_more (z ∷ xs) (y ∷ c) d x e =
    let first : z ≡ y = ap (λ (l : List Timed). slice_index_or l 0 x) e in
    elim (prefix_more xs c d x (ap (λ (l : List Timed). drop 1 l) e)) [
      | inl k ↦ inl (k.0, λ i. first i ∷ k.1 i)
      | inr k ↦ inr (λ i. sym first i ∷ k i)
    ]

-- calls read as said in this world
abbrev CallsReadIn : Cluster → Type 0
CallsReadIn v = (n : ℕ) (row : Row) (offer : Offer) → DoesNoHarm v row → IsRunning n v → Sends n v row offer → offer.what ≡ AppQ
    → ReadsAsSaid (sent_by n v offer)

module _ (ids : List ℕ) (rows : List Row) (laws : EntryLaws ids rows) (group : List Party) (clocks : Party → ℕ) (pace : Pace) (start n term : ℕ)
    (whole : List Timed)
    (calm : IsLedCalm ids rows group clocks pace start n term whole) where
  abbrev w : Cluster
  w = world_of ids rows

  abbrev pub at : List Timed → Cluster
  at = here ids rows laws group clocks pace start n term whole calm

  abbrev pub AtN : (AllocatorState → Type 0) → List Timed → Type 0
  AtN = AtLeader ids rows laws group clocks pace start n term whole calm

  -- the world behind all rows up to a front
  pub world_at : (a : List Timed) → world_of ids (rows ++ rows_in a) ≡ at a
  world_at a = after_both (cluster ids) rows (rows_in a)

  -- the rows of a front, and the next one, do no harm
  pub harmless_at : (a b : List Timed) (x : Timed) → whole ≡ a ++ x ∷ b → DoNoHarm w (rows_in a) × DoesNoHarm (at a) x.row
  harmless_at a b x cut = (first_harmless w (rows_in a) (rows_in (x ∷ b)) harm, row_harmless w (rows_in a) (rows_in b) x.row harm)
    where
      harm : DoNoHarm w (rows_in a ++ rows_in (x ∷ b))
      harm = subst (DoNoHarm w) (ap rows_in cut ∙ rows_both a (x ∷ b)) calm.harmless

  -- where the member leads, each of its calls that pends is an append request
  pub appends_at : (m : ℕ) (a b : List Timed) → whole ≡ a ++ b → LeadsIfUp n term (at a)
      → AtN (λ t. (asked : Request) → t.raft_server.memory.pending m ≡ Some asked → asked.append ≡ true) a
  appends_at m a b cut leads t up asked pends = subst (AppendsPend ids) (world_at a)
      (laws.appends (rows_in a) (first_harmless w (rows_in a) (rows_in b) (subst (DoNoHarm w) (ap rows_in cut ∙ rows_both a b) calm.harmless)))
      n m t asked (calm.listed n calm.member) up (leads t up).0 pends

  -- and of its term
  pub in_term_at : (m : ℕ) (a b : List Timed) → whole ≡ a ++ b → LeadsIfUp n term (at a)
      → AtN (λ t. (asked : Request) → t.raft_server.memory.pending m ≡ Some asked → asked.term ≡ term) a
  in_term_at m a b cut leads t up asked pends = subst (PendInTerm ids) (world_at a)
      (laws.terms (rows_in a) (first_harmless w (rows_in a) (rows_in b) (subst (DoNoHarm w) (ap rows_in cut ∙ rows_both a b) calm.harmless)))
      n m t asked (calm.listed n calm.member) up (leads t up).0 pends ∙ (leads t up).1

  -- so it calls the peer next at a place of its log, or just behind them
  pub inside_at : (m : ℕ) (a b : List Timed) → whole ≡ a ++ b → LeadsIfUp n term (at a)
      → AtN (λ t. (1 ≤ t.raft_server.memory.next m) × (t.raft_server.memory.next m ≤ length t.raft_server.store.log + 1)) a
  inside_at m a b cut leads t up = subst (CallsInside ids) (world_at a)
      (laws.inside (rows_in a) (first_harmless w (rows_in a) (rows_in b) (subst (DoNoHarm w) (ap rows_in cut ∙ rows_both a b) calm.harmless)))
      n m t (calm.listed n calm.member) up (leads t up).0

  module _ (m : ℕ) where
    -- in this row behind a front the member calls the peer, as it owes it when the step is over, and leads then
    pub record MakesCall (a : List Timed) (x : Timed) (asked : Request) : Type 0 where
      pub offer : Offer
      pub request : AppendRequest
      pub calls : Calls n m (at a) x.row offer request
      pub said : asked ≡ handled.append_request_of request ((at a).rows + 1) n m
      pub owed : AtN (λ t. asked ≡ next_request m ((at a).rows + 1) t) (a ++ x ∷ [])
      pub leading : LeadsIfUp n term (at (a ++ x ∷ []))

    makes_call : (a b : List Timed) (x : Timed) → whole ≡ a ++ x ∷ b → (t after : AllocatorState) → ((at a).member n).status ≡ Up t
        → ((at (a ++ x ∷ [])).member n).status ≡ Up after → (event : Event) → step_of (at a) x.row ≡ Some (n, event)
        → after ≡ (step t ((at a).rows + 1) event).step_state.allocator → (asked : Request) → asked.append ≡ true → asked.term ≡ term
        → after.raft_server.memory.pending m ≡ Some asked
        → IsCalled ((at a).rows + 1) (step t ((at a).rows + 1) event).step_state m asked → MakesCall a x asked
    makes_call a b x cut t after up then_up event in_step is asked append its_term pends called = record {
      offer = called.offer;
      request = reads.request;
      calls = record { sends = sends; what = what; to = called.to; says = reads.read };
      said = one_request asked _ (sym called.says ∙ (reads.said ∙ ap
          (λ (to : ℕ). Some (Requests (handled.append_request_of reads.request ((at a).rows + 1) n to))) called.to));
      owed = λ later later_up. owed ∙ ap (next_request m ((at a).rows + 1)) (sym is ∙ same_server after later (sym then_up ∙ later_up));
      leading = λ later later_up. (
        ap (λ (u : AllocatorState). u.raft_server.memory.role) (sym (same_server after later (sym then_up ∙ later_up)) ∙ is) ∙ asks.leads,
        ap (λ (u : AllocatorState). u.raft_server.store.term) (sym (same_server after later (sym then_up ∙ later_up)) ∙ is)
            ∙ (sym (ap (λ (r : Request). r.term) owed) ∙ its_term),
      );
    }
      where
        what : called.offer.what ≡ AppQ
        what = called.what ∙ ap (λ (b : Bool). if b then AppQ else VoteQ) append

        asks : AsksNext m ((at a).rows + 1) called.offer (step t ((at a).rows + 1) event).step_state.allocator
        asks = laws.ask t ((at a).rows + 1) event m called.offer called.offered what called.to called.fitted

        owed : asked ≡ next_request m ((at a).rows + 1) (step t ((at a).rows + 1) event).step_state.allocator
        owed = its_request asked _ (sym pends ∙ (ap (λ (u : AllocatorState). u.raft_server.memory.pending m) is ∙ asks.pending))

        sends : Sends n (at a) x.row called.offer
        sends = record { server = t; runs = up; event = event; in_step = in_step; offered = called.offered; fitted = called.fitted }

        goes : Goes laws.me group clocks pace n (at a) (x ∷ b)
        goes = goes_at ids rows laws group clocks pace start n term whole calm n calm.member a (x ∷ b) cut

        running : IsRunning n (at a)
        running = record { server = goes.runs.server; runs = goes.runs.up.status; faults = goes.runs.up.quiet.faults; disk = goes.runs.up.quiet.calls }

        reads : ReadsAsSaid (sent_by n (at a) called.offer)
        reads = subst CallsReadIn (world_at a) (laws.read (rows_in a) (harmless_at a b x cut).0)
            n x.row called.offer (harmless_at a b x cut).1 running sends what

    -- a call that pends
    abbrev pub Pends : Request → AllocatorState → Type 0
    Pends asked t = t.raft_server.memory.pending m ≡ Some asked

    -- it pends, and this is what the member knows of the peer
    abbrev pub HoldsAs : Request → (next matched : ℕ) → AllocatorState → Type 0
    HoldsAs asked next matched t = Pends asked t × (t.raft_server.memory.next m ≡ next) × (t.raft_server.memory.matched m ≡ matched)

    -- Behind this front, the call was made in one of its rows, and pends in each world since, in which the member knows the
    -- same of the peer.
    pub record WasCalled (asked : Request) (a : List Timed) : Type 0 where
      pub earlier : List Timed
      pub row : Timed
      pub later : List Timed
      pub split : a ≡ earlier ++ row ∷ later
      pub made : MakesCall earlier row asked
      pub next : ℕ
      pub matched : ℕ
      pub since : (c d : List Timed) → later ≡ c ++ d → AtN (HoldsAs asked next matched) (earlier ++ row ∷ c)

    -- so it is of each append request of these that pends
    abbrev pub IsSince : (Request → Type 0) → List Timed → Type 0
    IsSince Late a = AtN (λ t. (asked : Request) → Late asked → asked.append ≡ true → asked.term ≡ term → Pends asked t → WasCalled asked a) a

    -- one row more, in which nothing changes
    goes_by : (asked : Request) (a : List Timed) (x : Timed) (t after : AllocatorState) → ((at a).member n).status ≡ Up t
        → ((at (a ++ x ∷ [])).member n).status ≡ Up after → Pends asked after
        → (after.raft_server.memory.next m ≡ t.raft_server.memory.next m) × (after.raft_server.memory.matched m ≡ t.raft_server.memory.matched m)
        → WasCalled asked a → WasCalled asked (a ++ x ∷ [])
    goes_by asked a x t after up then_up pends same s = record {
      earlier = s.earlier;
      row = s.row;
      later = s.later ++ x ∷ [];
      split = longer;
      made = s.made;
      next = s.next;
      matched = s.matched;
      since = λ c d e. elim (prefix_more s.later c d x e) [
        | inl z ↦ s.since c z.0 z.1
        | inr z ↦ subst (λ (l : List Timed). AtN (HoldsAs asked s.next s.matched) (s.earlier ++ s.row ∷ l)) (sym z)
            (subst (AtN (HoldsAs asked s.next s.matched)) longer (λ u is_up. subst (HoldsAs asked s.next s.matched) (same_server after u (sym then_up ∙ is_up)) now))
      ];
    }
      where
        longer : a ++ x ∷ [] ≡ s.earlier ++ s.row ∷ (s.later ++ x ∷ [])
        longer = ap (λ (l : List Timed). l ++ x ∷ []) s.split ∙ append_assoc s.earlier (s.row ∷ s.later) (x ∷ [])

        was : HoldsAs asked s.next s.matched t
        was = subst (AtN (HoldsAs asked s.next s.matched)) (sym s.split) (s.since s.later [] (sym (append-nil s.later))) t up

        now : HoldsAs asked s.next s.matched after
        now = (pends, same.0 ∙ was.1, same.1 ∙ was.2)

    -- a call of an earlier row is not one of this row
    not_here : (asked : Request) (a : List Timed) → WasCalled asked a → asked.step ≡ (at a).rows + 1 → ⊥
    not_here asked a s here_step =
        let its = ap (λ (r : Request). r.step) s.made.said in
        let here_rows = rows_counted w a in
        let there_rows = rows_counted w s.earlier in
        let size = ap length s.split in
        let both = length-append s.earlier (s.row ∷ s.later) in
        omega (arith, here_step, its, here_rows, there_rows, size, both)

    module _ (Late : Request → Type 0) where
      one_row : (a b : List Timed) (x : Timed) → whole ≡ a ++ x ∷ b → IsSince Late a → IsSince Late (a ++ x ∷ [])
      one_row a b x cut before after then_up asked late append its_term pends = elim (row_of ids rows laws group clocks pace start n term whole calm a b x cut t after up then_up) [
        | inr same ↦ goes_by asked a x t after up then_up pends (ap (λ (s : RaftServer). s.memory.next m) same, ap (λ (s : RaftServer). s.memory.matched m) same)
            (before t up asked late append its_term (ap (λ (s : RaftServer). s.memory.pending m) (sym same) ∙ pends))
        | inl s ↦ elim (laws.made t ((at a).rows + 1) s.0 m asked (ap (λ (u : AllocatorState). u.raft_server.memory.pending m) (sym s.2) ∙ pends)) [
          | inl stays ↦ on s (before t up asked late append its_term (sym stays.pending ∙ (ap (λ (u : AllocatorState). u.raft_server.memory.pending m) (sym s.2) ∙ pends)))
          | inr called ↦ record {
            earlier = a;
            row = x;
            later = [];
            split = refl;
            made = makes_call a b x cut t after up then_up s.0 s.1 s.2 asked append its_term pends called;
            next = after.raft_server.memory.next m;
            matched = after.raft_server.memory.matched m;
            since = λ c d e. subst (λ (l : List Timed). AtN (HoldsAs asked (after.raft_server.memory.next m) (after.raft_server.memory.matched m)) (a ++ x ∷ l)) (sym (no_first c d e))
                (λ u is_up. subst (HoldsAs asked (after.raft_server.memory.next m) (after.raft_server.memory.matched m)) (same_server after u (sym then_up ∙ is_up)) (pends, refl, refl));
          }
        ]
      ]
        where
          t : AllocatorState
          t = (goes_at ids rows laws group clocks pace start n term whole calm n calm.member a (x ∷ b) cut).runs.server

          up : ((at a).member n).status ≡ Up t
          up = (goes_at ids rows laws group clocks pace start n term whole calm n calm.member a (x ∷ b) cut).runs.up.status

          on : (event : Event) × (step_of (at a) x.row ≡ Some (n, event)) × (after ≡ (step t ((at a).rows + 1) event).step_state.allocator)
              → WasCalled asked a → WasCalled asked (a ++ x ∷ [])
          on s was = elim (holds_on m ((at a).rows + 1) t s.0 asked (ap (λ (u : AllocatorState). u.raft_server.memory.pending m) (sym s.2) ∙ pends)) [
            | inl now ↦ absurd (not_here asked a was now)
            | inr kept ↦ goes_by asked a x t after up then_up pends (
              ap (λ (u : AllocatorState). u.raft_server.memory.next m) s.2 ∙ kept.0,
              ap (λ (u : AllocatorState). u.raft_server.memory.matched m) s.2 ∙ kept.1,
            ) was
          ]

      further_rows : (c a b : List Timed) → whole ≡ (a ++ c) ++ b → IsSince Late a → IsSince Late (a ++ c)
      further_rows [] a b cut h = subst (IsSince Late) (sym (append-nil a)) h
      further_rows (x ∷ c) a b cut h = subst (IsSince Late) (append_assoc a (x ∷ []) c)
          (further_rows c (a ++ x ∷ []) b (cut ∙ ap (λ (l : List Timed). l ++ b) (sym (append_assoc a (x ∷ []) c)))
          (one_row a (c ++ b) x (cut ∙ append_assoc a (x ∷ c) b) h))

    -- so it is, behind each front, of a call that was made in the calm
    pub was_called : (a b : List Timed) → whole ≡ a ++ b → IsSince (λ asked. w.rows < asked.step) a
    was_called a b cut = further_rows (λ asked. w.rows < asked.step) a [] b cut
        (λ t up asked late append its_term pends. let past = laws.past n m t asked (calm.listed n calm.member) up pends in absurd (omega (arith, late, past)))

    -- and from a front on of each, where a call that pends behind it was made in the calm
    module _ (number : ℕ) (above : w.rows ≤ number) (first c b : List Timed) (cut : whole ≡ (first ++ c) ++ b) (since : PendsSince n m number (at first)) where
      cut_first : whole ≡ first ++ (c ++ b)
      cut_first = cut ∙ append_assoc first c b

      pub was_called_from : IsSince (λ asked. ⊤) (first ++ c)
      was_called_from = further_rows (λ asked. ⊤) c first b cut
          (λ t up asked late append its_term pends. was_called first (c ++ b) cut_first t up asked
          (let later = since t asked up pends in omega (arith, above, later)) append its_term pends)

      -- that step stands behind this number
      pub called_since : number ≤ (at first).rows → (asked : Request) → WasCalled asked (first ++ c) → number < asked.step
      called_since low asked s = elim (in_either first c s.earlier s.later s.row s.split) [
        | inr z ↦
            let its = ap (λ (r : Request). r.step) s.made.said in
            let here_rows = rows_counted w first in
            let there_rows = rows_counted w s.earlier in
            let size = ap length z.split ∙ length-append first z.tail in
            omega (arith, low, its, here_rows, there_rows, size)
        | inl z ↦
            let run = (goes_at ids rows laws group clocks pace start n term whole calm n calm.member first (c ++ b) cut_first).runs in
            since run.server asked run.up.status (subst (AtN (HoldsAs asked s.next s.matched)) (sym z.split) (s.since z.tail c z.rest) run.server run.up.status).0
      ]
