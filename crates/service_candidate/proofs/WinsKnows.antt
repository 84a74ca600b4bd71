-- By four delays after it stood c knows the highest term of the group, or somebody has led.
use Rattle.std.proofs.Common.{◌≡◌, ◌≢◌, ℕ, ◌+◌, ◌≤◌, arith, List, [], ◌∷◌, ◌++◌, inl, inr, sym, ◌∙◌, ap}
use Rattle.std.proofs.lemmas.Bool.Decides.{eqb_tells}
use Rattle.std.proofs.lemmas.List.{append_assoc}
use Rattle.raft_model.specs.Lists.{In}
use Rattle.bus_rows.specs.declared.row.Row.{Row}
use Rattle.alloc_spec.specs.AllocatorState.{AllocatorState}
use Rattle.alloc_spec.specs.Step.{step}
use Rattle.alloc_spec_laws.proofs.Choices.{lt_tells}
use Rattle.bus_rows.specs.Timed.{Timed}
use Rattle.service_candidate.specs.Terms.{AreWithin}
use Rattle.service_candidate.specs.Votes.{vote_asked_by}
use Rattle.service_candidate.specs.Wins.{KnowsTermsBy}
use Rattle.service_candidate.proofs.WinsAsked.{comes_back, comes_then, given, read, takes, until, until_split, x}
use Rattle.service_candidate.proofs.WinsFronts.{here_more}
use Rattle.service_candidate.proofs.WinsScene.{Anything, Scene, here, last, runs_at, v}
use Rattle.service_candidate.proofs.WinsStays.{quiet_at, rises_at, within_at}
use Rattle.service_candidate.proofs.WinsTerms.{Top, all_rows, in_longest, led_or_not, own_term, top_of}
use Rattle.service_leader.specs.CallsComeBack.{LeadsNotIfUp}
use Rattle.service_leader.proofs.RowsOfOne.{stepped_up}
use Rattle.service_calm.specs.Calm.{Member as OfMember}
use Rattle.service_calm.proofs.CallsKept.{RunsWith}
use Rattle.service_calm.proofs.Pair.{same_server}
use Rattle.bus_spec.specs.Cluster.{Cluster, receipt_of, step_of}

module _ (s : Scene) where
  -- the rows by four delays later
  abbrev pub rows_then : List Timed
  rows_then = (all_rows s).front

  abbrev pub rows_behind : List Timed
  rows_behind = (all_rows s).rest

  pub split : s.rest ≡ rows_then ++ rows_behind
  split = (all_rows s).split

  abbrev highest_one : Top s s.group
  highest_one = top_of s s.group (λ p i. i)

  abbrev top : ℕ
  top = highest_one.server.raft_server.store.term

  within_then : AreWithin s.group top (here s rows_then)
  within_then = within_at s top (λ m i t up. highest_one.high m t i up) rows_then rows_behind split (all_rows s).soon

  -- c at last
  abbrev c_then : RunsWith Anything ((here s rows_then).member s.c)
  c_then = runs_at s s.c s.calm.member rows_then rows_behind split

  abbrev NoLead : Type 0
  NoLead = (front more : List Timed) → rows_then ≡ front ++ more → LeadsNotIfUp s.c (here s front)

  -- it took the answer of the member in the highest term
  answered : (i : In (OfMember highest_one.whose) s.group) (other : highest_one.whose ≢ s.c) → NoLead → top ≤ c_then.server.raft_server.store.term
  answered i other none =
      let b = comes_back s highest_one.whose i other in
      let before = until s highest_one.whose i other in
      let cut = until_split s highest_one.whose i other in
      let comes = comes_then s highest_one.whose i other in
      let tail = in_longest s before b.more b.ends cut b.in_time in
      let take = takes s highest_one.whose i other (λ front more e. none front (more ++ b.ends ∷ tail.0)
      (tail.1 ∙ (ap (λ (l : List Timed). l ++ b.ends ∷ tail.0) e ∙ append_assoc front more (b.ends ∷ tail.0)))) in
      let says = given s highest_one.whose i other in
      -- what it says is no lower
      let said = own_term b.delivers.server.raft_server.store (vote_asked_by (x s highest_one.whose i other) (read s highest_one.whose i other).request highest_one.whose).term in
      let rose = rises_at s highest_one.whose i [] b.early (b.hears ∷ b.late) b.split highest_one.server b.delivers.server highest_one.runs b.delivers.runs in
      let and_then = before ++ b.ends ∷ [] in
      let more_split : s.rest ≡ and_then ++ b.more = cut ∙ sym (append_assoc before (b.ends ∷ []) b.more) in
      let next = runs_at s s.c s.calm.member and_then b.more more_split in
      let stepped = stepped_up (here s before) s.c comes.server
      (record { status = comes.runs; quiet = (runs_at s s.c s.calm.member before (b.ends ∷ b.more) cut).up.quiet }) b.ends.row
      (receipt_of (here s before) comes.k comes.ms) (ap (λ (r : Row). step_of (here s before) r) comes.comes) in
      let same = ap (λ (q : AllocatorState). q.raft_server.store.term) (same_server next.server _ (sym next.up.status
      ∙ (ap (λ (w : Cluster). (w.member s.c).status) (here_more (v s) before b.ends) ∙ stepped.status))) in
      let taken : says.term ≤ (step comes.server ((here s before).rows + 1) (receipt_of (here s before) comes.k comes.ms)).step_state.allocator.raft_server.store.term =
      elim (lt_tells comes.server.raft_server.store.term says.term) [
        | inl z ↦ let k = (take.raised z.1).1 in omega (arith, k)
        | inr z ↦ let k = take.kept z.1 in let l = z.1 in omega (arith, k, l)
      ] in
      let later = rises_at s s.c s.calm.member and_then tail.0 rows_behind (more_split ∙ ap (λ (l : List Timed). and_then ++ l) tail.2) next.server c_then.server next.up.status
      (ap (λ (l : List Timed). ((here s l).member s.c).status) (append_assoc before (b.ends ∷ []) tail.0 ∙ sym tail.1) ∙ c_then.up.status) in
      omega (arith, said, rose, same, taken, later)

  reaches : NoLead → top ≤ c_then.server.raft_server.store.term
  reaches none = elim (eqb_tells highest_one.whose s.c) [
    | inl z ↦ rises_at s s.c s.calm.member [] rows_then rows_behind split highest_one.server c_then.server
        (ap (λ (k : ℕ). ((v s).member k).status) (sym z.1) ∙ highest_one.runs) c_then.up.status
    | inr z ↦ answered highest_one.member z.1 none
  ]

  pub knows_terms : KnowsTermsBy s.group s.c s.timed.at (last s) (v s) s.rest
  knows_terms = record {
    front = rows_then;
    rest = rows_behind;
    split = split;
    soon = (all_rows s).soon;
    late = (all_rows s).late;
    server = c_then.server;
    runs = c_then.up.status;
    knows = elim (led_or_not s rows_then rows_behind split) [
      | inl none ↦ inr (λ m i t up. let k = within_then m i t up in let l = reaches none in omega (arith, k, l))
      | inr led ↦ inl (λ quiet quiet_then. quiet_at s rows_then led.0 led.1 led.2 quiet quiet_then s.c s.calm.member led.3.0 led.3.1 led.3.2)
    ];
  }
