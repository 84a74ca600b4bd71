-- A calm of a group whose members may have any roles, and what is known at each front of its rows.
use Rattle.std.proofs.Common.{◌≡◌, ℕ, ◌+◌, ◌≤◌, arith, true, List, [], ◌∷◌, ◌++◌, length, sym, ◌∙◌, ap, subst}
use Rattle.std.specs.Prelude.{nat_eq}
use Rattle.std.proofs.lemmas.List.{append_assoc}
use Rattle.raft_model.specs.Lists.{In}
use Rattle.bus_rows.specs.declared.row.Row.{Row}
use Rattle.alloc_spec.specs.AllocatorState.{AllocatorState, knows_all, members_of}
use Rattle.alloc_spec.specs.Step.{Event, step}
use Rattle.bus_rows.specs.Timed.{Timed, rows_in}
use Rattle.service_alone.specs.Calm.{Pace, end_of}
use Rattle.service_calm.specs.Calm.{Member as OfMember, Party}
use Rattle.service_calm.proofs.CallsKept.{IsKept, RunsWith}
use Rattle.service_calm.proofs.Counting.{now_after}
use Rattle.service_leader.proofs.Stretches.{GoesOnFrom, calm_first, end_both, end_last, not_before, world_both}
use Rattle.service_elections.specs.Running.{IsCalmOf, NobodyStandsIn, quiet_within}
use Rattle.service_elections.proofs.CalmFronts.{Calm, by_end, calm_of, goes_at, goes_to, kept_at}
use Rattle.service_elections.proofs.NobodyStands.{nobody_rest}
use Rattle.bus_spec.specs.Cluster.{Cluster, after_row, after_rows, world_of}
use Rattle.bus_spec.specs.Members.MemberStatus.{Up}

-- what is known of each step
pub record StepLaws : Type 0 where
  pub me : (t : AllocatorState) (number : ℕ) (event : Event) → (step t number event).step_state.allocator.me ≡ t.me
  pub size : (t : AllocatorState) (number : ℕ) (event : Event) → (step t number event).step_state.allocator.size ≡ t.size
  pub complete : (t : AllocatorState) (number : ℕ) (event : Event) → knows_all t ≡ true → members_of (step t number event).step_state.allocator ≡ members_of t

pub record Course : Type 0 where
  pub ids : List ℕ
  pub rows : List Row
  pub group : List Party
  pub clocks : Party → ℕ
  pub pace : Pace
  pub start : ℕ
  pub whole : List Timed
  pub calm : IsCalmOf ids rows group clocks pace start whole
  pub steps : StepLaws
  pub me : (p : ℕ) → In (OfMember p) group → (t : AllocatorState) → ((world_of ids rows).member p).status ≡ Up t → t.me ≡ p

-- the server is that of the node, its clock read no more than this, and it knows all members
pub record IsKnown (p last : ℕ) (t : AllocatorState) : Type 0 where
  pub me : t.me ≡ p
  pub clock : t.now ≤ last
  pub knows : knows_all t ≡ true

abbrev IsBy : ℕ → ℕ → Type 0
IsBy last moment = moment ≤ last

known_kept : StepLaws → (p last : ℕ) → IsKept (IsBy last) (IsKnown p last)
known_kept laws p last = record {
  stepped = λ t number event may is. let after = now_after t number event in record {
    me = laws.me t number event ∙ is.me;
    clock = omega (arith, after, is.clock, may);
    knows = (λ i. nat_eq (length (laws.complete t number event is.knows i)) (laws.size t number event i)) ∙ is.knows;
  };
  popped = λ t is. record { me = is.me; clock = is.clock; knows = is.knows };
}

abbrev pub the_calm : Course → Calm
the_calm s = calm_of s.ids s.rows s.group s.clocks s.pace s.start s.whole s.calm

module _ (s : Course) where
  abbrev pub w : Cluster
  w = world_of s.ids s.rows

  abbrev pub here : List Timed → Cluster
  here front = after_rows w (rows_in front)

  -- a member of the group behind a front
  pub known_at : (p : ℕ) → In (OfMember p) s.group → (a b : List Timed) → s.whole ≡ a ++ b
      → RunsWith (IsKnown p (end_of s.start a + s.clocks (OfMember p))) ((here a).member p)
  known_at p i a b cut =
      let last : ℕ = end_of s.start a + s.clocks (OfMember p) in
      kept_at (the_calm s) p i (IsBy last) (IsKnown p last) (known_kept s.steps p last)
      (λ t up. record {
        me = s.me p i t up;
        clock = let low = s.calm.clock p i t up in
            let more = not_before s.group s.clocks s.pace a s.start w (goes_to (the_calm s) a b cut) in omega (arith, low, more);
        knows = s.calm.complete p t i up;
      }) a b cut (λ x j. let soon = by_end (the_calm s) a b cut x j in omega (arith, soon))

-- ---- a stretch of it in which nobody stands

-- Rows of the calm, behind the first ones, in which nobody stands for election. They begin when each member asks for
-- votes only where it stands.
pub record Stretch (s : Course) : Type 0 where
  pub first : List Timed
  pub few : List Timed
  pub rest : List Timed
  pub cut : s.whole ≡ first ++ (few ++ rest)
  pub settled : s.start + quiet_within s.pace ≤ end_of s.start first
  pub nobody : NobodyStandsIn s.group (here s first) few

module _ (s : Course) (p : Stretch s) where
  -- the world and the moment behind a front of the stretch
  abbrev pub there : List Timed → Cluster
  there a = here s (p.first ++ a)

  abbrev pub ends : List Timed → ℕ
  ends a = end_of s.start (p.first ++ a)

  pub cut_at : (a b : List Timed) → p.few ≡ a ++ b → s.whole ≡ (p.first ++ a) ++ (b ++ p.rest)
  cut_at a b e = p.cut ∙ (ap (λ (l : List Timed). p.first ++ (l ++ p.rest)) e ∙ (ap (λ (l : List Timed). p.first ++ l) (append_assoc a b p.rest)
      ∙ sym (append_assoc p.first a (b ++ p.rest))))

  pub goes_there : (a b : List Timed) → p.few ≡ a ++ b → GoesOnFrom s.group s.clocks s.pace (ends a) (there a) (b ++ p.rest)
  goes_there a b e = goes_at (the_calm s) (p.first ++ a) (b ++ p.rest) (cut_at a b e)

  pub there_next : (a : List Timed) (x : Timed) → there (a ++ x ∷ []) ≡ after_row (there a) x.row
  there_next a x = ap (here s) (sym (append_assoc p.first a (x ∷ []))) ∙ world_both (w s) (p.first ++ a) (x ∷ [])

  pub ends_next : (a : List Timed) (x : Timed) → ends (a ++ x ∷ []) ≡ x.at
  ends_next a x = ap (end_of s.start) (sym (append_assoc p.first a (x ∷ []))) ∙ end_last s.start (p.first ++ a) x

  -- a row is no earlier than the end of the front before it
  pub not_early : (a b : List Timed) (x : Timed) → p.few ≡ a ++ x ∷ b → ends a ≤ x.at
  not_early a b x e = let goes = goes_there a (x ∷ b) e in omega (arith, goes.calm.0.moments, goes.at_end)

  pub goes_in : (a b : List Timed) → p.few ≡ a ++ b → GoesOnFrom s.group s.clocks s.pace (end_of s.start p.first) (here s p.first) a
  goes_in a b e = calm_first s.group s.clocks s.pace a (b ++ p.rest) (end_of s.start p.first) (here s p.first)
      (goes_at (the_calm s) p.first (a ++ (b ++ p.rest)) (p.cut ∙ ap (λ (l : List Timed). p.first ++ l) (ap (λ (l : List Timed). l ++ p.rest) e ∙ append_assoc a b p.rest)))

  pub nobody_there : (a b : List Timed) (x : Timed) → p.few ≡ a ++ x ∷ b → NobodyStandsIn s.group (there a) (x ∷ b)
  nobody_there a b x e = subst (λ (v : Cluster). NobodyStandsIn s.group v (x ∷ b)) (sym (world_both (w s) p.first a))
      (nobody_rest s.group a (x ∷ b) (here s p.first) (subst (NobodyStandsIn s.group (here s p.first)) e p.nobody))

  -- it goes on behind a front
  abbrev pub behind : (a b : List Timed) → p.few ≡ a ++ b → Stretch s
  behind a b e = record {
    first = p.first ++ a;
    few = b;
    rest = p.rest;
    cut = cut_at a b e;
    settled = let on = not_before s.group s.clocks s.pace a (end_of s.start p.first) (here s p.first) (goes_in a b e) in
        let both = end_both s.start p.first a in omega (arith, on, both, p.settled);
    nobody = subst (λ (v : Cluster). NobodyStandsIn s.group v b) (sym (world_both (w s) p.first a))
        (nobody_rest s.group a b (here s p.first) (subst (NobodyStandsIn s.group (here s p.first)) e p.nobody));
  }

  -- the world behind more rows, and when the stretch ends
  pub there_both : (a c : List Timed) → there (a ++ c) ≡ after_rows (there a) (rows_in c)
  there_both a c = ap (here s) (sym (append_assoc p.first a c)) ∙ world_both (w s) (p.first ++ a) c

  pub same_end : (a b : List Timed) → p.few ≡ a ++ b → end_of (ends a) b ≡ end_of (end_of s.start p.first) p.few
  same_end a b e = ap (λ (k : ℕ). end_of k b) (end_both s.start p.first a) ∙ (sym (end_both (end_of s.start p.first) a b)
      ∙ ap (end_of (end_of s.start p.first)) (sym e))

  -- a front does not end before one of its own
  pub not_back : (a c b : List Timed) → p.few ≡ a ++ (c ++ b) → ends a ≤ ends (a ++ c)
  not_back a c b e =
      let goes = goes_there a (c ++ b) e in
      let on = not_before s.group s.clocks s.pace c (ends a) (there a) (calm_first s.group s.clocks s.pace c (b ++ p.rest) (ends a) (there a)
      (subst (GoesOnFrom s.group s.clocks s.pace (ends a) (there a)) (append_assoc c b p.rest) goes)) in
      let both = end_both s.start (p.first ++ a) c in
      let is = ap (end_of s.start) (append_assoc p.first a c) in omega (arith, on, both, is)
