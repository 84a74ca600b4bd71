-- What is settled in a run stays settled.
use Rattle.std.proofs.Common.{◌≡◌, ℕ, ◌-◌, ◌≤◌, Bool, true, false, List, [], ◌∷◌, length, take, refl, sym, ap, subst, ◌∙◌, arith, length-take}
use Rattle.std.specs.Prelude.{◌==◌, if◌then◌else◌}
use Rattle.std.proofs.lemmas.List.{take-take}
use Rattle.can_frame.specs.declared.entry.Entry.{Entry}
use Rattle.can_frame.specs.Log.{IsPrefix}
use Rattle.raft_model.specs.Invariants.{IsFirm, StaysSettled, has_acknowledged, is_acknowledgement}
use Rattle.raft_model.specs.Lists.{any, how_many}
use Rattle.raft_model.specs.Log.{Same}
use Rattle.raft_model.specs.Messages.{Message}
use Rattle.raft_model.specs.Runs.{Event, FromEachMoment, World, after, initial_world, bag_with, run}
use Rattle.raft_model.specs.Runs.Event.{Opens, Steps, Stops, StopsWithin}
use Rattle.raft_model.specs.Safety.{Lasts}
use Rattle.raft_model.specs.Server.{quorum}
use Rattle.raft_model.proofs.Committed.{any_more}
use Rattle.raft_model.proofs.Lists.{same_get, term_at_less}
use Rattle.raft_model.proofs.Quorum.{count_grows}
use Rattle.raft_model.proofs.Run.{lasts}

prefix_length : (a b : List Entry) → IsPrefix a b → length a ≤ length b
prefix_length a b e = let n : length (take (length a) b) ≡ length a = ap length e in omega (arith, n, length-take (length a) b)

-- so many first entries are those of the longer list too
prefix_same : (a b : List Entry) (k : ℕ) → IsPrefix a b → k ≤ length a → Same k b a
prefix_same a b k e h = sym (take-take k (length a) b h) ∙ ap (take k) e

-- ---- the bag only grows, and the members stay

any_posted : (test : Message → Bool) (messages bag : List Message) → any test bag ≡ true → any test (bag_with messages bag) ≡ true
any_posted test [] bag h = h
any_posted test (message ∷ messages) bag h = any_posted test messages (message ∷ bag) (any_more test message bag h)

any_after : (test : Message → Bool) (world : World) (event : Event) → any test world.bag ≡ true → any test (after world event).bag ≡ true
any_after test world (Opens member) h = h
any_after test world (Steps member step moves fitted) h = any_posted test fitted world.bag h
any_after test world (Stops member step moves) h = h
any_after test world (StopsWithin member step moves next count) h = h

any_run : (test : Message → Bool) (world : World) (events : List Event) → any test world.bag ≡ true → any test (run world events).bag ≡ true
any_run test world [] h = h
any_run test world (event ∷ events) h = any_run test (after world event) events (any_after test world event h)

members_after : (world : World) (event : Event) → (after world event).members ≡ world.members
members_after world (Opens member) = refl
members_after world (Steps member step moves fitted) = refl
members_after world (Stops member step moves) = refl
members_after world (StopsWithin member step moves next count) = refl

members_run : (world : World) (events : List Event) → (run world events).members ≡ world.members
members_run world [] = refl
members_run world (event ∷ events) = members_run (after world event) events ∙ members_after world event

-- ---- settled

module _ (early : World) (events : List Event) (still : Lasts early (run early events)) where
  abbrev late : World
  late = run early events

  acknowledged : (term place member : ℕ) → early.history.led term ≡ true → has_acknowledged early term place member ≡ true
      → has_acknowledged late term place member ≡ true
  acknowledged term place member led h =
      ap (λ (x : ℕ). if x == member then true else any (is_acknowledgement member term place) late.bag) (still.leader term led)
      ∙ either (early.history.leader term == member) h
    where
      either : (b : Bool) → (if b then true else any (is_acknowledgement member term place) early.bag) ≡ true
          → (if b then true else any (is_acknowledgement member term place) late.bag) ≡ true
      either true h = refl
      either false h = any_run (is_acknowledgement member term place) early events h

  firm_lasts : (term place : ℕ) → IsFirm early term place → IsFirm late term place
  firm_lasts term place f = record {
    led = still.led term f.led;
    low = f.low;
    inside = omega (arith, f.inside, prefix_length (early.history.list term) (late.history.list term) grows);
    own_term = term_at_less (late.history.list term) place f.low
        ∙ (ap (λ (e : Entry). e.term) (same_get place (place - 1) (late.history.list term) (early.history.list term) (omega (arith, f.low))
        (prefix_same (early.history.list term) (late.history.list term) place grows f.inside))
        ∙ (sym (term_at_less (early.history.list term) place f.low) ∙ f.own_term));
    held = subst (λ (ms : List ℕ). quorum ms ≤ how_many (has_acknowledged late term place) ms) (sym (members_run early events)) (omega (
      arith,
      f.held,
      count_grows (has_acknowledged early term place) (has_acknowledged late term place) early.members
          (λ x. acknowledged term place x f.led),
    ));
  }
    where
      grows : IsPrefix (early.history.list term) (late.history.list term)
      grows = still.list term f.led

  settled_later : StaysSettled early late
  settled_later log term s = (
    s.0,
    s.1,
    firm_lasts term s.0 s.2,
    s.3
        ∙ sym (prefix_same (early.history.list term) (late.history.list term) (length log) (still.list term s.2.led)
        (omega (arith, s.1, s.2.inside))),
  )

pub settled_lasts : FromEachMoment StaysSettled
settled_lasts members early late l h = settled_later (run (initial_world members) early) late (lasts members early late l h)
