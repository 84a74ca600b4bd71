-- What is settled stays settled, through replacements too: acknowledgements are never forgotten.
use Rattle.std.proofs.Common.{◌≡◌, ℕ, ◌-◌, ◌≤◌, Bool, true, false, List, [], ◌∷◌, length, refl, sym, ap, subst, ◌∙◌, arith}
use Rattle.std.specs.Prelude.{◌==◌, if◌then◌else◌}
use Rattle.can_frame.specs.declared.entry.Entry.{Entry}
use Rattle.can_frame.specs.Log.{IsPrefix}
use Rattle.raft_model.specs.Invariants.{IsFirm, StaysSettled, has_acknowledged, is_acknowledgement}
use Rattle.raft_model.specs.Lists.{any, how_many}
use Rattle.raft_model.specs.Messages.{Message}
use Rattle.raft_model.specs.Messages.Message.{Answers, Pairs, Requests}
use Rattle.raft_model.specs.Runs.{World, bag_with}
use Rattle.raft_model.specs.Runs.Event.{Opens, Steps, Stops, StopsWithin}
use Rattle.raft_model.specs.Safety.{Lasts}
use Rattle.raft_model.specs.Server.{quorum}
use Rattle.raft_model.proofs.Committed.{any_more}
use Rattle.raft_model.proofs.Complete.{and_left, and_right}
use Rattle.raft_model.proofs.Lists.{same_get, term_at_less}
use Rattle.raft_model.proofs.Quorum.{any_found, any_there, count_grows}
use Rattle.raft_replaced.specs.Changes.{Change, after_change, changed}
use Rattle.raft_replaced.specs.Changes.Change.{Copies, Happens}
use Rattle.raft_replaced.specs.Replacement.{is_remembered, remains, stores_of}
use Rattle.raft_replaced.proofs.Filters.{filter_has, or_left}
use Rattle.bus_agreement.proofs.Lists.{never}
use Rattle.bus_agreement.proofs.Prefixes.{prefix_length, prefix_take}

-- ---- acknowledgements in the bag

any_posted : (test : Message → Bool) (messages bag : List Message) → any test bag ≡ true → any test (bag_with messages bag) ≡ true
any_posted test [] bag h = h
any_posted test (message ∷ messages) bag h = any_posted test messages (message ∷ bag) (any_more test message bag h)

module _ (member term place : ℕ) where
  abbrev is_ack : Message → Bool
  is_ack = is_acknowledgement member term place

  ack_remains : (world : World) (top : ℕ) (message : Message) → is_ack message ≡ true → remains world.history top message ≡ true
  ack_remains world top (Requests r) e = never e
  ack_remains world top (Pairs p) e = never e
  ack_remains world top (Answers a) e =
      let rest = and_right a.success _ (and_right (a.from == member) _ e) in
      or_left a.request.append (is_remembered world.history top a.request.from a.request.term) (and_left a.request.append _ rest)

  acks_after : (world : World) (change : Change) → any is_ack world.bag ≡ true → any is_ack (after_change world change).bag ≡ true
  acks_after world (Happens (Opens m)) h = h
  acks_after world (Happens (Steps m step moves fitted)) h = any_posted is_ack fitted world.bag h
  acks_after world (Happens (Stops m step moves)) h = h
  acks_after world (Happens (StopsWithin m step moves next count)) h = h
  acks_after world (Copies lost leader) h =
      let top = (stores_of world leader).term in
      let g = any_found is_ack world.bag h in
      any_there is_ack (after_change world (Copies lost leader)).bag g.0
      (filter_has (remains world.history top) world.bag g.0 g.1 (ack_remains world top g.0 g.2)) g.2

  acks_stay : (world : World) (changes : List Change) → any is_ack world.bag ≡ true → any is_ack (changed world changes).bag ≡ true
  acks_stay world [] h = h
  acks_stay world (change ∷ changes) h = acks_stay (after_change world change) changes (acks_after world change h)

members_after : (world : World) (change : Change) → (after_change world change).members ≡ world.members
members_after world (Happens (Opens m)) = refl
members_after world (Happens (Steps m step moves fitted)) = refl
members_after world (Happens (Stops m step moves)) = refl
members_after world (Happens (StopsWithin m step moves next count)) = refl
members_after world (Copies lost leader) = refl

members_stay : (world : World) (changes : List Change) → (changed world changes).members ≡ world.members
members_stay world [] = refl
members_stay world (change ∷ changes) = members_stay (after_change world change) changes ∙ members_after world change

-- ---- settled

module _ (early : World) (changes : List Change) (lasts : Lasts early (changed early changes)) where
  abbrev late : World
  late = changed early changes

  acknowledged : (term place member : ℕ) → early.history.led term ≡ true → has_acknowledged early term place member ≡ true
      → has_acknowledged late term place member ≡ true
  acknowledged term place member led h =
      ap (λ (x : ℕ). if x == member then true else any (is_acknowledgement member term place) late.bag) (lasts.leader term led)
      ∙ either (early.history.leader term == member) h
    where
      either : (b : Bool) → (if b then true else any (is_acknowledgement member term place) early.bag) ≡ true
          → (if b then true else any (is_acknowledgement member term place) late.bag) ≡ true
      either true h = refl
      either false h = acks_stay member term place early changes h

  firm_lasts : (term place : ℕ) → IsFirm early term place → IsFirm late term place
  firm_lasts term place f = record {
    led = lasts.led term f.led;
    low = f.low;
    inside = omega (arith, f.inside, prefix_length (early.history.list term) (late.history.list term) grows);
    own_term = term_at_less (late.history.list term) place f.low
        ∙ (ap (λ (e : Entry). e.term) (same_get place (place - 1) (late.history.list term) (early.history.list term) (omega (arith, f.low))
        (prefix_take (early.history.list term) (late.history.list term) place grows f.inside))
        ∙ (sym (term_at_less (early.history.list term) place f.low) ∙ f.own_term));
    held = subst (λ (ms : List ℕ). quorum ms ≤ how_many (has_acknowledged late term place) ms) (sym (members_stay early changes)) (omega (
      arith,
      f.held,
      count_grows (has_acknowledged early term place) (has_acknowledged late term place) early.members
          (λ x. acknowledged term place x f.led),
    ));
  }
    where
      grows : IsPrefix (early.history.list term) (late.history.list term)
      grows = lasts.list term f.led

  pub stays_settled : StaysSettled early late
  stays_settled log term s = (
    s.0,
    s.1,
    firm_lasts term s.0 s.2,
    s.3
        ∙ sym (prefix_take (early.history.list term) (late.history.list term) (length log) (lasts.list term s.2.led)
        (omega (arith, s.1, s.2.inside))),
  )
