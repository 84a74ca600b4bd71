-- What a member has committed stands in the list of each term from its own on, of which each request has a part.
use Rattle.std.proofs.Common.{◌≡◌, ℕ, zero, suc, ◌<◌, ◌≤◌, List, length, true, refl, take, get_or, get_or-take, ap, sym, ◌∙◌, inl, inr, arith}
use Rattle.std.proofs.lemmas.Bool.Decides.{eqb_tells}
use Rattle.std.proofs.lemmas.List.{length-take-le}
use Rattle.std.specs.Prelude.{slice_index_or}
use Rattle.can_frame.specs.declared.entry.Entry.{Entry}
use Rattle.can_frame.specs.Log.{blank}
use Rattle.raft_model.specs.Log.{term_at}
use Rattle.raft_model.specs.Invariants.{CommitsSettled, IsSettled, LeadersComplete, LogsMatch, StoresSound}
use Rattle.raft_model.specs.Lists.{In}
use Rattle.raft_model.specs.Messages.{Request}
use Rattle.raft_model.specs.Messages.Message.{Requests}
use Rattle.raft_model.specs.OneLog.{HasOneLog, HasOnePast}
use Rattle.raft_model.specs.Runs.{World}
use Rattle.raft_model.specs.Server.{committed}
use Rattle.raft_model.proofs.Lists.{same_get}

-- lists with the same first entries have the same term at each place up to there
same_term : (place : ℕ) (a b : List Entry) → ((i : ℕ) → i < place → slice_index_or a i (blank 0) ≡ slice_index_or b i (blank 0)) → term_at a place ≡ term_at b place
same_term zero a b same = refl
same_term (suc i) a b same = ap (λ (e : Entry). e.term) (same i (omega arith))

module _ (world : World) (sound : StoresSound world) (matching : LogsMatch world) (settled : CommitsSettled world) (complete : LeadersComplete world)
    (member : ℕ) (request : Request) (there : In (Requests request) world.bag) (append : request.append ≡ true)
    (recent : (world.server member).store.term ≤ request.term) where
  -- what the member has committed is settled by this term
  by_settled : (place : ℕ) → place < (world.server member).store.commit → (term : ℕ) → term ≤ (world.server member).store.term →
      IsSettled world (committed (world.server member).store) term →
      slice_index_or (world.server member).store.log place (blank 0) ≡ slice_index_or (world.history.list request.term) place (blank 0)
  by_settled place low term old is =
      let store = (world.server member).store in
      let front = committed store in
      let list = world.history.list request.term in
      let led = (matching.previous request there append).0 in
      let here : get_or front place (blank 0) ≡ get_or store.log place (blank 0) = get_or-take store.commit store.log place (blank 0) low in
      let size : length front ≡ store.commit = length-take-le store.commit store.log (sound member).commit in
      let within : place < length front = omega (arith, size, low) in
      elim (eqb_tells term request.term) [
        | inl h ↦ sym here ∙ same_get (length front) place front list within (is.3 ∙ ap (λ t. take (length front) (world.history.list t)) h.1)
        | inr h ↦ let prefix = complete front term request.term is (let other = h.1 in omega (arith, old, other, recent)) led in
            sym here ∙ ap (λ (log : List Entry). get_or log place (blank 0)) (sym prefix) ∙ get_or-take (length front) list place (blank 0) within
      ]

  in_list : (place : ℕ) → place < (world.server member).store.commit →
      slice_index_or (world.server member).store.log place (blank 0) ≡ slice_index_or (world.history.list request.term) place (blank 0)
  in_list place low = elim (settled.servers member) [
    | inl none ↦ absurd (omega (arith, none, low))
    | inr (term, old, is) ↦ by_settled place low term old is
  ]

pub one_log : (world : World) → StoresSound world → LogsMatch world → CommitsSettled world → LeadersComplete world → HasOneLog world
one_log world sound matching settled complete member request entry there append carries recent low =
    in_list world sound matching settled complete member request there append recent request.previous low ∙ (matching.entry request entry there append carries).1

pub one_past : (world : World) → StoresSound world → LogsMatch world → CommitsSettled world → LeadersComplete world → HasOnePast world
one_past world sound matching settled complete member request there append recent low =
    same_term request.previous (world.server member).store.log (world.history.list request.term)
    (λ i before. in_list world sound matching settled complete member request there append recent i (omega (arith, before, low)))
    ∙ (matching.previous request there append).2
