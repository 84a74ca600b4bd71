-- What is read of an image keeps what a stored state keeps.
use Rattle.std.proofs.Common.{◌≡◌, ℕ, ◌≤◌, List, length, get_or, refl, sym, ap, ◌∙◌, arith}
use Rattle.std.specs.Prelude.{Option, None, Some, unwrap_or}
use Rattle.std.proofs.lemmas.List.{length-map}
use Rattle.std.proofs.Math.ListN.{get_or-map}
use Rattle.kv_store.specs.Image.{value_in}
use Rattle.raft_log.specs.declared.stored.Stored.{Stored as Reading}
use Rattle.raft_log.specs.MayFollow.{IsStorable}
use Rattle.raft_log.specs.Reading.{IsReadFrom, IsReadable, Tells}
use Rattle.raft_log.specs.Rules.{IsDamagedAt}
use Rattle.raft_log.specs.Stored.{Stored, told_origins}
use Rattle.raft_log.proofs.States.{same_state, whole_or_damaged}

told_low : (origin : Option ℕ) → ((n : ℕ) → origin ≡ Some n → n ≤ 4) → unwrap_or origin 0 ≤ 4
told_low None low = omega arith
told_low (Some n) low = low n refl

pub readable : (read : Reading) (state : Stored) → Tells read state → IsStorable state → IsReadable read
readable read state tells keeps = record {
  vote = rw tells.vote keeps.vote;
  room = rw tells.entries keeps.room;
  commit = rw (tells.commit, tells.entries) keeps.commit;
  formed = rw tells.entries (λ i below. (keeps.follows i below).formed);
  injective = rw tells.entries keeps.injective;
  count = ap length tells.origins ∙ (length-map state.origins (λ (origin : Option ℕ). unwrap_or origin 0) ∙ (keeps.count ∙ ap length (sym tells.entries)));
  limit = rw tells.origins (λ i. rw (get_or-map (λ (origin : Option ℕ). unwrap_or origin 0) state.origins i None) (told_low (get_or state.origins i None) (keeps.limit i)));
}

-- of an image one thing is read
pub read_once : (image : List ℕ) (a b : Reading) → IsReadFrom image a → IsReadFrom image b → a ≡ b
read_once image a b first second =
    let same = same_state (value_in image) first.state second.state first.stands.stores second.stands.stores in
    let x = first.tells in
    let y = second.tells in
    let entries = x.entries ∙ (ap (λ (s : Stored). s.log) same ∙ sym y.entries) in
    let origins = x.origins ∙ (ap (λ (s : Stored). told_origins s.origins) same ∙ sym y.origins) in
    λ i. record {
      term = (x.term ∙ (ap (λ (s : Stored). s.term) same ∙ sym y.term)) i;
      vote = (x.vote ∙ (ap (λ (s : Stored). s.vote) same ∙ sym y.vote)) i;
      commit = (x.commit ∙ (ap (λ (s : Stored). s.commit) same ∙ sym y.commit)) i;
      entries = record { items = entries i };
      origins = record { items = origins i };
    }

pub read_or_damaged : (image : List ℕ) (read : Reading) (key : ℕ) → IsReadFrom image read → IsDamagedAt image key → ⊥
read_or_damaged image read key first damaged = whole_or_damaged image first.state key first.stands damaged
