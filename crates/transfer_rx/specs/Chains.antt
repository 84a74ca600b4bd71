-- Which chain of a receiver's pool has the bytes of which session.
use Rattle.std.specs.Prelude.{◌≡◌, ◌↔◌, ℕ, ◌<◌, Bool, false, List, [], slice_index_or, Option, Some, None}
use Rattle.std.specs.List.{position}
use Rattle.can_frame.specs.Cutting.{joined}
use Rattle.transfer_rx.specs.declared.key.Key.{Key}
use Rattle.transfer_rx.specs.declared.progress.Progress.{Progress}
use Rattle.transfer_rx.specs.Keys.{same_key}
use Rattle.transfer_rx.specs.Sessions.{Session, session_of}

abbrev pub is_of_key : Key → Option Progress → Bool
is_of_key key None = false
is_of_key key (Some there) = same_key key there.key

-- the place of a key's session, which is also the number of its chain
abbrev pub place_of : Key → List (Option Progress) → Option ℕ
place_of key progress = position (is_of_key key) progress

-- each session has a chain of its own, and no other chain has bytes
pub record HaveChains (most : ℕ) (number : Key → Option ℕ) (chains : List (List ℕ))
    (sessions : List Session) : Type 0 where
  -- the chain of a session has the bytes of the frames that it took, without their tails
  pub each : (key : Key) (session : Session) → session_of key sessions ≡ Some session →
      (chain : ℕ) × (number key ≡ Some chain) × (chain < most)
      × (slice_index_or chains chain [] ≡ joined session.taken)
  -- two sessions have different ones
  pub different : (a b : Key) (chain : ℕ) → number a ≡ Some chain → number b ≡ Some chain → a ≡ b
  -- a key has none exactly where there is no session of it
  pub none : (key : Key) → (number key ≡ None) ↔ (session_of key sessions ≡ None)
  -- a chain that is no session's is empty
  pub empty : (chain : ℕ) → ((key : Key) → number key ≡ Some chain → ⊥) → slice_index_or chains chain [] ≡ []
