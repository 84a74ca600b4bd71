-- Puts with their origins, and the puts alone.
use Rattle.std.proofs.Common.{◌≡◌, ℕ, zero, suc, ◌+◌, List, [], ◌∷◌, ◌++◌, Option, Some, None, take, refl, ap, sym, ◌∙◌, append_assoc}
use Rattle.std.specs.Prelude.{Bool, true, false, if◌then◌else◌, ◌==◌}
use Rattle.can_frame.specs.declared.entry.Entry.{Entry}
use Rattle.raft_log.specs.Stored.{Put as StoredPut, Stored, after_put, after_puts, opening_puts, origin_puts}
use Rattle.raft_model.specs.Handlers.{server_after, server_after_all, puts_of_all}
use Rattle.raft_model.specs.Moves.{Move, puts}
use Rattle.raft_model.specs.Server.{RaftServer, Put}
use Rattle.raft_core.specs.Handled.{puts_with_origins, origin_of}
use Rattle.raft_core.specs.StoredPuts.{PutWithOrigin, with_origin, puts_alone, store_of}
use Rattle.raft_core.specs.Times.{HandedIn}

-- ---- the puts alone

noted_then : (origin : ℕ) (xs : List Put) (ys : List PutWithOrigin) → puts_alone (with_origin origin xs ++ ys) ≡ xs ++ puts_alone ys
noted_then origin [] ys = refl
noted_then origin (x ∷ xs) ys = ap (λ (rest : List Put). x ∷ rest) (noted_then origin xs ys)

pub raft_server_both : (xs ys : List PutWithOrigin) → puts_alone (xs ++ ys) ≡ puts_alone xs ++ puts_alone ys
raft_server_both [] ys = refl
raft_server_both (x ∷ xs) ys = ap (λ (rest : List Put). x.put ∷ rest) (raft_server_both xs ys)

pub raft_server_front : (xs : List PutWithOrigin) (count : ℕ) → puts_alone (take count xs) ≡ take count (puts_alone xs)
raft_server_front [] zero = refl
raft_server_front [] (suc count) = refl
raft_server_front (x ∷ xs) zero = refl
raft_server_front (x ∷ xs) (suc count) = ap (λ (rest : List Put). x.put ∷ rest) (raft_server_front xs count)

module _ (members : List ℕ) (m n : ℕ) (given : HandedIn) where
  pub raft_server_of_moves : (p : RaftServer) (moves : List Move) → puts_alone (puts_with_origins members m n given p moves) ≡ puts_of_all members m n p moves
  raft_server_of_moves p [] = refl
  raft_server_of_moves p (move ∷ moves) = noted_then (origin_of given move) (puts members m p move) (puts_with_origins members m n given (server_after members m n p move) moves)
      ∙ ap (λ (rest : List Put). puts members m p move ++ rest) (raft_server_of_moves (server_after members m n p move) moves)

  pub noted_in_turn : (xs ys : List Move) (p : RaftServer)
      → puts_with_origins members m n given p (xs ++ ys) ≡ puts_with_origins members m n given p xs ++ puts_with_origins members m n given (server_after_all members m n p xs) ys
  noted_in_turn [] ys p = refl
  noted_in_turn (x ∷ xs) ys p = let p1 = server_after members m n p x in
      ap (λ (rest : List PutWithOrigin). with_origin (origin_of given x) (puts members m p x) ++ rest) (noted_in_turn xs ys p1)
      ∙ sym (append_assoc (with_origin (origin_of given x) (puts members m p x)) (puts_with_origins members m n given p1 xs) (puts_with_origins members m n given (server_after_all members m n p1 xs) ys))

-- ---- an opening

-- however many of these puts are done
abbrev IsUnseen : List StoredPut → Type 0
IsUnseen puts = (count : ℕ) (s : Stored) → store_of (after_puts (take count puts) s) ≡ store_of s

version_unseen : IsUnseen (StoredPut.PutVersion ∷ [])
version_unseen zero s = refl
version_unseen (suc zero) s = refl
version_unseen (suc (suc count)) s = refl

none_unseen : IsUnseen []
none_unseen zero s = refl
none_unseen (suc count) s = refl

origins_unseen : (more : List StoredPut) → IsUnseen more → (place : ℕ) (log : List Entry) (origins : List (Option ℕ)) → IsUnseen (origin_puts place log origins ++ more)
origins_unseen more h place [] origins count s = h count s
origins_unseen more h place (e ∷ log) [] count s = h count s
origins_unseen more h place (e ∷ log) (None ∷ origins) zero s = refl
origins_unseen more h place (e ∷ log) (None ∷ origins) (suc count) s = origins_unseen more h (place + 1) log origins count (after_put (StoredPut.PutOrigin place e) s)
origins_unseen more h place (e ∷ log) (Some origin ∷ origins) count s = origins_unseen more h (place + 1) log origins count s

pub opening_unseen : (s : Stored) (count : ℕ) → store_of (after_puts (take count (opening_puts s)) s) ≡ store_of s
opening_unseen s count = by_version (s.version == 2) where
  by_version : (b : Bool) → store_of (after_puts (take count (if b then [] else origin_puts 0 s.log s.origins ++ StoredPut.PutVersion ∷ [])) s) ≡ store_of s
  by_version true = none_unseen count s
  by_version false = origins_unseen (StoredPut.PutVersion ∷ []) version_unseen 0 s.log s.origins count s
