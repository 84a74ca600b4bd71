-- Where a transfer may begin at a receiver.
use Rattle.std.specs.Prelude.{⊤, ◌≡◌, ◌≢◌, ◌⊎◌, ℕ, true, List, [], ◌∷◌}
use Rattle.transfer_rx.specs.declared.key.Key.{Key}
use Rattle.transfer_rx.specs.Sessions.{Session, is_recent, next_id}

-- A transfer with this ID begins in a session: nothing is in progress there and it is the one that is expected, or it
-- is neither that one nor the one before it.
abbrev pub Admits : ℕ → Session → Type 0
Admits id session = ((session.expected ≡ id) × (session.taken ≡ []) × (session.marks ≡ []))
    ⊎ ((id ≢ session.expected) × (next_id id ≢ session.expected))

-- a transfer with this ID begins in each session of this key that is not forgotten by now
abbrev pub AllAdmit : (now : ℕ) → Key → ℕ → List Session → Type 0
AllAdmit now key id [] = ⊤
AllAdmit now key id (session ∷ sessions) = (session.key ≡ key → is_recent now session ≡ true → Admits id session)
    × AllAdmit now key id sessions
