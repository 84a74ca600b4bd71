-- What a receiver stands for.
use Rattle.std.specs.Prelude.{ℕ, List, Option}
use Rattle.transfer_rx.specs.declared.receiver.Receiver.{Receiver}
use Rattle.transfer_rx.specs.declared.key.Key.{Key}
use Rattle.transfer_rx.specs.declared.transfer.Transfer.{Transfer}
use Rattle.transfer_rx.specs.Chains.{HaveChains, place_of}
use Rattle.transfer_rx.specs.Places.{KeepSessions}
use Rattle.transfer_rx.specs.Reassembly.{Setting}
use Rattle.transfer_rx.specs.Sessions.{Session}

-- what a receiver keeps stands for the sessions of the definition
abbrev pub HasSessions : {F : Type 0} {S N : ℕ} → Receiver F S N → List Session → Type 0
HasSessions receiver sessions = KeepSessions receiver.sessions.progress receiver.sessions.pool sessions

-- what a receiver was made with
abbrev pub setting_of : {F : Type 0} {S N : ℕ} → Receiver F S N → Setting
setting_of {S} {N} receiver = record { rows = receiver.rows.items; me = receiver.me; sessions = S; blocks = N }

-- the closure that was given to a receiver
abbrev pub accept_of : {F : Type 0} {S N : ℕ} → Receiver F S N → F
accept_of receiver = receiver.accept

-- the transfer that a receiver delivered last
abbrev pub delivered_by : {F : Type 0} {S N : ℕ} → Receiver F S N → Transfer
delivered_by receiver = receiver.delivered

-- the chains of a receiver's pool, each as its bytes
abbrev pub chains_in : {F : Type 0} {S N : ℕ} → Receiver F S N → List (List ℕ)
chains_in receiver = receiver.sessions.pool

-- the number of the chain of a key's session
abbrev pub chain_of : {F : Type 0} {S N : ℕ} → Receiver F S N → Key → Option ℕ
chain_of receiver key = place_of key receiver.sessions.progress

-- each session has a chain of its own in the pool, with the bytes of the frames that it took, and no other chain has
-- bytes
abbrev pub HasChains : {F : Type 0} {S N : ℕ} → Receiver F S N → List Session → Type 0
HasChains {S} receiver sessions = HaveChains S (chain_of receiver) (chains_in receiver) sessions
