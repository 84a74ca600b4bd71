-- Every member, with whatever it has stored, stands for some server and times.
use Rattle.std.proofs.Common.{◌≡◌, ℕ, ◌<◌, true, false, Option, Some, None, refl, sym, subst, arith}
use Rattle.std.specs.Prelude.{slice_index_or}
use Rattle.std.proofs.lemmas.List.{get_or_default}
use Rattle.raft_log.specs.Stored.{Stored}
use Rattle.raft_model.specs.Messages.{Request}
use Rattle.raft_model.specs.Server.{RaftServer}
use Rattle.raft_core.specs.declared.peer.Asked.{Asked}
use Rattle.raft_core.specs.declared.peer.Asked.TheVariants.{Vote, Append}
use Rattle.raft_core.specs.declared.peer.Peer.{Peer}
use Rattle.raft_core.specs.declared.peer.Waiting.{Waiting}
use Rattle.raft_core.specs.declared.raft.Raft.{Raft}
use Rattle.raft_core.specs.Peers.{fresh}
use Rattle.raft_core.specs.Stands.{Asks, StandsFor, Tells, Waits, role_of}
use Rattle.raft_core.specs.StoredPuts.{store_of}
use Rattle.raft_core.specs.Times.{Sending, Times}

-- a request that asks for this, made in a step
abbrev request_for : ℕ → Asked → Request
request_for step Vote = record { step = step; from = 0; to = 0; append = false; term = 0; previous = 0; previous_term = 0; commit = 0; entry = None }
request_for step (Append place) = record { step = step; from = 0; to = 0; append = true; term = 0; previous = place; previous_term = 0; commit = 0; entry = None }

abbrev pending_for : Option Waiting → Option Request
pending_for None = None
pending_for (Some call) = Some (request_for call.step call.asked)

abbrev sending_for : Option Waiting → Option Sending
sending_for None = None
sending_for (Some call) = Some (record { id = call.id; moment = call.sent })

abbrev peer_at : Raft → ℕ → Peer
peer_at raft q = slice_index_or raft.peers q (fresh 0)

abbrev pub server_for : Raft → Stored → RaftServer
server_for raft state = record {
  store = store_of state;
  memory = record {
    up = true;
    role = role_of raft.role;
    told = raft.told;
    votes = λ q. (peer_at raft q).voted;
    next = λ q. (peer_at raft q).next;
    matched = λ q. (peer_at raft q).matched;
    pending = λ q. pending_for (peer_at raft q).call;
  };
}

abbrev pub times_for : Raft → Times
times_for raft = record { since = raft.since; word = raft.word; waits = raft.waits; answered = λ q. (peer_at raft q).answered; appended = λ q. (peer_at raft q).appended; sending = λ q. sending_for (peer_at raft q).call }

asks : (step : ℕ) (asked : Asked) → Asks asked (request_for step asked)
asks step Vote = refl
asks step (Append place) = (refl, omega arith)

step_for : (step : ℕ) (asked : Asked) → (request_for step asked).step ≡ step
step_for step Vote = refl
step_for step (Append place) = refl

waits_for : (call : Option Waiting) → Waits call (pending_for call) (sending_for call)
waits_for None = tt
waits_for (Some call) = record { asks = asks call.step call.asked; step = step_for call.step call.asked; id = refl; moment = refl }

pub stands_for : (raft : Raft) (state : Stored) → StandsFor raft raft.members.items state (server_for raft state) (times_for raft)
stands_for raft state = record {
  store = refl;
  role = refl;
  told = refl;
  known = λ other. refl;
  since = refl;
  word = refl;
  waits = refl;
  peers = λ q d below.
      subst (λ (peer : Peer). Tells peer (server_for raft state) (times_for raft) q) (get_or_default raft.peers q (fresh 0) d (subst (λ n. q < n) (sym raft.table) below))
      (record { call = waits_for (peer_at raft q).call; voted = λ h. refl; answered = λ h. refl; next = λ h. refl; matched = λ h. refl; appended = λ h. refl });
}
