-- Messages between the members, and answers to devices.
use Rattle.std.specs.Prelude.{ℕ, ◌+◌, Bool, List, Option, Some, None}
use Rattle.can_frame.specs.declared.entry.Entry.{Entry}

-- a vote request, or an append request where `append`; it is named by its step, sender and receiver
pub record Request : Type 0 where
  pub step : ℕ
  pub from : ℕ
  pub to : ℕ
  pub append : Bool
  pub term : ℕ
  pub previous : ℕ  -- the previous index; of a vote request the sender's last index
  pub previous_term : ℕ  -- the term there; of a vote request the sender's last term
  pub commit : ℕ
  pub entry : Option Entry

-- how many entries it carries
abbrev pub items : Option Entry → ℕ
items None = 0
items (Some entry) = 1

-- the last index that an append request speaks of
abbrev pub reach : Request → ℕ
reach request = request.previous + items request.entry

-- the answer to a request: success is a vote granted or an append accepted
pub record Answer : Type 0 where
  pub step : ℕ
  pub from : ℕ
  pub request : Request
  pub term : ℕ
  pub success : Bool

-- an allocation answer, which tells a device its node ID
pub record Pair : Type 0 where
  pub step : ℕ
  pub from : ℕ
  pub uid : List ℕ
  pub node : ℕ

pub data Message : Type 0 where
  Requests : (request : Request) → Message
  Answers : (answer : Answer) → Message
  Pairs : (pair : Pair) → Message
