-- Lawful events, one after another, in the worlds of runs.
use Rattle.std.proofs.Common.{◌≡◌, ◌≢◌, ℕ, ◌<◌, true, List, [], ◌∷◌, ◌++◌, refl, sym, ◌∙◌, ap, subst}
use Rattle.raft_model.specs.Lists.{In, at_here, at_other}
use Rattle.raft_model.specs.Handlers.{server_after}
use Rattle.raft_model.specs.Messages.{Message}
use Rattle.raft_model.specs.Moves.{IsEnabled, Move, offers}
use Rattle.raft_model.specs.Runs.{Event, InEveryRun, Lawful, MayOccur, World, after, initial_world, run}
use Rattle.raft_model.specs.Runs.Event.{Opens, Steps, Stops, StopsWithin}
use Rattle.raft_model.specs.Server.{RaftServer}
use Rattle.raft_model.proofs.Prefixes.{joined_lawful, joined_run}
use Rattle.raft_model.proofs.Rows.{takes}
use Rattle.service_steps.specs.Coming.{CanCome}

-- a world of a run
pub record IsReached (world : World) : Type 0 where
  pub members : List ℕ
  pub past : List Event
  pub lawful : Lawful (initial_world members) past
  pub is : run (initial_world members) past ≡ world

pub goes_on : (world : World) (event : Event) → IsReached world → MayOccur world event → IsReached (after world event)
goes_on world event r may = record {
  members = r.members;
  past = r.past ++ event ∷ [];
  lawful = joined_lawful (initial_world r.members) r.past (event ∷ []) r.lawful (subst (λ (w : World). MayOccur w event) (sym r.is) may, tt);
  is = joined_run (initial_world r.members) r.past (event ∷ []) ∙ ap (λ (w : World). after w event) r.is;
}

-- who the members are never changes
one_stays : (world : World) (event : Event) → (after world event).members ≡ world.members
one_stays world (Opens member) = refl
one_stays world (Steps member step moves fitted) = refl
one_stays world (Stops member step moves) = refl
one_stays world (StopsWithin member step moves next count) = refl

pub members_stay : (world : World) (events : List Event) → (run world events).members ≡ world.members
members_stay world [] = refl
members_stay world (event ∷ events) = members_stay (after world event) events ∙ one_stays world event

pub in_reached : (Fact : World → Type 0) → InEveryRun Fact → (world : World) → IsReached world → Fact world
in_reached Fact every world r = subst Fact r.is (every r.members r.past r.lawful)

-- ---- what can come

pub at_once : (world : World) (Holds : World → Type 0) → Holds world → CanCome world Holds
at_once world Holds h = record { events = []; lawful = tt; holds = h }

pub behind : (world : World) (Holds : World → Type 0) (event : Event) → MayOccur world event → CanCome (after world event) Holds → CanCome world Holds
behind world Holds event may c = record { events = event ∷ c.events; lawful = (may, c.lawful); holds = c.holds }

carried : (P Q : World → Type 0) → ((later : World) → IsReached later → P later → CanCome later Q)
    → (world : World) (events : List Event) → IsReached world → Lawful world events → P (run world events) → CanCome world Q
carried P Q f world [] r lawful h = f world r h
carried P Q f world (event ∷ events) r lawful h =
    behind world Q event lawful.0 (carried P Q f (after world event) events (goes_on world event r lawful.0) lawful.1 h)

pub and_then : (P Q : World → Type 0) (world : World) → IsReached world → CanCome world P
    → ((later : World) → IsReached later → P later → CanCome later Q) → CanCome world Q
and_then P Q world r c f = carried P Q f world c.events r c.lawful c.holds

followed : (P Q : World → Type 0) → ((later : World) → P later → CanCome later Q)
    → (world : World) (events : List Event) → Lawful world events → P (run world events) → CanCome world Q
followed P Q f world [] lawful h = f world h
followed P Q f world (event ∷ events) lawful h = behind world Q event lawful.0 (followed P Q f (after world event) events lawful.1 h)

pub after_that : (P Q : World → Type 0) (world : World) → CanCome world P → ((later : World) → P later → CanCome later Q) → CanCome world Q
after_that P Q world c f = followed P Q f world c.events c.lawful c.holds

pub so : (P Q : World → Type 0) (world : World) → CanCome world P → ((later : World) → P later → Q later) → CanCome world Q
so P Q world c f = record { events = c.events; lawful = c.lawful; holds = f (run world c.events) c.holds }

-- ---- a step of one move

abbrev pub does : World → ℕ → ℕ → Move → List Message → World
does world member step move fitted = after world (Steps member step (move ∷ []) fitted)

-- it may come at this world
pub record Does (world : World) (member step : ℕ) (move : Move) (fitted : List Message) (server : RaftServer) : Type 0 where
  pub is : world.server member ≡ server
  pub up : server.memory.up ≡ true
  pub later : world.steps < step
  pub comes : IsEnabled world.members member world.bag [] server move
  pub inside : (message : Message) → In message fitted → In message (offers member step server move)

pub may_do : (world : World) (member step : ℕ) (move : Move) (fitted : List Message) (server : RaftServer)
    → Does world member step move fitted server → MayOccur world (Steps member step (move ∷ []) fitted)
may_do world member step move fitted server d =
    takes world member step move
    (record { up = ap (λ (s : RaftServer). s.memory.up) d.is ∙ d.up; later = d.later })
    (subst (λ (s : RaftServer). IsEnabled world.members member world.bag [] s move) (sym d.is) d.comes) fitted
    (λ message i. subst (λ (s : RaftServer). In message (offers member step s move)) (sym d.is) (d.inside message i))

pub doing : (world : World) (Holds : World → Type 0) (member step : ℕ) (move : Move) (fitted : List Message) (server : RaftServer)
    → Does world member step move fitted server → CanCome (does world member step move fitted) Holds → CanCome world Holds
doing world Holds member step move fitted server d c =
    behind world Holds (Steps member step (move ∷ []) fitted) (may_do world member step move fitted server d) c

-- the server is then what the move leaves, and each other stays
pub its_server : (world : World) (member step : ℕ) (move : Move) (fitted : List Message) (server : RaftServer)
    → world.server member ≡ server
    → (does world member step move fitted).server member ≡ server_after world.members member step server move
its_server world member step move fitted server e =
    at_here world.server member member (server_after world.members member step (world.server member) move) refl
    ∙ ap (λ (s : RaftServer). server_after world.members member step s move) e

pub other_server : (world : World) (member step : ℕ) (move : Move) (fitted : List Message) (other : ℕ) → other ≢ member
    → (does world member step move fitted).server other ≡ world.server other
other_server world member step move fitted other n =
    at_other world.server member other (server_after world.members member step (world.server member) move) n
