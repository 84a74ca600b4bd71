-- Who is let in to a member that is told the list of its cluster, so that places of the log and node IDs are not used
-- up in a hurry. Places are taken by the entries of its log, by nodes that show themselves and do not stand there, and
-- by requests with a last part since the log was read. As long as fewer than 100 are taken, everybody is let in. Where
-- there is no room for one who comes, the limit rises to one above the places that are taken, once in ten minutes.
--
--   places, limit, last rise      comes at     who comes                          let in
--   99, 100, 0                    5,000        node 40 shows itself               yes, and then 100 places are taken
--   100, 100, 0                   5,100        node 40 again                      yes: it is counted
--   100, 100, 0                   5,100        node 41 shows itself               no
--   100, 100, 0                   5,200        a new unique ID                    no
--   100, 100, 0                   5,200        a unique ID of the log             yes
--   100, 100, 0                   600,000      node 41 shows itself               yes: the limit rises to 101
--   101, 101, 600,000             600,100      node 42 shows itself               no
--   99, 101, 600,000              603,000      a new unique ID                    no: node 42 was turned away
--   99, 101, 600,000              604,101      a new unique ID                    yes
--
-- A member puts parts together that come within 500 ms of its own clock, which stands still during a turn. Here 100
-- places are taken since 380, one of them by a blank, and the limit is 100:
--
--   comes at     who comes                                               let in
--   0            the first part of a new unique ID, and the second       yes: 99 places were taken
--   400          node 41 shows itself                                    no
--   612          the last part, 00 00 00 00; the turn began at 440       no: the parts before count, and a blank is of
--                                                                        no device. The member would record the unique
--                                                                        ID, perhaps with node ID 41
--   1,600        the first part of a unique ID of the log                yes: nothing counts that came before
use Rattle.std.specs.Prelude.{◌≡◌, ◌≢◌, ℕ, ◌+◌, ◌&&◌, ◌||◌, not, min, nat_eq, nat_le, nat_lt, Bool, true, false, Contains, List, [], ◌∷◌, length, replicate, count_by, slice_index_or, slice_set, Option, Some, None, if◌then◌else◌}
use Rattle.std.specs.List.{list_any}
use Rattle.can_frame.specs.Sizes.{node_ids}
use Rattle.can_frame.specs.Zeros.{zeros}
use Rattle.can_frame.specs.declared.entry.Entry.{Entry}
use Rattle.newcomer_link.specs.Partials.{has_all_told, has_part, makes_whole, is_of_log, untold_yet, with_part}
use Rattle.newcomer_link.specs.declared.approach.Approach.{Approach}
use Rattle.newcomer_link.specs.declared.approach.Approach.TheVariants.{Shows, Asks}
use Rattle.newcomer_link.specs.declared.partial.Part.{Part}
use Rattle.newcomer_link.specs.declared.partial.Partial.{Partial}
use Rattle.newcomer_link.specs.declared.requests.Requests.{Requests}

-- ---- times, in milliseconds, and the limit

-- so many places are free for everybody: no power-on of 100 nodes is slowed where the log has no other entries
abbrev pub places_at_once : ℕ
places_at_once = 100

-- the limit rises once in so long
abbrev pub between_newcomers : ℕ
between_newcomers = 600000

-- a node counts for so long behind its last NodeStatus. A member holds it for online, and may record it, for 3,000 ms
abbrev pub counted_for : ℕ
counted_for = 4000

-- the log is read again after so long at the soonest
abbrev pub between_readings : ℕ
between_readings = 100

-- Behind so long without a request a member has no bytes of one. It forgets them after 500 ms, but goes by the moment
-- at which its turn began. This link reads the clock later in the turn, which may take 1,000 ms.
abbrev pub between_exchanges : ℕ
between_exchanges = 1600

-- ---- what is known

pub record Standing : Type 0 where
  -- the entries of the log, as it was read last
  pub log : List Entry
  -- the last reading of the log succeeded
  pub is_read : Bool
  -- when it was, or was tried
  pub read_at : Option ℕ
  -- by node ID, the last NodeStatus that was let in of each node that did not stand in the log
  pub heard : List (Option ℕ)
  -- so many requests with a last part were let in since the log was read; it stays at 255
  pub asked : ℕ
  pub limit : ℕ
  -- when it was set, or rose last
  pub since : ℕ
  -- the last NodeStatus that was turned away
  pub turned_away : Option ℕ
  -- the requests since one that was not followed by another for long
  pub requests : Option Requests

abbrev pub standing_at : ℕ → Standing
standing_at now = record {
  log = [];
  is_read = false;
  read_at = None;
  heard = replicate node_ids None;
  asked = 0;
  limit = places_at_once;
  since = now;
  turned_away = None;
  requests = None;
}

-- ---- places

abbrev pub is_lately : ℕ → Option ℕ → Bool
is_lately now None = false
is_lately now (Some last) = nat_le now (last + counted_for)

abbrev pub places_taken : ℕ → Standing → ℕ
places_taken now standing = length standing.log + count_by (is_lately now) standing.heard + standing.asked

abbrev pub is_room : ℕ → Standing → Bool
is_room now standing = nat_lt (places_taken now standing) standing.limit

-- somebody comes for whom there is no room: the limit rises, where it did not for ten minutes
abbrev pub is_rise_due : ℕ → Standing → Bool
is_rise_due now standing = not (is_room now standing) && nat_le (standing.since + between_newcomers) now

abbrev pub with_rise : ℕ → Standing → Standing
with_rise now standing = if is_rise_due now standing
    then record standing { limit = places_taken now standing + 1; since = now } else standing

-- ---- the log is read

abbrev pub is_reading_due : ℕ → Option ℕ → Bool
is_reading_due now None = true
is_reading_due now (Some last) = nat_le (last + between_readings) now

abbrev pub unheard_of : ℕ → List (Option ℕ) → List (Option ℕ)
unheard_of node heard = if nat_lt node node_ids then slice_set heard node None else heard

-- who stands in the log is counted there
abbrev pub without_logged : List Entry → List (Option ℕ) → List (Option ℕ)
without_logged [] heard = heard
without_logged (entry ∷ entries) heard = without_logged entries (unheard_of entry.node heard)

-- where the log cannot be read, that of the reading before still counts
abbrev pub with_reading : ℕ → Option (List Entry) → Standing → Standing
with_reading now None standing = record standing { is_read = false; read_at = Some now }
with_reading now (Some log) standing = record standing {
  log = log;
  is_read = true;
  read_at = Some now;
  heard = without_logged log standing.heard;
  asked = 0;
}

-- ---- who is let in

-- whether one who comes is let in, and what is known then
pub record Ruling : Type 0 where
  pub is_let_in : Bool
  pub behind : Standing

-- the node stands in the log
abbrev pub is_logged : ℕ → Standing → Bool
is_logged node standing = standing.is_read && list_any (λ entry. nat_eq entry.node node) standing.log

-- the node is counted already; or the log cannot be read, and all nodes pass. Each of them costs an entry at most
abbrev pub is_free_to_show : ℕ → ℕ → Standing → Bool
is_free_to_show now node standing =
    not standing.is_read || is_lately now (slice_index_or standing.heard node None)

abbrev pub with_heard_at : ℕ → ℕ → Standing → Standing
with_heard_at now node standing = record standing { heard = slice_set standing.heard node (Some now) }

-- a node that is not known shows itself, behind a rise where one was due
abbrev pub rule_newcomer : ℕ → ℕ → Standing → Ruling
rule_newcomer now node standing = if is_room now standing
    then record { is_let_in = true; behind = with_heard_at now node standing }
    else record { is_let_in = false; behind = record standing { turned_away = Some now } }

-- a node shows itself
abbrev pub rule_show : ℕ → ℕ → Standing → Ruling
rule_show now node standing = if is_logged node standing then record { is_let_in = true; behind = standing }
    else if is_free_to_show now node standing then record { is_let_in = true; behind = with_heard_at now node standing }
    else rule_newcomer now node (with_rise now standing)

-- all that requests told since a pause, where it is of one entry of the log; none where somebody else asked since
abbrev pub told_since : ℕ → Option Requests → Option Partial
told_since now None = Some untold_yet
told_since now (Some requests) =
    if nat_le (requests.last + between_exchanges) now then Some untold_yet else requests.told

abbrev pub goes_on_as : List Entry → Part → Option Partial → Option Partial
goes_on_as log part None = None
goes_on_as log part (Some partial) = if is_of_log log partial part then Some (with_part partial part) else None

-- a part of the unique ID of a device of the log, of which all is that requests told since a pause
pub record IsKnownPart (now : ℕ) (part : Part) (standing : Standing) : Type 0 where
  pub entry : Entry
  pub there : Contains standing.log entry
  pub of_device : entry.uid ≢ zeros
  pub its : has_part entry.uid part ≡ true
  pub told : Partial
  pub since : told_since now standing.requests ≡ Some told
  pub all : has_all_told entry.uid told ≡ true

-- what is told with this part, where it and all that was told since a pause is of one entry
abbrev pub continued_by : ℕ → Part → Standing → Option Partial
continued_by now part standing = goes_on_as standing.log part (told_since now standing.requests)

abbrev pub one_more_asked : Part → ℕ → ℕ
one_more_asked part asked = if makes_whole part then min (asked + 1) 255 else asked

-- a device asks that may be a new one, behind a rise where one was due
abbrev pub rule_stranger : ℕ → Part → Standing → Ruling
rule_stranger now part standing = if is_room now standing
    then record {
      is_let_in = true;
      behind = record standing {
        asked = one_more_asked part standing.asked;
        requests = Some (record { last = now; told = None });
      };
    }
    else record { is_let_in = false; behind = standing }

-- As long as a node is turned away, no new device is let in: it might be told the ID of that node, of which its member
-- does not know.
abbrev pub rule_by_told : ℕ → Part → Standing → Option Partial → Ruling
rule_by_told now part standing (Some partial) = record {
  is_let_in = true;
  behind = record standing {
    requests = Some (record { last = now; told = Some partial });
  };
}
rule_by_told now part standing None = if is_lately now standing.turned_away
    then record { is_let_in = false; behind = standing }
    else rule_stranger now part (with_rise now standing)

-- a part of a unique ID is told. Where the log cannot be read nobody knows whose it is, and it is turned away
abbrev pub rule_ask : ℕ → Part → Standing → Ruling
rule_ask now part standing = if standing.is_read then rule_by_told now part standing (continued_by now part standing)
    else record { is_let_in = false; behind = standing }

-- somebody comes
abbrev pub rule_approach : ℕ → Approach → Standing → Ruling
rule_approach now (Shows node) standing = rule_show now node standing
rule_approach now (Asks part) standing = rule_ask now part standing

-- a node of the log shows itself, and no clock and no log is read
abbrev pub needs_no_ruling : Approach → Standing → Bool
needs_no_ruling (Shows node) standing = is_logged node standing
needs_no_ruling (Asks part) standing = false
