-- What holds after every event of a run, and after every prefix of a step's puts.
use Rattle.std.specs.Prelude.{◌≡◌, ◌≢◌, ℕ, ◌+◌, ◌<◌, ◌≤◌, Bool, true, false, List, ◌++◌, length, ◌==◌, ◌&&◌}
use Rattle.std.specs.Prelude.{if◌then◌else◌, ◌⊎◌, take, slice_index_or, Some, nat_le, not}
use Rattle.raft_model.specs.Lists.{In, any, how_many}
use Rattle.can_frame.specs.declared.entry.Entry.{Entry}
use Rattle.can_frame.specs.Log.{IsInjective, IsPrefix, IsWellFormed, blank, last_term, log_limit}
use Rattle.raft_model.specs.Log.{IsRising, NotAbove, Same, term_at}
use Rattle.raft_model.specs.Messages.{Request, reach, Answer, Message}
use Rattle.raft_model.specs.Messages.Message.{Requests, Answers, Pairs}
use Rattle.raft_model.specs.Server.{Store, committed, quorum}
use Rattle.raft_model.specs.Server.Role.{Follower, Candidate, Leader}
use Rattle.raft_model.specs.History.{Candidacy, KeptVote, History}
use Rattle.raft_model.specs.Runs.{World}

-- Stored.

-- commit is at most last, last at most `log_limit`; entries are well formed; terms do not fall, are at least 1 and at
-- most the server's; the log is injective
pub record SoundStore (store : Store) : Type 0 where
  pub commit : store.commit ≤ length store.log
  pub last : length store.log ≤ log_limit
  pub well_formed : (place : ℕ) → place < length store.log → IsWellFormed (slice_index_or store.log place (blank 0))
  pub rising : IsRising store.log store.term
  pub injective : IsInjective store.log

abbrev pub StoresSound : World → Type 0
StoresSound world = (member : ℕ) → SoundStore (world.server member).store

-- Votes.

-- the term is above this one, or is it with the vote for this candidate
abbrev pub IsBound : Store → ℕ → ℕ → Type 0
IsBound store candidate term = (term < store.term) ⊎ ((term ≡ store.term) × (store.vote ≡ Some candidate))

pub record VotesBound (world : World) : Type 0 where
  pub granted : (kept : KeptVote) → In kept world.history.kept →
      IsBound (world.server kept.voter).store kept.candidate kept.term
  pub stood : (candidacy : Candidacy) → In candidacy world.history.candidacies
      → IsBound (world.server candidacy.candidate).store candidacy.candidate candidacy.term
  pub own : (member : ℕ) → (world.server member).memory.role ≢ Follower →
      (world.server member).store.vote ≡ Some member

-- Leaders.

-- this voter voted for this candidate in this term before the term had a leader
abbrev pub is_vote : ℕ → ℕ → ℕ → KeptVote → Bool
is_vote voter candidate term kept = (kept.voter == voter)
    && ((kept.candidate == candidate) && ((kept.term == term) && not kept.led))

-- a kept vote of this voter for this candidate in this term, whose log is not above that of the candidacy
abbrev pub HasVote : History → ℕ → ℕ → ℕ → Type 0
HasVote history voter candidate term = (kept : KeptVote) × In kept history.kept × (kept.voter ≡ voter)
    × (kept.candidate ≡ candidate) × (kept.term ≡ term) × (
    (candidacy : Candidacy) × In candidacy history.candidacies × (candidacy.candidate ≡ candidate)
    × (candidacy.term ≡ term)
    × NotAbove (last_term kept.log) (length kept.log) (last_term candidacy.log) (length candidacy.log))

-- how the leader of a term came to be: its list begins with its candidacy's log, whose terms are below this term, and
-- all that follows has this term;
-- a quorum voted for it before there was a leader, each with a log not above that of the candidacy
pub record IsElected (world : World) (term : ℕ) : Type 0 where
  pub candidacy : Candidacy
  pub rest : List Entry
  pub stood : In candidacy world.history.candidacies
  pub leader : candidacy.candidate ≡ world.history.leader term
  pub in_term : candidacy.term ≡ term
  pub list : world.history.list term ≡ candidacy.log ++ rest
  pub before : (place : ℕ) → place < length candidacy.log → (slice_index_or candidacy.log place (blank 0)).term < term
  pub own : (place : ℕ) → place < length rest → (slice_index_or rest place (blank 0)).term ≡ term
  pub votes : quorum world.members
      ≤ how_many (λ voter. any (is_vote voter (world.history.leader term) term) world.history.kept) world.members
  pub not_above : (kept : KeptVote) → In kept world.history.kept →
      kept.candidate ≡ world.history.leader term → kept.term ≡ term
      → NotAbove (last_term kept.log) (length kept.log) (last_term candidacy.log) (length candidacy.log)

pub record LeadersElected (world : World) : Type 0 where
  pub elected : (term : ℕ) → world.history.led term ≡ true → IsElected world term
  pub injective : (term : ℕ) → IsInjective (world.history.list term)
  -- a running Leader's log is the list of its term, a running Candidate's log that of its candidacy
  pub leading : (member : ℕ) → (world.server member).memory.role ≡ Leader
      → (world.history.led (world.server member).store.term ≡ true)
      × (world.history.leader (world.server member).store.term ≡ member)
      × ((world.server member).store.log ≡ world.history.list (world.server member).store.term)
  pub standing : (member : ℕ) → (world.server member).memory.role ≡ Candidate
      → (candidacy : Candidacy) × In candidacy world.history.candidacies × (candidacy.candidate ≡ member)
      × (candidacy.term ≡ (world.server member).store.term) × (candidacy.log ≡ (world.server member).store.log)

-- Matching.

-- each prefix that ends in an entry of some term is a prefix of that term's list
abbrev pub IsMatching : History → List Entry → Type 0
IsMatching history log = (place : ℕ) → place < length log
    → (history.led (slice_index_or log place (blank 0)).term ≡ true)
    × (place < length (history.list (slice_index_or log place (blank 0)).term))
    × Same (place + 1) log (history.list (slice_index_or log place (blank 0)).term)

pub record LogsMatch (world : World) : Type 0 where
  pub logs : (member : ℕ) → IsMatching world.history (world.server member).store.log
  pub candidacies : (candidacy : Candidacy) → In candidacy world.history.candidacies →
      IsMatching world.history candidacy.log
  pub voters : (kept : KeptVote) → In kept world.history.kept → IsMatching world.history kept.log
  pub lists : (term : ℕ) → IsMatching world.history (world.history.list term)
  -- an append request has the previous term and the entry that its term's list has at their places
  pub previous : (request : Request) → In (Requests request) world.bag → request.append ≡ true
      → (world.history.led request.term ≡ true) × (request.previous ≤ length (world.history.list request.term))
      × (term_at (world.history.list request.term) request.previous ≡ request.previous_term)
  pub entry : (request : Request) (entry : Entry) → In (Requests request) world.bag → request.append ≡ true
      → request.entry ≡ Some entry
      → (request.previous < length (world.history.list request.term))
      × (slice_index_or (world.history.list request.term) request.previous (blank 0) ≡ entry)

-- Acknowledgements.

-- the member leads the term, with at least so many places
abbrev pub LeadsWith : World → ℕ → ℕ → ℕ → Type 0
LeadsWith world member term count =
    (world.history.led term ≡ true) × (world.history.leader term ≡ member)
    × (count ≤ length (world.history.list term))

-- the member acknowledged so many places of the term: it leads the term, or answered an append request of it that
-- reaches so far. To reach so far is to reach this place or a further one where the relation is ≤, and just this place
-- where it is ≡: that is the usual form, and ≤, which is carried through a run, has it as a special case
abbrev pub Acknowledged : (ℕ → ℕ → Type 0) → World → ℕ → ℕ → ℕ → Type 0
Acknowledged IsReached world member term count = LeadsWith world member term count
    ⊎ ((answer : Answer) × In (Answers answer) world.bag × (answer.from ≡ member) × (answer.success ≡ true)
    × (answer.request.append ≡ true) × (answer.request.term ≡ term) × IsReached count (reach answer.request))

-- some term between these two has a list that does not begin with so many places of the first one's
abbrev pub Diverges : History → ℕ → ℕ → ℕ → Type 0
Diverges history term count later = (between : ℕ) × (term < between) × (between < later)
    × (history.led between ≡ true)
    × (Same count (history.list between) (history.list term) → ⊥)

-- the member's log begins with so many places of the term, or a term up to its own diverges
abbrev pub HasKept : World → ℕ → ℕ → ℕ → Type 0
HasKept world member term count = (count ≤ length (world.history.list term))
    × (Same count (world.server member).store.log (world.history.list term)
    ⊎ Diverges world.history term count ((world.server member).store.term + 1))

-- so does the log with which it voted in a later term, or a term in between diverges
abbrev pub HasVotedWith : World → KeptVote → ℕ → ℕ → Type 0
HasVotedWith world kept term count = Same count kept.log (world.history.list term)
    ⊎ Diverges world.history term count kept.term

-- what a member acknowledged it has kept, and has voted with
abbrev pub AcknowledgedKept : (ℕ → ℕ → Type 0) → World → Type 0
AcknowledgedKept IsReached world = (member term count : ℕ) → Acknowledged IsReached world member term count →
    HasKept world member term count

abbrev pub AcknowledgedVoted : (ℕ → ℕ → Type 0) → World → Type 0
AcknowledgedVoted IsReached world = (kept : KeptVote) (term count : ℕ) → In kept world.history.kept →
    kept.led ≡ false → term < kept.term
    → Acknowledged IsReached world kept.voter term count → HasVotedWith world kept term count

-- Commit.

abbrev pub is_acknowledgement : ℕ → ℕ → ℕ → Message → Bool
is_acknowledgement member term place (Requests request) = false
is_acknowledgement member term place (Answers answer) = (answer.from == member)
    && (answer.success
    && (answer.request.append && ((answer.request.term == term) && nat_le place (reach answer.request))))
is_acknowledgement member term place (Pairs pair) = false

-- the member leads the term, or an answer of it in the bag acknowledges so many places of the term or more
abbrev pub has_acknowledged : World → ℕ → ℕ → ℕ → Bool
has_acknowledged world term place member = if world.history.leader term == member
    then true else any (is_acknowledgement member term place) world.bag

-- this place of the term's list has an entry of the term, and a quorum has acknowledged it
pub record IsFirm (world : World) (term place : ℕ) : Type 0 where
  pub led : world.history.led term ≡ true
  pub low : 1 ≤ place
  pub inside : place ≤ length (world.history.list term)
  pub own_term : term_at (world.history.list term) place ≡ term
  pub held : quorum world.members ≤ how_many (has_acknowledged world term place) world.members

-- the log is settled by the term: it is a prefix of the term's list up to a firm place
abbrev pub IsSettled : World → List Entry → ℕ → Type 0
IsSettled world log term = (place : ℕ) × (length log ≤ place) × IsFirm world term place
    × Same (length log) log (world.history.list term)

-- what is settled at one moment is settled at the other
abbrev pub StaysSettled : World → World → Type 0
StaysSettled early late = (log : List Entry) (term : ℕ) → IsSettled early log term → IsSettled late log term

-- what is settled by a term begins the list of every later term
abbrev pub LeadersComplete : World → Type 0
LeadersComplete world = (log : List Entry) (term later : ℕ) → IsSettled world log term → term < later
    → world.history.led later ≡ true → IsPrefix log (world.history.list later)

pub record CommitsSettled (world : World) : Type 0 where
  -- each place of the ledger is settled by the term that is its stamp
  pub ledger : (place : ℕ) → place < length world.ledger.entries
      → IsSettled world (take (place + 1) world.ledger.entries) (slice_index_or world.ledger.stamps place 0)
  pub servers : (member : ℕ)
      → ((world.server member).store.commit ≡ 0)
      ⊎ ((term : ℕ) × (term ≤ (world.server member).store.term)
      × IsSettled world (committed (world.server member).store) term)
  pub requests : (request : Request) → In (Requests request) world.bag → request.append ≡ true
      → (request.commit ≤ length world.ledger.entries)
      × ((request.commit ≡ 0)
      ⊎ ((term : ℕ) × (term ≤ request.term)
      × IsSettled world (take request.commit (world.history.list request.term)) term))

-- Calls.

pub record CallsSound (world : World) : Type 0 where
  -- an answer names a request in the bag, from its receiver to its sender; a granted or successful one has that
  -- request's term
  pub answers : (answer : Answer) → In (Answers answer) world.bag
      → In (Requests answer.request) world.bag × (answer.request.to ≡ answer.from)
      × (answer.success ≡ true → answer.term ≡ answer.request.term)
  -- a pending call of a Candidate or Leader is a request that it made in this term and role
  pub pending : (member peer : ℕ) (request : Request) → (world.server member).memory.role ≢ Follower
      → (world.server member).memory.pending peer ≡ Some request
      → (request.from ≡ member) × (request.to ≡ peer) × (request.term ≡ (world.server member).store.term)
  pub votes : (member peer : ℕ) (request : Request) → (world.server member).memory.role ≡ Candidate
      → (world.server member).memory.pending peer ≡ Some request → request.append ≡ false
  pub appends : (member peer : ℕ) (request : Request) → (world.server member).memory.role ≡ Leader
      → (world.server member).memory.pending peer ≡ Some request → request.append ≡ true
  -- a Leader's matched index is 0 or acknowledged by that peer in its term
  pub matched : (member peer : ℕ) → (world.server member).memory.role ≡ Leader
      → ((world.server member).memory.matched peer ≡ 0)
      ⊎ ((answer : Answer) × In (Answers answer) world.bag × (answer.from ≡ peer) × (answer.success ≡ true)
      × (answer.request.append ≡ true) × (answer.request.term ≡ (world.server member).store.term)
      × (reach answer.request ≡ (world.server member).memory.matched peer))
  -- a vote request has the term, last term and last index of a candidacy of its sender
  pub requests : (request : Request) → In (Requests request) world.bag → request.append ≡ false
      → (candidacy : Candidacy) × In candidacy world.history.candidacies × (candidacy.candidate ≡ request.from)
      × (candidacy.term ≡ request.term) × (last_term candidacy.log ≡ request.previous_term)
      × (length candidacy.log ≡ request.previous)
  -- a granted vote answer, and a vote that a running Candidate counts, is a kept vote with a log not above that of
  -- the candidacy
  pub granted : (answer : Answer) → In (Answers answer) world.bag → answer.success ≡ true →
      answer.request.append ≡ false
      → HasVote world.history answer.from answer.request.from answer.request.term
  pub counted : (member peer : ℕ) → (world.server member).memory.role ≡ Candidate →
      (world.server member).memory.votes peer ≡ true
      → HasVote world.history peer member (world.server member).store.term

-- All of it.
pub record Invariants (world : World) : Type 0 where
  pub stores : StoresSound world
  pub votes : VotesBound world
  pub leaders : LeadersElected world
  pub logs : LogsMatch world
  pub kept : AcknowledgedKept ◌≤◌ world
  pub voted : AcknowledgedVoted ◌≤◌ world
  pub complete : LeadersComplete world
  pub commits : CommitsSettled world
  pub calls : CallsSound world
