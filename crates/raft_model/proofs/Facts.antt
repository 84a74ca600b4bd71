-- What holds after every list of lawful micro moves.
use Rattle.std.specs.Prelude.{◌≡◌, ◌≢◌, ℕ, ◌+◌, ◌<◌, ◌≤◌, Bool, true, false, List, ◌++◌, length, ◌==◌, ◌&&◌, if◌then◌else◌, ◌⊎◌, take, get_or, Option, Some, nat_le}
use Rattle.can_frame.specs.declared.entry.Entry.{Entry}
use Rattle.can_frame.specs.Log.{IsInjective, IsWellFormed, blank, last_term, log_limit}
use Rattle.can_frame.specs.Zeros.{zeros}
use Rattle.raft_model.specs.Log.{IsRising, NotAbove, Same, term_at}
use Rattle.raft_model.specs.Messages.{Request, reach, Answer, Pair, Message}
use Rattle.raft_model.specs.Invariants.{is_vote}
use Rattle.raft_model.specs.Server.{Role, quorum}
use Rattle.raft_model.specs.History.{Candidacy, KeptVote}
use Rattle.raft_model.specs.Lists.{In, any, how_many}
use Rattle.raft_model.specs.Messages.Message.{Requests, Answers, Pairs}
use Rattle.raft_model.specs.Server.Role.{Follower, Candidate, Leader}
use Rattle.raft_model.proofs.Micro.{State}

pub record Stored (log : ℕ → List Entry) (term commit : ℕ → ℕ) : Type 0 where
  pub within : (m : ℕ) → commit m ≤ length (log m)
  pub log_limit : (m : ℕ) → length (log m) ≤ log_limit
  pub well_formed : (m i : ℕ) → i < length (log m) → IsWellFormed (get_or (log m) i (blank 0))
  pub rising : (m : ℕ) → IsRising (log m) (term m)
  pub injective : (m : ℕ) → IsInjective (log m)

pub record Roles (up : ℕ → Bool) (role : ℕ → Role) (term : ℕ → ℕ) (vote : ℕ → Option ℕ) (fresh : ℕ → Bool) : Type 0 where
  pub down : (m : ℕ) → up m ≡ false → (role m ≡ Follower) × (fresh m ≡ false)
  pub voted : (m : ℕ) → role m ≢ Follower → vote m ≡ Some m
  pub terms : (m : ℕ) → role m ≢ Follower → 1 ≤ term m

pub record Fresh (fresh : ℕ → Bool) (role : ℕ → Role) (term : ℕ → ℕ) (log : ℕ → List Entry) (kept : List KeptVote)
    (candidacies : List Candidacy) : Type 0 where
  pub follower : (m : ℕ) → fresh m ≡ true → role m ≡ Follower
  pub terms : (m : ℕ) → fresh m ≡ true → 1 ≤ term m
  pub entries : (m i : ℕ) → fresh m ≡ true → i < length (log m) → (get_or (log m) i (blank 0)).term < term m
  pub votes : (m : ℕ) (k : KeptVote) → fresh m ≡ true → In k kept → k.voter ≡ m → k.term < term m
  pub stood : (m : ℕ) (c : Candidacy) → fresh m ≡ true → In c candidacies → c.candidate ≡ m → c.term < term m

abbrev pub IsBound : (ℕ → ℕ) → (ℕ → Option ℕ) → ℕ → ℕ → ℕ → Type 0
IsBound term vote m c t = (t < term m) ⊎ ((t ≡ term m) × (vote m ≡ Some c))

pub record Bound (term : ℕ → ℕ) (vote : ℕ → Option ℕ) (kept : List KeptVote) (candidacies : List Candidacy) : Type 0 where
  pub votes : (k : KeptVote) → In k kept → IsBound term vote k.voter k.candidate k.term
  pub stood : (c : Candidacy) → In c candidacies → IsBound term vote c.candidate c.candidate c.term

pub record Votes (kept : List KeptVote) (candidacies : List Candidacy) (led : ℕ → Bool) : Type 0 where
  pub one : (x y : KeptVote) → In x kept → In y kept → x.voter ≡ y.voter → x.term ≡ y.term → x.candidate ≡ y.candidate
  pub candidacy : (k : KeptVote) → In k kept
      → (c : Candidacy) × In c candidacies × (c.candidate ≡ k.candidate) × (c.term ≡ k.term)
      × NotAbove (last_term k.log) (length k.log) (last_term c.log) (length c.log)
  pub flagged : (k : KeptVote) → In k kept → k.led ≡ true → led k.term ≡ true
  pub rising : (k : KeptVote) → In k kept → IsRising k.log k.term

pub record Stood (candidacies : List Candidacy) : Type 0 where
  pub one : (x y : Candidacy) → In x candidacies → In y candidacies → x.candidate ≡ y.candidate → x.term ≡ y.term → x.log ≡ y.log
  pub terms : (c : Candidacy) → In c candidacies → 1 ≤ c.term
  pub rising : (c : Candidacy) → In c candidacies → IsRising c.log c.term
  pub below : (c : Candidacy) (i : ℕ) → In c candidacies → i < length c.log → (get_or c.log i (blank 0)).term < c.term

pub record Led (members : List ℕ) (led : ℕ → Bool) (leader : ℕ → ℕ) (list : ℕ → List Entry) (candidacies : List Candidacy)
    (kept : List KeptVote) : Type 0 where
  pub candidacy : (t : ℕ) → led t ≡ true
      → (c : Candidacy) × (rest : List Entry) × In c candidacies × (c.candidate ≡ leader t) × (c.term ≡ t) × (list t ≡ c.log ++ rest)
      × ((i : ℕ) → i < length rest → (get_or rest i (blank 0)).term ≡ t)
  pub votes : (t : ℕ) → led t ≡ true → quorum members ≤ how_many (λ v. any (is_vote v (leader t) t) kept) members
  pub rising : (t : ℕ) → IsRising (list t) t
  pub log_limit : (t : ℕ) → length (list t) ≤ log_limit
  pub well_formed : (t i : ℕ) → i < length (list t) → IsWellFormed (get_or (list t) i (blank 0))
  pub injective : (t : ℕ) → IsInjective (list t)

-- where the leader of a term stands
pub record Place (led : ℕ → Bool) (leader : ℕ → ℕ) (list : ℕ → List Entry) (term : ℕ → ℕ) (role : ℕ → Role) (log : ℕ → List Entry) : Type 0
  where
    pub above : (t : ℕ) → led t ≡ true → t ≤ term (leader t)
    pub no_candidate : (t : ℕ) → led t ≡ true → term (leader t) ≡ t → role (leader t) ≢ Candidate
    pub same_log : (t : ℕ) → led t ≡ true → term (leader t) ≡ t → log (leader t) ≡ list t

pub record Running (role : ℕ → Role) (term : ℕ → ℕ) (log : ℕ → List Entry) (votes : ℕ → ℕ → Bool) (led : ℕ → Bool) (leader : ℕ → ℕ)
    (list : ℕ → List Entry) (candidacies : List Candidacy) (kept : List KeptVote) : Type 0 where
  pub leads : (m : ℕ) → role m ≡ Leader → (led (term m) ≡ true) × (leader (term m) ≡ m) × (log m ≡ list (term m))
  pub stands : (m : ℕ) → role m ≡ Candidate → (c : Candidacy) × In c candidacies × (c.candidate ≡ m) × (c.term ≡ term m) × (c.log ≡ log m)
  pub counted : (m q : ℕ) → role m ≡ Candidate → votes m q ≡ true
      → (k : KeptVote) × In k kept × (k.voter ≡ q) × (k.candidate ≡ m) × (k.term ≡ term m)

pub record Asked (requests : List Request) (led : ℕ → Bool) (leader : ℕ → ℕ) (list : ℕ → List Entry) (candidacies : List Candidacy) : Type 0
  where
    pub other : (r : Request) → In r requests → r.to ≢ r.from
    pub vote : (r : Request) → In r requests → r.append ≡ false
        → (c : Candidacy) × In c candidacies × (c.candidate ≡ r.from) × (c.term ≡ r.term) × (last_term c.log ≡ r.previous_term)
        × (length c.log ≡ r.previous)
    pub append : (r : Request) → In r requests → r.append ≡ true
        → (led r.term ≡ true) × (leader r.term ≡ r.from) × (r.previous ≤ length (list r.term))
        × (term_at (list r.term) r.previous ≡ r.previous_term)
    pub entry : (r : Request) (e : Entry) → In r requests → r.append ≡ true → r.entry ≡ Some e
        → (r.previous < length (list r.term)) × (get_or (list r.term) r.previous (blank 0) ≡ e)

pub record Answered (answers : List Answer) (bag : List Message) (term : ℕ → ℕ) (kept : List KeptVote) : Type 0 where
  pub asked : (a : Answer) → In a answers → In (Requests a.request) bag × (a.request.to ≡ a.from)
  pub success : (a : Answer) → In a answers → a.success ≡ true → (a.term ≡ a.request.term) × (a.request.term ≤ term a.from)
  pub voted : (a : Answer) → In a answers → a.success ≡ true → a.request.append ≡ false
      → (k : KeptVote) × In k kept × (k.voter ≡ a.from) × (k.candidate ≡ a.request.from) × (k.term ≡ a.request.term)

pub record Posted (requests : List Request) (answers : List Answer) (pairs : List Pair) (bag : List Message) : Type 0 where
  pub request : (r : Request) → In (Requests r) bag → In r requests
  pub answer : (a : Answer) → In (Answers a) bag → In a answers
  pub pair : (p : Pair) → In (Pairs p) bag → In p pairs

pub record Calls (role : ℕ → Role) (term : ℕ → ℕ) (pending : ℕ → ℕ → Option Request) (requests : List Request) : Type 0 where
  pub own : (m q : ℕ) (r : Request) → role m ≢ Follower → pending m q ≡ Some r
      → (r.from ≡ m) × (r.to ≡ q) × (r.term ≡ term m) × In r requests
  pub votes : (m q : ℕ) (r : Request) → role m ≡ Candidate → pending m q ≡ Some r → r.append ≡ false
  pub appends : (m q : ℕ) (r : Request) → role m ≡ Leader → pending m q ≡ Some r → r.append ≡ true

pub record Matched (role : ℕ → Role) (term : ℕ → ℕ) (matched : ℕ → ℕ → ℕ) (bag : List Message) : Type 0 where
  pub acked : (m q : ℕ) → role m ≡ Leader
      → (matched m q ≡ 0)
      ⊎ ((a : Answer) × In (Answers a) bag × (a.from ≡ q) × (a.success ≡ true) × (a.request.append ≡ true) × (a.request.term ≡ term m)
      × (reach a.request ≡ matched m q))

-- each prefix that ends in an entry of term t begins the list of t
abbrev pub IsMatching : (ℕ → Bool) → (ℕ → List Entry) → List Entry → Type 0
IsMatching led list l = (i : ℕ) → i < length l
    → (led (get_or l i (blank 0)).term ≡ true) × (i < length (list (get_or l i (blank 0)).term))
    × Same (i + 1) l (list (get_or l i (blank 0)).term)

pub record Matching (led : ℕ → Bool) (list log : ℕ → List Entry) (candidacies : List Candidacy) (kept : List KeptVote) : Type 0 where
  pub logs : (m : ℕ) → IsMatching led list (log m)
  pub lists : (t : ℕ) → IsMatching led list (list t)
  pub stood : (c : Candidacy) → In c candidacies → IsMatching led list c.log
  pub voted : (k : KeptVote) → In k kept → IsMatching led list k.log

-- m acknowledged at least j places of term t
abbrev pub Acked : (ℕ → Bool) → (ℕ → ℕ) → (ℕ → List Entry) → List Answer → ℕ → ℕ → ℕ → Type 0
Acked led leader list answers m t j = ((led t ≡ true) × (leader t ≡ m) × (j ≤ length (list t)))
    ⊎ ((a : Answer) × In a answers × (a.from ≡ m) × (a.success ≡ true) × (a.request.append ≡ true) × (a.request.term ≡ t)
    × (j ≤ reach a.request))

-- between t and u some term has a list that does not begin with the first j of t's
abbrev pub Off : (ℕ → Bool) → (ℕ → List Entry) → ℕ → ℕ → ℕ → Type 0
Off led list t j u = (w : ℕ) × (t < w) × (w < u) × (led w ≡ true) × (Same j (list w) (list t) → ⊥)

pub record Acks (led : ℕ → Bool) (leader : ℕ → ℕ) (list : ℕ → List Entry) (answers : List Answer) (term : ℕ → ℕ) (log : ℕ → List Entry)
    (kept : List KeptVote) : Type 0 where
  pub own_log : (m t j : ℕ) → Acked led leader list answers m t j
      → (led t ≡ true) × (j ≤ length (list t)) × (t ≤ term m) × (Same j (log m) (list t) ⊎ Off led list t j (term m + 1))
  pub voted : (k : KeptVote) (t j : ℕ) → In k kept → k.led ≡ false → Acked led leader list answers k.voter t j → t < k.term
      → Same j k.log (list t) ⊎ Off led list t j k.term

abbrev pub is_ack : ℕ → ℕ → ℕ → Message → Bool
is_ack m t k (Requests r) = false
is_ack m t k (Answers a) = (a.from == m) && (a.success && (a.request.append && ((a.request.term == t) && nat_le k (reach a.request))))
is_ack m t k (Pairs p) = false

abbrev pub has_acked : (ℕ → ℕ) → List Message → ℕ → ℕ → ℕ → Bool
has_acked leader bag t k m = if leader t == m then true else any (is_ack m t k) bag

-- place k of the list of t has an entry of t, and a quorum has acknowledged it
pub record Firm (members : List ℕ) (led : ℕ → Bool) (leader : ℕ → ℕ) (list : ℕ → List Entry) (bag : List Message) (t k : ℕ) : Type 0 where
  pub there : led t ≡ true
  pub low : 1 ≤ k
  pub inside : k ≤ length (list t)
  pub own_term : term_at (list t) k ≡ t
  pub held : quorum members ≤ how_many (has_acked leader bag t k) members

abbrev pub IsSettled : List ℕ → (ℕ → Bool) → (ℕ → ℕ) → (ℕ → List Entry) → List Message → List Entry → ℕ → Type 0
IsSettled members led leader list bag l t = (k : ℕ) × (length l ≤ k) × Firm members led leader list bag t k × Same (length l) l (list t)

pub record Committed (members : List ℕ) (led : ℕ → Bool) (leader : ℕ → ℕ) (list : ℕ → List Entry) (bag : List Message) (term commit : ℕ → ℕ)
    (log : ℕ → List Entry) (requests : List Request) (ledger : List Entry) (stamps : List ℕ) : Type 0 where
  pub server : (m : ℕ) → (commit m ≡ 0) ⊎ ((t : ℕ) × (t ≤ term m) × IsSettled members led leader list bag (take (commit m) (log m)) t)
  pub below : (m : ℕ) → commit m ≤ length ledger
  pub request : (r : Request) → In r requests → r.append ≡ true
      → (r.commit ≤ length ledger) × (r.commit ≤ length (list r.term))
      × ((r.commit ≡ 0) ⊎ ((t : ℕ) × (t ≤ r.term) × IsSettled members led leader list bag (take r.commit (list r.term)) t))
  pub stamped : length stamps ≡ length ledger
  pub place : (i : ℕ) → i < length ledger → IsSettled members led leader list bag (take (i + 1) ledger) (get_or stamps i 0)

pub record Told (pairs : List Pair) (commit : ℕ → ℕ) (log : ℕ → List Entry) : Type 0 where
  pub pair : (p : Pair) → In p pairs
      → (i : ℕ) × (i < commit p.from) × ((get_or (log p.from) i (blank 0)).uid ≡ p.uid) × ((get_or (log p.from) i (blank 0)).node ≡ p.node)
      × (p.uid ≢ zeros)

pub record Facts (s : State) : Type 0 where
  pub stored : Stored s.log s.term s.commit
  pub roles : Roles s.up s.role s.term s.vote s.fresh
  pub fresh : Fresh s.fresh s.role s.term s.log s.kept s.candidacies
  pub bound : Bound s.term s.vote s.kept s.candidacies
  pub votes : Votes s.kept s.candidacies s.led
  pub stood : Stood s.candidacies
  pub led : Led s.members s.led s.leader s.list s.candidacies s.kept
  pub place : Place s.led s.leader s.list s.term s.role s.log
  pub running : Running s.role s.term s.log s.votes s.led s.leader s.list s.candidacies s.kept
  pub asked : Asked s.requests s.led s.leader s.list s.candidacies
  pub answered : Answered s.answers s.bag s.term s.kept
  pub posted : Posted s.requests s.answers s.pairs s.bag
  pub calls : Calls s.role s.term s.pending s.requests
  pub matched : Matched s.role s.term s.matched s.bag
  pub matching : Matching s.led s.list s.log s.candidacies s.kept
  pub acks : Acks s.led s.leader s.list s.answers s.term s.log s.kept
  pub committed : Committed s.members s.led s.leader s.list s.bag s.term s.commit s.log s.requests s.ledger s.stamps
  pub told : Told s.pairs s.commit s.log

-- What the law says of every state.

pub record Safe (s : State) : Type 0 where
  -- each committed list begins the ledger
  pub committed : (m : ℕ) → (s.commit m ≤ length s.ledger) × Same (s.commit m) (s.log m) s.ledger
  -- each pair in the bag is one of its sender's committed list
  pub pairs : (p : Pair) → In (Pairs p) s.bag
      → (i : ℕ) × (i < s.commit p.from) × ((get_or (s.log p.from) i (blank 0)).uid ≡ p.uid)
      × ((get_or (s.log p.from) i (blank 0)).node ≡ p.node)
  -- every leader of at least the stamp's term holds the ledger up to its place
  pub later : (i u : ℕ) → i < length s.ledger → get_or s.stamps i 0 ≤ u → s.led u ≡ true → Same (i + 1) (s.list u) s.ledger
  -- no node ID twice, no unique ID twice but zeros
  pub injective : IsInjective s.ledger

-- What lasts from one moment of a run to every later one.

pub record Later (s u : State) : Type 0 where
  -- a term has one leader for good, and its list only grows
  pub led : (t : ℕ) → s.led t ≡ true → u.led t ≡ true
  pub leader : (t : ℕ) → s.led t ≡ true → u.leader t ≡ s.leader t
  pub list : (t : ℕ) → s.led t ≡ true → (length (s.list t) ≤ length (u.list t)) × Same (length (s.list t)) (u.list t) (s.list t)
  pub gains : (t i : ℕ) → s.led t ≡ true → length (s.list t) ≤ i → i < length (u.list t) → (get_or (u.list t) i (blank 0)).term ≡ t
  -- a committed list begins every later one of its member, and a ledger every later ledger
  pub commit : (m : ℕ) → s.commit m ≤ u.commit m
  pub committed : (m : ℕ) → Same (s.commit m) (u.log m) (s.log m)
  pub ledger : (length s.ledger ≤ length u.ledger) × Same (length s.ledger) u.ledger s.ledger
