-- A device of the proof: small moves with one put at most each, of which every move of the table is a list.
use Rattle.std.specs.Prelude.{◌≡◌, ◌≢◌, ℕ, ◌+◌, ◌-◌, ◌<◌, ◌≤◌, Bool, true, false, List, [], ◌∷◌, ◌++◌, length, ◌==◌, if◌then◌else◌, ◌⊎◌, take, get_or, Option, Some, None, min, max, nat_le}
use Rattle.can_frame.specs.declared.entry.Entry.{Entry}
use Rattle.can_frame.specs.Log.{IsInjective, IsWellFormed, blank, last_term, log_limit}
use Rattle.can_frame.specs.Zeros.{zeros}
use Rattle.raft_model.specs.Log.{NotAbove, term_at}
use Rattle.raft_model.specs.Messages.{Request, reach, Answer, Pair, Message}
use Rattle.raft_model.specs.Server.{Role, quorum}
use Rattle.raft_model.specs.History.{Candidacy, KeptVote}
use Rattle.raft_model.specs.Ledger.{ledger_after, stamps_after}
use Rattle.raft_model.specs.Moves.{entry_after}
use Rattle.raft_model.specs.Lists.{In, at, how_many}
use Rattle.raft_model.specs.Messages.Message.{Requests, Answers, Pairs}
use Rattle.raft_model.specs.Server.Role.{Follower, Candidate, Leader}

pub record State : Type 0 where
  pub members : List ℕ
  pub up : ℕ → Bool
  -- stored
  pub term : ℕ → ℕ
  pub vote : ℕ → Option ℕ
  pub log : ℕ → List Entry
  pub commit : ℕ → ℕ
  -- in memory
  pub role : ℕ → Role
  pub told : ℕ → ℕ
  pub votes : ℕ → ℕ → Bool
  pub next : ℕ → ℕ → ℕ
  pub matched : ℕ → ℕ → ℕ
  pub pending : ℕ → ℕ → Option Request
  pub fresh : ℕ → Bool
  -- every message ever offered, those that a stop loses among them, and the bag
  pub requests : List Request
  pub answers : List Answer
  pub pairs : List Pair
  pub bag : List Message
  -- the model's memory
  pub led : ℕ → Bool
  pub leader : ℕ → ℕ
  pub list : ℕ → List Entry
  pub candidacies : List Candidacy
  pub kept : List KeptVote
  pub ledger : List Entry
  pub stamps : List ℕ

pub data Micro : Type 0 where
  Open : (m : ℕ) → Micro
  Halt : (m : ℕ) → Micro
  Raise : (m t : ℕ) → Micro
  Clear : (m : ℕ) → Micro
  Stand : (m : ℕ) → Micro
  Grant : (m n : ℕ) (r : Request) → Micro
  Deny : (m n : ℕ) (r : Request) → Micro
  Count : (m : ℕ) (a : Answer) → Micro
  Drop : (m q : ℕ) → Micro
  Win : (m : ℕ) → Micro
  Yield : (m : ℕ) → Micro
  Write : (m : ℕ) (e : Entry) → Micro
  Cut : (m : ℕ) (r : Request) (e : Entry) → Micro
  Grow : (m : ℕ) (r : Request) (e : Entry) → Micro
  Advance : (m : ℕ) (r : Request) → Micro
  Accept : (m n : ℕ) (r : Request) → Micro
  Taken : (m : ℕ) (a : Answer) → Micro
  Propose : (m : ℕ) (e : Entry) → Micro
  Commit : (m k : ℕ) → Micro
  Tell : (m n : ℕ) → Micro
  Pass : (m : ℕ) → Micro
  Again : (m n i : ℕ) → Micro
  CallVote : (m n q : ℕ) → Micro
  CallAppend : (m n q p : ℕ) (with_entry : Bool) → Micro
  Post : (g : Message) → Micro

abbrev pub vote_request_of : State → ℕ → ℕ → ℕ → Request
vote_request_of s m n q = record {
  step = n;
  from = m;
  to = q;
  append = false;
  term = s.term m;
  previous = length (s.log m);
  previous_term = last_term (s.log m);
  commit = 0;
  entry = None;
}

abbrev pub append_request_of : State → ℕ → ℕ → ℕ → ℕ → Bool → Request
append_request_of s m n q p with_entry = record {
  step = n;
  from = m;
  to = q;
  append = true;
  term = s.term m;
  previous = p;
  previous_term = term_at (s.log m) p;
  commit = s.commit m;
  entry = entry_after (s.log m) p with_entry;
}

abbrev pub answer_of : State → ℕ → ℕ → Request → Bool → Answer
answer_of s m n r success = record { step = n; from = m; request = r; term = s.term m; success = success }

abbrev pub pair_of : State → ℕ → ℕ → ℕ → Pair
pair_of s m n i = record { step = n; from = m; uid = (get_or (s.log m) i (blank 0)).uid; node = (get_or (s.log m) i (blank 0)).node }

abbrev pub did : State → Micro → State
did s (Open m) = record s {
  up = at s.up m true;
  role = at s.role m Follower;
  told = at s.told m 0;
  votes = at s.votes m (λ q. false);
  next = at s.next m (λ q. 0);
  matched = at s.matched m (λ q. 0);
  pending = at s.pending m (λ q. None);
  fresh = at s.fresh m false;
}
did s (Halt m) = record s {
  up = at s.up m false;
  role = at s.role m Follower;
  told = at s.told m 0;
  votes = at s.votes m (λ q. false);
  next = at s.next m (λ q. 0);
  matched = at s.matched m (λ q. 0);
  pending = at s.pending m (λ q. None);
  fresh = at s.fresh m false;
}
did s (Raise m t) = record s { term = at s.term m t; role = at s.role m Follower; fresh = at s.fresh m true }
did s (Clear m) = record s { vote = at s.vote m None }
did s (Stand m) = record s {
  vote = at s.vote m (Some m);
  role = at s.role m Candidate;
  votes = at s.votes m (λ q. q == m);
  pending = at s.pending m (λ q. None);
  fresh = at s.fresh m false;
  candidacies = record { candidate = m; term = s.term m; log = s.log m } ∷ s.candidacies;
  kept = record { voter = m; candidate = m; term = s.term m; log = s.log m; led = s.led (s.term m) } ∷ s.kept;
}
did s (Grant m n r) = record s {
  vote = at s.vote m (Some r.from);
  fresh = at s.fresh m false;
  kept = record { voter = m; candidate = r.from; term = r.term; log = s.log m; led = s.led r.term } ∷ s.kept;
  answers = answer_of s m n r true ∷ s.answers;
}
did s (Deny m n r) = record s { answers = answer_of s m n r false ∷ s.answers }
did s (Count m a) = record s { votes = at s.votes m (at (s.votes m) a.from true); pending = at s.pending m (at (s.pending m) a.from None) }
did s (Drop m q) = record s { pending = at s.pending m (at (s.pending m) q None) }
did s (Win m) = record s {
  role = at s.role m Leader;
  told = at s.told m (s.commit m);
  next = at s.next m (λ q. length (s.log m) + 1);
  matched = at s.matched m (λ q. 0);
  pending = at s.pending m (λ q. None);
  led = at s.led (s.term m) true;
  leader = at s.leader (s.term m) m;
  list = at s.list (s.term m) (s.log m);
}
did s (Yield m) = record s { role = at s.role m Follower }
did s (Write m e) = s
did s (Cut m r e) = record s { log = at s.log m (take r.previous (s.log m)) }
did s (Grow m r e) = record s { log = at s.log m (s.log m ++ (e ∷ [])); fresh = at s.fresh m false }
did s (Advance m r) = record s {
  commit = at s.commit m (min r.commit (reach r));
  ledger = ledger_after s.ledger (s.log m) (min r.commit (reach r));
  stamps = stamps_after s.stamps (s.term m) (min r.commit (reach r));
}
did s (Accept m n r) = record s { answers = answer_of s m n r true ∷ s.answers }
did s (Taken m a) = record s {
  pending = at s.pending m (at (s.pending m) a.from None);
  matched = at s.matched m (at (s.matched m) a.from (if a.success then max (s.matched m a.from) (reach a.request) else s.matched m a.from));
  next = at s.next m
      (at (s.next m) a.from (if a.success then max (s.matched m a.from) (reach a.request) + 1 else max 1 (s.next m a.from - 1)));
}
did s (Propose m e) = record s { log = at s.log m (s.log m ++ (e ∷ [])); list = at s.list (s.term m) (s.list (s.term m) ++ (e ∷ [])) }
did s (Commit m k) = record s
    { commit = at s.commit m k; ledger = ledger_after s.ledger (s.log m) k; stamps = stamps_after s.stamps (s.term m) k }
did s (Tell m n) = record s { told = at s.told m (s.told m + 1); pairs = pair_of s m n (s.told m) ∷ s.pairs }
did s (Pass m) = record s { told = at s.told m (s.told m + 1) }
did s (Again m n i) = record s { pairs = pair_of s m n i ∷ s.pairs }
did s (CallVote m n q) = record s
    { pending = at s.pending m (at (s.pending m) q (Some (vote_request_of s m n q))); requests = vote_request_of s m n q ∷ s.requests }
did s (CallAppend m n q p with_entry) = record s {
  pending = at s.pending m (at (s.pending m) q (Some (append_request_of s m n q p with_entry)));
  requests = append_request_of s m n q p with_entry ∷ s.requests;
}
did s (Post g) = record s { bag = g ∷ s.bag }

-- what each micro move requests for

-- an append request of this term that stands on the log of a Follower
pub record HasPrevious (s : State) (m : ℕ) (r : Request) : Type 0 where
  pub up : s.up m ≡ true
  pub role : s.role m ≡ Follower
  pub in_bag : In (Requests r) s.bag
  pub kind : r.append ≡ true
  pub mine : r.to ≡ m
  pub own_term : r.term ≡ s.term m
  pub previous : r.previous ≤ length (s.log m)
  pub previous_term : term_at (s.log m) r.previous ≡ r.previous_term

-- what it carries is in the log already
pub record Holds (s : State) (m : ℕ) (r : Request) : Type 0 where
  pub fits : HasPrevious s m r
  pub has : (r.entry ≡ None)
      ⊎ ((e : Entry) × (r.entry ≡ Some e) × (r.previous < length (s.log m)) × (term_at (s.log m) (r.previous + 1) ≡ e.term))

pub record MayGrant (s : State) (m : ℕ) (r : Request) : Type 0 where
  pub up : s.up m ≡ true
  pub in_bag : In (Requests r) s.bag
  pub kind : r.append ≡ false
  pub mine : r.to ≡ m
  pub own_term : r.term ≡ s.term m
  pub free : (s.vote m ≡ None) ⊎ (s.vote m ≡ Some r.from)
  pub not_above : NotAbove (last_term (s.log m)) (length (s.log m)) r.previous_term r.previous

pub record MayCount (s : State) (m : ℕ) (a : Answer) : Type 0 where
  pub up : s.up m ≡ true
  pub role : s.role m ≡ Candidate
  pub in_bag : In (Answers a) s.bag
  pub kind : a.request.append ≡ false
  pub mine : a.request.from ≡ m
  pub own_term : a.term ≡ s.term m
  pub success : a.success ≡ true
  pub pending : s.pending m a.from ≡ Some a.request

pub record MayWin (s : State) (m : ℕ) : Type 0 where
  pub up : s.up m ≡ true
  pub role : s.role m ≡ Candidate
  pub votes : quorum s.members ≤ how_many (s.votes m) s.members

pub record MayCut (s : State) (m : ℕ) (r : Request) (e : Entry) : Type 0 where
  pub fits : HasPrevious s m r
  pub entry : r.entry ≡ Some e
  pub inside : r.previous < length (s.log m)
  pub differs : term_at (s.log m) (r.previous + 1) ≢ e.term
  pub after_commit : s.commit m ≤ r.previous

pub record MayGrow (s : State) (m : ℕ) (r : Request) (e : Entry) : Type 0 where
  pub fits : HasPrevious s m r
  pub entry : r.entry ≡ Some e
  pub at_end : r.previous ≡ length (s.log m)
  pub room : length (s.log m) < log_limit
  pub well_formed : IsWellFormed e
  pub rises : last_term (s.log m) ≤ e.term
  pub below : e.term ≤ r.term
  pub injective : IsInjective (s.log m ++ (e ∷ []))

pub record MayAdvance (s : State) (m : ℕ) (r : Request) : Type 0 where
  pub holds : Holds s m r
  pub above : s.commit m < min r.commit (reach r)

pub record MayTake (s : State) (m : ℕ) (a : Answer) : Type 0 where
  pub up : s.up m ≡ true
  pub role : s.role m ≡ Leader
  pub in_bag : a.success ≡ true → In (Answers a) s.bag
  pub kind : a.request.append ≡ true
  pub mine : a.request.from ≡ m
  pub own_term : a.term ≡ s.term m
  pub pending : s.pending m a.from ≡ Some a.request

pub record MayPropose (s : State) (m : ℕ) (e : Entry) : Type 0 where
  pub up : s.up m ≡ true
  pub role : s.role m ≡ Leader
  pub room : length (s.log m) < log_limit
  pub own_term : e.term ≡ s.term m
  pub well_formed : IsWellFormed e
  pub injective : IsInjective (s.log m ++ (e ∷ []))

pub record MayCommit (s : State) (m k : ℕ) : Type 0 where
  pub up : s.up m ≡ true
  pub role : s.role m ≡ Leader
  pub above : s.commit m < k
  pub inside : k ≤ length (s.log m)
  pub own_term : term_at (s.log m) k ≡ s.term m
  pub held : quorum s.members ≤ how_many (λ q. if q == m then true else nat_le k (s.matched m q)) s.members

pub record MayCall (s : State) (m q : ℕ) (as_role : Role) : Type 0 where
  pub up : s.up m ≡ true
  pub role : s.role m ≡ as_role
  pub other : q ≢ m
  pub member : In q s.members
  pub free : s.pending m q ≡ None

abbrev pub IsSaid : State → Message → Type 0
IsSaid s (Requests r) = In r s.requests
IsSaid s (Answers a) = In a s.answers
IsSaid s (Pairs p) = In p s.pairs

abbrev pub May : State → Micro → Type 0
May s (Open m) = (s.up m ≡ false) × In m s.members
May s (Halt m) = Unit {0}
May s (Raise m t) = (s.up m ≡ true) × (s.term m < t)
May s (Clear m) = s.fresh m ≡ true
May s (Stand m) = (s.fresh m ≡ true) × (s.up m ≡ true)
May s (Grant m n r) = MayGrant s m r
May s (Deny m n r) = (s.up m ≡ true) × In (Requests r) s.bag × (r.to ≡ m)
May s (Count m a) = MayCount s m a
May s (Drop m q) = s.up m ≡ true
May s (Win m) = MayWin s m
May s (Yield m) = (s.up m ≡ true) × (s.role m ≢ Leader)
May s (Write m e) = s.up m ≡ true
May s (Cut m r e) = MayCut s m r e
May s (Grow m r e) = MayGrow s m r e
May s (Advance m r) = MayAdvance s m r
May s (Accept m n r) = Holds s m r
May s (Taken m a) = MayTake s m a
May s (Propose m e) = MayPropose s m e
May s (Commit m k) = MayCommit s m k
May s (Tell m n) = (s.role m ≡ Leader) × (s.told m < s.commit m) × ((get_or (s.log m) (s.told m) (blank 0)).uid ≢ zeros)
May s (Pass m) = (s.role m ≡ Leader) × (s.told m < s.commit m) × ((get_or (s.log m) (s.told m) (blank 0)).uid ≡ zeros)
May s (Again m n i) = (s.up m ≡ true) × (i < s.commit m) × ((get_or (s.log m) i (blank 0)).uid ≢ zeros)
May s (CallVote m n q) = MayCall s m q Candidate
May s (CallAppend m n q p with_entry) = MayCall s m q Leader × (p ≤ length (s.log m))
May s (Post g) = IsSaid s g

abbrev pub run : State → List Micro → State
run s [] = s
run s (e ∷ es) = run (did s e) es

abbrev pub Lawful : State → List Micro → Type 0
Lawful s [] = Unit {0}
Lawful s (e ∷ es) = May s e × Lawful (did s e) es

abbrev pub start : List ℕ → State
start members = record {
  members = members;
  up = λ i. false;
  term = λ i. 0;
  vote = λ i. None;
  log = λ i. [];
  commit = λ i. 0;
  role = λ i. Follower;
  told = λ i. 0;
  votes = λ i q. false;
  next = λ i q. 0;
  matched = λ i q. 0;
  pending = λ i q. None;
  fresh = λ i. false;
  requests = [];
  answers = [];
  pairs = [];
  bag = [];
  led = λ t. false;
  leader = λ t. 0;
  list = λ t. [];
  candidacies = [];
  kept = [];
  ledger = [];
  stamps = [];
}
