-- A lawful list of micro moves of one server, told by what that server sees.
use Rattle.std.proofs.Common.{◌≡◌, ℕ, List, [], ◌∷◌, ◌++◌, refl, sym, ◌∙◌, ap, subst, inr}
use Rattle.raft_model.specs.Lists.{In}
use Rattle.raft_model.specs.Messages.{Request, Answer, Pair, Message}
use Rattle.raft_model.specs.Messages.Message.{Requests, Answers, Pairs}
use Rattle.raft_model.proofs.Micro.{State, Micro, did, May, run, Lawful, HasPrevious, Holds}
use Rattle.raft_model.proofs.Micro.Micro.{Open, Halt, Raise, Clear, Stand, Grant, Deny, Count, Drop, Win, Yield, Write, Cut, Grow, Advance, Accept, Taken, Propose, Commit, Tell, Pass, Again, CallVote, CallAppend, Post}
use Rattle.raft_model.proofs.Focus.{Focus, focus_of, at_focus, focused, of, did_here, settled, focus_at, focus_twice}

-- every server is this one
abbrev pub whole : List ℕ → Focus → State
whole members f = record {
  members = members;
  up = λ i. f.raft_server.memory.up;
  term = λ i. f.raft_server.store.term;
  vote = λ i. f.raft_server.store.vote;
  log = λ i. f.raft_server.store.log;
  commit = λ i. f.raft_server.store.commit;
  role = λ i. f.raft_server.memory.role;
  told = λ i. f.raft_server.memory.told;
  votes = λ i. f.raft_server.memory.votes;
  next = λ i. f.raft_server.memory.next;
  matched = λ i. f.raft_server.memory.matched;
  pending = λ i. f.raft_server.memory.pending;
  fresh = λ i. f.fresh;
  requests = f.requests;
  answers = f.answers;
  pairs = f.pairs;
  bag = f.bag;
  led = f.history.led;
  leader = f.history.leader;
  list = f.history.list;
  candidacies = f.history.candidacies;
  kept = f.history.kept;
  ledger = f.ledger.entries;
  stamps = f.ledger.stamps;
}

-- a micro move of server m may come, by what it sees
abbrev pub MayHere : List ℕ → ℕ → Focus → Micro → Type 0
MayHere members m f e = May (whole members f) (of m e)

pub fits_here : (z : State) (m : ℕ) (r : Request) → HasPrevious (whole z.members (focus_of z m)) m r → HasPrevious z m r
fits_here z m r h = record {
  up = h.up;
  role = h.role;
  in_bag = h.in_bag;
  kind = h.kind;
  mine = h.mine;
  own_term = h.own_term;
  previous = h.previous;
  previous_term = h.previous_term;
}

pub holds_here : (z : State) (m : ℕ) (r : Request) → Holds (whole z.members (focus_of z m)) m r → Holds z m r
holds_here z m r h = record { fits = fits_here z m r h.fits; has = h.has }

pub may_here : (z : State) (m : ℕ) (e : Micro) → MayHere z.members m (focus_of z m) e → May z (of m e)
may_here z m (Open _) h = h
may_here z m (Halt _) h = h
may_here z m (Raise _ t) h = h
may_here z m (Clear _) h = h
may_here z m (Stand _) h = h
may_here z m (Grant _ n r) h = record
    { up = h.up; in_bag = h.in_bag; kind = h.kind; mine = h.mine; own_term = h.own_term; free = h.free; not_above = h.not_above }
may_here z m (Deny _ n r) h = h
may_here z m (Count _ a) h = record {
  up = h.up;
  role = h.role;
  in_bag = h.in_bag;
  kind = h.kind;
  mine = h.mine;
  own_term = h.own_term;
  success = h.success;
  pending = h.pending;
}
may_here z m (Drop _ q) h = h
may_here z m (Win _) h = record { up = h.up; role = h.role; votes = h.votes }
may_here z m (Yield _) h = h
may_here z m (Write _ e) h = h
may_here z m (Cut _ r e) h = record
    { fits = fits_here z m r h.fits; entry = h.entry; inside = h.inside; differs = h.differs; after_commit = h.after_commit }
may_here z m (Grow _ r e) h = record {
  fits = fits_here z m r h.fits;
  entry = h.entry;
  at_end = h.at_end;
  room = h.room;
  well_formed = h.well_formed;
  rises = h.rises;
  below = h.below;
  injective = h.injective;
}
may_here z m (Advance _ r) h = record { holds = holds_here z m r h.holds; above = h.above }
may_here z m (Accept _ n r) h = holds_here z m r h
may_here z m (Taken _ a) h = record
    { up = h.up; role = h.role; in_bag = h.in_bag; kind = h.kind; mine = h.mine; own_term = h.own_term; pending = h.pending }
may_here z m (Propose _ e) h = record {
  up = h.up;
  role = h.role;
  room = h.room;
  own_term = h.own_term;
  well_formed = h.well_formed;
  injective = h.injective;
}
may_here z m (Commit _ k) h = record { up = h.up; role = h.role; above = h.above; inside = h.inside; own_term = h.own_term; held = h.held }
may_here z m (Tell _ n) h = h
may_here z m (Pass _) h = h
may_here z m (Again _ n i) h = h
may_here z m (CallVote _ n q) h = record { up = h.up; role = h.role; other = h.other; member = h.member; free = h.free }
may_here z m (CallAppend _ n q p w) h =
    (record { up = h.0.up; role = h.0.role; other = h.0.other; member = h.0.member; free = h.0.free }, h.1)
may_here z m (Post (Requests r)) h = h
may_here z m (Post (Answers a)) h = h
may_here z m (Post (Pairs p)) h = h

-- these micro moves, all of server m
abbrev pub all_of : ℕ → List Micro → List Micro
all_of m [] = []
all_of m (e ∷ es) = of m e ∷ all_of m es

abbrev pub focuses : ℕ → Focus → List Micro → Focus
focuses m f [] = f
focuses m f (e ∷ es) = focuses m (focused m f e) es

abbrev pub LawfulHere : List ℕ → ℕ → Focus → List Micro → Type 0
LawfulHere members m f [] = Unit {0}
LawfulHere members m f (e ∷ es) = MayHere members m f e × LawfulHere members m (focused m f e) es

pub lawful_here : (members : List ℕ) (m : ℕ) (es : List Micro) (z : State) (f : Focus) → z.members ≡ members → focus_of z m ≡ f
    → LawfulHere members m f es → Lawful z (all_of m es) × (run z (all_of m es) ≡ at_focus z m (focuses m f es))
lawful_here members m [] z f k q l = (tt, sym (settled z m) ∙ ap (at_focus z m) q)
lawful_here members m (e ∷ es) z f k q l =
    let next : did z (of m e) ≡ at_focus z m (focused m f e) = did_here z m e ∙ ap (λ (x : Focus). at_focus z m (focused m x e)) q in
    let k2 : (did z (of m e)).members ≡ members = ap (λ (x : State). x.members) next ∙ k in
    let q2 : focus_of (did z (of m e)) m ≡ focused m f e = ap (λ (x : State). focus_of x m) next ∙ focus_at z m (focused m f e) in
    let rest = lawful_here members m es (did z (of m e)) (focused m f e) k2 q2 l.1 in
    let may : MayHere z.members m (focus_of z m) e
    = subst (λ (x : Focus). MayHere z.members m x e) (sym q) (subst (λ (x : List ℕ). MayHere x m f e) (sym k) l.0) in (
      (may_here z m e may, rest.0),
      rest.1
          ∙ (ap (λ (x : State). at_focus x m (focuses m (focused m f e) es)) next
          ∙ focus_twice z m (focused m f e) (focuses m (focused m f e) es)),
    )

pub focuses_append : (m : ℕ) (es ds : List Micro) (f : Focus) → focuses m f (es ++ ds) ≡ focuses m (focuses m f es) ds
focuses_append m [] ds f = refl
focuses_append m (e ∷ es) ds f = focuses_append m es ds (focused m f e)

pub lawful_append : (members : List ℕ) (m : ℕ) (es ds : List Micro) (f : Focus) → LawfulHere members m f es
    → LawfulHere members m (focuses m f es) ds → LawfulHere members m f (es ++ ds)
lawful_append members m [] ds f a b = b
lawful_append members m (e ∷ es) ds f a b = (a.0, lawful_append members m es ds (focused m f e) a.1 b)

-- a message that was offered
abbrev pub SaidHere : Focus → Message → Type 0
SaidHere f (Requests r) = In r f.requests
SaidHere f (Answers a) = In a f.answers
SaidHere f (Pairs p) = In p f.pairs

-- what was offered stays so
pub record Grown (f g : Focus) : Type 0 where
  pub requests : (x : Request) → In x f.requests → In x g.requests
  pub answers : (x : Answer) → In x f.answers → In x g.answers
  pub pairs : (x : Pair) → In x f.pairs → In x g.pairs

pub grown_one : (m : ℕ) (f : Focus) (e : Micro) → Grown f (focused m f e)
grown_one m f (Grant _ n r) = record { requests = λ x i. i; answers = λ x i. inr i; pairs = λ x i. i }
grown_one m f (Deny _ n r) = record { requests = λ x i. i; answers = λ x i. inr i; pairs = λ x i. i }
grown_one m f (Accept _ n r) = record { requests = λ x i. i; answers = λ x i. inr i; pairs = λ x i. i }
grown_one m f (Tell _ n) = record { requests = λ x i. i; answers = λ x i. i; pairs = λ x i. inr i }
grown_one m f (Again _ n k) = record { requests = λ x i. i; answers = λ x i. i; pairs = λ x i. inr i }
grown_one m f (CallVote _ n q) = record { requests = λ x i. inr i; answers = λ x i. i; pairs = λ x i. i }
grown_one m f (CallAppend _ n q p w) = record { requests = λ x i. inr i; answers = λ x i. i; pairs = λ x i. i }
grown_one m f _ = record { requests = λ x i. i; answers = λ x i. i; pairs = λ x i. i }

pub grown : (m : ℕ) (es : List Micro) (f : Focus) → Grown f (focuses m f es)
grown m [] f = record { requests = λ x i. i; answers = λ x i. i; pairs = λ x i. i }
grown m (e ∷ es) f = let a = grown_one m f e in
    let b = grown m es (focused m f e) in
    record {
      requests = λ x i. b.requests x (a.requests x i);
      answers = λ x i. b.answers x (a.answers x i);
      pairs = λ x i. b.pairs x (a.pairs x i);
    }

pub said_grown : (f g : Focus) → Grown f g → (x : Message) → SaidHere f x → SaidHere g x
said_grown f g h (Requests r) i = h.requests r i
said_grown f g h (Answers a) i = h.answers a i
said_grown f g h (Pairs p) i = h.pairs p i
