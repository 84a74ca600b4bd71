-- What is stored after some of the first of the puts of two steps, and of servers that store the same.
use Rattle.std.proofs.Common.{◌≡◌, ℕ, zero, suc, ◌+◌, ◌<◌, ◌≤◌, List, [], ◌∷◌, ◌++◌, length, take, refl, sym, ap, arith}
use Rattle.std.proofs.lemmas.List.{take_all}
use Rattle.raft_core.specs.StoredPuts.{PutWithOrigin, number_of_vote, put_from, store_of, stored_put, stored_puts, vote_of}
use Rattle.raft_log.specs.Stored.{Put, Stored, after_put, after_puts}
use Rattle.raft_model.specs.Server.{Store}
use Rattle.raft_model.specs.Server.Put.{PutCommit, PutEntry, PutLonger, PutShorter, PutTerm, PutVote}
use Rattle.raft_model.specs.Server as raft
use Rattle.cmd_node_laws.specs.Alike.{Alike, AsRead, Likeness, Whole}

pub as_many : (puts : List PutWithOrigin) (state : Stored) → length (stored_puts puts state) ≡ length puts
as_many [] state = refl
as_many (put ∷ puts) state = ap suc (as_many puts (after_put (stored_put put state) state))

abbrev pub after_noted : List PutWithOrigin → Stored → Stored
after_noted puts state = after_puts (stored_puts puts state) state

-- after so many of them
abbrev pub after_some : ℕ → List PutWithOrigin → Stored → Stored
after_some count puts state = after_puts (take count (stored_puts puts state)) state

pub some_of_first : (first rest : List PutWithOrigin) (count : ℕ) (state : Stored) → count < length first → after_some count (first ++ rest) state ≡ after_some count first state
some_of_first [] rest count state h = absurd (omega (arith, h))
some_of_first (put ∷ first) rest zero state h = refl
some_of_first (put ∷ first) rest (suc count) state h = some_of_first first rest count (after_put (stored_put put state) state) (omega (arith, h))

pub some_of_rest : (first rest : List PutWithOrigin) (more count : ℕ) (state : Stored) → more + length first ≡ count → after_some count (first ++ rest) state ≡ after_some more rest (after_noted first state)
some_of_rest [] rest more count state e = ap (λ (n : ℕ). after_some n rest state) (sym (let h : more ≡ count = omega (arith, e) in h))
some_of_rest (put ∷ first) rest more zero state e = absurd (omega (arith, e))
some_of_rest (put ∷ first) rest more (suc count) state e = some_of_rest first rest more count (after_put (stored_put put state) state) (omega (arith, e))

-- all of them, and more
pub all_of : (puts : List PutWithOrigin) (count : ℕ) (state : Stored) → length puts ≤ count → after_some count puts state ≡ after_noted puts state
all_of puts count state h = ap (λ (l : List Put). after_puts l state) (take_all count (stored_puts puts state) (omega (arith, as_many puts state, h)))

-- ---- states that are read as one store

one_alike : (put : PutWithOrigin) (a b : Stored) → store_of a ≡ store_of b → store_of (after_put (stored_put put a) a) ≡ store_of (after_put (stored_put put b) b)
one_alike put a b e = by put.put put.origin
  where
    by : (p : raft.Put) (origin : ℕ) → store_of (after_put (put_from origin p a) a) ≡ store_of (after_put (put_from origin p b) b)
    by (PutTerm term) origin = ap (λ (s : Store). record s { term = term }) e
    by (PutVote vote) origin = λ i. record (e i) { vote = vote_of (number_of_vote vote) }
    by (PutEntry entry) origin = e
    by (PutLonger entry) origin = ap (λ (s : Store). record s { log = s.log ++ (entry ∷ []) }) e
    by (PutShorter count) origin = ap (λ (s : Store). record s { log = take count s.log }) e
    by (PutCommit index) origin = ap (λ (s : Store). record s { commit = index }) e

pub some_alike : (count : ℕ) (puts : List PutWithOrigin) (a b : Stored) → store_of a ≡ store_of b → store_of (after_some count puts a) ≡ store_of (after_some count puts b)
some_alike zero puts a b e = e
some_alike (suc count) [] a b e = e
some_alike (suc count) (put ∷ puts) a b e = some_alike count puts (after_put (stored_put put a) a) (after_put (stored_put put b) b) (one_alike put a b e)

-- the same of each likeness
pub alike_some : (likeness : Likeness) (count : ℕ) (puts : List PutWithOrigin) (a b : Stored) → Alike likeness a b → Alike likeness (after_some count puts a) (after_some count puts b)
alike_some AsRead count puts a b e = some_alike count puts a b e
alike_some Whole count puts a b e = ap (after_some count puts) e
