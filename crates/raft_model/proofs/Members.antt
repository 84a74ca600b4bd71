-- Counts over two lists of the same members.
use Rattle.std.proofs.Common.{◌≡◌, ◌≢◌, ℕ, ◌≤◌, zero, suc, ◌+◌, Bool, true, List, [], ◌∷◌, length, refl, arith, sym, ◌∙◌, ap, subst, inl, inr, Option, Some}
use Rattle.std.specs.Prelude.{if◌then◌else◌, nat_le, ◌/◌}
use Rattle.raft_model.specs.Lists.{In, how_many}
use Rattle.raft_model.specs.Messages.{Message}
use Rattle.raft_model.specs.Server.{RaftServer, quorum}
use Rattle.raft_model.specs.Server.Role.{Follower}
use Rattle.raft_model.specs.Moves.{Move, IsEnabled, CanCommit, MayCall, puts, memory_after, counts, votes_with, has_matched, has_quorum, own_vote}
use Rattle.raft_model.specs.Moves.Move.{TimeOut, TakeVoteRequest, TakeVoteAnswer, TakeAppendRequest, TakeAppendAnswer, ProposeEntry, CommitTo, TellPair, TellNothing, CallForVote, CallToAppend, AnswerAgain, GiveUp}
use Rattle.raft_model.specs.Members.{IsAll, counts_votes}
use Rattle.raft_model.specs.Decisions.{can_commit, greatest_to, commit_index}
use Rattle.raft_model.specs.Duty.{is_heard}
use Rattle.raft_model.proofs.Apart.{candidate_no_follower, leader_no_follower}
use Rattle.raft_model.proofs.Quorum.{tell}

-- the list without the place at which x stands
abbrev without : (x : ℕ) (ys : List ℕ) → In x ys → List ℕ
without x [] i = elim i [ ]
without x (y ∷ ys) (inl e) = ys
without x (y ∷ ys) (inr i) = y ∷ without x ys i

without_count : (test : ℕ → Bool) (x : ℕ) (ys : List ℕ) (i : In x ys)
    → how_many test ys ≡ (if test x then 1 else 0) + how_many test (without x ys i)
without_count test x [] i = elim i [ ]
without_count test x (y ∷ ys) (inl e) = ap (λ (z : ℕ). (if test z then 1 else 0) + how_many test ys) (sym e)
without_count test x (y ∷ ys) (inr i) = omega (arith, without_count test x ys i)

without_length : (x : ℕ) (ys : List ℕ) (i : In x ys) → length ys ≡ suc (length (without x ys i))
without_length x [] i = elim i [ ]
without_length x (y ∷ ys) (inl e) = refl
without_length x (y ∷ ys) (inr i) = ap suc (without_length x ys i)

still_there : (x z : ℕ) (ys : List ℕ) (i : In x ys) → z ≢ x → In z ys → In z (without x ys i)
still_there x z [] i n j = elim i [ ]
still_there x z (y ∷ ys) (inl e) n (inl d) = absurd (n (d ∙ sym e))
still_there x z (y ∷ ys) (inl e) n (inr j) = j
still_there x z (y ∷ ys) (inr i) n (inl d) = inl d
still_there x z (y ∷ ys) (inr i) n (inr j) = inr (still_there x z ys i n j)

empty : (ys : List ℕ) → 0 ≡ length ys → ys ≡ []
empty [] e = refl
empty (y ∷ ys) e = absurd (omega (arith, e))

pub same_count : (list members : List ℕ) (test : ℕ → Bool) → IsAll list members → how_many test list ≡ how_many test members
same_count [] members test h = ap (how_many test) (sym (empty members h.as_many))
same_count (x ∷ xs) members test h = omega (arith, same_count xs (without x members here) test rest, without_count test x members here)
  where
    here : In x members
    here = h.among x (inl refl)

    rest : IsAll xs (without x members here)
    rest = record {
      once = h.once.1;
      among = λ z i. still_there x z members here (λ e. h.once.0 (subst (λ (n : ℕ). In n xs) e i)) (h.among z (inr i));
      as_many = omega (arith, h.as_many, without_length x members here);
    }

pub same_quorum : (list members : List ℕ) (votes : ℕ → Bool) → IsAll list members → has_quorum list votes ≡ has_quorum members votes
same_quorum list members votes h = ap (λ (n : ℕ). nat_le (n / 2 + 1) (how_many votes list)) h.as_many
    ∙ ap (λ (n : ℕ). nat_le (quorum members) n) (same_count list members votes h)

pub same_puts : (list members : List ℕ) (member : ℕ) (server : RaftServer) (move : Move)
    → puts list member server move ≡ puts members member server move
same_puts list members member server _ = refl

pub same_memory : (list members : List ℕ) (member step : ℕ) (server : RaftServer) (move : Move)
    → (counts_votes server move ≡ true → IsAll list members)
    → memory_after list member step server move ≡ memory_after members member step server move
same_memory list members member step server TimeOut h = rw (same_quorum list members (own_vote member) (h refl)) refl
same_memory list members member step server (TakeVoteAnswer answer) h = elim (tell (counts server answer)) [
  | inl c ↦ rw (same_quorum list members (votes_with server.memory answer) (h c)) refl
  | inr c ↦ rw (c) refl
]
same_memory list members member step server _ h = refl

same_can : (list members : List ℕ) (member : ℕ) (server : RaftServer) (index : ℕ) → IsAll list members
    → can_commit list member server index ≡ can_commit members member server index
same_can list members member server index h = rw (same_quorum list members (has_matched member server index) h) refl

same_greatest : (limit : ℕ) (a b : ℕ → Bool) → ((i : ℕ) → a i ≡ b i) → greatest_to limit a ≡ greatest_to limit b
same_greatest zero a b h = rw (h zero) refl
same_greatest (suc limit) a b h = rw (h (suc limit))
    (ap (λ (o : Option ℕ). if b (suc limit) then Some (suc limit) else o) (same_greatest limit a b h))

pub same_commit : (list members : List ℕ) (member : ℕ) (server : RaftServer) → IsAll list members
    → commit_index list member server ≡ commit_index members member server
same_commit list members member server h = same_greatest (length server.store.log) (can_commit list member server)
    (can_commit members member server) (λ i. same_can list members member server i h)

can_over : (list members : List ℕ) (member : ℕ) (server : RaftServer) (index : ℕ)
    → how_many (has_matched member server index) list ≡ how_many (has_matched member server index) members → length list ≡ length members
    → CanCommit list member server index → CanCommit members member server index
can_over list members member server index count as_many can = record {
  above = can.above;
  inside = can.inside;
  own_term = can.own_term;
  held = subst (λ (n : ℕ). n / 2 + 1 ≤ how_many (has_matched member server index) members) as_many
      (subst (λ (n : ℕ). quorum list ≤ n) count can.held);
}

calls_over : (list members : List ℕ) (member : ℕ) (called : List ℕ) (server : RaftServer) (peer : ℕ) → IsAll list members
    → MayCall list member called server peer → MayCall members member called server peer
calls_over list members member called server peer all may = record
    { other = may.other; listed = all.among peer may.listed; free = may.free; first = may.first }

pub same_heard : (list members : List ℕ) (member : ℕ) (server : RaftServer) → IsAll list members
    → is_heard list member server ≡ is_heard members member server
same_heard list members member server h = rw (same_quorum list members (has_matched member server (length server.store.log)) h) refl

-- a move that may come by a list of all members may come
pub same_come : (list members : List ℕ) (member : ℕ) (bag : List Message) (called : List ℕ) (server : RaftServer) (move : Move)
    → (server.memory.role ≢ Follower → IsAll list members)
    → IsEnabled list member bag called server move → IsEnabled members member bag called server move
same_come list members member bag called server TimeOut all comes = comes
same_come list members member bag called server (TakeVoteRequest request granted) all comes = comes
same_come list members member bag called server (TakeVoteAnswer answer) all comes = comes
same_come list members member bag called server (TakeAppendRequest request verdict) all comes = comes
same_come list members member bag called server (TakeAppendAnswer answer) all comes = comes
same_come list members member bag called server (ProposeEntry entry) all comes = comes
same_come list members member bag called server (CommitTo index) all comes = (
  comes.0,
  record {
    can = can_over list members member server index (same_count list members (has_matched member server index) full) full.as_many comes.1.can;
    greatest = λ place can. comes.1.greatest place
        (can_over members list member server place (sym (same_count list members (has_matched member server place) full)) (sym full.as_many)
        can);
  },
)
  where
    full : IsAll list members
    full = all (λ e. leader_no_follower server.memory.role comes.0 e)
same_come list members member bag called server TellPair all comes = comes
same_come list members member bag called server TellNothing all comes = comes
same_come list members member bag called server (CallForVote peer) all comes =
    (comes.0, calls_over list members member called server peer (all (λ e. candidate_no_follower server.memory.role comes.0 e)) comes.1)
same_come list members member bag called server (CallToAppend peer previous with_entry) all comes = (
  comes.0,
  comes.1,
  calls_over list members member called server peer (all (λ e. leader_no_follower server.memory.role comes.0 e)) comes.2,
)
same_come list members member bag called server (AnswerAgain place) all comes = comes
same_come list members member bag called server (GiveUp peer) all comes = comes
