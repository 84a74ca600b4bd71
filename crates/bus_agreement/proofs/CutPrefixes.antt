-- A step that was cut off is a prefix of the step.
use Rattle.std.proofs.Common.{◌≡◌, ℕ, zero, suc, ◌+◌, ◌-◌, ◌<◌, ◌≤◌, Bool, true, false, List, [], ◌∷◌, ◌++◌, length, take, refl, arith, sym, ◌∙◌, ap, length-append}
use Rattle.std.proofs.lemmas.List.{append_assoc, append-nil}
use Rattle.std.proofs.lemmas.Bool.{ltb-false, ltb-true}
use Rattle.std.specs.Prelude.{nat_lt, if◌then◌else◌}
use Rattle.raft_model.specs.Handlers.{server_after, puts_of_all}
use Rattle.raft_model.specs.Moves.{Move, puts}
use Rattle.raft_model.specs.Runs.Event.{StopsWithin}
use Rattle.raft_model.specs.Server.{RaftServer, Put, Store, put, put_all}
use Rattle.bus_agreement.specs.Cuts.{IsOneStop}
use Rattle.bus_spec.specs.Refinement.{cut_event}

take_left : (n : ℕ) (xs ys : List Put) → n ≤ length xs → take n (xs ++ ys) ≡ take n xs
take_left zero [] [] h = refl
take_left zero [] (y ∷ ys) h = refl
take_left zero (x ∷ xs) ys h = refl
take_left (suc n) [] ys h = absurd (omega (arith, h))
take_left (suc n) (x ∷ xs) ys h = ap (λ (l : List Put). x ∷ l) (take_left n xs ys (omega (arith, h)))

-- all of the first list, and then some of the second
take_right : (n k : ℕ) (xs ys : List Put) → n ≡ length xs + k → take n (xs ++ ys) ≡ xs ++ take k ys
take_right n k [] ys e = ap (λ (j : ℕ). take j ys) (omega (arith, e))
take_right zero k (x ∷ xs) ys e = absurd (omega (arith, e))
take_right (suc n) k (x ∷ xs) ys e = ap (λ (l : List Put). x ∷ l) (take_right n k xs ys (omega (arith, e)))

put_both : (store : Store) (xs ys : List Put) → put_all store (xs ++ ys) ≡ put_all (put_all store xs) ys
put_both store [] ys = refl
put_both store (x ∷ xs) ys = put_both (put store x) xs ys

module _ (members : List ℕ) (m number more : ℕ) (few : more ≤ 1) where
  pub one_stop : (raft_server : RaftServer) (earlier moves : List Move) (done : ℕ) → done < length (puts_of_all members m number raft_server moves)
      → IsOneStop members m number raft_server earlier moves done more (cut_event members m number raft_server earlier moves done more)
  one_stop raft_server earlier [] done h = absurd (omega (arith, h))
  one_stop raft_server earlier (move ∷ moves) done h =
      by (λ inside. one_stop (server_after members m number raft_server move) (earlier ++ (move ∷ [])) moves (done - length (puts members m raft_server move)) inside) (nat_lt done (length own)) refl
    where
      own : List Put
      own = puts members m raft_server move

      after : RaftServer
      after = server_after members m number raft_server move

      all : List Put
      all = puts_of_all members m number after moves

      left : ℕ
      left = done - length own

      Later : Type 0
      Later = IsOneStop members m number after (earlier ++ (move ∷ [])) moves left more (cut_event members m number after (earlier ++ (move ∷ [])) moves left more)

      by : (left < length all → Later) → (b : Bool) → nat_lt done (length own) ≡ b → IsOneStop members m number raft_server earlier (move ∷ moves) done more
          (if b then StopsWithin m number earlier move (done + more) ∷ [] else cut_event members m number after (earlier ++ (move ∷ [])) moves left more)
      by later true e = let less : done < length own = ltb-true done (length own) e in record {
        before = [];
        next = move;
        rest = moves;
        count = done;
        split = refl;
        inside = less;
        one = ap (λ (l : List Move). StopsWithin m number l move (done + more) ∷ []) (sym (append-nil earlier));
        stored = ap (λ (l : List Put). put_all raft_server.store l) (take_left (done + more) own all (omega (arith, less, few)));
      }
      by later false e =
          let least : length own ≤ done = ltb-false done (length own) e in
          let inner : Later = later (omega (arith, h, least, length-append own all)) in
          record {
            before = move ∷ inner.before;
            next = inner.next;
            rest = inner.rest;
            count = inner.count;
            split = ap (λ (l : List Move). move ∷ l) inner.split;
            inside = inner.inside;
            one = inner.one ∙ ap (λ (l : List Move). StopsWithin m number l inner.next (inner.count + more) ∷ []) (append_assoc earlier (move ∷ []) inner.before);
            stored = ap (λ (l : List Put). put_all raft_server.store l) (take_right (done + more) (left + more) own all (omega (arith, least)))
                ∙ (put_both raft_server.store own (take (left + more) all) ∙ inner.stored);
          }
