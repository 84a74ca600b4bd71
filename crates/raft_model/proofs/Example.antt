-- A cluster of three that elects a leader, commits a pair and tells it, and then commits a reservation and passes it over.
use Rattle.std.proofs.Common.{◌≡◌, ◌≢◌, ℕ, zero, suc, true, List, [], ◌∷◌, ◌++◌, length, refl, arith, inl, inr, Some}
use Rattle.std.specs.Prelude.{replicate}
use Rattle.raft_model.specs.Lists.{In}
use Rattle.can_frame.specs.declared.entry.Entry.{Entry}
use Rattle.can_frame.specs.Log.{IsInjective, IsPair, IsReservation}
use Rattle.can_frame.specs.Zeros.{zeros}
use Rattle.raft_model.specs.Messages.{Request, Answer, Pair}
use Rattle.raft_model.specs.Messages.Message.{Requests, Answers, Pairs}
use Rattle.raft_model.specs.Server.{Store}
use Rattle.raft_model.specs.Moves.{vote_request, append_request, answer_to, pair_at}
use Rattle.raft_model.specs.Moves.Move.{TimeOut, TakeVoteRequest, TakeVoteAnswer, TakeAppendRequest, TakeAppendAnswer, ProposeEntry, CommitTo, TellPair, TellNothing, CallForVote, CallToAppend}
use Rattle.raft_model.specs.Moves.Verdict.{Added}
use Rattle.raft_model.specs.Runs.{Event, initial_world, run, Lawful}
use Rattle.raft_model.specs.Runs.Event.{Opens, Steps}
use Rattle.raft_model.specs.Rows.{IsAtWork}
use Rattle.raft_model.proofs.Prefixes.{joined_lawful}

abbrev pub three : List ℕ
three = 1 ∷ 2 ∷ 3 ∷ []

-- the entry that is proposed
abbrev pub entry : Entry
entry = record { term = 1; uid = replicate 16 1; node = 125 }

-- the store of a server of term 1 that voted for 1
abbrev pub voter : Store
voter = record { term = 1; vote = Some 1; log = []; commit = 0 }

abbrev pub leader : Store
leader = record { term = 1; vote = Some 1; log = entry ∷ []; commit = 0 }

abbrev pub asked : Request
asked = vote_request 1 1 voter 2

abbrev pub granted : Answer
granted = answer_to 2 2 voter asked true

abbrev pub sent : Request
sent = append_request 1 4 leader 2 0 true

abbrev pub accepted : Answer
accepted = answer_to 2 5 leader sent true

abbrev pub told : Pair
told = pair_at 1 6 leader 0

abbrev pub example : List Event
example = Opens 1 ∷ Opens 2
    ∷ Steps 1 1 (TimeOut ∷ CallForVote 2 ∷ []) (Requests asked ∷ [])
    ∷ Steps 2 2 (TakeVoteRequest asked true ∷ []) (Answers granted ∷ [])
    ∷ Steps 1 3 (TakeVoteAnswer granted ∷ ProposeEntry entry ∷ []) []
    ∷ Steps 1 4 (CallToAppend 2 0 true ∷ []) (Requests sent ∷ [])
    ∷ Steps 2 5 (TakeAppendRequest sent (Added entry) ∷ []) (Answers accepted ∷ [])
    ∷ Steps 1 6 (TakeAppendAnswer accepted ∷ CommitTo 1 ∷ TellPair ∷ []) (Pairs told ∷ [])
    ∷ []

pub not_zeros : replicate 16 1 ≢ zeros
not_zeros e = cc

pub one_injective : (e : Entry) → IsInjective (e ∷ [])
one_injective e = λ i j b c. absurd (omega (arith, b, c))

pub is_pair : IsPair entry
is_pair = record { uid = not_zeros; least = omega arith; most = omega arith }

pub lawful : Lawful (initial_world three) example
lawful = (
  (inl refl, refl),
  (
    (inr (inl refl), refl),
    (
      (
        refl,
        omega arith,
        ((λ e. cc, omega arith), ((refl, record { other = λ e. cc; listed = inr (inl refl); free = refl; first = λ i. i }), tt)),
        λ g i. i,
      ),
      (
        (
          refl,
          omega arith,
          ((inl refl, refl, refl, record { own_term = refl; free = inl refl; not_above = inr (refl, omega arith) }), tt),
          λ g i. i,
        ),
        (
          (
            refl,
            omega arith,
            (
              (inl (inl refl), refl, refl, refl),
              (
                record {
                  leads = refl;
                  room = omega arith;
                  own_term = refl;
                  kind = inr (inr is_pair);
                  injective = one_injective entry;
                },
                tt,
              ),
            ),
            λ g i. absurd i,
          ),
          (
            (
              refl,
              omega arith,
              ((refl, omega arith, record { other = λ e. cc; listed = inr (inl refl); free = refl; first = λ i. i }), tt),
              λ g i. i,
            ),
            (
              (
                refl,
                omega arith,
                (
                  (
                    inl refl,
                    refl,
                    refl,
                    (
                      inr (refl, λ e. cc),
                      record {
                        fits = record { previous = omega arith; previous_term = refl };
                        carried = refl;
                        room = omega arith;
                        not_there = λ t. absurd (omega (arith, t.0));
                        after_commit = omega arith;
                        well_formed = inr (inr is_pair);
                        rises = omega arith;
                        below = omega arith;
                        injective = one_injective entry;
                      },
                    ),
                  ),
                  tt,
                ),
                λ g i. i,
              ),
              (
                (
                  refl,
                  omega arith,
                  (
                    (inl (inl refl), refl, refl, refl),
                    (
                      (
                        refl,
                        record {
                          can = record { above = omega arith; inside = omega arith; own_term = refl; held = omega arith };
                          greatest = λ i c. c.inside;
                        },
                      ),
                      ((refl, omega arith, not_zeros), tt),
                    ),
                  ),
                  λ g i. i,
                ),
                tt,
              ),
            ),
          ),
        ),
      ),
    ),
  ),
)

pub tells : In (Pairs told) (run (initial_world three) example).bag
tells = inl refl

pub commits : length (run (initial_world three) example).ledger.entries ≡ 1
commits = refl

-- ---- and then a reservation

-- the entry that keeps node ID 50 back
abbrev pub kept : Entry
kept = record { term = 1; uid = zeros; node = 50 }

abbrev pub leader_then : Store
leader_then = record { term = 1; vote = Some 1; log = entry ∷ kept ∷ []; commit = 1 }

abbrev pub sent_then : Request
sent_then = append_request 1 7 leader_then 2 1 true

abbrev pub accepted_then : Answer
accepted_then = answer_to 2 8 leader_then sent_then true

abbrev pub further : List Event
further = Steps 1 7 (ProposeEntry kept ∷ CallToAppend 2 1 true ∷ []) (Requests sent_then ∷ [])
    ∷ Steps 2 8 (TakeAppendRequest sent_then (Added kept) ∷ []) (Answers accepted_then ∷ [])
    ∷ Steps 1 9 (TakeAppendAnswer accepted_then ∷ CommitTo 2 ∷ TellNothing ∷ []) []
    ∷ []

pub is_reservation : IsReservation kept
is_reservation = record { uid = refl; least = omega arith; most = omega arith }

pub two_injective : IsInjective (entry ∷ kept ∷ [])
two_injective i zero b c = absurd (omega (arith, b))
two_injective zero (suc zero) b c = record { nodes = λ na nb e. omega (arith, e); uids = λ na nb e. e }
two_injective zero (suc (suc j)) b c = absurd (omega (arith, c))
two_injective (suc i) (suc j) b c = absurd (omega (arith, b, c))

pub lawful_further : Lawful (run (initial_world three) example) further
lawful_further = (
  (
    refl,
    omega arith,
    (
      record { leads = refl; room = omega arith; own_term = refl; kind = inr (inl is_reservation); injective = two_injective },
      ((refl, omega arith, record { other = λ e. cc; listed = inr (inl refl); free = refl; first = λ i. i }), tt),
    ),
    λ g i. i,
  ),
  (
    (
      refl,
      omega arith,
      (
        (
          inl refl,
          refl,
          refl,
          (
            inr (refl, λ e. cc),
            record {
              fits = record { previous = omega arith; previous_term = refl };
              carried = refl;
              room = omega arith;
              not_there = λ t. absurd (omega (arith, t.0));
              after_commit = omega arith;
              well_formed = inr (inl is_reservation);
              rises = omega arith;
              below = omega arith;
              injective = two_injective;
            },
          ),
        ),
        tt,
      ),
      λ g i. i,
    ),
    (
      (
        refl,
        omega arith,
        (
          (inl (inl refl), refl, refl, refl),
          (
            (
              refl,
              record {
                can = record { above = omega arith; inside = omega arith; own_term = refl; held = omega arith };
                greatest = λ i c. c.inside;
              },
            ),
            ((refl, omega arith, refl), tt),
          ),
        ),
        λ g i. absurd i,
      ),
      tt,
    ),
  ),
)

pub lawful_whole : Lawful (initial_world three) (example ++ further)
lawful_whole = joined_lawful (initial_world three) example further lawful lawful_further

pub at_work : IsAtWork (run (initial_world three) (example ++ further)) 1
at_work = record {
  ledger = refl;
  pair = is_pair;
  reservation = is_reservation;
  leads = refl;
  told = told;
  tells = inr (inr (inl refl));
  passed_over = refl;
}
