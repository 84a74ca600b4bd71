-- All facts last through every lawful list of micro moves, and hold at the start.
use Rattle.std.proofs.Common.{◌≡◌, ℕ, ◌<◌, true, false, List, [], ◌∷◌, length, refl, arith, inl, inr}
use Rattle.can_frame.specs.declared.entry.Entry.{Entry}
use Rattle.can_frame.specs.Log.{IsInjective}
use Rattle.raft_model.specs.Log.{IsRising}
use Rattle.raft_model.proofs.Micro.{State, Micro, did, May, run, Lawful, start}
use Rattle.raft_model.proofs.Facts.{Facts}
use Rattle.raft_model.proofs.Stored.{stored_keeps}
use Rattle.raft_model.proofs.Matching.{matching_keeps}
use Rattle.raft_model.proofs.Acks.{acks_keeps}
use Rattle.raft_model.proofs.Committed.{committed_keeps}
use Rattle.raft_model.proofs.Apart.{f_no_c, f_no_l}
use Rattle.raft_model.proofs.Roles.{roles_keeps}
use Rattle.raft_model.proofs.Fresh.{fresh_keeps}
use Rattle.raft_model.proofs.Bound.{bound_keeps}
use Rattle.raft_model.proofs.Votes.{votes_keeps}
use Rattle.raft_model.proofs.Stood.{stood_keeps}
use Rattle.raft_model.proofs.Posted.{posted_keeps}
use Rattle.raft_model.proofs.Led.{led_keeps}
use Rattle.raft_model.proofs.Place.{place_keeps}
use Rattle.raft_model.proofs.Running.{running_keeps}
use Rattle.raft_model.proofs.Answered.{answered_keeps}
use Rattle.raft_model.proofs.Asked.{asked_keeps}
use Rattle.raft_model.proofs.Calls.{calls_keeps}
use Rattle.raft_model.proofs.Matched.{matched_keeps}
use Rattle.raft_model.proofs.Told.{told_keeps}

pub keeps : (s : State) (e : Micro) → May s e → Facts s → Facts (did s e)
keeps s e may f = record {
  stored = stored_keeps s e may f;
  roles = roles_keeps s e may f;
  fresh = fresh_keeps s e may f;
  bound = bound_keeps s e may f;
  votes = votes_keeps s e may f;
  stood = stood_keeps s e may f;
  led = led_keeps s e may f;
  place = place_keeps s e may f;
  running = running_keeps s e may f;
  asked = asked_keeps s e may f;
  answered = answered_keeps s e may f;
  posted = posted_keeps s e may f;
  calls = calls_keeps s e may f;
  matched = matched_keeps s e may f;
  matching = matching_keeps s e may f;
  acks = acks_keeps s e may f;
  committed = committed_keeps s e may f;
  told = told_keeps s e may f;
}

pub run_keeps : (es : List Micro) (s : State) → Lawful s es → Facts s → Facts (run s es)
run_keeps [] s l f = f
run_keeps (e ∷ es) s l f = run_keeps es (did s e) l.1 (keeps s e l.0 f)

pub no_place : (i : ℕ) → i < length {A = Entry} [] → ⊥
no_place i h = omega (arith, h)

pub start_meets : (members : List ℕ) → Facts (start members)
start_meets members = record {
  stored = record {
    within = λ m. omega arith;
    log_limit = λ m. omega arith;
    well_formed = λ m i h. absurd (no_place i h);
    rising = λ m. rise 0;
    injective = λ m. inj;
  };
  roles = record { down = λ m e. (refl, refl); voted = λ m n. absurd (n refl); terms = λ m n. absurd (n refl) };
  fresh = record {
    follower = λ m e. absurd (cross e);
    terms = λ m e. absurd (cross e);
    entries = λ m i e. absurd (cross e);
    votes = λ m k e. absurd (cross e);
    stood = λ m c e. absurd (cross e);
  };
  bound = record { votes = λ k i. absurd i; stood = λ c i. absurd i };
  votes = record { one = λ x y i. absurd i; candidacy = λ k i. absurd i; flagged = λ k i. absurd i; rising = λ k i. absurd i };
  stood = record { one = λ x y i. absurd i; terms = λ c i. absurd i; rising = λ c i. absurd i; below = λ c k i. absurd i };
  led = record {
    candidacy = λ t e. absurd (cross e);
    votes = λ t e. absurd (cross e);
    rising = λ t. rise t;
    log_limit = λ t. omega arith;
    well_formed = λ t i h. absurd (no_place i h);
    injective = λ t. inj;
  };
  place = record { above = λ t e. absurd (cross e); no_candidate = λ t e. absurd (cross e); same_log = λ t e. absurd (cross e) };
  running = record { leads = λ m e. absurd (f_no_l e); stands = λ m e. absurd (f_no_c e); counted = λ m q e. absurd (f_no_c e) };
  asked = record { other = λ r i. absurd i; vote = λ r i. absurd i; append = λ r i. absurd i; entry = λ r e i. absurd i };
  answered = record { asked = λ a i. absurd i; success = λ a i. absurd i; voted = λ a i. absurd i };
  posted = record { request = λ r i. absurd i; answer = λ a i. absurd i; pair = λ p i. absurd i };
  calls = record { own = λ m q r n. absurd (n refl); votes = λ m q r e. absurd (f_no_c e); appends = λ m q r e. absurd (f_no_l e) };
  matched = record { acked = λ m q e. absurd (f_no_l e) };
  matching = record
      { logs = λ m i h. absurd (no_place i h); lists = λ t i h. absurd (no_place i h); stood = λ c i. absurd i; voted = λ k i. absurd i };
  acks = record { own_log = λ m t j a. elim a [ inl x ↦ absurd (cross x.0) | inr x ↦ absurd x.1 ]; voted = λ k t j i. absurd i };
  committed = record
      { server = λ m. inl refl; below = λ m. omega arith; request = λ r i. absurd i; stamped = refl; place = λ i h. absurd (no_place i h) };
  told = record { pair = λ p i. absurd i };
}
  where
    cross : false ≡ true → ⊥
    cross e = cc

    rise : (t : ℕ) → IsRising [] t
    rise t = record { low = λ i h. absurd (no_place i h); high = λ i h. absurd (no_place i h); rises = λ i j l h. absurd (no_place j h) }

    inj : IsInjective []
    inj = λ i j l h. absurd (no_place j h)
