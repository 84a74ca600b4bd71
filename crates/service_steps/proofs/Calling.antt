-- A leader calls a peer, the peer takes the call, and the leader takes its answer: three steps of a run.
use Rattle.std.proofs.Common.{◌≡◌, ◌≢◌, ℕ, zero, suc, ◌+◌, ◌*◌, ◌≤◌, true, List, [], ◌∷◌, inl, refl, sym, ◌∙◌, ap, subst, arith, length, Some, None}
use Rattle.raft_model.specs.Decisions.{verdict_on}
use Rattle.raft_model.specs.Handlers.{server_after}
use Rattle.raft_model.specs.Lists.{In, at_here}
use Rattle.raft_model.specs.Messages.{Answer, Request}
use Rattle.raft_model.specs.Messages.Message.{Answers, Requests}
use Rattle.raft_model.specs.Moves.{Move}
use Rattle.raft_model.specs.Moves.Appending.{IsJudged, Verdict, append_memory}
use Rattle.raft_model.specs.Moves.Appending.Verdict.{Added, Held, Outdated, Refused}
use Rattle.raft_model.specs.Moves.Move.{CallToAppend, TakeAppendAnswer, TakeAppendRequest}
use Rattle.raft_model.specs.Runs.{World}
use Rattle.raft_model.specs.Server.{RaftServer, Store}
use Rattle.raft_model.specs.Server.Role.{Leader}
use Rattle.raft_model.proofs.Decisions.{judged}
use Rattle.service_steps.specs.CatchingUp.{AreJoined, CatchesUp, Two, after_call, after_calls, answer_in, call_in, previous_of, two_of, verdict_in}
use Rattle.service_steps.specs.Coming.{CanCome}
use Rattle.service_steps.proofs.CatchingUp.{catches_up, joined_after, noted_more, store_after}
use Rattle.service_steps.proofs.Coming.{Does, after_that, at_once, does, doing, its_server, other_server, so}

-- the leader may call the peer
pub record MayCallPeer (world : World) (me you : ℕ) : Type 0 where
  pub other : you ≢ me
  pub listed : In you world.members
  pub my_up : (world.server me).memory.up ≡ true
  pub your_up : (world.server you).memory.up ≡ true
  pub free : (world.server me).memory.pending you ≡ None
  pub joined : AreJoined world.members me you (two_of world me you)

-- what so many calls leave
pub record AreCalled (count : ℕ) (me you : ℕ) (world later : World) : Type 0 where
  pub two : two_of later me you ≡ after_calls world.members me you count world.steps (two_of world me you)
  pub others : (n : ℕ) → n ≢ me → n ≢ you → later.server n ≡ world.server n
  pub members : later.members ≡ world.members
  pub steps : later.steps ≡ world.steps + 3 * count
  pub my_up : (later.server me).memory.up ≡ true
  pub your_up : (later.server you).memory.up ≡ true
  pub free : (later.server me).memory.pending you ≡ None
  pub untouched : (n : ℕ) → n ≢ you → ((later.server me).memory.matched n ≡ (world.server me).memory.matched n)
      × ((later.server me).memory.pending n ≡ (world.server me).memory.pending n)
  pub told : (later.server me).memory.told ≡ (world.server me).memory.told
  pub joined : AreJoined later.members me you (two_of later me you)
  pub store : (later.server me).store ≡ (world.server me).store

append_up : (server : RaftServer) (request : Request) (verdict : Verdict) → (append_memory server request verdict).up ≡ server.memory.up
append_up server request Outdated = refl
append_up server request Refused = refl
append_up server request Held = refl
append_up server request (Added entry) = refl

module _ (one_verdict : (server : RaftServer) (request : Request) (verdict : Verdict) → IsJudged server request verdict → verdict ≡ verdict_on server request) where
  module _ (world : World) (me you : ℕ) (m : MayCallPeer world me you) where
    abbrev two : Two
    two = two_of world me you

    abbrev number : ℕ
    number = world.steps

    abbrev call : Request
    call = call_in world.members me you number two

    abbrev verdict : Verdict
    verdict = verdict_in world.members me you number two

    abbrev answer : Answer
    answer = answer_in world.members me you number two

    abbrev calls : Move
    calls = CallToAppend you (previous_of world.members me you two) true

    -- the three worlds
    abbrev first : World
    first = does world me (number + 1) calls (Requests call ∷ [])

    abbrev second : World
    second = does first you (number + 2) (TakeAppendRequest call verdict) (Answers answer ∷ [])

    abbrev third : World
    third = does second me (number + 3) (TakeAppendAnswer answer) []

    first_does : Does world me (number + 1) calls (Requests call ∷ []) (world.server me)
    first_does = record {
      is = refl;
      up = m.my_up;
      later = omega arith;
      comes = (m.joined.leads, omega (arith, m.joined.least, m.joined.next), record { other = m.other; listed = m.listed; free = m.free; first = λ i. i });
      inside = λ message i. i;
    }

    abbrev called : RaftServer
    called = server_after world.members me (number + 1) (world.server me) calls

    first_me : first.server me ≡ called
    first_me = its_server world me (number + 1) calls (Requests call ∷ []) (world.server me) refl

    first_you : first.server you ≡ world.server you
    first_you = other_server world me (number + 1) calls (Requests call ∷ []) you m.other

    second_does : Does first you (number + 2) (TakeAppendRequest call verdict) (Answers answer ∷ []) (world.server you)
    second_does = record {
      is = first_you;
      up = m.your_up;
      later = omega arith;
      comes = (inl refl, refl, refl, judged (world.server you) call);
      inside = λ message i. i;
    }

    second_you : second.server you ≡ (after_call world.members me you number two).peer
    second_you = its_server first you (number + 2) (TakeAppendRequest call verdict) (Answers answer ∷ []) (world.server you) first_you

    second_me : second.server me ≡ called
    second_me = other_server first you (number + 2) (TakeAppendRequest call verdict) (Answers answer ∷ []) me (λ e. m.other (sym e)) ∙ first_me

    third_does : Does second me (number + 3) (TakeAppendAnswer answer) [] called
    third_does = record {
      is = second_me;
      up = m.my_up;
      later = omega arith;
      comes = (inl (inl refl), refl, refl, at_here (world.server me).memory.pending you you (Some call) refl);
      inside = λ message i. absurd i;
    }

    third_me : third.server me ≡ (after_call world.members me you number two).leader
    third_me = its_server second me (number + 3) (TakeAppendAnswer answer) [] called second_me

    third_you : third.server you ≡ (after_call world.members me you number two).peer
    third_you = other_server second me (number + 3) (TakeAppendAnswer answer) [] you m.other ∙ second_you

    both : (a b : RaftServer) (t : Two) → a ≡ t.leader → b ≡ t.peer → record { leader = a; peer = b } ≡ t
    both a b t x y = ap (λ (l : RaftServer). record { leader = l; peer = b }) x ∙ ap (λ (p : RaftServer). record { leader = t.leader; peer = p }) y

    one_called : AreCalled 1 me you world third
    one_called = record {
      two = both (third.server me) (third.server you) (after_call world.members me you number two) third_me third_you;
      others = λ n not_me not_you.
          other_server second me (number + 3) (TakeAppendAnswer answer) [] n not_me
          ∙ (other_server first you (number + 2) (TakeAppendRequest call verdict) (Answers answer ∷ []) n not_you
          ∙ other_server world me (number + 1) calls (Requests call ∷ []) n not_me);
      members = refl;
      steps = omega arith;
      my_up = ap (λ (s : RaftServer). s.memory.up) third_me ∙ (more.0 ∙ m.my_up);
      your_up = ap (λ (s : RaftServer). s.memory.up) third_you ∙ (append_up (world.server you) call verdict ∙ m.your_up);
      free = ap (λ (s : RaftServer). s.memory.pending you) third_me ∙ more.1;
      untouched = λ n not_you. (ap (λ (s : RaftServer). s.memory.matched n) third_me ∙ (more.2 n not_you).0, ap (λ (s : RaftServer). s.memory.pending n) third_me ∙ (more.2 n not_you).1);
      told = ap (λ (s : RaftServer). s.memory.told) third_me ∙ more.3;
      joined = subst (λ (t : Two). AreJoined world.members me you t)
          (sym (both (third.server me) (third.server you) (after_call world.members me you number two) third_me third_you))
          (joined_after world.members me you one_verdict number two m.joined);
      store = ap (λ (s : RaftServer). s.store) third_me ∙ store_after world.members me you one_verdict number two m.joined;
    }
      where
        more : ((after_call world.members me you number two).leader.memory.up ≡ two.leader.memory.up)
            × ((after_call world.members me you number two).leader.memory.pending you ≡ None)
            × ((n : ℕ) → n ≢ you → ((after_call world.members me you number two).leader.memory.matched n ≡ two.leader.memory.matched n)
            × ((after_call world.members me you number two).leader.memory.pending n ≡ two.leader.memory.pending n))
            × ((after_call world.members me you number two).leader.memory.told ≡ two.leader.memory.told)
        more = noted_more world.members me you number two verdict m.joined

    pub calls_once : CanCome world (AreCalled 1 me you world)
    calls_once = doing world (AreCalled 1 me you world) me (number + 1) calls (Requests call ∷ []) (world.server me) first_does
        (doing first (AreCalled 1 me you world) you (number + 2) (TakeAppendRequest call verdict) (Answers answer ∷ []) (world.server you) second_does
        (doing second (AreCalled 1 me you world) me (number + 3) (TakeAppendAnswer answer) [] called third_does
        (at_once third (AreCalled 1 me you world) one_called)))

  -- who was called may be called again
  again : (count me you : ℕ) (world later : World) → MayCallPeer world me you → AreCalled count me you world later → MayCallPeer later me you
  again count me you world later m a = record {
    other = m.other;
    listed = subst (λ (l : List ℕ). In you l) (sym a.members) m.listed;
    my_up = a.my_up;
    your_up = a.your_up;
    free = a.free;
    joined = a.joined;
  }

  more : (count me you : ℕ) (world later last : World) → AreCalled 1 me you world later → AreCalled count me you later last
      → AreCalled (suc count) me you world last
  more count me you world later last a b = record {
    two = b.two
        ∙ (ap (λ (l : List ℕ). after_calls l me you count later.steps (two_of later me you)) a.members
        ∙ (ap (λ (n : ℕ). after_calls world.members me you count n (two_of later me you)) one
        ∙ ap (λ (t : Two). after_calls world.members me you count (world.steps + 3) t) a.two));
    others = λ n not_me not_you. b.others n not_me not_you ∙ a.others n not_me not_you;
    members = b.members ∙ a.members;
    steps = omega (arith, a.steps, b.steps);
    my_up = b.my_up;
    your_up = b.your_up;
    free = b.free;
    untouched = λ n not_you. ((b.untouched n not_you).0 ∙ (a.untouched n not_you).0, (b.untouched n not_you).1 ∙ (a.untouched n not_you).1);
    told = b.told ∙ a.told;
    joined = b.joined;
    store = b.store ∙ a.store;
  }
    where
      one : later.steps ≡ world.steps + 3
      one = omega (arith, a.steps)

  pub calls_many : (count me you : ℕ) (world : World) → MayCallPeer world me you → CanCome world (AreCalled count me you world)
  calls_many zero me you world m = at_once world (AreCalled zero me you world) (record {
    two = refl;
    others = λ n not_me not_you. refl;
    members = refl;
    steps = omega arith;
    my_up = m.my_up;
    your_up = m.your_up;
    free = m.free;
    untouched = λ n not_you. (refl, refl);
    told = refl;
    joined = m.joined;
    store = refl;
  })
  calls_many (suc count) me you world m =
      after_that (AreCalled 1 me you world) (AreCalled (suc count) me you world) world (calls_once world me you m)
      (λ later a. so (AreCalled count me you later) (AreCalled (suc count) me you world) later
      (calls_many count me you later (again 1 me you world later m a)) (λ last b. more count me you world later last a b))

  -- ---- until the peer has caught up

  pub record HasCaughtUp (me you : ℕ) (world later : World) : Type 0 where
    pub matched : (later.server me).memory.matched you ≡ length (world.server me).store.log
    pub store : (later.server me).store ≡ (world.server me).store
    pub leads : (later.server me).memory.role ≡ Leader
    pub others : (n : ℕ) → n ≢ me → n ≢ you → later.server n ≡ world.server n
    pub members : later.members ≡ world.members
    pub my_up : (later.server me).memory.up ≡ true
    pub your_up : (later.server you).memory.up ≡ true
    pub free : (later.server me).memory.pending you ≡ None
    pub untouched : (n : ℕ) → n ≢ you → ((later.server me).memory.matched n ≡ (world.server me).memory.matched n)
        × ((later.server me).memory.pending n ≡ (world.server me).memory.pending n)
    pub told : (later.server me).memory.told ≡ (world.server me).memory.told
    pub term : (later.server you).store.term ≤ (later.server me).store.term

  pub catches_up_there : (me you : ℕ) (world : World) → MayCallPeer world me you → CanCome world (HasCaughtUp me you world)
  catches_up_there me you world m =
      so (AreCalled c.calls me you world) (HasCaughtUp me you world) world (calls_many c.calls me you world m)
      (λ later a. record {
        matched = ap (λ (t : Two). t.leader.memory.matched you) a.two
            ∙ (c.done.known ∙ ap (λ (s : Store). length s.log) c.same);
        store = a.store;
        leads = a.joined.leads;
        others = a.others;
        members = a.members;
        my_up = a.my_up;
        your_up = a.your_up;
        free = a.free;
        untouched = a.untouched;
        told = a.told;
        term = a.joined.term;
      })
    where
      c : CatchesUp world.members me you world.steps (two_of world me you)
      c = catches_up world.members me you one_verdict world.steps (two_of world me you) m.joined
