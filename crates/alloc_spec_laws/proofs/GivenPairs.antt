-- The pairs that transfers give.
use Rattle.std.proofs.Common.{◌≡◌, ◌≢◌, ℕ, ◌+◌, ◌<◌, ◌≤◌, List, inl, inr, refl, sym, ◌∙◌, ap, arith, Option, Some, None}
use Rattle.std.specs.Prelude.{◌/◌, ◌*◌, ◌&&◌, length, nat_le, nat_eq, slice_index_or}
use Rattle.can_frame.specs.declared.identifier.Kind.TheVariants.{Message as Broadcast}
use Rattle.can_frame.specs.declared.step.What.{What}
use Rattle.can_frame.specs.declared.step.What.TheVariants.{Alloc, Disc, Stat, InfoQ, Info, VoteQ, Vote, AppQ, App}
use Rattle.can_frame.specs.Log.{blank}
use Rattle.can_frame.specs.Zeros.{zeros}
use Rattle.dsdl_codec.specs.Allocation.{allocation_of}
use Rattle.dsdl_codec.specs.declared.allocation.Allocation.{Allocation}
use Rattle.raft_model.specs.Server.{Store}
use Rattle.alloc_spec.specs.Exchange.{allocation_payload}
use Rattle.alloc_spec.specs.Transfers.{GivenPair, pair_of_allocation, pair_in, kind_of}
use Rattle.alloc_spec_laws.specs.Giving.{Gives}
use Rattle.alloc_spec_laws.proofs.Choices.{and_left, le_true, tell}

-- ---- a pair with a whole unique ID is given

gives_by : (payload : List ℕ) (read : Option Allocation) (given : GivenPair) → allocation_of payload ≡ read → pair_of_allocation read ≡ Some given
    → Gives Alloc payload given
gives_by payload None given r e = absurd (cc (e))
gives_by payload (Some answer) given r e = elim (tell (nat_le 1 answer.node && nat_eq (length answer.uid.items) 16)) [
  | inr b ↦ absurd (cc (rw b at e))
  | inl b ↦
      let same : (answer.uid.items, answer.node) ≡ given = cc (rw b at e) in
      record { kind = refl; answer = answer; reads = r; some = le_true 1 answer.node (and_left _ _ b); is = sym same }
]

pub gives_it : (what : What) (payload : List ℕ) (given : GivenPair) → pair_in what payload ≡ Some given → Gives what payload given
gives_it Alloc payload given e = gives_by payload (allocation_of payload) given refl e
gives_it Disc payload given e = absurd (cc (e))
gives_it Stat payload given e = absurd (cc (e))
gives_it InfoQ payload given e = absurd (cc (e))
gives_it Info payload given e = absurd (cc (e))
gives_it VoteQ payload given e = absurd (cc (e))
gives_it Vote payload given e = absurd (cc (e))
gives_it AppQ payload given e = absurd (cc (e))
gives_it App payload given e = absurd (cc (e))

-- ---- what each kind of transfer gives

some_is : (x y : Allocation) → Some x ≡ Some y → x ≡ y
some_is x y e = cc (e)

pub allocation_gives : (node : ℕ) (uid : List ℕ) (given : GivenPair) → Gives Alloc (allocation_payload node uid) given
    → (1 ≤ node) × (given ≡ (uid, node))
allocation_gives node uid given gives = elim (tell (nat_le (length uid) 16)) [
  | inr b ↦ absurd (cc (rw b at gives.reads))
  | inl b ↦
      let half : (node * 2 + 0) / 2 ≡ node = omega arith in
      let same = some_is _ gives.answer (rw b at gives.reads) in
      let its_node : gives.answer.node ≡ node = ap (λ (a : Allocation). a.node) (sym same) ∙ half in
      let its_uid : gives.answer.uid.items ≡ uid = ap (λ (a : Allocation). a.uid.items) (sym same) in
      (omega (arith, gives.some, its_node), gives.is ∙ cc (its_uid, its_node))
]

-- a follow-up gives none
pub follow_up_gives : (bytes : List ℕ) (given : GivenPair) → Gives Alloc (allocation_payload 0 bytes) given → ⊥
follow_up_gives bytes given gives = omega (arith, (allocation_gives 0 bytes given gives).0)

-- a request or a response gives nothing: what gives a pair is a message
pub message_gives : (what : What) (payload : List ℕ) (given : GivenPair) → Gives what payload given → kind_of what ≡ Broadcast
message_gives what payload given gives = ap kind_of gives.kind

-- the pair is that of a committed place, and its unique ID some device's
pub record IsOfPlace (store : Store) (given : GivenPair) : Type 0 where
  pub place : ℕ
  pub below : place < store.commit
  pub uid : (slice_index_or store.log place (blank 0)).uid ≡ given.0
  pub node : (slice_index_or store.log place (blank 0)).node ≡ given.1
  pub device : given.0 ≢ zeros
