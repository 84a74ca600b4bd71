-- What the images of new stores stand for.
use Rattle.std.proofs.Common.{◌≡◌, ◌≤◌, ◌<◌, ◌+◌, ◌^◌, ℕ, zero, suc, List, [], ◌∷◌, inl, inr, refl, sym, subst, arith, length}
use Rattle.std.specs.Int.{to_le_bytes, w32}
use Rattle.std.proofs.lemmas.Bool.Decides.{eqb_tells}
use Rattle.kv_store.specs.Image.{StandsFor, put_in, value_in}
use Rattle.raft_log.specs.MayFollow.{IsStorable}
use Rattle.raft_log.specs.Rules.{HasByte, HasTerm, HasVersion, StandsForState}
use Rattle.raft_log.specs.Stored.{Stored}
use Rattle.raft_log.proofs.AllowedPuts.{term_again}
use Rattle.cmd_new.specs.NewImage.{highest_start, image_above, made_image, new_image}
use Rattle.cmd_new_laws.specs.Begun.{stored_above}

abbrev state : ℕ → ℕ → Stored
state term vote = record { term = term; vote = vote; log = []; commit = 0; origins = []; version = 2 }

storable : (term vote : ℕ) → vote ≤ 125 → IsStorable (state term vote)
storable term vote node = record {
  vote = node;
  room = omega arith;
  commit = omega arith;
  follows = λ i low. absurd (omega (arith, low));
  injective = search;
  count = refl;
  limit = λ i origin e. absurd (cc e);
  version = omega arith;
  have = λ e i low. absurd (omega (arith, low));
}

version_two : HasVersion 2 (2 ∷ [])
version_two = record { size = record { size = omega arith; least = λ some. omega arith; most = omega arith }; number = refl }

no_byte : HasByte 0 []
no_byte = record { size = omega arith; byte_is = refl }

one_byte : (byte : ℕ) → HasByte byte (byte ∷ [])
one_byte byte = record { size = omega arith; byte_is = refl }

no_term : HasTerm 0 []
no_term = record { size = λ some. absurd (omega (arith, some)); number = refl }

its_term : (term : ℕ) → term < 2 ^ 32 → HasTerm term (to_le_bytes w32 term)
its_term term low = record { size = λ some. refl; number = term_again term low }

-- keys with these values store the state
stands : (image : List ℕ) (map : ℕ → List ℕ) (term vote : ℕ) → StandsFor image map → HasVersion 2 (map 0) → HasTerm term (map 1) → HasByte vote (map 2)
    → HasByte 0 (map 3) → HasByte 0 (map 4) → vote ≤ 125 → StandsForState image (state term vote)
stands image map term vote shown version has_term has_vote last commit node = record {
  whole = shown.whole;
  stores = record {
    version = subst (HasVersion 2) (sym (shown.values 0 (omega arith))) version;
    term = subst (HasTerm term) (sym (shown.values 1 (omega arith))) has_term;
    vote = subst (HasByte vote) (sym (shown.values 2 (omega arith))) has_vote;
    last = subst (HasByte 0) (sym (shown.values 3 (omega arith))) last;
    commit = subst (HasByte 0) (sym (shown.values 4 (omega arith))) commit;
    entries = λ i low. absurd (omega (arith, low));
    storable = storable term vote node;
  };
}

module _ (plain : StandsFor new_image (put_in (λ (key : ℕ). []) 0 (2 ∷ [])))
    (above : (term node : ℕ) → StandsFor (image_above term node) (put_in (put_in (put_in (λ (key : ℕ). []) 0 (2 ∷ [])) 1 (to_le_bytes w32 term)) 2 (node ∷ []))) where
  pub made_stands : (term node : ℕ) → term ≤ highest_start → node ≤ 125 → StandsForState (made_image term node) (stored_above term node)
  made_stands zero node low most = stands new_image (put_in (λ (key : ℕ). []) 0 (2 ∷ [])) 0 0 plain version_two no_term no_byte no_byte no_byte (omega arith)
  made_stands (suc term) node low most = elim (eqb_tells (suc term) 0) [
    | inl z ↦ absurd (omega (arith, z.1))
    | inr z ↦ rw (z.0) (stands (image_above (suc term) node) (put_in (put_in (put_in (λ (key : ℕ). []) 0 (2 ∷ [])) 1 (to_le_bytes w32 (suc term))) 2 (node ∷ []))
        (suc term) node (above (suc term) node) version_two (its_term (suc term) (omega (arith, low))) (one_byte node) no_byte no_byte most)
  ]
