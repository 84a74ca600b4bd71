-- Who is on a list, and what a forged frame is.
use Rattle.std.proofs.Common.{rules, ◌≡◌, ◌≢◌, ◌⊎◌, inl, inr, ℕ, Bool, true, false, ◌&&◌, ◌||◌, List, [], ◌∷◌, take, refl, ◌∙◌, sym, subst, nat_eq, eq-eqb, if◌then◌else◌}
use Rattle.std.specs.Prelude.{Option, Some, None}
use Rattle.alloc_spec.specs.Accepted.{is_of_members}
use Rattle.bus_spec.specs.Cluster.{is_member}
use Rattle.bus_spec.specs.Lawful.{is_forged, is_forged_by}
use Rattle.can_frame.specs.Cutting.{piece_from}
use Rattle.can_frame.specs.DataTypes.{get_node_info}
use Rattle.can_frame.specs.Identifier.{identifier_of}
use Rattle.can_frame.specs.Kinds.{is_response}
use Rattle.can_frame.specs.declared.identifier.Ident.{Ident}
use Rattle.can_frame.specs.declared.identifier.Kind.{Kind}
use Rattle.can_frame.specs.declared.identifier.Kind.TheVariants.{Anonymous, Message, Request, Response}
use Rattle.cluster_discovery.specs.Members.{is_on_list}
use Rattle.outside.specs.declared.received.RawFrame.{RawFrame}
use Rattle.told_link.specs.AllocatorUid.{answers_as_allocator, is_info_to, spells_allocator}
use Rattle.told_link.specs.Voice.{fields_of, is_of_uavcan, voice_by, voice_of, voice_of_listed, voice_of_unlisted, voice_with}
use Rattle.told_link.specs.declared.voice.Voice.{Voice}
use Rattle.told_link.specs.declared.voice.Voice.TheVariants.{Stranger, Other}

-- a member of the cluster
pub is_a_member : (ids : List ℕ) (node : ℕ) → is_on_list ids node ≡ is_member ids node
is_a_member [] node = refl
is_a_member (id ∷ ids) node = rw (is_a_member ids node) (search rules)

clash : (test : Bool) → test ≡ true → test ≡ false → ⊥
clash test t f = cc

pick : (own listed members answers : Bool) (voice : Voice) → (listed || members) ≡ true →
    ((if own then Stranger else (if listed then voice else (if members || answers then Stranger else Other))) ≡ Stranger)
    ⊎ ((listed ≡ true) × (own ≡ false))
pick true listed members answers voice e = inl refl
pick false true members answers voice e = inr (refl, refl)
pick false false true answers voice e = inl refl
pick false false false answers voice e = absurd (cc)

module _ (me : ℕ) (ids : List ℕ) (raw : RawFrame) where
  -- of a member of the list that is not this one
  abbrev IsAnothers : Ident → Type 0
  IsAnothers ident = (is_on_list ids ident.source ≡ true) × (ident.source ≢ me)

  named : (kind : Kind) (ident : Ident) → kind ≡ ident.kind → (is_member ids ident.source || is_of_members kind ident.number) ≡ true →
      (is_on_list ids ident.source || is_of_members ident.kind ident.number) ≡ true
  named kind ident is e =
      subst (λ listed. (listed || is_of_members ident.kind ident.number) ≡ true) (sym (is_a_member ids ident.source))
      (subst (λ k. (is_member ids ident.source || is_of_members k ident.number) ≡ true) is e)

  chosen : (ident : Ident) → (is_on_list ids ident.source || is_of_members ident.kind ident.number) ≡ true →
      ((if nat_eq ident.source me then Stranger else (if is_on_list ids ident.source then voice_of_listed me ident
      else voice_of_unlisted me raw ident)) ≡ Stranger) ⊎ IsAnothers ident
  chosen ident e = elim (pick (nat_eq ident.source me) (is_on_list ids ident.source)
      (is_of_members ident.kind ident.number) (answers_as_allocator me raw ident) (voice_of_listed me ident) e) [
        | inl stranger ↦ inl stranger
        | inr listed ↦ inr (listed.0, λ same. clash (nat_eq ident.source me) (eq-eqb ident.source me same) listed.1)
      ]

  by_kind : (kind : Kind) (ident : Ident) → kind ≡ ident.kind → is_forged_by ids kind ident ≡ true →
      (voice_by me ids raw kind ident ≡ Stranger) ⊎ IsAnothers ident
  by_kind Anonymous ident is e = absurd (cc)
  by_kind Message ident is e = chosen ident (named Message ident is e)
  by_kind Request ident is e = chosen ident (named Request ident is e)
  by_kind Response ident is e = chosen ident (named Response ident is e)

  abbrev Is : Option Ident → Type 0
  Is fields = (voice_with me ids raw fields ≡ Stranger)
      ⊎ ((ident : Ident) × (fields ≡ Some ident) × (is_on_list ids ident.source ≡ true) × (ident.source ≢ me))

  by_fields : (fields : Option Ident) → is_forged ids fields ≡ true → Is fields
  by_fields None e = absurd (cc)
  by_fields (Some ident) e = elim (by_kind ident.kind ident refl e) [
    | inl stranger ↦ inl stranger
    | inr listed ↦ inr (ident, refl, listed.0, listed.1)
  ]

fields_are : (raw : RawFrame) → is_of_uavcan raw ≡ true → fields_of raw ≡ identifier_of raw.id
fields_are raw is = rw is refl

pub forged : (me : ℕ) (ids : List ℕ) (raw : RawFrame) → ids ≢ [] → is_of_uavcan raw ≡ true →
    is_forged ids (identifier_of raw.id) ≡ true → (voice_of me ids raw ≡ Stranger)
    ⊎ ((ident : Ident) × (fields_of raw ≡ Some ident) × (is_on_list ids ident.source ≡ true) × (ident.source ≢ me))
forged me [] raw some is e = absurd (some refl)
forged me (first ∷ rest) raw some is e =
    subst (Is me (first ∷ rest) raw) (sym (fields_are raw is)) (by_fields me (first ∷ rest) raw (identifier_of raw.id) e)

-- ---- a lawful frame that spells an allocator

abbrev AreHeard : Type 0
AreHeard = (me : ℕ) (ids : List ℕ) (raw : RawFrame) (ident : Ident) → ids ≢ [] → fields_of raw ≡ Some ident →
    answers_as_allocator me raw ident ≡ true → is_on_list ids ident.source ≡ false → voice_of me ids raw ≡ Stranger

front : (a b : Bool) → (a && b) ≡ true → a ≡ true
front true b e = refl
front false b e = absurd (cc)

neither : (a b : Bool) → (a || b) ≡ false → a ≡ false
neither false b e = refl
neither true b e = absurd (cc)

has_fields : (test : Bool) (fields : Option Ident) (ident : Ident) → (if test then fields else None) ≡ Some ident →
    fields ≡ Some ident
has_fields true fields ident is = is
has_fields false fields ident is = absurd (cc)

unlisted : (ids : List ℕ) (kind : Kind) (ident : Ident) → is_response kind ≡ true → is_forged_by ids kind ident ≡ false →
    is_on_list ids ident.source ≡ false
unlisted ids Anonymous ident r e = absurd (cc)
unlisted ids Message ident r e = absurd (cc)
unlisted ids Request ident r e = absurd (cc)
unlisted ids Response ident r e =
    is_a_member ids ident.source ∙ neither (is_member ids ident.source) (is_of_members Response ident.number) e

pub excepted : AreHeard → (me : ℕ) (ids : List ℕ) (raw : RawFrame) (ident : Ident) → ids ≢ [] →
    is_forged ids (identifier_of raw.id) ≡ false → fields_of raw ≡ Some ident →
    answers_as_allocator me raw ident ≡ true → voice_of me ids raw ≡ Stranger
excepted heard me ids raw ident some lawful fields answers =
    let read : identifier_of raw.id ≡ Some ident = has_fields (is_of_uavcan raw) (identifier_of raw.id) ident fields in
    let response = front (is_response ident.kind) (nat_eq ident.number get_node_info.number && nat_eq ident.dest me)
    (front (is_info_to me ident) (spells_allocator (piece_from (take raw.len raw.bytes))) answers) in
    heard me ids raw ident some fields answers (unlisted ids ident.kind ident response
    (subst (λ (f : Option Ident). is_forged ids f ≡ false) read lawful))
