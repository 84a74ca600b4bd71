-- What the transfers of one step are to one another.
use Rattle.std.specs.Prelude.{◌≡◌, ◌≢◌, ⊤, true, List, [], ◌∷◌}
use Rattle.can_frame.specs.declared.step.What.TheVariants.{Alloc}
use Rattle.raft_model.specs.Lists.{In}
use Rattle.alloc_spec.specs.Transfers.{Offer}

-- two that fitted, of one kind and to one node, are Allocations with different transfer IDs
abbrev pub AreApart : Offer → Offer → Type 0
AreApart a b = a.fitted ≡ true → b.fitted ≡ true → a.what ≡ b.what → a.to ≡ b.to →
    (a.what ≡ Alloc) × (a.id ≢ b.id)

-- each is apart from all behind it
abbrev pub AreAllApart : List Offer → Type 0
AreAllApart [] = ⊤
AreAllApart (first ∷ rest) = ((other : Offer) → In other rest → AreApart first other) × AreAllApart rest

-- offers that fitted are told apart by kind, destination and transfer ID: there is one of each name
abbrev pub OneByName : List Offer → Type 0
OneByName offers = (a b : Offer) → In a offers → In b offers → a.fitted ≡ true → b.fitted ≡ true →
    a.what ≡ b.what → a.to ≡ b.to
    → a.id ≡ b.id → a ≡ b
