-- The words of `can`, as words of `node`.
use Rattle.std.specs.Prelude.{ℕ, List, [], ◌∷◌, codes}

-- what stands behind the words of the members: one word alone is a member, which takes the most turns
abbrev pub turns_and_ids : List (List ℕ) → List (List ℕ)
turns_and_ids [] = []
turns_and_ids (id ∷ []) = codes "1000000000" ∷ id ∷ []
turns_and_ids (turns ∷ id ∷ ids) = turns ∷ id ∷ ids

-- the words of `node` that ask for what these of `can` do. Their base says nothing, since the links are on the socket
abbrev pub node_words : List (List ℕ) → List (List ℕ)
node_words (can ∷ members ∷ others) = codes "node" ∷ members ∷ codes "1024" ∷ turns_and_ids others
node_words words = codes "node" ∷ []
