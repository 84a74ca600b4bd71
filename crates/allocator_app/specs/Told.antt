-- What the members of a cluster are told of it, as a word spells it.
use Rattle.std.specs.Prelude.{◌≡◌, ◌≤◌, ◌==◌, ℕ, Bool, List, [], ◌∷◌, decimal, length, map, slice_index, EachIndex, if◌then◌else◌}
use Rattle.std.specs.List.{Contains, slice_split}
use Rattle.can_frame.specs.Sizes.{most_members}
use Rattle.alloc_spec.specs.Rules.{Rules, rules_by}
use Rattle.alloc_spec.specs.ClusterMembers.{AreMembers}
use Rattle.allocator_app.specs.declared.told.Told.{Told}
use Rattle.allocator_app.specs.declared.told.Told.TheVariants.{Size, Members}

-- how many members the cluster has
abbrev pub size_of : Told → ℕ
size_of (Size size) = size
size_of (Members members) = length members.items

-- the members that are told; none where their number alone is
abbrev pub list_of : Told → List ℕ
list_of (Size size) = []
list_of (Members members) = members.items

-- the rules by which a member is opened that is told this
abbrev pub told_rules : Told → Rules
told_rules told = rules_by (size_of told) (list_of told)

-- how long a process rests before its first turn, in milliseconds, where it may have run one of its members before
abbrev pub rest_of : Told → Bool → ℕ
rest_of (Size size) ran_before = 0
rest_of (Members members) ran_before = if ran_before then 5500 else 0

-- 1 to 5 members, which have different node IDs where these are told
abbrev pub IsCluster : Told → Type 0
IsCluster (Size size) = (1 ≤ size) × (size ≤ most_members)
IsCluster (Members members) = AreMembers members.items

-- these nodes can be among the members
abbrev pub AreAmong : Told → List ℕ → Type 0
AreAmong (Size size) ids = length ids ≤ size
AreAmong (Members members) ids = EachIndex ids (λ i. Contains members.items (slice_index ids i))

-- a word cut at each of its commas
abbrev pub commas : List ℕ → List (List ℕ)
commas word = slice_split (λ byte. byte == 44) word

-- the parts of the word of a list. Behind one number that stands alone comes a comma, so that it is no size
abbrev pub list_parts : List ℕ → List (List ℕ)
list_parts [] = []
list_parts (id ∷ []) = decimal id ∷ [] ∷ []
list_parts (id ∷ other ∷ ids) = decimal id ∷ decimal other ∷ map decimal ids

-- the word says how many members there are, or lists them with a comma between two
abbrev pub Spells : Told → List ℕ → Type 0
Spells (Size size) word = word ≡ decimal size
Spells (Members members) word = commas word ≡ list_parts members.items
