-- The words of the program.
use Rattle.std.specs.Prelude.{◌≡◌, ◌≤◌, ◌<◌, ◌⊎◌, ◌^◌, ℕ, Bool, true, false, IsTrue, List, [], ◌∷◌, ◌++◌, codes, decimal, length, map, EachIndex, slice_index_or, Option, None, IsNone, IsSome}
use Rattle.std.specs.List.{Contains}
use Rattle.can_frame.specs.Sizes.{longest_payload, most_members}
use Rattle.can_logs.specs.declared.form.Form.{Form}
use Rattle.can_logs.specs.Forms.{form_word}
use Rattle.dsdl_text.specs.Words.{is_name}
use Rattle.replay_text.specs.Words.{IsHex}
use Rattle.alloc_spec.specs.ClusterMembers.{AreMembers}
use Rattle.cmd_new.specs.NewImage.{highest_start}
use Rattle.allocator_app.specs.declared.plans.Plan.{Plan}
use Rattle.allocator_app.specs.declared.told.Told.{Told}
use Rattle.allocator_app.specs.Told.{AreAmong, IsCluster, Spells, size_of}
use Rattle.allocator_app.specs.declared.plans.Plan.TheVariants.{Replay, Node, Soak, New, Replace, Audit, Watch, Convert, Decode}

-- the words `replay <rows> <id>..`: how many rows the schedule may have, and the members of the cluster
pub record IsReplay (rows : ℕ) (ids : List ℕ) (words : List (List ℕ)) : Type 0 where
  pub spelled : words ≡ codes "replay" ∷ decimal rows ∷ map decimal ids
  pub rows_least : 1 ≤ rows
  pub rows_most : rows ≤ 1000000
  pub members : AreMembers ids

-- the words `node <members> <base> <turns> <id>..`: what the members are told of the cluster, the port that their ports
-- are counted from, how many turns are taken, and which members run here
pub record IsNode (told : Told) (base turns : ℕ) (ids : List ℕ) (words : List (List ℕ)) : Type 0 where
  pub word : List ℕ
  pub spelled : words ≡ codes "node" ∷ word ∷ decimal base ∷ decimal turns ∷ map decimal ids
  pub spells : Spells told word
  pub cluster : IsCluster told
  pub base_least : 1024 ≤ base
  pub base_most : base ≤ 65410
  pub turns_most : turns ≤ 1000000000
  pub members : AreMembers ids
  pub among : AreAmong told ids

-- the word that stands before the number of members, where they are told who they are
abbrev pub kind_words : Bool → List (List ℕ)
kind_words false = []
kind_words true = codes "configured" ∷ []

-- the words `<size>` or `configured <size>`: how many members the cluster of a soak has
pub record IsSize (told : Bool) (size : ℕ) (words : List (List ℕ)) : Type 0 where
  pub spelled : words ≡ kind_words told ++ decimal size ∷ []
  pub least : 1 ≤ size
  pub most : size ≤ most_members

-- the words `soak <seed> <rounds> <size>` or `soak <seed> <rounds> configured <size>`: what is drawn, how often, and of
-- which cluster
pub record IsSoak (told : Bool) (seed rounds size : ℕ) (words : List (List ℕ)) : Type 0 where
  pub cluster : List (List ℕ)
  pub spelled : words ≡ codes "soak" ∷ decimal seed ∷ decimal rounds ∷ cluster
  pub sized : IsSize told size cluster
  pub seed_most : seed < 2 ^ 64
  pub rounds_most : rounds ≤ 20000

-- the words `above <term> <id>..`: the term above which stores are made, and whose they are
pub record IsNewAbove (term : ℕ) (ids : List ℕ) (words : List (List ℕ)) : Type 0 where
  pub spelled : words ≡ codes "above" ∷ decimal term ∷ map decimal ids
  pub term_least : 1 ≤ term
  pub term_most : term ≤ highest_start
  pub members : AreMembers ids

-- the words `<id>..`: whose stores are made
pub record IsNewPlain (ids : List ℕ) (words : List (List ℕ)) : Type 0 where
  pub spelled : words ≡ map decimal ids
  pub members : AreMembers ids

-- one of the two; without a term stores are made above 0
abbrev pub AreOfNew : ℕ → List ℕ → List (List ℕ) → Type 0
AreOfNew term ids words = IsNewAbove term ids words ⊎ ((term ≡ 0) × IsNewPlain ids words)

-- the words `new <id>..` or `new above <term> <id>..`
pub record IsNew (term : ℕ) (ids : List ℕ) (words : List (List ℕ)) : Type 0 where
  pub rest : List (List ℕ)
  pub spelled : words ≡ codes "new" ∷ rest
  pub start : AreOfNew term ids rest

-- one of two members or more
pub record MayLose (ids : List ℕ) (lost : ℕ) : Type 0 where
  pub two : 2 ≤ length ids
  pub listed : Contains ids lost

-- the words `replace <lost> <id>..`: whose store is made, and all members of the cluster
pub record IsReplace (lost : ℕ) (ids : List ℕ) (words : List (List ℕ)) : Type 0 where
  pub spelled : words ≡ codes "replace" ∷ decimal lost ∷ map decimal ids
  pub members : AreMembers ids
  pub may : MayLose ids lost

-- the words `audit <id>..`: whose stores are compared
pub record IsAudit (ids : List ℕ) (words : List (List ℕ)) : Type 0 where
  pub spelled : words ≡ codes "audit" ∷ map decimal ids
  pub members : AreMembers ids

-- no node IDs, or 1 to 5 different ones
abbrev pub AreFew : List ℕ → Type 0
AreFew ids = (ids ≡ []) ⊎ AreMembers ids

-- the words `watch <format> <lines> <id>..`: the form of the log, how many lines it may have, and to which nodes
-- transfers are listed too
pub record IsWatch (form : Form) (lines : ℕ) (ids : List ℕ) (words : List (List ℕ)) : Type 0 where
  pub spelled : words ≡ codes "watch" ∷ form_word form ∷ decimal lines ∷ map decimal ids
  pub lines_least : 1 ≤ lines
  pub lines_most : lines ≤ 1000000
  pub nodes : AreFew ids

-- the words `convert <format> <format> <lines>`: the form of the log, that which it is brought into, and how many lines
-- it may have
pub record IsConvert (from to : Form) (lines : ℕ) (words : List (List ℕ)) : Type 0 where
  pub spelled : words ≡ codes "convert" ∷ form_word from ∷ form_word to ∷ decimal lines ∷ []
  pub lines_least : 1 ≤ lines
  pub lines_most : lines ≤ 1000000

-- a payload is spelled by two hexadecimal digits of either case for each of its bytes, and an empty one by `-`
abbrev pub SpellsPayload : List ℕ → List ℕ → Type 0
SpellsPayload [] word = word ≡ codes "-"
SpellsPayload (byte ∷ bytes) word = IsHex (byte ∷ bytes) word

-- the words `decode <name> <part> <hex>`: the type and its part, and the payload
pub record IsDecode (name : List ℕ) (part : ℕ) (payload : List ℕ) (words : List (List ℕ)) : Type 0 where
  pub hex : List ℕ
  pub spelled : words ≡ codes "decode" ∷ name ∷ decimal part ∷ hex ∷ []
  pub named : IsTrue (is_name name)
  pub part_least : 1 ≤ part
  pub part_most : part ≤ 2
  pub digits : SpellsPayload payload hex
  pub short : length payload ≤ longest_payload

-- the plan is what the words ask for
abbrev pub IsPlan : Plan → List (List ℕ) → Type 0
IsPlan (Replay rows ids) words = IsReplay rows ids.items words
IsPlan (Node told base turns ids) words = IsNode told base turns ids.items words
IsPlan (Soak told seed rounds size) words = IsSoak told seed rounds size words
IsPlan (New term ids) words = IsNew term ids.items words
IsPlan (Replace lost ids) words = IsReplace lost ids.items words
IsPlan (Audit ids) words = IsAudit ids.items words
IsPlan (Watch form lines ids) words = IsWatch form lines ids.items words
IsPlan (Convert from to lines) words = IsConvert from to lines words
IsPlan (Decode name part payload) words = IsDecode name.items part payload.items words

-- a plan that some words ask for
abbrev pub IsSound : Plan → Type 0
IsSound (Replay rows ids) = (rows ≤ 1000000) × AreMembers ids.items
IsSound (Node told base turns ids) =
    (1 ≤ size_of told) × (size_of told ≤ most_members) × (turns ≤ 1000000000) × AreMembers ids.items
IsSound (Soak told seed rounds size) = (rounds ≤ 20000) × (1 ≤ size) × (size ≤ most_members)
IsSound (New term ids) = (term ≤ highest_start) × AreMembers ids.items
IsSound (Replace lost ids) = AreMembers ids.items × MayLose ids.items lost
IsSound (Audit ids) = AreMembers ids.items
IsSound (Watch form lines ids) = (1 ≤ lines) × (lines ≤ 1000000) × AreFew ids.items
IsSound (Convert from to lines) = (1 ≤ lines) × (lines ≤ 1000000)
IsSound (Decode name part payload) =
    IsTrue (is_name name.items) × (1 ≤ part) × (part ≤ 2) × (length payload.items ≤ longest_payload)

-- no disk is there
abbrev pub AreAbsent : {D : Type 0} → List (Option D) → Type 0
AreAbsent disks = EachIndex disks (λ i. IsNone (slice_index_or disks i None))

-- no link is handed in, and no disk: `replay` and `soak` make their own disks
pub record AreNone {L D : Type 0} (links : List L) (disks : List (Option D)) : Type 0 where
  pub no_links : links ≡ []
  pub no_disks : AreAbsent disks

-- all of them are there
abbrev pub ArePresent : {D : Type 0} → List (Option D) → Type 0
ArePresent disks = EachIndex disks (λ i. IsSome (slice_index_or disks i None))

-- as many links as members run here, and a disk for each
pub record AreGiven {L D : Type 0} (ids : List ℕ) (links : List L) (disks : List (Option D)) : Type 0 where
  pub links_count : length links ≡ length ids
  pub disks_count : length disks ≡ length ids
  pub present : ArePresent disks

-- no link, and a disk for each of these nodes
pub record AreStored {L D : Type 0} (ids : List ℕ) (links : List L) (disks : List (Option D)) : Type 0 where
  pub no_links : links ≡ []
  pub disks_count : length disks ≡ length ids
  pub present : ArePresent disks

-- the objects that a plan needs
abbrev pub HasObjects : {L D : Type 0} → Plan → List L → List (Option D) → Type 0
HasObjects (Node told base turns ids) links disks = AreGiven ids.items links disks
HasObjects (New term ids) links disks = AreStored ids.items links disks
HasObjects (Replace lost ids) links disks = AreStored ids.items links disks
HasObjects (Audit ids) links disks = AreStored ids.items links disks
HasObjects _ links disks = AreNone links disks

-- the words are those of a plan, and its objects are handed in
pub record IsAsked {L D : Type 0} (words : List (List ℕ)) (links : List L) (disks : List (Option D)) : Type 0 where
  pub plan : Plan
  pub is : IsPlan plan words
  pub objects : HasObjects plan links disks

-- a plan that reads the source; one that works on links and with the clock; and one that works on disks
abbrev pub Reads : Plan → Type 0
Reads (Node told base turns ids) = ⊥
Reads (Soak told seed rounds size) = ⊥
Reads (New term ids) = ⊥
Reads (Replace lost ids) = ⊥
Reads (Audit ids) = ⊥
Reads _ = Unit {0}

abbrev pub UsesLinks : Plan → Type 0
UsesLinks (Node told base turns ids) = Unit {0}
UsesLinks _ = ⊥

abbrev pub UsesDisks : Plan → Type 0
UsesDisks (Node told base turns ids) = Unit {0}
UsesDisks (New term ids) = Unit {0}
UsesDisks (Replace lost ids) = Unit {0}
UsesDisks (Audit ids) = Unit {0}
UsesDisks _ = ⊥

-- the words are those of a plan of this kind
pub record Asks (Kind : Plan → Type 0) (words : List (List ℕ)) : Type 0 where
  pub plan : Plan
  pub is : IsPlan plan words
  pub kind : Kind plan
