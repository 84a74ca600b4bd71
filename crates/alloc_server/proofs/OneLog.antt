-- The list of a term begins with what a member of this term or an earlier one has committed, and gives nothing twice.
use Rattle.std.proofs.Common.{◌≡◌, ℕ, zero, suc, ◌+◌, ◌<◌, ◌≤◌, Bool, true, false, List, [], ◌∷◌, length, Option, None, Some, refl, take, get_or, get_or-take, ap, sym, subst, ◌∙◌, inl, inr, arith, ◌&&◌, ◌||◌, not, nat_eq, nat_lt, Decides}
use Rattle.std.specs.Prelude.{nat_le}
use Rattle.std.proofs.lemmas.Bool.Decides.{Decides-and, Decides-eqb, Decides-ltb, eqb_tells, leb_tells}
use Rattle.std.proofs.lemmas.List.{length-take-le}
use Rattle.std.proofs.lemmas.Slice.Eq.{bytes_eq-Decides}
use Rattle.can_frame.specs.declared.entry.Entry.{Entry}
use Rattle.can_frame.specs.Log.{AreDistinct, blank, entry_at}
use Rattle.dsdl_codec.specs.declared.append_request.AppendRequest.{AppendRequest}
use Rattle.raft_model.specs.Decisions.{is_distinct_from_all}
use Rattle.raft_model.specs.Invariants.{CommitsSettled, IsSettled, LeadersComplete, LeadersElected, LogsMatch, StoresSound}
use Rattle.raft_model.specs.Lists.{In}
use Rattle.raft_model.specs.Log.{term_at}
use Rattle.raft_model.specs.Messages.{Request}
use Rattle.raft_model.specs.Messages.Message.{Requests}
use Rattle.raft_model.specs.OneLog.{HasOneLog, HasOnePast}
use Rattle.raft_model.specs.Runs.{World}
use Rattle.raft_model.specs.Server.{Store, committed}
use Rattle.alloc_server.specs.AnotherLog.{differs_at, differs_before, has_committed, is_same_entry, repeats_committed}
use Rattle.alloc_server.specs.OneLog.{ContradictsNothing, RepeatsNothing}
use Rattle.alloc_server.proofs.Repeats.{distinct_decided}

turned : (a b : Entry) → AreDistinct a b → AreDistinct b a
turned a b h = record { nodes = λ nb na e. h.nodes na nb (sym e); uids = λ nb na e. e ∙ h.uids na nb (sym e) }

all_told : (entry : Entry) (log : List Entry) → ((j : ℕ) → j < length log → AreDistinct entry (get_or log j (blank 0)))
    → is_distinct_from_all entry log ≡ true
all_told entry [] h = refl
all_told entry (first ∷ rest) h =
    ap (λ (t : Bool). t && is_distinct_from_all entry rest) ((distinct_decided entry first).1 (h 0 (omega arith)))
    ∙ all_told entry rest (λ j low. h (suc j) (omega (arith, low)))

quiet : (low apart : Bool) → (low ≡ true → apart ≡ true) → (low && not apart) ≡ false
quiet false apart h = refl
quiet true apart h = ap not (h refl)

-- of the lists that begin alike
alike : (n j : ℕ) (a b : List Entry) → j < n → take n a ≡ take n b → get_or a j (blank 0) ≡ get_or b j (blank 0)
alike n j a b low same = sym (get_or-take n a j (blank 0) low) ∙ ap (λ (l : List Entry). get_or l j (blank 0)) same
    ∙ get_or-take n b j (blank 0) low

module _ (world : World) (sound : StoresSound world) (elected : LeadersElected world) (matching : LogsMatch world)
    (settled : CommitsSettled world) (complete : LeadersComplete world)
    (member : ℕ) (request : Request) (there : In (Requests request) world.bag) (append : request.append ≡ true)
    (recent : (world.server member).store.term ≤ request.term) where
  abbrev store : Store
  store = (world.server member).store

  abbrev list : List Entry
  list = world.history.list request.term

  -- what the member has committed is settled by this term
  by_settled : (place : ℕ) → place < length (committed store) → (term : ℕ) → term ≤ store.term
      → IsSettled world (committed store) term
      → get_or (committed store) place (blank 0) ≡ get_or list place (blank 0)
  by_settled place low term old is =
      elim (eqb_tells term request.term) [
        | inl h ↦ alike (length (committed store)) place (committed store) list low
            (is.3 ∙ ap (λ t. take (length (committed store)) (world.history.list t)) h.1)
        | inr h ↦ let prefix = complete (committed store) term request.term is (let other = h.1 in omega (arith, old, other, recent))
            ((matching.previous request there append).0) in
            ap (λ (log : List Entry). get_or log place (blank 0)) (sym prefix) ∙ get_or-take (length (committed store)) list place (blank 0) low
      ]

  size : length (committed store) ≡ store.commit
  size = length-take-le store.commit store.log (sound member).commit

  in_list : (place : ℕ) → place < length (committed store) → get_or (committed store) place (blank 0) ≡ get_or list place (blank 0)
  in_list place low = elim (settled.servers member) [
    | inl none ↦ absurd (omega (arith, none, low, size))
    | inr (term, old, is) ↦ by_settled place low term old is
  ]

  distinct : (entry : Entry) → request.entry ≡ Some entry → store.commit < request.previous + 1 → (j : ℕ) → j < length (committed store)
      → AreDistinct entry (get_or (committed store) j (blank 0))
  distinct entry carries behind j low =
      let m = matching.entry request entry there append carries in
      let apart = elected.injective request.term j request.previous (omega (arith, low, size, behind)) m.0 in
      subst (λ (e : Entry). AreDistinct entry e) (sym (in_list j low))
      (turned _ _ (subst (λ (e : Entry). AreDistinct (get_or list j (blank 0)) e) m.1 apart))

  said : (entry : Option Entry) → request.entry ≡ entry → repeats_committed store (request.previous + 1) entry ≡ false
  said None carries = refl
  said (Some entry) carries = quiet (nat_lt store.commit (request.previous + 1)) (is_distinct_from_all entry (committed store))
      (λ behind. all_told entry (committed store) (distinct entry carries ((Decides-ltb store.commit (request.previous + 1)).0 behind)))

pub repeats_nothing : (world : World) → StoresSound world → LeadersElected world → LogsMatch world → CommitsSettled world → LeadersComplete world
    → RepeatsNothing world
repeats_nothing world sound elected matching settled complete member request there append recent =
    said world sound elected matching settled complete member request there append recent request.entry refl

-- ---- what a call says

same_entry : (a b : Entry) → a ≡ b → is_same_entry a b ≡ true
same_entry a b same = (Decides-and _ _ (Decides-eqb a.term b.term)
    (Decides-and _ _ (bytes_eq-Decides a.uid b.uid) (Decides-eqb a.node b.node))).1
    (ap (λ (e : Entry). e.term) same, (ap (λ (e : Entry). e.uid) same, ap (λ (e : Entry). e.node) same))

past_same : (log : List Entry) (place : ℕ) → 1 ≤ place → (entry_at log place).term ≡ term_at log place
past_same log zero low = absurd (omega (arith, low))
past_same log (suc i) low = refl

three : (recent a b c : Bool) → (recent ≡ true → a ≡ false) → (recent ≡ true → b ≡ false) → (recent ≡ true → c ≡ false)
    → (recent && (a || (b || c))) ≡ false
three false a b c x y z = refl
three true a b c x y z = ap (λ (t : Bool). t || (b || c)) (x refl) ∙ ap (λ (t : Bool). t || c) (y refl) ∙ z refl

at_most : (a b : ℕ) → Decides (nat_le a b) (a ≤ b)
at_most a b = elim (leb_tells a b) [
  | inl z ↦ (λ e. z.1, λ h. z.0)
  | inr z ↦ (λ e. absurd (cc), λ h. absurd (omega (arith, h, z.1)))
]

module _ (store : Store) where
  committed_tells : (place : ℕ) → has_committed store place ≡ true → (1 ≤ place) × (place ≤ store.commit)
  committed_tells place = (Decides-and _ _ (at_most 1 place) (at_most place store.commit)).0

  next : (place : ℕ) → entry_at store.log (place + 1) ≡ get_or store.log place (blank 0)
  next place = let after : place + 1 ≡ suc place = omega arith in ap (λ (k : ℕ). entry_at store.log k) after

  before_agrees : (call : AppendRequest) → (call.prev_index ≤ store.commit → term_at store.log call.prev_index ≡ call.prev_term)
      → differs_before store call ≡ false
  before_agrees call says = quiet (has_committed store call.prev_index) (nat_eq (entry_at store.log call.prev_index).term call.prev_term)
      (λ is. let c = committed_tells call.prev_index is in
      (Decides-eqb (entry_at store.log call.prev_index).term call.prev_term).1 (past_same store.log call.prev_index c.0 ∙ says c.1))

  at_agrees : (place : ℕ) (entry : Option Entry)
      → ((it : Entry) → entry ≡ Some it → place < store.commit → get_or store.log place (blank 0) ≡ it)
      → differs_at store (place + 1) entry ≡ false
  at_agrees place None says = refl
  at_agrees place (Some it) says = quiet (has_committed store (place + 1)) (is_same_entry (entry_at store.log (place + 1)) it)
      (λ is. same_entry (entry_at store.log (place + 1)) it (next place ∙ says it refl (let c = committed_tells (place + 1) is in omega (arith, c.1))))

pub contradicts_nothing : (world : World) → HasOneLog world → HasOnePast world → RepeatsNothing world → ContradictsNothing world
contradicts_nothing world one past nothing member request call there append is =
    let store : Store = (world.server member).store in
    let recent : nat_le store.term call.term ≡ true → store.term ≤ request.term =
    λ e. subst (λ (t : ℕ). store.term ≤ t) is.term ((at_most store.term call.term).0 e) in
    three (nat_le store.term call.term) (differs_before store call) (differs_at store (call.prev_index + 1) call.entry)
    (repeats_committed store (call.prev_index + 1) call.entry)
    (λ e. before_agrees store call (λ low. ap (λ (k : ℕ). term_at store.log k) is.previous
    ∙ past member request there append (recent e) (subst (λ (k : ℕ). k ≤ store.commit) is.previous low) ∙ sym is.previous_term))
    (λ e. at_agrees store call.prev_index call.entry (λ it carries low. ap (λ (k : ℕ). get_or store.log k (blank 0)) is.previous
    ∙ one member request it there append (sym is.entry ∙ carries) (recent e) (subst (λ (k : ℕ). k < store.commit) is.previous low)))
    (λ e. ap (λ (k : ℕ). repeats_committed store (k + 1) call.entry) is.previous
    ∙ ap (λ (entry : Option Entry). repeats_committed store (request.previous + 1) entry) is.entry ∙ nothing member request there append (recent e))
