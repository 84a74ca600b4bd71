-- The transfers that a receiver still has to get of one member, of one kind and destination.
use Rattle.std.proofs.Common.{◌≡◌, ◌≢◌, ℕ, ◌+◌, ◌*◌, ◌<◌, ◌≤◌, Bool, true, false, not, List, [], ◌∷◌, ◌++◌, length, max, append_assoc, refl, sym, ◌∙◌, ap, subst, arith, inl, inr}
use Rattle.std.specs.Prelude.{⊤, ◌⊎◌, ◌/◌, ◌&&◌, drop, filter, flat_map, map, nat_lt, slice_index_or, Ok}
use Rattle.std.proofs.lemmas.List.{append_cancel_left, map-append}
use Rattle.std.proofs.lemmas.List.Filters.{length-filter_both, sum_by-filter_both}
use Rattle.can_frame.specs.declared.mark.Mark.{Mark}
use Rattle.can_frame.specs.declared.step.What.{What}
use Rattle.can_frame.specs.Cutting.{IsCutting, Piece, joined}
use Rattle.can_frame.specs.Identifier.{identifier_number}
use Rattle.can_frame.specs.Kinds.{is_anonymous}
use Rattle.raft_model.specs.Lists.{In}
use Rattle.transfer_rx.specs.declared.accept.Wanted.{Wanted}
use Rattle.transfer_rx.specs.declared.key.Key.{Key}
use Rattle.transfer_rx.specs.Acceptance.{wanted}
use Rattle.transfer_rx.specs.Keys.{key_of, same_key}
use Rattle.transfer_rx.specs.Marks.{is_whole}
use Rattle.transfer_rx.specs.Outcome.{blocks_used, session_blocks}
use Rattle.transfer_rx.specs.Reassembly.{Arrival, Gives, Setting, answer, next, piece_in}
use Rattle.transfer_rx.specs.Run.{MayBegin, is_of}
use Rattle.transfer_rx.specs.Sessions.{Session, is_recent, others, recent_sessions}
use Rattle.transfer_rx.proofs.Completeness.{is_own}
use Rattle.transfer_tx.specs.Queue.{Queued}
use Rattle.alloc_spec.specs.Transfers.{SentTransfer, frames_of, ident_of, kind_of, signature_of}
use Rattle.bus_agreement.proofs.Lists.{in_back, in_front}
use Rattle.bus_spec.specs.Cluster.{arrival_at}
use Rattle.service_calm.specs.Comes.{delivery_of}
use Rattle.service_calm.specs.Sessions.{AllAdmit}
use Rattle.service_calm.proofs.Begins.{admits_behind, may_begin, other_admits}
use Rattle.service_calm.proofs.Frames.{CuttingLaws, are_cutting, are_whole, few_carried, first_starts, has_its_id, has_tail_id, last_mark, mark_of, read, some_frame}
use Rattle.service_calm.proofs.Takes.{DeliversWhole, HasBlocks, Takes, comes_alone, ends, goes_by, goes_on, starts}

-- ---- memory

few_left : (p : Session → Bool) (sessions : List Session) → length (filter p sessions) ≤ length sessions
few_left p sessions = omega (arith, length-filter_both p (λ s. not (p s)) (λ s. refl) sessions)

less_used : (p : Session → Bool) (sessions : List Session) → blocks_used (filter p sessions) ≤ blocks_used sessions
unfolding blocks_used
less_used p sessions = omega (arith, sum_by-filter_both p (λ s. not (p s)) (λ s. refl) session_blocks sessions)

-- A receiver: how it is set, the most bytes of a payload that it is sent, and in how many of its blocks so many have
-- room.
pub record Receiver : Type 0 where
  pub setting : Setting
  pub longest : ℕ
  pub blocks : ℕ
  pub short : longest ≤ 223
  pub hold : longest + 2 ≤ 28 * blocks

enough : (whole : Bool) (most needed used count : ℕ) → used + needed ≤ most → count ≤ 28 * needed → (not whole && nat_lt most (used + (count + 27) / 28)) ≡ false
enough whole most needed used count has few = ap (λ (b : Bool). not whole && b) none_lacks ∙ and_false (not whole)
  where
    none_lacks : nat_lt most (used + (count + 27) / 28) ≡ false
    none_lacks = grind (arith, has, few)

    and_false : (b : Bool) → (b && false) ≡ false
    and_false true = refl
    and_false false = refl

-- ---- transfers and frames to come

-- a transfer that was made, and at which moment
pub record Made : Type 0 where
  pub at : ℕ
  pub transfer : SentTransfer

-- a frame to come, and when its transfer was made
pub record Coming : Type 0 where
  pub at : ℕ
  pub frame : Queued

abbrev pub stamped : ℕ → Queued → Coming
stamped at frame = record { at = at; frame = frame }

abbrev pub coming_of : Made → List Coming
coming_of x = map (stamped x.at) (frames_of x.transfer)

abbrev pub all_coming : List Made → List Coming
all_coming xs = flat_map coming_of xs

abbrev pub frames_in : List Coming → List Queued
frames_in cs = map (λ (c : Coming). c.frame) cs

-- the frames without their moments
pub unstamped : (at : ℕ) (frames : List Queued) → frames_in (map (stamped at) frames) ≡ frames
unstamped at [] = refl
unstamped at (f ∷ frames) = ap (λ (l : List Queued). f ∷ l) (unstamped at frames)

all_at : (at : ℕ) (frames : List Queued) (c : Coming) → In c (map (stamped at) frames) → c.at ≡ at
all_at at [] c i = absurd i
all_at at (f ∷ frames) c (inl e) = ap (λ (x : Coming). x.at) e
all_at at (f ∷ frames) c (inr i) = all_at at frames c i

-- this holds of the transfer ID of the first of these, or of each that the next one may have
abbrev pub FirstIs : (ℕ → Type 0) → List Made → (ℕ → Type 0) → Type 0
FirstIs Holds [] Fits = (id : ℕ) → id < 32 → Fits id → Holds id
FirstIs Holds (x ∷ xs) Fits = Holds x.transfer.offer.id

-- each transfer ID differs from the one behind it, the last one from all that the next one may have
abbrev pub Differ : List Made → (ℕ → Type 0) → Type 0
Differ [] Fits = ⊤
Differ (x ∷ []) Fits = (id : ℕ) → Fits id → x.transfer.offer.id ≢ id
Differ (x ∷ y ∷ rest) Fits = (x.transfer.offer.id ≢ y.transfer.offer.id) × Differ (y ∷ rest) Fits

pub rest_differ : (x : Made) (xs : List Made) (Fits : ℕ → Type 0) → Differ (x ∷ xs) Fits → Differ xs Fits
rest_differ x [] Fits d = tt
rest_differ x (y ∷ xs) Fits d = d.1

module _ (laws : CuttingLaws) (whole : DeliversWhole) (n : ℕ) (receiver : Receiver) (what : What) (to : ℕ) (delay base clock : ℕ) (quick : 2 * delay ≤ 2000)
    (known : is_anonymous (kind_of what) ≡ false)
    (wants : (signature : ℕ) → signature ≡ signature_of what
    → wanted receiver.setting.rows receiver.setting.me (identifier_number (ident_of n what to)) ≡ Ok (record { ident = ident_of n what to; signature = signature })) where
  abbrev pub setting : Setting
  setting = receiver.setting

  abbrev pub number : ℕ
  number = identifier_number (ident_of n what to)

  abbrev pub key : Key
  key = key_of (ident_of n what to)

  abbrev its_wanted : Wanted
  its_wanted = record { ident = ident_of n what to; signature = signature_of what }

  wants_id : (id : ℕ) → id ≡ number → wanted setting.rows setting.me id ≡ Ok its_wanted
  wants_id id e = ap (λ (k : ℕ). wanted setting.rows setting.me k) e ∙ wants (signature_of what) refl

  -- a frame with this identifier is of the key
  pub own_frame : (frame : Queued) (moment : ℕ) → frame.id ≡ number → is_of setting key (arrival_at frame moment) ≡ true
  own_frame frame moment e = is_own setting its_wanted (arrival_at frame moment) (wants_id frame.id e) known

  -- a transfer of this kind, from the one member to this destination
  pub record IsOne (x : Made) : Type 0 where
    pub by : x.transfer.by ≡ n
    pub what_is : x.transfer.offer.what ≡ what
    pub to_is : x.transfer.offer.to ≡ to
    pub id : x.transfer.offer.id < 32
    pub short : length x.transfer.offer.payload ≤ receiver.longest

  abbrev pub AreOnes : List Made → Type 0
  AreOnes xs = (x : Made) → In x xs → IsOne x

  abbrev pub low_of : Made → ℕ
  low_of x = max base (x.at + clock)

  abbrev pub high_of : Made → ℕ
  high_of x = max base (x.at + 2 * delay + clock)

  abbrev IsTaken : Made → List Session → List Coming → Type 0
  IsTaken x sessions front = Takes setting key (low_of x) (high_of x) sessions (map read (frames_in front)) (map mark_of (frames_in front))

  -- where the receiver stands: before these transfers, of the first of which it took these frames
  abbrev pub Stage : List Session → List Coming → List Made → (ℕ → Type 0) → Type 0
  Stage sessions [] xs Fits = FirstIs (λ id. AllAdmit base key id sessions) xs Fits
  Stage sessions (f ∷ fs) [] Fits = ⊥
  Stage sessions (f ∷ fs) (x ∷ xs) Fits = IsTaken x sessions (f ∷ fs) × (back : List Coming) × (back ≢ []) × (coming_of x ≡ (f ∷ fs) ++ back)

  -- the moment is one at which frames of the first transfer may come
  abbrev pub IsWithin : ℕ → List Made → Type 0
  IsWithin moment [] = ⊤
  IsWithin moment (x ∷ xs) = (low_of x ≤ moment) × (moment ≤ high_of x)

  -- ---- a frame of another key

  pub other_comes : (sessions : List Session) (front : List Coming) (xs : List Made) (Fits : ℕ → Type 0) (frame : Queued) (moment : ℕ)
      → is_of setting key (arrival_at frame moment) ≡ false → IsWithin moment xs → Stage sessions front xs Fits
      → Stage (next setting sessions (arrival_at frame moment)) front xs Fits
  other_comes sessions [] [] Fits frame moment other within stage =
      λ id low fits. other_admits base setting sessions (arrival_at frame moment) key id other (stage id low fits)
  other_comes sessions [] (x ∷ xs) Fits frame moment other within stage =
      other_admits base setting sessions (arrival_at frame moment) key x.transfer.offer.id other stage
  other_comes sessions (f ∷ fs) [] Fits frame moment other within stage = absurd stage
  other_comes sessions (f ∷ fs) (x ∷ xs) Fits frame moment other within stage = (
    goes_by setting key (low_of x) (high_of x) sessions (map read (frames_in (f ∷ fs))) (map mark_of (frames_in (f ∷ fs))) stage.0 (arrival_at frame moment) other within.0 within.1,
    stage.1,
    stage.2,
    stage.3,
  )

  -- ---- a frame of the key

  -- it has a session left, and blocks for the longest transfer
  abbrev pub HasRoom : List Session → Type 0
  HasRoom sessions = (length sessions < setting.sessions) × (blocks_used sessions + receiver.blocks ≤ setting.blocks)

  has_blocks : (sessions : List Session) (came : List Piece) (x : Arrival) → HasRoom sessions → length (joined (came ++ piece_in x ∷ [])) ≤ receiver.longest + 2
      → HasBlocks setting key sessions came x
  has_blocks sessions came x room few =
      let a = less_used (is_recent x.moment) sessions in
      let b = less_used (λ s. not (same_key key s.key)) (recent_sessions x.moment sessions) in
      let r = room.1 in
      let h = receiver.hold in
      enough ((piece_in x).tail.start && (piece_in x).tail.end) setting.blocks receiver.blocks (blocks_used (others key (recent_sessions x.moment sessions)))
      (length (joined (came ++ piece_in x ∷ []))) (omega (arith, a, b, r)) (omega (arith, few, h))

  module _ (sessions : List Session) (c : Coming) (moment : ℕ) (room : HasRoom sessions) where
    abbrev pub it : Arrival
    it = arrival_at c.frame moment

    -- what is delivered with it, and what it leaves
    pub record IsDone (x : Made) (xs : List Made) (more : List Coming) (Fits : ℕ → Type 0) : Type 0 where
      pub gives : answer setting sessions it ≡ Gives (delivery_of x.transfer)
      pub stage : Stage (next setting sessions it) [] xs Fits
      pub pending : more ≡ all_coming xs

    abbrev Outcome : List Coming → List Coming → List Made → (ℕ → Type 0) → Type 0
    Outcome front more xs Fits = (Stage (next setting sessions it) (front ++ c ∷ []) xs Fits)
        ⊎ ((x : Made) × (rest : List Made) × (xs ≡ x ∷ rest) × IsDone x rest more Fits)

    module _ (x : Made) (rest : List Made) (Fits : ℕ → Type 0) (ones : AreOnes (x ∷ rest)) (differ : Differ (x ∷ rest) Fits)
        (within : IsWithin moment (x ∷ rest)) where
      one : IsOne x
      one = ones x (inl refl)

      cut_at : (cs ds : List Coming) → coming_of x ≡ cs ++ ds → frames_of x.transfer ≡ frames_in cs ++ frames_in ds
      cut_at cs ds e = sym (unstamped x.at (frames_of x.transfer)) ∙ (ap frames_in e ∙ map-append (λ (y : Coming). y.frame) cs ds)

      in_cut : (cs ds : List Queued) (f : Queued) → frames_of x.transfer ≡ cs ++ f ∷ ds → In f (frames_of x.transfer)
      in_cut cs ds f e = subst (λ (l : List Queued). In f l) (sym e) (in_back f cs (f ∷ ds) (inl refl))

      id_is : (cs ds : List Queued) → frames_of x.transfer ≡ cs ++ c.frame ∷ ds → c.frame.id ≡ number
      id_is cs ds e = has_its_id x.transfer c.frame (in_cut cs ds c.frame e)
          ∙ (λ i. identifier_number (ident_of (one.by i) (one.what_is i) (one.to_is i)))

      its_own : (cs ds : List Queued) → frames_of x.transfer ≡ cs ++ c.frame ∷ ds → is_of setting key it ≡ true
      its_own cs ds e = own_frame c.frame moment (id_is cs ds e)

      few_in : (cs ds : List Queued) → frames_of x.transfer ≡ cs ++ c.frame ∷ ds → length (joined (map read cs ++ read c.frame ∷ [])) ≤ receiver.longest + 2
      few_in cs ds e = subst (λ (l : List Piece). length (joined l) ≤ receiver.longest + 2) (map-append read cs (c.frame ∷ []))
          (few_carried laws x.transfer one.id receiver.longest one.short (cs ++ c.frame ∷ []) ds (e ∙ sym (append_assoc cs (c.frame ∷ []) ds)))

      -- what the session of the key admits behind it
      behind : (cs : List Queued) → frames_of x.transfer ≡ cs ++ c.frame ∷ [] → answer setting sessions it ≡ Gives (delivery_of x.transfer)
          → Stage (next setting sessions it) [] rest Fits
      behind cs e gives = by rest (λ y i. ones y (inr i)) differ
        where
          goes : (id : ℕ) → id < 32 → x.transfer.offer.id ≢ id → AllAdmit base key id (next setting sessions it)
          goes id low apart =
              let tail : (piece_in it).tail.id ≡ x.transfer.offer.id = has_tail_id laws x.transfer one.id cs [] c.frame e in
              admits_behind base setting sessions it key (delivery_of x.transfer) id (its_own cs [] e)
              (subst (λ (k : ℕ). k < 32) (sym tail) one.id) low (λ same. apart (sym (same ∙ tail))) gives

          by : (ys : List Made) → AreOnes ys → Differ (x ∷ ys) Fits → FirstIs (λ id. AllAdmit base key id (next setting sessions it)) ys Fits
          by [] are d = λ id low fits. goes id low (d id fits)
          by (y ∷ ys) are d = goes y.transfer.offer.id (are y (inl refl)).id d.0

      delivered : (cs : List Queued) → frames_of x.transfer ≡ cs ++ c.frame ∷ [] → (marks : List Mark) → marks ≡ map mark_of cs
          → answer setting sessions it ≡ Gives (record {
            ident = its_wanted.ident;
            id = (piece_in it).tail.id;
            payload = x.transfer.offer.payload;
            mark = it.mark;
            whole = is_whole (marks ++ it.mark ∷ []);
          }) → answer setting sessions it ≡ Gives (delivery_of x.transfer)
      delivered cs e marks marked gives = gives ∙ (λ i. Gives (record {
        ident = ident_same i;
        id = has_tail_id laws x.transfer one.id cs [] c.frame e i;
        payload = x.transfer.offer.payload;
        mark = last_mark laws x.transfer one.id cs c.frame e i;
        whole = is_all i;
      }))
        where
          ident_same : ident_of n what to ≡ ident_of x.transfer.by x.transfer.offer.what x.transfer.offer.to
          ident_same = sym (λ i. ident_of (one.by i) (one.what_is i) (one.to_is i))

          is_all : is_whole (marks ++ it.mark ∷ []) ≡ true
          is_all = ap (λ (l : List Mark). is_whole (l ++ it.mark ∷ [])) marked
              ∙ (ap is_whole (sym (map-append mark_of cs (c.frame ∷ []))) ∙ (ap (λ (l : List Queued). is_whole (map mark_of l)) (sym e) ∙ are_whole x.transfer))

      soon : high_of x ≤ low_of x + 2000
      soon = omega (arith, quick)

      cutting : (cs : List Queued) → frames_of x.transfer ≡ cs ++ c.frame ∷ []
          → IsCutting (signature_of what) (piece_in it).tail.id x.transfer.offer.payload (map read cs ++ piece_in it ∷ [])
      cutting cs e = subst (λ (k : What). IsCutting (signature_of k) (piece_in it).tail.id x.transfer.offer.payload (map read cs ++ piece_in it ∷ [])) one.what_is
          (are_cutting laws x.transfer one.id (let a = one.short in let b = receiver.short in omega (arith, a, b)) cs c.frame e)

      -- the last frame came
      done : (cs : List Queued) (more : List Coming) → frames_of x.transfer ≡ cs ++ c.frame ∷ [] → more ≡ all_coming rest
          → answer setting sessions it ≡ Gives (delivery_of x.transfer) → IsDone x rest more Fits
      done cs more e left gives = record { gives = gives; stage = behind cs e gives; pending = left }

      -- the first frame of a transfer
      own_first : (more : List Coming) → AllAdmit base key x.transfer.offer.id sessions → (all : List Coming) → coming_of x ≡ all → c ∷ more ≡ all ++ all_coming rest
          → Outcome [] more (x ∷ rest) Fits
      own_first more admits [] e pending = absurd (some_frame laws x.transfer one.id (cut_at [] [] e))
      own_first more admits (y ∷ back) e pending =
          let head : y ≡ c = ap (λ (l : List Coming). slice_index_or l 0 c) (sym pending) in
          let tails : more ≡ back ++ all_coming rest = ap (λ (l : List Coming). drop 1 l) pending in
          by back (e ∙ ap (λ (z : Coming). z ∷ back) head) tails
        where
          may : (cs : List Queued) → frames_of x.transfer ≡ c.frame ∷ cs → MayBegin setting sessions key it
          may cs e =
              let s = first_starts laws x.transfer one.id c.frame cs e in
              let a = few_left (is_recent it.moment) sessions in
              let r = room.0 in
              may_begin base setting sessions key x.transfer.offer.id s.0 it (let l = within.0 in omega (arith, l)) admits s.1 (omega (arith, a, r))

          by : (back : List Coming) → coming_of x ≡ c ∷ back → more ≡ back ++ all_coming rest → Outcome [] more (x ∷ rest) Fits
          by [] e tails =
              let cut : frames_of x.transfer ≡ c.frame ∷ [] = cut_at (c ∷ []) [] e in
              let gives = comes_alone setting key (low_of x) (high_of x) whole soon its_wanted refl x.transfer.offer.payload it (wants_id c.frame.id (id_is [] [] cut)) known
              within.0 within.1 sessions (may [] cut) (cutting [] cut) (has_blocks sessions [] it room (few_in [] [] cut)) in
              inr (x, rest, refl, done [] more cut tails (delivered [] cut [] refl gives))
          by (b ∷ bs) e tails =
              let cut : frames_of x.transfer ≡ c.frame ∷ frames_in (b ∷ bs) = cut_at (c ∷ []) (b ∷ bs) e in
              inl (
                starts setting key (low_of x) (high_of x) sessions it (may (frames_in (b ∷ bs)) cut) (its_own [] (frames_in (b ∷ bs)) cut) within.0 within.1
                    (has_blocks sessions [] it room (few_in [] (frames_in (b ∷ bs)) cut)),
                b ∷ bs,
                λ none. absurd (omega (arith, ap length none)),
                e,
              )

      -- one more frame of it
      own_more : (f : Coming) (fs more : List Coming) → IsTaken x sessions (f ∷ fs) → (back : List Coming) → back ≢ [] → coming_of x ≡ (f ∷ fs) ++ back
          → c ∷ more ≡ back ++ all_coming rest → Outcome (f ∷ fs) more (x ∷ rest) Fits
      own_more f fs more takes [] some e pending = absurd (some refl)
      own_more f fs more takes (y ∷ back) some e pending =
          let head : y ≡ c = ap (λ (l : List Coming). slice_index_or l 0 c) (sym pending) in
          let tails : more ≡ back ++ all_coming rest = ap (λ (l : List Coming). drop 1 l) pending in
          by back (e ∙ ap (λ (z : Coming). (f ∷ fs) ++ z ∷ back) head) tails
        where
          came : List Piece
          came = map read (frames_in (f ∷ fs))

          by : (back : List Coming) → coming_of x ≡ (f ∷ fs) ++ c ∷ back → more ≡ back ++ all_coming rest → Outcome (f ∷ fs) more (x ∷ rest) Fits
          by [] e tails =
              let cut : frames_of x.transfer ≡ frames_in (f ∷ fs) ++ c.frame ∷ [] = cut_at (f ∷ fs) (c ∷ []) e in
              let gives = ends setting key (low_of x) (high_of x) whole soon its_wanted refl x.transfer.offer.payload it
              (wants_id c.frame.id (id_is (frames_in (f ∷ fs)) [] cut)) known within.0 within.1 sessions (map read (frames_in (f ∷ fs))) (map mark_of (frames_in (f ∷ fs))) takes
              (cutting (frames_in (f ∷ fs)) cut) (has_blocks sessions (map read (frames_in (f ∷ fs))) it room (few_in (frames_in (f ∷ fs)) [] cut)) in
              inr (x, rest, refl, done (frames_in (f ∷ fs)) more cut tails (delivered (frames_in (f ∷ fs)) cut (map mark_of (frames_in (f ∷ fs))) refl gives))
          by (b ∷ bs) e tails =
              let cut : frames_of x.transfer ≡ frames_in (f ∷ fs) ++ c.frame ∷ frames_in (b ∷ bs) = cut_at (f ∷ fs) (c ∷ (b ∷ bs)) e in
              let then_takes = goes_on setting key (low_of x) (high_of x) sessions (map read (frames_in (f ∷ fs))) (map mark_of (frames_in (f ∷ fs))) takes it
              (its_own (frames_in (f ∷ fs)) (frames_in (b ∷ bs)) cut) within.0 within.1
              (has_blocks sessions (map read (frames_in (f ∷ fs))) it room (few_in (frames_in (f ∷ fs)) (frames_in (b ∷ bs)) cut)) in
              inl (
                subst (λ (l : List Piece). Takes setting key (low_of x) (high_of x) (next setting sessions it) l (map mark_of (frames_in ((f ∷ fs) ++ c ∷ []))))
                    (reads_more (f ∷ fs))
                    (subst (λ (l : List Mark). Takes setting key (low_of x) (high_of x) (next setting sessions it) (map read (frames_in (f ∷ fs)) ++ read c.frame ∷ []) l)
                    (marks_more (f ∷ fs)) then_takes),
                b ∷ bs,
                λ none. absurd (omega (arith, ap length none)),
                e ∙ sym (append_assoc (f ∷ fs) (c ∷ []) (b ∷ bs)),
              )
            where
              reads_more : (cs : List Coming) → map read (frames_in cs) ++ read c.frame ∷ [] ≡ map read (frames_in (cs ++ c ∷ []))
              reads_more [] = refl
              reads_more (d ∷ cs) = ap (λ (l : List Piece). read d.frame ∷ l) (reads_more cs)

              marks_more : (cs : List Coming) → map mark_of (frames_in cs) ++ mark_of c.frame ∷ [] ≡ map mark_of (frames_in (cs ++ c ∷ []))
              marks_more [] = refl
              marks_more (d ∷ cs) = ap (λ (l : List Mark). mark_of d.frame ∷ l) (marks_more cs)

    -- a frame of the key comes
    pub own_comes : (front : List Coming) (xs : List Made) (Fits : ℕ → Type 0) (more : List Coming) → AreOnes xs → Differ xs Fits
        → IsWithin moment xs → front ++ (c ∷ more) ≡ all_coming xs → Stage sessions front xs Fits → Outcome front more xs Fits
    own_comes [] [] Fits more ones differ within pending stage = absurd (omega (arith, ap length pending))
    own_comes (f ∷ fs) [] Fits more ones differ within pending stage = absurd stage
    own_comes [] (x ∷ rest) Fits more ones differ within pending stage =
        own_first x rest Fits ones differ within more stage (coming_of x) refl pending
    own_comes (f ∷ fs) (x ∷ rest) Fits more ones differ within pending stage =
        own_more x rest Fits ones differ within f fs more stage.0 stage.1 stage.2 stage.3
        (append_cancel_left (f ∷ fs) (c ∷ more) (stage.1 ++ all_coming rest)
        (pending ∙ (ap (λ (l : List Coming). l ++ all_coming rest) stage.3 ∙ append_assoc (f ∷ fs) stage.1 (all_coming rest))))

  -- ---- what is still to come

  one_of : (x : Made) (frames : List Queued) → frames_of x.transfer ≡ frames → IsOne x → (c : Coming) × In c (coming_of x) × (c.at ≡ x.at)
  one_of x [] e is = absurd (some_frame laws x.transfer is.id e)
  one_of x (f ∷ frames) e is = (stamped x.at f, subst (λ (l : List Queued). In (stamped x.at f) (map (stamped x.at) l)) (sym e) (inl refl), refl)

  some_of : (xs : List Made) → AreOnes xs → (x : Made) → In x xs → (c : Coming) × In c (all_coming xs) × (c.at ≡ x.at)
  some_of [] are x i = absurd i
  some_of (z ∷ zs) are x (inl e) =
      let f = one_of x (frames_of x.transfer) refl (are x (inl e)) in
      (f.0, in_front f.0 (coming_of z) (all_coming zs) (subst (λ (u : Made). In f.0 (coming_of u)) e f.1), f.2)
  some_of (z ∷ zs) are x (inr i) =
      let f = some_of zs (λ u j. are u (inr j)) x i in (f.0, in_back f.0 (coming_of z) (all_coming zs) f.1, f.2)

  -- of each transfer some frame is still to come
  pub still_comes : (sessions : List Session) (front : List Coming) (xs : List Made) (Fits : ℕ → Type 0) (left : List Coming) → AreOnes xs → front ++ left ≡ all_coming xs
      → Stage sessions front xs Fits → (x : Made) → In x xs → (c : Coming) × In c left × (c.at ≡ x.at)
  still_comes sessions front [] Fits left ones pending stage x i = absurd i
  still_comes sessions [] (y ∷ ys) Fits left ones pending stage x i =
      let f = some_of (y ∷ ys) ones x i in (f.0, subst (λ (l : List Coming). In f.0 l) (sym pending) f.1, f.2)
  still_comes sessions (g ∷ gs) (y ∷ ys) Fits left ones pending stage x i = by stage.1 stage.2 stage.3 i
    where
      by : (back : List Coming) → back ≢ [] → coming_of y ≡ (g ∷ gs) ++ back → In x (y ∷ ys) → (c : Coming) × In c left × (c.at ≡ x.at)
      by [] some e j = absurd (some refl)
      by (b ∷ bs) some e (inl same) = (
        b,
        subst (λ (l : List Coming). In b l) (sym left_is) (inl refl),
        all_at y.at (frames_of y.transfer) b (subst (λ (l : List Coming). In b l) (sym e) (in_back b (g ∷ gs) (b ∷ bs) (inl refl))) ∙ ap (λ (u : Made). u.at) (sym same),
      )
        where
          left_is : left ≡ (b ∷ bs) ++ all_coming ys
          left_is = append_cancel_left (g ∷ gs) left ((b ∷ bs) ++ all_coming ys)
              (pending ∙ (ap (λ (l : List Coming). l ++ all_coming ys) e ∙ append_assoc (g ∷ gs) (b ∷ bs) (all_coming ys)))
      by (b ∷ bs) some e (inr j) =
          let f = some_of ys (λ u k. ones u (inr k)) x j in (f.0, subst (λ (l : List Coming). In f.0 l) (sym left_is) (in_back f.0 (b ∷ bs) (all_coming ys) f.1), f.2)
        where
          left_is : left ≡ (b ∷ bs) ++ all_coming ys
          left_is = append_cancel_left (g ∷ gs) left ((b ∷ bs) ++ all_coming ys)
              (pending ∙ (ap (λ (l : List Coming). l ++ all_coming ys) e ∙ append_assoc (g ∷ gs) (b ∷ bs) (all_coming ys)))
