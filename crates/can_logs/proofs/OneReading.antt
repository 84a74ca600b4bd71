-- A line reads as one value.
use Rattle.std.proofs.Common.{◌≡◌, ◌≢◌, ◌<◌, ◌≤◌, ◌+◌, ◌*◌, ◌^◌, ◌⊎◌, ℕ, suc, List, [], ◌∷◌, ◌++◌, length, get_or, take, drop, replicate, Option, Some, None, refl, sym, ap, ◌∙◌, subst, arith, inl, inr, length-append, append-nil}
use Rattle.std.specs.List.{All, position_or_len}
use Rattle.std.proofs.lemmas.List.{get_or_at, take_at, drop_at}
use Rattle.std.proofs.lemmas.List.Elements.{All-contains, All-get_or}
use Rattle.std.proofs.lemmas.Nat.{from_be_bytes-to_be_bytes_4}
use Rattle.std.specs.Int.{from_be_bytes, w32}
use Rattle.arrayvec.specs.ArrayVec.{ArrayVec}
use Rattle.can_frame.specs.declared.frame.Frame.{Frame}
use Rattle.replay_text.specs.Words.{IsHex, identifier_bytes}
use Rattle.replay_text.proofs.Numbers.{length-decoded}
use Rattle.replay_text.proofs.OneRow.{FramesAreTheirParts}
use Rattle.can_logs.specs.declared.candump.LogLine.{LogLine}
use Rattle.can_logs.specs.declared.candump.LogLine.TheVariants as log_line
use Rattle.can_logs.specs.declared.slcan.SlLine.{SlLine}
use Rattle.can_logs.specs.declared.slcan.SlLine.TheVariants as slcan_line
use Rattle.can_logs.specs.Candump as candump
use Rattle.can_logs.specs.Slcan as slcan
use Rattle.can_logs.specs.Words.{IsDecimal, stamp_bytes}
use Rattle.can_logs.proofs.Letters.{first_letter, no_extended}
use Rattle.can_logs.proofs.Names.{name_first, name_without}
use Rattle.can_logs.proofs.Numbers.{decimal_without, hex_without}
use Rattle.can_logs.proofs.Splits.{one_cut, one_rest}

behind : (byte : ℕ) (x y : List ℕ) → byte ∷ x ≡ byte ∷ y → x ≡ y
behind byte x y same = ap (drop 1) same

one_number : (a b : ℕ) (word other : List ℕ) → word ≡ other → IsDecimal a word → IsDecimal b other → a ≡ b
one_number a b word other same p q = let read = subst (IsDecimal b) (sym same) q in sym p.value ∙ read.value

one_bytes : (a b word : List ℕ) → IsHex a word → IsHex b word → a ≡ b
one_bytes a b word p q = cc

one_identifier : (m n : ℕ) → m < 2 ^ 32 → n < 2 ^ 32 → identifier_bytes m ≡ identifier_bytes n → m ≡ n
one_identifier m n small less same =
    sym (from_be_bytes-to_be_bytes_4 m small) ∙ ap (from_be_bytes w32) same ∙ from_be_bytes-to_be_bytes_4 n less

one_frame : FramesAreTheirParts → (a b : Frame) (id bytes : List ℕ) → IsHex (identifier_bytes a.id) id → IsHex (identifier_bytes b.id) id
    → IsHex a.bytes.items bytes → IsHex b.bytes.items bytes → a ≡ b
one_frame same_frame a b id bytes x y v w =
    let narrow = a.narrow in
    let less = b.narrow in
    same_frame a b (one_identifier a.id b.id (omega arith) (omega arith) (one_bytes _ _ id x y)) (one_bytes _ _ bytes v w)

-- ---- candump

one_moment : (a b m n : ℕ) (line x y : List ℕ) → candump.BeginsWithMoment a m line x → candump.BeginsWithMoment b n line y → (a ≡ b) × (m ≡ n) × (x ≡ y)
one_moment a b m n line x y p q =
    let text = behind 40 _ _ (sym p.spelled ∙ q.spelled) in
    let whole =
    one_cut 46 (p.whole ++ 46 ∷ (p.part ++ 41 ∷ x)) p.whole (p.part ++ 41 ∷ x) q.whole (q.part ++ 41 ∷ y)
    (decimal_without 46 a p.whole (omega arith) p.is_moment.seconds) refl (decimal_without 46 b q.whole (omega arith) q.is_moment.seconds) text in
    let part =
    one_cut 41 (p.part ++ 41 ∷ x) p.part x q.part y
    (decimal_without 41 m p.part (omega arith) p.is_moment.parts) refl (decimal_without 41 n q.part (omega arith) q.is_moment.parts) whole.1 in
    (one_number a b p.whole q.whole whole.0 p.is_moment.seconds q.is_moment.seconds, one_number m n p.part q.part part.0 p.is_moment.parts q.is_moment.parts, part.1)

one_name : (a b text x y : List ℕ) → candump.BeginsWithName a text x → candump.BeginsWithName b text y → (a ≡ b) × (x ≡ y)
one_name a b text x y p q =
    let spaced = behind 32 _ _ (sym p.spelled ∙ q.spelled) in
    let named =
    one_rest (replicate p.more 32 ++ (a ++ 32 ∷ x)) (a ++ 32 ∷ x) (b ++ 32 ∷ y) p.more q.more refl spaced (name_first a x p.is_name) (name_first b y q.is_name) in
    one_cut 32 (a ++ 32 ∷ x) a x b y (name_without 32 a (omega arith) p.is_name) refl (name_without 32 b (omega arith) q.is_name) named

one_front : (a b m n : ℕ) (name other line x y : List ℕ) → candump.BeginsWithFront a m name line x → candump.BeginsWithFront b n other line y →
    (a ≡ b) × (m ≡ n) × (name ≡ other) × (x ≡ y)
one_front a b m n name other line x y p q =
    let moment = one_moment a b m n line p.named q.named p.moment q.moment in
    let named = one_name name other q.named x y (subst (λ t. candump.BeginsWithName name t x) moment.2 p.name_behind) q.name_behind in
    (moment.0, moment.1, named.0, named.1)

-- a direction is nothing, or begins with a space
spaced : (text : List ℕ) → candump.IsDirection text → (text ≡ []) ⊎ ((more : List ℕ) × (text ≡ 32 ∷ more))
spaced text (inl none) = inl none
spaced text (inr (inl sent)) = inr (84 ∷ [], sent)
spaced text (inr (inr received)) = inr (82 ∷ [], received)

no_space : (text front more : List ℕ) → All (λ byte. byte ≢ 32) text → text ≡ front ++ 32 ∷ more → ⊥
no_space text front more none spelt =
    let size : length text ≡ length front + suc (length more) = ap length spelt ∙ length-append front (32 ∷ more) in
    let here : get_or text (length front) 0 ≡ 32 = ap (λ b. get_or b (length front) 0) spelt ∙ get_or_at front 32 more 0 (length front) refl in
    All-get_or (λ byte. byte ≢ 32) text (length front) 0 (omega (arith, size)) none here

before_direction : (a b whole d e : List ℕ) → All (λ byte. byte ≢ 32) a → All (λ byte. byte ≢ 32) b → whole ≡ a ++ d → whole ≡ b ++ e →
    (d ≡ []) ⊎ ((more : List ℕ) × (d ≡ 32 ∷ more)) → (e ≡ []) ⊎ ((more : List ℕ) × (e ≡ 32 ∷ more)) → a ≡ b
before_direction a b whole d e p q x y (inl none) (inl nothing) =
    sym (x ∙ ap (λ v. a ++ v) none ∙ append-nil a) ∙ y ∙ ap (λ v. b ++ v) nothing ∙ append-nil b
before_direction a b whole d e p q x y (inl none) (inr some) =
    absurd (no_space a b some.0 p (sym (x ∙ ap (λ v. a ++ v) none ∙ append-nil a) ∙ y ∙ ap (λ v. b ++ v) some.1))
before_direction a b whole d e p q x y (inr some) (inl nothing) =
    absurd (no_space b a some.0 q (sym (y ∙ ap (λ v. b ++ v) nothing ∙ append-nil b) ∙ x ∙ ap (λ v. a ++ v) some.1))
before_direction a b whole d e p q x y (inr some) (inr other) =
    (one_cut 32 whole a some.0 b other.0 p (x ∙ ap (λ v. a ++ v) some.1) q (y ∙ ap (λ v. b ++ v) other.1)).0

one_data : FramesAreTheirParts → (a b : Frame) (rest : List ℕ) → candump.SpellsData a rest → candump.SpellsData b rest → a ≡ b
one_data same_frame a b rest p q =
    let id =
    one_cut 35 rest p.id p.parts.whole q.id q.parts.whole (hex_without 35 p.id _ (omega arith) p.spells.id_read) p.parts.spelled
    (hex_without 35 q.id _ (omega arith) q.spells.id_read) q.parts.spelled in
    let ends = q.parts.ends in
    let bytes =
    before_direction p.bytes q.bytes p.parts.whole p.parts.ends.direction ends.direction
    (hex_without 32 p.bytes _ (omega arith) p.spells.bytes_read) (hex_without 32 q.bytes _ (omega arith) q.spells.bytes_read)
    p.parts.ends.spelled (id.1 ∙ ends.spelled) (spaced _ p.parts.ends.is_direction) (spaced _ ends.is_direction) in
    one_frame same_frame a b q.id q.bytes (subst (IsHex (identifier_bytes a.id)) id.0 p.spells.id_read) q.spells.id_read
    (subst (IsHex a.bytes.items) bytes p.spells.bytes_read) q.spells.bytes_read

same_data : (a b m n : ℕ) (i j : ArrayVec ℕ) (f g : Frame) → a ≡ b → m ≡ n → i.items ≡ j.items → f ≡ g → log_line.Data a m i f ≡ log_line.Data b n j g
same_data a b m n i j f g p q names frames =
    let listed : List ℕ → ArrayVec ℕ = λ zs. record { items = zs } in
    let ifaces : i ≡ j = ap listed names in
    cc

pub one_candump : FramesAreTheirParts → (a b : LogLine) (line : List ℕ) → candump.Reads a line → candump.Reads b line → a ≡ b
one_candump same_frame (log_line.Data a m i f) (log_line.Data b n j g) line p q =
    let front = one_front a b m n i.items j.items line p.rest q.rest p.front q.front in
    same_data a b m n i j f g front.0 front.1 front.2 (one_data same_frame f g q.rest (subst (candump.SpellsData f) front.3 p.spells) q.spells)
one_candump same_frame (log_line.Data a m i f) log_line.Skipped line p q = absurd (q.no_data a m i.items f p)
one_candump same_frame log_line.Skipped (log_line.Data b n j g) line p q = absurd (p.no_data b n j.items g q)
one_candump same_frame log_line.Skipped log_line.Skipped line p q = refl

-- ---- an adapter

one_stamp : (a b : Option ℕ) (word : List ℕ) → slcan.SpellsStamp a word → slcan.SpellsStamp b word → a ≡ b
one_stamp None None word p q = refl
one_stamp None (Some b) word p q =
    let size = (length-decoded word (stamp_bytes b) q.1).0 in
    let none = ap length p in
    absurd (omega (arith, size, none))
one_stamp (Some a) None word p q =
    let size = (length-decoded word (stamp_bytes a) p.1).0 in
    let none = ap length q in
    absurd (omega (arith, size, none))
one_stamp (Some a) (Some b) word p q =
    let same = one_bytes (stamp_bytes a) (stamp_bytes b) word p.1 q.1 in
    let small = p.0 in
    let less = q.0 in
    let high : get_or (stamp_bytes a) 0 0 ≡ get_or (stamp_bytes b) 0 0 = ap (λ l. get_or l 0 0) same in
    let low : get_or (stamp_bytes a) 1 0 ≡ get_or (stamp_bytes b) 1 0 = ap (λ l. get_or l 1 0) same in
    ap Some (omega arith)

-- the parts of a line, each of its size
one_parts : (a b : ℕ) (x y : List ℕ) (s t : Option ℕ) (line : List ℕ) → (p : slcan.ReadsBytes a x s line) → (q : slcan.ReadsBytes b y t line) →
    (p.id_word ≡ q.id_word) × (p.bytes_word ≡ q.bytes_word) × (p.stamp_word ≡ q.stamp_word)
one_parts a b x y s t line p q =
    let text = behind 84 _ _ (sym p.spelled ∙ q.spelled) in
    let p_id : length p.id_word ≡ 8 = let size = (length-decoded p.id_word (identifier_bytes a) p.id_read).0 in omega (arith, size) in
    let q_id : length q.id_word ≡ 8 = let size = (length-decoded q.id_word (identifier_bytes b) q.id_read).0 in omega (arith, size) in
    let id : p.id_word ≡ q.id_word = sym (take_at p.id_word _ 8 p_id) ∙ ap (take 8) text ∙ take_at q.id_word _ 8 q_id in
    let sized : (48 + length x) ∷ (p.bytes_word ++ p.stamp_word) ≡ (48 + length y) ∷ (q.bytes_word ++ q.stamp_word) =
    sym (drop_at p.id_word _ 8 p_id) ∙ ap (drop 8) text ∙ drop_at q.id_word _ 8 q_id in
    let count : 48 + length x ≡ 48 + length y = ap (λ l. get_or l 0 0) sized in
    let rest : p.bytes_word ++ p.stamp_word ≡ q.bytes_word ++ q.stamp_word = ap (drop 1) sized in
    let p_size : length p.bytes_word ≡ 2 * length x = (length-decoded p.bytes_word x p.bytes_read).0 in
    let q_size : length q.bytes_word ≡ 2 * length x = let size = (length-decoded q.bytes_word y q.bytes_read).0 in omega (arith, size, count) in (
      id,
      sym (take_at p.bytes_word p.stamp_word (2 * length x) p_size) ∙ ap (take (2 * length x)) rest ∙ take_at q.bytes_word q.stamp_word (2 * length x) q_size,
      sym (drop_at p.bytes_word p.stamp_word (2 * length x) p_size) ∙ ap (drop (2 * length x)) rest ∙ drop_at q.bytes_word q.stamp_word (2 * length x) q_size,
    )

same_line : (f g : Frame) (s t : Option ℕ) → f ≡ g → s ≡ t → slcan_line.Data f s ≡ slcan_line.Data g t
same_line f g s t frames stamps = cc

-- a line of a frame is none of something else
no_other : (f : Frame) (s : Option ℕ) (line : List ℕ) → slcan.Reads (slcan_line.Data f s) line → slcan.IsSkipped line → ⊥
no_other f s line reads (inl none) = absurd (cc (sym none ∙ reads.spelled))
no_other f s line reads (inr (inl other)) =
    let letter : other.0 ≡ 84 = first_letter line other.0 84 other.1 _ other.2 reads.spelled in
    All-contains (λ letter. letter ≢ 84) slcan.other_letters other.0 no_extended other.3 letter
no_other f s line reads (inr (inr empty)) =
    let words = (one_parts f.id empty.0 f.bytes.items [] s empty.1 line reads empty.2).1 in
    let none = one_bytes f.bytes.items [] empty.2.bytes_word (subst (IsHex f.bytes.items) words reads.bytes_read) empty.2.bytes_read in
    let filled = f.filled in
    let size = ap length none in
    absurd (omega (arith, filled, size))

pub one_slcan : FramesAreTheirParts → (a b : SlLine) (line : List ℕ) → slcan.Reads a line → slcan.Reads b line → a ≡ b
one_slcan same_frame (slcan_line.Data f s) (slcan_line.Data g t) line p q =
    let words = one_parts f.id g.id f.bytes.items g.bytes.items s t line p q in
    same_line f g s t
    (one_frame same_frame f g q.id_word q.bytes_word (subst (IsHex (identifier_bytes f.id)) words.0 p.id_read) q.id_read
    (subst (IsHex f.bytes.items) words.1 p.bytes_read) q.bytes_read)
    (one_stamp s t q.stamp_word (subst (slcan.SpellsStamp s) words.2 p.stamp_read) q.stamp_read)
one_slcan same_frame (slcan_line.Data f s) slcan_line.Skipped line p q = absurd (no_other f s line p q)
one_slcan same_frame slcan_line.Skipped (slcan_line.Data g t) line p q = absurd (no_other g t line q p)
one_slcan same_frame slcan_line.Skipped slcan_line.Skipped line p q = refl
