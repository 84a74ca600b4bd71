-- Requests that tell a unique ID part by part: those that are accepted tell a beginning of it, and what is whole is all of it.
use Rattle.std.proofs.Common.{◌≡◌, ℕ, Bool, true, false, List, [], ◌∷◌, ◌++◌, length, take, drop, refl, sym, ◌∙◌, ap, arith, inl, inr}
use Rattle.std.specs.Prelude.{◌&&◌, not, nat_eq, if◌then◌else◌}
use Rattle.std.proofs.lemmas.List.{append_assoc, drop_at, length-drop, length-take, take-append-drop, length-append}
use Rattle.alloc_exchange.specs.declared.heard.Heard.{Heard}
use Rattle.alloc_exchange.specs.declared.heard.Heard.TheVariants.{Whole}
use Rattle.alloc_exchange.specs.declared.stage.Stage.{Stage}
use Rattle.alloc_exchange.specs.declared.stage.Stage.TheVariants.{First, Second, Third}
use Rattle.alloc_exchange.specs.Exchange.{Accepted, after, after_message, answer, answer_to, bytes_before, bytes_so_far, has_length, is_expected, is_whole, left_over, recent_requests, response, stage_of, with_request}
use Rattle.dsdl_codec.specs.declared.allocation.Allocation.{Allocation}
use Rattle.alloc_spec_laws.proofs.Choices.{and_right, either, eq_true}
use Rattle.service_device.specs.Requests.{TellBeginning, TellsPart}

no_more : (l : List ℕ) → length l ≡ 0 → l ≡ []
no_more [] e = refl
no_more (x ∷ l) e = absurd (omega (arith, e))

pub at_end : (l : List ℕ) → l ++ [] ≡ l
at_end [] = refl
at_end (x ∷ l) = ap (λ (k : List ℕ). x ∷ k) (at_end l)

pub not_false : (b : Bool) → not b ≡ false → b ≡ true
not_false true e = refl
not_false false e = absurd (cc (e))

-- none tell a beginning of any
pub none_begin : (uid : List ℕ) → TellBeginning uid []
none_begin uid = (uid, refl)

module _ (uid : List ℕ) (whole : length uid ≡ 16) (message : Allocation) (tells : TellsPart uid message) where
  -- ---- one more that is accepted

  module _ (accepted : List Accepted) (begins : TellBeginning uid accepted) where
    abbrev so_far : List ℕ
    so_far = bytes_so_far accepted

    joined : (known : ℕ) → length (bytes_so_far accepted) ≡ known → message.uid.items ≡ take 6 (drop known uid)
        → (more : List ℕ) × (uid ≡ (bytes_so_far accepted ++ message.uid.items) ++ more)
    joined known size items = (
      drop 6 begins.0,
      begins.1 ∙ (ap (λ (l : List ℕ). bytes_so_far accepted ++ l) (sym (take-append-drop 6 begins.0))
          ∙ (sym (append_assoc (bytes_so_far accepted) (take 6 begins.0) (drop 6 begins.0))
          ∙ ap (λ (l : List ℕ). (bytes_so_far accepted ++ l) ++ drop 6 begins.0) (sym next))),
    )
      where
        next : message.uid.items ≡ take 6 begins.0
        next = items ∙ ap (λ (l : List ℕ). take 6 l) (ap (λ (l : List ℕ). drop known l) begins.1 ∙ drop_at (bytes_so_far accepted) begins.0 known size)

    expected_behind : (stage : Stage) → stage_of message ≡ stage → is_expected accepted message ≡ true → length (bytes_so_far accepted) ≡ bytes_before stage
    expected_behind stage is e = eq_true (length (bytes_so_far accepted)) (bytes_before stage) (ap (λ (s : Stage). nat_eq (length (bytes_so_far accepted)) (bytes_before s)) (sym is) ∙ e)

    -- a request that is expected goes on where those end that were accepted
    grows : is_expected accepted message ≡ true → (more : List ℕ) × (uid ≡ (bytes_so_far accepted ++ message.uid.items) ++ more)
    grows e = by tells
      where
        first : message.first_part ≡ true → stage_of message ≡ First
        first f = rw (f) refl

        second : message.first_part ≡ false → length message.uid.items ≡ 6 → stage_of message ≡ Second
        second f size = rw (f) (rw (size) refl)

        third : message.first_part ≡ false → length message.uid.items ≡ 4 → stage_of message ≡ Third
        third f size = rw (f) (rw (size) refl)

        size_at : (known : ℕ) → message.uid.items ≡ take 6 (drop known uid) → known ≡ 6 → length message.uid.items ≡ 6
        size_at known items six = let a = ap length items in let b = length-take 6 (drop known uid) in let c = length-drop known uid in omega (arith, a, b, c, six, whole)

        last_at : (known : ℕ) → message.uid.items ≡ take 6 (drop known uid) → known ≡ 12 → length message.uid.items ≡ 4
        last_at known items twelve = let a = ap length items in let b = length-take 6 (drop known uid) in let c = length-drop known uid in omega (arith, a, b, c, twelve, whole)

        by : TellsPart uid message → (more : List ℕ) × (uid ≡ (bytes_so_far accepted ++ message.uid.items) ++ more)
        by (inl (f, items)) = joined 0 (expected_behind First (first f) e) items
        by (inr (known, inl six, f, items)) = joined known (expected_behind Second (second f (size_at known items six)) e ∙ sym six) items
        by (inr (known, inr twelve, f, items)) = joined known (expected_behind Third (third f (last_at known items twelve)) e ∙ sym twelve) items

    module _ (moment : ℕ) where
      abbrev one_more : List Accepted
      one_more = with_request accepted message moment

      left : (follows : Bool) → is_expected accepted message ≡ true → TellBeginning uid (left_over (with_request accepted message moment) follows)
      left follows e = either (TellBeginning uid) (is_whole (with_request accepted message moment)) [] (if follows then with_request accepted message moment else [])
          (λ f. none_begin uid)
          (λ f. either (TellBeginning uid) follows (with_request accepted message moment) [] (λ g. grows e) (λ g. none_begin uid))

      behind : (follows : Bool) → TellBeginning uid (after_message accepted message moment follows)
      behind follows = either (TellBeginning uid) (has_length message && is_expected accepted message) (left_over (with_request accepted message moment) follows) accepted
          (λ e. left follows (and_right (has_length message) (is_expected accepted message) e)) (λ e. begins)

      -- what is whole is the unique ID
      module _ (other : List ℕ) (preferred : ℕ) where
        abbrev IsIt : Heard → Type 0
        IsIt heard = heard ≡ Whole other preferred → other ≡ uid

        one_whole : (x : List ℕ) (y : ℕ) → Whole x y ≡ Whole other preferred → other ≡ x
        one_whole x y e = cc (e)

        all_of_it : is_expected accepted message ≡ true → is_whole (with_request accepted message moment) ≡ true → bytes_so_far (with_request accepted message moment) ≡ uid
        all_of_it e w =
            let g = grows e in
            let size = eq_true (length (bytes_so_far accepted ++ message.uid.items)) 16 w in
            let both = length-append (bytes_so_far accepted ++ message.uid.items) g.0 in
            let all = ap length g.1 in
            sym (g.1 ∙ (ap (λ (l : List ℕ). (bytes_so_far accepted ++ message.uid.items) ++ l) (no_more g.0 (omega (arith, size, both, all, whole)))
            ∙ at_end (bytes_so_far accepted ++ message.uid.items)))

        responds : (follows : Bool) → is_expected accepted message ≡ true → IsIt (response (with_request accepted message moment) message.node follows)
        responds follows e = either IsIt (is_whole (with_request accepted message moment)) _ _
            (λ w same. one_whole (bytes_so_far (with_request accepted message moment)) message.node same ∙ all_of_it e w)
            (λ w. either IsIt follows _ _ (λ f same. absurd (cc (same))) (λ f same. absurd (cc (same))))

        answers : (follows : Bool) → IsIt (answer_to accepted message moment follows)
        answers follows = either IsIt (not (has_length message)) _ _ (λ e same. absurd (cc (same)))
            (λ e. either IsIt (not (is_expected accepted message)) _ _ (λ f same. absurd (cc (same)))
            (λ f. responds follows (not_false (is_expected accepted message) f)))

  -- ---- at a moment

  module _ (accepted : List Accepted) (begins : TellBeginning uid accepted) (moment : ℕ) (follows : Bool) where
    recent : TellBeginning uid (recent_requests accepted moment)
    recent = either (TellBeginning uid) _ [] accepted (λ e. none_begin uid) (λ e. begins)

    -- those behind the request tell a beginning
    pub begin_behind : TellBeginning uid (after accepted message moment follows)
    unfolding after
    begin_behind = behind (recent_requests accepted moment) recent moment follows

    -- what it makes whole is the unique ID
    pub whole_is : (other : List ℕ) (preferred : ℕ) → answer accepted message moment follows ≡ Whole other preferred → other ≡ uid
    unfolding answer
    whole_is other preferred = answers (recent_requests accepted moment) recent moment other preferred follows
