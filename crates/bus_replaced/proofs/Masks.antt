-- The bus without the votes from before a replacement: a frame without a source stands in place of each.
use Rattle.std.proofs.Common.{◌≡◌, ℕ, zero, suc, ◌<◌, ◌≤◌, Bool, true, false, List, [], ◌∷◌, ◌++◌, length, refl, sym, ap, subst, ◌∙◌, arith, inl, inr, ◌⊎◌}
use Rattle.std.specs.Prelude.{if◌then◌else◌, slice_index_or}
use Rattle.raft_model.specs.Lists.{In}
use Rattle.transfer_tx.specs.Queue.{Queued}
use Rattle.bus_spec.specs.Cluster.{no_frame}
use Rattle.bus_agreement.proofs.Lists.{tell}
use Rattle.bus_replaced.specs.Traces.{is_vote_frame}

abbrev pub hidden : Queued → Queued
hidden frame = if is_vote_frame frame then no_frame else frame

-- the frames, with each vote among so many first ones hidden
abbrev pub masked : ℕ → List Queued → List Queued
masked zero frames = frames
masked (suc old) [] = []
masked (suc old) (frame ∷ frames) = hidden frame ∷ masked old frames

hidden_vote : (frame : Queued) → is_vote_frame frame ≡ true → hidden frame ≡ no_frame
hidden_vote frame e = ap (λ (b : Bool). if b then no_frame else frame) e

hidden_other : (frame : Queued) → is_vote_frame frame ≡ false → hidden frame ≡ frame
hidden_other frame e = ap (λ (b : Bool). if b then no_frame else frame) e

pub mask_length : (old : ℕ) (frames : List Queued) → length (masked old frames) ≡ length frames
mask_length zero frames = refl
mask_length (suc old) [] = refl
mask_length (suc old) (frame ∷ frames) = ap suc (mask_length old frames)

-- a place has its frame still, or it is one of the first, and a vote stood there
pub mask_at : (old i : ℕ) (frames : List Queued)
    → (slice_index_or (masked old frames) i no_frame ≡ slice_index_or frames i no_frame)
    ⊎ ((slice_index_or (masked old frames) i no_frame ≡ no_frame) × (is_vote_frame (slice_index_or frames i no_frame) ≡ true) × (i < old))
mask_at zero i frames = inl refl
mask_at (suc old) i [] = inl refl
mask_at (suc old) zero (frame ∷ frames) = elim (tell (is_vote_frame frame)) [
  | inl vote ↦ inr (hidden_vote frame vote, vote, omega arith)
  | inr other ↦ inl (hidden_other frame other)
]
mask_at (suc old) (suc i) (frame ∷ frames) = elim (mask_at old i frames) [
  | inl same ↦ inl same
  | inr vote ↦ inr (vote.0, vote.1, omega (arith, vote.2))
]

pub mask_more : (old : ℕ) (frames more : List Queued) → old ≤ length frames → masked old (frames ++ more) ≡ masked old frames ++ more
mask_more zero frames more h = refl
mask_more (suc old) [] more h = absurd (omega (arith, h))
mask_more (suc old) (frame ∷ frames) more h = ap (λ (l : List Queued). hidden frame ∷ l) (mask_more old frames more (omega (arith, h)))

-- what is no vote stands there still
pub mask_keeps : (old : ℕ) (frames : List Queued) (frame : Queued) → In frame frames → is_vote_frame frame ≡ false → In frame (masked old frames)
mask_keeps zero frames frame i other = i
mask_keeps (suc old) [] frame i other = i
mask_keeps (suc old) (first ∷ frames) frame (inl e) other =
    inl (e ∙ sym (hidden_other first (subst (λ (f : Queued). is_vote_frame f ≡ false) e other)))
mask_keeps (suc old) (first ∷ frames) frame (inr i) other = inr (mask_keeps old frames frame i other)

-- where all are masked, no vote is left
pub mask_all : (old : ℕ) (frames : List Queued) (frame : Queued) → length frames ≤ old → In frame (masked old frames)
    → (frame ≡ no_frame) ⊎ (In frame frames × (is_vote_frame frame ≡ false))
mask_all zero [] frame h i = absurd i
mask_all zero (first ∷ frames) frame h i = absurd (omega (arith, h))
mask_all (suc old) [] frame h i = absurd i
mask_all (suc old) (first ∷ frames) frame h (inl e) = elim (tell (is_vote_frame first)) [
  | inl vote ↦ inl (e ∙ hidden_vote first vote)
  | inr other ↦ let same : frame ≡ first = e ∙ hidden_other first other in
      inr (inl same, subst (λ (f : Queued). is_vote_frame f ≡ false) (sym same) other)
]
mask_all (suc old) (first ∷ frames) frame h (inr i) = elim (mask_all old frames frame (omega (arith, h)) i) [
  | inl none ↦ inl none
  | inr there ↦ inr (inr there.0, there.1)
]

-- so what was masked before is what is masked then, but for the votes
pub mask_again : (old all : ℕ) (frames : List Queued) (frame : Queued) → length frames ≤ all → In frame (masked old frames) → is_vote_frame frame ≡ false
    → In frame (masked all frames)
mask_again zero all frames frame h i other = mask_keeps all frames frame i other
mask_again (suc old) all [] frame h i other = absurd i
mask_again (suc old) zero (first ∷ frames) frame h i other = absurd (omega (arith, h))
mask_again (suc old) (suc all) (first ∷ frames) frame h (inl e) other = inl e
mask_again (suc old) (suc all) (first ∷ frames) frame h (inr i) other = inr (mask_again old all frames frame (omega (arith, h)) i other)
