-- The request that makes a unique ID whole leaves none accepted.
use Rattle.std.proofs.Common.{◌≡◌, ℕ, Bool, true, false, List, [], refl, sym, ◌∙◌, ap}
use Rattle.std.specs.Prelude.{◌&&◌, not, if◌then◌else◌}
use Rattle.alloc_exchange.specs.declared.heard.Heard.{Heard}
use Rattle.alloc_exchange.specs.declared.heard.Heard.TheVariants.{Denied, FollowUp, Ignored, Whole}
use Rattle.alloc_exchange.specs.declared.heard.Ignore.TheVariants as Ignore
use Rattle.alloc_exchange.specs.Exchange.{Accepted, after, answer, bytes_so_far, has_length, is_expected, is_whole, left_over, recent_requests, response, with_request}
use Rattle.dsdl_codec.specs.declared.allocation.Allocation.{Allocation}

module _ (message : Allocation) (moment : ℕ) (follows : Bool) (uid : List ℕ) (preferred : ℕ) where
  abbrev Leaves : List Accepted → Heard → List Accepted → Type 0
  Leaves accepted heard left = heard ≡ Whole uid preferred → left ≡ []

  by_whole : (accepted : List Accepted) (whole : Bool) → is_whole accepted ≡ whole → Leaves accepted (response accepted message.node follows) (left_over accepted follows)
  by_whole accepted true e h = ap (λ (b : Bool). if b then [] else (if follows then accepted else [])) e
  by_whole accepted false e h = absurd (none follows (sym (ap (λ (b : Bool). if b then Whole (bytes_so_far accepted) message.node
      else (if follows then FollowUp (record { items = bytes_so_far accepted }) else Denied)) e) ∙ h))
    where
      none : (b : Bool) → (if b then FollowUp (record { items = bytes_so_far accepted }) else Denied) ≡ Whole uid preferred → ⊥
      none true f = cc (f)
      none false f = cc (f)

  by_message : (accepted : List Accepted) (long expected : Bool)
      → (if not long then Ignored Ignore.Length else (if not expected then Ignored Ignore.Stage else response (with_request accepted message moment) message.node follows))
      ≡ Whole uid preferred → (if long && expected then left_over (with_request accepted message moment) follows else accepted) ≡ []
  by_message accepted false expected h = cc (h)
  by_message accepted true false h = cc (h)
  by_message accepted true true h = by_whole (with_request accepted message moment) (is_whole (with_request accepted message moment)) refl h

  -- none is left
  pub whole_leaves_none : (accepted : List Accepted) → answer accepted message moment follows ≡ Whole uid preferred → after accepted message moment follows ≡ []
  unfolding answer after
  whole_leaves_none accepted h = by_message (recent_requests accepted moment) (has_length message) (is_expected (recent_requests accepted moment) message) h
