-- Device calls of which none failed counted no fault.
use Rattle.std.proofs.Common.{◌≡◌, ◌∙◌, inl, inr, ℕ, Bool, true, List, [], ◌∷◌, ap}
use Rattle.disk_model.specs.Device.{DeviceCall, Makes}

module _ {D : Type 0} (does : D → DeviceCall → Bool → D → Type 0) (faults : D → ℕ) (counts : (old new : D) (call : DeviceCall) → does old call true new → faults new ≡ faults old) where
  pub uncounted : (calls : List DeviceCall) (old new : D) → Makes does calls true old new → faults new ≡ faults old
  uncounted [] old new none = ap faults none.1
  uncounted (call ∷ calls) old new (inl failed) = absurd (cc (failed.0))
  uncounted (call ∷ calls) old new (inr first) = uncounted calls first.0 new first.2 ∙ counts old first.0 call first.1
