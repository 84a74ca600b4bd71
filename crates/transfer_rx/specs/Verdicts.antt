-- What a verdict says.
use Rattle.std.specs.Prelude.{⊤, ℕ, List}
use Rattle.transfer_rx.specs.declared.verdict.Verdict.{Verdict}
use Rattle.transfer_rx.specs.declared.verdict.Verdict.TheVariants.{Whole, Open, Spoiled}
use Rattle.transfer_rx.specs.Outcome.{Outcome, Delivers, Grows, Spoils}

-- what a verdict says of a transfer with this payload
abbrev pub says : List ℕ → Verdict → Outcome
says payload Whole = Delivers payload
says payload Open = Grows
says payload (Spoiled why) = Spoils why

-- what holds where a transfer is complete
abbrev pub IfWhole : Verdict → Type 0 → Type 0
IfWhole Whole p = p
IfWhole Open p = ⊤
IfWhole (Spoiled why) p = ⊤

-- what holds where a transfer goes on
abbrev pub IfPart : Verdict → Type 0 → Type 0
IfPart Whole p = ⊤
IfPart Open p = p
IfPart (Spoiled why) p = ⊤
