-- A line is read in one way.
use Rattle.std.proofs.Common.{◌≡◌, ℕ, List, Option, Some, None, ap}
use Rattle.std.specs.Prelude.{IfSome}
use Rattle.arrayvec.specs.ArrayVec.{ArrayVec}
use Rattle.can_frame.specs.declared.frame.Frame.{Frame}
use Rattle.can_logs.specs.declared.candump.LogLine.{LogLine}
use Rattle.can_logs.specs.declared.candump.LogLine.TheVariants.{Data, Skipped}
use Rattle.can_logs.specs.Candump.{BeginsWithFront, Reads, ReadsData, SpellsAny, SpellsData}

-- the line begins with this front alone
abbrev pub FrontIs : List ℕ → ℕ → ℕ → List ℕ → List ℕ → Type 0
FrontIs line sec micros name rest =
    (s m : ℕ) (n r : List ℕ) → BeginsWithFront s m n line r → (sec ≡ s) × (micros ≡ m) × (name ≡ n) × (rest ≡ r)

-- the rest has this frame alone, or none
abbrev pub DataIs : List ℕ → Option Frame → Type 0
DataIs rest result = (f : Frame) → SpellsData f rest → result ≡ Some f

pub front_of : (read : LogLine) (line : List ℕ) → Reads read line
    → (sec : ℕ) × (micros : ℕ) × (name : List ℕ) × (rest : List ℕ) × BeginsWithFront sec micros name line rest
front_of (Data sec micros iface frame) line reads = (sec, micros, iface.items, reads.rest, reads.front)
front_of Skipped line reads = (reads.sec, reads.micros, reads.name, reads.rest, reads.front)

one_data : (a s b m : ℕ) (i j : ArrayVec ℕ) (f g : Frame) → a ≡ s → b ≡ m → i.items ≡ j.items → f ≡ g → Data a b i f ≡ Data s m j g
one_data a s b m i j f g e h same frame =
    let listed : List ℕ → ArrayVec ℕ = λ zs. record { items = zs } in
    let names : i ≡ j = ap listed same in
    cc

pub only_data : (line rest : List ℕ) (sec micros : ℕ) (iface : ArrayVec ℕ) (frame : Frame)
    → BeginsWithFront sec micros iface.items line rest → SpellsData frame rest
    → FrontIs line sec micros iface.items rest → DataIs rest (Some frame)
    → (read : LogLine) → Reads read line → Some (Data sec micros iface frame) ≡ Some read
only_data line rest sec micros iface frame front spells front_is data_is (Data s m i f) reads =
    let e = front_is s m i.items reads.rest reads.front in
    let same : frame ≡ f = cc (data_is f (rw e.3 reads.spells)) in
    ap Some (one_data sec s micros m iface i frame f e.0 e.1 e.2 same)
only_data line rest sec micros iface frame front spells front_is data_is Skipped reads =
    absurd (reads.no_data sec micros iface.items frame (record { rest = rest; front = front; spells = spells }))

pub no_frame : (line rest : List ℕ) (sec micros : ℕ) (name : List ℕ) → FrontIs line sec micros name rest → DataIs rest None
    → (s m : ℕ) (n : List ℕ) (f : Frame) → ReadsData s m n f line → ⊥
no_frame line rest sec micros name front_is data_is s m n f reads =
    let e = front_is s m n reads.rest reads.front in
    let same : None ≡ Some f = data_is f (rw e.3 reads.spells) in
    absurd (cc)

pub skipped_found : (result : Option LogLine) (line rest : List ℕ) (sec micros : ℕ) (name : List ℕ)
    → BeginsWithFront sec micros name line rest → FrontIs line sec micros name rest → DataIs rest None
    → IfSome result (λ read. (read ≡ Skipped) × SpellsAny rest) → IfSome result (λ read. Reads read line)
skipped_found None line rest sec micros name front front_is data_is found = tt
skipped_found (Some read) line rest sec micros name front front_is data_is found =
    rw found.0
    (record {
      sec = sec;
      micros = micros;
      name = name;
      rest = rest;
      front = front;
      spells = found.1;
      no_data = no_frame line rest sec micros name front_is data_is;
    })

pub skipped_only : (result : Option LogLine) (line rest : List ℕ) (sec micros : ℕ) (name : List ℕ)
    → FrontIs line sec micros name rest → DataIs rest None → (SpellsAny rest → result ≡ Some Skipped)
    → (read : LogLine) → Reads read line → result ≡ Some read
skipped_only result line rest sec micros name front_is data_is skips (Data s m i f) reads =
    absurd (no_frame line rest sec micros name front_is data_is s m i.items f reads)
skipped_only result line rest sec micros name front_is data_is skips Skipped reads =
    let e = front_is reads.sec reads.micros reads.name reads.rest reads.front in
    skips (rw e.3 reads.spells)
