-- How long another member was not heard, and which of its answers count. Transfer IDs have 5 bits, and a call that is
-- not answered is given up after 1,000 ms: so 32 s behind such a call another one has its transfer ID. An answer that
-- an interface, an adapter or a gateway held for so long would be taken for the answer to that one. It comes with the
-- first frames behind a silence.
use Rattle.std.specs.Prelude.{ℕ, ◌+◌, ◌≤◌, ◌<◌, nat_le, Bool, true, List, [], ◌∷◌, Option, Some, None, ⊤, if◌then◌else◌}
use Rattle.told_link.specs.declared.silence.Heard.{Heard}

-- a silence is at least so long, in milliseconds: a third of the time in which transfer IDs come round
abbrev pub shortest_silence : ℕ
shortest_silence = 10000

-- for so long behind a silence, in milliseconds, no answer counts. A queue of an interface is empty long before, and
-- the next call goes out after 1,000 ms
abbrev pub settling : ℕ
settling = 500

-- a frame of a member comes at this reading: the member was silent before, or was never heard
abbrev pub ends_silence : ℕ → Option Heard → Bool
ends_silence now None = true
ends_silence now (Some heard) = nat_le (heard.last + shortest_silence) now

-- what is known of the member then
abbrev pub heard_at : ℕ → Option Heard → Heard
heard_at now None = record { last = now; back = now }
heard_at now (Some heard) = record { last = now; back = if ends_silence now (Some heard) then now else heard.back }

-- whether its answers count then
abbrev pub answers_count : ℕ → Heard → Bool
answers_count now heard = nat_le (heard.back + settling) now

-- ---- the same by the readings at all frames of the member, the newest first

abbrev pub known_by : List ℕ → Option Heard
known_by [] = None
known_by (now ∷ before) = Some (heard_at now (known_by before))

-- an answer that comes behind these frames counts
abbrev pub answer_counts : ℕ → List ℕ → Bool
answer_counts now before = answers_count now (heard_at now (known_by before))

-- a frame comes behind a silence
abbrev pub ComesBehindSilence : ℕ → List ℕ → Type 0
ComesBehindSilence now [] = ⊤
ComesBehindSilence now (last ∷ before) = last + shortest_silence ≤ now

-- at this reading, and at each of these frames, which come behind one at the first reading, the member was heard lately
abbrev pub IsHeardOn : ℕ → List ℕ → ℕ → Type 0
IsHeardOn first [] now = now < first + shortest_silence
IsHeardOn first (last ∷ before) now = (now < last + shortest_silence) × IsHeardOn first before last

-- none of these readings is before that one
abbrev pub ComeSince : ℕ → List ℕ → Type 0
ComeSince first [] = ⊤
ComeSince first (now ∷ before) = (first ≤ now) × ComeSince first before
