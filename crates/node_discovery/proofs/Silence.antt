-- Who is silent.
use Rattle.std.proofs.Common.{◌≡◌, ℕ, ◌≤◌, Bool, true, false, if◌then◌else◌, nat_le, List, [], ◌∷◌, Option, Some, None, ◌&&◌, refl, sym, ap, ◌∙◌, arith}
use Rattle.std.proofs.lemmas.Bool.{and_parts, le-leb, leb-true}
use Rattle.std.specs.Prelude.{is_none}
use Rattle.node_discovery.specs.declared.counting.Counting.{Counting}
use Rattle.node_discovery.specs.declared.counting.Counting.TheVariants.{OfSpell, SinceAnswer}
use Rattle.node_discovery.specs.History.{Event, Status, Asked, Taken, IsSilent, age, counted, has_passed, is_nameless, is_online, is_silent, last_query, last_taken, may_be_asked, query_count, since_answer, spell, unique_id}

-- where a query counts, the last one that does is the last of all
last-goes_on : (goes_on : Bool) (events : List Event) → (1 ≤ query_count (spell events) → last_query (spell events) ≡ last_query events)
    → 1 ≤ query_count (if goes_on then spell events else []) → last_query (if goes_on then spell events else []) ≡ last_query events
last-goes_on true events before some = before some
last-goes_on false events before some = absurd (omega (arith, some))

last-spell : (events : List Event) → 1 ≤ query_count (spell events) → last_query (spell events) ≡ last_query events
last-spell [] some = absurd (omega (arith, some))
last-spell (Status moment ∷ events) some = last-goes_on (is_online events moment) events (last-spell events) some
last-spell (Asked transfer_id moment ∷ events) some = refl
last-spell (Taken uid moment ∷ events) some = last-spell events some

last-since_answer : (events : List Event) → 1 ≤ query_count (since_answer events) → last_query (since_answer events) ≡ last_query events
last-since_answer [] some = absurd (omega (arith, some))
last-since_answer (Status moment ∷ events) some = last-since_answer events some
last-since_answer (Asked transfer_id moment ∷ events) some = refl
last-since_answer (Taken uid moment ∷ events) some = absurd (omega (arith, some))

last-counted : (counting : Counting) (events : List Event) → 1 ≤ query_count (counted counting events)
    → last_query (counted counting events) ≡ last_query events
last-counted OfSpell = last-spell
last-counted SinceAnswer = last-since_answer

-- after five queries that count, a nameless node is silent where it may be asked again
pub silent_where : (counting : Counting) (events : List Event) (now : ℕ) → is_nameless events now ≡ true → 5 ≤ query_count (counted counting events)
    → is_silent counting events now ≡ may_be_asked events now
silent_where counting events now nameless asked =
    let five : nat_le 5 (query_count (counted counting events)) ≡ true = le-leb 5 (query_count (counted counting events)) asked in
    rw (nameless, five) (ap (has_passed 1000 now) (last-counted counting events (omega (arith, asked))))

-- a query that was counted was asked at a moment
asked_at : (events : List Event) → 1 ≤ query_count events → (moment : ℕ) × (last_query events ≡ Some moment)
asked_at [] some = absurd (omega (arith, some))
asked_at (Status moment ∷ events) some = asked_at events some
asked_at (Asked transfer_id moment ∷ events) some = (moment, refl)
asked_at (Taken uid moment ∷ events) some = asked_at events some

untold_by : (told : Option (List ℕ)) → is_none told ≡ true → told ≡ None
untold_by None e = refl
untold_by (Some uid) e = cc

pub silent_is : (counting : Counting) (events : List Event) (now : ℕ) → is_silent counting events now ≡ true → IsSilent counting events now
silent_is counting events now e =
    let queries = counted counting events in
    let parts = and_parts (is_nameless events now) (nat_le 5 (query_count queries) && has_passed 1000 now (last_query queries)) e in
    let nameless = and_parts (is_online events now) (is_none (unique_id events)) parts.0 in
    let waits = and_parts (nat_le 5 (query_count queries)) (has_passed 1000 now (last_query queries)) parts.1 in
    let five : 5 ≤ query_count queries = leb-true 5 (query_count queries) waits.0 in
    let last = asked_at queries (omega (arith, five)) in
    let passed : has_passed 1000 now (Some last.0) ≡ true = ap (has_passed 1000 now) (sym last.1) ∙ waits.1 in
    record {
      online = nameless.0;
      untold = untold_by (unique_id events) nameless.1;
      asked = five;
      moment = last.0;
      last = last.1;
      waited = leb-true 1000 (age last.0 now) passed;
    }

-- where no answer was taken in the spell, its queries are some of those since the last answer
fewer-goes_on : (goes_on : Bool) (events : List Event) → (last_taken (spell events) ≡ None → query_count (spell events) ≤ query_count (since_answer events))
    → last_taken (if goes_on then spell events else []) ≡ None → query_count (if goes_on then spell events else []) ≤ query_count (since_answer events)
fewer-goes_on true events before untold = before untold
fewer-goes_on false events before untold = omega arith

fewer : (events : List Event) → last_taken (spell events) ≡ None → query_count (spell events) ≤ query_count (since_answer events)
fewer [] untold = omega arith
fewer (Status moment ∷ events) untold = fewer-goes_on (is_online events moment) events (fewer events) untold
fewer (Asked transfer_id moment ∷ events) untold = let before = fewer events untold in omega (arith, before)
fewer (Taken uid moment ∷ events) untold = cc

-- who is silent by the queries of its spell is silent by those since its last answer
pub also_since_answer : (events : List Event) (now : ℕ) → is_silent OfSpell events now ≡ true → is_silent SinceAnswer events now ≡ true
also_since_answer events now e =
    let silent = silent_is OfSpell events now e in
    let nameless : is_nameless events now ≡ true = rw (silent.online, silent.untold) refl in
    let less = fewer events silent.untold in
    let asked : 5 ≤ query_count (since_answer events) = omega (arith, silent.asked, less) in
    silent_where SinceAnswer events now nameless asked ∙ sym (silent_where OfSpell events now nameless silent.asked) ∙ e
