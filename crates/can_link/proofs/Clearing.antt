-- Reading a socket ends what is on its way only by its echo.
use Rattle.std.specs.Prelude.{◌≡◌, [], ◌∷◌, ℕ, List, Option, Some, None, refl}
use Rattle.std.proofs.Common.{sym, ◌∙◌, subst, inl, inr}
use Rattle.outside.specs.Contents.{WhereTold}
use Rattle.outside.specs.Traffic.{next_item, items_behind}
use Rattle.outside.specs.declared.received.RawFrame.{RawFrame}
use Rattle.outside.specs.declared.received.Received.{Received}
use Rattle.outside.specs.declared.received.Received.TheVariants.{Frame, Junk, Nothing}
use Rattle.can_link.specs.Packet.{IsSameFrame}
use Rattle.can_link.specs.Socket.{Gives}
use Rattle.can_link.specs.Way.{Clears, EchoIsIn, Echoes, Gone, IsClear}
use Rattle.can_link.specs.declared.bus.Sent.{Sent}

-- an echo behind the first item is among all
behind : (sent : Sent) (items : List Received) → EchoIsIn sent (items_behind items) → EchoIsIn sent items
behind sent [] echo = echo
behind sent (Frame frame ∷ rest) echo = inr echo
behind sent (Junk ∷ rest) echo = echo
behind sent (Nothing ∷ rest) echo = echo

-- the first item is the echo
first : (sent : Sent) (frame : RawFrame) (items : List Received) → Frame frame ≡ next_item items →
    IsSameFrame frame sent.frame → EchoIsIn sent items
first sent frame [] given same = absurd (cc)
first sent frame (Frame other ∷ rest) given same =
    let P : RawFrame → Type 0 = λ f. IsSameFrame f sent.frame in
    inl (subst P (cc) same)
first sent frame (Junk ∷ rest) given same = absurd (cc)
first sent frame (Nothing ∷ rest) given same = absurd (cc)

-- nothing changes on the way, and what is left of the socket is what was left, or all but its first item
stays : (start before after : Option Sent) (all items left : List Received) → after ≡ before →
    ((sent : Sent) → EchoIsIn sent left → EchoIsIn sent items) →
    Clears start before all items → Clears start after all left
stays start before after all items left same within clears =
    let P : Option Sent → Type 0 = λ way. Clears start way all left in
    subst P (sym same) (record { left = λ sent echo. clears.left sent (within sent echo); way = clears.way })

-- what is left is that
left_is : (sent : Sent) (items left other : List Received) → left ≡ other →
    (EchoIsIn sent other → EchoIsIn sent items) → EchoIsIn sent left → EchoIsIn sent items
left_is sent items left other same within echo =
    let P : List Received → Type 0 = λ l. EchoIsIn sent l in within (subst P same echo)

-- a frame was read
heard : (start before after : Option Sent) (frame : RawFrame) (sender : Option ℕ) (all items left : List Received) →
    Frame frame ≡ next_item items → left ≡ items_behind items → Echoes frame before sender after →
    Clears start before all items → Clears start after all left
heard start None after frame sender all items left given rest echoes clears =
    stays start None after all items left echoes.1
    (λ sent. left_is sent items left (items_behind items) rest (behind sent items)) clears
heard start (Some sent) after frame sender all items left given rest (inr other) clears =
    stays start (Some sent) after all items left other.2
    (λ one. left_is one items left (items_behind items) rest (behind one items)) clears
heard start (Some sent) after frame sender all items left given rest (inl own) clears =
    record {
      left = λ one echo. clears.left one
          (left_is one items left (items_behind items) rest (behind one items) echo);
      way = elim clears.way [
        | inl same ↦ inr (own.2, (sent, sym same, clears.left sent (first sent frame items given own.0)))
        | inr ended ↦ absurd (cc)
      ];
    }

-- the socket was read once
read_once : (result : Option Received) (start before after : Option Sent) (all items left : List Received) →
    Gives result items left → Gone result before after →
    Clears start before all items → Clears start after all left
read_once None start before after all items left gives gone clears =
    stays start before after all items left gone
    (λ sent. left_is sent items left items gives (λ echo. echo)) clears
read_once (Some (Frame frame)) start before after all items left gives gone clears =
    heard start before after frame gone.0 all items left gives.0 gives.1 gone.1 clears
read_once (Some Junk) start before after all items left gives gone clears =
    stays start before after all items left gone
    (λ sent. left_is sent items left (items_behind items) gives.1 (behind sent items)) clears
read_once (Some Nothing) start before after all items left gives gone clears =
    stays start before after all items left gone
    (λ sent. left_is sent items left (items_behind items) gives.1 (behind sent items)) clears

-- the same of a socket that may tell nothing
pub read_where_told : (result : Option Received) (start before after : Option Sent)
    (all items left : Option (List Received)) → WhereTold (Gives result) items left → Gone result before after →
    WhereTold (Clears start before) all items → WhereTold (Clears start after) all left
read_where_told result start before after None None None gives gone clears = clears
read_where_told result start before after None None (Some left) gives gone clears = absurd gives
read_where_told result start before after None (Some items) left gives gone clears = absurd clears
read_where_told result start before after (Some all) None left gives gone clears = absurd clears
read_where_told result start before after (Some all) (Some items) None gives gone clears = absurd gives
read_where_told result start before after (Some all) (Some items) (Some left) gives gone clears =
    read_once result start before after all items left gives gone clears

-- before anything was read
pub clears_at_first : (way : Option Sent) (items : Option (List Received)) → WhereTold (Clears way way) items items
clears_at_first way None = tt
clears_at_first way (Some items) = record { left = λ sent echo. echo; way = inl refl }

-- where nothing is on its way any more
pub is_clear : (before after : Option Sent) (all left : Option (List Received)) → after ≡ None →
    WhereTold (Clears before after) all left → WhereTold (IsClear before) all left
is_clear before after None None none clears = tt
is_clear before after None (Some left) none clears = absurd clears
is_clear before after (Some all) None none clears = absurd clears
is_clear before after (Some all) (Some left) none clears =
    elim clears.way [ inl same ↦ inl (sym same ∙ none) | inr ended ↦ inr ended.1 ]
