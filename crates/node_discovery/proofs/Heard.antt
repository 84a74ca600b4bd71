-- Who was heard, and that the list of them has room for who was not.
use Rattle.std.proofs.Common.{◌≡◌, ℕ, ◌<◌, Bool, true, false, cond, if◌then◌else◌, nat_eq, is_none, is_some, ◌&&◌, List, [], ◌∷◌, ◌++◌, length, get_or, set, Contains, Option, Some, None, refl, sym, ap, subst, arith}
use Rattle.std.proofs.lemmas.Bool.{eqb-true}
use Rattle.std.proofs.lemmas.List.{length-set}
use Rattle.std.proofs.lemmas.List.Elements.{Contains-append_left, Contains-append_right}
use Rattle.std.proofs.lemmas.List.Sums.{count_by-le-length, sum_by-set}
use Rattle.node_discovery.specs.declared.node.Node.{Node}
use Rattle.node_discovery.specs.Heard.{heard, heard_count, is_first_status, is_status, was_heard}
use Rattle.node_discovery.specs.History.{Event, Status, Asked, Taken, is_online, is_within, last_status}
use Rattle.node_discovery.specs.Watch.{Watched, history}

-- where a node was not heard, fewer were than there are
pub room : (nodes : List Node) (node : ℕ) (d : Node) → node < length nodes → was_heard (get_or nodes node d) ≡ false
    → heard_count nodes < length nodes
room nodes node d below unheard =
    let new : Node = record { heard = Some 0; uid = None; pending = None; asked = None; queries = 0; queries_since_answer = 0 } in
    let counts = sum_by-set (λ n. cond (was_heard n) 1 0) nodes node new d below in
    let none = ap {B = ℕ} (λ (b : Bool). cond b 1 0) unheard in
    let most = count_by-le-length was_heard (set nodes node new) in
    let size = length-set nodes node new in
    omega (arith, counts, none, most, size)

-- who is on the list stays there
stays : (first : Bool) (xs : List ℕ) (more node : ℕ) → Contains xs node → Contains (if first then xs ++ more ∷ [] else xs) node
stays true xs more node on = Contains-append_left xs (more ∷ []) node on
stays false xs more node on = on

-- a status puts its node on the list, where it is not there
joins : (told : Option ℕ) (xs : List ℕ) (node : ℕ) → (is_some told ≡ true → Contains xs node)
    → Contains (if is_none told then xs ++ node ∷ [] else xs) node
joins None xs node before = Contains-append_right xs (node ∷ []) node (0, omega arith, refl)
joins (Some moment) xs node before = before refl

-- an event of the node itself
own : (event : Event) (events : List Watched) (node : ℕ) → (is_some (last_status (history node events)) ≡ true → Contains (heard events) node)
    → is_some (last_status (event ∷ history node events)) ≡ true
    → Contains (if is_status event && is_none (last_status (history node events)) then heard events ++ node ∷ [] else heard events) node
own (Status moment) events node before some = joins (last_status (history node events)) (heard events) node before
own (Asked transfer_id moment) events node before some = before some
own (Taken uid moment) events node before some = before some

-- an event of the node or of another one
either : (same : Bool) (watched : Watched) (events : List Watched) (node : ℕ) → nat_eq watched.node node ≡ same
    → (is_some (last_status (history node events)) ≡ true → Contains (heard events) node)
    → is_some (last_status (if same then watched.event ∷ history node events else history node events)) ≡ true
    → Contains (heard (watched ∷ events)) node
either false watched events node e before some =
    stays (is_first_status events watched) (heard events) watched.node node (before some)
either true watched events node e before some =
    let same : node ≡ watched.node = sym (eqb-true watched.node node e) in
    subst (λ n. Contains (if is_status watched.event && is_none (last_status (history n events)) then heard events ++ n ∷ [] else heard events) node) same
    (own watched.event events node before some)

on_list : (events : List Watched) (node : ℕ) → is_some (last_status (history node events)) ≡ true → Contains (heard events) node
on_list [] node some = cc
on_list (watched ∷ events) node some = either (nat_eq watched.node node) watched events node refl (on_list events node) some

within_some : (limit now : ℕ) (told : Option ℕ) → is_within limit now told ≡ true → is_some told ≡ true
within_some limit now None e = cc
within_some limit now (Some moment) e = refl

-- who is online is on the list
pub online_on_list : (events : List Watched) (node now : ℕ) → is_online (history node events) now ≡ true → Contains (heard events) node
online_on_list events node now e = on_list events node (within_some 3000 now (last_status (history node events)) e)
