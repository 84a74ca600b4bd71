-- A row for the members is one for the world.
use Rattle.std.proofs.Common.{◌≡◌, ◌∙◌, ◌++◌, ◌∷◌, [], ℕ, List, ap, subst, sym}
use Rattle.std.specs.Prelude.{IfErr, IfOk, OnOk, Ok, Err, Option, Result, Some, map}
use Rattle.std.proofs.lemmas.List.{map-append}
use Rattle.allocatee.specs.Allocatee.{Device}
use Rattle.bus_rows.specs.declared.row.Row.{Row}
use Rattle.bus_rows.specs.declared.told.Told.{Told}
use Rattle.transfer_tx.specs.declared.marked.Marked.{Marked}
use Rattle.transfer_tx.specs.Queue.{Queued}
use Rattle.transfer_tx.specs.Views.{queued_of}
use Rattle.bus_spec.specs.declared.unlawful.Unlawful.{Unlawful}
use Rattle.bus_spec.specs.Cluster.{Cluster, effect_of, in_list}
use Rattle.bus_world.specs.MemberRows as members
use Rattle.bus_world.specs.Members.{Holds}
use Rattle.bus_world.specs.Rows.{Refuses, Tells}
use Rattle.bus_world.specs.Seats.{AreSeatsOf}
use Rattle.bus_world.specs.World.{StandsFor}
use Rattle.bus_world.specs.declared.member.Member.{Member}
use Rattle.bus_world.specs.declared.members.Members.{Members}
use Rattle.bus_world.specs.declared.world.World.{World}

module _ {F G : Type 0} (world : World F G) where
  pub refuses_too : (row : Row) (result : Result Told Unlawful) → IfErr result (members.Refuses world.members row) → IfErr result (Refuses world row)
  refuses_too row (Ok told) is = is
  refuses_too row (Err why) is = λ c stands. is c stands.members

  pub tells_too : (row : Row) (result : Result Told Unlawful) → IfOk result (members.Tells world.members row) → IfOk result (Tells world row)
  tells_too row (Ok told) is = λ c stands. is c stands.members
  tells_too row (Err why) is = is

  -- it leaves the allocatees
  abbrev pub LeavesThem : Members F → Row → Type 0
  LeavesThem new row = (c : Cluster) → StandsFor world c
      → (Holds new.members.items new.frames.items (effect_of c row)) × AreSeatsOf world.seats.items (effect_of c row).allocatee

  pub leaves_too : (new : Members F) (row : Row) → ((c : Cluster) → (effect_of c row).allocatee ≡ c.allocatee)
      → (result : Result Told Unlawful) → OnOk result (members.Leaves world.members new row) → OnOk result (LeavesThem new row)
  leaves_too new row stay (Ok told) is = λ c stands.
      (is c stands.members, subst (λ (f : ℕ → Option Device). AreSeatsOf world.seats.items f) (sym (stay c)) stands.allocatees)
  leaves_too new row stay (Err why) is = is

module _ {F : Type 0} (own new : List (Member F)) (bus longer : List Marked) (c : Cluster) (holds : Holds own bus c) where
  pub same_holds : (allocatee : ℕ → Option Device) → Holds own bus (record c { allocatee = allocatee })
  same_holds allocatee = record { ids = holds.ids; frames = holds.frames; members = holds.members; lawful = holds.lawful }

  -- one frame comes to the bus
  pub one_more_holds : (frame : Marked) (allocatee : ℕ → Option Device) → new ≡ own → longer ≡ bus ++ frame ∷ [] → (o : Option Queued) → o ≡ Some (queued_of frame)
      → Holds new longer (record c { allocatee = allocatee; frames = c.frames ++ in_list o })
  one_more_holds frame allocatee same more o is =
      subst (λ (l : List (Member F)). Holds l longer (record c { allocatee = allocatee; frames = c.frames ++ in_list o })) (sym same) (record {
        ids = holds.ids;
        frames = ap (λ (l : List Marked). map queued_of l) more
            ∙ (map-append queued_of bus (frame ∷ [])
            ∙ (ap (λ (l : List Queued). l ++ queued_of frame ∷ []) holds.frames
            ∙ ap (λ (x : Option Queued). c.frames ++ in_list x) (sym is)));
        members = holds.members;
        lawful = holds.lawful;
      })
