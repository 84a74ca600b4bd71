-- What waits in a server waits in the allocator that it stands for.
use Rattle.std.proofs.Common.{◌≡◌, List, Option, None, Some, sym, ap, subst, ◌∙◌}
use Rattle.std.proofs.lemmas.Bool.{false≢true}
use Rattle.std.proofs.lemmas.Option.{none-some}
use Rattle.std.specs.Prelude.{IsNone, MatchOption, option_map, ⊤}
use Rattle.disk_model.specs.declared.disk.Disk.{Ghosts}
use Rattle.alloc_server.specs.declared.server.Server.{Server}
use Rattle.alloc_server.specs.Server.{StandsFor, queued}
use Rattle.alloc_spec.specs.AllocatorState.{AllocatorState}
use Rattle.alloc_spec.specs.Outbox.{Waiting}
use Rattle.transfer_tx.specs.Queue.{Queued, next_out}

pub waits : {D F : Type 0} {disk : Ghosts D} (server : Server D F disk) (t : AllocatorState) → StandsFor server t →
    queued server ≡ t.queue
waits server t stands = ap (λ (w : Waiting). w.queue) stands.member.outbox

pub at_server : {A : Type 0} (o : Option A) (server : A) (P : A → Type 0) → o ≡ Some server → MatchOption o ⊥ P →
    P server
at_server {A} o server P is so = subst (λ (found : Option A). MatchOption found ⊥ P) is so

pub if_server : {A : Type 0} (o : Option A) (server : A) (P : A → Type 0) → o ≡ Some server → P server →
    MatchOption o ⊤ P
if_server {A} o server P is so = subst (λ (found : Option A). MatchOption found ⊤ P) (sym is) so

-- nothing goes next where nothing was taken
pub none_goes : {A : Type 0} (taken : Option A) (f : A → Queued) (list queue : List Queued) (frame : Queued) →
    IsNone taken → option_map f taken ≡ next_out list → list ≡ queue → next_out queue ≡ Some frame → ⊥
none_goes None f list queue frame none taken same next = none-some frame (taken ∙ ap next_out same ∙ next)
none_goes (Some x) f list queue frame none taken same next = false≢true (sym none)
