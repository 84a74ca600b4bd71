use Rattle.std.proofs.Common.{◌≡◌, ℕ, ◌+◌, ◌++◌, ◌∷◌, [], ◌∙◌, List, length, ap, sym, subst}
use Rattle.std.specs.Prelude.{Option, Some, None, map, option_map}
use Rattle.std.proofs.lemmas.List.{length-map, map-append}
use Rattle.can_frame.specs.declared.frame.Frame.{Frame}
use Rattle.transfer_tx.specs.declared.marked.Marked.{Marked}
use Rattle.transfer_tx.specs.Queue.{Queued}
use Rattle.transfer_tx.specs.Views.{queued_of}
use Rattle.bus_spec.specs.Cluster.{in_list}
use Rattle.bus_spec.specs.Members.{after_sending, next_frame}
use Rattle.bus_spec.specs.Lawful.{no_node, not_running, nothing_to_send}
use Rattle.bus_spec.specs.Report.{line_of_sending}
use Rattle.bus_world.specs.Stands.{StandsFor}
use Rattle.bus_rows.specs.ReportLine.ReportLine.{HasSent}
use Rattle.bus_world.specs.declared.member.Member.{Member}
use Rattle.bus_world.proofs.Finding.{alike_there, its_id, past_two, set_alike, set_few, set_holds, set_some, stands_there}
use Rattle.bus_world.proofs.members.Members.send.Goals as goal

pub returns-in_default-clause-refused : goal.returns-in_default-clause-refused
returns-in_default-clause-refused g c = λ w stands.
    let xs = c.args.self.now.members.items in let bus = c.args.self.now.frames.items in let n = c.args.n in let m = c.index_mut.result.now in
    let here = subst (λ (m : Member g.row.F.Denot). StandsFor m (w.member n)) (sym c.index_mut.ensures.value)
    (stands_there xs bus w stands.holds n c.in-Ok.place c.in-Ok.ensures.place m) in
    let next : next_frame (w.member n).status ≡ None = sym (c.pop.ensures.next (w.member n) here) ∙ ap (λ (o : Option Marked). option_map queued_of o) c.in_default.is in
    past_two (no_node w n) (not_running w n) (nothing_to_send (next_frame (w.member n).status)) (c.in-Ok.ensures.lawful w stands) ∙ ap nothing_to_send next

pub returns-clause-told : goal.returns-clause-told
returns-clause-told g c = λ w stands.
    let xs = c.args.self.now.members.items in let bus = c.args.self.now.frames.items in let n = c.args.n in let m = c.index_mut.result.now in
    let here = subst (λ (m : Member g.row.F.Denot). StandsFor m (w.member n)) (sym c.index_mut.ensures.value)
    (stands_there xs bus w stands.holds n c.in-Ok.place c.in-Ok.ensures.place m) in
    let next : next_frame (w.member n).status ≡ Some (queued_of c.in-Some.next) = sym (c.pop.ensures.next (w.member n) here) ∙ ap (λ (o : Option Marked). option_map queued_of o) c.in-Some.is in
    let number : c.put_on-k.result ≡ length w.frames + 1 = c.put_on-k.ensures.number
    ∙ ap (λ (k : ℕ). k + 1) (sym (length-map bus queued_of) ∙ ap (λ (l : List Queued). length l) stands.holds.frames) in (
      past_two (no_node w n) (not_running w n) (nothing_to_send (next_frame (w.member n).status)) (c.in-Ok.ensures.lawful w stands) ∙ ap nothing_to_send next,
      ap (λ (f : Frame). HasSent n c.put_on-k.result f.id f.bytes.items) c.copy-frame.ensures
          ∙ (ap (λ (k : ℕ). HasSent n k c.in-Some.next.frame.id c.in-Some.next.frame.bytes.items) number
          ∙ ap (λ (o : Option Queued). line_of_sending n (length w.frames + 1) o) (sym next)),
    )

pub returns-clause-leaves : goal.returns-clause-leaves
returns-clause-leaves g c = λ w stands.
    let xs = c.args.self.now.members.items in let bus = c.args.self.now.frames.items in let n = c.args.n in let m = c.index_mut.result.now in
    let here = subst (λ (m : Member g.row.F.Denot). StandsFor m (w.member n)) (sym c.index_mut.ensures.value)
    (stands_there xs bus w stands.holds n c.in-Ok.place c.in-Ok.ensures.place m) in
    let id = ap (λ (m : Member g.row.F.Denot). m.id) c.index_mut.ensures.value ∙ its_id xs bus w stands.holds n c.in-Ok.place c.in-Ok.ensures.place m in
    let next : next_frame (w.member n).status ≡ Some (queued_of c.in-Some.next) = sym (c.pop.ensures.next (w.member n) here) ∙ ap (λ (o : Option Marked). option_map queued_of o) c.in-Some.is in
    let set = set_holds xs bus w stands.holds n c.in-Ok.place c.in-Ok.ensures.place c.pop.new.self
    (record (w.member n) { status = after_sending (w.member n).status }) (c.pop.ensures.id ∙ id) (c.pop.ensures.stands (w.member n) here) in
    record {
      ids = set.ids;
      frames = ap (λ (l : List Marked). map queued_of l) c.put_on-k.ensures.frames
          ∙ (map-append queued_of bus (c.in-Some.next ∷ [])
          ∙ (ap (λ (l : List Queued). l ++ queued_of c.in-Some.next ∷ []) stands.holds.frames
          ∙ ap (λ (o : Option Queued). w.frames ++ in_list o) (sym next)));
      members = set.members;
      lawful = set.lawful;
    }

pub invariant_of-self-2-clause-alike : goal.invariant_of-self-2-clause-alike
invariant_of-self-2-clause-alike g c =
    let xs = c.args.self.now.members.items in let accept = c.args.self.now.accept in
    let own = alike_there xs c.args.n c.in-Ok.place c.index_mut.result.now accept c.args.self.now.alike c.in-Ok.ensures.place c.index_mut.ensures.value in
    set_alike xs c.in-Ok.place c.pop.new.self accept c.args.self.now.alike (c.pop.ensures.accepts ∙ own)

pub invariant_of-self-2-clause-five : goal.invariant_of-self-2-clause-five
invariant_of-self-2-clause-five g c = set_few c.args.self.now.members.items c.in-Ok.place c.pop.new.self c.args.self.now.five

pub invariant_of-self-2-clause-some : goal.invariant_of-self-2-clause-some
invariant_of-self-2-clause-some g c = set_some c.args.self.now.members.items c.in-Ok.place c.pop.new.self c.args.self.now.some
