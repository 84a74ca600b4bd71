use Rattle.std.proofs.Common.{rules, ◌≡◌, ℕ, ◌+◌, List, length, slice_index, refl, sym, ap, subst, ◌∙◌, arith}
use Rattle.kv_store.specs.TableViews.{table_map}
use Rattle.raft_log.specs.MayFollow.{MayFollow}
use Rattle.raft_log.specs.Rules.{IsEntryValue, entries_of, entry_of, last_of, number_of, origin_of, origins_of, version_of}
use Rattle.raft_log.proofs.Rules.{all_rules, first_more, first_none, one_more}
use Rattle.raft_log.proofs.States.{stores_read}
use Rattle.raft_log.proofs.state.State.read.Goals as goal

pub loop-place-init : goal.loop-place-init
loop-place-init c = record {
  entries = c.new-log.ensures ∙ sym (first_none entry_of (table_map c.args.table.now));
  origins = c.new-origins.ensures ∙ sym (first_none origin_of (table_map c.args.table.now));
  count = ap length c.new-log.ensures;
  count_origins = ap length c.new-origins.ensures;
  rules = search rules;
}

pub loop-place-preserved : goal.loop-place-preserved
loop-place-preserved c =
    let map = table_map c.args.table.now in
    let place = c.loop-place.place in
    let bytes : c.deref-in-loop-place-2.result.now ≡ map (5 + place) = c.deref-in-loop-place-2.ensures.0 ∙ c.get-value.ensures.value in
    let bytes_again : c.deref-in-loop-place-3.result.now ≡ map (5 + place) = c.deref-in-loop-place-3.ensures.0 ∙ c.get-value.ensures.value in
    let found = c.in-Some-read_next.ensures.found in
    let entry : c.in-Some-read_next.entry ≡ entry_of (map (5 + place)) = found.0 ∙ ap entry_of bytes in
    let origin : c.read_origin.result ≡ origin_of (map (5 + place)) = c.read_origin.ensures ∙ ap origin_of bytes_again in
    let log : c.deref-in-loop-place.result.now ≡ entries_of map place = c.deref-in-loop-place.ensures.0 ∙ c.loop-place.invariant.entries in
    let version : c.in-Some.version ≡ version_of map = sym c.in-Some.ensures.found.number ∙ ap (λ (value : List ℕ). slice_index value 0) (c.deref.ensures.0 ∙ c.get.ensures.value) in
    let term : c.in-Some-read_term.term ≡ number_of (map 1) = c.in-Some-read_term.ensures.found.0 ∙ ap number_of (c.deref-2.ensures.0 ∙ c.get-2.ensures.value) in
    let formed : IsEntryValue (version_of map) (map (5 + place)) = subst (λ (v : ℕ). IsEntryValue v (map (5 + place))) version (subst (λ (v : List ℕ). IsEntryValue c.in-Some.version v) bytes found.1) in
    let follows : MayFollow (entries_of map place) (number_of (map 1)) (entry_of (map (5 + place))) =
    subst (λ l. MayFollow l (number_of (map 1)) (entry_of (map (5 + place)))) log (subst (λ t. MayFollow c.deref-in-loop-place.result.now t (entry_of (map (5 + place)))) term
    (subst (λ e. MayFollow c.deref-in-loop-place.result.now c.in-Some-read_term.term e) entry found.2)) in
    record {
      entries = c.push.ensures.items ∙ rw (first_more entry_of map place, c.loop-place.invariant.entries, entry) refl;
      origins = c.push-in-loop-place.ensures.items ∙ rw (first_more origin_of map place, c.loop-place.invariant.origins, origin) refl;
      count = search rules;
      count_origins = search rules;
      rules = one_more map place c.loop-place.invariant.rules formed follows;
    }

pub returns-clause-state : goal.returns-clause-state
returns-clause-state c =
    let map = table_map c.args.table.now in
    let place = c.loop-place.place in
    let first : List ℕ → ℕ = λ (value : List ℕ). slice_index value 0 in
    let last : c.in-Some-read_byte-2.last ≡ last_of map = c.in-Some-read_byte-2.ensures.found.0 ∙ ap first (c.deref-4.ensures.0 ∙ c.get-4.ensures.value) in
    let all : place ≡ last_of map = omega (arith, last, c.loop-place-test.false, c.loop-place.auto.place-end) in
    stores_read map _ (record {
      rules = all_rules map place all c.loop-place.invariant.rules;
      term = c.in-Some-read_term.ensures.found.0 ∙ ap number_of (c.deref-2.ensures.0 ∙ c.get-2.ensures.value);
      vote = c.in-Some-read_byte.ensures.found.0 ∙ ap first (c.deref-3.ensures.0 ∙ c.get-3.ensures.value);
      log = c.loop-place.invariant.entries ∙ ap (entries_of map) all;
      commit = c.in-Some-read_byte-3.ensures.found.0 ∙ ap first (c.deref-5.ensures.0 ∙ c.get-5.ensures.value);
      origins = c.loop-place.invariant.origins ∙ ap (origins_of map) all;
      version = sym c.in-Some.ensures.found.number ∙ ap first (c.deref.ensures.0 ∙ c.get.ensures.value);
    })
