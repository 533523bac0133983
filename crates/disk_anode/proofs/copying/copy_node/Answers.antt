use Rattle.std.proofs.Common.{◌≡◌, ◌<◌, ◌∙◌, ℕ, zero, suc, refl, sym, arith, rules}
use Rattle.std.specs.Prelude.{Bool, true, false, IsTrue}
use Rattle.std.proofs.lemmas.Result.{on_ok_weaker}
use Rattle.disk_log.specs.Log.{disk_of, state_of}
use Rattle.disk_anode.specs.Node.{map_under, no_names}
use Rattle.disk_anode.specs.Anode.{names_past}
use Rattle.disk_anode.specs.declared.node.Node.{Node}
use Rattle.disk_anode.proofs.Moving.{wrote_quiet}
use Rattle.disk_anode.proofs.Copied.{names_fewer, counted_fewer, few_fewer, made_of, shares_of, kept_within, lists_within, indirect_within, whole_front, whole_fewer, whole_gone, whole_kept, whole_facts, on_ok_both}
use Rattle.disk_anode.proofs.copying.copy_node.Goals as goal

pub put_copy-requires-clause-named : goal.put_copy-requires-clause-named
put_copy-requires-clause-named g c = λ told block lt. let copy = c.up_to_length-copy in counted_fewer c.args.source.now copy.result (state_of c.args.log.now) _ (names_fewer c.args.source.now copy.result copy.ensures.fewer) (c.requires.named told) block lt

pub put_copy-requires-clause-few : goal.put_copy-requires-clause-few
put_copy-requires-clause-few g c = λ told block lt. let copy = c.up_to_length-copy in few_fewer c.args.source.now copy.result (state_of c.args.log.now) _ (names_fewer c.args.source.now copy.result copy.ensures.fewer) (c.requires.few told) block lt

pub returns-then-has_names_past-clause-made : goal.returns-then-has_names_past-clause-made
returns-then-has_names_past-clause-made g c = λ told.
    let copy = c.up_to_length-copy in
    let source = c.args.source.now in
    on_ok_weaker c.put_copy.result (λ cloned. made_of c.args.page source copy.result (state_of c.args.log.now) (state_of c.put_copy.new.log) _ _ copy.ensures.facts copy.ensures.past (kept_within source copy.result copy.ensures.same) (lists_within source copy.result copy.ensures.same) cloned copy.ensures.fewer) (c.put_copy.ensures.cloned told)

pub returns-then-has_names_past-clause-shares : goal.returns-then-has_names_past-clause-shares
returns-then-has_names_past-clause-shares g c = λ told.
    let copy = c.up_to_length-copy in
    let source = c.args.source.now in
    let past = c.has_names_past.ensures.0 c.if-has_names_past.true in
    on_ok_both c.put_copy.result (λ cloned own. shares_of c.args.page source copy.result (state_of c.args.log.now) (state_of c.put_copy.new.log) _ _ copy.ensures.facts copy.ensures.past (kept_within source copy.result copy.ensures.same) (lists_within source copy.result copy.ensures.same) cloned copy.ensures.fewer
    (λ none. absurd (omega (arith, past, none))) (λ some. own)) (c.put_copy.ensures.cloned told) (c.put_copy.ensures.own told)

pub put_sharing-requires-clause-map : goal.put_sharing-requires-clause-map
put_sharing-requires-clause-map g c = λ told.
    let copy = c.up_to_length-copy in
    let source = c.args.source.now in
    let image = (g.D.Disk.view (disk_of c.args.log.now)).image in
    let whole : Node = record { blocks = copy.result.blocks; page = copy.result.page; map = source.map } in
    let same = copy.ensures.facts.blocks in
    let points = whole_front source copy.result whole refl refl 15 (omega arith) ∙ indirect_within source copy.result copy.ensures.same in
    c.requires.map told ∙ (λ i. map_under (sym same i) image (sym points i))

pub put_sharing-requires-clause-named : goal.put_sharing-requires-clause-named
put_sharing-requires-clause-named g c = λ told block lt.
    let copy = c.up_to_length-copy in
    let source = c.args.source.now in
    let whole : Node = record { blocks = copy.result.blocks; page = copy.result.page; map = source.map } in
    counted_fewer source whole (state_of c.args.log.now) _ (names_fewer source whole (whole_fewer source copy.result whole refl refl copy.ensures.fewer)) (c.requires.named told) block lt

pub put_sharing-requires-clause-few : goal.put_sharing-requires-clause-few
put_sharing-requires-clause-few g c = λ told block lt.
    let copy = c.up_to_length-copy in
    let source = c.args.source.now in
    let whole : Node = record { blocks = copy.result.blocks; page = copy.result.page; map = source.map } in
    few_fewer source whole (state_of c.args.log.now) _ (names_fewer source whole (whole_fewer source copy.result whole refl refl copy.ensures.fewer)) (c.requires.few told) block lt

none_past : (b : Bool) (n : ℕ) → b ≡ false → (0 < n → IsTrue b) → n ≡ 0
none_past true n is past = absurd (grind (arith, is))
none_past false zero is past = refl
none_past false (suc n) is past = absurd (search (rules, past))

pub returns-clause-made : goal.returns-clause-made
returns-clause-made g c = λ told.
    let copy = c.up_to_length-copy in
    let source = c.args.source.now in
    let whole : Node = record { blocks = copy.result.blocks; page = copy.result.page; map = source.map } in
    let none = none_past c.has_names_past.result (names_past source) c.if-has_names_past.false c.has_names_past.ensures.1 in
    on_ok_weaker c.put_sharing.result (λ cloned. made_of c.args.page source whole (state_of c.args.log.now) (state_of c.put_sharing.new.log) _ _ (whole_facts source copy.result whole refl refl refl copy.ensures.facts)
    (whole_gone source copy.result whole refl refl none copy.ensures.past) (whole_kept source copy.result whole refl refl (kept_within source copy.result copy.ensures.same))
    (λ w lt. whole_front source copy.result whole refl refl w (omega arith) ∙ lists_within source copy.result copy.ensures.same w lt) cloned (whole_fewer source copy.result whole refl refl copy.ensures.fewer)) (c.put_sharing.ensures.cloned told)

pub returns-clause-shares : goal.returns-clause-shares
returns-clause-shares g c = λ told.
    let copy = c.up_to_length-copy in
    let source = c.args.source.now in
    let whole : Node = record { blocks = copy.result.blocks; page = copy.result.page; map = source.map } in
    let none = none_past c.has_names_past.result (names_past source) c.if-has_names_past.false c.has_names_past.ensures.1 in
    let points = whole_front source copy.result whole refl refl 15 (omega arith) ∙ indirect_within source copy.result copy.ensures.same in
    on_ok_both c.put_sharing.result (λ cloned indirect. shares_of c.args.page source whole (state_of c.args.log.now) (state_of c.put_sharing.new.log) _ _ (whole_facts source copy.result whole refl refl refl copy.ensures.facts)
    (whole_gone source copy.result whole refl refl none copy.ensures.past) (whole_kept source copy.result whole refl refl (kept_within source copy.result copy.ensures.same))
    (λ w lt. whole_front source copy.result whole refl refl w (omega arith) ∙ lists_within source copy.result copy.ensures.same w lt) cloned (whole_fewer source copy.result whole refl refl copy.ensures.fewer) (λ empty. indirect ∙ points) (λ some. absurd (omega (arith, some, none)))) (c.put_sharing.ensures.cloned told) (c.put_sharing.ensures.indirect told)

pub returns-clause-wrote : goal.returns-clause-wrote
returns-clause-wrote g c = λ told. wrote_quiet no_names (state_of c.args.log.now) _ _ c.put_sharing.ensures.quiet
