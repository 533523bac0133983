use Rattle.std.proofs.Common.{◌≡◌, ◌≤◌, ◌<◌, ◌∙◌, ◌+◌, ℕ, get_or, length, sym, subst, List, arith}
use Rattle.std.proofs.lemmas.Result.{on_ok_weaker}
use Rattle.std.proofs.lemmas.List.{get_or-replicate}
use Rattle.base_outside.proofs.Image.{get_or-bytes_from}
use Rattle.disk_log.specs.Log.{state_of}
use Rattle.base_types.specs.declared.access.AccessEntry.{AccessEntry}
use Rattle.disk_lists.specs.Lists.{list_bytes, EachFits}
use Rattle.disk_lists.proofs.AclLaid.{laid_list, changed_list, changed_holds}
use Rattle.disk_lists.proofs.acl.save.Goals as goal

pub returns-clause-changed : goal.returns-clause-changed
returns-clause-changed g c = λ told.
    let list = c.args.list.now in
    let bytes = c.in-Ok.bytes.items in
    let block = c.put_bytes.new.bytes in
    let slice = c.as_slice-2.ensures.value in
    let is : bytes ≡ list_bytes list = c.in-Ok.ensures.items ∙ (let e = c.as_slice.ensures.value in λ j. list_bytes (e j)) in
    let few : length bytes ≤ 1024 = (let e = c.in-Ok.ensures.few in omega (arith, e)) in
    let same : (k : ℕ) → k < 1024 → get_or block k 0 ≡ get_or (list_bytes list) k 0 =
    laid_list block bytes list is few
    (λ k lt. let size : length c.as_slice-2.result.now ≡ length bytes = (λ j. length (slice j)) in
    let at : k ≡ 0 + k = omega arith in
    (λ j. get_or block (at j) 0) ∙ sym (get_or-bytes_from block 0 (length c.as_slice-2.result.now) k (omega (arith, size, lt))) ∙ (λ j. get_or (c.put_bytes.ensures.piece.inside j) k 0) ∙ (λ j. get_or (slice j) k 0))
    (λ k le lt. let size : length c.as_slice-2.result.now ≡ length bytes = (λ j. length (slice j)) in
    c.put_bytes.ensures.rest.after k (omega (arith, size, le)) ∙ get_or-replicate 1024 k 0 0 lt) in
    on_ok_weaker c.write_list.result (λ changed. changed_list c.args.page c.args.which block list (state_of c.args.log.now) (state_of c.write_list.new.log) _ _ same changed) (c.write_list.ensures.changed told)

pub returns-clause-list : goal.returns-clause-list
returns-clause-list g c = λ told.
    let e = c.as_slice.ensures.value in
    on_ok_weaker c.write_list.result (λ changed. changed_holds c.args.page c.args.which c.args.list.now (state_of c.args.log.now) (state_of c.write_list.new.log) _ _ c.as_slice.ensures.list (subst (λ (l : List AccessEntry). EachFits l) e c.in-Ok.ensures.fits) changed) (returns-clause-changed g c told)
