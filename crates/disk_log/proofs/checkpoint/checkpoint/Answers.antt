use Rattle.std.proofs.Common.{◌∙◌}
use Rattle.std.proofs.lemmas.Result.{on_ok_weaker}
use Rattle.base_outside.proofs.Runs.{then, weaker, changes_settled}
use Rattle.disk_log.proofs.Placed.{fits_named, torn_pages, pages_still, is_ready, placed_known, seen_before, table_named, table_written}
use Rattle.disk_log.proofs.Switching.{place_outside, blocks_outside}
use Rattle.disk_log.proofs.checkpoint.checkpoint.Goals as goal

pub returns-in_err-write_pages-clause-blocks : goal.returns-in_err-write_pages-clause-blocks
returns-in_err-write_pages-clause-blocks g c = λ told.
    let held = table_named c.args.half.now _ c.args.table.now c.requires.size_table (c.requires.fits told) (c.requires.recovered told) in
    (held _ _ (c.write_pages.ensures.same told)).blocks c.args.half.now.pages (λ p le. fits_named c.args.half.now _ p (c.requires.fits told) le)

pub returns-in_err-write_pages-clause-crash : goal.returns-in_err-write_pages-clause-crash
returns-in_err-write_pages-clause-crash g c = λ told.
    let held = table_named c.args.half.now _ c.args.table.now c.requires.size_table (c.requires.fits told) (c.requires.recovered told) in
    weaker (changes_settled _ c.requires.settled c.write_pages.ensures.crash) (λ d same. torn_pages _ _ _ _ _ c.requires.sides (c.requires.used told) (c.requires.fits told) d (held _ d same))

pub switch-requires-clause-ready : goal.switch-requires-clause-ready
switch-requires-clause-ready g c = λ told.
    let held = table_named c.args.half.now _ c.args.table.now c.requires.size_table (c.requires.fits told) (c.requires.recovered told) in
    is_ready _ _ _ _ _ c.requires.sides (c.requires.used told) (c.requires.fits told) _ (held _ _ (c.write_pages.ensures.same told))
    (table_written c.args.half.now _ c.args.table.now c.requires.size_table (c.requires.fits told) (c.requires.recovered told) _ (c.in_ok-write_pages.ensures.written told))

pub returns-clause-placed : goal.returns-clause-placed
returns-clause-placed g c = λ told.
    let held = table_named c.args.half.now _ c.args.table.now c.requires.size_table (c.requires.fits told) (c.requires.recovered told) in
    on_ok_weaker c.switch.result
    (λ log p lt. place_outside c.args.half.now _ _ _ c.requires.sides (c.switch.ensures.same told) p
    ∙ placed_known _ _ _ _ _ c.requires.sides (c.requires.used told) (c.requires.fits told) _ (held _ _ (c.write_pages.ensures.same told))
    (table_written c.args.half.now _ c.args.table.now c.requires.size_table (c.requires.fits told) (c.requires.recovered told) _ (c.in_ok-write_pages.ensures.written told)) p)
    (c.switch.ensures.switched told)

pub returns-clause-blocks : goal.returns-clause-blocks
returns-clause-blocks g c = λ told at le.
    let held = table_named c.args.half.now _ c.args.table.now c.requires.size_table (c.requires.fits told) (c.requires.recovered told) in
    blocks_outside c.args.half.now _ _ _ c.args.half.now.pages c.requires.sides (c.switch.ensures.same told) at le
    ∙ (held _ _ (c.write_pages.ensures.same told)).blocks c.args.half.now.pages (λ p from. fits_named c.args.half.now _ p (c.requires.fits told) from) at le

pub returns-clause-crash : goal.returns-clause-crash
returns-clause-crash g c = λ told.
    let half = c.args.half.now in
    let held = table_named half _ c.args.table.now c.requires.size_table (c.requires.fits told) (c.requires.recovered told) in
    then (weaker (changes_settled _ c.requires.settled c.write_pages.ensures.crash) (λ d same. torn_pages _ _ _ _ _ c.requires.sides (c.requires.used told) (c.requires.fits told) d (held _ d same)))
    (weaker (c.switch.ensures.crash told)
    (λ d has. seen_before _ half _ _ d (c.requires.used told).many (pages_still _ _ _ _ _ c.requires.sides (c.requires.used told) (c.requires.fits told) _ (held _ _ (c.write_pages.ensures.same told)))
    ((held _ _ (c.write_pages.ensures.same told)).blocks half.pages (λ p le. fits_named half _ p (c.requires.fits told) le)) has))
