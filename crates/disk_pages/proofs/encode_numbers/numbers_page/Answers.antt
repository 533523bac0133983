use Rattle.std.proofs.Common.{◌∙◌, ap}
use Rattle.std.proofs.lemmas.List.{get_or_default}
use Rattle.disk_layout.proofs.Words.{no_byte}
use Rattle.disk_pages.specs.Sound.{no_record, is_sound_record}
use Rattle.disk_pages.proofs.NumberPages.{keeps_none, keeps_more, keeps_all}
use Rattle.disk_pages.proofs.encode_numbers.numbers_page.Goals as goal

pub loop-host-init : goal.loop-host-init
loop-host-init c = keeps_none c.args.kept.now _ (λ k from. no_byte 512 k)

pub loop-host-preserved : goal.loop-host-preserved
loop-host-preserved c =
    let same = get_or_default c.args.kept.now c.loop-host.host _ no_record c.loop-host-test.true in
    keeps_more c.args.kept.now c.loop-host.host c.loop-host.page c.encode_record.new.page c.loop-host.invariant c.loop-host-test.true c.requires
    (c.encode_record.ensures.kept ∙ same) c.encode_record.ensures.others (λ is. c.encode_record.ensures.page is ∙ ap is_sound_record same)

pub returns-clause-kept : goal.returns-clause-kept
returns-clause-kept c = keeps_all c.args.kept.now c.loop-host.host c.loop-host.page c.loop-host.invariant c.loop-host-test.false
