use Rattle.std.proofs.Common.{◌∙◌, ◌++◌, append_assoc}
use Rattle.disk_layout.specs.Places.{page_start}
use Rattle.disk_pages.specs.Numbers.{is_numbers_page}
use Rattle.disk_pages.specs.Server.{is_server_page}
use Rattle.disk_image.specs.Anodes.{unless}
use Rattle.disk_image.specs.declared.fault.Rule.TheVariants as rules
use Rattle.disk_judge.specs.Metadata.{page_in}
use Rattle.disk_check.proofs.checking.push_server_faults.Goals as goal

pub returns : goal.returns
returns c = λ image.
    let metadata = c.args.metadata.now in
    let old = c.args.faults.now.items in
    let server = c.is_server_page-is_server.ensures ∙ (λ j. is_server_page (c.page.ensures j)) in
    let numbers = c.is_numbers_page-are_numbers.ensures ∙ (λ j. is_numbers_page (c.page-2.ensures j)) in
    c.in_ok-push_unless-2.ensures
    ∙ (λ j. (c.in_ok-push_unless.ensures ∙ (λ k. old ++ unless (server k) (c.page_place.ensures k) rules.ServerPage)) j
    ++ unless (numbers j) (c.page_place-2.ensures j) rules.CallNumbers)
    ∙ append_assoc old (unless (is_server_page (page_in metadata 0)) (page_start 0) rules.ServerPage) (unless (is_numbers_page (page_in metadata 1)) (page_start 1) rules.CallNumbers)
