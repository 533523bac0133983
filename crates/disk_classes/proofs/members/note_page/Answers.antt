use Rattle.std.proofs.Common.{◌≡◌, ◌∙◌, length, ap, true, false, rules}
use Rattle.disk_classes.specs.declared.member.Noted.{Noted as Kept}
use Rattle.disk_classes.proofs.Ended.{read_at}
use Rattle.disk_classes.proofs.Noting.{noted_anew, noted_before}
use Rattle.disk_classes.proofs.members.note_page.Goals as goal

pub returns-in_ok-add_page-clause-ok : goal.returns-in_ok-add_page-clause-ok
returns-in_ok-add_page-clause-ok c =
    let f : c.contains.result ≡ false = search rules in (
      c.len-pages.ensures ∙ ap (λ (n : Kept). length n.pages) (read_at c.args.noted.now c.args.member c.get.result.now c.requires c.get.ensures),
      noted_anew c.args.noted.now c.args.member c.args.page c.get-2.result.now c.get_mut.result.now c.add_page.new.noted c.as_slice.result.now c.contains.result c.requires c.get-2.ensures c.get_mut.ensures.value c.as_slice.ensures c.contains.ensures.cases f c.in_ok-add_page.ensures.ok,
    )

pub returns-else-not-contains-clause-ok : goal.returns-else-not-contains-clause-ok
returns-else-not-contains-clause-ok c =
    let t : c.contains.result ≡ true = search rules in (
      c.len-pages.ensures ∙ ap (λ (n : Kept). length n.pages) (read_at c.args.noted.now c.args.member c.get.result.now c.requires c.get.ensures),
      noted_before c.args.noted.now c.args.member c.args.page c.get-2.result.now c.as_slice.result.now c.contains.result c.requires c.get-2.ensures c.as_slice.ensures c.contains.ensures.cases t,
    )
