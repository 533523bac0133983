use Rattle.std.proofs.Common.{◌≡◌, ◌++◌, [], List, ℕ, refl, sym, subst, ◌∙◌, ap, arith}
use Rattle.std.specs.Prelude.{true, false}
use Rattle.std.proofs.lemmas.Bool.{cond-true, cond-false}
use Rattle.std.proofs.lemmas.List.{append-nil}
use Rattle.disk_image.specs.Joined.{listed}
use Rattle.disk_pages.specs.Blocks.{entry_anode, entry_unique}
use Rattle.disk_image.specs.Aggregate.{anode_page}
use Rattle.disk_image.specs.Anodes.{is_readable, link_of, links_at, entries_in}
use Rattle.disk_image.specs.declared.found.Link.{Link}
use Rattle.disk_image.proofs.Joined.{pushed_none, pushed_more}
use Rattle.disk_judge.specs.Metadata.{over}
use Rattle.disk_judge.specs.Reach.{AreFromAnodes}
use Rattle.disk_check.proofs.Read.{link_is}
use Rattle.disk_check.proofs.Looking.{from_more}
use Rattle.disk_check.proofs.anode.push_links.Goals as goal

pub returns-then-not-is_readable-clause-links : goal.returns-then-not-is_readable-clause-links
unfolding links_at
returns-then-not-is_readable-clause-links c = λ image slot page_is are.
    let disk = over c.args.metadata.now image in
    let fails : is_readable disk slot c.args.i ≡ false = sym (c.is_readable.ensures image slot c.args.i page_is are) ∙ c.if-not-is_readable.true in
    sym (append-nil c.args.links.now.items) ∙ (λ j. c.args.links.now.items ++ sym (cond-false (is_readable disk slot c.args.i) (listed (link_of disk slot c.args.i) (entries_in (anode_page disk slot c.args.i))) [] fails) j)

pub loop-e-init : goal.loop-e-init
loop-e-init c = record { links = λ image slot page_is are. pushed_none _ _; from = λ start. start }

pub loop-e-preserved : goal.loop-e-preserved
loop-e-preserved c =
    let inv = c.loop-e.invariant in
    record {
      links = λ image slot page_is are.
          pushed_more _ c.loop-e.e _ _ _ _ refl (inv.links image slot page_is are)
          (c.in_ok-push.ensures.items ∙ link_is (over c.args.metadata.now image) slot c.args.i c.loop-e.e c.args.parts.now _ _ c.loop-e.links.items are (c.entry_numbers-to.ensures.anode ∙ (λ k. entry_anode (c.deref.ensures.value k) c.loop-e.e)) (c.entry_numbers-to.ensures.unique ∙ (λ k. entry_unique (c.deref.ensures.value k) c.loop-e.e)));
      from = λ start. subst (λ (l : List Link). AreFromAnodes l) (sym c.in_ok-push.ensures.items)
          (from_more c.loop-e.links.items _ (inv.from start) (omega arith) (omega arith));
    }

pub returns-clause-links : goal.returns-clause-links
unfolding links_at
returns-clause-links c = λ image slot page_is are.
    let disk = over c.args.metadata.now image in
    let holds : is_readable disk slot c.args.i ≡ true = sym (c.is_readable.ensures image slot c.args.i page_is are) ∙ c.if-not-is_readable.false in
    let end : c.loop-e.e ≡ c.entries_in-e-end.result = omega arith in
    c.loop-e.invariant.links image slot page_is are
    ∙ (λ j. c.args.links.now.items ++ listed (link_of disk slot c.args.i) ((end ∙ c.entries_in-e-end.ensures.value ∙ ap (λ (p : List ℕ). entries_in p) page_is) j))
    ∙ (λ j. c.args.links.now.items ++ sym (cond-true (is_readable disk slot c.args.i) (listed (link_of disk slot c.args.i) (entries_in (anode_page disk slot c.args.i))) [] holds) j)
