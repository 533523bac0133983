use Rattle.std.proofs.Common.{◌≡◌, ◌∙◌, ◌++◌, ◌+◌, ◌*◌, get_or, List, ℕ, refl, sym, ap}
use Rattle.std.specs.Prelude.{true, false}
use Rattle.std.proofs.lemmas.List.{append-nil}
use Rattle.disk_pages.specs.Anode.{is_object}
use Rattle.disk_image.specs.Aggregate.{anode_page}
use Rattle.disk_image.specs.Anodes.{unless, entry_blocks}
use Rattle.disk_image.specs.declared.fault.Rule.TheVariants as rules
use Rattle.disk_judge.specs.Metadata.{over}
use Rattle.disk_judge.proofs.Plain.{same_anode}
use Rattle.disk_check.proofs.Looking.{alone_found, object_found, no_links, no_uses, no_object, mapped_same}
use Rattle.disk_check.proofs.look.look_at_anode.Goals as goal

pub returns-then-not-is_object-clause-looks : goal.returns-then-not-is_object-clause-looks
returns-then-not-is_object-clause-looks g c = λ told.
    let metadata = c.args.metadata.now in
    let image = (g.D.Disk.view c.args.disk.now).image in
    let disk = over metadata image in
    let slot = c.args.slot in
    let i = c.args.i in
    let old = c.args.found.now in
    let fails : is_object (anode_page disk slot i) ≡ false =
    ap (λ (p : List ℕ). is_object p) (sym c.anode-page.ensures) ∙ sym c.is_object.ensures ∙ c.if-not-is_object.true in
    record {
      faults = alone_found disk slot i _ old.faults.items _ (c.requires.judged.each slot i c.requires.slot c.requires.anode ∙ same_anode metadata image slot i) fails
          (c.in_ok-push_unless.ensures ∙ (λ j. old.faults.items ++ unless (get_or c.args.rights.now (64 * slot + i) false) (c.page_place-place.ensures j) rules.Anode));
      links = sym (append-nil old.links.items) ∙ (λ j. old.links.items ++ sym (no_links disk slot i fails) j);
      uses = λ mapped. sym (append-nil old.uses.items) ∙ (λ j. old.uses.items ++ sym (no_uses disk slot i fails) j);
      reach = refl;
      mapped = λ mapped. mapped_same disk slot i old.mapped.items (λ pointer some there. no_object disk slot i pointer fails) mapped;
    }

pub push_block_faults-requires-clause-size : goal.push_block_faults-requires-clause-size
push_block_faults-requires-clause-size g c = c.in_ok-parts.ensures.size ∙ (λ j. 1024 * entry_blocks (sym c.anode-page.ensures j))

pub push_links-requires-clause-size : goal.push_links-requires-clause-size
push_links-requires-clause-size g c = c.in_ok-parts.ensures.size ∙ (λ j. 1024 * entry_blocks (sym c.anode-page.ensures j))

pub push_uses-requires-clause-object : goal.push_uses-requires-clause-object
push_uses-requires-clause-object g c = sym c.is_object.ensures ∙ c.if-not-is_object.false

pub returns-clause-looks : goal.returns-clause-looks
returns-clause-looks g c = λ told.
    let metadata = c.args.metadata.now in
    let image = (g.D.Disk.view c.args.disk.now).image in
    let disk = over metadata image in
    let slot = c.args.slot in
    let i = c.args.i in
    let old = c.args.found.now in
    let parts = c.in_ok-parts.ensures.parts told in
    let page_is = c.anode-page.ensures in
    let object : is_object (anode_page disk slot i) ≡ true =
    ap (λ (p : List ℕ). is_object p) (sym page_is) ∙ sym c.is_object.ensures ∙ c.if-not-is_object.false in
    record {
      faults = object_found disk slot i _ old.faults.items _ _ (c.requires.judged.each slot i c.requires.slot c.requires.anode ∙ same_anode metadata image slot i) object
          (c.in_ok-push_unless.ensures ∙ (λ j. old.faults.items ++ unless (get_or c.args.rights.now (64 * slot + i) false) (c.page_place-place.ensures j) rules.Anode))
          (c.in_ok-push_block_faults.ensures image slot i page_is parts);
      links = c.in_ok-push_links.ensures.links image slot page_is parts;
      uses = λ mapped. c.in_ok-push_uses.ensures.uses image i page_is parts mapped;
      reach = refl;
      mapped = λ mapped. c.in_ok-push_uses.ensures.mapped image i page_is parts mapped;
    }
