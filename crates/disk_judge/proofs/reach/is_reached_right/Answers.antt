use Rattle.std.proofs.Common.{◌≡◌, ◌∙◌, sym, true, false}
use Rattle.std.specs.Prelude.{◌==◌, ◌||◌, ◌&&◌}
use Rattle.std.proofs.lemmas.Bool.{cond-true, cond-false, ne_eqb}
use Rattle.base_types.specs.Image.{byte_at}
use Rattle.disk_pages.specs.Anode.{is_object}
use Rattle.disk_image.specs.Reach.{is_reached_right, times_reached, times_under}
use Rattle.disk_judge.proofs.reach.is_reached_right.Goals as goal

pub returns-else-not-is_object : goal.returns-else-not-is_object
unfolding is_reached_right
returns-else-not-is_object c =
    let links = c.args.links.now in
    let anode = c.args.anode in
    let page = c.args.page.now in
    let none : ((anode == 1) || (byte_at page 0 == 0)) ≡ false =
    λ j. ne_eqb anode 1 c.if-anode-eq1.false j || ne_eqb (byte_at page 0) 0 c.if-page-eq0.false j in
    let object : is_object page ≡ true = sym c.is_object.ensures ∙ c.if-not-is_object.false in
    c.is_reached_once.ensures ∙ (λ j. (times_reached links anode == 1) && (times_under links anode (c.u32_at.ensures j) == 1))
    ∙ sym (cond-false ((anode == 1) || (byte_at page 0 == 0)) _ _ none ∙ cond-true (is_object page) _ _ object)
