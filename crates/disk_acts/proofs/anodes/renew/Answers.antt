use Rattle.std.proofs.Common.{◌≡◌, ◌+◌, ℕ, List, Option, Some, None, refl, sym, ap, subst, arith, ◌∙◌}
use Rattle.std.specs.Prelude.{true, slice_get, is_none}
use Rattle.tree_objects.specs.declared.content.Anode.{Anode}
use Rattle.tree_objects.specs.declared.content.Object.{Object}
use Rattle.disk_log.specs.Log.{disk_of, state_of}
use Rattle.disk_objects.specs.Objects.{KeepsNow}
use Rattle.disk_acts.specs.Anodes.{IsOne, renewed}
use Rattle.disk_acts.specs.Seen.{seen_anode}
use Rattle.disk_acts.specs.declared.seen.SeenAnode.{SeenAnode}
use Rattle.disk_acts.proofs.Renewing.{anode_stays}
use Rattle.disk_acts.proofs.anodes.renew.Goals as goal

stays : (before : Option SeenAnode) (after : Option Anode) (was : SeenAnode) (is now : Anode) → Some was ≡ before → Some is ≡ after → was ≡ seen_anode is → IsOne before after now → renewed after now ≡ now
stays before after was is now b a same one =
    (λ i. renewed (sym a i) now) ∙ sym (subst (λ (o : Option SeenAnode). IsOne o (Some is) now) (sym b) (subst (λ (o : Option Anode). IsOne before o now) (sym a) one) same)

pub returns-in-Some-Some-clause-kept : goal.returns-in-Some-Some-clause-kept
returns-in-Some-Some-clause-kept g c = λ told slots held one.
    (let same = stays (slice_get c.args.before.now c.args.at) (slice_get c.args.after.now c.args.at) c.in-Some-Some.was.now c.in-Some-Some.is'.now _ c.in-Some-Some.ensures c.in-Some-Some.ensures' (c.same_anode.ensures c.if-same_anode.true) one in
    subst (λ (s : ℕ → List Anode). KeepsNow s (state_of c.args.log.now) (g.D.Disk.view (disk_of c.args.log.now)).image)
    (sym (anode_stays c.args.slot (c.args.at + 1) (renewed (slice_get c.args.after.now c.args.at)) slots same)) held)

gone : (o : Option Object) → is_none o ≡ true → None ≡ o
gone None e = refl
gone (Some object) e = absurd (grind (arith, e))

nothing : (before : Option SeenAnode) (after : Option Anode) (now : Anode) → None ≡ before → None ≡ after → IsOne before after now → renewed after now ≡ now
nothing before after now b a free = (λ i. renewed (sym a i) now) ∙ ap (λ (o : Option Object). record now { object = o }) (gone now.object (subst (λ (o : Option SeenAnode). IsOne o after now) (sym b) free))

pub returns-in-None-None-clause-kept : goal.returns-in-None-None-clause-kept
returns-in-None-None-clause-kept g c = λ told slots held free.
    (let same = nothing (slice_get c.args.before.now c.args.at) (slice_get c.args.after.now c.args.at) _ c.in-None-None.ensures c.in-None-None.ensures' free in
    subst (λ (s : ℕ → List Anode). KeepsNow s (state_of c.args.log.now) (g.D.Disk.view (disk_of c.args.log.now)).image)
    (sym (anode_stays c.args.slot (c.args.at + 1) (renewed (slice_get c.args.after.now c.args.at)) slots same)) held)
