use Rattle.std.proofs.Common.{length, sym, subst, ◌∙◌, ap}
use Rattle.std.specs.Prelude.{IfSome, nat_eq}
use Rattle.std.specs.List.{list_any}
use Rattle.store_records.specs.Tree.{AreFound}
use Rattle.store_records.proofs.Trees.{all_found, formed_kept, found_formed, is_not, root_formed}
use Rattle.store_records.proofs.tree.is_well_formed.Goals as goal
use Rattle.store_records.proofs.tree.is_well_formed.Goals.{then-not-has_root-via-then-not-has_root, then-not-has_root-via-else-not-has_root+then-not-are_kept_sound}

pub returns-then-not-has_root-clause-refused : goal.returns-then-not-has_root-clause-refused
returns-then-not-has_root-clause-refused c = λ _ w.
    elim c.then-not-has_root.branch [
      | then-not-has_root-via-then-not-has_root v ↦ is_not c.has_root.result v.if-not-has_root.true (c.has_root.ensures ∙ root_formed c.args.fileset.now w)
      | then-not-has_root-via-else-not-has_root+then-not-are_kept_sound v ↦ is_not v.are_kept_sound.result v.if-not-are_kept_sound.true (v.are_kept_sound.ensures ∙ formed_kept c.args.fileset.now w)
    ]

-- what was found
are_found : (c : goal.After-drop-found) → AreFound c.args.fileset.now.anodes (length c.in-Some.found) c.in-Some.found
are_found c = subst (λ o. IfSome o (λ found. AreFound c.args.fileset.now.anodes (length found) found)) c.in-Some.is c.in_ok-found.ensures.found

pub returns-in-Some-clause-formed : goal.returns-in-Some-clause-formed
returns-in-Some-clause-formed c = λ e rest.
    found_formed c.args.fileset.now c.in-Some.found (sym c.len.ensures ∙ c.if-len-fileset.false) c.if-fileset-gt-OBJECTS_MAX.false
    (sym c.has_root.ensures ∙ c.if-not-has_root.false) (sym c.are_kept_sound.ensures ∙ c.if-not-are_kept_sound.false) (are_found c)
    (λ at low some. ap (list_any (nat_eq at)) (sym c.as_slice.ensures) ∙ c.has_all.ensures.0 e at low some)
    rest

pub returns-in-Some-clause-refused : goal.returns-in-Some-clause-refused
returns-in-Some-clause-refused c = λ e w.
    is_not c.has_all.result e
    (c.has_all.ensures.1 (λ at low some.
    ap (list_any (nat_eq at)) c.as_slice.ensures ∙ all_found c.args.fileset.now c.in-Some.found (sym c.are_kept_sound.ensures ∙ c.if-not-are_kept_sound.false) w (are_found c) at some))
