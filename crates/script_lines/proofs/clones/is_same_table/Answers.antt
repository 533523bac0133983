use Rattle.std.proofs.Common.{◌≡◌, true, false, ◌&&◌, ◌==◌, List, [], ◌∷◌, Option, Some, None, Bool, refl, sym, ap, ◌∙◌, arith}
use Rattle.std.specs.Option.{option_eq}
use Rattle.std.specs.Cmp.Lexicographic.{pointwise}
use Rattle.std.proofs.lemmas.Bool.{and_parts, eqb-true}
use Rattle.base_types.specs.declared.ids.ServerId.{ServerId}
use Rattle.script_lines.proofs.clones.is_same_table.Goals as goal

same_number : ServerId → ServerId → Bool
same_number a b = a.0 == b.0

same_server : (a b : Option ServerId) → option_eq (λ x y. x.0 == y.0) a b ≡ true → a ≡ b
same_server None None e = refl
same_server (Some a) (Some b) e = ap (λ n. Some (record { 0 = n })) (eqb-true a.0 b.0 e)
same_server None (Some b) e = absurd (cc)
same_server (Some a) None e = absurd (cc)

same_table : (a b : List (Option ServerId)) → pointwise (option_eq (λ x y. x.0 == y.0)) a b ≡ true → a ≡ b
same_table [] [] e = refl
same_table [] (y ∷ b) e = absurd (cc)
same_table (x ∷ a) [] e = absurd (cc)
same_table (x ∷ a) (y ∷ b) e =
    let parts = and_parts (option_eq (λ x y. x.0 == y.0) x y) (pointwise (option_eq (λ x y. x.0 == y.0)) a b) e in
    ap (λ s. s ∷ a) (same_server x y parts.0) ∙ ap (λ t. y ∷ t) (same_table a b parts.1)

pub returns : goal.returns
returns c = λ e. same_table c.args.a.now c.args.b.now (sym c.eq.ensures ∙ e)
