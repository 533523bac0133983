-- What one entry more reaches.
use Rattle.std.proofs.Common.{◌≡◌, ◌<◌, ℕ, suc, ◌+◌, ◌-◌, List, [], ◌∷◌, length, get_or, set, replicate, inl, inr, refl, sym, ◌∙◌, ap, arith}
use Rattle.std.specs.Prelude.{Bool, true, false, ◌==◌, ◌&&◌, ◌||◌}
use Rattle.std.specs.List.{list_any}
use Rattle.std.proofs.lemmas.Bool.{cases_eq, eq-eqb, ne_eqb}
use Rattle.std.proofs.lemmas.Grind.{get_or-set_at}
use Rattle.std.proofs.lemmas.List.{get_or-set_other, get_or-replicate}
use Rattle.disk_image.specs.Reach.{is_within}
use Rattle.disk_image.specs.declared.found.Link.{Link}
use Rattle.disk_judge.specs.Reach.{AreFromAnodes, AreWithin}

-- tests that agree on each element
pub any_same : {X : Type 0} (a b : X → Bool) (xs : List X) → ((k : ℕ) (other : X) → k < length xs → a (get_or xs k other) ≡ b (get_or xs k other)) → list_any a xs ≡ list_any b xs
any_same a b [] same = refl
any_same a b (x ∷ xs) same = λ i. same 0 x (omega arith) i || any_same a b xs (λ k other lt. same (suc k) other (omega arith)) i

unfolded : (links : List Link) (n anode : ℕ) → is_within links (suc n) anode ≡ (is_within links n anode || list_any (λ link. (link.to == anode) && is_within links n link.from) links)
unfolding is_within
unfolded links n anode = refl

-- the anodes within so many steps and one
pub step_more : (links : List Link) (n : ℕ) (reached next : List Bool) → AreFromAnodes links → AreWithin links n reached
    → ((i : ℕ) → i < 64 → get_or next i false ≡ (get_or reached i false || list_any (λ link. (link.to == i + 1) && get_or reached (link.from - 1) false) links))
    → AreWithin links (n + 1) next
step_more links n reached next from within is i lt =
    let e : n + 1 ≡ suc n = omega arith in
    is i lt ∙ (λ j. within i lt j || any_same (λ link. (link.to == i + 1) && get_or reached (link.from - 1) false) (λ link. (link.to == i + 1) && is_within links n link.from) links agree j)
    ∙ sym (unfolded links n (i + 1)) ∙ ap (λ m. is_within links m (i + 1)) (sym e)
  where
    agree : (k : ℕ) (other : Link) → k < length links → (((get_or links k other).to == i + 1) && get_or reached ((get_or links k other).from - 1) false) ≡ (((get_or links k other).to == i + 1) && is_within links n (get_or links k other).from)
    agree k other below =
        let link = get_or links k other in
        let some = from k other below in
        let e : link.from - 1 + 1 ≡ link.from = let a = some.0 in omega (arith, a) in
        let low : link.from - 1 < 64 = let a = some.0 in let b = some.1 in omega (arith, a, b) in
        λ j. (link.to == i + 1) && (within (link.from - 1) low ∙ ap (is_within links n) e) j

-- the root alone
pub root_within : (links : List Link) → AreWithin links 0 (set (replicate 64 false) 0 true)
unfolding is_within
root_within links i lt = elim (cases_eq i 0) [
  | inl e ↦ get_or-set_at (replicate 64 false) 0 i true false e (omega arith) ∙ sym (eq-eqb (i + 1) 1 (omega (arith, e)))
  | inr apart ↦ get_or-set_other (replicate 64 false) 0 i true false apart ∙ get_or-replicate 64 i false false lt ∙ sym (ne_eqb (i + 1) 1 (λ e. apart (omega (arith, e))))
]
