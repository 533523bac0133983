-- What is reached from the root.
use Rattle.std.proofs.Common.{◌≡◌, ℕ, zero, suc, List, [], ◌∷◌, inl, inr, refl, sym, ◌∙◌, ap}
use Rattle.std.specs.Prelude.{Bool, true, ◌&&◌, ◌||◌, ◌==◌}
use Rattle.std.specs.List.{list_any, AllByRecursion}
use Rattle.std.proofs.lemmas.Bool.{and_parts, and_from, or_cases, or_left, or_right, eq-eqb, eqb-true, false≢true}
use Rattle.disk_image.specs.Reach.{is_within}
use Rattle.disk_image.specs.declared.found.Link.{Link}
use Rattle.disk_image_laws.specs.Reached.{IsClosed, ReachIsLeast, RootIsReached, StepsLead}

unfolded : (links : List Link) (n anode : ℕ) → is_within links (suc n) anode ≡ (is_within links n anode || list_any (λ link. (link.to == anode) && is_within links n link.from) links)
unfolding is_within
unfolded links n anode = refl

at_root : (links : List Link) (anode : ℕ) → is_within links zero anode ≡ (anode == 1)
unfolding is_within
at_root links anode = refl

-- an entry from what has a property to an anode, where the property follows entries
led : (holds within : ℕ → Bool) (anode : ℕ) (links : List Link) → ((a : ℕ) → within a ≡ true → holds a ≡ true) → IsClosed holds links
    → list_any (λ link. (link.to == anode) && within link.from) links ≡ true → holds anode ≡ true
led holds within anode [] inside closed any = absurd (false≢true any)
led holds within anode (link ∷ links) inside closed any = elim (or_cases ((link.to == anode) && within link.from) (list_any (λ other. (other.to == anode) && within other.from) links) any) [
  | inl here ↦
      let parts = and_parts (link.to == anode) (within link.from) here in
      ap holds (sym (eqb-true link.to anode parts.0)) ∙ closed.0 (inside link.from parts.1)
  | inr there ↦ led holds within anode links inside closed.1 there
]

inside_all : (links : List Link) (holds : ℕ → Bool) → holds 1 ≡ true → IsClosed holds links → (n anode : ℕ) → is_within links n anode ≡ true → holds anode ≡ true
inside_all links holds root closed zero anode is = ap holds (eqb-true anode 1 (sym (at_root links anode) ∙ is)) ∙ root
inside_all links holds root closed (suc n) anode is = elim (or_cases (is_within links n anode) (list_any (λ link. (link.to == anode) && is_within links n link.from) links) (sym (unfolded links n anode) ∙ is)) [
  | inl before ↦ inside_all links holds root closed n anode before
  | inr now ↦ led holds (is_within links n) anode links (inside_all links holds root closed n) closed now
]

pub reach_least : ReachIsLeast
reach_least links holds anode root closed is = inside_all links holds root closed 64 anode is

within_root : (links : List Link) (n : ℕ) → is_within links n 1 ≡ true
within_root links zero = at_root links 1 ∙ eq-eqb 1 1 refl
within_root links (suc n) = unfolded links n 1 ∙ or_left (is_within links n 1) (list_any (λ link. (link.to == 1) && is_within links n link.from) links) (within_root links n)

pub root_reached : RootIsReached
root_reached links = within_root links 64

-- each entry of a list is one of them
each_leads : (within : ℕ → Bool) (all links : List Link) → ((anode : ℕ) → list_any (λ link. (link.to == anode) && within link.from) links ≡ true → list_any (λ link. (link.to == anode) && within link.from) all ≡ true)
    → AllByRecursion (λ link. within link.from ≡ true → list_any (λ other. (other.to == link.to) && within other.from) all ≡ true) links
each_leads within all [] part = tt
each_leads within all (link ∷ links) part = (
  (λ from. part link.to (or_left ((link.to == link.to) && within link.from) (list_any (λ other. (other.to == link.to) && within other.from) links) (and_from (link.to == link.to) (within link.from) (eq-eqb link.to link.to refl) from))),
  each_leads within all links (λ anode any. part anode (or_right ((link.to == anode) && within link.from) (list_any (λ other. (other.to == anode) && within other.from) links) any)),
)

follows : (P Q : Link → Type 0) (links : List Link) → ((link : Link) → P link → Q link) → AllByRecursion P links → AllByRecursion Q links
follows P Q [] step all = tt
follows P Q (link ∷ links) step all = (step link all.0, follows P Q links step all.1)

pub steps_lead : StepsLead
steps_lead links n =
    follows (λ link. is_within links n link.from ≡ true → list_any (λ other. (other.to == link.to) && is_within links n other.from) links ≡ true)
    (λ link. is_within links n link.from ≡ true → is_within links (suc n) link.to ≡ true) links
    (λ link leads from. unfolded links n link.to ∙ or_right (is_within links n link.to) (list_any (λ other. (other.to == link.to) && is_within links n other.from) links) (leads from))
    (each_leads (is_within links n) links links (λ anode any. any))
