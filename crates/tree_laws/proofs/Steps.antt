-- Steps of checks, and what look-ups find.
use Rattle.std.proofs.Common.{◌≡◌, ℕ, ◌==◌, Bool, true, false, cond, List, [], ◌∷◌, Option, Some, None, Result, Ok, Err, refl, ap, ◌∙◌, subst, arith, rules}
use Rattle.std.specs.List.{find}
use Rattle.std.specs.Option.{option_map}
use Rattle.std.proofs.lemmas.Grind.{common_steps}
use Rattle.base_types.specs.Ids.{same_fid}
use Rattle.base_types.specs.Outcomes.{and_then}
use Rattle.base_types.specs.declared.ids.Fid.{Fid}
use Rattle.tree_calls.specs.declared.reply.Refusal.{Refusal}
use Rattle.tree_calls.specs.declared.reply.Refusal.TheVariants.{NoFileset}
use Rattle.tree_objects.proofs.Observed.{and_left, and_right}
use Rattle.tree_filesets.specs.declared.fileset.Fileset.{Fileset}
use Rattle.tree_filesets.specs.Checks.{unless}
use Rattle.tree_filesets.specs.WellFormed.{IsWellFormed as IsWellFormedFileset}
use Rattle.tree_answers.specs.Finding.{found_or}
use Rattle.tree_answers.specs.WellFormed.{AreWellFormed}

-- no test has two answers
pub no_dir : {A : Type 0} → true ≡ false → A
no_dir h = absurd (search (rules, h))

pub no_file : {A : Type 0} → false ≡ true → A
no_file h = absurd (search (rules, h))

-- steps that go on alike
pub then_same : {A B E : Type 0} (found : Result A E) (f g : A → Result B E) → ((value : A) → found ≡ Ok value → f value ≡ g value) → and_then found f ≡ and_then found g
then_same (Ok value) f g same = same value refl
then_same (Err error) f g same = refl

pub then_then : {A B C E : Type 0} (found : Result A E) (f : A → Result B E) (g : B → Result C E) → and_then (and_then found f) g ≡ and_then found (λ value. and_then (f value) g)
then_then (Ok value) f g = refl
then_then (Err error) f g = refl

pub unless_then : {A B : Type 0} (b : Bool) (refusal : Refusal) (next : Result A Refusal) (g : A → Result B Refusal) → and_then (unless b refusal next) g ≡ unless b refusal (and_then next g)
unless_then true refusal next g = refl
unless_then false refusal next g = refl

-- numbers
pub same_number : (n : ℕ) → (n == n) ≡ true
same_number n = grind (arith, common_steps)

pub number_is : (a b : ℕ) → (a == b) ≡ true → a ≡ b
number_is a b h = grind (arith, common_steps, h)

-- what is found by a name
pub named_ok : (o : Option Fileset) (fileset : Fileset) → found_or o NoFileset ≡ Ok fileset → o ≡ Some fileset
named_ok None fileset h = absurd (search (rules, h))
named_ok (Some x) fileset h = let same : x ≡ fileset = cc in ap Some same

pub formed_found : (p : Fileset → Bool) (filesets : List Fileset) (fileset : Fileset) → AreWellFormed filesets → find p filesets ≡ Some fileset → IsWellFormedFileset fileset
formed_found p [] fileset w h = absurd (search (rules, h))
formed_found p (x ∷ xs) fileset w h =
    elim (p x) as (λ t. cond t (Some x) (find p xs) ≡ Some fileset → IsWellFormedFileset fileset)
    [ true ↦ λ k. let same : x ≡ fileset = cc in subst IsWellFormedFileset same w.0 | false ↦ λ k. formed_found p xs fileset w.1 k ] h

pub find_mapped : {X : Type 0} (p : X → Bool) (f : X → X) → ((x : X) → p (f x) ≡ p x) → (xs : List X) → find p (Rattle.std.specs.Prelude.map f xs) ≡ option_map f (find p xs)
find_mapped p f same [] = refl
find_mapped {X = X} p f same (x ∷ xs) = ap (λ t. cond t (Some (f x)) (find p (Rattle.std.specs.Prelude.map f xs))) (same x) ∙ choice (p x) (find p (Rattle.std.specs.Prelude.map f xs)) (find p xs) (find_mapped p f same xs)
  where
    choice : (b : Bool) (a c : Option X) → a ≡ option_map f c → cond b (Some (f x)) a ≡ option_map f (cond b (Some x) c)
    choice true a c e = refl
    choice false a c e = e

-- one fid for two
pub fid_is : (a b : Fid) → same_fid a b ≡ true → a ≡ b
fid_is a b h =
    let fileset : a.fileset.0 ≡ b.fileset.0 = number_is a.fileset.0 b.fileset.0 (and_left _ _ (and_left _ _ h)) in
    let anode : a.anode ≡ b.anode = number_is a.anode b.anode (and_right _ _ (and_left _ _ h)) in
    let unique : a.unique ≡ b.unique = number_is a.unique b.unique (and_right _ _ h) in
    ap (λ n. let fid : Fid = record { fileset = record { 0 = n }; anode = a.anode; unique = a.unique } in fid) fileset
    ∙ ap (λ n. let fid : Fid = record { fileset = b.fileset; anode = n; unique = a.unique } in fid) anode
    ∙ ap (λ n. let fid : Fid = record { fileset = b.fileset; anode = b.anode; unique = n } in fid) unique
