-- Lines of a node in a script: which they are, and that each has a number of its own.
use Rattle.std.proofs.Common.{◌≡◌, ◌⊎◌, ⊎_elim, inl, inr, ℕ, zero, suc, ◌+◌, ◌<◌, nat_lt, ◌==◌, Bool, true}
use Rattle.std.proofs.Common.{false, ◌&&◌, cond, List, [], ◌∷◌, ◌++◌, Some, filter, length, slice_get}
use Rattle.std.proofs.Common.{refl, sym, ap, ◌∙◌, subst, arith, ltb-true}
use Rattle.base_types.specs.declared.ids.Node.{Node}
use Rattle.base_types.specs.declared.ids.Node.TheVariants.{Host, Server}
use Rattle.run_rules.specs.Past.{In}
use Rattle.run_rules.specs.Steps.{is_node, lines_of}
use Rattle.script_lines.specs.Sound.{IsSound, numbers_rise}
use Rattle.script_lines.specs.declared.script.Line.{Line}
use Rattle.script_lines.specs.declared.script.Script.{Script}

left : (a b : Bool) → (a && b) ≡ true → a ≡ true
left true b e = refl
left false b e = absurd (cc)

right : (a b : Bool) → (a && b) ≡ true → b ≡ true
right true b e = e
right false b e = absurd (cc)

-- numbers of lines rise
above : (low : ℕ) (xs : List Line) → numbers_rise low xs ≡ true → (a : Line) → In a xs → low < a.number
above low [] h a i = absurd i
above low (x ∷ xs) h a i =
    let first : low < x.number = ltb-true low x.number (left (nat_lt low x.number) (numbers_rise x.number xs) h) in
    ⊎_elim
    (λ (e : a ≡ x). subst (λ (y : Line). low < y.number) (sym e) first)
    (λ (k : In a xs).
    let later = above x.number xs (right (nat_lt low x.number) (numbers_rise x.number xs) h) a k in omega arith)
    i

-- so each has its own
apart : (low : ℕ) (xs : List Line) → numbers_rise low xs ≡ true → (a b : Line) → In a xs → In b xs
    → a.number ≡ b.number → a ≡ b
apart low [] h a b i j e = absurd i
apart low (x ∷ xs) h a b i j e =
    let rest = right (nat_lt low x.number) (numbers_rise x.number xs) h in
    ⊎_elim
    (λ (p : a ≡ x). ⊎_elim
    (λ (q : b ≡ x). p ∙ sym q)
    (λ (l : In b xs).
    let later = above x.number xs rest b l in
    let same : x.number ≡ a.number = ap (λ (y : Line). y.number) (sym p) in absurd (omega arith))
    j)
    (λ (k : In a xs). ⊎_elim
    (λ (q : b ≡ x).
    let later = above x.number xs rest a k in
    let same : x.number ≡ b.number = ap (λ (y : Line). y.number) (sym q) in absurd (omega arith))
    (λ (l : In b xs). apart x.number xs rest a b k l e)
    j)
    i

in_front : (x : Line) (xs ys : List Line) → In x xs → In x (xs ++ ys)
in_front x [] ys i = absurd i
in_front x (y ∷ xs) ys i = ⊎_elim (λ (e : x ≡ y). inl e) (λ (k : In x xs). inr (in_front x xs ys k)) i

in_back : (x : Line) (xs ys : List Line) → In x ys → In x (xs ++ ys)
in_back x [] ys i = i
in_back x (y ∷ xs) ys i = inr (in_back x xs ys i)

in_filter : (p : Line → Bool) (xs : List Line) (x : Line) → In x (filter p xs) → In x xs
in_filter p [] x i = absurd i
in_filter p (y ∷ xs) x i = by_test (p y) (in_filter p xs x) i
  where
    by_test : (b : Bool) → (In x (filter p xs) → In x xs) → In x (cond b (y ∷ filter p xs) (filter p xs))
        → In x (y ∷ xs)
    by_test true again i = ⊎_elim (λ (e : x ≡ y). inl e) (λ (k : In x (filter p xs)). inr (again k)) i
    by_test false again i = inr (again i)

-- a node's lines are of the setup, or of the script
pub line_is : (script : Script) (node : Node) (x : Line) → In x (lines_of script node)
    → In x script.setup ⊎ In x script.lines
line_is script (Server server) x i =
    inr (in_filter (λ (line : Line). is_node (Server server) line.node) script.lines x i)
line_is script (Host host) x i = by_test (host.0 == 0) i
  where
    own : List Line
    own = filter (λ (line : Line). is_node (Host host) line.node) script.lines

    by_test : (b : Bool) → In x (cond b script.setup own) → In x script.setup ⊎ In x script.lines
    by_test true i = inl i
    by_test false i = inr (in_filter (λ (line : Line). is_node (Host host) line.node) script.lines x i)

pub line_once : (script : Script) → IsSound script → (node : Node) (a b : Line) → In a (lines_of script node)
    → In b (lines_of script node) → a.number ≡ b.number → a ≡ b
line_once script sound node a b i j e =
    apart 0 (script.setup ++ script.lines) sound.numbers a b (among a (line_is script node a i))
    (among b (line_is script node b j)) e
  where
    among : (x : Line) → In x script.setup ⊎ In x script.lines → In x (script.setup ++ script.lines)
    among x (inl i) = in_front x script.setup script.lines i
    among x (inr i) = in_back x script.setup script.lines i

pub in_get : {A : Type 0} (xs : List A) (k : ℕ) (x : A) → slice_get xs k ≡ Some x → In x xs
in_get [] k x e = absurd (cc)
in_get (y ∷ xs) zero x e = inl (let same : y ≡ x = cc in sym same)
in_get (y ∷ xs) (suc k) x e = inr (in_get xs k x e)

pub get_below : {A : Type 0} (xs : List A) (k : ℕ) (x : A) → slice_get xs k ≡ Some x → k < length xs
get_below [] k x e = absurd (cc)
get_below (y ∷ xs) zero x e = omega arith
get_below (y ∷ xs) (suc k) x e = let again = get_below xs k x e in omega arith
