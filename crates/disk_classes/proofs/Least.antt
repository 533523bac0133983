-- The least members of classes, one after the other.
use Rattle.std.proofs.Common.{◌≡◌, ◌<◌, ◌≤◌, ◌⊎◌, ℕ, ◌+◌, List, [], ◌∷◌, ◌++◌, length, refl, sym, ◌∙◌, ap, subst, inl, inr, arith, get_or}
use Rattle.std.specs.Prelude.{Contains}
use Rattle.std.specs.List.Sorted.{IsStrictlyIncreasing}
use Rattle.std.proofs.lemmas.Bool.{cases_eq, cases_lt}
use Rattle.std.proofs.lemmas.List.{get_or_append_left, get_or_push, length_push}
use Rattle.std.proofs.lemmas.List.Elements.{Contains-append_left, Contains-push, Contains-push_cases, Contains-get_or}
use Rattle.disk_classes.specs.Joined.{Note, IsJoining, AreTogether, IsLeast, AreFirst, IsOf}
use Rattle.disk_classes.proofs.Lists.{contains_nil, contains_cons, contains_tail, contains_head}

pub together_refl : (notes : ℕ → Note) (m : ℕ) → AreTogether notes m m
together_refl notes m part joins = refl

pub together_sym : (notes : ℕ → Note) (m n : ℕ) → AreTogether notes m n → AreTogether notes n m
together_sym notes m n one part joins = sym (one part joins)

pub together_trans : (notes : ℕ → Note) (m n k : ℕ) → AreTogether notes m n → AreTogether notes n k → AreTogether notes m k
together_trans notes m n k one two part joins = one part joins ∙ two part joins

pub together_share : (notes : ℕ → Note) (m n p : ℕ) → Contains (notes m).pages p → Contains (notes n).pages p → AreTogether notes m n
together_share notes m n p a b part joins = joins m n p a b

-- members of some classes
pub of_push : (notes : ℕ → Note) (least : List ℕ) (x m : ℕ) → IsOf notes (least ++ x ∷ []) m → IsOf notes least m ⊎ AreTogether notes x m
of_push notes least x m (l, there, one) = by (Contains-push_cases least x l there)
  where
    by : Contains least l ⊎ (x ≡ l) → IsOf notes least m ⊎ AreTogether notes x m
    by (inl before) = inl (l, before, one)
    by (inr e) = inr (subst (λ (k : ℕ). AreTogether notes k m) (sym e) one)

pub of_more : (notes : ℕ → Note) (least : List ℕ) (x m : ℕ) → IsOf notes least m → IsOf notes (least ++ x ∷ []) m
of_more notes least x m (l, there, one) = (l, Contains-append_left least (x ∷ []) l there, one)

pub of_last : (notes : ℕ → Note) (least : List ℕ) (x m : ℕ) → AreTogether notes x m → IsOf notes (least ++ x ∷ []) m
of_last notes least x m one = (x, Contains-push least x, one)

pub of_along : (notes : ℕ → Note) (least : List ℕ) (m n : ℕ) → IsOf notes least m → AreTogether notes m n → IsOf notes least n
of_along notes least m n (l, there, one) two = (l, there, together_trans notes l m n one two)

pub of_none : (notes : ℕ → Note) (m : ℕ) → IsOf notes [] m → ⊥
of_none notes m (l, there, one) = contains_nil l there

-- where a numbering tells the classes, it is decided
pub of_or_not : (notes : ℕ → Note) (class : ℕ → ℕ) → IsJoining notes class → ((m n : ℕ) → class m ≡ class n → AreTogether notes m n) → (least : List ℕ) (m : ℕ) → IsOf notes least m ⊎ (IsOf notes least m → ⊥)
of_or_not notes class joins finest [] m = inr (of_none notes m)
of_or_not notes class joins finest (l ∷ least) m = by (cases_eq (class l) (class m)) (of_or_not notes class joins finest least m)
  where
    neither : (class l ≡ class m → ⊥) → (IsOf notes least m → ⊥) → (k : ℕ) → AreTogether notes k m → (l ≡ k) ⊎ Contains least k → ⊥
    neither apart absent k one (inl e) = apart (ap class e ∙ one class joins)
    neither apart absent k one (inr there) = absent (k, there, one)

    by : (class l ≡ class m) ⊎ (class l ≡ class m → ⊥) → IsOf notes least m ⊎ (IsOf notes least m → ⊥) → IsOf notes (l ∷ least) m ⊎ (IsOf notes (l ∷ least) m → ⊥)
    by (inl e) rest = inl (l, contains_head l least, finest l m e)
    by (inr apart) (inl (k, there, one)) = inl (k, contains_tail l k least there, one)
    by (inr apart) (inr absent) = inr (λ h. neither apart absent h.0 h.2 (contains_cons l h.0 least h.1))

-- two least members of one class are one
pub least_one : (notes : ℕ → Note) (l m : ℕ) → IsLeast notes l → IsLeast notes m → AreTogether notes l m → l ≡ m
least_one notes l m first second one =
    let a = (first m one).0 in
    let b = (second l (together_sym notes l m one)).0 in
    omega (arith, a, b)

pub rising_push : (xs : List ℕ) (x : ℕ) → IsStrictlyIncreasing xs → ((l : ℕ) → Contains xs l → l < x) → IsStrictlyIncreasing (xs ++ x ∷ [])
rising_push xs x rising below k lt = by (cases_lt (k + 1) (length xs))
  where
    size : length (xs ++ x ∷ []) ≡ length xs + 1
    size = length_push xs x

    by : (k + 1 < length xs) ⊎ (length xs ≤ k + 1) → get_or (xs ++ x ∷ []) k 0 < get_or (xs ++ x ∷ []) (k + 1) 0
    by (inl in_xs) =
        let a : get_or (xs ++ x ∷ []) k 0 ≡ get_or xs k 0 = get_or_append_left xs (x ∷ []) 0 k (omega (arith, in_xs)) in
        let b : get_or (xs ++ x ∷ []) (k + 1) 0 ≡ get_or xs (k + 1) 0 = get_or_append_left xs (x ∷ []) 0 (k + 1) in_xs in
        let d : get_or xs k 0 < get_or xs (k + 1) 0 = rising k in_xs in
        omega (arith, a, b, d)
    by (inr past) =
        let at : length xs ≡ k + 1 = omega (arith, past, lt, size) in
        let a : get_or (xs ++ x ∷ []) k 0 ≡ get_or xs k 0 = get_or_append_left xs (x ∷ []) 0 k (omega (arith, at)) in
        let b : get_or (xs ++ x ∷ []) (k + 1) 0 ≡ x = get_or_push xs x 0 (k + 1) at in
        let d : get_or xs k 0 < x = below (get_or xs k 0) (Contains-get_or xs k 0 (omega (arith, at))) in
        omega (arith, a, b, d)

pub first_none : (notes : ℕ → Note) → AreFirst notes []
first_none notes = record {
  each = λ l there. absurd (contains_nil l there);
  order = λ k lt. absurd (omega (arith, lt));
  first = λ l other is there lt. absurd (contains_nil other there);
}

-- one more, where all less ones are there
pub first_push : (notes : ℕ → Note) (least : List ℕ) (x : ℕ) → AreFirst notes least → ((l : ℕ) → Contains least l → l < x) → IsLeast notes x → ((l : ℕ) → l < x → IsLeast notes l → Contains least l) → AreFirst notes (least ++ x ∷ [])
first_push notes least x first below is all = record {
  each = λ l there. each l (Contains-push_cases least x l there);
  order = rising_push least x first.order below;
  first = λ l other one there lt. next l other one lt (Contains-push_cases least x other there);
}
  where
    each : (l : ℕ) → Contains least l ⊎ (x ≡ l) → IsLeast notes l
    each l (inl before) = first.each l before
    each l (inr e) = subst (IsLeast notes) e is

    next : (l other : ℕ) → IsLeast notes l → l < other → Contains least other ⊎ (x ≡ other) → Contains (least ++ x ∷ []) l
    next l other one lt (inl before) = Contains-append_left least (x ∷ []) l (first.first l other one before lt)
    next l other one lt (inr e) = Contains-append_left least (x ∷ []) l (all l (omega (arith, lt, e)) one)
