-- Give-backs stay sound.
use Rattle.std.proofs.Common.{◌≡◌, ◌≤◌, ℕ, suc, ◌+◌, Bool, true, false, ◌==◌, not, cond, IsTrue, List, [], ◌∷◌, ◌++◌}
use Rattle.std.proofs.Common.{length, map, take, drop, All, Option, Some, None, is_some, append-nil, refl, sym, ap}
use Rattle.std.proofs.Common.{subst, ◌∙◌, arith, rules}
use Rattle.std.specs.List.{filter, before_first, after_first}
use Rattle.std.specs.Option.{option_map_or}
use Rattle.std.proofs.lemmas.Bool.{eqb-true}
use Rattle.std.proofs.lemmas.List.{take_all, drop_all}
use Rattle.std.proofs.lemmas.List.Elements.{All-push, All-append, All-take, All-drop, filter-append}
use Rattle.std.proofs.lemmas.Grind.{common_steps}
use Rattle.base_types.specs.declared.ids.FilesetId.{FilesetId}
use Rattle.message_types.specs.declared.giving.Give.{Give}
use Rattle.message_types.specs.declared.message.Message.{Message}
use Rattle.host_gives.specs.Counters.{last_of, with_last}
use Rattle.host_gives.specs.Giving.{Giving, give_of, number_of, is_of, is_next, counted, after_add}
use Rattle.host_gives.specs.Giving.{without, of_fileset, Rise, IsSound}
use Rattle.host_gives.proofs.Places.{place}
use Rattle.host_gives.proofs.Counting.{last_with}

-- what a further test keeps of a list without the first one of a test
pub first_left : {X : Type 0} (p : X → Bool) (xs : List X) →
    filter p (before_first p xs ++ after_first p xs) ≡ drop 1 (filter p xs)
first_left p [] = refl
first_left p (x ∷ xs) =
    elim (p x) as (λ t. p x ≡ t → filter p (take (cond (not t) (1 + place p xs) 0) (x ∷ xs)
    ++ drop (cond (not t) (1 + place p xs) 0 + 1) (x ∷ xs)) ≡ drop 1 (cond t (x ∷ filter p xs) (filter p xs))) [
      | true ↦ λ e. refl
      | false ↦ λ e.
          let one : 1 + place p xs ≡ suc (place p xs) = omega arith in
          let two : 1 + place p xs + 1 ≡ suc (place p xs + 1) = omega arith in
          ap (λ n. filter p (take n (x ∷ xs) ++ drop (1 + place p xs + 1) (x ∷ xs))) one
          ∙ ap (λ n. filter p (take (suc (place p xs)) (x ∷ xs) ++ drop n (x ∷ xs))) two
          ∙ ap (λ t. cond t (x ∷ filter p (before_first p xs ++ after_first p xs))
          (filter p (before_first p xs ++ after_first p xs))) e
          ∙ first_left p xs
    ] refl

pub others_left : {X : Type 0} (p q : X → Bool) → ((x : X) → p x ≡ true → q x ≡ false) → (xs : List X) →
    filter q (before_first p xs ++ after_first p xs) ≡ filter q xs
others_left p q apart [] = refl
others_left p q apart (x ∷ xs) =
    elim (p x) as (λ t. p x ≡ t → filter q (take (cond (not t) (1 + place p xs) 0) (x ∷ xs)
    ++ drop (cond (not t) (1 + place p xs) 0 + 1) (x ∷ xs)) ≡ filter q (x ∷ xs)) [
      | true ↦ λ e. sym (ap (λ t. cond t (x ∷ filter q xs) (filter q xs)) (apart x e))
      | false ↦ λ e.
          let one : 1 + place p xs ≡ suc (place p xs) = omega arith in
          let two : 1 + place p xs + 1 ≡ suc (place p xs + 1) = omega arith in
          ap (λ n. filter q (take n (x ∷ xs) ++ drop (1 + place p xs + 1) (x ∷ xs))) one
          ∙ ap (λ n. filter q (take (suc (place p xs)) (x ∷ xs) ++ drop n (x ∷ xs))) two
          ∙ ap (λ ys. cond (q x) (x ∷ ys) ys) (others_left p q apart xs)
    ] refl

module _ {X : Type 0} (p : X → Bool) (x : X) (xs : List X) where
  -- without the first that passes: where it stands first, and where it stands behind
  pub first_here : p x ≡ true → before_first p (x ∷ xs) ++ after_first p (x ∷ xs) ≡ xs
  first_here e =
      ap (λ t. take (cond (not t) (1 + place p xs) 0) (x ∷ xs) ++ drop (cond (not t) (1 + place p xs) 0 + 1) (x ∷ xs)) e

  pub first_behind : p x ≡ false →
      before_first p (x ∷ xs) ++ after_first p (x ∷ xs) ≡ x ∷ (before_first p xs ++ after_first p xs)
  first_behind e =
      let one : 1 + place p xs ≡ suc (place p xs) = omega arith in
      let two : 1 + place p xs + 1 ≡ suc (place p xs + 1) = omega arith in
      ap (λ t. take (cond (not t) (1 + place p xs) 0) (x ∷ xs) ++ drop (cond (not t) (1 + place p xs) 0 + 1) (x ∷ xs)) e
      ∙ ap (λ n. take n (x ∷ xs) ++ drop (1 + place p xs + 1) (x ∷ xs)) one
      ∙ ap (λ n. take (suc (place p xs)) (x ∷ xs) ++ drop n (x ∷ xs)) two

-- none passes
pub none_left : {X : Type 0} (p : X → Bool) (xs : List X) → length xs ≤ place p xs →
    before_first p xs ++ after_first p xs ≡ xs
none_left p xs h =
    ap (λ ys. ys ++ after_first p xs) (take_all (place p xs) xs h)
    ∙ ap (λ ys. xs ++ ys) (drop_all (place p xs + 1) xs (omega (arith, h))) ∙ append-nil xs

-- numbers that rise: from further down, with a higher one, and without some
rise_from : (lower low last : ℕ) (numbers : List ℕ) → lower ≤ low → Rise low last numbers → Rise lower last numbers
rise_from lower low last [] le h = omega (arith, le, h)
rise_from lower low last (n ∷ ns) le h = (omega (arith, le, h.0), h.1)

more_numbers : (low last : ℕ) (numbers : List ℕ) → Rise low last numbers →
    Rise low (last + 1) (numbers ++ (last + 1) ∷ [])
more_numbers low last [] h = (omega (arith, h), omega arith)
more_numbers low last (n ∷ ns) h = (h.0, more_numbers n last ns h.1)

fewer_numbers : {X : Type 0} (p q : X → Bool) (f : X → ℕ) (xs : List X) (low last : ℕ) →
    Rise low last (map f (filter q xs)) →
    Rise low last (map f (filter q (before_first p xs ++ after_first p xs)))
fewer_numbers p q f [] low last h = h
fewer_numbers {X} p q f (x ∷ xs) low last h =
    by_test (λ lower g. fewer_numbers p q f xs lower last g) (p x) refl (q x) refl
  where
    later : (t : Bool) → q x ≡ t → Rise low last (map f (cond t (x ∷ filter q xs) (filter q xs)))
    later t k = subst (λ s. Rise low last (map f (cond s (x ∷ filter q xs) (filter q xs)))) k h

    by_test : ((lower : ℕ) → Rise lower last (map f (filter q xs)) →
        Rise lower last (map f (filter q (before_first p xs ++ after_first p xs)))) →
        (b : Bool) → p x ≡ b → (t : Bool) → q x ≡ t →
        Rise low last (map f (filter q (before_first p (x ∷ xs) ++ after_first p (x ∷ xs))))
    by_test again true e true k =
        let g = later true k in
        subst (λ ys. Rise low last (map f (filter q ys))) (sym (first_here p x xs e))
        (rise_from low (f x) last (map f (filter q xs)) (omega (arith, g.0)) g.1)
    by_test again true e false k =
        subst (λ ys. Rise low last (map f (filter q ys))) (sym (first_here p x xs e)) (later false k)
    by_test again false e true k =
        let g = later true k in
        subst (λ ys. Rise low last (map f (filter q ys))) (sym (first_behind p x xs e))
        (subst (λ s. Rise low last (map f (cond s (x ∷ filter q (before_first p xs ++ after_first p xs))
        (filter q (before_first p xs ++ after_first p xs))))) (sym k)
        (g.0, again (f x) g.1))
    by_test again false e false k =
        subst (λ ys. Rise low last (map f (filter q ys))) (sym (first_behind p x xs e))
        (subst (λ s. Rise low last (map f (cond s (x ∷ filter q (before_first p xs ++ after_first p xs))
        (filter q (before_first p xs ++ after_first p xs))))) (sym k)
        (again low (later false k)))

map_append : {X Y : Type 0} (f : X → Y) (xs ys : List X) → map f (xs ++ ys) ≡ map f xs ++ map f ys
map_append f [] ys = refl
map_append f (x ∷ xs) ys = ap (λ zs. f x ∷ zs) (map_append f xs ys)

-- a message of one fileset is of no other
pub apart_of : (fileset other : FilesetId) → (fileset.0 == other.0) ≡ false → (message : Message) →
    is_of fileset message ≡ true → is_of other message ≡ false
apart_of fileset other apart message h = by_give (give_of message) h
  where
    by_give : (o : Option Give) → option_map_or (λ give. give.fid.fileset.0 == fileset.0) o false ≡ true →
        option_map_or (λ give. give.fid.fileset.0 == other.0) o false ≡ false
    by_give None k = refl
    by_give (Some give) k =
        ap (λ n. n == other.0) (eqb-true give.fid.fileset.0 fileset.0 k) ∙ apart

all_parts : {X : Type 0} (P : X → Type 0) (p : X → Bool) (xs : List X) → All P xs →
    All P (before_first p xs ++ after_first p xs)
all_parts P p xs all =
    All-append P (before_first p xs) (after_first p xs) (All-take P (place p xs) xs all)
    (All-drop P (place p xs + 1) xs all)

-- without the first one that passes a test
pub sound_without : (giving : Giving) (test : Message → Bool) → IsSound giving →
    IsSound (record giving { gives = without test giving.gives })
sound_without giving test sound =
    record {
      give_back = all_parts (λ message. IsTrue (is_some (give_of message))) test giving.gives sound.give_back;
      rise = λ fileset. fewer_numbers test (is_of fileset) number_of giving.gives 0 (last_of giving.counters fileset)
          (sound.rise fileset);
    }

same_fileset : (a b : FilesetId) → (a.0 == b.0) ≡ true → a ≡ b
same_fileset a b h = let n = eqb-true a.0 b.0 h in λ i. record { 0 = n i }

-- the numbers of a fileset with one give-back more
numbers_added : (giving : Giving) (message : Message) (give : Give) → give_of message ≡ Some give →
    give.number ≡ last_of giving.counters give.fid.fileset + 1 → IsSound giving → (other : FilesetId) (b : Bool) →
    (give.fid.fileset.0 == other.0) ≡ b →
    Rise 0 (last_of (with_last giving.counters give.fid.fileset give.number) other)
    (map number_of (of_fileset other (giving.gives ++ message ∷ [])))
numbers_added giving message give e next sound other true h =
    let before = of_fileset other giving.gives in
    let last = last_of giving.counters other in
    let same = same_fileset give.fid.fileset other h in
    let following : give.number ≡ last + 1 = next ∙ ap (λ f. last_of giving.counters f + 1) same in
    let passes : is_of other message ≡ true =
    ap (λ o. option_map_or (λ g. g.fid.fileset.0 == other.0) o false) e ∙ h in
    let numbered : number_of message ≡ last + 1 = ap (λ o. option_map_or (λ g. g.number) o 0) e ∙ following in
    let numbers : map number_of (of_fileset other (giving.gives ++ message ∷ []))
    ≡ map number_of before ++ (last + 1) ∷ [] =
    ap (map number_of) (filter-append (is_of other) giving.gives (message ∷ []))
    ∙ ap (λ t. map number_of (before ++ cond t (message ∷ []) [])) passes
    ∙ map_append number_of before (message ∷ [])
    ∙ ap (λ n. map number_of before ++ n ∷ []) numbered in
    let now : last_of (with_last giving.counters give.fid.fileset give.number) other ≡ last + 1 =
    last_with giving.counters give.fid.fileset give.number other ∙ ap (λ t. cond t give.number last) h ∙ following in
    subst (λ n. Rise 0 n (map number_of (of_fileset other (giving.gives ++ message ∷ [])))) (sym now)
    (subst (Rise 0 (last + 1)) (sym numbers) (more_numbers 0 last (map number_of before) (sound.rise other)))
numbers_added giving message give e next sound other false h =
    let before = of_fileset other giving.gives in
    let last = last_of giving.counters other in
    let fails : is_of other message ≡ false =
    ap (λ o. option_map_or (λ g. g.fid.fileset.0 == other.0) o false) e ∙ h in
    let kept : of_fileset other (giving.gives ++ message ∷ []) ≡ before =
    filter-append (is_of other) giving.gives (message ∷ [])
    ∙ ap (λ t. before ++ cond t (message ∷ []) []) fails ∙ append-nil before in
    let now : last_of (with_last giving.counters give.fid.fileset give.number) other ≡ last =
    last_with giving.counters give.fid.fileset give.number other ∙ ap (λ t. cond t give.number last) h in
    subst (λ n. Rise 0 n (map number_of (of_fileset other (giving.gives ++ message ∷ [])))) (sym now)
    (subst (λ ms. Rise 0 last (map number_of ms)) (sym kept) (sound.rise other))

-- with the next one
pub sound_added : (giving : Giving) (message : Message) → IsTrue (is_next giving message) → IsSound giving →
    IsSound (after_add giving message)
sound_added giving message next sound = by_give (give_of message) refl next
  where
    by_give : (o : Option Give) → give_of message ≡ o →
        IsTrue (option_map_or (λ give. give.number == last_of giving.counters give.fid.fileset + 1) o false) →
        IsSound (record { gives = giving.gives ++ message ∷ []; counters = counted giving.counters o })
    by_give None e k = absurd (search (rules, k))
    by_give (Some give) e k =
        let next : give.number ≡ last_of giving.counters give.fid.fileset + 1 = grind (arith, common_steps, k) in
        record {
          give_back = All-push (λ m. IsTrue (is_some (give_of m))) giving.gives message sound.give_back
              (subst (λ o. IsTrue (is_some o)) (sym e) (search rules));
          rise = λ other. numbers_added giving message give e next sound other (give.fid.fileset.0 == other.0) refl;
        }
