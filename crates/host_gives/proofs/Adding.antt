-- The laws of give-backs.
use Rattle.std.proofs.Common.{◌≡◌, ◌≤◌, ℕ, ◌+◌, Bool, true, false, ◌==◌, ◌&&◌, ◌||◌, not, cond, List, [], ◌∷◌, ◌++◌}
use Rattle.std.proofs.Common.{take, drop, map, Option, None, Some, refl, sym, ap, subst, ◌∙◌, arith, rules}
use Rattle.std.specs.List.{list_any, find, before_first, after_first}
use Rattle.std.specs.Option.{option_map_or}
use Rattle.std.specs.List.{filter}
use Rattle.std.proofs.lemmas.Bool.{cases_Bool, eqb-true}
use Rattle.std.proofs.lemmas.Bool.Decides.{nat_tests}
use Rattle.std.proofs.lemmas.List.Elements.{filter-append}
use Rattle.base_types.specs.declared.ids.FilesetId.{FilesetId}
use Rattle.message_types.specs.declared.giving.Give.{Give}
use Rattle.message_types.specs.declared.message.Message.{Message}
use Rattle.message_types.specs.declared.message.Body.TheVariants.{GiveBack}
use Rattle.host_gives.specs.Giving.{give_of, number_of, is_of, is_of_file, names, of_fileset, is_numbered}
use Rattle.host_gives.specs.Giving.{is_outstanding, without, without_first, outstanding, IsSound, Rise}
use Rattle.host_gives.specs.GiveLaws.{Adds, TakesOut, TakesAny}
use Rattle.host_gives.specs.Counters.{last_of}
use Rattle.host_gives.proofs.Counting.{last_with}
use Rattle.host_gives.proofs.Places.{place}
use Rattle.host_gives.proofs.Staying.{first_left, others_left, apart_of, first_here, first_behind}

any_last : {X : Type 0} (p : X → Bool) (xs : List X) (x : X) → list_any p (xs ++ x ∷ []) ≡ (list_any p xs || p x)
any_last p [] x = grind (arith, cases_Bool (p x))
any_last p (y ∷ ys) x = grind (arith, cases_Bool (p y), any_last p ys x)

pub adds : Adds
adds giving message give =
    let added : Message = record message { body = GiveBack give } in
    record {
      gives = λ fileset. filter-append (is_of fileset) giving.gives (added ∷ []);
      last = λ fileset. last_with giving.counters give.fid.fileset give.number fileset;
      named = λ id. any_last (names id) giving.gives added;
      of_file = λ fid. any_last (is_of_file fid) giving.gives added;
    }

pub takes_out : TakesOut
takes_out giving fileset number =
    record {
      gone = λ h. ap (λ t. of_fileset fileset (cond t (without_first fileset giving.gives) giving.gives)) h
          ∙ first_left (is_of fileset) giving.gives;
      kept = λ h. ap (λ t. record giving { gives = cond t (without_first fileset giving.gives) giving.gives }) h;
      others = λ other apart. by_test other apart (is_outstanding giving fileset number);
      last = refl;
    }
  where
    by_test : (other : FilesetId) → (fileset.0 == other.0) ≡ false → (b : Bool) →
        of_fileset other (cond b (without_first fileset giving.gives) giving.gives) ≡ of_fileset other giving.gives
    by_test other apart true = others_left (is_of fileset) (is_of other) (apart_of fileset other apart) giving.gives
    by_test other apart false = refl

-- ---- any number

-- where the first one passes a further test, the first that passes both is the same
module _ {X : Type 0} (p r : X → Bool) where
  abbrev both : X → Bool
  both x = p x && r x

  first_same : (xs : List X) → option_map_or r (find p xs) false ≡ true →
      (find both xs ≡ find p xs) × (place both xs ≡ place p xs)
  first_same [] h = absurd (search (rules, h))
  first_same (x ∷ xs) h = by_test (λ g. first_same xs g) (p x) refl
    where
      by_test : (option_map_or r (find p xs) false ≡ true →
          (find both xs ≡ find p xs) × (place both xs ≡ place p xs)) → (b : Bool) → p x ≡ b →
          (find both (x ∷ xs) ≡ find p (x ∷ xs)) × (place both (x ∷ xs) ≡ place p (x ∷ xs))
      by_test again true e =
          let passes : r x ≡ true =
          subst (λ t. option_map_or r (cond t (Some x) (find p xs)) false ≡ true) e h in
          let all : both x ≡ true = ap (λ t. t && r x) e ∙ passes in (
            ap (λ t. cond t (Some x) (find both xs)) all ∙ sym (ap (λ t. cond t (Some x) (find p xs)) e),
            ap (λ t. cond (not t) (1 + place both xs) 0) all ∙ sym (ap (λ t. cond (not t) (1 + place p xs) 0) e),
          )
      by_test again false e =
          let rest = again (subst (λ t. option_map_or r (cond t (Some x) (find p xs)) false ≡ true) e h) in
          let fails : both x ≡ false = ap (λ t. t && r x) e in (
            ap (λ t. cond t (Some x) (find both xs)) fails ∙ rest.0
                ∙ sym (ap (λ t. cond t (Some x) (find p xs)) e),
            ap (λ t. cond (not t) (1 + place both xs) 0) fails ∙ ap (λ n. 1 + n) rest.1
                ∙ sym (ap (λ t. cond (not t) (1 + place p xs) 0) e),
          )

  left_same : (xs : List X) → option_map_or r (find p xs) false ≡ true →
      before_first both xs ++ after_first both xs ≡ before_first p xs ++ after_first p xs
  left_same xs h = ap (λ n. take n xs ++ drop (n + 1) xs) (first_same xs h).1

-- another test passes where it did
any_apart : {X : Type 0} (p q : X → Bool) → ((x : X) → p x ≡ true → q x ≡ false) → (xs : List X) →
    list_any q (before_first p xs ++ after_first p xs) ≡ list_any q xs
any_apart p q apart [] = refl
any_apart p q apart (x ∷ xs) = by_test (any_apart p q apart xs) (p x) refl
  where
    by_test : list_any q (before_first p xs ++ after_first p xs) ≡ list_any q xs → (b : Bool) → p x ≡ b →
        list_any q (before_first p (x ∷ xs) ++ after_first p (x ∷ xs)) ≡ list_any q (x ∷ xs)
    by_test again true e = ap (list_any q) (first_here p x xs e) ∙ sym (ap (λ t. t || list_any q xs) (apart x e))
    by_test again false e = ap (list_any q) (first_behind p x xs e) ∙ ap (λ t. q x || t) again

-- a number at most one stands among numbers that rise
module _ {X : Type 0} (q : X → Bool) (f : X → ℕ) (n last : ℕ) where
  abbrev numbered : X → Bool
  numbered x = q x && (f x == n)

  none_again : (xs : List X) (low : ℕ) → n ≤ low → Rise low last (map f (filter q xs)) → list_any numbered xs ≡ false
  none_again [] low le h = refl
  none_again (x ∷ xs) low le h = by_test (λ above k g. none_again xs above k g) (q x) refl
    where
      by_test : ((above : ℕ) → n ≤ above → Rise above last (map f (filter q xs)) → list_any numbered xs ≡ false) →
          (b : Bool) → q x ≡ b → numbered x || list_any numbered xs ≡ false
      by_test again true e =
          let g = subst (λ t. Rise low last (map f (cond t (x ∷ filter q xs) (filter q xs)))) e h in
          let differs : (f x == n) ≡ false = grind (arith, nat_tests, g.0, le) in
          ap (λ t. (t && (f x == n)) || list_any numbered xs) e ∙ ap (λ t. t || list_any numbered xs) differs
          ∙ again (f x) (omega (arith, g.0, le)) g.1
      by_test again false e =
          let g = subst (λ t. Rise low last (map f (cond t (x ∷ filter q xs) (filter q xs)))) e h in
          ap (λ t. (t && (f x == n)) || list_any numbered xs) e ∙ again low le g

  gone_once : (xs : List X) (low : ℕ) → Rise low last (map f (filter q xs)) →
      list_any numbered (before_first numbered xs ++ after_first numbered xs) ≡ false
  gone_once [] low h = refl
  gone_once (x ∷ xs) low h = by_test (λ above g. gone_once xs above g) (q x) refl (f x == n) refl
    where
      behind : numbered x ≡ false → list_any numbered (before_first numbered xs ++ after_first numbered xs) ≡ false →
          list_any numbered (before_first numbered (x ∷ xs) ++ after_first numbered (x ∷ xs)) ≡ false
      behind e rest = ap (list_any numbered) (first_behind numbered x xs e)
          ∙ ap (λ t. t || list_any numbered (before_first numbered xs ++ after_first numbered xs)) e ∙ rest

      by_test : ((above : ℕ) → Rise above last (map f (filter q xs)) →
          list_any numbered (before_first numbered xs ++ after_first numbered xs) ≡ false) →
          (b : Bool) → q x ≡ b → (t : Bool) → (f x == n) ≡ t →
          list_any numbered (before_first numbered (x ∷ xs) ++ after_first numbered (x ∷ xs)) ≡ false
      by_test again true e true k =
          let g = subst (λ t. Rise low last (map f (cond t (x ∷ filter q xs) (filter q xs)))) e h in
          let same : f x ≡ n = eqb-true (f x) n k in
          let passes : numbered x ≡ true = ap (λ t. t && (f x == n)) e ∙ k in
          ap (list_any numbered) (first_here numbered x xs passes)
          ∙ none_again xs (f x) (omega (arith, same)) g.1
      by_test again true e false k =
          let g = subst (λ t. Rise low last (map f (cond t (x ∷ filter q xs) (filter q xs)))) e h in
          behind (ap (λ t. t && (f x == n)) e ∙ k) (again (f x) g.1)
      by_test again false e t k =
          let g = subst (λ t. Rise low last (map f (cond t (x ∷ filter q xs) (filter q xs)))) e h in
          behind (ap (λ t. t && (f x == n)) e) (again low g)

-- a message of one number is of no other
apart_numbers : (a b c x y z : ℕ) → ((a == b) && (x == y)) ≡ true → ((b == c) && (y == z)) ≡ false →
    ((a == c) && (x == z)) ≡ false
apart_numbers a b c x y z h k = grind (arith, nat_tests, h, k)

numbered_apart : (fileset other : FilesetId) (number n : ℕ) → ((fileset.0 == other.0) && (number == n)) ≡ false →
    (message : Message) → is_numbered fileset number message ≡ true → is_numbered other n message ≡ false
numbered_apart fileset other number n apart message h = by_give (give_of message) h
  where
    by_give : (o : Option Give) →
        (option_map_or (λ give. give.fid.fileset.0 == fileset.0) o false
        && (option_map_or (λ give. give.number) o 0 == number)) ≡ true →
        (option_map_or (λ give. give.fid.fileset.0 == other.0) o false
        && (option_map_or (λ give. give.number) o 0 == n)) ≡ false
    by_give None k = refl
    by_give (Some give) k =
        apart_numbers give.fid.fileset.0 fileset.0 other.0 give.number number n k apart

and_not : (a : Bool) → (a && not false) ≡ a
and_not true = refl
and_not false = refl

and_false : (a : Bool) → (a && not true) ≡ false
and_false true = refl
and_false false = refl

pub takes_any : TakesAny
takes_any giving fileset number =
    let p = is_of fileset in
    let r : Message → Bool = λ m. number_of m == number in
    record {
      outstanding = λ h. (
        (first_same p r giving.gives h).0 ∙ sym (ap (λ t. cond t (outstanding giving fileset) None) h),
        ap (λ gives. record giving { gives = gives }) (left_same p r giving.gives h)
            ∙ sym (ap (λ t. record giving { gives = cond t (without_first fileset giving.gives) giving.gives }) h),
      );
      is_open = λ sound other n. by_test sound other n (fileset.0 == other.0) refl (number == n) refl;
      others = λ other apart.
          others_left (is_numbered fileset number) (is_of other) (of_others other apart) giving.gives;
      last = refl;
    }
  where
    first_of : (a b : Bool) → (a && b) ≡ true → a ≡ true
    first_of true b h = refl
    first_of false b h = h

    of_others : (other : FilesetId) → (fileset.0 == other.0) ≡ false → (message : Message) →
        is_numbered fileset number message ≡ true → is_of other message ≡ false
    of_others other apart message h =
        apart_of fileset other apart message (first_of (is_of fileset message) (number_of message == number) h)

    apart_ones : (other : FilesetId) (n : ℕ) → ((fileset.0 == other.0) && (number == n)) ≡ false →
        list_any (is_numbered other n) (without (is_numbered fileset number) giving.gives)
        ≡ (list_any (is_numbered other n) giving.gives && not ((fileset.0 == other.0) && (number == n)))
    apart_ones other n apart =
        any_apart (is_numbered fileset number) (is_numbered other n) (numbered_apart fileset other number n apart)
        giving.gives
        ∙ sym (ap (λ t. list_any (is_numbered other n) giving.gives && not t) apart
        ∙ and_not (list_any (is_numbered other n) giving.gives))

    by_test : IsSound giving → (other : FilesetId) (n : ℕ) (b : Bool) → (fileset.0 == other.0) ≡ b → (t : Bool) →
        (number == n) ≡ t →
        list_any (is_numbered other n) (without (is_numbered fileset number) giving.gives)
        ≡ (list_any (is_numbered other n) giving.gives && not ((fileset.0 == other.0) && (number == n)))
    by_test sound other n true e true k =
        let fs : fileset ≡ other = (let i = eqb-true fileset.0 other.0 e in λ j. record { 0 = i j }) in
        let ns : number ≡ n = eqb-true number n k in
        ap (λ f. list_any (is_numbered f n) (without (is_numbered fileset number) giving.gives)) (sym fs)
        ∙ ap (λ m. list_any (is_numbered fileset m) (without (is_numbered fileset number) giving.gives)) (sym ns)
        ∙ gone_once (is_of fileset) number_of number (last_of giving.counters fileset) giving.gives 0
        (sound.rise fileset)
        ∙ sym (and_false (list_any (is_numbered other n) giving.gives))
        ∙ sym (ap (λ t. list_any (is_numbered other n) giving.gives && not (t && (number == n))) e
        ∙ ap (λ t. list_any (is_numbered other n) giving.gives && not t) k)
    by_test sound other n true e false k = apart_ones other n (ap (λ t. t && (number == n)) e ∙ k)
    by_test sound other n false e t k = apart_ones other n (ap (λ t. t && (number == n)) e)
