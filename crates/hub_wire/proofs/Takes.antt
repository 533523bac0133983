-- What is taken is the first that may arrive.
use Rattle.std.proofs.Common.{◌≡◌, ℕ, suc, ◌+◌, ◌≤◌, ◌<◌, Bool, true, false, not, cond, List, [], ◌∷◌, ◌++◌, length}
use Rattle.std.proofs.Common.{get_or, All, Option, Some, None, is_some, nat_lt, refl, ap, subst, ◌∙◌, arith, rules}
use Rattle.std.specs.List.{find, position, prefix_len, remove}
use Rattle.std.specs.Option.{option_map, option_map_or}
use Rattle.std.proofs.lemmas.Bool.{cases_Bool, ltb-true, ltb-false, lt-ltb, le-ltb}
use Rattle.std.proofs.lemmas.Grind.{common_steps}
use Rattle.std.proofs.lemmas.List.Elements.{All-cons, All-nil}
use Rattle.message_types.specs.declared.message.Message.{Message}
use Rattle.hub_wire.specs.Laws.{TakesFirst}
use Rattle.hub_wire.specs.Packets.{is_next}
use Rattle.hub_wire.specs.declared.packet.Packet.{Packet}

-- the place of the first element that passes, or the length
abbrev pub place : {X : Type 0} → (X → Bool) → List X → ℕ
place p xs = prefix_len (λ x. not (p x)) xs

pub found_there : {X : Type 0} (p : X → Bool) (xs : List X) (x : X) → place p xs < length xs →
    x ≡ get_or xs (place p xs) x → Some x ≡ find p xs
found_there p [] x lt e = absurd (omega (arith, lt))
found_there p (y ∷ ys) x lt e = grind (arith, common_steps, cases_Bool (p y), found_there p ys x)

pub none_there : {X : Type 0} (p : X → Bool) (xs : List X) → length xs ≤ place p xs → None ≡ find p xs
none_there p [] h = refl
none_there p (y ∷ ys) h = grind (arith, common_steps, cases_Bool (p y), none_there p ys)

pub some_there : {X : Type 0} (p : X → Bool) (xs : List X) → place p xs < length xs → true ≡ is_some (find p xs)
some_there p [] lt = absurd (omega (arith, lt))
some_there p (y ∷ ys) lt = grind (arith, common_steps, cases_Bool (p y), some_there p ys)

module _ {X : Type 0} (p : X → Bool) (xs : List X) where
  -- where the place is known
  pub at_place : (i : ℕ) → position p xs ≡ Some i → (place p xs < length xs) × (i ≡ place p xs)
  at_place i h = by_test (nat_lt (place p xs) (length xs)) refl h
    where
      by_test : (b : Bool) → nat_lt (place p xs) (length xs) ≡ b → cond b (Some (place p xs)) None ≡ Some i →
          (place p xs < length xs) × (i ≡ place p xs)
      by_test true e k = grind (arith, common_steps, e, k)
      by_test false e k = absurd (search (rules, k))

  pub at_none : position p xs ≡ None → length xs ≤ place p xs
  at_none h = by_test (nat_lt (place p xs) (length xs)) refl h
    where
      by_test : (b : Bool) → nat_lt (place p xs) (length xs) ≡ b → cond b (Some (place p xs)) None ≡ None →
          length xs ≤ place p xs
      by_test true e k = absurd (search (rules, k))
      by_test false e k = grind (arith, common_steps, e)

-- a list round the first element that passes
record Split {X : Type 0} (p : X → Bool) (xs : List X) (x : X) : Type 0 where
  earlier : List X
  later : List X
  among : xs ≡ earlier ++ x ∷ later
  fits : p x ≡ true
  first : All (λ y. p y ≡ false) earlier
  left : option_map_or (λ i. remove xs i) (position p xs) xs ≡ earlier ++ later

-- what is left of a list where the place of the first element that passes is this
abbrev left_at : {X : Type 0} → X → List X → ℕ → List X
left_at y ys n = option_map_or (λ i. remove (y ∷ ys) i) (cond (nat_lt n (length (y ∷ ys))) (Some n) None) (y ∷ ys)

left_later : {X : Type 0} (y : X) (ys : List X) (n : ℕ) (b : Bool) → nat_lt n (length ys) ≡ b
    → left_at y ys (suc n) ≡ y ∷ option_map_or (λ i. remove ys i) (cond b (Some n) None) ys
left_later y ys n true e =
    let lt = ltb-true n (length ys) e in
    ap (λ b. option_map_or (λ i. remove (y ∷ ys) i) (cond b (Some (suc n)) None) (y ∷ ys))
    (lt-ltb (suc n) (suc (length ys)) (omega (arith, lt)))
left_later y ys n false e =
    let le = ltb-false n (length ys) e in
    ap (λ b. option_map_or (λ i. remove (y ∷ ys) i) (cond b (Some (suc n)) None) (y ∷ ys))
    (le-ltb (suc n) (suc (length ys)) (omega (arith, le)))

-- what is left where the first one fails
left_behind : {X : Type 0} (p : X → Bool) (y : X) (ys : List X) → p y ≡ false
    → option_map_or (λ i. remove (y ∷ ys) i) (position p (y ∷ ys)) (y ∷ ys)
    ≡ y ∷ option_map_or (λ i. remove ys i) (position p ys) ys
left_behind p y ys fails =
    let more : 1 + place p ys ≡ suc (place p ys) = omega arith in
    ap (λ b. left_at y ys (cond (not b) (1 + place p ys) 0)) fails ∙ ap (left_at y ys) more
    ∙ left_later y ys (place p ys) (nat_lt (place p ys) (length ys)) refl

-- what is left where the first one passes
left_first : {X : Type 0} (p : X → Bool) (y : X) (ys : List X) → p y ≡ true
    → option_map_or (λ i. remove (y ∷ ys) i) (position p (y ∷ ys)) (y ∷ ys) ≡ ys
left_first p y ys passes =
    ap (λ b. left_at y ys (cond (not b) (1 + place p ys) 0)) passes
    ∙ ap (λ b. option_map_or (λ i. remove (y ∷ ys) i) (cond b (Some 0) None) (y ∷ ys))
    (lt-ltb 0 (suc (length ys)) (omega arith))

split_first : {X : Type 0} (p : X → Bool) (y : X) (ys : List X) (x : X) → p y ≡ true → y ≡ x → Split p (y ∷ ys) x
split_first p y ys x h same = record {
  earlier = [];
  later = ys;
  among = ap (λ z. z ∷ ys) same;
  fits = subst (λ z. p z ≡ true) same h;
  first = All-nil (λ z. p z ≡ false);
  left = left_first p y ys h;
}

split_later : {X : Type 0} (p : X → Bool) (y : X) (ys : List X) (x : X) → p y ≡ false → Split p ys x → Split p
    (y ∷ ys) x
split_later p y ys x h rest = record {
  earlier = y ∷ rest.earlier;
  later = rest.later;
  among = ap (λ zs. y ∷ zs) rest.among;
  fits = rest.fits;
  first = All-cons (λ z. p z ≡ false) y rest.earlier h rest.first;
  left = left_behind p y ys h ∙ ap (λ zs. y ∷ zs) rest.left;
}

split_either : {X : Type 0} (p : X → Bool) (y : X) (ys : List X) (x : X) (b : Bool) → p y ≡ b
    → (find p ys ≡ Some x → Split p ys x) → cond b (Some y) (find p ys) ≡ Some x → Split p (y ∷ ys) x
split_either p y ys x true h rest e = split_first p y ys x h (let same : y ≡ x = cc in same)
split_either p y ys x false h rest e = split_later p y ys x h (rest e)

split_at : {X : Type 0} (p : X → Bool) (xs : List X) (x : X) → find p xs ≡ Some x → Split p xs x
split_at p [] x e = absurd (cc)
split_at p (y ∷ ys) x e = split_either p y ys x (p y) refl (split_at p ys x) e

none_either : {X : Type 0} (p : X → Bool) (y : X) (ys : List X) (b : Bool) → p y ≡ b
    → (find p ys ≡ None → All (λ x. p x ≡ false) ys) → cond b (Some y) (find p ys) ≡ None
    → All (λ x. p x ≡ false) (y ∷ ys)
none_either p y ys true h rest e = absurd (cc)
none_either p y ys false h rest e = All-cons (λ x. p x ≡ false) y ys h (rest e)

none_passes : {X : Type 0} (p : X → Bool) (xs : List X) → find p xs ≡ None → All (λ x. p x ≡ false) xs
none_passes p [] e = All-nil (λ x. p x ≡ false)
none_passes p (y ∷ ys) e = none_either p y ys (p y) refl (none_passes p ys) e

stay_either : {X : Type 0} (p : X → Bool) (y : X) (ys : List X) (b : Bool) → p y ≡ b
    → (find p ys ≡ None → option_map_or (λ i. remove ys i) (position p ys) ys ≡ ys) → cond b (Some y) (find p ys) ≡ None
    → option_map_or (λ i. remove (y ∷ ys) i) (position p (y ∷ ys)) (y ∷ ys) ≡ y ∷ ys
stay_either p y ys true h rest e = absurd (cc)
stay_either p y ys false h rest e = left_behind p y ys h ∙ ap (λ zs. y ∷ zs) (rest e)

-- where none passes, all stay
pub all_stay : {X : Type 0} (p : X → Bool) (xs : List X) → find p xs ≡ None
    → option_map_or (λ i. remove xs i) (position p xs) xs ≡ xs
all_stay p [] e = refl
all_stay p (y ∷ ys) e = stay_either p y ys (p y) refl (all_stay p ys) e

-- what a mapped option comes from
mapped_from : {X Y : Type 0} (f : X → Y) (o : Option X) (y : Y) → option_map f o ≡ Some y → (x : X) × (o ≡ Some x)
    × (f x ≡ y)
mapped_from f None y e = absurd (cc)
mapped_from f (Some x) y e = (x, refl, (let same : f x ≡ y = cc in same))

mapped_none : {X Y : Type 0} (f : X → Y) (o : Option X) → option_map f o ≡ None → o ≡ None
mapped_none f None e = refl
mapped_none f (Some x) e = absurd (cc)

pub takes_first : TakesFirst
takes_first net node =
    let p = is_next net.packets net.steps node in
    let message : Packet → Message = λ packet. packet.message in (
      (λ m e.
          let found = mapped_from message (find p net.packets) m e in
          let split = split_at p net.packets found.0 found.1 in
          record {
            earlier = split.earlier;
            packet = found.0;
            later = split.later;
            among = split.among;
            own = found.2;
            fits = split.fits;
            first = split.first;
            left = split.left;
          }),
      (λ e.
          let none = mapped_none message (find p net.packets) e in (
            none_passes p net.packets none,
            ap (λ (ps : List Packet). record net { packets = ps })
                (all_stay p net.packets none),
          )),
    )
