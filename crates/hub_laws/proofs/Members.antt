-- What stands in lists.
use Rattle.std.proofs.Common.{◌≡◌, ◌⊎◌, ⊎_elim, inl, inr, List, [], ◌∷◌, ◌++◌, map, refl, sym, ap, subst}
use Rattle.std.specs.List.{flat_map}
use Rattle.message_types.specs.declared.message.Message.{Message}
use Rattle.script_lines.specs.declared.script.Script.{Script}
use Rattle.run_rules.specs.Past.{EachInTurn, In, appended}
use Rattle.run_rules.specs.Plans.{Copy, copies_of, fate_of, left_after, post, ways_in}
use Rattle.run_rules.specs.declared.fate.Left.{Left}
use Rattle.run_rules.specs.declared.fate.Way.{Way}
use Rattle.hub_laws.specs.Taking.{Holds, Embeds}

pub in_map : {A B : Type 0} (f : A → B) (b : B) (xs : List A) → In b (map f xs) → (x : A) × In x xs × (b ≡ f x)
in_map f b [] i = absurd i
in_map f b (x ∷ xs) i = ⊎_elim
    (λ (e : b ≡ f x). (x, inl refl, e))
    (λ (k : In b (map f xs)). let j = in_map f b xs k in (j.0, inr j.1, j.2))
    i

pub map_in : {A B : Type 0} (f : A → B) (x : A) (xs : List A) → In x xs → In (f x) (map f xs)
map_in f x [] i = absurd i
map_in f x (y ∷ xs) i = ⊎_elim (λ (e : x ≡ y). inl (ap f e)) (λ (k : In x xs). inr (map_in f x xs k)) i

module _ {A : Type 0} where
  pub in_append : (x : A) (xs ys : List A) → In x (xs ++ ys) → In x xs ⊎ In x ys
  in_append x [] ys h = inr h
  in_append x (y ∷ xs) ys h = ⊎_elim
      (λ (e : x ≡ y). inl (inl e))
      (λ (i : In x (xs ++ ys)). ⊎_elim (λ (a : In x xs). inl (inr a)) (λ (b : In x ys). inr b) (in_append x xs ys i))
      h

  pub in_front : (x : A) (xs ys : List A) → In x xs → In x (xs ++ ys)
  in_front x [] ys h = absurd h
  in_front x (y ∷ xs) ys h = ⊎_elim (λ (e : x ≡ y). inl e) (λ (i : In x xs). inr (in_front x xs ys i)) h

  pub in_back : (x : A) (xs ys : List A) → In x ys → In x (xs ++ ys)
  in_back x [] ys h = h
  in_back x (y ∷ xs) ys h = inr (in_back x xs ys h)

  held_in : (x : A) (ys rest : List A) → Holds x ys rest → In x ys
  held_in x [] rest h = absurd h
  held_in x (y ∷ ys) rest h = ⊎_elim
      (λ (u : (x ≡ y) × (rest ≡ ys)). inl u.0)
      (λ (u : (r : List A) × (rest ≡ y ∷ r) × Holds x ys r). inr (held_in x ys u.0 u.2))
      h

  rest_in : (x z : A) (ys rest : List A) → Holds x ys rest → In z rest → In z ys
  rest_in x z [] rest h i = absurd h
  rest_in x z (y ∷ ys) rest h i = ⊎_elim
      (λ (u : (x ≡ y) × (rest ≡ ys)). inr (subst (In z) u.1 i))
      (λ (u : (r : List A) × (rest ≡ y ∷ r) × Holds x ys r). ⊎_elim
      (λ (e : z ≡ y). inl e) (λ (k : In z u.0). inr (rest_in x z ys u.0 u.2 k)) (subst (In z) u.1 i))
      h

  pub embeds_in : (xs ys : List A) (x : A) → Embeds xs ys → In x xs → In x ys
  embeds_in [] ys x e i = absurd i
  embeds_in (z ∷ xs) ys x e i = ⊎_elim
      (λ (same : x ≡ z). subst (λ w. In w ys) (sym same) (held_in z ys e.0 e.1))
      (λ (k : In x xs). rest_in z x ys e.0 e.1 (embeds_in xs e.0 x e.2 k))
      i

  pub in_after : (x : A) (xs past : List A) → In x past → In x (appended xs past)
  in_after x [] past i = i
  in_after x (y ∷ xs) past i = in_after x xs (y ∷ past) (inr i)

  pub each_map : (P Q : List A → A → Type 0) → ((past : List A) (x : A) → P past x → Q past x) → (xs past : List A)
      → EachInTurn P xs past → EachInTurn Q xs past
  each_map P Q f [] past e = tt
  each_map P Q f (x ∷ xs) past e = (f past x e.0, each_map P Q f xs (x ∷ past) e.1)

-- copies are of the messages
pub copies_in : (script : Script) (ms earlier : List Message) (left : Left) (c : Copy)
    → In c (flat_map copies_of (post script earlier left ms)) → In c.message ms
copies_in script [] earlier left c i = absurd i
copies_in script (m ∷ ms) earlier left c i =
    let fate = fate_of script earlier m left in
    let make : Way → Copy = λ way. record { message = m; way = way } in
    ⊎_elim
    (λ (a : In c (map make (ways_in fate))). let j = in_map make c (ways_in fate) a in inl
    (ap (λ (x : Copy). x.message) j.2))
    (λ (b : In c (flat_map copies_of (post script (earlier ++ m ∷ []) (left_after script earlier m left) ms))).
    inr (copies_in script ms (earlier ++ m ∷ []) (left_after script earlier m left) c b))
    (in_append c (map make (ways_in fate)) (flat_map copies_of
    (post script (earlier ++ m ∷ []) (left_after script earlier m left) ms)) i)
