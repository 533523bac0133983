-- What queued wants ask back.
use Rattle.std.proofs.Common.{◌≡◌, Bool, true, false, ◌&&◌, ◌||◌, not, List, [], ◌∷◌, ◌++◌, map, refl, inl, inr, ap}
use Rattle.std.proofs.Common.{sym}
use Rattle.std.proofs.Common.{◌∙◌, append-nil, append_assoc}
use Rattle.std.specs.Prelude.{All}
use Rattle.std.specs.List.{list_any, filter}
use Rattle.std.proofs.lemmas.Bool.{cases_Bool}
use Rattle.std.proofs.lemmas.List.Elements.{All-nil, All-append, All-map}
use Rattle.std.proofs.lemmas.List.Folds.{list_any-append}
use Rattle.token_types.specs.Conflicts.{blocks}
use Rattle.token_types.specs.declared.token.Token.{Token}
use Rattle.token_table.specs.Marks.{is_pinned, is_revoked}
use Rattle.token_manager.specs.declared.grants.Grants.{Grants}
use Rattle.token_manager.specs.declared.want.Want.{Want}
use Rattle.token_manager.specs.declared.want.Wanted.{Wanted}
use Rattle.token_manager.specs.Grants.{asked_back, blocks_any, is_own, to_revoke, wanted_for, wanted_from}
use Rattle.token_manager.specs.WantedLaws.{AreJustWanted, AreMarked}
use Rattle.token_manager.proofs.Revoking.{any_kept, revokes_just_those}

-- the tokens of what is asked back are the tokens
tokens_back : (grants : Grants) (test : Token → Bool) (tokens : List Token) →
    list_any test (map (λ wanted. wanted.token) (map (asked_back grants.notes) tokens)) ≡ list_any test tokens
tokens_back grants test [] = refl
tokens_back grants test (x ∷ xs) = ap (λ b. test x || b) (tokens_back grants test xs)

map_append : {X Y : Type 0} (f : X → Y) (xs ys : List X) → map f (xs ++ ys) ≡ map f xs ++ map f ys
map_append f [] ys = refl
map_append f (x ∷ xs) ys = ap (λ l. f x ∷ l) (map_append f xs ys)

any_same : {X : Type 0} (p q : X → Bool) → ((x : X) → p x ≡ q x) → (xs : List X) → list_any p xs ≡ list_any q xs
any_same p q same [] = refl
any_same p q same (x ∷ xs) = (λ i. same x i || any_same p q same xs i)

any_either : {X : Type 0} (p q : X → Bool) (xs : List X) →
    (list_any p xs || list_any q xs) ≡ list_any (λ x. p x || q x) xs
any_either p q [] = refl
any_either p q (x ∷ xs) = regrouped (p x) (q x) (list_any p xs) (list_any q xs)
    ∙ ap (λ b. (p x || q x) || b) (any_either p q xs)
  where
    regrouped : (a b c d : Bool) → ((a || c) || (b || d)) ≡ ((a || b) || (c || d))
    regrouped true b c d = refl
    regrouped false true true d = refl
    regrouped false true false d = refl
    regrouped false false c d = refl

or_false : (b : Bool) → (b || false) ≡ b
or_false true = refl
or_false false = refl

-- a token may go, but for where it stands
abbrev may_go : Grants → Token → Bool
may_go grants token = not (is_pinned grants.notes token.id) && not (is_own token)

-- those of one want, and those of the earlier ones
one_more : (blocking earlier pinned own test : Bool) →
    ((blocking && (not pinned && (not (own || earlier) && test))) || (earlier && ((not pinned && not own) && test)))
    ≡ ((earlier || blocking) && ((not pinned && not own) && test))
one_more blocking earlier true own test = go blocking earlier
  where
    go : (b e : Bool) → ((b && false) || (e && false)) ≡ ((e || b) && false)
    go true true = refl
    go true false = refl
    go false true = refl
    go false false = refl
one_more blocking earlier false true test = go blocking earlier
  where
    go : (b e : Bool) → ((b && false) || (e && false)) ≡ ((e || b) && false)
    go true true = refl
    go true false = refl
    go false true = refl
    go false false = refl
one_more true true false false test = refl
one_more true false false false true = refl
one_more true false false false false = refl
one_more false true false false test = refl
one_more false false false false test = refl

blocks_more : (earlier : List Want) (want : Want) (token : Token) →
    blocks_any (earlier ++ want ∷ []) token ≡ (blocks_any earlier token || blocks want.host want.needs token)
blocks_more earlier want token = list_any-append (λ w. blocks w.host w.needs token) earlier (want ∷ [])
    ∙ ap (λ b. blocks_any earlier token || b) (or_false (blocks want.host want.needs token))

module _ (grants : Grants) (test : Token → Bool) where
  -- those in the way of some wants
  abbrev in_way : List Want → Bool
  in_way wants = list_any (λ token. blocks_any wants token && (may_go grants token && test token)) grants.table.tokens

  of_one : (earlier : List Want) (want : Want) →
      (list_any test (map (λ wanted. wanted.token) (wanted_for grants earlier want)) || in_way earlier)
      ≡ in_way (earlier ++ want ∷ [])
  of_one earlier want =
      let stays : Token → Bool = λ token. not (is_own token || blocks_any earlier token) in
      ap (λ b. b || in_way earlier)
      (tokens_back grants test (filter stays (to_revoke grants want))
      ∙ any_kept stays test (to_revoke grants want)
      ∙ revokes_just_those grants want (λ token. stays token && test token))
      ∙ any_either
      (λ token. blocks want.host want.needs token && (not (is_pinned grants.notes token.id) && (stays token && test
      token)))
      (λ token. blocks_any earlier token && (may_go grants token && test token)) grants.table.tokens
      ∙ any_same
      (λ token. (blocks want.host want.needs token && (not (is_pinned grants.notes token.id) && (stays token && test
      token))) || (blocks_any earlier token && (may_go grants token && test token)))
      (λ token. blocks_any (earlier ++ want ∷ []) token && (may_go grants token && test token))
      (λ token. one_more (blocks want.host want.needs token) (blocks_any earlier token)
      (is_pinned grants.notes token.id) (is_own token) (test token)
      ∙ ap (λ b. b && (may_go grants token && test token)) (sym (blocks_more earlier want token))) grants.table.tokens

  or_turned : (a b c : Bool) → ((a || b) || c) ≡ (b || (a || c))
  or_turned true true c = refl
  or_turned true false c = refl
  or_turned false b c = refl

  of_all : (earlier queue : List Want) →
      (list_any test (map (λ wanted. wanted.token) (wanted_from grants earlier queue)) || in_way earlier)
      ≡ in_way (earlier ++ queue)
  of_all earlier [] = ap in_way (sym (append-nil earlier))
  of_all earlier (want ∷ queue) =
      let first = list_any test (map (λ wanted. wanted.token) (wanted_for grants earlier want)) in
      let rest = list_any test (map (λ wanted. wanted.token) (wanted_from grants (earlier ++ want ∷ []) queue)) in
      ap (λ l. list_any test l || in_way earlier)
      (map_append (λ (w : Wanted). w.token) (wanted_for grants earlier want)
      (wanted_from grants (earlier ++ want ∷ []) queue))
      ∙ ap (λ b. b || in_way earlier)
      (list_any-append test (map (λ wanted. wanted.token) (wanted_for grants earlier want))
      (map (λ wanted. wanted.token) (wanted_from grants (earlier ++ want ∷ []) queue)))
      ∙ or_turned first rest (in_way earlier)
      ∙ ap (λ b. rest || b) (of_one earlier want)
      ∙ of_all (earlier ++ want ∷ []) queue
      ∙ ap in_way (append_assoc earlier (want ∷ []) queue)

none_before : (grants : Grants) (test : Token → Bool) (tokens : List Token) →
    list_any (λ token. blocks_any [] token && (may_go grants token && test token)) tokens ≡ false
none_before grants test [] = refl
none_before grants test (x ∷ xs) = none_before grants test xs

and_regrouped : (a b c : Bool) → (a && (b && c)) ≡ ((a && b) && c)
and_regrouped true b c = refl
and_regrouped false b c = refl

pub are_just_wanted : AreJustWanted
are_just_wanted manager test =
    let grants = manager.grants in
    let found = list_any test (map (λ wanted. wanted.token) (wanted_from grants [] manager.queue)) in
    sym (or_false found)
    ∙ ap (λ b. found || b) (sym (none_before grants test grants.table.tokens))
    ∙ of_all grants test [] manager.queue
    ∙ any_same (λ token. blocks_any manager.queue token && (may_go grants token && test token))
    (λ token. (blocks_any manager.queue token && may_go grants token) && test token)
    (λ token. and_regrouped (blocks_any manager.queue token) (may_go grants token) (test token)) grants.table.tokens

abbrev IsMarked : Grants → Wanted → Type 0
IsMarked grants wanted = wanted.revoked ≡ is_revoked grants.notes wanted.token.id

marked_from : (grants : Grants) (earlier queue : List Want) → All (IsMarked grants) (wanted_from grants earlier queue)
marked_from grants earlier [] = All-nil (IsMarked grants)
marked_from grants earlier (want ∷ queue) =
    All-append (IsMarked grants) (wanted_for grants earlier want) (wanted_from grants (earlier ++ want ∷ []) queue)
    (All-map (IsMarked grants) (asked_back grants.notes)
    (filter (λ token. not (is_own token || blocks_any earlier token)) (to_revoke grants want)) (λ k d within. refl))
    (marked_from grants (earlier ++ want ∷ []) queue)

pub are_marked : AreMarked
are_marked manager = marked_from manager.grants [] manager.queue
