-- Tokens that messages in slots name.
use Rattle.std.proofs.Common.{◌≡◌, ℕ, ◌<◌, ◌+◌, suc, zero, Bool, true, false, ◌||◌, ◌&&◌, ◌==◌, List, [], ◌∷◌, ◌++◌}
use Rattle.std.proofs.Common.{length, take, get_or, cond, Option, Some, None, refl, sym, ap, subst}
use Rattle.std.proofs.Common.{◌∙◌, arith}
use Rattle.std.specs.Prelude.{slice_set}
use Rattle.std.specs.List.{list_any}
use Rattle.std.proofs.lemmas.Bool.{and_parts, eqb-true}
use Rattle.std.proofs.lemmas.Bool.Decides.{nat_tests}
use Rattle.std.proofs.lemmas.List.Folds.{list_any-append, list_any_more}
use Rattle.message_types.specs.declared.message.Message.{Message}
use Rattle.token_types.specs.Conflicts.{same_id}
use Rattle.token_types.specs.declared.token.TokenId.{TokenId}
use Rattle.host_gives.specs.Giving.{names}
use Rattle.host_gives.specs.Named.{AreNamed, IdKey, Keeps, has_id, id_key, same_key}
use Rattle.host_gives.specs.Slots.{held_in, holds}
use Rattle.host_gives.proofs.Emptied.{any_held}

pub either : {P : Type 0} (a b : Bool) → (a || b) ≡ true → (a ≡ true → P) → (b ≡ true → P) → P
either true b e first second = first refl
either false b e first second = second e

or_false : (a : Bool) → (a || false) ≡ true → a ≡ true
or_false true e = refl
or_false false e = e

or_left : (a : Bool) → a ≡ true → (a || false) ≡ true
or_left true e = refl
or_left false e = e

or_right : (a b : Bool) → b ≡ true → (a || b) ≡ true
or_right true b e = refl
or_right false b e = e

or_more : (a b c : Bool) → (b ≡ true → c ≡ true) → (a || b) ≡ true → (a || c) ≡ true
or_more true b c more e = refl
or_more false b c more e = more e

-- a slot that is emptied names nothing more
any_emptied : (test : Message → Bool) (xs : List (Option Message)) (i : ℕ) →
    list_any (holds test) (slice_set xs i None) ≡ true → list_any (holds test) xs ≡ true
any_emptied test [] i e = e
any_emptied test (x ∷ xs) zero e = or_right (holds test x) (list_any (holds test) xs) e
any_emptied test (x ∷ xs) (suc i) e =
    or_more (holds test x) (list_any (holds test) (slice_set xs i None)) (list_any (holds test) xs)
    (any_emptied test xs i) e

pub named_emptied : (xs : List (Option Message)) (i : ℕ) (named : List IdKey) → AreNamed xs named →
    AreNamed (slice_set xs i None) named
named_emptied xs i named are id e = are id (any_emptied (names id) xs i e)

pub named_kept : (xs : List (Option Message)) (old new : List IdKey) → Keeps old new → AreNamed xs old → AreNamed xs new
named_kept xs old new keeps are id e = keeps id (are id e)

pub named_added : (xs : List (Option Message)) (x : Option Message) (old new : List IdKey) → Keeps old new →
    AreNamed xs old → AreNamed (x ∷ []) new → AreNamed (xs ++ x ∷ []) new
named_added xs x old new keeps are is id e =
    either (list_any (holds (names id)) xs) (list_any (holds (names id)) (x ∷ []))
    (sym (list_any-append (holds (names id)) xs (x ∷ [])) ∙ e) (λ k. keeps id (are id k)) (is id)

pub named_one : (m : Message) (new : List IdKey) → ((id : TokenId) → names id m ≡ true → has_id new id ≡ true) →
    AreNamed (Some m ∷ []) new
named_one m new noted id e = noted id (or_false (names id m) e)

pub named_none : (new : List IdKey) → AreNamed (None ∷ []) new
named_none new id e = absurd (cc)

pub named_next : (xs : List (Option Message)) (i : ℕ) (x : Option Message) (old new : List IdKey) → i < length xs →
    x ≡ get_or xs i x → Keeps old new → AreNamed (take i xs) old → AreNamed (x ∷ []) new →
    AreNamed (take (i + 1) xs) new
named_next xs i x old new low at keeps are is id e =
    either (list_any (holds (names id)) (take i xs)) (holds (names id) x)
    (ap (λ y. list_any (holds (names id)) (take i xs) || holds (names id) y) at
    ∙ sym (list_any_more (holds (names id)) xs i x low) ∙ e)
    (λ k. keeps id (are id k)) (λ k. is id (or_left (holds (names id) x) k))

pub named_same : (xs ys : List (Option Message)) (named : List IdKey) → held_in ys ≡ held_in xs → AreNamed xs named →
    AreNamed ys named
named_same xs ys named same are id e =
    are id (any_held (names id) xs ∙ sym (ap (list_any (names id)) same) ∙ sym (any_held (names id) ys) ∙ e)

apart : true ≡ false → ⊥
apart k = absurd (cc)

-- what none names
pub unnamed : (xs : List (Option Message)) (named : List IdKey) (id : TokenId) → AreNamed xs named →
    has_id named id ≡ false → false ≡ list_any (names id) (held_in xs)
unnamed xs named id are absent = by_test (list_any (holds (names id)) xs) refl
  where
    by_test : (b : Bool) → list_any (holds (names id)) xs ≡ b → false ≡ list_any (names id) (held_in xs)
    by_test true e = absurd (apart (sym (are id e) ∙ absent))
    by_test false e = sym e ∙ any_held (names id) xs

-- ---- keys
pub same_key_itself : (a : IdKey) → same_key a a ≡ true
same_key_itself a = numbers_same a.0 a.1.0 a.1.1
  where
    numbers_same : (x y z : ℕ) → ((x == x) && ((y == y) && (z == z))) ≡ true
    numbers_same x y z = grind (arith, nat_tests)

-- the keys with one more
pub keeps_put : (old new : List IdKey) (key : IdKey) →
    ((q : IdKey) → list_any (same_key q) new ≡ cond (same_key key q) true (list_any (same_key q) old)) → Keeps old new
keeps_put old new key puts id e =
    puts (id_key id) ∙ by_test (same_key key (id_key id)) (list_any (same_key (id_key id)) old) e
  where
    by_test : (a b : Bool) → b ≡ true → cond a true b ≡ true
    by_test true b k = refl
    by_test false b k = k

pub put_there : (old new : List IdKey) (key : IdKey) →
    ((q : IdKey) → list_any (same_key q) new ≡ cond (same_key key q) true (list_any (same_key q) old)) →
    list_any (same_key key) new ≡ true
put_there old new key puts =
    puts key ∙ ap (λ b. cond b true (list_any (same_key key) old)) (same_key_itself key)

id_is : (a b : TokenId) → same_id a b ≡ true → a ≡ b
id_is a b h =
    let both = and_parts ((a.server.0 == b.server.0) && (a.epoch == b.epoch)) (a.seq == b.seq) h in
    let first = and_parts (a.server.0 == b.server.0) (a.epoch == b.epoch) both.0 in
    let x : a.server.0 ≡ b.server.0 = eqb-true a.server.0 b.server.0 first.0 in
    let y : a.epoch ≡ b.epoch = eqb-true a.epoch b.epoch first.1 in
    let z : a.seq ≡ b.seq = eqb-true a.seq b.seq both.1 in
    λ i. record { server = record { 0 = x i }; epoch = y i; seq = z i }

-- one more of some tokens
pub noted_next : (ids : List TokenId) (i : ℕ) (x : TokenId) (old new : List IdKey) → i < length ids →
    x ≡ get_or ids i x → Keeps old new →
    ((id : TokenId) → list_any (λ other. same_id other id) (take i ids) ≡ true → has_id old id ≡ true) →
    has_id new x ≡ true →
    (id : TokenId) → list_any (λ other. same_id other id) (take (i + 1) ids) ≡ true → has_id new id ≡ true
noted_next ids i x old new low at keeps noted is id e =
    either (list_any (λ other. same_id other id) (take i ids)) (same_id x id)
    (ap (λ y. list_any (λ other. same_id other id) (take i ids) || same_id y id) at
    ∙ sym (list_any_more (λ other. same_id other id) ids i x low) ∙ e)
    (λ k. keeps id (noted id k)) (λ k. subst (λ q. has_id new q ≡ true) (id_is x id k) is)
