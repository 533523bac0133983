-- Tests on lists and on plain data, and what they tell.
use Rattle.std.proofs.Common.{Bool, List, None, Option, Some, [], ap, false, inl, inr, refl, subst, sym, true}
use Rattle.std.proofs.Common.{ℕ, ◌&&◌, ◌++◌, ◌==◌, ◌∙◌, ◌∷◌, ◌≡◌, ◌⊎◌, ◌≤◌}
use Rattle.std.proofs.lemmas.Bool.{and_parts, and_from, or_cases, or_left, or_right, eqb-true, eq-eqb}
use Rattle.std.specs.Prelude.{not, nat_eq, flat_map, if◌then◌else◌}
use Rattle.std.specs.List.{filter, list_all, list_any}
use Rattle.std.proofs.Common.{cond}
use Rattle.std.proofs.Math.Bridge.{le_prop}
use Rattle.base_types.specs.declared.limits.TheConstants.{FILE_BYTES_MAX}
use Rattle.std.specs.Cmp.Lexicographic.{pointwise}
use Rattle.base_types.specs.Ids.{same_fid}
use Rattle.base_types.specs.Name.{same_name}
use Rattle.base_types.specs.declared.ids.Fid.{Fid}
use Rattle.base_types.specs.declared.ids.FilesetId.{FilesetId}
use Rattle.base_types.specs.declared.ids.HostId.{HostId}
use Rattle.base_types.specs.declared.ids.ServerId.{ServerId}
use Rattle.base_types.specs.declared.span.Span.{Span}
use Rattle.tree_calls.specs.declared.call.Call.{Call}
use Rattle.tree_calls.specs.declared.call.Call.TheVariants.{Unlock, CloseFile}
use Rattle.base_types.specs.declared.ids.OpenKind.{OpenKind}
use Rattle.base_types.specs.declared.ids.OpenKind.TheVariants.{Reading, Writing, Executing, Shared, Exclusive}
use Rattle.tree_calls.specs.declared.part.Piece.{Piece}
use Rattle.token_types.specs.Conflicts.{same_id}
use Rattle.token_types.specs.Covers.{same_opening, same_span}
use Rattle.token_types.specs.declared.token.Kind.{Kind}
use Rattle.token_types.specs.declared.token.Kind.TheVariants.{Bytes, Status, Lock, Opening}
use Rattle.token_types.specs.declared.token.Token.{Token}
use Rattle.token_types.specs.declared.token.TokenId.{TokenId}
use Rattle.message_types.specs.declared.giving.AppliedGive.{AppliedGive}
use Rattle.message_types.specs.declared.giving.Ends.{Ends}
use Rattle.message_types.specs.declared.giving.Give.{Give}
use Rattle.run_rules.specs.Past.{In}
use Rattle.run_rules.specs.Tokens.{IsUseKind}

-- a test that a condition has to pass only where another holds
abbrev pub implies : Bool → Bool → Bool
implies true b = b
implies false b = true

pub so : (a b : Bool) → implies a b ≡ true → a ≡ true → b ≡ true
so true b e t = e
so false b e t = absurd (cc)

pub clash : {b : Bool} → b ≡ true → b ≡ false → ⊥
clash p q = cc

pub is_not : (b : Bool) → not b ≡ true → b ≡ true → ⊥
is_not true e t = cc
is_not false e t = cc

pub not_is : (b : Bool) → (b ≡ true → ⊥) → not b ≡ true
not_is true f = absurd (f refl)
not_is false f = refl

pub at_all : {A : Type 0} (f : A → Bool) (xs : List A) (x : A) → list_all f xs ≡ true → In x xs → f x ≡ true
at_all f [] x e m = elim m [ ]
at_all f (y ∷ ys) x e (inl p) = subst (λ z. f z ≡ true) (sym p) (and_parts (f y) (list_all f ys) e).0
at_all f (y ∷ ys) x e (inr m) = at_all f ys x (and_parts (f y) (list_all f ys) e).1 m

pub some_in : {A : Type 0} (f : A → Bool) (xs : List A) → list_any f xs ≡ true → (x : A) × In x xs × (f x ≡ true)
some_in f [] e = absurd (cc)
some_in f (y ∷ ys) e =
    elim (or_cases (f y) (list_any f ys) e) [
      | inl p ↦ (y, inl refl, p)
      | inr q ↦ (let r = some_in f ys q in (r.0, inr r.1, r.2))
    ]

pub any_of : {A : Type 0} (f : A → Bool) (xs : List A) (x : A) → In x xs → f x ≡ true → list_any f xs ≡ true
any_of f [] x m e = elim m [ ]
any_of f (y ∷ ys) x (inl p) e = or_left (f y) (list_any f ys) (subst (λ z. f z ≡ true) p e)
any_of f (y ∷ ys) x (inr m) e = or_right (f y) (list_any f ys) (any_of f ys x m e)

pub in_front : {A : Type 0} (x : A) (xs ys : List A) → In x xs → In x (xs ++ ys)
in_front x [] ys m = elim m [ ]
in_front x (z ∷ xs) ys (inl p) = inl p
in_front x (z ∷ xs) ys (inr m) = inr (in_front x xs ys m)

pub in_back : {A : Type 0} (x : A) (xs ys : List A) → In x ys → In x (xs ++ ys)
in_back x [] ys m = m
in_back x (z ∷ xs) ys m = inr (in_back x xs ys m)

pub in_split : {A : Type 0} (x : A) (xs ys : List A) → In x (xs ++ ys) → In x xs ⊎ In x ys
in_split x [] ys m = inr m
in_split x (z ∷ xs) ys (inl p) = inl (inl p)
in_split x (z ∷ xs) ys (inr m) = elim (in_split x xs ys m) [ inl p ↦ inl (inr p) | inr q ↦ inr q ]

kept_one : {A : Type 0} (b : Bool) (x y : A) (ys : List A) → b ≡ true → x ≡ y → In x (cond b (y ∷ ys) ys)
kept_one true x y ys e p = inl p
kept_one false x y ys e p = absurd (cc)

kept_more : {A : Type 0} (b : Bool) (x y : A) (ys : List A) → In x ys → In x (cond b (y ∷ ys) ys)
kept_more true x y ys m = inr m
kept_more false x y ys m = m

kept_from : {A : Type 0} (b : Bool) (x y : A) (ys : List A) → In x (cond b (y ∷ ys) ys) → ((b ≡ true) × (x ≡ y))
    ⊎ In x ys
kept_from true x y ys (inl p) = inl (refl, p)
kept_from true x y ys (inr m) = inr m
kept_from false x y ys m = inr m

pub in_filter : {A : Type 0} (f : A → Bool) (xs : List A) (x : A) → In x xs → f x ≡ true → In x (filter f xs)
in_filter f [] x m e = elim m [ ]
in_filter f (y ∷ ys) x (inl p) e = kept_one (f y) x y (filter f ys) (subst (λ z. f z ≡ true) p e) p
in_filter f (y ∷ ys) x (inr m) e = kept_more (f y) x y (filter f ys) (in_filter f ys x m e)

pub from_filter : {A : Type 0} (f : A → Bool) (xs : List A) (x : A) → In x (filter f xs) → In x xs × (f x ≡ true)
from_filter f [] x m = elim m [ ]
from_filter f (y ∷ ys) x m =
    elim (kept_from (f y) x y (filter f ys) m) [
      | inl p ↦ (inl p.1, subst (λ z. f z ≡ true) (sym p.1) p.0)
      | inr q ↦ (let r = from_filter f ys x q in (inr r.0, r.1))
    ]

-- no two elements at different places are alike by the test
abbrev pub apart : {A : Type 0} → (A → A → Bool) → List A → Bool
apart alike [] = true
apart alike (x ∷ xs) = list_all (λ y. not (alike x y) && not (alike y x)) xs && apart alike xs

pub only_one : {A : Type 0} (alike : A → A → Bool) (xs : List A) (x y : A) → apart alike xs ≡ true → In x xs → In y xs
    → alike x y ≡ true → x ≡ y
only_one alike [] x y e m n t = elim m [ ]
only_one alike (z ∷ zs) x y e m n t =
    elim m [
      | inl p ↦ elim n [
        | inl q ↦ p ∙ sym q
        | inr j ↦ absurd (is_not (alike z y) (both y j).0 (subst
            (λ v. alike v y ≡ true) p t))
      ]
      | inr i ↦
          elim n [
            | inl q ↦ absurd (is_not (alike x z) (both x i).1 (subst (λ v. alike x v ≡ true) q t))
            | inr j ↦ only_one alike zs x y parts.1 i j t
          ]
    ]
  where
    parts : (list_all (λ w. not (alike z w) && not (alike w z)) zs ≡ true) × (apart alike zs ≡ true)
    parts = and_parts (list_all (λ w. not (alike z w) && not (alike w z)) zs) (apart alike zs) e

    both : (w : _) → In w zs → (not (alike z w) ≡ true) × (not (alike w z) ≡ true)
    both w i = and_parts (not (alike z w)) (not (alike w z)) (at_all (λ v. not (alike z v) && not
        (alike v z)) zs w parts.0 i)

-- equal by each part
abbrev pub same_server : ServerId → ServerId → Bool
same_server a b = a.0 == b.0

abbrev pub same_host : HostId → HostId → Bool
same_host a b = a.0 == b.0

abbrev pub same_fileset : FilesetId → FilesetId → Bool
same_fileset a b = a.0 == b.0

pub server_is : (a b : ServerId) → same_server a b ≡ true → a ≡ b
server_is a b e = λ i. record { 0 = eqb-true a.0 b.0 e i }

pub host_is : (a b : HostId) → same_host a b ≡ true → a ≡ b
host_is a b e = λ i. record { 0 = eqb-true a.0 b.0 e i }

pub fileset_is : (a b : FilesetId) → same_fileset a b ≡ true → a ≡ b
fileset_is a b e = λ i. record { 0 = eqb-true a.0 b.0 e i }

pub same_is : (n : ℕ) → (n == n) ≡ true
same_is n = eq-eqb n n refl

pub servers : (a b : ServerId) → a ≡ b → same_server a b ≡ true
servers a b e = eq-eqb a.0 b.0 (ap (λ (x : ServerId). x.0) e)

pub hosts : (a b : HostId) → a ≡ b → same_host a b ≡ true
hosts a b e = eq-eqb a.0 b.0 (ap (λ (x : HostId). x.0) e)

pub filesets : (a b : FilesetId) → a ≡ b → same_fileset a b ≡ true
filesets a b e = eq-eqb a.0 b.0 (ap (λ (x : FilesetId). x.0) e)

pub fid_is : (a b : Fid) → same_fid a b ≡ true → a ≡ b
fid_is a b e =
    let p = and_parts ((a.fileset.0 == b.fileset.0) && (a.anode == b.anode)) (a.unique == b.unique) e in
    let q = and_parts (a.fileset.0 == b.fileset.0) (a.anode == b.anode) p.0 in
    let f = fileset_is a.fileset b.fileset q.0 in
    let n = eqb-true a.anode b.anode q.1 in
    let u = eqb-true a.unique b.unique p.1 in
    λ i. record { fileset = f i; anode = n i; unique = u i }

pub fids : (a b : Fid) → a ≡ b → same_fid a b ≡ true
fids a b e = subst (λ (x : Fid). same_fid a x ≡ true) e
    (and_from ((a.fileset.0 == a.fileset.0) && (a.anode == a.anode)) (a.unique == a.unique)
    (and_from (a.fileset.0 == a.fileset.0) (a.anode == a.anode) (same_is a.fileset.0) (same_is a.anode))
    (same_is a.unique))

pub id_is : (a b : TokenId) → same_id a b ≡ true → a ≡ b
id_is a b e =
    let p = and_parts ((a.server.0 == b.server.0) && (a.epoch == b.epoch)) (a.seq == b.seq) e in
    let q = and_parts (a.server.0 == b.server.0) (a.epoch == b.epoch) p.0 in
    let f = server_is a.server b.server q.0 in
    let n = eqb-true a.epoch b.epoch q.1 in
    let u = eqb-true a.seq b.seq p.1 in
    λ i. record { server = f i; epoch = n i; seq = u i }

pub ids : (a b : TokenId) → a ≡ b → same_id a b ≡ true
ids a b e = subst (λ (x : TokenId). same_id a x ≡ true) e
    (and_from ((a.server.0 == a.server.0) && (a.epoch == a.epoch)) (a.seq == a.seq)
    (and_from (a.server.0 == a.server.0) (a.epoch == a.epoch) (same_is a.server.0) (same_is a.epoch)) (same_is a.seq))

abbrev made_span : (from to : ℕ) → from ≤ to → to ≤ FILE_BYTES_MAX → Span
made_span from to o w = record { from = from; to = to; ordered = o; within = w }

one_span : (from to : ℕ) (o p : from ≤ to) (w v : to ≤ FILE_BYTES_MAX) → made_span from to o w ≡ made_span from to p v
one_span from to o p w v =
    let a : o ≡ p = le_prop o p in
    let b : w ≡ v = le_prop w v in
    λ i. made_span from to (a i) (b i)

pub span_is : (a b : Span) → same_span a b ≡ true → a ≡ b
span_is a b e =
    let p = and_parts (a.from == b.from) (a.to == b.to) e in
    let f = eqb-true a.from b.from p.0 in
    let t = eqb-true a.to b.to p.1 in
    subst (λ (x : ℕ × ℕ). (o : x.0 ≤ x.1) (w : x.1 ≤ FILE_BYTES_MAX) → a ≡ made_span x.0 x.1 o w) (λ i. (f i, t i))
    (λ o w. one_span a.from a.to a.ordered o a.within w) b.ordered b.within

pub spans : (a b : Span) → a ≡ b → same_span a b ≡ true
spans a b e = subst (λ (x : Span). same_span a x ≡ true) e
    (and_from (a.from == a.from) (a.to == a.to) (same_is a.from) (same_is a.to))

abbrev pub same_bool : Bool → Bool → Bool
same_bool true b = b
same_bool false b = not b

pub bool_is : (a b : Bool) → same_bool a b ≡ true → a ≡ b
bool_is true b e = sym e
bool_is false true e = absurd (cc)
bool_is false false e = refl

pub bools : (a b : Bool) → a ≡ b → same_bool a b ≡ true
bools true b e = sym e
bools false true e = absurd (cc)
bools false false e = refl

abbrev pub same_kind : Kind → Kind → Bool
same_kind (Bytes update span) (Bytes other its) = same_bool update other && same_span span its
same_kind (Status update) (Status other) = same_bool update other
same_kind (Lock writing span) (Lock other its) = same_bool writing other && same_span span its
same_kind (Opening kind) (Opening other) = same_opening kind other
same_kind _ _ = false

opening_is : (a b : OpenKind) → same_opening a b ≡ true → a ≡ b
opening_is Reading Reading e = refl
opening_is Writing Writing e = refl
opening_is Executing Executing e = refl
opening_is Shared Shared e = refl
opening_is Exclusive Exclusive e = refl
opening_is a b e = absurd (cc)

opening_same : (a : OpenKind) → same_opening a a ≡ true
opening_same Reading = refl
opening_same Writing = refl
opening_same Executing = refl
opening_same Shared = refl
opening_same Exclusive = refl

pub kind_is : (a b : Kind) → same_kind a b ≡ true → a ≡ b
kind_is (Bytes update span) (Bytes other its) e =
    let p = and_parts (same_bool update other) (same_span span its) e in
    let b = bool_is update other p.0 in
    let s = span_is span its p.1 in
    λ i. Bytes (b i) (s i)
kind_is (Status update) (Status other) e = let b = bool_is update other e in λ i. Status (b i)
kind_is (Lock writing span) (Lock other its) e =
    let p = and_parts (same_bool writing other) (same_span span its) e in
    let b = bool_is writing other p.0 in
    let s = span_is span its p.1 in
    λ i. Lock (b i) (s i)
kind_is (Opening kind) (Opening other) e = let b = opening_is kind other e in λ i. Opening (b i)
kind_is a b e = absurd (cc)

kind_same : (a : Kind) → same_kind a a ≡ true
kind_same (Bytes update span) =
    and_from (same_bool update update) (same_span span span) (bools update update refl) (spans span span refl)
kind_same (Status update) = bools update update refl
kind_same (Lock writing span) =
    and_from (same_bool writing writing) (same_span span span) (bools writing writing refl) (spans span span refl)
kind_same (Opening kind) = opening_same kind

pub kinds : (a b : Kind) → a ≡ b → same_kind a b ≡ true
kinds a b e = subst (λ (x : Kind). same_kind a x ≡ true) e (kind_same a)

abbrev pub same_token : Token → Token → Bool
same_token a b = (same_id a.id b.id && same_host a.host b.host) && (same_fid a.fid b.fid && same_kind a.kind b.kind)

pub token_is : (a b : Token) → same_token a b ≡ true → a ≡ b
token_is a b e =
    let p = and_parts (same_id a.id b.id && same_host a.host b.host)
    (same_fid a.fid b.fid && same_kind a.kind b.kind) e in
    let q = and_parts (same_id a.id b.id) (same_host a.host b.host) p.0 in
    let r = and_parts (same_fid a.fid b.fid) (same_kind a.kind b.kind) p.1 in
    let i = id_is a.id b.id q.0 in
    let h = host_is a.host b.host q.1 in
    let f = fid_is a.fid b.fid r.0 in
    let k = kind_is a.kind b.kind r.1 in
    λ j. record { id = i j; host = h j; fid = f j; kind = k j }

pub tokens : (a b : Token) → a ≡ b → same_token a b ≡ true
tokens a b e = subst (λ (x : Token). same_token a x ≡ true) e
    (and_from (same_id a.id a.id && same_host a.host a.host) (same_fid a.fid a.fid && same_kind a.kind a.kind)
    (and_from (same_id a.id a.id) (same_host a.host a.host) (ids a.id a.id refl) (hosts a.host a.host refl))
    (and_from (same_fid a.fid a.fid) (same_kind a.kind a.kind) (fids a.fid a.fid refl) (kinds a.kind a.kind refl)))

abbrev pub same_number : AppliedGive → AppliedGive → Bool
same_number a b = same_fileset a.fileset b.fileset && (a.number == b.number)

pub number_is : (a b : AppliedGive) → same_number a b ≡ true → a ≡ b
number_is a b e =
    let p = and_parts (same_fileset a.fileset b.fileset) (a.number == b.number) e in
    let f = fileset_is a.fileset b.fileset p.0 in
    let n = eqb-true a.number b.number p.1 in
    λ i. record { fileset = f i; number = n i }

pub numbers : (a b : AppliedGive) → a ≡ b → same_number a b ≡ true
numbers a b e = subst (λ (x : AppliedGive). same_number a x ≡ true) e
    (and_from (same_fileset a.fileset a.fileset) (a.number == a.number) (same_is a.fileset.0) (same_is a.number))

-- lists and options, by a test on what they hold
abbrev pub same_list : {A : Type 0} → (A → A → Bool) → List A → List A → Bool
same_list same [] [] = true
same_list same (x ∷ xs) (y ∷ ys) = same x y && same_list same xs ys
same_list same _ _ = false

pub list_is : {A : Type 0} (same : A → A → Bool) (is : (x y : A) → same x y ≡ true → x ≡ y) (xs ys : List A)
    → same_list same xs ys ≡ true → xs ≡ ys
list_is same is [] [] e = refl
list_is same is (x ∷ xs) (y ∷ ys) e =
    let p = and_parts (same x y) (same_list same xs ys) e in
    let h = is x y p.0 in
    let r = list_is same is xs ys p.1 in
    λ i. h i ∷ r i
list_is same is [] (y ∷ ys) e = absurd (cc)
list_is same is (x ∷ xs) [] e = absurd (cc)

pub name_is : (a b : List ℕ) → same_name a b ≡ true → a ≡ b
name_is [] [] e = refl
name_is [] (y ∷ b) e = absurd (cc)
name_is (x ∷ a) [] e = absurd (cc)
name_is (x ∷ a) (y ∷ b) e =
    let p = and_parts (nat_eq x y) (pointwise nat_eq a b) e in
    let q = eqb-true x y p.0 in
    let r = name_is a b p.1 in
    λ i. q i ∷ r i

name_same : (a : List ℕ) → same_name a a ≡ true
name_same [] = refl
name_same (x ∷ a) = and_from (nat_eq x x) (pointwise nat_eq a a) (same_is x) (name_same a)

pub names : (a b : List ℕ) → a ≡ b → same_name a b ≡ true
names a b e = subst (λ x. same_name a x ≡ true) e (name_same a)

abbrev pub same_piece : Piece → Piece → Bool
same_piece a b = (a.from == b.from) && same_name a.bytes b.bytes

pub piece_is : (a b : Piece) → same_piece a b ≡ true → a ≡ b
piece_is a b e =
    let p = and_parts (a.from == b.from) (same_name a.bytes b.bytes) e in
    let f = eqb-true a.from b.from p.0 in
    let n = name_is a.bytes b.bytes p.1 in
    λ i. record { from = f i; bytes = n i }

abbrev pub same_length : Option ℕ → Option ℕ → Bool
same_length None None = true
same_length (Some a) (Some b) = a == b
same_length _ _ = false

pub length_is : (a b : Option ℕ) → same_length a b ≡ true → a ≡ b
length_is None None e = refl
length_is (Some a) (Some b) e = let p = eqb-true a b e in λ i. Some (p i)
length_is None (Some b) e = absurd (cc)
length_is (Some a) None e = absurd (cc)

pub length_same : (a b : Option ℕ) → a ≡ b → same_length a b ≡ true
length_same a b e = subst (λ x. same_length a x ≡ true) e (itself a)
  where
    itself : (a : Option ℕ) → same_length a a ≡ true
    itself None = refl
    itself (Some n) = same_is n

-- whether two calls end the use of one label; other calls are alike to none
abbrev pub same_end : Call → Call → Bool
same_end (Unlock a) (Unlock b) = same_name a b
same_end (CloseFile a) (CloseFile b) = same_name a b
same_end _ _ = false

pub end_is : (a b : Call) → same_end a b ≡ true → a ≡ b
end_is (Unlock a) (Unlock b) e = let p = name_is a b e in λ i. Unlock (p i)
end_is (CloseFile a) (CloseFile b) e = let p = name_is a b e in λ i. CloseFile (p i)
end_is a b e = absurd (cc)

abbrev pub same_ends : Option Ends → Option Ends → Bool
same_ends None None = true
same_ends (Some a) (Some b) = (a.k == b.k) && same_end a.call b.call
same_ends _ _ = false

pub ends_is : (a b : Option Ends) → same_ends a b ≡ true → a ≡ b
ends_is None None e = refl
ends_is (Some a) (Some b) e =
    let p = and_parts (a.k == b.k) (same_end a.call b.call) e in
    let k = eqb-true a.k b.k p.0 in
    let c = end_is a.call b.call p.1 in
    λ i. Some (record { k = k i; call = c i })
ends_is None (Some b) e = absurd (cc)
ends_is (Some a) None e = absurd (cc)

abbrev pub same_give : Give → Give → Bool
same_give a b =
    ((a.number == b.number) && same_fid a.fid b.fid) && (same_list same_id a.ids b.ids && same_list same_piece
    a.pieces b.pieces)
    && (same_length a.length b.length && same_ends a.ends b.ends)

pub give_is : (a b : Give) → same_give a b ≡ true → a ≡ b
give_is a b e =
    let p = and_parts (((a.number == b.number) && same_fid a.fid b.fid) &&
    (same_list same_id a.ids b.ids && same_list same_piece a.pieces b.pieces))
    (same_length a.length b.length && same_ends a.ends b.ends) e in
    let q = and_parts ((a.number == b.number) && same_fid a.fid b.fid)
    (same_list same_id a.ids b.ids && same_list same_piece a.pieces b.pieces) p.0 in
    let r = and_parts (a.number == b.number) (same_fid a.fid b.fid) q.0 in
    let s = and_parts (same_list same_id a.ids b.ids) (same_list same_piece a.pieces b.pieces) q.1 in
    let t = and_parts (same_length a.length b.length) (same_ends a.ends b.ends) p.1 in
    let n = eqb-true a.number b.number r.0 in
    let f = fid_is a.fid b.fid r.1 in
    let i = list_is same_id id_is a.ids b.ids s.0 in
    let c = list_is same_piece piece_is a.pieces b.pieces s.1 in
    let l = length_is a.length b.length t.0 in
    let d = ends_is a.ends b.ends t.1 in
    λ j. record { number = n j; fid = f j; ids = i j; pieces = c j; length = l j; ends = d j }

pub in_flat : {A B : Type 0} (f : A → List B) (xs : List A) (x : A) (y : B) → In x xs → In y (f x) → In y
    (flat_map f xs)
in_flat f [] x y m n = elim m [ ]
in_flat f (z ∷ zs) x y (inl p) n = in_front y (f z) (flat_map f zs) (subst (λ w. In y (f w)) p n)
in_flat f (z ∷ zs) x y (inr m) n = in_back y (f z) (flat_map f zs) (in_flat f zs x y m n)

pub from_flat : {A B : Type 0} (f : A → List B) (xs : List A) (y : B) → In y (flat_map f xs) → (x : A) × In x xs
    × In y (f x)
from_flat f [] y m = elim m [ ]
from_flat f (z ∷ zs) y m =
    elim (in_split y (f z) (flat_map f zs) m) [
      | inl p ↦ (z, inl refl, p)
      | inr q ↦ (let r = from_flat f zs y q in (r.0, inr r.1, r.2))
    ]

pub if_in : {A : Type 0} (b : Bool) (x : A) (xs : List A) → In x (if b then xs else []) → (b ≡ true) × In x xs
if_in true x xs m = (refl, m)
if_in false x xs m = elim m [ ]

pub in_if : {A : Type 0} (b : Bool) (x : A) (xs : List A) → b ≡ true → In x xs → In x (if b then xs else [])
in_if true x xs e m = m
in_if false x xs e m = absurd (cc)

-- tests that all pass
abbrev pub AllTrue : List Bool → Type 0
AllTrue [] = Unit {0}
AllTrue (b ∷ bs) = (b ≡ true) × AllTrue bs

abbrev pub passes : List Bool → Bool
passes bs = list_all (λ b. b) bs

pub all_true : (bs : List Bool) → passes bs ≡ true → AllTrue bs
all_true [] e = tt
all_true (b ∷ bs) e = let p = and_parts b (passes bs) e in (p.0, all_true bs p.1)

abbrev pub is_none : {A : Type 0} → List A → Bool
is_none [] = true
is_none (x ∷ xs) = false

pub none_in : {A : Type 0} (xs : List A) (x : A) → is_none xs ≡ true → In x xs → ⊥
none_in [] x e m = elim m [ ]
none_in (y ∷ ys) x e m = cc

pub none_is : {A : Type 0} (xs : List A) → is_none xs ≡ true → xs ≡ []
none_is [] e = refl
none_is (x ∷ xs) e = absurd (cc)

-- a lock or an open token
unfoldable pub is_use_kind : Kind → Bool
is_use_kind (Lock writing span) = true
is_use_kind (Opening kind) = true
is_use_kind _ = false

pub use_kind_yes : (k : Kind) → is_use_kind k ≡ true → IsUseKind k
unfolding is_use_kind
use_kind_yes (Lock writing span) e = tt
use_kind_yes (Opening kind) e = tt
use_kind_yes k e = absurd (cc)

pub use_kind_is : (k : Kind) → IsUseKind k → is_use_kind k ≡ true
unfolding is_use_kind
use_kind_is (Lock writing span) u = refl
use_kind_is (Opening kind) u = refl
use_kind_is (Bytes update span) u = elim u [ ]
use_kind_is (Status update) u = elim u [ ]
