-- The journal's words and those of contents.
use Rattle.std.proofs.Common.{◌≡◌, ℕ, ◌&&◌, ◌||◌, Bool, true, false, Option, Some, None, is_some, List, [], ◌∷◌, inl}
use Rattle.std.proofs.Common.{inr, map, subst, sym, ◌∙◌, ap, refl}
use Rattle.std.proofs.lemmas.Bool.{and_parts, false≢true}
use Rattle.std.specs.List.{list_any}
use Rattle.base_types.specs.Ids.{same_fid}
use Rattle.base_types.specs.Spans.{has_byte}
use Rattle.base_types.specs.declared.ids.Fid.{Fid}
use Rattle.base_types.specs.declared.span.Span.{Span}
use Rattle.need_host.specs.Shows.{shows, is_update}
use Rattle.tree_answers.proofs.Followed.{same_fid_itself}
use Rattle.message_types.specs.declared.giving.Give.{Give}
use Rattle.token_types.specs.Conflicts.{need_of}
use Rattle.token_types.specs.declared.token.Need.{Need}
use Rattle.token_types.specs.declared.token.Token.{Token}
use Rattle.token_types.specs.declared.token.Kind.{Kind}
use Rattle.token_types.specs.declared.token.Kind.TheVariants.{Bytes, Status, Lock, Opening}
use Rattle.tree_laws.proofs.Steps.{fid_is}
use Rattle.tree_laws.specs.Parts.Part.{ByteAt, Size}
use Rattle.run_rules.specs.Past.{In}
use Rattle.run_rules.specs.ServerMay.{AreNeeds}
use Rattle.run_rules.specs.Views.{byte_of, gives_at}
use Rattle.run_rules.specs.declared.step.Step.{Step}

-- one of a list
pub any_in : {X : Type 0} (test : X → Bool) (xs : List X) → list_any test xs ≡ true → (x : X) × In x xs
    × (test x ≡ true)
any_in test [] e = absurd (false≢true e)
any_in {X} test (x ∷ xs) e = go (test x) refl (λ r. any_in test xs r) e
  where
    go : (b : Bool) → test x ≡ b → (list_any test xs ≡ true → (y : X) × In y xs × (test y ≡ true))
        → (b || list_any test xs) ≡ true → (y : X) × In y (x ∷ xs) × (test y ≡ true)
    go true q rest r = (x, inl refl, q)
    go false q rest r = let y = rest r in (y.0, inr y.1, y.2)

first_way : (b c : Bool) → b ≡ true → (b || c) ≡ true
first_way true c e = refl
first_way false c e = absurd (false≢true e)

second_way : (b c : Bool) → c ≡ true → (b || c) ≡ true
second_way true c e = refl
second_way false c e = e

pub in_any : {X : Type 0} (test : X → Bool) (xs : List X) (x : X) → In x xs → test x ≡ true → list_any test xs ≡ true
in_any test [] x m e = elim m [ ]
in_any test (y ∷ ys) x (inl q) e = first_way (test y) (list_any test ys) (ap test (sym q) ∙ e)
in_any test (y ∷ ys) x (inr m) e = second_way (test y) (list_any test ys) (in_any test ys x m e)

pub both : (a b : Bool) → a ≡ true → b ≡ true → (a && b) ≡ true
both true b e q = q
both false b e q = absurd (false≢true e)

pub some_is : {X : Type 0} (o : Option X) → is_some o ≡ true → (x : X) × (o ≡ Some x)
some_is None e = absurd (cc)
some_is (Some x) e = (x, refl)

pub is_some_of : {X : Type 0} (o : Option X) (x : X) → o ≡ Some x → is_some o ≡ true
is_some_of None x e = absurd (cc)
is_some_of (Some y) x e = refl

-- a step gives a byte where a give-back has it
pub given : (s : Step) (f : Fid) (at : ℕ) → gives_at s f at ≡ true → (g : Give) × (x : ℕ) × In g s.made × (g.fid ≡ f)
    × (byte_of g.pieces at ≡ Some x)
given s f at e =
    let g = any_in (λ (give : Give). same_fid give.fid f && is_some (byte_of give.pieces at)) s.made e in
    let p = and_parts (same_fid g.0.fid f) (is_some (byte_of g.0.pieces at)) g.2 in
    let x = some_is (byte_of g.0.pieces at) p.1 in
    (g.0, x.0, g.1, fid_is g.0.fid f p.0, x.1)

pub gave : (s : Step) (f : Fid) (at x : ℕ) (g : Give) → In g s.made → g.fid ≡ f → byte_of g.pieces at ≡ Some x
    → gives_at s f at ≡ true
gave s f at x g m file has = in_any
    (λ (give : Give). same_fid give.fid f && is_some (byte_of give.pieces at)) s.made g m
    (both (same_fid g.fid f) (is_some (byte_of g.pieces at)) (ap (λ (z : Fid). same_fid g.fid z) (sym file)
    ∙ same_fid_itself g.fid) (is_some_of (byte_of g.pieces at) x has))

-- a token for update over a byte, over a size
pub update_byte : (k : Kind) (at : ℕ) → shows k (ByteAt at) ≡ true → is_update k ≡ true
    → (span : Span) × (k ≡ Bytes true span) × (has_byte span at ≡ true)
update_byte (Bytes true span) at a b = (span, refl, a)
update_byte (Bytes false span) at a b = absurd (false≢true b)
update_byte (Status u) at a b = absurd (false≢true a)
update_byte (Lock u span) at a b = absurd (false≢true a)
update_byte (Opening u) at a b = absurd (false≢true a)

pub update_size : (k : Kind) → shows k Size ≡ true → is_update k ≡ true → k ≡ Status true
update_size (Status true) a b = refl
update_size (Status false) a b = absurd (false≢true b)
update_size (Bytes u span) a b = absurd (false≢true a)
update_size (Lock u span) a b = absurd (false≢true a)
update_size (Opening u) a b = absurd (false≢true a)

pub byte_covers : (k : Kind) (span : Span) (at : ℕ) → k ≡ Bytes true span → has_byte span at ≡ true
    → shows k (ByteAt at) ≡ true
byte_covers k span at e b = ap (λ (z : Kind). shows z (ByteAt at)) e ∙ b

pub byte_update : (k : Kind) (span : Span) → k ≡ Bytes true span → is_update k ≡ true
byte_update k span e = ap is_update e

pub size_covers : (k : Kind) → k ≡ Status true → shows k Size ≡ true
size_covers k e = ap (λ (z : Kind). shows z Size) e

pub size_update : (k : Kind) → k ≡ Status true → is_update k ≡ true
size_update k e = ap is_update e

-- a token that answers a need is for one of those that were needed
pub one_needed : (needs : List Need) (tokens : List Token) → AreNeeds needs tokens → (t : Token) → In t tokens
    → In (need_of t) needs
one_needed needs tokens are t i = subst (In (need_of t)) are (mapped tokens i)
  where
    mapped : (ts : List Token) → In t ts → In (need_of t) (map need_of ts)
    mapped [] i = elim i [ ]
    mapped (u ∷ ts) (inl e) = inl (ap need_of e)
    mapped (u ∷ ts) (inr i) = inr (mapped ts i)
