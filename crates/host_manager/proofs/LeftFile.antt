-- Tokens leave, file by file: lists, lengths, what a token shows, and what is said.
use Rattle.base_types.specs.Ids.{same_fid}
use Rattle.base_types.specs.Spans.{has_byte}
use Rattle.base_types.specs.declared.ids.Fid.{Fid}
use Rattle.host_cache.specs.Seen.{Seen, after_drop}
use Rattle.host_leaves.specs.Giving.{leaves_by, returning, shown_without, with_length_of}
use Rattle.host_leaves.specs.Owning.{update_span}
use Rattle.host_manager.proofs.Folding.{OnlySends, saying_keeps, saying_said, saying_says}
use Rattle.host_manager.proofs.LeftSo.{returns}
use Rattle.host_tables.proofs.Lists.{any_in, by_test, fid_same, in_either, in_right, map_in}
use Rattle.host_tables.proofs.Lists.{same_fid_is}
use Rattle.host_tables.proofs.Updating.{reads_after}
use Rattle.host_tables.specs.Tables.{is_shown_by, length_given, updates_status}
use Rattle.host_tables.specs.Updates.{home_at}
use Rattle.host_tables.specs.declared.draft.Draft.{Draft}
use Rattle.host_lengths.specs.declared.given.Given.{Given}
use Rattle.host_tables.specs.declared.tables.Tables.{Tables}
use Rattle.message_types.specs.declared.message.Body.TheVariants.{Returned}
use Rattle.message_types.specs.declared.message.Message.{Message}
use Rattle.need_host.specs.Shows.{shows as kind_shows}
use Rattle.run_rules.specs.Past.{In}
use Rattle.run_rules.specs.declared.applied.Leave.{Leave}
use Rattle.run_rules.specs.declared.applied.Why.{Why}
use Rattle.std.proofs.Common.{Bool, List, None, Option, Some, [], ap, false, if◌then◌else◌, inl, inr, is_some}
use Rattle.std.proofs.Common.{map, not, refl, sym, true, ℕ, ◌&&◌, ◌++◌, ◌||◌, ◌∙◌, ◌∷◌, ◌≡◌, ◌⊎◌}
use Rattle.std.proofs.lemmas.Bool.{and_from}
use Rattle.std.specs.List.{list_any}
use Rattle.std.specs.Option.{option_map_or}
use Rattle.token_types.specs.Conflicts.{need_of}
use Rattle.token_types.specs.declared.token.Kind.{Kind}
use Rattle.token_types.specs.declared.token.Kind.TheVariants.{Bytes, Lock, Opening, Status}
use Rattle.token_types.specs.declared.token.Need.{Need}
use Rattle.token_types.specs.declared.token.Token.{Token}
use Rattle.token_types.specs.declared.token.TokenId.{TokenId}
use Rattle.tree_laws.specs.Parts.{Part}
use Rattle.tree_laws.specs.Parts.Part.{ByteAt, Size}

-- # Lists
pub without_more : (s : Seen) (ts us : List Token)
    → shown_without (shown_without s ts) us ≡ shown_without s (ts ++ us)
without_more s [] us = refl
without_more s (t ∷ ts) us = without_more (after_drop s t.id) ts us

pub leaves_more : (why : Why) (ts us : List Token)
    → map (leaves_by why) ts ++ map (leaves_by why) us ≡ map (leaves_by why) (ts ++ us)
leaves_more why [] us = refl
leaves_more why (t ∷ ts) us = ap (λ (ys : List Leave). leaves_by why t ∷ ys) (leaves_more why ts us)

pub any_last : {A : Type 0} (test : A → Bool) (xs : List A) (x : A)
    → list_any test (xs ++ x ∷ []) ≡ (list_any test xs || test x)
any_last test [] x = by_one (test x)
  where
    by_one : (b : Bool) → (b || false) ≡ (false || b)
    by_one true = refl
    by_one false = refl
any_last test (y ∷ xs) x = ap (λ (b : Bool). test y || b) (any_last test xs x) ∙ by_first (test y)
    (list_any test xs) (test x)
  where
    by_first : (a b c : Bool) → (a || (b || c)) ≡ ((a || b) || c)
    by_first true b c = refl
    by_first false b c = refl

pub last_or : {A : Type 0} (xs : List A) (x y : A) → In y (xs ++ x ∷ []) → In y xs ⊎ (y ≡ x)
last_or xs x y i = elim (in_either xs (x ∷ []) y i) [
  | inl j ↦ inl j
  | inr j ↦ elim j [ inl e ↦ inr e | inr n ↦ elim n [ ] ]
]

pub in_last : {A : Type 0} (xs : List A) (x : A) → In x (xs ++ x ∷ [])
in_last xs x = in_right xs (x ∷ []) x (inl refl)

pub alike : (a b : Bool) → (a ≡ true → b ≡ true) → (b ≡ true → a ≡ true) → a ≡ b
alike true b f g = sym (f refl)
alike false true f g = g refl
alike false false f g = refl

pub and_true : (b : Bool) → (b && not false) ≡ b
and_true true = refl
and_true false = refl

pub some_alike : (b c : Bool) (x y : ℕ) → (c ≡ true → x ≡ y)
    → (if b && c then Some x else None) ≡ (if b && c then Some y else None)
some_alike true true x y e = ap Some (e refl)
some_alike true false x y e = refl
some_alike false c x y e = refl

pub is_some_if : (b c : Bool) (x : ℕ) → b ≡ true → is_some (if b && c then Some x else None) ≡ c
is_some_if true true x e = refl
is_some_if true false x e = refl
is_some_if false c x e = absurd (cc)

pub cleaned : (d a s c h : Bool) → (d ≡ true → s ≡ true → h ≡ c)
    → ((d && not a) && not (s && c)) ≡ (d && not (a || (s && h)))
cleaned false a s c h e = refl
cleaned true true s c h e = refl
cleaned true false false c h e = refl
cleaned true false true c h e = ap (λ (b : Bool). not b) (sym (e refl refl))

-- # The lengths with one more
pub length_other : (fid : Fid) (number : ℕ) (o : Option ℕ) (lengths : List Given) (f : Fid)
    → ((n : ℕ) → o ≡ Some n → fid ≡ f → ⊥)
    → length_given (with_length_of fid number o lengths) f ≡ length_given lengths f
length_other fid number None lengths f none = refl
length_other fid number (Some n) lengths f none =
    let other : same_fid fid f ≡ false = elim (by_test (same_fid fid f)) [
      | inl q ↦ absurd (none n refl (same_fid_is fid f q))
      | inr q ↦ q
    ] in
    reads_after.lengths lengths (record { fid = fid; number = number; length = n; known = false }) f
    ∙ ap (λ (b : Bool). if b then Some (record { fid = fid; number = number; length = n; known = false })
    else length_given lengths f) other

pub length_here : (fid : Fid) (number : ℕ) (o : Option ℕ) (lengths : List Given) (n : ℕ) → o ≡ Some n
    → length_given (with_length_of fid number o lengths) fid
    ≡ Some (record { fid = fid; number = number; length = n; known = false })
length_here fid number None lengths n e = absurd (cc)
length_here fid number (Some k) lengths n e =
    let q : k ≡ n = cc in
    reads_after.lengths lengths (record { fid = fid; number = number; length = k; known = false }) fid
    ∙ ap (λ (b : Bool). if b then Some (record { fid = fid; number = number; length = k; known = false })
    else length_given lengths fid) (fid_same fid fid refl)
    ∙ ap (λ (z : ℕ). Some (record { fid = fid; number = number; length = z; known = false })) q

-- # What a token shows
pub byte_shows : (k : Kind) (at : ℕ) → option_map_or (λ span. has_byte span at) (update_span k) false ≡ true
    → kind_shows k (ByteAt at) ≡ true
byte_shows (Bytes true span) at e = e
byte_shows (Bytes false span) at e = absurd (cc)
byte_shows (Status update) at e = absurd (cc)
byte_shows (Lock writing span) at e = absurd (cc)
byte_shows (Opening kind) at e = absurd (cc)

pub size_shows : (k : Kind) → updates_status k ≡ true → kind_shows k Size ≡ true
size_shows (Bytes update span) e = absurd (cc)
size_shows (Status update) e = refl
size_shows (Lock writing span) e = absurd (cc)
size_shows (Opening kind) e = absurd (cc)

pub shows_there : (tokens : List Token) (t : Token) (fid : Fid) (part : Part) → In t tokens → t.fid ≡ fid
    → kind_shows t.kind part ≡ true → is_shown_by tokens fid part ≡ true
shows_there tokens t fid part i e k =
    any_in (λ (n : Need). same_fid n.fid fid && kind_shows n.kind part) (map need_of tokens) (need_of t)
    (map_in need_of tokens t i) (and_from (same_fid t.fid fid) (kind_shows t.kind part) (fid_same t.fid fid e) k)

-- # What is said
pub returning_only : (m : Tables) (fid : Fid) (ids : List TokenId) (d : Draft) → OnlySends d (returning m fid ids d)
returning_only m fid [] d = refl
returning_only m fid (i ∷ ids) d = refl

pub returning_says : (m : Tables) (fid : Fid) (ids : List TokenId) (d : Draft) (y : Message)
    → In y (returning m fid ids d).sent → In y d.sent ⊎ (y ≡ returns m (record { fid = fid; ids = ids }))
returning_says m fid [] d y i = inl i
returning_says m fid (k ∷ ids) d y i =
    saying_says m (home_at fid.fileset) (Returned (record { fid = fid; ids = k ∷ ids })) d y i

pub returning_keeps : (m : Tables) (fid : Fid) (ids : List TokenId) (d : Draft) (y : Message) → In y d.sent
    → In y (returning m fid ids d).sent
returning_keeps m fid [] d y i = i
returning_keeps m fid (k ∷ ids) d y i =
    saying_keeps m (home_at fid.fileset) (Returned (record { fid = fid; ids = k ∷ ids })) d y i

pub returning_said : (m : Tables) (fid : Fid) (ids : List TokenId) (d : Draft) (i : TokenId) → In i ids
    → In (returns m (record { fid = fid; ids = ids })) (returning m fid ids d).sent
returning_said m fid [] d i j = elim j [ ]
returning_said m fid (k ∷ ids) d i j =
    saying_said m (home_at fid.fileset) (Returned (record { fid = fid; ids = k ∷ ids })) d

pub some_where : (a b c d : Bool) (x y : ℕ) → a ≡ b → c ≡ d → (d ≡ true → x ≡ y)
    → (if a && c then Some x else None) ≡ (if b && d then Some y else None)
some_where a b c d x y e f same =
    (λ i. if e i && f i then Some x else None) ∙ some_alike b d x y same
