-- The cache after tokens are dropped: it holds the others, and shows under them what it showed.
use Rattle.base_types.specs.Image.{byte_at}
use Rattle.std.proofs.Common.{inl, inr}
use Rattle.base_types.specs.Ids.{same_fid}
use Rattle.base_types.specs.declared.ids.Fid.{Fid}
use Rattle.base_types.specs.declared.limits.TheConstants.{FILE_BYTES_MAX}
use Rattle.host_cache.specs.Holding.{is_id, is_status, shows_byte, tells_of, tokens_of, without_id}
use Rattle.host_cache.specs.Seen.{Kept, Seen, after_drop, file_at, seen, shows, tells}
use Rattle.host_cache.specs.declared.held.Held.{Held}
use Rattle.host_leaves.specs.Dirtying.{is_named}
use Rattle.host_leaves.specs.Giving.{shown_without}
use Rattle.host_tables.proofs.Dropping.{drops_alike}
use Rattle.host_tables.proofs.Lists.{any_in, by_test, id_same, in_any}
use Rattle.host_tables.proofs.Lists.{in_filter, in_map, map_in, same_id_is, true_false}
use Rattle.host_tables.specs.Evicting.{IsWithout}
use Rattle.host_tables.specs.Tables.{content, is_shown_by}
use Rattle.need_host.specs.Shows.{shows as kind_shows}
use Rattle.run_rules.specs.Past.{In}
use Rattle.run_rules.specs.Views.{nature_told}
use Rattle.std.proofs.Common.{Bool, List, None, Some, [], ap, cond, false, filter, if◌then◌else◌, map, not, refl, subst}
use Rattle.std.proofs.Common.{sym, true, unwrap_or, ℕ, ◌&&◌, ◌||◌, ◌∙◌, ◌∷◌, ◌≡◌, ◌≤◌}
use Rattle.std.specs.List.{list_any}
use Rattle.std.specs.Option.{option_map, option_map_or}
use Rattle.token_types.specs.Conflicts.{need_of, same_id}
use Rattle.token_types.specs.declared.token.Need.{Need}
use Rattle.token_types.specs.declared.token.Token.{Token}
use Rattle.token_types.specs.declared.token.TokenId.{TokenId}
use Rattle.tree_calls.specs.declared.part.Status.{Status as StatusOf}
use Rattle.tree_laws.specs.Parts.{Part}
use Rattle.tree_laws.specs.Parts.Part.{ByteAt, Entries, Size, Traits}

-- a token that isn't among those that are dropped stays
abbrev pub stays_of : List Token → Held → Bool
stays_of ts h = not (is_named ts h.token)

pub record IsLeftBy (old new : Kept) (ts : List Token) : Type 0 where
  pub held : new.held ≡ filter (stays_of ts) old.held
  pub content_is : (fid : Fid) (part : Part) → is_shown_by (tokens_of new.held) fid part ≡ true
      → content new fid part ≡ content old fid part
  pub beyond : (fid : Fid) (at : ℕ) → FILE_BYTES_MAX ≤ at → content new fid (ByteAt at) ≡ content old fid (ByteAt at)

filter_twice : {A : Type 0} (p q r : A → Bool) (xs : List A) → ((x : A) → r x ≡ (q x && p x))
    → filter p (filter q xs) ≡ filter r xs
filter_twice p q r [] e = refl
filter_twice {A = A} p q r (x ∷ xs) e =
    let rest : filter p (filter q xs) ≡ filter r xs = filter_twice p q r xs e in
    elim (by_test (q x)) [
      | inl t ↦
          let head : r x ≡ p x = e x ∙ ap (λ (b : Bool). b && p x) t in
          ap (λ (b : Bool). filter p (cond b (x ∷ filter q xs) (filter q xs))) t
          ∙ ap (λ (ys : List A). cond (p x) (x ∷ ys) ys) rest
          ∙ ap (λ (b : Bool). cond b (x ∷ filter r xs) (filter r xs)) (sym head)
      | inr f ↦
          let head : r x ≡ false = e x ∙ ap (λ (b : Bool). b && p x) f in
          ap (λ (b : Bool). filter p (cond b (x ∷ filter q xs) (filter q xs))) f
          ∙ rest
          ∙ ap (λ (b : Bool). cond b (x ∷ filter r xs) (filter r xs)) (sym head)
    ]

id_turned : (i j : TokenId) → same_id i j ≡ same_id j i
id_turned i j = elim (by_test (same_id i j)) [
  | inl t ↦ t ∙ sym (id_same j i (sym (same_id_is i j t)))
  | inr f ↦ elim (by_test (same_id j i)) [
    | inl t ↦ absurd (true_false (same_id i j) (id_same i j (sym (same_id_is j i t))) f)
    | inr g ↦ f ∙ sym g
  ]
]

pub all_stay : {A : Type 0} (xs : List A) → xs ≡ filter (λ x. true) xs
all_stay [] = refl
all_stay (x ∷ xs) = ap (λ ys. x ∷ ys) (all_stay xs)

-- # One token
abbrev drop_kept : Kept → TokenId → Kept
drop_kept old id = record { held = without_id id old.held; files = old.files }

more : (test : Held → Bool) (id : TokenId) (held : List Held) → list_any test (without_id id held) ≡ true
    → list_any test held ≡ true
more test id held e =
    let r = in_any test (without_id id held) e in
    any_in test held r.0 (in_filter (λ h. not (is_id id h)) held r.0 r.1).0 r.2

by_both : {A : Type 0} (b c : Bool) (x y : A) → (b ≡ true → c ≡ true)
    → (if b then x else y) ≡ (if b then (if c then x else y) else y)
by_both true true x y f = refl
by_both true false x y f = absurd (let e = f refl in cc)
by_both false c x y f = refl

drop_seen : (old : Kept) (id : TokenId) → seen (drop_kept old id) ≡ after_drop (seen old) id
drop_seen old id = λ i. record {
  held = without_id id old.held;
  status = λ fid. by_both (tells (without_id id old.held) fid) (tells old.held fid) (file_at old fid).status None
      (more (tells_of fid) id old.held) i;
  entries = λ fid. by_both (shows (without_id id old.held) fid 0) (shows old.held fid 0) (file_at old fid).entries []
      (more (shows_byte fid 0) id old.held) i;
  bytes = λ fid at. by_both (shows (without_id id old.held) fid at) (shows old.held fid at)
      (Some (byte_at (file_at old fid).bytes at)) None (more (shows_byte fid at) id old.held) i;
}

-- caches that are seen alike
content_same : (old new : Kept) → seen new ≡ seen old → (fid : Fid) (part : Part)
    → content new fid part ≡ content old fid part
content_same old new e fid (ByteAt at) = ap (λ (s : Seen). unwrap_or (s.bytes fid at) 0) e
content_same old new e fid Size =
    ap (λ (s : Seen). option_map_or (λ (status : StatusOf). status.length) (s.status fid) 0) e
content_same old new e fid Traits = ap (λ (s : Seen). option_map nature_told (s.status fid)) e
content_same old new e fid Entries = ap (λ (s : Seen). s.entries fid) e

-- # Tokens, one by one
shown_more : (xs ys : List Token) → ((t : Token) → In t xs → In t ys) → (fid : Fid) (part : Part)
    → is_shown_by xs fid part ≡ true → is_shown_by ys fid part ≡ true
shown_more xs ys fewer fid part e =
    let r = in_any (λ (n : Need). same_fid n.fid fid && kind_shows n.kind part) (map need_of xs) e in
    let k = in_map need_of xs r.0 r.1 in
    any_in (λ (n : Need). same_fid n.fid fid && kind_shows n.kind part) (map need_of ys) r.0
    (subst (λ (n : Need). In n (map need_of ys)) (sym k.2) (map_in need_of ys k.0 (fewer k.0 k.1))) r.2

pub left_by : (old new : Kept) (ts : List Token) → seen new ≡ shown_without (seen old) ts
    → ((h : Held) → In h old.held → is_status h.token.kind ≡ true → h.tells ≡ true)
    → ((fid : Fid) (at : ℕ) → FILE_BYTES_MAX ≤ at → content old fid (ByteAt at) ≡ 0) → IsLeftBy old new ts
left_by old new [] told tells_all none = record {
  held = ap (λ (s : Seen). s.held) told ∙ all_stay old.held;
  content_is = λ fid part e. content_same old new told fid part;
  beyond = λ fid at far. content_same old new told fid (ByteAt at);
}
left_by old new (t ∷ ts) told tells_all none =
    let mid : Kept = drop_kept old t.id in
    let first : IsWithout old mid t.id = drops_alike old mid t.id (drop_seen old t.id) tells_all none in
    let rest : IsLeftBy mid new ts = left_by mid new ts
    (told ∙ ap (λ (s : Seen). shown_without s ts) (sym (drop_seen old t.id)))
    (λ h i. tells_all h (in_filter (λ x. not (is_id t.id x)) old.held h i).0)
    (λ fid at far. first.beyond fid at far ∙ none fid at far) in
    record {
      held = rest.held ∙ filter_twice (stays_of ts) (λ h. not (is_id t.id h)) (stays_of (t ∷ ts)) old.held
          (λ h. not_or (same_id t.id h.token.id) (is_named ts h.token) ∙ ap (λ (b : Bool). not b && stays_of ts h)
          (id_turned t.id h.token.id));
      content_is = λ fid part e. rest.content_is fid part e ∙ first.content_is fid part
          (shown_more (tokens_of new.held) (tokens_of mid.held) (fewer mid new ts rest.held) fid part e);
      beyond = λ fid at far. rest.beyond fid at far ∙ first.beyond fid at far;
    }
  where
    not_or : (a b : Bool) → not (a || b) ≡ (not a && not b)
    not_or true b = refl
    not_or false b = refl

    fewer : (mid new : Kept) (ts : List Token) → new.held ≡ filter (stays_of ts) mid.held → (u : Token)
        → In u (tokens_of new.held) → In u (tokens_of mid.held)
    fewer mid new ts is u i =
        let k = in_map (λ (h : Held). h.token) new.held u i in
        subst (λ (x : Token). In x (tokens_of mid.held)) (sym k.2) (map_in (λ (h : Held). h.token) mid.held k.0
        (in_filter (stays_of ts) mid.held k.0 (subst (λ (hs : List Held). In k.0 hs) is k.1)).0)
