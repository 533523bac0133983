-- Needs for which the same held tokens help to cover them.
use Rattle.std.proofs.Common.{◌≡◌, ◌+◌, ◌<◌, ℕ, Bool, true, false, cond}
use Rattle.std.proofs.Common.{◌==◌, ◌&&◌, not, List, [], ◌∷◌, ◌++◌, take, length}
use Rattle.std.proofs.Common.{get_or, All, refl, sym, ap, ◌∙◌, arith}
use Rattle.std.specs.List.{filter}
use Rattle.std.proofs.lemmas.Bool.{and_parts}
use Rattle.std.proofs.lemmas.Grind.{common_steps}
use Rattle.std.proofs.lemmas.List.Elements.{All-nil, All-cons, All-head, All-tail, All-filter, All-append}
use Rattle.base_types.specs.Ids.{same_fid}
use Rattle.base_types.specs.declared.ids.Fid.{Fid}
use Rattle.token_types.specs.declared.token.Kind.{Kind}
use Rattle.token_types.specs.declared.token.Need.{Need}
use Rattle.token_types.specs.declared.token.Token.{Token}
use Rattle.host_cache.specs.declared.held.Held.{Held}
use Rattle.host_cache.specs.Holding.{helps, helps_cover, tokens_of, used, used_each, AreAlike, AreAlikeFor}
use Rattle.host_cache.specs.Files.{file_key, same_key}
use Rattle.host_cache.specs.Seen.{of_key}
use Rattle.host_cache.proofs.Marked.{used_next}

-- tests that agree on a list bring the same to the front
filter_alike : {X : Type 0} (p q : X → Bool) (xs : List X) → All (λ x. p x ≡ q x) xs → filter p xs ≡ filter q xs
filter_alike p q [] all = refl
filter_alike p q (x ∷ xs) all =
    (λ i. cond (All-head (λ y. p y ≡ q y) x xs all i) (x ∷ filter p xs) (filter p xs))
    ∙ ap (λ l. cond (q x) (x ∷ l) l) (filter_alike p q xs (All-tail (λ y. p y ≡ q y) x xs all))

none_alike : {X : Type 0} (p q : X → Bool) (xs : List X) → All (λ x. p x ≡ q x) xs → All (λ x. not (p x) ≡ not (q x)) xs
none_alike p q [] all = All-nil (λ x. not (p x) ≡ not (q x))
none_alike p q (x ∷ xs) all =
    All-cons (λ y. not (p y) ≡ not (q y)) x xs (ap not (All-head (λ y. p y ≡ q y) x xs all))
    (none_alike p q xs (All-tail (λ y. p y ≡ q y) x xs all))

used_alike : (one other : Need) (held : List Held) → AreAlike one other held → used other held ≡ used one held
used_alike one other held all =
    let p : Held → Bool = λ h. helps_cover one h.token in
    let q : Held → Bool = λ h. helps_cover other h.token in
    sym (λ i. filter_alike p q held all i
    ++ filter_alike (λ h. not (p h)) (λ h. not (q h)) held (none_alike p q held all) i)

-- what is so of all that is held stays so where the order changes
all_used : (P : Held → Type 0) (need : Need) (held : List Held) → All P held → All P (used need held)
all_used P need held all =
    let p : Held → Bool = λ h. helps_cover need h.token in
    All-append P (filter p held) (filter (λ h. not (p h)) held) (All-filter p P held all)
    (All-filter (λ h. not (p h)) P held all)

all_used_each : (P : Held → Type 0) (needs : List Need) (held : List Held) → All P held → All P (used_each needs held)
all_used_each P [] held all = all
all_used_each P (need ∷ needs) held all = all_used_each P needs (used need held) (all_used P need held all)

-- one more of each
pub alike_next : (ones others : List Need) (i : ℕ) (one other : Need) (held : List Held) →
    i < length ones → one ≡ get_or ones i one → i < length others → other ≡ get_or others i other →
    AreAlike one other held → used_each (take i others) held ≡ used_each (take i ones) held →
    used_each (take (i + 1) others) held ≡ used_each (take (i + 1) ones) held
alike_next ones others i one other held low is low' is' alike so_far =
    sym (used_next others i other held (used_each (take i others) held) low' is' refl)
    ∙ ap (used other) so_far
    ∙ used_alike one other (used_each (take i ones) held)
    (all_used_each (λ h. helps_cover one h.token ≡ helps_cover other h.token) (take i ones) held alike)
    ∙ used_next ones i one held (used_each (take i ones) held) low is refl

-- a need of a file is helped by tokens of that file alone
apart : (fid : Fid) (a b : Kind) (h : Held) → same_key (file_key h.token.fid) (file_key fid) ≡ false →
    helps_cover (record { fid = fid; kind = a }) h.token ≡ helps_cover (record { fid = fid; kind = b }) h.token
apart fid a b h e = (λ i. e i && helps h.token.kind a) ∙ sym (λ i. e i && helps h.token.kind b)

here : (fid : Fid) (a b : Kind) (h : Held) → helps h.token.kind a ≡ helps h.token.kind b →
    helps_cover (record { fid = fid; kind = a }) h.token ≡ helps_cover (record { fid = fid; kind = b }) h.token
here fid a b h e = ap (λ (c : Bool). same_fid h.token.fid fid && c) e

pub alike_held : (fid : Fid) (a b : Kind) (held : List Held) →
    AreAlikeFor a b (tokens_of (of_key (file_key fid) held)) →
    AreAlike (record { fid = fid; kind = a }) (record { fid = fid; kind = b }) held
alike_held fid a b [] all = All-nil _
alike_held fid a b (h ∷ held) all =
    let P : Held → Type 0 = λ x.
    helps_cover (record { fid = fid; kind = a }) x.token ≡ helps_cover (record { fid = fid; kind = b }) x.token in
    (elim (same_key (file_key h.token.fid) (file_key fid)) as (λ c.
    same_key (file_key h.token.fid) (file_key fid) ≡ c →
    AreAlikeFor a b (tokens_of (cond c (h ∷ of_key (file_key fid) held) (of_key (file_key fid) held))) →
    All P (h ∷ held)) [
      | true ↦ λ e own.
          let Q : Token → Type 0 = λ t. helps t.kind a ≡ helps t.kind b in
          let rest = tokens_of (of_key (file_key fid) held) in
          All-cons P h held (here fid a b h (All-head Q h.token rest own))
          (alike_held fid a b held (All-tail Q h.token rest own))
      | false ↦ λ e own. All-cons P h held (apart fid a b h e) (alike_held fid a b held own)
    ]) refl all

number_is : (a b : ℕ) → (a == b) ≡ true → a ≡ b
number_is a b h = grind (arith, common_steps, h)

-- one fid for two
pub one_fid : (a b : Fid) →
    true ≡ ((a.fileset.0 == b.fileset.0) && ((a.anode == b.anode) && (a.unique == b.unique))) → a ≡ b
one_fid a b h =
    let first = and_parts (a.fileset.0 == b.fileset.0) ((a.anode == b.anode) && (a.unique == b.unique)) (sym h) in
    let second = and_parts (a.anode == b.anode) (a.unique == b.unique) first.1 in
    let f = number_is a.fileset.0 b.fileset.0 first.0 in
    let n = number_is a.anode b.anode second.0 in
    let u = number_is a.unique b.unique second.1 in
    λ i. record { fileset = record { 0 = f i }; anode = n i; unique = u i }
