-- Labels in use stay sound.
use Rattle.std.proofs.Common.{◌≡◌, ℕ, ◌+◌, ◌≤◌, Bool, true, false, not, cond, IsTrue, List, [], ◌∷◌, ◌++◌, length, All, None, refl, sym, ap, subst, ◌∙◌, arith, rules}
use Rattle.std.specs.Bool.{beq}
use Rattle.std.specs.List.{find, filter, list_any}
use Rattle.std.proofs.lemmas.Bool.{cases_Bool}
use Rattle.std.proofs.lemmas.List.Elements.{All-head, All-tail, All-weaker, filter_passes}
use Rattle.std.proofs.lemmas.Grind.{common_steps}
use Rattle.base_types.specs.Name.{same_name}
use Rattle.token_types.specs.declared.token.Token.{Token}
use Rattle.token_types.specs.declared.token.TokenId.{TokenId}
use Rattle.token_types.specs.Conflicts.{same_id}
use Rattle.host_labels.specs.declared.uses.Labelled.{Labelled}
use Rattle.host_labels.specs.Labels.{InUse, is_lock, is_labelled, use_of, has_id, without_label}
use Rattle.host_labels.specs.Labels.{after_take, after_drop, IsOnce, IsSound}

pub same_names : (a b : List ℕ) → same_name a b ≡ true → a ≡ b
same_names [] [] h = refl
same_names [] (y ∷ ys) h = absurd (search (rules, h))
same_names (x ∷ xs) [] h = absurd (search (rules, h))
same_names (x ∷ xs) (y ∷ ys) h = grind (arith, common_steps, same_names xs ys)

pub same_modes : (a b : Bool) → beq a b ≡ true → a ≡ b
same_modes true true h = refl
same_modes true false h = absurd (search (rules, h))
same_modes false true h = absurd (search (rules, h))
same_modes false false h = refl

-- nothing is found where nothing passes
pub none_passes : {X : Type 0} (p : X → Bool) (xs : List X) → find p xs ≡ None → length (filter p xs) ≡ 0
none_passes p [] h = refl
none_passes p (x ∷ xs) h = grind (arith, cases_Bool (p x), none_passes p xs)

-- how many pass with one more
pub one_more : {X : Type 0} (p : X → Bool) (xs : List X) (x : X) →
    length (filter p (xs ++ x ∷ [])) ≡ length (filter p xs) + cond (p x) 1 0
one_more p [] x = grind (arith, cases_Bool (p x))
one_more p (y ∷ ys) x = grind (arith, cases_Bool (p y), one_more p ys x)

pub once_taken : (labels : List Labelled) (label : List ℕ) (token : Token) →
    find (is_labelled (is_lock token.kind) label) labels ≡ None → IsOnce labels →
    IsOnce (labels ++ record { label = label; token = token } ∷ [])
once_taken labels label token none once lock name =
    let new : Labelled = record { label = label; token = token } in
    let count = one_more (is_labelled lock name) labels new in
    elim (is_labelled lock name new) as
    (λ t. is_labelled lock name new ≡ t → length (filter (is_labelled lock name) (labels ++ new ∷ [])) ≤ 1) [
      | true ↦ λ e.
          let modes : is_lock token.kind ≡ lock =
          same_modes (is_lock token.kind) lock (grind (arith, common_steps, e)) in
          let names : label ≡ name = same_names label name (grind (arith, common_steps, e)) in
          let nothing : find (is_labelled lock name) labels ≡ None =
          subst (λ n. find (is_labelled lock n) labels ≡ None) names
          (subst (λ l. find (is_labelled l label) labels ≡ None) modes none) in
          let zero_of = none_passes (is_labelled lock name) labels nothing in
          grind (arith, count, zero_of, e)
      | false ↦ λ e. let few = once lock name in grind (arith, count, few, e)
    ] refl

-- fewer are left of fewer
pub fewer : {X : Type 0} (p q : X → Bool) (xs : List X) → length (filter p (filter q xs)) ≤ length (filter p xs)
fewer p q [] = omega arith
fewer p q (x ∷ xs) = grind (arith, cases_Bool (p x), cases_Bool (q x), fewer p q xs)

pub any_more : {X : Type 0} (p : X → Bool) (xs ys : List X) → IsTrue (list_any p xs) → IsTrue (list_any p (xs ++ ys))
any_more p [] ys h = absurd (search (rules, h))
any_more p (x ∷ xs) ys h = grind (arith, cases_Bool (p x), any_more p xs ys)

pub sound_taken : (uses : InUse) (label : List ℕ) (token : Token) →
    use_of uses (is_lock token.kind) label ≡ None → IsSound uses → IsSound (after_take uses label token)
sound_taken uses label token none sound =
    record {
      once = once_taken uses.labels label token none sound.once;
      pins =
          All-weaker (λ id. IsTrue (has_id uses.labels id))
          (λ id. IsTrue (has_id (after_take uses label token).labels id))
          (λ id h. any_more (λ used. same_id used.token.id id) uses.labels
          (record { label = label; token = token } ∷ []) h)
          uses.pinned sound.pins;
    }

is_kept : (b : Bool) → b ≡ true → IsTrue b
is_kept b h = grind (arith, common_steps, h)

pub sound_dropped : (uses : InUse) (lock : Bool) (label : List ℕ) → IsSound uses → IsSound (after_drop uses lock label)
sound_dropped uses lock label sound =
    let labels = without_label lock label uses.labels in
    record {
      once = λ other name.
          let fewer' = fewer (is_labelled other name) (λ used. not (is_labelled lock label used)) uses.labels in
          let once = sound.once other name in
          omega (arith, fewer', once);
      pins =
          All-weaker (λ id. has_id labels id ≡ true) (λ id. IsTrue (has_id labels id))
          (λ id h. is_kept (has_id labels id) h)
          (filter (has_id labels) uses.pinned) (filter_passes (has_id labels) uses.pinned);
    }

-- where all pass, all stay
pub all_pass : {X : Type 0} (p : X → Bool) (xs : List X) → All (λ x. IsTrue (p x)) xs → filter p xs ≡ xs
all_pass p [] h = refl
all_pass p (x ∷ xs) h =
    let first : IsTrue (p x) = All-head (λ x. IsTrue (p x)) x xs h in
    let rest = all_pass p xs (All-tail (λ x. IsTrue (p x)) x xs h) in
    grind (arith, common_steps, cases_Bool (p x), first, rest)

pub nothing_dropped : (uses : InUse) (lock : Bool) (label : List ℕ) → IsSound uses →
    without_label lock label uses.labels ≡ uses.labels → uses ≡ after_drop uses lock label
nothing_dropped uses lock label sound same =
    let stays : filter (has_id (without_label lock label uses.labels)) uses.pinned ≡ uses.pinned =
    ap (λ labels. filter (has_id labels) uses.pinned) same ∙ all_pass (has_id uses.labels) uses.pinned sound.pins in
    let pins = filter (has_id (without_label lock label uses.labels)) uses.pinned in
    sym (ap (λ labels. record { labels = labels; pinned = pins }) same
    ∙ ap (λ pinned. record { labels = uses.labels; pinned = pinned }) stays)

pub view_dropped : (uses : InUse) (lock : Bool) (label : List ℕ) (labels : List Labelled) (pinned : List TokenId) →
    labels ≡ without_label lock label uses.labels → pinned ≡ filter (has_id labels) uses.pinned →
    let left : InUse = record { labels = labels; pinned = pinned } in left ≡ after_drop uses lock label
view_dropped uses lock label labels pinned e k =
    let pins = k ∙ ap (λ ls. filter (has_id ls) uses.pinned) e in
    let one : InUse = record { labels = labels; pinned = pinned } in
    let two : InUse = record { labels = without_label lock label uses.labels; pinned = pinned } in
    let first : one ≡ two = ap (λ ls. record { labels = ls; pinned = pinned }) e in
    first ∙ ap (λ ps. record { labels = without_label lock label uses.labels; pinned = ps }) pins
