-- The laws of labels in use.
use Rattle.std.proofs.Common.{◌≡◌, ℕ, Bool, true, false, not, cond, ◌&&◌, ◌==◌, List, [], ◌∷◌, ◌++◌, Some, None, refl, ap, ◌∙◌, arith}
use Rattle.std.specs.Bool.{beq}
use Rattle.std.specs.List.{find, filter}
use Rattle.std.proofs.lemmas.Bool.{cases_Bool}
use Rattle.std.proofs.lemmas.Grind.{common_steps}
use Rattle.std.proofs.lemmas.Map.Views.{any-filter_same}
use Rattle.base_types.specs.Name.{same_name}
use Rattle.token_types.specs.declared.token.Token.{Token}
use Rattle.token_types.specs.declared.token.TokenId.{TokenId}
use Rattle.token_types.specs.Conflicts.{same_id}
use Rattle.host_labels.specs.declared.uses.Labelled.{Labelled}
use Rattle.host_labels.specs.Labels.{InUse, is_lock, is_labelled, use_of, has_id, without_label}
use Rattle.host_labels.specs.UseLaws.{TakenFor, Taken, Dropped}
use Rattle.host_labels.proofs.Staying.{same_names, same_modes}

name_itself : (a : List ℕ) → same_name a a ≡ true
name_itself [] = refl
name_itself (x ∷ xs) = grind (arith, common_steps, name_itself xs)

-- what is found with one more at the end
found_last : {X : Type 0} (p : X → Bool) (xs : List X) (x : X) → find p xs ≡ None → p x ≡ true →
    find p (xs ++ x ∷ []) ≡ Some x
found_last p [] x none h = grind (arith, h)
found_last p (y ∷ ys) x none h = grind (arith, cases_Bool (p y), found_last p ys x, none, h)

found_before : {X : Type 0} (p : X → Bool) (xs : List X) (x : X) → p x ≡ false → find p (xs ++ x ∷ []) ≡ find p xs
found_before p [] x h = grind (arith, h)
found_before p (y ∷ ys) x h = grind (arith, cases_Bool (p y), found_before p ys x, h)

-- what is found where some are gone
none_left : {X : Type 0} (p : X → Bool) (xs : List X) → find p (filter (λ x. not (p x)) xs) ≡ None
none_left p [] = refl
none_left p (x ∷ xs) = grind (arith, cases_Bool (p x), none_left p xs)

others_left : {X : Type 0} (p q : X → Bool) → ((x : X) → p x ≡ true → q x ≡ false) → (xs : List X) →
    find q (filter (λ x. not (p x)) xs) ≡ find q xs
others_left p q apart [] = refl
others_left p q apart (x ∷ xs) =
    let rest = others_left p q apart xs in
    elim (p x) as (λ t. p x ≡ t → find q (cond (not t) (x ∷ filter (λ x. not (p x)) xs) (filter (λ x. not (p x)) xs))
    ≡ find q (x ∷ xs)) [
      | true ↦ λ e. let other = apart x e in grind (arith, common_steps, rest, other)
      | false ↦ λ e. ap (λ o. cond (q x) (Some x) o) rest
    ] refl

taken_for : (lock : Bool) (uses : InUse) (label : List ℕ) (token : Token) → is_lock token.kind ≡ lock →
    use_of uses lock label ≡ None → TakenFor lock uses label token
taken_for lock uses label token kind none =
    let used : Labelled = record { label = label; token = token } in
    let itself = name_itself label in
    let passes : is_labelled lock label used ≡ true =
    ap (λ b. beq b lock && same_name label label) kind ∙ ap (λ b. beq lock lock && b) itself ∙ same_mode lock in
    record {
      there = found_last (is_labelled lock label) uses.labels used none passes;
      others = λ other name apart. found_before (is_labelled other name) uses.labels used
          (ap (λ b. beq b other && same_name label name) kind ∙ apart);
      pins = λ id. refl;
    }
  where
    same_mode : (b : Bool) → (beq b b && true) ≡ true
    same_mode true = refl
    same_mode false = refl

pub taken : Taken
taken uses label id host fid = (
  (λ writing span none. taken_for true uses label _ refl none),
  (λ kind none. taken_for false uses label _ refl none),
)

-- what has one label has no other
apart_of : (lock other : Bool) (label name : List ℕ) → (beq lock other && same_name label name) ≡ false →
    (used : Labelled) → is_labelled lock label used ≡ true → is_labelled other name used ≡ false
apart_of lock other label name apart used h =
    let mode : is_lock used.token.kind ≡ lock =
    same_modes (is_lock used.token.kind) lock (grind (arith, common_steps, h)) in
    let named : used.label ≡ label = same_names used.label label (grind (arith, common_steps, h)) in
    ap (λ b. beq b other && same_name used.label name) mode ∙ ap (λ n. beq lock other && same_name n name) named ∙ apart

same_means : (a b c x y z : ℕ) → (((a == b) && (c == x)) && (y == z)) ≡ true → (a ≡ b) × (c ≡ x) × (y ≡ z)
same_means a b c x y z h =
    (grind (arith, common_steps, h), grind (arith, common_steps, h), grind (arith, common_steps, h))

one_id : (a b : TokenId) → same_id a b ≡ true → a ≡ b
one_id a b h =
    let p = same_means a.server.0 b.server.0 a.epoch b.epoch a.seq b.seq h in
    λ i. record { server = record { 0 = p.0 i }; epoch = p.1 i; seq = p.2 i }

pub dropped : Dropped
dropped uses lock label =
    let labels = without_label lock label uses.labels in
    record {
      gone = none_left (is_labelled lock label) uses.labels;
      others = λ other name apart. others_left (is_labelled lock label) (is_labelled other name)
          (apart_of lock other label name apart) uses.labels;
      pins = λ id. any-filter_same (λ other. same_id other id) (has_id labels) (has_id labels id)
          (λ other same. ap (has_id labels) (one_id other id same)) uses.pinned;
    }
